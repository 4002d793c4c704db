-- What follows where no static rule is broken: few binders, small levels, and the same for the parts.
use Rattle.std.proofs.Common.{◌≡◌, ◌++◌, ◌+◌, ◌<◌, ◌≤◌, ◌^◌, ℕ, zero, suc, List, [], ◌∷◌, Option, None, Some, Bool, true, false, nat_lt, nat_eq, if◌then◌else◌, length, length-append, map, drop, get_or, refl, ap, sym, subst, ◌∙◌, arith}
use Rattle.std.specs.Prelude.{unwrap_or}
use Rattle.std.proofs.lemmas.Bool.Decides.{nat_tests}
use Rattle.mp_logic.specs.declared.sym.Sym.{Sym}
use Rattle.mp_words.specs.declared.raw.RawName.{RawName}
use Rattle.mp_termtext.specs.declared.raw.RawParam.{RawParam}
use Rattle.mp_termtext.specs.declared.raw.RawBound.{RawBound}
use Rattle.mp_termtext.specs.declared.raw.RawTerm.{RawTerm, Var, Op}
use Rattle.mp_termtext.specs.declared.raw.RawHyp.{RawHyp}
use Rattle.mp_termtext.specs.declared.raw.RawSequent.{RawSequent}
use Rattle.mp_words.specs.declared.fail.TextWhy.TheVariants as why
use Rattle.mp_words.specs.Faults.{fault_if, too_many}
use Rattle.mp_termtext.specs.Statics.{bound_faults_of, deep, each_faults, faults_of, free_level, hyp_names, hyps_faults, at_of, level_by, level_of, names_of, or_here, place_in, raw_sequent_size_of, raw_size_of, sequent_faults, term_faults, unless_bound}
use Rattle.mp_termtext.specs.Values.{AreFaultless, IsFaultless, IsFaultlessBound}
use Rattle.mp_words.proofs.NoFaults.{nil_parts, no_fault, not_many}
use Rattle.mp_words.proofs.Walks.{left_cons}
use Rattle.mp_termtext.proofs.RawLayers.{faults-Var, faults-Op, bound_faults-is}

pub not_deep : (d l : ℕ) → deep d l ≡ [] → d ≤ 200
not_deep d l h = let e = no_fault (nat_lt 200 d) l why.TooDeep h in grind (arith, nat_tests, e)

or_here_below : (o : Option ℕ) (here : Bool) (n i : ℕ) → ((j : ℕ) → o ≡ Some j → j < n) → or_here o here ≡ Some i → i < suc n
or_here_below (Some j) here n i h e = let lt = h j refl in let q : 1 + j ≡ i = cc in omega (arith, lt, q)
or_here_below None true n i h e = let q : 0 ≡ i = cc in omega (arith, q)
or_here_below None false n i h e = absurd cc

-- a place is one of the list's
pub place_below : (ns : List Sym) (name : Sym) (i : ℕ) → place_in ns name ≡ Some i → i < length ns
place_below [] name i h = absurd cc
place_below (n ∷ ns) name i h = or_here_below (place_in ns name) (nat_eq n.0 name.0) (length ns) i (λ j e. place_below ns name j e) h

free_below : (free : ℕ) (k : Option ℕ) → unwrap_or (free_level free k) 0 ≤ free
free_below free None = omega arith
free_below free (Some zero) = omega arith
free_below free (Some (suc level)) = by (nat_lt level free) refl
  where
    by : (b : Bool) → nat_lt level free ≡ b → unwrap_or (if b then Some level else None) 0 ≤ free
    by true e = grind (arith, nat_tests, e)
    by false e = omega arith

by_below : (free n : ℕ) (o k : Option ℕ) → ((i : ℕ) → o ≡ Some i → i < n) → unwrap_or (level_by free o k) 0 ≤ free + n
by_below free n None k h = let e = free_below free k in omega (arith, e)
by_below free n (Some i) k h = let e = h i refl in omega (arith, e)

-- a level is below the number of names that are free or bound, or 0
pub level_small : (free : ℕ) (env : List Sym) (name : Sym) (k : Option ℕ) → unwrap_or (level_of free env name k) 0 ≤ free + length env
level_small free env name k = by_below free (length env) (place_in env name) k (place_below env name)

-- the level of a variable fits 32 bits
pub level_fits : (free : ℕ) (t : RawTerm) (n : Sym) (k : Option ℕ) (l : ℕ) (env : List Sym) → t ≡ Var n k l → free < 2 ^ 31 → IsFaultless free t env → unwrap_or (level_of free env n k) 0 < 2 ^ 32
level_fits free t n k l env e lt h =
    let f : deep h.0 l ++ unless_bound l (level_of free env n k) ≡ [] = sym (ap (λ r. faults_of free r env h.0) e ∙ faults-Var free n k l env h.0) ∙ h.1 in
    let d = not_deep h.0 l (nil_parts (deep h.0 l) (unless_bound l (level_of free env n k)) f).0 in
    let small = level_small free env n k in
    let long = h.2 in
    omega (arith, d, small, long, lt)

-- the subterms of a term without faults have none
pub subs_faultless : (free : ℕ) (t : RawTerm) (n : Sym) (ps : List RawParam) (ks : List RawBound) (l : ℕ) (env : List Sym) → t ≡ Op n ps ks l → IsFaultless free t env → AreFaultless free ks env
subs_faultless free t n ps ks l env e h =
    let subs = each_faults (map (bound_faults_of free) ks) env (h.0 + 1) in
    let f : deep h.0 l ++ too_many (λ p. p.at) 16 ps ++ subs ≡ [] = sym (ap (λ r. faults_of free r env h.0) e ∙ faults-Op free n ps ks l env h.0) ∙ h.1 in
    let long = h.2 in
    (h.0 + 1, (nil_parts (deep h.0 l ++ too_many (λ p. p.at) 16 ps) subs f).1, omega (arith, long))

-- the first of some subterms, and the rest of them
pub first_faultless : (free : ℕ) (ks : List RawBound) (i : ℕ) (k : RawBound) (env now : List Sym) → i < length ks → k ≡ get_or ks i k → now ≡ env → AreFaultless free (drop i ks) env
    → IsFaultlessBound free k now × AreFaultless free (drop (i + 1) ks) env
first_faultless free ks i k env now lt is same h =
    let rest = drop (i + 1) ks in
    let all = ap (λ ss. each_faults (map (bound_faults_of free) ss) env h.0) (sym (left_cons ks i k lt is)) ∙ h.1 in
    let both = nil_parts (bound_faults_of free k env h.0) (each_faults (map (bound_faults_of free) rest) env h.0) all in
    let here : IsFaultlessBound free k env = (h.0, both.0, h.2) in
    (subst (IsFaultlessBound free k) (sym same) here, (h.0, both.1, h.2))

-- a subterm has few binders, and a body without faults
pub body_faultless : (free : ℕ) (k : RawBound) (env now : List Sym) → now ≡ env ++ names_of k.binders → IsFaultlessBound free k env → IsFaultless free k.body now × (length k.binders ≤ 8)
body_faultless free k env now e h =
    let both = nil_parts (too_many (λ b. b.at) 8 k.binders) (faults_of free k.body (env ++ names_of k.binders) h.0) (sym (bound_faults-is free k env h.0) ∙ h.1) in
    let few = not_many (λ b. b.at) 8 k.binders both.0 in
    let len : length (env ++ names_of k.binders) ≡ length env + length (names_of k.binders) = length-append env (names_of k.binders) in
    let names : length (names_of k.binders) ≡ length k.binders = length_names k.binders in
    let long = h.2 in
    let inner : IsFaultless free k.body (env ++ names_of k.binders) = (h.0, both.1, omega (arith, few, len, names, long)) in
    (subst (IsFaultless free k.body) (sym e) inner, few)
  where
    length_names : (bs : List RawName) → length (names_of bs) ≡ length bs
    length_names [] = refl
    length_names (b ∷ bs) = ap (λ n. suc n) (length_names bs)

-- a term that is all of a text without faults
pub whole_faultless : (free : ℕ) (t : RawTerm) (env : List Sym) → env ≡ [] → term_faults free t ≡ [] → IsFaultless free t env
whole_faultless free t env e h =
    let f = (nil_parts (faults_of free t [] 1) (fault_if (nat_lt 20000 (raw_size_of t)) (at_of t) why.TooBig) h).0 in
    let one : length env ≡ 0 = ap length e in
    (1, ap (λ ns. faults_of free t ns 1) e ∙ f, omega (arith, one))

-- the first of some hypotheses, and the rest of them
pub first_hyp_faultless : (hs : List RawHyp) (i : ℕ) (h : RawHyp) (env : List Sym) → i < length hs → h ≡ get_or hs i h → hyps_faults (drop i hs) env ≡ []
    → (faults_of 0 h.term env 1 ≡ []) × (hyps_faults (drop (i + 1) hs) (env ++ h.name ∷ []) ≡ [])
first_hyp_faultless hs i h env lt is f =
    nil_parts (faults_of 0 h.term env 1) (hyps_faults (drop (i + 1) hs) (env ++ h.name ∷ [])) (ap (λ ss. hyps_faults ss env) (sym (left_cons hs i h lt is)) ∙ f)

-- the parts of a sequent without faults: few hypotheses, and terms without faults
pub sequent_faultless : (s : RawSequent) → sequent_faults s ≡ [] → (length s.hyps ≤ 200) × (hyps_faults s.hyps [] ≡ []) × (faults_of 0 s.concl (hyp_names s.hyps) 1 ≡ [])
sequent_faultless s h =
    let m = too_many (λ h. h.at) 200 s.hyps in
    let hs = hyps_faults s.hyps [] in
    let cs = faults_of 0 s.concl (hyp_names s.hyps) 1 in
    let a = nil_parts ((m ++ hs) ++ cs) (fault_if (nat_lt 20000 (raw_sequent_size_of s)) s.at why.TooBig) h in
    let b = nil_parts (m ++ hs) cs a.0 in
    let c = nil_parts m hs b.0 in
    (not_many (λ h. h.at) 200 s.hyps c.0, c.1, b.1)

pub length-hyp_names : (hs : List RawHyp) → length (hyp_names hs) ≡ length hs
length-hyp_names [] = refl
length-hyp_names (h ∷ hs) = ap (λ n. suc n) (length-hyp_names hs)

pub concl_faultless : (s : RawSequent) (env : List Sym) → env ≡ hyp_names s.hyps → sequent_faults s ≡ [] → IsFaultless 0 s.concl env
concl_faultless s env e h =
    let parts = sequent_faultless s h in
    let few = parts.0 in
    let len : length env ≡ length s.hyps = ap length e ∙ length-hyp_names s.hyps in
    (1, ap (λ ns. faults_of 0 s.concl ns 1) e ∙ parts.2, omega (arith, few, len))
