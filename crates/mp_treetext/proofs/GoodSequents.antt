-- A sequent without static faults is good.
use Rattle.std.proofs.Common.{◌≡◌, ℕ, suc, ◌+◌, ◌≤◌, ◌++◌, List, [], ◌∷◌, sum_by, length, length-append, true, false, nat_lt, nat_le, refl, ap, sym, subst, ◌∙◌, arith}
use Rattle.std.specs.List.{list_all}
use Rattle.std.proofs.lemmas.Bool.{and_from}
use Rattle.std.proofs.lemmas.Bool.Decides.{nat_tests}
use Rattle.std.proofs.lemmas.List.Sums.{sum_by-cons}
use Rattle.mp_logic.specs.declared.sym.Sym.{Sym}
use Rattle.mp_term.specs.declared.term.Term.{Term}
use Rattle.mp_term.specs.Terms.{size_of, depth_of, in_scope_of}
use Rattle.mp_term.specs.Limits.{few_binders_of, in_scopes_from, is_shallow, sequent_size_of}
use Rattle.mp_theory.specs.Allowed.{is_good}
use Rattle.mp_termtext.specs.declared.raw.RawTerm.{RawTerm}
use Rattle.mp_termtext.specs.declared.raw.RawHyp.{RawHyp}
use Rattle.mp_termtext.specs.declared.raw.RawSequent.{RawSequent}
use Rattle.mp_words.specs.declared.fail.TextWhy.TheVariants as why
use Rattle.mp_words.specs.Faults.{fault_if, too_many}
use Rattle.mp_termtext.specs.Statics.{faults_of, hyp_names, hyps_faults, raw_sequent_size_of, raw_size_of, sequent_faults}
use Rattle.mp_termtext.specs.Values.{hyps_value, sequent_value, value_of}
use Rattle.mp_words.proofs.NoFaults.{nil_parts, no_fault}
use Rattle.mp_termtext.proofs.Faultless.{sequent_faultless, length-hyp_names}
use Rattle.mp_steptext.proofs.GoodTerms.{Fits, term_fits}

no_more : (m n : ℕ) → nat_lt n m ≡ false → m ≤ n
no_more m n h = grind (arith, nat_tests, h)

le_true : (m n : ℕ) → m ≤ n → nat_le m n ≡ true
le_true m n h = grind (arith, nat_tests, h)

shallow : (t : Term) (scope n : ℕ) → Fits t scope 1 n → is_shallow t ≡ true
shallow t scope n f = let d = f.depth in le_true (depth_of t) 200 (omega (arith, d))

-- a term without free names fits the scope of the names that are bound
closed_fits : (t : RawTerm) (env : List Sym) → faults_of 0 t env 1 ≡ [] → Fits (value_of 0 t env) (length env) 1 (raw_size_of t)
closed_fits t env h =
    let none : 0 + length env ≡ length env = omega arith in
    subst (λ scope. Fits (value_of 0 t env) scope 1 (raw_size_of t)) none (term_fits 0 t env 1 h)

-- hypotheses in scopes from this one on, of this size together
record HypsFit (ts : List Term) (scope n : ℕ) : Type 0 where
  scoped : in_scopes_from scope ts ≡ true
  few : list_all few_binders_of ts ≡ true
  shallow : list_all is_shallow ts ≡ true
  size : sum_by size_of ts ≡ n

hyps_fit : (hs : List RawHyp) (env : List Sym) → hyps_faults hs env ≡ [] → HypsFit (hyps_value hs env) (length env) (sum_by (λ h. raw_size_of h.term) hs)
hyps_fit [] env h = record { scoped = refl; few = refl; shallow = refl; size = refl }
hyps_fit (h ∷ hs) env f =
    let both = nil_parts (faults_of 0 h.term env 1) (hyps_faults hs (env ++ h.name ∷ [])) f in
    let here = closed_fits h.term env both.0 in
    let rest = hyps_fit hs (env ++ h.name ∷ []) both.1 in
    let next : length (env ++ h.name ∷ []) ≡ length env + 1 = length-append env (h.name ∷ []) in
    let t = value_of 0 h.term env in
    record {
      scoped = and_from _ _ here.scoped (ap (λ n. in_scopes_from n (hyps_value hs (env ++ h.name ∷ []))) (sym next) ∙ rest.scoped);
      few = and_from _ _ here.few rest.few;
      shallow = and_from _ _ (shallow t (length env) (raw_size_of h.term) here) rest.shallow;
      size = sum_by-cons size_of t (hyps_value hs (env ++ h.name ∷ [])) ∙ (λ i. here.size i + rest.size i) ∙ sym (sum_by-cons (λ h. raw_size_of h.term) h hs);
    }

length-hyps_value : (hs : List RawHyp) (env : List Sym) → length (hyps_value hs env) ≡ length hs
length-hyps_value [] env = refl
length-hyps_value (h ∷ hs) env = ap (λ n. suc n) (length-hyps_value hs (env ++ h.name ∷ []))

-- what stands for a sequent without faults is good
pub sequent_good : (s : RawSequent) → sequent_faults s ≡ [] → is_good (sequent_value s) ≡ true
sequent_good s h =
    let parts = sequent_faultless s h in
    let few = parts.0 in
    let hyps = hyps_fit s.hyps [] parts.1 in
    let concl = closed_fits s.concl (hyp_names s.hyps) parts.2 in
    let before = too_many (λ h. h.at) 200 s.hyps ++ hyps_faults s.hyps [] ++ faults_of 0 s.concl (hyp_names s.hyps) 1 in
    let big = (nil_parts before (fault_if (nat_lt 20000 (raw_sequent_size_of s)) s.at why.TooBig) h).1 in
    let small = no_more (raw_sequent_size_of s) 20000 (no_fault (nat_lt 20000 (raw_sequent_size_of s)) s.at why.TooBig big) in
    let count : length (hyps_value s.hyps []) ≡ length s.hyps = length-hyps_value s.hyps [] in
    let size : sequent_size_of (sequent_value s) ≡ raw_sequent_size_of s = (λ i. hyps.size i + concl.size i) in
    let scope : length (hyp_names s.hyps) ≡ length (hyps_value s.hyps []) = length-hyp_names s.hyps ∙ sym count in
    let scoped = and_from _ _ hyps.scoped (ap (in_scope_of (sequent_value s).concl) (sym scope) ∙ concl.scoped) in
    let binders = and_from _ _ hyps.few concl.few in
    let many = le_true (length (hyps_value s.hyps [])) 200 (omega (arith, few, count)) in
    let nodes = le_true (sequent_size_of (sequent_value s)) 20000 (omega (arith, small, size)) in
    let deep = shallow (sequent_value s).concl _ _ concl in
    and_from _ _ (and_from _ _ scoped binders) (and_from _ _ (and_from _ _ (and_from _ _ many hyps.shallow) deep) nodes)
