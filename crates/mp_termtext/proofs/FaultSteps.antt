-- The least fault so far goes on from one part to the next.
use Rattle.std.proofs.Common.{◌≡◌, ◌++◌, ◌+◌, ◌<◌, ℕ, List, [], ◌∷◌, Option, refl, ap, sym, ◌∙◌, append_assoc, map, min, drop, length, get_or, nat_lt, arith}
use Rattle.mp_logic.specs.declared.sym.Sym.{Sym}
use Rattle.mp_logic.specs.Trees.{counted}
use Rattle.mp_termtext.specs.declared.raw.RawHyp.{RawHyp}
use Rattle.mp_termtext.specs.declared.raw.RawSequent.{RawSequent}
use Rattle.mp_words.specs.declared.fail.TextWhy.TheVariants as why
use Rattle.mp_words.specs.declared.fail.TextErr.{TextErr}
use Rattle.mp_words.specs.Faults.{fault_if, least_from, too_many}
use Rattle.mp_termtext.specs.Statics.{Checked, each_faults, faults_of, hyp_names, hyps_faults, raw_sequent_size_of, sequent_faults}
use Rattle.mp_words.proofs.FaultParts.{two_parts, four_parts}
use Rattle.mp_words.proofs.Walks.{left_cons}

-- one item more, where all of them are in the scope of the same names
pub each_next : {X : Type 0} (f : X → Checked) (xs : List X) (i : ℕ) (x : X) (env now : List Sym) (d : ℕ) (held next whole : Option TextErr) → i < length xs → x ≡ get_or xs i x → now ≡ env
    → next ≡ least_from held (f x now d) → least_from held (each_faults (map f (drop i xs)) env d) ≡ whole → least_from next (each_faults (map f (drop (i + 1) xs)) env d) ≡ whole
each_next f xs i x env now d held next whole lt is same found prev =
    let rest = each_faults (map f (drop (i + 1) xs)) env d in
    two_parts held next (least_from next rest) (f x env d) rest (found ∙ ap (λ v. least_from held (f x v d)) same) refl
    ∙ ap (λ ys. least_from held (each_faults (map f ys) env d)) (sym (left_cons xs i x lt is)) ∙ prev

-- one hypothesis more
pub hyps_next : (hyps : List RawHyp) (i : ℕ) (hyp : RawHyp) (env now after : List Sym) (held next whole : Option TextErr)
    → i < length hyps → hyp ≡ get_or hyps i hyp → now ≡ env → after ≡ now ++ hyp.name ∷ [] → next ≡ least_from held (faults_of 0 hyp.term env 1)
    → least_from held (hyps_faults (drop i hyps) env) ≡ whole → least_from next (hyps_faults (drop (i + 1) hyps) after) ≡ whole
hyps_next hyps i hyp env now after held next whole lt is same grown found prev =
    let rest = drop (i + 1) hyps in
    let names : after ≡ env ++ hyp.name ∷ [] = grown ∙ ap (λ ns. ns ++ hyp.name ∷ []) same in
    let others = hyps_faults rest (env ++ hyp.name ∷ []) in
    ap (λ ns. least_from next (hyps_faults rest ns)) names ∙ two_parts held next (least_from next others) (faults_of 0 hyp.term env 1) others found refl
    ∙ ap (λ hs. least_from held (hyps_faults hs env)) (sym (left_cons hyps i hyp lt is)) ∙ prev

pub names_next : (hyps : List RawHyp) (i : ℕ) (hyp : RawHyp) (before after : List Sym) → i < length hyps → hyp ≡ get_or hyps i hyp → after ≡ before ++ hyp.name ∷ []
    → before ++ hyp_names (drop i hyps) ≡ hyp_names hyps → after ++ hyp_names (drop (i + 1) hyps) ≡ hyp_names hyps
names_next hyps i hyp before after lt is grown prev =
    let rest = hyp_names (drop (i + 1) hyps) in
    ap (λ ns. ns ++ rest) grown ∙ append_assoc before (hyp.name ∷ []) rest ∙ ap (λ hs. before ++ hyp_names hs) (sym (left_cons hyps i hyp lt is)) ∙ prev

-- the faults of a sequent, one part after the other
pub sequent_parts : (held : Option TextErr) (s : RawSequent) (a b c d : Option TextErr) → a ≡ least_from held (too_many (λ h. h.at) 200 s.hyps) → b ≡ least_from a (hyps_faults s.hyps [])
    → c ≡ least_from b (faults_of 0 s.concl (hyp_names s.hyps) 1) → d ≡ least_from c (fault_if (nat_lt 20000 (raw_sequent_size_of s)) s.at why.TooBig) → d ≡ least_from held (sequent_faults s)
sequent_parts held s a b c d =
    four_parts held a b c d (too_many (λ h. h.at) 200 s.hyps) (hyps_faults s.hyps []) (faults_of 0 s.concl (hyp_names s.hyps) 1) (fault_if (nat_lt 20000 (raw_sequent_size_of s)) s.at why.TooBig)

-- a count of two parts, each of which stops at the greatest value
pub counted_both : (a b x y z : ℕ) → x ≡ counted a → y ≡ counted b → z ≡ min (x + y) 18446744073709551615 → counted (a + b) ≡ z
counted_both a b x y z e f g = omega (arith, e, f, g)
