-- Laws without static faults may be added to a theory, one after the other.
use Rattle.std.proofs.Common.{true≢false, ◌≡◌, ℕ, ◌+◌, ◌++◌, List, [], ◌∷◌, map, Bool, true, false, ◌||◌, nat_eq, Option, None, Some, Err, refl, ap, sym, subst, ◌∙◌, arith}
use Rattle.std.specs.Prelude.{if◌then◌else◌}
use Rattle.std.specs.List.{flat_map}
use Rattle.std.proofs.lemmas.Bool.Decides.{nat_tests}
use Rattle.mp_logic.specs.declared.sym.Sym.{Sym}
use Rattle.mp_names.specs.Sets.{is_among}
use Rattle.mp_schema.specs.declared.schema.Schema.{Schema}
use Rattle.mp_schema.specs.declared.fault.SchemaFault.{SchemaFault}
use Rattle.mp_schema.specs.declared.pattern.Pattern.{Pattern}
use Rattle.mp_schema.specs.Faults.{rule_fault_of, rewrite_fault_of}
use Rattle.mp_theory.specs.declared.theory.TheoryErr.{TheoryErr}
use Rattle.mp_theory.specs.Tables.{IsRefusal, IsTheory, Laws, law_count, name_taken, refusal_by, refusal_of, rewrite_refusal_of}
use Rattle.mp_theory.proofs.Laws.{added_rewrites_stand, added_rules_stand, taken_names, theories_grow}
use Rattle.mp_words.specs.declared.fail.TextErr.{TextErr}
use Rattle.mp_words.specs.Faults.{fault_if}
use Rattle.mp_words.specs.Seconds.{second_after}
use Rattle.mp_words.proofs.NoFaults.{nil_parts, no_fault}
use Rattle.mp_schematext.specs.declared.raw.RawRule.{RawRule}
use Rattle.mp_schematext.specs.Statics.{rule_faults}
use Rattle.mp_theorytext.specs.declared.raw.RawRewrite.{RawRewrite}
use Rattle.mp_theorytext.specs.declared.raw.RawLaw.{RawLaw}
use Rattle.mp_theorytext.specs.declared.raw.RawLaw.TheVariants as law
use Rattle.mp_theorytext.specs.Statics.{law_faults, law_name, rewrite_faults, theory_faults}
use Rattle.mp_schematext.specs.Values.{schema_of}
use Rattle.mp_theorytext.specs.Values.{conditions_of, contractum_of, redex_of, with_law, with_laws}
use Rattle.mp_schematext.proofs.RuleTells.{rule_tells}
use Rattle.mp_theorytext.proofs.RewriteTells.{rewrite_tells}
use Rattle.mp_patterntext.proofs.Twice.{or_no, or_parts}
use Rattle.mp_theory.specs.declared.theory.TheoryErr.TheVariants as err
use Rattle.mp_words.specs.declared.fail.TextWhy.TheVariants as why

-- ## Names that are free

-- a name is taken after a law is added if it was, or if it is the law's
taken_by : (t : Laws) (l : RawLaw) (n : Sym) → name_taken (with_law t l) n ≡ (name_taken t n || nat_eq n.0 (law_name l).name.0)
taken_by t (law.Rule r) n = taken_names.1 t r.name.name (map schema_of r.premises) (schema_of r.concl) n
taken_by t (law.Rewrite r) n = taken_names.2 t r.name.name (conditions_of r) (redex_of r) (contractum_of r) n

abbrev taken_faults : Laws → List RawLaw → List TextErr
taken_faults t rs = flat_map (λ (r : RawLaw). fault_if (name_taken t (law_name r).name) (law_name r).at why.Taken) rs

abbrev twice_faults : List Sym → List RawLaw → List TextErr
twice_faults before rs = second_after law_name why.Taken before rs

among_more : (xs ys : List Sym) (n : Sym) → is_among (xs ++ ys) n ≡ (is_among xs n || is_among ys n)
among_more [] ys n = refl
among_more (x ∷ xs) ys n = by (nat_eq x.0 n.0) (among_more xs ys n)
  where
    by : (b : Bool) → is_among (xs ++ ys) n ≡ (is_among xs n || is_among ys n) → (b || is_among (xs ++ ys) n) ≡ ((b || is_among xs n) || is_among ys n)
    by true e = refl
    by false e = e

no_twice : (b : Bool) (at : ℕ) → b ≡ false → fault_if b at why.Taken ≡ []
no_twice b at e = ap (λ c. fault_if c at why.Taken) e

-- fewer names before: no more faults
fewer_before : (before more : List Sym) → ((n : Sym) → is_among more n ≡ false → is_among before n ≡ false) → (rs : List RawLaw) → twice_faults more rs ≡ [] → twice_faults before rs ≡ []
fewer_before before more sub [] h = refl
fewer_before before more sub (r ∷ rs) h =
    let n = (law_name r).name in
    let here = fault_if (is_among more n) (law_name r).at why.Taken in
    let parts = nil_parts here (twice_faults (more ++ n ∷ []) rs) h in
    let free = sub n (no_fault (is_among more n) (law_name r).at why.Taken parts.0) in
    (λ i. no_twice (is_among before n) (law_name r).at free i
    ++ fewer_before (before ++ n ∷ []) (more ++ n ∷ [])
    (λ m e. let p = or_parts (is_among more m) (is_among (n ∷ []) m) (sym (among_more more (n ∷ []) m) ∙ e) in among_more before (n ∷ []) m ∙ or_no (is_among before m) (is_among (n ∷ []) m) (sub m p.0) p.1) rs parts.1 i)

-- after a law's name no other has it
name_free : (t : Laws) (r : RawLaw) (before : List Sym) → is_among before (law_name r).name ≡ true → (rs : List RawLaw) → taken_faults t rs ≡ [] → twice_faults before rs ≡ [] → taken_faults (with_law t r) rs ≡ []
name_free t r before has [] h k = refl
name_free t r before has (x ∷ rs) h k =
    let n = (law_name x).name in
    let one = nil_parts (fault_if (name_taken t n) (law_name x).at why.Taken) (taken_faults t rs) h in
    let two = nil_parts (fault_if (is_among before n) (law_name x).at why.Taken) (twice_faults (before ++ n ∷ []) rs) k in
    let free = no_fault (name_taken t n) (law_name x).at why.Taken one.0 in
    let other = no_fault (is_among before n) (law_name x).at why.Taken two.0 in
    let now : name_taken (with_law t r) n ≡ false = taken_by t r n ∙ or_no (name_taken t n) (nat_eq n.0 (law_name r).name.0) free (apart n other (nat_eq n.0 (law_name r).name.0) refl) in
    (λ i. no_twice (name_taken (with_law t r) n) (law_name x).at now i ++ name_free t r (before ++ n ∷ []) (among_more before (n ∷ []) (law_name r).name ∙ ap (λ b. b || is_among (n ∷ []) (law_name r).name) has) rs one.1 two.1 i)
  where
    apart : (n : Sym) → is_among before n ≡ false → (b : Bool) → nat_eq n.0 (law_name r).name.0 ≡ b → nat_eq n.0 (law_name r).name.0 ≡ false
    apart n e false f = f
    apart n e true f =
        let same : n.0 ≡ (law_name r).name.0 = grind (arith, nat_tests, f) in
        absurd (true≢false (sym has ∙ ap (λ (k : ℕ). is_among before (record { 0 = k })) (sym same) ∙ e))

-- the first of laws that may be added: it has no fault, its name is free, and the others may be added after it
pub first_added : (t : Laws) (r : RawLaw) (rs : List RawLaw) → theory_faults t (r ∷ rs) ≡ [] → (law_faults r ≡ []) × (name_taken t (law_name r).name ≡ false) × (theory_faults (with_law t r) rs ≡ [])
first_added t r rs h =
    let n = (law_name r).name in
    let all = nil_parts (taken_faults t (r ∷ rs) ++ twice_faults [] (r ∷ rs)) (flat_map law_faults (r ∷ rs)) h in
    let names = nil_parts (taken_faults t (r ∷ rs)) (twice_faults [] (r ∷ rs)) all.0 in
    let own = nil_parts (law_faults r) (flat_map law_faults rs) all.1 in
    let free = nil_parts (fault_if (name_taken t n) (law_name r).at why.Taken) (taken_faults t rs) names.0 in
    let itself : nat_eq n.0 n.0 ≡ true = grind (arith, nat_tests) in
    let here : is_among (n ∷ []) n ≡ true = ap (λ b. b || false) itself in (
      own.0,
      no_fault (name_taken t n) (law_name r).at why.Taken free.0,
      (λ i. name_free t r (n ∷ []) here rs free.1 names.1 i ++ fewer_before [] (n ∷ []) (λ m e. refl) rs names.1 i ++ own.1 i),
    )

-- one law more
pub counted : (t after : Laws) (r : RawLaw) → after ≡ with_law t r → law_count after ≡ law_count t + 1
counted t after (law.Rule r) grown = ap law_count grown ∙ (added_rules_stand t r.name.name (map schema_of r.premises) (schema_of r.concl)).0
counted t after (law.Rewrite r) grown = ap law_count grown ∙ (added_rewrites_stand t r.name.name (conditions_of r) (redex_of r) (contractum_of r)).0

-- ## What adding refuses

-- where a name is free and nothing else is found, nothing is refused
not_refused : (b : Bool) (o : Option SchemaFault) (e : TheoryErr) (f : SchemaFault) → b ≡ false → o ≡ None → e ≡ err.Schema f → IsRefusal (if b then Some err.Taken else refusal_by o) (Err e) → ⊥
not_refused b o e f free none is h =
    let refusal : (if b then Some err.Taken else refusal_by o) ≡ None = ap (λ c. if c then Some err.Taken else refusal_by o) free ∙ ap refusal_by none in
    let told : IsRefusal (if b then Some err.Taken else refusal_by o) (Err (err.Schema f)) = subst (λ (x : TheoryErr). IsRefusal (if b then Some err.Taken else refusal_by o) (Err x)) is h in
    let q : None ≡ Some (err.Schema f) = sym refusal ∙ told in
    cc

-- a rule without static faults is refused for no fault
pub no_rule_fault : (r : RawRule) (t : Laws) (premises : List Schema) (concl : Schema) (e : TheoryErr) (f : SchemaFault) → rule_faults r ≡ [] → name_taken t r.name.name ≡ false → premises ≡ map schema_of r.premises → concl ≡ schema_of r.concl → e ≡ err.Schema f
    → IsRefusal (refusal_of t r.name.name premises concl) (Err e) → ⊥
no_rule_fault r t premises concl e f faultless free p c is h =
    not_refused (name_taken t r.name.name) (rule_fault_of premises concl) e f free ((λ i. rule_fault_of (p i) (c i)) ∙ (rule_tells r).kept faultless) is h

-- a rewrite without static faults is refused for no fault
pub no_rewrite_fault : (r : RawRewrite) (t : Laws) (conds : List Pattern) (redex contractum : Pattern) (e : TheoryErr) (f : SchemaFault) → rewrite_faults r ≡ [] → name_taken t r.name.name ≡ false → conds ≡ conditions_of r → redex ≡ redex_of r → contractum ≡ contractum_of r
    → e ≡ err.Schema f → IsRefusal (rewrite_refusal_of t r.name.name conds redex contractum) (Err e) → ⊥
no_rewrite_fault r t conds redex contractum e f faultless free p q c is h =
    not_refused (name_taken t r.name.name) (rewrite_fault_of conds redex contractum) e f free ((λ i. rewrite_fault_of (p i) (q i) (c i)) ∙ (rewrite_tells r).kept faultless) is h

-- ## Theories

one_more : (t : Laws) (l : RawLaw) → IsTheory t → name_taken t (law_name l).name ≡ false → law_faults l ≡ [] → IsTheory (with_law t l)
one_more t (law.Rule r) is free h = theories_grow.1 t r.name.name (map schema_of r.premises) (schema_of r.concl) is free ((rule_tells r).kept h)
one_more t (law.Rewrite r) is free h = theories_grow.2 t r.name.name (conditions_of r) (redex_of r) (contractum_of r) is free ((rewrite_tells r).kept h)

-- what is read onto a theory is a theory
pub still_theory : (t : Laws) (ls : List RawLaw) → IsTheory t → theory_faults t ls ≡ [] → IsTheory (with_laws t ls)
still_theory t [] is h = is
still_theory t (l ∷ ls) is h = let parts = first_added t l ls h in still_theory (with_law t l) ls (one_more t l is parts.1 parts.0) parts.2
