-- Where each variable is in range and each second-order variable is applied to distinct variables, patterns can be matched.
use Rattle.std.proofs.Common.{◌≡◌, ℕ, ◌+◌, List, [], ◌∷◌, map, Bool, true, false, not, nat_lt, nat_eq, Option, Some, None, refl, ap, sym, ◌∙◌, arith}
use Rattle.std.proofs.lemmas.Bool.{and_parts, and_from}
use Rattle.std.proofs.lemmas.Bool.Decides.{nat_tests}
use Rattle.std.proofs.lemmas.List.Folds.{list_all-append}
use Rattle.std.specs.List.{flat_map}
use Rattle.mp_term.specs.Terms.{all_at_scope}
use Rattle.mp_schema.specs.declared.pattern.Pattern.{Pattern}
use Rattle.mp_schema.specs.declared.pattern.PBound.{PBound}
use Rattle.mp_schema.specs.Conditions.{Seen, below, below_bound, seen, seen_bound, all_fine, all_variables, is_level_below, or_zero, all_apart, apart_from, args_fine}
use Rattle.mp_schema.specs.Faults.{are_distinct, has_level, on_variables}
use Rattle.mp_schema.specs.Induction.{OfEachBody, each_pattern}
use Rattle.mp_schema.specs.Occurrences.{Occurrence, variable_level, occurrences_in, occurrences_in_bound}
use Rattle.mp_schema.proofs.Layers.{below-Var, below-Op, below-Meta, below_bound-is, seen-Var, seen-Op, seen-Meta, fine-Var, fine-Op, fine-Meta, fine_bound-is, level_of-Var, level_of-Op, level_of-Meta, occurrences_in-Op, occurrences_in-Meta, occurrences_in_bound-is}

-- ## Levels

pub level-same : (p : Pattern) → (seen p).level ≡ variable_level p
level-same =
    each_pattern (λ p. (seen p).level ≡ variable_level p)
    (λ l. seen-Var l ∙ sym (level_of-Var l))
    (λ o ps subs h. seen-Op o ps subs ∙ sym (level_of-Op o ps subs))
    (λ n cs args h. seen-Meta n cs args ∙ sym (level_of-Meta n cs args))

-- a pattern that is a variable is in range where its level is
pub below-variable : (p : Pattern) (l d : ℕ) → variable_level p ≡ Some l → below p d ≡ nat_lt l d
below-variable =
    each_pattern (λ p. (l d : ℕ) → variable_level p ≡ Some l → below p d ≡ nat_lt l d)
    (λ k l d e. let same : k ≡ l = cc (level_of-Var k) in below-Var k d ∙ ap (λ n. nat_lt n d) same)
    (λ o ps subs h l d e. absurd (cc (level_of-Op o ps subs)))
    (λ n cs args h l d e. absurd (cc (level_of-Meta n cs args)))

-- ## Arguments

apart_from-levels : (x : ℕ) (ls : List (Option ℕ)) → are_distinct ls ≡ true → has_level ls x ≡ false → apart_from x (map or_zero ls) ≡ true
apart_from-levels x [] e other = refl
apart_from-levels x (None ∷ ls) e other = absurd (cc)
apart_from-levels x (Some l ∷ ls) e other =
    let parts = and_parts (not (has_level ls l)) (are_distinct ls) e in
    let differ : not (nat_eq x l) ≡ true = grind (arith, nat_tests) in
    let rest : has_level ls x ≡ false = grind (arith, nat_tests) in
    and_from _ _ differ (apart_from-levels x ls parts.1 rest)

all_apart-levels : (ls : List (Option ℕ)) → are_distinct ls ≡ true → all_apart (map or_zero ls) ≡ true
all_apart-levels [] e = refl
all_apart-levels (None ∷ ls) e = absurd (cc)
all_apart-levels (Some l ∷ ls) e =
    let parts = and_parts (not (has_level ls l)) (are_distinct ls) e in
    let new : has_level ls l ≡ false = grind (arith, nat_tests) in
    and_from _ _ (apart_from-levels l ls parts.1 new) (all_apart-levels ls parts.1)

seen-levels : (args : List Pattern) → map (λ (a : Seen). or_zero a.level) (map seen args) ≡ map or_zero (map variable_level args)
seen-levels [] = refl
seen-levels (a ∷ rest) = ap (λ l. or_zero l ∷ map (λ (b : Seen). or_zero b.level) (map seen rest)) (level-same a) ∙ ap (λ ls. or_zero (variable_level a) ∷ ls) (seen-levels rest)

one_variable : (d : ℕ) (a : Pattern) (l : Option ℕ) (ls : List (Option ℕ)) → variable_level a ≡ l → are_distinct (l ∷ ls) ≡ true → below a d ≡ true →
    is_level_below d (seen a).level ≡ true
one_variable d a None ls e distinct in_range = absurd (cc)
one_variable d a (Some l) ls e distinct in_range = ap (is_level_below d) (level-same a ∙ e) ∙ (sym (below-variable a l d e) ∙ in_range)

rest_distinct : (l : Option ℕ) (ls : List (Option ℕ)) → are_distinct (l ∷ ls) ≡ true → are_distinct ls ≡ true
rest_distinct None ls e = absurd (cc)
rest_distinct (Some l) ls e = (and_parts (not (has_level ls l)) (are_distinct ls) e).1

variables_in_range : (d : ℕ) (args : List Pattern) → are_distinct (map variable_level args) ≡ true → all_at_scope d (map below args) ≡ true →
    all_variables d (map seen args) ≡ true
variables_in_range d [] distinct in_range = refl
variables_in_range d (a ∷ rest) distinct in_range =
    let parts = and_parts (below a d) (all_at_scope d (map below rest)) in_range in
    and_from _ _ (one_variable d a (variable_level a) (map variable_level rest) refl distinct parts.0)
    (variables_in_range d rest (rest_distinct (variable_level a) (map variable_level rest) distinct) parts.1)

-- arguments that are distinct and in range can be matched
pub args_fine-from : (d : ℕ) (args : List Pattern) → are_distinct (map variable_level args) ≡ true → all_at_scope d (map below args) ≡ true →
    args_fine d (map seen args) ≡ true
args_fine-from d args distinct in_range =
    and_from _ _ (variables_in_range d args distinct in_range) (ap all_apart (seen-levels args) ∙ all_apart-levels (map variable_level args) distinct)

-- ## Patterns

abbrev FineFrom : Pattern → Type 0
FineFrom p = (d : ℕ) → below p d ≡ true → on_variables (occurrences_in p) ≡ true → (seen p).fine d ≡ true

abbrev pub distinct_use : Occurrence → Bool
distinct_use o = are_distinct o.levels

fine_bodies : (bs : List PBound) → OfEachBody FineFrom bs → (d : ℕ) → all_at_scope d (map below_bound bs) ≡ true → on_variables (flat_map occurrences_in_bound bs) ≡ true →
    all_fine d (map seen_bound bs) ≡ true
fine_bodies [] h d in_range distinct = refl
fine_bodies (b ∷ bs) h d in_range distinct =
    let range = and_parts (below_bound b d) (all_at_scope d (map below_bound bs)) in_range in
    let uses = and_parts _ _ (sym (list_all-append distinct_use (occurrences_in_bound b) (flat_map occurrences_in_bound bs)) ∙ distinct) in
    let body = h.0 (d + b.binders) (sym (below_bound-is b d) ∙ range.0) (ap on_variables (sym (occurrences_in_bound-is b)) ∙ uses.0) in
    and_from _ _ (fine_bound-is b d ∙ body) (fine_bodies bs h.1 d range.1 uses.1)

pub fine-from : (p : Pattern) (d : ℕ) → below p d ≡ true → on_variables (occurrences_in p) ≡ true → (seen p).fine d ≡ true
fine-from =
    each_pattern FineFrom
    (λ l d in_range distinct. fine-Var l d ∙ (sym (below-Var l d) ∙ in_range))
    (λ o ps subs h d in_range distinct.
    fine-Op o ps subs d ∙ fine_bodies subs h d (sym (below-Op o ps subs d) ∙ in_range) (ap on_variables (sym (occurrences_in-Op o ps subs)) ∙ distinct))
    (λ n cs args h d in_range distinct.
    let uses = and_parts (are_distinct (map variable_level args)) _ (ap on_variables (sym (occurrences_in-Meta n cs args)) ∙ distinct) in
    fine-Meta n cs args d ∙ args_fine-from d args uses.0 (sym (below-Meta n cs args d) ∙ in_range))
