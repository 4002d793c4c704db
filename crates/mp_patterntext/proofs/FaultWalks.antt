-- The least fault so far goes on from one part of a pattern to the next.
use Rattle.std.proofs.Common.{true≢false, ◌≡◌, ◌+◌, ◌<◌, ℕ, List, Option, None, Some, Bool, true, false, not, ◌&&◌, ◌||◌, nat_eq, nat_lt, if◌then◌else◌, refl, ap, sym, ◌∙◌, drop, length, get_or, map, arith}
use Rattle.std.specs.Prelude.{is_some}
use Rattle.std.proofs.lemmas.Bool.Decides.{nat_tests}
use Rattle.mp_logic.specs.declared.sym.Sym.{Sym}
use Rattle.mp_names.specs.Sets.{Met, is_among, place_of}
use Rattle.mp_names.proofs.Places.{placed_met}
use Rattle.mp_schema.specs.Conditions.{has}
use Rattle.mp_words.specs.declared.fail.TextErr.{TextErr}
use Rattle.mp_words.specs.declared.fail.TextWhy.{TextWhy}
use Rattle.mp_words.specs.declared.raw.RawName.{RawName}
use Rattle.mp_words.specs.Faults.{fault_if, is_behind, least_from, rank_of, too_many}
use Rattle.mp_words.proofs.FaultParts.{flat_next, three_parts}
use Rattle.mp_termtext.specs.Statics.{deep, each_faults}
use Rattle.mp_patterntext.specs.declared.raw.RawParamPat.{RawParamPat}
use Rattle.mp_patterntext.specs.declared.raw.RawPatternBound.{RawPatternBound}
use Rattle.mp_patterntext.specs.declared.raw.RawPattern.{RawPattern}
use Rattle.mp_patterntext.specs.Scopes.{syms_of, unknown_faults}
use Rattle.mp_patterntext.specs.Nodes.{argument_of, bound_node_faults, dangling_faults, node_faults, param_place, use_faults}
use Rattle.mp_patterntext.proofs.RawLayers.{node_faults-Meta, node_faults-Op}
use Rattle.mp_patterntext.proofs.Twice.{among_has}
use Rattle.mp_words.specs.declared.fail.TextWhy.TheVariants as why
use Rattle.mp_patterntext.specs.declared.raw.RawPattern as raw

-- the parts of a second-order variable
pub meta_parts : (known : List Sym) (final : Bool) (t : RawPattern) (n : Sym) (cs ds : List RawName) (xs ys : List RawPattern) (at : ℕ) (env : List Sym) (d : ℕ) (held a b c : Option TextErr) → t ≡ raw.Meta n cs xs at → ds ≡ cs → ys ≡ xs
    → a ≡ least_from held (deep d at) → b ≡ least_from a (use_faults known final ds (map argument_of ys)) → c ≡ least_from b (each_faults (map (node_faults known final) ys) env (d + 1)) → c ≡ least_from held (node_faults known final t env d)
meta_parts known final t n cs ds xs ys at env d held a b c is p q e f g =
    let uses = use_faults known final cs (map argument_of xs) in
    let args = each_faults (map (node_faults known final) xs) env (d + 1) in
    three_parts held a b c (deep d at) uses args e (f ∙ (λ i. least_from a (use_faults known final (p i) (map argument_of (q i))))) (g ∙ (λ i. least_from b (each_faults (map (node_faults known final) (q i)) env (d + 1))))
    ∙ ap (least_from held) (sym (node_faults-Meta known final n cs xs at env d) ∙ ap (λ r. node_faults known final r env d) (sym is))

-- the parts of an operation
pub op_parts : (known : List Sym) (final : Bool) (t : RawPattern) (n : Sym) (ps qs : List RawParamPat) (ks us : List RawPatternBound) (at : ℕ) (env : List Sym) (d : ℕ) (held a b c : Option TextErr) → t ≡ raw.Op n ps ks at → qs ≡ ps → us ≡ ks
    → a ≡ least_from held (deep d at) → b ≡ least_from a (too_many param_place 16 qs) → c ≡ least_from b (each_faults (map (bound_node_faults known final) us) env (d + 1)) → c ≡ least_from held (node_faults known final t env d)
op_parts known final t n ps qs ks us at env d held a b c is p q e f g =
    let many = too_many param_place 16 ps in
    let subs = each_faults (map (bound_node_faults known final) ks) env (d + 1) in
    three_parts held a b c (deep d at) many subs e (f ∙ (λ i. least_from a (too_many param_place 16 (p i)))) (g ∙ (λ i. least_from b (each_faults (map (bound_node_faults known final) (q i)) env (d + 1))))
    ∙ ap (least_from held) (sym (node_faults-Op known final n ps ks at env d) ∙ ap (λ r. node_faults known final r env d) (sym is))

-- ## Behind a fault that is held

later_none : (a b r q : ℕ) → nat_lt b a ≡ true → (nat_lt a b || (nat_eq a b && nat_lt r q)) ≡ false
later_none a b r q h = grind (arith, nat_tests, h)

held_stays : (held : Option TextErr) (at : ℕ) (w : TextWhy) (t : Bool) → is_behind held at ≡ true → least_from held (fault_if t at w) ≡ held
held_stays None at w t h = absurd (true≢false (sym h))
held_stays (Some f) at w false h = refl
held_stays (Some f) at w true h = ap (λ b. if b then Some (record { at = at; why = w }) else Some f) (later_none at f.at (rank_of w) (rank_of f.why) h)

-- a test that isn't made behind the fault that is held
guarded : (held : Option TextErr) (at : ℕ) (w : TextWhy) (t : Bool) → least_from held (fault_if (not (is_behind held at) && t) at w) ≡ least_from held (fault_if t at w)
guarded held at w t = by (is_behind held at) refl
  where
    by : (b : Bool) → is_behind held at ≡ b → least_from held (fault_if (not (is_behind held at) && t) at w) ≡ least_from held (fault_if t at w)
    by false e = ap (λ b. least_from held (fault_if (not b && t) at w)) e
    by true e = ap (λ b. least_from held (fault_if (not b && t) at w)) e ∙ sym (held_stays held at w t e)

pub dangling_next : (known names : List RawName) (i : ℕ) (x : RawName) (held next whole : Option TextErr) (unknown : Bool) → i < length names → x ≡ get_or names i x → unknown ≡ (not (is_behind held x.at) && not (is_among (syms_of known) x.name))
    → next ≡ least_from held (fault_if unknown x.at why.DanglingContext) → least_from held (dangling_faults (syms_of known) (drop i names)) ≡ whole → least_from next (dangling_faults (syms_of known) (drop (i + 1) names)) ≡ whole
dangling_next known names i x held next whole unknown lt is e f prev =
    let here : next ≡ least_from held (fault_if (not (has (syms_of known) x.name)) x.at why.DanglingContext) =
    f ∙ ap (λ b. least_from held (fault_if b x.at why.DanglingContext)) e ∙ guarded held x.at why.DanglingContext (not (is_among (syms_of known) x.name)) ∙ ap (λ b. least_from held (fault_if (not b) x.at why.DanglingContext)) (among_has (syms_of known) x.name) in
    flat_next (λ (c : RawName). fault_if (not (has (syms_of known) c.name)) c.at why.DanglingContext) names i x held next whole lt is here prev

-- ## Names that aren't known

not_not : (b : Bool) → not (not b) ≡ b
not_not true = refl
not_not false = refl

-- one name more, if the known ones were met
pub unknown_next : (met : List ℕ) (w : TextWhy) (known : List Sym) (asked : List RawName) (i : ℕ) (x : RawName) (place : Option ℕ) (unknown : Bool) (held next whole : Option TextErr) → Met met known → i < length asked → x ≡ get_or asked i x → place ≡ place_of met x.name.0
    → is_some place ≡ not unknown → next ≡ least_from held (fault_if unknown x.at w) → least_from held (unknown_faults w known (drop i asked)) ≡ whole → least_from next (unknown_faults w known (drop (i + 1) asked)) ≡ whole
unknown_next met w known asked i x place unknown held next whole all lt at is e f prev =
    let same : is_some place ≡ has known x.name = ap (λ o. is_some o) is ∙ placed_met met x.name.0 ∙ all x.name ∙ among_has known x.name in
    flat_next (λ (n : RawName). fault_if (not (has known n.name)) n.at w) asked i x held next whole lt at (f ∙ ap (λ b. least_from held (fault_if b x.at w)) (sym (not_not unknown) ∙ ap not (sym e ∙ same))) prev
