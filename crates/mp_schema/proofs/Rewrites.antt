-- A rewrite without contexts has none twice in a list.
use Rattle.std.proofs.Common.{◌≡◌, List, [], ◌∷◌, true, refl}
use Rattle.std.proofs.lemmas.Bool.{and_parts, and_from}
use Rattle.mp_logic.specs.declared.sym.Sym.{Sym}
use Rattle.mp_schema.specs.declared.pattern.Pattern.{Pattern}
use Rattle.mp_schema.specs.Conditions.{has_all, is_apart}
use Rattle.mp_schema.specs.Occurrences.{Occurrence}
use Rattle.mp_schema.specs.Faults.{all_listed, lists_apart, rewrite_is_listed, rewrite_is_single, occurrences_of_rewrite}

none_apart : (names : List Sym) → has_all [] names ≡ true → is_apart names ≡ true
none_apart [] e = refl
none_apart (x ∷ xs) e = cc

lists_none_apart : (os : List Occurrence) → all_listed [] os ≡ true → lists_apart os ≡ true
lists_none_apart [] e = refl
lists_none_apart (o ∷ os) e =
    let parts = and_parts (has_all [] o.ctxs) (all_listed [] os) e in
    and_from _ _ (none_apart o.ctxs parts.0) (lists_none_apart os parts.1)

pub unlisted : (conds : List Pattern) (redex contractum : Pattern) → rewrite_is_listed conds redex contractum ≡ true →
    rewrite_is_single conds redex contractum ≡ true
unfolding rewrite_is_listed rewrite_is_single
unlisted conds redex contractum e = lists_none_apart (occurrences_of_rewrite conds redex contractum) e
