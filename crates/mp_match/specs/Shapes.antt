-- Terms that are no instance of a pattern by their operators.
use Rattle.std.specs.Prelude.{◌≡◌, ℕ, List, map, None}
use Rattle.mp_term.specs.declared.term.Term.{Term}
use Rattle.mp_term.specs.declared.term.Bound.{Bound}
use Rattle.mp_schema.specs.declared.pattern.Pattern.{Pattern}
use Rattle.mp_schema.specs.declared.pattern.PBound.{PBound}
use Rattle.mp_schema.specs.Instances.{Ground}
use Rattle.mp_match.specs.declared.place.Found.{Found}
use Rattle.mp_match.specs.Matching.{found_in, all_found, matcher_bound}

-- whatever is found before, the pattern finds nothing in the term
abbrev pub FindsNothing : Pattern → Term → Type 0
FindsNothing p t = (front : Ground) (levels : List ℕ) (scope : ℕ) (found : Found) → found_in front p levels scope t found ≡ None

-- whatever is found before, these bodies of a pattern find nothing in those of a term
abbrev pub FindNothing : List PBound → List Bound → Type 0
FindNothing subs bodies =
    (front : Ground) (levels : List ℕ) (scope : ℕ) (found : Found) → all_found (map (matcher_bound front) subs) levels scope bodies found ≡ None
