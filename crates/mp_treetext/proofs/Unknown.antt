-- Where the name of a block is no goal's.
use Rattle.std.proofs.Common.{◌≡◌, ℕ, List, Option, not, ap, ◌∙◌}
use Rattle.std.specs.Option.{is_some}
use Rattle.mp_logic.specs.declared.sym.Sym.{Sym}
use Rattle.mp_names.specs.Sets.{Met, is_among, place_of}
use Rattle.mp_names.proofs.Places.{placed_met}
use Rattle.mp_words.specs.declared.fail.TextErr.{TextErr}
use Rattle.mp_words.specs.declared.fail.TextWhy.TheVariants as why
use Rattle.mp_words.specs.declared.raw.RawName.{RawName}
use Rattle.mp_words.specs.Faults.{fault_if, least_from}
use Rattle.mp_treetext.specs.Statics.{unknown_goal_faults}

-- a name has a place exactly where it is a goal's
among_goals : (names : List ℕ) (goals : List Sym) (n : RawName) (place : Option ℕ) → Met names goals → place ≡ place_of names n.name.0 → is_some place ≡ is_among goals n.name
among_goals names goals n place met e = ap is_some e ∙ placed_met names n.name.0 ∙ met n.name

-- what is held by whether the name has a place
pub unknown_by : (held : Option TextErr) (names : List ℕ) (goals : List Sym) (n : RawName) (place : Option ℕ) → Met names goals → place ≡ place_of names n.name.0
    → least_from held (fault_if (not (is_some place)) n.at why.UnknownName) ≡ least_from held (unknown_goal_faults goals n)
unknown_by held names goals n place met e = ap (λ b. least_from held (fault_if (not b) n.at why.UnknownName)) (among_goals names goals n place met e)
