-- What building the subgoals of a rewrite asks and answers.
use Rattle.std.specs.Prelude.{◌≡◌, ◌<◌, ◌≤◌, ◌^◌, List, [], length, true, false, IsTrue, Result, Ok, Err, ⊤}
use Rattle.std.specs.List.{list_all}
use Rattle.mp_term.specs.declared.sequent.Sequent.{Sequent}
use Rattle.mp_term.specs.declared.term.Term.{Term}
use Rattle.mp_term.specs.Limits.{is_shallow, within_limits_of}
use Rattle.mp_schema.specs.declared.pattern.Pattern.{Pattern}
use Rattle.mp_schema.specs.Conditions.{below, lists_known}
use Rattle.mp_schema.specs.Instances.{fits}
use Rattle.mp_schema.specs.Sequents.{Instance, wide_of}
use Rattle.mp_build.specs.declared.error.BuildErr.{BuildErr}
use Rattle.mp_build.specs.declared.error.BuildErr.TheVariants.{TooLarge, NoMemory}
use Rattle.mp_build.specs.Rooms.{room}

-- a pattern without levels and contexts that may be built: each value is in its scope, and no scope on the way is too wide
pub record IsReady (v : Instance) (p : Pattern) : Type 0 where
  pub closed : IsTrue (below p 0)
  pub plain : IsTrue (lists_known [] p)
  pub fitting : IsTrue (fits (wide_of v) v.values p)
  pub narrow : room (wide_of v) v.values p v.ambient < 2 ^ 31

-- these subgoals if each is within the limits; too large exactly if one of them isn't
abbrev pub AreBuilt : List Sequent → Result (List Sequent) BuildErr → Type 0
AreBuilt kids (Ok made) = (made ≡ kids) × (list_all within_limits_of kids ≡ true)
AreBuilt kids (Err TooLarge) = list_all within_limits_of kids ≡ false
AreBuilt kids (Err NoMemory) = ⊤

-- hypotheses of a goal within the limits: at most 200, and none deeper than 200
pub record AreFew (hyps : List Term) : Type 0 where
  pub few : length hyps ≤ 200
  pub shallow : list_all is_shallow hyps ≡ true
