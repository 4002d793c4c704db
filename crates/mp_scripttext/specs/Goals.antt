-- What is kept of the goals of a script, which are read one after the other.
use Rattle.std.specs.Prelude.{◌++◌, List, [], ◌∷◌, Option, None, Some}
use Rattle.mp_theory.specs.Tables.{Laws}
use Rattle.mp_words.specs.declared.fail.TextErr.{TextErr}
use Rattle.mp_words.specs.declared.fail.TextWhy.TheVariants as why
use Rattle.mp_words.specs.Faults.{least_from}
use Rattle.mp_words.specs.Seconds.{second_faults}
use Rattle.mp_scripttext.specs.declared.raw.RawEntry.{RawEntry}
use Rattle.mp_scripttext.specs.declared.script.Entry.{Entry}
use Rattle.mp_scripttext.specs.declared.goals.GoalName.{GoalName}
use Rattle.mp_scripttext.specs.declared.goals.Goals.{Goals}
use Rattle.mp_scripttext.specs.Statics.{entry_faults}
use Rattle.mp_scripttext.specs.Values.{entry_of}

-- the name of a goal that is written
abbrev pub goal_name : RawEntry → GoalName
goal_name e = record { 0 = e.name }

-- nothing is kept before the first goal
abbrev pub no_goals : Goals
no_goals = record { names = []; held = None; entries = [] }

-- goals with one more where no fault is held, and else these goals
abbrev pub unless_held : Option TextErr → List Entry → Entry → List Entry
unless_held None es e = es ++ e ∷ []
unless_held (Some f) es e = es

-- what is kept with one more goal that is written: its name, the earliest of the fault that is held and its own, and the goal itself if
-- there is no such fault
abbrev pub with_goal : Laws → Goals → RawEntry → Goals
with_goal t g e = record {
  names = g.names ++ goal_name e ∷ [];
  held = least_from g.held (entry_faults t e);
  entries = unless_held (least_from g.held (entry_faults t e)) g.entries (entry_of t e);
}

-- what is kept with these goals, one after the other
abbrev pub with_goals : Laws → Goals → List RawEntry → Goals
with_goals t g [] = g
with_goals t g (e ∷ es) = with_goals t (with_goal t g e) es

-- the earliest of the fault that is held and those of a second goal of its name
abbrev pub kept_fault : Goals → Option TextErr
kept_fault g = least_from g.held (second_faults (λ n. n.0) why.Taken g.names)
