use Rattle.std.proofs.Common.{sym, subst}
use Rattle.mp_scripttext.specs.declared.script.Script.{Script}
use Rattle.mp_scripttext.specs.Entries.{EachGood}
use Rattle.mp_scripttext.specs.Statics.{script_faults}
use Rattle.mp_scripttext.proofs.GoodEntries.{entries_faultless, entries_good, no_static_fault}
use Rattle.mp_scripttext.proofs.laws.read_goals_are_good.Goals as goal

pub returns : goal.returns
returns c = λ t names later source script is h.
    subst (λ (s : Script). EachGood t s.entries) (sym h.0.has) (entries_good t is h.0.raw (entries_faultless t h.0.raw (no_static_fault (script_faults t h.0.raw) h.0.faultless)))
