use Rattle.std.proofs.Common.{sym, ◌∙◌}
use Rattle.mp_schema.specs.Occurrences.{occurrences_in_schema}
use Rattle.mp_schema.proofs.Finding.{first_here, first_later}
use Rattle.mp_schema.proofs.uses.first_in_rule.Goals as goal

pub returns-in-Some : goal.returns-in-Some
returns-in-Some c = sym (first_here _ (occurrences_in_schema c.args.concl.now) c.args.name _ c.in-Some.ensures)

pub returns-in-None : goal.returns-in-None
returns-in-None c =
    c.first_in_schema.ensures ∙ sym (first_later _ (occurrences_in_schema c.args.concl.now) c.args.name c.in-None.ensures)
