use Rattle.std.proofs.Common.{sym}
use Rattle.mp_names.proofs.Tables.{number_entered, entered_held, held_from_number}
use Rattle.mp_names.proofs.table.Names.number.Goals as goal

pub returns-in-Some-clause-table : goal.returns-in-Some-clause-table
returns-in-Some-clause-table c = sym (entered_held c.args.self.now c.args.name.now (held_from_number c.args.self.now c.in-Some.known.0 c.args.name.now c.in-Some.ensures.found))

pub returns-clause-has : goal.returns-clause-has
returns-clause-has c =
    let has = number_entered c.args.self.now c.args.name.now in
    let is = c.in_ok-copied.ensures in
    let at = c.in_ok-entered.ensures.number in
    let table = c.in_ok-entered.ensures.table in
    cc
