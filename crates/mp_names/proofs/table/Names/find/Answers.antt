use Rattle.std.proofs.Common.{ℕ, List, Vec, Global, sym, subst}
use Rattle.mp_names.specs.Table.{HasNumber, number_of, AreDistinct}
use Rattle.mp_names.proofs.Keys.{number_found, number_absent}
use Rattle.mp_names.proofs.Tables.{number_held, held_from_number}
use Rattle.mp_names.proofs.table.Names.find.Goals as goal

abbrev items : Vec ℕ Global → List ℕ
items k = k.items

pub returns-clause-found : goal.returns-clause-found
returns-clause-found c = subst (λ ns. HasNumber ns c.in-Some.at c.args.name.now) c.self.view_is (number_found items c.args.name.now c.self.inside.set.keys c.in-Some.at (sym c.in-Some.ensures.index))

pub returns-clause-number : goal.returns-clause-number
returns-clause-number c =
    let names = c.args.self.now in
    let name = c.args.name.now in
    let has = returns-clause-found c in
    let distinct : AreDistinct names = subst AreDistinct c.self.view_is c.self.invariant.0 in
    distinct c.in-Some.at (number_of names name) name has (number_held names name (held_from_number names c.in-Some.at name has))

pub returns-in_default-clause-absent : goal.returns-in_default-clause-absent
returns-in_default-clause-absent c = λ at g. number_absent items c.args.name.now c.self.inside.set.keys (sym c.in_default.ensures.found) at (subst (λ ns. HasNumber ns at c.args.name.now) (sym c.self.view_is) g)
