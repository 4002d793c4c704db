use Rattle.std.proofs.Common.{◌≡◌, ℕ, length, arith, List, Vec, Global, map, ap, ◌∙◌, subst, sym}
use Rattle.std.proofs.lemmas.List.{length-map}
use Rattle.mp_names.specs.Table.{entered, number_of, AreDistinct}
use Rattle.mp_names.proofs.Keys.{entered_map, number_map}
use Rattle.mp_names.proofs.Tables.{entered_distinct, entered_few}
use Rattle.mp_names.proofs.table.Names.enter.Goals as goal

abbrev items : Vec ℕ Global → List ℕ
items k = k.items

pub invariant_of-self-2 : goal.invariant_of-self-2
invariant_of-self-2 c =
    let is : map items c.insert_full.new.self.keys ≡ entered (map items c.self.inside.set.keys) c.args.name.items = ap (map items) c.in-Ok.ensures.keys ∙ entered_map items c.args.name c.self.inside.set.keys in (
      subst AreDistinct (sym is) (entered_distinct (map items c.self.inside.set.keys) c.args.name.items c.self.invariant.0),
      (
          let few = entered_few (map items c.self.inside.set.keys) c.args.name.items in
          omega (arith, few, ap length is, ap length c.self.view_is, length-map c.insert_full.new.self.keys items)),
    )

pub returns-clause-number : goal.returns-clause-number
returns-clause-number c = c.in-Ok.ensures.index ∙ number_map items c.args.name.items c.self.inside.set.keys ∙ ap (λ ns. number_of ns c.args.name.items) c.self.view_is

pub returns-clause-table : goal.returns-clause-table
returns-clause-table c = ap (map items) c.in-Ok.ensures.keys ∙ entered_map items c.args.name c.self.inside.set.keys ∙ ap (λ ns. entered ns c.args.name.items) c.self.view_is
