use Rattle.std.proofs.Common.{List, ◌≡◌, ◌++◌, ◌∷◌, [], length, map, nat_eq, false, ap, ◌∙◌, subst, sym, arith}
use Rattle.std.specs.List.{list_any}
use Rattle.std.proofs.lemmas.List.{length-map, length-append}
use Rattle.mp_theory.specs.declared.law.Law.{Law}
use Rattle.mp_theory.specs.Tables.{Laws, law_count, name_taken, name_in, IsTheory}
use Rattle.mp_theory.proofs.Entries.{Entry, law_in, key_of, entered_last, laws_push, keys_push}
use Rattle.mp_theory.proofs.LookUps.{theory_push}
use Rattle.mp_theory.proofs.theory.Theory.enter.Goals as goal

pub invariant_of-self : goal.invariant_of-self
invariant_of-self c =
    let es = c.self.inside.laws.entries in
    let n = c.args.name.0 in
    let l = c.args.law in
    let new : name_taken (record { laws = map law_in es }) c.args.name ≡ false = subst (λ (t : Laws). name_taken t c.args.name ≡ false) (sym c.self.view_is) c.requires.new in
    let absent : list_any (nat_eq n) (map key_of es) ≡ false = ap (list_any (nat_eq n)) c.self.invariant.2 ∙ new in
    let is : c.insert.new.self.entries ≡ es ++ (n, l) ∷ [] = c.in-Ok.ensures.entries ∙ entered_last es n l absent in
    let size = ap length is in
    let more = length-append es ((n, l) ∷ []) in
    let before = ap law_count c.self.view_is in
    let room = length-map es law_in in
    let other : list_any (nat_eq (name_in l)) (map name_in (map law_in es)) ≡ false = subst (λ k. list_any (nat_eq k) (map name_in (map law_in es)) ≡ false) (sym c.requires.named) new in (
      omega (arith, size, more, before, room, c.requires.room),
      subst (λ (xs : List Entry). IsTheory (record { laws = map law_in xs })) (sym is)
          (subst (λ (ls : List Law). IsTheory (record { laws = ls })) (sym (laws_push es n l)) (theory_push (map law_in es) l c.self.invariant.1 c.requires.law other)),
      subst (λ (xs : List Entry). map key_of xs ≡ map name_in (map law_in xs)) (sym is) (keys_push es n l c.requires.named c.self.invariant.2),
    )

pub returns-in-Ok-clause-added : goal.returns-in-Ok-clause-added
returns-in-Ok-clause-added c =
    let es = c.self.inside.laws.entries in
    let n = c.args.name.0 in
    let l = c.args.law in
    let new : name_taken (record { laws = map law_in es }) c.args.name ≡ false = subst (λ (t : Laws). name_taken t c.args.name ≡ false) (sym c.self.view_is) c.requires.new in
    let absent : list_any (nat_eq n) (map key_of es) ≡ false = ap (list_any (nat_eq n)) c.self.invariant.2 ∙ new in
    let is : c.insert.new.self.entries ≡ es ++ (n, l) ∷ [] = c.in-Ok.ensures.entries ∙ entered_last es n l absent in
    ap (λ (xs : List Entry). record { laws = map law_in xs }) is
    ∙ ap (λ (ls : List Law). record { laws = ls }) (laws_push es n l)
    ∙ ap (λ (t : Laws). record { laws = t.laws ++ l ∷ [] }) c.self.view_is
