-- The needs' values, one after the other.
use Rattle.std.proofs.Common.{◌≡◌, ℕ, ◌+◌, ◌^◌, ◌<◌, ◌≤◌, List, [], ◌∷◌, length, drop, get_or, Bool, false, if◌then◌else◌, Option, Some, None, zero, suc, refl, sym, ap, ◌∙◌, subst, arith, IsTrue}
use Rattle.std.specs.Prelude.{◌↔◌, option_and_then}
use Rattle.std.proofs.lemmas.Bool.Decides.{nat_tests}
use Rattle.std.proofs.lemmas.Grind.{common_steps}
use Rattle.std.specs.Option.{option_map}
use Rattle.mp_logic.specs.declared.sym.Sym.{Sym}
use Rattle.mp_term.specs.declared.term.Term.{Term}
use Rattle.mp_term.specs.Terms.{in_scope_of, depth_of}
use Rattle.mp_term.specs.Limits.{few_binders_of}
use Rattle.mp_term.specs.Subst.{widest_of, unrenamed}
use Rattle.mp_term.proofs.SubLaws.{drop-at}
use Rattle.mp_term.proofs.Laws.{width_of_few_binders}
use Rattle.mp_schema.specs.declared.instance.Inst.{Inst}
use Rattle.mp_schema.specs.declared.instance.MetaVal.{MetaVal}
use Rattle.mp_schema.specs.declared.instance.CtxVal.{CtxVal}
use Rattle.mp_schema.specs.Values.{find_meta, variables_of}
use Rattle.mp_match.specs.Giving.{given_to, given_levels, with_value, IsGiven, NamesOnly}
use Rattle.mp_match.proofs.GivenLaws.{given-is}
use Rattle.mp_theory.specs.declared.rule.Need.{Need}
use Rattle.mp_theory.specs.declared.just.Given.{Given}
use Rattle.mp_theory.specs.Needs.{is_needed}
use Rattle.mp_refiner.specs.Ready.{AreNew, IsUsable}
use Rattle.mp_refiner.proofs.GivenValues.{new_more}
use Rattle.mp_schema.proofs.Lists.{value_or}
use Rattle.mp_theory.specs.Allowed.{is_for, are_for}
use Rattle.mp_refiner.specs.Steps.{given_all}
use Rattle.mp_theory.proofs.ForNeeds.{IsForNeed}

abbrev pub given_of : Need → Given → Inst → Option Inst
given_of n g i = given_to i n.name n.ctxs n.arity g.body

-- what is given for one need
pub given_value : (i new : Inst) (n : Need) (g : Given) (ctxs : List CtxVal) (done : Bool) → i.ctxs ≡ ctxs → IsUsable ctxs n → IsForNeed n g → (IsTrue done → IsGiven i n.name n.ctxs n.arity g.body new) →
    (IsTrue done ↔ NamesOnly (variables_of i.ctxs n.ctxs) g.body) → (if done then Some new else None) ≡ given_of n g i
given_value i new n g ctxs done same usable facts added named =
    let u : IsUsable i.ctxs n = subst (λ cs. IsUsable cs n) (sym same) usable in
    given-is i n.name n.ctxs n.arity g.body u.distinct u.below facts.scoped new done added named

module _ (ns : List Need) (gs : List Given) (place : ℕ) (n : Need) (g : Given) (here : place < length ns) (there : place < length gs) (n_is : n ≡ get_or ns place n) (g_is : g ≡ get_or gs place g) where
  given-cons : (i : Inst) → given_all (drop place ns) (drop place gs) i ≡ option_and_then (given_all (drop (place + 1) ns) (drop (place + 1) gs)) (given_of n g i)
  given-cons i = rw (drop-at ns place n here n_is, drop-at gs place g there g_is) refl

  -- the values that are left, behind the one at this place
  pub given-next : (i new : Inst) (all : Option Inst) → Some new ≡ given_of n g i → given_all (drop place ns) (drop place gs) i ≡ all → given_all (drop (place + 1) ns) (drop (place + 1) gs) new ≡ all
  given-next i new all e inv = ap (option_and_then (given_all (drop (place + 1) ns) (drop (place + 1) gs))) e ∙ sym (given-cons i) ∙ inv

  pub given-fails : (i : Inst) (all : Option Inst) → None ≡ given_of n g i → given_all (drop place ns) (drop place gs) i ≡ all → None ≡ all
  given-fails i all e inv = ap (option_and_then (given_all (drop (place + 1) ns) (drop (place + 1) gs))) e ∙ sym (given-cons i) ∙ inv

pub given-end : (ns : List Need) (gs : List Given) (place : ℕ) (i : Inst) → length ns ≤ place → given_all (drop place ns) (drop place gs) i ≡ Some i
given-end ns gs place i past = let none : drop place ns ≡ [] = grind (arith, common_steps) in rw none refl

-- there are as many
pub same_count : (ns : List Need) (gs : List Given) → IsTrue (are_for ns gs) → length ns ≡ length gs
same_count [] [] h = refl
same_count [] (g ∷ gs) h = absurd (grind (arith, common_steps, h))
same_count (n ∷ ns) [] h = absurd (grind (arith, common_steps, h))
same_count (n ∷ ns) (g ∷ gs) h =
    let rest : IsTrue (are_for ns gs) = grind (arith, common_steps, h) in
    let e = same_count ns gs rest in omega arith

-- each is for its need
pub for-at : (ns : List Need) (gs : List Given) (place : ℕ) (n : Need) (g : Given) → IsTrue (are_for ns gs) → place < length ns → n ≡ get_or ns place n → g ≡ get_or gs place g → IsTrue (is_for n g)
for-at [] gs place n g h lt n_is g_is = absurd (omega arith)
for-at (x ∷ ns) [] place n g h lt n_is g_is = absurd (grind (arith, common_steps, h))
for-at (x ∷ ns) (y ∷ gs) zero n g h lt n_is g_is =
    let a : n ≡ x = n_is in let b : g ≡ y = g_is in
    let k : IsTrue (is_for x y) = grind (arith, common_steps, h) in rw (a, b) k
for-at (x ∷ ns) (y ∷ gs) (suc place) n g h lt n_is g_is =
    let rest : IsTrue (are_for ns gs) = grind (arith, common_steps, h) in
    for-at ns gs place n g rest (omega arith) n_is g_is

-- no scope in a given term is wide
pub given_narrow : (n : Need) (g : Given) → n.arity ≤ 8 → IsForNeed n g → widest_of g.body (200 + n.arity) < 2 ^ 31
given_narrow n g few h = let w = width_of_few_binders g.body (200 + n.arity) h.few in let d = h.shallow in omega arith

made-ctxs : (i new : Inst) (name : Sym) (scope : ℕ) (o : Option Term) → Some new ≡ option_map (with_value i name scope) o → new.ctxs ≡ i.ctxs
made-ctxs i new name scope None e = absurd cc
made-ctxs i new name scope (Some u) e = ap (λ o. (value_or new o).ctxs) e

-- the contexts stay
pub given-ctxs : (i new : Inst) (n : Need) (g : Given) → Some new ≡ given_of n g i → new.ctxs ≡ i.ctxs
given-ctxs i new n g e = made-ctxs i new n.name _ (unrenamed (given_levels i.ctxs n.ctxs n.arity) (200 + n.arity) g.body) e

made-new : (i new : Inst) (n : Need) (scope : ℕ) (ns : List Need) (o : Option Term) → Some new ≡ option_map (with_value i n.name scope) o → is_needed ns n.name ≡ false → AreNew i.metas ns → AreNew new.metas ns
made-new i new n scope ns None e apart fresh = absurd cc
made-new i new n scope ns (Some u) e apart fresh =
    let x : MetaVal = record { name = n.name; scope = scope; body = u } in
    let same : new ≡ with_value i n.name scope u = ap (value_or new) e in
    subst (λ (j : Inst). AreNew j.metas ns) (sym same) (new_more i.metas x ns fresh apart)

-- the needs that are left have no value yet
pub new-next : (ns : List Need) (place : ℕ) (n : Need) (g : Given) (i new : Inst) → place < length ns → n ≡ get_or ns place n → Some new ≡ given_of n g i → AreNew i.metas (drop place ns) →
    AreNew new.metas (drop (place + 1) ns)
new-next ns place n g i new lt is e fresh =
    let f = subst (AreNew i.metas) (drop-at ns place n lt is) fresh in
    made-new i new n _ (drop (place + 1) ns) (unrenamed (given_levels i.ctxs n.ctxs n.arity) (200 + n.arity) g.body) e f.1 f.2

pub new-here : (ns : List Need) (place : ℕ) (n : Need) (metas : List MetaVal) → place < length ns → n ≡ get_or ns place n → AreNew metas (drop place ns) → find_meta metas n.name ≡ None
new-here ns place n metas lt is fresh = (subst (AreNew metas) (drop-at ns place n lt is) fresh).0
