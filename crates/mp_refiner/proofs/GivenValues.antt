-- The values of the needs are those that give the given terms.
use Rattle.std.proofs.Common.{◌≡◌, inl, inr, ℕ, ◌+◌, ◌<◌, List, [], ◌∷◌, ◌++◌, map, length, Bool, true, false, nat_eq, Option, Some, None, refl, sym, ap, ◌∙◌, subst, arith}
use Rattle.std.specs.Prelude.{IsTrue, All, option_and_then, if◌then◌else◌}
use Rattle.std.specs.Option.{option_map}
use Rattle.std.specs.List.{IsDistinct}
use Rattle.std.proofs.lemmas.Bool.Decides.{nat_tests}
use Rattle.std.proofs.lemmas.Grind.{common_steps}
use Rattle.mp_logic.specs.declared.sym.Sym.{Sym}
use Rattle.mp_term.specs.declared.term.Term.{Term, Var}
use Rattle.mp_term.specs.Terms.{in_scope_of}
use Rattle.mp_term.specs.Subst.{sub_of, unrenamed}
use Rattle.mp_schema.specs.declared.instance.CtxVal.{CtxVal}
use Rattle.mp_schema.specs.declared.instance.MetaVal.{MetaVal}
use Rattle.mp_schema.specs.declared.instance.Inst.{Inst}
use Rattle.mp_schema.specs.Sequents.{Instance}
use Rattle.mp_schema.specs.Values.{find_meta, find_param, find_ctx, variables_of}
use Rattle.mp_match.specs.Giving.{given_levels, with_value}
use Rattle.mp_schema.specs.Solutions.{Agrees}
use Rattle.mp_match.proofs.GivenLaws.{given-distinct, given-below}
use Rattle.mp_match.proofs.Solving.{meta-kept, meta-new, meta-either}
use Rattle.mp_match.proofs.Steps.{undone, restored}
use Rattle.mp_theory.specs.declared.rule.Need.{Need}
use Rattle.mp_theory.specs.declared.just.Given.{Given}
use Rattle.mp_theory.specs.Needs.{is_needed}
use Rattle.mp_refiner.specs.Ready.{IsUsable, AreNew}
use Rattle.mp_refiner.specs.Steps.{given_all}
use Rattle.mp_schema.specs.Occurrences.{In}
use Rattle.mp_schema.proofs.Lists.{value_or}

-- each need's variables in the goal may be used, and the term that is given for it is in their scope
abbrev pub AreUsable : List CtxVal → List Need → List Given → Type 0
AreUsable ctxs [] gs = Unit {0}
AreUsable ctxs (n ∷ ns) [] = ⊥
AreUsable ctxs (n ∷ ns) (g ∷ gs) = IsUsable ctxs n × IsTrue (in_scope_of g.body (200 + n.arity)) × AreUsable ctxs ns gs

-- the need's value gives the given term, over the variables of these contexts
pub record MeetsBy (ctxs : List CtxVal) (v : Instance) (n : Need) (g : Given) : Type 0 where
  pub fits : IsTrue (in_scope_of (v.values.meta n.name) (length (given_levels ctxs n.ctxs n.arity)))
  pub gives : sub_of (v.values.meta n.name) (map Var (given_levels ctxs n.ctxs n.arity)) (200 + n.arity) ≡ g.body

abbrev pub AllMeetBy : List CtxVal → Instance → List Need → List Given → Type 0
AllMeetBy ctxs v [] [] = Unit {0}
AllMeetBy ctxs v [] (g ∷ gs) = ⊥
AllMeetBy ctxs v (n ∷ ns) [] = ⊥
AllMeetBy ctxs v (n ∷ ns) (g ∷ gs) = MeetsBy ctxs v n g × AllMeetBy ctxs v ns gs

module _ (ctxs : List CtxVal) (n : Need) (g : Given) (usable : IsUsable ctxs n) (scoped : IsTrue (in_scope_of g.body (200 + n.arity))) where
  abbrev levels : List ℕ
  levels = given_levels ctxs n.ctxs n.arity

  distinct : IsDistinct nat_eq levels
  distinct = given-distinct (variables_of ctxs n.ctxs) n.arity g.body usable.distinct usable.below

  below : All (λ l. l < 200 + n.arity) levels
  below = given-below (variables_of ctxs n.ctxs) n.arity g.body usable.distinct usable.below

  pub met-found : (v : Instance) → MeetsBy ctxs v n g → unrenamed levels (200 + n.arity) g.body ≡ Some (v.values.meta n.name)
  met-found v m = undone levels (200 + n.arity) g.body distinct below scoped (v.values.meta n.name) m.fits m.gives

  pub found-met : (v : Instance) (u : Term) → unrenamed levels (200 + n.arity) g.body ≡ Some u → v.values.meta n.name ≡ u → MeetsBy ctxs v n g
  found-met v u e is =
      let r = restored levels (200 + n.arity) g.body distinct below scoped u e in
      record { fits = rw is r.1; gives = rw is r.0 }

-- ## One more value

meta-none : (ms : List MetaVal) (x : MetaVal) (name : Sym) → find_meta ms name ≡ None → nat_eq x.name.0 name.0 ≡ false → find_meta (ms ++ x ∷ []) name ≡ None
meta-none [] x name e d = grind (arith, common_steps, d)
meta-none (y ∷ ms) x name e d = by (nat_eq y.name.0 name.0) refl e (λ k. meta-none ms x name k d)
  where
    by : (b : Bool) → nat_eq y.name.0 name.0 ≡ b → (if b then Some y else find_meta ms name) ≡ None → (find_meta ms name ≡ None → find_meta (ms ++ x ∷ []) name ≡ None) →
        (if b then Some y else find_meta (ms ++ x ∷ []) name) ≡ None
    by true t k rest = absurd cc
    by false t k rest = rest k

pub new_more : (ms : List MetaVal) (x : MetaVal) (ns : List Need) → AreNew ms ns → is_needed ns x.name ≡ false → AreNew (ms ++ x ∷ []) ns
new_more ms x [] h e = tt
new_more ms x (n ∷ ns) h e =
    let other : nat_eq n.name.0 x.name.0 ≡ false = grind (arith, common_steps) in
    let flipped : nat_eq x.name.0 n.name.0 ≡ false = grind (arith, nat_tests, other) in
    let there : is_needed ns x.name ≡ false = grind (arith, common_steps) in
    (meta-none ms x n.name h.0 flipped, h.1, new_more ms x ns h.2 there)

-- the second instance has the values of the first one, and may have more
pub record IsGrown (i new : Inst) : Type 0 where
  pub ambient : new.ambient ≡ i.ambient
  pub ctxs : new.ctxs ≡ i.ctxs
  pub params : new.params ≡ i.params
  pub metas : (name : Sym) (x : MetaVal) → find_meta i.metas name ≡ Some x → find_meta new.metas name ≡ Some x

pub agrees-before : (v : Instance) (i new : Inst) → IsGrown i new → Agrees v new → Agrees v i
agrees-before v i new g a = record {
  ambient = a.ambient ∙ g.ambient;
  ctxs = λ name x e. a.ctxs name x (ap (λ cs. find_ctx cs name) g.ctxs ∙ e);
  metas = λ name x e. a.metas name x (g.metas name x e);
  params = λ name p e. a.params name p (ap (λ ps. find_param ps name) g.params ∙ e);
}

module _ (i : Inst) (name : Sym) (scope : ℕ) (u : Term) (fresh : find_meta i.metas name ≡ None) where
  abbrev x : MetaVal
  x = record { name = name; scope = scope; body = u }

  grown-one : IsGrown i (with_value i name scope u)
  grown-one = record { ambient = refl; ctxs = refl; params = refl; metas = λ other y e. meta-kept i.metas x y other e }

  agrees-one : (v : Instance) → Agrees v i → v.values.meta name ≡ u → Agrees v (with_value i name scope u)
  agrees-one v a is = record {
    ambient = a.ambient;
    ctxs = a.ctxs;
    metas = λ other y e. elim (meta-either i.metas x y other e) [
      | inl k ↦ a.metas other y k
      | inr k ↦ ap v.values.meta (sym k.0) ∙ is ∙ ap (λ (z : MetaVal). z.body) (sym k.1)
    ];
    params = a.params;
  }

-- ## All needs

-- what the instance with all values has
pub record IsFilled (i new : Inst) (ns : List Need) (gs : List Given) : Type 0 where
  pub grown : IsGrown i new
  pub meets : (v : Instance) → Agrees v new → AllMeetBy i.ctxs v ns gs
  pub others : (name : Sym) → find_meta i.metas name ≡ None → is_needed ns name ≡ false → find_meta new.metas name ≡ None

-- the instance with the value of one need
abbrev value_for : Inst → Need → Term → Inst
value_for i n u = with_value i n.name (length (given_levels i.ctxs n.ctxs n.arity)) u

abbrev entry_for : Inst → Need → Term → MetaVal
entry_for i n u = record { name = n.name; scope = length (given_levels i.ctxs n.ctxs n.arity); body = u }

grown-both : (i middle new : Inst) → IsGrown i middle → IsGrown middle new → IsGrown i new
grown-both i middle new g h = record {
  ambient = h.ambient ∙ g.ambient;
  ctxs = h.ctxs ∙ g.ctxs;
  params = h.params ∙ g.params;
  metas = λ name x e. h.metas name x (g.metas name x e);
}

filled-one : (i new : Inst) (n : Need) (g : Given) (ns : List Need) (gs : List Given) (u : Term) → IsUsable i.ctxs n → IsTrue (in_scope_of g.body (200 + n.arity)) → find_meta i.metas n.name ≡ None →
    unrenamed (given_levels i.ctxs n.ctxs n.arity) (200 + n.arity) g.body ≡ Some u → IsFilled (value_for i n u) new ns gs → IsFilled i new (n ∷ ns) (g ∷ gs)
filled-one i new n g ns gs u usable scoped fresh e r =
    let there = r.grown.metas n.name (entry_for i n u) (meta-new i.metas (entry_for i n u) fresh) in
    record {
      grown = grown-both i (value_for i n u) new (grown-one i n.name (length (given_levels i.ctxs n.ctxs n.arity)) u fresh) r.grown;
      meets = λ v a. (found-met i.ctxs n g usable scoped v u e (a.metas n.name (entry_for i n u) there), r.meets v a);
      others = λ name none k.
          let here : nat_eq n.name.0 name.0 ≡ false = grind (arith, common_steps, k) in
          let rest : is_needed ns name ≡ false = grind (arith, common_steps, k) in
          r.others name (meta-none i.metas (entry_for i n u) name none here) rest;
    }

pub filled : (ns : List Need) (gs : List Given) (i new : Inst) → length ns ≡ length gs → AreUsable i.ctxs ns gs → AreNew i.metas ns → given_all ns gs i ≡ Some new → IsFilled i new ns gs
filled [] [] i new many usable fresh e =
    let same : i ≡ new = ap (value_or i) e in
    subst (λ j. IsFilled i j [] []) same
    (record { grown = record { ambient = refl; ctxs = refl; params = refl; metas = λ name x k. k }; meets = λ v a. tt; others = λ name k m. k })
filled [] (g ∷ gs) i new many usable fresh e = absurd (omega arith)
filled (n ∷ ns) [] i new many usable fresh e = absurd usable
filled (n ∷ ns) (g ∷ gs) i new many usable fresh e =
    by (unrenamed (given_levels i.ctxs n.ctxs n.arity) (200 + n.arity) g.body) refl e
    (λ u k. filled ns gs (value_for i n u) new (omega arith) usable.2 (new_more i.metas (entry_for i n u) ns fresh.2 fresh.1) k)
  where
    by : (o : Option Term) → unrenamed (given_levels i.ctxs n.ctxs n.arity) (200 + n.arity) g.body ≡ o → option_and_then (given_all ns gs) (option_map (value_for i n) o) ≡ Some new →
        ((u : Term) → given_all ns gs (value_for i n u) ≡ Some new → IsFilled (value_for i n u) new ns gs) → IsFilled i new (n ∷ ns) (g ∷ gs)
    by None t k rest = absurd cc
    by (Some u) t k rest = filled-one i new n g ns gs u usable.0 usable.1 fresh.0 t (rest u k)

-- where an instance has values that give the terms, they are found
pub completed : (ns : List Need) (gs : List Given) (i : Inst) (v : Instance) → AreUsable i.ctxs ns gs → AreNew i.metas ns → Agrees v i → AllMeetBy i.ctxs v ns gs →
    (new : Inst) × ((given_all ns gs i ≡ Some new) × Agrees v new)
completed [] gs i v usable fresh a m = (i, (refl, a))
completed (n ∷ ns) [] i v usable fresh a m = absurd usable
completed (n ∷ ns) (g ∷ gs) i v usable fresh a m =
    let e = met-found i.ctxs n g usable.0 usable.1 v m.0 in
    let u = v.values.meta n.name in
    let rest = completed ns gs (value_for i n u) v usable.2 (new_more i.metas (entry_for i n u) ns fresh.2 fresh.1)
    (agrees-one i n.name (length (given_levels i.ctxs n.ctxs n.arity)) u fresh.0 v a refl) m.1 in
    (rest.0, (ap (λ o. option_and_then (given_all ns gs) (option_map (value_for i n) o)) e ∙ rest.1.0, rest.1.1))
