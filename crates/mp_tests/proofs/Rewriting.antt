-- What building asks of a contractum whose redex was matched.
use Rattle.std.proofs.Common.{◌≡◌, ℕ, ◌<◌, ◌≤◌, ◌^◌, List, [], length, Bool, true, false, ◌&&◌, Option, Some, None, is_some, IsTrue, refl, arith}
use Rattle.std.proofs.lemmas.Bool.Decides.{nat_tests}
use Rattle.std.specs.Prelude.{All}
use Rattle.mp_term.specs.declared.term.Term.{Term}
use Rattle.mp_schema.specs.declared.instance.CtxVal.{CtxVal}
use Rattle.mp_schema.specs.declared.instance.MetaVal.{MetaVal}
use Rattle.mp_schema.specs.declared.instance.Inst.{Inst}
use Rattle.mp_schema.specs.declared.pattern.Pattern.{Pattern}
use Rattle.mp_schema.specs.Conditions.{below, lists_known, seen}
use Rattle.mp_schema.specs.Faultless.{IsFaultlessRewrite, RewritesAreFaultless, ConditionsFit}
use Rattle.mp_schema.specs.Faults.{rewrite_fault_of}
use Rattle.mp_schema.specs.Instances.{fits}
use Rattle.mp_schema.specs.Limits.{is_shallow_pattern}
use Rattle.mp_schema.specs.Sequents.{Instance, wide_of}
use Rattle.mp_schema.specs.Values.{instance_of}
use Rattle.mp_schema.specs.Solutions.{GivesTerm}
use Rattle.mp_build.specs.Laws.{IsTameTerm, TameEntries, PatternIsNarrow, PlainFits}
use Rattle.mp_build.specs.Rooms.{room}

pub none_from : {X : Type 0} (o : Option X) → is_some o ≡ false → o ≡ None
none_from None h = refl
none_from (Some x) h = absurd (cc)

both_true : (a b : Bool) → IsTrue (a && b) → IsTrue a × IsTrue b
both_true true b h = (refl, h)
both_true false b h = absurd (cc)

none_of : {X : Type 0} (P : X → Type 0) (xs : List X) → length xs ≡ 0 → All P xs
none_of P xs h k d low = absurd (omega (arith, h))

module _ (rewrites : RewritesAreFaultless) (conds : List Pattern) (redex contractum : Pattern) (none : rewrite_fault_of conds redex contractum ≡ None) where
  faultless : IsFaultlessRewrite conds redex contractum
  faultless = rewrites conds redex contractum none

  pub redex_fine : IsTrue ((seen redex).fine 0)
  redex_fine = faultless.fine

  pub redex_plain : IsTrue (lists_known [] redex)
  redex_plain = (both_true (below redex 0) (lists_known [] redex) faultless.placed_redex).1

  pub contractum_closed : IsTrue (below contractum 0)
  contractum_closed = (both_true (below contractum 0) (lists_known [] contractum) faultless.placed_contractum).0

  pub contractum_plain : IsTrue (lists_known [] contractum)
  contractum_plain = (both_true (below contractum 0) (lists_known [] contractum) faultless.placed_contractum).1

  pub contractum_fits : ConditionsFit → PlainFits → (scope : ℕ) (t : Term) (v : Instance) → GivesTerm scope redex t v → IsTrue (fits (wide_of v) v.values contractum)
  contractum_fits conditions plain scope t v gives =
      let same : wide_of v [] ≡ scope = let e = gives.ambient in omega (arith, e) in
      let told : IsTrue (fits (λ names. scope) v.values contractum) = (conditions (λ names. scope) v.values conds redex contractum none gives.fit).1 in
      rw (plain (wide_of v) (λ names. scope) v.values contractum contractum_plain same) told

  pub contractum_narrow : TameEntries → PatternIsNarrow → (i : Inst) → i.ambient ≤ 10000 → length i.ctxs ≡ 0 → All (λ (x : MetaVal). IsTameTerm x.body) i.metas → let v = instance_of i in room (wide_of v) v.values contractum v.ambient < 2 ^ 31
  contractum_narrow entries narrow i ambient bare metas =
      let tame = entries i (record {
        ambient = ambient;
        metas = metas;
        many = none_of (λ (x : CtxVal). length x.hyps ≤ 200) i.ctxs bare;
        kept = none_of (λ (x : CtxVal). All IsTameTerm x.hyps) i.ctxs bare;
      }) in
      let depth = faultless.limited_contractum.shallow in
      let shallow : IsTrue (is_shallow_pattern contractum) = grind (arith, nat_tests, depth) in
      narrow (instance_of i) contractum tame faultless.limited_contractum.few shallow
