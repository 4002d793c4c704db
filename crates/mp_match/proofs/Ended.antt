-- The place of the conclusion.
use Rattle.std.proofs.Common.{◌≡◌, ℕ, ◌+◌, ◌-◌, ◌<◌, ◌^◌, [], length, true, IsTrue, Some, sym, subst, ap, arith}
use Rattle.mp_term.specs.declared.sequent.Sequent.{Sequent}
use Rattle.mp_term.specs.Terms.{in_scope_of}
use Rattle.mp_term.specs.Limits.{in_scopes_from, sequent_in_scope_of}
use Rattle.mp_term.specs.Subst.{widest_of, widest_from, widest_in_sequent}
use Rattle.mp_schema.specs.declared.schema.Schema.{Schema}
use Rattle.mp_schema.specs.Conditions.{Before, seen, below, lists_known, each_item, item_placed, item_fine, pattern_placed, past_all, nothing_before, is_conclusion}
use Rattle.mp_match.specs.declared.place.Walk.{Walk}
use Rattle.mp_match.specs.declared.sizes.Sizes.{Sizes}
use Rattle.mp_match.specs.Places.{before, names_of, IsUsable}
use Rattle.mp_match.specs.Walks.{needed, items_found, first_walk}
use Rattle.mp_term.proofs.EqualTerms.{both_true}
use Rattle.mp_match.proofs.Laid.{IsLaid, laid-usable}
use Rattle.mp_match.proofs.Ready.{Ready, Ready-init, Ready-all, before-all}
use Rattle.mp_match.proofs.SequentSizes.{IsConclusion, conclusion-parts}

module _ (s : Schema) (goal : Sequent) (conclusion : IsTrue (is_conclusion s)) (scoped : IsTrue (sequent_in_scope_of goal)) (narrow : widest_in_sequent goal < 2 ^ 31) where
  abbrev parts : IsConclusion s
  parts = conclusion-parts s conclusion

  pub items-placed : each_item item_placed s.items nothing_before ≡ true
  items-placed = (both_true (each_item item_placed s.items nothing_before) (pattern_placed s.concl (past_all s.items nothing_before)) parts.placed).0

  pub items-fine : each_item item_fine s.items nothing_before ≡ true
  items-fine = (both_true (each_item item_fine s.items nothing_before) ((seen s.concl).fine (past_all s.items nothing_before).named) parts.fine).0

  scopes : IsTrue (in_scopes_from 0 goal.hyps) × IsTrue (in_scope_of goal.concl (length goal.hyps))
  scopes = both_true (in_scopes_from 0 goal.hyps) (in_scope_of goal.concl (length goal.hyps)) scoped

  pub hyps-scoped : IsTrue (in_scopes_from 0 goal.hyps)
  hyps-scoped = scopes.0

  pub hyps-narrow : widest_from 0 goal.hyps < 2 ^ 31
  hyps-narrow = omega (arith, narrow)

  module _ (sizes : Sizes) (counted : needed s.items sizes.first sizes.later ≡ length goal.hyps) where
    pub started : Ready sizes goal.hyps s.items first_walk.place
    started = Ready-init sizes goal.hyps s.items items-placed items-fine counted hyps-scoped hyps-narrow

    module _ (w : Walk) (is : items_found sizes goal.hyps s.items first_walk ≡ Some w) where
      ready : Ready sizes goal.hyps [] w.place
      ready = Ready-all sizes goal.hyps s.items first_walk w started is

      pub end-laid : IsLaid w.place
      end-laid = ready.laid

      pub end-usable : IsUsable w.place
      end-usable = laid-usable w.place ready.laid

      pub end-next : w.place.next ≡ length goal.hyps
      end-next = let n = ready.counted in omega (arith, n)

      behind-is : before w.place ≡ past_all s.items nothing_before
      behind-is = before-all sizes goal.hyps s.items first_walk w is

      concl-both : below s.concl (length w.place.named) ≡ true × lists_known (names_of w.place.ctxs) s.concl ≡ true
      concl-both =
          let k = (both_true (each_item item_placed s.items nothing_before) (pattern_placed s.concl (past_all s.items nothing_before)) parts.placed).1 in
          let k' : pattern_placed s.concl (before w.place) ≡ true = subst (λ (b : Before). pattern_placed s.concl b ≡ true) (sym behind-is) k in
          both_true (below s.concl (length w.place.named)) (lists_known (names_of w.place.ctxs) s.concl) k'

      pub end-known : lists_known (names_of w.place.ctxs) s.concl ≡ true
      end-known = concl-both.1

      pub end-fine : (seen s.concl).fine (length w.place.named) ≡ true
      end-fine =
          let k = (both_true (each_item item_fine s.items nothing_before) ((seen s.concl).fine (past_all s.items nothing_before).named) parts.fine).1 in
          let e : length w.place.named ≡ (past_all s.items nothing_before).named = ap (λ b. b.named) behind-is in
          rw e k

      pub end-fine_within : (scope : ℕ) → scope ≡ w.place.next → (seen s.concl).fine (length w.place.named + (scope - w.place.next)) ≡ true
      end-fine_within scope e = let k : length w.place.named + (scope - w.place.next) ≡ length w.place.named = omega (arith, e) in rw k end-fine

      pub end-scoped : IsTrue (in_scope_of goal.concl w.place.next)
      end-scoped = rw end-next scopes.1

      pub end-narrow : widest_of goal.concl w.place.next < 2 ^ 31
      end-narrow = rw end-next (omega (arith, narrow))
