-- Where the variables of the contexts that a match finds lie in the goal.
use Rattle.std.proofs.Common.{◌≡◌, ℕ, ◌<◌, ◌^◌, List, length, Option, Some, None, option_and_then, IsTrue, IsSome, ◌↔◌, ap, ◌∙◌, arith}
use Rattle.std.specs.Option.{option_map}
use Rattle.std.specs.Prelude.{IfSome}
use Rattle.std.proofs.lemmas.Option.{option_and_then_some}
use Rattle.mp_logic.specs.declared.sym.Sym.{Sym}
use Rattle.mp_term.specs.declared.sequent.Sequent.{Sequent}
use Rattle.mp_term.specs.Limits.{sequent_in_scope_of}
use Rattle.mp_schema.specs.declared.instance.Inst.{Inst}
use Rattle.mp_schema.specs.declared.schema.Schema.{Schema}
use Rattle.mp_schema.specs.Conditions.{Before, nothing_before, past_all, has, is_known, is_conclusion, has_two_contexts}
use Rattle.mp_schema.specs.Values.{variables_of}
use Rattle.mp_match.specs.declared.place.Found.{Found}
use Rattle.mp_match.specs.declared.place.Walk.{Walk}
use Rattle.mp_match.specs.declared.sizes.Sizes.{Sizes}
use Rattle.mp_match.specs.Matching.{found_in}
use Rattle.mp_match.specs.Matches.{as_instance}
use Rattle.mp_match.specs.Places.{names_of, ground_of, levels_at}
use Rattle.mp_match.specs.Spread.{IsSpread}
use Rattle.mp_match.specs.Walks.{sizes_of, items_found, first_walk, concl_found, match_of}
use Rattle.mp_term.specs.Subst.{widest_in_sequent}
use Rattle.mp_schema.proofs.Apart.{Below-to}
use Rattle.mp_match.proofs.Ended.{end-laid, end-next}
use Rattle.mp_match.proofs.Laid.{laid-ends, variables-distinct, variables-below, ctx-none}
use Rattle.mp_match.proofs.Ready.{before-all}
use Rattle.mp_match.proofs.SequentSizes.{given-two, sizes-counted}

module _ (s : Schema) (first : Option ℕ) (goal : Sequent) (conclusion : IsTrue (is_conclusion s)) (two : IsSome first ↔ IsTrue (has_two_contexts s))
    (scoped : IsTrue (sequent_in_scope_of goal)) (narrow : widest_in_sequent goal < 2 ^ 31) where
  module _ (sizes : Sizes) (shares : sizes_of s.items first (length goal.hyps) ≡ Some sizes) (w : Walk) (walked : items_found sizes goal.hyps s.items first_walk ≡ Some w) (f : Found) where
    spread_walk : IsSpread (as_instance w.place f) s goal
    spread_walk =
        let counted = sizes-counted s.items first (length goal.hyps) sizes (given-two s first conclusion two) shares in
        let laid = end-laid s goal conclusion scoped narrow sizes counted w walked in
        let next = end-next s goal conclusion scoped narrow sizes counted w walked in
        let b = before-all sizes goal.hyps s.items first_walk w walked in
        let named : names_of w.place.ctxs ≡ (past_all s.items nothing_before).contexts = ap (λ (x : Before). x.contexts) b in
        record {
          distinct = λ names e.
              let known : IsTrue (is_known (names_of w.place.ctxs) names) = ap (λ (ks : List Sym). is_known ks names) named ∙ e in
              variables-distinct w.place laid names known;
          below = λ names. rw next at (Below-to w.place.next (variables_of w.place.ctxs names) (variables-below w.place laid names));
          few = λ name. let e = laid-ends w.place laid name in omega (arith, next);
          others = λ name e. ctx-none w.place.ctxs name (ap (λ (ks : List Sym). has ks name) named ∙ e);
        }

  spread_concl : (sizes : Sizes) → sizes_of s.items first (length goal.hyps) ≡ Some sizes → (w : Walk) → items_found sizes goal.hyps s.items first_walk ≡ Some w →
      (o : Option Found) → (i : Inst) → option_map (as_instance w.place) o ≡ Some i → IsSpread i s goal
  spread_concl sizes shares w walked None i is = absurd (cc)
  spread_concl sizes shares w walked (Some f) i is = let same : i ≡ as_instance w.place f = cc in rw same (spread_walk sizes shares w walked f)

  pub match_spreads : (i : Inst) → match_of s first goal ≡ Some i → IsSpread i s goal
  match_spreads i e =
      option_and_then_some (λ (sizes : Sizes). option_and_then (concl_found s.concl goal.concl) (items_found sizes goal.hyps s.items first_walk))
      (sizes_of s.items first (length goal.hyps)) i e (λ sizes shares rest.
      option_and_then_some (concl_found s.concl goal.concl) (items_found sizes goal.hyps s.items first_walk) i rest (λ w walked k.
      spread_concl sizes shares w walked (found_in (ground_of w.place) s.concl (levels_at w.place w.place.next) w.place.next goal.concl w.found) i k))

  pub sequent_spread : (o : Option Inst) → match_of s first goal ≡ o → IfSome o (λ i. IsSpread i s goal)
  sequent_spread None e = tt
  sequent_spread (Some i) e = match_spreads i e
