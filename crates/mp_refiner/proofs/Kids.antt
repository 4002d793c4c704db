-- The subgoals, one after the other.
use Rattle.std.proofs.Common.{◌≡◌, ℕ, ◌+◌, ◌<◌, ◌≤◌, List, [], ◌∷◌, ◌++◌, map, length, drop, get_or, true, false, refl, ◌∙◌, arith, append_assoc, IsTrue}
use Rattle.std.specs.Prelude.{Ok, Err, ◌&&◌, IsFalse}
use Rattle.std.specs.List.{list_all}
use Rattle.std.proofs.lemmas.Grind.{common_steps}
use Rattle.mp_logic.specs.declared.logic.Why.TheVariants.{TooLarge}
use Rattle.mp_term.specs.declared.sequent.Sequent.{Sequent}
use Rattle.mp_term.specs.Limits.{within_limits_of}
use Rattle.mp_term.proofs.SubLaws.{drop-at}
use Rattle.mp_schema.specs.declared.schema.Schema.{Schema}
use Rattle.mp_rewrite.specs.Steps.{if_each}

all-append : (xs ys : List Sequent) → list_all within_limits_of (xs ++ ys) ≡ (list_all within_limits_of xs && list_all within_limits_of ys)
all-append [] ys = refl
all-append (x ∷ xs) ys = let ih = all-append xs ys in grind (arith, common_steps, ih)

module _ (f : Schema → Sequent) (ps : List Schema) where
  -- the kids made so far are those of the first premises, and each is within the limits
  pub record Made (kids : List Sequent) (i : ℕ) : Type 0 where
    pub made : kids ++ map f (drop i ps) ≡ map f ps
    pub small : list_all within_limits_of kids ≡ true

  pub Made-fails : (kids : List Sequent) (i : ℕ) (p : Schema) → i < length ps → p ≡ get_or ps i p → IsFalse (within_limits_of (f p)) → Made kids i → if_each within_limits_of (map f ps) ≡ Err TooLarge
  Made-fails kids i p lt is k m =
      let parts = drop-at ps i p lt is in
      let j : kids ++ f p ∷ map f (drop (i + 1) ps) ≡ map f ps = rw parts at m.made in
      let l = all-append kids (f p ∷ map f (drop (i + 1) ps)) in
      let large : list_all within_limits_of (map f ps) ≡ false = grind (arith, common_steps, j, k, l) in
      rw large refl
