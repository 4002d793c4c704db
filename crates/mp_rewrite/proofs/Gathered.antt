-- The subgoals, one after the other.
use Rattle.std.proofs.Common.{◌≡◌, ℕ, ◌+◌, ◌<◌, ◌≤◌, zero, suc, List, [], ◌∷◌, ◌++◌, map, length, drop, get_or, true, false, refl, sym, ap, ◌∙◌, subst, arith, append_assoc, append-nil, IsTrue}
use Rattle.std.specs.Prelude.{◌&&◌, Err, IsFalse}
use Rattle.std.specs.List.{list_all}
use Rattle.std.proofs.lemmas.Grind.{common_steps}
use Rattle.mp_term.specs.declared.sequent.Sequent.{Sequent}
use Rattle.mp_term.specs.Limits.{within_limits_of}
use Rattle.mp_term.proofs.EqualTerms.{and_true}
use Rattle.mp_term.proofs.SubLaws.{drop-at}
use Rattle.mp_schema.specs.declared.pattern.Pattern.{Pattern}
use Rattle.mp_build.specs.declared.error.BuildErr.{BuildErr}
use Rattle.mp_build.specs.declared.error.BuildErr.TheVariants.{TooLarge, NoMemory}
use Rattle.mp_build.specs.Built.{IsBuilt}
use Rattle.mp_schema.specs.Sequents.{Instance}
use Rattle.mp_term.specs.declared.term.Term.{Term}
use Rattle.mp_theory.specs.declared.place.Place.{Place}
use Rattle.mp_rewrite.specs.Addresses.{hyps_before}
use Rattle.mp_rewrite.specs.Building.{AreBuilt}
use Rattle.mp_rewrite.specs.RewriteStep.{made_by, condition_by}

all-append : (xs ys : List Sequent) → list_all within_limits_of (xs ++ ys) ≡ (list_all within_limits_of xs && list_all within_limits_of ys)
all-append [] ys = refl
all-append (x ∷ xs) ys = let ih = all-append xs ys in grind (arith, common_steps, ih)

drop-all : {X : Type 0} (xs : List X) (i : ℕ) → length xs ≤ i → drop i xs ≡ []
drop-all [] zero h = refl
drop-all [] (suc i) h = refl
drop-all (x ∷ xs) zero h = absurd (omega (arith, h))
drop-all (x ∷ xs) (suc i) h = drop-all xs i (omega (arith, h))

module _ (f : Pattern → Sequent) (ps : List Pattern) (all : List Sequent) where
  -- the kids made so far are those before the ones of the further conditions, and each is within the limits
  pub record Made (kids : List Sequent) (i : ℕ) : Type 0 where
    pub made : kids ++ map f (drop i ps) ≡ all
    pub small : list_all within_limits_of kids ≡ true

  pub Made-fails : (kids : List Sequent) (i : ℕ) (p : Pattern) → i < length ps → p ≡ get_or ps i p → IsFalse (within_limits_of (f p)) → Made kids i → list_all within_limits_of all ≡ false
  Made-fails kids i p lt is k m =
      let parts = drop-at ps i p lt is in
      let j : kids ++ f p ∷ map f (drop (i + 1) ps) ≡ all = rw parts at m.made in
      let l = all-append kids (f p ∷ map f (drop (i + 1) ps)) in
      grind (arith, common_steps, j, k, l)

  pub Made-next : (kids next : List Sequent) (i : ℕ) (p : Pattern) (kid : Sequent) → next ≡ kids ++ kid ∷ [] → i < length ps → p ≡ get_or ps i p → kid ≡ f p →
      IsTrue (within_limits_of (f p)) → Made kids i → Made next (i + 1)
  Made-next kids next i p kid pushed lt is same k m =
      let parts = drop-at ps i p lt is in
      let j : kids ++ f p ∷ map f (drop (i + 1) ps) ≡ all = rw parts at m.made in
      let l = all-append kids (f p ∷ []) in
      let small = m.small in
      record {
        made = rw (pushed, same, append_assoc) j;
        small = rw (pushed, same) (grind (arith, common_steps, k, l, small));
      }

  -- before the first condition there is the rewritten goal
  pub Made-first : (first kid : Sequent) (kids : List Sequent) → all ≡ first ∷ map f ps → kids ≡ kid ∷ [] → kid ≡ first → within_limits_of first ≡ true → Made kids 0
  Made-first first kid kids parts pushed same within = record {
    made = ap (λ ss. ss ++ map f ps) pushed ∙ ap (λ s. s ∷ map f ps) same ∙ sym parts;
    small = ap (list_all within_limits_of) pushed ∙ and_true (within_limits_of kid) true (ap within_limits_of same ∙ within) refl;
  }

  pub kid_err : (e : BuildErr) (kids : List Sequent) (i : ℕ) (p : Pattern) → i < length ps → p ≡ get_or ps i p → IsBuilt (f p) (Err e) → Made kids i → AreBuilt all (Err e)
  kid_err TooLarge kids i p lt is large m = Made-fails kids i p lt is large m
  kid_err NoMemory kids i p lt is none m = tt

  pub Made-end : (kids : List Sequent) (i : ℕ) → length ps ≤ i → Made kids i → (kids ≡ all) × (list_all within_limits_of all ≡ true)
  Made-end kids i past m =
      let none : drop i ps ≡ [] = drop-all ps i past in
      let same : kids ≡ all = sym (append-nil kids) ∙ ap (λ qs. kids ++ map f qs) (sym none) ∙ m.made in
      (same, ap (list_all within_limits_of) (sym same) ∙ m.small)

pub first_err : (e : BuildErr) (first : Sequent) (rest : List Sequent) → IsBuilt first (Err e) → AreBuilt (first ∷ rest) (Err e)
first_err TooLarge first rest large = ap (λ b. b && list_all within_limits_of rest) large
first_err NoMemory first rest none = tt

-- a refusal after these hypotheses is one of the condition
pub condition_err : (e : BuildErr) (place : Place) (goal : Sequent) (scope : ℕ) (v : Instance) (p : Pattern) (hyps : List Term) → hyps ≡ hyps_before place goal →
    IsBuilt (record { hyps = hyps; concl = made_by scope v p }) (Err e) → IsBuilt (condition_by place goal scope v p) (Err e)
condition_err e place goal scope v p hyps same h = subst (λ (ts : List Term). IsBuilt (record { hyps = ts; concl = made_by scope v p }) (Err e)) same h
