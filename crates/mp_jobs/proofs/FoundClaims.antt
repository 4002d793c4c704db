-- A claim is found exactly where it can be changed.
use Rattle.std.proofs.Common.{◌≡◌, ℕ, Bool, true, false, ◌||◌, ◌&&◌, ◌==◌, nat_le, ◌⊎◌, inl, inr, if◌then◌else◌, IsTrue, List, [], ◌∷◌, map, refl, ap, sym, ◌∙◌, Some, None}
use Rattle.std.proofs.lemmas.Bool.{eq-eqb}
use Rattle.std.specs.List.{AllByRecursion, list_any}
use Rattle.std.specs.Option.{is_some}
use Rattle.std.specs.declared.option.Option.{Option}
use Rattle.mp_strategy.specs.declared.work.Work.{Work}
use Rattle.mp_jobs.specs.declared.node.Node.{Node, Node-F, Claimed}
use Rattle.mp_jobs.specs.Finding.{some_step, some_job, has_claim_of, older, oldest, oldest_step, oldest_claim_of}
use Rattle.mp_jobs.specs.Jobs.{some_if, same_work, place_rule, reclaim_rule}
use Rattle.mp_jobs.specs.Walks.{first_change}
use Rattle.mp_jobs.proofs.Folds.{fold-Todo, fold-Claimed, fold-Done, fold-Then, fold-Leaves, fold-Else, fold-Race, fold-Check}
use Rattle.mp_jobs.proofs.FoundJobs.{found, claim_rule}
use Rattle.mp_jobs.proofs.Induction.{node_ind}

some_as : {A : Type 0} (b : Bool) (a : A) → is_some (some_if b a) ≡ b
some_as true a = refl
some_as false a = refl

or_left : (a b : Bool) → a ≡ true → (a || b) ≡ true
or_left true b e = refl
or_left false b e = absurd (cc)

or_right : (a b : Bool) → b ≡ true → (a || b) ≡ true
or_right true b e = refl
or_right false b e = e

module _ {G : Type 0} where
  pub claim_placed : (same : G → G → Bool) (epoch : ℕ) (work : Work G) (new n : Node G) → is_some (first_change (place_rule same epoch work new) n) ≡ has_claim_of same epoch work n
  claim_placed same epoch work new n =
      found (place_rule same epoch work new) (λ w. false) (λ own who w. is_some (some_if ((own == epoch) && same_work same w work) new)) (claim_rule (λ own who w. some_if ((own == epoch) && same_work same w work) new)) n
      ∙ ap (λ (test : ℕ → ℕ → Work G → Bool). some_job (λ w. false) test n) (λ i own who w. some_as ((own == epoch) && same_work same w work) new i)

  -- a claim under this epoch
  abbrev under : ℕ → ℕ → ℕ → Work G → Bool
  under epoch own who w = own == epoch

  older_by : (b : Bool) (x y claim : ℕ × Work G) → (if b then Some x else Some y) ≡ Some claim → (Some x ≡ Some claim) ⊎ (Some y ≡ Some claim)
  older_by true x y claim e = inl e
  older_by false x y claim e = inr e

  pub one_of : (a b : Option (ℕ × Work G)) (claim : ℕ × Work G) → older a b ≡ Some claim → (a ≡ Some claim) ⊎ (b ≡ Some claim)
  one_of None b claim e = inr e
  one_of (Some x) None claim e = inl e
  one_of (Some x) (Some y) claim e = older_by (nat_le x.0 y.0) x y claim e

  module _ (claim : ℕ × Work G) where
    abbrev test : ℕ → ℕ → Work G → Bool
    test = under claim.0

    abbrev step : Node-F G Bool → Bool
    step = some_step (λ w. false) test

    abbrev Has : Node G → Type 0
    Has n = oldest_claim_of n ≡ Some claim → some_job (λ w. false) test n ≡ true

    has_either : (a b : Node G) → Has a → Has b → (oldest_claim_of a ≡ Some claim) ⊎ (oldest_claim_of b ≡ Some claim) → (some_job (λ w. false) test a || some_job (λ w. false) test b) ≡ true
    has_either a b h k (inl e) = or_left _ _ (h e)
    has_either a b h k (inr e) = or_right _ _ (k e)

    has_each : (ks : List (Node G)) → AllByRecursion Has ks → oldest (map oldest_claim_of ks) ≡ Some claim → list_any (λ b. b) (map (some_job (λ w. false) test) ks) ≡ true
    has_each [] h e = absurd (cc)
    has_each (k ∷ ks) h e = by (one_of (oldest_claim_of k) (oldest (map oldest_claim_of ks)) claim e) (has_each ks h.1) where
      by : (oldest_claim_of k ≡ Some claim) ⊎ (oldest (map oldest_claim_of ks) ≡ Some claim) → (oldest (map oldest_claim_of ks) ≡ Some claim → list_any (λ b. b) (map (some_job (λ w. false) test) ks) ≡ true)
          → (some_job (λ w. false) test k || list_any (λ b. b) (map (some_job (λ w. false) test) ks)) ≡ true
      by (inl x) rest = or_left _ _ (h.0 x)
      by (inr x) rest = or_right _ _ (rest x)

    none : (n : Node G) → oldest_claim_of n ≡ None → Has n
    none n e f = absurd (cc)

    pub has_oldest : (n : Node G) → Has n
    has_oldest = node_ind Has (record {
      todo = λ w. none _ (fold-Todo oldest_step w);
      claimed = λ e who w f. fold-Claimed step e who w ∙ (let is : (e, w) ≡ claim = (let g = fold-Claimed oldest_step e who w in (cc)) in ap (λ (c : ℕ × Work G). e == c.0) (sym is) ∙ eq-eqb e e refl);
      done = λ o. none _ (fold-Done oldest_step o);
      then = λ w f h e. fold-Then step w f ∙ h (sym (fold-Then oldest_step w f) ∙ e);
      check = λ w f h e. fold-Check step w f ∙ h (sym (fold-Check oldest_step w f) ∙ e);
      leaves = λ t ks c h e. fold-Leaves step t ks c ∙ has_each ks h (sym (fold-Leaves oldest_step t ks c) ∙ e);
      or = λ a b h k e. fold-Else step a b ∙ has_either a b h k (one_of (oldest_claim_of a) (oldest_claim_of b) claim (sym (fold-Else oldest_step a b) ∙ e));
      race = λ ks h e. fold-Race step ks ∙ has_each ks h (sym (fold-Race oldest_step ks) ∙ e);
    })

  pub oldest_reclaimed : (n : Node G) (claim : ℕ × Work G) (epoch : ℕ) → oldest_claim_of n ≡ Some claim → IsTrue (is_some (first_change (reclaim_rule claim.0 epoch) n))
  oldest_reclaimed n claim epoch e =
      found (reclaim_rule claim.0 epoch) (λ w. false) (λ own who w. is_some (some_if (own == claim.0) (Claimed epoch 0 w))) (claim_rule (λ own who w. some_if (own == claim.0) (Claimed epoch 0 w))) n
      ∙ ap (λ (test : ℕ → ℕ → Work G → Bool). some_job (λ w. false) test n) (λ i own who w. some_as (own == claim.0) (Claimed epoch 0 w) i)
      ∙ has_oldest claim n e
