-- The works of a node that has the shape of a node may be given to calls.
use Rattle.std.proofs.Common.{◌≡◌, ℕ, ◌⊎◌, inl, inr, List, [], ◌∷◌, map, sym, subst, ◌∙◌, Some, None}
use Rattle.std.specs.List.{AllByRecursion}
use Rattle.std.specs.Option.{option_or}
use Rattle.std.specs.declared.option.Option.{Option}
use Rattle.mp_logic.specs.Meaning.{Meaning}
use Rattle.mp_strategy.specs.declared.problem.ProblemState.{ProblemState}
use Rattle.mp_strategy.specs.declared.work.Work.{Work}
use Rattle.mp_strategy.specs.Works.{IsWork}
use Rattle.mp_jobs.specs.declared.node.Node.{Node}
use Rattle.mp_jobs.specs.Finding.{first_some, todo_step, first_todo_of, oldest, oldest_step, oldest_claim_of}
use Rattle.mp_jobs.specs.JobLaws.{JobsAreWorks}
use Rattle.mp_jobs.specs.Shapes.{Shape}
use Rattle.mp_jobs.proofs.Folds.{fold-Todo, fold-Claimed, fold-Done, fold-Then, fold-Leaves, fold-Else, fold-Race, fold-Check}
use Rattle.mp_jobs.proofs.FoundClaims.{one_of}
use Rattle.mp_jobs.proofs.Induction.{node_ind}
use Rattle.mp_jobs.proofs.ShapeSteps.{shape-Todo, shape-Claimed, shape-Then, shape-Check, shape-Leaves, shape-Else, shape-Race, into}

first_of : {A : Type 0} (a b : Option A) (x : A) → option_or a b ≡ Some x → (a ≡ Some x) ⊎ (b ≡ Some x)
first_of (Some y) b x e = inl e
first_of None b x e = inr e

module _ {L G J : Type 0} (meaning : L → Meaning G J) (p : ProblemState L J) where
  abbrev H : Node G → Type 0
  H = Shape meaning p

  -- what is found in a node has a work that may be given to calls, where work_of says which it has
  module _ {A : Type 0} (find : Node G → Option A) (work_of : A → Work G) where
    abbrev Fits : Node G → Type 0
    Fits n = H n → (x : A) → find n ≡ Some x → IsWork meaning p (work_of x)

    none : (n : Node G) → find n ≡ None → Fits n
    none n e h x f = absurd (cc)

    here : (n : Node G) (x : A) → find n ≡ Some x → (H n → IsWork meaning p (work_of x)) → Fits n
    here n x e k h y f = let is : x ≡ y = cc in subst (λ z. IsWork meaning p (work_of z)) is (k h)

    moved : (n : Node G) (o : Option A) → find n ≡ o → (H n → (x : A) → o ≡ Some x → IsWork meaning p (work_of x)) → Fits n
    moved n o e k h x f = k h x (sym e ∙ f)

  abbrev Todos : Node G → Type 0
  Todos = Fits first_todo_of (λ w. w)

  either_todo : (a b : Option (Work G)) (x : Work G) → ((a ≡ Some x) → IsWork meaning p x) → ((b ≡ Some x) → IsWork meaning p x) → (a ≡ Some x) ⊎ (b ≡ Some x) → IsWork meaning p x
  either_todo a b x h k (inl e) = h e
  either_todo a b x h k (inr e) = k e

  todos_each : (ks : List (Node G)) → AllByRecursion Todos ks → AllByRecursion H ks → (x : Work G) → first_some (map first_todo_of ks) ≡ Some x → IsWork meaning p x
  todos_each [] i h x e = absurd (cc)
  todos_each (k ∷ ks) i h x e =
      either_todo (first_todo_of k) (first_some (map first_todo_of ks)) x (i.0 h.0 x) (todos_each ks i.1 h.1 x) (first_of (first_todo_of k) (first_some (map first_todo_of ks)) x e)

  todo_works : (n : Node G) → Todos n
  todo_works = node_ind Todos (record {
    todo = λ w. here first_todo_of (λ w. w) _ w (fold-Todo todo_step w) (λ h. into _ _ (shape-Todo meaning p w) h);
    claimed = λ e who w. none first_todo_of (λ w. w) _ (fold-Claimed todo_step e who w);
    done = λ o. none first_todo_of (λ w. w) _ (fold-Done todo_step o);
    then = λ w f i. moved first_todo_of (λ w. w) _ _ (fold-Then todo_step w f) (λ h x e. i (into _ _ (shape-Then meaning p w f) h).2 x e);
    check = λ w f i. moved first_todo_of (λ w. w) _ _ (fold-Check todo_step w f) (λ h x e. i (into _ _ (shape-Check meaning p w f) h).2 x e);
    leaves = λ t ks c i. moved first_todo_of (λ w. w) _ _ (fold-Leaves todo_step t ks c) (λ h x e. todos_each ks i (into _ _ (shape-Leaves meaning p t ks c) h).1 x e);
    or = λ a b i j. moved first_todo_of (λ w. w) _ _ (fold-Else todo_step a b)
        (λ h x e. (let s = into _ _ (shape-Else meaning p a b) h in either_todo (first_todo_of a) (first_todo_of b) x (i s.0 x) (j s.1 x) (first_of (first_todo_of a) (first_todo_of b) x e)));
    race = λ ks i. moved first_todo_of (λ w. w) _ _ (fold-Race todo_step ks) (λ h x e. todos_each ks i (into _ _ (shape-Race meaning p ks) h).1 x e);
  })

  abbrev Claims : Node G → Type 0
  Claims = Fits oldest_claim_of (λ claim. claim.1)

  either_claim : (a b : Option (ℕ × Work G)) (x : ℕ × Work G) → ((a ≡ Some x) → IsWork meaning p x.1) → ((b ≡ Some x) → IsWork meaning p x.1) → (a ≡ Some x) ⊎ (b ≡ Some x) → IsWork meaning p x.1
  either_claim a b x h k (inl e) = h e
  either_claim a b x h k (inr e) = k e

  claims_each : (ks : List (Node G)) → AllByRecursion Claims ks → AllByRecursion H ks → (x : ℕ × Work G) → oldest (map oldest_claim_of ks) ≡ Some x → IsWork meaning p x.1
  claims_each [] i h x e = absurd (cc)
  claims_each (k ∷ ks) i h x e =
      either_claim (oldest_claim_of k) (oldest (map oldest_claim_of ks)) x (i.0 h.0 x) (claims_each ks i.1 h.1 x) (one_of (oldest_claim_of k) (oldest (map oldest_claim_of ks)) x e)

  claim_works : (n : Node G) → Claims n
  claim_works = node_ind Claims (record {
    todo = λ w. none oldest_claim_of (λ claim. claim.1) _ (fold-Todo oldest_step w);
    claimed = λ e who w. here oldest_claim_of (λ claim. claim.1) _ (e, w) (fold-Claimed oldest_step e who w) (λ h. into _ _ (shape-Claimed meaning p e who w) h);
    done = λ o. none oldest_claim_of (λ claim. claim.1) _ (fold-Done oldest_step o);
    then = λ w f i. moved oldest_claim_of (λ claim. claim.1) _ _ (fold-Then oldest_step w f) (λ h x e. i (into _ _ (shape-Then meaning p w f) h).2 x e);
    check = λ w f i. moved oldest_claim_of (λ claim. claim.1) _ _ (fold-Check oldest_step w f) (λ h x e. i (into _ _ (shape-Check meaning p w f) h).2 x e);
    leaves = λ t ks c i. moved oldest_claim_of (λ claim. claim.1) _ _ (fold-Leaves oldest_step t ks c) (λ h x e. claims_each ks i (into _ _ (shape-Leaves meaning p t ks c) h).1 x e);
    or = λ a b i j. moved oldest_claim_of (λ claim. claim.1) _ _ (fold-Else oldest_step a b)
        (λ h x e. (let s = into _ _ (shape-Else meaning p a b) h in either_claim (oldest_claim_of a) (oldest_claim_of b) x (i s.0 x) (j s.1 x) (one_of (oldest_claim_of a) (oldest_claim_of b) x e)));
    race = λ ks i. moved oldest_claim_of (λ claim. claim.1) _ _ (fold-Race oldest_step ks) (λ h x e. claims_each ks i (into _ _ (shape-Race meaning p ks) h).1 x e);
  })

  pub jobs_works : JobsAreWorks meaning p
  jobs_works n h = (todo_works n h, claim_works n h)
