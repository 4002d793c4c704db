-- A rule on jobs changes jobs alone.
use Rattle.std.proofs.Common.{◌≡◌, ℕ, ap, sym, ◌∙◌, Some, None}
use Rattle.std.specs.declared.option.Option.{Option}
use Rattle.mp_strategy.specs.declared.work.Work.{Work}
use Rattle.mp_jobs.specs.declared.node.Node.{Node, Todo, Claimed, Done, Then, Leaves, Else, Race, Check, out-Node}
use Rattle.mp_jobs.specs.declared.node.Node.TheVariants.{outs-Todo, outs-Claimed, outs-Done, outs-Then, outs-Leaves, outs-Else, outs-Race, outs-Check}
use Rattle.mp_jobs.specs.Jobs.{on_todo, on_claim}
use Rattle.mp_jobs.proofs.Induction.{node_ind}

-- what a rule makes of claims it makes of each node that it changes
module _ {G : Type 0} (R : Node G → Node G → Type 0) (f : ℕ → ℕ → Work G → Option (Node G)) (h : (e who : ℕ) (w : Work G) (m : Node G) → f e who w ≡ Some m → R m (Claimed e who w)) where
  abbrev Ruled : Node G → Type 0
  Ruled n = (m : Node G) → on_claim f (out-Node G n) ≡ Some m → R m n

  none_claimed : (n m : Node G) → on_claim f (out-Node G n) ≡ None → on_claim f (out-Node G n) ≡ Some m → R m n
  none_claimed n m e g = absurd (cc)

  pub claims_by : (n m : Node G) → on_claim f (out-Node G n) ≡ Some m → R m n
  claims_by n = node_ind Ruled (record {
    todo = λ w m e. none_claimed (Todo w) m (ap (on_claim f) (outs-Todo w)) e;
    claimed = λ ep who w m e. h ep who w m (sym (ap (on_claim f) (outs-Claimed ep who w)) ∙ e);
    done = λ o m e. none_claimed (Done o) m (ap (on_claim f) (outs-Done o)) e;
    then = λ w k i m e. none_claimed (Then w k) m (ap (on_claim f) (outs-Then w k)) e;
    check = λ w k i m e. none_claimed (Check w k) m (ap (on_claim f) (outs-Check w k)) e;
    leaves = λ t ks c i m e. none_claimed (Leaves t ks c) m (ap (on_claim f) (outs-Leaves t ks c)) e;
    or = λ a b i j m e. none_claimed (Else a b) m (ap (on_claim f) (outs-Else a b)) e;
    race = λ ks i m e. none_claimed (Race ks) m (ap (on_claim f) (outs-Race ks)) e;
  }) n

-- the same of a rule on jobs that are to do
module _ {G : Type 0} (R : Node G → Node G → Type 0) (f : Work G → Option (Node G)) (h : (w : Work G) (m : Node G) → f w ≡ Some m → R m (Todo w)) where
  abbrev RuledTodo : Node G → Type 0
  RuledTodo n = (m : Node G) → on_todo f (out-Node G n) ≡ Some m → R m n

  none_todo : (n m : Node G) → on_todo f (out-Node G n) ≡ None → on_todo f (out-Node G n) ≡ Some m → R m n
  none_todo n m e g = absurd (cc)

  pub todos_by : (n m : Node G) → on_todo f (out-Node G n) ≡ Some m → R m n
  todos_by n = node_ind RuledTodo (record {
    todo = λ w m e. h w m (sym (ap (on_todo f) (outs-Todo w)) ∙ e);
    claimed = λ ep who w m e. none_todo (Claimed ep who w) m (ap (on_todo f) (outs-Claimed ep who w)) e;
    done = λ o m e. none_todo (Done o) m (ap (on_todo f) (outs-Done o)) e;
    then = λ w k i m e. none_todo (Then w k) m (ap (on_todo f) (outs-Then w k)) e;
    check = λ w k i m e. none_todo (Check w k) m (ap (on_todo f) (outs-Check w k)) e;
    leaves = λ t ks c i m e. none_todo (Leaves t ks c) m (ap (on_todo f) (outs-Leaves t ks c)) e;
    or = λ a b i j m e. none_todo (Else a b) m (ap (on_todo f) (outs-Else a b)) e;
    race = λ ks i m e. none_todo (Race ks) m (ap (on_todo f) (outs-Race ks)) e;
  }) n
