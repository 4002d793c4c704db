-- What the rules make of each form of a node.
use Rattle.std.proofs.Common.{◌≡◌, ℕ, Bool, List, ap, Some, None}
use Rattle.std.specs.Prelude.{slice_get}
use Rattle.mp_logic.specs.declared.tree.Tree.{Tree}
use Rattle.mp_logic.specs.Meaning.{Meaning}
use Rattle.mp_strategy.specs.declared.problem.ProblemState.{ProblemState}
use Rattle.mp_strategy.specs.declared.work.Work.{Work}
use Rattle.mp_strategy.specs.declared.outcome.Outcome.{Outcome}
use Rattle.mp_jobs.specs.declared.node.Node.{Node, Todo, Claimed, Done, Then, Leaves, Else, Race, Check}
use Rattle.mp_jobs.specs.declared.node.Node.TheVariants.{outs-Todo, outs-Claimed, outs-Done, outs-Then, outs-Leaves, outs-Else, outs-Race, outs-Check}
use Rattle.mp_jobs.specs.Ends.{done_of, done_at}
use Rattle.mp_jobs.specs.Expansion.{expansion, expand_rule}
use Rattle.mp_jobs.specs.Jobs.{on_todo}
use Rattle.mp_jobs.specs.Settlement.{settle_at, settle_rule, once_done, then_next, check_next, else_next, leaves_next, race_next}

module _ {G : Type 0} where
  pub done-Todo : (w : Work G) → done_of (Todo w) ≡ None
  done-Todo w = ap done_at (outs-Todo w)

  pub done-Claimed : (e who : ℕ) (w : Work G) → done_of (Claimed e who w) ≡ None
  done-Claimed e who w = ap done_at (outs-Claimed e who w)

  pub done-Done : (o : Outcome G) → done_of (Done o) ≡ Some o
  done-Done o = ap done_at (outs-Done o)

  pub done-Then : (w : Work G) (f : Node G) → done_of (Then w f) ≡ None
  done-Then w f = ap done_at (outs-Then w f)

  pub done-Leaves : (t : Tree G) (ks : List (Node G)) (c : Bool) → done_of (Leaves t ks c) ≡ None
  done-Leaves t ks c = ap done_at (outs-Leaves t ks c)

  pub done-Else : (a b : Node G) → done_of (Else a b) ≡ None
  done-Else a b = ap done_at (outs-Else a b)

  pub done-Race : (ks : List (Node G)) → done_of {G = G} (Race ks) ≡ None
  done-Race ks = ap done_at (outs-Race ks)

  pub done-Check : (w : Work G) (f : Node G) → done_of (Check w f) ≡ None
  done-Check w f = ap done_at (outs-Check w f)

module _ {L G J : Type 0} (meaning : L → Meaning G J) (p : ProblemState L J) where
  pub settle-Todo : (w : Work G) → settle_rule meaning p (Todo w) ≡ None
  settle-Todo w = ap (settle_at meaning p) (outs-Todo w)

  pub settle-Claimed : (e who : ℕ) (w : Work G) → settle_rule meaning p (Claimed e who w) ≡ None
  settle-Claimed e who w = ap (settle_at meaning p) (outs-Claimed e who w)

  pub settle-Done : (o : Outcome G) → settle_rule meaning p (Done o) ≡ None
  settle-Done o = ap (settle_at meaning p) (outs-Done o)

  pub settle-Then : (w : Work G) (f : Node G) → settle_rule meaning p (Then w f) ≡ once_done (done_of f) (then_next meaning p (slice_get p.tacs w.tac.0) w)
  settle-Then w f = ap (settle_at meaning p) (outs-Then w f)

  pub settle-Leaves : (t : Tree G) (ks : List (Node G)) (c : Bool) → settle_rule meaning p (Leaves t ks c) ≡ leaves_next t ks c
  settle-Leaves t ks c = ap (settle_at meaning p) (outs-Leaves t ks c)

  pub settle-Else : (a b : Node G) → settle_rule meaning p (Else a b) ≡ once_done (done_of a) (else_next a b)
  settle-Else a b = ap (settle_at meaning p) (outs-Else a b)

  pub settle-Race : (ks : List (Node G)) → settle_rule meaning p (Race ks) ≡ race_next ks
  settle-Race ks = ap (settle_at meaning p) (outs-Race ks)

  pub settle-Check : (w : Work G) (f : Node G) → settle_rule meaning p (Check w f) ≡ once_done (done_of f) (check_next meaning p (slice_get p.tacs w.tac.0) w)
  settle-Check w f = ap (settle_at meaning p) (outs-Check w f)

  pub expand-Todo : (w : Work G) → expand_rule meaning p (Todo w) ≡ Some (expansion meaning p w)
  expand-Todo w = ap (on_todo (λ w. Some (expansion meaning p w))) (outs-Todo w)

  pub expand-Claimed : (e who : ℕ) (w : Work G) → expand_rule meaning p (Claimed e who w) ≡ None
  expand-Claimed e who w = ap (on_todo (λ w. Some (expansion meaning p w))) (outs-Claimed e who w)

  pub expand-Done : (o : Outcome G) → expand_rule meaning p (Done o) ≡ None
  expand-Done o = ap (on_todo (λ w. Some (expansion meaning p w))) (outs-Done o)

  pub expand-Then : (w : Work G) (f : Node G) → expand_rule meaning p (Then w f) ≡ None
  expand-Then w f = ap (on_todo (λ w. Some (expansion meaning p w))) (outs-Then w f)

  pub expand-Leaves : (t : Tree G) (ks : List (Node G)) (c : Bool) → expand_rule meaning p (Leaves t ks c) ≡ None
  expand-Leaves t ks c = ap (on_todo (λ w. Some (expansion meaning p w))) (outs-Leaves t ks c)

  pub expand-Else : (a b : Node G) → expand_rule meaning p (Else a b) ≡ None
  expand-Else a b = ap (on_todo (λ w. Some (expansion meaning p w))) (outs-Else a b)

  pub expand-Race : (ks : List (Node G)) → expand_rule meaning p (Race ks) ≡ None
  expand-Race ks = ap (on_todo (λ w. Some (expansion meaning p w))) (outs-Race ks)

  pub expand-Check : (w : Work G) (f : Node G) → expand_rule meaning p (Check w f) ≡ None
  expand-Check w f = ap (on_todo (λ w. Some (expansion meaning p w))) (outs-Check w f)
