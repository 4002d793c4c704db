-- A node that is done.
use Rattle.std.proofs.Common.{◌≡◌, ap, Some, None}
use Rattle.mp_strategy.specs.declared.outcome.Outcome.{Outcome}
use Rattle.mp_jobs.specs.declared.node.Node.{Node, Todo, Claimed, Done, Then, Leaves, Else, Race, Check}
use Rattle.mp_jobs.specs.Ends.{done_of}
use Rattle.mp_jobs.proofs.Induction.{node_ind}
use Rattle.mp_jobs.proofs.Forms.{done-Todo, done-Claimed, done-Done, done-Then, done-Leaves, done-Else, done-Race, done-Check}

module _ {G : Type 0} where
  abbrev IsDone : Node G → Type 0
  IsDone n = (o : Outcome G) → done_of n ≡ Some o → n ≡ Done o

  not_done : (n : Node G) → done_of n ≡ None → IsDone n
  not_done n e o f = absurd (cc)

  done : (p : Outcome G) → IsDone (Done p)
  done p o e = let d = done-Done p in ap Done (cc)

  pub is_done : (n : Node G) (o : Outcome G) → done_of n ≡ Some o → n ≡ Done o
  is_done n = node_ind IsDone (record {
    todo = λ w. not_done (Todo w) (done-Todo w);
    claimed = λ e who w. not_done (Claimed e who w) (done-Claimed e who w);
    done = done;
    then = λ w f h. not_done (Then w f) (done-Then w f);
    check = λ w f h. not_done (Check w f) (done-Check w f);
    leaves = λ t ks c h. not_done (Leaves t ks c) (done-Leaves t ks c);
    or = λ a b h k. not_done (Else a b) (done-Else a b);
    race = λ ks h. not_done (Race ks) (done-Race ks);
  }) n
