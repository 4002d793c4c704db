-- What unrenaming answers, if memory didn't run out.
use Rattle.std.proofs.Common.{◌≡◌, ℕ, ◌<◌, List, Option, Result, Ok, Err, IfOk, IsTrue, All, nat_eq}
use Rattle.std.specs.List.{IsDistinct}
use Rattle.mp_logic.specs.declared.memory.NoMemory.{NoMemory}
use Rattle.mp_term.specs.declared.term.Term.{Term}
use Rattle.mp_term.specs.Terms.{in_scope_of}
use Rattle.mp_term.specs.Subst.{unrenamed, IsRenaming, IsFoundWhereListed}
use Rattle.mp_term.proofs.Renaming.{renaming_of}
use Rattle.mp_term.proofs.FreeVariables.{found_where_listed}

pub renaming : (levels : List ℕ) (n : ℕ) (t : Term) (r : Result (Option Term) NoMemory) → IsDistinct nat_eq levels → All (λ l. l < n) levels →
    IsTrue (in_scope_of t n) → IfOk r (λ x. x ≡ unrenamed levels n t) → IfOk r (IsRenaming levels n t)
renaming levels n t (Ok x) distinct all scoped is = renaming_of levels n t x distinct (λ i h. all i 0 h) scoped is
renaming levels n t (Err e) distinct all scoped is = tt

pub found : (levels : List ℕ) (n : ℕ) (t : Term) (r : Result (Option Term) NoMemory) → IfOk r (λ x. x ≡ unrenamed levels n t) → IfOk r (IsFoundWhereListed levels n t)
found levels n t (Ok x) is = found_where_listed levels n t x is
found levels n t (Err e) is = tt
