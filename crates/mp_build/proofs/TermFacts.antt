-- The place itself, and the size and the depth of a term that is built there.
use Rattle.std.proofs.Common.{Err, ◌≡◌, ℕ, ◌-◌, ◌≤◌, [], map, append-nil, IsTrue, arith}
use Rattle.std.specs.Prelude.{IsFalse}
use Rattle.std.proofs.lemmas.Bool.Decides.{nat_tests}
use Rattle.std.proofs.lemmas.Grind.{common_steps}
use Rattle.mp_term.specs.declared.term.Term.{Var}
use Rattle.mp_term.specs.Terms.{size_of, depth_of}
use Rattle.mp_schema.specs.declared.pattern.Pattern.{Pattern}
use Rattle.mp_schema.specs.Sequents.{Instance, Spot, wide_of, ground_at}
use Rattle.mp_build.specs.declared.error.BuildErr.{BuildErr}
use Rattle.mp_build.specs.declared.error.BuildErr.TheVariants.{TooLarge, NoMemory}
use Rattle.mp_build.specs.Built.{term_of, is_small_term, IsBuiltTerm}
use Rattle.mp_build.specs.Sites.{env_at}
use Rattle.mp_build.specs.Sizes.{inst_size, inst_depth, IsOver, IsWeighing}
use Rattle.mp_schema.proofs.Rows.{wide-ground}
use Rattle.mp_build.proofs.Weighed.{size-inst, depth-inst}

module _ (v : Instance) (p : Pattern) where
  size-term : size_of (term_of v p) ≡ inst_size (wide_of v) v.values p
  size-term = size-inst (ground_at v (λ c. 0)) (wide_of v) (wide-ground v (λ c. 0)) v.values p [] v.ambient

  depth-term : depth_of (term_of v p) ≡ inst_depth (wide_of v) v.values p
  depth-term = depth-inst (ground_at v (λ c. 0)) (wide_of v) (wide-ground v (λ c. 0)) v.values p [] v.ambient

  pub small : inst_size (wide_of v) v.values p ≤ 20000 → inst_depth (wide_of v) v.values p ≤ 200 → IsTrue (is_small_term (term_of v p))
  small h h' =
      let few : size_of (term_of v p) ≤ 20000 = rw size-term h in
      let shallow : depth_of (term_of v p) ≤ 200 = rw depth-term h' in
      grind (arith, nat_tests, common_steps, few, shallow)

  not_small : IsOver (inst_size (wide_of v) v.values p) (inst_depth (wide_of v) v.values p) → IsFalse (is_small_term (term_of v p))
  not_small over =
      let over' : IsOver (size_of (term_of v p)) (depth_of (term_of v p)) = rw (size-term, depth-term) over in
      grind (arith, nat_tests, common_steps, over')

  -- a refusal of the weights is one of the term
  pub term_over : (e : BuildErr) → IsWeighing (inst_size (wide_of v) v.values p) (inst_depth (wide_of v) v.values p) (Err e) → IsBuiltTerm (term_of v p) (Err e)
  term_over TooLarge over = not_small over
  term_over NoMemory over = tt

-- at the place itself no binder has brought a variable
pub env-here : (l : Spot) (m : ℕ) → env_at l m m ≡ map Var l.env
env-here l m = let e : m - m ≡ 0 = omega arith in rw e (append-nil (map Var l.env))
