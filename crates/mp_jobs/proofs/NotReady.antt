-- Where nothing in a node changes.
use Rattle.std.proofs.Common.{◌≡◌, List, [], ◌∷◌, refl, sym, ◌∙◌, Some, None}
use Rattle.std.specs.Option.{option_or, option_map}
use Rattle.std.specs.declared.option.Option.{Option}
use Rattle.std.specs.List.{AllByRecursion}
use Rattle.mp_jobs.specs.declared.node.Node.{Node}
use Rattle.mp_jobs.specs.Walks.{Rule, first_change, kids_change}
use Rattle.mp_jobs.proofs.Changes.{kids_more}

-- neither of two gives anything
pub none_map : {A B : Type 0} (f : A → B) (o : Option A) (q : Option B) → option_or (option_map f o) q ≡ None → (o ≡ None) × (q ≡ None)
none_map f None q e = (refl, e)
none_map f (Some a) q e = absurd (cc)

pub or_none : {A : Type 0} (o q : Option A) → option_or o q ≡ None → (o ≡ None) × (q ≡ None)
or_none None q e = (refl, e)
or_none (Some a) q e = absurd (cc)

module _ {G : Type 0} (rule : Rule G) where
  -- nothing in a list of kids changes, so nothing in any of them does
  pub each_none : (ks : List (Node G)) → kids_change rule ks ≡ None → AllByRecursion (λ k. first_change rule k ≡ None) ks
  each_none [] e = tt
  each_none (k ∷ ks) e =
      let a = none_map (λ m. m ∷ ks) (first_change rule k) _ (sym (kids_more rule k ks) ∙ e) in
      let b = none_map (λ ms. k ∷ ms) (kids_change rule ks) None (within_none (λ ms. k ∷ ms) (kids_change rule ks) a.1) in
      (a.0, each_none ks b.0) where
        within_none : {A B : Type 0} (f : A → B) (o : Option A) → option_map f o ≡ None → option_or (option_map f o) None ≡ None
        within_none f None e = refl
        within_none f (Some x) e = absurd (cc)
