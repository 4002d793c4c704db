-- The bodies of a delayed operator, one after the other.
use Rattle.std.proofs.Common.{◌≡◌, ℕ, ◌+◌, ◌<◌, List, [], ◌∷◌, ◌++◌, map, length, get_or, take, drop, IsTrue, refl, sym, ap, ◌∙◌, arith}
use Rattle.std.proofs.lemmas.Grind.{common_steps}
use Rattle.std.proofs.lemmas.List.{map-append, take_more}
use Rattle.mp_term.specs.declared.term.Bound.{Bound}
use Rattle.mp_term.specs.Terms.{all_true}
use Rattle.mp_term.proofs.SubLaws.{drop-at}
use Rattle.mp_delay.specs.declared.head.DelayedBound.{DelayedBound}
use Rattle.mp_delay.specs.Moves.{relevel_by, relevel_bound, levels_fit_by, bound_fits}
use Rattle.mp_delay.specs.Heads.{bound_of}
use Rattle.mp_delay.proofs.Layers.{relevel_bound-is, bound_fits-is}

module _ (f : ℕ → ℕ) (kids : List Bound) (k : ℕ) (kid : Bound) (inside : k < length kids) (is : kid ≡ get_or kids k kid) where
  -- the test of the bodies from k on is that of the body at k, and of those behind it
  fits_apart : IsTrue (all_true (map (bound_fits f) (drop k kids))) → IsTrue (levels_fit_by f kid.body) × IsTrue (all_true (map (bound_fits f) (drop (k + 1) kids)))
  fits_apart fits =
      let both = rw (drop-at kids k kid inside is) at fits in
      let first : IsTrue (bound_fits f kid) = grind (arith, common_steps, both) in
      (rw bound_fits-is at first, grind (arith, common_steps, both))

  pub body_fits : IsTrue (all_true (map (bound_fits f) (drop k kids))) → IsTrue (levels_fit_by f kid.body)
  body_fits fits = (fits_apart fits).0

  pub one_more : (made : List DelayedBound) (new : DelayedBound) → IsTrue (all_true (map (bound_fits f) (drop k kids))) →
      map bound_of made ≡ map (relevel_bound f) (take k kids) → new.binders ≡ kid.binders → new.body ≡ relevel_by f kid.body →
      IsTrue (all_true (map (bound_fits f) (drop (k + 1) kids))) × (map bound_of (made ++ new ∷ []) ≡ map (relevel_bound f) (take (k + 1) kids))
  one_more made new fits so_far binders body = ((fits_apart fits).1, made_more) where
    here : bound_of new ≡ relevel_bound f kid
    here = rw (relevel_bound-is, binders, body) refl

    made_more : map bound_of (made ++ new ∷ []) ≡ map (relevel_bound f) (take (k + 1) kids)
    made_more =
        let more = take_more kids k kid inside ∙ ap (λ b. take k kids ++ b ∷ []) (sym is) in
        rw (more, map-append, map-append, so_far, here) refl
