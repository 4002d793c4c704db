-- Calls, one after the other, and the parts that make them.
use Rattle.std.proofs.Common.{inl, inr, List, [], ◌∷◌, ◌++◌, Result, Ok, Err, refl, subst}
use Rattle.mp_ports.specs.Calls.{Read, Chain}
use Rattle.mp_run.specs.declared.stop.Stop.{Stop}
use Rattle.mp_run.specs.Parts.{Part, and_then, Makes}

chained : {S X : Type 0} (R : S → S → X → Type 0) (s m t : S) (xs ys : List X) → Chain R s m xs → Chain R m t ys → Chain R s t (xs ++ ys)
chained {S} R s m t [] ys h k = subst (λ (z : S). Chain R z t ys) h k
chained R s m t (x ∷ xs) ys h k = (h.0, h.1, chained R h.0 m t xs ys h.2 k)

module _ {S A B : Type 0} (R : S → S → Read → Type 0) (first : Part A) (next : A → Part B) where
  -- what ends the first part
  pub stops : (s t : S) (end : Stop) → Makes R first s t (Err end) → Makes R (and_then first next) s t (Err end)
  stops s t end h = (h.0, h.1, inl (end, h.2, refl))

  -- the value of the first part, and what the next part makes of it
  pub goes_on : (s m t : S) (value : A) (out : Result B Stop) → Makes R first s m (Ok value) → Makes R (next value) m t out → Makes R (and_then first next) s t out
  goes_on s m t value out h k = (h.0 ++ k.0, chained R s m t h.0 k.0 h.1 k.1, inr (value, h.0, k.0, refl, h.2, k.2))
