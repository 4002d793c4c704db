-- The calls of shelves and sinks with their answers, and what calls do one after the other.
use Rattle.std.specs.Prelude.{◌≡◌, ℕ, List, [], ◌∷◌, Result}
use Rattle.mp_ports.specs.declared.ports.ReadErr.{ReadErr}
use Rattle.mp_ports.specs.declared.ports.PutFailed.{PutFailed}

-- a call of `read`: the name, the limit, and the answer
pub record Read : Type 0 where
  pub name : List ℕ
  pub limit : ℕ
  pub answer : Result (List ℕ) ReadErr

-- a call of `put`: the bytes, and the answer
pub record Put : Type 0 where
  pub bytes : List ℕ
  pub answer : Result (Unit {0}) PutFailed

-- the calls, one after the other, take the one state to the other
abbrev pub Chain : {S X : Type 0} → (S → S → X → Type 0) → S → S → List X → Type 0
Chain R s t [] = t ≡ s
Chain {S} R s t (x ∷ xs) = (mid : S) × R s mid x × Chain R mid t xs
