-- What a walk makes of a term, where it shares what it doesn't change.
use Rattle.std.specs.Prelude.{◌≡◌, List, [], ◌∷◌, Option, Some, None}
use Rattle.mp_term.specs.declared.term.Term.{Term}
use Rattle.mp_term.specs.declared.term.Bound.{Bound}

-- the term that was made, or the old one where nothing changed
abbrev pub made_or : Term → Option Term → Term
made_or t None = t
made_or t (Some made) = made

-- the bound subterm with the body that was made, or with its old one
abbrev pub remade : Bound → Option Term → Bound
remade b made = record { binders = b.binders; body = made_or b.body made }

-- the bodies are made anew, or none is, where the new ones are the old ones
abbrev pub AreRemade : List Bound → List Bound → List Bound → Type 0
AreRemade [] olds news = olds ≡ news
AreRemade (made ∷ rest) olds news = made ∷ rest ≡ news
