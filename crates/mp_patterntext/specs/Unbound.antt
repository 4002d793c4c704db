-- Faults that are told of variables that aren't bound.
use Rattle.std.specs.Prelude.{List, Bool, true, false, not, IsTrue}
use Rattle.std.specs.List.{list_all}
use Rattle.mp_words.specs.declared.fail.TextErr.{TextErr}
use Rattle.mp_words.specs.declared.fail.TextWhy.{TextWhy}
use Rattle.mp_words.specs.declared.fail.TextWhy.TheVariants as why

-- a fault of this kind is told of a variable that isn't bound
abbrev pub is_unbound : TextWhy → Bool
is_unbound why.UnboundVar = true
is_unbound other = false

-- each variable is bound: none of the faults tells of one that isn't
abbrev pub NoneUnbound : List TextErr → Type 0
NoneUnbound fs = IsTrue (list_all (λ (f : TextErr). not (is_unbound f.why)) fs)
