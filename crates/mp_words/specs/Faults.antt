-- The static faults of a text, and which of them is reported.
use Rattle.std.specs.Prelude.{◌≡◌, ◌⊎◌, ℕ, List, [], ◌∷◌, Option, None, Some, Bool, false, nat_lt, nat_eq, ◌&&◌, ◌||◌, if◌then◌else◌, slice_get}
use Rattle.mp_words.specs.declared.fail.TextErr.{TextErr}
use Rattle.mp_words.specs.declared.fail.TextWhy.{TextWhy}
use Rattle.mp_words.specs.declared.fail.TextWhy.TheVariants as why

-- the place of a fault in the order of those at one place; the last ones are never static faults
abbrev pub rank_of : TextWhy → ℕ
rank_of why.Taken = 0
rank_of why.UnknownName = 1
rank_of why.TooMany = 2
rank_of why.TooDeep = 3
rank_of why.TooBig = 4
rank_of why.BadNumber = 5
rank_of why.UnboundVar = 6
rank_of why.DanglingContext = 7
rank_of why.TwiceContext = 8
rank_of why.TooManyContexts = 9
rank_of why.MisplacedHyp = 10
rank_of why.NotAPattern = 11
rank_of why.BadUse = 12
rank_of why.UnboundParam = 13
rank_of why.UnboundMeta = 14
rank_of why.AtNeeded = 15
rank_of why.AtRefused = 16
rank_of why.MissingWith = 17
rank_of why.ExtraWith = 18
rank_of why.TwiceWith = 19
rank_of why.BadArity = 20
rank_of why.WrongGoal = 21
rank_of why.BadIndent = 22
rank_of why.CountDiffers = 23
rank_of why.WrongLabel = 24
rank_of why.NotCanonical = 25
rank_of why.Cycle = 26
rank_of why.Conditional = 27
rank_of why.NestedSweep = 28
rank_of why.BadDerivation = 29
rank_of why.BadCheckpoint = 30
rank_of why.BadByte = 31
rank_of why.LongName = 32
rank_of why.BadString = 33
rank_of why.TooNested = 34
rank_of why.Syntax = 35

-- f is reported rather than g: it is at an earlier place, or at the same place and before it in the order of kinds
abbrev pub is_sooner : TextErr → TextErr → Bool
is_sooner f g = nat_lt f.at g.at || (nat_eq f.at g.at && nat_lt (rank_of f.why) (rank_of g.why))

-- the earlier one of two faults, the first of which may be absent
abbrev pub sooner : Option TextErr → TextErr → Option TextErr
sooner None f = Some f
sooner (Some g) f = if is_sooner f g then Some f else Some g

-- the earliest of the faults, a held one among them
abbrev pub least_from : Option TextErr → List TextErr → Option TextErr
least_from held [] = held
least_from held (f ∷ fs) = least_from (sooner held f) fs

-- the fault of the list that is reported, if it has any
abbrev pub least : List TextErr → Option TextErr
least fs = least_from None fs

-- a fault of the list of passes: that of the first pass that has one
abbrev pub or_else : Option TextErr → Option TextErr → Option TextErr
or_else (Some f) later = Some f
or_else None later = later

-- the least fault of the first list that has any; the lists behind it don't count
abbrev pub fault_of_passes : List (List TextErr) → Option TextErr
fault_of_passes [] = None
fault_of_passes (fs ∷ passes) = or_else (least fs) (fault_of_passes passes)

-- the fault that is held is at an earlier byte than this
abbrev pub is_behind : Option TextErr → ℕ → Bool
is_behind None at = false
is_behind (Some f) at = nat_lt f.at at

-- the fault at this byte
abbrev pub fault : ℕ → TextWhy → List TextErr
fault at w = record { at = at; why = w } ∷ []

-- the fault at the place of the item, if there is one
abbrev pub fault_at_any : {X : Type 0} → (X → ℕ) → TextWhy → Option X → List TextErr
fault_at_any place w None = []
fault_at_any place w (Some x) = fault (place x) w

-- the fault of a list with more than so many items, at the first one too many
abbrev pub too_many : {X : Type 0} → (X → ℕ) → ℕ → List X → List TextErr
too_many place most xs = fault_at_any place why.TooMany (slice_get xs most)

-- the fault, if the test passes
abbrev pub fault_if : Bool → ℕ → TextWhy → List TextErr
fault_if test at w = if test then fault at w else []

-- the fault is one of the list
abbrev pub IsOneOf : TextErr → List TextErr → Type 0
IsOneOf f [] = ⊥
IsOneOf f (g ∷ gs) = (f ≡ g) ⊎ IsOneOf f gs

-- none of the faults is earlier
abbrev pub NoneSooner : TextErr → List TextErr → Type 0
NoneSooner f [] = Unit {0}
NoneSooner f (g ∷ gs) = (is_sooner g f ≡ false) × NoneSooner f gs

-- the fault is one of the list, and none of the list is earlier; None only if the list is empty
abbrev pub IsLeastOf : List TextErr → Option TextErr → Type 0
IsLeastOf fs None = fs ≡ []
IsLeastOf fs (Some f) = IsOneOf f fs × NoneSooner f fs

-- the reported fault is one of the faults, and none of them is earlier; None only if there are no faults
abbrev pub LeastIsLeast : Type 0
LeastIsLeast = (fs : List TextErr) → IsLeastOf fs (least fs)
