-- Numbers that are written, and the ranges that they have to be in.
use Rattle.std.specs.Prelude.{ℕ, ℤ, pos, negsuc, List, [], Option, None, Some, Bool, false, not, ◌&&◌, nat_le}
use Rattle.mp_words.specs.declared.fail.TextWhy.TheVariants as why
use Rattle.mp_words.specs.declared.fail.TextErr.{TextErr}
use Rattle.mp_words.specs.declared.raw.RawNumber.{RawNumber}
use Rattle.mp_words.specs.Faults.{fault_if}

-- a number from the least up to the most
abbrev pub is_between : (least most : ℕ) → ℤ → Bool
is_between least most (pos n) = nat_le least n && nat_le n most
is_between least most (negsuc n) = false

-- a number that is written is in its range
abbrev pub number_faults : (least most : ℕ) → RawNumber → List TextErr
number_faults least most n = fault_if (not (is_between least most n.value)) n.at why.BadNumber

-- the fault of a number that may be left out, if it is out of range
abbrev pub written_number_faults : (least most : ℕ) → Option RawNumber → List TextErr
written_number_faults least most None = []
written_number_faults least most (Some n) = number_faults least most n
