-- What the building calls answer.
use Rattle.std.specs.Prelude.{◌≡◌, [], Bool, IsTrue, IsFalse, nat_le, ◌&&◌, Result, Ok, Err}
use Rattle.mp_term.specs.declared.term.Term.{Term}
use Rattle.mp_term.specs.declared.sequent.Sequent.{Sequent}
use Rattle.mp_term.specs.Terms.{size_of}
use Rattle.mp_term.specs.Limits.{is_shallow, within_limits_of}
use Rattle.mp_schema.specs.declared.pattern.Pattern.{Pattern}
use Rattle.mp_schema.specs.Instances.{inst_of}
use Rattle.mp_schema.specs.Sequents.{Instance, ground_at}
use Rattle.mp_build.specs.declared.error.BuildErr.{BuildErr}
use Rattle.mp_build.specs.declared.error.BuildErr.TheVariants.{TooLarge, NoMemory}

-- the instance, in the ambient scope, of a pattern without levels and contexts
abbrev pub term_of : Instance → Pattern → Term
term_of v p = inst_of (ground_at v (λ name. 0)) v.values p [] v.ambient

-- a depth of at most 200, and at most 20,000 variables and operators
abbrev pub is_small_term : Term → Bool
is_small_term t = is_shallow t && nat_le (size_of t) 20000

-- this term if it is small; too large exactly if it isn't
abbrev pub IsBuiltTerm : Term → Result Term BuildErr → Type 0
IsBuiltTerm t (Ok made) = (made ≡ t) × IsTrue (is_small_term t)
IsBuiltTerm t (Err TooLarge) = IsFalse (is_small_term t)
IsBuiltTerm t (Err NoMemory) = Unit {0}

-- this sequent if it is within limits; too large exactly if it isn't
abbrev pub IsBuilt : Sequent → Result Sequent BuildErr → Type 0
IsBuilt s (Ok made) = (made ≡ s) × IsTrue (within_limits_of s)
IsBuilt s (Err TooLarge) = IsFalse (within_limits_of s)
IsBuilt s (Err NoMemory) = Unit {0}

-- nothing to say if the test passes; too large if it fails
abbrev pub IsChecked : Bool → Result (Unit {0}) BuildErr → Type 0
IsChecked within (Ok done) = IsTrue within
IsChecked within (Err TooLarge) = IsFalse within
IsChecked within (Err NoMemory) = Unit {0}
