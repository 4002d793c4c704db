-- The parts of a run that read files: what each reads, and what it gives.
use Rattle.std.specs.Prelude.{◌≡◌, ℕ, ◌⊎◌, List, [], ◌∷◌, ◌++◌, Result, Ok, Err, ⊤}
use Rattle.mp_ports.specs.Calls.{Read, Chain}
use Rattle.mp_ports.specs.declared.ports.ReadErr.{ReadErr}
use Rattle.mp_ports.specs.declared.ports.ReadErr.TheVariants as err
use Rattle.mp_words.specs.declared.fail.TextErr.{TextErr}
use Rattle.mp_words.specs.declared.fail.TextFail.{TextFail}
use Rattle.mp_words.specs.declared.fail.TextFail.TheVariants.{Bad}
use Rattle.mp_report.specs.declared.refusal.FileKind.{FileKind}
use Rattle.mp_report.specs.Refusals.{refusal_text}
use Rattle.mp_run.specs.declared.stop.Stop.{Stop}
use Rattle.mp_run.specs.declared.stop.Stop.TheVariants as stop
use Rattle.mp_run.specs.Commands.{From, Named, Made}
use Rattle.mp_run.specs.Lines.{limit_of, long_line}

-- the names that are known, in order of entry
abbrev pub Names : Type 0
Names = List (List ℕ)

-- what may be read from bytes, and the names that are known then
abbrev pub Reading : Type 0 → Type 1
Reading V = List ℕ → Result V TextFail → Names → Type 0

-- a part of a run: the calls of `read` that it makes, in order, and its value or what ends the run
abbrev pub Part : Type 0 → Type 1
Part V = List Read → Result V Stop → Type 0

-- by some calls of the part the shelf comes from the one state to the other, and the part gives this
abbrev pub Makes : {S V : Type 0} → (S → S → Read → Type 0) → Part V → S → S → Result V Stop → Type 0
Makes reads part old new out = (calls : List Read) × Chain reads old new calls × part calls out

-- a value without a read, unless memory runs out
abbrev pub gives : {V : Type 0} → V → Part V
gives value calls out = (calls ≡ []) × ((out ≡ Ok value) ⊎ (out ≡ Err stop.NoMemory))

-- what ends the first part ends the run; else the next part goes on with its value
abbrev pub and_then : {A B : Type 0} → Part A → (A → Part B) → Part B
and_then {A} first next calls out =
    ((end : Stop) × first calls (Err end) × (out ≡ Err end))
    ⊎ ((value : A) × (made left : List Read) × (calls ≡ made ++ left) × first made (Ok value) × next value left out)

-- the call of `read` for a file of this kind and this name
abbrev pub read_of : FileKind → List ℕ → Result (List ℕ) ReadErr → Read
read_of kind name answer = record { name = name; limit = limit_of kind; answer = answer }

-- what a read of a file of this kind gives by its answer: the bytes; or what ends the run, which is the fault of reading it, the line
-- that it is over the limit, or want of memory
abbrev pub Answered : FileKind → Result (List ℕ) ReadErr → Result (List ℕ) Stop → Type 0
Answered kind (Ok text) out = out ≡ Ok text
Answered kind (Err err.Failed) out = out ≡ Err (stop.Fault kind)
Answered kind (Err err.TooLong) out = (out ≡ Err (stop.Refused (long_line kind))) ⊎ (out ≡ Err stop.NoMemory)
Answered kind (Err err.NoMemory) out = out ≡ Err stop.NoMemory

-- the bytes of a text: of a file they are taken by one read of its name; want of memory may come before it
abbrev pub taken_from : FileKind → From → Part (List ℕ)
taken_from kind (Made text) calls out = gives text calls out
taken_from kind (Named name) calls out =
    ((calls ≡ []) × (out ≡ Err stop.NoMemory))
    ⊎ ((answer : Result (List ℕ) ReadErr) × (calls ≡ read_of kind name answer ∷ []) × Answered kind answer out)

-- what a text says: its value and the names that are known then; or the line of its one fault; or memory runs out
abbrev pub SaysSo : {V : Type 0} → FileKind → Reading V → List ℕ → Result (V × Names) Stop → Type 0
SaysSo kind reads text (Ok said) = reads text (Ok said.0) said.1
SaysSo kind reads text (Err (stop.Refused line)) = (e : TextErr) × (names : Names) × reads text (Err (Bad e)) names × (line ≡ refusal_text kind e)
SaysSo kind reads text (Err (stop.Fault file)) = ⊥
SaysSo kind reads text (Err stop.NoMemory) = ⊤

-- a text is read as what it says, without a call
abbrev pub says : {V : Type 0} → FileKind → Reading V → List ℕ → Part (V × Names)
says kind reads text calls out = (calls ≡ []) × SaysSo kind reads text out

-- the bytes are taken, and then read as what they say
abbrev pub read_as : {V : Type 0} → FileKind → From → Reading V → Part (V × Names)
read_as kind from reads = and_then (taken_from kind from) (says kind reads)
