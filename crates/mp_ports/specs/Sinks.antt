-- What a sink takes, and what the sink in memory does. `Appends` is std's word: known bytes grow by these.
use Rattle.std.specs.Prelude.{◌≡◌, ℕ, ◌≤◌, ◌+◌, take, length, List, [], ◌∷◌, ◌++◌, Some, None, Result, Ok, Err, Bool, true, false, if◌then◌else◌, ◌==◌, nat_le}
use Rattle.std.specs.declared.option.Option.{Option}
use Rattle.std.specs.Io.KnownBytes.{Appends}
use Rattle.mp_ports.specs.Calls.{Put}
use Rattle.mp_ports.specs.Causes.{raised}
use Rattle.mp_ports.specs.declared.ports.PutFailed.{PutFailed}

-- known bytes grow by the first of these, so many as there be
abbrev pub TakesPrefix : Option (List ℕ) → Option (List ℕ) → List ℕ → Type 0
TakesPrefix old new bytes = (count : ℕ) × Appends old new (take count bytes)

-- what a put takes: all bytes, or the first of them if it fails
abbrev pub PutTakes : {T : Type 0} → Option (List ℕ) → Option (List ℕ) → List ℕ → Result T PutFailed → Type 0
PutTakes old new bytes (Ok done) = Appends old new bytes
PutTakes old new bytes (Err failed) = TakesPrefix old new bytes

-- each failure raises the count of faults
abbrev pub faults_after : {T : Type 0} → ℕ → Result T PutFailed → ℕ
faults_after old (Ok done) = old
faults_after old (Err failed) = raised old

-- a sink in memory: its room, the calls that fail with the number of bytes that each takes, the counts of calls and of faults, and the bytes taken
pub record SinkState : Type 0 where
  pub room : ℕ
  pub fails : List (ℕ × ℕ)
  pub calls : ℕ
  pub faults : ℕ
  pub taken : List ℕ

-- how many bytes a listed call takes, by the first entry of the call
abbrev pub listed : ℕ → List (ℕ × ℕ) → Option ℕ
listed call [] = None
listed call (entry ∷ entries) = if entry.0 == call then Some entry.1 else listed call entries

-- the bytes that a call is to take: all, or the first so many if it is listed
abbrev pub due : Option ℕ → List ℕ → List ℕ
due None bytes = bytes
due (Some count) bytes = take count bytes

-- whether there is room for so many bytes more
abbrev pub fits : SinkState → List ℕ → Bool
fits s bytes = nat_le (length s.taken + length bytes) s.room

-- the state after a call that took these bytes
abbrev pub took : SinkState → List ℕ → SinkState
took s bytes = record s { calls = raised s.calls; taken = s.taken ++ bytes }

-- the state after a call that took these bytes and failed
abbrev pub failed : SinkState → List ℕ → SinkState
failed s bytes = record s { calls = raised s.calls; faults = raised s.faults; taken = s.taken ++ bytes }

-- a put by whether the bytes due fit and by the entry of its call: see the put of the sink in memory
abbrev pub PutBy : {T : Type 0} → Bool → Option ℕ → SinkState → SinkState → List ℕ → Result T PutFailed → Type 0
PutBy false entry old new bytes (Err _) = new ≡ failed old []
PutBy true (Some count) old new bytes (Err _) = new ≡ failed old (take count bytes)
PutBy true None old new bytes (Ok _) = new ≡ took old bytes
PutBy fit entry old new bytes answer = ⊥

-- a put of the sink in memory: if the bytes due do not fit, nothing is taken and the call fails; a listed call takes the bytes due and
-- fails; another takes all bytes
abbrev pub SinkPut : {T : Type 0} → SinkState → SinkState → List ℕ → Result T PutFailed → Type 0
SinkPut old new bytes answer =
    let entry = listed (raised old.calls) old.fails in
    PutBy (fits old (due entry bytes)) entry old new bytes answer

-- a call of `put` on the sink in memory: what it does, exactly; its count of faults doesn't fall
pub record MemPuts (old new : SinkState) (call : Put) : Type 0 where
  pub exact : SinkPut old new call.bytes call.answer
  pub faults : old.faults ≤ new.faults

-- a call of `put` on standard output: the count of faults goes by the answer, and doesn't fall
pub record OutPuts (old new : ℕ) (call : Put) : Type 0 where
  pub counts : new ≡ faults_after old call.answer
  pub faults : old ≤ new
