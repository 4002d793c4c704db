-- What a shelf tells, and what the shelf in memory and the files of the system do.
use Rattle.std.specs.Prelude.{◌≡◌, ℕ, IfOk, ◌<◌, ◌≤◌, length, List, [], ◌∷◌, ⊤, Some, None, Result, Ok, Err, Bool, true, false, if◌then◌else◌, ◌==◌}
use Rattle.std.specs.declared.option.Option.{Option}
use Rattle.std.specs.Str.{bytes_eq}
use Rattle.std.specs.List.{list_any}
use Rattle.mp_ports.specs.Calls.{Read}
use Rattle.mp_ports.specs.Causes.{raised}
use Rattle.mp_ports.specs.declared.ports.ReadErr.{ReadErr}
use Rattle.mp_ports.specs.declared.ports.ReadErr.TheVariants.{Failed, TooLong, NoMemory}

-- what a read of a file answers if its bytes are told: the bytes if they are at most the limit, TooLong if there are more; Failed at any
-- time, and want of memory only of a file within the limit
abbrev pub Told : Option (List ℕ) → ℕ → Result (List ℕ) ReadErr → Type 0
Told None limit answer = ⊤
Told (Some bytes) limit (Ok text) = (text ≡ bytes) × (length bytes ≤ limit)
Told (Some bytes) limit (Err Failed) = ⊤
Told (Some bytes) limit (Err TooLong) = limit < length bytes
Told (Some bytes) limit (Err NoMemory) = length bytes ≤ limit

-- the first file of the name
abbrev pub file_of : List ℕ → List (List ℕ × List ℕ) → Option (List ℕ)
file_of name [] = None
file_of name (file ∷ files) = if bytes_eq file.0 name then Some file.1 else file_of name files

-- the counts of the files of the system: the faults, and the files that were too long
pub record FileCounts : Type 0 where
  pub faults : ℕ
  pub longs : ℕ

-- each failure raises the count of faults, and each TooLong that of long files
abbrev pub counts_after : FileCounts → Result (List ℕ) ReadErr → FileCounts
counts_after old (Ok text) = old
counts_after old (Err Failed) = record old { faults = raised old.faults }
counts_after old (Err TooLong) = record old { longs = raised old.longs }
counts_after old (Err NoMemory) = old

-- a shelf in memory: its files, the calls that fail, and the counts of calls, of faults and of long files
pub record ShelfState : Type 0 where
  pub files : List (List ℕ × List ℕ)
  pub fails : List ℕ
  pub calls : ℕ
  pub faults : ℕ
  pub longs : ℕ

-- the state after a call that gave the bytes, or lacked the memory for them
abbrev pub called : ShelfState → ShelfState
called s = record s { calls = raised s.calls }

-- the state after a call that failed
abbrev pub failed : ShelfState → ShelfState
failed s = record s { calls = raised s.calls; faults = raised s.faults }

-- the state after a call that found a file too long
abbrev pub too_long : ShelfState → ShelfState
too_long s = record s { calls = raised s.calls; longs = raised s.longs }

-- whether the next call is listed as failing
abbrev pub fails_next : ShelfState → Bool
fails_next s = list_any (λ call. call == raised s.calls) s.fails

-- a read of the file that is found, or of none: a missing file fails, and another one gives its bytes if they are at most the limit
abbrev pub FileRead : ShelfState → ShelfState → Option (List ℕ) → ℕ → Result (List ℕ) ReadErr → Type 0
FileRead old new None limit (Err Failed) = new ≡ failed old
FileRead old new (Some bytes) limit (Ok text) = (new ≡ called old) × (text ≡ bytes) × (length bytes ≤ limit)
FileRead old new (Some bytes) limit (Err TooLong) = (new ≡ too_long old) × (limit < length bytes)
FileRead old new (Some bytes) limit (Err NoMemory) = (new ≡ called old) × (length bytes ≤ limit)
FileRead old new file limit answer = ⊥

-- a read by whether its call is listed: a listed call fails, and another reads the first file of the name
abbrev pub ReadBy : Bool → ShelfState → ShelfState → List ℕ → ℕ → Result (List ℕ) ReadErr → Type 0
ReadBy true old new name limit (Err Failed) = new ≡ failed old
ReadBy true old new name limit answer = ⊥
ReadBy false old new name limit answer = FileRead old new (file_of name old.files) limit answer

-- a read of the shelf in memory: a call that is listed fails, and another reads the first file of the name
abbrev pub ShelfRead : ShelfState → ShelfState → List ℕ → ℕ → Result (List ℕ) ReadErr → Type 0
ShelfRead old new name limit answer = ReadBy (fails_next old) old new name limit answer

-- a call of `read` on the shelf in memory: what it does, exactly; no count falls
pub record MemReads (old new : ShelfState) (call : Read) : Type 0 where
  pub exact : ShelfRead old new call.name call.limit call.answer
  pub faults : old.faults ≤ new.faults
  pub longs : old.longs ≤ new.longs

-- a call of `read` on the files of the system: the counts go by the answer, of which no more is known than its length; no count falls
pub record FileReads (old new : FileCounts) (call : Read) : Type 0 where
  pub counts : new ≡ counts_after old call.answer
  pub bound : IfOk call.answer (λ text. length text ≤ call.limit)
  pub faults : old.faults ≤ new.faults
  pub longs : old.longs ≤ new.longs
