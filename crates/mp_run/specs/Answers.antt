-- What a command answers over files whose bytes are told, and what a session writes and counts.
use Rattle.std.specs.Prelude.{◌≡◌, ℕ, ◌<◌, ◌≤◌, ◌⊎◌, List, [], ◌∷◌, ◌++◌, map, zip, length, Option, Some, None, IsSome, Result, Ok, Err, ⊤}
use Rattle.mp_logic.specs.Lists.{joined}
use Rattle.mp_ports.specs.Calls.{Read}
use Rattle.mp_ports.specs.Causes.{Rose}
use Rattle.mp_ports.specs.declared.ports.ReadErr.{ReadErr}
use Rattle.mp_ports.specs.declared.ports.ReadErr.TheVariants as err
use Rattle.mp_theory.specs.Tables.{Laws}
use Rattle.mp_scripttext.specs.declared.script.Entry.{Entry}
use Rattle.mp_run.specs.declared.piece.Piece.{Piece}
use Rattle.mp_run.specs.declared.status.Status.{Status}
use Rattle.mp_run.specs.declared.status.Status.TheVariants as status
use Rattle.mp_run.specs.declared.stop.Stop.{Stop}
use Rattle.mp_run.specs.declared.stop.Stop.TheVariants as stop
use Rattle.mp_run.specs.Commands.{From, Named, Made, Task, Seq, Drill, Replay, Command, usage_line}
use Rattle.mp_run.specs.Lines.{fault_line}
use Rattle.mp_run.specs.Loads.{Plan, Searched, Replayed, Said, loads}
use Rattle.mp_run.specs.Replays.{SomeBadTree}
use Rattle.mp_run.specs.Sessions.{Says, status_of}

-- the answer to a read is the one of a file with these bytes: they are at most the limit, or it is too long; nothing is said of a
-- file that isn't told
abbrev pub IsFrom : Option (List ℕ) → ℕ → Result (List ℕ) ReadErr → Type 0
IsFrom None limit answer = ⊤
IsFrom (Some bytes) limit (Ok text) = (text ≡ bytes) × (length bytes ≤ limit)
IsFrom (Some bytes) limit (Err err.TooLong) = limit < length bytes
IsFrom (Some bytes) limit (Err other) = ⊥

module _ (files : List ℕ → Option (List ℕ)) where
  -- each read of a file that is told is answered from its bytes
  abbrev pub AllFrom : List Read → Type 0
  AllFrom [] = ⊤
  AllFrom (r ∷ rs) = IsFrom (files r.name) r.limit r.answer × AllFrom rs

  -- the bytes of a text are told
  abbrev pub IsTold : From → Type 0
  IsTold (Named name) = IsSome (files name)
  IsTold (Made text) = ⊤

  -- the bytes of what a task reads are told
  abbrev pub TaskIsTold : Task → Type 0
  TaskIsTold Seq = ⊤
  TaskIsTold (Drill schedule) = IsTold schedule
  TaskIsTold (Replay trees) = IsTold trees

  -- the bytes of each text of the command are told
  abbrev pub AreTold : Command → Type 0
  AreTold c = IsTold c.theory × IsTold c.script × TaskIsTold c.task

-- the whole of what a run puts, under its status: each piece; or the line that tells why it ended before its goals
abbrev pub Whole : Result Said Stop → Status → List ℕ → Type 0
Whole (Ok said) s text = (ps : List Piece) × Says said ps × (s ≡ status_of ps) × (text ≡ joined (map (λ p. p.text) ps))
Whole (Err (stop.Refused line)) s text = (s ≡ status.Refused) × (text ≡ line)
Whole (Err (stop.Fault file)) s text = (s ≡ status.ReadFault) × (text ≡ fault_line file)
Whole (Err stop.NoMemory) s text = ⊥

-- what was read is a tree file, and some tree of it doesn't prove its goal
abbrev pub HasBadTree : Plan → Laws → List Entry → Type 0
HasBadTree (Searched search) theory goals = ⊥
HasBadTree (Replayed blocks) theory goals = SomeBadTree theory (zip goals blocks)

-- what a command answers over these files: a status, and a text
abbrev pub Answers : (List ℕ → Option (List ℕ)) → Command → Status → List ℕ → Type 0
Answers files c s text = (calls : List Read) × AllFrom files calls × (out : Result Said Stop) × loads c calls out × Whole out s text

-- the run broke off: a put failed, or memory ran out
abbrev pub BreaksOff : Status → Type 0
BreaksOff s = (s ≡ status.WriteFault) ⊎ (s ≡ status.NoMemory)

-- the text is written whole, under its status; or its first bytes are, if the run broke off; or nothing, for want of memory
abbrev pub WritesOf : (Status → List ℕ → Type 0) → Status → List ℕ → Type 0
WritesOf IsWhole s text =
    IsWhole s text
    ⊎ ((BreaksOff s × ((end : Status) × (rest : List ℕ) × IsWhole end (text ++ rest)))
    ⊎ ((s ≡ status.NoMemory) × (text ≡ [])))

-- the usage line, whole
abbrev pub WholeUsage : Status → List ℕ → Type 0
WholeUsage s text = (s ≡ status.Usage) × (text ≡ usage_line)

-- what a session writes, by what it read: if the words are no command, the usage line; else what the texts make
abbrev pub Writes : Option Command → List Read → Status → List ℕ → Type 0
Writes None calls s text = WritesOf WholeUsage s text
Writes (Some c) calls s text = (out : Result Said Stop) × loads c calls out × WritesOf (Whole out) s text

-- a fault comes only if its count rose; another status, memory aside, only if none did
abbrev pub RunCause : Status → (reads_before reads_now writes_before writes_now : ℕ) → Type 0
RunCause status.ReadFault r r' w w' = Rose r r' × (w' ≡ w)
RunCause status.WriteFault r r' w w' = Rose w w'
RunCause status.NoMemory r r' w w' = ⊤
RunCause other r r' w w' = (r' ≡ r) × (w' ≡ w)

-- what a shelf holds stays
abbrev pub Keeps : (before now : List ℕ → Option (List ℕ)) → Type 0
Keeps before now = (name : List ℕ) → now name ≡ before name
