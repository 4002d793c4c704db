-- A run as its calls: what it reads and what it puts, in order, and how it ends.
use Rattle.std.specs.Prelude.{◌≡◌, ℕ, ◌⊎◌, List, [], ◌∷◌, map, zip, length, Option, Some, None, Result, Ok, Err, ⊤}
use Rattle.mp_ports.specs.Calls.{Read, Put}
use Rattle.mp_ports.specs.declared.ports.PutFailed.{PutFailed}
use Rattle.mp_scripttext.specs.declared.script.Entry.{Entry}
use Rattle.mp_run.specs.declared.piece.Piece.{Piece}
use Rattle.mp_run.specs.declared.piece.Verdict.{Verdict}
use Rattle.mp_run.specs.declared.piece.Verdict.TheVariants.{Closed, Open, Ends}
use Rattle.mp_run.specs.declared.status.Status.{Status}
use Rattle.mp_run.specs.declared.status.Status.TheVariants as status
use Rattle.mp_run.specs.declared.stop.Stop.{Stop}
use Rattle.mp_run.specs.declared.stop.Stop.TheVariants as stop
use Rattle.mp_theory.specs.Tables.{Laws}
use Rattle.mp_run.specs.Commands.{Command, usage_line}
use Rattle.mp_run.specs.Goals.{IsEvaluated, IsDrilled}
use Rattle.mp_run.specs.Lines.{fault_line}
use Rattle.mp_run.specs.Loads.{Search, Evaluated, Drilled, Plan, Searched, Replayed, Said, loads}
use Rattle.mp_run.specs.Parts.{Names}
use Rattle.mp_run.specs.Replays.{IsReplayed}

-- ## Pieces

-- after a piece that ends the run there is no other one; else these are the others
abbrev pub Others : Verdict → (List Piece → Type 0) → List Piece → Type 0
Others (Ends s) Are ps = ps ≡ []
Others Closed Are ps = Are ps
Others Open Are ps = Are ps

-- a piece for each, in order, up to and including the first one that ends the run
abbrev pub Pieces : {X : Type 0} → (X → Piece → Type 0) → List X → List Piece → Type 0
Pieces Is [] [] = ⊤
Pieces Is (x ∷ xs) (p ∷ ps) = Is x p × Others p.verdict (Pieces Is xs) ps
Pieces Is [] (p ∷ ps) = ⊥
Pieces Is (x ∷ xs) [] = ⊥

-- the status after a piece and those after it, by the status before it: something open stays open, and a piece that ends the run has the last word
abbrev pub status_on : Verdict → Status → (Status → Status) → Status
status_on Closed before later = later before
status_on Open before later = later status.NotAll
status_on (Ends s) before later = s

-- the status after pieces, by the status before them
abbrev pub status_after : List Piece → Status → Status
status_after [] before = before
status_after (p ∷ ps) before = status_on p.verdict before (status_after ps)

-- the status of a run that put these pieces: the one that a piece ends it with; else AllClosed if each is closed, and NotAll if not
abbrev pub status_of : List Piece → Status
status_of ps = status_after ps status.AllClosed

-- a goal's piece, by how its tree is searched for. A further command is a further row:
--   prove: as seq, the outcome one that the strategy gives;   keep: the goal's node after its events, closed
abbrev pub IsPiece : Search → Names → Laws → Entry → Piece → Type 0
IsPiece Evaluated names theory entry p = IsEvaluated names theory entry p
IsPiece (Drilled events) names theory entry p = IsDrilled names theory (events entry.name) entry p

-- the pieces that are put, by what is done with the goals: one for each goal; or one for each with its block, of which there are as many. A
-- command that puts others is a further row:
--   expand: as replay, a valid tree expanded;   resume: for each goal with its node the outcome that it reaches
--   work: a frame for each job;   load: one line for all goals
abbrev pub SaysBy : Plan → Names → Laws → List Entry → List Piece → Type 0
SaysBy (Searched search) names theory goals ps = Pieces (IsPiece search names theory) goals ps
SaysBy (Replayed blocks) names theory goals ps = (length blocks ≡ length goals) × Pieces (IsReplayed names theory) (zip goals blocks) ps

-- the pieces that are put, by what the texts say
abbrev pub Says : Said → List Piece → Type 0
Says said ps = SaysBy said.plan said.names said.theory said.goals ps

-- ## Puts

-- a put of these bytes
abbrev pub put_of : List ℕ → Result (Unit {0}) PutFailed → Put
put_of bytes answer = record { bytes = bytes; answer = answer }

-- after a put that was taken these; one that failed is the last call
abbrev pub Then : Result (Unit {0}) PutFailed → Type 0 → List Put → Status → Type 0
Then (Ok done) rest calls s = rest
Then (Err failed) rest calls s = (calls ≡ []) × (s ≡ status.WriteFault)

-- each text is put by one call, in order, and the run ends so; a put that fails ends it, and so does want of memory before a put
abbrev pub Puts : List (List ℕ) → Status → List Put → Status → Type 0
Puts [] end [] s = s ≡ end
Puts [] end (c ∷ cs) s = ⊥
Puts (t ∷ ts) end [] s = s ≡ status.NoMemory
Puts (t ∷ ts) end (c ∷ cs) s = (c.bytes ≡ t) × Then c.answer (Puts ts end cs s) cs s

-- a line is put by one call, and the run ends so, or by the fault of that call
abbrev pub PutsLine : List ℕ → Status → List Put → Status → Type 0
PutsLine line end calls s = (answer : Result (Unit {0}) PutFailed) × (calls ≡ put_of line answer ∷ []) × Then answer (s ≡ end) [] s

-- ## Sessions

-- what is put after the run was ended before its goals: the line of a refusal; the line of a file that couldn't be read, if there is
-- memory for it; or nothing
abbrev pub StopPuts : Stop → List Put → Status → Type 0
StopPuts (stop.Refused line) calls s = PutsLine line status.Refused calls s
StopPuts (stop.Fault file) calls s = PutsLine (fault_line file) status.ReadFault calls s ⊎ ((calls ≡ []) × (s ≡ status.NoMemory))
StopPuts stop.NoMemory calls s = (calls ≡ []) × (s ≡ status.NoMemory)

-- what is put after the texts were read, or after the run was ended before its goals
abbrev pub Ended : Result Said Stop → List Put → Status → Type 0
Ended (Ok said) calls s = (ps : List Piece) × Says said ps × Puts (map (λ p. p.text) ps) (status_of ps) calls s
Ended (Err end) calls s = StopPuts end calls s

-- a command's run: the reads and puts that it made, in order, and the status that it ended with
abbrev pub CommandSession : Command → List Read → List Put → Status → Type 0
CommandSession c reads puts s = (out : Result Said Stop) × loads c reads out × Ended out puts s

-- a run: if the words are no command, nothing is read and the usage line is put
abbrev pub Session : Option Command → List Read → List Put → Status → Type 0
Session None reads puts s = (reads ≡ []) × PutsLine usage_line status.Usage puts s
Session (Some c) reads puts s = CommandSession c reads puts s
