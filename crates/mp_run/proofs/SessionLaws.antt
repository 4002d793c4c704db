-- What a session writes, counts and leaves, over any shelf and any sink.
use Rattle.std.proofs.Common.{◌≡◌, ◌⊎◌, inl, inr, ℕ, Bool, true, false, if◌then◌else◌, List, [], ◌∷◌, ◌++◌, map, Option, Some, None, Result, Ok, Err, refl, ap, sym, subst, ◌∙◌, append-nil, arith}
use Rattle.std.specs.Bool.{⊤}
use Rattle.std.specs.Io.KnownBytes.{Appends}
use Rattle.std.specs.Prelude.{zip}
use Rattle.mp_logic.specs.Lists.{joined}
use Rattle.mp_ports.specs.Calls.{Read, Put, Chain}
use Rattle.mp_ports.specs.Causes.{Quiet, ReadCause, PutCause}
use Rattle.mp_ports.specs.Shelves.{Told}
use Rattle.mp_ports.specs.Sinks.{PutTakes}
use Rattle.mp_ports.specs.declared.ports.PutFailed.{PutFailed}
use Rattle.mp_theory.specs.Tables.{Laws}
use Rattle.mp_scripttext.specs.declared.script.Entry.{Entry}
use Rattle.mp_treetext.specs.declared.printed.Printed.{Printed}
use Rattle.mp_treetext.specs.declared.printed.Printed.TheVariants as printed
use Rattle.mp_report.specs.declared.check.Checked.{Checked}
use Rattle.mp_report.specs.declared.check.Checked.TheVariants as checked
use Rattle.mp_run.specs.declared.piece.Piece.{Piece}
use Rattle.mp_run.specs.declared.piece.Verdict.{Verdict}
use Rattle.mp_run.specs.declared.piece.Verdict.TheVariants.{Closed, Open, Ends}
use Rattle.mp_run.specs.declared.status.Status.{Status}
use Rattle.mp_run.specs.declared.status.Status.TheVariants as status
use Rattle.mp_run.specs.declared.stop.Stop.{Stop}
use Rattle.mp_run.specs.declared.stop.Stop.TheVariants as stop
use Rattle.mp_run.specs.Answers.{Whole, Answers, WritesOf, WholeUsage, Writes, RunCause}
use Rattle.mp_run.specs.Commands.{Command, usage_line}
use Rattle.mp_run.specs.Goals.{is_closed_outcome}
use Rattle.mp_run.specs.Lines.{fault_line}
use Rattle.mp_run.specs.Loads.{Search, Evaluated, Drilled, Plan, Searched, Replayed, Said}
use Rattle.mp_run.specs.Parts.{Names}
use Rattle.mp_run.specs.Replays.{IsChecked, IsReplayed, checked_of, run_verdict}
use Rattle.mp_run.specs.Sessions.{Others, Pieces, status_on, status_after, status_of, IsPiece, Says, SaysBy, Then, Puts, PutsLine, Ended as PutsEnded, CommandSession, Session}
use Rattle.mp_run.proofs.Courses.{course_of, Counts, IsDone, Follows, fair_loads, counts, all_from}
use Rattle.mp_run.proofs.Written.{Ended, all_written, lacking, failing, written, line_written, none_written}

-- ## The status of pieces

-- a run with this status is one without a fault
abbrev IsFaultless : Status → Type 0
IsFaultless s = (r r' w w' : ℕ) → r' ≡ r → w' ≡ w → RunCause s r r' w w'

-- a piece of this verdict doesn't end the run by a fault
abbrev IsPlain : Verdict → Type 0
IsPlain Closed = ⊤
IsPlain Open = ⊤
IsPlain (Ends s) = IsFaultless s

not_all : IsFaultless status.NotAll
not_all r r' w w' h k = (h, k)

status_step : (v : Verdict) (Are : List Piece → Type 0) (ps : List Piece) (before : Status) → IsPlain v → Others v Are ps → IsFaultless before
    → (Are ps → (b : Status) → IsFaultless b → IsFaultless (status_after ps b)) → IsFaultless (status_on v before (status_after ps))
status_step Closed Are ps before is h g more = more h before g
status_step Open Are ps before is h g more = more h status.NotAll not_all
status_step (Ends s) Are ps before is h g more = is

pieces_status : {X : Type 0} (Is : X → Piece → Type 0) → ((x : X) (p : Piece) → Is x p → IsPlain p.verdict) → (xs : List X) (ps : List Piece) → Pieces Is xs ps → (before : Status) → IsFaultless before
    → IsFaultless (status_after ps before)
pieces_status Is plain [] [] h before g = g
pieces_status Is plain [] (p ∷ ps) h before g = absurd h
pieces_status Is plain (x ∷ xs) [] h before g = absurd h
pieces_status Is plain (x ∷ xs) (p ∷ ps) h before g =
    status_step p.verdict (Pieces Is xs) ps before (plain x p h.0) h.1 g (λ k b f. pieces_status Is plain xs ps k b f)

plain_if : (b : Bool) (v : Verdict) → v ≡ (if b then Closed else Open) → IsPlain v
plain_if true v e = subst IsPlain (sym e) tt
plain_if false v e = subst IsPlain (sym e) tt

line_is_plain : (c : Checked) (v : Verdict) → v ≡ run_verdict c → IsPlain v
line_is_plain checked.Closed v e = subst IsPlain (sym e) tt
line_is_plain (checked.Open n) v e = subst IsPlain (sym e) tt
line_is_plain checked.Unchecked v e = subst IsPlain (sym e) tt
line_is_plain (checked.Bad node why) v e = let bad : IsPlain (Ends status.BadTree) = λ r r' w w' h k. (h, k) in subst IsPlain (sym e) bad

piece_is_plain : (search : Search) (names : Names) (theory : Laws) (entry : Entry) (p : Piece) → IsPiece search names theory entry p → IsPlain p.verdict
piece_is_plain Evaluated names theory entry p h = plain_if (is_closed_outcome _) p.verdict h.2.verdict
piece_is_plain (Drilled events) names theory entry p h = plain_if (is_closed_outcome h.3) p.verdict h.5.verdict

block_is_plain : (names : Names) (theory : Laws) (entry : Entry) (block : Printed) (p : Piece) → IsChecked names theory entry block p → IsPlain p.verdict
block_is_plain names theory entry (printed.Proof t justs) p h = line_is_plain (checked_of h.2) p.verdict h.4.line.verdict
block_is_plain names theory entry (printed.Failed kind tac goal) p h = line_is_plain checked.Unchecked p.verdict h.verdict

says_by_status : (plan : Plan) (names : Names) (theory : Laws) (goals : List Entry) (ps : List Piece) → SaysBy plan names theory goals ps → IsFaultless (status_of ps)
says_by_status (Searched by) names theory goals ps h = pieces_status (IsPiece by names theory) (λ e p k. piece_is_plain by names theory e p k) goals ps h status.AllClosed (λ r r' w w' a b. (a, b))
says_by_status (Replayed blocks) names theory goals ps h =
    pieces_status (IsReplayed names theory) (λ x p k. block_is_plain names theory x.0 x.1 p k) (zip goals blocks) ps h.1 status.AllClosed (λ r r' w w' a b. (a, b))

says_status : (said : Said) (ps : List Piece) → Says said ps → IsFaultless (status_of ps)
says_status said ps h = says_by_status said.plan said.names said.theory said.goals ps h

-- ## Causes

-- a run whose puts ended so has its cause, if it has one where all was written
caused : (whole text : List ℕ) (end s : Status) (r r' w w' : ℕ) → Ended whole end s w w' text → (w' ≡ w → RunCause end r r' w w') → RunCause s r r' w w'
caused whole text end s r r' w w' (all_written e k t) h = subst (λ (x : Status). RunCause x r r' w w') (sym e) (h k)
caused whole text end s r r' w w' (lacking e k rest t) h = subst (λ (x : Status). RunCause x r r' w w') (sym e) tt
caused whole text end s r r' w w' (failing e k rest t) h = subst (λ (x : Status). RunCause x r r' w w') (sym e) k

-- ## Texts

writes_by : (IsWhole : Status → List ℕ → Type 0) (whole text : List ℕ) (end s : Status) (w w' : ℕ) → Ended whole end s w w' text → ((t : List ℕ) → t ≡ whole → IsWhole end t) → WritesOf IsWhole s text
writes_by IsWhole whole text end s w w' (all_written e k t) h = inl (subst (λ (x : Status). IsWhole x text) (sym e) (h text t))
writes_by IsWhole whole text end s w w' (lacking e k rest t) h = inr (inl (inr e, (end, rest, h (text ++ rest) t)))
writes_by IsWhole whole text end s w w' (failing e k rest t) h = inr (inl (inl e, (end, rest, h (text ++ rest) t)))

-- where no put failed and memory didn't run out all was written
whole_by : (IsWhole : Status → List ℕ → Type 0) (whole text : List ℕ) (end s : Status) (w w' : ℕ) → Ended whole end s w w' text → Quiet w w' → (s ≡ status.NoMemory → ⊥)
    → ((t : List ℕ) → t ≡ whole → IsWhole end t) → IsWhole s text
whole_by IsWhole whole text end s w w' (all_written e k t) q m h = subst (λ (x : Status). IsWhole x text) (sym e) (h text t)
whole_by IsWhole whole text end s w w' (lacking e k rest t) q m h = absurd (m e)
whole_by IsWhole whole text end s w w' (failing e k rest t) q m h = absurd (omega (arith, q, k))

alone : (line t : List ℕ) → t ≡ joined (line ∷ []) → t ≡ line
alone line t e = e ∙ append-nil line

-- ## Sessions

module _ {S T : Type 0} (R : S → S → Read → Type 0) (bytes : S → List ℕ → Option (List ℕ)) (reads_faults longs : S → ℕ)
    (told : (old new : S) (call : Read) → R old new call → Told (bytes old call.name) call.limit call.answer)
    (read_cause : (old new : S) (call : Read) → R old new call → ReadCause (reads_faults old) (reads_faults new) (longs old) (longs new) call.answer)
    (kept : (old new : S) (call : Read) → R old new call → (other : List ℕ) → bytes new other ≡ bytes old other)
    (P : T → T → Put → Type 0) (taken : T → Option (List ℕ)) (puts_faults : T → ℕ)
    (takes : (old new : T) (call : Put) → P old new call → PutTakes (taken old) (taken new) call.bytes call.answer)
    (put_cause : (old new : T) (call : Put) → P old new call → PutCause (puts_faults old) (puts_faults new) call.answer)
    (s t : S) (o p : T) (reads : List Read) (puts : List Put) (read : Chain R s t reads) (put : Chain P o p puts) where
  abbrev Wrote : (List ℕ → Type 0) → Type 0
  Wrote Is = (text : List ℕ) × Appends (taken o) (taken p) text × Is text

  line_put : (line : List ℕ) (end final : Status) → PutsLine line end puts final → (text : List ℕ) × Appends (taken o) (taken p) text × Ended (joined (line ∷ [])) end final (puts_faults o) (puts_faults p) text
  line_put line end final h = line_written P taken puts_faults takes put_cause line end final o p puts put h

  nothing_put : (final : Status) → puts ≡ [] → Appends (taken o) (taken p) []
  nothing_put final e = none_written P taken puts_faults takes put_cause final o p puts put e

  pieces_put : (ps : List Piece) (end final : Status) → Puts (map (λ (p : Piece). p.text) ps) end puts final
      → (text : List ℕ) × Appends (taken o) (taken p) text × Ended (joined (map (λ (p : Piece). p.text) ps)) end final (puts_faults o) (puts_faults p) text
  pieces_put ps end final h = written P taken puts_faults takes put_cause (map (λ (p : Piece). p.text) ps) end final o p puts put h

  counted : (out : Result Said Stop) → Follows reads (course_of out) → Counts (course_of out) (reads_faults s) (reads_faults t)
  counted out h = counts R bytes reads_faults longs read_cause s t reads (course_of out) read h

  -- what is written of a command
  ended_writes : (out : Result Said Stop) (final : Status) → PutsEnded out puts final → Wrote (WritesOf (Whole out) final)
  ended_writes (Ok said) final h =
      let w = pieces_put h.0 (status_of h.0) final h.2 in
      (w.0, w.1, writes_by (Whole (Ok said)) _ w.0 (status_of h.0) final _ _ w.2 (λ t e. (h.0, h.1, refl, e)))
  ended_writes (Err (stop.Refused line)) final h =
      let w = line_put line status.Refused final h in
      (w.0, w.1, writes_by (Whole (Err (stop.Refused line))) _ w.0 status.Refused final _ _ w.2 (λ t e. (refl, alone line t e)))
  ended_writes (Err (stop.Fault file)) final (inl h) =
      let w = line_put (fault_line file) status.ReadFault final h in
      (w.0, w.1, writes_by (Whole (Err (stop.Fault file))) _ w.0 status.ReadFault final _ _ w.2 (λ t e. (refl, alone (fault_line file) t e)))
  ended_writes (Err (stop.Fault file)) final (inr h) = ([], nothing_put final h.0, inr (inr (h.1, refl)))
  ended_writes (Err stop.NoMemory) final h = ([], nothing_put final h.0, inr (inr (h.1, refl)))

  pub session_writes : (c : Option Command) (final : Status) → Session c reads puts final → Wrote (Writes c reads final)
  session_writes None final h =
      let w = line_put usage_line status.Usage final h.1 in
      (w.0, w.1, writes_by WholeUsage _ w.0 status.Usage final _ _ w.2 (λ t e. (refl, alone usage_line t e)))
  session_writes (Some c) final h = let w = ended_writes h.0 final h.2 in (w.0, w.1, (h.0, h.1, w.2))

  -- the cause of a status
  ended_cause : (out : Result Said Stop) (final : Status) → Follows reads (course_of out) → PutsEnded out puts final
      → RunCause final (reads_faults s) (reads_faults t) (puts_faults o) (puts_faults p)
  ended_cause (Ok said) final f h =
      let w = pieces_put h.0 (status_of h.0) final h.2 in
      caused _ w.0 (status_of h.0) final _ _ _ _ w.2 (λ k. says_status said h.0 h.1 _ _ _ _ (counted (Ok said) f) k)
  ended_cause (Err (stop.Refused line)) final f h =
      let w = line_put line status.Refused final h in caused _ w.0 status.Refused final _ _ _ _ w.2 (λ k. (counted (Err (stop.Refused line)) f, k))
  ended_cause (Err (stop.Fault file)) final f (inl h) =
      let w = line_put (fault_line file) status.ReadFault final h in caused _ w.0 status.ReadFault final _ _ _ _ w.2 (λ k. (counted (Err (stop.Fault file)) f, k))
  ended_cause (Err (stop.Fault file)) final f (inr h) = subst (λ (x : Status). RunCause x (reads_faults s) (reads_faults t) (puts_faults o) (puts_faults p)) (sym h.1) tt
  ended_cause (Err stop.NoMemory) final f h = subst (λ (x : Status). RunCause x (reads_faults s) (reads_faults t) (puts_faults o) (puts_faults p)) (sym h.1) tt

  nothing_read : reads ≡ [] → t ≡ s
  nothing_read e = subst (λ (cs : List Read). Chain R s t cs) e read

  pub session_cause : (c : Option Command) (final : Status) → Session c reads puts final → RunCause final (reads_faults s) (reads_faults t) (puts_faults o) (puts_faults p)
  session_cause None final h =
      let w = line_put usage_line status.Usage final h.1 in caused _ w.0 status.Usage final _ _ _ _ w.2 (λ k. (ap reads_faults (nothing_read h.0), k))
  session_cause (Some c) final h = ended_cause h.0 final (fair_loads c reads h.0 h.1) h.2

  -- the whole answer
  ended_whole : (out : Result Said Stop) (final : Status) → Quiet (puts_faults o) (puts_faults p) → (final ≡ status.NoMemory → ⊥) → PutsEnded out puts final → Wrote (Whole out final)
  ended_whole (Ok said) final q m h =
      let w = pieces_put h.0 (status_of h.0) final h.2 in
      (w.0, w.1, whole_by (Whole (Ok said)) _ w.0 (status_of h.0) final _ _ w.2 q m (λ t e. (h.0, h.1, refl, e)))
  ended_whole (Err (stop.Refused line)) final q m h =
      let w = line_put line status.Refused final h in
      (w.0, w.1, whole_by (Whole (Err (stop.Refused line))) _ w.0 status.Refused final _ _ w.2 q m (λ t e. (refl, alone line t e)))
  ended_whole (Err (stop.Fault file)) final q m (inl h) =
      let w = line_put (fault_line file) status.ReadFault final h in
      (w.0, w.1, whole_by (Whole (Err (stop.Fault file))) _ w.0 status.ReadFault final _ _ w.2 q m (λ t e. (refl, alone (fault_line file) t e)))
  ended_whole (Err (stop.Fault file)) final q m (inr h) = absurd (m h.1)
  ended_whole (Err stop.NoMemory) final q m h = absurd (m h.1)

  -- without a fault and with memory a run was done
  is_done : (out : Result Said Stop) (final : Status) → Quiet (reads_faults s) (reads_faults t) → (final ≡ status.NoMemory → ⊥) → Follows reads (course_of out) → PutsEnded out puts final → IsDone (course_of out)
  is_done (Ok said) final q m f h = tt
  is_done (Err (stop.Refused line)) final q m f h = tt
  is_done (Err (stop.Fault file)) final q m f h = omega (arith, q, counted (Err (stop.Fault file)) f)
  is_done (Err stop.NoMemory) final q m f h = m h.1

  pub session_answer : (c : Command) (final : Status) → CommandSession c reads puts final → Quiet (reads_faults s) (reads_faults t) → Quiet (puts_faults o) (puts_faults p) → (final ≡ status.NoMemory → ⊥)
      → Wrote (Answers (bytes s) c final)
  session_answer c final h q u m =
      let f = fair_loads c reads h.0 h.1 in
      let w = ended_whole h.0 final u m h.2 in
      (w.0, w.1, (reads, all_from R bytes reads_faults longs kept told s t reads (course_of h.0) (is_done h.0 final q m f h.2) read f, h.0, h.1, w.2))

  usage_by : (answer : Result (Unit {0}) PutFailed) (final : Status) → Then answer (final ≡ status.Usage) [] final → (final ≡ status.Usage) ⊎ (final ≡ status.WriteFault)
  usage_by (Ok done) final h = inl h
  usage_by (Err failed) final h = inr h.1

  -- words that are no command end so
  pub session_usage : (final : Status) → Session None reads puts final → (t ≡ s) × ((final ≡ status.Usage) ⊎ (final ≡ status.WriteFault))
  session_usage final h = (nothing_read h.0, usage_by h.1.0 final h.1.2)
