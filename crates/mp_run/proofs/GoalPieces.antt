-- The pieces of goals, from the parts that make them.
use Rattle.std.proofs.Common.{◌≡◌, ℕ, ◌++◌, List, [], refl, ap, subst, ◌∙◌}
use Rattle.mp_term.specs.declared.sequent.Sequent.{Sequent}
use Rattle.mp_theory.specs.Tables.{Laws, IsTheory}
use Rattle.mp_theory.specs.declared.just.Just.{Just}
use Rattle.mp_strategy.specs.declared.problem.ProblemState.{ProblemState}
use Rattle.mp_strategy.specs.declared.work.Work.{Work}
use Rattle.mp_strategy.specs.declared.outcome.Outcome.{Outcome}
use Rattle.mp_strategy.specs.Works.{work_of}
use Rattle.mp_report.specs.Results.{result_text}
use Rattle.mp_report.specs.Traces.{trace_text}
use Rattle.mp_refiner.specs.Law.{StepLaw}
use Rattle.mp_refiner.specs.Steps.{meaning_of}
use Rattle.mp_scripttext.specs.declared.script.Entry.{Entry}
use Rattle.mp_scripttext.specs.Entries.{IsGoodEntry}
use Rattle.mp_drill.specs.declared.schedule.Event.{Event}
use Rattle.mp_drill.specs.declared.schedule.Reply.{Reply}
use Rattle.mp_drill.specs.Laws.{SomeTrace}
use Rattle.mp_drill.specs.Trace.{IsTrace}
use Rattle.mp_run.specs.declared.piece.Piece.{Piece}
use Rattle.mp_run.specs.declared.piece.Verdict.{Verdict}
use Rattle.mp_run.specs.Goals.{problem_of, goal_work, evaluate_by, verdict_of, IsBlock, IsEvaluated, IsDrilled}
use Rattle.mp_run.specs.Loads.{Search, Evaluated, Drilled}
use Rattle.mp_run.specs.Parts.{Names}
use Rattle.mp_run.specs.Sessions.{IsPiece}
use Rattle.mp_run.proofs.Proving.{SoundIn, is_step, outcome_says, sound, evaluate_in, goal_outcome}

abbrev pub piece_of : List ℕ → Verdict → Piece
piece_of text verdict = record { text = text; verdict = verdict }

pub same_piece : (p q : Piece) → p.text ≡ q.text → p.verdict ≡ q.verdict → p ≡ q
same_piece p q e f = λ i. record { text = e i; verdict = f i }

-- what two pushes append
pub appended : (text out mid start trace result : List ℕ) → text ≡ out → out ≡ mid ++ result → mid ≡ start ++ trace → start ≡ [] → text ≡ trace ++ result
appended text out mid start trace result a b c d = a ∙ b ∙ ap (λ (xs : List ℕ). xs ++ result) (c ∙ ap (λ (xs : List ℕ). xs ++ trace) d)

-- each schedule of a goal's works has a trace
abbrev pub EachTrace : Type 0
EachTrace = (theory : Laws) (eval : Work Sequent → Outcome Sequent) → SomeTrace eval

module _ (law : StepLaw) (names : Names) (theory : Laws) (entry : Entry) (is_theory : IsTheory theory) (good : IsGoodEntry theory entry) where
  -- what holds of the problem and the work that were made holds of the goal's
  pub on_goal : (Q : ProblemState Laws Just → Work Sequent → Type 0) (logic : Laws) (p : ProblemState Laws Just) (w : Work Sequent) → logic ≡ theory
      → p ≡ record { logic = logic; justs = entry.justs; tacs = entry.tacs } → w ≡ work_of p.tacs (record { 0 = 0 }) entry.fuel entry.goal → Q p w → Q (problem_of theory entry) (goal_work entry)
  on_goal Q logic p w l e f h =
      let same : p ≡ problem_of theory entry = e ∙ ap (λ (t : Laws). record { logic = t; justs = entry.justs; tacs = entry.tacs }) l in
      let work : w ≡ goal_work entry = f ∙ ap (λ (x : ProblemState Laws Just). work_of x.tacs (record { 0 = 0 }) entry.fuel entry.goal) same in
      subst (λ (v : Work Sequent). Q (problem_of theory entry) v) work (subst (λ (x : ProblemState Laws Just). Q x w) same h)

  -- the piece of a goal, with what its outcome says of the goal
  block_made : (before : List ℕ) (o : Outcome Sequent) (text : List ℕ) (verdict : Verdict) → SoundIn theory entry o
      → text ≡ before ++ result_text names theory entry.name entry.justs o → verdict ≡ verdict_of o → IsBlock names theory entry before o (piece_of text verdict)
  block_made before o text verdict is t v = let h = outcome_says law theory is_theory entry good o is in record { valid = h.valid; low = h.low; derivable = h.derivable; text = t; verdict = v }

  pub evaluated : (o : Outcome Sequent) (text : List ℕ) (verdict : Verdict) → o ≡ goal_outcome theory entry → SoundIn theory entry o → text ≡ result_text names theory entry.name entry.justs o → verdict ≡ verdict_of o
      → IsEvaluated names theory entry (piece_of text verdict)
  evaluated o text verdict e is t v =
      ((meaning_of theory).step, is_step law theory is_theory, subst (λ (x : Outcome Sequent). IsBlock names theory entry [] x (piece_of text verdict)) e (block_made [] o text verdict is t v))

  -- the code's steps are steps of the theory that evaluate to the same
  same_eval : evaluate_in theory entry ≡ evaluate_by (meaning_of theory).step theory entry
  same_eval = λ i w. evaluate_in theory entry w

  pub drilled : (events due : List Event) (o : Outcome Sequent) (replies : List Reply) (text : List ℕ) (verdict : Verdict) → events ≡ due → IsTrace (evaluate_in theory entry) (goal_work entry) events replies o → SoundIn theory entry o
      → text ≡ trace_text names entry.name events replies ++ result_text names theory entry.name entry.justs o → verdict ≡ verdict_of o → IsDrilled names theory due entry (piece_of text verdict)
  drilled events due o replies text verdict d h is t v =
      subst (λ (es : List Event). IsDrilled names theory es entry (piece_of text verdict)) d
      ((meaning_of theory).step, is_step law theory is_theory, replies, o, subst (λ (run : Work Sequent → Outcome Sequent). IsTrace run (goal_work entry) events replies o) same_eval h, block_made (trace_text names entry.name events replies) o text verdict is t v)

  -- the goal has a piece
  pub some_piece : EachTrace → (search : Search) → (p : Piece) × IsPiece search names theory entry p
  some_piece some Evaluated =
      let o = goal_outcome theory entry in
      let text = result_text names theory entry.name entry.justs o in
      (piece_of text (verdict_of o), evaluated o text (verdict_of o) refl (sound theory entry good) refl refl)
  some_piece some (Drilled due) =
      let events = due entry.name in
      let trace = some theory (evaluate_in theory entry) (goal_work entry) events in
      let o = goal_outcome theory entry in
      let before = trace_text names entry.name events trace.0 in
      let text = before ++ result_text names theory entry.name entry.justs o in
      (piece_of text (verdict_of o), drilled events events o trace.0 text (verdict_of o) refl trace.1 (sound theory entry good) refl refl)
