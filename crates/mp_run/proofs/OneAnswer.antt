-- A command has one answer over files that are told.
use Rattle.std.proofs.Common.{◌≡◌, inl, inr, ℕ, List, [], ◌∷◌, ◌++◌, map, Option, Some, None, IsSome, Result, Ok, Err, refl, ap, sym, subst, ◌∙◌, arith}
use Rattle.std.specs.Bool.{⊤}
use Rattle.std.specs.List.{AllByRecursion}
use Rattle.std.specs.Prelude.{zip}
use Rattle.mp_logic.specs.Lists.{joined}
use Rattle.mp_logic.specs.declared.sym.Sym.{Sym}
use Rattle.mp_ports.specs.Calls.{Read}
use Rattle.mp_ports.specs.declared.ports.ReadErr.{ReadErr}
use Rattle.mp_ports.specs.declared.ports.ReadErr.TheVariants as err
use Rattle.mp_term.specs.declared.sequent.Sequent.{Sequent}
use Rattle.mp_theory.specs.Tables.{Laws, IsTheory, no_laws}
use Rattle.mp_refiner.specs.Law.{StepLaw, IsStepFunction}
use Rattle.mp_strategy.specs.declared.work.Work.{Work}
use Rattle.mp_strategy.specs.declared.outcome.Outcome.{Outcome}
use Rattle.mp_words.specs.declared.word.Word.{Word}
use Rattle.mp_words.specs.declared.fail.TextErr.{TextErr}
use Rattle.mp_words.specs.declared.fail.TextFail.TheVariants.{Bad}
use Rattle.mp_words.specs.Grammars.{Parse}
use Rattle.mp_words.specs.Texts.{Context, OneText, ReadsText}
use Rattle.mp_theorytext.specs.Reading.{ReadsTheory, OneTheoryText}
use Rattle.mp_scripttext.specs.declared.script.Entry.{Entry}
use Rattle.mp_scripttext.specs.Entries.{IsGoodEntry, EachGood}
use Rattle.mp_scripttext.specs.declared.script.Script.{Script as Goals}
use Rattle.mp_scripttext.specs.Reading.{ReadsScript, OneScriptText}
use Rattle.mp_drill.specs.declared.schedule.Event.{Event}
use Rattle.mp_drill.specs.declared.schedule.Reply.{Reply}
use Rattle.mp_drill.specs.Laws.{OneTrace, SameTraces}
use Rattle.mp_drill.specs.Trace.{IsTrace}
use Rattle.mp_drill.specs.ScheduleReading.{ReadsSchedule, OneScheduleText}
use Rattle.mp_treetext.specs.Reading.{ReadsTrees, OneTreesText, ReadTreesAreGood}
use Rattle.mp_report.specs.Refusals.{refusal_text}
use Rattle.mp_report.specs.Traces.{trace_text}
use Rattle.mp_report.specs.declared.refusal.FileKind.{FileKind}
use Rattle.mp_report.specs.declared.refusal.FileKind.TheVariants as kind
use Rattle.mp_run.specs.declared.piece.Piece.{Piece}
use Rattle.mp_run.specs.declared.piece.Verdict.{Verdict}
use Rattle.mp_run.specs.declared.piece.Verdict.TheVariants.{Closed, Open, Ends}
use Rattle.mp_run.specs.declared.status.Status.{Status}
use Rattle.mp_run.specs.declared.stop.Stop.{Stop}
use Rattle.mp_run.specs.declared.stop.Stop.TheVariants as stop
use Rattle.mp_run.specs.Answers.{IsFrom, AllFrom, IsTold, TaskIsTold, AreTold, Whole, Answers}
use Rattle.mp_run.specs.Commands.{From, Named, Made, Task, Seq, Drill, Replay, Command}
use Rattle.mp_run.specs.Goals.{Steps, goal_work, evaluate_by, IsBlock}
use Rattle.mp_run.specs.Lines.{limit_of}
use Rattle.mp_run.specs.Loads.{Search, Evaluated, Drilled, Plan, Searched, Replayed, Said, goal_names, plan_part, loads}
use Rattle.mp_run.specs.Parts.{Names, Reading, Part, gives, and_then, Answered, taken_from, SaysSo, says, read_as}
use Rattle.mp_run.specs.Replays.{IsReplayed}
use Rattle.mp_run.specs.Sessions.{Others, Pieces, IsPiece, Says, SaysBy, status_of}
use Rattle.mp_run.proofs.Good.{IsGoodPair, each_entry, each_pair}
use Rattle.mp_run.proofs.GoalPieces.{same_piece}
use Rattle.mp_run.proofs.Proving.{by_steps}
use Rattle.mp_run.proofs.Replaying.{one_replayed}
use Rattle.mp_run.proofs.Said.{TheoriesLaw, GoalsLaw, HasBlocks, IsGoodSaid, are_good}

-- ## Parts

-- memory didn't run out
abbrev pub IsEnd : {V : Type 0} → Result V Stop → Type 0
IsEnd (Ok value) = ⊤
IsEnd (Err (stop.Refused line)) = ⊤
IsEnd (Err (stop.Fault file)) = ⊤
IsEnd (Err stop.NoMemory) = ⊥

module _ (files : List ℕ → Option (List ℕ)) where
  -- over these files a part gives one thing
  abbrev Determined : {V : Type 0} → Part V → Type 0
  Determined {V} p = (calls others : List Read) (x y : Result V Stop) → AllFrom files calls → AllFrom files others → p calls x → p others y → IsEnd x → IsEnd y → x ≡ y

  all_first : (xs ys : List Read) → AllFrom files (xs ++ ys) → AllFrom files xs
  all_first [] ys h = tt
  all_first (r ∷ rs) ys h = (h.0, all_first rs ys h.1)

  all_last : (xs ys : List Read) → AllFrom files (xs ++ ys) → AllFrom files ys
  all_last [] ys h = h
  all_last (r ∷ rs) ys h = all_last rs ys h.1

  gives_one : {V : Type 0} (value : V) → Determined (gives value)
  gives_one value calls others x y f g (h, inl e) (k, inl d) a b = e ∙ sym d
  gives_one {V} value calls others x y f g (h, inr e) k a b = absurd (subst (IsEnd {V = V}) e a)
  gives_one {V} value calls others x y f g (h, inl e) (k, inr d) a b = absurd (subst (IsEnd {V = V}) d b)

  end_there : (A B : Type 0) (end : Stop) → (let out : Result B Stop = Err end in IsEnd out) → (let out : Result A Stop = Err end in IsEnd out)
  end_there A B (stop.Refused line) h = tt
  end_there A B (stop.Fault file) h = tt
  end_there A B stop.NoMemory h = h

  as_value : {A : Type 0} (v w : A) → (let out : Result A Stop = Ok v in out ≡ Ok w) → v ≡ w
  as_value v w e = cc

  as_end : {A : Type 0} (v w : Stop) → (let out : Result A Stop = Err v in out ≡ Err w) → v ≡ w
  as_end v w e = cc

  not_both : {A : Type 0} (v : A) (w : Stop) → (let out : Result A Stop = Ok v in out ≡ Err w) → ⊥
  not_both v w e = cc

  then_one : {A B : Type 0} (first : Part A) (next : A → Part B) → Determined first → ((value : A) → Determined (next value)) → Determined (and_then first next)
  then_one {A} {B} first next one more calls others x y f g (inl (end, h, e)) (inl (final, k, d)) a b =
      let s = one calls others (Err end) (Err final) f g h k (end_there A B end (subst (IsEnd {V = B}) e a)) (end_there A B final (subst (IsEnd {V = B}) d b)) in
      e ∙ ap Err (as_end end final s) ∙ sym d
  then_one {A} {B} first next one more calls others x y f g (inl (end, h, e)) (inr (value, made, left, d, k, l)) a b =
      let s = one calls made (Err end) (Ok value) f (all_first made left (subst (AllFrom files) d g)) h k (end_there A B end (subst (IsEnd {V = B}) e a)) tt in
      absurd (not_both value end (sym s))
  then_one {A} {B} first next one more calls others x y f g (inr (value, made, left, d, k, l)) (inl (end, h, e)) a b =
      let s = one made others (Ok value) (Err end) (all_first made left (subst (AllFrom files) d f)) g k h tt (end_there A B end (subst (IsEnd {V = B}) e b)) in
      absurd (not_both value end s)
  then_one {A} {B} first next one more calls others x y f g (inr (v, made, left, d, k, l)) (inr (w, made', left', e, m, n)) a b =
      let s = as_value v w (one made made' (Ok v) (Ok w) (all_first made left (subst (AllFrom files) d f)) (all_first made' left' (subst (AllFrom files) e g)) k m tt tt) in
      more v left left' x y (all_last made left (subst (AllFrom files) d f)) (all_last made' left' (subst (AllFrom files) e g)) l (subst (λ (u : A). next u left' y) (sym s) n) a b

  -- ## Files

  answers_one : (k : FileKind) (told : Option (List ℕ)) → IsSome told → (one other : Result (List ℕ) ReadErr) (x y : Result (List ℕ) Stop) → IsFrom told (limit_of k) one → IsFrom told (limit_of k) other
      → Answered k one x → Answered k other y → IsEnd x → IsEnd y → x ≡ y
  answers_one k None is one other x y f g h l a b = absurd cc
  answers_one k (Some bytes) is (Ok t) (Ok u) x y f g h l a b = h ∙ ap Ok (f.0 ∙ sym g.0) ∙ sym l
  answers_one k (Some bytes) is (Ok t) (Err err.TooLong) x y f g h l a b = absurd (omega (arith, f.1, g))
  answers_one k (Some bytes) is (Ok t) (Err err.Failed) x y f g h l a b = absurd g
  answers_one k (Some bytes) is (Ok t) (Err err.NoMemory) x y f g h l a b = absurd g
  answers_one k (Some bytes) is (Err err.TooLong) (Ok u) x y f g h l a b = absurd (omega (arith, g.1, f))
  answers_one k (Some bytes) is (Err err.TooLong) (Err err.TooLong) x y f g (inl h) (inl l) a b = h ∙ sym l
  answers_one k (Some bytes) is (Err err.TooLong) (Err err.TooLong) x y f g (inr h) l a b = absurd (subst IsEnd h a)
  answers_one k (Some bytes) is (Err err.TooLong) (Err err.TooLong) x y f g (inl h) (inr l) a b = absurd (subst IsEnd l b)
  answers_one k (Some bytes) is (Err err.TooLong) (Err err.Failed) x y f g h l a b = absurd g
  answers_one k (Some bytes) is (Err err.TooLong) (Err err.NoMemory) x y f g h l a b = absurd g
  answers_one k (Some bytes) is (Err err.Failed) other x y f g h l a b = absurd f
  answers_one k (Some bytes) is (Err err.NoMemory) other x y f g h l a b = absurd f

  taken_one : (k : FileKind) (from : From) → IsTold files from → Determined (taken_from k from)
  taken_one k (Made text) is calls others x y f g h l a b = gives_one text calls others x y f g h l a b
  taken_one k (Named name) is calls others x y f g (inl h) l a b = absurd (subst IsEnd h.1 a)
  taken_one k (Named name) is calls others x y f g (inr h) (inl l) a b = absurd (subst IsEnd l.1 b)
  taken_one k (Named name) is calls others x y f g (inr (one, d, h)) (inr (other, e, l)) a b =
      answers_one k (files name) is one other x y (subst (AllFrom files) d f).0 (subst (AllFrom files) e g).0 h l a b

  -- ## Texts

  -- bytes say one value with one table of names or have one fault, and not both
  record OneReading {V : Type 0} (reads : Reading V) : Type 1 where
    pub value : (bytes : List ℕ) (v w : V) (names others : Names) → reads bytes (Ok v) names → reads bytes (Ok w) others → (v ≡ w) × (names ≡ others)
    pub not_both : (bytes : List ℕ) (v : V) (e : TextErr) (names others : Names) → reads bytes (Ok v) names → reads bytes (Err (Bad e)) others → ⊥
    pub fault : (bytes : List ℕ) (e f : TextErr) (names others : Names) → reads bytes (Err (Bad e)) names → reads bytes (Err (Bad f)) others → e ≡ f

  text_read : {X V : Type 0} {g : List Word → Parse Word X} {passes : Context → X → List (List TextErr)} {value : X → V} (old : Names) → OneText g passes value → OneReading (ReadsText g passes value old)
  text_read old one = record {
    value = λ bytes v w names others h k. (one.one_value old bytes v w h.0 k.0, h.1 ∙ sym k.1);
    not_both = λ bytes v e names others h k. one.apart old bytes v e h.0 k.0;
    fault = λ bytes e f names others h k. one.one_fault old bytes e f h.0 k.0;
  }

  said_one : {V : Type 0} (k : FileKind) (reads : Reading V) (text : List ℕ) (x y : Result (V × Names) Stop) → OneReading reads → SaysSo k reads text x → SaysSo k reads text y → IsEnd x → IsEnd y → x ≡ y
  said_one k reads text (Ok v) (Ok w) one h l a b = let e = one.value text v.0 w.0 v.1 w.1 h l in λ i. Ok (e.0 i, e.1 i)
  said_one k reads text (Ok v) (Err (stop.Refused line)) one h l a b = absurd (one.not_both text v.0 l.0 v.1 l.1 h l.2)
  said_one k reads text (Ok v) (Err (stop.Fault file)) one h l a b = absurd l
  said_one k reads text (Ok v) (Err stop.NoMemory) one h l a b = absurd b
  said_one k reads text (Err (stop.Refused line)) (Ok w) one h l a b = absurd (one.not_both text w.0 h.0 w.1 h.1 l h.2)
  said_one k reads text (Err (stop.Refused line)) (Err (stop.Refused other)) one h l a b =
      let e = one.fault text h.0 l.0 h.1 l.1 h.2 l.2 in
      ap (λ (t : List ℕ). Err (stop.Refused t)) (h.3 ∙ ap (refusal_text k) e ∙ sym l.3)
  said_one k reads text (Err (stop.Refused line)) (Err (stop.Fault file)) one h l a b = absurd l
  said_one k reads text (Err (stop.Refused line)) (Err stop.NoMemory) one h l a b = absurd b
  said_one k reads text (Err (stop.Fault file)) y one h l a b = absurd h
  said_one k reads text (Err stop.NoMemory) y one h l a b = absurd a

  read_one : {V : Type 0} (k : FileKind) (from : From) (reads : Reading V) → IsTold files from → OneReading reads → Determined (read_as k from reads)
  read_one k from reads is one =
      then_one (taken_from k from) (says k reads) (taken_one k from is) (λ text calls others x y f g h l a b. said_one k reads text x y one h.1 l.1 a b)

  -- tree files say one list of blocks or have one fault
  trees_read : (t : Laws) (goals : List Sym) (old : Names) → OneTreesText → OneReading (ReadsTrees t goals old)
  trees_read t goals old one = record {
    value = λ bytes v w names others h k. (one.one_value t goals old bytes v w h.0 k.0, h.1 ∙ sym k.1);
    not_both = λ bytes v e names others h k. one.apart t goals old bytes v e h.0 k.0;
    fault = λ bytes e f names others h k. one.one_fault t goals old bytes e f h.0 k.0;
  }

  module _ (theory : OneTheoryText) (script : OneScriptText) (schedule : OneScheduleText) (trees : OneTreesText) where
    plan_one : (task : Task) (t : Laws) (goals : Goals) (names : Names) → TaskIsTold files task → Determined (plan_part task t goals names)
    plan_one Seq t goals names is = gives_one _
    plan_one (Drill from) t goals names is =
        let asked = goal_names goals.entries in then_one _ _ (read_one kind.Schedule from (ReadsSchedule asked names) is (text_read names (schedule asked))) (λ said. gives_one _)
    plan_one (Replay from) t goals names is =
        let asked = goal_names goals.entries in then_one _ _ (read_one kind.Trees from (ReadsTrees t asked names) is (trees_read t asked names trees)) (λ said. gives_one _)

    -- over files that are told the texts of a command say one thing
    pub loads_one : (c : Command) → AreTold files c → Determined (loads c)
    loads_one c told =
        then_one _ _ (read_one kind.Theory c.theory (ReadsTheory no_laws []) told.0 (text_read [] (theory no_laws)))
        (λ t. then_one _ _ (read_one kind.Script c.script (ReadsScript t.0 t.1) told.1 (text_read t.1 (script t.0))) (λ s. then_one _ _ (plan_one c.task t.0 s.0 s.1 told.2) (λ plan. gives_one _)))

-- ## Pieces

others_one : (v : Verdict) (Are : List Piece → Type 0) (ps qs : List Piece) → ((h : Are ps) (k : Are qs) → ps ≡ qs) → Others v Are ps → Others v Are qs → ps ≡ qs
others_one Closed Are ps qs one h k = one h k
others_one Open Are ps qs one h k = one h k
others_one (Ends s) Are ps qs one h k = h ∙ sym k

pieces_one : {X : Type 0} (Good : X → Type 0) (Is : X → Piece → Type 0) → ((x : X) (p q : Piece) → Good x → Is x p → Is x q → p ≡ q) → (xs : List X) (ps qs : List Piece) → AllByRecursion Good xs
    → Pieces Is xs ps → Pieces Is xs qs → ps ≡ qs
pieces_one Good Is one [] [] [] good h k = refl
pieces_one Good Is one [] [] (q ∷ qs) good h k = absurd k
pieces_one Good Is one [] (p ∷ ps) qs good h k = absurd h
pieces_one Good Is one (x ∷ xs) [] qs good h k = absurd h
pieces_one Good Is one (x ∷ xs) (p ∷ ps) [] good h k = absurd k
pieces_one Good Is one (x ∷ xs) (p ∷ ps) (q ∷ qs) good h k =
    let first : p ≡ q = one x p q good.0 h.0 k.0 in
    let rest : ps ≡ qs =
    others_one p.verdict (Pieces Is xs) ps qs (λ a b. pieces_one Good Is one xs ps qs good.1 a b) h.1 (subst (λ (r : Piece). Others r.verdict (Pieces Is xs) qs) (sym first) k.1) in
    λ i. first i ∷ rest i

block_one : (names : Names) (theory : Laws) (entry : Entry) (before : List ℕ) (o : Outcome Sequent) (p q : Piece) → IsBlock names theory entry before o p → IsBlock names theory entry before o q → p ≡ q
block_one names theory entry before o p q h k = same_piece p q (h.text ∙ sym k.text) (h.verdict ∙ sym k.verdict)

-- evaluators that give a trace's work the same outcome have that trace in common
abbrev pub TracesLaw : Type 0
TracesLaw = (eval other : Work Sequent → Outcome Sequent) → SameTraces eval other

module _ (law : StepLaw) (same : TracesLaw) (one : (eval : Work Sequent → Outcome Sequent) → OneTrace eval) where
  module _ (names : Names) (theory : Laws) (is_theory : IsTheory theory) (entry : Entry) (good : IsGoodEntry theory entry) (steps others : Steps) (are : IsStepFunction theory steps)
      (also : IsStepFunction theory others) where
    -- two step functions of the theory give the goal one outcome
    agree : evaluate_by others theory entry (goal_work entry) ≡ evaluate_by steps theory entry (goal_work entry)
    agree = sym (by_steps law theory is_theory entry good others also (goal_work entry) good.good) ∙ by_steps law theory is_theory entry good steps are (goal_work entry) good.good

    evaluated_one : (p q : Piece) → IsBlock names theory entry [] (evaluate_by steps theory entry (goal_work entry)) p → IsBlock names theory entry [] (evaluate_by others theory entry (goal_work entry)) q → p ≡ q
    evaluated_one p q h k = block_one names theory entry [] (evaluate_by steps theory entry (goal_work entry)) p q h (subst (λ (o : Outcome Sequent). IsBlock names theory entry [] o q) agree k)

    drilled_one : (events : List Event) (replies rs : List Reply) (o u : Outcome Sequent) (p q : Piece) → IsTrace (evaluate_by steps theory entry) (goal_work entry) events replies o
        → IsTrace (evaluate_by others theory entry) (goal_work entry) events rs u → IsBlock names theory entry (trace_text names entry.name events replies) o p
        → IsBlock names theory entry (trace_text names entry.name events rs) u q → p ≡ q
    drilled_one events replies rs o u p q h k a b =
        let e = one (evaluate_by steps theory entry) (goal_work entry) events replies rs o u h (same (evaluate_by others theory entry) (evaluate_by steps theory entry) (goal_work entry) events rs u agree k) in
        let there : IsBlock names theory entry (trace_text names entry.name events replies) o q =
        subst (λ (rs : List Reply). IsBlock names theory entry (trace_text names entry.name events rs) o q) (sym e.0)
        (subst (λ (o : Outcome Sequent). IsBlock names theory entry (trace_text names entry.name events rs) o q) (sym e.1) b) in
        block_one names theory entry (trace_text names entry.name events replies) o p q a there

  piece_one : (search : Search) (names : Names) (theory : Laws) → IsTheory theory → (entry : Entry) (p q : Piece) → IsGoodEntry theory entry → IsPiece search names theory entry p → IsPiece search names theory entry q → p ≡ q
  piece_one Evaluated names theory is entry p q good h k = evaluated_one names theory is entry good h.0 k.0 h.1 k.1 p q h.2 k.2
  piece_one (Drilled events) names theory is entry p q good h k =
      drilled_one names theory is entry good h.0 k.0 h.1 k.1 (events entry.name) h.2 k.2 h.3 k.3 p q h.4 k.4 h.5 k.5

  says_by_one : (plan : Plan) (names : Names) (theory : Laws) (goals : List Entry) (ps qs : List Piece) → IsTheory theory → EachGood theory goals → HasBlocks theory goals plan
      → SaysBy plan names theory goals ps → SaysBy plan names theory goals qs → ps ≡ qs
  says_by_one (Searched by) names theory goals ps qs is good blocks h k =
      pieces_one (IsGoodEntry theory) (IsPiece by names theory) (λ e p q g a b. piece_one by names theory is e p q g a b) goals ps qs (each_entry theory goals good) h k
  says_by_one (Replayed bs) names theory goals ps qs is good blocks h k =
      pieces_one (IsGoodPair theory) (IsReplayed names theory) (λ x p q g a b. one_replayed law names theory is x.0 g.0.good x.1 g.1 p q a b) (zip goals bs) ps qs
      (each_pair theory goals bs good blocks.good) h.1 k.1

  says_one : (said : Said) (ps qs : List Piece) → IsGoodSaid said → Says said ps → Says said qs → ps ≡ qs
  says_one said ps qs good h k = says_by_one said.plan said.names said.theory said.goals ps qs good.theory good.goals good.blocks h k

  -- what was read is good, if anything was
  abbrev IsReady : Result Said Stop → Type 0
  IsReady (Ok said) = IsGoodSaid said
  IsReady (Err end) = ⊤

  whole_one : (out : Result Said Stop) (s t : Status) (text bytes : List ℕ) → IsReady out → Whole out s text → Whole out t bytes → (s ≡ t) × (text ≡ bytes)
  whole_one (Ok said) s t text bytes good h k =
      let same = says_one said h.0 k.0 good h.1 k.1 in
      (h.2 ∙ ap status_of same ∙ sym k.2, h.3 ∙ ap (λ (ps : List Piece). joined (map (λ (p : Piece). p.text) ps)) same ∙ sym k.3)
  whole_one (Err (stop.Refused line)) s t text bytes good h k = (h.0 ∙ sym k.0, h.1 ∙ sym k.1)
  whole_one (Err (stop.Fault file)) s t text bytes good h k = (h.0 ∙ sym k.0, h.1 ∙ sym k.1)
  whole_one (Err stop.NoMemory) s t text bytes good h k = absurd h

  whole_end : (out : Result Said Stop) (s : Status) (text : List ℕ) → Whole out s text → IsEnd out
  whole_end (Ok said) s text h = tt
  whole_end (Err (stop.Refused line)) s text h = tt
  whole_end (Err (stop.Fault file)) s text h = tt
  whole_end (Err stop.NoMemory) s text h = h

  ready : TheoriesLaw → GoalsLaw → ReadTreesAreGood → IsTheory no_laws → (c : Command) (calls : List Read) (out : Result Said Stop) → loads c calls out → IsReady out
  ready of_theories of_goals of_trees none c calls (Ok said) h = are_good of_theories of_goals of_trees none c calls said h
  ready of_theories of_goals of_trees none c calls (Err end) h = tt

  pub one_answer : OneTheoryText → OneScriptText → OneScheduleText → OneTreesText → TheoriesLaw → GoalsLaw → ReadTreesAreGood → IsTheory no_laws → (files : List ℕ → Option (List ℕ)) (c : Command) → AreTold files c
      → (s t : Status) (text bytes : List ℕ) → Answers files c s text → Answers files c t bytes → (s ≡ t) × (text ≡ bytes)
  one_answer theory script schedule trees of_theories of_goals of_trees none files c told s t text bytes h k =
      let same = loads_one files theory script schedule trees c told h.0 k.0 h.2 k.2 h.1 k.1 h.3 k.3 (whole_end h.2 s text h.4) (whole_end k.2 t bytes k.4) in
      whole_one h.2 s t text bytes (ready of_theories of_goals of_trees none c h.0 h.2 h.3) h.4 (subst (λ (out : Result Said Stop). Whole out t bytes) (sym same) k.4)
