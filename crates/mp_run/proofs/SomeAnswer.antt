-- A command has an answer over files that are told.
use Rattle.std.proofs.Common.{◌≡◌, ◌⊎◌, inl, inr, ℕ, ◌<◌, ◌≤◌, List, [], ◌∷◌, ◌++◌, map, length, Option, Some, None, IsSome, Result, Ok, Err, refl, sym, subst}
use Rattle.std.specs.Bool.{⊤}
use Rattle.std.proofs.lemmas.Bool.{cases_lt}
use Rattle.mp_logic.specs.Lists.{joined}
use Rattle.mp_logic.specs.declared.sym.Sym.{Sym}
use Rattle.mp_ports.specs.Calls.{Read}
use Rattle.mp_ports.specs.declared.ports.ReadErr.{ReadErr}
use Rattle.mp_ports.specs.declared.ports.ReadErr.TheVariants as err
use Rattle.mp_words.specs.declared.word.Word.{Word}
use Rattle.mp_words.specs.declared.fail.TextErr.{TextErr}
use Rattle.mp_words.specs.declared.fail.TextFail.TheVariants.{Bad}
use Rattle.mp_words.specs.Grammars.{Parse}
use Rattle.mp_words.specs.Texts.{Context, IsText, IsFaulty, ReadsText, SomeText, table_after}
use Rattle.mp_theory.specs.Tables.{Laws, IsTheory, no_laws}
use Rattle.mp_refiner.specs.Law.{StepLaw}
use Rattle.mp_theorytext.specs.Reading.{ReadsTheory, SomeTheoryText}
use Rattle.mp_scripttext.specs.declared.script.Entry.{Entry}
use Rattle.mp_scripttext.specs.Entries.{EachGood}
use Rattle.mp_scripttext.specs.declared.script.Script.{Script as Goals}
use Rattle.mp_scripttext.specs.Reading.{ReadsScript, SomeScriptText}
use Rattle.mp_drill.specs.ScheduleReading.{ReadsSchedule, SomeScheduleText}
use Rattle.mp_drill.specs.Sections.{events_of}
use Rattle.mp_treetext.specs.declared.printed.Printed.{Printed}
use Rattle.mp_treetext.specs.Reading.{IsTreesFault, IsTreesText, ReadsTrees, SomeTreesText, ReadTreesAreGood}
use Rattle.mp_report.specs.Refusals.{refusal_text}
use Rattle.mp_report.specs.declared.refusal.FileKind.{FileKind}
use Rattle.mp_report.specs.declared.refusal.FileKind.TheVariants as kind
use Rattle.mp_run.specs.declared.piece.Piece.{Piece}
use Rattle.mp_run.specs.declared.status.Status.{Status}
use Rattle.mp_run.specs.declared.status.Status.TheVariants as status
use Rattle.mp_run.specs.declared.stop.Stop.{Stop}
use Rattle.mp_run.specs.declared.stop.Stop.TheVariants as stop
use Rattle.mp_run.specs.Answers.{IsFrom, AllFrom, IsTold, TaskIsTold, AreTold, Whole, Answers}
use Rattle.mp_run.specs.Commands.{From, Named, Made, Task, Seq, Drill, Replay, Command}
use Rattle.mp_run.specs.Lines.{limit_of, long_line}
use Rattle.mp_run.specs.Loads.{Evaluated, Drilled, Plan, Searched, Replayed, Said, goal_names, plan_part, loads}
use Rattle.mp_run.specs.Parts.{Names, Reading, Part, gives, and_then, taken_from, read_of, says, read_as}
use Rattle.mp_run.specs.Sessions.{Says, SaysBy, status_of}
use Rattle.mp_run.proofs.Good.{some_checked, some_searched}
use Rattle.mp_run.proofs.GoalPieces.{EachTrace}
use Rattle.mp_run.proofs.Said.{TheoriesLaw, GoalsLaw, HasBlocks, IsGoodSaid, are_good}

-- ## Texts

-- these bytes say a value, or have a fault
abbrev SaysSome : {V : Type 0} → Reading V → List ℕ → Type 0
SaysSome {V} reads bytes = ((v : V) × (names : Names) × reads bytes (Ok v) names) ⊎ ((e : TextErr) × (names : Names) × reads bytes (Err (Bad e)) names)

module _ {X V : Type 0} {g : List Word → Parse Word X} {passes : Context → X → List (List TextErr)} {value : X → V} (old : Names) (source : List ℕ) where
  said_so : ((v : V) × IsText g passes value old source v) ⊎ ((e : TextErr) × IsFaulty g passes value old source e) → SaysSome (ReadsText g passes value old) source
  said_so (inl h) = inl (h.0, table_after old source, (h.1, refl))
  said_so (inr h) = inr (h.0, table_after old source, (h.1, refl))

  -- a text has a value or a fault
  text_says : SomeText g passes value → SaysSome (ReadsText g passes value old) source
  text_says some = said_so (some old source)

module _ (t : Laws) (goals : List Sym) (old : Names) (source : List ℕ) where
  blocks_or_fault : ((v : List Printed) × IsTreesText t goals old source v) ⊎ ((e : TextErr) × IsTreesFault t goals old source e) → SaysSome (ReadsTrees t goals old) source
  blocks_or_fault (inl h) = inl (h.0, table_after old source, (h.1, refl))
  blocks_or_fault (inr h) = inr (h.0, table_after old source, (h.1, refl))

  -- a text has blocks or a fault
  trees_say : SomeTreesText → SaysSome (ReadsTrees t goals old) source
  trees_say some = blocks_or_fault (some t goals old source)

-- ## Parts

-- a value or a refusal
abbrev IsSaid : {V : Type 0} → Result V Stop → Type 0
IsSaid (Ok value) = ⊤
IsSaid (Err (stop.Refused line)) = ⊤
IsSaid (Err (stop.Fault file)) = ⊥
IsSaid (Err stop.NoMemory) = ⊥

module _ (files : List ℕ → Option (List ℕ)) where
  -- over these files a part gives something
  abbrev Gives : {V : Type 0} → Part V → Type 0
  Gives {V} p = (calls : List Read) × AllFrom files calls × (out : Result V Stop) × p calls out × IsSaid out

  all_append : (xs ys : List Read) → AllFrom files xs → AllFrom files ys → AllFrom files (xs ++ ys)
  all_append [] ys h k = k
  all_append (r ∷ rs) ys h k = (h.0, all_append rs ys h.1 k)

  gives_some : {V : Type 0} (value : V) → Gives (gives value)
  gives_some value = ([], tt, Ok value, (refl, inl refl), tt)

  then_by : {A B : Type 0} (first : Part A) (next : A → Part B) (calls : List Read) (out : Result A Stop) → AllFrom files calls → first calls out → IsSaid out → ((value : A) → Gives (next value))
      → Gives (and_then first next)
  then_by first next calls (Ok value) f h is more =
      let g = more value in (calls ++ g.0, all_append calls g.0 f g.1, g.2, inr (value, calls, g.0, refl, h, g.3), g.4)
  then_by first next calls (Err (stop.Refused line)) f h is more = (calls, f, Err (stop.Refused line), inl (stop.Refused line, h, refl), tt)
  then_by first next calls (Err (stop.Fault file)) f h is more = absurd is
  then_by first next calls (Err stop.NoMemory) f h is more = absurd is

  then_some : {A B : Type 0} (first : Part A) (next : A → Part B) → Gives first → ((value : A) → Gives (next value)) → Gives (and_then first next)
  then_some first next h more = then_by first next h.0 h.2 h.1 h.3 h.4 more

  -- ## Files

  from_there : (file : Option (List ℕ)) (limit : ℕ) (answer : Result (List ℕ) ReadErr) (bytes : List ℕ) → file ≡ Some bytes → IsFrom (Some bytes) limit answer → IsFrom file limit answer
  from_there file limit answer bytes e h = subst (λ (f : Option (List ℕ)). IsFrom f limit answer) (sym e) h

  by_limit : (k : FileKind) (name bytes : List ℕ) → files name ≡ Some bytes → (limit_of k < length bytes) ⊎ (length bytes ≤ limit_of k) → Gives (taken_from k (Named name))
  by_limit k name bytes e (inl l) = (
    read_of k name (Err err.TooLong) ∷ [],
    (from_there (files name) (limit_of k) (Err err.TooLong) bytes e l, tt),
    Err (stop.Refused (long_line k)),
    inr (Err err.TooLong, refl, inl refl),
    tt,
  )
  by_limit k name bytes e (inr l) = (read_of k name (Ok bytes) ∷ [], (from_there (files name) (limit_of k) (Ok bytes) bytes e (refl, l), tt), Ok bytes, inr (Ok bytes, refl, refl), tt)

  by_told : (k : FileKind) (name : List ℕ) (told : Option (List ℕ)) → files name ≡ told → IsSome told → Gives (taken_from k (Named name))
  by_told k name None e is = absurd cc
  by_told k name (Some bytes) e is = by_limit k name bytes e (cases_lt (limit_of k) (length bytes))

  taken_some : (k : FileKind) (from : From) → IsTold files from → Gives (taken_from k from)
  taken_some k (Made text) is = gives_some text
  taken_some k (Named name) is = by_told k name (files name) refl is

  says_some : {V : Type 0} (k : FileKind) (reads : Reading V) (text : List ℕ) → SaysSome reads text → Gives (says k reads text)
  says_some k reads text (inl h) = ([], tt, Ok (h.0, h.1), (refl, h.2), tt)
  says_some k reads text (inr h) = ([], tt, Err (stop.Refused (refusal_text k h.0)), (refl, (h.0, h.1, h.2, refl)), tt)

  read_some : {V : Type 0} (k : FileKind) (from : From) (reads : Reading V) → IsTold files from → ((text : List ℕ) → SaysSome reads text) → Gives (read_as k from reads)
  read_some k from reads is some = then_some (taken_from k from) (says k reads) (taken_some k from is) (λ text. says_some k reads text (some text))

  module _ (theory : SomeTheoryText) (script : SomeScriptText) (schedule : SomeScheduleText) (trees : SomeTreesText) where
    plan_some : (task : Task) (t : Laws) (goals : Goals) (names : Names) → TaskIsTold files task → Gives (plan_part task t goals names)
    plan_some Seq t goals names is = gives_some (Searched Evaluated, names)
    plan_some (Drill from) t goals names is =
        let asked = goal_names goals.entries in
        then_some _ _ (read_some kind.Schedule from (ReadsSchedule asked names) is (λ text. text_says names text (schedule asked))) (λ said. gives_some (Searched (Drilled (events_of said.0)), said.1))
    plan_some (Replay from) t goals names is =
        let asked = goal_names goals.entries in
        then_some _ _ (read_some kind.Trees from (ReadsTrees t asked names) is (λ text. trees_say t asked names text trees)) (λ said. gives_some (Replayed said.0, said.1))

    -- over files that are told the texts of a command say something
    loads_some : (c : Command) → AreTold files c → Gives (loads c)
    loads_some c told =
        then_some _ _ (read_some kind.Theory c.theory (ReadsTheory no_laws []) told.0 (λ text. text_says [] text (theory no_laws)))
        (λ t. then_some _ _ (read_some kind.Script c.script (ReadsScript t.0 t.1) told.1 (λ text. text_says t.1 text (script t.0))) (λ s. then_some _ _ (plan_some c.task t.0 s.0 s.1 told.2) (λ plan. gives_some _)))

-- ## Pieces

module _ (law : StepLaw) (traces : EachTrace) where
  says_by : (plan : Plan) (names : Names) (theory : Laws) (goals : List Entry) → IsTheory theory → EachGood theory goals → HasBlocks theory goals plan → (ps : List Piece) × SaysBy plan names theory goals ps
  says_by (Searched by) names theory goals is good blocks = some_searched law names theory is traces by goals good
  says_by (Replayed bs) names theory goals is good blocks = let some = some_checked law names theory is goals bs good blocks.good in (some.0, (blocks.each, some.1))

  says_pieces : (said : Said) → IsGoodSaid said → (ps : List Piece) × Says said ps
  says_pieces said good = says_by said.plan said.names said.theory said.goals good.theory good.goals good.blocks

  module _ (of_theories : TheoriesLaw) (of_goals : GoalsLaw) (of_trees : ReadTreesAreGood) (none : IsTheory no_laws) where
    whole_some : (c : Command) (calls : List Read) (out : Result Said Stop) → loads c calls out → IsSaid out → (s : Status) × (text : List ℕ) × Whole out s text
    whole_some c calls (Ok said) h is =
        let ps = says_pieces said (are_good of_theories of_goals of_trees none c calls said h) in (status_of ps.0, joined (map (λ (p : Piece). p.text) ps.0), (ps.0, ps.1, refl, refl))
    whole_some c calls (Err (stop.Refused line)) h is = (status.Refused, line, (refl, refl))
    whole_some c calls (Err (stop.Fault file)) h is = absurd is
    whole_some c calls (Err stop.NoMemory) h is = absurd is

    -- a command has an answer over files that are told
    pub some_answer : SomeTheoryText → SomeScriptText → SomeScheduleText → SomeTreesText → (files : List ℕ → Option (List ℕ)) (c : Command) → AreTold files c → (s : Status) × (text : List ℕ) × Answers files c s text
    some_answer theory script schedule trees files c told =
        let g = loads_some files theory script schedule trees c told in
        let w = whole_some c g.0 g.2 g.3 g.4 in
        (w.0, w.1, (g.0, g.1, g.2, g.3, w.2))
