-- What the texts of a command say is a theory, goals that can be evaluated, and blocks that can be checked.
use Rattle.std.proofs.Common.{◌≡◌, inl, inr, ℕ, List, [], Result, Ok, Err, ap, sym, subst, ◌∙◌}
use Rattle.std.proofs.lemmas.List.{length-map}
use Rattle.std.specs.Bool.{⊤}
use Rattle.mp_ports.specs.Calls.{Read}
use Rattle.mp_theory.specs.Tables.{Laws, IsTheory, no_laws}
use Rattle.mp_theorytext.specs.Reading.{ReadsTheory}
use Rattle.mp_scripttext.specs.Entries.{EachGood}
use Rattle.mp_scripttext.specs.declared.script.Entry.{Entry}
use Rattle.mp_scripttext.specs.declared.script.Script.{Script as Goals}
use Rattle.mp_scripttext.specs.Reading.{ReadsScript}
use Rattle.mp_drill.specs.ScheduleReading.{ReadsSchedule}
use Rattle.mp_drill.specs.Sections.{events_of}
use Rattle.mp_treetext.specs.declared.printed.Printed.{Printed}
use Rattle.mp_treetext.specs.Reading.{ReadsTrees, ReadTreesAreGood}
use Rattle.mp_report.specs.declared.refusal.FileKind.{FileKind}
use Rattle.mp_report.specs.declared.refusal.FileKind.TheVariants as kind
use Rattle.mp_run.specs.declared.stop.Stop.{Stop}
use Rattle.mp_run.specs.declared.stop.Stop.TheVariants as stop
use Rattle.mp_run.specs.Commands.{From, Task, Seq, Drill, Replay, Command}
use Rattle.mp_run.specs.Loaded.{AreBlocks}
use Rattle.mp_run.specs.Loads.{Plan, Searched, Evaluated, Drilled, Replayed, Said, goal_names, plan_part, after_script, after_theory, loads}
use Rattle.mp_run.specs.Parts.{Names, Reading, Part, gives, and_then, taken_from, says, read_as}

ok_stop : {A : Type 0} (v : A) (w : Stop) → (let out : Result A Stop = Ok v in out ≡ Err w) → ⊥
ok_stop v w e = cc

ok_same : {A : Type 0} (v w : A) → (let out : Result A Stop = Ok v in out ≡ Ok w) → v ≡ w
ok_same v w e = cc

then_value : {A B : Type 0} (first : Part A) (next : A → Part B) (calls : List Read) (b : B) → and_then first next calls (Ok b) → (value : A) × (made left : List Read) × first made (Ok value) × next value left (Ok b)
then_value first next calls b (inl h) = absurd (ok_stop b h.0 h.2)
then_value first next calls b (inr h) = (h.0, h.1, h.2, h.4, h.5)

given_value : {A : Type 0} (value : A) (calls : List Read) (b : A) → gives value calls (Ok b) → b ≡ value
given_value value calls b (h, inl e) = ok_same b value e
given_value value calls b (h, inr e) = absurd (ok_stop b stop.NoMemory e)

read_value : {V : Type 0} (k : FileKind) (from : From) (reads : Reading V) (calls : List Read) (v : V × Names) → read_as k from reads calls (Ok v) → (text : List ℕ) × reads text (Ok v.0) v.1
read_value k from reads calls v h = let r = then_value (taken_from k from) (says k reads) calls v h in (r.0, r.4.1)

-- what is read onto a theory is a theory, and the goals that are read can be evaluated
abbrev pub TheoriesLaw : Type 0
TheoriesLaw = (t u : Laws) (names later : Names) (source : List ℕ) → IsTheory t → ReadsTheory t names source (Ok u) later → IsTheory u

abbrev pub GoalsLaw : Type 0
GoalsLaw = (theory : Laws) (names later : Names) (source : List ℕ) (script : Goals) → IsTheory theory → ReadsScript theory names source (Ok script) later → EachGood theory script.entries

-- each block of a plan can be checked, and there is one for each goal
abbrev pub HasBlocks : Laws → List Entry → Plan → Type 0
HasBlocks theory goals (Searched by) = ⊤
HasBlocks theory goals (Replayed blocks) = AreBlocks theory goals blocks

-- the theory is one, each goal can be evaluated in it, and each block can be checked
pub record IsGoodSaid (said : Said) : Type 0 where
  pub theory : IsTheory said.theory
  pub goals : EachGood said.theory said.goals
  pub blocks : HasBlocks said.theory said.goals said.plan

module _ (of_trees : ReadTreesAreGood) (theory : Laws) (is_theory : IsTheory theory) where
  blocks_read : (goals : List Entry) (names later : Names) (source : List ℕ) (blocks : List Printed) → ReadsTrees theory (goal_names goals) names source (Ok blocks) later → AreBlocks theory goals blocks
  blocks_read goals names later source blocks h =
      let good = of_trees theory (goal_names goals) names later source blocks is_theory h in
      record { good = good.0; each = good.1 ∙ length-map goals (λ (e : Entry). e.name) }

  has_blocks : (goals : List Entry) (plan due : Plan) → plan ≡ due → HasBlocks theory goals due → HasBlocks theory goals plan
  has_blocks goals plan due e h = subst (HasBlocks theory goals) (sym e) h

  plan_blocks : (task : Task) (goals : Goals) (names : Names) (calls : List Read) (plan : Plan × Names) → plan_part task theory goals names calls (Ok plan) → HasBlocks theory goals.entries plan.0
  plan_blocks Seq goals names calls plan h =
      let e = given_value (Searched Evaluated, names) calls plan h in has_blocks goals.entries plan.0 (Searched Evaluated) (ap (λ (x : Plan × Names). x.0) e) tt
  plan_blocks (Drill schedule) goals names calls plan h =
      let t = then_value (read_as kind.Schedule schedule (ReadsSchedule (goal_names goals.entries) names)) (λ said. gives (Searched (Drilled (events_of said.0)), said.1)) calls plan h in
      let due : Plan = Searched (Drilled (events_of t.0.0)) in
      let e = given_value (due, t.0.1) t.2 plan t.4 in
      has_blocks goals.entries plan.0 due (ap (λ (x : Plan × Names). x.0) e) tt
  plan_blocks (Replay trees) goals names calls plan h =
      let t = then_value (read_as kind.Trees trees (ReadsTrees theory (goal_names goals.entries) names)) (λ said. gives (Replayed said.0, said.1)) calls plan h in
      let r = read_value kind.Trees trees (ReadsTrees theory (goal_names goals.entries) names) t.1 t.0 t.3 in
      let e = given_value (Replayed t.0.0, t.0.1) t.2 plan t.4 in
      has_blocks goals.entries plan.0 (Replayed t.0.0) (ap (λ (x : Plan × Names). x.0) e) (blocks_read goals.entries names t.0.1 r.0 t.0.0 r.1)

-- what was read is good: the theory is one, each goal can be evaluated in it, and each block can be checked
pub are_good : TheoriesLaw → GoalsLaw → ReadTreesAreGood → IsTheory no_laws → (c : Command) (calls : List Read) (said : Said) → loads c calls (Ok said) → IsGoodSaid said
are_good of_theories of_goals of_trees none c calls said h =
    let t = then_value (read_as kind.Theory c.theory (ReadsTheory no_laws [])) (after_theory c.script c.task) calls said h in
    let s = then_value (read_as kind.Script c.script (ReadsScript t.0.0 t.0.1)) (after_script c.task t.0.0) t.2 said t.4 in
    let of : Plan × Names → Said = λ plan. record { names = plan.1; theory = t.0.0; goals = s.0.0.entries; plan = plan.0 } in
    let p = then_value (plan_part c.task t.0.0 s.0.0 s.0.1) (λ plan. gives (of plan)) s.2 said s.4 in
    let r = read_value kind.Theory c.theory (ReadsTheory no_laws []) t.1 t.0 t.3 in
    let g = read_value kind.Script c.script (ReadsScript t.0.0 t.0.1) s.1 s.0 s.3 in
    let is = of_theories no_laws t.0.0 [] t.0.1 r.0 none r.1 in
    let blocks = plan_blocks of_trees t.0.0 is c.task s.0.0 s.0.1 p.1 p.0 p.3 in
    let same : said ≡ of p.0 = given_value (of p.0) p.2 said p.4 in
    subst IsGoodSaid {x = of p.0} (sym {b = of p.0} same) (record { theory = is; goals = of_goals t.0.0 t.0.1 s.0.1 g.0 s.0.0 is g.1; blocks = blocks })
