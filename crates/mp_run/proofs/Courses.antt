-- How the reads of a part go with its end: only the last one may fail, and it does exactly where the part ends by that fault.
use Rattle.std.proofs.Common.{◌≡◌, inl, inr, ℕ, List, [], ◌∷◌, ◌++◌, Option, Some, None, Result, Ok, Err, refl, ap, sym, subst, ◌∙◌}
use Rattle.std.specs.Bool.{⊤}
use Rattle.mp_ports.specs.Calls.{Read, Chain}
use Rattle.mp_ports.specs.Causes.{Rose, ReadCause}
use Rattle.mp_ports.specs.Shelves.{Told}
use Rattle.mp_ports.specs.declared.ports.ReadErr.{ReadErr}
use Rattle.mp_ports.specs.declared.ports.ReadErr.TheVariants as err
use Rattle.mp_theory.specs.Tables.{Laws, no_laws}
use Rattle.mp_theorytext.specs.Reading.{ReadsTheory}
use Rattle.mp_drill.specs.ScheduleReading.{ReadsSchedule}
use Rattle.mp_scripttext.specs.Reading.{ReadsScript}
use Rattle.mp_treetext.specs.Reading.{ReadsTrees}
use Rattle.mp_report.specs.declared.refusal.FileKind.TheVariants as kind
use Rattle.mp_scripttext.specs.declared.script.Script.{Script as Goals}
use Rattle.mp_report.specs.declared.refusal.FileKind.{FileKind}
use Rattle.mp_run.specs.declared.stop.Stop.{Stop}
use Rattle.mp_run.specs.declared.stop.Stop.TheVariants as stop
use Rattle.mp_run.specs.Answers.{IsFrom, AllFrom, Keeps}
use Rattle.mp_run.specs.Commands.{From, Named, Made, Task, Seq, Drill, Replay, Command}
use Rattle.mp_run.specs.Loads.{goal_names, plan_part, after_script, loads}
use Rattle.mp_run.specs.Parts.{Names, Reading, Part, gives, and_then, Answered, taken_from, SaysSo, says, read_as}

-- how a part ends: with a value, by a refusal, by a fault of reading, or by want of memory
pub data Course : Type 0 where
  Goes : Course
  Stops : Course
  Faults : Course
  Lacks : Course

abbrev stop_course : Stop → Course
stop_course (stop.Refused line) = Stops
stop_course (stop.Fault file) = Faults
stop_course stop.NoMemory = Lacks

abbrev pub course_of : {V : Type 0} → Result V Stop → Course
course_of (Ok value) = Goes
course_of (Err end) = stop_course end

-- a part may end so without another read
abbrev Ending : Course → Type 0
Ending Goes = ⊤
Ending Stops = ⊤
Ending Faults = ⊥
Ending Lacks = ⊤

-- a part may end so after a file that is too long
abbrev IsLong : Course → Type 0
IsLong Goes = ⊥
IsLong Stops = ⊤
IsLong Faults = ⊥
IsLong Lacks = ⊤

abbrev After : Result (List ℕ) ReadErr → Type 0 → List Read → Course → Type 0
After (Ok text) rest rs e = rest
After (Err err.Failed) rest rs e = (rs ≡ []) × (e ≡ Faults)
After (Err err.TooLong) rest rs e = (rs ≡ []) × IsLong e
After (Err err.NoMemory) rest rs e = (rs ≡ []) × (e ≡ Lacks)

abbrev pub Follows : List Read → Course → Type 0
Follows [] e = Ending e
Follows (r ∷ rs) e = After r.answer (Follows rs e) rs e

-- ## Parts

abbrev IsFair : {V : Type 0} → Part V → Type 0
IsFair {V} p = (calls : List Read) (out : Result V Stop) → p calls out → Follows calls (course_of out)

after_append : (answer : Result (List ℕ) ReadErr) (rs ys : List Read) (e : Course) → After answer (Follows rs Goes) rs Goes → (Follows rs Goes → Follows (rs ++ ys) e) → After answer (Follows (rs ++ ys) e) (rs ++ ys) e
after_append (Ok text) rs ys e h f = f h
after_append (Err err.Failed) rs ys e h f = let no : Goes ≡ Faults = h.1 in absurd cc
after_append (Err err.TooLong) rs ys e h f = absurd h.1
after_append (Err err.NoMemory) rs ys e h f = let no : Goes ≡ Lacks = h.1 in absurd cc

follows_append : (xs ys : List Read) (e : Course) → Follows xs Goes → Follows ys e → Follows (xs ++ ys) e
follows_append [] ys e h k = k
follows_append (r ∷ rs) ys e h k = after_append r.answer rs ys e h (λ l. follows_append rs ys e l k)

no_call : (calls : List Read) (e : Course) → calls ≡ [] → Ending e → Follows calls e
no_call calls e h k = subst (λ (cs : List Read). Follows cs e) (sym h) k

fair_gives : {V : Type 0} (value : V) → IsFair (gives value)
fair_gives value calls out (h, inl e) = no_call calls (course_of out) h (subst (λ o. Ending (course_of o)) (sym e) tt)
fair_gives value calls out (h, inr e) = no_call calls (course_of out) h (subst (λ o. Ending (course_of o)) (sym e) tt)

fair_then : {A B : Type 0} (first : Part A) (next : A → Part B) → IsFair first → ((value : A) → IsFair (next value)) → IsFair (and_then first next)
fair_then first next f n calls out (inl (end, h, e)) = subst (λ o. Follows calls (course_of o)) (sym e) (f calls (Err end) h)
fair_then first next f n calls out (inr (value, made, left, e, h, k)) =
    subst (λ (cs : List Read). Follows cs (course_of out)) (sym e) (follows_append made left (course_of out) (f made (Ok value) h) (n value left out k))

fair_answer : (k : FileKind) (answer : Result (List ℕ) ReadErr) (out : Result (List ℕ) Stop) → Answered k answer out → After answer (Follows [] (course_of out)) [] (course_of out)
fair_answer k (Ok text) out h = subst (λ o. Ending (course_of o)) (sym h) tt
fair_answer k (Err err.Failed) out h = (refl, ap course_of h)
fair_answer k (Err err.TooLong) out (inl h) = (refl, subst (λ o. IsLong (course_of o)) (sym h) tt)
fair_answer k (Err err.TooLong) out (inr h) = (refl, subst (λ o. IsLong (course_of o)) (sym h) tt)
fair_answer k (Err err.NoMemory) out h = (refl, ap course_of h)

fair_taken : (k : FileKind) (from : From) → IsFair (taken_from k from)
fair_taken k (Made text) calls out h = fair_gives text calls out h
fair_taken k (Named name) calls out (inl h) = no_call calls (course_of out) h.0 (subst (λ o. Ending (course_of o)) (sym h.1) tt)
fair_taken k (Named name) calls out (inr (answer, e, h)) = subst (λ (cs : List Read). Follows cs (course_of out)) (sym e) (fair_answer k answer out h)

said_ending : {V : Type 0} (k : FileKind) (reads : Reading V) (text : List ℕ) (out : Result (V × Names) Stop) → SaysSo k reads text out → Ending (course_of out)
said_ending k reads text (Ok said) h = tt
said_ending k reads text (Err (stop.Refused line)) h = tt
said_ending k reads text (Err (stop.Fault file)) h = h
said_ending k reads text (Err stop.NoMemory) h = tt

fair_read : {V : Type 0} (k : FileKind) (from : From) (reads : Reading V) → IsFair (read_as k from reads)
fair_read k from reads =
    fair_then (taken_from k from) (says k reads) (fair_taken k from) (λ text calls out h. no_call calls (course_of out) h.0 (said_ending k reads text out h.1))

fair_plan : (task : Task) (theory : Laws) (goals : Goals) (names : Names) → IsFair (plan_part task theory goals names)
fair_plan Seq theory goals names = fair_gives _
fair_plan (Drill schedule) theory goals names = fair_then _ _ (fair_read kind.Schedule schedule (ReadsSchedule (goal_names goals.entries) names)) (λ said. fair_gives _)
fair_plan (Replay trees) theory goals names = fair_then _ _ (fair_read kind.Trees trees (ReadsTrees theory (goal_names goals.entries) names)) (λ said. fair_gives _)

fair_after_script : (task : Task) (theory : Laws) (script : Goals × Names) → IsFair (after_script task theory script)
fair_after_script task theory script = fair_then _ _ (fair_plan task theory script.0 script.1) (λ plan. fair_gives _)

pub fair_loads : (c : Command) → IsFair (loads c)
fair_loads c =
    fair_then _ _ (fair_read kind.Theory c.theory (ReadsTheory no_laws []))
    (λ theory. fair_then _ _ (fair_read kind.Script c.script (ReadsScript theory.0 theory.1)) (λ script. fair_after_script c.task theory.0 script))

-- ## Shelves

-- the count of faults by how the reads end
abbrev pub Counts : Course → ℕ → ℕ → Type 0
Counts Goes before now = now ≡ before
Counts Stops before now = now ≡ before
Counts Faults before now = Rose before now
Counts Lacks before now = now ≡ before

-- the end is no fault and no want of memory
abbrev pub IsDone : Course → Type 0
IsDone Goes = ⊤
IsDone Stops = ⊤
IsDone Faults = ⊥
IsDone Lacks = ⊥

long_counts : (e : Course) (before now : ℕ) → IsLong e → now ≡ before → Counts e before now
long_counts Goes before now h k = absurd h
long_counts Stops before now h k = k
long_counts Faults before now h k = absurd h
long_counts Lacks before now h k = k

count_on : (answer : Result (List ℕ) ReadErr) (rs : List Read) (e : Course) (r m r' l l' : ℕ) → ReadCause r m l l' answer → After answer (Follows rs e) rs e
    → (Follows rs e → Counts e m r') → (rs ≡ [] → r' ≡ m) → Counts e r r'
count_on (Ok text) rs e r m r' l l' c h more last = subst (λ (n : ℕ). Counts e n r') c.0 (more h)
count_on (Err err.Failed) rs e r m r' l l' c h more last = subst (λ (x : Course). Counts x r r') (sym h.1) (subst (λ (n : ℕ). Rose r n) (sym (last h.0)) c.0)
count_on (Err err.TooLong) rs e r m r' l l' c h more last = long_counts e r r' h.1 (last h.0 ∙ c.0)
count_on (Err err.NoMemory) rs e r m r' l l' c h more last = subst (λ (x : Course). Counts x r r') (sym h.1) (last h.0 ∙ c.0)

no_fault : (e : Course) (before now : ℕ) → Ending e → now ≡ before → Counts e before now
no_fault Goes before now h k = k
no_fault Stops before now h k = k
no_fault Faults before now h k = absurd h
no_fault Lacks before now h k = k

from_on : (file : Option (List ℕ)) (limit : ℕ) (answer : Result (List ℕ) ReadErr) (rest : Type 0) (rs : List Read) (e : Course) → IsDone e → Told file limit answer → After answer rest rs e → IsFrom file limit answer
from_on None limit answer rest rs e d t h = tt
from_on (Some bytes) limit (Ok text) rest rs e d t h = t
from_on (Some bytes) limit (Err err.Failed) rest rs e d t h = subst IsDone h.1 d
from_on (Some bytes) limit (Err err.TooLong) rest rs e d t h = t
from_on (Some bytes) limit (Err err.NoMemory) rest rs e d t h = subst IsDone h.1 d

later_from : (answer : Result (List ℕ) ReadErr) (files : List ℕ → Option (List ℕ)) (rs : List Read) (e : Course) → After answer (Follows rs e) rs e → (Follows rs e → AllFrom files rs) → AllFrom files rs
later_from (Ok text) files rs e h f = f h
later_from (Err err.Failed) files rs e h f = subst (λ (cs : List Read). AllFrom files cs) (sym h.0) tt
later_from (Err err.TooLong) files rs e h f = subst (λ (cs : List Read). AllFrom files cs) (sym h.0) tt
later_from (Err err.NoMemory) files rs e h f = subst (λ (cs : List Read). AllFrom files cs) (sym h.0) tt

module _ {S : Type 0} (R : S → S → Read → Type 0) (bytes : S → List ℕ → Option (List ℕ)) (faults longs : S → ℕ) where
  ended_there : (s t : S) (calls : List Read) → Chain R s t calls → calls ≡ [] → t ≡ s
  ended_there s t [] h e = h
  ended_there s t (c ∷ cs) h e = absurd cc

  pub counts : ((old new : S) (call : Read) → R old new call → ReadCause (faults old) (faults new) (longs old) (longs new) call.answer)
      → (s t : S) (calls : List Read) (e : Course) → Chain R s t calls → Follows calls e → Counts e (faults s) (faults t)
  counts cause s t [] e h k = no_fault e (faults s) (faults t) k (ap faults h)
  counts cause s t (c ∷ cs) e h k =
      count_on c.answer cs e (faults s) (faults h.0) (faults t) (longs s) (longs h.0) (cause s h.0 c h.1) k
      (λ l. counts cause h.0 t cs e h.2 l) (λ n. ap faults (ended_there h.0 t cs h.2 n))

  module _ (kept : (old new : S) (call : Read) → R old new call → (other : List ℕ) → bytes new other ≡ bytes old other) where
    pub keeps : (s t : S) (calls : List Read) → Chain R s t calls → Keeps (bytes s) (bytes t)
    keeps s t [] h name = ap (λ (x : S). bytes x name) h
    keeps s t (c ∷ cs) h name = keeps h.0 t cs h.2 name ∙ kept s h.0 c h.1 name

    pub all_from : ((old new : S) (call : Read) → R old new call → Told (bytes old call.name) call.limit call.answer)
        → (s t : S) (calls : List Read) (e : Course) → IsDone e → Chain R s t calls → Follows calls e → AllFrom (bytes s) calls
    all_from told s t [] e d h k = tt
    all_from told s t (c ∷ cs) e d h k = (
      from_on (bytes s c.name) c.limit c.answer (Follows cs e) cs e d (told s h.0 c h.1) k,
      later_from c.answer (bytes s) cs e k (λ l.
          let same : bytes h.0 ≡ bytes s = λ i name. kept s h.0 c h.1 name i in
          subst (λ (files : List ℕ → Option (List ℕ)). AllFrom files cs) same (all_from told h.0 t cs e d h.2 l)),
    )
