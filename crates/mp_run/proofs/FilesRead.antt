-- Files that are read as what they say.
use Rattle.std.proofs.Common.{◌≡◌, ℕ, inl, inr, List, [], ◌∷◌, Result, Ok, Err, refl, ap, subst}
use Rattle.mp_ports.specs.Calls.{Read}
use Rattle.mp_ports.specs.declared.ports.ReadErr.{ReadErr}
use Rattle.mp_ports.specs.declared.ports.ReadErr.TheVariants as err
use Rattle.mp_words.specs.declared.fail.TextFail.{TextFail}
use Rattle.mp_words.specs.declared.fail.TextFail.TheVariants as fail
use Rattle.mp_report.specs.declared.refusal.FileKind.{FileKind}
use Rattle.mp_run.specs.declared.stop.Stop.{Stop}
use Rattle.mp_run.specs.declared.stop.Stop.TheVariants as stop
use Rattle.mp_run.specs.Commands.{From, Named}
use Rattle.mp_run.specs.Lines.{limit_of, long_line}
use Rattle.mp_run.specs.Loaded.{RefusesBy, StopsRead}
use Rattle.mp_run.specs.Parts.{Names, Reading, Makes, Answered, taken_from, read_of, SaysSo, says, read_as}
use Rattle.mp_run.proofs.Chains.{goes_on}

-- a read by its answer
pub read_made : {S : Type 0} (R : S → S → Read → Type 0) (s t : S) (kind : FileKind) (name : List ℕ) (limit : ℕ) (answer : Result (List ℕ) ReadErr) (out : Result (List ℕ) Stop)
    → limit ≡ limit_of kind → R s t (record { name = name; limit = limit; answer = answer }) → Answered kind answer out → Makes R (taken_from kind (Named name)) s t out
read_made R s t kind name limit answer out e h a =
    (read_of kind name answer ∷ [], (t, subst (λ (n : ℕ). R s t (record { name = name; limit = n; answer = answer })) e h, refl), inr (answer, refl, a))

pub refuses : (kind : FileKind) (st : Stop) → RefusesBy st (long_line kind) → Answered kind (Err err.TooLong) (Err st)
refuses kind (stop.Refused line) h = inl (ap (λ (l : List ℕ). Err (stop.Refused l)) h)
refuses kind (stop.Fault file) h = absurd h
refuses kind stop.NoMemory h = inr refl

module _ {S V : Type 0} (R : S → S → Read → Type 0) (kind : FileKind) (from : From) (reads : Reading V) where
  read_so : (s t : S) (text slice : List ℕ) (out : Result (V × Names) Stop) → Makes R (taken_from kind from) s t (Ok text) → slice ≡ text → SaysSo kind reads slice out → Makes R (read_as kind from reads) s t out
  read_so s t text slice out h e k =
      goes_on R (taken_from kind from) (says kind reads) s t t text out h ([], refl, (refl, subst (λ (bytes : List ℕ). SaysSo kind reads bytes out) e k))

  pub read_says : (s t : S) (text slice : List ℕ) (value : V) (names : Names) → Makes R (taken_from kind from) s t (Ok text) → slice ≡ text → reads slice (Ok value) names
      → Makes R (read_as kind from reads) s t (Ok (value, names))
  read_says s t text slice value names h e k = read_so s t text slice (Ok (value, names)) h e k

  says_stop : (text : List ℕ) (names : Names) (f : TextFail) (st : Stop) → reads text (Err f) names → StopsRead kind f st → (let out : Result (V × Names) Stop = Err st in SaysSo kind reads text out)
  says_stop text names (fail.Bad e) (stop.Refused line) h k = (e, names, h, k)
  says_stop text names (fail.Bad e) (stop.Fault file) h k = absurd k
  says_stop text names (fail.Bad e) stop.NoMemory h k = tt
  says_stop text names fail.NoMemory (stop.Refused line) h k = absurd k
  says_stop text names fail.NoMemory (stop.Fault file) h k = absurd k
  says_stop text names fail.NoMemory stop.NoMemory h k = tt

  pub read_refused : (s t : S) (text slice : List ℕ) (names : Names) (f : TextFail) (st : Stop) → Makes R (taken_from kind from) s t (Ok text) → slice ≡ text → reads slice (Err f) names
      → StopsRead kind f st → Makes R (read_as kind from reads) s t (Err st)
  read_refused s t text slice names f st h e k by = read_so s t text slice (Err st) h e (says_stop slice names f st k by)
