-- A part that stands on one line takes a word, and the code's walk along a line.
use Rattle.std.proofs.Common.{◌≡◌, ◌++◌, ◌+◌, ◌<◌, ◌≤◌, ℕ, zero, suc, List, [], ◌∷◌, length, take, drop, None, Some, Bool, true, false, if◌then◌else◌, refl, ap, sym, subst, ◌∙◌, append_assoc, arith}
use Rattle.std.proofs.Math.Seq.{take-add}
use Rattle.mp_words.specs.declared.word.Word.{Word}
use Rattle.mp_words.specs.declared.parts.ReadFail.{ReadFail}
use Rattle.mp_words.specs.declared.parts.ReadFail.TheVariants as fail
use Rattle.mp_words.specs.Fronts.{first_at}
use Rattle.mp_words.specs.Grammars.{Grammar, Parse, read, some_words, stuck, then_read, which, whole}
use Rattle.mp_words.specs.Reading.{Fails}
use Rattle.mp_treetext.specs.OneLine.{fail_before, followed_by, from_line, front_line, on_one_line, other_lines, until_line}

-- the words after a line are no more than there were
pub later_less : (ts : List Word) → length (from_line ts) ≤ length ts
later_less [] = omega arith
later_less (t ∷ ts) = by t.opens_line (later_less ts)
  where
    by : (b : Bool) → length (from_line ts) ≤ length ts → length (if b then t ∷ ts else from_line ts) ≤ length (t ∷ ts)
    by true h = omega arith
    by false h = omega (arith, h)

-- ## The code's walk along a line

rest_goes : {A : Type 0} (ts rest next : List A) (n : ℕ) (w : A) → rest ≡ w ∷ next → rest ≡ drop n ts → next ≡ drop (n + 1) ts
rest_goes ts rest next n w e d = ap (λ us. drop 1 us) (sym e ∙ d) ∙ drops n ts ∙ ap (λ m. drop m ts) (next_is n)
  where
    drops : {A : Type 0} (n : ℕ) (ts : List A) → drop 1 (drop n ts) ≡ drop (suc n) ts
    drops zero ts = refl
    drops (suc n) [] = refl
    drops (suc n) (t ∷ ts) = drops n ts

    next_is : (n : ℕ) → suc n ≡ n + 1
    next_is n = omega arith

take_goes : {A : Type 0} (ts next : List A) (n : ℕ) (w : A) → drop n ts ≡ w ∷ next → take (n + 1) ts ≡ take n ts ++ w ∷ []
take_goes ts next n w e = take-add n 1 ts ∙ ap (λ us. take n ts ++ take 1 us) e

-- so many words of a line are passed, and the rest is left
pub record Walk (ts rest : List Word) (n : ℕ) : Type 0 where
  pub dropped : rest ≡ drop n ts
  pub count : n + length rest ≡ length ts
  pub front : take n ts ++ until_line rest ≡ front_line ts
  pub other : from_line rest ≡ other_lines ts

pub walk_goes : (ts rest next : List Word) (n : ℕ) (w : Word) → rest ≡ w ∷ next → w.opens_line ≡ false → Walk ts rest n → Walk ts next (n + 1)
walk_goes ts rest next n w e o h =
    let d = rest_goes ts rest next n w e h.dropped in
    let c = ap length e in
    let count = h.count in
    record {
      dropped = d;
      count = omega (arith, c, count);
      front = ap (λ us. us ++ until_line next) (take_goes ts next n w (sym h.dropped ∙ e)) ∙ append_assoc (take n ts) (w ∷ []) (until_line next)
          ∙ ap (λ us. take n ts ++ us) (sym (ap until_line e ∙ ap (λ b. if b then [] else w ∷ until_line next) o)) ∙ h.front;
      other = sym (ap from_line e ∙ ap (λ b. if b then w ∷ next else from_line next) o) ∙ h.other;
    }

-- ## What a reader of a line answers

-- the part alone, of what it gives
abbrev alone : {X : Type 0} → Parse Word X → Parse Word X
alone o = then_read o (λ x us. which (some_words us) (stuck us) (read x us))

-- where the part is stuck on its line, so is it before other lines
stuck_on_line : {X : Type 0} (o : Parse Word X) (later : List Word) (f : ReadFail) → Fails o f → Fails (followed_by later (alone o)) (fail_before later f)
stuck_on_line o later (fail.Stuck None) h = (h.0 ++ later, ap (λ r. followed_by later (alone r)) h.1, at h.0 h.2)
  where
    at : (us : List Word) → None ≡ first_at us → first_at later ≡ first_at (us ++ later)
    at [] e = refl
    at (u ∷ us) e = absurd (cc)
stuck_on_line o later (fail.Stuck (Some at)) h = (h.0 ++ later, ap (λ r. followed_by later (alone r)) h.1, there h.0 h.2)
  where
    there : (us : List Word) → Some at ≡ first_at us → Some at ≡ first_at (us ++ later)
    there [] e = absurd (cc)
    there (u ∷ us) e = e
stuck_on_line o later fail.NoMemory h = tt

-- a word that is left on the line
left_on_line : {X : Type 0} (o : Parse Word X) (x : X) (us later : List Word) (f : ReadFail) → o ≡ read x us → 0 < length us → f ≡ fail_before later (fail.Stuck (first_at us)) → Fails (followed_by later (alone o)) f
left_on_line o x [] later f e l is = absurd (omega (arith, l))
left_on_line o x (u ∷ us) later f e l is = subst (Fails (followed_by later (alone o))) (sym is) ((u ∷ us) ++ later, ap (λ r. followed_by later (alone r)) e, refl)

-- what is after the line of a word is shorter
later_shorter : (ts : List Word) → 0 < length (front_line ts) → length (other_lines ts) < length ts
later_shorter [] h = absurd (omega (arith, h))
later_shorter (t ∷ ts) h = let l = later_less ts in omega (arith, l)

module _ {X : Type 0} (g : Grammar Word X) (ts line later : List Word) (e : line ≡ front_line ts) (d : later ≡ other_lines ts) where
  moved : (r : ReadFail) → Fails (followed_by later (whole g line)) r → Fails (on_one_line g ts) r
  moved r h = subst (λ (p : List Word × List Word). Fails (followed_by p.1 (whole g p.0)) r) (λ i. (e i, d i)) h

  pub line_fails : (f r : ReadFail) → r ≡ fail_before later f → Fails (g line) f → Fails (on_one_line g ts) r
  line_fails f r is h = moved r (subst (Fails (followed_by later (whole g line))) (sym is) (stuck_on_line (g line) later f h))

  pub line_left : (x : X) (us : List Word) (f r : ReadFail) → g line ≡ read x us → 0 < length us → f ≡ fail.Stuck (first_at us) → r ≡ fail_before later f → Fails (on_one_line g ts) r
  line_left x us f r reads l at is = moved r (left_on_line (g line) x us later r reads l (is ∙ ap (λ s. fail_before later s) at))

  pub line_read : (x : X) (us : List Word) → g line ≡ read x us → us ≡ [] → on_one_line g ts ≡ read x later
  line_read x us reads none =
      sym (λ i. followed_by (d i) (whole g (e i))) ∙ ap (λ o. followed_by later (alone o)) (reads ∙ ap (λ vs. read x vs) none)

  pub line_shorter : (n : ℕ) → n < length line → length later < length ts
  line_shorter n l =
      let same = ap length e in
      let first : 0 < length (front_line ts) = omega (arith, l, same) in
      let less = later_shorter ts first in
      let there = ap length d in
      omega (arith, less, there)
