-- Tidied moves do the same.
use Rattle.std.proofs.Common.{◌≡◌, ℕ, ◌+◌, ◌-◌, ◌≤◌, List, [], ◌∷◌, map, refl, sym, ◌∙◌, inl, inr, ◌⊎◌, arith}
use Rattle.std.specs.Prelude.{◌&&◌, Bool, true, false, nat_le, nat_eq}
use Rattle.std.proofs.lemmas.Bool.{cases_lt}
use Rattle.std.proofs.lemmas.Bool.Decides.{nat_tests}
use Rattle.mp_term.specs.declared.term.Term.{Term}
use Rattle.mp_delay.specs.declared.moves.Move.{Move}
use Rattle.mp_delay.specs.Moves.{relevel_by, moved, moved_after}
use Rattle.mp_delay.specs.Composing.{starts_late, goes_on, tidy_after, tidied}
use Rattle.mp_delay.proofs.MoveLaws.{relevel-alike}
use Rattle.mp_delay.proofs.ComposeLaws.{after-low, after-high}

both : (a b : Bool) → (a && b) ≡ true → (a ≡ true) × (b ≡ true)
both true b h = (refl, h)
both false b h = absurd (cc)

bools : (b : Bool) → (b ≡ true) ⊎ (b ≡ false)
bools true = inl refl
bools false = inr refl

-- where a move goes on like the one before it, and before the next one
dropped : (from to i : ℕ) (m : Move) (ms : List Move) → m.to ≡ to + (m.from - from) → from ≤ m.from → starts_late m.from ms ≡ true →
    moved_after from to (m ∷ ms) i ≡ moved_after from to ms i
dropped from to i m [] is low late = elim (cases_lt i m.from) [
  | inl short ↦ after-low from to i m [] short
  | inr long ↦ after-high from to i m [] long ∙ omega (arith, is, low, long)
]
dropped from to i m (n ∷ ns) is low late =
    let next : m.from ≤ n.from = grind (arith, nat_tests, late) in
    elim (cases_lt i m.from) [
      | inl short ↦ after-low from to i m (n ∷ ns) short ∙ sym (after-low from to i n ns (omega (arith, short, next)))
      | inr long ↦ after-high from to i m (n ∷ ns) long ∙ elim (cases_lt i n.from) [
        | inl before ↦ after-low m.from m.to i n ns before ∙ straight long ∙ sym (after-low from to i n ns before)
        | inr behind ↦ after-high m.from m.to i n ns behind ∙ sym (after-high from to i n ns behind)
      ]
    ] where
      straight : m.from ≤ i → m.to + (i - m.from) ≡ to + (i - from)
      straight long = omega (arith, is, low, long)

pub tidy-after : (ms : List Move) (from to i : ℕ) → moved_after from to (tidy_after from to ms) i ≡ moved_after from to ms i
tidy-after [] from to i = refl
tidy-after (m ∷ ms) from to i = elim (bools (goes_on from to m ms)) [
  | inl yes_on ↦
      let k = both (nat_eq m.to (to + (m.from - from)) && nat_le from m.from) (starts_late m.from ms) yes_on in
      let l = both (nat_eq m.to (to + (m.from - from))) (nat_le from m.from) k.0 in
      let is : m.to ≡ to + (m.from - from) = grind (arith, nat_tests, l.0) in
      let low : from ≤ m.from = grind (arith, nat_tests, l.1) in
      rw yes_on (tidy-after ms from to i ∙ sym (dropped from to i m ms is low k.1))
  | inr not_on ↦ rw not_on (elim (cases_lt i m.from) [
    | inl short ↦ after-low from to i m (tidy_after m.from m.to ms) short ∙ sym (after-low from to i m ms short)
    | inr long ↦ after-high from to i m (tidy_after m.from m.to ms) long ∙ tidy-after ms m.from m.to i ∙ sym (after-high from to i m ms long)
  ])
]

pub moved-tidied : (ms : List Move) (i : ℕ) → moved (tidied ms) i ≡ moved ms i
moved-tidied ms i = tidy-after ms 0 0 i

pub row-tidied : (ms : List Move) (ts : List Term) → map (relevel_by (moved (tidied ms))) ts ≡ map (relevel_by (moved ms)) ts
row-tidied ms [] = refl
row-tidied ms (t ∷ ts) = rw (relevel-alike (moved (tidied ms)) (moved ms) (moved-tidied ms) t, row-tidied ms ts) refl
