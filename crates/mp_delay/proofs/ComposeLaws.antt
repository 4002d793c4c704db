-- Moves and then moves are moves.
use Rattle.std.proofs.Common.{◌≡◌, ℕ, ◌+◌, ◌-◌, ◌<◌, ◌≤◌, List, [], ◌∷◌, ◌++◌, nat_lt, Option, Some, None, refl, sym, ap, map, ◌∙◌, inl, inr, ◌⊎◌, append-nil, arith}
use Rattle.std.specs.Prelude.{Bool, true, false}
use Rattle.std.proofs.lemmas.Bool.{cases_lt}
use Rattle.std.proofs.lemmas.Bool.Decides.{nat_tests}
use Rattle.mp_delay.specs.declared.moves.Move.{Move}
use Rattle.mp_term.specs.declared.term.Term.{Term}
use Rattle.mp_delay.proofs.MoveLaws.{relevel-relevel, relevel-alike}
use Rattle.mp_delay.specs.Moves.{relevel_by, moved, moved_after, AreAfter, AreInOrder}
use Rattle.mp_delay.specs.Composing.{is_before, within, run, composed_after, composed}

pub after-low : (from to i : ℕ) (m : Move) (ms : List Move) → i < m.from → moved_after from to (m ∷ ms) i ≡ to + (i - from)
after-low from to i m ms h = grind (arith, nat_tests)

pub after-high : (from to i : ℕ) (m : Move) (ms : List Move) → m.from ≤ i → moved_after from to (m ∷ ms) i ≡ moved_after m.from m.to ms i
after-high from to i m ms h = grind (arith, nat_tests)

-- a move gives its own level before those after it count
at-start : (p q : ℕ) (ns : List Move) → AreAfter p ns → moved_after p q ns p ≡ q
at-start p q [] h = omega arith
at-start p q (n ∷ ns) h = after-low p q p n ns h.0 ∙ omega arith

in_order : (p : ℕ) (ns : List Move) → AreAfter p ns → AreInOrder ns
in_order p [] h = tt
in_order p (n ∷ ns) h = h.1

bools : (b : Bool) → (b ≡ true) ⊎ (b ≡ false)
bools true = inl refl
bools false = inr refl

module _ (from to : ℕ) (end : Option ℕ) where
  -- where a move begins, seen before the run
  abbrev seen : Move → ℕ
  seen n = from + (n.from - to)

  skipped-low : (n : Move) (ns : List Move) → n.from ≤ to → within from to end (n ∷ ns) ≡ within from to end ns
  skipped-low n ns h =
      let test : nat_lt to n.from ≡ false = grind (arith, nat_tests) in
      rw test refl

  skipped-late : (n : Move) (ns : List Move) → to < n.from → is_before (from + (n.from - to)) end ≡ false → within from to end (n ∷ ns) ≡ within from to end ns
  skipped-late n ns h late =
      let test : nat_lt to n.from ≡ true = grind (arith, nat_tests) in
      rw (test, late) refl

  kept : (n : Move) (ns : List Move) → to < n.from → is_before (from + (n.from - to)) end ≡ true →
      within from to end (n ∷ ns) ≡ record { from = from + (n.from - to); to = n.to } ∷ within from to end ns
  kept n ns h early =
      let test : nat_lt to n.from ≡ true = grind (arith, nat_tests) in
      rw (test, early) refl

  -- behind the end nothing begins
  none-late : (x : ℕ) (ns : List Move) → to < x → is_before (from + (x - to)) end ≡ false → AreAfter x ns → within from to end ns ≡ []
  none-late x [] h late order = refl
  none-late x (n ∷ ns) h late order =
      let further : is_before (from + (n.from - to)) end ≡ false = later end late in
      skipped-late n ns (omega (arith, order.0)) further ∙ none-late n.from ns (omega (arith, order.0)) further order.1 where
        later : (e : Option ℕ) → is_before (from + (x - to)) e ≡ false → is_before (from + (n.from - to)) e ≡ false
        later None is = absurd (cc)
        later (Some e) is = let next = order.0 in grind (arith, nat_tests, is, next)

  -- where the level is before the end and what follows the run begins later, the run takes it where `ns` takes its image
  module _ (rest : List Move) (i : ℕ) (before : is_before i end ≡ true) (later : (f t : ℕ) → moved_after f t rest i ≡ t + (i - f)) where
    earlier : (e : Option ℕ) (x : ℕ) → is_before i e ≡ true → is_before x e ≡ false → i < x
    earlier None x a b = absurd (cc)
    earlier (Some e) x a b = grind (arith, nat_tests, a, b)

    straight : (p q f t : ℕ) → from ≤ f → f ≤ i → p ≤ to + (f - from) → t ≡ q + (to + (f - from) - p) → t + (i - f) ≡ q + (to + (i - from) - p)
    straight p q f t a b c d = omega (arith, a, b, c, d)

    pub run-moves : (ns : List Move) (p q f t : ℕ) → from ≤ f → f ≤ i → p ≤ to + (f - from) → AreInOrder ns →
        (f ≡ from) ⊎ ((to + (f - from) ≡ p) × AreAfter p ns) → t ≡ moved_after p q ns (to + (f - from)) →
        moved_after f t (within from to end ns ++ rest) i ≡ moved_after p q ns (to + (i - from))
    run-moves [] p q f t a b c order first at = later f t ∙ straight p q f t a b c at
    run-moves (n ∷ ns) p q f t a b c order first at = elim (cases_lt to n.from) [
      | inr low ↦ skip low (run-moves ns)
      | inl high ↦ elim (bools (is_before (from + (n.from - to)) end)) [
        | inr late ↦ stop high late
        | inl early ↦ elim (cases_lt i (from + (n.from - to))) [ inl short ↦ stay high early short | inr long ↦ go high early long (run-moves ns) ]
      ]
    ] where
      image : n.from ≤ to → to + (f - from) ≡ to
      image low = elim first [
        | inl same ↦ omega (arith, same)
        | inr second ↦ let x = second.0 in let y = second.1.0 in absurd (omega (arith, low, x, y))
      ]

      skip : n.from ≤ to →
          ((p' q' f' t' : ℕ) → from ≤ f' → f' ≤ i → p' ≤ to + (f' - from) → AreInOrder ns → (f' ≡ from) ⊎ ((to + (f' - from) ≡ p') × AreAfter p' ns) → t' ≡ moved_after p' q' ns (to + (f' - from)) →
          moved_after f' t' (within from to end ns ++ rest) i ≡ moved_after p' q' ns (to + (i - from))) →
          moved_after f t (within from to end (n ∷ ns) ++ rest) i ≡ moved_after p q (n ∷ ns) (to + (i - from))
      skip low ih =
          let here = image low in
          let value = at ∙ after-high p q (to + (f - from)) n ns (omega (arith, low, here)) in
          let same : f ≡ from = omega (arith, here, a) in
          let target = after-high p q (to + (i - from)) n ns (omega (arith, low)) in
          rw (skipped-low n ns low) (ih n.from n.to f t a b (omega (arith, low, here)) (in_order n.from ns order) (inl same) value ∙ sym target)

      beyond : to < n.from → to + (f - from) < n.from
      beyond high = elim first [
        | inl same ↦ omega (arith, same, high)
        | inr second ↦ let x = second.0 in let y = second.1.0 in omega (arith, x, y)
      ]

      value : to < n.from → t ≡ q + (to + (f - from) - p)
      value high = at ∙ after-low p q (to + (f - from)) n ns (beyond high)

      stop : to < n.from → is_before (from + (n.from - to)) end ≡ false → moved_after f t (within from to end (n ∷ ns) ++ rest) i ≡ moved_after p q (n ∷ ns) (to + (i - from))
      stop high late =
          let none = skipped-late n ns high late ∙ none-late n.from ns high late order in
          let short = earlier end (from + (n.from - to)) before late in
          let target = after-low p q (to + (i - from)) n ns (omega (arith, short, high, a, b)) in
          rw none (later f t ∙ straight p q f t a b c (value high) ∙ sym target)

      stay : to < n.from → is_before (from + (n.from - to)) end ≡ true → i < from + (n.from - to) →
          moved_after f t (within from to end (n ∷ ns) ++ rest) i ≡ moved_after p q (n ∷ ns) (to + (i - from))
      stay high early short =
          let target = after-low p q (to + (i - from)) n ns (omega (arith, short, high, a, b)) in
          let new : Move = record { from = from + (n.from - to); to = n.to } in
          rw (kept n ns high early) (after-low f t i new (within from to end ns ++ rest) short ∙ straight p q f t a b c (value high) ∙ sym target)

      go : to < n.from → is_before (from + (n.from - to)) end ≡ true → from + (n.from - to) ≤ i →
          ((p' q' f' t' : ℕ) → from ≤ f' → f' ≤ i → p' ≤ to + (f' - from) → AreInOrder ns → (f' ≡ from) ⊎ ((to + (f' - from) ≡ p') × AreAfter p' ns) → t' ≡ moved_after p' q' ns (to + (f' - from)) →
          moved_after f' t' (within from to end ns ++ rest) i ≡ moved_after p' q' ns (to + (i - from))) →
          moved_after f t (within from to end (n ∷ ns) ++ rest) i ≡ moved_after p q (n ∷ ns) (to + (i - from))
      go high early long ih =
          let new : Move = record { from = from + (n.from - to); to = n.to } in
          let target = after-high p q (to + (i - from)) n ns (omega (arith, long, high)) in
          let image : to + (from + (n.from - to) - from) ≡ n.from = omega (arith, high) in
          let start : n.to ≡ moved_after n.from n.to ns (to + (from + (n.from - to) - from)) = rw image (sym (at-start n.from n.to ns order)) in
          let inner = ih n.from n.to (from + (n.from - to)) n.to (omega arith) long (omega (arith, image)) (in_order n.from ns order) (inr (image, order)) start in
          rw (kept n ns high early) (after-high f t i new (within from to end ns ++ rest) long ∙ inner ∙ sym target)

-- behind a run, what follows it decides
through : (from to end i : ℕ) (rest : List Move) (x : ℕ) → end ≤ i → ((a b : ℕ) → moved_after a b rest i ≡ x) →
    (ns : List Move) (a b : ℕ) → moved_after a b (within from to (Some end) ns ++ rest) i ≡ x
through from to end i rest x h fixed [] a b = fixed a b
through from to end i rest x h fixed (n ∷ ns) a b = elim (cases_lt to n.from) [
  | inr low ↦ rw (skipped-low from to (Some end) n ns low) (through from to end i rest x h fixed ns a b)
  | inl high ↦ elim (bools (is_before (from + (n.from - to)) (Some end))) [
    | inr late ↦ rw (skipped-late from to (Some end) n ns high late) (through from to end i rest x h fixed ns a b)
    | inl early ↦
        let new : Move = record { from = from + (n.from - to); to = n.to } in
        let reached : from + (n.from - to) ≤ i = grind (arith, nat_tests, early, h) in
        rw (kept from to (Some end) n ns high early)
        (after-high a b i new (within from to (Some end) ns ++ rest) reached ∙ through from to end i rest x h fixed ns (from + (n.from - to)) n.to)
  ]
]

-- what is composed begins with its first level
head-late : (from to : ℕ) (ms ns : List Move) (f t i : ℕ) → i < from → moved_after f t (composed_after from to ms ns) i ≡ t + (i - f)
head-late from to [] ns f t i h = grind (arith, nat_tests)
head-late from to (m ∷ ms) ns f t i h = grind (arith, nat_tests)

module _ (ns : List Move) (order : AreInOrder ns) where
  first_run : (from to : ℕ) (end : Option ℕ) (rest : List Move) (i a b : ℕ) → from ≤ i → is_before i end ≡ true → ((f t : ℕ) → moved_after f t rest i ≡ t + (i - f)) →
      moved_after a b (run from to end ns ++ rest) i ≡ moved ns (to + (i - from))
  first_run from to end rest i a b h before later =
      let new : Move = record { from = from; to = moved ns to } in
      let image : to + (from - from) ≡ to = omega arith in
      let start : moved ns to ≡ moved_after 0 0 ns (to + (from - from)) = rw image refl in
      after-high a b i new (within from to end ns ++ rest) h
      ∙ run-moves from to end rest i before later ns 0 0 from (moved ns to) (omega arith) h (omega arith) order (inl refl) start

  pub composed-after : (ms : List Move) (from to a b i : ℕ) → from ≤ i → moved_after a b (composed_after from to ms ns) i ≡ moved ns (moved_after from to ms i)
  composed-after [] from to a b i low =
      let r = first_run from to None [] i a b low refl (λ f t. omega arith) in
      ap (λ l. moved_after a b l i) (sym (append-nil (run from to None ns))) ∙ r
  composed-after (m ∷ ms) from to a b i low = elim (cases_lt i m.from) [
    | inl short ↦
        let r = first_run from to (Some m.from) (composed_after m.from m.to ms ns) i a b low (grind (arith, nat_tests, short)) (λ f t. head-late m.from m.to ms ns f t i short) in
        r ∙ ap (moved ns) (sym (after-low from to i m ms short))
    | inr long ↦
        let new : Move = record { from = from; to = moved ns to } in
        let rest = composed_after m.from m.to ms ns in
        let fixed = λ (c d : ℕ). composed-after ms m.from m.to c d i long in
        after-high a b i new (within from to (Some m.from) ns ++ rest) low
        ∙ through from to m.from i rest (moved ns (moved_after m.from m.to ms i)) long fixed ns from (moved ns to)
        ∙ ap (moved ns) (sym (after-high from to i m ms long))
  ]

  -- first the moves ms and then ns
  pub moved-composed : (ms : List Move) (i : ℕ) → moved (composed ms ns) i ≡ moved ns (moved ms i)
  moved-composed ms i = composed-after ms 0 0 0 0 i (omega arith)

  pub relevel-composed : (ms : List Move) (t : Term) → relevel_by (moved (composed ms ns)) t ≡ relevel_by (moved ns) (relevel_by (moved ms) t)
  relevel-composed ms t =
      relevel-alike (moved (composed ms ns)) (λ i. moved ns (moved ms i)) (moved-composed ms) t ∙ sym (relevel-relevel (moved ms) (moved ns) t)

  -- a row is moved by its moves and these
  pub row-composed : (ms : List Move) (ts : List Term) → map (relevel_by (moved (composed ms ns))) ts ≡ map (relevel_by (moved ns)) (map (relevel_by (moved ms)) ts)
  row-composed ms [] = refl
  row-composed ms (t ∷ ts) = rw (relevel-composed ms t, row-composed ms ts) refl
