-- How the answer of a part of a reader goes over to the whole.
use Rattle.std.proofs.Common.{◌≡◌, ℕ, zero, suc, ◌<◌, ◌≤◌, arith, true≢false, ◌++◌, ◌∷◌, [], List, length, drop, Bool, true, false, refl, ap, sym, subst, ◌∙◌, append_assoc, append-nil, length-append, ◌+◌}
use Rattle.mp_words.specs.declared.word.Word.{Word}
use Rattle.mp_words.specs.declared.parts.ReadFail.{ReadFail}
use Rattle.mp_words.specs.declared.parts.ReadFail.TheVariants as fail
use Rattle.mp_words.specs.Grammars.{Parse, read, stuck, Grammar, then_read, which, fronted, after, pair, put, row, row_step, chain, chain_step, repeated, repeated_step, levels, joined}
use Rattle.mp_words.specs.Fronts.{first_at}
use Rattle.mp_words.specs.Reading.{Fails}

-- a reader that stops at these words is stuck there
pub stuck_at : {X : Type 0} (o : Parse Word X) (rest : List Word) (f : ReadFail) → f ≡ fail.Stuck (first_at rest) → o ≡ stuck rest → Fails o f
stuck_at o rest f e h = subst (Fails o) (sym e) (rest, h, refl)

-- where the part is stuck, so is the whole
pub fails_on : {X Y : Type 0} (o : Parse Word X) (p : Parse Word Y) → ((rest : List Word) → o ≡ stuck rest → p ≡ stuck rest) → (f : ReadFail) → Fails o f → Fails p f
fails_on o p h (fail.Stuck at) k = (k.0, h k.0 k.1, k.2)
fails_on o p h fail.NoMemory k = tt

-- one more item, joined in front of what comes
pub joined_next : {X : Type 0} (items now : List X) (x : X) (o : Parse Word (List X)) → now ≡ items ++ x ∷ [] → joined items (then_read o (λ xs us. read (x ∷ xs) us)) ≡ joined now o
joined_next items now x (read xs us) e = ap (λ ys. read ys us) (sym (ap (λ ks. ks ++ xs) e ∙ append_assoc items (x ∷ []) xs))
joined_next items now x (stuck us) e = refl

pub joined_none : {X : Type 0} (o : Parse Word (List X)) → o ≡ joined [] o
joined_none (read xs us) = refl
joined_none (stuck us) = refl

module _ {X : Type 0} (g : Grammar Word X) (sep stop : Word → Bool) where
  -- the reading of all is that of what is left, behind the items; so many levels are enough for what is left
  abbrev pub RowLeft : List X → List Word → List Word → Type 0
  RowLeft items at ts = (k : ℕ) × (length at ≤ k) × (row g sep stop ts ≡ joined items (levels (row_step g sep stop) (suc k) at))

  pub row_start : (items : List X) (ts : List Word) → items ≡ [] → RowLeft items ts ts
  row_start items ts e = (length ts, omega arith, joined_none (row g sep stop ts) ∙ ap (λ xs. joined xs (row g sep stop ts)) (sym e))

  module _ (at : List Word) (k : ℕ) where
    abbrev goes : List Word → Parse Word (List X)
    goes us = which (fronted stop us) (read [] (drop 1 us)) (after sep (levels (row_step g sep stop) k) us)

    abbrev with_first : X → Parse Word (List X) → Parse Word (List X)
    with_first x o = then_read (then_read o (λ y vs. read (pair x y) vs)) (λ p us. read (put p) us)

    abbrev behind_first : Parse Word X → Parse Word (List X)
    behind_first o = then_read (then_read o (λ x us. then_read (goes us) (λ y vs. read (pair x y) vs))) (λ p us. read (put p) us)

    flat_first : (x : X) (o : Parse Word (List X)) → with_first x o ≡ then_read o (λ xs us. read (x ∷ xs) us)
    flat_first x (read xs us) = refl
    flat_first x (stuck us) = refl

    one_more : (x : X) (us : List Word) → g at ≡ read x us → fronted stop us ≡ false → fronted sep us ≡ true → levels (row_step g sep stop) (suc k) at ≡ then_read (levels (row_step g sep stop) k (drop 1 us)) (λ xs vs. read (x ∷ xs) vs)
    one_more x us e t s =
        ap behind_first e ∙ ap (λ b. with_first x (which b (read [] (drop 1 us)) (after sep (levels (row_step g sep stop) k) us))) t
        ∙ ap (λ b. with_first x (which b (levels (row_step g sep stop) k (drop 1 us)) (stuck us))) s ∙ flat_first x (levels (row_step g sep stop) k (drop 1 us))

  module _ (items : List X) (at ts : List Word) where
    more_by : (k : ℕ) (now : List X) (x : X) (us rest : List Word) → length at ≤ k → row g sep stop ts ≡ joined items (levels (row_step g sep stop) (suc k) at) → now ≡ items ++ x ∷ [] → g at ≡ read x us → fronted stop us ≡ false → fronted sep us ≡ true → rest ≡ drop 1 us
        → length rest < length at → RowLeft now rest ts
    more_by zero now x us rest l h n e t s r f = absurd (omega (arith, l, f))
    more_by (suc k) now x us rest l h n e t s r f = (
      k,
      omega (arith, l, f),
      h ∙ ap (joined items) (one_more at (suc k) x us e t s) ∙ joined_next items now x (levels (row_step g sep stop) (suc k) (drop 1 us)) n ∙ ap (λ vs. joined now (levels (row_step g sep stop) (suc k) vs)) (sym r),
    )

    pub row_more : (now : List X) (x : X) (us rest : List Word) → RowLeft items at ts → now ≡ items ++ x ∷ [] → g at ≡ read x us → fronted stop us ≡ false → fronted sep us ≡ true → rest ≡ drop 1 us → length rest < length at → RowLeft now rest ts
    row_more now x us rest h n e t s r f = more_by h.0 now x us rest h.1 h.2 n e t s r f

pub shorter_behind : (test : Word → Bool) (us rest at : List Word) → fronted test us ≡ true → rest ≡ drop 1 us → length us < length at → length rest < length at
shorter_behind test [] rest at t r l = absurd (true≢false (sym t))
shorter_behind test (u ∷ us) rest at t r l = let e = ap length r in omega (arith, e, l)

-- an item and the others, as one list
flat : {X : Type 0} (x : X) (o : Parse Word (List X)) → then_read (then_read o (λ y vs. read (pair x y) vs)) (λ p us. read (put p) us) ≡ then_read o (λ xs us. read (x ∷ xs) us)
flat x (read xs us) = refl
flat x (stuck us) = refl

module _ {X : Type 0} (begins : List Word → Bool) (g : Grammar Word X) where
  -- the reading of all is that of what is left, behind the items; so many levels are enough for what is left
  abbrev pub RepeatedLeft : List X → List Word → List Word → Type 0
  RepeatedLeft items at ts = (k : ℕ) × (length at ≤ k) × (repeated begins g ts ≡ joined items (levels (repeated_step begins g) (suc k) at))

  pub repeated_start : (items : List X) (ts : List Word) → items ≡ [] → RepeatedLeft items ts ts
  repeated_start items ts e = (length ts, omega arith, joined_none (repeated begins g ts) ∙ ap (λ xs. joined xs (repeated begins g ts)) (sym e))

  module _ (at : List Word) (k : ℕ) where
    abbrev first_then : Parse Word X → Parse Word (List X)
    first_then o = then_read (then_read o (λ x us. then_read (levels (repeated_step begins g) k us) (λ y vs. read (pair x y) vs))) (λ p us. read (put p) us)

    no_further : begins at ≡ false → levels (repeated_step begins g) (suc k) at ≡ read [] at
    no_further t = ap (λ b. which b (first_then (g at)) (read [] at)) t

    further_stuck : (us : List Word) → begins at ≡ true → g at ≡ stuck us → levels (repeated_step begins g) (suc k) at ≡ stuck us
    further_stuck us t e = ap (λ b. which b (first_then (g at)) (read [] at)) t ∙ ap first_then e

    one_further : (x : X) (us : List Word) → begins at ≡ true → g at ≡ read x us → levels (repeated_step begins g) (suc k) at ≡ then_read (levels (repeated_step begins g) k us) (λ xs vs. read (x ∷ xs) vs)
    one_further x us t e = ap (λ b. which b (first_then (g at)) (read [] at)) t ∙ ap first_then e ∙ flat x (levels (repeated_step begins g) k us)

  module _ (items : List X) (at ts : List Word) where
    pub repeated_done : RepeatedLeft items at ts → begins at ≡ false → repeated begins g ts ≡ read items at
    repeated_done h t = h.2 ∙ ap (joined items) (no_further at h.0 t) ∙ ap (λ xs. read xs at) (append-nil items)

    pub repeated_stuck : (us : List Word) → RepeatedLeft items at ts → begins at ≡ true → g at ≡ stuck us → repeated begins g ts ≡ stuck us
    repeated_stuck us h t e = h.2 ∙ ap (joined items) (further_stuck at h.0 us t e)

    repeated_by : (k : ℕ) (now : List X) (x : X) (us : List Word) → length at ≤ k → repeated begins g ts ≡ joined items (levels (repeated_step begins g) (suc k) at) → now ≡ items ++ x ∷ [] → begins at ≡ true → g at ≡ read x us → length us < length at → RepeatedLeft now us ts
    repeated_by zero now x us l h n t e f = absurd (omega (arith, l, f))
    repeated_by (suc k) now x us l h n t e f = (k, omega (arith, l, f), h ∙ ap (joined items) (one_further at (suc k) x us t e) ∙ joined_next items now x (levels (repeated_step begins g) (suc k) us) n)

    pub repeated_more : (now : List X) (x : X) (us : List Word) → RepeatedLeft items at ts → now ≡ items ++ x ∷ [] → begins at ≡ true → g at ≡ read x us → length us < length at → RepeatedLeft now us ts
    repeated_more now x us h n t e f = repeated_by h.0 now x us h.1 h.2 n t e f

module _ {X : Type 0} (g : Grammar Word X) (sep : Word → Bool) where
  -- the reading of all is that of what is left, behind the items; so many levels are enough for what is left
  abbrev pub ChainLeft : List X → List Word → List Word → Type 0
  ChainLeft items at ts = (k : ℕ) × (length at ≤ k) × (chain g sep ts ≡ joined items (levels (chain_step g sep) (suc k) at))

  pub chain_start : (items : List X) (ts : List Word) → items ≡ [] → ChainLeft items ts ts
  chain_start items ts e = (length ts, omega arith, joined_none (chain g sep ts) ∙ ap (λ xs. joined xs (chain g sep ts)) (sym e))

  module _ (at : List Word) (k : ℕ) where
    abbrev linked : X → List Word → Parse Word (List X)
    linked x us = then_read (then_read (which (fronted sep us) (levels (chain_step g sep) k (drop 1 us)) (read [] us)) (λ y vs. read (pair x y) vs)) (λ p vs. read (put p) vs)

    abbrev link_then : Parse Word X → Parse Word (List X)
    link_then o = then_read (then_read o (λ x us. then_read (which (fronted sep us) (levels (chain_step g sep) k (drop 1 us)) (read [] us)) (λ y vs. read (pair x y) vs))) (λ p us. read (put p) us)

    link_stuck : (us : List Word) → g at ≡ stuck us → levels (chain_step g sep) (suc k) at ≡ stuck us
    link_stuck us e = ap link_then e

    link_last : (x : X) (us : List Word) → g at ≡ read x us → fronted sep us ≡ false → levels (chain_step g sep) (suc k) at ≡ read (x ∷ []) us
    link_last x us e t = ap link_then e ∙ ap (λ b. then_read (then_read (which b (levels (chain_step g sep) k (drop 1 us)) (read [] us)) (λ y vs. read (pair x y) vs)) (λ p vs. read (put p) vs)) t

    link_more : (x : X) (us : List Word) → g at ≡ read x us → fronted sep us ≡ true → levels (chain_step g sep) (suc k) at ≡ then_read (levels (chain_step g sep) k (drop 1 us)) (λ xs vs. read (x ∷ xs) vs)
    link_more x us e t =
        ap link_then e ∙ ap (λ b. then_read (then_read (which b (levels (chain_step g sep) k (drop 1 us)) (read [] us)) (λ y vs. read (pair x y) vs)) (λ p vs. read (put p) vs)) t
        ∙ flat x (levels (chain_step g sep) k (drop 1 us))

  module _ (items : List X) (at ts : List Word) where
    pub chain_stuck : (us : List Word) → ChainLeft items at ts → g at ≡ stuck us → chain g sep ts ≡ stuck us
    chain_stuck us h e = h.2 ∙ ap (joined items) (link_stuck at h.0 us e)

    pub chain_last : (now : List X) (x : X) (us : List Word) → ChainLeft items at ts → now ≡ items ++ x ∷ [] → g at ≡ read x us → fronted sep us ≡ false → chain g sep ts ≡ read now us
    chain_last now x us h n e t = h.2 ∙ ap (joined items) (link_last at h.0 x us e t) ∙ ap (λ xs. read xs us) (sym n)

    chain_by : (k : ℕ) (now : List X) (x : X) (us rest : List Word) → length at ≤ k → chain g sep ts ≡ joined items (levels (chain_step g sep) (suc k) at) → now ≡ items ++ x ∷ [] → g at ≡ read x us → fronted sep us ≡ true → rest ≡ drop 1 us → length rest < length at → ChainLeft now rest ts
    chain_by zero now x us rest l h n e t r f = absurd (omega (arith, l, f))
    chain_by (suc k) now x us rest l h n e t r f = (
      k,
      omega (arith, l, f),
      h ∙ ap (joined items) (link_more at (suc k) x us e t) ∙ joined_next items now x (levels (chain_step g sep) (suc k) (drop 1 us)) n ∙ ap (λ vs. joined now (levels (chain_step g sep) (suc k) vs)) (sym r),
    )

    pub chain_more : (now : List X) (x : X) (us rest : List Word) → ChainLeft items at ts → now ≡ items ++ x ∷ [] → g at ≡ read x us → fronted sep us ≡ true → rest ≡ drop 1 us → length rest < length at → ChainLeft now rest ts
    chain_more now x us rest h n e t r f = chain_by h.0 now x us rest h.1 h.2 n e t r f

-- one item more, and fewer words
pub few_more : {X : Type 0} (items now : List X) (x : X) (at rest ts : List Word) → now ≡ items ++ x ∷ [] → length rest < length at → length items + length at ≤ length ts → length now + length rest ≤ length ts
few_more items now x at rest ts n f before = let longer = ap length n in let one_longer = length-append items (x ∷ []) in omega (arith, f, before, longer, one_longer)
