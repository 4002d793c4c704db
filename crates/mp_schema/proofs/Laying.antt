-- The contexts and the named hypotheses before a place lie apart.
use Rattle.std.proofs.Common.{◌≡◌, ℕ, ◌+◌, ◌<◌, ◌≤◌, List, [], ◌∷◌, ◌++◌, map, Bool, true, false, not, nat_eq, All, inl, inr, refl, sym, arith}
use Rattle.std.specs.Prelude.{◌||◌, if◌then◌else◌}
use Rattle.std.specs.List.{IsDistinct}
use Rattle.std.proofs.lemmas.Bool.Decides.{nat_tests}
use Rattle.std.proofs.lemmas.Grind.{common_steps}
use Rattle.mp_logic.specs.declared.sym.Sym.{Sym}
use Rattle.mp_term.specs.Subst.{upto}
use Rattle.mp_schema.specs.Conditions.{has, has_all, is_apart, is_known}
use Rattle.mp_logic.specs.Lists.{joined}
use Rattle.mp_term.proofs.EqualTerms.{decided}
use Rattle.mp_schema.proofs.Agreeing.{and_both}
use Rattle.mp_schema.proofs.UseKinds.{same_name}
use Rattle.mp_schema.proofs.Apart.{Apart, Below, Differ, Apart-to, Below-to, Apart-append, Below-append, Below-more, Apart-upto, Below-upto, Differ-append, Below-Differ-upto}

-- the variables of a context
abbrev pub block : (Sym → ℕ) → (Sym → ℕ) → Sym → List ℕ
block first count c = upto (first c) (count c)

-- the variables of the contexts, one context after the other
abbrev pub blocks : (Sym → ℕ) → (Sym → ℕ) → List Sym → List ℕ
blocks first count names = joined (map (λ c. upto (first c) (count c)) names)

-- these contexts and the named hypotheses lie apart, below the place
pub record IsLaidOut (first count : Sym → ℕ) (known : List Sym) (named : List ℕ) (next : ℕ) : Type 0 where
  pub ends : (c : Sym) → has known c ≡ true → first c + count c ≤ next
  pub named_below : Below next named
  pub named_apart : Apart named
  pub contexts_apart : (a b : Sym) → has known a ≡ true → has known b ≡ true → nat_eq a.0 b.0 ≡ false → Differ (block first count a) (block first count b)
  pub context_named : (a : Sym) → has known a ≡ true → Differ (block first count a) named

Differ-nil : (xs : List ℕ) → Differ xs []
Differ-nil xs i j lt lt' = absurd (omega arith)

Apart-nil : Apart []
Apart-nil i j lt inside = absurd (omega arith)

Below-nil : (n : ℕ) → Below n []
Below-nil n i lt = absurd (omega arith)

pub not_true : (b : Bool) → not b ≡ true → b ≡ false
not_true true h = absurd cc
not_true false h = refl

flips : (a b : Sym) → nat_eq a.0 b.0 ≡ false → nat_eq b.0 a.0 ≡ false
flips a b h = grind (arith, nat_tests, h)

differ-left : (xs ys zs : List ℕ) → Differ xs zs → Differ ys zs → Differ (xs ++ ys) zs
differ-left xs ys zs hx hy i j lt lt' =
    let flip = Differ-append xs ys zs (λ p q a b e. hx q p b a (sym e)) (λ p q a b e. hy q p b a (sym e)) in
    λ e. flip j i lt' lt (sym e)

-- nothing lies before the first place
pub laid-first : (first count : Sym → ℕ) → IsLaidOut first count [] [] 0
laid-first first count = record {
  ends = λ c e. absurd cc;
  named_below = Below-nil 0;
  named_apart = Apart-nil;
  contexts_apart = λ a b ha hb ne. absurd cc;
  context_named = λ a ha. absurd cc;
}

module _ (first count : Sym → ℕ) (known : List Sym) (named : List ℕ) (next : ℕ) (laid : IsLaidOut first count known named next) where
  block-below : (c : Sym) → has known c ≡ true → Below next (block first count c)
  block-below c h = let e = laid.ends c h in Below-more (first c + count c) next (block first count c) (omega (arith, e)) (Below-upto (first c) (count c))

  -- a context that isn't in the list differs from those in it
  others : (a : Sym) (names : List Sym) → has known a ≡ true → has_all known names ≡ true → has names a ≡ false → Differ (block first count a) (blocks first count names)
  others a [] ha h none = Differ-nil (block first count a)
  others a (b ∷ names) ha h none =
      let k = and_both (has known b) (has_all known names) h in
      elim (decided (nat_eq b.0 a.0)) [
        | inl same ↦ absurd (let t : (nat_eq b.0 a.0 || has names a) ≡ true = rw same refl in cc)
        | inr other ↦
            let rest : has names a ≡ false = grind (arith, other, none) in
            Differ-append (block first count b) (blocks first count names) (block first count a)
            (laid.contexts_apart a b ha k.0 (flips b a other)) (others a names ha k.1 rest)
      ]

  blocks-apart : (names : List Sym) → has_all known names ≡ true → is_apart names ≡ true → Apart (blocks first count names)
  blocks-apart [] h apart = Apart-nil
  blocks-apart (a ∷ names) h apart =
      let k = and_both (has known a) (has_all known names) h in
      let d = and_both (not (has names a)) (is_apart names) apart in
      Apart-append (block first count a) (blocks first count names) (Apart-upto (first a) (count a)) (blocks-apart names k.1 d.1) (others a names k.0 k.1 (not_true (has names a) d.0))

  blocks-below : (names : List Sym) → has_all known names ≡ true → Below next (blocks first count names)
  blocks-below [] h = Below-nil next
  blocks-below (a ∷ names) h =
      let k = and_both (has known a) (has_all known names) h in
      Below-append (block first count a) (blocks first count names) next (block-below a k.0) (blocks-below names k.1)

  blocks-named : (names : List Sym) → has_all known names ≡ true → Differ (blocks first count names) named
  blocks-named [] h = λ i j lt lt'. absurd (omega arith)
  blocks-named (a ∷ names) h =
      let k = and_both (has known a) (has_all known names) h in
      differ-left (block first count a) (blocks first count names) named (laid.context_named a k.0) (blocks-named names k.1)

  pub blocks-distinct : (names : List Sym) → is_known known names ≡ true → IsDistinct nat_eq (blocks first count names ++ named)
  blocks-distinct names h =
      let k = and_both (has_all known names) (is_apart names) h in
      Apart-to (blocks first count names ++ named)
      (Apart-append (blocks first count names) named (blocks-apart names k.0 k.1) laid.named_apart (blocks-named names k.0))

  pub blocks-low : (names : List Sym) → is_known known names ≡ true → All (λ l. l < next) (blocks first count names ++ named)
  blocks-low names h =
      let k = and_both (has_all known names) (is_apart names) h in
      Below-to next (blocks first count names ++ named) (Below-append (blocks first count names) named next (blocks-below names k.0) laid.named_below)

  -- ## The next place

  pub laid-named : IsLaidOut first count known (named ++ next ∷ []) (next + 1)
  laid-named = record {
    ends = λ c h. let e = laid.ends c h in omega (arith, e);
    named_below = Below-append named (upto next 1) (next + 1) (Below-more next (next + 1) named (omega arith) laid.named_below) (Below-upto next 1);
    named_apart = Apart-append named (upto next 1) laid.named_apart (Apart-upto next 1) (Below-Differ-upto next 1 named laid.named_below);
    contexts_apart = laid.contexts_apart;
    context_named = λ a ha. Differ-append named (upto next 1) (block first count a) (laid.context_named a ha) (Below-Differ-upto next 1 (block first count a) (block-below a ha));
  }

  module _ (name : Sym) (new : has known name ≡ false) where
    abbrev from : Sym → ℕ
    from other = if nat_eq other.0 name.0 then next else first other

    at-new : (a : Sym) → nat_eq a.0 name.0 ≡ true → block from count a ≡ upto next (count a)
    at-new a h = rw h refl

    at-old : (a : Sym) → nat_eq a.0 name.0 ≡ false → block from count a ≡ block first count a
    at-old a h = rw h refl

    has-old : (a : Sym) → nat_eq a.0 name.0 ≡ false → has (name ∷ known) a ≡ true → has known a ≡ true
    has-old a h t = let f = flips a name h in grind (arith, common_steps, f, t)

    new-above : (n : ℕ) (xs : List ℕ) → Below next xs → Differ (upto next n) xs
    new-above n xs b i j lt lt' e = Below-Differ-upto next n xs b j i lt' lt (sym e)

    ends-more : (a : Sym) → has (name ∷ known) a ≡ true → from a + count a ≤ next + count name
    ends-more a t = elim (decided (nat_eq a.0 name.0)) [
      | inl h ↦ let same = same_name a name h in rw (h, same) (omega arith)
      | inr h ↦ let e = laid.ends a (has-old a h t) in rw h (omega (arith, e))
    ]

    contexts-more : (a b : Sym) → has (name ∷ known) a ≡ true → has (name ∷ known) b ≡ true → nat_eq a.0 b.0 ≡ false → Differ (block from count a) (block from count b)
    contexts-more a b ha hb ne = elim (decided (nat_eq a.0 name.0)) [
      | inl ea ↦ elim (decided (nat_eq b.0 name.0)) [
        | inl eb ↦ absurd (grind (arith, nat_tests, ea, eb, ne))
        | inr nb ↦ rw (at-new a ea, at-old b nb) (new-above (count a) (block first count b) (block-below b (has-old b nb hb)))
      ]
      | inr na ↦ elim (decided (nat_eq b.0 name.0)) [
        | inl eb ↦ rw (at-old a na, at-new b eb) (Below-Differ-upto next (count b) (block first count a) (block-below a (has-old a na ha)))
        | inr nb ↦ rw (at-old a na, at-old b nb) (laid.contexts_apart a b (has-old a na ha) (has-old b nb hb) ne)
      ]
    ]

    named-more : (a : Sym) → has (name ∷ known) a ≡ true → Differ (block from count a) named
    named-more a ha = elim (decided (nat_eq a.0 name.0)) [
      | inl ea ↦ rw (at-new a ea) (new-above (count a) named laid.named_below)
      | inr na ↦ rw (at-old a na) (laid.context_named a (has-old a na ha))
    ]

    pub laid-context : IsLaidOut from count (name ∷ known) named (next + count name)
    laid-context = record {
      ends = ends-more;
      named_below = Below-more next (next + count name) named (omega arith) laid.named_below;
      named_apart = laid.named_apart;
      contexts_apart = contexts-more;
      context_named = named-more;
    }
