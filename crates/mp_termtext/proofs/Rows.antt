-- Rows of a grammar that takes words, an item at a time; and the parts of a subterm, a hypothesis and a sequent, put together.
use Rattle.std.proofs.Common.{◌≡◌, List, [], ◌∷◌, Bool, true, false, drop, ap, ◌∙◌}
use Rattle.mp_words.specs.declared.word.Word.{Word}
use Rattle.mp_words.specs.declared.raw.RawName.{RawName}
use Rattle.mp_words.specs.Fronts.{front_at}
use Rattle.mp_words.specs.Grammars.{Grammar, Parse, Shrinks, fronted, then_read, pair, put, read, row, some_words, stuck, which, whole}
use Rattle.mp_words.proofs.Grammars.{row_unfolds}
use Rattle.mp_termtext.specs.declared.raw.RawTerm.{RawTerm}
use Rattle.mp_termtext.specs.declared.raw.RawHyp.{RawHyp}
use Rattle.mp_termtext.specs.Grammar.{begins_binders, binders, bound_by, bound_of, hyps, sequent, sequent_of, some_binders, term}

module _ {X : Type 0} (g : Grammar Word X) (sep end : Word → Bool) (a : Shrinks g) where
  abbrev with_first : X → Parse Word (List X) → Parse Word (List X)
  with_first x o = then_read (then_read o (λ y vs. read (pair x y) vs)) (λ p us. read (put p) us)

  abbrev first_then : Parse Word X → Parse Word (List X)
  first_then o = then_read (then_read o (λ x us. then_read (which (fronted end us) (read [] (drop 1 us)) (which (fronted sep us) (row g sep end (drop 1 us)) (stuck us))) (λ y vs. read (pair x y) vs))) (λ p us. read (put p) us)

  -- one item, and the end
  pub row_one : (ts : List Word) (x : X) (us : List Word) → g ts ≡ read x us → fronted end us ≡ true → row g sep end ts ≡ read (x ∷ []) (drop 1 us)
  row_one ts x us e t =
      row_unfolds sep end g a ts ∙ ap first_then e
      ∙ ap (λ b. with_first x (which b (read [] (drop 1 us)) (which (fronted sep us) (row g sep end (drop 1 us)) (stuck us)))) t

  -- one item, and the others behind a separator
  pub row_cons : (ts : List Word) (x : X) (us : List Word) (xs : List X) (rest : List Word) → g ts ≡ read x us → fronted end us ≡ false → fronted sep us ≡ true → row g sep end (drop 1 us) ≡ read xs rest → row g sep end ts ≡ read (x ∷ xs) rest
  row_cons ts x us xs rest e t s h =
      row_unfolds sep end g a ts ∙ ap first_then e
      ∙ ap (λ b. with_first x (which b (read [] (drop 1 us)) (which (fronted sep us) (row g sep end (drop 1 us)) (stuck us)))) t
      ∙ ap (λ b. with_first x (which b (row g sep end (drop 1 us)) (stuck us))) s ∙ ap (with_first x) h

pub no_binders_are : (ts : List Word) → begins_binders ts ≡ false → binders ts ≡ read [] ts
no_binders_are ts h = ap (λ b. which b (some_binders ts) (read [] ts)) h

pub binders_are : (ts us : List Word) (bs : List RawName) → begins_binders ts ≡ true → some_binders ts ≡ read bs us → binders ts ≡ read bs us
binders_are ts us bs h e = ap (λ b. which b (some_binders ts) (read [] ts)) h ∙ e

pub bound_is : (ts us rest : List Word) (bs : List RawName) (t : RawTerm) → binders ts ≡ read bs us → term us ≡ read t rest → bound_by term ts ≡ read (bound_of (pair bs t)) rest
bound_is ts us rest bs t e f =
    ap (λ o. then_read (then_read o (λ x vs. then_read (term vs) (λ y ws. read (pair x y) ws))) (λ p vs. read (bound_of p) vs)) e
    ∙ ap (λ o. then_read (then_read o (λ y ws. read (pair bs y) ws)) (λ p vs. read (bound_of p) vs)) f

pub sequent_is : (ts us rest : List Word) (hs : List RawHyp) (t : RawTerm) → hyps ts ≡ read hs us → term us ≡ read t rest → sequent ts ≡ read (sequent_of (pair (front_at ts) (pair hs t))) rest
sequent_is ts us rest hs t e f =
    ap (λ o. then_read (then_read (then_read o (λ x vs. then_read (term vs) (λ y ws. read (pair x y) ws))) (λ x vs. read (pair (front_at ts) x) vs)) (λ p vs. read (sequent_of p) vs)) e
    ∙ ap (λ o. then_read (then_read (then_read o (λ y ws. read (pair hs y) ws)) (λ x vs. read (pair (front_at ts) x) vs)) (λ p vs. read (sequent_of p) vs)) f

pub whole_is : {X : Type 0} (g : Grammar Word X) (ts : List Word) (x : X) → g ts ≡ read x [] → whole g ts ≡ read x []
whole_is g ts x e = ap (λ o. then_read o (λ y us. which (some_words us) (stuck us) (read y us))) e
