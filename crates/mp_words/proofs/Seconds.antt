-- A second one of its name, from one item to the next.
use Rattle.std.proofs.Common.{◌≡◌, ◌++◌, ◌+◌, ◌<◌, ℕ, List, [], ◌∷◌, Option, drop, take, map, length, get_or, ap, sym, ◌∙◌}
use Rattle.mp_logic.specs.declared.sym.Sym.{Sym}
use Rattle.mp_names.specs.Sets.{Met, is_among, is_met, with_met}
use Rattle.mp_words.specs.declared.fail.TextErr.{TextErr}
use Rattle.mp_words.specs.declared.fail.TextWhy.{TextWhy}
use Rattle.mp_words.specs.declared.raw.RawName.{RawName}
use Rattle.mp_words.specs.Faults.{fault_if, least_from}
use Rattle.mp_words.specs.Seconds.{second_after}
use Rattle.mp_words.proofs.MetWalks.{met_next, names_next}
use Rattle.mp_words.proofs.Soonest.{least_from_append}
use Rattle.mp_words.proofs.Walks.{left_cons}

module _ {X : Type 0} (name : X → RawName) (why : TextWhy) (xs : List X) where
  -- the names of the first items
  abbrev pub first_names : ℕ → List Sym
  first_names i = map (λ x. (name x).name) (take i xs)

  -- the faults that are left, behind the one that is held, are all; the names of the first items were met
  pub record SecondsLeft (held whole : Option TextErr) (seen : List ℕ) (i : ℕ) : Type 0 where
    pub left : least_from held (second_after name why (first_names i) (drop i xs)) ≡ whole
    pub met : Met seen (first_names i)

  pub seconds_next : (held next whole : Option TextErr) (seen after : List ℕ) (i : ℕ) (x : X) → i < length xs → x ≡ get_or xs i x → SecondsLeft held whole seen i → after ≡ with_met seen (name x).name.0
      → next ≡ least_from held (fault_if (is_met seen (name x).name.0) (name x).at why) → SecondsLeft next whole after (i + 1)
  seconds_next held next whole seen after i x lt is h e n =
      let known : is_met seen (name x).name.0 ≡ is_among (first_names i) (name x).name = h.met (name x).name in
      let here = fault_if (is_among (first_names i) (name x).name) (name x).at why in
      let rest = second_after name why (first_names i ++ (name x).name ∷ []) (drop (i + 1) xs) in
      record {
        left = ap (λ ns. least_from next (second_after name why ns (drop (i + 1) xs))) (names_next (λ y. (name y).name) xs i x lt is)
            ∙ ap (λ o. least_from o rest) (n ∙ ap (λ b. least_from held (fault_if b (name x).at why)) known)
            ∙ sym (least_from_append held here rest)
            ∙ ap (λ ys. least_from held (second_after name why (first_names i) ys)) (sym (left_cons xs i x lt is)) ∙ h.left;
        met = met_next (λ y. (name y).name) xs i x lt is [] seen after h.met e;
      }
