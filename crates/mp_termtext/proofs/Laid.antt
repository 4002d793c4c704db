-- Words that are laid at some places.
use Rattle.std.proofs.Common.{◌≡◌, ◌≤◌, ◌++◌, ℕ, suc, List, [], ◌∷◌, Bool, true, false, nat_eq, if◌then◌else◌, length, map, refl, ap, ◌∙◌, arith}
use Rattle.std.proofs.lemmas.Bool.Decides.{nat_tests}
use Rattle.mp_words.specs.declared.word.What.{What}
use Rattle.mp_words.specs.declared.word.Word.{Word}

-- words that are these, each at the place for as many as are left there
abbrev pub laid_at : (ℕ → ℕ) → (ℕ → Bool) → List What → List Word
laid_at at opens [] = []
laid_at at opens (w ∷ ws) = record { at = at (length (w ∷ ws)); opens_line = opens (length (w ∷ ws)); what = w } ∷ laid_at at opens ws

-- what the words are
abbrev pub whats : List Word → List What
whats ws = map (λ w. w.what) ws

-- what is known of the word where so many are left, or else this
abbrev pub at_left : {A : Type 0} → (Word → A) → A → List Word → ℕ → A
at_left of none [] n = none
at_left of none (w ∷ ws) n = if nat_eq n (length (w ∷ ws)) then of w else at_left of none ws n

-- these tell of each word what is known of it
abbrev Tells : {A : Type 0} → (Word → A) → (ℕ → A) → List Word → Type 0
Tells of f [] = Unit {0}
Tells of f (w ∷ ws) = (f (length (w ∷ ws)) ≡ of w) × Tells of f ws

module _ {A : Type 0} (of : Word → A) (none : A) where
  tells_more : (f g : ℕ → A) (ws : List Word) → ((n : ℕ) → n ≤ length ws → g n ≡ f n) → Tells of f ws → Tells of g ws
  tells_more f g [] e h = tt
  tells_more f g (w ∷ ws) e h = (e (length (w ∷ ws)) (omega arith) ∙ h.0, tells_more f g ws (λ n l. e n (omega (arith, l))) h.1)

  one_less : (w : Word) (ws : List Word) (n : ℕ) → n ≤ length ws → at_left of none (w ∷ ws) n ≡ at_left of none ws n
  one_less w ws n l = let e : nat_eq n (length (w ∷ ws)) ≡ false = grind (arith, nat_tests, l) in ap (λ b. if b then of w else at_left of none ws n) e

  told : (ws : List Word) → Tells of (at_left of none ws) ws
  told [] = tt
  told (w ∷ ws) =
      let e : nat_eq (length (w ∷ ws)) (length (w ∷ ws)) ≡ true = grind (arith, nat_tests) in
      (ap (λ b. if b then of w else at_left of none ws (length (w ∷ ws))) e, tells_more (at_left of none ws) (at_left of none (w ∷ ws)) ws (one_less w ws) (told ws))

length-whats : (ws : List Word) → length (whats ws) ≡ length ws
length-whats [] = refl
length-whats (w ∷ ws) = ap suc (length-whats ws)

laid_by : (at : ℕ → ℕ) (opens : ℕ → Bool) (ws : List Word) → Tells (λ w. w.at) at ws → Tells (λ w. w.opens_line) opens ws → laid_at at opens (whats ws) ≡ ws
laid_by at opens [] h k = refl
laid_by at opens (w ∷ ws) h k =
    let e : length (w.what ∷ whats ws) ≡ length (w ∷ ws) = ap suc (length-whats ws) in
    let place : at (length (w.what ∷ whats ws)) ≡ w.at = ap at e ∙ h.0 in
    let line : opens (length (w.what ∷ whats ws)) ≡ w.opens_line = ap opens e ∙ k.0 in
    let rest = laid_by at opens ws h.1 k.1 in
    (λ i. record { at = place i; opens_line = line i; what = w.what } ∷ rest i)

-- all words are laid at their places
pub laid_again : (ws : List Word) → laid_at (at_left (λ w. w.at) 0 ws) (at_left (λ w. w.opens_line) false ws) (whats ws) ≡ ws
laid_again ws = laid_by (at_left (λ w. w.at) 0 ws) (at_left (λ w. w.opens_line) false ws) ws (told (λ w. w.at) 0 ws) (told (λ w. w.opens_line) false ws)

tells_rest : {A : Type 0} (of : Word → A) (f : ℕ → A) (ws rest : List Word) → Tells of f (ws ++ rest) → Tells of f rest
tells_rest of f [] rest h = h
tells_rest of f (w ∷ ws) rest h = tells_rest of f ws rest h.1

-- words that follow others are laid at their places among all
pub laid_rest : (ws rest : List Word) → laid_at (at_left (λ w. w.at) 0 (ws ++ rest)) (at_left (λ w. w.opens_line) false (ws ++ rest)) (whats rest) ≡ rest
laid_rest ws rest =
    let all = ws ++ rest in
    laid_by (at_left (λ w. w.at) 0 all) (at_left (λ w. w.opens_line) false all) rest (tells_rest (λ w. w.at) (at_left (λ w. w.at) 0 all) ws rest (told (λ w. w.at) 0 all))
    (tells_rest (λ w. w.opens_line) (at_left (λ w. w.opens_line) false all) ws rest (told (λ w. w.opens_line) false all))
