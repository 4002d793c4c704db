-- Grammars over words, as functions: what is read at the front and what is left, or where a reading is stuck.
use Rattle.std.specs.Prelude.{◌≡◌, ◌++◌, ℕ, zero, suc, ◌<◌, ◌≤◌, List, [], ◌∷◌, length, drop, Bool, true, false, Option, None, Some}

-- what a grammar gives at some words: a value is read, and these words are left; or the reading is stuck at the first of these words, or at
-- their end if there are none
pub data Parse (W X : Type 0) : Type 0 where
  read : X → List W → Parse W X
  stuck : List W → Parse W X

-- a grammar tells of any words what is read at their front, or where a reading is stuck; it is a function, so it tells one of the two
abbrev pub Grammar : Type 0 → Type 0 → Type 0
Grammar W X = List W → Parse W X

-- this value is read at the front of the words, and these are left
abbrev pub Is : {W X : Type 0} → Grammar W X → X → List W → List W → Type 0
Is g x ts rest = g ts ≡ read x rest

-- a reading of the words is stuck at the first of these, or at their end
abbrev pub Stuck : {W X : Type 0} → Grammar W X → List W → List W → Type 0
Stuck g ts rest = g ts ≡ stuck rest

-- how a reading goes on behind what is read; where it is stuck, it stays so
abbrev pub then_read : {W X Y : Type 0} → Parse W X → (X → List W → Parse W Y) → Parse W Y
then_read (read x us) next = next x us
then_read (stuck us) next = stuck us

-- there is a value
abbrev pub is_some : {X : Type 0} → Option X → Bool
is_some None = false
is_some (Some x) = true

-- one of two, by a test
abbrev pub which : {A : Type 0} → Bool → A → A → A
which true a b = a
which false a b = b

-- the test of the word in front; it fails where there are no words
abbrev pub fronted : {W : Type 0} → (W → Bool) → List W → Bool
fronted test [] = false
fronted test (w ∷ ws) = test w

-- there are words
abbrev pub some_words : {W : Type 0} → List W → Bool
some_words [] = false
some_words (w ∷ ws) = true

-- the value of the word in front, if it has one
abbrev pub taken : {W X : Type 0} → (W → Option X) → List W → Option X
taken of [] = None
taken of (w ∷ ws) = of w

-- the word in front has a value
abbrev pub stands : {W X : Type 0} → (W → Option X) → List W → Bool
stands of [] = false
stands of (w ∷ ws) = is_some (of w)

-- the value of the word in front, or another outcome if it has none
abbrev pub word_or : {W X : Type 0} → Option X → List W → Parse W X → Parse W X
word_or None ts other = other
word_or (Some x) ts other = read x (drop 1 ts)

-- one word that has a value
abbrev pub token : {W X : Type 0} → (W → Option X) → Grammar W X
token of ts = word_or (taken of ts) ts (stuck ts)

-- one word that has a value, and else the part
abbrev pub or_word : {W X : Type 0} → (W → Option X) → Grammar W X → Grammar W X
or_word of g ts = word_or (taken of ts) ts (g ts)

-- this value, for which nothing is read
abbrev pub nothing : {W X : Type 0} → X → Grammar W X
nothing x ts = read x ts

-- never read, and stuck at once
abbrev pub nowhere : {W X : Type 0} → Grammar W X
nowhere ts = stuck ts

-- the next words tell which of the two is read
abbrev pub choose : {W X : Type 0} → (List W → Bool) → Grammar W X → Grammar W X → Grammar W X
choose begins g h ts = which (begins ts) (g ts) (h ts)

-- the part behind the word in front
abbrev pub skip : {W X : Type 0} → Grammar W X → Grammar W X
skip g ts = g (drop 1 ts)

-- the part behind a word that passes the test, if that stands in front; and else another
abbrev pub form : {W X : Type 0} → (W → Bool) → Grammar W X → Grammar W X → Grammar W X
form test g h = choose (fronted test) (skip g) h

-- the part behind the first of these words that stands in front
abbrev pub forms : {W X : Type 0} → List ((W → Bool) × Grammar W X) → Grammar W X
forms [] = nowhere
forms ((test, g) ∷ others) = form test g (forms others)

-- one word that passes the test, and then the part
abbrev pub after : {W X : Type 0} → (W → Bool) → Grammar W X → Grammar W X
after test g = form test g nowhere

-- the part behind a word that passes the test, if that stands in front; and else this value, for which nothing is read
abbrev pub optional : {W X : Type 0} → (W → Bool) → X → Grammar W X → Grammar W X
optional test none g = form test g (nothing none)

-- the part, with something made of its value
abbrev pub made : {W X Y : Type 0} → (X → Y) → Grammar W X → Grammar W Y
made make g ts = then_read (g ts) (λ x us. read (make x) us)

-- two values, as one
abbrev pub pair : {X Y : Type 0} → X → Y → X × Y
pair x y = (x, y)

-- first the one, then the other
abbrev pub both : {W X Y : Type 0} → Grammar W X → Grammar W Y → Grammar W (X × Y)
both g h ts = then_read (g ts) (λ x us. then_read (h us) (λ y vs. read (pair x y) vs))

-- the part, and then a word that passes the test
abbrev pub ended : {W X : Type 0} → Grammar W X → (W → Bool) → Grammar W X
ended g test ts = then_read (g ts) (λ x us. which (fronted test us) (read x (drop 1 us)) (stuck us))

-- a value that may be there
abbrev pub some_of : {X : Type 0} → Option X → Option (Option X)
some_of None = None
some_of (Some x) = Some (Some x)

-- one word that has a value, if it stands in front; this is never stuck
abbrev pub if_there : {W X : Type 0} → (W → Option X) → Grammar W (Option X)
if_there of = or_word (λ w. some_of (of w)) (nothing None)

-- so many levels of a grammar that speaks of itself
abbrev pub levels : {W X : Type 0} → (Grammar W X → Grammar W X) → ℕ → Grammar W X
levels step zero = nowhere
levels step (suc n) = step (levels step n)

-- a grammar that speaks of itself: on shorter words each time, so that as many levels as there are words, and one more, are enough
abbrev pub itself : {W X : Type 0} → (Grammar W X → Grammar W X) → Grammar W X
itself step ts = levels step (suc (length ts)) ts

-- an item and the others, as one list
abbrev pub put : {X : Type 0} → X × List X → List X
put p = p.0 ∷ p.1

-- an item, and then the end of the row, or a separator and the others
abbrev pub row_step : {W X : Type 0} → Grammar W X → (W → Bool) → (W → Bool) → Grammar W (List X) → Grammar W (List X)
row_step g sep end others = made put (both g (choose (fronted end) (skip (nothing [])) (after sep others)))

-- the part once or more, with a separator between, and then the end
abbrev pub row : {W X : Type 0} → Grammar W X → (W → Bool) → (W → Bool) → Grammar W (List X)
row g sep end = itself (row_step g sep end)

-- the end at once, or the part once or more with a separator between, and then the end
abbrev pub listed : {W X : Type 0} → Grammar W X → (W → Bool) → (W → Bool) → Grammar W (List X)
listed g sep end = choose (fronted end) (skip (nothing [])) (row g sep end)

-- an item, and then the others if a separator stands behind it
abbrev pub chain_step : {W X : Type 0} → Grammar W X → (W → Bool) → Grammar W (List X) → Grammar W (List X)
chain_step g sep others = made put (both g (optional sep [] others))

-- the part, and again as long as a separator stands behind it
abbrev pub chain : {W X : Type 0} → Grammar W X → (W → Bool) → Grammar W (List X)
chain g sep = itself (chain_step g sep)

-- an item and the others, as long as the words in front begin one
abbrev pub repeated_step : {W X : Type 0} → (List W → Bool) → Grammar W X → Grammar W (List X) → Grammar W (List X)
repeated_step begins g others = choose begins (made put (both g others)) (nothing [])

-- the part again and again, as long as the words in front begin it
abbrev pub repeated : {W X : Type 0} → (List W → Bool) → Grammar W X → Grammar W (List X)
repeated begins g = itself (repeated_step begins g)

-- the part again and again, up to the end of the words
abbrev pub many : {W X : Type 0} → Grammar W X → Grammar W (List X)
many g = repeated some_words g

-- the part, and nothing is left
abbrev pub whole : {W X : Type 0} → Grammar W X → Grammar W X
whole g ts = then_read (g ts) (λ x us. which (some_words us) (stuck us) (read x us))

-- of what is left after a reading, and of how many words there were, this holds
abbrev pub leaves : {W X : Type 0} → (ℕ → ℕ → Type 0) → ℕ → Parse W X → Type 0
leaves than n (read x us) = than (length us) n
leaves than n (stuck us) = Unit {0}

-- a reading takes one word at least
abbrev pub Shrinks : {W X : Type 0} → Grammar W X → Type 0
Shrinks {W} g = (ts : List W) → leaves (λ m n. m < n) (length ts) (g ts)

-- a reading leaves no more words than there were
abbrev pub Keeps : {W X : Type 0} → Grammar W X → Type 0
Keeps {W} g = (ts : List W) → leaves (λ m n. m ≤ n) (length ts) (g ts)

-- two grammars agree on fewer words than n
abbrev pub Agree : {W X : Type 0} → ℕ → Grammar W X → Grammar W X → Type 0
Agree {W} n g h = (ts : List W) → length ts < n → g ts ≡ h ts

-- a step that takes a word, and asks the grammar that it is given on fewer words only
pub record Local {W X : Type 0} (step : (List W → Parse W X) → List W → Parse W X) : Type 0 where
  pub shrinks : (g : Grammar W X) → Shrinks g → Shrinks (step g)
  pub agrees : (n : ℕ) (g h : Grammar W X) → Shrinks g → Agree n g h → Agree (suc n) (step g) (step h)

-- an outcome with these items in front of its own
abbrev pub joined : {W X : Type 0} → List X → Parse W (List X) → Parse W (List X)
joined items o = then_read o (λ xs us. read (items ++ xs) us)
