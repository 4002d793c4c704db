-- A text is compared with another one piece by piece.
use Rattle.std.proofs.Common.{◌≡◌, ◌+◌, ◌<◌, ◌≤◌, ◌++◌, ℕ, suc, List, [], ◌∷◌, length, drop, get_or, Option, None, Some, Bool, true, false, if◌then◌else◌, refl, ap, sym, ◌∙◌, true≢false, arith, drop-cons, add-one}
use Rattle.std.specs.Prelude.{nat_eq, nat_lt, ◌&&◌}
use Rattle.std.proofs.lemmas.Bool.{and_parts}
use Rattle.std.proofs.lemmas.Bool.Decides.{nat_tests}
use Rattle.std.proofs.lemmas.List.{drop_all}
use Rattle.mp_words.proofs.Walks.{left_cons}
use Rattle.mp_logic.specs.declared.sym.Sym.{Sym}
use Rattle.mp_theory.specs.Tables.{Laws}
use Rattle.mp_treetext.specs.declared.printed.Printed.{Printed}
use Rattle.mp_treetext.specs.Differences.{difference}
use Rattle.mp_treetext.specs.Printed.{trees_text, printed_text}

abbrev is_there : Option ℕ → Bool
is_there None = false
is_there (Some n) = true

-- texts that don't differ are one
pub same_text : (at : ℕ) (xs ys : List ℕ) → difference at xs ys ≡ None → xs ≡ ys
same_text at [] [] e = refl
same_text at (x ∷ xs) [] e = absurd (true≢false (ap is_there e))
same_text at [] (y ∷ ys) e = absurd (true≢false (ap is_there e))
same_text at (x ∷ xs) (y ∷ ys) e = by (nat_eq x y) refl e (same_text (at + 1) xs ys)
  where
    by : (b : Bool) → nat_eq x y ≡ b → (if b then difference (at + 1) xs ys else Some at) ≡ None → (difference (at + 1) xs ys ≡ None → xs ≡ ys) → x ∷ xs ≡ y ∷ ys
    by true h d k = let f : x ≡ y = grind (arith, nat_tests, h) in λ i. f i ∷ k d i
    by false h d k = absurd (true≢false (ap is_there d))

-- this byte stands here in the source
abbrev pub stands : List ℕ → ℕ → ℕ → Bool
stands source here b = nat_lt here (length source) && nat_eq (get_or source here 0) b

-- where this byte stands here, the comparison goes on after it
pub byte_same : (source : List ℕ) (here b : ℕ) (ys : List ℕ) → stands source here b ≡ true → difference here (drop here source) (b ∷ ys) ≡ difference (here + 1) (drop (here + 1) source) ys
byte_same source here b ys e =
    let both = and_parts (nat_lt here (length source)) (nat_eq (get_or source here 0) b) e in
    let lt : here < length source = grind (arith, nat_tests, both) in
    ap (λ xs. difference here xs (b ∷ ys)) (drop-cons source here 0 lt)
    ∙ ap (λ c. if c then difference (here + 1) (drop (suc here) source) ys else Some here) both.1
    ∙ ap (λ n. difference (here + 1) (drop n source) ys) (sym (add-one here))

-- where another byte stands here, or none, the texts differ here
pub byte_differs : (source : List ℕ) (here b : ℕ) (ys : List ℕ) → stands source here b ≡ false → difference here (drop here source) (b ∷ ys) ≡ Some here
byte_differs source here b ys e = by (nat_lt here (length source)) refl e
  where
    by : (c : Bool) → nat_lt here (length source) ≡ c → (c && nat_eq (get_or source here 0) b) ≡ false → difference here (drop here source) (b ∷ ys) ≡ Some here
    by true t f =
        let lt : here < length source = grind (arith, nat_tests, t) in
        ap (λ xs. difference here xs (b ∷ ys)) (drop-cons source here 0 lt) ∙ ap (λ c. if c then difference (here + 1) (drop (suc here) source) ys else Some here) f
    by false t f =
        let le : length source ≤ here = grind (arith, nat_tests, t) in
        ap (λ xs. difference here xs (b ∷ ys)) (drop_all here source le)

-- after the last byte of the wanted text, bytes that are left differ
pub bytes_left : (source : List ℕ) (at : ℕ) → at < length source → difference at (drop at source) [] ≡ Some at
bytes_left source at lt = ap (λ xs. difference at xs []) (drop-cons source at 0 lt)

-- the items from place i on are the item there and the rest
pub item_next : {X : Type 0} (xs : List X) (i : ℕ) (d : X) → i < length xs → drop i xs ≡ get_or xs i d ∷ drop (i + 1) xs
item_next xs i d lt = drop-cons xs i d lt ∙ ap (λ n. get_or xs i d ∷ drop n xs) (sym (add-one i))

-- the blocks from place i on are the block there and the rest
pub text_next : (names : List (List ℕ)) (t : Laws) (goals : List Sym) (ps : List Printed) (i : ℕ) (d : Sym) (p : Printed) → i < length goals → i < length ps → p ≡ get_or ps i p
    → trees_text names t (drop i goals) (drop i ps) ≡ printed_text names t (get_or goals i d) p ++ trees_text names t (drop (i + 1) goals) (drop (i + 1) ps)
text_next names t goals ps i d p lg lp pi =
    let a = item_next goals i d lg in
    let b = left_cons ps i p lp pi in
    λ j. trees_text names t (a j) (b j)

-- there are no blocks from the last place on
pub text_ends : (names : List (List ℕ)) (t : Laws) (goals : List Sym) (ps : List Printed) (i : ℕ) → length goals ≤ i → trees_text names t (drop i goals) (drop i ps) ≡ []
text_ends names t goals ps i le = ap (λ gs. trees_text names t gs (drop i ps)) (drop_all i goals le)
