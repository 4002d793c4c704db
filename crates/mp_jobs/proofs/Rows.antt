-- What an entry gives, by what the entries of the whole table give.
use Rattle.std.proofs.Common.{◌≡◌, ℕ, zero, suc, ◌+◌, ◌-◌, ◌<◌, ◌≤◌, Bool, true, false, List, [], ◌∷◌, length, drop, Some, refl, sym, ap, subst, ◌∙◌, arith}
use Rattle.std.specs.Prelude.{slice_get}
use Rattle.std.specs.List.{AllByRecursion}
use Rattle.mp_logic.specs.declared.tree.Tree.{Tree}
use Rattle.mp_logic.specs.Meaning.{Meaning}
use Rattle.mp_logic.specs.Trees.{LeafAt, leaves_of}
use Rattle.mp_strategy.specs.declared.tactic.Tac.{Tac}
use Rattle.mp_strategy.specs.declared.tactic.Tac.TheVariants as tac
use Rattle.mp_strategy.specs.declared.tactic.TacId.{TacId}
use Rattle.mp_strategy.specs.Fits.{parts_of, places}
use Rattle.mp_strategy.specs.Strategies.{Given, Gives, Listed, as_many, RepeatGives, left_of, progressed, completed, Row, EvalsIn}
use Rattle.mp_strategy.proofs.Unfolds.{IsBehind, is_later}
use Rattle.mp_jobs.proofs.Less.{IsLess, all_less, race_less, pairs_same, pairs_zip, less_same, else_less, onward_less, leaves_less, repeat_step_less}

pub get_later : (k : ℕ) (ts : List Tac) (c : ℕ) → k ≤ c → slice_get (drop k ts) (c - k) ≡ slice_get ts c
get_later zero ts c le = let e : c - 0 ≡ c = omega arith in ap (slice_get ts) e
get_later (suc k) [] c le = refl
get_later (suc k) (t ∷ ts) zero le = absurd (omega arith)
get_later (suc k) (t ∷ ts) (suc c) le =
    let e : suc c - suc k ≡ c - k = omega arith in ap (slice_get (drop k ts)) e ∙ get_later k ts c (omega arith)

pub drop_at_get : (ts : List Tac) (i : ℕ) (t : Tac) → slice_get ts i ≡ Some t → drop i ts ≡ t ∷ drop (suc i) ts
drop_at_get [] i t e = absurd cc
drop_at_get (s ∷ ts) zero t e = let h : s ≡ t = cc in ap (λ s. s ∷ ts) h
drop_at_get (s ∷ ts) (suc i) t e = drop_at_get ts i t e

each_place : (ok : ℕ → Type 0) (bs : List TacId) → AllByRecursion ok (places bs) → AllByRecursion (λ (b : TacId). ok b.0) bs
each_place ok [] h = tt
each_place ok (b ∷ bs) h = (h.0, each_place ok bs h.1)

module _ {G : Type 0} (ok : ℕ → Type 0) (a b : ℕ → Gives G) (h : (c : ℕ) → ok c → (f : ℕ) (g : G) → IsLess (a c f g) (b c f g)) where
  repeat_less : (c n : ℕ) → ok c → (f : ℕ) (g : G) → IsLess (RepeatGives (a c) n f g) (RepeatGives (b c) n f g)
  repeat_less c zero k f g o x = x
  repeat_less c (suc n) k f g o x = repeat_step_less (a c f g) (b c f g) (RepeatGives (a c) n) (RepeatGives (b c) n) (h c k f g) (repeat_less c n k) f g o x

  listed_less : (c : Bool) (here : ℕ) (bs : List TacId) (f : ℕ) (g : G) (t : Tree G) → AllByRecursion (λ (b : TacId). ok b.0) bs → IsLess (Listed c a here bs f g t) (Listed c b here bs f g t)
  listed_less true here bs f g t k o x =
      all_less (λ (x : TacId × LeafAt G). a x.0.0 (f - x.1.depth) x.1.goal) (λ (x : TacId × LeafAt G). b x.0.0 (f - x.1.depth) x.1.goal) t _ _
      (pairs_zip (λ (b : TacId). ok b.0) _ (λ (x : TacId × LeafAt G) (y : ok x.0.0). h x.0.0 y (f - x.1.depth) x.1.goal) bs (leaves_of t) k) o x
  listed_less false here bs f g t k o x = x

module _ {G J : Type 0} (m : Meaning G J) (justs : List J) where
  -- what the entries of a table give by themselves
  abbrev Whole : List Tac → ℕ → Gives G
  Whole tacs c = EvalsIn m justs 0 tacs c (left_of (slice_get tacs c))

  -- a row asks only for the parts of its strategy
  pub row_less : (ok : ℕ → Type 0) (a b : ℕ → Gives G) → ((c : ℕ) → ok c → (f : ℕ) (g : G) → IsLess (a c f g) (b c f g)) → (t : Tac) (here left f : ℕ) (g : G) → AllByRecursion ok (parts_of t)
      → IsLess (Row m justs t here a left f g) (Row m justs t here b left f g)
  row_less ok a b h tac.Id here left f g k o x = x
  row_less ok a b h tac.Fail here left f g k o x = x
  row_less ok a b h (tac.Step j) here left f g k o x = x
  row_less ok a b h (tac.Then c d) here left f g k o x = onward_less (a c.0 f g) (b c.0 f g) _ _ (h c.0 k.0 f g) (leaves_less (a d.0) (b d.0) (h d.0 k.1.0) f) o x
  row_less ok a b h (tac.ThenL c bs) here left f g k o x = onward_less (a c.0 f g) (b c.0 f g) _ _ (h c.0 k.0 f g) (λ t. listed_less ok a b h (as_many bs t) here bs f g t (each_place ok bs k.1)) o x
  row_less ok a b h (tac.Else c d) here left f g k o x = else_less (a c.0 f g) (b c.0 f g) (a d.0 f g) (b d.0 f g) (h c.0 k.0 f g) (h d.0 k.1.0 f g) o x
  row_less ok a b h (tac.Race bs) here left f g k o x =
      race_less (λ (c : TacId). a c.0 f g) (λ (c : TacId). b c.0 f g) bs bs (pairs_same _ bs (each_under bs (each_place ok bs k))) o x where
        each_under : (bs : List TacId) → AllByRecursion (λ (b : TacId). ok b.0) bs → AllByRecursion (λ (c : TacId). IsLess (a c.0 f g) (b c.0 f g)) bs
        each_under [] k = tt
        each_under (c ∷ cs) k = (h c.0 k.0 f g, each_under cs k.1)
  row_less ok a b h (tac.Repeat n c) here left f g k o x = repeat_less ok a b h c.0 left k.0 f g o x
  row_less ok a b h (tac.Progress c) here left f g k o x =
      let on : Tree G → Given G = λ t p. p ≡ progressed m here g t in onward_less (a c.0 f g) (b c.0 f g) on on (h c.0 k.0 f g) (λ t. less_same (on t)) o x
  row_less ok a b h (tac.Complete c) here left f g k o x =
      let on : Tree G → Given G = λ t p. p ≡ completed here g t in onward_less (a c.0 f g) (b c.0 f g) on on (h c.0 k.0 f g) (λ t. less_same (on t)) o x

  abbrev In : ℕ → List Tac → ℕ → ℕ → Gives G
  In = EvalsIn m justs

  -- the entries before a place don't matter
  skips : (h k : ℕ) (ts : List Tac) (c left : ℕ) → k ≤ c → In h ts c left ≡ In (h + k) (drop k ts) (c - k) left
  skips h zero ts c left le =
      let P : ℕ → Gives G = λ n. In n ts c left in
      let Q : ℕ → Gives G = λ n. In (h + 0) ts n left in
      let e : h ≡ h + 0 = omega arith in let e' : c ≡ c - 0 = omega arith in ap P e ∙ ap Q e'
  skips h (suc k) [] c left le = refl
  skips h (suc k) (t ∷ ts) zero left le = absurd (omega arith)
  skips h (suc k) (t ∷ ts) (suc c) left le =
      let P : ℕ → Gives G = λ n. In n (drop k ts) (c - k) left in
      let Q : ℕ → Gives G = λ n. In (h + suc k) (drop k ts) n left in
      let e : h + 1 + k ≡ h + suc k = omega arith in let e' : c - k ≡ suc c - suc k = omega arith in
      skips (h + 1) k ts c left (omega arith) ∙ ap P e ∙ ap Q e'

  abbrev Rest : List Tac → ℕ → ℕ → Gives G
  Rest tacs i c = In (i + 1) (drop (suc i) tacs) (c - (i + 1)) (left_of (slice_get (drop (suc i) tacs) (c - (i + 1))))

  later : (tacs : List Tac) (i c : ℕ) → IsBehind i (length tacs) c → Rest tacs i c ≡ Whole tacs c
  later tacs i c behind =
      let rest : List Tac = drop (suc i) tacs in
      let a : i + 1 ≡ 0 + suc i = omega arith in
      let b : c - (i + 1) ≡ c - suc i = omega arith in
      let lt : i < c = is_later i (length tacs) c behind in
      let le : suc i ≤ c = omega (arith, lt) in
      let d : slice_get rest (c - (i + 1)) ≡ slice_get tacs c = ap (slice_get rest) b ∙ get_later (suc i) tacs c le in
      let moved : Rest tacs i c ≡ In (0 + suc i) rest (c - suc i) (left_of (slice_get tacs c)) = λ k. In (a k) rest (b k) (left_of (d k)) in
      moved ∙ sym (skips 0 (suc i) tacs c (left_of (slice_get tacs c)) le)

  here : (tacs : List Tac) (i left : ℕ) (t : Tac) → slice_get tacs i ≡ Some t → In 0 tacs i left ≡ Row m justs t i (Rest tacs i) left
  here tacs i left t e =
      let at : (n m : ℕ) → n ≡ i → m ≡ 0 → In n (drop i tacs) m left ≡ In i (t ∷ drop (suc i) tacs) 0 left = λ n m p q. λ k. In (p k) (drop_at_get tacs i t e k) (q k) left in
      skips 0 i tacs i left (omega arith) ∙ at (0 + i) (i - i) (omega arith) (omega arith)

  -- both ways
  pub to_row : (tacs : List Tac) (i left : ℕ) (t : Tac) (f : ℕ) (g : G) → slice_get tacs i ≡ Some t → AllByRecursion (IsBehind i (length tacs)) (parts_of t)
      → IsLess (In 0 tacs i left f g) (Row m justs t i (Whole tacs) left f g)
  to_row tacs i left t f g e parts o x =
      row_less (IsBehind i (length tacs)) (Rest tacs i) (Whole tacs) (λ c k f g o y. subst (λ (q : Gives G). q f g o) (later tacs i c k) y) t i left f g parts o
      (subst (λ (q : Gives G). q f g o) (here tacs i left t e) x)

  pub from_row : (tacs : List Tac) (i left : ℕ) (t : Tac) (f : ℕ) (g : G) → slice_get tacs i ≡ Some t → AllByRecursion (IsBehind i (length tacs)) (parts_of t)
      → IsLess (Row m justs t i (Whole tacs) left f g) (In 0 tacs i left f g)
  from_row tacs i left t f g e parts o x =
      subst (λ (q : Gives G). q f g o) (sym (here tacs i left t e))
      (row_less (IsBehind i (length tacs)) (Whole tacs) (Rest tacs i) (λ c k f g o y. subst (λ (q : Gives G). q f g o) (sym (later tacs i c k)) y) t i left f g parts o x)
