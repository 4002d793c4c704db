-- The list of terms that serves for a whole row of hypotheses.
use Rattle.std.proofs.Common.{◌≡◌, ℕ, ◌+◌, ◌<◌, ◌≤◌, List, [], ◌∷◌, ◌++◌, length, map, get_or, set, drop, IsTrue, suc, inl, inr, refl, sym, ap, subst, ◌∙◌, append_assoc, append-nil, arith}
use Rattle.std.specs.Prelude.{if◌then◌else◌}
use Rattle.std.proofs.Math.ListN.{drop_of_length-le}
use Rattle.std.proofs.Math.Seq.{set-append_seam}
use Rattle.std.proofs.lemmas.Bool.{cases_lt}
use Rattle.std.proofs.lemmas.Grind.{common_steps}
use Rattle.std.proofs.lemmas.List.{length-map, length-append, map-append}
use Rattle.mp_logic.specs.declared.sym.Sym.{Sym}
use Rattle.mp_term.specs.declared.term.Term.{Term, Var}
use Rattle.mp_term.specs.Terms.{in_scope_of}
use Rattle.mp_term.specs.Limits.{in_scopes_from}
use Rattle.mp_term.specs.Subst.{variables, sub_of, occurs_in, upto}
use Rattle.mp_term.proofs.Laws.{substitution_of_variables}
use Rattle.mp_term.proofs.Ranges.{upto-next}
use Rattle.mp_term.proofs.SubLaws.{drop-at, length-variables, variables-append}
use Rattle.mp_schema.specs.declared.pattern.Pattern.{Pattern}
use Rattle.mp_schema.specs.Sequents.{Instance, Spot, ground_at, wide_of, telescope}
use Rattle.mp_schema.proofs.Rows.{wide-ground}
use Rattle.mp_build.specs.Sites.{IsRowBuildable, AreArgsSet, args_at, used_terms, made_at, the_blank, kept_at}
use Rattle.mp_build.proofs.Agreeing.{used-sub}
use Rattle.mp_build.proofs.Rows.{row-terms}

module _ (v : Instance) (l : Spot) (base : ℕ) (t : Term) (m : ℕ) where
  pub used-length : (level : ℕ) (args : List Pattern) → length (used_terms v l base t level args m) ≡ length args
  used-length level [] = refl
  used-length level (a ∷ args) = ap suc (used-length (level + 1) args)

  module _ (level : ℕ) (args : List Pattern) where
    -- the first k arguments are set
    pub record SetSoFar (fore back now : List Term) (k : ℕ) : Type 0 where
      pub done : List Term
      pub left : List Term
      pub now_is : now ≡ fore ++ done ++ left ++ back
      pub done_count : length done ≡ k
      pub left_count : length left + k ≡ length args
      pub made : done ++ used_terms v l base t (level + k) (drop k args) m ≡ used_terms v l base t level args m

    pub record Setting (old now : List Term) (k : ℕ) : Type 0 where
      pub count : length now ≡ length old
      pub so_far : (fore places back : List Term) → old ≡ fore ++ places ++ back → length fore ≡ level → length places ≡ length args → SetSoFar fore back now k

    pub Setting-first : (old : List Term) → Setting old old 0
    Setting-first old = record {
      count = refl;
      so_far = λ fore places back is before many.
          let e : level + 0 ≡ level = omega arith in
          record { done = []; left = places; now_is = is ∙ ap (λ xs. xs ++ places ++ back) (sym (append-nil fore)); done_count = refl; left_count = omega (arith, many); made = rw e refl };
    }

    next_so_far : (fore back now : List Term) (k : ℕ) (a : Pattern) (x : Term) → k < length args → a ≡ get_or args k a →
        x ≡ (if occurs_in (level + k) t then made_at v l base a m else the_blank) → length fore ≡ level → SetSoFar fore back now k → SetSoFar fore back (set now (level + k) x) (k + 1)
    next_so_far fore back now k a x low is new before s = go s.left s.now_is s.left_count where
      go : (left : List Term) → now ≡ fore ++ s.done ++ left ++ back → length left + k ≡ length args → SetSoFar fore back (set now (level + k) x) (k + 1)
      go [] now_is many = absurd (omega (arith, many))
      go (y ∷ left) now_is many =
          let front : length (fore ++ s.done) ≡ level + k = let both = length-append fore s.done in let d = s.done_count in omega (arith, both, before, d) in
          let now_is' : now ≡ (fore ++ s.done) ++ (y ∷ (left ++ back)) = now_is ∙ append_assoc (fore ++ s.done) (y ∷ left) back in
          let put : set now (level + k) x ≡ (fore ++ s.done) ++ (x ∷ (left ++ back)) =
          rw now_is' (ap (λ i. set ((fore ++ s.done) ++ (y ∷ (left ++ back))) i x) (sym front) ∙ set-append_seam (fore ++ s.done) y (left ++ back) x) in
          let next = drop-at args k a low is in
          let made = rw next at s.made in
          let e : level + k + 1 ≡ level + (k + 1) = omega arith in
          let made' : s.done ++ x ∷ used_terms v l base t (level + (k + 1)) (drop (k + 1) args) m ≡ used_terms v l base t level args m = rw (new, ← e) made in
          let longer = length-append s.done (x ∷ []) in
          let d = s.done_count in
          record {
            done = s.done ++ x ∷ [];
            left = left;
            now_is = put ∙ sym (append_assoc (fore ++ s.done) (x ∷ []) (left ++ back)) ∙ ap (λ xs. xs ++ (left ++ back)) (append_assoc fore s.done (x ∷ []))
                ∙ sym (append_assoc (fore ++ (s.done ++ x ∷ [])) left back);
            done_count = omega (arith, longer, d);
            left_count = omega (arith, many);
            made = append_assoc s.done (x ∷ []) (used_terms v l base t (level + (k + 1)) (drop (k + 1) args) m) ∙ made';
          }

    pub Setting-next : (old now new : List Term) (k : ℕ) (a : Pattern) (x : Term) → k < length args → a ≡ get_or args k a →
        x ≡ (if occurs_in (level + k) t then made_at v l base a m else the_blank) → new ≡ set now (level + k) x → length new ≡ length now → Setting old now k → Setting old new (k + 1)
    Setting-next old now new k a x low is made put many s = record {
      count = many ∙ s.count;
      so_far = λ fore places back whole before slots. rw put (next_so_far fore back now k a x low is made before (s.so_far fore places back whole before slots));
    }

    end_so_far : (fore back now : List Term) (k : ℕ) → length args ≤ k → SetSoFar fore back now k → now ≡ fore ++ used_terms v l base t level args m ++ back
    end_so_far fore back now k past s = go s.left s.now_is s.left_count where
      go : (left : List Term) → now ≡ fore ++ s.done ++ left ++ back → length left + k ≡ length args → now ≡ fore ++ used_terms v l base t level args m ++ back
      go [] now_is many =
          let none = drop_of_length-le args past in
          let made = rw none at s.made in
          let all : s.done ≡ used_terms v l base t level args m = sym (append-nil s.done) ∙ made in
          now_is ∙ ap (λ xs. xs ++ back) (append-nil (fore ++ s.done)) ∙ ap (λ xs. fore ++ xs ++ back) all
      go (y ∷ left) now_is many = absurd (omega (arith, many, past))

    pub Setting-end : (old now : List Term) (k : ℕ) → length args ≤ k → Setting old now k → AreArgsSet (used_terms v l base t level args m) level old now
    Setting-end old now k past s fore places back whole before slots =
        end_so_far fore back now k past (s.so_far fore places back whole before (slots ∙ used-length level args))

module _ (v : Instance) (l : Spot) (cs : List Sym) (args : List Pattern) where
  abbrev fore : List Term
  fore = map Var (ground_at v l.pos cs)

  -- the list for hypothesis j: the variables before the arguments, a place for each argument, and the row's own variables
  pub record IsRowList (j : ℕ) (terms : List Term) : Type 0 where
    pub places : List Term
    pub count : length places ≡ length args
    pub same : terms ≡ fore ++ places ++ map Var (upto l.next j)

  pub fore-count : length fore ≡ wide_of v cs
  fore-count = length-map (ground_at v l.pos cs) Var ∙ wide-ground v l.pos cs

  module _ (j : ℕ) (t : Term) where
    abbrev used : List Term
    used = used_terms v l (l.next + j) t (wide_of v cs) args (l.next + j)

    pub row-set : (first : ℕ) (old new : List Term) → first ≡ wide_of v cs → IsRowList j old →
        AreArgsSet (used_terms v l (l.next + j) t first args (l.next + j)) first old new → new ≡ fore ++ used ++ map Var (upto l.next j)
    row-set first old new is list put =
        rw is at (put fore list.places (map Var (upto l.next j)) list.same (fore-count ∙ sym is) (list.count ∙ sym (used-length v l (l.next + j) t (l.next + j) first args)))

    pub row-made : (terms : List Term) → terms ≡ fore ++ used ++ map Var (upto l.next j) → sub_of t terms (l.next + j) ≡ kept_at v l cs args j t
    row-made terms is =
        let own : List Term = map Var (upto l.next j) in
        let every : List Term = fore ++ args_at v l (l.next + j) args (l.next + j) ++ own in
        ap (λ ts. sub_of t ts (l.next + j)) is ∙ used-sub v l (l.next + j) t cs args own (l.next + j) ∙ ap (λ ts. sub_of t ts (l.next + j)) (row-terms v l cs args j every refl)

    pub row-longer : (terms more : List Term) → terms ≡ fore ++ used ++ map Var (upto l.next j) → more ≡ terms ++ Var (l.next + j) ∷ [] → IsRowList (j + 1) more
    row-longer terms more is pushed = record {
      places = used;
      count = used-length v l (l.next + j) t (l.next + j) (wide_of v cs) args;
      same = pushed ∙ ap (λ xs. xs ++ Var (l.next + j) ∷ []) is ∙ append_assoc (fore ++ used) (map Var (upto l.next j)) (Var (l.next + j) ∷ [])
          ∙ ap (λ xs. fore ++ used ++ xs) (sym (ap (map Var) (upto-next l.next j) ∙ map-append Var (upto l.next j) ((l.next + j) ∷ [])));
    }

  -- ## Rows in which nothing moves

  same_from : (ts : List Term) (j : ℕ) → fore ≡ variables 0 l.next → IsTrue (in_scopes_from (l.next + j) ts) → telescope v l cs [] l.next j ts ≡ ts
  same_from [] j is scoped = refl
  same_from (t ∷ ts) j is scoped =
      let here : IsTrue (in_scope_of t (l.next + j)) = grind (arith, common_steps, scoped) in
      let rest : IsTrue (in_scopes_from (l.next + j + 1) ts) = grind (arith, common_steps, scoped) in
      let e : l.next + j + 1 ≡ l.next + suc j = omega arith in
      let none : 0 + l.next ≡ l.next = omega arith in
      let whole = rw none at (variables-append 0 l.next j) in
      let terms : fore ++ [] ++ variables l.next j ≡ variables 0 (l.next + j) = ap (λ xs. xs ++ variables l.next j) (append-nil fore ∙ is) ∙ whole in
      let first = ap (λ xs. sub_of t xs (l.next + j)) terms ∙ substitution_of_variables t (l.next + j) here in
      let others = same_from ts (suc j) is (rw e at rest) in
      ap (λ x. x ∷ telescope v l cs [] l.next (suc j) ts) first ∙ ap (λ xs. t ∷ xs) others

  pub row-shared : (ts : List Term) → length args ≡ 0 → fore ≡ variables 0 l.next → IsRowBuildable v l cs args 0 ts → telescope v l cs args l.next 0 ts ≡ ts
  row-shared ts none is r = go args none r.scoped where
    go : (ps : List Pattern) → length ps ≡ 0 → IsTrue (in_scopes_from (wide_of v cs + length ps + 0) ts) → telescope v l cs ps l.next 0 ts ≡ ts
    go [] e scoped =
        let many : wide_of v cs ≡ l.next = sym fore-count ∙ ap length is ∙ length-variables 0 l.next in
        let e' : wide_of v cs + 0 + 0 ≡ l.next + 0 = omega (arith, many) in
        same_from ts 0 is (subst (λ n. IsTrue (in_scopes_from n ts)) e' scoped)
    go (p ∷ ps) e scoped = absurd (omega arith)

-- ## Terms that are the variables

pub all_variables : (ts : List Term) (m : ℕ) → ((k : ℕ) → k < length ts → get_or ts k (Var 0) ≡ Var (m + k)) → ts ≡ variables m (length ts)
all_variables [] m h = refl
all_variables (t ∷ ts) m h =
    let e : m + 0 ≡ m = omega arith in
    let here : t ≡ Var m = h 0 (omega arith) ∙ ap Var e in
    let rest = all_variables ts (suc m) (λ k low. let e' : m + suc k ≡ suc m + k = omega arith in h (suc k) (omega arith) ∙ ap Var e') in
    ap (λ x. x ∷ ts) here ∙ ap (λ xs. Var m ∷ xs) rest

pub variable_next : (ts : List Term) (i : ℕ) (t : Term) → i < length ts → t ≡ get_or ts i t → t ≡ Var i → ((k : ℕ) → k < i → get_or ts k (Var 0) ≡ Var k) →
    (k : ℕ) → k < i + 1 → get_or ts k (Var 0) ≡ Var k
variable_next ts i t low is var before k h = elim (cases_lt k i) [
  | inl less ↦ before k less
  | inr more ↦
      let same : k ≡ i = omega arith in
      let item : get_or ts i (Var 0) ≡ get_or ts i t = grind (arith, common_steps) in
      subst (λ n. get_or ts n (Var 0) ≡ Var n) (sym same) (item ∙ sym is ∙ var)
]

pub all_same : (ts : List Term) (i n : ℕ) → length ts ≡ n → length ts ≤ i → ((k : ℕ) → k < i → get_or ts k (Var 0) ≡ Var k) → ts ≡ variables 0 n
all_same ts i n many past h =
    all_variables ts 0 (λ k low. let e : 0 + k ≡ k = omega arith in h k (omega arith) ∙ ap Var (sym e)) ∙ ap (variables 0) many

-- to put variables for themselves changes nothing
pub sub-same : (t : Term) (terms : List Term) (m : ℕ) → terms ≡ variables 0 m → IsTrue (in_scope_of t (length terms)) → sub_of t terms m ≡ t
sub-same t terms m is scoped =
    let many : length terms ≡ m = ap length is ∙ length-variables 0 m in
    ap (λ xs. sub_of t xs m) is ∙ substitution_of_variables t m (subst (λ n. IsTrue (in_scope_of t n)) many scoped)
