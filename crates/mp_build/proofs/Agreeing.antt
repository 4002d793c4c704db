-- Terms that agree where a variable stands give the same substitution.
use Rattle.std.proofs.Common.{◌≡◌, ℕ, ◌+◌, ◌≤◌, List, [], ◌∷◌, ◌++◌, length, map, get_or, zero, suc, IsTrue, Bool, refl, ap, ◌∙◌, inl, inr, append-nil, arith}
use Rattle.std.proofs.lemmas.Bool.{cases_lt}
use Rattle.std.proofs.lemmas.List.{get_or_past, length-append, length-map}
use Rattle.mp_logic.specs.declared.sym.Sym.{Sym}
use Rattle.mp_term.specs.declared.term.Param.{Param}
use Rattle.mp_term.specs.declared.term.Term.{Term, Var, Op}
use Rattle.mp_term.specs.declared.term.Bound.{Bound}
use Rattle.mp_term.specs.Induction.{OfEachBody, each_term}
use Rattle.mp_term.specs.Subst.{occurs_in, any_true, under, sub_of, sub_bound_of, sub_each}
use Rattle.mp_term.proofs.Layers.{sub-Var, sub-Op, sub_bound-is, occurs_bound, occurs-Op}
use Rattle.mp_term.proofs.SubLaws.{under-under, under-low, under-high, under-none, length-under}
use Rattle.mp_schema.specs.declared.pattern.Pattern.{Pattern}
use Rattle.mp_schema.specs.declared.pattern.Pattern as pat
use Rattle.mp_schema.proofs.Layers.{inst-Meta}
use Rattle.mp_schema.specs.Sequents.{Instance, Spot, ground_at, wide_of}
use Rattle.mp_build.specs.Sites.{env_at, args_at, used_terms, made_at}
use Rattle.mp_schema.proofs.Rows.{wide-ground}
use Rattle.mp_build.proofs.Used.{stands_first, stands_later, stands_here}

abbrev pub AgreeingTerms : List Term → List Term → (ℕ → Bool) → Type 0
AgreeingTerms s s' stands = (i : ℕ) → IsTrue (stands i) → get_or s i (Var 0) ≡ get_or s' i (Var 0)

module _ (s s' : List Term) (m : ℕ) (long : length s ≡ length s') where
  abbrev IsSame : Term → Type 0
  IsSame t = (k : ℕ) → AgreeingTerms s s' (λ i. occurs_in i t) → sub_of t (under s m k) (m + k) ≡ sub_of t (under s' m k) (m + k)

  same_var : (i : ℕ) → IsSame (Var i)
  same_var i k agree = rw (sub-Var i (under s m k) (m + k), sub-Var i (under s' m k) (m + k)) (elim (cases_lt i (length s)) [
    | inl low ↦
        let left = under-low s m k i (Var i) (Var 0) low in
        let right = under-low s' m k i (Var i) (Var 0) (omega arith) in
        let item = agree i (stands_here i) in
        rw (left, right, item) refl
    | inr high ↦ elim (cases_lt i (length s + k)) [
      | inl inside ↦
          let left = under-high s m k i (Var i) high inside in
          let right = under-high s' m k i (Var i) (omega arith) (omega arith) in
          rw (left, right, long) refl
      | inr outside ↦
          let left = get_or_past (under s m k) i (Var i) (rw length-under outside) in
          let outside' : length s' + k ≤ i = omega arith in
          let right = get_or_past (under s' m k) i (Var i) (rw length-under outside') in
          rw (left, right) refl
    ]
  ])

  same_bounds : (bs : List Bound) (k : ℕ) → OfEachBody IsSame bs → AgreeingTerms s s' (λ i. any_true (map (occurs_bound i) bs)) →
      sub_each (map sub_bound_of bs) (under s m k) (m + k) ≡ sub_each (map sub_bound_of bs) (under s' m k) (m + k)
  same_bounds [] k h agree = refl
  same_bounds (b ∷ bs) k h agree =
      let e : m + k + b.binders ≡ m + (k + b.binders) = omega arith in
      let body = h.0 (k + b.binders) (λ i stands. agree i (stands_first i b bs stands)) in
      let first : sub_bound_of b (under s m k) (m + k) ≡ sub_bound_of b (under s' m k) (m + k) =
      rw (sub_bound-is b (under s m k) (m + k), sub_bound-is b (under s' m k) (m + k), under-under s m k b.binders, under-under s' m k b.binders, e, body) refl in
      let rest = same_bounds bs k h.1 (λ i stands. agree i (stands_later i b bs stands)) in rw (first, rest) refl

  same_op : (o : Sym) (ps : List Param) (bs : List Bound) → OfEachBody IsSame bs → IsSame (Op o ps bs)
  same_op o ps bs h k agree =
      let left = sub-Op (Op o ps bs) o ps bs (under s m k) (m + k) refl in
      let right = sub-Op (Op o ps bs) o ps bs (under s' m k) (m + k) refl in
      let row = same_bounds bs k h (λ i stands. agree i (rw (occurs-Op i o ps bs) stands)) in
      rw (left, right, row) refl

  same_under : (t : Term) → IsSame t
  same_under = each_term IsSame same_var same_op

  pub same_sub : (t : Term) → AgreeingTerms s s' (λ i. occurs_in i t) → sub_of t s m ≡ sub_of t s' m
  same_sub t agree =
      let e : m + 0 ≡ m = omega arith in
      rw (under-none, under-none, e) at (same_under t 0 agree)

agree_after : (fore xs ys : List Term) (stands : ℕ → Bool) → ((j : ℕ) → IsTrue (stands (length fore + j)) → get_or xs j (Var 0) ≡ get_or ys j (Var 0)) →
    AgreeingTerms (fore ++ xs) (fore ++ ys) stands
agree_after [] xs ys stands agree i h = let e : 0 + i ≡ i = omega arith in agree i (rw e h)
agree_after (t ∷ fore) xs ys stands agree zero h = refl
agree_after (t ∷ fore) xs ys stands agree (suc i) h =
    agree_after fore xs ys (λ k. stands (suc k)) (λ j h'. let e : suc (length fore) + j ≡ suc (length fore + j) = omega arith in agree j (rw e h')) i h

agree_before : (xs ys aft : List Term) (stands : ℕ → Bool) → length xs ≡ length ys → AgreeingTerms xs ys stands → AgreeingTerms (xs ++ aft) (ys ++ aft) stands
agree_before [] [] aft stands long agree i h = refl
agree_before [] (y ∷ ys) aft stands long agree i h = absurd (omega arith)
agree_before (x ∷ xs) [] aft stands long agree i h = absurd (omega arith)
agree_before (x ∷ xs) (y ∷ ys) aft stands long agree zero h = agree 0 h
agree_before (x ∷ xs) (y ∷ ys) aft stands long agree (suc i) h = agree_before xs ys aft (λ k. stands (suc k)) (omega arith) (λ j h'. agree (suc j) h') i h

module _ (v : Instance) (l : Spot) (base : ℕ) (t : Term) where
  length-used : (level : ℕ) (args : List Pattern) (m : ℕ) → length (used_terms v l base t level args m) ≡ length (args_at v l base args m)
  length-used level [] m = refl
  length-used level (a ∷ args) m = ap suc (length-used (level + 1) args m)

  used-at : (level : ℕ) (args : List Pattern) (m j : ℕ) → IsTrue (occurs_in (level + j) t) →
      get_or (used_terms v l base t level args m) j (Var 0) ≡ get_or (args_at v l base args m) j (Var 0)
  used-at level [] m j stands = refl
  used-at level (a ∷ args) m zero stands =
      let e : level + 0 ≡ level = omega arith in
      let here = rw e at stands in rw here refl
  used-at level (a ∷ args) m (suc j) stands =
      let e : level + suc j ≡ level + 1 + j = omega arith in
      used-at (level + 1) args m j (rw e at stands)

  -- the used arguments serve for all of them
  pub used-sub : (cs : List Sym) (args : List Pattern) (aft : List Term) (m : ℕ) →
      sub_of t (map Var (ground_at v l.pos cs) ++ used_terms v l base t (wide_of v cs) args m ++ aft) m ≡ sub_of t (map Var (ground_at v l.pos cs) ++ args_at v l base args m ++ aft) m
  used-sub cs args aft m =
      let fore : List Term = map Var (ground_at v l.pos cs) in
      let used : List Term = used_terms v l base t (wide_of v cs) args m in
      let all : List Term = args_at v l base args m in
      let many : length fore ≡ wide_of v cs = length-map (ground_at v l.pos cs) Var ∙ wide-ground v l.pos cs in
      let long = length-used (wide_of v cs) args m in
      let both : length (fore ++ used) ≡ length (fore ++ all) = let one = length-append fore used in let two = length-append fore all in omega (arith, one, two, long) in
      let all_long : length (fore ++ used ++ aft) ≡ length (fore ++ all ++ aft) = let one = length-append (fore ++ used) aft in let two = length-append (fore ++ all) aft in omega (arith, one, two, both) in
      let agree = agree_after fore used all (λ i. occurs_in i t) (λ j stands. used-at (wide_of v cs) args m j (rw many at stands)) in
      same_sub (fore ++ used ++ aft) (fore ++ all ++ aft) m all_long t (agree_before (fore ++ used) (fore ++ all) aft (λ i. occurs_in i t) both agree)

  -- the terms of the used arguments, behind the variables that a term has before them
  pub used_behind : (cs : List Sym) (args : List Pattern) (m : ℕ) (fore all : List Term) → fore ≡ map Var (ground_at v l.pos cs) →
      all ≡ fore ++ used_terms v l base t (length fore) args m → all ≡ map Var (ground_at v l.pos cs) ++ used_terms v l base t (wide_of v cs) args m
  used_behind cs args m fore all is made =
      let many : length fore ≡ wide_of v cs = rw is (length-map (ground_at v l.pos cs) Var ∙ wide-ground v l.pos cs) in
      rw (many, is) at made

  -- a value's instance is made of them
  pub meta_made : (p : Pattern) (n : Sym) (cs : List Sym) (args : List Pattern) (m : ℕ) (all : List Term) → p ≡ pat.Meta n cs args → t ≡ v.values.meta n →
      all ≡ map Var (ground_at v l.pos cs) ++ used_terms v l base t (wide_of v cs) args m → sub_of t all m ≡ made_at v l base p m
  meta_made p n cs args m all is value made =
      let serve = rw (append-nil, append-nil) at (used-sub cs args [] m) in
      let layer = inst-Meta (ground_at v l.pos) v.values n cs args (env_at l base m) m in
      rw (is, layer, made, ← value) serve
