-- What is put into a term, one layer at a time.
use Rattle.std.proofs.Common.{◌≡◌, ℕ, ◌+◌, ◌-◌, ◌<◌, ◌≤◌, ◌^◌, List, [], ◌∷◌, ◌++◌, map, length, get_or, take, drop, IsTrue, refl, sym, ap, ◌∙◌, arith}
use Rattle.std.specs.Prelude.{All, Option, Some, None, Result, Ok, Err, IfOk}
use Rattle.std.proofs.lemmas.Bool.Decides.{nat_tests}
use Rattle.std.proofs.lemmas.Grind.{common_steps}
use Rattle.std.proofs.lemmas.List.Elements.{All-append}
use Rattle.std.proofs.lemmas.List.{get_or-map, get_or-append_right, get_or_append_left, length-map, length-append, map-append, take_more}
use Rattle.mp_logic.specs.declared.sym.Sym.{Sym}
use Rattle.mp_logic.specs.declared.memory.NoMemory.{NoMemory}
use Rattle.mp_term.specs.declared.term.Param.{Param}
use Rattle.mp_term.specs.declared.term.Term.{Term, Var, Op}
use Rattle.mp_term.specs.declared.term.Bound.{Bound}
use Rattle.mp_term.specs.Terms.{in_scope_of, all_at_scope}
use Rattle.mp_term.specs.Subst.{weak, upto, under, sub_of, sub_bound_of, sub_each, widest_of, widest_at, width_bound, AreInScope}
use Rattle.mp_term.proofs.Layers.{scoped_bound, in_scope-Var, in_scope-Op, scoped_bound-is, weak-Var, sub-Var, sub-Op, sub_bound-is, widest-Op, width_bound-is}
use Rattle.mp_term.proofs.Ranges.{length-upto, get_or-upto}
use Rattle.mp_term.proofs.ScopeLaws.{width_weakened}
use Rattle.mp_term.proofs.SubLaws.{under-none, under-under, under-low, under-high, AreInScope-at, drop-at}
use Rattle.mp_delay.specs.declared.moves.Move.{Move}
use Rattle.mp_delay.specs.Moves.{moved, relevel_by, relevel_bound}
use Rattle.mp_delay.specs.Instances.{levels_made, variables_and, put_into, put_into_bound, CanPutInto, CanPutIntoEach}
use Rattle.mp_delay.specs.Made.{made_or, remade, AreRemade}
use Rattle.mp_delay.proofs.DelayLaws.{widest-ge}
use Rattle.mp_delay.proofs.Layers.{relevel-Var, relevel-Op, relevel_bound-is}

module _ (f : ℕ → ℕ) (s : List Term) (m k : ℕ) where
  put_each : (bs : List Bound) → sub_each (map sub_bound_of (map (relevel_bound f) bs)) (under s m k) (m + k) ≡ map (put_into_bound f s m k) bs
  put_each [] = refl
  put_each (b ∷ bs) =
      let e : m + k + b.binders ≡ m + (k + b.binders) = omega arith in
      let first : sub_bound_of (relevel_bound f b) (under s m k) (m + k) ≡ put_into_bound f s m k b = rw (relevel_bound-is, sub_bound-is, under-under, e) refl in
      rw (first, put_each bs) refl

  pub put-Op : (o : Sym) (ps : List Param) (bs : List Bound) → put_into f s m k (Op o ps bs) ≡ Op o ps (map (put_into_bound f s m k) bs)
  put-Op o ps bs = rw (relevel-Op, sub-Op (Op o ps (map (relevel_bound f) bs)) o ps (map (relevel_bound f) bs) (under s m k) (m + k) refl, put_each bs) refl

  can_each : (bs : List Bound) → IsTrue (all_at_scope (length s + k) (map scoped_bound (map (relevel_bound f) bs))) →
      widest_at (length s + k) (map width_bound (map (relevel_bound f) bs)) < 2 ^ 31 →
      widest_at (m + k) (map width_bound (map (put_into_bound f s m k) bs)) < 2 ^ 31 → CanPutIntoEach f s m k bs
  can_each [] scoped narrow made = tt
  can_each (b ∷ bs) scoped narrow made =
      let first_scoped : IsTrue (scoped_bound (relevel_bound f b) (length s + k)) = grind (arith, common_steps, scoped) in
      let rest_scoped : IsTrue (all_at_scope (length s + k) (map scoped_bound (map (relevel_bound f) bs))) = grind (arith, common_steps, scoped) in
      let e : length s + k + b.binders ≡ length s + (k + b.binders) = omega arith in
      let e' : m + k + b.binders ≡ m + (k + b.binders) = omega arith in
      let wide : width_bound (relevel_bound f b) (length s + k) < 2 ^ 31 = omega (arith, narrow) in
      let rest_wide : widest_at (length s + k) (map width_bound (map (relevel_bound f) bs)) < 2 ^ 31 = omega (arith, narrow) in
      let made_wide : width_bound (put_into_bound f s m k b) (m + k) < 2 ^ 31 = omega (arith, made) in
      let rest_made : widest_at (m + k) (map width_bound (map (put_into_bound f s m k) bs)) < 2 ^ 31 = omega (arith, made) in
      let one = rw (relevel_bound-is, width_bound-is, e) at wide in
      let two = rw (width_bound-is, e') at made_wide in
      let inner : widest_of (relevel_by f b.body) (length s + (k + b.binders)) < 2 ^ 31 = omega (arith, one) in
      let made_inner : widest_of (put_into f s m (k + b.binders) b.body) (m + (k + b.binders)) < 2 ^ 31 = omega (arith, two) in
      (record { scoped = rw (relevel_bound-is, scoped_bound-is, e) at first_scoped; narrow = inner; made_narrow = made_inner }, can_each bs rest_scoped rest_wide rest_made)

  -- what can be put into an operator can be put into its bodies
  pub can_bodies : (o : Sym) (ps : List Param) (bs : List Bound) → CanPutInto f s m k (Op o ps bs) → CanPutIntoEach f s m k bs
  can_bodies o ps bs can =
      can_each bs (rw (relevel-Op, in_scope-Op) at can.scoped) (rw (relevel-Op, widest-Op) at can.narrow) (rw (put-Op o ps bs, widest-Op) at can.made_narrow)

  module _ (bs : List Bound) (i : ℕ) (b : Bound) (inside : i < length bs) (is : b ≡ get_or bs i b) where
    pub can_at : CanPutIntoEach f s m k (drop i bs) → CanPutInto f s m (k + b.binders) b.body × CanPutIntoEach f s m k (drop (i + 1) bs)
    can_at can = rw (drop-at bs i b inside is) at can

    pub one_remade : (made : List Bound) (body : Option Term) → made_or b.body body ≡ put_into f s m (k + b.binders) b.body →
        AreRemade made (take i bs ++ b ∷ []) (map (put_into_bound f s m k) (take i bs) ++ remade b body ∷ []) →
        AreRemade made (take (i + 1) bs) (map (put_into_bound f s m k) (take (i + 1) bs))
    one_remade made body here are =
        let more = take_more bs i b inside ∙ ap (λ x. take i bs ++ x ∷ []) (sym is) in
        let new : remade b body ≡ put_into_bound f s m k b = rw here refl in
        rw (more, map-append, ← new) are

  pub deep : (t : Term) → CanPutInto f s m k t → length s + k < 2 ^ 31
  deep t can = omega (arith, widest-ge (relevel_by f t) (length s + k), can.narrow)

-- an operator that is remade
pub answered : (r : Result (Option Term) NoMemory) (o : Sym) (ps : List Param) (made bs news : List Bound) (t u : Term) →
    IfOk r (λ answer. (olds others : List Bound) → AreRemade made olds others → made_or (Op o ps olds) answer ≡ Op o ps others) →
    AreRemade made bs news → t ≡ Op o ps bs → u ≡ Op o ps news → IfOk r (λ answer. made_or t answer ≡ u)
answered (Ok answer) o ps made bs news t u is are old new = rw (old, new) (is bs news are)
answered (Err e) o ps made bs news t u is are old new = tt

module _ (ms : List Move) (n : ℕ) (args : List Term) (f : ℕ → ℕ) (m k i : ℕ) where
  abbrev s : List Term
  s = variables_and ms n args

  pub length-made : length (levels_made ms n) ≡ n
  length-made = length-map (upto 0 n) (moved ms) ∙ length-upto 0 n

  length-named : length (map Var (levels_made ms n)) ≡ n
  length-named = length-map (levels_made ms n) Var ∙ length-made

  pub length-put : length (variables_and ms n args) ≡ n + length args
  length-put = length-append (map Var (levels_made ms n)) args ∙ ap (λ l. l + length args) length-named

  put-Var : put_into f s m k (Var i) ≡ get_or (under s m k) (f i) (Var (f i))
  put-Var = rw (relevel-Var, sub-Var) refl

  made-at : (j : ℕ) → j < n → get_or (levels_made ms n) j 0 ≡ moved ms j
  made-at j h =
      let inside : j < length (upto 0 n) = omega (arith, length-upto 0 n) in
      let at = get_or-upto 0 n j 0 h in
      get_or-map (moved ms) (upto 0 n) j 0 0 inside ∙ ap (moved ms) (at ∙ omega arith)

  module _ (below : All (λ level. level < m) (levels_made ms n)) where
    pub made-below : (j : ℕ) → j < n → moved ms j < m
    made-below j h =
        let inside : j < length (levels_made ms n) = omega (arith, length-made) in
        rw (made-at j h) at (below j 0 inside)

    pub put-moved : f i < n → put_into f s m k (Var i) ≡ Var (moved ms (f i))
    put-moved h =
        let named : f i < length (map Var (levels_made ms n)) = omega (arith, length-named) in
        let all : f i < length s = omega (arith, length-put) in
        let inside : f i < length (levels_made ms n) = omega (arith, length-made) in
        let low = under-low s m k (f i) (Var (f i)) (Var 0) all in
        let left = get_or_append_left (map Var (levels_made ms n)) args (Var 0) (f i) named in
        let item = get_or-map Var (levels_made ms n) (f i) 0 (Var 0) inside in
        let is_below = made-below (f i) h in
        let stays : weak m k (Var (moved ms (f i))) ≡ Var (moved ms (f i)) = rw weak-Var (grind (arith, nat_tests, is_below)) in
        put-Var ∙ rw (low, left, item, made-at (f i) h) stays

  pub level-inside : CanPutInto f s m k (Var i) → f i < length s + k
  level-inside can =
      let test = rw (relevel-Var, in_scope-Var) at can.scoped in
      grind (arith, nat_tests, test)

  module _ (arg : Term) (j : ℕ) (at : f i ≡ n + j) where
    pub put-arg : j < length args → arg ≡ get_or args j arg → put_into f s m k (Var i) ≡ weak m k arg
    put-arg h is =
        let all : f i < length s = omega (arith, length-put, at, h) in
        let low = under-low s m k (f i) (Var (f i)) arg all in
        let past : n ≤ f i = omega (arith, at) in
        let right = get_or-append_right (map Var (levels_made ms n)) args n (f i) arg length-named past in
        let e : f i - n ≡ j = omega (arith, at) in
        put-Var ∙ rw (low, right, e) (ap (weak m k) (sym is))

    pub put-bound : length args ≤ j → f i < length s + k → put_into f s m k (Var i) ≡ Var (m + (j - length args))
    put-bound h inside =
        let all : length s ≤ f i = omega (arith, length-put, at, h) in
        let high = under-high s m k (f i) (Var (f i)) all inside in
        let e : f i - length s ≡ j - length args = omega (arith, length-put, at, h) in
        put-Var ∙ rw (high, e) refl

    pub arg-narrow : j < length args → arg ≡ get_or args j arg → CanPutInto f s m k (Var i) → widest_of arg m + k < 2 ^ 31
    arg-narrow h is can =
        let wide = width_weakened m k arg in
        let made = rw (put-arg h is) at can.made_narrow in
        omega (arith, wide, made)

    pub bound-small : length args ≤ j → CanPutInto f s m k (Var i) → m + (j - length args) < 2 ^ 31
    bound-small h can =
        let inside = level-inside can in
        let wide = widest-ge (put_into f s m k (Var i)) (m + k) in
        omega (arith, inside, wide, can.made_narrow, length-put, at, h)

-- at the outermost place
module _ (f : ℕ → ℕ) (s : List Term) (m : ℕ) (t : Term) where
  pub put-whole : put_into f s m 0 t ≡ sub_of (relevel_by f t) s m
  put-whole = let e : m + 0 ≡ m = omega arith in rw (under-none, e) refl

  pub can-whole : IsTrue (in_scope_of (relevel_by f t) (length s)) → widest_of (relevel_by f t) (length s) < 2 ^ 31 →
      widest_of (sub_of (relevel_by f t) s m) m < 2 ^ 31 → CanPutInto f s m 0 t
  can-whole scoped narrow made =
      let e : length s + 0 ≡ length s = omega arith in
      let e' : m + 0 ≡ m = omega arith in
      record { scoped = rw e scoped; narrow = rw e narrow; made_narrow = rw (put-whole, e') made }

-- the variables and the terms that are put in are in the scope
module _ (ms : List Move) (n : ℕ) (args : List Term) (m : ℕ) where
  vars-scoped : (levels : List ℕ) → All (λ level. level < m) levels → All (λ t. IsTrue (in_scope_of t m)) (map Var levels)
  vars-scoped levels below i d h =
      let inside : i < length levels = omega (arith, length-map levels Var) in
      let item = get_or-map Var levels i 0 d inside in
      let low = below i 0 inside in
      rw (item, in_scope-Var) (grind (arith, nat_tests, low))

  pub put-scoped : All (λ level. level < m) (levels_made ms n) → AreInScope m args → AreInScope m (variables_and ms n args)
  unfolding AreInScope
  put-scoped below scoped = All-append (λ t. IsTrue (in_scope_of t m)) (map Var (levels_made ms n)) args (vars-scoped (levels_made ms n) below) scoped
