-- An instance is in its scope, and no scope in it is wider than its room.
use Rattle.std.proofs.Common.{◌≡◌, ℕ, ◌+◌, ◌-◌, ◌<◌, ◌≤◌, List, [], ◌∷◌, ◌++◌, length, map, IsTrue, refl, ◌∙◌, arith}
use Rattle.std.proofs.lemmas.Bool.Decides.{nat_tests}
use Rattle.std.proofs.lemmas.Grind.{common_steps}
use Rattle.std.proofs.lemmas.List.{length-map, length-append}
use Rattle.mp_logic.specs.declared.sym.Sym.{Sym}
use Rattle.mp_term.specs.declared.term.Term.{Term, Var}
use Rattle.mp_term.specs.Terms.{in_scope_of, all_at_scope}
use Rattle.mp_term.proofs.EqualTerms.{both_true}
use Rattle.mp_term.proofs.Layers.{scoped_bound, in_scope-Var, in_scope-Op, scoped_bound-is, widest-Var, widest-Op, width_bound-is}
use Rattle.mp_term.specs.Subst.{AreInScope, widest_of, widest_at, width_bound, widest_in, occurs_in}
use Rattle.mp_term.proofs.Laws.{scope_after_substitution, width_after_substitution}
use Rattle.mp_schema.specs.declared.pattern.ParamPat.{ParamPat}
use Rattle.mp_schema.specs.declared.pattern.Pattern.{Pattern}
use Rattle.mp_schema.specs.declared.pattern.Pattern as pat
use Rattle.mp_schema.specs.declared.pattern.PBound.{PBound}
use Rattle.mp_schema.specs.Induction.{OfEachBody, OfEachArg, each_pattern, of_each_arg}
use Rattle.mp_schema.specs.Instances.{inst_bound, fits, fits_bound, all_pass}
use Rattle.mp_schema.specs.Sequents.{Instance, Spot, ground_at, wide_of}
use Rattle.mp_schema.specs.Conditions.{below, below_bound, lists_known, lists_known_bound, has_all, is_apart, is_known}
use Rattle.mp_schema.proofs.Layers.{inst-Var, inst-Op, inst-Meta, inst_bound-is, fits-Op, fits-Meta, fits_bound-is, below-Var, below-Op, below-Meta, below_bound-is, lists_known-Op, lists_known-Meta, lists_known_bound-is}
use Rattle.mp_build.specs.Rooms.{room, room_bound}
use Rattle.mp_build.specs.Sites.{IsSpot, env_at, made_at, bodies_at, args_at, used_terms, the_blank}
use Rattle.mp_build.proofs.RoomFacts.{widest_at-ge}
use Rattle.std.specs.Prelude.{Bool, true, false, if◌then◌else◌}
use Rattle.mp_build.proofs.Layers.{room-Var, room-Op, room-Meta, room_bound-is}
use Rattle.mp_build.proofs.Grounds.{AreInScope-none, AreInScope-join, AreInScope-cons, widest_in-none, widest_in-cons, widest_in-levels, before-in, env-under, env-at}
use Rattle.mp_schema.proofs.Rows.{wide-ground}

-- terms in scope m, one for each argument, with no scope wider than the arguments' room
abbrev pub AreRoomed : Instance → List Term → List Pattern → ℕ → Type 0
AreRoomed v made args m = AreInScope m made × (widest_in m made ≤ widest_at m (map (room (wide_of v) v.values) args)) × (length made ≡ length args)

module _ (v : Instance) (l : Spot) (base : ℕ) where
  pub widest_at-least : (m : ℕ) (args : List Pattern) → m ≤ widest_at m (map (room (wide_of v) v.values) args)
  widest_at-least m [] = omega arith
  widest_at-least m (a ∷ args) = omega (arith, widest_at-least m args)

  pub room-ge : (p : Pattern) (m : ℕ) → m ≤ room (wide_of v) v.values p m
  room-ge =
      each_pattern (λ p. (m : ℕ) → m ≤ room (wide_of v) v.values p m) (λ i m. rw room-Var (omega arith)) (λ o ps bs h m. rw room-Op (widest_at-ge m (map (room_bound (wide_of v) v.values) bs)))
      (λ n cs args h m. let ge = widest_at-ge m (map (room (wide_of v) v.values) args) in rw room-Meta (omega (arith, ge)))

  -- a term of such room, or the one that stands for nothing
  one_placed : (used : Bool) (made : Term) (m r : ℕ) → IsTrue (in_scope_of made m) → widest_of made m ≤ r → m ≤ r →
      IsTrue (in_scope_of (if used then made else the_blank) m) × (widest_of (if used then made else the_blank) m ≤ r)
  one_placed true made m r scoped narrow ge = (scoped, narrow)
  one_placed false made m r scoped narrow ge = (rw in_scope-Op refl, rw widest-Op ge)

  -- the bound subterm that is made of one
  pub bound_at : (b : PBound) (m : ℕ) → base ≤ m →
      inst_bound (ground_at v l.pos) v.values b (env_at l base m) m ≡ record { binders = b.binders; body = made_at v l base b.body (m + b.binders) }
  bound_at b m h =
      let env = env-under l base m b.binders h in
      let is = inst_bound-is (ground_at v l.pos) v.values b (env_at l base m) m in
      rw env at is

  module _ (known : List Sym) (spot : IsSpot v l known) (outer : l.next ≤ base) where
    -- what making patterns asks, whose variables are below n
    abbrev pub Asked : Pattern → ℕ → Type 0
    Asked p n = IsTrue (below p n) × IsTrue (fits (wide_of v) v.values p) × IsTrue (lists_known known p)

    abbrev pub AskedBodies : List PBound → ℕ → Type 0
    AskedBodies bs n = IsTrue (all_at_scope n (map below_bound bs)) × IsTrue (all_pass (map (fits_bound (wide_of v) v.values) bs)) × IsTrue (all_pass (map (lists_known_bound known) bs))

    abbrev pub AskedArgs : List Pattern → ℕ → Type 0
    AskedArgs args n = IsTrue (all_at_scope n (map below args)) × IsTrue (all_pass (map (fits (wide_of v) v.values) args)) × IsTrue (all_pass (map (lists_known known) args))

    first_body : (b : PBound) (bs : List PBound) (n : ℕ) → AskedBodies (b ∷ bs) n → Asked b.body (n + b.binders) × AskedBodies bs n
    first_body b bs n q =
        let c = both_true (below_bound b n) (all_at_scope n (map below_bound bs)) q.0 in
        let f = both_true (fits_bound (wide_of v) v.values b) (all_pass (map (fits_bound (wide_of v) v.values) bs)) q.1 in
        let k = both_true (lists_known_bound known b) (all_pass (map (lists_known_bound known) bs)) q.2 in
        ((rw below_bound-is at c.0, rw fits_bound-is at f.0, rw lists_known_bound-is at k.0), (c.1, f.1, k.1))

    first_arg : (a : Pattern) (args : List Pattern) (n : ℕ) → AskedArgs (a ∷ args) n → Asked a n × AskedArgs args n
    first_arg a args n q =
        let c = both_true (below a n) (all_at_scope n (map below args)) q.0 in
        let f = both_true (fits (wide_of v) v.values a) (all_pass (map (fits (wide_of v) v.values) args)) q.1 in
        let k = both_true (lists_known known a) (all_pass (map (lists_known known) args)) q.2 in
        ((c.0, f.0, k.0), (c.1, f.1, k.1))

    abbrev IsPlaced : Pattern → Type 0
    IsPlaced p = (m : ℕ) → base ≤ m → Asked p (length l.env + (m - base)) →
        IsTrue (in_scope_of (made_at v l base p m) m) × (widest_of (made_at v l base p m) m ≤ room (wide_of v) v.values p m)

    placed_var : (i : ℕ) → IsPlaced (pat.Var i)
    placed_var i m h q =
        let test = rw below-Var at q.0 in
        let low : i < length l.env + (m - base) = grind (arith, nat_tests, test) in
        let found = env-at v l known base m i spot outer h low in
        let small = found.1 in
        let is : made_at v l base (pat.Var i) m ≡ Var found.0 = inst-Var _ _ i (env_at l base m) m ∙ found.2 (Var i) in
        (rw (is, in_scope-Var) (grind (arith, nat_tests, small)), rw (is, widest-Var, room-Var) (omega arith))

    abbrev BodiesPlaced : List PBound → ℕ → Type 0
    BodiesPlaced bs m =
        IsTrue (all_at_scope m (map scoped_bound (bodies_at v l base bs m))) ×
        (widest_at m (map width_bound (bodies_at v l base bs m)) ≤ widest_at m (map (room_bound (wide_of v) v.values) bs))

    placed_bounds : (bs : List PBound) (m : ℕ) → OfEachBody IsPlaced bs → base ≤ m → AskedBodies bs (length l.env + (m - base)) → BodiesPlaced bs m
    placed_bounds [] m h le q = (refl, omega arith)
    placed_bounds (x ∷ bs) m h le q =
        let parts = first_body x bs (length l.env + (m - base)) q in
        let e : length l.env + (m - base) + x.binders ≡ length l.env + (m + x.binders - base) = omega arith in
        let r = h.0 (m + x.binders) (omega arith) (rw e at parts.0) in
        let rest = placed_bounds bs m h.1 le parts.1 in
        let is = bound_at x m le in
        let first : IsTrue (scoped_bound (inst_bound (ground_at v l.pos) v.values x (env_at l base m) m) m) = rw (is, scoped_bound-is) r.0 in
        let second : width_bound (inst_bound (ground_at v l.pos) v.values x (env_at l base m) m) m ≤ room_bound (wide_of v) v.values x m =
        rw (is, width_bound-is, room_bound-is) (let w = r.1 in omega (arith, w)) in
        let s = rest.0 in
        let w = rest.1 in
        (grind (arith, common_steps, first, s), omega (arith, second, w))

    placed_op : (o : Sym) (ps : List ParamPat) (bs : List PBound) → OfEachBody IsPlaced bs → IsPlaced (pat.Op o ps bs)
    placed_op o ps bs h m le q =
        let r = placed_bounds bs m h le (rw below-Op at q.0, rw fits-Op at q.1, rw lists_known-Op at q.2) in
        (rw (inst-Op, in_scope-Op) r.0, rw (inst-Op, widest-Op, room-Op) r.1)

    abbrev ArgsPlaced : List Pattern → ℕ → Type 0
    ArgsPlaced args m = AreRoomed v (args_at v l base args m) args m

    placed_args : (args : List Pattern) (m : ℕ) → OfEachArg IsPlaced args → base ≤ m → AskedArgs args (length l.env + (m - base)) → ArgsPlaced args m
    placed_args [] m h le q = (AreInScope-none m, let e = widest_in-none m in omega (arith, e), refl)
    placed_args (x ∷ args) m h le q =
        let parts = first_arg x args (length l.env + (m - base)) q in
        let r = h.0 m le parts.0 in
        let rest = placed_args args m h.1 le parts.1 in
        let w = r.1 in
        let w' = rest.1 in
        let n = rest.2 in
        let c = widest_in-cons m (made_at v l base x m) (args_at v l base args m) in
        (AreInScope-cons m _ _ r.0 rest.0, omega (arith, w, w', c), omega (arith, n))

    -- the terms that a value's variables stand for
    pub terms_placed : (cs : List Sym) (made : List Term) (args : List Pattern) (m : ℕ) → base ≤ m → IsTrue (has_all known cs) → AreRoomed v made args m →
        AreInScope m (map Var (ground_at v l.pos cs) ++ made) × (widest_in m (map Var (ground_at v l.pos cs) ++ made) ≤ widest_at m (map (room (wide_of v) v.values) args)) ×
        (length (map Var (ground_at v l.pos cs) ++ made) ≡ wide_of v cs + length args)
    terms_placed cs made args m le listed r =
        let many = r.2 in
        let own = wide-ground v l.pos cs in
        let ambient = spot.ambient in
        let below_m : (c : Sym) → IsTrue _ → l.pos c + length (v.kept c) ≤ m = λ c h. (let made = spot.made c h in omega arith) in (
          AreInScope-join m _ _ (before-in v l.pos known m below_m cs (omega arith) listed) r.0,
          widest_in-levels m (ground_at v l.pos cs) made _ (widest_at-least m args) r.1,
          length-append (map Var (ground_at v l.pos cs)) made ∙ rw (length-map, own, many) refl,
        )

    placed_meta : (n : Sym) (cs : List Sym) (args : List Pattern) → OfEachArg IsPlaced args → IsPlaced (pat.Meta n cs args)
    placed_meta n cs args h m le q =
        let f = both_true (in_scope_of (v.values.meta n) (wide_of v cs + length args)) (all_pass (map (fits (wide_of v) v.values) args)) (rw fits-Meta at q.1) in
        let k = both_true (is_known known cs) (all_pass (map (lists_known known) args)) (rw lists_known-Meta at q.2) in
        let listed = (both_true (has_all known cs) (is_apart cs) k.0).0 in
        let terms = terms_placed cs (args_at v l base args m) args m le listed (placed_args args m h le (rw below-Meta at q.0, f.1, k.1)) in
        let by : List Term = map Var (ground_at v l.pos cs) ++ args_at v l base args m in
        let many : length by ≡ wide_of v cs + length args = terms.2 in
        let f0' : IsTrue (in_scope_of (v.values.meta n) (length by)) = rw many f.0 in
        let one = scope_after_substitution by m (v.values.meta n) terms.0 f0' in
        let two = rw many at (width_after_substitution by m (v.values.meta n) f0') in
        let wide = terms.1 in
        (rw inst-Meta one, rw (inst-Meta, room-Meta) (omega (arith, two, wide)))

    pub inst-placed : (p : Pattern) → IsPlaced p
    inst-placed = each_pattern IsPlaced placed_var placed_op placed_meta

    pub args-placed : (args : List Pattern) (m : ℕ) → base ≤ m → AskedArgs args (length l.env + (m - base)) → ArgsPlaced args m
    args-placed args m = placed_args args m (of_each_arg IsPlaced inst-placed args)

    -- the terms of the used arguments
    pub used-placed : (t : Term) (level : ℕ) (args : List Pattern) (m : ℕ) → base ≤ m → AskedArgs args (length l.env + (m - base)) →
        AreRoomed v (used_terms v l base t level args m) args m
    used-placed t level [] m le q = (AreInScope-none m, let e = widest_in-none m in omega (arith, e), refl)
    used-placed t level (a ∷ args) m le q =
        let parts = first_arg a args (length l.env + (m - base)) q in
        let r = inst-placed a m le parts.0 in
        let rest = used-placed t (level + 1) args m le parts.1 in
        let first : Term = if occurs_in level t then made_at v l base a m else the_blank in
        let own = one_placed (occurs_in level t) (made_at v l base a m) m (room (wide_of v) v.values a m) r.0 r.1 (room-ge a m) in
        let w = own.1 in
        let w' = rest.1 in
        let n = rest.2 in
        let c = widest_in-cons m first (used_terms v l base t (level + 1) args m) in
        (AreInScope-cons m _ _ own.0 rest.0, omega (arith, w, w', c), omega (arith, n))
