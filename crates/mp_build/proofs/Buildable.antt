-- What building asks of a pattern, it asks of the pattern's parts; and what a substitution asks follows.
use Rattle.std.proofs.Common.{◌≡◌, ℕ, ◌+◌, ◌-◌, ◌<◌, ◌≤◌, List, [], ◌∷◌, ◌++◌, length, map, get_or, drop, IsTrue, zero, suc, true, refl, inl, inr, ◌⊎◌, arith}
use Rattle.std.specs.Prelude.{nat_eq, if◌then◌else◌}
use Rattle.std.proofs.lemmas.Bool.Decides.{nat_tests}
use Rattle.std.proofs.lemmas.Grind.{common_steps}
use Rattle.std.proofs.lemmas.List.{append_assoc, length_push}
use Rattle.mp_logic.specs.declared.sym.Sym.{Sym}
use Rattle.mp_term.specs.declared.term.Term.{Term, Var}
use Rattle.mp_term.specs.declared.term.Bound.{Bound}
use Rattle.mp_term.specs.Terms.{in_scope_of}
use Rattle.mp_term.specs.Subst.{widest_of, occurs_in}
use Rattle.mp_term.proofs.EqualTerms.{decided, both_true, same_name}
use Rattle.mp_term.proofs.SubLaws.{drop-at}
use Rattle.mp_term.proofs.Laws.{width_after_substitution}
use Rattle.mp_schema.specs.declared.pattern.Pattern.{Pattern}
use Rattle.mp_schema.specs.declared.pattern.Pattern as pat
use Rattle.mp_schema.specs.declared.pattern.PBound.{PBound}
use Rattle.mp_schema.specs.Instances.{fits, fits_bound, all_pass}
use Rattle.mp_schema.specs.Sequents.{Instance, Spot, ground_at, wide_of}
use Rattle.mp_schema.specs.Conditions.{below_bound, lists_known, lists_known_bound, has, has_all, is_apart, is_known}
use Rattle.mp_schema.proofs.UseKinds.{has_all-has}
use Rattle.mp_schema.proofs.Layers.{fits-Meta, fits_bound-is, below-Meta, below_bound-is, lists_known-Meta, lists_known_bound-is}
use Rattle.mp_build.specs.Sites.{IsBuildable, AreBuildableBodies, AreBuildableArgs, IsSubstitutable, made_at, bodies_at, used_terms, the_blank}
use Rattle.mp_build.proofs.Layers.{room-Meta, room_bound-is}
use Rattle.mp_build.proofs.RoomFacts.{widest-ge}
use Rattle.mp_build.proofs.Placed.{bound_at, used-placed, terms_placed}

pub has-first : (x : Sym) (cs : List Sym) (c : Sym) → IsTrue (has (x ∷ cs) c) → (x ≡ c) ⊎ IsTrue (has cs c)
has-first x cs c is = elim (decided (nat_eq x.0 c.0)) [
  | inl same ↦ inl (same_name x c same)
  | inr other ↦ inr (grind (arith, common_steps, other, is))
]

pub has-at : (cs : List Sym) (i : ℕ) (d : Sym) → i < length cs → IsTrue (has cs (get_or cs i d))
has-at [] i d h = absurd (omega arith)
has-at (x ∷ cs) zero d h = let own : nat_eq x.0 x.0 ≡ true = grind (arith, nat_tests) in grind (arith, common_steps, own)
has-at (x ∷ cs) (suc i) d h = let rest = has-at cs i d (omega arith) in grind (arith, common_steps, rest)

module _ (v : Instance) (l : Spot) (base : ℕ) where
  -- the body that comes next, and those behind it
  pub bodies_next : (bs : List PBound) (m i : ℕ) (b : PBound) → i < length bs → b ≡ get_or bs i b → AreBuildableBodies v l base (drop i bs) m →
      IsBuildable v l base b.body (m + b.binders) × AreBuildableBodies v l base (drop (i + 1) bs) m
  bodies_next bs m i b low is r =
      let next = drop-at bs i b low is in
      let closed = rw next at r.closed in
      let fitting = rw next at r.fitting in
      let listed = rw next at r.listed in
      let narrow = rw next at r.narrow in
      let inner = r.inner in
      let closed0 : IsTrue (below_bound b (length l.env + (m - base))) = grind (arith, common_steps, closed) in
      let fitting0 : IsTrue (fits_bound (wide_of v) v.values b) = grind (arith, common_steps, fitting) in
      let listed0 : IsTrue (lists_known_bound r.known b) = grind (arith, common_steps, listed) in
      let own = room_bound-is (wide_of v) v.values b m in
      let e : length l.env + (m - base) + b.binders ≡ length l.env + (m + b.binders - base) = omega arith in (
        record {
          known = r.known;
          spot = r.spot;
          outer = r.outer;
          inner = omega arith;
          closed = rw (below_bound-is, e) at closed0;
          fitting = rw fits_bound-is at fitting0;
          listed = rw lists_known_bound-is at listed0;
          narrow = omega (arith, narrow, own);
        },
        record {
          known = r.known;
          spot = r.spot;
          outer = r.outer;
          inner = inner;
          closed = grind (arith, common_steps, closed);
          fitting = grind (arith, common_steps, fitting);
          listed = grind (arith, common_steps, listed);
          narrow = omega (arith, narrow);
        },
      )

  pub bodies_pushed : (bs : List PBound) (m i : ℕ) (b : PBound) (made more : List Bound) (new : Bound) → i < length bs → b ≡ get_or bs i b → base ≤ m →
      new ≡ record { binders = b.binders; body = made_at v l base b.body (m + b.binders) } → more ≡ made ++ new ∷ [] →
      made ++ bodies_at v l base (drop i bs) m ≡ bodies_at v l base bs m → more ++ bodies_at v l base (drop (i + 1) bs) m ≡ bodies_at v l base bs m
  bodies_pushed bs m i b made more new low is inner e pushed done =
      let next = drop-at bs i b low is in
      let done' = rw next at done in
      rw (pushed, e, ← bound_at v l base b m inner, append_assoc) done'

  -- the argument that comes next, and those behind it
  pub args_next : (ps : List Pattern) (m i : ℕ) (p : Pattern) → i < length ps → p ≡ get_or ps i p → AreBuildableArgs v l base (drop i ps) m →
      IsBuildable v l base p m × AreBuildableArgs v l base (drop (i + 1) ps) m
  args_next ps m i p low is r =
      let next = drop-at ps i p low is in
      let closed = rw next at r.closed in
      let fitting = rw next at r.fitting in
      let listed = rw next at r.listed in
      let narrow = rw next at r.narrow in (
        record {
          known = r.known;
          spot = r.spot;
          outer = r.outer;
          inner = r.inner;
          closed = grind (arith, common_steps, closed);
          fitting = grind (arith, common_steps, fitting);
          listed = grind (arith, common_steps, listed);
          narrow = omega (arith, narrow);
        },
        record {
          known = r.known;
          spot = r.spot;
          outer = r.outer;
          inner = r.inner;
          closed = grind (arith, common_steps, closed);
          fitting = grind (arith, common_steps, fitting);
          listed = grind (arith, common_steps, listed);
          narrow = omega (arith, narrow);
        },
      )

  pub args_pushed : (t : Term) (ps : List Pattern) (m i : ℕ) (p : Pattern) (start made more : List Term) (new : Term) → i < length ps → p ≡ get_or ps i p →
      new ≡ (if occurs_in (length made) t then made_at v l base p m else the_blank) → more ≡ made ++ new ∷ [] →
      made ++ used_terms v l base t (length made) (drop i ps) m ≡ start → more ++ used_terms v l base t (length more) (drop (i + 1) ps) m ≡ start
  args_pushed t ps m i p start made more new low is e pushed done =
      let next = drop-at ps i p low is in
      let done' = rw next at done in
      let longer : length more ≡ length made + 1 = rw pushed (length_push made new) in
      rw (longer, pushed, e, append_assoc) done'

  pub contexts_made : (p : Pattern) (n : Sym) (cs : List Sym) (args : List Pattern) (m : ℕ) → p ≡ pat.Meta n cs args → IsBuildable v l base p m →
      (c : Sym) → IsTrue (has cs c) → l.pos c + length (v.kept c) ≤ l.next
  contexts_made p n cs args m is r c h =
      let k = rw (is, lists_known-Meta) at r.listed in
      let listed : IsTrue (has_all r.known cs) = grind (arith, common_steps, k) in
      r.spot.made c (has_all-has r.known cs c listed h)

  pub substitutable : (p : Pattern) (n : Sym) (cs : List Sym) (args : List Pattern) (m : ℕ) (terms : List Term) → p ≡ pat.Meta n cs args → IsBuildable v l base p m →
      terms ≡ map Var (ground_at v l.pos cs) ++ used_terms v l base (v.values.meta n) (wide_of v cs) args m → IsSubstitutable (v.values.meta n) terms m
  substitutable p n cs args m terms is r e =
      let k = rw (is, lists_known-Meta) at r.listed in
      let f = rw (is, fits-Meta) at r.fitting in
      let b = rw (is, below-Meta) at r.closed in
      let w = rw (is, room-Meta) at r.narrow in
      let ks = both_true (is_known r.known cs) (all_pass (map (lists_known r.known) args)) k in
      let fs = both_true (in_scope_of (v.values.meta n) (wide_of v cs + length args)) (all_pass (map (fits (wide_of v) v.values) args)) f in
      let roomed = used-placed v l base r.known r.spot r.outer (v.values.meta n) (wide_of v cs) args m r.inner (b, fs.1, ks.1) in
      let placed = terms_placed v l base r.known r.spot r.outer cs _ args m r.inner (both_true (has_all r.known cs) (is_apart cs) ks.0).0 roomed in
      let many : length terms ≡ wide_of v cs + length args = rw e placed.2 in
      let scoped : IsTrue (in_scope_of (v.values.meta n) (length terms)) = rw many fs.0 in
      let wide = rw (← e) at placed.1 in
      let grown = width_after_substitution terms m (v.values.meta n) scoped in
      let own = widest-ge (v.values.meta n) (wide_of v cs + length args) in
      let own' : widest_of (v.values.meta n) (length terms) ≡ widest_of (v.values.meta n) (wide_of v cs + length args) = rw many refl in
      record {
        count = omega (arith, own, many, w);
        scoped = scoped;
        terms_scoped = rw e placed.0;
        narrow = omega (arith, own', w);
        made_narrow = omega (arith, grown, wide, own', w);
      }
