-- What the building of a pattern asks of the place from which it is made.
use Rattle.std.specs.Prelude.{◌≡◌, ℕ, ◌+◌, ◌-◌, ◌<◌, ◌≤◌, ◌^◌, List, [], ◌∷◌, ◌++◌, map, length, IsTrue, All, nat_eq, if◌then◌else◌, fold}
use Rattle.std.specs.List.{list_all}
use Rattle.mp_logic.specs.declared.sym.Sym.{Sym}
use Rattle.mp_term.specs.declared.term.Term.{Term, Var, Op}
use Rattle.mp_term.specs.declared.term.Bound.{Bound}
use Rattle.mp_term.specs.Terms.{in_scope_of, all_at_scope}
use Rattle.mp_term.specs.Limits.{in_scopes_from}
use Rattle.mp_term.specs.Subst.{occurs_in, variables, sub_of, AreInScope, widest_of, widest_at}
use Rattle.mp_schema.specs.declared.pattern.Pattern.{Pattern}
use Rattle.mp_schema.specs.declared.pattern.PBound.{PBound}
use Rattle.mp_schema.specs.Instances.{inst_of, inst_bound, made_each, fits, fits_bound, all_pass}
use Rattle.mp_schema.specs.Sequents.{Instance, Spot, ground_at, wide_of, item_fits}
use Rattle.mp_schema.specs.declared.schema.Item.{Item}
use Rattle.mp_schema.specs.Conditions.{below, below_bound, lists_known, lists_known_bound, has, has_all, Before, past_all, each_item, pattern_placed, item_placed}
use Rattle.mp_build.specs.declared.site.Start.{Start}
use Rattle.mp_build.specs.declared.site.Site.{Site}
use Rattle.mp_build.specs.Rooms.{room, room_bound, telescope_room, item_room, items_room}
use Rattle.mp_build.specs.Sizes.{item_count}

-- the levels, with this one for the context's name
abbrev pub with_start : (Sym → ℕ) → Start → Sym → ℕ
with_start pos s name = if nat_eq name.0 s.name.0 then s.level else pos name

-- the level at which each context begins; 0 if it isn't there
abbrev pub start_of : List Start → Sym → ℕ
start_of starts = fold with_start (λ name. 0) starts

-- the place, as instances see it
abbrev pub spot_of : Site → Spot
spot_of s = record { env = s.places.items; pos = start_of s.starts.items; next = s.next }

-- the terms of a pattern's levels in scope m: the named hypotheses, and the variables from base on, which binders brought
abbrev pub env_at : Spot → ℕ → ℕ → List Term
env_at l base m = map Var l.env ++ variables base (m - base)

module _ (v : Instance) (l : Spot) (base : ℕ) where
  -- the pattern's instance in scope m
  abbrev pub made_at : Pattern → ℕ → Term
  made_at p m = inst_of (ground_at v l.pos) v.values p (env_at l base m) m

  -- the bodies that are made there
  abbrev pub bodies_at : List PBound → ℕ → List Bound
  bodies_at bs m = made_each (map (inst_bound (ground_at v l.pos) v.values) bs) (env_at l base m) m

  -- the arguments that are made there
  abbrev pub args_at : List Pattern → ℕ → List Term
  args_at args m = made_each (map (inst_of (ground_at v l.pos) v.values) args) (env_at l base m) m

-- what stands for an argument that isn't used
abbrev pub the_blank : Term
the_blank = Op (record { 0 = 0 }) [] []

module _ (v : Instance) (l : Spot) (base : ℕ) (t : Term) where
  -- the terms of those arguments that stand in the term, the first of which has this level, and a blank for each other
  abbrev pub used_terms : ℕ → List Pattern → ℕ → List Term
  used_terms level [] m = []
  used_terms level (a ∷ rest) m = (if occurs_in level t then made_at v l base a m else the_blank) ∷ used_terms (level + 1) rest m

-- the items from this place on became these, and the others stay
abbrev pub AreArgsSet : List Term → ℕ → List Term → List Term → Type 0
AreArgsSet made first old new =
    (fore places back : List Term) → old ≡ fore ++ places ++ back → length fore ≡ first → length places ≡ length made → new ≡ fore ++ made ++ back

-- the ambient variables and the named hypotheses are among the hypotheses made, and so are the known contexts' variables
pub record IsSpot (v : Instance) (l : Spot) (known : List Sym) : Type 0 where
  pub ambient : v.ambient ≤ l.next
  pub named : All (λ level. level < l.next) l.env
  pub made : (c : Sym) → IsTrue (has known c) → l.pos c + length (v.kept c) ≤ l.next

-- what the instance of a pattern in scope m, with binders from base on, asks
pub record IsBuildable (v : Instance) (l : Spot) (base : ℕ) (p : Pattern) (m : ℕ) : Type 0 where
  pub known : List Sym
  pub spot : IsSpot v l known
  pub outer : l.next ≤ base
  pub inner : base ≤ m
  pub closed : IsTrue (below p (length l.env + (m - base)))
  pub fitting : IsTrue (fits (wide_of v) v.values p)
  pub listed : IsTrue (lists_known known p)
  pub narrow : room (wide_of v) v.values p m < 2 ^ 31

-- what making bodies asks
pub record AreBuildableBodies (v : Instance) (l : Spot) (base : ℕ) (bs : List PBound) (m : ℕ) : Type 0 where
  pub known : List Sym
  pub spot : IsSpot v l known
  pub outer : l.next ≤ base
  pub inner : base ≤ m
  pub closed : IsTrue (all_at_scope (length l.env + (m - base)) (map below_bound bs))
  pub fitting : IsTrue (all_pass (map (fits_bound (wide_of v) v.values) bs))
  pub listed : IsTrue (all_pass (map (lists_known_bound known) bs))
  pub narrow : widest_at m (map (room_bound (wide_of v) v.values) bs) < 2 ^ 31

-- what making arguments asks
pub record AreBuildableArgs (v : Instance) (l : Spot) (base : ℕ) (args : List Pattern) (m : ℕ) : Type 0 where
  pub known : List Sym
  pub spot : IsSpot v l known
  pub outer : l.next ≤ base
  pub inner : base ≤ m
  pub closed : IsTrue (all_at_scope (length l.env + (m - base)) (map below args))
  pub fitting : IsTrue (all_pass (map (fits (wide_of v) v.values) args))
  pub listed : IsTrue (all_pass (map (lists_known known) args))
  pub narrow : widest_at m (map (room (wide_of v) v.values) args) < 2 ^ 31

-- what the substitution of terms of scope m for the variables of a term asks
pub record IsSubstitutable (t : Term) (terms : List Term) (m : ℕ) : Type 0 where
  pub count : length terms < 2 ^ 31
  pub scoped : IsTrue (in_scope_of t (length terms))
  pub terms_scoped : AreInScope m terms
  pub narrow : widest_of t (length terms) < 2 ^ 31
  pub made_narrow : widest_of (sub_of t terms m) m < 2 ^ 31

-- what making the hypotheses of a context from number j on asks, if these are left of its terms
pub record IsRowBuildable (v : Instance) (l : Spot) (ctxs : List Sym) (args : List Pattern) (j : ℕ) (ts : List Term) : Type 0 where
  pub known : List Sym
  pub spot : IsSpot v l known
  pub listed : IsTrue (has_all known ctxs)
  pub closed : IsTrue (all_at_scope (length l.env) (map below args))
  pub fitting : IsTrue (all_pass (map (fits (wide_of v) v.values) args))
  pub args_listed : IsTrue (all_pass (map (lists_known known) args))
  pub scoped : IsTrue (in_scopes_from (wide_of v ctxs + length args + j) ts)
  pub narrow : telescope_room v ctxs args l.next j ts < 2 ^ 31

-- hypothesis j of a context, made of this term
abbrev pub kept_at : Instance → Spot → List Sym → List Pattern → ℕ → Term → Term
kept_at v l ctxs args j t =
    sub_of t (
    map Var (ground_at v l.pos ctxs) ++ made_each (map (inst_of (ground_at v l.pos) v.values) args) (map Var l.env) (l.next + j) ++ variables l.next j
    ) (l.next + j)

-- what stands before the place, in the schema and in the sequent that is made
pub record IsBefore (v : Instance) (l : Spot) (b : Before) : Type 0 where
  pub named : length l.env ≡ b.named
  pub spot : IsSpot v l b.contexts

-- what the hypotheses of an item ask
pub record IsItemBuildable (v : Instance) (l : Spot) (i : Item) : Type 0 where
  pub before : Before
  pub stands : IsBefore v l before
  pub placed : IsTrue (item_placed i before)
  pub fitting : IsTrue (item_fits v i)
  pub narrow : item_room v i l.next < 2 ^ 31
  pub few : l.next + item_count v i < 2 ^ 31

-- what making the items and the conclusion after them asks
pub record AreItemsBuildable (v : Instance) (l : Spot) (is : List Item) (concl : Pattern) : Type 0 where
  pub before : Before
  pub stands : IsBefore v l before
  pub placed : IsTrue (each_item item_placed is before)
  pub concl_placed : IsTrue (pattern_placed concl (past_all is before))
  pub fitting : IsTrue (list_all (item_fits v) is)
  pub concl_fitting : IsTrue (fits (wide_of v) v.values concl)
  pub narrow : items_room v is concl l.next < 2 ^ 31
