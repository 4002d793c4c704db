-- The room of a pattern bounds that of its parts.
use Rattle.std.proofs.Common.{◌≡◌, ℕ, ◌+◌, ◌<◌, ◌≤◌, ◌^◌, List, [], ◌∷◌, length, map, get_or, drop, suc, arith}
use Rattle.mp_logic.specs.declared.sym.Sym.{Sym}
use Rattle.mp_term.specs.declared.term.Term.{Term}
use Rattle.mp_term.specs.Induction.{each_term}
use Rattle.mp_term.specs.Subst.{Widths, widest_of, widest_at, width_bound}
use Rattle.mp_term.proofs.Layers.{widest-Var, widest-Op}
use Rattle.mp_term.proofs.SubLaws.{drop-at}
use Rattle.mp_schema.specs.declared.pattern.Pattern.{Pattern}
use Rattle.mp_schema.specs.declared.pattern.Pattern as pat
use Rattle.mp_schema.specs.declared.pattern.PBound.{PBound}
use Rattle.mp_schema.specs.declared.schema.Item.{Item}
use Rattle.mp_schema.specs.declared.schema.Item.TheVariants.{Ctx}
use Rattle.mp_schema.specs.Instances.{Values, Wide}
use Rattle.mp_schema.specs.Sequents.{Instance, wide_of}
use Rattle.mp_build.specs.Rooms.{room, room_bound, IsNarrowSomewhere, telescope_room, item_room}
use Rattle.mp_build.proofs.Layers.{room-Meta, room_bound-is}

pub widest_at-ge : (n : ℕ) (ws : List Widths) → n ≤ widest_at n ws
widest_at-ge n [] = omega arith
widest_at-ge n (w ∷ ws) = omega (arith, widest_at-ge n ws)

-- a term's own scope is among its scopes
pub widest-ge : (t : Term) (n : ℕ) → n ≤ widest_of t n
widest-ge = each_term (λ t. (n : ℕ) → n ≤ widest_of t n) (λ i n. rw widest-Var (omega arith)) (λ o ps bs h n. rw widest-Op (widest_at-ge n (map width_bound bs)))

module _ (wide : Wide) (v : Values) where
  -- the body that comes next, and those behind it
  pub narrow_body : (bs : List PBound) (i : ℕ) (b : PBound) → i < length bs → b ≡ get_or bs i b →
      IsNarrowSomewhere (λ m. widest_at m (map (room_bound wide v) (drop i bs))) →
      IsNarrowSomewhere (room wide v b.body) × IsNarrowSomewhere (λ m. widest_at m (map (room_bound wide v) (drop (i + 1) bs)))
  narrow_body bs i b low is (m, h) =
      let next = drop-at bs i b low is in
      let h' = rw next at h in
      let own = room_bound-is wide v b m in
      ((m + b.binders, omega (arith, h', own)), (m, omega (arith, h')))

  pub narrow_arg : (ps : List Pattern) (i : ℕ) (p : Pattern) → i < length ps → p ≡ get_or ps i p →
      IsNarrowSomewhere (λ m. widest_at m (map (room wide v) (drop i ps))) →
      IsNarrowSomewhere (room wide v p) × IsNarrowSomewhere (λ m. widest_at m (map (room wide v) (drop (i + 1) ps)))
  narrow_arg ps i p low is (m, h) =
      let next = drop-at ps i p low is in
      let h' = rw next at h in
      ((m, omega (arith, h')), (m, omega (arith, h')))

  pub narrow_Meta : (p : Pattern) (n : Sym) (cs : List Sym) (args : List Pattern) → p ≡ pat.Meta n cs args → IsNarrowSomewhere (room wide v p) →
      (wide cs < 2 ^ 31) × IsNarrowSomewhere (λ m. widest_at m (map (room wide v) args))
  narrow_Meta p n cs args is (m, h) =
      let h' = rw (is, room-Meta) at h in
      let own = widest-ge (v.meta n) (wide cs + length args) in
      (omega (arith, h', own), (m, omega (arith, h')))

module _ (v : Instance) where
  pub narrow_row : (ctxs : List Sym) (args : List Pattern) (c j : ℕ) (ts : List Term) → telescope_room v ctxs args c j ts < 2 ^ 31 →
      (wide_of v ctxs < 2 ^ 31) × IsNarrowSomewhere (λ m. widest_at m (map (room (wide_of v) v.values) args))
  narrow_row ctxs args c j [] h = (omega arith, (c + j, omega arith))
  narrow_row ctxs args c j (t ∷ ts) h = narrow_row ctxs args c (suc j) ts (omega arith)

  pub narrow_Ctx : (i : Item) (n : Sym) (cs : List Sym) (args : List Pattern) → i ≡ Ctx n cs args → IsNarrowSomewhere (item_room v i) →
      (wide_of v cs < 2 ^ 31) × IsNarrowSomewhere (λ m. widest_at m (map (room (wide_of v) v.values) args))
  narrow_Ctx i n cs args is (m, h) = narrow_row cs args m 0 (v.kept n) (rw is at h)
