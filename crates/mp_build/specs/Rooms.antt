-- The widest scope on the way to an instance.
use Rattle.std.specs.Prelude.{ℕ, ◌+◌, ◌^◌, ◌<◌, suc, List, [], ◌∷◌, map, length, max}
use Rattle.mp_logic.specs.declared.sym.Sym.{Sym}
use Rattle.mp_term.specs.declared.term.Term.{Term}
use Rattle.mp_term.specs.Subst.{widest_of, Widths, widest_at}
use Rattle.mp_schema.specs.declared.pattern.Pattern.{Pattern, Pattern-F}
use Rattle.mp_schema.specs.declared.pattern.PBound.{PBound, PBound-F}
use Rattle.mp_schema.specs.declared.pattern.Pattern.TheOpen as layer
use Rattle.mp_schema.specs.declared.pattern.Pattern.TheFolds.{fold-Pattern, fold-PBound}
use Rattle.mp_schema.specs.declared.schema.Item.{Item}
use Rattle.mp_schema.specs.declared.schema.Item.TheVariants.{Ctx, Hyp}
use Rattle.mp_schema.specs.declared.schema.Schema.{Schema}
use Rattle.mp_schema.specs.Instances.{Values, Wide}
use Rattle.mp_schema.specs.Sequents.{Instance, wide_of}
use Rattle.mp_build.specs.Sizes.{item_count}

module _ (wide : Wide) (v : Values) where
  -- the widest scope of one layer, from those of its parts
  abbrev pub room_step : Pattern-F Widths Widths → Widths
  room_step (layer.Var level) m = m
  room_step (layer.Op op params subs) m = widest_at m subs
  room_step (layer.Meta name ctxs args) m = widest_of (v.meta name) (wide ctxs + length args) + widest_at m args

  -- the widest scope of a bound body, from that of its pattern in the scope after its binders
  abbrev pub room_bound_step : PBound-F Widths Widths → Widths
  room_bound_step b m = max (m + b.binders) (b.body (m + b.binders))

  -- no scope in the instance that is made in scope m, nor in a value for it, is wider
  abbrev pub room : Pattern → Widths
  room = fold-Pattern Widths Widths room_step room_bound_step

  -- the widest scope in making a bound body
  abbrev pub room_bound : PBound → Widths
  room_bound = fold-PBound Widths Widths room_step room_bound_step

-- in some scope, this stays below 2^31
abbrev pub IsNarrowSomewhere : Widths → Type 0
IsNarrowSomewhere widths = (m : ℕ) × (widths m < 2 ^ 31)

module _ (v : Instance) where
  -- the widest scope in making the hypotheses of a context that begins at level c, from number j on
  abbrev pub telescope_room : List Sym → List Pattern → ℕ → ℕ → List Term → ℕ
  telescope_room ctxs args c j [] = wide_of v ctxs + widest_at (c + j) (map (room (wide_of v) v.values) args)
  telescope_room ctxs args c j (t ∷ ts) =
      max (widest_of t (wide_of v ctxs + length args + j) + widest_at (c + j) (map (room (wide_of v) v.values) args)) (telescope_room ctxs args c (suc j) ts)

  -- the widest scope in making an item after m hypotheses
  abbrev pub item_room : Item → Widths
  item_room (Hyp p) m = room (wide_of v) v.values p m
  item_room (Ctx name ctxs args) m = telescope_room ctxs args m 0 (v.kept name)

  -- the widest scope in making items and the conclusion after them
  abbrev pub items_room : List Item → Pattern → Widths
  items_room [] concl m = room (wide_of v) v.values concl m
  items_room (i ∷ is) concl m = max (item_room i m) (items_room is concl (m + item_count v i))

  -- no scope in the sequent that a schema makes, nor in a value for it, is wider
  abbrev pub schema_room : Schema → ℕ
  schema_room s = items_room s.items s.concl 0
