-- The size and the depth of an instance, from those of its parts.
use Rattle.std.specs.Prelude.{◌≡◌, ℕ, ◌+◌, ◌<◌, ◌≤◌, max, sum, List, [], ◌∷◌, ◌++◌, map, length, replicate, if◌then◌else◌, Option, Some, None, Result, Ok, Err}
use Rattle.std.specs.Global.{Vec}
use Rattle.mp_logic.specs.declared.sym.Sym.{Sym}
use Rattle.mp_term.specs.declared.measure.Weight.{Weight}
use Rattle.mp_term.specs.declared.term.Term.{Term}
use Rattle.mp_logic.specs.Lists.{greatest}
use Rattle.mp_term.specs.Subst.{occurs_in}
use Rattle.mp_term.specs.Sizes.{sub_size, sub_depth}
use Rattle.mp_schema.specs.declared.pattern.Pattern.{Pattern, Pattern-F}
use Rattle.mp_schema.specs.declared.pattern.PBound.{PBound, PBound-F}
use Rattle.mp_schema.specs.declared.pattern.Pattern.TheOpen as layer
use Rattle.mp_schema.specs.declared.pattern.Pattern.TheFolds.{fold-Pattern, fold-PBound}
use Rattle.mp_schema.specs.declared.schema.Item.{Item}
use Rattle.mp_schema.specs.declared.schema.Item.TheVariants.{Ctx, Hyp}
use Rattle.mp_schema.specs.declared.schema.Schema.{Schema}
use Rattle.mp_schema.specs.Instances.{Values, Wide}
use Rattle.mp_schema.specs.Sequents.{Instance, wide_of}
use Rattle.mp_build.specs.declared.error.BuildErr.{BuildErr}
use Rattle.mp_build.specs.declared.error.BuildErr.TheVariants.{TooLarge, NoMemory}

-- a bound body counts as its pattern
abbrev pub pattern_body_step : PBound-F ℕ ℕ → ℕ
pattern_body_step b = b.body

-- a 1 for each variable that a value has before its arguments, and then the arguments' numbers
abbrev pub behind_ones : ℕ → List ℕ → List ℕ
behind_ones before args = replicate before 1 ++ args

module _ (wide : Wide) (v : Values) where
  -- the size of one layer's instance, from those of its parts
  abbrev pub inst_size_step : Pattern-F ℕ ℕ → ℕ
  inst_size_step (layer.Var level) = 1
  inst_size_step (layer.Op op params subs) = 1 + sum subs
  inst_size_step (layer.Meta name ctxs args) = sub_size (behind_ones (wide ctxs) args) (v.meta name)

  -- the size of the pattern's instance
  abbrev pub inst_size : Pattern → ℕ
  inst_size = fold-Pattern ℕ ℕ inst_size_step pattern_body_step

  -- the size of a bound body's instance
  abbrev pub inst_size_bound : PBound → ℕ
  inst_size_bound = fold-PBound ℕ ℕ inst_size_step pattern_body_step

  -- the depth of one layer's instance, from those of its parts
  abbrev pub inst_depth_step : Pattern-F ℕ ℕ → ℕ
  inst_depth_step (layer.Var level) = 1
  inst_depth_step (layer.Op op params subs) = 1 + greatest subs
  inst_depth_step (layer.Meta name ctxs args) = sub_depth (behind_ones (wide ctxs) args) (v.meta name)

  -- the depth of the pattern's instance
  abbrev pub inst_depth : Pattern → ℕ
  inst_depth = fold-Pattern ℕ ℕ inst_depth_step pattern_body_step

  -- the depth of a bound body's instance
  abbrev pub inst_depth_bound : PBound → ℕ
  inst_depth_bound = fold-PBound ℕ ℕ inst_depth_step pattern_body_step

-- the numbers of those arguments that stand in the term, the first of which has this level, and 1 for the others
abbrev pub used_from : (Pattern → ℕ) → Term → ℕ → List Pattern → List ℕ
used_from f t level [] = []
used_from f t level (a ∷ rest) = (if occurs_in level t then f a else 1) ∷ used_from f t (level + 1) rest

-- the weight of what has this size and this depth, both within the limits
pub record IsWeight (size depth : ℕ) (w : Weight) : Type 0 where
  pub size_is : w.size ≡ size
  pub depth_is : w.depth ≡ depth
  pub small : size ≤ 20000
  pub shallow : depth ≤ 200

-- one of both is over its limit
abbrev pub IsOver : ℕ → ℕ → Type 0
IsOver size depth = size ≤ 20000 → 200 < depth

-- the weight if both are within the limits, and none if one is over
abbrev pub IsWeighed : ℕ → ℕ → Option Weight → Type 0
IsWeighed size depth None = IsOver size depth
IsWeighed size depth (Some w) = IsWeight size depth w

-- the weight, TooLarge if over a limit, or want of memory
abbrev pub IsWeighing : ℕ → ℕ → Result Weight BuildErr → Type 0
IsWeighing size depth (Ok w) = IsWeight size depth w
IsWeighing size depth (Err TooLarge) = IsOver size depth
IsWeighing size depth (Err NoMemory) = Unit {0}

module _ (v : Instance) where
  -- the size of a term in which these contexts' variables and these arguments stand for its variables
  abbrev pub applied_size : List Sym → List Pattern → Term → ℕ
  applied_size ctxs args t = sub_size (behind_ones (wide_of v ctxs) (map (inst_size (wide_of v) v.values) args)) t

  -- the depth of a value applied to its contexts and arguments
  abbrev pub applied_depth : List Sym → List Pattern → Term → ℕ
  applied_depth ctxs args t = sub_depth (behind_ones (wide_of v ctxs) (map (inst_depth (wide_of v) v.values) args)) t

  -- the number of hypotheses that an item makes
  abbrev pub item_count : Item → ℕ
  item_count (Hyp p) = 1
  item_count (Ctx name ctxs args) = length (v.kept name)

  -- their sizes together
  abbrev pub item_size : Item → ℕ
  item_size (Hyp p) = inst_size (wide_of v) v.values p
  item_size (Ctx name ctxs args) = sum (map (applied_size ctxs args) (v.kept name))

  -- the greatest of their depths
  abbrev pub item_depth : Item → ℕ
  item_depth (Hyp p) = inst_depth (wide_of v) v.values p
  item_depth (Ctx name ctxs args) = greatest (map (applied_depth ctxs args) (v.kept name))

  -- the number of hypotheses that a schema makes
  abbrev pub schema_count : Schema → ℕ
  schema_count s = sum (map item_count s.items)

  -- the sizes of the terms that it makes, together
  abbrev pub schema_size : Schema → ℕ
  schema_size s = sum (map item_size s.items) + inst_size (wide_of v) v.values s.concl

  -- the greatest of their depths
  abbrev pub schema_depth : Schema → ℕ
  schema_depth s = max (greatest (map item_depth s.items)) (inst_depth (wide_of v) v.values s.concl)

  -- the weights of arguments, the first of which has this level, where they stand in the term; too large where a used
  -- one makes the term so
  abbrev pub AreWeighed : Term → ℕ → List Pattern → Result (Vec Weight) BuildErr → Type 0
  AreWeighed t before args (Ok ws) =
      (map (λ w. w.size) ws.items ≡ used_from (inst_size (wide_of v) v.values) t before args) ×
      (map (λ w. w.depth) ws.items ≡ used_from (inst_depth (wide_of v) v.values) t before args)
  AreWeighed t before args (Err TooLarge) =
      IsOver (sub_size (behind_ones before (map (inst_size (wide_of v) v.values) args)) t) (sub_depth (behind_ones before (map (inst_depth (wide_of v) v.values) args)) t)
  AreWeighed t before args (Err NoMemory) = Unit {0}
