-- The limits of patterns and schemata, each as a test.
use Rattle.std.specs.Prelude.{ℕ, ◌+◌, sum, map, length, Bool, true, nat_le, ◌&&◌}
use Rattle.std.specs.List.{list_all}
use Rattle.mp_logic.specs.Lists.{greatest}
use Rattle.mp_schema.specs.declared.pattern.Pattern.{Pattern, Pattern-F}
use Rattle.mp_schema.specs.declared.pattern.PBound.{PBound, PBound-F}
use Rattle.mp_schema.specs.declared.pattern.Pattern.TheOpen as layer
use Rattle.mp_schema.specs.declared.pattern.Pattern.TheFolds.{fold-Pattern, fold-PBound}
use Rattle.mp_schema.specs.declared.schema.Item.{Item}
use Rattle.mp_schema.specs.declared.schema.Item.TheVariants.{Ctx, Hyp}
use Rattle.mp_schema.specs.declared.schema.Schema.{Schema}
use Rattle.mp_schema.specs.Instances.{all_pass}
use Rattle.mp_term.specs.declared.limits.TheConstants.{MOST_DEPTH, MOST_NODES, MOST_PARAMETERS, MOST_BINDERS}
use Rattle.mp_schema.specs.declared.limits.TheConstants.{MOST_ITEMS, MOST_CONTEXTS, MOST_ARGUMENTS}

-- ## How many

-- one layer is within the limits on numbers if its own lists and its parts are
abbrev pub few_step : Pattern-F Bool Bool → Bool
few_step (layer.Var level) = true
few_step (layer.Op op params subs) = nat_le (length params) MOST_PARAMETERS && all_pass subs
few_step (layer.Meta name ctxs args) = nat_le (length ctxs) MOST_CONTEXTS && nat_le (length args) MOST_ARGUMENTS && all_pass args

-- a body of few parts, below few binders
abbrev pub few_bound_step : PBound-F Bool Bool → Bool
few_bound_step b = nat_le b.binders MOST_BINDERS && b.body

-- each operator has at most 16 parameters, each subterm at most 8 binders, and each second-order variable at most 8
-- contexts and at most 8 arguments
abbrev pub few_of : Pattern → Bool
few_of = fold-Pattern Bool Bool few_step few_bound_step

-- a bound body has at most 8 binders, and a pattern within the limits on numbers
abbrev pub few_of_bound : PBound → Bool
few_of_bound = fold-PBound Bool Bool few_step few_bound_step

-- an item is within the limits on numbers: its pattern, or a context's own lists and its arguments
abbrev pub few_of_item : Item → Bool
few_of_item (Hyp p) = few_of p
few_of_item (Ctx name ctxs args) = nat_le (length ctxs) MOST_CONTEXTS && nat_le (length args) MOST_ARGUMENTS && all_pass (map few_of args)

-- a schema has at most 200 items, each within the limits on numbers
abbrev pub few_of_schema : Schema → Bool
few_of_schema s = nat_le (length s.items) MOST_ITEMS && list_all few_of_item s.items && few_of s.concl

-- ## How deep

-- a body is as deep as its pattern
abbrev pub pattern_body_step : PBound-F ℕ ℕ → ℕ
pattern_body_step b = b.body

-- the depth of one layer, from the depths of its parts
abbrev pub pattern_depth_step : Pattern-F ℕ ℕ → ℕ
pattern_depth_step (layer.Var level) = 1
pattern_depth_step (layer.Op op params subs) = 1 + greatest subs
pattern_depth_step (layer.Meta name ctxs args) = 1 + greatest args

-- a variable's depth is 1, and that of another pattern is 1 more than that of its deepest body or argument
abbrev pub pattern_depth_of : Pattern → ℕ
pattern_depth_of = fold-Pattern ℕ ℕ pattern_depth_step pattern_body_step

-- the depth of a bound body
abbrev pub pattern_depth_of_bound : PBound → ℕ
pattern_depth_of_bound = fold-PBound ℕ ℕ pattern_depth_step pattern_body_step

-- the arguments of a context are one deeper than the context
abbrev pub item_depth_of : Item → ℕ
item_depth_of (Hyp p) = pattern_depth_of p
item_depth_of (Ctx name ctxs args) = 1 + greatest (map pattern_depth_of args)

-- the pattern is no deeper than 200
abbrev pub is_shallow_pattern : Pattern → Bool
is_shallow_pattern p = nat_le (pattern_depth_of p) MOST_DEPTH

-- the item is no deeper than 200
abbrev pub is_shallow_item : Item → Bool
is_shallow_item i = nat_le (item_depth_of i) MOST_DEPTH

-- all items of a schema and its conclusion are no deeper than 200
abbrev pub is_shallow_schema : Schema → Bool
is_shallow_schema s = list_all is_shallow_item s.items && is_shallow_pattern s.concl

-- ## How big

-- the size of one layer, from the sizes of its parts
abbrev pub pattern_size_step : Pattern-F ℕ ℕ → ℕ
pattern_size_step (layer.Var level) = 1
pattern_size_step (layer.Op op params subs) = 1 + sum subs
pattern_size_step (layer.Meta name ctxs args) = 1 + sum args

-- the number of variables, operators and second-order variables
abbrev pub pattern_size_of : Pattern → ℕ
pattern_size_of = fold-Pattern ℕ ℕ pattern_size_step pattern_body_step

-- the size of a bound body
abbrev pub pattern_size_of_bound : PBound → ℕ
pattern_size_of_bound = fold-PBound ℕ ℕ pattern_size_step pattern_body_step

-- a context isn't counted, and its arguments are
abbrev pub item_size_of : Item → ℕ
item_size_of (Hyp p) = pattern_size_of p
item_size_of (Ctx name ctxs args) = sum (map pattern_size_of args)

-- the sizes of all items and of the conclusion
abbrev pub schema_size_of : Schema → ℕ
schema_size_of s = sum (map item_size_of s.items) + pattern_size_of s.concl

-- the pattern has at most 20,000 nodes
abbrev pub is_small_pattern : Pattern → Bool
is_small_pattern p = nat_le (pattern_size_of p) MOST_NODES

-- the schema has at most 20,000 nodes
abbrev pub is_small_schema : Schema → Bool
is_small_schema s = nat_le (schema_size_of s) MOST_NODES
