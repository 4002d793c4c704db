-- The static rules of schemata and rules as they are written.
use Rattle.std.specs.Prelude.{ℕ, ◌+◌, ◌++◌, sum, List, [], ◌∷◌, length, map, Bool, true, false, not, nat_lt, nat_eq, slice_get, if◌then◌else◌}
use Rattle.std.specs.List.{flat_map}
use Rattle.mp_logic.specs.declared.sym.Sym.{Sym}
use Rattle.mp_term.specs.declared.limits.TheConstants.{MOST_NODES}
use Rattle.mp_schema.specs.declared.limits.TheConstants.{MOST_ITEMS, MOST_PREMISES}
use Rattle.mp_words.specs.declared.fail.TextErr.{TextErr}
use Rattle.mp_words.specs.declared.raw.RawName.{RawName}
use Rattle.mp_words.specs.Faults.{fault_at_any, fault_if, too_many}
use Rattle.mp_termtext.specs.Statics.{each_faults}
use Rattle.mp_schematext.specs.declared.raw.RawItem.{RawItem}
use Rattle.mp_schematext.specs.declared.raw.RawSchema.{RawSchema}
use Rattle.mp_schematext.specs.declared.raw.RawRule.{RawRule}
use Rattle.mp_patterntext.specs.Scopes.{syms_of}
use Rattle.mp_schematext.specs.Scopes.{env_past, env_behind, contexts_of, contexts_past}
use Rattle.mp_words.specs.Seconds.{second_faults}
use Rattle.mp_patterntext.specs.Nodes.{argument_of, dangling_faults, node_faults, use_faults}
use Rattle.mp_patterntext.specs.Uses.{hole_faults, uses_faults}
use Rattle.mp_schematext.specs.Uses.{raw_schema_holes, uses_in_rule}
use Rattle.mp_patterntext.specs.Sizes.{raw_pattern_size_of}
use Rattle.mp_words.specs.declared.fail.TextWhy.TheVariants as why
use Rattle.mp_schematext.specs.declared.raw.RawItem.TheVariants as item

-- ## Sizes

-- a context isn't counted, and its arguments are
abbrev pub raw_item_size_of : RawItem → ℕ
raw_item_size_of (item.Ctx name ctxs args at) = sum (map raw_pattern_size_of args)
raw_item_size_of (item.Hyp name pattern at) = raw_pattern_size_of pattern

-- the sizes of the items and of the conclusion, together
abbrev pub raw_schema_size_of : RawSchema → ℕ
raw_schema_size_of s = sum (map raw_item_size_of s.items) + raw_pattern_size_of s.concl

-- ## Items

-- the first byte of the item
abbrev pub item_at : RawItem → ℕ
item_at (item.Ctx name ctxs args at) = at
item_at (item.Hyp name pattern at) = at

-- the faults of the nodes of an item: a context counts as a node, so its arguments are at depth 2
abbrev pub item_faults : List Sym → Bool → RawItem → List Sym → List TextErr
item_faults known is_matched (item.Ctx name ctxs args at) env =
    use_faults known is_matched ctxs (map argument_of args) ++ each_faults (map (node_faults known is_matched) args) env 2
item_faults known is_matched (item.Hyp name pattern at) env = node_faults known is_matched pattern env 1

-- the faults of items, each after the contexts and the bound names before it
abbrev pub items_faults : List Sym → Bool → List RawItem → List Sym → List TextErr
items_faults known is_matched [] env = []
items_faults known is_matched (i ∷ is) env = item_faults known is_matched i env ++ items_faults (contexts_past i known) is_matched is (env_past i env)

-- the faults of named hypotheses that don't stand after exactly one context; so many contexts stand before these items
abbrev pub misplaced_faults : ℕ → List RawItem → List TextErr
misplaced_faults before [] = []
misplaced_faults before (item.Ctx name ctxs args at ∷ is) = misplaced_faults (before + 1) is
misplaced_faults before (item.Hyp name pattern at ∷ is) = fault_if (not (nat_eq before 1)) at why.MisplacedHyp ++ misplaced_faults before is

-- at most two contexts, and the named hypotheses between them where there are two
abbrev pub frame_faults : RawSchema → List TextErr
frame_faults s =
    fault_at_any (λ (c : RawName). c.at) why.TooManyContexts (slice_get (contexts_of s) 2) ++ (if nat_eq (length (contexts_of s)) 2 then misplaced_faults 0 s.items else [])

-- ## Schemata, rules and theories

-- what is asked of every schema: few items, no context that is an item twice, what is asked of its nodes, and few nodes
abbrev pub schema_faults : Bool → RawSchema → List TextErr
schema_faults is_matched s =
    too_many item_at MOST_ITEMS s.items ++ second_faults (λ c. c) why.TwiceContext (contexts_of s) ++ items_faults [] is_matched s.items []
    ++ node_faults (syms_of (contexts_of s)) is_matched s.concl (env_behind s.items []) 1 ++ fault_if (nat_lt MOST_NODES (raw_schema_size_of s)) s.at why.TooBig

-- the faults of a premise of a rule whose conclusion has these contexts: its own are among them
abbrev pub premise_faults : List Sym → RawSchema → List TextErr
premise_faults concl s = dangling_faults concl (contexts_of s) ++ schema_faults false s

-- the faults of a conclusion
abbrev pub conclusion_faults : RawSchema → List TextErr
conclusion_faults s = frame_faults s ++ schema_faults true s

-- the faults of a rule but that its name is taken
abbrev pub rule_faults : RawRule → List TextErr
rule_faults r =
    too_many (λ s. s.at) MOST_PREMISES r.premises ++ flat_map (premise_faults (syms_of (contexts_of r.concl))) r.premises ++ conclusion_faults r.concl
    ++ uses_faults (uses_in_rule r) ++ hole_faults (syms_of (raw_schema_holes r.concl)) (flat_map raw_schema_holes r.premises)
