-- What building asks of a schema, and matching of a conclusion or a redex.
use Rattle.std.specs.Prelude.{ℕ, ◌+◌, List, [], ◌∷◌, map, length, Bool, true, false, ◌&&◌, ◌||◌, not, nat_lt, nat_le, nat_eq, Option, Some, None}
use Rattle.std.specs.List.{slice_index_or}
use Rattle.mp_logic.specs.declared.sym.Sym.{Sym}
use Rattle.mp_term.specs.Terms.{ScopeTest, all_at_scope}
use Rattle.mp_schema.specs.declared.pattern.Pattern.{Pattern, Pattern-F}
use Rattle.mp_schema.specs.declared.pattern.PBound.{PBound, PBound-F}
use Rattle.mp_schema.specs.declared.pattern.Pattern.TheOpen as layer
use Rattle.mp_schema.specs.declared.pattern.Pattern.TheFolds.{fold-Pattern, fold-PBound}
use Rattle.mp_schema.specs.declared.schema.Item.{Item}
use Rattle.mp_schema.specs.declared.schema.Item.TheVariants.{Ctx, Hyp}
use Rattle.mp_schema.specs.declared.schema.Schema.{Schema}
use Rattle.mp_schema.specs.Instances.{all_pass}

-- ## Variables in range

-- one layer of a pattern is in range if its variable and its parts are
abbrev pub below_step : Pattern-F ScopeTest ScopeTest → ScopeTest
below_step (layer.Var level) d = nat_lt level d
below_step (layer.Op op params subs) d = all_at_scope d subs
below_step (layer.Meta name ctxs args) d = all_at_scope d args

-- a body may use its binders too
abbrev pub below_bound_step : PBound-F ScopeTest ScopeTest → ScopeTest
below_bound_step b d = b.body (d + b.binders)

-- each variable of the pattern is one of d levels or a binder before it
abbrev pub below : Pattern → ScopeTest
below = fold-Pattern ScopeTest ScopeTest below_step below_bound_step

-- each variable of the bound body is one of d levels or a binder before it
abbrev pub below_bound : PBound → ScopeTest
below_bound = fold-PBound ScopeTest ScopeTest below_step below_bound_step

-- ## Lists of contexts

-- the name is in the list
abbrev pub has : List Sym → Sym → Bool
has [] name = false
has (x ∷ xs) name = nat_eq x.0 name.0 || has xs name

-- each of the names is in the first list
abbrev pub has_all : List Sym → List Sym → Bool
has_all known [] = true
has_all known (x ∷ xs) = has known x && has_all known xs

-- no name is in the list twice
abbrev pub is_apart : List Sym → Bool
is_apart [] = true
is_apart (x ∷ xs) = not (has xs x) && is_apart xs

-- the second list has only names of the first one, and none twice
abbrev pub is_known : List Sym → List Sym → Bool
is_known known names = has_all known names && is_apart names

module _ (known : List Sym) where
  -- the lists of one layer are known if its own list and those of its parts are
  abbrev pub lists_known_step : Pattern-F Bool Bool → Bool
  lists_known_step (layer.Var level) = true
  lists_known_step (layer.Op op params subs) = all_pass subs
  lists_known_step (layer.Meta name ctxs args) = is_known known ctxs && all_pass args

  -- a bound body's lists are its pattern's
  abbrev pub lists_known_bound_step : PBound-F Bool Bool → Bool
  lists_known_bound_step b = b.body

  -- each second-order variable's list of contexts has only these names, and none twice
  abbrev pub lists_known : Pattern → Bool
  lists_known = fold-Pattern Bool Bool lists_known_step lists_known_bound_step

  -- each list of contexts in a bound body has only these names, and none twice
  abbrev pub lists_known_bound : PBound → Bool
  lists_known_bound = fold-PBound Bool Bool lists_known_step lists_known_bound_step

-- ## Arguments that are distinct variables

-- the level of a pattern that is a variable, and whether each second-order variable below so many levels is applied to
-- distinct variables
pub record Seen : Type 0 where
  pub level : Option ℕ
  pub fine : ℕ → Bool

-- whether each second-order variable of a bound body, below so many levels, is applied to distinct variables
pub record SeenBound : Type 0 where
  pub fine : ℕ → Bool

-- the level isn't in the list
abbrev pub apart_from : ℕ → List ℕ → Bool
apart_from x [] = true
apart_from x (y ∷ ys) = not (nat_eq x y) && apart_from x ys

-- the pattern is a variable below d
abbrev pub is_level_below : ℕ → Option ℕ → Bool
is_level_below d None = false
is_level_below d (Some level) = nat_lt level d

-- the level, or 0 if there is none
abbrev pub or_zero : Option ℕ → ℕ
or_zero None = 0
or_zero (Some level) = level

-- the variable of an argument, if the pattern's levels are these variables
abbrev pub argument : List ℕ → Option ℕ → ℕ
argument levels level = slice_index_or levels (or_zero level) 0

-- each of the patterns is a variable below d
abbrev pub all_variables : ℕ → List Seen → Bool
all_variables d [] = true
all_variables d (a ∷ rest) = is_level_below d a.level && all_variables d rest

-- no level is in the list twice
abbrev pub all_apart : List ℕ → Bool
all_apart [] = true
all_apart (x ∷ xs) = apart_from x xs && all_apart xs

-- each second-order variable in the bodies is applied to distinct variables
abbrev pub all_fine : ℕ → List SeenBound → Bool
all_fine d [] = true
all_fine d (b ∷ bs) = b.fine d && all_fine d bs

-- the arguments are distinct variables
abbrev pub args_fine : ℕ → List Seen → Bool
args_fine d args = all_variables d args && all_apart (map (λ (a : Seen). or_zero a.level) args)

-- what is seen of one layer of a pattern, from what is seen of its parts
abbrev pub seen_step : Pattern-F Seen SeenBound → Seen
seen_step (layer.Var level) = record { level = Some level; fine = λ d. nat_lt level d }
seen_step (layer.Op op params subs) = record { level = None; fine = λ d. all_fine d subs }
seen_step (layer.Meta name ctxs args) = record { level = None; fine = λ d. args_fine d args }

-- below its binders a bound body has so many levels more
abbrev pub seen_bound_step : PBound-F Seen SeenBound → SeenBound
seen_bound_step b = record { fine = λ d. b.body.fine (d + b.binders) }

-- what is seen of a pattern
abbrev pub seen : Pattern → Seen
seen = fold-Pattern Seen SeenBound seen_step seen_bound_step

-- what is seen of a bound body
abbrev pub seen_bound : PBound → SeenBound
seen_bound = fold-PBound Seen SeenBound seen_step seen_bound_step

-- ## Items from left to right

-- what stands before an item: how many named hypotheses, and which contexts, the last one first
pub record Before : Type 0 where
  pub named : ℕ
  pub contexts : List Sym

-- before the first item there is nothing
abbrev pub nothing_before : Before
nothing_before = record { named = 0; contexts = [] }

-- what stands before the next item
abbrev pub past : Item → Before → Before
past (Hyp p) b = record { named = b.named + 1; contexts = b.contexts }
past (Ctx name ctxs args) b = record { named = b.named; contexts = name ∷ b.contexts }

-- what stands before the conclusion
abbrev pub past_all : List Item → Before → Before
past_all [] b = b
past_all (i ∷ is) b = past_all is (past i b)

module _ (good : Item → Before → Bool) where
  -- each item is good with what stands before it
  abbrev pub each_item : List Item → Before → Bool
  each_item [] b = true
  each_item (i ∷ is) b = good i b && each_item is (past i b)

-- ## What building asks of a schema

-- the pattern's variables are in range, and its lists have only contexts before it
abbrev pub pattern_placed : Pattern → Before → Bool
pattern_placed p b = below p b.named && lists_known b.contexts p

-- the variables of all patterns are in range, and their lists have only contexts before them
abbrev pub all_placed : List Pattern → Before → Bool
all_placed [] b = true
all_placed (p ∷ ps) b = pattern_placed p b && all_placed ps b

-- an item's patterns are well placed, and its context isn't an earlier item
abbrev pub item_placed : Item → Before → Bool
item_placed (Hyp p) b = pattern_placed p b
item_placed (Ctx name ctxs args) b = not (has b.contexts name) && is_known b.contexts ctxs && all_placed args b

-- each variable is a named hypothesis or a binder before it, each context of a list is an item before it and in no
-- list twice, and no context is an item twice
abbrev pub is_placed : Schema → Bool
is_placed s = each_item item_placed s.items nothing_before && pattern_placed s.concl (past_all s.items nothing_before)

-- ## What matching asks of a conclusion

-- an item's second-order variables, and a context itself, are applied to distinct variables
abbrev pub item_fine : Item → Before → Bool
item_fine (Hyp p) b = (seen p).fine b.named
item_fine (Ctx name ctxs args) b = args_fine b.named (map seen args)

-- all second-order variables and contexts of the schema are applied to distinct variables
abbrev pub is_fine : Schema → Bool
is_fine s = each_item item_fine s.items nothing_before && (seen s.concl).fine (past_all s.items nothing_before).named

-- the names of the contexts among the items, in order
abbrev pub contexts_among : List Item → List Sym
contexts_among [] = []
contexts_among (Hyp p ∷ is) = contexts_among is
contexts_among (Ctx name ctxs args ∷ is) = name ∷ contexts_among is

-- the names of the contexts of a schema
abbrev pub context_names : Schema → List Sym
context_names s = contexts_among s.items

-- exactly two items are contexts
abbrev pub has_two_contexts : Schema → Bool
has_two_contexts s = nat_eq (length (context_names s)) 2

-- one context stands before a named hypothesis
abbrev pub item_between : Item → Before → Bool
item_between (Hyp p) b = nat_eq (length b.contexts) 1
item_between (Ctx name ctxs args) b = true

-- if there are two contexts, each named hypothesis stands between them
abbrev pub is_framed : Schema → Bool
is_framed s = not (has_two_contexts s) || each_item item_between s.items nothing_before

-- a schema that can be matched: well placed, on distinct variables, with at most two contexts, and if there are two,
-- with all named hypotheses between them
abbrev pub is_conclusion : Schema → Bool
is_conclusion s = is_placed s && is_fine s && nat_le (length (context_names s)) 2 && is_framed s
