-- What matching a schema finds, item by item, as a function.
use Rattle.std.specs.Prelude.{ℕ, ◌+◌, ◌-◌, zero, suc, List, [], ◌∷◌, ◌++◌, map, length, take, drop, nat_lt, if◌then◌else◌, Option, Some, None, option_and_then}
use Rattle.std.specs.Option.{option_map}
use Rattle.mp_logic.specs.declared.sym.Sym.{Sym}
use Rattle.mp_term.specs.declared.term.Term.{Term}
use Rattle.mp_term.specs.declared.sequent.Sequent.{Sequent}
use Rattle.mp_term.specs.Subst.{unrenamed}
use Rattle.mp_schema.specs.declared.instance.CtxVal.{CtxVal}
use Rattle.mp_schema.specs.declared.instance.Inst.{Inst}
use Rattle.mp_schema.specs.declared.pattern.Pattern.{Pattern}
use Rattle.mp_schema.specs.declared.schema.Item.{Item}
use Rattle.mp_schema.specs.declared.schema.Item.TheVariants.{Ctx, Hyp}
use Rattle.mp_schema.specs.declared.schema.Schema.{Schema}
use Rattle.mp_schema.specs.Conditions.{Seen, seen, contexts_among, argument}
use Rattle.mp_match.specs.declared.place.Found.{Found}
use Rattle.mp_match.specs.declared.place.Position.{Position}
use Rattle.mp_match.specs.declared.place.Walk.{Walk}
use Rattle.mp_match.specs.declared.sizes.Sizes.{Sizes}
use Rattle.mp_match.specs.Matching.{found_in}
use Rattle.mp_match.specs.Matches.{nothing_found, as_instance}
use Rattle.mp_match.specs.Places.{ground_of, levels_at}

-- ## Sizes

-- how many items are named hypotheses
abbrev pub named_in : List Item → ℕ
named_in [] = 0
named_in (Hyp p ∷ is) = suc (named_in is)
named_in (Ctx name ctxs args ∷ is) = named_in is

-- the sizes of contexts that take so many hypotheses together: a first one of a known size and another, or a single
-- one, or none; None if one would be negative or some hypothesis is left
abbrev pub shared : List Sym → Option ℕ → ℕ → Option Sizes
shared [] first zero = Some (record { first = 0; later = 0 })
shared [] first (suc left) = None
shared (c ∷ contexts) None left = Some (record { first = left; later = 0 })
shared (c ∷ contexts) (Some first) left = if nat_lt left first then None else Some (record { first = first; later = left - first })

-- the sizes of the contexts in a goal with so many hypotheses
abbrev pub sizes_of : List Item → Option ℕ → ℕ → Option Sizes
sizes_of items first hyps = if nat_lt hyps (named_in items) then None else shared (contexts_among items) first (hyps - named_in items)

-- the size of the next context, after these
abbrev pub size_after : Sizes → List CtxVal → ℕ
size_after sizes [] = sizes.first
size_after sizes (c ∷ ctxs) = sizes.later

-- ## Items

-- how many hypotheses an item takes, after these contexts
abbrev pub taken : Sizes → Item → List CtxVal → ℕ
taken sizes (Hyp p) ctxs = 1
taken sizes (Ctx name names args) ctxs = size_after sizes ctxs

-- how many hypotheses the items take, if the next context takes so many and each later one so many
abbrev pub needed : List Item → ℕ → ℕ → ℕ
needed [] size later = 0
needed (Hyp p ∷ is) size later = suc (needed is size later)
needed (Ctx name names args ∷ is) size later = size + needed is later later

-- the place after a named hypothesis
abbrev pub past_named : Position → Position
past_named place = record place { named = place.named ++ place.next ∷ []; next = place.next + 1 }

-- the place after a context with these hypotheses
abbrev pub past_context : Sym → Position → List Term → Position
past_context name place hyps =
    let x : CtxVal = record { name = name; first = place.next; hyps = hyps } in
    record place { ctxs = place.ctxs ++ x ∷ []; next = place.next + length hyps }

-- what a named hypothesis finds, and the place after it
abbrev pub hyp_found : Pattern → Term → Walk → Option Walk
hyp_found p t w =
    option_map (λ (found : Found). record { place = past_named w.place; found = found })
    (found_in (ground_of w.place) p (levels_at w.place w.place.next) w.place.next t w.found)

-- the term and the rest, if there are both
abbrev pub kept_with : Option Term → Option (List Term) → Option (List Term)
kept_with None rest = None
kept_with (Some t) rest = option_map (λ ts. t ∷ ts) rest

-- the hypotheses of a context, the first of them in scope m: each over these variables and those of the context before it
abbrev pub kept_found : List ℕ → ℕ → List Term → Option (List Term)
kept_found levels m [] = Some []
kept_found levels m (t ∷ ts) = kept_with (unrenamed levels m t) (kept_found (levels ++ m ∷ []) (m + 1) ts)

-- the variables that the hypotheses of a context may use
abbrev pub context_levels : List Sym → List Pattern → Position → List ℕ
context_levels ctxs args place = ground_of place ctxs ++ map (λ (a : Seen). argument (levels_at place place.next) a.level) (map seen args)

-- the place after a context that keeps these hypotheses
abbrev pub context_found : Sym → List Sym → List Pattern → List Term → Position → Option Position
context_found name ctxs args hyps place = option_map (past_context name place) (kept_found (context_levels ctxs args place) place.next hyps)

module _ (sizes : Sizes) where
  -- what an item finds, if the goal has these hypotheses from its place on
  abbrev pub item_found : Item → List Term → Walk → Option Walk
  item_found (Hyp p) [] w = None
  item_found (Hyp p) (t ∷ ts) w = hyp_found p t w
  item_found (Ctx name ctxs args) ts w =
      option_map (λ (place : Position). record { place = place; found = w.found }) (context_found name ctxs args (take (size_after sizes w.place.ctxs) ts) w.place)

  -- what the items find in a goal with these hypotheses
  abbrev pub items_found : List Term → List Item → Walk → Option Walk
  items_found hyps [] w = Some w
  items_found hyps (i ∷ is) w = option_and_then (items_found hyps is) (item_found i (drop w.place.next hyps) w)

-- ## Sequents

-- before the first item nothing is found
abbrev pub first_walk : Walk
first_walk = record { place = record { ambient = 0; ctxs = []; named = []; next = 0 }; found = nothing_found }

-- the instance, once the conclusion is matched too
abbrev pub concl_found : Pattern → Term → Walk → Option Inst
concl_found p t w = option_map (as_instance w.place) (found_in (ground_of w.place) p (levels_at w.place w.place.next) w.place.next t w.found)

-- the instance that makes the schema this goal, whose first context has the size `first` if there are two
abbrev pub match_of : Schema → Option ℕ → Sequent → Option Inst
match_of s first goal =
    option_and_then (λ (sizes : Sizes). option_and_then (concl_found s.concl goal.concl) (items_found sizes goal.hyps s.items first_walk))
    (sizes_of s.items first (length goal.hyps))
