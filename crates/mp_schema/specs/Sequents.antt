-- The sequent that a schema makes.
use Rattle.std.specs.Prelude.{ℕ, ◌+◌, suc, sum, List, [], ◌∷◌, ◌++◌, map, length, Bool, ◌&&◌, nat_eq, if◌then◌else◌}
use Rattle.std.specs.List.{list_all}
use Rattle.mp_logic.specs.declared.sym.Sym.{Sym}
use Rattle.mp_term.specs.declared.term.Term.{Term, Var}
use Rattle.mp_term.specs.declared.sequent.Sequent.{Sequent}
use Rattle.mp_term.specs.Limits.{in_scopes_from}
use Rattle.mp_term.specs.Subst.{sub_of, variables, upto}
use Rattle.mp_schema.specs.declared.pattern.Pattern.{Pattern}
use Rattle.mp_schema.specs.declared.schema.Item.{Item}
use Rattle.mp_schema.specs.declared.schema.Item.TheVariants.{Ctx, Hyp}
use Rattle.mp_schema.specs.declared.schema.Schema.{Schema}
use Rattle.mp_schema.specs.Instances.{Values, Ground, made_each, inst_of, fits, all_pass}
use Rattle.mp_logic.specs.Lists.{joined}

-- an instance: an ambient scope, a term for each second-order variable and a parameter for each hole, and the
-- hypotheses that are kept of each context
pub record Instance : Type 0 where
  pub ambient : ℕ
  pub values : Values
  pub kept : Sym → List Term

-- the variables that a value has before its arguments, if the contexts begin at these levels: the ambient
-- ones, and those of each context in the list
abbrev pub ground_at : Instance → (Sym → ℕ) → Ground
ground_at v pos ctxs = upto 0 v.ambient ++ joined (map (λ c. upto (pos c) (length (v.kept c))) ctxs)

-- how many these are
abbrev pub wide_of : Instance → List Sym → ℕ
wide_of v ctxs = v.ambient + sum (map (λ c. length (v.kept c)) ctxs)

-- a place in a schema from which the items are made: the level of each named hypothesis before it, the level at
-- which each context before it begins, and the number of hypotheses made so far
pub record Spot : Type 0 where
  pub env : List ℕ
  pub pos : Sym → ℕ
  pub next : ℕ

-- the place before the first item
abbrev pub first_spot : Spot
first_spot = record { env = []; pos = λ name. 0; next = 0 }

module _ (v : Instance) where
  -- the hypotheses of a context that begins at level c, from number j on: each is its kept term, with the variables
  -- of the contexts, the arguments and the context's own first j variables for its variables
  abbrev pub telescope : Spot → List Sym → List Pattern → ℕ → ℕ → List Term → List Term
  telescope l ctxs args c j [] = []
  telescope l ctxs args c j (t ∷ ts) =
      sub_of t (map Var (ground_at v l.pos ctxs) ++ made_each (map (inst_of (ground_at v l.pos) v.values) args) (map Var l.env) (c + j) ++ variables c j) (c + j)
      ∷ telescope l ctxs args c (suc j) ts

  -- the hypotheses that an item makes
  abbrev pub hyps_of : Item → Spot → List Term
  hyps_of (Hyp p) l = inst_of (ground_at v l.pos) v.values p (map Var l.env) l.next ∷ []
  hyps_of (Ctx name ctxs args) l = telescope l ctxs args l.next 0 (v.kept name)

  -- the place after an item
  abbrev pub behind : Item → Spot → Spot
  behind (Hyp p) l = record { env = l.env ++ l.next ∷ []; pos = l.pos; next = l.next + 1 }
  behind (Ctx name ctxs args) l =
      record { env = l.env; pos = λ other. if nat_eq other.0 name.0 then l.next else l.pos other; next = l.next + length (v.kept name) }

  -- the hypotheses that the items make, in order
  abbrev pub hyps_from : List Item → Spot → List Term
  hyps_from [] l = []
  hyps_from (i ∷ is) l = hyps_of i l ++ hyps_from is (behind i l)

  -- the place after the items
  abbrev pub behind_all : List Item → Spot → Spot
  behind_all [] l = l
  behind_all (i ∷ is) l = behind_all is (behind i l)

  -- the conclusion that is made at a place
  abbrev pub concl_at : Pattern → Spot → Term
  concl_at p l = inst_of (ground_at v l.pos) v.values p (map Var l.env) l.next

  -- the sequent that the schema makes
  abbrev pub seq : Schema → Sequent
  seq s = record { hyps = hyps_from s.items first_spot; concl = concl_at s.concl (behind_all s.items first_spot) }

  -- an item's values are in the scopes that it asks: term j of a context has its contexts' variables, its arguments
  -- and the context's first j variables
  abbrev pub item_fits : Item → Bool
  item_fits (Hyp p) = fits (wide_of v) v.values p
  item_fits (Ctx name ctxs args) =
      in_scopes_from (wide_of v ctxs + length args) (v.kept name) && all_pass (map (fits (wide_of v) v.values) args)

  -- each value is in the scope that its uses in the schema ask
  abbrev pub schema_fits : Schema → Bool
  schema_fits s = list_all item_fits s.items && fits (wide_of v) v.values s.concl
