-- The static rules of terms and sequents as they are written.
use Rattle.std.specs.Prelude.{ℕ, zero, suc, ◌+◌, ◌++◌, sum, sum_by, List, [], ◌∷◌, map, Option, None, Some, Bool, true, false, nat_lt, nat_eq, if◌then◌else◌}
use Rattle.mp_logic.specs.declared.sym.Sym.{Sym}
use Rattle.mp_term.specs.declared.limits.TheConstants.{MOST_BINDERS, MOST_DEPTH, MOST_HYPOTHESES, MOST_NODES, MOST_PARAMETERS}
use Rattle.mp_words.specs.declared.raw.RawName.{RawName}
use Rattle.mp_termtext.specs.declared.raw.RawBound.{RawBound, RawBound-F, fold-RawBound}
use Rattle.mp_termtext.specs.declared.raw.RawTerm.{RawTerm, RawTerm-F}
use Rattle.mp_termtext.specs.declared.raw.RawTerm.TheOpen as layer
use Rattle.mp_termtext.specs.declared.raw.RawTerm.TheFolds.{fold-RawTerm}
use Rattle.mp_termtext.specs.declared.raw.RawHyp.{RawHyp}
use Rattle.mp_termtext.specs.declared.raw.RawSequent.{RawSequent}
use Rattle.mp_words.specs.declared.fail.TextWhy.TheVariants as why
use Rattle.mp_words.specs.declared.fail.TextErr.{TextErr}
use Rattle.mp_words.specs.Faults.{fault, fault_if, too_many}

-- a place after the first of a list, counted from the first; else the first, if the test passes
abbrev pub or_here : Option ℕ → Bool → Option ℕ
or_here (Some i) here = Some (1 + i)
or_here None true = Some 0
or_here None false = None

-- the place of the last name of the list that is this one
abbrev pub place_in : List Sym → Sym → Option ℕ
place_in [] name = None
place_in (n ∷ ns) name = or_here (place_in ns name) (nat_eq n.0 name.0)

-- the level of `x` followed by k, where so many free names are `x1` and so on
abbrev pub free_level : ℕ → Option ℕ → Option ℕ
free_level free None = None
free_level free (Some zero) = None
free_level free (Some (suc level)) = if nat_lt level free then Some level else None

-- the level of a name that is bound at this place; else the free one of its number
abbrev pub level_by : ℕ → Option ℕ → Option ℕ → Option ℕ
level_by free (Some i) k = Some (free + i)
level_by free None k = free_level free k

-- the level that a variable means, where these names are bound after so many free ones: the last one bound under its name, and else the free one of its number
abbrev pub level_of : ℕ → List Sym → Sym → Option ℕ → Option ℕ
level_of free env name k = level_by free (place_in env name) k

-- the names of binders
abbrev pub names_of : List RawName → List Sym
names_of bs = map (λ b. b.name) bs

-- a node at depth over 200
abbrev pub deep : ℕ → ℕ → List TextErr
deep depth l = fault_if (nat_lt MOST_DEPTH depth) l why.TooDeep

-- the fault of a variable without a level
abbrev pub unless_bound : ℕ → Option ℕ → List TextErr
unless_bound l None = fault l why.UnboundVar
unless_bound l (Some level) = []

-- the faults of what stands after these bound names, at this depth
abbrev pub Checked : Type 0
Checked = List Sym → ℕ → List TextErr

-- the faults of all of them, after the same names and at one depth
abbrev pub each_faults : List Checked → Checked
each_faults [] env depth = []
each_faults (s ∷ ss) env depth = s env depth ++ each_faults ss env depth

-- the faults of a variable or an operator, by those of its subterms
abbrev pub faults_step : ℕ → RawTerm-F Checked Checked → Checked
faults_step free (layer.Var name k l) env depth = deep depth l ++ unless_bound l (level_of free env name k)
faults_step free (layer.Op name ps subs l) env depth = deep depth l ++ too_many (λ p. p.at) MOST_PARAMETERS ps ++ each_faults subs env (depth + 1)

-- the faults of a subterm, by those of its body
abbrev pub faults_bound_step : RawBound-F Checked Checked → Checked
faults_bound_step b env depth = too_many (λ b. b.at) MOST_BINDERS b.binders ++ b.body (env ++ names_of b.binders) depth

-- the faults of a term where these names are bound after so many free ones, at its depth: nodes at depth over 200, more than 16 parameters, more than 8 binders, and variables that aren't bound
abbrev pub faults_of : ℕ → RawTerm → List Sym → ℕ → List TextErr
faults_of free = fold-RawTerm Checked Checked (faults_step free) faults_bound_step

-- the faults of a subterm with its binders, at the depth of its body
abbrev pub bound_faults_of : ℕ → RawBound → List Sym → ℕ → List TextErr
bound_faults_of free = fold-RawBound Checked Checked (faults_step free) faults_bound_step

-- one node and those of its subterms
abbrev pub raw_size_step : RawTerm-F ℕ ℕ → ℕ
raw_size_step (layer.Var name k l) = 1
raw_size_step (layer.Op name ps subs l) = 1 + sum subs

-- what is counted of a subterm is what is counted of its body
abbrev pub raw_size_bound_step : RawBound-F ℕ ℕ → ℕ
raw_size_bound_step b = b.body

-- the number of variables and operators
abbrev pub raw_size_of : RawTerm → ℕ
raw_size_of = fold-RawTerm ℕ ℕ raw_size_step raw_size_bound_step

-- the first byte of this node
abbrev pub at_step : RawTerm-F ℕ ℕ → ℕ
at_step (layer.Var name k at) = at
at_step (layer.Op name ps subs at) = at

-- the first byte of the term
abbrev pub at_of : RawTerm → ℕ
at_of = fold-RawTerm ℕ ℕ at_step raw_size_bound_step

-- the faults of a term by itself: those of its nodes, and more than 20,000 nodes
abbrev pub term_faults : ℕ → RawTerm → List TextErr
term_faults free t = faults_of free t [] 1 ++ fault_if (nat_lt MOST_NODES (raw_size_of t)) (at_of t) why.TooBig

-- the faults of a term after its binders by itself, which begins at this byte
abbrev pub bound_term_faults : ℕ → ℕ → RawBound → List TextErr
bound_term_faults free l b = bound_faults_of free b [] 1 ++ fault_if (nat_lt MOST_NODES (raw_size_of b.body)) l why.TooBig

-- the names of hypotheses
abbrev pub hyp_names : List RawHyp → List Sym
hyp_names hs = map (λ h. h.name) hs

-- the faults of hypotheses, each after those before it
abbrev pub hyps_faults : List RawHyp → List Sym → List TextErr
hyps_faults [] env = []
hyps_faults (h ∷ hs) env = faults_of 0 h.term env 1 ++ hyps_faults hs (env ++ h.name ∷ [])

-- the variables and operators of all hypotheses and the conclusion
abbrev pub raw_sequent_size_of : RawSequent → ℕ
raw_sequent_size_of s = sum_by (λ h. raw_size_of h.term) s.hyps + raw_size_of s.concl

-- the faults of a sequent: more than 200 hypotheses, those of its terms, and more than 20,000 nodes
abbrev pub sequent_faults : RawSequent → List TextErr
sequent_faults s =
    too_many (λ h. h.at) MOST_HYPOTHESES s.hyps ++ hyps_faults s.hyps [] ++ faults_of 0 s.concl (hyp_names s.hyps) 1
    ++ fault_if (nat_lt MOST_NODES (raw_sequent_size_of s)) s.at why.TooBig
