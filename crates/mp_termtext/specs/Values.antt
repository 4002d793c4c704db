-- What terms and sequents stand for that are written, if no static rule is broken.
use Rattle.std.specs.Prelude.{◌≡◌, ℕ, ◌+◌, ◌*◌, ◌++◌, ◌≤◌, List, [], ◌∷◌, length, map, unwrap_or}
use Rattle.mp_logic.specs.declared.sym.Sym.{Sym}
use Rattle.mp_term.specs.declared.term.Term.{Term, Var, Op}
use Rattle.mp_term.specs.declared.term.Bound.{Bound}
use Rattle.mp_term.specs.declared.sequent.Sequent.{Sequent}
use Rattle.mp_termtext.specs.declared.raw.RawBound.{RawBound, RawBound-F, fold-RawBound}
use Rattle.mp_termtext.specs.declared.raw.RawTerm.{RawTerm, RawTerm-F}
use Rattle.mp_termtext.specs.declared.raw.RawTerm.TheOpen as layer
use Rattle.mp_termtext.specs.declared.raw.RawTerm.TheFolds.{fold-RawTerm}
use Rattle.mp_termtext.specs.declared.raw.RawHyp.{RawHyp}
use Rattle.mp_termtext.specs.declared.raw.RawSequent.{RawSequent}
use Rattle.mp_termtext.specs.Statics.{bound_faults_of, each_faults, faults_of, hyp_names, level_of, names_of}

-- the subterms after the same names
abbrev pub each_subterm_value : List (List Sym → Bound) → List Sym → List Bound
each_subterm_value [] env = []
each_subterm_value (s ∷ ss) env = s env ∷ each_subterm_value ss env

-- the value of a variable or an operator, by those of its subterms
abbrev pub term_value_step : ℕ → RawTerm-F (List Sym → Term) (List Sym → Bound) → List Sym → Term
term_value_step free (layer.Var name k l) env = Var (unwrap_or (level_of free env name k) 0)
term_value_step free (layer.Op name ps subs l) env = Op name (map (λ p. p.value) ps) (each_subterm_value subs env)

-- the value of a subterm, by that of its body
abbrev pub term_value_bound_step : RawBound-F (List Sym → Term) (List Sym → Bound) → List Sym → Bound
term_value_bound_step b env = record { binders = length b.binders; body = b.body (env ++ names_of b.binders) }

-- the term that is written, where these names are bound after so many free ones
abbrev pub value_of : ℕ → RawTerm → List Sym → Term
value_of free = fold-RawTerm (List Sym → Term) (List Sym → Bound) (term_value_step free) term_value_bound_step

-- the subterm that is written, with the number of its binders
abbrev pub bound_value_of : ℕ → RawBound → List Sym → Bound
bound_value_of free = fold-RawBound (List Sym → Term) (List Sym → Bound) (term_value_step free) term_value_bound_step

-- the term that is all of a text
abbrev pub term_value : ℕ → RawTerm → Term
term_value free t = value_of free t []

-- the hypotheses that are written, each after those before it
abbrev pub hyps_value : List RawHyp → List Sym → List Term
hyps_value [] env = []
hyps_value (h ∷ hs) env = value_of 0 h.term env ∷ hyps_value hs (env ++ h.name ∷ [])

-- the sequent that is written
abbrev pub sequent_value : RawSequent → Sequent
sequent_value s = record { hyps = hyps_value s.hyps []; concl = value_of 0 s.concl (hyp_names s.hyps) }

-- no static rule is broken in the term, at some depth that is great enough for the names that are bound
abbrev pub IsFaultless : ℕ → RawTerm → List Sym → Type 0
IsFaultless free t env = (d : ℕ) × (faults_of free t env d ≡ []) × (length env ≤ 192 + 8 * d)

-- no static rule is broken in the subterms, whose bodies are one deeper
abbrev pub AreFaultless : ℕ → List RawBound → List Sym → Type 0
AreFaultless free ks env = (d : ℕ) × (each_faults (map (bound_faults_of free) ks) env d ≡ []) × (length env ≤ 184 + 8 * d)

-- no static rule is broken in the subterm, at the depth of its body
abbrev pub IsFaultlessBound : ℕ → RawBound → List Sym → Type 0
IsFaultlessBound free k env = (d : ℕ) × (bound_faults_of free k env d ≡ []) × (length env ≤ 184 + 8 * d)
