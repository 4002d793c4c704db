-- One layer of each definition over written terms, as equations.
use Rattle.std.proofs.Common.{◌≡◌, ℕ, ◌+◌, ◌++◌, List, map, sum, Option, rules}
use Rattle.std.specs.Prelude.{length, unwrap_or}
use Rattle.mp_logic.specs.declared.sym.Sym.{Sym}
use Rattle.mp_term.specs.declared.term.Term as term
use Rattle.mp_term.specs.declared.term.Bound.{Bound}
use Rattle.mp_termtext.specs.declared.raw.RawParam.{RawParam}
use Rattle.mp_termtext.specs.declared.raw.RawBound.{RawBound, fold-RawBound}
use Rattle.mp_termtext.specs.declared.raw.RawTerm.{Var, Op, the_lemmas}
use Rattle.mp_words.specs.Faults.{too_many}
use Rattle.mp_termtext.specs.Statics.{bound_faults_of, deep, each_faults, faults_of, level_of, names_of, raw_size_of, raw_size_step, raw_size_bound_step, unless_bound}
use Rattle.mp_termtext.specs.Values.{bound_value_of, each_subterm_value, value_of}

pub faults-Var : (free : ℕ) (n : Sym) (k : Option ℕ) (l : ℕ) (env : List Sym) (d : ℕ) → faults_of free (Var n k l) env d ≡ deep d l ++ unless_bound l (level_of free env n k)
faults-Var free n k l env d = search (rules, the_lemmas)

pub faults-Op : (free : ℕ) (n : Sym) (ps : List RawParam) (ks : List RawBound) (l : ℕ) (env : List Sym) (d : ℕ) → faults_of free (Op n ps ks l) env d ≡ deep d l ++ too_many (λ p. p.at) 16 ps ++ each_faults (map (bound_faults_of free) ks) env (d + 1)
faults-Op free n ps ks l env d = search (rules, the_lemmas)

pub bound_faults-is : (free : ℕ) (k : RawBound) (env : List Sym) (d : ℕ) → bound_faults_of free k env d ≡ too_many (λ b. b.at) 8 k.binders ++ faults_of free k.body (env ++ names_of k.binders) d
bound_faults-is free k env d = search (rules, the_lemmas)

pub value-Var : (free : ℕ) (n : Sym) (k : Option ℕ) (l : ℕ) (env : List Sym) → value_of free (Var n k l) env ≡ term.Var (unwrap_or (level_of free env n k) 0)
value-Var free n k l env = search (rules, the_lemmas)

pub value-Op : (free : ℕ) (n : Sym) (ps : List RawParam) (ks : List RawBound) (l : ℕ) (env : List Sym) → value_of free (Op n ps ks l) env ≡ term.Op n (map (λ p. p.value) ps) (each_subterm_value (map (bound_value_of free) ks) env)
value-Op free n ps ks l env = search (rules, the_lemmas)

pub bound_value-is : (free : ℕ) (k : RawBound) (env : List Sym) → (let b : Bound = record { binders = length k.binders; body = value_of free k.body (env ++ names_of k.binders) } in bound_value_of free k env ≡ b)
bound_value-is free k env = search (rules, the_lemmas)

abbrev pub raw_size_bound : RawBound → ℕ
raw_size_bound = fold-RawBound ℕ ℕ raw_size_step raw_size_bound_step

pub raw_size-Var : (n : Sym) (k : Option ℕ) (l : ℕ) → raw_size_of (Var n k l) ≡ 1
raw_size-Var n k l = search (rules, the_lemmas)

pub raw_size-Op : (n : Sym) (ps : List RawParam) (ks : List RawBound) (l : ℕ) → raw_size_of (Op n ps ks l) ≡ 1 + sum (map raw_size_bound ks)
raw_size-Op n ps ks l = search (rules, the_lemmas)

pub raw_size_bound-is : (k : RawBound) → raw_size_bound k ≡ raw_size_of k.body
raw_size_bound-is k = search (rules, the_lemmas)
