-- The hypotheses of a context are determined by their terms.
use Rattle.std.proofs.Common.{◌≡◌, ℕ, ◌+◌, ◌<◌, List, [], ◌∷◌, ◌++◌, length, map, suc, true, nat_eq, All, refl, sym, ap, ◌∙◌, append_assoc, append-nil, add-one, arith}
use Rattle.std.specs.Prelude.{sum}
use Rattle.std.specs.List.{IsDistinct}
use Rattle.std.proofs.lemmas.Grind.{common_steps}
use Rattle.std.proofs.lemmas.List.{length-append, map-append}
use Rattle.mp_logic.specs.declared.sym.Sym.{Sym}
use Rattle.mp_term.specs.declared.term.Term.{Term, Var}
use Rattle.mp_term.specs.Terms.{in_scope_of}
use Rattle.mp_term.specs.Limits.{in_scopes_from}
use Rattle.mp_term.specs.Subst.{sub_of, variables, upto}
use Rattle.mp_schema.specs.declared.pattern.Pattern.{Pattern}
use Rattle.mp_schema.specs.Conditions.{Seen, argument, seen, all_variables}
use Rattle.mp_schema.specs.Instances.{made_each, inst_of}
use Rattle.mp_schema.specs.Sequents.{Instance, Spot, ground_at, wide_of, telescope}
use Rattle.mp_logic.specs.Lists.{joined}
use Rattle.mp_schema.proofs.Agreeing.{and_both}
use Rattle.mp_schema.proofs.Apart.{Apart-from, Apart-to, Apart-append, Apart-upto, Below-Differ-upto, Below-from, Below-to, Below-append, Below-more, Below-upto}
use Rattle.mp_schema.proofs.OnePattern.{args-made, renaming-injective}
use Rattle.mp_term.proofs.Ranges.{length-upto, upto-next, map-Var-upto}

-- ## Widths

blocks_length : (v : Instance) (pos : Sym → ℕ) (names : List Sym) → length (joined (map (λ c. upto (pos c) (length (v.kept c))) names)) ≡ sum (map (λ c. length (v.kept c)) names)
blocks_length v pos [] = refl
blocks_length v pos (c ∷ names) =
    let a = length-append (upto (pos c) (length (v.kept c))) (joined (map (λ c. upto (pos c) (length (v.kept c))) names)) in
    let b = length-upto (pos c) (length (v.kept c)) in
    let r = blocks_length v pos names in
    let total : sum (map (λ c. length (v.kept c)) (c ∷ names)) ≡ length (v.kept c) + sum (map (λ c. length (v.kept c)) names) = grind (arith, common_steps) in
    omega (arith, a, b, r, total)

-- a value has as many variables before its arguments as it is wide
pub wide-ground : (v : Instance) (pos : Sym → ℕ) (names : List Sym) → length (ground_at v pos names) ≡ wide_of v names
wide-ground v pos names =
    let a = length-append (upto 0 v.ambient) (joined (map (λ c. upto (pos c) (length (v.kept c))) names)) in
    let b = length-upto 0 v.ambient in
    let r = blocks_length v pos names in
    omega (arith, a, b, r)

pub telescope-length : (v : Instance) (l : Spot) (ctxs : List Sym) (args : List Pattern) (c j : ℕ) (ts : List Term) → length (telescope v l ctxs args c j ts) ≡ length ts
telescope-length v l ctxs args c j [] = refl
telescope-length v l ctxs args c j (t ∷ ts) = let r = telescope-length v l ctxs args c (suc j) ts in omega (arith, r)

-- one more level
pub next-distinct : (levels : List ℕ) (m : ℕ) → IsDistinct nat_eq levels → All (λ l. l < m) levels → IsDistinct nat_eq (levels ++ m ∷ [])
next-distinct levels m d b =
    Apart-to (levels ++ upto m 1) (Apart-append levels (upto m 1) (Apart-from levels d) (Apart-upto m 1) (Below-Differ-upto m 1 levels (Below-from m levels b)))

pub next-below : (levels : List ℕ) (m : ℕ) → All (λ l. l < m) levels → All (λ l. l < m + 1) (levels ++ m ∷ [])
next-below levels m b =
    Below-to (m + 1) (levels ++ upto m 1) (Below-append levels (upto m 1) (m + 1) (Below-more m (m + 1) levels (omega arith) (Below-from m levels b)) (Below-upto m 1))

-- ## Rows

-- the terms over these variables, each of them and those of the context before it
abbrev pub placed_from : List ℕ → ℕ → List Term → List Term
placed_from levels m [] = []
placed_from levels m (u ∷ us) = sub_of u (map Var levels) m ∷ placed_from (levels ++ m ∷ []) (m + 1) us

-- the variables of a telescope whose arguments are variables
abbrev pub telescope_levels : Instance → Spot → List Sym → List Pattern → List ℕ
telescope_levels v l ctxs args = ground_at v l.pos ctxs ++ map (λ (a : Seen). argument l.env a.level) (map seen args)

module _ (v : Instance) (l : Spot) (ctxs : List Sym) (args : List Pattern) (c : ℕ) (variables' : all_variables (length l.env) (map seen args) ≡ true) where
  abbrev own : List ℕ
  own = telescope_levels v l ctxs args

  levels-is : (j : ℕ) → map Var (ground_at v l.pos ctxs) ++ made_each (map (inst_of (ground_at v l.pos) v.values) args) (map Var l.env) (c + j) ++ variables c j
      ≡ map Var (own ++ upto c j)
  levels-is j =
      let made = (args-made (ground_at v l.pos) v.values l.env (c + j) args variables').0 in
      rw made
      (sym (map-append Var own (upto c j)
      ∙ ap (λ xs. xs ++ map Var (upto c j)) (map-append Var (ground_at v l.pos ctxs) (map (λ (a : Seen). argument l.env a.level) (map seen args)))
      ∙ ap (λ xs. map Var (ground_at v l.pos ctxs) ++ map Var (map (λ (a : Seen). argument l.env a.level) (map seen args)) ++ xs) (map-Var-upto c j)))

  one_more : (j : ℕ) → own ++ upto c (suc j) ≡ own ++ upto c j ++ (c + j) ∷ []
  one_more j = ap (λ xs. own ++ xs) (rw add-one at (upto-next c j)) ∙ sym (append_assoc own (upto c j) ((c + j) ∷ []))

  telescope-at : (j : ℕ) (us : List Term) → telescope v l ctxs args c j us ≡ placed_from (own ++ upto c j) (c + j) us
  telescope-at j [] = refl
  telescope-at j (u ∷ us) =
      let e : c + suc j ≡ c + j + 1 = omega arith in
      rw (levels-is j, telescope-at (suc j) us, one_more j, e) refl

  pub telescope-placed : (us : List Term) → telescope v l ctxs args c 0 us ≡ placed_from own c us
  telescope-placed us =
      let e : c + 0 ≡ c = omega arith in
      rw (append-nil own, e) at (telescope-at 0 us)

-- terms over distinct variables are determined by what they give
pub placed-injective : (levels : List ℕ) (m : ℕ) (us vs : List Term) → IsDistinct nat_eq levels → All (λ l. l < m) levels → in_scopes_from (length levels) us ≡ true →
    in_scopes_from (length levels) vs ≡ true → placed_from levels m us ≡ placed_from levels m vs → us ≡ vs
placed-injective levels m [] [] d b h k e = refl
placed-injective levels m [] (v ∷ vs) d b h k e = absurd cc
placed-injective levels m (u ∷ us) [] d b h k e = absurd cc
placed-injective levels m (u ∷ us) (v ∷ vs) d b h k e =
    let long : length (levels ++ m ∷ []) ≡ length levels + 1 = length-append levels (m ∷ []) in
    let p = and_both (in_scope_of u (length levels)) (in_scopes_from (length levels + 1) us) h in
    let q = and_both (in_scope_of v (length levels)) (in_scopes_from (length levels + 1) vs) k in
    let first : sub_of u (map Var levels) m ≡ sub_of v (map Var levels) m = cc in
    let rest : placed_from (levels ++ m ∷ []) (m + 1) us ≡ placed_from (levels ++ m ∷ []) (m + 1) vs = cc in
    let one = renaming-injective levels m d b u v p.0 q.0 first in
    let others = placed-injective (levels ++ m ∷ []) (m + 1) us vs (next-distinct levels m d b) (next-below levels m b) (rw long p.1) (rw long q.1) rest in
    rw (one, others) refl
