-- Which levels are numbers of 32 bits.
use Rattle.std.proofs.Common.{◌≡◌, ℕ, ◌+◌, ◌<◌, ◌^◌, List, [], ◌∷◌, map, IsTrue, refl, sym, arith}
use Rattle.std.proofs.lemmas.Bool.Decides.{nat_tests}
use Rattle.std.proofs.lemmas.Grind.{common_steps}
use Rattle.mp_logic.specs.declared.sym.Sym.{Sym}
use Rattle.mp_term.specs.declared.term.Param.{Param}
use Rattle.mp_term.specs.declared.term.Term.{Term, Var, Op}
use Rattle.mp_term.specs.declared.term.Bound.{Bound}
use Rattle.mp_term.specs.Induction.{OfEachBody, each_term}
use Rattle.mp_term.specs.Terms.{in_scope_of, all_at_scope, all_true}
use Rattle.mp_term.specs.Subst.{widest_of, widest_at, width_bound}
use Rattle.mp_term.proofs.Layers.{scoped_bound, in_scope-Var, in_scope-Op, scoped_bound-is, widest-Var, widest-Op, width_bound-is}
use Rattle.mp_delay.specs.declared.moves.Move.{Move}
use Rattle.mp_delay.specs.Moves.{moved, relevel_by, relevel_bound, moved_term, levels_fit, levels_fit_by, bound_fits}
use Rattle.mp_delay.proofs.Layers.{relevel-Var, relevel-Op, relevel_bound-is, fit-Var, fit-Op, bound_fits-is}

-- whether g fits the levels that f made is whether both together fit
module _ (f g : ℕ → ℕ) where
  abbrev both : ℕ → ℕ
  both i = g (f i)

  abbrev FitsAlike : Term → Type 0
  FitsAlike t = levels_fit_by g (relevel_by f t) ≡ levels_fit_by both t

  alike_var : (level : ℕ) → FitsAlike (Var level)
  alike_var level = rw (relevel-Var, fit-Var, fit-Var) refl

  alike_bounds : (bs : List Bound) → OfEachBody FitsAlike bs → all_true (map (bound_fits g) (map (relevel_bound f) bs)) ≡ all_true (map (bound_fits both) bs)
  alike_bounds [] h = refl
  alike_bounds (b ∷ bs) h =
      let first : bound_fits g (relevel_bound f b) ≡ bound_fits both b = rw (relevel_bound-is, bound_fits-is, bound_fits-is, h.0) refl in
      let rest = alike_bounds bs h.1 in rw (first, rest) refl

  alike_op : (o : Sym) (ps : List Param) (bs : List Bound) → OfEachBody FitsAlike bs → FitsAlike (Op o ps bs)
  alike_op o ps bs h = rw (relevel-Op, fit-Op, fit-Op, alike_bounds bs h) refl

  pub fit-relevel : (t : Term) → levels_fit_by g (relevel_by f t) ≡ levels_fit_by (λ i. g (f i)) t
  fit-relevel = each_term FitsAlike alike_var alike_op

-- what agrees on each level fits alike
module _ (f g : ℕ → ℕ) (same : (i : ℕ) → f i ≡ g i) where
  abbrev FitsAsWell : Term → Type 0
  FitsAsWell t = levels_fit_by f t ≡ levels_fit_by g t

  as_well_var : (level : ℕ) → FitsAsWell (Var level)
  as_well_var level = rw (fit-Var, fit-Var, same level) refl

  as_well_bounds : (bs : List Bound) → OfEachBody FitsAsWell bs → all_true (map (bound_fits f) bs) ≡ all_true (map (bound_fits g) bs)
  as_well_bounds [] h = refl
  as_well_bounds (b ∷ bs) h =
      let first : bound_fits f b ≡ bound_fits g b = rw (bound_fits-is, bound_fits-is, h.0) refl in
      let rest = as_well_bounds bs h.1 in rw (first, rest) refl

  as_well_op : (o : Sym) (ps : List Param) (bs : List Bound) → OfEachBody FitsAsWell bs → FitsAsWell (Op o ps bs)
  as_well_op o ps bs h = rw (fit-Op, fit-Op, as_well_bounds bs h) refl

  pub fit-alike : (t : Term) → levels_fit_by f t ≡ levels_fit_by g t
  fit-alike = each_term FitsAsWell as_well_var as_well_op

-- moves fit a term if the levels of the term that it stands for are numbers of 32 bits
pub fit-moved : (ms : List Move) (t : Term) → levels_fit_by (moved ms) t ≡ levels_fit (moved_term ms t)
fit-moved ms t = sym (fit-relevel (moved ms) (λ i. i) t)

-- each level of a term that meets the conditions of mp_subst is a number of 32 bits
abbrev Fits : Term → Type 0
Fits t = (n : ℕ) → IsTrue (in_scope_of t n) → widest_of t n < 2 ^ 31 → IsTrue (levels_fit t)

fits_var : (level : ℕ) → Fits (Var level)
fits_var level n scoped narrow =
    let test = rw in_scope-Var at scoped in
    let wide = rw widest-Var at narrow in
    let low : level < 4294967296 = grind (arith, nat_tests, test, wide) in
    rw fit-Var (grind (arith, nat_tests, low))

fits_bounds : (bs : List Bound) (n : ℕ) → OfEachBody Fits bs → IsTrue (all_at_scope n (map scoped_bound bs)) → widest_at n (map width_bound bs) < 2 ^ 31 →
    IsTrue (all_true (map (bound_fits (λ i. i)) bs))
fits_bounds [] n h scoped narrow = refl
fits_bounds (b ∷ bs) n h scoped narrow =
    let first_scoped : IsTrue (scoped_bound b n) = grind (arith, common_steps, scoped) in
    let rest_scoped : IsTrue (all_at_scope n (map scoped_bound bs)) = grind (arith, common_steps, scoped) in
    let here : IsTrue (in_scope_of b.body (n + b.binders)) = rw scoped_bound-is at first_scoped in
    let wide : width_bound b n < 2 ^ 31 = omega (arith, narrow) in
    let both = rw width_bound-is at wide in
    let inner : widest_of b.body (n + b.binders) < 2 ^ 31 = omega (arith, both) in
    let rest_wide : widest_at n (map width_bound bs) < 2 ^ 31 = omega (arith, narrow) in
    let first : IsTrue (bound_fits (λ i. i) b) = rw bound_fits-is (h.0 (n + b.binders) here inner) in
    let rest = fits_bounds bs n h.1 rest_scoped rest_wide in
    grind (arith, common_steps, first, rest)

fits_op : (o : Sym) (ps : List Param) (bs : List Bound) → OfEachBody Fits bs → Fits (Op o ps bs)
fits_op o ps bs h n scoped narrow =
    let test = rw in_scope-Op at scoped in
    let wide = rw widest-Op at narrow in
    rw fit-Op (fits_bounds bs n h test wide)

pub fit-scoped : (t : Term) (n : ℕ) → IsTrue (in_scope_of t n) → widest_of t n < 2 ^ 31 → IsTrue (levels_fit t)
fit-scoped = each_term Fits fits_var fits_op
