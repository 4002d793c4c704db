-- The variables that a given term may use are those of the contexts that are found.
use Rattle.std.proofs.Common.{◌≡◌, inl, inr, ℕ, ◌+◌, List, [], ◌∷◌, ◌++◌, map, length, sum, true, refl, sym, ap, ◌∙◌, subst, arith}
use Rattle.std.specs.Prelude.{IsTrue}
use Rattle.std.proofs.lemmas.Grind.{common_steps}
use Rattle.std.proofs.lemmas.List.{length-append}
use Rattle.mp_logic.specs.declared.sym.Sym.{Sym}
use Rattle.mp_term.specs.declared.term.Term.{Term, Var}
use Rattle.mp_term.specs.Terms.{in_scope_of}
use Rattle.mp_term.specs.Subst.{sub_of, upto}
use Rattle.mp_schema.specs.declared.instance.Inst.{Inst}
use Rattle.mp_schema.specs.declared.schema.Schema.{Schema}
use Rattle.mp_schema.specs.Conditions.{has, has_all, context_names}
use Rattle.mp_schema.specs.Sequents.{Instance, first_spot, behind_all, ground_at, wide_of}
use Rattle.mp_logic.specs.Lists.{joined}
use Rattle.mp_schema.specs.Values.{variables_of, first_variable_of, kept_of}
use Rattle.mp_match.specs.Giving.{given_levels}
use Rattle.mp_term.proofs.Ranges.{length-upto}
use Rattle.mp_theory.specs.declared.rule.Need.{Need}
use Rattle.mp_theory.specs.declared.just.Given.{Given}
use Rattle.mp_refiner.specs.RuleStep.{given_variables, Meets, MeetsAll}
use Rattle.mp_schema.specs.Occurrences.{In}
use Rattle.mp_schema.proofs.Agreeing.{and_both}
use Rattle.mp_refiner.proofs.GivenValues.{MeetsBy, AllMeetBy}
use Rattle.mp_schema.proofs.Rows.{wide-ground}

-- a need's value has as many variables as its given term may use
pub given-width : (v : Instance) (c : Schema) (n : Need) → wide_of v n.ctxs + n.arity ≡ length (given_variables v c n)
given-width v c n =
    let a = length-append (ground_at v (behind_all v c.items first_spot).pos n.ctxs) (upto 200 n.arity) in
    let b = wide-ground v (behind_all v c.items first_spot).pos n.ctxs in
    let d = length-upto 200 n.arity in
    omega (arith, a, b, d)

-- the contexts of an instance are those that are found: each has the same hypotheses and begins at the same level
pub record IsLaidAs (v : Instance) (c : Schema) (i : Inst) : Type 0 where
  pub ambient : v.ambient ≡ 0
  pub pos : (name : Sym) → has (context_names c) name ≡ true → (behind_all v c.items first_spot).pos name ≡ first_variable_of i.ctxs name
  pub kept : (name : Sym) → has (context_names c) name ≡ true → v.kept name ≡ kept_of i.ctxs name

module _ (v : Instance) (c : Schema) (i : Inst) (laid : IsLaidAs v c i) where
  abbrev pos : Sym → ℕ
  pos = (behind_all v c.items first_spot).pos

  same_blocks : (cs : List Sym) → has_all (context_names c) cs ≡ true → joined (map (λ n. upto (pos n) (length (v.kept n))) cs) ≡ variables_of i.ctxs cs
  same_blocks [] e = refl
  same_blocks (n ∷ cs) e =
      let both = and_both (has (context_names c) n) (has_all (context_names c) cs) e in
      let p = laid.pos n both.0 in
      let k = laid.kept n both.0 in
      let rest = same_blocks cs both.1 in
      ap (λ m. upto m (length (v.kept n)) ++ joined (map (λ n. upto (pos n) (length (v.kept n))) cs)) p
      ∙ ap (λ (ts : List Term). upto (first_variable_of i.ctxs n) (length ts) ++ joined (map (λ n. upto (pos n) (length (v.kept n))) cs)) k
      ∙ ap (λ ls. upto (first_variable_of i.ctxs n) (length (kept_of i.ctxs n)) ++ ls) rest

  same_ground : (cs : List Sym) → has_all (context_names c) cs ≡ true → ground_at v pos cs ≡ variables_of i.ctxs cs
  same_ground cs e = ap (λ n. upto 0 n ++ joined (map (λ n. upto (pos n) (length (v.kept n))) cs)) laid.ambient ∙ same_blocks cs e

  module _ (n : Need) (known : has_all (context_names c) n.ctxs ≡ true) where
    same_variables : given_variables v c n ≡ given_levels i.ctxs n.ctxs n.arity
    same_variables = ap (λ ls. ls ++ upto 200 n.arity) (same_ground n.ctxs known)

    same_width : wide_of v n.ctxs + n.arity ≡ length (given_levels i.ctxs n.ctxs n.arity)
    same_width = given-width v c n ∙ ap (λ (ls : List ℕ). length ls) same_variables

    to_levels : (g : Given) → Meets v c n g → MeetsBy i.ctxs v n g
    to_levels g m = record {
      fits = subst (λ k. IsTrue (in_scope_of (v.values.meta n.name) k)) same_width m.fits;
      gives = ap (λ ls. sub_of (v.values.meta n.name) (map Var ls) (200 + n.arity)) (sym same_variables) ∙ m.gives;
    }

    from_levels : (g : Given) → MeetsBy i.ctxs v n g → Meets v c n g
    from_levels g m = record {
      fits = subst (λ k. IsTrue (in_scope_of (v.values.meta n.name) k)) (sym same_width) m.fits;
      gives = ap (λ ls. sub_of (v.values.meta n.name) (map Var ls) (200 + n.arity)) same_variables ∙ m.gives;
    }

  pub meets_by : (ns : List Need) (gs : List Given) → ((n : Need) → In n ns → has_all (context_names c) n.ctxs ≡ true) → MeetsAll v c ns gs → AllMeetBy i.ctxs v ns gs
  meets_by [] [] k m = tt
  meets_by [] (g ∷ gs) k m = absurd m
  meets_by (n ∷ ns) [] k m = absurd m
  meets_by (n ∷ ns) (g ∷ gs) k m = (to_levels n (k n (inl refl)) g m.0, meets_by ns gs (λ x i. k x (inr i)) m.1)

  pub by_meets : (ns : List Need) (gs : List Given) → ((n : Need) → In n ns → has_all (context_names c) n.ctxs ≡ true) → AllMeetBy i.ctxs v ns gs → MeetsAll v c ns gs
  by_meets [] [] k m = tt
  by_meets [] (g ∷ gs) k m = absurd m
  by_meets (n ∷ ns) [] k m = absurd m
  by_meets (n ∷ ns) (g ∷ gs) k m = (from_levels n (k n (inl refl)) g m.0, by_meets ns gs (λ x i. k x (inr i)) m.1)
