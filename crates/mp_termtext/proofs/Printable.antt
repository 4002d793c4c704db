-- What is asked of a value that is printed, taken apart along the value.
use Rattle.std.proofs.Common.{◌≡◌, ℕ, ◌+◌, ◌-◌, ◌*◌, ◌<◌, ◌≤◌, List, [], ◌∷◌, map, length, sym, ◌∙◌, arith}
use Rattle.std.specs.Prelude.{true, nat_le, nat_lt}
use Rattle.std.specs.List.{list_all}
use Rattle.std.proofs.lemmas.Bool.{and_parts}
use Rattle.std.proofs.lemmas.Bool.Decides.{nat_tests}
use Rattle.mp_logic.specs.declared.sym.Sym.{Sym}
use Rattle.mp_names.specs.Table.{text_of}
use Rattle.mp_lex.specs.declared.token.Kind.TheVariants as kind
use Rattle.mp_lex.specs.Forms.{is_text}
use Rattle.mp_term.specs.declared.term.Param.{Param}
use Rattle.mp_term.specs.declared.term.Term.{Term, Var, Op}
use Rattle.mp_term.specs.declared.term.Bound.{Bound}
use Rattle.mp_term.specs.Terms.{all_true, all_at_scope, depth_of, in_scope_of}
use Rattle.mp_logic.specs.Lists.{greatest}
use Rattle.mp_term.specs.Limits.{few_binders_of}
use Rattle.mp_term.proofs.Layers.{depth_bound, depth_bound-is, depth-Op, few_bound, few_bound-is, few-Op, in_scope-Var, in_scope-Op, scoped_bound, scoped_bound-is}
use Rattle.mp_termtext.specs.Round.{is_written, is_written_param}
use Rattle.mp_termtext.proofs.PrintedPieces.{written_bound, written_bound-is, written-Op}

-- no level is so great
abbrev pub most_levels : ℕ
most_levels = 1099511627776

module _ (names : List (List ℕ)) where
  -- a term in scope s that is no deeper than m
  pub record Fits (s m : ℕ) (t : Term) : Type 0 where
    pub scoped : in_scope_of t s ≡ true
    pub few : few_binders_of t ≡ true
    pub written : is_written names t ≡ true
    pub shallow : depth_of t ≤ m
    pub narrow : s + 8 * m ≤ most_levels

  -- subterms in scope s whose bodies are no deeper than m
  pub record FitBounds (s m : ℕ) (ks : List Bound) : Type 0 where
    pub scoped : all_at_scope s (map scoped_bound ks) ≡ true
    pub few : all_true (map few_bound ks) ≡ true
    pub written : all_true (map (written_bound names) ks) ≡ true
    pub shallow : greatest (map depth_bound ks) ≤ m
    pub narrow : s + 8 * m + 8 ≤ most_levels

  pub record FitBound (s m : ℕ) (k : Bound) : Type 0 where
    pub count : k.binders ≤ 8
    pub body : Fits (s + k.binders) m k.body

  pub var_fits : (l s m : ℕ) → Fits s m (Var l) → l < s
  var_fits l s m h = let e : nat_lt l s ≡ true = sym (in_scope-Var l s) ∙ h.scoped in grind (arith, nat_tests, e)

  pub some_depth : (o : Sym) (ps : List Param) (ks : List Bound) (s m : ℕ) → Fits s m (Op o ps ks) → 1 ≤ m
  some_depth o ps ks s m h = let d = h.shallow in let e = depth-Op o ps ks in omega (arith, d, e)

  pub op_named : (o : Sym) (ps : List Param) (ks : List Bound) (s m : ℕ) → Fits s m (Op o ps ks) → is_text kind.Small (text_of names o.0) ≡ true
  op_named o ps ks s m h = (and_parts (is_text kind.Small (text_of names o.0)) _ (sym (written-Op names o ps ks) ∙ h.written)).0

  pub op_params : (o : Sym) (ps : List Param) (ks : List Bound) (s m : ℕ) → Fits s m (Op o ps ks) → (length ps ≤ 16) × (list_all (is_written_param names) ps ≡ true)
  op_params o ps ks s m h =
      let all = and_parts (is_text kind.Small (text_of names o.0)) _ (sym (written-Op names o ps ks) ∙ h.written) in
      let rest = and_parts (nat_le (length ps) 16) _ all.1 in
      let few = rest.0 in
      (grind (arith, nat_tests, few), (and_parts (list_all (is_written_param names) ps) _ rest.1).0)

  pub op_subs : (o : Sym) (ps : List Param) (ks : List Bound) (s m : ℕ) → Fits s m (Op o ps ks) → FitBounds s (m - 1) ks
  op_subs o ps ks s m h =
      let all = and_parts (is_text kind.Small (text_of names o.0)) _ (sym (written-Op names o ps ks) ∙ h.written) in
      let rest = and_parts (nat_le (length ps) 16) _ all.1 in
      let d = h.shallow in
      let e = depth-Op o ps ks in
      let n = h.narrow in
      record {
        scoped = sym (in_scope-Op o ps ks s) ∙ h.scoped;
        few = sym (few-Op o ps ks) ∙ h.few;
        written = (and_parts (list_all (is_written_param names) ps) _ rest.1).1;
        shallow = omega (arith, d, e);
        narrow = omega (arith, d, e, n);
      }

  pub first_sub : (k : Bound) (ks : List Bound) (s m : ℕ) → FitBounds s m (k ∷ ks) → FitBound s m k
  first_sub k ks s m h =
      let few = and_parts (nat_le k.binders 8) (few_binders_of k.body) (sym (few_bound-is k) ∙ (and_parts (few_bound k) (all_true (map few_bound ks)) h.few).0) in
      let some = few.0 in
      let count : k.binders ≤ 8 = grind (arith, nat_tests, some) in
      let d = h.shallow in
      let e = depth_bound-is k in
      let n = h.narrow in
      record {
        count = count;
        body = record {
          scoped = sym (scoped_bound-is k s) ∙ (and_parts (scoped_bound k s) (all_at_scope s (map scoped_bound ks)) h.scoped).0;
          few = few.1;
          written = sym (written_bound-is names k) ∙ (and_parts (written_bound names k) (all_true (map (written_bound names) ks)) h.written).0;
          shallow = omega (arith, d, e);
          narrow = omega (arith, count, n);
        };
      }

  pub further_subs : (k : Bound) (ks : List Bound) (s m : ℕ) → FitBounds s m (k ∷ ks) → FitBounds s m ks
  further_subs k ks s m h =
      let d = h.shallow in
      record {
        scoped = (and_parts (scoped_bound k s) (all_at_scope s (map scoped_bound ks)) h.scoped).1;
        few = (and_parts (few_bound k) (all_true (map few_bound ks)) h.few).1;
        written = (and_parts (written_bound names k) (all_true (map (written_bound names) ks)) h.written).1;
        shallow = omega (arith, d);
        narrow = h.narrow;
      }

  -- hypotheses from this level on, none deeper than 200
  abbrev pub FitHyps : ℕ → List Term → Type 0
  FitHyps level [] = Unit {0}
  FitHyps level (t ∷ ts) = Fits level 200 t × FitHyps (level + 1) ts
