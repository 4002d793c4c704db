-- What is known of an allowed step that can be written.
use Rattle.std.proofs.Common.{◌≡◌, ◌+◌, ◌≤◌, ℕ, List, [], ◌∷◌, Option, None, Some, true, nat_le, ◌&&◌, is_some, sym, subst, refl, true≢false, inl, inr, arith}
use Rattle.std.specs.List.{list_all}
use Rattle.std.proofs.lemmas.Bool.{and_parts}
use Rattle.std.proofs.lemmas.Bool.Decides.{nat_tests}
use Rattle.std.proofs.lemmas.Grind.{common_steps}
use Rattle.mp_logic.specs.Lists.{same_bool}
use Rattle.mp_names.specs.Table.{text_of}
use Rattle.mp_lex.specs.declared.token.Kind.TheVariants as kind
use Rattle.mp_lex.specs.Forms.{is_text}
use Rattle.mp_schema.specs.Conditions.{has_two_contexts}
use Rattle.mp_schema.specs.Occurrences.{In}
use Rattle.mp_term.specs.Terms.{in_scope_of, size_of}
use Rattle.mp_theory.specs.declared.just.Given.{Given}
use Rattle.mp_theory.specs.declared.just.Just.{Just}
use Rattle.mp_theory.specs.declared.just.Just.TheVariants as just
use Rattle.mp_theory.specs.declared.rule.Need.{Need}
use Rattle.mp_theory.specs.declared.rule.Rule.{Rule}
use Rattle.mp_theory.specs.Allowed.{are_for, is_allowed, is_allowed_at, is_for}
use Rattle.mp_theory.specs.Needs.{needs_of}
use Rattle.mp_theory.specs.Tables.{IsRule, IsTheory, Laws, is_faultless, rule_at}
use Rattle.mp_theory.proofs.ForNeeds.{for_need, need_few}
use Rattle.mp_theory.proofs.Laws.{rules_of_theories}
use Rattle.mp_theory.proofs.Sound.{sound}
use Rattle.mp_termtext.specs.Round.{is_written}
use Rattle.mp_termtext.proofs.Printable.{Fits}
use Rattle.mp_steptext.specs.Printing.{rule_text}
use Rattle.mp_steptext.specs.Round.{is_written_first, is_written_given, is_written_just}
use Rattle.mp_steptext.proofs.StepLexed.{AllFit, AreFit, FitsGiven}

-- what a need and a given term for it have alike
pub record IsAlike (n : Need) (g : Given) : Type 0 where
  pub named : g.name ≡ n.name
  pub arity : n.arity ≡ g.arity

pub alike : (n : Need) (g : Given) → is_for n g ≡ true → IsAlike n g
alike n g h =
    let same : g.name.0 ≡ n.name.0 = grind (arith, nat_tests, common_steps, h) in
    record { named = (λ i. record { 0 = same i }); arity = grind (arith, nat_tests, common_steps, h) }

module _ (names : List (List ℕ)) where
  fits_given : (n : Need) (g : Given) → is_for n g ≡ true → is_written_given names g ≡ true → n.arity ≤ 8 → FitsGiven names g
  fits_given n g h w few =
      let a = alike n g h in
      let f = for_need n g h in
      let arity = a.arity in
      let named = and_parts (is_text kind.Cap (text_of names g.name.0)) (nat_le (size_of g.body) 20000 && is_written names g.body) w in
      let written = and_parts (nat_le (size_of g.body) 20000) (is_written names g.body) named.1 in
      let small = written.0 in
      let body : Fits names (200 + g.arity) 200 g.body = record {
        scoped = subst (λ k. in_scope_of g.body (200 + k) ≡ true) a.arity f.scoped;
        few = f.few;
        written = written.1;
        shallow = f.shallow;
        narrow = omega (arith, arity, few);
      } in
      record { named = named.0; few = omega (arith, arity, few); body = body; small = grind (arith, nat_tests, small) }

  fit_all : (ns : List Need) (gs : List Given) → are_for ns gs ≡ true → list_all (is_written_given names) gs ≡ true → ((n : Need) → In n ns → n.arity ≤ 8) → AllFit names gs
  fit_all [] [] h w few = tt
  fit_all [] (g ∷ gs) h w few = absurd (true≢false (sym h))
  fit_all (n ∷ ns) [] h w few = absurd (true≢false (sym h))
  fit_all (n ∷ ns) (g ∷ gs) h w few =
      let both = and_parts (is_for n g) (are_for ns gs) h in
      let written = and_parts (is_written_given names g) (list_all (is_written_given names) gs) w in
      (fits_given n g both.0 written.0 (few n (inl refl)), fit_all ns gs both.1 written.1 (λ m i. few m (inr i)))

-- what is known of an allowed step by this rule that can be written
pub record IsStanding (names : List (List ℕ)) (t : Laws) (index : ℕ) (rule : Rule) (first : Option ℕ) (gs : List Given) : Type 0 where
  pub whole : IsRule rule
  pub two : same_bool (is_some first) (has_two_contexts rule.concl) ≡ true
  pub given : are_for (needs_of rule.premises rule.concl) gs ≡ true
  pub named : is_text kind.Small (rule_text names (rule_at t index)) ≡ true
  pub first_written : is_written_first first ≡ true
  pub fit : AllFit names gs

module _ (names : List (List ℕ)) (t : Laws) (theory : IsTheory t) where
  pub standing : (index : ℕ) (rule : Rule) (first : Option ℕ) (gs : List Given) → rule_at t index ≡ Some rule → is_allowed_at (Some rule) first gs ≡ true → is_written_just names t (just.Rule index first gs) ≡ true
      → IsStanding names t index rule first gs
  standing index rule first gs is allowed written =
      let whole = rules_of_theories t index rule theory is in
      let two = same_bool (is_some first) (has_two_contexts rule.concl) in
      let parts = and_parts (is_faultless rule && two) (are_for (needs_of rule.premises rule.concl) gs) allowed in
      let named = and_parts (is_text kind.Small (rule_text names (rule_at t index))) (is_written_first first && list_all (is_written_given names) gs) written in
      let arguments = and_parts (is_written_first first) (list_all (is_written_given names) gs) named.1 in
      record {
        whole = whole;
        two = (and_parts (is_faultless rule) two parts.0).1;
        given = parts.1;
        named = named.0;
        first_written = arguments.0;
        fit = fit_all names (needs_of rule.premises rule.concl) gs parts.1 arguments.1 (need_few rule.premises rule.concl (sound rule whole.faultless));
      }

  fits_by : (index : ℕ) (o : Option Rule) (first : Option ℕ) (gs : List Given) → rule_at t index ≡ o → is_allowed_at o first gs ≡ true → is_written_just names t (just.Rule index first gs) ≡ true → AllFit names gs
  fits_by index None first gs is allowed written = absurd (true≢false (sym allowed))
  fits_by index (Some rule) first gs is allowed written = (standing index rule first gs is allowed written).fit

  pub fits : (j : Just) → is_allowed t j ≡ true → is_written_just names t j ≡ true → AreFit names t j
  fits (just.Rule index first gs) allowed written = fits_by index (rule_at t index) first gs refl allowed written
  fits (just.Rewrite index p numbers) allowed written = tt
