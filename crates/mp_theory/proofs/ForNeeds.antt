-- What given terms are for, and what the needs of a rule without a fault may use.
use Rattle.std.proofs.Common.{◌≡◌, ◌≤◌, ◌+◌, List, [], ◌∷◌, length, true, refl, sym, ap, ◌∙◌, arith}
use Rattle.std.specs.Prelude.{◌&&◌, IsTrue, nat_le}
use Rattle.std.proofs.lemmas.Bool.Decides.{nat_tests}
use Rattle.std.proofs.lemmas.Grind.{common_steps}
use Rattle.mp_term.specs.Terms.{in_scope_of, depth_of}
use Rattle.mp_term.specs.Limits.{few_binders_of}
use Rattle.mp_schema.specs.declared.schema.Schema.{Schema}
use Rattle.mp_schema.specs.Conditions.{nothing_before, past_all, has_all, is_apart, is_known, context_names}
use Rattle.mp_schema.specs.Occurrences.{In}
use Rattle.mp_schema.proofs.Agreeing.{and_both}
use Rattle.mp_schema.proofs.Placed.{IsWithin, is_known_more, placed_known, past_within}
use Rattle.mp_schema.proofs.UseKinds.{has_all-has}
use Rattle.mp_theory.specs.declared.rule.Need.{Need}
use Rattle.mp_theory.specs.declared.just.Given.{Given}
use Rattle.mp_theory.specs.Allowed.{is_for, are_for}
use Rattle.mp_theory.specs.Needs.{needs_of}
use Rattle.mp_theory.proofs.Sound.{IsSound}
use Rattle.mp_theory.proofs.Uses.{need-from}

-- ## Given terms

-- a given term that is for a need
pub record IsForNeed (n : Need) (g : Given) : Type 0 where
  pub scoped : IsTrue (in_scope_of g.body (200 + n.arity))
  pub shallow : depth_of g.body ≤ 200
  pub few : IsTrue (few_binders_of g.body)

pub for_need : (n : Need) (g : Given) → is_for n g ≡ true → IsForNeed n g
for_need n g h = record {
  scoped = grind (arith, nat_tests, common_steps, h);
  shallow = grind (arith, nat_tests, common_steps, h);
  few = grind (arith, nat_tests, common_steps, h);
}

abbrev pub AreForNeeds : List Need → List Given → Type 0
AreForNeeds [] [] = Unit {0}
AreForNeeds [] (g ∷ gs) = ⊥
AreForNeeds (n ∷ ns) [] = ⊥
AreForNeeds (n ∷ ns) (g ∷ gs) = IsForNeed n g × AreForNeeds ns gs

pub for_needs : (ns : List Need) (gs : List Given) → are_for ns gs ≡ true → AreForNeeds ns gs
for_needs [] [] h = tt
for_needs [] (g ∷ gs) h = absurd cc
for_needs (n ∷ ns) [] h = absurd cc
for_needs (n ∷ ns) (g ∷ gs) h = let both = and_both (is_for n g) (are_for ns gs) h in (for_need n g both.0, for_needs ns gs both.1)

pub as_many : (ns : List Need) (gs : List Given) → AreForNeeds ns gs → length ns ≡ length gs
as_many [] [] h = refl
as_many [] (g ∷ gs) h = absurd h
as_many (n ∷ ns) [] h = absurd h
as_many (n ∷ ns) (g ∷ gs) h = let e = as_many ns gs h.1 in omega arith

-- ## Needs

module _ (ps : List Schema) (c : Schema) (rule : IsSound ps c) where
  -- a need's contexts are those of the conclusion, each once
  pub need_known : (n : Need) → In n (needs_of ps c) → is_known (past_all c.items nothing_before).contexts n.ctxs ≡ true
  need_known n i =
      let f = need-from ps c n i in
      let lists : f.at.ctxs ≡ n.ctxs = ap (λ (m : Need). m.ctxs) f.same in
      let here = placed_known f.premise f.at (rule.placed f.premise f.in_premises) f.there in
      let within : IsWithin (context_names f.premise) (past_all c.items nothing_before).contexts =
      λ name e.
      let k = has_all-has (context_names c) (context_names f.premise) name (rule.even.listed f.premise f.in_premises) e in
      past_within c.items nothing_before name ∙ k in
      ap (λ cs. is_known (past_all c.items nothing_before).contexts cs) (sym lists) ∙ is_known_more (context_names f.premise) (past_all c.items nothing_before).contexts f.at.ctxs within here

  pub need_listed : (n : Need) → In n (needs_of ps c) → has_all (context_names c) n.ctxs ≡ true
  need_listed n i =
      let f = need-from ps c n i in
      let lists : f.at.ctxs ≡ n.ctxs = ap (λ (m : Need). m.ctxs) f.same in
      let here = placed_known f.premise f.at (rule.placed f.premise f.in_premises) f.there in
      let within : IsWithin (context_names f.premise) (context_names c) = λ name e. has_all-has (context_names c) (context_names f.premise) name (rule.even.listed f.premise f.in_premises) e in
      let k = is_known_more (context_names f.premise) (context_names c) f.at.ctxs within here in
      ap (λ cs. has_all (context_names c) cs) (sym lists) ∙ (and_both (has_all (context_names c) f.at.ctxs) (is_apart f.at.ctxs) k).0

  pub need_few : (n : Need) → In n (needs_of ps c) → n.arity ≤ 8
  need_few n i =
      let f = need-from ps c n i in
      let few = rule.even.few f.premise f.at f.in_premises f.there in
      let e : length f.at.levels ≡ n.arity = ap (λ (m : Need). m.arity) f.same in
      omega arith
