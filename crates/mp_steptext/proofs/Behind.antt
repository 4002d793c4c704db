-- Behind a fault that is held no further one counts, and one that is told again changes nothing.
use Rattle.std.proofs.Common.{◌≡◌, ℕ, ◌++◌, List, [], ◌∷◌, Option, None, Some, Bool, true, false, nat_lt, nat_eq, not, ◌&&◌, ◌||◌, if◌then◌else◌, is_some, refl, sym, ap, ◌∙◌, true≢false, arith}
use Rattle.std.specs.List.{flat_map, list_all}
use Rattle.std.proofs.lemmas.Bool.{and_parts}
use Rattle.std.proofs.lemmas.Bool.Decides.{nat_tests}
use Rattle.mp_logic.specs.declared.sym.Sym.{Sym}
use Rattle.mp_names.specs.Sets.{is_among}
use Rattle.mp_theory.specs.declared.rule.Need.{Need}
use Rattle.mp_words.specs.declared.fail.TextErr.{TextErr}
use Rattle.mp_words.specs.declared.fail.TextWhy.{TextWhy}
use Rattle.mp_words.specs.declared.fail.TextWhy.TheVariants as why
use Rattle.mp_words.specs.Seconds.{second_after, second_faults}
use Rattle.mp_words.specs.Faults.{fault, fault_if, is_behind, is_sooner, least_from, rank_of, sooner}
use Rattle.mp_words.proofs.Soonest.{least_from_append}
use Rattle.mp_steptext.specs.declared.raw.RawGiven.{RawGiven}
use Rattle.mp_steptext.specs.declared.raw.RawRuleStep.{RawRuleStep}
use Rattle.mp_steptext.specs.Statics.{all_given_faults, given_faults, given_of, missing_faults, need_faults, need_of}

abbrev first : ℕ → ℕ → ℕ → ℕ → Bool
first a r b q = nat_lt a b || (nat_eq a b && nat_lt r q)

later : (a l r q : ℕ) → nat_lt a l ≡ true → first l q a r ≡ false
later a l r q h = grind (arith, nat_tests, h)

not_itself : (a r : ℕ) → first a r a r ≡ false
not_itself a r = grind (arith, nat_tests)

-- ## Behind a fault that is held

stays : (held : Option TextErr) (l : ℕ) (w : TextWhy) → is_behind held l ≡ true → least_from held (fault l w) ≡ held
stays None l w h = absurd (true≢false (sym h))
stays (Some f) l w h =
    let e : is_sooner (record { at = l; why = w }) f ≡ false = later f.at l (rank_of f.why) (rank_of w) h in
    rw e refl

stays_if : (held : Option TextErr) (test : Bool) (l : ℕ) (w : TextWhy) → is_behind held l ≡ true → least_from held (fault_if test l w) ≡ held
stays_if held true l w h = stays held l w h
stays_if held false l w h = refl

-- no need that isn't given counts
pub missing_behind : {R : Type 0} (held : Option TextErr) (s : RawRuleStep R) (needs : List Need) → is_behind held s.rule.at ≡ true → least_from held (flat_map (missing_faults s) needs) ≡ held
missing_behind held s [] h = refl
missing_behind held s (need ∷ needs) h =
    let rest = flat_map (missing_faults s) needs in
    least_from_append held (missing_faults s need) rest ∙ ap (λ o. least_from o rest) (stays_if held (not (is_some (given_of s.given need.name))) s.rule.at why.MissingWith h) ∙ missing_behind held s needs h

module _ {R : Type 0} (arity : R → ℕ) (faults : ℕ → R → List TextErr) (held : Option TextErr) (needs : List Need) where
  need_stays : (o : Option Need) (g : RawGiven R) → is_behind held g.name.at ≡ true → least_from held (need_faults arity faults o g) ≡ held
  need_stays None g h = stays held g.name.at why.ExtraWith h
  need_stays (Some need) g h = stays_if held (not (nat_eq need.arity (arity g.body))) g.name.at why.BadArity h

  abbrev AllBehind : List (RawGiven R) → Type 0
  AllBehind gs = list_all (λ g. is_behind held g.name.at) gs ≡ true

  each_behind : (gs : List (RawGiven R)) → AllBehind gs → least_from held (flat_map (given_faults arity faults needs) gs) ≡ held
  each_behind [] h = refl
  each_behind (g ∷ gs) h =
      let both = and_parts (is_behind held g.name.at) (list_all (λ x. is_behind held x.name.at) gs) h in
      let rest = flat_map (given_faults arity faults needs) gs in
      least_from_append held (given_faults arity faults needs g) rest ∙ ap (λ o. least_from o rest) (need_stays (need_of needs g.name.name) g both.0) ∙ each_behind gs both.1

  seconds_behind : (before : List Sym) (gs : List (RawGiven R)) → AllBehind gs → least_from held (second_after (λ (x : RawGiven R). x.name) why.TwiceWith before gs) ≡ held
  seconds_behind before [] h = refl
  seconds_behind before (g ∷ gs) h =
      let both = and_parts (is_behind held g.name.at) (list_all (λ x. is_behind held x.name.at) gs) h in
      let here = fault_if (is_among before g.name.name) g.name.at why.TwiceWith in
      let rest = second_after (λ (x : RawGiven R). x.name) why.TwiceWith (before ++ g.name.name ∷ []) gs in
      least_from_append held here rest ∙ ap (λ o. least_from o rest) (stays_if held (is_among before g.name.name) g.name.at why.TwiceWith both.0) ∙ seconds_behind (before ++ g.name.name ∷ []) gs both.1

  -- nor does a given term
  pub given_behind : (gs : List (RawGiven R)) → AllBehind gs → least_from held (all_given_faults arity faults needs gs) ≡ held
  given_behind gs h =
      let seconds = second_faults (λ (x : RawGiven R). x.name) why.TwiceWith gs in
      least_from_append held (flat_map (given_faults arity faults needs) gs) seconds ∙ ap (λ o. least_from o seconds) (each_behind gs h) ∙ seconds_behind [] gs h

-- ## A fault that is told again

again_some : (g f : TextErr) (b : Bool) → is_sooner f g ≡ b → sooner (if b then Some f else Some g) f ≡ (if b then Some f else Some g)
again_some g f true e = rw (not_itself f.at (rank_of f.why)) refl
again_some g f false e = rw e refl

again : (held : Option TextErr) (f : TextErr) → sooner (sooner held f) f ≡ sooner held f
again None f = rw (not_itself f.at (rank_of f.why)) refl
again (Some g) f = again_some g f (is_sooner f g) refl

abbrev lacking : {R : Type 0} → RawRuleStep R → TextErr
lacking s = record { at = s.rule.at; why = why.MissingWith }

one_more : {R : Type 0} (held : Option TextErr) (s : RawRuleStep R) (test : Bool) → least_from (sooner held (lacking s)) (fault_if test s.rule.at why.MissingWith) ≡ sooner held (lacking s)
one_more held s true = again held (lacking s)
one_more held s false = refl

-- a need that is given counts for nothing
pub none_missing : {R : Type 0} (held : Option TextErr) (s : RawRuleStep R) (need : Need) → is_some (given_of s.given need.name) ≡ true → held ≡ least_from held (missing_faults s need)
none_missing held s need there = ap (λ test. least_from held (fault_if (not test) s.rule.at why.MissingWith)) (sym there)

-- once one need isn't given, the others change nothing
pub missing_again : {R : Type 0} (held : Option TextErr) (s : RawRuleStep R) (needs : List Need) → least_from (sooner held (lacking s)) (flat_map (missing_faults s) needs) ≡ sooner held (lacking s)
missing_again held s [] = refl
missing_again held s (need ∷ needs) =
    let rest = flat_map (missing_faults s) needs in
    least_from_append (sooner held (lacking s)) (missing_faults s need) rest ∙ ap (λ o. least_from o rest) (one_more held s (not (is_some (given_of s.given need.name)))) ∙ missing_again held s needs

-- the search ends at a need that isn't given, where those before it are
pub missing_found : {R : Type 0} (held : Option TextErr) (s : RawRuleStep R) (need : Need) (needs : List Need) → is_some (given_of s.given need.name) ≡ false → least_from held (flat_map (missing_faults s) (need ∷ needs)) ≡ sooner held (lacking s)
missing_found held s need needs none =
    let rest = flat_map (missing_faults s) needs in
    least_from_append held (missing_faults s need) rest ∙ ap (λ test. least_from (least_from held (fault_if (not test) s.rule.at why.MissingWith)) rest) none ∙ missing_again held s needs
