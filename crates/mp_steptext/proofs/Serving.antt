-- What is given for the needs of a rule, one by one, has no fault and stands for the given terms.
use Rattle.std.proofs.Common.{◌≡◌, ℕ, ◌+◌, ◌≤◌, ◌++◌, List, [], ◌∷◌, map, length, Bool, true, false, not, nat_eq, Some, is_some, refl, ap, sym, subst, ◌∙◌, append_assoc, length-append, true≢false, arith}
use Rattle.std.specs.Prelude.{◌||◌, if◌then◌else◌}
use Rattle.std.specs.List.{flat_map}
use Rattle.std.proofs.lemmas.Bool.Decides.{nat_tests}
use Rattle.std.proofs.lemmas.List.{map-append}
use Rattle.mp_logic.specs.declared.sym.Sym.{Sym}
use Rattle.mp_names.specs.Sets.{Met, is_met, with_met}
use Rattle.mp_names.proofs.Meeting.{eq_comm, meeting}
use Rattle.mp_theory.specs.declared.just.Given.{Given}
use Rattle.mp_theory.specs.declared.rule.Need.{Need}
use Rattle.mp_words.specs.declared.fail.TextWhy.TheVariants as why
use Rattle.mp_words.specs.Faults.{fault_if}
use Rattle.mp_words.specs.Seconds.{second_after, second_faults}
use Rattle.mp_termtext.specs.declared.raw.RawBound.{RawBound}
use Rattle.mp_steptext.specs.declared.raw.RawGiven.{RawGiven}
use Rattle.mp_steptext.specs.declared.raw.RawRuleStep.{RawRuleStep}
use Rattle.mp_steptext.specs.Names.{AreNew, all_met, given_numbers, need_numbers}
use Rattle.mp_steptext.specs.Statics.{all_given_faults, body_faults, given_faults, given_of, missing_faults, need_faults, need_of}
use Rattle.mp_steptext.specs.Terms.{given_term, given_term_faults, term_arity}
use Rattle.mp_steptext.specs.Values.{body_in, given_for}
use Rattle.mp_steptext.proofs.DistinctNeeds.{AreFound}
use Rattle.mp_steptext.proofs.MetNames.{with_new}

-- ## Names that are new where they are met

-- each of these isn't among those before it
abbrev pub AreFresh : List ℕ → List ℕ → Type 0
AreFresh before [] = Unit {0}
AreFresh before (n ∷ ns) = (is_met before n ≡ false) × AreFresh (before ++ n ∷ []) ns

length_with : (met : List ℕ) (n : ℕ) → length (with_met met n) ≤ length met + 1
length_with met n = by (is_met met n)
  where
    by : (b : Bool) → length (if b then met else met ++ n ∷ []) ≤ length met + 1
    by true = omega arith
    by false = let e = length-append met (n ∷ []) in omega (arith, e)

length_met : (met ns : List ℕ) → length (all_met met ns) ≤ length met + length ns
length_met met [] = omega arith
length_met met (n ∷ ns) = let a = length_met (with_met met n) ns in let b = length_with met n in omega (arith, a, b)

fresh_from : (met ns : List ℕ) → all_met met ns ≡ met ++ ns → AreFresh met ns
fresh_from met [] h = tt
fresh_from met (n ∷ ns) h = by (is_met met n) refl (fresh_from (met ++ n ∷ []) ns)
  where
    by : (b : Bool) → is_met met n ≡ b → (all_met (met ++ n ∷ []) ns ≡ (met ++ n ∷ []) ++ ns → AreFresh (met ++ n ∷ []) ns) → (is_met met n ≡ false) × AreFresh (met ++ n ∷ []) ns
    by true e ih =
        let same : all_met met ns ≡ met ++ n ∷ ns = ap (λ c. all_met (if c then met else met ++ n ∷ []) ns) (sym e) ∙ h in
        let long = ap length same in
        let most = length_met met ns in
        let whole = length-append met (n ∷ ns) in
        absurd (omega (arith, long, most, whole))
    by false e ih =
        let next : all_met (met ++ n ∷ []) ns ≡ (met ++ n ∷ []) ++ ns = ap (λ c. all_met (if c then met else met ++ n ∷ []) ns) (sym e) ∙ h ∙ sym (append_assoc met (n ∷ []) ns) in
        (e, ih next)

pub all_fresh : (ns : List ℕ) → AreNew ns → AreFresh [] ns
all_fresh ns h = fresh_from [] ns h

abbrev Terms : Type 0
Terms = List (RawGiven RawBound)

no_second : (met : List ℕ) (before : List Sym) (gs : Terms) → Met met before → AreFresh met (given_numbers gs) → second_after (λ (g : RawGiven RawBound). g.name) why.TwiceWith before gs ≡ []
no_second met before [] are h = refl
no_second met before (g ∷ gs) are h =
    let name = g.name.name in
    let rest = second_after (λ (x : RawGiven RawBound). x.name) why.TwiceWith (before ++ name ∷ []) gs in
    let next : Met (met ++ name.0 ∷ []) (before ++ name ∷ []) = subst (λ m. Met m (before ++ name ∷ [])) (with_new met name.0 h.0) (meeting met before name are) in
    ap (λ b. fault_if b g.name.at why.TwiceWith ++ rest) (sym (are name) ∙ h.0) ∙ no_second (met ++ name.0 ∷ []) (before ++ name ∷ []) gs next h.1

-- each of these is the first of its name in the whole
abbrev pub AreFirst : Terms → Terms → Type 0
AreFirst whole [] = Unit {0}
AreFirst whole (g ∷ gs) = (given_of whole g.name.name ≡ Some g) × AreFirst whole gs

same_name : (n : ℕ) → nat_eq n n ≡ true
same_name n = grind (arith, nat_tests)

first_here : (front : Terms) (g : RawGiven RawBound) (gs : Terms) → is_met (given_numbers front) g.name.name.0 ≡ false → given_of (front ++ g ∷ gs) g.name.name ≡ Some g
first_here [] g gs h = ap (λ b. if b then Some g else given_of gs g.name.name) (same_name g.name.name.0)
first_here (f ∷ front) g gs h = by (nat_eq f.name.name.0 g.name.name.0) (sym (ap (λ b. b || is_met (given_numbers front) g.name.name.0) (eq_comm g.name.name.0 f.name.name.0)) ∙ h) (first_here front g gs)
  where
    by : (b : Bool) → (b || is_met (given_numbers front) g.name.name.0) ≡ false → (is_met (given_numbers front) g.name.name.0 ≡ false → given_of (front ++ g ∷ gs) g.name.name ≡ Some g)
        → (if b then Some f else given_of (front ++ g ∷ gs) g.name.name) ≡ Some g
    by true e ih = absurd (true≢false e)
    by false e ih = ih e

each_first : (front gs : Terms) → AreFresh (given_numbers front) (given_numbers gs) → AreFirst (front ++ gs) gs
each_first front [] h = tt
each_first front (g ∷ gs) h =
    let longer : (front ++ g ∷ []) ++ gs ≡ front ++ g ∷ gs = append_assoc front (g ∷ []) gs in
    let numbers = map-append (λ (x : RawGiven RawBound). x.name.name.0) front (g ∷ []) in
    (first_here front g gs h.0, subst (λ whole. AreFirst whole gs) longer (each_first (front ++ g ∷ []) gs (subst (λ ns. AreFresh ns (given_numbers gs)) (sym numbers) h.1)))

-- ## What is given for needs

-- this is given for the need, has no fault by itself, and stands for the given term
pub record IsGivenFor (n : Need) (g : Given) (r : RawGiven RawBound) : Type 0 where
  pub named : r.name.name ≡ n.name
  pub arity : n.arity ≡ term_arity r.body
  pub faultless : given_term_faults r.at r.body ≡ []
  pub value : given_term n (Some r.body) ≡ g

abbrev pub AreGivenFor : List Need → List Given → Terms → Type 0
AreGivenFor [] [] [] = Unit {0}
AreGivenFor (n ∷ ns) (g ∷ gs) (r ∷ rs) = IsGivenFor n g r × AreGivenFor ns gs rs
AreGivenFor ns gs rs = ⊥

same_numbers : (ns : List Need) (gs : List Given) (rs : Terms) → AreGivenFor ns gs rs → given_numbers rs ≡ need_numbers ns
same_numbers [] [] [] h = refl
same_numbers (n ∷ ns) (g ∷ gs) (r ∷ rs) h = (λ i. (h.0.named i).0 ∷ same_numbers ns gs rs h.1 i)
same_numbers [] [] (r ∷ rs) h = absurd h
same_numbers [] (g ∷ gs) rs h = absurd h
same_numbers (n ∷ ns) [] rs h = absurd h
same_numbers (n ∷ ns) (g ∷ gs) [] h = absurd h

no_bodies : (ns : List Need) (gs : List Given) (rs : Terms) → AreGivenFor ns gs rs → flat_map (body_faults term_arity given_term_faults) rs ≡ []
no_bodies [] [] [] h = refl
no_bodies (n ∷ ns) (g ∷ gs) (r ∷ rs) h = ap (λ fs. fs ++ flat_map (body_faults term_arity given_term_faults) rs) h.0.faultless ∙ no_bodies ns gs rs h.1
no_bodies [] [] (r ∷ rs) h = absurd h
no_bodies [] (g ∷ gs) rs h = absurd h
no_bodies (n ∷ ns) [] rs h = absurd h
no_bodies (n ∷ ns) (g ∷ gs) [] h = absurd h

no_given : (needs ns : List Need) (gs : List Given) (rs : Terms) → AreFound needs ns → AreGivenFor ns gs rs → flat_map (given_faults term_arity given_term_faults needs) rs ≡ []
no_given needs [] [] [] own h = refl
no_given needs (n ∷ ns) (g ∷ gs) (r ∷ rs) own h =
    let rest = flat_map (given_faults term_arity given_term_faults needs) rs in
    let a = h.0.arity in
    let same : nat_eq n.arity (term_arity r.body) ≡ true = grind (arith, nat_tests, a) in
    ap (λ o. need_faults term_arity given_term_faults o r ++ rest) (ap (need_of needs) h.0.named ∙ own.0) ∙ ap (λ b. fault_if (not b) r.name.at why.BadArity ++ rest) same ∙ no_given needs ns gs rs own.1 h.1
no_given needs [] [] (r ∷ rs) own h = absurd h
no_given needs [] (g ∷ gs) rs own h = absurd h
no_given needs (n ∷ ns) [] rs own h = absurd h
no_given needs (n ∷ ns) (g ∷ gs) [] own h = absurd h

there : (whole : Terms) (n : Need) (r : RawGiven RawBound) → r.name.name ≡ n.name → given_of whole r.name.name ≡ Some r → given_of whole n.name ≡ Some r
there whole n r e h = ap (given_of whole) (sym e) ∙ h

no_missing : (s : RawRuleStep RawBound) (ns : List Need) (gs : List Given) (rs : Terms) → AreFirst s.given rs → AreGivenFor ns gs rs → flat_map (missing_faults s) ns ≡ []
no_missing s [] [] [] first h = refl
no_missing s (n ∷ ns) (g ∷ gs) (r ∷ rs) first h =
    let rest = flat_map (missing_faults s) ns in
    ap (λ o. fault_if (not (is_some o)) s.rule.at why.MissingWith ++ rest) (there s.given n r h.0.named first.0) ∙ no_missing s ns gs rs first.1 h.1
no_missing s [] [] (r ∷ rs) first h = absurd h
no_missing s [] (g ∷ gs) rs first h = absurd h
no_missing s (n ∷ ns) [] rs first h = absurd h
no_missing s (n ∷ ns) (g ∷ gs) [] first h = absurd h

values : (whole : Terms) (ns : List Need) (gs : List Given) (rs : Terms) → AreFirst whole rs → AreGivenFor ns gs rs → map (given_for given_term whole) ns ≡ gs
values whole [] [] [] first h = refl
values whole (n ∷ ns) (g ∷ gs) (r ∷ rs) first h =
    let here : given_for given_term whole n ≡ g = ap (λ o. given_term n (body_in o)) (there whole n r h.0.named first.0) ∙ h.0.value in
    (λ i. here i ∷ values whole ns gs rs first.1 h.1 i)
values whole [] [] (r ∷ rs) first h = absurd h
values whole [] (g ∷ gs) rs first h = absurd h
values whole (n ∷ ns) [] rs first h = absurd h
values whole (n ∷ ns) (g ∷ gs) [] first h = absurd h

-- what is given for different needs, one by one: no fault, and the given terms
pub record Serves (s : RawRuleStep RawBound) (needs : List Need) (gs : List Given) : Type 0 where
  pub bodies : flat_map (body_faults term_arity given_term_faults) s.given ≡ []
  pub there : flat_map (missing_faults s) needs ≡ []
  pub given : all_given_faults term_arity given_term_faults needs s.given ≡ []
  pub values : map (given_for given_term s.given) needs ≡ gs

pub serving : (s : RawRuleStep RawBound) (needs : List Need) (gs : List Given) → AreNew (need_numbers needs) → AreFound needs needs → AreGivenFor needs gs s.given → Serves s needs gs
serving s needs gs new own h =
    let rs = s.given in
    let fresh : AreFresh [] (given_numbers rs) = subst (AreFresh []) (sym (same_numbers needs gs rs h)) (all_fresh (need_numbers needs) new) in
    let first = each_first [] rs fresh in
    let seconds = second_faults (λ (g : RawGiven RawBound). g.name) why.TwiceWith rs in
    record {
      bodies = no_bodies needs gs rs h;
      there = no_missing s needs gs rs first h;
      given = ap (λ fs. fs ++ seconds) (no_given needs needs gs rs own h) ∙ no_second [] [] rs (λ name. refl) fresh;
      values = values rs needs gs rs first h;
    }
