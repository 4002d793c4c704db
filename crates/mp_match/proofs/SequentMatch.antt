-- A sequent's match is its instance.
use Rattle.std.proofs.Common.{◌≡◌, ℕ, ◌+◌, ◌-◌, ◌<◌, ◌^◌, List, [], ◌∷◌, length, zero, suc, Bool, true, false, ◌||◌, nat_eq, nat_lt, IsTrue, IsSome, ◌↔◌, Option, Some, None, ◌⊎◌, inl, inr, option_and_then, IfSome, refl, sym, subst, ap, ◌∙◌, arith}
use Rattle.std.specs.Option.{option_map}
use Rattle.std.specs.List.{list_all}
use Rattle.std.proofs.lemmas.Bool.Decides.{nat_tests}
use Rattle.std.proofs.lemmas.List.{length-append}
use Rattle.std.proofs.lemmas.Option.{option_and_then_some}
use Rattle.mp_logic.specs.declared.sym.Sym.{Sym}
use Rattle.mp_term.specs.declared.term.Term.{Term}
use Rattle.mp_term.specs.declared.sequent.Sequent.{Sequent}
use Rattle.mp_term.specs.Limits.{sequent_in_scope_of}
use Rattle.mp_schema.specs.declared.instance.Inst.{Inst}
use Rattle.mp_schema.specs.declared.schema.Item.{Item}
use Rattle.mp_schema.specs.declared.schema.Item.TheVariants.{Ctx, Hyp}
use Rattle.mp_schema.specs.declared.schema.Schema.{Schema}
use Rattle.mp_schema.specs.Instances.{fits}
use Rattle.mp_schema.specs.Sequents.{Instance, Spot, first_spot, hyps_of, hyps_from, behind, behind_all, concl_at, item_fits, wide_of}
use Rattle.mp_schema.specs.Conditions.{Before, past, past_all, nothing_before, has, contexts_among, is_conclusion, has_two_contexts}
use Rattle.mp_schema.specs.Occurrences.{occurrences_in_schema, holes_in_schema}
use Rattle.mp_schema.specs.Values.{instance_of}
use Rattle.mp_match.specs.declared.place.Found.{Found}
use Rattle.mp_match.specs.declared.place.Walk.{Walk}
use Rattle.mp_match.specs.declared.sizes.Sizes.{Sizes}
use Rattle.mp_match.specs.Matching.{found_in}
use Rattle.mp_match.specs.Matches.{as_instance}
use Rattle.mp_match.specs.Places.{names_of, ground_of, levels_at}
use Rattle.mp_match.specs.Walks.{named_in, shared, sizes_of, needed, items_found, first_walk, concl_found, match_of}
use Rattle.mp_term.specs.Subst.{widest_in_sequent}
use Rattle.mp_schema.specs.Solutions.{Agrees, FirstHas, HasFirst, GivesGoal, Begins, IsInstance}
use Rattle.mp_term.proofs.EqualTerms.{both_true, and_true, decided}
use Rattle.mp_match.proofs.PatternLaws.{Asks}
use Rattle.mp_match.proofs.Solving.{Solves}
use Rattle.mp_match.proofs.Ready.{Ready, before-all}
use Rattle.mp_match.proofs.SequentSizes.{GivenTwo, given-two, sizes-counted}
use Rattle.mp_match.proofs.Ended.{started, end-laid, end-known, end-fine, end-next, end-scoped}
use Rattle.mp_schema.proofs.OneGoal.{one_instance}
use Rattle.mp_match.specs.Covering.{schema_covered}
use Rattle.mp_match.proofs.Covered.{agrees_itself, covered_where_one}
use Rattle.mp_match.proofs.TermMatch.{meets_nothing}
use Rattle.mp_match.proofs.Ties.{At, asks-makes, makes-asks, solved-here}
use Rattle.mp_match.proofs.ItemLaws.{Tied}
use Rattle.mp_schema.proofs.Rows.{telescope-length}
use Rattle.mp_match.proofs.WalkLaws.{IsSized, items-sound, items-complete, items-sized}

-- ## The sizes of an instance's contexts

-- the hypotheses of the contexts
abbrev kept_total : Instance → List Sym → ℕ
kept_total v [] = 0
kept_total v (c ∷ names) = length (v.kept c) + kept_total v names

made-length : (v : Instance) (is : List Item) (l : Spot) → length (hyps_from v is l) ≡ named_in is + kept_total v (contexts_among is)
made-length v [] l = refl
made-length v (Hyp p ∷ is) l =
    let a = length-append (hyps_of v (Hyp p) l) (hyps_from v is (behind v (Hyp p) l)) in
    let b : length (hyps_of v (Hyp p) l) ≡ 1 = refl in
    let r = made-length v is (behind v (Hyp p) l) in omega (arith, a, b, r)
made-length v (Ctx name names args ∷ is) l =
    let a = length-append (hyps_of v (Ctx name names args) l) (hyps_from v is (behind v (Ctx name names args) l)) in
    let b = telescope-length v l names args l.next 0 (v.kept name) in
    let r = made-length v is (behind v (Ctx name names args) l) in omega (arith, a, b, r)

abbrev Shares : Instance → List Sym → Option Sizes → Type 0
Shares v names o = (sizes : Sizes) × (o ≡ Some sizes) × IsSized v names sizes.first sizes.later

shared-by : (v : Instance) (names : List Sym) (first : Option ℕ) (left : ℕ) → GivenTwo (length names) first →
    ((k : ℕ) → first ≡ Some k → FirstHas v names k) → left ≡ kept_total v names → Shares v names (shared names first left)
shared-by v [] first zero g has-first e = (record { first = 0; later = 0 }, refl, tt)
shared-by v [] first (suc left) g has-first e = absurd (omega (arith, e))
shared-by v (c ∷ []) None left g has-first e = (record { first = left; later = 0 }, refl, (omega (arith, e), tt))
shared-by v (c ∷ []) (Some first) left g has-first e = let two = g.1.0 refl in absurd (omega (arith, two))
shared-by v (c ∷ d ∷ names) None left g has-first e = let two = g.1.1 (let le = g.0 in omega (arith, le)) in absurd (cc)
shared-by v (c ∷ d ∷ []) (Some first) left g has-first e =
    let one = has-first first refl in
    let le : nat_lt left first ≡ false = grind (arith, nat_tests, e, one) in
    rw le (record { first = first; later = left - first }, refl, (one, (omega (arith, e, one), tt)))
shared-by v (c ∷ d ∷ x ∷ names) (Some first) left g has-first e = absurd (let le = g.0 in omega (arith, le))

sizes-by : (v : Instance) (items : List Item) (first : Option ℕ) (hyps : ℕ) → GivenTwo (length (contexts_among items)) first →
    ((k : ℕ) → first ≡ Some k → FirstHas v (contexts_among items) k) → hyps ≡ named_in items + kept_total v (contexts_among items) → Shares v (contexts_among items) (sizes_of items first hyps)
sizes-by v items first hyps g has-first e =
    let le : nat_lt hyps (named_in items) ≡ false = grind (arith, nat_tests, e) in
    rw le (shared-by v (contexts_among items) first (hyps - named_in items) g has-first (omega (arith, e)))

shared-first : (c : Sym) (names : List Sym) (first left : ℕ) (sizes : Sizes) → shared (c ∷ names) (Some first) left ≡ Some sizes → sizes.first ≡ first
shared-first c names first left sizes e = elim (decided (nat_lt left first)) [
  | inl less ↦ absurd (let k = rw less at e in cc)
  | inr more ↦ let k = rw more at e in let is : sizes ≡ record { first = first; later = left - first } = cc in ap (λ (s : Sizes). s.first) is
]

sized-first : (v : Instance) (names : List Sym) (first left : ℕ) (sizes : Sizes) → shared names (Some first) left ≡ Some sizes →
    IsSized v names sizes.first sizes.later → FirstHas v names first
sized-first v [] first left sizes e h = tt
sized-first v (c ∷ names) first left sizes e h = h.0 ∙ shared-first c names first left sizes e

has-first-of : (v : Instance) (s : Schema) (first : Option ℕ) (hyps : ℕ) (sizes : Sizes) → sizes_of s.items first hyps ≡ Some sizes →
    IsSized v (contexts_among s.items) sizes.first sizes.later → HasFirst v s first
has-first-of v s None hyps sizes e h = tt
has-first-of v s (Some first) hyps sizes e h = elim (decided (nat_lt hyps (named_in s.items))) [
  | inl less ↦ absurd (let k = rw less at e in cc)
  | inr more ↦ let k = rw more at e in sized-first v (contexts_among s.items) first (hyps - named_in s.items) sizes k h
]

has-first-at : (v : Instance) (s : Schema) (first : Option ℕ) → HasFirst v s first → (k : ℕ) → first ≡ Some k → FirstHas v (contexts_among s.items) k
has-first-at v s None h k e = absurd (cc)
has-first-at v s (Some n) h k e = let is : n ≡ k = cc in rw (← is) h

-- ## The names of the contexts

or_true : (a b : Bool) → (a ≡ true) ⊎ (b ≡ true) → (a || b) ≡ true
or_true true b h = refl
or_true false b (inl h) = absurd (cc)
or_true false b (inr h) = h

past-has : (is : List Item) (b : Before) (name : Sym) → (has b.contexts name ≡ true) ⊎ (has (contexts_among is) name ≡ true) → has (past_all is b).contexts name ≡ true
past-has [] b name (inl h) = h
past-has [] b name (inr h) = absurd (cc)
past-has (Hyp p ∷ is) b name h = past-has is (past (Hyp p) b) name h
past-has (Ctx c names args ∷ is) b name (inl h) = past-has is (past (Ctx c names args) b) name (inl (or_true (nat_eq c.0 name.0) (has b.contexts name) (inr h)))
past-has (Ctx c names args ∷ is) b name (inr h) = elim (decided (nat_eq c.0 name.0)) [
  | inl same ↦ past-has is (past (Ctx c names args) b) name (inl (or_true (nat_eq c.0 name.0) (has b.contexts name) (inl same)))
  | inr other ↦ past-has is (past (Ctx c names args) b) name (inr (grind (arith, other, h)))
]

-- ## The instance

nothing-at : At first_spot first_walk.place
nothing-at = record { next = refl; env = refl; pos = λ name h. absurd (cc) }

nothing-tied : (v : Instance) → Tied v first_walk
nothing-tied v = record { meets = meets_nothing v.values; ctxs = λ name x e. absurd (cc) }

module _ (s : Schema) (first : Option ℕ) (goal : Sequent) (conclusion : IsTrue (is_conclusion s)) (two : IsSome first ↔ IsTrue (has_two_contexts s))
    (scoped : IsTrue (sequent_in_scope_of goal)) (narrow : widest_in_sequent goal < 2 ^ 31) where
  given : GivenTwo (length (contexts_among s.items)) first
  given = given-two s first conclusion two

  module _ (sizes : Sizes) (shares : sizes_of s.items first (length goal.hyps) ≡ Some sizes) where
    counted : needed s.items sizes.first sizes.later ≡ length goal.hyps
    counted = sizes-counted s.items first (length goal.hyps) sizes given shares

    start : Ready sizes goal.hyps s.items first_walk.place
    start = started s goal conclusion scoped narrow sizes counted

    module _ (w : Walk) (walked : items_found sizes goal.hyps s.items first_walk ≡ Some w) where
      solved : Solves (Asks (ground_of w.place) (names_of w.place.ctxs) s.concl w.place.named w.place.next goal.concl) w.found
          (found_in (ground_of w.place) s.concl (levels_at w.place w.place.next) w.place.next goal.concl w.found)
      solved = solved-here w.place s.concl goal.concl w.found (end-laid s goal conclusion scoped narrow sizes counted w walked)
          (end-fine s goal conclusion scoped narrow sizes counted w walked) (end-known s goal conclusion scoped narrow sizes counted w walked)
          (end-scoped s goal conclusion scoped narrow sizes counted w walked)

      -- every instance has what is found, if it has what the items found
      concl-complete : (v : Instance) → GivesGoal s first goal v → Tied v w → At (behind_all v s.items first_spot) w.place →
          (i : Inst) × (concl_found s.concl goal.concl w ≡ Some i) × Agrees v i
      concl-complete v h tied at =
          let laid = end-laid s goal conclusion scoped narrow sizes counted w walked in
          let known = end-known s goal conclusion scoped narrow sizes counted w walked in
          let fit = both_true (list_all (item_fits v) s.items) (fits (wide_of v) v.values s.concl) h.fit in
          let made : concl_at v s.concl (behind_all v s.items first_spot) ≡ goal.concl = ap (λ (q : Sequent). q.concl) h.same in
          let a = makes-asks v (behind_all v s.items first_spot) w.place h.ambient laid tied.ctxs at s.concl goal.concl known (fit.1, made) in
          let r = solved.complete v.values tied.meets a in
          let m = r.2 in (
            as_instance w.place r.0,
            rw r.1 refl,
            record { ambient = h.ambient ∙ sym laid.ambient; ctxs = tied.ctxs; metas = m.metas; params = m.params },
          )

      -- and each instance that has what is found is one
      found-gives : (f : Found) → found_in (ground_of w.place) s.concl (levels_at w.place w.place.next) w.place.next goal.concl w.found ≡ Some f → (v : Instance) →
          Agrees v (as_instance w.place f) → GivesGoal s first goal v × At (behind_all v s.items first_spot) w.place
      found-gives f e v a =
          let laid = end-laid s goal conclusion scoped narrow sizes counted w walked in
          let known = end-known s goal conclusion scoped narrow sizes counted w walked in
          let next = end-next s goal conclusion scoped narrow sizes counted w walked in
          let ambient : v.ambient ≡ 0 = a.ambient ∙ laid.ambient in
          let c = solved.sound v.values f e (record { metas = a.metas; params = a.params }) in
          let tied : Tied v w = record { meets = c.0; ctxs = a.ctxs } in
          let all = (items-sound sizes goal.hyps v ambient s.items first_walk w start walked next tied).1 first_spot nothing-at in
          let m = asks-makes v (behind_all v s.items first_spot) w.place ambient laid a.ctxs all.2 s.concl goal.concl known c.1 in
          let sized = items-sized sizes goal.hyps v ambient s.items first_walk w start walked next tied in (
            record {
              ambient = ambient;
              fit = and_true (list_all (item_fits v) s.items) (fits (wide_of v) v.values s.concl) all.0 m.0;
              sized = has-first-of v s first (length goal.hyps) sizes shares sized;
              same = same_sequent (hyps_from v s.items first_spot) goal.hyps (concl_at v s.concl (behind_all v s.items first_spot)) goal.concl all.1 m.1;
            },
            all.2,
          ) where
            same_sequent : (hs hs' : List Term) (c c' : Term) → hs ≡ hs' → c ≡ c' → ◌≡◌ {A = Sequent} (record { hyps = hs; concl = c }) (record { hyps = hs'; concl = c' })
            same_sequent hs hs' c c' p q = rw (p, q) refl

      found-begins : (f : Found) → At (behind_all (instance_of (as_instance w.place f)) s.items first_spot) w.place → Begins (as_instance w.place f) s
      found-begins f at name h =
          let b = before-all sizes goal.hyps s.items first_walk w walked in
          let h' : has (names_of w.place.ctxs) name ≡ true = subst (λ (b : Before). has b.contexts name ≡ true) (sym b) (past-has s.items nothing_before name (inr h)) in
          sym (at.pos name h')

      concl-sound : (o : Option Found) → found_in (ground_of w.place) s.concl (levels_at w.place w.place.next) w.place.next goal.concl w.found ≡ o →
          (i : Inst) → option_map (as_instance w.place) o ≡ Some i → ((v : Instance) → Agrees v i → GivesGoal s first goal v) × Begins i s
      concl-sound None e i is = absurd (cc)
      concl-sound (Some f) e i is =
          let is' : i ≡ as_instance w.place f = cc in
          let itself = found-gives f e (instance_of (as_instance w.place f)) (agrees_itself (as_instance w.place f)) in
          rw is' (λ v a. (found-gives f e v a).0, found-begins f itself.1)

  complete-all : (v : Instance) → GivesGoal s first goal v → (i : Inst) × (match_of s first goal ≡ Some i) × Agrees v i
  complete-all v h =
      let same-hyps : hyps_from v s.items first_spot ≡ goal.hyps = ap (λ (q : Sequent). q.hyps) h.same in
      let total = rw same-hyps at (made-length v s.items first_spot) in
      let share = sizes-by v s.items first (length goal.hyps) given (has-first-at v s first h.sized) total in
      let fit = both_true (list_all (item_fits v) s.items) (fits (wide_of v) v.values s.concl) h.fit in
      let walked = items-complete share.0 goal.hyps v h.ambient s.items first_walk first_spot (start share.0 share.1) (nothing-tied v) nothing-at fit.0 share.2 same-hyps in
      let c = concl-complete share.0 share.1 walked.0 walked.1 v h walked.2 walked.3 in
      (c.0, rw (share.1, walked.1) c.1, c.2)

  sound-all : (i : Inst) → match_of s first goal ≡ Some i → ((v : Instance) → Agrees v i → GivesGoal s first goal v) × Begins i s
  sound-all i e =
      option_and_then_some (λ (sizes : Sizes). option_and_then (concl_found s.concl goal.concl) (items_found sizes goal.hyps s.items first_walk))
      (sizes_of s.items first (length goal.hyps)) i e (λ sizes shares rest.
      option_and_then_some (concl_found s.concl goal.concl) (items_found sizes goal.hyps s.items first_walk) i rest (λ w walked k.
      concl-sound sizes shares w walked (found_in (ground_of w.place) s.concl (levels_at w.place w.place.next) w.place.next goal.concl w.found) refl i k))

  matched : (o : Option Inst) → match_of s first goal ≡ o → IsInstance s first goal o × IfSome o (λ i. IsTrue (schema_covered i s))
  matched None e = (λ v h. let r = complete-all v h in absurd (let k = r.1 in cc), tt)
  matched (Some i) e =
      let a = sound-all i e in
      let itself = a.0 (instance_of i) (agrees_itself i) in (
        (itself, a.1, λ v h. let r = complete-all v h in let k = r.1 in let is : r.0 ≡ i = cc in rw (← is) r.2),
        covered_where_one i (occurrences_in_schema s) (holes_in_schema s) (λ v b. one_instance s first goal (instance_of i) v conclusion two.1 itself (a.0 v b)),
      )

  -- what is found is the instance, with a value for each name
  pub sequent_matched : IsInstance s first goal (match_of s first goal) × IfSome (match_of s first goal) (λ i. IsTrue (schema_covered i s))
  sequent_matched = matched (match_of s first goal) refl
