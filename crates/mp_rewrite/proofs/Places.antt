-- The term at a place of a goal, the hypotheses before it, and the goal with another subterm there.
use Rattle.std.proofs.Common.{◌≡◌, ◌≤◌, inl, inr, ℕ, ◌+◌, zero, suc, List, [], ◌∷◌, length, take, true, false, Option, Some, None, refl, sym, ap, ◌∙◌, subst, arith}
use Rattle.std.specs.Prelude.{slice_get, sum_by, nat_le, ◌&&◌, option_and_then}
use Rattle.std.specs.List.{list_all}
use Rattle.std.proofs.lemmas.Bool.Decides.{nat_tests}
use Rattle.std.proofs.lemmas.List.Sums.{sum_by-cons, sum_by-take-le}
use Rattle.std.proofs.lemmas.Option.{slice_get_within}
use Rattle.mp_term.specs.declared.term.Term.{Term}
use Rattle.mp_term.specs.declared.sequent.Sequent.{Sequent}
use Rattle.mp_term.specs.Terms.{size_of, depth_of, in_scope_of}
use Rattle.mp_term.specs.Limits.{is_shallow, sequent_size_of, within_limits_of, in_scopes_from, sequent_in_scope_of, few_binders_of, sequent_few_binders_of}
use Rattle.mp_term.specs.Subst.{widest_of}
use Rattle.mp_term.proofs.BinderLaws.{width_few}
use Rattle.mp_term.proofs.EqualTerms.{decided, both_true, and_true}
use Rattle.mp_term.proofs.LimitFacts.{limits_facts}
use Rattle.mp_schema.proofs.Lists.{value_or}
use Rattle.mp_build.specs.Built.{is_small_term}
use Rattle.mp_build.proofs.RoomFacts.{widest-ge}
use Rattle.mp_theory.specs.Allowed.{is_good}
use Rattle.mp_theory.specs.declared.place.Place.{Place}
use Rattle.mp_theory.specs.declared.place.Place.TheVariants.{Concl, Hyp}
use Rattle.mp_rewrite.specs.Addresses.{Subterm, subterm_at, changed_at, put_at, hyps_before, term_at, subterm_of, put_in}
use Rattle.mp_rewrite.specs.Building.{AreFew}
use Rattle.mp_rewrite.proofs.Lists.{length-changed, item-passes, changed-passes, taken-pass, item-of-changed}
use Rattle.mp_rewrite.proofs.Walks.{inside, put}

-- ## Rows of terms

scopes-item : (m : ℕ) (ts : List Term) (n : ℕ) (t : Term) → slice_get ts n ≡ Some t → in_scopes_from m ts ≡ true → in_scope_of t (m + n) ≡ true
scopes-item m [] n t at e = absurd cc
scopes-item m (u ∷ ts) zero t at e =
    let k : u ≡ t = ap (value_or u) at in
    let z : m + 0 ≡ m = omega arith in
    rw z (subst (λ x. in_scope_of x m ≡ true) k (both_true (in_scope_of u m) (in_scopes_from (m + 1) ts) e).0)
scopes-item m (u ∷ ts) (suc n) t at e =
    let z : m + suc n ≡ m + 1 + n = omega arith in
    rw z (scopes-item (m + 1) ts n t at (both_true (in_scope_of u m) (in_scopes_from (m + 1) ts) e).1)

scopes-changed : (f : Term → Term) (m : ℕ) (ts : List Term) (n : ℕ) (t : Term) → slice_get ts n ≡ Some t → in_scopes_from m ts ≡ true → in_scope_of (f t) (m + n) ≡ true →
    in_scopes_from m (changed_at n f ts) ≡ true
scopes-changed f m [] n t at e h = absurd cc
scopes-changed f m (u ∷ ts) zero t at e h =
    let k : u ≡ t = ap (value_or u) at in
    let z : m + 0 ≡ m = omega arith in
    and_true (in_scope_of (f u) m) (in_scopes_from (m + 1) ts) (ap (λ x. in_scope_of (f x) m) k ∙ ap (in_scope_of (f t)) (sym z) ∙ h) (both_true (in_scope_of u m) (in_scopes_from (m + 1) ts) e).1
scopes-changed f m (u ∷ ts) (suc n) t at e h =
    let z : m + suc n ≡ m + 1 + n = omega arith in
    let both = both_true (in_scope_of u m) (in_scopes_from (m + 1) ts) e in
    and_true (in_scope_of u m) (in_scopes_from (m + 1) (changed_at n f ts)) both.0 (scopes-changed f (m + 1) ts n t at both.1 (ap (in_scope_of (f t)) (sym z) ∙ h))

scopes-taken : (m : ℕ) (ts : List Term) (n : ℕ) → in_scopes_from m ts ≡ true → in_scopes_from m (take n ts) ≡ true
scopes-taken m ts zero e = refl
scopes-taken m [] (suc n) e = refl
scopes-taken m (t ∷ ts) (suc n) e =
    let both = both_true (in_scope_of t m) (in_scopes_from (m + 1) ts) e in
    and_true (in_scope_of t m) (in_scopes_from (m + 1) (take n ts)) both.0 (scopes-taken (m + 1) ts n both.1)

length-before : (ts : List Term) (n : ℕ) (t : Term) → slice_get ts n ≡ Some t → length (take n ts) ≡ n
length-before [] n t at = absurd cc
length-before (u ∷ ts) zero t at = refl
length-before (u ∷ ts) (suc n) t at = let ih = length-before ts n t at in omega (arith, ih)

length-taken : (ts : List Term) (n : ℕ) → length (take n ts) ≤ length ts
length-taken ts zero = omega arith
length-taken [] (suc n) = omega arith
length-taken (t ∷ ts) (suc n) = let ih = length-taken ts n in omega (arith, ih)

sizes-changed : (f : Term → Term) (ts : List Term) (n : ℕ) (t : Term) → slice_get ts n ≡ Some t → sum_by size_of (changed_at n f ts) + size_of t ≡ sum_by size_of ts + size_of (f t)
sizes-changed f [] n t at = absurd cc
sizes-changed f (u ∷ ts) zero t at =
    let k : u ≡ t = ap (value_or u) at in
    let one = sum_by-cons size_of (f u) ts in
    let other = sum_by-cons size_of u ts in
    let same = ap size_of k in
    let same_too = ap (λ x. size_of (f x)) k in
    omega (arith, one, other, same, same_too)
sizes-changed f (u ∷ ts) (suc n) t at =
    let ih = sizes-changed f ts n t at in
    let one = sum_by-cons size_of u (changed_at n f ts) in
    let other = sum_by-cons size_of u ts in
    omega (arith, ih, one, other)

sizes-item : (ts : List Term) (n : ℕ) (t : Term) → slice_get ts n ≡ Some t → size_of t ≤ sum_by size_of ts
sizes-item [] n t at = absurd cc
sizes-item (u ∷ ts) zero t at = let k : u ≡ t = ap (value_or u) at in let one = sum_by-cons size_of u ts in let same = ap size_of k in omega (arith, one, same)
sizes-item (u ∷ ts) (suc n) t at = let ih = sizes-item ts n t at in let one = sum_by-cons size_of u ts in omega (arith, ih, one)

low : (t : Term) → is_shallow t ≡ true → depth_of t ≤ 200
low t e = grind (arith, nat_tests, e)

high : (t : Term) → depth_of t ≤ 200 → is_shallow t ≡ true
high t h = grind (arith, nat_tests, h)

-- ## Good goals

-- a good goal's tests
pub record IsGoodGoal (goal : Sequent) : Type 0 where
  pub scopes : in_scopes_from 0 goal.hyps ≡ true
  pub scope_end : in_scope_of goal.concl (length goal.hyps) ≡ true
  pub few : list_all few_binders_of goal.hyps ≡ true
  pub few_end : few_binders_of goal.concl ≡ true
  pub within : within_limits_of goal ≡ true
  pub many : length goal.hyps ≤ 200
  pub shallow : list_all is_shallow goal.hyps ≡ true
  pub shallow_end : is_shallow goal.concl ≡ true
  pub small : sequent_size_of goal ≤ 20000

-- the limits of a sequent, from its test
pub record IsLimited (s : Sequent) : Type 0 where
  pub many : length s.hyps ≤ 200
  pub shallow : list_all is_shallow s.hyps ≡ true
  pub shallow_end : is_shallow s.concl ≡ true
  pub small : sequent_size_of s ≤ 20000

pub limited : (s : Sequent) → within_limits_of s ≡ true → IsLimited s
limited s e =
    let f = limits_facts s e in
    let a = both_true (nat_le (length s.hyps) 200 && list_all is_shallow s.hyps && is_shallow s.concl) (nat_le (sequent_size_of s) 20000) e in
    let b = both_true (nat_le (length s.hyps) 200 && list_all is_shallow s.hyps) (is_shallow s.concl) a.0 in
    let c = both_true (nat_le (length s.hyps) 200) (list_all is_shallow s.hyps) b.0 in
    record { many = f.few; shallow = c.1; shallow_end = b.1; small = f.small }

pub within : (s : Sequent) → IsLimited s → within_limits_of s ≡ true
within s l =
    let many = l.many in
    let small = l.small in
    let a : nat_le (length s.hyps) 200 ≡ true = grind (arith, nat_tests, many) in
    let b : nat_le (sequent_size_of s) 20000 ≡ true = grind (arith, nat_tests, small) in
    and_true (nat_le (length s.hyps) 200 && list_all is_shallow s.hyps && is_shallow s.concl) (nat_le (sequent_size_of s) 20000)
    (and_true (nat_le (length s.hyps) 200 && list_all is_shallow s.hyps) (is_shallow s.concl) (and_true (nat_le (length s.hyps) 200) (list_all is_shallow s.hyps) a l.shallow) l.shallow_end) b

pub good_goal : (goal : Sequent) → is_good goal ≡ true → IsGoodGoal goal
good_goal goal e =
    let outer = both_true (sequent_in_scope_of goal && sequent_few_binders_of goal) (within_limits_of goal) e in
    let inner = both_true (sequent_in_scope_of goal) (sequent_few_binders_of goal) outer.0 in
    let scopes = both_true (in_scopes_from 0 goal.hyps) (in_scope_of goal.concl (length goal.hyps)) inner.0 in
    let few = both_true (list_all few_binders_of goal.hyps) (few_binders_of goal.concl) inner.1 in
    let l = limited goal outer.1 in
    record {
      scopes = scopes.0;
      scope_end = scopes.1;
      few = few.0;
      few_end = few.1;
      within = outer.1;
      many = l.many;
      shallow = l.shallow;
      shallow_end = l.shallow_end;
      small = l.small;
    }

-- ## The term at a place

-- the term at the place, in which the subterm is
pub record Whole (place : Place) (address : List ℕ) (goal : Sequent) (at : Subterm) : Type 0 where
  pub t : Term
  pub stands : term_at place goal ≡ Some t
  pub below : subterm_at address (length (hyps_before place goal)) t ≡ Some at

pub whole : (place : Place) (address : List ℕ) (goal : Sequent) (at : Subterm) → subterm_of place address goal ≡ Some at → Whole place address goal at
whole place address goal at e = by (term_at place goal) refl e
  where
    by : (o : Option Term) → term_at place goal ≡ o → option_and_then (subterm_at address (length (hyps_before place goal))) o ≡ Some at → Whole place address goal at
    by None k h = absurd cc
    by (Some t) k h = record { t = t; stands = k; below = h }

-- a term of a good goal
pub record IsGoodTerm (t : Term) (scope : ℕ) : Type 0 where
  pub scoped : in_scope_of t scope ≡ true
  pub few : few_binders_of t ≡ true
  pub shallow : depth_of t ≤ 200
  pub low : scope ≤ 200

pub term_good : (place : Place) (goal : Sequent) (t : Term) → IsGoodGoal goal → term_at place goal ≡ Some t → IsGoodTerm t (length (hyps_before place goal))
term_good Concl goal t g e =
    let k : goal.concl ≡ t = ap (value_or t) e in
    subst (λ x. IsGoodTerm x (length goal.hyps)) k (record { scoped = g.scope_end; few = g.few_end; shallow = low goal.concl g.shallow_end; low = g.many })
term_good (Hyp n) goal t g e =
    let k = length-before goal.hyps n t e in
    let z : 0 + n ≡ n = omega arith in
    let lt = slice_get_within goal.hyps n t e in
    let many = g.many in
    rw k (record {
      scoped = rw z at (scopes-item 0 goal.hyps n t e g.scopes);
      few = item-passes few_binders_of goal.hyps n t e g.few;
      shallow = low t (item-passes is_shallow goal.hyps n t e g.shallow);
      low = omega (arith, lt, many);
    })

-- the subterm of a good goal
pub record IsGoodSubterm (place : Place) (goal : Sequent) (at : Subterm) : Type 0 where
  pub outer : length (hyps_before place goal) ≤ at.scope
  pub scoped : in_scope_of at.term at.scope ≡ true
  pub few : few_binders_of at.term ≡ true
  pub shallow : depth_of at.term ≤ 200
  pub narrow : widest_of at.term at.scope ≤ 1800
  pub low : at.scope ≤ 1800

pub subterm_good : (place : Place) (address : List ℕ) (goal : Sequent) (at : Subterm) → IsGoodGoal goal → subterm_of place address goal ≡ Some at → IsGoodSubterm place goal at
subterm_good place address goal at g e =
    let w = whole place address goal at e in
    let t = term_good place goal w.t g w.stands in
    let i = inside address (length (hyps_before place goal)) w.t at w.below in
    let width = width_few w.t (length (hyps_before place goal)) t.few in
    let inner = i.narrow in
    let deep = i.deep in
    let shallow = t.shallow in
    let small = t.low in
    let ge = widest-ge at.term at.scope in
    let narrow : widest_of at.term at.scope ≤ 1800 = omega (arith, width, inner, shallow, small) in
    record {
      outer = i.outer;
      scoped = i.scoped t.scoped;
      few = i.few t.few;
      shallow = omega (arith, deep, shallow);
      narrow = narrow;
      low = omega (arith, narrow, ge);
    }

-- the hypotheses before a place of a goal within the limits
pub before_few : (place : Place) (goal : Sequent) → IsLimited goal → AreFew (hyps_before place goal) × (sum_by size_of (hyps_before place goal) ≤ 20000)
before_few Concl goal g = let s = g.small in (record { few = g.many; shallow = g.shallow }, omega (arith, s))
before_few (Hyp n) goal g =
    let s = g.small in
    let m = g.many in
    let k = sum_by-take-le size_of goal.hyps n in
    let l = length-taken goal.hyps n in
    (record { few = omega (arith, m, l); shallow = taken-pass is_shallow goal.hyps n g.shallow }, omega (arith, s, k))

-- the hypotheses before a place of a good goal
pub record AreGoodBefore (place : Place) (goal : Sequent) : Type 0 where
  pub scopes : in_scopes_from 0 (hyps_before place goal) ≡ true
  pub few_binders : list_all few_binders_of (hyps_before place goal) ≡ true

pub before_good : (place : Place) (goal : Sequent) → IsGoodGoal goal → AreGoodBefore place goal
before_good Concl goal g = record { scopes = g.scopes; few_binders = g.few }
before_good (Hyp n) goal g = record { scopes = scopes-taken 0 goal.hyps n g.scopes; few_binders = taken-pass few_binders_of goal.hyps n g.few }

-- ## Another subterm

module _ (place : Place) (address : List ℕ) (goal : Sequent) (at : Subterm) (there : subterm_of place address goal ≡ Some at) (new : Term) where
  abbrev changed : Sequent
  changed = put_in place address new goal

  -- the size of what changes, and the depth of what is put
  pub record IsSmallChange : Type 0 where
    pub deep : length address + depth_of new ≤ 200
    pub small : sequent_size_of goal + size_of new ≤ 20000 + size_of at.term

  pub record IsChanged : Type 0 where
    pub size : sequent_size_of changed + size_of at.term ≡ sequent_size_of goal + size_of new
    pub part : size_of at.term ≤ sequent_size_of goal
    pub many : length changed.hyps ≡ length goal.hyps
    pub limited_from : IsLimited goal → length address + depth_of new ≤ 200 → (list_all is_shallow changed.hyps ≡ true) × (is_shallow changed.concl ≡ true)
    pub deep : IsLimited changed → length address + depth_of new ≤ 200
    pub scoped : sequent_in_scope_of goal ≡ true → in_scope_of new at.scope ≡ true → sequent_in_scope_of changed ≡ true
    pub few : sequent_few_binders_of goal ≡ true → few_binders_of new ≡ true → sequent_few_binders_of changed ≡ true

pub changed_is : (place : Place) (address : List ℕ) (goal : Sequent) (at : Subterm) (there : subterm_of place address goal ≡ Some at) (new : Term) → IsChanged place address goal at there new
changed_is Concl address goal at there new =
    let i = inside address (length goal.hyps) goal.concl at there in
    let p = put address (length goal.hyps) goal.concl at new there in
    record {
      size = let k = p.size in omega (arith, k);
      part = let k = i.part in omega (arith, k);
      many = refl;
      limited_from = λ l h.
          let k = p.shallow in
          let d = low goal.concl l.shallow_end in (l.shallow, high (put_at address new goal.concl) (omega (arith, k, d, h)));
      deep = λ l. let k = p.deep in let d = low (put_at address new goal.concl) l.shallow_end in omega (arith, k, d);
      scoped = λ h g.
          let both = both_true (in_scopes_from 0 goal.hyps) (in_scope_of goal.concl (length goal.hyps)) h in
          and_true (in_scopes_from 0 goal.hyps) (in_scope_of (put_at address new goal.concl) (length goal.hyps)) both.0 (p.scoped both.1 g);
      few = λ h g.
          let both = both_true (list_all few_binders_of goal.hyps) (few_binders_of goal.concl) h in
          and_true (list_all few_binders_of goal.hyps) (few_binders_of (put_at address new goal.concl)) both.0 (p.few both.1 g);
    }
changed_is (Hyp n) address goal at there new =
    let w = whole (Hyp n) address goal at there in
    let t = w.t in
    let f = put_at address new in
    let i = inside address (length (take n goal.hyps)) t at w.below in
    let p = put address (length (take n goal.hyps)) t at new w.below in
    let n_is = length-before goal.hyps n t w.stands in
    let zero_n : 0 + n ≡ n = omega arith in
    let many = length-changed f goal.hyps n in
    record {
      size = let k = p.size in let s = sizes-changed f goal.hyps n t w.stands in omega (arith, k, s);
      part = let k = i.part in let s = sizes-item goal.hyps n t w.stands in omega (arith, k, s);
      many = many;
      limited_from = λ l h.
          let k = p.shallow in
          let d = low t (item-passes is_shallow goal.hyps n t w.stands l.shallow) in
          (changed-passes is_shallow f goal.hyps n t w.stands l.shallow (high (f t) (omega (arith, k, d, h))), l.shallow_end);
      deep = λ l. let k = p.deep in let d = low (f t) (item-of-changed is_shallow f goal.hyps n t w.stands l.shallow) in omega (arith, k, d);
      scoped = λ h g.
          let both = both_true (in_scopes_from 0 goal.hyps) (in_scope_of goal.concl (length goal.hyps)) h in
          let old : in_scope_of t (length (take n goal.hyps)) ≡ true = ap (in_scope_of t) (n_is ∙ sym zero_n) ∙ scopes-item 0 goal.hyps n t w.stands both.0 in
          let made : in_scope_of (f t) (0 + n) ≡ true = ap (in_scope_of (f t)) (zero_n ∙ sym n_is) ∙ p.scoped old g in
          and_true (in_scopes_from 0 (changed_at n f goal.hyps)) (in_scope_of goal.concl (length (changed_at n f goal.hyps))) (scopes-changed f 0 goal.hyps n t w.stands both.0 made)
          (ap (in_scope_of goal.concl) many ∙ both.1);
      few = λ h g.
          let both = both_true (list_all few_binders_of goal.hyps) (few_binders_of goal.concl) h in
          let old = item-passes few_binders_of goal.hyps n t w.stands both.0 in
          and_true (list_all few_binders_of (changed_at n f goal.hyps)) (few_binders_of goal.concl) (changed-passes few_binders_of f goal.hyps n t w.stands both.0 (p.few old g)) both.1;
    }

module _ (place : Place) (address : List ℕ) (goal : Sequent) (at : Subterm) (there : subterm_of place address goal ≡ Some at) (new : Term) (old : IsLimited goal) where
  abbrev made : Sequent
  made = put_in place address new goal

  facts : IsChanged place address goal at there new
  facts = changed_is place address goal at there new

  -- what is put is small enough, if the whole is within the limits
  pub change_small : within_limits_of made ≡ true → IsSmallChange place address goal at there new
  change_small e =
      let l = limited made e in
      let s = facts.size in
      let small = l.small in
      record { deep = facts.deep l; small = omega (arith, s, small) }

  -- and then the whole is within the limits
  pub change_within : IsSmallChange place address goal at there new → within_limits_of made ≡ true
  change_within c =
      let shallow = facts.limited_from old c.deep in
      let s = facts.size in
      let small = c.small in
      let many = facts.many in
      let few = old.many in
      within made (record { many = omega (arith, many, few); shallow = shallow.0; shallow_end = shallow.1; small = omega (arith, s, small) })

  -- and it is small itself
  pub change_term_small : IsSmallChange place address goal at there new → is_small_term new ≡ true
  change_term_small c =
      let part = facts.part in
      let small = c.small in
      let deep = c.deep in
      let a : nat_le (size_of new) 20000 ≡ true = let k : size_of new ≤ 20000 = omega (arith, part, small) in grind (arith, nat_tests, k) in
      and_true (is_shallow new) (nat_le (size_of new) 20000) (high new (omega (arith, deep))) a

  pub change_large : is_small_term new ≡ false → within_limits_of made ≡ false
  change_large e = elim (decided (within_limits_of made)) [
    | inl k ↦ let h = change_term_small (change_small k) in absurd cc
    | inr k ↦ k
  ]

-- ## A condition

module _ (hyps : List Term) (concl : Term) (few : AreFew hyps) where
  abbrev left : Sequent
  left = record { hyps = hyps; concl = concl }

  pub condition_within : is_small_term concl ≡ true → sum_by size_of hyps + size_of concl ≤ 20000 → within_limits_of left ≡ true
  condition_within e small =
      let both = both_true (is_shallow concl) (nat_le (size_of concl) 20000) e in
      within left (record { many = few.few; shallow = few.shallow; shallow_end = both.0; small = small })

  pub condition_small : within_limits_of left ≡ true → (is_small_term concl ≡ true) × (sum_by size_of hyps + size_of concl ≤ 20000)
  condition_small e =
      let l = limited left e in
      let small = l.small in
      let k : size_of concl ≤ 20000 = omega (arith, small) in
      let a : nat_le (size_of concl) 20000 ≡ true = grind (arith, nat_tests, k) in
      (and_true (is_shallow concl) (nat_le (size_of concl) 20000) l.shallow_end a, small)

  pub condition_large : is_small_term concl ≡ false → within_limits_of left ≡ false
  condition_large e = elim (decided (within_limits_of left)) [
    | inl k ↦ let h = (condition_small k).0 in absurd cc
    | inr k ↦ k
  ]
