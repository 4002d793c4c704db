-- What is looked up in a list of laws.
use Rattle.std.proofs.Common.{◌≡◌, ℕ, ◌+◌, ◌≤◌, ◌<◌, List, [], ◌∷◌, ◌++◌, map, length, get_or, drop, zero, suc, nat_eq, nat_lt, max, position, Option, Some, None, Bool, true, false, cond, refl, sym, ap, ◌∙◌, subst, arith}
use Rattle.std.specs.Prelude.{slice_get, is_none, is_some, option_and_then, IsTrue, IfSome, ◌&&◌}
use Rattle.std.specs.Borrow.{Bor}
use Rattle.std.specs.Option.{option_copied}
use Rattle.std.specs.Cmp.{nat_eq_equiv}
use Rattle.std.specs.List.{position_or_len, list_any, AllByRecursion, IsDistinct}
use Rattle.std.proofs.lemmas.Bool.Decides.{nat_tests}
use Rattle.std.proofs.lemmas.Grind.{common_steps}
use Rattle.std.proofs.lemmas.List.{length-map}
use Rattle.std.proofs.lemmas.List.Quantifiers.{position-Some}
use Rattle.std.proofs.lemmas.Map.Keys.{IsDistinct-push}
use Rattle.std.proofs.lemmas.Option.{slice_get_within, slice_get-get_or}
use Rattle.mp_logic.specs.declared.sym.Sym.{Sym}
use Rattle.mp_logic.specs.Lists.{greatest}
use Rattle.mp_schema.specs.declared.fault.SchemaFault.{SchemaFault}
use Rattle.mp_schema.specs.Faults.{rule_fault_of}
use Rattle.mp_schema.proofs.Agreeing.{and_both}
use Rattle.mp_names.proofs.Meeting.{eq_comm}
use Rattle.mp_theory.specs.declared.rewrite.Rewrite.{Rewrite}
use Rattle.mp_theory.specs.declared.rule.Rule.{Rule}
use Rattle.mp_theory.specs.declared.law.Law.{Law}
use Rattle.mp_theory.specs.declared.law.Law.TheVariants as law
use Rattle.mp_theory.specs.Tables.{Laws, is_named, name_in, width_in, IsLaw, AreLaws, IsRule, IsRewrite, IsTheory, rule_in, rewrite_in}
use Rattle.mp_schema.proofs.Laws.{rules_are_faultless, rewrites_are_faultless}

pub map_push : {X Y : Type 0} (f : X → Y) (xs : List X) (x : X) → map f (xs ++ x ∷ []) ≡ map f xs ++ f x ∷ []
map_push f [] x = refl
map_push f (y ∷ ys) x = ap (λ zs. f y ∷ zs) (map_push f ys x)

pub get_last : {X : Type 0} (xs : List X) (x : X) → slice_get (xs ++ x ∷ []) (length xs) ≡ Some x
get_last [] x = refl
get_last (y ∷ xs) x = get_last xs x

pub get_before : {X : Type 0} (xs ys : List X) (i : ℕ) → i < length xs → slice_get (xs ++ ys) i ≡ slice_get xs i
get_before [] ys i lt = absurd (omega arith)
get_before (x ∷ xs) ys zero lt = refl
get_before (x ∷ xs) ys (suc i) lt = get_before xs ys i (omega arith)

-- ## Places by name

position-map : {X Y : Type 0} (p : Y → Bool) (f : X → Y) (xs : List X) → position p (map f xs) ≡ position (λ x. p (f x)) xs
position-map {X = X} p f xs = let e = at xs in let l = length-map xs f in rw (e, l) refl
  where
    at : (xs : List X) → position_or_len p (map f xs) ≡ position_or_len (λ x. p (f x)) xs
    at [] = refl
    at (x ∷ xs) = let ih = at xs in grind (ih, arith, common_steps)

-- at the place of a name stands a law with this name
pub named_law : (ls : List Law) (n place : ℕ) → position (nat_eq n) (map name_in ls) ≡ Some place → (l : Law) × (slice_get ls place ≡ Some l) × (nat_eq n (name_in l) ≡ true)
named_law [] n place e = absurd cc
named_law (l ∷ ls) n place e =
    let found = position-Some (λ (x : Law). nat_eq n (name_in x)) (l ∷ ls) place l (sym (position-map (nat_eq n) name_in (l ∷ ls)) ∙ e) in
    (get_or (l ∷ ls) place l, slice_get-get_or (l ∷ ls) place l found.0, found.1)

-- a test that each of the names passes, passes at each place
each_name : (P : ℕ → Type 0) (ls : List Law) (place : ℕ) (l : Law) → AllByRecursion P (map name_in ls) → slice_get ls place ≡ Some l → P (name_in l)
each_name P [] place l all e = absurd cc
each_name P (x ∷ ls) zero l all e = let same : x ≡ l = cc in subst (λ (y : Law). P (name_in y)) same all.0
each_name P (x ∷ ls) (suc place) l all e = each_name P ls place l all.1 e

first_named : (ls : List Law) (place : ℕ) (l : Law) → IsDistinct nat_eq (map name_in ls) → slice_get ls place ≡ Some l → position_or_len (nat_eq (name_in l)) (map name_in ls) ≡ place
unfolding IsDistinct
first_named [] place l apart e = absurd cc
first_named (x ∷ ls) zero l apart e =
    let same : x ≡ l = cc in
    let here : nat_eq (name_in l) (name_in x) ≡ true = rw same (grind (arith, nat_tests)) in
    grind (arith, common_steps, here)
first_named (x ∷ ls) (suc place) l apart e =
    let ih = first_named ls place l apart.1 e in
    let other : nat_eq (name_in l) (name_in x) ≡ false = eq_comm (name_in l) (name_in x) ∙ each_name (λ y. nat_eq (name_in x) y ≡ false) ls place l apart.0 e in
    grind (arith, common_steps, other, ih)

-- a law's name is found at its place
pub name_found : (ls : List Law) (place : ℕ) (l : Law) → IsDistinct nat_eq (map name_in ls) → slice_get ls place ≡ Some l → position (nat_eq (name_in l)) (map name_in ls) ≡ Some place
name_found ls place l apart e =
    let first = first_named ls place l apart e in
    let within = slice_get_within ls place l e in
    let many = length-map ls name_in in
    let test : nat_lt place (length (map name_in ls)) ≡ true = grind (arith, nat_tests, within, many) in
    ap (λ i. cond (nat_lt i (length (map name_in ls))) (Some i) None) first ∙ ap (λ b. cond b (Some place) None) test

and_false : (b : Bool) → (b && false) ≡ false
and_false true = refl
and_false false = refl

pub no_place : (o : Option ℕ) (i : ℕ) → None ≡ o → o ≡ Some i → ⊥
no_place o i e f = absurd cc

pub one_place : (o : Option ℕ) (i j : ℕ) → Some i ≡ o → o ≡ Some j → i ≡ j
one_place o i j e f = cc

same_number : (m n : ℕ) → nat_eq m n ≡ true → m ≡ n
same_number m n e = grind (arith, nat_tests, e)

is_there : {X : Type 0} (o : Option X) (x : X) → o ≡ Some x → is_some o ≡ true
is_there o x e = ap is_some e

module _ {X : Type 0} (kind : Law → Option X) where
  -- at the place of a name stands a law of the kind with this name
  pub placed : (ls : List Law) (name : Sym) (place : ℕ) → position (is_named kind name) ls ≡ Some place →
      (l : Law) × (slice_get ls place ≡ Some l) × (is_some (kind l) ≡ true) × (nat_eq name.0 (name_in l) ≡ true)
  placed [] name place e = absurd cc
  placed (l ∷ ls) name place e =
      let found = position-Some (is_named kind name) (l ∷ ls) place l e in
      let both = and_both (is_some (kind (get_or (l ∷ ls) place l))) (nat_eq name.0 (name_in (get_or (l ∷ ls) place l))) found.1 in
      (get_or (l ∷ ls) place l, slice_get-get_or (l ∷ ls) place l found.0, both.0, both.1)

  first_of_kind : (ls : List Law) (place : ℕ) (l : Law) (name : Sym) → IsDistinct nat_eq (map name_in ls) → slice_get ls place ≡ Some l → name.0 ≡ name_in l → is_some (kind l) ≡ true →
      position_or_len (is_named kind name) ls ≡ place
  unfolding IsDistinct
  first_of_kind [] place l name apart e named here = absurd cc
  first_of_kind (x ∷ ls) zero l name apart e named here =
      let same : x ≡ l = cc in
      let test : nat_eq name.0 (name_in l) ≡ true = rw named (grind (arith, nat_tests)) in
      let both : is_named kind name x ≡ true = rw same (rw (here, test) refl) in
      grind (arith, common_steps, both)
  first_of_kind (x ∷ ls) (suc place) l name apart e named here =
      let ih = first_of_kind ls place l name apart.1 e named here in
      let other : nat_eq name.0 (name_in x) ≡ false =
      ap (λ n. nat_eq n (name_in x)) named ∙ eq_comm (name_in l) (name_in x) ∙ each_name (λ y. nat_eq (name_in x) y ≡ false) ls place l apart.0 e in
      let test : is_named kind name x ≡ false = ap (λ b. is_some (kind x) && b) other ∙ and_false (is_some (kind x)) in
      grind (arith, common_steps, test, ih)

  -- the name of a law of the kind is found at its place
  pub kind_placed : (ls : List Law) (place : ℕ) (l : Law) (name : Sym) → IsDistinct nat_eq (map name_in ls) → slice_get ls place ≡ Some l → name.0 ≡ name_in l → is_some (kind l) ≡ true →
      position (is_named kind name) ls ≡ Some place
  kind_placed ls place l name apart e named here =
      let first = first_of_kind ls place l name apart e named here in
      let within = slice_get_within ls place l e in
      let test : nat_lt place (length ls) ≡ true = grind (arith, nat_tests, within) in
      ap (λ i. cond (nat_lt i (length ls)) (Some i) None) first ∙ ap (λ b. cond b (Some place) None) test

  -- a place of a name, as one of the kind, is the place of the name
  pub kind_found : (ls : List Law) (name : Sym) (place : ℕ) → IsDistinct nat_eq (map name_in ls) → position (is_named kind name) ls ≡ Some place →
      position (nat_eq name.0) (map name_in ls) ≡ Some place
  kind_found ls name place apart e =
      let p = placed ls name place e in
      ap (λ n. position (nat_eq n) (map name_in ls)) (same_number name.0 (name_in p.0) p.3) ∙ name_found ls place p.0 apart p.1

  -- where a name stands with a law of the kind, it stands as one of the kind
  pub kind_there : (ls : List Law) (name : Sym) (place : ℕ) (x : X) → IsDistinct nat_eq (map name_in ls) → position (nat_eq name.0) (map name_in ls) ≡ Some place →
      option_and_then kind (slice_get ls place) ≡ Some x → position (is_named kind name) ls ≡ Some place
  kind_there ls name place x apart e at =
      let l = named_law ls name.0 place e in
      kind_placed ls place l.0 name apart l.1 (same_number name.0 (name_in l.0) l.2) (is_there (kind l.0) x (sym (ap (option_and_then kind) l.1) ∙ at))

  -- where a name stands with no law of the kind, or nowhere, it doesn't stand as one of the kind
  pub kind_absent : (ls : List Law) (name : Sym) → IsDistinct nat_eq (map name_in ls) → ((place : ℕ) → position (nat_eq name.0) (map name_in ls) ≡ Some place → option_and_then kind (slice_get ls place) ≡ None) →
      position (is_named kind name) ls ≡ None
  kind_absent ls name apart none = by (position (is_named kind name) ls) refl
    where
      by : (o : Option ℕ) → position (is_named kind name) ls ≡ o → position (is_named kind name) ls ≡ None
      by None e = e
      by (Some place) e =
          let p = placed ls name place e in
          let gone : is_some (kind p.0) ≡ false = ap is_some (sym (ap (option_and_then kind) p.1) ∙ none place (kind_found ls name place apart e)) in
          let there = p.2 in
          absurd (cc (sym there ∙ gone))

-- ## Laws that a theory may have

pub law_at : (ls : List Law) (place : ℕ) (l : Law) → AreLaws ls → slice_get ls place ≡ Some l → IsLaw l
law_at [] place l all e = absurd cc
law_at (x ∷ ls) zero l all e = let same : x ≡ l = cc in subst IsLaw same all.0
law_at (x ∷ ls) (suc place) l all e = law_at ls place l all.1 e

laws_push : (ls : List Law) (l : Law) → AreLaws ls → IsLaw l → AreLaws (ls ++ l ∷ [])
laws_push [] l all one = (one, tt)
laws_push (x ∷ ls) l all one = (all.0, laws_push ls l all.1 one)

-- one law more, with a name of its own
pub theory_push : (ls : List Law) (l : Law) → IsTheory (record { laws = ls }) → IsLaw l → list_any (nat_eq (name_in l)) (map name_in ls) ≡ false →
    IsTheory (record { laws = ls ++ l ∷ [] })
theory_push ls l is one new = record {
  laws = laws_push ls l is.laws one;
  apart = subst (IsDistinct nat_eq) (sym (map_push name_in ls l)) (IsDistinct-push nat_eq_equiv (map name_in ls) (name_in l) is.apart new);
}

no_fault : (o : Option SchemaFault) → IsTrue (is_none o) → o ≡ None
no_fault None e = refl
no_fault (Some f) e = absurd cc

-- a law's rule is a rule
pub rule_whole : (l : Law) (o : Option (Bor Rule)) → IsLaw l → option_copied o ≡ rule_in l → IfSome o (λ rule. IsRule rule.now)
rule_whole l None is e = tt
rule_whole (law.Rule x) (Some r) is e = let same : x ≡ r.now = cc in subst IsRule same is
rule_whole (law.Rewrite x) (Some r) is e = absurd cc

-- a law's rewrite is a rewrite
pub rewrite_whole : (l : Law) (o : Option (Bor Rewrite)) → IsLaw l → option_copied o ≡ rewrite_in l → IfSome o (λ rewrite. IsRewrite rewrite.now)
rewrite_whole l None is e = tt
rewrite_whole (law.Rule x) (Some r) is e = absurd cc
rewrite_whole (law.Rewrite x) (Some r) is e = let same : x ≡ r.now = cc in subst IsRewrite same is

-- a law that a theory may have gives at most 16 subgoals
law_narrow : (l : Law) → IsLaw l → width_in l ≤ 16
law_narrow (law.Rule r) is = (rules_are_faultless r.premises r.concl (no_fault (rule_fault_of r.premises r.concl) is.faultless)).few_premises
law_narrow (law.Rewrite r) is = let few = (rewrites_are_faultless r.conds r.redex r.contractum is).few_conds in omega (arith, few)

pub rule_narrow : (l : Law) (r : Rule) → IsLaw l → l ≡ law.Rule r → length r.premises ≤ 16
rule_narrow l r is e = subst (λ (x : Law). width_in x ≤ 16) e (law_narrow l is)

pub rewrite_narrow : (l : Law) (r : Rewrite) → IsLaw l → l ≡ law.Rewrite r → length r.conds + 1 ≤ 16
rewrite_narrow l r is e = subst (λ (x : Law). width_in x ≤ 16) e (law_narrow l is)

-- ## The width

drop_here : (ls : List Law) (place : ℕ) (l : Law) → slice_get ls place ≡ Some l → drop place ls ≡ l ∷ drop (place + 1) ls
drop_here [] place l e = absurd cc
drop_here (x ∷ ls) zero l e = let same : x ≡ l = cc in rw same refl
drop_here (x ∷ ls) (suc place) l e = let h = drop_here ls place l e in let k : suc place + 1 ≡ suc (place + 1) = omega arith in rw k h

drop_past : (ls : List Law) (place : ℕ) → slice_get ls place ≡ None → (drop place ls ≡ []) × (drop (place + 1) ls ≡ [])
drop_past [] place e = (grind (arith, common_steps), grind (arith, common_steps))
drop_past (x ∷ ls) zero e = absurd cc
drop_past (x ∷ ls) (suc place) e = let h = drop_past ls place e in let k : suc place + 1 ≡ suc (place + 1) = omega arith in (h.0, rw k h.1)

abbrev pub width_from : ℕ → List Law → ℕ
width_from place ls = greatest (map width_in (drop place ls))

pub width_next : (ls : List Law) (place width : ℕ) (l : Law) → Some l ≡ slice_get ls place → max width (width_from place ls) ≡ greatest (map width_in ls) →
    max (max width (width_in l)) (width_from (place + 1) ls) ≡ greatest (map width_in ls)
width_next ls place width l e inv =
    let parts = drop_here ls place l (sym e) in
    let inv' : max width (max (width_in l) (width_from (place + 1) ls)) ≡ greatest (map width_in ls) = rw parts at inv in
    omega arith

pub width_past : (ls : List Law) (place width : ℕ) → None ≡ slice_get ls place → max width (width_from place ls) ≡ greatest (map width_in ls) →
    max width (width_from (place + 1) ls) ≡ greatest (map width_in ls)
width_past ls place width e inv = let h = drop_past ls place (sym e) in rw h.1 (rw h.0 at inv)

pub width_at : (ls : List Law) (place : ℕ) (l : Law) → slice_get ls place ≡ Some l → width_in l ≤ greatest (map width_in ls)
width_at [] place l e = absurd cc
width_at (x ∷ ls) zero l e = let same : x ≡ l = cc in subst (λ (y : Law). width_in y ≤ max (width_in x) (greatest (map width_in ls))) same (omega arith)
width_at (x ∷ ls) (suc place) l e = let h = width_at ls place l e in omega (arith, h)
