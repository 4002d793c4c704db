-- Names that are given twice are told exactly where some names aren't apart.
use Rattle.std.proofs.Common.{true≢false, ◌≡◌, ℕ, ◌++◌, List, [], ◌∷◌, map, Bool, true, false, ◌&&◌, ◌||◌, not, nat_eq, refl, ap, sym, ◌∙◌, arith}
use Rattle.std.specs.List.{list_all}
use Rattle.std.proofs.lemmas.Bool.{and_parts, and_from}
use Rattle.std.proofs.lemmas.Bool.Decides.{nat_tests}
use Rattle.mp_logic.specs.declared.sym.Sym.{Sym}
use Rattle.mp_schema.specs.Conditions.{has, has_all, is_apart}
use Rattle.mp_schema.proofs.Names.{has-append}
use Rattle.mp_words.specs.declared.fail.TextWhy.{TextWhy}
use Rattle.mp_words.specs.declared.raw.RawName.{RawName}
use Rattle.mp_words.specs.Faults.{fault_if}
use Rattle.mp_names.specs.Sets.{is_among}
use Rattle.mp_words.specs.Seconds.{second_after, second_faults}
use Rattle.mp_patterntext.specs.Scopes.{syms_of, unknown_faults}
use Rattle.mp_patterntext.specs.Nodes.{dangling_faults, list_faults}
use Rattle.mp_patterntext.proofs.Telling.{Tells, tells_both, tells_by, tells_each, tells_if, tells_unless}
use Rattle.mp_words.specs.declared.fail.TextWhy.TheVariants as why

pub same_name : (a b : Sym) → nat_eq a.0 b.0 ≡ true → a ≡ b
same_name a b e = let k : a.0 ≡ b.0 = grind (arith, nat_tests, e) in ap (λ (n : ℕ). let s : Sym = record { 0 = n } in s) k

pub eq_itself : (n : ℕ) → nat_eq n n ≡ true
eq_itself n = grind (arith, nat_tests)

pub or_parts : (a b : Bool) → (a || b) ≡ false → (a ≡ false) × (b ≡ false)
or_parts true b e = absurd (true≢false e)
or_parts false b e = (refl, e)

pub or_no : (a b : Bool) → a ≡ false → b ≡ false → (a || b) ≡ false
or_no true b e f = absurd (true≢false e)
or_no false b e f = f

pub among_has : (names : List Sym) (name : Sym) → is_among names name ≡ has names name
among_has [] name = refl
among_has (x ∷ xs) name = ap (λ b. nat_eq x.0 name.0 || b) (among_has xs name)

-- no name is twice in the second list, and none of the first is in it
record Fresh (met ns : List Sym) : Type 0 where
  apart : is_apart ns ≡ true
  new : (x : Sym) → has ns x ≡ true → has met x ≡ false

module _ (met : List Sym) (n : Sym) (ns : List Sym) where
  -- what holds of the name here and of the names behind it
  fresh_from : has met n ≡ false → Fresh (met ++ n ∷ []) ns → Fresh met (n ∷ ns)
  fresh_from e h = record { apart = and_from _ _ (ap not (alone (has ns n) refl)) h.apart; new = λ x f. by x (nat_eq n.0 x.0) refl f }
    where
      past : (x : Sym) → has ns x ≡ true → (has met x ≡ false) × (nat_eq n.0 x.0 ≡ false)
      past x f =
          let both = or_parts (has met x) (has (n ∷ []) x) (sym (has-append met (n ∷ []) x) ∙ h.new x f) in
          (both.0, (or_parts (nat_eq n.0 x.0) false both.1).0)

      alone : (b : Bool) → has ns n ≡ b → has ns n ≡ false
      alone false f = f
      alone true f = absurd (true≢false (sym (eq_itself n.0) ∙ (past n f).1))

      by : (x : Sym) (b : Bool) → nat_eq n.0 x.0 ≡ b → (nat_eq n.0 x.0 || has ns x) ≡ true → has met x ≡ false
      by x true same f = ap (has met) (sym (same_name n x same)) ∙ e
      by x false same f = (past x (ap (λ b. b || has ns x) (sym same) ∙ f)).0

  fresh_parts : Fresh met (n ∷ ns) → (has met n ≡ false) × Fresh (met ++ n ∷ []) ns
  fresh_parts h =
      let parts = and_parts (not (has ns n)) (is_apart ns) h.apart in (
        h.new n (ap (λ b. b || has ns n) (eq_itself n.0)),
        record {
          apart = parts.1;
          new = λ x f. has-append met (n ∷ []) x ∙ or_no (has met x) (has (n ∷ []) x) (h.new x (either (nat_eq n.0 x.0) (has ns x) f)) (or_no (nat_eq n.0 x.0) false (other x parts.0 f (nat_eq n.0 x.0) refl) refl);
        },
      )
    where
      either : (a b : Bool) → b ≡ true → (a || b) ≡ true
      either true b e = refl
      either false b e = e

      other : (x : Sym) → not (has ns n) ≡ true → has ns x ≡ true → (b : Bool) → nat_eq n.0 x.0 ≡ b → nat_eq n.0 x.0 ≡ false
      other x a f false same = same
      other x a f true same = absurd (true≢false (sym a ∙ ap not (ap (has ns) (same_name n x same) ∙ f)))

module _ {X : Type 0} (name : X → RawName) (w : TextWhy) where
  abbrev names : List X → List Sym
  names xs = map (λ x. (name x).name) xs

  tells_fresh : (met : List Sym) (xs : List X) → Tells (second_after name w met xs) (Fresh met (names xs))
  tells_fresh met [] = record { kept = λ e. record { apart = refl; new = λ x f. absurd (true≢false (sym f)) }; told = λ h. tt }
  tells_fresh met (x ∷ xs) =
      let n = (name x).name in
      let here = fault_if (is_among met n) (name x).at w in
      let rest = second_after name w (met ++ n ∷ []) xs in
      let same = among_has met n in
      tells_by (here ++ rest) (tells_both here rest (tells_if (is_among met n) (name x).at w) (tells_fresh (met ++ n ∷ []) xs)) (λ q. fresh_from met n (names xs) (sym same ∙ q.0) q.1)
      (λ h. let parts = fresh_parts met n (names xs) h in (same ∙ parts.0, parts.1))

  -- a second one of its name is told exactly where the names aren't apart
  pub tells_second : (xs : List X) → Tells (second_faults name w xs) (is_apart (names xs) ≡ true)
  tells_second xs = tells_by (second_faults name w xs) (tells_fresh [] xs) (λ h. h.apart) (λ e. record { apart = e; new = λ x f. refl })

all_known : (known : List Sym) (cs : List RawName) → list_all (λ (c : RawName). has known c.name) cs ≡ has_all known (syms_of cs)
all_known known [] = refl
all_known known (c ∷ cs) = ap (λ b. has known c.name && b) (all_known known cs)

-- names that aren't known are told exactly where some aren't
pub tells_unknown : (w : TextWhy) (known : List Sym) (ns : List RawName) → Tells (unknown_faults w known ns) (has_all known (syms_of ns) ≡ true)
tells_unknown w known ns =
    tells_by (unknown_faults w known ns) (tells_each (λ (n : RawName). fault_if (not (has known n.name)) n.at w) (λ n. has known n.name) (λ n. tells_unless (has known n.name) n.at w) ns) (λ e. sym (all_known known ns) ∙ e)
    (λ e. all_known known ns ∙ e)

pub tells_list : (known : List Sym) (cs : List RawName) → Tells (list_faults known cs) ((has_all known (syms_of cs) ≡ true) × (is_apart (syms_of cs) ≡ true))
tells_list known cs = tells_both (dangling_faults known cs) (second_faults (λ c. c) why.TwiceContext cs) (tells_unknown why.DanglingContext known cs) (tells_second (λ c. c) why.TwiceContext cs)
