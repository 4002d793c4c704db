-- Matching the bodies of an operator, one after the other.
use Rattle.std.proofs.Common.{◌≡◌, ◌≢◌, ℕ, ◌+◌, ◌-◌, ◌<◌, ◌≤◌, ◌^◌, List, ◌∷◌, ◌++◌, length, map, get_or, drop, true, false, IsTrue, Some, None, nat_eq, if◌then◌else◌, option_and_then, refl, sym, ap, ◌∙◌, append_assoc, rules, arith}
use Rattle.std.proofs.Math.ListN.{drop_of_length-le}
use Rattle.std.proofs.lemmas.Bool.Decides.{nat_tests}
use Rattle.mp_term.specs.declared.term.Bound.{Bound}
use Rattle.mp_term.specs.Terms.{in_scope_of, all_at_scope}
use Rattle.mp_term.proofs.Layers.{scoped_bound, scoped_bound-is, width_bound-is}
use Rattle.mp_term.specs.Subst.{widest_of, widest_at, width_bound, upto}
use Rattle.mp_term.proofs.SubLaws.{drop-at}
use Rattle.mp_schema.specs.declared.pattern.PBound.{PBound}
use Rattle.mp_schema.specs.declared.pattern.Pattern as pat
use Rattle.mp_schema.proofs.pattern.PBound.TheLaws as bound_size
use Rattle.mp_schema.proofs.pattern.Pattern.TheLaws as pattern_size
use Rattle.mp_schema.specs.Instances.{all_pass}
use Rattle.mp_schema.specs.Conditions.{seen, seen_bound, all_fine, lists_known, lists_known_bound}
use Rattle.mp_schema.proofs.Layers.{fine_bound-is, lists_known_bound-is}
use Rattle.mp_match.specs.declared.place.Found.{Found}
use Rattle.mp_match.specs.declared.place.Position.{Position}
use Rattle.mp_match.specs.Matching.{found_in, all_found, matcher_bound}
use Rattle.mp_match.specs.Places.{ground_of, levels_at, names_of}
use Rattle.mp_match.proofs.Layers.{finds_bound-is}
use Rattle.mp_term.proofs.Ranges.{upto-append}
use Rattle.mp_term.proofs.EqualTerms.{both_true}

-- binders come last
pub levels-under : (place : Position) (scope k : ℕ) → place.next ≤ scope → levels_at place scope ++ upto scope k ≡ levels_at place (scope + k)
levels-under place scope k h =
    let e : place.next + (scope - place.next) ≡ scope = omega arith in
    let e' : (scope - place.next) + k ≡ scope + k - place.next = omega arith in
    let joined = rw (e, e') at (upto-append place.next (scope - place.next) k) in
    append_assoc place.named (upto place.next (scope - place.next)) (upto scope k) ∙ ap (λ xs. place.named ++ xs) joined

-- what the loop over the bodies keeps
pub record Walked (place : Position) (scope : ℕ) (subs : List PBound) (bodies : List Bound) (start now : Found) (i : ℕ) : Type 0 where
  pub fine : IsTrue (all_fine (length place.named + (scope - place.next)) (map seen_bound (drop i subs)))
  pub known : IsTrue (all_pass (map (lists_known_bound (names_of place.ctxs)) (drop i subs)))
  pub scoped : IsTrue (all_at_scope scope (map scoped_bound (drop i bodies)))
  pub narrow : widest_at scope (map width_bound (drop i bodies)) < 2 ^ 31
  pub same : all_found (map (matcher_bound (ground_of place)) (drop i subs)) (levels_at place scope) scope (drop i bodies) now
      ≡ all_found (map (matcher_bound (ground_of place)) subs) (levels_at place scope) scope bodies start

module _ (place : Position) (scope : ℕ) (subs : List PBound) (bodies : List Bound) (start now : Found) (i : ℕ) where
  pub Walked-end : length subs ≡ length bodies → length subs ≤ i → Walked place scope subs bodies start now i →
      Some now ≡ all_found (map (matcher_bound (ground_of place)) subs) (levels_at place scope) scope bodies start
  Walked-end same h w =
      let none = drop_of_length-le subs h in
      let h' : length bodies ≤ i = omega arith in
      let none' = drop_of_length-le bodies h' in
      rw (none, none') at w.same

  module _ (b : PBound) (x : Bound) (lt : i < length subs) (lt' : i < length bodies) (isb : b ≡ get_or subs i b) (isx : x ≡ get_or bodies i x)
      (w : Walked place scope subs bodies start now i) where
    next_sub : drop i subs ≡ b ∷ drop (i + 1) subs
    next_sub = drop-at subs i b lt isb

    next_body : drop i bodies ≡ x ∷ drop (i + 1) bodies
    next_body = drop-at bodies i x lt' isx

    fine_both : IsTrue ((seen_bound b).fine (length place.named + (scope - place.next))) × IsTrue (all_fine (length place.named + (scope - place.next)) (map seen_bound (drop (i + 1) subs)))
    fine_both = both_true ((seen_bound b).fine (length place.named + (scope - place.next))) (all_fine (length place.named + (scope - place.next)) (map seen_bound (drop (i + 1) subs))) (rw next_sub at w.fine)

    known_both : IsTrue (lists_known_bound (names_of place.ctxs) b) × IsTrue (all_pass (map (lists_known_bound (names_of place.ctxs)) (drop (i + 1) subs)))
    known_both = both_true (lists_known_bound (names_of place.ctxs) b) (all_pass (map (lists_known_bound (names_of place.ctxs)) (drop (i + 1) subs))) (rw next_sub at w.known)

    scoped_both : IsTrue (scoped_bound x scope) × IsTrue (all_at_scope scope (map scoped_bound (drop (i + 1) bodies)))
    scoped_both = both_true (scoped_bound x scope) (all_at_scope scope (map scoped_bound (drop (i + 1) bodies))) (rw next_body at w.scoped)

    pub here_fine : (inner : ℕ) → place.next ≤ scope → inner ≡ scope + b.binders → IsTrue ((seen b.body).fine (length place.named + (inner - place.next)))
    here_fine inner outer is =
        let e : length place.named + (scope - place.next) + b.binders ≡ length place.named + (inner - place.next) = omega arith in
        rw (fine_bound-is, e) at fine_both.0

    pub here_known : IsTrue (lists_known (names_of place.ctxs) b.body)
    here_known = rw lists_known_bound-is at known_both.0

    pub here_scoped : (inner : ℕ) → inner ≡ scope + x.binders → IsTrue (in_scope_of x.body inner)
    here_scoped inner is = rw is (rw scoped_bound-is at scoped_both.0)

    pub here_narrow : (inner : ℕ) → inner ≡ scope + x.binders → (inner < 2 ^ 31) × (widest_of x.body inner < 2 ^ 31)
    here_narrow inner is =
        let k = rw (next_body) at w.narrow in
        let k' = rw width_bound-is at k in
        let e : scope + x.binders ≡ inner = sym is in
        let k'' = rw e at k' in
        (omega (arith, k''), omega (arith, k''))

    opened : all_found (map (matcher_bound (ground_of place)) subs) (levels_at place scope) scope bodies start
        ≡ option_and_then (all_found (map (matcher_bound (ground_of place)) (drop (i + 1) subs)) (levels_at place scope) scope (drop (i + 1) bodies))
        (if nat_eq b.binders x.binders then found_in (ground_of place) b.body (levels_at place scope ++ upto scope b.binders) (scope + b.binders) x.body now else None)
    opened = let s = rw (next_sub, next_body, finds_bound-is) at w.same in sym s

    pub differs : b.binders ≢ x.binders → None ≡ all_found (map (matcher_bound (ground_of place)) subs) (levels_at place scope) scope bodies start
    differs ne = let no' : nat_eq b.binders x.binders ≡ false = grind (arith, nat_tests) in rw (opened, no') refl

    module _ (inner : ℕ) (outer : place.next ≤ scope) (same : b.binders ≡ x.binders) (is : inner ≡ scope + b.binders) where
      met : all_found (map (matcher_bound (ground_of place)) subs) (levels_at place scope) scope bodies start
          ≡ option_and_then (all_found (map (matcher_bound (ground_of place)) (drop (i + 1) subs)) (levels_at place scope) scope (drop (i + 1) bodies))
          (found_in (ground_of place) b.body (levels_at place inner) inner x.body now)
      met =
          let yes' : nat_eq b.binders x.binders ≡ true = grind (arith, nat_tests) in
          let e : scope + b.binders ≡ inner = sym is in
          rw (opened, yes', levels-under place scope b.binders outer, e) refl

      pub fails : None ≡ found_in (ground_of place) b.body (levels_at place inner) inner x.body now →
          None ≡ all_found (map (matcher_bound (ground_of place)) subs) (levels_at place scope) scope bodies start
      fails e = rw (met, ← e) refl

      pub Walked-next : (new : Found) → Some new ≡ found_in (ground_of place) b.body (levels_at place inner) inner x.body now →
          Walked place scope subs bodies start new (i + 1)
      Walked-next new e = record {
        fine = fine_both.1;
        known = known_both.1;
        scoped = scoped_both.1;
        narrow = let k = rw next_body at w.narrow in omega (arith, k);
        same = rw (met, ← e) refl;
      }

-- a body is smaller than what binds variables in it
pub body_strictly : (b : PBound) → pattern_size.the_size b.body < bound_size.the_size b
body_strictly b = search (rules, pat.the_lemmas)
