-- A term's match is its instance.
use Rattle.std.proofs.Common.{◌≡◌, ℕ, ◌+◌, ◌-◌, List, [], ◌∷◌, length, IsTrue, Option, Some, None, IfSome, append-nil, refl, sym, ap, ◌∙◌, arith}
use Rattle.std.specs.Option.{option_map}
use Rattle.mp_logic.specs.declared.sym.Sym.{Sym}
use Rattle.mp_term.specs.declared.term.Term.{Term}
use Rattle.mp_term.specs.Terms.{in_scope_of}
use Rattle.mp_schema.specs.declared.instance.Inst.{Inst}
use Rattle.mp_schema.specs.declared.pattern.Pattern.{Pattern}
use Rattle.mp_schema.specs.Instances.{Values, Ground, inst_of, fits}
use Rattle.mp_term.specs.Subst.{upto}
use Rattle.mp_schema.specs.Sequents.{Instance}
use Rattle.mp_schema.specs.Conditions.{seen, lists_known}
use Rattle.mp_schema.specs.Occurrences.{occurrences_in, holes_in}
use Rattle.mp_schema.specs.Values.{instance_of, variables_of}
use Rattle.mp_match.specs.declared.place.Found.{Found}
use Rattle.mp_match.specs.Covering.{is_covered}
use Rattle.mp_match.specs.Matching.{found_in}
use Rattle.mp_match.specs.Matches.{nothing_found, as_instance, term_place, term_match}
use Rattle.mp_match.specs.Places.{ground_of, levels_at, IsUsable}
use Rattle.mp_schema.specs.Solutions.{Agrees, GivesTerm, IsTermInstance, ambient_only}
use Rattle.mp_schema.proofs.Apart.{Apart-to, Below-to, Apart-upto, Below-upto}
use Rattle.mp_term.proofs.Ranges.{length-upto}
use Rattle.mp_schema.proofs.OneGoal.{one_term}
use Rattle.mp_match.proofs.Covered.{agrees_itself, covered_where_one}
use Rattle.mp_schema.proofs.KnownLists.{inst-known, fits-known}
use Rattle.mp_match.proofs.PatternLaws.{Usable, Asks, pattern-solved}
use Rattle.mp_match.proofs.Solving.{Meets, Solves}

no_variables : (names : List Sym) → variables_of [] names ≡ []
no_variables [] = refl
no_variables (x ∷ names) = no_variables names

pub ground-ambient : (scope : ℕ) (names : List Sym) → ground_of (term_place scope) names ≡ upto 0 scope
ground-ambient scope names = rw (no_variables names) (append-nil (upto 0 scope))

pub levels-none : (scope : ℕ) → levels_at (term_place scope) scope ≡ []
levels-none scope = let e : scope - scope ≡ 0 = omega arith in rw e refl

pub term-usable : (scope : ℕ) → IsUsable (term_place scope)
term-usable scope = record {
  ends = λ name. omega arith;
  distinct = λ names h. rw (ground-ambient scope names, append-nil (upto 0 scope)) (Apart-to (upto 0 scope) (Apart-upto 0 scope));
  below = λ names h. rw (ground-ambient scope names, append-nil (upto 0 scope))
      (let e : 0 + scope ≡ scope = omega arith in Below-to scope (upto 0 scope) (rw e at (Below-upto 0 scope)));
}

usable : (scope : ℕ) → Usable (ground_of (term_place scope)) [] [] scope
usable scope = record {
  distinct = λ names h. rw (ground-ambient scope names, append-nil (upto 0 scope)) (Apart-upto 0 scope);
  below = λ names h. rw (ground-ambient scope names, append-nil (upto 0 scope)) (let e : 0 + scope ≡ scope = omega arith in rw e at (Below-upto 0 scope));
}

pub meets_nothing : (v : Values) → Meets v nothing_found
meets_nothing v = record { metas = λ name x e. absurd (cc); params = λ name p e. absurd (cc) }

module _ (scope : ℕ) (p : Pattern) (t : Term) (fine : IsTrue ((seen p).fine 0)) (lists : IsTrue (lists_known [] p)) (scoped : IsTrue (in_scope_of t scope)) where
  abbrev ground : Ground
  ground = ground_of (term_place scope)

  solved : Solves (Asks ground [] p [] scope t) nothing_found (found_in ground p (levels_at (term_place scope) scope) scope t nothing_found)
  solved = rw (levels-none scope) (pattern-solved ground [] p [] scope t nothing_found fine lists (usable scope) scoped)

  same_fit : (v : Values) → fits (λ names. length (ground names)) v p ≡ fits (λ names. scope) v p
  same_fit v = fits-known [] (λ names. length (ground names)) (λ names. scope) v
      (λ names h. ap length (ground-ambient scope names) ∙ length-upto 0 scope) p lists

  same_inst : (v : Values) → inst_of ground v p [] scope ≡ inst_of (ambient_only scope) v p [] scope
  same_inst v = inst-known [] ground (ambient_only scope) v (λ names h. ground-ambient scope names) p lists [] scope

  asks-to : (v : Instance) → v.ambient ≡ scope → Asks ground [] p [] scope t v.values → GivesTerm scope p t v
  asks-to v is a = record { ambient = is; fit = sym (same_fit v.values) ∙ a.0; same = sym (same_inst v.values) ∙ a.1 }

  asks-from : (v : Instance) → GivesTerm scope p t v → Asks ground [] p [] scope t v.values
  asks-from v h = (same_fit v.values ∙ h.fit, same_inst v.values ∙ h.same)

  -- an instance with the values that are found makes the pattern the term
  found_gives : (f : Found) → found_in ground p (levels_at (term_place scope) scope) scope t nothing_found ≡ Some f → (v : Instance) → Agrees v (as_instance (term_place scope) f) →
      GivesTerm scope p t v
  found_gives f e v a = asks-to v a.ambient (solved.sound v.values f e (record { metas = a.metas; params = a.params })).1

  matched : (o : Option Found) → found_in ground p (levels_at (term_place scope) scope) scope t nothing_found ≡ o →
      IsTermInstance scope p t (option_map (as_instance (term_place scope)) o) × IfSome (option_map (as_instance (term_place scope)) o) (λ i. IsTrue (is_covered i p))
  matched None e = (λ v h. let r = solved.complete v.values (meets_nothing v.values) (asks-from v h) in absurd (let e' = r.1 in cc), tt)
  matched (Some f) e =
      let i : Inst = as_instance (term_place scope) f in
      let itself = found_gives f e (instance_of i) (agrees_itself i) in (
        (
          itself,
          λ v h.
              let r = solved.complete v.values (meets_nothing v.values) (asks-from v h) in
              let e' = r.1 in
              let is : r.0 ≡ f = cc in
              let m : Meets v.values f = rw is at r.2 in
              record { ambient = h.ambient; ctxs = λ name x k. absurd (cc); metas = m.metas; params = m.params },
        ),
        covered_where_one i (occurrences_in p) (holes_in p) (λ v a. one_term scope p t (instance_of i) v fine lists itself (found_gives f e v a)),
      )

  -- what is found is the instance, with a value for each name
  pub term_matched : IsTermInstance scope p t (term_match p scope t) × IfSome (term_match p scope t) (λ i. IsTrue (is_covered i p))
  term_matched = matched (found_in ground p (levels_at (term_place scope) scope) scope t nothing_found) refl
