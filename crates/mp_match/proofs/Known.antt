-- What a second-order variable of a pattern asks, and what it finds.
use Rattle.std.proofs.Common.{◌≡◌, ℕ, ◌+◌, ◌-◌, ◌<◌, ◌≤◌, List, [], ◌∷◌, ◌++◌, length, map, nat_eq, true, IsTrue, All, refl, sym, ap, ◌∙◌}
use Rattle.std.specs.List.{IsDistinct}
use Rattle.mp_logic.specs.declared.sym.Sym.{Sym}
use Rattle.mp_term.specs.declared.term.Term.{Term}
use Rattle.mp_schema.specs.declared.pattern.ParamPat.{ParamPat}
use Rattle.mp_schema.specs.declared.pattern.Pattern.{Pattern}
use Rattle.mp_schema.specs.declared.pattern.Pattern as pat
use Rattle.mp_schema.specs.declared.pattern.PBound.{PBound}
use Rattle.mp_schema.specs.Induction.{OfEachBody, OfEachArg, each_pattern}
use Rattle.mp_schema.specs.Instances.{Ground, all_pass}
use Rattle.mp_schema.specs.Conditions.{Seen, seen, args_fine, lists_known, is_known, argument}
use Rattle.mp_schema.proofs.Layers.{seen-Var, seen-Op, seen-Meta, fine-Meta, lists_known-Meta}
use Rattle.mp_match.specs.declared.place.Found.{Found}
use Rattle.mp_match.specs.declared.place.Position.{Position}
use Rattle.mp_match.specs.Matching.{Matcher, matcher, found_in, meta_found}
use Rattle.mp_match.specs.Places.{ground_of, levels_at, names_of, IsUsable}
use Rattle.mp_match.proofs.Layers.{level-Var, level-Op, level-Meta, finds-Meta}
use Rattle.mp_term.proofs.EqualTerms.{both_true}
use Rattle.mp_schema.proofs.Arguments.{arguments-distinct, arguments-below}

-- both folds tell a pattern's level
module _ (g : Ground) where
  abbrev SameLevel : Pattern → Type 0
  SameLevel p = (matcher g p).level ≡ (seen p).level

  same_var : (l : ℕ) → SameLevel (pat.Var l)
  same_var l = level-Var g l ∙ sym (seen-Var l)

  same_op : (o : Sym) (ps : List ParamPat) (subs : List PBound) → OfEachBody SameLevel subs → SameLevel (pat.Op o ps subs)
  same_op o ps subs _ = level-Op g o ps subs ∙ sym (seen-Op o ps subs)

  same_meta : (n : Sym) (cs : List Sym) (args : List Pattern) → OfEachArg SameLevel args → SameLevel (pat.Meta n cs args)
  same_meta n cs args _ = level-Meta g n cs args ∙ sym (seen-Meta n cs args)

  pub same_level : (p : Pattern) → (matcher g p).level ≡ (seen p).level
  same_level = each_pattern SameLevel same_var same_op same_meta

  pub same_arguments : (levels : List ℕ) (args : List Pattern) →
      map (λ (a : Matcher). argument levels a.level) (map (matcher g) args) ≡ map (λ (a : Seen). argument levels a.level) (map seen args)
  same_arguments levels [] = refl
  same_arguments levels (a ∷ rest) = rw (same_level a, same_arguments levels rest) refl

  pub found-Meta : (name : Sym) (ctxs : List Sym) (args : List Pattern) (levels : List ℕ) (m : ℕ) (t : Term) (f : Found) →
      found_in g (pat.Meta name ctxs args) levels m t f ≡ meta_found name (g ctxs ++ map (λ (a : Seen). argument levels a.level) (map seen args)) m t f
  found-Meta name ctxs args levels m t f =
      finds-Meta g name ctxs args levels m t f ∙ ap (λ xs. meta_found name (g ctxs ++ xs) m t f) (same_arguments levels args)

module _ (place : Position) (scope : ℕ) (name : Sym) (ctxs : List Sym) (args : List Pattern) (p : Pattern) where
  pub meta_is : (t : Term) (f : Found) → p ≡ pat.Meta name ctxs args →
      found_in (ground_of place) p (levels_at place scope) scope t f
      ≡ meta_found name (ground_of place ctxs ++ map (λ (a : Seen). argument (levels_at place scope) a.level) (map seen args)) scope t f
  meta_is t f is = rw is (found-Meta (ground_of place) name ctxs args (levels_at place scope) scope t f)

  module _ (is : p ≡ pat.Meta name ctxs args) (outer : place.next ≤ scope) (fine : IsTrue ((seen p).fine (length place.named + (scope - place.next))))
      (known : IsTrue (lists_known (names_of place.ctxs) p)) (usable : IsUsable place) where
    args-are-fine : args_fine (length place.named + (scope - place.next)) (map seen args) ≡ true
    args-are-fine = rw (is, fine-Meta) at fine

    list-is-known : IsTrue (is_known (names_of place.ctxs) ctxs)
    list-is-known = (both_true (is_known (names_of place.ctxs) ctxs) (all_pass (map (lists_known (names_of place.ctxs)) args)) (rw (is, lists_known-Meta) at known)).0

    pub meta_distinct : IsDistinct nat_eq (ground_of place ctxs ++ map (λ (a : Seen). argument (levels_at place scope) a.level) (map seen args))
    meta_distinct = arguments-distinct (ground_of place ctxs) place.named place.next scope (map seen args) outer
        (usable.distinct ctxs list-is-known) (usable.below ctxs list-is-known) args-are-fine

    pub meta_below : All (λ l. l < scope) (ground_of place ctxs ++ map (λ (a : Seen). argument (levels_at place scope) a.level) (map seen args))
    meta_below = arguments-below (ground_of place ctxs) place.named place.next scope (map seen args) outer
        (usable.distinct ctxs list-is-known) (usable.below ctxs list-is-known) args-are-fine
