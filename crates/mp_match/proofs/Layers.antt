-- One level of each definition on terms and patterns.
use Rattle.std.proofs.Common.{◌≡◌, ℕ, ◌+◌, List, ◌++◌, map, get_or, nat_eq, Some, None, if◌then◌else◌, rules}
use Rattle.mp_logic.specs.declared.sym.Sym.{Sym}
use Rattle.mp_term.specs.declared.term.Term.{Term, out-Term}
use Rattle.mp_term.specs.declared.term.Bound.{Bound}
use Rattle.mp_schema.specs.declared.pattern.ParamPat.{ParamPat}
use Rattle.mp_schema.specs.declared.pattern.Pattern.{Pattern, the_lemmas}
use Rattle.mp_schema.specs.declared.pattern.Pattern as pat
use Rattle.mp_schema.specs.declared.pattern.PBound.{PBound}
use Rattle.mp_schema.specs.Instances.{Ground}
use Rattle.mp_term.specs.Subst.{upto}
use Rattle.mp_match.specs.declared.place.Found.{Found}
use Rattle.mp_term.specs.Equality.{is_level}
use Rattle.mp_match.specs.Matching.{Matcher, matcher, matcher_bound, found_in, op_found, meta_found}
use Rattle.mp_schema.specs.Conditions.{argument}

module _ (g : Ground) where
  pub level-Var : (l : ℕ) → (matcher g (pat.Var l)).level ≡ Some l
  level-Var l = search (rules, the_lemmas)

  pub level-Op : (o : Sym) (ps : List ParamPat) (subs : List PBound) → (matcher g (pat.Op o ps subs)).level ≡ None
  level-Op o ps subs = search (rules, the_lemmas)

  pub level-Meta : (n : Sym) (cs : List Sym) (args : List Pattern) → (matcher g (pat.Meta n cs args)).level ≡ None
  level-Meta n cs args = search (rules, the_lemmas)

  pub finds-Var : (l : ℕ) (levels : List ℕ) (m : ℕ) (t : Term) (f : Found) →
      found_in g (pat.Var l) levels m t f ≡ (if is_level (get_or levels l l) (out-Term t) then Some f else None)
  finds-Var l levels m t f = search (rules, the_lemmas)

  pub finds-Op : (o : Sym) (ps : List ParamPat) (subs : List PBound) (levels : List ℕ) (m : ℕ) (t : Term) (f : Found) →
      found_in g (pat.Op o ps subs) levels m t f ≡ op_found o ps (map (matcher_bound g) subs) levels m f (out-Term t)
  finds-Op o ps subs levels m t f = search (rules, the_lemmas)

  pub finds-Meta : (n : Sym) (cs : List Sym) (args : List Pattern) (levels : List ℕ) (m : ℕ) (t : Term) (f : Found) →
      found_in g (pat.Meta n cs args) levels m t f ≡ meta_found n (g cs ++ map (λ (a : Matcher). argument levels a.level) (map (matcher g) args)) m t f
  finds-Meta n cs args levels m t f = search (rules, the_lemmas)

  pub finds_bound-is : (b : PBound) (levels : List ℕ) (m : ℕ) (x : Bound) (f : Found) →
      (matcher_bound g b).finds levels m x f
      ≡ (if nat_eq b.binders x.binders then found_in g b.body (levels ++ upto m b.binders) (m + b.binders) x.body f else None)
  finds_bound-is b levels m x f = search (rules, the_lemmas)
