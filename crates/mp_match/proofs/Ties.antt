-- How an instance and its spot stand to what is found before a place.
use Rattle.std.proofs.Common.{◌≡◌, ℕ, ◌-◌, List, [], ◌∷◌, ◌++◌, length, map, true, IsTrue, Some, append-nil, refl, sym, ap, ◌∙◌, arith}
use Rattle.mp_logic.specs.declared.sym.Sym.{Sym}
use Rattle.mp_term.specs.declared.term.Term.{Term, Var}
use Rattle.mp_term.specs.Terms.{in_scope_of}
use Rattle.mp_schema.specs.declared.instance.CtxVal.{CtxVal}
use Rattle.mp_schema.specs.declared.pattern.Pattern.{Pattern}
use Rattle.mp_schema.specs.Instances.{inst_of, fits}
use Rattle.mp_term.specs.Subst.{upto}
use Rattle.mp_schema.specs.Sequents.{Instance, Spot, ground_at, wide_of}
use Rattle.mp_logic.specs.Lists.{joined}
use Rattle.mp_schema.specs.Conditions.{seen, has, has_all, is_apart, is_known, lists_known}
use Rattle.mp_schema.specs.Values.{find_ctx, kept_of, first_variable_of, kept_or, variables_of}
use Rattle.mp_match.specs.declared.place.Found.{Found}
use Rattle.mp_match.specs.declared.place.Position.{Position}
use Rattle.mp_match.specs.Matching.{found_in}
use Rattle.mp_match.specs.Places.{ground_of, levels_at, names_of}
use Rattle.mp_term.proofs.EqualTerms.{both_true}
use Rattle.mp_match.proofs.Laid.{IsLaid, ctx-some, ground-distinct, ground-below}
use Rattle.mp_schema.proofs.Apart.{Apart-from}
use Rattle.mp_schema.proofs.KnownLists.{inst-known, fits-known}
use Rattle.mp_match.proofs.PatternLaws.{Usable, Asks, pattern-solved}
use Rattle.mp_match.proofs.Solving.{Solves}
use Rattle.mp_schema.proofs.Rows.{wide-ground}

-- the instance has the contexts that are found
abbrev pub HasContexts : Instance → Position → Type 0
HasContexts v place = (name : Sym) (x : CtxVal) → find_ctx place.ctxs name ≡ Some x → v.kept name ≡ x.hyps

-- the spot is the place
pub record At (l : Spot) (place : Position) : Type 0 where
  pub next : l.next ≡ place.next
  pub env : l.env ≡ place.named
  pub pos : (name : Sym) → has (names_of place.ctxs) name ≡ true → l.pos name ≡ first_variable_of place.ctxs name

module _ (v : Instance) (l : Spot) (place : Position) (ambient : v.ambient ≡ 0) (laid : IsLaid place) (has-them : HasContexts v place) (at : At l place) where
  range-same : (c : Sym) → has (names_of place.ctxs) c ≡ true → upto (l.pos c) (length (v.kept c)) ≡ upto (first_variable_of place.ctxs c) (length (kept_of place.ctxs c))
  range-same c h =
      let s = ctx-some place.ctxs c h in
      let kept : kept_of place.ctxs c ≡ v.kept c = ap kept_or s.1 ∙ sym (has-them c s.0 s.1) in
      rw (at.pos c h, kept) refl

  joined-same : (names : List Sym) → has_all (names_of place.ctxs) names ≡ true →
      joined (map (λ c. upto (l.pos c) (length (v.kept c))) names) ≡ variables_of place.ctxs names
  joined-same [] h = refl
  joined-same (c ∷ names) h =
      let k = both_true (has (names_of place.ctxs) c) (has_all (names_of place.ctxs) names) h in
      rw (range-same c k.0, joined-same names k.1) refl

  pub ground-same : (names : List Sym) → is_known (names_of place.ctxs) names ≡ true → ground_at v l.pos names ≡ ground_of place names
  ground-same names h =
      let k = both_true (has_all (names_of place.ctxs) names) (is_apart names) h in
      rw (ambient, laid.ambient) (joined-same names k.0)

  pub wide-same : (names : List Sym) → is_known (names_of place.ctxs) names ≡ true → length (ground_of place names) ≡ wide_of v names
  wide-same names h = ap length (sym (ground-same names h)) ∙ wide-ground v l.pos names

  -- ## Patterns at a place

  -- the instance makes the pattern this term at the spot
  abbrev pub Makes : Pattern → Term → Type 0
  Makes p t = IsTrue (fits (wide_of v) v.values p) × (inst_of (ground_at v l.pos) v.values p (map Var l.env) l.next ≡ t)

  module _ (p : Pattern) (t : Term) (known : lists_known (names_of place.ctxs) p ≡ true) where
    same_fit : fits (λ names. length (ground_of place names)) v.values p ≡ fits (wide_of v) v.values p
    same_fit = fits-known (names_of place.ctxs) (λ names. length (ground_of place names)) (wide_of v) v.values wide-same p known

    same_inst : (env : List Term) (m : ℕ) → inst_of (ground_at v l.pos) v.values p env m ≡ inst_of (ground_of place) v.values p env m
    same_inst env m = inst-known (names_of place.ctxs) (ground_at v l.pos) (ground_of place) v.values ground-same p known env m

    pub asks-makes : Asks (ground_of place) (names_of place.ctxs) p place.named place.next t v.values → Makes p t
    asks-makes a = (sym same_fit ∙ a.0, rw (at.env, at.next) (same_inst (map Var place.named) place.next ∙ a.1))

    pub makes-asks : Makes p t → Asks (ground_of place) (names_of place.ctxs) p place.named place.next t v.values
    makes-asks h = (same_fit ∙ h.0, sym (same_inst (map Var place.named) place.next) ∙ rw (at.env, at.next) at h.1)

laid-usable-at : (place : Position) → IsLaid place → Usable (ground_of place) (names_of place.ctxs) place.named place.next
laid-usable-at place laid = record {
  distinct = λ names h. Apart-from (ground_of place names ++ place.named) (ground-distinct place laid names h);
  below = λ names h. ground-below place laid names;
}

pub levels-here : (place : Position) → levels_at place place.next ≡ place.named
levels-here place = let e : place.next - place.next ≡ 0 = omega arith in rw e (append-nil place.named)

-- what a pattern finds at a place
pub solved-here : (place : Position) (p : Pattern) (t : Term) (old : Found) → IsLaid place → (seen p).fine (length place.named) ≡ true → lists_known (names_of place.ctxs) p ≡ true →
    in_scope_of t place.next ≡ true →
    Solves (Asks (ground_of place) (names_of place.ctxs) p place.named place.next t) old (found_in (ground_of place) p (levels_at place place.next) place.next t old)
solved-here place p t old laid fine known scoped =
    rw (levels-here place) (pattern-solved (ground_of place) (names_of place.ctxs) p place.named place.next t old fine known (laid-usable-at place laid) scoped)
