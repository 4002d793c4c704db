-- What an item finds is what makes its hypotheses.
use Rattle.std.proofs.Common.{◌≡◌, ℕ, ◌+◌, ◌<◌, List, [], ◌∷◌, ◌++◌, length, map, take, true, false, not, ◌&&◌, nat_eq, IsTrue, All, inl, inr, Some, refl, sym, ap, ◌∙◌, arith}
use Rattle.std.specs.List.{IsDistinct}
use Rattle.std.proofs.lemmas.Bool.Decides.{nat_tests}
use Rattle.std.proofs.lemmas.List.{length-append, length-map}
use Rattle.mp_logic.specs.declared.sym.Sym.{Sym}
use Rattle.mp_term.specs.declared.term.Term.{Term, Var}
use Rattle.mp_term.specs.Terms.{in_scope_of}
use Rattle.mp_term.specs.Limits.{in_scopes_from}
use Rattle.mp_schema.specs.declared.instance.CtxVal.{CtxVal}
use Rattle.mp_schema.specs.declared.pattern.Pattern.{Pattern}
use Rattle.mp_schema.specs.declared.schema.Item.TheVariants.{Ctx, Hyp}
use Rattle.mp_schema.specs.Instances.{fits, all_pass, inst_of}
use Rattle.mp_schema.specs.Sequents.{Instance, Spot, hyps_of, behind, item_fits, wide_of, ground_at}
use Rattle.mp_schema.specs.Conditions.{Seen, seen, has, is_known, below, lists_known, item_placed, item_fine, all_placed, argument}
use Rattle.mp_schema.specs.Values.{find_ctx, first_variable_of, first_or}
use Rattle.mp_schema.proofs.Laying.{not_true}
use Rattle.mp_match.specs.declared.place.Walk.{Walk}
use Rattle.mp_match.specs.declared.sizes.Sizes.{Sizes}
use Rattle.mp_match.specs.Matching.{found_in}
use Rattle.mp_match.specs.Places.{before, names_of, ground_of, levels_at}
use Rattle.mp_match.specs.Walks.{size_after, past_named, past_context, hyp_found, context_levels, item_found}
use Rattle.mp_term.proofs.EqualTerms.{both_true, and_true, decided, same_name}
use Rattle.mp_match.proofs.Laid.{IsLaid, laid-usable, ctx-kept, ctx-new, ctx-other, ctx-none, ctx-either, names-append}
use Rattle.mp_schema.proofs.Arguments.{fine-variables}
use Rattle.mp_match.proofs.Kept.{in_scopes-take}
use Rattle.mp_match.proofs.Contexts.{context_distinct, context_below}
use Rattle.mp_match.proofs.Ready.{hyp-result, ctx-result}
use Rattle.mp_match.proofs.PatternLaws.{Asks, args-fit}
use Rattle.mp_match.proofs.Solving.{Meets, Solves}
use Rattle.mp_schema.proofs.Rows.{placed_from, telescope-placed}
use Rattle.mp_match.proofs.Telescopes.{kept-sound, kept-complete}
use Rattle.mp_match.proofs.Ties.{HasContexts, At, ground-same, wide-same, asks-makes, makes-asks, levels-here, solved-here}

-- the instance has what is found
pub record Tied (v : Instance) (w : Walk) : Type 0 where
  pub meets : Meets v.values w.found
  pub ctxs : HasContexts v w.place

-- ## Named hypotheses

module _ (sizes : Sizes) (w : Walk) (laid : IsLaid w.place) (p : Pattern) (placed : item_placed (Hyp p) (before w.place) ≡ true)
    (fine : item_fine (Hyp p) (before w.place) ≡ true) where
  known : lists_known (names_of w.place.ctxs) p ≡ true
  known = (both_true (below p (length w.place.named)) (lists_known (names_of w.place.ctxs) p) placed).1

  solved : (t : Term) → in_scope_of t w.place.next ≡ true → Solves (Asks (ground_of w.place) (names_of w.place.ctxs) p w.place.named w.place.next t) w.found
      (found_in (ground_of w.place) p (levels_at w.place w.place.next) w.place.next t w.found)
  solved t scoped = solved-here w.place p t w.found laid fine known scoped

  pub hyp-sound : (v : Instance) (l : Spot) (t : Term) (ts : List Term) (m : Walk) → v.ambient ≡ 0 → in_scopes_from w.place.next (t ∷ ts) ≡ true →
      hyp_found p t w ≡ Some m → Tied v m →
      Tied v w × (At l w.place → IsTrue (item_fits v (Hyp p)) × (hyps_of v (Hyp p) l ≡ take 1 (t ∷ ts)) × At (behind v (Hyp p) l) m.place)
  hyp-sound v l t ts m ambient scoped e tied =
      let s = both_true (in_scope_of t w.place.next) (in_scopes_from (w.place.next + 1) ts) scoped in
      let r = hyp-result sizes [] p t w m e in
      let tied' : Tied v (record { place = past_named w.place; found = r.0 }) = rw (← r.2) tied in
      let both = (solved t s.0).sound v.values r.0 r.1 tied'.meets in
      let tied'' : Tied v w = record { meets = both.0; ctxs = tied'.ctxs } in (
        tied'',
        λ at.
            let k = asks-makes v l w.place ambient laid tied'.ctxs at p t known both.1 in
            (k.0, rw k.1 refl, rw r.2 (record { next = rw at.next refl; env = rw (at.env, at.next) refl; pos = at.pos })),
      )

  pub hyp-complete : (v : Instance) (l : Spot) (t : Term) (ts : List Term) → v.ambient ≡ 0 → in_scopes_from w.place.next (t ∷ ts) ≡ true → Tied v w → At l w.place →
      IsTrue (item_fits v (Hyp p)) → hyps_of v (Hyp p) l ≡ t ∷ [] → (m : Walk) × (hyp_found p t w ≡ Some m) × Tied v m
  hyp-complete v l t ts ambient scoped tied at fit same =
      let s = both_true (in_scope_of t w.place.next) (in_scopes_from (w.place.next + 1) ts) scoped in
      let made : inst_of (ground_at v l.pos) v.values p (map Var l.env) l.next ≡ t = cc in
      let a = makes-asks v l w.place ambient laid tied.ctxs at p t known (fit, made) in
      let r = (solved t s.0).complete v.values tied.meets a in
      (record { place = past_named w.place; found = r.0 }, rw r.1 refl, record { meets = r.2; ctxs = tied.ctxs })

-- ## Contexts

module _ (sizes : Sizes) (w : Walk) (laid : IsLaid w.place) (name : Sym) (names : List Sym) (args : List Pattern)
    (placed : item_placed (Ctx name names args) (before w.place) ≡ true) (fine : item_fine (Ctx name names args) (before w.place) ≡ true) where
  placed-parts : (has (names_of w.place.ctxs) name ≡ false) × IsTrue (is_known (names_of w.place.ctxs) names)
  placed-parts =
      let k = both_true (not (has (names_of w.place.ctxs) name) && is_known (names_of w.place.ctxs) names) (all_placed args (before w.place)) placed in
      let k' = both_true (not (has (names_of w.place.ctxs) name)) (is_known (names_of w.place.ctxs) names) k.0 in
      (not_true (has (names_of w.place.ctxs) name) k'.0, k'.1)

  abbrev levels : List ℕ
  levels = context_levels names args w.place

  levels-are : levels ≡ ground_of w.place names ++ map (λ (a : Seen). argument w.place.named a.level) (map seen args)
  levels-are = rw (levels-here w.place) refl

  distinct-levels : IsDistinct nat_eq levels
  distinct-levels = context_distinct w.place names args fine placed-parts.1 (laid-usable w.place laid)

  below-levels : All (λ l. l < w.place.next) levels
  below-levels = context_below w.place names args fine placed-parts.1 (laid-usable w.place laid)

  -- the item at a spot that is the place
  module _ (v : Instance) (l : Spot) (ambient : v.ambient ≡ 0) (ctxs : HasContexts v w.place) (at : At l w.place) where
    same-levels : ground_at v l.pos names ++ map (λ (a : Seen). argument l.env a.level) (map seen args) ≡ levels
    same-levels = rw (ground-same v l w.place ambient laid ctxs at names placed-parts.1, at.env) (sym levels-are)

    hyps-placed : hyps_of v (Ctx name names args) l ≡ placed_from levels w.place.next (v.kept name)
    hyps-placed =
        let t = telescope-placed v l names args l.next (rw at.env (fine-variables (length w.place.named) (map seen args) fine)) (v.kept name) in
        t ∙ rw (same-levels, at.next) refl

    width-is : wide_of v names + length args ≡ length levels
    width-is =
        let a = length-append (ground_of w.place names) (map (λ (a : Seen). argument (levels_at w.place w.place.next) a.level) (map seen args)) in
        let b = length-map (map seen args) (λ (a : Seen). argument (levels_at w.place w.place.next) a.level) in
        let c = length-map args seen in
        let d = wide-same v l w.place ambient laid ctxs at names placed-parts.1 in
        omega (arith, a, b, c, d)

    fit-from : IsTrue (item_fits v (Ctx name names args)) → IsTrue (in_scopes_from (length levels) (v.kept name))
    fit-from h =
        let k = both_true (in_scopes_from (wide_of v names + length args) (v.kept name)) (all_pass (map (fits (wide_of v) v.values) args)) h in
        rw width-is at k.0

    fit-to : IsTrue (in_scopes_from (length levels) (v.kept name)) → IsTrue (item_fits v (Ctx name names args))
    fit-to h = and_true (in_scopes_from (wide_of v names + length args) (v.kept name)) (all_pass (map (fits (wide_of v) v.values) args))
        (rw width-is h) (args-fit (wide_of v) v.values w.place.named args (fine-variables (length w.place.named) (map seen args) fine))

  module _ (kept : List Term) where
    abbrev value : CtxVal
    value = record { name = name; first = w.place.next; hyps = kept }

    abbrev more : List CtxVal
    more = w.place.ctxs ++ value ∷ []

    at_new : find_ctx more name ≡ Some value
    at_new = ctx-new w.place.ctxs value (ctx-none w.place.ctxs name placed-parts.0)

    -- the spot behind the context is the place behind it
    at-past : (v : Instance) (l : Spot) → v.kept name ≡ kept → At l w.place → At (behind v (Ctx name names args) l) (past_context name w.place kept)
    at-past v l is at = record {
      next = rw (at.next, is) refl;
      env = at.env;
      pos = λ other h. elim (decided (nat_eq other.0 name.0)) [
        | inl same ↦
            let e = same_name other name same in
            let first : first_variable_of more other ≡ w.place.next = rw (e, at_new) refl in
            rw (same, first) at.next
        | inr apart ↦
            let apart' : nat_eq name.0 other.0 ≡ false = grind (arith, nat_tests, apart) in
            let e : first_variable_of more other ≡ first_variable_of w.place.ctxs other = ap first_or (ctx-other w.place.ctxs value other apart') in
            let h' = rw (names-append w.place.ctxs value) at h in
            let old : has (names_of w.place.ctxs) other ≡ true = grind (arith, apart', h') in
            rw (apart, e) (at.pos other old)
      ];
    }

    pub contexts-back : (v : Instance) → HasContexts v (past_context name w.place kept) → HasContexts v w.place × (v.kept name ≡ kept)
    contexts-back v h = ((λ n x e. h n x (ctx-kept w.place.ctxs value x n e)), h name value at_new)

    contexts-on : (v : Instance) → HasContexts v w.place → v.kept name ≡ kept → HasContexts v (past_context name w.place kept)
    contexts-on v h is n x e = elim (ctx-either w.place.ctxs value x n e) [
      | inl old ↦ h n x old
      | inr new ↦ ap v.kept (sym new.0) ∙ is ∙ ap (λ (z : CtxVal). z.hyps) (sym new.1)
    ]

  taken-scoped : (ts : List Term) → in_scopes_from w.place.next ts ≡ true → in_scopes_from w.place.next (take (size_after sizes w.place.ctxs) ts) ≡ true
  taken-scoped ts h = in_scopes-take w.place.next (size_after sizes w.place.ctxs) ts h

  pub ctx-sound : (v : Instance) (l : Spot) (ts : List Term) (m : Walk) → v.ambient ≡ 0 → in_scopes_from w.place.next ts ≡ true →
      item_found sizes (Ctx name names args) ts w ≡ Some m → Tied v m →
      Tied v w × (At l w.place → IsTrue (item_fits v (Ctx name names args)) × (hyps_of v (Ctx name names args) l ≡ take (size_after sizes w.place.ctxs) ts)
      × At (behind v (Ctx name names args) l) m.place)
  ctx-sound v l ts m ambient scoped e tied =
      let r = ctx-result sizes [] name names args ts w m e in
      let tied' : Tied v (record { place = past_context name w.place r.0; found = w.found }) = rw (← r.2) tied in
      let back = contexts-back r.0 v tied'.ctxs in
      let k = kept-sound levels w.place.next (take (size_after sizes w.place.ctxs) ts) r.0 distinct-levels below-levels (taken-scoped ts scoped) r.1 in (
        record { meets = tied'.meets; ctxs = back.0 },
        λ at. (
          fit-to v l ambient back.0 at (rw back.1 k.1),
          hyps-placed v l ambient back.0 at ∙ rw back.1 k.0,
          rw r.2 (at-past r.0 v l back.1 at),
        ),
      )

  pub ctx-complete : (v : Instance) (l : Spot) (ts : List Term) → v.ambient ≡ 0 → in_scopes_from w.place.next ts ≡ true → Tied v w → At l w.place →
      IsTrue (item_fits v (Ctx name names args)) → hyps_of v (Ctx name names args) l ≡ take (size_after sizes w.place.ctxs) ts →
      (m : Walk) × (item_found sizes (Ctx name names args) ts w ≡ Some m) × Tied v m
  ctx-complete v l ts ambient scoped tied at fit same =
      let found = kept-complete levels w.place.next (take (size_after sizes w.place.ctxs) ts) (v.kept name) distinct-levels below-levels (taken-scoped ts scoped)
      (fit-from v l ambient tied.ctxs at fit) (sym (hyps-placed v l ambient tied.ctxs at) ∙ same) in (
        record { place = past_context name w.place (v.kept name); found = w.found },
        rw found refl,
        record { meets = tied.meets; ctxs = contexts-on (v.kept name) v tied.ctxs refl },
      )
