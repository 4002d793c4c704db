-- Where values and patterns have few binders, so has what is made.
use Rattle.std.proofs.Common.{◌≡◌, ℕ, ◌+◌, List, [], ◌∷◌, ◌++◌, map, get_or, IsTrue, zero, suc, refl, arith}
use Rattle.std.specs.Prelude.{All, nat_le}
use Rattle.std.specs.List.{list_all}
use Rattle.std.proofs.lemmas.Grind.{common_steps}
use Rattle.std.proofs.lemmas.List.{map-append}
use Rattle.std.proofs.lemmas.List.Elements.{All-append}
use Rattle.std.proofs.lemmas.List.Folds.{list_all-append}
use Rattle.mp_logic.specs.declared.sym.Sym.{Sym}
use Rattle.mp_term.specs.declared.term.Term.{Term, Var}
use Rattle.mp_term.specs.Terms.{all_true}
use Rattle.mp_term.specs.Limits.{few_binders_of, sequent_few_binders_of}
use Rattle.mp_term.proofs.EqualTerms.{both_true}
use Rattle.mp_term.proofs.Layers.{few_bound, few-Var, few-Op, few_bound-is}
use Rattle.mp_term.specs.Subst.{variables, upto}
use Rattle.mp_term.proofs.BinderLaws.{few-sub}
use Rattle.mp_schema.specs.declared.pattern.ParamPat.{ParamPat}
use Rattle.mp_schema.specs.declared.pattern.Pattern.{Pattern}
use Rattle.mp_schema.specs.declared.pattern.Pattern as pat
use Rattle.mp_schema.specs.declared.pattern.PBound.{PBound}
use Rattle.mp_schema.specs.declared.schema.Item.{Item}
use Rattle.mp_schema.specs.declared.schema.Item.TheVariants.{Ctx, Hyp}
use Rattle.mp_schema.specs.declared.schema.Schema.{Schema}
use Rattle.mp_schema.specs.Induction.{OfEachBody, OfEachArg, each_pattern, of_each_arg}
use Rattle.mp_schema.specs.Instances.{Ground, inst_of, inst_bound, made_each, all_pass}
use Rattle.mp_schema.specs.Limits.{few_of, few_of_bound, few_of_item, few_of_schema}
use Rattle.mp_schema.specs.Sequents.{Instance, Spot, first_spot, ground_at, telescope, hyps_of, behind, hyps_from, behind_all, seq}
use Rattle.mp_schema.proofs.Layers.{inst-Var, inst-Op, inst-Meta, inst_bound-is, few_of-Op, few_of-Meta, few_of_bound-is}
use Rattle.mp_build.specs.Built.{term_of}
use Rattle.mp_build.specs.Laws.{HasFewBinders}
use Rattle.mp_build.proofs.Grounds.{variables-are}

abbrev AllFew : List Term → Type 0
AllFew ts = All (λ t. IsTrue (few_binders_of t)) ts

few-levels : (levels : List ℕ) → AllFew (map Var levels)
few-levels [] k d h = absurd (omega arith)
few-levels (l ∷ levels) zero d h = few-Var l
few-levels (l ∷ levels) (suc k) d h = few-levels levels k d (omega arith)

few-at : (levels : List ℕ) (i j : ℕ) → IsTrue (few_binders_of (get_or (map Var levels) i (Var j)))
few-at [] i j = few-Var j
few-at (l ∷ levels) zero j = few-Var l
few-at (l ∷ levels) (suc i) j = few-at levels i j

few-joined : (xs ys : List Term) → AllFew xs → AllFew ys → AllFew (xs ++ ys)
few-joined xs ys h h' = All-append (λ t. IsTrue (few_binders_of t)) xs ys h h'

few-cons : (t : Term) (ts : List Term) → IsTrue (few_binders_of t) → AllFew ts → AllFew (t ∷ ts)
few-cons t ts h hs zero d low = h
few-cons t ts h hs (suc k) d low = hs k d (omega arith)

module _ (v : Instance) (few : HasFewBinders v) where
  module _ (before : Ground) where
    abbrev IsFew : Pattern → Type 0
    IsFew p = (levels : List ℕ) (m : ℕ) → IsTrue (few_of p) → IsTrue (few_binders_of (inst_of before v.values p (map Var levels) m))

    few_var : (i : ℕ) → IsFew (pat.Var i)
    few_var i levels m h = rw inst-Var (few-at levels i i)

    few_bounds : (bs : List PBound) (levels : List ℕ) (m : ℕ) → OfEachBody IsFew bs → IsTrue (all_pass (map few_of_bound bs)) →
        IsTrue (all_true (map few_bound (made_each (map (inst_bound before v.values) bs) (map Var levels) m)))
    few_bounds [] levels m h f = refl
    few_bounds (b ∷ bs) levels m h f =
        let own : IsTrue (few_of_bound b) = grind (arith, common_steps) in
        let rest_few : IsTrue (all_pass (map few_of_bound bs)) = grind (arith, common_steps) in
        let parts = rw few_of_bound-is at own in
        let binders : IsTrue (nat_le b.binders 8) = grind (arith, common_steps, parts) in
        let body_few : IsTrue (few_of b.body) = grind (arith, common_steps, parts) in
        let longer : map Var levels ++ variables m b.binders ≡ map Var (levels ++ upto m b.binders) = rw (variables-are, map-append) refl in
        let body = h.0 (levels ++ upto m b.binders) (m + b.binders) body_few in
        let first : IsTrue (few_bound (inst_bound before v.values b (map Var levels) m)) = rw (inst_bound-is, few_bound-is, longer) (grind (arith, common_steps, binders, body)) in
        let rest = few_bounds bs levels m h.1 rest_few in grind (arith, common_steps, first, rest)

    few_op : (o : Sym) (ps : List ParamPat) (bs : List PBound) → OfEachBody IsFew bs → IsFew (pat.Op o ps bs)
    few_op o ps bs h levels m f =
        let parts = rw few_of-Op at f in
        let bodies : IsTrue (all_pass (map few_of_bound bs)) = grind (arith, common_steps, parts) in
        rw (inst-Op, few-Op) (few_bounds bs levels m h bodies)

    few_args : (args : List Pattern) (levels : List ℕ) (m : ℕ) → OfEachArg IsFew args → IsTrue (all_pass (map few_of args)) →
        AllFew (made_each (map (inst_of before v.values) args) (map Var levels) m)
    few_args [] levels m h f = λ k d low. absurd (omega arith)
    few_args (a ∷ args) levels m h f =
        let k = both_true (few_of a) (all_pass (map few_of args)) f in
        few-cons _ _ (h.0 levels m k.0) (few_args args levels m h.1 k.1)

    few_meta : (n : Sym) (cs : List Sym) (args : List Pattern) → OfEachArg IsFew args → IsFew (pat.Meta n cs args)
    few_meta n cs args h levels m f =
        let parts = rw few_of-Meta at f in
        let each : IsTrue (all_pass (map few_of args)) = grind (arith, common_steps, parts) in
        rw inst-Meta (few-sub _ m (few-joined _ _ (few-levels (before cs)) (few_args args levels m h each)) (v.values.meta n) (few.metas n))

    few-inst : (p : Pattern) → IsFew p
    few-inst = each_pattern IsFew few_var few_op few_meta

    few-args : (args : List Pattern) (levels : List ℕ) (m : ℕ) → IsTrue (all_pass (map few_of args)) → AllFew (made_each (map (inst_of before v.values) args) (map Var levels) m)
    few-args args levels m f = few_args args levels m (of_each_arg IsFew few-inst args) f

  few-telescope : (l : Spot) (cs : List Sym) (args : List Pattern) (j : ℕ) (ts : List Term) → IsTrue (all_pass (map few_of args)) → AllFew ts →
      IsTrue (list_all few_binders_of (telescope v l cs args l.next j ts))
  few-telescope l cs args j [] f hs = refl
  few-telescope l cs args j (t ∷ ts) f hs =
      let own : AllFew (variables l.next j) = rw variables-are (few-levels (upto l.next j)) in
      let fore = few-joined _ _ (few-levels (ground_at v l.pos cs)) (few-args (ground_at v l.pos) args l.env (l.next + j) f) in
      let t_few : IsTrue (few_binders_of t) = hs 0 t (omega arith) in
      let first = few-sub _ (l.next + j) (few-joined _ _ fore own) t t_few in
      let rest = few-telescope l cs args (suc j) ts f (λ k d low. hs (suc k) d (omega arith)) in
      grind (arith, common_steps, first, rest)

  few-item : (i : Item) (l : Spot) → IsTrue (few_of_item i) → IsTrue (list_all few_binders_of (hyps_of v i l))
  few-item (Hyp p) l f = let made = few-inst (ground_at v l.pos) p l.env l.next f in grind (arith, common_steps, made)
  few-item (Ctx n cs args) l f =
      let each : IsTrue (all_pass (map few_of args)) = grind (arith, common_steps) in
      few-telescope l cs args 0 (v.kept n) each (few.kept n)

  few-hyps : (is : List Item) (l : Spot) → IsTrue (list_all few_of_item is) → IsTrue (list_all few_binders_of (hyps_from v is l))
  few-hyps [] l f = refl
  few-hyps (i ∷ is) l f =
      let k = both_true (few_of_item i) (list_all few_of_item is) f in
      let first = few-item i l k.0 in
      let rest = few-hyps is (behind v i l) k.1 in
      let both = list_all-append few_binders_of (hyps_of v i l) (hyps_from v is (behind v i l)) in
      grind (arith, common_steps, first, rest, both)

  pub few-seq : (s : Schema) → IsTrue (few_of_schema s) → IsTrue (sequent_few_binders_of (seq v s))
  few-seq s f =
      let items : IsTrue (list_all few_of_item s.items) = grind (arith, common_steps) in
      let concl : IsTrue (few_of s.concl) = grind (arith, common_steps) in
      let end = behind_all v s.items first_spot in
      let one = few-hyps s.items first_spot items in
      let two = few-inst (ground_at v end.pos) s.concl end.env end.next concl in
      grind (arith, common_steps, one, two)

  pub few-term : (p : Pattern) → IsTrue (few_of p) → IsTrue (few_binders_of (term_of v p))
  few-term p f = few-inst (ground_at v (λ name. 0)) p [] v.ambient f
