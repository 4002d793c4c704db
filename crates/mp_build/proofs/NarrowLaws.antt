-- Values of goals within the limits ask for no scope that is too wide.
use Rattle.std.proofs.Common.{◌≡◌, ℕ, ◌+◌, ◌*◌, ◌<◌, ◌≤◌, ◌^◌, List, [], ◌∷◌, length, map, sum, IsTrue, suc, arith}
use Rattle.std.specs.Prelude.{All, Bool, true, false, nat_le, nat_eq, if◌then◌else◌, Some}
use Rattle.std.specs.List.{list_all}
use Rattle.std.proofs.lemmas.Bool.Decides.{nat_tests}
use Rattle.std.proofs.lemmas.Grind.{common_steps}
use Rattle.mp_logic.specs.declared.sym.Sym.{Sym}
use Rattle.mp_term.specs.declared.term.Term.{Term, Var}
use Rattle.mp_logic.specs.Lists.{greatest}
use Rattle.mp_term.proofs.EqualTerms.{both_true}
use Rattle.mp_term.proofs.Layers.{few-Var, depth-Var}
use Rattle.mp_term.specs.Subst.{widest_of, widest_at}
use Rattle.mp_term.proofs.Laws.{width_of_few_binders}
use Rattle.mp_schema.specs.declared.instance.CtxVal.{CtxVal}
use Rattle.mp_schema.specs.declared.instance.MetaVal.{MetaVal}
use Rattle.mp_schema.specs.declared.instance.Inst.{Inst}
use Rattle.mp_schema.specs.declared.pattern.ParamPat.{ParamPat}
use Rattle.mp_schema.specs.declared.pattern.Pattern.{Pattern}
use Rattle.mp_schema.specs.declared.pattern.Pattern as pat
use Rattle.mp_schema.specs.declared.pattern.PBound.{PBound}
use Rattle.mp_schema.specs.declared.schema.Item.{Item}
use Rattle.mp_schema.specs.declared.schema.Item.TheVariants.{Ctx, Hyp}
use Rattle.mp_schema.specs.declared.schema.Schema.{Schema}
use Rattle.mp_schema.specs.Induction.{OfEachBody, OfEachArg, each_pattern, of_each_arg}
use Rattle.mp_schema.specs.Instances.{all_pass}
use Rattle.mp_schema.specs.Limits.{few_of, few_of_bound, few_of_item, few_of_schema, pattern_depth_of, pattern_depth_of_bound, is_shallow_item, is_shallow_pattern, is_shallow_schema}
use Rattle.mp_schema.specs.Sequents.{Instance, wide_of}
use Rattle.mp_schema.specs.Values.{instance_of, find_meta, find_ctx, body_or, kept_or}
use Rattle.mp_build.specs.Laws.{IsTameTerm, IsTame, HasTameEntries}
use Rattle.mp_build.specs.Rooms.{room, room_bound, telescope_room, item_room, items_room, schema_room}
use Rattle.mp_build.specs.Sizes.{item_count}
use Rattle.mp_build.proofs.Layers.{room-Var, room-Op, room-Meta, room_bound-is}
use Rattle.mp_schema.proofs.Layers.{few_of-Op, few_of-Meta, few_of_bound-is, pattern_depth_of-Var, pattern_depth_of-Op, pattern_depth_of-Meta, pattern_depth_of_bound-is}

-- a tame term widens its scope by 1600 at most
tame-width : (t : Term) (n : ℕ) → IsTameTerm t → widest_of t n ≤ n + 1600
tame-width t n tame = let shallow = tame.shallow in let w = width_of_few_binders t n tame.few in omega (arith, w)

module _ (v : Instance) (tame : IsTame v) where
  sum-few : (cs : List Sym) → sum (map (λ c. length (v.kept c)) cs) ≤ 200 * length cs
  sum-few [] = omega arith
  sum-few (c ∷ cs) =
      let first = tame.many c in
      let rest = sum-few cs in
      let e : sum (map (λ c. length (v.kept c)) (c ∷ cs)) ≡ length (v.kept c) + sum (map (λ c. length (v.kept c)) cs) = grind (arith, common_steps) in
      omega (arith, first, rest, e)

  -- a list of 8 contexts has 1600 variables at most
  few-before : (cs : List Sym) → length cs ≤ 8 → wide_of v cs ≤ 11600
  few-before cs h = let ambient = tame.ambient in let s = sum-few cs in omega (arith, s)

  abbrev IsNarrow : Pattern → Type 0
  IsNarrow p = (m : ℕ) → IsTrue (few_of p) → room (wide_of v) v.values p m ≤ m + 14000 * pattern_depth_of p

  narrow_var : (i : ℕ) → IsNarrow (pat.Var i)
  narrow_var i m f = rw (room-Var, pattern_depth_of-Var) (omega arith)

  narrow_bounds : (bs : List PBound) (m : ℕ) → OfEachBody IsNarrow bs → IsTrue (all_pass (map few_of_bound bs)) →
      widest_at m (map (room_bound (wide_of v) v.values) bs) ≤ m + 14000 * (1 + greatest (map pattern_depth_of_bound bs))
  narrow_bounds [] m h f = omega arith
  narrow_bounds (b ∷ bs) m h f =
      let own : IsTrue (few_of_bound b) = grind (arith, common_steps) in
      let rest_few : IsTrue (all_pass (map few_of_bound bs)) = grind (arith, common_steps) in
      let parts = rw few_of_bound-is at own in
      let test : IsTrue (nat_le b.binders 8) = grind (arith, common_steps, parts) in
      let binders : b.binders ≤ 8 = grind (arith, nat_tests, test) in
      let body_few : IsTrue (few_of b.body) = grind (arith, common_steps, parts) in
      let here = h.0 (m + b.binders) body_few in
      let rest = narrow_bounds bs m h.1 rest_few in
      let wide = room_bound-is (wide_of v) v.values b m in
      let deep = pattern_depth_of_bound-is b in
      omega (arith, here, rest, wide, deep, binders)

  narrow_op : (o : Sym) (ps : List ParamPat) (bs : List PBound) → OfEachBody IsNarrow bs → IsNarrow (pat.Op o ps bs)
  narrow_op o ps bs h m f =
      let parts = rw few_of-Op at f in
      let bodies : IsTrue (all_pass (map few_of_bound bs)) = grind (arith, common_steps, parts) in
      rw (room-Op, pattern_depth_of-Op) (narrow_bounds bs m h bodies)

  narrow_args : (args : List Pattern) (m : ℕ) → OfEachArg IsNarrow args → IsTrue (all_pass (map few_of args)) →
      widest_at m (map (room (wide_of v) v.values) args) ≤ m + 14000 * greatest (map pattern_depth_of args)
  narrow_args [] m h f = omega arith
  narrow_args (a ∷ args) m h f =
      let k = both_true (few_of a) (all_pass (map few_of args)) f in
      let here = h.0 m k.0 in
      let rest = narrow_args args m h.1 k.1 in
      omega (arith, here, rest)

  narrow_meta : (n : Sym) (cs : List Sym) (args : List Pattern) → OfEachArg IsNarrow args → IsNarrow (pat.Meta n cs args)
  narrow_meta n cs args h m f =
      let parts = rw few_of-Meta at f in
      let cs_few : length cs ≤ 8 = grind (arith, nat_tests, common_steps, parts) in
      let args_few : length args ≤ 8 = grind (arith, nat_tests, common_steps, parts) in
      let each : IsTrue (all_pass (map few_of args)) = grind (arith, common_steps, parts) in
      let before = few-before cs cs_few in
      let value = tame-width (v.values.meta n) (wide_of v cs + length args) (tame.metas n) in
      let rest = narrow_args args m h each in
      rw (room-Meta, pattern_depth_of-Meta) (omega (arith, before, value, rest, args_few))

  narrow-pattern : (p : Pattern) → IsNarrow p
  narrow-pattern = each_pattern IsNarrow narrow_var narrow_op narrow_meta

  -- a row of terms that isn't longer than it may be
  narrow-row : (cs : List Sym) (args : List Pattern) (c j : ℕ) (ts : List Term) → length cs ≤ 8 → length args ≤ 8 → IsTrue (all_pass (map few_of args)) →
      All IsTameTerm ts → telescope_room v cs args c j ts ≤ c + 2 * (j + length ts) + 14000 + 14000 * greatest (map pattern_depth_of args)
  narrow-row cs args c j [] cs_few args_few each all =
      let before = few-before cs cs_few in
      let rest = narrow_args args (c + j) (of_each_arg IsNarrow narrow-pattern args) each in
      omega (arith, before, rest)
  narrow-row cs args c j (t ∷ ts) cs_few args_few each all =
      let before = few-before cs cs_few in
      let rest = narrow_args args (c + j) (of_each_arg IsNarrow narrow-pattern args) each in
      let value = tame-width t (wide_of v cs + length args + j) (all 0 t (omega arith)) in
      let later = narrow-row cs args c (suc j) ts cs_few args_few each (λ k d low. all (suc k) d (omega arith)) in
      omega (arith, before, rest, value, later, args_few)

  narrow-item : (i : Item) (m : ℕ) → IsTrue (few_of_item i) → IsTrue (is_shallow_item i) → item_room v i m ≤ m + 3000000
  narrow-item (Hyp p) m f shallow =
      let deep : pattern_depth_of p ≤ 200 = grind (arith, nat_tests, shallow) in
      let h = narrow-pattern p m f in
      omega (arith, deep, h)
  narrow-item (Ctx n cs args) m f shallow =
      let cs_few : length cs ≤ 8 = grind (arith, nat_tests, common_steps, f) in
      let args_few : length args ≤ 8 = grind (arith, nat_tests, common_steps, f) in
      let each : IsTrue (all_pass (map few_of args)) = grind (arith, common_steps, f) in
      let deep : 1 + greatest (map pattern_depth_of args) ≤ 200 = grind (arith, nat_tests, shallow) in
      let many = tame.many n in
      let h = narrow-row cs args m 0 (v.kept n) cs_few args_few each (tame.kept n) in
      omega (arith, deep, many, h)

  few-count : (i : Item) → item_count v i ≤ 200
  few-count (Hyp p) = omega arith
  few-count (Ctx n cs args) = tame.many n

  narrow-items : (is : List Item) (concl : Pattern) (m : ℕ) → IsTrue (list_all few_of_item is) → IsTrue (list_all is_shallow_item is) →
      IsTrue (few_of concl) → IsTrue (is_shallow_pattern concl) → items_room v is concl m ≤ m + 200 * length is + 3000000
  narrow-items [] concl m f shallow concl_few concl_shallow =
      let deep : pattern_depth_of concl ≤ 200 = grind (arith, nat_tests, concl_shallow) in
      let h = narrow-pattern concl m concl_few in
      omega (arith, deep, h)
  narrow-items (i ∷ is) concl m f shallow concl_few concl_shallow =
      let k = both_true (few_of_item i) (list_all few_of_item is) f in
      let d = both_true (is_shallow_item i) (list_all is_shallow_item is) shallow in
      let first = narrow-item i m k.0 d.0 in
      let count = few-count i in
      let rest = narrow-items is concl (m + item_count v i) k.1 d.1 concl_few concl_shallow in
      omega (arith, first, count, rest)

  pub narrow-schema : (s : Schema) → IsTrue (few_of_schema s) → IsTrue (is_shallow_schema s) → schema_room v s < 2 ^ 31
  narrow-schema s f shallow =
      let many : length s.items ≤ 200 = grind (arith, nat_tests, common_steps, f) in
      let items_few : IsTrue (list_all few_of_item s.items) = grind (arith, common_steps, f) in
      let concl_few : IsTrue (few_of s.concl) = grind (arith, common_steps, f) in
      let items_shallow : IsTrue (list_all is_shallow_item s.items) = grind (arith, common_steps, shallow) in
      let concl_shallow : IsTrue (is_shallow_pattern s.concl) = grind (arith, common_steps, shallow) in
      let h = narrow-items s.items s.concl 0 items_few items_shallow concl_few concl_shallow in
      omega (arith, many, h)

  pub narrow-term : (p : Pattern) → IsTrue (few_of p) → IsTrue (is_shallow_pattern p) → room (wide_of v) v.values p v.ambient < 2 ^ 31
  narrow-term p f shallow =
      let deep : pattern_depth_of p ≤ 200 = grind (arith, nat_tests, shallow) in
      let ambient = tame.ambient in
      let h = narrow-pattern p v.ambient f in
      omega (arith, deep, ambient, h)

tame-zero : IsTameTerm (Var 0)
tame-zero = record { few = few-Var 0; shallow = let e = depth-Var 0 in omega (arith, e) }

tame-found : (xs : List MetaVal) (name : Sym) → All (λ (x : MetaVal). IsTameTerm x.body) xs → IsTameTerm (body_or (find_meta xs name))
tame-found [] name all = tame-zero
tame-found (x ∷ xs) name all = go (nat_eq x.name.0 name.0) (all 0 x (omega arith)) (tame-found xs name (λ k d low. all (suc k) d (omega arith))) where
  go : (b : Bool) → IsTameTerm x.body → IsTameTerm (body_or (find_meta xs name)) → IsTameTerm (body_or (if b then Some x else find_meta xs name))
  go true here later = here
  go false here later = later

module _ (P : List Term → Type 0) (none : P []) where
  kept-found : (xs : List CtxVal) (name : Sym) → All (λ (x : CtxVal). P x.hyps) xs → P (kept_or (find_ctx xs name))
  kept-found [] name all = none
  kept-found (x ∷ xs) name all = go (nat_eq x.name.0 name.0) (all 0 x (omega arith)) (kept-found xs name (λ k d low. all (suc k) d (omega arith))) where
    go : (b : Bool) → P x.hyps → P (kept_or (find_ctx xs name)) → P (kept_or (if b then Some x else find_ctx xs name))
    go true here later = here
    go false here later = later

pub tame-entries : (i : Inst) → HasTameEntries i → IsTame (instance_of i)
tame-entries i h = record {
  ambient = h.ambient;
  metas = λ name. tame-found i.metas name h.metas;
  many = λ name. kept-found (λ ts. length ts ≤ 200) (omega arith) i.ctxs name h.many;
  kept = λ name. kept-found (λ ts. All IsTameTerm ts) (λ k d low. absurd (omega arith)) i.ctxs name h.kept;
}
