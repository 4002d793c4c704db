-- The number, the sizes and the depths computed from a schema are those of the sequent that it makes.
use Rattle.std.proofs.Common.{Err, ◌≡◌, ℕ, ◌+◌, List, [], ◌∷◌, ◌++◌, length, map, get_or, zero, suc, max, sum, replicate, refl, arith}
use Rattle.std.specs.Prelude.{sum_by, Bool, true, false, ◌&&◌, nat_le}
use Rattle.std.specs.List.{list_all}
use Rattle.std.proofs.lemmas.Bool.Decides.{nat_tests}
use Rattle.std.proofs.lemmas.Grind.{common_steps}
use Rattle.std.proofs.lemmas.List.{map-append, length-append}
use Rattle.std.proofs.lemmas.List.Sums.{sum_by-append}
use Rattle.mp_logic.specs.declared.sym.Sym.{Sym}
use Rattle.mp_term.specs.declared.term.Term.{Term, Var}
use Rattle.mp_term.specs.Terms.{size_of, depth_of}
use Rattle.mp_logic.specs.Lists.{greatest}
use Rattle.mp_term.specs.Limits.{is_shallow, within_limits_of}
use Rattle.mp_term.specs.Subst.{variables, sub_of}
use Rattle.mp_term.specs.Sizes.{sub_size, sub_depth}
use Rattle.mp_term.proofs.SizeLaws.{size-sub, depth-sub}
use Rattle.mp_schema.specs.declared.pattern.Pattern.{Pattern}
use Rattle.mp_schema.specs.declared.schema.Item.{Item}
use Rattle.mp_schema.specs.declared.schema.Item.TheVariants.{Ctx, Hyp}
use Rattle.mp_schema.specs.declared.schema.Schema.{Schema}
use Rattle.mp_schema.specs.Instances.{inst_of, made_each}
use Rattle.mp_schema.specs.Sequents.{Instance, Spot, first_spot, ground_at, wide_of, telescope, hyps_of, behind, hyps_from, behind_all, seq}
use Rattle.mp_build.specs.declared.error.BuildErr.{BuildErr}
use Rattle.mp_build.specs.declared.error.BuildErr.TheVariants.{TooLarge, NoMemory}
use Rattle.mp_build.specs.Built.{IsChecked}
use Rattle.mp_build.specs.Sizes.{behind_ones, IsWeighing, inst_size, inst_depth, item_count, item_size, item_depth, schema_count, schema_size, schema_depth}
use Rattle.mp_build.proofs.Grounds.{variables-are}
use Rattle.mp_schema.proofs.Rows.{wide-ground, telescope-length}
use Rattle.mp_term.proofs.Ranges.{length-upto}
use Rattle.mp_build.proofs.Used.{same_size, same_depth}
use Rattle.mp_build.proofs.Weighed.{size-inst, depth-inst, sizes-terms, depths-terms, sizes-levels, depths-levels}

with_ones : (xs : List ℕ) (k i : ℕ) → get_or (xs ++ replicate k 1) i 1 ≡ get_or xs i 1
with_ones [] zero i = refl
with_ones [] (suc k) zero = refl
with_ones [] (suc k) (suc i) = with_ones [] k i
with_ones (x ∷ xs) k zero = refl
with_ones (x ∷ xs) k (suc i) = with_ones xs k i

module _ (v : Instance) where
  module _ (l : Spot) (cs : List Sym) (args : List Pattern) where
    -- the terms that the variables of a context's hypothesis stand for
    abbrev terms : ℕ → List Term
    terms j = map Var (ground_at v l.pos cs) ++ made_each (map (inst_of (ground_at v l.pos) v.values) args) (map Var l.env) (l.next + j) ++ variables l.next j

    sizes-row : (j : ℕ) → map size_of (terms j) ≡ behind_ones (wide_of v cs) (map (inst_size (wide_of v) v.values) args) ++ replicate j 1
    sizes-row j =
        let fore = sizes-terms (ground_at v l.pos) (wide_of v) (wide-ground v l.pos) v.values cs args l.env (l.next + j) in
        let aft : map size_of (variables l.next j) ≡ replicate j 1 = rw (variables-are, sizes-levels, length-upto) refl in
        rw (map-append size_of (map Var (ground_at v l.pos cs) ++ made_each (map (inst_of (ground_at v l.pos) v.values) args) (map Var l.env) (l.next + j)) (variables l.next j), fore, aft) refl

    depths-row : (j : ℕ) → map depth_of (terms j) ≡ behind_ones (wide_of v cs) (map (inst_depth (wide_of v) v.values) args) ++ replicate j 1
    depths-row j =
        let fore = depths-terms (ground_at v l.pos) (wide_of v) (wide-ground v l.pos) v.values cs args l.env (l.next + j) in
        let aft : map depth_of (variables l.next j) ≡ replicate j 1 = rw (variables-are, depths-levels, length-upto) refl in
        rw (map-append depth_of (map Var (ground_at v l.pos cs) ++ made_each (map (inst_of (ground_at v l.pos) v.values) args) (map Var l.env) (l.next + j)) (variables l.next j), fore, aft) refl

    size-telescope : (j : ℕ) (ts : List Term) → sum_by size_of (telescope v l cs args l.next j ts)
        ≡ sum (map (sub_size (behind_ones (wide_of v cs) (map (inst_size (wide_of v) v.values) args))) ts)
    size-telescope j [] = refl
    size-telescope j (t ∷ ts) =
        let xs : List ℕ = behind_ones (wide_of v cs) (map (inst_size (wide_of v) v.values) args) in
        let first : size_of (sub_of t (terms j) (l.next + j)) ≡ sub_size xs t = rw (size-sub, sizes-row j) (same_size (xs ++ replicate j 1) xs t (λ i stands. with_ones xs j i)) in
        let rest = size-telescope (suc j) ts in
        grind (arith, common_steps, first, rest)

    depth-telescope : (j : ℕ) (ts : List Term) → greatest (map depth_of (telescope v l cs args l.next j ts))
        ≡ greatest (map (sub_depth (behind_ones (wide_of v cs) (map (inst_depth (wide_of v) v.values) args))) ts)
    depth-telescope j [] = refl
    depth-telescope j (t ∷ ts) =
        let xs : List ℕ = behind_ones (wide_of v cs) (map (inst_depth (wide_of v) v.values) args) in
        let first : depth_of (sub_of t (terms j) (l.next + j)) ≡ sub_depth xs t = rw (depth-sub, depths-row j) (same_depth (xs ++ replicate j 1) xs t (λ i stands. with_ones xs j i)) in
        rw (first, depth-telescope (suc j) ts) refl

  pub length-item : (i : Item) (l : Spot) → length (hyps_of v i l) ≡ item_count v i
  length-item (Hyp p) l = refl
  length-item (Ctx n cs args) l = telescope-length v l cs args l.next 0 (v.kept n)

  size-item : (i : Item) (l : Spot) → sum_by size_of (hyps_of v i l) ≡ item_size v i
  size-item (Hyp p) l =
      let e = size-inst (ground_at v l.pos) (wide_of v) (wide-ground v l.pos) v.values p l.env l.next in
      grind (arith, common_steps, e)
  size-item (Ctx n cs args) l = size-telescope l cs args 0 (v.kept n)

  depth-item : (i : Item) (l : Spot) → greatest (map depth_of (hyps_of v i l)) ≡ item_depth v i
  depth-item (Hyp p) l =
      let e = depth-inst (ground_at v l.pos) (wide_of v) (wide-ground v l.pos) v.values p l.env l.next in
      rw e (omega arith)
  depth-item (Ctx n cs args) l = depth-telescope l cs args 0 (v.kept n)

  pub length-hyps : (is : List Item) (l : Spot) → length (hyps_from v is l) ≡ sum (map (item_count v) is)
  length-hyps [] l = refl
  length-hyps (i ∷ is) l =
      let first = length-item i l in
      let rest = length-hyps is (behind v i l) in
      let both = length-append (hyps_of v i l) (hyps_from v is (behind v i l)) in
      grind (arith, common_steps, first, rest, both)

  size-hyps : (is : List Item) (l : Spot) → sum_by size_of (hyps_from v is l) ≡ sum (map (item_size v) is)
  size-hyps [] l = refl
  size-hyps (i ∷ is) l =
      let first = size-item i l in
      let rest = size-hyps is (behind v i l) in
      let both = sum_by-append size_of (hyps_of v i l) (hyps_from v is (behind v i l)) in
      grind (arith, common_steps, first, rest, both)

  greatest-append : (xs ys : List ℕ) → greatest (xs ++ ys) ≡ max (greatest xs) (greatest ys)
  greatest-append [] ys = omega arith
  greatest-append (x ∷ xs) ys = omega (arith, greatest-append xs ys)

  depth-hyps : (is : List Item) (l : Spot) → greatest (map depth_of (hyps_from v is l)) ≡ greatest (map (item_depth v) is)
  depth-hyps [] l = refl
  depth-hyps (i ∷ is) l =
      rw (map-append depth_of (hyps_of v i l) (hyps_from v is (behind v i l)), greatest-append, depth-item i l, depth-hyps is (behind v i l)) refl

  le-max : (a b : ℕ) → nat_le (max a b) 200 ≡ (nat_le a 200 && nat_le b 200)
  le-max a b = grind (arith, nat_tests)

  all_shallow-is : (ts : List Term) → list_all is_shallow ts ≡ nat_le (greatest (map depth_of ts)) 200
  all_shallow-is [] = refl
  all_shallow-is (t ∷ ts) = let rest = all_shallow-is ts in let both = le-max (depth_of t) (greatest (map depth_of ts)) in grind (arith, common_steps, rest, both)

  inner_and : (a b c d : Bool) → (a && b && c && d) ≡ (a && (b && c) && d)
  inner_and true b c d = refl
  inner_and false b c d = refl

  -- the limits, by what is computed
  pub limits-seq : (s : Schema) → within_limits_of (seq v s) ≡ (nat_le (schema_count v s) 200 && nat_le (schema_depth v s) 200 && nat_le (schema_size v s) 20000)
  limits-seq s =
      let end = behind_all v s.items first_spot in
      let many = length-hyps s.items first_spot in
      let sizes = size-hyps s.items first_spot in
      let depths = depth-hyps s.items first_spot in
      let size = size-inst (ground_at v end.pos) (wide_of v) (wide-ground v end.pos) v.values s.concl end.env end.next in
      let depth = depth-inst (ground_at v end.pos) (wide_of v) (wide-ground v end.pos) v.values s.concl end.env end.next in
      let shallow = all_shallow-is (hyps_from v s.items first_spot) in
      rw (shallow, many, sizes, depths, size, depth, le-max) (
      inner_and (nat_le (schema_count v s) 200) (nat_le (greatest (map (item_depth v) s.items)) 200) (nat_le (inst_depth (wide_of v) v.values s.concl) 200) (nat_le (schema_size v s) 20000)
      )

  -- a refusal of the weights is one of the sequent
  pub schema_over : (s : Schema) (e : BuildErr) → IsWeighing (schema_size v s) (schema_depth v s) (Err e) → IsChecked (within_limits_of (seq v s)) (Err e)
  schema_over s TooLarge over = let e = limits-seq s in rw e (grind (arith, nat_tests, common_steps, over))
  schema_over s NoMemory over = tt
