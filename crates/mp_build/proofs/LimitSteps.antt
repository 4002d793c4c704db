-- Steps of weighing: what is known of the parts, and so of the whole.
use Rattle.std.proofs.Common.{◌≡◌, ℕ, ◌+◌, ◌<◌, List, [], ◌∷◌, ◌++◌, length, map, get_or, drop, max, sum, IsTrue, Err, refl, sym, ap, ◌∙◌, append_assoc, arith}
use Rattle.std.specs.Prelude.{if◌then◌else◌}
use Rattle.std.proofs.lemmas.Grind.{common_steps}
use Rattle.std.proofs.lemmas.List.{map-append, get_or-map}
use Rattle.mp_term.specs.declared.measure.Weight.{Weight}
use Rattle.mp_term.specs.declared.term.Term.{Term}
use Rattle.mp_logic.specs.Lists.{greatest}
use Rattle.mp_term.specs.Subst.{occurs_in}
use Rattle.mp_term.specs.Sizes.{sub_size, sub_depth}
use Rattle.mp_term.proofs.SubLaws.{drop-at}
use Rattle.mp_schema.specs.declared.pattern.Pattern.{Pattern}
use Rattle.mp_schema.specs.declared.pattern.PBound.{PBound}
use Rattle.mp_schema.specs.Instances.{Values, Wide}
use Rattle.mp_schema.specs.Sequents.{Instance, wide_of}
use Rattle.mp_build.specs.declared.error.BuildErr.{BuildErr}
use Rattle.mp_build.specs.declared.error.BuildErr.TheVariants.{TooLarge, NoMemory}
use Rattle.mp_build.specs.Sizes.{inst_size, inst_size_bound, inst_depth, inst_depth_bound, behind_ones, used_from, IsOver, IsWeighing, AreWeighed}
use Rattle.mp_build.proofs.Layers.{inst_size_bound-is, inst_depth_bound-is}
use Rattle.mp_build.proofs.Used.{part_size, part_depth, at_behind, same_size, same_depth, used_agree}

-- a refusal of a part is one of the whole
pub part_refused : (s d size depth : ℕ) (e : BuildErr) → IsWeighing s d (Err e) → (IsOver s d → IsOver size depth) → IsWeighing size depth (Err e)
part_refused s d size depth TooLarge over up = up over
part_refused s d size depth NoMemory over up = tt

-- numbers of a row from place i on
pub row-first : {X : Type 0} (f : X → ℕ) (xs : List X) (i : ℕ) (x : X) → i < length xs → x ≡ get_or xs i x →
    (sum (map f (drop i xs)) ≡ f x + sum (map f (drop (i + 1) xs))) × (greatest (map f (drop i xs)) ≡ max (f x) (greatest (map f (drop (i + 1) xs))))
row-first f xs i x low is =
    let next = drop-at xs i x low is in
    let e : sum (map f (x ∷ drop (i + 1) xs)) ≡ f x + sum (map f (drop (i + 1) xs)) = grind (arith, common_steps) in
    (rw next e, rw next refl)

module _ (wide : Wide) (v : Values) where
  pub bodies-first : (bs : List PBound) (i : ℕ) (b : PBound) → i < length bs → b ≡ get_or bs i b →
      (sum (map (inst_size_bound wide v) (drop i bs)) ≡ inst_size wide v b.body + sum (map (inst_size_bound wide v) (drop (i + 1) bs))) ×
      (greatest (map (inst_depth_bound wide v) (drop i bs)) ≡ max (inst_depth wide v b.body) (greatest (map (inst_depth_bound wide v) (drop (i + 1) bs))))
  bodies-first bs i b low is =
      let sizes = row-first (inst_size_bound wide v) bs i b low is in
      let depths = row-first (inst_depth_bound wide v) bs i b low is in
      (rw inst_size_bound-is at sizes.0, rw inst_depth_bound-is at depths.1)

-- the arguments that are used, by one more
pub used-pushed : (f : Pattern → ℕ) (g : Weight → ℕ) (t : Term) (args : List Pattern) (level next i : ℕ) (a : Pattern) (start : List ℕ) (made more : List Weight) (w : Weight) →
    i < length args → a ≡ get_or args i a → g w ≡ (if occurs_in level t then f a else 1) → more ≡ made ++ w ∷ [] → next ≡ level + 1 →
    map g made ++ used_from f t level (drop i args) ≡ start → map g more ++ used_from f t next (drop (i + 1) args) ≡ start
used-pushed f g t args level next i a start made more w low is weighed pushed moved done =
    let left = drop-at args i a low is in
    let done' = rw left at done in
    rw (pushed, moved, map-append, weighed, append_assoc) done'

module _ (v : Instance) (t : Term) (before : ℕ) (args : List Pattern) where
  pub args_refused : (s d : ℕ) (e : BuildErr) → IsWeighing s d (Err e) →
      (IsOver s d → IsOver (sub_size (behind_ones before (map (inst_size (wide_of v) v.values) args)) t) (sub_depth (behind_ones before (map (inst_depth (wide_of v) v.values) args)) t)) →
      AreWeighed v t before args (Err e)
  args_refused s d TooLarge over up = up over
  args_refused s d NoMemory over up = tt

  -- an argument that is used and over a limit makes the term so
  pub used_over : (i : ℕ) (a : Pattern) → i < length args → a ≡ get_or args i a → IsTrue (occurs_in (before + i) t) →
      IsOver (inst_size (wide_of v) v.values a) (inst_depth (wide_of v) v.values a) →
      IsOver (sub_size (behind_ones before (map (inst_size (wide_of v) v.values) args)) t) (sub_depth (behind_ones before (map (inst_depth (wide_of v) v.values) args)) t)
  used_over i a low is stands over =
      let sizes : List ℕ = map (inst_size (wide_of v) v.values) args in
      let depths : List ℕ = map (inst_depth (wide_of v) v.values) args in
      let size_at = get_or-map (inst_size (wide_of v) v.values) args i a 1 low in
      let depth_at = get_or-map (inst_depth (wide_of v) v.values) args i a 1 low in
      let size_is : get_or (behind_ones before sizes) (before + i) 1 ≡ inst_size (wide_of v) v.values a = at_behind (inst_size (wide_of v) v.values) t before sizes i ∙ size_at ∙ ap (inst_size (wide_of v) v.values) (sym is) in
      let depth_is : get_or (behind_ones before depths) (before + i) 1 ≡ inst_depth (wide_of v) v.values a = at_behind (inst_size (wide_of v) v.values) t before depths i ∙ depth_at ∙ ap (inst_depth (wide_of v) v.values) (sym is) in
      let larger = part_size (behind_ones before sizes) (before + i) t stands in
      let deeper = part_depth (behind_ones before depths) (before + i) t stands in
      λ small. omega (arith, over, size_is, depth_is, larger, deeper)

  -- weights of the used arguments serve for all of them
  pub used_serve : (sizes depths : List ℕ) → sizes ≡ used_from (inst_size (wide_of v) v.values) t before args → depths ≡ used_from (inst_depth (wide_of v) v.values) t before args →
      (sub_size (behind_ones before sizes) t ≡ sub_size (behind_ones before (map (inst_size (wide_of v) v.values) args)) t) ×
      (sub_depth (behind_ones before depths) t ≡ sub_depth (behind_ones before (map (inst_depth (wide_of v) v.values) args)) t)
  used_serve sizes depths is is' =
      (rw is (same_size _ _ t (used_agree (inst_size (wide_of v) v.values) t before args)), rw is' (same_depth _ _ t (used_agree (inst_depth (wide_of v) v.values) t before args)))
