-- The size and the depth computed from a pattern are those of its instance.
use Rattle.std.proofs.Common.{◌≡◌, ℕ, ◌+◌, List, [], ◌∷◌, ◌++◌, length, map, get_or, zero, suc, sum, replicate, refl, arith}
use Rattle.std.proofs.lemmas.Grind.{common_steps}
use Rattle.std.proofs.lemmas.List.{map-append}
use Rattle.mp_logic.specs.declared.sym.Sym.{Sym}
use Rattle.mp_term.specs.declared.term.Term.{Var}
use Rattle.mp_term.specs.Terms.{size_of, depth_of}
use Rattle.mp_logic.specs.Lists.{greatest}
use Rattle.mp_term.proofs.Layers.{size_bound, size-Var, size-Op, size_bound-is, depth_bound, depth-Var, depth-Op, depth_bound-is}
use Rattle.mp_term.specs.Subst.{variables, upto}
use Rattle.mp_term.proofs.SizeLaws.{size-sub, depth-sub}
use Rattle.mp_schema.specs.declared.pattern.ParamPat.{ParamPat}
use Rattle.mp_schema.specs.declared.pattern.Pattern.{Pattern}
use Rattle.mp_schema.specs.declared.pattern.Pattern as pat
use Rattle.mp_schema.specs.declared.pattern.PBound.{PBound}
use Rattle.mp_schema.specs.Induction.{OfEachBody, OfEachArg, each_pattern, of_each_arg}
use Rattle.mp_schema.specs.Instances.{Values, Ground, Wide, inst_of, inst_bound, made_each}
use Rattle.mp_schema.proofs.Layers.{inst-Var, inst-Op, inst-Meta, inst_bound-is}
use Rattle.mp_build.specs.Sizes.{inst_size, inst_size_bound, inst_depth, inst_depth_bound, behind_ones}
use Rattle.mp_build.proofs.Layers.{inst_size-Var, inst_size-Op, inst_size-Meta, inst_size_bound-is, inst_depth-Var, inst_depth-Op, inst_depth-Meta, inst_depth_bound-is}
use Rattle.mp_build.proofs.Grounds.{variables-are}

-- variables have size and depth 1
pub sizes-levels : (levels : List ℕ) → map size_of (map Var levels) ≡ replicate (length levels) 1
sizes-levels [] = refl
sizes-levels (l ∷ levels) = rw (size-Var, sizes-levels levels) refl

pub depths-levels : (levels : List ℕ) → map depth_of (map Var levels) ≡ replicate (length levels) 1
depths-levels [] = refl
depths-levels (l ∷ levels) = rw (depth-Var, depths-levels levels) refl

size-at : (levels : List ℕ) (i j : ℕ) → size_of (get_or (map Var levels) i (Var j)) ≡ 1
size-at [] i j = size-Var j
size-at (l ∷ levels) zero j = size-Var l
size-at (l ∷ levels) (suc i) j = size-at levels i j

depth-at : (levels : List ℕ) (i j : ℕ) → depth_of (get_or (map Var levels) i (Var j)) ≡ 1
depth-at [] i j = depth-Var j
depth-at (l ∷ levels) zero j = depth-Var l
depth-at (l ∷ levels) (suc i) j = depth-at levels i j

module _ (before : Ground) (wide : Wide) (many : (cs : List Sym) → length (before cs) ≡ wide cs) (v : Values) where
  longer : (levels : List ℕ) (m k : ℕ) → map Var levels ++ variables m k ≡ map Var (levels ++ upto m k)
  longer levels m k = rw (variables-are, map-append) refl

  abbrev IsSized : Pattern → Type 0
  IsSized p = (levels : List ℕ) (m : ℕ) → size_of (inst_of before v p (map Var levels) m) ≡ inst_size wide v p

  sized_var : (i : ℕ) → IsSized (pat.Var i)
  sized_var i levels m = rw (inst-Var, inst_size-Var) (size-at levels i i)

  sized_bounds : (bs : List PBound) (levels : List ℕ) (m : ℕ) → OfEachBody IsSized bs →
      sum (map size_bound (made_each (map (inst_bound before v) bs) (map Var levels) m)) ≡ sum (map (inst_size_bound wide v) bs)
  sized_bounds [] levels m h = refl
  sized_bounds (b ∷ bs) levels m h =
      let first : size_bound (inst_bound before v b (map Var levels) m) ≡ inst_size_bound wide v b =
      rw (inst_bound-is, size_bound-is, longer levels m b.binders, inst_size_bound-is) (h.0 (levels ++ upto m b.binders) (m + b.binders)) in
      let rest = sized_bounds bs levels m h.1 in grind (arith, common_steps, first, rest)

  sized_op : (o : Sym) (ps : List ParamPat) (bs : List PBound) → OfEachBody IsSized bs → IsSized (pat.Op o ps bs)
  sized_op o ps bs h levels m = rw (inst-Op, size-Op, inst_size-Op, sized_bounds bs levels m h) refl

  sized_args : (args : List Pattern) (levels : List ℕ) (m : ℕ) → OfEachArg IsSized args →
      map size_of (made_each (map (inst_of before v) args) (map Var levels) m) ≡ map (inst_size wide v) args
  sized_args [] levels m h = refl
  sized_args (a ∷ args) levels m h = rw (h.0 levels m, sized_args args levels m h.1) refl

  -- the sizes of the terms that a value's variables stand for
  sizes_terms : (cs : List Sym) (args : List Pattern) (levels : List ℕ) (m : ℕ) → OfEachArg IsSized args →
      map size_of (map Var (before cs) ++ made_each (map (inst_of before v) args) (map Var levels) m) ≡ behind_ones (wide cs) (map (inst_size wide v) args)
  sizes_terms cs args levels m h =
      rw (map-append size_of (map Var (before cs)) (made_each (map (inst_of before v) args) (map Var levels) m), sizes-levels, many cs, sized_args args levels m h) refl

  sized_meta : (n : Sym) (cs : List Sym) (args : List Pattern) → OfEachArg IsSized args → IsSized (pat.Meta n cs args)
  sized_meta n cs args h levels m = rw (inst-Meta, size-sub, inst_size-Meta, sizes_terms cs args levels m h) refl

  pub size-inst : (p : Pattern) → IsSized p
  size-inst = each_pattern IsSized sized_var sized_op sized_meta

  abbrev IsDeep : Pattern → Type 0
  IsDeep p = (levels : List ℕ) (m : ℕ) → depth_of (inst_of before v p (map Var levels) m) ≡ inst_depth wide v p

  deep_var : (i : ℕ) → IsDeep (pat.Var i)
  deep_var i levels m = rw (inst-Var, inst_depth-Var) (depth-at levels i i)

  deep_bounds : (bs : List PBound) (levels : List ℕ) (m : ℕ) → OfEachBody IsDeep bs →
      greatest (map depth_bound (made_each (map (inst_bound before v) bs) (map Var levels) m)) ≡ greatest (map (inst_depth_bound wide v) bs)
  deep_bounds [] levels m h = refl
  deep_bounds (b ∷ bs) levels m h =
      let first : depth_bound (inst_bound before v b (map Var levels) m) ≡ inst_depth_bound wide v b =
      rw (inst_bound-is, depth_bound-is, longer levels m b.binders, inst_depth_bound-is) (h.0 (levels ++ upto m b.binders) (m + b.binders)) in
      let rest = deep_bounds bs levels m h.1 in rw (first, rest) refl

  deep_op : (o : Sym) (ps : List ParamPat) (bs : List PBound) → OfEachBody IsDeep bs → IsDeep (pat.Op o ps bs)
  deep_op o ps bs h levels m = rw (inst-Op, depth-Op, inst_depth-Op, deep_bounds bs levels m h) refl

  deep_args : (args : List Pattern) (levels : List ℕ) (m : ℕ) → OfEachArg IsDeep args →
      map depth_of (made_each (map (inst_of before v) args) (map Var levels) m) ≡ map (inst_depth wide v) args
  deep_args [] levels m h = refl
  deep_args (a ∷ args) levels m h = rw (h.0 levels m, deep_args args levels m h.1) refl

  -- the depths of the terms that a value's variables stand for
  depths_terms : (cs : List Sym) (args : List Pattern) (levels : List ℕ) (m : ℕ) → OfEachArg IsDeep args →
      map depth_of (map Var (before cs) ++ made_each (map (inst_of before v) args) (map Var levels) m) ≡ behind_ones (wide cs) (map (inst_depth wide v) args)
  depths_terms cs args levels m h =
      rw (map-append depth_of (map Var (before cs)) (made_each (map (inst_of before v) args) (map Var levels) m), depths-levels, many cs, deep_args args levels m h) refl

  deep_meta : (n : Sym) (cs : List Sym) (args : List Pattern) → OfEachArg IsDeep args → IsDeep (pat.Meta n cs args)
  deep_meta n cs args h levels m = rw (inst-Meta, depth-sub, inst_depth-Meta, depths_terms cs args levels m h) refl

  pub depth-inst : (p : Pattern) → IsDeep p
  depth-inst = each_pattern IsDeep deep_var deep_op deep_meta

  pub sizes-terms : (cs : List Sym) (args : List Pattern) (levels : List ℕ) (m : ℕ) →
      map size_of (map Var (before cs) ++ made_each (map (inst_of before v) args) (map Var levels) m) ≡ behind_ones (wide cs) (map (inst_size wide v) args)
  sizes-terms cs args levels m = sizes_terms cs args levels m (of_each_arg IsSized size-inst args)

  pub depths-terms : (cs : List Sym) (args : List Pattern) (levels : List ℕ) (m : ℕ) →
      map depth_of (map Var (before cs) ++ made_each (map (inst_of before v) args) (map Var levels) m) ≡ behind_ones (wide cs) (map (inst_depth wide v) args)
  depths-terms cs args levels m = depths_terms cs args levels m (of_each_arg IsDeep depth-inst args)
