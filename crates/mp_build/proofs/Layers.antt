-- One level of the size, the depth and the room of an instance.
use Rattle.std.proofs.Common.{◌≡◌, ℕ, ◌+◌, List, length, map, max, sum, rules}
use Rattle.std.proofs.lemmas.List.{length-map}
use Rattle.mp_logic.specs.declared.sym.Sym.{Sym}
use Rattle.mp_logic.specs.Lists.{greatest}
use Rattle.mp_term.specs.Subst.{widest_of, widest_at}
use Rattle.mp_term.specs.Sizes.{sub_size, sub_depth}
use Rattle.mp_schema.specs.declared.pattern.ParamPat.{ParamPat}
use Rattle.mp_schema.specs.declared.pattern.Pattern.{Pattern, the_lemmas}
use Rattle.mp_schema.specs.declared.pattern.Pattern as pat
use Rattle.mp_schema.specs.declared.pattern.PBound.{PBound}
use Rattle.mp_schema.specs.Instances.{Values, Wide}
use Rattle.mp_build.specs.Rooms.{room, room_bound}
use Rattle.mp_build.specs.Sizes.{inst_size, inst_size_bound, inst_depth, inst_depth_bound, behind_ones}

module _ (wide : Wide) (v : Values) where
  pub inst_size-Var : (l : ℕ) → inst_size wide v (pat.Var l) ≡ 1
  inst_size-Var l = search (rules, the_lemmas)

  pub inst_size-Op : (o : Sym) (ps : List ParamPat) (subs : List PBound) → inst_size wide v (pat.Op o ps subs) ≡ 1 + sum (map (inst_size_bound wide v) subs)
  inst_size-Op o ps subs = search (rules, the_lemmas)

  pub inst_size-Meta : (n : Sym) (cs : List Sym) (args : List Pattern) →
      inst_size wide v (pat.Meta n cs args) ≡ sub_size (behind_ones (wide cs) (map (inst_size wide v) args)) (v.meta n)
  inst_size-Meta n cs args = search (rules, the_lemmas)

  pub inst_size_bound-is : (b : PBound) → inst_size_bound wide v b ≡ inst_size wide v b.body
  inst_size_bound-is b = search (rules, the_lemmas)

  pub inst_depth-Var : (l : ℕ) → inst_depth wide v (pat.Var l) ≡ 1
  inst_depth-Var l = search (rules, the_lemmas)

  pub inst_depth-Op : (o : Sym) (ps : List ParamPat) (subs : List PBound) → inst_depth wide v (pat.Op o ps subs) ≡ 1 + greatest (map (inst_depth_bound wide v) subs)
  inst_depth-Op o ps subs = search (rules, the_lemmas)

  pub inst_depth-Meta : (n : Sym) (cs : List Sym) (args : List Pattern) →
      inst_depth wide v (pat.Meta n cs args) ≡ sub_depth (behind_ones (wide cs) (map (inst_depth wide v) args)) (v.meta n)
  inst_depth-Meta n cs args = search (rules, the_lemmas)

  pub inst_depth_bound-is : (b : PBound) → inst_depth_bound wide v b ≡ inst_depth wide v b.body
  inst_depth_bound-is b = search (rules, the_lemmas)

  pub room-Var : (l m : ℕ) → room wide v (pat.Var l) m ≡ m
  room-Var l m = search (rules, the_lemmas)

  pub room-Op : (o : Sym) (ps : List ParamPat) (bs : List PBound) (m : ℕ) → room wide v (pat.Op o ps bs) m ≡ widest_at m (map (room_bound wide v) bs)
  room-Op o ps bs m = search (rules, the_lemmas)

  pub room-Meta : (n : Sym) (cs : List Sym) (args : List Pattern) (m : ℕ) →
      room wide v (pat.Meta n cs args) m ≡ widest_of (v.meta n) (wide cs + length args) + widest_at m (map (room wide v) args)
  room-Meta n cs args m =
      let many = length-map args (room wide v) in
      let e : room wide v (pat.Meta n cs args) m ≡ widest_of (v.meta n) (wide cs + length (map (room wide v) args)) + widest_at m (map (room wide v) args) = search (rules, the_lemmas) in
      rw many at e

  pub room_bound-is : (b : PBound) (m : ℕ) → room_bound wide v b m ≡ max (m + b.binders) (room wide v b.body (m + b.binders))
  room_bound-is b m = search (rules, the_lemmas)
