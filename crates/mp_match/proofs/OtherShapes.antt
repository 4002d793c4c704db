-- A pattern finds nothing in a term of another shape.
use Rattle.std.proofs.Common.{◌≡◌, ◌≢◌, ℕ, ◌+◌, ◌<◌, List, [], ◌∷◌, ◌++◌, length, map, get_or, zero, suc, Bool, true, false, nat_eq, Option, Some, None, option_and_then, if◌then◌else◌, refl, ◌∙◌, arith}
use Rattle.std.proofs.lemmas.Bool.Decides.{nat_tests}
use Rattle.std.proofs.lemmas.List.{length-map}
use Rattle.mp_logic.specs.declared.sym.Sym.{Sym}
use Rattle.mp_term.specs.declared.term.Param.{Param}
use Rattle.mp_term.specs.declared.term.Term.{Term, Op}
use Rattle.mp_term.specs.declared.term.Bound.{Bound}
use Rattle.mp_term.specs.declared.sequent.Sequent.{Sequent}
use Rattle.mp_schema.specs.declared.pattern.ParamPat.{ParamPat}
use Rattle.mp_schema.specs.declared.pattern.Pattern.{Pattern}
use Rattle.mp_schema.specs.declared.pattern.PBound.{PBound}
use Rattle.mp_schema.specs.declared.pattern.Pattern as pat
use Rattle.mp_schema.specs.declared.schema.Schema.{Schema}
use Rattle.mp_match.specs.declared.place.Walk.{Walk}
use Rattle.mp_match.specs.declared.sizes.Sizes.{Sizes}
use Rattle.mp_match.specs.Shapes.{FindsNothing, FindNothing}
use Rattle.mp_schema.specs.Instances.{Ground}
use Rattle.mp_term.specs.Subst.{upto}
use Rattle.mp_match.specs.declared.place.Found.{Found}
use Rattle.mp_match.specs.Matching.{matcher_bound, params_found}
use Rattle.mp_match.specs.Places.{ground_of, levels_at}
use Rattle.mp_match.specs.Walks.{sizes_of, items_found, first_walk, concl_found, match_of}
use Rattle.mp_term.proofs.Layers.{out-Op}
use Rattle.mp_match.proofs.Layers.{finds-Op, finds_bound-is}
use Rattle.mp_match.proofs.Steps.{all_none, all-length}

-- ## Bodies

-- whatever is found before, the body finds nothing
abbrev pub BodyFindsNothing : PBound → Bound → Type 0
BodyFindsNothing b x = (g : Ground) (levels : List ℕ) (m : ℕ) (f : Found) → (matcher_bound g b).finds levels m x f ≡ None

if-none : (c : Bool) (o : Option Found) → o ≡ None → (if c then o else None) ≡ None
if-none true o h = h
if-none false o h = refl

pub nothing-under-others : (b : PBound) (x : Bound) → b.binders ≢ x.binders → BodyFindsNothing b x
nothing-under-others b x ne g levels m f = let e : nat_eq b.binders x.binders ≡ false = grind (arith, nat_tests) in rw (finds_bound-is, e) refl

pub nothing-in-body : (b : PBound) (x : Bound) → FindsNothing b.body x.body → BodyFindsNothing b x
nothing-in-body b x h g levels m f =
    let e = h g (levels ++ upto m b.binders) (m + b.binders) f in
    finds_bound-is g b levels m x f ∙ if-none (nat_eq b.binders x.binders) _ e

pub nothing-in-more : (subs : List PBound) (bodies : List Bound) → length subs ≢ length bodies → FindNothing subs bodies
nothing-in-more subs bodies ne g levels m f =
    let e = length-map subs (matcher_bound g) in
    all-length (map (matcher_bound g) subs) levels m bodies f (λ same. ne (omega (arith, e, same)))

pub nothing-at : (subs : List PBound) (bodies : List Bound) (i : ℕ) (b : PBound) (x : Bound) → i < length subs → i < length bodies → b ≡ get_or subs i b → x ≡ get_or bodies i x →
    BodyFindsNothing b x → FindNothing subs bodies
nothing-at [] bodies i b x low low' isb isx h g levels m f = absurd (omega arith)
nothing-at (c ∷ subs) [] i b x low low' isb isx h g levels m f = absurd (omega arith)
nothing-at (c ∷ subs) (y ∷ bodies) zero b x low low' isb isx h g levels m f =
    let e : (matcher_bound g c).finds levels m y f ≡ None = rw (isb, isx) at (h g levels m f) in rw e refl
nothing-at (c ∷ subs) (y ∷ bodies) (suc i) b x low low' isb isx h g levels m f =
    all_none (map (matcher_bound g) subs) levels m bodies (λ f'. nothing-at subs bodies i b x (omega arith) (omega arith) isb isx h g levels m f') ((matcher_bound g c).finds levels m y f)

pub nothing-in-bodies : (p : Pattern) (t : Term) (o : Sym) (ps : List ParamPat) (subs : List PBound) (x : Sym) (qs : List Param) (bs : List Bound) → p ≡ pat.Op o ps subs → t ≡ Op x qs bs →
    FindNothing subs bs → FindsNothing p t
nothing-in-bodies p t o ps subs x qs bs isp ist h g levels m f =
    let both = all_none (map (matcher_bound g) subs) levels m bs (λ f'. h g levels m f') (params_found ps qs f) in
    rw (isp, ist, finds-Op, out-Op) (if-none (nat_eq o.0 x.0) _ both)

-- ## Goals

module _ (s : Schema) (first : Option ℕ) (goal : Sequent) (nothing : FindsNothing s.concl goal.concl) where
  no_concl : (w : Walk) → concl_found s.concl goal.concl w ≡ None
  no_concl w = let e = nothing (ground_of w.place) (levels_at w.place w.place.next) w.place.next w.found in rw e refl

  no_walk : (o : Option Walk) → option_and_then (concl_found s.concl goal.concl) o ≡ None
  no_walk None = refl
  no_walk (Some w) = no_concl w

  no_sizes : (o : Option Sizes) → option_and_then (λ (sizes : Sizes). option_and_then (concl_found s.concl goal.concl) (items_found sizes goal.hyps s.items first_walk)) o ≡ None
  no_sizes None = refl
  no_sizes (Some sizes) = no_walk (items_found sizes goal.hyps s.items first_walk)

  -- a conclusion that finds nothing gives no match
  pub no-match : match_of s first goal ≡ None
  no-match = no_sizes (sizes_of s.items first (length goal.hyps))
