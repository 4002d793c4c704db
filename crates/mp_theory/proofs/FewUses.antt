-- A rule without a fault has few arguments at each use.
use Rattle.std.proofs.Common.{◌≡◌, ◌≤◌, List, [], ◌∷◌, map, length, true, Bool, ◌&&◌, sym, ◌∙◌, arith}
use Rattle.std.specs.Prelude.{nat_le}
use Rattle.std.specs.List.{AllPass}
use Rattle.std.proofs.lemmas.Bool.Decides.{nat_tests}
use Rattle.std.proofs.lemmas.List.Elements.{All-nil, All-cons}
use Rattle.mp_logic.specs.declared.sym.Sym.{Sym}
use Rattle.mp_schema.specs.declared.pattern.Pattern.{Pattern}
use Rattle.mp_schema.specs.declared.pattern.Pattern as pat
use Rattle.mp_schema.specs.declared.pattern.ParamPat.{ParamPat}
use Rattle.mp_schema.specs.declared.pattern.PBound.{PBound}
use Rattle.mp_schema.specs.Instances.{all_pass}
use Rattle.mp_schema.specs.Limits.{few_of, few_of_bound}
use Rattle.mp_schema.proofs.Agreeing.{and_both}
use Rattle.mp_schema.proofs.Layers.{few_of-Op, few_of-Meta}

pub each_few : {X : Type 0} (f : X → Bool) (xs : List X) → all_pass (map f xs) ≡ true → AllPass f xs
each_few f [] e = All-nil (λ x. f x ≡ true)
each_few f (x ∷ xs) e = let both = and_both (f x) (all_pass (map f xs)) e in All-cons (λ y. f y ≡ true) x xs both.0 (each_few f xs both.1)

pub few_bodies : (o : Sym) (ps : List ParamPat) (subs : List PBound) → few_of (pat.Op o ps subs) ≡ true → AllPass few_of_bound subs
few_bodies o ps subs e = each_few few_of_bound subs (and_both _ (all_pass (map few_of_bound subs)) (sym (few_of-Op o ps subs) ∙ e)).1

pub few_arguments : (n : Sym) (cs : List Sym) (args : List Pattern) → few_of (pat.Meta n cs args) ≡ true → (length args ≤ 8) × AllPass few_of args
few_arguments n cs args e =
    let both = and_both _ (all_pass (map few_of args)) (sym (few_of-Meta n cs args) ∙ e) in
    let counts = (and_both _ (nat_le (length args) 8) both.0).1 in
    (grind (arith, nat_tests, counts), each_few few_of args both.1)
