use Rattle.std.proofs.Common.{arith}
use Rattle.std.proofs.lemmas.List.{length-map}
use Rattle.mp_patterntext.specs.Scopes.{syms_of}
use Rattle.mp_patterntext.proofs.SameNames.{other_lengths}
use Rattle.mp_patterntext.proofs.uses.are_same_names.Goals as goal

pub returns-then-names-others : goal.returns-then-names-others
returns-then-names-others c =
    let a = length-map c.args.names.now (λ n. n.name) in
    let b = length-map c.args.others.now (λ n. n.name) in
    other_lengths (syms_of c.args.names.now) (syms_of c.args.others.now) (λ e. absurd (omega (arith, a, b, e)))
