use Rattle.std.proofs.Common.{◌≡◌, drop, map, is_none}
use Rattle.std.specs.List.{flat_map}
use Rattle.mp_words.specs.Faults.{fault_if, least_from}
use Rattle.mp_patterntext.specs.Nodes.{Argument, argument_of}
use Rattle.mp_words.specs.declared.fail.TextWhy.TheVariants as why
use Rattle.mp_patterntext.proofs.nodes.check_variables.Given as goal

abbrev pub invariant-loop-arg : goal.invariant-loop-arg
invariant-loop-arg l =
    least_from l.held (flat_map (λ (a : Argument). fault_if (is_none a.variable) a.at why.NotAPattern) (map argument_of (drop l.arg-index l.args)))
    ≡ least_from l.fn.held (flat_map (λ (a : Argument). fault_if (is_none a.variable) a.at why.NotAPattern) (map argument_of l.args))
