use Rattle.std.proofs.Common.{◌≡◌, drop}
use Rattle.std.specs.List.{flat_map}
use Rattle.mp_words.specs.Faults.{least_from}
use Rattle.mp_patterntext.specs.Scopes.{syms_of}
use Rattle.mp_schematext.specs.Statics.{premise_faults}
use Rattle.mp_schematext.proofs.statics.check_premises.Given as goal

abbrev pub invariant-loop-premise : goal.invariant-loop-premise
invariant-loop-premise l = least_from l.held (flat_map (premise_faults (syms_of l.concl)) (drop l.premise-index l.premises)) ≡ least_from l.fn.held (flat_map (premise_faults (syms_of l.concl)) l.premises)
