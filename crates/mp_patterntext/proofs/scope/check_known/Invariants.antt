use Rattle.std.proofs.Common.{◌≡◌, drop}
use Rattle.mp_words.specs.Faults.{least_from}
use Rattle.mp_patterntext.specs.Nodes.{dangling_faults}
use Rattle.mp_patterntext.specs.Scopes.{syms_of}
use Rattle.mp_patterntext.proofs.scope.check_known.Given as goal

abbrev pub invariant-loop-ctx : goal.invariant-loop-ctx
invariant-loop-ctx l = least_from l.held (dangling_faults (syms_of l.known) (drop l.ctx-index l.ctxs)) ≡ least_from l.fn.held (dangling_faults (syms_of l.known) l.ctxs)
