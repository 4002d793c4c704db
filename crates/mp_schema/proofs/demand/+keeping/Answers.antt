use Rattle.std.proofs.Common.{rules}
use Rattle.mp_schema.proofs.Layers.{occurrences_in-Op, occurrences_in-Meta}
use Rattle.mp_schema.proofs.demand.+keeping.Goals as goal

pub pattern_keeps-returns-in-Op : goal.pattern_keeps-returns-in-Op
pattern_keeps-returns-in-Op g t c = rw (c.in-Op.is, occurrences_in-Op) (search rules)

pub pattern_keeps-returns-then-is_kept : goal.pattern_keeps-returns-then-is_kept
pattern_keeps-returns-then-is_kept g t c = rw (c.in-Meta.is, occurrences_in-Meta) (search rules)

pub pattern_keeps-returns-else-is_kept : goal.pattern_keeps-returns-else-is_kept
pattern_keeps-returns-else-is_kept g t c = rw (c.in-Meta.is, occurrences_in-Meta) (search rules)
