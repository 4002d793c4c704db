use Rattle.std.proofs.Common.{◌≡◌, ◌++◌}
use Rattle.mp_drill.specs.Sections.{SameEvents}
use Rattle.mp_drill.proofs.FirstSections.{numbers_of}
use Rattle.mp_drill.proofs.sections.Sections.new.Given as goal

abbrev pub invariant-loop-section : goal.invariant-loop-section
invariant-loop-section l = record {
  names : l.names ≡ numbers_of l.kept;
  same : SameEvents (l.kept ++ l.section-iterator.rest.items) l.fn.sections;
}
