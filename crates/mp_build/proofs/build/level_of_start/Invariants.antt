use Rattle.std.proofs.Common.{◌≡◌, take}
use Rattle.mp_build.specs.Sites.{start_of}
use Rattle.mp_build.proofs.build.level_of_start.Given as goal

abbrev pub invariant-loop-start : goal.invariant-loop-start
invariant-loop-start l = l.level ≡ start_of (take l.start-index l.starts) l.name
