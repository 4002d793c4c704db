use Rattle.std.proofs.Common.{arith}
use Rattle.mp_build.proofs.Buildable.{has-at}
use Rattle.mp_build.proofs.build.variables_before.Goals as goal

pub overflow_cast-kept_count : goal.overflow_cast-kept_count
overflow_cast-kept_count c =
    let ctxs = c.args.ctxs.now in
    let made = c.requires.made _ (has-at ctxs c.loop-name.name-index (record { 0 = 0 }) (omega arith)) in
    omega (arith, made, c.kept_count.ensures)

pub push_variables-requires-in-loop-name : goal.push_variables-requires-in-loop-name
push_variables-requires-in-loop-name c =
    let ctxs = c.args.ctxs.now in
    let made = c.requires.made _ (has-at ctxs c.loop-name.name-index (record { 0 = 0 }) (omega arith)) in
    let first = rw c.as_slice.ensures.value at c.level_of_start-first.ensures in
    omega (arith, made, first, c.kept_count.ensures)
