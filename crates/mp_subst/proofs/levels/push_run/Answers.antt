use Rattle.std.proofs.Common.{◌≡◌, ◌-◌, ℕ, List, length, arith, rules}
use Rattle.mp_subst.specs.declared.levels.Run.{Run}
use Rattle.mp_subst.proofs.Runs.{last_joined}
use Rattle.mp_subst.proofs.levels.push_run.Goals as goal

pub returns-clause-ok : goal.returns-clause-ok
returns-clause-ok c =
    let count_of : List Run → ℕ = length in
    let many : c.len-count.result ≡ count_of c.args.runs.now.items = search rules in
    last_joined c.args.runs.now.items (c.len-count.result - 1) c.index.result.now c.args.run c.in-Some.both (omega (arith, many, c.if-count-gt0.true)) c.index.ensures c.in-Some.ensures
