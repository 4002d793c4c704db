use Rattle.std.proofs.Common.{◌≡◌, ◌++◌, map, length, drop}
use Rattle.mp_term.specs.declared.term.Term.{Var}
use Rattle.mp_term.specs.Subst.{upto}
use Rattle.mp_schema.specs.Sequents.{ground_at}
use Rattle.mp_logic.specs.Lists.{joined}
use Rattle.mp_schema.specs.Values.{instance_of, kept_of}
use Rattle.mp_build.specs.Sites.{start_of}
use Rattle.mp_build.proofs.build.variables_before.Given as goal

abbrev pub invariant-loop-name : goal.invariant-loop-name
invariant-loop-name l =
    let pos = start_of l.site.starts.items in
    let left = joined (map (λ c. upto (pos c) (length (kept_of l.inst.ctxs c))) (drop l.name-index l.ctxs)) in
    l.terms.items ++ map Var left ≡ map Var (ground_at (instance_of l.inst) pos l.ctxs)
