use Rattle.std.proofs.Common.{◌≤◌, ◌≡◌, length, arith}
use Rattle.std.proofs.lemmas.Grind.{common_steps}
use Rattle.std.proofs.lemmas.Option.{gets}
use Rattle.mp_term.specs.declared.term.Term.{Var}
use Rattle.mp_build.specs.Sites.{spot_of}
use Rattle.mp_build.proofs.Grounds.{env-bound}
use Rattle.mp_build.proofs.build.variable_at.Goals as goal

pub returns-in-None : goal.returns-in-None
returns-in-None c = λ m h.
    let a = c.args in
    let past : length a.site.now.places.items ≤ a.level = grind (arith, common_steps, gets) in
    let many : c.len.result ≡ length a.site.now.places.items = omega arith in
    rw many (env-bound (spot_of a.site.now) a.base m a.level (Var a.level) past h)
