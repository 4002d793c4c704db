use Rattle.mp_jobs.proofs.FoundTodos.{todo_claimed}
use Rattle.mp_jobs.proofs.FoundClaims.{claim_placed, oldest_reclaimed}
use Rattle.mp_jobs.proofs.FoundLive.{live_found}
use Rattle.mp_jobs.proofs.FoundWorks.{jobs_works}
use Rattle.mp_jobs.proofs.LossLaws.{losses_steps}
use Rattle.mp_jobs.proofs.law.found_jobs_are_changed.Goals as goal

pub returns-clause-todos : goal.returns-clause-todos
returns-clause-todos g c = todo_claimed

pub returns-clause-claims : goal.returns-clause-claims
returns-clause-claims g c = claim_placed (g.L.Logic.meaning c.args.problem.now.logic).same

pub returns-clause-oldest : goal.returns-clause-oldest
returns-clause-oldest g c = oldest_reclaimed

pub returns-clause-live : goal.returns-clause-live
returns-clause-live g c = live_found

pub returns-clause-works : goal.returns-clause-works
returns-clause-works g c = jobs_works g.L.Logic.meaning c.args.problem.now

pub returns-clause-losses : goal.returns-clause-losses
returns-clause-losses g c = losses_steps g.L.Logic.meaning c.args.problem.now
