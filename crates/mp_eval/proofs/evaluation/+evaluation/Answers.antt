use Rattle.std.proofs.Common.{◌≡◌, ◌+◌, ◌-◌, ◌<◌, length, IsTrue, true, refl, ap, sym, subst, rules, ◌∙◌, arith}
use Rattle.std.specs.Prelude.{slice_get}
use Rattle.std.specs.List.{insert, remove}
use Rattle.mp_logic.specs.Trees.{root_of}
use Rattle.mp_strategy.specs.declared.problem.ProblemState.{ProblemState}
use Rattle.mp_strategy.specs.declared.tactic.Tac.TheVariants as tac
use Rattle.mp_strategy.specs.Strategies.{as_many, left_of}
use Rattle.mp_strategy.specs.Evaluation.{entry_eval, part_of, on_leaves, one_each, row_of}
use Rattle.mp_strategy.proofs.Steps.{root-Step}
use Rattle.mp_eval.specs.declared.queue.Queue.TheVariants as queue
use Rattle.mp_eval.specs.Ends.{Ends, IsFor}
use Rattle.mp_eval.specs.Queues.{drawn, on_tree}
use Rattle.mp_eval.proofs.Arms.{arm, by_row, ends_at, ends_moved, first_goes, is_for, leaf_good, kids_good}
use Rattle.mp_eval.proofs.InPlace.{Half, half_next}
use Rattle.mp_eval.proofs.Leaves.{each_same, listed_same, repeat_goes, step_ends, step_fails}
use Rattle.mp_eval.proofs.evaluation.+evaluation.Goals as goal

pub entry-repeat-requires-clause-row : goal.entry-repeat-requires-clause-row
entry-repeat-requires-clause-row g t c κs within = λ n. c.row.ensures.means n ∙ ap (λ x. row_of (g.L.Logic.meaning c.args.problem.now.logic) c.args.problem.now.justs x c.args.at.0 (part_of g.L.Logic.meaning c.args.problem.now) n) c.in-Repeat.is

pub entry-returns-in-Id : goal.entry-returns-in-Id
entry-returns-in-Id g t c =
    sym (by_row g.L.Logic.meaning c.args.problem.now c.args.at.0 c.args.left c.args.fuel c.args.goal c.row.result.now tac.Id (part_of g.L.Logic.meaning c.args.problem.now) c.row.ensures.means c.in-Id.is)

pub entry-returns-in-Fail : goal.entry-returns-in-Fail
entry-returns-in-Fail g t c =
    ends_moved _ _ c.args.goal c.args.goal c.failed.result
    (by_row g.L.Logic.meaning c.args.problem.now c.args.at.0 c.args.left c.args.fuel c.args.goal c.row.result.now tac.Fail (part_of g.L.Logic.meaning c.args.problem.now) c.row.ensures.means c.in-Fail.is) refl c.failed.ensures

pub entry-returns-in-Step : goal.entry-returns-in-Step
entry-returns-in-Step g t c =
    arm g.L.Logic.meaning c.args.problem.now c.args.at.0 c.args.left c.args.fuel c.args.goal c.row.result.now (tac.Step c.in-Step.just) c.row.ensures.means c.in-Step.is c.step.result c.step.ensures

pub entry-returns-in-Then : goal.entry-returns-in-Then
entry-returns-in-Then g t c =
    arm g.L.Logic.meaning c.args.problem.now c.args.at.0 c.args.left c.args.fuel c.args.goal c.row.result.now (tac.Then c.in-Then.first c.in-Then.second) c.row.ensures.means c.in-Then.is c.then_each.result c.then_each.ensures

pub entry-returns-in-ThenL : goal.entry-returns-in-ThenL
entry-returns-in-ThenL g t c =
    arm g.L.Logic.meaning c.args.problem.now c.args.at.0 c.args.left c.args.fuel c.args.goal c.row.result.now (tac.ThenL c.in-ThenL.first c.as_slice.result.now) c.row.ensures.means (c.in-ThenL.is ∙ ap (λ bs. tac.ThenL c.in-ThenL.first bs) (sym c.as_slice.ensures)) c.then_listed.result c.then_listed.ensures

pub entry-returns-in-Else : goal.entry-returns-in-Else
entry-returns-in-Else g t c =
    arm g.L.Logic.meaning c.args.problem.now c.args.at.0 c.args.left c.args.fuel c.args.goal c.row.result.now (tac.Else c.in-Else.first c.in-Else.second) c.row.ensures.means c.in-Else.is c.or_else.result c.or_else.ensures

pub entry-returns-in-Race : goal.entry-returns-in-Race
entry-returns-in-Race g t c =
    arm g.L.Logic.meaning c.args.problem.now c.args.at.0 c.args.left c.args.fuel c.args.goal c.row.result.now (tac.Race c.as_slice-in-Race.result.now) c.row.ensures.means (c.in-Race.is ∙ ap (λ bs. tac.Race bs) (sym c.as_slice-in-Race.ensures)) c.race.result c.race.ensures

pub entry-returns-in-Repeat : goal.entry-returns-in-Repeat
entry-returns-in-Repeat g t c =
    arm g.L.Logic.meaning c.args.problem.now c.args.at.0 c.args.left c.args.fuel c.args.goal c.row.result.now (tac.Repeat c.in-Repeat.field-0 c.in-Repeat.again) c.row.ensures.means c.in-Repeat.is c.repeat.result c.repeat.ensures

pub entry-returns-in-Progress : goal.entry-returns-in-Progress
entry-returns-in-Progress g t c =
    arm g.L.Logic.meaning c.args.problem.now c.args.at.0 c.args.left c.args.fuel c.args.goal c.row.result.now (tac.Progress c.in-Progress.inner) c.row.ensures.means c.in-Progress.is c.progress.result c.progress.ensures

pub entry-returns-in-Complete : goal.entry-returns-in-Complete
entry-returns-in-Complete g t c =
    arm g.L.Logic.meaning c.args.problem.now c.args.at.0 c.args.left c.args.fuel c.args.goal c.row.result.now (tac.Complete c.in-Complete.inner) c.row.ensures.means c.in-Complete.is c.complete.result c.complete.ensures

pub part-returns-clause-is_for : goal.part-returns-clause-is_for
part-returns-clause-is_for g t c =
    is_for g.L.Logic.meaning c.args.problem.now (g.met.L.Logic.lawful c.args.problem.now.logic) c.known.ensures c.args.at.0 c.left_at-left.result c.args.fuel c.args.goal c.requires.tac c.requires.good c.entry.result c.entry.ensures

pub then_each-returns-in-Tree : goal.then_each-returns-in-Tree
then_each-returns-in-Tree g t c =
    let p = c.args.problem.now in
    let meaning = g.L.Logic.meaning in
    let b = c.args.second in
    let tree = c.in-Tree.tree in
    let left : c.left_at.result ≡ left_of (slice_get p.tacs b.0) = c.left_at.ensures ∙ ap (λ (x : ProblemState _ _). left_of (slice_get x.tacs b.0)) c.problem.view_is in
    let root : root_of tree ≡ c.args.goal = (subst (IsFor (meaning p.logic) c.args.fuel c.args.goal) c.in-Tree.is c.in_ok-tree.ensures.is_for).2 in
    ends_at c.on_leaves.result _ _ _ _
    (each_same meaning p b c.left_at.result c.args.fuel tree ∙ ap (λ n. on_leaves (entry_eval meaning p b.0 n) c.args.fuel tree) left
    ∙ sym (first_goes (part_of meaning p c.args.first.0 c.args.fuel c.args.goal) (on_leaves (part_of meaning p b.0) c.args.fuel) c.args.goal c.in_ok-tree.field-0 tree c.in-Tree.is c.in_ok-tree.ensures.value))
    root c.on_leaves.ensures.value

pub then_listed-returns-in_ok-waiting_of-in-Tree : goal.then_listed-returns-in_ok-waiting_of-in-Tree
then_listed-returns-in_ok-waiting_of-in-Tree g t c =
    let p = c.args.problem.now in
    let meaning = g.L.Logic.meaning in
    let bs = c.args.others.now in
    let tree = c.in-Tree.tree in
    let many : as_many bs tree ≡ true = search rules in
    let root : root_of tree ≡ c.args.goal = (subst (IsFor (meaning p.logic) c.args.fuel c.args.goal) c.in-Tree.is c.in_ok-tree.ensures.is_for).2 in
    ends_at c.on_leaves.result _ _ _ _
    (ap (λ ws. on_tree (drawn meaning p) (queue.Listed c.args.here ws) c.args.fuel tree) c.in_ok-waiting_of-in-Tree.ensures
    ∙ listed_same meaning p c.args.here bs c.args.fuel c.args.goal tree (as_many bs tree) refl many
    ∙ sym (first_goes (part_of meaning p c.args.first.0 c.args.fuel c.args.goal) (λ x. one_each (as_many bs x) (part_of meaning p) c.args.here.0 bs c.args.fuel c.args.goal x) c.args.goal c.in_ok-tree.field-0 tree c.in-Tree.is c.in_ok-tree.ensures.value))
    root c.on_leaves.ensures.value

pub repeat-returns : goal.repeat-returns
repeat-returns g t c =
    let p = c.args.problem.now in
    let meaning = g.L.Logic.meaning in
    let sub = part_of meaning p c.args.again.0 in
    let tree = c.in-Tree.tree in
    let some : 0 < c.args.left = omega (arith, c.if-left-eq0.false) in
    let root : root_of tree ≡ c.args.goal = (subst (IsFor (meaning p.logic) c.args.fuel c.args.goal) c.in-Tree.is c.in_ok-given.ensures.is_for).2 in
    ends_at c.on_leaves.result _ _ _ _
    (each_same meaning p c.args.here (c.args.left - 1) c.args.fuel tree ∙ ap (λ each. on_leaves each c.args.fuel tree) (c.requires.row (c.args.left - 1))
    ∙ sym (repeat_goes sub c.args.left c.args.fuel c.args.goal tree some (subst (Ends (sub c.args.fuel c.args.goal) c.args.goal) c.in-Tree.is c.in_ok-given.ensures.value) (sym c.is_leaf.ensures ∙ c.if-is_leaf.false)))
    root c.on_leaves.ensures.value

pub on_leaves-entry-requires-clause-good : goal.on_leaves-entry-requires-clause-good
on_leaves-entry-requires-clause-good g t c κs within = leaf_good (λ h. IsTrue ((g.L.Logic.meaning c.args.problem.now.logic).good h)) c.args.tree c.in-Leaf.goal c.in-Leaf.is c.requires.good

pub on_leaves-on_kids-requires-clause-good : goal.on_leaves-on_kids-requires-clause-good
on_leaves-on_kids-requires-clause-good g t c κs within = kids_good (λ h. IsTrue ((g.L.Logic.meaning c.args.problem.now.logic).good h)) c.args.tree c.in-Step.goal c.in-Step.just c.in-Step.kids c.in-Step.is c.requires.good

pub on_leaves-returns-in-Ok-clause-value : goal.on_leaves-returns-in-Ok-clause-value
on_leaves-returns-in-Ok-clause-value g t c =
    step_ends (drawn g.L.Logic.meaning c.args.problem.now) c.args.queue.now c.args.tree c.in-Step.goal c.in-Step.just c.in-Step.kids c.in-Ok.kids c.args.fuel c.in_ok-kids-in-Step.field-0 c.in-Step.is c.in_ok-kids-in-Step.ensures.value c.in-Ok.is

pub on_leaves-returns-in-Err-clause-value : goal.on_leaves-returns-in-Err-clause-value
on_leaves-returns-in-Err-clause-value g t c = (
  sym (ap root_of c.in-Step.is ∙ root-Step c.in-Step.goal c.in-Step.just c.in-Step.kids),
  step_fails (drawn g.L.Logic.meaning c.args.problem.now) c.args.queue.now c.args.tree c.in-Step.goal c.in-Step.just c.in-Step.kids _ c.args.fuel c.in_ok-kids-in-Step.field-0 c.in-Step.is c.in_ok-kids-in-Step.ensures.value c.in-Err.is,
)

pub on_kids-loop-place-preserved : goal.on_kids-loop-place-preserved
on_kids-loop-place-preserved g t c =
    let draws = drawn g.L.Logic.meaning c.args.problem.now in
    let xs = c.loop-place.kids.items in
    let i = c.loop-place.place in
    let kid = c.remove-kid.result in
    let tree = c.in-Tree.tree in
    let inv = c.loop-place.invariant in
    let here : i < length xs = search rules in
    let made : c.insert.new.self.items ≡ insert (remove xs i) i tree = search rules in
    let old : Half draws (λ h. IsTrue ((g.L.Logic.meaning c.args.problem.now.logic).good h)) (length c.args.problem.now.tacs) c.args.fuel c.args.queue.now c.args.kids c.loop-place.queue xs i =
    record { same = inv.same; long = inv.long; good = inv.good; depth = inv.depth; ready = inv.ready; left = inv.left; weight = inv.weight } in
    let h = half_next draws (λ h. IsTrue ((g.L.Logic.meaning c.args.problem.now.logic).good h)) (length c.args.problem.now.tacs) c.args.fuel c.args.queue.now c.args.kids c.loop-place.queue c.on_leaves.new.queue xs c.insert.new.self.items i (i + 1) kid tree
    here refl c.remove-kid.ensures.value made (subst (Ends (on_tree draws c.loop-place.queue c.args.fuel kid) (root_of kid)) c.in-Tree.is c.in_ok-tree.ensures.value) (search rules) old in
    record { same = h.same; long = h.long; good = h.good; depth = h.depth; ready = h.ready; left = h.left; weight = h.weight }
