use Rattle.std.proofs.Common.{◌≡◌, drop}
use Rattle.std.specs.List.{flat_map}
use Rattle.mp_words.specs.Faults.{least_from}
use Rattle.mp_treetext.specs.Statics.{block_names, unknown_goal_faults}
use Rattle.mp_treetext.proofs.statics.check_names.Given as goal

abbrev pub invariant-loop-block : goal.invariant-loop-block
invariant-loop-block l =
    least_from l.held (flat_map (unknown_goal_faults l.goals) (block_names (drop l.block-index l.blocks))) ≡ least_from l.fn.held (flat_map (unknown_goal_faults l.goals) (block_names l.blocks))
