-- The laws of moves, one term for each.
use Rattle.std.proofs.Common.{◌≡◌, ◌+◌, arith}
use Rattle.mp_delay.specs.Moves.{moved}
use Rattle.mp_delay.specs.Composing.{tidied}
use Rattle.mp_delay.specs.Laws.{MovesCompose, TidyMovesDoTheSame, WeakeningIsAMove, MovesOfOccurrences, VariablesAreMoves, RenamingsAreUndone, RenamingsExist, RenamingsAreInjective, MovesAfterSubstitution, SizeAfterMoves, ScopeAfterMoves}
use Rattle.mp_delay.proofs.ArgumentLaws.{relevel-sub}
use Rattle.mp_delay.proofs.ComposeLaws.{relevel-composed}
use Rattle.mp_delay.proofs.Measures.{relevel-measures, relevel-within}
use Rattle.mp_delay.proofs.MoveLaws.{relevel-alike, relevel-settled, weak-moves}
use Rattle.mp_delay.proofs.Renamings.{sub-is_move, renaming-is_move, renaming-exists, renaming-injective}
use Rattle.mp_delay.proofs.TidyLaws.{moved-tidied}

pub moves_compose : MovesCompose
moves_compose ms ns t order = relevel-composed ns order ms t

pub tidy_moves : TidyMovesDoTheSame
tidy_moves ms t = relevel-alike (moved (tidied ms)) (moved ms) (moved-tidied ms) t

pub weakening_is_a_move : WeakeningIsAMove
weakening_is_a_move n k t = weak-moves n k t

pub moves_of_occurrences : MovesOfOccurrences
moves_of_occurrences f g t agree = relevel-settled f g t agree

pub variables_are_moves : VariablesAreMoves
variables_are_moves levels m t all scoped = sub-is_move levels m (λ i h. all i 0 h) t scoped

pub renamings_are_undone : RenamingsAreUndone
renamings_are_undone levels n u t distinct all scoped e = renaming-is_move levels n distinct (λ i h. all i 0 h) u t scoped e

pub renamings_exist : RenamingsExist
renamings_exist levels n t distinct all scoped each = renaming-exists levels n t distinct all scoped each

pub renamings_are_injective : RenamingsAreInjective
renamings_are_injective levels n u v distinct all one other e = renaming-injective levels n distinct (λ i h. all i 0 h) u v one other e

pub moves_after_substitution : MovesAfterSubstitution
moves_after_substitution g m n s t low high scoped = relevel-sub g m n low high s t scoped

pub size_after_moves : SizeAfterMoves
size_after_moves f t = relevel-measures f t

pub scope_after_moves : ScopeAfterMoves
scope_after_moves f n m t within scoped =
    let p : n + 0 ≡ n = omega arith in
    let q : m + 0 ≡ m = omega arith in
    rw q at (relevel-within f n m within t 0 (rw p scoped))
