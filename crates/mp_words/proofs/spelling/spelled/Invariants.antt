use Rattle.std.proofs.Common.{◌≡◌, drop, map}
use Rattle.mp_words.specs.Words.{row_of, spelled}
use Rattle.mp_words.proofs.spelling.spelled.Given as goal

abbrev pub invariant-loop-spelling : goal.invariant-loop-spelling
invariant-loop-spelling l = spelled (map row_of (drop l.spelling-index l.table)) l.text ≡ spelled (map row_of l.table) l.text
