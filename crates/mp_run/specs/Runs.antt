-- The exit status of the program.
use Rattle.std.specs.Prelude.{ℕ}
use Rattle.mp_run.specs.declared.status.Status.{Status}
use Rattle.mp_run.specs.declared.status.Status.TheVariants as status

-- the exit status of the program
abbrev pub number_of : Status → ℕ
number_of status.AllClosed = 0
number_of status.NotAll = 1
number_of status.Usage = 2
number_of status.Refused = 3
number_of status.ReadFault = 4
number_of status.WriteFault = 5
number_of status.NoMemory = 6
number_of status.BadTree = 7
