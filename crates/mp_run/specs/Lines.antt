-- The lines that tell why a run ended before its goals.
use Rattle.std.specs.Prelude.{ℕ, List, ◌++◌, codes}
use Rattle.std.specs.Fmt.{decimal}
use Rattle.mp_report.specs.declared.refusal.FileKind.{FileKind}
use Rattle.mp_report.specs.declared.refusal.FileKind.TheVariants.{Theory, Script, Schedule}
use Rattle.mp_report.specs.Refusals.{file_text}
use Rattle.mp_run.specs.declared.limits.TheConstants.{LONGEST_FILE, LONGEST_TREES}

-- the limit on the length of a file, in bytes, by what it is read as
abbrev pub limit_of : FileKind → ℕ
limit_of Theory = LONGEST_FILE
limit_of Script = LONGEST_FILE
limit_of Schedule = LONGEST_FILE
limit_of other = LONGEST_TREES

-- the line of a file that is over the limit
abbrev pub long_line : FileKind → List ℕ
long_line file = codes "refused: " ++ file_text file ++ codes " is longer than " ++ decimal (limit_of file) ++ codes " bytes\n"

-- the line of a file that couldn't be read
abbrev pub fault_line : FileKind → List ℕ
fault_line file = codes "fault: reading " ++ file_text file ++ codes "\n"
