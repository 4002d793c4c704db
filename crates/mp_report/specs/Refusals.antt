-- The line that is printed of a file that is refused.
use Rattle.std.specs.Prelude.{ℕ, ◌++◌, List, codes}
use Rattle.std.specs.Fmt.{decimal}
use Rattle.mp_words.specs.declared.fail.TextErr.{TextErr}
use Rattle.mp_words.specs.declared.fail.TextWhy.{TextWhy}
use Rattle.mp_words.specs.declared.fail.TextWhy.TheVariants as why
use Rattle.mp_report.specs.declared.refusal.FileKind.{FileKind}
use Rattle.mp_report.specs.declared.refusal.FileKind.TheVariants as file

-- the name of a kind of file
abbrev pub file_text : FileKind → List ℕ
file_text file.Theory = codes "theory"
file_text file.Script = codes "script"
file_text file.Schedule = codes "schedule"
file_text file.Trees = codes "trees"
file_text file.Jobs = codes "jobs"
file_text file.Checkpoint = codes "checkpoint"

-- a fault is printed by its name
abbrev pub why_text : TextWhy → List ℕ
why_text why.BadByte = codes "BadByte"
why_text why.LongName = codes "LongName"
why_text why.BadNumber = codes "BadNumber"
why_text why.BadString = codes "BadString"
why_text why.TooNested = codes "TooNested"
why_text why.Syntax = codes "Syntax"
why_text why.Taken = codes "Taken"
why_text why.UnknownName = codes "UnknownName"
why_text why.TooMany = codes "TooMany"
why_text why.TooDeep = codes "TooDeep"
why_text why.TooBig = codes "TooBig"
why_text why.UnboundVar = codes "UnboundVar"
why_text why.DanglingContext = codes "DanglingContext"
why_text why.TwiceContext = codes "TwiceContext"
why_text why.TooManyContexts = codes "TooManyContexts"
why_text why.MisplacedHyp = codes "MisplacedHyp"
why_text why.NotAPattern = codes "NotAPattern"
why_text why.BadUse = codes "BadUse"
why_text why.UnboundParam = codes "UnboundParam"
why_text why.UnboundMeta = codes "UnboundMeta"
why_text why.AtNeeded = codes "AtNeeded"
why_text why.AtRefused = codes "AtRefused"
why_text why.MissingWith = codes "MissingWith"
why_text why.ExtraWith = codes "ExtraWith"
why_text why.TwiceWith = codes "TwiceWith"
why_text why.BadArity = codes "BadArity"
why_text why.WrongGoal = codes "WrongGoal"
why_text why.BadIndent = codes "BadIndent"
why_text why.CountDiffers = codes "CountDiffers"
why_text why.WrongLabel = codes "WrongLabel"
why_text why.NotCanonical = codes "NotCanonical"
why_text why.Cycle = codes "Cycle"
why_text why.Conditional = codes "Conditional"
why_text why.NestedSweep = codes "NestedSweep"
why_text why.BadDerivation = codes "BadDerivation"
why_text why.BadCheckpoint = codes "BadCheckpoint"

-- the file, the byte of its fault, and the fault
abbrev pub refusal_text : FileKind → TextErr → List ℕ
refusal_text f e = codes "refused: " ++ file_text f ++ codes " byte " ++ decimal e.at ++ codes ": " ++ why_text e.why ++ codes "\n"
