-- The words of the commands, and what each command reads.
use Rattle.std.specs.Prelude.{ℕ, List, [], ◌∷◌, Some, None, ◌&&◌, codes, if◌then◌else◌}
use Rattle.std.specs.Option.{option_map}
use Rattle.std.specs.declared.option.Option.{Option}
use Rattle.std.specs.Str.{bytes_eq, is_utf8}

-- where a text comes from: from the file of this name, or the run makes it by itself
pub data From : Type 0 where
  Named : (name : List ℕ) → From
  Made : (text : List ℕ) → From

-- what a command does with the goals of its script, and what it reads for it: `seq` evaluates each goal; `drill` runs the events that
-- a schedule has for each goal; `replay` checks the tree that a file has for each goal. A further command is a further task:
--   prove, load: nothing is read for it;   keep: a schedule;   expand: trees;   work: jobs;   resume: a checkpoint
pub data Task : Type 0 where
  Seq : Task
  Drill : (schedule : From) → Task
  Replay : (trees : From) → Task

-- a command: its theory, its script, and its task
pub record Command : Type 0 where
  pub theory : From
  pub script : From
  pub task : Task

-- the command of a task, by the names of its theory and of its script
abbrev pub command_for : (theory script : List ℕ) → Task → Command
command_for theory script task = record { theory = Named theory; script = Named script; task = task }

-- the task that a word names, for which a third file is read
abbrev pub task_of : (word file : List ℕ) → Option Task
task_of word file =
    if bytes_eq word (codes "drill") then Some (Drill (Named file))
    else if bytes_eq word (codes "replay") then Some (Replay (Named file)) else None

-- the command that the words give: its own word, and then its files, each a word in UTF-8
abbrev pub command_of : List (List ℕ) → Option Command
command_of (word ∷ theory ∷ script ∷ []) =
    if bytes_eq word (codes "seq") && is_utf8 theory && is_utf8 script then Some (command_for theory script Seq) else None
command_of (word ∷ theory ∷ script ∷ file ∷ []) =
    if is_utf8 theory && is_utf8 script && is_utf8 file then option_map (command_for theory script) (task_of word file) else None
command_of words = None

-- the line that tells the commands
abbrev pub usage_line : List ℕ
usage_line = codes "usage: metatac seq THEORY SCRIPT | drill THEORY SCRIPT SCHEDULE | replay THEORY SCRIPT TREES | prove THEORY SCRIPT [--workers=N] [--lose=N] | load N\n"
