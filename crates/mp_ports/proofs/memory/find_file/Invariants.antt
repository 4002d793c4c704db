use Rattle.std.proofs.Common.{◌≡◌, drop}
use Rattle.mp_ports.specs.Shelves.{file_of}
use Rattle.mp_ports.proofs.memory.find_file.Given as goal

abbrev pub invariant-loop-file : goal.invariant-loop-file
invariant-loop-file l = file_of l.name l.files ≡ file_of l.name (drop l.file-index l.files)
