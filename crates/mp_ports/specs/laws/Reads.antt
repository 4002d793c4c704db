-- What follows of the calls of `read` on the shelves of this crate.
use Rattle.std.proofs.Common.{◌≡◌, ℕ, ◌≤◌, ◌<◌, length, List, Option, Some, None, Result, Ok, Err, IfOk, Bool, true, false, refl, ap, sym, subst, arith}
use Rattle.mp_ports.specs.declared.ports.ReadErr.{ReadErr}
use Rattle.mp_ports.specs.declared.ports.ReadErr.TheVariants.{Failed, TooLong, NoMemory}
use Rattle.mp_ports.specs.Calls.{Read}
use Rattle.mp_ports.specs.Causes.{raised, Rose, ReadCause}
use Rattle.mp_ports.specs.Shelves.{Told, ShelfState, FileRead, ReadBy, file_of, fails_next, MemReads, FileCounts, FileReads, counts_after, called, failed, too_long}

-- what is known of a read by the file that is told
record Known (old new : ShelfState) (file : Option (List ℕ)) (limit : ℕ) (answer : Result (List ℕ) ReadErr) : Type 0 where
  pub bound : IfOk answer (λ text. length text ≤ limit)
  pub told : Told file limit answer
  pub cause : ReadCause old.faults new.faults old.longs new.longs answer
  pub files : new.files ≡ old.files

-- a count after one more rose
pub rose_by : (before now : ℕ) → now ≡ raised before → Rose before now
rose_by before now e = subst (λ n. raised before ≤ n) (sym e) (omega arith)

files_at : ShelfState → List (List ℕ × List ℕ)
files_at s = s.files

told_failed : (file : Option (List ℕ)) (limit : ℕ) → Told file limit (Err Failed)
told_failed None limit = tt
told_failed (Some bytes) limit = tt

module _ (old new : ShelfState) (limit : ℕ) (faults : old.faults ≤ new.faults) (longs : old.longs ≤ new.longs) where
  by_failure : (file : Option (List ℕ)) → new ≡ failed old → Known old new file limit (Err Failed)
  by_failure file e = record {
    bound = tt;
    told = told_failed file limit;
    cause = (rose_by old.faults new.faults (ap (λ (s : ShelfState). s.faults) e), faults, longs);
    files = ap (λ (s : ShelfState). s.files) e;
  }

  by_file : (file : Option (List ℕ)) (answer : Result (List ℕ) ReadErr) → FileRead old new file limit answer → Known old new file limit answer
  by_file None (Ok text) h = absurd h
  by_file None (Err Failed) h = by_failure None h
  by_file None (Err TooLong) h = absurd h
  by_file None (Err NoMemory) h = absurd h
  by_file (Some bytes) (Ok text) h = record {
    bound = subst (λ (t : List ℕ). length t ≤ limit) (sym h.1) h.2;
    told = (h.1, h.2);
    cause = (ap (λ (s : ShelfState). s.faults) h.0, longs);
    files = ap (λ (s : ShelfState). s.files) h.0;
  }
  by_file (Some bytes) (Err Failed) h = absurd h
  by_file (Some bytes) (Err TooLong) h = record {
    bound = tt;
    told = h.1;
    cause = (ap (λ (s : ShelfState). s.faults) h.0, rose_by old.longs new.longs (ap (λ (s : ShelfState). s.longs) h.0), longs);
    files = ap (λ (s : ShelfState). s.files) h.0;
  }
  by_file (Some bytes) (Err NoMemory) h = record {
    bound = tt;
    told = h.1;
    cause = (ap (λ (s : ShelfState). s.faults) h.0, longs);
    files = ap (λ (s : ShelfState). s.files) h.0;
  }

  by_list : (listed : Bool) (name : List ℕ) (answer : Result (List ℕ) ReadErr) → ReadBy listed old new name limit answer → Known old new (file_of name old.files) limit answer
  by_list true name (Ok text) h = absurd h
  by_list true name (Err Failed) h = by_failure (file_of name old.files) h
  by_list true name (Err TooLong) h = absurd h
  by_list true name (Err NoMemory) h = absurd h
  by_list false name answer h = by_file (file_of name old.files) answer h

known : (old new : ShelfState) (call : Read) → MemReads old new call → Known old new (file_of call.name old.files) call.limit call.answer
known old new call h = by_list old new call.limit h.faults h.longs (fails_next old) call.name call.answer h.exact

-- ## The shelf in memory

pub mem_bound : (old new : ShelfState) (call : Read) → MemReads old new call → IfOk call.answer (λ text. length text ≤ call.limit)
mem_bound old new call h = (known old new call h).bound

pub mem_told : (old new : ShelfState) (call : Read) → MemReads old new call → Told (file_of call.name old.files) call.limit call.answer
mem_told old new call h = (known old new call h).told

pub mem_cause : (old new : ShelfState) (call : Read) → MemReads old new call → ReadCause old.faults new.faults old.longs new.longs call.answer
mem_cause old new call h = (known old new call h).cause

pub mem_kept : (old new : ShelfState) (call : Read) → MemReads old new call → (other : List ℕ) → file_of other new.files ≡ file_of other old.files
mem_kept old new call h other = ap (file_of other) (known old new call h).files

-- ## The files of the system

counted : (old new : FileCounts) (answer : Result (List ℕ) ReadErr) → new ≡ counts_after old answer → old.faults ≤ new.faults → old.longs ≤ new.longs
    → ReadCause old.faults new.faults old.longs new.longs answer
counted old new (Ok text) e faults longs = (ap (λ (s : FileCounts). s.faults) e, longs)
counted old new (Err Failed) e faults longs = (rose_by old.faults new.faults (ap (λ (s : FileCounts). s.faults) e), faults, longs)
counted old new (Err TooLong) e faults longs = (ap (λ (s : FileCounts). s.faults) e, rose_by old.longs new.longs (ap (λ (s : FileCounts). s.longs) e), longs)
counted old new (Err NoMemory) e faults longs = (ap (λ (s : FileCounts). s.faults) e, longs)

pub file_cause : (old new : FileCounts) (call : Read) → FileReads old new call → ReadCause old.faults new.faults old.longs new.longs call.answer
file_cause old new call h = counted old new call.answer h.counts h.faults h.longs
