-- What follows of the calls of `put` on the sinks of this crate.
use Rattle.std.proofs.Common.{◌≡◌, ℕ, ◌≤◌, ◌++◌, List, [], take, Option, Some, None, Result, Ok, Err, Bool, true, false, ap}
use Rattle.mp_ports.specs.declared.ports.PutFailed.{PutFailed}
use Rattle.mp_ports.specs.Calls.{Put}
use Rattle.mp_ports.specs.Causes.{raised, PutCause}
use Rattle.mp_ports.specs.laws.Reads.{rose_by}
use Rattle.mp_ports.specs.Sinks.{PutTakes, SinkState, PutBy, SinkPut, MemPuts, OutPuts, faults_after, listed, due, fits, took, failed}

-- ## The sink in memory

module _ (old new : SinkState) (bytes : List ℕ) (faults : old.faults ≤ new.faults) where
  abbrev Known : Result (Unit {0}) PutFailed → Type 0
  Known answer = PutTakes (Some old.taken) (Some new.taken) bytes answer × PutCause old.faults new.faults answer

  by_put : (fit : Bool) (entry : Option ℕ) (answer : Result (Unit {0}) PutFailed) → PutBy fit entry old new bytes answer → Known answer
  by_put false entry (Ok done) h = absurd h
  by_put false entry (Err e) h = ((0, ap (λ (s : SinkState). s.taken) h), (rose_by old.faults new.faults (ap (λ (s : SinkState). s.faults) h), faults))
  by_put true None (Ok done) h = (ap (λ (s : SinkState). s.taken) h, ap (λ (s : SinkState). s.faults) h)
  by_put true None (Err e) h = absurd h
  by_put true (Some count) (Ok done) h = absurd h
  by_put true (Some count) (Err e) h = ((count, ap (λ (s : SinkState). s.taken) h), (rose_by old.faults new.faults (ap (λ (s : SinkState). s.faults) h), faults))

known : (old new : SinkState) (call : Put) → MemPuts old new call → PutTakes (Some old.taken) (Some new.taken) call.bytes call.answer × PutCause old.faults new.faults call.answer
known old new call h =
    let entry = listed (raised old.calls) old.fails in
    by_put old new call.bytes h.faults (fits old (due entry call.bytes)) entry call.answer h.exact

pub mem_takes : (old new : SinkState) (call : Put) → MemPuts old new call → PutTakes (Some old.taken) (Some new.taken) call.bytes call.answer
mem_takes old new call h = (known old new call h).0

pub mem_cause : (old new : SinkState) (call : Put) → MemPuts old new call → PutCause old.faults new.faults call.answer
mem_cause old new call h = (known old new call h).1

-- ## Standard output

takes_none : (bytes : List ℕ) (answer : Result (Unit {0}) PutFailed) → PutTakes None None bytes answer
takes_none bytes (Ok done) = tt
takes_none bytes (Err e) = (0, tt)

counted : (old new : ℕ) (answer : Result (Unit {0}) PutFailed) → new ≡ faults_after old answer → old ≤ new → PutCause old new answer
counted old new (Ok done) e faults = e
counted old new (Err failed) e faults = (rose_by old new e, faults)

pub out_takes : (old new : ℕ) (call : Put) → OutPuts old new call → PutTakes None None call.bytes call.answer
out_takes old new call h = takes_none call.bytes call.answer

pub out_cause : (old new : ℕ) (call : Put) → OutPuts old new call → PutCause old new call.answer
out_cause old new call h = counted old new call.answer h.counts h.faults
