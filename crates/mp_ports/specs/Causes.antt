-- Each answer of the outside has its cause: a count that rose. A count that stands at its greatest value, 2^64 - 1, rises no more.
use Rattle.std.specs.Prelude.{◌≡◌, ℕ, ◌+◌, ◌-◌, ◌^◌, ◌<◌, ◌≤◌, min, Result, Ok, Err}
use Rattle.mp_ports.specs.declared.ports.ReadErr.{ReadErr}
use Rattle.mp_ports.specs.declared.ports.ReadErr.TheVariants.{Failed, TooLong, NoMemory}
use Rattle.mp_ports.specs.declared.ports.PutFailed.{PutFailed}

-- a count after one more: it stops at its greatest value
abbrev pub raised : ℕ → ℕ
raised count = min (count + 1) (2 ^ 64 - 1)

-- the count rose, or was at its greatest value and still is
abbrev pub Rose : ℕ → ℕ → Type 0
Rose before now = raised before ≤ now

-- the count didn't rise, and isn't at its greatest value; at that value it may count no more, and nothing is known of it
abbrev pub Quiet : ℕ → ℕ → Type 0
Quiet before now = now < raised before

-- the cause of a read's answer: the count of faults rose (see `Rose`) at Failed, and is the same at any other answer; that of long files
-- rose at TooLong; no count fell
abbrev pub ReadCause : {T : Type 0} → (faults_before faults_now longs_before longs_now : ℕ) → Result T ReadErr → Type 0
ReadCause faults now longs later (Ok text) = (now ≡ faults) × (longs ≤ later)
ReadCause faults now longs later (Err Failed) = Rose faults now × (faults ≤ now) × (longs ≤ later)
ReadCause faults now longs later (Err TooLong) = (now ≡ faults) × Rose longs later × (longs ≤ later)
ReadCause faults now longs later (Err NoMemory) = (now ≡ faults) × (longs ≤ later)

-- the cause of a put's answer: the count of faults rose (see `Rose`) if the put failed, and else is the same; it did not fall
abbrev pub PutCause : {T : Type 0} → (faults_before faults_now : ℕ) → Result T PutFailed → Type 0
PutCause faults now (Ok done) = now ≡ faults
PutCause faults now (Err failed) = Rose faults now × (faults ≤ now)
