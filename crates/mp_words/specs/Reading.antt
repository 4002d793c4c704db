-- What a reader answers of words.
use Rattle.std.specs.Prelude.{◌≡◌, List, Result, Ok, Err}
use Rattle.mp_words.specs.declared.word.Word.{Word}
use Rattle.mp_words.specs.declared.parts.ReadFail.{ReadFail}
use Rattle.mp_words.specs.declared.parts.ReadFail.TheVariants as fail
use Rattle.mp_words.specs.Grammars.{Grammar, Parse, read, stuck}
use Rattle.mp_words.specs.Fronts.{first_at}

-- why a reader stopped: it is stuck there, at this byte or at the end of the words; or want of memory
abbrev pub Fails : {X : Type 0} → Parse Word X → ReadFail → Type 0
Fails o (fail.Stuck at) = (rest : List Word) × (o ≡ stuck rest) × (at ≡ first_at rest)
Fails o fail.NoMemory = Unit {0}

-- what a reader answers, seen by view: what the grammar reads and what is left, or where it is stuck
abbrev pub Reads : {X Y : Type 0} → (X → Y × List Word) → Grammar Word Y → List Word → Result X ReadFail → Type 0
Reads view g ts (Ok x) = g ts ≡ read (view x).0 (view x).1
Reads view g ts (Err f) = Fails (g ts) f
