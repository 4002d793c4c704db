-- What is made of all of the words, by what the words are.
use Rattle.std.proofs.Common.{◌≡◌, List}
use Rattle.mp_words.specs.declared.word.Word.{Word}
use Rattle.mp_words.specs.declared.parts.ReadFail.{ReadFail}
use Rattle.mp_words.specs.Grammars.{Grammar, Parse, made, read, stuck, then_read}
use Rattle.mp_words.specs.Reading.{Fails}
use Rattle.mp_words.proofs.Steps.{fails_on}

module _ {X Y : Type 0} (make : X → Y) where
  abbrev made_of : Parse Word X → Parse Word Y
  made_of o = then_read o (λ x us. read (make x) us)

  -- a value that is made is made of something that is read
  pub made_from : (o : Parse Word X) (y : Y) (rest : List Word) → made_of o ≡ read y rest → (x : X) × (o ≡ read x rest) × (y ≡ make x)
  made_from (read x us) y rest e = (x, cc, cc)
  made_from (stuck us) y rest e = absurd cc

  made_stuck : (o : Parse Word X) (rest : List Word) → made_of o ≡ stuck rest → o ≡ stuck rest
  made_stuck (read x us) rest e = absurd cc
  made_stuck (stuck us) rest e = cc

  -- where something is to be made and the reading is stuck, the reading itself is
  pub made_fails : (g : Grammar Word X) (ts : List Word) (f : ReadFail) → Fails (made make g ts) f → Fails (g ts) f
  made_fails g ts f h = fails_on (made make g ts) (g ts) (λ rest e. made_stuck (g ts) rest e) f h
