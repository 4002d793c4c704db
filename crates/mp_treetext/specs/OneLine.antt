-- A part of a grammar that stands on one line, and a part that goes by the one before it.
use Rattle.std.specs.Prelude.{◌++◌, List, [], ◌∷◌, None, Some, if◌then◌else◌}
use Rattle.mp_words.specs.declared.word.Word.{Word}
use Rattle.mp_words.specs.declared.parts.ReadFail.{ReadFail}
use Rattle.mp_words.specs.declared.parts.ReadFail.TheVariants as fail
use Rattle.mp_words.specs.Fronts.{first_at}
use Rattle.mp_words.specs.Grammars.{Grammar, Parse, pair, read, stuck, then_read, whole}

-- the words before the first one that opens a line
abbrev pub until_line : List Word → List Word
until_line [] = []
until_line (w ∷ ws) = if w.opens_line then [] else w ∷ until_line ws

-- the words from the first one on that opens a line
abbrev pub from_line : List Word → List Word
from_line [] = []
from_line (w ∷ ws) = if w.opens_line then w ∷ ws else from_line ws

-- the first word and the others on its line
abbrev pub front_line : List Word → List Word
front_line [] = []
front_line (w ∷ ws) = w ∷ until_line ws

-- the words after the line of the first one
abbrev pub other_lines : List Word → List Word
other_lines [] = []
other_lines (w ∷ ws) = from_line ws

-- an outcome of a reading, where these words follow those that were given to it
abbrev pub followed_by : {X : Type 0} → List Word → Parse Word X → Parse Word X
followed_by later (read x us) = read x (us ++ later)
followed_by later (stuck us) = stuck (us ++ later)

-- the part, which is all of the first word's line: a word that stands on another line, or that is left on this one, is a wrong one
abbrev pub on_one_line : {X : Type 0} → Grammar Word X → Grammar Word X
on_one_line g ts = followed_by (other_lines ts) (whole g (front_line ts))

-- first the one, and then what goes with its value
abbrev pub then_by : {X Y : Type 0} → Grammar Word X → (X → Grammar Word Y) → Grammar Word (X × Y)
then_by g h ts = then_read (g ts) (λ x us. then_read (h x us) (λ y vs. read (pair x y) vs))

-- why a reader stopped, where these words follow those that were given to it
abbrev pub fail_before : List Word → ReadFail → ReadFail
fail_before later (fail.Stuck None) = fail.Stuck (first_at later)
fail_before later (fail.Stuck (Some at)) = fail.Stuck (Some at)
fail_before later fail.NoMemory = fail.NoMemory
