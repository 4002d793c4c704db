-- The text that is printed of a drill: each event with its reply.
use Rattle.std.specs.Prelude.{ℕ, ◌++◌, List, [], ◌∷◌, codes}
use Rattle.std.specs.Fmt.{decimal}
use Rattle.mp_logic.specs.declared.sym.Sym.{Sym}
use Rattle.mp_names.specs.Table.{text_of}
use Rattle.mp_drill.specs.declared.schedule.Event.{Event}
use Rattle.mp_drill.specs.declared.schedule.Event.TheVariants as event
use Rattle.mp_drill.specs.declared.schedule.Reply.{Reply}
use Rattle.mp_drill.specs.declared.schedule.Reply.TheVariants as reply

-- an event as a schedule writes it, the units always there
abbrev pub event_text : Event → List ℕ
event_text (event.Claim who) = codes "claim " ++ decimal who
event_text (event.Send who units) = codes "send " ++ decimal who ++ codes " " ++ decimal units
event_text (event.Again who) = codes "again " ++ decimal who
event_text (event.Die who) = codes "die " ++ decimal who
event_text (event.Lose who) = codes "lose " ++ decimal who
event_text event.Reissue = codes "reissue"

-- the text of a reply
abbrev pub reply_text : Reply → List ℕ
reply_text (reply.Ticket epoch) = codes "ticket " ++ decimal epoch
reply_text reply.Nothing = codes "nothing"
reply_text reply.Finished = codes "finished"
reply_text reply.Spent = codes "spent"
reply_text reply.Taken = codes "taken"
reply_text reply.Stale = codes "stale"
reply_text (reply.Back count) = codes "back " ++ decimal count
reply_text reply.Gone = codes "gone"
reply_text reply.Empty = codes "empty"

-- a line for each event with its reply
abbrev pub lines_text : List Event → List Reply → List ℕ
lines_text (e ∷ es) (r ∷ rs) = event_text e ++ codes ": " ++ reply_text r ++ codes "\n" ++ lines_text es rs
lines_text [] rs = []
lines_text (e ∷ es) [] = []

-- the goal's name, and the lines
abbrev pub trace_text : List (List ℕ) → Sym → List Event → List Reply → List ℕ
trace_text names name events replies = codes "drill " ++ text_of names name.0 ++ codes "\n" ++ lines_text events replies
