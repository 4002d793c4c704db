use Rattle.mp_words.specs.Texts.{one_pass}
use Rattle.mp_words.proofs.Answering.{some_text}
use Rattle.mp_drill.specs.ScheduleGrammar.{schedule}
use Rattle.mp_drill.specs.ScheduleStatics.{schedule_faults}
use Rattle.mp_drill.specs.ScheduleValues.{schedule_of}
use Rattle.mp_drill.proofs.laws.some_schedule_text.Goals as goal

pub returns : goal.returns
returns c = λ goals. some_text schedule (one_pass (schedule_faults goals)) schedule_of
