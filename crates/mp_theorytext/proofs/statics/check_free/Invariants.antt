use Rattle.std.proofs.Common.{◌≡◌, drop}
use Rattle.std.specs.List.{flat_map}
use Rattle.mp_theory.specs.Tables.{name_taken}
use Rattle.mp_words.specs.Faults.{fault_if, least_from}
use Rattle.mp_theorytext.specs.declared.raw.RawLaw.{RawLaw}
use Rattle.mp_words.specs.declared.fail.TextWhy.TheVariants as why
use Rattle.mp_theorytext.specs.Statics.{law_name}
use Rattle.mp_theorytext.proofs.statics.check_free.Given as goal

abbrev pub invariant-loop-raw : goal.invariant-loop-raw
invariant-loop-raw l =
    least_from l.held (flat_map (λ (r : RawLaw). fault_if (name_taken l.theory (law_name r).name) (law_name r).at why.Taken) (drop l.raw-index l.raws))
    ≡ least_from l.fn.held (flat_map (λ (r : RawLaw). fault_if (name_taken l.theory (law_name r).name) (law_name r).at why.Taken) l.raws)
