use Rattle.std.proofs.Common.{◌≡◌, Option, None, Some, refl, sym, subst}
use Rattle.mp_theory.specs.Tables.{IsTheory}
use Rattle.mp_words.specs.declared.fail.TextErr.{TextErr}
use Rattle.mp_words.specs.Faults.{least, or_else}
use Rattle.mp_words.proofs.Answering.{none_least}
use Rattle.mp_theorytext.specs.Statics.{theory_faults}
use Rattle.mp_theorytext.proofs.Adding.{still_theory}
use Rattle.mp_theorytext.proofs.laws.read_theories_are_theories.Goals as goal

no_first : (o : Option TextErr) → or_else o None ≡ None → o ≡ None
no_first None e = refl
no_first (Some f) e = absurd cc

pub returns : goal.returns
returns c t u names later source is h =
    let rs = h.0.raw in
    subst IsTheory (sym h.0.has) (still_theory t rs is (none_least (theory_faults t rs) (no_first (least (theory_faults t rs)) h.0.faultless)))
