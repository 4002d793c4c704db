use Rattle.std.proofs.Common.{◌≡◌, Option, None, Some, false, is_some, refl, sym, true≢false, ◌∙◌}
use Rattle.mp_words.specs.declared.fail.TextErr.{TextErr}
use Rattle.mp_scripttext.specs.Statics.{entry_faults}
use Rattle.mp_scripttext.proofs.EitherOrder.{none_further}
use Rattle.mp_scripttext.proofs.goals.add_written.Goals as goal

not_some : (o : Option TextErr) → false ≡ is_some o → o ≡ None
not_some None e = refl
not_some (Some f) e = absurd (true≢false (sym e))

pub build_entry-requires : goal.build_entry-requires
build_entry-requires c =
    none_further c.add_name.new.goals.held (entry_faults c.args.theory.now c.args.raw.now) (sym c.in_ok-held.ensures ∙ not_some c.in_ok-held.held c.if-is_some.ensures)
