-- The texts of a command, each read in its turn.
use Rattle.std.proofs.Common.{◌≡◌, inl, [], Result, Ok, Err, refl, subst}
use Rattle.mp_ports.specs.Calls.{Read}
use Rattle.mp_theory.specs.Tables.{Laws, no_laws}
use Rattle.mp_theorytext.specs.Reading.{ReadsTheory}
use Rattle.mp_scripttext.specs.declared.script.Script.{Script as Goals}
use Rattle.mp_scripttext.specs.Reading.{ReadsScript}
use Rattle.mp_report.specs.declared.refusal.FileKind.TheVariants.{Theory, Script}
use Rattle.mp_run.specs.declared.stop.Stop.{Stop}
use Rattle.mp_run.specs.Commands.{Command}
use Rattle.mp_run.specs.Loads.{Plan, Said, plan_part, after_script, after_theory, loads}
use Rattle.mp_run.specs.Parts.{Names, Part, Makes, gives, read_as}
use Rattle.mp_run.proofs.Chains.{stops, goes_on}

module _ {S : Type 0} (R : S → S → Read → Type 0) (c : Command) (names : Names) (none : names ≡ []) where
  -- what the theory's text gives
  abbrev pub TheoryMakes : S → S → Result (Laws × Names) Stop → Type 0
  TheoryMakes s t out = Makes R (read_as Theory c.theory (ReadsTheory no_laws names)) s t out

  from_nothing : (s t : S) (out : Result (Laws × Names) Stop) → TheoryMakes s t out → Makes R (read_as Theory c.theory (ReadsTheory no_laws [])) s t out
  from_nothing s t out h = subst (λ (old : Names). Makes R (read_as Theory c.theory (ReadsTheory no_laws old)) s t out) none h

  pub theory_stops : (s t : S) (end : Stop) → TheoryMakes s t (Err end) → Makes R (loads c) s t (Err end)
  theory_stops s t end h = stops R (read_as Theory c.theory (ReadsTheory no_laws [])) (after_theory c.script c.task) s t end (from_nothing s t (Err end) h)

  module _ (s m : S) (theory : Laws) (met : Names) (first : TheoryMakes s m (Ok (theory, met))) where
    onward : (t : S) (out : Result Said Stop) → Makes R (after_theory c.script c.task (theory, met)) m t out → Makes R (loads c) s t out
    onward t out h = goes_on R (read_as Theory c.theory (ReadsTheory no_laws [])) (after_theory c.script c.task) s m t (theory, met) out (from_nothing s m (Ok (theory, met)) first) h

    -- what the script's text gives
    abbrev pub ScriptMakes : S → Result (Goals × Names) Stop → Type 0
    ScriptMakes t out = Makes R (read_as Script c.script (ReadsScript theory met)) m t out

    pub script_stops : (t : S) (end : Stop) → ScriptMakes t (Err end) → Makes R (loads c) s t (Err end)
    script_stops t end h = onward t (Err end) (stops R (read_as Script c.script (ReadsScript theory met)) (after_script c.task theory) m t end h)

    module _ (n : S) (script : Goals) (known : Names) (second : ScriptMakes n (Ok (script, known))) where
      -- what the task reads gives
      abbrev pub PlanMakes : S → Result (Plan × Names) Stop → Type 0
      PlanMakes t out = Makes R (plan_part c.task theory script known) n t out

      -- all that is said, by the plan
      abbrev rest : Plan × Names → Part Said
      rest plan = gives (record { names = plan.1; theory = theory; goals = script.entries; plan = plan.0 })

      after : (t : S) (out : Result Said Stop) → Makes R (after_script c.task theory (script, known)) n t out → Makes R (loads c) s t out
      after t out h = onward t out (goes_on R (read_as Script c.script (ReadsScript theory met)) (after_script c.task theory) m n t (script, known) out second h)

      pub plan_stops : (t : S) (end : Stop) → PlanMakes t (Err end) → Makes R (loads c) s t (Err end)
      plan_stops t end h = after t (Err end) (stops R (plan_part c.task theory script known) rest n t end h)

      pub all_read : (t : S) (plan : Plan) (later : Names) → PlanMakes t (Ok (plan, later)) → Makes R (loads c) s t (Ok (record { names = later; theory = theory; goals = script.entries; plan = plan }))
      all_read t plan later h =
          let out : Result Said Stop = Ok (record { names = later; theory = theory; goals = script.entries; plan = plan }) in
          let last : Makes R (rest (plan, later)) t t out = ([], refl, (refl, inl refl)) in
          after t out (goes_on R (plan_part c.task theory script known) rest n t t (plan, later) out h last)
