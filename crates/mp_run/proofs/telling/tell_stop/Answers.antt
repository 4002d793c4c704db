use Rattle.std.proofs.Common.{[], refl, inl, inr, subst, sym, List, ℕ, ◌∙◌}
use Rattle.mp_run.specs.declared.status.Status.TheVariants as status
use Rattle.mp_run.specs.declared.stop.Stop.{Stop}
use Rattle.mp_run.specs.Sessions.{PutsLine, StopPuts}
use Rattle.mp_run.proofs.telling.tell_stop.Goals as goal

pub returns-in-Refused : goal.returns-in-Refused
returns-in-Refused g c =
    let h = c.tell.ensures in (
      h.0,
      h.1,
      subst (λ (end : Stop). StopPuts end h.0 c.tell.result) (sym c.in-Refused.is) (subst (λ (line : List ℕ). PutsLine line status.Refused h.0 c.tell.result) c.as_slice.ensures h.2),
    )

pub returns-in-Ok : goal.returns-in-Ok
returns-in-Ok g c =
    let h = c.tell-in-Ok.ensures in (
      h.0,
      h.1,
      subst (λ (end : Stop). StopPuts end h.0 c.tell-in-Ok.result) (sym c.in-Fault.is)
          (inl (subst (λ (line : List ℕ). PutsLine line status.ReadFault h.0 c.tell-in-Ok.result) (c.as_slice-in-Ok.ensures ∙ c.in-Ok.ensures) h.2)),
    )

pub returns-in-Err : goal.returns-in-Err
returns-in-Err g c = ([], refl, subst (λ (end : Stop). StopPuts end [] status.NoMemory) (sym c.in-Fault.is) (inr (refl, refl)))

pub returns-in-NoMemory : goal.returns-in-NoMemory
returns-in-NoMemory g c = ([], refl, subst (λ (end : Stop). StopPuts end [] status.NoMemory) (sym c.in-NoMemory.is) (refl, refl))
