-- A goal without static faults can be evaluated.
use Rattle.std.proofs.Common.{◌≡◌, ℕ, ◌≤◌, ◌++◌, List, [], ◌∷◌, map, length, true, false, nat_le, nat_lt, Option, None, Some, refl, arith}
use Rattle.std.specs.Prelude.{nat_abs}
use Rattle.std.specs.List.{flat_map, list_all}
use Rattle.std.proofs.lemmas.Bool.{and_from, and_parts}
use Rattle.std.proofs.lemmas.Bool.Decides.{nat_tests}
use Rattle.std.proofs.lemmas.List.{length-map}
use Rattle.mp_theory.specs.Tables.{IsTheory, Laws}
use Rattle.mp_strategy.specs.declared.limits.TheConstants.{MOST_DEPTH, MOST_FUEL, MOST_NODES}
use Rattle.mp_theory.specs.Allowed.{is_allowed}
use Rattle.mp_words.specs.declared.fail.TextWhy.TheVariants as why
use Rattle.mp_words.specs.declared.fail.TextErr.{TextErr}
use Rattle.mp_words.specs.declared.raw.RawNumber.{RawNumber}
use Rattle.mp_words.specs.Faults.{fault_if, fault_of_passes, least, or_else}
use Rattle.mp_words.proofs.Answering.{none_least}
use Rattle.mp_words.specs.Seconds.{second_faults}
use Rattle.mp_words.specs.Ranges.{written_number_faults}
use Rattle.mp_termtext.specs.Statics.{sequent_faults}
use Rattle.mp_termtext.specs.declared.raw.RawBound.{RawBound}
use Rattle.mp_words.proofs.NoFaults.{nil_parts, no_fault, number_between}
use Rattle.mp_steptext.specs.declared.raw.RawStep.{RawStep}
use Rattle.mp_steptext.specs.Terms.{just_of, term_step_faults}
use Rattle.mp_steptext.proofs.AllowedSteps.{step_allowed}
use Rattle.mp_scripttext.specs.declared.raw.RawEntry.{RawEntry}
use Rattle.mp_scripttext.specs.Entries.{EachGood, IsGoodEntry}
use Rattle.mp_scripttext.specs.Statics.{entry_faults, script_faults, shape_faults, strategy_faults}
use Rattle.mp_scripttext.specs.Strategies.{strategy_of}
use Rattle.mp_scripttext.specs.Values.{entry_of, fuel_of}
use Rattle.mp_scripttext.proofs.GoodSequents.{sequent_good}
use Rattle.mp_scripttext.proofs.RawTables.{strategy_table}
use Rattle.mp_scripttext.proofs.Tables.{table_fits}

at_most : (m n : ℕ) → nat_lt n m ≡ false → m ≤ n
at_most m n h = grind (arith, nat_tests, h)

-- what a goal without faults keeps
pub record Keeps (t : Laws) (e : RawEntry) : Type 0 where
  pub fuel : written_number_faults 0 MOST_FUEL e.fuel ≡ []
  pub goal : sequent_faults e.goal ≡ []
  pub strategy : (strategy_of e.strategy).faults t ≡ []
  pub few : (strategy_of e.strategy).nodes ≤ MOST_NODES
  pub shallow : (strategy_of e.strategy).depth ≤ MOST_DEPTH

pub entry_keeps : (t : Laws) (e : RawEntry) → entry_faults t e ≡ [] → Keeps t e
entry_keeps t e h =
    let s = strategy_of e.strategy in
    let both = nil_parts (written_number_faults 0 MOST_FUEL e.fuel ++ sequent_faults e.goal) (strategy_faults t e s) h in
    let first = nil_parts (written_number_faults 0 MOST_FUEL e.fuel) (sequent_faults e.goal) both.0 in
    let many = fault_if (nat_lt MOST_NODES s.nodes) e.name.at why.TooMany in
    let deep = fault_if (nat_lt MOST_DEPTH s.depth) e.strategy.at why.TooDeep in
    let parts = nil_parts (s.faults t) (shape_faults e s) both.1 in
    let limits = nil_parts many deep parts.1 in
    record {
      fuel = first.0;
      goal = first.1;
      strategy = parts.0;
      few = at_most s.nodes MOST_NODES (no_fault (nat_lt MOST_NODES s.nodes) e.name.at why.TooMany limits.0);
      shallow = at_most s.depth MOST_DEPTH (no_fault (nat_lt MOST_DEPTH s.depth) e.strategy.at why.TooDeep limits.1);
    }

module _ (t : Laws) (is_theory : IsTheory t) where
  steps_allowed : (ss : List (RawStep RawBound)) → flat_map (term_step_faults t) ss ≡ [] → list_all (is_allowed t) (map (just_of t) ss) ≡ true
  steps_allowed [] h = refl
  steps_allowed (s ∷ ss) h =
      let both = nil_parts (term_step_faults t s) (flat_map (term_step_faults t) ss) h in
      and_from _ _ (step_allowed t is_theory s both.0) (steps_allowed ss both.1)

  fuel_within : (fuel : Option RawNumber) → written_number_faults 0 MOST_FUEL fuel ≡ [] → fuel_of fuel ≤ MOST_FUEL
  fuel_within None h = omega arith
  fuel_within (Some n) h =
      let few : nat_le (nat_abs n.value) 400 ≡ true = (and_parts (nat_le 0 (nat_abs n.value)) (nat_le (nat_abs n.value) 400) (number_between 0 400 n h)).1 in
      grind (arith, nat_tests, few)

  entry_good : (e : RawEntry) → Keeps t e → IsGoodEntry t (entry_of t e)
  entry_good e k =
      let s = strategy_of e.strategy in
      let table = strategy_table e.strategy in
      record {
        fits = table_fits t s (length (map (just_of t) s.steps)) table k.strategy (length-map s.steps (just_of t)) k.few k.shallow;
        allowed = steps_allowed s.steps (table.clean t k.strategy);
        good = sequent_good e.goal k.goal;
        fuel = fuel_within e.fuel k.fuel;
      }

  -- the goals can be evaluated
  pub entries_good : (es : List RawEntry) → flat_map (entry_faults t) es ≡ [] → EachGood t (map (entry_of t) es)
  entries_good [] h = tt
  entries_good (e ∷ es) h =
      let both = nil_parts (entry_faults t e) (flat_map (entry_faults t) es) h in
      (entry_good e (entry_keeps t e both.0), entries_good es both.1)

-- ## No goal of a script without faults has one

-- where the only pass finds nothing there is no fault
pub no_static_fault : (fs : List TextErr) → fault_of_passes (fs ∷ []) ≡ None → fs ≡ []
no_static_fault fs h = none_least fs (by (least fs) h)
  where
    by : (o : Option TextErr) → or_else o None ≡ None → o ≡ None
    by None e = refl
    by (Some f) e = absurd cc

-- no goal of a script without faults has one
pub entries_faultless : (t : Laws) (es : List RawEntry) → script_faults t es ≡ [] → flat_map (entry_faults t) es ≡ []
entries_faultless t es h = (nil_parts (second_faults (λ (e : RawEntry). e.name) why.Taken es) (flat_map (entry_faults t) es) h).1
