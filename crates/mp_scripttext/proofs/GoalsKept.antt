-- What is kept of goals that are read one after the other, by what is written of all of them.
use Rattle.std.proofs.Common.{◌≡◌, ◌++◌, List, [], ◌∷◌, map, append_assoc, append-nil, None, refl, ap, sym, ◌∙◌}
use Rattle.std.specs.List.{flat_map}
use Rattle.mp_logic.specs.declared.sym.Sym.{Sym}
use Rattle.mp_names.specs.Sets.{is_among}
use Rattle.mp_theory.specs.Tables.{Laws}
use Rattle.mp_words.specs.declared.fail.TextWhy.TheVariants as why
use Rattle.mp_words.specs.declared.word.Word.{Word}
use Rattle.mp_words.specs.Faults.{fault_if, least, least_from}
use Rattle.mp_words.specs.Grammars.{made, read, whole}
use Rattle.mp_words.specs.Seconds.{second_after, second_faults}
use Rattle.mp_words.proofs.Soonest.{least_from_append}
use Rattle.mp_scripttext.specs.declared.goals.GoalName.{GoalName}
use Rattle.mp_scripttext.specs.declared.goals.Goals.{Goals}
use Rattle.mp_scripttext.specs.declared.raw.RawEntry.{RawEntry}
use Rattle.mp_scripttext.specs.declared.script.Entry.{Entry}
use Rattle.mp_scripttext.specs.declared.script.Script.{Script}
use Rattle.mp_scripttext.specs.Goals.{goal_name, kept_fault, no_goals, unless_held, with_goal, with_goals}
use Rattle.mp_scripttext.specs.Grammar.{script}
use Rattle.mp_scripttext.specs.Statics.{entry_faults, script_faults}
use Rattle.mp_scripttext.specs.Values.{entry_of, script_of}
use Rattle.mp_scripttext.proofs.EitherOrder.{either_order, none_before}
use Rattle.mp_scripttext.proofs.GoodEntries.{entries_faultless}
use Rattle.mp_scripttext.proofs.WholeMade.{made_from}

-- the faults of a second goal of its name are those of a second name
seconds_of : (before : List Sym) (es : List RawEntry) → second_after (λ (n : GoalName). n.0) why.Taken before (map goal_name es) ≡ second_after (λ (e : RawEntry). e.name) why.Taken before es
seconds_of before [] = refl
seconds_of before (e ∷ es) = ap (λ fs. fault_if (is_among before e.name.name) e.name.at why.Taken ++ fs) (seconds_of (before ++ e.name.name ∷ []) es)

module _ (t : Laws) where
  -- one goal more
  pub with_next : (g : Goals) (es : List RawEntry) (e : RawEntry) → with_goals t g (es ++ e ∷ []) ≡ with_goal t (with_goals t g es) e
  with_next g [] e = refl
  with_next g (d ∷ es) e = with_next (with_goal t g d) es e

  names_kept : (g : Goals) (es : List RawEntry) → (with_goals t g es).names ≡ g.names ++ map goal_name es
  names_kept g [] = sym (append-nil g.names)
  names_kept g (e ∷ es) = names_kept (with_goal t g e) es ∙ append_assoc g.names (goal_name e ∷ []) (map goal_name es)

  held_kept : (g : Goals) (es : List RawEntry) → (with_goals t g es).held ≡ least_from g.held (flat_map (entry_faults t) es)
  held_kept g [] = refl
  held_kept g (e ∷ es) = held_kept (with_goal t g e) es ∙ sym (least_from_append g.held (entry_faults t e) (flat_map (entry_faults t) es))

  entries_kept : (g : Goals) (es : List RawEntry) → (with_goals t g es).held ≡ None → (with_goals t g es).entries ≡ g.entries ++ map (entry_of t) es
  entries_kept g [] h = sym (append-nil g.entries)
  entries_kept g (e ∷ es) h =
      let next = with_goal t g e in
      let none : next.held ≡ None = none_before next.held (flat_map (entry_faults t) es) (sym (held_kept next es) ∙ h) in
      entries_kept next es h
      ∙ ap (λ o. unless_held o g.entries (entry_of t e) ++ map (entry_of t) es) none
      ∙ append_assoc g.entries (entry_of t e ∷ []) (map (entry_of t) es)

  -- the fault that is found of all goals is that of the script
  pub fault_kept : (es : List RawEntry) → kept_fault (with_goals t no_goals es) ≡ least (script_faults t es)
  fault_kept es =
      let kept = with_goals t no_goals es in
      let faults = flat_map (entry_faults t) es in
      let seconds = second_faults (λ (n : GoalName). n.0) why.Taken in
      ap (λ o. least_from o (seconds kept.names)) (held_kept no_goals es)
      ∙ ap (λ ns. least_from (least faults) (seconds ns)) (names_kept no_goals es)
      ∙ ap (λ fs. least_from (least faults) fs) (seconds_of [] es)
      ∙ either_order faults (second_faults (λ (e : RawEntry). e.name) why.Taken es)

  -- without a fault the goals that are kept are those that are written
  pub all_kept : (es : List RawEntry) → script_faults t es ≡ [] → (with_goals t no_goals es).entries ≡ map (entry_of t) es
  all_kept es h = entries_kept no_goals es (held_kept no_goals es ∙ ap least (entries_faultless t es h))

-- ## What is kept of all words

-- the words are these goals, the fault that is found is the script's, and without one the script is kept
pub record KeptOf (t : Laws) (ws : List Word) (g : Goals) : Type 0 where
  pub raws : List RawEntry
  pub written : whole script ws ≡ read raws []
  pub fault : kept_fault g ≡ least (script_faults t raws)
  pub all : script_faults t raws ≡ [] → g.entries ≡ map (entry_of t) raws

pub kept_of : (t : Laws) (ws : List Word) (start kept : Goals) → start ≡ no_goals → made (with_goals t start) (whole script) ws ≡ read kept [] → KeptOf t ws kept
kept_of t ws start kept none h =
    let from = made_from (with_goals t start) (whole script ws) kept [] h in
    let is : kept ≡ with_goals t no_goals from.0 = from.2 ∙ ap (λ g. with_goals t g from.0) none in
    record {
      raws = from.0;
      written = from.1;
      fault = ap kept_fault is ∙ fault_kept t from.0;
      all = λ faultless. ap (λ (g : Goals). g.entries) is ∙ all_kept t from.0 faultless;
    }

-- the goals that are kept are those of the script
pub script_kept : (t : Laws) (raws : List RawEntry) (es : List Entry) (s : Script) → s ≡ record { entries = es } → es ≡ map (entry_of t) raws → s ≡ script_of t raws
script_kept t raws es s is e = is ∙ ap (λ xs. let made : Script = record { entries = xs } in made) e
