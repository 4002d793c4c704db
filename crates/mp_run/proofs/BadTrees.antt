-- A run ends with BadTree exactly where some tree that was read doesn't prove its goal.
use Rattle.std.proofs.Common.{◌≡◌, ◌⊎◌, inl, inr, Bool, true, false, if◌then◌else◌, List, [], ◌∷◌, refl, sym, subst}
use Rattle.std.specs.Prelude.{◌↔◌, zip}
use Rattle.mp_theory.specs.Tables.{Laws}
use Rattle.mp_scripttext.specs.declared.script.Entry.{Entry}
use Rattle.mp_treetext.specs.declared.printed.Printed.{Printed}
use Rattle.mp_treetext.specs.declared.printed.Printed.TheVariants as printed
use Rattle.mp_report.specs.declared.check.Checked.{Checked}
use Rattle.mp_report.specs.declared.check.Checked.TheVariants as checked
use Rattle.mp_replay.specs.declared.verdict.Verdict.TheVariants as tree
use Rattle.mp_run.specs.declared.piece.Piece.{Piece}
use Rattle.mp_run.specs.declared.piece.Verdict.{Verdict}
use Rattle.mp_run.specs.declared.piece.Verdict.TheVariants.{Closed, Open, Ends}
use Rattle.mp_run.specs.declared.status.Status.{Status}
use Rattle.mp_run.specs.declared.status.Status.TheVariants as status
use Rattle.mp_run.specs.Answers.{HasBadTree}
use Rattle.mp_run.specs.Goals.{is_closed_outcome}
use Rattle.mp_run.specs.Loads.{Search, Evaluated, Drilled, Plan, Searched, Replayed, Said}
use Rattle.mp_run.specs.Parts.{Names}
use Rattle.mp_run.specs.Replays.{IsChecked, IsReplayed, IsBadTree, SomeBadTree, checked_of, run_verdict}
use Rattle.mp_run.specs.Sessions.{Others, Pieces, IsPiece, Says, SaysBy, status_on, status_after, status_of}

-- the status isn't BadTree
abbrev IsNoBadTree : Status → Type 0
IsNoBadTree s = s ≡ status.BadTree → ⊥

all_closed : IsNoBadTree status.AllClosed
all_closed e = absurd cc

not_all : IsNoBadTree status.NotAll
not_all e = absurd cc

-- ## Searches

-- a piece of this verdict doesn't end the run
abbrev GoesOn : Verdict → Type 0
GoesOn Closed = Unit {0}
GoesOn Open = Unit {0}
GoesOn (Ends s) = ⊥

if_goes_on : (b : Bool) (v : Verdict) → v ≡ (if b then Closed else Open) → GoesOn v
if_goes_on true v e = subst GoesOn (sym e) tt
if_goes_on false v e = subst GoesOn (sym e) tt

search_goes_on : (search : Search) (names : Names) (theory : Laws) (entry : Entry) (p : Piece) → IsPiece search names theory entry p → GoesOn p.verdict
search_goes_on Evaluated names theory entry p h = if_goes_on (is_closed_outcome _) p.verdict h.2.verdict
search_goes_on (Drilled events) names theory entry p h = if_goes_on (is_closed_outcome h.3) p.verdict h.5.verdict

on_search : (v : Verdict) (Are : List Piece → Type 0) (ps : List Piece) (before : Status) → GoesOn v → Others v Are ps → IsNoBadTree before → (Are ps → (b : Status) → IsNoBadTree b → IsNoBadTree (status_after ps b))
    → IsNoBadTree (status_on v before (status_after ps))
on_search Closed Are ps before on others clean more = more others before clean
on_search Open Are ps before on others clean more = more others status.NotAll not_all
on_search (Ends s) Are ps before on others clean more = absurd on

no_bad_tree : {X : Type 0} (Is : X → Piece → Type 0) → ((x : X) (p : Piece) → Is x p → GoesOn p.verdict) → (xs : List X) (ps : List Piece) → Pieces Is xs ps → (before : Status) → IsNoBadTree before → IsNoBadTree (status_after ps before)
no_bad_tree Is on [] [] h before clean = clean
no_bad_tree Is on [] (p ∷ ps) h before clean = absurd h
no_bad_tree Is on (x ∷ xs) [] h before clean = absurd h
no_bad_tree Is on (x ∷ xs) (p ∷ ps) h before clean = on_search p.verdict (Pieces Is xs) ps before (on x p h.0) h.1 clean (λ k b n. no_bad_tree Is on xs ps k b n)

-- ## Replays

-- what is said of a block goes with whether its tree is bad
abbrev Agrees : Checked → Type 0 → Type 0
Agrees checked.Closed B = B → ⊥
Agrees (checked.Open n) B = B → ⊥
Agrees checked.Unchecked B = B → ⊥
Agrees (checked.Bad node why) B = B

only_later : {A B C : Type 0} → (A → ⊥) → (B → C) → A ⊎ B → C
only_later never f (inl a) = absurd (never a)
only_later never f (inr b) = f b

module _ (names : Names) (theory : Laws) where
  -- the status after pieces is BadTree exactly where some tree is bad
  abbrev Exact : List (Entry × Printed) → List Piece → Status → Type 0
  Exact xs ps before = (status_after ps before ≡ status.BadTree) ↔ SomeBadTree theory xs

  by_check : (c : Checked) (B : Type 0) (xs : List (Entry × Printed)) (ps : List Piece) (before : Status) → Agrees c B → IsNoBadTree before
      → Others (run_verdict c) (Pieces (IsReplayed names theory) xs) ps
      → (Pieces (IsReplayed names theory) xs ps → (b : Status) → IsNoBadTree b → Exact xs ps b)
      → (status_on (run_verdict c) before (status_after ps) ≡ status.BadTree) ↔ (B ⊎ SomeBadTree theory xs)
  by_check checked.Closed B xs ps before agrees clean others more = let r = more others before clean in (λ e. inr (r.0 e), only_later agrees r.1)
  by_check (checked.Open n) B xs ps before agrees clean others more = let r = more others status.NotAll not_all in (λ e. inr (r.0 e), only_later agrees r.1)
  by_check checked.Unchecked B xs ps before agrees clean others more = let r = more others status.NotAll not_all in (λ e. inr (r.0 e), only_later agrees r.1)
  by_check (checked.Bad node why) B xs ps before agrees clean others more = (λ e. inl agrees, λ h. refl)

  -- what is said of a goal's block
  block_checked : (entry : Entry) (block : Printed) (p : Piece) → IsChecked names theory entry block p → (c : Checked) × (p.verdict ≡ run_verdict c) × Agrees c (IsBadTree theory entry block)
  block_checked entry (printed.Proof t justs) p (steps, are, tree.Closed, is, line) = (checked.Closed, line.line.verdict, λ bad. bad (line.valid.0 refl))
  block_checked entry (printed.Proof t justs) p (steps, are, tree.OpenLeaves n, is, line) = (checked.Open n, line.line.verdict, λ bad. bad (line.valid.0 refl))
  block_checked entry (printed.Proof t justs) p (steps, are, tree.Bad node why, is, line) = (checked_of (tree.Bad node why), line.line.verdict, λ proves. let differ : false ≡ true = line.valid.1 proves in absurd cc)
  block_checked entry (printed.Failed kind tac goal) p h = (checked.Unchecked, h.verdict, λ bad. bad)

  exact : (xs : List (Entry × Printed)) (ps : List Piece) → Pieces (IsReplayed names theory) xs ps → (before : Status) → IsNoBadTree before → Exact xs ps before
  exact [] [] h before clean = (λ e. clean e, λ bad. absurd bad)
  exact [] (p ∷ ps) h before clean = absurd h
  exact (x ∷ xs) [] h before clean = absurd h
  exact (x ∷ xs) (p ∷ ps) h before clean =
      let c = block_checked x.0 x.1 p h.0 in
      let others = subst (λ (v : Verdict). Others v (Pieces (IsReplayed names theory) xs) ps) c.1 h.1 in
      subst (λ (v : Verdict). (status_on v before (status_after ps) ≡ status.BadTree) ↔ (IsBadTree theory x.0 x.1 ⊎ SomeBadTree theory xs)) (sym c.1)
      (by_check c.0 (IsBadTree theory x.0 x.1) xs ps before c.2 clean others (λ k b n. exact xs ps k b n))

by_plan : (plan : Plan) (names : Names) (theory : Laws) (goals : List Entry) (ps : List Piece) → SaysBy plan names theory goals ps → (status_of ps ≡ status.BadTree) ↔ HasBadTree plan theory goals
by_plan (Searched by) names theory goals ps h =
    (λ e. no_bad_tree (IsPiece by names theory) (λ x p k. search_goes_on by names theory x p k) goals ps h status.AllClosed all_closed e, λ bad. absurd bad)
by_plan (Replayed blocks) names theory goals ps h = exact names theory (zip goals blocks) ps h.1 status.AllClosed all_closed

-- the pieces that are put give BadTree exactly where some tree that was read is bad
pub bad_trees_end : (said : Said) (ps : List Piece) → Says said ps → (status_of ps ≡ status.BadTree) ↔ HasBadTree said.plan said.theory said.goals
bad_trees_end said ps h = by_plan said.plan said.names said.theory said.goals ps h
