-- Goals, and goals with their blocks, each of which has a piece.
use Rattle.std.proofs.Common.{◌≡◌, List, [], ◌∷◌, ap, ◌∙◌}
use Rattle.std.specs.List.{AllByRecursion}
use Rattle.std.specs.Prelude.{zip}
use Rattle.mp_theory.specs.Tables.{Laws, IsTheory}
use Rattle.mp_refiner.specs.Law.{StepLaw}
use Rattle.mp_scripttext.specs.declared.script.Entry.{Entry}
use Rattle.mp_scripttext.specs.Entries.{IsGoodEntry, EachGood}
use Rattle.mp_treetext.specs.declared.printed.Printed.{Printed}
use Rattle.mp_treetext.specs.Printed.{IsGoodPrinted, EachGoodPrinted}
use Rattle.mp_run.specs.Loads.{Search}
use Rattle.mp_run.specs.Parts.{Names}
use Rattle.mp_run.specs.Replays.{IsReplayed}
use Rattle.mp_run.specs.Sessions.{IsPiece}
use Rattle.mp_run.proofs.GoalPieces.{EachTrace, some_piece}
use Rattle.mp_run.proofs.PutPieces.{SomePieces, some_pieces}
use Rattle.mp_run.proofs.Replaying.{some_replayed}

module _ (theory : Laws) where
  -- the goal can be evaluated, and its block can be checked
  abbrev pub IsGoodPair : Entry × Printed → Type 0
  IsGoodPair x = IsGoodEntry theory x.0 × IsGoodPrinted theory x.1

  pub each_entry : (es : List Entry) → EachGood theory es → AllByRecursion (IsGoodEntry theory) es
  each_entry [] h = tt
  each_entry (e ∷ es) h = (h.0, each_entry es h.1)

  pub each_pair : (es : List Entry) (bs : List Printed) → EachGood theory es → EachGoodPrinted theory bs → AllByRecursion IsGoodPair (zip es bs)
  each_pair [] bs h k = tt
  each_pair (e ∷ es) [] h k = tt
  each_pair (e ∷ es) (b ∷ bs) h k = ((h.0, k.0), each_pair es bs h.1 k.1)

-- two lists that have a first one each, beside each other
pub zip_next : (e : Entry) (b : Printed) (es more : List Entry) (bs left : List Printed) → es ≡ e ∷ more → bs ≡ b ∷ left → zip es bs ≡ (e, b) ∷ zip more left
zip_next e b es more bs left h k = ap (λ xs. zip xs bs) h ∙ ap (λ ys. zip (e ∷ more) ys) k

-- without a goal, or without a block, there is no pair
pub zip_no_goal : (es : List Entry) (bs : List Printed) → es ≡ [] → zip es bs ≡ []
zip_no_goal es bs h = ap (λ xs. zip xs bs) h

pub zip_no_block : (e : Entry) (es more : List Entry) (bs : List Printed) → es ≡ e ∷ more → bs ≡ [] → zip es bs ≡ []
zip_no_block e es more bs h k = ap (λ xs. zip xs bs) h ∙ ap (λ ys. zip (e ∷ more) ys) k

module _ (law : StepLaw) (names : Names) (theory : Laws) (is_theory : IsTheory theory) where
  -- the pieces of goals
  pub some_searched : EachTrace → (search : Search) (es : List Entry) → EachGood theory es → SomePieces (IsPiece search names theory) es
  some_searched traces search es good =
      some_pieces (IsGoodEntry theory) (IsPiece search names theory) (λ e h. some_piece law names theory e is_theory h traces search) es (each_entry theory es good)

  -- the pieces of goals with their blocks
  pub some_checked : (es : List Entry) (bs : List Printed) → EachGood theory es → EachGoodPrinted theory bs → SomePieces (IsReplayed names theory) (zip es bs)
  some_checked es bs good blocks =
      some_pieces (IsGoodPair theory) (IsReplayed names theory) (λ x h. some_replayed law names theory is_theory x.0 h.0.good x.1 h.1) (zip es bs) (each_pair theory es bs good blocks)
