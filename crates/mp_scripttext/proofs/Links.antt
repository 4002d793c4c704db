-- Links and prefixes make tables of tables.
use Rattle.std.proofs.Common.{◌≡◌, ℕ, ◌+◌, ◌≤◌, List, [], ◌∷◌, length, true, nat_le, nat_lt, refl, arith}
use Rattle.std.specs.Prelude.{nat_abs}
use Rattle.std.proofs.lemmas.Bool.{and_from, and_parts}
use Rattle.std.proofs.lemmas.Bool.Decides.{nat_tests}
use Rattle.mp_strategy.specs.declared.tactic.Tac.TheVariants as tac
use Rattle.mp_strategy.specs.declared.tactic.TacId.{TacId}
use Rattle.mp_strategy.specs.Fits.{counts_fit, justs_of, parts_of, places}
use Rattle.mp_words.specs.declared.fail.TextErr.{TextErr}
use Rattle.mp_words.specs.declared.raw.RawNumber.{RawNumber}
use Rattle.mp_words.specs.Faults.{too_many}
use Rattle.mp_words.specs.Ranges.{number_faults}
use Rattle.mp_words.proofs.NoFaults.{not_many, number_between}
use Rattle.mp_scripttext.specs.declared.raw.RawPrefix.{RawPrefix}
use Rattle.mp_scripttext.specs.declared.raw.RawPrefix.TheVariants as before
use Rattle.mp_scripttext.specs.Strategies.{Link, Strategy, else_link, fail_alone, id_alone, linked, linked_all, numbers, prefix_faults, prefix_link, race_row, race_strategy, then_link, then_list_link}
use Rattle.mp_scripttext.proofs.Tables.{AreTables, IsTable, over_table}

pub id_table : IsTable id_alone
id_table = over_table (λ here. tac.Id) [] [] (record { names = λ here. refl; no_justs = λ here. refl; counts = λ e here. refl }) tt

pub fail_table : IsTable fail_alone
fail_table = over_table (λ here. tac.Fail) [] [] (record { names = λ here. refl; no_justs = λ here. refl; counts = λ e here. refl }) tt

-- the row names the strategy and the further parts, and no justification, and its counts are within the limits if there is no fault
pub record IsLink (own : List TextErr) (l : Link) : Type 0 where
  pub parts : AreTables l.parts
  pub names : (first next : ℕ) → parts_of (l.row first next) ≡ first ∷ places (numbers l.parts next)
  pub no_justs : (first next : ℕ) → justs_of (l.row first next) ≡ []
  pub counts : own ≡ [] → (first next : ℕ) → counts_fit (l.row first next) ≡ true

abbrev pub AreLinks : List Link → Type 0
AreLinks [] = Unit {0}
AreLinks (l ∷ ls) = IsLink [] l × AreLinks ls

pub linked_table : (own : List TextErr) (s : Strategy) (l : Link) → IsTable s → IsLink own l → IsTable (linked own s l)
linked_table own s l t k =
    over_table (λ here. l.row (here + 1) (here + 1 + s.nodes)) own (s ∷ l.parts)
    (record {
      names = λ here. k.names (here + 1) (here + 1 + s.nodes);
      no_justs = λ here. k.no_justs (here + 1) (here + 1 + s.nodes);
      counts = λ e here. k.counts e (here + 1) (here + 1 + s.nodes);
    })
    (t, k.parts)

pub linked_all_table : (s : Strategy) (ls : List Link) → IsTable s → AreLinks ls → IsTable (linked_all s ls)
linked_all_table s [] t ks = t
linked_all_table s (l ∷ ls) t ks = linked_all_table (linked [] s l) ls (linked_table [] s l t ks.0) ks.1

pub then_is_link : (b : Strategy) → IsTable b → IsLink [] (then_link b)
then_is_link b t = record { parts = (t, tt); names = λ first next. refl; no_justs = λ first next. refl; counts = λ e first next. refl }

pub else_is_link : (b : Strategy) → IsTable b → IsLink [] (else_link b)
else_is_link b t = record { parts = (t, tt); names = λ first next. refl; no_justs = λ first next. refl; counts = λ e first next. refl }

pub then_list_is_link : (bs : List Strategy) → AreTables bs → IsLink [] (then_list_link bs)
then_list_is_link bs ts = record { parts = ts; names = λ first next. refl; no_justs = λ first next. refl; counts = λ e first next. refl }

few_times : (n : RawNumber) → number_faults 0 400 n ≡ [] → nat_le (nat_abs n.value) 400 ≡ true
few_times n h = (and_parts (nat_le 0 (nat_abs n.value)) (nat_le (nat_abs n.value) 400) (number_between 0 400 n h)).1

pub prefix_is_link : (p : RawPrefix) → IsLink (prefix_faults p) (prefix_link p)
prefix_is_link before.Try = else_is_link id_alone id_table
prefix_is_link (before.Repeat n) = record { parts = tt; names = λ first next. refl; no_justs = λ first next. refl; counts = λ e first next. few_times n e }
prefix_is_link before.Progress = record { parts = tt; names = λ first next. refl; no_justs = λ first next. refl; counts = λ e first next. refl }
prefix_is_link before.Complete = record { parts = tt; names = λ first next. refl; no_justs = λ first next. refl; counts = λ e first next. refl }

-- ## Races

race_names : (ids : List TacId) → parts_of (race_row ids) ≡ places ids
race_names [] = refl
race_names (b ∷ bs) = refl

race_no_justs : (ids : List TacId) → justs_of (race_row ids) ≡ []
race_no_justs [] = refl
race_no_justs (b ∷ bs) = refl

race_counts : (ids : List TacId) → length ids ≤ 8 → counts_fit (race_row ids) ≡ true
race_counts [] few = refl
race_counts (b ∷ bs) few =
    let some : nat_lt 0 (length (b ∷ bs)) ≡ true = grind (arith, nat_tests) in
    let no_more : nat_le (length (b ∷ bs)) 8 ≡ true = grind (arith, nat_tests, few) in
    and_from _ _ some no_more

length-numbers : (ss : List Strategy) (node : ℕ) → length (numbers ss node) ≡ length ss
length-numbers [] node = refl
length-numbers (s ∷ ss) node = (let r = length-numbers ss (node + s.nodes) in omega (arith, r))

pub race_table : {X : Type 0} (at : X → ℕ) (xs : List X) (ss : List Strategy) → length ss ≡ length xs → AreTables ss → IsTable (race_strategy (too_many at 8 xs) ss)
race_table at xs ss e ts =
    over_table (λ here. race_row (numbers ss (here + 1))) (too_many at 8 xs) ss
    (record {
      names = λ here. race_names (numbers ss (here + 1));
      no_justs = λ here. race_no_justs (numbers ss (here + 1));
      counts = λ f here. race_counts (numbers ss (here + 1)) (let few = not_many at 8 xs f in let l = length-numbers ss (here + 1) in omega (arith, few, l, e));
    })
    ts
