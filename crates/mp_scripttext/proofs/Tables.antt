-- The rows of a strategy stand for a table that fits.
use Rattle.std.proofs.Common.{◌≡◌, ℕ, suc, ◌+◌, ◌-◌, ◌<◌, ◌≤◌, ◌++◌, List, [], ◌∷◌, map, length, length-append, Bool, true, nat_lt, nat_le, refl, sym, ap, subst, ◌∙◌, append_assoc, append-nil, arith}
use Rattle.std.specs.Prelude.{slice_index}
use Rattle.std.specs.List.{flat_map, list_all}
use Rattle.std.proofs.lemmas.Bool.{and_from, and_parts}
use Rattle.std.proofs.lemmas.Bool.Decides.{nat_tests}
use Rattle.std.proofs.lemmas.List.Folds.{list_all-append}
use Rattle.std.proofs.lemmas.Grind.{flat_map-append}
use Rattle.std.proofs.lemmas.List.Sums.{sum_by-cons}
use Rattle.mp_logic.specs.Lists.{greatest}
use Rattle.mp_strategy.specs.declared.tactic.Tac.{Tac}
use Rattle.mp_strategy.specs.Fits.{counts_fit, depth_by, depths, fits_of, is_behind, justs_of, parts_of, places, rows_fit}
use Rattle.mp_theory.specs.Tables.{Laws}
use Rattle.mp_words.specs.declared.fail.TextErr.{TextErr}
use Rattle.mp_words.proofs.NoFaults.{nil_parts}
use Rattle.mp_termtext.specs.declared.raw.RawBound.{RawBound}
use Rattle.mp_steptext.specs.declared.raw.RawStep.{RawStep}
use Rattle.mp_steptext.specs.Terms.{term_step_faults}
use Rattle.mp_scripttext.specs.Strategies.{Strategy, deepest, faults_of_each, nodes_of, numbers, over, rows_of, step_alone, steps_of}

abbrev pub at_most : ℕ → ℕ → Bool
at_most most depth = nat_le depth most

-- its steps have no fault if it has none; its rows fit any table in which they stand at their place, if it has no fault; their depths don't depend on the rows after
-- them, and the first one's is the greatest
pub record IsTable (s : Strategy) : Type 0 where
  pub some : 1 ≤ s.nodes
  pub few : length s.steps ≤ s.nodes
  pub clean : (t : Laws) → s.faults t ≡ [] → flat_map (term_step_faults t) s.steps ≡ []
  pub count : (node step : ℕ) → length (s.rows node step) ≡ s.nodes
  pub fit : (t : Laws) → s.faults t ≡ [] → (justs node step : ℕ) (rest : List Tac) → step + length s.steps ≤ justs → rows_fit justs (node + s.nodes) rest ≡ true → rows_fit justs node (s.rows node step ++ rest) ≡ true
  pub below : List ℕ
  pub below_count : suc (length below) ≡ s.nodes
  pub shallow : list_all (at_most s.depth) below ≡ true
  pub depths : (node step : ℕ) (rest : List Tac) → depths node (s.rows node step ++ rest) ≡ s.depth ∷ (below ++ depths (node + s.nodes) rest)

abbrev pub AreTables : List Strategy → Type 0
AreTables [] = Unit {0}
AreTables (s ∷ ss) = IsTable s × AreTables ss

-- ## Strategies one after the other

pub nodes_first : (s : Strategy) (ss : List Strategy) → nodes_of (s ∷ ss) ≡ s.nodes + nodes_of ss
nodes_first s ss = sum_by-cons (λ (s : Strategy). s.nodes) s ss

pub rows_count : (ss : List Strategy) → AreTables ss → (node step : ℕ) → length (rows_of ss node step) ≡ nodes_of ss
rows_count [] ts node step = refl
rows_count (s ∷ ss) ts node step =
    let l = length-append (s.rows node step) (rows_of ss (node + s.nodes) (step + length s.steps)) in
    let c = ts.0.count node step in
    let r = rows_count ss ts.1 (node + s.nodes) (step + length s.steps) in
    let n = nodes_first s ss in
    omega (arith, l, c, r, n)

pub steps_few : (ss : List Strategy) → AreTables ss → length (steps_of ss) ≤ nodes_of ss
steps_few [] ts = omega arith
steps_few (s ∷ ss) ts =
    let l = length-append s.steps (steps_of ss) in
    let f = ts.0.few in
    let r = steps_few ss ts.1 in
    let n = nodes_first s ss in
    omega (arith, l, f, r, n)

rows_first : (s : Strategy) (ss : List Strategy) (node step : ℕ) (rest : List Tac) → rows_of (s ∷ ss) node step ++ rest ≡ s.rows node step ++ (rows_of ss (node + s.nodes) (step + length s.steps) ++ rest)
rows_first s ss node step rest = append_assoc (s.rows node step) (rows_of ss (node + s.nodes) (step + length s.steps)) rest

parts_fit : (t : Laws) (ss : List Strategy) → AreTables ss → faults_of_each t ss ≡ [] → (justs node step : ℕ) (rest : List Tac) → step + length (steps_of ss) ≤ justs → rows_fit justs (node + nodes_of ss) rest ≡ true → rows_fit justs node (rows_of ss node step ++ rest) ≡ true
parts_fit t [] ts f justs node step rest h k = (let e : node ≡ node + 0 = omega arith in subst (λ n. rows_fit justs n rest ≡ true) (sym e) k)
parts_fit t (s ∷ ss) ts f justs node step rest h k =
    let both = nil_parts (s.faults t) (faults_of_each t ss) f in
    let l = length-append s.steps (steps_of ss) in
    let n = nodes_first s ss in
    let e : node + nodes_of (s ∷ ss) ≡ node + s.nodes + nodes_of ss = omega (arith, n) in
    let after = rows_of ss (node + s.nodes) (step + length s.steps) ++ rest in
    ap (rows_fit justs node) (rows_first s ss node step rest)
    ∙ ts.0.fit t both.0 justs node step after (omega (arith, h, l)) (parts_fit t ss ts.1 both.1 justs (node + s.nodes) (step + length s.steps) rest (omega (arith, h, l)) (subst (λ n. rows_fit justs n rest ≡ true) e k))

parts_clean : (t : Laws) (ss : List Strategy) → AreTables ss → faults_of_each t ss ≡ [] → flat_map (term_step_faults t) (steps_of ss) ≡ []
parts_clean t [] ts f = refl
parts_clean t (s ∷ ss) ts f =
    let both = nil_parts (s.faults t) (faults_of_each t ss) f in
    flat_map-append (term_step_faults t) s.steps (steps_of ss) ∙ (λ i. ts.0.clean t both.0 i ++ parts_clean t ss ts.1 both.1 i)

-- the depths of their rows
abbrev all_below : (ss : List Strategy) → AreTables ss → List ℕ
all_below [] ts = []
all_below (s ∷ ss) ts = s.depth ∷ (ts.0.below ++ all_below ss ts.1)

all_below_count : (ss : List Strategy) (ts : AreTables ss) → length (all_below ss ts) ≡ nodes_of ss
all_below_count [] ts = refl
all_below_count (s ∷ ss) ts =
    let l = length-append ts.0.below (all_below ss ts.1) in
    let c = ts.0.below_count in
    let r = all_below_count ss ts.1 in
    let n = nodes_first s ss in
    omega (arith, l, c, r, n)

all_depths : (ss : List Strategy) (ts : AreTables ss) (node step : ℕ) (rest : List Tac) → depths node (rows_of ss node step ++ rest) ≡ all_below ss ts ++ depths (node + nodes_of ss) rest
all_depths [] ts node step rest = (let e : node ≡ node + 0 = omega arith in ap (λ n. depths n rest) e)
all_depths (s ∷ ss) ts node step rest =
    let n = nodes_first s ss in
    let e : node + s.nodes + nodes_of ss ≡ node + nodes_of (s ∷ ss) = omega (arith, n) in
    let after = rows_of ss (node + s.nodes) (step + length s.steps) ++ rest in
    ap (depths node) (rows_first s ss node step rest) ∙ ts.0.depths node step after
    ∙ ap (λ ds. s.depth ∷ (ts.0.below ++ ds)) (all_depths ss ts.1 (node + s.nodes) (step + length s.steps) rest ∙ ap (λ n. all_below ss ts.1 ++ depths n rest) e)
    ∙ ap (λ ds. s.depth ∷ ds) (sym (append_assoc ts.0.below (all_below ss ts.1) (depths (node + nodes_of (s ∷ ss)) rest)))

all_at_most : (xs : List ℕ) (m n : ℕ) → m ≤ n → list_all (at_most m) xs ≡ true → list_all (at_most n) xs ≡ true
all_at_most [] m n h k = refl
all_at_most (x ∷ xs) m n h k =
    let both = and_parts (at_most m x) (list_all (at_most m) xs) k in
    let here = both.0 in
    and_from _ _ (grind (arith, nat_tests, here, h)) (all_at_most xs m n h both.1)

le_true : (m n : ℕ) → m ≤ n → nat_le m n ≡ true
le_true m n h = grind (arith, nat_tests, h)

all_shallow : (ss : List Strategy) (ts : AreTables ss) (n : ℕ) → deepest ss ≤ n → list_all (at_most n) (all_below ss ts) ≡ true
all_shallow [] ts n h = refl
all_shallow (s ∷ ss) ts n h =
    and_from _ _ (le_true s.depth n (omega (arith, h)))
    (list_all-append (at_most n) ts.0.below (all_below ss ts.1) ∙ and_from _ _ (all_at_most ts.0.below s.depth n (omega (arith, h)) ts.0.shallow) (all_shallow ss ts.1 n (omega (arith, h))))

index_past : (xs : List ℕ) (y : ℕ) (ys : List ℕ) (k : ℕ) → k ≡ length xs → slice_index (xs ++ y ∷ ys) k ≡ y
index_past [] y ys k e = ap (λ i. slice_index (y ∷ ys) i) e
index_past (x ∷ xs) y ys k e = ap (λ i. slice_index (x ∷ (xs ++ y ∷ ys)) i) e ∙ index_past xs y ys (length xs) refl

-- the depths that the numbers of strategies find
found_depths : (ss : List Strategy) (ts : AreTables ss) (start : ℕ) (before end : List ℕ) (node : ℕ) → node ≡ start + length before → map (λ place. slice_index (before ++ (all_below ss ts ++ end)) (place - start)) (places (numbers ss node)) ≡ map (λ (s : Strategy). s.depth) ss
found_depths [] ts start before end node e = refl
found_depths (s ∷ ss) ts start before end node e =
    let mine = s.depth ∷ ts.0.below in
    let others = all_below ss ts.1 in
    let at : node - start ≡ length before = omega (arith, e) in
    let l = length-append before mine in
    let c = ts.0.below_count in
    let next : node + s.nodes ≡ start + length (before ++ mine) = omega (arith, e, l, c) in
    let whole : before ++ (mine ++ (others ++ end)) ≡ (before ++ mine) ++ (others ++ end) = sym (append_assoc before mine (others ++ end)) in
    let split : before ++ ((mine ++ others) ++ end) ≡ (before ++ mine) ++ (others ++ end) = ap (λ ds. before ++ ds) (append_assoc mine others end) ∙ whole in
    (λ i. index_past before s.depth ((ts.0.below ++ others) ++ end) (node - start) at i ∷ (ap (λ ds. map (λ place. slice_index ds (place - start)) (places (numbers ss (node + s.nodes)))) split ∙ found_depths ss ts.1 start (before ++ mine) end (node + s.nodes) next) i)

numbers_behind : (ss : List Strategy) → AreTables ss → (here count node : ℕ) → here < node → node + nodes_of ss ≤ count → list_all (is_behind here count) (places (numbers ss node)) ≡ true
numbers_behind [] ts here count node h k = refl
numbers_behind (s ∷ ss) ts here count node h k =
    let n = nodes_first s ss in
    let some = ts.0.some in
    let lt : node < count = omega (arith, n, some, k) in
    and_from _ _ (grind (arith, nat_tests, h, lt)) (numbers_behind ss ts.1 here count (node + s.nodes) (omega (arith, h)) (omega (arith, n, k)))

-- ## A node over strategies

-- the row names the strategies after it, and no justification, and its counts are within the limits if the node has no fault of its own
pub record IsRowOver (row : ℕ → Tac) (own : List TextErr) (parts : List Strategy) : Type 0 where
  pub names : (here : ℕ) → parts_of (row here) ≡ places (numbers parts (here + 1))
  pub no_justs : (here : ℕ) → justs_of (row here) ≡ []
  pub counts : own ≡ [] → (here : ℕ) → counts_fit (row here) ≡ true

module _ (row : ℕ → Tac) (own : List TextErr) (parts : List Strategy) (r : IsRowOver row own parts) (ts : AreTables parts) where
  abbrev all : Strategy
  all = over row own parts

  over_fit : (t : Laws) → all.faults t ≡ [] → (justs node step : ℕ) (rest : List Tac) → step + length all.steps ≤ justs → rows_fit justs (node + all.nodes) rest ≡ true → rows_fit justs node (all.rows node step ++ rest) ≡ true
  over_fit t f justs node step rest h k =
      let both = nil_parts own (faults_of_each t parts) f in
      let behind = rows_of parts (node + 1) step ++ rest in
      let count = node + 1 + length behind in
      let l = length-append (rows_of parts (node + 1) step) rest in
      let c = rows_count parts ts (node + 1) step in
      let named : list_all (is_behind node count) (parts_of (row node)) ≡ true =
      ap (list_all (is_behind node count)) (r.names node) ∙ numbers_behind parts ts node count (node + 1) (omega arith) (omega (arith, l, c)) in
      let unjust : list_all (λ just. nat_lt just justs) (justs_of (row node)) ≡ true = ap (list_all (λ just. nat_lt just justs)) (r.no_justs node) in
      let e : node + all.nodes ≡ node + 1 + nodes_of parts = omega arith in
      and_from _ _ (and_from _ _ named (and_from _ _ unjust (r.counts both.0 node))) (parts_fit t parts ts both.1 justs (node + 1) step rest h (subst (λ n. rows_fit justs n rest ≡ true) e k))

  over_depths : (node step : ℕ) (rest : List Tac) → depths node (all.rows node step ++ rest) ≡ all.depth ∷ (all_below parts ts ++ depths (node + all.nodes) rest)
  over_depths node step rest =
      let e : node + 1 + nodes_of parts ≡ node + all.nodes = omega arith in
      let end = depths (node + all.nodes) rest in
      let behind : depths (node + 1) (rows_of parts (node + 1) step ++ rest) ≡ all_below parts ts ++ end = all_depths parts ts (node + 1) step rest ∙ ap (λ n. all_below parts ts ++ depths n rest) e in
      let start : node + 1 ≡ node + 1 + 0 = omega arith in
      let here : depth_by node (all_below parts ts ++ end) (row node) ≡ all.depth =
      ap (λ ps. 1 + greatest (map (λ place. slice_index (all_below parts ts ++ end) (place - (node + 1))) ps)) (r.names node)
      ∙ ap (λ ds. 1 + greatest ds) (found_depths parts ts (node + 1) [] end (node + 1) start) in
      ap (λ ds. depth_by node ds (row node) ∷ ds) behind ∙ ap (λ d. d ∷ (all_below parts ts ++ end)) here

  pub over_table : IsTable (over row own parts)
  over_table =
      let few = steps_few parts ts in
      let below = all_below_count parts ts in
      record {
        some = omega arith;
        few = omega (arith, few);
        clean = λ t f. parts_clean t parts ts (nil_parts own (faults_of_each t parts) f).1;
        count = λ node step. (let c = rows_count parts ts (node + 1) step in omega (arith, c));
        fit = over_fit;
        below = all_below parts ts;
        below_count = omega (arith, below);
        shallow = all_shallow parts ts (1 + deepest parts) (omega arith);
        depths = over_depths;
      }

pub step_table : (s : RawStep RawBound) → IsTable (step_alone s)
step_table s = record {
  some = omega arith;
  few = omega arith;
  clean = λ t f. append-nil (term_step_faults t s) ∙ f;
  count = λ node step. refl;
  fit = λ t f justs node step rest h k. (let lt : step < justs = omega (arith, h) in grind (arith, nat_tests, lt, k));
  below = [];
  below_count = refl;
  shallow = refl;
  depths = λ node step rest. refl;
}

-- a strategy without static faults that is neither too great nor too deep fits
pub table_fits : (t : Laws) (s : Strategy) (justs : ℕ) → IsTable s → s.faults t ≡ [] → justs ≡ length s.steps → s.nodes ≤ 4096 → s.depth ≤ 64 → fits_of justs (s.rows 0 0) ≡ true
table_fits t s justs k f e few low =
    let rows = s.rows 0 0 in
    let count : length rows ≡ s.nodes = k.count 0 0 in
    let some = k.some in
    let whole : rows ≡ rows ++ [] = sym (append-nil rows) in
    let fit : rows_fit justs 0 rows ≡ true = ap (rows_fit justs 0) whole ∙ k.fit t f justs 0 0 [] (omega (arith, e)) refl in
    let deep : depths 0 rows ≡ s.depth ∷ k.below = ap (depths 0) whole ∙ k.depths 0 0 [] ∙ ap (λ ds. s.depth ∷ ds) (append-nil k.below) in
    let shallow : list_all (λ depth. nat_le depth 64) (depths 0 rows) ≡ true =
    ap (list_all (λ depth. nat_le depth 64)) deep ∙ and_from _ _ (le_true s.depth 64 low) (all_at_most k.below s.depth 64 low k.shallow) in
    let there : nat_lt 0 (length rows) ≡ true = grind (arith, nat_tests, count, some) in
    let short : nat_le (length rows) 4096 ≡ true = grind (arith, nat_tests, count, few) in
    and_from _ _ there (and_from _ _ short (and_from _ _ fit shallow))
