-- How a table of strategies grows, row by row.
use Rattle.std.proofs.Common.{◌≡◌, ℕ, zero, suc, ◌+◌, ◌≤◌, ◌++◌, List, [], ◌∷◌, map, length, length-append, set, refl, sym, ap, ◌∙◌, append_assoc, append-nil, add-one, arith}
use Rattle.std.proofs.lemmas.List.{length-map, map-append}
use Rattle.std.proofs.Math.Seq.{set-append_seam}
use Rattle.mp_strategy.specs.declared.limits.TheConstants.{MOST_NODES}
use Rattle.mp_strategy.specs.declared.tactic.Tac.{Tac}
use Rattle.mp_strategy.specs.declared.tactic.Tac.TheVariants as tac
use Rattle.mp_strategy.specs.declared.tactic.TacId.{TacId}
use Rattle.mp_theory.specs.Tables.{Laws}
use Rattle.mp_words.specs.declared.fail.TextErr.{TextErr}
use Rattle.mp_words.proofs.NoFaults.{nil_parts}
use Rattle.mp_steptext.specs.Terms.{just_of}
use Rattle.mp_scripttext.specs.declared.plan.Plan.{Plan}
use Rattle.mp_scripttext.specs.Plans.{HasRoom, closed, grown, holes}
use Rattle.mp_scripttext.specs.Strategies.{Link, Strategy, linked, linked_all, faults_of_each, numbers, over, race_row, race_strategy, rows_of, steps_of}
use Rattle.mp_scripttext.proofs.Tables.{IsTable, nodes_first}

-- one strategy more
module _ (t : Laws) (s : Strategy) (k : IsTable s) (p q : Plan) (e : q ≡ grown t (s ∷ []) p) where
  pub tacs_one : q.tacs ≡ p.tacs ++ s.rows (length p.tacs) (length p.justs)
  tacs_one = ap (λ (r : Plan). r.tacs) e ∙ ap (λ rows. p.tacs ++ rows) (append-nil (s.rows (length p.tacs) (length p.justs)))

  pub justs_one : q.justs ≡ p.justs ++ map (just_of t) s.steps
  justs_one = ap (λ (r : Plan). r.justs) e ∙ ap (λ steps. p.justs ++ map (just_of t) steps) (append-nil s.steps)

  pub tacs_count : length q.tacs ≡ length p.tacs + s.nodes
  tacs_count =
      let l = ap length tacs_one ∙ length-append p.tacs (s.rows (length p.tacs) (length p.justs)) in
      let c = k.count (length p.tacs) (length p.justs) in
      omega (arith, l, c)

  pub justs_count : length q.justs ≡ length p.justs + length s.steps
  justs_count =
      let l = ap length justs_one ∙ length-append p.justs (map (just_of t) s.steps) in
      let c = length-map s.steps (just_of t) in
      omega (arith, l, c)

  -- and then the others
  pub grown_next : (ss : List Strategy) → grown t ss q ≡ grown t (s ∷ ss) p
  grown_next ss =
      let n = length p.tacs in
      let j = length p.justs in
      let tacs : q.tacs ++ rows_of ss (length q.tacs) (length q.justs) ≡ p.tacs ++ rows_of (s ∷ ss) n j =
      (λ i. tacs_one i ++ rows_of ss (tacs_count i) (justs_count i)) ∙ append_assoc p.tacs (s.rows n j) (rows_of ss (n + s.nodes) (j + length s.steps)) in
      let justs : q.justs ++ map (just_of t) (steps_of ss) ≡ p.justs ++ map (just_of t) (steps_of (s ∷ ss)) =
      ap (λ js. js ++ map (just_of t) (steps_of ss)) justs_one ∙ append_assoc p.justs (map (just_of t) s.steps) (map (just_of t) (steps_of ss))
      ∙ ap (λ js. p.justs ++ js) (sym (map-append (just_of t) s.steps (steps_of ss))) in
      (λ i. record { tacs = tacs i; justs = justs i })

  pub room_next : (ss : List Strategy) → HasRoom t (s ∷ ss) p → HasRoom t ss q
  room_next ss room =
      let n = nodes_first s ss in
      let c = tacs_count in
      let j = justs_count in
      let f = k.few in
      let rows = room.rows in
      let few = room.justs in
      record {
        rows = omega (arith, n, c, rows);
        justs = omega (arith, c, j, f, few);
        faultless = (nil_parts (s.faults t) (faults_of_each t ss) room.faultless).1;
      }

  pub numbers_next : (ss : List Strategy) → numbers ss (length q.tacs) ≡ numbers ss (length p.tacs + s.nodes)
  numbers_next ss = ap (numbers ss) tacs_count

-- room for a strategy that stands first
pub room_first : (t : Laws) (s : Strategy) (ss : List Strategy) (p : Plan) → HasRoom t (s ∷ ss) p → HasRoom t (s ∷ []) p
room_first t s ss p room =
    let n = nodes_first s ss in
    let one = nodes_first s [] in
    let rows = room.rows in
    record {
      rows = omega (arith, n, one, rows);
      justs = room.justs;
      faultless = ap (λ fs. fs ++ []) (nil_parts (s.faults t) (faults_of_each t ss) room.faultless).0;
    }

-- a row without parts
pub leaf_grown : (t : Laws) (row : Tac) (p q : Plan) → (let r : Plan = record { tacs = p.tacs ++ row ∷ []; justs = p.justs } in q ≡ r) → q ≡ grown t (over (λ here. row) [] [] ∷ []) p
leaf_grown t row p q e = e ∙ (λ i. record { tacs = p.tacs ++ row ∷ []; justs = sym (append-nil p.justs) i })

-- ## A row that is written once its parts are there

filled : (before : List Tac) (row : Tac) (after : List Tac) (at : ℕ) → at ≡ length before → set (before ++ tac.Id ∷ after) at row ≡ before ++ row ∷ after
filled before row after at e = ap (λ n. set (before ++ tac.Id ∷ after) n row) e ∙ set-append_seam before tac.Id after row

module _ (p q : Plan) (hole : (let h : Plan = record { tacs = p.tacs ++ tac.Id ∷ []; justs = p.justs } in q ≡ h)) where
  pub hole_count : length q.tacs ≡ length p.tacs + 1
  hole_count = ap (λ (s : Plan). length s.tacs) hole ∙ length-append p.tacs (tac.Id ∷ [])

  hole_justs : length q.justs ≡ length p.justs
  hole_justs = ap (λ (s : Plan). length s.justs) hole

  -- room for the parts of a node whose row is there
  pub over_room : (t : Laws) (row : ℕ → Tac) (own : List TextErr) (parts : List Strategy) → HasRoom t (over row own parts ∷ []) p → HasRoom t parts q
  over_room t row own parts room =
      let one = nodes_first (over row own parts) [] in
      let rows = room.rows in
      let few = room.justs in
      let c = hole_count in
      let j = hole_justs in
      record {
        rows = omega (arith, one, rows, c);
        justs = omega (arith, few, c, j);
        faultless = (nil_parts own (faults_of_each t parts) (nil_parts (own ++ faults_of_each t parts) [] room.faultless).0).1;
      }

  -- a node over strategies, whose row is written last
  pub over_grown : (t : Laws) (row : ℕ → Tac) (own : List TextErr) (parts : List Strategy) (r z : Plan) (at : ℕ) (written : Tac) → r ≡ grown t parts q → at ≡ length p.tacs → written ≡ row at → (let w : Plan = record { tacs = set r.tacs at written; justs = r.justs } in z ≡ w) → z ≡ grown t (over row own parts ∷ []) p
  over_grown t row own parts r z at written e here is last =
      let n = length p.tacs in
      let j = length p.justs in
      let rows = rows_of parts (n + 1) j in
      let made : r.tacs ≡ p.tacs ++ tac.Id ∷ rows =
      ap (λ (s : Plan). s.tacs) e ∙ (λ i. (hole i).tacs ++ rows_of parts (hole_count i) (hole_justs i)) ∙ append_assoc p.tacs (tac.Id ∷ []) rows in
      let tacs : set r.tacs at written ≡ p.tacs ++ rows_of (over row own parts ∷ []) n j =
      (λ i. set (made i) at (is i)) ∙ filled p.tacs (row at) rows at here ∙ (λ i. p.tacs ++ row (here i) ∷ rows) ∙ ap (λ rs. p.tacs ++ rs) (sym (append-nil (row n ∷ rows))) in
      let justs : r.justs ≡ p.justs ++ map (just_of t) (steps_of (over row own parts ∷ [])) =
      ap (λ (s : Plan). s.justs) e ∙ ap (λ (s : Plan). s.justs ++ map (just_of t) (steps_of parts)) hole ∙ ap (λ ss. p.justs ++ map (just_of t) ss) (sym (append-nil (steps_of parts))) in
      last ∙ (λ i. record { tacs = tacs i; justs = justs i })

  -- a race, whose row is written last
  pub race_grown : (t : Laws) (own : List TextErr) (parts : List Strategy) (r z : Plan) (at : ℕ) (ids : List TacId) (written : Tac) → r ≡ grown t parts q → ids ≡ numbers parts (length q.tacs) → at ≡ length p.tacs → written ≡ race_row ids
      → (let w : Plan = record { tacs = set r.tacs at written; justs = r.justs } in z ≡ w) → z ≡ grown t (race_strategy own parts ∷ []) p
  race_grown t own parts r z at ids written e n here is last =
      over_grown t (λ here. race_row (numbers parts (here + 1))) own parts r z at written e here
      (is ∙ ap race_row (n ∙ ap (numbers parts) hole_count) ∙ ap (λ m. race_row (numbers parts (m + 1))) (sym here)) last

-- the parts of a link are there and its row is written
pub closed_by : (t : Laws) (k l : Link) (p q z : Plan) (at : ℕ) (row : Tac) → k ≡ l → q ≡ grown t l.parts p → row ≡ l.row (at + 1) (length p.tacs) → (let w : Plan = record { tacs = set q.tacs at row; justs = q.justs } in z ≡ w) → z ≡ closed t at k p
closed_by t k l p q z at row same e r last = last ∙ (λ i. record { tacs = set (e i).tacs at (r i); justs = (e i).justs }) ∙ ap (λ (m : Link). closed t at m p) (sym same)

-- ## How many rows a strategy with links has

pub links_few : (s : Strategy) (ls : List Link) → s.nodes + length ls ≤ (linked_all s ls).nodes
links_few s [] = omega arith
links_few s (l ∷ ls) =
    let more = links_few (linked [] s l) ls in
    let first = nodes_first s l.parts in
    omega (arith, more, first)

pub links_clean : (t : Laws) (s : Strategy) (ls : List Link) → (linked_all s ls).faults t ≡ [] → s.faults t ≡ []
links_clean t s [] f = f
links_clean t s (l ∷ ls) f = (nil_parts (s.faults t) (faults_of_each t l.parts) (links_clean t (linked [] s l) ls f)).0

pub parts_clean : (t : Laws) (s : Strategy) (l : Link) (ls : List Link) → (linked_all s (l ∷ ls)).faults t ≡ [] → faults_of_each t l.parts ≡ []
parts_clean t s l ls f = (nil_parts (s.faults t) (faults_of_each t l.parts) (links_clean t (linked [] s l) ls f)).1

-- ## A strategy and what follows it

holes_last : (n : ℕ) (rows : List Tac) → holes (suc n) ++ rows ≡ holes n ++ tac.Id ∷ rows
holes_last zero rows = refl
holes_last (suc n) rows = ap (λ rs. tac.Id ∷ rs) (holes_last n rows)

-- one row more that is still to be written
pub more_holes : (p now next : Plan) (n : ℕ) → (let a : Plan = record { tacs = p.tacs ++ holes n; justs = p.justs } in now ≡ a) → (let b : Plan = record { tacs = now.tacs ++ tac.Id ∷ []; justs = now.justs } in next ≡ b)
    → (let c : Plan = record { tacs = p.tacs ++ holes (n + 1); justs = p.justs } in next ≡ c)
more_holes p now next n e f =
    let one : holes n ++ tac.Id ∷ [] ≡ holes (n + 1) = sym (holes_last n []) ∙ append-nil (holes (suc n)) ∙ ap holes (sym (add-one n)) in
    f ∙ (λ i. record { tacs = (e i).tacs ++ tac.Id ∷ []; justs = (e i).justs }) ∙ (λ i. record { tacs = (append_assoc p.tacs (holes n) (tac.Id ∷ []) ∙ ap (λ hs. p.tacs ++ hs) one) i; justs = p.justs })

length-holes : (n : ℕ) → length (holes n) ≡ n
length-holes zero = refl
length-holes (suc n) = ap suc (length-holes n)

pub holes_count : (p h : Plan) (n : ℕ) → (let r : Plan = record { tacs = p.tacs ++ holes n; justs = p.justs } in h ≡ r) → length h.tacs ≡ length p.tacs + n
holes_count p h n e = ap (λ (r : Plan). length r.tacs) e ∙ length-append p.tacs (holes n) ∙ ap (λ m. length p.tacs + m) (length-holes n)

-- after the plan stand so many rows that are still to be written, and the strategy
pub record Stands (t : Laws) (p : Plan) (left : ℕ) (s : Strategy) (q : Plan) : Type 0 where
  pub tacs : q.tacs ≡ p.tacs ++ (holes left ++ s.rows (length p.tacs + left) (length p.justs))
  pub justs : q.justs ≡ p.justs ++ map (just_of t) s.steps
  pub table : IsTable s

-- the strategy is added after its holes
pub stands_first : (t : Laws) (p h q : Plan) (left : ℕ) (s : Strategy) → IsTable s → (let w : Plan = record { tacs = p.tacs ++ holes left; justs = p.justs } in h ≡ w) → q ≡ grown t (s ∷ []) h → Stands t p left s q
stands_first t p h q left s k e f =
    let count = holes_count p h left e in
    record {
      tacs = tacs_one t s k h q f ∙ (λ i. (e i).tacs ++ s.rows (count i) (length (e i).justs)) ∙ append_assoc p.tacs (holes left) (s.rows (length p.tacs + left) (length p.justs));
      justs = justs_one t s k h q f ∙ ap (λ (r : Plan). r.justs ++ map (just_of t) s.steps) e;
      table = k;
    }

module _ (t : Laws) (p q : Plan) (left : ℕ) (s : Strategy) (k : Stands t p left s q) where
  pub stands_count : length q.tacs ≡ length p.tacs + left + s.nodes
  stands_count =
      let l = ap length k.tacs ∙ length-append p.tacs (holes left ++ s.rows (length p.tacs + left) (length p.justs)) in
      let m = length-append (holes left) (s.rows (length p.tacs + left) (length p.justs)) in
      let h = length-holes left in
      let c = k.table.count (length p.tacs + left) (length p.justs) in
      omega (arith, l, m, h, c)

  pub stands_steps : length q.justs ≡ length p.justs + length s.steps
  stands_steps =
      let l = ap length k.justs ∙ length-append p.justs (map (just_of t) s.steps) in
      let c = length-map s.steps (just_of t) in
      omega (arith, l, c)

-- room for the first strategy after the holes of its links
pub room_holes : (t : Laws) (p h : Plan) (w s : Strategy) (ls : List Link) → w ≡ linked_all s ls → HasRoom t (w ∷ []) p → (let r : Plan = record { tacs = p.tacs ++ holes (length ls); justs = p.justs } in h ≡ r) → (length h.tacs ≤ MOST_NODES) × HasRoom t (s ∷ []) h
room_holes t p h w s ls is room e =
    let l = holes_count p h (length ls) e in
    let j = ap (λ (r : Plan). length r.justs) e in
    let whole = ap (λ (v : Strategy). v.nodes) is in
    let all = links_few s ls in
    let one = nodes_first w [] in
    let mine = nodes_first s [] in
    let rows = room.rows in
    let few = room.justs in
    let clean : w.faults t ≡ [] = (nil_parts (w.faults t) [] room.faultless).0 in (
      omega (arith, l, whole, all, one, rows),
      record {
        rows = omega (arith, l, whole, all, one, mine, rows);
        justs = omega (arith, l, j, few);
        faultless = ap (λ fs. fs ++ []) (links_clean t s ls (ap (λ (v : Strategy). v.faults t) (sym is) ∙ clean));
      },
    )

-- room for the further parts of the next link
pub room_link : (t : Laws) (p q : Plan) (left : ℕ) (w s : Strategy) (l : Link) (ls : List Link) → left ≡ length ls → linked_all s (l ∷ ls) ≡ w → HasRoom t (w ∷ []) p → Stands t p (suc left) s q → HasRoom t l.parts q
room_link t p q left w s l ls many is room k =
    let c = stands_count t p q (suc left) s k in
    let j = stands_steps t p q (suc left) s k in
    let f = k.table.few in
    let whole = ap (λ (v : Strategy). v.nodes) is in
    let all = links_few (linked [] s l) ls in
    let first = nodes_first s l.parts in
    let one = nodes_first w [] in
    let rows = room.rows in
    let few = room.justs in
    let clean : w.faults t ≡ [] = (nil_parts (w.faults t) [] room.faultless).0 in
    record {
      rows = omega (arith, c, many, whole, all, first, one, rows);
      justs = omega (arith, c, j, f, few);
      faultless = parts_clean t s l ls (ap (λ (v : Strategy). v.faults t) is ∙ clean);
    }

-- with no row left to be written the strategy is added
pub stands_last : (t : Laws) (p q : Plan) (s : Strategy) → Stands t p 0 s q → q ≡ grown t (s ∷ []) p
stands_last t p q s k =
    let none : length p.tacs + 0 ≡ length p.tacs = omega arith in
    let tacs : q.tacs ≡ p.tacs ++ rows_of (s ∷ []) (length p.tacs) (length p.justs) =
    k.tacs ∙ (λ i. p.tacs ++ s.rows (none i) (length p.justs)) ∙ ap (λ rs. p.tacs ++ rs) (sym (append-nil (s.rows (length p.tacs) (length p.justs)))) in
    let justs : q.justs ≡ p.justs ++ map (just_of t) (steps_of (s ∷ [])) = k.justs ∙ ap (λ ss. p.justs ++ map (just_of t) ss) (sym (append-nil s.steps)) in
    (λ i. record { tacs = tacs i; justs = justs i })

-- the row over the strategy and what follows it is written
module _ (t : Laws) (p q : Plan) (left : ℕ) (own : List TextErr) (s : Strategy) (l : Link) (k : Stands t p (suc left) s q) (table : IsTable (linked own s l)) where
  abbrev place : ℕ
  place = length p.tacs + left

  at_next : length q.tacs ≡ place + 1 + s.nodes
  at_next = (let c = stands_count t p q (suc left) s k in omega (arith, c))

  pub stands_linked : (at : ℕ) (r : Plan) → at ≡ place → r ≡ closed t at l q → Stands t p left (linked own s l) r
  stands_linked at r here e =
      let j = length p.justs in
      let mine = s.rows (place + 1) j in
      let others = rows_of l.parts (place + 1 + s.nodes) (j + length s.steps) in
      let row = l.row (place + 1) (place + 1 + s.nodes) in
      let start : length p.tacs + suc left ≡ place + 1 = omega arith in
      let before = p.tacs ++ holes left in
      let count : place ≡ length before = (let a = length-append p.tacs (holes left) in let h = length-holes left in omega (arith, a, h)) in
      let stood : q.tacs ≡ before ++ tac.Id ∷ mine =
      k.tacs ∙ (λ i. p.tacs ++ (holes (suc left) ++ s.rows (start i) j)) ∙ ap (λ rs. p.tacs ++ rs) (holes_last left mine) ∙ sym (append_assoc p.tacs (holes left) (tac.Id ∷ mine)) in
      let written : set ((before ++ tac.Id ∷ mine) ++ others) place row ≡ before ++ row ∷ (mine ++ others) =
      ap (λ rs. set rs place row) (append_assoc before (tac.Id ∷ mine) others) ∙ filled before row (mine ++ others) place count in
      record {
        tacs =
            ap (λ (w : Plan). w.tacs) e
            ∙ (λ i. set (stood i ++ rows_of l.parts (at_next i) (stands_steps t p q (suc left) s k i)) (here i) (l.row (here i + 1) (at_next i)))
            ∙ written ∙ append_assoc p.tacs (holes left) (row ∷ (mine ++ others));
        justs =
            ap (λ (w : Plan). w.justs) e ∙ ap (λ js. js ++ map (just_of t) (steps_of l.parts)) k.justs ∙ append_assoc p.justs (map (just_of t) s.steps) (map (just_of t) (steps_of l.parts))
            ∙ ap (λ js. p.justs ++ js) (sym (map-append (just_of t) s.steps (steps_of l.parts)));
        table = table;
      }
