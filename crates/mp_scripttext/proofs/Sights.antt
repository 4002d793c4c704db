-- What is seen of strategies, part by part.
use Rattle.std.proofs.Common.{◌≡◌, ℕ, ◌+◌, ◌++◌, max, List, [], ◌∷◌, Option, refl, sym, ap, ◌∙◌, append-nil, arith}
use Rattle.std.proofs.lemmas.Grind.{flat_map-append}
use Rattle.mp_logic.specs.Trees.{counted}
use Rattle.mp_theory.specs.Tables.{Laws}
use Rattle.mp_strategy.specs.declared.limits.TheConstants.{MOST_FUEL}
use Rattle.mp_strategy.specs.declared.tactic.Tac.{Tac}
use Rattle.mp_words.specs.declared.fail.TextErr.{TextErr}
use Rattle.mp_words.specs.Faults.{least_from}
use Rattle.mp_words.specs.Ranges.{written_number_faults}
use Rattle.mp_words.proofs.FaultParts.{three_parts, two_parts}
use Rattle.mp_words.proofs.Soonest.{least_from_append}
use Rattle.mp_termtext.specs.Statics.{sequent_faults}
use Rattle.mp_scripttext.specs.declared.raw.RawEntry.{RawEntry}
use Rattle.mp_scripttext.specs.declared.raw.RawPrefix.{RawPrefix}
use Rattle.mp_scripttext.specs.declared.raw.RawPrefix.TheVariants as before
use Rattle.mp_scripttext.specs.declared.seen.Seen.{Seen}
use Rattle.mp_scripttext.specs.Statics.{entry_faults, seen_of, shape_faults, strategy_faults}
use Rattle.mp_scripttext.specs.Strategies.{Link, Strategy, deepest, linked, faults_of_each, nodes_of, over, prefix_faults, prefix_link, strategy_of}
use Rattle.mp_scripttext.proofs.Tables.{nodes_first}

nodes_append : (xs ys : List Strategy) → nodes_of (xs ++ ys) ≡ nodes_of xs + nodes_of ys
nodes_append [] ys = omega arith
nodes_append (x ∷ xs) ys =
    let r = nodes_append xs ys in
    let a = nodes_first x (xs ++ ys) in
    let b = nodes_first x xs in
    omega (arith, r, a, b)

deepest_append : (xs ys : List Strategy) → deepest (xs ++ ys) ≡ max (deepest xs) (deepest ys)
deepest_append [] ys = omega arith
deepest_append (x ∷ xs) ys = (let r = deepest_append xs ys in omega (arith, r))

pub seen_none : (t : Laws) (held : Option TextErr) (a : Seen) → (let none : Seen = record { nodes = 0; depth = 0; held = held } in a ≡ none) → a ≡ seen_of t held []
seen_none t held a e =
    let no : 0 ≡ counted 0 = omega arith in
    e ∙ (λ i. record { nodes = no i; depth = no i; held = held })

-- strategies and then others
pub seen_and : (t : Laws) (held : Option TextErr) (xs ys : List Strategy) (a b c : Seen) → a ≡ seen_of t held xs → b ≡ seen_of t a.held ys → c.nodes ≡ counted (a.nodes + b.nodes) → c.depth ≡ max a.depth b.depth → c.held ≡ b.held → c ≡ seen_of t held (xs ++ ys)
seen_and t held xs ys a b c e f n d h =
    let ea : a.nodes ≡ counted (nodes_of xs) = ap (λ (s : Seen). s.nodes) e in
    let eb : b.nodes ≡ counted (nodes_of ys) = ap (λ (s : Seen). s.nodes) f in
    let da : a.depth ≡ counted (deepest xs) = ap (λ (s : Seen). s.depth) e in
    let db : b.depth ≡ counted (deepest ys) = ap (λ (s : Seen). s.depth) f in
    let ha : a.held ≡ least_from held (faults_of_each t xs) = ap (λ (s : Seen). s.held) e in
    let hb : b.held ≡ least_from a.held (faults_of_each t ys) = ap (λ (s : Seen). s.held) f in
    let all = nodes_append xs ys in
    let deep = deepest_append xs ys in
    let nodes : c.nodes ≡ counted (nodes_of (xs ++ ys)) = omega (arith, n, ea, eb, all) in
    let depth : c.depth ≡ counted (deepest (xs ++ ys)) = omega (arith, d, da, db, deep) in
    let found : c.held ≡ least_from held (faults_of_each t (xs ++ ys)) =
    h ∙ hb ∙ ap (λ o. least_from o (faults_of_each t ys)) ha ∙ sym (least_from_append held (faults_of_each t xs) (faults_of_each t ys)) ∙ ap (least_from held) (sym (flat_map-append (λ (s : Strategy). s.faults t) xs ys)) in
    (λ i. record { nodes = nodes i; depth = depth i; held = found i })

-- a node over strategies
pub seen_below : (t : Laws) (held start : Option TextErr) (row : ℕ → Tac) (own : List TextErr) (parts : List Strategy) (a b : Seen) → start ≡ least_from held own → a ≡ seen_of t start parts → b.nodes ≡ counted (1 + a.nodes) → b.depth ≡ counted (1 + a.depth) → b.held ≡ a.held → b ≡ seen_of t held (over row own parts ∷ [])
seen_below t held start row own parts a b s e n d h =
    let all = over row own parts in
    let ea : a.nodes ≡ counted (nodes_of parts) = ap (λ (s : Seen). s.nodes) e in
    let da : a.depth ≡ counted (deepest parts) = ap (λ (s : Seen). s.depth) e in
    let ha : a.held ≡ least_from start (faults_of_each t parts) = ap (λ (s : Seen). s.held) e in
    let one = nodes_first all [] in
    let nodes : b.nodes ≡ counted (nodes_of (all ∷ [])) = omega (arith, n, ea, one) in
    let depth : b.depth ≡ counted (deepest (all ∷ [])) = omega (arith, d, da) in
    let found : b.held ≡ least_from held (faults_of_each t (all ∷ [])) =
    h ∙ ha ∙ ap (λ o. least_from o (faults_of_each t parts)) s ∙ sym (least_from_append held own (faults_of_each t parts)) ∙ ap (least_from held) (sym (append-nil (own ++ faults_of_each t parts))) in
    (λ i. record { nodes = nodes i; depth = depth i; held = found i })

-- a strategy and what follows it
pub seen_linked : (t : Laws) (held : Option TextErr) (s : Strategy) (l : Link) (a b c d : Seen) → a ≡ seen_of t held (s ∷ []) → b ≡ seen_of t a.held l.parts
    → c.nodes ≡ counted (a.nodes + b.nodes) → c.depth ≡ max a.depth b.depth → c.held ≡ b.held
    → d.nodes ≡ counted (1 + c.nodes) → d.depth ≡ counted (1 + c.depth) → d.held ≡ c.held → d ≡ seen_of t held (linked [] s l ∷ [])
seen_linked t held s l a b c d e f n p h m q k =
    seen_below t held held (λ here. l.row (here + 1) (here + 1 + s.nodes)) [] (s ∷ l.parts) c d refl (seen_and t held (s ∷ []) l.parts a b c e f n p h) m q k

-- a prefix and its argument

prefix_silent : (t : Laws) (p : RawPrefix) → faults_of_each t (prefix_link p).parts ≡ []
prefix_silent t before.Try = refl
prefix_silent t (before.Repeat n) = refl
prefix_silent t before.Progress = refl
prefix_silent t before.Complete = refl

pub seen_prefixed : (t : Laws) (held start : Option TextErr) (p : RawPrefix) (s : Strategy) (a b : Seen) → start ≡ least_from held (prefix_faults p) → a ≡ seen_of t start (s ∷ [])
    → b.nodes ≡ counted (1 + a.nodes + nodes_of (prefix_link p).parts) → b.depth ≡ counted (1 + max a.depth (deepest (prefix_link p).parts)) → b.held ≡ a.held → b ≡ seen_of t held (linked (prefix_faults p) s (prefix_link p) ∷ [])
seen_prefixed t held start p s a b e f n d h =
    let l = prefix_link p in
    let parts = s ∷ l.parts in
    let all = linked (prefix_faults p) s l in
    let ea : a.nodes ≡ counted (nodes_of (s ∷ [])) = ap (λ (s : Seen). s.nodes) f in
    let da : a.depth ≡ counted (deepest (s ∷ [])) = ap (λ (s : Seen). s.depth) f in
    let ha : a.held ≡ least_from start (faults_of_each t (s ∷ [])) = ap (λ (s : Seen). s.held) f in
    let alone = nodes_first s [] in
    let further = nodes_first s l.parts in
    let one = nodes_first all [] in
    let nodes : b.nodes ≡ counted (nodes_of (all ∷ [])) = omega (arith, n, ea, alone, further, one) in
    let depth : b.depth ≡ counted (deepest (all ∷ [])) = omega (arith, d, da) in
    let same : faults_of_each t (s ∷ []) ≡ faults_of_each t parts = ap (λ fs. s.faults t ++ fs) (sym (prefix_silent t p)) in
    let found : b.held ≡ least_from held (faults_of_each t (all ∷ [])) =
    h ∙ ha ∙ (λ i. least_from (e i) (same i)) ∙ sym (least_from_append held (prefix_faults p) (faults_of_each t parts)) ∙ ap (least_from held) (sym (append-nil (prefix_faults p ++ faults_of_each t parts))) in
    (λ i. record { nodes = nodes i; depth = depth i; held = found i })

-- ## A goal

pub entry_seen : (t : Laws) (e : RawEntry) (held a b d : Option TextErr) (seen : Seen) → a ≡ least_from held (written_number_faults 0 MOST_FUEL e.fuel) → b ≡ least_from a (sequent_faults e.goal) → seen ≡ seen_of t b (strategy_of e.strategy ∷ [])
    → ((s : Strategy) → counted s.nodes ≡ seen.nodes → counted s.depth ≡ seen.depth → d ≡ least_from seen.held (shape_faults e s)) → d ≡ least_from held (entry_faults t e)
entry_seen t e held a b d seen f g h k =
    let s = strategy_of e.strategy in
    let n : seen.nodes ≡ counted (nodes_of (s ∷ [])) = ap (λ (x : Seen). x.nodes) h in
    let p : seen.depth ≡ counted (deepest (s ∷ [])) = ap (λ (x : Seen). x.depth) h in
    let one = nodes_first s [] in
    let nodes : counted s.nodes ≡ seen.nodes = omega (arith, n, one) in
    let depth : counted s.depth ≡ seen.depth = omega (arith, p) in
    let found : seen.held ≡ least_from b (s.faults t) = ap (λ (x : Seen). x.held) h ∙ ap (least_from b) (append-nil (s.faults t)) in
    three_parts held a b d (written_number_faults 0 MOST_FUEL e.fuel) (sequent_faults e.goal) (strategy_faults t e s) f g (two_parts b seen.held d (s.faults t) (shape_faults e s) found (k s nodes depth))
