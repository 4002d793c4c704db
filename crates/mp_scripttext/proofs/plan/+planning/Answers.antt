use Rattle.std.proofs.Common.{◌≡◌, suc, ◌<◌, ◌+◌, ◌-◌, ◌++◌, ◌∷◌, [], List, length, map, drop, rules, sym, subst, ap, ◌∙◌, append_assoc, arith}
use Rattle.std.proofs.lemmas.List.{length-map}
use Rattle.std.proofs.lemmas.Result.{on_ok_weaker}
use denote.Param.Weighed.{at_most, most}
use Rattle.mp_strategy.specs.declared.tactic.Tac.TheVariants as tac
use Rattle.mp_words.proofs.Walks.{left_cons}
use Rattle.mp_scripttext.specs.declared.raw.RawStrategy.{RawStrategy}
use Rattle.mp_scripttext.specs.declared.raw.RawLink.{ThenL}
use Rattle.mp_scripttext.specs.declared.raw.RawAtom.{Race, the_lemmas}
use Rattle.mp_scripttext.specs.Plans.{HasRoom, grown, holes}
use Rattle.mp_scripttext.specs.Strategies.{Link, Strategy, atom_strategy, link_of, linked, linked_all, numbers, prefix_faults, prefix_link, race_strategy, strategy_of, then_list_link}
use Rattle.mp_words.specs.Faults.{too_many}
use Rattle.mp_scripttext.proofs.Tables.{nodes_first}
use Rattle.mp_scripttext.proofs.Links.{linked_table, prefix_is_link}
use Rattle.mp_scripttext.proofs.RawLayers.{atom-Prefix, atom-Race, link-ThenL, next_link, one_left, strategy-is}
use Rattle.mp_scripttext.proofs.RawTables.{atom_table, link_table, strategy_table}
use Rattle.mp_scripttext.proofs.PlanSteps.{Stands, closed_by, grown_next, hole_count, holes_count, numbers_next, over_room, race_grown, room_first, room_holes, room_link, room_next, stands_count, stands_first, stands_last, stands_linked, tacs_count}
use Rattle.mp_scripttext.proofs.raw.RawStrategy.TheLaws as strategy_size
use Rattle.mp_scripttext.proofs.raw.RawLink.TheLaws as link_size
use Rattle.mp_scripttext.proofs.raw.RawAtom.TheLaws as atom_size
use Rattle.mp_scripttext.proofs.plan.+planning.Goals as goal

-- ## Parts are less deep

list_below : (ss : List RawStrategy) → most strategy_size.the_size ss < link_size.the_size (ThenL ss)
list_below ss = search (rules, the_lemmas)

race_below : (ss : List RawStrategy) → most strategy_size.the_size ss < atom_size.the_size (Race ss)
race_below ss = search (rules, the_lemmas)

first_below : (s : RawStrategy) → atom_size.the_size s.first < strategy_size.the_size s
first_below s = search (rules, the_lemmas)

links_below : (s : RawStrategy) → most link_size.the_size s.links < strategy_size.the_size s
links_below s = search (rules, the_lemmas)

-- ## Links

pub close_link-push_strategies-requires : goal.close_link-push_strategies-requires
close_link-push_strategies-requires t c =
    let laws = c.args.theory.now in
    let p = c.args.plan.now in
    let ss = c.in-ThenL.strategies in
    let link : link_of c.args.raw.now ≡ then_list_link (map strategy_of ss) = ap link_of c.in-ThenL.is ∙ link-ThenL ss in
    let less : most strategy_size.the_size c.as_slice.result.now < link_size.the_size c.args.raw.now = rw (c.in-ThenL.is, c.as_slice.ensures) (list_below ss) in
    (omega (arith, less, c.decreases), subst (λ (rs : List RawStrategy). HasRoom laws (map strategy_of rs) p) (sym c.as_slice.ensures) (subst (λ (l : Link). HasRoom laws l.parts p) link c.requires.parts))

pub close_link-returns-in_ok-others-in-ThenL : goal.close_link-returns-in_ok-others-in-ThenL
close_link-returns-in_ok-others-in-ThenL t c =
    let laws = c.args.theory.now in
    let p = c.args.plan.now in
    let ss = c.in-ThenL.strategies in
    let link : link_of c.args.raw.now ≡ then_list_link (map strategy_of ss) = ap link_of c.in-ThenL.is ∙ link-ThenL ss in
    let rows : c.push_strategies.new.plan ≡ grown laws (map strategy_of ss) p = c.in_ok-others-in-ThenL.ensures.rows ∙ ap (λ rs. grown laws (map strategy_of rs) p) c.as_slice.ensures in
    let ids : c.in_ok-others-in-ThenL.others ≡ numbers (map strategy_of ss) (length p.tacs) = c.in_ok-others-in-ThenL.ensures.numbers ∙ ap (λ rs. numbers (map strategy_of rs) (length p.tacs)) c.as_slice.ensures in
    closed_by laws (link_of c.args.raw.now) (then_list_link (map strategy_of ss)) p c.push_strategies.new.plan c.set_row-in-ThenL.new.plan c.args.at.0 _ link rows (ap (λ is. tac.ThenL (record { 0 = c.args.at.0 + 1 }) is) ids) c.set_row-in-ThenL.ensures

-- ## Atoms

pub push_atom-push_strategies-requires : goal.push_atom-push_strategies-requires
push_atom-push_strategies-requires t c =
    let laws = c.args.theory.now in
    let ss = c.in-Race.branches in
    let own = too_many (λ (s : RawStrategy). s.at) 8 ss in
    let atom : atom_strategy c.args.raw.now ≡ race_strategy own (map strategy_of ss) = ap atom_strategy c.in-Race.is ∙ atom-Race ss in
    let less : most strategy_size.the_size c.as_slice.result.now < atom_size.the_size c.args.raw.now = rw (c.in-Race.is, c.as_slice.ensures) (race_below ss) in
    let room = over_room c.args.plan.now c.push_row-in-Race.new.plan c.in_ok-push_row-in-Race.ensures laws _ own (map strategy_of ss) (subst (λ (s : Strategy). HasRoom laws (s ∷ []) c.args.plan.now) atom c.requires) in
    (omega (arith, less, c.decreases), subst (λ (rs : List RawStrategy). HasRoom laws (map strategy_of rs) c.push_row-in-Race.new.plan) (sym c.as_slice.ensures) room)

pub push_atom-returns-in_ok-numbers-in-Race : goal.push_atom-returns-in_ok-numbers-in-Race
push_atom-returns-in_ok-numbers-in-Race t c =
    let laws = c.args.theory.now in
    let p = c.args.plan.now in
    let q = c.push_row-in-Race.new.plan in
    let ss = c.in-Race.branches in
    let own = too_many (λ (s : RawStrategy). s.at) 8 ss in
    let atom : atom_strategy c.args.raw.now ≡ race_strategy own (map strategy_of ss) = ap atom_strategy c.in-Race.is ∙ atom-Race ss in
    let rows : c.push_strategies.new.plan ≡ grown laws (map strategy_of ss) q = c.in_ok-numbers-in-Race.ensures.rows ∙ ap (λ rs. grown laws (map strategy_of rs) q) c.as_slice.ensures in
    let ids : c.in_ok-numbers-in-Race.numbers ≡ numbers (map strategy_of ss) (length q.tacs) = c.in_ok-numbers-in-Race.ensures.numbers ∙ ap (λ rs. numbers (map strategy_of rs) (length q.tacs)) c.as_slice.ensures in
    race_grown p q c.in_ok-push_row-in-Race.ensures laws own (map strategy_of ss) c.push_strategies.new.plan c.set_row.new.plan c.next_row-at.result.0 c.in_ok-numbers-in-Race.numbers c.race.result rows ids c.next_row-at.ensures c.race.ensures c.set_row.ensures
    ∙ ap (λ (s : Strategy). grown laws (s ∷ []) p) (sym atom)

pub push_atom-close_prefix-requires-clause-room : goal.push_atom-close_prefix-requires-clause-room
push_atom-close_prefix-requires-clause-room t c =
    let laws = c.args.theory.now in
    let prefix = c.in-Prefix.prefix in
    let s = atom_strategy c.in-Prefix.argument in
    let l = prefix_link prefix in
    let all = linked (prefix_faults prefix) s l in
    let atom : atom_strategy c.args.raw.now ≡ all = ap atom_strategy c.in-Prefix.is ∙ atom-Prefix prefix c.in-Prefix.argument in
    let pushed = c.in_ok-push_atom-in-Prefix.ensures ∙ ap (λ a. grown laws (atom_strategy a ∷ []) c.push_row-in-Prefix.new.plan) c.get.ensures in
    let count = tacs_count laws s (atom_table c.in-Prefix.argument) c.push_row-in-Prefix.new.plan c.push_atom.new.plan pushed in
    let hole = hole_count c.args.plan.now c.push_row-in-Prefix.new.plan c.in_ok-push_row-in-Prefix.ensures in
    let room : HasRoom laws (all ∷ []) c.args.plan.now = subst (λ (s : Strategy). HasRoom laws (s ∷ []) c.args.plan.now) atom c.requires in
    let rows = room.rows in
    let one = nodes_first all [] in
    let parts = nodes_first s l.parts in
    omega (arith, count, hole, rows, one, parts)

pub push_atom-returns-in_ok-push_atom-in-Prefix : goal.push_atom-returns-in_ok-push_atom-in-Prefix
push_atom-returns-in_ok-push_atom-in-Prefix t c =
    let laws = c.args.theory.now in
    let p = c.args.plan.now in
    let q = c.push_row-in-Prefix.new.plan in
    let prefix = c.in-Prefix.prefix in
    let s = atom_strategy c.in-Prefix.argument in
    let own = prefix_faults prefix in
    let l = prefix_link prefix in
    let table = atom_table c.in-Prefix.argument in
    let atom : atom_strategy c.args.raw.now ≡ linked own s l = ap atom_strategy c.in-Prefix.is ∙ atom-Prefix prefix c.in-Prefix.argument in
    let pushed = c.in_ok-push_atom-in-Prefix.ensures ∙ ap (λ a. grown laws (atom_strategy a ∷ []) q) c.get.ensures in
    let stands : Stands laws p 1 s c.push_atom.new.plan = stands_first laws p q c.push_atom.new.plan 1 s table c.in_ok-push_row-in-Prefix.ensures pushed in
    let none : c.next_row-at-in-Prefix.result.0 ≡ length p.tacs + 0 = (let e = c.next_row-at-in-Prefix.ensures in omega (arith, e)) in
    on_ok_weaker c.close_prefix.result
    (λ e. stands_last laws p c.close_prefix.new.plan (linked own s l)
    (stands_linked laws p c.push_atom.new.plan 0 own s l stands (linked_table own s l table (prefix_is_link prefix)) c.next_row-at-in-Prefix.result.0 c.close_prefix.new.plan none (e laws))
    ∙ ap (λ (w : Strategy). grown laws (w ∷ []) p) (sym atom))
    c.close_prefix.ensures

-- ## Strategies

pub push_strategy-next_row-at-requires : goal.push_strategy-next_row-at-requires
push_strategy-next_row-at-requires t c =
    let raw = c.args.raw.now in
    let p = c.args.plan.now in
    let count : c.len.result ≡ length (map link_of raw.links) = c.len.ensures ∙ sym (length-map raw.links link_of) in
    let held = c.in_ok-push_holes.ensures ∙ (λ i. record { tacs = p.tacs ++ holes (count i); justs = p.justs }) in
    (room_holes c.args.theory.now p c.push_holes.new.plan (strategy_of raw) (atom_strategy raw.first) (map link_of raw.links) (strategy-is raw) c.requires held).0

pub push_strategy-push_atom-requires : goal.push_strategy-push_atom-requires
push_strategy-push_atom-requires t c =
    let raw = c.args.raw.now in
    let p = c.args.plan.now in
    let count : c.len.result ≡ length (map link_of raw.links) = c.len.ensures ∙ sym (length-map raw.links link_of) in
    let held = c.in_ok-push_holes.ensures ∙ (λ i. record { tacs = p.tacs ++ holes (count i); justs = p.justs }) in
    let less = first_below raw in
    (omega (arith, less, c.decreases), (room_holes c.args.theory.now p c.push_holes.new.plan (strategy_of raw) (atom_strategy raw.first) (map link_of raw.links) (strategy-is raw) c.requires held).1)

pub push_strategy-loop-link-init : goal.push_strategy-loop-link-init
push_strategy-loop-link-init t c =
    let raw = c.args.raw.now in
    let p = c.args.plan.now in
    let links = c.as_slice-link-items.result.now in
    let count : c.len.result ≡ length links = c.len.ensures ∙ ap length (sym c.as_slice-link-items.ensures) in
    let held = c.in_ok-push_holes.ensures ∙ (λ i. record { tacs = p.tacs ++ holes (count i); justs = p.justs }) in (
      atom_strategy raw.first,
      stands_first c.args.theory.now p c.push_holes.new.plan c.push_atom.new.plan (length links) (atom_strategy raw.first) (atom_table raw.first) held c.in_ok-push_atom.ensures,
      c.next_row-at.ensures ∙ holes_count p c.push_holes.new.plan (length links) held,
      ap (λ ls. linked_all (atom_strategy raw.first) (map link_of ls)) c.as_slice-link-items.ensures ∙ sym (strategy-is raw),
    )

pub push_strategy-close_link-requires : goal.push_strategy-close_link-requires
push_strategy-close_link-requires t c =
    let laws = c.args.theory.now in
    let raw = c.args.raw.now in
    let p = c.args.plan.now in
    let q = c.loop-link.plan in
    let links = c.as_slice-link-items.result.now in
    let i = c.loop-link.link-index in
    let link = c.link-item.result in
    let lt = c.loop-link-test.true in
    let is = c.link-item.is in
    let s = c.loop-link.invariant.0 in
    let left = length (drop (i + 1) links) in
    let one = one_left links i link lt is in
    let stands : Stands laws p (suc left) s q = subst (λ n. Stands laws p n s q) one c.loop-link.invariant.1 in
    let at = c.loop-link.invariant.2 in
    let count = stands_count laws p q (suc left) s stands in
    let some = stands.table.some in
    let less : link_size.the_size link < strategy_size.the_size raw =
    (let m = rw (sym is) at (at_most link_size.the_size links i link lt) in let n : most link_size.the_size links < strategy_size.the_size raw = rw c.as_slice-link-items.ensures (links_below raw) in omega (arith, m, n)) in
    let many : left ≡ length (map link_of (drop (i + 1) links)) = sym (length-map (drop (i + 1) links) link_of) in (
      omega (arith, less, c.decreases),
      record {
        there = omega (arith, at, one, count, some);
        parts = room_link laws p q left (strategy_of raw) s (link_of link) (map link_of (drop (i + 1) links)) many (next_link links i link lt is s (strategy_of raw) c.loop-link.invariant.3) c.requires stands;
      },
    )

pub push_strategy-loop-link-preserved : goal.push_strategy-loop-link-preserved
push_strategy-loop-link-preserved t c =
    let laws = c.args.theory.now in
    let raw = c.args.raw.now in
    let p = c.args.plan.now in
    let q = c.loop-link.plan in
    let links = c.as_slice-link-items.result.now in
    let i = c.loop-link.link-index in
    let link = c.link-item.result in
    let lt = c.loop-link-test.true in
    let is = c.link-item.is in
    let s = c.loop-link.invariant.0 in
    let left = length (drop (i + 1) links) in
    let one = one_left links i link lt is in
    let stands : Stands laws p (suc left) s q = subst (λ n. Stands laws p n s q) one c.loop-link.invariant.1 in
    let at = c.loop-link.invariant.2 in
    let here : c.loop-link.at.0 - 1 ≡ length p.tacs + left = omega (arith, at, one) in
    let table = linked_table [] s (link_of link) stands.table (link_table link) in (
      linked [] s (link_of link),
      stands_linked laws p q left [] s (link_of link) stands table (c.loop-link.at.0 - 1) c.close_link.new.plan here c.in_ok-close_link.ensures,
      here,
      next_link links i link lt is s (strategy_of raw) c.loop-link.invariant.3,
    )

-- ## Lists of strategies

pub push_strategies-push_strategy-requires : goal.push_strategies-push_strategy-requires
push_strategies-push_strategy-requires t c =
    let laws = c.args.theory.now in
    let raws = c.args.raws.now in
    let i = c.loop-raw.raw-index in
    let raw = c.raw-item.result in
    let split = left_cons raws i raw c.loop-raw-test.true c.raw-item.is in
    let less = rw (sym c.raw-item.is) at (at_most strategy_size.the_size raws i raw c.loop-raw-test.true) in
    let room = subst (λ (rs : List RawStrategy). HasRoom laws (map strategy_of rs) c.loop-raw.plan) split c.loop-raw.invariant.room in
    (omega (arith, less, c.decreases), room_first laws (strategy_of raw) (map strategy_of (drop (i + 1) raws)) c.loop-raw.plan room)

pub push_strategies-loop-raw-preserved : goal.push_strategies-loop-raw-preserved
push_strategies-loop-raw-preserved t c =
    let laws = c.args.theory.now in
    let raws = c.args.raws.now in
    let p = c.loop-raw.plan in
    let q = c.push_strategy.new.plan in
    let i = c.loop-raw.raw-index in
    let raw = c.raw-item.result in
    let s = strategy_of raw in
    let rest = map strategy_of (drop (i + 1) raws) in
    let split = left_cons raws i raw c.loop-raw-test.true c.raw-item.is in
    let room = subst (λ (rs : List RawStrategy). HasRoom laws (map strategy_of rs) p) split c.loop-raw.invariant.room in
    let e = c.in_ok-push_strategy.ensures in
    let table = strategy_table raw in
    let ids = c.loop-raw.ids in
    record {
      room = room_next laws s table p q e rest room;
      rows = grown_next laws s table p q e rest ∙ ap (λ rs. grown laws (map strategy_of rs) p) (sym split) ∙ c.loop-raw.invariant.rows;
      numbers =
          (λ j. c.in_default.ensures.ok j ++ numbers_next laws s table p q e rest j) ∙ append_assoc ids (c.next_row-id.result ∷ []) (numbers rest (length p.tacs + s.nodes))
          ∙ (λ j. ids ++ record { 0 = c.next_row-id.ensures j } ∷ numbers rest (length p.tacs + s.nodes)) ∙ ap (λ rs. ids ++ numbers (map strategy_of rs) (length p.tacs)) (sym split) ∙ c.loop-raw.invariant.numbers;
    }
