use Rattle.std.proofs.Common.{◌≡◌, ◌+◌, ◌≤◌, ◌++◌, ◌∷◌, [], length, map, drop, refl, ap, sym, ◌∙◌, append_assoc, append-nil, arith}
use Rattle.std.proofs.lemmas.List.{at_drop_all}
use Rattle.std.proofs.lemmas.Result.{IfOk-weaker}
use Rattle.mp_words.specs.Faults.{least_from, too_many}
use Rattle.mp_words.proofs.Walks.{left_cons}
use Rattle.mp_scripttext.specs.declared.raw.RawStrategy.{RawStrategy}
use Rattle.mp_scripttext.specs.Statics.{seen_of}
use Rattle.mp_scripttext.specs.Strategies.{Link, Strategy, atom_strategy, link_of, linked, linked_all, numbers, prefix_faults, prefix_link, race_row, race_strategy, strategy_of, then_list_link}
use Rattle.mp_scripttext.proofs.RawLayers.{atom-Prefix, atom-Race, link-ThenL, next_link, strategy-is}
use Rattle.mp_scripttext.proofs.Sights.{seen_and, seen_below, seen_linked, seen_none, seen_prefixed}
use Rattle.mp_scripttext.proofs.statics.+seeing.Goals as goal

pub see_atom-returns-in_ok-seen-in-Race : goal.see_atom-returns-in_ok-seen-in-Race
see_atom-returns-in_ok-seen-in-Race t c =
    let laws = c.args.theory.now in
    let held = c.args.held in
    let ss = c.in-Race.branches in
    let parts = map strategy_of ss in
    let own = too_many (λ (s : RawStrategy). s.at) 8 ss in
    let start = c.check_branches-held.result in
    let atom : atom_strategy c.args.raw.now ≡ race_strategy own parts = ap atom_strategy c.in-Race.is ∙ atom-Race ss in
    let begun : start ≡ least_from held own = c.check_branches-held.ensures ∙ ap (λ rs. least_from held (too_many (λ (s : RawStrategy). s.at) 8 rs)) c.as_slice.ensures in
    let seen : c.in_ok-seen-in-Race.seen ≡ seen_of laws start parts = c.in_ok-seen-in-Race.ensures ∙ ap (λ rs. seen_of laws start (map strategy_of rs)) c.as_slice-in-Race.ensures in
    let e = c.below-in-Race.ensures in
    seen_below laws held start (λ here. race_row (numbers parts (here + 1))) own parts c.in_ok-seen-in-Race.seen c.below-in-Race.result begun seen e.nodes e.depth e.held ∙ ap (λ (s : Strategy). seen_of laws held (s ∷ [])) (sym atom)

pub see_atom-returns-in_ok-seen-in-Prefix : goal.see_atom-returns-in_ok-seen-in-Prefix
see_atom-returns-in_ok-seen-in-Prefix t c =
    let laws = c.args.theory.now in
    let held = c.args.held in
    let prefix = c.in-Prefix.prefix in
    let s = atom_strategy c.in-Prefix.argument in
    let start = c.check_prefix-held.result in
    let atom : atom_strategy c.args.raw.now ≡ linked (prefix_faults prefix) s (prefix_link prefix) = ap atom_strategy c.in-Prefix.is ∙ atom-Prefix prefix c.in-Prefix.argument in
    let seen : c.in_ok-seen-in-Prefix.seen ≡ seen_of laws start (s ∷ []) = c.in_ok-seen-in-Prefix.ensures ∙ ap (λ a. seen_of laws start (atom_strategy a ∷ [])) c.get.ensures in
    let e = c.with_prefix.ensures in
    seen_prefixed laws held start prefix s c.in_ok-seen-in-Prefix.seen c.with_prefix.result c.check_prefix-held.ensures seen e.nodes e.depth e.held ∙ ap (λ (s : Strategy). seen_of laws held (s ∷ [])) (sym atom)

pub see_link-returns-in-ThenL : goal.see_link-returns-in-ThenL
see_link-returns-in-ThenL t c =
    let laws = c.args.theory.now in
    let held = c.args.held in
    let ss = c.in-ThenL.strategies in
    let link : link_of c.args.raw.now ≡ then_list_link (map strategy_of ss) = ap link_of c.in-ThenL.is ∙ link-ThenL ss in
    IfOk-weaker c.see_strategies.result _ _ (λ seen e. e ∙ ap (λ rs. seen_of laws held (map strategy_of rs)) c.as_slice.ensures ∙ ap (λ (l : Link). seen_of laws held l.parts) (sym link)) c.see_strategies.ensures

pub see_strategies-loop-raw-init : goal.see_strategies-loop-raw-init
see_strategies-loop-raw-init t c = ([], seen_none c.args.theory.now c.args.held c.nothing-seen.result c.nothing-seen.ensures, refl)

pub see_strategies-loop-raw-preserved : goal.see_strategies-loop-raw-preserved
see_strategies-loop-raw-preserved t c =
    let raws = c.args.raws.now in
    let i = c.loop-raw.raw-index in
    let raw = c.raw-item.result in
    let ss = c.loop-raw.invariant.0 in
    let rest = map strategy_of (drop (i + 1) raws) in
    let split = left_cons raws i raw c.loop-raw-test.true c.raw-item.is in
    let e = c.and-seen.ensures in (
      ss ++ strategy_of raw ∷ [],
      seen_and c.args.theory.now c.args.held ss (strategy_of raw ∷ []) c.loop-raw.seen c.in_ok-further.further c.and-seen.result c.loop-raw.invariant.1 c.in_ok-further.ensures e.nodes e.depth e.held,
      append_assoc ss (strategy_of raw ∷ []) rest ∙ ap (λ rs. ss ++ map strategy_of rs) (sym split) ∙ c.loop-raw.invariant.2,
    )

pub see_strategies-returns : goal.see_strategies-returns
see_strategies-returns t c =
    let raws = c.args.raws.now in
    let i = c.loop-raw.raw-index in
    let ss = c.loop-raw.invariant.0 in
    let past : length raws ≤ i = (let f = c.loop-raw-test.false in omega (arith, f)) in
    let all : ss ≡ map strategy_of raws = sym (append-nil ss) ∙ sym (at_drop_all (λ rs. ss ++ map strategy_of rs) raws i past) ∙ c.loop-raw.invariant.2 in
    c.loop-raw.invariant.1 ∙ ap (seen_of c.args.theory.now c.args.held) all

pub see_strategy-loop-link-init : goal.see_strategy-loop-link-init
see_strategy-loop-link-init t c =
    let raw = c.args.raw.now in
    (atom_strategy raw.first, c.in_ok-seen.ensures, ap (λ ls. linked_all (atom_strategy raw.first) (map link_of ls)) c.as_slice-link-items.ensures ∙ sym (strategy-is raw))

pub see_strategy-loop-link-preserved : goal.see_strategy-loop-link-preserved
see_strategy-loop-link-preserved t c =
    let links = c.as_slice-link-items.result.now in
    let link = c.link-item.result in
    let s = c.loop-link.invariant.0 in
    let a = c.and.ensures in
    let b = c.below-seen.ensures in (
      linked [] s (link_of link),
      seen_linked c.args.theory.now c.args.held s (link_of link) c.loop-link.seen c.in_ok-further.further c.and.result c.below-seen.result c.loop-link.invariant.1 c.in_ok-further.ensures a.nodes a.depth a.held b.nodes b.depth b.held,
      next_link links c.loop-link.link-index link c.loop-link-test.true c.link-item.is s (strategy_of c.args.raw.now) c.loop-link.invariant.2,
    )

pub see_strategy-returns : goal.see_strategy-returns
see_strategy-returns t c =
    let links = c.as_slice-link-items.result.now in
    let i = c.loop-link.link-index in
    let s = c.loop-link.invariant.0 in
    let past : length links ≤ i = (let f = c.loop-link-test.false in omega (arith, f)) in
    let all : s ≡ strategy_of c.args.raw.now = sym (at_drop_all (λ ls. linked_all s (map link_of ls)) links i past) ∙ c.loop-link.invariant.2 in
    c.loop-link.invariant.1 ∙ ap (λ (w : Strategy). seen_of c.args.theory.now c.args.held (w ∷ [])) all
