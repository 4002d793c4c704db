-- What the walk over a schema's items keeps.
use Rattle.std.proofs.Common.{◌≡◌, ℕ, ◌+◌, ◌<◌, ◌≤◌, ◌^◌, List, [], ◌∷◌, ◌++◌, length, drop, take, get_or, true, false, not, ◌&&◌, Option, Some, None, drop-drop, length-drop, length-take, refl, sym, ap, ◌∙◌, arith}
use Rattle.std.proofs.lemmas.List.{length_push}
use Rattle.std.proofs.lemmas.Option.{option_and_then_some}
use Rattle.mp_logic.specs.declared.sym.Sym.{Sym}
use Rattle.mp_term.specs.declared.term.Term.{Term}
use Rattle.mp_term.specs.Limits.{in_scopes_from}
use Rattle.mp_term.proofs.SubLaws.{drop-at}
use Rattle.mp_schema.specs.declared.instance.CtxVal.{CtxVal}
use Rattle.mp_schema.specs.declared.pattern.Pattern.{Pattern}
use Rattle.mp_schema.specs.declared.schema.Item.{Item}
use Rattle.mp_schema.specs.declared.schema.Item.TheVariants.{Ctx, Hyp}
use Rattle.mp_schema.specs.Conditions.{past, past_all, each_item, item_placed, item_fine, all_placed, is_known, has, nothing_before}
use Rattle.mp_schema.proofs.Laying.{not_true}
use Rattle.mp_match.specs.declared.place.Found.{Found}
use Rattle.mp_match.specs.declared.place.Position.{Position}
use Rattle.mp_match.specs.declared.place.Walk.{Walk}
use Rattle.mp_match.specs.declared.sizes.Sizes.{Sizes}
use Rattle.mp_match.specs.Matching.{found_in}
use Rattle.mp_match.specs.Places.{before, names_of, ground_of, levels_at}
use Rattle.mp_match.specs.Walks.{taken, needed, size_after, past_named, past_context, hyp_found, kept_found, context_levels, item_found, items_found, first_walk}
use Rattle.mp_term.specs.Subst.{widest_from}
use Rattle.mp_term.proofs.EqualTerms.{both_true}
use Rattle.mp_match.proofs.Laid.{IsLaid, laid-nothing, laid-named, laid-context, names-append}
use Rattle.mp_match.proofs.Kept.{widest_from-ge, widest_from-drop, in_scopes-drop}
use Rattle.mp_match.proofs.Contexts.{kept-length}

pub record Ready (sizes : Sizes) (hyps : List Term) (items : List Item) (place : Position) : Type 0 where
  pub laid : IsLaid place
  pub placed : each_item item_placed items (before place) ≡ true
  pub fine : each_item item_fine items (before place) ≡ true
  pub counted : place.next + needed items (size_after sizes place.ctxs) sizes.later ≡ length hyps
  pub scoped : in_scopes_from place.next (drop place.next hyps) ≡ true
  pub narrow : widest_from place.next (drop place.next hyps) < 2 ^ 31

pub Ready-init : (sizes : Sizes) (hyps : List Term) (items : List Item) → each_item item_placed items nothing_before ≡ true → each_item item_fine items nothing_before ≡ true →
    needed items sizes.first sizes.later ≡ length hyps → in_scopes_from 0 hyps ≡ true → widest_from 0 hyps < 2 ^ 31 → Ready sizes hyps items first_walk.place
Ready-init sizes hyps items placed fine counted scoped narrow = record {
  laid = laid-nothing;
  placed = placed;
  fine = fine;
  counted = omega (arith, counted);
  scoped = scoped;
  narrow = narrow;
}

pub size_after-more : (sizes : Sizes) (ctxs : List CtxVal) (x : CtxVal) → size_after sizes (ctxs ++ x ∷ []) ≡ sizes.later
size_after-more sizes [] x = refl
size_after-more sizes (y ∷ ctxs) x = refl

-- how much an item takes
pub takes : (sizes : Sizes) (i : Item) (is : List Item) (ctxs : List CtxVal) → taken sizes i ctxs ≤ needed (i ∷ is) (size_after sizes ctxs) sizes.later
takes sizes (Hyp p) is ctxs = omega arith
takes sizes (Ctx name names args) is ctxs = omega arith

module _ (sizes : Sizes) (hyps : List Term) where
  hyps-past : (place : Position) (k : ℕ) → place.next + k ≤ length hyps → in_scopes_from place.next (drop place.next hyps) ≡ true →
      in_scopes_from (place.next + k) (drop (place.next + k) hyps) ≡ true
  hyps-past place k room h = rw drop-drop at (in_scopes-drop place.next k (drop place.next hyps) h)

  widths-past : (place : Position) (k : ℕ) → place.next + k ≤ length hyps → widest_from place.next (drop place.next hyps) < 2 ^ 31 →
      widest_from (place.next + k) (drop (place.next + k) hyps) < 2 ^ 31
  widths-past place k room h =
      let d = rw drop-drop at (widest_from-drop place.next k (drop place.next hyps)) in
      let ge = widest_from-ge place.next (drop place.next hyps) in
      let l = length-drop place.next hyps in
      omega (arith, d, ge, l, room, h)

  module _ (is : List Item) (place : Position) where
    before-named : (p : Pattern) → before (past_named place) ≡ past (Hyp p) (before place)
    before-named p = let e = length_push place.named place.next in rw e refl

    pub Ready-named : (p : Pattern) → Ready sizes hyps (Hyp p ∷ is) place → Ready sizes hyps is (past_named place)
    Ready-named p r =
        let pl = both_true (item_placed (Hyp p) (before place)) (each_item item_placed is (past (Hyp p) (before place))) r.placed in
        let fi = both_true (item_fine (Hyp p) (before place)) (each_item item_fine is (past (Hyp p) (before place))) r.fine in
        let e = length_push place.named place.next in
        let n = r.counted in
        let room : place.next + 1 ≤ length hyps = omega (arith, n) in
        record {
          laid = laid-named place r.laid;
          placed = rw e pl.1;
          fine = rw e fi.1;
          counted = omega (arith, n);
          scoped = hyps-past place 1 room r.scoped;
          narrow = widths-past place 1 room r.narrow;
        }

    is_new : (name : Sym) (names : List Sym) (args : List Pattern) → item_placed (Ctx name names args) (before place) ≡ true → has (names_of place.ctxs) name ≡ false
    is_new name names args h =
        let k = both_true (not (has (names_of place.ctxs) name) && is_known (names_of place.ctxs) names) (all_placed args (before place)) h in
        let k' = both_true (not (has (names_of place.ctxs) name)) (is_known (names_of place.ctxs) names) k.0 in
        not_true (has (names_of place.ctxs) name) k'.0

    pub Ready-context : (name : Sym) (names : List Sym) (args : List Pattern) (kept : List Term) → length kept ≡ size_after sizes place.ctxs →
        Ready sizes hyps (Ctx name names args ∷ is) place → Ready sizes hyps is (past_context name place kept)
    Ready-context name names args kept long r =
        let pl = both_true (item_placed (Ctx name names args) (before place)) (each_item item_placed is (past (Ctx name names args) (before place))) r.placed in
        let fi = both_true (item_fine (Ctx name names args) (before place)) (each_item item_fine is (past (Ctx name names args) (before place))) r.fine in
        let x : CtxVal = record { name = name; first = place.next; hyps = kept } in
        let e = names-append place.ctxs x in
        let later = size_after-more sizes place.ctxs x in
        let n = r.counted in
        let room : place.next + length kept ≤ length hyps = omega (arith, n, long) in
        record {
          laid = laid-context place r.laid name kept (is_new name names args pl.0);
          placed = rw e pl.1;
          fine = rw e fi.1;
          counted = rw later (omega (arith, n, long));
          scoped = hyps-past place (length kept) room r.scoped;
          narrow = widths-past place (length kept) room r.narrow;
        }

  -- there are as many hypotheses left as an item takes
  pub Ready-room : (i : Item) (is : List Item) (place : Position) → Ready sizes hyps (i ∷ is) place → place.next + taken sizes i place.ctxs ≤ length hyps
  Ready-room i is place r = let t = takes sizes i is place.ctxs in let n = r.counted in omega (arith, t, n)

  hyp-walk : (p : Pattern) (t : Term) (w w' : Walk) (o : Option Found) → o ≡ found_in (ground_of w.place) p (levels_at w.place w.place.next) w.place.next t w.found →
      hyp_found p t w ≡ Some w' → (f : Found) × (o ≡ Some f) × (w' ≡ record { place = past_named w.place; found = f })
  hyp-walk p t w w' None e h = let k = rw (← e) at h in absurd (cc)
  hyp-walk p t w w' (Some f) e h = let k = rw (← e) at h in (f, refl, cc)

  pub hyp-result : (p : Pattern) (t : Term) (w w' : Walk) → hyp_found p t w ≡ Some w' →
      (f : Found) × (found_in (ground_of w.place) p (levels_at w.place w.place.next) w.place.next t w.found ≡ Some f) × (w' ≡ record { place = past_named w.place; found = f })
  hyp-result p t w w' h = hyp-walk p t w w' (found_in (ground_of w.place) p (levels_at w.place w.place.next) w.place.next t w.found) refl h

  ctx-walk : (name : Sym) (names : List Sym) (args : List Pattern) (ts : List Term) (w w' : Walk) (o : Option (List Term)) →
      o ≡ kept_found (context_levels names args w.place) w.place.next (take (size_after sizes w.place.ctxs) ts) →
      item_found sizes (Ctx name names args) ts w ≡ Some w' → (kept : List Term) × (o ≡ Some kept) × (w' ≡ record { place = past_context name w.place kept; found = w.found })
  ctx-walk name names args ts w w' None e h = let k = rw (← e) at h in absurd (cc)
  ctx-walk name names args ts w w' (Some kept) e h = let k = rw (← e) at h in (kept, refl, cc)

  pub ctx-result : (name : Sym) (names : List Sym) (args : List Pattern) (ts : List Term) (w w' : Walk) → item_found sizes (Ctx name names args) ts w ≡ Some w' →
      (kept : List Term) × (kept_found (context_levels names args w.place) w.place.next (take (size_after sizes w.place.ctxs) ts) ≡ Some kept)
      × (w' ≡ record { place = past_context name w.place kept; found = w.found })
  ctx-result name names args ts w w' h =
      ctx-walk name names args ts w w' (kept_found (context_levels names args w.place) w.place.next (take (size_after sizes w.place.ctxs) ts)) refl h

  pub kept-size : (i : ℕ) (ts : List Term) (levels : List ℕ) (m : ℕ) (kept : List Term) → i ≤ length ts → kept_found levels m (take i ts) ≡ Some kept → length kept ≡ i
  kept-size i ts levels m kept le e = let k = kept-length levels m (take i ts) kept e in let l = length-take i ts in omega (arith, k, l)

  -- what an item found is a place for the next
  pub Ready-next : (i : Item) (is : List Item) (w w' : Walk) → Ready sizes hyps (i ∷ is) w.place → item_found sizes i (drop w.place.next hyps) w ≡ Some w' → Ready sizes hyps is w'.place
  Ready-next (Hyp p) is w w' r h = named (drop w.place.next hyps) h where
    named : (ts : List Term) → item_found sizes (Hyp p) ts w ≡ Some w' → Ready sizes hyps is w'.place
    named [] h = absurd (cc)
    named (t ∷ ts) h = let k = hyp-result p t w w' h in rw k.2 (Ready-named is w.place p r)
  Ready-next (Ctx name names args) is w w' r h =
      let k = ctx-result name names args (drop w.place.next hyps) w w' h in
      let room = Ready-room (Ctx name names args) is w.place r in
      let l = length-drop w.place.next hyps in
      let long = kept-size (size_after sizes w.place.ctxs) (drop w.place.next hyps) (context_levels names args w.place) w.place.next k.0 (omega (arith, room, l)) k.1 in
      rw k.2 (Ready-context is w.place name names args k.0 long r)

  pub Ready-all : (is : List Item) (w w' : Walk) → Ready sizes hyps is w.place → items_found sizes hyps is w ≡ Some w' → Ready sizes hyps [] w'.place
  Ready-all [] w w' r h = let is : w ≡ w' = cc in rw (← is) r
  Ready-all (i ∷ is) w w' r h =
      option_and_then_some (items_found sizes hyps is) (item_found sizes i (drop w.place.next hyps) w) w' h (λ m e k. Ready-all is m w' (Ready-next i is w m r e) k)

  -- what stands before the last place
  pub before-next : (i : Item) (w w' : Walk) → item_found sizes i (drop w.place.next hyps) w ≡ Some w' → before w'.place ≡ past i (before w.place)
  before-next (Hyp p) w w' h = named (drop w.place.next hyps) h where
    named : (ts : List Term) → item_found sizes (Hyp p) ts w ≡ Some w' → before w'.place ≡ past (Hyp p) (before w.place)
    named [] h = absurd (cc)
    named (t ∷ ts) h = let k = hyp-result p t w w' h in rw k.2 (before-named [] w.place p)
  before-next (Ctx name names args) w w' h =
      let k = ctx-result name names args (drop w.place.next hyps) w w' h in
      let x : CtxVal = record { name = name; first = w.place.next; hyps = k.0 } in
      rw (k.2, names-append w.place.ctxs x) refl

  pub before-all : (is : List Item) (w w' : Walk) → items_found sizes hyps is w ≡ Some w' → before w'.place ≡ past_all is (before w.place)
  before-all [] w w' h = let is : w ≡ w' = cc in rw is refl
  before-all (i ∷ is) w w' h =
      option_and_then_some (items_found sizes hyps is) (item_found sizes i (drop w.place.next hyps) w) w' h
      (λ m e k. before-all is m w' k ∙ ap (past_all is) (before-next i w m e))

-- ## The loop over the items

pub record Walking (sizes : Sizes) (hyps : List Term) (items : List Item) (place : Position) (found : Found) (i : ℕ) : Type 0 where
  pub ready : Ready sizes hyps (drop i items) place
  pub same : items_found sizes hyps (drop i items) (record { place = place; found = found }) ≡ items_found sizes hyps items first_walk

module _ (sizes : Sizes) (hyps : List Term) (items : List Item) (place : Position) (found : Found) (i : ℕ) where
  module _ (item : Item) (lt : i < length items) (is : item ≡ get_or items i item) (w : Walking sizes hyps items place found i) where
    next : drop i items ≡ item ∷ drop (i + 1) items
    next = drop-at items i item lt is

    ready : Ready sizes hyps (item ∷ drop (i + 1) items) place
    ready = rw next at w.ready

    abbrev here : Walk
    here = record { place = place; found = found }

    pub Walking-next : (place' : Position) (found' : Found) → Some (record { place = place'; found = found' }) ≡ item_found sizes item (drop place.next hyps) here →
        Walking sizes hyps items place' found' (i + 1)
    Walking-next place' found' e =
        let s = rw (next, ← e) at w.same in
        record { ready = Ready-next sizes hyps item (drop (i + 1) items) here (record { place = place'; found = found' }) ready (sym e); same = s }
