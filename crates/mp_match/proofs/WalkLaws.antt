-- What the items find is what makes their hypotheses.
use Rattle.std.proofs.Common.{◌≡◌, ℕ, ◌+◌, ◌≤◌, List, [], ◌∷◌, ◌++◌, length, take, drop, true, IsTrue, Some, drop-drop, length-drop, take-append-drop, refl, sym, ap, ◌∙◌, arith}
use Rattle.std.proofs.Math.ListN.{drop_of_length-le}
use Rattle.std.specs.List.{list_all}
use Rattle.std.proofs.lemmas.Option.{option_and_then_some}
use Rattle.mp_logic.specs.declared.sym.Sym.{Sym}
use Rattle.mp_term.specs.declared.term.Term.{Term}
use Rattle.mp_term.specs.Limits.{in_scopes_from}
use Rattle.mp_schema.specs.declared.instance.CtxVal.{CtxVal}
use Rattle.mp_schema.specs.declared.schema.Item.{Item}
use Rattle.mp_schema.specs.declared.schema.Item.TheVariants.{Ctx, Hyp}
use Rattle.mp_schema.specs.Sequents.{Instance, Spot, first_spot, hyps_of, hyps_from, behind, behind_all, item_fits}
use Rattle.mp_schema.specs.Conditions.{past, each_item, item_placed, item_fine, contexts_among}
use Rattle.mp_match.specs.declared.place.Position.{Position}
use Rattle.mp_match.specs.declared.place.Walk.{Walk}
use Rattle.mp_match.specs.declared.sizes.Sizes.{Sizes}
use Rattle.mp_match.specs.Places.{before}
use Rattle.mp_match.specs.Walks.{taken, size_after, past_context, context_levels, item_found, items_found}
use Rattle.mp_term.proofs.EqualTerms.{both_true, and_true}
use Rattle.mp_match.proofs.Ready.{Ready, Ready-next, Ready-room, hyp-result, ctx-result, kept-size, size_after-more}
use Rattle.mp_match.proofs.Ties.{At}
use Rattle.mp_match.proofs.ItemLaws.{Tied, contexts-back, hyp-sound, hyp-complete, ctx-sound, ctx-complete}
use Rattle.mp_schema.proofs.Rows.{telescope-length}

split : {X : Type 0} (xs ys : List X) → (take (length xs) (xs ++ ys) ≡ xs) × (drop (length xs) (xs ++ ys) ≡ ys)
split [] ys = (refl, refl)
split (x ∷ xs) ys = let r = split xs ys in (ap (λ zs. x ∷ zs) r.0, r.1)

-- the contexts have these sizes: the first one, and each later one
abbrev pub IsSized : Instance → List Sym → ℕ → ℕ → Type 0
IsSized v [] size later = Unit {0}
IsSized v (c ∷ names) size later = (length (v.kept c) ≡ size) × IsSized v names later later

module _ (sizes : Sizes) (hyps : List Term) (v : Instance) (ambient : v.ambient ≡ 0) where
  placed-here : (i : Item) (is : List Item) (place : Position) → Ready sizes hyps (i ∷ is) place → item_placed i (before place) ≡ true
  placed-here i is place r = (both_true (item_placed i (before place)) (each_item item_placed is (past i (before place))) r.placed).0

  fine-here : (i : Item) (is : List Item) (place : Position) → Ready sizes hyps (i ∷ is) place → item_fine i (before place) ≡ true
  fine-here i is place r = (both_true (item_fine i (before place)) (each_item item_fine is (past i (before place))) r.fine).0

  -- ## Soundness

  abbrev Sound : Item → Walk → Walk → List Term → Type 0
  Sound i w m ts = Tied v w × ((l : Spot) → At l w.place →
      IsTrue (item_fits v i) × (hyps_of v i l ≡ take (taken sizes i w.place.ctxs) ts) × At (behind v i l) m.place)

  item-sound : (i : Item) (is : List Item) (w m : Walk) → Ready sizes hyps (i ∷ is) w.place → item_found sizes i (drop w.place.next hyps) w ≡ Some m → Tied v m →
      Sound i w m (drop w.place.next hyps)
  item-sound (Hyp p) is w m r e tied = named (drop w.place.next hyps) r.scoped e where
    named : (ts : List Term) → in_scopes_from w.place.next ts ≡ true → item_found sizes (Hyp p) ts w ≡ Some m → Sound (Hyp p) w m ts
    named [] scoped e = absurd (cc)
    named (t ∷ ts) scoped e = (
      (hyp-sound sizes w r.laid p (placed-here (Hyp p) is w.place r) (fine-here (Hyp p) is w.place r) v first_spot t ts m ambient scoped e tied).0,
      λ l at. (hyp-sound sizes w r.laid p (placed-here (Hyp p) is w.place r) (fine-here (Hyp p) is w.place r) v l t ts m ambient scoped e tied).1 at,
    )
  item-sound (Ctx name names args) is w m r e tied = (
    (ctx-sound sizes w r.laid name names args (placed-here (Ctx name names args) is w.place r) (fine-here (Ctx name names args) is w.place r)
        v first_spot (drop w.place.next hyps) m ambient r.scoped e tied).0,
    λ l at. (ctx-sound sizes w r.laid name names args (placed-here (Ctx name names args) is w.place r) (fine-here (Ctx name names args) is w.place r)
        v l (drop w.place.next hyps) m ambient r.scoped e tied).1 at,
  )

  -- how far an item goes
  next-is : (i : Item) (is : List Item) (w m : Walk) → Ready sizes hyps (i ∷ is) w.place → item_found sizes i (drop w.place.next hyps) w ≡ Some m →
      m.place.next ≡ w.place.next + taken sizes i w.place.ctxs
  next-is (Hyp p) is w m r e = named (drop w.place.next hyps) e where
    named : (ts : List Term) → item_found sizes (Hyp p) ts w ≡ Some m → m.place.next ≡ w.place.next + 1
    named [] e = absurd (cc)
    named (t ∷ ts) e = let k = hyp-result sizes hyps p t w m e in rw k.2 refl
  next-is (Ctx name names args) is w m r e =
      let k = ctx-result sizes hyps name names args (drop w.place.next hyps) w m e in
      let room = Ready-room sizes hyps (Ctx name names args) is w.place r in
      let l = length-drop w.place.next hyps in
      let long = kept-size sizes hyps (size_after sizes w.place.ctxs) (drop w.place.next hyps) (context_levels names args w.place) w.place.next k.0 (omega (arith, room, l)) k.1 in
      rw (k.2, long) refl

  abbrev SoundAll : List Item → Walk → Walk → Type 0
  SoundAll is w w' = Tied v w × ((l : Spot) → At l w.place →
      IsTrue (list_all (item_fits v) is) × (hyps_from v is l ≡ drop w.place.next hyps) × At (behind_all v is l) w'.place)

  pub items-sound : (is : List Item) (w w' : Walk) → Ready sizes hyps is w.place → items_found sizes hyps is w ≡ Some w' → w'.place.next ≡ length hyps → Tied v w' → SoundAll is w w'
  items-sound [] w w' r e end tied =
      let is : w ≡ w' = cc in
      let none : length hyps ≤ w.place.next = rw is (omega (arith, end)) in
      (rw is tied, λ l at. (refl, sym (drop_of_length-le hyps none), rw (← is) at))
  items-sound (i ∷ is) w w' r e end tied =
      option_and_then_some (items_found sizes hyps is) (item_found sizes i (drop w.place.next hyps) w) w' e (λ m here k.
      let rest = items-sound is m w' (Ready-next sizes hyps i is w m r here) k end tied in
      let first = item-sound i is w m r here rest.0 in (
        first.0,
        λ l at.
            let a = first.1 l at in
            let b = rest.1 (behind v i l) a.2 in
            let n = next-is i is w m r here in (
              and_true (item_fits v i) (list_all (item_fits v) is) a.0 b.0,
              rw (a.1, b.1, n, ← drop-drop (taken sizes i w.place.ctxs) w.place.next hyps) (take-append-drop (taken sizes i w.place.ctxs) (drop w.place.next hyps)),
              b.2,
            ),
      ))

  -- ## Completeness

  abbrev Complete : Item → Walk → List Term → Type 0
  Complete i w ts = (m : Walk) × (item_found sizes i ts w ≡ Some m) × Tied v m

  item-complete : (i : Item) (is : List Item) (w : Walk) (l : Spot) → Ready sizes hyps (i ∷ is) w.place → Tied v w → At l w.place → IsTrue (item_fits v i) →
      hyps_of v i l ≡ take (taken sizes i w.place.ctxs) (drop w.place.next hyps) → Complete i w (drop w.place.next hyps)
  item-complete (Hyp p) is w l r tied at fit same = named (drop w.place.next hyps) r.scoped same where
    named : (ts : List Term) → in_scopes_from w.place.next ts ≡ true → hyps_of v (Hyp p) l ≡ take 1 ts → Complete (Hyp p) w ts
    named [] scoped same = absurd (cc)
    named (t ∷ ts) scoped same =
        hyp-complete sizes w r.laid p (placed-here (Hyp p) is w.place r) (fine-here (Hyp p) is w.place r) v l t ts ambient scoped tied at fit same
  item-complete (Ctx name names args) is w l r tied at fit same =
      ctx-complete sizes w r.laid name names args (placed-here (Ctx name names args) is w.place r) (fine-here (Ctx name names args) is w.place r)
      v l (drop w.place.next hyps) ambient r.scoped tied at fit same

  -- the sizes of what is left
  size-next : (i : Item) (is : List Item) (w m : Walk) (l : Spot) → item_found sizes i (drop w.place.next hyps) w ≡ Some m →
      IsSized v (contexts_among (i ∷ is)) (size_after sizes w.place.ctxs) sizes.later → IsSized v (contexts_among is) (size_after sizes m.place.ctxs) sizes.later
  size-next (Hyp p) is w m l e h = named (drop w.place.next hyps) e where
    named : (ts : List Term) → item_found sizes (Hyp p) ts w ≡ Some m → IsSized v (contexts_among is) (size_after sizes m.place.ctxs) sizes.later
    named [] e = absurd (cc)
    named (t ∷ ts) e = let k = hyp-result sizes hyps p t w m e in rw k.2 h
  size-next (Ctx name names args) is w m l e h =
      let k = ctx-result sizes hyps name names args (drop w.place.next hyps) w m e in
      let x : CtxVal = record { name = name; first = w.place.next; hyps = k.0 } in
      rw (k.2, size_after-more sizes w.place.ctxs x) h.1

  size-here : (i : Item) (is : List Item) (w : Walk) (l : Spot) → IsSized v (contexts_among (i ∷ is)) (size_after sizes w.place.ctxs) sizes.later →
      length (hyps_of v i l) ≡ taken sizes i w.place.ctxs
  size-here (Hyp p) is w l h = refl
  size-here (Ctx name names args) is w l h = telescope-length v l names args l.next 0 (v.kept name) ∙ h.0

  abbrev CompleteAll : List Item → Walk → Spot → Type 0
  CompleteAll is w l = (w' : Walk) × (items_found sizes hyps is w ≡ Some w') × Tied v w' × At (behind_all v is l) w'.place

  pub items-complete : (is : List Item) (w : Walk) (l : Spot) → Ready sizes hyps is w.place → Tied v w → At l w.place → IsTrue (list_all (item_fits v) is) →
      IsSized v (contexts_among is) (size_after sizes w.place.ctxs) sizes.later → hyps_from v is l ≡ drop w.place.next hyps → CompleteAll is w l
  items-complete [] w l r tied at fit sized same = (w, refl, tied, at)
  items-complete (i ∷ is) w l r tied at fit sized same =
      let f = both_true (item_fits v i) (list_all (item_fits v) is) fit in
      let parts = split (hyps_of v i l) (hyps_from v is (behind v i l)) in
      let len = size-here i is w l sized in
      let first : hyps_of v i l ≡ take (taken sizes i w.place.ctxs) (drop w.place.next hyps) = rw (len, same) at (sym parts.0) in
      let rest : hyps_from v is (behind v i l) ≡ drop (taken sizes i w.place.ctxs) (drop w.place.next hyps) = rw (len, same) at (sym parts.1) in
      let m = item-complete i is w l r tied at f.0 first in
      let n = next-is i is w m.0 r m.1 in
      let at' = ((item-sound i is w m.0 r m.1 m.2).1 l at).2 in
      let rest' : hyps_from v is (behind v i l) ≡ drop m.0.place.next hyps = rw n (rest ∙ drop-drop (taken sizes i w.place.ctxs) w.place.next hyps) in
      let more = items-complete is m.0 (behind v i l) (Ready-next sizes hyps i is w m.0 r m.1) m.2 at' f.1 (size-next i is w m.0 l m.1 sized) rest' in
      (more.0, rw m.1 more.1, more.2, more.3)

  size-back : (i : Item) (is : List Item) (w m : Walk) → Ready sizes hyps (i ∷ is) w.place → item_found sizes i (drop w.place.next hyps) w ≡ Some m → Tied v m →
      IsSized v (contexts_among is) (size_after sizes m.place.ctxs) sizes.later → IsSized v (contexts_among (i ∷ is)) (size_after sizes w.place.ctxs) sizes.later
  size-back (Hyp p) is w m r e tied h = named (drop w.place.next hyps) e where
    named : (ts : List Term) → item_found sizes (Hyp p) ts w ≡ Some m → IsSized v (contexts_among is) (size_after sizes w.place.ctxs) sizes.later
    named [] e = absurd (cc)
    named (t ∷ ts) e = let k = hyp-result sizes hyps p t w m e in rw k.2 at h
  size-back (Ctx name names args) is w m r e tied h =
      let c = ctx-result sizes hyps name names args (drop w.place.next hyps) w m e in
      let x : CtxVal = record { name = name; first = w.place.next; hyps = c.0 } in
      let tied' : Tied v (record { place = past_context name w.place c.0; found = w.found }) = rw (← c.2) tied in
      let kept = (contexts-back sizes w r.laid name names args (placed-here (Ctx name names args) is w.place r) (fine-here (Ctx name names args) is w.place r) c.0 v tied'.ctxs).1 in
      let n = next-is (Ctx name names args) is w m r e in
      let e' : m.place.next ≡ w.place.next + length c.0 = ap (λ (y : Walk). y.place.next) c.2 in
      let long : length c.0 ≡ size_after sizes w.place.ctxs = omega (arith, n, e') in
      (rw kept long, rw (c.2, size_after-more sizes w.place.ctxs x) at h)

  -- the contexts have the sizes that they were given
  pub items-sized : (is : List Item) (w w' : Walk) → Ready sizes hyps is w.place → items_found sizes hyps is w ≡ Some w' → w'.place.next ≡ length hyps → Tied v w' →
      IsSized v (contexts_among is) (size_after sizes w.place.ctxs) sizes.later
  items-sized [] w w' r e end tied = tt
  items-sized (i ∷ is) w w' r e end tied =
      option_and_then_some (items_found sizes hyps is) (item_found sizes i (drop w.place.next hyps) w) w' e (λ m here k.
      let ready = Ready-next sizes hyps i is w m r here in
      size-back i is w m r here (items-sound is m w' ready k end tied).0 (items-sized is m w' ready k end tied))
