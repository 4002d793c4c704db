-- The items of a schema: what each asks follows from what they ask together, and what stands behind it.
use Rattle.std.proofs.Common.{◌≡◌, ℕ, ◌+◌, ◌<◌, ◌≤◌, ◌^◌, List, [], ◌∷◌, ◌++◌, length, map, get_or, drop, IsTrue, zero, suc, refl, sym, ap, subst, ◌∙◌, inl, inr, append_assoc, append-nil, arith}
use Rattle.std.specs.Prelude.{All, true, nat_eq, if◌then◌else◌}
use Rattle.std.proofs.Math.ListN.{drop_of_length-le}
use Rattle.std.proofs.lemmas.Bool.Decides.{nat_tests}
use Rattle.std.proofs.lemmas.Grind.{common_steps}
use Rattle.std.proofs.lemmas.List.{length-append}
use Rattle.std.proofs.lemmas.List.Elements.{All-append}
use Rattle.mp_logic.specs.declared.sym.Sym.{Sym}
use Rattle.mp_term.specs.declared.term.Term.{Term}
use Rattle.mp_term.specs.Terms.{all_at_scope}
use Rattle.mp_term.specs.Limits.{in_scopes_from}
use Rattle.mp_term.proofs.EqualTerms.{both_true, and_true}
use Rattle.mp_term.proofs.SubLaws.{drop-at}
use Rattle.mp_schema.specs.declared.pattern.Pattern.{Pattern}
use Rattle.mp_schema.specs.declared.schema.Item.{Item}
use Rattle.mp_schema.specs.declared.schema.Item.TheVariants.{Ctx, Hyp}
use Rattle.mp_schema.specs.declared.schema.Schema.{Schema}
use Rattle.mp_schema.specs.Instances.{all_pass}
use Rattle.mp_schema.specs.Sequents.{Instance, Spot, first_spot, wide_of, hyps_of, behind, hyps_from, behind_all, concl_at, seq}
use Rattle.mp_schema.specs.Conditions.{below, lists_known, has, has_all, Before, nothing_before, past, pattern_placed, all_placed}
use Rattle.mp_build.specs.Rooms.{items_room}
use Rattle.mp_build.specs.Sites.{IsBefore, IsRowBuildable, IsItemBuildable, AreItemsBuildable, made_at}
use Rattle.mp_build.specs.Sizes.{item_count}
use Rattle.mp_build.proofs.Buildable.{has-first}
use Rattle.mp_build.proofs.Placed.{room-ge}
use Rattle.mp_build.proofs.TermFacts.{env-here}

pub all_placed-parts : (ps : List Pattern) (b : Before) → IsTrue (all_placed ps b) →
    IsTrue (all_at_scope b.named (map below ps)) × IsTrue (all_pass (map (lists_known b.contexts) ps))
all_placed-parts [] b h = (refl, refl)
all_placed-parts (p ∷ ps) b h =
    let k = both_true (pattern_placed p b) (all_placed ps b) h in
    let here = both_true (below p b.named) (lists_known b.contexts p) k.0 in
    let parts = all_placed-parts ps b k.1 in
    (and_true (below p b.named) (all_at_scope b.named (map below ps)) here.0 parts.0, and_true (lists_known b.contexts p) (all_pass (map (lists_known b.contexts) ps)) here.1 parts.1)

module _ (v : Instance) where
  items_room-ge : (is : List Item) (concl : Pattern) (m : ℕ) → m ≤ items_room v is concl m
  items_room-ge [] concl m = room-ge v first_spot 0 concl m
  items_room-ge (i ∷ is) concl m = let rest = items_room-ge is concl (m + item_count v i) in omega (arith, rest)

  pub next-behind : (i : Item) (l : Spot) → (behind v i l).next ≡ l.next + item_count v i
  next-behind (Hyp p) l = refl
  next-behind (Ctx n cs args) l = refl

  pub item_row : (l : Spot) (i : Item) (n : Sym) (cs : List Sym) (args : List Pattern) → i ≡ Ctx n cs args → IsItemBuildable v l i → IsRowBuildable v l cs args 0 (v.kept n)
  item_row l i n cs args is r =
      let placed = rw is at r.placed in
      let fitting = rw is at r.fitting in
      let narrow = rw is at r.narrow in
      let listed : IsTrue (has_all r.before.contexts cs) = grind (arith, common_steps, placed) in
      let args_placed : IsTrue (all_placed args r.before) = grind (arith, common_steps, placed) in
      let parts = all_placed-parts args r.before args_placed in
      let scoped : IsTrue (in_scopes_from (wide_of v cs + length args) (v.kept n)) = grind (arith, common_steps, fitting) in
      let e : wide_of v cs + length args + 0 ≡ wide_of v cs + length args = omega arith in
      record {
        known = r.before.contexts;
        spot = r.stands.spot;
        listed = listed;
        closed = rw r.stands.named parts.0;
        fitting = grind (arith, common_steps, fitting);
        args_listed = parts.1;
        scoped = rw e scoped;
        narrow = narrow;
      }

  -- a context that begins here, and one that stood before
  context_made : (n : Sym) (known : List Sym) (c : Sym) (next many own before : ℕ) → (n ≡ c → own ≡ many) → IsTrue (has (n ∷ known) c) →
      (IsTrue (has known c) → before + many ≤ next) → (if nat_eq c.0 n.0 then next else before) + many ≤ next + own
  context_made n known c next many own before same h made = elim (has-first n known c h) [
    | inl is ↦
        let e : own ≡ many = same is in
        let test : nat_eq c.0 n.0 ≡ true = subst (λ x. nat_eq x.0 n.0 ≡ true) is (grind (arith, nat_tests)) in
        rw test (omega (arith, e))
    | inr later ↦ let low = made later in grind (arith, nat_tests, low)
  ]

  -- what stands behind an item
  pub stands-behind : (i : Item) (l : Spot) (b : Before) → IsBefore v l b → IsBefore v (behind v i l) (past i b)
  stands-behind (Hyp p) l b r =
      let named = r.named in
      let ambient = r.spot.ambient in
      let longer = length-append l.env (l.next ∷ []) in
      record {
        named = omega (arith, named, longer);
        spot = record {
          ambient = omega arith;
          named = All-append (λ level. level < l.next + 1) l.env (l.next ∷ []) (λ k d h. let low = r.spot.named k d h in omega arith) (one_level (l.next));
          made = λ c h. let made = r.spot.made c h in omega arith;
        };
      } where
        one_level : (n : ℕ) → All (λ level. level < n + 1) (n ∷ [])
        one_level n zero d h = omega arith
        one_level n (suc k) d h = absurd (omega arith)
  stands-behind (Ctx n cs args) l b r =
      let ambient = r.spot.ambient in
      record {
        named = r.named;
        spot = record {
          ambient = omega arith;
          named = λ k d h. let low = r.spot.named k d h in omega arith;
          made = λ c h. context_made n b.contexts c l.next (length (v.kept c)) (length (v.kept n)) (l.pos c) (λ same. ap (λ x. length (v.kept x)) same) h (r.spot.made c);
        };
      }

  -- the item that comes next, and those behind it
  pub items_next : (items : List Item) (concl : Pattern) (l l' : Spot) (k : ℕ) (i : Item) → k < length items → i ≡ get_or items k i → l' ≡ behind v i l →
      AreItemsBuildable v l (drop k items) concl → IsItemBuildable v l i × AreItemsBuildable v l' (drop (k + 1) items) concl
  items_next items concl l l' k i low is moved r =
      let next = drop-at items k i low is in
      let placed = rw next at r.placed in
      let concl_placed = rw next at r.concl_placed in
      let fitting = rw next at r.fitting in
      let narrow = rw next at r.narrow in
      let few = items_room-ge (drop (k + 1) items) concl (l.next + item_count v i) in
      let count = next-behind i l in
      let narrow' : items_room v (drop (k + 1) items) concl (l.next + item_count v i) < 2 ^ 31 = omega (arith, narrow) in
      let rest : AreItemsBuildable v (behind v i l) (drop (k + 1) items) concl = record {
        before = past i r.before;
        stands = stands-behind i l r.before r.stands;
        placed = grind (arith, common_steps, placed);
        concl_placed = concl_placed;
        fitting = grind (arith, common_steps, fitting);
        concl_fitting = r.concl_fitting;
        narrow = rw count narrow';
      } in (
        record {
          before = r.before;
          stands = r.stands;
          placed = grind (arith, common_steps, placed);
          fitting = grind (arith, common_steps, fitting);
          narrow = omega (arith, narrow);
          few = omega (arith, narrow', few);
        },
        subst (λ x. AreItemsBuildable v x (drop (k + 1) items) concl) (sym moved) rest,
      )

  pub items_pushed : (items : List Item) (l l' : Spot) (k : ℕ) (i : Item) (start made more : List Term) → k < length items → i ≡ get_or items k i → l' ≡ behind v i l →
      more ≡ made ++ hyps_of v i l → made ++ hyps_from v (drop k items) l ≡ start → more ++ hyps_from v (drop (k + 1) items) l' ≡ start
  items_pushed items l l' k i start made more low is moved pushed done =
      let next = drop-at items k i low is in
      let done' = rw next at done in
      subst (λ x. more ++ hyps_from v (drop (k + 1) items) x ≡ start) (sym moved) (rw (pushed, append_assoc) done')

  pub items_behind : (items : List Item) (l l' end : Spot) (k : ℕ) (i : Item) → k < length items → i ≡ get_or items k i → l' ≡ behind v i l →
      behind_all v (drop k items) l ≡ end → behind_all v (drop (k + 1) items) l' ≡ end
  items_behind items l l' end k i low is moved done =
      let next = drop-at items k i low is in
      let done' = rw next at done in
      subst (λ x. behind_all v (drop (k + 1) items) x ≡ end) (sym moved) done'

  pub seq_made : (s : Schema) (l : Spot) (k : ℕ) (hyps : List Term) (concl : Term) → length s.items ≤ k → hyps ++ hyps_from v (drop k s.items) l ≡ hyps_from v s.items first_spot →
      behind_all v (drop k s.items) l ≡ behind_all v s.items first_spot → concl ≡ made_at v l l.next s.concl l.next → ◌≡◌ (record { hyps = hyps; concl = concl }) (seq v s)
  seq_made s l k hyps concl h hyps_done moved made =
      let none = drop_of_length-le s.items h in
      let hyps_done' = rw none at hyps_done in
      let moved' = rw none at moved in
      let hyps_is : hyps ≡ hyps_from v s.items first_spot = sym (append-nil hyps) ∙ hyps_done' in
      let env = env-here l l.next in
      let concl_is : concl ≡ concl_at v s.concl l = rw env at made in
      let concl_is' : concl ≡ concl_at v s.concl (behind_all v s.items first_spot) = subst (λ x. concl ≡ concl_at v s.concl x) moved' concl_is in
      cc (hyps_is, concl_is')

  -- nothing stands before the first item
  pub stands-first : v.ambient ≡ 0 → IsBefore v first_spot nothing_before
  stands-first rule = record {
    named = refl;
    spot = record {
      ambient = omega arith;
      named = λ k d h. absurd (omega arith);
      made = λ c h. absurd (cc);
    };
  }
