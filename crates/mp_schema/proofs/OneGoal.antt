-- Instances that make a conclusion one goal agree on every name of the conclusion.
use Rattle.std.proofs.Common.{◌≡◌, ℕ, ◌+◌, ◌-◌, ◌<◌, ◌≤◌, List, [], ◌∷◌, ◌++◌, length, map, Bool, true, false, not, nat_eq, IsTrue, All, Option, Some, None, inl, inr, suc, refl, sym, ap, ◌∙◌, subst, append-nil, arith}
use Rattle.std.specs.Prelude.{◌&&◌, ◌||◌, IsSome}
use Rattle.std.specs.List.{IsDistinct, list_all, flat_map}
use Rattle.std.proofs.lemmas.Bool.Decides.{nat_tests}
use Rattle.std.proofs.lemmas.Grind.{common_steps}
use Rattle.std.proofs.lemmas.List.{length-append, length-map, length_push}
use Rattle.mp_logic.specs.declared.sym.Sym.{Sym}
use Rattle.mp_term.specs.declared.term.Term.{Term, Var}
use Rattle.mp_term.specs.declared.sequent.Sequent.{Sequent}
use Rattle.mp_term.specs.Limits.{in_scopes_from}
use Rattle.mp_term.specs.Subst.{upto}
use Rattle.mp_schema.specs.declared.pattern.Pattern.{Pattern}
use Rattle.mp_schema.specs.declared.schema.Item.{Item}
use Rattle.mp_schema.specs.declared.schema.Item.TheVariants.{Ctx, Hyp}
use Rattle.mp_schema.specs.declared.schema.Schema.{Schema}
use Rattle.mp_schema.specs.Conditions.{Before, Seen, argument, seen, below, past, past_all, nothing_before, each_item, item_placed, item_fine, args_fine, all_variables, pattern_placed, all_placed, has, has_all, is_apart, is_known, lists_known, contexts_among, context_names, has_two_contexts, is_placed, is_fine, is_conclusion}
use Rattle.mp_schema.specs.Instances.{inst_of, fits, all_pass}
use Rattle.mp_schema.specs.Occurrences.{In, Occurrence, occurrences_in, occurrences_in_item, occurrences_in_schema, holes_in, holes_in_item, holes_in_schema}
use Rattle.mp_schema.specs.Sequents.{Instance, Spot, ground_at, first_spot, wide_of, hyps_of, hyps_from, behind, behind_all, concl_at, item_fits}
use Rattle.mp_schema.specs.Solutions.{SameValue, AgreeOn, FirstHas, HasFirst, GivesGoal, GivesTerm, ambient_only}
use Rattle.mp_schema.proofs.Agreeing.{and_both}
use Rattle.mp_schema.proofs.Apart.{Apart-from, Apart-to, Apart-left, Apart-upto, Below-from, Below-to, Below-left, Below-upto}
use Rattle.mp_schema.proofs.Arguments.{fine-variables, arguments-distinct, arguments-below}
use Rattle.mp_schema.proofs.UseKinds.{same_name, plain, context_at}
use Rattle.mp_schema.proofs.Laying.{blocks, IsLaidOut, laid-first, blocks-distinct, blocks-low, laid-named, laid-context}
use Rattle.mp_schema.proofs.Lists.{in-split}
use Rattle.mp_term.proofs.EqualTerms.{decided}
use Rattle.mp_term.proofs.Ranges.{length-upto}
use Rattle.mp_schema.proofs.OnePattern.{args-made, one_pattern}
use Rattle.mp_schema.proofs.Rows.{placed_from, telescope-length, telescope_levels, telescope-placed, placed-injective, wide-ground}

-- ## Sizes

-- lists of equal parts
same_parts : {X : Type 0} (xs ys zs ws : List X) → length xs ≡ length ys → xs ++ zs ≡ ys ++ ws → (xs ≡ ys) × (zs ≡ ws)
same_parts [] [] zs ws n e = (refl, e)
same_parts [] (y ∷ ys) zs ws n e = absurd cc
same_parts (x ∷ xs) [] zs ws n e = absurd cc
same_parts (x ∷ xs) (y ∷ ys) zs ws n e =
    let first : x ≡ y = cc in
    let left : xs ++ zs ≡ ys ++ ws = cc in
    let r = same_parts xs ys zs ws (omega (arith, n)) left in
    (rw (first, r.0) refl, r.1)

-- how many hypotheses are named
abbrev named_count : List Item → ℕ
named_count [] = 0
named_count (Hyp p ∷ is) = suc (named_count is)
named_count (Ctx name ctxs args ∷ is) = named_count is

-- how many hypotheses the contexts have
abbrev kept_total : Instance → List Sym → ℕ
kept_total v [] = 0
kept_total v (c ∷ names) = length (v.kept c) + kept_total v names

made_length : (v : Instance) (is : List Item) (l : Spot) → length (hyps_from v is l) ≡ named_count is + kept_total v (contexts_among is)
made_length v [] l = refl
made_length v (Hyp p ∷ is) l =
    let a = length-append (hyps_of v (Hyp p) l) (hyps_from v is (behind v (Hyp p) l)) in
    let b : length (hyps_of v (Hyp p) l) ≡ 1 = refl in
    let r = made_length v is (behind v (Hyp p) l) in
    omega (arith, a, b, r)
made_length v (Ctx name ctxs args ∷ is) l =
    let a = length-append (hyps_of v (Ctx name ctxs args) l) (hyps_from v is (behind v (Ctx name ctxs args) l)) in
    let b = telescope-length v l ctxs args l.next 0 (v.kept name) in
    let r = made_length v is (behind v (Ctx name ctxs args) l) in
    omega (arith, a, b, r)

-- the place after the items is as many hypotheses on
pub next_is : (v : Instance) (is : List Item) (l : Spot) → (behind_all v is l).next ≡ l.next + length (hyps_from v is l)
next_is v [] l = omega arith
next_is v (Hyp p ∷ is) l =
    let a = length-append (hyps_of v (Hyp p) l) (hyps_from v is (behind v (Hyp p) l)) in
    let b : length (hyps_of v (Hyp p) l) ≡ 1 = refl in
    let r = next_is v is (behind v (Hyp p) l) in
    omega (arith, a, b, r)
next_is v (Ctx name ctxs args ∷ is) l =
    let a = length-append (hyps_of v (Ctx name ctxs args) l) (hyps_from v is (behind v (Ctx name ctxs args) l)) in
    let b = telescope-length v l ctxs args l.next 0 (v.kept name) in
    let r = next_is v is (behind v (Ctx name ctxs args) l) in
    omega (arith, a, b, r)

-- the first size is said where there are two
abbrev IsSaid : List Sym → Option ℕ → Type 0
IsSaid names first = length names ≡ 2 → IsSome first

abbrev FirstIs : Instance → List Sym → Option ℕ → Type 0
FirstIs v names None = Unit {0}
FirstIs v names (Some n) = FirstHas v names n

module _ (v w : Instance) where
  -- each context has as many hypotheses in both
  abbrev SameSizes : List Sym → Type 0
  SameSizes [] = Unit {0}
  SameSizes (c ∷ names) = (length (v.kept c) ≡ length (w.kept c)) × SameSizes names

  same_sizes : (names : List Sym) (first : Option ℕ) → length names ≤ 2 → IsSaid names first → FirstIs v names first → FirstIs w names first → kept_total v names ≡ kept_total w names → SameSizes names
  same_sizes [] first few said a b e = tt
  same_sizes (c ∷ []) first few said a b e = (omega (arith, e), tt)
  same_sizes (c ∷ d ∷ []) None few said a b e = absurd (let k = said refl in cc)
  same_sizes (c ∷ d ∷ []) (Some n) few said a b e = (a ∙ sym b, (omega (arith, a, b, e), tt))
  same_sizes (c ∷ d ∷ x ∷ names) first few said a b e = absurd (omega (arith, few))

  -- ## Names

  agree_both : (os others : List Occurrence) (names more : List Sym) → AgreeOn v w os names → AgreeOn v w others more → AgreeOn v w (os ++ others) (names ++ more)
  agree_both os others names more a b = record {
    values = λ o i. elim (in-split o os others i) [ inl j ↦ a.values o j | inr j ↦ b.values o j ];
    params = λ n i. elim (in-split n names more i) [ inl j ↦ a.params n j | inr j ↦ b.params n j ];
  }

  -- ## Places

  -- what is before an item: contexts that are as long in both, and named hypotheses, apart from each other
  record Stands (l : Spot) (b : Before) : Type 0 where
    laid : IsLaidOut l.pos (λ c. length (v.kept c)) b.contexts l.env l.next
    many : length l.env ≡ b.named
    counts : (c : Sym) → has b.contexts c ≡ true → length (v.kept c) ≡ length (w.kept c)

  module _ (closed : v.ambient ≡ 0) (closed' : w.ambient ≡ 0) (l : Spot) (b : Before) (s : Stands l b) where
    blocks_same : (cs : List Sym) → has_all b.contexts cs ≡ true → blocks l.pos (λ c. length (v.kept c)) cs ≡ blocks l.pos (λ c. length (w.kept c)) cs
    blocks_same [] h = refl
    blocks_same (c ∷ cs) h =
        let k = and_both (has b.contexts c) (has_all b.contexts cs) h in
        let here = s.counts c k.0 in
        ap (λ n. upto (l.pos c) n ++ blocks l.pos (λ c. length (v.kept c)) cs) here ∙ ap (λ ls. upto (l.pos c) (length (w.kept c)) ++ ls) (blocks_same cs k.1)

    ground_v : (cs : List Sym) → ground_at v l.pos cs ≡ blocks l.pos (λ c. length (v.kept c)) cs
    ground_v cs = ap (λ n. upto 0 n ++ blocks l.pos (λ c. length (v.kept c)) cs) closed

    ground_w : (cs : List Sym) → ground_at w l.pos cs ≡ blocks l.pos (λ c. length (w.kept c)) cs
    ground_w cs = ap (λ n. upto 0 n ++ blocks l.pos (λ c. length (w.kept c)) cs) closed'

    grounds : (cs : List Sym) → is_known b.contexts cs ≡ true → ground_at v l.pos cs ≡ ground_at w l.pos cs
    grounds cs h = ground_v cs ∙ blocks_same cs (and_both (has_all b.contexts cs) (is_apart cs) h).0 ∙ sym (ground_w cs)

    distinct : (cs : List Sym) → is_known b.contexts cs ≡ true → IsDistinct nat_eq (ground_at v l.pos cs ++ l.env)
    distinct cs h = subst (λ ls. IsDistinct nat_eq (ls ++ l.env)) (sym (ground_v cs)) (blocks-distinct l.pos (λ c. length (v.kept c)) b.contexts l.env l.next s.laid cs h)

    low : (cs : List Sym) → is_known b.contexts cs ≡ true → All (λ x. x < l.next) (ground_at v l.pos cs ++ l.env)
    low cs h = subst (λ ls. All (λ x. x < l.next) (ls ++ l.env)) (sym (ground_v cs)) (blocks-low l.pos (λ c. length (v.kept c)) b.contexts l.env l.next s.laid cs h)

    -- no binder stands between the place and itself
    here : l.env ++ upto l.next (l.next - l.next) ≡ l.env
    here = let none : l.next - l.next ≡ 0 = omega arith in rw none (append-nil l.env)

    room : b.named ≡ length l.env + (l.next - l.next)
    room = let m = s.many in omega (arith, m)

    pattern_agrees : (p : Pattern) → pattern_placed p b ≡ true → (seen p).fine b.named ≡ true → fits (wide_of v) v.values p ≡ true → fits (wide_of w) w.values p ≡ true → concl_at v p l ≡ concl_at w p l →
        AgreeOn v w (occurrences_in p) (holes_in p)
    pattern_agrees p placed fine fits_v fits_w e =
        let known = (and_both (below p b.named) (lists_known b.contexts p) placed).1 in
        let made = subst (λ ls. inst_of (ground_at v l.pos) v.values p (map Var ls) l.next ≡ inst_of (ground_at w l.pos) w.values p (map Var ls) l.next) (sym here) e in
        let one =
        one_pattern (ground_at v l.pos) (ground_at w l.pos) (wide_of v) (wide_of w) b.contexts v.values w.values l.env l.next grounds (wide-ground v l.pos) (wide-ground w l.pos) distinct low p
        l.next (omega arith) (subst (λ n. (seen p).fine n ≡ true) room fine) known fits_v fits_w made in
        record {
          values = λ o i. subst (λ k. SameValue v w k o.name) (sym (plain p o i)) (one.0 o i);
          params = one.1;
        }

    module _ (name : Sym) (ctxs : List Sym) (args : List Pattern) (placed : item_placed (Ctx name ctxs args) b ≡ true) (fine : args_fine b.named (map seen args) ≡ true)
        (fits_v : item_fits v (Ctx name ctxs args) ≡ true) (fits_w : item_fits w (Ctx name ctxs args) ≡ true) where
      known : is_known b.contexts ctxs ≡ true
      known =
          let a = and_both (not (has b.contexts name) && is_known b.contexts ctxs) (all_placed args b) placed in
          (and_both (not (has b.contexts name)) (is_known b.contexts ctxs) a.0).1

      fine_here : args_fine (length l.env + (l.next - l.next)) (map seen args) ≡ true
      fine_here = subst (λ n. args_fine n (map seen args) ≡ true) room fine

      are_variables : all_variables (length l.env) (map seen args) ≡ true
      are_variables = let m = s.many in fine-variables (length l.env) (map seen args) (rw m fine)

      abbrev levels : List ℕ
      levels = telescope_levels v l ctxs args

      levels_same : levels ≡ telescope_levels w l ctxs args
      levels_same = ap (λ ls. ls ++ map (λ (a : Seen). argument l.env a.level) (map seen args)) (grounds ctxs known)

      levels_distinct : IsDistinct nat_eq levels
      levels_distinct =
          subst (λ ls. IsDistinct nat_eq (ground_at v l.pos ctxs ++ map (λ (a : Seen). argument ls a.level) (map seen args))) here
          (arguments-distinct (ground_at v l.pos ctxs) l.env l.next l.next (map seen args) (omega arith) (distinct ctxs known) (low ctxs known) fine_here)

      levels_below : All (λ x. x < l.next) levels
      levels_below =
          subst (λ ls. All (λ x. x < l.next) (ground_at v l.pos ctxs ++ map (λ (a : Seen). argument ls a.level) (map seen args))) here
          (arguments-below (ground_at v l.pos ctxs) l.env l.next l.next (map seen args) (omega arith) (distinct ctxs known) (low ctxs known) fine_here)

      many_levels : (u : Instance) → length (telescope_levels u l ctxs args) ≡ wide_of u ctxs + length args
      many_levels u =
          length-append (ground_at u l.pos ctxs) (map (λ (a : Seen). argument l.env a.level) (map seen args))
          ∙ ap (λ k. k + length (map (λ (a : Seen). argument l.env a.level) (map seen args))) (wide-ground u l.pos ctxs)
          ∙ ap (λ k. wide_of u ctxs + k) (length-map (map seen args) (λ (a : Seen). argument l.env a.level) ∙ length-map args seen)

      scopes : (u : Instance) → item_fits u (Ctx name ctxs args) ≡ true → telescope_levels u l ctxs args ≡ levels → in_scopes_from (length levels) (u.kept name) ≡ true
      scopes u f e =
          subst (λ n. in_scopes_from n (u.kept name) ≡ true) (sym (many_levels u) ∙ ap (λ (ls : List ℕ). length ls) e)
          (and_both (in_scopes_from (wide_of u ctxs + length args) (u.kept name)) (all_pass (map (fits (wide_of u) u.values) args)) f).0

      kept_same : hyps_of v (Ctx name ctxs args) l ≡ hyps_of w (Ctx name ctxs args) l → v.kept name ≡ w.kept name
      kept_same e =
          let left = telescope-placed v l ctxs args l.next are_variables (v.kept name) in
          let right = telescope-placed w l ctxs args l.next are_variables (w.kept name) in
          let rows : placed_from levels l.next (v.kept name) ≡ placed_from levels l.next (w.kept name) =
          sym left ∙ e ∙ right ∙ ap (λ ls. placed_from ls l.next (w.kept name)) (sym levels_same) in
          placed-injective levels l.next (v.kept name) (w.kept name) levels_distinct levels_below (scopes v fits_v refl) (scopes w fits_w (sym levels_same)) rows

      context_agrees : v.kept name ≡ w.kept name → AgreeOn v w (occurrences_in_item (Ctx name ctxs args)) (holes_in_item (Ctx name ctxs args))
      context_agrees same =
          let none = args-made (ground_at v l.pos) v.values l.env l.next args are_variables in
          record { values = λ o i. at o i none.1; params = λ n i. absurd (subst (In n) none.2 i) }
        where
          at : (o : Occurrence) → In o (context_at name ctxs args ∷ flat_map occurrences_in args) → flat_map occurrences_in args ≡ [] → SameValue v w o.is_context o.name
          at o (inl e) none = subst (λ (x : Occurrence). SameValue v w x.is_context x.name) e same
          at o (inr i) none = absurd (subst (In o) none i)

    -- ## The next place

    named_stands : (p : Pattern) → Stands (behind v (Hyp p) l) (past (Hyp p) b)
    named_stands p = record {
      laid = laid-named l.pos (λ c. length (v.kept c)) b.contexts l.env l.next s.laid;
      many = let m = s.many in length_push l.env l.next ∙ ap (λ n. n + 1) m;
      counts = s.counts;
    }

    context_stands : (name : Sym) (ctxs : List Sym) (args : List Pattern) → has b.contexts name ≡ false → length (v.kept name) ≡ length (w.kept name) →
        Stands (behind v (Ctx name ctxs args) l) (past (Ctx name ctxs args) b)
    context_stands name ctxs args new size = record {
      laid = laid-context l.pos (λ c. length (v.kept c)) b.contexts l.env l.next s.laid name new;
      many = s.many;
      counts = λ c h. elim (decided (nat_eq name.0 c.0)) [
        | inl e ↦ subst (λ x. length (v.kept x) ≡ length (w.kept x)) (same_name name c e) size
        | inr e ↦ s.counts c (let k : (nat_eq name.0 c.0 || has b.contexts c) ≡ true = h in grind (arith, common_steps, e, k))
      ];
    }

  -- ## Items

  -- where both have made all items
  record Ended (items : List Item) (l : Spot) (b : Before) : Type 0 where
    agree : AgreeOn v w (flat_map occurrences_in_item items) (flat_map holes_in_item items)
    spot : behind_all w items l ≡ behind_all v items l
    stands : Stands (behind_all v items l) (past_all items b)

  behind_same : (name : Sym) (ctxs : List Sym) (args : List Pattern) (l : Spot) → length (v.kept name) ≡ length (w.kept name) → behind w (Ctx name ctxs args) l ≡ behind v (Ctx name ctxs args) l
  behind_same name ctxs args l e = rw e refl

  module _ (closed : v.ambient ≡ 0) (closed' : w.ambient ≡ 0) where
    walk : (items : List Item) (l : Spot) (b : Before) → Stands l b → each_item item_placed items b ≡ true → each_item item_fine items b ≡ true → list_all (item_fits v) items ≡ true →
        list_all (item_fits w) items ≡ true → SameSizes (contexts_among items) → hyps_from v items l ≡ hyps_from w items l → Ended items l b
    walk [] l b s placed fine fits_v fits_w sizes e = record { agree = record { values = λ o i. absurd i; params = λ n i. absurd i }; spot = refl; stands = s }
    walk (Hyp p ∷ is) l b s placed fine fits_v fits_w sizes e =
        let placed' = and_both (item_placed (Hyp p) b) (each_item item_placed is (past (Hyp p) b)) placed in
        let fine' = and_both (item_fine (Hyp p) b) (each_item item_fine is (past (Hyp p) b)) fine in
        let left = and_both (item_fits v (Hyp p)) (list_all (item_fits v) is) fits_v in
        let right = and_both (item_fits w (Hyp p)) (list_all (item_fits w) is) fits_w in
        let both : concl_at v p l ∷ hyps_from v is (behind v (Hyp p) l) ≡ concl_at w p l ∷ hyps_from w is (behind v (Hyp p) l) = e in
        let first : concl_at v p l ≡ concl_at w p l = cc in
        let others : hyps_from v is (behind v (Hyp p) l) ≡ hyps_from w is (behind v (Hyp p) l) = cc in
        let here = pattern_agrees closed closed' l b s p placed'.0 fine'.0 left.0 right.0 first in
        let rest = walk is (behind v (Hyp p) l) (past (Hyp p) b) (named_stands closed closed' l b s p) placed'.1 fine'.1 left.1 right.1 sizes others in
        record {
          agree = agree_both (occurrences_in p) (flat_map occurrences_in_item is) (holes_in p) (flat_map holes_in_item is) here rest.agree;
          spot = rest.spot;
          stands = rest.stands;
        }
    walk (Ctx name ctxs args ∷ is) l b s placed fine fits_v fits_w sizes e =
        let placed' = and_both (item_placed (Ctx name ctxs args) b) (each_item item_placed is (past (Ctx name ctxs args) b)) placed in
        let fine' = and_both (item_fine (Ctx name ctxs args) b) (each_item item_fine is (past (Ctx name ctxs args) b)) fine in
        let left = and_both (item_fits v (Ctx name ctxs args)) (list_all (item_fits v) is) fits_v in
        let right = and_both (item_fits w (Ctx name ctxs args)) (list_all (item_fits w) is) fits_w in
        let long = telescope-length v l ctxs args l.next 0 (v.kept name) ∙ sizes.0 ∙ sym (telescope-length w l ctxs args l.next 0 (w.kept name)) in
        let parts =
        same_parts (hyps_of v (Ctx name ctxs args) l) (hyps_of w (Ctx name ctxs args) l) (hyps_from v is (behind v (Ctx name ctxs args) l)) (hyps_from w is (behind w (Ctx name ctxs args) l)) long e in
        let next = behind_same name ctxs args l sizes.0 in
        let others : hyps_from v is (behind v (Ctx name ctxs args) l) ≡ hyps_from w is (behind v (Ctx name ctxs args) l) = parts.1 ∙ ap (hyps_from w is) next in
        let same = kept_same closed closed' l b s name ctxs args placed'.0 fine'.0 left.0 right.0 parts.0 in
        let here = context_agrees closed closed' l b s name ctxs args placed'.0 fine'.0 left.0 right.0 same in
        let rest = walk is (behind v (Ctx name ctxs args) l) (past (Ctx name ctxs args) b) (context_stands closed closed' l b s name ctxs args (new b name ctxs args placed'.0) sizes.0) placed'.1 fine'.1
        left.1 right.1 sizes.1 others in
        record {
          agree = agree_both (occurrences_in_item (Ctx name ctxs args)) (flat_map occurrences_in_item is) (holes_in_item (Ctx name ctxs args)) (flat_map holes_in_item is) here rest.agree;
          spot = ap (behind_all w is) next ∙ rest.spot;
          stands = rest.stands;
        }
      where
        not_true : (x : Bool) → not x ≡ true → x ≡ false
        not_true true h = absurd cc
        not_true false h = refl

        new : (b : Before) (name : Sym) (ctxs : List Sym) (args : List Pattern) → item_placed (Ctx name ctxs args) b ≡ true → has b.contexts name ≡ false
        new b name ctxs args placed =
            let a = and_both (not (has b.contexts name) && is_known b.contexts ctxs) (all_placed args b) placed in
            not_true (has b.contexts name) (and_both (not (has b.contexts name)) (is_known b.contexts ctxs) a.0).0

-- ## Goals

module _ (c : Schema) (first : Option ℕ) (goal : Sequent) (v w : Instance) (conclusion : IsTrue (is_conclusion c)) (said : IsTrue (has_two_contexts c) → IsSome first)
    (gives_v : GivesGoal c first goal v) (gives_w : GivesGoal c first goal w) where
  record Parts : Type 0 where
    placed : is_placed c ≡ true
    fine : is_fine c ≡ true
    few : length (context_names c) ≤ 2

  parts : Parts
  parts =
      let a = and_both _ _ conclusion in
      let b = and_both _ _ a.0 in
      let d = and_both (is_placed c) (is_fine c) b.0 in
      let few = b.1 in
      record { placed = d.0; fine = d.1; few = grind (arith, nat_tests, few) }

  first_is : (u : Instance) → HasFirst u c first → FirstIs u (context_names c) first
  first_is u h = at first h
    where
      at : (o : Option ℕ) → HasFirst u c o → FirstIs u (context_names c) o
      at None k = k
      at (Some n) k = k

  hyps_made : (u : Instance) → GivesGoal c first goal u → hyps_from u c.items first_spot ≡ goal.hyps
  hyps_made u g = ap (λ (q : Sequent). q.hyps) g.same

  concl_made : (u : Instance) → GivesGoal c first goal u → concl_at u c.concl (behind_all u c.items first_spot) ≡ goal.concl
  concl_made u g = ap (λ (q : Sequent). q.concl) g.same

  fit_parts : (u : Instance) → GivesGoal c first goal u → (list_all (item_fits u) c.items ≡ true) × (fits (wide_of u) u.values c.concl ≡ true)
  fit_parts u g = and_both (list_all (item_fits u) c.items) (fits (wide_of u) u.values c.concl) g.fit

  sizes_same : SameSizes v w (context_names c)
  sizes_same =
      let a = made_length v c.items first_spot in
      let b = made_length w c.items first_spot in
      let d = ap (λ (ts : List Term). length ts) (hyps_made v gives_v ∙ sym (hyps_made w gives_w)) in
      let p = parts in
      same_sizes v w (context_names c) first p.few (λ two. said (grind (arith, nat_tests, two))) (first_is v gives_v.sized) (first_is w gives_w.sized) (omega (arith, a, b, d))

  ended : Ended v w c.items first_spot nothing_before
  ended =
      let p = parts in
      let placed = (and_both (each_item item_placed c.items nothing_before) (pattern_placed c.concl (past_all c.items nothing_before)) p.placed).0 in
      let fine = (and_both (each_item item_fine c.items nothing_before) ((seen c.concl).fine (past_all c.items nothing_before).named) p.fine).0 in
      walk v w gives_v.ambient gives_w.ambient c.items first_spot nothing_before
      (record { laid = laid-first (λ c. 0) (λ c. length (v.kept c)); many = refl; counts = λ c e. absurd cc })
      placed fine (fit_parts v gives_v).0 (fit_parts w gives_w).0 sizes_same (hyps_made v gives_v ∙ sym (hyps_made w gives_w))

  -- the instances have the same values where the conclusion has names
  pub one_instance : AgreeOn v w (occurrences_in_schema c) (holes_in_schema c)
  one_instance =
      let e = ended in
      let p = parts in
      let placed = (and_both (each_item item_placed c.items nothing_before) (pattern_placed c.concl (past_all c.items nothing_before)) p.placed).1 in
      let fine = (and_both (each_item item_fine c.items nothing_before) ((seen c.concl).fine (past_all c.items nothing_before).named) p.fine).1 in
      let concl : concl_at v c.concl (behind_all v c.items first_spot) ≡ concl_at w c.concl (behind_all v c.items first_spot) =
      concl_made v gives_v ∙ sym (concl_made w gives_w) ∙ ap (concl_at w c.concl) e.spot in
      let here = pattern_agrees v w gives_v.ambient gives_w.ambient (behind_all v c.items first_spot) (past_all c.items nothing_before) e.stands c.concl placed fine (fit_parts v gives_v).1 (fit_parts w gives_w).1 concl in
      agree_both v w (flat_map occurrences_in_item c.items) (occurrences_in c.concl) (flat_map holes_in_item c.items) (holes_in c.concl) e.agree here

  -- ## The variables of the contexts after the items

  abbrev spot : Spot
  spot = behind_all v c.items first_spot

  abbrev known_after : List Sym
  known_after = (past_all c.items nothing_before).contexts

  -- they are the same in both instances
  pub ground_same : (cs : List Sym) → is_known known_after cs ≡ true → ground_at v spot.pos cs ≡ ground_at w (behind_all w c.items first_spot).pos cs
  ground_same cs h =
      let e = ended in
      grounds v w gives_v.ambient gives_w.ambient spot (past_all c.items nothing_before) e.stands cs h ∙ ap (λ (l : Spot). ground_at w l.pos cs) (sym e.spot)

  -- they are distinct
  pub ground_distinct : (cs : List Sym) → is_known known_after cs ≡ true → IsDistinct nat_eq (ground_at v spot.pos cs)
  ground_distinct cs h =
      let e = ended in
      let d = distinct v w gives_v.ambient gives_w.ambient spot (past_all c.items nothing_before) e.stands cs h in
      Apart-to (ground_at v spot.pos cs) (Apart-left (ground_at v spot.pos cs) spot.env (Apart-from (ground_at v spot.pos cs ++ spot.env) d))

  -- they are hypotheses of the goal
  pub ground_below : (cs : List Sym) → is_known known_after cs ≡ true → All (λ x. x < length goal.hyps) (ground_at v spot.pos cs)
  ground_below cs h =
      let e = ended in
      let b = low v w gives_v.ambient gives_w.ambient spot (past_all c.items nothing_before) e.stands cs h in
      let made = next_is v c.items first_spot in
      let many = ap (λ (ts : List Term). length ts) (hyps_made v gives_v) in
      let next : spot.next ≡ length goal.hyps = omega (arith, made, many) in
      subst (λ n. All (λ x. x < n) (ground_at v spot.pos cs)) next
      (Below-to spot.next (ground_at v spot.pos cs) (Below-left (ground_at v spot.pos cs) spot.env spot.next (Below-from spot.next (ground_at v spot.pos cs ++ spot.env) b)))

-- ## Terms

-- instances that make a pattern without contexts one term agree on its names
pub one_term : (scope : ℕ) (p : Pattern) (t : Term) (v w : Instance) → (seen p).fine 0 ≡ true → lists_known [] p ≡ true → GivesTerm scope p t v → GivesTerm scope p t w →
    AgreeOn v w (occurrences_in p) (holes_in p)
one_term scope p t v w fine lists gives_v gives_w =
    let none : scope - scope ≡ 0 = omega arith in
    let all : 0 + scope ≡ scope = omega arith in
    let one = one_pattern (ambient_only scope) (ambient_only scope) (λ cs. scope) (λ cs. scope) [] v.values w.values [] scope (λ cs h. refl) (λ cs. length-upto 0 scope) (λ cs. length-upto 0 scope)
    (λ cs h. rw (append-nil (upto 0 scope)) (Apart-to (upto 0 scope) (Apart-upto 0 scope)))
    (λ cs h. rw (append-nil (upto 0 scope)) (Below-to scope (upto 0 scope) (rw all at (Below-upto 0 scope)))) p scope (omega arith) (rw none fine) lists gives_v.fit gives_w.fit
    (rw none (gives_v.same ∙ sym gives_w.same)) in
    record { values = λ o i. subst (λ k. SameValue v w k o.name) (sym (plain p o i)) (one.0 o i); params = one.1 }
