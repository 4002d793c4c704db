-- The lists of contexts of a well-placed schema have its contexts, each once.
use Rattle.std.proofs.Common.{◌≡◌, inl, inr, List, [], ◌∷◌, Bool, true, false, nat_eq, refl, sym, ◌∙◌, subst, arith}
use Rattle.std.specs.Prelude.{◌||◌}
use Rattle.std.specs.List.{flat_map}
use Rattle.std.proofs.lemmas.Bool.Decides.{nat_tests}
use Rattle.std.proofs.lemmas.Grind.{common_steps}
use Rattle.mp_logic.specs.declared.sym.Sym.{Sym}
use Rattle.mp_schema.specs.declared.pattern.Pattern.{Pattern}
use Rattle.mp_schema.specs.declared.schema.Item.{Item}
use Rattle.mp_schema.specs.declared.schema.Item.TheVariants.{Ctx, Hyp}
use Rattle.mp_schema.specs.declared.schema.Schema.{Schema}
use Rattle.mp_schema.specs.Conditions.{Before, nothing_before, past, past_all, each_item, has, has_all, is_apart, is_known, contexts_among, context_names, pattern_placed, all_placed, item_placed, is_placed}
use Rattle.mp_schema.specs.Occurrences.{Occurrence, occurrences_in, occurrences_in_item, occurrences_in_schema}
use Rattle.mp_schema.specs.Occurrences.{In}
use Rattle.mp_schema.proofs.Lists.{in-split}
use Rattle.mp_schema.proofs.UseKinds.{same_name, context_at}
use Rattle.mp_schema.proofs.Agreeing.{and_both, lists_of_pattern, lists_of_args}

-- each name of the first list is in the second
abbrev pub IsWithin : List Sym → List Sym → Type 0
IsWithin known names = (c : Sym) → has known c ≡ true → has names c ≡ true

known_more : (known names cs : List Sym) → IsWithin known names → has_all known cs ≡ true → has_all names cs ≡ true
known_more known names [] h e = refl
known_more known names (c ∷ cs) h e =
    let both = and_both (has known c) (has_all known cs) e in
    let here = h c both.0 in
    let rest = known_more known names cs h both.1 in rw (here, rest) refl

pub is_known_more : (known names cs : List Sym) → IsWithin known names → is_known known cs ≡ true → is_known names cs ≡ true
is_known_more known names cs h e =
    let both = and_both (has_all known cs) (is_apart cs) e in
    let all = known_more known names cs h both.0 in
    let apart = both.1 in rw (all, apart) refl

module _ (names : List Sym) where
  context_known : (name : Sym) (ctxs : List Sym) (args : List Pattern) (b : Before) (o : Occurrence) → IsWithin b.contexts names → item_placed (Ctx name ctxs args) b ≡ true →
      In o (context_at name ctxs args ∷ flat_map occurrences_in args) → is_known names o.ctxs ≡ true
  context_known name ctxs args b o h e (inl same) =
      let placed = and_both _ (all_placed args b) e in
      let lists = and_both _ (is_known b.contexts ctxs) placed.0 in
      subst (λ (x : Occurrence). is_known names x.ctxs ≡ true) same (is_known_more b.contexts names ctxs h lists.1)
  context_known name ctxs args b o h e (inr i) = let placed = and_both _ (all_placed args b) e in is_known_more b.contexts names o.ctxs h (lists_of_args args b placed.1 o i)

  more_within : (name : Sym) (ctxs : List Sym) (args : List Pattern) (b : Before) → IsWithin b.contexts names → has names name ≡ true → IsWithin (past (Ctx name ctxs args) b).contexts names
  more_within name ctxs args b h here c e = by (nat_eq name.0 c.0) refl e
    where
      by : (t : Bool) → nat_eq name.0 c.0 ≡ t → (t || has b.contexts c) ≡ true → has names c ≡ true
      by true t k = subst (λ (n : Sym). has names n ≡ true) (same_name name c t) here
      by false t k = h c k

  pub items_known : (items : List Item) (b : Before) (o : Occurrence) → IsWithin b.contexts names → IsWithin (contexts_among items) names → each_item item_placed items b ≡ true →
      In o (flat_map occurrences_in_item items) → is_known names o.ctxs ≡ true
  items_known [] b o h k e i = absurd i
  items_known (Hyp p ∷ is) b o h k e i =
      let both = and_both (pattern_placed p b) (each_item item_placed is (past (Hyp p) b)) e in
      elim (in-split o (occurrences_in p) (flat_map occurrences_in_item is) i) [
        | inl j ↦ is_known_more b.contexts names o.ctxs h (lists_of_pattern p b both.0 o j)
        | inr j ↦ items_known is (past (Hyp p) b) o h k both.1 j
      ]
  items_known (Ctx name ctxs args ∷ is) b o h k e i =
      let both = and_both (item_placed (Ctx name ctxs args) b) (each_item item_placed is (past (Ctx name ctxs args) b)) e in
      let here : has names name ≡ true = k name (grind (arith, nat_tests, common_steps)) in
      elim (in-split o (context_at name ctxs args ∷ flat_map occurrences_in args) (flat_map occurrences_in_item is) i) [
        | inl j ↦ context_known name ctxs args b o h both.0 j
        | inr j ↦ items_known is (past (Ctx name ctxs args) b) o (more_within name ctxs args b h here) (λ c t. k c (grind (arith, common_steps, t))) both.1 j
      ]

-- what stands before the conclusion are the contexts of the items
pub past_within : (items : List Item) (b : Before) (c : Sym) → has (past_all items b).contexts c ≡ (has b.contexts c || has (contexts_among items) c)
past_within [] b c = grind (arith, common_steps)
past_within (Hyp p ∷ is) b c = past_within is (past (Hyp p) b) c
past_within (Ctx name ctxs args ∷ is) b c = let ih = past_within is (past (Ctx name ctxs args) b) c in grind (arith, common_steps, ih)

pub placed_known : (s : Schema) (o : Occurrence) → is_placed s ≡ true → In o (occurrences_in_schema s) → is_known (context_names s) o.ctxs ≡ true
placed_known s o e i =
    let both = and_both (each_item item_placed s.items nothing_before) (pattern_placed s.concl (past_all s.items nothing_before)) e in
    elim (in-split o (flat_map occurrences_in_item s.items) (occurrences_in s.concl) i) [
      | inl j ↦ items_known (context_names s) s.items nothing_before o (λ c t. absurd cc) (λ c t. t) both.0 j
      | inr j ↦
          is_known_more (past_all s.items nothing_before).contexts (context_names s) o.ctxs (λ c t. sym (past_within s.items nothing_before c) ∙ t)
          (lists_of_pattern s.concl (past_all s.items nothing_before) both.1 o j)
    ]
