-- The least fault so far goes on from one part of a schema or a rule to the next.
use Rattle.std.proofs.Common.{◌≡◌, ◌++◌, ◌+◌, ◌<◌, ℕ, List, [], Option, Bool, true, false, nat_eq, nat_lt, if◌then◌else◌, refl, ap, sym, ◌∙◌, append-nil, drop, length, get_or, map, arith}
use Rattle.std.specs.List.{flat_map}
use Rattle.std.specs.Prelude.{slice_get}
use Rattle.std.proofs.lemmas.Bool.Decides.{nat_tests}
use Rattle.mp_logic.specs.declared.sym.Sym.{Sym}
use Rattle.mp_words.specs.declared.fail.TextErr.{TextErr}
use Rattle.mp_words.specs.declared.raw.RawName.{RawName}
use Rattle.mp_words.specs.Faults.{fault_at_any, fault_if, least_from, too_many}
use Rattle.mp_words.specs.Seconds.{second_faults}
use Rattle.mp_words.proofs.Soonest.{least_from_append}
use Rattle.mp_words.proofs.FaultParts.{two_parts, four_parts}
use Rattle.mp_words.proofs.Walks.{left_cons}
use Rattle.mp_termtext.specs.Statics.{each_faults}
use Rattle.mp_patterntext.specs.declared.raw.RawPattern.{RawPattern}
use Rattle.mp_schematext.specs.declared.raw.RawItem.{RawItem}
use Rattle.mp_schematext.specs.declared.raw.RawSchema.{RawSchema}
use Rattle.mp_schematext.specs.declared.raw.RawRule.{RawRule}
use Rattle.mp_schematext.specs.Scopes.{context_in, contexts_of, contexts_past, env_behind, env_past}
use Rattle.mp_patterntext.specs.Scopes.{syms_of}
use Rattle.mp_patterntext.specs.Nodes.{argument_of, dangling_faults, node_faults, use_faults}
use Rattle.mp_schematext.specs.Statics.{conclusion_faults, frame_faults, item_at, item_faults, items_faults, misplaced_faults, premise_faults, raw_schema_size_of, rule_faults, schema_faults}
use Rattle.mp_patterntext.specs.Uses.{uses_faults, hole_faults}
use Rattle.mp_schematext.specs.Uses.{raw_schema_holes, uses_in_rule}
use Rattle.mp_patterntext.proofs.SizesAndHoles.{syms_both}
use Rattle.mp_words.specs.declared.fail.TextWhy.TheVariants as why
use Rattle.mp_schematext.specs.declared.raw.RawItem.TheVariants as item

module _ (final : Bool) (items : List RawItem) (i : ℕ) (x : RawItem) (lt : i < length items) (is : x ≡ get_or items i x) where
  pub items_next : (known after : List RawName) (env behind : List Sym) (held next whole : Option TextErr) → next ≡ least_from held (item_faults (syms_of known) final x env) → after ≡ known ++ context_in x → behind ≡ env_past x env
      → least_from held (items_faults (syms_of known) final (drop i items) env) ≡ whole → least_from next (items_faults (syms_of after) final (drop (i + 1) items) behind) ≡ whole
  items_next known after env behind held next whole found grown bound prev =
      let rest = drop (i + 1) items in
      let seen : syms_of after ≡ contexts_past x (syms_of known) = ap syms_of grown ∙ syms_both known (context_in x) in
      (λ k. least_from next (items_faults (seen k) final rest (bound k))) ∙ ap (λ o. least_from o (items_faults (contexts_past x (syms_of known)) final rest (env_past x env))) found
      ∙ sym (least_from_append held (item_faults (syms_of known) final x env) (items_faults (contexts_past x (syms_of known)) final rest (env_past x env)))
      ∙ ap (λ ys. least_from held (items_faults (syms_of known) final ys env)) (sym (left_cons items i x lt is)) ∙ prev

  pub bound_next : (env behind whole : List Sym) → behind ≡ env_past x env → env_behind (drop i items) env ≡ whole → env_behind (drop (i + 1) items) behind ≡ whole
  bound_next env behind whole bound prev = ap (env_behind (drop (i + 1) items)) bound ∙ ap (λ ys. env_behind ys env) (sym (left_cons items i x lt is)) ∙ prev

-- the parts of a schema
pub schema_parts : (final : Bool) (s : RawSchema) (items : List RawItem) (known seen contexts : List RawName) (env behind : List Sym) (held a b c d e : Option TextErr) → items ≡ s.items → contexts ≡ contexts_of s → known ≡ contexts → seen ≡ contexts → env ≡ []
    → a ≡ least_from held (too_many item_at 200 items) → b ≡ least_from a (second_faults (λ (n : RawName). n) why.TwiceContext known) → c ≡ least_from b (items_faults [] final items env) → behind ≡ env_behind items env
    → d ≡ least_from c (node_faults (syms_of seen) final s.concl behind 1) → e ≡ least_from d (fault_if (nat_lt 20000 (raw_schema_size_of s)) s.at why.TooBig) → e ≡ least_from held (schema_faults final s)
schema_parts final s items known seen contexts env behind held a b c d e same all k q none f g h bound l m =
    let f' : a ≡ least_from held (too_many item_at 200 s.items) = f ∙ ap (λ is. least_from held (too_many item_at 200 is)) same in
    let g' : b ≡ least_from a (second_faults (λ (n : RawName). n) why.TwiceContext (contexts_of s)) = g ∙ ap (λ ns. least_from a (second_faults (λ (n : RawName). n) why.TwiceContext ns)) (k ∙ all) in
    let h' : c ≡ least_from b (items_faults [] final s.items []) = h ∙ (λ i. least_from b (items_faults [] final (same i) (none i))) in
    let l' : d ≡ least_from c (node_faults (syms_of (contexts_of s)) final s.concl (env_behind s.items []) 1) = l ∙ (λ i. least_from c (node_faults (syms_of ((q ∙ all) i)) final s.concl ((bound ∙ (λ j. env_behind (same j) (none j))) i) 1)) in
    let nodes = node_faults (syms_of (contexts_of s)) final s.concl (env_behind s.items []) 1 in
    two_parts held d e (too_many item_at 200 s.items ++ second_faults (λ (n : RawName). n) why.TwiceContext (contexts_of s) ++ items_faults [] final s.items [] ++ nodes) (fault_if (nat_lt 20000 (raw_schema_size_of s)) s.at why.TooBig)
    (four_parts held a b c d (too_many item_at 200 s.items) (second_faults (λ (n : RawName). n) why.TwiceContext (contexts_of s)) (items_faults [] final s.items []) nodes f' g' h' l') m

-- the parts of a rule
pub rule_parts : (r : RawRule) (concl one : List RawName) (premises : List RawSchema) (held a b c d e f : Option TextErr) → concl ≡ contexts_of r.concl → one ≡ concl → premises ≡ r.premises
    → a ≡ least_from held (too_many (λ (s : RawSchema). s.at) 16 r.premises) → b ≡ least_from a (flat_map (premise_faults (syms_of one)) premises) → c ≡ least_from b (frame_faults r.concl) → d ≡ least_from c (schema_faults true r.concl)
    → e ≡ least_from d (uses_faults (uses_in_rule r)) → f ≡ least_from e (hole_faults (syms_of (raw_schema_holes r.concl)) (flat_map raw_schema_holes r.premises)) → f ≡ least_from held (rule_faults r)
rule_parts r concl one premises held a b c d e f all o same g h k l m n =
    let ps = flat_map (premise_faults (syms_of (contexts_of r.concl))) r.premises in
    let h' : b ≡ least_from a ps = h ∙ (λ i. least_from a (flat_map (premise_faults (syms_of ((o ∙ all) i))) (same i))) in
    let kl : d ≡ least_from b (conclusion_faults r.concl) = two_parts b c d (frame_faults r.concl) (schema_faults true r.concl) k l in
    let many = too_many (λ (s : RawSchema). s.at) 16 r.premises in
    two_parts held e f (many ++ ps ++ conclusion_faults r.concl ++ uses_faults (uses_in_rule r)) (hole_faults (syms_of (raw_schema_holes r.concl)) (flat_map raw_schema_holes r.premises))
    (four_parts held a b d e many ps (conclusion_faults r.concl) (uses_faults (uses_in_rule r)) g h' kl m) n

not_eq : (a b : ℕ) → (a ≡ b → ⊥) → nat_eq a b ≡ false
not_eq a b h = by (nat_eq a b) refl
  where
    by : (t : Bool) → nat_eq a b ≡ t → nat_eq a b ≡ false
    by false e = e
    by true e = absurd (h (grind (arith, nat_tests, e)))

-- the parts of a context among the items
pub context_parts : (known : List Sym) (final : Bool) (t : RawItem) (n : RawName) (cs ds : List RawName) (xs ys : List RawPattern) (at : ℕ) (env : List Sym) (held a b : Option TextErr) → t ≡ item.Ctx n cs xs at → ds ≡ cs → ys ≡ xs
    → a ≡ least_from held (use_faults known final ds (map argument_of ys)) → b ≡ least_from a (each_faults (map (node_faults known final) ys) env 2) → b ≡ least_from held (item_faults known final t env)
context_parts known final t n cs ds xs ys at env held a b is p q e f =
    two_parts held a b (use_faults known final cs (map argument_of xs)) (each_faults (map (node_faults known final) xs) env 2) (e ∙ (λ i. least_from held (use_faults known final (p i) (map argument_of (q i)))))
    (f ∙ (λ i. least_from a (each_faults (map (node_faults known final) (q i)) env 2))) ∙ ap (λ r. least_from held (item_faults known final r env)) (sym is)

-- a conclusion that hasn't two contexts
pub unframed : (s : RawSchema) (contexts : List RawName) (held a : Option TextErr) → contexts ≡ contexts_of s → (length contexts ≡ 2 → ⊥) → a ≡ least_from held (fault_at_any (λ (c : RawName). c.at) why.TooManyContexts (slice_get contexts 2)) → a ≡ least_from held (frame_faults s)
unframed s contexts held a all other e =
    let third = fault_at_any (λ (c : RawName). c.at) why.TooManyContexts (slice_get (contexts_of s) 2) in
    let test : nat_eq (length contexts) 2 ≡ false = not_eq (length contexts) 2 other in
    let test' : nat_eq (length (contexts_of s)) 2 ≡ false = ap (λ cs. nat_eq (length cs) 2) (sym all) ∙ test in
    e ∙ ap (λ cs. least_from held (fault_at_any (λ (c : RawName). c.at) why.TooManyContexts (slice_get cs 2))) all
    ∙ ap (least_from held) (sym (append-nil third) ∙ ap (λ b. third ++ (if b then misplaced_faults 0 s.items else [])) (sym test'))

-- the parts of a premise
pub premise_parts : (s : RawSchema) (concl : List Sym) (known contexts : List RawName) (held a b : Option TextErr) → contexts ≡ contexts_of s → known ≡ contexts → a ≡ least_from held (dangling_faults concl known) → b ≡ least_from a (schema_faults false s)
    → b ≡ least_from held (premise_faults concl s)
premise_parts s concl known contexts held a b all k e f = two_parts held a b (dangling_faults concl (contexts_of s)) (schema_faults false s) (e ∙ ap (λ ns. least_from held (dangling_faults concl ns)) (k ∙ all)) f
