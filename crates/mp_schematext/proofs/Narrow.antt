-- Where no static rule is broken in a rule, none is broken in its parts.
use Rattle.std.proofs.Common.{◌≡◌, ◌++◌, ◌+◌, ◌<◌, ◌≤◌, ℕ, List, [], ◌∷◌, true, false, length, length-append, map, drop, get_or, ap, sym, subst, ◌∙◌, arith}
use Rattle.std.specs.Prelude.{nat_lt}
use Rattle.std.specs.List.{flat_map}
use Rattle.mp_logic.specs.declared.sym.Sym.{Sym}
use Rattle.mp_words.specs.declared.fail.TextErr.{TextErr}
use Rattle.mp_words.specs.declared.raw.RawName.{RawName}
use Rattle.mp_words.specs.Faults.{fault_if, too_many}
use Rattle.mp_words.specs.Seconds.{second_faults}
use Rattle.mp_words.proofs.NoFaults.{nil_parts, not_many}
use Rattle.mp_words.proofs.Walks.{left_cons}
use Rattle.mp_termtext.specs.Statics.{each_faults}
use Rattle.mp_patterntext.specs.declared.raw.RawPattern.{RawPattern}
use Rattle.mp_schematext.specs.declared.raw.RawItem.{RawItem}
use Rattle.mp_schematext.specs.declared.raw.RawSchema.{RawSchema}
use Rattle.mp_schematext.specs.declared.raw.RawRule.{RawRule}
use Rattle.mp_patterntext.specs.Buildable.{AreFaultless, IsFaultless}
use Rattle.mp_schematext.specs.Buildable.{AreFaultlessItems, AreFaultlessPremises, IsFaultlessItem, IsFaultlessSchema}
use Rattle.mp_schematext.specs.Scopes.{contexts_of, contexts_past, env_behind, env_past}
use Rattle.mp_patterntext.specs.Scopes.{syms_of}
use Rattle.mp_patterntext.specs.Nodes.{argument_of, dangling_faults, node_faults, use_faults}
use Rattle.mp_schematext.specs.Statics.{conclusion_faults, frame_faults, item_at, item_faults, items_faults, premise_faults, raw_schema_size_of, rule_faults, schema_faults}
use Rattle.mp_patterntext.specs.Uses.{uses_faults, hole_faults}
use Rattle.mp_schematext.specs.Uses.{raw_schema_holes, uses_in_rule}
use Rattle.mp_words.specs.declared.fail.TextWhy.TheVariants as why
use Rattle.mp_schematext.specs.declared.raw.RawItem.TheVariants as item

-- ## Items

pub context_faultless : (t : RawItem) (n : RawName) (cs : List RawName) (xs ys : List RawPattern) (at : ℕ) (env : List Sym) → t ≡ item.Ctx n cs xs at → ys ≡ xs → IsFaultlessItem t env → AreFaultless ys env
context_faultless t n cs xs ys at env e same h =
    let uses = use_faults h.0 h.1 cs (map argument_of xs) in
    let args = each_faults (map (node_faults h.0 h.1) xs) env 2 in
    let both = nil_parts uses args (ap (λ i. item_faults h.0 h.1 i env) (sym e) ∙ h.2) in
    let long = h.3 in
    (h.0, h.1, 2, ap (λ vs. each_faults (map (node_faults h.0 h.1) vs) env 2) same ∙ both.1, omega (arith, long))

env_grows : (i : RawItem) (env : List Sym) → length (env_past i env) ≤ length env + 1
env_grows (item.Ctx n cs xs l) env = omega arith
env_grows (item.Hyp n p l) env = let a = length-append env (n ∷ []) in omega (arith, a)

-- the first of some items, and the rest of them
pub first_item : (is : List RawItem) (i : ℕ) (x : RawItem) (env now : List Sym) → i < length is → x ≡ get_or is i x → now ≡ env_past x env → AreFaultlessItems (drop i is) env → IsFaultlessItem x env × AreFaultlessItems (drop (i + 1) is) now
first_item is i x env now lt at grown h =
    let rest = drop (i + 1) is in
    let opened = left_cons is i x lt at in
    let all = ap (λ us. items_faults h.0 h.1 us env) (sym opened) ∙ h.2 in
    let both = nil_parts (item_faults h.0 h.1 x env) (items_faults (contexts_past x h.0) h.1 rest (env_past x env)) all in
    let one = ap length opened in
    let more = env_grows x env in
    let long = h.3 in
    let after : AreFaultlessItems rest (env_past x env) = (contexts_past x h.0, h.1, both.1, omega (arith, one, more, long)) in
    ((h.0, h.1, both.0, omega (arith, one, long)), subst (AreFaultlessItems rest) (sym grown) after)

env_short : (is : List RawItem) (env : List Sym) → length (env_behind is env) ≤ length env + length is
env_short [] env = omega arith
env_short (i ∷ is) env = let a = env_short is (env_past i env) in let g = env_grows i env in omega (arith, a, g)

-- ## Schemata and rules

module _ (s : RawSchema) (h : IsFaultlessSchema s) where
  abbrev counts : List TextErr
  counts = too_many item_at 200 s.items

  abbrev twice : List TextErr
  twice = second_faults (λ (c : RawName). c) why.TwiceContext (contexts_of s)

  abbrev nodes : List TextErr
  nodes = node_faults (syms_of (contexts_of s)) h.0 s.concl (env_behind s.items []) 1

  last : (counts ++ twice ++ items_faults [] h.0 s.items [] ++ nodes ≡ []) × (fault_if (nat_lt 20000 (raw_schema_size_of s)) s.at why.TooBig ≡ [])
  last = nil_parts (counts ++ twice ++ items_faults [] h.0 s.items [] ++ nodes) (fault_if (nat_lt 20000 (raw_schema_size_of s)) s.at why.TooBig) h.1

  middle : (counts ++ twice ++ items_faults [] h.0 s.items [] ≡ []) × (nodes ≡ [])
  middle = nil_parts (counts ++ twice ++ items_faults [] h.0 s.items []) nodes last.0

  first : (counts ++ twice ≡ []) × (items_faults [] h.0 s.items [] ≡ [])
  first = nil_parts (counts ++ twice) (items_faults [] h.0 s.items []) middle.0

  few_items : length s.items ≤ 200
  few_items = not_many item_at 200 s.items (nil_parts counts twice first.0).0

  pub schema_items : (is : List RawItem) (env : List Sym) → is ≡ s.items → env ≡ [] → AreFaultlessItems is env
  schema_items is env same none =
      let few = few_items in
      let all : AreFaultlessItems s.items [] = ([], h.0, first.1, omega (arith, few)) in
      subst (λ (q : List RawItem × List Sym). AreFaultlessItems q.0 q.1) (λ i. (sym same i, sym none i)) all

  pub schema_concl : (env : List Sym) → env ≡ env_behind s.items [] → IsFaultless s.concl env
  schema_concl env bound =
      let few = few_items in
      let short = env_short s.items [] in
      let concl : IsFaultless s.concl (env_behind s.items []) = (syms_of (contexts_of s), h.0, 1, middle.1, omega (arith, few, short)) in
      subst (IsFaultless s.concl) (sym bound) concl

-- the first of some premises, and the rest of them
pub first_premise : (ss : List RawSchema) (i : ℕ) (s : RawSchema) → i < length ss → s ≡ get_or ss i s → AreFaultlessPremises (drop i ss) → IsFaultlessSchema s × AreFaultlessPremises (drop (i + 1) ss)
first_premise ss i s lt is h =
    let all = ap (flat_map (premise_faults h.0)) (sym (left_cons ss i s lt is)) ∙ h.1 in
    let both = nil_parts (premise_faults h.0 s) (flat_map (premise_faults h.0) (drop (i + 1) ss)) all in
    let here = nil_parts (dangling_faults h.0 (contexts_of s)) (schema_faults false s) both.0 in
    ((false, here.1), (h.0, both.1))

module _ (r : RawRule) (h : rule_faults r ≡ []) where
  abbrev count : List TextErr
  count = too_many (λ (s : RawSchema). s.at) 16 r.premises

  abbrev asked : List TextErr
  asked = flat_map (premise_faults (syms_of (contexts_of r.concl))) r.premises

  abbrev holes : List TextErr
  holes = hole_faults (syms_of (raw_schema_holes r.concl)) (flat_map raw_schema_holes r.premises)

  parts : (count ++ asked ≡ []) × (conclusion_faults r.concl ≡ [])
  parts =
      nil_parts (count ++ asked) (conclusion_faults r.concl)
      (nil_parts (count ++ asked ++ conclusion_faults r.concl) (uses_faults (uses_in_rule r)) (nil_parts (count ++ asked ++ conclusion_faults r.concl ++ uses_faults (uses_in_rule r)) holes h).0).0

  pub rule_premises : (ss : List RawSchema) → ss ≡ r.premises → AreFaultlessPremises ss
  rule_premises ss same = (syms_of (contexts_of r.concl), ap (flat_map (premise_faults (syms_of (contexts_of r.concl)))) same ∙ (nil_parts count asked parts.0).1)

  pub rule_concl : IsFaultlessSchema r.concl
  rule_concl = (true, (nil_parts (frame_faults r.concl) (schema_faults true r.concl) parts.1).1)
