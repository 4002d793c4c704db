-- The faults of a schema tell whether what it stands for keeps what is asked of the schemata of a rule.
use Rattle.std.proofs.Common.{◌≡◌, ℕ, ◌+◌, ◌-◌, ◌≤◌, ◌++◌, List, [], ◌∷◌, map, length, length-append, Bool, true, false, ◌&&◌, ◌||◌, not, nat_eq, nat_le, nat_lt, slice_get, refl, ap, sym, subst, ◌∙◌, arith, append_assoc, append-nil}
use Rattle.std.specs.Prelude.{if◌then◌else◌}
use Rattle.std.specs.List.{list_all, flat_map}
use Rattle.std.proofs.lemmas.Bool.{and_parts, and_from}
use Rattle.std.proofs.lemmas.Bool.Decides.{nat_tests}
use Rattle.std.proofs.lemmas.List.{length-map}
use Rattle.std.proofs.lemmas.List.Folds.{list_all-append}
use Rattle.mp_logic.specs.declared.sym.Sym.{Sym}
use Rattle.mp_term.specs.Terms.{all_at_scope}
use Rattle.mp_schema.specs.declared.pattern.Pattern.{Pattern}
use Rattle.mp_schema.specs.declared.schema.Item.{Item}
use Rattle.mp_schema.specs.declared.schema.Schema.{Schema}
use Rattle.mp_schema.specs.Conditions.{Before, nothing_before, past, past_all, each_item, has, has_all, is_apart, context_names, item_between, is_framed, below}
use Rattle.mp_schema.specs.Instances.{all_pass}
use Rattle.mp_schema.specs.Limits.{few_of, few_of_item, few_of_schema, is_shallow_item, is_shallow_schema, is_small_schema, item_depth_of, pattern_depth_of}
use Rattle.mp_schema.specs.Faults.{all_listed, are_distinct, is_closed, is_listed, is_single, item_closed, item_listed, lists_apart, on_variables}
use Rattle.mp_schema.specs.Occurrences.{Occurrence, variable_level, occurrences_in, occurrences_in_item, occurrences_in_schema}
use Rattle.mp_schema.proofs.Names.{has-append}
use Rattle.mp_words.specs.declared.fail.TextErr.{TextErr}
use Rattle.mp_words.specs.declared.raw.RawName.{RawName}
use Rattle.mp_words.specs.Faults.{fault_at_any, fault_if, too_many}
use Rattle.mp_words.specs.Seconds.{second_faults}
use Rattle.mp_termtext.specs.Statics.{each_faults}
use Rattle.mp_schematext.specs.declared.raw.RawItem.{RawItem}
use Rattle.mp_schematext.specs.declared.raw.RawSchema.{RawSchema}
use Rattle.mp_schematext.specs.Scopes.{context_in, contexts_of, contexts_past, env_behind, env_past}
use Rattle.mp_patterntext.specs.Scopes.{syms_of}
use Rattle.mp_patterntext.specs.Nodes.{argument_of, dangling_faults, node_faults, use_faults}
use Rattle.mp_patterntext.specs.Values.{each_pattern_value, pattern_of}
use Rattle.mp_schematext.specs.Values.{item_of, items_of, schema_of}
use Rattle.mp_schematext.specs.Statics.{conclusion_faults, frame_faults, item_at, item_faults, items_faults, misplaced_faults, premise_faults, raw_schema_size_of, schema_faults}
use Rattle.mp_patterntext.proofs.SizesAndHoles.{syms_both}
use Rattle.mp_patterntext.proofs.Fitting.{Fit, FitOf, each_told, is_used_well, nodes_told, use_kept, use_test, use_told}
use Rattle.mp_schematext.proofs.SchemaSizes.{schema_size}
use Rattle.mp_patterntext.proofs.Telling.{Tells, tells_both, tells_by, tells_if, tells_past, tells_then, tells_unless}
use Rattle.mp_patterntext.proofs.Twice.{tells_second, tells_unknown}
use Rattle.mp_patterntext.proofs.UsedWell.{or_and, or_and_parts, used_well, well_used}
use Rattle.mp_schema.specs.Conditions as conditions
use Rattle.mp_words.specs.declared.fail.TextWhy.TheVariants as why
use Rattle.mp_schematext.specs.declared.raw.RawItem.TheVariants as item

-- ## What stands before an item

-- these contexts and bound names are what stands before an item
record Stands (known env : List Sym) (b : Before) : Type 0 where
  named : length env ≡ b.named
  same : (name : Sym) → has known name ≡ has b.contexts name

or_swap : (a b : Bool) → (a || (b || false)) ≡ (b || a)
or_swap true true = refl
or_swap true false = refl
or_swap false true = refl
or_swap false false = refl

stands_past : (known env : List Sym) (b : Before) (i : RawItem) → Stands known env b → Stands (contexts_past i known) (env_past i env) (past (item_of i env) b)
stands_past known env b (item.Ctx n cs xs l) s = record {
  named = s.named;
  same = λ name. has-append known (n.name ∷ []) name ∙ or_swap (has known name) (nat_eq n.name.0 name.0) ∙ ap (λ h. nat_eq n.name.0 name.0 || h) (s.same name);
}
stands_past known env b (item.Hyp n p l) s =
    let a = length-append env (n ∷ []) in let m = s.named in record { named = omega (arith, a, m); same = λ name. ap (λ ns. has ns name) (append-nil known) ∙ s.same name }

has_all_same : (known seen : List Sym) → ((name : Sym) → has known name ≡ has seen name) → (ns : List Sym) → has_all known ns ≡ has_all seen ns
has_all_same known seen h [] = refl
has_all_same known seen h (n ∷ ns) = (λ i. h n i && has_all_same known seen h ns i)

all_listed_same : (known seen : List Sym) → ((name : Sym) → has known name ≡ has seen name) → (os : List Occurrence) → all_listed known os ≡ all_listed seen os
all_listed_same known seen h [] = refl
all_listed_same known seen h (o ∷ os) = (λ i. has_all_same known seen h o.ctxs i && all_listed_same known seen h os i)

-- ## Items

module _ (final : Bool) where
  -- what is asked of an item, or of items
  record Keeps (shallow few closed listed apart distinct : Bool) : Type 0 where
    keeps_shallow : shallow ≡ true
    keeps_few : few ≡ true
    keeps_closed : closed ≡ true
    keeps_listed : listed ≡ true
    keeps_apart : apart ≡ true
    keeps_distinct : (not final || distinct) ≡ true

  abbrev ItemKeeps : Item → Before → Type 0
  ItemKeeps i b = Keeps (is_shallow_item i) (few_of_item i) (item_closed i b) (item_listed i b) (lists_apart (occurrences_in_item i)) (on_variables (occurrences_in_item i))

  abbrev ItemsKeep : List Item → Before → Type 0
  ItemsKeep is b = Keeps (list_all is_shallow_item is) (list_all few_of_item is) (each_item item_closed is b) (each_item item_listed is b) (lists_apart (flat_map occurrences_in_item is)) (on_variables (flat_map occurrences_in_item is))

  keep_both : (i : Item) (is : List Item) (b : Before) → ItemKeeps i b → ItemsKeep is (past i b) → ItemsKeep (i ∷ is) b
  keep_both i is b x y =
      let os = occurrences_in_item i in let ps = flat_map occurrences_in_item is in
      record {
        keeps_shallow = and_from _ _ x.keeps_shallow y.keeps_shallow;
        keeps_few = and_from _ _ x.keeps_few y.keeps_few;
        keeps_closed = and_from _ _ x.keeps_closed y.keeps_closed;
        keeps_listed = and_from _ _ x.keeps_listed y.keeps_listed;
        keeps_apart = list_all-append (λ (o : Occurrence). is_apart o.ctxs) os ps ∙ and_from _ _ x.keeps_apart y.keeps_apart;
        keeps_distinct = ap (λ t. not final || t) (list_all-append (λ (o : Occurrence). are_distinct o.levels) os ps) ∙ or_and (not final) (on_variables os) (on_variables ps) x.keeps_distinct y.keeps_distinct;
      }

  keep_parts : (i : Item) (is : List Item) (b : Before) → ItemsKeep (i ∷ is) b → ItemKeeps i b × ItemsKeep is (past i b)
  keep_parts i is b h =
      let os = occurrences_in_item i in let ps = flat_map occurrences_in_item is in
      let shallow = and_parts (is_shallow_item i) (list_all is_shallow_item is) h.keeps_shallow in
      let few = and_parts (few_of_item i) (list_all few_of_item is) h.keeps_few in
      let closed = and_parts (item_closed i b) (each_item item_closed is (past i b)) h.keeps_closed in
      let listed = and_parts (item_listed i b) (each_item item_listed is (past i b)) h.keeps_listed in
      let apart = and_parts (lists_apart os) (lists_apart ps) (sym (list_all-append (λ (o : Occurrence). is_apart o.ctxs) os ps) ∙ h.keeps_apart) in
      let distinct = or_and_parts (not final) (on_variables os) (on_variables ps) (ap (λ t. not final || t) (sym (list_all-append (λ (o : Occurrence). are_distinct o.levels) os ps)) ∙ h.keeps_distinct) in (
        record { keeps_shallow = shallow.0; keeps_few = few.0; keeps_closed = closed.0; keeps_listed = listed.0; keeps_apart = apart.0; keeps_distinct = distinct.0 },
        record { keeps_shallow = shallow.1; keeps_few = few.1; keeps_closed = closed.1; keeps_listed = listed.1; keeps_apart = apart.1; keeps_distinct = distinct.1 },
      )

  module _ (known env : List Sym) (b : Before) (s : Stands known env b) where
    abbrev FitItem : Item → Type 0
    FitItem i = Fit (item_depth_of i) (few_of_item i) (item_closed i b) (list_all (use_test known final) (occurrences_in_item i)) 1

    fit_keeps : (i : Item) → FitItem i → ItemKeeps i b
    fit_keeps i f =
        let u = used_well known final (occurrences_in_item i) f.used in
        let depth = f.depth in
        record {
          keeps_shallow = grind (arith, nat_tests, depth);
          keeps_few = f.few;
          keeps_closed = f.range;
          keeps_listed = sym (all_listed_same known b.contexts s.same (occurrences_in_item i)) ∙ u.listed;
          keeps_apart = u.apart;
          keeps_distinct = u.distinct;
        }

    keeps_fit : (i : Item) → ItemKeeps i b → FitItem i
    keeps_fit i k =
        let shallow = k.keeps_shallow in
        record {
          depth = grind (arith, nat_tests, shallow);
          few = k.keeps_few;
          range = k.keeps_closed;
          used = well_used known final (occurrences_in_item i) (record { listed = all_listed_same known b.contexts s.same (occurrences_in_item i) ∙ k.keeps_listed; apart = k.keeps_apart; distinct = k.keeps_distinct });
        }

    item_fits : (i : RawItem) → Tells (item_faults known final i env) (FitItem (item_of i env))
    item_fits (item.Ctx n cs xs l) =
        let values = each_pattern_value (map pattern_of xs) env in
        let uses = use_faults known final cs (map argument_of xs) in
        let rest = each_faults (map (node_faults known final) xs) env 2 in
        let counts = nat_le (length (syms_of cs)) 8 && nat_le (length values) 8 in
        let test = is_used_well known final (syms_of cs) (map variable_level values) in
        tells_by (uses ++ rest) (tells_then uses rest (use_kept known final cs xs env 2) (use_told known final cs xs env) (each_told known final xs env 2))
        (λ q.
        let depth = q.1.depth in
        record {
          depth = omega (arith, depth);
          few = and_from counts _ q.0.0 q.1.few;
          range = ap (λ m. all_at_scope m (map below values)) (sym s.named) ∙ q.1.range;
          used = and_from test _ q.0.1 q.1.used;
        })
        (λ f.
        let depth = f.depth in
        let few = and_parts counts (all_pass (map few_of values)) f.few in
        let used = and_parts test (list_all (use_test known final) (flat_map occurrences_in values)) f.used in
        ((few.0, used.0), record { depth = omega (arith, depth); few = few.1; range = ap (λ m. all_at_scope m (map below values)) s.named ∙ f.range; used = used.1 }))
    item_fits (item.Hyp n p l) =
        tells_by (node_faults known final p env 1) (nodes_told known final p env 1)
        (λ f. record { depth = f.depth; few = f.few; range = ap (below (pattern_of p env)) (sym s.named) ∙ f.range; used = f.used })
        (λ f. record { depth = f.depth; few = f.few; range = ap (below (pattern_of p env)) s.named ∙ f.range; used = f.used })

    item_keeps : (i : RawItem) → Tells (item_faults known final i env) (ItemKeeps (item_of i env) b)
    item_keeps i = tells_by (item_faults known final i env) (item_fits i) (fit_keeps (item_of i env)) (keeps_fit (item_of i env))

  items_keep : (known env : List Sym) (b : Before) → Stands known env b → (is : List RawItem) → Tells (items_faults known final is env) (ItemsKeep (items_of is env) b)
  items_keep known env b s [] = record {
    kept = λ e. record { keeps_shallow = refl; keeps_few = refl; keeps_closed = refl; keeps_listed = refl; keeps_apart = refl; keeps_distinct = or_true (not final) };
    told = λ k. tt;
  }
    where
      or_true : (x : Bool) → (x || true) ≡ true
      or_true true = refl
      or_true false = refl
  items_keep known env b s (i ∷ is) =
      let here = item_faults known final i env in
      let rest = items_faults (contexts_past i known) final is (env_past i env) in
      tells_by (here ++ rest) (tells_both here rest (item_keeps known env b s i) (items_keep (contexts_past i known) (env_past i env) (past (item_of i env) b) (stands_past known env b i s) is))
      (λ q. keep_both (item_of i env) (items_of is (env_past i env)) b q.0 q.1) (keep_parts (item_of i env) (items_of is (env_past i env)) b)

-- ## Contexts

-- the contexts of what is written are those of what it stands for
contexts_same : (is : List RawItem) (env : List Sym) → conditions.contexts_among (items_of is env) ≡ syms_of (flat_map context_in is)
contexts_same [] env = refl
contexts_same (item.Ctx n cs xs l ∷ is) env = ap (λ ns. n.name ∷ ns) (contexts_same is env)
contexts_same (item.Hyp n p l ∷ is) env = contexts_same is (env ++ n ∷ [])

pub contexts_are : (s : RawSchema) → context_names (schema_of s) ≡ syms_of (contexts_of s)
contexts_are s = contexts_same s.items []

known_behind : List RawItem → List Sym → List Sym
known_behind [] known = known
known_behind (i ∷ is) known = known_behind is (contexts_past i known)

stands_behind : (is : List RawItem) (known env : List Sym) (b : Before) → Stands known env b → Stands (known_behind is known) (env_behind is env) (past_all (items_of is env) b)
unfolding known_behind
stands_behind [] known env b s = s
stands_behind (i ∷ is) known env b s = stands_behind is (contexts_past i known) (env_past i env) (past (item_of i env) b) (stands_past known env b i s)

all_known : (is : List RawItem) (known : List Sym) → known_behind is known ≡ known ++ syms_of (flat_map context_in is)
unfolding known_behind
all_known [] known = sym (append-nil known)
all_known (i ∷ is) known = all_known is (contexts_past i known) ∙ append_assoc known (syms_of (context_in i)) (syms_of (flat_map context_in is)) ∙ ap (λ ns. known ++ ns) (sym (syms_both (context_in i) (flat_map context_in is)))

stands_all : (s : RawSchema) → Stands (syms_of (contexts_of s)) (env_behind s.items []) (past_all (items_of s.items []) nothing_before)
stands_all s = subst (λ ns. Stands ns (env_behind s.items []) (past_all (items_of s.items []) nothing_before)) (all_known s.items []) (stands_behind s.items [] [] nothing_before (record { named = refl; same = λ name. refl }))

items_length : (is : List RawItem) (env : List Sym) → length (items_of is env) ≡ length is
items_length [] env = refl
items_length (i ∷ is) env = let e = items_length is (env_past i env) in omega (arith, e)

-- ## Schemata

-- what is asked of a schema of a rule
pub record SchemaKeeps (final : Bool) (s : Schema) : Type 0 where
  pub few : few_of_schema s ≡ true
  pub shallow : is_shallow_schema s ≡ true
  pub small : is_small_schema s ≡ true
  pub closed : is_closed s ≡ true
  pub listed : is_listed s ≡ true
  pub single : is_single s ≡ true
  pub distinct : (not final || on_variables (occurrences_in_schema s)) ≡ true

module _ (final : Bool) (s : RawSchema) where
  abbrev known : List Sym
  known = syms_of (contexts_of s)

  abbrev env : List Sym
  env = env_behind s.items []

  abbrev items : List Item
  items = items_of s.items []

  abbrev end : Before
  end = past_all (items_of s.items []) nothing_before

  abbrev concl : Pattern
  concl = pattern_of s.concl (env_behind s.items [])

  abbrev os : List Occurrence
  os = flat_map occurrences_in_item (items_of s.items [])

  abbrev ps : List Occurrence
  ps = occurrences_in (pattern_of s.concl (env_behind s.items []))

  abbrev counts : List TextErr
  counts = too_many item_at 200 s.items

  abbrev twice : List TextErr
  twice = second_faults (λ (c : RawName). c) why.TwiceContext (contexts_of s)

  abbrev nodes : List TextErr
  nodes = node_faults (syms_of (contexts_of s)) final s.concl (env_behind s.items []) 1

  abbrev big : List TextErr
  big = fault_if (nat_lt 20000 (raw_schema_size_of s)) s.at why.TooBig

  abbrev Parts : Type 0
  Parts = ((((nat_le (length s.items) 200 ≡ true) × (is_apart (syms_of (contexts_of s)) ≡ true)) × ItemsKeep final (items_of s.items []) nothing_before)
      × FitOf (syms_of (contexts_of s)) final (pattern_of s.concl (env_behind s.items [])) (length (env_behind s.items [])) 1) × (nat_lt 20000 (raw_schema_size_of s) ≡ false)

  all_parts : Tells (schema_faults final s) Parts
  all_parts =
      tells_both (counts ++ twice ++ items_faults [] final s.items [] ++ nodes) big
      (tells_both (counts ++ twice ++ items_faults [] final s.items []) nodes
      (tells_both (counts ++ twice) (items_faults [] final s.items []) (tells_both counts twice (tells_past item_at why.TooMany 200 s.items) (tells_second (λ (c : RawName). c) why.TwiceContext (contexts_of s)))
      (items_keep final [] [] nothing_before (record { named = refl; same = λ name. refl }) s.items)) (nodes_told (syms_of (contexts_of s)) final s.concl (env_behind s.items []) 1)) (tells_if (nat_lt 20000 (raw_schema_size_of s)) s.at why.TooBig)

  parts_keep : Parts → SchemaKeeps final (schema_of s)
  parts_keep q =
      let size = schema_size s in
      let many = items_length s.items [] in
      let is = q.0.0.1 in
      let fits = q.0.1 in
      let stands = stands_all s in
      let u = used_well known final ps fits.used in
      let depth = fits.depth in
      let not_big = q.1 in
      record {
        few = and_from _ _ (and_from _ _ (ap (λ n. nat_le n 200) many ∙ q.0.0.0.0) is.keeps_few) fits.few;
        shallow = and_from _ _ is.keeps_shallow (shallow_from (pattern_depth_of concl) depth);
        small = ap (λ n. nat_le n 20000) size ∙ small_from (raw_schema_size_of s) not_big;
        closed = and_from _ _ is.keeps_closed (ap (below concl) (sym stands.named) ∙ fits.range);
        listed = and_from _ _ is.keeps_listed (sym (all_listed_same known end.contexts stands.same ps) ∙ u.listed);
        single = and_from _ _ (ap is_apart (contexts_are s) ∙ q.0.0.0.1) (list_all-append (λ (o : Occurrence). is_apart o.ctxs) os ps ∙ and_from _ _ is.keeps_apart u.apart);
        distinct = ap (λ t. not final || t) (list_all-append (λ (o : Occurrence). are_distinct o.levels) os ps) ∙ or_and (not final) (on_variables os) (on_variables ps) is.keeps_distinct u.distinct;
      }
    where
      shallow_from : (n : ℕ) → n ≤ 201 - 1 → nat_le n 200 ≡ true
      shallow_from n h = grind (arith, nat_tests, h)

      small_from : (n : ℕ) → nat_lt 20000 n ≡ false → nat_le n 20000 ≡ true
      small_from n h = grind (arith, nat_tests, h)

  keep_all_parts : SchemaKeeps final (schema_of s) → Parts
  keep_all_parts k =
      let size = schema_size s in
      let many = items_length s.items [] in
      let stands = stands_all s in
      let few = and_parts (nat_le (length items) 200 && list_all few_of_item items) (few_of concl) k.few in
      let counted = and_parts (nat_le (length items) 200) (list_all few_of_item items) few.0 in
      let shallow = and_parts (list_all is_shallow_item items) (nat_le (pattern_depth_of concl) 200) k.shallow in
      let closed = and_parts (each_item item_closed items nothing_before) (below concl end.named) k.closed in
      let listed = and_parts (each_item item_listed items nothing_before) (all_listed end.contexts ps) k.listed in
      let single = and_parts (is_apart (context_names (schema_of s))) (lists_apart (os ++ ps)) k.single in
      let apart = and_parts (lists_apart os) (lists_apart ps) (sym (list_all-append (λ (o : Occurrence). is_apart o.ctxs) os ps) ∙ single.1) in
      let distinct = or_and_parts (not final) (on_variables os) (on_variables ps) (ap (λ t. not final || t) (sym (list_all-append (λ (o : Occurrence). are_distinct o.levels) os ps)) ∙ k.distinct) in (
        (
          (
            (ap (λ n. nat_le n 200) (sym many) ∙ counted.0, ap is_apart (sym (contexts_are s)) ∙ single.0),
            record { keeps_shallow = shallow.0; keeps_few = counted.1; keeps_closed = closed.0; keeps_listed = listed.0; keeps_apart = apart.0; keeps_distinct = distinct.0 },
          ),
          record {
            depth = depth_from (pattern_depth_of concl) shallow.1;
            few = few.1;
            range = ap (below concl) stands.named ∙ closed.1;
            used = well_used known final ps (record { listed = all_listed_same known end.contexts stands.same ps ∙ listed.1; apart = apart.1; distinct = distinct.1 });
          },
        ),
        big_from (raw_schema_size_of s) (ap (λ n. nat_le n 20000) (sym size) ∙ k.small),
      )
    where
      depth_from : (n : ℕ) → nat_le n 200 ≡ true → n ≤ 201 - 1
      depth_from n h = grind (arith, nat_tests, h)

      big_from : (n : ℕ) → nat_le n 20000 ≡ true → nat_lt 20000 n ≡ false
      big_from n h = grind (arith, nat_tests, h)

  pub schema_keeps : Tells (schema_faults final s) (SchemaKeeps final (schema_of s))
  schema_keeps = tells_by (schema_faults final s) all_parts parts_keep keep_all_parts

-- ## Premises and conclusions

pub premise_keeps : (concl : List Sym) (s : RawSchema) → Tells (premise_faults concl s) ((has_all concl (context_names (schema_of s)) ≡ true) × SchemaKeeps false (schema_of s))
premise_keeps concl s =
    tells_both (dangling_faults concl (contexts_of s)) (schema_faults false s)
    (tells_by (dangling_faults concl (contexts_of s)) (tells_unknown why.DanglingContext concl (contexts_of s)) (λ e. ap (has_all concl) (contexts_are s) ∙ e) (λ e. ap (has_all concl) (sym (contexts_are s)) ∙ e)) (schema_keeps false s)

misplaced : (k : ℕ) (env : List Sym) (b : Before) → k ≡ length b.contexts → (is : List RawItem) → Tells (misplaced_faults k is) (each_item item_between (items_of is env) b ≡ true)
misplaced k env b e [] = record { kept = λ f. refl; told = λ f. tt }
misplaced k env b e (item.Ctx n cs xs l ∷ is) = misplaced (k + 1) env (past (item_of (item.Ctx n cs xs l) env) b) (omega (arith, e)) is
misplaced k env b e (item.Hyp n p l ∷ is) =
    let here = fault_if (not (nat_eq k 1)) l why.MisplacedHyp in
    let rest = misplaced_faults k is in
    let same : nat_eq k 1 ≡ nat_eq (length b.contexts) 1 = ap (λ m. nat_eq m 1) e in
    tells_by (here ++ rest) (tells_both here rest (tells_unless (nat_eq k 1) l why.MisplacedHyp) (misplaced k (env ++ n ∷ []) (past (item_of (item.Hyp n p l) env) b) e is)) (λ q. and_from _ _ (sym same ∙ q.0) q.1)
    (λ f. let parts = and_parts (nat_eq (length b.contexts) 1) (each_item item_between (items_of is (env ++ n ∷ [])) (past (item_of (item.Hyp n p l) env) b)) f in (same ∙ parts.0, parts.1))

tells_where : (b x : Bool) (fs : List TextErr) → Tells fs (x ≡ true) → Tells (if b then fs else []) ((not b || x) ≡ true)
tells_where true x fs t = t
tells_where false x fs t = record { kept = λ e. refl; told = λ e. tt }

frame_keeps : (s : RawSchema) → Tells (frame_faults s) ((nat_le (length (context_names (schema_of s))) 2 ≡ true) × (is_framed (schema_of s) ≡ true))
frame_keeps s =
    let third = fault_at_any (λ (c : RawName). c.at) why.TooManyContexts (slice_get (contexts_of s) 2) in
    let out = if nat_eq (length (contexts_of s)) 2 then misplaced_faults 0 s.items else [] in
    let many : length (context_names (schema_of s)) ≡ length (contexts_of s) = ap length (contexts_are s) ∙ length-map (contexts_of s) (λ (c : RawName). c.name) in
    let framed : is_framed (schema_of s) ≡ (not (nat_eq (length (contexts_of s)) 2) || each_item item_between (items_of s.items []) nothing_before) = ap (λ n. not (nat_eq n 2) || each_item item_between (items_of s.items []) nothing_before) many in
    tells_by (third ++ out)
    (tells_both third out (tells_past (λ (c : RawName). c.at) why.TooManyContexts 2 (contexts_of s)) (tells_where (nat_eq (length (contexts_of s)) 2) (each_item item_between (items_of s.items []) nothing_before) (misplaced_faults 0 s.items) (misplaced 0 [] nothing_before refl s.items)))
    (λ q. (ap (λ n. nat_le n 2) many ∙ q.0, framed ∙ q.1)) (λ q. (ap (λ n. nat_le n 2) (sym many) ∙ q.0, sym framed ∙ q.1))

pub conclusion_keeps : (s : RawSchema) → Tells (conclusion_faults s) (((nat_le (length (context_names (schema_of s))) 2 ≡ true) × (is_framed (schema_of s) ≡ true)) × SchemaKeeps true (schema_of s))
conclusion_keeps s = tells_both (frame_faults s) (schema_faults true s) (frame_keeps s) (schema_keeps true s)
