-- Values that fit some occurrences fit those that are alike.
use Rattle.std.proofs.Common.{◌≡◌, List, [], ◌∷◌, ◌++◌, map, Bool, true, false, cond, ◌||◌, not, nat_eq, Option, Some, None, refl, ap, sym, ◌∙◌}
use Rattle.std.proofs.lemmas.Bool.{and_parts, and_from}
use Rattle.std.proofs.lemmas.List.Folds.{find-append, list_all-append}
use Rattle.std.specs.List.{list_all, flat_map}
use Rattle.std.specs.Option.{is_some, option_or}
use Rattle.mp_logic.specs.declared.sym.Sym.{Sym}
use Rattle.mp_schema.specs.declared.pattern.Pattern.{Pattern}
use Rattle.mp_schema.specs.declared.schema.Item.{Item}
use Rattle.mp_schema.specs.declared.schema.Item.TheVariants.{Ctx, Hyp}
use Rattle.mp_schema.specs.declared.schema.Schema.{Schema}
use Rattle.mp_schema.specs.Conditions.{has, has_all, contexts_among, context_names}
use Rattle.mp_schema.specs.Faultless.{IsLike, occurrence_fits}
use Rattle.mp_schema.specs.Faults.{is_consistent}
use Rattle.mp_schema.specs.Instances.{Values, Wide, all_pass}
use Rattle.mp_schema.specs.Occurrences.{Occurrence, occurrences_in, occurrences_in_item, occurrences_in_schema, first_named}
use Rattle.mp_schema.specs.Sequents.{Instance}
use Rattle.mp_schema.proofs.Fitting.{meta_fits}
use Rattle.mp_schema.proofs.Likeness.{IsLike-both, like_first, like_use, found_keeps}
use Rattle.mp_schema.proofs.Told.{AsksEach, meta_at, told, told_all}

-- ## Alike occurrences fit alike

pub occurrence_fits-like : (v : Instance) (o other : Occurrence) → o.name ≡ other.name → IsLike o other → occurrence_fits v o ≡ occurrence_fits v other
occurrence_fits-like v o other name like = cc

pub meta_fits-like : (w : Wide) (v : Values) (o other : Occurrence) → o.name ≡ other.name → IsLike o other → meta_fits w v o ≡ meta_fits w v other
meta_fits-like w v o other name like = cc

-- ## From some to others

pub all_from : (kept fit : Occurrence → Bool) (os : List Occurrence) → list_all kept os ≡ true → ((o : Occurrence) → kept o ≡ true → fit o ≡ true) → list_all fit os ≡ true
all_from kept fit [] all each = refl
all_from kept fit (o ∷ os) all each =
    let parts = and_parts (kept o) (list_all kept os) all in and_from _ _ (each o parts.0) (all_from kept fit os parts.1 each)

module _ (fit : Occurrence → Bool) (respects : (o other : Occurrence) → o.name ≡ other.name → IsLike o other → fit o ≡ fit other) (os : List Occurrence) where
  -- an occurrence fits where the first one of its name does
  pub fits_as_first : is_consistent os ≡ true → (o : Occurrence) → like_use os o ≡ true →
      ((f : Occurrence) → first_named os o.name ≡ Some f → fit f ≡ true) → fit o ≡ true
  fits_as_first consistent o like first =
      let f = like_first (first_named os o.name) o like in
      let named = (found_keeps (like_use os) os o.name f.0 f.1 consistent).0 in
      sym (respects f.0 o named f.2) ∙ first f.0 f.1

  -- or where another one of its name does
  pub fits_as_known : (known : List Occurrence) → list_all (like_use os) known ≡ true → list_all fit known ≡ true →
      (o u : Occurrence) → like_use os o ≡ true → first_named known o.name ≡ Some u → fit o ≡ true
  fits_as_known known likes fitting o u like e =
      let by_like = found_keeps (like_use os) known o.name u e likes in
      let by_fit = found_keeps fit known o.name u e fitting in
      let f = like_first (first_named os o.name) o like in
      let g = like_first (first_named os u.name) u by_like.1 in
      let is : f.0 ≡ g.0 = cc (ap (first_named os) by_like.0, f.1, g.1) in
      sym (respects u o by_like.0 (IsLike-both g.0 u o g.2 (rw is at f.2))) ∙ by_fit.1

-- ## Contexts of premises

either_some : (a b : Option Occurrence) → is_some (option_or a b) ≡ (is_some a || is_some b)
either_some None b = refl
either_some (Some x) b = refl

named-append : (a b : List Occurrence) (name : Sym) → is_some (first_named (a ++ b) name) ≡ (is_some (first_named a name) || is_some (first_named b name))
named-append a b name = ap is_some (find-append _ a b) ∙ either_some (first_named a name) (first_named b name)

pub or_left : (a b : Bool) → a ≡ true → (a || b) ≡ true
or_left true b e = refl
or_left false b e = absurd (cc)

pub or_right : (a b : Bool) → b ≡ true → (a || b) ≡ true
or_right true b e = refl
or_right false b e = e

or_next : (a b c : Bool) → (a || b) ≡ true → (b ≡ true → c ≡ true) → (a || c) ≡ true
or_next true b c e next = refl
or_next false b c e next = next e

some_cond : (b : Bool) (o : Occurrence) (rest : Option Occurrence) → is_some (cond b (Some o) rest) ≡ (b || is_some rest)
some_cond true o rest = refl
some_cond false o rest = refl

-- a context among the items is one of their occurrences
named_context : (is : List Item) (name : Sym) → has (contexts_among is) name ≡ true → is_some (first_named (flat_map occurrences_in_item is) name) ≡ true
named_context [] name here = absurd (cc)
named_context (Hyp p ∷ is) name here =
    named-append (occurrences_in p) (flat_map occurrences_in_item is) name ∙ or_right _ _ (named_context is name here)
named_context (Ctx other ctxs args ∷ is) name here =
    let later : has (contexts_among is) name ≡ true → is_some (first_named (flat_map occurrences_in args ++ flat_map occurrences_in_item is) name) ≡ true =
    λ e. named-append (flat_map occurrences_in args) (flat_map occurrences_in_item is) name ∙ or_right _ _ (named_context is name e)
    in
    some_cond (nat_eq other.0 name.0) _ _ ∙ or_next _ (has (contexts_among is) name) _ here later

-- what each second-order variable keeps, each occurrence in a pattern keeps
module _ (kept : Occurrence → Bool) (each : (n : Sym) (cs : List Sym) (args : List Pattern) → kept (meta_at n cs args) ≡ true) where
  all_pass-true : {X : Type 0} (xs : List X) → all_pass (map (λ x. true) xs) ≡ true
  all_pass-true [] = refl
  all_pass-true (x ∷ xs) = all_pass-true xs

  asks_nothing : AsksEach kept (λ p. true) (λ b. true)
  asks_nothing = record {
    of_var = λ l. refl;
    of_op = λ o ps subs. sym (all_pass-true subs);
    of_meta = λ n cs args. sym (and_from _ _ (each n cs args) (all_pass-true args));
    of_bound = λ b. refl;
  }

  metas_keep : (p : Pattern) → list_all kept (occurrences_in p) ≡ true
  metas_keep p = sym (told kept (λ q. true) (λ b. true) asks_nothing p)

  metas_keep_all : (ps : List Pattern) → list_all kept (flat_map occurrences_in ps) ≡ true
  metas_keep_all ps = sym (told_all kept (λ q. true) (λ b. true) asks_nothing ps) ∙ all_pass-true ps

-- a context is one of these occurrences
abbrev pub context_named : List Occurrence → Occurrence → Bool
context_named known o = not o.is_context || is_some (first_named known o.name)

module _ (concl : Schema) where
  abbrev known_here : Occurrence → Bool
  known_here = context_named (occurrences_in_schema concl)

  known_items : (is : List Item) → has_all (context_names concl) (contexts_among is) ≡ true → list_all known_here (flat_map occurrences_in_item is) ≡ true
  known_items [] e = refl
  known_items (Hyp p ∷ is) e =
      list_all-append known_here (occurrences_in p) (flat_map occurrences_in_item is)
      ∙ and_from _ _ (metas_keep known_here (λ n cs args. refl) p) (known_items is e)
  known_items (Ctx name ctxs args ∷ is) e =
      let parts = and_parts (has (context_names concl) name) (has_all (context_names concl) (contexts_among is)) e in
      let here = named-append (flat_map occurrences_in_item concl.items) (occurrences_in concl.concl) name ∙ or_left _ _ (named_context concl.items name parts.0) in
      let below_it = metas_keep_all known_here (λ n cs us. refl) args in
      list_all-append known_here (occurrences_in_item (Ctx name ctxs args)) (flat_map occurrences_in_item is)
      ∙ and_from _ _ (and_from _ _ here below_it) (known_items is parts.1)

  -- the contexts of a premise that are the conclusion's are among its occurrences
  pub contexts_named : (premise : Schema) → has_all (context_names concl) (context_names premise) ≡ true →
      list_all (context_named (occurrences_in_schema concl)) (occurrences_in_schema premise) ≡ true
  contexts_named premise e =
      list_all-append known_here (flat_map occurrences_in_item premise.items) (occurrences_in premise.concl)
      ∙ and_from _ _ (known_items premise.items e) (metas_keep known_here (λ n cs args. refl) premise.concl)
