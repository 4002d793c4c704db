-- The values of a schema fit where those of its occurrences do.
use Rattle.std.proofs.Common.{◌≡◌, ◌+◌, List, [], ◌∷◌, length, map, Bool, ◌&&◌, refl, ap, sym, ◌∙◌}
use Rattle.std.proofs.lemmas.List.{length-map}
use Rattle.std.proofs.lemmas.List.Folds.{list_all-append}
use Rattle.std.specs.List.{list_all, flat_map}
use Rattle.mp_term.specs.Terms.{in_scope_of}
use Rattle.mp_term.specs.Limits.{in_scopes_from}
use Rattle.mp_schema.specs.declared.pattern.Pattern.{Pattern}
use Rattle.mp_schema.specs.declared.schema.Item.{Item}
use Rattle.mp_schema.specs.declared.schema.Item.TheVariants.{Ctx, Hyp}
use Rattle.mp_schema.specs.declared.schema.Schema.{Schema}
use Rattle.mp_schema.specs.Faultless.{occurrence_fits}
use Rattle.mp_schema.specs.Instances.{Values, Wide, fits, fits_bound, all_pass}
use Rattle.mp_schema.specs.Occurrences.{Occurrence, variable_level, occurrences_in, occurrences_in_item, occurrences_in_schema}
use Rattle.mp_schema.specs.Sequents.{Instance, wide_of, item_fits, schema_fits}
use Rattle.mp_schema.proofs.Layers.{fits-Var, fits-Op, fits-Meta, fits_bound-is}
use Rattle.mp_schema.proofs.Told.{AsksEach, told, told_all}

-- the value of a second-order variable is in the scope that this occurrence asks
abbrev pub meta_fits : Wide → Values → Occurrence → Bool
meta_fits w v o = in_scope_of (v.meta o.name) (w o.ctxs + length o.levels)

asks_fit : (w : Wide) (v : Values) → AsksEach (meta_fits w v) (fits w v) (fits_bound w v)
asks_fit w v = record {
  of_var = fits-Var w v;
  of_op = fits-Op w v;
  of_meta = λ n cs args.
      fits-Meta w v n cs args ∙ ap (λ k. in_scope_of (v.meta n) (w cs + k) && all_pass (map (fits w v) args)) (sym (length-map args variable_level));
  of_bound = fits_bound-is w v;
}

pub fits-told : (w : Wide) (v : Values) (p : Pattern) → fits w v p ≡ list_all (meta_fits w v) (occurrences_in p)
fits-told w v = told (meta_fits w v) (fits w v) (fits_bound w v) (asks_fit w v)

pub all_fit-told : (w : Wide) (v : Values) (ps : List Pattern) → all_pass (map (fits w v) ps) ≡ list_all (meta_fits w v) (flat_map occurrences_in ps)
all_fit-told w v = told_all (meta_fits w v) (fits w v) (fits_bound w v) (asks_fit w v)

module _ (v : Instance) where
  asks_fit_here : AsksEach (occurrence_fits v) (fits (wide_of v) v.values) (fits_bound (wide_of v) v.values)
  asks_fit_here = record {
    of_var = fits-Var (wide_of v) v.values;
    of_op = fits-Op (wide_of v) v.values;
    of_meta = (asks_fit (wide_of v) v.values).of_meta;
    of_bound = fits_bound-is (wide_of v) v.values;
  }

  pattern_fits-told : (p : Pattern) → fits (wide_of v) v.values p ≡ list_all (occurrence_fits v) (occurrences_in p)
  pattern_fits-told = told (occurrence_fits v) (fits (wide_of v) v.values) (fits_bound (wide_of v) v.values) asks_fit_here

  item_fits-told : (i : Item) → item_fits v i ≡ list_all (occurrence_fits v) (occurrences_in_item i)
  item_fits-told (Hyp p) = pattern_fits-told p
  item_fits-told (Ctx name ctxs args) =
      ap (λ k. in_scopes_from (wide_of v ctxs + k) (v.kept name) && all_pass (map (fits (wide_of v) v.values) args)) (sym (length-map args variable_level))
      ∙ ap (λ t. in_scopes_from (wide_of v ctxs + length (map variable_level args)) (v.kept name) && t)
      (told_all (occurrence_fits v) (fits (wide_of v) v.values) (fits_bound (wide_of v) v.values) asks_fit_here args)

  items_fit-told : (is : List Item) → list_all (item_fits v) is ≡ list_all (occurrence_fits v) (flat_map occurrences_in_item is)
  items_fit-told [] = refl
  items_fit-told (i ∷ is) =
      ap (λ t. t && list_all (item_fits v) is) (item_fits-told i)
      ∙ ap (λ t. list_all (occurrence_fits v) (occurrences_in_item i) && t) (items_fit-told is)
      ∙ sym (list_all-append (occurrence_fits v) (occurrences_in_item i) (flat_map occurrences_in_item is))

  pub schema_fits-told : (s : Schema) → schema_fits v s ≡ list_all (occurrence_fits v) (occurrences_in_schema s)
  schema_fits-told s =
      ap (λ t. t && fits (wide_of v) v.values s.concl) (items_fit-told s.items)
      ∙ ap (λ t. list_all (occurrence_fits v) (flat_map occurrences_in_item s.items) && t) (pattern_fits-told s.concl)
      ∙ sym (list_all-append (occurrence_fits v) (flat_map occurrences_in_item s.items) (occurrences_in s.concl))
