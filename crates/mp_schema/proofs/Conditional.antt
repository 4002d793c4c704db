-- What a rewrite without a fault keeps, put together.
use Rattle.std.proofs.Common.{◌≡◌, ◌≤◌, List, [], ◌∷◌, ◌++◌, length, Bool, true, ◌&&◌, nat_le, Option, Some, None, IsTrue, refl, ap, sym, ◌∙◌}
use Rattle.std.specs.Prelude.{All}
use Rattle.std.proofs.lemmas.Bool.{and_parts, and_from, leb-true}
use Rattle.std.proofs.lemmas.List.Elements.{All-nil, All-cons, All-weaker}
use Rattle.std.proofs.lemmas.List.Sums.{AllPass-from_list_all}
use Rattle.std.specs.Option.{is_some}
use Rattle.std.specs.List.{list_all, flat_map}
use Rattle.mp_logic.specs.declared.sym.Sym.{Sym}
use Rattle.mp_schema.specs.declared.pattern.Pattern.{Pattern}
use Rattle.mp_schema.specs.Conditions.{nothing_before, below, has_all, pattern_placed}
use Rattle.mp_schema.specs.Faultless.{IsLimited, IsFaultlessRewrite}
use Rattle.mp_schema.specs.Faults.{rewrite_is_few, rewrite_is_shallow, rewrite_is_small, rewrite_is_closed, rewrite_is_listed, rewrite_is_single, rewrite_is_on_variables, rewrite_is_consistent, rewrite_is_filled, rewrite_is_bound, rewrite_fault_of, all_listed, lists_apart, on_variables, is_consistent, all_named_in}
use Rattle.mp_schema.specs.Instances.{Values, Wide, fits}
use Rattle.mp_schema.specs.Limits.{few_of, is_shallow_pattern, is_small_pattern, pattern_size_of}
use Rattle.mp_schema.specs.Occurrences.{Occurrence, occurrences_in, first_named, holes_in}
use Rattle.mp_schema.proofs.Applied.{fine-from}
use Rattle.mp_schema.proofs.Faultless.{kept_first, shallow-from}
use Rattle.mp_schema.proofs.Fitting.{meta_fits, fits-told}
use Rattle.mp_schema.proofs.Likeness.{AreAlike-from, like_use}
use Rattle.mp_schema.proofs.Names.{has_all-append}
use Rattle.mp_schema.proofs.Placing.{apart_use, listed_use, pattern_placed-from, split}
use Rattle.mp_schema.proofs.Spread.{meta_fits-like, fits_as_known}

pub record KeepsRewrite (conds : List Pattern) (redex contractum : Pattern) : Type 0 where
  pub few : rewrite_is_few conds redex contractum ≡ true
  pub shallow : rewrite_is_shallow conds redex contractum ≡ true
  pub small : rewrite_is_small conds redex contractum ≡ true
  pub closed : rewrite_is_closed conds redex contractum ≡ true
  pub listed : rewrite_is_listed conds redex contractum ≡ true
  pub single : rewrite_is_single conds redex contractum ≡ true
  pub on_variables : rewrite_is_on_variables conds redex contractum ≡ true
  pub consistent : rewrite_is_consistent conds redex contractum ≡ true
  pub filled : rewrite_is_filled conds redex contractum ≡ true
  pub bound : rewrite_is_bound conds redex contractum ≡ true

pub KeepsRewrite-from : (conds : List Pattern) (redex contractum : Pattern) → rewrite_fault_of conds redex contractum ≡ None → KeepsRewrite conds redex contractum
KeepsRewrite-from conds redex contractum e =
    let a = kept_first _ _ _ e in
    let b = kept_first _ _ _ a.1 in
    let c = kept_first _ _ _ b.1 in
    let d = kept_first _ _ _ c.1 in
    let f = kept_first _ _ _ d.1 in
    let g = kept_first _ _ _ f.1 in
    let h = kept_first _ _ _ g.1 in
    let i = kept_first _ _ _ h.1 in
    let j = kept_first _ _ _ i.1 in
    let k = kept_first _ _ _ j.1 in
    record {
      few = a.0;
      shallow = b.0;
      small = c.0;
      closed = d.0;
      listed = f.0;
      single = g.0;
      on_variables = h.0;
      consistent = i.0;
      filled = j.0;
      bound = k.0;
    }

IsLimited-from : (p : Pattern) → few_of p ≡ true → is_shallow_pattern p ≡ true → is_small_pattern p ≡ true → IsLimited p
IsLimited-from p few shallow small = record { few = few; shallow = shallow-from p shallow; small = leb-true (pattern_size_of p) 20000 small }

limited_patterns : (ps : List Pattern) → list_all few_of ps ≡ true → list_all is_shallow_pattern ps ≡ true → list_all is_small_pattern ps ≡ true → All IsLimited ps
limited_patterns [] f d s = All-nil IsLimited
limited_patterns (p ∷ ps) f d s =
    let fs = and_parts (few_of p) (list_all few_of ps) f in
    let ds = and_parts (is_shallow_pattern p) (list_all is_shallow_pattern ps) d in
    let ss = and_parts (is_small_pattern p) (list_all is_small_pattern ps) s in
    All-cons IsLimited p ps (IsLimited-from p fs.0 ds.0 ss.0) (limited_patterns ps fs.1 ds.1 ss.1)

placed_patterns : (ps : List Pattern) → list_all (λ p. below p 0) ps ≡ true → all_listed [] (flat_map occurrences_in ps) ≡ true →
    lists_apart (flat_map occurrences_in ps) ≡ true → All (λ p. IsTrue (pattern_placed p nothing_before)) ps
placed_patterns [] c l s = All-nil (λ p. IsTrue (pattern_placed p nothing_before))
placed_patterns (p ∷ ps) c l s =
    let cs = and_parts (below p 0) (list_all (λ q. below q 0) ps) c in
    let ls = split (listed_use []) (occurrences_in p) (flat_map occurrences_in ps) l in
    let ss = split apart_use (occurrences_in p) (flat_map occurrences_in ps) s in
    All-cons (λ q. IsTrue (pattern_placed q nothing_before)) p ps (pattern_placed-from p nothing_before cs.0 ls.0 ss.0) (placed_patterns ps cs.1 ls.1 ss.1)

filled_patterns : (known : List Sym) (ps : List Pattern) → has_all known (flat_map holes_in ps) ≡ true → All (λ p. IsTrue (has_all known (holes_in p))) ps
filled_patterns known [] e = All-nil (λ p. IsTrue (has_all known (holes_in p)))
filled_patterns known (p ∷ ps) e =
    let parts = and_parts (has_all known (holes_in p)) (has_all known (flat_map holes_in ps)) (sym (has_all-append known (holes_in p) (flat_map holes_in ps)) ∙ e) in
    All-cons (λ q. IsTrue (has_all known (holes_in q))) p ps parts.0 (filled_patterns known ps parts.1)

none_listed : (names : List Sym) → has_all [] names ≡ true → names ≡ []
none_listed [] e = refl
none_listed (x ∷ xs) e = cc

all_from_both : (kept also fit : Occurrence → Bool) (os : List Occurrence) → list_all kept os ≡ true → list_all also os ≡ true →
    ((o : Occurrence) → kept o ≡ true → also o ≡ true → fit o ≡ true) → list_all fit os ≡ true
all_from_both kept also fit [] all both each = refl
all_from_both kept also fit (o ∷ os) all both each =
    let a = and_parts (kept o) (list_all kept os) all in
    let b = and_parts (also o) (list_all also os) both in
    and_from _ _ (each o a.0 b.0) (all_from_both kept also fit os a.1 b.1 each)

module _ (conds : List Pattern) (redex contractum : Pattern) (keeps : KeepsRewrite conds redex contractum) where
  abbrev before : List Occurrence
  before = flat_map occurrences_in conds

  abbrev known : List Occurrence
  known = occurrences_in redex

  abbrev after : List Occurrence
  after = occurrences_in contractum

  abbrev text : List Occurrence
  text = before ++ known ++ after

  -- what all occurrences keep, part by part
  parts_of : (kept : Occurrence → Bool) → list_all kept text ≡ true → (list_all kept before ≡ true) × (list_all kept known ≡ true) × (list_all kept after ≡ true)
  parts_of kept e =
      let outer = split kept (before ++ known) after e in
      let inner = split kept before known outer.0 in (inner.0, inner.1, outer.1)

  few_parts : (length conds ≤ 15) × (list_all few_of conds ≡ true) × (few_of redex ≡ true) × (few_of contractum ≡ true)
  unfolding rewrite_is_few
  few_parts =
      let parts = and_parts (nat_le (length conds) 15) (list_all few_of conds && few_of redex && few_of contractum) keeps.few in
      let outer = and_parts (list_all few_of conds && few_of redex) (few_of contractum) parts.1 in
      let inner = and_parts (list_all few_of conds) (few_of redex) outer.0 in (leb-true (length conds) 15 parts.0, inner.0, inner.1, outer.1)

  shallow_parts : (list_all is_shallow_pattern conds ≡ true) × (is_shallow_pattern redex ≡ true) × (is_shallow_pattern contractum ≡ true)
  unfolding rewrite_is_shallow
  shallow_parts =
      let outer = and_parts (list_all is_shallow_pattern conds && is_shallow_pattern redex) (is_shallow_pattern contractum) keeps.shallow in
      let inner = and_parts (list_all is_shallow_pattern conds) (is_shallow_pattern redex) outer.0 in (inner.0, inner.1, outer.1)

  small_parts : (list_all is_small_pattern conds ≡ true) × (is_small_pattern redex ≡ true) × (is_small_pattern contractum ≡ true)
  unfolding rewrite_is_small
  small_parts =
      let outer = and_parts (list_all is_small_pattern conds && is_small_pattern redex) (is_small_pattern contractum) keeps.small in
      let inner = and_parts (list_all is_small_pattern conds) (is_small_pattern redex) outer.0 in (inner.0, inner.1, outer.1)

  closed_parts : (list_all (λ p. below p 0) conds ≡ true) × (below redex 0 ≡ true) × (below contractum 0 ≡ true)
  unfolding rewrite_is_closed
  closed_parts =
      let outer = and_parts (list_all (λ p. below p 0) conds && below redex 0) (below contractum 0) keeps.closed in
      let inner = and_parts (list_all (λ p. below p 0) conds) (below redex 0) outer.0 in (inner.0, inner.1, outer.1)

  listed : all_listed [] text ≡ true
  unfolding rewrite_is_listed
  listed = keeps.listed

  single : lists_apart text ≡ true
  unfolding rewrite_is_single
  single = keeps.single

  distinct : on_variables known ≡ true
  unfolding rewrite_is_on_variables
  distinct = keeps.on_variables

  consistent : is_consistent text ≡ true
  unfolding rewrite_is_consistent
  consistent = keeps.consistent

  bound : all_named_in known (before ++ after) ≡ true
  unfolding rewrite_is_bound
  bound = keeps.bound

  filled_parts : (has_all (holes_in redex) (flat_map holes_in conds) ≡ true) × (has_all (holes_in redex) (holes_in contractum) ≡ true)
  unfolding rewrite_is_filled
  filled_parts = and_parts _ _ (sym (has_all-append (holes_in redex) (flat_map holes_in conds) (holes_in contractum)) ∙ keeps.filled)

  pub IsFaultlessRewrite-from : IsFaultlessRewrite conds redex contractum
  IsFaultlessRewrite-from =
      let lists = parts_of (listed_use []) listed in
      let once = parts_of apart_use single in
      record {
        few_conds = few_parts.0;
        limited = limited_patterns conds few_parts.1 shallow_parts.0 small_parts.0;
        limited_redex = IsLimited-from redex few_parts.2 shallow_parts.1 small_parts.1;
        limited_contractum = IsLimited-from contractum few_parts.3 shallow_parts.2 small_parts.2;
        fine = fine-from redex 0 closed_parts.1 distinct;
        placed = placed_patterns conds closed_parts.0 lists.0 once.0;
        placed_redex = pattern_placed-from redex nothing_before closed_parts.1 lists.1 once.1;
        placed_contractum = pattern_placed-from contractum nothing_before closed_parts.2 lists.2 once.2;
        unlisted = All-weaker (λ o. listed_use [] o ≡ true) (λ o. o.ctxs ≡ []) (λ o e. none_listed o.ctxs e) text (AllPass-from_list_all (listed_use []) text listed);
        alike = AreAlike-from text consistent;
        bound = bound;
        filled = filled_patterns (holes_in redex) conds filled_parts.0;
        filled_contractum = filled_parts.1;
      }

  -- ## The values of conditions and of the contractum

  module _ (w : Wide) (v : Values) (redex_fits : IsTrue (fits w v redex)) where
    abbrev fit : Occurrence → Bool
    fit = meta_fits w v

    one_fits : (o : Occurrence) → like_use text o ≡ true → is_some (first_named known o.name) ≡ true → (r : Option Occurrence) → first_named known o.name ≡ r → fit o ≡ true
    one_fits o like named None e = absurd (cc (ap is_some e))
    one_fits o like named (Some u) e =
        fits_as_known fit (meta_fits-like w v) text known (parts_of (like_use text) consistent).1 (sym (fits-told w v redex) ∙ redex_fits) o u like e

    part_fits : (os : List Occurrence) → list_all (like_use text) os ≡ true → all_named_in known os ≡ true → list_all fit os ≡ true
    part_fits os likes named =
        all_from_both (like_use text) (λ (o : Occurrence). is_some (first_named known o.name)) fit os likes named (λ o like here. one_fits o like here (first_named known o.name) refl)

    each_fits : (ps : List Pattern) → list_all fit (flat_map occurrences_in ps) ≡ true → All (λ p. IsTrue (fits w v p)) ps
    each_fits [] e = All-nil (λ p. IsTrue (fits w v p))
    each_fits (p ∷ ps) e =
        let parts = split fit (occurrences_in p) (flat_map occurrences_in ps) e in
        All-cons (λ q. IsTrue (fits w v q)) p ps (fits-told w v p ∙ parts.0) (each_fits ps parts.1)

    pub conditions_fit : All (λ p. IsTrue (fits w v p)) conds × IsTrue (fits w v contractum)
    conditions_fit =
        let likes = parts_of (like_use text) consistent in
        let named = split (λ (o : Occurrence). is_some (first_named known o.name)) before after bound in
        (each_fits conds (part_fits before likes.0 named.0), fits-told w v contractum ∙ part_fits after likes.2 named.1)
