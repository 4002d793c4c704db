-- A test that asks each second-order variable of a pattern is a test of the pattern's occurrences.
use Rattle.std.proofs.Common.{◌≡◌, ℕ, ◌+◌, List, [], ◌∷◌, length, map, Bool, true, ◌&&◌, refl, ap, sym, ◌∙◌}
use Rattle.std.proofs.lemmas.List.Folds.{list_all-append}
use Rattle.std.specs.List.{list_all, flat_map}
use Rattle.mp_logic.specs.declared.sym.Sym.{Sym}
use Rattle.mp_schema.specs.declared.pattern.ParamPat.{ParamPat}
use Rattle.mp_schema.specs.declared.pattern.Pattern.{Pattern}
use Rattle.mp_schema.specs.declared.pattern.Pattern as pat
use Rattle.mp_schema.specs.declared.pattern.PBound.{PBound}
use Rattle.mp_schema.specs.Conditions.{is_known, lists_known, lists_known_bound}
use Rattle.mp_schema.specs.Induction.{OfEachBody, OfEachArg, each_pattern}
use Rattle.mp_schema.specs.Instances.{all_pass}
use Rattle.mp_schema.specs.Occurrences.{Occurrence, variable_level, occurrences_in, occurrences_in_bound}
use Rattle.mp_schema.proofs.Layers.{occurrences_in-Var, occurrences_in-Op, occurrences_in-Meta, occurrences_in_bound-is, lists_known-Var, lists_known-Op, lists_known-Meta, lists_known_bound-is}

-- the occurrence that a second-order variable is
abbrev pub meta_at : Sym → List Sym → List Pattern → Occurrence
meta_at name ctxs args = record { is_context = Rattle.std.proofs.Common.false; name = name; ctxs = ctxs; levels = map variable_level args }

-- a test of patterns that asks each second-order variable this
pub record AsksEach (asked : Occurrence → Bool) (test : Pattern → Bool) (test_bound : PBound → Bool) : Type 0 where
  pub of_var : (l : ℕ) → test (pat.Var l) ≡ true
  pub of_op : (o : Sym) (ps : List ParamPat) (subs : List PBound) → test (pat.Op o ps subs) ≡ all_pass (map test_bound subs)
  pub of_meta : (n : Sym) (cs : List Sym) (args : List Pattern) → test (pat.Meta n cs args) ≡ (asked (meta_at n cs args) && all_pass (map test args))
  pub of_bound : (b : PBound) → test_bound b ≡ test b.body

module _ (asked : Occurrence → Bool) (test : Pattern → Bool) (test_bound : PBound → Bool) (asks : AsksEach asked test test_bound) where
  abbrev IsTold : Pattern → Type 0
  IsTold p = test p ≡ list_all asked (occurrences_in p)

  told_bodies : (bs : List PBound) → OfEachBody IsTold bs → all_pass (map test_bound bs) ≡ list_all asked (flat_map occurrences_in_bound bs)
  told_bodies [] h = refl
  told_bodies (b ∷ bs) h =
      let first : test_bound b ≡ list_all asked (occurrences_in_bound b) = asks.of_bound b ∙ h.0 ∙ ap (list_all asked) (sym (occurrences_in_bound-is b)) in
      ap (λ t. t && all_pass (map test_bound bs)) first
      ∙ ap (λ t. list_all asked (occurrences_in_bound b) && t) (told_bodies bs h.1)
      ∙ sym (list_all-append asked (occurrences_in_bound b) (flat_map occurrences_in_bound bs))

  told_args : (args : List Pattern) → OfEachArg IsTold args → all_pass (map test args) ≡ list_all asked (flat_map occurrences_in args)
  told_args [] h = refl
  told_args (a ∷ rest) h =
      ap (λ t. t && all_pass (map test rest)) h.0
      ∙ ap (λ t. list_all asked (occurrences_in a) && t) (told_args rest h.1)
      ∙ sym (list_all-append asked (occurrences_in a) (flat_map occurrences_in rest))

  pub told : (p : Pattern) → test p ≡ list_all asked (occurrences_in p)
  told =
      each_pattern IsTold
      (λ l. asks.of_var l ∙ ap (list_all asked) (sym (occurrences_in-Var l)))
      (λ o ps subs h. asks.of_op o ps subs ∙ told_bodies subs h ∙ ap (list_all asked) (sym (occurrences_in-Op o ps subs)))
      (λ n cs args h. asks.of_meta n cs args ∙ ap (λ t. asked (meta_at n cs args) && t) (told_args args h) ∙ ap (list_all asked) (sym (occurrences_in-Meta n cs args)))

  pub told_all : (ps : List Pattern) → all_pass (map test ps) ≡ list_all asked (flat_map occurrences_in ps)
  told_all [] = refl
  told_all (p ∷ ps) =
      ap (λ t. t && all_pass (map test ps)) (told p)
      ∙ ap (λ t. list_all asked (occurrences_in p) && t) (told_all ps)
      ∙ sym (list_all-append asked (occurrences_in p) (flat_map occurrences_in ps))

-- the lists of a pattern are those of its occurrences
abbrev pub known_use : List Sym → Occurrence → Bool
known_use known o = is_known known o.ctxs

asks_known : (known : List Sym) → AsksEach (known_use known) (lists_known known) (lists_known_bound known)
asks_known known = record {
  of_var = lists_known-Var known;
  of_op = lists_known-Op known;
  of_meta = lists_known-Meta known;
  of_bound = lists_known_bound-is known;
}

pub lists_known-told : (known : List Sym) (p : Pattern) → lists_known known p ≡ list_all (known_use known) (occurrences_in p)
lists_known-told known = told (known_use known) (lists_known known) (lists_known_bound known) (asks_known known)
