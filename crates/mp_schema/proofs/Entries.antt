-- The entries of a table of values by name, as the list of the values.
use Rattle.std.proofs.Common.{◌≡◌, ℕ, List, [], ◌∷◌, ◌++◌, map, nat_eq, Bool, true, false, if◌then◌else◌, Option, Some, None, refl, ap, ◌∙◌, arith}
use Rattle.std.specs.Map.{lookup}
use Rattle.std.specs.Option.{option_map}
use Rattle.std.proofs.lemmas.Bool.Decides.{nat_tests}
use Rattle.mp_logic.specs.declared.sym.Sym.{Sym}
use Rattle.mp_schema.specs.declared.instance.MetaVal.{MetaVal}
use Rattle.mp_schema.specs.declared.instance.ParamVal.{ParamVal}
use Rattle.mp_schema.specs.Named.{AreNamed}
use Rattle.mp_schema.specs.Values.{find_meta, find_param}

swapped : (a b : ℕ) → nat_eq a b ≡ nat_eq b a
swapped a b = grind (arith, nat_tests)

module _ {V : Type 0} (name : V → ℕ) where
  abbrev pub value_in : ℕ × V → V
  value_in e = e.1

  -- the values after one more
  pub values-push : (es : List (ℕ × V)) (k : ℕ) (v : V) → map value_in (es ++ (k, v) ∷ []) ≡ map value_in es ++ v ∷ []
  values-push [] k v = refl
  values-push (e ∷ es) k v = ap (λ vs. e.1 ∷ vs) (values-push es k v)

  pub named-push : (es : List (ℕ × V)) (v : V) → AreNamed name es → AreNamed name (es ++ (name v, v) ∷ [])
  named-push [] v h = (refl, tt)
  named-push (e ∷ es) v h = (h.0, named-push es v h.1)

  -- a new entry, as the list of the values
  pub entered : (es new : List (ℕ × V)) (v : V) (old : List V) → new ≡ es ++ (name v, v) ∷ [] → map value_in es ≡ old → map value_in new ≡ old ++ v ∷ []
  entered es new v old is seen = ap (map value_in) is ∙ values-push es (name v) v ∙ ap (λ vs. vs ++ v ∷ []) seen

abbrev pub meta_name : MetaVal → ℕ
meta_name x = x.name.0

abbrev pub param_name : ParamVal → ℕ
param_name x = x.name.0

-- what stands under a key is the first value of this name
pub meta-by_key : (es : List (ℕ × MetaVal)) (n : Sym) → AreNamed meta_name es → lookup (nat_eq n.0) es ≡ find_meta (map (value_in meta_name) es) n
meta-by_key [] n h = refl
meta-by_key (e ∷ es) n h =
    let ih = meta-by_key es n h.1 in
    let same : nat_eq n.0 e.0 ≡ nat_eq e.1.name.0 n.0 = ap (nat_eq n.0) h.0 ∙ swapped n.0 e.1.name.0 in
    rw (same, ih) refl

pub param-by_key : (es : List (ℕ × ParamVal)) (n : Sym) → AreNamed param_name es → option_map (λ (x : ParamVal). x.value) (lookup (nat_eq n.0) es) ≡ find_param (map (value_in param_name) es) n
param-by_key [] n h = refl
param-by_key (e ∷ es) n h =
    let ih = param-by_key es n h.1 in
    let same : nat_eq n.0 e.0 ≡ nat_eq e.1.name.0 n.0 = ap (nat_eq n.0) h.0 ∙ swapped n.0 e.1.name.0 in
    let both = found (nat_eq e.1.name.0 n.0) in
    rw (same, both, ih) refl where
      found : (b : Bool) → option_map (λ (x : ParamVal). x.value) (if b then Some e.1 else lookup (nat_eq n.0) es)
          ≡ (if b then Some e.1.value else option_map (λ (x : ParamVal). x.value) (lookup (nat_eq n.0) es))
      found true = refl
      found false = refl

-- where no parameter is read, nothing stands under the key
pub no_value : (o : Option ParamVal) → option_map (λ (x : ParamVal). x.value) o ≡ None → o ≡ None
no_value None h = refl
no_value (Some x) h = absurd (cc)
