-- Places of names, from the last one to the first.
use Rattle.std.proofs.Common.{◌≡◌, ◌++◌, ◌+◌, ◌-◌, ◌<◌, ◌≤◌, ℕ, suc, List, [], ◌∷◌, None, Some, Bool, true, false, nat_eq, if◌then◌else◌, length, take, get_or, refl, ap, sym, ◌∙◌, arith}
use Rattle.std.proofs.Math.Seq.{take-suc}
use Rattle.std.proofs.lemmas.List.{length-take-le}
use Rattle.mp_logic.specs.declared.sym.Sym.{Sym}
use Rattle.mp_termtext.specs.Statics.{place_in, or_here}

-- the last name of a list is looked at first
pub place_in-last : (ns : List Sym) (n name : Sym) → place_in (ns ++ n ∷ []) name ≡ (if nat_eq n.0 name.0 then Some (length ns) else place_in ns name)
place_in-last [] n name = by (nat_eq n.0 name.0)
  where
    by : (b : Bool) → or_here None b ≡ (if b then Some 0 else None)
    by true = refl
    by false = refl
place_in-last (m ∷ ns) n name = ap (λ o. or_here o (nat_eq m.0 name.0)) (place_in-last ns n name) ∙ by (nat_eq n.0 name.0)
  where
    one_more : 1 + length ns ≡ suc (length ns)
    one_more = omega arith

    by : (b : Bool) → or_here (if b then Some (length ns) else place_in ns name) (nat_eq m.0 name.0) ≡ (if b then Some (suc (length ns)) else or_here (place_in ns name) (nat_eq m.0 name.0))
    by true = ap (λ (k : ℕ). Some k) one_more
    by false = refl

-- one name further to the front
pub place_in-step : (ns : List Sym) (k i : ℕ) (name n d : Sym) → k < length ns → i ≡ k + 1 → n ≡ get_or ns k d → place_in (take i ns) name ≡ (if nat_eq n.0 name.0 then Some k else place_in (take k ns) name)
place_in-step ns k i name n d lt e is =
    let next : i ≡ suc k = omega (arith, e) in
    let cut : take i ns ≡ take k ns ++ n ∷ [] = ap (λ j. take j ns) next ∙ take-suc ns k d lt ∙ ap (λ m. take k ns ++ m ∷ []) (sym is) in
    let len : length (take k ns) ≡ k = length-take-le k ns (omega (arith, lt)) in
    ap (λ ms. place_in ms name) cut ∙ place_in-last (take k ns) n name ∙ ap (λ j. if nat_eq n.0 name.0 then Some j else place_in (take k ns) name) len

-- the last of the first i names is the one
pub found_at : (ns : List Sym) (name d : Sym) (i : ℕ) → 0 < i → i ≤ length ns → nat_eq (get_or ns (i - 1) d).0 name.0 ≡ true → place_in (take i ns) name ≡ place_in ns name → Some (i - 1) ≡ place_in ns name
found_at ns name d i lt le is e =
    sym (place_in-step ns (i - 1) i name (get_or ns (i - 1) d) d (omega (arith, lt, le)) (omega (arith, lt)) refl ∙ ap (λ b. if b then Some (i - 1) else place_in (take (i - 1) ns) name) is) ∙ e

-- it isn't the one
pub not_at : (ns : List Sym) (name d : Sym) (i : ℕ) → 0 < i → i ≤ length ns → nat_eq (get_or ns (i - 1) d).0 name.0 ≡ false → place_in (take i ns) name ≡ place_in ns name → place_in (take (i - 1) ns) name ≡ place_in ns name
not_at ns name d i lt le is e =
    sym (place_in-step ns (i - 1) i name (get_or ns (i - 1) d) d (omega (arith, lt, le)) (omega (arith, lt)) refl ∙ ap (λ b. if b then Some (i - 1) else place_in (take (i - 1) ns) name) is) ∙ e
