-- What is left to print of a list, and steps along it.
use Rattle.std.proofs.Common.{◌≡◌, ◌++◌, ◌+◌, ◌-◌, ◌<◌, ℕ, suc, List, codes, ap, ◌∙◌, append_assoc, arith, Bool, true, false}
use Rattle.mp_termtext.specs.Printing.{name_text, further_binders_text, further_text, list_text}

-- the rest of a list, where some of it was printed before or none
abbrev pub rest_text : List ℕ → List ℕ → Bool → List (List ℕ) → List ℕ
rest_text before behind true ts = further_text behind ts
rest_text before behind false ts = list_text before behind ts

-- one binder further
pub binders_next : (a b c whole : List ℕ) (s i n : ℕ) → i < n → b ≡ a ++ codes ", " → c ≡ b ++ name_text (s + i)
    → a ++ further_binders_text (s + i) (n - i) ≡ whole → c ++ further_binders_text (s + (i + 1)) (n - (i + 1)) ≡ whole
binders_next a b c whole s i n lt e f h =
    let m = n - (i + 1) in
    let x = further_binders_text (s + i + 1) m in
    let p = codes ", " in
    let q = name_text (s + i) in
    let at : s + (i + 1) ≡ s + i + 1 = omega arith in
    let count : suc m ≡ n - i = omega (arith, lt) in
    ap (λ k. c ++ further_binders_text k m) at ∙ ap (λ v. v ++ x) f ∙ ap (λ v. (v ++ q) ++ x) e ∙ append_assoc (a ++ p) q x ∙ append_assoc a p (q ++ x) ∙ ap (λ k. a ++ further_binders_text (s + i) k) count ∙ h
