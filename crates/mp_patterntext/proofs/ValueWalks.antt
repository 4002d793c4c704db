-- Steps along what is built: subterms and arguments.
use Rattle.std.proofs.Common.{◌≡◌, ◌++◌, ◌+◌, ◌<◌, ℕ, List, [], ◌∷◌, ap, sym, ◌∙◌, append_assoc, map, drop, length, get_or}
use Rattle.mp_logic.specs.declared.sym.Sym.{Sym}
use Rattle.mp_words.proofs.Walks.{left_cons}
use Rattle.mp_patterntext.specs.Values.{Valued, each_pattern_value}

-- one more of some parts, each behind the same names
pub values_built : {X V : Type 0} (f : X → Valued V) (xs : List X) (i : ℕ) (x : X) (v : V) (before after whole : List V) (env now : List Sym) → i < length xs → x ≡ get_or xs i x → now ≡ env → v ≡ f x now → after ≡ before ++ v ∷ []
    → before ++ each_pattern_value (map f (drop i xs)) env ≡ whole → after ++ each_pattern_value (map f (drop (i + 1) xs)) env ≡ whole
values_built f xs i x v before after whole env now lt is same built grown prev =
    let values = each_pattern_value (map f (drop (i + 1) xs)) env in
    let one : v ≡ f x env = built ∙ ap (f x) same in
    ap (λ vs. vs ++ values) grown ∙ append_assoc before (v ∷ []) values ∙ ap (λ u. before ++ u ∷ values) one
    ∙ ap (λ ys. before ++ each_pattern_value (map f ys) env) (sym (left_cons xs i x lt is)) ∙ prev
