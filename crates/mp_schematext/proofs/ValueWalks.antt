-- Steps along items that are built.
use Rattle.std.proofs.Common.{◌≡◌, ◌++◌, ◌+◌, ◌<◌, ℕ, List, [], ◌∷◌, ap, sym, ◌∙◌, append_assoc, drop, length, get_or}
use Rattle.mp_logic.specs.declared.sym.Sym.{Sym}
use Rattle.mp_schema.specs.declared.schema.Item.{Item}
use Rattle.mp_words.proofs.Walks.{left_cons}
use Rattle.mp_schematext.specs.declared.raw.RawItem.{RawItem}
use Rattle.mp_schematext.specs.Scopes.{env_past}
use Rattle.mp_schematext.specs.Values.{item_of, items_of}

-- one more of some items, behind which its name is bound
pub items_built : (items : List RawItem) (i : ℕ) (x : RawItem) (v : Item) (before after whole : List Item) (env behind : List Sym) → i < length items → x ≡ get_or items i x → behind ≡ env_past x env → v ≡ item_of x env → after ≡ before ++ v ∷ []
    → before ++ items_of (drop i items) env ≡ whole → after ++ items_of (drop (i + 1) items) behind ≡ whole
items_built items i x v before after whole env behind lt is grows built grown prev =
    let rest = drop (i + 1) items in
    let values = items_of rest (env_past x env) in
    ap (λ ns. after ++ items_of rest ns) grows ∙ ap (λ vs. vs ++ values) grown ∙ append_assoc before (v ∷ []) values ∙ ap (λ u. before ++ u ∷ values) built
    ∙ ap (λ ys. before ++ items_of ys env) (sym (left_cons items i x lt is)) ∙ prev
