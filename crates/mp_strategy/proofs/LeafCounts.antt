-- The number of open leaves is the length of their list.
use Rattle.std.proofs.Common.{◌≡◌, ℕ, suc, ◌+◌, List, [], ◌∷◌, map, sum, length, refl, ap, ◌∙◌, sym, rules, arith}
use Rattle.std.proofs.lemmas.Grind.{common_steps}
use Rattle.std.proofs.lemmas.List.{length-append}
use Rattle.std.specs.List.{flat_map, AllByRecursion}
use Rattle.mp_logic.specs.declared.tree.Tree.{Tree, Leaf, Step, the_lemmas}
use Rattle.mp_logic.specs.declared.tree.JustId.{JustId}
use Rattle.mp_logic.specs.Trees.{LeafAt, deeper, leaves_of, leaf_count_of}
use Rattle.mp_logic.proofs.TreeInduction.{tree_ind}
use Rattle.mp_logic.proofs.TreeSteps.{leaves-Leaf, leaves-Step}

abbrev Counts : {G : Type 0} → Tree G → Type 0
Counts t = length (leaves_of t) ≡ leaf_count_of t

sum_more : (n : ℕ) (ns : List ℕ) → sum (n ∷ ns) ≡ n + sum ns
sum_more n ns = grind (arith, common_steps)

pub as_long : {G : Type 0} (leaves : List (LeafAt G)) → length (map deeper leaves) ≡ length leaves
as_long [] = refl
as_long (leaf ∷ leaves) = ap (λ n. suc n) (as_long leaves)

lengths : {G : Type 0} (kids : List (Tree G)) → AllByRecursion Counts kids → length (flat_map (λ kid. map deeper (leaves_of kid)) kids) ≡ sum (map leaf_count_of kids)
lengths [] h = refl
lengths (k ∷ ks) h =
    let rest = flat_map (λ kid. map deeper (leaves_of kid)) ks in
    length-append (map deeper (leaves_of k)) rest ∙ ap (λ n. n + length rest) (as_long (leaves_of k) ∙ h.0) ∙ ap (λ n. leaf_count_of k + n) (lengths ks h.1) ∙ sym (sum_more (leaf_count_of k) (map leaf_count_of ks))

pub count-Leaf : {G : Type 0} (g : G) → leaf_count_of (Leaf g) ≡ 1
count-Leaf g = search (rules, the_lemmas)

pub count-Step : {G : Type 0} (g : G) (just : JustId) (kids : List (Tree G)) → leaf_count_of (Step g just kids) ≡ sum (map leaf_count_of kids)
count-Step g just kids = search (rules, the_lemmas)

at_leaf : {G : Type 0} (g : G) → Counts (Leaf g)
at_leaf g = ap length (leaves-Leaf g) ∙ sym (count-Leaf g)

at_step : {G : Type 0} (g : G) (just : JustId) (kids : List (Tree G)) → AllByRecursion Counts kids → Counts (Step g just kids)
at_step g just kids h = ap length (leaves-Step g just kids) ∙ lengths kids h ∙ sym (count-Step g just kids)

pub leaf_count-leaves : {G : Type 0} (t : Tree G) → length (leaves_of t) ≡ leaf_count_of t
leaf_count-leaves {G} = tree_ind Counts at_leaf at_step
