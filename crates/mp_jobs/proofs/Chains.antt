-- Changes part by part, from left to right, are changes one at a time.
use Rattle.std.proofs.Common.{◌≡◌, Bool, List, ◌∷◌, ap, ◌∙◌, Some, None}
use Rattle.std.specs.Option.{option_or, option_map}
use Rattle.mp_logic.specs.declared.tree.Tree.{Tree}
use Rattle.mp_strategy.specs.declared.work.Work.{Work}
use Rattle.mp_jobs.specs.declared.node.Node.{Node, Then, Leaves, Else, Race, Check}
use Rattle.mp_jobs.specs.Walks.{Rule, first_change, kids_change}
use Rattle.mp_jobs.proofs.Changes.{first_then, first_check, first_leaves, first_else, first_race, kids_more}

-- some number of changes by a rule
pub data Chain {G : Type 0} (rule : Rule G) : Node G → Node G → Type 0 where
  rests : (n : Node G) → Chain rule n n
  goes : (n m o : Node G) → first_change rule n ≡ Some m → Chain rule m o → Chain rule n o

module _ {G : Type 0} (rule : Rule G) where
  pub joined : (a b c : Node G) → Chain rule a b → Chain rule b c → Chain rule a c
  joined a b c (rests _) h = h
  joined a b c (goes _ m _ e k) h = goes a m c e (joined m b c k h)

  pub one : (a b : Node G) → first_change rule a ≡ Some b → Chain rule a b
  one a b e = goes a b b e (rests b)

  pub chain_then : (w : Work G) (f g : Node G) → Chain rule f g → Chain rule (Then w f) (Then w g)
  chain_then w f g (rests _) = rests (Then w f)
  chain_then w f g (goes _ m _ e k) =
      goes (Then w f) (Then w m) (Then w g) (first_then rule w f ∙ ap (λ o. option_or (option_map (λ x. Then w x) o) (rule (Then w f))) e) (chain_then w m g k)

  pub chain_check : (w : Work G) (f g : Node G) → Chain rule f g → Chain rule (Check w f) (Check w g)
  chain_check w f g (rests _) = rests (Check w f)
  chain_check w f g (goes _ m _ e k) =
      goes (Check w f) (Check w m) (Check w g) (first_check rule w f ∙ ap (λ o. option_or (option_map (λ x. Check w x) o) (rule (Check w f))) e) (chain_check w m g k)

  pub chain_left : (a b c : Node G) → Chain rule a b → Chain rule (Else a c) (Else b c)
  chain_left a b c (rests _) = rests (Else a c)
  chain_left a b c (goes _ m _ e k) =
      goes (Else a c) (Else m c) (Else b c) (first_else rule a c ∙ ap (λ o. option_or (option_or (option_map (λ x. Else x c) o) (option_map (λ x. Else a x) (first_change rule c))) (rule (Else a c))) e) (chain_left m b c k)

  -- the second part, once the first one is settled
  pub chain_right : (a b c : Node G) → first_change rule a ≡ None → Chain rule b c → Chain rule (Else a b) (Else a c)
  chain_right a b c n (rests _) = rests (Else a b)
  chain_right a b c n (goes _ m _ e k) =
      goes (Else a b) (Else a m) (Else a c)
      (first_else rule a b ∙ ap (λ o. option_or (option_or (option_map (λ x. Else x b) o) (option_map (λ x. Else a x) (first_change rule b))) (rule (Else a b))) n
      ∙ ap (λ o. option_or (option_map (λ x. Else a x) o) (rule (Else a b))) e)
      (chain_right a m c n k)

  -- several kids, one after the other
  pub data Kids : List (Node G) → List (Node G) → Type 0 where
    rest : (ks : List (Node G)) → Kids ks ks
    go : (ks ms ns : List (Node G)) → kids_change rule ks ≡ Some ms → Kids ms ns → Kids ks ns

  pub kids_head : (k m : Node G) (ks : List (Node G)) → Chain rule k m → Kids (k ∷ ks) (m ∷ ks)
  kids_head k m ks (rests _) = rest (k ∷ ks)
  kids_head k m ks (goes _ l _ e c) =
      go (k ∷ ks) (l ∷ ks) (m ∷ ks) (kids_more rule k ks ∙ ap (λ o. option_or (option_map (λ x. x ∷ ks) o) (option_map (λ xs. k ∷ xs) (kids_change rule ks))) e) (kids_head l m ks c)

  pub kids_tail : (k : Node G) (ks ms : List (Node G)) → first_change rule k ≡ None → Kids ks ms → Kids (k ∷ ks) (k ∷ ms)
  kids_tail k ks ms n (rest _) = rest (k ∷ ks)
  kids_tail k ks ms n (go _ ls _ e c) =
      go (k ∷ ks) (k ∷ ls) (k ∷ ms)
      (kids_more rule k ks ∙ ap (λ o. option_or (option_map (λ x. x ∷ ks) o) (option_map (λ xs. k ∷ xs) (kids_change rule ks))) n ∙ ap (λ o. option_map (λ xs. k ∷ xs) o) e)
      (kids_tail k ls ms n c)

  pub chain_leaves : (t : Tree G) (ks ms : List (Node G)) (b : Bool) → Kids ks ms → Chain rule (Leaves t ks b) (Leaves t ms b)
  chain_leaves t ks ms b (rest _) = rests (Leaves t ks b)
  chain_leaves t ks ms b (go _ ls _ e c) =
      goes (Leaves t ks b) (Leaves t ls b) (Leaves t ms b) (first_leaves rule t ks b ∙ ap (λ o. option_or (option_map (λ xs. Leaves t xs b) o) (rule (Leaves t ks b))) e) (chain_leaves t ls ms b c)

  pub chain_race : (ks ms : List (Node G)) → Kids ks ms → Chain rule (Race ks) (Race ms)
  chain_race ks ms (rest _) = rests (Race ks)
  chain_race ks ms (go _ ls _ e c) =
      goes (Race ks) (Race ls) (Race ms) (first_race rule ks ∙ ap (λ o. option_or (option_map (λ xs. Race xs) o) (rule (Race ks))) e) (chain_race ls ms c)

  pub kids_joined : (a b c : List (Node G)) → Kids a b → Kids b c → Kids a c
  kids_joined a b c (rest _) h = h
  kids_joined a b c (go _ m _ e k) h = go a m c e (kids_joined m b c k h)
