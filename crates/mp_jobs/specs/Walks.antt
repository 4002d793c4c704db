-- The walk over a node of the job tree: the first node in postorder that a rule changes is changed.
use Rattle.std.specs.Prelude.{◌≡◌, Bool, true, false, List, [], ◌∷◌, map, Result, MatchResult, Some, None}
use Rattle.std.specs.Option.{option_or, option_map}
use Rattle.std.specs.declared.option.Option.{Option}
use Rattle.mp_jobs.specs.declared.node.Node.{Node, Node-F, Todo, Claimed, Done, Then, Leaves, Else, Race, Check, fold-Node}
use Rattle.mp_jobs.specs.declared.node.Node.TheOpen as layer

-- what a node becomes by itself; None where a rule leaves it as it is
abbrev pub Rule : Type 0 → Type 0
Rule G = Node G → Option (Node G)

-- a node as it was, and as it is with the first change in it, if there is one
abbrev pub Change : Type 0 → Type 0
Change G = Node G × Option (Node G)

-- nodes as they were
abbrev pub were : {G : Type 0} → List (Change G) → List (Node G)
were [] = []
were (k ∷ ks) = k.0 ∷ were ks

-- nodes of which the leftmost one that changes is changed
abbrev pub kids_changed : {G : Type 0} → List (Change G) → Option (List (Node G))
kids_changed [] = None
kids_changed (k ∷ ks) = option_or (option_map (λ m. m ∷ were ks) k.1) (option_map (λ ms. k.0 ∷ ms) (kids_changed ks))

-- one level of a node as it was
abbrev pub was_of : {G : Type 0} → Node-F G (Change G) → Node G
was_of (layer.Todo work) = Todo work
was_of (layer.Claimed epoch who work) = Claimed epoch who work
was_of (layer.Done o) = Done o
was_of (layer.Then work first) = Then work first.0
was_of (layer.Leaves tree kids cut) = Leaves tree (were kids) cut
was_of (layer.Else first second) = Else first.0 second.0
was_of (layer.Race kids) = Race (were kids)
was_of (layer.Check work inner) = Check work inner.0

-- one level of a node with the first change in its parts, from left to right
abbrev pub parts_changed : {G : Type 0} → Node-F G (Change G) → Option (Node G)
parts_changed (layer.Todo work) = None
parts_changed (layer.Claimed epoch who work) = None
parts_changed (layer.Done o) = None
parts_changed (layer.Then work first) = option_map (λ m. Then work m) first.1
parts_changed (layer.Leaves tree kids cut) = option_map (λ ms. Leaves tree ms cut) (kids_changed kids)
parts_changed (layer.Else first second) = option_or (option_map (λ m. Else m second.0) first.1) (option_map (λ m. Else first.0 m) second.1)
parts_changed (layer.Race kids) = option_map (λ ms. Race ms) (kids_changed kids)
parts_changed (layer.Check work inner) = option_map (λ m. Check work m) inner.1

-- one level of a node: the parts come first, and then the node itself
abbrev pub change_step : {G : Type 0} → Rule G → Node-F G (Change G) → Change G
change_step rule l = (was_of l, option_or (parts_changed l) (rule (was_of l)))

-- a node, and what it is once the first node in postorder that the rule changes is changed
abbrev pub change_of : {G : Type 0} → Rule G → Node G → Change G
change_of {G} rule = fold-Node G (Change G) (change_step rule)

-- the node with the first change; None where the rule changes nothing in it
abbrev pub first_change : {G : Type 0} → Rule G → Node G → Option (Node G)
first_change rule n = (change_of rule n).1

-- the same of several nodes, from left to right
abbrev pub kids_change : {G : Type 0} → Rule G → List (Node G) → Option (List (Node G))
kids_change rule ns = kids_changed (map (change_of rule) ns)

-- an answer that tells whether there was a change, and what is there after it
abbrev pub Becomes : {A : Type 0} → Option A → A → Bool → A → Type 0
Becomes (Some m) old true new = new ≡ m
Becomes None old false new = new ≡ old
Becomes (Some m) old false new = ⊥
Becomes None old true new = ⊥

-- the call made the rule's first change and answers true, or there is none and it answers false
abbrev pub Changes : {G : Type 0} → Rule G → Node G → Bool → Node G → Type 0
Changes rule old answer new = Becomes (first_change rule old) old answer new

-- the same of a call that takes memory: after a refusal the node is as before
abbrev pub ChangesOrStays : {G E : Type 0} → Rule G → Node G → Result Bool E → Node G → Type 0
ChangesOrStays rule old answer new = MatchResult answer (λ changed. Changes rule old changed new) (λ _. new ≡ old)
