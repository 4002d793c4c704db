-- The least fault of parts, one after the other.
use Rattle.std.proofs.Common.{◌≡◌, ◌++◌, ◌+◌, ◌<◌, ℕ, List, Option, refl, ap, sym, ◌∙◌, drop, length, get_or}
use Rattle.std.specs.List.{flat_map}
use Rattle.mp_words.specs.declared.fail.TextErr.{TextErr}
use Rattle.mp_words.specs.Faults.{least_from}
use Rattle.mp_words.proofs.Soonest.{least_from_append}
use Rattle.mp_words.proofs.Walks.{left_cons}

-- two, three or four parts, one after the other
pub two_parts : (held a b : Option TextErr) (fs gs : List TextErr) → a ≡ least_from held fs → b ≡ least_from a gs → b ≡ least_from held (fs ++ gs)
two_parts held a b fs gs e f = f ∙ ap (λ o. least_from o gs) e ∙ sym (least_from_append held fs gs)

pub three_parts : (held a b c : Option TextErr) (fs gs hs : List TextErr) → a ≡ least_from held fs → b ≡ least_from a gs → c ≡ least_from b hs → c ≡ least_from held (fs ++ gs ++ hs)
three_parts held a b c fs gs hs e f g = two_parts held b c (fs ++ gs) hs (two_parts held a b fs gs e f) g

pub four_parts : (held a b c d : Option TextErr) (fs gs hs is : List TextErr) → a ≡ least_from held fs → b ≡ least_from a gs → c ≡ least_from b hs → d ≡ least_from c is → d ≡ least_from held (fs ++ gs ++ hs ++ is)
four_parts held a b c d fs gs hs is e f g h = two_parts held c d (fs ++ gs ++ hs) is (three_parts held a b c fs gs hs e f g) h

-- one item more of a list, each of which has its faults
pub flat_next : {X : Type 0} (f : X → List TextErr) (xs : List X) (i : ℕ) (x : X) (held next whole : Option TextErr) → i < length xs → x ≡ get_or xs i x → next ≡ least_from held (f x)
    → least_from held (flat_map f (drop i xs)) ≡ whole → least_from next (flat_map f (drop (i + 1) xs)) ≡ whole
flat_next f xs i x held next whole lt is found prev =
    let rest = flat_map f (drop (i + 1) xs) in
    two_parts held next (least_from next rest) (f x) rest found refl ∙ ap (λ ys. least_from held (flat_map f ys)) (sym (left_cons xs i x lt is)) ∙ prev
