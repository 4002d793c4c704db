-- The strategies of a queue, leaf by leaf.
use Rattle.std.proofs.Common.{◌≡◌, ℕ, zero, suc, ◌+◌, ◌-◌, ◌*◌, ◌<◌, ◌≤◌, true, List, [], ◌∷◌, length, refl, ap, subst, ◌∙◌, arith}
use Rattle.std.proofs.lemmas.Bool.{and_parts}
use Rattle.std.specs.List.{list_all}
use Rattle.mp_strategy.specs.declared.tactic.TacId.{TacId}
use Rattle.mp_strategy.specs.Fits.{places, is_behind}
use Rattle.mp_strategy.proofs.Unfolds.{is_later, is_within}
use Rattle.mp_eval.specs.declared.queue.Queue.{Queue}
use Rattle.mp_eval.specs.declared.queue.Queue.TheVariants as queue
use Rattle.mp_eval.specs.Queues.{IsReady, rest_of, after, weight_at, weight_of}

pub after_sum : (a b : ℕ) (q : Queue) → after (a + b) q ≡ after b (after a q)
after_sum zero b q = let e : 0 + b ≡ b = omega arith in ap (λ n. after n q) e
after_sum (suc a) b q = let e : suc a + b ≡ suc (a + b) = omega arith in ap (λ n. after n q) e ∙ after_sum a b (rest_of q)

ready_rest : (count n : ℕ) (q : Queue) → IsReady count q (suc n) → IsReady count (rest_of q) n
ready_rest count n (queue.Each at left) h = h
ready_rest count n (queue.Listed here []) h = absurd (let le : suc n ≤ 0 = h.1 in omega (arith, le))
ready_rest count n (queue.Listed here (b ∷ bs)) h =
    let le : suc n ≤ suc (length bs) = h.1 in
    (h.0, omega (arith, le), (and_parts (is_behind here.0 count b.0) (list_all (is_behind here.0 count) (places bs)) h.2).1)

pub ready_after : (count a b : ℕ) (q : Queue) → IsReady count q (a + b) → IsReady count (after a q) b
ready_after count zero b q h = let e : 0 + b ≡ b = omega arith in subst (IsReady count q) e h
ready_after count (suc a) b q h = let e : suc a + b ≡ suc (a + b) = omega arith in ready_after count a b (rest_of q) (ready_rest count (a + b) q (subst (IsReady count q) e h))

pub ready_less : (count a b : ℕ) (q : Queue) → a ≤ b → IsReady count q b → IsReady count q a
ready_less count a b (queue.Each at left) le h = h
ready_less count a b (queue.Listed here bs) le h = let more : b ≤ length bs = h.1 in (h.0, omega (arith, le, more), h.2)

weight_rest : (count : ℕ) (q : Queue) → weight_of count (rest_of q) ≡ weight_of count q
weight_rest count (queue.Each at left) = refl
weight_rest count (queue.Listed here []) = refl
weight_rest count (queue.Listed here (b ∷ bs)) = refl

pub weight_after : (count n : ℕ) (q : Queue) → weight_of count (after n q) ≡ weight_of count q
weight_after count zero q = refl
weight_after count (suc n) q = weight_after count n (rest_of q) ∙ weight_rest count q

-- a part that stands after an entry is lighter
pub part_lighter : (count here at left : ℕ) → here < at → at < count → left < 4294967296 → weight_at count at left ≤ (count - here) * 1180591620717411303424 - 68719476736
part_lighter count here at left behind within few = omega (arith, behind, within, few)

pub first_behind : (count here : ℕ) (b : TacId) (bs : List TacId) → list_all (is_behind here count) (places (b ∷ bs)) ≡ true → (here < b.0) × (b.0 < count)
first_behind count here b bs h =
    let first = (and_parts (is_behind here count b.0) (list_all (is_behind here count) (places bs)) h).0 in
    (is_later here count b.0 first, is_within here count b.0 first)
