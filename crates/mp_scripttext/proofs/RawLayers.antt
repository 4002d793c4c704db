-- One layer of what written strategies stand for, as equations.
use Rattle.std.proofs.Common.{◌≡◌, ℕ, suc, ◌+◌, ◌<◌, List, [], ◌∷◌, map, length, drop, get_or, refl, ap, sym, ◌∙◌, rules}
use Rattle.std.specs.Prelude.{slice_get, option_map, Option, None, Some}
use Rattle.std.proofs.lemmas.Option.{slice_get-map}
use Rattle.mp_termtext.specs.declared.raw.RawBound.{RawBound}
use Rattle.mp_steptext.specs.declared.raw.RawStep.{RawStep}
use Rattle.mp_words.specs.Faults.{fault_at_any, too_many}
use Rattle.mp_words.proofs.Walks.{left_cons}
use Rattle.mp_words.specs.declared.fail.TextWhy.TheVariants as why
use Rattle.mp_scripttext.specs.declared.raw.RawPrefix.{RawPrefix}
use Rattle.mp_scripttext.specs.declared.raw.RawStrategy.{RawStrategy}
use Rattle.mp_scripttext.specs.declared.raw.RawLink.{RawLink, Then, ThenL, OrElse}
use Rattle.mp_scripttext.specs.declared.raw.RawAtom.{RawAtom, Id, Fail, Step, Race, Prefix, Group, the_lemmas}
use Rattle.mp_scripttext.specs.Strategies.{Placed, Strategy, atom_strategy, else_link, fail_alone, id_alone, link_of, linked, linked_all, placed_strategy, prefix_faults, prefix_link, race_strategy, step_alone, strategy_of, then_link, then_list_link, unplaced}

pub atom-Id : atom_strategy Id ≡ id_alone
atom-Id = search (rules, the_lemmas)

pub atom-Fail : atom_strategy Fail ≡ fail_alone
atom-Fail = search (rules, the_lemmas)

pub atom-Step : (s : RawStep RawBound) → atom_strategy (Step s) ≡ step_alone s
atom-Step s = search (rules, the_lemmas)

pub atom-Prefix : (p : RawPrefix) (a : RawAtom) → atom_strategy (Prefix p a) ≡ linked (prefix_faults p) (atom_strategy a) (prefix_link p)
atom-Prefix p a = search (rules, the_lemmas)

pub atom-Group : (s : RawStrategy) → atom_strategy (Group s) ≡ strategy_of s
atom-Group s = search (rules, the_lemmas)

placed-is : (s : RawStrategy) → (let p : Placed = record { at = s.at; strategy = linked_all (atom_strategy s.first) (map link_of s.links) } in placed_strategy s ≡ p)
placed-is s = search (rules, the_lemmas)

pub strategy-is : (s : RawStrategy) → strategy_of s ≡ linked_all (atom_strategy s.first) (map link_of s.links)
strategy-is s = ap (λ (p : Placed). p.strategy) (placed-is s)

unplaced_all : (ss : List RawStrategy) → unplaced (map placed_strategy ss) ≡ map strategy_of ss
unplaced_all [] = refl
unplaced_all (s ∷ ss) = ap (λ xs. strategy_of s ∷ xs) (unplaced_all ss)

pub link-Then : (a : RawAtom) → link_of (Then a) ≡ then_link (atom_strategy a)
link-Then a = search (rules, the_lemmas)

link-ThenL-placed : (ss : List RawStrategy) → link_of (ThenL ss) ≡ then_list_link (unplaced (map placed_strategy ss))
link-ThenL-placed ss = search (rules, the_lemmas)

pub link-ThenL : (ss : List RawStrategy) → link_of (ThenL ss) ≡ then_list_link (map strategy_of ss)
link-ThenL ss = link-ThenL-placed ss ∙ ap then_list_link (unplaced_all ss)

pub link-OrElse : (s : RawStrategy) → link_of (OrElse s) ≡ else_link (strategy_of s)
link-OrElse s = search (rules, the_lemmas)

atom-Race-placed : (ss : List RawStrategy) → atom_strategy (Race ss) ≡ race_strategy (too_many (λ p. p.at) 8 (map placed_strategy ss)) (unplaced (map placed_strategy ss))
atom-Race-placed ss = search (rules, the_lemmas)

any_placed : (o : Option RawStrategy) → fault_at_any (λ (p : Placed). p.at) why.TooMany (option_map placed_strategy o) ≡ fault_at_any (λ (s : RawStrategy). s.at) why.TooMany o
any_placed None = refl
any_placed (Some s) = ap (λ (p : Placed). fault_at_any (λ (p : Placed). p.at) why.TooMany (Some p)) (placed-is s)

many_placed : (ss : List RawStrategy) → too_many (λ (p : Placed). p.at) 8 (map placed_strategy ss) ≡ too_many (λ (s : RawStrategy). s.at) 8 ss
many_placed ss = ap (fault_at_any (λ (p : Placed). p.at) why.TooMany) (slice_get-map placed_strategy ss 8) ∙ any_placed (slice_get ss 8)

pub atom-Race : (ss : List RawStrategy) → atom_strategy (Race ss) ≡ race_strategy (too_many (λ (s : RawStrategy). s.at) 8 ss) (map strategy_of ss)
atom-Race ss = atom-Race-placed ss ∙ (λ i. race_strategy (many_placed ss i) (unplaced_all ss i))

-- the next link of a strategy
module _ (links : List RawLink) (i : ℕ) (link : RawLink) (lt : i < length links) (is : link ≡ get_or links i link) where
  pub one_left : length (drop i links) ≡ suc (length (drop (i + 1) links))
  one_left = ap length (left_cons links i link lt is)

  pub next_link : (s w : Strategy) → linked_all s (map link_of (drop i links)) ≡ w → linked_all s (link_of link ∷ map link_of (drop (i + 1) links)) ≡ w
  next_link s w e = ap (λ ls. linked_all s (map link_of ls)) (sym (left_cons links i link lt is)) ∙ e
