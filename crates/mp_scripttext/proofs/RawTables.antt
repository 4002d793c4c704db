-- What written strategies stand for are tables.
use Rattle.std.proofs.Common.{List, [], ◌∷◌, map, sym, subst}
use Rattle.std.proofs.lemmas.List.{length-map}
use Rattle.mp_scripttext.specs.declared.raw.RawPrefix.{RawPrefix}
use Rattle.mp_scripttext.specs.declared.raw.RawStrategy.{RawStrategy, RawStrategy-F}
use Rattle.mp_scripttext.specs.declared.raw.RawLink.{RawLink, RawLink-F, ThenL, ind-RawLink, roll-RawLink, map-RawLink}
use Rattle.mp_scripttext.specs.declared.raw.RawLink.TheVariants.{rolls-Then, rolls-ThenL, rolls-OrElse}
use Rattle.mp_scripttext.specs.declared.raw.RawAtom.{RawAtom, RawAtom-F, Race, Prefix, ind-RawAtom, roll-RawAtom, map-RawAtom}
use Rattle.mp_scripttext.specs.declared.raw.RawAtom.TheVariants.{rolls-Id, rolls-Fail, rolls-Step, rolls-Race, rolls-Prefix, rolls-Group}
use Rattle.mp_scripttext.specs.declared.raw.RawAtom.TheOpen as layer
use Rattle.mp_scripttext.specs.Strategies.{atom_strategy, link_of, prefix_faults, prefix_link, strategy_of}
use Rattle.mp_scripttext.proofs.Tables.{AreTables, IsTable, step_table}
use Rattle.mp_scripttext.proofs.Links.{AreLinks, IsLink, else_is_link, fail_table, id_table, linked_all_table, linked_table, prefix_is_link, race_table, then_is_link, then_list_is_link}
use Rattle.mp_scripttext.proofs.RawLayers.{atom-Fail, atom-Group, atom-Id, atom-Prefix, atom-Race, atom-Step, link-OrElse, link-Then, link-ThenL, strategy-is}

abbrev AtomTable : RawAtom → Type 0
AtomTable a = IsTable (atom_strategy a)

abbrev LinkTable : RawLink → Type 0
LinkTable l = IsLink [] (link_of l)

abbrev StrategyTable : RawStrategy → Type 0
StrategyTable s = IsTable (strategy_of s)

abbrev KnownAtom : Type 0
KnownAtom = (a : RawAtom) × AtomTable a

abbrev KnownLink : Type 0
KnownLink = (l : RawLink) × LinkTable l

abbrev KnownStrategy : Type 0
KnownStrategy = (s : RawStrategy) × StrategyTable s

all_known : (ss : List KnownStrategy) → AreTables (map strategy_of (map (λ e. e.0) ss))
all_known [] = tt
all_known (s ∷ ss) = (s.1, all_known ss)

links_known : (ls : List KnownLink) → AreLinks (map link_of (map (λ e. e.0) ls))
links_known [] = tt
links_known (l ∷ ls) = (l.1, links_known ls)

race_is : (ss : List RawStrategy) → AreTables (map strategy_of ss) → AtomTable (Race ss)
race_is ss ts = subst IsTable (sym (atom-Race ss)) (race_table (λ (s : RawStrategy). s.at) ss (map strategy_of ss) (length-map ss strategy_of) ts)

prefix_is : (p : RawPrefix) (a : RawAtom) → AtomTable a → AtomTable (Prefix p a)
prefix_is p a t = subst IsTable (sym (atom-Prefix p a)) (linked_table (prefix_faults p) (atom_strategy a) (prefix_link p) t (prefix_is_link p))

list_is : (ss : List RawStrategy) → AreTables (map strategy_of ss) → LinkTable (ThenL ss)
list_is ss ts = subst (IsLink []) (sym (link-ThenL ss)) (then_list_is_link (map strategy_of ss) ts)

by_atom : (y : RawAtom-F KnownAtom KnownLink KnownStrategy) → AtomTable (roll-RawAtom (map-RawAtom KnownAtom KnownLink KnownStrategy RawAtom RawLink RawStrategy (λ e. e.0) (λ e. e.0) (λ e. e.0) y))
by_atom layer.Id = subst AtomTable (sym rolls-Id) (subst IsTable (sym atom-Id) id_table)
by_atom layer.Fail = subst AtomTable (sym rolls-Fail) (subst IsTable (sym atom-Fail) fail_table)
by_atom (layer.Step s) = subst AtomTable (sym (rolls-Step s)) (subst IsTable (sym (atom-Step s)) (step_table s))
by_atom (layer.Race ss) = subst AtomTable (sym (rolls-Race (map (λ e. e.0) ss))) (race_is (map (λ e. e.0) ss) (all_known ss))
by_atom (layer.Prefix p a) = subst AtomTable (sym (rolls-Prefix p a.0)) (prefix_is p a.0 a.1)
by_atom (layer.Group s) = subst AtomTable (sym (rolls-Group s.0)) (subst IsTable (sym (atom-Group s.0)) s.1)

by_link : (y : RawLink-F KnownAtom KnownLink KnownStrategy) → LinkTable (roll-RawLink (map-RawLink KnownAtom KnownLink KnownStrategy RawAtom RawLink RawStrategy (λ e. e.0) (λ e. e.0) (λ e. e.0) y))
by_link (layer.Then a) = subst LinkTable (sym (rolls-Then a.0)) (subst (IsLink []) (sym (link-Then a.0)) (then_is_link (atom_strategy a.0) a.1))
by_link (layer.ThenL ss) = subst LinkTable (sym (rolls-ThenL (map (λ e. e.0) ss))) (list_is (map (λ e. e.0) ss) (all_known ss))
by_link (layer.OrElse s) = subst LinkTable (sym (rolls-OrElse s.0)) (subst (IsLink []) (sym (link-OrElse s.0)) (else_is_link (strategy_of s.0) s.1))

strategy_is : (s : RawStrategy) → AtomTable s.first → AreLinks (map link_of s.links) → StrategyTable s
strategy_is s a ls = subst IsTable (sym (strategy-is s)) (linked_all_table (atom_strategy s.first) (map link_of s.links) a ls)

by_strategy : (y : RawStrategy-F KnownAtom KnownLink KnownStrategy) → StrategyTable (record { at = y.at; first = y.first.0; links = map (λ e. e.0) y.links })
by_strategy y = strategy_is (record { at = y.at; first = y.first.0; links = map (λ e. e.0) y.links }) y.first.1 (links_known y.links)

pub atom_table : (a : RawAtom) → IsTable (atom_strategy a)
atom_table =
    ind-RawAtom AtomTable LinkTable StrategyTable (λ x y is. subst (λ z. AtomTable (roll-RawAtom z)) is (by_atom y)) (λ x y is. subst (λ z. LinkTable (roll-RawLink z)) is (by_link y))
    (λ x y is. subst (λ (z : RawStrategy-F RawAtom RawLink RawStrategy). StrategyTable (record { at = z.at; first = z.first; links = z.links })) is (by_strategy y))

pub link_table : (l : RawLink) → IsLink [] (link_of l)
link_table =
    ind-RawLink AtomTable LinkTable StrategyTable (λ x y is. subst (λ z. AtomTable (roll-RawAtom z)) is (by_atom y)) (λ x y is. subst (λ z. LinkTable (roll-RawLink z)) is (by_link y))
    (λ x y is. subst (λ (z : RawStrategy-F RawAtom RawLink RawStrategy). StrategyTable (record { at = z.at; first = z.first; links = z.links })) is (by_strategy y))

pub strategy_table : (s : RawStrategy) → IsTable (strategy_of s)
strategy_table s = strategy_is s (atom_table s.first) (all_links s.links)
  where
    all_links : (ls : List RawLink) → AreLinks (map link_of ls)
    all_links [] = tt
    all_links (l ∷ ls) = (link_table l, all_links ls)
