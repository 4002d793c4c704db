-- How the readers of chains and of strategies go on.
use Rattle.std.proofs.Common.{◌≡◌, ◌++◌, ◌<◌, Bool, ℕ, List, [], ◌∷◌, length, drop, true, false, refl, sym, ap, ◌∙◌, append_assoc, append-nil}
use Rattle.mp_words.specs.declared.word.Word.{Word}
use Rattle.mp_words.specs.declared.word.Keyword.TheVariants as keyword
use Rattle.mp_words.specs.Grammars.{Parse, fronted, pair, read, repeated, stuck, then_read, which}
use Rattle.mp_words.specs.Fronts.{front_at, is_word}
use Rattle.mp_words.proofs.Steps.{RepeatedLeft, repeated_done, repeated_more, repeated_start, repeated_stuck}
use Rattle.mp_scripttext.specs.declared.raw.RawStrategy.{RawStrategy}
use Rattle.mp_scripttext.specs.declared.raw.RawLink.{RawLink, OrElse}
use Rattle.mp_scripttext.specs.declared.raw.RawAtom.{RawAtom}
use Rattle.mp_scripttext.specs.Grammar.{atom, begins_link, chain, chain_of, link, other, strategy, with_links}
use Rattle.mp_scripttext.proofs.StrategyUnfolds.{strategy_unfolds}

-- ## Chains

-- behind the first atom of a chain and these links its reading goes on here
pub record ChainLeft (first : RawAtom) (links : List RawLink) (at ts : List Word) : Type 0 where
  pub behind : List Word
  pub begins : atom ts ≡ read first behind
  pub left : RepeatedLeft begins_link link links at behind

pub chain_begins : (first : RawAtom) (links : List RawLink) (ts us : List Word) → links ≡ [] → atom ts ≡ read first us → ChainLeft first links us ts
chain_begins first links ts us e h = record { behind = us; begins = h; left = repeated_start begins_link link links us e }

abbrev of_atom : List Word → Parse Word RawAtom → Parse Word RawStrategy
of_atom ts o = then_read (then_read (then_read o (λ x us. then_read (repeated begins_link link us) (λ y vs. read (pair x y) vs))) (λ x us. read (pair (front_at ts) x) us)) (λ x us. read (chain_of x) us)

abbrev of_links : List Word → RawAtom → Parse Word (List RawLink) → Parse Word RawStrategy
of_links ts first o = then_read (then_read (then_read o (λ y vs. read (pair first y) vs)) (λ x us. read (pair (front_at ts) x) us)) (λ x us. read (chain_of x) us)

pub chain_no_atom : (ts rest : List Word) → atom ts ≡ stuck rest → chain ts ≡ stuck rest
chain_no_atom ts rest h = ap (of_atom ts) h

module _ (first : RawAtom) (links : List RawLink) (at ts : List Word) (k : ChainLeft first links at ts) where
  pub chain_done : (place : ℕ) → place ≡ front_at ts → begins_link at ≡ false → chain ts ≡ read (record { at = place; first = first; links = links }) at
  chain_done place here e =
      ap (of_atom ts) k.begins ∙ ap (of_links ts first) (repeated_done begins_link link links at k.behind k.left e) ∙ (λ i. read (record { at = sym here i; first = first; links = links }) at)

  pub chain_no_link : (rest : List Word) → begins_link at ≡ true → link at ≡ stuck rest → chain ts ≡ stuck rest
  chain_no_link rest b h = ap (of_atom ts) k.begins ∙ ap (of_links ts first) (repeated_stuck begins_link link links at k.behind rest k.left b h)

  pub chain_goes_on : (now : List RawLink) (x : RawLink) (us : List Word) → now ≡ links ++ x ∷ [] → begins_link at ≡ true → link at ≡ read x us → length us < length at → ChainLeft first now us ts
  chain_goes_on now x us n b h l = record { behind = k.behind; begins = k.begins; left = repeated_more begins_link link links at k.behind now x us k.left n b h l }

-- ## Strategies

-- behind a chain and further ones, which make this strategy, its reading goes on here
pub record StrategyLeft (whole : RawStrategy) (at ts : List Word) : Type 0 where
  pub first : RawStrategy
  pub others : List RawLink
  pub behind : List Word
  pub is : whole ≡ with_links (first, others)
  pub begins : chain ts ≡ read first behind
  pub left : RepeatedLeft (fronted (is_word keyword.OrElse)) other others at behind

pub strategy_begins : (s : RawStrategy) (ts us : List Word) → chain ts ≡ read s us → StrategyLeft s us ts
strategy_begins s ts us h = record {
  first = s;
  others = [];
  behind = us;
  is = (λ i. record { at = s.at; first = s.first; links = sym (append-nil s.links) i });
  begins = h;
  left = repeated_start (fronted (is_word keyword.OrElse)) other [] us refl;
}

abbrev of_chain : Parse Word RawStrategy → Parse Word RawStrategy
of_chain o = then_read (then_read o (λ x us. then_read (repeated (fronted (is_word keyword.OrElse)) other us) (λ y vs. read (pair x y) vs))) (λ x us. read (with_links x) us)

abbrev of_others : RawStrategy → Parse Word (List RawLink) → Parse Word RawStrategy
of_others first o = then_read (then_read o (λ y vs. read (pair first y) vs)) (λ x us. read (with_links x) us)

pub strategy_no_chain : (ts rest : List Word) → chain ts ≡ stuck rest → strategy ts ≡ stuck rest
strategy_no_chain ts rest h = strategy_unfolds ts ∙ ap of_chain h

module _ (s : RawStrategy) (at ts : List Word) (k : StrategyLeft s at ts) where
  abbrev begins_other : List Word → Bool
  begins_other = fronted (is_word keyword.OrElse)

  pub strategy_done : fronted (is_word keyword.OrElse) at ≡ false → strategy ts ≡ read s at
  strategy_done e =
      strategy_unfolds ts ∙ ap of_chain k.begins ∙ ap (of_others k.first) (repeated_done begins_other other k.others at k.behind k.left e) ∙ ap (λ x. read x at) (sym k.is)

  module _ (us : List Word) (t : fronted (is_word keyword.OrElse) at ≡ true) (e : us ≡ drop 1 at) where
    abbrev of_other : Parse Word RawStrategy → Parse Word RawLink
    of_other o = then_read o (λ x us. read (OrElse x) us)

    behind_word : other at ≡ of_other (chain us)
    behind_word = ap (λ b. which b (of_other (chain (drop 1 at))) (stuck at)) t ∙ ap (λ vs. of_other (chain vs)) (sym e)

    pub strategy_no_other : (rest : List Word) → chain us ≡ stuck rest → strategy ts ≡ stuck rest
    strategy_no_other rest h =
        strategy_unfolds ts ∙ ap of_chain k.begins ∙ ap (of_others k.first) (repeated_stuck begins_other other k.others at k.behind rest k.left t (behind_word ∙ ap of_other h))

    pub strategy_goes_on : (now : RawStrategy) (x : RawStrategy) (vs : List Word) → now.at ≡ s.at → now.first ≡ s.first → now.links ≡ s.links ++ OrElse x ∷ [] → chain us ≡ read x vs → length vs < length at → StrategyLeft now vs ts
    strategy_goes_on now x vs a f n h l = record {
      first = k.first;
      others = k.others ++ OrElse x ∷ [];
      behind = k.behind;
      is = (λ i. record {
        at = (a ∙ ap (λ (r : RawStrategy). r.at) k.is) i;
        first = (f ∙ ap (λ (r : RawStrategy). r.first) k.is) i;
        links = (n ∙ ap (λ (r : RawStrategy). r.links ++ OrElse x ∷ []) k.is ∙ append_assoc k.first.links k.others (OrElse x ∷ [])) i;
      });
      begins = k.begins;
      left = repeated_more begins_other other k.others at k.behind (k.others ++ OrElse x ∷ []) (OrElse x) vs k.left refl t (behind_word ∙ ap of_other h) l;
    }
