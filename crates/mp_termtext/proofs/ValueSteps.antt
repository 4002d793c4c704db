-- Steps along the subterms and hypotheses that are built.
use Rattle.std.proofs.Common.{◌≡◌, ◌++◌, ◌+◌, ◌<◌, ℕ, List, [], ◌∷◌, ap, sym, ◌∙◌, append_assoc, map, drop, length, get_or}
use Rattle.mp_logic.specs.declared.sym.Sym.{Sym}
use Rattle.mp_term.specs.declared.term.Bound.{Bound}
use Rattle.mp_term.specs.declared.term.Term.{Term}
use Rattle.mp_termtext.specs.declared.raw.RawBound.{RawBound}
use Rattle.mp_termtext.specs.declared.raw.RawHyp.{RawHyp}
use Rattle.mp_termtext.specs.Values.{bound_value_of, each_subterm_value, hyps_value, value_of}
use Rattle.mp_words.proofs.Walks.{left_cons}

-- one subterm further
pub values_next : (free : ℕ) (ks : List RawBound) (i : ℕ) (k : RawBound) (b : Bound) (before after whole : List Bound) (env now : List Sym) → i < length ks → k ≡ get_or ks i k → now ≡ env → b ≡ bound_value_of free k now → after ≡ before ++ b ∷ []
    → before ++ each_subterm_value (map (bound_value_of free) (drop i ks)) env ≡ whole → after ++ each_subterm_value (map (bound_value_of free) (drop (i + 1) ks)) env ≡ whole
values_next free ks i k b before after whole env now lt is same built grown prev =
    let values = each_subterm_value (map (bound_value_of free) (drop (i + 1) ks)) env in
    let one : b ≡ bound_value_of free k env = built ∙ ap (bound_value_of free k) same in
    ap (λ bs. bs ++ values) grown ∙ append_assoc before (b ∷ []) values ∙ ap (λ v. before ++ v ∷ values) one
    ∙ ap (λ ss. before ++ each_subterm_value (map (bound_value_of free) ss) env) (sym (left_cons ks i k lt is)) ∙ prev

-- one hypothesis further
pub hyp_values_next : (hs : List RawHyp) (i : ℕ) (h : RawHyp) (t : Term) (before after whole : List Term) (env now names : List Sym) → i < length hs → h ≡ get_or hs i h → now ≡ env → names ≡ now ++ h.name ∷ [] → t ≡ value_of 0 h.term env → after ≡ before ++ t ∷ []
    → before ++ hyps_value (drop i hs) env ≡ whole → after ++ hyps_value (drop (i + 1) hs) names ≡ whole
hyp_values_next hs i h t before after whole env now names lt is same longer built grown prev =
    let rest = drop (i + 1) hs in
    let values = hyps_value rest (env ++ h.name ∷ []) in
    let bound : names ≡ env ++ h.name ∷ [] = longer ∙ ap (λ ns. ns ++ h.name ∷ []) same in
    ap (λ ns. after ++ hyps_value rest ns) bound ∙ ap (λ ts. ts ++ values) grown ∙ append_assoc before (t ∷ []) values ∙ ap (λ v. before ++ v ∷ values) built
    ∙ ap (λ ss. before ++ hyps_value ss env) (sym (left_cons hs i h lt is)) ∙ prev
