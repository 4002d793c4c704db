-- How terms are read by cases.
use Rattle.std.proofs.Common.{◌≡◌, ◌<◌, ◌≤◌, List, [], ◌∷◌, length, drop, arith, Option, None, Some, true, Result, Ok, Err, ap, sym, ◌∙◌}
use Rattle.mp_words.specs.declared.word.Word.{Word}
use Rattle.mp_words.specs.declared.raw.RawName.{RawName}
use Rattle.mp_words.specs.declared.word.Mark.TheVariants as mark
use Rattle.mp_words.specs.declared.parts.ReadFail.{ReadFail}
use Rattle.mp_words.specs.Fronts.{is_mark, name_at}
use Rattle.mp_words.specs.Reading.{Reads}
use Rattle.mp_words.specs.Grammars.{Grammar, Parse, read, stuck, both, fronted, then_read, pair, taken, which, word_or}
use Rattle.mp_words.proofs.Steps.{fails_on}
use Rattle.mp_termtext.specs.declared.raw.RawParam.{RawParam}
use Rattle.mp_termtext.specs.declared.raw.RawBound.{RawBound}
use Rattle.mp_termtext.specs.declared.raw.RawTerm.{RawTerm, Op}
use Rattle.mp_termtext.specs.Grammar.{bounds_by, operator_by, operator_of, params, subs_by, term, variable_at}
use Rattle.mp_termtext.proofs.TermUnfolds.{term_unfolds}

pub variable_is : (t : RawTerm) (ts rest : List Word) → taken variable_at ts ≡ Some t → rest ≡ drop 1 ts → term ts ≡ read t rest
variable_is t ts rest e r = term_unfolds ts ∙ ap (λ o. word_or o ts (operator_by term ts)) e ∙ ap (λ us. read t us) (sym r)

no_variable : (ts : List Word) → taken variable_at ts ≡ None → term ts ≡ operator_by term ts
no_variable ts e = term_unfolds ts ∙ ap (λ o. word_or o ts (operator_by term ts)) e

-- what is behind a name
abbrev behind_name : List Word → Parse Word (List RawParam × List RawBound)
behind_name us = both params (subs_by term) us

abbrev with_name : List Word → Option RawName → Parse Word RawTerm
with_name ts o = then_read (then_read (word_or o ts (stuck ts)) (λ n us. then_read (behind_name us) (λ q vs. read (pair n q) vs))) (λ p us. read (operator_of p) us)

pub no_name : (ts : List Word) → taken variable_at ts ≡ None → taken name_at ts ≡ None → term ts ≡ stuck ts
no_name ts v e = no_variable ts v ∙ ap (with_name ts) e

abbrev named : RawName → Parse Word (List RawParam × List RawBound) → Parse Word RawTerm
named n o = then_read (then_read o (λ q vs. read (pair n q) vs)) (λ p us. read (operator_of p) us)

module _ (n : RawName) (ts us : List Word) (v : taken variable_at ts ≡ None) (e : taken name_at ts ≡ Some n) (r : us ≡ drop 1 ts) where
  name_then : term ts ≡ named n (behind_name us)
  name_then = no_variable ts v ∙ ap (with_name ts) e ∙ ap (λ ws. named n (behind_name ws)) (sym r)

  abbrev params_then : Parse Word (List RawParam) → Parse Word RawTerm
  params_then o = named n (then_read o (λ ps vs. then_read (subs_by term vs) (λ ks ws. read (pair ps ks) ws)))

  pub in_params : (rest : List Word) → params us ≡ stuck rest → term ts ≡ stuck rest
  in_params rest h = name_then ∙ ap params_then h

  module _ (ps : List RawParam) (vs : List Word) (h : params us ≡ read ps vs) where
    abbrev subs_then : Parse Word (List RawBound) → Parse Word RawTerm
    subs_then o = named n (then_read o (λ ks ws. read (pair ps ks) ws))

    pub in_subs : (rest : List Word) → subs_by term vs ≡ stuck rest → term ts ≡ stuck rest
    in_subs rest k = name_then ∙ ap params_then h ∙ ap subs_then k

    pub operator_is : (ks : List RawBound) (rest : List Word) → subs_by term vs ≡ read ks rest → term ts ≡ read (Op n.name ps ks n.at) rest
    operator_is ks rest k = name_then ∙ ap params_then h ∙ ap subs_then k

-- subterms in braces are those behind the brace
pub subs_behind : (ts us : List Word) → fronted (is_mark mark.OpenBrace) ts ≡ true → us ≡ drop 1 ts → subs_by term ts ≡ bounds_by term us
subs_behind ts us t r = ap (λ b. which b (bounds_by term (drop 1 ts)) (read [] ts)) t ∙ ap (bounds_by term) (sym r)

-- what is read or stuck here as the one is so there as the other
pub reads_as : {X Y : Type 0} (view : X → Y × List Word) (g h : Grammar Word Y) (ts us : List Word) → g ts ≡ h us → (r : Result X ReadFail) → Reads view h us r → Reads view g ts r
reads_as view g h ts us e (Ok x) p = e ∙ p
reads_as view g h ts us e (Err f) p = fails_on (h us) (g ts) (λ rest q. e ∙ q) f p

pub shorter_name : (n : RawName) (ts us vs ws : List Word) → taken name_at ts ≡ Some n → us ≡ drop 1 ts → length vs ≤ length us → length ws ≤ length vs → length ws < length ts
shorter_name n [] us vs ws e r l m = let f = e in absurd cc
shorter_name n (t ∷ ts) us vs ws e r l m = let f = ap length r in omega (arith, f, l, m)
