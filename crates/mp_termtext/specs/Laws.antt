-- What terms and sequents are as they are written, by cases. Each law holds at any words: the one grammar reads there what the other
-- reads, or is stuck where the other is stuck.
use Rattle.std.specs.Prelude.{◌≡◌, List, []}
use Rattle.mp_words.specs.declared.word.Word.{Word}
use Rattle.mp_words.specs.declared.word.Mark.{Mark}
use Rattle.mp_words.specs.declared.word.Mark.TheVariants as mark
use Rattle.mp_words.specs.Grammars.{Grammar, after, both, choose, form, made, nothing, optional, or_word, put, row, token}
use Rattle.mp_words.specs.Fronts.{a_name, is_mark, with_place}
use Rattle.mp_termtext.specs.declared.raw.RawHyp.{RawHyp}
use Rattle.mp_termtext.specs.Grammar.{begins_binders, binders, bound, bound_of, bounds_by, hyp, hyps, operator_of, param_at, params, sequent, sequent_of, some_binders, some_params, subs_by, term, variable_at}

-- two grammars read the same of any words, or are stuck at the same place
abbrev pub Reads : {X : Type 0} → Grammar Word X → Grammar Word X → Type 0
Reads g h = (ts : List Word) → g ts ≡ h ts

-- items are an item, and behind it the end; or an item, the separator and items
abbrev pub AreItems : {X : Type 0} → Grammar Word (List X) → Grammar Word X → Mark → Mark → Type 0
AreItems items item sep end = Reads items (made put (both item (form (is_mark end) (nothing []) (after (is_mark sep) items))))

-- a term is a variable; or a name, parameters and subterms
abbrev pub TermByCases : Type 0
TermByCases = Reads term (or_word variable_at (made operator_of (both a_name (both params (subs_by term)))))

-- parameters are none, or `[` and then once or more a number or a string, with `;` between, and `]`
abbrev pub ParamsByCases : Type 0
ParamsByCases = Reads params (optional (is_mark mark.OpenBracket) [] some_params) × AreItems some_params (token param_at) mark.Semicolon mark.CloseBracket

-- subterms are none, or `{` and then once or more a term after its binders, with `;` between, and `}`
abbrev pub SubsByCases : Type 0
SubsByCases = Reads (subs_by term) (optional (is_mark mark.OpenBrace) [] (bounds_by term)) × AreItems (bounds_by term) bound mark.Semicolon mark.CloseBrace

-- a subterm is a term after its binders; these are none, or, where a name stands before `,` or `.`, once or more a name, with `,` between, and `.`
abbrev pub BoundByCases : Type 0
BoundByCases = Reads bound (made bound_of (both binders term)) × Reads binders (choose begins_binders some_binders (nothing [])) × AreItems some_binders a_name mark.Comma mark.Dot

-- hypotheses before `>-`
abbrev pub some_hyps : Grammar Word (List RawHyp)
some_hyps = row hyp (is_mark mark.Semicolon) (is_mark mark.Turnstile)

-- a sequent is hypotheses and a term; the hypotheses are `>-` at once, or once or more a hypothesis, with `;` between, and `>-`
abbrev pub SequentByCases : Type 0
SequentByCases = Reads sequent (made sequent_of (with_place (both hyps term))) × Reads hyps (form (is_mark mark.Turnstile) (nothing []) some_hyps) × AreItems some_hyps hyp mark.Semicolon mark.Turnstile
