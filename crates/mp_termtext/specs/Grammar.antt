-- The grammars of terms and of sequents, over words.
--   term = SmallVar | Small params? subs?     params = [ param (; param)* ]     param = Num | Str
--   subs = { bound (; bound)* }     bound = binders? term     binders = Small (, Small)* .
--   sequent = hyps? >- term     hyps = hyp (; hyp)*     hyp = Small : term
use Rattle.std.specs.Prelude.{ℕ, List, [], drop, Option, None, Some, Bool, ◌&&◌, ◌||◌}
use Rattle.mp_term.specs.declared.term.Param.TheVariants.{Num, Str}
use Rattle.mp_words.specs.declared.word.What.{What}
use Rattle.mp_words.specs.declared.word.What.TheVariants as what
use Rattle.mp_words.specs.declared.word.Word.{Word}
use Rattle.mp_words.specs.declared.word.Mark.TheVariants as mark
use Rattle.mp_words.specs.declared.raw.RawName.{RawName}
use Rattle.mp_termtext.specs.declared.raw.RawParam.{RawParam}
use Rattle.mp_termtext.specs.declared.raw.RawBound.{RawBound}
use Rattle.mp_termtext.specs.declared.raw.RawTerm.{RawTerm, Var, Op}
use Rattle.mp_termtext.specs.declared.raw.RawHyp.{RawHyp}
use Rattle.mp_termtext.specs.declared.raw.RawSequent.{RawSequent}
use Rattle.mp_words.specs.Grammars.{Grammar, Is, Stuck, after, both, choose, fronted, itself, listed, made, nothing, optional, or_word, row, stands, token}
use Rattle.mp_words.specs.Fronts.{a_name, is_mark, name_at, with_place}

-- a variable at a place, if what is written is one
abbrev pub written_variable : ℕ → What → Option RawTerm
written_variable at (what.SmallVar n k) = Some (Var n k at)
written_variable at other = None

-- the variable that the word is
abbrev pub variable_at : Word → Option RawTerm
variable_at w = written_variable w.at w.what

-- a parameter at a place, if what is written is a number or a string
abbrev pub written_param : ℕ → What → Option RawParam
written_param at (what.Num n) = Some (record { value = Num n; at = at })
written_param at (what.Str s) = Some (record { value = Str s; at = at })
written_param at other = None

-- the number or the string that the word is
abbrev pub param_at : Word → Option RawParam
param_at w = written_param w.at w.what

-- param (; param)* ]
abbrev pub some_params : Grammar Word (List RawParam)
some_params = row (token param_at) (is_mark mark.Semicolon) (is_mark mark.CloseBracket)

-- [ param (; param)* ], or nothing
abbrev pub params : Grammar Word (List RawParam)
params = optional (is_mark mark.OpenBracket) [] some_params

-- a name begins binders exactly where `,` or `.` follows
abbrev pub begins_binders : List Word → Bool
begins_binders ts = stands name_at ts && (fronted (is_mark mark.Comma) (drop 1 ts) || fronted (is_mark mark.Dot) (drop 1 ts))

-- name (, name)* .
abbrev pub some_binders : Grammar Word (List RawName)
some_binders = row a_name (is_mark mark.Comma) (is_mark mark.Dot)

-- binders where they begin, else none
abbrev pub binders : Grammar Word (List RawName)
binders = choose begins_binders some_binders (nothing [])

-- a subterm, of its binders and its body
abbrev pub bound_of : List RawName × RawTerm → RawBound
bound_of p = record { binders = p.0; body = p.1 }

-- an operator, of its name, its parameters and its subterms
abbrev pub operator_of : RawName × (List RawParam × List RawBound) → RawTerm
operator_of p = Op p.0.name p.1.0 p.1.1 p.0.at

-- a hypothesis, of its name and its term
abbrev pub hyp_of : RawName × RawTerm → RawHyp
hyp_of p = record { name = p.0.name; term = p.1; at = p.0.at }

-- a sequent, of its place, its hypotheses and its conclusion
abbrev pub sequent_of : ℕ × (List RawHyp × RawTerm) → RawSequent
sequent_of p = record { hyps = p.1.0; concl = p.1.1; at = p.0 }

-- binders where they begin, and a term
abbrev pub bound_by : Grammar Word RawTerm → Grammar Word RawBound
bound_by g = made bound_of (both binders g)

-- bound (; bound)* }
abbrev pub bounds_by : Grammar Word RawTerm → Grammar Word (List RawBound)
bounds_by g = row (bound_by g) (is_mark mark.Semicolon) (is_mark mark.CloseBrace)

-- { bound (; bound)* }, or nothing
abbrev pub subs_by : Grammar Word RawTerm → Grammar Word (List RawBound)
subs_by g = optional (is_mark mark.OpenBrace) [] (bounds_by g)

-- name params? subs?
abbrev pub operator_by : Grammar Word RawTerm → Grammar Word RawTerm
operator_by g = made operator_of (both a_name (both params (subs_by g)))

-- the two forms of a term, over a grammar of terms
abbrev pub term_by : Grammar Word RawTerm → Grammar Word RawTerm
term_by g = or_word variable_at (operator_by g)

-- a variable, or a name with its parameters and subterms
unfoldable pub term : Grammar Word RawTerm
term = itself term_by

-- a term behind its binders
abbrev pub bound : Grammar Word RawBound
bound = bound_by term

-- name : term
abbrev pub hyp : Grammar Word RawHyp
hyp = made hyp_of (both a_name (after (is_mark mark.Colon) term))

-- the hypotheses and `>-`, or `>-` at once
abbrev pub hyps : Grammar Word (List RawHyp)
hyps = listed hyp (is_mark mark.Semicolon) (is_mark mark.Turnstile)

-- hypotheses, >- and the conclusion
abbrev pub sequent : Grammar Word RawSequent
sequent = made sequent_of (with_place (both hyps term))

-- the term stands at the front of the words, and these are left
abbrev pub IsTerm : RawTerm → List Word → List Word → Type 0
IsTerm = Is term

-- a reading of a term ends at the first of these words
abbrev pub StuckTerm : List Word → List Word → Type 0
StuckTerm = Stuck term

-- the term with its binders stands at the front of the words, and these are left
abbrev pub IsBound : RawBound → List Word → List Word → Type 0
IsBound = Is bound

-- a reading of a term with its binders ends at the first of these words
abbrev pub StuckBound : List Word → List Word → Type 0
StuckBound = Stuck bound

-- the sequent stands at the front of the words, and these are left
abbrev pub IsSequent : RawSequent → List Word → List Word → Type 0
IsSequent = Is sequent

-- a reading of a sequent ends at the first of these words
abbrev pub StuckSequent : List Word → List Word → Type 0
StuckSequent = Stuck sequent
