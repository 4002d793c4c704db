-- The grammar of patterns, over words.
--   pat = SmallVar | CapVar ctxs? args? | Small pparams? psubs?     ctxs = < Cap (; Cap)* >     args = [ pat (; pat)* ]
--   pparams = [ pparam (; pparam)* ]     pparam = Num | Str | @ Small     psubs = { pbound (; pbound)* }     pbound = binders? pat
use Rattle.std.specs.Prelude.{ℕ, List, [], Option, None, Some}
use Rattle.mp_words.specs.declared.word.What.{What}
use Rattle.mp_words.specs.declared.word.Word.{Word}
use Rattle.mp_words.specs.declared.raw.RawName.{RawName}
use Rattle.mp_words.specs.Grammars.{Grammar, after, both, choose, fronted, itself, made, optional, or_word, row, stands, token}
use Rattle.mp_words.specs.Fronts.{a_capital, a_capital_variable, a_name, capital_variable_at, is_mark, with_place}
use Rattle.mp_termtext.specs.declared.raw.RawParam.{RawParam}
use Rattle.mp_termtext.specs.Grammar.{binders, param_at}
use Rattle.mp_patterntext.specs.declared.raw.RawParamPat.{RawParamPat}
use Rattle.mp_patterntext.specs.declared.raw.RawParamPat.TheVariants.{Lit, Hole}
use Rattle.mp_patterntext.specs.declared.raw.RawPatternBound.{RawPatternBound}
use Rattle.mp_patterntext.specs.declared.raw.RawPattern.{RawPattern, Var, Op, Meta}
use Rattle.mp_words.specs.declared.word.What.TheVariants as what
use Rattle.mp_words.specs.declared.word.Mark.TheVariants as mark

-- ## Parts

-- the literal that a parameter is
abbrev pub raw_literal : RawParam → RawParamPat
raw_literal p = Lit p

-- a hole, of the place of its @ and its name
abbrev pub raw_hole : ℕ × RawName → RawParamPat
raw_hole (at, name) = Hole name at

-- @ and a name
abbrev pub hole : Grammar Word RawParamPat
hole = made raw_hole (with_place (after (is_mark mark.At) a_name))

-- a hole, or a number or a string
abbrev pub param_pat : Grammar Word RawParamPat
param_pat = choose (fronted (is_mark mark.At)) hole (made raw_literal (token param_at))

-- [ pparam (; pparam)* ], or nothing
abbrev pub param_pats : Grammar Word (List RawParamPat)
param_pats = optional (is_mark mark.OpenBracket) [] (row param_pat (is_mark mark.Semicolon) (is_mark mark.CloseBracket))

-- < Cap (; Cap)* >, or nothing
abbrev pub contexts : Grammar Word (List RawName)
contexts = optional (is_mark mark.Less) [] (row a_capital (is_mark mark.Semicolon) (is_mark mark.Greater))

-- ## Patterns

-- a variable at a place, if what is written is one
abbrev pub written_pattern_variable : ℕ → What → Option RawPattern
written_pattern_variable at (what.SmallVar n k) = Some (Var n at)
written_pattern_variable at other = None

-- the variable that the word is
abbrev pub pattern_variable_at : Word → Option RawPattern
pattern_variable_at w = written_pattern_variable w.at w.what

-- a second-order variable, of its name, its contexts and its arguments
abbrev pub raw_meta : RawName × (List RawName × List RawPattern) → RawPattern
raw_meta (n, (cs, xs)) = Meta n.name cs xs n.at

-- an operator, of its name, its parameters and its subterms
abbrev pub raw_operator : RawName × (List RawParamPat × List RawPatternBound) → RawPattern
raw_operator (n, (ps, ks)) = Op n.name ps ks n.at

-- a subterm, of its binders and its body
abbrev pub raw_bound : List RawName × RawPattern → RawPatternBound
raw_bound p = record { binders = p.0; body = p.1 }

-- pat (; pat)* ]
abbrev pub args_by : Grammar Word RawPattern → Grammar Word (List RawPattern)
args_by g = row g (is_mark mark.Semicolon) (is_mark mark.CloseBracket)

-- [ pat (; pat)* ], or nothing
abbrev pub arguments_by : Grammar Word RawPattern → Grammar Word (List RawPattern)
arguments_by g = optional (is_mark mark.OpenBracket) [] (args_by g)

-- binders where they begin, and a pattern
abbrev pub pattern_bound_by : Grammar Word RawPattern → Grammar Word RawPatternBound
pattern_bound_by g = made raw_bound (both binders g)

-- pbound (; pbound)* }
abbrev pub pattern_bounds_by : Grammar Word RawPattern → Grammar Word (List RawPatternBound)
pattern_bounds_by g = row (pattern_bound_by g) (is_mark mark.Semicolon) (is_mark mark.CloseBrace)

-- { pbound (; pbound)* }, or nothing
abbrev pub pattern_subs_by : Grammar Word RawPattern → Grammar Word (List RawPatternBound)
pattern_subs_by g = optional (is_mark mark.OpenBrace) [] (pattern_bounds_by g)

-- CapVar ctxs? args?
abbrev pub second_order_by : Grammar Word RawPattern → Grammar Word RawPattern
second_order_by g = made raw_meta (both a_capital_variable (both contexts (arguments_by g)))

-- Small pparams? psubs?
abbrev pub pattern_operator_by : Grammar Word RawPattern → Grammar Word RawPattern
pattern_operator_by g = made raw_operator (both a_name (both param_pats (pattern_subs_by g)))

-- the three forms of a pattern, over a grammar of patterns
abbrev pub pattern_by : Grammar Word RawPattern → Grammar Word RawPattern
pattern_by g = or_word pattern_variable_at (choose (stands capital_variable_at) (second_order_by g) (pattern_operator_by g))

-- a variable, a second-order variable with its contexts and arguments, or a name with its parameters and subterms
unfoldable pub pattern : Grammar Word RawPattern
pattern = itself pattern_by
