-- The one text of a term and of a sequent.
use Rattle.std.specs.Prelude.{ℕ, zero, suc, ◌+◌, ◌++◌, List, [], ◌∷◌, map, length, codes, nat_eq, ◌||◌, if◌then◌else◌}
use Rattle.std.specs.Fmt.{decimal, signed_decimal}
use Rattle.mp_names.specs.Table.{text_of}
use Rattle.mp_term.specs.declared.term.Param.{Param}
use Rattle.mp_term.specs.declared.term.Param.TheVariants.{Num, Str}
use Rattle.mp_term.specs.declared.term.Term.{Term, Term-F}
use Rattle.mp_term.specs.declared.term.Bound.{Bound, Bound-F, fold-Bound}
use Rattle.mp_term.specs.declared.term.Term.TheOpen as layer
use Rattle.mp_term.specs.declared.term.Term.TheFolds.{fold-Term}
use Rattle.mp_term.specs.declared.sequent.Sequent.{Sequent}

-- the name of the variable of a level: levels are counted from 0, and names from 1
abbrev pub name_text : ℕ → List ℕ
name_text level = codes "x" ++ decimal (level + 1)

-- the rest of a list of which something is printed: each text with `; ` before it, and then what stands after the list
abbrev pub further_text : List ℕ → List (List ℕ) → List ℕ
further_text behind [] = behind
further_text behind (t ∷ ts) = codes "; " ++ t ++ further_text behind ts

-- a list between what stands before and after it, with `; ` between its texts; nothing if it has none
abbrev pub list_text : List ℕ → List ℕ → List (List ℕ) → List ℕ
list_text before behind [] = []
list_text before behind (t ∷ ts) = before ++ t ++ further_text behind ts

-- `"` and `\` are written after a `\`
abbrev pub escaped : List ℕ → List ℕ
escaped [] = []
escaped (b ∷ bs) = (if nat_eq b 34 || nat_eq b 92 then 92 ∷ b ∷ [] else b ∷ []) ++ escaped bs

-- a string between quotes
abbrev pub quoted : List ℕ → List ℕ
quoted text = 34 ∷ [] ++ escaped text ++ 34 ∷ []

-- a parameter: a number in decimal, or a string
abbrev pub param_text : List (List ℕ) → Param → List ℕ
param_text names (Num n) = signed_decimal n
param_text names (Str sym) = quoted (text_of names sym.0)

-- the rest of some binders, so many from this level on
abbrev pub further_binders_text : ℕ → ℕ → List ℕ
further_binders_text level zero = codes ". "
further_binders_text level (suc n) = codes ", " ++ name_text level ++ further_binders_text (level + 1) n

-- the text of so many binders from this level on
abbrev pub binders_text : ℕ → ℕ → List ℕ
binders_text level zero = []
binders_text level (suc n) = name_text level ++ further_binders_text (level + 1) n

-- what is printed where so many variables are in scope
abbrev pub ScopedText : Type 0
ScopedText = ℕ → List ℕ

-- what is printed, where so many variables are in scope
abbrev pub text_at_scope : ℕ → ScopedText → List ℕ
text_at_scope scope text = text scope

-- the text of a variable or an operator, by the texts of its subterms
abbrev pub term_step : List (List ℕ) → Term-F ScopedText ScopedText → ScopedText
term_step names (layer.Var level) scope = codes "'" ++ name_text level
term_step names (layer.Op op params subs) scope =
    text_of names op.0 ++ list_text (codes "[") (codes "]") (map (param_text names) params) ++ list_text (codes "{") (codes "}") (map (text_at_scope scope) subs)

-- the text of a subterm, by the text of its body
abbrev pub bound_step : Bound-F ScopedText ScopedText → ScopedText
bound_step b scope = binders_text scope b.binders ++ b.body (scope + b.binders)

-- a term where so many variables are in scope: `'x3`, or an operator with its parameters and subterms
abbrev pub term_text : List (List ℕ) → Term → ℕ → List ℕ
term_text names = fold-Term ScopedText ScopedText (term_step names) bound_step

-- a subterm after its binders, which are the next levels
abbrev pub bound_text : List (List ℕ) → Bound → ℕ → List ℕ
bound_text names = fold-Bound ScopedText ScopedText (term_step names) bound_step

-- a hypothesis that is the variable of this level, in the scope of those before it
abbrev pub hyp_text : List (List ℕ) → ℕ → Term → List ℕ
hyp_text names level t = name_text level ++ codes ": " ++ term_text names t level

-- the rest of some hypotheses, the first of them of this level
abbrev pub further_hyps_text : List (List ℕ) → ℕ → List Term → List ℕ
further_hyps_text names level [] = codes " "
further_hyps_text names level (t ∷ ts) = codes "; " ++ hyp_text names level t ++ further_hyps_text names (level + 1) ts

-- the hypotheses and a space; nothing if there are none
abbrev pub hyps_text : List (List ℕ) → List Term → List ℕ
hyps_text names [] = []
hyps_text names (t ∷ ts) = hyp_text names 0 t ++ further_hyps_text names 1 ts

-- a sequent
abbrev pub sequent_text : List (List ℕ) → Sequent → List ℕ
sequent_text names s = hyps_text names s.hyps ++ codes ">- " ++ term_text names s.concl (length s.hyps)
