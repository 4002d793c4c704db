-- The grammar of theories, over words.
--   theory = (rule | rewrite)*     rewrite = "rewrite" Small : (pat (& pat)* -->)? pat <-> pat
use Rattle.std.specs.Prelude.{List, [], ◌∷◌, Option, None, Some}
use Rattle.mp_words.specs.declared.word.Word.{Word}
use Rattle.mp_words.specs.declared.word.Mark.TheVariants as mark
use Rattle.mp_words.specs.declared.word.Keyword.TheVariants as keyword
use Rattle.mp_words.specs.declared.raw.RawName.{RawName}
use Rattle.mp_words.specs.Grammars.{Grammar, after, both, choose, form, fronted, made, many, nothing, row}
use Rattle.mp_words.specs.Fronts.{is_mark, is_word, name_behind}
use Rattle.mp_patterntext.specs.declared.raw.RawPattern.{RawPattern}
use Rattle.mp_patterntext.specs.Grammar.{pattern}
use Rattle.mp_schematext.specs.declared.raw.RawRule.{RawRule}
use Rattle.mp_schematext.specs.Grammar.{rule}
use Rattle.mp_theorytext.specs.declared.raw.RawRewrite.{RawRewrite}
use Rattle.mp_theorytext.specs.declared.raw.RawLaw.{RawLaw}
use Rattle.mp_theorytext.specs.declared.raw.RawLaw.TheVariants.{Rule, Rewrite}

-- ## Rewrites

-- what follows the first condition: --> at once, or & and the other conditions up to -->
abbrev pub other_conditions : Grammar Word (List RawPattern)
other_conditions = form (is_mark mark.Provided) (nothing []) (after (is_mark mark.And) (row pattern (is_mark mark.And) (is_mark mark.Provided)))

-- the other conditions and the redex, as what is there
abbrev pub conditional : List RawPattern × RawPattern → Option (List RawPattern × RawPattern)
conditional p = Some p

-- what follows the first pattern: nothing if <-> stands there, and else the other conditions and the redex
abbrev pub after_first : Grammar Word (Option (List RawPattern × RawPattern))
after_first = choose (fronted (is_mark mark.Rewrites)) (nothing None) (made conditional (both other_conditions pattern))

-- the conditions and the redex: the first pattern is the redex, or the first condition
abbrev pub raw_left : RawPattern × Option (List RawPattern × RawPattern) → List RawPattern × RawPattern
raw_left (p, None) = ([], p)
raw_left (p, Some (cs, r)) = (p ∷ cs, r)

-- (pat (& pat)* -->)? pat, up to <->
abbrev pub left : Grammar Word (List RawPattern × RawPattern)
left = made raw_left (both pattern after_first)

-- the conditions, the redex and the contractum
abbrev pub equation : Grammar Word ((List RawPattern × RawPattern) × RawPattern)
equation = both left (after (is_mark mark.Rewrites) pattern)

-- a rewrite, of its name and its patterns
abbrev pub raw_rewrite : RawName × ((List RawPattern × RawPattern) × RawPattern) → RawRewrite
raw_rewrite (n, ((cs, r), c)) = record { name = n; conds = cs; redex = r; contractum = c }

-- rewrite NAME : conditions --> redex <-> contractum
abbrev pub rewrite : Grammar Word RawRewrite
rewrite = made raw_rewrite (both (name_behind keyword.Rewrite) (after (is_mark mark.Colon) equation))

-- ## Theories

-- a rule as a law
abbrev pub law_of_rule : RawRule → RawLaw
law_of_rule r = Rule r

-- a rewrite as a law
abbrev pub law_of_rewrite : RawRewrite → RawLaw
law_of_rewrite r = Rewrite r

-- a rule, or a rewrite
abbrev pub law : Grammar Word RawLaw
law = choose (fronted (is_word keyword.Rule)) (made law_of_rule rule) (made law_of_rewrite rewrite)

-- the laws, and no word after them
abbrev pub theory : Grammar Word (List RawLaw)
theory = many law
