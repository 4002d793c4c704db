-- The grammar of schemata and rules, over words.
--   rule = "rule" Small : (schema (, schema)*)? ==> schema     schema = (item (; item)*)? >- pat
--   item = < Cap ctxs? args? > | Small : pat
use Rattle.std.specs.Prelude.{ℕ, List}
use Rattle.mp_words.specs.declared.word.Word.{Word}
use Rattle.mp_words.specs.declared.raw.RawName.{RawName}
use Rattle.mp_words.specs.Grammars.{Grammar, after, both, choose, ended, fronted, listed, made}
use Rattle.mp_words.specs.Fronts.{a_capital, a_name, is_mark, name_behind, with_place}
use Rattle.mp_patterntext.specs.declared.raw.RawPattern.{RawPattern}
use Rattle.mp_schematext.specs.declared.raw.RawItem.{RawItem}
use Rattle.mp_schematext.specs.declared.raw.RawItem.TheVariants.{Ctx, Hyp}
use Rattle.mp_schematext.specs.declared.raw.RawSchema.{RawSchema}
use Rattle.mp_schematext.specs.declared.raw.RawRule.{RawRule}
use Rattle.mp_patterntext.specs.Grammar.{contexts, arguments_by, pattern}
use Rattle.mp_words.specs.declared.word.Mark.TheVariants as mark
use Rattle.mp_words.specs.declared.word.Keyword.TheVariants as keyword

-- ## Schemata and rules

-- Cap ctxs? args? >
abbrev pub context : Grammar Word (RawName × (List RawName × List RawPattern))
context = both a_capital (both contexts (ended (arguments_by pattern) (is_mark mark.Greater)))

-- a context as an item, of the place of its < and of what is behind that
abbrev pub raw_context : ℕ × (RawName × (List RawName × List RawPattern)) → RawItem
raw_context (at, (n, (cs, xs))) = Ctx n cs xs at

-- a hypothesis, of its name and its pattern
abbrev pub raw_hypothesis : RawName × RawPattern → RawItem
raw_hypothesis p = Hyp p.0.name p.1 p.0.at

-- a schema, of its place, its items and its conclusion
abbrev pub raw_schema : ℕ × (List RawItem × RawPattern) → RawSchema
raw_schema (at, (is, p)) = record { items = is; concl = p; at = at }

-- a rule, of its name, its premises and its conclusion
abbrev pub raw_rule : RawName × (List RawSchema × RawSchema) → RawRule
raw_rule (n, (ps, c)) = record { name = n; premises = ps; concl = c }

-- Small : pat
abbrev pub hypothesis : Grammar Word RawItem
hypothesis = made raw_hypothesis (both a_name (after (is_mark mark.Colon) pattern))

-- < and a context
abbrev pub context_item : Grammar Word RawItem
context_item = made raw_context (with_place (after (is_mark mark.Less) context))

-- a context, or a hypothesis
abbrev pub item : Grammar Word RawItem
item = choose (fronted (is_mark mark.Less)) context_item hypothesis

-- item (; item)* >-, or >- at once
abbrev pub items : Grammar Word (List RawItem)
items = listed item (is_mark mark.Semicolon) (is_mark mark.Turnstile)

-- items, >- and the conclusion
abbrev pub schema : Grammar Word RawSchema
schema = made raw_schema (with_place (both items pattern))

-- schema (, schema)* ==>, or ==> at once
abbrev pub premises : Grammar Word (List RawSchema)
premises = listed schema (is_mark mark.Comma) (is_mark mark.Yields)

-- rule NAME : premises ==> conclusion
abbrev pub rule : Grammar Word RawRule
rule = made raw_rule (both (name_behind keyword.Rule) (after (is_mark mark.Colon) (both premises schema)))
