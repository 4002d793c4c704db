-- How a rule is read by its parts.
use Rattle.std.proofs.Common.{◌≡◌, ◌<◌, List, drop, length, true, arith, ap, sym, ◌∙◌}
use Rattle.mp_words.specs.declared.word.Word.{Word}
use Rattle.mp_words.specs.declared.raw.RawName.{RawName}
use Rattle.mp_words.specs.Fronts.{is_mark, name_behind}
use Rattle.mp_words.specs.Grammars.{Parse, read, stuck, after, both, fronted, then_read, pair, which}
use Rattle.mp_schematext.specs.declared.raw.RawSchema.{RawSchema}
use Rattle.mp_schematext.specs.declared.raw.RawRule.{RawRule}
use Rattle.mp_schematext.specs.Grammar.{premises, raw_rule, rule, schema}
use Rattle.mp_patterntext.proofs.PatternSteps.{drop_short}
use Rattle.mp_words.specs.declared.word.Mark.TheVariants as mark
use Rattle.mp_words.specs.declared.word.Keyword.TheVariants as keyword

module _ (ts us vs : List Word) (n : RawName) (named : name_behind keyword.Rule ts ≡ read n us) (colon : fronted (is_mark mark.Colon) us ≡ true) (rest_is : vs ≡ drop 1 us) where
  abbrev behind : Parse Word (List RawSchema × RawSchema) → Parse Word RawRule
  behind o = then_read (then_read o (λ y ws. read (pair n y) ws)) (λ p ws. read (raw_rule p) ws)

  abbrev in_name : Parse Word RawName → Parse Word RawRule
  in_name o = then_read (then_read o (λ x ws. then_read (after (is_mark mark.Colon) (both premises schema) ws) (λ y xs. read (pair x y) xs))) (λ p ws. read (raw_rule p) ws)

  abbrev in_premises : Parse Word (List RawSchema) → Parse Word RawRule
  in_premises o = behind (then_read o (λ ps ws. then_read (schema ws) (λ c xs. read (pair ps c) xs)))

  abbrev is_matched : List RawSchema → Parse Word RawSchema → Parse Word RawRule
  is_matched ps o = behind (then_read o (λ c xs. read (pair ps c) xs))

  begun : rule ts ≡ in_premises (premises vs)
  begun = ap in_name named ∙ ap (λ b. behind (which b (both premises schema (drop 1 us)) (stuck us))) colon ∙ ap (λ ws. in_premises (premises ws)) (sym rest_is)

  pub stuck_premises : (rest : List Word) → premises vs ≡ stuck rest → rule ts ≡ stuck rest
  stuck_premises rest h = begun ∙ ap in_premises h

  module _ (ps : List RawSchema) (ws : List Word) (h : premises vs ≡ read ps ws) where
    pub stuck_conclusion : (rest : List Word) → schema ws ≡ stuck rest → rule ts ≡ stuck rest
    stuck_conclusion rest k = begun ∙ ap in_premises h ∙ ap (is_matched ps) k

    pub rule_read : (c : RawSchema) (rest : List Word) → schema ws ≡ read c rest → rule ts ≡ read (record { name = n; premises = ps; concl = c }) rest
    rule_read c rest k = begun ∙ ap in_premises h ∙ ap (is_matched ps) k

pub shorter_rule : (ts us vs ws rest : List Word) → vs ≡ drop 1 us → length us < length ts → length ws < length vs → length rest < length ws → length rest < length ts
shorter_rule ts us vs ws rest d a b c = let short = drop_short us vs d in omega (arith, short, a, b, c)
