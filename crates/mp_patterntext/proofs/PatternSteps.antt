-- How patterns are read by cases.
use Rattle.std.proofs.Common.{◌≡◌, ◌<◌, ◌≤◌, List, [], ◌∷◌, length, drop, arith, Bool, true, false, Option, None, Some, Result, Ok, Err, refl, ap, sym, ◌∙◌}
use Rattle.mp_words.specs.declared.word.Word.{Word}
use Rattle.mp_words.specs.declared.raw.RawName.{RawName}
use Rattle.mp_words.specs.Fronts.{capital_variable_at}
use Rattle.mp_words.specs.declared.parts.ReadFail.{ReadFail}
use Rattle.mp_words.specs.Grammars.{Parse, read, stuck, Grammar, both, choose, fronted, is_some, made, then_read, optional, pair, stands, taken, token, which, word_or}
use Rattle.mp_words.specs.Reading.{Reads}
use Rattle.mp_words.proofs.Steps.{fails_on}
use Rattle.mp_patterntext.specs.declared.raw.RawPattern.{RawPattern}
use Rattle.mp_patterntext.specs.Grammar.{pattern_operator_by, pattern, second_order_by, pattern_variable_at}
use Rattle.mp_patterntext.proofs.PatternUnfolds.{pattern_unfolds}

-- ## A word with a value, and two parts behind it

module _ {N X Y T : Type 0} (make : N × (X × Y) → T) (of : Word → Option N) (g : Grammar Word X) (h : Grammar Word Y) (ts : List Word) where
  abbrev whole : Parse Word T
  whole = made make (both (token of) (both g h)) ts

  abbrev behind : Option N → Parse Word T
  behind o = then_read (then_read (word_or o ts (stuck ts)) (λ n us. then_read (both g h us) (λ y vs. read (pair n y) vs))) (λ p us. read (make p) us)

  abbrev in_first : N → Parse Word X → Parse Word T
  in_first n o = then_read (then_read (then_read o (λ x us. then_read (h us) (λ y vs. read (pair x y) vs))) (λ y vs. read (pair n y) vs)) (λ p us. read (make p) us)

  abbrev in_second : N → X → Parse Word Y → Parse Word T
  in_second n x o = then_read (then_read (then_read o (λ y vs. read (pair x y) vs)) (λ y vs. read (pair n y) vs)) (λ p us. read (make p) us)

  pub form_none : taken of ts ≡ None → whole ≡ stuck ts
  form_none e = ap behind e

  module _ (n : N) (us : List Word) (e : taken of ts ≡ Some n) (r : us ≡ drop 1 ts) where
    form_begun : whole ≡ in_first n (g us)
    form_begun = ap behind e ∙ ap (λ ws. in_first n (g ws)) (sym r)

    pub form_first : (rest : List Word) → g us ≡ stuck rest → whole ≡ stuck rest
    form_first rest k = form_begun ∙ ap (in_first n) k

    module _ (x : X) (vs : List Word) (k : g us ≡ read x vs) where
      pub form_second : (rest : List Word) → h vs ≡ stuck rest → whole ≡ stuck rest
      form_second rest l = form_begun ∙ ap (in_first n) k ∙ ap (in_second n x) l

      pub form_read : (y : Y) (rest : List Word) → h vs ≡ read y rest → whole ≡ read (make (n, (x, y))) rest
      form_read y rest l = form_begun ∙ ap (in_first n) k ∙ ap (in_second n x) l

-- ## The forms of a pattern

stands_taken : {N : Type 0} (of : Word → Option N) (ts : List Word) (n : N) → taken of ts ≡ Some n → stands of ts ≡ true
stands_taken of [] n e = absurd cc
stands_taken of (t ∷ ts) n e = ap is_some e

stands_not : {N : Type 0} (of : Word → Option N) (ts : List Word) → taken of ts ≡ None → stands of ts ≡ false
stands_not of [] e = refl
stands_not of (t ∷ ts) e = ap is_some e

pub variable_is : (p : RawPattern) (ts rest : List Word) → taken pattern_variable_at ts ≡ Some p → rest ≡ drop 1 ts → pattern ts ≡ read p rest
variable_is p ts rest e r =
    pattern_unfolds ts ∙ ap (λ o. word_or o ts (choose (stands capital_variable_at) (second_order_by pattern) (pattern_operator_by pattern) ts)) e ∙ ap (λ us. read p us) (sym r)

module _ (ts : List Word) (v : taken pattern_variable_at ts ≡ None) where
  no_variable : pattern ts ≡ choose (stands capital_variable_at) (second_order_by pattern) (pattern_operator_by pattern) ts
  no_variable = pattern_unfolds ts ∙ ap (λ o. word_or o ts (choose (stands capital_variable_at) (second_order_by pattern) (pattern_operator_by pattern) ts)) v

  pub second_order_is : (n : RawName) → taken capital_variable_at ts ≡ Some n → pattern ts ≡ second_order_by pattern ts
  second_order_is n e = no_variable ∙ ap (λ b. which b (second_order_by pattern ts) (pattern_operator_by pattern ts)) (stands_taken capital_variable_at ts n e)

  pub operator_is : taken capital_variable_at ts ≡ None → pattern ts ≡ pattern_operator_by pattern ts
  operator_is e = no_variable ∙ ap (λ b. which b (second_order_by pattern ts) (pattern_operator_by pattern ts)) (stands_not capital_variable_at ts e)

pub shorter_form : {N : Type 0} (of : Word → Option N) (n : N) (ts us vs ws : List Word) → taken of ts ≡ Some n → us ≡ drop 1 ts → length vs ≤ length us → length ws ≤ length vs → length ws < length ts
shorter_form of n [] us vs ws e r l k = let f = e in cc
shorter_form of n (t ∷ ts) us vs ws e r l k = let f = ap length r in omega (arith, f, l, k)

-- ## What is behind a sign

-- a part behind its sign, read as a part that may be left out
pub reads_behind : {X Y : Type 0} (view : X → Y × List Word) (test : Word → Bool) (none : Y) (g : Grammar Word Y) (ts us : List Word) → fronted test ts ≡ true → us ≡ drop 1 ts → (r : Result X ReadFail) → Reads view g us r → Reads view (optional test none g) ts r
reads_behind {X} {Y} view test none g ts us e d r h = by r h
  where
    same : optional test none g ts ≡ g us
    same = ap (λ b. which b (g (drop 1 ts)) (read none ts)) e ∙ ap g (sym d)

    by : (r : Result X ReadFail) → Reads view g us r → Reads view (optional test none g) ts r
    by (Ok x) k = same ∙ k
    by (Err f) k = fails_on (g us) (optional test none g ts) (λ rest l. same ∙ l) f k

pub drop_short : (ts us : List Word) → us ≡ drop 1 ts → length us ≤ length ts
drop_short [] us e = let f = ap length e in omega (arith, f)
drop_short (t ∷ ts) us e = let f = ap length e in omega (arith, f)
