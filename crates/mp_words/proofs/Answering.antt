-- What a reader answers of a text, from its tokens and what its words give.
use Rattle.std.proofs.Common.{◌≡◌, ◌⊎◌, inl, inr, ℕ, List, [], ◌∷◌, length, Option, Some, None, Result, Ok, Err, refl, subst, sym, ap, ◌∙◌}
use Rattle.std.specs.Prelude.{unwrap_or}
use Rattle.mp_names.specs.Table.{Extends}
use Rattle.mp_lex.specs.declared.token.Token.{Token}
use Rattle.mp_lex.specs.Lex.{Lexing, lex}
use Rattle.mp_words.specs.declared.word.Word.{Word}
use Rattle.mp_words.specs.declared.fail.TextErr.{TextErr}
use Rattle.mp_words.specs.declared.fail.TextFail.{TextFail}
use Rattle.mp_words.specs.declared.fail.TextFail.TheVariants as fail
use Rattle.mp_words.specs.declared.fail.TextWhy.TheVariants as why
use Rattle.mp_words.specs.declared.parts.ReadFail.{ReadFail}
use Rattle.mp_words.specs.declared.parts.ReadFail.TheVariants as reading
use Rattle.mp_words.specs.Faults.{IsLeastOf, fault_of_passes, least, or_else}
use Rattle.mp_words.specs.Grammars.{Parse, then_read, read, some_words, stuck, which, whole}
use Rattle.mp_words.specs.Reading.{Fails}
use Rattle.mp_words.specs.Words.{words_in}
use Rattle.mp_words.specs.Texts.{Context, LexesText, of_lexical, error, stopped, stuck_place, static_fault, IsText, IsFaulty, bad_token, stuck_at, broken, ReadsText, OneText, SomeText}
use Rattle.mp_words.proofs.Soonest.{least_is_least}

one_value : {V : Type 0} (r : Result V TextErr) (u v : V) → r ≡ Ok u → r ≡ Ok v → u ≡ v
one_value r u v e h = cc

not_both : {V : Type 0} (r : Result V TextErr) (v : V) (f : TextErr) → r ≡ Ok v → r ≡ Err f → ⊥
not_both r v f e h = cc

one_fault : {V : Type 0} (r : Result V TextErr) (f g : TextErr) → r ≡ Err f → r ≡ Err g → f ≡ g
one_fault r f g e h = cc

-- what is read as a whole leaves nothing
none_left : {X : Type 0} (o : Parse Word X) (x : X) (rest : List Word) → then_read o (λ y us. which (some_words us) (stuck us) (read y us)) ≡ read x rest → rest ≡ []
none_left (read y []) x rest e = cc
none_left (read y (u ∷ us)) x rest e = absurd cc
none_left (stuck us) x rest e = absurd cc

-- no fault is found only where there is none
pub none_least : (fs : List TextErr) → least fs ≡ None → fs ≡ []
none_least fs e = subst (IsLeastOf fs) e (least_is_least fs)

-- the only pass tells the fault
pub one_fault_of : (fs : List TextErr) (found : Option TextErr) → found ≡ least fs → fault_of_passes (fs ∷ []) ≡ found
one_fault_of fs None e = ap (λ o. or_else o None) (sym e)
one_fault_of fs (Some f) e = ap (λ o. or_else o None) (sym e)

module _ {X V : Type 0} (g : List Word → Parse Word X) (passes : Context → X → List (List TextErr)) (value : X → V) (names : List (List ℕ)) (source : List ℕ) where
  -- what stops before there are words
  lexes_fail : (new : List (List ℕ)) (f : TextFail) → LexesText names source (Err f) new → Extends names new → ReadsText g passes value names source (Err f) new
  lexes_fail new (fail.Bad e) h x = (bad_token h.0 h.1 h.2, h.3)
  lexes_fail new fail.NoMemory h x = x

  pub lexical_text : (new : List (List ℕ)) (f : TextFail) (r : Result V TextFail) → r ≡ Err f → LexesText names source (Err f) new → Extends names new → ReadsText g passes value names source r new
  lexical_text new f r e h x = subst (λ (q : Result V TextFail). ReadsText g passes value names source q new) (sym e) (lexes_fail new f h x)

  stops_at : (words : List Word) (new : List (List ℕ)) (f : ReadFail) → LexesText names source (Ok words) new → Extends names new → Fails (whole g words) f → ReadsText g passes value names source (Err (stopped source f)) new
  stops_at words new (reading.Stuck at) t x h =
      (stuck_at t.0 h.0 t.1 (ap (whole g) (sym t.2) ∙ h.1) (ap (λ o. error (unwrap_or o (length source)) why.Syntax) h.2), t.3)
  stops_at words new reading.NoMemory t x h = x

  -- a reader over the words that stops: it is stuck there, or memory ran out
  pub stuck_text : (words : List Word) (new : List (List ℕ)) (ws : List Word) (f : ReadFail) (e : TextFail) → LexesText names source (Ok words) new → Extends names new → ws ≡ words → Fails (whole g ws) f → e ≡ stopped source f
      → ReadsText g passes value names source (Err e) new
  stuck_text words new ws f e t x same h eq =
      subst (λ (q : TextFail). ReadsText g passes value names source (Err q) new) (sym eq) (stops_at words new f t x (subst (λ us. Fails (whole g us) f) same h))

  -- a static fault is found in what is read
  pub broken_text : (words : List Word) (new : List (List ℕ)) (ws : List Word) (raw : X) (e : TextErr) → LexesText names source (Ok words) new → ws ≡ words → whole g ws ≡ read raw [] → static_fault g passes value names source raw ≡ Some e
      → ReadsText g passes value names source (Err (fail.Bad e)) new
  broken_text words new ws raw e t same is found = (broken t.0 raw t.1 (ap (whole g) (sym (same ∙ t.2)) ∙ is) found, t.3)

  -- a text without a fault has its value
  pub text_is : (words : List Word) (new : List (List ℕ)) (ws : List Word) (raw : X) (v : V) → LexesText names source (Ok words) new → ws ≡ words → whole g ws ≡ read raw [] → static_fault g passes value names source raw ≡ None → v ≡ value raw
      → ReadsText g passes value names source (Ok v) new
  text_is words new ws raw v t same is none has = (
    record {
      tokens = t.0;
      raw = raw;
      lexed = t.1;
      is = ap (whole g) (sym (same ∙ t.2)) ∙ is;
      faultless = none;
      has = has;
    },
    t.3,
  )

  -- ## One value or one fault

  -- what the words of these tokens give
  abbrev given : List Token → Parse Word X
  given ts = whole g (words_in names source ts)

  abbrev refused : TextErr → Result V TextErr
  refused e = Err e

  abbrev judged : X → Option TextErr → Result V TextErr
  judged raw None = Ok (value raw)
  judged raw (Some e) = refused e

  abbrev by_words : Parse Word X → Result V TextErr
  by_words (read raw rest) = judged raw (static_fault g passes value names source raw)
  by_words (stuck rest) = refused (error (stuck_place source rest) why.Syntax)

  -- the value of a text with these tokens or this fault, or its fault
  abbrev verdict : Lexing → Result V TextErr
  verdict (Ok ts) = by_words (given ts)
  verdict (Err f) = refused (error f.0 (of_lexical f.1))

  value_is : (v : V) → IsText g passes value names source v → verdict (lex source) ≡ Ok v
  value_is v h = ap verdict h.lexed ∙ ap by_words h.is ∙ ap (judged h.raw) h.faultless ∙ ap (λ (u : V). let r : Result V TextErr = Ok u in r) (sym h.has)

  fault_is : (e : TextErr) → IsFaulty g passes value names source e → verdict (lex source) ≡ Err e
  fault_is e (bad_token w is a) = let same : error e.at (of_lexical w) ≡ e = (λ i. record { at = e.at; why = sym a i }) in ap verdict is ∙ ap refused same
  fault_is e (stuck_at ts rest is s a) = ap verdict is ∙ ap by_words s ∙ ap refused (sym a)
  fault_is e (broken ts raw is r l) = ap verdict is ∙ ap by_words r ∙ ap (judged raw) l

  -- ## Some value or some fault

  abbrev Said : Type 0
  Said = ((v : V) × IsText g passes value names source v) ⊎ ((e : TextErr) × IsFaulty g passes value names source e)

  by_fault : (ts : List Token) (raw : X) → lex source ≡ Ok ts → given ts ≡ read raw [] → (found : Option TextErr) → static_fault g passes value names source raw ≡ found → Said
  by_fault ts raw l is None f = inl (value raw, record { tokens = ts; raw = raw; lexed = l; is = is; faultless = f; has = refl })
  by_fault ts raw l is (Some e) f = inr (e, broken ts raw l is f)

  by_given : (ts : List Token) → lex source ≡ Ok ts → (o : Parse Word X) → given ts ≡ o → Said
  by_given ts l (read raw rest) is =
      let none : rest ≡ [] = none_left (g (words_in names source ts)) raw rest is in
      by_fault ts raw l (is ∙ ap (λ us. read raw us) none) (static_fault g passes value names source raw) refl
  by_given ts l (stuck rest) is = inr (error (stuck_place source rest) why.Syntax, stuck_at ts rest l is refl)

  by_lexing : (r : Lexing) → lex source ≡ r → Said
  by_lexing (Ok ts) l = by_given ts l (given ts) refl
  by_lexing (Err f) l = inr (error f.0 (of_lexical f.1), bad_token f.1 l refl)

-- a text has one value or one fault, and not both
pub one_text : {X V : Type 0} (g : List Word → Parse Word X) (passes : Context → X → List (List TextErr)) (value : X → V) → OneText g passes value
one_text g passes value = record {
  one_value = λ names source u v h k. one_value (verdict g passes value names source (lex source)) u v (value_is g passes value names source u h) (value_is g passes value names source v k);
  apart = λ names source v e h k. not_both (verdict g passes value names source (lex source)) v e (value_is g passes value names source v h) (fault_is g passes value names source e k);
  one_fault = λ names source e f h k. one_fault (verdict g passes value names source (lex source)) e f (fault_is g passes value names source e h) (fault_is g passes value names source f k);
}

-- a text has a value or a fault
pub some_text : {X V : Type 0} (g : List Word → Parse Word X) (passes : Context → X → List (List TextErr)) (value : X → V) → SomeText g passes value
some_text g passes value names source = by_lexing g passes value names source (lex source) refl
