-- The words of a printed step are read again as that step, without a fault.
use Rattle.std.proofs.Common.{◌≡◌, ◌++◌, ◌+◌, ◌-◌, ◌<◌, ◌≤◌, ◌^◌, ℕ, List, [], ◌∷◌, Option, None, Some, Bool, true, false, not, nat_le, nat_lt, ◌&&◌, is_some, length, map, codes, drop, refl, ap, sym, subst, ◌∙◌, true≢false, append_assoc, arith}
use Rattle.std.specs.Prelude.{is_none, nat_abs, pos, unwrap_or, slice_get}
use Rattle.std.specs.List.{flat_map, list_all}
use Rattle.std.specs.Fmt.{decimal}
use Rattle.std.proofs.lemmas.Bool.{and_parts}
use Rattle.std.proofs.lemmas.Bool.Decides.{nat_tests}
use Rattle.std.proofs.lemmas.List.{length-map, map-append}
use Rattle.std.proofs.lemmas.Option.{slice_get_past}
use Rattle.mp_logic.specs.declared.sym.Sym.{Sym}
use Rattle.mp_logic.specs.Lists.{same_bool}
use Rattle.mp_names.specs.Table.{AreDistinct, Extends, text_of}
use Rattle.mp_lex.specs.declared.token.Kind.TheVariants as kind
use Rattle.mp_lex.specs.Bytes.{is_cap, is_small}
use Rattle.mp_lex.specs.Forms.{is_name, is_text}
use Rattle.mp_schema.specs.Conditions.{has_two_contexts}
use Rattle.mp_term.specs.declared.term.Bound.{Bound}
use Rattle.mp_term.specs.Terms.{size_of}
use Rattle.mp_term.proofs.Layers.{size_bound-is}
use Rattle.mp_theory.specs.declared.just.Given.{Given}
use Rattle.mp_theory.specs.declared.just.Just.{Just}
use Rattle.mp_theory.specs.declared.just.Just.TheVariants as just
use Rattle.mp_theory.specs.declared.place.Place.{Place}
use Rattle.mp_theory.specs.declared.place.Place.TheVariants as goal_place
use Rattle.mp_theory.specs.declared.rewrite.Rewrite.{Rewrite}
use Rattle.mp_theory.specs.declared.rule.Need.{Need}
use Rattle.mp_theory.specs.declared.rule.Rule.{Rule}
use Rattle.mp_theory.specs.Allowed.{are_for, is_allowed, is_allowed_at, is_for}
use Rattle.mp_theory.specs.Tables.{IsTheory, Laws, place_of_rewrite, place_of_rule, rewrite_at, rule_at, rule_named}
use Rattle.mp_theory.specs.Needs.{needs_of}
use Rattle.mp_theory.proofs.Laws.{places_of_names, places_of_rewrites}
use Rattle.mp_words.specs.declared.fail.TextWhy.TheVariants as why
use Rattle.mp_words.specs.declared.raw.RawName.{RawName}
use Rattle.mp_words.specs.declared.raw.RawNumber.{RawNumber}
use Rattle.mp_words.specs.declared.word.Keyword.TheVariants as keyword
use Rattle.mp_words.specs.declared.word.Mark.TheVariants as mark
use Rattle.mp_words.specs.declared.word.What.{What}
use Rattle.mp_words.specs.declared.word.What.TheVariants as what
use Rattle.mp_words.specs.declared.word.Word.{Word}
use Rattle.mp_words.specs.Faults.{fault_at_any, fault_if}
use Rattle.mp_words.specs.Fronts.{a_capital, a_name, a_number, front_at, is_mark, is_word, number_at, with_place}
use Rattle.mp_words.specs.Grammars.{Grammar, Shrinks, after, both, fronted, made, pair, read, row, then_read, which}
use Rattle.mp_words.specs.Ranges.{is_between, number_faults, written_number_faults}
use Rattle.mp_words.specs.Words.{Piece, integer_of, keyword_of, sym_of, what_of}
use Rattle.mp_words.proofs.Grammars.{token_shrinks}
use Rattle.mp_words.proofs.TableFacts.{AllHeld, has_name, held_back, held_front, sym_again}
use Rattle.mp_termtext.specs.declared.raw.RawBound.{RawBound}
use Rattle.mp_termtext.specs.Grammar.{bound, term}
use Rattle.mp_termtext.specs.Statics.{raw_size_of}
use Rattle.mp_termtext.proofs.Laid.{laid_at}
use Rattle.mp_termtext.proofs.NumberTexts.{integer_of-signed_decimal}
use Rattle.mp_termtext.proofs.PrintedPieces.{binder_pieces, further_pieces, mark_piece, term_pieces}
use Rattle.mp_termtext.proofs.RawLayers.{bound_value-is, raw_size_bound-is}
use Rattle.mp_termtext.proofs.ReadAgain.{IsClosed, bound_again_at, few_nodes, marks_binders, term_again}
use Rattle.mp_termtext.proofs.Rows.{row_cons, row_one}
use Rattle.mp_termtext.proofs.TermUnfolds.{bound_shrinks, term_shrinks}
use Rattle.mp_steptext.specs.declared.raw.RawGiven.{RawGiven}
use Rattle.mp_steptext.specs.declared.raw.RawPlace.{RawPlace}
use Rattle.mp_steptext.specs.declared.raw.RawPlace.TheVariants as raw_place
use Rattle.mp_steptext.specs.declared.raw.RawRewriteStep.{RawRewriteStep}
use Rattle.mp_steptext.specs.declared.raw.RawRuleStep.{RawRuleStep}
use Rattle.mp_steptext.specs.declared.raw.RawStep.{RawStep}
use Rattle.mp_steptext.specs.declared.raw.RawStep.TheVariants as raw
use Rattle.mp_steptext.specs.Grammar.{a_place, address, all_given, given, number_behind, raw_given, raw_rewrite_step, raw_rule_step, rewrite_step, rule_step, some_given}
use Rattle.mp_steptext.specs.Printing.{rewrite_text, rule_text}
use Rattle.mp_steptext.specs.Round.{is_written_address, is_written_first, is_written_just, is_written_place}
use Rattle.mp_steptext.specs.Statics.{address_faults, hypothesis_faults, named_rule_faults, place_faults}
use Rattle.mp_steptext.specs.Terms.{given_term, given_term_faults, just_of, step_with_terms, term_arity, term_body, term_step_faults}
use Rattle.mp_steptext.specs.Values.{first_hypotheses, from_0, given_for, needs_at, place_value}
use Rattle.mp_steptext.proofs.DistinctNeeds.{AreFound, needs_found, needs_new}
use Rattle.mp_steptext.proofs.Serving.{AreGivenFor, Serves, serving}
use Rattle.mp_steptext.proofs.StepGrammar.{given_shrinks}
use Rattle.mp_steptext.proofs.StepLexed.{AllFit, FitsGiven}
use Rattle.mp_steptext.proofs.WrittenSteps.{IsAlike, IsStanding, alike, standing}
use Rattle.mp_steptext.proofs.StepPieces.{address_pieces, all_given_pieces, first_pieces, given_pieces, just_pieces, place_pieces, subterm_pieces}

-- ## Parts, put together

both_is : {X Y : Type 0} (g : Grammar Word X) (h : Grammar Word Y) (ts us vs : List Word) (x : X) (y : Y) → g ts ≡ read x us → h us ≡ read y vs → both g h ts ≡ read (pair x y) vs
both_is g h ts us vs x y e f = ap (λ o. then_read o (λ a ws. then_read (h ws) (λ b xs. read (pair a b) xs))) e ∙ ap (λ o. then_read o (λ b xs. read (pair x b) xs)) f

made_is : {X Y : Type 0} (make : X → Y) (g : Grammar Word X) (ts us : List Word) (x : X) → g ts ≡ read x us → made make g ts ≡ read (make x) us
made_is make g ts us x e = ap (λ o. then_read o (λ a ws. read (make a) ws)) e

-- ## Numbers that count from 1

-- the number is in its range, and stands for this one
record Counts (most i : ℕ) (r : RawNumber) : Type 0 where
  faultless : number_faults 1 most r ≡ []
  value : from_0 r ≡ i

counts : (most i at : ℕ) → i < most → most ≤ 20000 → (let r : RawNumber = record { value = integer_of (decimal (i + 1)); at = at } in Counts most i r)
counts most i at lt low =
    let fits : nat_lt (i + 1) 9223372036854775808 ≡ true = grind (arith, nat_tests, lt, low) in
    let is : integer_of (decimal (i + 1)) ≡ pos (i + 1) = integer_of-signed_decimal (pos (i + 1)) fits in
    let above : nat_le 1 (i + 1) ≡ true = grind (arith, nat_tests) in
    let below : nat_le (i + 1) most ≡ true = grind (arith, nat_tests, lt) in
    let less : i + 1 - 1 ≡ i = omega arith in
    record {
      faultless = ap (λ z. fault_if (not (is_between 1 most z)) at why.BadNumber) is ∙ ap (λ b. fault_if (not (b && nat_le (i + 1) most)) at why.BadNumber) above ∙ ap (λ b. fault_if (not b) at why.BadNumber) below;
      value = ap (λ z. nat_abs z - 1) is ∙ less;
    }

-- ## What is given

-- what is given has no fault by itself, and stands for the given term
record IsAgain (g : Given) (r : RawGiven RawBound) : Type 0 where
  named : r.name.name ≡ g.name
  arity : g.arity ≡ term_arity r.body
  faultless : given_term_faults r.at r.body ≡ []
  value : term_body (Some r.body) ≡ g.body

abbrev AreAgain : List Given → List (RawGiven RawBound) → Type 0
AreAgain [] [] = Unit {0}
AreAgain [] (r ∷ rs) = ⊥
AreAgain (g ∷ gs) [] = ⊥
AreAgain (g ∷ gs) (r ∷ rs) = IsAgain g r × AreAgain gs rs

given_for_need : (n : Need) (g : Given) (r : RawGiven RawBound) → IsAlike n g → IsAgain g r → (r.name.name ≡ n.name) × (n.arity ≡ term_arity r.body) × (given_term n (Some r.body) ≡ g)
given_for_need n g r a b = (b.named ∙ a.named, a.arity ∙ b.arity, (λ i. record { name = sym a.named i; arity = a.arity i; body = b.value i }))

are_given_for : (ns : List Need) (gs : List Given) (rs : List (RawGiven RawBound)) → are_for ns gs ≡ true → AreAgain gs rs → AreGivenFor ns gs rs
are_given_for [] [] [] h a = tt
are_given_for [] [] (r ∷ rs) h a = absurd a
are_given_for [] (g ∷ gs) rs h a = absurd (true≢false (sym h))
are_given_for (n ∷ ns) [] rs h a = absurd (true≢false (sym h))
are_given_for (n ∷ ns) (g ∷ gs) [] h a = absurd a
are_given_for (n ∷ ns) (g ∷ gs) (r ∷ rs) h a =
    let both = and_parts (is_for n g) (are_for ns gs) h in
    let here = given_for_need n g r (alike n g both.0) a.0 in
    (record { named = here.0; arity = here.1; faultless = a.0.faultless; value = here.2 }, are_given_for ns gs rs both.1 a.1)

-- ## Words

-- table is the one of the words, and names the one that the step was printed by; at and opens tell the places of the words
module _ (at : ℕ → ℕ) (opens : ℕ → Bool) (names table : List (List ℕ)) (e : Extends names table) (distinct : AreDistinct table) where
  abbrev laid : List What → List Word
  laid ws = laid_at at opens ws

  abbrev words : List Piece → List What
  words ps = map (what_of table) ps

  -- words of one text after another
  split_words : (ps qs : List Piece) (rest : List What) → words (ps ++ qs) ++ rest ≡ words ps ++ (words qs ++ rest)
  split_words ps qs rest = ap (λ ws. ws ++ rest) (map-append (what_of table) ps qs) ∙ append_assoc (words ps) (words qs) rest

  -- a printed name has its number
  named_again : (begins : ℕ → Bool) (o : Sym) (text : List ℕ) → text ≡ text_of names o.0 → is_name begins text ≡ true → sym_of table text ≡ o
  named_again begins o [] same h = absurd (true≢false (sym h))
  named_again begins o (b ∷ bs) same h = sym_again names table o (b ∷ bs) e distinct (has_name names o.0 b bs (sym same) ∙ ap (λ (t : List ℕ). Some t) (sym same))

  low : 200 < 2 ^ 31
  low = omega arith

  -- these words are read as what is given
  record GivenAgain (g : Given) (ts rest : List What) : Type 0 where
    one : RawGiven RawBound
    is : given bound (laid ts) ≡ read one (laid rest)
    same : IsAgain g one

  given_again : (g : Given) (rest : List What) → FitsGiven names g → AllHeld table (given_pieces names g) → IsClosed at opens names table e distinct rest → marks_binders at opens names table e distinct rest ≡ false
      → GivenAgain g (words (given_pieces names g) ++ rest) rest
  given_again g rest fit held closed binders =
      let text = text_of names g.name.0 in
      let us = words (binder_pieces 200 g.arity ++ term_pieces names g.body (200 + g.arity)) ++ rest in
      let ts = what.Cap (sym_of table text) ∷ what.Mark mark.Becomes ∷ us in
      let k : Bound = record { binders = g.arity; body = g.body } in
      let a = bound_again_at at opens names table e distinct 200 low g.arity g.body (term_again at opens names table e distinct 200 low g.body) 200 0 200 1 (omega arith) fit.few fit.body (omega arith) (λ j lt. absurd (omega (arith, lt))) held.1.1 rest closed binders in
      let n : RawName = record { name = sym_of table text; at = at (length ts) } in
      let place = front_at (laid us) in
      let r : RawGiven RawBound = record { name = n; body = a.raw; at = place } in
      let placed : with_place bound (laid us) ≡ read (pair place a.raw) (laid rest) = ap (λ o. then_read o (λ x ws. read (pair place x) ws)) a.is in
      let value = sym (bound_value-is 200 a.raw []) ∙ a.value in
      let size : raw_size_of a.raw.body ≡ size_of g.body = sym (raw_size_bound-is a.raw) ∙ a.size ∙ size_bound-is k in
      let small = fit.small in
      record {
        one = r;
        is = made_is raw_given (both a_capital (after (is_mark mark.Becomes) (with_place bound))) (laid ts) (laid rest) (pair n (pair place a.raw))
            (both_is a_capital (after (is_mark mark.Becomes) (with_place bound)) (laid ts) (laid (what.Mark mark.Becomes ∷ us)) (laid rest) n (pair place a.raw) refl placed);
        same = record {
          named = named_again is_cap g.name text refl fit.named;
          arity = sym (ap (λ (b : Bound). b.binders) value);
          faultless = ap (λ fs. fs ++ fault_if (nat_lt 20000 (raw_size_of a.raw.body)) place why.TooBig) a.faultless ∙ few_nodes (raw_size_of a.raw.body) place (omega (arith, size, small));
          value = ap (λ (b : Bound). b.body) value;
        };
      }

  -- these words are read as all that is given, and the end of the list
  record RowAgain (gs : List Given) (ts rest : List What) : Type 0 where
    all : List (RawGiven RawBound)
    is : row (given bound) (is_mark mark.Semicolon) (is_mark mark.CloseBracket) (laid ts) ≡ read all (laid rest)
    same : AreAgain gs all

  abbrev row_pieces : Given → List Given → List Piece
  row_pieces g gs = given_pieces names g ++ further_pieces (mark_piece (codes "]")) (map (given_pieces names) gs)

  a_given_shrinks : Shrinks (given bound)
  a_given_shrinks = given_shrinks bound (bound_shrinks term term_shrinks)

  row_again : (g : Given) (gs : List Given) (rest : List What) → AllFit names (g ∷ gs) → AllHeld table (row_pieces g gs) → RowAgain (g ∷ gs) (words (row_pieces g gs) ++ rest) rest
  row_again g [] rest fit held =
      let end = mark_piece (codes "]") ∷ [] in
      let us = what.Mark mark.CloseBracket ∷ rest in
      let one = given_again g us fit.0 (held_front table (given_pieces names g) end held) (refl, refl) refl in
      let ts = words (given_pieces names g) ++ us in
      subst (λ ws. RowAgain (g ∷ []) ws rest) (sym (split_words (given_pieces names g) end rest))
      record { all = one.one ∷ []; is = row_one (given bound) (is_mark mark.Semicolon) (is_mark mark.CloseBracket) a_given_shrinks (laid ts) one.one (laid us) one.is refl; same = (one.same, tt) }
  row_again g (h ∷ gs) rest fit held =
      let further = mark_piece (codes ";") ∷ row_pieces h gs in
      let vs = words (row_pieces h gs) ++ rest in
      let us = what.Mark mark.Semicolon ∷ vs in
      let one = given_again g us fit.0 (held_front table (given_pieces names g) further held) (refl, refl) refl in
      let others = row_again h gs rest fit.1 (held_back table (given_pieces names g) further held).1 in
      let ts = words (given_pieces names g) ++ us in
      subst (λ ws. RowAgain (g ∷ h ∷ gs) ws rest) (sym (split_words (given_pieces names g) further rest))
      record {
        all = one.one ∷ others.all;
        is = row_cons (given bound) (is_mark mark.Semicolon) (is_mark mark.CloseBracket) a_given_shrinks (laid ts) one.one (laid us) others.all (laid rest) one.is refl refl others.is;
        same = (one.same, others.same);
      }

  record AllGivenAgain (gs : List Given) (ts rest : List What) : Type 0 where
    all : List (RawGiven RawBound)
    is : all_given bound (laid ts) ≡ read all (laid rest)
    same : AreAgain gs all

  all_given_again : (gs : List Given) (rest : List What) → AllFit names gs → AllHeld table (all_given_pieces names gs) → fronted (is_word keyword.With) (laid rest) ≡ false → AllGivenAgain gs (words (all_given_pieces names gs) ++ rest) rest
  all_given_again [] rest fit held none = record { all = []; is = ap (λ b. which b (some_given bound (drop 1 (laid rest))) (read [] (laid rest))) none; same = tt }
  all_given_again (g ∷ gs) rest fit held none = let r = row_again g gs rest fit held.1.1 in record { all = r.all; is = r.is; same = r.same }

  -- what is given doesn't begin with `at`
  no_at : (gs : List Given) (rest : List What) → fronted (is_word keyword.At) (laid rest) ≡ false → fronted (is_word keyword.At) (laid (words (all_given_pieces names gs) ++ rest)) ≡ false
  no_at [] rest none = none
  no_at (g ∷ gs) rest none = refl

  -- ## Numbers, places and addresses

  record FirstAgain (first : Option ℕ) (ts rest : List What) : Type 0 where
    number : Option RawNumber
    is : number_behind keyword.At (laid ts) ≡ read number (laid rest)
    there : is_some number ≡ is_some first
    faultless : written_number_faults 1 201 number ≡ []
    value : first_hypotheses number ≡ first

  first_again : (first : Option ℕ) (rest : List What) → is_written_first first ≡ true → fronted (is_word keyword.At) (laid rest) ≡ false → FirstAgain first (words (first_pieces first) ++ rest) rest
  first_again None rest h none = record { number = None; is = ap (λ b. which b (made Some a_number (drop 1 (laid rest))) (read None (laid rest))) none; there = refl; faultless = refl; value = refl }
  first_again (Some n) rest h none =
      let us = what.Num (integer_of (decimal (n + 1))) ∷ rest in
      let r : RawNumber = record { value = integer_of (decimal (n + 1)); at = at (length us) } in
      let below : n < 201 = grind (arith, nat_tests, h) in
      let c = counts 201 n (at (length us)) below (omega arith) in
      record { number = Some r; is = refl; there = refl; faultless = c.faultless; value = ap (λ (i : ℕ). Some i) c.value }

  record PlaceAgain (p : Place) (ts rest : List What) : Type 0 where
    one : RawPlace
    is : a_place (laid ts) ≡ read one (laid rest)
    faultless : hypothesis_faults one ≡ []
    value : place_value one ≡ p

  place_again : (p : Place) (rest : List What) → is_written_place p ≡ true → PlaceAgain p (words (place_pieces p) ++ rest) rest
  place_again goal_place.Concl rest h = record { one = raw_place.Concl; is = refl; faultless = refl; value = refl }
  place_again (goal_place.Hyp i) rest h =
      let us = what.Num (integer_of (decimal (i + 1))) ∷ rest in
      let r : RawNumber = record { value = integer_of (decimal (i + 1)); at = at (length us) } in
      let below : i < 200 = grind (arith, nat_tests, h) in
      let c = counts 200 i (at (length us)) below (omega arith) in
      record { one = raw_place.Hyp r; is = refl; faultless = c.faultless; value = ap goal_place.Hyp c.value }

  record NumbersAgain (is : List ℕ) (ts rest : List What) : Type 0 where
    all : List RawNumber
    is_read : row a_number (is_mark mark.Semicolon) (is_mark mark.CloseBracket) (laid ts) ≡ read all (laid rest)
    faultless : flat_map (number_faults 1 20000) all ≡ []
    value : map from_0 all ≡ is

  abbrev number_row : ℕ → List ℕ → List Piece
  number_row i is = subterm_pieces i ++ further_pieces (mark_piece (codes "]")) (map subterm_pieces is)

  numbers_again : (i : ℕ) (is : List ℕ) (rest : List What) → list_all (λ n. nat_lt n 20000) (i ∷ is) ≡ true → NumbersAgain (i ∷ is) (words (number_row i is) ++ rest) rest
  numbers_again i [] rest h =
      let below = (and_parts (nat_lt i 20000) true h).0 in
      let us = what.Mark mark.CloseBracket ∷ rest in
      let ts = what.Num (integer_of (decimal (i + 1))) ∷ us in
      let r : RawNumber = record { value = integer_of (decimal (i + 1)); at = at (length ts) } in
      let c = counts 20000 i (at (length ts)) (grind (arith, nat_tests, below)) (omega arith) in
      record {
        all = r ∷ [];
        is_read = row_one a_number (is_mark mark.Semicolon) (is_mark mark.CloseBracket) (token_shrinks number_at) (laid ts) r (laid us) refl refl;
        faultless = ap (λ fs. fs ++ []) c.faultless;
        value = ap (λ (n : ℕ). n ∷ []) c.value;
      }
  numbers_again i (j ∷ is) rest h =
      let both = and_parts (nat_lt i 20000) (list_all (λ n. nat_lt n 20000) (j ∷ is)) h in
      let below = both.0 in
      let vs = words (number_row j is) ++ rest in
      let us = what.Mark mark.Semicolon ∷ vs in
      let ts = what.Num (integer_of (decimal (i + 1))) ∷ us in
      let r : RawNumber = record { value = integer_of (decimal (i + 1)); at = at (length ts) } in
      let c = counts 20000 i (at (length ts)) (grind (arith, nat_tests, below)) (omega arith) in
      let others = numbers_again j is rest both.1 in
      record {
        all = r ∷ others.all;
        is_read = row_cons a_number (is_mark mark.Semicolon) (is_mark mark.CloseBracket) (token_shrinks number_at) (laid ts) r (laid us) others.all (laid rest) refl refl refl others.is_read;
        faultless = ap (λ fs. fs ++ flat_map (number_faults 1 20000) others.all) c.faultless ∙ others.faultless;
        value = (λ k. c.value k ∷ others.value k);
      }

  record AddressAgain (is : List ℕ) (ts rest : List What) : Type 0 where
    all : List RawNumber
    is_read : address (laid ts) ≡ read all (laid rest)
    faultless : address_faults all ≡ []
    value : map from_0 all ≡ is

  address_again : (is : List ℕ) (rest : List What) → is_written_address is ≡ true → AddressAgain is (words (address_pieces is) ++ rest) rest
  address_again [] rest h = record { all = []; is_read = refl; faultless = refl; value = refl }
  address_again (i ∷ is) rest h =
      let both = and_parts (nat_le (length (i ∷ is)) 200) (list_all (λ n. nat_lt n 20000) (i ∷ is)) h in
      let few = both.0 in
      let r = numbers_again i is rest both.1 in
      let count : length r.all ≡ length (i ∷ is) = sym (length-map r.all from_0) ∙ ap length r.value in
      let most : length r.all ≤ 200 = grind (arith, nat_tests, few, count) in
      record {
        all = r.all;
        is_read = r.is_read;
        faultless = ap (λ fs. fs ++ fault_at_any (λ (n : RawNumber). n.at) why.BadNumber (slice_get r.all 200)) r.faultless ∙ ap (fault_at_any (λ (n : RawNumber). n.at) why.BadNumber) (slice_get_past r.all 200 most);
        value = r.value;
      }

  -- ## Steps

  module _ (t : Laws) (theory : IsTheory t) where
    -- these words are read as a step without faults that stands for the justification
    pub record StepAgain (j : Just) (ts rest : List What) : Type 0 where
      pub one : RawStep RawBound
      pub is : step_with_terms (laid ts) ≡ read one (laid rest)
      pub faultless : term_step_faults t one ≡ []
      pub value : just_of t one ≡ j

    abbrev pub Ends : List What → Type 0
    Ends rest = (fronted (is_word keyword.At) (laid rest) ≡ false) × (fronted (is_word keyword.With) (laid rest) ≡ false)

    at_fits : (rule : Rule) (s : RawRuleStep RawBound) (o : Option RawNumber) → same_bool (is_some o) (has_two_contexts rule.concl) ≡ true → place_faults rule s o ≡ []
    at_fits rule s None h = by (has_two_contexts rule.concl) h
      where
        by : (b : Bool) → same_bool false b ≡ true → fault_if b s.rule.at why.AtNeeded ≡ []
        by true h = absurd (true≢false (sym h))
        by false h = refl
    at_fits rule s (Some n) h = by (has_two_contexts rule.concl) h
      where
        by : (b : Bool) → same_bool true b ≡ true → fault_if (not b) n.at why.AtRefused ≡ []
        by true h = refl
        by false h = absurd (true≢false (sym h))

    -- a step by the rule at this place
    module _ (index : ℕ) (rule : Rule) (is : rule_at t index ≡ Some rule) (first : Option ℕ) (gs : List Given) (k : IsStanding names t index rule first gs) where
      rule_again : (rest : List What) → AllHeld table (just_pieces names t (just.Rule index first gs)) → Ends rest → StepAgain (just.Rule index first gs) (words (just_pieces names t (just.Rule index first gs)) ++ rest) rest
      rule_again rest held ends =
          let text = rule_text names (rule_at t index) in
          let named : sym_of table text ≡ rule.name = named_again is_small rule.name text (ap (rule_text names) is) k.named in
          let found = places_of_names t index rule theory is in
          let gp = all_given_pieces names gs in
          let fp = first_pieces first in
          let vs = words gp ++ rest in
          let us = words fp ++ vs in
          let ts = what.Small (sym_of table text) (keyword_of text) ∷ us in
          let f = first_again first vs k.first_written (no_at gs rest ends.0) in
          let g = all_given_again gs rest k.fit (held_back table fp gp held.1.1) ends.1 in
          let n : RawName = record { name = sym_of table text; at = at (length ts) } in
          let s : RawRuleStep RawBound = record { rule = n; place = f.number; given = g.all } in
          let same = k.whole.needs in
          let own : AreFound rule.needs rule.needs = subst (λ ns. AreFound ns ns) (sym same) (needs_found rule.premises rule.concl) in
          let serves : Serves s rule.needs gs = serving s rule.needs gs (needs_new rule k.whole) own (subst (λ ns. AreGivenFor ns gs g.all) (sym same) (are_given_for (needs_of rule.premises rule.concl) gs g.all k.given g.same)) in
          let rule_is : rule_named t n.name ≡ Some rule = ap (rule_named t) named ∙ found.1 in
          let place_is : place_of_rule t n.name ≡ Some index = ap (place_of_rule t) named ∙ found.0 in
          let placed : place_faults rule s s.place ≡ [] = at_fits rule s f.number (ap (λ b. same_bool b (has_two_contexts rule.concl)) f.there ∙ k.two) in
          let fit_rule : named_rule_faults term_arity given_term_faults (rule_named t n.name) s ≡ [] = ap (λ o. named_rule_faults term_arity given_term_faults o s) rule_is ∙ (λ i. (placed i ++ serves.there i) ++ serves.given i) in
          let head = what.Small (sym_of table (codes "rule")) (keyword_of (codes "rule")) in
          let values : map (given_for given_term g.all) (needs_at (rule_named t n.name)) ≡ gs = ap (λ o. map (given_for given_term g.all) (needs_at o)) rule_is ∙ serves.values in
          subst (λ ws. StepAgain (just.Rule index first gs) (head ∷ what.Small (sym_of table text) (keyword_of text) ∷ ws) rest) (sym (split_words fp gp rest))
          record {
            one = raw.Rule s;
            is = made_is raw.Rule (rule_step bound) (laid ts) (laid rest) s
                (made_is raw_rule_step (both a_name (both (number_behind keyword.At) (all_given bound))) (laid ts) (laid rest) (pair n (pair f.number g.all))
                (both_is a_name (both (number_behind keyword.At) (all_given bound)) (laid ts) (laid us) (laid rest) n (pair f.number g.all) refl
                (both_is (number_behind keyword.At) (all_given bound) (laid us) (laid vs) (laid rest) f.number g.all f.is g.is)));
            faultless = (λ i. (f.faultless i ++ serves.bodies i) ++ fit_rule i);
            value = (λ i. just.Rule (unwrap_or (place_is i) 0) (f.value i) (values i));
          }

    -- a step by the rewrite at this place
    module _ (index : ℕ) (rewrite : Rewrite) (is : rewrite_at t index ≡ Some rewrite) (p : Place) (numbers : List ℕ) (written : is_written_just names t (just.Rewrite index p numbers) ≡ true) where
      rewrite_again : (rest : List What) → StepAgain (just.Rewrite index p numbers) (words (just_pieces names t (just.Rewrite index p numbers)) ++ rest) rest
      rewrite_again rest =
          let text = rewrite_text names (rewrite_at t index) in
          let parts = and_parts (is_text kind.Small text) (is_written_place p && is_written_address numbers) written in
          let each = and_parts (is_written_place p) (is_written_address numbers) parts.1 in
          let named : sym_of table text ≡ rewrite.name = named_again is_small rewrite.name text (ap (rewrite_text names) is) parts.0 in
          let found = places_of_rewrites t index rewrite theory is in
          let pp = place_pieces p in
          let np = address_pieces numbers in
          let vs = words np ++ rest in
          let us = words pp ++ vs in
          let ts = what.Small (sym_of table text) (keyword_of text) ∷ us in
          let f = place_again p vs each.0 in
          let g = address_again numbers rest each.1 in
          let n : RawName = record { name = sym_of table text; at = at (length ts) } in
          let s : RawRewriteStep = record { rewrite = n; place = f.one; address = g.all } in
          let place_is : place_of_rewrite t n.name ≡ Some index = ap (place_of_rewrite t) named ∙ found.0 in
          let head = what.Small (sym_of table (codes "rw")) (keyword_of (codes "rw")) in
          subst (λ ws. StepAgain (just.Rewrite index p numbers) (head ∷ what.Small (sym_of table text) (keyword_of text) ∷ ws) rest) (sym (split_words pp np rest))
          record {
            one = raw.Rewrite s;
            is = made_is raw.Rewrite rewrite_step (laid ts) (laid rest) s
                (made_is raw_rewrite_step (both a_name (both a_place address)) (laid ts) (laid rest) (pair n (pair f.one g.all))
                (both_is a_name (both a_place address) (laid ts) (laid us) (laid rest) n (pair f.one g.all) refl (both_is a_place address (laid us) (laid vs) (laid rest) f.one g.all f.is g.is_read)));
            faultless = (λ i. (f.faultless i ++ g.faultless i) ++ fault_if (is_none (place_is i)) n.at why.UnknownName);
            value = (λ i. just.Rewrite (unwrap_or (place_is i) 0) (f.value i) (g.value i));
          }

    by_rule : (index : ℕ) (o : Option Rule) (first : Option ℕ) (gs : List Given) → rule_at t index ≡ o → is_allowed_at o first gs ≡ true → is_written_just names t (just.Rule index first gs) ≡ true
        → (rest : List What) → AllHeld table (just_pieces names t (just.Rule index first gs)) → Ends rest → StepAgain (just.Rule index first gs) (words (just_pieces names t (just.Rule index first gs)) ++ rest) rest
    by_rule index None first gs is allowed written rest held ends = absurd (true≢false (sym allowed))
    by_rule index (Some rule) first gs is allowed written rest held ends = rule_again index rule is first gs (standing names t theory index rule first gs is allowed written) rest held ends

    by_rewrite : (index : ℕ) (o : Option Rewrite) (p : Place) (numbers : List ℕ) → rewrite_at t index ≡ o → is_some o ≡ true → is_written_just names t (just.Rewrite index p numbers) ≡ true
        → (rest : List What) → StepAgain (just.Rewrite index p numbers) (words (just_pieces names t (just.Rewrite index p numbers)) ++ rest) rest
    by_rewrite index None p numbers is there written rest = absurd (true≢false (sym there))
    by_rewrite index (Some rewrite) p numbers is there written rest = rewrite_again index rewrite is p numbers written rest

    -- a printed step is read again
    pub step_again : (j : Just) → is_allowed t j ≡ true → is_written_just names t j ≡ true → (rest : List What) → AllHeld table (just_pieces names t j) → Ends rest → StepAgain j (words (just_pieces names t j) ++ rest) rest
    step_again (just.Rule index first gs) allowed written rest held ends = by_rule index (rule_at t index) first gs refl allowed written rest held ends
    step_again (just.Rewrite index p numbers) allowed written rest held ends = by_rewrite index (rewrite_at t index) p numbers refl allowed written rest
