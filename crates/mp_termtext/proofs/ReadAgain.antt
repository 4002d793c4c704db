-- The words of a printed value are read again as that value, without a fault.
use Rattle.std.proofs.Common.{◌≡◌, ◌++◌, ◌+◌, ◌-◌, ◌<◌, ◌≤◌, ◌^◌, ℕ, zero, suc, List, [], ◌∷◌, Some, Bool, true, false, nat_lt, length, map, sum, sum_by, codes, drop, ◌||◌, refl, ap, sym, subst, ◌∙◌, true≢false, append_assoc, append-nil, arith}
use Rattle.std.specs.Prelude.{unwrap_or}
use Rattle.std.specs.List.{list_all}
use Rattle.std.proofs.lemmas.Bool.{and_parts}
use Rattle.std.proofs.lemmas.Bool.Decides.{nat_tests}
use Rattle.std.proofs.lemmas.List.{map-append}
use Rattle.std.proofs.lemmas.List.Sums.{sum_by-cons}
use Rattle.std.proofs.lemmas.Option.{slice_get_past}
use Rattle.mp_logic.specs.declared.sym.Sym.{Sym}
use Rattle.mp_names.specs.Table.{AreDistinct, Extends, text_of}
use Rattle.mp_lex.specs.declared.token.Kind.TheVariants as kind
use Rattle.mp_lex.specs.Forms.{is_text}
use Rattle.mp_term.specs.declared.term.Param.{Param}
use Rattle.mp_term.specs.declared.term.Param.TheVariants.{Num, Str}
use Rattle.mp_term.specs.declared.term.Term.{Term}
use Rattle.mp_term.specs.declared.term.Term as term
use Rattle.mp_term.specs.declared.term.Bound.{Bound}
use Rattle.mp_term.specs.Induction.{OfEachBody, each_term}
use Rattle.mp_term.specs.Terms.{size_of}
use Rattle.mp_term.proofs.Layers.{depth-Var, size_bound, size_bound-is, size-Op, size-Var}
use Rattle.mp_words.specs.declared.word.What.{What}
use Rattle.mp_words.specs.declared.word.What.TheVariants as what
use Rattle.mp_words.specs.declared.word.Word.{Word}
use Rattle.mp_words.specs.declared.word.Mark.TheVariants as mark
use Rattle.mp_words.specs.declared.raw.RawName.{RawName}
use Rattle.mp_termtext.specs.declared.raw.RawParam.{RawParam}
use Rattle.mp_termtext.specs.declared.raw.RawBound.{RawBound}
use Rattle.mp_termtext.specs.declared.raw.RawTerm.{RawTerm, Var, Op}
use Rattle.mp_termtext.specs.declared.raw.RawHyp.{RawHyp}
use Rattle.mp_termtext.specs.declared.raw.RawSequent.{RawSequent}
use Rattle.mp_term.specs.declared.sequent.Sequent.{Sequent}
use Rattle.mp_term.specs.Limits.{sequent_size_of}
use Rattle.mp_words.specs.declared.fail.TextWhy.TheVariants as why
use Rattle.mp_words.specs.Faults.{fault_at_any, fault_if, too_many}
use Rattle.mp_words.specs.Fronts.{a_name, front_at, is_mark, name_at as name_at_word}
use Rattle.mp_words.specs.Grammars.{fronted, then_read, pair, read, row, stuck, token, which, word_or}
use Rattle.mp_words.proofs.Grammars.{token_shrinks}
use Rattle.mp_termtext.specs.Grammar.{begins_binders, bound_by, bounds_by, hyp, hyp_of, hyps, param_at, params, sequent, some_binders, subs_by, term as a_term, written_param}
use Rattle.mp_termtext.proofs.Laid.{laid_at}
use Rattle.mp_termtext.proofs.Rows.{binders_are, bound_is, no_binders_are, row_cons, row_one, sequent_is}
use Rattle.mp_termtext.proofs.TermSteps.{operator_is, variable_is}
use Rattle.mp_termtext.proofs.TermUnfolds.{bound_shrinks, hyp_shrinks, term_shrinks}
use Rattle.mp_termtext.specs.Printing.{name_text, quoted}
use Rattle.mp_termtext.specs.Round.{is_written_param}
use Rattle.mp_termtext.specs.Statics.{bound_faults_of, deep, each_faults, faults_of, hyp_names, hyps_faults, level_of, names_of, raw_sequent_size_of, raw_size_of, sequent_faults, unless_bound}
use Rattle.mp_termtext.specs.Values.{bound_value_of, each_subterm_value, hyps_value, sequent_value, value_of}
use Rattle.mp_words.specs.Words.{Piece, keyword_of, numbered_of, sym_of, what_of}
use Rattle.mp_termtext.proofs.Faultless.{length-hyp_names}
use Rattle.mp_termtext.proofs.LevelNames.{IsNamed, length-names_from, level_again, name_at, names_from, names_join}
use Rattle.mp_termtext.proofs.NumberTexts.{integer_of-signed_decimal}
use Rattle.mp_termtext.proofs.StringTexts.{content_of-quoted}
use Rattle.mp_termtext.proofs.PrintedPieces.{binder_pieces, bound_pieces, bound_pieces-is, each_param, further_binder_pieces, further_hyp_pieces, further_pieces, hyp_pieces, list_pieces, mark_piece, name_piece, param_piece, pieces_at, pieces-Op, pieces-Var, sequent_pieces, term_pieces}
use Rattle.mp_termtext.proofs.Printable.{FitBound, FitBounds, FitHyps, Fits, first_sub, further_subs, op_named, op_params, op_subs, some_depth, var_fits}
use Rattle.mp_termtext.proofs.RawLayers.{bound_faults-is, bound_value-is, faults-Op, faults-Var, raw_size_bound, raw_size_bound-is, raw_size-Op, raw_size-Var, value-Op, value-Var}
use Rattle.mp_words.proofs.TableFacts.{AllHeld, has_name, has_text, held_back, held_front, sym_again}

shallow : (d l : ℕ) → d ≤ 200 → deep d l ≡ []
shallow d l h = let e : nat_lt 200 d ≡ false = grind (arith, nat_tests, h) in ap (λ b. fault_if b l why.TooDeep) e

few_enough : {X : Type 0} (place : X → ℕ) (n : ℕ) (xs : List X) → length xs ≤ n → too_many place n xs ≡ []
few_enough place n xs h = ap (fault_at_any place why.TooMany) (slice_get_past xs n h)

pub few_nodes : (n l : ℕ) → n ≤ 20000 → fault_if (nat_lt 20000 n) l why.TooBig ≡ []
few_nodes n l h = let e : nat_lt 20000 n ≡ false = grind (arith, nat_tests, h) in ap (λ b. fault_if b l why.TooBig) e

-- table is the one behind the text, and names the one that it was printed by; at and opens tell the places of its words
module _ (at : ℕ → ℕ) (opens : ℕ → Bool) (names table : List (List ℕ)) (e : Extends names table) (distinct : AreDistinct table) where
  abbrev laid : List What → List Word
  laid ws = laid_at at opens ws

  abbrev pub words : List Piece → List What
  words ps = map (what_of table) ps

  -- no list goes on here
  abbrev pub IsClosed : List What → Type 0
  IsClosed rest = (fronted (is_mark mark.OpenBracket) (laid rest) ≡ false) × (fronted (is_mark mark.OpenBrace) (laid rest) ≡ false)

  param_what : (p : Param) (a : ℕ) → is_written_param names p ≡ true → written_param a (what_of table (param_piece names p)) ≡ Some (record { value = p; at = a })
  param_what (Num z) a h = ap (λ n. written_param a (what.Num n)) (integer_of-signed_decimal z h)
  param_what (Str s) a h =
      let text = text_of names s.0 in
      let both = and_parts (nat_lt s.0 (length names)) (is_text kind.Str (quoted text)) h in
      let below = both.0 in
      let within : s.0 < length names = grind (arith, nat_tests, below) in
      ap (λ t. written_param a (what.Str (sym_of table t))) (content_of-quoted text) ∙ ap (λ n. written_param a (what.Str n)) (sym_again names table s text e distinct (has_text names s.0 within))

  param_read : (p : Param) (us : List What) → is_written_param names p ≡ true
      → token param_at (laid (what_of table (param_piece names p) ∷ us)) ≡ read (let r : RawParam = record { value = p; at = at (length (what_of table (param_piece names p) ∷ us)) } in r) (laid us)
  param_read p us h =
      let ts = laid (what_of table (param_piece names p) ∷ us) in
      ap (λ o. word_or o ts (stuck ts)) (param_what p (at (length (what_of table (param_piece names p) ∷ us))) h)

  -- parameters are read again
  params_again : (p : Param) (ps : List Param) (rest : List What) → list_all (is_written_param names) (p ∷ ps) ≡ true
      → (rs : List RawParam) × (row (token param_at) (is_mark mark.Semicolon) (is_mark mark.CloseBracket) (laid (what_of table (param_piece names p) ∷ (words (further_pieces (mark_piece (codes "]")) (each_param names ps)) ++ rest))) ≡ read rs (laid rest))
      × (map (λ r. r.value) rs ≡ p ∷ ps)
  params_again p [] rest h =
      let written = (and_parts (is_written_param names p) true h).0 in
      let us = what.Mark mark.CloseBracket ∷ rest in
      let ts = what_of table (param_piece names p) ∷ us in
      let r : RawParam = record { value = p; at = at (length ts) } in
      (r ∷ [], row_one (token param_at) (is_mark mark.Semicolon) (is_mark mark.CloseBracket) (token_shrinks param_at) (laid ts) r (laid us) (param_read p us written) refl, refl)
  params_again p (q ∷ ps) rest h =
      let both = and_parts (is_written_param names p) (list_all (is_written_param names) (q ∷ ps)) h in
      let vs = what_of table (param_piece names q) ∷ (words (further_pieces (mark_piece (codes "]")) (each_param names ps)) ++ rest) in
      let us = what.Mark mark.Semicolon ∷ vs in
      let ts = what_of table (param_piece names p) ∷ us in
      let r : RawParam = record { value = p; at = at (length ts) } in
      let others = params_again q ps rest both.1 in
      (r ∷ others.0, row_cons (token param_at) (is_mark mark.Semicolon) (is_mark mark.CloseBracket) (token_shrinks param_at) (laid ts) r (laid us) others.0 (laid rest) (param_read p us both.0) refl refl others.1, ap (λ qs. p ∷ qs) others.2)

  abbrev param_words : List Param → List What
  param_words ps = words (list_pieces (mark_piece (codes "[")) (mark_piece (codes "]")) (each_param names ps))

  all_params_again : (ps : List Param) (rest : List What) → list_all (is_written_param names) ps ≡ true → fronted (is_mark mark.OpenBracket) (laid rest) ≡ false
      → (rs : List RawParam) × (params (laid (param_words ps ++ rest)) ≡ read rs (laid rest)) × (map (λ r. r.value) rs ≡ ps)
  all_params_again [] rest h none = ([], ap (λ b. which b (row (token param_at) (is_mark mark.Semicolon) (is_mark mark.CloseBracket) (drop 1 (laid rest))) (read [] (laid rest))) none, refl)
  all_params_again (p ∷ ps) rest h none = params_again p ps rest h

  length-values : (rs : List RawParam) → length (map (λ r. r.value) rs) ≡ length rs
  length-values [] = refl
  length-values (r ∷ rs) = ap (λ n. suc n) (length-values rs)

  -- binders are read again
  binders_again : (n l : ℕ) (rest : List What) → (bs : List RawName) × (some_binders (laid (words (name_piece l ∷ further_binder_pieces (l + 1) n) ++ rest)) ≡ read bs (laid rest)) × (names_of bs ≡ names_from table l (suc n)) × (length bs ≡ suc n)
  binders_again zero l rest =
      let us = what.Mark mark.Dot ∷ rest in
      let ts = what.Small (name_at table l) (keyword_of (name_text l)) ∷ us in
      let b : RawName = record { name = name_at table l; at = at (length ts) } in
      (b ∷ [], row_one a_name (is_mark mark.Comma) (is_mark mark.Dot) (token_shrinks name_at_word) (laid ts) b (laid us) refl refl, refl, refl)
  binders_again (suc n) l rest =
      let vs = words (name_piece (l + 1) ∷ further_binder_pieces (l + 1 + 1) n) ++ rest in
      let us = what.Mark mark.Comma ∷ vs in
      let ts = what.Small (name_at table l) (keyword_of (name_text l)) ∷ us in
      let b : RawName = record { name = name_at table l; at = at (length ts) } in
      let others = binders_again n (l + 1) rest in
      (b ∷ others.0, row_cons a_name (is_mark mark.Comma) (is_mark mark.Dot) (token_shrinks name_at_word) (laid ts) b (laid us) others.0 (laid rest) refl refl refl others.1, ap (λ ns. name_at table l ∷ ns) others.2, ap (λ k. suc k) others.3)

  -- `,` or `.` stands in front
  abbrev pub marks_binders : List What → Bool
  marks_binders ws = fronted (is_mark mark.Comma) (laid ws) || fronted (is_mark mark.Dot) (laid ws)

  binders_begin : (n l : ℕ) (ws : List What) → begins_binders (laid (words (name_piece l ∷ further_binder_pieces (l + 1) n) ++ ws)) ≡ true
  binders_begin zero l ws = refl
  binders_begin (suc n) l ws = refl

  -- the names of printed binders are held
  further_named : (n l : ℕ) → AllHeld table (further_binder_pieces l n) → (j : ℕ) → j < n → IsNamed table (l + j)
  further_named zero l h j lt = absurd (omega (arith, lt))
  further_named (suc n) l h zero lt = let same : l ≡ l + 0 = omega arith in subst (IsNamed table) same h.1.0
  further_named (suc n) l h (suc j) lt = let same : l + 1 + j ≡ l + suc j = omega arith in subst (IsNamed table) same (further_named n (l + 1) h.1.1 j (omega (arith, lt)))

  binders_named : (n l : ℕ) → AllHeld table (binder_pieces l n) → (j : ℕ) → j < n → IsNamed table (l + j)
  binders_named zero l h j lt = absurd (omega (arith, lt))
  binders_named (suc n) l h zero lt = let same : l ≡ l + 0 = omega arith in subst (IsNamed table) same h.0
  binders_named (suc n) l h (suc j) lt = let same : l + 1 + j ≡ l + suc j = omega arith in subst (IsNamed table) same (further_named n (l + 1) h.1 j (omega (arith, lt)))

  op_again : (o : Sym) (text : List ℕ) → text ≡ text_of names o.0 → is_text kind.Small text ≡ true → sym_of table text ≡ o
  op_again o [] same h = absurd (true≢false (sym h))
  op_again o (b ∷ bs) same h = sym_again names table o (b ∷ bs) e distinct (has_name names o.0 b bs (sym same) ∙ ap (λ (t : List ℕ). Some t) (sym same))

  abbrev sub_words : ℕ → List Bound → List What
  sub_words s ks = words (list_pieces (mark_piece (codes "{")) (mark_piece (codes "}")) (map (pieces_at s) (map (bound_pieces names) ks)))

  op_words : (o : Sym) (ps : List Param) (ks : List Bound) (s : ℕ) (rest : List What) → words (term_pieces names (term.Op o ps ks) s) ++ rest ≡ what.Small (sym_of table (text_of names o.0)) (keyword_of (text_of names o.0)) ∷ (param_words ps ++ (sub_words s ks ++ rest))
  op_words o ps ks s rest =
      let params = list_pieces (mark_piece (codes "[")) (mark_piece (codes "]")) (each_param names ps) in
      let subs = list_pieces (mark_piece (codes "{")) (mark_piece (codes "}")) (map (pieces_at s) (map (bound_pieces names) ks)) in
      let head = what.Small (sym_of table (text_of names o.0)) (keyword_of (text_of names o.0)) in
      ap (λ ps. words ps ++ rest) (pieces-Op names o ps ks s) ∙ ap (λ ws. head ∷ (ws ++ rest)) (map-append (what_of table) params subs) ∙ ap (λ ws. head ∷ ws) (append_assoc (words params) (words subs) rest)

  -- no printed term looks like binders
  no_binders_op : (o : Sym) (ps : List Param) (ks : List Bound) (s : ℕ) (rest : List What) → marks_binders rest ≡ false → marks_binders (param_words ps ++ (sub_words s ks ++ rest)) ≡ false
  no_binders_op o [] [] s rest h = h
  no_binders_op o [] (k ∷ ks) s rest h = refl
  no_binders_op o (p ∷ ps) ks s rest h = refl

  no_binders : (t : Term) (s : ℕ) (rest : List What) → marks_binders rest ≡ false → begins_binders (laid (words (term_pieces names t s) ++ rest)) ≡ false
  no_binders = each_term (λ t. (s : ℕ) (rest : List What) → marks_binders rest ≡ false → begins_binders (laid (words (term_pieces names t s) ++ rest)) ≡ false)
      (λ l s rest h. ap (λ ps. begins_binders (laid (words ps ++ rest))) (pieces-Var names l s))
      (λ o ps ks f s rest h. ap (λ ws. begins_binders (laid ws)) (op_words o ps ks s rest) ∙ no_binders_op o ps ks s rest h)

  -- so many names are free
  module _ (free : ℕ) (low : free < 2 ^ 31) where
    abbrev pub EnvNamed : ℕ → Type 0
    EnvNamed n = (j : ℕ) → j < n → IsNamed table (free + j)

    abbrev pub env : ℕ → List Sym
    env n = names_from table free n

    -- these words are read as the term, where n names are bound, at depth d
    pub record Again (t : Term) (n d : ℕ) (ts rest : List What) : Type 0 where
      pub raw : RawTerm
      pub is : a_term (laid ts) ≡ read raw (laid rest)
      pub value : value_of free raw (env n) ≡ t
      pub faultless : faults_of free raw (env n) d ≡ []
      pub size : raw_size_of raw ≡ size_of t

    -- these words are read as the subterm
    pub record BoundAgain (k : Bound) (n d : ℕ) (ts rest : List What) : Type 0 where
      pub raw : RawBound
      pub is : bound_by a_term (laid ts) ≡ read raw (laid rest)
      pub value : bound_value_of free raw (env n) ≡ k
      pub faultless : bound_faults_of free raw (env n) d ≡ []
      pub size : raw_size_bound raw ≡ size_bound k

    record BoundsAgain (ks : List Bound) (n d : ℕ) (ts rest : List What) : Type 0 where
      raws : List RawBound
      is : bounds_by a_term (laid ts) ≡ read raws (laid rest)
      value : each_subterm_value (map (bound_value_of free) raws) (env n) ≡ ks
      faultless : each_faults (map (bound_faults_of free) raws) (env n) d ≡ []
      size : sum (map raw_size_bound raws) ≡ sum (map size_bound ks)

    record SubsAgain (ks : List Bound) (n d : ℕ) (ts rest : List What) : Type 0 where
      raws : List RawBound
      is : subs_by a_term (laid ts) ≡ read raws (laid rest)
      value : each_subterm_value (map (bound_value_of free) raws) (env n) ≡ ks
      faultless : each_faults (map (bound_faults_of free) raws) (env n) d ≡ []
      size : sum (map raw_size_bound raws) ≡ sum (map size_bound ks)

    abbrev pub ReadsAgain : Term → Type 0
    ReadsAgain t = (s n m d : ℕ) → s ≡ free + n → Fits names s m t → d + m ≤ 201 → EnvNamed n → AllHeld table (term_pieces names t s) → (rest : List What) → IsClosed rest → Again t n d (words (term_pieces names t s) ++ rest) rest

    again_var : (l : ℕ) → ReadsAgain (term.Var l)
    again_var l s n m d is h lim named held rest c =
        let k = numbered_of (name_text l) in
        let ts = what.SmallVar (name_at table l) k ∷ rest in
        let place = at (length ts) in
        let r : RawTerm = Var (name_at table l) k place in
        let lt = var_fits names l s m h in
        let narrow = h.narrow in
        let here : IsNamed table l = (subst (AllHeld table) (pieces-Var names l s) held).0 in
        let level = level_again table free n l low (omega (arith, is, narrow)) (omega (arith, is, lt)) named here in
        let one = h.shallow in
        let depth = depth-Var l in
        subst (λ ws. Again (term.Var l) n d ws rest) (sym (ap (λ ps. words ps ++ rest) (pieces-Var names l s)))
        record {
          raw = r;
          is = variable_is r (laid ts) (laid rest) refl refl;
          value = value-Var free (name_at table l) k place (env n) ∙ ap (λ o. term.Var (unwrap_or o 0)) level;
          faultless = faults-Var free (name_at table l) k place (env n) d ∙ ap (λ fs. fs ++ unless_bound place (level_of free (env n) (name_at table l) k)) (shallow d place (omega (arith, one, depth, lim))) ∙ ap (unless_bound place) level;
          size = raw_size-Var (name_at table l) k place ∙ sym (size-Var l);
        }

    -- more names are bound
    more_named : (n b s : ℕ) → s ≡ free + n → EnvNamed n → ((j : ℕ) → j < b → IsNamed table (s + j)) → EnvNamed (n + b)
    more_named n b s is named further j lt = by (nat_lt j n) refl
      where
        by : (t : Bool) → nat_lt j n ≡ t → IsNamed table (free + j)
        by true q = named j (grind (arith, nat_tests, q))
        by false q =
            let over : n ≤ j = grind (arith, nat_tests, q) in
            let same : s + (j - n) ≡ free + j = omega (arith, is, over) in
            subst (IsNamed table) same (further (j - n) (omega (arith, over, lt)))

    -- a printed term after so many binders is read again
    pub bound_again_at : (b : ℕ) (t : Term) → ReadsAgain t → (s n m d : ℕ) → s ≡ free + n → b ≤ 8 → Fits names (s + b) m t → d + m ≤ 201 → EnvNamed n → AllHeld table (binder_pieces s b ++ term_pieces names t (s + b)) → (rest : List What) → IsClosed rest → marks_binders rest ≡ false
        → BoundAgain (record { binders = b; body = t }) n d (words (binder_pieces s b ++ term_pieces names t (s + b)) ++ rest) rest
    bound_again_at zero t f s n m d is few h lim named held rest c mk =
        let a = f (s + 0) n m d (omega (arith, is)) h lim named held rest c in
        let ts = words (term_pieces names t (s + 0)) ++ rest in
        let r : RawBound = record { binders = []; body = a.raw } in
        let k : Bound = record { binders = 0; body = t } in
        let same : value_of free a.raw (env n ++ []) ≡ t = ap (value_of free a.raw) (append-nil (env n)) ∙ a.value in
        record {
          raw = r;
          is = bound_is (laid ts) (laid ts) (laid rest) [] a.raw (no_binders_are (laid ts) (no_binders t (s + 0) rest mk)) a.is;
          value = bound_value-is free r (env n) ∙ ap (λ (u : Term). record { binders = 0; body = u }) same;
          faultless = bound_faults-is free r (env n) d ∙ ap (λ fs. fs ++ faults_of free a.raw (env n ++ []) d) (few_enough (λ (b : RawName). b.at) 8 [] (omega arith)) ∙ ap (λ ns. faults_of free a.raw ns d) (append-nil (env n)) ∙ a.faultless;
          size = raw_size_bound-is r ∙ a.size ∙ sym (size_bound-is k);
        }
    bound_again_at (suc b) t f s n m d is few h lim named held rest c mk =
        let binders = binder_pieces s (suc b) in
        let body = term_pieces names t (s + suc b) in
        let named_here = binders_named (suc b) s (held_front table binders body held) in
        let a = f (s + suc b) (n + suc b) m d (omega (arith, is)) h lim (more_named n (suc b) s is named named_here) (held_back table binders body held) rest c in
        let ws = words body ++ rest in
        let bs = binders_again b s ws in
        let ts = words binders ++ ws in
        let k : Bound = record { binders = suc b; body = t } in
        let r : RawBound = record { binders = bs.0; body = a.raw } in
        let split : ts ≡ words (binders ++ body) ++ rest = sym (ap (λ us. us ++ rest) (map-append (what_of table) binders body) ∙ append_assoc (words binders) (words body) rest) in
        let longer : env n ++ names_of bs.0 ≡ env (n + suc b) = ap (λ ns. env n ++ ns) (bs.2 ∙ ap (λ l. names_from table l (suc b)) is) ∙ names_join table n free (suc b) in
        let same : value_of free a.raw (env n ++ names_of bs.0) ≡ t = ap (value_of free a.raw) longer ∙ a.value in
        let count = bs.3 in
        record {
          raw = r;
          is = ap (λ us. bound_by a_term (laid us)) (sym split) ∙ bound_is (laid ts) (laid ws) (laid rest) bs.0 a.raw (binders_are (laid ts) (laid ws) bs.0 (binders_begin b s ws) bs.1) a.is;
          value = bound_value-is free r (env n) ∙ (λ i. record { binders = bs.3 i; body = same i });
          faultless = bound_faults-is free r (env n) d ∙ ap (λ fs. fs ++ faults_of free a.raw (env n ++ names_of bs.0) d) (few_enough (λ (b : RawName). b.at) 8 bs.0 (omega (arith, few, count))) ∙ ap (λ ns. faults_of free a.raw ns d) longer ∙ a.faultless;
          size = raw_size_bound-is r ∙ a.size ∙ sym (size_bound-is k);
        }

    bound_again : (k : Bound) → ReadsAgain k.body → (s n m d : ℕ) → s ≡ free + n → FitBound names s m k → d + m ≤ 201 → EnvNamed n → AllHeld table (bound_pieces names k s) → (rest : List What) → IsClosed rest → marks_binders rest ≡ false
        → BoundAgain k n d (words (bound_pieces names k s) ++ rest) rest
    bound_again k f s n m d is h lim named held rest c mk =
        let p = bound_pieces-is names k s in
        subst (λ ps. BoundAgain k n d (words ps ++ rest) rest) (sym p) (bound_again_at k.binders k.body f s n m d is h.count h.body lim named (subst (AllHeld table) p held) rest c mk)

    bounds_again : (k : Bound) (ks : List Bound) → OfEachBody ReadsAgain (k ∷ ks) → (s n m d : ℕ) → s ≡ free + n → FitBounds names s m (k ∷ ks) → d + m ≤ 201 → EnvNamed n
        → AllHeld table (bound_pieces names k s ++ further_pieces (mark_piece (codes "}")) (map (pieces_at s) (map (bound_pieces names) ks))) → (rest : List What)
        → BoundsAgain (k ∷ ks) n d (words (bound_pieces names k s ++ further_pieces (mark_piece (codes "}")) (map (pieces_at s) (map (bound_pieces names) ks))) ++ rest) rest
    bounds_again k [] f s n m d is h lim named held rest =
        let one = bound_pieces names k s in
        let us = what.Mark mark.CloseBrace ∷ rest in
        let a = bound_again k f.0 s n m d is (first_sub names k [] s m h) lim named (held_front table one (mark_piece (codes "}") ∷ []) held) us (refl, refl) refl in
        let ts = words one ++ us in
        let split : ts ≡ words (one ++ mark_piece (codes "}") ∷ []) ++ rest = sym (ap (λ ws. ws ++ rest) (map-append (what_of table) one (mark_piece (codes "}") ∷ [])) ∙ append_assoc (words one) (what.Mark mark.CloseBrace ∷ []) rest) in
        record {
          raws = a.raw ∷ [];
          is = ap (λ ws. bounds_by a_term (laid ws)) (sym split) ∙ row_one (bound_by a_term) (is_mark mark.Semicolon) (is_mark mark.CloseBrace) (bound_shrinks a_term term_shrinks) (laid ts) a.raw (laid us) a.is refl;
          value = ap (λ (b : Bound). b ∷ []) a.value;
          faultless = ap (λ fs. fs ++ []) a.faultless;
          size = ap (λ j. sum (j ∷ [])) a.size;
        }
    bounds_again k (j ∷ ks) f s n m d is h lim named held rest =
        let one = bound_pieces names k s in
        let next = bound_pieces names j s ++ further_pieces (mark_piece (codes "}")) (map (pieces_at s) (map (bound_pieces names) ks)) in
        let further = mark_piece (codes ";") ∷ next in
        let vs = words next ++ rest in
        let us = what.Mark mark.Semicolon ∷ vs in
        let a = bound_again k f.0 s n m d is (first_sub names k (j ∷ ks) s m h) lim named (held_front table one further held) us (refl, refl) refl in
        let others = bounds_again j ks f.1 s n m d is (further_subs names k (j ∷ ks) s m h) lim named (held_back table one further held).1 rest in
        let ts = words one ++ us in
        let split : ts ≡ words (one ++ further) ++ rest = sym (ap (λ ws. ws ++ rest) (map-append (what_of table) one further) ∙ append_assoc (words one) (words further) rest) in
        let raws = a.raw ∷ others.raws in
        record {
          raws = raws;
          is = ap (λ ws. bounds_by a_term (laid ws)) (sym split) ∙ row_cons (bound_by a_term) (is_mark mark.Semicolon) (is_mark mark.CloseBrace) (bound_shrinks a_term term_shrinks) (laid ts) a.raw (laid us) others.raws (laid rest) a.is refl refl others.is;
          value = (λ i. a.value i ∷ others.value i);
          faultless = ap (λ fs. fs ++ each_faults (map (bound_faults_of free) others.raws) (env n) d) a.faultless ∙ others.faultless;
          size = sum_by-cons (λ j. j) (raw_size_bound a.raw) (map raw_size_bound others.raws) ∙ (λ i. a.size i + others.size i) ∙ sym (sum_by-cons (λ j. j) (size_bound k) (map size_bound (j ∷ ks)));
        }

    subs_again : (ks : List Bound) → OfEachBody ReadsAgain ks → (s n m d : ℕ) → s ≡ free + n → FitBounds names s m ks → d + m ≤ 201 → EnvNamed n → AllHeld table (list_pieces (mark_piece (codes "{")) (mark_piece (codes "}")) (map (pieces_at s) (map (bound_pieces names) ks)))
        → (rest : List What) → IsClosed rest → SubsAgain ks n d (sub_words s ks ++ rest) rest
    subs_again [] f s n m d is h lim named held rest c = record { raws = []; is = ap (λ b. which b (bounds_by a_term (drop 1 (laid rest))) (read [] (laid rest))) c.1; value = refl; faultless = refl; size = refl }
    subs_again (k ∷ ks) f s n m d is h lim named held rest c =
        let a = bounds_again k ks f s n m d is h lim named held.1 rest in
        record { raws = a.raws; is = a.is; value = a.value; faultless = a.faultless; size = a.size }

    no_bracket : (s : ℕ) (ks : List Bound) (rest : List What) → IsClosed rest → fronted (is_mark mark.OpenBracket) (laid (sub_words s ks ++ rest)) ≡ false
    no_bracket s [] rest c = c.0
    no_bracket s (k ∷ ks) rest c = refl

    again_op : (o : Sym) (ps : List Param) (ks : List Bound) → OfEachBody ReadsAgain ks → ReadsAgain (term.Op o ps ks)
    again_op o ps ks f s n m d is h lim named held rest c =
        let text = text_of names o.0 in
        let us = param_words ps ++ (sub_words s ks ++ rest) in
        let ts = what.Small (sym_of table text) (keyword_of text) ∷ us in
        let place = at (length ts) in
        let n_is : RawName = record { name = sym_of table text; at = place } in
        let sym_is = op_again o text refl (op_named names o ps ks s m h) in
        let some = some_depth names o ps ks s m h in
        let params_fit = op_params names o ps ks s m h in
        let all = subst (AllHeld table) (pieces-Op names o ps ks s) held in
        let subs_held = held_back table (list_pieces (mark_piece (codes "[")) (mark_piece (codes "]")) (each_param names ps)) (list_pieces (mark_piece (codes "{")) (mark_piece (codes "}")) (map (pieces_at s) (map (bound_pieces names) ks))) all.1 in
        let ps_again = all_params_again ps (sub_words s ks ++ rest) params_fit.1 (no_bracket s ks rest c) in
        let subs = subs_again ks f s n (m - 1) (d + 1) is (op_subs names o ps ks s m h) (omega (arith, some, lim)) named subs_held rest c in
        let r : RawTerm = Op (sym_of table text) ps_again.0 subs.raws place in
        let count : length ps_again.0 ≤ 16 = (let a = params_fit.0 in let b = length-values ps_again.0 in let e = ap length ps_again.2 in omega (arith, a, b, e)) in
        let each = each_faults (map (bound_faults_of free) subs.raws) (env n) (d + 1) in
        subst (λ ws. Again (term.Op o ps ks) n d ws rest) (sym (op_words o ps ks s rest))
        record {
          raw = r;
          is = operator_is n_is (laid ts) (laid us) refl refl refl ps_again.0 (laid (sub_words s ks ++ rest)) ps_again.1 subs.raws (laid rest) subs.is;
          value = value-Op free (sym_of table text) ps_again.0 subs.raws place (env n) ∙ (λ i. term.Op (sym_is i) (ps_again.2 i) (subs.value i));
          faultless = faults-Op free (sym_of table text) ps_again.0 subs.raws place (env n) d
              ∙ ap (λ fs. fs ++ too_many (λ p. p.at) 16 ps_again.0 ++ each) (shallow d place (omega (arith, some, lim))) ∙ ap (λ fs. fs ++ each) (few_enough (λ (p : RawParam). p.at) 16 ps_again.0 count) ∙ subs.faultless;
          size = raw_size-Op (sym_of table text) ps_again.0 subs.raws place ∙ ap (λ j. 1 + j) subs.size ∙ sym (size-Op o ps ks);
        }

    -- a printed term is read again
    pub term_again : (t : Term) → ReadsAgain t
    term_again = each_term ReadsAgain again_var again_op

  abbrev WithoutFree : Type 0
  WithoutFree = 0 < 2 ^ 31

  without_free : WithoutFree
  without_free = omega arith

  abbrev HypsNamed : ℕ → Type 0
  HypsNamed n = (j : ℕ) → j < n → IsNamed table (0 + j)

  env_next : (l : ℕ) → names_from table 0 l ++ name_at table l ∷ [] ≡ names_from table 0 (l + 1)
  env_next l = let same : l ≡ 0 + l = omega arith in ap (λ k. names_from table 0 l ++ name_at table k ∷ []) same ∙ names_join table l 0 1

  named_next : (l : ℕ) → HypsNamed l → IsNamed table l → HypsNamed (l + 1)
  named_next l named here =
      let scope : l ≡ 0 + l = omega arith in
      more_named 0 without_free l 1 l scope named (λ j b. (let same : l ≡ l + j = omega (arith, b) in subst (IsNamed table) same here))

  -- one hypothesis of this level is read again
  record HypAgain (t : Term) (l : ℕ) (ts rest : List What) : Type 0 where
    raw : RawHyp
    is : hyp (laid ts) ≡ read raw (laid rest)
    name : raw.name ≡ name_at table l
    value : value_of 0 raw.term (names_from table 0 l) ≡ t
    faultless : faults_of 0 raw.term (names_from table 0 l) 1 ≡ []
    size : raw_size_of raw.term ≡ size_of t

  hyp_again : (t : Term) (l : ℕ) (further : List Piece) (rest : List What) → Fits names l 200 t → HypsNamed l → AllHeld table (hyp_pieces names l t ++ further) → IsClosed (words further ++ rest)
      → HypAgain t l (words (hyp_pieces names l t ++ further) ++ rest) (words further ++ rest)
  hyp_again t l further rest fit named held closed =
      let body = term_pieces names t l in
      let after = words further ++ rest in
      let us = words body ++ after in
      let ts = words (hyp_pieces names l t ++ further) ++ rest in
      let kw = keyword_of (name_text l) in
      let scope : l ≡ 0 + l = omega arith in
      let a = term_again 0 without_free t l l 200 1 scope fit (omega arith) named (held_front table body further held.1.1) after closed in
      let split : words (body ++ further) ++ rest ≡ us = ap (λ ws. ws ++ rest) (map-append (what_of table) body further) ∙ append_assoc (words body) (words further) rest in
      let n_is : RawName = record { name = name_at table l; at = at (length (what.Small (name_at table l) kw ∷ what.Mark mark.Colon ∷ us)) } in
      record {
        raw = record { name = name_at table l; term = a.raw; at = at (length ts) };
        is = ap (λ ws. hyp (laid (what.Small (name_at table l) kw ∷ what.Mark mark.Colon ∷ ws))) split
            ∙ ap (λ o. then_read (then_read o (λ x vs. read (pair n_is x) vs)) (λ p vs. read (hyp_of p) vs)) a.is
            ∙ ap (λ ws. read (let r : RawHyp = record { name = name_at table l; term = a.raw; at = at (length (what.Small (name_at table l) kw ∷ what.Mark mark.Colon ∷ ws)) } in r) (laid after)) (sym split);
        name = refl;
        value = a.value;
        faultless = a.faultless;
        size = a.size;
      }

  -- hypotheses from this level on are read again
  record HypsAgain (hs : List Term) (l : ℕ) (ts rest : List What) : Type 0 where
    raws : List RawHyp
    is : row hyp (is_mark mark.Semicolon) (is_mark mark.Turnstile) (laid ts) ≡ read raws (laid rest)
    value : hyps_value raws (names_from table 0 l) ≡ hs
    faultless : hyps_faults raws (names_from table 0 l) ≡ []
    size : sum_by (λ h. raw_size_of h.term) raws ≡ sum_by size_of hs
    bound_names : hyp_names raws ≡ names_from table l (length hs)
    named : HypsNamed (l + length hs)

  hyps_again : (t : Term) (hs : List Term) (l : ℕ) → FitHyps names l (t ∷ hs) → HypsNamed l → AllHeld table (hyp_pieces names l t ++ further_hyp_pieces names (l + 1) hs) → (rest : List What)
      → HypsAgain (t ∷ hs) l (words (hyp_pieces names l t ++ further_hyp_pieces names (l + 1) hs) ++ rest) rest
  hyps_again t [] l fit named held rest =
      let further = further_hyp_pieces names (l + 1) [] in
      let us = words further ++ rest in
      let ts = words (hyp_pieces names l t ++ further) ++ rest in
      let f = hyp_again t l further rest fit.0 named held (refl, refl) in
      record {
        raws = f.raw ∷ [];
        is = row_one hyp (is_mark mark.Semicolon) (is_mark mark.Turnstile) hyp_shrinks (laid ts) f.raw (laid us) f.is refl;
        value = ap (λ (v : Term). v ∷ []) f.value;
        faultless = ap (λ fs. fs ++ []) f.faultless;
        size = sum_by-cons (λ (h : RawHyp). raw_size_of h.term) f.raw [] ∙ ap (λ j. j + 0) f.size ∙ sym (sum_by-cons size_of t []);
        bound_names = ap (λ (n : Sym). n ∷ []) f.name;
        named = named_next l named held.0;
      }
  hyps_again t (u ∷ hs) l fit named held rest =
      let further = further_hyp_pieces names (l + 1) (u ∷ hs) in
      let vs = words (hyp_pieces names (l + 1) u ++ further_hyp_pieces names (l + 1 + 1) hs) ++ rest in
      let us = what.Mark mark.Semicolon ∷ vs in
      let ts = words (hyp_pieces names l t ++ further) ++ rest in
      let f = hyp_again t l further rest fit.0 named held (refl, refl) in
      let others = hyps_again u hs (l + 1) fit.1 (named_next l named held.0) (held_back table (term_pieces names t l) further held.1.1).1 rest in
      let raws = f.raw ∷ others.raws in
      let env_is : names_from table 0 l ++ f.raw.name ∷ [] ≡ names_from table 0 (l + 1) = ap (λ n. names_from table 0 l ++ n ∷ []) f.name ∙ env_next l in
      let values : hyps_value others.raws (names_from table 0 l ++ f.raw.name ∷ []) ≡ u ∷ hs = ap (hyps_value others.raws) env_is ∙ others.value in
      let none : hyps_faults others.raws (names_from table 0 l ++ f.raw.name ∷ []) ≡ [] = ap (hyps_faults others.raws) env_is ∙ others.faultless in
      let far : l + 1 + length (u ∷ hs) ≡ l + length (t ∷ u ∷ hs) = omega arith in
      record {
        raws = raws;
        is = row_cons hyp (is_mark mark.Semicolon) (is_mark mark.Turnstile) hyp_shrinks (laid ts) f.raw (laid us) others.raws (laid rest) f.is refl refl others.is;
        value = (λ i. f.value i ∷ values i);
        faultless = ap (λ fs. fs ++ hyps_faults others.raws (names_from table 0 l ++ f.raw.name ∷ [])) f.faultless ∙ none;
        size = sum_by-cons (λ (h : RawHyp). raw_size_of h.term) f.raw others.raws ∙ (λ i. f.size i + others.size i) ∙ sym (sum_by-cons size_of t (u ∷ hs));
        bound_names = (λ i. f.name i ∷ others.bound_names i);
        named = subst HypsNamed far others.named;
      }

  -- these words are read as the sequent
  pub record SequentAgain (s : Sequent) (ts rest : List What) : Type 0 where
    pub raw : RawSequent
    pub is : sequent (laid ts) ≡ read raw (laid rest)
    pub value : sequent_value raw ≡ s
    pub faultless : sequent_faults raw ≡ []

  -- the parts of a sequent, put together
  whole_again : (s : Sequent) (hs : List RawHyp) (r : RawTerm) (ts us rest : List What) → hyps (laid ts) ≡ read hs (laid us) → a_term (laid us) ≡ read r (laid rest) → hyps_value hs [] ≡ s.hyps → hyps_faults hs [] ≡ [] → sum_by (λ h. raw_size_of h.term) hs ≡ sum_by size_of s.hyps
      → hyp_names hs ≡ names_from table 0 (length s.hyps) → length hs ≤ 200 → value_of 0 r (names_from table 0 (length s.hyps)) ≡ s.concl → faults_of 0 r (names_from table 0 (length s.hyps)) 1 ≡ [] → raw_size_of r ≡ size_of s.concl
      → sequent_size_of s ≤ 20000 → SequentAgain s ts rest
  whole_again s hs r ts us rest is_hyps is_concl hyps_are none_hyps size_hyps bound_names few concl_is none size small =
      let place = front_at (laid ts) in
      let raw : RawSequent = record { hyps = hs; concl = r; at = place } in
      let m = too_many (λ (h : RawHyp). h.at) 200 hs in
      let cs = faults_of 0 r (hyp_names hs) 1 in
      let z = fault_if (nat_lt 20000 (raw_sequent_size_of raw)) place why.TooBig in
      let value : value_of 0 r (hyp_names hs) ≡ s.concl = ap (value_of 0 r) bound_names ∙ concl_is in
      let total : raw_sequent_size_of raw ≡ sequent_size_of s = (λ i. size_hyps i + size i) in
      record {
        raw = raw;
        is = sequent_is (laid ts) (laid us) (laid rest) hs r is_hyps is_concl;
        value = (λ i. record { hyps = hyps_are i; concl = value i });
        faultless = ap (λ fs. fs ++ hyps_faults hs [] ++ cs ++ z) (few_enough (λ (h : RawHyp). h.at) 200 hs few) ∙ ap (λ fs. fs ++ cs ++ z) none_hyps ∙ ap (λ ns. faults_of 0 r ns 1 ++ z) bound_names ∙ ap (λ fs. fs ++ z) none
            ∙ few_nodes (raw_sequent_size_of raw) place (omega (arith, total, small));
      }

  length-names : (hs : List RawHyp) (n : ℕ) (l : ℕ) → hyp_names hs ≡ names_from table l n → length hs ≡ n
  length-names hs n l e = sym (length-hyp_names hs) ∙ ap length e ∙ length-names_from table n l

  sequent_by : (hs : List Term) (c : Term) (rest : List What) → FitHyps names 0 hs → Fits names (length hs) 200 c → length hs ≤ 200 → (let s : Sequent = record { hyps = hs; concl = c } in sequent_size_of s ≤ 20000 → AllHeld table (sequent_pieces names s) → IsClosed rest
      → SequentAgain s (words (sequent_pieces names s) ++ rest) rest)
  sequent_by [] c rest fit_hyps fit few small held closed =
      let us = words (term_pieces names c 0) ++ rest in
      let a = term_again 0 without_free c 0 0 200 1 (omega arith) fit (omega arith) (λ j lt. absurd (omega (arith, lt))) held.1 rest closed in
      whole_again (record { hyps = []; concl = c }) [] a.raw (what.Mark mark.Turnstile ∷ us) us rest refl a.is refl refl refl refl few a.value a.faultless a.size small
  sequent_by (t ∷ hs) c rest fit_hyps fit few small held closed =
      let s : Sequent = record { hyps = t ∷ hs; concl = c } in
      let n = length (t ∷ hs) in
      let further = further_hyp_pieces names 1 hs in
      let front = hyp_pieces names 0 t ++ further in
      let body = term_pieces names c n in
      let us = words body ++ rest in
      let ts = words front ++ us in
      let split : ts ≡ words (front ++ body) ++ rest = sym (ap (λ ws. ws ++ rest) (map-append (what_of table) front body) ∙ append_assoc (words front) (words body) rest) in
      let h = hyps_again t hs 0 fit_hyps (λ j lt. absurd (omega (arith, lt))) (held_front table front body held) us in
      let scope : n ≡ 0 + n = omega arith in
      let a = term_again 0 without_free c n n 200 1 scope fit (omega arith) (subst HypsNamed (sym scope) h.named) (held_back table front body held) rest closed in
      let count = length-names h.raws n 0 h.bound_names in
      subst (λ ws. SequentAgain s ws rest) split
      (whole_again s h.raws a.raw ts us rest h.is a.is h.value h.faultless h.size h.bound_names (omega (arith, count, few)) a.value a.faultless a.size small)

  -- a printed sequent is read again
  pub sequent_again : (s : Sequent) (rest : List What) → FitHyps names 0 s.hyps → Fits names (length s.hyps) 200 s.concl → length s.hyps ≤ 200 → sequent_size_of s ≤ 20000 → AllHeld table (sequent_pieces names s) → IsClosed rest
      → SequentAgain s (words (sequent_pieces names s) ++ rest) rest
  sequent_again s rest fit_hyps fit few small held closed = sequent_by s.hyps s.concl rest fit_hyps fit few small held closed
