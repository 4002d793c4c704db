-- How a text is read, one token further.
use Rattle.std.proofs.Common.{◌≡◌, ◌++◌, ℕ, List, [], ◌∷◌, drop, get_or, Ok, Err, refl, ap, sym, subst, ◌∙◌, append_assoc, append-nil}
use Rattle.mp_lex.specs.declared.token.Token.{Token}
use Rattle.mp_lex.specs.declared.token.LexWhy.{LexWhy}
use Rattle.mp_lex.specs.declared.token.Next.TheVariants as next
use Rattle.mp_lex.specs.Lex.{IsNext, Lexing, depth_after, found, found_from, lex, lex_from, with_front}
use Rattle.mp_lex.proofs.Passes.{front_push}
use Rattle.mp_words.specs.declared.word.Word.{Word}
use Rattle.mp_words.specs.declared.fail.TextWhy.{TextWhy}
use Rattle.mp_words.specs.declared.fail.TextFail.TheVariants as fail
use Rattle.mp_words.specs.Words.{names_after, names_with, piece_of, pieces_of, word_of, words_in}
use Rattle.mp_words.specs.Texts.{LexesText, error, of_lexical, table_after}
use Rattle.mp_words.proofs.Later.{names_last, words_last}

-- the tokens before this place are read: these are their words, and these the names
pub record ReadSoFar (old : List (List ℕ)) (source : List ℕ) (done : List Word) (names : List (List ℕ)) (at depth : ℕ) : Type 0 where
  pub before : List Token
  pub reads : lex source ≡ with_front before (lex_from 0 depth at (drop at source))
  pub finds : found source ≡ before ++ found_from 0 depth at (drop at source)
  pub words : done ≡ words_in old source before
  pub table : names ≡ names_after old (pieces_of source before)

front_none : (r : Lexing) → r ≡ with_front [] r
front_none (Ok ts) = refl
front_none (Err e) = refl

module _ (old : List (List ℕ)) (source : List ℕ) where
  pub none_read : (words : List Word) → words ≡ [] → ReadSoFar old source words old 0 0
  none_read words e = record { before = []; reads = front_none (lex source); finds = refl; words = e; table = refl }

  module _ (words : List Word) (names : List (List ℕ)) (at depth : ℕ) (so : ReadSoFar old source words names at depth) where
    pub one_read : (t : Token) (w : Word) (now : List Word) (later : List (List ℕ)) (to o : ℕ) → IsNext source at depth (next.Token t) → w ≡ word_of names source t → later ≡ names_with names (piece_of source t) → now ≡ words ++ w ∷ []
        → to ≡ t.to → o ≡ depth_after depth (get_or source t.from 0) → ReadSoFar old source now later to o
    one_read t w now later to o is e n p to_is o_is =
        subst (λ (k : ℕ). ReadSoFar old source now later k o) (sym to_is)
        (subst (λ (d : ℕ). ReadSoFar old source now later t.to d) (sym o_is)
        record {
          before = so.before ++ t ∷ [];
          reads = so.reads ∙ ap (with_front so.before) is.0 ∙ sym (front_push so.before t (lex_from 0 (depth_after depth (get_or source t.from 0)) t.to (drop t.to source)));
          finds = so.finds ∙ ap (λ ts. so.before ++ ts) is.1 ∙ sym (append_assoc so.before (t ∷ []) (found_from 0 (depth_after depth (get_or source t.from 0)) t.to (drop t.to source)));
          words = p ∙ (λ i. so.words i ++ (e ∙ ap (λ ns. word_of ns source t) so.table) i ∷ []) ∙ sym (words_last old source so.before t);
          table = n ∙ ap (λ ns. names_with ns (piece_of source t)) so.table ∙ sym (names_last old source so.before t);
        })

    found_before : found_from 0 depth at (drop at source) ≡ [] → table_after old source ≡ names
    found_before e = ap (λ ts. names_after old (pieces_of source ts)) (so.finds ∙ ap (λ ts. so.before ++ ts) e ∙ append-nil so.before) ∙ sym so.table

    pub all_read : IsNext source at depth next.End → LexesText old source (Ok words) names
    all_read is = (so.before, so.reads ∙ ap (with_front so.before) is.0 ∙ ap (λ (ts : List Token). Ok ts) (append-nil so.before), so.words, sym (found_before is.1))

    pub bad_read : (place : ℕ) (w : LexWhy) (reason : TextWhy) → IsNext source at depth (next.Bad place w) → reason ≡ of_lexical w → LexesText old source (Err (fail.Bad (error place reason))) names
    bad_read place w reason is e = (w, so.reads ∙ ap (with_front so.before) is.0, e, sym (found_before is.1))
