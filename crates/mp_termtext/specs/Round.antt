-- What is printed of a value is read again as that value.
use Rattle.std.specs.Prelude.{ℕ, ℤ, pos, negsuc, ◌^◌, ◌<◌, ◌≤◌, List, length, Bool, true, IsTrue, nat_le, nat_lt, ◌&&◌}
use Rattle.std.specs.List.{list_all}
use Rattle.mp_names.specs.Table.{AreDistinct, Extends, text_of}
use Rattle.mp_lex.specs.declared.token.Kind.TheVariants as kind
use Rattle.mp_lex.specs.Forms.{is_text}
use Rattle.mp_term.specs.declared.limits.TheConstants.{MOST_DEPTH, MOST_NODES, MOST_PARAMETERS}
use Rattle.mp_term.specs.declared.term.Param.{Param}
use Rattle.mp_term.specs.declared.term.Param.TheVariants.{Num, Str}
use Rattle.mp_term.specs.declared.term.Term.{Term, Term-F}
use Rattle.mp_term.specs.declared.term.Term.TheOpen as layer
use Rattle.mp_term.specs.declared.term.Term.TheFolds.{fold-Term}
use Rattle.mp_term.specs.declared.sequent.Sequent.{Sequent}
use Rattle.mp_term.specs.Terms.{all_true, body_step, depth_of, in_scope_of, size_of}
use Rattle.mp_term.specs.Limits.{few_binders_of, sequent_few_binders_of, sequent_in_scope_of, within_limits_of}
use Rattle.mp_termtext.specs.Printing.{quoted, sequent_text, term_text}
use Rattle.mp_termtext.specs.Reading.{IsSequentText, IsTermText}

-- the number fits 64 bits with a sign
abbrev pub fits_i64 : ℤ → Bool
fits_i64 (pos n) = nat_lt n 9223372036854775808
fits_i64 (negsuc n) = nat_lt n 9223372036854775808

-- a number that fits 64 bits, or a string of the table that fits between quotes
abbrev pub is_written_param : List (List ℕ) → Param → Bool
is_written_param names (Num n) = fits_i64 n
is_written_param names (Str sym) = nat_lt sym.0 (length names) && is_text kind.Str (quoted (text_of names sym.0))

-- whether a variable or an operator can be written, by whether its subterms can
abbrev pub written_step : List (List ℕ) → Term-F Bool Bool → Bool
written_step names (layer.Var level) = true
written_step names (layer.Op op params subs) =
    is_text kind.Small (text_of names op.0) && (nat_le (length params) MOST_PARAMETERS && (list_all (is_written_param names) params && all_true subs))

-- each operator is named by a name that begins with a small letter, and has at most 16 parameters, which can be written
abbrev pub is_written : List (List ℕ) → Term → Bool
is_written names = fold-Term Bool Bool (written_step names) body_step

-- each hypothesis and the conclusion of a sequent can be printed
abbrev pub is_written_sequent : List (List ℕ) → Sequent → Bool
is_written_sequent names s = list_all (is_written names) s.hyps && is_written names s.concl

-- the term is in its scope and within the limits, and can be written
pub record IsPrintable (names : List (List ℕ)) (scope : ℕ) (t : Term) : Type 0 where
  pub in_scope : IsTrue (in_scope_of t scope)
  pub shallow : depth_of t ≤ MOST_DEPTH
  pub small : size_of t ≤ MOST_NODES
  pub few : IsTrue (few_binders_of t)
  pub written : IsTrue (is_written names t)

-- the sequent's terms are in their scopes, it is within the limits, and can be written
pub record IsPrintableSequent (names : List (List ℕ)) (s : Sequent) : Type 0 where
  pub in_scope : IsTrue (sequent_in_scope_of s)
  pub within : IsTrue (within_limits_of s)
  pub few : IsTrue (sequent_few_binders_of s)
  pub written : IsTrue (is_written_sequent names s)

-- by each table of names that extends the one it is printed by, the text of a term is read as that term
abbrev pub PrintedTermIsRead : Type 0
PrintedTermIsRead = (names later : List (List ℕ)) (scope : ℕ) (t : Term) → Extends names later → AreDistinct later → scope < 2 ^ 31 → IsPrintable names scope t → IsTermText scope later (term_text names t scope) t

-- the printed text of a sequent is read as that sequent
abbrev pub PrintedSequentIsRead : Type 0
PrintedSequentIsRead = (names later : List (List ℕ)) (s : Sequent) → Extends names later → AreDistinct later → IsPrintableSequent names s → IsSequentText later (sequent_text names s) s
