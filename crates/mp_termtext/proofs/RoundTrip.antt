-- What is printed of a value is read again as that value.
use Rattle.std.proofs.Common.{◌≡◌, ◌++◌, ◌+◌, ◌*◌, ◌≤◌, ℕ, List, [], ◌∷◌, Bool, true, false, None, nat_lt, nat_le, ◌&&◌, length, map, refl, ap, sym, ◌∙◌, append-nil, arith}
use Rattle.std.specs.List.{list_all}
use Rattle.std.proofs.lemmas.Bool.{and_parts}
use Rattle.std.proofs.lemmas.Bool.Decides.{nat_tests}
use Rattle.mp_names.proofs.Tables.{extends_on}
use Rattle.mp_lex.specs.declared.token.Token.{Token}
use Rattle.mp_term.specs.declared.term.Term.{Term}
use Rattle.mp_term.specs.Terms.{in_scope_of}
use Rattle.mp_term.specs.Limits.{few_binders_of, in_scopes_from, is_shallow, sequent_size_of}
use Rattle.mp_words.specs.declared.fail.TextWhy.TheVariants as why
use Rattle.mp_words.specs.Faults.{fault_if}
use Rattle.mp_words.specs.declared.word.Word.{Word}
use Rattle.mp_words.specs.Faults.{least}
use Rattle.mp_termtext.specs.Grammar.{sequent, term}
use Rattle.mp_termtext.specs.Printing.{sequent_text, term_text}
use Rattle.mp_termtext.specs.Round.{PrintedSequentIsRead, PrintedTermIsRead, is_written}
use Rattle.mp_termtext.specs.Statics.{at_of, raw_size_of, sequent_faults, term_faults}
use Rattle.mp_words.specs.Words.{Piece, names_after, pieces_of, what_of, whats_of, words_in}
use Rattle.mp_words.proofs.Answering.{one_fault_of}
use Rattle.mp_words.proofs.Later.{names_after_extends, whats_by_last, whats_in}
use Rattle.mp_termtext.proofs.Laid.{at_left, laid_again, laid_at}
use Rattle.mp_termtext.proofs.Rows.{whole_is}
use Rattle.mp_termtext.proofs.LexedAgain.{sequent_lexes, term_lexes, whole_lexes}
use Rattle.mp_termtext.proofs.PrintedPieces.{sequent_pieces, term_pieces}
use Rattle.mp_termtext.proofs.Printable.{FitHyps, Fits, most_levels}
use Rattle.mp_termtext.proofs.ReadAgain.{few_nodes, sequent_again, term_again}
use Rattle.mp_words.proofs.TableFacts.{all_held, distinct_after}

-- the places of words, and which of them open lines
abbrev places : List Word → ℕ → ℕ
places ws = at_left (λ w. w.at) 0 ws

abbrev openings : List Word → ℕ → Bool
openings ws = at_left (λ w. w.opens_line) false ws

-- the words of a text whose tokens have these pieces, by the table that it leaves
words_are : (later : List (List ℕ)) (text : List ℕ) (ts : List Token) (ps : List Piece) → pieces_of text ts ≡ ps
    → words_in later text ts ≡ laid_at (places (words_in later text ts)) (openings (words_in later text ts)) (map (what_of (names_after later ps)) ps ++ [])
words_are later text ts ps e =
    let ws = words_in later text ts in
    sym (laid_again ws) ∙ ap (laid_at (places ws) (openings ws)) (whats_in later text ts ∙ ap (whats_of later) e ∙ whats_by_last later ps ∙ sym (append-nil (map (what_of (names_after later ps)) ps)))

pub term_is_read : PrintedTermIsRead
term_is_read names later scope t extends distinct low fits =
    let text = term_text names t scope in
    let ps = term_pieces names t scope in
    let table = names_after later ps in
    let narrow : scope + 8 * 200 ≤ most_levels = omega (arith, low) in
    let fit : Fits names scope 200 t = record { scoped = fits.in_scope; few = fits.few; written = fits.written; shallow = fits.shallow; narrow = narrow } in
    let lexed = whole_lexes 200 text ps (omega arith) (term_lexes names t scope 200 fit) in
    let here : scope ≡ scope + 0 = omega arith in
    let ws = words_in later text lexed.0 in
    let a = term_again (places ws) (openings ws) names table (extends_on names later table extends (names_after_extends later ps)) (distinct_after later ps distinct) scope low t scope 0 200 1 here fit (omega arith) (λ j lt. absurd (omega (arith, lt))) (all_held later ps) [] (refl, refl) in
    let size = a.size in
    let small = fits.small in
    record {
      tokens = lexed.0;
      raw = a.raw;
      lexed = lexed.1;
      is = whole_is term ws a.raw (ap term (words_are later text lexed.0 ps lexed.2) ∙ a.is);
      faultless = one_fault_of (term_faults scope a.raw) None (sym (ap least (ap (λ fs. fs ++ fault_if (nat_lt 20000 (raw_size_of a.raw)) (at_of a.raw) why.TooBig) a.faultless ∙ few_nodes (raw_size_of a.raw) (at_of a.raw) (omega (arith, size, small)))));
      has = sym a.value;
    }

fit_hyps : (names : List (List ℕ)) (ts : List Term) (l : ℕ) → l + length ts ≤ 200 → in_scopes_from l ts ≡ true → list_all is_shallow ts ≡ true → list_all few_binders_of ts ≡ true → list_all (is_written names) ts ≡ true → FitHyps names l ts
fit_hyps names [] l w scoped shallow few written = tt
fit_hyps names (t ∷ ts) l w scoped shallow few written =
    let s = and_parts (in_scope_of t l) (in_scopes_from (l + 1) ts) scoped in
    let d = and_parts (is_shallow t) (list_all is_shallow ts) shallow in
    let f = and_parts (few_binders_of t) (list_all few_binders_of ts) few in
    let p = and_parts (is_written names t) (list_all (is_written names) ts) written in
    let depth = d.0 in
    (record { scoped = s.0; few = f.0; written = p.0; shallow = grind (arith, nat_tests, depth); narrow = omega (arith, w) }, fit_hyps names ts (l + 1) (omega (arith, w)) s.1 d.1 f.1 p.1)

pub sequent_is_read : PrintedSequentIsRead
sequent_is_read names later s extends distinct fits =
    let text = sequent_text names s in
    let ps = sequent_pieces names s in
    let table = names_after later ps in
    let further = extends_on names later table extends (names_after_extends later ps) in
    let n = length s.hyps in
    let limits = and_parts (nat_le n 200 && list_all is_shallow s.hyps && is_shallow s.concl) (nat_le (sequent_size_of s) 20000) fits.within in
    let depths = and_parts (nat_le n 200 && list_all is_shallow s.hyps) (is_shallow s.concl) limits.0 in
    let counts = and_parts (nat_le n 200) (list_all is_shallow s.hyps) depths.0 in
    let most = counts.0 in
    let few : n ≤ 200 = grind (arith, nat_tests, most) in
    let size = limits.1 in
    let small : sequent_size_of s ≤ 20000 = grind (arith, nat_tests, size) in
    let scopes = and_parts (in_scopes_from 0 s.hyps) (in_scope_of s.concl n) fits.in_scope in
    let binders = and_parts (list_all few_binders_of s.hyps) (few_binders_of s.concl) fits.few in
    let written = and_parts (list_all (is_written names) s.hyps) (is_written names s.concl) fits.written in
    let depth = depths.1 in
    let hyps_fit = fit_hyps names s.hyps 0 (omega (arith, few)) scopes.0 counts.1 binders.0 written.0 in
    let fit : Fits names n 200 s.concl = record { scoped = scopes.1; few = binders.1; written = written.1; shallow = grind (arith, nat_tests, depth); narrow = omega (arith, few) } in
    let lexed = whole_lexes 200 text ps (omega arith) (sequent_lexes names s hyps_fit fit) in
    let ws = words_in later text lexed.0 in
    let a = sequent_again (places ws) (openings ws) names table further (distinct_after later ps distinct) s [] hyps_fit fit few small (all_held later ps) (refl, refl) in
    record {
      tokens = lexed.0;
      raw = a.raw;
      lexed = lexed.1;
      is = whole_is sequent ws a.raw (ap sequent (words_are later text lexed.0 ps lexed.2) ∙ a.is);
      faultless = one_fault_of (sequent_faults a.raw) None (sym (ap least a.faultless));
      has = sym a.value;
    }
