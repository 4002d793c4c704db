-- What is printed of a step is read again as that step.
use Rattle.std.proofs.Common.{◌≡◌, ◌++◌, ℕ, Bool, false, map, ap, sym, ◌∙◌, arith}
use Rattle.std.proofs.lemmas.List.{map-append}
use Rattle.mp_names.proofs.Tables.{extends_on}
use Rattle.mp_words.specs.declared.word.Keyword.TheVariants as keyword
use Rattle.mp_words.specs.declared.word.Word.{Word}
use Rattle.mp_words.specs.Fronts.{is_word}
use Rattle.mp_words.specs.Grammars.{fronted, read}
use Rattle.mp_words.specs.Words.{names_after, what_of, whats_of}
use Rattle.mp_words.proofs.Later.{names_after_extends, whats_by_last}
use Rattle.mp_words.proofs.TableFacts.{all_held, distinct_after}
use Rattle.mp_termtext.proofs.Laid.{at_left, laid_again, laid_at, laid_rest, whats}
use Rattle.mp_termtext.proofs.LexedAgain.{whole_lexes}
use Rattle.mp_steptext.specs.Printing.{just_text}
use Rattle.mp_steptext.specs.Round.{PrintedStepIsRead}
use Rattle.mp_steptext.specs.Terms.{step_with_terms}
use Rattle.mp_steptext.proofs.StepAgain.{step_again}
use Rattle.mp_steptext.proofs.StepLexed.{step_lexes}
use Rattle.mp_steptext.proofs.StepPieces.{just_pieces}
use Rattle.mp_steptext.proofs.WrittenSteps.{fits}

pub step_is_read : PrintedStepIsRead
step_is_read names later t j extends distinct theory allowed written =
    let text = just_text names t j in
    let ps = just_pieces names t j in
    let table = names_after later ps in
    let lexed = whole_lexes 201 text ps (omega arith) (step_lexes names t j written (fits names t theory j allowed written)) in
    let further = extends_on names later table extends (names_after_extends later ps) in (
      lexed.0,
      lexed.1,
      λ ws rest same ends.
          let all = ws ++ rest in
          let at : ℕ → ℕ = at_left (λ w. w.at) 0 all in
          let opens : ℕ → Bool = at_left (λ w. w.opens_line) false all in
          let pieces : whats ws ≡ map (what_of table) ps = same ∙ ap (whats_of later) lexed.2 ∙ whats_by_last later ps in
          let rest_is : laid_at at opens (whats rest) ≡ rest = laid_rest ws rest in
          let all_is : all ≡ laid_at at opens (map (what_of table) ps ++ whats rest) = sym (laid_again all) ∙ ap (laid_at at opens) (map-append (λ (w : Word). w.what) ws rest ∙ ap (λ us. us ++ whats rest) pieces) in
          let a = step_again at opens names table further (distinct_after later ps distinct) t theory j allowed written (whats rest) (all_held later ps) (ap (fronted (is_word keyword.At)) rest_is ∙ ends.0, ap (fronted (is_word keyword.With)) rest_is ∙ ends.1) in
          record { raw = a.one; is = ap step_with_terms all_is ∙ a.is ∙ ap (read a.one) rest_is; faultless = a.faultless; value = a.value },
    )
