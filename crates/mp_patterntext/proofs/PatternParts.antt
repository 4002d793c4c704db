-- The parts of patterns that don't speak of patterns leave no more words than there were.
use Rattle.std.proofs.Common.{List, []}
use Rattle.mp_words.specs.declared.word.Word.{Word}
use Rattle.mp_words.specs.declared.raw.RawName.{RawName}
use Rattle.mp_words.specs.Fronts.{a_capital, a_name, capital_at, is_mark, name_at, with_place}
use Rattle.mp_words.specs.Grammars.{Keeps, Shrinks, after, fronted, made, nothing, row, token}
use Rattle.mp_words.proofs.Grammars.{after_shrinks, choose_keeps, choose_shrinks, keeps, made_shrinks, nothing_keeps, optional_keeps, row_shrinks, token_shrinks}
use Rattle.mp_words.proofs.FrontFacts.{with_place_shrinks}
use Rattle.mp_termtext.specs.Grammar.{begins_binders, binders, param_at, some_binders}
use Rattle.mp_patterntext.specs.Grammar.{contexts, hole, param_pat, param_pats, raw_hole, raw_literal}
use Rattle.mp_words.specs.declared.word.Mark.TheVariants as mark

pub binders_keep : Keeps binders
binders_keep =
    choose_keeps begins_binders some_binders (nothing []) (keeps some_binders (row_shrinks (is_mark mark.Comma) (is_mark mark.Dot) a_name (token_shrinks name_at))) (nothing_keeps {W = Word} {X = List RawName} [])

pub contexts_keep : Keeps contexts
contexts_keep =
    optional_keeps (is_mark mark.Less) [] (row a_capital (is_mark mark.Semicolon) (is_mark mark.Greater))
    (keeps (row a_capital (is_mark mark.Semicolon) (is_mark mark.Greater)) (row_shrinks (is_mark mark.Semicolon) (is_mark mark.Greater) a_capital (token_shrinks capital_at)))

hole_shrinks : Shrinks hole
hole_shrinks =
    made_shrinks raw_hole (with_place (after (is_mark mark.At) a_name)) (with_place_shrinks (after (is_mark mark.At) a_name) (after_shrinks (is_mark mark.At) a_name (keeps a_name (token_shrinks name_at))))

param_pat_shrinks : Shrinks param_pat
param_pat_shrinks = choose_shrinks (fronted (is_mark mark.At)) hole (made raw_literal (token param_at)) hole_shrinks (made_shrinks raw_literal (token param_at) (token_shrinks param_at))

pub param_pats_keep : Keeps param_pats
param_pats_keep =
    optional_keeps (is_mark mark.OpenBracket) [] (row param_pat (is_mark mark.Semicolon) (is_mark mark.CloseBracket))
    (keeps (row param_pat (is_mark mark.Semicolon) (is_mark mark.CloseBracket)) (row_shrinks (is_mark mark.Semicolon) (is_mark mark.CloseBracket) param_pat param_pat_shrinks))
