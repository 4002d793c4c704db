use Rattle.std.proofs.Common.{ap}
use Rattle.std.specs.Option.{option_map}
use Rattle.mp_match.specs.Matches.{as_instance, term_place}
use Rattle.mp_match.proofs.TermMatch.{term-usable}
use Rattle.mp_match.proofs.matching.term_found.Goals as goal

pub match_within-requires-clause-usable : goal.match_within-requires-clause-usable
match_within-requires-clause-usable c = rw (c.new.ensures, c.new-2.ensures) (term-usable c.args.scope)

pub returns : goal.returns
returns c =
    let found = rw (c.new.ensures, c.new-2.ensures, c.new-3.ensures, c.new-4.ensures, c.if-not-branch.false) at c.in_ok-match_within.ensures in
    rw (c.instance_at.ensures, c.new.ensures) (ap (option_map (as_instance (term_place c.args.scope))) found)
