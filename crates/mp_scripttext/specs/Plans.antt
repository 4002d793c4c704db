-- How a table of strategies grows, row by row.
use Rattle.std.specs.Prelude.{◌≡◌, ℕ, zero, suc, ◌+◌, ◌++◌, ◌<◌, ◌≤◌, List, [], ◌∷◌, length, map, set}
use Rattle.mp_strategy.specs.declared.limits.TheConstants.{MOST_NODES}
use Rattle.mp_strategy.specs.declared.tactic.Tac.{Tac}
use Rattle.mp_strategy.specs.declared.tactic.Tac.TheVariants as tac
use Rattle.mp_theory.specs.Tables.{Laws}
use Rattle.mp_steptext.specs.Terms.{just_of}
use Rattle.mp_scripttext.specs.declared.plan.Plan.{Plan}
use Rattle.mp_scripttext.specs.Strategies.{Link, Strategy, faults_of_each, nodes_of, rows_of, steps_of}

-- the strategies have no static fault, there is room for their rows, and there are no more justifications than rows
pub record HasRoom (t : Laws) (ss : List Strategy) (p : Plan) : Type 0 where
  pub rows : length p.tacs + nodes_of ss ≤ MOST_NODES
  pub justs : length p.justs ≤ length p.tacs
  pub faultless : faults_of_each t ss ≡ []

-- the plan with the rows and the justifications of these strategies, one after the other
abbrev pub grown : Laws → List Strategy → Plan → Plan
grown t ss p = record {
  tacs = p.tacs ++ rows_of ss (length p.tacs) (length p.justs);
  justs = p.justs ++ map (just_of t) (steps_of ss);
}

-- so many rows that are still to be written
abbrev pub holes : ℕ → List Tac
holes zero = []
holes (suc n) = tac.Id ∷ holes n

-- the plan with the further parts of a link, and with its row written, which is at this place
abbrev pub closed : Laws → ℕ → Link → Plan → Plan
closed t at l p = record {
  tacs = set (p.tacs ++ rows_of l.parts (length p.tacs) (length p.justs)) at (l.row (at + 1) (length p.tacs));
  justs = p.justs ++ map (just_of t) (steps_of l.parts);
}

-- a link can be closed there: the place has a row, its parts have no static fault, and there is room for them
pub record CanClose (t : Laws) (at : ℕ) (l : Link) (p : Plan) : Type 0 where
  pub there : at < length p.tacs
  pub parts : HasRoom t l.parts p
