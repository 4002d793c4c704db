-- What is asked of each node of a pattern as it is written.
use Rattle.std.specs.Prelude.{ℕ, ◌+◌, ◌++◌, List, [], ◌∷◌, map, Bool, Option, None, Some, is_none, if◌then◌else◌}
use Rattle.std.specs.List.{flat_map}
use Rattle.mp_logic.specs.declared.sym.Sym.{Sym}
use Rattle.mp_term.specs.declared.limits.TheConstants.{MOST_PARAMETERS, MOST_BINDERS}
use Rattle.mp_schema.specs.declared.limits.TheConstants.{MOST_CONTEXTS, MOST_ARGUMENTS}
use Rattle.mp_words.specs.declared.fail.TextErr.{TextErr}
use Rattle.mp_words.specs.Faults.{fault_if, too_many}
use Rattle.mp_words.specs.declared.raw.RawName.{RawName}
use Rattle.mp_termtext.specs.Statics.{names_of, deep, unless_bound, Checked, each_faults}
use Rattle.mp_patterntext.specs.declared.raw.RawParamPat.{RawParamPat}
use Rattle.mp_patterntext.specs.declared.raw.RawParamPat.TheVariants.{Lit, Hole}
use Rattle.mp_patterntext.specs.declared.raw.RawPatternBound.{RawPatternBound, RawPatternBound-F, fold-RawPatternBound}
use Rattle.mp_patterntext.specs.declared.raw.RawPattern.{RawPattern, RawPattern-F}
use Rattle.mp_patterntext.specs.declared.raw.RawPattern.TheFolds.{fold-RawPattern}
use Rattle.mp_words.specs.Seconds.{second_faults}
use Rattle.mp_patterntext.specs.Scopes.{level_in, unknown_faults}
use Rattle.mp_words.specs.declared.fail.TextWhy.TheVariants as why
use Rattle.mp_patterntext.specs.declared.raw.RawPattern.TheOpen as layer

-- ## Arguments

-- an argument: its name where it is a variable, and its place
pub record Argument : Type 0 where
  pub variable : Option Sym
  pub at : ℕ

-- what one node is as an argument
abbrev pub argument_step : RawPattern-F Argument Argument → Argument
argument_step (layer.Var name at) = record { variable = Some name; at = at }
argument_step (layer.Op name params subs at) = record { variable = None; at = at }
argument_step (layer.Meta name ctxs args at) = record { variable = None; at = at }

-- a subterm is what its body is
abbrev pub argument_bound_step : RawPatternBound-F Argument Argument → Argument
argument_bound_step b = b.body

-- what a pattern is as an argument
abbrev pub argument_of : RawPattern → Argument
argument_of = fold-RawPattern Argument Argument argument_step argument_bound_step

-- the first byte of a pattern
abbrev pub pattern_at : RawPattern → ℕ
pattern_at p = (argument_of p).at

-- the name at this place, if there is one
abbrev pub name_if : Option Sym → ℕ → List RawName
name_if None at = []
name_if (Some name) at = record { name = name; at = at } ∷ []

-- the variables among arguments
abbrev pub variables_in : List Argument → List RawName
variables_in args = flat_map (λ a. name_if a.variable a.at) args

-- each argument is a variable, and no two are the same one; in one list the same name means the same variable
abbrev pub argument_faults : List Argument → List TextErr
argument_faults args =
    flat_map (λ a. fault_if (is_none a.variable) a.at why.NotAPattern) args ++ second_faults (λ n. n) why.NotAPattern (variables_in args)

-- ## Lists of contexts

-- each context is one of these
abbrev pub dangling_faults : List Sym → List RawName → List TextErr
dangling_faults known cs = unknown_faults why.DanglingContext known cs

-- each context of a list is one of these, and none is in the list twice
abbrev pub list_faults : List Sym → List RawName → List TextErr
list_faults known cs = dangling_faults known cs ++ second_faults (λ c. c) why.TwiceContext cs

-- ## Nodes

-- the first byte of a parameter
abbrev pub param_place : RawParamPat → ℕ
param_place (Lit p) = p.at
param_place (Hole name at) = at

-- what a pattern is as an argument, and the faults of its nodes
pub record Viewed : Type 0 where
  pub argument : Argument
  pub faults : Checked

module _ (known : List Sym) (is_matched : Bool) where
  -- what is asked of a context or a second-order variable with this list of contexts and these arguments: few of both, a
  -- list of contexts before it, and in the conclusion of a rule distinct variables as arguments
  abbrev pub use_faults : List RawName → List Argument → List TextErr
  use_faults ctxs args =
      too_many (λ c. c.at) MOST_CONTEXTS ctxs ++ too_many (λ a. a.at) MOST_ARGUMENTS args ++ list_faults known ctxs
      ++ (if is_matched then argument_faults args else [])

  -- what is seen of one node, from what is seen of the patterns in it
  abbrev pub node_step : RawPattern-F Viewed Checked → Viewed
  node_step (layer.Var name at) = record {
    argument = record { variable = Some name; at = at };
    faults = λ env depth. deep depth at ++ unless_bound at (level_in env name);
  }
  node_step (layer.Op name params subs at) = record {
    argument = record { variable = None; at = at };
    faults = λ env depth. deep depth at ++ too_many param_place MOST_PARAMETERS params ++ each_faults subs env (depth + 1);
  }
  node_step (layer.Meta name ctxs args at) = record {
    argument = record { variable = None; at = at };
    faults = λ env depth. deep depth at ++ use_faults ctxs (map (λ (a : Viewed). a.argument) args) ++ each_faults (map (λ (a : Viewed). a.faults) args) env (depth + 1);
  }

  -- the faults of a subterm, from what is seen of its body
  abbrev pub node_bound_step : RawPatternBound-F Viewed Checked → Checked
  node_bound_step b env depth = too_many (λ b. b.at) MOST_BINDERS b.binders ++ b.body.faults (env ++ names_of b.binders) depth

  -- what is seen of a pattern
  abbrev pub viewed : RawPattern → Viewed
  viewed = fold-RawPattern Viewed Checked node_step node_bound_step

  -- the faults of the nodes of a pattern at this depth where these names are bound and these contexts stand before it:
  -- nodes at depth over 200, more than 16 parameters, 8 binders, contexts or arguments, variables that aren't bound, and what
  -- is asked of second-order variables
  abbrev pub node_faults : RawPattern → Checked
  node_faults p = (viewed p).faults

  -- the faults of the nodes of a subterm: its body is where its binders are bound too
  abbrev pub bound_node_faults : RawPatternBound → Checked
  bound_node_faults = fold-RawPatternBound Viewed Checked node_step node_bound_step
