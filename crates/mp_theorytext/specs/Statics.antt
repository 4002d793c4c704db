-- The static rules of rewrites and theories as they are written.
use Rattle.std.specs.Prelude.{◌++◌, List, [], map, true, false, nat_lt}
use Rattle.std.specs.List.{flat_map}
use Rattle.mp_term.specs.declared.limits.TheConstants.{MOST_NODES}
use Rattle.mp_schema.specs.declared.limits.TheConstants.{MOST_CONDITIONS}
use Rattle.mp_words.specs.declared.fail.TextWhy.TheVariants as why
use Rattle.mp_words.specs.declared.fail.TextErr.{TextErr}
use Rattle.mp_words.specs.declared.raw.RawName.{RawName}
use Rattle.mp_words.specs.Faults.{fault_if, too_many}
use Rattle.mp_words.specs.Seconds.{second_faults}
use Rattle.mp_termtext.specs.Statics.{each_faults}
use Rattle.mp_theory.specs.Tables.{Laws, name_taken}
use Rattle.mp_patterntext.specs.declared.raw.RawPattern.{RawPattern}
use Rattle.mp_patterntext.specs.Scopes.{syms_of, unknown_faults}
use Rattle.mp_patterntext.specs.Nodes.{node_faults, pattern_at}
use Rattle.mp_patterntext.specs.Sizes.{raw_pattern_size_of}
use Rattle.mp_patterntext.specs.Uses.{Use, hole_faults, raw_holes, use_name, uses_faults, uses_in}
use Rattle.mp_schematext.specs.Statics.{rule_faults}
use Rattle.mp_theorytext.specs.declared.raw.RawRewrite.{RawRewrite}
use Rattle.mp_theorytext.specs.declared.raw.RawLaw.{RawLaw}
use Rattle.mp_theorytext.specs.declared.raw.RawLaw.TheVariants as law

-- ## Rewrites

-- the pattern has few nodes
abbrev pub size_faults : RawPattern → List TextErr
size_faults p = fault_if (nat_lt MOST_NODES (raw_pattern_size_of p)) (pattern_at p) why.TooBig

-- the second-order variables of a rewrite, in the order of the text
abbrev pub uses_in_rewrite : RawRewrite → List Use
uses_in_rewrite r = flat_map uses_in r.conds ++ uses_in r.redex ++ uses_in r.contractum

-- each of these second-order variables is one of the redex
abbrev pub meta_faults : RawPattern → List Use → List TextErr
meta_faults redex us = unknown_faults why.UnboundMeta (syms_of (map use_name (uses_in redex))) (map use_name us)

-- what is asked of the nodes of a rewrite's patterns, before which no context and no variable stands
abbrev pub rewrite_node_faults : RawRewrite → List TextErr
rewrite_node_faults r = each_faults (map (node_faults [] false) r.conds) [] 1 ++ node_faults [] true r.redex [] 1 ++ node_faults [] false r.contractum [] 1

-- each pattern of a rewrite has few nodes
abbrev pub rewrite_size_faults : RawRewrite → List TextErr
rewrite_size_faults r = flat_map size_faults r.conds ++ size_faults r.redex ++ size_faults r.contractum

-- the faults of a rewrite but that its name is taken
abbrev pub rewrite_faults : RawRewrite → List TextErr
rewrite_faults r =
    too_many pattern_at MOST_CONDITIONS r.conds ++ rewrite_node_faults r ++ rewrite_size_faults r ++ uses_faults (uses_in_rewrite r)
    ++ hole_faults (syms_of (raw_holes r.redex)) (flat_map raw_holes r.conds ++ raw_holes r.contractum) ++ meta_faults r.redex (flat_map uses_in r.conds ++ uses_in r.contractum)

-- ## Theories

-- the name of a law
abbrev pub law_name : RawLaw → RawName
law_name (law.Rule r) = r.name
law_name (law.Rewrite r) = r.name

-- the faults of a law but that its name is taken
abbrev pub law_faults : RawLaw → List TextErr
law_faults (law.Rule r) = rule_faults r
law_faults (law.Rewrite r) = rewrite_faults r

-- the static faults of laws that are to be added to this theory: no law of it has their names, no two have one name, and
-- those of each law
abbrev pub theory_faults : Laws → List RawLaw → List TextErr
theory_faults t ls =
    flat_map (λ l. fault_if (name_taken t (law_name l).name) (law_name l).at why.Taken) ls ++ second_faults law_name why.Taken ls ++ flat_map law_faults ls
