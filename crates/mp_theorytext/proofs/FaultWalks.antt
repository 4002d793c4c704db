-- The least fault so far goes on from one part of a rewrite or a theory to the next.
use Rattle.std.proofs.Common.{◌≡◌, List, [], Option, None, map, true, false, ap, ◌∙◌}
use Rattle.std.specs.List.{flat_map}
use Rattle.mp_logic.specs.declared.sym.Sym.{Sym}
use Rattle.mp_theory.specs.Tables.{Laws, name_taken}
use Rattle.mp_words.specs.declared.fail.TextErr.{TextErr}
use Rattle.mp_words.specs.declared.fail.TextWhy.TheVariants as why
use Rattle.mp_words.specs.Faults.{fault_if, least, least_from}
use Rattle.mp_words.specs.Seconds.{second_faults}
use Rattle.mp_words.proofs.FaultParts.{three_parts}
use Rattle.mp_termtext.specs.Statics.{each_faults}
use Rattle.mp_patterntext.specs.declared.raw.RawPattern.{RawPattern}
use Rattle.mp_patterntext.specs.Nodes.{node_faults}
use Rattle.mp_theorytext.specs.declared.raw.RawRewrite.{RawRewrite}
use Rattle.mp_theorytext.specs.declared.raw.RawLaw.{RawLaw}
use Rattle.mp_theorytext.specs.Statics.{law_faults, law_name, rewrite_node_faults, theory_faults}

-- the nodes of the patterns of a rewrite
pub rewrite_nodes : (r : RawRewrite) (ps : List RawPattern) (e f g : List Sym) (held a b c : Option TextErr) → ps ≡ r.conds → e ≡ [] → f ≡ [] → g ≡ [] → a ≡ least_from held (each_faults (map (node_faults [] false) ps) e 1)
    → b ≡ least_from a (node_faults [] true r.redex f 1) → c ≡ least_from b (node_faults [] false r.contractum g 1) → c ≡ least_from held (rewrite_node_faults r)
rewrite_nodes r ps e f g held a b c same p q s k l m =
    three_parts held a b c (each_faults (map (node_faults [] false) r.conds) [] 1) (node_faults [] true r.redex [] 1) (node_faults [] false r.contractum [] 1) (k ∙ (λ i. least_from held (each_faults (map (node_faults [] false) (same i)) (p i) 1)))
    (l ∙ ap (λ env. least_from a (node_faults [] true r.redex env 1)) q) (m ∙ ap (λ env. least_from b (node_faults [] false r.contractum env 1)) s)

pub theory_parts : (t : Laws) (ls us : List RawLaw) (a b c : Option TextErr) → us ≡ ls → a ≡ least_from None (flat_map (λ (l : RawLaw). fault_if (name_taken t (law_name l).name) (law_name l).at why.Taken) us)
    → b ≡ least_from a (second_faults law_name why.Taken us) → c ≡ least_from b (flat_map law_faults us) → c ≡ least (theory_faults t ls)
theory_parts t ls us a b c same e f g =
    three_parts None a b c (flat_map (λ (l : RawLaw). fault_if (name_taken t (law_name l).name) (law_name l).at why.Taken) us) (second_faults law_name why.Taken us) (flat_map law_faults us) e f g ∙ ap (λ xs. least (theory_faults t xs)) same
