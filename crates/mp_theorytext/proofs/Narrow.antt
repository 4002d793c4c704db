-- Where no static rule is broken in a rewrite, none is broken in its patterns.
use Rattle.std.proofs.Common.{◌≡◌, ◌++◌, List, [], map, true, false, arith}
use Rattle.std.specs.List.{flat_map}
use Rattle.mp_words.specs.declared.fail.TextErr.{TextErr}
use Rattle.mp_words.specs.Faults.{too_many}
use Rattle.mp_words.proofs.NoFaults.{nil_parts}
use Rattle.mp_termtext.specs.Statics.{each_faults}
use Rattle.mp_patterntext.specs.Buildable.{AreFaultless, IsFaultless}
use Rattle.mp_patterntext.specs.Scopes.{syms_of}
use Rattle.mp_patterntext.specs.Nodes.{node_faults, pattern_at}
use Rattle.mp_patterntext.specs.Uses.{hole_faults, raw_holes, uses_faults, uses_in}
use Rattle.mp_theorytext.specs.declared.raw.RawRewrite.{RawRewrite}
use Rattle.mp_theorytext.specs.Statics.{meta_faults, rewrite_faults, rewrite_node_faults, rewrite_size_faults, uses_in_rewrite}

module _ (r : RawRewrite) (h : rewrite_faults r ≡ []) where
  abbrev many : List TextErr
  many = too_many pattern_at 15 r.conds

  abbrev asked : List TextErr
  asked = hole_faults (syms_of (raw_holes r.redex)) (flat_map raw_holes r.conds ++ raw_holes r.contractum)

  abbrev firsts : List TextErr
  firsts = each_faults (map (node_faults [] false) r.conds) [] 1

  nodes : rewrite_node_faults r ≡ []
  nodes =
      let all = rewrite_node_faults r in let sizes = rewrite_size_faults r in let uses = uses_faults (uses_in_rewrite r) in
      let a = nil_parts (many ++ all ++ sizes ++ uses ++ asked) (meta_faults r.redex (flat_map uses_in r.conds ++ uses_in r.contractum)) h in
      let b = nil_parts (many ++ all ++ sizes ++ uses) asked a.0 in
      let c = nil_parts (many ++ all ++ sizes) uses b.0 in
      let d = nil_parts (many ++ all) sizes c.0 in
      (nil_parts many all d.0).1

  last : (firsts ++ node_faults [] true r.redex [] 1 ≡ []) × (node_faults [] false r.contractum [] 1 ≡ [])
  last = nil_parts (firsts ++ node_faults [] true r.redex [] 1) (node_faults [] false r.contractum [] 1) nodes

  first : (firsts ≡ []) × (node_faults [] true r.redex [] 1 ≡ [])
  first = nil_parts firsts (node_faults [] true r.redex [] 1) last.0

  pub rewrite_conds : AreFaultless r.conds []
  rewrite_conds = ([], false, 1, first.0, omega arith)

  pub rewrite_redex : IsFaultless r.redex []
  rewrite_redex = ([], true, 1, first.1, omega arith)

  pub rewrite_contractum : IsFaultless r.contractum []
  rewrite_contractum = ([], false, 1, last.1, omega arith)
