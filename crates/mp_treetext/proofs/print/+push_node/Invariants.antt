use Rattle.std.proofs.Common.{◌≡◌, ◌++◌, map, drop, codes}
use Rattle.mp_treetext.specs.Trees.{tree_text, all_indented}
use Rattle.mp_treetext.proofs.print.+push_node.Given as goal

abbrev pub invariant-loop-kid : goal.invariant-loop-kid
invariant-loop-kid l = record {
  indent : l.indent.items ≡ l.fn.indent.items ++ codes "  ";
  text : l.out.items ++ all_indented (l.fn.indent.items ++ codes "  ") (map (tree_text l.fn.names l.fn.theory l.fn.justs) (drop l.kid-index l.kid-items))
      ≡ l.fn.out.items ++ tree_text l.fn.names l.fn.theory l.fn.justs l.fn.tree l.fn.indent.items;
}
