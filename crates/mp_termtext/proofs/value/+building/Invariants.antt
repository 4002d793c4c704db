use Rattle.std.proofs.Common.{◌≡◌, ◌++◌, map, drop}
use Rattle.mp_termtext.specs.Values.{AreFaultless, each_subterm_value, bound_value_of}
use Rattle.mp_termtext.proofs.value.+building.Given as goal

abbrev pub invariant-build_term-loop-sub : goal.invariant-build_term-loop-sub
invariant-build_term-loop-sub l = record {
  kept : l.env.items ≡ l.fn.env.items;
  faultless : AreFaultless l.free (drop l.sub-index l.sub-items) l.fn.env.items;
  built : l.built ++ each_subterm_value (map (bound_value_of l.free) (drop l.sub-index l.sub-items)) l.fn.env.items ≡ each_subterm_value (map (bound_value_of l.free) l.sub-items) l.fn.env.items;
}
