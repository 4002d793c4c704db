use Rattle.std.proofs.Common.{◌≡◌, ◌++◌, map, drop}
use Rattle.mp_patterntext.specs.Buildable.{AreFaultless, AreFaultlessBounds}
use Rattle.mp_patterntext.specs.Values.{each_pattern_value, bound_of, pattern_of}
use Rattle.mp_patterntext.proofs.value.+building.Given as goal

abbrev pub invariant-build_bounds-loop-sub : goal.invariant-build_bounds-loop-sub
invariant-build_bounds-loop-sub l = record {
  kept : l.env.items ≡ l.fn.env.items;
  faultless : AreFaultlessBounds (drop l.sub-index l.subs) l.fn.env.items;
  built : l.built ++ each_pattern_value (map bound_of (drop l.sub-index l.subs)) l.fn.env.items ≡ each_pattern_value (map bound_of l.subs) l.fn.env.items;
}

abbrev pub invariant-build_args-loop-arg : goal.invariant-build_args-loop-arg
invariant-build_args-loop-arg l = record {
  kept : l.env.items ≡ l.fn.env.items;
  faultless : AreFaultless (drop l.arg-index l.args) l.fn.env.items;
  built : l.built ++ each_pattern_value (map pattern_of (drop l.arg-index l.args)) l.fn.env.items ≡ each_pattern_value (map pattern_of l.args) l.fn.env.items;
}
