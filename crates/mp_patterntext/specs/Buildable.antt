-- What may be built of a pattern that is written: no static rule is broken in it, so its numbers are small.
use Rattle.std.specs.Prelude.{◌≡◌, ℕ, ◌+◌, ◌*◌, ◌≤◌, List, [], map, length, Bool}
use Rattle.mp_logic.specs.declared.sym.Sym.{Sym}
use Rattle.mp_termtext.specs.Statics.{each_faults}
use Rattle.mp_patterntext.specs.declared.raw.RawPatternBound.{RawPatternBound}
use Rattle.mp_patterntext.specs.declared.raw.RawPattern.{RawPattern}
use Rattle.mp_patterntext.specs.Nodes.{bound_node_faults, node_faults}

-- no static rule is broken in the pattern, behind some contexts, at some depth that is great enough for the bound names
abbrev pub IsFaultless : RawPattern → List Sym → Type 0
IsFaultless p env = (known : List Sym) × (final : Bool) × (d : ℕ) × (node_faults known final p env d ≡ []) × (length env ≤ 192 + 8 * d)

-- no static rule is broken in the arguments
abbrev pub AreFaultless : List RawPattern → List Sym → Type 0
AreFaultless ps env = (known : List Sym) × (final : Bool) × (d : ℕ) × (each_faults (map (node_faults known final) ps) env d ≡ []) × (length env ≤ 192 + 8 * d)

-- no static rule is broken in the subterm, at the depth of its body
abbrev pub IsFaultlessBound : RawPatternBound → List Sym → Type 0
IsFaultlessBound k env = (known : List Sym) × (final : Bool) × (d : ℕ) × (bound_node_faults known final k env d ≡ []) × (length env ≤ 184 + 8 * d)

-- no static rule is broken in the subterms
abbrev pub AreFaultlessBounds : List RawPatternBound → List Sym → Type 0
AreFaultlessBounds ks env = (known : List Sym) × (final : Bool) × (d : ℕ) × (each_faults (map (bound_node_faults known final) ks) env d ≡ []) × (length env ≤ 184 + 8 * d)
