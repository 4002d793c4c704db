-- Where no static rule is broken in a pattern, numbers are small, and no rule is broken in its parts.
use Rattle.std.proofs.Common.{◌≡◌, ◌++◌, ◌+◌, ◌<◌, ◌≤◌, ◌^◌, ℕ, List, [], None, length, length-append, map, drop, get_or, ap, sym, subst, ◌∙◌, arith}
use Rattle.std.specs.Prelude.{unwrap_or}
use Rattle.std.proofs.lemmas.List.{length-map}
use Rattle.mp_logic.specs.declared.sym.Sym.{Sym}
use Rattle.mp_words.specs.declared.raw.RawName.{RawName}
use Rattle.mp_words.specs.Faults.{too_many}
use Rattle.mp_words.proofs.NoFaults.{nil_parts, not_many}
use Rattle.mp_words.proofs.Walks.{left_cons}
use Rattle.mp_termtext.specs.Statics.{deep, each_faults, names_of, unless_bound}
use Rattle.mp_termtext.proofs.Faultless.{level_small, not_deep}
use Rattle.mp_patterntext.specs.declared.raw.RawParamPat.{RawParamPat}
use Rattle.mp_patterntext.specs.declared.raw.RawPatternBound.{RawPatternBound}
use Rattle.mp_patterntext.specs.declared.raw.RawPattern.{RawPattern}
use Rattle.mp_patterntext.specs.Buildable.{AreFaultless, AreFaultlessBounds, IsFaultless, IsFaultlessBound}
use Rattle.mp_patterntext.specs.Scopes.{level_in}
use Rattle.mp_patterntext.specs.Nodes.{argument_of, bound_node_faults, node_faults, param_place, use_faults}
use Rattle.mp_patterntext.proofs.RawLayers.{bound_node_faults-is, node_faults-Meta, node_faults-Op, node_faults-Var}
use Rattle.mp_patterntext.specs.declared.raw.RawPattern as raw

-- ## Patterns

-- the level of a variable fits 32 bits
pub level_fits : (t : RawPattern) (n : Sym) (at : ℕ) (env : List Sym) → t ≡ raw.Var n at → IsFaultless t env → unwrap_or (level_in env n) 0 < 2 ^ 32
level_fits t n at env e h =
    let f : deep h.2 at ++ unless_bound at (level_in env n) ≡ [] = sym (ap (λ r. node_faults h.0 h.1 r env h.2) e ∙ node_faults-Var h.0 h.1 n at env h.2) ∙ h.3 in
    let d = not_deep h.2 at (nil_parts (deep h.2 at) (unless_bound at (level_in env n)) f).0 in
    let small = level_small 0 env n None in
    let long = h.4 in
    omega (arith, d, small, long)

pub op_faultless : (t : RawPattern) (n : Sym) (ps : List RawParamPat) (ks us : List RawPatternBound) (at : ℕ) (env : List Sym) → t ≡ raw.Op n ps ks at → us ≡ ks → IsFaultless t env → AreFaultlessBounds us env
op_faultless t n ps ks us at env e same h =
    let subs = each_faults (map (bound_node_faults h.0 h.1) ks) env (h.2 + 1) in
    let f : deep h.2 at ++ too_many param_place 16 ps ++ subs ≡ [] = sym (ap (λ r. node_faults h.0 h.1 r env h.2) e ∙ node_faults-Op h.0 h.1 n ps ks at env h.2) ∙ h.3 in
    let long = h.4 in
    (h.0, h.1, h.2 + 1, ap (λ vs. each_faults (map (bound_node_faults h.0 h.1) vs) env (h.2 + 1)) same ∙ (nil_parts (deep h.2 at ++ too_many param_place 16 ps) subs f).1, omega (arith, long))

pub meta_faultless : (t : RawPattern) (n : Sym) (cs : List RawName) (xs ys : List RawPattern) (at : ℕ) (env : List Sym) → t ≡ raw.Meta n cs xs at → ys ≡ xs → IsFaultless t env → AreFaultless ys env
meta_faultless t n cs xs ys at env e same h =
    let args = each_faults (map (node_faults h.0 h.1) xs) env (h.2 + 1) in
    let uses = use_faults h.0 h.1 cs (map argument_of xs) in
    let f : deep h.2 at ++ uses ++ args ≡ [] = sym (ap (λ r. node_faults h.0 h.1 r env h.2) e ∙ node_faults-Meta h.0 h.1 n cs xs at env h.2) ∙ h.3 in
    let long = h.4 in
    (h.0, h.1, h.2 + 1, ap (λ vs. each_faults (map (node_faults h.0 h.1) vs) env (h.2 + 1)) same ∙ (nil_parts (deep h.2 at ++ uses) args f).1, omega (arith, long))

-- the first of some subterms, and the rest of them
pub first_bound : (ks : List RawPatternBound) (i : ℕ) (k : RawPatternBound) (env now : List Sym) → i < length ks → k ≡ get_or ks i k → now ≡ env → AreFaultlessBounds (drop i ks) env → IsFaultlessBound k now × AreFaultlessBounds (drop (i + 1) ks) env
first_bound ks i k env now lt is same h =
    let rest = drop (i + 1) ks in
    let all = ap (λ us. each_faults (map (bound_node_faults h.0 h.1) us) env h.2) (sym (left_cons ks i k lt is)) ∙ h.3 in
    let both = nil_parts (bound_node_faults h.0 h.1 k env h.2) (each_faults (map (bound_node_faults h.0 h.1) rest) env h.2) all in
    let here : IsFaultlessBound k env = (h.0, h.1, h.2, both.0, h.4) in
    (subst (IsFaultlessBound k) (sym same) here, (h.0, h.1, h.2, both.1, h.4))

-- the first of some arguments, and the rest of them
pub first_argument : (xs : List RawPattern) (i : ℕ) (x : RawPattern) (env now : List Sym) → i < length xs → x ≡ get_or xs i x → now ≡ env → AreFaultless (drop i xs) env → IsFaultless x now × AreFaultless (drop (i + 1) xs) env
first_argument xs i x env now lt is same h =
    let rest = drop (i + 1) xs in
    let all = ap (λ us. each_faults (map (node_faults h.0 h.1) us) env h.2) (sym (left_cons xs i x lt is)) ∙ h.3 in
    let both = nil_parts (node_faults h.0 h.1 x env h.2) (each_faults (map (node_faults h.0 h.1) rest) env h.2) all in
    let here : IsFaultless x env = (h.0, h.1, h.2, both.0, h.4) in
    (subst (IsFaultless x) (sym same) here, (h.0, h.1, h.2, both.1, h.4))

-- a subterm has few binders, and a body without faults
pub bound_faultless : (k : RawPatternBound) (env now : List Sym) → now ≡ env ++ names_of k.binders → IsFaultlessBound k env → IsFaultless k.body now × (length k.binders ≤ 8)
bound_faultless k env now e h =
    let many = too_many (λ (b : RawName). b.at) 8 k.binders in
    let both = nil_parts many (node_faults h.0 h.1 k.body (env ++ names_of k.binders) h.2) (sym (bound_node_faults-is h.0 h.1 k env h.2) ∙ h.3) in
    let few = not_many (λ (b : RawName). b.at) 8 k.binders both.0 in
    let len = length-append env (names_of k.binders) in
    let names = length-map k.binders (λ (b : RawName). b.name) in
    let long = h.4 in
    let inner : IsFaultless k.body (env ++ names_of k.binders) = (h.0, h.1, h.2, both.1, omega (arith, few, len, names, long)) in
    (subst (IsFaultless k.body) (sym e) inner, few)
