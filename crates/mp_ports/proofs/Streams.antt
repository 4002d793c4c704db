-- What writes of one piece after another append.
use Rattle.std.proofs.Common.{◌≡◌, ◌+◌, ◌-◌, ◌++◌, ℕ, List, length, take, drop, subst, sym, ap, ◌∙◌, rules}
use Rattle.std.specs.declared.option.Option.{Option}
use Rattle.std.specs.Io.KnownBytes.{Appends}
use Rattle.std.proofs.KnownBytes.{Appends-trans}
use Rattle.std.proofs.Math.Seq.{take-add}
use Rattle.std.proofs.lemmas.List.{take_all, length-drop}

-- the first bytes, and then the first of the rest, are the first of all
pub first_two_parts : (bytes : List ℕ) (at count : ℕ) → take at bytes ++ take count (take (length bytes - at) (drop at bytes)) ≡ take (at + count) bytes
first_two_parts bytes at count =
    ap (λ rest. take at bytes ++ take count rest) (take_all (length bytes - at) (drop at bytes) (search (rules, length-drop))) ∙ sym (take-add at count bytes)

pub Appends-next : (a b c : Option (List ℕ)) (bytes : List ℕ) (at count : ℕ) → Appends a b (take at bytes)
    → Appends b c (take count (take (length bytes - at) (drop at bytes))) → Appends a c (take (at + count) bytes)
Appends-next a b c bytes at count p q = subst (Appends a c) (first_two_parts bytes at count) (Appends-trans a b c _ _ p q)
