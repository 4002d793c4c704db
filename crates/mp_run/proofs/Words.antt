-- The test of UTF-8 as a Bool.
use Rattle.std.proofs.Common.{◌≡◌, ℕ, List, Bool, true, false, refl, sym}
use Rattle.std.specs.Str.{IsUtf8, is_utf8}
use Rattle.std.proofs.lemmas.Str.{IsUtf8-from_is_utf8, is_utf8-from_IsUtf8}

pub passes : (bs : List ℕ) → IsUtf8 bs → true ≡ is_utf8 bs
passes bs h = sym (is_utf8-from_IsUtf8 bs h)

fails_at : (bs : List ℕ) → (IsUtf8 bs → ⊥) → (b : Bool) → is_utf8 bs ≡ b → false ≡ b
fails_at bs h true e = absurd (h (IsUtf8-from_is_utf8 bs e))
fails_at bs h false e = refl

pub fails : (bs : List ℕ) → (IsUtf8 bs → ⊥) → false ≡ is_utf8 bs
fails bs h = fails_at bs h (is_utf8 bs) refl
