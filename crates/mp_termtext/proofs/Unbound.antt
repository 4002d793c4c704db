-- Behind a fault that is held no unbound variable counts.
use Rattle.std.proofs.Common.{◌≡◌, ℕ, Option, None, Some, true, false, nat_lt, nat_eq, ◌&&◌, ◌||◌, refl, sym, true≢false, arith}
use Rattle.std.proofs.lemmas.Bool.Decides.{nat_tests}
use Rattle.mp_words.specs.declared.fail.TextErr.{TextErr}
use Rattle.mp_words.specs.declared.fail.TextWhy.TheVariants as why
use Rattle.mp_words.specs.Faults.{least_from, is_behind, is_sooner, rank_of}
use Rattle.mp_termtext.specs.Statics.{unless_bound}

pub unbound_behind : (held : Option TextErr) (l : ℕ) (level : Option ℕ) → is_behind held l ≡ true → least_from held (unless_bound l level) ≡ held
unbound_behind None l level h = absurd (true≢false (sym h))
unbound_behind (Some f) l None h =
    let e : is_sooner (record { at = l; why = why.UnboundVar }) f ≡ false = later f.at l (rank_of f.why) h in rw e refl
  where
    later : (a l r : ℕ) → nat_lt a l ≡ true → (nat_lt l a || (nat_eq l a && nat_lt 6 r)) ≡ false
    later a l r h = grind (arith, nat_tests, h)
unbound_behind (Some f) l (Some level) h = refl
