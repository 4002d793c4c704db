-- Blocks with few lines of a tree.
use Rattle.std.proofs.Common.{◌≡◌, ◌≤◌, ◌<◌, ◌++◌, ℕ, zero, suc, List, [], ◌∷◌, length, get_or, ap, sym, subst, arith}
use Rattle.mp_treetext.specs.declared.raw.RawBlock.{RawBlock}
use Rattle.mp_treetext.specs.Few.{EachFew}

-- one block more
pub few_more : (n : ℕ) (bs now : List RawBlock) (b : RawBlock) → now ≡ bs ++ b ∷ [] → EachFew n bs → length b.lines ≤ n → EachFew n now
few_more n bs now b e h l = subst (EachFew n) (sym e) (by bs h)
  where
    by : (bs : List RawBlock) → EachFew n bs → EachFew n (bs ++ b ∷ [])
    by [] h = (l, tt)
    by (c ∷ cs) h = (h.0, by cs h.1)

-- the block at this place
pub few_at : (n : ℕ) (bs : List RawBlock) (i : ℕ) (b : RawBlock) → i < length bs → b ≡ get_or bs i b → EachFew n bs → length b.lines ≤ n
few_at n [] i b lt is h = absurd (omega (arith, lt))
few_at n (c ∷ cs) zero b lt is h = let e = ap (λ (x : RawBlock). length x.lines) is in let l = h.0 in omega (arith, e, l)
few_at n (c ∷ cs) (suc i) b lt is h = few_at n cs i b (omega (arith, lt)) is h.1

-- more lines may stand
pub few_within : (m n : ℕ) (bs : List RawBlock) → m ≤ n → EachFew m bs → EachFew n bs
few_within m n [] l h = tt
few_within m n (b ∷ bs) l h = let k = h.0 in (omega (arith, l, k), few_within m n bs l h.1)
