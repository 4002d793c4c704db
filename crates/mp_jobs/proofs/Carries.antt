-- What a change keeps of a part it keeps of the whole.
use Rattle.std.proofs.Common.{◌≡◌, ℕ, ◌+◌, ◌≤◌, IsTrue, map, sym, subst, arith}
use Rattle.std.specs.Prelude.{nat_lt}
use Rattle.mp_logic.specs.Meaning.{Meaning}
use Rattle.mp_strategy.specs.declared.problem.ProblemState.{ProblemState}
use Rattle.mp_jobs.specs.declared.node.Node.{Node}
use Rattle.mp_jobs.specs.Costs.{Size, IsWithin, weight_each, weight_sum}
use Rattle.mp_jobs.specs.Epochs.{claims_under, claims_step, under}
use Rattle.mp_jobs.specs.Kept.{Kept, Moves}
use Rattle.mp_jobs.specs.Sizes.{size_of, size_step}
use Rattle.mp_jobs.proofs.Congruence.{IsCongruence}
use Rattle.mp_jobs.proofs.Folds.{fold-Then, fold-Leaves, fold-Else, fold-Race, fold-Check}
use Rattle.mp_jobs.proofs.Forms.{done-Then, done-Leaves, done-Else, done-Race, done-Check}
use Rattle.mp_jobs.proofs.KidsKept.{KidsKept, kids_kept, length_kids, kids_fit}
use Rattle.mp_jobs.proofs.Monotone.{monotone}
use Rattle.mp_jobs.proofs.ShapeSteps.{shape-Then, shape-Leaves, shape-Else, shape-Race, shape-Check, into, back}
use Rattle.mp_jobs.proofs.ThenSizes.{then_within}

pub within_by : (d : ℕ) (a b x z : Size) → a ≡ x → b ≡ z → IsWithin d x z → IsWithin d a b
within_by d a b x z e f h = subst (λ q. IsWithin d q b) (sym e) (subst (λ q. IsWithin d x q) (sym f) h)

count_by : (a b x z n : ℕ) → a ≡ x → b ≡ z → x ≤ z + n → a ≤ b + n
count_by a b x z n e f h = omega (arith, e, f, h)

module _ {L G J : Type 0} (meaning : L → Meaning G J) (p : ProblemState L J) (d : ℕ) (more : ℕ → ℕ) where
  abbrev S : Node G → Size
  S = size_of meaning p

  abbrev C : ℕ → Node G → ℕ
  C = claims_under

  abbrev R : Node G → Node G → Type 0
  R m n = Moves meaning p d more m n

  abbrev K : Node G → Node G → Type 0
  K m n = Kept meaning p d more m n

  pub moves_congruence : IsCongruence R
  moves_congruence = record {
    then = λ w m f r. record {
      stays = λ o e. absurd (let n = done-Then w f in (cc));
      kept = λ h. (
          let s = into _ _ (shape-Then meaning p w f) h in
          let k : K m f = r.kept s.2 in
          record {
            shape = back _ _ (shape-Then meaning p w m) (s.0, s.1, k.shape);
            yields = (monotone meaning p).then w m f k.yields;
            sizes = within_by d _ _ _ _ (fold-Then (size_step meaning p) w m) (fold-Then (size_step meaning p) w f) (then_within d (S m) (S f) k.sizes meaning p w);
            epochs = λ e. count_by _ _ _ _ (more e) (fold-Then (claims_step (under e)) w m) (fold-Then (claims_step (under e)) w f) (k.epochs e);
          });
    };
    check = λ w m f r. record {
      stays = λ o e. absurd (let n = done-Check w f in (cc));
      kept = λ h. (
          let s = into _ _ (shape-Check meaning p w f) h in
          let k : K m f = r.kept s.2 in
          let z : IsWithin d (S m) (S f) = k.sizes in
          let heavy : (S m).heavy + d ≤ (S f).heavy = z.heavy in
          record {
            shape = back _ _ (shape-Check meaning p w m) (s.0, s.1, k.shape);
            yields = (monotone meaning p).check w m f k.yields;
            sizes = within_by d _ _ _ _ (fold-Check (size_step meaning p) w m) (fold-Check (size_step meaning p) w f) (record { wide = z.wide; heavy = omega (arith, heavy) });
            epochs = λ e. count_by _ _ _ _ (more e) (fold-Check (claims_step (under e)) w m) (fold-Check (claims_step (under e)) w f) (k.epochs e);
          });
    };
    leaves = λ t c ms ks one. record {
      stays = λ o e. absurd (let n = done-Leaves t ks c in (cc));
      kept = λ h. (
          let s = into _ _ (shape-Leaves meaning p t ks c) h in
          let k : KidsKept meaning p d more ms ks = kids_kept meaning p d more ms ks one s.1 in
          let a : weight_each (map S ms) + d ≤ weight_each (map S ks) = k.weight_each in
          record {
            shape = back _ _ (shape-Leaves meaning p t ms c) (s.0, k.shapes, kids_fit meaning p d more t ms ks c one s.2);
            yields = (monotone meaning p).leaves t ms ks c k.pairs;
            sizes = within_by d _ _ _ _ (fold-Leaves (size_step meaning p) t ms c) (fold-Leaves (size_step meaning p) t ks c) (record { wide = k.width_sum; heavy = omega (arith, a) });
            epochs = λ e. count_by _ _ _ _ (more e) (fold-Leaves (claims_step (under e)) t ms c) (fold-Leaves (claims_step (under e)) t ks c) (k.counts e);
          });
    };
    or_left = λ m a b r. record {
      stays = λ o e. absurd (let n = done-Else a b in (cc));
      kept = λ h. (
          let s = into _ _ (shape-Else meaning p a b) h in
          let k : K m a = r.kept s.0 in
          let z : IsWithin d (S m) (S a) = k.sizes in
          let wide : (S m).wide ≤ (S a).wide = z.wide in
          let heavy : (S m).heavy + d ≤ (S a).heavy = z.heavy in
          record {
            shape = back _ _ (shape-Else meaning p m b) (k.shape, s.1);
            yields = (monotone meaning p).or m a b b k.yields (λ o y. y);
            sizes = within_by d _ _ _ _ (fold-Else (size_step meaning p) m b) (fold-Else (size_step meaning p) a b) (record { wide = omega (arith, wide); heavy = omega (arith, heavy) });
            epochs = λ e. count_by _ _ _ _ (more e) (fold-Else (claims_step (under e)) m b) (fold-Else (claims_step (under e)) a b) (let c : C e m ≤ C e a + more e = k.epochs e in omega (arith, c));
          });
    };
    or_right = λ a m b r. record {
      stays = λ o e. absurd (let n = done-Else a b in (cc));
      kept = λ h. (
          let s = into _ _ (shape-Else meaning p a b) h in
          let k : K m b = r.kept s.1 in
          let z : IsWithin d (S m) (S b) = k.sizes in
          let wide : (S m).wide ≤ (S b).wide = z.wide in
          let heavy : (S m).heavy + d ≤ (S b).heavy = z.heavy in
          record {
            shape = back _ _ (shape-Else meaning p a m) (s.0, k.shape);
            yields = (monotone meaning p).or a a m b (λ o y. y) k.yields;
            sizes = within_by d _ _ _ _ (fold-Else (size_step meaning p) a m) (fold-Else (size_step meaning p) a b) (record { wide = omega (arith, wide); heavy = omega (arith, heavy) });
            epochs = λ e. count_by _ _ _ _ (more e) (fold-Else (claims_step (under e)) a m) (fold-Else (claims_step (under e)) a b) (let c : C e m ≤ C e b + more e = k.epochs e in omega (arith, c));
          });
    };
    race = λ ms ks one. record {
      stays = λ o e. absurd (let n = done-Race ks in (cc));
      kept = λ h. (
          let s = into _ _ (shape-Race meaning p ks) h in
          let k : KidsKept meaning p d more ms ks = kids_kept meaning p d more ms ks one s.1 in
          let a : weight_sum (map S ms) + d ≤ weight_sum (map S ks) = k.weight_sum in
          record {
            shape = back _ _ (shape-Race meaning p ms) (subst (λ n. IsTrue (nat_lt 0 n)) (sym (length_kids meaning p d more ms ks one)) s.0, k.shapes);
            yields = (monotone meaning p).race ms ks k.pairs;
            sizes = within_by d _ _ _ _ (fold-Race (size_step meaning p) ms) (fold-Race (size_step meaning p) ks) (record { wide = k.widest; heavy = omega (arith, a) });
            epochs = λ e. count_by _ _ _ _ (more e) (fold-Race (claims_step (under e)) ms) (fold-Race (claims_step (under e)) ks) (k.counts e);
          });
    };
  }
