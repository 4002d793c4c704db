-- What is made is in scope.
use Rattle.std.proofs.Common.{◌≡◌, ℕ, ◌+◌, ◌-◌, ◌≤◌, List, [], ◌∷◌, ◌++◌, length, map, IsTrue, suc, refl, arith}
use Rattle.std.specs.List.{list_all}
use Rattle.std.proofs.lemmas.Grind.{common_steps}
use Rattle.std.proofs.lemmas.List.{length-append}
use Rattle.mp_logic.specs.declared.sym.Sym.{Sym}
use Rattle.mp_term.specs.declared.term.Term.{Term, Var}
use Rattle.mp_term.specs.Terms.{in_scope_of, all_at_scope}
use Rattle.mp_term.specs.Limits.{in_scopes_from, sequent_in_scope_of}
use Rattle.mp_term.proofs.EqualTerms.{both_true, and_true}
use Rattle.mp_term.proofs.Laws.{scope_after_substitution}
use Rattle.mp_schema.specs.declared.pattern.Pattern.{Pattern}
use Rattle.mp_schema.specs.declared.schema.Item.{Item}
use Rattle.mp_schema.specs.declared.schema.Item.TheVariants.{Ctx, Hyp}
use Rattle.mp_schema.specs.declared.schema.Schema.{Schema}
use Rattle.mp_schema.specs.Instances.{fits, all_pass}
use Rattle.mp_term.specs.Subst.{upto}
use Rattle.mp_schema.specs.Sequents.{Instance, Spot, first_spot, ground_at, wide_of, telescope, hyps_of, behind, hyps_from, behind_all, concl_at, seq, item_fits, schema_fits}
use Rattle.mp_schema.specs.Conditions.{below, lists_known, has_all, Before, nothing_before, past, past_all, each_item, pattern_placed, all_placed, item_placed, is_placed}
use Rattle.mp_build.specs.Built.{term_of}
use Rattle.mp_build.specs.Sites.{IsSpot, IsBefore, args_at}
use Rattle.mp_build.proofs.Items.{all_placed-parts, next-behind, stands-behind, stands-first}
use Rattle.mp_build.proofs.Placed.{inst-placed, args-placed}
use Rattle.mp_build.proofs.Rows.{row-placed, row-terms}
use Rattle.mp_build.proofs.SequentSizes.{length-item}
use Rattle.mp_build.proofs.TermFacts.{env-here}

in_scopes-append : (n : ℕ) (xs ys : List Term) → IsTrue (in_scopes_from n xs) → IsTrue (in_scopes_from (n + length xs) ys) → IsTrue (in_scopes_from n (xs ++ ys))
in_scopes-append n [] ys h h' = let e : n + 0 ≡ n = omega arith in rw e at h'
in_scopes-append n (x ∷ xs) ys h h' =
    let e : n + suc (length xs) ≡ n + 1 + length xs = omega arith in
    let k = both_true (in_scope_of x n) (in_scopes_from (n + 1) xs) h in
    and_true (in_scope_of x n) (in_scopes_from (n + 1) (xs ++ ys)) k.0 (in_scopes-append (n + 1) xs ys k.1 (rw e at h'))

module _ (v : Instance) where
  module _ (l : Spot) (cs : List Sym) (args : List Pattern) (known : List Sym) (spot : IsSpot v l known) (listed : IsTrue (has_all known cs))
      (closed : IsTrue (all_at_scope (length l.env) (map below args))) (fitting : IsTrue (all_pass (map (fits (wide_of v) v.values) args)))
      (args_listed : IsTrue (all_pass (map (lists_known known) args))) where
    telescope-in : (j : ℕ) (ts : List Term) → IsTrue (in_scopes_from (wide_of v cs + length args + j) ts) → IsTrue (in_scopes_from (l.next + j) (telescope v l cs args l.next j ts))
    telescope-in j [] h = refl
    telescope-in j (t ∷ ts) h =
        let terms : List Term = map Var (ground_at v l.pos cs) ++ args_at v l (l.next + j) args (l.next + j) ++ map Var (upto l.next j) in
        let m : ℕ = l.next + j in
        let e0 : length l.env ≡ length l.env + (m - m) = omega arith in
        let outer : l.next ≤ m = omega arith in
        let inner : m ≤ m = omega arith in
        let roomed = args-placed v l m known spot outer args m inner (rw e0 at closed, fitting, args_listed) in
        let placed = row-placed v l cs args known spot listed j _ terms roomed refl in
        let k = both_true (in_scope_of t (wide_of v cs + length args + j)) (in_scopes_from (wide_of v cs + length args + j + 1) ts) h in
        let e : wide_of v cs + length args + j + 1 ≡ wide_of v cs + length args + suc j = omega arith in
        let e' : l.next + suc j ≡ l.next + j + 1 = omega arith in
        let later = rw e' at (telescope-in (suc j) ts (rw e at k.1)) in
        let made = scope_after_substitution terms (l.next + j) t placed.0 (rw placed.2 k.0) in
        let here = rw (row-terms v l cs args j terms refl) at made in
        grind (arith, common_steps, here, later)

  concl-in : (p : Pattern) (l : Spot) (b : Before) → IsBefore v l b → IsTrue (pattern_placed p b) → IsTrue (fits (wide_of v) v.values p) → IsTrue (in_scope_of (concl_at v p l) l.next)
  concl-in p l b r placed fitting =
      let k = both_true (below p b.named) (lists_known b.contexts p) placed in
      let named = r.named in
      let e : length l.env + (l.next - l.next) ≡ b.named = omega (arith, named) in
      let outer : l.next ≤ l.next = omega arith in
      let made = inst-placed v l l.next b.contexts r.spot outer p l.next outer (rw e k.0, fitting, k.1) in
      rw (env-here l l.next) at made.0

  item-in : (i : Item) (l : Spot) (b : Before) → IsBefore v l b → IsTrue (item_placed i b) → IsTrue (item_fits v i) → IsTrue (in_scopes_from l.next (hyps_of v i l))
  item-in (Hyp p) l b r placed fitting = let made = concl-in p l b r placed fitting in grind (arith, common_steps, made)
  item-in (Ctx n cs args) l b r placed fitting =
      let listed : IsTrue (has_all b.contexts cs) = grind (arith, common_steps) in
      let args_placed : IsTrue (all_placed args b) = grind (arith, common_steps) in
      let parts = all_placed-parts args b args_placed in
      let args_fitting : IsTrue (all_pass (map (fits (wide_of v) v.values) args)) = grind (arith, common_steps) in
      let scoped : IsTrue (in_scopes_from (wide_of v cs + length args) (v.kept n)) = grind (arith, common_steps) in
      let e : wide_of v cs + length args + 0 ≡ wide_of v cs + length args = omega arith in
      let e' : l.next + 0 ≡ l.next = omega arith in
      rw e' at (telescope-in l cs args b.contexts r.spot listed (rw r.named parts.0) args_fitting parts.1 0 (v.kept n) (rw e scoped))

  hyps-in : (is : List Item) (l : Spot) (b : Before) → IsBefore v l b → IsTrue (each_item item_placed is b) → IsTrue (list_all (item_fits v) is) →
      IsTrue (in_scopes_from l.next (hyps_from v is l)) × IsBefore v (behind_all v is l) (past_all is b)
  hyps-in [] l b r placed fitting = (refl, r)
  hyps-in (i ∷ is) l b r placed fitting =
      let k = both_true (item_placed i b) (each_item item_placed is (past i b)) placed in
      let f = both_true (item_fits v i) (list_all (item_fits v) is) fitting in
      let rest = hyps-in is (behind v i l) (past i b) (stands-behind v i l b r) k.1 f.1 in
      let many = length-item v i l in
      let next = next-behind v i l in
      let e : (behind v i l).next ≡ l.next + length (hyps_of v i l) = omega (arith, many, next) in
      (in_scopes-append l.next (hyps_of v i l) (hyps_from v is (behind v i l)) (item-in i l b r k.0 f.0) (rw e at rest.0), rest.1)

  next-behind_all : (is : List Item) (l : Spot) → (behind_all v is l).next ≡ l.next + length (hyps_from v is l)
  next-behind_all [] l = omega arith
  next-behind_all (i ∷ is) l =
      let rest = next-behind_all is (behind v i l) in
      let many = length-item v i l in
      let next = next-behind v i l in
      let both = length-append (hyps_of v i l) (hyps_from v is (behind v i l)) in
      omega (arith, rest, many, next, both)

  pub sequent-in : (s : Schema) → v.ambient ≡ 0 → IsTrue (is_placed s) → IsTrue (schema_fits v s) → IsTrue (sequent_in_scope_of (seq v s))
  sequent-in s rule placed fitting =
      let k = both_true (each_item item_placed s.items nothing_before) (pattern_placed s.concl (past_all s.items nothing_before)) placed in
      let f = both_true (list_all (item_fits v) s.items) (fits (wide_of v) v.values s.concl) fitting in
      let hyps = hyps-in s.items first_spot nothing_before (stands-first v rule) k.0 f.0 in
      let concl = concl-in s.concl (behind_all v s.items first_spot) (past_all s.items nothing_before) hyps.1 k.1 f.1 in
      let many = next-behind_all s.items first_spot in
      let e : (behind_all v s.items first_spot).next ≡ length (hyps_from v s.items first_spot) = omega (arith, many) in
      let one = hyps.0 in
      let two : IsTrue (in_scope_of (concl_at v s.concl (behind_all v s.items first_spot)) (length (hyps_from v s.items first_spot))) = rw (← e) concl in
      grind (arith, common_steps, one, two)

  pub term-in : (p : Pattern) → IsTrue (below p 0) → IsTrue (lists_known [] p) → IsTrue (fits (wide_of v) v.values p) → IsTrue (in_scope_of (term_of v p) v.ambient)
  term-in p closed plain fitting =
      let l : Spot = record { env = []; pos = λ name. 0; next = v.ambient } in
      let spot : IsSpot v l [] = record { ambient = omega arith; named = λ k d h. absurd (omega arith); made = λ c h. absurd (cc) } in
      let outer : v.ambient ≤ v.ambient = omega arith in
      let e : 0 + (v.ambient - v.ambient) ≡ 0 = omega arith in
      let made = inst-placed v l v.ambient [] spot outer p v.ambient outer (rw e closed, fitting, plain) in
      rw (env-here l v.ambient) at made.0
