-- One layer of each definition on terms, as equations.
use Rattle.std.proofs.Common.{◌≡◌, ℕ, ◌+◌, ◌-◌, List, ◌∷◌, length, map, max, sum, get_or, nat_lt, nat_eq, if◌then◌else◌, Option, Some, None, ◌⊎◌, inl, inr, refl, rules}
use Rattle.std.specs.Prelude.{position, Bool, true, ◌&&◌, nat_le}
use Rattle.std.specs.Option.{option_map}
use Rattle.mp_logic.specs.declared.sym.Sym.{Sym}
use Rattle.mp_logic.specs.Lists.{greatest}
use Rattle.mp_term.specs.declared.term.Param.{Param}
use Rattle.mp_term.specs.declared.term.Term.{Term, Var, Op, out-Term, the_lemmas}
use Rattle.mp_term.specs.declared.term.Term.TheOpen as term_layer
use Rattle.mp_term.specs.declared.term.Bound.{Bound, fold-Bound}
use Rattle.mp_term.specs.Terms.{size_of, size_step, depth_of, depth_step, body_step, in_scope_of, all_at_scope, ScopeTest, scope_step, scope_bound_step, all_true}
use Rattle.mp_term.specs.Limits.{few_binders_of, few_binders_step, few_binders_bound_step}
use Rattle.mp_term.specs.Subst.{weak, weak_bound, under, sub_of, sub_bound_of, sub_each, widest_of, widest_at, width_bound, all_some, unrenamed, unrenamed_bound, occurs_in, occurs_step, any_true}
use Rattle.mp_term.specs.Sizes.{sub_size, sub_size_bound, sub_depth, sub_depth_bound}
use Rattle.mp_term.specs.Equality.{same_term, same_bound, is_level, is_operator}
use Rattle.mp_term.specs.Induction.{OfEachBody, each_term}

abbrev pub size_bound : Bound → ℕ
size_bound = fold-Bound ℕ ℕ size_step body_step

pub size-Var : (i : ℕ) → size_of (Var i) ≡ 1
size-Var i = search (rules, the_lemmas)

pub size-Op : (o : Sym) (ps : List Param) (bs : List Bound) → size_of (Op o ps bs) ≡ 1 + sum (map size_bound bs)
size-Op o ps bs = search (rules, the_lemmas)

pub size_bound-is : (b : Bound) → size_bound b ≡ size_of b.body
size_bound-is b = search (rules, the_lemmas)

abbrev pub depth_bound : Bound → ℕ
depth_bound = fold-Bound ℕ ℕ depth_step body_step

pub depth-Var : (i : ℕ) → depth_of (Var i) ≡ 1
depth-Var i = search (rules, the_lemmas)

pub depth-Op : (o : Sym) (ps : List Param) (bs : List Bound) → depth_of (Op o ps bs) ≡ 1 + greatest (map depth_bound bs)
depth-Op o ps bs = search (rules, the_lemmas)

pub depth_bound-is : (b : Bound) → depth_bound b ≡ depth_of b.body
depth_bound-is b = search (rules, the_lemmas)

abbrev pub scoped_bound : Bound → ScopeTest
scoped_bound = fold-Bound ScopeTest ScopeTest scope_step scope_bound_step

pub in_scope-Var : (level n : ℕ) → in_scope_of (Var level) n ≡ nat_lt level n
in_scope-Var level n = search (rules, the_lemmas)

pub in_scope-Op : (o : Sym) (ps : List Param) (subs : List Bound) (n : ℕ) → in_scope_of (Op o ps subs) n ≡ all_at_scope n (map scoped_bound subs)
in_scope-Op o ps subs n = search (rules, the_lemmas)

pub scoped_bound-is : (b : Bound) (n : ℕ) → scoped_bound b n ≡ in_scope_of b.body (n + b.binders)
scoped_bound-is b n = search (rules, the_lemmas)

abbrev pub few_bound : Bound → Bool
few_bound = fold-Bound Bool Bool few_binders_step few_binders_bound_step

pub few-Var : (level : ℕ) → few_binders_of (Var level) ≡ true
few-Var level = search (rules, the_lemmas)

pub few-Op : (o : Sym) (ps : List Param) (subs : List Bound) → few_binders_of (Op o ps subs) ≡ all_true (map few_bound subs)
few-Op o ps subs = search (rules, the_lemmas)

pub few_bound-is : (b : Bound) → few_bound b ≡ (nat_le b.binders 8 && few_binders_of b.body)
few_bound-is b = search (rules, the_lemmas)

pub weak-Var : (n k level : ℕ) → weak n k (Var level) ≡ Var (if nat_lt level n then level else level + k)
weak-Var n k level = search (rules, the_lemmas)

pub weak-Op : (n k : ℕ) (o : Sym) (ps : List Param) (subs : List Bound) → weak n k (Op o ps subs) ≡ Op o ps (map (weak_bound n k) subs)
weak-Op n k o ps subs = search (rules, the_lemmas)

pub weak_bound-is : (n k : ℕ) (b : Bound) → weak_bound n k b ≡ record { binders = b.binders; body = weak n k b.body }
weak_bound-is n k b = search (rules, the_lemmas)

pub sub-Var : (i : ℕ) (s : List Term) (m : ℕ) → sub_of (Var i) s m ≡ get_or s i (Var i)
sub-Var i s m = search (rules, the_lemmas)

pub sub-Op : (t : Term) (o : Sym) (ps : List Param) (subs : List Bound) (s : List Term) (m : ℕ) → t ≡ Op o ps subs →
    sub_of t s m ≡ Op o ps (sub_each (map sub_bound_of subs) s m)
sub-Op t o ps subs s m e = search (rules, the_lemmas)

pub sub_bound-is : (b : Bound) (s : List Term) (m : ℕ) → sub_bound_of b s m ≡ record { binders = b.binders; body = sub_of b.body (under s m b.binders) (m + b.binders) }
sub_bound-is b s m = search (rules, the_lemmas)

pub widest-Var : (i n : ℕ) → widest_of (Var i) n ≡ n
widest-Var i n = search (rules, the_lemmas)

pub widest-Op : (o : Sym) (ps : List Param) (subs : List Bound) (n : ℕ) → widest_of (Op o ps subs) n ≡ widest_at n (map width_bound subs)
widest-Op o ps subs n = search (rules, the_lemmas)

pub width_bound-is : (b : Bound) (n : ℕ) → width_bound b n ≡ max (n + b.binders) (widest_of b.body (n + b.binders))
width_bound-is b n = search (rules, the_lemmas)

module _ (sizes : List ℕ) where
  pub sub_size-Var : (i : ℕ) → sub_size sizes (Var i) ≡ get_or sizes i 1
  sub_size-Var i = search (rules, the_lemmas)

  pub sub_size-Op : (o : Sym) (ps : List Param) (bs : List Bound) → sub_size sizes (Op o ps bs) ≡ 1 + sum (map (sub_size_bound sizes) bs)
  sub_size-Op o ps bs = search (rules, the_lemmas)

  pub sub_size_bound-is : (b : Bound) → sub_size_bound sizes b ≡ sub_size sizes b.body
  sub_size_bound-is b = search (rules, the_lemmas)

  pub sub_depth-Var : (i : ℕ) → sub_depth sizes (Var i) ≡ get_or sizes i 1
  sub_depth-Var i = search (rules, the_lemmas)

  pub sub_depth-Op : (o : Sym) (ps : List Param) (bs : List Bound) → sub_depth sizes (Op o ps bs) ≡ 1 + greatest (map (sub_depth_bound sizes) bs)
  sub_depth-Op o ps bs = search (rules, the_lemmas)

  pub sub_depth_bound-is : (b : Bound) → sub_depth_bound sizes b ≡ sub_depth sizes b.body
  sub_depth_bound-is b = search (rules, the_lemmas)

module _ (levels : List ℕ) (n : ℕ) where
  pub unrenamed-Var : (level : ℕ) → unrenamed levels n (Var level)
      ≡ (if nat_lt level n then option_map Var (position (λ x. nat_eq x level) levels) else Some (Var (level - n + length levels)))
  unrenamed-Var level = search (rules, the_lemmas)

  pub unrenamed-Op : (o : Sym) (ps : List Param) (subs : List Bound) → unrenamed levels n (Op o ps subs) ≡ option_map (Op o ps) (all_some (map (unrenamed_bound levels n) subs))
  unrenamed-Op o ps subs = search (rules, the_lemmas)

  pub unrenamed_bound-is : (b : Bound) → unrenamed_bound levels n b
      ≡ option_map (λ (body : Term). record { binders = b.binders; body = body }) (unrenamed levels n b.body)
  unrenamed_bound-is b = search (rules, the_lemmas)

-- one made item before the others
abbrev pub with_first : Option Bound → Option (List Bound) → Option (List Bound)
with_first None others = None
with_first (Some b) others = option_map (λ rest. b ∷ rest) others

pub all_some-cons : (x : Option Bound) (xs : List (Option Bound)) → all_some (x ∷ xs) ≡ with_first x (all_some xs)
all_some-cons None xs = refl
all_some-cons (Some b) xs = refl

module _ (i : ℕ) where
  abbrev pub occurs_bound : Bound → Bool
  occurs_bound = fold-Bound Bool Bool (occurs_step i) body_step

  pub occurs-Var : (level : ℕ) → occurs_in i (Var level) ≡ nat_eq level i
  occurs-Var level = search (rules, the_lemmas)

  pub occurs-Op : (o : Sym) (ps : List Param) (bs : List Bound) → occurs_in i (Op o ps bs) ≡ any_true (map occurs_bound bs)
  occurs-Op o ps bs = search (rules, the_lemmas)

  pub occurs_bound-is : (b : Bound) → occurs_bound b ≡ occurs_in i b.body
  occurs_bound-is b = search (rules, the_lemmas)

pub out-Var : (l : ℕ) → out-Term (Var l) ≡ term_layer.Var l
out-Var l = search (rules, the_lemmas)

pub out-Op : (o : Sym) (ps : List Param) (bs : List Bound) → out-Term (Op o ps bs) ≡ term_layer.Op o ps bs
out-Op o ps bs = search (rules, the_lemmas)

pub same-Var : (l : ℕ) (t : Term) → same_term (Var l) t ≡ is_level l (out-Term t)
same-Var l t = search (rules, the_lemmas)

pub same-Op : (o : Sym) (ps : List Param) (bs : List Bound) (t : Term) → same_term (Op o ps bs) t ≡ is_operator o ps (map same_bound bs) (out-Term t)
same-Op o ps bs t = search (rules, the_lemmas)

pub same_bound-is : (b x : Bound) → same_bound b x ≡ (nat_eq b.binders x.binders && same_term b.body x.body)
same_bound-is b x = search (rules, the_lemmas)

-- a term is a variable or an operator
abbrev pub Variant : Term → Type 0
Variant t = ((l : ℕ) × (t ≡ Var l)) ⊎ ((o : Sym) × (ps : List Param) × (bs : List Bound) × (t ≡ Op o ps bs))

variant_var : (l : ℕ) → Variant (Var l)
variant_var l = inl (l, refl)

variant_op : (o : Sym) (ps : List Param) (bs : List Bound) → OfEachBody Variant bs → Variant (Op o ps bs)
variant_op o ps bs _ = inr (o, ps, bs, refl)

pub variant : (t : Term) → Variant t
variant = each_term Variant variant_var variant_op
