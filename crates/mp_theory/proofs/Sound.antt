-- What a step needs of a rule without a fault.
use Rattle.std.proofs.Common.{◌≡◌, ◌≤◌, inl, inr, List, [], ◌∷◌, map, length, Bool, true, false, Option, Some, None, refl, sym, ap, ◌∙◌, subst, arith}
use Rattle.std.specs.Prelude.{◌&&◌, IsTrue, nat_le, is_none}
use Rattle.std.specs.List.{list_all, flat_map}
use Rattle.std.proofs.lemmas.Bool.Decides.{nat_tests}
use Rattle.std.proofs.lemmas.List.{length-map}
use Rattle.std.proofs.lemmas.List.Elements.{recursion_from_All}
use Rattle.mp_logic.specs.declared.sym.Sym.{Sym}
use Rattle.mp_schema.specs.declared.fault.SchemaFault.{SchemaFault}
use Rattle.mp_schema.specs.declared.pattern.Pattern.{Pattern}
use Rattle.mp_schema.specs.declared.pattern.Pattern as pat
use Rattle.mp_schema.specs.declared.pattern.ParamPat.{ParamPat}
use Rattle.mp_schema.specs.declared.pattern.PBound.{PBound}
use Rattle.mp_schema.specs.declared.schema.Item.{Item}
use Rattle.mp_schema.specs.declared.schema.Item.TheVariants.{Ctx, Hyp}
use Rattle.mp_schema.specs.declared.schema.Schema.{Schema}
use Rattle.mp_schema.specs.Conditions.{has_all, context_names, is_placed, is_conclusion}
use Rattle.mp_schema.specs.Faults.{rule_fault_of, occurrences_of_rule, is_listed, is_consistent, on_variables, are_distinct, rule_is_few, rule_is_shallow, rule_is_listed, rule_is_on_variables, rule_is_consistent, rule_is_filled}
use Rattle.mp_schema.specs.Instances.{all_pass}
use Rattle.mp_schema.specs.Induction.{each_pattern, OfEachBody, OfEachArg}
use Rattle.mp_schema.specs.Limits.{few_of, few_of_bound, few_of_item, few_of_schema, is_shallow_schema}
use Rattle.mp_schema.specs.Occurrences.{Occurrence, occurrences_in, occurrences_in_bound, occurrences_in_item, occurrences_in_schema, variable_level, holes_in_schema}
use Rattle.mp_schema.proofs.Faultless.{KeepsRule, KeepsRule-from, IsFaultlessRule-from}
use Rattle.mp_schema.proofs.Layers.{occurrences_in-Var, occurrences_in-Op, occurrences_in-Meta, occurrences_in_bound-is, few_of-Op, few_of-Meta, few_of_bound-is}
use Rattle.mp_theory.specs.declared.rule.Rule.{Rule}
use Rattle.mp_theory.specs.Tables.{is_faultless}
use Rattle.mp_schema.specs.Occurrences.{In}
use Rattle.mp_schema.proofs.Lists.{in-split, all-in, each-in}
use Rattle.mp_schema.proofs.Agreeing.{and_both}
use Rattle.mp_theory.proofs.Transfer.{IsEven}

-- ## Few arguments

abbrev FewLevels : List Occurrence → Type 0
FewLevels os = (o : Occurrence) → In o os → length o.levels ≤ 8

abbrev HasFew : Pattern → Type 0
HasFew p = few_of p ≡ true → FewLevels (occurrences_in p)

few_bodies : (subs : List PBound) → OfEachBody HasFew subs → all_pass (map few_of_bound subs) ≡ true → FewLevels (flat_map occurrences_in_bound subs)
few_bodies [] h e o i = absurd i
few_bodies (b ∷ bs) h e o i =
    let both = and_both (few_of_bound b) (all_pass (map few_of_bound bs)) e in
    let body = and_both _ (few_of b.body) (sym (few_of_bound-is b) ∙ both.0) in
    elim (in-split o (occurrences_in_bound b) (flat_map occurrences_in_bound bs) i) [
      | inl j ↦ h.0 body.1 o (subst (In o) (occurrences_in_bound-is b) j)
      | inr j ↦ few_bodies bs h.1 both.1 o j
    ]

few_args : (args : List Pattern) → OfEachArg HasFew args → all_pass (map few_of args) ≡ true → FewLevels (flat_map occurrences_in args)
few_args [] h e o i = absurd i
few_args (a ∷ rest) h e o i =
    let both = and_both (few_of a) (all_pass (map few_of rest)) e in
    elim (in-split o (occurrences_in a) (flat_map occurrences_in rest) i) [
      | inl j ↦ h.0 both.0 o j
      | inr j ↦ few_args rest h.1 both.1 o j
    ]

first_few : (c : Bool) (n : Sym) (cs : List Sym) (args : List Pattern) → nat_le (length args) 8 ≡ true → FewLevels (flat_map occurrences_in args) →
    FewLevels (record { is_context = c; name = n; ctxs = cs; levels = map variable_level args } ∷ flat_map occurrences_in args)
first_few c n cs args e h o (inl same) =
    let many = length-map args variable_level in
    let levels : map variable_level args ≡ o.levels = ap (λ (x : Occurrence). x.levels) same in
    let few : length args ≤ 8 = grind (arith, nat_tests, e) in
    rw (← levels) (omega arith)
first_few c n cs args e h o (inr i) = h o i

few_op : (o : Sym) (ps : List ParamPat) (subs : List PBound) → OfEachBody HasFew subs → HasFew (pat.Op o ps subs)
few_op o ps subs h e x i =
    let both = and_both _ (all_pass (map few_of_bound subs)) (sym (few_of-Op o ps subs) ∙ e) in
    few_bodies subs h both.1 x (subst (In x) (occurrences_in-Op o ps subs) i)

few_meta : (n : Sym) (cs : List Sym) (args : List Pattern) → OfEachArg HasFew args → HasFew (pat.Meta n cs args)
few_meta n cs args h e x i =
    let both = and_both _ (all_pass (map few_of args)) (sym (few_of-Meta n cs args) ∙ e) in
    let counts = and_both _ (nat_le (length args) 8) both.0 in
    first_few false n cs args counts.1 (few_args args h both.1) x (subst (In x) (occurrences_in-Meta n cs args) i)

few : (p : Pattern) → HasFew p
few = each_pattern HasFew (λ l e o i. absurd (subst (In o) (occurrences_in-Var l) i)) few_op few_meta

few_each : (args : List Pattern) → all_pass (map few_of args) ≡ true → FewLevels (flat_map occurrences_in args)
few_each [] e o i = absurd i
few_each (a ∷ rest) e o i =
    let both = and_both (few_of a) (all_pass (map few_of rest)) e in
    elim (in-split o (occurrences_in a) (flat_map occurrences_in rest) i) [ inl j ↦ few a both.0 o j | inr j ↦ few_each rest both.1 o j ]

few_item : (i : Item) → few_of_item i ≡ true → FewLevels (occurrences_in_item i)
few_item (Hyp p) e = few p e
few_item (Ctx name ctxs args) e =
    let both = and_both _ (all_pass (map few_of args)) e in
    let counts = and_both _ (nat_le (length args) 8) both.0 in
    first_few true name ctxs args counts.1 (few_each args both.1)

few_items : (items : List Item) → list_all few_of_item items ≡ true → FewLevels (flat_map occurrences_in_item items)
few_items [] e o i = absurd i
few_items (x ∷ xs) e o i =
    let both = and_both (few_of_item x) (list_all few_of_item xs) e in
    elim (in-split o (occurrences_in_item x) (flat_map occurrences_in_item xs) i) [ inl j ↦ few_item x both.0 o j | inr j ↦ few_items xs both.1 o j ]

few_schema : (s : Schema) → few_of_schema s ≡ true → FewLevels (occurrences_in_schema s)
few_schema s e o i =
    let both = and_both _ (few_of s.concl) e in
    let items = and_both _ (list_all few_of_item s.items) both.0 in
    elim (in-split o (flat_map occurrences_in_item s.items) (occurrences_in s.concl) i) [ inl j ↦ few_items s.items items.1 o j | inr j ↦ few s.concl both.1 o j ]

-- ## Rules

-- a rule by which steps are made
pub record IsSound (ps : List Schema) (c : Schema) : Type 0 where
  pub few_premises : length ps ≤ 16
  pub conclusion : IsTrue (is_conclusion c)
  pub placed_end : is_placed c ≡ true
  pub distinct : (o : Occurrence) → In o (occurrences_in_schema c) → are_distinct o.levels ≡ true
  pub even : IsEven ps c
  pub filled : has_all (holes_in_schema c) (flat_map holes_in_schema ps) ≡ true
  pub placed : (p : Schema) → In p ps → is_placed p ≡ true
  pub few : (p : Schema) → In p ps → few_of_schema p ≡ true
  pub shallow : (p : Schema) → In p ps → is_shallow_schema p ≡ true

no_fault : (o : Option SchemaFault) → IsTrue (is_none o) → o ≡ None
no_fault None e = refl
no_fault (Some f) e = absurd cc

module _ (ps : List Schema) (c : Schema) (keeps : KeepsRule ps c) where
  few_all : list_all few_of_schema ps ≡ true
  unfolding rule_is_few
  few_all =
      let parts = and_both (nat_le (length ps) 16) (list_all few_of_schema ps && few_of_schema c) keeps.few in
      (and_both (list_all few_of_schema ps) (few_of_schema c) parts.1).0

  shallow_all : list_all is_shallow_schema ps ≡ true
  unfolding rule_is_shallow
  shallow_all = (and_both (list_all is_shallow_schema ps) (is_shallow_schema c) keeps.shallow).0

  listed_all : list_all (λ p. has_all (context_names c) (context_names p)) ps ≡ true
  unfolding rule_is_listed
  listed_all = (and_both (list_all is_listed ps && is_listed c) (list_all (λ p. has_all (context_names c) (context_names p)) ps) keeps.listed).1

  distinct_all : on_variables (occurrences_in_schema c) ≡ true
  unfolding rule_is_on_variables
  distinct_all = keeps.on_variables

  consistent_all : is_consistent (occurrences_of_rule ps c) ≡ true
  unfolding rule_is_consistent
  consistent_all = keeps.consistent

  filled_all : has_all (holes_in_schema c) (flat_map holes_in_schema ps) ≡ true
  unfolding rule_is_filled
  filled_all = keeps.filled

  placed_first : is_conclusion c ≡ true → is_placed c ≡ true
  placed_first e =
      let a = and_both _ _ e in
      let b = and_both _ _ a.0 in
      (and_both (is_placed c) _ b.0).0

  keeps_sound : IsSound ps c
  keeps_sound =
      let f = IsFaultlessRule-from ps c keeps in
      record {
        few_premises = f.few_premises;
        conclusion = f.conclusion;
        placed_end = placed_first f.conclusion;
        distinct = λ o i. all-in (λ (x : Occurrence). are_distinct x.levels) (occurrences_in_schema c) o distinct_all i;
        even = record {
          consistent = consistent_all;
          listed = λ p i. all-in (λ q. has_all (context_names c) (context_names q)) ps p listed_all i;
          few = λ p o i j. few_schema p (all-in few_of_schema ps p few_all i) o j;
        };
        filled = filled_all;
        placed = λ p i. each-in (λ q. IsTrue (is_placed q)) ps p (recursion_from_All (λ q. IsTrue (is_placed q)) ps f.placed) i;
        few = λ p i. all-in few_of_schema ps p few_all i;
        shallow = λ p i. all-in is_shallow_schema ps p shallow_all i;
      }

pub sound : (rule : Rule) → IsTrue (is_faultless rule) → IsSound rule.premises rule.concl
sound rule e = keeps_sound rule.premises rule.concl (KeepsRule-from rule.premises rule.concl (no_fault (rule_fault_of rule.premises rule.concl) e))
