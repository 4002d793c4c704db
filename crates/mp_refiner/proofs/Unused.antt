-- A match gives no value to a second-order variable that the conclusion doesn't have.
use Rattle.std.proofs.Common.{◌≡◌, inl, inr, ℕ, ◌+◌, List, [], ◌∷◌, map, length, sum, Bool, true, false, nat_eq, Option, Some, None, if◌then◌else◌, refl, sym, ap, ◌∙◌, arith}
use Rattle.std.specs.List.{list_all}
use Rattle.std.proofs.lemmas.Grind.{common_steps}
use Rattle.mp_logic.specs.declared.sym.Sym.{Sym}
use Rattle.mp_term.specs.declared.term.Term.{Term, Op}
use Rattle.mp_term.specs.declared.term.Bound.{Bound}
use Rattle.mp_term.specs.declared.sequent.Sequent.{Sequent}
use Rattle.mp_term.specs.Terms.{size_of, in_scope_of}
use Rattle.mp_term.specs.Limits.{in_scopes_from}
use Rattle.mp_term.proofs.Layers.{size_bound, size-Op, size_bound-is}
use Rattle.mp_schema.specs.declared.instance.MetaVal.{MetaVal}
use Rattle.mp_schema.specs.declared.instance.Inst.{Inst}
use Rattle.mp_schema.specs.declared.schema.Schema.{Schema}
use Rattle.mp_schema.specs.Conditions.{context_names, is_placed}
use Rattle.mp_schema.specs.Faultless.{occurrence_fits}
use Rattle.mp_schema.specs.Occurrences.{Occurrence, occurrences_in_schema}
use Rattle.mp_schema.specs.Sequents.{Instance, wide_of}
use Rattle.mp_schema.specs.Values.{find_meta, instance_of}
use Rattle.mp_schema.proofs.Fitting.{schema_fits-told}
use Rattle.mp_schema.specs.Solutions.{Agrees, GivesGoal, HasFirst, FirstHas}
use Rattle.mp_schema.specs.Occurrences.{In}
use Rattle.mp_term.proofs.EqualTerms.{decided}
use Rattle.mp_schema.proofs.Lists.{all-each, each-in, in-each, each-all}
use Rattle.mp_schema.proofs.UseKinds.{kind_of, same_name, nat_eq-itself}
use Rattle.mp_theory.proofs.Uses.{UsedIn}
use Rattle.mp_schema.proofs.Agreeing.{SameAt, same_seq}
use Rattle.mp_schema.specs.Solutions.{SameValue}

-- ## Another term

abbrev larger : Term → Term
larger t = let b : Bound = record { binders = 0; body = t } in let o : Sym = record { 0 = 0 } in Op o [] (b ∷ [])

size-larger : (t : Term) → size_of (larger t) ≡ 1 + size_of t
size-larger t =
    let b : Bound = record { binders = 0; body = t } in
    let o : Sym = record { 0 = 0 } in
    let e = size-Op o [] (b ∷ []) in
    let one : sum (map size_bound (b ∷ [])) ≡ size_bound b = grind (arith, common_steps) in
    let k = size_bound-is b in
    omega (arith, e, one, k)

larger-differs : (t : Term) → larger t ≡ t → ⊥
larger-differs t e = let s = size-larger t in let k = ap size_of e in absurd (omega arith)

-- ## An instance with another value

module _ (v : Instance) (name : Sym) (u : Term) where
  -- the instance with this value for the name
  abbrev changed : Instance
  changed = record v { values = record v.values { meta = λ n. if nat_eq n.0 name.0 then u else v.values.meta n } }

  has_first : (s : Schema) (first : Option ℕ) → HasFirst v s first → HasFirst changed s first
  has_first s None h = h
  has_first s (Some n) h = at (context_names s) h
    where
      at : (names : List Sym) → FirstHas v names n → FirstHas changed names n
      at [] k = k
      at (c ∷ names) k = k

  meta_other : (other : Sym) → nat_eq other.0 name.0 ≡ false → changed.values.meta other ≡ v.values.meta other
  meta_other other e = rw e refl

  meta_here : changed.values.meta name ≡ u
  meta_here = let e = nat_eq-itself name.0 in rw e refl

  module _ (s : Schema) (unused : UsedIn (occurrences_in_schema s) name → ⊥) where
    other_name : (o : Occurrence) → In o (occurrences_in_schema s) → o.is_context ≡ false → nat_eq o.name.0 name.0 ≡ false
    other_name o i plain = elim (decided (nat_eq o.name.0 name.0)) [
      | inl same ↦ absurd (unused (record { at = o; there = i; plain = plain; named = same_name o.name name same }))
      | inr other ↦ other
    ]

    same_value : (o : Occurrence) → In o (occurrences_in_schema s) → SameAt changed v (kind_of o)
    same_value o i = by o.is_context refl
      where
        by : (b : Bool) → o.is_context ≡ b → SameValue changed v b o.name
        by true e = refl
        by false e = meta_other o.name (other_name o i e)

    same_fits : (o : Occurrence) → In o (occurrences_in_schema s) → occurrence_fits changed o ≡ occurrence_fits v o
    same_fits o i = by o.is_context refl
      where
        by : (b : Bool) → o.is_context ≡ b →
            (if b then in_scopes_from (wide_of changed o.ctxs + length o.levels) (changed.kept o.name) else in_scope_of (changed.values.meta o.name) (wide_of changed o.ctxs + length o.levels))
            ≡ (if b then in_scopes_from (wide_of v o.ctxs + length o.levels) (v.kept o.name) else in_scope_of (v.values.meta o.name) (wide_of v o.ctxs + length o.levels))
        by true e = refl
        by false e = ap (λ t. in_scope_of t (wide_of v o.ctxs + length o.levels)) (meta_other o.name (other_name o i e))

    changed_gives : (first : Option ℕ) (goal : Sequent) → is_placed s ≡ true → GivesGoal s first goal v → GivesGoal s first goal changed
    changed_gives first goal placed g =
        let fits = sym (schema_fits-told v s) ∙ g.fit in
        let each = all-each (occurrence_fits v) (occurrences_in_schema s) fits in
        let all : list_all (occurrence_fits changed) (occurrences_in_schema s) ≡ true =
        each-all (occurrence_fits changed) (occurrences_in_schema s)
        (in-each (λ o. occurrence_fits changed o ≡ true) (occurrences_in_schema s) (λ o i. same_fits o i ∙ each-in (λ x. occurrence_fits v x ≡ true) (occurrences_in_schema s) o each i)) in
        record {
          ambient = g.ambient;
          fit = schema_fits-told changed s ∙ all;
          sized = has_first s first g.sized;
          same = same_seq changed v refl s placed same_value (λ n i. refl) ∙ g.same;
        }

-- where every instance that gives the goal has the values that are found, only names of the schema have some
pub unused_meta : (s : Schema) (first : Option ℕ) (goal : Sequent) (i : Inst) → is_placed s ≡ true → GivesGoal s first goal (instance_of i) →
    ((v : Instance) → GivesGoal s first goal v → Agrees v i) → (name : Sym) → (UsedIn (occurrences_in_schema s) name → ⊥) → find_meta i.metas name ≡ None
unused_meta s first goal i placed gives only name unused = by (find_meta i.metas name) refl
  where
    by : (o : Option MetaVal) → find_meta i.metas name ≡ o → find_meta i.metas name ≡ None
    by None e = e
    by (Some x) e =
        let a = only (changed (instance_of i) name (larger x.body)) (changed_gives (instance_of i) name (larger x.body) s unused first goal placed gives) in
        absurd (larger-differs x.body (sym (meta_here (instance_of i) name (larger x.body)) ∙ a.metas name x e))
