-- Instances that have the same values make the same terms and sequents.
use Rattle.std.proofs.Common.{◌≡◌, ℕ, List, Bool, true, false, IsTrue, Option, Some, None, inl, inr, refl, sym, ap, ◌∙◌, subst}
use Rattle.mp_logic.specs.declared.sym.Sym.{Sym}
use Rattle.mp_term.specs.declared.term.Term.{Term}
use Rattle.mp_schema.specs.declared.instance.MetaVal.{MetaVal}
use Rattle.mp_schema.specs.declared.instance.Inst.{Inst}
use Rattle.mp_schema.specs.declared.pattern.Pattern.{Pattern}
use Rattle.mp_schema.specs.declared.schema.Schema.{Schema}
use Rattle.mp_schema.specs.Instances.{Ground, inst_of}
use Rattle.mp_schema.specs.Sequents.{Instance, seq}
use Rattle.mp_schema.specs.Conditions.{is_placed}
use Rattle.mp_schema.specs.Occurrences.{Occurrence, occurrences_in, holes_in}
use Rattle.mp_schema.specs.Solutions.{Agrees, SameValue}
use Rattle.mp_schema.specs.Values.{find_ctx, find_meta, find_param}
use Rattle.mp_match.specs.Covering.{is_there, is_covered, schema_covered}
use Rattle.mp_match.specs.Giving.{with_value}
use Rattle.mp_schema.proofs.Agreeing.{SameAt, SameHole, same_inst, same_seq}
use Rattle.mp_schema.proofs.UseKinds.{kind_of, plain}
use Rattle.mp_match.proofs.Covered.{HasValue, all_of, all_schema}
use Rattle.mp_match.proofs.Solving.{meta-kept, meta-new, meta-either}

there : {X : Type 0} (o : Option X) → is_there o ≡ true → (x : X) × (o ≡ Some x)
there None h = absurd (cc)
there (Some x) h = (x, refl)

module _ (i : Inst) (v w : Instance) (av : Agrees v i) (aw : Agrees w i) where
  same-meta : (name : Sym) → is_there (find_meta i.metas name) ≡ true → v.values.meta name ≡ w.values.meta name
  same-meta name h = let x = there (find_meta i.metas name) h in av.metas name x.0 x.1 ∙ sym (aw.metas name x.0 x.1)

  same-param : (name : Sym) → is_there (find_param i.params name) ≡ true → v.values.param name ≡ w.values.param name
  same-param name h = let x = there (find_param i.params name) h in av.params name x.0 x.1 ∙ sym (aw.params name x.0 x.1)

  same-kept : (name : Sym) → is_there (find_ctx i.ctxs name) ≡ true → v.kept name ≡ w.kept name
  same-kept name h = let x = there (find_ctx i.ctxs name) h in av.ctxs name x.0 x.1 ∙ sym (aw.ctxs name x.0 x.1)

  pub agreeing-terms : (p : Pattern) → IsTrue (is_covered i p) → (g : Ground) (env : List Term) (m : ℕ) → inst_of g v.values p env m ≡ inst_of g w.values p env m
  agreeing-terms p h g env m =
      let all = all_of i (occurrences_in p) (holes_in p) h in
      same_inst g g v.values w.values p (λ o j. (same-meta o.name (subst (λ c. HasValue i c o.name) (plain p o j) (all.values o j)), refl)) (λ n j. same-param n (all.holes n j)) env m

  agree_value : (c : Bool) (name : Sym) → HasValue i c name → SameValue v w c name
  agree_value true name h = same-kept name h
  agree_value false name h = same-meta name h

  pub agree_hole : (name : Sym) → is_there (find_param i.params name) ≡ true → SameHole v w name
  agree_hole name h = same-param name h

  pub agree_at : (o : Occurrence) → HasValue i o.is_context o.name → SameAt v w (kind_of o)
  agree_at o h = agree_value o.is_context o.name h

  pub agree_ambient : v.ambient ≡ w.ambient
  agree_ambient = av.ambient ∙ sym aw.ambient

  pub agreeing-sequents : (s : Schema) → IsTrue (is_placed s) → IsTrue (schema_covered i s) → seq v s ≡ seq w s
  agreeing-sequents s k c = let a = all_schema i s c in same_seq v w agree_ambient s k (λ o j. agree_at o (a.values o j)) (λ n j. agree_hole n (a.holes n j))

-- ## One more value

pub agrees-with_more : (i : Inst) (v : Instance) (name : Sym) (scope : ℕ) (value : Term) → find_meta i.metas name ≡ None → Agrees v (with_value i name scope value) →
    Agrees v i × (v.values.meta name ≡ value)
agrees-with_more i v name scope value fresh a =
    let x : MetaVal = record { name = name; scope = scope; body = value } in
    (record { ambient = a.ambient; ctxs = a.ctxs; metas = λ n y e. a.metas n y (meta-kept i.metas x y n e); params = a.params }, a.metas name x (meta-new i.metas x fresh))

pub agrees-more : (i : Inst) (v : Instance) (name : Sym) (scope : ℕ) (value : Term) → Agrees v i → v.values.meta name ≡ value → Agrees v (with_value i name scope value)
agrees-more i v name scope value a is =
    let x : MetaVal = record { name = name; scope = scope; body = value } in
    record {
      ambient = a.ambient;
      ctxs = a.ctxs;
      metas = λ n y e. elim (meta-either i.metas x y n e) [
        | inl old ↦ a.metas n y old
        | inr new ↦ ap v.values.meta (sym new.0) ∙ is ∙ ap (λ (z : MetaVal). z.body) (sym new.1)
      ];
      params = a.params;
    }
