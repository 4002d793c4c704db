-- What is found has a value for each name that occurs.
use Rattle.std.proofs.Common.{◌≡◌, List, [], ◌∷◌, Bool, true, false, Option, Some, None, refl, ap}
use Rattle.std.specs.List.{list_all}
use Rattle.mp_logic.specs.declared.sym.Sym.{Sym}
use Rattle.mp_term.specs.declared.term.Param.{Param}
use Rattle.mp_term.specs.declared.term.Param.TheVariants.{Str}
use Rattle.mp_term.specs.declared.term.Term.{Term, Var, Op}
use Rattle.mp_schema.specs.declared.instance.CtxVal.{CtxVal}
use Rattle.mp_schema.specs.declared.instance.Inst.{Inst}
use Rattle.mp_schema.specs.declared.instance.MetaVal.{MetaVal}
use Rattle.mp_schema.specs.declared.schema.Schema.{Schema}
use Rattle.mp_schema.specs.Occurrences.{In, Occurrence, occurrences_in_schema, holes_in_schema}
use Rattle.mp_schema.specs.Sequents.{Instance}
use Rattle.mp_schema.specs.Solutions.{Agrees, AgreeOn, SameValue}
use Rattle.mp_schema.specs.Values.{find_meta, find_param, find_ctx, body_or, kept_or, instance_of}
use Rattle.mp_schema.proofs.Lists.{all-in, in-each, each-all}
use Rattle.mp_term.proofs.EqualTerms.{both_true, and_true}
use Rattle.mp_match.specs.Covering.{is_there, has_value, all_covered, schema_covered}

module _ (i : Inst) where
  -- the name has a value
  abbrev pub HasValue : Bool → Sym → Type 0
  HasValue is_context name = has_value i is_context name ≡ true

  pub record HasAll (os : List Occurrence) (names : List Sym) : Type 0 where
    pub values : (o : Occurrence) → In o os → HasValue o.is_context o.name
    pub holes : (name : Sym) → In name names → is_there (find_param i.params name) ≡ true

  abbrev tells : Occurrence → Bool
  tells o = has_value i o.is_context o.name

  abbrev fills : Sym → Bool
  fills name = is_there (find_param i.params name)

  pub all_of : (os : List Occurrence) (names : List Sym) → all_covered i os names ≡ true → HasAll os names
  all_of os names e =
      let both = both_true (list_all tells os) (list_all fills names) e in
      record { values = λ o j. all-in tells os o both.0 j; holes = λ n j. all-in fills names n both.1 j }

  pub all_schema : (s : Schema) → schema_covered i s ≡ true → HasAll (occurrences_in_schema s) (holes_in_schema s)
  all_schema s e = all_of (occurrences_in_schema s) (holes_in_schema s) e

  covered_of : (os : List Occurrence) (names : List Sym) → HasAll os names → all_covered i os names ≡ true
  covered_of os names h =
      and_true (list_all tells os) (list_all fills names) (each-all tells os (in-each (λ o. tells o ≡ true) os h.values)) (each-all fills names (in-each (λ n. fills n ≡ true) names h.holes))

  -- ## Names without a value

  -- an instance agrees with the values that it stands for
  pub agrees_itself : Agrees (instance_of i) i
  agrees_itself = record { ambient = refl; ctxs = λ name x e. ap kept_or e; metas = λ name x e. ap body_or e; params = λ name p e. rw e refl }

  abbrev other_kept : Option CtxVal → List Term
  other_kept None = Var 0 ∷ []
  other_kept (Some x) = x.hyps

  abbrev other_body : Option MetaVal → Term
  other_body None = Op (record { 0 = 0 }) [] []
  other_body (Some x) = x.body

  abbrev other_param : Option Param → Param
  other_param None = Str (record { 0 = 0 })
  other_param (Some p) = p

  -- an instance that has the values that are found, and others for all other names
  abbrev other : Instance
  other = record {
    ambient = i.ambient;
    values = record { meta = λ name. other_body (find_meta i.metas name); param = λ name. other_param (find_param i.params name) };
    kept = λ name. other_kept (find_ctx i.ctxs name);
  }

  kept_there : (o : Option CtxVal) → kept_or o ≡ other_kept o → is_there o ≡ true
  kept_there None e = absurd (cc)
  kept_there (Some x) e = refl

  body_there : (o : Option MetaVal) → body_or o ≡ other_body o → is_there o ≡ true
  body_there None e = absurd (cc)
  body_there (Some x) e = refl

  hole_there : (name : Sym) (o : Option Param) → find_param i.params name ≡ o → (instance_of i).values.param name ≡ other.values.param name → is_there o ≡ true
  hole_there name None k e = let e' = rw k at e in absurd (cc)
  hole_there name (Some p) k e = refl

  value_there : (is_context : Bool) (name : Sym) → SameValue (instance_of i) other is_context name → HasValue is_context name
  value_there true name e = kept_there (find_ctx i.ctxs name) e
  value_there false name e = body_there (find_meta i.metas name) e

  -- where all instances with the values that are found are the same where these names occur, each name has a value
  pub covered_where_one : (os : List Occurrence) (names : List Sym) → ((v : Instance) → Agrees v i → AgreeOn (instance_of i) v os names) → all_covered i os names ≡ true
  covered_where_one os names one =
      let a = one other (record { ambient = refl; ctxs = λ name x e. ap other_kept e; metas = λ name x e. ap other_body e; params = λ name p e. ap other_param e }) in
      covered_of os names (record { values = λ o j. value_there o.is_context o.name (a.values o j); holes = λ n j. hole_there n (find_param i.params n) refl (a.params n j) })
