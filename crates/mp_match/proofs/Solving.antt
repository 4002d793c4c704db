-- What a step of a match finds is what its equation asks.
use Rattle.std.proofs.Common.{◌≡◌, List, [], ◌∷◌, ◌++◌, Bool, true, false, Option, Some, None, nat_eq, if◌then◌else◌, option_and_then, ◌⊎◌, inl, inr, refl, sym, ap, ◌∙◌}
use Rattle.std.specs.Option.{option_or}
use Rattle.mp_logic.specs.declared.sym.Sym.{Sym}
use Rattle.mp_term.specs.declared.term.Param.{Param}
use Rattle.mp_schema.specs.declared.instance.MetaVal.{MetaVal}
use Rattle.mp_schema.specs.declared.instance.ParamVal.{ParamVal}
use Rattle.mp_schema.specs.Instances.{Values}
use Rattle.mp_schema.specs.Values.{find_meta, find_param}
use Rattle.mp_match.specs.declared.place.Found.{Found}
use Rattle.mp_term.proofs.EqualTerms.{decided, same_name, same_name-refl}

-- the values are those found
pub record Meets (v : Values) (f : Found) : Type 0 where
  pub metas : (name : Sym) (x : MetaVal) → find_meta f.metas name ≡ Some x → v.meta name ≡ x.body
  pub params : (name : Sym) (p : Param) → find_param f.params name ≡ Some p → v.param name ≡ p

-- the values that meet what is found now are those that met what was found before and are asked for; where nothing is
-- found there are none
pub record Solves (Asks : Values → Type 0) (old : Found) (new : Option Found) : Type 0 where
  pub sound : (v : Values) (f : Found) → new ≡ Some f → Meets v f → Meets v old × Asks v
  pub complete : (v : Values) → Meets v old → Asks v → (f : Found) × (new ≡ Some f) × Meets v f

module _ (P : Values → Type 0) where
  pub Solves-none : (old : Found) → ((v : Values) → P v → ⊥) → Solves P old None
  Solves-none old never = record { sound = λ v f e m. absurd (cc); complete = λ v m p. absurd (never v p) }

  pub Solves-same : (old : Found) → ((v : Values) → Meets v old → P v) → Solves P old (Some old)
  Solves-same old holds = record {
    sound = λ v f e m. let is : old ≡ f = cc in let m' : Meets v old = rw is m in (m', holds v m');
    complete = λ v m p. (old, refl, m);
  }

  -- a test of what is found decides
  pub Solves-test : (old : Found) (b : Bool) → (b ≡ true → (v : Values) → Meets v old → P v) → ((v : Values) → Meets v old → P v → b ≡ true) →
      Solves P old (if b then Some old else None)
  Solves-test old true to from = Solves-same old (to refl)
  Solves-test old false to from = record { sound = λ v f e m. absurd (cc); complete = λ v m p. absurd (let e = from v m p in cc) }

  -- what is asked in other words
  pub Solves-as : (Q : Values → Type 0) (old : Found) (new : Option Found) → ((v : Values) → P v → Q v) → ((v : Values) → Q v → P v) → Solves P old new → Solves Q old new
  Solves-as Q old new to from s = record {
    sound = λ v f e m. let r = s.sound v f e m in (r.0, to v r.1);
    complete = λ v m q. s.complete v m (from v q);
  }

  -- one step after the other
  pub Solves-then : (Q : Values → Type 0) (old : Found) (mid : Option Found) (k : Found → Option Found) → Solves P old mid → ((f : Found) → Solves Q f (k f)) →
      Solves (λ v. P v × Q v) old (option_and_then k mid)
  Solves-then Q old None k s h = record {
    sound = λ v f e m. absurd (cc);
    complete = λ v m p. let r = s.complete v m p.0 in absurd (let e = r.1 in cc);
  }
  Solves-then Q old (Some f) k s h = record {
    sound = λ v g e m.
        let r = (h f).sound v g e m in
        let r' = s.sound v f refl r.0 in (r'.0, (r'.1, r.1));
    complete = λ v m p.
        let r = s.complete v m p.0 in
        let e = r.1 in
        let is : f ≡ r.0 = cc in
        let here : Meets v f = rw is r.2 in
        (h f).complete v here p.1;
  }

-- ## Look-ups behind one more value

-- what is found is an earlier one, or the last one, whose name it is
pub last_or_earlier : {X : Type 0} (earlier : Option X) (own name : Sym) (x y : X) → option_or earlier (if nat_eq own.0 name.0 then Some x else None) ≡ Some y →
    (earlier ≡ Some y) ⊎ ((own ≡ name) × (y ≡ x))
last_or_earlier (Some z) own name x y e = inl e
last_or_earlier None own name x y e = elim (decided (nat_eq own.0 name.0)) [
  | inl same ↦ inr (same_name own name same, let e' = rw same at e in cc)
  | inr other ↦ absurd (let e' = rw other at e in cc)
]

meta-append : (xs : List MetaVal) (x : MetaVal) (name : Sym) → find_meta (xs ++ x ∷ []) name ≡ option_or (find_meta xs name) (if nat_eq x.name.0 name.0 then Some x else None)
meta-append [] x name = refl
meta-append (z ∷ xs) x name = elim (decided (nat_eq z.name.0 name.0)) [ inl h ↦ rw h refl | inr h ↦ rw h (meta-append xs x name) ]

pub meta-kept : (xs : List MetaVal) (x y : MetaVal) (name : Sym) → find_meta xs name ≡ Some y → find_meta (xs ++ x ∷ []) name ≡ Some y
meta-kept xs x y name e = rw (meta-append xs x name, e) refl

pub meta-new : (xs : List MetaVal) (x : MetaVal) → find_meta xs x.name ≡ None → find_meta (xs ++ x ∷ []) x.name ≡ Some x
meta-new xs x e = let same = same_name-refl x.name in rw (meta-append xs x x.name, e, same) refl

pub meta-either : (xs : List MetaVal) (x y : MetaVal) (name : Sym) → find_meta (xs ++ x ∷ []) name ≡ Some y →
    (find_meta xs name ≡ Some y) ⊎ ((x.name ≡ name) × (y ≡ x))
meta-either xs x y name e = last_or_earlier (find_meta xs name) x.name name x y (sym (meta-append xs x name) ∙ e)

param-append : (xs : List ParamVal) (x : ParamVal) (name : Sym) →
    find_param (xs ++ x ∷ []) name ≡ option_or (find_param xs name) (if nat_eq x.name.0 name.0 then Some x.value else None)
param-append [] x name = refl
param-append (z ∷ xs) x name = elim (decided (nat_eq z.name.0 name.0)) [ inl h ↦ rw h refl | inr h ↦ rw h (param-append xs x name) ]

param-kept : (xs : List ParamVal) (x : ParamVal) (y : Param) (name : Sym) → find_param xs name ≡ Some y → find_param (xs ++ x ∷ []) name ≡ Some y
param-kept xs x y name e = rw (param-append xs x name, e) refl

param-new : (xs : List ParamVal) (x : ParamVal) → find_param xs x.name ≡ None → find_param (xs ++ x ∷ []) x.name ≡ Some x.value
param-new xs x e = let same = same_name-refl x.name in rw (param-append xs x x.name, e, same) refl

param-either : (xs : List ParamVal) (x : ParamVal) (y : Param) (name : Sym) → find_param (xs ++ x ∷ []) name ≡ Some y →
    (find_param xs name ≡ Some y) ⊎ ((x.name ≡ name) × (y ≡ x.value))
param-either xs x y name e = last_or_earlier (find_param xs name) x.name name x.value y (sym (param-append xs x name) ∙ e)

-- one more value of a hole
pub hole_new : (old : Found) (x : ParamVal) → find_param old.params x.name ≡ None →
    Solves (λ v. v.param x.name ≡ x.value) old (Some (record { metas = old.metas; params = old.params ++ x ∷ [] }))
hole_new old x none = record {
  sound = λ v f e m.
      let is : f ≡ record { metas = old.metas; params = old.params ++ x ∷ [] } = cc in
      let m' : Meets v (record { metas = old.metas; params = old.params ++ x ∷ [] }) = rw (← is) m in (
        record { metas = m'.metas; params = λ name y k. m'.params name y (param-kept old.params x y name k) },
        m'.params x.name x.value (param-new old.params x none),
      );
  complete = λ v m e. (
    record { metas = old.metas; params = old.params ++ x ∷ [] },
    refl,
    record {
      metas = m.metas;
      params = λ name y k. elim (param-either old.params x y name k) [
        | inl h ↦ m.params name y h
        | inr h ↦ ap v.param (sym h.0) ∙ e ∙ sym h.1
      ];
    },
  );
}

-- one more value of a second-order variable
pub meta_new : (old : Found) (x : MetaVal) → find_meta old.metas x.name ≡ None →
    Solves (λ v. v.meta x.name ≡ x.body) old (Some (record { metas = old.metas ++ x ∷ []; params = old.params }))
meta_new old x none = record {
  sound = λ v f e m.
      let is : f ≡ record { metas = old.metas ++ x ∷ []; params = old.params } = cc in
      let m' : Meets v (record { metas = old.metas ++ x ∷ []; params = old.params }) = rw (← is) m in (
        record { metas = λ name y k. m'.metas name y (meta-kept old.metas x y name k); params = m'.params },
        m'.metas x.name x (meta-new old.metas x none),
      );
  complete = λ v m e. (
    record { metas = old.metas ++ x ∷ []; params = old.params },
    refl,
    record {
      metas = λ name y k. elim (meta-either old.metas x y name k) [
        | inl h ↦ m.metas name y h
        | inr h ↦ ap v.meta (sym h.0) ∙ e ∙ ap (λ (z : MetaVal). z.body) (sym h.1)
      ];
      params = m.params;
    },
  );
}
