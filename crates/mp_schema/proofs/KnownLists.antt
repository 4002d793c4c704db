-- A pattern's instance, and whether values fit it, depend on the variables of its own lists of contexts alone.
use Rattle.std.proofs.Common.{◌≡◌, ℕ, ◌+◌, List, [], ◌∷◌, Bool, ◌&&◌, true, length, inl, inr, refl, sym, ap, ◌∙◌}
use Rattle.std.specs.List.{list_all}
use Rattle.mp_logic.specs.declared.sym.Sym.{Sym}
use Rattle.mp_term.specs.declared.term.Term.{Term}
use Rattle.mp_term.specs.Terms.{in_scope_of}
use Rattle.mp_schema.specs.declared.pattern.Pattern.{Pattern}
use Rattle.mp_schema.specs.Instances.{Values, Ground, Wide, inst_of, fits}
use Rattle.mp_schema.specs.Conditions.{is_known, lists_known}
use Rattle.mp_schema.specs.Occurrences.{In, Occurrence, occurrences_in}
use Rattle.mp_schema.proofs.Agreeing.{same_inst}
use Rattle.mp_schema.proofs.Fitting.{meta_fits, fits-told}
use Rattle.mp_schema.proofs.Lists.{all-in}
use Rattle.mp_schema.proofs.Told.{known_use, lists_known-told}

known_here : (known : List Sym) (p : Pattern) → lists_known known p ≡ true → (o : Occurrence) → In o (occurrences_in p) → is_known known o.ctxs ≡ true
known_here known p k o i = all-in (known_use known) (occurrences_in p) o (sym (lists_known-told known p) ∙ k) i

pub inst-known : (known : List Sym) (g h : Ground) (v : Values) → ((names : List Sym) → is_known known names ≡ true → g names ≡ h names) → (p : Pattern) → lists_known known p ≡ true →
    (env : List Term) (m : ℕ) → inst_of g v p env m ≡ inst_of h v p env m
inst-known known g h v same p k env m = same_inst g h v v p (λ o i. (refl, same o.ctxs (known_here known p k o i))) (λ n i. refl) env m

pub fits-known : (known : List Sym) (w u : Wide) (v : Values) → ((names : List Sym) → is_known known names ≡ true → w names ≡ u names) → (p : Pattern) → lists_known known p ≡ true →
    fits w v p ≡ fits u v p
fits-known known w u v same p k =
    fits-told w v p ∙ all_alike (occurrences_in p) (λ o i. ap (λ n. in_scope_of (v.meta o.name) (n + length o.levels)) (same o.ctxs (known_here known p k o i))) ∙ sym (fits-told u v p)
  where
    all_alike : (os : List Occurrence) → ((o : Occurrence) → In o os → meta_fits w v o ≡ meta_fits u v o) → list_all (meta_fits w v) os ≡ list_all (meta_fits u v) os
    all_alike [] each = refl
    all_alike (o ∷ os) each =
        ap (λ (b : Bool). b && list_all (meta_fits w v) os) (each o (inl refl)) ∙ ap (λ b. meta_fits u v o && b) (all_alike os (λ x i. each x (inr i)))
