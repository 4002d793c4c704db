-- A pattern without contexts has one instance, whatever stands for contexts.
use Rattle.std.proofs.Common.{◌≡◌, ℕ, List, [], ◌∷◌, true, IsTrue}
use Rattle.mp_logic.specs.declared.sym.Sym.{Sym}
use Rattle.mp_term.specs.declared.term.Term.{Term}
use Rattle.mp_schema.specs.declared.pattern.Pattern.{Pattern}
use Rattle.mp_schema.specs.Instances.{Values, Ground, Wide, inst_of, fits}
use Rattle.mp_schema.specs.Conditions.{is_known, lists_known}
use Rattle.mp_schema.proofs.KnownLists.{inst-known, fits-known}

-- only the empty list has no name
at-none : {X : Type 0} (f g : List Sym → X) → f [] ≡ g [] → (names : List Sym) → is_known [] names ≡ true → f names ≡ g names
at-none f g same [] h = same
at-none f g same (x ∷ names) h = absurd cc

module _ (v : Values) where
  pub plain-inst : (before other : Ground) → before [] ≡ other [] → (p : Pattern) → IsTrue (lists_known [] p) → (env : List Term) (m : ℕ) → inst_of before v p env m ≡ inst_of other v p env m
  plain-inst before other same p k env m = inst-known [] before other v (at-none before other same) p k env m

  pub plain-fits : (wide other : Wide) → wide [] ≡ other [] → (p : Pattern) → IsTrue (lists_known [] p) → fits wide v p ≡ fits other v p
  plain-fits wide other same p k = fits-known [] wide other v (at-none wide other same) p k
