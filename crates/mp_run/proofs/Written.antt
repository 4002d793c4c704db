-- What puts write and count.
use Rattle.std.proofs.Common.{◌≡◌, ℕ, List, [], ◌∷◌, ◌++◌, take, drop, Option, Some, None, Result, Ok, Err, refl, ap, sym, subst, ◌∙◌, append_assoc, append-nil}
use Rattle.std.specs.Io.KnownBytes.{Appends}
use Rattle.std.proofs.KnownBytes.{Appends-trans}
use Rattle.std.proofs.lemmas.List.{take-append-drop}
use Rattle.mp_logic.specs.Lists.{joined}
use Rattle.mp_ports.specs.Calls.{Put, Chain}
use Rattle.mp_ports.specs.Causes.{Rose, PutCause}
use Rattle.mp_ports.specs.Sinks.{PutTakes}
use Rattle.mp_ports.specs.declared.ports.PutFailed.{PutFailed}
use Rattle.mp_run.specs.declared.status.Status.{Status}
use Rattle.mp_run.specs.declared.status.Status.TheVariants as status
use Rattle.mp_run.specs.Sessions.{Then, Puts, PutsLine}

-- all was written; or its first bytes were, for want of memory; or for a put that failed
pub data Ended (whole : List ℕ) (end s : Status) (before now : ℕ) (text : List ℕ) : Type 0 where
  all_written : s ≡ end → now ≡ before → text ≡ whole → Ended whole end s before now text
  lacking : s ≡ status.NoMemory → now ≡ before → (rest : List ℕ) → text ++ rest ≡ whole → Ended whole end s before now text
  failing : s ≡ status.WriteFault → Rose before now → (rest : List ℕ) → text ++ rest ≡ whole → Ended whole end s before now text

more : (whole t text : List ℕ) (end s : Status) (before mid now : ℕ) → mid ≡ before → Ended whole end s mid now text → Ended (t ++ whole) end s before now (t ++ text)
more whole t text end s before mid now m (all_written a b c) = all_written a (b ∙ m) (ap (λ x. t ++ x) c)
more whole t text end s before mid now m (lacking a b rest c) = lacking a (b ∙ m) rest (append_assoc t text rest ∙ ap (λ x. t ++ x) c)
more whole t text end s before mid now m (failing a b rest c) = failing a (subst (λ (n : ℕ). Rose n now) m b) rest (append_assoc t text rest ∙ ap (λ x. t ++ x) c)

appends_nothing : (t : Option (List ℕ)) → Appends t t []
appends_nothing None = tt
appends_nothing (Some xs) = sym (append-nil xs)

module _ {S : Type 0} (R : S → S → Put → Type 0) (taken : S → Option (List ℕ)) (faults : S → ℕ)
    (takes : (old new : S) (call : Put) → R old new call → PutTakes (taken old) (taken new) call.bytes call.answer)
    (cause : (old new : S) (call : Put) → R old new call → PutCause (faults old) (faults new) call.answer) where
  abbrev pub Written : List (List ℕ) → Status → Status → S → S → Type 0
  Written texts end s o p = (text : List ℕ) × Appends (taken o) (taken p) text × Ended (joined texts) end s (faults o) (faults p) text

  nothing_written : (o p : S) → p ≡ o → Appends (taken o) (taken p) []
  nothing_written o p h = subst (λ (x : S). Appends (taken o) (taken x) []) (sym h) (appends_nothing (taken o))

  one_put : (o m p : S) (t bytes : List ℕ) (ts : List (List ℕ)) (answer : Result (Unit {0}) PutFailed) (end s : Status) (calls : List Put) → bytes ≡ t
      → PutTakes (taken o) (taken m) bytes answer → PutCause (faults o) (faults m) answer → Then answer (Puts ts end calls s) calls s
      → (Puts ts end calls s → Written ts end s m p) → (calls ≡ [] → p ≡ m) → Written (t ∷ ts) end s o p
  one_put o m p t bytes ts (Ok done) end s calls b tk c th rest last =
      let w = rest th in (
        t ++ w.0,
        Appends-trans (taken o) (taken m) (taken p) t w.0 (subst (λ (x : List ℕ). Appends (taken o) (taken m) x) b tk) w.1,
        more (joined ts) t w.0 end s (faults o) (faults m) (faults p) c w.2,
      )
  one_put o m p t bytes ts (Err e) end s calls b tk c th rest last =
      let part = take tk.0 t in
      let left = drop tk.0 t in
      let same : p ≡ m = last th.0 in (
        part,
        subst (λ (x : S). Appends (taken o) (taken x) part) (sym same) (subst (λ (x : List ℕ). Appends (taken o) (taken m) (take tk.0 x)) b tk.1),
        failing th.1 (subst (λ (x : S). Rose (faults o) (faults x)) (sym same) c.0) (left ++ joined ts)
            (sym (append_assoc part left (joined ts)) ∙ ap (λ x. x ++ joined ts) (take-append-drop tk.0 t)),
      )

  ended_there : (s t : S) (calls : List Put) → Chain R s t calls → calls ≡ [] → t ≡ s
  ended_there s t [] h e = h
  ended_there s t (c ∷ cs) h e = absurd cc

  pub written : (texts : List (List ℕ)) (end s : Status) (o p : S) (calls : List Put) → Chain R o p calls → Puts texts end calls s → Written texts end s o p
  written [] end s o p [] h k = ([], nothing_written o p h, all_written k (ap faults h) refl)
  written [] end s o p (c ∷ cs) h k = absurd k
  written (t ∷ ts) end s o p [] h k = ([], nothing_written o p h, lacking k (ap faults h) (joined (t ∷ ts)) refl)
  written (t ∷ ts) end s o p (c ∷ cs) h k =
      one_put o h.0 p t c.bytes ts c.answer end s cs k.0 (takes o h.0 c h.1) (cause o h.0 c h.1) k.1 (λ l. written ts end s h.0 p cs h.2 l) (λ n. ended_there h.0 p cs h.2 n)

  pub line_written : (line : List ℕ) (end s : Status) (o p : S) (calls : List Put) → Chain R o p calls → PutsLine line end calls s → Written (line ∷ []) end s o p
  line_written line end s o p calls h k =
      written (line ∷ []) end s o p calls h (subst (λ (cs : List Put). Puts (line ∷ []) end cs s) (sym k.1) (refl, k.2))

  pub none_written : (s : Status) (o p : S) (calls : List Put) → Chain R o p calls → calls ≡ [] → Appends (taken o) (taken p) []
  none_written s o p calls h e = nothing_written o p (ended_there o p calls h e)
