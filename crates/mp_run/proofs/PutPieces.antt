-- Pieces that are put, each by one call.
use Rattle.std.proofs.Common.{◌≡◌, List, [], ◌∷◌, map, Result, Ok, Err, refl, ap, sym, subst, ◌∙◌}
use Rattle.std.specs.List.{AllByRecursion}
use Rattle.std.specs.Prelude.{IfOk}
use Rattle.mp_logic.specs.declared.memory.NoMemory.{NoMemory}
use Rattle.mp_ports.specs.Calls.{Put, Chain}
use Rattle.mp_ports.specs.declared.ports.PutFailed.{PutFailed}
use Rattle.mp_run.specs.declared.goals.Next.TheVariants as next
use Rattle.mp_run.specs.declared.piece.Piece.{Piece}
use Rattle.mp_run.specs.declared.piece.Verdict.{Verdict}
use Rattle.mp_run.specs.declared.piece.Verdict.TheVariants.{Closed, Open, Ends}
use Rattle.mp_run.specs.declared.status.Status.{Status}
use Rattle.mp_run.specs.declared.status.Status.TheVariants as status
use Rattle.mp_run.specs.Loaded.{PutsMade, PutsPieces, next_after}
use Rattle.mp_run.specs.Sessions.{Others, Pieces, status_on, status_after, put_of, Puts}

-- ## Pieces that there are

-- each of these has a piece, up to one that ends the run
abbrev pub SomePieces : {X : Type 0} → (X → Piece → Type 0) → List X → Type 0
SomePieces Is xs = (ps : List Piece) × Pieces Is xs ps

some_others : (v : Verdict) (Are : List Piece → Type 0) → ((ps : List Piece) × Are ps) → (ps : List Piece) × Others v Are ps
some_others Closed Are h = h
some_others Open Are h = h
some_others (Ends s) Are h = ([], refl)

-- these have pieces if each good one has one
pub some_pieces : {X : Type 0} (Good : X → Type 0) (Is : X → Piece → Type 0) → ((x : X) → Good x → (p : Piece) × Is x p) → (xs : List X) → AllByRecursion Good xs → SomePieces Is xs
some_pieces Good Is some [] good = ([], tt)
some_pieces Good Is some (x ∷ xs) good =
    let first = some x good.0 in
    let others = some_others first.0.verdict (Pieces Is xs) (some_pieces Good Is some xs good.1) in
    (first.0 ∷ others.0, (first.1, others.1))

-- ## The loop

module _ {S X : Type 0} (R : S → S → Put → Type 0) (Is : X → Piece → Type 0) (all : List X) (start : S) where
  -- the pieces of all are put
  abbrev pub All : S → Status → Type 0
  All end s = (calls : List Put) × Chain R start end calls × PutsPieces Is all calls s

  -- what completes the puts of those that wait completes all
  abbrev pub Going : List X → S → Status → Type 0
  Going waiting now before = (end : S) (calls : List Put) (s : Status) (ps : List Piece) → Chain R now end calls → Pieces Is waiting ps
      → Puts (map (λ (p : Piece). p.text) ps) (status_after ps before) calls s → All end s

  pub begun : (waiting : List X) → waiting ≡ all → Going waiting start status.AllClosed
  begun waiting w end calls s ps h k q = (calls, h, (ps, subst (λ (xs : List X). Pieces Is xs ps) w k, q))

  -- none waits
  pub all_put : (waiting : List X) (now : S) (before : Status) → Going waiting now before → waiting ≡ [] → All now before
  all_put waiting now before going w = going now [] before [] refl (subst (λ (xs : List X). Pieces Is xs []) (sym w) tt) refl

  module _ (waiting more : List X) (x : X) (w : waiting ≡ x ∷ more) (now later : S) (before : Status) (going : Going waiting now before) where
    with_first : (p : Piece) (ps : List Piece) → Is x p → Others p.verdict (Pieces Is more) ps → Pieces Is waiting (p ∷ ps)
    with_first p ps h k = subst (λ (xs : List X). Pieces Is xs (p ∷ ps)) (sym w) (h, k)

    -- the piece was put, and the run goes on
    on_from : (p : Piece) (v : Verdict) (after : Status) (done : Unit {0}) → v ≡ p.verdict → Is x p → R now later (put_of p.text (Ok done)) → next.GoesOn after ≡ next_after v before → Going more later after
    on_from p Closed after done is h r e far calls s ps k l q =
        let same : after ≡ before = cc in
        going far (put_of p.text (Ok done) ∷ calls) s (p ∷ ps) (later, r, k) (with_first p ps h (subst (λ (u : Verdict). Others u (Pieces Is more) ps) is l))
        (refl, subst (λ (u : Verdict). Puts (map (λ (p : Piece). p.text) ps) (status_on u before (status_after ps)) calls s) is (subst (λ (b : Status). Puts (map (λ (p : Piece). p.text) ps) (status_after ps b) calls s) same q))
    on_from p Open after done is h r e far calls s ps k l q =
        let same : after ≡ status.NotAll = cc in
        going far (put_of p.text (Ok done) ∷ calls) s (p ∷ ps) (later, r, k) (with_first p ps h (subst (λ (u : Verdict). Others u (Pieces Is more) ps) is l))
        (refl, subst (λ (u : Verdict). Puts (map (λ (p : Piece). p.text) ps) (status_on u before (status_after ps)) calls s) is (subst (λ (b : Status). Puts (map (λ (p : Piece). p.text) ps) (status_after ps b) calls s) same q))
    on_from p (Ends end) after done is h r e far calls s ps k l q = absurd cc

    -- the piece was put, and ends the run
    ends_with : (p : Piece) (v : Verdict) (end : Status) (done : Unit {0}) → v ≡ p.verdict → Is x p → R now later (put_of p.text (Ok done)) → next.Ends end ≡ next_after v before → All later end
    ends_with p Closed end done is h r e = absurd cc
    ends_with p Open end done is h r e = absurd cc
    ends_with p (Ends s) end done is h r e =
        let same : end ≡ s = cc in
        going later (put_of p.text (Ok done) ∷ []) end (p ∷ []) (later, r, refl) (with_first p [] h (subst (λ (u : Verdict). Others u (Pieces Is more) []) is refl))
        (refl, same ∙ ap (λ (u : Verdict). status_on u before (status_after [])) is)

    lacks : (ps : List Piece) → Pieces Is (x ∷ more) ps → All now status.NoMemory
    lacks [] are = absurd are
    lacks (p ∷ ps) are = going now [] status.NoMemory (p ∷ ps) refl (with_first p ps are.0 are.1) refl

    -- memory ran out, and no piece was made
    no_room : SomePieces Is waiting → All now status.NoMemory
    no_room (ps, are) = lacks ps (subst (λ (xs : List X). Pieces Is xs ps) w are)

    -- a put failed
    fails : (p : Piece) (failed : PutFailed) → Is x p → R now later (put_of p.text (Err failed)) → SomePieces Is more → All later status.WriteFault
    fails p failed h r some =
        let others = some_others p.verdict (Pieces Is more) some in
        going later (put_of p.text (Err failed) ∷ []) status.WriteFault (p ∷ others.0) (later, r, refl) (with_first p others.0 h others.1) (refl, (refl, refl))

    pub goes_on : (made : Result Piece NoMemory) (after : Status) → IfOk made (Is x) → PutsMade R made before now later (next.GoesOn after) → Going more later after
    goes_on (Err lacking) after is h = absurd cc
    goes_on (Ok p) after is (Ok done, r, e) = on_from p p.verdict after done refl is r e
    goes_on (Ok p) after is (Err failed, r, e) = absurd cc

    pub ends : (made : Result Piece NoMemory) (end : Status) → IfOk made (Is x) → PutsMade R made before now later (next.Ends end) → SomePieces Is waiting → SomePieces Is more → All later end
    ends (Err lacking) end is (same, e) some others =
        let is_end : end ≡ status.NoMemory = cc in
        subst (λ (s : Status). All later s) (sym is_end) (subst (λ (t : S). All t status.NoMemory) (sym same) (no_room some))
    ends (Ok p) end is (Ok done, r, e) some others = ends_with p p.verdict end done refl is r e
    ends (Ok p) end is (Err failed, r, e) some others =
        let is_end : end ≡ status.WriteFault = cc in
        subst (λ (s : Status). All later s) (sym is_end) (fails p failed is r others)
