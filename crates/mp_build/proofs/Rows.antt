-- The hypotheses of a context: what each asks follows from what the row asks.
use Rattle.std.proofs.Common.{◌≡◌, ℕ, ◌+◌, ◌-◌, ◌<◌, ◌≤◌, ◌^◌, List, [], ◌∷◌, ◌++◌, length, map, get_or, drop, max, true, IsTrue, suc, refl, ◌∙◌, add-one, append_assoc, arith}
use Rattle.std.proofs.lemmas.List.{length-map, length-append}
use Rattle.mp_logic.specs.declared.sym.Sym.{Sym}
use Rattle.mp_term.specs.declared.term.Term.{Term, Var}
use Rattle.mp_term.specs.Terms.{in_scope_of}
use Rattle.mp_term.specs.Limits.{in_scopes_from}
use Rattle.mp_term.specs.Subst.{variables, AreInScope, widest_of, widest_at, widest_in, upto}
use Rattle.mp_term.proofs.EqualTerms.{both_true, and_true}
use Rattle.mp_term.proofs.Layers.{widest-Var}
use Rattle.mp_term.proofs.SubLaws.{drop-at, widest_in-ge}
use Rattle.mp_term.proofs.Laws.{width_after_substitution}
use Rattle.mp_schema.specs.declared.pattern.Pattern.{Pattern}
use Rattle.mp_schema.specs.Instances.{inst_of, made_each}
use Rattle.mp_schema.specs.Sequents.{Instance, Spot, ground_at, wide_of, telescope}
use Rattle.mp_schema.specs.Conditions.{has, has_all}
use Rattle.mp_build.specs.Rooms.{room, telescope_room}
use Rattle.mp_build.specs.Sites.{IsSpot, IsRowBuildable, IsSubstitutable, args_at, used_terms, kept_at}
use Rattle.mp_schema.proofs.UseKinds.{has_all-has}
use Rattle.mp_build.proofs.Grounds.{AreInScope-join, widest_in-none, widest_in-cons, variables-are, upto-in}
use Rattle.mp_term.proofs.Ranges.{length-upto}
use Rattle.mp_build.proofs.Placed.{AreRoomed, terms_placed, used-placed, widest_at-least}
use Rattle.mp_build.proofs.RoomFacts.{widest-ge}
use Rattle.mp_build.proofs.TermFacts.{env-here}

widest_in-append : (m : ℕ) (xs ys : List Term) → widest_in m (xs ++ ys) ≡ max (widest_in m xs) (widest_in m ys)
widest_in-append m [] ys = let e = widest_in-none m in let ge = widest_in-ge m ys in omega (arith, e, ge)
widest_in-append m (x ∷ xs) ys =
    let rest = widest_in-append m xs ys in
    let e = widest_in-cons m x (xs ++ ys) in
    let e' = widest_in-cons m x xs in omega (arith, rest, e, e')

widest_in-vars : (m : ℕ) (levels : List ℕ) → widest_in m (map Var levels) ≤ m
widest_in-vars m [] = let e = widest_in-none m in omega (arith, e)
widest_in-vars m (i ∷ levels) =
    let rest = widest_in-vars m levels in
    let w = widest-Var i m in
    let e = widest_in-cons m (Var i) (map Var levels) in omega (arith, rest, w, e)

module _ (v : Instance) (l : Spot) (cs : List Sym) (args : List Pattern) where
  -- the room of a row is that of its variables at least
  row-least : (j : ℕ) (ts : List Term) → wide_of v cs + widest_at (l.next + j) (map (room (wide_of v) v.values) args) ≤ telescope_room v cs args l.next j ts
  row-least j [] = omega arith
  row-least j (t ∷ ts) = let own = widest-ge t (wide_of v cs + length args + j) in omega (arith, own)

  pub row_scope : (j : ℕ) (ts : List Term) → IsRowBuildable v l cs args j ts → l.next + j < 2 ^ 31
  row_scope j ts r =
      let narrow = r.narrow in
      let least = row-least j ts in
      let own = widest_at-least v l l.next (l.next + j) args in omega (arith, narrow, least, own)

  pub row_contexts : (j : ℕ) (ts : List Term) → IsRowBuildable v l cs args j ts → (c : Sym) → IsTrue (has cs c) → l.pos c + length (v.kept c) ≤ l.next
  row_contexts j ts r c h = r.spot.made c (has_all-has r.known cs c r.listed h)

  -- the terms that stand for the variables of hypothesis j
  pub row-terms : (j : ℕ) (terms : List Term) →
      terms ≡ map Var (ground_at v l.pos cs) ++ args_at v l (l.next + j) args (l.next + j) ++ map Var (upto l.next j) →
      terms ≡ map Var (ground_at v l.pos cs) ++ made_each (map (inst_of (ground_at v l.pos) v.values) args) (map Var l.env) (l.next + j) ++ variables l.next j
  row-terms j terms is = let env = env-here l (l.next + j) in let vars = variables-are l.next j in rw vars (rw env at is)

  -- with such terms for the arguments, they are in scope, as many as are asked, and as narrow as the arguments
  pub row-placed : (known : List Sym) → IsSpot v l known → IsTrue (has_all known cs) → (j : ℕ) (made terms : List Term) → AreRoomed v made args (l.next + j) →
      terms ≡ map Var (ground_at v l.pos cs) ++ made ++ map Var (upto l.next j) →
      AreInScope (l.next + j) terms × (widest_in (l.next + j) terms ≤ widest_at (l.next + j) (map (room (wide_of v) v.values) args)) ×
      (length terms ≡ wide_of v cs + length args + j)
  row-placed known spot listed j made terms roomed is =
      let m : ℕ = l.next + j in
      let outer : l.next ≤ m = omega arith in
      let inner : m ≤ m = omega arith in
      let placed = terms_placed v l m known spot outer cs made args m inner listed roomed in
      let fore : List Term = map Var (ground_at v l.pos cs) ++ made in
      let own : List Term = map Var (upto l.next j) in
      let own_count : length own ≡ j = length-map (upto l.next j) Var ∙ length-upto l.next j in
      let fore_count = placed.2 in
      let own_wide : widest_in m own ≤ m = widest_in-vars m (upto l.next j) in
      let fore_wide = placed.1 in
      let all_wide : widest_in m terms ≡ max (widest_in m fore) (widest_in m own) = rw is (widest_in-append m fore own) in
      let least = widest_at-least v l m m args in (
        rw is (AreInScope-join m fore own placed.0 (upto-in m l.next j (omega arith))),
        omega (arith, all_wide, own_wide, fore_wide, least),
        rw is (length-append fore own ∙ rw (own_count, fore_count) refl),
      )

  -- so are the terms of the used arguments
  pub row-used : (j : ℕ) (t : Term) (level : ℕ) (ts : List Term) → IsRowBuildable v l cs args j ts → AreRoomed v (used_terms v l (l.next + j) t level args (l.next + j)) args (l.next + j)
  row-used j t level ts r =
      let m : ℕ = l.next + j in
      let e : length l.env ≡ length l.env + (m - m) = omega arith in
      let outer : l.next ≤ m = omega arith in
      let inner : m ≤ m = omega arith in
      used-placed v l m r.known r.spot outer t level args m inner (rw e at r.closed, r.fitting, r.args_listed)

  pub row_substitutable : (j : ℕ) (t : Term) (ts made terms : List Term) → IsRowBuildable v l cs args j (t ∷ ts) → AreRoomed v made args (l.next + j) →
      terms ≡ map Var (ground_at v l.pos cs) ++ made ++ map Var (upto l.next j) → IsSubstitutable t terms (l.next + j)
  row_substitutable j t ts made terms r roomed is =
      let placed = row-placed r.known r.spot r.listed j made terms roomed is in
      let count = placed.2 in
      let all_wide = placed.1 in
      let scoped = (both_true (in_scope_of t (wide_of v cs + length args + j)) (in_scopes_from (wide_of v cs + length args + j + 1) ts) r.scoped).0 in
      let scoped' : IsTrue (in_scope_of t (length terms)) = rw count scoped in
      let grown = width_after_substitution terms (l.next + j) t scoped' in
      let narrow = r.narrow in
      let wide : widest_of t (length terms) ≡ widest_of t (wide_of v cs + length args + j) = rw count refl in
      let ge = widest-ge t (wide_of v cs + length args + j) in
      record {
        count = omega (arith, count, narrow, ge);
        scoped = scoped';
        terms_scoped = placed.0;
        narrow = omega (arith, wide, narrow);
        made_narrow = omega (arith, grown, wide, narrow, all_wide);
      }

  -- the first hypothesis by itself, and those behind it
  pub row_next : (ts : List Term) (j : ℕ) (t : Term) → j < length ts → t ≡ get_or ts j t → IsRowBuildable v l cs args j (drop j ts) →
      IsRowBuildable v l cs args j (t ∷ []) × IsRowBuildable v l cs args (j + 1) (drop (j + 1) ts)
  row_next ts j t low is r =
      let next = drop-at ts j t low is in
      let scoped = rw next at r.scoped in
      let narrow = rw next at r.narrow in
      let e : wide_of v cs + length args + j + 1 ≡ wide_of v cs + length args + (j + 1) = omega arith in
      let k = both_true (in_scope_of t (wide_of v cs + length args + j)) (in_scopes_from (wide_of v cs + length args + j + 1) (drop (j + 1) ts)) scoped in
      let least = row-least (suc j) (drop (j + 1) ts) in
      let narrow_rest : telescope_room v cs args l.next (suc j) (drop (j + 1) ts) < 2 ^ 31 = omega (arith, narrow) in (
        record {
          known = r.known;
          spot = r.spot;
          listed = r.listed;
          closed = r.closed;
          fitting = r.fitting;
          args_listed = r.args_listed;
          scoped = and_true (in_scope_of t (wide_of v cs + length args + j)) true k.0 refl;
          narrow = omega (arith, narrow, least, narrow_rest);
        },
        record {
          known = r.known;
          spot = r.spot;
          listed = r.listed;
          closed = r.closed;
          fitting = r.fitting;
          args_listed = r.args_listed;
          scoped = rw e at k.1;
          narrow = let h = rw add-one at narrow_rest in rw add-one h;
        },
      )

  pub row_pushed : (ts start made more : List Term) (j : ℕ) (t new : Term) → j < length ts → t ≡ get_or ts j t → new ≡ kept_at v l cs args j t → more ≡ made ++ new ∷ [] →
      made ++ telescope v l cs args l.next j (drop j ts) ≡ start ++ telescope v l cs args l.next 0 ts →
      more ++ telescope v l cs args l.next (j + 1) (drop (j + 1) ts) ≡ start ++ telescope v l cs args l.next 0 ts
  row_pushed ts start made more j t new low is e pushed done =
      let next = drop-at ts j t low is in
      let done' = rw next at done in
      rw (pushed, e, append_assoc, add-one) (rw add-one at done')
