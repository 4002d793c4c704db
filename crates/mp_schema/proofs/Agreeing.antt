-- Instances that agree on the names that a schema uses make the same sequent of it.
use Rattle.std.proofs.Common.{◌≡◌, inl, inr, ℕ, ◌+◌, List, [], ◌∷◌, ◌++◌, map, length, Bool, true, false, nat_eq, suc, refl, sym, ap, ◌∙◌, subst}
use Rattle.std.specs.Prelude.{◌&&◌, ◌||◌, if◌then◌else◌}
use Rattle.std.specs.List.{flat_map}
use Rattle.mp_logic.specs.declared.sym.Sym.{Sym}
use Rattle.mp_term.specs.declared.term.Param.{Param}
use Rattle.mp_term.specs.declared.term.Term.{Term, Var, Op}
use Rattle.mp_term.specs.declared.term.Bound.{Bound}
use Rattle.mp_term.specs.declared.sequent.Sequent.{Sequent}
use Rattle.mp_term.specs.Subst.{sub_of, variables, upto}
use Rattle.mp_schema.specs.declared.pattern.Pattern.{Pattern}
use Rattle.mp_schema.specs.declared.pattern.Pattern as pat
use Rattle.mp_schema.specs.declared.pattern.ParamPat.{ParamPat}
use Rattle.mp_schema.specs.declared.pattern.ParamPat.TheVariants.{Lit, Hole}
use Rattle.mp_schema.specs.declared.pattern.PBound.{PBound}
use Rattle.mp_schema.specs.declared.schema.Item.{Item}
use Rattle.mp_schema.specs.declared.schema.Item.TheVariants.{Ctx, Hyp}
use Rattle.mp_schema.specs.declared.schema.Schema.{Schema}
use Rattle.mp_schema.specs.Conditions.{Before, nothing_before, past, past_all, each_item, has, has_all, is_apart, is_known, lists_known, pattern_placed, all_placed, item_placed, is_placed}
use Rattle.mp_schema.specs.Instances.{Values, Ground, made_each, param_of, inst_of, inst_bound}
use Rattle.mp_schema.specs.Induction.{each_pattern, of_each_arg, OfEachBody, OfEachArg}
use Rattle.mp_schema.specs.Occurrences.{Occurrence, occurrences_in, occurrences_in_bound, occurrences_in_item, occurrences_in_schema, variable_level, hole_in_param, holes_in, holes_in_bound, holes_in_item, holes_in_schema, In}
use Rattle.mp_schema.specs.Sequents.{Instance, Spot, first_spot, ground_at, telescope, behind, hyps_from, behind_all, concl_at, seq}
use Rattle.mp_logic.specs.Lists.{joined}
use Rattle.mp_schema.specs.Solutions.{SameValue}
use Rattle.mp_schema.proofs.Layers.{inst-Var, inst-Op, inst-Meta, inst_bound-is, occurrences_in-Op, occurrences_in-Meta, occurrences_in_bound-is, holes_in-Op, holes_in-Meta, holes_in_bound-is}
use Rattle.mp_schema.proofs.Lists.{in-left, in-right, in-split, all-in}
use Rattle.mp_schema.proofs.Told.{known_use, lists_known-told}
use Rattle.mp_schema.proofs.UseKinds.{Kind, kind_of, same_name, context_at, plain, plain_each}

pub and_both : (a b : Bool) → (a && b) ≡ true → (a ≡ true) × (b ≡ true)
and_both true true e = (refl, refl)
and_both true false e = absurd cc
and_both false b e = absurd cc

-- ## Patterns

module _ (g h : Ground) (v w : Values) where
  -- the values are the same where these names occur, and so are the variables before their arguments
  abbrev SameUses : List Occurrence → Type 0
  SameUses os = (o : Occurrence) → In o os → (v.meta o.name ≡ w.meta o.name) × (g o.ctxs ≡ h o.ctxs)

  abbrev SameHoles : List Sym → Type 0
  SameHoles names = (name : Sym) → In name names → v.param name ≡ w.param name

  abbrev Same : Pattern → Type 0
  Same p = SameUses (occurrences_in p) → SameHoles (holes_in p) → (env : List Term) (m : ℕ) → inst_of g v p env m ≡ inst_of h w p env m

  same_params : (ps : List ParamPat) → SameHoles (flat_map hole_in_param ps) → map (param_of v) ps ≡ map (param_of w) ps
  same_params [] holes = refl
  same_params (Lit p ∷ ps) holes = ap (λ (xs : List Param). p ∷ xs) (same_params ps holes)
  same_params (Hole name ∷ ps) holes =
      let here = holes name (inl refl) in let rest = same_params ps (λ n i. holes n (inr i)) in rw (here, rest) refl

  same_bodies : (subs : List PBound) → OfEachBody Same subs → SameUses (flat_map occurrences_in_bound subs) → SameHoles (flat_map holes_in_bound subs) →
      (env : List Term) (m : ℕ) → made_each (map (inst_bound g v) subs) env m ≡ made_each (map (inst_bound h w) subs) env m
  same_bodies [] all uses holes env m = refl
  same_bodies (b ∷ bs) all uses holes env m =
      let here = all.0
      (λ o i. uses o (in-left o (occurrences_in_bound b) (flat_map occurrences_in_bound bs) (subst (In o) (sym (occurrences_in_bound-is b)) i)))
      (λ n i. holes n (in-left n (holes_in_bound b) (flat_map holes_in_bound bs) (subst (In n) (sym (holes_in_bound-is b)) i)))
      (env ++ variables m b.binders) (m + b.binders) in
      let first : inst_bound g v b env m ≡ inst_bound h w b env m =
      inst_bound-is g v b env m ∙ ap (λ (t : Term). let x : Bound = record { binders = b.binders; body = t } in x) here ∙ sym (inst_bound-is h w b env m) in
      let rest = same_bodies bs all.1 (λ o i. uses o (in-right o (occurrences_in_bound b) (flat_map occurrences_in_bound bs) i))
      (λ n i. holes n (in-right n (holes_in_bound b) (flat_map holes_in_bound bs) i)) env m in
      ap (λ (x : Bound). x ∷ made_each (map (inst_bound g v) bs) env m) first ∙ ap (λ xs. inst_bound h w b env m ∷ xs) rest

  same_args : (args : List Pattern) → OfEachArg Same args → SameUses (flat_map occurrences_in args) → SameHoles (flat_map holes_in args) →
      (env : List Term) (m : ℕ) → made_each (map (inst_of g v) args) env m ≡ made_each (map (inst_of h w) args) env m
  same_args [] all uses holes env m = refl
  same_args (a ∷ rest) all uses holes env m =
      let here = all.0 (λ o i. uses o (in-left o (occurrences_in a) (flat_map occurrences_in rest) i)) (λ n i. holes n (in-left n (holes_in a) (flat_map holes_in rest) i)) env m in
      let others = same_args rest all.1 (λ o i. uses o (in-right o (occurrences_in a) (flat_map occurrences_in rest) i))
      (λ n i. holes n (in-right n (holes_in a) (flat_map holes_in rest) i)) env m in
      ap (λ x. x ∷ made_each (map (inst_of g v) rest) env m) here ∙ ap (λ xs. inst_of h w a env m ∷ xs) others

  same_var : (l : ℕ) → Same (pat.Var l)
  same_var l uses holes env m = inst-Var g v l env m ∙ sym (inst-Var h w l env m)

  same_op : (o : Sym) (ps : List ParamPat) (subs : List PBound) → OfEachBody Same subs → Same (pat.Op o ps subs)
  same_op o ps subs all uses holes env m =
      let params = same_params ps (λ n i. holes n (subst (In n) (sym (holes_in-Op o ps subs)) (in-left n (flat_map hole_in_param ps) (flat_map holes_in_bound subs) i))) in
      let bodies = same_bodies subs all (λ x i. uses x (subst (In x) (sym (occurrences_in-Op o ps subs)) i))
      (λ n i. holes n (subst (In n) (sym (holes_in-Op o ps subs)) (in-right n (flat_map hole_in_param ps) (flat_map holes_in_bound subs) i))) env m in
      inst-Op g v o ps subs env m ∙ ap (λ xs. Op o xs (made_each (map (inst_bound g v) subs) env m)) params
      ∙ ap (λ bs. Op o (map (param_of w) ps) bs) bodies ∙ sym (inst-Op h w o ps subs env m)

  same_meta : (n : Sym) (cs : List Sym) (args : List Pattern) → OfEachArg Same args → Same (pat.Meta n cs args)
  same_meta n cs args all uses holes env m =
      let o : Occurrence = record { is_context = false; name = n; ctxs = cs; levels = map variable_level args } in
      let here = uses o (subst (In o) (sym (occurrences_in-Meta n cs args)) (inl refl)) in
      let others = same_args args all (λ x i. uses x (subst (In x) (sym (occurrences_in-Meta n cs args)) (inr i)))
      (λ x i. holes x (subst (In x) (sym (holes_in-Meta n cs args)) i)) env m in
      inst-Meta g v n cs args env m
      ∙ ap (λ t. sub_of t (map Var (g cs) ++ made_each (map (inst_of g v) args) env m) m) here.0
      ∙ ap (λ ls. sub_of (w.meta n) (map Var ls ++ made_each (map (inst_of g v) args) env m) m) here.1
      ∙ ap (λ ts. sub_of (w.meta n) (map Var (h cs) ++ ts) m) others
      ∙ sym (inst-Meta h w n cs args env m)

  pub same_inst : (p : Pattern) → Same p
  same_inst = each_pattern Same same_var same_op same_meta

  pub same_each : (args : List Pattern) → SameUses (flat_map occurrences_in args) → SameHoles (flat_map holes_in args) → (env : List Term) (m : ℕ) →
      made_each (map (inst_of g v) args) env m ≡ made_each (map (inst_of h w) args) env m
  same_each args = same_args args (of_each_arg Same same_inst args)

-- ## Lists of contexts

-- each occurrence in a well-placed pattern lists known contexts
pub lists_of_pattern : (p : Pattern) (b : Before) → pattern_placed p b ≡ true → (o : Occurrence) → In o (occurrences_in p) → is_known b.contexts o.ctxs ≡ true
lists_of_pattern p b k o i = all-in (known_use b.contexts) (occurrences_in p) o (sym (lists_known-told b.contexts p) ∙ (and_both _ (lists_known b.contexts p) k).1) i

pub lists_of_args : (args : List Pattern) (b : Before) → all_placed args b ≡ true → (o : Occurrence) → In o (flat_map occurrences_in args) → is_known b.contexts o.ctxs ≡ true
lists_of_args [] b k o i = absurd i
lists_of_args (a ∷ rest) b k o i =
    let both = and_both (pattern_placed a b) (all_placed rest b) k in
    elim (in-split o (occurrences_in a) (flat_map occurrences_in rest) i) [ inl j ↦ lists_of_pattern a b both.0 o j | inr j ↦ lists_of_args rest b both.1 o j ]

-- ## Schemata

module _ (v w : Instance) where
  -- the instances have the same value of the occurrence
  abbrev pub SameAt : Kind → Type 0
  SameAt k = SameValue v w k.is_context k.name

  abbrev pub SameHole : Sym → Type 0
  SameHole name = v.values.param name ≡ w.values.param name

  module _ (ambient : v.ambient ≡ w.ambient) where
    same_blocks : (pos : Sym → ℕ) (known cs : List Sym) → ((c : Sym) → has known c ≡ true → v.kept c ≡ w.kept c) → has_all known cs ≡ true →
        joined (map (λ c. upto (pos c) (length (v.kept c))) cs) ≡ joined (map (λ c. upto (pos c) (length (w.kept c))) cs)
    same_blocks pos known [] all k = refl
    same_blocks pos known (c ∷ cs) all k =
        let both = and_both (has known c) (has_all known cs) k in
        let here = all c both.0 in
        let rest = same_blocks pos known cs all both.1 in
        ap (λ (ts : List Term). upto (pos c) (length ts) ++ joined (map (λ d. upto (pos d) (length (v.kept d))) cs)) here ∙ ap (λ ls. upto (pos c) (length (w.kept c)) ++ ls) rest

    same_grounds : (pos : Sym → ℕ) (known : List Sym) → ((c : Sym) → has known c ≡ true → v.kept c ≡ w.kept c) → (cs : List Sym) → has_all known cs ≡ true → ground_at v pos cs ≡ ground_at w pos cs
    same_grounds pos known all cs k =
        ap (λ n. upto 0 n ++ joined (map (λ c. upto (pos c) (length (v.kept c))) cs)) ambient ∙ ap (λ ls. upto 0 w.ambient ++ ls) (same_blocks pos known cs all k)

    known_grounds : (pos : Sym → ℕ) (known : List Sym) → ((c : Sym) → has known c ≡ true → v.kept c ≡ w.kept c) → (cs : List Sym) → is_known known cs ≡ true → ground_at v pos cs ≡ ground_at w pos cs
    known_grounds pos known all cs k = same_grounds pos known all cs (and_both (has_all known cs) (is_apart cs) k).0

    abbrev Kept : Before → Type 0
    Kept b = (c : Sym) → has b.contexts c ≡ true → v.kept c ≡ w.kept c

    abbrev SameOccurrences : List Occurrence → Type 0
    SameOccurrences os = (o : Occurrence) → In o os → SameAt (kind_of o)

    abbrev SameNames : List Sym → Type 0
    SameNames names = (name : Sym) → In name names → SameHole name

    module _ (l : Spot) (b : Before) (kept : Kept b) where
      same_pattern : (p : Pattern) → SameOccurrences (occurrences_in p) → SameNames (holes_in p) → pattern_placed p b ≡ true → concl_at v p l ≡ concl_at w p l
      same_pattern p all holes k =
          same_inst (ground_at v l.pos) (ground_at w l.pos) v.values w.values p
          (λ o i. (subst (λ c. SameValue v w c o.name) (plain p o i) (all o i), known_grounds l.pos b.contexts kept o.ctxs (lists_of_pattern p b k o i))) holes (map Var l.env) l.next

      same_telescope : (ctxs : List Sym) (args : List Pattern) → has_all b.contexts ctxs ≡ true →
          ((env : List Term) (m : ℕ) → made_each (map (inst_of (ground_at v l.pos) v.values) args) env m ≡ made_each (map (inst_of (ground_at w l.pos) w.values) args) env m) →
          (c j : ℕ) (ts : List Term) → telescope v l ctxs args c j ts ≡ telescope w l ctxs args c j ts
      same_telescope ctxs args k same c j [] = refl
      same_telescope ctxs args k same c j (t ∷ ts) =
          let bases = same_grounds l.pos b.contexts kept ctxs k in
          let made = same (map Var l.env) (c + j) in
          let rest = same_telescope ctxs args k same c (suc j) ts in
          ap (λ ls. sub_of t (map Var ls ++ made_each (map (inst_of (ground_at v l.pos) v.values) args) (map Var l.env) (c + j) ++ variables c j) (c + j) ∷ telescope v l ctxs args c (suc j) ts) bases
          ∙ ap (λ xs. sub_of t (map Var (ground_at w l.pos ctxs) ++ xs ++ variables c j) (c + j) ∷ telescope v l ctxs args c (suc j) ts) made
          ∙ ap (λ xs. sub_of t (map Var (ground_at w l.pos ctxs) ++ made_each (map (inst_of (ground_at w l.pos) w.values) args) (map Var l.env) (c + j) ++ variables c j) (c + j) ∷ xs) rest

    pub record SameBehind (items : List Item) (l : Spot) (b : Before) : Type 0 where
      pub hyps : hyps_from v items l ≡ hyps_from w items l
      pub spot : behind_all v items l ≡ behind_all w items l
      pub kept : Kept (past_all items b)

    kept_more : (name : Sym) (ctxs : List Sym) (args : List Pattern) (b : Before) → Kept b → v.kept name ≡ w.kept name → Kept (past (Ctx name ctxs args) b)
    kept_more name ctxs args b kept here c e = by (nat_eq name.0 c.0) refl e
      where
        by : (t : Bool) → nat_eq name.0 c.0 ≡ t → (t || has b.contexts c) ≡ true → v.kept c ≡ w.kept c
        by true t k = subst (λ (n : Sym). v.kept n ≡ w.kept n) (same_name name c t) here
        by false t k = kept c k

    same_items : (items : List Item) (l : Spot) (b : Before) → Kept b → SameOccurrences (flat_map occurrences_in_item items) → SameNames (flat_map holes_in_item items) →
        each_item item_placed items b ≡ true → SameBehind items l b
    same_items [] l b kept all holes k = record { hyps = refl; spot = refl; kept = kept }
    same_items (Hyp p ∷ is) l b kept all holes k =
        let both = and_both (pattern_placed p b) (each_item item_placed is (past (Hyp p) b)) k in
        let here = same_pattern l b kept p (λ o i. all o (in-left o (occurrences_in p) (flat_map occurrences_in_item is) i)) (λ n i. holes n (in-left n (holes_in p) (flat_map holes_in_item is) i)) both.0 in
        let rest = same_items is (behind v (Hyp p) l) (past (Hyp p) b) kept (λ o i. all o (in-right o (occurrences_in p) (flat_map occurrences_in_item is) i))
        (λ n i. holes n (in-right n (holes_in p) (flat_map holes_in_item is) i)) both.1 in
        record {
          hyps = ap (λ (t : Term). t ∷ hyps_from v is (behind v (Hyp p) l)) here ∙ ap (λ ts. concl_at w p l ∷ ts) rest.hyps;
          spot = rest.spot;
          kept = rest.kept;
        }
    same_items (Ctx name ctxs args ∷ is) l b kept all holes k =
        let both = and_both (item_placed (Ctx name ctxs args) b) (each_item item_placed is (past (Ctx name ctxs args) b)) k in
        let placed = and_both _ (all_placed args b) both.0 in
        let lists = and_both _ (is_known b.contexts ctxs) placed.0 in
        let known = and_both (has_all b.contexts ctxs) (is_apart ctxs) lists.1 in
        let here : v.kept name ≡ w.kept name = all (context_at name ctxs args) (inl refl) in
        let made = same_each (ground_at v l.pos) (ground_at w l.pos) v.values w.values args
        (λ o i. (
          subst (λ t. SameValue v w t o.name) (plain_each args o i) (all o (in-left o (occurrences_in_item (Ctx name ctxs args)) (flat_map occurrences_in_item is) (inr i))),
          known_grounds l.pos b.contexts kept o.ctxs (lists_of_args args b placed.1 o i),
        )) (λ n i. holes n (in-left n (flat_map holes_in args) (flat_map holes_in_item is) i)) in
        let tele = same_telescope l b kept ctxs args known.0 made l.next 0 (v.kept name) ∙ ap (telescope w l ctxs args l.next 0) here in
        let pos = λ (other : Sym). (if nat_eq other.0 name.0 then l.next else l.pos other) in
        let spot : behind v (Ctx name ctxs args) l ≡ behind w (Ctx name ctxs args) l =
        ap (λ (ts : List Term). let s : Spot = record { env = l.env; pos = pos; next = l.next + length ts } in s) here in
        let rest = same_items is (behind v (Ctx name ctxs args) l) (past (Ctx name ctxs args) b) (kept_more name ctxs args b kept here)
        (λ o i. all o (in-right o (occurrences_in_item (Ctx name ctxs args)) (flat_map occurrences_in_item is) i))
        (λ n i. holes n (in-right n (flat_map holes_in args) (flat_map holes_in_item is) i)) both.1 in
        record {
          hyps = ap (λ ts. ts ++ hyps_from v is (behind v (Ctx name ctxs args) l)) tele ∙ ap (λ ts. telescope w l ctxs args l.next 0 (w.kept name) ++ ts) (rest.hyps ∙ ap (hyps_from w is) spot);
          spot = rest.spot ∙ ap (behind_all w is) spot;
          kept = rest.kept;
        }

    pub same_seq : (s : Schema) → is_placed s ≡ true → SameOccurrences (occurrences_in_schema s) → SameNames (holes_in_schema s) → seq v s ≡ seq w s
    same_seq s k all holes =
        let both = and_both (each_item item_placed s.items nothing_before) (pattern_placed s.concl (past_all s.items nothing_before)) k in
        let items = same_items s.items first_spot nothing_before (λ c e. absurd cc) (λ o i. all o (in-left o (flat_map occurrences_in_item s.items) (occurrences_in s.concl) i))
        (λ n i. holes n (in-left n (flat_map holes_in_item s.items) (holes_in s.concl) i)) both.0 in
        let concl = same_pattern (behind_all v s.items first_spot) (past_all s.items nothing_before) items.kept s.concl
        (λ o i. all o (in-right o (flat_map occurrences_in_item s.items) (occurrences_in s.concl) i))
        (λ n i. holes n (in-right n (flat_map holes_in_item s.items) (holes_in s.concl) i)) both.1 ∙ ap (concl_at w s.concl) items.spot in
        ap (λ (ts : List Term). let q : Sequent = record { hyps = ts; concl = concl_at v s.concl (behind_all v s.items first_spot) } in q) items.hyps
        ∙ ap (λ (t : Term). let q : Sequent = record { hyps = hyps_from w s.items first_spot; concl = t } in q) concl

    -- and then the first place behind the items is the same
    pub same_place : (s : Schema) → is_placed s ≡ true → SameOccurrences (occurrences_in_schema s) → SameNames (holes_in_schema s) → behind_all v s.items first_spot ≡ behind_all w s.items first_spot
    same_place s k all holes =
        let both = and_both (each_item item_placed s.items nothing_before) (pattern_placed s.concl (past_all s.items nothing_before)) k in
        (same_items s.items first_spot nothing_before (λ c e. absurd cc) (λ o i. all o (in-left o (flat_map occurrences_in_item s.items) (occurrences_in s.concl) i))
        (λ n i. holes n (in-left n (flat_map holes_in_item s.items) (holes_in s.concl) i)) both.0).spot
