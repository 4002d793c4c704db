-- The tokens of a text are in order, of their kinds and longest, and what is between them is separators and comments.
use Rattle.std.proofs.Common.{◌≡◌, ℕ, zero, suc, ◌+◌, ◌-◌, ◌<◌, ◌≤◌, List, [], ◌∷◌, Bool, true, false, length, take, drop, Some, Ok, Err, slice_get, refl, ap, sym, subst, ◌∙◌, drop-cons, drop-drop, get_or, length-drop, arith}
use Rattle.std.specs.Prelude.{nat_le, ◌&&◌, if◌then◌else◌}
use Rattle.mp_lex.specs.declared.token.Kind.{Kind}
use Rattle.mp_lex.specs.declared.token.Token.{Token}
use Rattle.mp_lex.specs.declared.token.LexWhy.TheVariants.{TooNested}
use Rattle.mp_lex.specs.declared.front.Front.{Front}
use Rattle.mp_lex.specs.declared.front.Front.TheVariants as front
use Rattle.mp_lex.specs.Bytes.{is_opening}
use Rattle.mp_lex.specs.Forms.{is_text}
use Rattle.mp_lex.specs.Lex.{Lexing, depth_after, front_of, go_on, lex, lex_from, with_front}
use Rattle.mp_lex.specs.Spans.{AreSeparated, EachToken, HasItsKind, InOrder, IsLongest, IsSpan, only_separators}
use Rattle.mp_lex.proofs.Found.{ArePassed, IsRight, IsToken, found_right}
use Rattle.mp_lex.proofs.Longest.{longest}

-- a token is the next one from a place on
pub record Follows (source : List ℕ) (from : ℕ) (t : Token) : Type 0 where
  pub after : from ≤ t.from
  pub span : IsSpan source t
  pub kind : HasItsKind source t
  pub longest : IsLongest source t
  pub before : only_separators false false (take (t.from - from) (drop from source)) ≡ true

abbrev pub FollowEachOther : List ℕ → ℕ → List Token → Type 0
FollowEachOther source from [] = only_separators true false (drop from source) ≡ true
FollowEachOther source from (t ∷ ts) = Follows source from t × FollowEachOther source t.to ts

-- what is passed over before tokens are separators and comments
passed_before : (source : List ℕ) (at len : ℕ) → ArePassed (drop at source) len → (ts : List Token) → FollowEachOther source (at + len) ts → FollowEachOther source at ts
passed_before source at len passed [] h = passed.last (ap (only_separators true false) (drop-drop len at source ∙ ap (λ k. drop k source) (omega arith)) ∙ h)
passed_before source at len passed (t ∷ ts) h =
    let next = h.0 in
    let size : length (drop at source) ≡ length source - at = length-drop at source in
    let later : len + (t.from - (at + len)) ≡ t.from - at = omega (arith, next.after) in
    let m = t.from - (at + len) in
    let rest : drop len (drop at source) ≡ drop (at + len) source = drop-drop len at source ∙ ap (λ k. drop k source) (omega arith) in (
      record {
        after = omega (arith, next.after);
        span = next.span;
        kind = next.kind;
        longest = next.longest;
        before = ap (λ k. only_separators false false (take k (drop at source))) (sym later)
            ∙ passed.more m (omega (arith, next.after, next.span.some, next.span.within, size)) (ap (λ xs. only_separators false false (take m xs)) rest ∙ next.before);
      },
      h.1,
    )

-- a token that is found is the next one
token_next : (source : List ℕ) (at b : ℕ) (bs : List ℕ) → drop at source ≡ b ∷ bs → (kind : Kind) (len : ℕ) → front_of (b ∷ bs) ≡ front.Token kind len → IsToken (b ∷ bs) kind len
    → Follows source at (let t : Token = record { kind = kind; from = at; to = at + len } in t)
token_next source at b bs cut kind len e found =
    let size : length source - at ≡ length (b ∷ bs) = sym (length-drop at source) ∙ ap length cut in
    let width : at + len - at ≡ len = omega arith in
    let nothing : at - at ≡ 0 = omega arith in
    record {
      after = omega arith;
      span = record { some = omega (arith, found.some); within = omega (arith, size, found.within, found.some) };
      kind = ap (λ k. is_text kind (take k (drop at source))) width ∙ ap (λ xs. is_text kind (take len xs)) cut ∙ found.form;
      longest = λ other n more most.
          let fits : n ≤ length (b ∷ bs) = subst (λ xs. n ≤ length xs) cut most in
          ap (λ xs. is_text other (take n xs)) cut ∙ longest (b ∷ bs) kind len e other n (omega (arith, more, width)) fits;
      before = ap (λ k. only_separators false false (take k (drop at source))) nothing;
    }

-- a token that is found at a place of a text is the next one from there on
pub token_at : (source : List ℕ) (at : ℕ) → at < length source → (kind : Kind) (len : ℕ) → front.Token kind len ≡ front_of (drop at source) → Follows source at (let t : Token = record { kind = kind; from = at; to = at + len } in t)
token_at source at lt kind len e =
    let b = get_or source at 0 in
    let bs = drop (suc at) source in
    let cut : drop at source ≡ b ∷ bs = drop-cons source at 0 lt in
    let is : front_of (b ∷ bs) ≡ front.Token kind len = ap front_of (sym cut) ∙ sym e in
    token_next source at b bs cut kind len is (subst (IsRight (b ∷ bs)) is (found_right b bs))

module _ (source : List ℕ) (at b : ℕ) (bs : List ℕ) (cut : drop at source ≡ b ∷ bs) (depth : ℕ) (ts : List Token)
    (behind : (n o : ℕ) (us : List Token) → n ≤ length bs → lex_from n o (at + 1) bs ≡ Ok us → FollowEachOther source (at + 1 + n) us) where
  further : (n o : ℕ) (us : List Token) → 0 < n → n ≤ length (b ∷ bs) → lex_from (n - 1) o (at + 1) bs ≡ Ok us → FollowEachOther source (at + n) us
  further n o us pos most e = let to : at + 1 + (n - 1) ≡ at + n = omega (arith, pos) in subst (λ k. FollowEachOther source k us) to (behind (n - 1) o us (omega (arith, most, pos)) e)

  with_token : (kind : Kind) (len : ℕ) → front_of (b ∷ bs) ≡ front.Token kind len → IsToken (b ∷ bs) kind len → (r : Lexing) → lex_from (len - 1) (depth_after depth b) (at + 1) bs ≡ r
      → with_front (record { kind = kind; from = at; to = at + len } ∷ []) r ≡ Ok ts → FollowEachOther source at ts
  with_token kind len e found (Ok us) f g =
      let t : Token = record { kind = kind; from = at; to = at + len } in
      let all : t ∷ us ≡ ts = cc in
      subst (FollowEachOther source at) all (token_next source at b bs cut kind len e found, further len (depth_after depth b) us found.some found.within f)
  with_token kind len e found (Err fault) f g = absurd cc

  choice : (kind : Kind) (len : ℕ) → front_of (b ∷ bs) ≡ front.Token kind len → IsToken (b ∷ bs) kind len → (t : Bool)
      → (if t then Err (at, TooNested) else with_front (record { kind = kind; from = at; to = at + len } ∷ []) (lex_from (len - 1) (depth_after depth b) (at + 1) bs)) ≡ Ok ts → FollowEachOther source at ts
  choice kind len e found true g = absurd cc
  choice kind len e found false g = with_token kind len e found (lex_from (len - 1) (depth_after depth b) (at + 1) bs) refl g

  by_front : (f : Front) → front_of (b ∷ bs) ≡ f → IsRight (b ∷ bs) f → go_on f depth at b (λ n o. lex_from n o (at + 1) bs) ≡ Ok ts → FollowEachOther source at ts
  by_front (front.Passed len) e found g =
      passed_before source at len (subst (λ xs. ArePassed xs len) (sym cut) found) ts (further len depth ts found.some found.within g)
  by_front (front.Token kind len) e found g = choice kind len e found (is_opening b && nat_le 250 depth) g
  by_front (front.Bad ahead why) e found g = absurd cc

tokens_from : (source bs : List ℕ) (k depth at : ℕ) (ts : List Token) → k ≤ length bs → drop at source ≡ bs → lex_from k depth at bs ≡ Ok ts → FollowEachOther source (at + k) ts
tokens_from source [] k depth at ts few cut e =
    let none : [] ≡ ts = cc in
    let here : at + k ≡ at = omega (arith, few) in
    subst (FollowEachOther source (at + k)) none (ap (λ n. only_separators true false (drop n source)) here ∙ ap (only_separators true false) cut)
tokens_from source (b ∷ bs) (suc k) depth at ts few cut e =
    let to : at + 1 + k ≡ at + suc k = omega arith in
    let next : drop (at + 1) source ≡ bs = sym (drop-drop 1 at source ∙ ap (λ n. drop n source) (omega arith)) ∙ ap (drop 1) cut in
    subst (λ n. FollowEachOther source n ts) to (tokens_from source bs k depth (at + 1) ts (omega (arith, few)) next e)
tokens_from source (b ∷ bs) zero depth at ts few cut e =
    let here : at ≡ at + 0 = omega arith in
    let next : drop (at + 1) source ≡ bs = sym (drop-drop 1 at source ∙ ap (λ n. drop n source) (omega arith)) ∙ ap (drop 1) cut in
    subst (λ n. FollowEachOther source n ts) here
    (by_front source at b bs cut depth ts (λ n o us most f. tokens_from source bs n o (at + 1) us most next f) (front_of (b ∷ bs)) refl (found_right b bs) e)

pub tokens_of : (source : List ℕ) (ts : List Token) → lex source ≡ Ok ts → FollowEachOther source 0 ts
tokens_of source ts e = tokens_from source source 0 0 0 ts (omega arith) refl e

-- a fact of each next token is one of each token
each : (source : List ℕ) (P : Token → Type 0) → ((from : ℕ) (t : Token) → Follows source from t → P t) → (from : ℕ) (ts : List Token) → FollowEachOther source from ts → EachToken P ts
each source P f from [] h i t e = absurd cc
each source P f from (t ∷ ts) h zero u e = let same : t ≡ u = cc in subst P same (f from t h.0)
each source P f from (t ∷ ts) h (suc i) u e = each source P f t.to ts h.1 i u e

pub spans : (source : List ℕ) (ts : List Token) → lex source ≡ Ok ts → EachToken (IsSpan source) ts
spans source ts e = each source (IsSpan source) (λ from t h. h.span) 0 ts (tokens_of source ts e)

pub kinds : (source : List ℕ) (ts : List Token) → lex source ≡ Ok ts → EachToken (HasItsKind source) ts
kinds source ts e = each source (HasItsKind source) (λ from t h. h.kind) 0 ts (tokens_of source ts e)

pub all_longest : (source : List ℕ) (ts : List Token) → lex source ≡ Ok ts → EachToken (IsLongest source) ts
all_longest source ts e = each source (IsLongest source) (λ from t h. h.longest) 0 ts (tokens_of source ts e)

later : (source : List ℕ) (from : ℕ) (ts : List Token) → FollowEachOther source from ts → (i : ℕ) (t : Token) → slice_get ts i ≡ Some t → from ≤ t.from
later source from [] h i t e = absurd cc
later source from (t ∷ ts) h zero u e = let same : t ≡ u = cc in subst (λ (x : Token). from ≤ x.from) same h.0.after
later source from (t ∷ ts) h (suc i) u e =
    let rest = later source t.to ts h.1 i u e in
    omega (arith, rest, h.0.after, h.0.span.some)

ordered : (source : List ℕ) (from : ℕ) (ts : List Token) → FollowEachOther source from ts → InOrder ts
ordered source from [] h i j s t lt e f = absurd cc
ordered source from (x ∷ ts) h i zero s t lt e f = absurd (omega (arith, lt))
ordered source from (x ∷ ts) h zero (suc j) s t lt e f = let same : x ≡ s = cc in subst (λ (y : Token). y.to ≤ t.from) same (later source x.to ts h.1 j t f)
ordered source from (x ∷ ts) h (suc i) (suc j) s t lt e f = ordered source x.to ts h.1 i j s t (omega (arith, lt)) e f

pub order : (source : List ℕ) (ts : List Token) → lex source ≡ Ok ts → InOrder ts
order source ts e = ordered source 0 ts (tokens_of source ts e)

separated : (source : List ℕ) (from : ℕ) (ts : List Token) → FollowEachOther source from ts → AreSeparated source from ts
separated source from [] h = h
separated source from (t ∷ ts) h = (h.0.before, separated source t.to ts h.1)

pub between : (source : List ℕ) (ts : List Token) → lex source ≡ Ok ts → AreSeparated source 0 ts
between source ts e = separated source 0 ts (tokens_of source ts e)

few_from : (source : List ℕ) (from : ℕ) (ts : List Token) → from ≤ length source → FollowEachOther source from ts → length ts + from ≤ length source
few_from source from [] most h = omega (arith, most)
few_from source from (t ∷ ts) most h =
    let rest = few_from source t.to ts h.0.span.within h.1 in
    omega (arith, rest, h.0.after, h.0.span.some)

pub few : (source : List ℕ) (ts : List Token) → lex source ≡ Ok ts → length ts ≤ length source
few source ts e = let all = few_from source 0 ts (omega arith) (tokens_of source ts e) in omega (arith, all)
