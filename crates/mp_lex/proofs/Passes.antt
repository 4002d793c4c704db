-- The reading of a text, one find further.
use Rattle.std.proofs.Common.{◌≡◌, ℕ, zero, suc, ◌+◌, ◌-◌, ◌<◌, ◌≤◌, ◌++◌, List, [], ◌∷◌, length, drop, get_or, Ok, Err, Bool, true, false, refl, ap, sym, ◌∙◌, drop-cons, append_assoc, arith}
use Rattle.std.specs.Prelude.{nat_le, ◌&&◌, if◌then◌else◌}
use Rattle.std.proofs.lemmas.Bool.Decides.{nat_tests}
use Rattle.std.proofs.lemmas.List.{drop-drop, drop_all}
use Rattle.mp_lex.specs.declared.token.Kind.{Kind}
use Rattle.mp_lex.specs.declared.token.Token.{Token}
use Rattle.mp_lex.specs.declared.token.LexWhy.{LexWhy}
use Rattle.mp_lex.specs.declared.token.LexWhy.TheVariants.{TooNested}
use Rattle.mp_lex.specs.declared.front.Front.{Front}
use Rattle.mp_lex.specs.declared.front.Front.TheVariants as front
use Rattle.mp_lex.specs.Bytes.{is_closing, is_opening}
use Rattle.mp_lex.specs.Lex.{Lexing, depth_after, found, found_from, found_on, front_of, go_on, lex, lex_from, with_front}

-- the bytes of what was found are passed over
pub skipped : (n depth at : ℕ) (bs : List ℕ) → n ≤ length bs → lex_from n depth at bs ≡ lex_from 0 depth (at + n) (drop n bs)
skipped zero depth at bs h = let e : at ≡ at + 0 = omega arith in ap (λ k. lex_from 0 depth k bs) e
skipped (suc n) depth at [] h = absurd (omega (arith, h))
skipped (suc n) depth at (b ∷ bs) h =
    let e : at + 1 + n ≡ at + suc n = omega arith in
    skipped n depth (at + 1) bs (omega (arith, h)) ∙ ap (λ k. lex_from 0 depth k (drop n bs)) e

-- and so they are where tokens are found
found_skipped : (n depth at : ℕ) (bs : List ℕ) → n ≤ length bs → found_from n depth at bs ≡ found_from 0 depth (at + n) (drop n bs)
found_skipped zero depth at bs h = let e : at ≡ at + 0 = omega arith in ap (λ k. found_from 0 depth k bs) e
found_skipped (suc n) depth at [] h = absurd (omega (arith, h))
found_skipped (suc n) depth at (b ∷ bs) h =
    let e : at + 1 + n ≡ at + suc n = omega arith in
    found_skipped n depth (at + 1) bs (omega (arith, h)) ∙ ap (λ k. found_from 0 depth k (drop n bs)) e

module _ (source : List ℕ) (at depth : ℕ) (lt : at < length source) where
  abbrev b : ℕ
  b = get_or source at 0

  abbrev bs : List ℕ
  bs = drop (suc at) source

  cut : drop at source ≡ b ∷ bs
  cut = drop-cons source at 0 lt

  begun : (f : Front) → f ≡ front_of (drop at source) → lex_from 0 depth at (drop at source) ≡ go_on f depth at b (λ n o. lex_from n o (at + 1) bs)
  begun f e = ap (lex_from 0 depth at) cut ∙ ap (λ q. go_on q depth at b (λ n o. lex_from n o (at + 1) bs)) (ap front_of (sym cut) ∙ sym e)

  -- the reading goes on behind the bytes that were found
  behind : (len o : ℕ) → 0 < len → len ≤ length (drop at source) → lex_from (len - 1) o (at + 1) bs ≡ lex_from 0 o (at + len) (drop (at + len) source)
  behind len o pos most =
      let n : length (drop at source) ≡ suc (length bs) = ap length cut in
      let few : len - 1 ≤ length bs = omega (arith, n, pos, most) in
      let to : at + 1 + (len - 1) ≡ at + len = omega (arith, pos) in
      let rest : drop (len - 1) bs ≡ drop (at + len) source = drop-drop (len - 1) (suc at) source ∙ ap (λ k. drop k source) (omega (arith, pos)) in
      skipped (len - 1) o (at + 1) bs few ∙ ap (λ k. lex_from 0 o k (drop (len - 1) bs)) to ∙ ap (lex_from 0 o (at + len)) rest

  pub passed_step : (len : ℕ) → front.Passed len ≡ front_of (drop at source) → 0 < len → len ≤ length (drop at source)
      → lex_from 0 depth at (drop at source) ≡ lex_from 0 depth (at + len) (drop (at + len) source)
  passed_step len e pos most = begun (front.Passed len) e ∙ behind len depth pos most

  pub bad_step : (ahead : ℕ) (why : LexWhy) → front.Bad ahead why ≡ front_of (drop at source) → lex_from 0 depth at (drop at source) ≡ Err (at + ahead, why)
  bad_step ahead why e = begun (front.Bad ahead why) e

  pub nested_step : (kind : Kind) (len : ℕ) → front.Token kind len ≡ front_of (drop at source) → (is_opening b && nat_le 250 depth) ≡ true → lex_from 0 depth at (drop at source) ≡ Err (at, TooNested)
  nested_step kind len e deep =
      begun (front.Token kind len) e
      ∙ ap (λ t. if t then Err (at, TooNested) else with_front (record { kind = kind; from = at; to = at + len } ∷ []) (lex_from (len - 1) (depth_after depth b) (at + 1) bs)) deep

  pub token_step : (kind : Kind) (len : ℕ) → front.Token kind len ≡ front_of (drop at source) → (is_opening b && nat_le 250 depth) ≡ false → 0 < len → len ≤ length (drop at source)
      → lex_from 0 depth at (drop at source) ≡ with_front (record { kind = kind; from = at; to = at + len } ∷ []) (lex_from 0 (depth_after depth b) (at + len) (drop (at + len) source))
  token_step kind len e deep pos most =
      let t : Token = record { kind = kind; from = at; to = at + len } in
      begun (front.Token kind len) e
      ∙ ap (λ s. if s then Err (at, TooNested) else with_front (t ∷ []) (lex_from (len - 1) (depth_after depth b) (at + 1) bs)) deep
      ∙ ap (with_front (t ∷ [])) (behind len (depth_after depth b) pos most)

  found_begun : (f : Front) → f ≡ front_of (drop at source) → found_from 0 depth at (drop at source) ≡ found_on f depth at b (λ n o. found_from n o (at + 1) bs)
  found_begun f e = ap (found_from 0 depth at) cut ∙ ap (λ q. found_on q depth at b (λ n o. found_from n o (at + 1) bs)) (ap front_of (sym cut) ∙ sym e)

  found_behind : (len o : ℕ) → 0 < len → len ≤ length (drop at source) → found_from (len - 1) o (at + 1) bs ≡ found_from 0 o (at + len) (drop (at + len) source)
  found_behind len o pos most =
      let n : length (drop at source) ≡ suc (length bs) = ap length cut in
      let few : len - 1 ≤ length bs = omega (arith, n, pos, most) in
      let to : at + 1 + (len - 1) ≡ at + len = omega (arith, pos) in
      let rest : drop (len - 1) bs ≡ drop (at + len) source = drop-drop (len - 1) (suc at) source ∙ ap (λ k. drop k source) (omega (arith, pos)) in
      found_skipped (len - 1) o (at + 1) bs few ∙ ap (λ k. found_from 0 o k (drop (len - 1) bs)) to ∙ ap (found_from 0 o (at + len)) rest

  pub found_passed : (len : ℕ) → front.Passed len ≡ front_of (drop at source) → 0 < len → len ≤ length (drop at source)
      → found_from 0 depth at (drop at source) ≡ found_from 0 depth (at + len) (drop (at + len) source)
  found_passed len e pos most = found_begun (front.Passed len) e ∙ found_behind len depth pos most

  pub found_bad : (ahead : ℕ) (why : LexWhy) → front.Bad ahead why ≡ front_of (drop at source) → found_from 0 depth at (drop at source) ≡ []
  found_bad ahead why e = found_begun (front.Bad ahead why) e

  pub found_nested : (kind : Kind) (len : ℕ) → front.Token kind len ≡ front_of (drop at source) → (is_opening b && nat_le 250 depth) ≡ true → found_from 0 depth at (drop at source) ≡ []
  found_nested kind len e deep =
      found_begun (front.Token kind len) e
      ∙ ap (λ t. if t then [] else record { kind = kind; from = at; to = at + len } ∷ found_from (len - 1) (depth_after depth b) (at + 1) bs) deep

  pub found_token : (kind : Kind) (len : ℕ) → front.Token kind len ≡ front_of (drop at source) → (is_opening b && nat_le 250 depth) ≡ false → 0 < len → len ≤ length (drop at source)
      → found_from 0 depth at (drop at source) ≡ record { kind = kind; from = at; to = at + len } ∷ found_from 0 (depth_after depth b) (at + len) (drop (at + len) source)
  found_token kind len e deep pos most =
      let t : Token = record { kind = kind; from = at; to = at + len } in
      found_begun (front.Token kind len) e
      ∙ ap (λ s. if s then [] else t ∷ found_from (len - 1) (depth_after depth b) (at + 1) bs) deep
      ∙ ap (λ ts. t ∷ ts) (found_behind len (depth_after depth b) pos most)

pub front_push : (ts : List Token) (t : Token) (r : Lexing) → with_front (ts ++ t ∷ []) r ≡ with_front ts (with_front (t ∷ []) r)
front_push ts t (Ok us) = let e : (ts ++ t ∷ []) ++ us ≡ ts ++ t ∷ us = append_assoc ts (t ∷ []) us in ap (λ (xs : List Token). Ok xs) e
front_push ts t (Err e) = refl

-- the tokens of a reading without a fault are those that are found
module _ (go : ℕ → ℕ → Lexing) (finds : ℕ → ℕ → List Token) (alike : (n o : ℕ) (us : List Token) → go n o ≡ Ok us → finds n o ≡ us) where
  in_front : (t : Token) (n o : ℕ) (r : Lexing) → go n o ≡ r → (ts : List Token) → with_front (t ∷ []) r ≡ Ok ts → t ∷ finds n o ≡ ts
  in_front t n o (Ok us) e ts h = let same : t ∷ us ≡ ts = cc in ap (λ xs. t ∷ xs) (alike n o us e) ∙ same
  in_front t n o (Err f) e ts h = absurd cc

  deeper : (t : Token) (n o at : ℕ) (s : Bool) (ts : List Token) → (if s then Err (at, TooNested) else with_front (t ∷ []) (go n o)) ≡ Ok ts → (if s then [] else t ∷ finds n o) ≡ ts
  deeper t n o at true ts h = absurd cc
  deeper t n o at false ts h = in_front t n o (go n o) refl ts h

  found_alike : (f : Front) (depth at b : ℕ) (ts : List Token) → go_on f depth at b go ≡ Ok ts → found_on f depth at b finds ≡ ts
  found_alike (front.Passed len) depth at b ts h = alike (len - 1) depth ts h
  found_alike (front.Bad ahead why) depth at b ts h = absurd cc
  found_alike (front.Token kind len) depth at b ts h = deeper (record { kind = kind; from = at; to = at + len }) (len - 1) (depth_after depth b) at (is_opening b && nat_le 250 depth) ts h

found_all_from : (bs : List ℕ) (k depth at : ℕ) (ts : List Token) → lex_from k depth at bs ≡ Ok ts → found_from k depth at bs ≡ ts
found_all_from [] k depth at ts h = cc
found_all_from (b ∷ bs) (suc k) depth at ts h = found_all_from bs k depth (at + 1) ts h
found_all_from (b ∷ bs) zero depth at ts h =
    found_alike (λ n o. lex_from n o (at + 1) bs) (λ n o. found_from n o (at + 1) bs) (λ n o us e. found_all_from bs n o (at + 1) us e) (front_of (b ∷ bs)) depth at b ts h

pub found_all : (source : List ℕ) (ts : List Token) → lex source ≡ Ok ts → found source ≡ ts
found_all source ts h = found_all_from source 0 0 0 ts h

pub lex_end : (source : List ℕ) (at depth : ℕ) → length source ≤ at → lex_from 0 depth at (drop at source) ≡ Ok []
lex_end source at depth most = ap (lex_from 0 depth at) (drop_all at source most)

pub found_end : (source : List ℕ) (at depth : ℕ) → length source ≤ at → found_from 0 depth at (drop at source) ≡ []
found_end source at depth most = ap (found_from 0 depth at) (drop_all at source most)

opened : (o c : Bool) (depth : ℕ) → depth ≤ 250 → (o && nat_le 250 depth) ≡ false → (if o then depth + 1 else if c then depth - 1 else depth) ≤ 250
opened true c depth few shallow = grind (arith, nat_tests)
opened false true depth few shallow = omega arith
opened false false depth few shallow = few

-- no more than 250 brackets are open
pub depth_kept : (depth b : ℕ) → depth ≤ 250 → (is_opening b && nat_le 250 depth) ≡ false → depth_after depth b ≤ 250
depth_kept depth b few shallow = opened (is_opening b) (is_closing b) depth few shallow
