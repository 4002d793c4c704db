-- What stands before the place of a fault has none.
use Rattle.std.proofs.Common.{◌≡◌, ℕ, zero, suc, ◌+◌, ◌-◌, ◌<◌, ◌≤◌, List, [], ◌∷◌, Bool, true, false, length, take, drop, Ok, Err, IsOk, is_ok, refl, ap, sym, subst, ◌∙◌, length-take-le, eqb-true, arith}
use Rattle.std.specs.Prelude.{nat_eq, nat_le, ◌&&◌, if◌then◌else◌}
use Rattle.std.specs.List.{prefix_len}
use Rattle.std.proofs.lemmas.List.{drop_all}
use Rattle.std.proofs.lemmas.List.Sums.{prefix_len-le-length}
use Rattle.mp_lex.specs.declared.token.Kind.{Kind}
use Rattle.mp_lex.specs.declared.token.Kind.TheVariants.{Small, Cap, SmallVar, CapVar, Num, Str}
use Rattle.mp_lex.specs.declared.token.Token.{Token}
use Rattle.mp_lex.specs.declared.token.LexWhy.{LexWhy}
use Rattle.mp_lex.specs.declared.token.LexWhy.TheVariants.{BadByte, LongName, BadNumber, BadString, TooNested}
use Rattle.mp_lex.specs.declared.front.Front.{Front}
use Rattle.mp_lex.specs.declared.front.Front.TheVariants as front
use Rattle.mp_lex.specs.Bytes.{is_small, is_cap, is_digit, is_word_byte, is_blank, is_comment, is_opening}
use Rattle.mp_lex.specs.Forms.{is_text}
use Rattle.mp_lex.specs.Lex.{Lexing, checked, string_len, mark_len, mark_front, ended_comment, comment_of, variable_of, begins_with, depth_after, front_of, go_on, lex, lex_from, with_front}
use Rattle.mp_lex.proofs.Cuts.{Keeps, kept, prefix_take}
use Rattle.mp_lex.proofs.Found.{IsRight, branch, found_right}

-- the bytes before a fault that is further on are passed over where they stand alone
abbrev IsAhead : List ℕ → ℕ → Type 0
IsAhead bytes zero = Unit {0}
IsAhead bytes (suc n) = (suc n ≤ length bytes) × (front_of (take (suc n) bytes) ≡ front.Passed (suc n))

abbrev Leads : List ℕ → Front → Type 0
Leads bytes (front.Passed len) = Unit {0}
Leads bytes (front.Token kind len) = Unit {0}
Leads bytes (front.Bad ahead why) = IsAhead bytes ahead

checked_leads : (kind : Kind) (why : LexWhy) (n : ℕ) (bytes : List ℕ) → Leads bytes (checked kind why n bytes)
checked_leads kind why n bytes = branch (Leads bytes) (is_text kind (take n bytes)) (front.Token kind n) (front.Bad 0 why) (λ _. tt) (λ _. tt)

comment_leads : (bs behind : List ℕ) → Leads (35 ∷ bs) (ended_comment (1 + prefix_len is_comment bs) behind)
comment_leads bs [] = tt
comment_leads bs (c ∷ rest) =
    let p = prefix_len is_comment bs in
    let next : 1 + p ≡ suc p = omega arith in
    let most : p ≤ length bs = prefix_len-le-length is_comment bs in
    let none : drop p (take p bs) ≡ [] = drop_all p (take p bs) (omega (arith, length-take-le p bs most)) in
    let alone : comment_of (take p bs) ≡ front.Passed (1 + p) = ap (λ k. ended_comment (1 + k) (drop k (take p bs))) (prefix_take is_comment p bs (omega arith)) ∙ ap (ended_comment (1 + p)) none in
    branch (Leads (35 ∷ bs)) (nat_eq c 10) (front.Passed (1 + p + 1)) (front.Bad (1 + p) BadByte) (λ _. tt)
    (λ _. subst (IsAhead (35 ∷ bs)) (sym next) (omega (arith, most), alone ∙ ap (λ k. front.Passed k) next))

variable_leads : (bs : List ℕ) → Leads (39 ∷ bs) (variable_of (39 ∷ bs) bs)
variable_leads bs =
    let n = 1 + prefix_len is_word_byte bs in
    branch (Leads (39 ∷ bs)) (begins_with is_small bs) (checked SmallVar LongName n (39 ∷ bs)) _ (λ _. checked_leads SmallVar LongName n (39 ∷ bs))
    (λ _. branch (Leads (39 ∷ bs)) (begins_with is_cap bs) (checked CapVar LongName n (39 ∷ bs)) (front.Bad 0 BadByte) (λ _. checked_leads CapVar LongName n (39 ∷ bs)) (λ _. tt))

mark_leads : (bytes : List ℕ) (n : ℕ) → Leads bytes (mark_front n)
mark_leads bytes zero = tt
mark_leads bytes (suc n) = tt

leads : (b : ℕ) (bs : List ℕ) → Leads (b ∷ bs) (front_of (b ∷ bs))
leads b bs =
    let P = Leads (b ∷ bs) in
    let words = prefix_len is_word_byte (b ∷ bs) in
    let digits = prefix_len is_digit (b ∷ bs) in
    branch P (is_small b) (checked Small LongName words (b ∷ bs)) _ (λ _. checked_leads Small LongName words (b ∷ bs))
    (λ _. branch P (is_cap b) (checked Cap LongName words (b ∷ bs)) _ (λ _. checked_leads Cap LongName words (b ∷ bs))
    (λ _. branch P (is_digit b) (checked Num BadNumber digits (b ∷ bs)) _ (λ _. checked_leads Num BadNumber digits (b ∷ bs))
    (λ _. branch P (is_blank b) (front.Passed 1) _ (λ _. tt)
    (λ _. branch P (nat_eq b 35) (comment_of bs) _ (λ e. subst (λ x. Leads (x ∷ bs) (comment_of bs)) (sym (eqb-true b 35 e)) (comment_leads bs (drop (prefix_len is_comment bs) bs)))
    (λ _. branch P (nat_eq b 39) (variable_of (b ∷ bs) bs) _ (λ e. subst (λ x. Leads (x ∷ bs) (variable_of (x ∷ bs) bs)) (sym (eqb-true b 39 e)) (variable_leads bs))
    (λ _. branch P (nat_eq b 34) (checked Str BadString (1 + string_len false bs) (b ∷ bs)) _ (λ _. checked_leads Str BadString (1 + string_len false bs) (b ∷ bs))
    (λ _. branch P (nat_eq b 45 && begins_with is_digit bs) (checked Num BadNumber (1 + prefix_len is_digit bs) (b ∷ bs)) (mark_front (mark_len (b ∷ bs)))
    (λ _. checked_leads Num BadNumber (1 + prefix_len is_digit bs) (b ∷ bs)) (λ _. mark_leads (b ∷ bs) (mark_len (b ∷ bs))))))))))

-- the bytes up to the place of the fault have tokens
pub record HasTokensBefore (k depth at : ℕ) (bs : List ℕ) (place : ℕ) : Type 0 where
  pub from : at + k ≤ place
  pub within : place ≤ at + length bs
  pub tokens : List Token
  pub reads : lex_from k depth at (take (place - at) bs) ≡ Ok tokens

-- what belongs to what was found before has no tokens of its own
passed_over : (k depth at : ℕ) (bs : List ℕ) → length bs ≤ k → lex_from k depth at bs ≡ Ok []
passed_over k depth at [] h = refl
passed_over zero depth at (b ∷ bs) h = absurd (omega (arith, h))
passed_over (suc k) depth at (b ∷ bs) h = passed_over k depth (at + 1) bs (omega (arith, h))

-- the place of a fault
abbrev place_of : Lexing → ℕ
place_of (Ok ts) = 0
place_of (Err fault) = fault.0

nothing_before : (depth at : ℕ) (bs : List ℕ) (place : ℕ) → at ≡ place → HasTokensBefore 0 depth at bs place
nothing_before depth at bs place e =
    let none : place - at ≡ 0 = omega (arith, e) in
    record { from = omega (arith, e); within = omega (arith, e); tokens = []; reads = ap (λ k. lex_from 0 depth at (take k bs)) none }

module _ (at b : ℕ) (bs : List ℕ) (depth place : ℕ) (why : LexWhy)
    (behind : (n o : ℕ) → n ≤ length bs → lex_from n o (at + 1) bs ≡ Err (place, why) → HasTokensBefore n o (at + 1) bs place) where
  cut : ℕ
  cut = place - (at + 1)

  -- the reading of the text that is cut at the fault begins alike
  begins_alike : (f : Front) → at + 1 ≤ place → front_of (b ∷ take cut bs) ≡ f → lex_from 0 depth at (take (place - at) (b ∷ bs)) ≡ go_on f depth at b (λ n o. lex_from n o (at + 1) (take cut bs))
  unfolding cut
  begins_alike f le e =
      let next : place - at ≡ suc cut = omega (arith, le) in
      ap (λ k. lex_from 0 depth at (take k (b ∷ bs))) next ∙ ap (λ g. go_on g depth at b (λ n o. lex_from n o (at + 1) (take cut bs))) e

  with_token : (kind : Kind) (len : ℕ) → front_of (b ∷ bs) ≡ front.Token kind len → 0 < len → len ≤ length (b ∷ bs) → (is_opening b && nat_le 250 depth) ≡ false → (r : Lexing)
      → lex_from (len - 1) (depth_after depth b) (at + 1) bs ≡ r → with_front (record { kind = kind; from = at; to = at + len } ∷ []) r ≡ Err (place, why) → HasTokensBefore 0 depth at (b ∷ bs) place
  unfolding cut
  with_token kind len e pos most shallow (Ok us) f g = absurd cc
  with_token kind len e pos most shallow (Err fault) f g =
      let t : Token = record { kind = kind; from = at; to = at + len } in
      let o = depth_after depth b in
      let same : lex_from (len - 1) o (at + 1) bs ≡ Err (place, why) = f ∙ g in
      let rest = behind (len - 1) o (omega (arith, most, pos)) same in
      let again : front_of (b ∷ take cut bs) ≡ front.Token kind len = subst (Keeps (suc cut) (front_of (b ∷ take cut bs))) e (kept b bs cut) (omega (arith, pos, rest.from)) in
      record {
        from = omega (arith, rest.from);
        within = omega (arith, rest.within);
        tokens = t ∷ rest.tokens;
        reads = begins_alike (front.Token kind len) (omega (arith, rest.from)) again
            ∙ ap (λ s. if s then Err (at, TooNested) else with_front (t ∷ []) (lex_from (len - 1) o (at + 1) (take cut bs))) shallow
            ∙ ap (with_front (t ∷ [])) rest.reads;
      }

  choice : (kind : Kind) (len : ℕ) → front_of (b ∷ bs) ≡ front.Token kind len → 0 < len → len ≤ length (b ∷ bs) → (s : Bool) → (is_opening b && nat_le 250 depth) ≡ s
      → (if s then Err (at, TooNested) else with_front (record { kind = kind; from = at; to = at + len } ∷ []) (lex_from (len - 1) (depth_after depth b) (at + 1) bs)) ≡ Err (place, why) → HasTokensBefore 0 depth at (b ∷ bs) place
  choice kind len e pos most true s g = nothing_before depth at (b ∷ bs) place (ap place_of g)
  choice kind len e pos most false s g = with_token kind len e pos most s (lex_from (len - 1) (depth_after depth b) (at + 1) bs) refl g

  passed : (len : ℕ) → front_of (b ∷ bs) ≡ front.Passed len → 0 < len → len ≤ length (b ∷ bs) → lex_from (len - 1) depth (at + 1) bs ≡ Err (place, why) → HasTokensBefore 0 depth at (b ∷ bs) place
  unfolding cut
  passed len e pos most g =
      let rest = behind (len - 1) depth (omega (arith, most, pos)) g in
      let again : front_of (b ∷ take cut bs) ≡ front.Passed len = subst (Keeps (suc cut) (front_of (b ∷ take cut bs))) e (kept b bs cut) (omega (arith, pos, rest.from)) in
      record {
        from = omega (arith, rest.from);
        within = omega (arith, rest.within);
        tokens = rest.tokens;
        reads = begins_alike (front.Passed len) (omega (arith, rest.from)) again ∙ rest.reads;
      }

  faulty : (ahead : ℕ) → IsAhead (b ∷ bs) ahead → at + ahead ≡ place → HasTokensBefore 0 depth at (b ∷ bs) place
  unfolding cut
  faulty zero h g = nothing_before depth at (b ∷ bs) place (omega (arith, g))
  faulty (suc n) h g =
      let to : cut ≡ n = omega (arith, g) in
      let again : front_of (b ∷ take cut bs) ≡ front.Passed (suc n) = ap (λ k. front_of (b ∷ take k bs)) to ∙ h.1 in
      record {
        from = omega (arith, g);
        within = omega (arith, g, h.0);
        tokens = [];
        reads = begins_alike (front.Passed (suc n)) (omega (arith, g)) again
            ∙ passed_over (suc n - 1) depth (at + 1) (take cut bs) (omega (arith, to, length-take-le cut bs (omega (arith, to, h.0))));
      }

  by_front : (f : Front) → front_of (b ∷ bs) ≡ f → IsRight (b ∷ bs) f → Leads (b ∷ bs) f → go_on f depth at b (λ n o. lex_from n o (at + 1) bs) ≡ Err (place, why) → HasTokensBefore 0 depth at (b ∷ bs) place
  by_front (front.Passed len) e found lead g = passed len e found.some found.within g
  by_front (front.Token kind len) e found lead g = choice kind len e found.some found.within (is_opening b && nat_le 250 depth) refl g
  by_front (front.Bad ahead reason) e found lead g = faulty ahead lead (ap place_of g)

tokens_before : (bs : List ℕ) (k depth at place : ℕ) (why : LexWhy) → k ≤ length bs → lex_from k depth at bs ≡ Err (place, why) → HasTokensBefore k depth at bs place
tokens_before [] k depth at place why few e = absurd cc
tokens_before (b ∷ bs) (suc k) depth at place why few e =
    let rest = tokens_before bs k depth (at + 1) place why (omega (arith, few)) e in
    let next : place - at ≡ suc (place - (at + 1)) = omega (arith, rest.from) in
    record {
      from = omega (arith, rest.from);
      within = omega (arith, rest.within);
      tokens = rest.tokens;
      reads = ap (λ n. lex_from (suc k) depth at (take n (b ∷ bs))) next ∙ rest.reads;
    }
tokens_before (b ∷ bs) zero depth at place why few e =
    by_front at b bs depth place why (λ n o most f. tokens_before bs n o (at + 1) place why most f) (front_of (b ∷ bs)) refl (found_right b bs) (leads b bs) e

-- the text up to its fault has tokens
pub before_fault : (source : List ℕ) (place : ℕ) (why : LexWhy) → lex source ≡ Err (place, why) → (place ≤ length source) × IsOk (lex (take place source))
before_fault source place why e =
    let h = tokens_before source 0 0 0 place why (omega arith) e in
    let all : place - 0 ≡ place = omega arith in
    (omega (arith, h.within), ap (λ n. is_ok (lex (take n source))) (sym all) ∙ ap (λ (r : Lexing). is_ok r) h.reads)
