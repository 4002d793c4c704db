-- Grammars that are put together take words, and agree where their parts do; one that speaks of itself is its step over itself.
use Rattle.std.proofs.Common.{◌≡◌, ℕ, zero, suc, ◌<◌, ◌≤◌, List, [], ◌∷◌, length, drop, Bool, true, false, Option, None, Some, refl, ap, sym, subst, ◌∙◌, arith, true≢false}
use Rattle.mp_words.specs.Grammars.{Parse, read, stuck, Grammar, then_read, fronted, taken, some_of, word_or, token, or_word, if_there, nothing, nowhere, which, choose, skip, form, forms, after, optional, made, pair, both, ended, levels, itself, put, row_step, row, listed, chain_step, chain, repeated_step, repeated, leaves, Shrinks, Keeps, Agree, Local}

-- ## What is left

module _ {W : Type 0} where
  fewer : (test : W → Bool) (ts : List W) → fronted test ts ≡ true → length (drop 1 ts) < length ts
  fewer test [] e = absurd (true≢false (sym e))
  fewer test (t ∷ ts) e = omega arith

  drop_less : (ts : List W) → length (drop 1 ts) ≤ length ts
  drop_less [] = omega arith
  drop_less (t ∷ ts) = omega arith

  pub keeps : {X : Type 0} (g : Grammar W X) → Shrinks g → Keeps g
  keeps {X} g a ts = by (g ts) (a ts)
    where
      by : (o : Parse W X) → leaves (λ m n. m < n) (length ts) o → leaves (λ m n. m ≤ n) (length ts) o
      by (read x us) h = omega (arith, h)
      by (stuck us) h = tt

  pub nowhere_shrinks : (X : Type 0) → Shrinks (nowhere {W = W} {X = X})
  nowhere_shrinks X ts = tt

  module _ {X : Type 0} where
    word_or_shrinks : (of : W → Option X) (o : List W → Parse W X) (ts : List W) → leaves (λ m n. m < n) (length ts) (o ts) → leaves (λ m n. m < n) (length ts) (word_or (taken of ts) ts (o ts))
    word_or_shrinks of o [] h = h
    word_or_shrinks of o (t ∷ ts) h = by (of t)
      where
        by : (x : Option X) → leaves (λ m n. m < n) (length (t ∷ ts)) (word_or x (t ∷ ts) (o (t ∷ ts)))
        by None = h
        by (Some x) = omega arith

    pub token_shrinks : (of : W → Option X) → Shrinks (token of)
    token_shrinks of ts = word_or_shrinks of stuck ts tt

    pub or_word_shrinks : (of : W → Option X) (g : Grammar W X) → Shrinks g → Shrinks (or_word of g)
    or_word_shrinks of g a ts = word_or_shrinks of g ts (a ts)

    pub or_word_keeps : (of : W → Option X) (g : Grammar W X) → Keeps g → Keeps (or_word of g)
    or_word_keeps of g a [] = a []
    or_word_keeps of g a (t ∷ ts) = by (of t)
      where
        by : (x : Option X) → leaves (λ m n. m ≤ n) (length (t ∷ ts)) (word_or x (t ∷ ts) (g (t ∷ ts)))
        by None = a (t ∷ ts)
        by (Some x) = omega arith

    pub nothing_keeps : (x : X) → Keeps (nothing {W = W} x)
    nothing_keeps x ts = omega arith

    which_leaves : (than : ℕ → ℕ → Type 0) (n : ℕ) (b : Bool) (o p : Parse W X) → (b ≡ true → leaves than n o) → (b ≡ false → leaves than n p) → leaves than n (which b o p)
    which_leaves than n true o p h k = h refl
    which_leaves than n false o p h k = k refl

    pub choose_shrinks : (begins : List W → Bool) (g h : Grammar W X) → Shrinks g → Shrinks h → Shrinks (choose begins g h)
    choose_shrinks begins g h a b ts = which_leaves (λ m n. m < n) (length ts) (begins ts) (g ts) (h ts) (λ e. a ts) (λ e. b ts)

    pub choose_keeps : (begins : List W → Bool) (g h : Grammar W X) → Keeps g → Keeps h → Keeps (choose begins g h)
    choose_keeps begins g h a b ts = which_leaves (λ m n. m ≤ n) (length ts) (begins ts) (g ts) (h ts) (λ e. a ts) (λ e. b ts)

    deeper : (n m : ℕ) → m < n → (o : Parse W X) → leaves (λ a b. a ≤ b) m o → leaves (λ a b. a < b) n o
    deeper n m l (read x us) h = omega (arith, l, h)
    deeper n m l (stuck us) h = tt

    pub form_shrinks : (test : W → Bool) (g h : Grammar W X) → Keeps g → Shrinks h → Shrinks (form test g h)
    form_shrinks test g h a b ts = which_leaves (λ m n. m < n) (length ts) (fronted test ts) (g (drop 1 ts)) (h ts) (λ e. deeper (length ts) (length (drop 1 ts)) (fewer test ts e) (g (drop 1 ts)) (a (drop 1 ts))) (λ e. b ts)

    pub after_shrinks : (test : W → Bool) (g : Grammar W X) → Keeps g → Shrinks (after test g)
    after_shrinks test g a = form_shrinks test g nowhere a (nowhere_shrinks X)

    made_leaves : {Y : Type 0} (than : ℕ → ℕ → Type 0) (n : ℕ) (make : X → Y) (o : Parse W X) → leaves than n o → leaves than n (then_read o (λ x us. read (make x) us))
    made_leaves than n make (read x us) h = h
    made_leaves than n make (stuck us) h = tt

    pub made_shrinks : {Y : Type 0} (make : X → Y) (g : Grammar W X) → Shrinks g → Shrinks (made make g)
    made_shrinks make g a ts = made_leaves (λ m n. m < n) (length ts) make (g ts) (a ts)

    pub made_keeps : {Y : Type 0} (make : X → Y) (g : Grammar W X) → Keeps g → Keeps (made make g)
    made_keeps make g a ts = made_leaves (λ m n. m ≤ n) (length ts) make (g ts) (a ts)

    no_deeper : (n m : ℕ) → m ≤ n → (o : Parse W X) → leaves (λ a b. a ≤ b) m o → leaves (λ a b. a ≤ b) n o
    no_deeper n m l (read x us) h = omega (arith, l, h)
    no_deeper n m l (stuck us) h = tt

    module _ {Y : Type 0} (first second both_than : ℕ → ℕ → Type 0) (through : (a b c : ℕ) → first b c → second a b → both_than a c) (n : ℕ) where
      second_leaves : (x : X) (us : List W) → first (length us) n → (o : Parse W Y) → leaves second (length us) o → leaves both_than n (then_read o (λ y vs. read (pair x y) vs))
      second_leaves x us l (read y vs) k = through (length vs) (length us) n l k
      second_leaves x us l (stuck vs) k = tt

      both_leaves : (h : Grammar W Y) → ((us : List W) → leaves second (length us) (h us)) → (o : Parse W X) → leaves first n o → leaves both_than n (then_read o (λ x us. then_read (h us) (λ y vs. read (pair x y) vs)))
      both_leaves h b (read x us) l = second_leaves x us l (h us) (b us)
      both_leaves h b (stuck us) l = tt

    pub both_shrinks : {Y : Type 0} (g : Grammar W X) (h : Grammar W Y) → Shrinks g → Keeps h → Shrinks (both g h)
    both_shrinks g h a b ts = both_leaves (λ m n. m < n) (λ m n. m ≤ n) (λ m n. m < n) (λ x y z l k. omega (arith, l, k)) (length ts) h b (g ts) (a ts)

    -- the second part takes a word
    pub both_shrinks_last : {Y : Type 0} (g : Grammar W X) (h : Grammar W Y) → Keeps g → Shrinks h → Shrinks (both g h)
    both_shrinks_last g h a b ts = both_leaves (λ m n. m ≤ n) (λ m n. m < n) (λ m n. m < n) (λ x y z l k. omega (arith, l, k)) (length ts) h b (g ts) (a ts)

    pub both_keeps : {Y : Type 0} (g : Grammar W X) (h : Grammar W Y) → Keeps g → Keeps h → Keeps (both g h)
    both_keeps g h a b ts = both_leaves (λ m n. m ≤ n) (λ m n. m ≤ n) (λ m n. m ≤ n) (λ x y z l k. omega (arith, l, k)) (length ts) h b (g ts) (a ts)

    pub skip_keeps : (g : Grammar W X) → Keeps g → Keeps (skip g)
    skip_keeps g a ts = no_deeper (length ts) (length (drop 1 ts)) (drop_less ts) (g (drop 1 ts)) (a (drop 1 ts))

    pub optional_keeps : (test : W → Bool) (none : X) (g : Grammar W X) → Keeps g → Keeps (optional test none g)
    optional_keeps test none g a = choose_keeps (fronted test) (skip g) (nothing none) (skip_keeps g a) (nothing_keeps none)

    ended_leaves : (test : W → Bool) (n : ℕ) (o : Parse W X) → leaves (λ m n. m ≤ n) n o → leaves (λ m n. m < n) n (then_read o (λ x us. which (fronted test us) (read x (drop 1 us)) (stuck us)))
    ended_leaves test n (read x us) h = which_leaves (λ m n. m < n) n (fronted test us) (read x (drop 1 us)) (stuck us) (λ e. let f = fewer test us e in omega (arith, f, h)) (λ e. tt)
    ended_leaves test n (stuck us) h = tt

    pub ended_shrinks : (g : Grammar W X) (test : W → Bool) → Keeps g → Shrinks (ended g test)
    ended_shrinks g test a ts = ended_leaves test (length ts) (g ts) (a ts)

    module _ (step : Grammar W X → Grammar W X) (a : (g : Grammar W X) → Shrinks g → Shrinks (step g)) where
      level_shrinks : (n : ℕ) → Shrinks (levels step n)
      level_shrinks zero ts = tt
      level_shrinks (suc n) ts = a (levels step n) (level_shrinks n) ts

      pub itself_shrinks : Shrinks (itself step)
      itself_shrinks ts = level_shrinks (suc (length ts)) ts

    module _ (step : Grammar W X → Grammar W X) (a : (g : Grammar W X) → Keeps g → Keeps (step g)) where
      level_keeps : (n : ℕ) → Keeps (levels step n)
      level_keeps zero ts = tt
      level_keeps (suc n) ts = a (levels step n) (level_keeps n) ts

      pub itself_keeps : Keeps (itself step)
      itself_keeps ts = level_keeps (suc (length ts)) ts

module _ {W X : Type 0} where
  pub if_there_keeps : (of : W → Option X) → Keeps (if_there of)
  if_there_keeps of = or_word_keeps (λ w. some_of (of w)) (nothing None) (nothing_keeps {W = W} {X = Option X} None)

-- ## Agreeing on few words

module _ {W : Type 0} where
  pub agree_less : {X : Type 0} (n : ℕ) (g h : Grammar W X) → Agree (suc n) g h → Agree n g h
  agree_less n g h a ts l = a ts (omega (arith, l))

  pub agree_same : {X : Type 0} (n : ℕ) (g : Grammar W X) → Agree n g g
  agree_same n g ts l = refl

  pub or_word_agree : {X : Type 0} (n : ℕ) (of : W → Option X) (g h : Grammar W X) → Agree n g h → Agree n (or_word of g) (or_word of h)
  or_word_agree n of g h a ts l = ap (λ o. word_or (taken of ts) ts o) (a ts l)

  pub choose_agree : {X : Type 0} (n : ℕ) (begins : List W → Bool) (g h p q : Grammar W X) → Agree n g h → Agree n p q → Agree n (choose begins g p) (choose begins h q)
  choose_agree n begins g h p q a b ts l = λ i. which (begins ts) (a ts l i) (b ts l i)

  -- what is behind a word is fewer
  pub form_agree : {X : Type 0} (n : ℕ) (test : W → Bool) (g h p q : Grammar W X) → Agree n g h → Agree (suc n) p q → Agree (suc n) (form test g p) (form test h q)
  form_agree {X} n test g h p q a b ts l = by (fronted test ts) (λ e. a (drop 1 ts) (let f = fewer test ts e in omega (arith, l, f)))
    where
      by : (c : Bool) → (c ≡ true → g (drop 1 ts) ≡ h (drop 1 ts)) → which c (g (drop 1 ts)) (p ts) ≡ which c (h (drop 1 ts)) (q ts)
      by true e = e refl
      by false e = b ts l

  pub after_agree : {X : Type 0} (n : ℕ) (test : W → Bool) (g h : Grammar W X) → Agree n g h → Agree (suc n) (after test g) (after test h)
  after_agree n test g h a = form_agree n test g h nowhere nowhere a (agree_same (suc n) nowhere)

  pub made_agree : {X Y : Type 0} (n : ℕ) (make : X → Y) (g h : Grammar W X) → Agree n g h → Agree n (made make g) (made make h)
  made_agree n make g h a ts l = ap (λ o. then_read o (λ x us. read (make x) us)) (a ts l)

  -- the second part, behind what the first one leaves
  module _ {X Y : Type 0} (n : ℕ) (g h : Grammar W X) (p q : Grammar W Y) where
    seconds : (ts : List W) (o : Parse W X) → ((x : X) (us : List W) → o ≡ read x us → p us ≡ q us) → then_read o (λ x us. then_read (p us) (λ y vs. read (pair x y) vs)) ≡ then_read o (λ x us. then_read (q us) (λ y vs. read (pair x y) vs))
    seconds ts (read x us) e = ap (λ r. then_read r (λ y vs. read (pair x y) vs)) (e x us refl)
    seconds ts (stuck us) e = refl

    pub both_agree : Agree n g h → Keeps g → Agree n p q → Agree n (both g p) (both h q)
    both_agree a k b ts l =
        seconds ts (g ts) (λ x us e. b us (let s = subst (leaves (λ m n. m ≤ n) (length ts)) e (k ts) in omega (arith, l, s)))
        ∙ ap (λ o. then_read o (λ x us. then_read (q us) (λ y vs. read (pair x y) vs))) (a ts l)

    pub both_later : Agree (suc n) g h → Shrinks g → Agree n p q → Agree (suc n) (both g p) (both h q)
    both_later a k b ts l =
        seconds ts (g ts) (λ x us e. b us (let s = subst (leaves (λ m n. m < n) (length ts)) e (k ts) in omega (arith, l, s)))
        ∙ ap (λ o. then_read o (λ x us. then_read (q us) (λ y vs. read (pair x y) vs))) (a ts l)

  pub skip_agree : {X : Type 0} (n : ℕ) (g h : Grammar W X) → Agree n g h → Agree n (skip g) (skip h)
  skip_agree n g h a ts l = a (drop 1 ts) (let f = drop_less ts in omega (arith, l, f))

  pub optional_agree : {X : Type 0} (n : ℕ) (test : W → Bool) (none : X) (g h : Grammar W X) → Agree n g h → Agree n (optional test none g) (optional test none h)
  optional_agree n test none g h a = choose_agree n (fronted test) (skip g) (skip h) (nothing none) (nothing none) (skip_agree n g h a) (agree_same n (nothing none))

  pub ended_agree : {X : Type 0} (n : ℕ) (g h : Grammar W X) (test : W → Bool) → Agree n g h → Agree n (ended g test) (ended h test)
  ended_agree n g h test a ts l = ap (λ o. then_read o (λ x us. which (fronted test us) (read x (drop 1 us)) (stuck us))) (a ts l)

  -- two steps that agree where what they are given does make grammars that agree
  module _ {X : Type 0} (n : ℕ) (step other : Grammar W X → Grammar W X) (a : (g h : Grammar W X) → Agree n g h → Agree n (step g) (other h)) where
    levels_agree : (m : ℕ) → Agree n (levels step m) (levels other m)
    levels_agree zero = agree_same n nowhere
    levels_agree (suc m) = a (levels step m) (levels other m) (levels_agree m)

    pub itself_agree : Agree n (itself step) (itself other)
    itself_agree ts l = levels_agree (suc (length ts)) ts l

-- ## A grammar that speaks of itself is its step over itself

plus : ℕ → ℕ → ℕ
plus zero n = n
plus (suc m) n = suc (plus m n)

between : (m n : ℕ) → m ≤ n → (k : ℕ) × (n ≡ plus m k)
unfolding plus
between zero n l = (n, refl)
between (suc m) zero l = absurd (omega (arith, l))
between (suc m) (suc n) l = let r = between m n (omega (arith, l)) in (r.0, ap suc r.1)

module _ {W X : Type 0} (step : Grammar W X → Grammar W X) (P : Grammar W X → Type 0) (each : (n : ℕ) → P (levels step n)) (agrees : (n : ℕ) (g h : Grammar W X) → P g → Agree n g h → Agree (suc n) (step g) (step h)) where
  enough : (m k : ℕ) → Agree m (levels step m) (levels step (plus m k))
  unfolding plus
  enough zero k ts l = absurd (omega (arith, l))
  enough (suc m) k ts l = agrees m (levels step m) (levels step (plus m k)) (each m) (enough m k) ts l

  more_levels : (n : ℕ) → Agree n (levels step n) (itself step)
  more_levels n us l =
      let r = between (suc (length us)) n l in
      sym (enough (suc (length us)) r.0 us (omega arith) ∙ ap (λ m. levels step m us) (sym r.1))

  unfolds_by : (ts : List W) → itself step ts ≡ step (itself step) ts
  unfolds_by ts = agrees (length ts) (levels step (length ts)) (itself step) (each (length ts)) (more_levels (length ts)) ts (omega arith)

module _ {W X : Type 0} (step : Grammar W X → Grammar W X) (a : Local step) where
  pub unfolds : (ts : List W) → itself step ts ≡ step (itself step) ts
  unfolds ts = unfolds_by step Shrinks (level_shrinks step a.shrinks) a.agrees ts

  pub takes : Shrinks (itself step)
  takes = itself_shrinks step a.shrinks

-- ## Rows, chains and repetitions

abbrev goes : {W X : Type 0} → (W → Bool) → (W → Bool) → Grammar W (List X) → Grammar W (List X)
goes sep stop others = choose (fronted stop) (skip (nothing [])) (after sep others)

module _ {W X : Type 0} (sep stop : W → Bool) where
  goes_agree : (n : ℕ) (others more : Grammar W (List X)) → Agree n others more → Agree n (goes sep stop others) (goes sep stop more)
  goes_agree n others more e =
      choose_agree n (fronted stop) (skip (nothing [])) (skip (nothing [])) (after sep others) (after sep more) (agree_same n (skip (nothing []))) (agree_less n (after sep others) (after sep more) (after_agree n sep others more e))

  row_step_shrinks : (g : Grammar W X) → Shrinks g → (others : Grammar W (List X)) → Shrinks others → Shrinks (row_step g sep stop others)
  row_step_shrinks g a others s =
      made_shrinks put (both g (goes sep stop others)) (both_shrinks g (goes sep stop others) a
      (choose_keeps (fronted stop) (skip (nothing [])) (after sep others) (skip_keeps (nothing {W = W} {X = List X} []) (nothing_keeps {W = W} {X = List X} [])) (keeps (after sep others) (after_shrinks sep others (keeps others s)))))

  pub row_local : (g : Grammar W X) → Shrinks g → Local (row_step g sep stop)
  row_local g a = record {
    shrinks = row_step_shrinks g a;
    agrees = λ n others more s e. made_agree (suc n) put (both g (goes sep stop others)) (both g (goes sep stop more)) (both_later n g g (goes sep stop others) (goes sep stop more) (agree_same (suc n) g) a (goes_agree n others more e));
  }

  pub row_unfolds : (g : Grammar W X) → Shrinks g → (ts : List W) → row g sep stop ts ≡ row_step g sep stop (row g sep stop) ts
  row_unfolds g a ts = unfolds (row_step g sep stop) (row_local g a) ts

  pub row_shrinks : (g : Grammar W X) → Shrinks g → Shrinks (row g sep stop)
  row_shrinks g a = takes (row_step g sep stop) (row_local g a)

  pub row_agree : (n : ℕ) (g h : Grammar W X) → Keeps g → Agree n g h → Agree n (row g sep stop) (row h sep stop)
  row_agree n g h k e =
      itself_agree n (row_step g sep stop) (row_step h sep stop)
      (λ others more a. made_agree n put (both g (goes sep stop others)) (both h (goes sep stop more)) (both_agree n g h (goes sep stop others) (goes sep stop more) e k (goes_agree n others more a)))

  pub listed_shrinks : (g : Grammar W X) → Shrinks g → Shrinks (listed g sep stop)
  listed_shrinks g a = form_shrinks stop (nothing []) (row g sep stop) (nothing_keeps {W = W} {X = List X} []) (row_shrinks g a)

  pub listed_agree : (n : ℕ) (g h : Grammar W X) → Keeps g → Agree n g h → Agree n (listed g sep stop) (listed h sep stop)
  listed_agree n g h k e = choose_agree n (fronted stop) (skip (nothing [])) (skip (nothing [])) (row g sep stop) (row h sep stop) (agree_same n (skip (nothing []))) (row_agree n g h k e)

module _ {W X : Type 0} (sep : W → Bool) where
  pub chain_local : (g : Grammar W X) → Shrinks g → Local (chain_step g sep)
  chain_local g a = record {
    shrinks = λ others s. made_shrinks put (both g (optional sep [] others)) (both_shrinks g (optional sep [] others) a (optional_keeps sep [] others (keeps others s)));
    agrees = λ n others more s e. made_agree (suc n) put (both g (optional sep [] others)) (both g (optional sep [] more)) (both_later n g g (optional sep [] others) (optional sep [] more) (agree_same (suc n) g) a (optional_agree n sep [] others more e));
  }

  pub chain_unfolds : (g : Grammar W X) → Shrinks g → (ts : List W) → chain g sep ts ≡ chain_step g sep (chain g sep) ts
  chain_unfolds g a ts = unfolds (chain_step g sep) (chain_local g a) ts

  pub chain_shrinks : (g : Grammar W X) → Shrinks g → Shrinks (chain g sep)
  chain_shrinks g a = takes (chain_step g sep) (chain_local g a)

  pub chain_agree : (n : ℕ) (g h : Grammar W X) → Keeps g → Agree n g h → Agree n (chain g sep) (chain h sep)
  chain_agree n g h k e =
      itself_agree n (chain_step g sep) (chain_step h sep)
      (λ others more a. made_agree n put (both g (optional sep [] others)) (both h (optional sep [] more)) (both_agree n g h (optional sep [] others) (optional sep [] more) e k (optional_agree n sep [] others more a)))

module _ {W X : Type 0} (begins : List W → Bool) where
  repeated_step_keeps : (g : Grammar W X) → Shrinks g → (others : Grammar W (List X)) → Keeps others → Keeps (repeated_step begins g others)
  repeated_step_keeps g a others s =
      choose_keeps begins (made put (both g others)) (nothing []) (keeps (made put (both g others)) (made_shrinks put (both g others) (both_shrinks g others a s))) (nothing_keeps {W = W} {X = List X} [])

  pub repeated_keeps : (g : Grammar W X) → Shrinks g → Keeps (repeated begins g)
  repeated_keeps g a = itself_keeps (repeated_step begins g) (repeated_step_keeps g a)

  pub repeated_unfolds : (g : Grammar W X) → Shrinks g → (ts : List W) → repeated begins g ts ≡ repeated_step begins g (repeated begins g) ts
  repeated_unfolds g a ts =
      unfolds_by (repeated_step begins g) (λ others. Unit {0}) (λ n. tt)
      (λ n others more s e. choose_agree (suc n) begins (made put (both g others)) (made put (both g more)) (nothing []) (nothing [])
      (made_agree (suc n) put (both g others) (both g more) (both_later n g g others more (agree_same (suc n) g) a e)) (agree_same (suc n) (nothing [])))
      ts

  pub repeated_agree : (n : ℕ) (g h : Grammar W X) → Keeps g → Agree n g h → Agree n (repeated begins g) (repeated begins h)
  repeated_agree n g h k e =
      itself_agree n (repeated_step begins g) (repeated_step begins h)
      (λ others more a. choose_agree n begins (made put (both g others)) (made put (both h more)) (nothing []) (nothing [])
      (made_agree n put (both g others) (both h more) (both_agree n g h others more e k a)) (agree_same n (nothing [])))

-- ## Forms by their first word

module _ {W : Type 0} (X : Type 0) where
  -- each of these forms leaves no more words than there were
  abbrev pub AllKeep : List ((W → Bool) × (List W → Parse W X)) → Type 0
  AllKeep [] = Unit {0}
  AllKeep ((test, g) ∷ others) = Keeps g × AllKeep others

  pub forms_shrinks : (fs : List ((W → Bool) × (List W → Parse W X))) → AllKeep fs → Shrinks (forms fs)
  forms_shrinks [] h = nowhere_shrinks X
  forms_shrinks ((test, g) ∷ others) h = form_shrinks test g (forms others) h.0 (forms_shrinks others h.1)

  -- these forms agree one by one, on fewer words than n
  abbrev pub AllAgree : ℕ → List ((W → Bool) × (List W → Parse W X)) → List ((W → Bool) × (List W → Parse W X)) → Type 0
  AllAgree n [] [] = Unit {0}
  AllAgree n ((test, g) ∷ others) ((test', h) ∷ others') = (test ≡ test') × Agree n g h × AllAgree n others others'
  AllAgree n fs hs = ⊥

  pub forms_agree : (n : ℕ) (fs hs : List ((W → Bool) × (List W → Parse W X))) → AllAgree n fs hs → Agree (suc n) (forms fs) (forms hs)
  forms_agree n [] [] e = agree_same (suc n) (nowhere {W = W} {X = X})
  forms_agree n [] (h ∷ hs) e = absurd e
  forms_agree n (f ∷ fs) [] e = absurd e
  forms_agree n ((test, g) ∷ fs) ((test', h) ∷ hs) e =
      subst (λ (t : W → Bool). Agree (suc n) (form test g (forms fs)) (form t h (forms hs))) e.0 (form_agree n test g h (forms fs) (forms hs) e.1 (forms_agree n fs hs e.2))
