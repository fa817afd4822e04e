-- What is needed of the declarations that stand in one place: it goes on by itself where no other declaration needs these.
use Rattle.std.proofs.Common.{◌≡◌, ◌∙◌, ℕ, zero, suc, ◌+◌, Bool, true, false, List, [], ◌∷◌, ◌++◌, map, Option, Some, None, refl, sym, ap, arith}
use Rattle.std.specs.Prelude.{if◌then◌else◌, ◌&&◌, ◌||◌, nat_eq, option_map}
use Rattle.std.proofs.lemmas.Bool.Decides.{nat_tests}
use Rattle.go_tokens.specs.Tokens.{TokenList}
use Rattle.go_tree.specs.Declarations.{Found}
use Rattle.go_tree.specs.Lookups.{Asked}
use Rattle.go_tree.specs.Meanings.{Meaning}
use Rattle.go_tree.specs.Needs.{Needed, if_so, way, needed_source, needed_meaning, needs, is_same, needs_of, is_among, same_way, is_known, with_one, with_all, all_needed, needs_itself}
use Rattle.go_scopes_cycles.specs.Needs.{source_of}
use Rattle.go_heads.specs.Names.{in_file}
use Rattle.go_heads.proofs.Public.{Every, every_append, eq_moved}

-- ---- lists

nothing_behind : {A : Type 0} (xs : List A) → xs ++ [] ≡ xs
nothing_behind [] = refl
nothing_behind (x ∷ xs) = ap (λ ys. x ∷ ys) (nothing_behind xs)

map_append : {A B : Type 0} (f : A → B) (xs ys : List A) → map f (xs ++ ys) ≡ map f xs ++ map f ys
map_append f [] ys = refl
map_append f (x ∷ xs) ys = ap (λ zs. f x ∷ zs) (map_append f xs ys)

same_head : {A : Type 0} (x y : A) (xs ys : List A) → x ∷ xs ≡ y ∷ ys → x ≡ y
same_head x y xs ys e = cc

same_rest : {A : Type 0} (x y : A) (xs ys : List A) → x ∷ xs ≡ y ∷ ys → xs ≡ ys
same_rest x y xs ys e = cc

-- ---- what names add

-- what a name adds, which calls for this declaration and is needed in this way
abbrev pub adds : Option Bool → Option Found → List Needed → List Needed
adds None o ns = ns
adds (Some f) o ns = needed_source f o ns

pub adds_meaning : (w : Option Bool) (m : Option Meaning) (ns : List Needed) → needed_meaning w m ns ≡ adds w (source_of m) ns
adds_meaning None m ns = refl
adds_meaning (Some f) None ns = refl
adds_meaning (Some f) (Some m) ns = refl

pub adds_none : (w : Option Bool) (ns : List Needed) → adds w None ns ≡ ns
adds_none None ns = refl
adds_none (Some f) ns = refl

-- what some declarations need holds of a list of names and of another one
pub needs_both : (xs ys : List Asked) (x : Needed) → needs (xs ++ ys) x ≡ needs xs x ++ needs ys x
needs_both [] ys x = refl
needs_both (a ∷ xs) ys x =
    let w : Option Bool = if_so (nat_eq a.file x.it.file) (way x.it.it x.full a.it.site) in
    ap (needed_meaning w a.meaning) (needs_both xs ys x) ∙ by w a.meaning
  where
    by : (w : Option Bool) (m : Option Meaning) → needed_meaning w m (needs xs x ++ needs ys x) ≡ needed_meaning w m (needs xs x) ++ needs ys x
    by None m = refl
    by (Some f) None = refl
    by (Some f) (Some m) = source m.source
      where
        source : (s : Option Found) → needed_source f s (needs xs x ++ needs ys x) ≡ needed_source f s (needs xs x) ++ needs ys x
        source None = refl
        source (Some d) = refl

-- ---- the declarations of one place

module _ (mine : Found → Bool) where
  -- those of what is needed that stand there
  abbrev pub held : List Needed → List Needed
  held [] = []
  held (x ∷ xs) = if mine x.it then x ∷ held xs else held xs

  abbrev pub held_source : Option Found → Option Found
  held_source None = None
  held_source (Some d) = if mine d then Some d else None

  pub held_append : (xs ys : List Needed) → held (xs ++ ys) ≡ held xs ++ held ys
  held_append [] ys = refl
  held_append (x ∷ xs) ys = by (mine x.it) (held_append xs ys)
    where
      by : (b : Bool) → held (xs ++ ys) ≡ held xs ++ held ys → (if b then x ∷ held (xs ++ ys) else held (xs ++ ys)) ≡ (if b then x ∷ held xs else held xs) ++ held ys
      by true e = ap (λ zs. x ∷ zs) e
      by false e = e

  pub held_adds : (w : Option Bool) (o : Option Found) (ns : List Needed) → held (adds w o ns) ≡ adds w (held_source o) (held ns)
  held_adds None o ns = refl
  held_adds (Some f) None ns = refl
  held_adds (Some f) (Some d) ns = by (mine d)
    where
      by : (b : Bool) → (if b then record { it = d; full = f } ∷ held ns else held ns) ≡ needed_source f (if b then Some d else None) (held ns)
      by true = refl
      by false = refl

  module _ (respects : (d x : Found) → is_same d x ≡ true → mine d ≡ mine x) where
    other : (d x : Found) → mine d ≡ true → mine x ≡ false → is_same d x ≡ false
    other d x e f = by (is_same d x) refl
      where
        by : (b : Bool) → is_same d x ≡ b → b ≡ false
        by true s = let z : true ≡ false = sym e ∙ respects d x s ∙ f in cc
        by false s = refl

    known_held : (y : Needed) → mine y.it ≡ true → (xs : List Needed) → is_known y xs ≡ is_known y (held xs)
    known_held y m [] = refl
    known_held y m (x ∷ xs) = by (mine x.it) refl (known_held y m xs)
      where
        by : (b : Bool) → mine x.it ≡ b → is_known y xs ≡ is_known y (held xs) → ((is_same y.it x.it && same_way y.full x.full) || is_known y xs) ≡ is_known y (if b then x ∷ held xs else held xs)
        by true e g = ap (λ z. (is_same y.it x.it && same_way y.full x.full) || z) g
        by false e g = ap (λ z. (z && same_way y.full x.full) || is_known y xs) (other y.it x.it m e) ∙ g

    pub among_held : (d : Found) → mine d ≡ true → (xs : List Needed) → is_among d xs ≡ is_among d (held xs)
    among_held d m [] = refl
    among_held d m (x ∷ xs) = by (mine x.it) refl (among_held d m xs)
      where
        by : (b : Bool) → mine x.it ≡ b → is_among d xs ≡ is_among d (held xs) → (is_same d x.it || is_among d xs) ≡ is_among d (if b then x ∷ held xs else held xs)
        by true e g = ap (λ z. is_same d x.it || z) g
        by false e g = ap (λ z. z || is_among d xs) (other d x.it m e) ∙ g

    one_held : (y : Needed) (xs : List Needed) → held (with_one y xs) ≡ (if mine y.it then with_one y (held xs) else held xs)
    one_held y xs = either (is_known y xs) ∙ by (mine y.it) refl
      where
        either : (c : Bool) → held (if c then xs else xs ++ y ∷ []) ≡ (if c then held xs else held xs ++ (if mine y.it then y ∷ [] else []))
        either true = refl
        either false = held_append xs (y ∷ [])

        same : (c : Bool) → (if c then held xs else held xs ++ []) ≡ held xs
        same true = refl
        same false = nothing_behind (held xs)

        by : (b : Bool) → mine y.it ≡ b → (if is_known y xs then held xs else held xs ++ (if b then y ∷ [] else [])) ≡ (if b then with_one y (held xs) else held xs)
        by true e = ap (λ c. if c then held xs else held xs ++ y ∷ []) (known_held y e xs)
        by false e = same (is_known y xs)

    all_held : (ys xs : List Needed) → held (with_all ys xs) ≡ with_all (held ys) (held xs)
    all_held [] xs = refl
    all_held (y ∷ ys) xs = all_held ys (with_one y xs) ∙ ap (with_all (held ys)) (one_held y xs) ∙ by (mine y.it)
      where
        by : (b : Bool) → with_all (held ys) (if b then with_one y (held xs) else held xs) ≡ with_all (if b then y ∷ held ys else held ys) (held xs)
        by true = refl
        by false = refl

-- ---- so many tokens further on

abbrev pub AreOwn : List Needed → Type 0
AreOwn = Every (λ x. x.it.file ≡ 0)

own_one : (y : Needed) (xs : List Needed) → y.it.file ≡ 0 → AreOwn xs → AreOwn (with_one y xs)
own_one y xs e h = by (is_known y xs)
  where
    by : (b : Bool) → AreOwn (if b then xs else xs ++ y ∷ [])
    by true = h
    by false = every_append (λ x. x.it.file ≡ 0) xs (y ∷ []) h (e, tt)

own_all : (ys xs : List Needed) → AreOwn ys → AreOwn xs → AreOwn (with_all ys xs)
own_all [] xs h g = g
own_all (y ∷ ys) xs h g = own_all ys (with_one y xs) h.1 (own_one y xs h.0 g)

module _ (n a : ℕ) (l : TokenList) where
  abbrev pub lifted : Needed → Needed
  lifted x = record { it = in_file n l a x.it; full = x.full }

  same_up : (d x : Found) → d.file ≡ 0 → x.file ≡ 0 → is_same (in_file n l a d) (in_file n l a x) ≡ is_same d x
  same_up d x e f =
      let z : nat_eq n n ≡ nat_eq d.file x.file = let y : nat_eq n n ≡ true = grind (arith, nat_tests) in let k : nat_eq d.file x.file ≡ true = grind (arith, nat_tests) in y ∙ sym k in
      ap (λ b. b && nat_eq (a + d.it.name) (a + x.it.name)) z ∙ ap (λ b. nat_eq d.file x.file && b) (eq_moved a d.it.name x.it.name)

  known_up : (y : Needed) (xs : List Needed) → y.it.file ≡ 0 → AreOwn xs → is_known (lifted y) (map lifted xs) ≡ is_known y xs
  known_up y [] e h = refl
  known_up y (x ∷ xs) e h =
      ap (λ b. (b && same_way y.full x.full) || is_known (lifted y) (map lifted xs)) (same_up y.it x.it e h.0)
      ∙ ap (λ b. (is_same y.it x.it && same_way y.full x.full) || b) (known_up y xs e h.1)

  pub among_up : (d : Found) (xs : List Needed) → d.file ≡ 0 → AreOwn xs → is_among (in_file n l a d) (map lifted xs) ≡ is_among d xs
  among_up d [] e h = refl
  among_up d (x ∷ xs) e h =
      ap (λ b. b || is_among (in_file n l a d) (map lifted xs)) (same_up d x.it e h.0) ∙ ap (λ b. is_same d x.it || b) (among_up d xs e h.1)

  one_up : (y : Needed) (xs : List Needed) → y.it.file ≡ 0 → AreOwn xs → with_one (lifted y) (map lifted xs) ≡ map lifted (with_one y xs)
  one_up y xs e h = ap (λ b. if b then map lifted xs else map lifted xs ++ lifted y ∷ []) (known_up y xs e h) ∙ by (is_known y xs)
    where
      by : (b : Bool) → (if b then map lifted xs else map lifted xs ++ lifted y ∷ []) ≡ map lifted (if b then xs else xs ++ y ∷ [])
      by true = refl
      by false = sym (map_append lifted xs (y ∷ []))

  all_up : (ys xs : List Needed) → AreOwn ys → AreOwn xs → with_all (map lifted ys) (map lifted xs) ≡ map lifted (with_all ys xs)
  all_up [] xs h g = refl
  all_up (y ∷ ys) xs h g = ap (with_all (map lifted ys)) (one_up y xs h.0 g) ∙ all_up ys (with_one y xs) h.1 (own_one y xs h.0 g)

  pub adds_up : (w : Option Bool) (o : Option Found) (ns : List Needed) → adds w (option_map (in_file n l a) o) (map lifted ns) ≡ map lifted (adds w o ns)
  adds_up None o ns = refl
  adds_up (Some f) None ns = refl
  adds_up (Some f) (Some d) ns = refl

  -- ---- rounds

  -- Names of a package, and those of one of its functions by itself. What a declaration of the function needs of the function's own
  -- ones, it needs by itself; and no other declaration needs one of these.
  pub record GoesOn (mine : Found → Bool) (asks own : List Asked) (Good : Found → Type 0) : Type 0 where
    pub respects : (d x : Found) → is_same d x ≡ true → mine d ≡ mine x
    pub good : (x : Needed) → Every (λ y. Good y.it) (needs asks x)
    pub owned : (x : Needed) → AreOwn (needs own x)
    pub inside : (x : Needed) → x.it.file ≡ 0 → held mine (needs asks (lifted x)) ≡ map lifted (needs own x)
    pub beside : (x : Needed) → Good x.it → mine x.it ≡ false → held mine (needs asks x) ≡ []

  module _ (mine : Found → Bool) (asks own : List Asked) (Good : Found → Type 0) (goes : GoesOn mine asks own Good) where
    abbrev AreGood : List Needed → Type 0
    AreGood = Every (λ y. Good y.it)

    good_of : (xs : List Needed) → AreGood (needs_of asks xs)
    good_of [] = tt
    good_of (x ∷ xs) = every_append (λ y. Good y.it) (needs asks x) (needs_of asks xs) (goes.good x) (good_of xs)

    good_all : (ys xs : List Needed) → AreGood ys → AreGood xs → AreGood (with_all ys xs)
    good_all [] xs h g = g
    good_all (y ∷ ys) xs h g = good_all ys (with_one y xs) h.1 (by (is_known y xs))
      where
        by : (b : Bool) → AreGood (if b then xs else xs ++ y ∷ [])
        by true = g
        by false = every_append (λ z. Good z.it) xs (y ∷ []) g (h.0, tt)

    own_of : (xs : List Needed) → AreOwn (needs_of own xs)
    own_of [] = tt
    own_of (x ∷ xs) = every_append (λ y. y.it.file ≡ 0) (needs own x) (needs_of own xs) (goes.owned x) (own_of xs)

    round : (xs ys : List Needed) → AreGood xs → AreOwn ys → held mine xs ≡ map lifted ys → held mine (needs_of asks xs) ≡ map lifted (needs_of own ys)
    round [] [] g h e = refl
    round [] (y ∷ ys) g h e = cc
    round (x ∷ xs) ys g h e = held_append mine (needs asks x) (needs_of asks xs) ∙ by (mine x.it) refl ys h e (λ ys h e. round xs ys g.1 h e)
      where
        by : (b : Bool) → mine x.it ≡ b → (ys : List Needed) → AreOwn ys → (if b then x ∷ held mine xs else held mine xs) ≡ map lifted ys
            → ((ys : List Needed) → AreOwn ys → held mine xs ≡ map lifted ys → held mine (needs_of asks xs) ≡ map lifted (needs_of own ys))
            → held mine (needs asks x) ++ held mine (needs_of asks xs) ≡ map lifted (needs_of own ys)
        by false m ys h e go = ap (λ zs. zs ++ held mine (needs_of asks xs)) (goes.beside x g.0 m) ∙ go ys h e
        by true m [] h e go = cc
        by true m (y ∷ ys) h e go =
            let here : x ≡ lifted y = same_head x (lifted y) (held mine xs) (map lifted ys) e in
            let rest : held mine xs ≡ map lifted ys = same_rest x (lifted y) (held mine xs) (map lifted ys) e in
            ap (λ z. held mine (needs asks z) ++ held mine (needs_of asks xs)) here
            ∙ ap (λ zs. zs ++ held mine (needs_of asks xs)) (goes.inside y h.0)
            ∙ ap (λ zs. map lifted (needs own y) ++ zs) (go ys h.1 rest)
            ∙ sym (map_append lifted (needs own y) (needs_of own ys))

    own_rounds : (k : ℕ) (ys : List Needed) → AreOwn ys → AreOwn (all_needed own k ys)
    own_rounds zero ys h = h
    own_rounds (suc k) ys h = own_rounds k (with_all (needs_of own ys) ys) (own_all (needs_of own ys) ys (own_of ys) h)

    rounds : (k : ℕ) (xs ys : List Needed) → AreGood xs → AreOwn ys → held mine xs ≡ map lifted ys → held mine (all_needed asks k xs) ≡ map lifted (all_needed own k ys)
    rounds zero xs ys g h e = e
    rounds (suc k) xs ys g h e =
        rounds k (with_all (needs_of asks xs) xs) (with_all (needs_of own ys) ys) (good_all (needs_of asks xs) xs (good_of xs) g) (own_all (needs_of own ys) ys (own_of ys) h)
        (all_held mine goes.respects (needs_of asks xs) xs
        ∙ ap (λ zs. with_all zs (held mine xs)) (round xs ys g h e)
        ∙ ap (with_all (map lifted (needs_of own ys))) e
        ∙ all_up (needs_of own ys) ys (own_of ys) h)

    -- A declaration of the function needs itself in the package where it does by itself, in as many rounds.
    pub itself_same : (k : ℕ) (d : Found) → d.file ≡ 0 → mine (in_file n l a d) ≡ true → needs_itself asks k (in_file n l a d) ≡ needs_itself own k d
    itself_same k d e m =
        let first : Needed = record { it = d; full = false } in
        let there : List Needed = with_all (needs asks (lifted first)) [] in
        let here : List Needed = with_all (needs own first) [] in
        let begun : held mine there ≡ map lifted here = all_held mine goes.respects (needs asks (lifted first)) [] ∙ ap (λ zs. with_all zs []) (goes.inside first e) ∙ all_up (needs own first) [] (goes.owned first) tt in
        let owned : AreOwn here = own_all (needs own first) [] (goes.owned first) tt in
        among_held mine goes.respects (in_file n l a d) m (all_needed asks k there)
        ∙ ap (is_among (in_file n l a d)) (rounds k there here (good_all (needs asks (lifted first)) [] (goes.good (lifted first)) tt) owned begun)
        ∙ among_up d (all_needed own k here) e (own_rounds k here owned)
