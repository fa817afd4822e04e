-- Statements made of parts that follow one another: each way to put them together, with the scopes behind each part and what
-- the windows in them cost.
use Rattle.std.proofs.Common.{◌≡◌, ℕ, zero, suc, ◌+◌, ◌≤◌, List, [], ◌∷◌, ◌++◌, sym, subst, arith, take, drop}
use Rattle.go_meaning.specs.Values.{Value, nth, is_true}
use Rattle.go_meaning.specs.Computations.{World, Next, Comp, give, then_do, one, looped, spend, choose, each, falling, over}
use Rattle.go_meaning.specs.Operations.{Items, Item, operate, item_count}
use Rattle.go_meaning.specs.Doings.{Doing, values_of, finds_of, stores, assigned, selected, loop, iterated}
use Rattle.go_meaning.proofs.Public.{Grows, AllGrow, Grown, AllGrown, give_grows, choose_grows, each_grows, finds_grow, stores_grow, assigned_rest_grows, selected_grows}
use Rattle.go_meaning_simulation.specs.Likeness.{Likeness}
use Rattle.go_meaning_simulation.proofs.Following.{Frames, Exits, in_loop, in_clause, Follows, weaker, end_follows, operate_follows, then_follows, looped_follows, clause_follows, spend_follows, choose_follows, over_follows}

module _ (L : Likeness) (a p q : ℕ) where
  abbrev pub F : Frames → Frames → Exits → ℕ → Comp → Comp → Type 0
  F R T X m c c' = Follows L a p q R T X m c c'

  -- computations that are the same at each state
  pub same_states : (R T : Frames) (X : Exits) (m : ℕ) (c d c' d' : Comp) → ((n : ℕ) (f : List Value) (w : World) (t : ℕ) → c n f w t ≡ d n f w t) → ((n : ℕ) (f : List Value) (w : World) (t : ℕ) → c' n f w t ≡ d' n f w t) → F R T X m c c' → F R T X m d d'
  same_states R T X m c d c' d' e e' h = subst (λ x. F R T X m x d') (λ i n f w t. e n f w t i) (subst (λ x. F R T X m c x) (λ i n f w t. e' n f w t i) h)

  pub nothing_follows : (R T : Frames) (X : Exits) (m : ℕ) → ((f f' : List Value) → R f f' → T f f') → F R T X m (give []) (give [])
  nothing_follows R T X m weak = end_follows L a p q R T X m (Next []) [] L.nothing weak

  pub one_follows : (R S T : Frames) (X : Exits) (m m1 m2 : ℕ) (c c' : Comp) (k k' : Value → Comp) → m1 + m2 ≤ m → F R S X m1 c c' → ((v : Value) → Grows (k' v)) → ((v v' : Value) → L.values (v ∷ []) (v' ∷ []) → F S T X m2 (k v) (k' v')) → F R T X m (one c k) (one c' k')
  one_follows R S T X m m1 m2 c c' k k' le h hg hk = then_follows L a p q R S T X m m1 m2 c c' (λ vs. k (nth vs 0)) (λ vs. k' (nth vs 0)) le h (λ vs. hg (nth vs 0)) (λ vs vs' e. hk (nth vs 0) (nth vs' 0) (L.picks 0 vs vs' e))

  abbrev pub AllF : Frames → Exits → List Comp → List Comp → Type 0
  AllF R X [] [] = Unit {0}
  AllF R X (c ∷ cs) [] = ⊥
  AllF R X [] (c' ∷ cs') = ⊥
  AllF R X (c ∷ cs) (c' ∷ cs') = F R R X 0 c c' × AllF R X cs cs'

  all_grow : (R : Frames) (X : Exits) (cs cs' : List Comp) → AllF R X cs cs' → AllGrow cs'
  all_grow R X [] [] h = tt
  all_grow R X (c ∷ cs) [] h = absurd h
  all_grow R X [] (c' ∷ cs') h = absurd h
  all_grow R X (c ∷ cs) (c' ∷ cs') h = (h.0.grows, all_grow R X cs cs' h.1)

  -- values, and then something else with them
  pub each_follows : (R T : Frames) (X : Exits) (m : ℕ) (cs cs' : List Comp) (k k' : List Value → Comp) → AllF R X cs cs' → ((vs : List Value) → Grows (k' vs)) → ((vs vs' : List Value) → L.values vs vs' → F R T X m (k vs) (k' vs')) → F R T X m (each cs k) (each cs' k')
  unfolding each
  each_follows R T X m [] [] k k' h hg hk = hk [] [] L.nothing
  each_follows R T X m (c ∷ cs) [] k k' h hg hk = absurd h
  each_follows R T X m [] (c' ∷ cs') k k' h hg hk = absurd h
  each_follows R T X m (c ∷ cs) (c' ∷ cs') k k' h hg hk =
      then_follows L a p q R R T X m 0 m c c' (λ us. each cs (λ vs. k (us ++ vs))) (λ us. each cs' (λ vs. k' (us ++ vs))) (omega arith) h.0
      (λ us. each_grows cs' (λ vs. k' (us ++ vs)) (all_grow R X cs cs' h.1) (λ vs. hg (us ++ vs)))
      (λ us us' u. each_follows R T X m cs cs' (λ vs. k (us ++ vs)) (λ vs. k' (us' ++ vs)) h.1 (λ vs. hg (us' ++ vs)) (λ vs vs' e. hk (us ++ vs) (us' ++ vs') (L.joins us us' vs vs' u e)))

  -- ---- `if`

  pub branch_follows : (R S T : Frames) (X : Exits) (m : ℕ) (first first' cond cond' block block' other other' : Comp) → F R S X 0 first first' → F S S X 0 cond cond' → F S T X m block block' → F S T X m other other' →
      F R T X m (then_do first (λ no. one cond (λ v. choose (is_true v) block other))) (then_do first' (λ no. one cond' (λ v. choose (is_true v) block' other')))
  branch_follows R S T X m first first' cond cond' block block' other other' hf hc hb ho =
      let inner : F S T X m (one cond (λ v. choose (is_true v) block other)) (one cond' (λ v. choose (is_true v) block' other')) =
      one_follows S S T X m 0 m cond cond' (λ v. choose (is_true v) block other) (λ v. choose (is_true v) block' other') (omega arith) hc (λ v. choose_grows (is_true v) block' other' hb.grows ho.grows)
      (λ v v' e. choose_follows L a p q S T X m (is_true v) (is_true v') block block' other other' (L.truths v v' e) hb ho) in
      then_follows L a p q R S T X m 0 m first first' (λ no. one cond (λ v. choose (is_true v) block other)) (λ no. one cond' (λ v. choose (is_true v) block' other')) (omega arith) hf (λ no. inner.grows) (λ no no' e. inner)

  -- ---- loops

  pub loop_follows : (R S T : Frames) (X : Exits) (mb : ℕ) (first first' cond cond' block block' post post' again again' : Comp) → mb + 1 ≤ a → ((f f' : List Value) → S f f' → T f f') → F R S X 0 first first' → F S S X 0 cond cond' → F S S (in_loop X S) mb block block' → F S S X 0 post post' → F S T X 0 again again' →
      F R T X 0 (loop first cond block post again) (loop first' cond' block' post' again')
  loop_follows R S T X mb first first' cond cond' block block' post post' again again' le weak hf hc hb hp ha =
      let rest : F S T X 0 (then_do post (λ no1. again)) (then_do post' (λ no1. again')) = then_follows L a p q S S T X 0 0 0 post post' (λ no1. again) (λ no1. again') (omega arith) hp (λ no1. ha.grows) (λ no no' e. ha) in
      let round : F S T X mb (looped block (then_do post (λ no1. again))) (looped block' (then_do post' (λ no1. again'))) = looped_follows L a p q S S T X mb mb 0 block block' (then_do post (λ no1. again)) (then_do post' (λ no1. again')) weak (omega arith) hb rest in
      let turn : F S T X 0 (spend (looped block (then_do post (λ no1. again)))) (spend (looped block' (then_do post' (λ no1. again')))) = spend_follows L a p q S T X 0 mb (looped block (then_do post (λ no1. again))) (looped block' (then_do post' (λ no1. again'))) (omega (arith, le)) round in
      let whole : F S T X 0 (one cond (λ v. choose (is_true v) (spend (looped block (then_do post (λ no1. again)))) (give []))) (one cond' (λ v. choose (is_true v) (spend (looped block' (then_do post' (λ no1. again')))) (give []))) =
      one_follows S S T X 0 0 0 cond cond' (λ v. choose (is_true v) (spend (looped block (then_do post (λ no1. again)))) (give [])) (λ v. choose (is_true v) (spend (looped block' (then_do post' (λ no1. again')))) (give [])) (omega arith) hc
      (λ v. choose_grows (is_true v) (spend (looped block' (then_do post' (λ no1. again')))) (give []) turn.grows (give_grows []))
      (λ v v' e. choose_follows L a p q S T X 0 (is_true v) (is_true v') (spend (looped block (then_do post (λ no1. again)))) (spend (looped block' (then_do post' (λ no1. again')))) (give []) (give []) (L.truths v v' e) turn (nothing_follows S T X 0 weak)) in
      then_follows L a p q R S T X 0 0 0 first first' (λ no. one cond (λ v. choose (is_true v) (spend (looped block (then_do post (λ no1. again)))) (give []))) (λ no. one cond' (λ v. choose (is_true v) (spend (looped block' (then_do post' (λ no1. again')))) (give []))) (omega arith) hf (λ no. whole.grows) (λ no no' e. whole)

  -- ---- places that get values, in scopes that grow

  -- A place that is found in frames of R and written in frames of S, to frames of T.
  pub record Target (R : Frames) (X : Exits) (S T : Frames) (x x' : Doing) : Type 0 where
    pub grown : Grown x'
    pub width : x'.width ≡ x.width
    pub find : F R R X 0 x.find x'.find
    pub store : (us us' : List Value) (v v' : Value) → L.values us us' → L.values (v ∷ []) (v' ∷ []) → F S T X 0 (x.store us v) (x'.store us' v')

  -- Places that are found in frames of R and written one after the other from frames of S on, to frames of T.
  pub data Stored (R : Frames) (X : Exits) : Frames → Frames → List Doing → List Doing → Type 1 where
    none : {S : Frames} → Stored R X S S [] []
    more : {S S1 T : Frames} {x x' : Doing} {xs xs' : List Doing} → Target R X S S1 x x' → Stored R X S1 T xs xs' → Stored R X S T (x ∷ xs) (x' ∷ xs')

  pub stored_grown : {R : Frames} {X : Exits} {S T : Frames} {xs xs' : List Doing} → Stored R X S T xs xs' → AllGrown xs'
  stored_grown none = tt
  stored_grown (more h hs) = (h.grown, stored_grown hs)

  pub stores_follow : {R : Frames} {X : Exits} {S T : Frames} {xs xs' : List Doing} → Stored R X S T xs xs' → (us us' vs vs' : List Value) → L.values us us' → L.values vs vs' → F S T X 0 (stores xs us vs) (stores xs' us' vs')
  unfolding stores
  stores_follow (none {S = S}) us us' vs vs' u e = nothing_follows S S _ 0 (λ f f' r. r)
  stores_follow {X = X} (more {S = S} {S1 = S1} {T = T} {x = x} {x' = x'} {xs = xs} {xs' = xs'} h hs) us us' vs vs' u e =
      then_follows L a p q S S1 T X 0 0 0 (x.store (take x.width us) (nth vs 0)) (x'.store (take x'.width us') (nth vs' 0)) (λ no. stores xs (drop x.width us) (drop 1 vs)) (λ no. stores xs' (drop x'.width us') (drop 1 vs')) (omega arith)
      (h.store (take x.width us) (take x'.width us') (nth vs 0) (nth vs' 0) (subst (λ n. L.values (take x.width us) (take n us')) (sym h.width) (L.fronts x.width us us' u)) (L.picks 0 vs vs' e))
      (λ no. stores_grow xs' (stored_grown hs) (drop x'.width us') (drop 1 vs'))
      (λ no no' k. stores_follow hs (drop x.width us) (drop x'.width us') (drop 1 vs) (drop 1 vs') (subst (λ n. L.values (drop x.width us) (drop n us')) (sym h.width) (L.rests x.width us us' u)) (L.rests 1 vs vs' e))

  finds_follow : {R : Frames} {X : Exits} {S T : Frames} {xs xs' : List Doing} → Stored R X S T xs xs' → (U : Frames) (k k' : List Value → Comp) → ((us : List Value) → Grows (k' us)) → ((us us' : List Value) → L.values us us' → F R U X 0 (k us) (k' us')) → F R U X 0 (each (finds_of xs) k) (each (finds_of xs') k')
  unfolding each
  finds_follow none U k k' hg hk = hk [] [] L.nothing
  finds_follow {R = R} {X = X} (more {x = x} {x' = x'} {xs = xs} {xs' = xs'} h hs) U k k' hg hk =
      then_follows L a p q R R U X 0 0 0 x.find x'.find (λ us. each (finds_of xs) (λ vs. k (us ++ vs))) (λ us. each (finds_of xs') (λ vs. k' (us ++ vs))) (omega arith) h.find
      (λ us. each_grows (finds_of xs') (λ vs. k' (us ++ vs)) (finds_grow xs' (stored_grown hs)) (λ vs. hg (us ++ vs)))
      (λ us us' u. finds_follow hs U (λ vs. k (us ++ vs)) (λ vs. k' (us' ++ vs)) (λ vs. hg (us' ++ vs)) (λ vs vs' e. hk (us ++ vs) (us' ++ vs') (L.joins us us' vs vs' u e)))

  -- the operands of the places, the values, the assignments
  pub assigned_follows : {R T : Frames} {X : Exits} {xs xs' : List Doing} → Stored R X R T xs xs' → (c c' : Comp) → F R R X 0 c c' → F R T X 0 (assigned xs c) (assigned xs' c')
  assigned_follows {R = R} {T = T} {X = X} {xs = xs} {xs' = xs'} h c c' hc =
      finds_follow h T (λ us. then_do c (λ vs. stores xs us vs)) (λ us. then_do c' (λ vs. stores xs' us vs)) (assigned_rest_grows xs' c' (stored_grown h) hc.grows)
      (λ us us' u. then_follows L a p q R R T X 0 0 0 c c' (λ vs. stores xs us vs) (λ vs. stores xs' us' vs) (omega arith) hc (λ vs. stores_grow xs' (stored_grown h) us' vs) (λ vs vs' e. stores_follow h us us' vs vs' u e))

  -- ---- `range`

  pub iterated_follows : {R S : Frames} {X : Exits} {xs xs' : List Doing} → (mb : ℕ) (items : Items) (block block' : Comp) → mb + 1 ≤ a → ((f f' : List Value) → S f f' → R f f') → Stored R X R S xs xs' → F S S (in_loop X S) mb block block' → (v v' : Value) → L.values (v ∷ []) (v' ∷ []) → F R R X 0 (iterated items xs block v) (iterated items xs' block' v')
  iterated_follows {R = R} {S = S} {X = X} {xs = xs} {xs' = xs'} mb items block block' le weak h hb v v' e =
      subst (λ n. F R R X 0 (iterated items xs block v) (over (λ i. assigned xs' (operate (Item items i) (v' ∷ []))) block' 0 n)) (L.counts items v v' e)
      (over_follows L a p q R S X mb (λ i. assigned xs (operate (Item items i) (v ∷ []))) (λ i. assigned xs' (operate (Item items i) (v' ∷ []))) block block' weak le
      (λ i. assigned_follows h (operate (Item items i) (v ∷ [])) (operate (Item items i) (v' ∷ [])) (operate_follows L a p q R X (Item items i) (v ∷ []) (v' ∷ []) e)) hb 0 (item_count items v))

  -- ---- `switch`

  pub record ClauseMet (S T : Frames) (X : Exits) (m : ℕ) (x x' : Doing) : Type 0 where
    pub grown : Grown x'
    pub test : (us us' : List Value) → L.values us us' → F S S X 0 (x.test us) (x'.test us')
    pub value : F S T (in_clause X T S) m x.value x'.value

  abbrev pub ClausesMet : Frames → Frames → Exits → ℕ → List Doing → List Doing → Type 0
  ClausesMet S T X m [] [] = Unit {0}
  ClausesMet S T X m (x ∷ xs) [] = ⊥
  ClausesMet S T X m [] (x' ∷ xs') = ⊥
  ClausesMet S T X m (x ∷ xs) (x' ∷ xs') = (m1 : ℕ) × (m2 : ℕ) × (m1 + m2 ≤ m) × ClauseMet S T X m1 x x' × ClausesMet S T X m2 xs xs'

  module _ (S T : Frames) (X : Exits) (weak : (f f' : List Value) → S f f' → T f f') where
    pub clauses_grown : (m : ℕ) (xs xs' : List Doing) → ClausesMet S T X m xs xs' → AllGrown xs'
    clauses_grown m [] [] h = tt
    clauses_grown m (x ∷ xs) [] h = absurd h
    clauses_grown m [] (x' ∷ xs') h = absurd h
    clauses_grown m (x ∷ xs) (x' ∷ xs') h = (h.3.grown, clauses_grown h.1 xs xs' h.4)

    keep : (f f' : List Value) → T f f' → T f f'
    keep f f' r = r

    -- fewer clauses cost no more
    clauses_drop : (n m : ℕ) (xs xs' : List Doing) → ClausesMet S T X m xs xs' → (k : ℕ) × (k ≤ m) × ClausesMet S T X k (drop n xs) (drop n xs')
    clauses_drop zero m xs xs' h = (m, omega arith, h)
    clauses_drop (suc n) m [] [] h = (m, omega arith, tt)
    clauses_drop (suc n) m (x ∷ xs) [] h = absurd h
    clauses_drop (suc n) m [] (x' ∷ xs') h = absurd h
    clauses_drop (suc n) m (x ∷ xs) (x' ∷ xs') h = let r = clauses_drop n h.1 xs xs' h.4 in (r.0, omega (arith, r.1, h.2), r.2)

    falling_follows : (m : ℕ) (xs xs' : List Doing) → ClausesMet S T X m xs xs' → F S T X m (falling (values_of xs)) (falling (values_of xs'))
    unfolding falling
    falling_follows m [] [] h = nothing_follows S T X m weak
    falling_follows m (x ∷ xs) [] h = absurd h
    falling_follows m [] (x' ∷ xs') h = absurd h
    falling_follows m (x ∷ xs) (x' ∷ xs') h = clause_follows L a p q S T S T X m h.0 h.1 x.value x'.value (falling (values_of xs)) (falling (values_of xs')) keep h.2 h.3.value (falling_follows h.1 xs xs' h.4)

    pub selected_follows : (m : ℕ) (tag tag' : Value) (other other' : Comp) (xs xs' : List Doing) → L.values (tag ∷ []) (tag' ∷ []) → F S T X m other other' → (k : ℕ) → k ≤ m → ClausesMet S T X k xs xs' → F S T X m (selected tag other xs) (selected tag' other' xs')
    unfolding selected
    selected_follows m tag tag' other other' [] [] t ho k le h = ho
    selected_follows m tag tag' other other' (x ∷ xs) [] t ho k le h = absurd h
    selected_follows m tag tag' other other' [] (x' ∷ xs') t ho k le h = absurd h
    selected_follows m tag tag' other other' (x ∷ xs) (x' ∷ xs') t ho k le h =
        let rest : F S T X m (selected tag other xs) (selected tag' other' xs') = selected_follows m tag tag' other other' xs xs' t ho h.1 (omega (arith, le, h.2)) h.4 in
        let clauses : F S T X m (falling (values_of (x ∷ xs))) (falling (values_of (x' ∷ xs'))) = weaker L a p q S T T X k m (falling (values_of (x ∷ xs))) (falling (values_of (x' ∷ xs'))) keep le (falling_follows k (x ∷ xs) (x' ∷ xs') h) in
        one_follows S S T X m 0 m (x.test (tag ∷ [])) (x'.test (tag' ∷ [])) (λ b. choose (is_true b) (falling (values_of (x ∷ xs))) (selected tag other xs)) (λ b. choose (is_true b) (falling (values_of (x' ∷ xs'))) (selected tag' other' xs')) (omega arith) (h.3.test (tag ∷ []) (tag' ∷ []) t)
        (λ b. choose_grows (is_true b) (falling (values_of (x' ∷ xs'))) (selected tag' other' xs') clauses.grows rest.grows)
        (λ b b' e. choose_follows L a p q S T X m (is_true b) (is_true b') (falling (values_of (x ∷ xs))) (falling (values_of (x' ∷ xs'))) (selected tag other xs) (selected tag' other' xs') (L.truths b b' e) clauses rest)

    -- behind the first statement and the tag: from the clauses with the default one behind so many
    pub switch_follows : (m n : ℕ) (tag tag' : Comp) (xs xs' : List Doing) → F S S X 0 tag tag' → ClausesMet S T X m xs xs' → F S T X m (one tag (λ v. selected v (falling (values_of (drop n xs))) xs)) (one tag' (λ v. selected v (falling (values_of (drop n xs'))) xs'))
    switch_follows m n tag tag' xs xs' ht h =
        let d = clauses_drop n m xs xs' h in
        let other : F S T X m (falling (values_of (drop n xs))) (falling (values_of (drop n xs'))) = weaker L a p q S T T X d.0 m (falling (values_of (drop n xs))) (falling (values_of (drop n xs'))) keep d.1 (falling_follows d.0 (drop n xs) (drop n xs') d.2) in
        one_follows S S T X m 0 m tag tag' (λ v. selected v (falling (values_of (drop n xs))) xs) (λ v. selected v (falling (values_of (drop n xs'))) xs') (omega arith) ht
        (λ v. selected_grows v (falling (values_of (drop n xs'))) xs' other.grows (clauses_grown m xs xs' h)) (λ v v' e. selected_follows m v v' (falling (values_of (drop n xs))) (falling (values_of (drop n xs'))) xs xs' e other m (omega arith) h)
