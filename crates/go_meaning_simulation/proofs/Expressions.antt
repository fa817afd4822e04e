-- Expressions and places that match: whatever is asked of the new one follows what is asked of the old one, in frames that stay
-- related, whatever the ways out of the statement around them are.
use Rattle.std.proofs.Common.{◌≡◌, ℕ, zero, suc, ◌<◌, ◌≤◌, List, [], ◌∷◌, ◌++◌, refl, sym, ap, subst, arith, take, drop, replicate}
use Rattle.std.specs.Prelude.{Bool, true, false}
use Rattle.go_grammar.specs.declared.kind.Comparison.TheVariants.{Equal}
use Rattle.go_types_relations.specs.Zeros.{Zero}
use Rattle.go_meaning.specs.Values.{Value, Truth, Whole, Text, Parts, Slice, NilSlice, Function, NilFunction, nth, is_true, zero_value}
use Rattle.go_meaning.specs.Computations.{Panic, NilCall, Next, Panics, Comp, undecided, end_by, give, then_do, one, read, write, spend, choose, each}
use Rattle.go_meaning.specs.Operations.{Operation, Compare, Field, WithField, Element, WithElement, InArray, Cell, SetCell, InSlice, ReadVariable, WriteVariable, operate}
use Rattle.go_meaning.specs.Doings.{Doing, plain, chosen_by, absent, values_of, finds_of, at, local_place, name_place, blank_place, variable_place, field_place, element_place, cell_place, stores, assigned, operated, applied, matches, tag_of}
use Rattle.go_meaning.proofs.Public.{Grows, AllGrow, Grown, AllGrown, undecided_grows, give_grows, operate_grows, choose_grows, plain_grown, chosen_grown, stored_grows, element_stored_grows, index_found_grows, element_found_grows, stores_grow, assigned_rest_grows, operated_last_grows, operated_rest_grows, match_rest_grows, each_grows, local_grown, name_grown, blank_grown, variable_grown, field_grown, element_grown, cell_grown}
use Rattle.go_meaning_simulation.specs.Likeness.{Likeness, CalledAlike, functions, none, is_function}
use Rattle.go_meaning_simulation.proofs.Following
use Rattle.go_meaning_simulation.proofs.Following.{Frames, Exits, Follows}

module _ (L : Likeness) (a p q : ℕ) (R : Frames) (X : Exits) where
  abbrev pub Like : Comp → Comp → Type 0
  Like c c' = Follows L a p q R R X 0 c c'

  pub keep : (f f' : List Value) → R f f' → R f f'
  keep f f' r = r

  -- ---- computations

  pub give_like : (vs vs' : List Value) → L.values vs vs' → Like (give vs) (give vs')
  give_like vs vs' h = Following.end_follows L a p q R R X 0 (Next vs) vs' h keep

  pub panic_like : (k : Panic) → Like (end_by (Panics k)) (end_by (Panics k))
  panic_like k = Following.end_follows L a p q R R X 0 (Panics k) [] L.nothing (λ f f' r. tt)

  pub operate_like : (o : Operation) (vs vs' : List Value) → L.values vs vs' → Like (operate o vs) (operate o vs')
  operate_like o vs vs' h = Following.operate_follows L a p q R X o vs vs' h

  pub then_like : (c c' : Comp) (k k' : List Value → Comp) → Like c c' → ((vs : List Value) → Grows (k' vs)) → ((vs vs' : List Value) → L.values vs vs' → Like (k vs) (k' vs')) → Like (then_do c k) (then_do c' k')
  then_like c c' k k' h hg hk = Following.then_follows L a p q R R R X 0 0 0 c c' k k' (omega arith) h hg hk

  pub one_like : (c c' : Comp) (k k' : Value → Comp) → Like c c' → ((v : Value) → Grows (k' v)) → ((v v' : Value) → L.values (v ∷ []) (v' ∷ []) → Like (k v) (k' v')) → Like (one c k) (one c' k')
  one_like c c' k k' h hg hk = then_like c c' (λ vs. k (nth vs 0)) (λ vs. k' (nth vs 0)) h (λ vs. hg (nth vs 0)) (λ vs vs' e. hk (nth vs 0) (nth vs' 0) (L.picks 0 vs vs' e))

  pub choose_like : (b b' : Bool) (c c' k k' : Comp) → b ≡ b' → Like c c' → Like k k' → Like (choose b c k) (choose b' c' k')
  choose_like b b' c c' k k' e h hk = Following.choose_follows L a p q R R X 0 b b' c c' k k' e h hk

  pub spend_like : 1 ≤ a → (c c' : Comp) → Like c c' → Like (spend c) (spend c')
  spend_like le c c' h = Following.spend_follows L a p q R R X 0 0 c c' (omega (arith, le)) h

  abbrev pub AllLike : List Comp → List Comp → Type 0
  AllLike [] [] = Unit {0}
  AllLike (c ∷ cs) [] = ⊥
  AllLike [] (c' ∷ cs') = ⊥
  AllLike (c ∷ cs) (c' ∷ cs') = Like c c' × AllLike cs cs'

  pub new_grow : (cs cs' : List Comp) → AllLike cs cs' → AllGrow cs'
  new_grow [] [] h = tt
  new_grow (c ∷ cs) [] h = absurd h
  new_grow [] (c' ∷ cs') h = absurd h
  new_grow (c ∷ cs) (c' ∷ cs') h = (h.0.grows, new_grow cs cs' h.1)

  pub each_like : (cs cs' : List Comp) (k k' : List Value → Comp) → AllLike cs cs' → ((vs : List Value) → Grows (k' vs)) → ((vs vs' : List Value) → L.values vs vs' → Like (k vs) (k' vs')) → Like (each cs k) (each cs' k')
  unfolding each
  each_like [] [] k k' h hg hk = hk [] [] L.nothing
  each_like (c ∷ cs) [] k k' h hg hk = absurd h
  each_like [] (c' ∷ cs') k k' h hg hk = absurd h
  each_like (c ∷ cs) (c' ∷ cs') k k' h hg hk =
      then_like c c' (λ us. each cs (λ vs. k (us ++ vs))) (λ us. each cs' (λ vs. k' (us ++ vs))) h.0 (λ us. each_grows cs' (λ vs. k' (us ++ vs)) (new_grow cs cs' h.1) (λ vs. hg (us ++ vs)))
      (λ us us' u. each_like cs cs' (λ vs. k (us ++ vs)) (λ vs. k' (us' ++ vs)) h.1 (λ vs. hg (us' ++ vs)) (λ vs vs' e. hk (us ++ vs) (us' ++ vs') (L.joins us us' vs vs' u e)))

  -- ---- doings

  pub record Met (x x' : Doing) : Type 0 where
    pub grown : Grown x'
    pub width : x'.width ≡ x.width
    pub value : Like x.value x'.value
    pub find : Like x.find x'.find
    pub test : (us us' : List Value) → L.values us us' → Like (x.test us) (x'.test us')
    pub load : (us us' : List Value) → L.values us us' → Like (x.load us) (x'.load us')
    pub store : (us us' : List Value) (v v' : Value) → L.values us us' → L.values (v ∷ []) (v' ∷ []) → Like (x.store us v) (x'.store us' v')

  -- what matches as a value alone
  pub record Valued (x x' : Doing) : Type 0 where
    pub grown : Grown x'
    pub value : Like x.value x'.value

  pub valued : (x x' : Doing) → Met x x' → Valued x x'
  valued x x' h = record { grown = h.grown; value = h.value }

  -- as a place (true), or as a value
  abbrev pub Asked : Bool → Doing → Doing → Type 0
  Asked true x x' = Met x x'
  Asked false x x' = Valued x x'

  pub asked_valued : (b : Bool) (x x' : Doing) → Asked b x x' → Valued x x'
  asked_valued true x x' h = valued x x' h
  asked_valued false x x' h = h

  pub met_asked : (b : Bool) (x x' : Doing) → Met x x' → Asked b x x'
  met_asked true x x' h = h
  met_asked false x x' h = valued x x' h

  nowhere : Like undecided undecided
  nowhere = Following.undecided_follows L a p q R R X 0 undecided undecided_grows

  pub plain_met : (c c' : Comp) → Like c c' → Met (plain c) (plain c')
  plain_met c c' h = record { grown = plain_grown c' h.grows; width = refl; value = h; find = nowhere; test = λ us us' u. nowhere; load = λ us us' u. nowhere; store = λ us us' v v' u e. nowhere }

  pub chosen_met : (t t' : List Value → Comp) (c c' : Comp) → ((us : List Value) → Grows (t' us)) → ((us us' : List Value) → L.values us us' → Like (t us) (t' us')) → Like c c' → Met (chosen_by t c) (chosen_by t' c')
  chosen_met t t' c c' g ht h = record { grown = chosen_grown t' c' g h.grows; width = refl; value = h; find = nowhere; test = ht; load = λ us us' u. nowhere; store = λ us us' v v' u e. nowhere }

  pub absent_met : Met absent absent
  absent_met = plain_met (give []) (give []) (give_like [] [] L.nothing)

  abbrev pub AllMet : List Doing → List Doing → Type 0
  AllMet [] [] = Unit {0}
  AllMet (x ∷ xs) [] = ⊥
  AllMet [] (x' ∷ xs') = ⊥
  AllMet (x ∷ xs) (x' ∷ xs') = Met x x' × AllMet xs xs'

  pub all_grown : (xs xs' : List Doing) → AllMet xs xs' → AllGrown xs'
  all_grown [] [] h = tt
  all_grown (x ∷ xs) [] h = absurd h
  all_grown [] (x' ∷ xs') h = absurd h
  all_grown (x ∷ xs) (x' ∷ xs') h = (h.0.grown, all_grown xs xs' h.1)

  pub at_met : (xs xs' : List Doing) (n : ℕ) → AllMet xs xs' → Met (at xs n) (at xs' n)
  at_met [] [] n h = absent_met
  at_met (x ∷ xs) [] n h = absurd h
  at_met [] (x' ∷ xs') n h = absurd h
  at_met (x ∷ xs) (x' ∷ xs') zero h = h.0
  at_met (x ∷ xs) (x' ∷ xs') (suc n) h = at_met xs xs' n h.1

  pub take_met : (n : ℕ) (xs xs' : List Doing) → AllMet xs xs' → AllMet (take n xs) (take n xs')
  take_met zero xs xs' h = tt
  take_met (suc n) [] [] h = tt
  take_met (suc n) (x ∷ xs) [] h = absurd h
  take_met (suc n) [] (x' ∷ xs') h = absurd h
  take_met (suc n) (x ∷ xs) (x' ∷ xs') h = (h.0, take_met n xs xs' h.1)

  pub drop_met : (n : ℕ) (xs xs' : List Doing) → AllMet xs xs' → AllMet (drop n xs) (drop n xs')
  drop_met zero xs xs' h = h
  drop_met (suc n) [] [] h = tt
  drop_met (suc n) (x ∷ xs) [] h = absurd h
  drop_met (suc n) [] (x' ∷ xs') h = absurd h
  drop_met (suc n) (x ∷ xs) (x' ∷ xs') h = drop_met n xs xs' h.1

  pub values_like : (xs xs' : List Doing) → AllMet xs xs' → AllLike (values_of xs) (values_of xs')
  values_like [] [] h = tt
  values_like (x ∷ xs) [] h = absurd h
  values_like [] (x' ∷ xs') h = absurd h
  values_like (x ∷ xs) (x' ∷ xs') h = (h.0.value, values_like xs xs' h.1)

  pub finds_like : (xs xs' : List Doing) → AllMet xs xs' → AllLike (finds_of xs) (finds_of xs')
  finds_like [] [] h = tt
  finds_like (x ∷ xs) [] h = absurd h
  finds_like [] (x' ∷ xs') h = absurd h
  finds_like (x ∷ xs) (x' ∷ xs') h = (h.0.find, finds_like xs xs' h.1)

  -- ---- places

  abbrev pub Pair : Value → Value → Type 0
  Pair v v' = L.values (v ∷ []) (v' ∷ [])

  pub two : (u u' v v' : Value) → Pair u u' → Pair v v' → L.values (u ∷ v ∷ []) (u' ∷ v' ∷ [])
  two u u' v v' h k = L.joins (u ∷ []) (u' ∷ []) (v ∷ []) (v' ∷ []) h k

  pub three : (u u' v v' w w' : Value) → Pair u u' → Pair v v' → Pair w w' → L.values (u ∷ v ∷ w ∷ []) (u' ∷ v' ∷ w' ∷ [])
  three u u' v v' w w' h k l = L.joins (u ∷ []) (u' ∷ []) (v ∷ w ∷ []) (v' ∷ w' ∷ []) h (two v v' w w' k l)

  pub nothing_like : Like (give []) (give [])
  nothing_like = give_like [] [] L.nothing

  pub local_met : (i j : ℕ) → Like (read i) (read j) → ((v v' : Value) → L.values (v ∷ []) (v' ∷ []) → Like (write i v) (write j v')) → Met (local_place i) (local_place j)
  local_met i j r w = record {
    grown = local_grown j;
    width = refl;
    value = r;
    find = nothing_like;
    test = λ us us' u. nothing_like;
    load = λ us us' u. r;
    store = λ us us' v v' u e. w v v' e;
  }

  pub name_met : (i j : ℕ) → Like (read i) (read j) → ((v v' : Value) → L.values (v ∷ []) (v' ∷ []) → Like (write i v) (write j v')) → Met (name_place i) (name_place j)
  name_met i j r w = record {
    grown = name_grown j;
    width = refl;
    value = nothing_like;
    find = nothing_like;
    test = λ us us' u. nothing_like;
    load = λ us us' u. r;
    store = λ us us' v v' u e. w v v' e;
  }

  pub blank_met : Met blank_place blank_place
  blank_met = record { grown = blank_grown; width = refl; value = nothing_like; find = nothing_like; test = λ us us' u. nothing_like; load = λ us us' u. nothing_like; store = λ us us' v v' u e. nothing_like }

  pub variable_met : (n : ℕ) → Met (variable_place n) (variable_place n)
  variable_met n = record {
    grown = variable_grown n;
    width = refl;
    value = operate_like (ReadVariable n) [] [] L.nothing;
    find = nothing_like;
    test = λ us us' u. nothing_like;
    load = λ us us' u. operate_like (ReadVariable n) [] [] L.nothing;
    store = λ us us' v v' u e. operate_like (WriteVariable n) (v ∷ []) (v' ∷ []) e;
  }

  -- an operation, and then a value stored
  stored_like : (x x' : Doing) → Met x x' → (o : Operation) (vs vs' us us' : List Value) → L.values vs vs' → L.values us us' → Like (one (operate o vs) (λ r. x.store us r)) (one (operate o vs') (λ r. x'.store us' r))
  stored_like x x' h o vs vs' us us' e u = one_like (operate o vs) (operate o vs') (λ r. x.store us r) (λ r. x'.store us' r) (operate_like o vs vs' e) (λ r. h.grown.store us' r) (λ r r' k. h.store us us' r r' u k)

  pub field_met : (n : ℕ) (x x' : Doing) → Met x x' → Met (field_place n x) (field_place n x')
  field_met n x x' h = record {
    grown = field_grown n x' h.grown;
    width = h.width;
    value = one_like x.value x'.value (λ v. operate (Field n) (v ∷ [])) (λ v. operate (Field n) (v ∷ [])) h.value (λ v. operate_grows (Field n) (v ∷ [])) (λ v v' e. operate_like (Field n) (v ∷ []) (v' ∷ []) e);
    find = h.find;
    test = h.test;
    load = λ us us' u. one_like (x.load us) (x'.load us') (λ v. operate (Field n) (v ∷ [])) (λ v. operate (Field n) (v ∷ [])) (h.load us us' u) (λ v. operate_grows (Field n) (v ∷ [])) (λ v v' e. operate_like (Field n) (v ∷ []) (v' ∷ []) e);
    store = λ us us' v v' u e. one_like (x.load us) (x'.load us') (λ y. one (operate (WithField n) (y ∷ v ∷ [])) (λ r. x.store us r)) (λ y. one (operate (WithField n) (y ∷ v' ∷ [])) (λ r. x'.store us' r)) (h.load us us' u)
        (λ y. stored_grows x' h.grown (WithField n) (y ∷ v' ∷ []) us') (λ y y' k. stored_like x x' h (WithField n) (y ∷ v ∷ []) (y' ∷ v' ∷ []) us us' (two y y' v v' k e) u);
  }

  element_found_like : (x x' i i' : Doing) → Met x x' → Valued i i' → (us us' : List Value) → L.values us us' → Like (then_do (x.test us) (λ no. one i.value (λ k. give (k ∷ us)))) (then_do (x'.test us') (λ no. one i'.value (λ k. give (k ∷ us'))))
  element_found_like x x' i i' h hi us us' u =
      then_like (x.test us) (x'.test us') (λ no. one i.value (λ k. give (k ∷ us))) (λ no. one i'.value (λ k. give (k ∷ us'))) (h.test us us' u) (λ no. index_found_grows i' hi.grown us')
      (λ no no' n. one_like i.value i'.value (λ k. give (k ∷ us)) (λ k. give (k ∷ us')) hi.value (λ k. give_grows (k ∷ us')) (λ k k' e. give_like (k ∷ us) (k' ∷ us') (L.joins (k ∷ []) (k' ∷ []) us us' e u)))

  element_stored_like : (x x' : Doing) → Met x x' → (us us' : List Value) (v v' : Value) → L.values us us' → Pair v v' → Like (one (x.load (drop 1 us)) (λ y. one (operate WithElement (y ∷ nth us 0 ∷ v ∷ [])) (λ r. x.store (drop 1 us) r))) (one (x'.load (drop 1 us')) (λ y. one (operate WithElement (y ∷ nth us' 0 ∷ v' ∷ [])) (λ r. x'.store (drop 1 us') r)))
  element_stored_like x x' h us us' v v' u e =
      one_like (x.load (drop 1 us)) (x'.load (drop 1 us')) (λ y. one (operate WithElement (y ∷ nth us 0 ∷ v ∷ [])) (λ r. x.store (drop 1 us) r)) (λ y. one (operate WithElement (y ∷ nth us' 0 ∷ v' ∷ [])) (λ r. x'.store (drop 1 us') r))
      (h.load (drop 1 us) (drop 1 us') (L.rests 1 us us' u)) (λ y. stored_grows x' h.grown WithElement (y ∷ nth us' 0 ∷ v' ∷ []) (drop 1 us'))
      (λ y y' k. stored_like x x' h WithElement (y ∷ nth us 0 ∷ v ∷ []) (y' ∷ nth us' 0 ∷ v' ∷ []) (drop 1 us) (drop 1 us') (three y y' (nth us 0) (nth us' 0) v v' k (L.picks 0 us us' u) e) (L.rests 1 us us' u))

  pub element_met : (n : ℕ) (x x' i i' : Doing) → Met x x' → Valued i i' → Met (element_place n x i) (element_place n x' i')
  element_met n x x' i i' h hi = record {
    grown = element_grown n x' i' h.grown hi.grown;
    width = ap suc h.width;
    value = each_like (x.value ∷ i.value ∷ []) (x'.value ∷ i'.value ∷ []) (operate (Element n)) (operate (Element n)) (h.value, (hi.value, tt)) (operate_grows (Element n)) (operate_like (Element n));
    find = then_like x.find x'.find (λ us. then_do (x.test us) (λ no. one i.value (λ k. give (k ∷ us)))) (λ us. then_do (x'.test us) (λ no. one i'.value (λ k. give (k ∷ us)))) h.find (element_found_grows x' i' h.grown hi.grown) (element_found_like x x' i i' h hi);
    test = λ us us' u. operate_like (InArray n) (nth us 0 ∷ []) (nth us' 0 ∷ []) (L.picks 0 us us' u);
    load = λ us us' u. one_like (x.load (drop 1 us)) (x'.load (drop 1 us')) (λ y. operate (Element n) (y ∷ nth us 0 ∷ [])) (λ y. operate (Element n) (y ∷ nth us' 0 ∷ [])) (h.load (drop 1 us) (drop 1 us') (L.rests 1 us us' u))
        (λ y. operate_grows (Element n) (y ∷ nth us' 0 ∷ [])) (λ y y' k. operate_like (Element n) (y ∷ nth us 0 ∷ []) (y' ∷ nth us' 0 ∷ []) (two y y' (nth us 0) (nth us' 0) k (L.picks 0 us us' u)));
    store = λ us us' v v' u e. then_like (operate (InArray n) (nth us 0 ∷ [])) (operate (InArray n) (nth us' 0 ∷ [])) (λ no. one (x.load (drop 1 us)) (λ y. one (operate WithElement (y ∷ nth us 0 ∷ v ∷ [])) (λ r. x.store (drop 1 us) r))) (λ no. one (x'.load (drop 1 us')) (λ y. one (operate WithElement (y ∷ nth us' 0 ∷ v' ∷ [])) (λ r. x'.store (drop 1 us') r)))
        (operate_like (InArray n) (nth us 0 ∷ []) (nth us' 0 ∷ []) (L.picks 0 us us' u)) (λ no. element_stored_grows x' h.grown us' v') (λ no no' k. element_stored_like x x' h us us' v v' u e);
  }

  pub cell_met : (x x' i i' : Doing) → Valued x x' → Valued i i' → Met (cell_place x i) (cell_place x' i')
  cell_met x x' i i' h hi = record {
    grown = cell_grown x' i' h.grown hi.grown;
    width = refl;
    value = each_like (x.value ∷ i.value ∷ []) (x'.value ∷ i'.value ∷ []) (operate Cell) (operate Cell) (h.value, (hi.value, tt)) (operate_grows Cell) (operate_like Cell);
    find = each_like (x.value ∷ i.value ∷ []) (x'.value ∷ i'.value ∷ []) give give (h.value, (hi.value, tt)) give_grows give_like;
    test = λ us us' u. operate_like InSlice (nth us 0 ∷ nth us 1 ∷ []) (nth us' 0 ∷ nth us' 1 ∷ []) (first_two us us' u);
    load = λ us us' u. operate_like Cell (nth us 0 ∷ nth us 1 ∷ []) (nth us' 0 ∷ nth us' 1 ∷ []) (first_two us us' u);
    store = λ us us' v v' u e. operate_like SetCell (nth us 0 ∷ nth us 1 ∷ v ∷ []) (nth us' 0 ∷ nth us' 1 ∷ v' ∷ []) (three (nth us 0) (nth us' 0) (nth us 1) (nth us' 1) v v' (L.picks 0 us us' u) (L.picks 1 us us' u) e);
  }
    where
      first_two : (us us' : List Value) → L.values us us' → L.values (nth us 0 ∷ nth us 1 ∷ []) (nth us' 0 ∷ nth us' 1 ∷ [])
      first_two us us' u = two (nth us 0) (nth us' 0) (nth us 1) (nth us' 1) (L.picks 0 us us' u) (L.picks 1 us us' u)

  -- ---- rows of parts, some of which are asked for as places

  abbrev pub AllAsked : (ℕ → Bool) → List Doing → List Doing → Type 0
  AllAsked m [] [] = Unit {0}
  AllAsked m (x ∷ xs) [] = ⊥
  AllAsked m [] (x' ∷ xs') = ⊥
  AllAsked m (x ∷ xs) (x' ∷ xs') = Asked (m 0) x x' × AllAsked (λ k. m (suc k)) xs xs'

  pub asked_grown : (m : ℕ → Bool) (xs xs' : List Doing) → AllAsked m xs xs' → AllGrown xs'
  asked_grown m [] [] h = tt
  asked_grown m (x ∷ xs) [] h = absurd h
  asked_grown m [] (x' ∷ xs') h = absurd h
  asked_grown m (x ∷ xs) (x' ∷ xs') h = ((asked_valued (m 0) x x' h.0).grown, asked_grown (λ k. m (suc k)) xs xs' h.1)

  pub asked_values : (m : ℕ → Bool) (xs xs' : List Doing) → AllAsked m xs xs' → AllLike (values_of xs) (values_of xs')
  asked_values m [] [] h = tt
  asked_values m (x ∷ xs) [] h = absurd h
  asked_values m [] (x' ∷ xs') h = absurd h
  asked_values m (x ∷ xs) (x' ∷ xs') h = ((asked_valued (m 0) x x' h.0).value, asked_values (λ k. m (suc k)) xs xs' h.1)

  pub asked_at : (m : ℕ → Bool) (xs xs' : List Doing) (n : ℕ) → AllAsked m xs xs' → Asked (m n) (at xs n) (at xs' n)
  asked_at m [] [] n h = met_asked (m n) absent absent absent_met
  asked_at m (x ∷ xs) [] n h = absurd h
  asked_at m [] (x' ∷ xs') n h = absurd h
  asked_at m (x ∷ xs) (x' ∷ xs') zero h = h.0
  asked_at m (x ∷ xs) (x' ∷ xs') (suc n) h = asked_at (λ k. m (suc k)) xs xs' n h.1

  pub value_at : (m : ℕ → Bool) (xs xs' : List Doing) (n : ℕ) → AllAsked m xs xs' → Valued (at xs n) (at xs' n)
  value_at m xs xs' n h = asked_valued (m n) (at xs n) (at xs' n) (asked_at m xs xs' n h)

  -- the first n parts are places
  pub asked_take : (m : ℕ → Bool) (n : ℕ) (xs xs' : List Doing) → ((k : ℕ) → k < n → m k ≡ true) → AllAsked m xs xs' → AllMet (take n xs) (take n xs')
  asked_take m zero xs xs' e h = tt
  asked_take m (suc n) [] [] e h = tt
  asked_take m (suc n) (x ∷ xs) [] e h = absurd h
  asked_take m (suc n) [] (x' ∷ xs') e h = absurd h
  asked_take m (suc n) (x ∷ xs) (x' ∷ xs') e h = (subst (λ b. Asked b x x') (e 0 (omega arith)) h.0, asked_take (λ k. m (suc k)) n xs xs' (λ k lt. e (suc k) (omega (arith, lt))) h.1)

  pub asked_drop : (m : ℕ → Bool) (n : ℕ) (xs xs' : List Doing) → AllAsked m xs xs' → AllLike (values_of (drop n xs)) (values_of (drop n xs'))
  asked_drop m zero xs xs' h = asked_values m xs xs' h
  asked_drop m (suc n) [] [] h = tt
  asked_drop m (suc n) (x ∷ xs) [] h = absurd h
  asked_drop m (suc n) [] (x' ∷ xs') h = absurd h
  asked_drop m (suc n) (x ∷ xs) (x' ∷ xs') h = asked_drop (λ k. m (suc k)) n xs xs' h.1

  -- ---- assignments

  pub stores_like : (xs xs' : List Doing) → AllMet xs xs' → (us us' vs vs' : List Value) → L.values us us' → L.values vs vs' → Like (stores xs us vs) (stores xs' us' vs')
  unfolding stores
  stores_like [] [] h us us' vs vs' u e = give_like [] [] L.nothing
  stores_like (x ∷ xs) [] h us us' vs vs' u e = absurd h
  stores_like [] (x' ∷ xs') h us us' vs vs' u e = absurd h
  stores_like (x ∷ xs) (x' ∷ xs') h us us' vs vs' u e =
      then_like (x.store (take x.width us) (nth vs 0)) (x'.store (take x'.width us') (nth vs' 0)) (λ no. stores xs (drop x.width us) (drop 1 vs)) (λ no. stores xs' (drop x'.width us') (drop 1 vs'))
      (h.0.store (take x.width us) (take x'.width us') (nth vs 0) (nth vs' 0) (subst (λ n. L.values (take x.width us) (take n us')) (sym h.0.width) (L.fronts x.width us us' u)) (L.picks 0 vs vs' e))
      (λ no. stores_grow xs' (all_grown xs xs' h.1) (drop x'.width us') (drop 1 vs'))
      (λ no no' k. stores_like xs xs' h.1 (drop x.width us) (drop x'.width us') (drop 1 vs) (drop 1 vs') (subst (λ n. L.values (drop x.width us) (drop n us')) (sym h.0.width) (L.rests x.width us us' u)) (L.rests 1 vs vs' e))

  pub assigned_like : (xs xs' : List Doing) (c c' : Comp) → AllMet xs xs' → Like c c' → Like (assigned xs c) (assigned xs' c')
  assigned_like xs xs' c c' h hc =
      each_like (finds_of xs) (finds_of xs') (λ us. then_do c (λ vs. stores xs us vs)) (λ us. then_do c' (λ vs. stores xs' us vs)) (finds_like xs xs' h) (assigned_rest_grows xs' c' (all_grown xs xs' h) hc.grows)
      (λ us us' u. then_like c c' (λ vs. stores xs us vs) (λ vs. stores xs' us' vs) hc (λ vs. stores_grow xs' (all_grown xs xs' h) us' vs) (λ vs vs' e. stores_like xs xs' h us us' vs vs' u e))

  pub operated_like : (o : Operation) (x x' : Doing) (y y' : Comp) → Met x x' → Like y y' → Like (operated o x y) (operated o x' y')
  operated_like o x x' y y' h hy =
      then_like x.find x'.find (λ us. one (x.load us) (λ v. one y (λ z. one (operate o (v ∷ z ∷ [])) (λ r. x.store us r)))) (λ us. one (x'.load us) (λ v. one y' (λ z. one (operate o (v ∷ z ∷ [])) (λ r. x'.store us r)))) h.find (operated_rest_grows o x' y' h.grown hy.grows)
      (λ us us' u. one_like (x.load us) (x'.load us') (λ v. one y (λ z. one (operate o (v ∷ z ∷ [])) (λ r. x.store us r))) (λ v. one y' (λ z. one (operate o (v ∷ z ∷ [])) (λ r. x'.store us' r))) (h.load us us' u) (operated_last_grows o x' y' h.grown hy.grows us')
      (λ v v' e. one_like y y' (λ z. one (operate o (v ∷ z ∷ [])) (λ r. x.store us r)) (λ z. one (operate o (v' ∷ z ∷ [])) (λ r. x'.store us' r)) hy (λ z. stored_grows x' h.grown o (v' ∷ z ∷ []) us')
      (λ z z' k. stored_like x x' h o (v ∷ z ∷ []) (v' ∷ z' ∷ []) us us' (two v v' z z' e k) u)))

  pub copies_like : (n : ℕ) (z : Zero) → L.values (replicate n (zero_value z)) (replicate n (zero_value z))
  copies_like zero z = L.nothing
  copies_like (suc n) z = L.joins (zero_value z ∷ []) (zero_value z ∷ []) (replicate n (zero_value z)) (replicate n (zero_value z)) (L.zeros z) (copies_like n z)

  -- ---- calls

  applied_to_none : (call : ℕ → List Value → Comp) (v : Value) (vs : List Value) → is_function v ≡ false → applied call v vs ≡ end_by (Panics NilCall)
  applied_to_none call (Truth b) vs e = refl
  applied_to_none call (Whole z) vs e = refl
  applied_to_none call (Text bytes) vs e = refl
  applied_to_none call (Parts us) vs e = refl
  applied_to_none call (Slice i j n c) vs e = refl
  applied_to_none call NilSlice vs e = refl
  applied_to_none call (Function g) vs e = absurd cc
  applied_to_none call NilFunction vs e = refl

  pub applied_like : (call call' : ℕ → List Value → Comp) → ((g g' : ℕ) (vs vs' : List Value) → L.calls g g' → L.values vs vs' → Like (call g vs) (call' g' vs')) → {v v' : Value} → CalledAlike L.calls v v' → (vs vs' : List Value) → L.values vs vs' → Like (applied call v vs) (applied call' v' vs')
  applied_like call call' hc (functions {g = g} {g' = g'} c) vs vs' e = hc g g' vs vs' c e
  applied_like call call' hc (none {v = v} {v' = v'} n n') vs vs' e =
      subst (λ c. Like c (applied call' v' vs')) (sym (applied_to_none call v vs n)) (subst (λ c. Like (end_by (Panics NilCall)) c) (sym (applied_to_none call' v' vs' n')) (panic_like NilCall))

  -- ---- switches

  match_rest_like : (tag tag' : Value) (rest rest' : Comp) → Pair tag tag' → Like rest rest' → (v v' : Value) → Pair v v' → Like (one (operate (Compare Equal) (tag ∷ v ∷ [])) (λ b. choose (is_true b) (give (Truth true ∷ [])) rest)) (one (operate (Compare Equal) (tag' ∷ v' ∷ [])) (λ b. choose (is_true b) (give (Truth true ∷ [])) rest'))
  match_rest_like tag tag' rest rest' t h v v' e =
      one_like (operate (Compare Equal) (tag ∷ v ∷ [])) (operate (Compare Equal) (tag' ∷ v' ∷ [])) (λ b. choose (is_true b) (give (Truth true ∷ [])) rest) (λ b. choose (is_true b) (give (Truth true ∷ [])) rest') (operate_like (Compare Equal) (tag ∷ v ∷ []) (tag' ∷ v' ∷ []) (two tag tag' v v' t e))
      (λ b. choose_grows (is_true b) (give (Truth true ∷ [])) rest' (give_grows (Truth true ∷ [])) h.grows) (λ b b' k. choose_like (is_true b) (is_true b') (give (Truth true ∷ [])) (give (Truth true ∷ [])) rest rest' (L.truths b b' k) (give_like (Truth true ∷ []) (Truth true ∷ []) (L.truth true)) h)

  pub matches_like : (tag tag' : Value) (cs cs' : List Comp) → Pair tag tag' → AllLike cs cs' → Like (matches tag cs) (matches tag' cs')
  unfolding matches
  matches_like tag tag' [] [] t h = give_like (Truth false ∷ []) (Truth false ∷ []) (L.truth false)
  matches_like tag tag' (c ∷ cs) [] t h = absurd h
  matches_like tag tag' [] (c' ∷ cs') t h = absurd h
  matches_like tag tag' (c ∷ cs) (c' ∷ cs') t h =
      let rest : Like (matches tag cs) (matches tag' cs') = matches_like tag tag' cs cs' t h.1 in
      one_like c c' (λ v. one (operate (Compare Equal) (tag ∷ v ∷ [])) (λ b. choose (is_true b) (give (Truth true ∷ [])) (matches tag cs))) (λ v. one (operate (Compare Equal) (tag' ∷ v ∷ [])) (λ b. choose (is_true b) (give (Truth true ∷ [])) (matches tag' cs'))) h.0
      (match_rest_grows tag' (matches tag' cs') rest.grows) (match_rest_like tag tag' (matches tag cs) (matches tag' cs') t rest)

  pub tag_like : (tag : Bool) (x x' : Doing) → Met x x' → Like (tag_of tag x) (tag_of tag x')
  tag_like true x x' h = h.value
  tag_like false x x' h = give_like (Truth true ∷ []) (Truth true ∷ []) (L.truth true)
