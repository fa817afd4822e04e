-- All functions stay as they are: those of the longer package are these, under their new numbers, and the new one between them.
use Rattle.std.proofs.Common.{◌≡◌, ◌∙◌, ◌<◌, ◌≤◌, ◌⊎◌, inl, inr, ℕ, zero, suc, ◌+◌, Bool, true, false, List, [], ◌∷◌, ◌++◌, length, map, Some, slice_get, ap, refl, sym, arith}
use Rattle.std.specs.Prelude.{nat_eq, nat_lt}
use Rattle.std.specs.Option.{option_map}
use Rattle.std.proofs.lemmas.Bool.Decides.{nat_tests}
use Rattle.std.proofs.lemmas.List.{length-append}
use Rattle.std.proofs.lemmas.Option.{slice_get-map}
use Rattle.go_heads_added.specs.Added.{Gap, beyond}
use Rattle.go_heads_types.specs.Portions.{function_specifications}
use Rattle.go_package_added.specs.Appended.{function_specification, package_in}
use Rattle.go_package_added.proofs.Public.{behind_it, in_front}
use Rattle.go_package_defs.specs.Bodies.{count_types, types_in}
use Rattle.go_package_defs.specs.Checked.{Typing, surroundings_of}
use Rattle.go_package_defs.specs.Sources.{Source, unit_of}
use Rattle.go_tree.specs.Uses.{uses}
use Rattle.go_typed.specs.Contents.{FuncContent}
use Rattle.go_types.specs.Trees.{TypeTree}
use Rattle.clone_window.specs.Bodies.{Body}
use Rattle.clone_window_added.specs.Extended.{IsExtended, StaysAsItIs}
use Rattle.clone_window_added.specs.Unchanged.{StaysBetween, body_in, renumbered, with_between}
use Rattle.clone_window_added.proofs.Extended.{Known, keeps_types}
use Rattle.clone_window_added.proofs.Joined.{mapped}
use Rattle.clone_window_added.proofs.Kept.{found_between, keeps_windows}
use Rattle.clone_window_added.proofs.Levels.{keeps_rights}
use Rattle.clone_window_added.proofs.Lists.{none_there, same_list, some_at}
use Rattle.clone_window_added.proofs.Places.{as_many}

-- ---- lists

record Cut {A : Type 0} (n : ℕ) (xs : List A) : Type 0 where
  front : List A
  rest : List A
  is : xs ≡ front ++ rest
  count : length front ≡ n

cut : {A : Type 0} (n : ℕ) (xs : List A) → n ≤ length xs → Cut n xs
cut zero xs l = record { front = []; rest = xs; is = refl; count = refl }
cut (suc n) [] l = absurd (omega (arith, l))
cut (suc n) (x ∷ xs) l =
    let c = cut n xs (omega (arith, l)) in
    record { front = x ∷ c.front; rest = c.rest; is = ap (λ ys. x ∷ ys) c.is; count = ap suc c.count }

count_kept : {A : Type 0} (f : A → A) (xs : List A) → length (map f xs) ≡ length xs
count_kept f [] = refl
count_kept f (x ∷ xs) = ap suc (count_kept f xs)

there_behind : {A : Type 0} (xs ys : List A) (x : A) → slice_get (xs ++ x ∷ ys) (length xs) ≡ Some x
there_behind [] ys x = refl
there_behind (y ∷ xs) ys x = there_behind xs ys x

-- each number is the one of the new function, or the new number of another one
either_number : (a k : ℕ) → (k ≡ a) ⊎ ((n : ℕ) × (k ≡ beyond a n))
either_number a k = by (nat_lt k a) (nat_eq k a) refl refl
  where
    above : (i : ℕ) → a < i → (i ≡ a) ⊎ ((n : ℕ) × (i ≡ beyond a n))
    above zero l = absurd (omega (arith, l))
    above (suc i) l = inr (i, sym (behind_it a i (omega (arith, l))))

    by : (b c : Bool) → nat_lt k a ≡ b → nat_eq k a ≡ c → (k ≡ a) ⊎ ((n : ℕ) × (k ≡ beyond a n))
    by true c e f =
        let l : k < a = grind (arith, nat_tests, e) in
        inr (k, sym (in_front a k (omega (arith, l))))
    by false true e f = inl (grind (arith, nat_tests, f))
    by false false e f =
        let l : a ≤ k = grind (arith, nat_tests, e) in
        above k (grind (arith, nat_tests, f, l))

-- ---- the functions

module _ (k : ℕ) (ss ms us : List Source) (names others : List (List ℕ)) (t z : Typing) (h : IsExtended k ss ms us names others t z) (x : Known k ss ms us names others t z h)
    (own : count_types (types_in (package_in us) h.keeps.gap.functions) ≡ 0) (each : (n : ℕ) → n < length (function_specifications (package_in ss)) → StaysAsItIs k ss ms us names others t z h n) where
  abbrev g : Gap
  g = h.keeps.gap

  abbrev old : List (Body TypeTree)
  old = map body_in t.bodies.functions

  abbrev new : List (Body TypeTree)
  new = map body_in z.bodies.functions

  abbrev many : ℕ
  many = length (function_specifications (package_in ss))

  many_old : length old ≡ many
  many_old =
      mapped t.bodies.functions
      ∙ as_many (package_in ss) (surroundings_of (uses (map unit_of ss)) t.environment) t.environment.rights 0 (function_specifications (package_in ss)) t.bodies x.before.bodies

  many_new : length z.bodies.functions ≡ suc many
  many_new =
      let all : many ≡ length x.kept.front + length x.kept.rest = ap length x.kept.was ∙ length-append x.kept.front x.kept.rest in
      as_many (package_in us) (surroundings_of (uses (map unit_of us)) z.environment) z.environment.rights 0 (function_specifications (package_in us)) z.bodies x.after.bodies
      ∙ x.count ∙ ap length x.kept.is ∙ length-append x.kept.front (function_specification k ss ms h.appended ∷ x.kept.rest)
      ∙ (let e : length x.kept.front + suc (length x.kept.rest) ≡ suc many = omega (arith, all) in e)

  in_front_of : g.functions ≤ many
  in_front_of =
      let all : many ≡ length x.kept.front + length x.kept.rest = ap length x.kept.was ∙ length-append x.kept.front x.kept.rest in
      let place = x.place in
      omega (arith, all, place)

  at_number : (n : ℕ) → slice_get new (beyond g.functions n) ≡ option_map (renumbered g) (slice_get old n)
  at_number n = by (nat_lt n many) refl
    where
      by : (b : Bool) → nat_lt n many ≡ b → slice_get new (beyond g.functions n) ≡ option_map (renumbered g) (slice_get old n)
      by true e =
          let s = each n (grind (arith, nat_tests, e)) in
          (keeps_types k ss ms us names others t z h x n s ((keeps_rights k ss ms us names others t z h x own (λ i l. inl (each i l))).in_front n s)).function
      by false e =
          let l : many ≤ n = grind (arith, nat_tests, e) in
          let le = in_front_of in
          let m = many_old in
          let w = many_new in
          let v = mapped z.bodies.functions in
          ap (slice_get new) (behind_it g.functions n (omega (arith, l, le))) ∙ none_there new (suc n) (omega (arith, l, w, v))
          ∙ sym (ap (option_map (renumbered g)) (none_there old n (omega (arith, l, m))))

  pub stays_between : StaysBetween g t.bodies.functions z.bodies.functions
  stays_between =
      let le = in_front_of in
      let m = many_old in
      let w = many_new in
      let c : Cut g.functions old = cut g.functions old (omega (arith, le, m)) in
      let f = some_at z.bodies.functions g.functions (omega (arith, le, w)) in
      record {
        front = c.front;
        rest = c.rest;
        function = f.0;
        was = c.is;
        is = same_list (with_between g (body_in f.0) c.front c.rest) new (λ i. point c f.0 f.1 i (either_number g.functions i));
        itself = f.1;
        place = c.count;
        windows = keeps_windows g (body_in f.0) c.front c.rest c.count;
      }
    where
      own_there : (c : Cut g.functions old) (f : FuncContent) → slice_get (with_between g (body_in f) c.front c.rest) g.functions ≡ Some (body_in f)
      own_there c f =
          ap (slice_get (with_between g (body_in f) c.front c.rest)) (sym (count_kept (renumbered g) c.front ∙ c.count)) ∙ there_behind (map (renumbered g) c.front) (map (renumbered g) c.rest) (body_in f)

      point : (c : Cut g.functions old) (f : FuncContent) → slice_get z.bodies.functions g.functions ≡ Some f → (i : ℕ) → (i ≡ g.functions) ⊎ ((n : ℕ) × (i ≡ beyond g.functions n))
          → slice_get new i ≡ slice_get (with_between g (body_in f) c.front c.rest) i
      point c f e i (inl s) =
          ap (slice_get new) s ∙ slice_get-map body_in z.bodies.functions g.functions ∙ ap (option_map body_in) e ∙ sym (own_there c f)
          ∙ ap (slice_get (with_between g (body_in f) c.front c.rest)) (sym s)
      point c f e i (inr s) =
          ap (slice_get new) s.1 ∙ at_number s.0 ∙ ap (λ bs. option_map (renumbered g) (slice_get bs s.0)) c.is ∙ sym (found_between g (body_in f) c.front c.rest s.0)
          ∙ ap (λ j. slice_get (with_between g (body_in f) c.front c.rest) (beyond j s.0)) c.count ∙ ap (slice_get (with_between g (body_in f) c.front c.rest)) (sym s.1)
