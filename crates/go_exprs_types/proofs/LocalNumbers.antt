-- The locals of a function are numbered in the order of their tokens, so a number is at most that of its token.
use Rattle.std.proofs.Common.{◌≡◌, ℕ, zero, suc, ◌+◌, ◌<◌, ◌≤◌, List, [], ◌∷◌, length, Option, Some, None, Bool, true, false, cond, refl, ap, sym, ◌∙◌, arith}
use Rattle.std.specs.Prelude.{◌&&◌, slice_get}
use Rattle.std.proofs.lemmas.Bool.Decides.{nat_tests}
use Rattle.std.proofs.lemmas.Option.{slice_get_within}
use Rattle.go_tree.specs.declared.object.Declared.{Declared}
use Rattle.go_tree.specs.Declarations.{is_function}
use Rattle.go_tree.specs.Uses.{UsesView, IsComplete, local_of, local_in, are_in_order, are_behind, is_behind, functions_among, count_functions, lies_in}

both : (a b : Bool) → (a && b) ≡ true → (a ≡ true) × (b ≡ true)
both true true e = (refl, refl)
both true false e = cc
both false b e = cc

first_file : (g d : Declared) → lies_in g d ≡ true → g.file ≡ d.file
first_file g d h = grind (arith, nat_tests)

behind_name : (d e : Declared) → d.file ≡ e.file → is_behind d e ≡ true → d.name < e.name
behind_name d e same h = grind (arith, nat_tests)

abbrev AllIn : ℕ → List Declared → Type 0
AllIn file ds = (n : ℕ) (d : Declared) → slice_get ds n ≡ Some d → d.file ≡ file

next_name : (d : Declared) (ds : List Declared) (file : ℕ) → are_behind d ds ≡ true → d.file ≡ file → AllIn file ds → (e : Declared) → slice_get ds zero ≡ Some e → d.name < e.name
next_name d [] file h same all e there = cc
next_name d (x ∷ ds) file h same all e there =
    let h0 = both (is_behind d x) (are_behind d ds) h in
    let is : x ≡ e = cc in
    let below : d.name < x.name = behind_name d x (same ∙ sym (all zero x refl)) h0.0 in
    let named : x.name ≡ e.name = ap (λ (y : Declared). y.name) is in
    omega arith

rises : (k file : ℕ) (ds : List Declared) → are_in_order ds ≡ true → AllIn file ds → ((e : Declared) → slice_get ds zero ≡ Some e → k ≤ e.name) → (n : ℕ) (d : Declared) → slice_get ds n ≡ Some d → k + n ≤ d.name
rises k file [] order all least n d there = cc
rises k file (x ∷ ds) order all least zero d there = let h = least d there in omega arith
rises k file (x ∷ ds) order all least (suc n) d there =
    let o = both (are_behind x ds) (are_in_order ds) order in
    let here : k ≤ x.name = least x refl in
    let later : (e : Declared) → slice_get ds zero ≡ Some e → suc k ≤ e.name = λ e h. let below = next_name x ds file o.0 (all zero x refl) (λ m y g. all (suc m) y g) e h in omega arith in
    let rest = rises (suc k) file ds o.1 (λ m y g. all (suc m) y g) later n d there in
    omega arith

counted : (d : Declared) (ds : List Declared) (b : Bool) → count_functions ds ≡ length (functions_among ds) → cond b (suc (count_functions ds)) (count_functions ds) ≡ length (cond b (d ∷ functions_among ds) (functions_among ds))
counted d ds true h = let more : length (d ∷ functions_among ds) ≡ suc (length (functions_among ds)) = omega arith in ap suc h ∙ sym more
counted d ds false h = h

count_is : (ds : List Declared) → count_functions ds ≡ length (functions_among ds)
count_is [] = refl
count_is (d ∷ ds) = counted d ds (is_function d.entity) (count_is ds)

found : {X : Type 0} (xs : List X) (i : ℕ) → i < length xs → (x : X) × (slice_get xs i ≡ Some x)
found [] i h = absurd (omega (arith, h))
found (x ∷ xs) zero h = (x, refl)
found (x ∷ xs) (suc i) h = let g : i < length xs = omega (arith, h) in found xs i g

module _ (u : UsesView) (ok : IsComplete u) (f n : ℕ) (d : Declared) where
  in_list : (o : Option (List Declared)) → slice_get u.locals f ≡ o → local_in o n ≡ Some d → n ≤ d.name
  in_list None e there = cc
  in_list (Some ds) e there =
      let within : f < length u.locals = slice_get_within u.locals f ds e in
      let counts : length u.locals ≡ length (functions_among u.package_level) = ok.functions ∙ count_is u.package_level in
      let below : f < length (functions_among u.package_level) = omega arith in
      let g = found (functions_among u.package_level) f below in
      let all : AllIn g.0.file ds = λ m y h. sym (first_file g.0 y (ok.inside f m g.0 y g.1 (ap (λ o. local_in o m) e ∙ h))) in
      let bound = rises zero g.0.file ds (ok.local_order f ds e) all (λ y h. omega arith) n d there in
      omega arith

  pub number_below_name : local_of u f n ≡ Some d → n ≤ d.name
  number_below_name there = in_list (slice_get u.locals f) refl there
