-- Values of the program and of the meaning, from a place on.
use Rattle.std.proofs.Common.{rules, ◌≡◌, ℕ, zero, suc, List, [], ◌∷◌, take, drop, length, refl, ap}
use Rattle.std.specs.Prelude.{Bool}
use Rattle.go_meaning.specs.Values as meant
use Rattle.go_meaning.specs.Values.{nth}
use Rattle.go_values.specs.declared.value.Value.{Value, Function, Truth, the_lemmas}
use Rattle.go_values.specs.Views.{view, views}

pub drop_views : (b : ℕ) (vs : List Value) → views (drop b vs) ≡ drop b (views vs)
drop_views zero vs = refl
drop_views (suc b) [] = refl
drop_views (suc b) (v ∷ vs) = drop_views b vs

pub take_views : (b : ℕ) (vs : List Value) → views (take b vs) ≡ take b (views vs)
take_views zero vs = refl
take_views (suc b) [] = refl
take_views (suc b) (v ∷ vs) = ap (λ us. view v ∷ us) (take_views b vs)

pub as_long : (vs : List Value) → length (views vs) ≡ length vs
as_long [] = refl
as_long (v ∷ vs) = ap suc (as_long vs)

pub view_function : (n : ℕ) → view (Function n) ≡ meant.Function n
view_function n = search (rules, the_lemmas)

pub view_truth : (b : Bool) → view (Truth b) ≡ meant.Truth b
view_truth b = search (rules, the_lemmas)

pub nth_drop : (vs : List meant.Value) (b : ℕ) → nth (drop b vs) 0 ≡ nth vs b
nth_drop [] zero = refl
nth_drop [] (suc b) = refl
nth_drop (v ∷ vs) zero = refl
nth_drop (v ∷ vs) (suc b) = nth_drop vs b
