-- What is told of the events of a file, one by one.
use Rattle.std.proofs.Common.{◌≡◌, ℕ, zero, suc, ◌+◌, ◌<◌, List, [], ◌∷◌, ◌++◌, Option, Some, None, refl, sym, ap, ◌∙◌, subst, append_assoc, arith, map, drop, length, slice_index_or}
use Rattle.std.proofs.Math.Seq.{drop-cons}
use Rattle.std.specs.Prelude.{Bool, true, false, if◌then◌else◌, slice_get}
use Rattle.std.specs.Option.{option_map, option_to_list}
use Rattle.go_scopes_events.specs.Scopes.{IsOrderly, AreOrderly}
use Rattle.go_tree.specs.Lookups.{Asked, asked_in, asked_from}
use Rattle.go_tree.specs.Meanings.{Meaning}
use Rattle.go_scopes_lookup.specs.declared.unit.Unit as own
use Rattle.go_scopes_lookup.specs.Sited.{is_sited, sited}
use Rattle.go_scopes_lookup.specs.Views.{unit_view, units_view}

get_map : {X Y : Type 0} (f : X → Y) (xs : List X) (i : ℕ) → slice_get (map f xs) i ≡ option_map f (slice_get xs i)
get_map f [] zero = refl
get_map f [] (suc i) = refl
get_map f (x ∷ xs) zero = refl
get_map f (x ∷ xs) (suc i) = get_map f xs i

some_same : {X : Type 0} (x y : X) → Some x ≡ Some y → x ≡ y
some_same x y e = cc

-- elements at one index of two lists that are told alike
pub told_alike : {X Y Z : Type 0} (f : X → Z) (g : Y → Z) (xs : List X) (ys : List Y) (i : ℕ) (x : X) (y : Y) → map f xs ≡ map g ys → slice_get xs i ≡ Some x → slice_get ys i ≡ Some y → f x ≡ g y
told_alike f g xs ys i x y e h k =
    some_same (f x) (g y) (sym (ap (option_map f) h) ∙ sym (get_map f xs i) ∙ ap (λ l. slice_get l i) e ∙ get_map g ys i ∙ ap (option_map g) k)

pub get_some : {X : Type 0} (xs : List X) (i : ℕ) (d : X) → i < length xs → slice_get xs i ≡ Some (slice_index_or xs i d)
get_some [] i d less = absurd (omega (arith, less))
get_some (x ∷ xs) zero d less = refl
get_some (x ∷ xs) (suc i) d less = get_some xs i d (omega (arith, less))

pub drop_at : {X : Type 0} (xs : List X) (i : ℕ) (d : X) → i < length xs → drop i xs ≡ slice_index_or xs i d ∷ drop (i + 1) xs
drop_at xs i d less = let next : suc i ≡ i + 1 = omega arith in drop-cons xs i d less ∙ ap (λ k. slice_index_or xs i d ∷ drop k xs) next

append_none : {X : Type 0} (xs : List X) → xs ++ [] ≡ xs
append_none [] = refl
append_none (x ∷ xs) = ap (λ l. x ∷ l) (append_none xs)

pub map_one : {X Y : Type 0} (f : X → Y) (xs : List X) (x : X) → map f (xs ++ x ∷ []) ≡ map f xs ++ f x ∷ []
map_one f [] x = refl
map_one f (z ∷ xs) x = ap (λ l. f z ∷ l) (map_one f xs x)

-- a list with an element that may be there
pub out_none : {X Y : Type 0} (f : X → Y) (xs : List X) (r : Option X) → r ≡ None → map f xs ≡ map f xs ++ option_to_list (option_map f r)
out_none f xs r e = sym (ap (λ o. map f xs ++ option_to_list (option_map f o)) e ∙ append_none (map f xs))

pub out_some : {X Y : Type 0} (f : X → Y) (xs ys : List X) (r : Option X) (x : X) → ys ≡ xs ++ x ∷ [] → r ≡ Some x → map f ys ≡ map f xs ++ option_to_list (option_map f r)
out_some f xs ys r x e h = ap (map f) e ∙ map_one f xs x ∙ sym (ap (λ o. map f xs ++ option_to_list (option_map f o)) h)

pub orderly_at : (us : List own.Unit) (i : ℕ) (u d : own.Unit) → AreOrderly (units_view us) → i < length us → u ≡ slice_index_or us i d → IsOrderly (unit_view u).events
orderly_at [] i u d h less e = absurd (omega (arith, less))
orderly_at (x ∷ us) zero u d h less e = subst (λ y. IsOrderly (unit_view y).events) (sym e) h.0
orderly_at (x ∷ us) (suc i) u d h less e = orderly_at us i u d h.1 (omega (arith, less)) e

-- the names of one file more
pub asked_more : (ms : List Meaning) (units : List own.Unit) (i : ℕ) (unit : own.Unit) (out new whole : List Asked) → i < length units → unit ≡ slice_index_or units i unit → new ≡ out ++ asked_in ms i unit.tokens.now unit.events.items → out ++ asked_from ms i (units_view (drop i units)) ≡ whole → new ++ asked_from ms (i + 1) (units_view (drop (i + 1) units)) ≡ whole
asked_more ms units i unit out new whole less is more invariant =
    let rest = drop (i + 1) units in
    let here = asked_in ms i unit.tokens.now unit.events.items in
    let back : drop i units ≡ unit ∷ rest = drop_at units i unit less ∙ ap (λ x. x ∷ rest) (sym is) in
    let next : suc i ≡ i + 1 = omega arith in
    ap (λ l. l ++ asked_from ms (i + 1) (units_view rest)) more
    ∙ append_assoc out here (asked_from ms (i + 1) (units_view rest))
    ∙ ap (λ k. out ++ (here ++ asked_from ms k (units_view rest))) (sym next)
    ∙ ap (λ l. out ++ asked_from ms i (units_view l)) (sym back)
    ∙ invariant

-- the names in parts of declarations among more names
sited_one : (b : Bool) (a : Asked) (all front back : List Asked) → all ≡ front ++ back → (if b then a ∷ all else all) ≡ (if b then a ∷ front else front) ++ back
sited_one true a all front back e = ap (λ l. a ∷ l) e
sited_one false a all front back e = e

sited_append : (front back : List Asked) → sited (front ++ back) ≡ sited front ++ sited back
sited_append [] back = refl
sited_append (a ∷ front) back = sited_one (is_sited a.it.site) a (sited (front ++ back)) (sited front) (sited back) (sited_append front back)

-- those of one file more
pub sited_more : (ms : List Meaning) (units : List own.Unit) (i : ℕ) (unit : own.Unit) (out new whole : List Asked) → i < length units → unit ≡ slice_index_or units i unit → new ≡ out ++ sited (asked_in ms i unit.tokens.now unit.events.items) → out ++ sited (asked_from ms i (units_view (drop i units))) ≡ whole → new ++ sited (asked_from ms (i + 1) (units_view (drop (i + 1) units))) ≡ whole
sited_more ms units i unit out new whole less is more invariant =
    let rest = drop (i + 1) units in
    let here = asked_in ms i unit.tokens.now unit.events.items in
    let back : drop i units ≡ unit ∷ rest = drop_at units i unit less ∙ ap (λ x. x ∷ rest) (sym is) in
    let next : suc i ≡ i + 1 = omega arith in
    ap (λ l. l ++ sited (asked_from ms (i + 1) (units_view rest))) more
    ∙ append_assoc out (sited here) (sited (asked_from ms (i + 1) (units_view rest)))
    ∙ ap (λ k. out ++ (sited here ++ sited (asked_from ms k (units_view rest)))) (sym next)
    ∙ ap (λ l. out ++ l) (sym (sited_append here (asked_from ms (suc i) (units_view rest))))
    ∙ ap (λ l. out ++ sited (asked_from ms i (units_view l))) (sym back)
    ∙ invariant
