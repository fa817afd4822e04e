-- The token that declares an object has that object, and objects are numbered in the order of files and places.
use Rattle.std.proofs.Common.{◌≡◌, ℕ, zero, suc, ◌+◌, ◌-◌, ◌<◌, ◌≤◌, ◌⊎◌, inl, inr, Bool, true, false, ◌&&◌, if◌then◌else◌, List, [], ◌∷◌, ◌++◌, length, Option, Some, None, refl, sym, ap, ◌∙◌, subst, arith}
use Rattle.std.specs.Prelude.{slice_get, nat_eq}
use Rattle.std.proofs.lemmas.Bool.Decides.{nat_tests}
use Rattle.go_tokens.specs.Tokens.{TokenList}
use Rattle.go_tree.specs.declared.context.Block.{Block}
use Rattle.go_tree.specs.declared.context.Block.TheVariants as block
use Rattle.go_tree.specs.declared.event.Declaration.{Declaration}
use Rattle.go_tree.specs.declared.event.Event.{Event}
use Rattle.go_tree.specs.declared.event.Event.TheVariants as event
use Rattle.go_tree.specs.declared.object.Declared.{Declared}
use Rattle.go_tree.specs.declared.object.Object.{Object}
use Rattle.go_tree.specs.declared.object.Object.TheVariants as object
use Rattle.go_tree.specs.Contexts.{is_package}
use Rattle.go_tree.specs.Units.{word, bytes_at}
use Rattle.go_tree.specs.Declarations.{Found, is_function, found_in, found_from, found, is_new, new_among, declarations}
use Rattle.go_tree.specs.Imports.{imports_fmt}
use Rattle.go_tree.specs.Meanings.{Meaning, Numbers, first_numbers, own_number, behind_shared, numbers_behind, numbered, declared_meaning, imported_meaning, imported_from, meanings}
use Rattle.go_tree.specs.Objects.{own_object, object_at, token_object, token_objects, objects_from, objects}
use Rattle.go_tree.specs.Units as names
use Rattle.go_tree.specs.Uses.{declared_by, declared_in_package, own_locals, function_locals, uses, object_in, object_of, local_in, declared_as, is_behind, are_behind, are_in_order}
use Rattle.go_scopes_events.specs.Orders.{AreInOrder}
use Rattle.go_scopes_events.specs.Scopes.{AreOrderly}
use Rattle.go_scopes_lookup.specs.Tables.{declared_object, AreCounted}
use Rattle.go_scopes_lookup.proofs.Tables.{own_object-there}

some_is : {X : Type 0} (x y : X) → Some x ≡ Some y → x ≡ y
some_is x y e = cc

-- the second declaration stands behind the first
abbrev Behind : Found → Found → Type 0
Behind d x = is_behind (declared_by d) (declared_by x) ≡ true

behind_in_file : (d x : Found) → d.file ≡ x.file → d.it.name < x.it.name → Behind d x
behind_in_file d x e lt = grind (arith, nat_tests)

behind_file : (d x : Found) → d.file < x.file → Behind d x
behind_file d x lt = grind (arith, nat_tests)

behind_differs : (d x : Found) → Behind d x → nat_eq d.file x.file && nat_eq d.it.name x.it.name ≡ false
behind_differs d x h = grind (arith, nat_tests)

same_place : (d : Found) → nat_eq d.file d.file && nat_eq d.it.name d.it.name ≡ true
same_place d = grind (arith, nat_tests)

abbrev pub AreBehind : Found → List Found → Type 0
AreBehind d [] = Unit
AreBehind d (x ∷ xs) = Behind d x × AreBehind d xs

abbrev pub AreSorted : List Found → Type 0
AreSorted [] = Unit
AreSorted (d ∷ ds) = AreBehind d ds × AreSorted ds

-- all of a file behind that of the number n
abbrev AreLater : ℕ → List Found → Type 0
AreLater n [] = Unit
AreLater n (x ∷ xs) = (n < x.file) × AreLater n xs

abbrev Among : Found → List Found → Type 0
Among x [] = ⊥
Among x (y ∷ ys) = (x ≡ y) ⊎ Among x ys

behind_later : (d : Found) (n : ℕ) (xs : List Found) → d.file ≡ n → AreLater n xs → AreBehind d xs
behind_later d n [] e h = tt
behind_later d n (x ∷ xs) e h = (behind_file d x (omega (arith, e, h.0)), behind_later d n xs e h.1)

later_in : (m n : ℕ) (ts : TokenList) (es : List Event) (rest : List Found) → m < n → AreLater m rest → AreLater m (found_in n ts es ++ rest)
later_in m n ts [] rest lt h = h
later_in m n ts (event.Declaration d ∷ es) rest lt h = (lt, later_in m n ts es rest lt h)
later_in m n ts (e ∷ es) rest lt h = later_in m n ts es rest lt h

later_from : (m n : ℕ) (us : List names.Unit) → m < n → AreLater m (found_from n us)
later_from m n [] lt = tt
later_from m n (u ∷ us) lt = later_in m n u.tokens u.events (found_from (suc n) us) lt (later_from m (suc n) us (omega (arith, lt)))

behind_in : (d : Found) (n : ℕ) (ts : TokenList) (es : List Event) (rest : List Found) (i j : ℕ) → d.file ≡ n → d.it.name < i → AreInOrder i j es → AreLater n rest → AreBehind d (found_in n ts es ++ rest)
behind_in d n ts [] rest i j e lt o h = behind_later d n rest e h
behind_in d n ts (event.Declaration x ∷ es) rest i j e lt o h =
    let f : Found = record { file = n; name = word ts x.name; place = bytes_at n ts x.name; it = x } in
    (behind_in_file d f e (omega (arith, lt, o.0)), behind_in d n ts es rest (suc x.name) j e (omega (arith, lt, o.0)) o.1 h)
behind_in d n ts (event.Use u ∷ es) rest i j e lt o h = behind_in d n ts es rest (suc u.name) j e (omega (arith, lt, o.0)) o.1 h
behind_in d n ts (x ∷ es) rest i j e lt o h = behind_in d n ts es rest i j e lt o h

sorted_in : (n : ℕ) (ts : TokenList) (es : List Event) (rest : List Found) (i j : ℕ) → AreInOrder i j es → AreLater n rest → AreSorted rest → AreSorted (found_in n ts es ++ rest)
sorted_in n ts [] rest i j o h s = s
sorted_in n ts (event.Declaration x ∷ es) rest i j o h s =
    let f : Found = record { file = n; name = word ts x.name; place = bytes_at n ts x.name; it = x } in
    (behind_in f n ts es rest (suc x.name) j refl (omega arith) o.1 h, sorted_in n ts es rest (suc x.name) j o.1 h s)
sorted_in n ts (event.Use u ∷ es) rest i j o h s = sorted_in n ts es rest (suc u.name) j o.1 h s
sorted_in n ts (x ∷ es) rest i j o h s = sorted_in n ts es rest i j o h s

sorted_from : (n : ℕ) (us : List names.Unit) → AreOrderly us → AreSorted (found_from n us)
sorted_from n [] h = tt
sorted_from n (u ∷ us) h = sorted_in n u.tokens u.events (found_from (suc n) us) 0 h.0.end h.0.order (later_from n (suc n) us (omega arith)) (sorted_from (suc n) us h.1)

behind_kept : (d : Found) (all xs : List Found) → AreBehind d xs → AreBehind d (new_among all xs)
behind_kept d all [] h = tt
behind_kept d all (x ∷ xs) h = by (is_new all x) (behind_kept d all xs h.1)
  where
    by : (b : Bool) → AreBehind d (new_among all xs) → AreBehind d (if b then x ∷ new_among all xs else new_among all xs)
    by true g = (h.0, g)
    by false g = g

sorted_kept : (all xs : List Found) → AreSorted xs → AreSorted (new_among all xs)
sorted_kept all [] h = tt
sorted_kept all (x ∷ xs) h = by (is_new all x) (sorted_kept all xs h.1)
  where
    by : (b : Bool) → AreSorted (new_among all xs) → AreSorted (if b then x ∷ new_among all xs else new_among all xs)
    by true g = (behind_kept x all xs h.0, g)
    by false g = g

pub declarations_sorted : (us : List names.Unit) → AreOrderly us → AreSorted (declarations us)
declarations_sorted us h = sorted_kept (found us) (found us) (sorted_from 0 us h)

-- the declarations of the package, and those of a function
both : (a b : Bool) → a ≡ true → b ≡ true → a && b ≡ true
both true true e f = refl
both true false e f = f
both false b e f = e

package_behind : (d : Found) (xs : List Found) → AreBehind d xs → are_behind (declared_by d) (declared_in_package xs) ≡ true
package_behind d [] h = refl
package_behind d (x ∷ xs) h = by (is_package x.it.block) (package_behind d xs h.1)
  where
    by : (b : Bool) → are_behind (declared_by d) (declared_in_package xs) ≡ true → are_behind (declared_by d) (if b then declared_by x ∷ declared_in_package xs else declared_in_package xs) ≡ true
    by true g = both (is_behind (declared_by d) (declared_by x)) (are_behind (declared_by d) (declared_in_package xs)) h.0 g
    by false g = g

pub package_order : (xs : List Found) → AreSorted xs → are_in_order (declared_in_package xs) ≡ true
package_order [] h = refl
package_order (x ∷ xs) h = by (is_package x.it.block) (package_order xs h.1)
  where
    by : (b : Bool) → are_in_order (declared_in_package xs) ≡ true → are_in_order (if b then declared_by x ∷ declared_in_package xs else declared_in_package xs) ≡ true
    by true g = both (are_behind (declared_by x) (declared_in_package xs)) (are_in_order (declared_in_package xs)) (package_behind x xs h.0) g
    by false g = g

locals_behind : (d : Found) (xs : List Found) → AreBehind d xs → are_behind (declared_by d) (own_locals xs) ≡ true
locals_behind d [] h = refl
locals_behind d (x ∷ xs) h = by (is_package x.it.block) (is_function x.it.entity) (locals_behind d xs h.1)
  where
    by : (b f : Bool) → are_behind (declared_by d) (own_locals xs) ≡ true → are_behind (declared_by d) (if b && f then [] else if b then own_locals xs else declared_by x ∷ own_locals xs) ≡ true
    by true true g = refl
    by true false g = g
    by false f g = both (is_behind (declared_by d) (declared_by x)) (are_behind (declared_by d) (own_locals xs)) h.0 g

own_order : (xs : List Found) → AreSorted xs → are_in_order (own_locals xs) ≡ true
own_order [] h = refl
own_order (x ∷ xs) h = by (is_package x.it.block) (is_function x.it.entity) (own_order xs h.1)
  where
    by : (b f : Bool) → are_in_order (own_locals xs) ≡ true → are_in_order (if b && f then [] else if b then own_locals xs else declared_by x ∷ own_locals xs) ≡ true
    by true true g = refl
    by true false g = g
    by false f g = both (are_behind (declared_by x) (own_locals xs)) (are_in_order (own_locals xs)) (locals_behind x xs h.0) g

pub locals_order : (xs : List Found) → AreSorted xs → (f : ℕ) (ds : List Declared) → slice_get (function_locals xs) f ≡ Some ds → are_in_order ds ≡ true
locals_order [] h f ds e = cc
locals_order (x ∷ xs) h f ds e = by (is_package x.it.block) (is_function x.it.entity) f e (locals_order xs h.1)
  where
    by : (b g : Bool) (f : ℕ) → slice_get (if b && g then own_locals xs ∷ function_locals xs else function_locals xs) f ≡ Some ds → ((f : ℕ) (ds : List Declared) → slice_get (function_locals xs) f ≡ Some ds → are_in_order ds ≡ true) → are_in_order ds ≡ true
    by true true zero e rest = subst (λ l. are_in_order l ≡ true) (some_is (own_locals xs) ds e) (own_order xs h.1)
    by true true (suc f) e rest = rest f ds e
    by true false f e rest = rest f ds e
    by false g f e rest = rest f ds e

pub package_blocks : (xs : List Found) (n : ℕ) (d : Declared) → slice_get (declared_in_package xs) n ≡ Some d → is_package d.block ≡ true
package_blocks [] n d e = cc
package_blocks (x ∷ xs) n d e = by (is_package x.it.block) refl n e (package_blocks xs)
  where
    by : (b : Bool) → is_package x.it.block ≡ b → (n : ℕ) → slice_get (if b then declared_by x ∷ declared_in_package xs else declared_in_package xs) n ≡ Some d → ((n : ℕ) (d : Declared) → slice_get (declared_in_package xs) n ≡ Some d → is_package d.block ≡ true) → is_package d.block ≡ true
    by true p zero e rest = subst (λ y. is_package y.block ≡ true) (some_is (declared_by x) d e) p
    by true p (suc n) e rest = rest n d e
    by false p n e rest = rest n d e

own_blocks : (xs : List Found) (n : ℕ) (d : Declared) → slice_get (own_locals xs) n ≡ Some d → is_package d.block ≡ false
own_blocks [] n d e = cc
own_blocks (x ∷ xs) n d e = by (is_package x.it.block) (is_function x.it.entity) refl n e (own_blocks xs)
  where
    by : (b f : Bool) → is_package x.it.block ≡ b → (n : ℕ) → slice_get (if b && f then [] else if b then own_locals xs else declared_by x ∷ own_locals xs) n ≡ Some d → ((n : ℕ) (d : Declared) → slice_get (own_locals xs) n ≡ Some d → is_package d.block ≡ false) → is_package d.block ≡ false
    by true true p n e rest = cc
    by true false p n e rest = rest n d e
    by false f p zero e rest = subst (λ y. is_package y.block ≡ false) (some_is (declared_by x) d e) p
    by false f p (suc n) e rest = rest n d e

pub local_blocks : (xs : List Found) (f n : ℕ) (d : Declared) → local_in (slice_get (function_locals xs) f) n ≡ Some d → is_package d.block ≡ false
local_blocks [] f n d e = cc
local_blocks (x ∷ xs) f n d e = by (is_package x.it.block) (is_function x.it.entity) f e (local_blocks xs)
  where
    by : (b g : Bool) (f : ℕ) → local_in (slice_get (if b && g then own_locals xs ∷ function_locals xs else function_locals xs) f) n ≡ Some d → ((f n : ℕ) (d : Declared) → local_in (slice_get (function_locals xs) f) n ≡ Some d → is_package d.block ≡ false) → is_package d.block ≡ false
    by true true zero e rest = own_blocks xs n d e
    by true true (suc f) e rest = rest f n d e
    by true false f e rest = rest f n d e
    by false g f e rest = rest f n d e

-- The object o, which is declared as d, is that of one of the declarations, and the meanings have it at its place.
record Owned (ms : List Meaning) (ds : List Found) (o : Object) (d : Declared) : Type 0 where
  found : Found
  among : Among found ds
  same : declared_by found ≡ d
  own : declared_object found.file found.it.name ms ≡ Some o

behind_among : (d : Found) (xs : List Found) (x : Found) → AreBehind d xs → Among x xs → Behind d x
behind_among d [] x h a = absurd a
behind_among d (y ∷ xs) x h (inl e) = subst (Behind d) (sym e) h.0
behind_among d (y ∷ xs) x h (inr a) = behind_among d xs x h.1 a

owned_first : (x : Found) (ms : List Meaning) (ds : List Found) (o : Object) (d : Declared) → Some (declared_by x) ≡ Some d → Owned (declared_meaning x o ∷ ms) (x ∷ ds) o d
owned_first x ms ds o d e = record {
  found = x;
  among = inl refl;
  same = some_is (declared_by x) d e;
  own = ap (λ b. if b then Some o else declared_object x.file x.it.name ms) (same_place x);
}

owned_more : (x : Found) (p : Object) (ms : List Meaning) (ds : List Found) (o : Object) (d : Declared) → AreBehind x ds → Owned ms ds o d → Owned (declared_meaning x p ∷ ms) (x ∷ ds) o d
owned_more x p ms ds o d b h = record {
  found = h.found;
  among = inr h.among;
  same = h.same;
  own = ap (λ c. if c then Some p else declared_object h.found.file h.found.it.name ms) (behind_differs x h.found (behind_among x ds h.found b h.among)) ∙ h.own;
}

shared_behind : (k : Numbers) (b : Bool) → (behind_shared k b).shared ≡ suc k.shared
shared_behind k true = refl
shared_behind k false = refl

package_owned : (ds : List Found) (k : Numbers) (n : ℕ) (d : Declared) → AreSorted ds → slice_get (declared_in_package ds) n ≡ Some d → Owned (numbered k ds) ds (object.Package (k.shared + n)) d
package_owned [] k n d s e = cc
package_owned (x ∷ ds) k n d s e = by x.it.block n e (λ k n e. package_owned ds k n d s.1 e)
  where
    by : (b : Block) (n : ℕ) → slice_get (if is_package b then declared_by x ∷ declared_in_package ds else declared_in_package ds) n ≡ Some d → ((k : Numbers) (n : ℕ) → slice_get (declared_in_package ds) n ≡ Some d → Owned (numbered k ds) ds (object.Package (k.shared + n)) d) → Owned (declared_meaning x (own_number k b) ∷ numbered (numbers_behind k x.it.entity b) ds) (x ∷ ds) (object.Package (k.shared + n)) d
    by block.Package zero e rest =
        let first : k.shared ≡ k.shared + 0 = omega arith in
        subst (λ q. Owned (declared_meaning x (object.Package k.shared) ∷ numbered (behind_shared k (is_function x.it.entity)) ds) (x ∷ ds) (object.Package q) d) first (owned_first x (numbered (behind_shared k (is_function x.it.entity)) ds) ds (object.Package k.shared) d e)
    by block.Package (suc n) e rest =
        let l = behind_shared k (is_function x.it.entity) in
        let next : l.shared + n ≡ k.shared + suc n = omega (arith, shared_behind k (is_function x.it.entity)) in
        subst (λ q. Owned (declared_meaning x (object.Package k.shared) ∷ numbered l ds) (x ∷ ds) (object.Package q) d) next (owned_more x (object.Package k.shared) (numbered l ds) ds (object.Package (l.shared + n)) d s.0 (rest l n e))
    by (block.Local i) n e rest = owned_more x (own_number k (block.Local i)) (numbered (record k { local = suc k.local }) ds) ds (object.Package (k.shared + n)) d s.0 (rest (record k { local = suc k.local }) n e)

-- the locals in front of the next function
abbrev HereOwned : List Found → Declared → Type 0
HereOwned ds d = (k : Numbers) (n : ℕ) → slice_get (own_locals ds) n ≡ Some d → Owned (numbered k ds) ds (object.Local (k.functions - 1) (k.local + n)) d

here_owned : (ds : List Found) (k : Numbers) (n : ℕ) (d : Declared) → AreSorted ds → slice_get (own_locals ds) n ≡ Some d → Owned (numbered k ds) ds (object.Local (k.functions - 1) (k.local + n)) d
here_owned [] k n d s e = cc
here_owned (x ∷ ds) k n d s e = by x.it.block n e (λ k n e. here_owned ds k n d s.1 e)
  where
    in_package : (f : Bool) (n : ℕ) → slice_get (if f then [] else own_locals ds) n ≡ Some d → HereOwned ds d → Owned (declared_meaning x (object.Package k.shared) ∷ numbered (behind_shared k f) ds) (x ∷ ds) (object.Local (k.functions - 1) (k.local + n)) d
    in_package true n e rest = cc
    in_package false n e rest = owned_more x (object.Package k.shared) (numbered (behind_shared k false) ds) ds (object.Local (k.functions - 1) (k.local + n)) d s.0 (rest (behind_shared k false) n e)

    by : (b : Block) (n : ℕ) → slice_get (if is_package b && is_function x.it.entity then [] else if is_package b then own_locals ds else declared_by x ∷ own_locals ds) n ≡ Some d → HereOwned ds d → Owned (declared_meaning x (own_number k b) ∷ numbered (numbers_behind k x.it.entity b) ds) (x ∷ ds) (object.Local (k.functions - 1) (k.local + n)) d
    by block.Package n e rest = in_package (is_function x.it.entity) n e rest
    by (block.Local i) zero e rest =
        let first : k.local ≡ k.local + 0 = omega arith in
        let l : Numbers = record k { local = suc k.local } in
        subst (λ q. Owned (declared_meaning x (object.Local (k.functions - 1) k.local) ∷ numbered l ds) (x ∷ ds) (object.Local (k.functions - 1) q) d) first (owned_first x (numbered l ds) ds (object.Local (k.functions - 1) k.local) d e)
    by (block.Local i) (suc n) e rest =
        let l : Numbers = record k { local = suc k.local } in
        let next : suc k.local + n ≡ k.local + suc n = omega arith in
        subst (λ q. Owned (declared_meaning x (object.Local (k.functions - 1) k.local) ∷ numbered l ds) (x ∷ ds) (object.Local (k.functions - 1) q) d) next (owned_more x (object.Local (k.functions - 1) k.local) (numbered l ds) ds (object.Local (k.functions - 1) (suc k.local + n)) d s.0 (rest l n e))

-- those of the functions that follow
abbrev LocalOwned : List Found → ℕ → Declared → Type 0
LocalOwned ds n d = (k : Numbers) (f : ℕ) → local_in (slice_get (function_locals ds) f) n ≡ Some d → Owned (numbered k ds) ds (object.Local (k.functions + f) n) d

local_owned : (ds : List Found) (k : Numbers) (f n : ℕ) (d : Declared) → AreSorted ds → local_in (slice_get (function_locals ds) f) n ≡ Some d → Owned (numbered k ds) ds (object.Local (k.functions + f) n) d
local_owned [] k f n d s e = cc
local_owned (x ∷ ds) k f n d s e = by x.it.block f e (λ k f e. local_owned ds k f n d s.1 e)
  where
    in_package : (b : Bool) (f : ℕ) → local_in (slice_get (if b then own_locals ds ∷ function_locals ds else function_locals ds) f) n ≡ Some d → LocalOwned ds n d → Owned (declared_meaning x (object.Package k.shared) ∷ numbered (behind_shared k b) ds) (x ∷ ds) (object.Local (k.functions + f) n) d
    in_package true zero e rest =
        let l = behind_shared k true in
        let function : suc k.functions - 1 ≡ k.functions + 0 = omega arith in
        let number : 0 + n ≡ n = omega arith in
        subst (λ q. Owned (declared_meaning x (object.Package k.shared) ∷ numbered l ds) (x ∷ ds) (object.Local q n) d) function
        (subst (λ q. Owned (declared_meaning x (object.Package k.shared) ∷ numbered l ds) (x ∷ ds) (object.Local (suc k.functions - 1) q) d) number
        (owned_more x (object.Package k.shared) (numbered l ds) ds (object.Local (suc k.functions - 1) (0 + n)) d s.0 (here_owned ds l n d s.1 e)))
    in_package true (suc f) e rest =
        let l = behind_shared k true in
        let next : suc k.functions + f ≡ k.functions + suc f = omega arith in
        subst (λ q. Owned (declared_meaning x (object.Package k.shared) ∷ numbered l ds) (x ∷ ds) (object.Local q n) d) next
        (owned_more x (object.Package k.shared) (numbered l ds) ds (object.Local (suc k.functions + f) n) d s.0 (rest l f e))
    in_package false f e rest = owned_more x (object.Package k.shared) (numbered (behind_shared k false) ds) ds (object.Local (k.functions + f) n) d s.0 (rest (behind_shared k false) f e)

    by : (b : Block) (f : ℕ) → local_in (slice_get (if is_package b && is_function x.it.entity then own_locals ds ∷ function_locals ds else function_locals ds) f) n ≡ Some d → LocalOwned ds n d → Owned (declared_meaning x (own_number k b) ∷ numbered (numbers_behind k x.it.entity b) ds) (x ∷ ds) (object.Local (k.functions + f) n) d
    by block.Package f e rest = in_package (is_function x.it.entity) f e rest
    by (block.Local i) f e rest =
        let l : Numbers = record k { local = suc k.local } in
        owned_more x (own_number k (block.Local i)) (numbered l ds) ds (object.Local (k.functions + f) n) d s.0 (rest l f e)

-- imports declare nothing
imports_aside : (n t k : ℕ) (us : List names.Unit) (ms : List Meaning) → declared_object n t (imported_from k us ++ ms) ≡ declared_object n t ms
imports_aside n t k [] ms = refl
imports_aside n t k (u ∷ us) ms = by (imports_fmt u.tokens u.events) (imports_aside n t (suc k) us ms)
  where
    by : (b : Bool) → declared_object n t (imported_from (suc k) us ++ ms) ≡ declared_object n t ms → declared_object n t ((if b then imported_meaning k ∷ imported_from (suc k) us else imported_from (suc k) us) ++ ms) ≡ declared_object n t ms
    by true g = g
    by false g = g

-- The events tell of the declaration.
abbrev Tells : Declaration → List Event → Type 0
Tells x [] = ⊥
Tells x (event.Declaration d ∷ es) = (x ≡ d) ⊎ Tells x es
Tells x (e ∷ es) = Tells x es

told_here : (n : ℕ) (ts : TokenList) (es : List Event) (x : Found) → Among x (found_in n ts es) → (x.file ≡ n) × Tells x.it es
told_here n ts [] x a = absurd a
told_here n ts (event.Declaration d ∷ es) x (inl e) = (ap (λ f. f.file) e, inl (ap (λ f. f.it) e))
told_here n ts (event.Declaration d ∷ es) x (inr a) = let r = told_here n ts es x a in (r.0, inr r.1)
told_here n ts (e ∷ es) x a = told_here n ts es x a

order_grows : (i j : ℕ) (es : List Event) → AreInOrder i j es → i ≤ j
order_grows i j [] o = o
order_grows i j (event.Declaration d ∷ es) o = omega (arith, o.0, order_grows (suc d.name) j es o.1)
order_grows i j (event.Use u ∷ es) o = omega (arith, o.0, order_grows (suc u.name) j es o.1)
order_grows i j (e ∷ es) o = order_grows i j es o

name_between : (i j : ℕ) (es : List Event) (x : Declaration) → AreInOrder i j es → Tells x es → (i ≤ x.name) × (x.name < j)
name_between i j [] x o a = absurd a
name_between i j (event.Declaration d ∷ es) x o (inl e) =
    let same : x.name ≡ d.name = ap (λ y. y.name) e in
    (omega (arith, o.0, same), omega (arith, same, order_grows (suc d.name) j es o.1))
name_between i j (event.Declaration d ∷ es) x o (inr a) = let r = name_between (suc d.name) j es x o.1 a in (omega (arith, o.0, r.0), r.1)
name_between i j (event.Use u ∷ es) x o a = let r = name_between (suc u.name) j es x o.1 a in (omega (arith, o.0, r.0), r.1)
name_between i j (e ∷ es) x o a = name_between i j es x o a

equal_names : (a b : ℕ) → a ≡ b → nat_eq a b ≡ true
equal_names a b e = grind (arith, nat_tests)

lesser_name : (a b : ℕ) → a < b → nat_eq a b ≡ false
lesser_name a b e = grind (arith, nat_tests)

token_told : (ms : List Meaning) (n : ℕ) (ts : TokenList) (es : List Event) (x : Declaration) (i j : ℕ) → AreInOrder i j es → Tells x es → token_object ms n ts x.name es ≡ own_object n x.name (word ts x.name) ms ms
token_told ms n ts [] x i j o a = absurd a
token_told ms n ts (event.Declaration d ∷ es) x i j o (inl e) =
    ap (λ b. if b then own_object n x.name (word ts x.name) ms ms else token_object ms n ts x.name es) (equal_names d.name x.name (sym (ap (λ y. y.name) e)))
token_told ms n ts (event.Declaration d ∷ es) x i j o (inr a) =
    ap (λ b. if b then own_object n x.name (word ts x.name) ms ms else token_object ms n ts x.name es) (lesser_name d.name x.name (omega (arith, (name_between (suc d.name) j es x o.1 a).0)))
    ∙ token_told ms n ts es x (suc d.name) j o.1 a
token_told ms n ts (event.Use u ∷ es) x i j o a =
    ap (λ b. if b then object_at ms n x.name (word ts x.name) else token_object ms n ts x.name es) (lesser_name u.name x.name (omega (arith, (name_between (suc u.name) j es x o.1 a).0)))
    ∙ token_told ms n ts es x (suc u.name) j o.1 a
token_told ms n ts (e ∷ es) x i j o a = token_told ms n ts es x i j o a

row_at : (ms : List Meaning) (n : ℕ) (ts : TokenList) (es : List Event) (t k i : ℕ) → i < k → slice_get (token_objects ms n ts es t k) i ≡ Some (token_object ms n ts (t + i) es)
row_at ms n ts es t zero i lt = absurd (omega arith)
row_at ms n ts es t (suc k) zero lt = let same : t ≡ t + 0 = omega arith in ap (λ y. Some (token_object ms n ts y es)) same
row_at ms n ts es t (suc k) (suc i) lt = let next : suc t + i ≡ t + suc i = omega arith in row_at ms n ts es (suc t) k i (omega (arith, lt)) ∙ ap (λ y. Some (token_object ms n ts y es)) next

split_among : (x : Found) (xs ys : List Found) → Among x (xs ++ ys) → Among x xs ⊎ Among x ys
split_among x [] ys a = inr a
split_among x (y ∷ xs) ys (inl e) = inl (inl e)
split_among x (y ∷ xs) ys (inr a) = more (split_among x xs ys a)
  where
    more : Among x xs ⊎ Among x ys → Among x (y ∷ xs) ⊎ Among x ys
    more (inl b) = inl (inr b)
    more (inr b) = inr b

later_among : (m : ℕ) (xs : List Found) (x : Found) → AreLater m xs → Among x xs → m < x.file
later_among m [] x h a = absurd a
later_among m (y ∷ xs) x h (inl e) = let same : x.file ≡ y.file = ap (λ f. f.file) e in omega (arith, same, h.0)
later_among m (y ∷ xs) x h (inr a) = later_among m xs x h.1 a

object_row : (row : List (Option Object)) (t : ℕ) (o : Object) → slice_get row t ≡ Some (Some o) → object_in (Some row) t ≡ Some o
object_row row t o e = ap names_there e
  where
    names_there : Option (Option Object) → Option Object
    names_there None = None
    names_there (Some p) = p

-- the object at the place of one of the declarations
rows_own : (ms : List Meaning) (n : ℕ) (us : List names.Unit) (x : Found) (o : Object) (i : ℕ) → AreCounted us → Among x (found_from n us) → own_object x.file x.it.name [] ms ms ≡ Some o → ((w : List ℕ) → own_object x.file x.it.name w ms ms ≡ Some o) → x.file ≡ n + i → object_in (slice_get (objects_from ms n us) i) x.it.name ≡ Some o
rows_own ms n [] x o i c a e f p = absurd a
rows_own ms n (u ∷ us) x o i c a e f p = by i p (split_among x (found_in n u.tokens u.events) (found_from (suc n) us) a) (λ i a p. rows_own ms (suc n) us x o i c.1 a e f p)
  where
    by : (i : ℕ) → x.file ≡ n + i → Among x (found_in n u.tokens u.events) ⊎ Among x (found_from (suc n) us) → ((i : ℕ) → Among x (found_from (suc n) us) → x.file ≡ suc n + i → object_in (slice_get (objects_from ms (suc n) us) i) x.it.name ≡ Some o) → object_in (slice_get (objects_from ms n (u ∷ us)) i) x.it.name ≡ Some o
    by zero p (inl b) rest =
        let r = told_here n u.tokens u.events x b in
        let own : token_object ms n u.tokens x.it.name u.events ≡ Some o = token_told ms n u.tokens u.events x.it 0 (length u.tokens.tokens) c.0 r.1 ∙ subst (λ q. own_object q x.it.name (word u.tokens x.it.name) ms ms ≡ Some o) r.0 (f (word u.tokens x.it.name)) in
        let zero_plus : 0 + x.it.name ≡ x.it.name = omega arith in
        object_row (token_objects ms n u.tokens u.events 0 (length u.tokens.tokens)) x.it.name o
        (row_at ms n u.tokens u.events 0 (length u.tokens.tokens) x.it.name (name_between 0 (length u.tokens.tokens) u.events x.it c.0 r.1).1
        ∙ ap (λ y. Some (token_object ms n u.tokens y u.events)) zero_plus ∙ ap Some own)
    by (suc i) p (inl b) rest = absurd (omega (arith, p, (told_here n u.tokens u.events x b).0))
    by zero p (inr b) rest = absurd (omega (arith, p, later_among n (found_from (suc n) us) x (later_from n (suc n) us (omega arith)) b))
    by (suc i) p (inr b) rest = rest i b (omega (arith, p))

among_kept : (all xs : List Found) (x : Found) → Among x (new_among all xs) → Among x xs
among_kept all [] x a = a
among_kept all (y ∷ xs) x a = by (is_new all y) a (among_kept all xs x)
  where
    by : (b : Bool) → Among x (if b then y ∷ new_among all xs else new_among all xs) → (Among x (new_among all xs) → Among x xs) → Among x (y ∷ xs)
    by true (inl e) g = inl e
    by true (inr a) g = inr (g a)
    by false a g = inr (g a)

owned_own : (us : List names.Unit) (o : Object) (d : Declared) → AreCounted us → Owned (numbered first_numbers (declarations us)) (declarations us) o d → object_of (uses us) d.file d.name ≡ Some o
owned_own us o d c h =
    let x = h.found in
    let ms = meanings us in
    let there : declared_object x.file x.it.name ms ≡ Some o = imports_aside x.file x.it.name 0 us (numbered first_numbers (declarations us)) ∙ h.own in
    let own : (w : List ℕ) → own_object x.file x.it.name w ms ms ≡ Some o = λ w. own_object-there x.file x.it.name w ms ms o there in
    subst (λ y. object_of (uses us) y.file y.name ≡ Some o) h.same
    (rows_own ms 0 us x o x.file c (among_kept (found us) (found us) x h.among) (own []) own (omega arith))

pub uses_own : (us : List names.Unit) → AreOrderly us → AreCounted us → (o : Object) (d : Declared) → declared_as (uses us) o ≡ Some d → object_of (uses us) d.file d.name ≡ Some o
uses_own us h c (object.Package n) d e =
    let zero_plus : 0 + n ≡ n = omega arith in
    owned_own us (object.Package n) d c (subst (λ q. Owned (numbered first_numbers (declarations us)) (declarations us) (object.Package q) d) zero_plus (package_owned (declarations us) first_numbers n d (declarations_sorted us h) e))
uses_own us h c (object.Local f n) d e =
    let zero_plus : 0 + f ≡ f = omega arith in
    owned_own us (object.Local f n) d c (subst (λ q. Owned (numbered first_numbers (declarations us)) (declarations us) (object.Local q n) d) zero_plus (local_owned (declarations us) first_numbers f n d (declarations_sorted us h) e))
uses_own us h c o d e = let no : None ≡ Some d = e in cc
