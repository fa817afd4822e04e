-- Names in byte order: two such lists of the same names are one.
use Rattle.std.proofs.Common.{◌≡◌, ℕ, ◌≤◌, Bool, true, false, ◌&&◌, List, [], ◌∷◌, length, map, filter, Option, Some, None, IfSome, IsSome, IfOk, Result, Ok, Err, refl, sym, ap, subst, ◌∙◌}
use Rattle.std.specs.Prelude.{nat_eq, IsPermutation, T}
use Rattle.std.specs.declared.cmp.Ordering.{Ordering}
use Rattle.std.specs.declared.cmp.Ordering.TheVariants.{Less, Equal, Greater}
use Rattle.std.specs.List.{All, AllByRecursion, Contains, list_any}
use Rattle.std.specs.List.Sorted.{IsStrictlySortedBy}
use Rattle.std.specs.Option.{is_some}
use Rattle.std.specs.Ordering.{nat_cmp, eq_by_cmp, is_lt, is_eq}
use Rattle.std.specs.Cmp.{eq_by_cmp_equiv}
use Rattle.std.specs.Cmp.Lexicographic.{slice_cmp, pointwise, nat_list_cmp_total, texts_ties}
use Rattle.std.proofs.lemmas.Map.Keys.{sorted_head, sorted_tail}
use Rattle.std.proofs.lemmas.List.Elements.{All-filter}
use Rattle.std.proofs.lemmas.Map.Views.{All-from_any, list_any-from_Contains, Contains-from_any, any-filter_same}
use Rattle.std.proofs.lemmas.List.{length-map}
use Rattle.std.proofs.lemmas.List.Kept.{IsStrictlySortedBy-filter}
use Rattle.std.proofs.lemmas.List.Sorted.{list_any-IsPermutation}
use Rattle.go_base.specs.Name.{is_go_file_name}
use Rattle.port_io.specs.Held.{Files}
use Rattle.std.specs.declared.vec.Vec.{Vec}
use Rattle.std.specs.declared.alloc.Global.{Global}
use Rattle.go_base.specs.declared.bytes.FileText.{FileText}
use Rattle.go_base.specs.Package.{ComesBefore, Ascends, IsPackage, most_files, most_bytes, total_bytes}
use Rattle.clone_server.specs.declared.folder.OpenError.{OpenError}
use Rattle.clone_server.specs.Opening.{names_of}
use Rattle.std.specs.FinMap.Entries.{below_all, is_sorted, find, same_entries, is_some-find}
use Rattle.std.specs.FinMap.{nat_cmp-IsAntisymmetric, slice_cmp-IsAntisymmetric, entries_sorted}
use Rattle.std.specs.FinMap as finite

abbrev pub order : List ℕ → List ℕ → Ordering
order = slice_cmp nat_cmp

-- names that compare alike are one
pub one_name : (x y : List ℕ) → order x y ≡ Equal → x ≡ y
one_name = slice_cmp-IsAntisymmetric nat_cmp-IsAntisymmetric

pub same_texts : (x y : List ℕ) → pointwise nat_eq x y ≡ true → x ≡ y
same_texts x y e = one_name x y (by_order (order x y) refl)
  where
    is : is_eq (order x y) ≡ true
    is = sym (texts_ties x y) ∙ e

    by_order : (r : Ordering) → order x y ≡ r → order x y ≡ Equal
    by_order Equal h = h
    by_order Less h = (let wrong : is_eq Less ≡ true = ap is_eq (sym h) ∙ is in cc)
    by_order Greater h = (let wrong : is_eq Greater ≡ true = ap is_eq (sym h) ∙ is in cc)

order_ties : (x y : List ℕ) → eq_by_cmp order x y ≡ true → x ≡ y
order_ties x y e = same_texts x y (texts_ties x y ∙ e)

-- ---- entries without values

keyed : List (List ℕ) → List (List ℕ × Unit {0})
keyed = map (λ x. (x, tt))

keys_of : (xs : List (List ℕ)) → map (λ (e : List ℕ × Unit {0}). e.0) (keyed xs) ≡ xs
unfolding keyed
keys_of [] = refl
keys_of (x ∷ xs) = ap (λ l. x ∷ l) (keys_of xs)

below : (x : List ℕ) (xs : List (List ℕ)) → AllByRecursion (λ y. order x y ≡ Less) xs → T (below_all order x (keyed xs))
unfolding keyed
below x [] h = tt
below x (y ∷ ys) h = both (is_lt (order x y)) (below_all order x (keyed ys)) (subst (λ r. T (is_lt r)) (sym h.0) tt) (below x ys h.1)
  where
    both : (a b : Bool) → T a → T b → T (a && b)
    both true b p q = q
    both false b p q = p

sorted_entries : (xs : List (List ℕ)) → IsStrictlySortedBy order xs → T (is_sorted order (keyed xs))
unfolding keyed
sorted_entries [] h = tt
sorted_entries (x ∷ xs) h = both (below_all order x (keyed xs)) (is_sorted order (keyed xs)) (below x xs (sorted_head order x xs h)) (sorted_entries xs (sorted_tail order x xs h))
  where
    both : (a b : Bool) → T a → T b → T (a && b)
    both true b p q = q
    both false b p q = p

one_unit : (a b : Option (Unit {0})) → is_some a ≡ is_some b → a ≡ b
one_unit None None e = refl
one_unit None (Some y) e = cc
one_unit (Some x) None e = cc
one_unit (Some x) (Some y) e = refl

-- two lists in strict order that contain the same names are one
one_order : (xs ys : List (List ℕ)) → IsStrictlySortedBy order xs → IsStrictlySortedBy order ys →
    ((q : List ℕ) → list_any (eq_by_cmp order q) xs ≡ list_any (eq_by_cmp order q) ys) → xs ≡ ys
one_order xs ys sx sy member =
    sym (keys_of xs) ∙ ap (map (λ (e : List ℕ × Unit {0}). e.0)) (same_entries order nat_list_cmp_total one_name (keyed xs) (keyed ys) (sorted_entries xs sx) (sorted_entries ys sy) found) ∙ keys_of ys
  where
    found : (q : List ℕ) → find order q (keyed xs) ≡ find order q (keyed ys)
    found q = one_unit (find order q (keyed xs)) (find order q (keyed ys))
        (is_some-find order q (keyed xs) ∙ ap (list_any (eq_by_cmp order q)) (keys_of xs) ∙ member q ∙ sym (ap (list_any (eq_by_cmp order q)) (keys_of ys)) ∙ sym (is_some-find order q (keyed ys)))

alike : (p q : Bool) → (p ≡ true → q ≡ true) → (q ≡ true → p ≡ true) → p ≡ q
alike true q f g = sym (f refl)
alike false true f g = g refl
alike false false f g = refl

-- the same names, by a test
any_alike : (xs ys : List (List ℕ)) → ((x : List ℕ) → Contains xs x → Contains ys x) → ((x : List ℕ) → Contains ys x → Contains xs x) →
    (q : List ℕ) → list_any (eq_by_cmp order q) xs ≡ list_any (eq_by_cmp order q) ys
any_alike xs ys f g q = alike (list_any (eq_by_cmp order q) xs) (list_any (eq_by_cmp order q) ys)
    (λ e. list_any-from_Contains (eq_by_cmp_equiv nat_list_cmp_total) q ys (f q (Contains-from_any order_ties q xs e)))
    (λ e. list_any-from_Contains (eq_by_cmp_equiv nat_list_cmp_total) q xs (g q (Contains-from_any order_ties q ys e)))

any_filtered : (p : List ℕ → Bool) (xs : List (List ℕ)) (q : List ℕ) → list_any (eq_by_cmp order q) (filter p xs) ≡ (p q && list_any (eq_by_cmp order q) xs)
any_filtered p xs q = any-filter_same (eq_by_cmp order q) p (p q) (λ k e. ap p (sym (order_ties q k e))) xs

-- ---- the names that a folder lists

-- what is said of a value where there is one
pub told : {A : Type 0} (o : Option A) (P : A → Type 0) (a : A) → IfSome o P → o ≡ Some a → P a
told None P a h e = cc
told (Some b) P a h e = let same : b ≡ a = cc in subst P same h

second : (a b : Bool) → T (a && b) → T b
second true b h = h
second false b h = absurd h

first : (a b : Bool) → T (a && b) → T a
first true b h = tt
first false b h = h

less : (r : Ordering) → T (is_lt r) → r ≡ Less
less Less h = refl
less Equal h = absurd h
less Greater h = absurd h

all_below : (x : List ℕ) (es : List (List ℕ × List ℕ)) → T (below_all order x es) → AllByRecursion (λ y. order x y ≡ Less) (map (λ (e : List ℕ × List ℕ). e.0) es)
all_below x [] h = tt
all_below x (e ∷ es) h = (less (order x e.0) (first (is_lt (order x e.0)) (below_all order x es) h), all_below x es (second (is_lt (order x e.0)) (below_all order x es) h))

strict : (es : List (List ℕ × List ℕ)) → T (is_sorted order es) → IsStrictlySortedBy order (map (λ (e : List ℕ × List ℕ). e.0) es)
unfolding IsStrictlySortedBy
strict [] h = tt
strict (e ∷ es) h = (all_below e.0 es (first (below_all order e.0 es) (is_sorted order es) h), strict es (second (below_all order e.0 es) (is_sorted order es) h))

pub names_are : (files : Files) (listed names : List (List ℕ)) → IsPermutation (finite.keys files) listed → IsStrictlySortedBy order names →
    ((x : List ℕ) → Contains (filter is_go_file_name listed) x → Contains names x) → ((x : List ℕ) → Contains names x → Contains (filter is_go_file_name listed) x) → names ≡ names_of files
names_are files listed names moved sorted keeps adds_none =
    one_order names (names_of files) sorted (IsStrictlySortedBy-filter order is_go_file_name (finite.keys files) (strict (finite.entries files) (entries_sorted files)))
    (λ q. any_alike names (filter is_go_file_name listed) adds_none keeps q ∙ any_filtered is_go_file_name listed q
    ∙ ap (λ b. is_go_file_name q && b) (sym (list_any-IsPermutation (eq_by_cmp order q) (finite.keys files) listed moved))
    ∙ sym (any_filtered is_go_file_name (finite.keys files) q))

-- each of them is held
pub held_names : (files : Files) → All (λ name. IsSome (finite.get files name)) (names_of files)
held_names files =
    All-filter is_go_file_name (λ name. IsSome (finite.get files name)) (finite.keys files)
    (All-from_any (eq_by_cmp_equiv nat_list_cmp_total) (λ name. IsSome (finite.get files name)) (finite.keys files) (λ q e. finite.contains_key-keys files q ∙ e))

-- ---- files with such names are a package

names_after : (name : List ℕ) (files : List FileText) → AllByRecursion (λ y. order name y ≡ Less) (map (λ (f : FileText). f.name) files) → AllByRecursion (λ (g : FileText). ComesBefore name g.name) files
names_after name [] h = tt
names_after name (f ∷ fs) h = (h.0, names_after name fs h.1)

ascends : (files : List FileText) → IsStrictlySortedBy order (map (λ (f : FileText). f.name) files) → Ascends files
ascends [] h = tt
ascends (f ∷ fs) h = (names_after f.name fs (sorted_head order f.name (map (λ (g : FileText). g.name) fs) h), ascends fs (sorted_tail order f.name (map (λ (g : FileText). g.name) fs) h))

pub are_package : (r : Result (Vec FileText Global) OpenError) (names : List (List ℕ)) → IsStrictlySortedBy order names → length names ≤ most_files →
    IfOk r (λ v. map (λ (f : FileText). f.name) v.items ≡ names) → IfOk r (λ v. total_bytes v.items ≤ most_bytes) → IfOk r (λ v. IsPackage v.items)
are_package (Ok v) names sorted few e small = record {
  ascends = ascends v.items (subst (IsStrictlySortedBy order) (sym e) sorted);
  few = subst (λ n. n ≤ most_files) (ap length (sym e) ∙ length-map v.items (λ (f : FileText). f.name)) few;
  small = small;
}
are_package (Err x) names sorted few e small = tt
