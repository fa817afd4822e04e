-- The outlines of a package to a file of which a function is appended, and the numbers of its objects.
use Rattle.std.proofs.Common.{◌≡◌, ◌∙◌, ℕ, zero, suc, ◌<◌, ◌≤◌, inl, inr, Bool, true, false, List, [], ◌∷◌, ◌++◌, length, map, Option, Some, None, refl, sym, ap, arith}
use Rattle.std.specs.Prelude.{if◌then◌else◌, nat_eq, nat_lt}
use Rattle.std.specs.Option.{option_map}
use Rattle.std.specs.List.{AllByRecursion}
use Rattle.std.proofs.lemmas.Bool.Decides.{nat_tests}
use Rattle.go_grammar.specs.Trees.{Tree}
use Rattle.go_tree.specs.declared.object.Declared.{Declared}
use Rattle.go_tree.specs.declared.object.Object.{Object}
use Rattle.go_tree.specs.declared.object.Object.TheVariants as object
use Rattle.go_tree.specs.Uses.{object_of}
use Rattle.go_package_alike.specs.Scopes.{AllTokens}
use Rattle.go_package_defs.specs.Declarations.{Specification}
use Rattle.go_package_defs.specs.Knowledge.{outlines, place_of, following, column_of, found_or, declaring, outline_by, no_specification}
use Rattle.go_package_defs.specs.Sources.{Package, text_at, number_in, number_before, number_at, needed_at}
use Rattle.go_heads_added.specs.Added.{Gap, beyond, shifted, Stands}
use Rattle.go_package_added.specs.Appended.{IsClosed}
use Rattle.go_package_added.specs.OneMore.{inserted, all_beyond, IsKept, MaybeReadAt}
use Rattle.go_package_added.proofs.Inserted.{map_both, mapped_count}
use Rattle.go_package_added.proofs.Specified.{IsBelow, MaybeBelow, IsPlaced, below_tokens, all_of_them}

-- Each token but those from the token n of the file k on says the same, and names the same object by its new number; what it declares needs
-- the same.
pub record KeepsTokens (k n : ℕ) (p q : Package) (g : Gap) : Type 0 where
  pub texts : (m t : ℕ) → Stands k n m t → text_at q m t ≡ text_at p m t
  pub objects : (m t : ℕ) → Stands k n m t → object_of q.uses m t ≡ option_map (shifted g) (object_of p.uses m t)
  pub needed : (m t : ℕ) → Stands k n m t → IsClosed p m t → (c : ℕ) (full : Bool) → needed_at q m t c full ≡ all_beyond g.shared (needed_at p m t c full)

pub beyond_append : (a : ℕ) (xs ys : List ℕ) → all_beyond a (xs ++ ys) ≡ all_beyond a xs ++ all_beyond a ys
beyond_append a [] ys = refl
beyond_append a (x ∷ xs) ys = ap (λ l. beyond a x ∷ l) (beyond_append a xs ys)

number_beyond : (g : Gap) (o : Option Object) → number_in (option_map (shifted g) o) ≡ option_map (beyond g.shared) (number_in o)
number_beyond g None = refl
number_beyond g (Some (object.Package n)) = refl
number_beyond g (Some (object.Local f n)) = refl
number_beyond g (Some (object.Predeclared w)) = refl
number_beyond g (Some object.Import) = refl

pub before_beyond : (a : ℕ) (o : Option ℕ) (ns : List ℕ) → number_before (option_map (beyond a) o) (all_beyond a ns) ≡ all_beyond a (number_before o ns)
before_beyond a None ns = refl
before_beyond a (Some n) ns = refl

never : false ≡ true → ⊥
never e = cc

-- in another file each token stays
pub stands_elsewhere : (k n m t : ℕ) → nat_eq m k ≡ false → Stands k n m t
stands_elsewhere k n m t e h = absurd (never (sym e ∙ h))

pub number_moved : (p q : Package) (g : Gap) (m t : ℕ) → object_of q.uses m t ≡ option_map (shifted g) (object_of p.uses m t) → number_at q m t ≡ option_map (beyond g.shared) (number_at p m t)
number_moved p q g m t e = ap number_in e ∙ number_beyond g (object_of p.uses m t)

module _ (k n : ℕ) (p q : Package) (g : Gap) (keeps : KeepsTokens k n p q g) where
  maybe_all : (o : Option Tree) → MaybeReadAt (λ i. true) o
  maybe_all None = tt
  maybe_all (Some t) = all_of_them t

  each_all : (xs : List Tree) → AllByRecursion (AllTokens (λ i. true)) xs
  each_all [] = tt
  each_all (x ∷ xs) = (all_of_them x, each_all xs)

  maybe_below : (o : Option Tree) → MaybeBelow n o → MaybeReadAt (λ i. nat_lt i n) o
  maybe_below None h = tt
  maybe_below (Some t) h = below_tokens n t h

  each_below : (xs : List Tree) → AllByRecursion (IsBelow n) xs → AllByRecursion (AllTokens (λ i. nat_lt i n)) xs
  each_below [] h = tt
  each_below (x ∷ xs) h = (below_tokens n x h.0, each_below xs h.1)

  test_below : (i : ℕ) → nat_lt i n ≡ true → i < n
  test_below i e = grind (arith, nat_tests)

  pub is_kept : (d : Specification) → IsPlaced k n d → IsKept p q g d
  is_kept d (inl e) = record {
    test = λ i. true;
    type_read = maybe_all d.type_tree;
    values_read = each_all d.values;
    texts = λ i h. keeps.texts d.file i (stands_elsewhere k n d.file i e);
    objects = λ i h. keeps.objects d.file i (stands_elsewhere k n d.file i e);
  }
  is_kept d (inr b) = record {
    test = λ i. nat_lt i n;
    type_read = maybe_below d.type_tree b.type_below;
    values_read = each_below d.values b.values_below;
    texts = λ i h. keeps.texts d.file i (λ e. test_below i h);
    objects = λ i h. keeps.objects d.file i (λ e. test_below i h);
  }

  pub all_kept : (ds : List Specification) → AllByRecursion (IsPlaced k n) ds → AllByRecursion (IsKept p q g) ds
  all_kept [] h = tt
  all_kept (d ∷ ds) h = (is_kept d h.0, all_kept ds h.1)

  -- where no specification declares a name
  none_kept : IsKept p q g no_specification
  none_kept = record { test = λ i. false; type_read = tt; values_read = tt; texts = λ i h. absurd (never h); objects = λ i h. absurd (never h) }

  declaring_kept : (ds : List Specification) → AllByRecursion (IsKept p q g) ds → (m t : ℕ) → IsKept p q g (declaring ds m t).0
  declaring_kept [] h m t = none_kept
  declaring_kept (d ∷ ds) h m t = by (column_of m t d) (declaring_kept ds h.1 m t)
    where
      by : (o : Option ℕ) → IsKept p q g (declaring ds m t).0 → IsKept p q g (found_or d o (declaring ds m t)).0
      by None w = w
      by (Some c) w = h.0

  outlined_kept : (ds : List Specification) → AllByRecursion (IsKept p q g) ds → (es : List Declared) → AllByRecursion (λ o. IsKept p q g o.specification) (map (λ (d : Declared). outline_by p d (declaring ds d.file d.name)) es)
  outlined_kept ds h [] = tt
  outlined_kept ds h (e ∷ es) = (declaring_kept ds h e.file e.name, outlined_kept ds h es)

  pub outlines_kept : (ds : List Specification) → AllByRecursion (IsKept p q g) ds → AllByRecursion (λ o. IsKept p q g o.specification) (outlines p ds)
  outlines_kept ds h = outlined_kept ds h p.uses.package_level

-- ---- which specification declares a name

pub declaring_skips : (f : Specification) (front rest : List Specification) (m t : ℕ) → column_of m t f ≡ None → declaring (front ++ f ∷ rest) m t ≡ declaring (front ++ rest) m t
declaring_skips f [] rest m t e = ap (λ o. found_or f o (declaring rest m t)) e
declaring_skips f (d ∷ ds) rest m t e = ap (found_or d (column_of m t d)) (declaring_skips f ds rest m t e)

declaring_finds : (f : Specification) (front rest : List Specification) (m t c : ℕ) → AllByRecursion (λ d. column_of m t d ≡ None) front → column_of m t f ≡ Some c → declaring (front ++ f ∷ rest) m t ≡ (f, c)
declaring_finds f [] rest m t c h e = ap (λ o. found_or f o (declaring rest m t)) e
declaring_finds f (d ∷ ds) rest m t c h e = ap (λ o. found_or d o (declaring (ds ++ f ∷ rest) m t)) h.0 ∙ declaring_finds f ds rest m t c h.1 e

no_place : (t : ℕ) (ts : List ℕ) (n : ℕ) → n ≤ t → AllByRecursion (λ u. u < n) ts → place_of t ts ≡ None
no_place t [] n l h = refl
no_place t (u ∷ us) n l h =
    ap (λ b. if b then Some 0 else following (place_of t us)) (let b = h.0 in let z : nat_eq t u ≡ false = grind (arith, nat_tests) in z) ∙ ap following (no_place t us n l h.1)

module _ (k n i : ℕ) (later : n ≤ i) (f : Specification) (file : f.file ≡ k) (names : f.names ≡ i ∷ []) where
  -- the function declares no old name
  pub not_here : (m t : ℕ) → Stands k n m t → column_of m t f ≡ None
  not_here m t s = ap (λ j. if nat_eq j m then place_of t f.names else None) file ∙ by (nat_eq k m) refl
    where
      by : (b : Bool) → nat_eq k m ≡ b → (if b then place_of t f.names else None) ≡ None
      by false e = refl
      by true e =
          let below : t < n = s (let z : nat_eq m k ≡ true = grind (arith, nat_tests) in z) in
          ap (place_of t) names ∙ ap (λ b. if b then Some 0 else None) (let z : nat_eq t i ≡ false = grind (arith, nat_tests) in z)

  -- no old specification declares its name
  name_new : (d : Specification) → IsPlaced k n d → column_of k i d ≡ None
  name_new d (inl e) = ap (λ b. if b then place_of i d.names else None) e
  name_new d (inr b) = by (nat_eq d.file k) (no_place i d.names n later b.names_below)
    where
      by : (c : Bool) → place_of i d.names ≡ None → (if c then place_of i d.names else None) ≡ None
      by true e = e
      by false e = refl

  names_new : (ds : List Specification) → AllByRecursion (IsPlaced k n) ds → AllByRecursion (λ d. column_of k i d ≡ None) ds
  names_new [] h = tt
  names_new (d ∷ ds) h = (name_new d h.0, names_new ds h.1)

  here : column_of k i f ≡ Some 0
  here =
      ap (λ j. if nat_eq j k then place_of i f.names else None) file ∙ ap (λ b. if b then place_of i f.names else None) (let z : nat_eq k k ≡ true = grind (arith, nat_tests) in z)
      ∙ ap (place_of i) names ∙ ap (λ b. if b then Some 0 else None) (let z : nat_eq i i ≡ true = grind (arith, nat_tests) in z)

  pub function_declared : (front rest : List Specification) → AllByRecursion (IsPlaced k n) front → declaring (front ++ f ∷ rest) k i ≡ (f, 0)
  function_declared front rest h = declaring_finds f front rest k i 0 (names_new front h) here

-- ---- the objects of the package

inserted_at : {A : Type 0} (x : A) (xs ys : List A) (a : ℕ) → length xs ≡ a → inserted a x (xs ++ ys) ≡ xs ++ x ∷ ys
inserted_at x [] ys zero e = refl
inserted_at x [] ys (suc a) e = absurd (omega (arith, e))
inserted_at x (y ∷ xs) ys zero e = absurd (omega (arith, e))
inserted_at x (y ∷ xs) ys (suc a) e = ap (λ l. y ∷ l) (inserted_at x xs ys a (omega (arith, e)))

-- A list that is another one with one element between, where each of the others has what it had.
pub put_in : {A B C : Type 0} (to : A → B) (f : A → C) (h : B → C) (x : B) (y : C) (xs ys : List A) (a : ℕ) → length xs ≡ a → h x ≡ y → AllByRecursion (λ z. h (to z) ≡ f z) (xs ++ ys)
    → map h (map to xs ++ x ∷ map to ys) ≡ inserted a y (map f (xs ++ ys))
put_in {A} {B} {C} to f h x y xs ys a e i all =
    map_both h (map to xs) (x ∷ map to ys) ∙ ap (λ l. l ++ h x ∷ map h (map to ys)) (each xs (front xs ys all)) ∙ ap (λ z. map f xs ++ z ∷ map h (map to ys)) i
    ∙ ap (λ l. map f xs ++ y ∷ l) (each ys (rest xs ys all)) ∙ sym (inserted_at y (map f xs) (map f ys) a (let c = mapped_count f xs in omega (arith, c, e))) ∙ ap (inserted a y) (sym (map_both f xs ys))
  where
    each : (zs : List A) → AllByRecursion (λ z. h (to z) ≡ f z) zs → map h (map to zs) ≡ map f zs
    each [] w = refl
    each (z ∷ zs) w = ap (λ v. v ∷ map h (map to zs)) w.0 ∙ ap (λ l. f z ∷ l) (each zs w.1)

    front : (us vs : List A) → AllByRecursion (λ z. h (to z) ≡ f z) (us ++ vs) → AllByRecursion (λ z. h (to z) ≡ f z) us
    front [] vs w = tt
    front (u ∷ us) vs w = (w.0, front us vs w.1)

    rest : (us vs : List A) → AllByRecursion (λ z. h (to z) ≡ f z) (us ++ vs) → AllByRecursion (λ z. h (to z) ≡ f z) vs
    rest [] vs w = w
    rest (u ∷ us) vs w = rest us vs w.1
