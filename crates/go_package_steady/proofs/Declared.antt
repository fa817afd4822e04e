-- Types that are declared one behind the other are locals in order.
use Rattle.std.proofs.Common.{◌≡◌, ◌∙◌, ℕ, zero, suc, ◌<◌, ◌≤◌, inl, inr, Bool, true, false, List, [], ◌∷◌, Option, Some, None, refl, sym, ap, subst, arith}
use Rattle.std.specs.Prelude.{◌&&◌, ◌||◌, nat_eq, nat_lt, slice_get}
use Rattle.std.specs.List.{AllByRecursion}
use Rattle.std.specs.Option.{option_map}
use Rattle.std.proofs.lemmas.Bool.Decides.{nat_tests}
use Rattle.std.proofs.lemmas.Option.{slice_get-map}
use Rattle.go_tree.specs.declared.object.Declared.{Declared}
use Rattle.go_tree.specs.declared.object.Object.TheVariants as object
use Rattle.go_tree.specs.Uses.{UsesView, IsComplete, object_of, local_in, local_of, is_behind, are_behind, are_in_order}
use Rattle.go_stmts_defs.specs.Laying.{local_named}
use Rattle.go_package_defs.specs.Bodies.{which_types, locals_there}
use Rattle.go_package_defs.specs.Knowledge.{is_type}
use Rattle.go_stmts_steady.specs.Ordered.{next}
use Rattle.go_package_steady.specs.Rising.{IsLaterType, LocalsRise}
use Rattle.go_package_steady.specs.Declared.{Ascend, DeclaresType, DeclaresAt, locals_of_file, DeclaredLocalsRise}

both_first : (a b : Bool) → a && b ≡ true → a ≡ true
both_first true b e = refl
both_first false b e = absurd cc

both_second : (a b : Bool) → a && b ≡ true → b ≡ true
both_second true b e = e
both_second false b e = absurd cc

some_same : {A : Type 0} (x y : A) → Some x ≡ Some y → x ≡ y
some_same x y e = cc

-- ---- the order of locals

behind_all : (a : Declared) (ds : List Declared) (n : ℕ) (d : Declared) → are_behind a ds ≡ true → slice_get ds n ≡ Some d → is_behind a d ≡ true
behind_all a [] n d h e = absurd cc
behind_all a (x ∷ ds) zero d h e = subst (λ z. is_behind a z ≡ true) (some_same x d e) (both_first (is_behind a x) (are_behind a ds) h)
behind_all a (x ∷ ds) (suc n) d h e = behind_all a ds n d (both_second (is_behind a x) (are_behind a ds) h) e

in_order : (ds : List Declared) (m n : ℕ) (c d : Declared) → are_in_order ds ≡ true → slice_get ds m ≡ Some c → slice_get ds n ≡ Some d → m < n → is_behind c d ≡ true
in_order [] m n c d h e g l = absurd cc
in_order (x ∷ ds) m zero c d h e g l = absurd (omega (arith, l))
in_order (x ∷ ds) zero (suc n) c d h e g l = behind_all c ds n d (subst (λ z. are_behind z ds ≡ true) (some_same x c e) (both_first (are_behind x ds) (are_in_order ds) h)) g
in_order (x ∷ ds) (suc m) (suc n) c d h e g l = in_order ds m n c d (both_second (are_behind x ds) (are_in_order ds) h) e g (omega (arith, l))

less_is : (a b : ℕ) → nat_lt a b ≡ true → a < b
less_is a b e = grind (arith, nat_tests, e)

no_less : (a b : ℕ) → nat_lt a b ≡ false → b ≤ a
no_less a b e = grind (arith, nat_tests, e)

not_before : (n : ℕ) → nat_lt n n ≡ false
not_before n = grind (arith, nat_tests)

-- in one file the names rise
names_rise : (c d : Declared) → c.file ≡ d.file → is_behind c d ≡ true → c.name < d.name
names_rise c d e h = less_is c.name d.name (both_second (nat_eq c.file d.file) (nat_lt c.name d.name) (subst (λ b. b || (nat_eq c.file d.file && nat_lt c.name d.name) ≡ true) (ap (nat_lt c.file) (sym e) ∙ not_before c.file) h))

-- ---- a function

module _ (u : UsesView) (n f : ℕ) (ok : IsComplete u) where
  locals_in_order : (o : Option (List Declared)) → slice_get u.locals f ≡ o → (k m : ℕ) (c d : Declared) → local_in o k ≡ Some c → local_in o m ≡ Some d → k < m → is_behind c d ≡ true
  locals_in_order None e k m c d g h l = absurd cc
  locals_in_order (Some ds) e k m c d g h l = in_order ds k m c d (ok.local_order f ds e) g h l

  abbrev bs : List Bool
  bs = which_types (locals_there (slice_get u.locals f))

  type_there : (o : Option (List Declared)) (m : ℕ) (d : Declared) → local_in o m ≡ Some d → slice_get (which_types (locals_there o)) m ≡ Some (is_type d.entity)
  type_there None m d e = absurd cc
  type_there (Some ds) m d e = slice_get-map (λ x. is_type x.entity) ds m ∙ ap (option_map (λ x. is_type x.entity)) e

  -- the locals at tokens from lo on have numbers from c on
  From : ℕ → ℕ → Type 0
  From lo c = (m : ℕ) (d : Declared) → local_of u f m ≡ Some d → d.file ≡ n → lo ≤ d.name → c ≤ m

  later : (i m : ℕ) (d : Declared) → local_of u f m ≡ Some d → d.file ≡ n → d.name ≡ i → From (suc i) (suc m)
  unfolding From
  later i m d there file name k c here same l = by (nat_lt m k) refl (nat_lt k m) refl
    where
      same_name : k ≡ m → c.name ≡ d.name
      same_name e = ap (λ (z : Declared). z.name) (some_same c d (sym here ∙ ap (local_of u f) e ∙ there))

      earlier : k < m → c.name < d.name
      earlier e = names_rise c d (same ∙ sym file) (locals_in_order (slice_get u.locals f) refl k m c d here there e)

      by : (x : Bool) → nat_lt m k ≡ x → (y : Bool) → nat_lt k m ≡ y → suc m ≤ k
      by true p y q = less_is m k p
      by false p true q = let e = earlier (less_is k m q) in absurd (omega (arith, e, l, name))
      by false p false q =
          let a = no_less m k p in
          let b = no_less k m q in
          let e : k ≡ m = omega (arith, a, b) in
          let g = same_name e in absurd (omega (arith, g, l, name))

  abbrev at : ℕ → Option ℕ
  at i = locals_of_file u n i

  weaker : (lo up c : ℕ) → lo ≤ up → From lo c → From up c
  unfolding From
  weaker lo up c g h m d there file l = h m d there file (omega (arith, g, l))

  -- a local that is named and declared
  named_so : (i : ℕ) (d : DeclaresType u n f i) → at i ≡ Some d.number
  named_so i d =
      let own = ok.own (object.Local f d.number) d.local d.there in
      ap local_named (ap (object_of u n) (sym d.name) ∙ ap (λ z. object_of u z d.local.name) (sym d.file) ∙ own)

  is_later : (lo c i : ℕ) → lo ≤ i → From lo c → (d : DeclaresType u n f i) → IsLaterType bs c (Some d.number)
  unfolding From
  is_later lo c i l h d =
      (h d.number d.local d.there d.file (let e = d.name in omega (arith, e, l)), type_there (slice_get u.locals f) d.number d.local d.there ∙ ap Some d.type)

  one_rises : (lo c i : ℕ) (is : List ℕ) → lo ≤ i → From lo c → DeclaresAt u n f i → ((b : ℕ) → From (suc i) b → LocalsRise at bs b is) → LocalsRise at bs c (i ∷ is)
  one_rises lo c i is l h (inl e) r = (subst (IsLaterType bs c) (sym e) tt, subst (λ o. LocalsRise at bs (next o c) is) (sym e) (r c (weaker lo (suc i) c (omega (arith, l)) h)))
  one_rises lo c i is l h (inr d) r = (
    subst (IsLaterType bs c) (sym (named_so i d)) (is_later lo c i l h d),
    subst (λ o. LocalsRise at bs (next o c) is) (sym (named_so i d)) (r (suc d.number) (later i d.number d.local d.there d.file d.name)),
  )

  rises : (lo c : ℕ) (is : List ℕ) → From lo c → Ascend lo is → AllByRecursion (DeclaresAt u n f) is → LocalsRise at bs c is
  rises lo c [] h a q = tt
  rises lo c (i ∷ is) h a q = one_rises lo c i is a.0 h q.0 (λ b g. rises (suc i) b is g a.1 q.1)

  all_first : From 0 0
  unfolding From
  all_first m d there file l = omega (arith)

pub locals_rise_there : DeclaredLocalsRise
locals_rise_there u n f is ok a q = rises u n f ok 0 0 is (all_first u n f ok) a q
