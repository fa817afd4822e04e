-- Two numbers change places: one that isn't known so far, and the next one.
use Rattle.std.proofs.Common.{◌≡◌, ◌∙◌, ℕ, suc, ◌<◌, ◌≤◌, Bool, true, false, List, [], ◌∷◌, map, Option, Some, None, refl, sym, ap, subst, arith}
use Rattle.std.proofs.lemmas.Bool.Decides.{nat_tests}
use Rattle.std.specs.Prelude.{◌==◌, if◌then◌else◌, nat_lt}
use Rattle.std.specs.Option.{option_map}
use Rattle.go_types.specs.Trees.{TypeTree, boolean, text, integer, array, slice, structure, function, declared, TypeRow, none, more}
use Rattle.go_typed.specs.Trees as sort
use Rattle.go_types_relations.specs.Renaming.{renamed, renamed_row, IsOneToOne}
use Rattle.go_exprs_rules.specs.Scopes.{Hint, element, member}
use Rattle.go_exprs_rules.specs.Sorts.{Stands}
use Rattle.go_package_laws.specs.Reach.{Within, RowWithin, MaybeWithin, StandsWithin, HintWithin}
use Rattle.go_renumbering.specs.Frames.{locals_renamed}
use Rattle.go_renumbering.specs.Renumbered.{stands_renamed, hint_renamed}
use Rattle.go_stmts_defs.specs.Frames.{Locals}
use Rattle.go_stmts_steady.specs.Ordered.{below, LocalsWithin, ResultsWithin}

equal_is : (a b : ℕ) → (a == b) ≡ true → a ≡ b
equal_is a b e = grind (arith, nat_tests, e)

unequal : (a b : ℕ) → a < b → (a == b) ≡ false
unequal a b l = grind (arith, nat_tests, l)

unequal_above : (a b : ℕ) → b < a → (a == b) ≡ false
unequal_above a b l = grind (arith, nat_tests, l)

itself : (a : ℕ) → (a == a) ≡ true
itself a = grind (arith, nat_tests)

pub less_is : (a b : ℕ) → nat_lt a b ≡ true → a < b
less_is a b e = grind (arith, nat_tests, e)

pub is_less : (a b : ℕ) → a < b → nat_lt a b ≡ true
is_less a b l = grind (arith, nat_tests, l)

pub no_less : (a b : ℕ) → nat_lt a b ≡ false → b ≤ a
no_less a b e = grind (arith, nat_tests, e)

next_above : (m : ℕ) → m < suc m
next_above m = omega arith

two_above : (m : ℕ) → m < suc (suc m)
two_above m = omega arith

one_above : (m : ℕ) → suc m < suc (suc m)
one_above m = omega arith

module _ (m : ℕ) where
  pub swap : ℕ → ℕ
  swap n = if n == m then suc m else (if n == suc m then m else n)

  swap_by : (n : ℕ) (b c : Bool) → (n == m) ≡ b → (n == suc m) ≡ c → swap n ≡ (if b then suc m else (if c then m else n))
  unfolding swap
  swap_by n b c e d = ap (λ z. if z then suc m else (if n == suc m then m else n)) e ∙ ap (λ z. if b then suc m else (if z then m else n)) d

  pub swap_low : (n : ℕ) → n < m → swap n ≡ n
  swap_low n l = swap_by n false false (unequal n m l) (unequal n (suc m) (omega (arith, l)))

  swap_high : (n : ℕ) → suc m < n → swap n ≡ n
  swap_high n l = swap_by n false false (unequal_above n m (omega (arith, l))) (unequal_above n (suc m) l)

  pub swap_first : swap m ≡ suc m
  swap_first = swap_by m true false (itself m) (unequal m (suc m) (next_above m))

  swap_second : swap (suc m) ≡ m
  swap_second = swap_by (suc m) false true (unequal_above (suc m) m (next_above m)) (itself (suc m))

  swap_other : (n : ℕ) → (n == m) ≡ false → (n == suc m) ≡ false → swap n ≡ n
  swap_other n e d = swap_by n false false e d

  swap_twice : (n : ℕ) → swap (swap n) ≡ n
  swap_twice n = by (n == m) refl (n == suc m) refl
    where
      by : (b : Bool) → (n == m) ≡ b → (c : Bool) → (n == suc m) ≡ c → swap (swap n) ≡ n
      by true e c d = subst (λ z. swap (swap z) ≡ z) (sym (equal_is n m e)) (ap swap swap_first ∙ swap_second)
      by false e true d = subst (λ z. swap (swap z) ≡ z) (sym (equal_is n (suc m) d)) (ap swap swap_second ∙ swap_first)
      by false e false d = ap swap (swap_other n e d) ∙ swap_other n e d

  pub one_to_one : IsOneToOne swap
  one_to_one a b e = sym (swap_twice a) ∙ ap swap e ∙ swap_twice b

  pub swap_from : (k n : ℕ) → k ≤ m → k ≤ n → k ≤ swap n
  swap_from k n h l = by (n == m) refl (n == suc m) refl
    where
      by : (b : Bool) → (n == m) ≡ b → (c : Bool) → (n == suc m) ≡ c → k ≤ swap n
      by true e c d = subst (λ z. k ≤ z) (sym (swap_by n true c e d)) (omega (arith, h))
      by false e true d = subst (λ z. k ≤ z) (sym (swap_by n false true e d)) h
      by false e false d = subst (λ z. k ≤ z) (sym (swap_other n e d)) l

  -- no number that isn't known so far
  pub avoid : ℕ → ℕ
  avoid n = if nat_lt n m then n else suc (suc m)

  pub avoid_low : (n : ℕ) → n < m → avoid n ≡ n
  unfolding avoid
  avoid_low n l = ap (λ b. if b then n else suc (suc m)) (is_less n m l)

  pub avoid_stays : (n : ℕ) → swap (avoid n) ≡ avoid n
  unfolding avoid
  avoid_stays n = by (nat_lt n m) refl
    where
      by : (b : Bool) → nat_lt n m ≡ b → swap (if b then n else suc (suc m)) ≡ (if b then n else suc (suc m))
      by true e = swap_low n (less_is n m e)
      by false e = swap_high (suc (suc m)) (one_above m)

  -- ---- what names lower numbers alone stays

  module _ (k : ℕ) (h : k ≤ m) where
    mutual
      pub type_stays : (t : TypeTree) → Within (below k) t → renamed swap t ≡ t
      type_stays boolean w = refl
      type_stays text w = refl
      type_stays (integer i) w = refl
      type_stays (array n t) w = ap (array n) (type_stays t w)
      type_stays (slice t) w = ap slice (type_stays t w)
      type_stays (structure ns ts) w = ap (structure ns) (row_stays ts w)
      type_stays (function ps rs) w = ap (λ z. function z (renamed_row swap rs)) (row_stays ps w.0) ∙ ap (function ps) (row_stays rs w.1)
      type_stays (declared n) w = let l = less_is n k w in ap declared (swap_low n (omega (arith, h, l)))

      row_stays : (ts : TypeRow) → RowWithin (below k) ts → renamed_row swap ts ≡ ts
      row_stays none w = refl
      row_stays (more t ts) w = ap (λ z. more z (renamed_row swap ts)) (type_stays t w.0) ∙ ap (more t) (row_stays ts w.1)

    pub maybe_stays : (o : Option TypeTree) → MaybeWithin (below k) o → option_map (renamed swap) o ≡ o
    maybe_stays None w = refl
    maybe_stays (Some t) w = ap Some (type_stays t w)

    pub stands_stay : (x : Stands) → StandsWithin (below k) x → stands_renamed swap x ≡ x
    stands_stay (sort.IsType t) w = ap sort.IsType (type_stays t w)
    stands_stay (sort.Value t) w = ap sort.Value (type_stays t w)
    stands_stay (sort.Constant t c) w = ap (λ z. sort.Constant z c) (type_stays t w)
    stands_stay (sort.Results t) w = ap sort.Results (type_stays t w)
    stands_stay x w = refl

    pub locals_stay : (ls : Locals) → LocalsWithin (below k) ls → locals_renamed swap ls ≡ ls
    locals_stay [] w = refl
    locals_stay (None ∷ ls) w = ap (λ z. None ∷ z) (locals_stay ls w)
    locals_stay (Some x ∷ ls) w = ap (λ z. Some z ∷ locals_renamed swap ls) (stands_stay x w.0) ∙ ap (λ z. Some x ∷ z) (locals_stay ls w.1)

    pub results_stay : (ts : List TypeTree) → ResultsWithin (below k) ts → map (renamed swap) ts ≡ ts
    results_stay [] w = refl
    results_stay (t ∷ ts) w = ap (λ z. z ∷ map (renamed swap) ts) (type_stays t w.0) ∙ ap (λ z. t ∷ z) (results_stay ts w.1)

    pub hint_stays : (h : Hint) → HintWithin (below k) h → hint_renamed swap h ≡ h
    hint_stays (element t) w = ap element (type_stays t w)
    hint_stays (member t) w = ap member (type_stays t w)
    hint_stays h w = refl
