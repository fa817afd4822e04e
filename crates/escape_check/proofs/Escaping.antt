-- Constants and types that occur behind the window that declares them.
use Rattle.std.proofs.Common.{◌≡◌, ◌∙◌, ℕ, Bool, true, false, List, [], ◌∷◌, filter, map, refl, sym, ap, arith}
use Rattle.std.specs.Prelude.{◌&&◌, ◌||◌, nat_eq, if◌then◌else◌}
use Rattle.std.specs.List.{list_any}
use Rattle.std.specs.Option.{option_map}
use Rattle.std.proofs.lemmas.Bool.{eqb-true}
use Rattle.std.proofs.lemmas.Bool.Decides.{nat_tests}
use Rattle.go_typed.specs.declared.walk.LocalUse.{LocalUse}
use Rattle.param_choose.specs.Locals.{has}
use Rattle.param_choose.specs.Members.{names_local}
use Rattle.escape_check.specs.Firsts.{first}
use Rattle.escape_check.specs.Places.{Place, first_of}

-- ---- tests that are alike

pub filter-alike : {A : Type 0} (p q : A → Bool) → ((x : A) → p x ≡ q x) → (xs : List A) → filter p xs ≡ filter q xs
filter-alike p q e [] = refl
filter-alike p q e (x ∷ xs) = ap (λ b. if b then x ∷ filter p xs else filter p xs) (e x) ∙ ap (λ ys. if q x then x ∷ ys else ys) (filter-alike p q e xs)

pub any-map : {A B : Type 0} (h : A → B) (p : B → Bool) (xs : List A) → list_any p (map h xs) ≡ list_any (λ x. p (h x)) xs
any-map h p [] = refl
any-map h p (x ∷ xs) = ap (λ b. p (h x) || b) (any-map h p xs)

-- the first place of some uses
pub first-place : {A : Type 0} (h : A → Place) (xs : List A) → first_of (map h xs) ≡ option_map h (first xs)
first-place h [] = refl
first-place h (x ∷ xs) = refl

-- ---- numbers that pass a test

no-and : (b : Bool) → (b && false) ≡ false
no-and true = refl
no-and false = refl

pub has-filter : (f : ℕ → Bool) (ns : List ℕ) (n : ℕ) → has (filter f ns) n ≡ (has ns n && f n)
has-filter f [] n = refl
has-filter f (k ∷ ks) n = by (f k) (nat_eq n k) refl refl (has-filter f ks n) where
  by : (b c : Bool) → f k ≡ b → nat_eq n k ≡ c → has (filter f ks) n ≡ (has ks n && f n) → has (filter f (k ∷ ks)) n ≡ (has (k ∷ ks) n && f n)
  by true true e h r =
      ap (λ d. has (if d then k ∷ filter f ks else filter f ks) n) e
      ∙ ap (λ d. d || has (filter f ks) n) h
      ∙ sym (ap (λ d. (d || has ks n) && f n) h ∙ ap f (eqb-true n k h) ∙ e)
  by true false e h r =
      ap (λ d. has (if d then k ∷ filter f ks else filter f ks) n) e
      ∙ ap (λ d. d || has (filter f ks) n) h
      ∙ r
      ∙ sym (ap (λ d. (d || has ks n) && f n) h)
  by false true e h r =
      ap (λ d. has (if d then k ∷ filter f ks else filter f ks) n) e
      ∙ r
      ∙ ap (λ d. has ks n && d) (ap f (eqb-true n k h) ∙ e)
      ∙ no-and (has ks n)
      ∙ sym (ap (λ d. (d || has ks n) && f n) h ∙ ap f (eqb-true n k h) ∙ e)
  by false false e h r = ap (λ d. has (if d then k ∷ filter f ks else filter f ks) n) e ∙ r ∙ sym (ap (λ d. (d || has ks n) && f n) h)

-- none of these numbers passes the test
has-none : (test : ℕ → Bool) (ns : List ℕ) (n : ℕ) → list_any test ns ≡ false → has ns n ≡ true → test n ≡ false
has-none test [] n h g = cc
has-none test (k ∷ ks) n h g = by (test k) (nat_eq n k) refl refl (has-none test ks n) where
  by : (b c : Bool) → test k ≡ b → nat_eq n k ≡ c → (list_any test ks ≡ false → has ks n ≡ true → test n ≡ false) → test n ≡ false
  by true c e q r = let a : true ≡ false = sym (ap (λ d. d || list_any test ks) e) ∙ h in cc
  by false true e q r = ap test (eqb-true n k q) ∙ e
  by false false e q r = r (sym (ap (λ d. d || list_any test ks) e) ∙ h) (sym (ap (λ d. d || has ks n) q) ∙ g)

-- ---- where none occurs

same-number : (n : ℕ) → nat_eq n n ≡ true
same-number n = grind (arith, nat_tests)

or-none : (a b : Bool) → (a || b) ≡ false → b ≡ false
or-none true b h = cc
or-none false b h = h

-- where no number of some is named among uses, no use names one
none-named : (ns : List ℕ) (us : List LocalUse) → ((n : ℕ) → has ns n ≡ true → list_any (names_local n) us ≡ false) → filter (λ u. has ns u.local) us ≡ []
none-named ns [] h = refl
none-named ns (u ∷ us) h = by (has ns u.local) refl (none-named ns us (λ n g. or-none (nat_eq n u.local) (list_any (names_local n) us) (h n g))) where
  by : (b : Bool) → has ns u.local ≡ b → filter (λ v. has ns v.local) us ≡ [] → filter (λ v. has ns v.local) (u ∷ us) ≡ []
  by true e r = let a : true ≡ false = sym (ap (λ d. d || list_any (names_local u.local) us) (same-number u.local)) ∙ h u.local e in cc
  by false e r = ap (λ d. if d then u ∷ filter (λ v. has ns v.local) us else filter (λ v. has ns v.local) us) e ∙ r

-- of the numbers that pass a test
pub none_escapes : (f : ℕ → Bool) (ns : List ℕ) (us : List LocalUse) → list_any (λ n. list_any (names_local n) us) (filter f ns) ≡ false →
    filter (λ u. has ns u.local && f u.local) us ≡ []
none_escapes f ns us h =
    filter-alike (λ u. has ns u.local && f u.local) (λ u. has (filter f ns) u.local) (λ u. sym (has-filter f ns u.local)) us
    ∙ none-named (filter f ns) us (λ n g. has-none (λ k. list_any (names_local k) us) (filter f ns) n h g)
