-- What declares a name is the specification of the definition.
use Rattle.std.proofs.Common.{◌≡◌, ◌∙◌, ℕ, suc, ◌+◌, Bool, true, false, ◌&&◌, nat_eq, List, [], ◌∷◌, Option, Some, None, refl, ap, sym, arith}
use Rattle.std.specs.Prelude.{slice_get, if◌then◌else◌}
use Rattle.go_package_defs.specs.Declarations.{Specification}
use Rattle.go_package_defs.specs.Knowledge.{following, place_of, column_of, found_or, declaring}
use Rattle.go_needs.specs.declared.declaring.Declaring.{Declaring}
use Rattle.go_needs.specs.Declaring.{over_names, declaring_from}
use Rattle.go_needs.proofs.Maps.{some_is}

other_file : (i m n t c : ℕ) (us : List ℕ) (rest : Option Declaring) → nat_eq m n ≡ false → over_names i m n t c us rest ≡ rest
other_file i m n t c [] rest e = refl
other_file i m n t c (u ∷ us) rest e = ap (λ b. if b && nat_eq u t then Some (record { specification = i; column = c }) else over_names i m n t (suc c) us rest) e ∙ other_file i m n t (suc c) us rest e

same_turned : (u t : ℕ) → nat_eq u t ≡ nat_eq t u
same_turned u t = grind arith

following_none : (o : Option ℕ) → following o ≡ None → o ≡ None
following_none None e = refl
following_none (Some k) e = absurd (grind (arith, e))

-- one name more
over_same : (i m n t c u : ℕ) (us : List ℕ) (rest : Option Declaring) (b : Bool) → nat_eq m n ≡ true → nat_eq t u ≡ b
    → over_names i m n t c (u ∷ us) rest ≡ (if b then Some (record { specification = i; column = c }) else over_names i m n t (suc c) us rest)
over_same i m n t c u us rest b e q =
    ap (λ b. if b && nat_eq u t then Some (record { specification = i; column = c }) else over_names i m n t (suc c) us rest) e
    ∙ ap (λ b. if b then Some (record { specification = i; column = c }) else over_names i m n t (suc c) us rest) (same_turned u t ∙ q)

no_place : (i m n t c : ℕ) (us : List ℕ) (rest : Option Declaring) → nat_eq m n ≡ true → place_of t us ≡ None → over_names i m n t c us rest ≡ rest
no_place i m n t c [] rest e h = refl
no_place i m n t c (u ∷ us) rest e h = by (nat_eq t u) refl h (no_place i m n t (suc c) us rest e)
  where
    by : (b : Bool) → nat_eq t u ≡ b → (if b then Some 0 else following (place_of t us)) ≡ None → (place_of t us ≡ None → over_names i m n t (suc c) us rest ≡ rest) → over_names i m n t c (u ∷ us) rest ≡ rest
    by true k g more = absurd (grind (arith, g))
    by false k g more = over_same i m n t c u us rest false e k ∙ more (following_none (place_of t us) g)

-- The number of a name is this one, and so many more.
record Follows (o : Option ℕ) (k : ℕ) : Type 0 where
  before : ℕ
  is : o ≡ Some before
  next : suc before ≡ k

follows : (o : Option ℕ) (k : ℕ) → following o ≡ Some k → Follows o k
follows None k e = absurd (grind (arith, e))
follows (Some j) k e = record { before = j; is = refl; next = some_is (suc j) k e }

a_place : (i m n t c k d : ℕ) (us : List ℕ) (rest : Option Declaring) → nat_eq m n ≡ true → place_of t us ≡ Some k → d ≡ c + k → over_names i m n t c us rest ≡ Some (record { specification = i; column = d })
a_place i m n t c k d [] rest e h w = absurd (grind (arith, h))
a_place i m n t c k d (u ∷ us) rest e h w = by (nat_eq t u) refl h (λ j g v. a_place i m n t (suc c) j d us rest e g v)
  where
    by : (b : Bool) → nat_eq t u ≡ b → (if b then Some 0 else following (place_of t us)) ≡ Some k
        → ((j : ℕ) → place_of t us ≡ Some j → d ≡ suc c + j → over_names i m n t (suc c) us rest ≡ Some (record { specification = i; column = d })) → over_names i m n t c (u ∷ us) rest ≡ Some (record { specification = i; column = d })
    by true q g more =
        let zeroth : 0 ≡ k = some_is 0 k g in
        let same : c ≡ d = omega (arith, w, zeroth) in
        over_same i m n t c u us rest true e q ∙ ap (λ x. Some (record { specification = i; column = x })) same
    by false q g more =
        let f = follows (place_of t us) k g in
        let next : suc f.before ≡ k = f.next in
        over_same i m n t c u us rest false e q ∙ more f.before f.is (omega (arith, w, next))

-- It is the specification of this number that declares the name, and the name has this number in it.
pub record Declares (ds : List Specification) (i n t : ℕ) (x : Declaring) : Type 0 where
  pub offset : ℕ
  pub number : x.specification ≡ i + offset
  pub specification : slice_get ds offset ≡ Some (declaring ds n t).0
  pub column : x.column ≡ (declaring ds n t).1

column_is : (s : Specification) (n t : ℕ) (b : Bool) → nat_eq s.file n ≡ b → column_of n t s ≡ (if b then place_of t s.names else None)
column_is s n t b q = ap (λ b. if b then place_of t s.names else None) q

further : (s : Specification) (ss : List Specification) (i n t : ℕ) (x : Declaring) → column_of n t s ≡ None → Declares ss (suc i) n t x → Declares (s ∷ ss) i n t x
further s ss i n t x none w =
    let number = w.number in
    let same : declaring (s ∷ ss) n t ≡ declaring ss n t = ap (λ o. found_or s o (declaring ss n t)) none in
    record { offset = suc w.offset; number = omega (arith, number); specification = w.specification ∙ ap (λ z. Some z.0) (sym same); column = w.column ∙ ap (λ z. z.1) (sym same) }

declares_by : (s : Specification) (ss : List Specification) (i n t : ℕ) (x : Declaring) → over_names i s.file n t 0 s.names (declaring_from (suc i) n t ss) ≡ Some x → (declaring_from (suc i) n t ss ≡ Some x → Declares ss (suc i) n t x)
    → (b : Bool) → nat_eq s.file n ≡ b → (o : Option ℕ) → place_of t s.names ≡ o → Declares (s ∷ ss) i n t x
declares_by s ss i n t x e more false q o p = further s ss i n t x (column_is s n t false q) (more (sym (other_file i s.file n t 0 s.names (declaring_from (suc i) n t ss) q) ∙ e))
declares_by s ss i n t x e more true q None p = further s ss i n t x (column_is s n t true q ∙ p) (more (sym (no_place i s.file n t 0 s.names (declaring_from (suc i) n t ss) q p) ∙ e))
declares_by s ss i n t x e more true q (Some k) p =
    let there = a_place i s.file n t 0 k k s.names (declaring_from (suc i) n t ss) q p (omega arith) in
    let one : Declaring = record { specification = i; column = k } in
    let is : one ≡ x = some_is one x (sym there ∙ e) in
    let same : declaring (s ∷ ss) n t ≡ (s, k) = ap (λ o. found_or s o (declaring ss n t)) (column_is s n t true q ∙ p) in
    let number : x.specification ≡ i = ap (λ y. y.specification) (sym is) in
    record { offset = 0; number = omega (arith, number); specification = ap (λ z. Some z.0) (sym same); column = ap (λ y. y.column) (sym is) ∙ ap (λ z. z.1) (sym same) }

pub declares : (ds : List Specification) (i n t : ℕ) (x : Declaring) → declaring_from i n t ds ≡ Some x → Declares ds i n t x
declares [] i n t x e = absurd (grind (arith, e))
declares (s ∷ ss) i n t x e = declares_by s ss i n t x e (λ h. declares ss (suc i) n t x h) (nat_eq s.file n) refl (place_of t s.names) refl
