-- Where declared types stand they have names.
use Rattle.std.proofs.Common.{◌≡◌, ℕ, zero, suc, ◌+◌, ◌<◌, ◌≤◌, Bool, true, false, List, [], ◌∷◌, ◌++◌, length, Some, Result, Ok, Err, refl, ap, subst, ◌∙◌, arith, length-append}
use Rattle.std.specs.Prelude.{if◌then◌else◌, slice_get}
use Rattle.std.specs.List.{AllByRecursion}
use Rattle.go_base.specs.Gives.{◌>>=◌}
use Rattle.go_tree.specs.declared.object.Declared.{Declared}
use Rattle.go_tree.specs.File.{FileTree}
use Rattle.go_tree.specs.Uses.{UsesView, declared_as, local_in}
use Rattle.go_types.specs.Relations.{Rights}
use Rattle.go_typed.specs.declared.origin.Origin.{Origin}
use Rattle.go_typed.specs.declared.origin.Origin.TheVariants as origin
use Rattle.go_exprs_rules.specs.declared.fault.TypeFault.{TypeFault}
use Rattle.go_print.specs.Names.{object_at}
use Rattle.go_package_defs.specs.Bodies.{Surroundings, Behind, Functions, functions_from, placed, typed_function, types_in, which_types, count_types, locals_there, with_function}
use Rattle.go_package_defs.specs.Checked.{package_origins, local_origins, function_origins, origins}
use Rattle.go_package_defs.specs.Declarations.{Specification}
use Rattle.go_package_defs.specs.Knowledge.{State, is_type, rights_among}
use Rattle.go_package_defs.specs.Sources.{Package}
use Rattle.go_heads_types.specs.Typings.{AddsRights}
use Rattle.extract_texts_written.proofs.Declared.{HasName}

-- ---- lists

pub there_below : {A : Type 0} (xs : List A) (n : ℕ) → n < length xs → (x : A) × (slice_get xs n ≡ Some x)
there_below [] n l = absurd (omega (arith, l))
there_below (x ∷ xs) zero l = (x, refl)
there_below (x ∷ xs) (suc n) l = there_below xs n (omega (arith, l))

pub below_there : {A : Type 0} (xs : List A) (n : ℕ) (x : A) → slice_get xs n ≡ Some x → n < length xs
below_there [] n x e = absurd cc
below_there (y ∷ xs) zero x e = omega arith
below_there (y ∷ xs) (suc n) x e = let l = below_there xs n x e in omega (arith, l)

pub each_there : {A : Type 0} (P : A → Type 0) (xs : List A) (n : ℕ) (x : A) → AllByRecursion P xs → slice_get xs n ≡ Some x → P x
each_there P [] n x h e = absurd cc
each_there P (y ∷ xs) zero x h e = let same : y ≡ x = cc in subst P same h.0
each_there P (y ∷ xs) (suc n) x h e = each_there P xs n x h.1 e

both : {A : Type 0} (P : A → Type 0) (xs ys : List A) → AllByRecursion P xs → AllByRecursion P ys → AllByRecursion P (xs ++ ys)
both P [] ys h k = k
both P (x ∷ xs) ys h k = (h.0, both P xs ys h.1 k)

-- ---- each place has a name

module _ (u : UsesView) (files : List FileTree) where
  -- what is declared there has a name
  pub record OriginNamed (o : Origin) : Type 0 where
    pub declared : Declared
    pub is : declared_as u (object_at o) ≡ Some declared
    pub name : HasName files declared.file declared.name

  abbrev IsNamed : Declared → Type 0
  IsNamed d = HasName files d.file d.name

  package_named : (n : ℕ) (ds : List Declared) → AllByRecursion IsNamed ds → ((k : ℕ) (d : Declared) → slice_get ds k ≡ Some d → slice_get u.package_level (n + k) ≡ Some d) → AllByRecursion OriginNamed (package_origins n ds)
  package_named n [] h at = tt
  package_named n (d ∷ ds) h at = by (is_type d.entity) (package_named (suc n) ds h.1 (λ k e s. subst (λ i. slice_get u.package_level i ≡ Some e) (let z : n + suc k ≡ suc n + k = omega arith in z) (at (suc k) e s)))
    where
      own : OriginNamed (origin.Package n)
      own = record { declared = d; is = subst (λ i. slice_get u.package_level i ≡ Some d) (let z : n + 0 ≡ n = omega arith in z) (at 0 d refl); name = h.0 }

      by : (b : Bool) → AllByRecursion OriginNamed (package_origins (suc n) ds) → AllByRecursion OriginNamed (if b then origin.Package n ∷ package_origins (suc n) ds else package_origins (suc n) ds)
      by true g = (own, g)
      by false g = g

  local_named : (f n : ℕ) (ds : List Declared) → AllByRecursion IsNamed ds → ((k : ℕ) (d : Declared) → slice_get ds k ≡ Some d → local_in (slice_get u.locals f) (n + k) ≡ Some d) → AllByRecursion OriginNamed (local_origins f n ds)
  local_named f n [] h at = tt
  local_named f n (d ∷ ds) h at = by (is_type d.entity) (local_named f (suc n) ds h.1 (λ k e s. subst (λ i. local_in (slice_get u.locals f) i ≡ Some e) (let z : n + suc k ≡ suc n + k = omega arith in z) (at (suc k) e s)))
    where
      own : OriginNamed (origin.Local f n)
      own = record { declared = d; is = subst (λ i. local_in (slice_get u.locals f) i ≡ Some d) (let z : n + 0 ≡ n = omega arith in z) (at 0 d refl); name = h.0 }

      by : (b : Bool) → AllByRecursion OriginNamed (local_origins f (suc n) ds) → AllByRecursion OriginNamed (if b then origin.Local f n ∷ local_origins f (suc n) ds else local_origins f (suc n) ds)
      by true g = (own, g)
      by false g = g

  functions_named : (f : ℕ) (dss : List (List Declared)) → AllByRecursion (λ ds. AllByRecursion IsNamed ds) dss → ((k : ℕ) (ds : List Declared) → slice_get dss k ≡ Some ds → slice_get u.locals (f + k) ≡ Some ds)
      → AllByRecursion OriginNamed (function_origins f dss)
  functions_named f [] h at = tt
  functions_named f (ds ∷ dss) h at =
      let here : slice_get u.locals f ≡ Some ds = subst (λ i. slice_get u.locals i ≡ Some ds) (let z : f + 0 ≡ f = omega arith in z) (at 0 ds refl) in
      both OriginNamed (local_origins f 0 ds) (function_origins (suc f) dss)
      (local_named f 0 ds h.0 (λ k d e. ap (λ o. local_in o (0 + k)) here ∙ subst (λ i. slice_get ds i ≡ Some d) (let z : k ≡ 0 + k = omega arith in z) e))
      (functions_named (suc f) dss h.1 (λ k es e. subst (λ i. slice_get u.locals i ≡ Some es) (let z : f + suc k ≡ suc f + k = omega arith in z) (at (suc k) es e)))

  pub origins_named : AllByRecursion IsNamed u.package_level → AllByRecursion (λ ds. AllByRecursion IsNamed ds) u.locals → AllByRecursion OriginNamed (origins u)
  origins_named shared locals =
      both OriginNamed (package_origins 0 u.package_level) (function_origins 0 u.locals)
      (package_named 0 u.package_level shared (λ k d e. subst (λ i. slice_get u.package_level i ≡ Some d) (let z : k ≡ 0 + k = omega arith in z) e))
      (functions_named 0 u.locals locals (λ k ds e. subst (λ i. slice_get u.locals i ≡ Some ds) (let z : k ≡ 0 + k = omega arith in z) e))

-- ---- there are as many places as right sides

shared_few : (n : ℕ) (ds : List Declared) (ss : List State) → length (rights_among ds ss) ≤ length (package_origins n ds)
shared_few n [] ss = omega arith
shared_few n (d ∷ ds) [] = omega arith
shared_few n (d ∷ ds) (s ∷ ss) = by (is_type d.entity) (shared_few (suc n) ds ss)
  where
    by : (b : Bool) → length (rights_among ds ss) ≤ length (package_origins (suc n) ds)
        → length (if b then s.right ∷ rights_among ds ss else rights_among ds ss) ≤ length (if b then origin.Package n ∷ package_origins (suc n) ds else package_origins (suc n) ds)
    by true g = omega (arith, g)
    by false g = g

own_many : (f n : ℕ) (ds : List Declared) → count_types (which_types ds) ≡ length (local_origins f n ds)
own_many f n [] = refl
own_many f n (d ∷ ds) = by (is_type d.entity) (own_many f (suc n) ds)
  where
    by : (b : Bool) → count_types (which_types ds) ≡ length (local_origins f (suc n) ds)
        → count_types (b ∷ which_types ds) ≡ length (if b then origin.Local f n ∷ local_origins f (suc n) ds else local_origins f (suc n) ds)
    by true g = ap suc g
    by false g = g

-- how many types the functions from the number n on declare
abbrev types_from : List (List Declared) → ℕ → ℕ → ℕ
types_from dss n zero = 0
types_from dss n (suc k) = count_types (which_types (locals_there (slice_get dss n))) + types_from dss (suc n) k

none_from : (n k : ℕ) → types_from [] n k ≡ 0
none_from n zero = refl
none_from n (suc k) = let r = none_from (suc n) k in omega (arith, r)

later_from : (ds : List Declared) (dss : List (List Declared)) (n k : ℕ) → types_from (ds ∷ dss) (suc n) k ≡ types_from dss n k
later_from ds dss n zero = refl
later_from ds dss n (suc k) = ap (λ m. count_types (which_types (locals_there (slice_get dss n))) + m) (later_from ds dss (suc n) k)

functions_few : (f : ℕ) (dss : List (List Declared)) (k : ℕ) → types_from dss 0 k ≤ length (function_origins f dss)
functions_few f [] k = let e = none_from 0 k in omega (arith, e)
functions_few f (ds ∷ dss) zero = omega arith
functions_few f (ds ∷ dss) (suc k) =
    let own = own_many f 0 ds in
    let rest = functions_few (suc f) dss k in
    let same = later_from ds dss 0 k in
    let long = length-append (local_origins f 0 ds) (function_origins (suc f) dss) in
    omega (arith, own, rest, same, long)

-- ---- the right sides behind functions

bound : {A B F : Type 0} (r : Result A F) (f : A → Result B F) (y : B) → (r >>= f) ≡ Ok y → (x : A) × (r ≡ Ok x) × (f x ≡ Ok y)
bound (Ok x) f y e = (x, refl, e)
bound (Err g) f y e = cc

ok_same : {A F : Type 0} (x y : A) → (let r : Result A F = Ok x in r) ≡ Ok y → x ≡ y
ok_same x y e = cc

placed_ok : {A : Type 0} (p : Package) (d : Specification) (r : Result A TypeFault) (x : A) → placed p d r ≡ Ok x → r ≡ Ok x
placed_ok p d (Ok y) x e = ap Ok (let same : y ≡ x = cc in same)
placed_ok p d (Err g) x e = cc

abbrev pub FunctionsAdd : Type 0
FunctionsAdd = (p : Package) (a : Surroundings) (rights : Rights) (n : ℕ) (d : Specification) (b : Behind) → typed_function p a rights n d ≡ Ok b → AddsRights rights (count_types (types_in p n)) b.rights

module _ (adds : FunctionsAdd) (p : Package) (a : Surroundings) where
  rights_many : (rights : Rights) (n : ℕ) (ds : List Specification) (fs : Functions) → functions_from p a rights n ds ≡ Ok fs → length fs.rights ≡ length rights + types_from p.uses.locals n (length ds)
  rights_many rights n [] fs e = let same = ap (λ (z : Functions). length z.rights) (ok_same (record { functions = []; rights = rights }) fs e) in omega (arith, same)
  rights_many rights n (d ∷ ds) fs e =
      let b = bound (placed p d (typed_function p a rights n d)) (λ b. functions_from p a b.rights (suc n) ds >>= λ gs. Ok (with_function b.function gs)) fs e in
      let gs = bound (functions_from p a b.0.rights (suc n) ds) (λ gs. Ok (with_function b.0.function gs)) fs b.2 in
      let own = adds p a rights n d b.0 (placed_ok p d (typed_function p a rights n d) b.0 b.1) in
      let counted = own.counted in
      let front = ap length own.is ∙ length-append rights own.own in
      let rest = rights_many b.0.rights (suc n) ds gs.0 gs.1 in
      let same = ap (λ (z : Functions). length z.rights) (ok_same (with_function b.0.function gs.0) fs gs.2) in
      omega (arith, counted, front, rest, same)

  -- so there are at most as many as places
  pub few_rights : (ss : List State) (ds : List Specification) (fs : Functions) → functions_from p a (rights_among p.uses.package_level ss) 0 ds ≡ Ok fs → length fs.rights ≤ length (origins p.uses)
  few_rights ss ds fs e =
      let many = rights_many (rights_among p.uses.package_level ss) 0 ds fs e in
      let shared = shared_few 0 p.uses.package_level ss in
      let own = functions_few 0 p.uses.locals (length ds) in
      let long = length-append (package_origins 0 p.uses.package_level) (function_origins 0 p.uses.locals) in
      omega (arith, many, shared, own, long)
