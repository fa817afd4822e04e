-- Sameness between packages is an equivalence.
use Rattle.std.proofs.Common.{◌≡◌, ℕ, Bool, true, List, [], ◌∷◌, Option, Some, None, slice_get, refl}
use Rattle.std.specs.Prelude.{◌&&◌, nat_eq}
use Rattle.std.proofs.lemmas.Bool.{eq-eqb, and_parts, and_from}
use Rattle.go_types.specs.Keys.{kind_number}
use Rattle.go_types.specs.Tables.{type_of}
use Rattle.go_types.specs.Trees.{TypeTree, boolean, text, integer, array, slice, structure, function, declared, TypeRow, none, more}
use Rattle.go_types_relations.specs.Identity.{same_name, same_names}
use Rattle.go_typed.specs.declared.window.Window.{Window}
use Rattle.go_typed.specs.Packages.{PackageView}
use Rattle.clone_window.proofs.Public.{name-refl, name-sym, name-trans, number-sym, number-trans}
use Rattle.clone_window.specs.Bodies.{bodies_of}
use Rattle.clone_window.specs.Fields.{field_text}
use Rattle.clone_classes.specs.Heads.{Home, in_package, in_function, home_of, same_home, homes_match, corresponds, matches, all_match, identical_between, same_between}
use Rattle.clone_classes.proofs.Sameness.{between-sym, between-trans, itself}

names-refl : (xs : List (List ℕ)) → same_names xs xs ≡ true
names-refl [] = refl
names-refl (x ∷ xs) = and_from (same_name x x) (same_names xs xs) (name-refl x) (names-refl xs)

names-sym : (xs ys : List (List ℕ)) → same_names xs ys ≡ true → same_names ys xs ≡ true
names-sym [] [] h = refl
names-sym [] (y ∷ ys) h = cc
names-sym (x ∷ xs) [] h = cc
names-sym (x ∷ xs) (y ∷ ys) h =
    let p = and_parts (same_name x y) (same_names xs ys) h in
    and_from (same_name y x) (same_names ys xs) (name-sym x y p.0) (names-sym xs ys p.1)

names-trans : (xs ys zs : List (List ℕ)) → same_names xs ys ≡ true → same_names ys zs ≡ true → same_names xs zs ≡ true
names-trans [] [] zs h g = g
names-trans [] (y ∷ ys) zs h g = cc
names-trans (x ∷ xs) [] zs h g = cc
names-trans (x ∷ xs) (y ∷ ys) [] h g = cc
names-trans (x ∷ xs) (y ∷ ys) (z ∷ zs) h g =
    let p = and_parts (same_name x y) (same_names xs ys) h in
    let q = and_parts (same_name y z) (same_names ys zs) g in
    and_from (same_name x z) (same_names xs zs) (name-trans x y z p.0 q.0) (names-trans xs ys zs p.1 q.1)

-- ---- homes

home-refl : (h : Home) → same_home h h ≡ true
home-refl (in_package a) = name-refl a
home-refl (in_function a s i) = and_from (same_name a a && same_names s s) (nat_eq i i) (and_from (same_name a a) (same_names s s) (name-refl a) (names-refl s)) (eq-eqb i i refl)

home-sym : (h k : Home) → same_home h k ≡ true → same_home k h ≡ true
home-sym (in_package a) (in_package b) e = name-sym a b e
home-sym (in_package a) (in_function b t j) e = cc
home-sym (in_function a s i) (in_package b) e = cc
home-sym (in_function a s i) (in_function b t j) e =
    let p = and_parts (same_name a b && same_names s t) (nat_eq i j) e in
    let q = and_parts (same_name a b) (same_names s t) p.0 in
    and_from (same_name b a && same_names t s) (nat_eq j i) (and_from (same_name b a) (same_names t s) (name-sym a b q.0) (names-sym s t q.1)) (number-sym i j p.1)

home-trans : (h k l : Home) → same_home h k ≡ true → same_home k l ≡ true → same_home h l ≡ true
home-trans (in_package a) (in_package b) (in_package c) e f = name-trans a b c e f
home-trans (in_package a) (in_package b) (in_function c u m) e f = cc
home-trans (in_package a) (in_function b t j) l e f = cc
home-trans (in_function a s i) (in_package b) l e f = cc
home-trans (in_function a s i) (in_function b t j) (in_package c) e f = cc
home-trans (in_function a s i) (in_function b t j) (in_function c u m) e f =
    let p = and_parts (same_name a b && same_names s t) (nat_eq i j) e in
    let q = and_parts (same_name a b) (same_names s t) p.0 in
    let r = and_parts (same_name b c && same_names t u) (nat_eq j m) f in
    let v = and_parts (same_name b c) (same_names t u) r.0 in
    and_from (same_name a c && same_names s u) (nat_eq i m) (and_from (same_name a c) (same_names s u) (name-trans a b c q.0 v.0) (names-trans s t u q.1 v.1)) (number-trans i j m p.1 r.1)

match-refl : (h : Option Home) (n : ℕ) → homes_match h h n n ≡ true
match-refl None n = eq-eqb n n refl
match-refl (Some h) n = home-refl h

match-sym : (h k : Option Home) (n m : ℕ) → homes_match h k n m ≡ true → homes_match k h m n ≡ true
match-sym None None n m e = number-sym n m e
match-sym None (Some k) n m e = cc
match-sym (Some h) None n m e = cc
match-sym (Some h) (Some k) n m e = home-sym h k e

match-trans : (h k l : Option Home) (n m o : ℕ) → homes_match h k n m ≡ true → homes_match k l m o ≡ true → homes_match h l n o ≡ true
match-trans None None None n m o e f = number-trans n m o e f
match-trans None None (Some l) n m o e f = cc
match-trans None (Some k) l n m o e f = cc
match-trans (Some h) None l n m o e f = cc
match-trans (Some h) (Some k) None n m o e f = cc
match-trans (Some h) (Some k) (Some l) n m o e f = home-trans h k l e f

-- ---- types

mutual
  match_refl : (d : ℕ → ℕ → Bool) → ((n : ℕ) → d n n ≡ true) → (t : TypeTree) → matches d t t ≡ true
  match_refl d h boolean = refl
  match_refl d h text = refl
  match_refl d h (integer k) = eq-eqb (kind_number k) (kind_number k) refl
  match_refl d h (array n t) = and_from (nat_eq n n) (matches d t t) (eq-eqb n n refl) (match_refl d h t)
  match_refl d h (slice t) = match_refl d h t
  match_refl d h (structure ns ts) = and_from (same_names ns ns) (all_match d ts ts) (names-refl ns) (all_refl d h ts)
  match_refl d h (function ps rs) = and_from (all_match d ps ps) (all_match d rs rs) (all_refl d h ps) (all_refl d h rs)
  match_refl d h (declared n) = h n

  all_refl : (d : ℕ → ℕ → Bool) → ((n : ℕ) → d n n ≡ true) → (ts : TypeRow) → all_match d ts ts ≡ true
  all_refl d h none = refl
  all_refl d h (more t ts) = and_from (matches d t t) (all_match d ts ts) (match_refl d h t) (all_refl d h ts)

mutual
  match_sym : (d e : ℕ → ℕ → Bool) → ((n m : ℕ) → d n m ≡ true → e m n ≡ true) → (t u : TypeTree) → matches d t u ≡ true → matches e u t ≡ true
  match_sym d e h boolean boolean i = refl
  match_sym d e h boolean text i = cc
  match_sym d e h boolean (integer k') i = cc
  match_sym d e h boolean (array n' t') i = cc
  match_sym d e h boolean (slice t') i = cc
  match_sym d e h boolean (structure ns' ts') i = cc
  match_sym d e h boolean (function ps' rs') i = cc
  match_sym d e h boolean (declared n') i = cc
  match_sym d e h text boolean i = cc
  match_sym d e h text text i = refl
  match_sym d e h text (integer k') i = cc
  match_sym d e h text (array n' t') i = cc
  match_sym d e h text (slice t') i = cc
  match_sym d e h text (structure ns' ts') i = cc
  match_sym d e h text (function ps' rs') i = cc
  match_sym d e h text (declared n') i = cc
  match_sym d e h (integer k) boolean i = cc
  match_sym d e h (integer k) text i = cc
  match_sym d e h (integer k) (integer k') i = number-sym (kind_number k) (kind_number k') i
  match_sym d e h (integer k) (array n' t') i = cc
  match_sym d e h (integer k) (slice t') i = cc
  match_sym d e h (integer k) (structure ns' ts') i = cc
  match_sym d e h (integer k) (function ps' rs') i = cc
  match_sym d e h (integer k) (declared n') i = cc
  match_sym d e h (array n t) boolean i = cc
  match_sym d e h (array n t) text i = cc
  match_sym d e h (array n t) (integer k') i = cc
  match_sym d e h (array n t) (array n' t') i = let p = and_parts (nat_eq n n') (matches d t t') i in and_from (nat_eq n' n) (matches e t' t) (number-sym n n' p.0) (match_sym d e h t t' p.1)
  match_sym d e h (array n t) (slice t') i = cc
  match_sym d e h (array n t) (structure ns' ts') i = cc
  match_sym d e h (array n t) (function ps' rs') i = cc
  match_sym d e h (array n t) (declared n') i = cc
  match_sym d e h (slice t) boolean i = cc
  match_sym d e h (slice t) text i = cc
  match_sym d e h (slice t) (integer k') i = cc
  match_sym d e h (slice t) (array n' t') i = cc
  match_sym d e h (slice t) (slice t') i = match_sym d e h t t' i
  match_sym d e h (slice t) (structure ns' ts') i = cc
  match_sym d e h (slice t) (function ps' rs') i = cc
  match_sym d e h (slice t) (declared n') i = cc
  match_sym d e h (structure ns ts) boolean i = cc
  match_sym d e h (structure ns ts) text i = cc
  match_sym d e h (structure ns ts) (integer k') i = cc
  match_sym d e h (structure ns ts) (array n' t') i = cc
  match_sym d e h (structure ns ts) (slice t') i = cc
  match_sym d e h (structure ns ts) (structure ns' ts') i = let p = and_parts (same_names ns ns') (all_match d ts ts') i in and_from (same_names ns' ns) (all_match e ts' ts) (names-sym ns ns' p.0) (all_sym d e h ts ts' p.1)
  match_sym d e h (structure ns ts) (function ps' rs') i = cc
  match_sym d e h (structure ns ts) (declared n') i = cc
  match_sym d e h (function ps rs) boolean i = cc
  match_sym d e h (function ps rs) text i = cc
  match_sym d e h (function ps rs) (integer k') i = cc
  match_sym d e h (function ps rs) (array n' t') i = cc
  match_sym d e h (function ps rs) (slice t') i = cc
  match_sym d e h (function ps rs) (structure ns' ts') i = cc
  match_sym d e h (function ps rs) (function ps' rs') i = let p = and_parts (all_match d ps ps') (all_match d rs rs') i in and_from (all_match e ps' ps) (all_match e rs' rs) (all_sym d e h ps ps' p.0) (all_sym d e h rs rs' p.1)
  match_sym d e h (function ps rs) (declared n') i = cc
  match_sym d e h (declared n) boolean i = cc
  match_sym d e h (declared n) text i = cc
  match_sym d e h (declared n) (integer k') i = cc
  match_sym d e h (declared n) (array n' t') i = cc
  match_sym d e h (declared n) (slice t') i = cc
  match_sym d e h (declared n) (structure ns' ts') i = cc
  match_sym d e h (declared n) (function ps' rs') i = cc
  match_sym d e h (declared n) (declared n') i = h n n' i

  all_sym : (d e : ℕ → ℕ → Bool) → ((n m : ℕ) → d n m ≡ true → e m n ≡ true) → (ts us : TypeRow) → all_match d ts us ≡ true → all_match e us ts ≡ true
  all_sym d e h none none i = refl
  all_sym d e h none (more u us) i = cc
  all_sym d e h (more t ts) none i = cc
  all_sym d e h (more t ts) (more u us) i =
      let p = and_parts (matches d t u) (all_match d ts us) i in
      and_from (matches e u t) (all_match e us ts) (match_sym d e h t u p.0) (all_sym d e h ts us p.1)

abbrev Joins : (ℕ → ℕ → Bool) → (ℕ → ℕ → Bool) → (ℕ → ℕ → Bool) → Type 0
Joins d e f = (n m o : ℕ) → d n m ≡ true → e m o ≡ true → f n o ≡ true

mutual
  match_trans : (d e f : ℕ → ℕ → Bool) → Joins d e f → (t u v : TypeTree) → matches d t u ≡ true → matches e u v ≡ true → matches f t v ≡ true
  match_trans d e f h boolean boolean boolean i j = refl
  match_trans d e f h boolean boolean text i j = cc
  match_trans d e f h boolean boolean (integer k'') i j = cc
  match_trans d e f h boolean boolean (array n'' t'') i j = cc
  match_trans d e f h boolean boolean (slice t'') i j = cc
  match_trans d e f h boolean boolean (structure ns'' ts'') i j = cc
  match_trans d e f h boolean boolean (function ps'' rs'') i j = cc
  match_trans d e f h boolean boolean (declared n'') i j = cc
  match_trans d e f h boolean text v i j = cc
  match_trans d e f h boolean (integer k') v i j = cc
  match_trans d e f h boolean (array n' t') v i j = cc
  match_trans d e f h boolean (slice t') v i j = cc
  match_trans d e f h boolean (structure ns' ts') v i j = cc
  match_trans d e f h boolean (function ps' rs') v i j = cc
  match_trans d e f h boolean (declared n') v i j = cc
  match_trans d e f h text boolean v i j = cc
  match_trans d e f h text text boolean i j = cc
  match_trans d e f h text text text i j = refl
  match_trans d e f h text text (integer k'') i j = cc
  match_trans d e f h text text (array n'' t'') i j = cc
  match_trans d e f h text text (slice t'') i j = cc
  match_trans d e f h text text (structure ns'' ts'') i j = cc
  match_trans d e f h text text (function ps'' rs'') i j = cc
  match_trans d e f h text text (declared n'') i j = cc
  match_trans d e f h text (integer k') v i j = cc
  match_trans d e f h text (array n' t') v i j = cc
  match_trans d e f h text (slice t') v i j = cc
  match_trans d e f h text (structure ns' ts') v i j = cc
  match_trans d e f h text (function ps' rs') v i j = cc
  match_trans d e f h text (declared n') v i j = cc
  match_trans d e f h (integer k) boolean v i j = cc
  match_trans d e f h (integer k) text v i j = cc
  match_trans d e f h (integer k) (integer k') boolean i j = cc
  match_trans d e f h (integer k) (integer k') text i j = cc
  match_trans d e f h (integer k) (integer k') (integer k'') i j = number-trans (kind_number k) (kind_number k') (kind_number k'') i j
  match_trans d e f h (integer k) (integer k') (array n'' t'') i j = cc
  match_trans d e f h (integer k) (integer k') (slice t'') i j = cc
  match_trans d e f h (integer k) (integer k') (structure ns'' ts'') i j = cc
  match_trans d e f h (integer k) (integer k') (function ps'' rs'') i j = cc
  match_trans d e f h (integer k) (integer k') (declared n'') i j = cc
  match_trans d e f h (integer k) (array n' t') v i j = cc
  match_trans d e f h (integer k) (slice t') v i j = cc
  match_trans d e f h (integer k) (structure ns' ts') v i j = cc
  match_trans d e f h (integer k) (function ps' rs') v i j = cc
  match_trans d e f h (integer k) (declared n') v i j = cc
  match_trans d e f h (array n t) boolean v i j = cc
  match_trans d e f h (array n t) text v i j = cc
  match_trans d e f h (array n t) (integer k') v i j = cc
  match_trans d e f h (array n t) (array n' t') boolean i j = cc
  match_trans d e f h (array n t) (array n' t') text i j = cc
  match_trans d e f h (array n t) (array n' t') (integer k'') i j = cc
  match_trans d e f h (array n t) (array n' t') (array n'' t'') i j = let p = and_parts (nat_eq n n') (matches d t t') i in let q = and_parts (nat_eq n' n'') (matches e t' t'') j in and_from (nat_eq n n'') (matches f t t'') (number-trans n n' n'' p.0 q.0) (match_trans d e f h t t' t'' p.1 q.1)
  match_trans d e f h (array n t) (array n' t') (slice t'') i j = cc
  match_trans d e f h (array n t) (array n' t') (structure ns'' ts'') i j = cc
  match_trans d e f h (array n t) (array n' t') (function ps'' rs'') i j = cc
  match_trans d e f h (array n t) (array n' t') (declared n'') i j = cc
  match_trans d e f h (array n t) (slice t') v i j = cc
  match_trans d e f h (array n t) (structure ns' ts') v i j = cc
  match_trans d e f h (array n t) (function ps' rs') v i j = cc
  match_trans d e f h (array n t) (declared n') v i j = cc
  match_trans d e f h (slice t) boolean v i j = cc
  match_trans d e f h (slice t) text v i j = cc
  match_trans d e f h (slice t) (integer k') v i j = cc
  match_trans d e f h (slice t) (array n' t') v i j = cc
  match_trans d e f h (slice t) (slice t') boolean i j = cc
  match_trans d e f h (slice t) (slice t') text i j = cc
  match_trans d e f h (slice t) (slice t') (integer k'') i j = cc
  match_trans d e f h (slice t) (slice t') (array n'' t'') i j = cc
  match_trans d e f h (slice t) (slice t') (slice t'') i j = match_trans d e f h t t' t'' i j
  match_trans d e f h (slice t) (slice t') (structure ns'' ts'') i j = cc
  match_trans d e f h (slice t) (slice t') (function ps'' rs'') i j = cc
  match_trans d e f h (slice t) (slice t') (declared n'') i j = cc
  match_trans d e f h (slice t) (structure ns' ts') v i j = cc
  match_trans d e f h (slice t) (function ps' rs') v i j = cc
  match_trans d e f h (slice t) (declared n') v i j = cc
  match_trans d e f h (structure ns ts) boolean v i j = cc
  match_trans d e f h (structure ns ts) text v i j = cc
  match_trans d e f h (structure ns ts) (integer k') v i j = cc
  match_trans d e f h (structure ns ts) (array n' t') v i j = cc
  match_trans d e f h (structure ns ts) (slice t') v i j = cc
  match_trans d e f h (structure ns ts) (structure ns' ts') boolean i j = cc
  match_trans d e f h (structure ns ts) (structure ns' ts') text i j = cc
  match_trans d e f h (structure ns ts) (structure ns' ts') (integer k'') i j = cc
  match_trans d e f h (structure ns ts) (structure ns' ts') (array n'' t'') i j = cc
  match_trans d e f h (structure ns ts) (structure ns' ts') (slice t'') i j = cc
  match_trans d e f h (structure ns ts) (structure ns' ts') (structure ns'' ts'') i j = let p = and_parts (same_names ns ns') (all_match d ts ts') i in let q = and_parts (same_names ns' ns'') (all_match e ts' ts'') j in and_from (same_names ns ns'') (all_match f ts ts'') (names-trans ns ns' ns'' p.0 q.0) (all_trans d e f h ts ts' ts'' p.1 q.1)
  match_trans d e f h (structure ns ts) (structure ns' ts') (function ps'' rs'') i j = cc
  match_trans d e f h (structure ns ts) (structure ns' ts') (declared n'') i j = cc
  match_trans d e f h (structure ns ts) (function ps' rs') v i j = cc
  match_trans d e f h (structure ns ts) (declared n') v i j = cc
  match_trans d e f h (function ps rs) boolean v i j = cc
  match_trans d e f h (function ps rs) text v i j = cc
  match_trans d e f h (function ps rs) (integer k') v i j = cc
  match_trans d e f h (function ps rs) (array n' t') v i j = cc
  match_trans d e f h (function ps rs) (slice t') v i j = cc
  match_trans d e f h (function ps rs) (structure ns' ts') v i j = cc
  match_trans d e f h (function ps rs) (function ps' rs') boolean i j = cc
  match_trans d e f h (function ps rs) (function ps' rs') text i j = cc
  match_trans d e f h (function ps rs) (function ps' rs') (integer k'') i j = cc
  match_trans d e f h (function ps rs) (function ps' rs') (array n'' t'') i j = cc
  match_trans d e f h (function ps rs) (function ps' rs') (slice t'') i j = cc
  match_trans d e f h (function ps rs) (function ps' rs') (structure ns'' ts'') i j = cc
  match_trans d e f h (function ps rs) (function ps' rs') (function ps'' rs'') i j = let p = and_parts (all_match d ps ps') (all_match d rs rs') i in let q = and_parts (all_match e ps' ps'') (all_match e rs' rs'') j in and_from (all_match f ps ps'') (all_match f rs rs'') (all_trans d e f h ps ps' ps'' p.0 q.0) (all_trans d e f h rs rs' rs'' p.1 q.1)
  match_trans d e f h (function ps rs) (function ps' rs') (declared n'') i j = cc
  match_trans d e f h (function ps rs) (declared n') v i j = cc
  match_trans d e f h (declared n) boolean v i j = cc
  match_trans d e f h (declared n) text v i j = cc
  match_trans d e f h (declared n) (integer k') v i j = cc
  match_trans d e f h (declared n) (array n' t') v i j = cc
  match_trans d e f h (declared n) (slice t') v i j = cc
  match_trans d e f h (declared n) (structure ns' ts') v i j = cc
  match_trans d e f h (declared n) (function ps' rs') v i j = cc
  match_trans d e f h (declared n) (declared n') boolean i j = cc
  match_trans d e f h (declared n) (declared n') text i j = cc
  match_trans d e f h (declared n) (declared n') (integer k'') i j = cc
  match_trans d e f h (declared n) (declared n') (array n'' t'') i j = cc
  match_trans d e f h (declared n) (declared n') (slice t'') i j = cc
  match_trans d e f h (declared n) (declared n') (structure ns'' ts'') i j = cc
  match_trans d e f h (declared n) (declared n') (function ps'' rs'') i j = cc
  match_trans d e f h (declared n) (declared n') (declared n'') i j = h n n' n'' i j

  all_trans : (d e f : ℕ → ℕ → Bool) → Joins d e f → (ts us vs : TypeRow) → all_match d ts us ≡ true → all_match e us vs ≡ true → all_match f ts vs ≡ true
  all_trans d e f h none none none i j = refl
  all_trans d e f h none none (more v vs) i j = cc
  all_trans d e f h none (more u us) vs i j = cc
  all_trans d e f h (more t ts) none vs i j = cc
  all_trans d e f h (more t ts) (more u us) none i j = cc
  all_trans d e f h (more t ts) (more u us) (more v vs) i j =
      let p = and_parts (matches d t u) (all_match d ts us) i in
      let q = and_parts (matches e u v) (all_match e us vs) j in
      and_from (matches f t v) (all_match f ts vs) (match_trans d e f h t u v p.0 q.0) (all_trans d e f h ts us vs p.1 q.1)

-- ---- packages

pub type-refl : (p : PackageView) (t : ℕ) → identical_between p p t t ≡ true
type-refl p t = match_refl (corresponds p p) (λ n. match-refl (home_of p n) n) (type_of p.types.shapes t)

pub type-sym : (p q : PackageView) (t u : ℕ) → identical_between p q t u ≡ true → identical_between q p u t ≡ true
type-sym p q t u h =
    match_sym (corresponds p q) (corresponds q p) (λ n m. match-sym (home_of p n) (home_of q m) n m) (type_of p.types.shapes t) (type_of q.types.shapes u) h

pub type-trans : (p q r : PackageView) (t u v : ℕ) → identical_between p q t u ≡ true → identical_between q r u v ≡ true → identical_between p r t v ≡ true
type-trans p q r t u v h g =
    match_trans (corresponds p q) (corresponds q r) (corresponds p r) (λ n m o. match-trans (home_of p n) (home_of q m) (home_of r o) n m o)
    (type_of p.types.shapes t) (type_of q.types.shapes u) (type_of r.types.shapes v) h g

pub window-refl : (p : PackageView) (w : Window) → same_between p p w w ≡ true
window-refl p w = itself (identical_between p p) (type-refl p) (field_text p.types) (bodies_of p.functions) w

pub window-sym : (p q : PackageView) (w v : Window) → same_between p q w v ≡ true → same_between q p v w ≡ true
window-sym p q w v = between-sym (identical_between p q) (identical_between q p) (type-sym p q) (field_text p.types) (field_text q.types) (bodies_of p.functions) (bodies_of q.functions) w v

pub window-trans : (p q r : PackageView) (w v x : Window) → same_between p q w v ≡ true → same_between q r v x ≡ true → same_between p r w x ≡ true
window-trans p q r w v x =
    between-trans (identical_between p q) (identical_between q r) (identical_between p r) (type-trans p q r) (field_text p.types) (field_text q.types) (field_text r.types) (bodies_of p.functions) (bodies_of q.functions) (bodies_of r.functions) w v x
