-- The objects of tokens, by what files tell; a token that declares a local names no object of the package.
use Rattle.std.proofs.Common.{◌≡◌, ◌∙◌, ℕ, zero, suc, ◌+◌, ◌<◌, ◌≤◌, ◌⊎◌, inl, inr, Bool, true, false, nat_eq, List, [], ◌∷◌, ◌++◌, length, Option, Some, None, refl, sym, ap, subst, arith}
use Rattle.std.specs.Prelude.{slice_get, if◌then◌else◌}
use Rattle.std.proofs.lemmas.Bool.{eq-eqb}
use Rattle.go_tokens.specs.Tokens.{TokenList}
use Rattle.go_tree.specs.declared.context.Block.{Block}
use Rattle.go_tree.specs.declared.context.Block.TheVariants as block
use Rattle.go_tree.specs.declared.event.Declaration.{Declaration}
use Rattle.go_tree.specs.declared.event.Event.{Event}
use Rattle.go_tree.specs.declared.event.Event.TheVariants as event
use Rattle.go_tree.specs.declared.object.Object.{Object}
use Rattle.go_tree.specs.Contexts.{is_package}
use Rattle.go_tree.specs.Declarations.{Found, found_in, found_from, found, declarations}
use Rattle.go_tree.specs.Imports.{imports_fmt}
use Rattle.go_tree.specs.Meanings.{Meaning, Numbers, first_numbers, own_number, numbers_behind, numbered, imported_meaning, imported_from, meanings}
use Rattle.go_tree.specs.Needs.{is_same}
use Rattle.go_tree.specs.Objects.{own_object, object_at, token_object, token_objects, objects_from}
use Rattle.go_tree.specs.Units as names
use Rattle.go_tree.specs.Units.{word}
use Rattle.go_tree.specs.Uses.{object_there, object_in, object_of, uses}
use Rattle.go_scopes_events.specs.Orders.{AreInOrder}
use Rattle.go_scopes_events.specs.Scopes.{AreOrderly}
use Rattle.go_package_defs.specs.Sources.{number_in}
use Rattle.go_package_settled.specs.Resolved.{IsIn}

-- ---- rows of objects

some_same : {A : Type 0} (x y : A) → ◌≡◌ {A = Option A} (Some x) (Some y) → x ≡ y
some_same {A} x y e = ap (λ o. or x o) e
  where
    or : A → Option A → A
    or z None = z
    or z (Some a) = a

token_is : (ms : List Meaning) (n : ℕ) (ts : TokenList) (es : List Event) (t k i : ℕ) (x : Option Object) → slice_get (token_objects ms n ts es t k) i ≡ Some x → x ≡ token_object ms n ts (t + i) es
token_is ms n ts es t zero i x e = absurd cc
token_is ms n ts es t (suc k) zero x e =
    let same : t ≡ t + 0 = omega arith in sym (some_same (token_object ms n ts t es) x e) ∙ ap (λ y. token_object ms n ts y es) same
token_is ms n ts es t (suc k) (suc i) x e =
    let next : suc t + i ≡ t + suc i = omega arith in token_is ms n ts es (suc t) k i x e ∙ ap (λ y. token_object ms n ts y es) next

row_token : (ms : List Meaning) (n : ℕ) (u : names.Unit) (t : ℕ) (x : Option (Option Object)) (o : Object) → slice_get (token_objects ms n u.tokens u.events 0 (length u.tokens.tokens)) t ≡ x → object_there x ≡ Some o
    → token_object ms n u.tokens t u.events ≡ Some o
row_token ms n u t None o e h = absurd cc
row_token ms n u t (Some y) o e h =
    let zeroth : 0 + t ≡ t = omega arith in
    ap (λ i. token_object ms n u.tokens i u.events) (sym zeroth) ∙ sym (token_is ms n u.tokens u.events 0 (length u.tokens.tokens) t y e) ∙ h

file_token : (ms : List Meaning) (k : ℕ) (us : List names.Unit) (i : ℕ) (u : names.Unit) (t : ℕ) (o : Object) → slice_get us i ≡ Some u → object_in (slice_get (objects_from ms k us) i) t ≡ Some o
    → token_object ms (k + i) u.tokens t u.events ≡ Some o
file_token ms k [] i u t o e h = absurd cc
file_token ms k (x ∷ us) zero u t o e h =
    let same : x ≡ u = some_same x u e in
    let none : k ≡ k + 0 = omega arith in
    ap (λ n. token_object ms n u.tokens t u.events) (sym none)
    ∙ subst (λ (y : names.Unit). token_object ms k y.tokens t y.events ≡ Some o) same
    (row_token ms k x t (slice_get (token_objects ms k x.tokens x.events 0 (length x.tokens.tokens)) t) o refl h)
file_token ms k (x ∷ us) (suc i) u t o e h =
    let next : suc k + i ≡ k + suc i = omega arith in
    ap (λ n. token_object ms n u.tokens t u.events) (sym next) ∙ file_token ms (suc k) us i u t o e h

-- the object of a token is what its file tells of it
pub object_token : (us : List names.Unit) (n : ℕ) (u : names.Unit) (t : ℕ) (o : Object) → slice_get us n ≡ Some u → object_of (uses us) n t ≡ Some o → token_object (meanings us) n u.tokens t u.events ≡ Some o
object_token us n u t o e h =
    let zeroth : 0 + n ≡ n = omega arith in
    ap (λ i. token_object (meanings us) i u.tokens t u.events) (sym zeroth) ∙ file_token (meanings us) 0 us n u t o e h

-- ---- declarations in files

-- The events tell of the declaration.
abbrev pub Tells : Declaration → List Event → Type 0
Tells x [] = ⊥
Tells x (event.Declaration d ∷ es) = (x ≡ d) ⊎ Tells x es
Tells x (e ∷ es) = Tells x es

-- The file in which it stands tells of it.
pub record IsToldOf (k : ℕ) (us : List names.Unit) (x : Found) : Type 0 where
  pub number : ℕ
  pub unit : names.Unit
  pub there : slice_get us number ≡ Some unit
  pub file : x.file ≡ k + number
  pub tells : Tells x.it unit.events

told_in : (n : ℕ) (ts : TokenList) (es : List Event) (x : Found) → IsIn x (found_in n ts es) → (x.file ≡ n) × Tells x.it es
told_in n ts [] x a = absurd a
told_in n ts (event.Declaration d ∷ es) x (inl e) = (ap (λ (f : Found). f.file) e, inl (ap (λ (f : Found). f.it) e))
told_in n ts (event.Declaration d ∷ es) x (inr a) = let r = told_in n ts es x a in (r.0, inr r.1)
told_in n ts (e ∷ es) x a = told_in n ts es x a

split_in : (x : Found) (xs ys : List Found) → IsIn x (xs ++ ys) → IsIn x xs ⊎ IsIn x ys
split_in x [] ys a = inr a
split_in x (y ∷ xs) ys (inl e) = inl (inl e)
split_in x (y ∷ xs) ys (inr a) = more (split_in x xs ys a)
  where
    more : IsIn x xs ⊎ IsIn x ys → IsIn x (y ∷ xs) ⊎ IsIn x ys
    more (inl b) = inl (inr b)
    more (inr b) = inr b

pub told_of : (k : ℕ) (us : List names.Unit) (x : Found) → IsIn x (found_from k us) → IsToldOf k us x
told_of k [] x a = absurd a
told_of k (u ∷ us) x a = by (split_in x (found_in k u.tokens u.events) (found_from (suc k) us) a) (λ b. told_of (suc k) us x b)
  where
    by : IsIn x (found_in k u.tokens u.events) ⊎ IsIn x (found_from (suc k) us) → (IsIn x (found_from (suc k) us) → IsToldOf (suc k) us x) → IsToldOf k (u ∷ us) x
    by (inl b) f =
        let r = told_in k u.tokens u.events x b in
        let none : k ≡ k + 0 = omega arith in
        record { number = 0; unit = u; there = refl; file = r.0 ∙ none; tells = r.1 }
    by (inr b) f =
        let r = f b in
        let next : suc k + r.number ≡ k + suc r.number = omega arith in
        record { number = suc r.number; unit = r.unit; there = r.there; file = r.file ∙ next; tells = r.tells }

-- ---- a token that declares a name

pub lesser_name : (a b : ℕ) → a < b → nat_eq a b ≡ false
lesser_name a b e = by (nat_eq a b) refl
  where
    by : (c : Bool) → nat_eq a b ≡ c → nat_eq a b ≡ false
    by true q = absurd (grind (arith, e, q))
    by false q = q

name_behind : (i j : ℕ) (es : List Event) (x : Declaration) → AreInOrder i j es → Tells x es → i ≤ x.name
name_behind i j [] x o a = absurd a
name_behind i j (event.Declaration d ∷ es) x o (inl e) = let same = ap (λ (y : Declaration). y.name) e in let h = o.0 in omega (arith, h, same)
name_behind i j (event.Declaration d ∷ es) x o (inr a) = let r = name_behind (suc d.name) j es x o.1 a in let h = o.0 in omega (arith, h, r)
name_behind i j (event.Use u ∷ es) x o a = let r = name_behind (suc u.name) j es x o.1 a in let h = o.0 in omega (arith, h, r)
name_behind i j (e ∷ es) x o a = name_behind i j es x o a

pub token_told : (ms : List Meaning) (n : ℕ) (ts : TokenList) (es : List Event) (x : Declaration) (i j : ℕ) → AreInOrder i j es → Tells x es → token_object ms n ts x.name es ≡ own_object n x.name (word ts x.name) ms ms
token_told ms n ts [] x i j o a = absurd a
token_told ms n ts (event.Declaration d ∷ es) x i j o (inl e) =
    ap (λ b. if b then own_object n x.name (word ts x.name) ms ms else token_object ms n ts x.name es) (eq-eqb d.name x.name (sym (ap (λ (y : Declaration). y.name) e)))
token_told ms n ts (event.Declaration d ∷ es) x i j o (inr a) =
    let r = name_behind (suc d.name) j es x o.1 a in
    ap (λ b. if b then own_object n x.name (word ts x.name) ms ms else token_object ms n ts x.name es) (lesser_name d.name x.name (omega (arith, r)))
    ∙ token_told ms n ts es x (suc d.name) j o.1 a
token_told ms n ts (event.Use u ∷ es) x i j o a =
    let r = name_behind (suc u.name) j es x o.1 a in
    ap (λ b. if b then object_at ms n x.name (word ts x.name) else token_object ms n ts x.name es) (lesser_name u.name x.name (omega (arith, r)))
    ∙ token_told ms n ts es x (suc u.name) j o.1 a
token_told ms n ts (e ∷ es) x i j o a = token_told ms n ts es x i j o a

-- ---- locals

pub local_number : (k : Numbers) (b : Block) → is_package b ≡ false → number_in (Some (own_number k b)) ≡ None
local_number k block.Package e = absurd cc
local_number k (block.Local i) e = refl

same_itself : (d : Found) → is_same d d ≡ true
same_itself d = grind arith

-- the first of these declarations that stands at the place of a local is a local
pub local_own : (x : Found) (w : List ℕ) (all : List Meaning) (k : Numbers) (ds : List Found) (o : Object) → ((y : Found) → IsIn y ds → is_same y x ≡ true → is_package y.it.block ≡ false) → IsIn x ds
    → own_object x.file x.it.name w all (numbered k ds) ≡ Some o → number_in (Some o) ≡ None
local_own x w all k [] o f h e = absurd h
local_own x w all k (y ∷ ds) o f h e =
    by (is_same y x) refl h e (λ i q. local_own x w all (numbers_behind k y.it.entity y.it.block) ds o (λ z j. f z (inr j)) i q)
  where
    by : (b : Bool) → is_same y x ≡ b → IsIn x (y ∷ ds) → (if b then Some (own_number k y.it.block) else own_object x.file x.it.name w all (numbered (numbers_behind k y.it.entity y.it.block) ds)) ≡ Some o
        → (IsIn x ds → own_object x.file x.it.name w all (numbered (numbers_behind k y.it.entity y.it.block) ds) ≡ Some o → number_in (Some o) ≡ None) → number_in (Some o) ≡ None
    by true q i g r = ap number_in (sym g) ∙ local_number k y.it.block (f y (inl refl) q)
    by false q (inl s) g r = absurd (let t : is_same y x ≡ true = subst (λ z. is_same z x ≡ true) s (same_itself x) in grind (arith, t, q))
    by false q (inr i) g r = r i g

pub imports_aside : (n t : ℕ) (w : List ℕ) (all : List Meaning) (k : ℕ) (us : List names.Unit) (ms : List Meaning) → own_object n t w all (imported_from k us ++ ms) ≡ own_object n t w all ms
imports_aside n t w all k [] ms = refl
imports_aside n t w all k (u ∷ us) ms = by (imports_fmt u.tokens u.events) (imports_aside n t w all (suc k) us ms)
  where
    by : (b : Bool) → own_object n t w all (imported_from (suc k) us ++ ms) ≡ own_object n t w all ms
        → own_object n t w all ((if b then imported_meaning k ∷ imported_from (suc k) us else imported_from (suc k) us) ++ ms) ≡ own_object n t w all ms
    by true g = g
    by false g = g

pub orderly_at : (us : List names.Unit) (n : ℕ) (u : names.Unit) → AreOrderly us → slice_get us n ≡ Some u → (j : ℕ) × AreInOrder 0 j u.events
orderly_at [] n u h e = absurd cc
orderly_at (x ∷ us) zero u h e = (h.0.end, subst (λ (y : names.Unit). AreInOrder 0 h.0.end y.events) (some_same x u e) h.0.order)
orderly_at (x ∷ us) (suc n) u h e = orderly_at us n u h.1 e

-- a token that declares a local names no object of the package
pub local_apart : (us : List names.Unit) → AreOrderly us → (x : Found) → IsIn x (found us) → IsIn x (declarations us) → ((y : Found) → IsIn y (declarations us) → is_same y x ≡ true → is_package y.it.block ≡ false)
    → number_in (object_of (uses us) x.file x.it.name) ≡ None
local_apart us h x f d s = by (object_of (uses us) x.file x.it.name) refl
  where
    by : (o : Option Object) → object_of (uses us) x.file x.it.name ≡ o → number_in o ≡ None
    by None e = refl
    by (Some o) e =
        let ms = meanings us in
        let r = told_of 0 us x f in
        let zeroth : 0 + r.number ≡ r.number = omega arith in
        let file : x.file ≡ r.number = r.file ∙ zeroth in
        let there : slice_get us x.file ≡ Some r.unit = ap (slice_get us) file ∙ r.there in
        let order = orderly_at us x.file r.unit h there in
        let w = word r.unit.tokens x.it.name in
        let own : own_object x.file x.it.name w ms ms ≡ Some o =
        sym (token_told ms x.file r.unit.tokens r.unit.events x.it 0 order.0 order.1 r.tells) ∙ object_token us x.file r.unit x.it.name o there e in
        local_own x w ms first_numbers (declarations us) o s d (sym (imports_aside x.file x.it.name w ms 0 us (numbered first_numbers (declarations us))) ∙ own)
