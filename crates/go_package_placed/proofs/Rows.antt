-- The object of a token is what its file tells of it.
use Rattle.std.proofs.Common.{◌≡◌, ◌∙◌, ℕ, zero, suc, ◌+◌, List, [], ◌∷◌, length, Option, Some, None, refl, sym, ap, subst, arith}
use Rattle.std.specs.Prelude.{slice_get}
use Rattle.go_tokens.specs.Tokens.{TokenList}
use Rattle.go_tree.specs.declared.event.Event.{Event}
use Rattle.go_tree.specs.declared.object.Object.{Object}
use Rattle.go_tree.specs.Meanings.{Meaning, meanings}
use Rattle.go_tree.specs.Objects.{token_object, token_objects, objects_from}
use Rattle.go_tree.specs.Units as names
use Rattle.go_tree.specs.Uses.{object_there, object_in, object_of, uses}
use Rattle.go_package_placed.proofs.Found.{same_unit}

some_same : {A : Type 0} (x y : A) → ◌≡◌ {A = Option A} (Some x) (Some y) → x ≡ y
some_same {A} x y e = ap (λ o. or x o) e
  where
    or : A → Option A → A
    or z None = z
    or z (Some a) = a

token_is : (ms : List Meaning) (n : ℕ) (ts : TokenList) (es : List Event) (t k i : ℕ) (x : Option Object) → slice_get (token_objects ms n ts es t k) i ≡ Some x → x ≡ token_object ms n ts (t + i) es
token_is ms n ts es t zero i x e = absurd cc
token_is ms n ts es t (suc k) zero x e =
    let same : t ≡ t + 0 = omega arith in sym (some_same (token_object ms n ts t es) x e) ∙ ap (λ y. token_object ms n ts y es) same
token_is ms n ts es t (suc k) (suc i) x e =
    let next : suc t + i ≡ t + suc i = omega arith in token_is ms n ts es (suc t) k i x e ∙ ap (λ y. token_object ms n ts y es) next

row_token : (ms : List Meaning) (n : ℕ) (u : names.Unit) (t : ℕ) (x : Option (Option Object)) (o : Object) → slice_get (token_objects ms n u.tokens u.events 0 (length u.tokens.tokens)) t ≡ x → object_there x ≡ Some o
    → token_object ms n u.tokens t u.events ≡ Some o
row_token ms n u t None o e h = absurd cc
row_token ms n u t (Some y) o e h =
    let zeroth : 0 + t ≡ t = omega arith in
    ap (λ i. token_object ms n u.tokens i u.events) (sym zeroth) ∙ sym (token_is ms n u.tokens u.events 0 (length u.tokens.tokens) t y e) ∙ h

file_token : (ms : List Meaning) (k : ℕ) (us : List names.Unit) (i : ℕ) (u : names.Unit) (t : ℕ) (o : Object) → slice_get us i ≡ Some u → object_in (slice_get (objects_from ms k us) i) t ≡ Some o
    → token_object ms (k + i) u.tokens t u.events ≡ Some o
file_token ms k [] i u t o e h = absurd cc
file_token ms k (x ∷ us) zero u t o e h =
    let none : k ≡ k + 0 = omega arith in
    ap (λ n. token_object ms n u.tokens t u.events) (sym none)
    ∙ subst (λ (y : names.Unit). token_object ms k y.tokens t y.events ≡ Some o) (same_unit x u e)
    (row_token ms k x t (slice_get (token_objects ms k x.tokens x.events 0 (length x.tokens.tokens)) t) o refl h)
file_token ms k (x ∷ us) (suc i) u t o e h =
    let next : suc k + i ≡ k + suc i = omega arith in
    ap (λ n. token_object ms n u.tokens t u.events) (sym next) ∙ file_token ms (suc k) us i u t o e h

pub object_token : (us : List names.Unit) (n : ℕ) (u : names.Unit) (t : ℕ) (o : Object) → slice_get us n ≡ Some u → object_of (uses us) n t ≡ Some o → token_object (meanings us) n u.tokens t u.events ≡ Some o
object_token us n u t o e h =
    let zeroth : 0 + n ≡ n = omega arith in
    ap (λ i. token_object (meanings us) i u.tokens t u.events) (sym zeroth) ∙ file_token (meanings us) 0 us n u t o e h
