-- The objects of the tokens are those that the events give one by one, from the last one on.
use Rattle.std.proofs.Common.{◌≡◌, ◌<◌, ◌+◌, ℕ, zero, suc, refl, sym, ap, ◌∙◌, arith, Bool, true, false, if◌then◌else◌, nat_eq, List, [], ◌∷◌, Option, Some, None, set, replicate, get_or, drop, length, ◌≤◌}
use Rattle.std.proofs.Math.Seq.{drop-cons}
use Rattle.go_tokens.specs.Tokens.{TokenList}
use Rattle.go_tree.specs.declared.event.Event.{Event}
use Rattle.go_tree.specs.declared.event.Event.TheVariants as event
use Rattle.go_tree.specs.declared.object.Object.{Object}
use Rattle.go_tree.specs.Units.{word}
use Rattle.go_tree.specs.Meanings.{Meaning}
use Rattle.go_tree.specs.Objects.{is_declared_at, own_object, object_at, token_object, token_objects}
use Rattle.go_scopes_lookup.specs.Tables.{declared_object, over_event}

-- where an object is declared, it is the declaration's own
own_if : {X : Type 0} (b : Bool) (x y : Option X) (z : Option X) (o : X) → (if b then x else y) ≡ Some o → (y ≡ Some o → z ≡ Some o) → (if b then x else z) ≡ Some o
own_if true x y z o e f = e
own_if false x y z o e f = f e

pub own_object-there : (n t : ℕ) (w : List ℕ) (all ms : List Meaning) (o : Object) → declared_object n t ms ≡ Some o → own_object n t w all ms ≡ Some o
own_object-there n t w all [] o e = absurd (grind (arith, e))
own_object-there n t w all (m ∷ ms) o e = own_if (is_declared_at n t m.source) (Some m.object) (declared_object n t ms) (own_object n t w all ms) o e (own_object-there n t w all ms o)

none_if : {X : Type 0} (b : Bool) (x : X) (y z v : Option X) → (if b then Some x else y) ≡ None → (y ≡ None → z ≡ v) → (if b then Some x else z) ≡ v
none_if true x y z v e f = absurd (grind (arith, e))
none_if false x y z v e f = f e

pub own_object-none : (n t : ℕ) (w : List ℕ) (all ms : List Meaning) → declared_object n t ms ≡ None → own_object n t w all ms ≡ object_at all n t w
own_object-none n t w all [] e = refl
own_object-none n t w all (m ∷ ms) e = none_if (is_declared_at n t m.source) m.object (declared_object n t ms) (own_object n t w all ms) (object_at all n t w) e (own_object-none n t w all ms)

-- the values of a function from a number on
abbrev row : {X : Type 0} → (ℕ → X) → ℕ → ℕ → List X
row f b zero = []
row f b (suc k) = f b ∷ row f (suc b) k

abbrev at_one : {X : Type 0} → ℕ → X → (ℕ → X) → ℕ → X
at_one x o f t = if nat_eq x t then o else f t

cons : {X : Type 0} {x y : X} {xs ys : List X} → x ≡ y → xs ≡ ys → x ∷ xs ≡ y ∷ ys
cons e d = grind (arith, e, d)

row-congr : {X : Type 0} (f g : ℕ → X) (b k : ℕ) → ((t : ℕ) → f t ≡ g t) → row f b k ≡ row g b k
row-congr f g b zero e = refl
row-congr f g b (suc k) e = cons (e b) (row-congr f g (suc b) k e)

at_one-other : {X : Type 0} (x : ℕ) (o : X) (f : ℕ → X) (t : ℕ) → x < t → at_one x o f t ≡ f t
at_one-other x o f t less = grind (arith, less)

at_one-same : {X : Type 0} (x : ℕ) (o : X) (f : ℕ → X) (t : ℕ) → x ≡ t → at_one x o f t ≡ o
at_one-same x o f t same = grind (arith, same)

at_one-before : {X : Type 0} (x : ℕ) (o : X) (f : ℕ → X) (t : ℕ) → t < x → at_one x o f t ≡ f t
at_one-before x o f t less = grind (arith, less)

row-above : {X : Type 0} (x : ℕ) (o : X) (f : ℕ → X) (b k : ℕ) → x < b → row (at_one x o f) b k ≡ row f b k
row-above x o f b zero less = refl
row-above x o f b (suc k) less = cons (at_one-other x o f b less) (row-above x o f (suc b) k (omega (arith, less)))

row-set : {X : Type 0} (x : ℕ) (o : X) (f : ℕ → X) (b j k : ℕ) → x ≡ b + j → row (at_one x o f) b k ≡ set (row f b k) j o
row-set x o f b j zero e = refl
row-set x o f b zero (suc k) e = cons (at_one-same x o f b (omega (arith, e))) (row-above x o f (suc b) k (omega (arith, e)))
row-set x o f b (suc j) (suc k) e = cons (at_one-before x o f b (omega (arith, e))) (row-set x o f (suc b) j k (omega (arith, e)))

row-objects : (ms : List Meaning) (n : ℕ) (ts : TokenList) (es : List Event) (t k : ℕ) → token_objects ms n ts es t k ≡ row (λ x. token_object ms n ts x es) t k
row-objects ms n ts es t zero = refl
row-objects ms n ts es t (suc k) = cons refl (row-objects ms n ts es (suc t) k)

at_number : {X : Type 0} (x t : ℕ) (g : ℕ → X) (y : X) → (if nat_eq x t then g t else y) ≡ (if nat_eq x t then g x else y)
at_number x t g y = grind arith

pub token_objects-none : (ms : List Meaning) (n : ℕ) (ts : TokenList) (t k : ℕ) → token_objects ms n ts [] t k ≡ replicate k None
token_objects-none ms n ts t zero = refl
token_objects-none ms n ts t (suc k) = cons refl (token_objects-none ms n ts (suc t) k)

pub token_objects-event : (ms : List Meaning) (n : ℕ) (ts : TokenList) (e : Event) (es : List Event) (k : ℕ) → token_objects ms n ts (e ∷ es) 0 k ≡ over_event ms n ts e (token_objects ms n ts es 0 k)
token_objects-event ms n ts (event.Use u) es k =
    row-objects ms n ts (event.Use u ∷ es) 0 k
    ∙ row-congr (λ x. token_object ms n ts x (event.Use u ∷ es)) (at_one u.name (object_at ms n u.name (word ts u.name)) (λ x. token_object ms n ts x es)) 0 k (λ t. at_number u.name t (λ x. object_at ms n x (word ts x)) (token_object ms n ts t es))
    ∙ row-set u.name (object_at ms n u.name (word ts u.name)) (λ x. token_object ms n ts x es) 0 u.name k (omega arith)
    ∙ ap (λ os. set os u.name (object_at ms n u.name (word ts u.name))) (sym (row-objects ms n ts es 0 k))
token_objects-event ms n ts (event.Declaration d) es k =
    row-objects ms n ts (event.Declaration d ∷ es) 0 k
    ∙ row-congr (λ x. token_object ms n ts x (event.Declaration d ∷ es)) (at_one d.name (own_object n d.name (word ts d.name) ms ms) (λ x. token_object ms n ts x es)) 0 k (λ t. at_number d.name t (λ x. own_object n x (word ts x) ms ms) (token_object ms n ts t es))
    ∙ row-set d.name (own_object n d.name (word ts d.name) ms ms) (λ x. token_object ms n ts x es) 0 d.name k (omega arith)
    ∙ ap (λ os. set os d.name (own_object n d.name (word ts d.name) ms ms)) (sym (row-objects ms n ts es 0 k))
token_objects-event ms n ts e es k =
    row-objects ms n ts (e ∷ es) 0 k
    ∙ row-congr (λ x. token_object ms n ts x (e ∷ es)) (λ x. token_object ms n ts x es) 0 k (λ t. refl)
    ∙ sym (row-objects ms n ts es 0 k)

pub drop-back : {X : Type 0} (l : List X) (i j : ℕ) (d : X) → j + 1 ≡ i → j < length l → d ≡ get_or l j d → drop j l ≡ d ∷ drop i l
drop-back l i j d e less is = let next : suc j ≡ i = omega (arith, e) in drop-cons l j d less ∙ cons (sym is) (ap (λ n. drop n l) next)

pub drop-nothing : {X Y : Type 0} (f : List X → Y) (l : List X) (i : ℕ) → i ≤ 0 → f (drop i l) ≡ f l
drop-nothing f l zero e = refl
drop-nothing f l (suc i) e = absurd (omega arith)
