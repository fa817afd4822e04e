-- Rows of objects, functions and numbers, one further.
use Rattle.std.proofs.Common.{◌≡◌, ℕ, zero, suc, ◌+◌, ◌<◌, ◌≤◌, Bool, true, false, List, [], ◌∷◌, ◌++◌, length, take, drop, get_or, Some, None, slice_get, map, refl, sym, ap, subst, ◌∙◌, arith}
use Rattle.std.proofs.lemmas.Bool.Decides.{nat_tests}
use Rattle.std.specs.Prelude.{◌&&◌, nat_eq}
use Rattle.std.specs.List.{list_all}
use Rattle.go_tree.specs.declared.object.Declared.{Declared}
use Rattle.go_typed.specs.declared.form.Referent.{Referent}
use Rattle.go_typed.specs.Funcs.{FuncView}
use Rattle.go_typed.specs.Packages.{Counts, counted, have_locals, referent_of, referents_from}

-- the first of the rest passes, and so do those behind it
pub all-at : {A : Type 0} (p : A → Bool) (xs : List A) (i : ℕ) (b : Bool) → i < length xs → ((x : A) → slice_get xs i ≡ Some x → b ≡ p x) → list_all p (drop i xs) ≡ (b && list_all p (drop (i + 1) xs))
all-at p [] i b h f = absurd (omega (arith, h))
all-at p (x ∷ xs) zero b h f = ap (λ c. c && list_all p xs) (sym (f x refl))
all-at p (x ∷ xs) (suc i) b h f =
    all-at p xs i b (omega (arith, h)) f ∙ ap (λ k. b && list_all p (drop k (x ∷ xs))) (let n : suc (i + 1) ≡ suc i + 1 = omega arith in n)

take-there : {A : Type 0} (xs : List A) (i : ℕ) (x : A) → slice_get xs i ≡ Some x → take (i + 1) xs ≡ take i xs ++ x ∷ []
take-there [] i x e = cc
take-there (y ∷ xs) zero x e = let k : y ≡ x = cc in ap (λ z. z ∷ []) k
take-there (y ∷ xs) (suc i) x e = ap (λ k. take k (y ∷ xs)) (let n : suc i + 1 ≡ suc (i + 1) = omega arith in n) ∙ ap (λ l. y ∷ l) (take-there xs i x e)

take-to-end : {A : Type 0} (xs : List A) (n : ℕ) → slice_get xs n ≡ None → take n xs ≡ xs
take-to-end [] zero e = refl
take-to-end [] (suc n) e = refl
take-to-end (x ∷ xs) zero e = cc
take-to-end (x ∷ xs) (suc n) e = ap (λ l. x ∷ l) (take-to-end xs n e)

joined : {A : Type 0} (xs : List A) (x : A) (ys : List A) → xs ++ x ∷ ys ≡ (xs ++ x ∷ []) ++ ys
joined [] x ys = refl
joined (y ∷ xs) x ys = ap (λ l. y ∷ l) (joined xs x ys)

next-numbers : (ds : List Declared) (i : ℕ) (c d : Counts) (z : Declared) → i < length ds → d ≡ counted c (get_or ds i z).entity →
    referents_from c (drop i ds) ≡ referent_of c (get_or ds i z).entity ∷ referents_from d (drop (i + 1) ds)
next-numbers [] i c d z h k = absurd (omega (arith, h))
next-numbers (x ∷ ds) zero c d z h k = ap (λ m. referent_of c x.entity ∷ referents_from m ds) (sym k)
next-numbers (x ∷ ds) (suc i) c d z h k =
    next-numbers ds i c d z (omega (arith, h)) k ∙ ap (λ m. referent_of c (get_or ds i z).entity ∷ referents_from d (drop m (x ∷ ds))) (let n : suc (i + 1) ≡ suc i + 1 = omega arith in n)

numbered-next : (rs all : List Referent) (ds : List Declared) (i : ℕ) (c d : Counts) (z : Declared) → i < length ds → d ≡ counted c (get_or ds i z).entity →
    slice_get rs i ≡ Some (referent_of c (get_or ds i z).entity) → all ≡ take i rs ++ referents_from c (drop i ds) → all ≡ take (i + 1) rs ++ referents_from d (drop (i + 1) ds)
numbered-next rs all ds i c d z h k r a =
    let o = get_or ds i z in
    a
    ∙ ap (λ l. take i rs ++ l) (next-numbers ds i c d z h k)
    ∙ joined (take i rs) (referent_of c o.entity) (referents_from d (drop (i + 1) ds))
    ∙ ap (λ l. l ++ referents_from d (drop (i + 1) ds)) (sym (take-there rs i (referent_of c o.entity) r))

-- an object more has its number
pub numbered-more : (rs all : List Referent) (ds : List Declared) (i n : ℕ) (c d : Counts) (z : Declared) → i < length ds → n ≡ i → d ≡ counted c (get_or ds i z).entity →
    slice_get rs n ≡ Some (referent_of c (get_or ds i z).entity) → all ≡ take n rs ++ referents_from c (drop n ds) → all ≡ take (n + 1) rs ++ referents_from d (drop (n + 1) ds)
numbered-more rs all ds i n c d z h e k r a =
    let P : ℕ → Type 0 = λ m. slice_get rs m ≡ Some (referent_of c (get_or ds i z).entity) → all ≡ take m rs ++ referents_from c (drop m ds) → all ≡ take (m + 1) rs ++ referents_from d (drop (m + 1) ds) in
    subst P (sym e) (numbered-next rs all ds i c d z h k) r a

nothing-left : {A : Type 0} (xs : List A) (n : ℕ) → length xs ≤ n → drop n xs ≡ []
nothing-left [] zero h = refl
nothing-left [] (suc n) h = refl
nothing-left (x ∷ xs) zero h = absurd (omega (arith, h))
nothing-left (x ∷ xs) (suc n) h = nothing-left xs n (omega (arith, h))

append-nothing : {A : Type 0} (xs : List A) → xs ++ [] ≡ xs
append-nothing [] = refl
append-nothing (x ∷ xs) = ap (λ l. x ∷ l) (append-nothing xs)

-- all have theirs
pub numbered-end : (rs all : List Referent) (ds : List Declared) (i : ℕ) (c : Counts) → length ds ≤ i → slice_get rs i ≡ None → all ≡ take i rs ++ referents_from c (drop i ds) → rs ≡ all
numbered-end rs all ds i c h n a =
    sym (
    a
    ∙ ap (λ l. take i rs ++ referents_from c l) (nothing-left ds i h)
    ∙ append-nothing (take i rs)
    ∙ take-to-end rs i n
    )

-- ---- locals

never : (b : Bool) → false ≡ (b && false)
never true = refl
never false = refl

pub other-lengths : (fs : List FuncView) (dss : List (List Declared)) → (length fs ≡ length dss → ⊥) → false ≡ have_locals fs dss
other-lengths [] [] h = absurd (h refl)
other-lengths [] (ds ∷ dss) h = refl
other-lengths (f ∷ fs) [] h = refl
other-lengths (f ∷ fs) (ds ∷ dss) h = never (nat_eq (length f.locals) (length ds)) ∙ ap (λ b. nat_eq (length f.locals) (length ds) && b) (other-lengths fs dss (λ e. h (ap suc e)))

pub locals-at : (fs : List FuncView) (dss : List (List Declared)) (i n : ℕ) (f : FuncView) → i < length fs → length fs ≡ length dss → f ≡ get_or fs i f → ((ds : List Declared) → slice_get dss i ≡ Some ds → n ≡ length ds) →
    have_locals (drop i fs) (drop i dss) ≡ (nat_eq (length f.locals) n && have_locals (drop (i + 1) fs) (drop (i + 1) dss))
locals-at [] dss i n f h l e g = absurd (omega (arith, h))
locals-at (x ∷ fs) [] i n f h l e g = absurd (omega (arith, l))
locals-at (x ∷ fs) (ds ∷ dss) zero n f h l e g =
    let same : x ≡ f = cc in
    ap (λ y. nat_eq (length y.locals) (length ds) && have_locals fs dss) same ∙ ap (λ m. nat_eq (length f.locals) m && have_locals fs dss) (sym (g ds refl))
locals-at (x ∷ fs) (ds ∷ dss) (suc i) n f h l e g =
    locals-at fs dss i n f (omega (arith, h)) (omega (arith, l)) e g
    ∙ ap (λ m. nat_eq (length f.locals) n && have_locals (drop m (x ∷ fs)) (drop m (ds ∷ dss))) (let k : suc (i + 1) ≡ suc i + 1 = omega arith in k)

-- ---- numbers

pub equal-numbers : (a b : ℕ) → a ≡ b → nat_eq a b ≡ true
equal-numbers a b e = grind (arith, nat_tests)

pub other-numbers : (a b : ℕ) → (a ≡ b → ⊥) → nat_eq a b ≡ false
other-numbers a b e = grind (arith, nat_tests)

pub length-map : {A B : Type 0} (f : A → B) (xs : List A) → length (map f xs) ≡ length xs
length-map f [] = refl
length-map f (x ∷ xs) = ap suc (length-map f xs)
