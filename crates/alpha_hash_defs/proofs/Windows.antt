-- Windows that are the same have one number.
use Rattle.std.proofs.Common.{◌≡◌, ℕ, Bool, true, false, List, [], ◌∷◌, length, slice_get, refl, sym, ap, subst, ◌∙◌, arith}
use Rattle.std.specs.Prelude.{◌&&◌, ◌||◌, nat_eq}
use Rattle.std.specs.List.{list_all, list_any, zip}
use Rattle.std.proofs.lemmas.Bool.{and_parts, and_from, eqb-true, eq-eqb}
use Rattle.go_print.specs.Printed.{printed}
use Rattle.go_typed.specs.declared.window.Window.{Window}
use Rattle.go_typed.specs.Packages.{PackageView}
use Rattle.go_typed.specs.Trees.{Sort, Typeds}
use Rattle.clone_window.specs.Bodies.{bodies_of, locals_in, same_in}
use Rattle.clone_window.specs.Fields.{field_text, window_fields_agree}
use Rattle.clone_window.specs.Sameness.{are_alike, all_agree, all_locals, local_pairs, is_iff, fits_pair, is_one_to_one, sort_at, is_matched, is_same}
use Rattle.clone_window.proofs.Public.{all-as-many}
use Rattle.alpha_hash_defs.specs.Alike.{IsOneToOne, NamesAgree}
use Rattle.alpha_hash_defs.specs.Naming.{Naming}
use Rattle.alpha_hash_defs.specs.Packages.{statements_in, window_hash, window_naming}
use Rattle.alpha_hash_defs.specs.Sharing.{IsLawful, ShareNames}
use Rattle.alpha_hash_defs.specs.Numbers.{hash}
use Rattle.alpha_hash_defs.specs.Words.{window_words}
use Rattle.alpha_hash_defs.proofs.Alike.{Paired, alike-window}
use Rattle.alpha_hash_defs.proofs.Terms.{same-number}

-- whether these two are a pair of the list
abbrev are_pair : List (ℕ × ℕ) → ℕ → ℕ → Bool
are_pair pairs x y = list_any (λ p. nat_eq p.0 x && nat_eq p.1 y) pairs

pair-passes : (t : ℕ × ℕ → Bool) (p : ℕ × ℕ) (x y : ℕ) → (nat_eq p.0 x && nat_eq p.1 y) ≡ true → t p ≡ true → t (x, y) ≡ true
pair-passes t p x y e h =
    let k = and_parts (nat_eq p.0 x) (nat_eq p.1 y) e in
    subst (λ a. t (a, y) ≡ true) (eqb-true p.0 x k.0) (subst (λ b. t (p.0, b) ≡ true) (eqb-true p.1 y k.1) h)

head-or-rest : (t : ℕ × ℕ → Bool) (p : ℕ × ℕ) (ps : List (ℕ × ℕ)) (x y : ℕ) (b : Bool) → (nat_eq p.0 x && nat_eq p.1 y) ≡ b → are_pair (p ∷ ps) x y ≡ true → t p ≡ true →
    (are_pair ps x y ≡ true → t (x, y) ≡ true) → t (x, y) ≡ true
head-or-rest t p ps x y true s e h rest = pair-passes t p x y s h
head-or-rest t p ps x y false s e h rest = rest (sym (ap (λ b. b || are_pair ps x y) s) ∙ e)

-- what all pairs pass, each pair passes
found-passes : (t : ℕ × ℕ → Bool) (pairs : List (ℕ × ℕ)) (x y : ℕ) → are_pair pairs x y ≡ true → list_all t pairs ≡ true → t (x, y) ≡ true
found-passes t [] x y e h = cc
found-passes t (p ∷ ps) x y e h =
    let k = and_parts (t p) (list_all t ps) h in
    head-or-rest t p ps x y (nat_eq p.0 x && nat_eq p.1 y) refl e k.0 (λ g. found-passes t ps x y g k.1)

or-right : (a b : Bool) → b ≡ true → (a || b) ≡ true
or-right true b h = refl
or-right false b h = h

or-left : (a b : Bool) → a ≡ true → (a || b) ≡ true
or-left true b h = refl
or-left false b h = cc

-- rows whose pairs are related
paired-rows : (R : ℕ → ℕ → Bool) (xs ys : List ℕ) → length xs ≡ length ys → ((x y : ℕ) → are_pair (zip xs ys) x y ≡ true → R x y ≡ true) → Paired R xs ys
paired-rows R [] [] e h = tt
paired-rows R [] (y ∷ ys) e h = absurd (omega (arith, e))
paired-rows R (x ∷ xs) [] e h = absurd (omega (arith, e))
paired-rows R (x ∷ xs) (y ∷ ys) e h = (
  h x y (or-left (nat_eq x x && nat_eq y y) (are_pair (zip xs ys) x y) (and_from (nat_eq x x) (nat_eq y y) (eq-eqb x x refl) (eq-eqb y y refl))),
  paired-rows R xs ys (omega (arith, e)) (λ u v k. h u v (or-right (nat_eq x u && nat_eq y v) (are_pair (zip xs ys) u v) k)),
)

iff-right : (a b : Bool) → is_iff a b ≡ true → a ≡ true → b ≡ true
iff-right true b h e = h
iff-right false b h e = cc

iff-left : (a b : Bool) → is_iff a b ≡ true → b ≡ true → a ≡ true
iff-left true b h e = refl
iff-left false true h e = cc
iff-left false false h e = cc

one-to-one : (pairs : List (ℕ × ℕ)) → is_one_to_one pairs ≡ true → IsOneToOne (are_pair pairs)
one-to-one pairs h a b c d p q =
    let all = found-passes (λ x. list_all (fits_pair x) pairs) pairs a b p h in
    let fits = found-passes (fits_pair (a, b)) pairs c d q all in
    ((λ e. eqb-true b d (iff-right (nat_eq a c) (nat_eq b d) fits (eq-eqb a c e))), (λ e. eqb-true a c (iff-left (nat_eq a c) (nat_eq b d) fits (eq-eqb b d e))))

pub same-windows : {T : Type 0} (d : T → T → Bool) (n m : Naming T) (here there : List (Sort T)) → NamesAgree d n m → ((k : ℕ) → n.local_sort k ≡ sort_at here k) → ((k : ℕ) → m.local_sort k ≡ sort_at there k) →
    (ps qs : Typeds T) → is_same d here there ps qs ≡ true → window_fields_agree n.field_text m.field_text ps qs ≡ true → hash n ps ≡ hash m qs
same-windows d n m here there names left right ps qs h fields =
    let pairs = local_pairs ps qs in
    let R = are_pair pairs in
    let u = and_parts (all_agree d false false ps qs && is_one_to_one pairs) (list_all (is_matched d here there) pairs) h in
    let w = and_parts (all_agree d false false ps qs) (is_one_to_one pairs) u.0 in
    let long = all-as-many d false false ps qs w.0 in
    let sorts : (x y : ℕ) → R x y ≡ true → are_alike d (n.local_sort x) (m.local_sort y) ≡ true = λ x y k.
    ap (λ s. are_alike d s (m.local_sort y)) (left x) ∙ ap (λ t. are_alike d (sort_at here x) t) (right y) ∙ found-passes (is_matched d here there) pairs x y k u.1 in
    same-number R (one-to-one pairs w.1) (window_words n ps) (window_words m qs)
    (alike-window d n m R names sorts ps qs w.0 fields (paired-rows R (all_locals false ps) (all_locals false qs) long (λ x y k. k)))

-- the numbers of windows of two packages
pub hash-lawful : IsLawful window_hash
hash-lawful identical p q share w v h =
    let here = locals_in (slice_get (bodies_of p.functions) w.func) in
    let there = locals_in (slice_get (bodies_of q.functions) v.func) in
    let u = and_parts (is_same identical here there (statements_in p w) (statements_in q v)) (window_fields_agree (field_text p.types) (field_text q.types) (statements_in p w) (statements_in q v)) h in
    same-windows identical (window_naming p w) (window_naming q v) here there
    (record { types = share.types; objects = share.objects }) (λ k. refl) (λ k. refl) (statements_in p w) (statements_in q v) u.0 u.1

-- ---- one package

share-themselves : (p : PackageView) → ShareNames nat_eq p p
share-themselves p = record { types = λ t u e. ap (printed p) (eqb-true t u e); objects = λ o. refl }

-- numbers that are lawful are lawful in each package
pub lawful-alone : (number : PackageView → Window → ℕ) → IsLawful number → (p : PackageView) (w v : Window) → same_in p w v ≡ true → number p w ≡ number p v
lawful-alone number law p w v h = law nat_eq p p (share-themselves p) w v h
