-- The names of objects of a package, one after the other.
use Rattle.std.proofs.Common.{◌≡◌, ◌∙◌, ℕ, zero, suc, ◌+◌, ◌<◌, ◌≤◌, Bool, List, [], ◌∷◌, length, drop, Option, Some, None, slice_get, refl, sym, ap, arith}
use Rattle.std.specs.Prelude.{if◌then◌else◌}
use Rattle.std.specs.Option.{option_map}
use Rattle.std.proofs.lemmas.Option.{same_Some}
use Rattle.go_tree.specs.declared.object.Declared.{Declared}
use Rattle.go_typed.specs.declared.form.Referent.{Referent}
use Rattle.go_typed.specs.Packages.{PackageView}
use Rattle.go_print.specs.Names.{name_of}
use Rattle.clone_window.specs.declared.outline.Outline.{Outline}
use Rattle.clone_window.specs.Kinds.{referent_outline}
use Rattle.clone_window.specs.Sameness.{same_outline}
use Rattle.alpha_hash_defs.specs.Packages.{declared_text}

pub from-there : {A : Type 0} (xs : List A) (i : ℕ) (x : A) → slice_get xs i ≡ Some x → drop i xs ≡ x ∷ drop (i + 1) xs
from-there [] i x e = cc
from-there (y ∷ xs) zero x e = ap (λ z. z ∷ xs) (same_Some y x e)
from-there (y ∷ xs) (suc i) x e = from-there xs i x e ∙ (let n : suc (i + 1) ≡ suc i + 1 = omega arith in ap (λ k. x ∷ drop k (y ∷ xs)) n)

pub nothing-there : {A : Type 0} (xs : List A) (i : ℕ) → slice_get xs i ≡ None → drop i xs ≡ []
nothing-there [] zero e = refl
nothing-there [] (suc i) e = refl
nothing-there (y ∷ xs) zero e = cc
nothing-there (y ∷ xs) (suc i) e = nothing-there xs i e

pub some-there : {A : Type 0} (xs : List A) (i : ℕ) → i < length xs → (x : A) × (slice_get xs i ≡ Some x)
some-there [] i l = absurd (omega (arith, l))
some-there (x ∷ xs) zero l = (x, refl)
some-there (x ∷ xs) (suc i) l = some-there xs i (omega (arith, l))

-- whether a referent shows this, if it is there
abbrev pub shows : Outline → Option Referent → Option Bool
shows o r = option_map (λ r. same_outline (referent_outline r) o) r

at-both : (p : PackageView) (o : Outline) (rs : List Referent) (ds : List Declared) (i : ℕ) (r : Referent) (d : Declared) → slice_get rs i ≡ Some r → slice_get ds i ≡ Some d →
    declared_text p o (drop i rs) (drop i ds) ≡ (if same_outline (referent_outline r) o then name_of p (Some d) else declared_text p o (drop (i + 1) rs) (drop (i + 1) ds))
at-both p o rs ds i r d re de = ap (λ l. declared_text p o l (drop i ds)) (from-there rs i r re) ∙ ap (λ l. declared_text p o (r ∷ drop (i + 1) rs) l) (from-there ds i d de)

here : (p : PackageView) (o : Outline) (rs : List Referent) (ds : List Declared) (i : ℕ) (b : Bool) (m : Option Referent) → slice_get rs i ≡ m → shows o m ≡ Some b → i < length ds →
    declared_text p o (drop i rs) (drop i ds) ≡ (if b then name_of p (slice_get ds i) else declared_text p o (drop (i + 1) rs) (drop (i + 1) ds))
here p o rs ds i b None re e l = cc
here p o rs ds i b (Some r) re e l =
    let d = some-there ds i l in
    let s : same_outline (referent_outline r) o ≡ b = cc in
    at-both p o rs ds i r d.0 re d.1
    ∙ ap (λ x. if x then name_of p (Some d.0) else declared_text p o (drop (i + 1) rs) (drop (i + 1) ds)) s
    ∙ ap (λ x. if b then name_of p x else declared_text p o (drop (i + 1) rs) (drop (i + 1) ds)) (sym d.1)

pub declared-at : (p : PackageView) (o : Outline) (rs : List Referent) (ds : List Declared) (i : ℕ) (b : Bool) → shows o (slice_get rs i) ≡ Some b → i < length ds →
    declared_text p o (drop i rs) (drop i ds) ≡ (if b then name_of p (slice_get ds i) else declared_text p o (drop (i + 1) rs) (drop (i + 1) ds))
declared-at p o rs ds i b e l = here p o rs ds i b (slice_get rs i) refl e l

gone : (p : PackageView) (o : Outline) (rs : List Referent) (ds : List Declared) (i : ℕ) (m : Option Referent) → slice_get rs i ≡ m → shows o m ≡ None → declared_text p o (drop i rs) (drop i ds) ≡ []
gone p o rs ds i None re e = ap (λ l. declared_text p o l (drop i ds)) (nothing-there rs i re)
gone p o rs ds i (Some r) re e = cc

pub declared-nowhere : (p : PackageView) (o : Outline) (rs : List Referent) (ds : List Declared) (i : ℕ) → shows o (slice_get rs i) ≡ None → declared_text p o (drop i rs) (drop i ds) ≡ []
declared-nowhere p o rs ds i e = gone p o rs ds i (slice_get rs i) refl e

none-left : (p : PackageView) (o : Outline) (rs : List Referent) → declared_text p o rs [] ≡ []
none-left p o [] = refl
none-left p o (r ∷ rs) = refl

all-dropped : {A : Type 0} (xs : List A) (i : ℕ) → length xs ≤ i → drop i xs ≡ []
all-dropped [] zero l = refl
all-dropped [] (suc i) l = refl
all-dropped (x ∷ xs) zero l = absurd (omega (arith, l))
all-dropped (x ∷ xs) (suc i) l = all-dropped xs i (omega (arith, l))

pub declared-end : (p : PackageView) (o : Outline) (rs : List Referent) (ds : List Declared) (i : ℕ) → length ds ≤ i → declared_text p o (drop i rs) (drop i ds) ≡ []
declared-end p o rs ds i l = ap (declared_text p o (drop i rs)) (all-dropped ds i l) ∙ none-left p o (drop i rs)
