-- How many functions stand in front of the appended one.
use Rattle.std.proofs.Common.{◌≡◌, ◌∙◌, ℕ, suc, ◌≤◌, inl, inr, Bool, true, false, List, [], ◌∷◌, ◌++◌, length, map, refl, sym, ap, subst, arith}
use Rattle.std.specs.Prelude.{if◌then◌else◌}
use Rattle.std.specs.List.{AllByRecursion}
use Rattle.std.proofs.lemmas.Bool.Decides.{nat_tests}
use Rattle.std.proofs.lemmas.List.{map-append}
use Rattle.go_tree.specs.declared.context.Entity.TheVariants as entity
use Rattle.go_tree.specs.declared.object.Declared.{Declared}
use Rattle.go_tree.specs.Declarations.{is_function}
use Rattle.go_tree.specs.Uses.{count_functions, functions_among, uses}
use Rattle.go_heads_added.specs.Added.{longer_declared}
use Rattle.go_heads_added.specs.Kept.{KeepsPackage}
use Rattle.go_package_defs.specs.Answer.{specifications}
use Rattle.go_package_defs.specs.Bodies.{is_this, those_of}
use Rattle.go_package_defs.specs.Declarations.{Specification}
use Rattle.go_package_defs.specs.Sources.{Source, unit_of}
use Rattle.go_package_settled.specs.Read.{IsFaultless}
use Rattle.go_package_added.specs.Appended.{IsAppended, function_specification}
use Rattle.go_package_added.specs.Reported.{declared_spot, specified_spot}
use Rattle.go_package_added.proofs.Appending.{all_placed}
use Rattle.go_package_added.proofs.Inserted.{front_of, mapped_count}
use Rattle.go_package_added.proofs.Specified.{IsPlaced}

-- ---- lists

abbrev Other : ℕ × ℕ → ℕ × ℕ → Type 0
Other z x = x ≡ z → ⊥

head_is : (x y : ℕ × ℕ) (xs ys : List (ℕ × ℕ)) → x ∷ xs ≡ y ∷ ys → x ≡ y
head_is x y xs ys e = cc

tail_is : (x y : ℕ × ℕ) (xs ys : List (ℕ × ℕ)) → x ∷ xs ≡ y ∷ ys → xs ≡ ys
tail_is x y xs ys e = cc

-- the first occurrence has one place
as_many : (z : ℕ × ℕ) (xs ys zs ws : List (ℕ × ℕ)) → AllByRecursion (Other z) xs → AllByRecursion (Other z) zs → xs ++ z ∷ ys ≡ zs ++ z ∷ ws → length xs ≡ length zs
as_many z [] ys [] ws h g e = refl
as_many z [] ys (v ∷ zs) ws h g e = absurd (g.0 (sym (head_is z v ys (zs ++ z ∷ ws) e)))
as_many z (x ∷ xs) ys [] ws h g e = absurd (h.0 (head_is x z (xs ++ z ∷ ys) ws e))
as_many z (x ∷ xs) ys (v ∷ zs) ws h g e = ap suc (as_many z xs ys zs ws h.1 g.1 (tail_is x v (xs ++ z ∷ ys) (zs ++ z ∷ ws) e))

-- ---- functions among objects

count_is : (ds : List Declared) → length (functions_among ds) ≡ count_functions ds
count_is [] = refl
count_is (d ∷ ds) = by (is_function d.entity) (count_is ds)
  where
    by : (b : Bool) → length (functions_among ds) ≡ count_functions ds → length (if b then d ∷ functions_among ds else functions_among ds) ≡ (if b then suc (count_functions ds) else count_functions ds)
    by true e = ap suc e
    by false e = e

among_both : (xs ys : List Declared) → functions_among (xs ++ ys) ≡ functions_among xs ++ functions_among ys
among_both [] ys = refl
among_both (d ∷ xs) ys = by (is_function d.entity) (among_both xs ys)
  where
    by : (b : Bool) → functions_among (xs ++ ys) ≡ functions_among xs ++ functions_among ys
        → (if b then d ∷ functions_among (xs ++ ys) else functions_among (xs ++ ys)) ≡ (if b then d ∷ functions_among xs else functions_among xs) ++ functions_among ys
    by true e = ap (λ l. d ∷ l) e
    by false e = e

abbrev spots : List Declared → List (ℕ × ℕ)
spots ds = map declared_spot (functions_among ds)

spots_both : (xs ys : List Declared) → spots (xs ++ ys) ≡ spots xs ++ spots ys
spots_both xs ys = ap (map declared_spot) (among_both xs ys) ∙ map-append declared_spot (functions_among xs) (functions_among ys)

longer_spots : (k end : ℕ) (ds : List Declared) → spots (map (longer_declared k end) ds) ≡ spots ds
longer_spots k end [] = refl
longer_spots k end (d ∷ ds) = by (is_function d.entity) (longer_spots k end ds)
  where
    by : (b : Bool) → spots (map (longer_declared k end) ds) ≡ spots ds
        → map declared_spot (if b then longer_declared k end d ∷ functions_among (map (longer_declared k end) ds) else functions_among (map (longer_declared k end) ds))
        ≡ map declared_spot (if b then d ∷ functions_among ds else functions_among ds)
    by true e = ap (λ l. (d.file, d.name) ∷ l) e
    by false e = e

function_first : (d : Declared) (ds : List Declared) → d.entity ≡ entity.Function → spots (d ∷ ds) ≡ (d.file, d.name) ∷ spots ds
function_first d ds e = ap (λ x. map declared_spot (if is_function x then d ∷ functions_among ds else functions_among ds)) e

-- ---- functions among specifications

those_other : (z : ℕ × ℕ) (P : Specification → Type 0) → ((d : Specification) → P d → Other z (specified_spot d)) → (ds : List Specification) → AllByRecursion P ds
    → AllByRecursion (Other z) (map specified_spot (those_of entity.Function ds))
those_other z P f [] h = tt
those_other z P f (d ∷ ds) h = by (is_this entity.Function d.entity) (those_other z P f ds h.1)
  where
    by : (b : Bool) → AllByRecursion (Other z) (map specified_spot (those_of entity.Function ds)) → AllByRecursion (Other z) (map specified_spot (if b then d ∷ those_of entity.Function ds else those_of entity.Function ds))
    by true g = (f d h.0, g)
    by false g = g

abbrev spot : ℕ → ℕ → ℕ × ℕ
spot a b = (a, b)

first_of : (a b c d : ℕ) → spot a b ≡ spot c d → a ≡ c
first_of a b c d e = ap (λ (p : ℕ × ℕ). p.0) e

second_of : (a b c d : ℕ) → spot a b ≡ spot c d → b ≡ d
second_of a b c d e = ap (λ (p : ℕ × ℕ). p.1) e

-- a specification that stands in another file, or in front of the token n, isn't that of a function that begins behind that
other_spot : (k n x : ℕ) → n ≤ x → (d : Specification) → IsPlaced k n d → Other (spot k (suc x)) (specified_spot d)
other_spot k n x l d (inl h) e = let f = first_of d.file (suc d.first) k (suc x) e in grind (arith, nat_tests)
other_spot k n x l d (inr h) e = let f = second_of d.file (suc d.first) k (suc x) e in let b = h.begins in absurd (omega (arith, f, b, l))

-- ---- a package

abbrev pub AreInOrder : List Source → Type 0
AreInOrder ss = map declared_spot (functions_among (uses (map unit_of ss)).package_level) ≡ map specified_spot (those_of entity.Function (specifications 0 ss))

pub counted : (k : ℕ) (ss us : List Source) (h : IsAppended k ss us) (keeps : KeepsPackage k h.count (suc h.first) (map unit_of ss) (map unit_of us)) (faultless : IsFaultless ss) → AreInOrder ss → AreInOrder us
    → (front rest : List Specification) → those_of entity.Function (specifications 0 ss) ≡ front ++ rest → those_of entity.Function (specifications 0 us) ≡ front ++ function_specification k ss us h ∷ rest
    → length front ≡ keeps.gap.functions
counted k ss us h keeps faultless old new front rest were are =
    let kept = keeps.declared in
    let longer = map (longer_declared k keeps.end) in
    let z : ℕ × ℕ = (k, suc h.first) in
    let there = map specified_spot front in
    let behind = map specified_spot rest in
    let all : AllByRecursion (Other z) (map specified_spot (those_of entity.Function (specifications 0 ss))) =
    those_other z (IsPlaced k h.count) (other_spot k h.count h.first h.later) (specifications 0 ss) (all_placed k ss us h keeps faultless) in
    let front_other : AllByRecursion (Other z) there = front_of (Other z) there behind (subst (AllByRecursion (Other z)) (ap (map specified_spot) were ∙ map-append specified_spot front rest) all) in
    let first_other : AllByRecursion (Other z) (spots kept.first) =
    front_of (Other z) (spots kept.first) (spots kept.second) (subst (AllByRecursion (Other z)) (sym old ∙ ap spots kept.were ∙ spots_both kept.first kept.second) all) in
    let function : declared_spot kept.function ≡ z = ap (λ i. spot i kept.function.name) keeps.file ∙ ap (spot k) keeps.name in
    let objects : spots (uses (map unit_of us)).package_level ≡ spots kept.first ++ z ∷ spots kept.second =
    ap spots kept.are ∙ spots_both (longer kept.first) (kept.function ∷ longer kept.second)
    ∙ ap (λ l. l ++ spots (kept.function ∷ longer kept.second)) (longer_spots k keeps.end kept.first)
    ∙ ap (λ l. spots kept.first ++ l) (function_first kept.function (longer kept.second) keeps.entity ∙ ap (λ w. w ∷ spots (longer kept.second)) function ∙ ap (λ l. z ∷ l) (longer_spots k keeps.end kept.second)) in
    let named : map specified_spot (those_of entity.Function (specifications 0 us)) ≡ there ++ z ∷ behind = ap (map specified_spot) are ∙ map-append specified_spot front (function_specification k ss us h ∷ rest) in
    sym (mapped_count specified_spot front)
    ∙ as_many z there behind (spots kept.first) (spots kept.second) front_other first_other (sym named ∙ sym new ∙ objects)
    ∙ mapped_count declared_spot (functions_among kept.first)
    ∙ count_is kept.first
    ∙ keeps.functions
