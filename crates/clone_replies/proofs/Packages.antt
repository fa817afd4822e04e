-- A package of the program has the listing of the package over the types themselves.
use Rattle.std.proofs.Common.{◌≡◌, ◌∙◌, ℕ, ◌<◌, Bool, true, false, List, [], ◌∷◌, map, length, ap, refl, sym, arith}
use Rattle.std.proofs.lemmas.Bool.{and_parts, and_from, eqb-true, eq-eqb}
use Rattle.std.proofs.lemmas.Bool.Decides.{nat_tests}
use Rattle.std.specs.Prelude.{◌&&◌, ◌↔◌, nat_eq, nat_lt}
use Rattle.std.specs.List.{list_all}
use Rattle.go_tree.specs.File.{FileTree}
use Rattle.go_types.specs.Tables.{Table, IsTable, rights_of, type_of}
use Rattle.go_types.specs.Trees.{TypeTree, Identical}
use Rattle.go_types_relations.specs.Identity.{is_identical}
use Rattle.go_types_relations.specs.Renaming.{renamed, IsOneToOne}
use Rattle.go_typed.specs.Contents.{Content, content, FuncContent, func_content, func_renamed, IsRenamed, IsPackageOf}
use Rattle.go_typed.specs.Funcs.{FuncView, tree_of}
use Rattle.go_typed.specs.Packages.{PackageView, IsPackage, Counts, counts, is_below, is_known_func, is_known_tree, refers_to}
use Rattle.go_typed.specs.Trees.{sort_has, every, every_form}
use Rattle.clone_window.specs.declared.bounds.Bounds.{Bounds}
use Rattle.clone_window.specs.Bodies.{Body, body_of, bodies_of}
use Rattle.clone_window.specs.Fields.{FieldNames, field_by, field_text}
use Rattle.clone_classes.specs.Listing.{listing, listing_in}
use Rattle.clone_replies.specs.Classes.{Listed, classes_in, body_in, listed_content, listed_package, shown_class}
use Rattle.clone_replies.specs.Listing.{listing_by, listing_reply, listing_text}
use Rattle.clone_replies.proofs.Fields.{SameFields, UnderlyingRenamed, fields-renamed}
use Rattle.clone_replies.proofs.Mapped.{body-mapped}
use Rattle.clone_replies.proofs.Places.{listed-mapped, all-shown-mapped}
use Rattle.clone_replies.proofs.Tested.{passes, any-bodies, listing-mapped}

-- ---- listings over other words for types

abbrev pub Keeps : {T U : Type 0} → (T → U) → (T → T → Bool) → (U → U → Bool) → (T → Bool) → Type 0
Keeps {T} {U} g d e P = (t u : T) → P t ≡ true → P u ≡ true → e (g t) (g u) ≡ d t u

listing-by-mapped : {T U : Type 0} (g : T → U) (m : FieldNames U) (d : T → T → Bool) (e : U → U → Bool) (P : T → Bool) → Keeps g d e P →
    (bounds : Bounds) (l : Listed T) → SameFields g l.fields m → list_all (passes P) l.bodies ≡ true → listing_by e bounds (listed-mapped g m l) ≡ listing_by d bounds l
listing-by-mapped g m d e P keeps bounds l same h =
    ap (listing_text l.names)
    (ap (map (shown_class (listed-mapped g m l))) (listing-mapped g d e P keeps l.fields m same bounds l.bodies h) ∙ all-shown-mapped g m l (listing d l.fields bounds l.bodies))

abbrev listed-by : {T : Type 0} → Listed T → List (Body T) → Listed T
listed-by l bs = record { names = l.names; files = l.files; fields = l.fields; bodies = bs }

-- ---- numbers of types

-- what is known of types
pub record OfTypes : Type 0 where
  pub numbers : (t : Table) (i j : ℕ) → IsTable t → i < length t.shapes → j < length t.shapes → (i ≡ j) ↔ Identical (type_of t.shapes i) (type_of t.shapes j)
  pub test : (t u : TypeTree) → (is_identical t u ≡ true) ↔ Identical t u
  pub renamings : (name : ℕ → ℕ) (t u : TypeTree) → IsOneToOne name → is_identical (renamed name t) (renamed name u) ≡ is_identical t u
  pub underlying : UnderlyingRenamed

same-bool : (a b : Bool) → (a ≡ true → b ≡ true) → (b ≡ true → a ≡ true) → a ≡ b
same-bool true b f h = sym (f refl)
same-bool false true f h = h refl
same-bool false false f h = refl

identical-numbers : OfTypes → (t : Table) (i j : ℕ) → IsTable t → is_below (length t.shapes) i ≡ true → is_below (length t.shapes) j ≡ true →
    is_identical (type_of t.shapes i) (type_of t.shapes j) ≡ nat_eq i j
identical-numbers law t i j table p q =
    let n = length t.shapes in
    let low : i < n = grind (arith, nat_tests, p) in
    let high : j < n = grind (arith, nat_tests, q) in
    let both = law.numbers t i j table low high in
    let told = law.test (type_of t.shapes i) (type_of t.shapes j) in
    same-bool (is_identical (type_of t.shapes i) (type_of t.shapes j)) (nat_eq i j)
    (λ h. eq-eqb i j (both.1 (told.0 h)))
    (λ h. told.1 (both.0 (eqb-true i j h)))

bodies-of-content : (g : ℕ → TypeTree) (fs : List FuncView) → map body_in (map (func_content g) fs) ≡ map (body-mapped g) (bodies_of fs)
bodies-of-content g [] = refl
bodies-of-content g (f ∷ fs) = ap (λ bs. body-mapped g (body_of f) ∷ bs) (bodies-of-content g fs)

pub known-pass : (c : Counts) (n : ℕ) (fs : List FuncView) → list_all (is_known_func c n) fs ≡ true → list_all (passes (is_below n)) (bodies_of fs) ≡ true
known-pass c n [] h = refl
known-pass c n (f ∷ fs) h =
    let u = and_parts (is_known_func c n f) (list_all (is_known_func c n) fs) h in
    let v = and_parts (nat_lt f.signature n && list_all (sort_has (is_below n)) f.locals) (is_known_tree c n (tree_of f)) u.0 in
    let locals = (and_parts (nat_lt f.signature n) (list_all (sort_has (is_below n)) f.locals) v.0).1 in
    let tree = (and_parts (every (is_below n) (tree_of f)) (every_form (refers_to c) (tree_of f)) v.1).0 in
    and_from (passes (is_below n) (body_of f)) (list_all (passes (is_below n)) (bodies_of fs))
    (and_from (list_all (sort_has (is_below n)) f.locals) (every (is_below n) (tree_of f)) locals tree) (known-pass c n fs u.1)

-- over the types themselves, in the place of their numbers
pub listed-numbers : (p : PackageView) → listed_content (content p) ≡ listed-mapped (type_of p.types.shapes) (field_by (rights_of p.types)) (listed_package p)
listed-numbers p = ap (listed-by (listed_content (content p))) (bodies-of-content (type_of p.types.shapes) p.functions)

pub keeps-numbers : OfTypes → (p : PackageView) → IsTable p.types → Keeps (type_of p.types.shapes) nat_eq is_identical (is_below (length p.types.shapes))
keeps-numbers law p table = λ i j h k. identical-numbers law p.types i j table h k

classes-of-numbers : OfTypes → (bounds : Bounds) (p : PackageView) → IsPackage p → IsTable p.types → classes_in bounds (content p) ≡ listing_in bounds p
classes-of-numbers law bounds p stands table =
    let g : ℕ → TypeTree = type_of p.types.shapes in
    let n = length p.types.shapes in
    ap (listing is_identical (field_by (rights_of p.types)) bounds) (bodies-of-content g p.functions)
    ∙ listing-mapped g nat_eq is_identical (is_below n) (keeps-numbers law p table) (field_text p.types) (field_by (rights_of p.types)) (λ t k. refl) bounds (bodies_of p.functions) (known-pass (counts p) n p.functions stands.known_functions)

of-numbers : OfTypes → (bounds : Bounds) (p : PackageView) → IsPackage p → IsTable p.types → listing_reply bounds (content p) ≡ listing_by nat_eq bounds (listed_package p)
of-numbers law bounds p stands table =
    let g : ℕ → TypeTree = type_of p.types.shapes in
    let n = length p.types.shapes in
    ap (listing_by is_identical bounds) (listed-numbers p)
    ∙ listing-by-mapped g (field_by (rights_of p.types)) nat_eq is_identical (is_below n) (keeps-numbers law p table) bounds (listed_package p) (λ t k. refl)
    (known-pass (counts p) n p.functions stands.known_functions)

-- ---- numbers of declared types

bodies-renamed : (name : ℕ → ℕ) (fs : List FuncContent) → map body_in (map (func_renamed name) fs) ≡ map (body-mapped (renamed name)) (map body_in fs)
bodies-renamed name [] = refl
bodies-renamed name (f ∷ fs) = ap (λ bs. body-mapped (renamed name) (body_in f) ∷ bs) (bodies-renamed name fs)

abbrev listed-of : List (List ℕ) → List FileTree → FieldNames TypeTree → List (Body TypeTree) → Listed TypeTree
listed-of names files fields bs = record { names = names; files = files; fields = fields; bodies = bs }

-- with other numbers of declared types
pub listed-renamed : (name : ℕ → ℕ) (c d : Content) → IsRenamed name c d → listed_content d ≡ listed-mapped (renamed name) (field_by d.rights) (listed_content c)
listed-renamed name c d h =
    ap (λ names. listed-of names d.files (field_by d.rights) (map body_in d.functions)) h.names
    ∙ ap (λ files. listed-of c.names files (field_by d.rights) (map body_in d.functions)) h.files
    ∙ ap (λ fs. listed-of c.names c.files (field_by d.rights) (map body_in fs)) h.functions
    ∙ ap (listed-of c.names c.files (field_by d.rights)) (bodies-renamed name c.functions)

pub keeps-renamed : OfTypes → (name : ℕ → ℕ) → IsOneToOne name → Keeps (renamed name) is_identical is_identical (λ t. true)
keeps-renamed law name one = λ t u p q. law.renamings name t u one

classes-of-renamings : OfTypes → (bounds : Bounds) (name : ℕ → ℕ) (c d : Content) → IsRenamed name c d → classes_in bounds d ≡ classes_in bounds c
classes-of-renamings law bounds name c d h =
    ap (λ fs. listing is_identical (field_by d.rights) bounds (map body_in fs)) h.functions
    ∙ ap (listing is_identical (field_by d.rights) bounds) (bodies-renamed name c.functions)
    ∙ listing-mapped (renamed name) is_identical is_identical (λ t. true) (keeps-renamed law name h.one_to_one)
    (field_by c.rights) (field_by d.rights) (fields-renamed law.underlying name c.rights d.rights h.rights) bounds (map body_in c.functions) (any-bodies (map body_in c.functions))

of-renamings : OfTypes → (bounds : Bounds) (name : ℕ → ℕ) (c d : Content) → IsRenamed name c d → listing_reply bounds d ≡ listing_reply bounds c
of-renamings law bounds name c d h =
    ap (listing_by is_identical bounds) (listed-renamed name c d h)
    ∙ listing-by-mapped (renamed name) (field_by d.rights) is_identical is_identical (λ t. true) (keeps-renamed law name h.one_to_one) bounds (listed_content c)
    (fields-renamed law.underlying name c.rights d.rights h.rights)
    (any-bodies (map body_in c.functions))

pub of-types : OfTypes → (bounds : Bounds) (p : PackageView) (c : Content) → IsPackage p → IsTable p.types → IsPackageOf c (content p) →
    listing_by nat_eq bounds (listed_package p) ≡ listing_reply bounds c
of-types law bounds p c stands table h = sym (of-numbers law bounds p stands table) ∙ of-renamings law bounds h.0 c (content p) h.1

pub classes-of-types : OfTypes → (bounds : Bounds) (p : PackageView) (c : Content) → IsPackage p → IsTable p.types → IsPackageOf c (content p) →
    listing_in bounds p ≡ classes_in bounds c
classes-of-types law bounds p c stands table h = sym (classes-of-numbers law bounds p stands table) ∙ classes-of-renamings law bounds h.0 c (content p) h.1
