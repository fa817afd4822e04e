-- Packages with equal heads are named alike.
use Rattle.std.proofs.Common.{◌≡◌, ◌∙◌, ℕ, suc, true, List, [], ◌∷◌, length, Option, Some, None, codes, refl, sym, ap, arith}
use Rattle.std.specs.Prelude.{◌&&◌, if◌then◌else◌, nat_eq, slice_get}
use Rattle.std.proofs.lemmas.Bool.{and_parts, eqb-true}
use Rattle.go_tree.specs.declared.object.Declared.{Declared}
use Rattle.go_tree.specs.Predeclared.{known_names}
use Rattle.go_types_relations.specs.Identity.{same_name, same_names}
use Rattle.go_typed.specs.declared.form.Referent.{Referent}
use Rattle.go_typed.specs.Packages.{PackageView, IsPackage}
use Rattle.go_print.specs.Names.{name_of, declared_name}
use Rattle.go_heads.specs.Functions.{Function, Alone, KeepsFunctions, all_functions, function_alone}
use Rattle.go_heads.specs.Heads.{File, body_of}
use Rattle.go_heads.specs.Names.{own_text}
use Rattle.go_heads.specs.FunctionNames.{function_name}
use Rattle.go_heads.proofs.Public.{IsThere, is_there}
use Rattle.go_heads_types.specs.Packages.{IsResolved, KeepsNames}
use Rattle.go_heads_types.specs.Names.{AreNamedAlike}
use Rattle.go_heads_types.proofs.HashTexts.{names-are}
use Rattle.clone_window.specs.declared.outline.Outline.{Outline}
use Rattle.clone_window.specs.Kinds.{referent_outline}
use Rattle.clone_window.specs.Sameness.{same_outline}
use Rattle.clone_classes.specs.Heads.{Home, in_package, in_function, homes_match, home_of, corresponds}
use Rattle.alpha_hash_defs.specs.Packages.{predeclared_text, declared_text, object_text}
use Rattle.alpha_hash_defs.proofs.Public.{name-is}
use Rattle.go_heads_types.specs.WindowPackages.{package_read, package_files}
use Rattle.go_heads_types.proofs.Bodies.{LiesIn, same_bodies}
use Rattle.go_heads_types.proofs.Homes.{IsLocalName, IsNameAt, DeclareByThemselves, LocalsFollow, named_by_home}
use Rattle.go_heads_types.proofs.Texts.{text_there}

-- ---- objects

listed_alike : (p q : PackageView) (o : Outline) (rs : List Referent) (ds es : List Declared) → length es ≡ length ds
    → ((n : ℕ) (x y : Declared) → slice_get ds n ≡ Some x → slice_get es n ≡ Some y → name_of p (Some x) ≡ name_of q (Some y)) → declared_text p o rs ds ≡ declared_text q o rs es
listed_alike p q o [] ds es e h = refl
listed_alike p q o (r ∷ rs) [] [] e h = refl
listed_alike p q o (r ∷ rs) [] (y ∷ es) e h = absurd (omega (arith, e))
listed_alike p q o (r ∷ rs) (x ∷ ds) [] e h = absurd (omega (arith, e))
listed_alike p q o (r ∷ rs) (x ∷ ds) (y ∷ es) e h =
    ap (λ w. if same_outline (referent_outline r) o then w else declared_text p o rs ds) (h 0 x y refl refl)
    ∙ ap (λ w. if same_outline (referent_outline r) o then name_of q (Some y) else w) (listed_alike p q o rs ds es (omega (arith, e)) (λ n. h (suc n)))

objects_alike : (p q : PackageView) → IsPackage p → IsPackage q → KeepsNames (package_read p) (package_read q) p.names q.names → (o : Outline) → object_text p o ≡ object_text q o
objects_alike p q h k keeps o =
    let one : (n : ℕ) (x y : Declared) → slice_get p.uses.package_level n ≡ Some x → slice_get q.uses.package_level n ≡ Some y → name_of p (Some x) ≡ name_of q (Some y) = λ n x y a b.
    text_there p.files x.file x.name ∙ sym (keeps.declared n x y a b).text ∙ sym (text_there q.files y.file y.name) in
    let referents : p.env.referents ≡ q.env.referents = h.referents ∙ sym keeps.referents ∙ sym k.referents in
    let same : declared_text p o p.env.referents p.uses.package_level ≡ declared_text q o q.env.referents q.uses.package_level =
    ap (λ rs. declared_text p o rs p.uses.package_level) referents ∙ listed_alike p q o q.env.referents p.uses.package_level q.uses.package_level keeps.count one in
    ap (λ w. if nat_eq o.operator 5 then predeclared_text o.count known_names else if nat_eq o.operator 6 then codes "fmt.Println" else w) same

-- ---- types

abbrev pub NamesTellNumbers : List File → List File → Type 0
NamesTellNumbers old new = (k l : ℕ) (f g : Function) → slice_get (all_functions old) k ≡ Some f → slice_get (all_functions new) l ≡ Some g → function_name g ≡ function_name f → k ≡ l

lies_in : (g : Function) → IsThere g → LiesIn (length g.file.tokens.tokens) (body_of g.tree)
lies_in g h b e = let x = h.made.body b e in (x.0, omega (arith, x.1, h.within))

module _ (old new : List File) (keeps : KeepsFunctions old new) (numbers : NamesTellNumbers old new) (a : (k : ℕ) (g : Function) → slice_get (all_functions old) k ≡ Some g → IsThere g)
    (b : (k : ℕ) (g : Function) → slice_get (all_functions new) k ≡ Some g → IsThere g) where
  locals_alike : (n m : List ℕ) (s t : List (List ℕ)) (i j : ℕ) (v w : List ℕ) → IsLocalName old n s i v → IsLocalName new m t j w → n ≡ m → s ≡ t → i ≡ j → v ≡ w
  locals_alike n m s t i j v w x y names texts tokens =
      let number : x.number ≡ y.number = numbers x.number y.number x.function y.function x.there y.there (y.named ∙ sym names ∙ sym x.named) in
      let there : slice_get (all_functions old) y.number ≡ Some x.function = ap (slice_get (all_functions old)) (sym number) ∙ x.there in
      let bodies =
      same_bodies x.function.file.tokens y.function.file.tokens (body_of x.function.tree) (body_of y.function.tree) (lies_in x.function (a x.number x.function x.there)) (lies_in y.function (b y.number y.function y.there))
      (x.texts ∙ texts ∙ sym y.texts) in
      let one : function_alone y.function ≡ function_alone x.function = keeps.bodies y.number x.function y.function there y.there bodies in
      x.text ∙ ap (own_text (function_alone x.function)) tokens ∙ ap (λ (z : Alone). own_text z j) (sym one) ∙ sym y.text

  homes_alike : (x y : Option Home) (n m : ℕ) (v w : List ℕ) → IsNameAt old x v → IsNameAt new y w → homes_match x y n m ≡ true → v ≡ w
  homes_alike None None n m v w h k e = h ∙ sym k
  homes_alike None (Some y) n m v w h k e = absurd cc
  homes_alike (Some x) None n m v w h k e = absurd cc
  homes_alike (Some (in_package c)) (Some (in_package d)) n m v w h k e = h ∙ name-is c d e ∙ sym k
  homes_alike (Some (in_package c)) (Some (in_function d t j)) n m v w h k e = absurd cc
  homes_alike (Some (in_function c s i)) (Some (in_package d)) n m v w h k e = absurd cc
  homes_alike (Some (in_function c s i)) (Some (in_function d t j)) n m v w h k e =
      let x = and_parts (same_name c d && same_names s t) (nat_eq i j) e in
      let y = and_parts (same_name c d) (same_names s t) x.0 in
      locals_alike c d s t i j v w h k (name-is c d y.0) (names-are s t y.1) (eqb-true i j x.1)

-- ---- packages

module _ (p q : PackageView) (g : IsPackage p) (i : IsPackage q) (h : IsResolved (package_read p) p.names) (k : IsResolved (package_read q) q.names) (law : DeclareByThemselves)
    (here : LocalsFollow (package_files p)) (there : LocalsFollow (package_files q)) (names : KeepsNames (package_read p) (package_read q) p.names q.names)
    (keeps : KeepsFunctions (package_files p) (package_files q)) (numbers : NamesTellNumbers (package_files p) (package_files q)) where
  types_alike : (n m : ℕ) → corresponds p q n m ≡ true → declared_name p n ≡ declared_name q m
  types_alike n m e =
      homes_alike (package_files p) (package_files q) keeps numbers (is_there (package_files p) h.read) (is_there (package_files q) k.read) (home_of p n) (home_of q m) n m
      (declared_name p n) (declared_name q m) (named_by_home p h law here n) (named_by_home q k law there m) e

  pub alike : AreNamedAlike p q
  alike = record { types = types_alike; objects = objects_alike p q g i names }
