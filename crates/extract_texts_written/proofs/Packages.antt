-- What is known of a package that type-checks: its locals and declared types have names, and its types can be written.
use Rattle.std.proofs.Common.{◌≡◌, ℕ, zero, suc, ◌<◌, ◌≤◌, Bool, true, List, [], ◌∷◌, map, length, Option, Some, None, Result, Ok, Err, refl, sym, ap, subst, ◌∙◌, ◌⊎◌, inl, inr, arith}
use Rattle.std.specs.Prelude.{nat_lt, slice_get}
use Rattle.std.specs.List.{AllByRecursion, list_all}
use Rattle.std.specs.Option.{option_map}
use Rattle.std.proofs.lemmas.Bool.{and_parts}
use Rattle.std.proofs.lemmas.Bool.Decides.{nat_tests}
use Rattle.go_base.specs.declared.bytes.FileText.{FileText}
use Rattle.go_base.specs.Gives.{◌>>=◌}
use Rattle.go_tree.specs.declared.context.Entity.TheVariants as entity
use Rattle.go_tree.specs.declared.object.Declared.{Declared}
use Rattle.go_tree.specs.Failures.{Failure, least}
use Rattle.go_tree.specs.Faults.{reported}
use Rattle.go_tree.specs.File.{FileTree}
use Rattle.go_tree.specs.Uses.{uses}
use Rattle.go_types.specs.Relations.{Rights}
use Rattle.go_types.specs.Tables.{Table, type_of, rights_of, IsTable}
use Rattle.go_types.specs.Trees.{TypeTree}
use Rattle.go_types_relations.specs.Questions.{flat, entry}
use Rattle.go_types_relations.specs.Renaming.{renamed}
use Rattle.go_package_laws.specs.Reach.{Within}
use Rattle.go_stmts_written.specs.Named.{AllFunctionsNamed}
use Rattle.go_typed.specs.declared.origin.Origin.{Origin}
use Rattle.go_typed.specs.Contents.{Content, content, func_content}
use Rattle.go_typed.specs.Funcs.{FuncView, tree_of}
use Rattle.go_typed.specs.Packages.{PackageView, is_there}
use Rattle.go_typed.specs.Trees.{Sort, SortHas, sort_mapped}
use Rattle.go_exprs_rules.specs.Scopes.{Scope, in_full}
use Rattle.go_typed.specs.Trees as trees
use Rattle.go_typed.specs.declared.form.Referent.TheVariants as referent
use Rattle.go_package_defs.specs.Answer.{Environment, specifications, environment_of, package_failures, unless, package_answer}
use Rattle.go_package_defs.specs.Bodies.{functions_from, those_of}
use Rattle.go_package_defs.specs.Checked.{Typing, surroundings_of, names_answer, bodies_answer, sources_answer, content_of, origins, IsChecked, IsCheckedPackage, names_of}
use Rattle.go_package_defs.specs.Knowledge.{outlines}
use Rattle.go_package_defs.specs.Sources.{source_of, unit_of, package_of, rounds}
use Rattle.go_package_defs.specs.Verdicts.{known}
use Rattle.go_package_checked.specs.Checked.{PackageIsWithin}
use Rattle.go_print.specs.Names.{object_at}
use Rattle.go_print_laws.specs.Lexemes.{IsName, NamesAreNames}
use Rattle.go_stmts_limits.specs.Packages.{AllFunctionsWithin}
use Rattle.go_stmts_written.specs.Packages.{CheckedPackagesAreNamed}
use Rattle.escape_check.specs.Places.{Sources, sources_of, text_in, name_text}
use Rattle.escape_check.specs.Types.{declared_text, object_text}
use Rattle.extract_texts_written.proofs.Declared.{HasName, AreDeclared, files_declare}
use Rattle.extract_texts_written.proofs.Origins.{there_below, each_there, OriginNamed, origins_named, FunctionsAdd, few_rights}
use Rattle.extract_texts_written.proofs.Tables.{below, sort_has, node_has}
use Rattle.extract_texts_written.proofs.Types.{FunctionWritten, FunctionBelow, functions_written}

-- ---- what the check gives

bound : {A B F : Type 0} (r : Result A F) (f : A → Result B F) (y : B) → (r >>= f) ≡ Ok y → (x : A) × (r ≡ Ok x) × (f x ≡ Ok y)
bound (Ok x) f y e = (x, refl, e)
bound (Err g) f y e = cc

ok_same : {A F : Type 0} (x y : A) → (let r : Result A F = Ok x in r) ≡ Ok y → x ≡ y
ok_same x y e = cc

unless_ok : {A : Type 0} (o : Option Failure) (x y : A) → unless o x ≡ Ok y → x ≡ y
unless_ok None x y e = cc
unless_ok (Some f) x y e = cc

-- a package that was checked, by its parts
record Parts (texts : List FileText) (c : Content) (h : IsChecked texts c) : Type 0 where
  typing : Typing
  answered : sources_answer (map source_of h.files) ≡ Ok typing
  files : c.files ≡ h.files
  uses_are : c.uses ≡ uses (map unit_of (map source_of h.files))
  origins_are : c.origins ≡ origins c.uses
  rights_few : length c.rights ≤ length c.origins

parts_of : FunctionsAdd → (texts : List FileText) (c : Content) (h : IsChecked texts c) → Parts texts c h
parts_of adds texts c h =
    let ss = map source_of h.files in
    let ds = specifications 0 ss in
    let fs = those_of entity.Function ds in
    let r = bound (sources_answer ss) (λ t. Ok (content_of (names_of texts) h.files ss t)) c h.answer in
    let u = bound (names_answer (map unit_of ss)) (λ u. package_answer ss u >>= λ e. bodies_answer ss ds u e) r.0 r.1 in
    let e = bound (package_answer ss u.0) (λ e. bodies_answer ss ds u.0 e) r.0 u.2 in
    let b = bound (functions_from (package_of ss u.0) (surroundings_of u.0 e.0) e.0.rights 0 fs) (λ b. Ok (record { uses = u.0; environment = e.0; bodies = b; specifications = ds })) r.0 e.2 in
    let p = package_of ss u.0 in
    let found = known p (outlines p ds) (rounds p) in
    let same : environment_of p found ≡ e.0 = unless_ok (least (package_failures p (outlines p ds) found ds)) (environment_of p found) e.0 e.1 in
    let typing : record { uses = u.0; environment = e.0; bodies = b.0; specifications = ds } ≡ r.0 = ok_same (record { uses = u.0; environment = e.0; bodies = b.0; specifications = ds }) r.0 b.2 in
    let whole : content_of (names_of texts) h.files ss r.0 ≡ c = ok_same (content_of (names_of texts) h.files ss r.0) c r.2 in
    let named : uses (map unit_of ss) ≡ u.0 = unless_ok (reported (map unit_of ss)) (uses (map unit_of ss)) u.0 u.1 in
    let used : c.uses ≡ u.0 = sym (ap (λ (z : Content). z.uses) whole) ∙ sym (ap (λ (z : Typing). z.uses) typing) in
    let placed : c.origins ≡ origins c.uses = sym (ap (λ (z : Content). z.origins) whole) ∙ ap origins (ap (λ (z : Content). z.uses) whole) in
    let few = few_rights adds p (surroundings_of u.0 e.0) found fs b.0 (subst (λ (z : Environment). functions_from p (surroundings_of u.0 e.0) z.rights 0 fs ≡ Ok b.0) (sym same) b.1) in
    let many : b.0.rights ≡ c.rights = ap (λ (z : Typing). z.bodies.rights) typing ∙ ap (λ (z : Content). z.rights) whole in
    let first = ap length many in
    let second = ap length (placed ∙ ap origins used) in
    record {
      typing = r.0;
      answered = r.1;
      files = sym (ap (λ (z : Content). z.files) whole);
      uses_are = used ∙ sym named;
      origins_are = placed;
      rights_few = omega (arith, few, first, second);
    }

-- ---- names

pub name_there : (s : Sources) (d : Declared) → HasName s.files d.file d.name → IsName (name_text s (Some d))
name_there s d h = subst (λ o. IsName (text_in o d.name)) (sym h.is) h.name

-- ---- the table

list_there : {A : Type 0} (test : A → Bool) (xs : List A) (n : ℕ) (x : A) → list_all test xs ≡ true → slice_get xs n ≡ Some x → test x ≡ true
list_there test [] n x h e = absurd cc
list_there test (y ∷ xs) zero x h e = let same : y ≡ x = cc in ap test (sym same) ∙ (and_parts (test y) (list_all test xs) h).0
list_there test (y ∷ xs) (suc n) x h e = list_there test xs n x (and_parts (test y) (list_all test xs) h).1 e

mapped_there : {A B : Type 0} (f : A → B) (xs : List A) (n : ℕ) (x : A) → slice_get xs n ≡ Some x → slice_get (map f xs) n ≡ Some (f x)
mapped_there f [] n x e = absurd cc
mapped_there f (y ∷ xs) zero x e = ap (option_map f) e
mapped_there f (y ∷ xs) (suc n) x e = mapped_there f xs n x e

some_right : (o : Option ℕ) → is_there o ≡ true → (k : ℕ) × (o ≡ Some k)
some_right None e = absurd cc
some_right (Some k) e = (k, refl)

-- a declared type of the table has a right side
has_right : (t : Table) (n : ℕ) → list_all is_there t.rights ≡ true → n < length t.rights → (r : TypeTree) × (entry (rights_of t) n ≡ Some r)
unfolding rights_of
has_right t n h l =
    let o = there_below t.rights n l in
    let k = some_right o.0 (list_there is_there t.rights n o.0 h o.1) in
    let at : slice_get t.rights n ≡ Some (Some k.0) = o.1 ∙ ap Some k.1 in
    (type_of t.shapes k.0, ap flat (mapped_there (option_map (type_of t.shapes)) t.rights n (Some k.0) at))

none_past : {A : Type 0} (xs : List (Option A)) (n : ℕ) → entry xs n ≡ None ⊎ (n < length xs)
none_past [] n = inl refl
none_past (x ∷ xs) zero = inr (omega arith)
none_past (x ∷ xs) (suc n) = elim (none_past xs n) [ inl e ↦ inl e | inr l ↦ inr (omega (arith, l)) ]

-- ---- the package

-- Its locals and its types have names, and the types of its functions can be written.
pub record IsWritten (c : Content) : Type 0 where
  pub functions : AllByRecursion (FunctionWritten (declared_text (sources_of c))) c.functions
  pub locals : AllByRecursion (λ ds. AllByRecursion (λ (d : Declared). HasName c.files d.file d.name) ds) c.uses.locals

-- by any scope that has these right sides
judging : Rights → Scope
judging rights = record {
  rights = rights;
  iota = 0;
  texts = λ t. [];
  characters = λ t. [];
  objects = λ t. None;
  sorts = λ n o. trees.Unknown;
  referents = λ n. referent.Println;
  needed = in_full;
  limits = true;
}

all_below : (p : PackageView) → IsTable p.types → (fs : List FuncView) → AllByRecursion (FunctionBelow (length p.types.rights)) (map (func_content (type_of p.types.shapes)) fs)
all_below p t [] = tt
all_below p t (f ∷ fs) = (record { locals = own f.locals; tree = node_has p.types t (tree_of f) }, all_below p t fs)
  where
    own : (xs : List (Sort ℕ)) → AllByRecursion (λ x. SortHas (Within (below (length p.types.rights))) x) (map (sort_mapped (type_of p.types.shapes)) xs)
    own [] = tt
    own (x ∷ xs) = (sort_has p.types t x, own xs)

abbrev pub AreWithin : Type 0
AreWithin = (limit : Scope) (texts : List FileText) (c : Content) (h : IsChecked texts c) (t : Typing) → sources_answer (map source_of h.files) ≡ Ok t → limit.rights ≡ t.environment.rights → PackageIsWithin limit t.environment c

module _ (law : NamesAreNames) (adds : FunctionsAdd) (within : AreWithin) (fields : CheckedPackagesAreNamed) (p : PackageView) (h : IsCheckedPackage p) (t : IsTable p.types) (defined : list_all is_there p.types.rights ≡ true) where
  parts : Parts _ h.given h.checked
  parts = parts_of adds _ h.given h.checked

  abbrev c : Content
  c = content p

  abbrev s : Sources
  s = sources_of c

  files_are : c.files ≡ h.checked.files
  files_are = h.same.1.files ∙ parts.files

  uses_are : c.uses ≡ uses (map unit_of (map source_of h.checked.files))
  uses_are = h.same.1.uses ∙ parts.uses_are

  declared : AreDeclared h.checked.files
  declared = files_declare law _ h.checked.files h.checked.read

  abbrev AllNamed : List FileTree → List Declared → Type 0
  AllNamed files ds = AllByRecursion (λ (d : Declared). HasName files d.file d.name) ds

  shared_named : AllNamed c.files c.uses.package_level
  shared_named = subst (λ u. AllNamed c.files u.package_level) (sym uses_are) (subst (λ fs. AllNamed fs (uses (map unit_of (map source_of h.checked.files))).package_level) (sym files_are) declared.shared)

  locals_named : AllByRecursion (AllNamed c.files) c.uses.locals
  locals_named = subst (λ u. AllByRecursion (AllNamed c.files) u.locals) (sym uses_are) (subst (λ fs. AllByRecursion (AllNamed fs) (uses (map unit_of (map source_of h.checked.files))).locals) (sym files_are) declared.locals)

  places_named : AllByRecursion (OriginNamed c.uses c.files) h.given.origins
  places_named =
      subst (AllByRecursion (OriginNamed c.uses c.files)) (sym (parts.origins_are ∙ ap origins (sym h.same.1.uses))) (origins_named c.uses c.files shared_named locals_named)

  -- a declared type of the given package, under its number here
  type_named : (n : ℕ) (o : Origin) → slice_get h.given.origins n ≡ Some o → IsName (declared_text s (h.same.0 n))
  type_named n o e =
      let at : slice_get c.origins (h.same.0 n) ≡ Some o = h.same.1.origins n o e in
      let d = each_there (OriginNamed c.uses c.files) h.given.origins n o places_named e in
      subst IsName (sym (ap (λ z. object_text s (option_map object_at z)) at ∙ ap (name_text s) d.is)) (name_there s d.declared d.name)

  right_there : (n : ℕ) → nat_lt (h.same.0 n) (length p.types.rights) ≡ true → n < length h.given.rights
  right_there n l =
      let less : h.same.0 n < length p.types.rights = grind (arith, nat_tests) in
      let r = has_right p.types (h.same.0 n) defined less in
      elim (none_past h.given.rights n) [
        | inl e ↦ (let z = sym r.1 ∙ h.same.1.rights n ∙ ap (option_map (renamed h.same.0)) e in absurd cc)
        | inr few ↦ few
      ]

  below_named : (n : ℕ) → nat_lt (h.same.0 n) (length p.types.rights) ≡ true → IsName (declared_text s (h.same.0 n))
  below_named n l =
      let few = right_there n l in
      let many = parts.rights_few in
      let o = there_below h.given.origins n (omega (arith, few, many)) in
      type_named n o.0 o.1

  pub is_written : IsWritten c
  unfolding parts judging
  is_written =
      let limit : Scope = judging parts.typing.environment.rights in
      let own : AllFunctionsWithin limit h.given.functions = (within limit _ h.given h.checked parts.typing parts.answered refl).functions in
      let same = h.same.1.functions in
      record {
        functions = subst (AllByRecursion (FunctionWritten (declared_text s))) (sym same)
            (functions_written (declared_text s) limit (length p.types.rights) h.same.0 below_named h.given.functions own
            (subst AllFunctionsNamed same (fields p h)) (subst (AllByRecursion (FunctionBelow (length p.types.rights))) same (all_below p t p.functions)));
        locals = locals_named;
      }
