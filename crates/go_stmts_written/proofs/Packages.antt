-- Packages that type-check, also under other numbers of declared types.
use Rattle.std.proofs.Common.{◌≡◌, ℕ, List, [], ◌∷◌, map, Option, Some, None, Ok, sym, subst}
use Rattle.std.specs.List.{AllByRecursion}
use Rattle.go_base.specs.declared.bytes.FileText.{FileText}
use Rattle.go_base.specs.Gives.{◌>>=◌}
use Rattle.go_tree.specs.declared.context.Entity.TheVariants as entity
use Rattle.go_tree.specs.Failures.{Failure, least}
use Rattle.go_tree.specs.Uses.{UsesView}
use Rattle.go_types.specs.Trees.{TypeTree, TypeRow, boolean, text, integer, array, slice, structure, function, declared}
use Rattle.go_types.specs.Trees as types
use Rattle.go_types_relations.specs.Renaming.{renamed, renamed_row}
use Rattle.go_typed.specs.Contents.{FuncContent, Content, func_renamed}
use Rattle.go_typed.specs.Trees.{typed, Typeds, Every, EveryPart, sort_mapped, mapped, all_mapped}
use Rattle.go_typed.specs.Trees as sort
use Rattle.go_tree.specs.declared.object.Object.{Object}
use Rattle.go_exprs_rules.specs.Scopes.{Needed}
use Rattle.go_exprs_rules.specs.Settling.{Part}
use Rattle.go_exprs_rules.specs.Sorts.{Stands}
use Rattle.go_print_laws.specs.Lexemes.{NamesAreNames}
use Rattle.go_package_defs.specs.Answer.{Environment, specifications, environment_of, package_failures, unless, package_answer}
use Rattle.go_package_defs.specs.Bodies.{stands_among, Functions, functions_from, those_of}
use Rattle.go_package_defs.specs.Checked.{Typing, surroundings_of, names_answer, bodies_answer, sources_answer, content_of, IsChecked, names_of}
use Rattle.go_package_defs.specs.Knowledge.{outlines}
use Rattle.go_package_defs.specs.Sources.{source_of, unit_of, package_of, rounds}
use Rattle.go_package_defs.specs.Verdicts.{known}
use Rattle.go_stmts_written.specs.Named.{IsNamed, RowIsNamed, StandsIsNamed, AllStandNamed, RightsAreNamed, AllFunctionsNamed}
use Rattle.go_stmts_written.specs.Packages.{CheckedPackagesAreNamed}
use Rattle.go_stmts_written.proofs.Bodies.{bound, ok_same, functions_named, some_of}
use Rattle.go_stmts_written.proofs.Files.{all_stand, files_named}
use Rattle.go_stmts_written.proofs.Rounds.{Holds, SurroundsNamed, known_named}

-- ---- other numbers of declared types

module _ (name : ℕ → ℕ) where
  mutual
    type_renamed : (t : TypeTree) → IsNamed t → IsNamed (renamed name t)
    type_renamed boolean w = tt
    type_renamed text w = tt
    type_renamed (integer k) w = tt
    type_renamed (array n t) w = type_renamed t w
    type_renamed (slice t) w = type_renamed t w
    type_renamed (structure ns ts) w = (w.0, row_renamed ts w.1)
    type_renamed (function ps rs) w = (row_renamed ps w.0, row_renamed rs w.1)
    type_renamed (declared n) w = tt

    row_renamed : (ts : TypeRow) → RowIsNamed ts → RowIsNamed (renamed_row name ts)
    row_renamed types.none w = tt
    row_renamed (types.more t ts) w = (type_renamed t w.0, row_renamed ts w.1)

  stands_renamed : (x : Stands) → StandsIsNamed x → StandsIsNamed (sort_mapped (renamed name) x)
  stands_renamed (sort.IsType t) w = type_renamed t w
  stands_renamed (sort.Value t) w = type_renamed t w
  stands_renamed (sort.Constant t c) w = type_renamed t w
  stands_renamed (sort.Results t) w = type_renamed t w
  stands_renamed x w = tt

  all_renamed : (xs : List Stands) → AllStandNamed xs → AllStandNamed (map (sort_mapped (renamed name)) xs)
  all_renamed [] w = tt
  all_renamed (x ∷ xs) w = (stands_renamed x w.0, all_renamed xs w.1)

  mutual
    part_renamed : (x : Part) → Every IsNamed x → Every IsNamed (mapped (renamed name) x)
    part_renamed (typed f i j l ps) w = (stands_renamed l.sort w.0, parts_renamed ps w.1)

    parts_renamed : (ps : Typeds TypeTree) → EveryPart IsNamed ps → EveryPart IsNamed (all_mapped (renamed name) ps)
    parts_renamed sort.none w = tt
    parts_renamed (sort.more p ps) w = (part_renamed p w.0, parts_renamed ps w.1)
    parts_renamed (sort.skip ps) w = parts_renamed ps w

  functions_renamed : (fs : List FuncContent) → AllFunctionsNamed fs → AllFunctionsNamed (map (func_renamed name) fs)
  functions_renamed [] w = tt
  functions_renamed (f ∷ fs) w = (record { signature = type_renamed f.signature w.0.signature; locals = all_renamed f.locals w.0.locals; tree = part_renamed f.tree w.0.tree }, functions_renamed fs w.1)

-- ---- packages

unless_ok : {A : Type 0} (o : Option Failure) (x y : A) → unless o x ≡ Ok y → x ≡ y
unless_ok None x y e = cc
unless_ok (Some f) x y e = cc

bodies_named : (law : NamesAreNames) (texts : List FileText) (c : Content) (h : IsChecked texts c) (u : UsesView) (e : Environment) (b : Functions)
    → package_answer (map source_of h.files) u ≡ Ok e
    → functions_from (package_of (map source_of h.files) u) (surroundings_of u e) e.rights 0 (those_of entity.Function (specifications 0 (map source_of h.files))) ≡ Ok b → AllFunctionsNamed b.functions
bodies_named law texts c h u e b answer read =
    let ss = map source_of h.files in
    let p = package_of ss u in
    let ds = specifications 0 ss in
    let all : AllByRecursion (Holds p) ds = files_named law p 0 texts h.files h.read (all_stand u h.files) in
    let found = known p (outlines p ds) (rounds p) in
    let w : SurroundsNamed p found = known_named p ds all (rounds p) in
    let same : environment_of p found ≡ e = unless_ok (least (package_failures p (outlines p ds) found ds)) (environment_of p found) e answer in
    let around = subst (λ (z : Environment). RightsAreNamed z.rights × ((n : Needed) (o : Object) → StandsIsNamed (stands_among z.objects n o))) same (w.rights, w.objects) in
    (functions_named p (surroundings_of u e) around.1 e.rights 0 (those_of entity.Function ds) b around.0 (some_of p entity.Function ds all) read).functions

checked_named : NamesAreNames → (texts : List FileText) (c : Content) (h : IsChecked texts c) → AllFunctionsNamed c.functions
checked_named law texts c h =
    let ss = map source_of h.files in
    let ds = specifications 0 ss in
    let fs = those_of entity.Function ds in
    let r = bound (sources_answer ss) (λ t. Ok (content_of (names_of texts) h.files ss t)) c h.answer in
    let u = bound (names_answer (map unit_of ss)) (λ u. package_answer ss u >>= λ e. bodies_answer ss ds u e) r.0 r.1 in
    let e = bound (package_answer ss u.0) (λ e. bodies_answer ss ds u.0 e) r.0 u.2 in
    let b = bound (functions_from (package_of ss u.0) (surroundings_of u.0 e.0) e.0.rights 0 fs) (λ b. Ok (record { uses = u.0; environment = e.0; bodies = b; specifications = ds })) r.0 e.2 in
    let own : AllFunctionsNamed b.0.functions = bodies_named law texts c h u.0 e.0 b.0 e.1 b.1 in
    let made : AllFunctionsNamed r.0.bodies.functions = subst (λ (z : Typing). AllFunctionsNamed z.bodies.functions) (ok_same (record { uses = u.0; environment = e.0; bodies = b.0; specifications = ds }) r.0 b.2) own in
    subst (λ (z : Content). AllFunctionsNamed z.functions) (ok_same (content_of (names_of texts) h.files ss r.0) c r.2) made

pub packages_named : NamesAreNames → CheckedPackagesAreNamed
packages_named law p h = subst AllFunctionsNamed (sym h.same.1.functions) (functions_renamed h.same.0 h.given.functions (checked_named law _ h.given h.checked))
