-- Packages without faults whose names stand for something known.
use Rattle.std.proofs.Common.{◌≡◌, ℕ, suc, Bool, false, List, [], ◌∷◌, ◌++◌, map, length, replicate, Some, None, Ok, sym, ap, subst, ◌∙◌}
use Rattle.go_base.specs.declared.bytes.FileText.{FileText}
use Rattle.go_base.specs.Gives.{◌>>=◌}
use Rattle.go_grammar.specs.declared.kind.Category.TheVariants as category
use Rattle.go_grammar.specs.Trees.{Tree}
use Rattle.go_tree.specs.declared.context.Entity.TheVariants as entity
use Rattle.go_types.specs.Relations.{Rights}
use Rattle.go_types_relations.specs.Renaming.{renamed}
use Rattle.go_typed.specs.Contents.{FuncContent, Content, content, func_renamed}
use Rattle.go_typed.specs.Packages.{PackageView}
use Rattle.go_exprs_rules.specs.Scopes.{free}
use Rattle.go_stmts_defs.specs.Bodies.{based, start}
use Rattle.go_stmts_defs.specs.Reading.{reading}
use Rattle.go_package_defs.specs.Answer.{specifications, package_answer}
use Rattle.go_package_defs.specs.Bodies.{based_tree, Surroundings, Behind, Functions, Portion, scope_of, function_of, function_with, placed, portion_of, typed_function, types_in, functions_from, those_of, with_function, count_types, local_type}
use Rattle.go_package_defs.specs.Checked.{Typing, surroundings_of, names_answer, bodies_answer, sources_answer, content_of, IsChecked, IsCheckedPackage, names_of}
use Rattle.go_package_defs.specs.Declarations.{Specification}
use Rattle.go_package_defs.specs.Sources.{Package, source_of, unit_of, package_of}
use Rattle.go_stmts_final_types.specs.Holes.{HolesTyped}
use Rattle.go_stmts_final_types.specs.Known.{IsKnown}
use Rattle.go_stmts_final_types.specs.PackageNames.{TreeIsNamed, FunctionsAreNamed, PackageIsNamed, AllFinal}
use Rattle.go_stmts_final_types.specs.Shapes.{IsShaped}
use Rattle.go_stmts_final_types.proofs.Bodies.{reading_known}
use Rattle.go_stmts_final_types.proofs.Functions.{shape_based}
use Rattle.go_stmts_final_types.proofs.Packages.{AllFunctions, all_functions, bound, ok_same, behind_typed, function_typed, placed_ok, holes_mapped}

named_typed : (a : Surroundings) (rights : Rights) (number : ℕ) (bs : List Bool) (o : Portion) (t : Tree) (b : Behind) → o.tree ≡ Some t → IsShaped category.Declaration t → function_of a rights number bs o ≡ Ok b
    → TreeIsNamed (scope_of a (rights ++ replicate (count_types bs) None) o) (length bs) (local_type (length rights) bs) o.tree → HolesTyped false b.function.tree
named_typed a rights number bs o t b m w e n =
    let s = scope_of a (rights ++ replicate (count_types bs) None) o in
    let z = start s (length bs) (local_type (length rights) bs) in
    let f : function_with a rights number bs o (Some t) ≡ Ok b = sym (ap (function_with a rights number bs o) m) ∙ e in
    let r = behind_typed s number t (reading z free t) b f in
    let k = (reading_known z free category.Declaration t w tt (subst (TreeIsNamed s (length bs) (local_type (length rights) bs)) m n) r.0).0 in
    function_typed a rights number bs o t b m w e (subst IsKnown r.1 k)

functions_final : (p : Package) (a : Surroundings) (rights : Rights) (n : ℕ) (ds : List Specification) (fs : Functions) → AllFunctions ds → FunctionsAreNamed p a rights n ds → functions_from p a rights n ds ≡ Ok fs → AllFinal fs.functions
functions_final p a rights n [] fs w k e = subst (λ (z : Functions). AllFinal z.functions) (ok_same (record { functions = []; rights = rights }) fs e) tt
functions_final p a rights n (d ∷ ds) fs w k e =
    let b = bound (placed p d (typed_function p a rights n d)) (λ b. functions_from p a b.rights (suc n) ds >>= λ gs. Ok (with_function b.function gs)) fs e in
    let g = bound (functions_from p a b.0.rights (suc n) ds) (λ gs. Ok (with_function b.0.function gs)) fs b.2 in
    let f = placed_ok p d (typed_function p a rights n d) b.0 b.1 in
    let own = named_typed a rights n (types_in p n) (portion_of p d) (based d.first w.0.0) b.0 (ap (based_tree d.first) w.0.1) (shape_based d.first category.Declaration w.0.0 w.0.2) f k.0 in
    subst (λ (z : Functions). AllFinal z.functions) (ok_same (with_function b.0.function g.0) fs g.2) (own, functions_final p a b.0.rights (suc n) ds g.0 w.1 (k.1 b.0 f) g.1)

checked_final : (texts : List FileText) (c : Content) (h : IsChecked texts c) → PackageIsNamed (map source_of h.files) → AllFinal c.functions
checked_final texts c h k =
    let ss = map source_of h.files in
    let t = bound (sources_answer ss) (λ t. Ok (content_of (names_of texts) h.files ss t)) c h.answer in
    let u = bound (names_answer (map unit_of ss)) (λ u. package_answer ss u >>= λ e. bodies_answer ss (specifications 0 ss) u e) t.0 t.1 in
    let e = bound (package_answer ss u.0) (λ e. bodies_answer ss (specifications 0 ss) u.0 e) t.0 u.2 in
    let ds = those_of entity.Function (specifications 0 ss) in
    let b = bound (functions_from (package_of ss u.0) (surroundings_of u.0 e.0) e.0.rights 0 ds) (λ b. Ok (record { uses = u.0; environment = e.0; bodies = b; specifications = specifications 0 ss })) t.0 e.2 in
    let all = functions_final (package_of ss u.0) (surroundings_of u.0 e.0) e.0.rights 0 ds b.0 (all_functions 0 0 texts h.files h.read) (k u.0 e.0 u.1 e.1) b.1 in
    subst (λ (z : Content). AllFinal z.functions) (ok_same (content_of (names_of texts) h.files ss t.0) c t.2)
    (subst (λ (z : Typing). AllFinal z.bodies.functions) (ok_same (record { uses = u.0; environment = e.0; bodies = b.0; specifications = specifications 0 ss }) t.0 b.2) all)

renamed_final : (name : ℕ → ℕ) (fs : List FuncContent) → AllFinal fs → AllFinal (map (func_renamed name) fs)
renamed_final name [] h = tt
renamed_final name (f ∷ fs) h = (holes_mapped (renamed name) false f.tree h.0, renamed_final name fs h.1)

-- a package that is told to be good
pub package_final : (p : PackageView) (h : IsCheckedPackage p) → PackageIsNamed (map source_of h.checked.files) → AllFinal (content p).functions
package_final p h k = subst AllFinal (sym h.same.1.functions) (renamed_final h.same.0 h.given.functions (checked_final _ h.given h.checked k))
