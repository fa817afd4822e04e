-- The functions of a package that type-checks have the shape that evaluation asks for.
use Rattle.std.proofs.Common.{ℕ, ◌-◌, List, [], ◌∷◌, map, sym, ap, subst}
use Rattle.go_grammar.specs.declared.kind.Category.TheVariants as category
use Rattle.go_grammar.specs.declared.kind.Kind.TheVariants as kind
use Rattle.go_grammar.specs.Trees.{Trees, node}
use Rattle.go_tree.specs.declared.context.Entity.TheVariants as entity
use Rattle.go_types_relations.specs.Renaming.{renamed}
use Rattle.go_typed.specs.Contents.{FuncContent, content, func_renamed}
use Rattle.go_typed.specs.Packages.{PackageView}
use Rattle.go_exprs_rules.specs.Scopes.{Hint, free}
use Rattle.go_stmts_defs.specs.Bodies.{all_based, start}
use Rattle.go_stmts_defs.specs.Frames.{Frame}
use Rattle.go_stmts_defs.specs.Reading.{reading}
use Rattle.go_package_defs.specs.Answer.{specifications}
use Rattle.go_package_defs.specs.Bodies.{based_tree, scope_of, portion_of, those_of}
use Rattle.go_package_defs.specs.Checked.{texts_of, IsCheckedPackage}
use Rattle.go_package_defs.specs.Declarations.{Specification}
use Rattle.go_package_defs.specs.Sources.{Package, source_of, package_of}
use Rattle.go_stmts_final_types.specs.Shapes.{IsShaped}
use Rattle.go_stmts_scopes.specs.Shapes.{IsFunction}
use Rattle.go_stmts_scopes.specs.Statements.{tree_in}
use Rattle.go_package_scopes.specs.Functions.{HaveShape}
use Rattle.go_package_scopes.proofs.Renamed.{function}
use Rattle.go_package_scopes.proofs.Results.{AllHave, EachOf, Gives, checked_read}
use Rattle.go_package_scopes.proofs.Trees.{HasFunctionTree, AreDerived, all_functions}

-- what is read of a function has its shape
abbrev pub AreReadSo : Type 0
AreReadSo = (s : Frame) (h : Hint) (i j : ℕ) (ps : Trees) → IsShaped category.Declaration (node kind.FunctionDeclaration i j ps) → IsFunction (tree_in (reading s h (node kind.FunctionDeclaration i j ps)))

abbrev HasShape : FuncContent → Type 0
HasShape f = IsFunction f.tree

gives_shape : AreReadSo → (p : Package) (d : Specification) → HasFunctionTree d → Gives p HasShape d
gives_shape g p d h = (
  node kind.FunctionDeclaration (h.first - d.first) (h.last - d.first) (all_based d.first h.parts),
  ap (based_tree d.first) h.tree,
  λ f r. subst IsFunction r.is (g (start (scope_of r.around r.rights (portion_of p d)) r.count r.types) free (h.first - d.first) (h.last - d.first) (all_based d.first h.parts) (h.shaped d.first)),
)

all_give : AreReadSo → (p : Package) (ds : List Specification) → EachOf HasFunctionTree ds → EachOf (Gives p HasShape) ds
all_give g p [] h = tt
all_give g p (d ∷ ds) h = (gives_shape g p d h.0, all_give g p ds h.1)

renamed_shape : (name : ℕ → ℕ) (fs : List FuncContent) → AllHave HasShape fs → HaveShape (map (func_renamed name) fs)
renamed_shape name [] h = tt
renamed_shape name (f ∷ fs) h = (function (renamed name) f.tree h.0, renamed_shape name fs h.1)

pub package_shaped : AreDerived → AreReadSo → (p : PackageView) → IsCheckedPackage p → HaveShape (content p).functions
package_shaped d g p h =
    let name = h.same.0 in
    let all = checked_read (texts_of p) h.given h.checked HasShape
    (λ u e. all_give g (package_of (map source_of h.checked.files) u) (those_of entity.Function (specifications 0 (map source_of h.checked.files))) (all_functions d 0 0 (texts_of p) h.checked.files h.checked.read)) in
    subst HaveShape (sym h.same.1.functions) (renamed_shape name h.given.functions all)
