-- The template of a package that type-checks has holes that stand.
use Rattle.std.proofs.Common.{◌≡◌, ℕ, zero, suc, ◌≤◌, true, List, [], ◌∷◌, Some, subst}
use Rattle.std.specs.Prelude.{slice_get}
use Rattle.go_base.specs.Package.{most_bytes, total_bytes}
use Rattle.go_typed.specs.Contents.{FuncContent, content}
use Rattle.go_typed.specs.Packages.{PackageView}
use Rattle.go_package_defs.specs.Checked.{IsCheckedPackage, texts_of}
use Rattle.go_stmts_final_types.specs.Known.{IsKnown}
use Rattle.go_function_trees.specs.Functions.{WindowsStand}
use Rattle.go_function_holes.specs.Holes.{calls_no_constant}
use Rattle.go_function_holes_windows.specs.Windows.{WindowHolesStand}
use Rattle.go_function_holes_apart.specs.Apart.{HolesStandApart}
use Rattle.go_stmts_callees.specs.Callees.{AllCallNoConstant}
use Rattle.extract_holes_placed.specs.Placed.{TemplateHolesHaveSites}
use Rattle.extract_holes_checked.specs.Checked.{AllKnown, TemplatesHaveHoles}

known_at : (fs : List FuncContent) (n : ℕ) (f : FuncContent) → slice_get fs n ≡ Some f → AllKnown fs → IsKnown f.tree
known_at [] n f e k = absurd cc
known_at (g ∷ fs) zero f e k = let same : g ≡ f = cc in subst (λ (x : FuncContent). IsKnown x.tree) same k.0
known_at (g ∷ fs) (suc n) f e k = known_at fs n f e k.1

uncalled_at : (fs : List FuncContent) (n : ℕ) (f : FuncContent) → slice_get fs n ≡ Some f → AllCallNoConstant fs → calls_no_constant f.tree ≡ true
uncalled_at [] n f e k = absurd cc
uncalled_at (g ∷ fs) zero f e k = let same : g ≡ f = cc in subst (λ (x : FuncContent). calls_no_constant x.tree ≡ true) same k.0
uncalled_at (g ∷ fs) (suc n) f e k = uncalled_at fs n f e k.1

-- the template's own function is one of them
pub templates_have_holes : ((p : PackageView) → IsCheckedPackage p → total_bytes (texts_of p) ≤ most_bytes → WindowsStand (content p)) → WindowHolesStand → HolesStandApart → TemplateHolesHaveSites → TemplatesHaveHoles
templates_have_holes stands holes apart sites p w ws t h small known uncalled q e =
    let c = content p in
    let f = q.function in
    let s = stands p h small w f q.range q.there q.is_range in
    let own = holes c w f q.range s q.is_range (known_at c.functions w.func f q.there known) (uncalled_at c.functions w.func f q.there uncalled) in
    sites c w ws t f q.range s q.there q.is_range e (apart c w f q.range s q.is_range own)
