-- Packages under other numbers of declared types.
use Rattle.std.proofs.Common.{◌≡◌, ℕ, List, [], ◌∷◌, map, Ok, sym, ap, subst, ◌∙◌}
use Rattle.go_types.specs.Trees.{TypeTree, TypeRow, boolean, text, integer, array, slice, structure, function, declared, none, more}
use Rattle.go_types_relations.specs.Renaming.{renamed, renamed_row, AreRenamed}
use Rattle.go_types_relations.proofs.Public.{scalars_renamed}
use Rattle.go_typed.specs.Contents.{FuncContent, content, func_renamed}
use Rattle.go_typed.specs.Packages.{PackageView}
use Rattle.go_typed.specs.Trees.{typed, Typeds, EveryPart, sort_mapped, mapped, all_mapped}
use Rattle.go_typed.specs.Trees as sort
use Rattle.go_exprs_rules.specs.Scopes.{Scope}
use Rattle.go_exprs_rules.specs.Settling.{Part}
use Rattle.go_exprs_rules.specs.Sorts.{Stands}
use Rattle.go_exprs_rules.specs.TypeNodes.{exceeds}
use Rattle.go_package_defs.specs.Checked.{Typing, sources_answer, IsCheckedPackage}
use Rattle.go_package_defs.specs.Sources.{source_of}
use Rattle.go_print_laws.specs.Reading.{IsWithin, RowIsWithin}
use Rattle.go_stmts_limits.specs.Limits.{StandsIsWithin, AllStandWithin, PartIsWithin}
use Rattle.go_stmts_limits.specs.Packages.{EnvironmentIsWithin, AllFunctionsWithin}
use Rattle.go_stmts_limits.proofs.Arrays.{AreTold}
use Rattle.go_stmts_limits.proofs.Packages.{checked_within}

module _ (name : ℕ → ℕ) (limit other : Scope) (same : AreRenamed name limit.rights other.rights) (judged : other.limits ≡ limit.limits) where
  mutual
    type_renamed : (t : TypeTree) → IsWithin limit t → IsWithin other (renamed name t)
    type_renamed boolean w = tt
    type_renamed text w = tt
    type_renamed (integer k) w = tt
    type_renamed (array n t) w = (w.0, (λ h. ap exceeds (scalars_renamed name limit.rights other.rights same (array n t)) ∙ w.1 (sym judged ∙ h)), type_renamed t w.2)
    type_renamed (slice t) w = type_renamed t w
    type_renamed (structure ns ts) w = row_renamed ts w
    type_renamed (function ps rs) w = (row_renamed ps w.0, row_renamed rs w.1)
    type_renamed (declared n) w = tt

    row_renamed : (ts : TypeRow) → RowIsWithin limit ts → RowIsWithin other (renamed_row name ts)
    row_renamed none w = tt
    row_renamed (more t ts) w = (type_renamed t w.0, row_renamed ts w.1)

  stands_renamed : (x : Stands) → StandsIsWithin limit x → StandsIsWithin other (sort_mapped (renamed name) x)
  stands_renamed (sort.IsType t) w = type_renamed t w
  stands_renamed (sort.Value t) w = type_renamed t w
  stands_renamed (sort.Constant t c) w = type_renamed t w
  stands_renamed (sort.Results t) w = type_renamed t w
  stands_renamed x w = tt

  all_renamed : (xs : List Stands) → AllStandWithin limit xs → AllStandWithin other (map (sort_mapped (renamed name)) xs)
  all_renamed [] w = tt
  all_renamed (x ∷ xs) w = (stands_renamed x w.0, all_renamed xs w.1)

  mutual
    part_renamed : (x : Part) → PartIsWithin limit x → PartIsWithin other (mapped (renamed name) x)
    part_renamed (typed f i j l ps) w = (stands_renamed l.sort w.0, parts_renamed ps w.1)

    parts_renamed : (ps : Typeds TypeTree) → EveryPart (IsWithin limit) ps → EveryPart (IsWithin other) (all_mapped (renamed name) ps)
    parts_renamed sort.none w = tt
    parts_renamed (sort.more x ps) w = (part_renamed x w.0, parts_renamed ps w.1)
    parts_renamed (sort.skip ps) w = parts_renamed ps w

  functions_renamed : (fs : List FuncContent) → AllFunctionsWithin limit fs → AllFunctionsWithin other (map (func_renamed name) fs)
  functions_renamed [] w = tt
  functions_renamed (f ∷ fs) w = (record { signature = type_renamed f.signature w.0.signature; locals = all_renamed f.locals w.0.locals; tree = part_renamed f.tree w.0.tree }, functions_renamed fs w.1)

-- a package that is told to be good
pub package_within : AreTold → (p : PackageView) (h : IsCheckedPackage p) (limit other : Scope) (t : Typing) → sources_answer (map source_of h.checked.files) ≡ Ok t → EnvironmentIsWithin limit t.environment
    → AreRenamed h.same.0 limit.rights other.rights → other.limits ≡ limit.limits → AllFunctionsWithin other (content p).functions
package_within tells p h limit other t e w same judged =
    subst (AllFunctionsWithin other) (sym h.same.1.functions) (functions_renamed h.same.0 limit other same judged h.given.functions (checked_within limit tells _ h.given h.checked t e w))
