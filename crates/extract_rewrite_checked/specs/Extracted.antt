-- Extractions of windows that are the same from a package that type-checks.
use Rattle.std.specs.Prelude.{◌≡◌, ℕ, Bool, Some, List, slice_get}
use Rattle.std.specs.List.{AllByRecursion}
use Rattle.go_base.specs.Package.{IsPackage}
use Rattle.go_tree.specs.File.{FileTree}
use Rattle.go_types.specs.Trees.{TypeTree}
use Rattle.go_typed.specs.declared.window.Window.{Window}
use Rattle.go_typed.specs.Contents.{content}
use Rattle.go_typed.specs.Packages.{PackageView}
use Rattle.go_package_defs.specs.Checked.{texts_of}
use Rattle.param_choose.specs.Members.{Member, members_of}
use Rattle.escape_check.specs.Places.{file_of, sources_of}
use Rattle.extract_rewrite.specs.Answers.{IsExtraction}
use Rattle.extract_rewrite.specs.Extraction.{Extraction}
use Rattle.extract_texts_written.specs.Written.{HolesCanBeSpelled, IsAllowed, LocalsAreNamed, chosen}
use Rattle.extract_rewrite_files.specs.Accepted.{IsNewBehind}
use Rattle.extract_rewrite_files.specs.Sites.{HasHoles}
use Rattle.extract_rewrite_checked.specs.Checked.{HasStatement}

-- Windows of a package that type-checks, which are the same as the template and which no code from 3 to 16 refuses. What the template hands
-- over is named by nodes of its statements, and constants are such as the program holds.
pub record MayBeExtracted (identical : TypeTree → TypeTree → Bool) (p : PackageView) (name : List ℕ) (ws : List Window) (t : Member TypeTree) : Type 0 where
  pub allowed : IsAllowed identical p name ws t
  pub within : IsPackage (texts_of p)
  pub windows : AllByRecursion (HasStatement (content p)) ws
  pub named : LocalsAreNamed t (chosen (content p) ws t)
  pub spelled : AllByRecursion HolesCanBeSpelled (members_of (content p) ws)

-- An extraction that is accepted makes each file new; that of the template where its holes stand below the node of its statements.
abbrev pub ExtractedFilesAreNew : Type 0
ExtractedFilesAreNew = (identical : TypeTree → TypeTree → Bool) (p : PackageView) (name : List ℕ) (ws : List Window) (t : Member TypeTree) (e : Extraction) → MayBeExtracted identical p name ws t → IsExtraction (content p) name ws e
    → (n : ℕ) (f : FileTree) → slice_get p.files n ≡ Some f → (n ≡ file_of (sources_of (content p)) t → HasHoles (content p) t) → IsNewBehind p name ws t e n f
