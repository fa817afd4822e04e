-- The files behind an extraction that is accepted.
use Rattle.std.specs.Prelude.{◌≡◌, ℕ, List, Some, slice_get}
use Rattle.go_base.specs.Package.{IsPackage}
use Rattle.go_tokens.specs.Tokens.{kinds}
use Rattle.go_grammar.specs.Grammar.{IsFile}
use Rattle.go_tree.specs.File.{FileTree}
use Rattle.go_types.specs.Trees.{TypeTree}
use Rattle.go_typed.specs.declared.window.Window.{Window}
use Rattle.go_typed.specs.Contents.{content}
use Rattle.go_typed.specs.Packages.{PackageView}
use Rattle.go_package_defs.specs.Checked.{IsCheckedPackage, texts_of}
use Rattle.param_choose.specs.Members.{Member, template_of}
use Rattle.escape_check.specs.Places.{file_of, sources_of}
use Rattle.extract_rewrite.specs.Answers.{IsExtraction, texts_after}
use Rattle.extract_rewrite.specs.Extraction.{Extraction}
use Rattle.extract_rewrite_files.specs.Behind.{CallsCanBeWritten, StandsBehind}
use Rattle.extract_rewrite_files.specs.NewFiles.{BecomesNew}
use Rattle.extract_rewrite_files.specs.Sites.{HaveSites}

-- The file of this number is new behind these edits, and its one derivation is its tree.
pub record IsNewBehind (p : PackageView) (name : List ℕ) (ws : List Window) (t : Member TypeTree) (e : Extraction) (n : ℕ) (f : FileTree) : Type 0 where
  pub becomes : BecomesNew p name ws t n f
  pub there : slice_get (texts_after (content p) e.edits) n ≡ Some becomes.text
  pub tree : IsFile (kinds becomes.is.one_tree.tokens) becomes.is.one_tree.tree

-- The edits of an extraction that is accepted make each file new.
abbrev pub AcceptedFilesAreNew : Type 0
AcceptedFilesAreNew = (p : PackageView) (name : List ℕ) (ws : List Window) (t : Member TypeTree) (e : Extraction) → IsCheckedPackage p → IsPackage (texts_of p) → template_of (content p) ws ≡ Some t
    → HaveSites (content p) ws → CallsCanBeWritten (content p) name ws t → IsExtraction (content p) name ws e
    → (n : ℕ) (f : FileTree) → slice_get p.files n ≡ Some f → (n ≡ file_of (sources_of (content p)) t → StandsBehind (content p) name ws t) → IsNewBehind p name ws t e n f
