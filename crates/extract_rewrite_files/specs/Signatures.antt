-- The levels of the signature of the new function behind an extraction that is accepted.
use Rattle.std.specs.Prelude.{◌≡◌, ℕ, ◌≤◌, ◌++◌, List, Some, slice_get}
use Rattle.go_base.specs.declared.bytes.FileText.{FileText}
use Rattle.go_tree.specs.File.{FileTree}
use Rattle.go_types.specs.Trees.{TypeTree}
use Rattle.go_typed.specs.declared.window.Window.{Window}
use Rattle.go_typed.specs.Contents.{content}
use Rattle.go_typed.specs.Packages.{PackageView}
use Rattle.param_choose.specs.Members.{Member}
use Rattle.extract_files.specs.Levels.{HasOneTree}
use Rattle.extract_rewrite.specs.Answers.{IsExtraction, texts_after}
use Rattle.extract_rewrite.specs.Edits.{edits}
use Rattle.extract_rewrite.specs.Extraction.{Extraction}
use Rattle.extract_rewrite_files.specs.Behind.{CallsCanBeWritten, FunctionCanBeWritten, MayBeTaken, signature_levels}
use Rattle.extract_rewrite_files.specs.NewFiles.{behind_file}
use Rattle.extract_rewrite_files.specs.Sites.{HasHoles}

-- The bytes of a file of the new package: those of the file with its calls, which have one lexing and one derivation, and what is appended.
pub record HasFront (p : PackageView) (name : List ℕ) (ws : List Window) (t : Member TypeTree) (n : ℕ) : Type 0 where
  pub text : FileText
  pub there : slice_get (texts_after (content p) (edits (content p) name ws)) n ≡ Some text
  pub front : List ℕ
  pub one_tree : HasOneTree n front
  pub is : text.bytes ≡ front ++ behind_file (content p) name ws t n

-- So are those of each file, whatever stands behind it.
abbrev pub FilesHaveFronts : Type 0
FilesHaveFronts = (p : PackageView) (name : List ℕ) (ws : List Window) (t : Member TypeTree) → MayBeTaken p name ws t → CallsCanBeWritten (content p) name ws t
    → (n : ℕ) (f : FileTree) → slice_get p.files n ≡ Some f → HasFront p name ws t n

-- Behind an extraction that is accepted the signature of the new function has at most 99 levels.
abbrev pub SignaturesAreShallow : Type 0
SignaturesAreShallow = (p : PackageView) (name : List ℕ) (ws : List Window) (t : Member TypeTree) (e : Extraction) → MayBeTaken p name ws t → CallsCanBeWritten (content p) name ws t → HasHoles (content p) t
    → FunctionCanBeWritten (content p) name ws t → IsExtraction (content p) name ws e → signature_levels (content p) name ws t ≤ 99
