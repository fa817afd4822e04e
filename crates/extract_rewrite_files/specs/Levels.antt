-- The trees of the new files of an extraction.
use Rattle.std.specs.Prelude.{ℕ, List}
use Rattle.go_tokens.specs.Tokens.{kinds}
use Rattle.go_grammar.specs.Grammar.{IsFile}
use Rattle.go_tree.specs.File.{FileTree}
use Rattle.go_types.specs.Trees.{TypeTree}
use Rattle.go_typed.specs.declared.window.Window.{Window}
use Rattle.go_typed.specs.Contents.{content}
use Rattle.go_typed.specs.Packages.{PackageView}
use Rattle.param_choose.specs.Members.{Member}
use Rattle.extract_rewrite.specs.Answers.{texts_after}
use Rattle.extract_rewrite.specs.Edits.{edits}
use Rattle.extract_rewrite.specs.Limits.{IsWithinLimits}
use Rattle.extract_rewrite_files.specs.NewFiles.{BecomesNew}

-- Where the new package is within the limits, the derivation of each of its files is the file's tree.
abbrev pub NewFilesHaveTrees : Type 0
NewFilesHaveTrees = (p : PackageView) (name : List ℕ) (ws : List Window) (t : Member TypeTree) (n : ℕ) (f : FileTree) (b : BecomesNew p name ws t n f) → IsWithinLimits (texts_after (content p) (edits (content p) name ws))
    → IsFile (kinds b.is.one_tree.tokens) b.is.one_tree.tree
