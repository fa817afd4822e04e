-- Windows of one function, in bytes.
use Rattle.std.specs.Prelude.{◌≡◌, ℕ, ◌+◌, ◌<◌, ◌≤◌, List, [], ◌∷◌, length, map, Some, None, slice_get}
use Rattle.std.specs.List.{AllByRecursion}
use Rattle.go_tokens.specs.Tokens.{AreOrdered, span_of}
use Rattle.go_tree.specs.File.{FileTree}
use Rattle.go_types.specs.Trees.{TypeTree}
use Rattle.go_typed.specs.declared.window.Window.{Window}
use Rattle.go_typed.specs.Contents.{Content}
use Rattle.param_choose.specs.Members.{Member, members_of, template_of}
use Rattle.escape_check.specs.Places.{Sources, file_of, sources_of}
use Rattle.escape_check.specs.Refusals.{refused}
use Rattle.extract_rewrite.specs.Apart.{AreApart}
use Rattle.extract_rewrite.specs.Edits.{window_edit}

-- A member has tokens, and they are tokens of this file, which is that of its function; those of the file stand in order in its text.
pub record StandsIn {T : Type 0} (s : Sources) (file : FileTree) (m : Member T) : Type 0 where
  pub some : m.from < m.upto
  pub there : slice_get s.files (file_of s m) ≡ Some file
  pub tokens : m.first + m.upto ≤ length file.tokens.tokens
  pub ordered : AreOrdered 0 (map span_of file.tokens.tokens) (length file.tokens.text)

-- each two of a list, in their order
abbrev pub EachTwo : {A : Type 0} → (A → A → Type 0) → List A → Type 0
EachTwo R [] = Unit {0}
EachTwo R (x ∷ xs) = AllByRecursion (R x) xs × EachTwo R xs

-- Of windows to which no code from 3 to 16 applies, each two of one function are replaced at ranges that don't overlap, where they
-- have tokens of its file.
abbrev pub WindowsOfFunctionsAreApart : Type 0
WindowsOfFunctionsAreApart = (c : Content) (name : List ℕ) (ws : List Window) (t : Member TypeTree) → template_of c ws ≡ Some t → refused c name ws ≡ None
    → EachTwo (λ m n. m.window.func ≡ n.window.func → (file : FileTree) → StandsIn (sources_of c) file m → StandsIn (sources_of c) file n → AreApart (window_edit c name ws m) (window_edit c name ws n)) (members_of c ws)
