-- What an extraction makes of each file of a package.
use Rattle.std.specs.Prelude.{◌≡◌, ℕ, ◌≤◌, ◌⊎◌, ◌==◌, if◌then◌else◌, List, [], ◌∷◌, ◌++◌, map, Option, Some, slice_get}
use Rattle.std.specs.List.{AllByRecursion}
use Rattle.std.specs.Str.{encode_utf8_all}
use Rattle.go_base.specs.declared.bytes.FileText.{FileText}
use Rattle.go_tokens.specs.declared.token.Token.{Token}
use Rattle.go_tokens.specs.Encoding.{IsText}
use Rattle.go_grammar.specs.Trees.{Tree, depth}
use Rattle.go_rewriting.specs.Rewriting.{IsFileWellFormed, new_tree}
use Rattle.go_tree.specs.File.{FileTree}
use Rattle.go_tree.specs.Views.{view}
use Rattle.go_types.specs.Trees.{TypeTree}
use Rattle.go_typed.specs.declared.window.Window.{Window}
use Rattle.go_typed.specs.Contents.{Content, content}
use Rattle.go_typed.specs.Packages.{PackageView}
use Rattle.param_choose.specs.Choosing.{chosen_of}
use Rattle.param_choose.specs.Members.{Member, members_of}
use Rattle.escape_check.specs.Places.{Sources, file_of, sources_of}
use Rattle.escape_check.specs.Types.{declared_text}
use Rattle.extract_texts.specs.Texts.{function_for}
use Rattle.extract_rewrite.specs.Answers.{texts_after}
use Rattle.extract_rewrite.specs.Edits.{edits, window_edit}
use Rattle.extract_files.specs.Extracted.{IsExtracted, IsRewrittenFor}
use Rattle.extract_files.specs.Files as files
use Rattle.extract_files.specs.Files.{Called, called_text, file_text, rewriting_of}
use Rattle.extract_files.specs.Levels.{HasOneTree}
use Rattle.extract_rewrite_files.specs.Behind.{CallsCanBeWritten, MayBeTaken, StandsBehind}

abbrev pub IsOneOf : {A : Type 0} → A → List A → Type 0
IsOneOf x [] = ⊥
IsOneOf x (y ∷ ys) = (x ≡ y) ⊎ IsOneOf x ys

-- the bytes behind a file: the function behind the template's, and nothing behind others
abbrev pub behind_file : Content → List ℕ → List Window → Member TypeTree → ℕ → List ℕ
behind_file c name ws t n = if n == file_of (sources_of c) t then function_for c name ws else []

-- a file with its windows, the characters behind the last of them, and what is appended
abbrev pub called_file : Sources → ℕ → FileTree → List files.Window → List ℕ → List ℕ → List Token → Option Tree → Called
called_file s n f windows rest tail us added = record {
  file = n;
  name = declared_text s;
  tokens = f.tokens.tokens;
  comments = f.tokens.comments;
  tree = view f.root;
  windows = windows;
  rest = rest;
  tail = tail;
  tail_tokens = us;
  added = added;
}

-- The file of the number n has these bytes behind the extraction: those of a rewriting of the file, with calls at the windows that are in it,
-- and what is appended.
pub record IsNewFile (c : Content) (name : List ℕ) (ws : List Window) (t : Member TypeTree) (n : ℕ) (f : FileTree) (bytes : List ℕ) : Type 0 where
  -- the members whose windows are in the file, in order of place
  pub members : List (Member TypeTree)
  pub are : AllByRecursion (λ m. IsOneOf m (members_of c ws) × (file_of (sources_of c) m ≡ n)) members
  -- and the call at each of these is among those that stand there
  pub all : AllByRecursion (λ m. file_of (sources_of c) m ≡ n → IsOneOf (window_edit c name ws m) (map (window_edit c name ws) members)) (members_of c ws)
  -- the old characters, cut into windows and what stands between them
  pub windows : List files.Window
  pub rest : List ℕ
  pub text : IsText (file_text windows rest) f.tokens.text
  -- what is appended, with its tokens and its declaration
  pub tail : List ℕ
  pub tail_tokens : List Token
  pub added : Option Tree
  pub behind : IsText tail (behind_file c name ws t n)
  pub extracted : IsExtracted (sources_of c) name t (chosen_of c ws) members (called_file (sources_of c) n f windows rest tail tail_tokens added)
  pub rewritten : IsRewrittenFor (sources_of c) name t (chosen_of c ws) members (called_file (sources_of c) n f windows rest tail tail_tokens added)
  -- the new bytes are those of the rewriting
  pub new : bytes ≡ encode_utf8_all (called_text (declared_text (sources_of c)) windows (rest ++ tail))
  -- and where the new tree is within the limit on levels, the file is rewritten as a file
  pub as_file : depth (new_tree rewritten.rewritten.ranges (view f.root)) ≤ 101
      → IsFileWellFormed (record { text = rewriting_of (called_file (sources_of c) n f windows rest tail tail_tokens added) rewritten.rewritten.ranges; old = f.tokens.text; new = bytes; added = added })
  -- at any depth they have one lexing and one derivation over all their tokens
  pub one_tree : HasOneTree n bytes

-- a file of the new package
pub record BecomesNew (p : PackageView) (name : List ℕ) (ws : List Window) (t : Member TypeTree) (n : ℕ) (f : FileTree) : Type 0 where
  pub text : FileText
  pub there : slice_get (texts_after (content p) (edits (content p) name ws)) n ≡ Some text
  pub is : IsNewFile (content p) name ws t n f text.bytes

-- Each file of the package becomes new; that of the template where the new function stands behind it.
abbrev pub FilesBecomeNew : Type 0
FilesBecomeNew = (p : PackageView) (name : List ℕ) (ws : List Window) (t : Member TypeTree) → MayBeTaken p name ws t → CallsCanBeWritten (content p) name ws t
    → (n : ℕ) (f : FileTree) → slice_get p.files n ≡ Some f → (n ≡ file_of (sources_of (content p)) t → StandsBehind (content p) name ws t) → BecomesNew p name ws t n f
