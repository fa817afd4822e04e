-- What the call is given and answers that types the declarations of a package.
use Rattle.std.specs.Prelude.{◌≡◌, ℕ, suc, ◌<◌, Bool, true, false, List, [], ◌∷◌, Some, is_some, slice_get}
use Rattle.go_grammar.specs.Grammar.{IsFile}
use Rattle.go_tokens.specs.Files.{IsLexing}
use Rattle.go_tokens.specs.Tokens.{kinds}
use Rattle.go_tree.specs.declared.object.Declared.{Declared}
use Rattle.go_tree.specs.File.{FileTree}
use Rattle.go_tree.specs.Views.{view}
use Rattle.go_types.specs.Tables.{Table, rights_of}
use Rattle.go_typed.specs.Scopes.{EnvView}
use Rattle.go_typed.specs.Trees.{Sort, SortHas}
use Rattle.go_exprs_types.specs.Naming.{objects_seen}
use Rattle.go_package_defs.specs.Answer.{Environment}
use Rattle.go_package_defs.specs.Knowledge.{is_type}
use Rattle.go_package_rounds.specs.declared.held.Held.{Held}

-- The file has this number, its tokens are the lexing of its text, and its tree is the derivation over them.
pub record IsLexedFile (n : ℕ) (f : FileTree) : Type 0 where
  pub number : f.tokens.file ≡ n
  pub lexing : IsLexing n f.tokens.text f.tokens.tokens f.tokens.comments
  pub tree : IsFile (kinds f.tokens.tokens) (view f.root)

-- So are the files, from the number n on.
abbrev pub AreLexedFiles : ℕ → List FileTree → Type 0
AreLexedFiles n [] = Unit {0}
AreLexedFiles n (f ∷ fs) = IsLexedFile n f × AreLexedFiles (suc n) fs

-- what the objects of a package stand for and the right sides of its types, in a table
abbrev pub environment_seen : Table → EnvView → Environment
environment_seen t e = record { rights = rights_of t; objects = objects_seen t e.objects }

-- The types that the objects stand for are among the first n of a table.
abbrev pub KnownObjects : ℕ → EnvView → Type 0
KnownObjects n e = (j : ℕ) (x : Sort ℕ) → slice_get e.objects j ≡ Some x → SortHas (λ i. i < n) x

abbrev pub HasRight : Bool → Held → Type 0
HasRight true h = is_some h.right ≡ true
HasRight false h = Unit {0}

-- Each object that is a type has a right side.
abbrev pub HaveRights : List Declared → List Held → Type 0
HaveRights [] [] = Unit {0}
HaveRights (d ∷ ds) (h ∷ hs) = HasRight (is_type d.entity) h × HaveRights ds hs
HaveRights _ _ = ⊥
