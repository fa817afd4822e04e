-- What the calls answer that read the files of a package.
use Rattle.std.specs.Prelude.{◌≡◌, ℕ, ◌<◌, ◌⊎◌, Bool, true, false, List, length, Some, Result, Ok, Err, slice_get}
use Rattle.go_base.specs.declared.bytes.FileText.{FileText}
use Rattle.go_base.specs.declared.fault.Fault.{Fault}
use Rattle.go_base.specs.declared.fault.FaultCode.{FaultCode}
use Rattle.go_base.specs.declared.fault.FaultCode.TheVariants as code
use Rattle.go_grammar.specs.Grammar.{IsFile}
use Rattle.go_grammar.specs.Trees.{Tree}
use Rattle.go_parse.specs.Parse.{IsSyntaxFault}
use Rattle.go_tokens.specs.Encoding.{IsEncodingFault}
use Rattle.go_tokens.specs.Files.{IsLexing, IsLaterFault}
use Rattle.go_tokens.specs.Tokens.{TokenList, kinds}
use Rattle.go_tree.specs.Failures.{Failure}
use Rattle.go_tree.specs.File.{FileTree}
use Rattle.go_tree.specs.Views.{view}
use Rattle.go_package_defs.specs.Checked.{IsEncoded, IsTokens, IsTrees, IsReported}

-- whether it is the fault of an encoding
abbrev pub is_encoding : FaultCode → Bool
is_encoding code.Encoding = true
is_encoding c = false

-- The file has the number n, and these are its tokens.
pub record IsLexed (n : ℕ) (text : FileText) (tokens : TokenList) : Type 0 where
  pub number : tokens.file ≡ n
  pub bytes : tokens.text ≡ text.bytes
  pub lexing : IsLexing n text.bytes tokens.tokens tokens.comments

-- To each of the first i of these belongs one of those, by its number.
abbrev pub Upto : {A B : Type 0} → (ℕ → A → B → Type 0) → List A → ℕ → List B → Type 0
Upto {A} {B} belongs xs i ys = (length ys ≡ i) × ((n : ℕ) (x : A) → n < i → slice_get xs n ≡ Some x → (y : B) × (slice_get ys n ≡ Some y) × belongs n x y)

abbrev pub AreLexed : List FileText → List TokenList → Type 0
AreLexed xs ts = Upto IsLexed xs (length xs) ts

-- the tokens of a file, or the fault of its tokens
abbrev pub IsLexedOr : ℕ → FileText → Result TokenList Fault → Type 0
IsLexedOr n x (Ok t) = IsLexed n x t
IsLexedOr n x (Err f) = IsLaterFault n x.bytes f × ((g : Fault) → IsEncodingFault n x.bytes g → ⊥)

-- a file's tree is over its tokens
abbrev pub IsParsed : ℕ → TokenList → FileTree → Type 0
IsParsed n t f = (f.tokens ≡ t) × IsFile (kinds t.tokens) (view f.root)

abbrev pub AreParsed : List TokenList → List FileTree → Type 0
AreParsed ts fs = Upto IsParsed ts (length ts) fs

-- The fault is that of the first file whose tokens have no tree.
pub record IsUnparsed (tokens : List TokenList) (f : Fault) : Type 0 where
  pub number : ℕ
  pub file : TokenList
  pub there : slice_get tokens number ≡ Some file
  pub none : (t : Tree) → IsFile (kinds file.tokens) t → ⊥
  pub place : IsSyntaxFault file f
  pub before : (n : ℕ) (x : TokenList) → n < number → slice_get tokens n ≡ Some x → (t : Tree) × IsFile (kinds x.tokens) t

-- the fault of the encoding of the files, or of their tokens
abbrev pub IsUnlexed : List FileText → Failure → Type 0
IsUnlexed texts g = IsEncoded texts g ⊎ IsTokens texts g

-- What is reported of a package where a file has a fault by itself: of its encoding; where none has, of its tokens; where none has,
-- that it has no tree.
abbrev pub IsFileFault : List FileText → Failure → Type 0
IsFileFault texts g = IsUnlexed texts g ⊎ IsTrees texts g

-- It is what is reported of the package.
abbrev pub FileFaultsAreReported : Type 0
FileFaultsAreReported = (texts : List FileText) (g : Failure) → IsFileFault texts g → IsReported texts g
