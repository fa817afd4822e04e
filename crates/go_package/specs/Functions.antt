-- The functions and variables of a package as the program holds them, and what it takes to type them.
use Rattle.std.specs.Prelude.{◌≡◌, ℕ, false, Option, Some, None, List, map, slice_get}
use Rattle.std.specs.List.{AllByRecursion}
use Rattle.go_grammar.specs.declared.kind.Kind.TheVariants as kind
use Rattle.go_grammar.specs.declared.kind.Sort.TheVariants as declaring
use Rattle.go_grammar.specs.Grammar.{IsFile}
use Rattle.go_grammar.specs.Trees.{Tree, node, Trees, none, more, skip, kind_of}
use Rattle.go_tokens.specs.Files.{IsLexing}
use Rattle.go_tokens.specs.Tokens.{TokenList, kinds}
use Rattle.go_tree.specs.declared.context.Entity.{Entity}
use Rattle.go_tree.specs.declared.context.Entity.TheVariants as entity
use Rattle.go_tree.specs.Failures.{Failure}
use Rattle.go_tree.specs.File.{FileTree}
use Rattle.go_tree.specs.Uses.{UsesView}
use Rattle.go_tree.specs.Views.{view}
use Rattle.go_types.specs.Tables.{Table, type_of, rights_of}
use Rattle.go_typed.specs.Contents.{func_content}
use Rattle.go_typed.specs.Funcs.{FuncView}
use Rattle.go_typed.specs.Scopes.{EnvView}
use Rattle.go_exprs_rules.specs.declared.fault.TypeFault.{TypeFault}
use Rattle.go_exprs_types.specs.Naming.{objects_seen}
use Rattle.go_exprs_engine.specs.Literals.{AllRead}
use Rattle.go_scopes.specs.Views.{failure_of}
use Rattle.go_exprs.specs.Expressions.{failure_at}
use Rattle.go_package_defs.specs.declared.error.CheckError.{CheckError}
use Rattle.go_package_defs.specs.declared.error.CheckError.TheVariants as errors
use Rattle.go_stmts_defs.specs.Bodies.{based}
use Rattle.go_stmts_defs.specs.Reading.{is_statement}
use Rattle.go_package_defs.specs.Answer.{specifications}
pub use Rattle.go_stmts.specs.Bodies.{KnownObjects, KnownFunction}
use Rattle.go_package_defs.specs.Bodies.{Surroundings, Behind, Functions, moved_fault, those_of}
use Rattle.go_package_defs.specs.Declarations.{Specification}
use Rattle.go_package_defs.specs.Sources.{Package, source_of, package_of, tokens_in}
use Rattle.go_stmts.specs.Bodies.{text_from}
use Rattle.go_package_alike.specs.Portions.{IsWhole}

-- ---- what is given

-- The file has this number, its tokens are the lexing of its text, and its tree the derivation over them.
pub record IsFileOf (n : ℕ) (f : FileTree) : Type 0 where
  pub number : f.tokens.file ≡ n
  pub lexing : IsLexing n f.tokens.text f.tokens.tokens f.tokens.comments
  pub tree : IsFile (kinds f.tokens.tokens) (view f.root)

-- So are the files of a package, numbered from 0.
abbrev pub AreFiles : List FileTree → Type 0
AreFiles files = (n : ℕ) (f : FileTree) → slice_get files n ≡ Some f → IsFileOf n f

abbrev pub package_in : List FileTree → UsesView → Package
package_in files uses = package_of (map source_of files) uses

-- the specifications and functions of the package block
abbrev pub specified : List FileTree → List Specification
specified files = specifications 0 (map source_of files)

-- what surrounds all bodies, by a table
abbrev pub around_in : Table → EnvView → Surroundings
around_in t e = record { objects = objects_seen t e.objects; referents = e.referents }

-- The literals of a tree can be read, where its tokens are counted from the token b on.
abbrev pub IsReadable : TokenList → ℕ → Option Tree → Type 0
IsReadable ts b None = Unit {0}
IsReadable ts b (Some t) = AllRead (text_from ts b) (based b t)

-- no part is a statement or holds one
abbrev pub ArePlain : Trees → Type 0
ArePlain none = Unit {0}
ArePlain (more p ps) = (is_statement (kind_of p) ≡ false) × ArePlain ps
ArePlain (skip ps) = ArePlain ps

-- a specification of variables, which has no statements
abbrev pub IsPlain : Option Tree → Type 0
IsPlain (Some (node (kind.Specification declaring.Variable) i j ps)) = ArePlain ps
IsPlain t = ⊥

-- The tree of a declaration is read by its own tokens alone, and its literals can be read.
pub record IsStanding (p : Package) (d : Specification) : Type 0 where
  pub whole : IsWhole d
  pub literals : IsReadable (tokens_in p d.file) d.first d.tree

abbrev pub AreStanding : Package → Entity → List Specification → Type 0
AreStanding p e ds = AllByRecursion (IsStanding p) (those_of e ds)

abbrev pub ArePlainVariables : List Specification → Type 0
ArePlainVariables ds = AllByRecursion (λ d. IsPlain d.tree) (those_of entity.Variable ds)

-- ---- what is answered

-- a function with its types, and the right sides behind it, in a table
abbrev pub behind_seen : Table → FuncView → Behind
behind_seen t f = record { function = func_content (type_of t.shapes) f; rights = rights_of t }

abbrev pub functions_seen : Table → List FuncView → Functions
functions_seen t fs = record { functions = map (func_content (type_of t.shapes)) fs; rights = rights_of t }

-- A fault by bytes is that by tokens, which are counted from the token b on. There is none where memory ran out.
abbrev pub IsMoved : TokenList → ℕ → Option TypeFault → Option Failure → Type 0
IsMoved ts b f None = Unit {0}
IsMoved ts b None (Some g) = ⊥
IsMoved ts b (Some f) (Some g) = g ≡ failure_at ts (moved_fault b f)

-- the fault that an error names
abbrev pub check_failure : CheckError → Option Failure
check_failure (errors.Fault f) = Some (failure_of f)
check_failure errors.Memory = None
