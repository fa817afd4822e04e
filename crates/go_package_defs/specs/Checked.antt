-- The check of a package: what it is with its types, or the fault that is reported.
--
-- The earliest phase with a fault decides: the encoding of all files, their tokens, their trees, the names of the package, its
-- declarations, its bodies.
use Rattle.std.specs.Prelude.{◌≡◌, ℕ, suc, ◌<◌, if◌then◌else◌, List, [], ◌∷◌, ◌++◌, map, Some, Result, Ok, Err, slice_get}
use Rattle.go_base.specs.declared.bytes.FileText.{FileText}
use Rattle.go_base.specs.declared.fault.Fault.{Fault}
use Rattle.go_base.specs.Gives.{◌>>=◌}
use Rattle.go_grammar.specs.Grammar.{IsFile}
use Rattle.go_grammar.specs.Trees.{Tree}
use Rattle.go_parse.specs.Parse.{IsSyntaxFault}
use Rattle.go_tokens.specs.Encoding.{IsEncodingFault}
use Rattle.go_tokens.specs.Files.{IsLexing, IsLaterFault}
use Rattle.go_tokens.specs.Tokens.{TokenList, kinds}
use Rattle.go_tree.specs.declared.context.Entity.TheVariants as entity
use Rattle.go_tree.specs.declared.object.Declared.{Declared}
use Rattle.go_tree.specs.Failures.{Failure}
use Rattle.go_tree.specs.Faults.{reported}
use Rattle.go_tree.specs.File.{FileTree}
use Rattle.go_tree.specs.Units as names
use Rattle.go_tree.specs.Uses.{UsesView, uses}
use Rattle.go_tree.specs.Views.{view}
use Rattle.go_typed.specs.declared.origin.Origin.{Origin}
use Rattle.go_typed.specs.declared.origin.Origin.TheVariants as origin
use Rattle.go_typed.specs.Contents.{Content, content, IsPackageOf}
use Rattle.go_typed.specs.Packages.{PackageView, IsPackage, referents}
use Rattle.go_scopes.specs.Views.{failure_of}
use Rattle.go_package_defs.specs.Declarations.{Specification}
use Rattle.go_package_defs.specs.Sources.{Source, source_of, unit_of, package_of}
use Rattle.go_package_defs.specs.Knowledge.{is_type}
use Rattle.go_package_defs.specs.Answer.{Environment, specifications, package_answer, unless}
use Rattle.go_package_defs.specs.Bodies.{Surroundings, Functions, functions_from, those_of, variables_of}

-- ---- where declared types stand

abbrev pub package_origins : ℕ → List Declared → List Origin
package_origins n [] = []
package_origins n (d ∷ ds) = if is_type d.entity then origin.Package n ∷ package_origins (suc n) ds else package_origins (suc n) ds

abbrev pub local_origins : ℕ → ℕ → List Declared → List Origin
local_origins f n [] = []
local_origins f n (d ∷ ds) = if is_type d.entity then origin.Local f n ∷ local_origins f (suc n) ds else local_origins f (suc n) ds

abbrev pub function_origins : ℕ → List (List Declared) → List Origin
function_origins f [] = []
function_origins f (ds ∷ dss) = local_origins f 0 ds ++ function_origins (suc f) dss

-- the types of the package by their objects, and behind them those of the functions
abbrev pub origins : UsesView → List Origin
origins u = package_origins 0 u.package_level ++ function_origins 0 u.locals

-- ---- from trees on

abbrev pub names_answer : List names.Unit → Result UsesView Failure
names_answer us = unless (reported us) (uses us)

abbrev pub surroundings_of : UsesView → Environment → Surroundings
surroundings_of u e = record { objects = e.objects; referents = referents u.package_level }

-- a package with its types, but for its files
pub record Typing : Type 0 where
  pub uses : UsesView
  pub environment : Environment
  pub bodies : Functions
  pub specifications : List Specification

abbrev pub bodies_answer : List Source → List Specification → UsesView → Environment → Result Typing Failure
bodies_answer ss ds u e = functions_from (package_of ss u) (surroundings_of u e) e.rights 0 (those_of entity.Function ds) >>= λ b. Ok (record { uses = u; environment = e; bodies = b; specifications = ds })

abbrev pub sources_answer : List Source → Result Typing Failure
sources_answer ss = names_answer (map unit_of ss) >>= λ u. package_answer ss u >>= λ e. bodies_answer ss (specifications 0 ss) u e

abbrev pub content_of : List (List ℕ) → List FileTree → List Source → Typing → Content
content_of names files ss t = record {
  names = names;
  files = files;
  uses = t.uses;
  rights = t.bodies.rights;
  origins = origins t.uses;
  objects = t.environment.objects;
  referents = referents t.uses.package_level;
  variables = variables_of (package_of ss t.uses) (surroundings_of t.uses t.environment) t.bodies.rights (those_of entity.Variable t.specifications);
  functions = t.bodies.functions;
}

-- of files with trees the package with its types, or the fault that is reported of its names, its declarations and its bodies
abbrev pub files_answer : List (List ℕ) → List FileTree → Result Content Failure
files_answer names files = sources_answer (map source_of files) >>= λ t. Ok (content_of names files (map source_of files) t)

-- ---- from bytes on

-- The file has the number n, and these are its tokens and its tree.
pub record IsRead (n : ℕ) (text : FileText) (file : FileTree) : Type 0 where
  pub number : file.tokens.file ≡ n
  pub bytes : file.tokens.text ≡ text.bytes
  pub lexing : IsLexing n text.bytes file.tokens.tokens file.tokens.comments
  pub tree : IsFile (kinds file.tokens.tokens) (view file.root)

abbrev pub AreRead : ℕ → List FileText → List FileTree → Type 0
AreRead n [] [] = Unit {0}
AreRead n (x ∷ xs) (f ∷ fs) = IsRead n x f × AreRead (suc n) xs fs
AreRead n _ _ = ⊥

abbrev pub names_of : List FileText → List (List ℕ)
names_of xs = map (λ x. x.name) xs

-- The package type-checks, and with its types it is this.
pub record IsChecked (texts : List FileText) (c : Content) : Type 0 where
  pub files : List FileTree
  pub read : AreRead 0 texts files
  pub answer : files_answer (names_of texts) files ≡ Ok c

-- No rule fails in the package.
abbrev pub IsGood : List FileText → Type 0
IsGood texts = (c : Content) × IsChecked texts c

-- ---- the fault that is reported

-- A fault of a file by itself, by its number and its bytes
abbrev pub FileRule : Type 1
FileRule = ℕ → List ℕ → Fault → Type 0

-- No file has such a fault.
abbrev pub HaveNone : FileRule → List FileText → Type 0
HaveNone rule texts = (n : ℕ) (x : FileText) (f : Fault) → slice_get texts n ≡ Some x → rule n x.bytes f → ⊥

-- It is that of the first file that has one.
pub record IsFirst (rule : FileRule) (texts : List FileText) (f : Fault) : Type 0 where
  pub number : ℕ
  pub file : FileText
  pub there : slice_get texts number ≡ Some file
  pub fails : rule number file.bytes f
  pub before : (n : ℕ) (x : FileText) (g : Fault) → n < number → slice_get texts n ≡ Some x → rule n x.bytes g → ⊥

-- the file has tokens, but no tree
pub record IsTreeFault (n : ℕ) (bytes : List ℕ) (f : Fault) : Type 0 where
  pub tokens : TokenList
  pub number : tokens.file ≡ n
  pub text : tokens.text ≡ bytes
  pub lexing : IsLexing n bytes tokens.tokens tokens.comments
  pub none : (t : Tree) → IsFile (kinds tokens.tokens) t → ⊥
  pub place : IsSyntaxFault tokens f

-- by bytes, and of which the first file decides
abbrev pub IsEncoded : List FileText → Failure → Type 0
IsEncoded texts g = (f : Fault) × (failure_of f ≡ g) × IsFirst IsEncodingFault texts f

abbrev pub IsTokens : List FileText → Failure → Type 0
IsTokens texts g = HaveNone IsEncodingFault texts × ((f : Fault) × (failure_of f ≡ g) × IsFirst IsLaterFault texts f)

abbrev pub IsTrees : List FileText → Failure → Type 0
IsTrees texts g = HaveNone IsEncodingFault texts × HaveNone IsLaterFault texts × ((f : Fault) × (failure_of f ≡ g) × IsFirst IsTreeFault texts f)

-- all files have trees
pub record IsLater (texts : List FileText) (g : Failure) : Type 0 where
  pub files : List FileTree
  pub read : AreRead 0 texts files
  pub answer : files_answer (names_of texts) files ≡ Err g

-- The reported fault: of the encoding, of tokens, of trees, or of the names, the declarations and the bodies.
pub data IsReported (texts : List FileText) (g : Failure) : Type 0 where
  encoding : IsEncoded texts g → IsReported texts g
  tokens : IsTokens texts g → IsReported texts g
  trees : IsTrees texts g → IsReported texts g
  later : IsLater texts g → IsReported texts g

-- ---- packages that the program holds

abbrev pub texts_by : List (List ℕ) → List FileTree → List FileText
texts_by (n ∷ ns) (f ∷ fs) = record { name = n; bytes = f.tokens.text } ∷ texts_by ns fs
texts_by _ _ = []

-- the package, as bytes
abbrev pub texts_of : PackageView → List FileText
texts_of p = texts_by p.names p.files

-- What every package meets that the program says type-checks: up to the numbers of its declared types it is what the check of its
-- own bytes gives.
pub record IsCheckedPackage (p : PackageView) : Type 0 where
  pub numbers : IsPackage p
  pub given : Content
  pub checked : IsChecked (texts_of p) given
  pub same : IsPackageOf given (content p)
