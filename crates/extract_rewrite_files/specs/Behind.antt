-- The new function of an extraction, behind the file of the template.
use Rattle.std.specs.Prelude.{◌≡◌, ℕ, ◌≤◌, ◌++◌, Some, None, length, List}
use Rattle.std.specs.List.{AllByRecursion}
use Rattle.go_base.specs.Package.{IsPackage}
use Rattle.go_tokens.specs.declared.token.TokenKind.{TokenKind}
use Rattle.go_grammar.specs.Trees.{depth, depths}
use Rattle.go_print_laws.specs.Calls.{CallCanBeWritten}
use Rattle.go_print_laws.specs.Headers.{HeaderCanBeWritten, signature_tree}
use Rattle.go_print_laws.specs.Lexemes.{AreNames}
use Rattle.go_print_laws.specs.Functions.{FunctionStands, function_tree, function_words}
use Rattle.go_function_headers.specs.Functions.{FunctionReads}
use Rattle.go_types.specs.Trees.{TypeTree}
use Rattle.go_typed.specs.declared.window.Window.{Window}
use Rattle.go_typed.specs.Contents.{Content, content}
use Rattle.go_typed.specs.Packages.{PackageView}
use Rattle.go_package_defs.specs.Checked.{IsCheckedPackage, texts_of}
use Rattle.param_choose.specs.Choosing.{chosen_of}
use Rattle.param_choose.specs.Members.{Member, members_of, template_of}
use Rattle.escape_check.specs.Places.{file_of, sources_of}
use Rattle.escape_check.specs.Refusals.{refused}
use Rattle.escape_check.specs.Types.{declared_text}
use Rattle.extract_texts.specs.Fresh.{fresh_names}
use Rattle.extract_texts.specs.Texts.{call_of, function_for, header_of, variable_names}
use Rattle.extract_files.specs.Functions.{IsTemplateOf, extracted_function}
use Rattle.extract_files.specs.Holes.{Template, named_trees, named_words}
use Rattle.extract_rewrite_files.specs.Sites.{HasHoles, HaveSites}

-- Windows of a package that type-checks, the first of which is the template, may be taken out into a function of this name as far as the codes
-- 3 to 16 go; they stand in the trees of its files.
pub record MayBeTaken (p : PackageView) (name : List ℕ) (ws : List Window) (t : Member TypeTree) : Type 0 where
  pub checked : IsCheckedPackage p
  pub within : IsPackage (texts_of p)
  pub template : template_of (content p) ws ≡ Some t
  pub allowed : refused (content p) name ws ≡ None
  pub sites : HaveSites (content p) ws

-- the names of the holes that are parameters
abbrev pub names_for : Content → List ℕ → List Window → List (List ℕ)
names_for c name ws = fresh_names (sources_of c) name (length (chosen_of c ws).holes)

-- The calls can be written.
abbrev pub CallsCanBeWritten : Content → List ℕ → List Window → Member TypeTree → Type 0
CallsCanBeWritten c name ws t = AllByRecursion (λ m. CallCanBeWritten (declared_text (sources_of c)) (call_of (λ x. x) (sources_of c) name t (chosen_of c ws) m)) (members_of c ws)

-- So can the header of the new function, the names that it returns, and those of its parameters for holes.
pub record FunctionCanBeWritten (c : Content) (name : List ℕ) (ws : List Window) (t : Member TypeTree) : Type 0 where
  pub header : HeaderCanBeWritten (declared_text (sources_of c)) (header_of (λ x. x) (sources_of c) name (names_for c name ws) t (chosen_of c ws))
  pub returned : AreNames (variable_names (sources_of c) t ((chosen_of c ws).assigned ++ (chosen_of c ws).declared))
  pub fresh : AreNames (names_for c name ws)

-- the template as a part of its file, with its holes
abbrev pub IsTemplateFor : Content → List ℕ → List Window → Member TypeTree → Template → Type 0
IsTemplateFor c name ws t w = IsTemplateOf (sources_of c) (names_for c name ws) t (chosen_of c ws) w × (w.part.file ≡ file_of (sources_of c) t)

-- the levels of the new function
abbrev pub levels_of : Content → List ℕ → List Window → Member TypeTree → Template → ℕ
levels_of c name ws t w = depth (function_tree (extracted_function (sources_of c) name (names_for c name ws) t (chosen_of c ws)) (length (named_words w)) (named_trees w))

-- What stands behind the template's file is a declaration: a function whose statements are the template's, with names in place of its holes.
pub record StandsBehind (c : Content) (name : List ℕ) (ws : List Window) (t : Member TypeTree) : Type 0 where
  pub template : Template
  pub is_template : IsTemplateFor c name ws t template
  pub stands : FunctionStands (file_of (sources_of c) t) (function_for c name ws)
      (function_words (declared_text (sources_of c)) (extracted_function (sources_of c) name (names_for c name ws) t (chosen_of c ws)) (named_words template))
      (function_tree (extracted_function (sources_of c) name (names_for c name ws) t (chosen_of c ws)) (length (named_words template)) (named_trees template))

-- the levels of its signature
abbrev pub signature_levels : Content → List ℕ → List Window → Member TypeTree → ℕ
signature_levels c name ws t = depth (signature_tree 2 (header_of (λ x. x) (sources_of c) name (names_for c name ws) t (chosen_of c ws)))

-- The template is a part of its file, with at most 98 levels, and the new function is within the limit on levels where its signature is.
pub record HasTemplate (c : Content) (name : List ℕ) (ws : List Window) (t : Member TypeTree) : Type 0 where
  pub template : Template
  pub is_template : IsTemplateFor c name ws t template
  pub low : depths (named_trees template) ≤ 98
  pub shallow : signature_levels c name ws t ≤ 99 → levels_of c name ws t template ≤ 100

abbrev pub TemplatesAreParts : Type 0
TemplatesAreParts = (p : PackageView) (name : List ℕ) (ws : List Window) (t : Member TypeTree) → MayBeTaken p name ws t → HasHoles (content p) t → AreNames (names_for (content p) name ws)
    → HasTemplate (content p) name ws t

-- The new function stands behind the file of the template, where its signature is within the limit on levels.
abbrev pub FunctionsStandBehind : Type 0
FunctionsStandBehind = (p : PackageView) (name : List ℕ) (ws : List Window) (t : Member TypeTree) → MayBeTaken p name ws t → HasHoles (content p) t → FunctionCanBeWritten (content p) name ws t
    → signature_levels (content p) name ws t ≤ 99 → StandsBehind (content p) name ws t

-- What stands behind the template's file is read there as a declaration, whatever levels its signature has.
pub record ReadsBehind (c : Content) (name : List ℕ) (ws : List Window) (t : Member TypeTree) : Type 0 where
  pub words : List TokenKind
  pub reads : FunctionReads (file_of (sources_of c) t) (function_for c name ws) words (signature_tree 2 (header_of (λ x. x) (sources_of c) name (names_for c name ws) t (chosen_of c ws)))

-- The new function is read behind the file of the template.
abbrev pub FunctionsReadBehind : Type 0
FunctionsReadBehind = (p : PackageView) (name : List ℕ) (ws : List Window) (t : Member TypeTree) → MayBeTaken p name ws t → HasHoles (content p) t → FunctionCanBeWritten (content p) name ws t → ReadsBehind (content p) name ws t
