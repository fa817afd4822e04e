-- Where the functions of a package stand in the trees of its files, and windows of them (Go specification: Function declarations).
use Rattle.std.specs.Prelude.{◌≡◌, ℕ, suc, ◌+◌, ◌-◌, [], ◌∷◌, length, Some, slice_get}
use Rattle.go_tokens.specs.Tokens.{kinds}
use Rattle.go_grammar.specs.declared.kind.Kind.TheVariants as kind
use Rattle.go_grammar.specs.Grammar.{IsFile}
use Rattle.go_grammar.specs.Trees.{Tree, kind_of, first, last}
use Rattle.go_rewriting.specs.Replacing.{subtree_at}
use Rattle.go_tree.specs.declared.object.Declared.{Declared}
use Rattle.go_tree.specs.File.{FileTree}
use Rattle.go_tree.specs.Uses.{functions_among}
use Rattle.go_tree.specs.Views.{view}
use Rattle.go_types.specs.Trees.{TypeTree}
use Rattle.go_typed.specs.declared.window.Window.{Window}
use Rattle.go_typed.specs.Contents.{Content, FuncContent}
use Rattle.go_typed.specs.Lists.{statement_lists}
use Rattle.go_typed.specs.Trees.{Typed}
use Rattle.go_typed.specs.Windows.{Range}
use Rattle.clone_window.specs.Spans.{range_over}
use Rattle.clone_window.specs.Windows.{window_statements}
use Rattle.go_function_trees.specs.Lists.{ListStands, IsRead, RunStands}

-- The function with this number is declared in a file of the package, and has a declaration in the tree of that file.
pub record HasTree (c : Content) (number : ℕ) (f : FuncContent) : Type 0 where
  -- what declares it, at its second token
  pub declared : Declared
  pub there : slice_get (functions_among c.uses.package_level) number ≡ Some declared
  pub file : FileTree
  pub in_file : slice_get c.files declared.file ≡ Some file
  pub derived : IsFile (kinds file.tokens.tokens) (view file.root)
  -- the number of the declaration among the parts of the file
  pub part : ℕ
  pub declaration : Tree
  pub at_path : subtree_at (part ∷ []) (view file.root) ≡ Some declaration
  pub is_function : kind_of declaration ≡ kind.FunctionDeclaration
  pub begins : suc (first declaration) ≡ declared.name
  pub ends : length f.tokens ≡ last declaration - first declaration
  -- the typed tree is what is read of it
  pub name : ℕ → ℕ
  pub read : IsRead name (first declaration) declaration f.tree
  -- each of its statement lists has a node
  pub lists : (k : ℕ) (l : Typed TypeTree) → slice_get (statement_lists f.tree) k ≡ Some l → ListStands (view file.root) (first declaration) l

-- each function of a package
abbrev pub HaveTrees : Content → Type 0
HaveTrees c = (n : ℕ) (f : FuncContent) → slice_get c.functions n ≡ Some f → HasTree c n f

-- The statements of a window are adjoining parts of the node of its statement list: behind `front` of them one and `others` more, over these
-- tokens, which are counted from the function's first one.
pub record WindowStands (c : Content) (w : Window) (f : FuncContent) (r : Range) : Type 0 where
  pub function : HasTree c w.func f
  pub list : Typed TypeTree
  pub there : slice_get (statement_lists f.tree) w.list ≡ Some list
  pub stands : ListStands (view function.file.root) (first function.declaration) list
  pub front : ℕ
  pub is_front : front ≡ stands.front + w.first
  pub others : ℕ
  pub run : RunStands (view function.file.root) (first function.declaration) list stands front others (first function.declaration + r.from) (first function.declaration + r.to)

-- of each window that has a statement
abbrev pub WindowsStand : Content → Type 0
WindowsStand c = (w : Window) (f : FuncContent) (r : Range) → slice_get c.functions w.func ≡ Some f → range_over (window_statements f.tree w) ≡ Some r → WindowStands c w f r
