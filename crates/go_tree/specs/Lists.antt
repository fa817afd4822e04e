-- The functions of a file and the statement lists of a tree, each in a row, so that they have numbers.
use Rattle.std.specs.Prelude.{Bool, true, false, if◌then◌else◌, List, [], ◌∷◌, ◌++◌, Option, Some, None, map}
use Rattle.std.specs.Borrow.{Bor}
use Rattle.go_grammar.specs.declared.kind.Kind.{Kind}
use Rattle.go_grammar.specs.declared.kind.Kind.TheVariants as kind
use Rattle.go_grammar.specs.Trees.{Tree, node, Trees, none, more, skip, kind_of}
use Rattle.go_tree.specs.declared.node.Node.{Node}
use Rattle.go_tree.specs.declared.functions.Functions.{Functions}
use Rattle.go_tree.specs.declared.statement_lists.StatementLists.{StatementLists}
use Rattle.go_tree.specs.Views.{view}

abbrev pub is_function : Kind → Bool
is_function kind.FunctionDeclaration = true
is_function k = false

-- the functions among declarations, in order; with a body or without
abbrev pub functions : Trees → List Tree
functions none = []
functions (more p ps) = if is_function (kind_of p) then p ∷ functions ps else functions ps
functions (skip ps) = functions ps

-- one of a row of parts, if it is a function
abbrev pub function_here : Option Node → List Tree
function_here None = []
function_here (Some n) = if is_function (kind_of (view n)) then view n ∷ [] else []

-- kinds of nodes that hold statements in order (Go specification: Blocks, Expression switches)
abbrev pub is_statement_list : Kind → Bool
is_statement_list kind.Block = true
is_statement_list kind.Case = true
is_statement_list kind.Default = true
is_statement_list k = false

-- the tree itself, if it is a statement list
abbrev pub own_list : Tree → List Tree
own_list t = if is_statement_list (kind_of t) then t ∷ [] else []

abbrev mutual
  -- the statement lists of a tree, itself included, each before those within it and otherwise in order of place
  pub statement_lists : Tree → List Tree
  statement_lists (node k i j ps) = own_list (node k i j ps) ++ lists_among ps

  -- those of a row of parts
  pub lists_among : Trees → List Tree
  lists_among none = []
  lists_among (more p ps) = statement_lists p ++ lists_among ps
  lists_among (skip ps) = lists_among ps

-- the trees that references lead to
abbrev pub seen : List (Bor Node) → List Tree
seen ns = map (λ n. view n.now) ns

-- what the tables hold
abbrev pub functions_of : Functions → List Tree
functions_of fs = seen fs.nodes.items

abbrev pub lists_of : StatementLists → List Tree
lists_of ls = seen ls.nodes.items
