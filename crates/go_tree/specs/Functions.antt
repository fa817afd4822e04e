-- What a function's declaration is made of (Go specification: Function declarations).
use Rattle.std.specs.Prelude.{ℕ, suc, nat_lt, if◌then◌else◌, Option, Some, None}
use Rattle.std.specs.Option.{option_map}
use Rattle.go_grammar.specs.declared.kind.Kind.{Kind}
use Rattle.go_grammar.specs.declared.kind.Kind.TheVariants as kind
use Rattle.go_base.specs.Optional.{◌>>=◌}
use Rattle.go_grammar.specs.Trees.{Tree, kind_of, first, last, parts}
use Rattle.go_tree.specs.declared.functions.FunctionDeclaration.{FunctionDeclaration}
use Rattle.go_tree.specs.Views.{view, part_at}

-- the number of the token that is its name, its signature, and its block, if it has one
pub record FunctionDeclarationTree : Type 0 where
  pub name : ℕ
  pub signature : Tree
  pub body : Option Tree

abbrev pub function_declaration_by : Kind → Tree → Option FunctionDeclarationTree
function_declaration_by kind.FunctionDeclaration t = part_at (parts t) 0 >>= λ signature. if nat_lt (first t) (last t) then Some (record { name = suc (first t); signature = signature; body = part_at (parts t) 1 }) else None
function_declaration_by k t = None

abbrev pub function_declaration_of : Tree → Option FunctionDeclarationTree
function_declaration_of t = function_declaration_by (kind_of t) t

abbrev pub function_declaration_view : FunctionDeclaration → FunctionDeclarationTree
function_declaration_view x = record { name = x.name; signature = view x.signature.now; body = option_map (λ n. view n.now) x.body }
