-- Specifications as the program holds them.
use Rattle.std.specs.Prelude.{ℕ, List, Option, Some, None, map}
use Rattle.std.specs.Option.{option_map}
use Rattle.go_grammar.specs.declared.kind.Kind.TheVariants as kind
use Rattle.go_grammar.specs.Trees.{Tree, node, Trees, none, more}
use Rattle.go_tree.specs.declared.context.Entity.{Entity}
use Rattle.go_tree.specs.Views.{view, views}
use Rattle.go_package_defs.specs.Declarations.{Specification, trees_of, named_specification, type_specification, function}
use Rattle.go_declarations.specs.declared.specification.Specification as program

-- the specification of the definitions
abbrev pub specification_view : program.Specification → Specification
specification_view s = record {
  entity = s.entity;
  file = s.file;
  first = s.first;
  last = s.last;
  iota = s.iota;
  names = s.names.items;
  type_tree = option_map (λ n. view n.now) s.of;
  values = trees_of (views s.values.now);
  tree = Some (view s.tree.now);
}

abbrev pub seen_all : List program.Specification → List Specification
seen_all xs = map specification_view xs

-- ---- by the node

abbrev pub named_specified : ℕ → Entity → ℕ → Tree → Option Tree → Specification
named_specified n e k (node l i j ps) r = named_specification n e k (node l i j ps) i j ps r

abbrev pub type_specified : ℕ → Tree → Specification
type_specified n (node l i j ps) = type_specification n (node l i j ps) i j ps

abbrev pub function_specified : ℕ → Tree → Specification
function_specified n (node l i j ps) = function n (node l i j ps) i j ps

-- ---- by parts

abbrev pub only_part : Trees → Option Tree
only_part (more p none) = Some p
only_part ps = None

-- the specifications in parentheses, or the parts themselves
abbrev pub group_in : Trees → Trees
group_in (more (node (kind.Group g) i j ps) none) = ps
group_in ps = ps
