-- Where the bodies of functions begin, and what is known there.
use Rattle.std.specs.Prelude.{ℕ, Bool, List, [], ◌∷◌, ◌++◌, length, replicate, Some, None, slice_get}
use Rattle.go_grammar.specs.declared.kind.Category.TheVariants as category
use Rattle.go_grammar.specs.declared.kind.Kind.TheVariants as kind
use Rattle.go_grammar.specs.Trees.{Tree}
use Rattle.go_tree.specs.Uses.{object_there}
use Rattle.go_types.specs.Relations.{Rights}
use Rattle.go_exprs_rules.specs.Scopes.{Hint, value}
use Rattle.go_stmts_defs.specs.Frames.{Frame}
use Rattle.go_stmts_defs.specs.Bodies.{start}
use Rattle.go_stmts_defs.specs.Laying.{local_named, type_number}
use Rattle.go_stmts_defs.specs.Reading.{reading, entering}
use Rattle.go_exprs_variables.specs.Shapes.{IsShaped}
use Rattle.go_package_defs.specs.Bodies.{Portion, Surroundings, scope_of, count_types, local_type}
use Rattle.go_package_laws.specs.Reach.{HintWithin}
use Rattle.go_renumbering.specs.Functions.{AreBelow}
use Rattle.go_stmts_variables.specs.Statements.{tree_in, frame_in}
use Rattle.go_stmts_steady.specs.Ordered.{Numbers, below, Ordered, KnowsBelow}
use Rattle.go_package_steady.specs.Rising.{type_places, LocalsRise}

-- where a function begins of whose locals these are types, behind these right sides
abbrev pub function_begins : Surroundings → Rights → List Bool → Portion → Frame
function_begins a rights bs o = start (scope_of a (rights ++ replicate (count_types bs) None) o) (length bs) (local_type (length rights) bs)

-- where its body begins: behind its signature
abbrev pub body_begins : Frame → Tree → Frame
body_begins f g = entering kind.FunctionDeclaration (Some (tree_in (reading f value g)) ∷ []) (frame_in (reading f value g))

-- for each token of a function the local that it names
abbrev pub locals_at : Portion → Numbers
locals_at o i = local_named (object_there (slice_get o.objects i))

-- What the law on ordered bodies asks of a body, of the frame in which it begins, and of what it is told.
pub record IsOrderedBody (k : ℕ) (f : Frame) (h : Hint) (x : Tree) : Type 0 where
  pub known : KnowsBelow k f
  pub hint : HintWithin (below k) h
  pub ordered : Ordered (type_number f) k x

-- A function whose types are locals in order has an ordered body, where what surrounds it and the right sides in front of it name no
-- declared types but those in front.
abbrev pub BodiesAreOrdered : Type 0
BodiesAreOrdered = (a : Surroundings) (rights : Rights) (bs : List Bool) (o : Portion) (g b : Tree) → IsShaped category.Signature g → IsShaped category.Block b
    → AreBelow (length rights) a rights → LocalsRise (locals_at o) bs 0 (type_places b) → IsOrderedBody (length rights) (body_begins (function_begins a rights bs o) g) value b
