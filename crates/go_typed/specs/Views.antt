-- The typed trees that the nodes of the program hold, with the numbers of types and, in a table, with the types.
use Rattle.std.specs.Prelude.{ℕ, ◌<◌, List, Option, map}
use Rattle.std.specs.Option.{option_map}
use Rattle.go_types.specs.Trees.{TypeTree}
use Rattle.go_types.specs.Tables.{Table, type_of}
use Rattle.go_typed.specs.declared.sort.Sort.{Sort}
use Rattle.go_typed.specs.declared.sort.Sort.TheVariants as sort
use Rattle.go_typed.specs.declared.sort.Label.{Label}
use Rattle.go_typed.specs.declared.node.TypedNode.{TypedNode}
use Rattle.go_typed.specs.declared.node.TypedNode.TheOpen.{TypedNode-F}
use Rattle.go_typed.specs.declared.node.TypedNode.TheFolds.{fold-TypedNode}
use Rattle.go_typed.specs.Trees as trees
use Rattle.go_typed.specs.Trees.{Typed, typed, Typeds, row, mapped, all_mapped, sort_mapped, Every, EveryPart, SortHas}

abbrev pub sort_view : Sort → trees.Sort ℕ
sort_view sort.Nothing = trees.Nothing
sort_view sort.Unknown = trees.Unknown
sort_view sort.Blank = trees.Blank
sort_view sort.Nil = trees.Nil
sort_view (sort.Builtin b) = trees.Builtin b
sort_view sort.Println = trees.Println
sort_view sort.Package = trees.Package
sort_view (sort.Type t) = trees.IsType t
sort_view (sort.Value t) = trees.Value t
sort_view (sort.Constant t c) = trees.Constant t c
sort_view (sort.Open u) = trees.Open u
sort_view (sort.OpenConstant c) = trees.OpenConstant c
sort_view (sort.Results t) = trees.Results t

abbrev pub label_view : Label → trees.Label ℕ
label_view l = record { sort = sort_view l.sort; varies = l.varies; calls = l.calls }

-- the label of a node, by its fields
abbrev pub label_at : {X : Type 0} → TypedNode-F X → trees.Label ℕ
label_at n = record { sort = sort_view n.sort; varies = n.varies; calls = n.calls }

abbrev pub view_step : TypedNode-F (Typed ℕ) → Typed ℕ
view_step n = typed n.form n.first n.last (label_at n) (row n.parts.items)

-- the tree of a node, with the numbers of types
abbrev pub view : TypedNode → Typed ℕ
view = fold-TypedNode (Typed ℕ) view_step

-- the trees of a row of parts
abbrev pub views : List (Option TypedNode) → Typeds ℕ
views ns = row (map (option_map view) ns)

-- ---- in a table

-- with the types themselves
abbrev pub sort_seen : Table → Sort → trees.Sort TypeTree
sort_seen t s = sort_mapped (type_of t.shapes) (sort_view s)

abbrev pub seen : Table → TypedNode → Typed TypeTree
seen t n = mapped (type_of t.shapes) (view n)

abbrev pub all_seen : Table → List (Option TypedNode) → Typeds TypeTree
all_seen t ns = all_mapped (type_of t.shapes) (views ns)

-- The types are among the first n of a table.
abbrev pub KnownSort : ℕ → Sort → Type 0
KnownSort n s = SortHas (λ t. t < n) (sort_view s)

abbrev pub Known : ℕ → TypedNode → Type 0
Known n x = Every (λ t. t < n) (view x)

abbrev pub AllKnown : ℕ → List (Option TypedNode) → Type 0
AllKnown n xs = EveryPart (λ t. t < n) (views xs)
