-- The statement lists of a typed tree, in a row, so that they have numbers, and their statements.
use Rattle.std.specs.Prelude.{ℕ, if◌then◌else◌, List, [], ◌∷◌, ◌++◌, map, drop}
use Rattle.std.specs.Borrow.{Bor}
use Rattle.go_typed.specs.declared.node.TypedNode.{TypedNode}
use Rattle.go_typed.specs.declared.lists.StatementLists.{StatementLists}
use Rattle.go_typed.specs.Forms.{is_statement_list, values_count}
use Rattle.go_typed.specs.Trees.{Typed, typed, Typeds, none, more, skip, form_of, parts_of}
use Rattle.go_typed.specs.Views.{view}

-- the tree itself, if it is a statement list
abbrev pub own_list : {T : Type 0} → Typed T → List (Typed T)
own_list x = if is_statement_list (form_of x) then x ∷ [] else []

abbrev mutual
  -- the statement lists of a tree, itself included, each before those within it and otherwise in order of place
  pub statement_lists : {T : Type 0} → Typed T → List (Typed T)
  statement_lists (typed f i j l ps) = own_list (typed f i j l ps) ++ lists_among ps

  -- those of a row of parts
  pub lists_among : {T : Type 0} → Typeds T → List (Typed T)
  lists_among none = []
  lists_among (more p ps) = statement_lists p ++ lists_among ps
  lists_among (skip ps) = lists_among ps

-- the parts that are there
abbrev pub present : {T : Type 0} → Typeds T → List (Typed T)
present none = []
present (more p ps) = p ∷ present ps
present (skip ps) = present ps

-- the statements of a statement list
abbrev pub statements_of : {T : Type 0} → Typed T → List (Typed T)
statements_of x = drop (values_count (form_of x)) (present (parts_of x))

-- the trees that references lead to
abbrev pub seen_lists : List (Bor TypedNode) → List (Typed ℕ)
seen_lists ns = map (λ n. view n.now) ns

-- what the table holds
abbrev pub lists_of : StatementLists → List (Typed ℕ)
lists_of ls = seen_lists ls.nodes.items
