-- Trees whose tokens are counted from another one.
use Rattle.std.proofs.Common.{◌≡◌, ◌∙◌, ℕ, ◌-◌, List, [], ◌∷◌, Option, Some, None, map, refl, sym, ap}
use Rattle.std.specs.Option.{option_map}
use Rattle.go_grammar.specs.Trees.{Tree, node, more, skip, kind_of, first, last, parts}
use Rattle.go_tree.specs.declared.node.Node.{Node}
use Rattle.go_tree.specs.Views.{view, views, row}
use Rattle.go_stmts_defs.specs.Bodies.{based, all_based}

pub row_based : (b : ℕ) (xs : List (Option Tree)) → all_based b (row xs) ≡ row (map (option_map (based b)) xs)
row_based b [] = refl
row_based b (None ∷ xs) = ap skip (row_based b xs)
row_based b (Some x ∷ xs) = ap (more (based b x)) (row_based b xs)

pub all_is : (b : ℕ) (ns ms : List (Option Node)) → map (option_map view) ms ≡ map (option_map (based b)) (map (option_map view) ns) → views ms ≡ all_based b (views ns)
all_is b ns ms e = ap row e ∙ sym (row_based b (map (option_map view) ns))

pub node_based : (b : ℕ) (t : Tree) → based b t ≡ node (kind_of t) (first t - b) (last t - b) (all_based b (parts t))
node_based b (node k i j ps) = refl
