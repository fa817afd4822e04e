-- How many parts a part stands for.
use Rattle.std.proofs.Common.{◌≡◌, ◌∙◌, ◌-◌, List, [], ◌∷◌, Option, Some, None, length, map, true, false, refl, ap}
use Rattle.std.proofs.lemmas.List.{length-map}
use Rattle.std.specs.Option.{option_map}
use Rattle.go_types.specs.Tables.{Table}
use Rattle.go_typed.specs.declared.node.TypedNode.{TypedNode}
use Rattle.go_typed.specs.declared.node.TypedNode.TheViews.{out-TypedNode}
use Rattle.go_typed.specs.Views.{seen}
use Rattle.go_exprs_rules.specs.Tables.{is_held}
use Rattle.go_typed.specs.Trees.{form_of, list_of, parts_of}
use Rattle.go_stmts_defs.specs.Laying.{held_count, target_count}
use Rattle.go_exprs_engine.proofs.Public.{held_parts, held_itself, parts_seen, seen_out, list_row}

pub held_is : (t : Table) (n : TypedNode) → is_held (out-TypedNode n).form ≡ true → held_count (Some (seen t n)) ≡ length (out-TypedNode n).parts.items
held_is t n h = ap length (held_parts t n h) ∙ length-map (out-TypedNode n).parts.items (option_map (seen t))

pub alone_is : (t : Table) (n : TypedNode) → is_held (out-TypedNode n).form ≡ false → held_count (Some (seen t n)) ≡ 1
alone_is t n h = ap length (held_itself t n h)

pub opened_is : (t : Table) (n : TypedNode) → list_of (parts_of (seen t n)) ≡ map (option_map (seen t)) (out-TypedNode n).parts.items
opened_is t n = ap (λ x. list_of (parts_of x)) (seen_out t n) ∙ list_row (parts_seen t (out-TypedNode n).parts.items)

pub targets_are : (t : Table) (n : TypedNode) → target_count (parts_of (seen t n)) ≡ length (out-TypedNode n).parts.items - 1
targets_are t n = ap (λ xs. length xs - 1) (opened_is t n) ∙ ap (λ k. k - 1) (length-map (out-TypedNode n).parts.items (option_map (seen t)))

pub form_is : (t : Table) (n : TypedNode) → form_of (seen t n) ≡ (out-TypedNode n).form
form_is t n = ap form_of (seen_out t n)
