-- The tree of a node by its fields.
use Rattle.std.proofs.Common.{rules, ◌≡◌, ℕ, suc, ◌++◌, drop, subst, sym, refl}
use Rattle.go_typed.specs.declared.node.TypedNode.{TypedNode}
use Rattle.go_typed.specs.declared.node.TypedNode.TheViews.{out-TypedNode}
use Rattle.go_typed.specs.declared.node.TypedNode.TheFolds.{fold_out-TypedNode}
use Rattle.go_typed.specs.Funcs.{size, sizes}
use Rattle.go_typed.specs.Places.{innermost, innermost_among}
use Rattle.go_typed.specs.Lists.{own_list, statement_lists, lists_among, statements_of, present}
use Rattle.go_typed.specs.Forms.{values_count}
use Rattle.go_typed.specs.Trees.{Typed, typed}
use Rattle.go_typed.specs.Views.{view, views, label_at}

pub opened : (n : TypedNode) → view n ≡ typed (out-TypedNode n).form (out-TypedNode n).first (out-TypedNode n).last (label_at (out-TypedNode n)) (views (out-TypedNode n).parts.items)
opened n = search (rules, fold_out-TypedNode)

-- its statement lists are itself, if it is one, and those of its parts
pub lists_opened : (n : TypedNode) → statement_lists (view n) ≡ own_list (view n) ++ lists_among (views (out-TypedNode n).parts.items)
lists_opened n = let P : Typed ℕ → Type 0 = λ x. statement_lists x ≡ own_list x ++ lists_among (views (out-TypedNode n).parts.items) in subst P (sym (opened n)) refl

pub size_opened : (n : TypedNode) → size (view n) ≡ suc (sizes (views (out-TypedNode n).parts.items))
size_opened n = let P : Typed ℕ → Type 0 = λ x. size x ≡ suc (sizes (views (out-TypedNode n).parts.items)) in subst P (sym (opened n)) refl

pub innermost_opened : (t : ℕ) (n : TypedNode) → innermost t (view n) ≡ innermost_among t 1 (views (out-TypedNode n).parts.items)
innermost_opened t n = let P : Typed ℕ → Type 0 = λ x. innermost t x ≡ innermost_among t 1 (views (out-TypedNode n).parts.items) in subst P (sym (opened n)) refl

pub statements_opened : (n : TypedNode) → statements_of (view n) ≡ drop (values_count (out-TypedNode n).form) (present (views (out-TypedNode n).parts.items))
statements_opened n = let P : Typed ℕ → Type 0 = λ x. statements_of x ≡ drop (values_count (out-TypedNode n).form) (present (views (out-TypedNode n).parts.items)) in subst P (sym (opened n)) refl
