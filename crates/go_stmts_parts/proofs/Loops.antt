-- The parts of a node, as loops go over them.
use Rattle.std.proofs.Common.{rules, ◌≡◌, ℕ, zero, suc, ◌+◌, ◌<◌, ◌≤◌, List, [], ◌∷◌, ◌++◌, length, drop, get_or, map, Option, Some, None, refl, ap, sym, ◌∙◌, subst, arith}
use Rattle.std.specs.Option.{option_map}
use Rattle.go_types.specs.Tables.{Table}
use Rattle.go_typed.specs.declared.node.TypedNode.{TypedNode}
use Rattle.go_typed.specs.declared.node.TypedNode.TheViews.{out-TypedNode}
use Rattle.go_typed.specs.declared.node.TypedNode.TheFolds.{fold_out-TypedNode}
use Rattle.go_typed.specs.Funcs.{size, sizes}
use Rattle.go_typed.specs.Trees.{typed, list_of, parts_of}
use Rattle.go_typed.specs.Views.{view, views, label_at, seen, all_seen, AllKnown}
use Rattle.go_exprs_rules.proofs.Public.{drop_step, seen_out}

opened : (n : TypedNode) → view n ≡ typed (out-TypedNode n).form (out-TypedNode n).first (out-TypedNode n).last (label_at (out-TypedNode n)) (views (out-TypedNode n).parts.items)
opened n = search (rules, fold_out-TypedNode)

-- the parts of a node are smaller than the node
pub parts_smaller : (n : TypedNode) → sizes (views (out-TypedNode n).parts.items) < size (view n)
parts_smaller n = subst (λ x. sizes (views (out-TypedNode n).parts.items) < size x) (sym (opened n)) (omega arith)

listed : (t : Table) (ps : List (Option TypedNode)) → list_of (all_seen t ps) ≡ map (option_map (seen t)) ps
listed t [] = refl
listed t (None ∷ ps) = ap (λ xs. None ∷ xs) (listed t ps)
listed t (Some p ∷ ps) = ap (λ xs. Some (seen t p) ∷ xs) (listed t ps)

pub listed_parts : (t : Table) (n : TypedNode) → map (option_map (seen t)) (out-TypedNode n).parts.items ≡ list_of (parts_of (seen t n))
listed_parts t n = sym (ap (λ x. list_of (parts_of x)) (seen_out t n) ∙ listed t (out-TypedNode n).parts.items)

-- a part is no larger than all of them
pub part_within : (ns : List (Option TypedNode)) (i : ℕ) (n : TypedNode) (d : Option TypedNode) → i < length ns → Some n ≡ get_or ns i d → size (view n) ≤ sizes (views ns)
part_within [] i n d lt e = absurd (omega (arith, lt))
part_within (None ∷ ns) zero n d lt e = cc
part_within (Some m ∷ ns) zero n d lt e = let same : m ≡ n = cc in subst (λ z. size (view z) ≤ size (view m) + sizes (views ns)) same (omega arith)
part_within (None ∷ ns) (suc i) n d lt e = part_within ns i n d (omega (arith, lt)) e
part_within (Some m ∷ ns) (suc i) n d lt e = let low = part_within ns i n d (omega (arith, lt)) e in omega (arith, low)

pub one_within : (ns : List (Option TypedNode)) (i : ℕ) (x d : Option TypedNode) → i < length ns → x ≡ get_or ns i d → sizes (views (x ∷ [])) ≤ sizes (views ns)
one_within ns i None d lt e = omega arith
one_within ns i (Some n) d lt e = let low = part_within ns i n d lt e in omega (arith, low)

-- what is known of the parts from one on
pub one_known : (k : ℕ) (ns : List (Option TypedNode)) (i : ℕ) (x d : Option TypedNode) → i < length ns → x ≡ get_or ns i d → AllKnown k (drop i ns) → AllKnown k (x ∷ []) × AllKnown k (drop (i + 1) ns)
one_known k ns i None d lt is h = (tt, subst (AllKnown k) (drop_step ns i None d lt is) h)
one_known k ns i (Some x) d lt is h = let g = subst (AllKnown k) (drop_step ns i (Some x) d lt is) h in ((g.0, tt), g.1)

-- the last of some parts
pub last_within : (ns : List (Option TypedNode)) (x : Option TypedNode) → sizes (views (x ∷ [])) ≤ sizes (views (ns ++ x ∷ []))
last_within [] x = omega arith
last_within (None ∷ ns) x = last_within ns x
last_within (Some n ∷ ns) x = let low = last_within ns x in omega (arith, low)

pub last_known : (k : ℕ) (ns : List (Option TypedNode)) (x : Option TypedNode) → AllKnown k (ns ++ x ∷ []) → AllKnown k (x ∷ [])
last_known k [] x h = h
last_known k (None ∷ ns) x h = last_known k ns x h
last_known k (Some n ∷ ns) x h = last_known k ns x h.1
