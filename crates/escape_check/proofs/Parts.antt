-- The parts of a node, as loops go over them.
use Rattle.std.proofs.Common.{◌≡◌, ◌∙◌, ℕ, zero, suc, ◌+◌, ◌<◌, ◌≤◌, List, [], ◌∷◌, length, get_or, map, Option, Some, None, refl, ap, sym, subst, arith}
use Rattle.std.specs.Option.{option_map}
use Rattle.go_types.specs.Tables.{Table}
use Rattle.go_typed.specs.declared.node.TypedNode.{TypedNode}
use Rattle.go_typed.specs.declared.node.TypedNode.TheViews.{out-TypedNode}
use Rattle.go_typed.specs.Funcs.{size, sizes}
use Rattle.go_typed.specs.Trees.{list_of, parts_of}
use Rattle.go_typed.specs.Views.{view, views, seen, all_seen}
use Rattle.go_exprs_rules.proofs.Public.{seen_out}

listed : (t : Table) (ps : List (Option TypedNode)) → list_of (all_seen t ps) ≡ map (option_map (seen t)) ps
listed t [] = refl
listed t (None ∷ ps) = ap (λ xs. None ∷ xs) (listed t ps)
listed t (Some p ∷ ps) = ap (λ xs. Some (seen t p) ∷ xs) (listed t ps)

pub listed_parts : (t : Table) (n : TypedNode) → map (option_map (seen t)) (out-TypedNode n).parts.items ≡ list_of (parts_of (seen t n))
listed_parts t n = sym (ap (λ x. list_of (parts_of x)) (seen_out t n) ∙ listed t (out-TypedNode n).parts.items)

-- a part is no larger than all of them
pub part_within : (ns : List (Option TypedNode)) (i : ℕ) (n : TypedNode) (d : Option TypedNode) → i < length ns → Some n ≡ get_or ns i d → size (view n) ≤ sizes (views ns)
part_within [] i n d lt e = absurd (omega (arith, lt))
part_within (None ∷ ns) zero n d lt e = cc
part_within (Some m ∷ ns) zero n d lt e = let same : m ≡ n = cc in subst (λ z. size (view z) ≤ size (view m) + sizes (views ns)) same (omega arith)
part_within (None ∷ ns) (suc i) n d lt e = part_within ns i n d (omega (arith, lt)) e
part_within (Some m ∷ ns) (suc i) n d lt e = let low = part_within ns i n d (omega (arith, lt)) e in omega (arith, low)

pub one_within : (ns : List (Option TypedNode)) (i : ℕ) (x d : Option TypedNode) → i < length ns → x ≡ get_or ns i d → sizes (views (x ∷ [])) ≤ sizes (views ns)
one_within ns i None d lt e = omega arith
one_within ns i (Some n) d lt e = let low = part_within ns i n d lt e in omega (arith, low)
