-- The types of parameters and results, from the last one to the first.
use Rattle.std.proofs.Common.{◌≡◌, ℕ, zero, suc, ◌+◌, ◌<◌, List, [], ◌∷◌, ◌++◌, length, map, drop, Option, Some, None, refl, ap, sym, ◌∙◌, subst, arith, get_or, drop-cons}
use Rattle.std.specs.Prelude.{reverse}
use Rattle.std.specs.Option.{option_map}
use Rattle.std.proofs.lemmas.List.{reverse-append}
use Rattle.go_types.specs.Trees.{TypeTree}
use Rattle.go_types.specs.Tables.{Table}
use Rattle.go_typed.specs.declared.node.TypedNode.{TypedNode}
use Rattle.go_typed.specs.declared.node.TypedNode.TheViews.{out-TypedNode}
use Rattle.go_typed.specs.Trees.{list_of, parts_of}
use Rattle.go_typed.specs.Views.{seen, all_seen, Known, AllKnown}
use Rattle.go_exprs_rules.specs.Settling.{Part}
use Rattle.go_exprs_rules.specs.TypeNodes.{entry_of, entry_types, first_entry, with_front, all_types}
use Rattle.go_exprs_rules.proofs.Public.{seen_out}

-- ---- parts

-- the parts as definitions see them
abbrev pub parts_seen : Table → List (Option TypedNode) → List (Option Part)
parts_seen t ps = map (option_map (seen t)) ps

listed : (t : Table) (ps : List (Option TypedNode)) → list_of (all_seen t ps) ≡ parts_seen t ps
listed t [] = refl
listed t (None ∷ ps) = ap (λ xs. None ∷ xs) (listed t ps)
listed t (Some p ∷ ps) = ap (λ xs. Some (seen t p) ∷ xs) (listed t ps)

pub listed_parts : (t : Table) (n : TypedNode) → parts_seen t (out-TypedNode n).parts.items ≡ list_of (parts_of (seen t n))
listed_parts t n = sym (ap (λ x. list_of (parts_of x)) (seen_out t n) ∙ listed t (out-TypedNode n).parts.items)

pub part_known : (k : ℕ) (ps : List (Option TypedNode)) (i : ℕ) (p : TypedNode) (d : Option TypedNode) → i < length ps → Some p ≡ get_or ps i d → AllKnown k ps → Known k p
part_known k [] i p d lt e h = absurd (omega (arith, lt))
part_known k (None ∷ ps) zero p d lt e h = cc
part_known k (Some q ∷ ps) zero p d lt e h = let is : q ≡ p = cc in subst (Known k) is h.0
part_known k (None ∷ ps) (suc i) p d lt e h = let l : i < length ps = omega (arith, lt) in part_known k ps i p d l e h
part_known k (Some q ∷ ps) (suc i) p d lt e h = let l : i < length ps = omega (arith, lt) in part_known k ps i p d l e h.1

-- ---- entries from the part of a number on

abbrev pub entries_from : Table → ℕ → List (Option TypedNode) → List (Option TypeTree)
entries_from t i ps = entry_types (parts_seen t (drop i ps))

pub from_here : (t : Table) (ps : List (Option TypedNode)) (i j : ℕ) (x d : Option TypedNode) → j + 1 ≡ i → j < length ps → x ≡ get_or ps j d → drop j ps ≡ x ∷ drop i ps
from_here t ps i j x d e lt is = let next : suc j ≡ i = omega (arith, e) in drop-cons ps j d lt ∙ ap (λ y. y ∷ drop (suc j) ps) (sym is) ∙ ap (λ n. x ∷ drop n ps) next

pub with_entry : (t : Table) (ps : List (Option TypedNode)) (i j : ℕ) (p : TypedNode) (d : Option TypedNode) → j + 1 ≡ i → j < length ps → Some p ≡ get_or ps j d
    → entries_from t j ps ≡ entry_of (seen t p) (first_entry (entries_from t i ps)) ∷ entries_from t i ps
with_entry t ps i j p d e lt is = ap (λ xs. entry_types (parts_seen t xs)) (from_here t ps i j (Some p) d e lt is)

pub none_behind : (ts : List (Option TypeTree)) (t : Option TypeTree) → all_types ts ≡ None → all_types (t ∷ ts) ≡ None
none_behind ts None e = refl
none_behind ts (Some t) e = ap (with_front (Some t)) e

-- where one of the later entries has no type, not all have one
pub none_from : (t : Table) (ps : List (Option TypedNode)) (i : ℕ) → all_types (entries_from t i ps) ≡ None → all_types (entry_types (parts_seen t ps)) ≡ None
none_from t ps zero e = e
none_from t [] (suc i) e = e
none_from t (None ∷ ps) (suc i) e = none_from t ps i e
none_from t (Some p ∷ ps) (suc i) e = none_behind (entry_types (parts_seen t ps)) (entry_of (seen t p) (first_entry (entry_types (parts_seen t ps)))) (none_from t ps i e)

pub none_first : (ts : List (Option TypeTree)) (es : List (Option TypeTree)) (o : Option TypeTree) → es ≡ o ∷ ts → o ≡ None → all_types es ≡ None
none_first ts es o e n = ap all_types e ∙ ap (λ x. with_front x (all_types ts)) n

pub pushed : {X : Type 0} (xs : List X) (x : X) → reverse (xs ++ x ∷ []) ≡ x ∷ reverse xs
pushed xs x = reverse-append xs (x ∷ [])

-- one more type in front
pub one_more : (f : ℕ → TypeTree) (ids now : List ℕ) (n : ℕ) (ts es : List (Option TypeTree)) (o : Option TypeTree) → es ≡ o ∷ ts → Some (f n) ≡ o → all_types ts ≡ Some (map f (reverse ids)) → now ≡ ids ++ n ∷ [] → all_types es ≡ Some (map f (reverse now))
one_more f ids now n ts es o e is all grown =
    ap all_types e ∙ ap (λ x. with_front x (all_types ts)) (sym is) ∙ ap (with_front (Some (f n))) all ∙ ap (λ xs. Some (map f xs)) (sym (ap reverse grown ∙ pushed ids n))

pub first_is : (ts es : List (Option TypeTree)) (o : Option TypeTree) → es ≡ o ∷ ts → first_entry es ≡ o
first_is ts es o e = ap first_entry e
