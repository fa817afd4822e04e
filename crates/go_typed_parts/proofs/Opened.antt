-- What is tested of a typed node, by its fields.
use Rattle.std.proofs.Common.{rules, ◌≡◌, ℕ, zero, suc, ◌+◌, ◌*◌, ◌<◌, ◌≤◌, List, [], ◌∷◌, Option, Some, None, slice_get, subst, sym, refl, ap, arith}
use Rattle.std.specs.Prelude.{Bool, ◌&&◌, ◌||◌, not}
use Rattle.go_typed.specs.declared.node.TypedNode.{TypedNode}
use Rattle.go_typed.specs.declared.node.TypedNode.TheViews.{out-TypedNode}
use Rattle.go_typed.specs.declared.node.TypedNode.TheFolds.{fold_out-TypedNode}
use Rattle.go_typed.specs.Forms.{is_holder, is_statement_list, local_of}
use Rattle.go_typed.specs.Funcs.{is_tiled, are_tiled, is_full, is_whole, are_whole, is_named_so, named_at, size, sizes}
use Rattle.go_typed.specs.declared.form.Form.{Form}
use Rattle.go_typed.specs.Trees.{Typed, typed, form_of, first_of, last_of, sort_has, every, every_part, every_form, forms_among}
use Rattle.go_typed.specs.Views.{view, views, label_at, sort_view}

opened : (n : TypedNode) → view n ≡ typed (out-TypedNode n).form (out-TypedNode n).first (out-TypedNode n).last (label_at (out-TypedNode n)) (views (out-TypedNode n).parts.items)
opened n = search (rules, fold_out-TypedNode)

pub tiled_opened : (n : TypedNode) → is_tiled (view n) ≡ are_tiled (out-TypedNode n).first (out-TypedNode n).last (views (out-TypedNode n).parts.items)
tiled_opened n = let P : Typed ℕ → Type 0 = λ x. is_tiled x ≡ are_tiled (out-TypedNode n).first (out-TypedNode n).last (views (out-TypedNode n).parts.items) in subst P (sym (opened n)) refl

-- by fields
abbrev pub whole_by : List (Option ℕ) → TypedNode → Bool
whole_by tokens n = not (is_holder (out-TypedNode n).form) && is_named_so (named_at tokens (out-TypedNode n).first) (local_of (out-TypedNode n).form) && (not (is_statement_list (out-TypedNode n).form) || is_full (views (out-TypedNode n).parts.items)) && are_whole tokens (views (out-TypedNode n).parts.items)

pub whole_opened : (tokens : List (Option ℕ)) (n : TypedNode) → is_whole tokens (view n) ≡ whole_by tokens n
whole_opened tokens n = let P : Typed ℕ → Type 0 = λ x. is_whole tokens x ≡ whole_by tokens n in subst P (sym (opened n)) refl

pub form_opened : (n : TypedNode) → form_of (view n) ≡ (out-TypedNode n).form
form_opened n = let P : Typed ℕ → Type 0 = λ x. form_of x ≡ (out-TypedNode n).form in subst P (sym (opened n)) refl

pub first_opened : (n : TypedNode) → first_of (view n) ≡ (out-TypedNode n).first
first_opened n = let P : Typed ℕ → Type 0 = λ x. first_of x ≡ (out-TypedNode n).first in subst P (sym (opened n)) refl

pub last_opened : (n : TypedNode) → last_of (view n) ≡ (out-TypedNode n).last
last_opened n = let P : Typed ℕ → Type 0 = λ x. last_of x ≡ (out-TypedNode n).last in subst P (sym (opened n)) refl

-- ---- sizes

pub size_opened : (n : TypedNode) → 2 * sizes (views (out-TypedNode n).parts.items) + 1 < 2 * size (view n)
size_opened n = let e : size (view n) ≡ suc (sizes (views (out-TypedNode n).parts.items)) = let P : Typed ℕ → Type 0 = λ x. size x ≡ suc (sizes (views (out-TypedNode n).parts.items)) in subst P (sym (opened n)) refl in omega (arith, e)

pub size_part : (parts : List (Option TypedNode)) (i : ℕ) (part : TypedNode) → slice_get parts i ≡ Some (Some part) → size (view part) ≤ sizes (views parts)
size_part [] i part h = cc
size_part (None ∷ ps) zero part h = cc
size_part (Some p ∷ ps) zero part h =
    let e : size (view p) ≡ size (view part) = ap (λ n. size (view n)) (let same : p ≡ part = cc in same) in omega arith
size_part (None ∷ ps) (suc i) part h = size_part ps i part h
size_part (Some p ∷ ps) (suc i) part h = let k : size (view part) ≤ sizes (views ps) = size_part ps i part h in omega arith

-- ---- types and objects

pub every_opened : (p : ℕ → Bool) (n : TypedNode) → every p (view n) ≡ (sort_has p (sort_view (out-TypedNode n).sort) && every_part p (views (out-TypedNode n).parts.items))
every_opened p n = let P : Typed ℕ → Type 0 = λ x. every p x ≡ (sort_has p (sort_view (out-TypedNode n).sort) && every_part p (views (out-TypedNode n).parts.items)) in subst P (sym (opened n)) refl

pub forms_opened : (p : Form → Bool) (n : TypedNode) → every_form p (view n) ≡ (p (out-TypedNode n).form && forms_among p (views (out-TypedNode n).parts.items))
forms_opened p n = let P : Typed ℕ → Type 0 = λ x. every_form p x ≡ (p (out-TypedNode n).form && forms_among p (views (out-TypedNode n).parts.items)) in subst P (sym (opened n)) refl
