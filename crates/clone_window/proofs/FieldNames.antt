-- Names of fields of nodes of the program.
use Rattle.std.proofs.Common.{◌≡◌, ◌∙◌, ℕ, ◌≤◌, Bool, true, [], length, refl, ap}
use Rattle.std.specs.Prelude.{◌&&◌, ◌||◌, nat_eq}
use Rattle.std.proofs.lemmas.Bool.{eqb-true}
use Rattle.std.proofs.lemmas.Option.{slice_get_past}
use Rattle.go_types.specs.Tables.{Table, type_of, type_below, tree_at, rights_of}
use Rattle.go_types_relations.specs.Tests.{underlying_of}
use Rattle.go_typed.specs.declared.node.TypedNode.{TypedNode, out-TypedNode}
use Rattle.go_typed.specs.Trees.{Sort}
use Rattle.go_typed.specs.Views.{label_at, sort_view, view, views}
use Rattle.clone_window.specs.Kinds.{outline}
use Rattle.clone_window.specs.Masses.{is_hole, is_inside}
use Rattle.clone_window.specs.Sameness.{Final, of_type, of_kind, of_none, same_final}
use Rattle.clone_window.proofs.Opened.{opened, view_out}
use Rattle.clone_window.specs.Fields.{FieldNames, names_field, field_in, field_of, field_name, field_text, same_field, fields_agree, all_fields_agree}

-- a type that is not in the table has no fields
pub past-all : (types : Table) (t k : ℕ) → length types.shapes ≤ t → field_text types t k ≡ []
unfolding type_of type_below
past-all types t k h = ap (λ s. field_in (underlying_of (rights_of types) (tree_at (type_below t types.shapes) s)) k) (slice_get_past types.shapes t h)

-- fields of one place of types that are the same have one name
pub one-name : (names : FieldNames ℕ) (x y : Final ℕ) (k : ℕ) → same_final nat_eq x y ≡ true → field_of names x k ≡ field_of names y k
one-name names (of_type t) (of_type u) k h = ap (λ v. names v k) (eqb-true t u h)
one-name names (of_type t) (of_kind b) k h = cc
one-name names (of_type t) of_none k h = cc
one-name names (of_kind a) (of_type u) k h = cc
one-name names (of_kind a) (of_kind b) k h = refl
one-name names (of_kind a) of_none k h = cc
one-name names of_none (of_type u) k h = cc
one-name names of_none (of_kind b) k h = cc
one-name names of_none of_none k h = refl

-- ---- nodes

-- what two nodes name themselves
abbrev pub own : FieldNames ℕ → Sort ℕ → Sort ℕ → TypedNode → TypedNode → Bool
own n s t x y =
    let o = outline (out-TypedNode x).form in
    same_field (names_field o) (field_name n s o (views (out-TypedNode x).parts.items)) (field_name n t (outline (out-TypedNode y).form) (views (out-TypedNode y).parts.items))

-- what their parts name
abbrev pub inner : FieldNames ℕ → Bool → Bool → TypedNode → TypedNode → Bool
inner n a b x y = all_fields_agree n n a b (sort_view (out-TypedNode x).sort) (sort_view (out-TypedNode y).sort) (views (out-TypedNode x).parts.items) (views (out-TypedNode y).parts.items)

abbrev pub hole : Bool → TypedNode → Bool
hole a x = is_hole a (out-TypedNode x).form (label_at (out-TypedNode x))

abbrev pub within : Bool → TypedNode → Bool
within a x = is_inside a (out-TypedNode x).form (label_at (out-TypedNode x))

pub opened-fields : (n : FieldNames ℕ) (a b : Bool) (s t : Sort ℕ) (x y : TypedNode) →
    fields_agree n n a b s t (view x) (view y) ≡ (hole a x || (own n s t x y && inner n (within a x) (within b y) x y))
opened-fields n a b s t x y = ap (λ v. fields_agree n n a b s t v (view y)) (view_out x) ∙ ap (fields_agree n n a b s t (opened x)) (view_out y)
