-- The fields of struct types.
use Rattle.std.proofs.Common.{◌≡◌, ℕ, zero, suc, ◌<◌, List, [], ◌∷◌, length, map, Option, Some, None, refl, ap, sym, ◌∙◌, arith}
use Rattle.std.specs.Prelude.{slice_get}
use Rattle.std.specs.List.{AllByRecursion}
use Rattle.go_types.specs.declared.shape.Field.{Field}
use Rattle.go_types.specs.Trees.{TypeTree, boolean, text, integer, array, slice, structure, function, declared, row}
use Rattle.go_types.specs.Tables.{Table, type_of}
use Rattle.go_exprs_rules.specs.Indexes.{place_from, type_at, field_number, numbered_type, named_field}
use Rattle.go_exprs_rules.specs.Calls.{row_length}
use Rattle.go_exprs_rules.specs.Tables.{field_count}
use Rattle.go_exprs_types.specs.Structs.{struct_of, struct_seen}

-- what is asked of fields, a struct type alone has
pub number_of_struct : (u : Option TypeTree) (name : List ℕ) → field_number u name ≡ field_number (struct_of u) name
number_of_struct None name = refl
number_of_struct (Some boolean) name = refl
number_of_struct (Some text) name = refl
number_of_struct (Some (integer k)) name = refl
number_of_struct (Some (array n t)) name = refl
number_of_struct (Some (slice t)) name = refl
number_of_struct (Some (structure ns ts)) name = refl
number_of_struct (Some (function ps rs)) name = refl
number_of_struct (Some (declared n)) name = refl

pub named_of_struct : (u : Option TypeTree) (name : List ℕ) → named_field u name ≡ named_field (struct_of u) name
named_of_struct None name = refl
named_of_struct (Some boolean) name = refl
named_of_struct (Some text) name = refl
named_of_struct (Some (integer k)) name = refl
named_of_struct (Some (array n t)) name = refl
named_of_struct (Some (slice t)) name = refl
named_of_struct (Some (structure ns ts)) name = refl
named_of_struct (Some (function ps rs)) name = refl
named_of_struct (Some (declared n)) name = refl

pub count_of_struct : (u : Option TypeTree) → field_count u ≡ field_count (struct_of u)
count_of_struct None = refl
count_of_struct (Some boolean) = refl
count_of_struct (Some text) = refl
count_of_struct (Some (integer k)) = refl
count_of_struct (Some (array n t)) = refl
count_of_struct (Some (slice t)) = refl
count_of_struct (Some (structure ns ts)) = refl
count_of_struct (Some (function ps rs)) = refl
count_of_struct (Some (declared n)) = refl

pub type_at_row : (type_of : ℕ → TypeTree) (fs : List Field) (n : ℕ) (f : Field) → slice_get fs n ≡ Some f → type_at (row (map (λ (g : Field). type_of g.ty) fs)) n ≡ Some (type_of f.ty)
type_at_row type_of [] n f e = cc
type_at_row type_of (x ∷ fs) zero f e = let is : x ≡ f = cc in ap (λ (g : Field). Some (type_of g.ty)) is
type_at_row type_of (x ∷ fs) (suc n) f e = type_at_row type_of fs n f e

pub length_of_row : (type_of : ℕ → TypeTree) (fs : List Field) → row_length (row (map (λ (g : Field). type_of g.ty) fs)) ≡ length fs
length_of_row type_of [] = refl
length_of_row type_of (x ∷ fs) = let rest = length_of_row type_of fs in omega arith

pub below_at : (k : ℕ) (fs : List Field) (n : ℕ) (f : Field) → AllByRecursion (λ p. p < k) (map (λ (g : Field). g.ty) fs) → slice_get fs n ≡ Some f → f.ty < k
below_at k [] n f h e = cc
below_at k (x ∷ fs) zero f h e = let is : x ≡ f = cc in let named : x.ty ≡ f.ty = ap (λ (g : Field). g.ty) is in let first = h.0 in omega arith
below_at k (x ∷ fs) (suc n) f h e = below_at k fs n f h.1 e

module _ (t : Table) (u : Option TypeTree) (fs : List Field) (is : Some (struct_seen t fs) ≡ struct_of u) where
  pub count_is : field_count u ≡ length fs
  count_is = count_of_struct u ∙ ap field_count (sym is) ∙ length_of_row (type_of t.shapes) fs

  pub number_is : (name : List ℕ) → field_number u name ≡ place_from 0 (map (λ (g : Field). g.name) fs) name
  number_is name = number_of_struct u name ∙ ap (λ o. field_number o name) (sym is)

  pub named_is : (name : List ℕ) (n : ℕ) (f : Field) → place_from 0 (map (λ (g : Field). g.name) fs) name ≡ Some n → slice_get fs n ≡ Some f → named_field u name ≡ Some (type_of t.shapes f.ty)
  named_is name n f e there =
      named_of_struct u name ∙ ap (λ o. named_field o name) (sym is)
      ∙ ap (λ o. numbered_type (Some (struct_seen t fs)) o) e ∙ type_at_row (type_of t.shapes) fs n f there
