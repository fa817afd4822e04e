-- Comparability, by numbers.
use Rattle.std.proofs.Common.{◌≡◌, ℕ, ◌<◌, List, Some, None, map, length, refl, sym, ◌∙◌, ap, subst, true}
use Rattle.std.specs.Prelude.{slice_get}
use Rattle.go_types.specs.declared.shape.Field.{Field}
use Rattle.go_types.specs.declared.shape.Shape.{Shape}
use Rattle.go_types.specs.declared.shape.Shape.TheVariants as shape
use Rattle.go_types.specs.Trees.{row, is_named}
use Rattle.go_types.specs.Relations.{Comparable, booleans, texts, integers, arrays, structures}
use Rattle.go_types.specs.Tables.{Table, IsTable, HasShape, tree_of, type_of, rights_of}
use Rattle.go_types.specs.Changes.{declaration, Leads}
use Rattle.go_types.proofs.NumberedTypes.{type_of_shape}
use Rattle.go_types.proofs.Underlyings.{leads_undeclared, comparable_up, comparable_down, element_comparable, slices_not, functions_not, field_comparable, all_fields}

-- a, its underlying type u, and the shape of that
module _ (t : Table) (ok : IsTable t) (a u : ℕ) (s : Shape) (known : a < length t.shapes) (leads : Leads t a u) (shape_is : HasShape t u s) where
  abbrev IsComparable : ℕ → Type 0
  IsComparable i = Comparable (rights_of t) (type_of t.shapes i)

  type_is : type_of t.shapes u ≡ tree_of (type_of t.shapes) s
  type_is = type_of_shape t.shapes ok.parts_below u s shape_is

  up : Comparable (rights_of t) (tree_of (type_of t.shapes) s) → IsComparable a
  up c = comparable_up t ok a u leads (subst (Comparable (rights_of t)) (sym type_is) c)

  down : IsComparable a → Comparable (rights_of t) (tree_of (type_of t.shapes) s)
  down c = subst (Comparable (rights_of t)) type_is (comparable_down t ok a u leads c)

  -- ---- what makes it comparable

  pub array_up : (n e : ℕ) → s ≡ shape.Array n e → IsComparable e → IsComparable a
  array_up n e is c = up (subst (λ x. Comparable (rights_of t) (tree_of (type_of t.shapes) x)) (sym is) (arrays n (type_of t.shapes e) c))

  pub array_down : (n e : ℕ) → s ≡ shape.Array n e → IsComparable a → IsComparable e
  array_down n e is c = element_comparable (rights_of t) n (tree_of (type_of t.shapes) s) (type_of t.shapes e) (ap (tree_of (type_of t.shapes)) is) (down c)

  pub struct_up : (fs : List Field) → s ≡ shape.Struct fs → ((k : ℕ) (x : Field) → slice_get fs k ≡ Some x → IsComparable x.ty) → IsComparable a
  struct_up fs is c = up (subst (λ x. Comparable (rights_of t) (tree_of (type_of t.shapes) x)) (sym is) (structures (map (λ f. f.name) fs) (row (map (λ f. type_of t.shapes f.ty) fs)) (all_fields (rights_of t) (type_of t.shapes) fs c)))

  pub struct_down : (fs : List Field) (k : ℕ) (x : Field) → s ≡ shape.Struct fs → slice_get fs k ≡ Some x → IsComparable a → IsComparable x.ty
  struct_down fs k x is there c = field_comparable (rights_of t) (type_of t.shapes) fs k x (subst (λ y. Comparable (rights_of t) (tree_of (type_of t.shapes) y)) is (down c)) there

  undeclared : declaration (Some s) ≡ None
  undeclared = ap declaration (sym shape_is) ∙ leads_undeclared t a u leads

  pub plain_up : is_named (tree_of (type_of t.shapes) s) ≡ true → IsComparable a
  plain_up e = up (by s undeclared e)
    where
      by : (x : Shape) → declaration (Some x) ≡ None → is_named (tree_of (type_of t.shapes) x) ≡ true → Comparable (rights_of t) (tree_of (type_of t.shapes) x)
      by shape.Bool d e = booleans
      by shape.Text d e = texts
      by (shape.Int k) d e = integers k
      by (shape.Named n) d e = cc
      by (shape.Array _ _) d e = cc
      by (shape.Slice _) d e = cc
      by (shape.Struct _) d e = cc
      by (shape.Func _ _) d e = cc

  pub plain_down : ((n e : ℕ) → s ≡ shape.Array n e → ⊥) → ((fs : List Field) → s ≡ shape.Struct fs → ⊥) → IsComparable a → is_named (tree_of (type_of t.shapes) s) ≡ true
  plain_down no_array no_struct c = by s no_array no_struct (down c)
    where
      by : (x : Shape) → ((n e : ℕ) → x ≡ shape.Array n e → ⊥) → ((fs : List Field) → x ≡ shape.Struct fs → ⊥) → Comparable (rights_of t) (tree_of (type_of t.shapes) x) → is_named (tree_of (type_of t.shapes) x) ≡ true
      by shape.Bool f g c = refl
      by shape.Text f g c = refl
      by (shape.Int k) f g c = refl
      by (shape.Named n) f g c = refl
      by (shape.Array n e) f g c = absurd (f n e refl)
      by (shape.Struct fs) f g c = absurd (g fs refl)
      by (shape.Slice e) f g c = absurd (slices_not (rights_of t) (tree_of (type_of t.shapes) (shape.Slice e)) (type_of t.shapes e) refl c)
      by (shape.Func ps rs) f g c = absurd (functions_not (rights_of t) (tree_of (type_of t.shapes) (shape.Func ps rs)) (row (map (type_of t.shapes) ps)) (row (map (type_of t.shapes) rs)) refl c)
