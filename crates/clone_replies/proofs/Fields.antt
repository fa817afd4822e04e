-- Fields have the same names over other words for types, where the fields of types have.
use Rattle.std.proofs.Common.{◌≡◌, ◌∙◌, ℕ, Bool, true, false, List, Option, Some, None, ap, refl}
use Rattle.std.specs.Prelude.{◌&&◌, ◌||◌, nat_eq, if◌then◌else◌}
use Rattle.std.specs.Option.{option_map}
use Rattle.go_types.specs.Relations.{Rights}
use Rattle.go_types.specs.Trees.{TypeTree, boolean, text, integer, array, slice, structure, function, declared}
use Rattle.go_types_relations.specs.Renaming.{renamed, AreRenamed}
use Rattle.go_types_relations.specs.Tests.{underlying_of}
use Rattle.go_typed.specs.Trees.{Sort, Nothing, Unknown, Blank, Nil, Builtin, Println, Package, IsType, Value, Constant, Open, OpenConstant, Results}
use Rattle.go_typed.specs.Trees.{Typed, typed, Typeds, none, more, skip, sort_of, sort_mapped, label_mapped, mapped, all_mapped}
use Rattle.clone_window.specs.declared.outline.Outline.{Outline}
use Rattle.clone_window.specs.Kinds.{outline}
use Rattle.clone_window.specs.Masses.{is_hole, is_inside}
use Rattle.clone_window.specs.Sameness.{Final, of_type, of_kind, of_none, final}
use Rattle.clone_window.specs.Fields.{FieldNames, field_by, field_in, operand, names_field, field_of, owner_of, field_name, same_field, fields_agree, all_fields_agree}
use Rattle.clone_replies.proofs.Mapped.{hole-mapped, inside-mapped}

-- ---- what sorts show

module _ {T U : Type 0} (g : T → U) where
  abbrev pub final_mapped : Final T → Final U
  final_mapped (of_type t) = of_type (g t)
  final_mapped (of_kind k) = of_kind k
  final_mapped of_none = of_none

  pub final-mapped : (s : Sort T) → final (sort_mapped g s) ≡ final_mapped (final s)
  final-mapped Nothing = refl
  final-mapped Unknown = refl
  final-mapped Blank = refl
  final-mapped Nil = refl
  final-mapped (Builtin b) = refl
  final-mapped Println = refl
  final-mapped Package = refl
  final-mapped (IsType t) = refl
  final-mapped (Value t) = refl
  final-mapped (Constant t c) = refl
  final-mapped (Open u) = refl
  final-mapped (OpenConstant c) = refl
  final-mapped (Results t) = refl

-- ---- fields

-- The second has the fields of types as the first has them.
abbrev pub SameFields : {T U : Type 0} → (T → U) → FieldNames T → FieldNames U → Type 0
SameFields {T} g n m = (t : T) (k : ℕ) → m (g t) k ≡ n t k

module _ {T U : Type 0} (g : T → U) (n : FieldNames T) (m : FieldNames U) (same : SameFields g n m) where
  final-field : (x : Final T) (k : ℕ) → field_of m (final_mapped g x) k ≡ field_of n x k
  final-field (of_type t) k = same t k
  final-field (of_kind j) k = refl
  final-field of_none k = refl

  sort-field : (s : Sort T) (k : ℕ) → field_of m (final (sort_mapped g s)) k ≡ field_of n (final s) k
  sort-field s k = ap (λ x. field_of m x k) (final-mapped g s) ∙ final-field (final s) k

  part-sort : (p : Typed T) → sort_of (mapped g p) ≡ sort_mapped g (sort_of p)
  part-sort (typed f i j l ps) = refl

  operands : (ps : Typeds T) → operand (all_mapped g ps) ≡ sort_mapped g (operand ps)
  operands none = refl
  operands (more p ps) = part-sort p
  operands (skip ps) = refl

  owners : (b : Bool) (owner : Sort T) (ps : Typeds T) → (if b then operand (all_mapped g ps) else sort_mapped g owner) ≡ sort_mapped g (if b then operand ps else owner)
  owners true owner ps = operands ps
  owners false owner ps = refl

  pub field-name : (owner : Sort T) (o : Outline) (ps : Typeds T) → field_name m (sort_mapped g owner) o (all_mapped g ps) ≡ field_name n owner o ps
  field-name owner o ps = ap (λ s. field_of m (final s) o.count) (owners (nat_eq o.kind 36) owner ps) ∙ sort-field (owner_of owner o ps) o.count

  -- what two nodes name, where the first may be a hole
  abbrev at-nodes : Bool → Bool → List ℕ → List ℕ → Bool → Bool
  at-nodes hole names x y rest = hole || (same_field names x y && rest)

  mutual
    tree-fields : (a b : Bool) (s t : Sort T) (p q : Typed T) → fields_agree m m a b (sort_mapped g s) (sort_mapped g t) (mapped g p) (mapped g q) ≡ fields_agree n n a b s t p q
    tree-fields a b s t (typed f i j l ps) (typed h k r v qs) =
        let o = outline f in
        let x' = field_name m (sort_mapped g s) o (all_mapped g ps) in
        let y' = field_name m (sort_mapped g t) (outline h) (all_mapped g qs) in
        let x = field_name n s o ps in
        let y = field_name n t (outline h) qs in
        let rest : Bool → Bool → Bool = λ c d. all_fields_agree m m c d (sort_mapped g l.sort) (sort_mapped g v.sort) (all_mapped g ps) (all_mapped g qs) in
        ap (λ c. at-nodes c (names_field o) x' y' (rest (is_inside a f (label_mapped g l)) (is_inside b h (label_mapped g v)))) (hole-mapped g a f l)
        ∙ ap (λ c. at-nodes (is_hole a f l) (names_field o) x' y' (rest c (is_inside b h (label_mapped g v)))) (inside-mapped g a f l)
        ∙ ap (λ c. at-nodes (is_hole a f l) (names_field o) x' y' (rest (is_inside a f l) c)) (inside-mapped g b h v)
        ∙ ap (λ z. at-nodes (is_hole a f l) (names_field o) z y' (rest (is_inside a f l) (is_inside b h v))) (field-name s o ps)
        ∙ ap (λ z. at-nodes (is_hole a f l) (names_field o) x z (rest (is_inside a f l) (is_inside b h v))) (field-name t (outline h) qs)
        ∙ ap (at-nodes (is_hole a f l) (names_field o) x y) (all-fields (is_inside a f l) (is_inside b h v) l.sort v.sort ps qs)

    pub all-fields : (a b : Bool) (s t : Sort T) (ps qs : Typeds T) →
        all_fields_agree m m a b (sort_mapped g s) (sort_mapped g t) (all_mapped g ps) (all_mapped g qs) ≡ all_fields_agree n n a b s t ps qs
    all-fields a b s t none qs = refl
    all-fields a b s t (more p ps) none = refl
    all-fields a b s t (more p ps) (more q qs) =
        ap (λ c. c && all_fields_agree m m a b (sort_mapped g s) (sort_mapped g t) (all_mapped g ps) (all_mapped g qs)) (tree-fields a b s t p q)
        ∙ ap (λ c. fields_agree n n a b s t p q && c) (all-fields a b s t ps qs)
    all-fields a b s t (more p ps) (skip qs) = refl
    all-fields a b s t (skip ps) none = refl
    all-fields a b s t (skip ps) (more q qs) = refl
    all-fields a b s t (skip ps) (skip qs) = all-fields a b s t ps qs

-- ---- other numbers of declared types

-- what is known of underlying types under other numbers
abbrev pub UnderlyingRenamed : Type 0
UnderlyingRenamed = (name : ℕ → ℕ) (old new : Rights) (t : TypeTree) → AreRenamed name old new → underlying_of new (renamed name t) ≡ option_map (renamed name) (underlying_of old t)

field-renamed : (name : ℕ → ℕ) (t : Option TypeTree) (k : ℕ) → field_in (option_map (renamed name) t) k ≡ field_in t k
field-renamed name None k = refl
field-renamed name (Some boolean) k = refl
field-renamed name (Some text) k = refl
field-renamed name (Some (integer i)) k = refl
field-renamed name (Some (array n t)) k = refl
field-renamed name (Some (slice t)) k = refl
field-renamed name (Some (structure ns ts)) k = refl
field-renamed name (Some (function ps rs)) k = refl
field-renamed name (Some (declared n)) k = refl

-- a type has fields of the same names under other numbers of declared types
pub fields-renamed : UnderlyingRenamed → (name : ℕ → ℕ) (old new : Rights) → AreRenamed name old new → SameFields (renamed name) (field_by old) (field_by new)
fields-renamed law name old new h t k = ap (λ u. field_in u k) (law name old new t h) ∙ field-renamed name (underlying_of old t) k
