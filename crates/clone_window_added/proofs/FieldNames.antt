-- Fields at corresponding places have the same names in reworded trees.
use Rattle.std.proofs.Common.{◌≡◌, ◌∙◌, ℕ, inl, inr, ◌⊎◌, Bool, true, false, List, [], ◌∷◌, ap, refl, sym}
use Rattle.std.specs.Prelude.{◌&&◌, ◌||◌, nat_eq, if◌then◌else◌}
use Rattle.std.specs.List.{list_any}
use Rattle.go_typed.specs.declared.form.Form.{Form}
use Rattle.go_typed.specs.declared.form.Form.TheVariants as form
use Rattle.go_typed.specs.declared.form.Referent.{Referent}
use Rattle.go_typed.specs.Trees.{Sort, Nothing, Unknown, Blank, Nil, Builtin, Println, Package, IsType, Value, Constant, Open, OpenConstant, Results}
use Rattle.go_typed.specs.Trees.{Typed, typed, Typeds, none, more, skip, sort_of, sort_mapped, label_mapped}
use Rattle.clone_window.specs.declared.outline.Outline.{Outline}
use Rattle.clone_window.specs.Kinds.{outline}
use Rattle.clone_window.specs.Masses.{is_hole, is_inside}
use Rattle.clone_window.specs.Sameness.{Final, of_type, of_kind, of_none, final, same_outline, compared, agree_besides, agree_at, agree, all_agree}
use Rattle.clone_window.specs.Fields.{FieldNames, operand, names_field, field_of, owner_of, field_name, same_field, fields_agree, all_fields_agree}
use Rattle.clone_window_added.specs.Reworded.{form_reworded, reworded, all_reworded}
use Rattle.clone_window_added.proofs.Reworded.{IsOther, either_form, hole_kept, inside_kept, kind_kept, referent_kind}

never : {A : Type 0} → false ≡ true → A
never e = cc

pub and_front : (a b : Bool) → (a && b) ≡ true → a ≡ true
and_front true b e = refl
and_front false b e = e

pub and_behind : (a b : Bool) → (a && b) ≡ true → b ≡ true
and_behind true b e = e
and_behind false b e = never e

-- what two nodes name, and their parts, where the first isn't a hole
either : (hole old new rest parts : Bool) → (hole ≡ false → new ≡ old) → (hole ≡ false → rest ≡ parts) → (hole || (new && rest)) ≡ (hole || (old && parts))
either true old new rest parts f h = refl
either false old new rest parts f h = ap (λ c. c && rest) (f refl) ∙ ap (λ c. old && c) (h refl)

-- ---- what sorts show

module _ {T U : Type 0} (g : T → U) where
  abbrev pub final_mapped : Final T → Final U
  final_mapped (of_type t) = of_type (g t)
  final_mapped (of_kind k) = of_kind k
  final_mapped of_none = of_none

  pub final_kept : (s : Sort T) → final (sort_mapped g s) ≡ final_mapped (final s)
  final_kept Nothing = refl
  final_kept Unknown = refl
  final_kept Blank = refl
  final_kept Nil = refl
  final_kept (Builtin b) = refl
  final_kept Println = refl
  final_kept Package = refl
  final_kept (IsType t) = refl
  final_kept (Value t) = refl
  final_kept (Constant t c) = refl
  final_kept (Open u) = refl
  final_kept (OpenConstant c) = refl
  final_kept (Results t) = refl

-- ---- fields

module _ {T U : Type 0} (g : T → U) (r : Referent → Referent) (n : FieldNames T) (m : FieldNames U) (same : (t : T) (k : ℕ) → m (g t) k ≡ n t k) where
  abbrev all_to : Typeds T → Typeds U
  all_to ps = all_reworded g r ps

  final_field : (x : Final T) (k : ℕ) → field_of m (final_mapped g x) k ≡ field_of n x k
  final_field (of_type t) k = same t k
  final_field (of_kind j) k = refl
  final_field of_none k = refl

  sort_field : (s : Sort T) (k : ℕ) → field_of m (final (sort_mapped g s)) k ≡ field_of n (final s) k
  sort_field s k = ap (λ x. field_of m x k) (final_kept g s) ∙ final_field (final s) k

  part_sort : (p : Typed T) → sort_of (reworded g r p) ≡ sort_mapped g (sort_of p)
  part_sort (typed f i j l ps) = refl

  operands : (ps : Typeds T) → operand (all_to ps) ≡ sort_mapped g (operand ps)
  operands none = refl
  operands (more p ps) = part_sort p
  operands (skip ps) = refl

  owners : (b : Bool) (owner : Sort T) (ps : Typeds T) → (if b then operand (all_to ps) else sort_mapped g owner) ≡ sort_mapped g (if b then operand ps else owner)
  owners true owner ps = operands ps
  owners false owner ps = refl

  named : (owner : Sort T) (o : Outline) (ps : Typeds T) → field_name m (sort_mapped g owner) o (all_to ps) ≡ field_name n owner o ps
  named owner o ps = ap (λ s. field_of m (final s) o.count) (owners (nat_eq o.kind 36) owner ps) ∙ sort_field (owner_of owner o ps) o.count

  names_kept : (f : Form) → names_field (outline (form_reworded r f)) ≡ names_field (outline f)
  names_kept f = ap (λ k. list_any (nat_eq k) (36 ∷ 51 ∷ [])) (kind_kept r f)

  -- whether two nodes name fields of one name, if the first names one
  abbrev one_name : {V : Type 0} → FieldNames V → Form → Form → Sort V → Sort V → Typeds V → Typeds V → Bool
  one_name names f h s t ps qs = same_field (names_field (outline f)) (field_name names s (outline f) ps) (field_name names t (outline h) qs)

  object_names : (f : Form) (o : Referent) (x y : List ℕ) → f ≡ form.Object o → same_field (names_field (outline f)) x y ≡ true
  object_names f o x y e =
      ap (λ z. same_field (names_field (outline z)) x y) e
      ∙ ap (λ k. same_field (list_any (nat_eq k) (36 ∷ 51 ∷ [])) x y) (referent_kind o)

  nodes_name : (f h : Form) (s t : Sort T) (ps qs : Typeds T) → same_outline (outline f) (outline h) ≡ true
      → one_name m (form_reworded r f) (form_reworded r h) (sort_mapped g s) (sort_mapped g t) (all_to ps) (all_to qs) ≡ one_name n f h s t ps qs
  nodes_name f h s t ps qs e = by (either_form r f) (either_form r h)
    where
      others : IsOther r f → IsOther r h → one_name m (form_reworded r f) (form_reworded r h) (sort_mapped g s) (sort_mapped g t) (all_to ps) (all_to qs) ≡ one_name n f h s t ps qs
      others x y =
          ap (λ z. one_name m z (form_reworded r h) (sort_mapped g s) (sort_mapped g t) (all_to ps) (all_to qs)) x.same
          ∙ ap (λ z. one_name m f z (sort_mapped g s) (sort_mapped g t) (all_to ps) (all_to qs)) y.same
          ∙ ap (λ z. same_field (names_field (outline f)) z (field_name m (sort_mapped g t) (outline h) (all_to qs))) (named s (outline f) ps)
          ∙ ap (same_field (names_field (outline f)) (field_name n s (outline f) ps)) (named t (outline h) qs)

      apart : IsOther r f → (o : Referent) → h ≡ form.Object o → false ≡ true
      apart x o q =
          sym x.right ∙ ap (nat_eq (outline f).kind) (sym (ap (λ z. (outline z).kind) q ∙ referent_kind o))
          ∙ and_front (nat_eq (outline f).kind (outline h).kind) _ (and_front (nat_eq (outline f).kind (outline h).kind && nat_eq (outline f).operator (outline h).operator) _ e)

      by : ((o : Referent) × (f ≡ form.Object o)) ⊎ IsOther r f → ((o : Referent) × (h ≡ form.Object o)) ⊎ IsOther r h
          → one_name m (form_reworded r f) (form_reworded r h) (sort_mapped g s) (sort_mapped g t) (all_to ps) (all_to qs) ≡ one_name n f h s t ps qs
      by (inl x) y =
          object_names (form_reworded r f) (r x.0) (field_name m (sort_mapped g s) (outline (form_reworded r f)) (all_to ps)) (field_name m (sort_mapped g t) (outline (form_reworded r h)) (all_to qs)) (ap (form_reworded r) x.1)
          ∙ sym (object_names f x.0 (field_name n s (outline f) ps) (field_name n t (outline h) qs) x.1)
      by (inr x) (inr y) = others x y
      by (inr x) (inl y) = never (apart x y.0 y.1)

  module _ (d : T → T → Bool) where
    node_agrees : (a b : Bool) (f h : Form) (s t : Sort T) (parts : Bool) → a ≡ false → agree_at d a b f h s t parts ≡ true → (same_outline (outline f) (outline h) ≡ true) × (parts ≡ true)
    node_agrees true b f h s t parts z e = never (sym z)
    node_agrees false true f h s t parts z e = never e
    node_agrees false false f h s t parts z e =
        let x = same_outline (outline f) (outline h) in
        let y = agree_besides d (compared f) (compared h) s t in
        (and_front x y (and_front (x && y) parts e), and_behind (x && y) parts e)

    mutual
      tree_names : (a b : Bool) (s t : Sort T) (p q : Typed T) → agree d a b p q ≡ true
          → fields_agree m m a b (sort_mapped g s) (sort_mapped g t) (reworded g r p) (reworded g r q) ≡ fields_agree n n a b s t p q
      tree_names a b s t (typed f i j l ps) (typed h k o v qs) e =
          let old = one_name n f h s t ps qs in
          let new = one_name m (form_reworded r f) (form_reworded r h) (sort_mapped g s) (sort_mapped g t) (all_to ps) (all_to qs) in
          let rest : Bool → Bool → Bool = λ c w. all_fields_agree m m c w (sort_mapped g l.sort) (sort_mapped g v.sort) (all_to ps) (all_to qs) in
          ap (λ c. c || (new && rest (is_inside a (form_reworded r f) (label_mapped g l)) (is_inside b (form_reworded r h) (label_mapped g v)))) (hole_kept g r a f l)
          ∙ ap (λ c. is_hole a f l || (new && rest c (is_inside b (form_reworded r h) (label_mapped g v)))) (inside_kept g r a f l)
          ∙ ap (λ c. is_hole a f l || (new && rest (is_inside a f l) c)) (inside_kept g r b h v)
          ∙ either (is_hole a f l) old new (rest (is_inside a f l) (is_inside b h v)) (all_fields_agree n n (is_inside a f l) (is_inside b h v) l.sort v.sort ps qs)
          (λ z. nodes_name f h s t ps qs (node_agrees (is_hole a f l) (is_hole b h v) f h l.sort v.sort (all_agree d (is_inside a f l) (is_inside b h v) ps qs) z e).0)
          (λ z. rows_name (is_inside a f l) (is_inside b h v) l.sort v.sort ps qs (node_agrees (is_hole a f l) (is_hole b h v) f h l.sort v.sort (all_agree d (is_inside a f l) (is_inside b h v) ps qs) z e).1)

      pub rows_name : (a b : Bool) (s t : Sort T) (ps qs : Typeds T) → all_agree d a b ps qs ≡ true
          → all_fields_agree m m a b (sort_mapped g s) (sort_mapped g t) (all_to ps) (all_to qs) ≡ all_fields_agree n n a b s t ps qs
      rows_name a b s t none qs e = refl
      rows_name a b s t (more p ps) none e = refl
      rows_name a b s t (more p ps) (more q qs) e =
          ap (λ c. c && all_fields_agree m m a b (sort_mapped g s) (sort_mapped g t) (all_to ps) (all_to qs)) (tree_names a b s t p q (and_front (agree d a b p q) (all_agree d a b ps qs) e))
          ∙ ap (λ c. fields_agree n n a b s t p q && c) (rows_name a b s t ps qs (and_behind (agree d a b p q) (all_agree d a b ps qs) e))
      rows_name a b s t (more p ps) (skip qs) e = refl
      rows_name a b s t (skip ps) none e = refl
      rows_name a b s t (skip ps) (more q qs) e = refl
      rows_name a b s t (skip ps) (skip qs) e = rows_name a b s t ps qs e
