-- Declarations of types, in which no variable stands.
use Rattle.std.proofs.Common.{◌≡◌, ◌∙◌, ℕ, suc, true, false, [], ◌∷◌, Option, Some, None, refl, sym, ap, subst}
use Rattle.std.specs.Prelude.{if◌then◌else◌}
use Rattle.std.specs.Option.{option_map}
use Rattle.go_grammar.specs.declared.kind.Category.TheVariants as category
use Rattle.go_grammar.specs.declared.kind.Kind.{Kind}
use Rattle.go_grammar.specs.declared.kind.Kind.TheVariants as kind
use Rattle.go_grammar.specs.declared.kind.Sort.TheVariants as declaring
use Rattle.go_grammar.specs.Categories.{is_type}
use Rattle.go_grammar.specs.Trees.{Tree, node, none, more, kind_of}
use Rattle.go_tree.specs.declared.object.Object.{Object}
use Rattle.go_tree.specs.declared.object.Object.TheVariants as object
use Rattle.go_types.specs.Trees.{TypeTree, declared}
use Rattle.go_typed.specs.declared.form.Form.TheVariants as form
use Rattle.go_typed.specs.Trees as sort
use Rattle.go_exprs_rules.specs.Names.{declared_form}
use Rattle.go_exprs_rules.specs.Scopes.{Scope, value, type_place}
use Rattle.go_exprs_rules.specs.Settling.{Part}
use Rattle.go_exprs_rules.specs.Tables.{Parts, is_judged, label, made}
use Rattle.go_exprs_rules.specs.TypeNodes.{part_type}
use Rattle.go_exprs_rules.specs.Typing.{typing, faults}
use Rattle.go_stmts_defs.specs.Frames.{Frame, rights_of, scope_of, with_local, with_own_right}
use Rattle.go_stmts_defs.specs.Laying.{local_named, type_number, type_sort, type_name}
use Rattle.go_stmts_defs.specs.Reading.{Reading, Readings, read, all_read, after, reading, beginning, with_type, back, right_side}
use Rattle.go_stmts_defs.specs.Rules.{late_limits, first_fault, type_failing, own_faults}
use Rattle.go_typed.specs.Trees.{list_of, parts_of}
use Rattle.go_exprs_variables.specs.Shapes.{IsShaped}
use Rattle.go_exprs_variables.specs.Variables.{Standins, with_variables, all_with_variables, Free}
use Rattle.go_exprs_variables.proofs.Public.{is_key, typing_agrees, typing_clear}
use Rattle.go_stmts_variables.specs.Frames.{FramesStand}
use Rattle.go_stmts_variables.proofs.Declared.{around_declared, free_typed, free_faults, plain_type}
use Rattle.go_stmts_variables.proofs.Expressions.{reading_plain}
use Rattle.go_stmts_variables.proofs.Frames.{named_fresh, with_local_stands, with_right_stands, back_stands}
use Rattle.go_stmts_variables.proofs.Nodes.{Old}
use Rattle.go_stmts_variables.proofs.Specifications.{new_type}
use Rattle.go_stmts_variables.proofs.Unchanged.{AllStill, still_bare, IsFixedForm, still_built, Unchanged, node_on, unchanged_node, Fixed}

pub declared_key : (s : Scope) (o : Option Object) → is_key (declared_form s o) ≡ false
declared_key s None = refl
declared_key s (Some object.Import) = refl
declared_key s (Some (object.Predeclared p)) = refl
declared_key s (Some (object.Package n)) = refl
declared_key s (Some (object.Local f n)) = refl

module _ (w : Standins) where
  -- ---- what is known from the name of a type on, and behind its right side

  type_stands : (f g : Frame) (i : ℕ) (o : Option ℕ) → FramesStand w f g → w i ≡ None → local_named (f.around.objects i) ≡ o → FramesStand w (with_type o f) (with_type o g)
  type_stands f g i None st free m = st
  type_stands f g i (Some n) st free m =
      subst (λ k. FramesStand w (with_local n (sort.IsType (declared (f.types n))) f) (with_local n (sort.IsType (declared k)) g)) (sym (st.types n))
      (with_local_stands w f g n (sort.IsType (declared (f.types n))) (named_fresh w f g i n st free m) st)

  same_named : (f g : Frame) (i : ℕ) → FramesStand w f g → w i ≡ None → local_named (g.around.objects i) ≡ local_named (f.around.objects i)
  same_named f g i st free = ap local_named (st.says.objects i free)

  begun_stands : (f g : Frame) (i : ℕ) → FramesStand w f g → w i ≡ None → FramesStand w (with_type (local_named (f.around.objects i)) f) (with_type (local_named (g.around.objects i)) g)
  begun_stands f g i st free =
      subst (λ o. FramesStand w (with_type (local_named (f.around.objects i)) f) (with_type o g)) (sym (same_named f g i st free)) (type_stands f g i (local_named (f.around.objects i)) st free refl)

  mapped : (f g : Frame) (o : Option ℕ) → FramesStand w f g → option_map g.types o ≡ option_map f.types o
  mapped f g None st = refl
  mapped f g (Some n) st = ap Some (st.types n)

  same_number : (f g : Frame) (i : ℕ) → FramesStand w f g → w i ≡ None → type_number g i ≡ type_number f i
  same_number f g i st free = ap (option_map g.types) (same_named f g i st free) ∙ mapped f g (local_named (f.around.objects i)) st

  own_stands : (f g : Frame) (o : Option ℕ) (r : Option TypeTree) → FramesStand w f g → FramesStand w (with_own_right o r f) (with_own_right o r g)
  own_stands f g None r st = st
  own_stands f g (Some n) r st = with_right_stands w f g n r st

  -- the node of its name
  same_name : (f g : Frame) (i : ℕ) → FramesStand w f g → w i ≡ None → type_name g i ≡ type_name f i
  same_name f g i st free =
      ap (λ o. made (declared_form g.around o) i (suc i) (type_sort (type_number g i)) [] []) (st.says.objects i free)
      ∙ ap (λ q. made q i (suc i) (type_sort (type_number g i)) [] []) (around_declared w f g (f.around.objects i) st)
      ∙ ap (λ m. made (declared_form f.around (f.around.objects i)) i (suc i) (type_sort m) [] []) (same_number f g i st free)

  same_failing : (f g : Frame) (i : ℕ) (x : Part) → FramesStand w f g → w i ≡ None → type_failing g i x ≡ type_failing f i x
  same_failing f g i x st free =
      ap (λ r. first_fault (late_limits r (rights_of (with_own_right (type_number g i) (part_type (Some x)) g)) x)) st.rights
      ∙ ap (λ m. first_fault (late_limits (rights_of f) (rights_of (with_own_right m (part_type (Some x)) g)) x)) (same_number f g i st free)
      ∙ ap (λ r. first_fault (late_limits (rights_of f) r x)) (own_stands f g (type_number f i) (part_type (Some x)) st).rights

  -- ---- a specification of a type

  type_read : (s : Frame) (x : Tree) → is_type (kind_of x) ≡ true → reading s type_place x ≡ read (typing (scope_of s) type_place x) (faults (scope_of s) type_place x) s
  type_read s (node k i j ps) e = reading_plain s type_place k i j ps (plain_type w k e)

  abbrev one_read : Reading → Readings
  one_read r = after r (λ x gs s. all_read (Some x ∷ []) gs s)

  module _ (i j : ℕ) (t : Tree) (shape : IsShaped category.Type t) (is : is_type (kind_of t) ≡ true) (free : Free w t) (name : w i ≡ None) where
    abbrev K : Kind
    K = kind.Specification declaring.Type

    abbrev typed_at : Frame → Part
    typed_at s = typing (scope_of s) type_place t

    abbrev laid_at : Frame → Parts
    laid_at s = Some (type_name s i) ∷ Some (typing (scope_of s) type_place t) ∷ []

    laid_still : (s : Frame) → AllStill w (laid_at s)
    laid_still s = (
      still_bare w (declared_form s.around (s.around.objects i)) i (suc i) (label (declared_form s.around (s.around.objects i)) (type_sort (type_number s i)) []) (declared_key s.around (s.around.objects i)) name,
      (record { agrees = typing_agrees (scope_of s) type_place category.Type t shape; clear = typing_clear w (scope_of s) type_place t free }, tt),
    )

    held_form : IsFixedForm w (form.Held (kind.Specification declaring.Type))
    held_form = record { key = refl; name = refl }

    module _ (f g : Frame) (st : FramesStand w f g) where
      abbrev S : Frame
      S = beginning (kind.Specification declaring.Type) i f

      abbrev T : Frame
      T = beginning (kind.Specification declaring.Type) i g

      within : FramesStand w S T
      within = begun_stands f g i st name

      abbrev t' : Tree
      t' = with_variables w t

      type_old : Old w f value (kind.Specification declaring.Type) i j (more t none)
      type_old = record {
        parts = Some (typing (scope_of S) type_place t) ∷ [];
        found = faults (scope_of S) type_place t;
        behind = S;
        form = form.Held (kind.Specification declaring.Type);
        laid = laid_at S;
        is = ap one_read (type_read S t is);
        laid_is = refl;
        form_is = refl;
      }

      type_new : Old w g value (kind.Specification declaring.Type) i j (all_with_variables w (more t none))
      type_new = record {
        parts = Some (typing (scope_of T) type_place t') ∷ [];
        found = faults (scope_of T) type_place t';
        behind = T;
        form = form.Held (kind.Specification declaring.Type);
        laid = Some (type_name T i) ∷ Some (typing (scope_of T) type_place t') ∷ [];
        is = ap one_read (type_read T t' (new_type w t is));
        laid_is = refl;
        form_is = refl;
      }

      same_laid : (Some (type_name T i) ∷ Some (typing (scope_of T) type_place t') ∷ []) ≡ laid_at S
      same_laid = ap (λ x. Some x ∷ Some (typing (scope_of T) type_place t') ∷ []) (same_name S T i within name) ∙ ap (λ x. Some (type_name S i) ∷ Some x ∷ []) (free_typed w S T within type_place t free)

      abbrev right : Option TypeTree
      right = right_side (list_of (parts_of (node_on w S K (form.Held K) i j (laid_at S))))

      frame_behind : FramesStand w (with_own_right (type_number (back f S) i) right (back f S)) (with_own_right (type_number (back g T) i) right (back g T))
      frame_behind =
          let B = back_stands w f g S T st within in
          subst (λ m. FramesStand w (with_own_right (type_number (back f S) i) right (back f S)) (with_own_right m right (back g T))) (sym (same_number (back f S) (back g T) i B name))
          (own_stands (back f S) (back g T) (type_number (back f S) i) right B)

      pub type_unchanged : Unchanged w f g value (node (kind.Specification declaring.Type) i j (more t none))
      unfolding type_old type_new
      type_unchanged =
          unchanged_node w f g value K i j (more t none) type_old type_new refl refl refl same_laid (free_faults w S T within type_place t free)
          (ap (λ z. if is_judged (laid_at S) then z else []) (same_failing S T i (typed_at S) within name)) refl frame_behind
          (still_built w S K (form.Held K) i j (laid_at S) (own_faults S K (form.Held K) i j (laid_at S)) held_form (laid_still S) (laid_still S))

    pub type_fixed : Fixed w (λ s. Unit {0}) (node (kind.Specification declaring.Type) i j (more t none))
    type_fixed = record { reads = λ f g st p. type_unchanged f g st; keeps = λ f p. tt }
