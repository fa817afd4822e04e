-- Declarations in which no variable stands: one specification, or several in parentheses.
use Rattle.std.proofs.Common.{◌≡◌, ◌∙◌, ℕ, zero, suc, Bool, true, false, List, [], ◌∷◌, ◌++◌, take, Some, None, refl, sym, ap, subst}
use Rattle.std.specs.Prelude.{if◌then◌else◌}
use Rattle.go_grammar.specs.declared.kind.Kind.{Kind}
use Rattle.go_grammar.specs.declared.kind.Kind.TheVariants as kind
use Rattle.go_grammar.specs.declared.kind.Sort.{Sort}
use Rattle.go_grammar.specs.Trees.{Tree, Trees, node, none, more, skip}
use Rattle.go_typed.specs.declared.form.Form.{Form}
use Rattle.go_typed.specs.declared.form.Form.TheVariants as form
use Rattle.go_typed.specs.Trees.{form_of, parts_of, list_of}
use Rattle.go_exprs_rules.specs.declared.fault.TypeFault.{TypeFault}
use Rattle.go_exprs_rules.specs.Scopes.{Hint, value}
use Rattle.go_exprs_rules.specs.Tables.{Parts}
use Rattle.go_stmts_defs.specs.Frames.{Frame}
use Rattle.go_stmts_defs.specs.Laying.{layout, form_by, is_group, specifications, specified_names, names_count, all_names}
use Rattle.go_stmts_defs.specs.Reading.{Found, Readings, all_read, reading, readings, entering, back, closed}
use Rattle.go_stmts_defs.specs.Rules.{own_faults, built_by}
use Rattle.go_exprs_variables.specs.Variables.{Standins, all_with_variables}
use Rattle.go_stmts_variables.specs.Frames.{FramesStand}
use Rattle.go_stmts_variables.specs.Statements.{tree_in, found_in, frame_in}
use Rattle.go_stmts_variables.proofs.Endings.{is_calm, Calm, calm_form}
use Rattle.go_stmts_variables.proofs.Frames.{back_stands}
use Rattle.go_stmts_variables.proofs.Nodes.{Old}
use Rattle.go_stmts_variables.proofs.Rows.{Stated}
use Rattle.go_stmts_variables.proofs.Unchanged.{AllStill, still_both, still_parts, IsFixedForm, still_built, Unchanged, unchanged_reads, unchanged_node}
use Rattle.go_stmts_variables.proofs.Unchanged.{parts_in, all_found, frame_last, Fixed, AllFixed, IsFixedRow, one_read, rows_unchanged, row_is}

built_form : (s : Frame) (k : Kind) (f : Form) (i j : ℕ) (ys : Parts) (own : List TypeFault) → form_of (built_by s k f i j ys own) ≡ f
built_form s k f i j ys [] = refl
built_form s k f i j ys (x ∷ xs) = refl

module _ (w : Standins) where
  closed_form : (f : Frame) (k : Kind) (i j : ℕ) (ps : Trees) (r : Readings) → form_of (tree_in (closed f k i j ps r)) ≡ form_by k (parts_in w r)
  closed_form f k i j ps (all_read xs fs s) = built_form s k (form_by k xs) i j (layout s k i xs) (own_faults s k (form_by k xs) i j (layout s k i xs))

  closed_frame : (f : Frame) (d : Sort) (i j : ℕ) (ps : Trees) (r : Readings) → frame_in (closed f (kind.Group d) i j ps r) ≡ back f (frame_last w r)
  closed_frame f d i j ps (all_read xs fs s) = refl

  -- ---- the names of its specifications

  still_take : (n : ℕ) (xs : Parts) → AllStill w xs → AllStill w (take n xs)
  still_take zero xs s = tt
  still_take (suc n) [] s = tt
  still_take (suc n) (None ∷ xs) s = still_take n xs s
  still_take (suc n) (Some x ∷ xs) s = (s.0, still_take n xs s.1)

  still_specified : (xs : Parts) → AllStill w xs → AllStill w (specifications xs)
  still_specified [] s = tt
  still_specified (None ∷ xs) s = s
  still_specified (Some x ∷ y ∷ xs) s = s
  still_specified (Some x ∷ []) s = by (is_group (form_of x))
    where
      by : (b : Bool) → AllStill w (if b then list_of (parts_of x) else Some x ∷ [])
      by true = still_parts w x s.0
      by false = s

  still_names : (xs : Parts) → AllStill w xs → AllStill w (all_names xs)
  still_names [] s = tt
  still_names (None ∷ xs) s = still_names xs s
  still_names (Some x ∷ xs) s = still_both w (specified_names (Some x)) (all_names xs) (still_take (names_count (form_of x)) (list_of (parts_of x)) (still_parts w x s.0)) (still_names xs s.1)

  module _ (P : Frame → Type 0) (backs : (f s : Frame) → P s → P (back f s)) where
    -- behind a row
    rows_keep : (k : Kind) (h : Hint) (is : IsFixedRow w P k) (f : Frame) (all : Trees) (xs : Parts) (fs : Found) (ps : Trees) → AllFixed w P ps → P f → P (entering k xs f) → P (frame_last w (readings f k h all xs fs ps))
    rows_keep k h is f all xs fs none s p e = p
    rows_keep k h is f all xs fs (skip ps) s p e = elim s [ ]
    rows_keep k h is f all xs fs (more q ps) s p e =
        let r = reading (entering k xs f) value q in
        let kept = s.0.keeps (entering k xs f) e in
        subst (λ z. P (frame_last w z)) (sym (one_read w P k h is f all xs fs q ps))
        (rows_keep k h is (frame_in r) all (xs ++ Some (tree_in r) ∷ []) (fs ++ found_in r) ps s.1 kept (is.goes xs (Some (tree_in r)) (frame_in r) kept))

    -- ---- several in parentheses

    module _ (d : Sort) (is : IsFixedRow w P (kind.Group d)) (i j : ℕ) (qs : Trees) (fixed : AllFixed w P qs) where
      abbrev read_at : Frame → Readings
      read_at f = readings f (kind.Group d) value qs [] [] qs

      abbrev new_at : Frame → Readings
      new_at g = readings g (kind.Group d) value (all_with_variables w qs) [] [] (all_with_variables w qs)

      group_old : (f : Frame) → Old w f value (kind.Group d) i j qs
      group_old f = record {
        parts = parts_in w (read_at f);
        found = all_found w (read_at f);
        behind = frame_last w (read_at f);
        form = form.Held (kind.Group d);
        laid = parts_in w (read_at f);
        is = row_is w (read_at f);
        laid_is = refl;
        form_is = refl;
      }

      group_new : (g : Frame) → Old w g value (kind.Group d) i j (all_with_variables w qs)
      group_new g = record {
        parts = parts_in w (new_at g);
        found = all_found w (new_at g);
        behind = frame_last w (new_at g);
        form = form.Held (kind.Group d);
        laid = parts_in w (new_at g);
        is = row_is w (new_at g);
        laid_is = refl;
        form_is = refl;
      }

      group_form : IsFixedForm w (form.Held (kind.Group d))
      group_form = record { key = refl; name = refl }

      group_unchanged : (f g : Frame) → FramesStand w f g → Unchanged w f g value (node (kind.Group d) i j qs)
      unfolding group_old group_new
      group_unchanged f g st =
          let rows = rows_unchanged w P (kind.Group d) value is f g qs (all_with_variables w qs) [] [] qs fixed st (is.begins f) tt in
          let ys = parts_in w (read_at f) in
          unchanged_node w f g value (kind.Group d) i j qs (group_old f) (group_new g) refl refl refl rows.parts rows.found refl refl (back_stands w f g (frame_last w (read_at f)) (frame_last w (new_at g)) st rows.frame)
          (still_built w (frame_last w (read_at f)) (kind.Group d) (form.Held (kind.Group d)) i j ys (own_faults (frame_last w (read_at f)) (kind.Group d) (form.Held (kind.Group d)) i j ys) group_form rows.still rows.still)

      pub group_fixed : Fixed w P (node (kind.Group d) i j qs)
      group_fixed = record {
        reads = λ f g st p. group_unchanged f g st;
        keeps = λ f p. subst P (sym (closed_frame f d i j qs (read_at f))) (backs f (frame_last w (read_at f)) (rows_keep (kind.Group d) value is f qs [] [] qs fixed p (is.begins f)));
      }

    -- ---- a declaration

    module _ (d : Sort) (is : IsFixedRow w P (kind.Declaration d)) (fm : Form) (fixed_form : IsFixedForm w fm) (calm : is_calm fm ≡ true)
        (lays : (s : Frame) (i : ℕ) (xs : Parts) → layout s (kind.Declaration d) i xs ≡ all_names (specifications xs))
        (forms : (xs : Parts) → form_by (kind.Declaration d) xs ≡ fm) (i j : ℕ) (p : Tree) (fixed : Fixed w P p) where
      abbrev whole_at : Frame → Hint → Readings
      whole_at f h = readings f (kind.Declaration d) h (more p none) [] [] (more p none)

      abbrev whole_new : Frame → Hint → Readings
      whole_new g h = readings g (kind.Declaration d) h (all_with_variables w (more p none)) [] [] (all_with_variables w (more p none))

      declaration_old : (f : Frame) (h : Hint) → Old w f h (kind.Declaration d) i j (more p none)
      declaration_old f h = record {
        parts = parts_in w (whole_at f h);
        found = all_found w (whole_at f h);
        behind = frame_last w (whole_at f h);
        form = fm;
        laid = all_names (specifications (parts_in w (whole_at f h)));
        is = row_is w (whole_at f h);
        laid_is = lays (frame_last w (whole_at f h)) i (parts_in w (whole_at f h));
        form_is = forms (parts_in w (whole_at f h));
      }

      declaration_new : (g : Frame) (h : Hint) → Old w g h (kind.Declaration d) i j (all_with_variables w (more p none))
      declaration_new g h = record {
        parts = parts_in w (whole_new g h);
        found = all_found w (whole_new g h);
        behind = frame_last w (whole_new g h);
        form = fm;
        laid = all_names (specifications (parts_in w (whole_new g h)));
        is = row_is w (whole_new g h);
        laid_is = lays (frame_last w (whole_new g h)) i (parts_in w (whole_new g h));
        form_is = forms (parts_in w (whole_new g h));
      }

      declaration_unchanged : (f g : Frame) (h : Hint) → FramesStand w f g → Unchanged w f g h (node (kind.Declaration d) i j (more p none))
      unfolding declaration_old declaration_new
      declaration_unchanged f g h st =
          let rows = rows_unchanged w P (kind.Declaration d) h is f g (more p none) (all_with_variables w (more p none)) [] [] (more p none) (fixed, tt) st (is.begins f) tt in
          let ys = all_names (specifications (parts_in w (whole_at f h))) in
          let F = frame_last w (whole_at f h) in
          let still = still_names (specifications (parts_in w (whole_at f h))) (still_specified (parts_in w (whole_at f h)) rows.still) in
          unchanged_node w f g h (kind.Declaration d) i j (more p none) (declaration_old f h) (declaration_new g h) refl refl refl (ap (λ xs. all_names (specifications xs)) rows.parts) rows.found refl refl
          (back_stands w f g F (frame_last w (whole_new g h)) st rows.frame) (still_built w F (kind.Declaration d) fm i j ys (own_faults F (kind.Declaration d) fm i j ys) fixed_form still still)

      declaration_calm : (f : Frame) (h : Hint) → Calm w (tree_in (reading f h (node (kind.Declaration d) i j (more p none))))
      declaration_calm f h =
          calm_form w (tree_in (reading f h (node (kind.Declaration d) i j (more p none)))) (ap is_calm (closed_form f (kind.Declaration d) i j (more p none) (whole_at f h) ∙ forms (parts_in w (whole_at f h))) ∙ calm)

      pub declaration_stated : Stated w (node (kind.Declaration d) i j (more p none))
      declaration_stated = record {
        kind = refl;
        reads = λ f g h st good fits tags steady. unchanged_reads w f g h (node (kind.Declaration d) i j (more p none)) (declaration_unchanged f g h st) good (λ e. declaration_calm f h);
      }
