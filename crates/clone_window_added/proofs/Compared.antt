-- Reworded runs of statements are the same exactly where they were.
use Rattle.std.proofs.Common.{◌≡◌, ◌∙◌, ℕ, zero, suc, inl, inr, ◌⊎◌, Bool, true, false, List, [], ◌∷◌, map, Option, Some, None, slice_get, ap, refl, sym}
use Rattle.std.specs.Prelude.{◌&&◌, nat_eq}
use Rattle.std.specs.List.{list_all, zip}
use Rattle.std.specs.Option.{option_map}
use Rattle.go_typed.specs.declared.form.Form.{Form}
use Rattle.go_typed.specs.declared.form.Form.TheVariants as form
use Rattle.go_typed.specs.declared.form.Referent.{Referent}
use Rattle.go_typed.specs.declared.window.Window.{Window}
use Rattle.go_typed.specs.Trees.{Sort, Nothing, Unknown, Blank, Nil, Builtin, Println, Package, IsType, Value, Constant, Open, OpenConstant, Results}
use Rattle.go_typed.specs.Trees.{Typed, typed, Typeds, none, more, skip, sort_mapped, label_mapped}
use Rattle.clone_window.specs.declared.outline.Outline.{Outline}
use Rattle.clone_window.specs.Kinds.{outline, referent_outline}
use Rattle.clone_window.specs.Masses.{is_hole, is_inside}
use Rattle.clone_window.specs.Sameness.{Final, of_type, of_kind, of_none, final, same_final, standing, value_of, same_values, are_alike, same_literal, same_outline, Compared, by_form}
use Rattle.clone_window.specs.Sameness.{by_sort, by_literal, compared, agree_besides, agree_at, agree, all_agree, all_locals, local_pairs, is_one_to_one, sort_at, is_matched, is_same}
use Rattle.clone_window.specs.Bodies.{Body, locals_in, statements_at, are_same}
use Rattle.clone_window.specs.Fields.{FieldNames, window_fields_agree}
use Rattle.clone_window_added.specs.Reworded.{IsRewording, StaysThere, body_reworded, form_reworded, reworded, all_reworded, window_in}
use Rattle.clone_window_added.proofs.FieldNames.{and_front, final_kept, final_mapped, rows_name}
use Rattle.clone_window_added.proofs.Reworded.{IsOther, all_locals_kept, compared_kept, either_form, hole_kept, inside_kept, referent_kind, statements_there}

-- ---- outlines

apart_left : (a b : Outline) → nat_eq a.kind b.kind ≡ false → same_outline a b ≡ false
apart_left a b e = ap (λ c. c && nat_eq a.operator b.operator && nat_eq a.count b.count) e

module _ (r : Referent → Referent) (objects : (a b : Referent) → same_outline (referent_outline (r a)) (referent_outline (r b)) ≡ same_outline (referent_outline a) (referent_outline b)) where
  object_apart : (o : Referent) (h : Form) → IsOther r h → same_outline (referent_outline o) (outline h) ≡ false
  object_apart o h x = apart_left (referent_outline o) (outline h) (ap (λ k. nat_eq k (outline h).kind) (referent_kind o) ∙ x.left)

  other_apart : (f : Form) (o : Referent) → IsOther r f → same_outline (outline f) (referent_outline o) ≡ false
  other_apart f o x = apart_left (outline f) (referent_outline o) (ap (nat_eq (outline f).kind) (referent_kind o) ∙ x.right)

  abbrev new : Form → Form → Bool
  new x y = same_outline (outline (form_reworded r x)) (outline (form_reworded r y))

  abbrev old : Form → Form → Bool
  old x y = same_outline (outline x) (outline y)

  outlines_kept : (f h : Form) → new f h ≡ old f h
  outlines_kept f h = by (either_form r f) (either_form r h)
    where
      by : ((o : Referent) × (f ≡ form.Object o)) ⊎ IsOther r f → ((o : Referent) × (h ≡ form.Object o)) ⊎ IsOther r h → new f h ≡ old f h
      by (inl x) (inl y) =
          ap (λ z. new z h) x.1 ∙ ap (λ z. new (form.Object x.0) z) y.1 ∙ objects x.0 y.0 ∙ ap (λ z. old z (form.Object y.0)) (sym x.1) ∙ ap (old f) (sym y.1)
      by (inl x) (inr y) =
          ap (λ z. new z h) x.1 ∙ ap (λ z. same_outline (referent_outline (r x.0)) (outline z)) y.same ∙ object_apart (r x.0) h y ∙ sym (object_apart x.0 h y) ∙ ap (λ z. old z h) (sym x.1)
      by (inr x) (inl y) =
          ap (new f) y.1 ∙ ap (λ z. same_outline (outline z) (referent_outline (r y.0))) x.same ∙ other_apart f (r y.0) x ∙ sym (other_apart f y.0 x) ∙ ap (old f) (sym y.1)
      by (inr x) (inr y) = ap (λ z. same_outline (outline z) (outline (form_reworded r h))) x.same ∙ ap (λ z. same_outline (outline f) (outline z)) y.same

-- ---- what sorts show

module _ {T U : Type 0} (g : T → U) where
  standing_kept : (s : Sort T) → standing (sort_mapped g s) ≡ standing s
  standing_kept Nothing = refl
  standing_kept Unknown = refl
  standing_kept Blank = refl
  standing_kept Nil = refl
  standing_kept (Builtin b) = refl
  standing_kept Println = refl
  standing_kept Package = refl
  standing_kept (IsType t) = refl
  standing_kept (Value t) = refl
  standing_kept (Constant t c) = refl
  standing_kept (Open u) = refl
  standing_kept (OpenConstant c) = refl
  standing_kept (Results t) = refl

  value_kept : (s : Sort T) → value_of (sort_mapped g s) ≡ value_of s
  value_kept Nothing = refl
  value_kept Unknown = refl
  value_kept Blank = refl
  value_kept Nil = refl
  value_kept (Builtin b) = refl
  value_kept Println = refl
  value_kept Package = refl
  value_kept (IsType t) = refl
  value_kept (Value t) = refl
  value_kept (Constant t c) = refl
  value_kept (Open u) = refl
  value_kept (OpenConstant c) = refl
  value_kept (Results t) = refl

  sort_at_kept : (sorts : List (Sort T)) (n : ℕ) → sort_at (map (sort_mapped g) sorts) n ≡ sort_mapped g (sort_at sorts n)
  sort_at_kept [] n = refl
  sort_at_kept (s ∷ sorts) zero = refl
  sort_at_kept (s ∷ sorts) (suc n) = sort_at_kept sorts n

-- ---- sameness

module _ {T U : Type 0} (g : T → U) (r : Referent → Referent) (d : T → T → Bool) (e : U → U → Bool) (n : FieldNames T) (m : FieldNames U) (is : IsRewording g r d e n m) where
  abbrev to : Typed T → Typed U
  to x = reworded g r x

  abbrev all_to : Typeds T → Typeds U
  all_to ps = all_reworded g r ps

  finals_by : (a b : Final T) → same_final e (final_mapped g a) (final_mapped g b) ≡ same_final d a b
  finals_by (of_type t) (of_type u) = is.types t u
  finals_by (of_type t) (of_kind k) = refl
  finals_by (of_type t) of_none = refl
  finals_by (of_kind k) (of_type u) = refl
  finals_by (of_kind k) (of_kind l) = refl
  finals_by (of_kind k) of_none = refl
  finals_by of_none (of_type u) = refl
  finals_by of_none (of_kind k) = refl
  finals_by of_none of_none = refl

  finals : (s t : Sort T) → same_final e (final (sort_mapped g s)) (final (sort_mapped g t)) ≡ same_final d (final s) (final t)
  finals s t = ap (λ a. same_final e a (final (sort_mapped g t))) (final_kept g s) ∙ ap (same_final e (final_mapped g (final s))) (final_kept g t) ∙ finals_by (final s) (final t)

  alike : (s t : Sort T) → are_alike e (sort_mapped g s) (sort_mapped g t) ≡ are_alike d s t
  alike s t =
      ap (λ k. nat_eq k (standing (sort_mapped g t)) && same_final e (final (sort_mapped g s)) (final (sort_mapped g t)) && same_values (value_of (sort_mapped g s)) (value_of (sort_mapped g t))) (standing_kept g s)
      ∙ ap (λ k. nat_eq (standing s) k && same_final e (final (sort_mapped g s)) (final (sort_mapped g t)) && same_values (value_of (sort_mapped g s)) (value_of (sort_mapped g t))) (standing_kept g t)
      ∙ ap (λ b. nat_eq (standing s) (standing t) && b && same_values (value_of (sort_mapped g s)) (value_of (sort_mapped g t))) (finals s t)
      ∙ ap (λ c. nat_eq (standing s) (standing t) && same_final d (final s) (final t) && same_values c (value_of (sort_mapped g t))) (value_kept g s)
      ∙ ap (λ c. nat_eq (standing s) (standing t) && same_final d (final s) (final t) && same_values (value_of s) c) (value_kept g t)

  literals : (s t : Sort T) → same_literal (value_of (sort_mapped g s)) (value_of (sort_mapped g t)) ≡ same_literal (value_of s) (value_of t)
  literals s t = ap (λ c. same_literal c (value_of (sort_mapped g t))) (value_kept g s) ∙ ap (same_literal (value_of s)) (value_kept g t)

  besides : (a b : Compared) (s t : Sort T) → agree_besides e a b (sort_mapped g s) (sort_mapped g t) ≡ agree_besides d a b s t
  besides by_form by_form s t = refl
  besides by_form by_sort s t = refl
  besides by_form by_literal s t = refl
  besides by_sort by_form s t = refl
  besides by_sort by_sort s t = alike s t
  besides by_sort by_literal s t = refl
  besides by_literal by_form s t = refl
  besides by_literal by_sort s t = refl
  besides by_literal by_literal s t = literals s t

  nodes : (a b : Bool) (f h : Form) (s t : Sort T) (parts : Bool) → agree_at e a b (form_reworded r f) (form_reworded r h) (sort_mapped g s) (sort_mapped g t) parts ≡ agree_at d a b f h s t parts
  nodes true true f h s t parts = finals s t
  nodes true false f h s t parts = refl
  nodes false true f h s t parts = refl
  nodes false false f h s t parts =
      ap (λ c. c && agree_besides e (compared (form_reworded r f)) (compared (form_reworded r h)) (sort_mapped g s) (sort_mapped g t) && parts) (outlines_kept r is.objects f h)
      ∙ ap (λ c. same_outline (outline f) (outline h) && agree_besides e c (compared (form_reworded r h)) (sort_mapped g s) (sort_mapped g t) && parts) (compared_kept r f)
      ∙ ap (λ c. same_outline (outline f) (outline h) && agree_besides e (compared f) c (sort_mapped g s) (sort_mapped g t) && parts) (compared_kept r h)
      ∙ ap (λ c. same_outline (outline f) (outline h) && c && parts) (besides (compared f) (compared h) s t)

  mutual
    trees : (a b : Bool) (x y : Typed T) → agree e a b (to x) (to y) ≡ agree d a b x y
    trees a b (typed f i j l ps) (typed h k o v qs) =
        let s = sort_mapped g l.sort in
        let t = sort_mapped g v.sort in
        let p = form_reworded r f in
        let q = form_reworded r h in
        ap (λ c. agree_at e c (is_hole b q (label_mapped g v)) p q s t (all_agree e (is_inside a p (label_mapped g l)) (is_inside b q (label_mapped g v)) (all_to ps) (all_to qs))) (hole_kept g r a f l)
        ∙ ap (λ c. agree_at e (is_hole a f l) c p q s t (all_agree e (is_inside a p (label_mapped g l)) (is_inside b q (label_mapped g v)) (all_to ps) (all_to qs))) (hole_kept g r b h v)
        ∙ ap (λ c. agree_at e (is_hole a f l) (is_hole b h v) p q s t (all_agree e c (is_inside b q (label_mapped g v)) (all_to ps) (all_to qs))) (inside_kept g r a f l)
        ∙ ap (λ c. agree_at e (is_hole a f l) (is_hole b h v) p q s t (all_agree e (is_inside a f l) c (all_to ps) (all_to qs))) (inside_kept g r b h v)
        ∙ ap (agree_at e (is_hole a f l) (is_hole b h v) p q s t) (rows (is_inside a f l) (is_inside b h v) ps qs)
        ∙ nodes (is_hole a f l) (is_hole b h v) f h l.sort v.sort (all_agree d (is_inside a f l) (is_inside b h v) ps qs)

    rows : (a b : Bool) (ps qs : Typeds T) → all_agree e a b (all_to ps) (all_to qs) ≡ all_agree d a b ps qs
    rows a b none none = refl
    rows a b none (more y qs) = refl
    rows a b none (skip qs) = refl
    rows a b (more x ps) none = refl
    rows a b (more x ps) (more y qs) = ap (λ c. c && all_agree e a b (all_to ps) (all_to qs)) (trees a b x y) ∙ ap (λ c. agree d a b x y && c) (rows a b ps qs)
    rows a b (more x ps) (skip qs) = refl
    rows a b (skip ps) none = refl
    rows a b (skip ps) (more y qs) = refl
    rows a b (skip ps) (skip qs) = rows a b ps qs

  pairs_kept : (ps qs : Typeds T) → local_pairs (all_to ps) (all_to qs) ≡ local_pairs ps qs
  pairs_kept ps qs = ap (λ xs. zip xs (all_locals false (all_to qs))) (all_locals_kept g r false ps) ∙ ap (zip (all_locals false ps)) (all_locals_kept g r false qs)

  matched : (here there : List (Sort T)) (pair : ℕ × ℕ) → is_matched e (map (sort_mapped g) here) (map (sort_mapped g) there) pair ≡ is_matched d here there pair
  matched here there pair =
      ap (λ s. are_alike e s (sort_at (map (sort_mapped g) there) pair.1)) (sort_at_kept g here pair.0)
      ∙ ap (are_alike e (sort_mapped g (sort_at here pair.0))) (sort_at_kept g there pair.1)
      ∙ alike (sort_at here pair.0) (sort_at there pair.1)

  all_matched : (here there : List (Sort T)) (pairs : List (ℕ × ℕ)) → list_all (is_matched e (map (sort_mapped g) here) (map (sort_mapped g) there)) pairs ≡ list_all (is_matched d here there) pairs
  all_matched here there [] = refl
  all_matched here there (pair ∷ pairs) =
      ap (λ b. b && list_all (is_matched e (map (sort_mapped g) here) (map (sort_mapped g) there)) pairs) (matched here there pair) ∙ ap (λ b. is_matched d here there pair && b) (all_matched here there pairs)

  pub runs : (here there : List (Sort T)) (ps qs : Typeds T) → is_same e (map (sort_mapped g) here) (map (sort_mapped g) there) (all_to ps) (all_to qs) ≡ is_same d here there ps qs
  runs here there ps qs =
      let one = map (sort_mapped g) here in
      let other = map (sort_mapped g) there in
      ap (λ pairs. all_agree e false false (all_to ps) (all_to qs) && is_one_to_one pairs && list_all (is_matched e one other) pairs) (pairs_kept ps qs)
      ∙ ap (λ b. b && is_one_to_one (local_pairs ps qs) && list_all (is_matched e one other) (local_pairs ps qs)) (rows false false ps qs)
      ∙ ap (λ b. all_agree d false false ps qs && is_one_to_one (local_pairs ps qs) && b) (all_matched here there (local_pairs ps qs))

  -- where runs are the same their nodes agree
  agreeing : (here there : List (Sort T)) (ps qs : Typeds T) → is_same d here there ps qs ≡ true → all_agree d false false ps qs ≡ true
  agreeing here there ps qs h =
      let x = all_agree d false false ps qs in
      let y = is_one_to_one (local_pairs ps qs) in
      and_front x y (and_front (x && y) (list_all (is_matched d here there) (local_pairs ps qs)) h)

  if_same : (a b c : Bool) → (a ≡ true → b ≡ c) → (a && b) ≡ (a && c)
  if_same true b c h = h refl
  if_same false b c h = refl

  whole : (here there : List (Sort T)) (ps qs : Typeds T)
      → (is_same e (map (sort_mapped g) here) (map (sort_mapped g) there) (all_to ps) (all_to qs) && window_fields_agree m m (all_to ps) (all_to qs)) ≡ (is_same d here there ps qs && window_fields_agree n n ps qs)
  whole here there ps qs =
      ap (λ b. b && window_fields_agree m m (all_to ps) (all_to qs)) (runs here there ps qs)
      ∙ if_same (is_same d here there ps qs) (window_fields_agree m m (all_to ps) (all_to qs)) (window_fields_agree n n ps qs)
      (λ h. rows_name g r n m is.members d false false Nothing Nothing ps qs (agreeing here there ps qs h))

  -- ---- windows

  abbrev same_bodies : {V : Type 0} → (V → V → Bool) → FieldNames V → Option (Body V) → Option (Body V) → Window → Window → Bool
  same_bodies i names o p w v = is_same i (locals_in o) (locals_in p) (statements_at o w) (statements_at p v) && window_fields_agree names names (statements_at o w) (statements_at p v)

  abbrev body_to : Option (Body T) → Option (Body U)
  body_to o = option_map (body_reworded g r) o

  locals_there : (o : Option (Body T)) → locals_in (body_to o) ≡ map (sort_mapped g) (locals_in o)
  locals_there None = refl
  locals_there (Some b) = refl

  module _ (at : ℕ → ℕ) where
    bodies_same : (o p : Option (Body T)) (w v : Window) → same_bodies e m (body_to o) (body_to p) (window_in at w) (window_in at v) ≡ same_bodies d n o p w v
    bodies_same o p w v =
        let x = statements_at (body_to o) (window_in at w) in
        let y = statements_at (body_to p) (window_in at v) in
        ap (λ ls. is_same e ls (locals_in (body_to p)) x y && window_fields_agree m m x y) (locals_there o)
        ∙ ap (λ ls. is_same e (map (sort_mapped g) (locals_in o)) ls x y && window_fields_agree m m x y) (locals_there p)
        ∙ ap (λ z. is_same e (map (sort_mapped g) (locals_in o)) (map (sort_mapped g) (locals_in p)) z y && window_fields_agree m m z y) (statements_there g r at o w)
        ∙ ap (λ z. is_same e (map (sort_mapped g) (locals_in o)) (map (sort_mapped g) (locals_in p)) (all_to (statements_at o w)) z && window_fields_agree m m (all_to (statements_at o w)) z) (statements_there g r at p v)
        ∙ whole (locals_in o) (locals_in p) (statements_at o w) (statements_at p v)

    pub windows_same : (old : List (Body T)) (others : List (Body U)) (w v : Window) → StaysThere g r at old others w → StaysThere g r at old others v
        → are_same e m m others others (window_in at w) (window_in at v) ≡ are_same d n n old old w v
    windows_same old others w v h k =
        ap (λ o. same_bodies e m o (slice_get others (at v.func)) (window_in at w) (window_in at v)) h
        ∙ ap (λ p. same_bodies e m (body_to (slice_get old w.func)) p (window_in at w) (window_in at v)) k
        ∙ bodies_same (slice_get old w.func) (slice_get old v.func) w v
