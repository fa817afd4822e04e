-- Sameness and classes are the same over other words for types, where a test of the new ones says what the old one says.
use mathlib.Core.Path.{fun_ext}
use Rattle.std.proofs.Common.{◌≡◌, ◌∙◌, ℕ, zero, suc, Bool, true, false, List, [], ◌∷◌, ◌++◌, map, take, drop, slice_get, ap, refl}
use Rattle.std.proofs.lemmas.Bool.{and_parts, and_from}
use Rattle.std.specs.Prelude.{◌&&◌, nat_eq, if◌then◌else◌}
use Rattle.std.specs.List.{list_all, zip}
use Rattle.go_typed.specs.declared.form.Form.{Form}
use Rattle.go_typed.specs.declared.window.Window.{Window}
use Rattle.go_typed.specs.Forms.{is_statement_list, values_count}
use Rattle.go_typed.specs.Lists.{own_list, statement_lists, lists_among, present, statements_of}
use Rattle.go_typed.specs.Trees.{Sort, Nothing, Unknown, Blank, Nil, Builtin, Println, Package, IsType, Value, Constant, Open, OpenConstant, Results}
use Rattle.go_typed.specs.Trees.{Typed, typed, Typeds, none, more, skip, sort_mapped, label_mapped, mapped, all_mapped, sort_has, every, every_part}
use Rattle.clone_window.specs.declared.bounds.Bounds.{Bounds}
use Rattle.clone_window.specs.Kinds.{outline}
use Rattle.clone_window.specs.Masses.{is_hole, is_inside}
use Rattle.clone_window.specs.Sameness.{Final, of_type, of_kind, of_none, final, same_final, standing, value_of, same_values, are_alike, same_literal, same_outline, Compared, by_form}
use Rattle.clone_window.specs.Sameness.{by_sort, by_literal, compared, agree_besides, agree_at, agree, all_agree, all_locals, local_pairs, is_one_to_one, sort_at, is_matched, is_same}
use Rattle.clone_window.specs.Windows.{row_of, statements_in, window_statements}
use Rattle.clone_window.specs.Bodies.{Body, locals_in, statements_at, are_same}
use Rattle.clone_window.specs.Fields.{FieldNames, window_fields_agree}
use Rattle.clone_classes.specs.Classes.{classes}
use Rattle.clone_classes.specs.Listing.{windows_of_all, listing}
use Rattle.clone_replies.proofs.Fields.{SameFields, all-fields, final_mapped, final-mapped}
use Rattle.clone_replies.proofs.Mapped.{hole-mapped, inside-mapped, all-locals-mapped, body-mapped, statements-at-mapped, all-windows-mapped}

-- all types of a function pass
abbrev pub passes : {T : Type 0} → (T → Bool) → Body T → Bool
passes P b = list_all (sort_has P) b.locals && every P b.root

-- ---- what passes in parts of trees that pass

module _ {T : Type 0} (P : T → Bool) where
  own-passes : (b : Bool) (x : Typed T) → every P x ≡ true → list_all (every P) (if b then x ∷ [] else []) ≡ true
  own-passes true x h = and_from (every P x) true h refl
  own-passes false x h = refl

  both-pass : (xs ys : List (Typed T)) → list_all (every P) xs ≡ true → list_all (every P) ys ≡ true → list_all (every P) (xs ++ ys) ≡ true
  both-pass [] ys h k = k
  both-pass (x ∷ xs) ys h k =
      let u = and_parts (every P x) (list_all (every P) xs) h in
      and_from (every P x) (list_all (every P) (xs ++ ys)) u.0 (both-pass xs ys u.1 k)

  mutual
    lists-pass : (x : Typed T) → every P x ≡ true → list_all (every P) (statement_lists x) ≡ true
    lists-pass (typed f i j l ps) h =
        let u = and_parts (sort_has P l.sort) (every_part P ps) h in
        both-pass (own_list (typed f i j l ps)) (lists_among ps) (own-passes (is_statement_list f) (typed f i j l ps) h) (among-pass ps u.1)

    among-pass : (ps : Typeds T) → every_part P ps ≡ true → list_all (every P) (lists_among ps) ≡ true
    among-pass none h = refl
    among-pass (more p ps) h =
        let u = and_parts (every P p) (every_part P ps) h in
        both-pass (statement_lists p) (lists_among ps) (lists-pass p u.0) (among-pass ps u.1)
    among-pass (skip ps) h = among-pass ps h

  present-pass : (ps : Typeds T) → every_part P ps ≡ true → list_all (every P) (present ps) ≡ true
  present-pass none h = refl
  present-pass (more p ps) h =
      let u = and_parts (every P p) (every_part P ps) h in
      and_from (every P p) (list_all (every P) (present ps)) u.0 (present-pass ps u.1)
  present-pass (skip ps) h = present-pass ps h

  drop-pass : (n : ℕ) (xs : List (Typed T)) → list_all (every P) xs ≡ true → list_all (every P) (drop n xs) ≡ true
  drop-pass zero xs h = h
  drop-pass (suc n) [] h = refl
  drop-pass (suc n) (x ∷ xs) h = drop-pass n xs (and_parts (every P x) (list_all (every P) xs) h).1

  take-pass : (n : ℕ) (xs : List (Typed T)) → list_all (every P) xs ≡ true → list_all (every P) (take n xs) ≡ true
  take-pass zero xs h = refl
  take-pass (suc n) [] h = refl
  take-pass (suc n) (x ∷ xs) h =
      let u = and_parts (every P x) (list_all (every P) xs) h in
      and_from (every P x) (list_all (every P) (take n xs)) u.0 (take-pass n xs u.1)

  row-passes : (xs : List (Typed T)) → list_all (every P) xs ≡ true → every_part P (row_of xs) ≡ true
  row-passes [] h = refl
  row-passes (x ∷ xs) h =
      let u = and_parts (every P x) (list_all (every P) xs) h in
      and_from (every P x) (every_part P (row_of xs)) u.0 (row-passes xs u.1)

  statements-pass : (x : Typed T) → every P x ≡ true → list_all (every P) (statements_of x) ≡ true
  statements-pass (typed f i j l ps) h =
      drop-pass (values_count f) (present ps) (present-pass ps (and_parts (sort_has P l.sort) (every_part P ps) h).1)

  found-passes : (xs : List (Typed T)) (n : ℕ) → list_all (every P) xs ≡ true → list_all (every P) (statements_in (slice_get xs n)) ≡ true
  found-passes [] n h = refl
  found-passes (x ∷ xs) zero h = statements-pass x (and_parts (every P x) (list_all (every P) xs) h).0
  found-passes (x ∷ xs) (suc n) h = found-passes xs n (and_parts (every P x) (list_all (every P) xs) h).1

  window-passes : (root : Typed T) (w : Window) → every P root ≡ true → every_part P (window_statements root w) ≡ true
  window-passes root w h =
      let found = statements_in (slice_get (statement_lists root) w.list) in
      row-passes (take w.count (drop w.first found)) (take-pass w.count (drop w.first found) (drop-pass w.first found (found-passes (statement_lists root) w.list (lists-pass root h))))

  there-passes : (bs : List (Body T)) (n : ℕ) (w : Window) → list_all (passes P) bs ≡ true → every_part P (statements_at (slice_get bs n) w) ≡ true
  there-passes [] n w h = refl
  there-passes (b ∷ bs) zero w h =
      window-passes b.root w (and_parts (list_all (sort_has P) b.locals) (every P b.root) (and_parts (passes P b) (list_all (passes P) bs) h).0).1
  there-passes (b ∷ bs) (suc n) w h = there-passes bs n w (and_parts (passes P b) (list_all (passes P) bs) h).1

  locals-pass : (bs : List (Body T)) (n : ℕ) → list_all (passes P) bs ≡ true → list_all (sort_has P) (locals_in (slice_get bs n)) ≡ true
  locals-pass [] n h = refl
  locals-pass (b ∷ bs) zero h = (and_parts (list_all (sort_has P) b.locals) (every P b.root) (and_parts (passes P b) (list_all (passes P) bs) h).0).0
  locals-pass (b ∷ bs) (suc n) h = locals-pass bs n (and_parts (passes P b) (list_all (passes P) bs) h).1

  local-passes : (sorts : List (Sort T)) (n : ℕ) → list_all (sort_has P) sorts ≡ true → sort_has P (sort_at sorts n) ≡ true
  local-passes [] n h = refl
  local-passes (s ∷ sorts) zero h = (and_parts (sort_has P s) (list_all (sort_has P) sorts) h).0
  local-passes (s ∷ sorts) (suc n) h = local-passes sorts n (and_parts (sort_has P s) (list_all (sort_has P) sorts) h).1

-- ---- without a test

module _ {T : Type 0} where
  any-sort : (s : Sort T) → sort_has (λ t. true) s ≡ true
  any-sort Nothing = refl
  any-sort Unknown = refl
  any-sort Blank = refl
  any-sort Nil = refl
  any-sort (Builtin b) = refl
  any-sort Println = refl
  any-sort Package = refl
  any-sort (IsType t) = refl
  any-sort (Value t) = refl
  any-sort (Constant t c) = refl
  any-sort (Open u) = refl
  any-sort (OpenConstant c) = refl
  any-sort (Results t) = refl

  mutual
    any-tree : (x : Typed T) → every (λ t. true) x ≡ true
    any-tree (typed f i j l ps) = and_from (sort_has (λ t. true) l.sort) (every_part (λ t. true) ps) (any-sort l.sort) (any-parts ps)

    any-parts : (ps : Typeds T) → every_part (λ t. true) ps ≡ true
    any-parts none = refl
    any-parts (more p ps) = and_from (every (λ t. true) p) (every_part (λ t. true) ps) (any-tree p) (any-parts ps)
    any-parts (skip ps) = any-parts ps

  any-sorts : (ss : List (Sort T)) → list_all (sort_has (λ t. true)) ss ≡ true
  any-sorts [] = refl
  any-sorts (s ∷ ss) = and_from (sort_has (λ t. true) s) (list_all (sort_has (λ t. true)) ss) (any-sort s) (any-sorts ss)

  pub any-bodies : (bs : List (Body T)) → list_all (passes (λ t. true)) bs ≡ true
  any-bodies [] = refl
  any-bodies (b ∷ bs) =
      and_from (passes (λ t. true) b) (list_all (passes (λ t. true)) bs)
      (and_from (list_all (sort_has (λ t. true)) b.locals) (every (λ t. true) b.root) (any-sorts b.locals) (any-tree b.root)) (any-bodies bs)

-- ---- what sorts show

module _ {T U : Type 0} (g : T → U) where
  standing-mapped : (s : Sort T) → standing (sort_mapped g s) ≡ standing s
  standing-mapped Nothing = refl
  standing-mapped Unknown = refl
  standing-mapped Blank = refl
  standing-mapped Nil = refl
  standing-mapped (Builtin b) = refl
  standing-mapped Println = refl
  standing-mapped Package = refl
  standing-mapped (IsType t) = refl
  standing-mapped (Value t) = refl
  standing-mapped (Constant t c) = refl
  standing-mapped (Open u) = refl
  standing-mapped (OpenConstant c) = refl
  standing-mapped (Results t) = refl

  pub value-mapped : (s : Sort T) → value_of (sort_mapped g s) ≡ value_of s
  value-mapped Nothing = refl
  value-mapped Unknown = refl
  value-mapped Blank = refl
  value-mapped Nil = refl
  value-mapped (Builtin b) = refl
  value-mapped Println = refl
  value-mapped Package = refl
  value-mapped (IsType t) = refl
  value-mapped (Value t) = refl
  value-mapped (Constant t c) = refl
  value-mapped (Open u) = refl
  value-mapped (OpenConstant c) = refl
  value-mapped (Results t) = refl

  pub sort-at-mapped : (sorts : List (Sort T)) (n : ℕ) → sort_at (map (sort_mapped g) sorts) n ≡ sort_mapped g (sort_at sorts n)
  sort-at-mapped [] n = refl
  sort-at-mapped (s ∷ sorts) zero = refl
  sort-at-mapped (s ∷ sorts) (suc n) = sort-at-mapped sorts n

  pub locals-in-mapped : (bs : List (Body T)) (n : ℕ) → locals_in (slice_get (map (body-mapped g) bs) n) ≡ map (sort_mapped g) (locals_in (slice_get bs n))
  locals-in-mapped [] n = refl
  locals-in-mapped (b ∷ bs) zero = refl
  locals-in-mapped (b ∷ bs) (suc n) = locals-in-mapped bs n

-- ---- sameness

module _ {T U : Type 0} (g : T → U) (d : T → T → Bool) (e : U → U → Bool) (P : T → Bool) (keeps : (t u : T) → P t ≡ true → P u ≡ true → e (g t) (g u) ≡ d t u) where
  type-passes : (s : Sort T) (t : T) → final s ≡ of_type t → sort_has P s ≡ true → P t ≡ true
  type-passes Nothing t h k = cc
  type-passes Unknown t h k = cc
  type-passes Blank t h k = cc
  type-passes Nil t h k = cc
  type-passes (Builtin b) t h k = cc
  type-passes Println t h k = cc
  type-passes Package t h k = cc
  type-passes (IsType u) t h k = cc
  type-passes (Value u) t h k = cc
  type-passes (Constant u c) t h k = cc
  type-passes (Open u) t h k = cc
  type-passes (OpenConstant c) t h k = cc
  type-passes (Results u) t h k = cc

  finals-by : (a b : Final T) → ((t : T) → a ≡ of_type t → P t ≡ true) → ((t : T) → b ≡ of_type t → P t ≡ true) → same_final e (final_mapped g a) (final_mapped g b) ≡ same_final d a b
  finals-by (of_type t) (of_type u) p q = keeps t u (p t refl) (q u refl)
  finals-by (of_type t) (of_kind k) p q = refl
  finals-by (of_type t) of_none p q = refl
  finals-by (of_kind k) (of_type u) p q = refl
  finals-by (of_kind k) (of_kind l) p q = refl
  finals-by (of_kind k) of_none p q = refl
  finals-by of_none (of_type u) p q = refl
  finals-by of_none (of_kind k) p q = refl
  finals-by of_none of_none p q = refl

  finals : (s t : Sort T) → sort_has P s ≡ true → sort_has P t ≡ true → same_final e (final (sort_mapped g s)) (final (sort_mapped g t)) ≡ same_final d (final s) (final t)
  finals s t p q =
      ap (λ a. same_final e a (final (sort_mapped g t))) (final-mapped g s)
      ∙ ap (same_final e (final_mapped g (final s))) (final-mapped g t)
      ∙ finals-by (final s) (final t) (λ u h. type-passes s u h p) (λ u h. type-passes t u h q)

  alike : (s t : Sort T) → sort_has P s ≡ true → sort_has P t ≡ true → are_alike e (sort_mapped g s) (sort_mapped g t) ≡ are_alike d s t
  alike s t p q =
      ap (λ n. nat_eq n (standing (sort_mapped g t)) && same_final e (final (sort_mapped g s)) (final (sort_mapped g t)) && same_values (value_of (sort_mapped g s)) (value_of (sort_mapped g t))) (standing-mapped g s)
      ∙ ap (λ n. nat_eq (standing s) n && same_final e (final (sort_mapped g s)) (final (sort_mapped g t)) && same_values (value_of (sort_mapped g s)) (value_of (sort_mapped g t))) (standing-mapped g t)
      ∙ ap (λ b. nat_eq (standing s) (standing t) && b && same_values (value_of (sort_mapped g s)) (value_of (sort_mapped g t))) (finals s t p q)
      ∙ ap (λ c. nat_eq (standing s) (standing t) && same_final d (final s) (final t) && same_values c (value_of (sort_mapped g t))) (value-mapped g s)
      ∙ ap (λ c. nat_eq (standing s) (standing t) && same_final d (final s) (final t) && same_values (value_of s) c) (value-mapped g t)

  literals : (s t : Sort T) → same_literal (value_of (sort_mapped g s)) (value_of (sort_mapped g t)) ≡ same_literal (value_of s) (value_of t)
  literals s t = ap (λ c. same_literal c (value_of (sort_mapped g t))) (value-mapped g s) ∙ ap (same_literal (value_of s)) (value-mapped g t)

  besides : (a b : Compared) (s t : Sort T) → sort_has P s ≡ true → sort_has P t ≡ true → agree_besides e a b (sort_mapped g s) (sort_mapped g t) ≡ agree_besides d a b s t
  besides by_form by_form s t p q = refl
  besides by_form by_sort s t p q = refl
  besides by_form by_literal s t p q = refl
  besides by_sort by_form s t p q = refl
  besides by_sort by_sort s t p q = alike s t p q
  besides by_sort by_literal s t p q = refl
  besides by_literal by_form s t p q = refl
  besides by_literal by_sort s t p q = refl
  besides by_literal by_literal s t p q = literals s t

  nodes : (a b : Bool) (f h : Form) (s t : Sort T) (parts : Bool) → sort_has P s ≡ true → sort_has P t ≡ true → agree_at e a b f h (sort_mapped g s) (sort_mapped g t) parts ≡ agree_at d a b f h s t parts
  nodes true true f h s t parts p q = finals s t p q
  nodes true false f h s t parts p q = refl
  nodes false true f h s t parts p q = refl
  nodes false false f h s t parts p q = ap (λ b. same_outline (outline f) (outline h) && b && parts) (besides (compared f) (compared h) s t p q)

  mutual
    trees : (a b : Bool) (x y : Typed T) → every P x ≡ true → every P y ≡ true → agree e a b (mapped g x) (mapped g y) ≡ agree d a b x y
    trees a b (typed f i j l ps) (typed h k m n qs) p q =
        let u = and_parts (sort_has P l.sort) (every_part P ps) p in
        let v = and_parts (sort_has P n.sort) (every_part P qs) q in
        let s = sort_mapped g l.sort in
        let t = sort_mapped g n.sort in
        ap (λ c. agree_at e c (is_hole b h (label_mapped g n)) f h s t (all_agree e (is_inside a f (label_mapped g l)) (is_inside b h (label_mapped g n)) (all_mapped g ps) (all_mapped g qs))) (hole-mapped g a f l)
        ∙ ap (λ c. agree_at e (is_hole a f l) c f h s t (all_agree e (is_inside a f (label_mapped g l)) (is_inside b h (label_mapped g n)) (all_mapped g ps) (all_mapped g qs))) (hole-mapped g b h n)
        ∙ ap (λ c. agree_at e (is_hole a f l) (is_hole b h n) f h s t (all_agree e c (is_inside b h (label_mapped g n)) (all_mapped g ps) (all_mapped g qs))) (inside-mapped g a f l)
        ∙ ap (λ c. agree_at e (is_hole a f l) (is_hole b h n) f h s t (all_agree e (is_inside a f l) c (all_mapped g ps) (all_mapped g qs))) (inside-mapped g b h n)
        ∙ ap (agree_at e (is_hole a f l) (is_hole b h n) f h s t) (rows (is_inside a f l) (is_inside b h n) ps qs u.1 v.1)
        ∙ nodes (is_hole a f l) (is_hole b h n) f h l.sort n.sort (all_agree d (is_inside a f l) (is_inside b h n) ps qs) u.0 v.0

    rows : (a b : Bool) (ps qs : Typeds T) → every_part P ps ≡ true → every_part P qs ≡ true → all_agree e a b (all_mapped g ps) (all_mapped g qs) ≡ all_agree d a b ps qs
    rows a b none none p q = refl
    rows a b none (more y qs) p q = refl
    rows a b none (skip qs) p q = refl
    rows a b (more x ps) none p q = refl
    rows a b (more x ps) (more y qs) p q =
        let u = and_parts (every P x) (every_part P ps) p in
        let v = and_parts (every P y) (every_part P qs) q in
        ap (λ c. c && all_agree e a b (all_mapped g ps) (all_mapped g qs)) (trees a b x y u.0 v.0) ∙ ap (λ c. agree d a b x y && c) (rows a b ps qs u.1 v.1)
    rows a b (more x ps) (skip qs) p q = refl
    rows a b (skip ps) none p q = refl
    rows a b (skip ps) (more y qs) p q = refl
    rows a b (skip ps) (skip qs) p q = rows a b ps qs p q

  pairs-mapped : (ps qs : Typeds T) → local_pairs (all_mapped g ps) (all_mapped g qs) ≡ local_pairs ps qs
  pairs-mapped ps qs = ap (λ xs. zip xs (all_locals false (all_mapped g qs))) (all-locals-mapped g false ps) ∙ ap (zip (all_locals false ps)) (all-locals-mapped g false qs)

  matched : (here there : List (Sort T)) (pair : ℕ × ℕ) → list_all (sort_has P) here ≡ true → list_all (sort_has P) there ≡ true →
      is_matched e (map (sort_mapped g) here) (map (sort_mapped g) there) pair ≡ is_matched d here there pair
  matched here there pair p q =
      ap (λ s. are_alike e s (sort_at (map (sort_mapped g) there) pair.1)) (sort-at-mapped g here pair.0)
      ∙ ap (are_alike e (sort_mapped g (sort_at here pair.0))) (sort-at-mapped g there pair.1)
      ∙ alike (sort_at here pair.0) (sort_at there pair.1) (local-passes P here pair.0 p) (local-passes P there pair.1 q)

  all-matched : (here there : List (Sort T)) (pairs : List (ℕ × ℕ)) → list_all (sort_has P) here ≡ true → list_all (sort_has P) there ≡ true →
      list_all (is_matched e (map (sort_mapped g) here) (map (sort_mapped g) there)) pairs ≡ list_all (is_matched d here there) pairs
  all-matched here there [] p q = refl
  all-matched here there (pair ∷ pairs) p q =
      ap (λ b. b && list_all (is_matched e (map (sort_mapped g) here) (map (sort_mapped g) there)) pairs) (matched here there pair p q)
      ∙ ap (λ b. is_matched d here there pair && b) (all-matched here there pairs p q)

  runs : (here there : List (Sort T)) (ps qs : Typeds T) → list_all (sort_has P) here ≡ true → list_all (sort_has P) there ≡ true → every_part P ps ≡ true → every_part P qs ≡ true →
      is_same e (map (sort_mapped g) here) (map (sort_mapped g) there) (all_mapped g ps) (all_mapped g qs) ≡ is_same d here there ps qs
  runs here there ps qs p q x y =
      let here' = map (sort_mapped g) here in
      let there' = map (sort_mapped g) there in
      ap (λ pairs. all_agree e false false (all_mapped g ps) (all_mapped g qs) && is_one_to_one pairs && list_all (is_matched e here' there') pairs) (pairs-mapped ps qs)
      ∙ ap (λ b. b && is_one_to_one (local_pairs ps qs) && list_all (is_matched e here' there') (local_pairs ps qs)) (rows false false ps qs x y)
      ∙ ap (λ b. all_agree d false false ps qs && is_one_to_one (local_pairs ps qs) && b) (all-matched here there (local_pairs ps qs) p q)

  abbrev nodes-same : {V : Type 0} → (V → V → Bool) → List (Body V) → Window → Window → Bool
  nodes-same i bs w v = is_same i (locals_in (slice_get bs w.func)) (locals_in (slice_get bs v.func)) (statements_at (slice_get bs w.func) w) (statements_at (slice_get bs v.func) v)

  nodes-mapped : (bs : List (Body T)) → list_all (passes P) bs ≡ true → (w v : Window) → nodes-same e (map (body-mapped g) bs) w v ≡ nodes-same d bs w v
  nodes-mapped bs h w v =
      let cs = map (body-mapped g) bs in
      let ws = statements_at (slice_get bs w.func) w in
      let vs = statements_at (slice_get bs v.func) v in
      ap (λ ls. is_same e ls (locals_in (slice_get cs v.func)) (statements_at (slice_get cs w.func) w) (statements_at (slice_get cs v.func) v)) (locals-in-mapped g bs w.func)
      ∙ ap (λ ls. is_same e (map (sort_mapped g) (locals_in (slice_get bs w.func))) ls (statements_at (slice_get cs w.func) w) (statements_at (slice_get cs v.func) v)) (locals-in-mapped g bs v.func)
      ∙ ap (λ ps. is_same e (map (sort_mapped g) (locals_in (slice_get bs w.func))) (map (sort_mapped g) (locals_in (slice_get bs v.func))) ps (statements_at (slice_get cs v.func) v)) (statements-at-mapped g bs w)
      ∙ ap (λ ps. is_same e (map (sort_mapped g) (locals_in (slice_get bs w.func))) (map (sort_mapped g) (locals_in (slice_get bs v.func))) (all_mapped g ws) ps) (statements-at-mapped g bs v)
      ∙ runs (locals_in (slice_get bs w.func)) (locals_in (slice_get bs v.func)) ws vs (locals-pass P bs w.func h) (locals-pass P bs v.func h) (there-passes P bs w.func w h) (there-passes P bs v.func v h)

  same-mapped : (n : FieldNames T) (m : FieldNames U) → SameFields g n m → (bs : List (Body T)) → list_all (passes P) bs ≡ true → (w v : Window) →
      are_same e m m (map (body-mapped g) bs) (map (body-mapped g) bs) w v ≡ are_same d n n bs bs w v
  same-mapped n m same bs h w v =
      let cs = map (body-mapped g) bs in
      let ws = statements_at (slice_get bs w.func) w in
      let vs = statements_at (slice_get bs v.func) v in
      ap (λ b. b && window_fields_agree m m (statements_at (slice_get cs w.func) w) (statements_at (slice_get cs v.func) v)) (nodes-mapped bs h w v)
      ∙ ap (λ ps. nodes-same d bs w v && window_fields_agree m m ps (statements_at (slice_get cs v.func) v)) (statements-at-mapped g bs w)
      ∙ ap (λ ps. nodes-same d bs w v && window_fields_agree m m (all_mapped g ws) ps) (statements-at-mapped g bs v)
      ∙ ap (λ b. nodes-same d bs w v && b) (all-fields g n m same false false Nothing Nothing ws vs)

  pub listing-mapped : (n : FieldNames T) (m : FieldNames U) → SameFields g n m → (bounds : Bounds) (bs : List (Body T)) → list_all (passes P) bs ≡ true →
      listing e m bounds (map (body-mapped g) bs) ≡ listing d n bounds bs
  listing-mapped n m same bounds bs h =
      ap (λ (same : Window → Window → Bool). classes same (windows_of_all bounds 0 (map (body-mapped g) bs))) (fun_ext (λ w. fun_ext (λ v. same-mapped n m same bs h w v)))
      ∙ ap (classes (are_same d n n bs bs)) (all-windows-mapped g bounds 0 bs)
