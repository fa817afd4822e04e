-- Functions with other statements in place of some: the induction over their trees.
use Rattle.std.proofs.Common.{◌≡◌, ◌∙◌, ℕ, ◌⊎◌, inl, inr, Bool, true, false, List, [], ◌∷◌, ◌++◌, Some, Option, None, refl, sym, ap, subst}
use Rattle.std.specs.Prelude.{if◌then◌else◌, slice_get}
use Rattle.std.proofs.lemmas.List.{append-nil}
use Rattle.go_grammar.specs.declared.kind.Kind.{Kind}
use Rattle.go_grammar.specs.declared.kind.Kind.TheVariants as kind
use Rattle.go_grammar.specs.Trees.{Tree, node, Trees, none, more, skip, onto, kind_of}
use Rattle.go_rewriting.specs.Places.{carry}
use Rattle.go_typed.specs.declared.form.Form.{Form}
use Rattle.go_typed.specs.declared.form.Form.TheVariants as form
use Rattle.go_typed.specs.Trees.{typed, row}
use Rattle.go_typed.specs.Trees as sort
use Rattle.go_exprs_rules.specs.declared.fault.TypeFault.{TypeFault}
use Rattle.go_exprs_rules.specs.Scopes.{Hint, Scope, value}
use Rattle.go_exprs_rules.specs.Settling.{Part}
use Rattle.go_exprs_rules.specs.Tables.{Parts, held, all_held, label, is_judged}
use Rattle.go_stmts_defs.specs.Frames.{Frame}
use Rattle.go_stmts_defs.specs.Laying.{held_count, told, layout, form_by, if_parts, switch_parts, for_parts, first_loop_form}
use Rattle.go_stmts_defs.specs.Reading.{Found, holding, held_faults, Reading, read, Readings, all_read, tag_behind, entering, in_switch, back, leaving, left_out, left_out_faults, closed, after, reading, readings}
use Rattle.go_stmts_defs.specs.Rules.{loop_takes, taking, own_faults, built_by, all_given}
use Rattle.go_exprs_elsewhere.specs.Elsewhere.{Moves, placed}
use Rattle.go_stmts_elsewhere.specs.Above.{Container, a_block, an_if, a_switch, a_default, form_in, quiet, IsAbove}
use Rattle.go_stmts_elsewhere.specs.Gaps.{IsList, run, parts_in, found_in, behind, fronted}
use Rattle.go_stmts_elsewhere.specs.Frames.{faults_placed, Named}
use Rattle.go_stmts_elsewhere.specs.Marked.{AlongAt, AlongReadingsAt, KeepAt}
use Rattle.go_stmts_elsewhere.specs.Replaced.{HaveNoSource, unsourced, AreFree, AreStatementParts, Gap, SaysAs, Related, ChangedReadings, EachTakesItsPlace, HasInside, has_list, AreWhole, Changed, whole, inside, in_else, in_case, AllChanged, ended, next, left, others, Behindhand, OldsRead, AllOldsRead, ChangedPart, absent, stays, around, around_else, ChangedParts, no_more, one_more, in_place}
use Rattle.go_stmts_elsewhere.proofs.Above.{loop_types}
use Rattle.go_stmts_elsewhere.proofs.Around.{Keeps, back_kept, switch_kept, reading_kept, behind_kept}
use Rattle.go_stmts_elsewhere.proofs.Sources.{sourced, layout_so, held_so, faults_so, own_so, built_so, SameButSource, reading_so, carried_so}
use Rattle.go_stmts_elsewhere.proofs.ChangedCases.{AllThere, values_there, none_fails_in_case, case_built}
use Rattle.go_stmts_elsewhere.proofs.ChangedNodes.{both_changed, one_changed, if_changed, switch_changed, for_changed, all_given_changed, loop_takes_changed, tag_changed, of_first_loop}
use Rattle.go_stmts_elsewhere.proofs.Clauses.{list_read}
use Rattle.go_stmts_elsewhere.proofs.Free.{free_both, free_front, free_rest, free_or_not, nothing_found, found_nothing, free_placed}
use Rattle.go_stmts_elsewhere.proofs.FramesAt.{back_at, under_tag, unsourced_at}
use Rattle.go_stmts_elsewhere.proofs.Gaps.{run_first}
use Rattle.go_stmts_elsewhere.proofs.Hollow.{hollow, same_form, none_fails}
use Rattle.go_stmts_elsewhere.proofs.Marked.{StatementsFollow, reading_at}

-- ---- kinds

-- a kind whose parts are read one by one, a clause behind its values too
abbrev IsRow : Kind → Type 0
IsRow kind.Block = Unit {0}
IsRow kind.Default = Unit {0}
IsRow kind.Case = Unit {0}
IsRow kind.If = Unit {0}
IsRow kind.Switch = Unit {0}
IsRow kind.For = Unit {0}
IsRow k = ⊥

row_inside : (k : Kind) → HasInside k → IsRow k
row_inside kind.Block w = tt
row_inside kind.Default w = tt
row_inside kind.If w = tt
row_inside kind.Switch w = tt
row_inside kind.For w = tt
row_inside k w = absurd w

above_inside : (k : Kind) → HasInside k → IsAbove k
above_inside kind.Block w = tt
above_inside kind.Default w = tt
above_inside kind.If w = tt
above_inside kind.Switch w = tt
above_inside kind.For w = tt
above_inside k w = absurd w

is_list : (k : Kind) → IsRow k → has_list k ≡ true → IsList k
is_list kind.Block w e = tt
is_list kind.Default w e = tt
is_list kind.Case w e = tt
is_list kind.If w e = cc
is_list kind.Switch w e = cc
is_list kind.For w e = cc
is_list k w e = absurd w

told_value : (k : Kind) → IsRow k → (h : Hint) (all : Trees) (xs : Parts) (j : Kind) → told k h all xs j ≡ value
told_value kind.Block w h all xs j = refl
told_value kind.Default w h all xs j = refl
told_value kind.Case w h all xs j = refl
told_value kind.If w h all xs j = refl
told_value kind.Switch w h all xs j = refl
told_value kind.For w h all xs j = refl
told_value k w h all xs j = absurd w

-- a node with statements in it, opened
opened : (k : Kind) → HasInside k → (f : Frame) (h : Hint) (i j : ℕ) (ps : Trees) → reading f h (node k i j ps) ≡ closed f k i j ps (readings f k h ps [] [] ps)
opened kind.Block w f h i j ps = refl
opened kind.Default w f h i j ps = refl
opened kind.If w f h i j ps = refl
opened kind.Switch w f h i j ps = refl
opened kind.For w f h i j ps = refl
opened k w f h i j ps = absurd w

nothing_left : (k : Kind) → IsAbove k → (i : ℕ) (ps : Trees) (x : Part) (s : Frame) → leaving k i ps x s ≡ s
nothing_left kind.Block w i ps x s = refl
nothing_left kind.If w i ps x s = refl
nothing_left kind.Else w i ps x s = refl
nothing_left kind.Switch w i ps x s = refl
nothing_left kind.Case w i ps x s = refl
nothing_left kind.Default w i ps x s = refl
nothing_left kind.For w i ps x s = refl
nothing_left k w i ps x s = absurd w

-- ---- what is read in front stays

after_free : (fs : Found) (r : Reading) (n : Part → Found → Frame → Readings) → ((x : Part) (gs : Found) (u : Frame) → AreFree (found_in (n x gs u)) → AreFree (fs ++ gs)) → AreFree (found_in (after r n)) → AreFree fs
after_free fs (read x gs u) n k a = free_front fs gs (k x gs u a)

free_before : (k : Kind) (h : Hint) (all : Trees) (ts : Trees) (f : Frame) (xs : Parts) (fs : Found) → AreFree (found_in (readings f k h all xs fs ts)) → AreFree fs
free_before k h all none f xs fs a = a
free_before k h all (skip ts) f xs fs a =
    let s = entering k xs f in
    free_front fs (left_out_faults s k) (free_before k h all ts s (xs ++ left_out s k ∷ []) (fs ++ left_out_faults s k) a)
free_before k h all (more t ts) f xs fs a =
    after_free fs (reading (entering k xs f) (told k h all xs (kind_of t)) t) (λ x gs u. readings u k h all (xs ++ Some x ∷ []) (fs ++ gs) ts)
    (λ x gs u b. free_before k h all ts u (xs ++ Some x ∷ []) (fs ++ gs) b) a

-- statements of a list and then others
run_before : (k : Kind) → IsList k → (f : Frame) (h : Hint) (all : Trees) (xs : Parts) (fs : Found) (ts us : Trees)
    → readings f k h all xs fs (onto ts us) ≡ readings (behind f ts) k h all (xs ++ parts_in (run f ts)) (fs ++ found_in (run f ts)) us
run_before k w f h all xs fs ts us =
    list_read k w f h all xs fs (onto ts us) ∙ run_first f xs fs ts us ∙ sym (list_read k w (behind f ts) h all (xs ++ parts_in (run f ts)) (fs ++ found_in (run f ts)) us)

either_way : (b : Bool) (fs : List TypeFault) → fs ≡ [] → (if b then fs else []) ≡ []
either_way true fs e = e
either_way false fs e = refl

module _ (same : StatementsFollow) (p q : ℕ → Bool) (m : Moves) (l : ℕ → Bool) (s t : Scope) (gaps : List Gap) (each : EachTakesItsPlace p q m l s t gaps) where
  abbrev pub At : Frame → Frame → Type 0
  At f g = Related p q m l s t f g

  at_back : (a b f g : Frame) → At a b → At f g → At (back a f) (back b g)
  at_back a b f g d c = (back_at p q m l (unsourced a) (unsourced b) (unsourced f) (unsourced g) d.0 c.0, back_kept s a f c.1, back_kept t b g c.2)

  -- what is known of parts, of the rules that fail in the new ones, and of the frames behind both
  abbrev State : Bool → Parts → Parts → Found → Frame → Frame → Type 0
  State b xs ys gs f g = ChangedParts m l gaps b xs ys × AreFree gs × At f g

  abbrev Then : Bool → Readings → Readings → Type 0
  Then b (all_read xs fs f) (all_read ys gs g) = AreFree fs → State b xs ys gs f g

  abbrev pub Reads : Reading → Reading → Type 0
  Reads (read x fs f) (read y gs g) = AreFree fs → ChangedPart m l gaps (Some x) (Some y) × AreFree gs × At f g

  -- readings in these frames, and in those in which constants repeat nothing
  whole_read : (r w r0 w0 : Reading) → Keeps s r → Keeps t w → SameButSource r r0 → SameButSource w w0 → AlongReadingsAt p q m l r0 w0 → Reads r w
  whole_read (read x fs f) (read y gs g) (read x0 fs0 f0) (read y0 gs0 g0) c d er ew e = λ free. (
    subst (λ z. ChangedPart m l gaps (Some x) (Some z)) (sym (sym ew.0 ∙ e.0 ∙ ap (placed m) er.0)) (stays x (subst (Named l) er.0 e.3)),
    subst AreFree (sym (sym ew.1 ∙ e.1)) (free_placed m fs0 (subst AreFree (sym er.1) free)),
    (through er.2.0 ew.2.0 f g (subst (λ z. AlongAt p q m l z (sourced ew.2.0 g)) er.2.1 (subst (λ z. AlongAt p q m l f0 z) ew.2.1 e.2)), c, d),
  )
    where
      through : (o n : Option Tree) (f g : Frame) → AlongAt p q m l (sourced o f) (sourced n g) → AlongAt p q m l (unsourced f) (unsourced g)
      through o n f g c = unsourced_at p q m l (sourced o f) (sourced n g) c

  vacuous : (b : Bool) (r s : Readings) → (AreFree (found_in r) → ⊥) → Then b r s
  vacuous b (all_read xs fs f) (all_read ys gs g) e = λ free. absurd (e free)

  -- ---- in front of a part, and where one is left out

  switch_entering : (f g : Frame) → AlongAt p q m l (unsourced f) (unsourced g) → (xs ys : Parts) → ChangedParts m l gaps false xs ys
      → AlongAt p q m l (unsourced (in_switch xs f)) (unsourced (in_switch ys g))
  switch_entering f g c xs ys (no_more z) = c
  switch_entering f g c xs ys (one_more z x y us vs d (no_more t)) = under_tag p q m l (unsourced f) (unsourced g) c (tag_behind x) (tag_behind y) (tag_changed m l gaps x y d)
  switch_entering f g c xs ys (one_more z x y us vs d (one_more t a b os bs e w)) = c

  entering_changed : (k : Kind) → IsRow k → (b : Bool) → has_list k ≡ b → (f g : Frame) → At f g → (xs ys : Parts) → ChangedParts m l gaps b xs ys → At (entering k xs f) (entering k ys g)
  entering_changed kind.Block w b e f g c xs ys d = c
  entering_changed kind.Default w b e f g c xs ys d = c
  entering_changed kind.Case w b e f g c xs ys d = c
  entering_changed kind.If w b e f g c xs ys d = c
  entering_changed kind.Switch w b e f g c xs ys d =
      (switch_entering f g c.0 xs ys (subst (λ z. ChangedParts m l gaps z xs ys) (sym e) d), switch_kept s xs f c.1, switch_kept t ys g c.2)
  entering_changed kind.For w b e f g c xs ys d = c
  entering_changed k w b e f g c xs ys d = absurd w

  left_changed : (k : Kind) → IsRow k → (f g : Frame) → ChangedPart m l gaps (left_out f k) (left_out g k)
  left_changed kind.Block w f g = absent
  left_changed kind.Default w f g = absent
  left_changed kind.Case w f g = absent
  left_changed kind.If w f g = absent
  left_changed kind.Switch w f g = absent
  left_changed kind.For w f g = absent
  left_changed k w f g = absurd w

  left_free : (k : Kind) → IsRow k → (f : Frame) → AreFree (left_out_faults f k)
  left_free kind.Block w f = tt
  left_free kind.Default w f = tt
  left_free kind.Case w f = tt
  left_free kind.If w f = tt
  left_free kind.Switch w f = tt
  left_free kind.For w f = tt
  left_free k w f = absurd w

  left_none : (k : Kind) → IsRow k → (f : Frame) → left_out f k ≡ None
  left_none kind.Block w f = refl
  left_none kind.Default w f = refl
  left_none kind.Case w f = refl
  left_none kind.If w f = refl
  left_none kind.Switch w f = refl
  left_none kind.For w f = refl
  left_none k w f = absurd w

  -- ---- what follows a part

  after_changed : (b : Bool) (r s : Reading) (P : Part → Frame → Type 0) → Behindhand r P → (n o : Part → Found → Frame → Readings) → Reads r s
      → ((x : Part) (gs : Found) (u : Frame) (y : Part) (hs : Found) (v : Frame) → P x u → (AreFree gs → ChangedPart m l gaps (Some x) (Some y) × AreFree hs × At u v) → Then b (n x gs u) (o y hs v))
      → Then b (after r n) (after s o)
  after_changed b (read x gs u) (read y hs v) P t n o e k = k x gs u y hs v t e

  one_further : (b : Bool) (xs ys : Parts) (fs gs : Found) (x y : Part) (hs is : Found) (f g u v : Frame) → (AreFree fs → State b xs ys gs f g)
      → (AreFree hs → ChangedPart m l gaps (Some x) (Some y) × AreFree is × At u v) → AreFree (fs ++ hs) → State b (xs ++ Some x ∷ []) (ys ++ Some y ∷ []) (gs ++ is) u v
  one_further b xs ys fs gs x y hs is f g u v st k a =
      let s = st (free_front fs hs a) in
      let o = k (free_rest fs hs a) in
      (both_changed m l gaps b xs ys (Some x ∷ []) (Some y ∷ []) s.0 (one_changed m l gaps b (Some x) (Some y) o.0), free_both gs is s.1 o.1, o.2)

  left_further : (k : Kind) → IsRow k → (b : Bool) → has_list k ≡ b → (xs ys : Parts) (fs gs : Found) (f g : Frame) → (AreFree fs → State b xs ys gs f g)
      → AreFree (fs ++ left_out_faults (entering k xs f) k)
      → State b (xs ++ left_out (entering k xs f) k ∷ []) (ys ++ left_out (entering k ys g) k ∷ []) (gs ++ left_out_faults (entering k ys g) k) (entering k xs f) (entering k ys g)
  left_further k w b e xs ys fs gs f g st a =
      let s = st (free_front fs (left_out_faults (entering k xs f) k) a) in
      let o = left_out (entering k xs f) k in
      let n = left_out (entering k ys g) k in (
        both_changed m l gaps b xs ys (o ∷ []) (n ∷ []) s.0 (one_changed m l gaps b o n (left_changed k w (entering k xs f) (entering k ys g))),
        free_both gs (left_out_faults (entering k ys g) k) s.1 (left_free k w (entering k ys g)),
        entering_changed k w b e f g s.2 xs ys s.0,
      )

  gap_further : (n : ℕ) (gap : Gap) → slice_get gaps n ≡ Some gap → (xs ys : Parts) (fs gs : Found) (f g : Frame) → f ≡ gap.front → parts_in (run f gap.old) ≡ gap.olds → (AreFree fs → State true xs ys gs f g)
      → AreFree (fs ++ found_in (run f gap.old))
      → State true (xs ++ parts_in (run f gap.old)) (ys ++ parts_in (run g gap.new)) (gs ++ found_in (run g gap.new)) (behind f gap.old) (behind g gap.new)
  gap_further n gap e xs ys fs gs f g known o st a =
      let before = (st (free_front fs (found_in (run f gap.old)) a)).2 in
      let of_old : SaysAs s (behind f gap.old) = behind_kept s f before.1 gap.old in
      let of_new : SaysAs t (behind g gap.new) = behind_kept t g before.2 gap.new in
      let s = st (free_front fs (found_in (run f gap.old)) a) in
      let r = (each n gap e).reads f g s.2 known o (free_rest fs (found_in (run f gap.old)) a) in
      let ends : (zs : Parts) → zs ++ [] ≡ zs = λ zs. append-nil zs in
      let placed_in : ChangedParts m l gaps true gap.olds gap.news =
      subst (λ zs. ChangedParts m l gaps true zs gap.news) (ends gap.olds) (subst (λ zs. ChangedParts m l gaps true (gap.olds ++ []) zs) (ends gap.news) (in_place n gap e [] [] (no_more true))) in
      let both : ChangedParts m l gaps true (parts_in (run f gap.old)) (parts_in (run g gap.new)) =
      subst (λ zs. ChangedParts m l gaps true zs (parts_in (run g gap.new))) (sym o) (subst (λ zs. ChangedParts m l gaps true gap.olds zs) (sym r.0) placed_in) in
      (both_changed m l gaps true xs ys (parts_in (run f gap.old)) (parts_in (run g gap.new)) s.0 both, free_both gs (found_in (run g gap.new)) s.1 r.1, (r.2, of_old, of_new))

  -- ---- nodes over their parts

  closed_reads : (k : Kind) → IsAbove k → (f g : Frame) → At f g → (i j : ℕ) (ps qs : Trees) (xs ys : Parts) (fs gs : Found) (u v : Frame) → (AreFree fs → AreFree gs × At u v)
      → (AreFree fs → own_faults u k (form_by k xs) i j (layout u k i xs) ≡ []
      → (own_faults v k (form_by k ys) (m.token i) (m.token j) (layout v k (m.token i) ys) ≡ [])
      × ChangedPart m l gaps (Some (built_by u k (form_by k xs) i j (layout u k i xs) [])) (Some (built_by v k (form_by k ys) (m.token i) (m.token j) (layout v k (m.token i) ys) [])))
      → Reads (closed f k i j ps (all_read xs fs u)) (closed g k (m.token i) (m.token j) qs (all_read ys gs v))
  closed_reads k w f g c i j ps qs xs ys fs gs u v st core free =
      let own = own_faults u k (form_by k xs) i j (layout u k i xs) in
      let new = own_faults v k (form_by k ys) (m.token i) (m.token j) (layout v k (m.token i) ys) in
      let x : List TypeFault → Part = λ es. built_by u k (form_by k xs) i j (layout u k i xs) es in
      let y : List TypeFault → Part = λ es. built_by v k (form_by k ys) (m.token i) (m.token j) (layout v k (m.token i) ys) es in
      let a = free_front fs (own ∷ []) free in
      let e = nothing_found own (free_rest fs (own ∷ []) free) in
      let s = st a in
      let d = core a e in (
        subst (λ es. ChangedPart m l gaps (Some (x es)) (Some (y new))) (sym e) (subst (λ es. ChangedPart m l gaps (Some (x [])) (Some (y es))) (sym d.0) d.1),
        free_both gs (new ∷ []) s.0 (found_nothing new d.0),
        subst (λ t. At t (leaving k (m.token i) qs (y new) (back g v))) (sym (nothing_left k w i ps (x own) (back f u)))
            (subst (λ t. At (back f u) t) (sym (nothing_left k w (m.token i) qs (y new) (back g v))) (at_back f g u v c s.1)),
      )

  -- ---- nodes with statements in them

  -- The new node is a container like the old one, changed.
  record IsAround (x y : Part) : Type 0 where
    container : Container
    from : ℕ
    upto : ℕ
    names : Bool
    calls : Bool
    new_names : Bool
    new_calls : Bool
    lists : Bool
    olds : Parts
    news : Parts
    changed : ChangedParts m l gaps lists olds news
    old_is : x ≡ typed (form_in container) from upto (quiet names calls) (row olds)
    new_is : y ≡ typed (form_in container) (m.token from) (m.token upto) (quiet new_names new_calls) (row news)

  around_part : (x y : Part) → IsAround x y → ChangedPart m l gaps (Some x) (Some y)
  around_part x y a =
      subst (λ z. ChangedPart m l gaps (Some z) (Some y)) (sym a.old_is)
      (subst (λ z. ChangedPart m l gaps (Some (typed (form_in a.container) a.from a.upto (quiet a.names a.calls) (row a.olds))) (Some z)) (sym a.new_is)
      (around a.container a.from a.upto a.names a.calls a.new_names a.new_calls a.lists a.olds a.news a.changed))

  abbrev ReadsAround : Reading → Reading → Type 0
  ReadsAround (read x fs f) (read y gs g) = AreFree fs → IsAround x y × AreFree gs × At f g

  as_read : (r s : Reading) → ReadsAround r s → Reads r s
  as_read (read x fs f) (read y gs g) k = λ free. let o = k free in (around_part x y o.0, o.1, o.2)

  -- the same as closed_reads of such nodes
  closed_around : (k : Kind) → IsAbove k → (f g : Frame) → At f g → (i j : ℕ) (ps qs : Trees) (xs ys : Parts) (fs gs : Found) (u v : Frame) → (AreFree fs → AreFree gs × At u v)
      → (AreFree fs → own_faults u k (form_by k xs) i j (layout u k i xs) ≡ []
      → (own_faults v k (form_by k ys) (m.token i) (m.token j) (layout v k (m.token i) ys) ≡ [])
      × IsAround (built_by u k (form_by k xs) i j (layout u k i xs) []) (built_by v k (form_by k ys) (m.token i) (m.token j) (layout v k (m.token i) ys) []))
      → ReadsAround (closed f k i j ps (all_read xs fs u)) (closed g k (m.token i) (m.token j) qs (all_read ys gs v))
  closed_around k w f g c i j ps qs xs ys fs gs u v st core free =
      let own = own_faults u k (form_by k xs) i j (layout u k i xs) in
      let new = own_faults v k (form_by k ys) (m.token i) (m.token j) (layout v k (m.token i) ys) in
      let x : List TypeFault → Part = λ es. built_by u k (form_by k xs) i j (layout u k i xs) es in
      let y : List TypeFault → Part = λ es. built_by v k (form_by k ys) (m.token i) (m.token j) (layout v k (m.token i) ys) es in
      let a = free_front fs (own ∷ []) free in
      let e = nothing_found own (free_rest fs (own ∷ []) free) in
      let s = st a in
      let d = core a e in (
        subst (λ es. IsAround (x es) (y new)) (sym e) (subst (λ es. IsAround (x []) (y es)) (sym d.0) d.1),
        free_both gs (new ∷ []) s.0 (found_nothing new d.0),
        subst (λ t. At t (leaving k (m.token i) qs (y new) (back g v))) (sym (nothing_left k w i ps (x own) (back f u)))
            (subst (λ t. At (back f u) t) (sym (nothing_left k w (m.token i) qs (y new) (back g v))) (at_back f g u v c s.1)),
      )

  module _ (u v : Frame) (c : At u v) (i j : ℕ) (xs ys : Parts) where
    -- no rule fails where none failed
    none_there : (k : Kind) → IsAbove k → ChangedParts m l gaps false xs ys → own_faults u k (form_by k xs) i j (layout u k i xs) ≡ [] → own_faults v k (form_by k ys) (m.token i) (m.token j) (layout v k (m.token i) ys) ≡ []
    none_there k a w e =
        sym (own_in v k (m.token i) (m.token j) ys) ∙ none_fails p q m l (unsourced u) (unsourced v) c.0 k a i j xs ys (hollow m l gaps xs ys w) (own_in u k i j xs ∙ e)
      where
        own_in : (f : Frame) (k : Kind) (i j : ℕ) (xs : Parts) → own_faults (unsourced f) k (form_by k xs) i j (layout (unsourced f) k i xs) ≡ own_faults f k (form_by k xs) i j (layout f k i xs)
        own_in f k i j xs = ap (own_faults (unsourced f) k (form_by k xs) i j) (layout_so f None k i xs) ∙ own_so f None k (form_by k xs) i j (layout f k i xs)

    -- of an `if` or a switch, what it gives
    fixed_around : (k : Container) (f : Form) → f ≡ form_in k → (a b d e : Bool) (zs ws : Parts) → ChangedParts m l gaps false zs ws
        → IsAround (typed f i j (quiet a b) (row zs)) (typed f (m.token i) (m.token j) (quiet d e) (row ws))
    fixed_around k f e a b d t zs ws w = record {
      container = k;
      from = i;
      upto = j;
      names = a;
      calls = b;
      new_names = d;
      new_calls = t;
      lists = false;
      olds = zs;
      news = ws;
      changed = w;
      old_is = ap (λ z. typed z i j (quiet a b) (row zs)) e;
      new_is = ap (λ z. typed z (m.token i) (m.token j) (quiet d t) (row ws)) e;
    }

    if_built : ChangedParts m l gaps false xs ys → IsAround (built_by u kind.If form.If i j (if_parts xs) []) (built_by v kind.If form.If (m.token i) (m.token j) (if_parts ys) [])
    if_built w =
        let f = label form.If sort.Nothing (if_parts xs) in
        let g = label form.If sort.Nothing (if_parts ys) in
        let ks = taking u kind.If form.If (if_parts xs) in
        fixed_around an_if form.If refl f.varies f.calls g.varies g.calls (all_given ks (if_parts xs)) (all_given ks (if_parts ys))
        (all_given_changed m l gaps ks tt (if_parts xs) (if_parts ys) (if_changed m l gaps xs ys w))

    switch_built : ChangedParts m l gaps false xs ys
        → IsAround (built_by u kind.Switch form.Switch i j (switch_parts xs) []) (built_by v kind.Switch form.Switch (m.token i) (m.token j) (switch_parts ys) [])
    switch_built w =
        let f = label form.Switch sort.Nothing (switch_parts xs) in
        let g = label form.Switch sort.Nothing (switch_parts ys) in
        let ks = taking u kind.Switch form.Switch (switch_parts xs) in
        fixed_around a_switch form.Switch refl f.varies f.calls g.varies g.calls (all_given ks (switch_parts xs)) (all_given ks (switch_parts ys))
        (all_given_changed m l gaps ks tt (switch_parts xs) (switch_parts ys) (switch_changed m l gaps xs ys w))

    for_built : ChangedParts m l gaps false xs ys
        → IsAround (built_by u kind.For (first_loop_form xs) i j (for_parts xs) []) (built_by v kind.For (first_loop_form ys) (m.token i) (m.token j) (for_parts ys) [])
    for_built w =
        let us = for_parts xs in
        let vs = for_parts ys in
        let d = for_changed m l gaps xs ys w in
        let r = first_loop_form xs in
        let o = of_first_loop xs in
        let f = label r sort.Nothing us in
        let ks = loop_takes r us in
        let start : first_loop_form ys ≡ r = same_form p q m l (unsourced u) (unsourced v) c.0 kind.For tt i j xs ys (hollow m l gaps xs ys w) in
        subst (λ z. IsAround (built_by u kind.For r i j us []) (built_by v kind.For z (m.token i) (m.token j) vs [])) (sym start)
        (let g = label r sort.Nothing vs in
        subst (λ ls. IsAround (built_by u kind.For r i j us []) (typed r (m.token i) (m.token j) g (row (all_given ls vs)))) (sym (loop_takes_changed m l gaps r us vs d))
        (fixed_around o.container r o.form_of_it f.varies f.calls g.varies g.calls (all_given ks us) (all_given ks vs) (all_given_changed m l gaps ks (loop_types r us) us vs d)))

    list_built : (k : Container) (f : Form) → f ≡ form_in k → (b : Bool) (a d e t : Bool) → ChangedParts m l gaps b xs ys
        → IsAround (typed f i j (quiet a d) (row xs)) (typed f (m.token i) (m.token j) (quiet e t) (row ys))
    list_built k f e b a d r t w = record {
      container = k;
      from = i;
      upto = j;
      names = a;
      calls = d;
      new_names = r;
      new_calls = t;
      lists = b;
      olds = xs;
      news = ys;
      changed = w;
      old_is = ap (λ z. typed z i j (quiet a d) (row xs)) e;
      new_is = ap (λ z. typed z (m.token i) (m.token j) (quiet r t) (row ys)) e;
    }

    -- whichever kind it is of
    abbrev OneNode : Kind → Type 0
    OneNode k = own_faults u k (form_by k xs) i j (layout u k i xs) ≡ []
        → (own_faults v k (form_by k ys) (m.token i) (m.token j) (layout v k (m.token i) ys) ≡ [])
        × IsAround (built_by u k (form_by k xs) i j (layout u k i xs) []) (built_by v k (form_by k ys) (m.token i) (m.token j) (layout v k (m.token i) ys) [])

    one_node : (k : Kind) → HasInside k → ChangedParts m l gaps (has_list k) xs ys → OneNode k
    one_node kind.Block h w e =
        let f = label form.Block sort.Nothing xs in
        let g = label form.Block sort.Nothing ys in
        (either_way (is_judged ys) [] refl, list_built a_block form.Block refl true f.varies f.calls g.varies g.calls w)
    one_node kind.Default h w e =
        let f = label form.Default sort.Nothing xs in
        let g = label form.Default sort.Nothing ys in
        (either_way (is_judged ys) [] refl, list_built a_default form.Default refl true f.varies f.calls g.varies g.calls w)
    one_node kind.If h w e = (none_there kind.If tt w e, if_built w)
    one_node kind.Switch h w e = (none_there kind.Switch tt w e, switch_built w)
    one_node kind.For h w e = (none_there kind.For tt w e, for_built w)
    one_node k h w e = absurd h

  node_around : (k : Kind) → HasInside k → (f g : Frame) → At f g → (i j : ℕ) (ps qs : Trees) (r s : Readings) → Then (has_list k) r s
      → ReadsAround (closed f k i j ps r) (closed g k (m.token i) (m.token j) qs s)
  node_around k w f g c i j ps qs (all_read xs fs u) (all_read ys gs v) t =
      closed_around k (above_inside k w) f g c i j ps qs xs ys fs gs u v (λ a. let s = t a in (s.1, s.2)) (λ a. let s = t a in one_node u v s.2 i j xs ys k w s.0)

  -- ---- `else`

  else_part : (i j : ℕ) (a b d e : Bool) (x y : Part) → IsAround x y
      → ChangedPart m l gaps (Some (typed (form.Held kind.Else) i j (quiet a b) (sort.more x sort.none))) (Some (typed (form.Held kind.Else) (m.token i) (m.token j) (quiet d e) (sort.more y sort.none)))
  else_part i j a b d e x y o =
      subst (λ z. ChangedPart m l gaps (Some (typed (form.Held kind.Else) i j (quiet a b) (sort.more z sort.none))) (Some (typed (form.Held kind.Else) (m.token i) (m.token j) (quiet d e) (sort.more y sort.none)))) (sym o.old_is)
      (subst (λ z. ChangedPart m l gaps (Some (typed (form.Held kind.Else) i j (quiet a b) (sort.more (typed (form_in o.container) o.from o.upto (quiet o.names o.calls) (row o.olds)) sort.none)))
      (Some (typed (form.Held kind.Else) (m.token i) (m.token j) (quiet d e) (sort.more z sort.none)))) (sym o.new_is)
      (around_else o.container i j o.from o.upto a b o.names o.calls d e o.new_names o.new_calls o.lists o.olds o.news o.changed))

  abbrev over : Frame → ℕ → ℕ → Tree → Reading → Reading
  over s n k t r = closed s kind.Else n k (more t none) (after r (λ z gs u. all_read (Some z ∷ []) gs u))

  else_reads : (f g : Frame) → At f g → (h : Hint) (i j : ℕ) (x y : Tree) → ReadsAround (reading f value x) (reading g value y)
      → Reads (reading f h (node kind.Else i j (more x none))) (reading g h (node kind.Else (m.token i) (m.token j) (more y none)))
  else_reads f g c h i j x y = by (reading f value x) (reading g value y)
    where
      by : (r s : Reading) → ReadsAround r s → Reads (over f i j x r) (over g (m.token i) (m.token j) y s)
      by (read z fs u) (read w gs v) k =
          let a = label (form.Held kind.Else) sort.Nothing (Some z ∷ []) in
          let b = label (form.Held kind.Else) sort.Nothing (Some w ∷ []) in
          closed_reads kind.Else tt f g c i j (more x none) (more y none) (Some z ∷ []) (Some w ∷ []) fs gs u v (λ free. let o = k free in (o.1, o.2))
          (λ free e. let o = k free in (either_way (is_judged (Some w ∷ [])) [] refl, else_part i j a.varies a.calls b.varies b.calls z w o.0))

  -- ---- clauses with values

  stand : (n : ℕ) (gap : Gap) → slice_get gaps n ≡ Some gap → AreStatementParts gap.olds × AreStatementParts gap.news
  stand n gap e = ((each n gap e).olds_stand, (each n gap e).news_stand)

  case_reads : (f g : Frame) → At f g → (i j a b : ℕ) (vs : Trees) → AreWhole vs → KeepAt p q m (node kind.ExpressionList a b vs) → HaveNoSource vs → (h : Hint) (ps qs : Trees) → Then true (run f ps) (run g qs)
      → Reads (reading f h (node kind.Case i j (more (node kind.ExpressionList a b vs) ps))) (reading g h (node kind.Case (m.token i) (m.token j) (more (carry m.token (node kind.ExpressionList a b vs)) qs)))
  case_reads f g c i j a b vs there keep sources h ps qs t =
      let list = node kind.ExpressionList a b vs in
      let moved = carry m.token list in
      let x = holding f value list in
      let xs = held_faults f value list in
      let y = holding g value moved in
      let ys = held_faults g value moved in
      let all = more list ps in
      let new = more moved qs in
      let read_at : AlongReadingsAt p q m l (read (holding (unsourced f) value list) (held_faults (unsourced f) value list) (unsourced f)) (read (holding (unsourced g) value moved) (held_faults (unsourced g) value moved) (unsourced g)) =
      reading_at same p q m l (unsourced f) (unsourced g) c.0 value list keep in
      let parts_same : y ≡ placed m x = sym (held_so g None value moved) ∙ read_at.0 ∙ ap (placed m) (held_so f None value list) in
      let found_same : ys ≡ faults_placed m xs = sym (faults_so g None value moved) ∙ read_at.1 ∙ ap (faults_placed m) (faults_so f None value list) in
      subst (λ r. Reads (closed f kind.Case i j all r) (reading g h (node kind.Case (m.token i) (m.token j) new))) (sym (list_read kind.Case tt f h all (Some x ∷ []) xs ps))
      (subst (λ s. Reads (closed f kind.Case i j all (fronted (Some x ∷ []) xs (run f ps))) (closed g kind.Case (m.token i) (m.token j) new s)) (sym (list_read kind.Case tt g h new (Some y ∷ []) ys qs))
      (by (run f ps) (run g qs) t x xs y ys (parts_same, found_same) (subst (Named l) (held_so f None value list) read_at.3) (values_there f a b vs there)))
    where
      by : (r s : Readings) → Then true r s → (x : Part) (xs : Found) (y : Part) (ys : Found) → (y ≡ placed m x) × (ys ≡ faults_placed m xs) → Named l x → AllThere (held (Some x))
          → Reads (closed f kind.Case i j (more (node kind.ExpressionList a b vs) ps) (fronted (Some x ∷ []) xs r)) (closed g kind.Case (m.token i) (m.token j) (more (carry m.token (node kind.ExpressionList a b vs)) qs) (fronted (Some y ∷ []) ys s))
      by (all_read rs fs u) (all_read ss gs v) t x xs y ys e named there =
          subst (λ z. Reads (closed f kind.Case i j (more (node kind.ExpressionList a b vs) ps) (all_read (Some x ∷ rs) (xs ++ fs) u))
          (closed g kind.Case (m.token i) (m.token j) (more (carry m.token (node kind.ExpressionList a b vs)) qs) (all_read (Some z ∷ ss) (ys ++ gs) v))) (sym e.0)
          (closed_reads kind.Case tt f g c i j (more (node kind.ExpressionList a b vs) ps) (more (carry m.token (node kind.ExpressionList a b vs)) qs) (Some x ∷ rs) (Some (placed m x) ∷ ss) (xs ++ fs) (ys ++ gs) u v
          (λ free. let o = t (free_rest xs fs free) in (free_both ys gs (subst AreFree (sym e.1) (free_placed m xs (free_front xs fs free))) o.1, o.2))
          (λ free d. let o = t (free_rest xs fs free) in (
            sym (own_so v None kind.Case (form.Case (held_count (Some (placed m x)))) (m.token i) (m.token j) (all_held (Some (placed m x) ∷ ss)))
                ∙ none_fails_in_case m l gaps stand p q (unsourced u) (unsourced v) o.2.0 i j x named there rs ss o.0 (own_so u None kind.Case (form.Case (held_count (Some x))) i j (all_held (Some x ∷ rs)) ∙ d),
            subst (λ z. ChangedPart m l gaps (Some z) (Some (built_by v kind.Case (form.Case (held_count (Some (placed m x)))) (m.token i) (m.token j) (all_held (Some (placed m x) ∷ ss)) [])))
                (built_so u None kind.Case (form.Case (held_count (Some x))) i j (all_held (Some x ∷ rs)) [])
                (subst (λ z. ChangedPart m l gaps (Some (built_by (unsourced u) kind.Case (form.Case (held_count (Some x))) i j (all_held (Some x ∷ rs)) [])) (Some z))
                (built_so v None kind.Case (form.Case (held_count (Some (placed m x)))) (m.token i) (m.token j) (all_held (Some (placed m x) ∷ ss)) [])
                (case_built m l gaps stand p q (unsourced u) (unsourced v) o.2.0 i j x named there rs ss o.0)),
          )))

  -- ---- a part of a row, and what is left

  next_read : (k : Kind) (w : IsRow k) (z : Bool) (e : has_list k ≡ z) (f g : Frame) (h : Hint) (all new : Trees) (xs ys : Parts) (fs gs : Found) (st : AreFree fs → State z xs ys gs f g) (x y : Tree) (os bs : Trees)
      (P : Part → Frame → Type 0) → Behindhand (reading (entering k xs f) value x) P → (At (entering k xs f) (entering k ys g) → Reads (reading (entering k xs f) value x) (reading (entering k ys g) value y))
      → ((r : Part) (hs : Found) (u : Frame) (v : Part) (js : Found) (t : Frame) → P r u → (AreFree hs → ChangedPart m l gaps (Some r) (Some v) × AreFree js × At u t)
      → Then z (readings u k h all (xs ++ Some r ∷ []) (fs ++ hs) os) (readings t k h new (ys ++ Some v ∷ []) (gs ++ js) bs))
      → AreFree fs ⊎ (AreFree fs → ⊥) → Then z (readings f k h all xs fs (more x os)) (readings g k h new ys gs (more y bs))
  next_read k w z e f g h all new xs ys fs gs st x y os bs P past here follows (inr never) =
      vacuous z (readings f k h all xs fs (more x os)) (readings g k h new ys gs (more y bs)) (λ a. never (free_before k h all (more x os) f xs fs a))
  next_read k w z e f g h all new xs ys fs gs st x y os bs P past here follows (inl free) =
      let s = st free in
      let a = entering k xs f in
      let n = entering k ys g in
      let at = entering_changed k w z e f g s.2 xs ys s.0 in
      subst (λ j. Then z (after (reading a j x) (λ r gs t. readings t k h all (xs ++ Some r ∷ []) (fs ++ gs) os)) (readings g k h new ys gs (more y bs))) (sym (told_value k w h all xs (kind_of x)))
      (subst (λ j. Then z (after (reading a value x) (λ r gs t. readings t k h all (xs ++ Some r ∷ []) (fs ++ gs) os)) (after (reading n j y) (λ r hs t. readings t k h new (ys ++ Some r ∷ []) (gs ++ hs) bs))) (sym (told_value k w h new ys (kind_of y)))
      (after_changed z (reading a value x) (reading n value y) P past
      (λ r gs t. readings t k h all (xs ++ Some r ∷ []) (fs ++ gs) os) (λ r hs t. readings t k h new (ys ++ Some r ∷ []) (gs ++ hs) bs) (here at) follows))

  -- ---- trees

  inside_read : (f g : Frame) → At f g → (h : Hint) (k : Kind) (w : HasInside k) (i j : ℕ) (ps qs : Trees) → Then (has_list k) (readings f k h ps [] [] ps) (readings g k h qs [] [] qs)
      → ReadsAround (reading f h (node k i j ps)) (reading g h (node k (m.token i) (m.token j) qs))
  inside_read f g c h k w i j ps qs t =
      subst (λ r. ReadsAround r (reading g h (node k (m.token i) (m.token j) qs))) (sym (opened k w f h i j ps))
      (subst (λ s. ReadsAround (closed f k i j ps (readings f k h ps [] [] ps)) s) (sym (opened k w g h (m.token i) (m.token j) qs))
      (node_around k w f g c i j ps qs (readings f k h ps [] [] ps) (readings g k h qs [] [] qs) t))

  mutual
    pub changed_read : (f g : Frame) → At f g → (h : Hint) (x y : Tree) (d : Changed p q m gaps x y) → OldsRead p q m gaps f x y d → Reads (reading f h x) (reading g h y)
    changed_read f g c h x y (whole z keep sources) o =
        whole_read (reading f h z) (reading g h (carry m.token z)) (reading (unsourced f) h z) (reading (unsourced g) h (carry m.token z)) (reading_kept s f c.1 h z) (reading_kept t g c.2 h (carry m.token z))
        (reading_so f None h z sources) (reading_so g None h (carry m.token z) (carried_so m.token z sources)) (reading_at same p q m l (unsourced f) (unsourced g) c.0 h z keep)
    changed_read f g c h x y (inside k w i j ps qs d) o =
        as_read (reading f h (node k i j ps)) (reading g h (node k (m.token i) (m.token j) qs)) (inside_read f g c h k w i j ps qs
        (all_changed k (row_inside k w) (has_list k) refl f g h ps qs [] [] [] [] (λ free. (no_more (has_list k), tt, c)) ps qs d o))
    changed_read f g c h x y (in_else k w i j a b ps qs d) o = else_reads f g c h i j (node k a b ps) (node k (m.token a) (m.token b) qs) (inside_read f g c value k w a b ps qs
        (all_changed k (row_inside k w) (has_list k) refl f g value ps qs [] [] [] [] (λ free. (no_more (has_list k), tt, c)) ps qs d o))
    changed_read f g c h x y (in_case i j a b vs there keep sources ps qs d) o =
        case_reads f g c i j a b vs there keep sources h ps qs (all_changed kind.Block tt true refl f g value none none [] [] [] [] (λ free. (no_more true, tt, c)) ps qs d o)

    all_changed : (k : Kind) → IsRow k → (b : Bool) → has_list k ≡ b → (f g : Frame) (h : Hint) (all new : Trees) (xs ys : Parts) (fs gs : Found) → (AreFree fs → State b xs ys gs f g) → (ts us : Trees)
        → (d : AllChanged p q m gaps b ts us) → AllOldsRead p q m gaps f k xs b ts us d → Then b (readings f k h all xs fs ts) (readings g k h new ys gs us)
    all_changed k w b e f g h all new xs ys fs gs st ts us (ended z) o = st
    all_changed k w b e f g h all new xs ys fs gs st ts us (left z os bs d) o =
        all_changed k w z e (entering k xs f) (entering k ys g) h all new (xs ++ left_out (entering k xs f) k ∷ []) (ys ++ left_out (entering k ys g) k ∷ [])
        (fs ++ left_out_faults (entering k xs f) k) (gs ++ left_out_faults (entering k ys g) k) (left_further k w z e xs ys fs gs f g st) os bs d
        (subst (λ n. AllOldsRead p q m gaps (entering k xs f) k (xs ++ n ∷ []) z os bs d) (sym (left_none k w (entering k xs f))) o)
    all_changed k w b e f g h all new xs ys fs gs st ts us (others n gap t os bs d) o =
        subst (λ r. Then true r (readings g k h new ys gs (onto gap.new bs))) (sym (run_before k (is_list k w e) f h all xs fs gap.old os))
        (subst (λ s. Then true (readings (behind f gap.old) k h all (xs ++ parts_in (run f gap.old)) (fs ++ found_in (run f gap.old)) os) s) (sym (run_before k (is_list k w e) g h new ys gs gap.new bs))
        (all_changed k w true e (behind f gap.old) (behind g gap.new) h all new (xs ++ parts_in (run f gap.old)) (ys ++ parts_in (run g gap.new)) (fs ++ found_in (run f gap.old)) (gs ++ found_in (run g gap.new))
        (gap_further n gap t xs ys fs gs f g o.1 o.0 st) os bs d (subst (λ zs. AllOldsRead p q m gaps (behind f gap.old) k (xs ++ zs) true os bs d) (sym o.0) o.2)))
    all_changed k w b e f g h all new xs ys fs gs st ts us (next z x y os bs c d) o =
        next_read k w z e f g h all new xs ys fs gs st x y os bs (λ r t. AllOldsRead p q m gaps t k (xs ++ Some r ∷ []) z os bs d) o.1
        (λ at. changed_read (entering k xs f) (entering k ys g) at value x y c o.0)
        (λ r hs u v js t past i. all_changed k w z e u t h all new (xs ++ Some r ∷ []) (ys ++ Some v ∷ []) (fs ++ hs) (gs ++ js) (one_further z xs ys fs gs r v hs js f g u t st i) os bs d past) (free_or_not fs)

  -- what frames say around the function aside
  pub forgotten : (r w : Reading) → Reads r w → ChangedReadings p q m l gaps r w
  forgotten (read x fs f) (read y gs g) k = λ free. let o = k free in (o.0, o.1, o.2.0)
