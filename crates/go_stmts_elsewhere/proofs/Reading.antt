-- The reading of statements at their new places: the induction over trees.
use Rattle.std.proofs.Common.{◌≡◌, ◌∙◌, ℕ, Bool, true, false, List, [], ◌∷◌, ◌++◌, map, Option, Some, None, refl, sym, ap, subst, cond}
use Rattle.std.specs.Option.{option_map}
use Rattle.std.proofs.lemmas.List.{map-append}
use Rattle.go_grammar.specs.declared.kind.Kind.{Kind}
use Rattle.go_grammar.specs.declared.kind.Kind.TheVariants as kind
use Rattle.go_grammar.specs.declared.kind.Sort.TheVariants as declaring
use Rattle.go_grammar.specs.Trees.{Tree, node, Trees, none, more, skip, kind_of}
use Rattle.go_rewriting.specs.Places.{carry, carries}
use Rattle.go_exprs_rules.specs.declared.fault.TypeFault.{TypeFault}
use Rattle.go_exprs_rules.specs.Scopes.{Hint, value}
use Rattle.go_exprs_rules.specs.Settling.{Part}
use Rattle.go_exprs_rules.specs.Tables.{Parts}
use Rattle.go_stmts_defs.specs.Frames.{Frame}
use Rattle.go_stmts_defs.specs.Laying.{told, layout, form_by}
use Rattle.go_stmts_defs.specs.Reading.{Found, holding, held_faults, entering, beginning, back, leaving, Reading, read, Readings, all_read, repeated, repeated_faults, left_out, left_out_faults, is_statement, closed, after, reading, readings}
use Rattle.go_stmts_defs.specs.Rules.{own_faults, built_by}
use Rattle.go_exprs_elsewhere.specs.Elsewhere.{Moves, placed, fault_placed, KeepsSpelling, AllKeepSpelling}
use Rattle.go_exprs_elsewhere.proofs.Public.{optional, parts, fails}
use Rattle.go_stmts_elsewhere.specs.Frames.{faults_placed, PlaceKept, KeepsPlaces, AllKeepPlaces, MaybeKeeps, AlongFrames, Named, AlongReadings}
use Rattle.go_stmts_elsewhere.proofs.Arranging.{layout_along, layout_is_named, form_kept, form_unnamed}
use Rattle.go_stmts_elsewhere.proofs.Entering.{entering_along, beginning_along, leaving_along}
use Rattle.go_stmts_elsewhere.proofs.Holding.{part_told, grown, holding_along, held_faults_along, holding_named}
use Rattle.go_stmts_elsewhere.proofs.Judging.{own_faults_along}
use Rattle.go_stmts_elsewhere.proofs.Naming.{AllNamed, both_named}
use Rattle.go_stmts_elsewhere.proofs.Placing.{all_count, back_along}
use Rattle.go_stmts_elsewhere.proofs.Taking.{built_along, built_named}

module _ (m : Moves) (l : ℕ → Bool) where
  abbrev pub AlongAll : Readings → Readings → Type 0
  AlongAll (all_read xs fs f) (all_read ys gs g) = (ys ≡ parts m xs) × (gs ≡ faults_placed m fs) × AlongFrames m l f g × AllNamed l xs

  -- ---- a node over its parts

  module _ (k : Kind) (i j : ℕ) (ps : Trees) (place : PlaceKept m k i j) (keeps : AllKeepSpelling m ps) where
    pub own_along : (f g : Frame) → AlongFrames m l f g → (xs : Parts) → AllNamed l xs
        → own_faults g k (form_by k (parts m xs)) (m.token i) (m.token j) (layout g k (m.token i) (parts m xs)) ≡ fails m (own_faults f k (form_by k xs) i j (layout f k i xs))
    own_along f g c xs n =
        ap (λ r. own_faults g k r (m.token i) (m.token j) (layout g k (m.token i) (parts m xs))) (form_kept m k xs)
        ∙ ap (own_faults g k (form_by k xs) (m.token i) (m.token j)) (layout_along m l f g c k i j xs n place)
        ∙ own_faults_along m l f g c k (form_by k xs) i j (layout f k i xs) (layout_is_named l f (all_count m l f g c) k i xs n) place

    node_along : (f g : Frame) → AlongFrames m l f g → (xs : Parts) → AllNamed l xs → (us vs : List TypeFault) → vs ≡ fails m us
        → built_by g k (form_by k (parts m xs)) (m.token i) (m.token j) (layout g k (m.token i) (parts m xs)) vs ≡ placed m (built_by f k (form_by k xs) i j (layout f k i xs) us)
    node_along f g c xs n us vs e =
        ap (λ r. built_by g k r (m.token i) (m.token j) (layout g k (m.token i) (parts m xs)) vs) (form_kept m k xs)
        ∙ ap (λ ys. built_by g k (form_by k xs) (m.token i) (m.token j) ys vs) (layout_along m l f g c k i j xs n place)
        ∙ ap (built_by g k (form_by k xs) (m.token i) (m.token j) (parts m (layout f k i xs))) e
        ∙ built_along m l f g c k xs i j (layout f k i xs) (layout_is_named l f (all_count m l f g c) k i xs n) us

    closed_on_parts : (a b f g : Frame) → AlongFrames m l a b → AlongFrames m l f g → (xs : Parts) → AllNamed l xs → (fs : Found)
        → AlongReadings m l (closed a k i j ps (all_read xs fs f)) (closed b k (m.token i) (m.token j) (carries m.token ps) (all_read (parts m xs) (faults_placed m fs) g))
    closed_on_parts a b f g d c xs n fs =
        let eo = own_along f g c xs n in
        let us = own_faults f k (form_by k xs) i j (layout f k i xs) in
        let x = built_by f k (form_by k xs) i j (layout f k i xs) us in
        let ex = node_along f g c xs n us (own_faults g k (form_by k (parts m xs)) (m.token i) (m.token j) (layout g k (m.token i) (parts m xs))) eo in
        let named = built_named l f k (form_by k xs) i j (layout f k i xs) us (form_unnamed l k xs) (layout_is_named l f (all_count m l f g c) k i xs n) in (
          ex,
          ap (λ z. faults_placed m fs ++ z ∷ []) eo ∙ sym (map-append (λ (gs : List TypeFault). map (fault_placed m) gs) fs (us ∷ [])),
          subst (λ z. AlongFrames m l (leaving k i ps x (back a f)) (leaving k (m.token i) (carries m.token ps) z (back b g))) (sym ex)
              (leaving_along m l (back a f) (back b g) (back_along m l a b f g d c) k i ps keeps x named),
          named,
        )

    closed_along : (a b : Frame) → AlongFrames m l a b → (r s : Readings) → AlongAll r s → AlongReadings m l (closed a k i j ps r) (closed b k (m.token i) (m.token j) (carries m.token ps) s)
    closed_along a b d (all_read xs fs f) (all_read ys gs g) e =
        subst (λ zs. AlongReadings m l (closed a k i j ps (all_read xs fs f)) (closed b k (m.token i) (m.token j) (carries m.token ps) (all_read zs gs g))) (sym e.0)
        (subst (λ hs. AlongReadings m l (closed a k i j ps (all_read xs fs f)) (closed b k (m.token i) (m.token j) (carries m.token ps) (all_read (parts m xs) hs g))) (sym e.1)
        (closed_on_parts a b f g d e.2 xs e.3 fs))

  -- ---- what constants repeat

  repeated_along : (f g : Frame) → AlongFrames m l f g → (o : Option Tree) → MaybeKeeps m o → repeated g (option_map (carry m.token) o) ≡ optional m (repeated f o)
  repeated_along f g c None w = refl
  repeated_along f g c (Some r) w = ap (λ x. Some x) (holding_along m l f g c value r w)

  repeated_faults_along : (f g : Frame) → AlongFrames m l f g → (o : Option Tree) → MaybeKeeps m o → repeated_faults g (option_map (carry m.token) o) ≡ faults_placed m (repeated_faults f o)
  repeated_faults_along f g c None w = refl
  repeated_faults_along f g c (Some r) w = held_faults_along m l f g c value r w

  repeated_named : (f g : Frame) → AlongFrames m l f g → (o : Option Tree) → AllNamed l (repeated f o ∷ [])
  repeated_named f g c None = tt
  repeated_named f g c (Some r) = (holding_named m l f g c value r, tt)

  left_along : (f g : Frame) → AlongFrames m l f g → (k : Kind) → left_out g k ≡ optional m (left_out f k)
  left_along f g c (kind.Specification declaring.Constant) = ap (repeated g) c.source ∙ repeated_along f g c f.source c.repeats
  left_along f g c k = refl

  left_faults_along : (f g : Frame) → AlongFrames m l f g → (k : Kind) → left_out_faults g k ≡ faults_placed m (left_out_faults f k)
  left_faults_along f g c (kind.Specification declaring.Constant) = ap (repeated_faults g) c.source ∙ repeated_faults_along f g c f.source c.repeats
  left_faults_along f g c k = refl

  left_named : (f g : Frame) → AlongFrames m l f g → (k : Kind) → AllNamed l (left_out f k ∷ [])
  left_named f g c (kind.Specification declaring.Constant) = repeated_named f g c f.source
  left_named f g c k = tt

  -- ---- trees

  after_along : (r s : Reading) (n o : Part → Found → Frame → Readings) → AlongReadings m l r s
      → ((x : Part) (fs : Found) (f g : Frame) → AlongFrames m l f g → Named l x → AlongAll (n x fs f) (o (placed m x) (faults_placed m fs) g)) → AlongAll (after r n) (after s o)
  after_along (read x fs f) (read y gs g) n o e k =
      subst (λ z. AlongAll (n x fs f) (o z gs g)) (sym e.0) (subst (λ hs. AlongAll (n x fs f) (o (placed m x) hs g)) (sym e.1) (k x fs f g e.2 e.3))

  by_kind : (b : Bool) (r s u v : Reading) → AlongReadings m l r s → AlongReadings m l u v → AlongReadings m l (cond b r u) (cond b s v)
  by_kind true r s u v e d = e
  by_kind false r s u v e d = d

  pub found_joined : (fs gs : Found) → faults_placed m fs ++ faults_placed m gs ≡ faults_placed m (fs ++ gs)
  found_joined fs gs = sym (map-append (λ (hs : List TypeFault). map (fault_placed m) hs) fs gs)

  mutual
    pub reading_along : (f g : Frame) → AlongFrames m l f g → (h : Hint) (x : Tree) → KeepsSpelling m x → KeepsPlaces m x → AlongReadings m l (reading f h x) (reading g h (carry m.token x))
    reading_along f g c h (node k i j ps) w v =
        by_kind (is_statement k) (closed f k i j ps (readings (beginning k i f) k h ps [] [] ps))
        (closed g k (m.token i) (m.token j) (carries m.token ps) (readings (beginning k (m.token i) g) k h (carries m.token ps) [] [] (carries m.token ps)))
        (read (holding f h (node k i j ps)) (held_faults f h (node k i j ps)) f) (read (holding g h (carry m.token (node k i j ps))) (held_faults g h (carry m.token (node k i j ps))) g)
        (closed_along k i j ps v.0 w.1 f g c (readings (beginning k i f) k h ps [] [] ps) (readings (beginning k (m.token i) g) k h (carries m.token ps) [] [] (carries m.token ps))
        (readings_along k (beginning k i f) (beginning k (m.token i) g) (beginning_along m l f g c k i) h ps [] tt [] ps w.1 v.1))
        (holding_along m l f g c h (node k i j ps) w, held_faults_along m l f g c h (node k i j ps) w, c, holding_named m l f g c h (node k i j ps))

    pub readings_along : (k : Kind) (f g : Frame) → AlongFrames m l f g → (h : Hint) (all : Trees) (xs : Parts) → AllNamed l xs → (fs : Found) (ps : Trees) → AllKeepSpelling m ps → AllKeepPlaces m ps
        → AlongAll (readings f k h all xs fs ps) (readings g k h (carries m.token all) (parts m xs) (faults_placed m fs) (carries m.token ps))
    readings_along k f g c h all xs n fs none w v = (refl, refl, c, n)
    readings_along k f g c h all xs n fs (skip ps) w v =
        let a = entering k xs f in
        let b = entering k (parts m xs) g in
        let d = entering_along m l f g c k xs n in
        let start = readings a k h all (xs ++ left_out a k ∷ []) (fs ++ left_out_faults a k) ps in
        subst (λ o. AlongAll start (readings b k h (carries m.token all) (parts m xs ++ o ∷ []) (faults_placed m fs ++ left_out_faults b k) (carries m.token ps))) (sym (left_along a b d k))
        (subst (λ gs. AlongAll start (readings b k h (carries m.token all) (parts m xs ++ optional m (left_out a k) ∷ []) (faults_placed m fs ++ gs) (carries m.token ps))) (sym (left_faults_along a b d k))
        (subst (λ gs. AlongAll start (readings b k h (carries m.token all) (parts m xs ++ optional m (left_out a k) ∷ []) gs (carries m.token ps))) (sym (found_joined fs (left_out_faults a k)))
        (subst (λ ys. AlongAll start (readings b k h (carries m.token all) ys (faults_placed m (fs ++ left_out_faults a k)) (carries m.token ps))) (sym (grown m xs (left_out a k)))
        (readings_along k a b d h all (xs ++ left_out a k ∷ []) (both_named l xs (left_out a k ∷ []) n (left_named a b d k)) (fs ++ left_out_faults a k) ps w v))))
    readings_along k f g c h all xs n fs (more x ps) w v =
        let a = entering k xs f in
        let b = entering k (parts m xs) g in
        let d = entering_along m l f g c k xs n in
        let to = told k h all xs (kind_of x) in
        after_along (reading a to x) (reading b (told k h (carries m.token all) (parts m xs) (kind_of (carry m.token x))) (carry m.token x)) (λ y gs t. readings t k h all (xs ++ Some y ∷ []) (fs ++ gs) ps)
        (λ y gs t. readings t k h (carries m.token all) (parts m xs ++ Some y ∷ []) (faults_placed m fs ++ gs) (carries m.token ps))
        (subst (λ z. AlongReadings m l (reading a to x) (reading b z (carry m.token x))) (sym (part_told m k h all xs x)) (reading_along a b d to x w.0 v.0))
        (λ y gs s t e o.
        subst (λ hs. AlongAll (readings s k h all (xs ++ Some y ∷ []) (fs ++ gs) ps) (readings t k h (carries m.token all) (parts m xs ++ Some (placed m y) ∷ []) hs (carries m.token ps))) (sym (found_joined fs gs))
        (subst (λ ys. AlongAll (readings s k h all (xs ++ Some y ∷ []) (fs ++ gs) ps) (readings t k h (carries m.token all) ys (faults_placed m (fs ++ gs)) (carries m.token ps))) (sym (grown m xs (Some y)))
        (readings_along k s t e h all (xs ++ Some y ∷ []) (both_named l xs (Some y ∷ []) n (o, tt)) (fs ++ gs) ps w.1 v.1)))
