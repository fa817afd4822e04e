-- The reading of statements with other numbers of declared types.
use Rattle.std.proofs.Common.{◌≡◌, ◌∙◌, ℕ, Bool, true, false, List, [], ◌∷◌, ◌++◌, Option, Some, None, refl, sym, ap, subst, cond}
use Rattle.go_grammar.specs.declared.kind.Kind.{Kind}
use Rattle.go_grammar.specs.declared.kind.Kind.TheVariants as kind
use Rattle.go_grammar.specs.declared.kind.Sort.TheVariants as declaring
use Rattle.go_grammar.specs.Trees.{Tree, node, Trees, none, more, skip, kind_of}
use Rattle.go_exprs_rules.specs.declared.fault.TypeFault.{TypeFault}
use Rattle.go_exprs_rules.specs.Scopes.{Hint, value}
use Rattle.go_exprs_rules.specs.Settling.{Part}
use Rattle.go_exprs_rules.specs.Tables.{Parts}
use Rattle.go_stmts_defs.specs.Frames.{Frame}
use Rattle.go_stmts_defs.specs.Laying.{told, layout, form_by}
use Rattle.go_stmts_defs.specs.Reading.{Found, holding, held_faults, entering, beginning, back, leaving, Reading, read, Readings, all_read, repeated, repeated_faults, left_out, left_out_faults, is_statement, closed, after, reading, readings}
use Rattle.go_stmts_defs.specs.Rules.{own_faults, built_by}
use Rattle.go_renumbering.specs.Renumbered.{part_renamed, hint_renamed}
use Rattle.go_renumbering.proofs.Parts.{optional, parts}
use Rattle.go_renumbering.specs.Frames.{RenamedFrames, RenamedReadings}
use Rattle.go_renumbering.proofs.Arranging.{told_kept, layout_kept, form_kept}
use Rattle.go_renumbering.proofs.Entering.{entering_renamed, beginning_renamed, back_renamed, leaving_renamed}
use Rattle.go_renumbering.proofs.Holding.{grown, holding_kept, held_faults_kept}
use Rattle.go_renumbering.proofs.Taking.{own_faults_kept, built_by_kept}

module _ (name : ℕ → ℕ) where
  abbrev now : Hint → Hint
  now h = hint_renamed name h

  abbrev RenamedAll : Readings → Readings → Type 0
  RenamedAll (all_read xs fs f) (all_read ys gs g) = (ys ≡ parts name xs) × (gs ≡ fs) × RenamedFrames name f g

  -- ---- a node

  own_same : (f g : Frame) → RenamedFrames name f g → (k : Kind) (i j : ℕ) (xs : Parts) → own_faults g k (form_by k (parts name xs)) i j (layout g k i (parts name xs)) ≡ own_faults f k (form_by k xs) i j (layout f k i xs)
  own_same f g c k i j xs =
      ap (λ r. own_faults g k r i j (layout g k i (parts name xs))) (form_kept name k xs) ∙ ap (own_faults g k (form_by k xs) i j) (layout_kept name f g c k i xs) ∙ own_faults_kept name f g c k (form_by k xs) i j (layout f k i xs)

  node_same : (f g : Frame) → RenamedFrames name f g → (k : Kind) (i j : ℕ) (xs : Parts) (us vs : List TypeFault) → vs ≡ us
      → built_by g k (form_by k (parts name xs)) i j (layout g k i (parts name xs)) vs ≡ part_renamed name (built_by f k (form_by k xs) i j (layout f k i xs) us)
  node_same f g c k i j xs us vs e =
      ap (λ r. built_by g k r i j (layout g k i (parts name xs)) vs) (form_kept name k xs) ∙ ap (λ ys. built_by g k (form_by k xs) i j ys vs) (layout_kept name f g c k i xs)
      ∙ ap (built_by g k (form_by k xs) i j (parts name (layout f k i xs))) e ∙ built_by_kept name f g c k (form_by k xs) i j (layout f k i xs) us

  closed_on_parts : (a b f g : Frame) → RenamedFrames name a b → RenamedFrames name f g → (k : Kind) (i j : ℕ) (ps : Trees) (xs : Parts) (fs : Found)
      → RenamedReadings name (closed a k i j ps (all_read xs fs f)) (closed b k i j ps (all_read (parts name xs) fs g))
  closed_on_parts a b f g d c k i j ps xs fs =
      let eo = own_same f g c k i j xs in
      let us = own_faults f k (form_by k xs) i j (layout f k i xs) in
      let x = built_by f k (form_by k xs) i j (layout f k i xs) us in
      let ex = node_same f g c k i j xs us (own_faults g k (form_by k (parts name xs)) i j (layout g k i (parts name xs))) eo in (
        ex,
        ap (λ z. fs ++ z ∷ []) eo,
        subst (λ z. RenamedFrames name (leaving k i ps x (back a f)) (leaving k i ps z (back b g))) (sym ex) (leaving_renamed name (back a f) (back b g) (back_renamed name a b f g d c) k i ps x),
      )

  closed_kept : (a b : Frame) → RenamedFrames name a b → (k : Kind) (i j : ℕ) (ps : Trees) (r s : Readings) → RenamedAll r s → RenamedReadings name (closed a k i j ps r) (closed b k i j ps s)
  closed_kept a b d k i j ps (all_read xs fs f) (all_read ys gs g) e =
      subst (λ zs. RenamedReadings name (closed a k i j ps (all_read xs fs f)) (closed b k i j ps (all_read zs gs g))) (sym e.0)
      (subst (λ hs. RenamedReadings name (closed a k i j ps (all_read xs fs f)) (closed b k i j ps (all_read (parts name xs) hs g))) (sym e.1) (closed_on_parts a b f g d e.2 k i j ps xs fs))

  -- ---- parts that are left out

  repeated_same : (f g : Frame) → RenamedFrames name f g → (o : Option Tree) → repeated g o ≡ optional name (repeated f o)
  repeated_same f g c None = refl
  repeated_same f g c (Some r) = ap Some (holding_kept name f g c value r)

  repeated_fails : (f g : Frame) → RenamedFrames name f g → (o : Option Tree) → repeated_faults g o ≡ repeated_faults f o
  repeated_fails f g c None = refl
  repeated_fails f g c (Some r) = held_faults_kept name f g c value r

  left_same : (f g : Frame) → RenamedFrames name f g → (k : Kind) → left_out g k ≡ optional name (left_out f k)
  left_same f g c (kind.Specification declaring.Constant) = ap (repeated g) c.source ∙ repeated_same f g c f.source
  left_same f g c k = refl

  left_fails : (f g : Frame) → RenamedFrames name f g → (k : Kind) → left_out_faults g k ≡ left_out_faults f k
  left_fails f g c (kind.Specification declaring.Constant) = ap (repeated_faults g) c.source ∙ repeated_fails f g c f.source
  left_fails f g c k = refl

  -- ---- trees

  after_kept : (r s : Reading) (n m : Part → Found → Frame → Readings) → RenamedReadings name r s
      → ((x : Part) (fs : Found) (f g : Frame) → RenamedFrames name f g → RenamedAll (n x fs f) (m (part_renamed name x) fs g)) → RenamedAll (after r n) (after s m)
  after_kept (read x fs f) (read y gs g) n m e k =
      subst (λ z. RenamedAll (n x fs f) (m z gs g)) (sym e.0) (subst (λ hs. RenamedAll (n x fs f) (m (part_renamed name x) hs g)) (sym e.1) (k x fs f g e.2))

  either : (b : Bool) (r s u v : Reading) → RenamedReadings name r s → RenamedReadings name u v → RenamedReadings name (cond b r u) (cond b s v)
  either true r s u v e d = e
  either false r s u v e d = d

  mutual
    pub reading_kept : (f g : Frame) → RenamedFrames name f g → (h : Hint) (x : Tree) → RenamedReadings name (reading f h x) (reading g (now h) x)
    reading_kept f g c h (node k i j ps) =
        either (is_statement k) (closed f k i j ps (readings (beginning k i f) k h ps [] [] ps)) (closed g k i j ps (readings (beginning k i g) k (now h) ps [] [] ps))
        (read (holding f h (node k i j ps)) (held_faults f h (node k i j ps)) f) (read (holding g (now h) (node k i j ps)) (held_faults g (now h) (node k i j ps)) g)
        (closed_kept f g c k i j ps (readings (beginning k i f) k h ps [] [] ps) (readings (beginning k i g) k (now h) ps [] [] ps)
        (readings_kept (beginning k i f) (beginning k i g) (beginning_renamed name f g c k i) k h ps [] [] ps))
        (holding_kept name f g c h (node k i j ps), held_faults_kept name f g c h (node k i j ps), c)

    readings_kept : (f g : Frame) → RenamedFrames name f g → (k : Kind) (h : Hint) (all : Trees) (xs : Parts) (fs : Found) (ps : Trees) → RenamedAll (readings f k h all xs fs ps) (readings g k (now h) all (parts name xs) fs ps)
    readings_kept f g c k h all xs fs none = (refl, refl, c)
    readings_kept f g c k h all xs fs (skip ps) =
        let a = entering k xs f in
        let b = entering k (parts name xs) g in
        let d = entering_renamed name f g c k xs in
        let start = readings a k h all (xs ++ left_out a k ∷ []) (fs ++ left_out_faults a k) ps in
        subst (λ o. RenamedAll start (readings b k (now h) all (parts name xs ++ o ∷ []) (fs ++ left_out_faults b k) ps)) (sym (left_same a b d k))
        (subst (λ gs. RenamedAll start (readings b k (now h) all (parts name xs ++ optional name (left_out a k) ∷ []) (fs ++ gs) ps)) (sym (left_fails a b d k))
        (subst (λ ys. RenamedAll start (readings b k (now h) all ys (fs ++ left_out_faults a k) ps)) (sym (grown name xs (left_out a k)))
        (readings_kept a b d k h all (xs ++ left_out a k ∷ []) (fs ++ left_out_faults a k) ps)))
    readings_kept f g c k h all xs fs (more x ps) =
        let a = entering k xs f in
        let b = entering k (parts name xs) g in
        let d = entering_renamed name f g c k xs in
        let to = told k h all xs (kind_of x) in
        after_kept (reading a to x) (reading b (told k (now h) all (parts name xs) (kind_of x)) x) (λ y gs t. readings t k h all (xs ++ Some y ∷ []) (fs ++ gs) ps)
        (λ y gs t. readings t k (now h) all (parts name xs ++ Some y ∷ []) (fs ++ gs) ps)
        (subst (λ z. RenamedReadings name (reading a to x) (reading b z x)) (sym (told_kept name k h all xs (kind_of x))) (reading_kept a b d to x))
        (λ y gs s t e. subst (λ ys. RenamedAll (readings s k h all (xs ++ Some y ∷ []) (fs ++ gs) ps) (readings t k (now h) all ys (fs ++ gs) ps)) (sym (grown name xs (Some y)))
        (readings_kept s t e k h all (xs ++ Some y ∷ []) (fs ++ gs) ps))
