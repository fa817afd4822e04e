-- Statements, declarations and bodies where the locals that they declare as types have the same numbers.
use Rattle.std.proofs.Common.{◌≡◌, ℕ, Bool, true, false, if◌then◌else◌, List, [], ◌∷◌, ◌++◌, Option, Some, refl, ap, ◌∙◌}
use Rattle.go_grammar.specs.declared.kind.Kind.{Kind}
use Rattle.go_grammar.specs.Trees.{Tree, node, Trees, none, more, skip, kind_of}
use Rattle.go_typed.specs.declared.form.Form.{Form}
use Rattle.go_exprs_rules.specs.declared.fault.TypeFault.{TypeFault}
use Rattle.go_exprs_rules.specs.Scopes.{Hint}
use Rattle.go_exprs_rules.specs.Settling.{Part}
use Rattle.go_exprs_rules.specs.Tables.{Parts}
use Rattle.go_stmts_defs.specs.Frames.{Frame}
use Rattle.go_stmts_defs.specs.Laying.{told, layout, form_by}
use Rattle.go_stmts_defs.specs.Reading.{Found, Reading, read, Readings, all_read, is_statement, completed, closed_on, closed_by, closed, after, reading, readings, holding, held_faults, beginning, entering, left_out, left_out_faults}
use Rattle.go_stmts_defs.specs.Rules.{own_faults, built_by}
use Rattle.go_tree.specs.declared.object.Object.{Object}
use Rattle.go_stmts_own_types.specs.Numbered.{AllNumbered, AreNumbered, IsNumbered, numbered, read_numbered}
use Rattle.go_stmts_own_types.proofs.Framed.{Fits, layout_same, beginning_same, beginning_fits, entering_same, entering_fits, leaving_same, leaving_fits, faults_same, built_same, holding_same, held_same, left_out_same, left_out_faults_same}

abbrev readings_numbered : (ℕ → ℕ) → Readings → Readings
readings_numbered u (all_read xs fs f) = all_read xs fs (numbered u f)

branch : {A : Type 0} (P : A → Type 0) (b : Bool) (x y : A) → P x → P y → P (if b then x else y)
branch P true x y h g = h
branch P false x y h g = g

-- both ways are the same
either_way : (g : Reading → Reading) (b : Bool) (x y u v : Reading) → x ≡ g u → y ≡ g v → (if b then x else y) ≡ g (if b then u else v)
either_way g true x y u v e h = e
either_way g false x y u v e h = h

module _ (v u : ℕ → ℕ) (os : ℕ → Option Object) where
  abbrev ReadingFits : Reading → Type 0
  ReadingFits (read x fs f) = Fits v u os f

  abbrev ReadingsFit : Readings → Type 0
  ReadingsFit (all_read xs fs f) = Fits v u os f

  -- ---- a node over its parts

  completed_same : (before s : Frame) (k : Kind) (i j : ℕ) (ps : Trees) (x y : Part) (fs : Found) (own : List TypeFault) → Fits v u os s → IsNumbered v u os k i → x ≡ y
      → completed (numbered u before) k i ps x fs own (numbered u s) ≡ read_numbered u (completed before k i ps y fs own s)
  completed_same before s k i j ps x y fs own a e h =
      ap (λ z. completed (numbered u before) k i ps z fs own (numbered u s)) h ∙ ap (λ f. read y (fs ++ own ∷ []) f) (leaving_same v u os before s k i j ps y a e)

  closed_on_same : (before s : Frame) (k : Kind) (f : Form) (i j : ℕ) (ps : Trees) (ys : Parts) (fs : Found) → Fits v u os s → IsNumbered v u os k i
      → closed_by (numbered u before) k f i j ps ys fs (numbered u s) ≡ read_numbered u (closed_by before k f i j ps ys fs s)
  closed_on_same before s k f i j ps ys fs a e =
      ap (λ own. closed_on (numbered u before) k f i j ps ys fs own (numbered u s)) (faults_same v u os s k f i j ys a e)
      ∙ completed_same before s k i j ps (built_by (numbered u s) k f i j ys (own_faults s k f i j ys)) (built_by s k f i j ys (own_faults s k f i j ys)) fs (own_faults s k f i j ys) a e
      (built_same v u os s k f i j ys (own_faults s k f i j ys))

  closed_same : (before : Frame) (k : Kind) (i j : ℕ) (ps : Trees) (r : Readings) → ReadingsFit r → IsNumbered v u os k i → closed (numbered u before) k i j ps (readings_numbered u r) ≡ read_numbered u (closed before k i j ps r)
  closed_same before k i j ps (all_read xs fs s) a e =
      ap (λ ys. closed_by (numbered u before) k (form_by k xs) i j ps ys fs (numbered u s)) (layout_same v u os s k i xs a e)
      ∙ closed_on_same before s k (form_by k xs) i j ps (layout s k i xs) fs a e

  closed_fits : (before : Frame) (k : Kind) (i j : ℕ) (ps : Trees) (r : Readings) → ReadingsFit r → ReadingFits (closed before k i j ps r)
  closed_fits before k i j ps (all_read xs fs s) a =
      leaving_fits v u os before s k i ps (built_by s k (form_by k xs) i j (layout s k i xs) (own_faults s k (form_by k xs) i j (layout s k i xs))) a

  -- ---- a part behind others

  after_same : (r : Reading) (next other : Part → Found → Frame → Readings) → ReadingFits r → ((x : Part) (gs : Found) (f : Frame) → Fits v u os f → next x gs (numbered u f) ≡ readings_numbered u (other x gs f))
      → after (read_numbered u r) next ≡ readings_numbered u (after r other)
  after_same (read x gs f) next other a h = h x gs f a

  after_fits : (r : Reading) (next : Part → Found → Frame → Readings) → ReadingFits r → ((x : Part) (gs : Found) (f : Frame) → Fits v u os f → ReadingsFit (next x gs f)) → ReadingsFit (after r next)
  after_fits (read x gs f) next a h = h x gs f a

  -- ---- the engine

  mutual
    pub reading_fits : (s : Frame) (h : Hint) (t : Tree) → Fits v u os s → AreNumbered v u os t → ReadingFits (reading s h t)
    reading_fits s h (node k i j ps) a w =
        branch ReadingFits (is_statement k) (closed s k i j ps (readings (beginning k i s) k h ps [] [] ps)) (read (holding s h (node k i j ps)) (held_faults s h (node k i j ps)) s)
        (closed_fits s k i j ps (readings (beginning k i s) k h ps [] [] ps) (readings_fit (beginning k i s) k h ps [] [] ps (beginning_fits v u os s k i a) w.1)) a

    readings_fit : (s : Frame) (k : Kind) (h : Hint) (all : Trees) (xs : Parts) (fs : Found) (ts : Trees) → Fits v u os s → AllNumbered v u os ts → ReadingsFit (readings s k h all xs fs ts)
    readings_fit s k h all xs fs none a w = a
    readings_fit s k h all xs fs (more t ts) a w =
        after_fits (reading (entering k xs s) (told k h all xs (kind_of t)) t) (λ x gs f. readings f k h all (xs ++ Some x ∷ []) (fs ++ gs) ts)
        (reading_fits (entering k xs s) (told k h all xs (kind_of t)) t (entering_fits v u os s k xs a) w.0)
        (λ x gs f b. readings_fit f k h all (xs ++ Some x ∷ []) (fs ++ gs) ts b w.1)
    readings_fit s k h all xs fs (skip ts) a w =
        readings_fit (entering k xs s) k h all (xs ++ left_out (entering k xs s) k ∷ []) (fs ++ left_out_faults (entering k xs s) k) ts (entering_fits v u os s k xs a) w

  mutual
    pub reading_same : (s : Frame) (h : Hint) (t : Tree) → Fits v u os s → AreNumbered v u os t → reading (numbered u s) h t ≡ read_numbered u (reading s h t)
    reading_same s h (node k i j ps) a w =
        either_way (read_numbered u) (is_statement k)
        (closed (numbered u s) k i j ps (readings (beginning k i (numbered u s)) k h ps [] [] ps)) (read (holding (numbered u s) h (node k i j ps)) (held_faults (numbered u s) h (node k i j ps)) (numbered u s))
        (closed s k i j ps (readings (beginning k i s) k h ps [] [] ps)) (read (holding s h (node k i j ps)) (held_faults s h (node k i j ps)) s)
        (ap (λ z. closed (numbered u s) k i j ps (readings z k h ps [] [] ps)) (beginning_same v u os s k i j a w.0)
        ∙ ap (λ r. closed (numbered u s) k i j ps r) (readings_same (beginning k i s) k h ps [] [] ps (beginning_fits v u os s k i a) w.1)
        ∙ closed_same s k i j ps (readings (beginning k i s) k h ps [] [] ps) (readings_fit (beginning k i s) k h ps [] [] ps (beginning_fits v u os s k i a) w.1) w.0)
        (ap (λ x. read x (held_faults (numbered u s) h (node k i j ps)) (numbered u s)) (holding_same v u os s h (node k i j ps))
        ∙ ap (λ fs. read (holding s h (node k i j ps)) fs (numbered u s)) (held_same v u os s h (node k i j ps)))

    readings_same : (s : Frame) (k : Kind) (h : Hint) (all : Trees) (xs : Parts) (fs : Found) (ts : Trees) → Fits v u os s → AllNumbered v u os ts
        → readings (numbered u s) k h all xs fs ts ≡ readings_numbered u (readings s k h all xs fs ts)
    readings_same s k h all xs fs none a w = refl
    readings_same s k h all xs fs (more t ts) a w =
        let next : Part → Found → Frame → Readings = λ x gs f. readings f k h all (xs ++ Some x ∷ []) (fs ++ gs) ts in
        let to = told k h all xs (kind_of t) in
        let inside = entering k xs s in
        let fits = entering_fits v u os s k xs a in
        ap (λ z. after (reading z to t) next) (entering_same v u os s k xs) ∙ ap (λ r. after r next) (reading_same inside to t fits w.0)
        ∙ after_same (reading inside to t) next next (reading_fits inside to t fits w.0) (λ x gs f b. readings_same f k h all (xs ++ Some x ∷ []) (fs ++ gs) ts b w.1)
    readings_same s k h all xs fs (skip ts) a w =
        let inside = entering k xs s in
        let fits = entering_fits v u os s k xs a in
        ap (λ z. readings z k h all (xs ++ left_out z k ∷ []) (fs ++ left_out_faults z k) ts) (entering_same v u os s k xs)
        ∙ ap (λ x. readings (numbered u inside) k h all (xs ++ x ∷ []) (fs ++ left_out_faults (numbered u inside) k) ts) (left_out_same v u os inside k)
        ∙ ap (λ gs. readings (numbered u inside) k h all (xs ++ left_out inside k ∷ []) (fs ++ gs) ts) (left_out_faults_same v u os inside k)
        ∙ readings_same inside k h all (xs ++ left_out inside k ∷ []) (fs ++ left_out_faults inside k) ts fits w
