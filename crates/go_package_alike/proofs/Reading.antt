-- Statements, declarations and bodies in frames whose tokens say the same.
use Rattle.std.proofs.Common.{◌≡◌, ℕ, Bool, true, false, if◌then◌else◌, List, [], ◌∷◌, ◌++◌, Some, refl, ap, sym, ◌∙◌, subst}
use Rattle.go_grammar.specs.declared.kind.Kind.{Kind}
use Rattle.go_grammar.specs.Trees.{Tree, node, Trees, none, more, skip, kind_of}
use Rattle.go_typed.specs.declared.form.Form.{Form}
use Rattle.go_exprs_rules.specs.declared.fault.TypeFault.{TypeFault}
use Rattle.go_exprs_rules.specs.Scopes.{Hint}
use Rattle.go_exprs_rules.specs.Settling.{Part}
use Rattle.go_exprs_rules.specs.Tables.{Parts}
use Rattle.go_stmts_defs.specs.Frames.{Frame}
use Rattle.go_stmts_defs.specs.Laying.{told, layout, form_by}
use Rattle.go_stmts_defs.specs.Reading.{Found, Reading, read, Readings, all_read, is_statement, completed, closed_on, closed_by, closed, after, reading, readings, holding, held_faults, beginning, entering, left_out, left_out_faults}
use Rattle.go_stmts_defs.specs.Rules.{own_faults, built_by}
use Rattle.go_package_alike.specs.Frames.{SameFrames, SameReadings}
use Rattle.go_package_alike.specs.Scopes.{Says, said, SaidSame, TokenHas, AllTokens, TokensIn}
use Rattle.go_package_alike.proofs.Framed.{framed, Fits, layout_same, beginning_same, beginning_fits, entering_same, entering_fits, leaving_same, leaving_fits, faults_same, built_same}
use Rattle.go_package_alike.proofs.Holding.{holding_same, held_same, left_out_same, left_out_faults_same}
use Rattle.go_package_alike.proofs.Marks.{branch}
use Rattle.go_package_alike.proofs.Said.{is_told}

abbrev pub framed_reading : Says → Reading → Reading
framed_reading m (read x fs f) = read x fs (framed f m)

abbrev framed_readings : Says → Readings → Readings
framed_readings m (all_read xs fs f) = all_read xs fs (framed f m)

-- both ways are the same
either_way : (g : Reading → Reading) (b : Bool) (x y u v : Reading) → x ≡ g u → y ≡ g v → (if b then x else y) ≡ g (if b then u else v)
either_way g true x y u v e h = e
either_way g false x y u v e h = h

module _ (p : ℕ → Bool) (m : Says) where
  abbrev ReadingFits : Reading → Type 0
  ReadingFits (read x fs f) = Fits p m f

  abbrev ReadingsFit : Readings → Type 0
  ReadingsFit (all_read xs fs f) = Fits p m f

  -- ---- a node over its parts

  completed_same : (before s : Frame) (k : Kind) (i j : ℕ) (ps : Trees) (x y : Part) (fs : Found) (own : List TypeFault) → SaidSame p (said s.around) m → TokenHas p k i j → x ≡ y
      → completed (framed before m) k i ps x fs own (framed s m) ≡ framed_reading m (completed before k i ps y fs own s)
  completed_same before s k i j ps x y fs own a e h =
      ap (λ z. completed (framed before m) k i ps z fs own (framed s m)) h ∙ ap (λ f. read y (fs ++ own ∷ []) f) (leaving_same p m before s k i j ps y a e)

  closed_on_same : (before s : Frame) (k : Kind) (f : Form) (i j : ℕ) (ps : Trees) (ys : Parts) (fs : Found) → SaidSame p (said s.around) m → TokenHas p k i j
      → closed_by (framed before m) k f i j ps ys fs (framed s m) ≡ framed_reading m (closed_by before k f i j ps ys fs s)
  closed_on_same before s k f i j ps ys fs a e =
      ap (λ own. closed_on (framed before m) k f i j ps ys fs own (framed s m)) (faults_same p m s k f i j ys a e)
      ∙ completed_same before s k i j ps (built_by (framed s m) k f i j ys (own_faults s k f i j ys)) (built_by s k f i j ys (own_faults s k f i j ys)) fs (own_faults s k f i j ys) a e
      (built_same p m s k f i j ys (own_faults s k f i j ys))

  closed_same : (before : Frame) (k : Kind) (i j : ℕ) (ps : Trees) (r : Readings) → ReadingsFit r → TokenHas p k i j → closed (framed before m) k i j ps (framed_readings m r) ≡ framed_reading m (closed before k i j ps r)
  closed_same before k i j ps (all_read xs fs s) a e =
      ap (λ ys. closed_by (framed before m) k (form_by k xs) i j ps ys fs (framed s m)) (layout_same p m s k i j xs a.said_so e)
      ∙ closed_on_same before s k (form_by k xs) i j ps (layout s k i xs) fs a.said_so e

  closed_fits : (before : Frame) (k : Kind) (i j : ℕ) (ps : Trees) (r : Readings) → ReadingsFit r → TokensIn p ps → ReadingFits (closed before k i j ps r)
  closed_fits before k i j ps (all_read xs fs s) a w =
      leaving_fits p m before s k i ps (built_by s k (form_by k xs) i j (layout s k i xs) (own_faults s k (form_by k xs) i j (layout s k i xs))) a w

  -- ---- a part behind others

  after_same : (r : Reading) (next other : Part → Found → Frame → Readings) → ReadingFits r → ((x : Part) (gs : Found) (f : Frame) → Fits p m f → next x gs (framed f m) ≡ framed_readings m (other x gs f))
      → after (framed_reading m r) next ≡ framed_readings m (after r other)
  after_same (read x gs f) next other a h = h x gs f a

  after_fits : (r : Reading) (next : Part → Found → Frame → Readings) → ReadingFits r → ((x : Part) (gs : Found) (f : Frame) → Fits p m f → ReadingsFit (next x gs f)) → ReadingsFit (after r next)
  after_fits (read x gs f) next a h = h x gs f a

  -- ---- the engine

  mutual
    pub reading_fits : (s : Frame) (h : Hint) (t : Tree) → Fits p m s → AllTokens p t → ReadingFits (reading s h t)
    reading_fits s h (node k i j ps) a w =
        branch ReadingFits (is_statement k) (closed s k i j ps (readings (beginning k i s) k h ps [] [] ps)) (read (holding s h (node k i j ps)) (held_faults s h (node k i j ps)) s)
        (closed_fits s k i j ps (readings (beginning k i s) k h ps [] [] ps) (readings_fit (beginning k i s) k h ps [] [] ps (beginning_fits p m s k i a) w.1) w.1) a

    readings_fit : (s : Frame) (k : Kind) (h : Hint) (all : Trees) (xs : Parts) (fs : Found) (ts : Trees) → Fits p m s → TokensIn p ts → ReadingsFit (readings s k h all xs fs ts)
    readings_fit s k h all xs fs none a w = a
    readings_fit s k h all xs fs (more t ts) a w =
        after_fits (reading (entering k xs s) (told k h all xs (kind_of t)) t) (λ x gs f. readings f k h all (xs ++ Some x ∷ []) (fs ++ gs) ts)
        (reading_fits (entering k xs s) (told k h all xs (kind_of t)) t (entering_fits p m s k xs a) w.0)
        (λ x gs f b. readings_fit f k h all (xs ++ Some x ∷ []) (fs ++ gs) ts b w.1)
    readings_fit s k h all xs fs (skip ts) a w =
        readings_fit (entering k xs s) k h all (xs ++ left_out (entering k xs s) k ∷ []) (fs ++ left_out_faults (entering k xs s) k) ts (entering_fits p m s k xs a) w

  mutual
    pub reading_same : (s : Frame) (h : Hint) (t : Tree) → Fits p m s → AllTokens p t → reading (framed s m) h t ≡ framed_reading m (reading s h t)
    reading_same s h (node k i j ps) a w =
        either_way (framed_reading m) (is_statement k)
        (closed (framed s m) k i j ps (readings (beginning k i (framed s m)) k h ps [] [] ps)) (read (holding (framed s m) h (node k i j ps)) (held_faults (framed s m) h (node k i j ps)) (framed s m))
        (closed s k i j ps (readings (beginning k i s) k h ps [] [] ps)) (read (holding s h (node k i j ps)) (held_faults s h (node k i j ps)) s)
        (ap (λ z. closed (framed s m) k i j ps (readings z k h ps [] [] ps)) (beginning_same p m s k i j a.said_so w.0)
        ∙ ap (λ r. closed (framed s m) k i j ps r) (readings_same (beginning k i s) k h ps [] [] ps (beginning_fits p m s k i a) w.1)
        ∙ closed_same s k i j ps (readings (beginning k i s) k h ps [] [] ps) (readings_fit (beginning k i s) k h ps [] [] ps (beginning_fits p m s k i a) w.1) w.0)
        (ap (λ x. read x (held_faults (framed s m) h (node k i j ps)) (framed s m)) (holding_same p m s a.said_so h (node k i j ps) w)
        ∙ ap (λ fs. read (holding s h (node k i j ps)) fs (framed s m)) (held_same p m s a.said_so h (node k i j ps) w))

    readings_same : (s : Frame) (k : Kind) (h : Hint) (all : Trees) (xs : Parts) (fs : Found) (ts : Trees) → Fits p m s → TokensIn p ts
        → readings (framed s m) k h all xs fs ts ≡ framed_readings m (readings s k h all xs fs ts)
    readings_same s k h all xs fs none a w = refl
    readings_same s k h all xs fs (more t ts) a w =
        let next : Part → Found → Frame → Readings = λ x gs f. readings f k h all (xs ++ Some x ∷ []) (fs ++ gs) ts in
        let to = told k h all xs (kind_of t) in
        let inside = entering k xs s in
        let fits = entering_fits p m s k xs a in
        ap (λ z. after (reading z to t) next) (entering_same p m s k xs) ∙ ap (λ r. after r next) (reading_same inside to t fits w.0)
        ∙ after_same (reading inside to t) next next (reading_fits inside to t fits w.0) (λ x gs f b. readings_same f k h all (xs ++ Some x ∷ []) (fs ++ gs) ts b w.1)
    readings_same s k h all xs fs (skip ts) a w =
        let inside = entering k xs s in
        let fits = entering_fits p m s k xs a in
        ap (λ z. readings z k h all (xs ++ left_out z k ∷ []) (fs ++ left_out_faults z k) ts) (entering_same p m s k xs)
        ∙ ap (λ x. readings (framed inside m) k h all (xs ++ x ∷ []) (fs ++ left_out_faults (framed inside m) k) ts) (left_out_same p m inside fits.said_so k fits.repeats)
        ∙ ap (λ gs. readings (framed inside m) k h all (xs ++ left_out inside k ∷ []) (fs ++ gs) ts) (left_out_faults_same p m inside fits.said_so k fits.repeats)
        ∙ readings_same inside k h all (xs ++ left_out inside k ∷ []) (fs ++ left_out_faults inside k) ts fits w

  -- ---- frames that are the same

  same_readings : (r : Reading) → ReadingFits r → SameReadings p r (framed_reading m r)
  same_readings (read x fs f) a = (
    refl,
    refl,
    record {
      around = record { rights = refl; iota = refl; needed = refl; limits = refl; tokens = a.said_so };
      locals = refl;
      types = refl;
      source = refl;
      repeats = a.repeats;
      tag = refl;
      results = refl;
    },
  )

  pub statement_so : (f : Frame) (h : Hint) (t : Tree) → Fits p m f → AllTokens p t → SameReadings p (reading f h t) (reading (framed f m) h t)
  statement_so f h t a w = subst (λ r. SameReadings p (reading f h t) r) (sym (reading_same f h t a w)) (same_readings (reading f h t) (reading_fits f h t a w))

-- Of two frames that are the same the second is the first one, around which tokens say what they say there.
is_framed : (p : ℕ → Bool) (f g : Frame) → SameFrames p f g → g ≡ framed f (said g.around)
is_framed p f g a = λ k. record {
  around = is_told p f.around g.around a.around k;
  locals = a.locals k;
  types = a.types k;
  source = a.source k;
  tag = a.tag k;
  results = a.results k;
}

pub statement_same : (p : ℕ → Bool) (f g : Frame) (h : Hint) (t : Tree) → SameFrames p f g → AllTokens p t → SameReadings p (reading f h t) (reading g h t)
statement_same p f g h t a w =
    subst (λ z. SameReadings p (reading f h t) (reading z h t)) (sym (is_framed p f g a)) (statement_so p (said g.around) f h t (record { said_so = a.around.tokens; repeats = a.repeats }) w)
