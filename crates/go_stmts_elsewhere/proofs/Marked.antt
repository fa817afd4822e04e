-- Statements in frames that are related at their own tokens alone, and lists with a gap.
use Rattle.std.proofs.Common.{◌≡◌, ◌∙◌, ℕ, Bool, [], ◌∷◌, ◌++◌, Some, None, refl, sym, ap, subst}
use Rattle.go_grammar.specs.declared.kind.Kind.TheVariants as kind
use Rattle.go_grammar.specs.Trees.{Tree, Trees, none, more, skip}
use Rattle.go_rewriting.specs.Places.{carry, carries}
use Rattle.go_exprs_rules.specs.Scopes.{Hint, value}
use Rattle.go_exprs_rules.specs.Settling.{Part}
use Rattle.go_exprs_rules.specs.Tables.{Parts}
use Rattle.go_stmts_defs.specs.Frames.{Frame}
use Rattle.go_stmts_defs.specs.Reading.{Found, Reading, read, Readings, all_read, after, reading, readings}
use Rattle.go_package_alike.specs.Frames.{SameFrames, SameReadings}
use Rattle.go_package_alike.specs.Scopes.{AllTokens}
use Rattle.go_exprs_elsewhere.specs.Elsewhere.{Moves, placed}
use Rattle.go_stmts_elsewhere.specs.Frames.{parts_placed, faults_placed, AlongReadings, Named}
use Rattle.go_stmts_elsewhere.specs.Gaps.{run, parts_in, found_in, frame_in, behind, RunAlong, GapRead}
use Rattle.go_stmts_elsewhere.specs.Marked.{AlongAt, AlongReadingsAt, KeepAt, AllKeepAt}
use Rattle.go_stmts_elsewhere.proofs.Gaps.{gap_read}
use Rattle.go_stmts_elsewhere.proofs.Holding.{grown}
use Rattle.go_stmts_elsewhere.proofs.Reading.{reading_along, found_joined}

-- the law on statements in frames that say the same at their tokens
abbrev pub StatementsFollow : Type 0
StatementsFollow = (p : ℕ → Bool) (f g : Frame) (h : Hint) (x : Tree) → SameFrames p f g → AllTokens p x → SameReadings p (reading f h x) (reading g h x)

module _ (same : StatementsFollow) (p q : ℕ → Bool) (m : Moves) (l : ℕ → Bool) where
  carried_over : (r s u v : Reading) → AlongReadings m l r s → SameReadings p r u → SameReadings q s v → AlongReadingsAt p q m l u v
  carried_over (read x fs f) (read y gs g) (read z hs a) (read w ks b) e d c = (
    c.0 ∙ e.0 ∙ ap (placed m) (sym d.0),
    c.1 ∙ e.1 ∙ ap (faults_placed m) (sym d.1),
    record { old = f; new = g; old_same = d.2; new_same = c.2; along = e.2 },
    subst (Named l) (sym d.0) e.3,
  )

  pub reading_at : (f g : Frame) → AlongAt p q m l f g → (h : Hint) (x : Tree) → KeepAt p q m x → AlongReadingsAt p q m l (reading f h x) (reading g h (carry m.token x))
  reading_at f g c h x k =
      carried_over (reading c.old h x) (reading c.new h (carry m.token x)) (reading f h x) (reading g h (carry m.token x)) (reading_along m l c.old c.new c.along h x k.1 k.2)
      (same p c.old f h x c.old_same k.0.0) (same q c.new g h (carry m.token x) c.new_same k.0.1)

  -- ---- the statements of a block

  abbrev AllAt : Readings → Readings → Type 0
  AllAt (all_read xs fs f) (all_read ys gs g) = (ys ≡ parts_placed m xs) × (gs ≡ faults_placed m fs) × AlongAt p q m l f g

  after_at : (r s : Reading) (n o : Part → Found → Frame → Readings) → AlongReadingsAt p q m l r s
      → ((x : Part) (fs : Found) (f g : Frame) → AlongAt p q m l f g → AllAt (n x fs f) (o (placed m x) (faults_placed m fs) g)) → AllAt (after r n) (after s o)
  after_at (read x fs f) (read y gs g) n o e k = subst (λ z. AllAt (n x fs f) (o z gs g)) (sym e.0) (subst (λ hs. AllAt (n x fs f) (o (placed m x) hs g)) (sym e.1) (k x fs f g e.2))

  block_at : (f g : Frame) → AlongAt p q m l f g → (xs : Parts) (fs : Found) (ts : Trees) → AllKeepAt p q m ts → AllAt (readings f kind.Block value none xs fs ts) (readings g kind.Block value none (parts_placed m xs) (faults_placed m fs) (carries m.token ts))
  block_at f g c xs fs none k = (refl, refl, c)
  block_at f g c xs fs (skip ts) k =
      subst (λ ys. AllAt (readings f kind.Block value none (xs ++ None ∷ []) (fs ++ []) ts) (readings g kind.Block value none ys (faults_placed m fs ++ []) (carries m.token ts))) (sym (grown m xs None))
      (subst (λ gs. AllAt (readings f kind.Block value none (xs ++ None ∷ []) (fs ++ []) ts) (readings g kind.Block value none (parts_placed m (xs ++ None ∷ [])) gs (carries m.token ts))) (sym (found_joined m l fs []))
      (block_at f g c (xs ++ None ∷ []) (fs ++ []) ts k))
  block_at f g c xs fs (more x ts) k =
      after_at (reading f value x) (reading g value (carry m.token x)) (λ y gs u. readings u kind.Block value none (xs ++ Some y ∷ []) (fs ++ gs) ts)
      (λ y gs u. readings u kind.Block value none (parts_placed m xs ++ Some y ∷ []) (faults_placed m fs ++ gs) (carries m.token ts))
      (reading_at f g c value x ((k.0.0.0, k.0.1.0), k.1.0, k.2.0))
      (λ y gs a b d.
      subst (λ hs. AllAt (readings a kind.Block value none (xs ++ Some y ∷ []) (fs ++ gs) ts) (readings b kind.Block value none (parts_placed m xs ++ Some (placed m y) ∷ []) hs (carries m.token ts))) (sym (found_joined m l fs gs))
      (subst (λ ys. AllAt (readings a kind.Block value none (xs ++ Some y ∷ []) (fs ++ gs) ts) (readings b kind.Block value none ys (faults_placed m (fs ++ gs)) (carries m.token ts))) (sym (grown m xs (Some y)))
      (block_at a b d (xs ++ Some y ∷ []) (fs ++ gs) ts ((k.0.0.1, k.0.1.1), k.1.1, k.2.1))))

  of_all : (f g : Frame) (ts : Trees) (r s : Readings) → run f ts ≡ r → run g (carries m.token ts) ≡ s → AllAt r s → RunAlong m (AlongAt p q m l) f g ts
  of_all f g ts (all_read xs fs a) (all_read ys gs b) e d c = record {
    read = ap parts_in d ∙ c.0 ∙ ap (λ r. parts_placed m (parts_in r)) (sym e);
    found = ap found_in d ∙ c.1 ∙ ap (λ r. faults_placed m (found_in r)) (sym e);
    frames = subst (λ r. AlongAt p q m l (frame_in r) (behind g (carries m.token ts))) (sym e) (subst (λ r. AlongAt p q m l a (frame_in r)) (sym d) c.2);
  }

  pub run_at : (f g : Frame) → AlongAt p q m l f g → (ts : Trees) → AllKeepAt p q m ts → RunAlong m (AlongAt p q m l) f g ts
  run_at f g c ts k = of_all f g ts (run f ts) (run g (carries m.token ts)) refl refl (block_at f g c [] [] ts k)

-- The statements of a block with a gap: given how the statements of the gap lead from frames that are related in front to ones that are so
-- behind, what stands in front and behind is read the same.
pub gap_at : StatementsFollow → (p q p2 q2 : ℕ → Bool) (m : Moves) (l l2 : ℕ → Bool) (f g : Frame) (front old new rest : Trees) → AlongAt p q m l f g → AllKeepAt p q m front
    → ((a b : Frame) → AlongAt p q m l a b → AlongAt p2 q2 m l2 (behind a old) (behind b new)) → AllKeepAt p2 q2 m rest
    → GapRead m (AlongAt p2 q2 m l2) f g front old new rest
gap_at same p q p2 q2 m l l2 f g front old new rest c k gap v =
    let a : RunAlong m (AlongAt p q m l) f g front = run_at same p q m l f g c front k in
    gap_read m (AlongAt p q m l) (AlongAt p2 q2 m l2) f g front old new rest a
    (run_at same p2 q2 m l2 (behind (behind f front) old) (behind (behind g (carries m.token front)) new) (gap (behind f front) (behind g (carries m.token front)) a.frames) rest v)
