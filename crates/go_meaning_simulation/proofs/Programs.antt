-- Packages whose functions are kin: one follows the other, by one induction over the number of calls and turns inside one another.
use Rattle.std.proofs.Common.{◌≡◌, ℕ, zero, suc, ◌+◌, ◌*◌, ◌≤◌, List, [], subst, arith, Option, Some, None}
use Rattle.std.specs.Prelude.{Bool, true, false, slice_get}
use Rattle.go_types.specs.Trees.{TypeTree}
use Rattle.go_typed.specs.Trees.{Typed, Typeds}
use Rattle.go_meaning.specs.Values.{Value}
use Rattle.go_meaning.specs.Computations.{Next, Comp, in_order}
use Rattle.go_meaning.specs.Operations.{ReadByte, operate}
use Rattle.go_meaning.specs.Doings.{values_of}
use Rattle.go_meaning.specs.Meaning.{meanings, Code, frame_of, entered, has_body, called, Program, bounded, all_bounded, program}
use Rattle.go_meaning.proofs.Public.{called_grows, bounded_grows}
use Rattle.go_meaning_simulation.specs.Likeness.{Likeness}
use Rattle.go_meaning_simulation.specs.Links.{Links, Ways, nowhere}
use Rattle.go_meaning_simulation.specs.Kin.{Statement, Chain, AreKin, all_done, and_kin}
use Rattle.go_meaning_simulation.proofs.Following.{Frames, Exits, Follows, weaker, undecided_follows, operate_follows, end_follows, then_follows, spend_follows, enter_follows}
use Rattle.go_meaning_simulation.proofs.Rooms.{Room, exits}
use Rattle.go_meaning_simulation.proofs.StatementTrees.{statement_follows, chain_follows}

-- Where trees of the two packages stand: which links there are, in which frames, and how much deeper the new one may be.
pub record Base (L : Likeness) (a p : ℕ) (P Q : Program) : Type 1 where
  pub Place : Type 0
  pub links : Place → Links
  pub room : (i : Place) → Room L (links i)
  pub deep : Place → ℕ
  pub pays : (i : Place) → (links i).factor ≤ a

module _ (L : Likeness) (a p : ℕ) (P Q : Program) (base : Base L a p P Q) where
  -- two functions: their bodies, and the frames that calls begin with
  pub record Mate (g g' : Code) : Type 0 where
    pub place : base.Place
    pub start : (base.links place).Scope
    pub behind : (base.links place).Scope
    pub cost : ℕ
    pub cheap : cost + (base.room place).toll + 1 ≤ a
    pub shallow : (i : base.Place) → base.deep place + 1 ≤ p + base.deep i
    pub bodies : has_body g ≡ has_body g'
    pub tree : Statement (base.links place) P.rights Q.rights nowhere start behind cost g.body g'.body
    pub frames : (vs vs' : List Value) → L.values vs vs' → (base.room place).frames start (frame_of g vs) (frame_of g' vs')

  pub data Mates : Option Code → Option Code → Type 0 where
    neither : Mates None None
    both : {g g' : Code} → Mate g g' → Mates (Some g) (Some g')

  -- with these numbers of calls and turns inside one another all statements that are kin follow
  abbrev pub Claim : ℕ → ℕ → Type 0
  Claim n n' = (i : base.Place) (W : Ways (base.links i).Scope) (s s' : (base.links i).Scope) (m : ℕ) (t t' : Typed TypeTree) → Statement (base.links i) P.rights Q.rights W s s' m t t' →
      Follows L a p (base.deep i) ((base.room i).frames s) ((base.room i).frames s') (exits L (base.links i) (base.room i) W) m (bounded P n t) (bounded Q n' t')

  abbrev pub old_call : ℕ → ℕ → List Value → Comp
  old_call n g vs = called (bounded P n) vs (slice_get P.functions g)

  abbrev pub new_call : ℕ → ℕ → List Value → Comp
  new_call n g vs = called (bounded Q n) vs (slice_get Q.functions g)

  -- what windows do, one number below
  abbrev pub WindowsFollow : ℕ → ℕ → Type 0
  WindowsFollow n n' = (i : base.Place) (W : Ways (base.links i).Scope) (s s' : (base.links i).Scope) (ws ws' : Typeds TypeTree) → (base.links i).windows s s' ws ws' →
      Follows L a p (base.deep i) ((base.room i).frames s) ((base.room i).frames s') (exits L (base.links i) (base.room i) W) (base.links i).cost (in_order (values_of (meanings P.rights (old_call n) (bounded P n) ws))) (in_order (values_of (meanings Q.rights (new_call n') (bounded Q n') ws')))

  entered_follows : (i : base.Place) (R : Frames) (X : Exits) (n n' : ℕ) → Claim n n' → (g g' : Code) → (mate : Mate g g') → (vs vs' : List Value) → L.values vs vs' → (b : Bool) →
      Follows L a p (base.deep i) R R X (mate.cost + (base.room mate.place).toll) (entered b (frame_of g vs) (bounded P n g.body)) (entered b (frame_of g' vs') (bounded Q n' g'.body))
  entered_follows i R X n n' claim g g' mate vs vs' e true =
      enter_follows L a p (base.deep i) (base.deep mate.place) R ((base.room mate.place).frames mate.start) ((base.room mate.place).frames mate.behind) X (exits L (base.links mate.place) (base.room mate.place) nowhere) (mate.cost + (base.room mate.place).toll) mate.cost (frame_of g vs) (frame_of g' vs') (bounded P n g.body) (bounded Q n' g'.body)
      (omega arith) (mate.shallow i) (mate.frames vs vs' e) (claim mate.place nowhere mate.start mate.behind mate.cost g.body g'.body mate.tree)
  entered_follows i R X n n' claim g g' mate vs vs' e false = weaker L a p (base.deep i) R R R X 0 (mate.cost + (base.room mate.place).toll) (operate ReadByte []) (operate ReadByte []) (λ f f' r. r) (omega arith) (operate_follows L a p (base.deep i) R X ReadByte [] [] L.nothing)

  pub called_follows : (i : base.Place) (R : Frames) (X : Exits) (n n' : ℕ) → Claim n n' → {o o' : Option Code} → Mates o o' → (vs vs' : List Value) → L.values vs vs' → Follows L a p (base.deep i) R R X 0 (called (bounded P n) vs o) (called (bounded Q n') vs' o')
  called_follows i R X n n' claim neither vs vs' e = undecided_follows L a p (base.deep i) R R X 0 (called (bounded Q n') vs' None) (called_grows (bounded Q n') (bounded_grows Q n') vs' None)
  called_follows i R X n n' claim (both {g = g} {g' = g'} mate) vs vs' e =
      spend_follows L a p (base.deep i) R R X 0 (mate.cost + (base.room mate.place).toll) (entered (has_body g) (frame_of g vs) (bounded P n g.body)) (entered (has_body g') (frame_of g' vs') (bounded Q n' g'.body)) (omega (arith, mate.cheap))
      (subst (λ b. Follows L a p (base.deep i) R R X (mate.cost + (base.room mate.place).toll) (entered (has_body g) (frame_of g vs) (bounded P n g.body)) (entered b (frame_of g' vs') (bounded Q n' g'.body))) mate.bodies
      (entered_follows i R X n n' claim g g' mate vs vs' e (has_body g)))

  abbrev pub FunctionsMatch : Type 0
  FunctionsMatch = (g g' : ℕ) → L.calls g g' → Mates (slice_get P.functions g) (slice_get Q.functions g')

  -- a row of statements without windows, one number below
  pub chain_step : FunctionsMatch → (n n' : ℕ) → Claim n n' → (i : base.Place) → ((s s' : (base.links i).Scope) (ws ws' : Typeds TypeTree) → (base.links i).windows s s' ws ws' → ⊥) →
      (W : Ways (base.links i).Scope) (s s' : (base.links i).Scope) (m : ℕ) (ts ts' : Typeds TypeTree) → Chain (base.links i) P.rights Q.rights W s s' m ts ts' →
      Follows L a p (base.deep i) ((base.room i).frames s) ((base.room i).frames s') (exits L (base.links i) (base.room i) W) m (in_order (values_of (meanings P.rights (old_call n) (bounded P n) ts))) (in_order (values_of (meanings Q.rights (new_call n') (bounded Q n') ts')))
  chain_step functions n n' claim i none_here W s s' m ts ts' h =
      chain_follows L a p (base.deep i) (base.links i) (base.room i) (base.pays i) P.rights Q.rights (old_call n) (new_call n') (bounded P n) (bounded Q n')
      (λ g vs. called_grows (bounded Q n') (bounded_grows Q n') vs (slice_get Q.functions g)) (bounded_grows Q n')
      (λ R X g g' vs vs' c e. called_follows i R X n n' claim (functions g g' c) vs vs' e)
      (claim i) (λ V u u' ws ws' x. absurd (none_here u u' ws ws' x)) h

  -- The number of the new package is b times as great: where a window became a call, one more call is inside.
  pub record Setting (b : ℕ) : Type 0 where
    pub grows : 1 ≤ b
    pub functions : FunctionsMatch
    pub windows : (n n' : ℕ) → b * suc n ≤ suc n' → ((j j' : ℕ) → j ≤ n → b * j ≤ j' → Claim j j') → WindowsFollow n n'

  module _ (b : ℕ) (setting : Setting b) where
    times : (n n' : ℕ) → b * suc n ≤ suc n' → b * n ≤ n'
    times n n' h = let g = setting.grows in omega (arith, h, g)

    step : (n n' : ℕ) → b * suc n ≤ suc n' → ((j j' : ℕ) → j ≤ n → b * j ≤ j' → Claim j j') → Claim (suc n) (suc n')
    step n n' le ih i W s s' m t t' h =
        statement_follows L a p (base.deep i) (base.links i) (base.room i) (base.pays i) P.rights Q.rights (old_call n) (new_call n') (bounded P n) (bounded Q n')
        (λ g vs. called_grows (bounded Q n') (bounded_grows Q n') vs (slice_get Q.functions g)) (bounded_grows Q n')
        (λ R X g g' vs vs' c e. called_follows i R X n n' (ih n n' (omega arith) (times n n' le)) (setting.functions g g' c) vs vs' e)
        (ih n n' (omega arith) (times n n' le) i) (setting.windows n n' le ih i) h

    below : (top n n' : ℕ) → n ≤ top → b * n ≤ n' → Claim n n'
    below top zero n' lt le = λ i W s s' m t t' h. undecided_follows L a p (base.deep i) ((base.room i).frames s) ((base.room i).frames s') (exits L (base.links i) (base.room i) W) m (bounded Q n' t') (bounded_grows Q n' t')
    below zero (suc n) n' lt le = absurd (omega (arith, lt))
    below (suc top) (suc n) zero lt le = let g = setting.grows in absurd (omega (arith, le, g))
    below (suc top) (suc n) (suc n') lt le = step n n' le (λ j j' lj lj'. below top j j' (omega (arith, lj, lt)) lj')

    pub bounded_follow : (n n' : ℕ) → b * n ≤ n' → Claim n n'
    bounded_follow n n' le = below n n n' (omega arith) le

    -- ---- packages

    module _ (i : base.Place) (s : (base.links i).Scope) where
      abbrev E : Exits
      E = exits L (base.links i) (base.room i) nowhere

      abbrev R : Frames
      R = (base.room i).frames s

      variables_follow : (n n' : ℕ) → b * n ≤ n' → {ts ts' : List (Typed TypeTree)} → AreKin (base.links i) P.rights Q.rights s ts ts' → Follows L a p (base.deep i) R R E 0 (in_order (all_bounded P n ts)) (in_order (all_bounded Q n' ts'))
      unfolding in_order
      variables_follow n n' le all_done = end_follows L a p (base.deep i) R R E 0 (Next []) [] L.nothing (λ f f' r. r)
      variables_follow n n' le (and_kin {t = t} {t' = t'} {ts = ts} {ts' = ts'} h hs) =
          let rest = variables_follow n n' le hs in
          then_follows L a p (base.deep i) R R R E 0 0 0 (bounded P n t) (bounded Q n' t') (λ vs. in_order (all_bounded P n ts)) (λ vs. in_order (all_bounded Q n' ts')) (omega arith) (bounded_follow n n' le i nowhere s s 0 t t' h) (λ vs. rest.grows) (λ vs vs' e. rest)

      pub program_follows : AreKin (base.links i) P.rights Q.rights s P.variables Q.variables → L.calls P.main Q.main → (n n' : ℕ) → b * n ≤ n' → Follows L a p (base.deep i) R R E 0 (program P n) (program Q n')
      program_follows kin mains n n' le =
          let main = called_follows i R E n n' (bounded_follow n n' le) (setting.functions P.main Q.main mains) [] [] L.nothing in
          then_follows L a p (base.deep i) R R R E 0 0 0 (in_order (all_bounded P n P.variables)) (in_order (all_bounded Q n' Q.variables)) (λ no. called (bounded P n) [] (slice_get P.functions P.main)) (λ no. called (bounded Q n') [] (slice_get Q.functions Q.main)) (omega arith)
          (variables_follow n n' le kin) (λ no. main.grows) (λ no no' e. main)
