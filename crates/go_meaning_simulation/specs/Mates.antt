-- Packages whose functions are mates: their bodies are kin.
use Rattle.std.specs.Prelude.{◌≡◌, ℕ, ◌+◌, ◌≤◌, List, Option, Some, None, slice_get}
use Rattle.go_types.specs.Trees.{TypeTree}
use Rattle.go_typed.specs.Trees.{Typeds}
use Rattle.go_meaning.specs.Values.{Value}
use Rattle.go_meaning.specs.Meaning.{Code, has_body, Program}
use Rattle.go_meaning_simulation.specs.Links.{nowhere}
use Rattle.go_meaning_simulation.specs.Kin.{Statement, AreKin}
use Rattle.go_meaning_simulation.specs.Locals.{Linked, AreLinked, no_locals, none_here, body_links}

-- V says which values are alike.
module _ (V : List Value → List Value → Type 0) (P Q : Program) where
  -- Two functions whose parameters stand for one another and whose bodies are kin, but for windows that cost a turn each, so many at
  -- most from the spent turn before on.
  pub record AreMates (I : Linked) (windows : Typeds TypeTree → Typeds TypeTree → Type 0) (most : ℕ) (g g' : Code) : Type 0 where
    pub locals : g.locals ≡ I.count
    pub new_locals : g'.locals ≡ I.new_count
    pub parameters : AreLinked I g.parameters g'.parameters
    pub bodies : has_body g ≡ has_body g'
    pub cost : ℕ
    pub cheap : cost ≤ most
    pub tree : Statement (body_links V I windows 1 (most + 1)) P.rights Q.rights nowhere tt tt cost g.body g'.body

  -- both are there, or neither
  pub data MatesOrNone (I : Linked) (windows : Typeds TypeTree → Typeds TypeTree → Type 0) (most : ℕ) : Option Code → Option Code → Type 0 where
    missing : MatesOrNone I windows most None None
    found : {g g' : Code} → AreMates I windows most g g' → MatesOrNone I windows most (Some g) (Some g')

  -- Functions of the numbers that C pairs are mates, without windows.
  pub record AreMatched (C : ℕ → ℕ → Type 0) : Type 0 where
    pub bodies : ℕ → Linked
    pub functions : (g g' : ℕ) → C g g' → MatesOrNone (bodies g) none_here 0 (slice_get P.functions g) (slice_get Q.functions g')
    pub mains : C P.main Q.main
    pub variables : AreKin (body_links V no_locals none_here 1 1) P.rights Q.rights tt P.variables Q.variables
    pub count : Q.count ≡ P.count
