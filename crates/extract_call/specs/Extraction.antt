-- A package in which windows became calls of a new function, as the meaning sees it.
use Rattle.std.specs.Prelude.{◌≡◌, ℕ, ◌+◌, ◌≤◌, true, List, Option, Some, slice_get}
use Rattle.go_types.specs.Trees.{TypeTree}
use Rattle.go_typed.specs.Trees.{Typeds}
use Rattle.go_meaning.specs.Values.{Value}
use Rattle.go_meaning.specs.Meaning.{Code, has_body, Program}
use Rattle.go_meaning_simulation.specs.Links.{Links, nowhere}
use Rattle.go_meaning_simulation.specs.Kin.{Chain, AreKin}
use Rattle.go_meaning_simulation.specs.Locals.{Linked, no_locals, none_here, Inside, window_links, body_links}
use Rattle.go_meaning_simulation.specs.Mates.{MatesOrNone}
use Rattle.go_meaning_numbers.specs.Laws.{Moves}
use Rattle.extract_call.specs.Calls.{Argument, Fresh, IsGap, IsBody}
use Rattle.extract_call.specs.Members.{Bound, Comes}

-- V says which values are alike; Q has calls in place of windows of P.
module _ (V : List Value → List Value → Type 0) (P Q : Program) where
  -- A window of the old function that is told, what stands in its place, and how the new function stands for it. `bodies` tells for
  -- each old function which locals stand for one another; h is the number of the new function, `copy` its statements but for the
  -- return, and `given` the locals that it returns.
  pub record Member (bodies : ℕ → Linked) (h : ℕ) (new : Code) (copy : Typeds TypeTree) (given : List ℕ) : Type 0 where
    pub function : ℕ
    pub inside : Inside
    pub old : Typeds TypeTree
    pub gap : Typeds TypeTree
    -- the arguments, the targets of the results, the locals that are declared for them
    pub args : List Argument
    pub targets : List (Option ℕ)
    pub fresh : List Fresh
    -- the locals that are known before the window and behind it
    pub before : List ℕ
    pub behind : List ℕ
    pub is_gap : IsGap Q.rights h args targets fresh gap
    pub window : Chain (window_links V inside) P.rights Q.rights nowhere before behind 0 old copy
    pub bound : Bound V (bodies function) inside fresh new.parameters args before inside.held
    pub size : new.locals ≡ inside.locals.new_count
    pub count : (bodies function).count ≡ inside.locals.count
    pub comes : Comes (bodies function) inside behind targets given fresh

  -- at least one window, and at most k in one function
  pub record Extraction (k : ℕ) : Type 0 where
    pub some : 1 ≤ k
    pub h : ℕ
    pub new : Code
    pub there : slice_get Q.functions h ≡ Some new
    pub has : has_body new ≡ true
    pub statements : Typeds TypeTree
    pub given : List ℕ
    pub is_body : IsBody Q.rights statements given new.body
    pub bodies : ℕ → Linked
    pub member : ℕ → Member bodies h new statements given

module _ (V : List Value → List Value → Type 0) (P Q : Program) (k : ℕ) (x : Extraction V P Q k) where
  -- in the function g one of the windows and its gap
  pub record IsWindow (g : ℕ) (ws ws' : Typeds TypeTree) : Type 0 where
    pub which : ℕ
    pub function_is : g ≡ (x.member which).function
    pub old_is : ws ≡ (x.member which).old
    pub gap_is : ws' ≡ (x.member which).gap

  -- outside of functions no window and no local is
  abbrev pub outside_links : Links
  outside_links = body_links V no_locals none_here 1 (k + 1)

  abbrev pub function_links : ℕ → Links
  function_links g = body_links V (x.bodies g) (IsWindow g) 1 (k + 1)

  -- Functions of the numbers that C pairs are mates, but for windows.
  pub record Fits (C : ℕ → ℕ → Type 0) : Type 0 where
    pub functions : (g g' : ℕ) → C g g' → MatesOrNone V P Q (x.bodies g) (IsWindow g) k (slice_get P.functions g) (slice_get Q.functions g')
    pub mains : C P.main Q.main
    pub variables : AreKin outside_links P.rights Q.rights tt P.variables Q.variables

-- The functions of P have the numbers of s in Q, in which windows became calls: k of them at most in one function.
pub record Extracts (s : ℕ → ℕ) (k : ℕ) (P Q : Program) : Type 0 where
  pub windows : Extraction (Moves s) P Q k
  pub fits : Fits (Moves s) P Q k windows (λ g g'. g' ≡ s g)
  pub count : Q.count ≡ P.count
