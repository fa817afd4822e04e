-- A package of which windows are taken out, tree by tree: what is asked of each function and of each window.
use Rattle.std.specs.Prelude.{◌≡◌, ℕ, ◌≤◌, true, List, [], ◌∷◌, Option, Some, None, slice_get}
use Rattle.go_types.specs.Trees.{TypeTree}
use Rattle.go_typed.specs.Trees.{Typed, Typeds}
use Rattle.go_meaning.specs.Meaning.{Code, has_body, Program}
use Rattle.go_meaning_simulation.specs.Locals.{Linked, AreLinked, no_locals, none_here, Inside}
use Rattle.go_meaning_numbers.specs.Laws.{Moves}
use Rattle.extract_call.specs.Calls.{Argument, Fresh, IsGap, IsBody}
use Rattle.extract_call.specs.Members.{Bound, Comes}
use Rattle.extract_call.specs.Alike.{AreAlike}
use Rattle.extract_trees.specs.Numberings.{Numbering}
use Rattle.extract_trees.specs.Filled.{Gap, filled}
use Rattle.extract_runs.specs.Laws.{IsBodySound, IsWindowSound}

-- the functions of P have the numbers of s in Q, of which at most k windows are taken out of one function
module _ (s : ℕ → ℕ) (k : ℕ) (P Q : Program) where
  -- A window of the old function that is told, what stands in its place, and its numbering in the new function, whose statements but
  -- for the return are `copy`.
  pub record TreeMember (bodies : ℕ → Linked) (h : ℕ) (new : Code) (copy : Typeds TypeTree) (given : List ℕ) : Type 0 where
    pub function : ℕ
    pub inside : Inside
    pub old : Typeds TypeTree
    pub gap : Typeds TypeTree
    -- the arguments, the targets of the results, the locals that are declared for them
    pub args : List Argument
    pub targets : List (Option ℕ)
    pub fresh : List Fresh
    -- the locals that are known before the window and behind it
    pub before : List ℕ
    pub behind : List ℕ
    pub is_gap : IsGap Q.rights h args targets fresh gap
    pub numbering : Numbering
    pub window : IsWindowSound s P.rights Q.rights inside numbering before behind old copy
    pub bound : Bound (Moves s) (bodies function) inside fresh new.parameters args before inside.held
    pub size : new.locals ≡ inside.locals.new_count
    pub count : (bodies function).count ≡ inside.locals.count
    pub comes : Comes (bodies function) inside behind targets given fresh

  -- the new function, and the windows that it stands for
  pub record TreeExtraction : Type 0 where
    pub some : 1 ≤ k
    pub h : ℕ
    pub new : Code
    pub there : slice_get Q.functions h ≡ Some new
    pub has : has_body new ≡ true
    pub statements : Typeds TypeTree
    pub given : List ℕ
    pub is_body : IsBody Q.rights statements given new.body
    pub bodies : ℕ → Linked
    pub member : ℕ → TreeMember bodies h new statements given

  -- in the function g one of the windows and its gap
  pub record IsTreeWindow (x : TreeExtraction) (g : ℕ) (ws ws' : Typeds TypeTree) : Type 0 where
    pub which : ℕ
    pub function_is : g ≡ (x.member which).function
    pub old_is : ws ≡ (x.member which).old
    pub gap_is : ws' ≡ (x.member which).gap

  -- the new function is the old one of the number g, in which gaps take the place of windows
  pub record IsFilled (x : TreeExtraction) (g : ℕ) (old new : Code) : Type 0 where
    pub locals : old.locals ≡ (x.bodies g).count
    pub new_locals : new.locals ≡ (x.bodies g).new_count
    pub parameters : AreLinked (x.bodies g) old.parameters new.parameters
    pub bodies : has_body old ≡ has_body new
    -- how many windows there are
    pub count : ℕ
    pub few : count ≤ k
    pub numbering : Numbering
    pub gaps : List Gap
    pub body : new.body ≡ filled numbering gaps old.body
    pub sound : IsBodySound s P.rights Q.rights (x.bodies g) (IsTreeWindow x g) numbering gaps count old.body

  -- both are there, or neither
  pub data FilledOrNone (x : TreeExtraction) (g : ℕ) : Option Code → Option Code → Type 0 where
    missing : FilledOrNone x g None None
    found : {old new : Code} → IsFilled x g old new → FilledOrNone x g (Some old) (Some new)

  -- specifications of variables, which hold no windows
  pub data AreNumbered : List (Typed TypeTree) → List (Typed TypeTree) → Type 0 where
    none : AreNumbered [] []
    more : {t : Typed TypeTree} {ts ts' : List (Typed TypeTree)} (c : Numbering) → IsBodySound s P.rights Q.rights no_locals none_here c [] 0 t → AreNumbered ts ts' → AreNumbered (t ∷ ts) (filled c [] t ∷ ts')

  pub record TreesExtract : Type 0 where
    pub windows : TreeExtraction
    pub functions : (g : ℕ) → FilledOrNone windows g (slice_get P.functions g) (slice_get Q.functions (s g))
    pub mains : Q.main ≡ s P.main
    pub variables : AreNumbered P.variables Q.variables
    pub count : Q.count ≡ P.count

-- A package of which windows are taken out so runs as the old one does.
abbrev pub ExtractedTreesRunAlike : Type 0
ExtractedTreesRunAlike = (s : ℕ → ℕ) (k : ℕ) (P Q : Program) → TreesExtract s k P Q → AreAlike k P Q
