-- Other numbers for the locals of a function.
use Rattle.std.specs.Prelude.{◌≡◌, ℕ, ◌<◌, ◌≤◌, List, [], ◌∷◌, length, map, Option, Some, None}
use Rattle.std.specs.Option.{option_map}
use Rattle.go_types.specs.Trees.{TypeTree}
use Rattle.go_typed.specs.declared.form.Form.{Form}
use Rattle.go_typed.specs.declared.form.Form.TheVariants as form
use Rattle.go_typed.specs.Trees.{Typed, typed, Typeds, none, more, skip}
use Rattle.go_meaning.specs.Values.{Value, nth}
use Rattle.go_meaning.specs.Meaning.{Code}

abbrev pub form_renamed : (ℕ → ℕ) → Form → Form
form_renamed r (form.Local i) = form.Local (r i)
form_renamed r (form.New i) = form.New (r i)
form_renamed r (form.Declared i) = form.Declared (r i)
form_renamed r f = f

abbrev mutual
  pub tree_renamed : (ℕ → ℕ) → Typed TypeTree → Typed TypeTree
  tree_renamed r (typed f i j l ps) = typed (form_renamed r f) i j l (trees_renamed r ps)

  pub trees_renamed : (ℕ → ℕ) → Typeds TypeTree → Typeds TypeTree
  trees_renamed r none = none
  trees_renamed r (more p ps) = more (tree_renamed r p) (trees_renamed r ps)
  trees_renamed r (skip ps) = skip (trees_renamed r ps)

-- all locals that are named in a tree are below n
abbrev pub IsFormBelow : ℕ → Form → Type 0
IsFormBelow n (form.Local i) = i < n
IsFormBelow n (form.New i) = i < n
IsFormBelow n (form.Declared i) = i < n
IsFormBelow n f = Unit {0}

abbrev mutual
  pub IsBelow : ℕ → Typed TypeTree → Type 0
  IsBelow n (typed f i j l ps) = IsFormBelow n f × AreBelow n ps

  pub AreBelow : ℕ → Typeds TypeTree → Type 0
  AreBelow n none = Unit {0}
  AreBelow n (more p ps) = IsBelow n p × AreBelow n ps
  AreBelow n (skip ps) = AreBelow n ps

-- the numbers below n get numbers of their own
abbrev pub IsOneToOne : ℕ → (ℕ → ℕ) → Type 0
IsOneToOne n r = (i j : ℕ) → i < n → j < n → r i ≡ r j → i ≡ j

-- The first frame has at least the locals below n, and the second one has them under their new numbers, with the same values.
-- Both may have further locals.
pub record Agree (n : ℕ) (r : ℕ → ℕ) (f f' : List Value) : Type 0 where
  pub holds : n ≤ length f
  pub fits : (i : ℕ) → i < n → r i < length f'
  pub same : (i : ℕ) → i < n → nth f i ≡ nth f' (r i)

abbrev pub AreParametersBelow : ℕ → List (Option ℕ) → Type 0
AreParametersBelow n [] = Unit {0}
AreParametersBelow n (None ∷ ps) = AreParametersBelow n ps
AreParametersBelow n (Some i ∷ ps) = (i < n) × AreParametersBelow n ps

-- the function g, well numbered, is g' but for the numbers of its locals, of which g' may have more
pub record IsRenamed (g g' : Code) : Type 0 where
  pub new : ℕ → ℕ
  pub one_to_one : IsOneToOne g.locals new
  pub fits : (i : ℕ) → i < g.locals → new i < g'.locals
  pub parameters_below : AreParametersBelow g.locals g.parameters
  pub body_below : IsBelow g.locals g.body
  pub parameters : g'.parameters ≡ map (option_map new) g.parameters
  pub body : g'.body ≡ tree_renamed new g.body

pub data AreRenamed : List Code → List Code → Type 0 where
  nothing : AreRenamed [] []
  also : (g g' : Code) (gs gs' : List Code) → IsRenamed g g' → AreRenamed gs gs' → AreRenamed (g ∷ gs) (g' ∷ gs')
