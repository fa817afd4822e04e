-- Holes that become parameters.
use Rattle.std.specs.Prelude.{◌≡◌, ℕ, Bool, true, false, Some}
use Rattle.go_types.specs.Trees.{TypeTree}
use Rattle.go_types.specs.Relations.{Rights}
use Rattle.go_typed.specs.declared.form.Form.{Form}
use Rattle.go_typed.specs.declared.form.Form.TheVariants as form
use Rattle.go_typed.specs.Trees.{Sort, Constant, Typed, typed, Typeds, none, more, skip}
use Rattle.go_meaning.specs.Values.{Value, const_value}
use Rattle.clone_window.specs.Masses.{is_hole, is_inside}
use Rattle.extract_trees.specs.Numberings.{Numbering}
use Rattle.extract_runs.specs.Images.{Renewal}

-- what becomes of functions under other numbers
abbrev pub renewal : Numbering → (functions : ℕ → ℕ) (old new : Rights) (held : Value → ℕ → Type 0) (windows : Typeds TypeTree → Typeds TypeTree → Type 0) (gone : ℕ → Bool) → Renewal
renewal c s old new held windows gone = record { old = old; new = new; functions = s; local = c.local; held = held; windows = windows; gone = gone }

abbrev pub no_window : Typeds TypeTree → Typeds TypeTree → Type 0
no_window ws ws' = ⊥

abbrev pub never : ℕ → Bool
never t = false

-- where no statement is taken out
abbrev pub copies : Numbering → (functions : ℕ → ℕ) (old new : Rights) (held : Value → ℕ → Type 0) → Renewal
copies c s old new held = renewal c s old new held no_window never

module _ (c : Numbering) (held : Value → ℕ → Type 0) where
  -- A hole has a final type.
  abbrev pub HasParameter : Sort TypeTree → ℕ → Type 0
  HasParameter (Constant t v) p = held (const_value v) p
  HasParameter x p = ⊥

  -- the value for a field is no value for a field itself
  abbrev pub IsNoKey : Form → Type 0
  IsNoKey (form.Keyed n) = ⊥
  IsNoKey f = Unit {0}

  abbrev pub IsValue : Form → Typeds TypeTree → Type 0
  IsValue (form.Keyed n) (more (typed f i j l ps) qs) = IsNoKey f
  IsValue f ps = Unit {0}

  abbrev mutual
    -- where a parameter takes the place of a hole, it stands for its value
    pub HasHoles : Bool → Typed TypeTree → Type 0
    HasHoles a (typed f i j l ps) = (is_hole a f l ≡ true → (p : ℕ) → c.parameter i ≡ Some p → HasParameter l.sort p) × IsValue f ps × HaveHoles (is_inside a f l) ps

    pub HaveHoles : Bool → Typeds TypeTree → Type 0
    HaveHoles a none = Unit {0}
    HaveHoles a (more p ps) = HasHoles a p × HaveHoles a ps
    HaveHoles a (skip ps) = HaveHoles a ps

-- in an old function there are no parameters in place of holes
abbrev pub no_hole : Value → ℕ → Type 0
no_hole v p = ⊥
