-- The masses of the statements of all statement lists, and the mass of a node by that of its parts.
use Rattle.std.specs.Prelude.{ℕ, ◌+◌, Bool, if◌then◌else◌, List, [], ◌∷◌, ◌++◌, map, Vec}
use Rattle.std.specs.declared.alloc.Global.{Global}
use Rattle.go_typed.specs.declared.form.Form.{Form}
use Rattle.go_typed.specs.Forms.{is_statement_list}
use Rattle.go_typed.specs.Trees.{Label, Typed, typed, Typeds, none, more, skip, parts_of}
use Rattle.clone_window.specs.Caps.{capped}
use Rattle.clone_window.specs.Masses.{is_hole, weight, each_mass}

-- a node whose parts have this mass
abbrev pub mass_at : {T : Type 0} → Bool → Form → Label T → ℕ → ℕ
mass_at inside f l m = if is_hole inside f l then 1 else weight f + m

-- of the parts that are there, as numbers that end at the greatest one
abbrev pub row_masses : {T : Type 0} → Typeds T → List ℕ
row_masses ps = map capped (each_mass ps)

-- of the parts of a statement list
abbrev pub list_masses : {T : Type 0} → Typed T → List ℕ
list_masses l = row_masses (parts_of l)

-- a row with the masses of a statement list, if it is one
abbrev pub own_row : {T : Type 0} → Form → Typeds T → List (List ℕ)
own_row f ps = if is_statement_list f then row_masses ps ∷ [] else []

abbrev mutual
  -- the masses of the parts of each statement list of a tree, by the numbers of the lists
  pub weights : {T : Type 0} → Typed T → List (List ℕ)
  weights (typed f i j l ps) = own_row f ps ++ weights_among ps

  pub weights_among : {T : Type 0} → Typeds T → List (List ℕ)
  weights_among none = []
  weights_among (more p ps) = weights p ++ weights_among ps
  weights_among (skip ps) = weights_among ps

-- what a table holds
abbrev pub rows : List (Vec ℕ Global) → List (List ℕ)
rows vs = map (λ v. v.items) vs
