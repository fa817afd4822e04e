-- Holes, and the mass of trees.
use Rattle.std.specs.Prelude.{ℕ, ◌+◌, Bool, true, false, ◌&&◌, ◌||◌, not, nat_lt, nat_le, if◌then◌else◌, List, [], ◌∷◌}
use Rattle.go_typed.specs.declared.form.Form.{Form}
use Rattle.go_typed.specs.declared.form.Form.TheVariants as form
use Rattle.go_typed.specs.Trees.{Sort, Constant, OpenConstant, Label, Typed, typed, Typeds, none, more, skip}
use Rattle.clone_window.specs.Kinds.{outline}

abbrev pub is_constant : {T : Type 0} → Sort T → Bool
is_constant (Constant t c) = true
is_constant (OpenConstant c) = true
is_constant _ = false

-- Names and expressions (Go specification: Expressions). A name that is declared and the blank identifier are none.
abbrev pub is_expression : Form → Bool
is_expression (form.New n) = false
is_expression (form.Declared n) = false
is_expression form.Blank = false
is_expression f = nat_le 30 (outline f).kind && nat_lt (outline f).kind 50

-- a constant expression (Go specification: Constant expressions)
abbrev pub is_constant_expression : {T : Type 0} → Form → Label T → Bool
is_constant_expression f l = is_expression f && is_constant l.sort

-- A hole is a constant expression that names no variable, as large as can be: none stands inside another constant expression.
-- Neither types nor declarations of constants have expressions among their parts.
abbrev pub is_hole : {T : Type 0} → Bool → Form → Label T → Bool
is_hole inside f l = not inside && is_constant_expression f l && not l.varies

-- whether the parts of a node stand inside a constant expression
abbrev pub is_inside : {T : Type 0} → Bool → Form → Label T → Bool
is_inside inside f l = inside || is_constant_expression f l

-- types, keys of fields and specifications weigh nothing
abbrev pub weight : Form → ℕ
weight f = if nat_lt (outline f).kind 50 then 1 else 0

abbrev mutual
  -- The mass of a tree, which may stand inside a constant expression: its nodes, of which a hole is one.
  pub mass : {T : Type 0} → Bool → Typed T → ℕ
  mass inside (typed f i j l ps) = if is_hole inside f l then 1 else weight f + masses (is_inside inside f l) ps

  -- that of a row of parts
  pub masses : {T : Type 0} → Bool → Typeds T → ℕ
  masses inside none = 0
  masses inside (more p ps) = mass inside p + masses inside ps
  masses inside (skip ps) = masses inside ps

-- the masses of the parts that are there, which are statements, one by one
abbrev pub each_mass : {T : Type 0} → Typeds T → List ℕ
each_mass none = []
each_mass (more p ps) = mass false p ∷ each_mass ps
each_mass (skip ps) = each_mass ps
