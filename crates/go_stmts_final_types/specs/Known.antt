-- What the names of a typed tree stand for is known.
use Rattle.std.specs.Prelude.{◌≡◌, Bool, true, false}
use Rattle.go_types.specs.Trees.{TypeTree}
use Rattle.go_typed.specs.declared.form.Form.{Form}
use Rattle.go_typed.specs.declared.form.Form.TheVariants as form
use Rattle.go_typed.specs.declared.form.Referent.TheVariants as referent
use Rattle.go_typed.specs.Trees.{typed, Typeds, none, more, skip}
use Rattle.go_exprs_rules.specs.Settling.{Part}
use Rattle.go_exprs_rules.specs.Sorts.{Stands, is_unknown, is_open}

-- a variable of the package
abbrev pub is_package_variable : Form → Bool
is_package_variable (form.Object (referent.Variable n)) = true
is_package_variable f = false

abbrev pub is_object : Form → Bool
is_object (form.Object r) = true
is_object f = false

-- a variable of the package has a type
abbrev pub VariableIsTyped : Bool → Stands → Type 0
VariableIsTyped true s = is_open s ≡ false
VariableIsTyped false s = Unit {0}

-- none of these names one that is declared outside
abbrev pub AreOwn : Typeds TypeTree → Type 0
AreOwn none = Unit {0}
AreOwn (more (typed f i j l qs) ps) = (is_object f ≡ false) × AreOwn ps
AreOwn (skip ps) = AreOwn ps

-- the names that a declaration of constants declares are those of the function
abbrev pub DeclaresOwn : Form → Typeds TypeTree → Type 0
DeclaresOwn form.Constants ps = AreOwn ps
DeclaresOwn f ps = Unit {0}

abbrev mutual
  -- No node stands for what isn't known, variables of the package have types, and a declaration of constants declares those of its
  -- function.
  pub IsKnown : Part → Type 0
  IsKnown (typed f i j l ps) = (is_unknown l.sort ≡ false) × VariableIsTyped (is_package_variable f) l.sort × DeclaresOwn f ps × AreKnown ps

  pub AreKnown : Typeds TypeTree → Type 0
  AreKnown none = Unit {0}
  AreKnown (more p ps) = IsKnown p × AreKnown ps
  AreKnown (skip ps) = AreKnown ps
