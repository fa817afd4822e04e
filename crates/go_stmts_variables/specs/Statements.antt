-- Statements in which variables stand in place of constants, and how they are read.
use Rattle.std.specs.Prelude.{◌≡◌, ℕ, Bool, true, false, None, is_some}
use Rattle.go_grammar.specs.declared.kind.Kind.{Kind}
use Rattle.go_grammar.specs.declared.kind.Kind.TheVariants as kind
use Rattle.go_grammar.specs.declared.kind.Sort.TheVariants as declaring
use Rattle.go_grammar.specs.Categories.{is_type}
use Rattle.go_grammar.specs.Trees.{Tree, node, Trees, none, more, skip, kind_of}
use Rattle.go_types.specs.Trees.{TypeTree}
use Rattle.go_typed.specs.declared.form.Form.{Form}
use Rattle.go_typed.specs.declared.form.Form.TheVariants as form
use Rattle.go_typed.specs.Trees.{typed, Typeds, sort_of}
use Rattle.go_typed.specs.Trees as sort
use Rattle.go_exprs_rules.specs.Settling.{Part}
use Rattle.go_exprs_rules.specs.Sorts.{own_type}
use Rattle.go_stmts_defs.specs.Frames.{Frame}
use Rattle.go_stmts_defs.specs.Reading.{Found, Reading, read}
use Rattle.go_exprs_variables.specs.Variables.{Standins, Free, AllFree, FirstFree}

-- ---- what a reading has

abbrev pub tree_in : Reading → Part
tree_in (read x fs s) = x

abbrev pub found_in : Reading → Found
found_in (read x fs s) = fs

abbrev pub frame_in : Reading → Frame
frame_in (read x fs s) = s

-- ---- names, types and constants that are declared

abbrev pub FreeType : Bool → Standins → Tree → Type 0
FreeType true w x = Free w x
FreeType false w x = Unit {0}

-- behind the names of a specification of variables stands a type, or what holds values
abbrev pub SecondFree : Standins → Trees → Type 0
SecondFree w (more ns (more r ps)) = FreeType (is_type (kind_of r)) w r
SecondFree w ps = Unit {0}

-- Names that are declared and types are none in place of which a variable stands; nor does one stand in a declaration of constants or
-- types.
abbrev pub Declared : Standins → Kind → ℕ → Trees → Type 0
Declared w kind.DeclaredName i ps = w i ≡ None
Declared w kind.NewNames i ps = AllFree w ps
Declared w kind.TypedValues i ps = FirstFree w ps
Declared w (kind.Specification declaring.Variable) i ps = SecondFree w ps
Declared w (kind.Specification declaring.Type) i ps = w i ≡ None
Declared w (kind.Declaration declaring.Constant) i ps = AllFree w ps
Declared w (kind.Declaration declaring.Type) i ps = AllFree w ps
Declared w k i ps = Unit {0}

abbrev mutual
  pub Declares : Standins → Tree → Type 0
  Declares w (node k i j ps) = Declared w k i ps × AllDeclare w ps

  pub AllDeclare : Standins → Trees → Type 0
  AllDeclare w none = Unit {0}
  AllDeclare w (more p ps) = Declares w p × AllDeclare w ps
  AllDeclare w (skip ps) = AllDeclare w ps

-- ---- tags

-- a second part, if it is there, stands for a value of a type
abbrev pub SecondTyped : Typeds TypeTree → Type 0
SecondTyped (sort.more a (sort.more x ps)) = is_some (own_type (sort_of x)) ≡ true
SecondTyped (sort.skip (sort.more x ps)) = is_some (own_type (sort_of x)) ≡ true
SecondTyped ps = Unit {0}

abbrev pub TagAt : Form → Typeds TypeTree → Type 0
TagAt form.Switch ps = SecondTyped ps
TagAt f ps = Unit {0}

abbrev mutual
  -- The tag of each switch in it has a type. Without one the values of its cases aren't judged, so constants in them may be out of range.
  pub Tagged : Part → Type 0
  Tagged (typed f i j l ps) = TagAt f ps × AllTagged ps

  pub AllTagged : Typeds TypeTree → Type 0
  AllTagged sort.none = Unit {0}
  AllTagged (sort.more p ps) = Tagged p × AllTagged ps
  AllTagged (sort.skip ps) = AllTagged ps
