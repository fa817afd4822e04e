-- The rules on each name that is looked up, by their names in the program.
use Rattle.std.specs.Prelude.{Bool, ◌&&◌, List}
use Rattle.go_base.specs.declared.fault.FaultCode.{FaultCode}
use Rattle.go_base.specs.declared.fault.FaultCode.TheVariants as code
use Rattle.go_tree.specs.Units.{Place}
use Rattle.go_tree.specs.Lookups.{Asked, object_asked, lacks_meaning, undeclared, is_unknown, outside_names, is_import, is_other_member, outside_members, is_no_call, not_called, is_initial, initialisers}
use Rattle.go_scopes.specs.declared.lookups.LookupRule.{LookupRule}
use Rattle.go_scopes.specs.declared.lookups.LookupRule.TheVariants as rule

abbrev pub code_of : LookupRule → FaultCode
code_of rule.Undeclared = code.Undeclared
code_of rule.OutsideName = code.Outside
code_of rule.OutsideMember = code.Outside
code_of rule.NotCalled = code.NotAValue
code_of rule.Initialiser = code.Initialiser

-- whether a name fails the rule
abbrev pub fails : LookupRule → Asked → Bool
fails rule.Undeclared a = lacks_meaning a.it.constant a.name (object_asked a)
fails rule.OutsideName a = is_unknown a.name (object_asked a)
fails rule.OutsideMember a = is_import (object_asked a) && is_other_member a.it.role a.selected
fails rule.NotCalled a = is_import (object_asked a) && is_no_call a.it.role a.selected
fails rule.Initialiser a = a.it.initial && is_initial a.meaning

-- the bytes of its fault
abbrev pub place_by : LookupRule → Asked → Place
place_by rule.Undeclared a = a.place
place_by rule.OutsideName a = a.place
place_by rule.OutsideMember a = a.whole
place_by rule.NotCalled a = a.whole
place_by rule.Initialiser a = a.place

-- the places where the rule fails, by its definition
abbrev pub places_by : LookupRule → List Asked → List Place
places_by rule.Undeclared asks = undeclared asks
places_by rule.OutsideName asks = outside_names asks
places_by rule.OutsideMember asks = outside_members asks
places_by rule.NotCalled asks = not_called asks
places_by rule.Initialiser asks = initialisers asks
