-- The packages, declarations and names of the definitions, as the program holds them.
use Rattle.std.specs.Prelude.{List, Option, map}
use Rattle.std.specs.Option.{option_map, option_to_list}
use Rattle.go_base.specs.declared.span.Span.{Span}
use Rattle.go_tree.specs.Units.{Place, word, bytes_at}
use Rattle.go_tree.specs.Declarations as declarations
use Rattle.go_tree.specs.Meanings as meanings
use Rattle.go_tree.specs.Units as units
use Rattle.go_tree.specs.Lookups.{whole_of, selected_of}
use Rattle.go_tree.specs.Lookups as rules
use Rattle.go_scopes_lookup.specs.declared.unit.Unit.{Unit}
use Rattle.go_scopes_lookup.specs.declared.found.Found.{Found}
use Rattle.go_scopes_lookup.specs.declared.meaning.Entry.{Entry}
use Rattle.go_scopes_lookup.specs.declared.meaning.Meaning.{Meaning}
use Rattle.go_scopes_lookup.specs.declared.meaning.Numbers.{Numbers}
use Rattle.go_scopes_lookup.specs.declared.asked.Asked.{Asked}

abbrev pub unit_view : Unit → units.Unit
unit_view u = record { tokens = u.tokens.now; events = u.events.items }

abbrev pub units_view : List Unit → List units.Unit
units_view us = map unit_view us

abbrev pub place_of : Span → Place
place_of s = record { file = s.file; start = s.start; end = s.end }

abbrev pub found_view : Found → declarations.Found
found_view f = record { file = f.file; name = word f.tokens.now f.declaration.now.name; place = bytes_at f.file f.tokens.now f.declaration.now.name; it = f.declaration.now }

abbrev pub entry_view : Entry → meanings.Meaning
entry_view e = record { name = e.name.now; extent = e.extent; object = e.object; source = option_map found_view e.source }

abbrev pub meaning_view : Meaning → meanings.Meaning
meaning_view m = entry_view m.entry.now

abbrev pub asked_view : Asked → rules.Asked
asked_view a = record { file = a.file; name = word a.tokens.now a.lookup.now.name; place = bytes_at a.file a.tokens.now a.lookup.now.name; whole = whole_of a.file a.tokens.now a.lookup.now.name a.lookup.now.role; selected = selected_of a.tokens.now a.lookup.now.role; meaning = option_map meaning_view a.meaning; it = a.lookup.now }

-- the name that is looked up, if one is
abbrev pub one_asked : Option Asked → List rules.Asked
one_asked a = option_to_list (option_map asked_view a)

abbrev pub numbers_view : Numbers → meanings.Numbers
numbers_view k = record { shared = k.shared; functions = k.functions; local = k.local }
