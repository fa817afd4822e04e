-- The tokens at which types are declared in a derivation.
use Rattle.std.specs.Prelude.{List}
use Rattle.go_tokens.specs.declared.token.TokenKind.{TokenKind}
use Rattle.go_grammar.specs.declared.kind.Category.{Category}
use Rattle.go_grammar.specs.Grammar.{Derives}
use Rattle.go_grammar.specs.Trees.{Tree, first, last}
use Rattle.go_package_steady.specs.Declared.{Ascend}
use Rattle.go_package_steady.specs.Packages.{AreAmong}
use Rattle.go_package_steady.specs.Rising.{type_places}

-- They rise, and are among the tokens of the derivation.
abbrev pub TypePlacesRise : Type 0
TypePlacesRise = (ts : List TokenKind) (c : Category) (t : Tree) → Derives ts c t → Ascend (first t) (type_places t) × AreAmong (first t) (last t) (type_places t)
