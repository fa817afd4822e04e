-- The scope of the worked examples of expressions is within the limit, and a type of too many scalars isn't.
use Rattle.std.specs.Prelude.{◌≡◌, ◌+◌, false, List, [], ◌∷◌, codes}
use Rattle.go_grammar.specs.declared.kind.Kind.TheVariants as kind
use Rattle.go_grammar.specs.Trees.{Tree, node, none, more}
use Rattle.go_tree.specs.declared.object.Predeclared.TheVariants as predeclared
use Rattle.go_types.specs.Trees.{array, slice}
use Rattle.go_typed.specs.Trees.{sort_of}
use Rattle.go_typed.specs.Trees as sort
use Rattle.go_print_laws.specs.Reading.{IsWithin}
use Rattle.go_exprs_rules.specs.Scopes.{type_place}
use Rattle.go_exprs_rules.specs.Sentences.{Word, word, mark, predeclared_word, number, name, scope_of}
use Rattle.go_exprs_rules.specs.Sorts.{byte}
use Rattle.go_exprs_rules.specs.Typing.{typing}
use Rattle.go_stmts_limits.specs.Limits.{ScopeIsWithin, AreBehind}

-- [1048577]byte
abbrev pub words : List Word
words = mark ∷ word (codes "1048577") ∷ mark ∷ predeclared_word predeclared.Byte ∷ []

abbrev pub written : Tree
written = node kind.SequenceType 0 4 (more (number 1) (more (name 3) none))

pub record Examples : Type 0 where
  pub scope : (ws : List Word) → ScopeIsWithin (scope_of ws) (scope_of ws)
  -- it has five declared types
  pub behind : (ws : List Word) → AreBehind (scope_of ws) (λ n. n + 5)
  -- the largest array type, one that is larger, and a slice of such arrays
  pub largest : IsWithin (scope_of []) (array 1048576 byte)
  pub larger : IsWithin (scope_of []) (array 1048577 byte) → ⊥
  pub inner : IsWithin (scope_of []) (slice (array 1048577 byte)) → ⊥
  -- Where the limit is judged, a type above it stands for nothing known; where it isn't, it stands for itself.
  pub judged : sort_of (typing (scope_of words) type_place written) ≡ sort.Unknown
  pub unjudged : sort_of (typing (record (scope_of words) { limits = false }) type_place written) ≡ sort.IsType (array 1048577 byte)
