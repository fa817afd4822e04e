-- Other numbers of the declared types that locals are, the same ones where types are declared.
use Rattle.std.specs.Prelude.{◌≡◌, ℕ, Option}
use Rattle.std.specs.Option.{option_map}
use Rattle.go_grammar.specs.declared.kind.Kind.{Kind}
use Rattle.go_grammar.specs.declared.kind.Kind.TheVariants as kind
use Rattle.go_grammar.specs.declared.kind.Sort.TheVariants as declaring
use Rattle.go_grammar.specs.Trees.{Tree, node, Trees, none, more, skip}
use Rattle.go_tree.specs.declared.object.Object.{Object}
use Rattle.go_stmts_defs.specs.Frames.{Frame}
use Rattle.go_stmts_defs.specs.Laying.{local_named}
use Rattle.go_stmts_defs.specs.Reading.{Reading, read}

-- If a type is declared at the token i, the local that it names has the same number by both.
abbrev pub IsNumbered : (ℕ → ℕ) → (ℕ → ℕ) → (ℕ → Option Object) → Kind → ℕ → Type 0
IsNumbered types others objects (kind.Specification declaring.Type) i = option_map others (local_named (objects i)) ≡ option_map types (local_named (objects i))
IsNumbered types others objects k i = Unit {0}

abbrev mutual
  -- So it is at each token of the tree.
  pub AreNumbered : (ℕ → ℕ) → (ℕ → ℕ) → (ℕ → Option Object) → Tree → Type 0
  AreNumbered types others objects (node k i j ps) = IsNumbered types others objects k i × AllNumbered types others objects ps

  pub AllNumbered : (ℕ → ℕ) → (ℕ → ℕ) → (ℕ → Option Object) → Trees → Type 0
  AllNumbered types others objects none = Unit {0}
  AllNumbered types others objects (more p ps) = AreNumbered types others objects p × AllNumbered types others objects ps
  AllNumbered types others objects (skip ps) = AllNumbered types others objects ps

-- with these numbers
abbrev pub numbered : (ℕ → ℕ) → Frame → Frame
numbered others f = record f { types = others }

abbrev pub read_numbered : (ℕ → ℕ) → Reading → Reading
read_numbered others (read x fs f) = read x fs (numbered others f)
