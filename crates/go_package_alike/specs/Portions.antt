-- Scopes that say at the tokens of a declaration what its package says.
use Rattle.std.specs.Prelude.{◌≡◌, ℕ, ◌+◌, ◌-◌, ◌<◌, ◌≤◌, nat_lt, true, Option, Some, None, slice_get}
use Rattle.go_grammar.specs.Grammar.{IsFile}
use Rattle.go_grammar.specs.Trees.{Tree, last}
use Rattle.go_tokens.specs.Tokens.{kinds}
use Rattle.go_tree.specs.declared.object.Object.{Object}
use Rattle.go_tree.specs.Uses.{object_of}
use Rattle.go_types.specs.Relations.{Rights}
use Rattle.go_exprs_rules.specs.Scopes.{Needed, in_full, Scope}
use Rattle.go_package_defs.specs.Declarations.{Specification}
use Rattle.go_package_defs.specs.Sources.{Source, Package, text_at, characters_at}
use Rattle.go_package_defs.specs.Knowledge.{referent_there}
use Rattle.go_package_defs.specs.Bodies.{Surroundings, own_object, stands_among, based_tree}
use Rattle.go_package_alike.specs.Scopes.{AllTokens}

-- the number of tokens of a declaration
abbrev pub width : Specification → ℕ
width d = d.last - d.first

-- The tokens of the scope are those of the declaration, counted from its first one; they say and mean there what they do in the
-- package, whichever function a local is of. The right sides are these, and objects stand for what surrounds all bodies.
pub record SaysPortion (p : Package) (a : Surroundings) (known : Rights) (d : Specification) (s : Scope) : Type 0 where
  pub rights : s.rights ≡ known
  pub iota : s.iota ≡ 0
  pub needed : s.needed ≡ in_full
  pub limits : s.limits ≡ true
  pub texts : (i : ℕ) → i < width d → s.texts i ≡ text_at p d.file (d.first + i)
  pub characters : (i : ℕ) → i < width d → s.characters i ≡ characters_at p d.file (d.first + i)
  pub objects : (i : ℕ) → i < width d → own_object (s.objects i) ≡ own_object (object_of p.uses d.file (d.first + i))
  pub sorts : (need : Needed) (o : Object) → s.sorts need o ≡ stands_among a.objects need o
  pub referents : (n : ℕ) → s.referents n ≡ referent_there (slice_get a.referents n)

-- The tree is there, and is read by the first n tokens alone.
abbrev pub IsOver : ℕ → Option Tree → Type 0
IsOver n None = ⊥
IsOver n (Some t) = (last t ≤ n) × AllTokens (λ i. nat_lt i n) t

-- The tree of a declaration, counted from its first token, is read by its own tokens alone.
abbrev pub IsWhole : Specification → Type 0
IsWhole d = IsOver (width d) (based_tree d.first d.tree)

-- The file is the derivation over its tokens.
abbrev pub IsDerived : Source → Type 0
IsDerived s = IsFile (kinds s.tokens.tokens) s.tree
