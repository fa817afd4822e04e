-- Scopes that say the same at the tokens of a tree.
use Rattle.std.specs.Prelude.{◌≡◌, ℕ, ◌-◌, Bool, true, List, Option, Some, None}
use Rattle.go_grammar.specs.declared.kind.Kind.{Kind}
use Rattle.go_grammar.specs.declared.kind.Kind.TheVariants as kind
use Rattle.go_grammar.specs.declared.kind.Sort.TheVariants as declaring
use Rattle.go_grammar.specs.Trees.{Tree, node, Trees, none, more, skip}
use Rattle.go_tree.specs.declared.object.Object.{Object}
use Rattle.go_tree.specs.declared.object.Object.TheVariants as object
use Rattle.go_typed.specs.declared.form.Referent.{Referent}
use Rattle.go_exprs_rules.specs.Scopes.{Needed, Scope, Hint}
use Rattle.go_exprs_rules.specs.Sorts.{Stands}
use Rattle.go_exprs_rules.specs.Typing.{typing, faults}
use Rattle.go_package_defs.specs.Bodies.{own_object}

-- ---- the tokens that a tree is read by

-- Of a node from the token i up to j: a name and a literal of a basic type are read by their token, a key by its first one, a
-- selector by its last one. The name of a local type is the first token of its specification.
abbrev pub TokenHas : (ℕ → Bool) → Kind → ℕ → ℕ → Type 0
TokenHas p kind.Name i j = p i ≡ true
TokenHas p kind.DeclaredName i j = p i ≡ true
TokenHas p kind.Integer i j = p i ≡ true
TokenHas p kind.Rune i j = p i ≡ true
TokenHas p kind.Text i j = p i ≡ true
TokenHas p kind.Keyed i j = p i ≡ true
TokenHas p kind.Selector i j = p (j - 1) ≡ true
TokenHas p (kind.Specification declaring.Type) i j = p i ≡ true
TokenHas p k i j = Unit {0}

abbrev mutual
  -- what holds of all these tokens of a tree
  pub AllTokens : (ℕ → Bool) → Tree → Type 0
  AllTokens p (node k i j ps) = TokenHas p k i j × TokensIn p ps

  pub TokensIn : (ℕ → Bool) → Trees → Type 0
  TokensIn p none = Unit {0}
  TokensIn p (more t ts) = AllTokens p t × TokensIn p ts
  TokensIn p (skip ts) = TokensIn p ts

-- ---- scopes

-- what tokens say and mean, and what is declared stands for
pub record Says : Type 0 where
  pub texts : ℕ → List ℕ
  pub characters : ℕ → List ℕ
  pub objects : ℕ → Option Object
  pub sorts : Needed → Object → Stands
  pub referents : ℕ → Referent

abbrev pub said : Scope → Says
said s = record { texts = s.texts; characters = s.characters; objects = s.objects; sorts = s.sorts; referents = s.referents }

-- Two objects, one of each scope, mean the same: what is declared stands for the same, however it is needed, and has the same
-- number in the program; a local has the same number in its function, and which function that is counts for nothing.
abbrev pub MeanSame : Says → Says → Option Object → Option Object → Type 0
MeanSame a b None None = Unit {0}
MeanSame a b (Some object.Import) (Some object.Import) = Unit {0}
MeanSame a b (Some (object.Predeclared m)) (Some (object.Predeclared n)) = n ≡ m
MeanSame a b (Some (object.Package m)) (Some (object.Package n)) = ((need : Needed) → b.sorts need (object.Package n) ≡ a.sorts need (object.Package m)) × (b.referents n ≡ a.referents m)
MeanSame a b (Some (object.Local f m)) (Some (object.Local g n)) = ((need : Needed) → b.sorts need (object.Local g n) ≡ a.sorts need (object.Local f m)) × (n ≡ m)
MeanSame a b o q = ⊥

-- Each token that passes the test says the same and means the same.
pub record SaidSame (p : ℕ → Bool) (a b : Says) : Type 0 where
  pub texts : (i : ℕ) → p i ≡ true → b.texts i ≡ a.texts i
  pub characters : (i : ℕ) → p i ≡ true → b.characters i ≡ a.characters i
  pub objects : (i : ℕ) → p i ≡ true → MeanSame a b (a.objects i) (b.objects i)

-- The scopes have the same right sides and the same rules, and each token that passes the test says the same and means the same.
pub record SaySame (p : ℕ → Bool) (s t : Scope) : Type 0 where
  pub rights : t.rights ≡ s.rights
  pub iota : t.iota ≡ s.iota
  pub needed : t.needed ≡ s.needed
  pub limits : t.limits ≡ s.limits
  pub tokens : SaidSame p (said s) (said t)

-- What is declared stands for the same in both scopes, whichever function a local is of, and objects have the same numbers.
pub record StandSame (s t : Scope) : Type 0 where
  pub sorts : (need : Needed) (o q : Object) → own_object (Some q) ≡ own_object (Some o) → t.sorts need q ≡ s.sorts need o
  pub referents : (n : ℕ) → t.referents n ≡ s.referents n

-- ---- expressions and types

-- It is typed the same, and the same rules fail in it.
pub record IsTypedSame (s t : Scope) (h : Hint) (x : Tree) : Type 0 where
  pub typed : typing t h x ≡ typing s h x
  pub failing : faults t h x ≡ faults s h x
