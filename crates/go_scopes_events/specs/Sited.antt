-- In which part of a declaration each name stands that is looked up. What a declaration needs follows from it (Go specification:
-- Declarations and scope, Constant declarations, Type declarations, Variable declarations, Function declarations).
use Rattle.std.specs.Prelude.{◌≡◌, ℕ, suc, ◌⊎◌, false, nat_eq, List, [], ◌∷◌, Option, Some}
use Rattle.go_grammar.specs.declared.kind.Kind.TheVariants as kind
use Rattle.go_grammar.specs.declared.kind.Sort.TheVariants as sort
use Rattle.go_grammar.specs.Trees.{Tree, node, Trees, none, more, skip, parts}
use Rattle.go_grammar.specs.Grammar.{count}
use Rattle.go_tree.specs.declared.context.Reach.TheVariants as reach
use Rattle.go_tree.specs.declared.context.Site.{Site}
use Rattle.go_tree.specs.declared.context.Site.TheVariants as site
use Rattle.go_tree.specs.declared.event.Use.{Use}
use Rattle.go_tree.specs.declared.event.Event.{Event}
use Rattle.go_tree.specs.declared.event.Event.TheVariants as event
use Rattle.go_tree.specs.Contexts.{value_site, element_site, length_site, column_site}

-- what holds of each name that is looked up
abbrev pub EachUsed : (Use → Type 0) → List Event → Type 0
EachUsed Q [] = Unit {0}
EachUsed Q (event.Use u ∷ es) = Q u × EachUsed Q es
EachUsed Q (e ∷ es) = EachUsed Q es

-- it is the token i, and stands in the part s
abbrev pub IsAt : ℕ → Site → Use → Type 0
IsAt i s u = (u.name ≡ i) × (u.site ≡ s)

-- A name stands in a tree, and in the part of a declaration that its place there says, where the tree is in the part s and in
-- the specification o.
--
-- What a type's specification names stands in its right side; in one of constants or variables, what stands in front of the
-- values is in the type, and each value is one of its own. In a function the signature is the type, and the body is no part of
-- it. In a right side, elements of slices and function types stand apart, and so do the lengths of arrays.
abbrev mutual
  pub IsSited : Option ℕ → Site → Tree → Use → Type 0
  IsSited o s (node kind.Name i j ps) u = IsAt i s u ⊎ AreSited o s ps u
  IsSited o s (node kind.DeclaredName i j ps) u = IsAt i s u ⊎ AreSited o s ps u
  IsSited o s (node (kind.Specification sort.Type) i j ps) u = AreSited (Some i) (site.Right i reach.Direct) ps u
  IsSited o s (node (kind.Specification sort.Constant) i j ps) u = AreSited (Some i) (site.Type i) ps u
  IsSited o s (node (kind.Specification sort.Variable) i j ps) u = AreSited (Some i) (site.Type i) ps u
  IsSited o s (node kind.Values i j ps) u = HoldValues o ps u
  IsSited o s (node kind.TypedValues i j ps) u = HoldTypeAndValues o s ps u
  IsSited o s (node kind.ExpressionList i j ps) u = HoldColumns o s 0 ps u
  IsSited o s (node kind.FunctionDeclaration i j ps) u = HoldSignature o i ps u
  IsSited o s (node kind.SequenceType i j ps) u = HoldElement o s ps u
  IsSited o s (node kind.FunctionType i j ps) u = AreSited o (element_site false s) ps u
  IsSited o s (node k i j ps) u = AreSited o s ps u

  -- it stands in one of the parts, which are all in the part s
  pub AreSited : Option ℕ → Site → Trees → Use → Type 0
  AreSited o s none u = ⊥
  AreSited o s (more p ps) u = IsSited o s p u ⊎ AreSited o s ps u
  AreSited o s (skip ps) u = AreSited o s ps u

  -- in one of the lists of values
  pub HoldValues : Option ℕ → Trees → Use → Type 0
  HoldValues o none u = ⊥
  HoldValues o (more p ps) u = IsSited o (value_site o (nat_eq (count (parts p)) 1)) p u ⊎ HoldValues o ps u
  HoldValues o (skip ps) u = HoldValues o ps u

  -- in a type, or in the values behind it
  pub HoldTypeAndValues : Option ℕ → Site → Trees → Use → Type 0
  HoldTypeAndValues o s none u = ⊥
  HoldTypeAndValues o s (more p ps) u = IsSited o s p u ⊎ HoldValues o ps u
  HoldTypeAndValues o s (skip ps) u = HoldValues o ps u

  -- in one of the values, which are numbered from n on
  pub HoldColumns : Option ℕ → Site → ℕ → Trees → Use → Type 0
  HoldColumns o s n none u = ⊥
  HoldColumns o s n (more p ps) u = IsSited o (column_site n s) p u ⊎ HoldColumns o s (suc n) ps u
  HoldColumns o s n (skip ps) u = HoldColumns o s (suc n) ps u

  -- in the signature of the function that begins at the token i, or in its body
  pub HoldSignature : Option ℕ → ℕ → Trees → Use → Type 0
  HoldSignature o i none u = ⊥
  HoldSignature o i (more p ps) u = IsSited o (site.Type i) p u ⊎ AreSited o site.Elsewhere ps u
  HoldSignature o i (skip ps) u = AreSited o site.Elsewhere ps u

  -- in the length or the element of an array type, or in the element of a slice type
  pub HoldElement : Option ℕ → Site → Trees → Use → Type 0
  HoldElement o s none u = ⊥
  HoldElement o s (more p ps) u = IsSited o (length_site s) p u ⊎ AreSited o s ps u
  HoldElement o s (skip ps) u = AreSited o (element_site false s) ps u
