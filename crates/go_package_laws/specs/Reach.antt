-- Which declared types a type reaches, and right sides that agree on these.
use Rattle.std.specs.Prelude.{◌≡◌, ℕ, Bool, true, List, [], ◌∷◌, ◌++◌, Option, Some, None, length}
use Rattle.go_grammar.specs.declared.kind.Kind.{Kind}
use Rattle.go_grammar.specs.declared.kind.Kind.TheVariants as kind
use Rattle.go_grammar.specs.Trees.{Tree, node, Trees, none, more, skip, kind_of}
use Rattle.go_tree.specs.declared.object.Object.{Object}
use Rattle.go_types.specs.Trees.{TypeTree, boolean, text, integer, array, slice, structure, function, declared, TypeRow}
use Rattle.go_types.specs.Trees as types
use Rattle.go_types.specs.Relations.{Rights}
use Rattle.go_types_relations.specs.Questions.{entry}
use Rattle.go_typed.specs.Trees.{SortHas, Every}
use Rattle.go_exprs_rules.specs.Names.{name_sort}
use Rattle.go_exprs_rules.specs.Scopes.{Needed, Scope, Hint, element, member}
use Rattle.go_exprs_rules.specs.Settling.{Part}
use Rattle.go_exprs_rules.specs.Sorts.{Stands}
use Rattle.go_exprs_rules.specs.Tables.{Parts, hint, part_scope}
use Rattle.go_exprs_rules.specs.Typing.{typing, faults}

abbrev mutual
  -- all declared types that it names pass the test
  pub Within : (ℕ → Bool) → TypeTree → Type 0
  Within p boolean = Unit {0}
  Within p text = Unit {0}
  Within p (integer k) = Unit {0}
  Within p (array n t) = Within p t
  Within p (slice t) = Within p t
  Within p (structure ns ts) = RowWithin p ts
  Within p (function ps rs) = RowWithin p ps × RowWithin p rs
  Within p (declared n) = p n ≡ true

  pub RowWithin : (ℕ → Bool) → TypeRow → Type 0
  RowWithin p types.none = Unit {0}
  RowWithin p (types.more t ts) = Within p t × RowWithin p ts

-- of a type that there may be
abbrev pub MaybeWithin : (ℕ → Bool) → Option TypeTree → Type 0
MaybeWithin p None = Unit {0}
MaybeWithin p (Some t) = Within p t

-- The right sides of the types that pass the test are the same in both, or none in both, and name only such types.
pub record AgreeOn (p : ℕ → Bool) (old new : Rights) : Type 0 where
  pub same : (n : ℕ) → p n ≡ true → entry new n ≡ entry old n
  pub closed : (n : ℕ) → p n ≡ true → MaybeWithin p (entry old n)
  pub as_many : length new ≡ length old

-- ---- what nodes stand for, and typed nodes

abbrev pub StandsWithin : (ℕ → Bool) → Stands → Type 0
StandsWithin p x = SortHas (Within p) x

abbrev pub PartWithin : (ℕ → Bool) → Part → Type 0
PartWithin p x = Every (Within p) x

abbrev pub MaybePart : (ℕ → Bool) → Option Part → Type 0
MaybePart p None = Unit {0}
MaybePart p (Some x) = PartWithin p x

abbrev pub PartsWithin : (ℕ → Bool) → Parts → Type 0
PartsWithin p [] = Unit {0}
PartsWithin p (x ∷ xs) = MaybePart p x × PartsWithin p xs

abbrev pub ListWithin : (ℕ → Bool) → List Part → Type 0
ListWithin p [] = Unit {0}
ListWithin p (x ∷ xs) = PartWithin p x × ListWithin p xs

-- of what a node is told: the type of an element, or the struct type of a member
abbrev pub HintWithin : (ℕ → Bool) → Hint → Type 0
HintWithin p (element t) = Within p t
HintWithin p (member t) = Within p t
HintWithin p h = Unit {0}

-- ---- scopes

-- what objects stand for, where they are needed so
abbrev pub Standing : Type 0
Standing = Needed → Object → Stands

-- the scope with these right sides, in which objects stand for this
abbrev pub moved : Scope → Rights → Standing → Scope
moved s new r = record s { rights = new; sorts = r }

-- what is declared stands for types that pass alone
abbrev pub ScopeWithin : (ℕ → Bool) → Scope → Type 0
ScopeWithin p s = (n : Needed) (o : Object) → StandsWithin p (s.sorts n o)

abbrev pub NameAgrees : (ℕ → Bool) → Scope → Rights → Standing → Kind → Hint → ℕ → Type 0
NameAgrees p s new r kind.Name h i = (name_sort (moved s new r) h i ≡ name_sort s h i) × StandsWithin p (name_sort s h i)
NameAgrees p s new r k h i = Unit {0}

abbrev mutual
  -- each name of the tree stands for the same in both scopes, as it is needed there, and for types that pass alone
  pub NamesAgree : (ℕ → Bool) → Scope → Rights → Standing → Hint → Tree → Type 0
  NamesAgree p s new r h (node k i j ps) = NameAgrees p s new r k h i × PartsAgree p s new r k h ps [] ps

  pub PartsAgree : (ℕ → Bool) → Scope → Rights → Standing → Kind → Hint → Trees → Parts → Trees → Type 0
  PartsAgree p s new r k h all xs none = Unit {0}
  PartsAgree p s new r k h all xs (more t ts) =
      NamesAgree p (part_scope s k xs) new r (hint s k h all xs (kind_of t)) t
      × PartsAgree p s new r k h all (xs ++ Some (typing (part_scope s k xs) (hint s k h all xs (kind_of t)) t) ∷ []) ts
  PartsAgree p s new r k h all xs (skip ts) = PartsAgree p s new r k h all (xs ++ None ∷ []) ts

-- An expression is typed the same, the same rules fail in it, and it stands for types that pass alone.
pub record IsTypedSo (p : ℕ → Bool) (s : Scope) (new : Rights) (r : Standing) (h : Hint) (t : Tree) : Type 0 where
  pub typed : typing (moved s new r) h t ≡ typing s h t
  pub failing : faults (moved s new r) h t ≡ faults s h t
  pub within : PartWithin p (typing s h t)
