-- The names of an expression, and those of a type with the way in which each is needed there, by the tree alone.
use Rattle.std.specs.Prelude.{◌≡◌, ℕ, Bool, true, false, [], ◌∷◌, Option, Some, None}
use Rattle.go_grammar.specs.declared.kind.Kind.{Kind}
use Rattle.go_grammar.specs.declared.kind.Kind.TheVariants as kind
use Rattle.go_grammar.specs.Trees.{Tree, node, Trees, none, more, skip, kind_of}
use Rattle.go_tree.specs.declared.object.Object.{Object}
use Rattle.go_tree.specs.declared.object.Object.TheVariants as object
use Rattle.go_types.specs.Relations.{Rights}
use Rattle.go_exprs_rules.specs.Names.{need_of}
use Rattle.go_exprs_rules.specs.Scopes.{Needed, in_full, at_once, Scope, Hint, value, type_place, loose, inside, loose_inside, declares, free}
use Rattle.go_exprs_rules.specs.Tables.{in_parentheses, as_type_place, sequence_told, names_told, parameter_told, Parts}
use Rattle.go_exprs_rules.specs.Typing.{typing, faults}
use Rattle.go_package_laws.specs.Reach.{StandsWithin, Standing, moved}

-- ---- all names

abbrev pub NameHas : (ℕ → Type 0) → Kind → ℕ → Type 0
NameHas P kind.Name i = P i
NameHas P k i = Unit {0}

abbrev mutual
  -- what holds of the token of each name
  pub EachName : (ℕ → Type 0) → Tree → Type 0
  EachName P (node k i j ps) = NameHas P k i × EachNameIn P ps

  pub EachNameIn : (ℕ → Type 0) → Trees → Type 0
  EachNameIn P none = Unit {0}
  EachNameIn P (more t ts) = EachName P t × EachNameIn P ts
  EachNameIn P (skip ts) = EachNameIn P ts

-- ---- the names of a type

-- types, and what stands in them besides the lengths of arrays
abbrev pub is_of_types : Kind → Bool
is_of_types kind.ParenthesizedType = true
is_of_types kind.SequenceType = true
is_of_types kind.FunctionType = true
is_of_types kind.StructType = true
is_of_types kind.Signature = true
is_of_types kind.Results = true
is_of_types kind.NameList = true
is_of_types kind.Parameters = true
is_of_types kind.Parameter = true
is_of_types kind.Fields = true
is_of_types k = false

abbrev pub is_sequence : Kind → Bool
is_sequence kind.SequenceType = true
is_sequence k = false

-- whether there are parts in front
abbrev pub in_front : Bool → Parts
in_front true = []
in_front false = None ∷ []

-- what a part of these is told; b says whether it is the first one
abbrev pub told_in : Kind → Hint → Trees → Bool → Kind → Hint
told_in kind.ParenthesizedType h all b n = in_parentheses h
told_in kind.SequenceType h all b n = sequence_told h all (in_front b)
told_in kind.FunctionType h all b n = loose
told_in kind.StructType h all b n = as_type_place h
told_in kind.Signature h all b n = as_type_place h
told_in kind.Results h all b n = as_type_place h
told_in kind.NameList h all b n = declares
told_in kind.Parameters h all b n = parameter_told h all n
told_in kind.Parameter h all b n = names_told h (in_front b)
told_in kind.Fields h all b n = names_told h (in_front b)
told_in k h all b n = value

-- ways of needing a name in a type
pub record Ways : Type 1 where
  -- where the type names it, as it is needed there
  pub named : Needed → ℕ → Type 0
  -- in a length
  pub counted : ℕ → Type 0
  -- where no type stands
  pub anywhere : ℕ → Type 0

abbrev mutual
  -- what holds of the token of each name of a type that is told this
  pub EachNeed : Ways → Hint → Tree → Type 0
  EachNeed w h (node k i j ps) = NameHas (w.named (need_of at_once h)) k i × NeedsIn w k h ps true ps (is_of_types k) (is_sequence k)

  -- the parts ts of a node; b says whether they are all of its parts, d whether it is of types, and l whether the next one is a length
  pub NeedsIn : Ways → Kind → Hint → Trees → Bool → Trees → Bool → Bool → Type 0
  NeedsIn w k h all b ts false l = EachNameIn w.anywhere ts
  NeedsIn w k h all b none true l = Unit {0}
  NeedsIn w k h all b (skip ts) true l = NeedsIn w k h all false ts true false
  NeedsIn w k h all b (more t ts) true true = EachName w.counted t × NeedsIn w k h all false ts true false
  NeedsIn w k h all b (more t ts) true false = EachNeed w (told_in k h all b (kind_of t)) t × NeedsIn w k h all false ts true false

-- ---- what names stand for in two scopes

-- A declared object stands for the same, where it is needed so.
abbrev pub ObjectSame : Standing → Standing → Needed → Option Object → Type 0
ObjectSame old new n (Some (object.Package m)) = new n (object.Package m) ≡ old n (object.Package m)
ObjectSame old new n (Some (object.Local f m)) = new n (object.Local f m) ≡ old n (object.Local f m)
ObjectSame old new n o = Unit {0}

-- for types that pass alone
abbrev pub ObjectWithin : (ℕ → Bool) → Standing → Needed → Option Object → Type 0
ObjectWithin p old n (Some (object.Package m)) = StandsWithin p (old n (object.Package m))
ObjectWithin p old n (Some (object.Local f m)) = StandsWithin p (old n (object.Local f m))
ObjectWithin p old n o = Unit {0}

abbrev pub ObjectAgrees : (ℕ → Bool) → Standing → Standing → Needed → Option Object → Type 0
ObjectAgrees p old new n o = ObjectSame old new n o × ObjectWithin p old n o

-- the names of an expression
abbrev pub ExpressionAgrees : (ℕ → Bool) → Scope → Standing → Tree → Type 0
ExpressionAgrees p s r t = EachName (λ i. ObjectAgrees p s.sorts r in_full (s.objects i)) t

-- The names of a type: they stand for the same, and in lengths for types that pass alone.
abbrev pub type_ways : (ℕ → Bool) → Scope → Standing → Ways
type_ways p s r = record {
  named = λ n i. ObjectSame s.sorts r n (s.objects i);
  counted = λ i. ObjectAgrees p s.sorts r in_full (s.objects i);
  anywhere = λ i. (n : Needed) → ObjectAgrees p s.sorts r n (s.objects i);
}

-- all stand for types that pass alone
abbrev pub limited_ways : (ℕ → Bool) → Scope → Standing → Ways
limited_ways p s r = record {
  named = λ n i. ObjectAgrees p s.sorts r n (s.objects i);
  counted = λ i. ObjectAgrees p s.sorts r in_full (s.objects i);
  anywhere = λ i. (n : Needed) → ObjectAgrees p s.sorts r n (s.objects i);
}

-- what a type may be told
abbrev pub is_type_hint : Hint → Bool
is_type_hint type_place = true
is_type_hint loose = true
is_type_hint inside = true
is_type_hint loose_inside = true
is_type_hint declares = true
is_type_hint free = true
is_type_hint h = false

-- A type is typed the same, and the same rules fail in it.
pub record IsSameType (s : Scope) (new : Rights) (r : Standing) (h : Hint) (t : Tree) : Type 0 where
  pub typed : typing (moved s new r) h t ≡ typing s h t
  pub failing : faults (moved s new r) h t ≡ faults s h t
