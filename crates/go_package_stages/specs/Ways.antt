-- The names of a type with the way in which each is needed there: loosely or at once.
use Rattle.std.specs.Prelude.{Bool, true, false, ◌&&◌, ◌||◌, not, Option, Some, None}
use Rattle.go_grammar.specs.declared.kind.Kind.{Kind}
use Rattle.go_grammar.specs.declared.kind.Kind.TheVariants as kind
use Rattle.go_grammar.specs.Grammar.{ends_named, is_name}
use Rattle.go_grammar.specs.Trees.{Tree, node, Trees, none, more, skip, kind_of}
use Rattle.go_exprs_rules.specs.Scopes.{Hint, loose, loose_inside}
use Rattle.go_exprs_rules.specs.Tables.{skips_first}
use Rattle.go_package_laws.specs.Names.{NameHas, EachName, EachNameIn, Ways, is_of_types, is_sequence}
use Rattle.go_package_stages.specs.Marks.{type_need}

-- whether what is told so stands in an element of a slice or in a function type
abbrev pub is_loose : Hint → Bool
is_loose loose = true
is_loose loose_inside = true
is_loose h = false

-- whether a part of a node of types does, where its node does; b says whether it is the first one
abbrev pub told_loose : Kind → Bool → Trees → Bool → Kind → Bool
told_loose kind.ParenthesizedType l all b n = l
told_loose kind.SequenceType l all b n = not b && (skips_first all || l)
told_loose kind.FunctionType l all b n = true
told_loose kind.StructType l all b n = l
told_loose kind.Signature l all b n = l
told_loose kind.Results l all b n = l
told_loose kind.NameList l all b n = false
told_loose kind.Parameters l all b n = l && not (ends_named all && is_name n)
told_loose kind.Parameter l all b n = not b && l
told_loose kind.Fields l all b n = not b && l
told_loose k l all b n = false

abbrev mutual
  -- what holds of the token of each name
  pub EachWay : Ways → Bool → Tree → Type 0
  EachWay w l (node k i j ps) = NameHas (w.named (type_need l)) k i × WaysIn w k l ps true ps (is_of_types k) (is_sequence k)

  -- the parts ts of a node; b says whether they are all of its parts, d whether it is of types, and c whether the next one is a length
  pub WaysIn : Ways → Kind → Bool → Trees → Bool → Trees → Bool → Bool → Type 0
  WaysIn w k l all b ts false c = EachNameIn w.anywhere ts
  WaysIn w k l all b none true c = Unit {0}
  WaysIn w k l all b (skip ts) true c = WaysIn w k l all false ts true false
  WaysIn w k l all b (more t ts) true true = EachName w.counted t × WaysIn w k l all false ts true false
  WaysIn w k l all b (more t ts) true false = EachWay w (told_loose k l all b (kind_of t)) t × WaysIn w k l all false ts true false

-- the first part, which c says to be a length or not
abbrev pub FirstWay : Ways → Kind → Bool → Trees → Bool → Option Tree → Type 0
FirstWay w k l all c None = Unit {0}
FirstWay w k l all true (Some t) = EachName w.counted t
FirstWay w k l all false (Some t) = EachWay w (told_loose k l all true (kind_of t)) t
