-- What the values of the program stand for in a table of types.
use Rattle.std.specs.Prelude.{◌≡◌, ℕ, ◌<◌, List, [], ◌∷◌, Option, Some, None, length}
use Rattle.go_types.specs.Trees.{TypeTree, boolean, text, function, none}
use Rattle.go_types.specs.Tables.{Table, type_of}
use Rattle.go_exprs_rules.specs.declared.fault.TypeFault.{TypeFault}
use Rattle.go_exprs_rules.specs.declared.basics.Basics.{Basics}
use Rattle.go_exprs_rules.specs.declared.operators.Joint.{Joint}
use Rattle.go_exprs_rules.specs.declared.operators.Joint.TheVariants as joint
use Rattle.go_exprs_rules.specs.Sorts.{byte, int, uint, rune}
use Rattle.go_exprs_rules.specs.Operators.{Common, in_type, in_kind}

abbrev pub one_fault : TypeFault → Option TypeFault
one_fault f = Some f

-- the predeclared types that rules give, by their numbers
pub record AreBasics (t : Table) (b : Basics) : Type 0 where
  pub boolean_known : b.boolean < length t.shapes
  pub boolean_is : type_of t.shapes b.boolean ≡ boolean
  pub text_known : b.text < length t.shapes
  pub text_is : type_of t.shapes b.text ≡ text
  pub int_known : b.int < length t.shapes
  pub int_is : type_of t.shapes b.int ≡ int
  pub uint_known : b.uint < length t.shapes
  pub uint_is : type_of t.shapes b.uint ≡ uint
  pub byte_known : b.byte < length t.shapes
  pub byte_is : type_of t.shapes b.byte ≡ byte
  pub rune_known : b.rune < length t.shapes
  pub rune_is : type_of t.shapes b.rune ≡ rune
  pub procedure_known : b.procedure < length t.shapes
  pub procedure_is : type_of t.shapes b.procedure ≡ function none none

-- ---- where two operands meet

abbrev pub common_seen : Table → Joint → Common
common_seen t (joint.Type i) = in_type (type_of t.shapes i)
common_seen t (joint.Kind k) = in_kind k

abbrev pub KnownJoint : ℕ → Joint → Type 0
KnownJoint n (joint.Type i) = i < n
KnownJoint n (joint.Kind k) = Unit {0}
