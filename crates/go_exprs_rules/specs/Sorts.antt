-- What nodes stand for, and the questions that rules ask of it.
use Rattle.std.specs.Prelude.{ℕ, zero, Bool, true, false, ◌||◌, if◌then◌else◌, Option, Some, None, pos, negsuc, is_some}
use Rattle.go_ints.specs.declared.kinds.Kind.TheVariants as integer_kind
use Rattle.go_constants.specs.declared.values.Const.{Const}
use Rattle.go_constants.specs.declared.values.Const.TheVariants as const
use Rattle.go_constants.specs.declared.representing.Basic.{Basic}
use Rattle.go_constants.specs.declared.representing.Basic.TheVariants as basic
use Rattle.go_constants.specs.Representing.{is_represented}
use Rattle.go_types.specs.Trees.{TypeTree, boolean, text, integer, array, slice, function}
use Rattle.go_types.specs.Relations.{Rights}
use Rattle.go_types_relations.specs.Tests.{underlying_of}
use Rattle.go_types_relations.specs.Identity.{is_identical}
use Rattle.go_exprs_rules.specs.declared.family.Family.{Family}
use Rattle.go_exprs_rules.specs.declared.family.Family.TheVariants as family
use Rattle.go_exprs_rules.specs.declared.family.OpenKind.{OpenKind}
use Rattle.go_exprs_rules.specs.declared.family.OpenKind.TheVariants as untyped_kind
use Rattle.go_typed.specs.declared.sort.Untyped.{Untyped}
use Rattle.go_typed.specs.declared.sort.Untyped.TheVariants as untyped
use Rattle.go_typed.specs.Trees.{Sort}
use Rattle.go_typed.specs.Trees as sort

-- what a node stands for
abbrev pub Stands : Type 0
Stands = Sort TypeTree

-- ---- families of types and values

abbrev pub same_family : Family → Family → Bool
same_family family.Booleans family.Booleans = true
same_family family.Integers family.Integers = true
same_family family.Texts family.Texts = true
same_family _ _ = false

abbrev pub is_family : Family → Option Family → Bool
is_family f (Some g) = same_family f g
is_family f None = false

-- of an underlying type
abbrev pub family_of_type : Option TypeTree → Option Family
family_of_type (Some boolean) = Some family.Booleans
family_of_type (Some text) = Some family.Texts
family_of_type (Some (integer k)) = Some family.Integers
family_of_type _ = None

abbrev pub family_of_const : Const → Family
family_of_const (const.Bool b) = family.Booleans
family_of_const (const.Int z rune) = family.Integers
family_of_const (const.Text bytes) = family.Texts

abbrev pub family_of_open : OpenKind → Family
family_of_open untyped_kind.Boolean = family.Booleans
family_of_open untyped_kind.Integer = family.Integers
family_of_open untyped_kind.Rune = family.Integers
family_of_open untyped_kind.Text = family.Texts

-- the kind of an untyped value
abbrev pub kind_of_untyped : Untyped → OpenKind
kind_of_untyped untyped.Boolean = untyped_kind.Boolean
kind_of_untyped untyped.Integer = untyped_kind.Integer
kind_of_untyped untyped.Rune = untyped_kind.Rune

abbrev pub kind_of_const : Const → OpenKind
kind_of_const (const.Bool b) = untyped_kind.Boolean
kind_of_const (const.Int z rune) = if rune then untyped_kind.Rune else untyped_kind.Integer
kind_of_const (const.Text bytes) = untyped_kind.Text

-- the kind of what is untyped
abbrev pub open_kind : Stands → Option OpenKind
open_kind (sort.Open u) = Some (kind_of_untyped u)
open_kind (sort.OpenConstant c) = Some (kind_of_const c)
open_kind _ = None

-- the type of what has one
abbrev pub own_type : Stands → Option TypeTree
own_type (sort.Value t) = Some t
own_type (sort.Constant t c) = Some t
own_type _ = None

abbrev pub constant_of : Stands → Option Const
constant_of (sort.Constant t c) = Some c
constant_of (sort.OpenConstant c) = Some c
constant_of _ = None

-- what it is, or unknown
abbrev pub known : Option Stands → Stands
known (Some x) = x
known None = sort.Unknown

abbrev pub is_open : Stands → Bool
is_open x = is_some (open_kind x)

abbrev pub is_constant : Stands → Bool
is_constant x = is_some (constant_of x)

abbrev pub is_unknown : Stands → Bool
is_unknown sort.Unknown = true
is_unknown _ = false

abbrev pub is_nil : Stands → Bool
is_nil sort.Nil = true
is_nil _ = false

-- whether it has no type of its own and takes that of its place
abbrev pub takes_type : Stands → Bool
takes_type x = is_open x || is_nil x

-- the type that a node in a type's place is
abbrev pub named_type : Stands → Option TypeTree
named_type (sort.IsType t) = Some t
named_type _ = None

-- the underlying type of what may have a type
abbrev pub underlying_in : Rights → Option TypeTree → Option TypeTree
underlying_in rights (Some t) = underlying_of rights t
underlying_in rights None = None

-- of a value its underlying type, if it has a type
abbrev pub form_of_value : Rights → Stands → Option TypeTree
form_of_value rights x = underlying_in rights (own_type x)

abbrev pub family_of_kind : Option OpenKind → Option Family
family_of_kind (Some k) = Some (family_of_open k)
family_of_kind None = None

abbrev pub or_family : Option Family → Option Family → Option Family
or_family (Some f) g = Some f
or_family None g = g

-- the family of a value of a basic type, or of an untyped one
abbrev pub family_of : Rights → Stands → Option Family
family_of rights x = or_family (family_of_kind (open_kind x)) (family_of_type (form_of_value rights x))

abbrev pub is_whole : Rights → Stands → Bool
is_whole rights x = is_family family.Integers (family_of rights x)

abbrev pub is_truth : Rights → Stands → Bool
is_truth rights x = is_family family.Booleans (family_of rights x)

abbrev pub is_text : Rights → Stands → Bool
is_text rights x = is_family family.Texts (family_of rights x)

-- whether an untyped value of the kind may take the type
abbrev pub suits : Rights → OpenKind → TypeTree → Bool
suits rights k t = is_family (family_of_open k) (family_of_type (underlying_of rights t))

-- `nil` is a value of slices and functions
abbrev pub has_nil : Option TypeTree → Bool
has_nil (Some (slice t)) = true
has_nil (Some (function ps rs)) = true
has_nil _ = false

-- the type of the elements of an array or a slice
abbrev pub element_of : Option TypeTree → Option TypeTree
element_of (Some (array n t)) = Some t
element_of (Some (slice t)) = Some t
element_of _ = None

abbrev pub slice_element : Option TypeTree → Option TypeTree
slice_element (Some (slice t)) = Some t
slice_element _ = None

abbrev pub array_length : Option TypeTree → Option ℕ
array_length (Some (array n t)) = Some n
array_length _ = None

abbrev pub byte : TypeTree
byte = integer integer_kind.Uint8

abbrev pub int : TypeTree
int = integer integer_kind.Int

abbrev pub uint : TypeTree
uint = integer integer_kind.Uint

abbrev pub rune : TypeTree
rune = integer integer_kind.Int32

abbrev pub is_byte : Option TypeTree → Bool
is_byte (Some t) = is_identical t byte
is_byte None = false

-- whether it is a slice whose elements have the underlying type `byte`
abbrev pub is_bytes : Rights → TypeTree → Bool
is_bytes rights t = is_byte (underlying_in rights (slice_element (underlying_of rights t)))

-- ---- constants

-- the type that an untyped value takes where its context wants none (Go specification, "Constants")
abbrev pub default_type : OpenKind → TypeTree
default_type untyped_kind.Boolean = boolean
default_type untyped_kind.Integer = int
default_type untyped_kind.Rune = rune
default_type untyped_kind.Text = text

-- the type of a value, or its default type
abbrev pub value_type : Stands → Option TypeTree
value_type (sort.Value t) = Some t
value_type (sort.Constant t c) = Some t
value_type (sort.Open u) = Some (default_type (kind_of_untyped u))
value_type (sort.OpenConstant c) = Some (default_type (kind_of_const c))
value_type _ = None

-- the basic type that an underlying type is
abbrev pub basic_of : Option TypeTree → Option Basic
basic_of (Some boolean) = Some basic.Bool
basic_of (Some text) = Some basic.Text
basic_of (Some (integer k)) = Some (basic.Int k)
basic_of _ = None

abbrev pub represented_in : Const → Option Basic → Bool
represented_in c (Some b) = is_represented c b
represented_in c None = false

-- whether the type has the constant's value (Go specification, "Representability")
abbrev pub represents : Rights → TypeTree → Const → Bool
represents rights t c = represented_in c (basic_of (underlying_of rights t))

abbrev pub is_zero : Option Const → Bool
is_zero (Some (const.Int (pos zero) _)) = true
is_zero _ = false

abbrev pub is_negative : Option Const → Bool
is_negative (Some (const.Int (negsuc n) _)) = true
is_negative _ = false

-- what is untyped takes the type, and so does `nil`; a constant keeps its value with its mark
abbrev pub retyped : TypeTree → Stands → Stands
retyped t (sort.Open u) = sort.Value t
retyped t sort.Nil = sort.Value t
retyped t (sort.OpenConstant c) = sort.Constant t c
retyped t x = x
