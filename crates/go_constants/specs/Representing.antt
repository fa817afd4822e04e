-- Which types have a constant's value.
use Rattle.std.specs.Prelude.{Bool, true, false}
use Rattle.go_ints.specs.Kinds.{is_value_of, IsValueOf}
use Rattle.go_constants.specs.declared.values.Const.{Const}
use Rattle.go_constants.specs.declared.values.Const.TheVariants as const
use Rattle.go_constants.specs.declared.representing.Basic.{Basic}
use Rattle.go_constants.specs.declared.representing.Basic.TheVariants as basic

abbrev pub IsRepresented : Const → Basic → Type 0
IsRepresented (const.Bool b) basic.Bool = Unit {0}
IsRepresented (const.Text bytes) basic.Text = Unit {0}
IsRepresented (const.Int z rune) (basic.Int kind) = IsValueOf kind z
IsRepresented _ _ = ⊥

-- the same as a test
abbrev pub is_represented : Const → Basic → Bool
is_represented (const.Bool b) basic.Bool = true
is_represented (const.Text bytes) basic.Text = true
is_represented (const.Int z rune) (basic.Int kind) = is_value_of kind z
is_represented _ _ = false
