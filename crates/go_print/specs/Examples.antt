-- Texts worked out by hand.
use Rattle.std.specs.Prelude.{◌≡◌, ℕ, List, [], ◌∷◌, codes, true, pos, neg_ℤ}
use Rattle.go_ints.specs.declared.kinds.Kind.TheVariants as kind
use Rattle.go_constants.specs.declared.values.Const.TheVariants as const
use Rattle.go_types.specs.Trees.{TypeTree, boolean, text, integer, array, slice, structure, function, declared, none, more}
use Rattle.go_print.specs.Texts.{type_text}
use Rattle.go_print.specs.Literals.{literal_text}

abbrev pub name : ℕ → List ℕ
name n = codes "list"

abbrev pub byte : TypeTree
byte = integer kind.Uint8

abbrev pub rune : TypeTree
rune = integer kind.Int32

pub record Examples : Type 0 where
  pub text_of_bytes : literal_text (const.Text (97 ∷ 34 ∷ 10 ∷ 255 ∷ [])) ≡ codes "\"a\\\"\\x0a\\xff\""
  pub text_of_backslash : literal_text (const.Text (92 ∷ 126 ∷ 127 ∷ [])) ≡ codes "\"\\\\~\\x7f\""
  pub empty_text : literal_text (const.Text []) ≡ codes "\"\""
  pub negative : literal_text (const.Int (neg_ℤ (pos 3)) true) ≡ codes "-3"
  pub zero : literal_text (const.Int (pos 0) true) ≡ codes "0"
  pub truth : literal_text (const.Bool true) ≡ codes "true"
  pub fields : type_text name (structure (codes "a" ∷ codes "b" ∷ codes "f" ∷ []) (more byte (more byte (more (function (more (integer kind.Int) none) (more boolean (more (slice rune) none))) none)))) ≡ codes "struct { a uint8; b uint8; f func(int) (bool, []int32) }"
  pub no_fields : type_text name (structure [] none) ≡ codes "struct {}"
  pub one_result : type_text name (function (more text (more (declared 4) none)) (more (declared 0) none)) ≡ codes "func(string, list) list"
  pub procedure : type_text name (slice (function none none)) ≡ codes "[]func()"
  pub arrays : type_text name (array 8 (slice (declared 7))) ≡ codes "[8][]list"
