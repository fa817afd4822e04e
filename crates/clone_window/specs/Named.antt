-- When two trees agree node by node, and name fields of the same names at corresponding places.
use Rattle.std.specs.Prelude.{ℕ, Bool, ◌&&◌, nat_eq}
use Rattle.go_typed.specs.Trees.{Sort, Typed, Typeds}
use Rattle.clone_window.specs.Fields.{FieldNames, fields_agree, all_fields_agree}
use Rattle.clone_window.specs.Sameness.{agree, all_agree}

abbrev pub agree_named : FieldNames ℕ → Bool → Bool → Sort ℕ → Sort ℕ → Typed ℕ → Typed ℕ → Bool
agree_named names a b s t x y = agree nat_eq a b x y && fields_agree names names a b s t x y

abbrev pub all_named : FieldNames ℕ → Bool → Bool → Sort ℕ → Sort ℕ → Typeds ℕ → Typeds ℕ → Bool
all_named names a b s t ps qs = all_agree nat_eq a b ps qs && all_fields_agree names names a b s t ps qs
