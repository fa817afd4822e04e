-- What a file imports (Go specification: Import declarations).
use Rattle.std.specs.Prelude.{ℕ, Bool, true, false, ◌&&◌, ◌||◌, nat_lt, List, [], ◌∷◌}
use Rattle.go_tokens.specs.Tokens.{TokenList}
use Rattle.go_tokens.specs.Literals.{string_value}
use Rattle.go_tree.specs.declared.event.Event.{Event}
use Rattle.go_tree.specs.declared.event.Event.TheVariants as event
use Rattle.go_tree.specs.Units.{word, is_fmt}

abbrev pub is_ascii : List ℕ → Bool
is_ascii [] = true
is_ascii (x ∷ xs) = nat_lt x 128 && is_ascii xs

-- Import declarations: whether the string literal has the value fmt. Then it has no other characters than those of ASCII.
abbrev pub is_fmt_value : List ℕ → Bool
is_fmt_value w = is_ascii w && is_fmt (string_value w)

abbrev pub is_fmt_path : TokenList → ℕ → Bool
is_fmt_path ts n = is_fmt_value (word ts n)

abbrev pub imports_fmt : TokenList → List Event → Bool
imports_fmt ts [] = false
imports_fmt ts (event.Import n ∷ es) = is_fmt_path ts n || imports_fmt ts es
imports_fmt ts (e ∷ es) = imports_fmt ts es
