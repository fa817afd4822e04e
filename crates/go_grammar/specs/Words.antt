-- Which word a token is, as a test.
use Rattle.std.specs.Prelude.{Bool, true, false, if◌then◌else◌, ◌||◌, List, [], ◌∷◌, Option, Some, None}
use Rattle.go_tokens.specs.declared.token.TokenKind.{TokenKind}
use Rattle.go_tokens.specs.contracts.token.TokenKind.{the_type}
use denote.Enum.Bare.{sameb}

-- is there a token, and is it w
abbrev pub is_word : Option TokenKind → TokenKind → Bool
is_word None w = false
is_word (Some v) w = sameb the_type v w

-- is there a token, and is it one of these
abbrev pub is_among : Option TokenKind → List TokenKind → Bool
is_among v [] = false
is_among v (w ∷ ws) = if is_word v w then true else is_among v ws
