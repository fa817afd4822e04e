-- An expression is one wherever it stands.
use Rattle.std.proofs.Common.{◌≡◌, ◌∙◌, true, false, List, Option, refl, sym}
use Rattle.std.specs.Prelude.{if◌then◌else◌, slice_get}
use Rattle.go_tokens.specs.declared.token.TokenKind.{TokenKind}
use Rattle.go_tokens.specs.declared.token.TokenKind.TheVariants as token
use Rattle.go_grammar.specs.declared.kind.Category.{Category}
use Rattle.go_grammar.specs.declared.kind.Category.TheVariants as category
use Rattle.go_grammar.specs.declared.kind.Kind.{Kind}
use Rattle.go_grammar.specs.declared.kind.Level.TheVariants as level
use Rattle.go_grammar.specs.Categories.{is_expression, is_type_literal, is_type_place, place_of}
use Rattle.go_grammar.specs.Grammar.{any, Derives, ends}
use Rattle.go_grammar.specs.Trees.{Tree, node, kind_of}
use Rattle.go_grammar.specs.Words.{is_word}
use Rattle.go_rewriting.specs.Replacing.{takes_level}

no_type_place : (c : Category) → takes_level level.Primary c ≡ true → is_type_place c ≡ false
no_type_place (category.Expression l p) h = refl
no_type_place category.Bracket h = refl
no_type_place category.Element h = refl
no_type_place category.Value h = refl
no_type_place category.IfHeader h = refl
no_type_place category.SwitchHeader h = refl
no_type_place category.ForHeader h = refl
no_type_place c h = cc

same_ends : (c : Category) (l : Category) (k : Kind) (w : Option TokenKind) → is_type_place c ≡ false → is_type_place l ≡ false → ends c k w ≡ ends l k w
same_ends c l k w e f = (λ j. if e j then true else (if is_type_literal k then (if is_word w token.LeftBrace then false else true) else true))
    ∙ (λ j. if sym f j then true else (if is_type_literal k then (if is_word w token.LeftBrace then false else true) else true))

pub as_expression : (ts : List TokenKind) (c : Category) (t : Tree) → takes_level level.Primary c ≡ true → is_expression (kind_of t) ≡ true → Derives ts c t → Derives ts (any (place_of c)) t
as_expression ts c (node k i j ps) takes is d = (is, d.1, d.2, sym (same_ends c (any (place_of c)) k (slice_get ts j) (no_type_place c takes) refl) ∙ d.3)
