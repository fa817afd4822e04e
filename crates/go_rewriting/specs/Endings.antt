-- The last token of a text, where a semicolon would be inserted behind it at a line's end.
use Rattle.std.specs.Prelude.{◌≡◌, ℕ, suc, Bool, true, false, List}
use Rattle.go_tokens.specs.declared.token.TokenKind.{TokenKind}
use Rattle.go_tokens.specs.Spellings.{ends_statement_kind}
use Rattle.go_grammar.specs.declared.kind.Category.{Category}
use Rattle.go_grammar.specs.declared.kind.Category.TheVariants as category
use Rattle.go_grammar.specs.Grammar.{IsAt}

-- Texts of these categories end so: statements, expressions, types, blocks and declarations.
abbrev pub ends_well : Category → Bool
ends_well category.Statement = true
ends_well category.Simple = true
ends_well category.Post = true
ends_well (category.Expression l p) = true
ends_well (category.ExpressionList p) = true
ends_well (category.LeftList p) = true
ends_well category.Element = true
ends_well category.Value = true
ends_well category.Type = true
ends_well category.Block = true
ends_well category.Else = true
ends_well category.Branch = true
ends_well category.Declaration = true
ends_well (category.DeclarationBody s) = true
ends_well (category.Specification s) = true
ends_well category.ConstantRest = true
ends_well category.VariableRest = true
ends_well category.NameList = true
ends_well category.DeclaredName = true
ends_well category.Name = true
ends_well category.Signature = true
ends_well category.Parameters = true
ends_well category.Entry = true
ends_well category.Result = true
ends_well category.Fields = true
ends_well c = false

-- The token in front of this place ends a statement, where it is the last of its line.
pub record Ending (ts : List TokenKind) (n : ℕ) : Type 0 where
  pub place : ℕ
  pub next : suc place ≡ n
  pub word : TokenKind
  pub is : IsAt ts place word
  pub ends : ends_statement_kind word ≡ true
