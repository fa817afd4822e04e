-- Operands in place of expressions.
use Rattle.std.proofs.Common.{◌≡◌, ◌≤◌, true, List, refl, arith}
use Rattle.std.specs.Prelude.{nat_le}
use Rattle.std.proofs.lemmas.Bool.{le-leb, leb-true}
use Rattle.go_tokens.specs.declared.token.TokenKind.{TokenKind}
use Rattle.go_grammar.specs.declared.kind.Kind.{Kind}
use Rattle.go_grammar.specs.declared.kind.Kind.TheVariants as kind
use Rattle.go_grammar.specs.declared.kind.Level.{Level}
use Rattle.go_grammar.specs.declared.kind.Level.TheVariants as level
use Rattle.go_grammar.specs.declared.kind.Category.{Category}
use Rattle.go_grammar.specs.declared.kind.Category.TheVariants as category
use Rattle.go_grammar.specs.Operators.{rank}
use Rattle.go_grammar.specs.Categories.{place_of, within, tightness, is_expression}
use Rattle.go_grammar.specs.Trees.{Tree, node}
use Rattle.go_grammar.specs.Grammar.{Derives}
use Rattle.go_rewriting.specs.Replacing.{takes_level}

rank_one : (l : Level) → 1 ≤ rank l
rank_one level.Either = omega arith
rank_one level.Both = omega arith
rank_one level.Comparison = omega arith
rank_one level.Sum = omega arith
rank_one level.Product = omega arith
rank_one level.Unary = omega arith
rank_one level.Primary = omega arith

looser : (k : Kind) (l m : Level) → nat_le (rank l) (tightness k) ≡ true → nat_le (rank m) (rank l) ≡ true → nat_le (rank m) (tightness k) ≡ true
looser k l m a b = le-leb (rank m) (tightness k) (omega (arith, leb-true (rank l) (tightness k) a, leb-true (rank m) (rank l) b))

expression : (k : Kind) (l : Level) → nat_le (rank l) (tightness k) ≡ true → is_expression k ≡ true
expression k l a = le-leb 1 (tightness k) (omega (arith, rank_one l, leb-true (rank l) (tightness k) a))

bracketed : (k : Kind) → is_expression k ≡ true → within category.Bracket k ≡ true
bracketed kind.Bounds e = refl
bracketed kind.BoundsFrom e = refl
bracketed _ e = e

elemental : (k : Kind) → is_expression k ≡ true → within category.Element k ≡ true
elemental kind.LiteralValue e = refl
elemental kind.Keyed e = refl
elemental _ e = e

valued : (k : Kind) → is_expression k ≡ true → within category.Value k ≡ true
valued kind.LiteralValue e = refl
valued _ e = e

conditional : (k : Kind) → is_expression k ≡ true → within category.IfHeader k ≡ true
conditional kind.LateCondition e = refl
conditional kind.InitializedCondition e = refl
conditional _ e = e

tagged : (k : Kind) → is_expression k ≡ true → within category.SwitchHeader k ≡ true
tagged kind.LateTag e = refl
tagged kind.InitializedTag e = refl
tagged _ e = e

looped : (k : Kind) → is_expression k ≡ true → within category.ForHeader k ≡ true
looped kind.ForClause e = refl
looped kind.InitializedForClause e = refl
looped kind.Range e = refl
looped kind.AssigningRange e = refl
looped kind.DefiningRange e = refl
looped _ e = e

pub operand_stands : (ts : List TokenKind) (l : Level) (c : Category) (t : Tree) → Derives ts (category.Expression l (place_of c)) t → takes_level l c ≡ true → Derives ts c t
operand_stands ts l (category.Expression m p) (node k a b ps) h e = (looser k l m h.0 e, h.1, h.2, h.3)
operand_stands ts l category.Bracket (node k a b ps) h e = (bracketed k (expression k l h.0), h.1, h.2, h.3)
operand_stands ts l category.Element (node k a b ps) h e = (elemental k (expression k l h.0), h.1, h.2, h.3)
operand_stands ts l category.Value (node k a b ps) h e = (valued k (expression k l h.0), h.1, h.2, h.3)
operand_stands ts l category.IfHeader (node k a b ps) h e = (conditional k (expression k l h.0), h.1, h.2, h.3)
operand_stands ts l category.SwitchHeader (node k a b ps) h e = (tagged k (expression k l h.0), h.1, h.2, h.3)
operand_stands ts l category.ForHeader (node k a b ps) h e = (looped k (expression k l h.0), h.1, h.2, h.3)
operand_stands ts l _ t h e = cc
