-- Printed constants stand.
use Rattle.std.proofs.Common.{◌≡◌, ℕ, suc, List, [], ◌++◌, append-nil, length, Bool, true, false, codes, refl, subst, ◌∙◌}
use Rattle.std.specs.Prelude.{pos, negsuc}
use Rattle.std.specs.Fmt.{decimal}
use Rattle.go_tokens.specs.declared.token.TokenKind.{TokenKind}
use Rattle.go_grammar.specs.declared.kind.Level.TheVariants as level
use Rattle.go_grammar.specs.declared.kind.Place.TheVariants as place
use Rattle.go_grammar.specs.declared.kind.Category.TheVariants as category
use Rattle.go_grammar.specs.Trees.{first, last}
use Rattle.go_grammar.specs.Grammar.{Derives, Words}
use Rattle.go_constants.specs.declared.values.Const.{Const}
use Rattle.go_constants.specs.declared.values.Const.TheVariants as const
use Rattle.go_print.specs.Literals.{bytes_text, literal_text}
use Rattle.go_print_laws.specs.Lexemes.{Lexeme, words, AreWords, begins_with_word, ends_line}
use Rattle.go_print_laws.specs.Standing.{StandsAs}
use Rattle.go_print_laws.specs.Literals.{literal_lexemes, literal_tree, CanBeSpelled, LiteralsStand}
use Rattle.go_print_laws.proofs.Words.{marks}
use Rattle.go_print_laws.proofs.Decimals.{decimal_word, minus_apart}
use Rattle.go_print_laws.proofs.Strings.{text_word}
use Rattle.go_print_laws.proofs.Spelled.{AreOpen, none_open}
use Rattle.go_print_laws.proofs.Lexed.{written}
use Rattle.go_print_laws.proofs.Standing.{words_stand_as, at_front}

-- over tokens where the words of a literal stand, in front of a rest
module _ (ts : List TokenKind) (rest : List Lexeme) where
  -- as the operand of a sign
  pub unary_derived : (v : Const) (i j : ℕ) → Words ts i (words (literal_lexemes v rest)) j
      → Derives ts (category.Expression level.Unary place.Free) (literal_tree i v) × Words ts (last (literal_tree i v)) (words rest) j
  unary_derived (const.Bool b) i j s = ((refl, (s.0, refl), refl, refl), s.1)
  unary_derived (const.Int (pos n) rune) i j s = ((refl, (s.0, refl), refl, refl), s.1)
  unary_derived (const.Int (negsuc n) rune) i j s = ((refl, ((s.0, refl), (refl, (s.1.0, refl), refl, refl), refl), refl, refl), s.1.1)
  unary_derived (const.Text bs) i j s = ((refl, (s.0, refl), refl, refl), s.1)

  -- as any expression
  pub any_derived : (v : Const) (i j : ℕ) → Words ts i (words (literal_lexemes v rest)) j
      → Derives ts (category.Expression level.Either place.Free) (literal_tree i v) × Words ts (last (literal_tree i v)) (words rest) j
  any_derived (const.Bool b) i j s = ((refl, (s.0, refl), refl, refl), s.1)
  any_derived (const.Int (pos n) rune) i j s = ((refl, (s.0, refl), refl, refl), s.1)
  any_derived (const.Int (negsuc n) rune) i j s = ((refl, ((s.0, refl), (refl, (s.1.0, refl), refl, refl), refl), refl, refl), s.1.1)
  any_derived (const.Text bs) i j s = ((refl, (s.0, refl), refl, refl), s.1)

pub literal_written : (v : Const) (rest : List Lexeme) → written (literal_lexemes v rest) ≡ literal_text v ++ written rest
literal_written (const.Bool b) rest = refl
literal_written (const.Int (pos n) rune) rest = refl
literal_written (const.Int (negsuc n) rune) rest = refl
literal_written (const.Text bs) rest = refl

pub literal_begins : (v : Const) (rest : List Lexeme) → begins_with_word (literal_lexemes v rest) ≡ true
literal_begins (const.Bool b) rest = refl
literal_begins (const.Int (pos n) rune) rest = refl
literal_begins (const.Int (negsuc n) rune) rest = refl
literal_begins (const.Text bs) rest = refl

pub literal_ends : (v : Const) (b : Bool) (rest : List Lexeme) → ends_line b (literal_lexemes v rest) ≡ ends_line true rest
literal_ends (const.Bool b) c rest = refl
literal_ends (const.Int (pos n) rune) c rest = refl
literal_ends (const.Int (negsuc n) rune) c rest = refl
literal_ends (const.Text bs) c rest = refl

pub literal_first : (i : ℕ) (v : Const) → first (literal_tree i v) ≡ i
literal_first i (const.Bool b) = refl
literal_first i (const.Int (pos n) rune) = refl
literal_first i (const.Int (negsuc n) rune) = refl
literal_first i (const.Text bs) = refl

pub literal_spelled : (v : Const) (rest : List Lexeme) → CanBeSpelled v → AreOpen rest → AreWords rest → AreWords (literal_lexemes v rest)
literal_spelled (const.Bool true) rest h o a = (marks.truth, o.by (codes "true"), a)
literal_spelled (const.Bool false) rest h o a = (marks.falsehood, o.by (codes "false"), a)
literal_spelled (const.Int (pos n) rune) rest h o a = (decimal_word n h, o.by (decimal n), a)
literal_spelled (const.Int (negsuc n) rune) rest h o a = (marks.minus, minus_apart (suc n) _ h, (decimal_word (suc n) h, o.by (decimal (suc n)), a))
literal_spelled (const.Text bs) rest h o a = (text_word bs h, o.by (codes "\"" ++ bytes_text bs ++ codes "\""), a)

pub literals_stand : LiteralsStand
literals_stand file v h =
    let ls = literal_lexemes v [] in
    let c = category.Expression level.Unary place.Free in
    subst (λ x. StandsAs file x ls c (literal_tree 0 v)) (literal_written v [] ∙ append-nil (literal_text v))
    (words_stand_as file ls c (literal_tree 0 v) (literal_spelled v [] h none_open tt) (literal_begins v []) (literal_ends v false [])
    (λ next e. (unary_derived (words ls ++ next) [] v 0 (length (words ls)) (at_front (words ls) next)).0) (literal_first 0 v) (unary_derived (words ls ++ []) [] v 0 (length (words ls)) (at_front (words ls) [])).1)
