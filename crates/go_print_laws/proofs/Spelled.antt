-- Printed types are words that don't join.
use Rattle.std.proofs.Common.{◌≡◌, ℕ, true, List, [], ◌∷◌, codes, refl}
use Rattle.std.specs.Fmt.{decimal}
use Rattle.std.specs.Str.{chars}
use Rattle.go_tokens.specs.declared.token.TokenKind.TheVariants as token
use Rattle.go_tokens.specs.Lexing.{join}
use Rattle.go_tokens.specs.Replacing.{are_apart}
use Rattle.go_types.specs.Trees.{TypeTree, TypeRow, boolean, text, integer, array, slice, structure, function, declared, none, more}
use Rattle.go_print.specs.Texts.{kind_text}
use Rattle.go_print_laws.specs.Lexemes.{Lexeme, mark, blank, pieces, AreWords, AreNames}
use Rattle.go_print_laws.specs.Types.{comma, semicolon, closing, right_bracket as closing_bracket, right_brace, CanBeWritten, RowCanBeWritten, type_lexemes, list_lexemes, behind_lexemes, result_lexemes, field_lexemes, later_lexemes}
use Rattle.go_print_laws.proofs.Seams.{apart_before, apart_behind, comma_free, blank_free, semicolon_free, open_free, close_free, bracket_free, left_bracket, right_bracket, left_parenthesis, left_brace}
use Rattle.go_print_laws.proofs.Decimals.{decimal_word}
use Rattle.go_print_laws.proofs.Words.{marks, kind_word}

-- nothing joins the lexemes in front
pub record AreOpen (ls : List Lexeme) : Type 0 where
  pub by : (p : List ℕ) → are_apart p (join (pieces ls)) ≡ true

pub none_open : AreOpen []
none_open = record { by = λ p. refl }

pub blank_open : (ls : List Lexeme) → AreOpen (blank ∷ ls)
blank_open ls = record { by = λ p. apart_before p 32 (join (pieces ls)) blank_free }

pub close_open : (ls : List Lexeme) → AreOpen (closing ∷ ls)
close_open ls = record { by = λ p. apart_before p 41 (join (pieces ls)) close_free }

pub comma_open : (ls : List Lexeme) → AreOpen (comma ∷ ls)
comma_open ls = record { by = λ p. apart_before p 44 (join (pieces ls)) comma_free }

pub semicolon_open : (ls : List Lexeme) → AreOpen (semicolon ∷ ls)
semicolon_open ls = record { by = λ p. apart_before p 59 (join (pieces ls)) semicolon_free }

module _ (name : ℕ → List ℕ) where
  behind_open : (ts : TypeRow) (rest : List Lexeme) → AreOpen rest → AreOpen (behind_lexemes name ts rest)
  behind_open none rest o = o
  behind_open (more t ts) rest o = comma_open _

  pub results_open : (ts : TypeRow) (rest : List Lexeme) → AreOpen rest → AreOpen (result_lexemes name ts rest)
  results_open none rest o = o
  results_open (more t none) rest o = blank_open _
  results_open (more t (more u us)) rest o = blank_open _

  later_open : (ts : TypeRow) (ns : List (List ℕ)) (rest : List Lexeme) → AreOpen (later_lexemes name ns ts rest)
  later_open none [] rest = blank_open _
  later_open none (n ∷ ns) rest = blank_open _
  later_open (more t ts) [] rest = blank_open _
  later_open (more t ts) (n ∷ ns) rest = semicolon_open _

  mutual
    pub type_spelled : (t : TypeTree) (rest : List Lexeme) → CanBeWritten name t → AreOpen rest → AreWords rest → AreWords (type_lexemes name t rest)
    type_spelled boolean rest w o a = (marks.bool, o.by (codes "bool"), a)
    type_spelled text rest w o a = (marks.string, o.by (codes "string"), a)
    type_spelled (integer k) rest w o a = (kind_word k, o.by (kind_text k), a)
    type_spelled (declared n) rest w o a = (w, o.by (chars (name n)), a)
    type_spelled (array n t) rest w o a =
        (marks.left_bracket, apart_behind 91 left_bracket (join (pieces (mark token.Integer (decimal n) ∷ closing_bracket ∷ type_lexemes name t rest))), (decimal_word n w.0, apart_before (decimal n) 93 [] bracket_free, (marks.right_bracket, apart_behind 93 right_bracket (join (pieces (type_lexemes name t rest))), type_spelled t rest w.1 o a)))
    type_spelled (slice t) rest w o a = (marks.left_bracket, apart_behind 91 left_bracket (join (pieces (closing_bracket ∷ type_lexemes name t rest))), (marks.right_bracket, apart_behind 93 right_bracket (join (pieces (type_lexemes name t rest))), type_spelled t rest w o a))
    type_spelled (structure ns ts) rest w o a =
        (marks.struct, apart_before (codes "struct") 32 [] blank_free, (marks.left_brace, apart_behind 123 left_brace (join (pieces (field_lexemes name ns ts (right_brace ∷ rest)))), fields_spelled ts ns (right_brace ∷ rest) w.0 w.1 (marks.right_brace, o.by (codes "}"), a)))
    type_spelled (function ps rs) rest w o a = (
      marks.func,
      apart_before (codes "func") 40 [] open_free,
      (
        marks.left_parenthesis,
        apart_behind 40 left_parenthesis (join (pieces (list_lexemes name ps (closing ∷ result_lexemes name rs rest)))),
        list_spelled ps (closing ∷ result_lexemes name rs rest) w.0 (close_open _) (marks.right_parenthesis, (results_open rs rest o).by (codes ")"), results_spelled rs rest w.1 o a),
      ),
    )

    list_spelled : (ts : TypeRow) (rest : List Lexeme) → RowCanBeWritten name ts → AreOpen rest → AreWords rest → AreWords (list_lexemes name ts rest)
    list_spelled none rest w o a = a
    list_spelled (more t ts) rest w o a = type_spelled t (behind_lexemes name ts rest) w.0 (behind_open ts rest o) (behind_spelled ts rest w.1 o a)

    behind_spelled : (ts : TypeRow) (rest : List Lexeme) → RowCanBeWritten name ts → AreOpen rest → AreWords rest → AreWords (behind_lexemes name ts rest)
    behind_spelled none rest w o a = a
    behind_spelled (more t ts) rest w o a = (marks.comma, apart_before (codes ",") 32 [] blank_free, type_spelled t (behind_lexemes name ts rest) w.0 (behind_open ts rest o) (behind_spelled ts rest w.1 o a))

    pub results_spelled : (ts : TypeRow) (rest : List Lexeme) → RowCanBeWritten name ts → AreOpen rest → AreWords rest → AreWords (result_lexemes name ts rest)
    results_spelled none rest w o a = a
    results_spelled (more t none) rest w o a = type_spelled t rest w.0 o a
    results_spelled (more t (more u us)) rest w o a =
        let close = closing ∷ rest in
        let q = behind_spelled us close w.1.1 (close_open rest) (marks.right_parenthesis, o.by (codes ")"), a) in
        let r = type_spelled u (behind_lexemes name us close) w.1.0 (behind_open us close (close_open rest)) q in (
          marks.left_parenthesis,
          apart_behind 40 left_parenthesis (join (pieces (type_lexemes name t (comma ∷ blank ∷ type_lexemes name u (behind_lexemes name us close))))),
          type_spelled t (comma ∷ blank ∷ type_lexemes name u (behind_lexemes name us close)) w.0 (comma_open _) (marks.comma, apart_before (codes ",") 32 [] blank_free, r),
        )

    fields_spelled : (ts : TypeRow) (ns : List (List ℕ)) (rest : List Lexeme) → AreNames ns → RowCanBeWritten name ts → AreWords rest → AreWords (field_lexemes name ns ts rest)
    fields_spelled none [] rest n w a = a
    fields_spelled none (m ∷ ns) rest n w a = a
    fields_spelled (more t ts) [] rest n w a = a
    fields_spelled (more t ts) (m ∷ ns) rest n w a = (n.0, apart_before (chars m) 32 [] blank_free, type_spelled t (later_lexemes name ns ts rest) w.0 (later_open ts ns rest) (later_spelled ts ns rest n.1 w.1 a))

    later_spelled : (ts : TypeRow) (ns : List (List ℕ)) (rest : List Lexeme) → AreNames ns → RowCanBeWritten name ts → AreWords rest → AreWords (later_lexemes name ns ts rest)
    later_spelled none [] rest n w a = a
    later_spelled none (m ∷ ns) rest n w a = a
    later_spelled (more t ts) [] rest n w a = a
    later_spelled (more t ts) (m ∷ ns) rest n w a =
        (marks.semicolon, apart_before (codes ";") 32 [] blank_free, (n.0, apart_before (chars m) 32 [] blank_free, type_spelled t (later_lexemes name ns ts rest) w.0 (later_open ts ns rest) (later_spelled ts ns rest n.1 w.1 a)))
