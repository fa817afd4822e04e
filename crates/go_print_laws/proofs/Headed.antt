-- Headers stand.
use Rattle.std.proofs.Common.{◌≡◌, inl, ℕ, suc, Bool, true, false, IsTrue, ◌&&◌, List, [], ◌∷◌, ◌++◌, append-nil, append_assoc, length, codes, refl, sym, ap, ◌∙◌, subst}
use Rattle.std.specs.Str.{chars}
use Rattle.go_tokens.specs.declared.token.TokenKind.{TokenKind}
use Rattle.go_tokens.specs.declared.token.TokenKind.TheVariants as token
use Rattle.go_tokens.specs.Lexing.{join}
use Rattle.go_grammar.specs.declared.kind.Kind.TheVariants as kind
use Rattle.go_grammar.specs.declared.kind.Category.TheVariants as category
use Rattle.go_grammar.specs.Rules.{Items, Lines, Many}
use Rattle.go_grammar.specs.Trees.{last}
use Rattle.go_grammar.specs.Words.{is_among}
use Rattle.go_grammar.specs.Grammar.{result_words, are_entries, ends_from, agrees, IsAt, Words, Derives, Spells, Goes}
use Rattle.std.specs.Prelude.{slice_get}
use Rattle.go_types.specs.Trees.{TypeTree, TypeRow, none, more}
use Rattle.go_print.specs.Texts.{marked, listed, named, row_texts, results_text, type_text}
use Rattle.go_print_laws.specs.Lexemes.{Lexeme, pieces, words, AreNames, AreWords, ends_line}
use Rattle.go_print_laws.specs.Types.{closing, result_lexemes, RowCanBeWritten}
use Rattle.go_print_laws.specs.Trees.{type_tree, result_end}
use Rattle.go_print_laws.specs.Standing.{EndsHere, StandsAs}
use Rattle.go_print_laws.specs.Headers.{Header, header_text, further_parameters, parameter_lexemes, header_lexemes, parameter_at, further_trees, further_end, parameter_trees, parameters_end, signature_tree, header_tree, HeaderCanBeWritten, HeadersStand}
use Rattle.go_print_laws.proofs.Seams.{apart_before, apart_behind, blank_free, open_free, left_parenthesis}
use Rattle.go_print_laws.proofs.Words.{marks}
use Rattle.go_print_laws.proofs.Lexed.{written}
use Rattle.go_print_laws.proofs.Spelled.{AreOpen, none_open, close_open, comma_open, type_spelled, results_open, results_spelled}
use Rattle.go_print_laws.proofs.Texts.{type_written, results_written}
use Rattle.go_print_laws.proofs.Derived.{first_of, Closed, closed_by, type_derived, results_derived}
use Rattle.go_print_laws.proofs.Standing.{words_stand_as, at_front, behind_front, type_ends, results_end}

-- ---- the tree

abbrev entries : Items
entries = Lines false category.Entry token.Comma token.RightParenthesis

-- parameters all have names
all_named : (i : ℕ) (ns : List (List ℕ)) (us : TypeRow) → ends_from true (further_trees i ns us) ≡ true
all_named i [] us = refl
all_named i (n ∷ ns) none = refl
all_named i (n ∷ ns) (more t us) = all_named (last (type_tree (suc (suc i)) t)) ns us

all_entries : (i : ℕ) (ns : List (List ℕ)) (us : TypeRow) → are_entries (further_trees i ns us) ≡ true
all_entries i [] us = refl
all_entries i (n ∷ ns) none = refl
all_entries i (n ∷ ns) (more t us) = all_entries (last (type_tree (suc (suc i)) t)) ns us

parameters_agree : (i : ℕ) (ns : List (List ℕ)) (us : TypeRow) → IsTrue (agrees kind.Parameters (parameter_trees i ns us))
parameters_agree i [] us = refl
parameters_agree i (n ∷ ns) none = refl
parameters_agree i (n ∷ ns) (more t us) =
    let at = last (type_tree (suc i) t) in
    ap (λ b. b && are_entries (further_trees at ns us)) (all_named at ns us) ∙ all_entries at ns us

module _ (name : ℕ → List ℕ) (ts : List TokenKind) where
  further_closed : (ns : List (List ℕ)) (us : TypeRow) (rest : List Lexeme) (j : ℕ) → Closed name ts (further_parameters name ns us (closing ∷ rest)) j
  further_closed [] us rest j = closed_by name ts token.RightParenthesis (codes ")") (codes ")") rest j refl
  further_closed (n ∷ ns) none rest j = closed_by name ts token.RightParenthesis (codes ")") (codes ")") rest j refl
  further_closed (n ∷ ns) (more t us) rest j = closed_by name ts token.Comma (codes ",") (codes ",") _ j refl

  parameter_stands : (i : ℕ) (t : TypeTree) → IsAt ts i token.Identifier → Derives ts category.Type (type_tree (suc i) t) → Derives ts category.Entry (parameter_at i (type_tree (suc i) t))
  parameter_stands i t h d = (refl, (refl, (refl, (h, refl), refl, refl), (sym (first_of (suc i) t), d, refl)), refl, refl)

  further_derived : (us : TypeRow) (ns : List (List ℕ)) (i : ℕ) (rest : List Lexeme) (j : ℕ) → Words ts i (words (further_parameters name ns us (closing ∷ rest))) j
      → Goes ts entries i (further_trees i ns us) (suc (further_end i ns us)) × Words ts (suc (further_end i ns us)) (words rest) j
  further_derived none [] i rest j s = (inl (s.0, refl), s.1)
  further_derived none (n ∷ ns) i rest j s = (inl (s.0, refl), s.1)
  further_derived (more t us) [] i rest j s = (inl (s.0, refl), s.1)
  further_derived (more t us) (n ∷ ns) i rest j s =
      let r = type_derived name ts t (suc (suc i)) (further_parameters name ns us (closing ∷ rest)) j (further_closed ns us rest j) s.1.1 in
      let g = further_derived us ns (last (type_tree (suc (suc i)) t)) rest j r.1 in
      ((suc i, (s.0, refl), refl, parameter_stands (suc i) t s.1.0 r.0, g.0), g.1)

  parameters_derived : (us : TypeRow) (ns : List (List ℕ)) (i : ℕ) (rest : List Lexeme) (j : ℕ) → IsAt ts i token.LeftParenthesis → Words ts (suc i) (words (parameter_lexemes name ns us (closing ∷ rest))) j
      → Spells ts (Many (token.LeftParenthesis ∷ []) entries) i (parameter_trees (suc i) ns us) (suc (parameters_end (suc i) ns us)) × Words ts (suc (parameters_end (suc i) ns us)) (words rest) j
  parameters_derived none [] i rest j h s = ((suc i, (h, refl), (suc i, refl, s.0, refl)), s.1)
  parameters_derived none (n ∷ ns) i rest j h s = ((suc i, (h, refl), (suc i, refl, s.0, refl)), s.1)
  parameters_derived (more t us) [] i rest j h s = ((suc i, (h, refl), (suc i, refl, s.0, refl)), s.1)
  parameters_derived (more t us) (n ∷ ns) i rest j h s =
      let r = type_derived name ts t (suc (suc i)) (further_parameters name ns us (closing ∷ rest)) j (further_closed ns us rest j) s.1 in
      let g = further_derived us ns (last (type_tree (suc (suc i)) t)) rest j r.1 in
      ((suc i, (h, refl), refl, parameter_stands (suc i) t s.0 r.0, g.0), g.1)

  pub header_derived : (h : Header) (i : ℕ) (rest : List Lexeme) (j : ℕ) → Closed name ts rest j → Words ts i (words (header_lexemes name h rest)) j
      → Derives ts category.Declaration (header_tree i h) × Words ts (last (header_tree i h)) (words rest) j
  header_derived h i rest j c s =
      let k = suc (parameters_end (suc (suc (suc i))) h.parameters h.types) in
      let p = parameters_derived h.types h.parameters (suc (suc i)) (result_lexemes name h.results rest) j s.1.1.0 s.1.1.1 in
      let r = results_derived name ts h.results k rest j c p.1 in
      let signature : Derives ts category.Signature (signature_tree (suc (suc i)) h) =
      (refl, (refl, (refl, p.0, parameters_agree (suc (suc (suc i))) h.parameters h.types, refl), r.0), refl, refl) in
      ((refl, ((s.0, (s.1.0, refl)), signature, (result_end k h.results, refl, refl)), refl, refl), r.1)

-- ---- words

module _ (name : ℕ → List ℕ) where
  further_open : (ns : List (List ℕ)) (us : TypeRow) (rest : List Lexeme) → AreOpen rest → AreOpen (further_parameters name ns us rest)
  further_open [] us rest o = o
  further_open (n ∷ ns) none rest o = o
  further_open (n ∷ ns) (more t us) rest o = comma_open _

  further_spelled : (ns : List (List ℕ)) (us : TypeRow) (rest : List Lexeme) → AreNames ns → RowCanBeWritten name us → AreOpen rest → AreWords rest → AreWords (further_parameters name ns us rest)
  further_spelled [] us rest h w o a = a
  further_spelled (n ∷ ns) none rest h w o a = a
  further_spelled (n ∷ ns) (more t us) rest h w o a =
      (marks.comma, apart_before (codes ",") 32 [] blank_free, (h.0, apart_before (chars n) 32 [] blank_free, type_spelled name t (further_parameters name ns us rest) w.0 (further_open ns us rest o) (further_spelled ns us rest h.1 w.1 o a)))

  parameters_spelled : (ns : List (List ℕ)) (us : TypeRow) (rest : List Lexeme) → AreNames ns → RowCanBeWritten name us → AreOpen rest → AreWords rest → AreWords (parameter_lexemes name ns us rest)
  parameters_spelled [] us rest h w o a = a
  parameters_spelled (n ∷ ns) none rest h w o a = a
  parameters_spelled (n ∷ ns) (more t us) rest h w o a =
      (h.0, apart_before (chars n) 32 [] blank_free, type_spelled name t (further_parameters name ns us rest) w.0 (further_open ns us rest o) (further_spelled ns us rest h.1 w.1 o a))

  pub header_spelled : (h : Header) → HeaderCanBeWritten name h → AreWords (header_lexemes name h [])
  header_spelled h w =
      let results = result_lexemes name h.results [] in (
        marks.func,
        apart_before (codes "func") 32 [] blank_free,
        (
          w.function,
          apart_before (chars h.function) 40 [] open_free,
          (
            marks.left_parenthesis,
            apart_behind 40 left_parenthesis (join (pieces (parameter_lexemes name h.parameters h.types (closing ∷ results)))),
            parameters_spelled h.parameters h.types (closing ∷ results) w.parameters w.types (close_open results)
                (marks.right_parenthesis, (results_open name h.results [] none_open).by (codes ")"), results_spelled name h.results [] w.results none_open tt),
          ),
        ),
      )

  -- ---- the text

  further_regroup : (a b c e : List ℕ) → a ++ (32 ∷ (b ++ (c ++ e))) ≡ (((a ++ (32 ∷ [])) ++ b) ++ c) ++ e
  further_regroup a b c e = simp append_assoc

  header_regroup : (a b c e : List ℕ) → a ++ (40 ∷ (b ++ (41 ∷ (c ++ e)))) ≡ ((((a ++ (40 ∷ [])) ++ b) ++ (41 ∷ [])) ++ c) ++ e
  header_regroup a b c e = simp append_assoc

  further_written : (ns : List (List ℕ)) (us : TypeRow) (rest : List Lexeme) → written (further_parameters name ns us rest) ≡ marked (codes ", ") (named ns (row_texts name us)) ++ written rest
  further_written [] us rest = refl
  further_written (n ∷ ns) none rest = refl
  further_written (n ∷ ns) (more t us) rest = ap (λ l. 44 ∷ 32 ∷ l)
      (ap (λ l. n ++ (32 ∷ l)) (type_written name t (further_parameters name ns us rest) ∙ ap (λ l. type_text name t ++ l) (further_written ns us rest))
      ∙ further_regroup n (type_text name t) (marked (codes ", ") (named ns (row_texts name us))) (written rest))

  parameters_written : (ns : List (List ℕ)) (us : TypeRow) (rest : List Lexeme) → written (parameter_lexemes name ns us rest) ≡ listed (named ns (row_texts name us)) ++ written rest
  parameters_written [] us rest = refl
  parameters_written (n ∷ ns) none rest = refl
  parameters_written (n ∷ ns) (more t us) rest =
      ap (λ l. n ++ (32 ∷ l)) (type_written name t (further_parameters name ns us rest) ∙ ap (λ l. type_text name t ++ l) (further_written ns us rest))
      ∙ further_regroup n (type_text name t) (marked (codes ", ") (named ns (row_texts name us))) (written rest)

  pub header_written : (h : Header) (rest : List Lexeme) → written (header_lexemes name h rest) ≡ header_text name h ++ written rest
  header_written h rest = ap (λ l. codes "func " ++ l)
      (ap (λ l. h.function ++ (40 ∷ l))
      (parameters_written h.parameters h.types (closing ∷ result_lexemes name h.results rest) ∙ ap (λ l. listed (named h.parameters (row_texts name h.types)) ++ (41 ∷ l)) (results_written name h.results rest))
      ∙ header_regroup h.function (listed (named h.parameters (row_texts name h.types))) (results_text (row_texts name h.results)) (written rest))

  -- ---- the last word

  further_ends : (ns : List (List ℕ)) (us : TypeRow) (b : Bool) (rest : List Lexeme) → ends_line b (further_parameters name ns us (closing ∷ rest)) ≡ ends_line true rest
  further_ends [] us b rest = refl
  further_ends (n ∷ ns) none b rest = refl
  further_ends (n ∷ ns) (more t us) b rest = type_ends name t false (further_parameters name ns us (closing ∷ rest)) ∙ further_ends ns us true rest

  pub parameters_end_line : (ns : List (List ℕ)) (us : TypeRow) (b : Bool) (rest : List Lexeme) → ends_line b (parameter_lexemes name ns us (closing ∷ rest)) ≡ ends_line true rest
  parameters_end_line [] us b rest = refl
  parameters_end_line (n ∷ ns) none b rest = refl
  parameters_end_line (n ∷ ns) (more t us) b rest = type_ends name t false (further_parameters name ns us (closing ∷ rest)) ∙ further_ends ns us true rest

  pub header_derives : (h : Header) (next : List TokenKind) → EndsHere next
      → Derives (words (header_lexemes name h []) ++ next) category.Declaration (header_tree 0 h) × (last (header_tree 0 h) ≡ length (words (header_lexemes name h [])))
  header_derives h next e =
      let ws = words (header_lexemes name h []) in
      header_derived name (ws ++ next) h 0 [] (length ws)
      (record { by = λ k f. ap (λ n. is_among (slice_get (ws ++ next) n) result_words) f ∙ ap (λ o. is_among o result_words) (behind_front ws next) ∙ e }) (at_front ws next)

pub headers_stand : HeadersStand
headers_stand file name h w =
    let ls = header_lexemes name h [] in
    subst (λ x. StandsAs file x ls category.Declaration (header_tree 0 h)) (header_written name h [] ∙ append-nil (header_text name h))
    (words_stand_as file ls category.Declaration (header_tree 0 h) (header_spelled name h w) refl (parameters_end_line name h.parameters h.types false (result_lexemes name h.results []) ∙ results_end name h.results [])
    (λ next e. (header_derives name h next e).0) refl (header_derives name h [] refl).1)
