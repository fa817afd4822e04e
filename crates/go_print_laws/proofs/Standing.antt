-- Printed types stand.
use Rattle.std.proofs.Common.{◌≡◌, ℕ, suc, Bool, true, false, List, [], ◌∷◌, ◌++◌, append-nil, length, refl, ap, ◌∙◌, subst}
use Rattle.std.specs.Prelude.{slice_get}
use Rattle.go_tokens.specs.declared.token.TokenKind.{TokenKind}
use Rattle.go_grammar.specs.declared.kind.Category.{Category}
use Rattle.go_grammar.specs.declared.kind.Category.TheVariants as category
use Rattle.go_grammar.specs.Trees.{Tree, first, last}
use Rattle.go_grammar.specs.Words.{is_among}
use Rattle.go_grammar.specs.Grammar.{result_words, Words, Derives}
use Rattle.go_types.specs.Trees.{TypeTree, TypeRow, boolean, text, integer, array, slice, structure, function, declared, none, more}
use Rattle.go_print.specs.Texts.{type_text}
use Rattle.go_print_laws.specs.Lexemes.{Lexeme, blank, words, AreWords, begins_with_word, ends_line}
use Rattle.go_print_laws.specs.Types.{comma, closing, right_brace, type_lexemes, list_lexemes, behind_lexemes, result_lexemes, field_lexemes, later_lexemes}
use Rattle.go_print_laws.specs.Trees.{type_tree}
use Rattle.go_print_laws.specs.Standing.{EndsHere, StandsAs, TypesStand}
use Rattle.go_print_laws.proofs.Derived.{first_of, type_derived}
use Rattle.go_print_laws.proofs.Texts.{type_written}
use Rattle.go_print_laws.proofs.Spelled.{none_open, type_spelled}
use Rattle.go_print_laws.proofs.Lexed.{written, words_stand}

-- ---- words at their places

pub one_on : (w : TokenKind) (ts : List TokenKind) (i j : ℕ) (ws : List TokenKind) → Words ts i ws j → Words (w ∷ ts) (suc i) ws (suc j)
one_on w ts i j [] h = ap (λ n. suc n) h
one_on w ts i j (v ∷ vs) h = (h.0, one_on w ts (suc i) j vs h.1)

pub at_front : (ws next : List TokenKind) → Words (ws ++ next) 0 ws (length ws)
at_front [] next = refl
at_front (w ∷ ws) next = (refl, one_on w (ws ++ next) 0 (length ws) ws (at_front ws next))

pub behind_front : (ws next : List TokenKind) → slice_get (ws ++ next) (length ws) ≡ slice_get next 0
behind_front [] next = refl
behind_front (w ∷ ws) next = behind_front ws next

-- Words that stand alone and are a text of a category with any other behind them are one as a text.
pub words_stand_as : (file : ℕ) (ls : List Lexeme) (c : Category) (t : Tree) → AreWords ls → begins_with_word ls ≡ true → ends_line false ls ≡ true
    → ((next : List TokenKind) → EndsHere next → Derives (words ls ++ next) c t) → first t ≡ 0 → last t ≡ length (words ls) → StandsAs file (written ls) ls c t
words_stand_as file ls c t a f l d b e = record { alone = words_stand file ls a f l; derives = d; begins = b; ends = e }

-- ---- the first word and the last one of a type

module _ (name : ℕ → List ℕ) where
  type_begins : (t : TypeTree) (rest : List Lexeme) → begins_with_word (type_lexemes name t rest) ≡ true
  type_begins boolean rest = refl
  type_begins text rest = refl
  type_begins (integer k) rest = refl
  type_begins (array n t) rest = refl
  type_begins (slice t) rest = refl
  type_begins (structure ns ts) rest = refl
  type_begins (function ps rs) rest = refl
  type_begins (declared n) rest = refl

  -- behind a closing word it doesn't matter what is in front
  mutual
    pub type_ends : (t : TypeTree) (b : Bool) (rest : List Lexeme) → ends_line b (type_lexemes name t rest) ≡ ends_line true rest
    type_ends boolean b rest = refl
    type_ends text b rest = refl
    type_ends (integer k) b rest = refl
    type_ends (declared n) b rest = refl
    type_ends (array n t) b rest = type_ends t true rest
    type_ends (slice t) b rest = type_ends t true rest
    type_ends (structure ns ts) b rest = fields_end ts ns false rest
    type_ends (function ps rs) b rest = list_ends ps false (result_lexemes name rs rest) ∙ results_end rs rest

    list_ends : (ts : TypeRow) (b : Bool) (rest : List Lexeme) → ends_line b (list_lexemes name ts (closing ∷ rest)) ≡ ends_line true rest
    list_ends none b rest = refl
    list_ends (more t ts) b rest = type_ends t b (behind_lexemes name ts (closing ∷ rest)) ∙ behind_ends ts true rest

    behind_ends : (ts : TypeRow) (b : Bool) (rest : List Lexeme) → ends_line b (behind_lexemes name ts (closing ∷ rest)) ≡ ends_line true rest
    behind_ends none b rest = refl
    behind_ends (more t ts) b rest = type_ends t false (behind_lexemes name ts (closing ∷ rest)) ∙ behind_ends ts true rest

    pub results_end : (ts : TypeRow) (rest : List Lexeme) → ends_line true (result_lexemes name ts rest) ≡ ends_line true rest
    results_end none rest = refl
    results_end (more t none) rest = type_ends t false rest
    results_end (more t (more u us)) rest =
        type_ends t false (comma ∷ blank ∷ type_lexemes name u (behind_lexemes name us (closing ∷ rest)))
        ∙ type_ends u false (behind_lexemes name us (closing ∷ rest)) ∙ behind_ends us true rest

    fields_end : (ts : TypeRow) (ns : List (List ℕ)) (b : Bool) (rest : List Lexeme) → ends_line b (field_lexemes name ns ts (right_brace ∷ rest)) ≡ ends_line true rest
    fields_end none [] b rest = refl
    fields_end none (n ∷ ns) b rest = refl
    fields_end (more t ts) [] b rest = refl
    fields_end (more t ts) (n ∷ ns) b rest = type_ends t false (later_lexemes name ns ts (right_brace ∷ rest)) ∙ later_ends ts ns rest

    later_ends : (ts : TypeRow) (ns : List (List ℕ)) (rest : List Lexeme) → ends_line true (later_lexemes name ns ts (right_brace ∷ rest)) ≡ ends_line true rest
    later_ends none [] rest = refl
    later_ends none (n ∷ ns) rest = refl
    later_ends (more t ts) [] rest = refl
    later_ends (more t ts) (n ∷ ns) rest = type_ends t false (later_lexemes name ns ts (right_brace ∷ rest)) ∙ later_ends ts ns rest

  type_derives : (t : TypeTree) (next : List TokenKind) → EndsHere next
      → Derives (words (type_lexemes name t []) ++ next) category.Type (type_tree 0 t) × (last (type_tree 0 t) ≡ length (words (type_lexemes name t [])))
  type_derives t next h =
      let ws = words (type_lexemes name t []) in
      type_derived name (ws ++ next) t 0 [] (length ws) (record { by = λ k e. ap (λ n. is_among (slice_get (ws ++ next) n) result_words) e ∙ ap (λ o. is_among o result_words) (behind_front ws next) ∙ h }) (at_front ws next)

pub types_stand : TypesStand
types_stand file name t w =
    let ls = type_lexemes name t [] in
    subst (λ x. StandsAs file x ls category.Type (type_tree 0 t)) (type_written name t [] ∙ append-nil (type_text name t))
    (words_stand_as file ls category.Type (type_tree 0 t) (type_spelled name t [] w none_open tt) (type_begins name t []) (type_ends name t false [])
    (λ next h. (type_derives name t next h).0) (first_of 0 t) (type_derives name t [] refl).1)
