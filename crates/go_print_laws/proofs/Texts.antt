-- The lexemes of a type are its text.
use Rattle.std.proofs.Common.{◌≡◌, ℕ, List, [], ◌∷◌, ◌++◌, append_assoc, codes, refl, sym, ap, ◌∙◌}
use Rattle.std.specs.Fmt.{decimal}
use Rattle.go_types.specs.Trees.{TypeTree, TypeRow, boolean, text, integer, array, slice, structure, function, declared, none, more}
use Rattle.go_print.specs.Texts.{marked, listed, fields_text, results_text, named, type_text, row_texts}
use Rattle.go_print_laws.specs.Lexemes.{Lexeme, blank}
use Rattle.go_print_laws.specs.Types.{comma, closing, right_brace, type_lexemes, list_lexemes, behind_lexemes, result_lexemes, field_lexemes, later_lexemes}
use Rattle.go_print_laws.proofs.Lexed.{written}

array_regroup : (a b e : List ℕ) → a ++ (93 ∷ (b ++ e)) ≡ ((a ++ (93 ∷ [])) ++ b) ++ e
array_regroup a b e = simp append_assoc

later_regroup : (a b c e : List ℕ) → a ++ (32 ∷ (b ++ (c ++ e))) ≡ (((a ++ (32 ∷ [])) ++ b) ++ c) ++ e
later_regroup a b c e = simp append_assoc

first_regroup : (a b c e : List ℕ) → a ++ (32 ∷ (b ++ (c ++ (32 ∷ 125 ∷ e)))) ≡ ((((a ++ (32 ∷ [])) ++ b) ++ c) ++ (32 ∷ 125 ∷ [])) ++ e
first_regroup a b c e = simp append_assoc

results_regroup : (a b c e : List ℕ) → a ++ (44 ∷ 32 ∷ (b ++ (c ++ (41 ∷ e)))) ≡ ((a ++ (44 ∷ 32 ∷ (b ++ c))) ++ (41 ∷ [])) ++ e
results_regroup a b c e = simp append_assoc

function_regroup : (a b e : List ℕ) → a ++ (41 ∷ (b ++ e)) ≡ ((a ++ (41 ∷ [])) ++ b) ++ e
function_regroup a b e = simp append_assoc

module _ (name : ℕ → List ℕ) where
  mutual
    pub type_written : (t : TypeTree) (rest : List Lexeme) → written (type_lexemes name t rest) ≡ type_text name t ++ written rest
    type_written boolean rest = refl
    type_written text rest = refl
    type_written (integer k) rest = refl
    type_written (declared n) rest = refl
    type_written (array n t) rest = ap (λ l. 91 ∷ l) (ap (λ l. decimal n ++ (93 ∷ l)) (type_written t rest) ∙ array_regroup (decimal n) (type_text name t) (written rest))
    type_written (slice t) rest = ap (λ l. 91 ∷ 93 ∷ l) (type_written t rest)
    type_written (structure ns ts) rest = fields_written ts ns rest
    type_written (function ps rs) rest =
        ap (λ l. codes "func(" ++ l) (list_written ps (closing ∷ result_lexemes name rs rest)
        ∙ ap (λ l. listed (row_texts name ps) ++ (41 ∷ l)) (results_written rs rest)
        ∙ function_regroup (listed (row_texts name ps)) (results_text (row_texts name rs)) (written rest))

    list_written : (ts : TypeRow) (rest : List Lexeme) → written (list_lexemes name ts rest) ≡ listed (row_texts name ts) ++ written rest
    list_written none rest = refl
    list_written (more t ts) rest =
        type_written t (behind_lexemes name ts rest) ∙ ap (λ l. type_text name t ++ l) (behind_written ts rest)
        ∙ sym (append_assoc (type_text name t) (marked (codes ", ") (row_texts name ts)) (written rest))

    behind_written : (ts : TypeRow) (rest : List Lexeme) → written (behind_lexemes name ts rest) ≡ marked (codes ", ") (row_texts name ts) ++ written rest
    behind_written none rest = refl
    behind_written (more t ts) rest = ap (λ l. 44 ∷ 32 ∷ l)
        (type_written t (behind_lexemes name ts rest) ∙ ap (λ l. type_text name t ++ l) (behind_written ts rest)
        ∙ sym (append_assoc (type_text name t) (marked (codes ", ") (row_texts name ts)) (written rest)))

    pub results_written : (ts : TypeRow) (rest : List Lexeme) → written (result_lexemes name ts rest) ≡ results_text (row_texts name ts) ++ written rest
    results_written none rest = refl
    results_written (more t none) rest = ap (λ l. 32 ∷ l) (type_written t rest)
    results_written (more t (more u us)) rest =
        ap (λ l. 32 ∷ 40 ∷ l)
        (type_written t (comma ∷ blank ∷ type_lexemes name u (behind_lexemes name us (closing ∷ rest)))
        ∙ ap (λ l. type_text name t ++ (44 ∷ 32 ∷ l)) (type_written u (behind_lexemes name us (closing ∷ rest)) ∙ ap (λ l. type_text name u ++ l) (behind_written us (closing ∷ rest)))
        ∙ results_regroup (type_text name t) (type_text name u) (marked (codes ", ") (row_texts name us)) (written rest))

    fields_written : (ts : TypeRow) (ns : List (List ℕ)) (rest : List Lexeme)
        → codes "struct {" ++ written (field_lexemes name ns ts (right_brace ∷ rest)) ≡ fields_text (named ns (row_texts name ts)) ++ written rest
    fields_written none [] rest = refl
    fields_written none (n ∷ ns) rest = refl
    fields_written (more t ts) [] rest = refl
    fields_written (more t ts) (n ∷ ns) rest =
        ap (λ l. codes "struct { " ++ l)
        (ap (λ l. n ++ (32 ∷ l)) (type_written t (later_lexemes name ns ts (right_brace ∷ rest)) ∙ ap (λ l. type_text name t ++ l) (later_written ts ns rest))
        ∙ first_regroup n (type_text name t) (marked (codes "; ") (named ns (row_texts name ts))) (written rest))

    later_written : (ts : TypeRow) (ns : List (List ℕ)) (rest : List Lexeme)
        → written (later_lexemes name ns ts (right_brace ∷ rest)) ≡ marked (codes "; ") (named ns (row_texts name ts)) ++ (codes " }" ++ written rest)
    later_written none [] rest = refl
    later_written none (n ∷ ns) rest = refl
    later_written (more t ts) [] rest = refl
    later_written (more t ts) (n ∷ ns) rest =
        ap (λ l. 59 ∷ 32 ∷ l)
        (ap (λ l. n ++ (32 ∷ l)) (type_written t (later_lexemes name ns ts (right_brace ∷ rest)) ∙ ap (λ l. type_text name t ++ l) (later_written ts ns rest))
        ∙ later_regroup n (type_text name t) (marked (codes "; ") (named ns (row_texts name ts))) (codes " }" ++ written rest))
