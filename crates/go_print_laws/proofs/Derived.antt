-- The tree of a printed type is its derivation.
use Rattle.std.proofs.Common.{◌≡◌, inl, ℕ, suc, Bool, true, false, IsTrue, ◌||◌, List, [], ◌∷◌, codes, Some, refl, sym, ap, ◌∙◌}
use Rattle.std.specs.Prelude.{slice_get}
use Rattle.go_tokens.specs.declared.token.TokenKind.{TokenKind}
use Rattle.go_tokens.specs.declared.token.TokenKind.TheVariants as token
use Rattle.go_grammar.specs.declared.kind.Level.TheVariants as level
use Rattle.go_grammar.specs.declared.kind.Place.TheVariants as place
use Rattle.go_grammar.specs.declared.kind.Category.{Category}
use Rattle.go_grammar.specs.declared.kind.Category.TheVariants as category
use Rattle.go_grammar.specs.Rules.{Items, Lines, Many, Unless, End}
use Rattle.go_grammar.specs.Trees.{first, last}
use Rattle.go_grammar.specs.Words.{is_among}
use Rattle.go_grammar.specs.Grammar.{result_words, are_types, IsAt, Words, Derives, Spells, Goes}
use Rattle.go_types.specs.Trees.{TypeTree, TypeRow, boolean, text, integer, array, slice, structure, function, declared, none, more}
use Rattle.go_print_laws.specs.Lexemes.{Lexeme, word, blank, words}
use Rattle.go_print_laws.specs.Types.{comma, closing, right_brace, type_lexemes, list_lexemes, behind_lexemes, result_lexemes, field_lexemes, later_lexemes}
use Rattle.go_print_laws.specs.Trees.{name_at, number_at, field_at, type_tree, list_trees, list_end, behind_trees, behind_end, result_trees, result_end, field_trees, field_end, later_trees, later_end}

pub first_of : (i : ℕ) (t : TypeTree) → first (type_tree i t) ≡ i
first_of i boolean = refl
first_of i text = refl
first_of i (integer k) = refl
first_of i (array n t) = refl
first_of i (slice t) = refl
first_of i (structure ns ts) = refl
first_of i (function ps rs) = refl
first_of i (declared n) = refl

-- where types stand in a list: among parameters, or results
abbrev listed_as : Bool → Category
listed_as true = category.Entry
listed_as false = category.Type

module _ (name : ℕ → List ℕ) (ts : List TokenKind) where
  as_entry : (b : Bool) (i : ℕ) (t : TypeTree) → Derives ts category.Type (type_tree i t) → Derives ts (listed_as b) (type_tree i t)
  as_entry false i t d = d
  as_entry true i boolean d = d
  as_entry true i text d = d
  as_entry true i (integer k) d = d
  as_entry true i (array n t) d = d
  as_entry true i (slice t) d = d
  as_entry true i (structure ns us) d = d
  as_entry true i (function ps rs) d = d
  as_entry true i (declared n) d = d

  as_result : (i : ℕ) (t : TypeTree) → Derives ts category.Type (type_tree i t) → Derives ts category.Result (type_tree i t)
  as_result i boolean d = d
  as_result i text d = d
  as_result i (integer k) d = d
  as_result i (array n t) d = d
  as_result i (slice t) d = d
  as_result i (structure ns us) d = d
  as_result i (function ps rs) d = d
  as_result i (declared n) d = d

  all_types : (i : ℕ) (us : TypeRow) → are_types (behind_trees i us) ≡ true
  all_types i none = refl
  all_types i (more boolean us) = all_types _ us
  all_types i (more text us) = all_types _ us
  all_types i (more (integer k) us) = all_types _ us
  all_types i (more (array n t) us) = all_types _ us
  all_types i (more (slice t) us) = all_types _ us
  all_types i (more (structure ns vs) us) = all_types _ us
  all_types i (more (function ps rs) us) = all_types _ us
  all_types i (more (declared n) us) = all_types _ us

  list_types : (i : ℕ) (us : TypeRow) → are_types (list_trees i us) ≡ true
  list_types i none = refl
  list_types i (more boolean us) = all_types _ us
  list_types i (more text us) = all_types _ us
  list_types i (more (integer k) us) = all_types _ us
  list_types i (more (array n t) us) = all_types _ us
  list_types i (more (slice t) us) = all_types _ us
  list_types i (more (structure ns vs) us) = all_types _ us
  list_types i (more (function ps rs) us) = all_types _ us
  list_types i (more (declared n) us) = all_types _ us

  or_true : (a b : Bool) → a ≡ true → IsTrue (a || b)
  or_true true b e = refl
  or_true false b e = cc

  -- The words of the rest end at j, and none of them begins a result.
  pub record Closed (rest : List Lexeme) (j : ℕ) : Type 0 where
    pub by : (k : ℕ) → Words ts k (words rest) j → is_among (slice_get ts k) result_words ≡ false

  pub closed_by : (w : TokenKind) (bs p : List ℕ) (rest : List Lexeme) (j : ℕ) → is_among (Some w) result_words ≡ false → Closed (word w bs p ∷ rest) j
  closed_by w bs p rest j h = record { by = λ k s. ap (λ o. is_among o result_words) s.0 ∙ h }

  behind_closed : (us : TypeRow) (rest : List Lexeme) (j : ℕ) → Closed (behind_lexemes name us (closing ∷ rest)) j
  behind_closed none rest j = closed_by token.RightParenthesis (codes ")") (codes ")") rest j refl
  behind_closed (more t us) rest j = closed_by token.Comma (codes ",") (codes ",") (blank ∷ type_lexemes name t (behind_lexemes name us (closing ∷ rest))) j refl

  brace_closed : (rest : List Lexeme) (j : ℕ) → Closed (blank ∷ right_brace ∷ rest) j
  brace_closed rest j = record { by = λ k s. ap (λ o. is_among o result_words) s.0 }

  later_closed : (ns : List (List ℕ)) (us : TypeRow) (rest : List Lexeme) (j : ℕ) → Closed (later_lexemes name ns us (right_brace ∷ rest)) j
  later_closed [] us rest j = brace_closed rest j
  later_closed (n ∷ ns) none rest j = brace_closed rest j
  later_closed (n ∷ ns) (more t us) rest j = record { by = λ k s. ap (λ o. is_among o result_words) s.0 }

  name_stands : (i : ℕ) → IsAt ts i token.Identifier → Derives ts category.Type (name_at i)
  name_stands i h = (refl, (h, refl), refl, refl)

  number_stands : (i : ℕ) → IsAt ts i token.Integer → Derives ts (category.Expression level.Either place.Free) (number_at i)
  number_stands i h = (refl, (h, refl), refl, refl)

  field_stands : (i : ℕ) (t : TypeTree) → IsAt ts i token.Identifier → Derives ts category.Type (type_tree (suc i) t) → Derives ts category.Fields (field_at i (type_tree (suc i) t))
  field_stands i t h d = (refl, (refl, (refl, (refl, (refl, (h, refl), refl, refl), (suc i, refl, refl)), refl, refl), (sym (first_of (suc i) t), d, refl)), refl, refl)

  abbrev parenthesized : Bool → Items
  parenthesized b = Lines false (listed_as b) token.Comma token.RightParenthesis

  abbrev fields : Items
  fields = Lines false category.Fields token.Semicolon token.RightBrace

  mutual
    pub type_derived : (t : TypeTree) (i : ℕ) (rest : List Lexeme) (j : ℕ) → Closed rest j → Words ts i (words (type_lexemes name t rest)) j
        → Derives ts category.Type (type_tree i t) × Words ts (last (type_tree i t)) (words rest) j
    type_derived boolean i rest j c s = (name_stands i s.0, s.1)
    type_derived text i rest j c s = (name_stands i s.0, s.1)
    type_derived (integer k) i rest j c s = (name_stands i s.0, s.1)
    type_derived (declared n) i rest j c s = (name_stands i s.0, s.1)
    type_derived (array n t) i rest j c s =
        let r = type_derived t (suc (suc (suc i))) rest j c s.1.1.1 in
        ((refl, ((s.0, refl), number_stands (suc i) s.1.0, ((s.1.1.0, sym (first_of (suc (suc (suc i))) t)), r.0, refl)), refl, refl), r.1)
    type_derived (slice t) i rest j c s =
        let r = type_derived t (suc (suc i)) rest j c s.1.1 in
        ((refl, (suc i, (s.0, refl), ((s.1.0, sym (first_of (suc (suc i)) t)), r.0, refl)), refl, refl), r.1)
    type_derived (structure ns us) i rest j c s =
        let r = fields_derived us ns i rest j s.0 s.1.0 s.1.1 in
        ((refl, r.0, refl, refl), r.1)
    type_derived (function ps rs) i rest j c s =
        let l = list_derived ps true (suc i) (result_lexemes name rs rest) j s.1.0 s.1.1 in
        let r = results_derived rs (suc (list_end (suc (suc i)) ps)) rest j c l.1 in
        ((refl, ((s.0, refl), (refl, (refl, (refl, l.0, or_true (are_types (list_trees (suc (suc i)) ps)) _ (list_types (suc (suc i)) ps), refl), r.0), refl, refl), refl), refl, refl), r.1)

    list_derived : (us : TypeRow) (b : Bool) (i : ℕ) (rest : List Lexeme) (j : ℕ) → IsAt ts i token.LeftParenthesis → Words ts (suc i) (words (list_lexemes name us (closing ∷ rest))) j
        → Spells ts (Many (token.LeftParenthesis ∷ []) (parenthesized b)) i (list_trees (suc i) us) (suc (list_end (suc i) us)) × Words ts (suc (list_end (suc i) us)) (words rest) j
    list_derived none b i rest j h s = ((suc i, (h, refl), (suc i, refl, s.0, refl)), s.1)
    list_derived (more t us) b i rest j h s =
        let r = type_derived t (suc i) (behind_lexemes name us (closing ∷ rest)) j (behind_closed us rest j) s in
        let g = behind_derived us b (last (type_tree (suc i) t)) rest j r.1 in
        ((suc i, (h, refl), sym (first_of (suc i) t), as_entry b (suc i) t r.0, g.0), g.1)

    behind_derived : (us : TypeRow) (b : Bool) (i : ℕ) (rest : List Lexeme) (j : ℕ) → Words ts i (words (behind_lexemes name us (closing ∷ rest))) j
        → Goes ts (parenthesized b) i (behind_trees i us) (suc (behind_end i us)) × Words ts (suc (behind_end i us)) (words rest) j
    behind_derived none b i rest j s = (inl (s.0, refl), s.1)
    behind_derived (more t us) b i rest j s =
        let r = type_derived t (suc i) (behind_lexemes name us (closing ∷ rest)) j (behind_closed us rest j) s.1 in
        let g = behind_derived us b (last (type_tree (suc i) t)) rest j r.1 in
        ((suc i, (s.0, refl), sym (first_of (suc i) t), as_entry b (suc i) t r.0, g.0), g.1)

    pub results_derived : (us : TypeRow) (i : ℕ) (rest : List Lexeme) (j : ℕ) → Closed rest j → Words ts i (words (result_lexemes name us rest)) j
        → Spells ts (Unless [] category.Result result_words (End [])) i (result_trees i us) (result_end i us) × Words ts (result_end i us) (words rest) j
    results_derived none i rest j c s = ((i, refl, c.by i s, refl), s)
    results_derived (more t none) i rest j c s =
        let r = type_derived t i rest j c s in
        ((sym (first_of i t), as_result i t r.0, refl), r.1)
    results_derived (more t (more u us)) i rest j c s =
        let close = closing ∷ rest in
        let r = type_derived t (suc i) (comma ∷ blank ∷ type_lexemes name u (behind_lexemes name us close)) j (closed_by token.Comma (codes ",") (codes ",") _ j refl) s.1 in
        let q = type_derived u (suc (last (type_tree (suc i) t))) (behind_lexemes name us close) j (behind_closed us rest j) r.1.1 in
        let g = behind_derived us false (last (type_tree (suc (last (type_tree (suc i) t))) u)) rest j q.1 in
        ((refl, (refl, (suc i, (s.0, refl), sym (first_of (suc i) t), r.0, (suc (last (type_tree (suc i) t)), (r.1.0, refl), sym (first_of (suc (last (type_tree (suc i) t))) u), q.0, g.0)), refl, refl), refl), g.1)

    fields_derived : (us : TypeRow) (ns : List (List ℕ)) (i : ℕ) (rest : List Lexeme) (j : ℕ) → IsAt ts i token.Struct → IsAt ts (suc i) token.LeftBrace
        → Words ts (suc (suc i)) (words (field_lexemes name ns us (right_brace ∷ rest))) j
        → Spells ts (Many (token.Struct ∷ token.LeftBrace ∷ []) fields) i (field_trees (suc (suc i)) ns us) (suc (field_end (suc (suc i)) ns us)) × Words ts (suc (field_end (suc (suc i)) ns us)) (words rest) j
    fields_derived none [] i rest j h k s = ((suc (suc i), (h, (k, refl)), (suc (suc i), refl, s.0, refl)), s.1)
    fields_derived none (n ∷ ns) i rest j h k s = ((suc (suc i), (h, (k, refl)), (suc (suc i), refl, s.0, refl)), s.1)
    fields_derived (more t us) [] i rest j h k s = ((suc (suc i), (h, (k, refl)), (suc (suc i), refl, s.0, refl)), s.1)
    fields_derived (more t us) (n ∷ ns) i rest j h k s =
        let r = type_derived t (suc (suc (suc i))) (later_lexemes name ns us (right_brace ∷ rest)) j (later_closed ns us rest j) s.1 in
        let g = later_derived us ns (last (type_tree (suc (suc (suc i))) t)) rest j r.1 in
        ((suc (suc i), (h, (k, refl)), refl, field_stands (suc (suc i)) t s.0 r.0, g.0), g.1)

    later_derived : (us : TypeRow) (ns : List (List ℕ)) (i : ℕ) (rest : List Lexeme) (j : ℕ) → Words ts i (words (later_lexemes name ns us (right_brace ∷ rest))) j
        → Goes ts fields i (later_trees i ns us) (suc (later_end i ns us)) × Words ts (suc (later_end i ns us)) (words rest) j
    later_derived none [] i rest j s = (inl (s.0, refl), s.1)
    later_derived none (n ∷ ns) i rest j s = (inl (s.0, refl), s.1)
    later_derived (more t us) [] i rest j s = (inl (s.0, refl), s.1)
    later_derived (more t us) (n ∷ ns) i rest j s =
        let r = type_derived t (suc (suc i)) (later_lexemes name ns us (right_brace ∷ rest)) j (later_closed ns us rest j) s.1.1 in
        let g = later_derived us ns (last (type_tree (suc (suc i)) t)) rest j r.1 in
        ((suc i, (s.0, refl), refl, field_stands (suc i) t s.1.0 r.0, g.0), g.1)
