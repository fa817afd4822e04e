-- Calls stand.
use Rattle.std.proofs.Common.{◌≡◌, inl, inr, ℕ, suc, Bool, true, false, List, [], ◌∷◌, ◌++◌, append-nil, append_assoc, length, map, codes, refl, sym, ap, ◌∙◌, subst, arith}
use Rattle.std.specs.Str.{chars}
use Rattle.go_tokens.specs.declared.token.TokenKind.{TokenKind}
use Rattle.go_tokens.specs.declared.token.TokenKind.TheVariants as token
use Rattle.go_tokens.specs.Lexing.{join}
use Rattle.go_grammar.specs.declared.kind.Kind.TheVariants as kind
use Rattle.go_grammar.specs.declared.kind.Level.TheVariants as level
use Rattle.go_grammar.specs.declared.kind.Place.TheVariants as place
use Rattle.go_grammar.specs.declared.kind.Category.TheVariants as category
use Rattle.go_grammar.specs.Rules.{Items, Lines, Again, Many, item}
use Rattle.go_grammar.specs.Trees.{Tree, node, Trees, first, last}
use Rattle.go_grammar.specs.Trees as trees
use Rattle.go_grammar.specs.Grammar.{IsAt, Words, Derives, Spells, Goes, Only, Gap, Between}
use Rattle.go_rewriting.specs.Replacing.{Run}
use Rattle.go_types.specs.Trees.{TypeTree, TypeRow, boolean, text, integer, array, slice, structure, function, declared, none, more}
use Rattle.go_print.specs.Texts.{marked, listed, type_text}
use Rattle.go_print_laws.specs.Lexemes.{Lexeme, mark, identifier, blank, pieces, words, AreNames, AreWords, begins_with_word, ends_line}
use Rattle.go_print_laws.specs.Types.{semicolon, opening, closing, type_lexemes, RowCanBeWritten}
use Rattle.go_print_laws.specs.Trees.{name_at, names_at, type_tree}
use Rattle.go_print_laws.specs.Standing.{StandsAsRun}
use Rattle.go_print_laws.specs.Calls.{Argument, variable, constant, Call, argument_text, declaring_text, assigning_text, call_text, argument_lexemes, further_lexemes, arguments_lexemes, behind_name, assigning_lexemes, declaring_lexemes, statement_lexemes, call_lexemes, argument_tree, further_trees, further_end, arguments_trees, arguments_end, call_tree, names_behind, names_end, statement_tree, declaration_at, statement_trees, call_trees, ArgumentCanBeWritten, ArgumentsCanBeWritten, CallCanBeWritten, AreStatements, of_block, of_clause, CallsStand}
use Rattle.go_print_laws.proofs.Seams.{apart_before, apart_behind, blank_free, open_free, left_parenthesis}
use Rattle.go_print_laws.proofs.Words.{marks}
use Rattle.go_print_laws.proofs.Lexed.{written, words_stand}
use Rattle.go_print_laws.proofs.Spelled.{AreOpen, none_open, blank_open, close_open, comma_open, semicolon_open, type_spelled}
use Rattle.go_print_laws.proofs.Texts.{type_written}
use Rattle.go_print_laws.proofs.Derived.{first_of, closed_by, type_derived}
use Rattle.go_print_laws.proofs.Standing.{at_front, type_ends}
use Rattle.go_print_laws.proofs.Literals.{any_derived, literal_first, literal_written, literal_ends, literal_spelled}

-- ---- trees

abbrev given : Items
given = Lines false (category.Expression level.Either place.Free) token.Comma token.RightParenthesis

abbrev named : Items
named = Again (category.Expression level.Either place.Free) token.Comma

argument_first : (i : ℕ) (a : Argument) → first (argument_tree i a) ≡ i
argument_first i (variable n) = refl
argument_first i (constant v) = literal_first i v

statement_first : (i : ℕ) (xs : List (List ℕ)) (gs : List Argument) → first (statement_tree i xs gs) ≡ i
statement_first i [] gs = refl
statement_first i (x ∷ xs) gs = refl

module _ (ts : List TokenKind) where
  argument_derived : (a : Argument) (i j : ℕ) (rest : List Lexeme) → Words ts i (words (argument_lexemes a rest)) j
      → Derives ts (category.Expression level.Either place.Free) (argument_tree i a) × Words ts (last (argument_tree i a)) (words rest) j
  argument_derived (variable n) i j rest s = ((refl, (s.0, refl), refl, refl), s.1)
  argument_derived (constant v) i j rest s = any_derived ts rest v i j s

  further_derived : (gs : List Argument) (i j : ℕ) (rest : List Lexeme) → Words ts i (words (further_lexemes gs (closing ∷ rest))) j
      → Goes ts given i (further_trees i gs) (suc (further_end i gs)) × Words ts (suc (further_end i gs)) (words rest) j
  further_derived [] i j rest s = (inl (s.0, refl), s.1)
  further_derived (a ∷ gs) i j rest s =
      let r = argument_derived a (suc i) j (further_lexemes gs (closing ∷ rest)) s.1 in
      let g = further_derived gs (last (argument_tree (suc i) a)) j rest r.1 in
      ((suc i, (s.0, refl), sym (argument_first (suc i) a), r.0, g.0), g.1)

  arguments_derived : (gs : List Argument) (i j : ℕ) (rest : List Lexeme) → IsAt ts i token.LeftParenthesis → Words ts (suc i) (words (arguments_lexemes gs (closing ∷ rest))) j
      → Spells ts (Many (token.LeftParenthesis ∷ []) given) i (arguments_trees (suc i) gs) (suc (arguments_end (suc i) gs)) × Words ts (suc (arguments_end (suc i) gs)) (words rest) j
  arguments_derived [] i j rest h s = ((suc i, (h, refl), (suc i, refl, s.0, refl)), s.1)
  arguments_derived (a ∷ gs) i j rest h s =
      let r = argument_derived a (suc i) j (further_lexemes gs (closing ∷ rest)) s in
      let g = further_derived gs (last (argument_tree (suc i) a)) j rest r.1 in
      ((suc i, (h, refl), sym (argument_first (suc i) a), r.0, g.0), g.1)

  call_derived : (f : List ℕ) (gs : List Argument) (i j : ℕ) (rest : List Lexeme) → Words ts i (words (identifier f ∷ opening ∷ arguments_lexemes gs (closing ∷ rest))) j
      → Derives ts (category.Expression level.Either place.Free) (call_tree i gs) × Words ts (last (call_tree i gs)) (words rest) j
  call_derived f gs i j rest s =
      let a = arguments_derived gs (suc i) j rest s.1.0 s.1.1 in
      ((refl, (refl, (refl, (s.0, refl), refl, refl), a.0), refl, refl), a.1)

  -- names behind another one
  names_go : (xs : List (List ℕ)) (i j : ℕ) (rest : List Lexeme) → Words ts i (words (behind_name xs rest)) j
      → Goes ts named i (names_behind i xs) (names_end i xs) × Words ts (names_end i xs) (words rest) j
  names_go [] i j rest s = (inr (i, refl, refl), s)
  names_go (x ∷ xs) i j rest s =
      let g = names_go xs (suc (suc i)) j rest s.1.1 in
      ((i, refl, (s.0, refl), (refl, (s.1.0, refl), refl, refl), g.0), g.1)

  pub names_spelled : (xs : List (List ℕ)) (i j : ℕ) (rest : List Lexeme) → Words ts i (words (behind_name xs rest)) j
      → Spells ts (Many [] named) i (names_behind i xs) (names_end i xs) × Words ts (names_end i xs) (words rest) j
  names_spelled [] i j rest s = ((i, refl, refl), s)
  names_spelled (x ∷ xs) i j rest s =
      let g = names_go xs (suc (suc i)) j rest s.1.1 in
      ((i, refl, (s.0, refl), (refl, (s.1.0, refl), refl, refl), g.0), g.1)

  statement_derived : (f : List ℕ) (xs : List (List ℕ)) (gs : List Argument) (i j : ℕ) (rest : List Lexeme)
      → Words ts i (words (assigning_lexemes xs (identifier f ∷ opening ∷ arguments_lexemes gs (closing ∷ rest)))) j
      → Derives ts category.Statement (statement_tree i xs gs) × Words ts (last (statement_tree i xs gs)) (words rest) j
  statement_derived f [] gs i j rest s =
      let c = call_derived f gs i j rest s in
      ((refl, (refl, c.0, refl), refl, refl), c.1)
  statement_derived f (x ∷ xs) gs i j rest s =
      let n = names_spelled xs (suc i) j (blank ∷ mark token.Assign (codes "=") ∷ blank ∷ identifier f ∷ opening ∷ arguments_lexemes gs (closing ∷ rest)) s.1 in
      let m = names_end (suc i) xs in
      let c = call_derived f gs (suc m) j rest n.1.1 in
      let targets : Derives ts (category.Targets place.Free) (node kind.Targets i (suc m) (trees.more (node kind.ExpressionList i m (trees.more (name_at i) (names_behind (suc i) xs))) trees.none)) =
      (refl, (refl, (refl, (refl, (refl, (s.0, refl), refl, refl), n.0), refl, refl), (n.1.0, refl)), refl, refl) in
      let e = last (call_tree (suc m) gs) in
      let values : Derives ts (category.ExpressionList place.Free) (node kind.ExpressionList (suc m) e (trees.more (call_tree (suc m) gs) trees.none)) =
      (refl, (refl, c.0, (e, refl, refl)), refl, refl) in
      ((refl, (refl, targets, (refl, values, refl)), refl, refl), c.1)

  -- a type behind a variable
  as_variable : (i : ℕ) (t : TypeTree) → Derives ts category.Type (type_tree i t) → Derives ts category.VariableRest (type_tree i t)
  as_variable i boolean d = d
  as_variable i text d = d
  as_variable i (integer k) d = d
  as_variable i (array n t) d = d
  as_variable i (slice t) d = d
  as_variable i (structure ns us) d = d
  as_variable i (function ps rs) d = d
  as_variable i (declared n) d = d

  -- what lists statements
  record Separated (l : Items) : Type 0 where
    statement : (p : Tree) → Derives ts category.Statement p → Derives ts (item l) p
    between : (i : ℕ) → IsAt ts i token.Semicolon → Between ts l i (suc i)
    gap : (i : ℕ) → Gap ts l i i

  pub no_word : (i : ℕ) → Only ts token.Semicolon i i
  no_word i = record { order = omega arith; each = λ k a b. absurd (omega arith) }

  separated : (l : Items) → AreStatements l → Separated l
  separated l of_block = record { statement = λ p d. d; between = λ i h. (h, refl); gap = no_word }
  separated l of_clause = record { statement = λ p d. d; between = λ i h. (h, refl); gap = no_word }

  run_before : (l : Items) (p : Tree) (qs : Trees) (i j : ℕ) → Separated l → Derives ts category.Statement p → first p ≡ i → IsAt ts (last p) token.Semicolon → Run ts l qs (suc (last p)) j → Run ts l (trees.more p qs) i j
  run_before l p trees.none i j h d f w r = absurd r
  run_before l p (trees.skip qs) i j h d f w r = absurd r
  run_before l p (trees.more q trees.none) i j h d f w r =
      (f, h.statement p d, suc (last p), h.between (last p) w, subst (λ n. Gap ts l (suc (last p)) n) (sym r.0) (h.gap (suc (last p))), (refl, r.1, r.2))
  run_before l p (trees.more q (trees.skip rs)) i j h d f w r = absurd r
  run_before l p (trees.more q (trees.more o rs)) i j h d f w r =
      (f, h.statement p d, suc (last p), h.between (last p) w, subst (λ n. Gap ts l (suc (last p)) n) (sym r.0) (h.gap (suc (last p))), (refl, r.1, r.2, r.3, r.4, r.5))

  module _ (name : ℕ → List ℕ) where
    declaration_derived : (y : List ℕ) (t : TypeTree) (i j : ℕ) (rest : List Lexeme) → Words ts i (words (mark token.Var (codes "var") ∷ blank ∷ identifier y ∷ blank ∷ type_lexemes name t (semicolon ∷ rest))) j
        → Derives ts category.Statement (declaration_at i (type_tree (suc (suc i)) t)) × Words ts (last (type_tree (suc (suc i)) t)) (words (semicolon ∷ rest)) j
    declaration_derived y t i j rest s =
        let r = type_derived name ts t (suc (suc i)) (semicolon ∷ rest) j (closed_by name ts token.Semicolon (codes ";") (codes ";") rest j refl) s.1.1 in
        let names : Derives ts category.NameList (names_at (suc i)) = (refl, (refl, (refl, (s.1.0, refl), refl, refl), (suc (suc i), refl, refl)), refl, refl) in
        ((refl, ((s.0, refl), (refl, (refl, names, (sym (first_of (suc (suc i)) t), as_variable (suc (suc i)) t r.0, refl)), refl, refl), refl), refl, refl), r.1)

    run_derived : (l : Items) → Separated l → (ys : List (List ℕ)) (us : TypeRow) (f : List ℕ) (xs : List (List ℕ)) (gs : List Argument) (i j : ℕ)
        → Words ts i (words (declaring_lexemes name ys us (assigning_lexemes xs (identifier f ∷ opening ∷ arguments_lexemes gs (closing ∷ []))))) j
        → Run ts l (statement_trees i ys us xs gs) i j
    run_derived l h [] us f xs gs i j s = let c = statement_derived f xs gs i j [] s in (statement_first i xs gs, h.statement _ c.0, c.1)
    run_derived l h (y ∷ ys) none f xs gs i j s = let c = statement_derived f xs gs i j [] s in (statement_first i xs gs, h.statement _ c.0, c.1)
    run_derived l h (y ∷ ys) (more t us) f xs gs i j s =
        let rest = declaring_lexemes name ys us (assigning_lexemes xs (identifier f ∷ opening ∷ arguments_lexemes gs (closing ∷ []))) in
        let d = declaration_derived y t i j (blank ∷ rest) s in
        run_before l (declaration_at i (type_tree (suc (suc i)) t)) (statement_trees (suc (last (type_tree (suc (suc i)) t))) ys us xs gs) i j h d.0 refl d.1.0
        (run_derived l h ys us f xs gs (suc (last (type_tree (suc (suc i)) t))) j d.1.1)

-- ---- words

argument_spelled : (a : Argument) (rest : List Lexeme) → ArgumentCanBeWritten a → AreOpen rest → AreWords rest → AreWords (argument_lexemes a rest)
argument_spelled (variable n) rest h o a = (h, o.by (chars n), a)
argument_spelled (constant v) rest h o a = literal_spelled v rest h o a

further_open : (gs : List Argument) (rest : List Lexeme) → AreOpen rest → AreOpen (further_lexemes gs rest)
further_open [] rest o = o
further_open (a ∷ gs) rest o = comma_open _

further_spelled : (gs : List Argument) (rest : List Lexeme) → ArgumentsCanBeWritten gs → AreOpen rest → AreWords rest → AreWords (further_lexemes gs rest)
further_spelled [] rest h o a = a
further_spelled (x ∷ gs) rest h o a = (marks.comma, apart_before (codes ",") 32 [] blank_free, argument_spelled x (further_lexemes gs rest) h.0 (further_open gs rest o) (further_spelled gs rest h.1 o a))

arguments_spelled : (gs : List Argument) (rest : List Lexeme) → ArgumentsCanBeWritten gs → AreOpen rest → AreWords rest → AreWords (arguments_lexemes gs rest)
arguments_spelled [] rest h o a = a
arguments_spelled (x ∷ gs) rest h o a = argument_spelled x (further_lexemes gs rest) h.0 (further_open gs rest o) (further_spelled gs rest h.1 o a)

pub names_open : (xs : List (List ℕ)) (rest : List Lexeme) → AreOpen rest → AreOpen (behind_name xs rest)
names_open [] rest o = o
names_open (x ∷ xs) rest o = comma_open _

pub names_are : (xs : List (List ℕ)) (rest : List Lexeme) → AreNames xs → AreOpen rest → AreWords rest → AreWords (behind_name xs rest)
names_are [] rest h o a = a
names_are (x ∷ xs) rest h o a = (marks.comma, apart_before (codes ",") 32 [] blank_free, (h.0, (names_open xs rest o).by (chars x), names_are xs rest h.1 o a))

assigning_spelled : (xs : List (List ℕ)) (rest : List Lexeme) → AreNames xs → AreWords rest → AreWords (assigning_lexemes xs rest)
assigning_spelled [] rest h a = a
assigning_spelled (x ∷ xs) rest h a =
    let equals = mark token.Assign (codes "=") ∷ blank ∷ rest in
    (h.0, (names_open xs (blank ∷ equals) (blank_open equals)).by (chars x), names_are xs (blank ∷ equals) h.1 (blank_open equals) (marks.equals, apart_before (codes "=") 32 [] blank_free, a))

declaring_spelled : (name : ℕ → List ℕ) (ys : List (List ℕ)) (us : TypeRow) (rest : List Lexeme) → AreNames ys → RowCanBeWritten name us → AreWords rest → AreWords (declaring_lexemes name ys us rest)
declaring_spelled name [] us rest h w a = a
declaring_spelled name (y ∷ ys) none rest h w a = a
declaring_spelled name (y ∷ ys) (more t us) rest h w a = (
  marks.variable,
  apart_before (codes "var") 32 [] blank_free,
  (
    h.0,
    apart_before (chars y) 32 [] blank_free,
    type_spelled name t (semicolon ∷ blank ∷ declaring_lexemes name ys us rest) w.0 (semicolon_open _) (marks.semicolon, apart_before (codes ";") 32 [] blank_free, declaring_spelled name ys us rest h.1 w.1 a),
  ),
)

call_spelled : (name : ℕ → List ℕ) (c : Call) → CallCanBeWritten name c → AreWords (call_lexemes name c [])
call_spelled name c w =
    let behind = arguments_lexemes c.arguments (closing ∷ []) in
    declaring_spelled name c.declared c.types _ w.declared w.types
    (assigning_spelled c.results (identifier c.function ∷ opening ∷ behind) w.results (
      w.function,
      apart_before (chars c.function) 40 [] open_free,
      (
        marks.left_parenthesis,
        apart_behind 40 left_parenthesis (join (pieces behind)),
        arguments_spelled c.arguments (closing ∷ []) w.arguments (close_open []) (marks.right_parenthesis, none_open.by (codes ")"), tt),
      ),
    ))

-- ---- the text

argument_written : (a : Argument) (rest : List Lexeme) → written (argument_lexemes a rest) ≡ argument_text a ++ written rest
argument_written (variable n) rest = refl
argument_written (constant v) rest = literal_written v rest

further_written : (gs : List Argument) (rest : List Lexeme) → written (further_lexemes gs rest) ≡ marked (codes ", ") (map argument_text gs) ++ written rest
further_written [] rest = refl
further_written (a ∷ gs) rest = ap (λ l. 44 ∷ 32 ∷ l)
    (argument_written a (further_lexemes gs rest) ∙ ap (λ l. argument_text a ++ l) (further_written gs rest) ∙ sym (append_assoc (argument_text a) (marked (codes ", ") (map argument_text gs)) (written rest)))

arguments_written : (gs : List Argument) (rest : List Lexeme) → written (arguments_lexemes gs rest) ≡ listed (map argument_text gs) ++ written rest
arguments_written [] rest = refl
arguments_written (a ∷ gs) rest =
    argument_written a (further_lexemes gs rest) ∙ ap (λ l. argument_text a ++ l) (further_written gs rest) ∙ sym (append_assoc (argument_text a) (marked (codes ", ") (map argument_text gs)) (written rest))

pub names_written : (xs : List (List ℕ)) (rest : List Lexeme) → written (behind_name xs rest) ≡ marked (codes ", ") xs ++ written rest
names_written [] rest = refl
names_written (x ∷ xs) rest = ap (λ l. 44 ∷ 32 ∷ l) (ap (λ l. x ++ l) (names_written xs rest) ∙ sym (append_assoc x (marked (codes ", ") xs) (written rest)))

assigning_regroup : (a b e : List ℕ) → a ++ (b ++ (32 ∷ 61 ∷ 32 ∷ e)) ≡ ((a ++ b) ++ (32 ∷ 61 ∷ 32 ∷ [])) ++ e
assigning_regroup a b e = simp append_assoc

declaring_regroup : (a b c e : List ℕ) → a ++ (32 ∷ (b ++ (59 ∷ 32 ∷ (c ++ e)))) ≡ ((((a ++ (32 ∷ [])) ++ b) ++ (59 ∷ 32 ∷ [])) ++ c) ++ e
declaring_regroup a b c e = simp append_assoc

call_regroup : (a b c d e : List ℕ) → a ++ (b ++ (c ++ (40 ∷ (d ++ (41 ∷ e))))) ≡ (((((a ++ b) ++ c) ++ (40 ∷ [])) ++ d) ++ (41 ∷ [])) ++ e
call_regroup a b c d e = simp append_assoc

assigning_written : (xs : List (List ℕ)) (rest : List Lexeme) → written (assigning_lexemes xs rest) ≡ assigning_text xs ++ written rest
assigning_written [] rest = refl
assigning_written (x ∷ xs) rest = ap (λ l. x ++ l) (names_written xs (blank ∷ mark token.Assign (codes "=") ∷ blank ∷ rest)) ∙ assigning_regroup x (marked (codes ", ") xs) (written rest)

declaring_written : (name : ℕ → List ℕ) (ys : List (List ℕ)) (us : TypeRow) (rest : List Lexeme) → written (declaring_lexemes name ys us rest) ≡ declaring_text name ys us ++ written rest
declaring_written name [] us rest = refl
declaring_written name (y ∷ ys) none rest = refl
declaring_written name (y ∷ ys) (more t us) rest = ap (λ l. codes "var " ++ l)
    (ap (λ l. y ++ (32 ∷ l)) (type_written name t (semicolon ∷ blank ∷ declaring_lexemes name ys us rest) ∙ ap (λ l. type_text name t ++ (59 ∷ 32 ∷ l)) (declaring_written name ys us rest))
    ∙ declaring_regroup y (type_text name t) (declaring_text name ys us) (written rest))

call_written : (name : ℕ → List ℕ) (c : Call) (rest : List Lexeme) → written (call_lexemes name c rest) ≡ call_text name c ++ written rest
call_written name c rest =
    declaring_written name c.declared c.types (statement_lexemes c rest)
    ∙ ap (λ l. declaring_text name c.declared c.types ++ l)
    (assigning_written c.results (identifier c.function ∷ opening ∷ arguments_lexemes c.arguments (closing ∷ rest))
    ∙ ap (λ l. assigning_text c.results ++ (c.function ++ (40 ∷ l))) (arguments_written c.arguments (closing ∷ rest)))
    ∙ call_regroup (declaring_text name c.declared c.types) (assigning_text c.results) c.function (listed (map argument_text c.arguments)) (written rest)

-- ---- the first word and the last one

argument_ends : (a : Argument) (b : Bool) (rest : List Lexeme) → ends_line b (argument_lexemes a rest) ≡ ends_line true rest
argument_ends (variable n) b rest = refl
argument_ends (constant v) b rest = literal_ends v b rest

further_ends : (gs : List Argument) (b : Bool) → ends_line b (further_lexemes gs (closing ∷ [])) ≡ true
further_ends [] b = refl
further_ends (a ∷ gs) b = argument_ends a false (further_lexemes gs (closing ∷ [])) ∙ further_ends gs true

arguments_end_line : (gs : List Argument) (b : Bool) → ends_line b (arguments_lexemes gs (closing ∷ [])) ≡ true
arguments_end_line [] b = refl
arguments_end_line (a ∷ gs) b = argument_ends a b (further_lexemes gs (closing ∷ [])) ∙ further_ends gs true

pub names_end_line : (xs : List (List ℕ)) (b : Bool) (rest : List Lexeme) → ends_line b (behind_name xs (blank ∷ rest)) ≡ ends_line false rest
names_end_line [] b rest = refl
names_end_line (x ∷ xs) b rest = names_end_line xs true rest

statement_ends : (xs : List (List ℕ)) (f : List ℕ) (gs : List Argument) (b : Bool) → ends_line b (assigning_lexemes xs (identifier f ∷ opening ∷ arguments_lexemes gs (closing ∷ []))) ≡ true
statement_ends [] f gs b = arguments_end_line gs false
statement_ends (x ∷ xs) f gs b = names_end_line xs true (mark token.Assign (codes "=") ∷ blank ∷ identifier f ∷ opening ∷ arguments_lexemes gs (closing ∷ [])) ∙ arguments_end_line gs false

declaring_ends : (name : ℕ → List ℕ) (ys : List (List ℕ)) (us : TypeRow) (b : Bool) (rest : List Lexeme) → ((c : Bool) → ends_line c rest ≡ true) → ends_line b (declaring_lexemes name ys us rest) ≡ true
declaring_ends name [] us b rest h = h b
declaring_ends name (y ∷ ys) none b rest h = h b
declaring_ends name (y ∷ ys) (more t us) b rest h = type_ends name t false (semicolon ∷ blank ∷ declaring_lexemes name ys us rest) ∙ declaring_ends name ys us false rest h

statement_begins : (xs : List (List ℕ)) (f : List ℕ) (rest : List Lexeme) → begins_with_word (assigning_lexemes xs (identifier f ∷ rest)) ≡ true
statement_begins [] f rest = refl
statement_begins (x ∷ xs) f rest = refl

call_begins : (name : ℕ → List ℕ) (ys : List (List ℕ)) (us : TypeRow) (rest : List Lexeme) → begins_with_word rest ≡ true → begins_with_word (declaring_lexemes name ys us rest) ≡ true
call_begins name [] us rest h = h
call_begins name (y ∷ ys) none rest h = h
call_begins name (y ∷ ys) (more t us) rest h = refl

pub calls_stand : CallsStand
calls_stand file items name c k w =
    let ls = call_lexemes name c [] in
    subst (λ x. StandsAsRun file x ls items (call_trees 0 c)) (call_written name c [] ∙ append-nil (call_text name c))
    (record {
      alone = words_stand file ls (call_spelled name c w) (call_begins name c.declared c.types _ (statement_begins c.results c.function _))
          (declaring_ends name c.declared c.types false _ (statement_ends c.results c.function c.arguments));
      run = λ next h. run_derived (words ls ++ next) name items (separated (words ls ++ next) items k) c.declared c.types c.function c.results c.arguments 0 (length (words ls)) (at_front (words ls) next);
    })
