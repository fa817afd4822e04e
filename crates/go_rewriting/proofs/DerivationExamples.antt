-- The worked examples.
use Rattle.std.proofs.Common.{◌≡◌, ℕ, suc, ◌+◌, true, false, List, [], ◌∷◌, Some, refl, sym, ap, subst, arith}
use Rattle.std.specs.Prelude.{slice_get, ◌++◌}
use Rattle.go_tokens.specs.declared.token.TokenKind.{TokenKind}
use Rattle.go_tokens.specs.declared.token.TokenKind.TheVariants as token
use Rattle.go_grammar.specs.declared.kind.Kind.TheVariants as kind
use Rattle.go_grammar.specs.declared.kind.Arithmetic.TheVariants as arithmetic
use Rattle.go_grammar.specs.declared.kind.Operator.TheVariants as operator
use Rattle.go_grammar.specs.declared.kind.Level.TheVariants as level
use Rattle.go_grammar.specs.declared.kind.Place.TheVariants as place
use Rattle.go_grammar.specs.declared.kind.Category.{Category}
use Rattle.go_grammar.specs.declared.kind.Category.TheVariants as category
use Rattle.go_grammar.specs.Rules.{Items, Lines}
use Rattle.go_grammar.specs.Trees.{Tree, node, none, more, skip}
use Rattle.go_grammar.specs.Grammar.{IsAt, Derives, IsFile}
use Rattle.go_grammar.specs.Words.{is_word}
use Rattle.go_grammar.specs.Categories.{place_of}
use Rattle.go_grammar.specs.Reader.{read}
use Rattle.go_grammar.proofs.Public.{read_stands}
use Rattle.go_rewriting.specs.Places.{put, become, Fits, Ascending, Change, changed, moved_by, ranges}
use Rattle.go_rewriting.specs.Replacing.{Edge, takes_level, Run}
use Rattle.go_rewriting.specs.Sites.{Site, whole, items, patch_of, Sits}
use Rattle.go_rewriting.proofs.Operands.{operand_stands}
use Rattle.go_rewriting.proofs.Words.{run_fits}
use Rattle.go_rewriting.proofs.Texts.{sites_changed, file_sites_changed, with_one_more}
use Rattle.go_rewriting.specs.DerivationExamples.{DerivationExamples, name, call_words, call, new_sum_tokens, new_sum, expression, signature, count_up, count_down, called, result_tokens, result}

abbrev change : ℕ → ℕ → Change
change i j = record { from = i; upto = j; words = call_words }

-- 1 + a
abbrev sum_tokens : List TokenKind
sum_tokens = token.Integer ∷ token.Plus ∷ token.Identifier ∷ []

abbrev sum : Tree
sum = node (kind.Binary (operator.Compute arithmetic.Add)) 0 3 (more (node kind.Integer 0 1 none) (more (name 2) none))

abbrev sum_changes : List Change
sum_changes = change 0 1 ∷ change 2 3 ∷ []

abbrev sum_sites : List Site
sum_sites = record { path = 0 ∷ []; change = whole (call 0) } ∷ record { path = 1 ∷ []; change = whole (call 4) } ∷ []

-- an edge where the new text begins with a name and no parenthesis stands in front of the old one
name_edge : (ts us : List TokenKind) (i j : ℕ) → slice_get us j ≡ Some token.Identifier → ((n : ℕ) → suc n ≡ i → IsAt ts n token.RightParenthesis → ⊥) → Edge ts us i j
name_edge ts us i j e clear = record {
  brace = λ h. let a : is_word (slice_get us j) token.LeftBrace ≡ false = ap (λ w. is_word w token.LeftBrace) e in cc;
  result = λ n next closed h. absurd (clear n next closed);
}

-- what stands in front of a place
front_is : (ts : List TokenKind) (i n : ℕ) (w : TokenKind) → suc n ≡ suc i → slice_get ts i ≡ Some w → IsAt ts n token.RightParenthesis → w ≡ token.RightParenthesis
front_is ts i n w e at closed =
    let same : n ≡ i = omega (arith, e) in
    let here : slice_get ts i ≡ Some token.RightParenthesis = subst (λ k. IsAt ts k token.RightParenthesis) same closed in
    cc

operand : (i : ℕ) (c : Category) → place_of c ≡ place.Free → takes_level level.Primary c ≡ true → read 20 new_sum_tokens 20 (category.Expression level.Primary place.Free) i ≡ Some (call i) → Derives new_sum_tokens c (call i)
operand i c free takes e = operand_stands new_sum_tokens level.Primary c (call i) (subst (λ p. Derives new_sum_tokens (category.Expression level.Primary p) (call i)) (sym free) (read_stands new_sum_tokens 20 20 (category.Expression level.Primary place.Free) i (call i) e).0) takes

-- both operands at once
both_operands : Derives new_sum_tokens expression new_sum
both_operands =
    let left : Fits sum_tokens new_sum_tokens (moved_by sum_changes) (category.Expression level.Sum place.Free) (node kind.Integer 0 1 none) (put (call 0)) = (operand 0 (category.Expression level.Sum place.Free) refl refl refl, refl, refl, name_edge sum_tokens new_sum_tokens 0 0 refl (λ n next closed. absurd (omega (arith, next)))) in
    let right : Fits sum_tokens new_sum_tokens (moved_by sum_changes) (category.Expression level.Product place.Free) (name 2) (put (call 4)) = (operand 4 (category.Expression level.Product place.Free) refl refl refl, refl, refl, name_edge sum_tokens new_sum_tokens 2 4 refl (λ n next closed. let w = front_is sum_tokens 1 n token.Plus next refl closed in cc)) in
    let h : Derives sum_tokens expression sum = (read_stands sum_tokens 20 20 expression 0 sum refl).0 in
    sites_changed sum_tokens sum_changes expression sum sum_sites h refl (omega arith, omega arith, (omega arith, omega arith, omega arith)) (
      record { old = node kind.Integer 0 1 none; category = category.Expression level.Sum place.Free; stood = refl; asked = refl; fits = left },
      (record { old = name 2; category = category.Expression level.Product place.Free; stood = refl; asked = refl; fits = right }, tt),
    ) refl

-- package p; func f() { if x { }; x--; return }; func g() { for { x++; x-- } };
abbrev file_tokens : List TokenKind
file_tokens = token.Package ∷ token.Identifier ∷ token.Semicolon
    ∷ token.Func ∷ token.Identifier ∷ token.LeftParenthesis ∷ token.RightParenthesis ∷ token.LeftBrace
    ∷ token.If ∷ token.Identifier ∷ token.LeftBrace ∷ token.RightBrace ∷ token.Semicolon ∷ token.Identifier ∷ token.Decrement ∷ token.Semicolon
    ∷ token.Return ∷ token.RightBrace ∷ token.Semicolon
    ∷ token.Func ∷ token.Identifier ∷ token.LeftParenthesis ∷ token.RightParenthesis ∷ token.LeftBrace
    ∷ token.For ∷ token.LeftBrace ∷ token.Identifier ∷ token.Increment ∷ token.Semicolon ∷ token.Identifier ∷ token.Decrement ∷ token.RightBrace
    ∷ token.RightBrace ∷ token.Semicolon ∷ []

-- func h() { x++; x-- };
abbrev helper_tokens : List TokenKind
helper_tokens = token.Func ∷ token.Identifier ∷ token.LeftParenthesis ∷ token.RightParenthesis ∷ token.LeftBrace
    ∷ token.Identifier ∷ token.Increment ∷ token.Semicolon ∷ token.Identifier ∷ token.Decrement ∷ token.RightBrace ∷ token.Semicolon ∷ []

abbrev helper : Tree
helper = node kind.FunctionDeclaration 0 11 (more (signature 2) (more (node kind.Block 4 11 (more (count_up 5) (more (count_down 8) none))) none))

abbrev first_body : Tree
first_body = node kind.Block 7 18
    (more (node kind.If 8 12 (more (name 9) (more (node kind.Block 10 12 none) (skip none))))
    (more (count_down 13)
    (more (node kind.Return 16 17 (skip none)) none)))

abbrev first_function : Tree
first_function = node kind.FunctionDeclaration 3 18 (more (signature 5) (more first_body none))

abbrev loop_body : Tree
loop_body = node kind.Block 25 32 (more (count_up 26) (more (count_down 29) none))

abbrev second_function : Tree
second_function = node kind.FunctionDeclaration 19 33 (more (signature 21) (more (node kind.Block 23 33 (more (node kind.For 24 32 (skip (more loop_body none))) none)) none))

abbrev file : Tree
file = node kind.File 0 34 (skip (more first_function (more second_function none)))

-- the first two statements of f, the third one, and both of the loop in g
abbrev calls : List Change
calls = change 8 15 ∷ change 16 17 ∷ change 26 31 ∷ []

abbrev sites : List Site
sites =
    record { path = 1 ∷ 1 ∷ []; change = items 0 1 (more (called 8) none) }
    ∷ record { path = 1 ∷ 1 ∷ []; change = items 2 0 (more (called 12) none) }
    ∷ record { path = 2 ∷ 1 ∷ 0 ∷ 1 ∷ []; change = items 0 1 (more (called 24) none) }
    ∷ []

abbrev new_tokens : List TokenKind
new_tokens = changed calls file_tokens

file_before : IsFile file_tokens file
file_before = let r = read_stands file_tokens 40 101 category.File 0 file refl in record { derives = r.0; begins = refl; ends = refl; shallow = r.2 }

ascending : Ascending 0 (ranges calls) 34
ascending = (omega arith, omega arith, (omega arith, omega arith, (omega arith, omega arith, omega arith)))

-- over the new tokens
first_sits : Sits file_tokens new_tokens (moved_by calls) category.File file (record { path = 1 ∷ 1 ∷ []; change = items 0 1 (more (called 8) none) })
first_sits = record {
  old = first_body;
  category = category.Block;
  stood = refl;
  asked = refl;
  fits = (refl, (refl, (read_stands new_tokens 20 20 category.Statement 8 (called 8) refl).0, refl), name_edge file_tokens new_tokens 8 8 refl (λ n next closed. let w = front_is file_tokens 7 n token.LeftBrace next refl closed in cc), tt);
}

second_sits : Sits file_tokens new_tokens (moved_by calls) category.File file (record { path = 1 ∷ 1 ∷ []; change = items 2 0 (more (called 12) none) })
second_sits = record {
  old = first_body;
  category = category.Block;
  stood = refl;
  asked = refl;
  fits = (tt, (tt, (refl, (refl, (read_stands new_tokens 20 20 category.Statement 12 (called 12) refl).0, refl), name_edge file_tokens new_tokens 16 12 refl (λ n next closed. let w = front_is file_tokens 15 n token.Semicolon next refl closed in cc), tt)));
}

-- by its own words, with the brace behind them
third_sits : Sits file_tokens new_tokens (moved_by calls) category.File file (record { path = 2 ∷ 1 ∷ 0 ∷ 1 ∷ []; change = items 0 1 (more (called 24) none) })
third_sits =
    let lines : Items = Lines true category.Statement token.Semicolon token.RightBrace in
    let new : Run (call_words ++ token.RightBrace ∷ []) lines (more (called 0) none) 0 3 = (refl, (read_stands (call_words ++ token.RightBrace ∷ []) 20 20 category.Statement 0 (called 0) refl).0, refl) in
    let edge : Edge file_tokens call_words 26 0 = name_edge file_tokens call_words 26 0 refl (λ n next closed. let w = front_is file_tokens 25 n token.LeftBrace next refl closed in cc) in
    record {
      old = loop_body;
      category = category.Block;
      stood = refl;
      asked = refl;
      fits = run_fits file_tokens calls 2 (change 26 31) ascending refl edge (omega arith) (token.RightBrace ∷ []) refl category.Block kind.Block 25 32 (more (count_up 26) (more (count_down 29) none)) 0 1 (more (called 0) none) lines refl refl refl new;
    }

-- two runs in one list and a run in another, and a function at the end
three_runs : IsFile result_tokens result
three_runs =
    let changed_file : IsFile new_tokens (become (moved_by calls) file (patch_of sites)) = file_sites_changed file_tokens calls file sites file_before refl ascending (first_sits, (second_sits, (third_sits, tt))) refl (omega arith) in
    with_one_more new_tokens helper_tokens (become (moved_by calls) file (patch_of sites)) helper changed_file (read_stands helper_tokens 40 100 category.Declaration 0 helper refl).0 refl refl refl (omega arith)

pub all : DerivationExamples
all = record { both_operands = both_operands; three_runs = three_runs }
