-- The right side that a row of symbols says.
use Rattle.std.specs.Prelude.{List, [], ◌∷◌, Option, Some, None}
use Rattle.go_tokens.specs.declared.token.TokenKind.{TokenKind}
use Rattle.go_grammar.specs.declared.kind.Category.TheVariants as category
use Rattle.go_grammar.specs.declared.production.Symbol.{Symbol}
use Rattle.go_grammar.specs.declared.production.Symbol.TheVariants as symbol
use Rattle.go_grammar.specs.declared.production.Repetition.{Repetition}
use Rattle.go_grammar.specs.declared.production.Repetition.TheVariants as repetition
use Rattle.go_grammar.specs.Grammar.{result_words}
use Rattle.go_grammar.specs.Rules.{Items, Lines, Open, Each, Again, Rule, End, Then, Maybe, Unless, Many}

-- a word in front
abbrev pub prepend : TokenKind → Rule → Rule
prepend w (End ws) = End (w ∷ ws)
prepend w (Then ws c r) = Then (w ∷ ws) c r
prepend w (Maybe ws c r) = Maybe (w ∷ ws) c r
prepend w (Unless ws c us r) = Unless (w ∷ ws) c us r
prepend w (Many ws l) = Many (w ∷ ws) l

abbrev pub optional_word : Option TokenKind → List TokenKind
optional_word None = []
optional_word (Some w) = w ∷ []

abbrev pub repeated : Repetition → Items
repeated (repetition.Lines b c s e) = Lines b c s e
repeated (repetition.Open c s) = Open c s
repeated (repetition.Each c s e) = Each c (optional_word s) (optional_word e)
repeated (repetition.Again c s) = Again c s

abbrev pub right : List Symbol → Rule
right [] = End []
right (symbol.Word w ∷ xs) = prepend w (right xs)
right (symbol.Part c ∷ xs) = Then [] c (right xs)
right (symbol.Optional c ∷ xs) = Maybe [] c (right xs)
right (symbol.Result ∷ xs) = Unless [] category.Result result_words (right xs)
right (symbol.Items l ∷ xs) = Many [] (repeated l)
right (symbol.End ∷ xs) = End []
