-- What the tables of the reader have to say, so that it finds every tree: computed over all categories, kinds and tokens.
use Rattle.std.proofs.Common.{◌≡◌, ℕ, zero, suc, Bool, true, false, List, [], ◌∷◌, Option, Some, None, refl, ap}
use Rattle.std.specs.Prelude.{slice_get, ◌&&◌, ◌||◌, nat_le, if◌then◌else◌}
use Rattle.go_tokens.specs.declared.token.TokenKind.{TokenKind}
use Rattle.go_tokens.specs.declared.token.TokenKind.TheVariants as token
use Rattle.go_grammar.specs.declared.kind.Kind.{Kind}
use Rattle.go_grammar.specs.declared.kind.Kind.TheVariants as kind
use Rattle.go_grammar.specs.declared.kind.Operator.{Operator}
use Rattle.go_grammar.specs.declared.kind.Sort.TheVariants as sort
use Rattle.go_grammar.specs.declared.kind.Level.{Level}
use Rattle.go_grammar.specs.declared.kind.Level.TheVariants as level
use Rattle.go_grammar.specs.declared.kind.Place.{Place}
use Rattle.go_grammar.specs.declared.kind.Place.TheVariants as place
use Rattle.go_grammar.specs.declared.kind.Category.{Category}
use Rattle.go_grammar.specs.declared.kind.Category.TheVariants as category
use Rattle.go_grammar.specs.Operators.{rank, operator_level}
use Rattle.go_grammar.specs.Categories.{within, place_of}
use Rattle.go_grammar.specs.Rules.{Items, Lines, Open, Each, Again, Rule, End, Then, Maybe, Unless, Many, item}
use Rattle.go_grammar.specs.Grammar.{rule, ends, result_words}
use Rattle.go_grammar.specs.Reader.{opens_before, begins, continues, operator_of, after_first}
use Rattle.go_grammar.specs.Words.{is_word, is_among}
use Rattle.go_grammar.proofs.Rows.{all, every, kinds, categories, same_kind, same_category}

abbrev pub implies : Bool → Bool → Bool
implies a b = if a then b else true

abbrev pub not : Bool → Bool
not b = if b then false else true

abbrev pub is_end : Option TokenKind → Bool
is_end None = true
is_end (Some w) = false

abbrev pub is_kind : Option Kind → Kind → Bool
is_kind None k = false
is_kind (Some l) k = same_kind l k

abbrev pub is_none : Option Kind → Bool
is_none None = true
is_none (Some k) = false

-- a token that ends a whole expression
abbrev pub ends_expression : Place → Option TokenKind → Bool
ends_expression place.Header (Some token.LeftBrace) = true
ends_expression p w = is_end w || is_among w (token.RightParenthesis ∷ token.RightBracket ∷ token.RightBrace ∷ token.Comma ∷ token.Semicolon ∷ token.Colon ∷ token.Assign ∷ token.Define ∷ token.Increment ∷ token.Decrement ∷ token.PlusAssign ∷ token.MinusAssign ∷ token.StarAssign ∷ token.SlashAssign ∷ token.PercentAssign ∷ token.AmpersandAssign ∷ token.BarAssign ∷ token.CaretAssign ∷ token.ShiftLeftAssign ∷ token.ShiftRightAssign ∷ token.AndNotAssign ∷ [])

-- an operator that binds less tightly than n
abbrev pub looser : ℕ → Option Operator → Bool
looser n None = false
looser n (Some o) = nat_le (suc (rank (operator_level o))) n

abbrev pub is_looser : ℕ → Option TokenKind → Bool
is_looser n None = false
is_looser n (Some w) = looser n (operator_of w)

-- The end, or a closing brace. Neither goes on with any text; so each category may stand before them, even where the grammar has
-- no such place, and a range of tokens can be read alone.
abbrev pub is_outside : Option TokenKind → Bool
is_outside w = is_end w || is_word w token.RightBrace

-- The tokens that may stand behind a text of the category, where a part of the category is asked for.
abbrev pub follows : Category → Option TokenKind → Bool
follows category.File w = is_outside w
follows category.Imports w = is_outside w || begins category.Declaration w
follows category.Import w = is_outside w || is_word w token.Semicolon
follows category.ImportBody w = is_outside w || is_word w token.Semicolon
follows category.ImportPath w = is_outside w || is_among w (token.Semicolon ∷ token.RightParenthesis ∷ [])
follows category.Declaration w = is_outside w || is_word w token.Semicolon
follows (category.DeclarationBody s) w = is_outside w || is_among w (token.Semicolon ∷ token.RightBrace ∷ [])
follows (category.Specification s) w = is_outside w || is_among w (token.Semicolon ∷ token.RightParenthesis ∷ [])
follows category.NameList w = is_outside w || begins category.Type w || is_among w (token.Assign ∷ token.Semicolon ∷ token.RightParenthesis ∷ token.RightBrace ∷ [])
follows category.DeclaredName w = true
follows category.ConstantRest w = is_outside w || is_among w (token.Semicolon ∷ token.RightParenthesis ∷ token.RightBrace ∷ [])
follows category.VariableRest w = is_outside w || is_among w (token.Semicolon ∷ token.RightParenthesis ∷ token.RightBrace ∷ [])
follows category.Entry w = is_outside w || is_among w (token.Comma ∷ token.RightParenthesis ∷ [])
follows category.Fields w = is_outside w || is_among w (token.Semicolon ∷ token.RightBrace ∷ [])
follows (category.Expression l p) w = ends_expression p w || is_looser (rank l) w
follows category.Bracket w = is_outside w || is_word w token.RightBracket
follows category.Element w = is_outside w || is_among w (token.Comma ∷ token.RightBrace ∷ [])
follows category.Value w = is_outside w || is_among w (token.Comma ∷ token.RightBrace ∷ [])
follows (category.ExpressionList place.Free) w = is_outside w || is_among w (token.Semicolon ∷ token.RightParenthesis ∷ token.RightBrace ∷ token.Colon ∷ [])
follows (category.ExpressionList place.Header) w = is_outside w || is_among w (token.Semicolon ∷ token.LeftBrace ∷ [])
follows (category.LeftList p) w = is_outside w || is_among w (token.Assign ∷ token.Define ∷ [])
follows category.Statement w = is_outside w || is_among w (token.Semicolon ∷ token.RightBrace ∷ [])
follows category.Simple w = is_outside w || is_word w token.Semicolon
follows category.Post w = is_outside w || is_word w token.LeftBrace
follows category.Else w = is_outside w || is_among w (token.Semicolon ∷ token.RightBrace ∷ [])
follows category.Branch w = is_outside w || is_among w (token.Semicolon ∷ token.RightBrace ∷ [])
follows category.IfHeader w = is_outside w || is_word w token.LeftBrace
follows category.SwitchHeader w = is_outside w || is_word w token.LeftBrace
follows category.ForHeader w = is_outside w || is_word w token.LeftBrace
follows category.Clause w = is_outside w || is_among w (token.Case ∷ token.Default ∷ token.RightBrace ∷ [])
follows c w = true

-- The tokens that may stand behind a text of the category, where it is the first part of another.
abbrev pub trails : Category → Option TokenKind → Bool
trails (category.Expression level.Primary p) w = ends_expression p w || is_looser 8 w || is_among w (token.Period ∷ token.LeftBracket ∷ token.LeftParenthesis ∷ [])
trails (category.Expression l p) w = ends_expression p w || is_looser (suc (rank l)) w
trails (category.LiteralType p) w = is_word w token.LeftBrace
trails (category.LeftList p) w = is_among w (token.Assign ∷ token.Define ∷ [])
trails category.Simple w = is_word w token.Semicolon
trails c w = follows c w

-- the tokens that may stand behind a text of category c on the way to the category g
abbrev pub passes : Category → Category → Option TokenKind → Bool
passes g c w = trails c w || (same_category g c && follows c w)

-- a text of category c may stand first in a text of the category g
-- texts of the category may begin with any expression of the place
abbrev pub holds_expressions : Category → Place → Bool
holds_expressions (category.ExpressionList p) q = same_category (category.LiteralType p) (category.LiteralType q)
holds_expressions (category.LeftList p) q = same_category (category.LiteralType p) (category.LiteralType q)
holds_expressions (category.Targets p) q = same_category (category.LiteralType p) (category.LiteralType q)
holds_expressions (category.NewNames p) q = same_category (category.LiteralType p) (category.LiteralType q)
holds_expressions category.Bracket place.Free = true
holds_expressions category.Element place.Free = true
holds_expressions category.Value place.Free = true
holds_expressions category.Statement place.Free = true
holds_expressions category.Simple place.Header = true
holds_expressions category.Post place.Header = true
holds_expressions category.IfHeader place.Header = true
holds_expressions category.SwitchHeader place.Header = true
holds_expressions category.ForHeader place.Header = true
holds_expressions g q = false

abbrev pub spine : Category → Category → Bool
spine category.Imports category.Import = true
spine (category.DeclarationBody sort.Type) category.NameList = false
spine (category.DeclarationBody sort.Type) category.DeclaredName = false
spine (category.Specification sort.Type) category.NameList = false
spine (category.Specification sort.Type) category.DeclaredName = false
spine (category.DeclarationBody s) category.NameList = true
spine (category.DeclarationBody s) category.DeclaredName = true
spine (category.Specification s) category.NameList = true
spine (category.Specification s) category.DeclaredName = true
spine category.NameList category.DeclaredName = true
spine category.ConstantRest category.Type = true
spine category.VariableRest category.Type = true
spine category.Signature category.Parameters = true
spine category.Entry category.Name = true
spine category.Fields category.NameList = true
spine category.Fields category.DeclaredName = true
spine category.Element category.Name = true
spine (category.Expression l p) (category.Expression n q) = same_category (category.LiteralType p) (category.LiteralType q) && nat_le (rank l) (rank n)
spine (category.Targets p) (category.LeftList q) = same_category (category.LiteralType p) (category.LiteralType q)
spine (category.NewNames p) (category.LeftList q) = same_category (category.LiteralType p) (category.LiteralType q)
spine category.Statement (category.LeftList place.Free) = true
spine category.Statement (category.Targets place.Free) = true
spine category.Statement (category.NewNames place.Free) = true
spine category.Simple (category.LeftList place.Header) = true
spine category.Simple (category.Targets place.Header) = true
spine category.Simple (category.NewNames place.Header) = true
spine category.Post (category.LeftList place.Header) = true
spine category.Post (category.Targets place.Header) = true
spine category.Post (category.NewNames place.Header) = true
spine category.IfHeader (category.LeftList place.Header) = true
spine category.IfHeader (category.Targets place.Header) = true
spine category.IfHeader (category.NewNames place.Header) = true
spine category.IfHeader category.Simple = true
spine category.SwitchHeader (category.LeftList place.Header) = true
spine category.SwitchHeader (category.Targets place.Header) = true
spine category.SwitchHeader (category.NewNames place.Header) = true
spine category.SwitchHeader category.Simple = true
spine category.ForHeader (category.LeftList place.Header) = true
spine category.ForHeader (category.Targets place.Header) = true
spine category.ForHeader (category.NewNames place.Header) = true
spine category.ForHeader category.Simple = true
spine (category.Expression l p) (category.LiteralType q) = same_category (category.LiteralType p) (category.LiteralType q)
spine g (category.Expression n q) = holds_expressions g q
spine g (category.LiteralType q) = holds_expressions g q || same_category g (category.LiteralType q)
spine g c = same_category g c

-- the words ws, and then what f allows
abbrev pub heads : List TokenKind → (Option TokenKind → Bool) → Option TokenKind → Bool
heads [] f w = f w
heads (x ∷ ws) f w = is_word w x

-- what may stand where items may begin, before what f allows
abbrev pub item_starts : Items → (Option TokenKind → Bool) → Option TokenKind → Bool
item_starts (Lines b c s e) f w = begins c w || (is_word w s || is_word w e)
item_starts (Open c s) f w = begins c w || (is_word w s || f w)
item_starts (Each c us vs) f w = begins c w || heads vs f w
item_starts (Again c s) f w = is_word w s || f w

-- what may stand behind an item
abbrev pub item_follows : Items → (Option TokenKind → Bool) → Option TokenKind → Bool
item_follows (Lines b c s e) f w = is_word w s || is_word w e
item_follows (Open c s) f w = is_word w s || is_word w token.RightBrace
item_follows (Each c us vs) f w = heads us (λ v. begins c v || heads vs f v) w
item_follows (Again c s) f w = is_word w s || f w

-- what the right side may begin with, before what f allows
abbrev pub starts : Rule → (Option TokenKind → Bool) → Option TokenKind → Bool
starts (End ws) f w = heads ws f w
starts (Then ws c r) f w = heads ws (begins c) w
starts (Maybe ws c r) f w = heads ws (λ v. begins c v || starts r f v) w
starts (Unless ws c us r) f w = heads ws (λ v. begins c v || starts r f v) w
starts (Many ws l) f w = heads ws (item_starts l f) w

-- before what f allows, the next token decides how the items go on
abbrev pub items_told : Items → (Option TokenKind → Bool) → Bool
items_told (Lines b c s e) f = (not (is_word (Some s) e) && not (is_word (Some e) s)) && (not (begins c (Some s)) && not (begins c (Some e)))
items_told (Open c s) f = (not (is_word (Some token.RightBrace) s) && not (begins c (Some s))) && every (λ w. implies (f w) (not (is_word w s) && not (begins c w)))
items_told (Each c us vs) f = every (λ w. implies (heads vs f w) (not (begins c w)))
items_told (Again c s) f = every (λ w. implies (f w) (not (is_word w s)))

-- before what f allows, the next token decides how the right side goes on, and ends each of its parts
abbrev pub told : Rule → (Option TokenKind → Bool) → Bool
told (End ws) f = true
told (Then ws c r) f = every (λ w. implies (starts r f w) (follows c w)) && told r f
told (Maybe ws c r) f = every (λ w. implies (starts r f w) (follows c w && not (begins c w))) && told r f
told (Unless ws c us r) f = every (λ w. implies (starts r f w) (follows c w) && implies (begins c w) (is_among w us)) && told r f
told (Many ws l) f = every (λ w. implies (item_follows l f w) (follows (item l) w)) && items_told l f

-- the category of the first part, where the right side begins with one
abbrev pub first_part : Rule → Option Category
first_part (Then [] c r) = Some c
first_part r = None

abbrev pub first_word : Rule → Option TokenKind
first_word (End (x ∷ ws)) = Some x
first_word (Then (x ∷ ws) c r) = Some x
first_word (Maybe (x ∷ ws) c r) = Some x
first_word (Unless (x ∷ ws) c us r) = Some x
first_word (Many (x ∷ ws) l) = Some x
first_word r = None

-- a kind with a text of category c, on the way to g, that begins with a part
abbrev pub part_checked : Category → Category → Kind → Rule → Category → Bool
part_checked g c k r d =
    (spine g d && told r (passes g c)) &&
    every (λ w. implies (starts r (passes g c) w) (passes g d w && all (λ l. implies (within d l && ends d l w) (is_kind (continues g l w) k)) kinds))

-- the same for a kind whose text begins with a word
abbrev pub word_checked : Category → Category → Kind → Rule → Option TokenKind → Bool
word_checked g c k r None = false
word_checked g c k r (Some w) = is_kind (opens_before g (Some w)) k && told r (passes g c)

abbrev pub kind_checked : Category → Category → Kind → Rule → Option Category → Bool
kind_checked g c k r None = word_checked g c k r (first_word r)
kind_checked g c k r (Some d) = part_checked g c k (after_first r) d

-- whether a place is the other
abbrev pub same_place : Category → Category → Bool
same_place g c = same_category (category.LiteralType (place_of g)) (category.LiteralType (place_of c))

abbrev pub spine_checked : Category → Category → Bool
spine_checked g c = same_place g c && all (λ k. implies (within c k) (kind_checked g c k (rule (place_of c) k) (first_part (rule (place_of c) k)))) kinds

-- a finished node of the category becomes nothing else before what may follow it
abbrev pub finish_checked : Category → Bool
finish_checked c = all (λ k. implies (within c k) (every (λ w. implies (follows c w && ends c k w) (is_none (continues c k w))))) kinds

-- what a text begins with is known of its category
abbrev pub begin_checked : Category → Kind → Rule → Option Category → Bool
begin_checked c k r None = begins c (first_word r)
begin_checked c k r (Some d) = every (λ w. implies (begins d w) (begins c w))

abbrev pub begins_checked : Category → Bool
begins_checked c = all (λ k. implies (within c k) (begin_checked c k (rule (place_of c) k) (first_part (rule (place_of c) k)))) kinds

abbrev pub first_kept : Category → Option Category → Bool
first_kept g None = true
first_kept g (Some d) = same_place g d

abbrev pub place_kept : Category → Option Kind → Bool
place_kept g None = true
place_kept g (Some k) = first_kept g (first_part (rule (place_of g) k))

-- what a node becomes the first part of belongs to the same place
abbrev pub places_checked : Category → Bool
places_checked g = all (λ k. every (λ w. place_kept g (continues g k w))) kinds

-- each category may stand before the end and before a closing brace
abbrev pub outside_checked : Category → Bool
outside_checked g = follows g None && follows g (Some token.RightBrace)

abbrev pub first_checked : Category → Bool
first_checked g = (spine g g && begins_checked g) && (finish_checked g && (outside_checked g && places_checked g))

abbrev pub category_checked : Category → Bool
category_checked g = first_checked g && all (λ c. implies (spine g c) (spine_checked g c)) categories
