-- What follows from what was found.
use Rattle.std.proofs.Common.{◌≡◌, ℕ, suc, ◌<◌, ◌≤◌, List, length, Option, Some, None, refl, sym, ap, ◌∙◌, subst, Bool, true, false, drop, [], ◌∷◌, arith}
use Rattle.std.specs.Prelude.{slice_get, if◌then◌else◌}
use Rattle.std.proofs.lemmas.List.{length-map}
use Rattle.std.proofs.lemmas.Option.{slice_get_within}
use Rattle.go_base.specs.Gives.{Unless as UnlessMemory}
use Rattle.go_tokens.specs.declared.token.TokenKind.{TokenKind}
use Rattle.go_tokens.specs.declared.token.Token.{Token}
use Rattle.go_tokens.specs.Tokens.{kinds, kind_of}
use Rattle.go_grammar.specs.declared.kind.Category.{Category}
use Rattle.go_grammar.specs.declared.kind.Category.TheVariants as category
use Rattle.go_grammar.specs.declared.production.Symbol.{Symbol}
use Rattle.go_grammar.specs.declared.production.Symbol.TheVariants as symbol
use Rattle.go_grammar.specs.Symbols.{prepend, right}
use Rattle.go_grammar.specs.Rules.{Rule, End, Then, Maybe, Unless, Many}
use Rattle.go_grammar.specs.Trees.{Tree, Trees, none, more, skip, first, last, depth, depths}
use Rattle.go_grammar.specs.Grammar.{IsAt, Derives, Spells, IsFile}
use Rattle.go_grammar.specs.Reader.{read, spell, words, after_first, Tends}
use Rattle.go_grammar.specs.Words.{is_word}
use Rattle.go_grammar.proofs.Public.{first_word, first_word_at, words_order, spells_order, spells_end, word_grows, derives_grows, lies_within, read_stands, spell_stands, words_stand, next_between, between_order, between_end, tends_one, file_found}
use Rattle.go_parse.specs.declared.error.Stop.{Stop}
use Rattle.go_parse.specs.declared.error.Stop.TheVariants as stop
use Rattle.go_grammar.specs.declared.items.Turn.{Turn}
use Rattle.go_grammar.specs.declared.items.Turn.TheVariants as turns
use Rattle.go_grammar.specs.declared.items.Next.TheVariants.{On}
use Rattle.go_grammar.specs.Rules.{Items, Lines, Open, Each, Again}
use Rattle.go_grammar.specs.declared.kind.Kind.{Kind}
use Rattle.go_grammar.specs.Reader.{turn, next, fits}
use Rattle.go_parse.specs.Turns.{stops, passes}
use Rattle.go_parse.specs.Engine.{stop_refusal, is_worded, is_solid, is_word_first}

pub lacks : (P : Type 0) (e : Stop) → P → UnlessMemory (stop_refusal e) (λ _. P)
lacks P stop.Memory h = tt
lacks P stop.Syntax h = h

pub lacks_map : (P Q : Type 0) (e : Stop) → (P → Q) → UnlessMemory (stop_refusal e) (λ _. P) → UnlessMemory (stop_refusal e) (λ _. Q)
lacks_map P Q stop.Memory f h = tt
lacks_map P Q stop.Syntax f h = f h

pub length-kinds : (xs : List Token) → length (kinds xs) ≡ length xs
length-kinds xs = length-map xs kind_of

-- a token's place is below the tokens' number
pub token_within : (xs : List Token) (i : ℕ) (w : TokenKind) → slice_get (kinds xs) i ≡ Some w → i < length xs
token_within xs i w h = subst (λ n. i < n) (length-kinds xs) (slice_get_within (kinds xs) i w h)

-- a tree that was found
pub record Stands (ts : List TokenKind) (m : ℕ) (c : Category) (i : ℕ) (p : Tree) : Type 0 where
  pub derives : Derives ts c p
  pub begins : first p ≡ i
  pub low : depth p ≤ m
  pub grows : i < last p
  pub ends : last p ≤ length ts

pub found_stands : (ts : List TokenKind) (m : ℕ) (c : Category) (i : ℕ) (p : Tree) → Tends (λ n. read n ts m c i) (Some p) → Stands ts m c i p
found_stands ts m c i p t =
    let h = read_stands ts t.after m c i p (t.by t.after (omega arith)) in
    let l = lies_within ts c p h.0 in
    record { derives = h.0; begins = h.1; low = h.2; grows = omega (arith, l.0, h.1); ends = l.1 }

first_of_worded : (r : Rule) → is_worded r ≡ true → (x : TokenKind) × (first_word r ≡ Some x)
first_of_worded (End []) h = cc
first_of_worded (End (x ∷ ws)) h = (x, refl)
first_of_worded (Then [] c r) h = cc
first_of_worded (Then (x ∷ ws) c r) h = (x, refl)
first_of_worded (Maybe [] c r) h = cc
first_of_worded (Maybe (x ∷ ws) c r) h = (x, refl)
first_of_worded (Unless [] c us r) h = cc
first_of_worded (Unless (x ∷ ws) c us r) h = (x, refl)
first_of_worded (Many [] l) h = cc
first_of_worded (Many (x ∷ ws) l) h = (x, refl)

pub worded_grows : (ts : List TokenKind) (ps : Trees) (r : Rule) (i j : ℕ) → is_worded r ≡ true → Spells ts r i ps j → i < j
worded_grows ts ps r i j w h = let f = first_of_worded r w in word_grows ts ps r i j f.0 f.1 h

pub solid_grows : (ts : List TokenKind) (ps : Trees) (r : Rule) (i j : ℕ) → is_solid r ≡ true → Spells ts r i ps j → i < j
solid_grows ts none (Then ws c r) i j s h = absurd h
solid_grows ts (more p ps) (Then ws c r) i j s h = omega (arith, words_order ts ws i (first p) h.0, derives_grows ts p c h.1, spells_order ts ps r (last p) j h.2)
solid_grows ts (skip ps) (Then ws c r) i j s h = absurd h
solid_grows ts ps (End ws) i j s h = worded_grows ts ps (End ws) i j s h
solid_grows ts ps (Maybe ws c r) i j s h = worded_grows ts ps (Maybe ws c r) i j s h
solid_grows ts ps (Unless ws c us r) i j s h = worded_grows ts ps (Unless ws c us r) i j s h
solid_grows ts ps (Many ws l) i j s h = worded_grows ts ps (Many ws l) i j s h

-- parts that were found
pub record Spelled (ts : List TokenKind) (m : ℕ) (r : Rule) (i : ℕ) (ps : Trees) (j : ℕ) : Type 0 where
  pub spells : Spells ts r i ps j
  pub low : depths ps ≤ m
  pub order : i ≤ j
  pub ends : i ≤ length ts → j ≤ length ts

pub spelled_stands : (ts : List TokenKind) (m : ℕ) (r : Rule) (i : ℕ) (ps : Trees) (j : ℕ) → Tends (λ n. spell n ts m r i) (Some (ps, j)) → Spelled ts m r i ps j
spelled_stands ts m r i ps j t =
    let h = spell_stands ts t.after m r i (ps, j) (t.by t.after (omega arith)) in
    record { spells = h.0; low = h.1; order = spells_order ts ps r i j h.0; ends = λ le. spells_end ts ps r i j h.0 le }

-- a row of symbols whose right side begins with a word
pub worded_symbols : (xs : List Symbol) → is_worded (right xs) ≡ true → is_word_first xs ≡ true
worded_symbols [] h = cc
worded_symbols (symbol.Word w ∷ xs) h = refl
worded_symbols (symbol.Part c ∷ xs) h = cc
worded_symbols (symbol.Optional c ∷ xs) h = cc
worded_symbols (symbol.Result ∷ xs) h = cc
worded_symbols (symbol.Items l ∷ xs) h = cc
worded_symbols (symbol.End ∷ xs) h = cc

-- the right side behind the first part
pub right_after : (xs : List Symbol) (c : Category) (r : Rule) → right xs ≡ Then [] c r → right (drop 1 xs) ≡ r
right_after [] c r h = cc
right_after (symbol.Word w ∷ xs) c r h = absurd (no (right xs) h)
  where
    no : (u : Rule) → prepend w u ≡ Then [] c r → ⊥
    no (End ws) e = cc
    no (Then ws d u) e = cc
    no (Maybe ws d u) e = cc
    no (Unless ws d us u) e = cc
    no (Many ws l) e = cc
right_after (symbol.Part d ∷ xs) c r h = cc
right_after (symbol.Optional d ∷ xs) c r h = cc
right_after (symbol.Result ∷ xs) c r h = cc
right_after (symbol.Items l ∷ xs) c r h = cc
right_after (symbol.End ∷ xs) c r h = cc

-- the place behind a word
pub word_behind : (ts : List TokenKind) (i j : ℕ) (w : TokenKind) → words ts i (w ∷ []) ≡ Some j → IsAt ts i w × (suc i ≡ j)
word_behind ts i j w h = words_stand ts (w ∷ []) i j h

-- the turns that are left
pub turn_stops : (t : Turn) → stops t ≡ true → t ≡ turns.Stop
turn_stops turns.Stop h = refl
turn_stops turns.Pass h = cc
turn_stops turns.Item h = cc

pub turn_passes : (t : Turn) → passes t ≡ true → t ≡ turns.Pass
turn_passes turns.Stop h = cc
turn_passes turns.Pass h = refl
turn_passes turns.Item h = cc

pub turn_item : (t : Turn) → stops t ≡ false → passes t ≡ false → t ≡ turns.Item
turn_item turns.Stop h g = cc
turn_item turns.Pass h g = cc
turn_item turns.Item h g = refl

-- where a separator stands alone there is a token
pub pass_there : (l : Items) (w : Option TokenKind) → turn l w ≡ turns.Pass → (x : TokenKind) × (w ≡ Some x)
pass_there l (Some x) h = (x, refl)
pass_there (Lines true c s e) None h = cc
pass_there (Lines false c s e) None h = cc
pass_there (Open c s) None h = cc
pass_there (Each c us vs) None h = cc
pass_there (Again c s) None h = cc

-- the place where items may begin again is no earlier, and within the tokens
pub next_on : (ts : List TokenKind) (l : Items) (i k : ℕ) → next ts l i ≡ On k → i ≤ length ts → (i ≤ k) × (k ≤ length ts)
next_on ts l i k e le = let b = next_between ts l i k e in (between_order ts l i k b, between_end ts l i k b le)

-- a right side with a first part
pub fits_part : (r : Rule) (k : Kind) (w : Option TokenKind) → fits r k w ≡ true → (c : Category) × (r ≡ Then [] c (after_first r))
fits_part (Then [] c r) k w h = (c, refl)
fits_part (Then (x ∷ ws) c r) k w h = cc
fits_part (End ws) k w h = cc
fits_part (Maybe ws c r) k w h = cc
fits_part (Unless ws c us r) k w h = cc
fits_part (Many ws l) k w h = cc

-- a text with a first word begins within the tokens
pub worded_starts : (ts : List TokenKind) (ps : Trees) (r : Rule) (i j : ℕ) → is_worded r ≡ true → Spells ts r i ps j → i ≤ length ts
worded_starts ts ps r i j w h = let f = first_of_worded r w in omega (arith, slice_get_within ts i f.0 (first_word_at ts ps r i j f.0 h f.1))

-- where the separator stands before an item
pub again_item : (c : Category) (s : TokenKind) (w : Option TokenKind) → turn (Again c s) w ≡ turns.Item → is_word w s ≡ true
again_item c s w h = go (is_word w s) h
  where
    go : (b : Bool) → (if b then turns.Item else turns.Stop) ≡ turns.Item → b ≡ true
    go true e = refl
    go false e = cc

pub no_earlier : (b : Bool) (i : ℕ) → i ≤ (if b then suc i else i)
no_earlier true i = omega arith
no_earlier false i = omega arith

pub is_file : (ts : List TokenKind) (p : Tree) → Tends (λ n. read n ts 101 category.File 0) (Some p) → last p ≡ length ts → IsFile ts p
is_file ts p t all = let s = found_stands ts 101 category.File 0 p t in record { derives = s.derives; begins = s.begins; ends = all; shallow = s.low }

pub no_file : (ts : List TokenKind) → Tends (λ n. read n ts 101 category.File 0) None → (t : Tree) → IsFile ts t → ⊥
no_file ts gone t h = let e : Some t ≡ None = tends_one (λ n. read n ts 101 category.File 0) (Some t) None (file_found ts t h) gone in cc

pub no_file_over : (ts : List TokenKind) (p : Tree) → Tends (λ n. read n ts 101 category.File 0) (Some p) → (last p ≡ length ts → ⊥) → (t : Tree) → IsFile ts t → ⊥
no_file_over ts p found over t h =
    let e : Some t ≡ Some p = tends_one (λ n. read n ts 101 category.File 0) (Some t) (Some p) (file_found ts t h) found in
    let same : t ≡ p = cc in
    over (ap last (sym same) ∙ h.ends)
