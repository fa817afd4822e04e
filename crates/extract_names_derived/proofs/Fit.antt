-- Which kinds the parts of a derived node have, and where they begin.
use Rattle.std.proofs.Common.{◌≡◌, ℕ, suc, ◌<◌, ◌≤◌, ◌⊎◌, inl, inr, Bool, true, false, List, [], ◌∷◌, refl, arith}
use Rattle.std.specs.Prelude.{◌&&◌, nat_le}
use Rattle.go_tokens.specs.declared.token.TokenKind.{TokenKind}
use Rattle.go_tokens.specs.declared.token.TokenKind.TheVariants as token
use Rattle.go_grammar.specs.declared.kind.Category.{Category}
use Rattle.go_grammar.specs.declared.kind.Category.TheVariants as category
use Rattle.go_grammar.specs.declared.kind.Kind.{Kind}
use Rattle.go_grammar.specs.declared.kind.Kind.TheVariants as kind
use Rattle.go_grammar.specs.declared.kind.Level.{Level}
use Rattle.go_grammar.specs.declared.kind.Level.TheVariants as level
use Rattle.go_grammar.specs.declared.kind.Place.{Place}
use Rattle.go_grammar.specs.declared.kind.Place.TheVariants as place
use Rattle.go_grammar.specs.declared.kind.Sort.{Sort}
use Rattle.go_grammar.specs.declared.kind.Sort.TheVariants as sort
use Rattle.go_grammar.specs.Categories.{within, place_of}
use Rattle.go_grammar.specs.Grammar.{rule, Words, Between, Derives, Spells, Goes}
use Rattle.go_grammar.specs.Operators.{rank}
use Rattle.go_grammar.specs.Rules.{Items, Lines, Open, Each, Again, Rule, End, Then, Maybe, Unless, Many, item}
use Rattle.go_grammar.specs.Trees.{Tree, node, Trees, none, more, skip, kind_of, first, last}
use Rattle.go_grammar.proofs.Public.{words_order, gap_order, between_order, derives_grows}
use Rattle.go_scopes_events.proofs.Public.{and_both, true_false, is_top}
use Rattle.go_scopes_bodies.specs.Listed.{is_specification}
use Rattle.extract_names.specs.Pieces.{leads_to_lists}

-- ---- kinds

-- the kinds whose first token is a word or a mark of their own
abbrev pub begins_with_word : Kind → Bool
begins_with_word (kind.Declaration s) = true
begins_with_word (kind.Group s) = true
begins_with_word kind.FunctionDeclaration = true
begins_with_word kind.Block = true
begins_with_word kind.If = true
begins_with_word kind.Else = true
begins_with_word kind.Switch = true
begins_with_word kind.Case = true
begins_with_word kind.Default = true
begins_with_word kind.For = true
begins_with_word k = false

-- where the parts of a node may begin
abbrev pub front : Kind → ℕ → ℕ
front (kind.Declaration s) i = suc i
front (kind.Group s) i = suc i
front kind.FunctionDeclaration i = suc i
front kind.Block i = suc i
front kind.If i = suc i
front kind.Else i = suc i
front kind.Switch i = suc i
front kind.Case i = suc i
front kind.Default i = suc i
front kind.For i = suc i
front k i = i

abbrev pub is_file : Kind → Bool
is_file kind.File = true
is_file k = false

abbrev pub is_if : Kind → Bool
is_if kind.If = true
is_if k = false

abbrev pub holds_specifications : Kind → Bool
holds_specifications (kind.Declaration s) = true
holds_specifications (kind.Group s) = true
holds_specifications k = false

abbrev pub has_values : Kind → Bool
has_values kind.Values = true
has_values kind.TypedValues = true
has_values k = false

-- whether a node of the one kind may have a part of the other
abbrev pub may_hold : Kind → Kind → Bool
may_hold k kind.File = false
may_hold k kind.FunctionDeclaration = is_file k
may_hold k (kind.Specification s) = holds_specifications k
may_hold k kind.Values = is_specification k
may_hold k kind.TypedValues = is_specification k
may_hold k kind.Block = leads_to_lists k
may_hold k kind.If = leads_to_lists k
may_hold k kind.Else = is_if k
may_hold k kind.Switch = leads_to_lists k
may_hold k kind.Case = leads_to_lists k
may_hold k kind.Default = leads_to_lists k
may_hold k kind.For = leads_to_lists k
may_hold k l = true

-- The parts rise, with a token between each two.
abbrev pub Rises : ℕ → Trees → Type 0
Rises x none = Unit {0}
Rises x (more p ps) = (x ≤ first p) × Rises (suc (last p)) ps
Rises x (skip ps) = Rises x ps

-- The parts, or those behind the first one, begin with words of their own.
abbrev pub AllWords : Trees → Type 0
AllWords none = Unit {0}
AllWords (more p ps) = (begins_with_word (kind_of p) ≡ true) × AllWords ps
AllWords (skip ps) = AllWords ps

abbrev pub WordsBehind : Trees → Type 0
WordsBehind none = Unit {0}
WordsBehind (more p ps) = AllWords ps
WordsBehind (skip ps) = AllWords ps

-- The expressions of a clause hold no lists.
abbrev pub CaseFits : ℕ → Trees → Type 0
CaseFits i none = ⊥
CaseFits i (more e ps) = (leads_to_lists (kind_of e) ≡ false) × (suc i ≤ first e) × Rises (suc (last e)) ps
CaseFits i (skip ps) = ⊥

pub case_rises : (i : ℕ) (ps : Trees) → CaseFits i ps → Rises (suc i) ps
case_rises i none h = absurd h
case_rises i (more e ps) h = (h.1, h.2)
case_rises i (skip ps) h = absurd h

abbrev pub ListFits : Kind → ℕ → Trees → Type 0
ListFits kind.Block i ps = Rises (suc i) ps
ListFits kind.Case i ps = CaseFits i ps
ListFits kind.Default i ps = Rises (suc i) ps
ListFits kind.FunctionDeclaration i ps = WordsBehind ps
ListFits kind.If i ps = WordsBehind ps
ListFits kind.Else i ps = WordsBehind ps
ListFits kind.Switch i ps = WordsBehind ps
ListFits kind.For i ps = WordsBehind ps
ListFits k i ps = Unit {0}

abbrev mutual
  pub IsFit : Tree → Type 0
  IsFit (node k i j ps) = ListFits k i ps × AreFit k i ps

  pub AreFit : Kind → ℕ → Trees → Type 0
  AreFit k i none = Unit {0}
  AreFit k i (more p ps) = (may_hold k (kind_of p) ≡ true) × (front k i ≤ first p) × IsFit p × AreFit k i ps
  AreFit k i (skip ps) = AreFit k i ps

-- ---- fronts

pub front_from : (k : Kind) (i : ℕ) → i ≤ front k i
front_from (kind.Declaration s) i = omega arith
front_from (kind.Group s) i = omega arith
front_from kind.FunctionDeclaration i = omega arith
front_from kind.Block i = omega arith
front_from kind.If i = omega arith
front_from kind.Else i = omega arith
front_from kind.Switch i = omega arith
front_from kind.Case i = omega arith
front_from kind.Default i = omega arith
front_from kind.For i = omega arith
front_from k i = omega arith

pub front_below : (k : Kind) (i : ℕ) → front k i ≤ suc i
front_below (kind.Declaration s) i = omega arith
front_below (kind.Group s) i = omega arith
front_below kind.FunctionDeclaration i = omega arith
front_below kind.Block i = omega arith
front_below kind.If i = omega arith
front_below kind.Else i = omega arith
front_below kind.Switch i = omega arith
front_below kind.Case i = omega arith
front_below kind.Default i = omega arith
front_below kind.For i = omega arith
front_below k i = omega arith

pub word_front : (k : Kind) (i : ℕ) → begins_with_word k ≡ true → front k i ≡ suc i
word_front (kind.Declaration s) i e = refl
word_front (kind.Group s) i e = refl
word_front kind.FunctionDeclaration i e = refl
word_front kind.Block i e = refl
word_front kind.If i e = refl
word_front kind.Else i e = refl
word_front kind.Switch i e = refl
word_front kind.Case i e = refl
word_front kind.Default i e = refl
word_front kind.For i e = refl
word_front k i e = absurd (true_false false e refl)

file_top : (k : Kind) → is_top k ≡ false → is_file k ≡ true → ⊥
file_top kind.File e h = true_false true refl e
file_top k e h = true_false false h refl

pub part_inner : (k l : Kind) → is_top k ≡ false → may_hold k l ≡ true → is_top l ≡ false
part_inner k kind.File e h = absurd (true_false false h refl)
part_inner k kind.FunctionDeclaration e h = absurd (file_top k e h)
part_inner k l e h = refl

-- ---- categories

abbrev suits : Kind → Category → Bool
suits k category.File = false
suits k category.Declaration = is_file k
suits k (category.DeclarationBody s) = holds_specifications k
suits k (category.Specification s) = holds_specifications k
suits k category.ConstantRest = is_specification k
suits k category.VariableRest = is_specification k
suits k category.Block = leads_to_lists k
suits k category.Else = is_if k
suits k category.Branch = leads_to_lists k
suits k category.Clause = leads_to_lists k
suits k category.Statement = leads_to_lists k
suits k c = true

abbrev all_suit : Kind → Rule → Bool
all_suit k (End ws) = true
all_suit k (Then ws c r) = suits k c && all_suit k r
all_suit k (Maybe ws c r) = suits k c && all_suit k r
all_suit k (Unless ws c us r) = suits k c && all_suit k r
all_suit k (Many ws l) = suits k (item l)

rule_suits : (p : Place) (k : Kind) → all_suit k (rule p k) ≡ true
rule_suits p (kind.Specification sort.Constant) = refl
rule_suits p (kind.Specification sort.Type) = refl
rule_suits p (kind.Specification sort.Variable) = refl
rule_suits p k = refl

above_none : (l : Level) → nat_le (rank l) 0 ≡ false
above_none level.Either = refl
above_none level.Both = refl
above_none level.Comparison = refl
above_none level.Sum = refl
above_none level.Product = refl
above_none level.Unary = refl
above_none level.Primary = refl

file_out : (k : Kind) (c : Category) → suits k c ≡ true → within c kind.File ≡ false
file_out k category.File e = cc
file_out k (category.Expression l p) e = above_none l
file_out k (category.LiteralType place.Free) e = refl
file_out k (category.LiteralType place.Header) e = refl
file_out k c e = refl

function_in : (k : Kind) (c : Category) → suits k c ≡ true → within c kind.FunctionDeclaration ≡ true → is_file k ≡ true
function_in k category.Declaration e h = e
function_in k (category.Expression l p) e h = absurd (true_false (nat_le (rank l) 0) h (above_none l))
function_in k (category.LiteralType place.Free) e h = absurd (true_false false h refl)
function_in k (category.LiteralType place.Header) e h = absurd (true_false false h refl)
function_in k c e h = absurd (true_false false h refl)

values_in : (k : Kind) (c : Category) → suits k c ≡ true → within c kind.Values ≡ true → is_specification k ≡ true
values_in k category.ConstantRest e h = e
values_in k category.VariableRest e h = e
values_in k (category.Expression l p) e h = absurd (true_false (nat_le (rank l) 0) h (above_none l))
values_in k (category.LiteralType place.Free) e h = absurd (true_false false h refl)
values_in k (category.LiteralType place.Header) e h = absurd (true_false false h refl)
values_in k c e h = absurd (true_false false h refl)

typed_values_in : (k : Kind) (c : Category) → suits k c ≡ true → within c kind.TypedValues ≡ true → is_specification k ≡ true
typed_values_in k category.ConstantRest e h = e
typed_values_in k category.VariableRest e h = e
typed_values_in k (category.Expression l p) e h = absurd (true_false (nat_le (rank l) 0) h (above_none l))
typed_values_in k (category.LiteralType place.Free) e h = absurd (true_false false h refl)
typed_values_in k (category.LiteralType place.Header) e h = absurd (true_false false h refl)
typed_values_in k c e h = absurd (true_false false h refl)

specification_in : (k : Kind) (c : Category) (s : Sort) → suits k c ≡ true → within c (kind.Specification s) ≡ true → holds_specifications k ≡ true
specification_in k (category.DeclarationBody t) s e h = e
specification_in k (category.Specification t) s e h = e
specification_in k (category.Expression l p) s e h = absurd (true_false (nat_le (rank l) 0) h (above_none l))
specification_in k (category.LiteralType place.Free) s e h = absurd (true_false false h refl)
specification_in k (category.LiteralType place.Header) s e h = absurd (true_false false h refl)
specification_in k c s e h = absurd (true_false false h refl)

block_in : (k : Kind) (c : Category) → suits k c ≡ true → within c kind.Block ≡ true → leads_to_lists k ≡ true
block_in k category.Block e h = e
block_in k category.Branch e h = e
block_in k category.Statement e h = e
block_in k (category.Expression l p) e h = absurd (true_false (nat_le (rank l) 0) h (above_none l))
block_in k (category.LiteralType place.Free) e h = absurd (true_false false h refl)
block_in k (category.LiteralType place.Header) e h = absurd (true_false false h refl)
block_in k c e h = absurd (true_false false h refl)

if_in : (k : Kind) (c : Category) → suits k c ≡ true → within c kind.If ≡ true → leads_to_lists k ≡ true
if_in k category.Branch e h = e
if_in k category.Statement e h = e
if_in k (category.Expression l p) e h = absurd (true_false (nat_le (rank l) 0) h (above_none l))
if_in k (category.LiteralType place.Free) e h = absurd (true_false false h refl)
if_in k (category.LiteralType place.Header) e h = absurd (true_false false h refl)
if_in k c e h = absurd (true_false false h refl)

else_in : (k : Kind) (c : Category) → suits k c ≡ true → within c kind.Else ≡ true → is_if k ≡ true
else_in k category.Else e h = e
else_in k (category.Expression l p) e h = absurd (true_false (nat_le (rank l) 0) h (above_none l))
else_in k (category.LiteralType place.Free) e h = absurd (true_false false h refl)
else_in k (category.LiteralType place.Header) e h = absurd (true_false false h refl)
else_in k c e h = absurd (true_false false h refl)

switch_in : (k : Kind) (c : Category) → suits k c ≡ true → within c kind.Switch ≡ true → leads_to_lists k ≡ true
switch_in k category.Statement e h = e
switch_in k (category.Expression l p) e h = absurd (true_false (nat_le (rank l) 0) h (above_none l))
switch_in k (category.LiteralType place.Free) e h = absurd (true_false false h refl)
switch_in k (category.LiteralType place.Header) e h = absurd (true_false false h refl)
switch_in k c e h = absurd (true_false false h refl)

case_in : (k : Kind) (c : Category) → suits k c ≡ true → within c kind.Case ≡ true → leads_to_lists k ≡ true
case_in k category.Clause e h = e
case_in k (category.Expression l p) e h = absurd (true_false (nat_le (rank l) 0) h (above_none l))
case_in k (category.LiteralType place.Free) e h = absurd (true_false false h refl)
case_in k (category.LiteralType place.Header) e h = absurd (true_false false h refl)
case_in k c e h = absurd (true_false false h refl)

default_in : (k : Kind) (c : Category) → suits k c ≡ true → within c kind.Default ≡ true → leads_to_lists k ≡ true
default_in k category.Clause e h = e
default_in k (category.Expression l p) e h = absurd (true_false (nat_le (rank l) 0) h (above_none l))
default_in k (category.LiteralType place.Free) e h = absurd (true_false false h refl)
default_in k (category.LiteralType place.Header) e h = absurd (true_false false h refl)
default_in k c e h = absurd (true_false false h refl)

for_in : (k : Kind) (c : Category) → suits k c ≡ true → within c kind.For ≡ true → leads_to_lists k ≡ true
for_in k category.Statement e h = e
for_in k (category.Expression l p) e h = absurd (true_false (nat_le (rank l) 0) h (above_none l))
for_in k (category.LiteralType place.Free) e h = absurd (true_false false h refl)
for_in k (category.LiteralType place.Header) e h = absurd (true_false false h refl)
for_in k c e h = absurd (true_false false h refl)

suited : (k : Kind) (c : Category) (l : Kind) → suits k c ≡ true → within c l ≡ true → may_hold k l ≡ true
suited k c kind.File e h = absurd (true_false (within c kind.File) h (file_out k c e))
suited k c kind.FunctionDeclaration e h = function_in k c e h
suited k c (kind.Specification s) e h = specification_in k c s e h
suited k c kind.Values e h = values_in k c e h
suited k c kind.TypedValues e h = typed_values_in k c e h
suited k c kind.Block e h = block_in k c e h
suited k c kind.If e h = if_in k c e h
suited k c kind.Else e h = else_in k c e h
suited k c kind.Switch e h = switch_in k c e h
suited k c kind.Case e h = case_in k c e h
suited k c kind.Default e h = default_in k c e h
suited k c kind.For e h = for_in k c e h
suited k c l e h = refl

-- ---- words behind the first part

abbrev word_category : Category → Bool
word_category category.Block = true
word_category category.Else = true
word_category category.Clause = true
word_category c = false

abbrev all_words : Rule → Bool
all_words (End ws) = true
all_words (Then ws c r) = word_category c && all_words r
all_words (Maybe ws c r) = word_category c && all_words r
all_words (Unless ws c us r) = word_category c && all_words r
all_words (Many ws l) = word_category (item l)

block_word : (k : Kind) → within category.Block k ≡ true → begins_with_word k ≡ true
block_word kind.Block h = refl
block_word k h = absurd (true_false false h refl)

else_word : (k : Kind) → within category.Else k ≡ true → begins_with_word k ≡ true
else_word kind.Else h = refl
else_word k h = absurd (true_false false h refl)

clause_word : (k : Kind) → within category.Clause k ≡ true → begins_with_word k ≡ true
clause_word kind.Case h = refl
clause_word kind.Default h = refl
clause_word k h = absurd (true_false false h refl)

word_kind : (c : Category) (k : Kind) → word_category c ≡ true → within c k ≡ true → begins_with_word k ≡ true
word_kind category.Block k e h = block_word k h
word_kind category.Else k e h = else_word k h
word_kind category.Clause k e h = clause_word k h
word_kind c k e h = absurd (true_false false e refl)

-- ---- words in front

abbrev some_word : List TokenKind → Bool
some_word [] = false
some_word (w ∷ ws) = true

abbrev has_word : Rule → Bool
has_word (End ws) = some_word ws
has_word (Then ws c r) = some_word ws
has_word (Maybe ws c r) = some_word ws
has_word (Unless ws c us r) = some_word ws
has_word (Many ws l) = some_word ws

-- The parts of a right side that is spelled from the token i on begin at b or behind it.
abbrev Low : ℕ → ℕ → Bool → Type 0
Low b i w = (b ≤ i) ⊎ ((b ≡ suc i) × (w ≡ true))

start_low : (p : Place) (k : Kind) (i : ℕ) → Low (front k i) i (has_word (rule p k))
start_low p (kind.Declaration s) i = inr (refl, refl)
start_low p (kind.Group s) i = inr (refl, refl)
start_low p kind.FunctionDeclaration i = inr (refl, refl)
start_low p kind.Block i = inr (refl, refl)
start_low p kind.If i = inr (refl, refl)
start_low p kind.Else i = inr (refl, refl)
start_low p kind.Switch i = inr (refl, refl)
start_low p kind.Case i = inr (refl, refl)
start_low p kind.Default i = inr (refl, refl)
start_low p kind.For i = inr (refl, refl)
start_low p k i = inl (omega arith)

module _ (ts : List TokenKind) where
  words_low : (b i j : ℕ) (ws : List TokenKind) → Low b i (some_word ws) → Words ts i ws j → b ≤ j
  words_low b i j [] (inl x) h = omega (arith, x, h)
  words_low b i j [] (inr x) h = absurd (true_false false x.1 refl)
  words_low b i j (w ∷ ws) (inl x) h = omega (arith, x, words_order ts ws (suc i) j h.1)
  words_low b i j (w ∷ ws) (inr x) h = omega (arith, x.0, words_order ts ws (suc i) j h.1)

  abbrev separated : Items → Bool
  separated (Lines b c s e) = true
  separated (Open c s) = true
  separated (Each c us vs) = false
  separated (Again c s) = false

  between_more : (l : Items) (i k : ℕ) → separated l ≡ true → Between ts l i k → suc i ≤ k
  between_more (Lines b c s e) i k x h = omega (arith, h.1)
  between_more (Open c s) i k x h = omega (arith, h.1)
  between_more (Each c us vs) i k x h = absurd (true_false false x refl)
  between_more (Again c s) i k x h = absurd (true_false false x refl)

  goes_rises : (ps : Trees) (l : Items) (i j : ℕ) → separated l ≡ true → Goes ts l i ps j → Rises (suc i) ps
  goes_rises none l i j x h = tt
  goes_rises (more p ps) l i j x h = (omega (arith, between_more l i h.0 x h.1, gap_order ts l h.0 (first p) h.2), goes_rises ps l (last p) j x h.4)
  goes_rises (skip ps) l i j x h = absurd h

  items_rise : (ps : Trees) (ws : List TokenKind) (l : Items) (i j : ℕ) → some_word ws ≡ true → separated l ≡ true → Spells ts (Many ws l) i ps j → Rises (suc i) ps
  items_rise none ws l i j w x h = tt
  items_rise (more p ps) ws l i j w x h = (omega (arith, words_low (suc i) i h.0 ws (inr (refl, w)) h.1, gap_order ts l h.0 (first p) h.2), goes_rises ps l (last p) j x h.4)
  items_rise (skip ps) ws l i j w x h = absurd h

  derived_word : (p : Tree) (c : Category) → word_category c ≡ true → Derives ts c p → begins_with_word (kind_of p) ≡ true
  derived_word (node k i j ps) c e h = word_kind c k e h.0

  goes_words : (ps : Trees) (l : Items) (i j : ℕ) → word_category (item l) ≡ true → Goes ts l i ps j → AllWords ps
  goes_words none l i j e h = tt
  goes_words (more p ps) l i j e h = (derived_word p (item l) e h.3, goes_words ps l (last p) j e h.4)
  goes_words (skip ps) l i j e h = absurd h

  words_in : (ps : Trees) (r : Rule) (i j : ℕ) → all_words r ≡ true → Spells ts r i ps j → AllWords ps
  words_in none r i j e h = tt
  words_in (more p ps) (End ws) i j e h = absurd h
  words_in (skip ps) (End ws) i j e h = absurd h
  words_in (more p ps) (Then ws c r) i j e h = let b = and_both (word_category c) (all_words r) e in (derived_word p c b.0 h.1, words_in ps r (last p) j b.1 h.2)
  words_in (skip ps) (Then ws c r) i j e h = absurd h
  words_in (more p ps) (Maybe ws c r) i j e h = let b = and_both (word_category c) (all_words r) e in (derived_word p c b.0 h.1, words_in ps r (last p) j b.1 h.2)
  words_in (skip ps) (Maybe ws c r) i j e h = words_in ps r h.0 j (and_both (word_category c) (all_words r) e).1 h.2
  words_in (more p ps) (Unless ws c us r) i j e h = let b = and_both (word_category c) (all_words r) e in (derived_word p c b.0 h.1, words_in ps r (last p) j b.1 h.2)
  words_in (skip ps) (Unless ws c us r) i j e h = words_in ps r h.0 j (and_both (word_category c) (all_words r) e).1 h.3
  words_in (more p ps) (Many ws l) i j e h = (derived_word p (item l) e h.3, goes_words ps l (last p) j e h.4)
  words_in (skip ps) (Many ws l) i j e h = absurd h

  abbrev tail_words : Rule → Bool
  tail_words (Then ws c r) = all_words r
  tail_words (Maybe ws c r) = all_words r
  tail_words r = false

  words_behind : (ps : Trees) (r : Rule) (i j : ℕ) → tail_words r ≡ true → Spells ts r i ps j → WordsBehind ps
  words_behind none r i j e h = tt
  words_behind (more p ps) (Then ws c r) i j e h = words_in ps r (last p) j e h.2
  words_behind (skip ps) (Then ws c r) i j e h = absurd h
  words_behind (more p ps) (Maybe ws c r) i j e h = words_in ps r (last p) j e h.2
  words_behind (skip ps) (Maybe ws c r) i j e h = words_in ps r h.0 j e h.2
  words_behind ps (End ws) i j e h = absurd (true_false false e refl)
  words_behind ps (Unless ws c us r) i j e h = absurd (true_false false e refl)
  words_behind ps (Many ws l) i j e h = absurd (true_false false e refl)

  expressions_lead : (e : Tree) (q : Place) → Derives ts (category.ExpressionList q) e → leads_to_lists (kind_of e) ≡ false
  expressions_lead (node kind.ExpressionList i j ps) q h = refl
  expressions_lead (node k i j ps) q h = absurd cc

  list_fits : (q : Place) (k : Kind) (ps : Trees) (i j : ℕ) → Spells ts (rule q k) i ps j → ListFits k i ps
  list_fits q kind.Block ps i j h = items_rise ps _ _ i j refl refl h
  list_fits q kind.Default ps i j h = items_rise ps _ _ i j refl refl h
  list_fits q kind.Case none i j h = absurd h
  list_fits q kind.Case (more e ps) i j h = (expressions_lead e place.Free h.1, words_low (suc i) i (first e) (token.Case ∷ []) (inr (refl, refl)) h.0, items_rise ps _ _ (last e) j refl refl h.2)
  list_fits q kind.Case (skip ps) i j h = absurd h
  list_fits q kind.FunctionDeclaration ps i j h = words_behind ps (rule q kind.FunctionDeclaration) i j refl h
  list_fits q kind.If ps i j h = words_behind ps (rule q kind.If) i j refl h
  list_fits q kind.Else ps i j h = words_behind ps (rule q kind.Else) i j refl h
  list_fits q kind.Switch ps i j h = words_behind ps (rule q kind.Switch) i j refl h
  list_fits q kind.For ps i j h = words_behind ps (rule q kind.For) i j refl h
  list_fits q k ps i j h = tt

  kind_suits : (k : Kind) (p : Tree) (c : Category) → suits k c ≡ true → Derives ts c p → may_hold k (kind_of p) ≡ true
  kind_suits k (node l i j ps) c e h = suited k c l e h.0

  mutual
    pub derives_fit : (t : Tree) (c : Category) → Derives ts c t → IsFit t
    derives_fit (node k i j ps) c h = (list_fits (place_of c) k ps i j h.1, spells_fit k i ps (rule (place_of c) k) i j (start_low (place_of c) k i) (rule_suits (place_of c) k) h.1)

    spells_fit : (k : Kind) (a : ℕ) (ps : Trees) (r : Rule) (i j : ℕ) → Low (front k a) i (has_word r) → all_suit k r ≡ true → Spells ts r i ps j → AreFit k a ps
    spells_fit k a none r i j w e h = tt
    spells_fit k a (more p ps) (End ws) i j w e h = absurd h
    spells_fit k a (skip ps) (End ws) i j w e h = absurd h
    spells_fit k a (more p ps) (Then ws c r) i j w e h =
        let b = and_both (suits k c) (all_suit k r) e in
        let low : front k a ≤ first p = words_low (front k a) i (first p) ws w h.0 in
        let grows : first p < last p = derives_grows ts p c h.1 in
        (kind_suits k p c b.0 h.1, low, derives_fit p c h.1, spells_fit k a ps r (last p) j (inl (omega (arith, low, grows))) b.1 h.2)
    spells_fit k a (skip ps) (Then ws c r) i j w e h = absurd h
    spells_fit k a (more p ps) (Maybe ws c r) i j w e h =
        let b = and_both (suits k c) (all_suit k r) e in
        let low : front k a ≤ first p = words_low (front k a) i (first p) ws w h.0 in
        let grows : first p < last p = derives_grows ts p c h.1 in
        (kind_suits k p c b.0 h.1, low, derives_fit p c h.1, spells_fit k a ps r (last p) j (inl (omega (arith, low, grows))) b.1 h.2)
    spells_fit k a (skip ps) (Maybe ws c r) i j w e h = spells_fit k a ps r h.0 j (inl (words_low (front k a) i h.0 ws w h.1)) (and_both (suits k c) (all_suit k r) e).1 h.2
    spells_fit k a (more p ps) (Unless ws c us r) i j w e h =
        let b = and_both (suits k c) (all_suit k r) e in
        let low : front k a ≤ first p = words_low (front k a) i (first p) ws w h.0 in
        let grows : first p < last p = derives_grows ts p c h.1 in
        (kind_suits k p c b.0 h.1, low, derives_fit p c h.1, spells_fit k a ps r (last p) j (inl (omega (arith, low, grows))) b.1 h.2)
    spells_fit k a (skip ps) (Unless ws c us r) i j w e h = spells_fit k a ps r h.0 j (inl (words_low (front k a) i h.0 ws w h.1)) (and_both (suits k c) (all_suit k r) e).1 h.3
    spells_fit k a (more p ps) (Many ws l) i j w e h =
        let low : front k a ≤ first p = omega (arith, words_low (front k a) i h.0 ws w h.1, gap_order ts l h.0 (first p) h.2) in
        let grows : first p < last p = derives_grows ts p (item l) h.3 in
        (kind_suits k p (item l) e h.3, low, derives_fit p (item l) h.3, goes_fit k a ps l (last p) j (omega (arith, low, grows)) e h.4)
    spells_fit k a (skip ps) (Many ws l) i j w e h = absurd h

    goes_fit : (k : Kind) (a : ℕ) (ps : Trees) (l : Items) (i j : ℕ) → front k a ≤ i → suits k (item l) ≡ true → Goes ts l i ps j → AreFit k a ps
    goes_fit k a none l i j low e h = tt
    goes_fit k a (more p ps) l i j low e h =
        let at : front k a ≤ first p = omega (arith, low, between_order ts l i h.0 h.1, gap_order ts l h.0 (first p) h.2) in
        let grows : first p < last p = derives_grows ts p (item l) h.3 in
        (kind_suits k p (item l) e h.3, at, derives_fit p (item l) h.3, goes_fit k a ps l (last p) j (omega (arith, at, grows)) e h.4)
    goes_fit k a (skip ps) l i j low e h = absurd h
