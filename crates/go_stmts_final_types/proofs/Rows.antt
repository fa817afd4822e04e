-- What is known of the parts of a node of an expression, by the categories that the grammar gives them.
use Rattle.std.proofs.Common.{◌≡◌, ℕ, suc, true, false, [], ◌∷◌, List, Option, Some, None, refl, ap, IsTrue, nat_le, arith}
use Rattle.std.proofs.lemmas.Bool.Decides.{nat_tests}
use Rattle.go_grammar.specs.declared.kind.Category.{Category}
use Rattle.go_grammar.specs.declared.kind.Category.TheVariants as category
use Rattle.go_grammar.specs.declared.kind.Kind.{Kind}
use Rattle.go_grammar.specs.declared.kind.Kind.TheVariants as kind
use Rattle.go_grammar.specs.declared.kind.Level.{Level}
use Rattle.go_grammar.specs.declared.kind.Level.TheVariants as level
use Rattle.go_grammar.specs.declared.kind.Place.{Place}
use Rattle.go_grammar.specs.declared.kind.Place.TheVariants as place
use Rattle.go_grammar.specs.Categories.{within, is_expression, is_type, is_literal_type, tightness}
use Rattle.go_grammar.specs.Operators.{rank}
use Rattle.go_grammar.specs.Rules.{Rule, End, Then, Maybe, Unless, Many, item}
use Rattle.go_typed.specs.Trees.{sort_of}
use Rattle.go_exprs_rules.specs.Settling.{Part}
use Rattle.go_exprs_rules.specs.Tables.{Parts, present, bounds_of}
use Rattle.go_stmts_final_types.proofs.Given.{is_valued}
use Rattle.go_stmts_final_types.proofs.Nodes.{Sound}

abbrev pub SoundIf : Option Part → Type 0
SoundIf (Some x) = Sound x
SoundIf None = Unit {0}

-- what stands in brackets: an index, or two bounds that may be left out
pub data IsBracket (x : Part) : Type 0 where
  index : Sound x → IsBracket x
  bounds : (low high : Option Part) → bounds_of (Some x) ≡ low ∷ high ∷ [] → SoundIf low → SoundIf high → IsBracket x

-- by the kind of its tree
abbrev pub KindFine : Kind → Part → Type 0
KindFine kind.Name x = Sound x
KindFine kind.Integer x = Sound x
KindFine kind.Rune x = Sound x
KindFine kind.Text x = Sound x
KindFine kind.Parenthesized x = Sound x
KindFine kind.ParenthesizedType x = Sound x
KindFine (kind.Unary o) x = Sound x
KindFine (kind.Binary o) x = Sound x
KindFine kind.Selector x = Sound x
KindFine kind.Bracketed x = Sound x
KindFine kind.Call x = Sound x
KindFine kind.Composite x = Sound x
KindFine kind.LiteralValue x = Sound x
KindFine kind.Keyed x = Sound x
KindFine kind.SequenceType x = Sound x
KindFine kind.FunctionType x = Sound x
KindFine kind.StructType x = Sound x
KindFine kind.Bounds x = IsBracket x
KindFine kind.BoundsFrom x = IsBracket x
KindFine kind.Signature x = is_valued (sort_of x) ≡ false
KindFine k x = Unit {0}

-- by its category
abbrev pub Fine : Category → Part → Type 0
Fine (category.Expression l p) x = Sound x
Fine (category.LiteralType p) x = Sound x
Fine category.Type x = Sound x
Fine category.Element x = Sound x
Fine category.Value x = Sound x
Fine category.Bracket x = IsBracket x
Fine category.Signature x = is_valued (sort_of x) ≡ false
Fine c x = Unit {0}

expression_sound : (k : Kind) (x : Part) → is_expression k ≡ true → KindFine k x → Sound x
expression_sound kind.Name x e h = h
expression_sound kind.Integer x e h = h
expression_sound kind.Rune x e h = h
expression_sound kind.Text x e h = h
expression_sound kind.Parenthesized x e h = h
expression_sound (kind.Unary o) x e h = h
expression_sound (kind.Binary o) x e h = h
expression_sound kind.Selector x e h = h
expression_sound kind.Bracketed x e h = h
expression_sound kind.Call x e h = h
expression_sound kind.Composite x e h = h
expression_sound kind.SequenceType x e h = h
expression_sound kind.FunctionType x e h = h
expression_sound kind.StructType x e h = h
expression_sound k x e h = cc

tighter : (r t : ℕ) → nat_le (suc r) t ≡ true → nat_le 1 t ≡ true
tighter r t e = grind (arith, nat_tests, e)

pub ranked : (l : Level) (k : Kind) → nat_le (rank l) (tightness k) ≡ true → is_expression k ≡ true
ranked level.Either k e = tighter 0 (tightness k) e
ranked level.Both k e = tighter 1 (tightness k) e
ranked level.Comparison k e = tighter 2 (tightness k) e
ranked level.Sum k e = tighter 3 (tightness k) e
ranked level.Product k e = tighter 4 (tightness k) e
ranked level.Unary k e = tighter 5 (tightness k) e
ranked level.Primary k e = tighter 6 (tightness k) e

type_sound : (k : Kind) (x : Part) → is_type k ≡ true → KindFine k x → Sound x
type_sound kind.Name x e h = h
type_sound kind.ParenthesizedType x e h = h
type_sound kind.SequenceType x e h = h
type_sound kind.FunctionType x e h = h
type_sound kind.StructType x e h = h
type_sound k x e h = cc

literal_type_sound : (p : Place) (k : Kind) (x : Part) → is_literal_type p k ≡ true → KindFine k x → Sound x
literal_type_sound place.Free kind.Name x e h = h
literal_type_sound place.Header kind.Name x e h = h
literal_type_sound p kind.SequenceType x e h = h
literal_type_sound p kind.StructType x e h = h
literal_type_sound place.Free k x e h = cc
literal_type_sound place.Header k x e h = cc

element_sound : (k : Kind) (x : Part) → IsTrue (within category.Element k) → KindFine k x → Sound x
element_sound kind.LiteralValue x e h = h
element_sound kind.Keyed x e h = h
element_sound k x e h = expression_sound k x e h

value_sound : (k : Kind) (x : Part) → IsTrue (within category.Value k) → KindFine k x → Sound x
value_sound kind.LiteralValue x e h = h
value_sound k x e h = expression_sound k x e h

bracket_fine : (k : Kind) (x : Part) → IsTrue (within category.Bracket k) → KindFine k x → IsBracket x
bracket_fine kind.Bounds x e h = h
bracket_fine kind.BoundsFrom x e h = h
bracket_fine k x e h = index (expression_sound k x e h)

signature_fine : (k : Kind) (x : Part) → IsTrue (within category.Signature k) → KindFine k x → is_valued (sort_of x) ≡ false
signature_fine kind.Signature x e h = h
signature_fine k x e h = cc

pub within_fine : (c : Category) (k : Kind) (x : Part) → IsTrue (within c k) → KindFine k x → Fine c x
within_fine (category.Expression l p) k x e h = expression_sound k x (ranked l k e) h
within_fine (category.LiteralType p) k x e h = literal_type_sound p k x e h
within_fine category.Type k x e h = type_sound k x e h
within_fine category.Element k x e h = element_sound k x e h
within_fine category.Value k x e h = value_sound k x e h
within_fine category.Bracket k x e h = bracket_fine k x e h
within_fine category.Signature k x e h = signature_fine k x e h
within_fine c k x e h = tt

-- the parts of a node, laid out by its production
abbrev pub RowFine : Rule → Parts → Type 0
RowFine (End ws) [] = Unit {0}
RowFine (End ws) (x ∷ xs) = ⊥
RowFine (Then ws c r) [] = ⊥
RowFine (Then ws c r) (None ∷ xs) = ⊥
RowFine (Then ws c r) (Some x ∷ xs) = Fine c x × RowFine r xs
RowFine (Maybe ws c r) [] = ⊥
RowFine (Maybe ws c r) (None ∷ xs) = RowFine r xs
RowFine (Maybe ws c r) (Some x ∷ xs) = Fine c x × RowFine r xs
RowFine (Unless ws c us r) [] = ⊥
RowFine (Unless ws c us r) (None ∷ xs) = RowFine r xs
RowFine (Unless ws c us r) (Some x ∷ xs) = Fine c x × RowFine r xs
RowFine (Many ws l) [] = Unit {0}
RowFine (Many ws l) (None ∷ xs) = ⊥
RowFine (Many ws l) (Some x ∷ xs) = Fine (item l) x × RowFine (Many ws l) xs

-- ---- rows without gaps

abbrev pub somes : List Part → Parts
somes [] = []
somes (x ∷ xs) = Some x ∷ somes xs

pub present_somes : (xs : List Part) → present (somes xs) ≡ xs
present_somes [] = refl
present_somes (x ∷ xs) = ap (λ ys. x ∷ ys) (present_somes xs)
