-- The kinds that stand in signatures: those of expressions and types, and of their parts.
use Rattle.std.proofs.Common.{◌≡◌, ℕ, Bool, true, false, List, refl}
use Rattle.std.specs.Prelude.{◌&&◌, nat_le}
use Rattle.go_tokens.specs.declared.token.TokenKind.{TokenKind}
use Rattle.go_grammar.specs.declared.kind.Kind.{Kind}
use Rattle.go_grammar.specs.declared.kind.Kind.TheVariants as kind
use Rattle.go_grammar.specs.declared.kind.Level.{Level}
use Rattle.go_grammar.specs.declared.kind.Level.TheVariants as level
use Rattle.go_grammar.specs.declared.kind.Place.{Place}
use Rattle.go_grammar.specs.declared.kind.Place.TheVariants as place
use Rattle.go_grammar.specs.declared.kind.Category.{Category}
use Rattle.go_grammar.specs.declared.kind.Category.TheVariants as category
use Rattle.go_grammar.specs.Operators.{rank}
use Rattle.go_grammar.specs.Categories.{within, place_of, tightness, is_type, is_result, is_literal_type}
use Rattle.go_grammar.specs.Rules.{Items, Rule, End, Then, Maybe, Unless, Many, item}
use Rattle.go_grammar.specs.Trees.{Tree, node, Trees, none, more, skip, last}
use Rattle.go_grammar.specs.Grammar.{rule, Derives, Spells, Goes}
use Rattle.go_scopes_events.proofs.Public.{and_both}

-- the kinds of expressions and types, and of what stands only in them and in signatures
abbrev pub is_bare : Kind → Bool
is_bare kind.NameList = true
is_bare kind.DeclaredName = true
is_bare kind.Signature = true
is_bare kind.Parameters = true
is_bare kind.Parameter = true
is_bare kind.Results = true
is_bare kind.ParenthesizedType = true
is_bare kind.SequenceType = true
is_bare kind.FunctionType = true
is_bare kind.StructType = true
is_bare kind.Fields = true
is_bare kind.Name = true
is_bare kind.Integer = true
is_bare kind.Rune = true
is_bare kind.Text = true
is_bare kind.Parenthesized = true
is_bare (kind.Unary s) = true
is_bare (kind.Binary o) = true
is_bare kind.Selector = true
is_bare kind.Bracketed = true
is_bare kind.Bounds = true
is_bare kind.BoundsFrom = true
is_bare kind.Call = true
is_bare kind.Composite = true
is_bare kind.LiteralValue = true
is_bare kind.Keyed = true
is_bare kind.ExpressionList = true
is_bare k = false

-- and their categories
abbrev pub has_bare : Category → Bool
has_bare category.NameList = true
has_bare category.DeclaredName = true
has_bare category.Signature = true
has_bare category.Parameters = true
has_bare category.Entry = true
has_bare category.Result = true
has_bare category.Type = true
has_bare category.Fields = true
has_bare (category.Expression l p) = true
has_bare (category.LiteralType p) = true
has_bare category.Name = true
has_bare category.Bracket = true
has_bare category.Element = true
has_bare category.Value = true
has_bare (category.ExpressionList p) = true
has_bare c = false

abbrev pub all_bare : Rule → Bool
all_bare (End ws) = true
all_bare (Then ws c r) = has_bare c && all_bare r
all_bare (Maybe ws c r) = has_bare c && all_bare r
all_bare (Unless ws c us r) = has_bare c && all_bare r
all_bare (Many ws l) = has_bare (item l)

type_bare : (k : Kind) → is_type k ≡ true → is_bare k ≡ true
type_bare kind.Name h = refl
type_bare kind.ParenthesizedType h = refl
type_bare kind.SequenceType h = refl
type_bare kind.FunctionType h = refl
type_bare kind.StructType h = refl
type_bare k h = cc

result_bare : (k : Kind) → is_result k ≡ true → is_bare k ≡ true
result_bare kind.Name h = refl
result_bare kind.SequenceType h = refl
result_bare kind.FunctionType h = refl
result_bare kind.StructType h = refl
result_bare kind.Results h = refl
result_bare k h = cc

loose : (l : Level) → nat_le (rank l) 0 ≡ true → ⊥
loose level.Either h = cc
loose level.Both h = cc
loose level.Comparison h = cc
loose level.Sum h = cc
loose level.Product h = cc
loose level.Unary h = cc
loose level.Primary h = cc

expression_bare : (l : Level) (k : Kind) → nat_le (rank l) (tightness k) ≡ true → is_bare k ≡ true
expression_bare l kind.Name h = refl
expression_bare l kind.Integer h = refl
expression_bare l kind.Rune h = refl
expression_bare l kind.Text h = refl
expression_bare l kind.Parenthesized h = refl
expression_bare l kind.Selector h = refl
expression_bare l kind.Bracketed h = refl
expression_bare l kind.Call h = refl
expression_bare l kind.Composite h = refl
expression_bare l kind.SequenceType h = refl
expression_bare l kind.FunctionType h = refl
expression_bare l kind.StructType h = refl
expression_bare l (kind.Unary s) h = refl
expression_bare l (kind.Binary o) h = refl
expression_bare l k h = absurd (loose l h)

literal_bare : (p : Place) (k : Kind) → is_literal_type p k ≡ true → is_bare k ≡ true
literal_bare place.Free kind.Name h = refl
literal_bare p kind.SequenceType h = refl
literal_bare p kind.StructType h = refl
literal_bare place.Free k h = cc
literal_bare place.Header k h = cc

names_bare : (k : Kind) → within category.NameList k ≡ true → is_bare k ≡ true
names_bare kind.NameList h = refl
names_bare k h = cc

declared_bare : (k : Kind) → within category.DeclaredName k ≡ true → is_bare k ≡ true
declared_bare kind.DeclaredName h = refl
declared_bare k h = cc

signature_bare : (k : Kind) → within category.Signature k ≡ true → is_bare k ≡ true
signature_bare kind.Signature h = refl
signature_bare k h = cc

parameters_bare : (k : Kind) → within category.Parameters k ≡ true → is_bare k ≡ true
parameters_bare kind.Parameters h = refl
parameters_bare k h = cc

entry_bare : (k : Kind) → within category.Entry k ≡ true → is_bare k ≡ true
entry_bare kind.Parameter h = refl
entry_bare k h = type_bare k h

fields_bare : (k : Kind) → within category.Fields k ≡ true → is_bare k ≡ true
fields_bare kind.Fields h = refl
fields_bare k h = cc

name_bare : (k : Kind) → within category.Name k ≡ true → is_bare k ≡ true
name_bare kind.Name h = refl
name_bare k h = cc

bracket_bare : (k : Kind) → within category.Bracket k ≡ true → is_bare k ≡ true
bracket_bare kind.Bounds h = refl
bracket_bare kind.BoundsFrom h = refl
bracket_bare k h = expression_bare level.Either k h

element_bare : (k : Kind) → within category.Element k ≡ true → is_bare k ≡ true
element_bare kind.LiteralValue h = refl
element_bare kind.Keyed h = refl
element_bare k h = expression_bare level.Either k h

value_bare : (k : Kind) → within category.Value k ≡ true → is_bare k ≡ true
value_bare kind.LiteralValue h = refl
value_bare k h = expression_bare level.Either k h

list_bare : (p : Place) (k : Kind) → within (category.ExpressionList p) k ≡ true → is_bare k ≡ true
list_bare p kind.ExpressionList h = refl
list_bare p k h = cc

pub within_bare : (c : Category) (k : Kind) → has_bare c ≡ true → within c k ≡ true → is_bare k ≡ true
within_bare category.NameList k e h = names_bare k h
within_bare category.DeclaredName k e h = declared_bare k h
within_bare category.Signature k e h = signature_bare k h
within_bare category.Parameters k e h = parameters_bare k h
within_bare category.Entry k e h = entry_bare k h
within_bare category.Result k e h = result_bare k h
within_bare category.Type k e h = type_bare k h
within_bare category.Fields k e h = fields_bare k h
within_bare (category.Expression l p) k e h = expression_bare l k h
within_bare (category.LiteralType p) k e h = literal_bare p k h
within_bare category.Name k e h = name_bare k h
within_bare category.Bracket k e h = bracket_bare k h
within_bare category.Element k e h = element_bare k h
within_bare category.Value k e h = value_bare k h
within_bare (category.ExpressionList p) k e h = list_bare p k h
within_bare c k e h = let no : false ≡ true = e in cc

pub rule_bare : (p : Place) (k : Kind) → is_bare k ≡ true → all_bare (rule p k) ≡ true
rule_bare p kind.NameList e = refl
rule_bare p kind.DeclaredName e = refl
rule_bare p kind.Signature e = refl
rule_bare p kind.Parameters e = refl
rule_bare p kind.Parameter e = refl
rule_bare p kind.Results e = refl
rule_bare p kind.ParenthesizedType e = refl
rule_bare p kind.SequenceType e = refl
rule_bare p kind.FunctionType e = refl
rule_bare p kind.StructType e = refl
rule_bare p kind.Fields e = refl
rule_bare p kind.Name e = refl
rule_bare p kind.Integer e = refl
rule_bare p kind.Rune e = refl
rule_bare p kind.Text e = refl
rule_bare p kind.Parenthesized e = refl
rule_bare p (kind.Unary s) e = refl
rule_bare p (kind.Binary o) e = refl
rule_bare p kind.Selector e = refl
rule_bare p kind.Bracketed e = refl
rule_bare p kind.Bounds e = refl
rule_bare p kind.BoundsFrom e = refl
rule_bare p kind.Call e = refl
rule_bare p kind.Composite e = refl
rule_bare p kind.LiteralValue e = refl
rule_bare p kind.Keyed e = refl
rule_bare p kind.ExpressionList e = refl
rule_bare p k e = let no : false ≡ true = e in cc

-- ---- trees of expressions and types

abbrev mutual
  pub IsBare : Tree → Type 0
  IsBare (node k i j ps) = (is_bare k ≡ true) × AreBare ps

  pub AreBare : Trees → Type 0
  AreBare none = Unit
  AreBare (more p ps) = IsBare p × AreBare ps
  AreBare (skip ps) = AreBare ps

module _ (ts : List TokenKind) where
  mutual
    pub derives_bare : (t : Tree) (c : Category) → has_bare c ≡ true → Derives ts c t → IsBare t
    derives_bare (node k i j ps) c e h =
        let bare : is_bare k ≡ true = within_bare c k e h.0 in
        (bare, spells_bare ps (rule (place_of c) k) i j (rule_bare (place_of c) k bare) h.1)

    spells_bare : (ps : Trees) (r : Rule) (i j : ℕ) → all_bare r ≡ true → Spells ts r i ps j → AreBare ps
    spells_bare none r i j e h = tt
    spells_bare (more p ps) (End ws) i j e h = absurd h
    spells_bare (skip ps) (End ws) i j e h = absurd h
    spells_bare (more p ps) (Then ws c r) i j e h = let b = and_both (has_bare c) (all_bare r) e in (derives_bare p c b.0 h.1, spells_bare ps r (last p) j b.1 h.2)
    spells_bare (skip ps) (Then ws c r) i j e h = absurd h
    spells_bare (more p ps) (Maybe ws c r) i j e h = let b = and_both (has_bare c) (all_bare r) e in (derives_bare p c b.0 h.1, spells_bare ps r (last p) j b.1 h.2)
    spells_bare (skip ps) (Maybe ws c r) i j e h = spells_bare ps r h.0 j (and_both (has_bare c) (all_bare r) e).1 h.2
    spells_bare (more p ps) (Unless ws c us r) i j e h = let b = and_both (has_bare c) (all_bare r) e in (derives_bare p c b.0 h.1, spells_bare ps r (last p) j b.1 h.2)
    spells_bare (skip ps) (Unless ws c us r) i j e h = spells_bare ps r h.0 j (and_both (has_bare c) (all_bare r) e).1 h.3
    spells_bare (more p ps) (Many ws l) i j e h = (derives_bare p (item l) e h.3, goes_bare ps l (last p) j e h.4)
    spells_bare (skip ps) (Many ws l) i j e h = absurd h

    goes_bare : (ps : Trees) (l : Items) (i j : ℕ) → has_bare (item l) ≡ true → Goes ts l i ps j → AreBare ps
    goes_bare none l i j e h = tt
    goes_bare (more p ps) l i j e h = (derives_bare p (item l) e h.3, goes_bare ps l (last p) j e h.4)
    goes_bare (skip ps) l i j e h = absurd h
