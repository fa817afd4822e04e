-- Expressions and types hold expressions and types alone: no specification, no statement and no list of values.
use Rattle.std.proofs.Common.{◌≡◌, ℕ, Bool, true, false, List, refl}
use Rattle.std.specs.Prelude.{◌&&◌, nat_le}
use Rattle.go_tokens.specs.declared.token.TokenKind.{TokenKind}
use Rattle.go_grammar.specs.declared.kind.Kind.{Kind}
use Rattle.go_grammar.specs.declared.kind.Kind.TheVariants as kind
use Rattle.go_grammar.specs.declared.kind.Level.{Level}
use Rattle.go_grammar.specs.declared.kind.Level.TheVariants as level
use Rattle.go_grammar.specs.declared.kind.Place.{Place}
use Rattle.go_grammar.specs.declared.kind.Place.TheVariants as place
use Rattle.go_grammar.specs.declared.kind.Category.{Category}
use Rattle.go_grammar.specs.declared.kind.Category.TheVariants as category
use Rattle.go_grammar.specs.Operators.{rank}
use Rattle.go_grammar.specs.Categories.{within, place_of, tightness, is_type, is_result, is_literal_type}
use Rattle.go_grammar.specs.Rules.{Items, Rule, End, Then, Maybe, Unless, Many, item}
use Rattle.go_grammar.specs.Trees.{Tree, node, Trees, none, more, skip, last}
use Rattle.go_grammar.specs.Grammar.{rule, Derives, Spells, Goes}
use Rattle.go_scopes_events.proofs.Public.{Holding, and_both, layer}

-- the kinds of expressions and types, and of what stands in them
abbrev pub is_simple : Kind → Bool
is_simple kind.NameList = true
is_simple kind.DeclaredName = true
is_simple kind.Signature = true
is_simple kind.Parameters = true
is_simple kind.Parameter = true
is_simple kind.Results = true
is_simple kind.ParenthesizedType = true
is_simple kind.SequenceType = true
is_simple kind.FunctionType = true
is_simple kind.StructType = true
is_simple kind.Fields = true
is_simple kind.Name = true
is_simple kind.Integer = true
is_simple kind.Rune = true
is_simple kind.Text = true
is_simple kind.Parenthesized = true
is_simple (kind.Unary s) = true
is_simple (kind.Binary o) = true
is_simple kind.Selector = true
is_simple kind.Bracketed = true
is_simple kind.Bounds = true
is_simple kind.BoundsFrom = true
is_simple kind.Call = true
is_simple kind.Composite = true
is_simple kind.LiteralValue = true
is_simple kind.Keyed = true
is_simple k = false

abbrev mutual
  -- all nodes of the tree are of these kinds
  pub IsSimple : Tree → Type 0
  IsSimple (node k i j ps) = (is_simple k ≡ true) × AreSimple ps

  pub AreSimple : Trees → Type 0
  AreSimple none = Unit {0}
  AreSimple (more p ps) = IsSimple p × AreSimple ps
  AreSimple (skip ps) = AreSimple ps

-- their categories
abbrev has_simple : Category → Bool
has_simple category.NameList = true
has_simple category.DeclaredName = true
has_simple category.Signature = true
has_simple category.Parameters = true
has_simple category.Entry = true
has_simple category.Result = true
has_simple category.Type = true
has_simple category.Fields = true
has_simple (category.Expression l p) = true
has_simple (category.LiteralType p) = true
has_simple category.Name = true
has_simple category.Bracket = true
has_simple category.Element = true
has_simple category.Value = true
has_simple c = false

abbrev all_simple : Rule → Bool
all_simple (End ws) = true
all_simple (Then ws c r) = has_simple c && all_simple r
all_simple (Maybe ws c r) = has_simple c && all_simple r
all_simple (Unless ws c us r) = has_simple c && all_simple r
all_simple (Many ws l) = has_simple (item l)

type_simple : (k : Kind) → is_type k ≡ true → is_simple k ≡ true
type_simple kind.Name h = refl
type_simple kind.ParenthesizedType h = refl
type_simple kind.SequenceType h = refl
type_simple kind.FunctionType h = refl
type_simple kind.StructType h = refl
type_simple k h = cc

result_simple : (k : Kind) → is_result k ≡ true → is_simple k ≡ true
result_simple kind.Name h = refl
result_simple kind.SequenceType h = refl
result_simple kind.FunctionType h = refl
result_simple kind.StructType h = refl
result_simple kind.Results h = refl
result_simple k h = cc

no_level : (l : Level) → nat_le (rank l) 0 ≡ true → ⊥
no_level level.Either h = cc
no_level level.Both h = cc
no_level level.Comparison h = cc
no_level level.Sum h = cc
no_level level.Product h = cc
no_level level.Unary h = cc
no_level level.Primary h = cc

expression_simple : (l : Level) (k : Kind) → nat_le (rank l) (tightness k) ≡ true → is_simple k ≡ true
expression_simple l kind.Name h = refl
expression_simple l kind.Integer h = refl
expression_simple l kind.Rune h = refl
expression_simple l kind.Text h = refl
expression_simple l kind.Parenthesized h = refl
expression_simple l kind.Selector h = refl
expression_simple l kind.Bracketed h = refl
expression_simple l kind.Call h = refl
expression_simple l kind.Composite h = refl
expression_simple l kind.SequenceType h = refl
expression_simple l kind.FunctionType h = refl
expression_simple l kind.StructType h = refl
expression_simple l (kind.Unary s) h = refl
expression_simple l (kind.Binary o) h = refl
expression_simple l k h = absurd (no_level l h)

literal_simple : (p : Place) (k : Kind) → is_literal_type p k ≡ true → is_simple k ≡ true
literal_simple place.Free kind.Name h = refl
literal_simple p kind.SequenceType h = refl
literal_simple p kind.StructType h = refl
literal_simple place.Free k h = cc
literal_simple place.Header k h = cc

names_simple : (k : Kind) → within category.NameList k ≡ true → is_simple k ≡ true
names_simple kind.NameList h = refl
names_simple k h = cc

declared_simple : (k : Kind) → within category.DeclaredName k ≡ true → is_simple k ≡ true
declared_simple kind.DeclaredName h = refl
declared_simple k h = cc

signature_simple : (k : Kind) → within category.Signature k ≡ true → is_simple k ≡ true
signature_simple kind.Signature h = refl
signature_simple k h = cc

parameters_simple : (k : Kind) → within category.Parameters k ≡ true → is_simple k ≡ true
parameters_simple kind.Parameters h = refl
parameters_simple k h = cc

entry_simple : (k : Kind) → within category.Entry k ≡ true → is_simple k ≡ true
entry_simple kind.Parameter h = refl
entry_simple k h = type_simple k h

fields_simple : (k : Kind) → within category.Fields k ≡ true → is_simple k ≡ true
fields_simple kind.Fields h = refl
fields_simple k h = cc

name_simple : (k : Kind) → within category.Name k ≡ true → is_simple k ≡ true
name_simple kind.Name h = refl
name_simple k h = cc

bracket_simple : (k : Kind) → within category.Bracket k ≡ true → is_simple k ≡ true
bracket_simple kind.Bounds h = refl
bracket_simple kind.BoundsFrom h = refl
bracket_simple k h = expression_simple level.Either k h

element_simple : (k : Kind) → within category.Element k ≡ true → is_simple k ≡ true
element_simple kind.LiteralValue h = refl
element_simple kind.Keyed h = refl
element_simple k h = expression_simple level.Either k h

value_simple : (k : Kind) → within category.Value k ≡ true → is_simple k ≡ true
value_simple kind.LiteralValue h = refl
value_simple k h = expression_simple level.Either k h

within_simple : (c : Category) (k : Kind) → has_simple c ≡ true → within c k ≡ true → is_simple k ≡ true
within_simple category.NameList k e h = names_simple k h
within_simple category.DeclaredName k e h = declared_simple k h
within_simple category.Signature k e h = signature_simple k h
within_simple category.Parameters k e h = parameters_simple k h
within_simple category.Entry k e h = entry_simple k h
within_simple category.Result k e h = result_simple k h
within_simple category.Type k e h = type_simple k h
within_simple category.Fields k e h = fields_simple k h
within_simple (category.Expression l p) k e h = expression_simple l k h
within_simple (category.LiteralType p) k e h = literal_simple p k h
within_simple category.Name k e h = name_simple k h
within_simple category.Bracket k e h = bracket_simple k h
within_simple category.Element k e h = element_simple k h
within_simple category.Value k e h = value_simple k h
within_simple c k e h = let no : false ≡ true = e in cc

rule_simple : (p : Place) (k : Kind) → is_simple k ≡ true → all_simple (rule p k) ≡ true
rule_simple p kind.NameList e = refl
rule_simple p kind.DeclaredName e = refl
rule_simple p kind.Signature e = refl
rule_simple p kind.Parameters e = refl
rule_simple p kind.Parameter e = refl
rule_simple p kind.Results e = refl
rule_simple p kind.ParenthesizedType e = refl
rule_simple p kind.SequenceType e = refl
rule_simple p kind.FunctionType e = refl
rule_simple p kind.StructType e = refl
rule_simple p kind.Fields e = refl
rule_simple p kind.Name e = refl
rule_simple p kind.Integer e = refl
rule_simple p kind.Rune e = refl
rule_simple p kind.Text e = refl
rule_simple p kind.Parenthesized e = refl
rule_simple p (kind.Unary s) e = refl
rule_simple p (kind.Binary o) e = refl
rule_simple p kind.Selector e = refl
rule_simple p kind.Bracketed e = refl
rule_simple p kind.Bounds e = refl
rule_simple p kind.BoundsFrom e = refl
rule_simple p kind.Call e = refl
rule_simple p kind.Composite e = refl
rule_simple p kind.LiteralValue e = refl
rule_simple p kind.Keyed e = refl
rule_simple p k e = let no : false ≡ true = e in cc

pub simple_holds : (k : Kind) → is_simple k ≡ true → layer k ≡ Holding
simple_holds (kind.Specification s) e = let no : false ≡ true = e in cc
simple_holds kind.Define e = let no : false ≡ true = e in cc
simple_holds kind.DefiningRange e = let no : false ≡ true = e in cc
simple_holds kind.FunctionDeclaration e = let no : false ≡ true = e in cc
simple_holds k e = refl

module _ (ts : List TokenKind) where
  mutual
    derives_simple : (t : Tree) (c : Category) → has_simple c ≡ true → Derives ts c t → IsSimple t
    derives_simple (node k i j ps) c e h =
        let simple : is_simple k ≡ true = within_simple c k e h.0 in
        (simple, spells_simple ps (rule (place_of c) k) i j (rule_simple (place_of c) k simple) h.1)

    spells_simple : (ps : Trees) (r : Rule) (i j : ℕ) → all_simple r ≡ true → Spells ts r i ps j → AreSimple ps
    spells_simple none r i j e h = tt
    spells_simple (more p ps) (End ws) i j e h = absurd h
    spells_simple (skip ps) (End ws) i j e h = absurd h
    spells_simple (more p ps) (Then ws c r) i j e h = let b = and_both (has_simple c) (all_simple r) e in (derives_simple p c b.0 h.1, spells_simple ps r (last p) j b.1 h.2)
    spells_simple (skip ps) (Then ws c r) i j e h = absurd h
    spells_simple (more p ps) (Maybe ws c r) i j e h = let b = and_both (has_simple c) (all_simple r) e in (derives_simple p c b.0 h.1, spells_simple ps r (last p) j b.1 h.2)
    spells_simple (skip ps) (Maybe ws c r) i j e h = spells_simple ps r h.0 j (and_both (has_simple c) (all_simple r) e).1 h.2
    spells_simple (more p ps) (Unless ws c us r) i j e h = let b = and_both (has_simple c) (all_simple r) e in (derives_simple p c b.0 h.1, spells_simple ps r (last p) j b.1 h.2)
    spells_simple (skip ps) (Unless ws c us r) i j e h = spells_simple ps r h.0 j (and_both (has_simple c) (all_simple r) e).1 h.3
    spells_simple (more p ps) (Many ws l) i j e h = (derives_simple p (item l) e h.3, goes_simple ps l (last p) j e h.4)
    spells_simple (skip ps) (Many ws l) i j e h = absurd h

    goes_simple : (ps : Trees) (l : Items) (i j : ℕ) → has_simple (item l) ≡ true → Goes ts l i ps j → AreSimple ps
    goes_simple none l i j e h = tt
    goes_simple (more p ps) l i j e h = (derives_simple p (item l) e h.3, goes_simple ps l (last p) j e h.4)
    goes_simple (skip ps) l i j e h = absurd h

  pub expression_is_simple : (l : Level) (p : Place) (t : Tree) → Derives ts (category.Expression l p) t → IsSimple t
  expression_is_simple l p t h = derives_simple t (category.Expression l p) refl h

  pub type_is_simple : (t : Tree) → Derives ts category.Type t → IsSimple t
  type_is_simple t h = derives_simple t category.Type refl h

  pub signature_is_simple : (t : Tree) → Derives ts category.Signature t → IsSimple t
  signature_is_simple t h = derives_simple t category.Signature refl h

  -- ---- rows of items

  -- each part is there, and derived
  abbrev pub AllDerived : Category → Trees → Type 0
  AllDerived c none = Unit {0}
  AllDerived c (more p ps) = Derives ts c p × AllDerived c ps
  AllDerived c (skip ps) = ⊥

  goes_derived : (l : Items) (ps : Trees) (i j : ℕ) → Goes ts l i ps j → AllDerived (item l) ps
  goes_derived l none i j h = tt
  goes_derived l (more p ps) i j h = (h.3, goes_derived l ps (last p) j h.4)
  goes_derived l (skip ps) i j h = absurd h

  pub many_derived : (ws : List TokenKind) (l : Items) (ps : Trees) (i j : ℕ) → Spells ts (Many ws l) i ps j → AllDerived (item l) ps
  many_derived ws l none i j h = tt
  many_derived ws l (more p ps) i j h = (h.3, goes_derived l ps (last p) j h.4)
  many_derived ws l (skip ps) i j h = absurd h
