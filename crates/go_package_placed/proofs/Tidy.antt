-- Expressions and types hold expressions and types alone, and lists of names, fields and parameters stand only where they belong.
use Rattle.std.proofs.Common.{◌≡◌, ℕ, Bool, true, false, List, refl}
use Rattle.std.specs.Prelude.{◌&&◌, not, nat_le}
use Rattle.go_tokens.specs.declared.token.TokenKind.{TokenKind}
use Rattle.go_grammar.specs.declared.kind.Kind.{Kind}
use Rattle.go_grammar.specs.declared.kind.Kind.TheVariants as kind
use Rattle.go_grammar.specs.declared.kind.Level.{Level}
use Rattle.go_grammar.specs.declared.kind.Level.TheVariants as level
use Rattle.go_grammar.specs.declared.kind.Place.{Place}
use Rattle.go_grammar.specs.declared.kind.Place.TheVariants as place
use Rattle.go_grammar.specs.declared.kind.Category.{Category}
use Rattle.go_grammar.specs.declared.kind.Category.TheVariants as category
use Rattle.go_grammar.specs.Operators.{rank}
use Rattle.go_grammar.specs.Categories.{within, place_of, tightness, is_type, is_result, is_literal_type}
use Rattle.go_grammar.specs.Rules.{Items, Rule, End, Then, Maybe, Unless, Many, item}
use Rattle.go_grammar.specs.Trees.{Tree, node, Trees, none, more, skip, kind_of, last}
use Rattle.go_grammar.specs.Grammar.{rule, Derives, Spells, Goes, is_name, is_parameter}
use Rattle.go_scopes_events.proofs.Public.{Holding, and_both, layer}

-- the kinds of expressions and types, and of what stands in them
abbrev pub is_simple : Kind → Bool
is_simple kind.NameList = true
is_simple kind.DeclaredName = true
is_simple kind.Signature = true
is_simple kind.Parameters = true
is_simple kind.Parameter = true
is_simple kind.Results = true
is_simple kind.ParenthesizedType = true
is_simple kind.SequenceType = true
is_simple kind.FunctionType = true
is_simple kind.StructType = true
is_simple kind.Fields = true
is_simple kind.Name = true
is_simple kind.Integer = true
is_simple kind.Rune = true
is_simple kind.Text = true
is_simple kind.Parenthesized = true
is_simple (kind.Unary s) = true
is_simple (kind.Binary o) = true
is_simple kind.Selector = true
is_simple kind.Bracketed = true
is_simple kind.Bounds = true
is_simple kind.BoundsFrom = true
is_simple kind.Call = true
is_simple kind.Composite = true
is_simple kind.LiteralValue = true
is_simple kind.Keyed = true
is_simple k = false

-- ---- where kinds stand

abbrev pub is_declared_name : Kind → Bool
is_declared_name kind.DeclaredName = true
is_declared_name k = false

abbrev pub is_name_list : Kind → Bool
is_name_list kind.NameList = true
is_name_list k = false

-- whether a node of the second kind may be a part of one of the first; b says whether it is its first part
abbrev pub may_stand : Kind → Bool → Kind → Bool
may_stand kind.NameList b q = is_declared_name q
may_stand kind.Fields true q = is_name_list q
may_stand kind.Parameter true q = is_name q
may_stand kind.Keyed true q = is_name q
may_stand kind.Parameters b q = true
may_stand k b q = not (is_parameter q)

abbrev mutual
  -- all nodes of the tree are of these kinds, and stand where they may
  pub IsTidy : Tree → Type 0
  IsTidy (node k i j ps) = (is_simple k ≡ true) × AreTidy k true ps

  pub AreTidy : Kind → Bool → Trees → Type 0
  AreTidy k b none = Unit {0}
  AreTidy k b (more p ps) = (may_stand k b (kind_of p) ≡ true) × IsTidy p × AreTidy k false ps
  AreTidy k b (skip ps) = AreTidy k false ps

-- their categories
abbrev has_simple : Category → Bool
has_simple category.NameList = true
has_simple category.DeclaredName = true
has_simple category.Signature = true
has_simple category.Parameters = true
has_simple category.Entry = true
has_simple category.Result = true
has_simple category.Type = true
has_simple category.Fields = true
has_simple (category.Expression l p) = true
has_simple (category.LiteralType p) = true
has_simple category.Name = true
has_simple category.Bracket = true
has_simple category.Element = true
has_simple category.Value = true
has_simple c = false

abbrev is_declared : Category → Bool
is_declared category.DeclaredName = true
is_declared c = false

abbrev is_list : Category → Bool
is_list category.NameList = true
is_list c = false

abbrev is_single : Category → Bool
is_single category.Name = true
is_single c = false

abbrev is_entry : Category → Bool
is_entry category.Entry = true
is_entry c = false

-- the categories of such parts
abbrev may_hold : Kind → Bool → Category → Bool
may_hold kind.NameList b c = is_declared c
may_hold kind.Fields true c = is_list c
may_hold kind.Parameter true c = is_single c
may_hold kind.Keyed true c = is_single c
may_hold kind.Parameters b c = true
may_hold k b c = not (is_entry c)

abbrev all_hold : Kind → Bool → Rule → Bool
all_hold k b (End ws) = true
all_hold k b (Then ws c r) = has_simple c && (may_hold k b c && all_hold k false r)
all_hold k b (Maybe ws c r) = has_simple c && (may_hold k b c && all_hold k false r)
all_hold k b (Unless ws c us r) = has_simple c && (may_hold k b c && all_hold k false r)
all_hold k b (Many ws l) = has_simple (item l) && (may_hold k b (item l) && may_hold k false (item l))

-- ---- kinds of categories

type_simple : (k : Kind) → is_type k ≡ true → is_simple k ≡ true
type_simple kind.Name h = refl
type_simple kind.ParenthesizedType h = refl
type_simple kind.SequenceType h = refl
type_simple kind.FunctionType h = refl
type_simple kind.StructType h = refl
type_simple k h = cc

result_simple : (k : Kind) → is_result k ≡ true → is_simple k ≡ true
result_simple kind.Name h = refl
result_simple kind.SequenceType h = refl
result_simple kind.FunctionType h = refl
result_simple kind.StructType h = refl
result_simple kind.Results h = refl
result_simple k h = cc

no_level : (l : Level) → nat_le (rank l) 0 ≡ true → ⊥
no_level level.Either h = cc
no_level level.Both h = cc
no_level level.Comparison h = cc
no_level level.Sum h = cc
no_level level.Product h = cc
no_level level.Unary h = cc
no_level level.Primary h = cc

expression_simple : (l : Level) (k : Kind) → nat_le (rank l) (tightness k) ≡ true → is_simple k ≡ true
expression_simple l kind.Name h = refl
expression_simple l kind.Integer h = refl
expression_simple l kind.Rune h = refl
expression_simple l kind.Text h = refl
expression_simple l kind.Parenthesized h = refl
expression_simple l kind.Selector h = refl
expression_simple l kind.Bracketed h = refl
expression_simple l kind.Call h = refl
expression_simple l kind.Composite h = refl
expression_simple l kind.SequenceType h = refl
expression_simple l kind.FunctionType h = refl
expression_simple l kind.StructType h = refl
expression_simple l (kind.Unary s) h = refl
expression_simple l (kind.Binary o) h = refl
expression_simple l k h = absurd (no_level l h)

literal_simple : (p : Place) (k : Kind) → is_literal_type p k ≡ true → is_simple k ≡ true
literal_simple place.Free kind.Name h = refl
literal_simple p kind.SequenceType h = refl
literal_simple p kind.StructType h = refl
literal_simple place.Free k h = cc
literal_simple place.Header k h = cc

names_simple : (k : Kind) → within category.NameList k ≡ true → is_simple k ≡ true
names_simple kind.NameList h = refl
names_simple k h = cc

declared_simple : (k : Kind) → within category.DeclaredName k ≡ true → is_simple k ≡ true
declared_simple kind.DeclaredName h = refl
declared_simple k h = cc

signature_simple : (k : Kind) → within category.Signature k ≡ true → is_simple k ≡ true
signature_simple kind.Signature h = refl
signature_simple k h = cc

parameters_simple : (k : Kind) → within category.Parameters k ≡ true → is_simple k ≡ true
parameters_simple kind.Parameters h = refl
parameters_simple k h = cc

entry_simple : (k : Kind) → within category.Entry k ≡ true → is_simple k ≡ true
entry_simple kind.Parameter h = refl
entry_simple k h = type_simple k h

fields_simple : (k : Kind) → within category.Fields k ≡ true → is_simple k ≡ true
fields_simple kind.Fields h = refl
fields_simple k h = cc

name_simple : (k : Kind) → within category.Name k ≡ true → is_simple k ≡ true
name_simple kind.Name h = refl
name_simple k h = cc

bracket_simple : (k : Kind) → within category.Bracket k ≡ true → is_simple k ≡ true
bracket_simple kind.Bounds h = refl
bracket_simple kind.BoundsFrom h = refl
bracket_simple k h = expression_simple level.Either k h

element_simple : (k : Kind) → within category.Element k ≡ true → is_simple k ≡ true
element_simple kind.LiteralValue h = refl
element_simple kind.Keyed h = refl
element_simple k h = expression_simple level.Either k h

value_simple : (k : Kind) → within category.Value k ≡ true → is_simple k ≡ true
value_simple kind.LiteralValue h = refl
value_simple k h = expression_simple level.Either k h

within_simple : (c : Category) (k : Kind) → has_simple c ≡ true → within c k ≡ true → is_simple k ≡ true
within_simple category.NameList k e h = names_simple k h
within_simple category.DeclaredName k e h = declared_simple k h
within_simple category.Signature k e h = signature_simple k h
within_simple category.Parameters k e h = parameters_simple k h
within_simple category.Entry k e h = entry_simple k h
within_simple category.Result k e h = result_simple k h
within_simple category.Type k e h = type_simple k h
within_simple category.Fields k e h = fields_simple k h
within_simple (category.Expression l p) k e h = expression_simple l k h
within_simple (category.LiteralType p) k e h = literal_simple p k h
within_simple category.Name k e h = name_simple k h
within_simple category.Bracket k e h = bracket_simple k h
within_simple category.Element k e h = element_simple k h
within_simple category.Value k e h = value_simple k h
within_simple c k e h = let no : false ≡ true = e in cc

-- ---- parts

declared_stands : (c : Category) (q : Kind) → is_declared c ≡ true → within c q ≡ true → is_declared_name q ≡ true
declared_stands category.DeclaredName kind.DeclaredName e h = refl
declared_stands category.DeclaredName k e h = cc
declared_stands c q e h = let no : false ≡ true = e in cc

list_stands : (c : Category) (q : Kind) → is_list c ≡ true → within c q ≡ true → is_name_list q ≡ true
list_stands category.NameList kind.NameList e h = refl
list_stands category.NameList k e h = cc
list_stands c q e h = let no : false ≡ true = e in cc

single_stands : (c : Category) (q : Kind) → is_single c ≡ true → within c q ≡ true → is_name q ≡ true
single_stands category.Name kind.Name e h = refl
single_stands category.Name k e h = cc
single_stands c q e h = let no : false ≡ true = e in cc

-- a parameter stands among entries alone
entries_alone : (c : Category) → not (is_entry c) ≡ true → within c kind.Parameter ≡ true → false ≡ true
entries_alone category.Entry e h = e
entries_alone (category.Expression l p) e h = absurd (no_level l h)
entries_alone (category.LiteralType place.Free) e h = h
entries_alone (category.LiteralType place.Header) e h = h
entries_alone c e h = h

pub other_stands : (c : Category) (q : Kind) → not (is_entry c) ≡ true → within c q ≡ true → not (is_parameter q) ≡ true
other_stands c kind.Parameter e h = entries_alone c e h
other_stands c q e h = refl

holds_stands : (k : Kind) (b : Bool) (c : Category) (q : Kind) → may_hold k b c ≡ true → within c q ≡ true → may_stand k b q ≡ true
holds_stands kind.NameList b c q e h = declared_stands c q e h
holds_stands kind.Fields true c q e h = list_stands c q e h
holds_stands kind.Parameter true c q e h = single_stands c q e h
holds_stands kind.Keyed true c q e h = single_stands c q e h
holds_stands kind.Parameters b c q e h = refl
holds_stands k b c q e h = other_stands c q e h

rule_holds : (p : Place) (k : Kind) → is_simple k ≡ true → all_hold k true (rule p k) ≡ true
rule_holds p kind.NameList e = refl
rule_holds p kind.DeclaredName e = refl
rule_holds p kind.Signature e = refl
rule_holds p kind.Parameters e = refl
rule_holds p kind.Parameter e = refl
rule_holds p kind.Results e = refl
rule_holds p kind.ParenthesizedType e = refl
rule_holds p kind.SequenceType e = refl
rule_holds p kind.FunctionType e = refl
rule_holds p kind.StructType e = refl
rule_holds p kind.Fields e = refl
rule_holds p kind.Name e = refl
rule_holds p kind.Integer e = refl
rule_holds p kind.Rune e = refl
rule_holds p kind.Text e = refl
rule_holds p kind.Parenthesized e = refl
rule_holds p (kind.Unary s) e = refl
rule_holds p (kind.Binary o) e = refl
rule_holds p kind.Selector e = refl
rule_holds p kind.Bracketed e = refl
rule_holds p kind.Bounds e = refl
rule_holds p kind.BoundsFrom e = refl
rule_holds p kind.Call e = refl
rule_holds p kind.Composite e = refl
rule_holds p kind.LiteralValue e = refl
rule_holds p kind.Keyed e = refl
rule_holds p k e = let no : false ≡ true = e in cc

pub simple_holds : (k : Kind) → is_simple k ≡ true → layer k ≡ Holding
simple_holds (kind.Specification s) e = let no : false ≡ true = e in cc
simple_holds kind.Define e = let no : false ≡ true = e in cc
simple_holds kind.DefiningRange e = let no : false ≡ true = e in cc
simple_holds kind.FunctionDeclaration e = let no : false ≡ true = e in cc
simple_holds k e = refl

pub part_within : (ts : List TokenKind) (c : Category) (p : Tree) → Derives ts c p → within c (kind_of p) ≡ true
part_within ts c (node k i j ps) h = h.0

module _ (ts : List TokenKind) (k : Kind) (b : Bool) (c : Category) (x : Bool) (e : (has_simple c && (may_hold k b c && x)) ≡ true) where
  part_tidy : (p : Tree) (ps : Trees) → Derives ts c p → (has_simple c ≡ true → IsTidy p) → (x ≡ true → AreTidy k false ps) → AreTidy k b (more p ps)
  part_tidy p ps h f g =
      let a = and_both (has_simple c) (may_hold k b c && x) e in
      let d = and_both (may_hold k b c) x a.1 in
      (holds_stands k b c (kind_of p) d.0 (part_within ts c p h), f a.0, g d.1)

  skip_tidy : x ≡ true
  skip_tidy = (and_both (may_hold k b c) x (and_both (has_simple c) (may_hold k b c && x) e).1).1

module _ (ts : List TokenKind) where
  mutual
    derives_tidy : (t : Tree) (c : Category) → has_simple c ≡ true → Derives ts c t → IsTidy t
    derives_tidy (node k i j ps) c e h =
        let simple : is_simple k ≡ true = within_simple c k e h.0 in
        (simple, spells_tidy k true ps (rule (place_of c) k) i j (rule_holds (place_of c) k simple) h.1)

    spells_tidy : (k : Kind) (b : Bool) (ps : Trees) (r : Rule) (i j : ℕ) → all_hold k b r ≡ true → Spells ts r i ps j → AreTidy k b ps
    spells_tidy k b none r i j e h = tt
    spells_tidy k b (more p ps) (End ws) i j e h = absurd h
    spells_tidy k b (skip ps) (End ws) i j e h = absurd h
    spells_tidy k b (more p ps) (Then ws c r) i j e h = part_tidy ts k b c (all_hold k false r) e p ps h.1 (λ s. derives_tidy p c s h.1) (λ x. spells_tidy k false ps r (last p) j x h.2)
    spells_tidy k b (skip ps) (Then ws c r) i j e h = absurd h
    spells_tidy k b (more p ps) (Maybe ws c r) i j e h = part_tidy ts k b c (all_hold k false r) e p ps h.1 (λ s. derives_tidy p c s h.1) (λ x. spells_tidy k false ps r (last p) j x h.2)
    spells_tidy k b (skip ps) (Maybe ws c r) i j e h = spells_tidy k false ps r h.0 j (skip_tidy ts k b c (all_hold k false r) e) h.2
    spells_tidy k b (more p ps) (Unless ws c us r) i j e h = part_tidy ts k b c (all_hold k false r) e p ps h.1 (λ s. derives_tidy p c s h.1) (λ x. spells_tidy k false ps r (last p) j x h.2)
    spells_tidy k b (skip ps) (Unless ws c us r) i j e h = spells_tidy k false ps r h.0 j (skip_tidy ts k b c (all_hold k false r) e) h.3
    spells_tidy k b (more p ps) (Many ws l) i j e h =
        let s : has_simple (item l) ≡ true = (and_both (has_simple (item l)) (may_hold k b (item l) && may_hold k false (item l)) e).0 in
        part_tidy ts k b (item l) (may_hold k false (item l)) e p ps h.3 (λ z. derives_tidy p (item l) z h.3) (λ x. goes_tidy k ps l (last p) j s x h.4)
    spells_tidy k b (skip ps) (Many ws l) i j e h = absurd h

    goes_tidy : (k : Kind) (ps : Trees) (l : Items) (i j : ℕ) → has_simple (item l) ≡ true → may_hold k false (item l) ≡ true → Goes ts l i ps j → AreTidy k false ps
    goes_tidy k none l i j s e h = tt
    goes_tidy k (more p ps) l i j s e h = (holds_stands k false (item l) (kind_of p) e (part_within ts (item l) p h.3), derives_tidy p (item l) s h.3, goes_tidy k ps l (last p) j s e h.4)
    goes_tidy k (skip ps) l i j s e h = absurd h

  pub expression_is_tidy : (l : Level) (p : Place) (t : Tree) → Derives ts (category.Expression l p) t → IsTidy t
  expression_is_tidy l p t h = derives_tidy t (category.Expression l p) refl h

  pub type_is_tidy : (t : Tree) → Derives ts category.Type t → IsTidy t
  type_is_tidy t h = derives_tidy t category.Type refl h

  pub signature_is_tidy : (t : Tree) → Derives ts category.Signature t → IsTidy t
  signature_is_tidy t h = derives_tidy t category.Signature refl h
