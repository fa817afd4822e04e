-- Where declarations stand in the tree of a file.
use Rattle.std.proofs.Common.{◌≡◌, ℕ, Bool, true, false, List, refl}
use Rattle.std.specs.Prelude.{◌&&◌, nat_le}
use Rattle.go_tokens.specs.declared.token.TokenKind.{TokenKind}
use Rattle.go_grammar.specs.declared.kind.Kind.{Kind}
use Rattle.go_grammar.specs.declared.kind.Kind.TheVariants as kind
use Rattle.go_grammar.specs.declared.kind.Sort.TheVariants as sort
use Rattle.go_grammar.specs.declared.kind.Level.{Level}
use Rattle.go_grammar.specs.declared.kind.Level.TheVariants as level
use Rattle.go_grammar.specs.declared.kind.Place.{Place}
use Rattle.go_grammar.specs.declared.kind.Place.TheVariants as place
use Rattle.go_grammar.specs.declared.kind.Category.{Category}
use Rattle.go_grammar.specs.declared.kind.Category.TheVariants as category
use Rattle.go_grammar.specs.Operators.{rank}
use Rattle.go_grammar.specs.Categories.{within, place_of, tightness, is_type, is_result, is_literal_type}
use Rattle.go_grammar.specs.Rules.{Items, Rule, End, Then, Maybe, Unless, Many, item}
use Rattle.go_grammar.specs.Trees.{Tree, node, Trees, none, more, skip, kind_of, last}
use Rattle.go_grammar.specs.Grammar.{rule, Derives, Spells, Goes}
use Rattle.go_tree.specs.Contexts.{opens}

-- what the parts of a node have to do with declarations
pub data Layer : Type 0 where
  -- they hold the names that the node declares, and declare none by themselves
  Naming : Layer
  -- the first is a signature, the others open a block
  Function : Layer
  -- they open a block
  Body : Layer
  -- they may be anything
  Holding : Layer

abbrev pub layer : Kind → Layer
layer (kind.Specification s) = Naming
layer kind.Define = Naming
layer kind.DefiningRange = Naming
layer kind.FunctionDeclaration = Function
layer k = Holding

abbrev mutual
  -- no node of the tree declares anything
  pub IsPlain : Tree → Type 0
  IsPlain (node k i j ps) = (layer k ≡ Holding) × ArePlain ps

  pub ArePlain : Trees → Type 0
  ArePlain none = Unit
  ArePlain (more p ps) = IsPlain p × ArePlain ps
  ArePlain (skip ps) = ArePlain ps

abbrev mutual
  pub IsLayered : Tree → Type 0
  IsLayered (node k i j ps) = AreLayered (layer k) ps

  pub AreLayered : Layer → Trees → Type 0
  AreLayered x none = Unit
  AreLayered Function (skip ps) = AreLayered Body ps
  AreLayered x (skip ps) = AreLayered x ps
  AreLayered Naming (more p ps) = IsPlain p × AreLayered Naming ps
  AreLayered Function (more p ps) = IsPlain p × AreLayered Body ps
  AreLayered Body (more p ps) = (opens (kind_of p) ≡ true) × IsLayered p × AreLayered Body ps
  AreLayered Holding (more p ps) = IsLayered p × AreLayered Holding ps

-- the kinds of expressions and types, and of what stands only in them and in declarations
abbrev pub is_plain : Kind → Bool
is_plain kind.NameList = true
is_plain kind.DeclaredName = true
is_plain kind.TypedValues = true
is_plain kind.Values = true
is_plain kind.Signature = true
is_plain kind.Parameters = true
is_plain kind.Parameter = true
is_plain kind.Results = true
is_plain kind.ParenthesizedType = true
is_plain kind.SequenceType = true
is_plain kind.FunctionType = true
is_plain kind.StructType = true
is_plain kind.Fields = true
is_plain kind.Name = true
is_plain kind.Integer = true
is_plain kind.Rune = true
is_plain kind.Text = true
is_plain kind.Parenthesized = true
is_plain (kind.Unary s) = true
is_plain (kind.Binary o) = true
is_plain kind.Selector = true
is_plain kind.Bracketed = true
is_plain kind.Bounds = true
is_plain kind.BoundsFrom = true
is_plain kind.Call = true
is_plain kind.Composite = true
is_plain kind.LiteralValue = true
is_plain kind.Keyed = true
is_plain kind.ExpressionList = true
is_plain kind.Targets = true
is_plain kind.NewNames = true
is_plain k = false

-- and their categories
abbrev pub has_plain : Category → Bool
has_plain category.NameList = true
has_plain category.DeclaredName = true
has_plain category.ConstantRest = true
has_plain category.VariableRest = true
has_plain category.Signature = true
has_plain category.Parameters = true
has_plain category.Entry = true
has_plain category.Result = true
has_plain category.Type = true
has_plain category.Fields = true
has_plain (category.Expression l p) = true
has_plain (category.LiteralType p) = true
has_plain category.Name = true
has_plain category.Bracket = true
has_plain category.Element = true
has_plain category.Value = true
has_plain (category.ExpressionList p) = true
has_plain (category.LeftList p) = true
has_plain (category.Targets p) = true
has_plain (category.NewNames p) = true
has_plain c = false

abbrev pub all_plain : Rule → Bool
all_plain (End ws) = true
all_plain (Then ws c r) = has_plain c && all_plain r
all_plain (Maybe ws c r) = has_plain c && all_plain r
all_plain (Unless ws c us r) = has_plain c && all_plain r
all_plain (Many ws l) = has_plain (item l)

type_plain : (k : Kind) → is_type k ≡ true → is_plain k ≡ true
type_plain kind.Name h = refl
type_plain kind.ParenthesizedType h = refl
type_plain kind.SequenceType h = refl
type_plain kind.FunctionType h = refl
type_plain kind.StructType h = refl
type_plain k h = cc

result_plain : (k : Kind) → is_result k ≡ true → is_plain k ≡ true
result_plain kind.Name h = refl
result_plain kind.SequenceType h = refl
result_plain kind.FunctionType h = refl
result_plain kind.StructType h = refl
result_plain kind.Results h = refl
result_plain k h = cc

loose : (l : Level) → nat_le (rank l) 0 ≡ true → ⊥
loose level.Either h = cc
loose level.Both h = cc
loose level.Comparison h = cc
loose level.Sum h = cc
loose level.Product h = cc
loose level.Unary h = cc
loose level.Primary h = cc

expression_plain : (l : Level) (k : Kind) → nat_le (rank l) (tightness k) ≡ true → is_plain k ≡ true
expression_plain l kind.Name h = refl
expression_plain l kind.Integer h = refl
expression_plain l kind.Rune h = refl
expression_plain l kind.Text h = refl
expression_plain l kind.Parenthesized h = refl
expression_plain l kind.Selector h = refl
expression_plain l kind.Bracketed h = refl
expression_plain l kind.Call h = refl
expression_plain l kind.Composite h = refl
expression_plain l kind.SequenceType h = refl
expression_plain l kind.FunctionType h = refl
expression_plain l kind.StructType h = refl
expression_plain l (kind.Unary s) h = refl
expression_plain l (kind.Binary o) h = refl
expression_plain l k h = absurd (loose l h)

literal_plain : (p : Place) (k : Kind) → is_literal_type p k ≡ true → is_plain k ≡ true
literal_plain place.Free kind.Name h = refl
literal_plain p kind.SequenceType h = refl
literal_plain p kind.StructType h = refl
literal_plain place.Free k h = cc
literal_plain place.Header k h = cc

names_plain : (k : Kind) → within category.NameList k ≡ true → is_plain k ≡ true
names_plain kind.NameList h = refl
names_plain k h = cc

declared_plain : (k : Kind) → within category.DeclaredName k ≡ true → is_plain k ≡ true
declared_plain kind.DeclaredName h = refl
declared_plain k h = cc

constant_plain : (k : Kind) → within category.ConstantRest k ≡ true → is_plain k ≡ true
constant_plain kind.Values h = refl
constant_plain kind.TypedValues h = refl
constant_plain k h = cc

variable_plain : (k : Kind) → within category.VariableRest k ≡ true → is_plain k ≡ true
variable_plain kind.Values h = refl
variable_plain kind.TypedValues h = refl
variable_plain k h = type_plain k h

signature_plain : (k : Kind) → within category.Signature k ≡ true → is_plain k ≡ true
signature_plain kind.Signature h = refl
signature_plain k h = cc

parameters_plain : (k : Kind) → within category.Parameters k ≡ true → is_plain k ≡ true
parameters_plain kind.Parameters h = refl
parameters_plain k h = cc

entry_plain : (k : Kind) → within category.Entry k ≡ true → is_plain k ≡ true
entry_plain kind.Parameter h = refl
entry_plain k h = type_plain k h

fields_plain : (k : Kind) → within category.Fields k ≡ true → is_plain k ≡ true
fields_plain kind.Fields h = refl
fields_plain k h = cc

name_plain : (k : Kind) → within category.Name k ≡ true → is_plain k ≡ true
name_plain kind.Name h = refl
name_plain k h = cc

bracket_plain : (k : Kind) → within category.Bracket k ≡ true → is_plain k ≡ true
bracket_plain kind.Bounds h = refl
bracket_plain kind.BoundsFrom h = refl
bracket_plain k h = expression_plain level.Either k h

element_plain : (k : Kind) → within category.Element k ≡ true → is_plain k ≡ true
element_plain kind.LiteralValue h = refl
element_plain kind.Keyed h = refl
element_plain k h = expression_plain level.Either k h

value_plain : (k : Kind) → within category.Value k ≡ true → is_plain k ≡ true
value_plain kind.LiteralValue h = refl
value_plain k h = expression_plain level.Either k h

list_plain : (p : Place) (k : Kind) → within (category.ExpressionList p) k ≡ true → is_plain k ≡ true
list_plain p kind.ExpressionList h = refl
list_plain p k h = cc

left_plain : (p : Place) (k : Kind) → within (category.LeftList p) k ≡ true → is_plain k ≡ true
left_plain p kind.ExpressionList h = refl
left_plain p k h = cc

targets_plain : (p : Place) (k : Kind) → within (category.Targets p) k ≡ true → is_plain k ≡ true
targets_plain p kind.Targets h = refl
targets_plain p k h = cc

new_plain : (p : Place) (k : Kind) → within (category.NewNames p) k ≡ true → is_plain k ≡ true
new_plain p kind.NewNames h = refl
new_plain p k h = cc

pub within_plain : (c : Category) (k : Kind) → has_plain c ≡ true → within c k ≡ true → is_plain k ≡ true
within_plain category.NameList k e h = names_plain k h
within_plain category.DeclaredName k e h = declared_plain k h
within_plain category.ConstantRest k e h = constant_plain k h
within_plain category.VariableRest k e h = variable_plain k h
within_plain category.Signature k e h = signature_plain k h
within_plain category.Parameters k e h = parameters_plain k h
within_plain category.Entry k e h = entry_plain k h
within_plain category.Result k e h = result_plain k h
within_plain category.Type k e h = type_plain k h
within_plain category.Fields k e h = fields_plain k h
within_plain (category.Expression l p) k e h = expression_plain l k h
within_plain (category.LiteralType p) k e h = literal_plain p k h
within_plain category.Name k e h = name_plain k h
within_plain category.Bracket k e h = bracket_plain k h
within_plain category.Element k e h = element_plain k h
within_plain category.Value k e h = value_plain k h
within_plain (category.ExpressionList p) k e h = list_plain p k h
within_plain (category.LeftList p) k e h = left_plain p k h
within_plain (category.Targets p) k e h = targets_plain p k h
within_plain (category.NewNames p) k e h = new_plain p k h
within_plain c k e h = let no : false ≡ true = e in cc

pub rule_plain : (p : Place) (k : Kind) → is_plain k ≡ true → all_plain (rule p k) ≡ true
rule_plain p kind.NameList e = refl
rule_plain p kind.DeclaredName e = refl
rule_plain p kind.TypedValues e = refl
rule_plain p kind.Values e = refl
rule_plain p kind.Signature e = refl
rule_plain p kind.Parameters e = refl
rule_plain p kind.Parameter e = refl
rule_plain p kind.Results e = refl
rule_plain p kind.ParenthesizedType e = refl
rule_plain p kind.SequenceType e = refl
rule_plain p kind.FunctionType e = refl
rule_plain p kind.StructType e = refl
rule_plain p kind.Fields e = refl
rule_plain p kind.Name e = refl
rule_plain p kind.Integer e = refl
rule_plain p kind.Rune e = refl
rule_plain p kind.Text e = refl
rule_plain p kind.Parenthesized e = refl
rule_plain p (kind.Unary s) e = refl
rule_plain p (kind.Binary o) e = refl
rule_plain p kind.Selector e = refl
rule_plain p kind.Bracketed e = refl
rule_plain p kind.Bounds e = refl
rule_plain p kind.BoundsFrom e = refl
rule_plain p kind.Call e = refl
rule_plain p kind.Composite e = refl
rule_plain p kind.LiteralValue e = refl
rule_plain p kind.Keyed e = refl
rule_plain p kind.ExpressionList e = refl
rule_plain p kind.Targets e = refl
rule_plain p kind.NewNames e = refl
rule_plain p k e = let no : false ≡ true = e in cc

layer_plain : (k : Kind) → is_plain k ≡ true → layer k ≡ Holding
layer_plain (kind.Specification s) e = let no : false ≡ true = e in cc
layer_plain kind.Define e = let no : false ≡ true = e in cc
layer_plain kind.DefiningRange e = let no : false ≡ true = e in cc
layer_plain kind.FunctionDeclaration e = let no : false ≡ true = e in cc
layer_plain k e = refl

-- whether a right side has just what the layer allows
abbrev fits : Layer → Rule → Bool
fits Naming r = all_plain r
fits Function (Then ws category.Signature (Maybe us category.Block (End vs))) = true
fits Function r = false
fits Body r = false
fits Holding r = true

rule_fits : (p : Place) (k : Kind) → fits (layer k) (rule p k) ≡ true
rule_fits p (kind.Specification sort.Constant) = refl
rule_fits p (kind.Specification sort.Type) = refl
rule_fits p (kind.Specification sort.Variable) = refl
rule_fits p k = refl

pub and_both : (a b : Bool) → a && b ≡ true → (a ≡ true) × (b ≡ true)
and_both true b h = (refl, h)
and_both false b h = cc

block_opens : (k : Kind) → within category.Block k ≡ true → opens k ≡ true
block_opens kind.Block h = refl
block_opens k h = cc

naming_layered : (ps : Trees) → ArePlain ps → AreLayered Naming ps
naming_layered none h = tt
naming_layered (more p ps) h = (h.0, naming_layered ps h.1)
naming_layered (skip ps) h = naming_layered ps h

pub layered_naming : (ps : Trees) → AreLayered Naming ps → ArePlain ps
layered_naming none h = tt
layered_naming (more p ps) h = (h.0, layered_naming ps h.1)
layered_naming (skip ps) h = layered_naming ps h

module _ (ts : List TokenKind) where
  mutual
    derives_plain : (t : Tree) (c : Category) → has_plain c ≡ true → Derives ts c t → IsPlain t
    derives_plain (node k i j ps) c e h =
        let plain : is_plain k ≡ true = within_plain c k e h.0 in
        (layer_plain k plain, spells_plain ps (rule (place_of c) k) i j (rule_plain (place_of c) k plain) h.1)

    spells_plain : (ps : Trees) (r : Rule) (i j : ℕ) → all_plain r ≡ true → Spells ts r i ps j → ArePlain ps
    spells_plain none r i j e h = tt
    spells_plain (more p ps) (End ws) i j e h = absurd h
    spells_plain (skip ps) (End ws) i j e h = absurd h
    spells_plain (more p ps) (Then ws c r) i j e h = let b = and_both (has_plain c) (all_plain r) e in (derives_plain p c b.0 h.1, spells_plain ps r (last p) j b.1 h.2)
    spells_plain (skip ps) (Then ws c r) i j e h = absurd h
    spells_plain (more p ps) (Maybe ws c r) i j e h = let b = and_both (has_plain c) (all_plain r) e in (derives_plain p c b.0 h.1, spells_plain ps r (last p) j b.1 h.2)
    spells_plain (skip ps) (Maybe ws c r) i j e h = spells_plain ps r h.0 j (and_both (has_plain c) (all_plain r) e).1 h.2
    spells_plain (more p ps) (Unless ws c us r) i j e h = let b = and_both (has_plain c) (all_plain r) e in (derives_plain p c b.0 h.1, spells_plain ps r (last p) j b.1 h.2)
    spells_plain (skip ps) (Unless ws c us r) i j e h = spells_plain ps r h.0 j (and_both (has_plain c) (all_plain r) e).1 h.3
    spells_plain (more p ps) (Many ws l) i j e h = (derives_plain p (item l) e h.3, goes_plain ps l (last p) j e h.4)
    spells_plain (skip ps) (Many ws l) i j e h = absurd h

    goes_plain : (ps : Trees) (l : Items) (i j : ℕ) → has_plain (item l) ≡ true → Goes ts l i ps j → ArePlain ps
    goes_plain none l i j e h = tt
    goes_plain (more p ps) l i j e h = (derives_plain p (item l) e h.3, goes_plain ps l (last p) j e h.4)
    goes_plain (skip ps) l i j e h = absurd h

  block_kind : (t : Tree) → Derives ts category.Block t → opens (kind_of t) ≡ true
  block_kind (node k i j ps) h = block_opens k h.0

  by_layer : (ps : Trees) (x : Layer) (r : Rule) (i j : ℕ) → fits x r ≡ true → Spells ts r i ps j → (Spells ts r i ps j → AreLayered Holding ps) → ((ws us vs : List TokenKind) → Spells ts (Then ws category.Signature (Maybe us category.Block (End vs))) i ps j → AreLayered Function ps) → AreLayered x ps
  by_layer ps Naming r i j e h hold function = naming_layered ps (spells_plain ps r i j e h)
  by_layer ps Body r i j e h hold function = let no : false ≡ true = e in cc
  by_layer ps Function (Then ws category.Signature (Maybe us category.Block (End vs))) i j e h hold function = function ws us vs h
  by_layer ps Function r i j e h hold function = let no : false ≡ true = e in cc
  by_layer ps Holding r i j e h hold function = hold h

  mutual
    pub derives_layered : (t : Tree) (c : Category) → Derives ts c t → IsLayered t
    derives_layered (node k i j ps) c h = by_layer ps (layer k) (rule (place_of c) k) i j (rule_fits (place_of c) k) h.1 (holding_layered ps (rule (place_of c) k) i j) (λ ws us vs. function_layered ps ws us vs i j)

    function_layered : (ps : Trees) (ws us vs : List TokenKind) (i j : ℕ) → Spells ts (Then ws category.Signature (Maybe us category.Block (End vs))) i ps j → AreLayered Function ps
    function_layered none ws us vs i j h = tt
    function_layered (skip ps) ws us vs i j h = absurd h
    function_layered (more p ps) ws us vs i j h = (derives_plain p category.Signature refl h.1, body_layered ps us vs (last p) j h.2)

    body_layered : (ps : Trees) (us vs : List TokenKind) (i j : ℕ) → Spells ts (Maybe us category.Block (End vs)) i ps j → AreLayered Body ps
    body_layered none us vs i j h = tt
    body_layered (more p none) us vs i j h = (block_kind p h.1, derives_layered p category.Block h.1, tt)
    body_layered (more p (more q ps)) us vs i j h = absurd h.2
    body_layered (more p (skip ps)) us vs i j h = absurd h.2
    body_layered (skip none) us vs i j h = tt
    body_layered (skip (more q ps)) us vs i j h = absurd h.2
    body_layered (skip (skip ps)) us vs i j h = absurd h.2

    holding_layered : (ps : Trees) (r : Rule) (i j : ℕ) → Spells ts r i ps j → AreLayered Holding ps
    holding_layered none r i j h = tt
    holding_layered (more p ps) (End ws) i j h = absurd h
    holding_layered (skip ps) (End ws) i j h = absurd h
    holding_layered (more p ps) (Then ws c r) i j h = (derives_layered p c h.1, holding_layered ps r (last p) j h.2)
    holding_layered (skip ps) (Then ws c r) i j h = absurd h
    holding_layered (more p ps) (Maybe ws c r) i j h = (derives_layered p c h.1, holding_layered ps r (last p) j h.2)
    holding_layered (skip ps) (Maybe ws c r) i j h = holding_layered ps r h.0 j h.2
    holding_layered (more p ps) (Unless ws c us r) i j h = (derives_layered p c h.1, holding_layered ps r (last p) j h.2)
    holding_layered (skip ps) (Unless ws c us r) i j h = holding_layered ps r h.0 j h.3
    holding_layered (more p ps) (Many ws l) i j h = (derives_layered p (item l) h.3, goes_layered ps l (last p) j h.4)
    holding_layered (skip ps) (Many ws l) i j h = absurd h

    goes_layered : (ps : Trees) (l : Items) (i j : ℕ) → Goes ts l i ps j → AreLayered Holding ps
    goes_layered none l i j h = tt
    goes_layered (more p ps) l i j h = (derives_layered p (item l) h.3, goes_layered ps l (last p) j h.4)
    goes_layered (skip ps) l i j h = absurd h
