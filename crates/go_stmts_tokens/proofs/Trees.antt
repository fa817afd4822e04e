-- The nodes of a derivation have tokens, those of their parts one behind the other, and declarations of constants and types have their kinds.
use Rattle.std.proofs.Common.{◌≡◌, ◌∙◌, ℕ, ◌-◌, ◌<◌, ◌≤◌, Bool, true, false, List, refl, sym, subst, arith}
use Rattle.std.specs.Prelude.{nat_le, not, ◌&&◌}
use Rattle.go_tokens.specs.declared.token.TokenKind.{TokenKind}
use Rattle.go_grammar.specs.declared.kind.Category.{Category}
use Rattle.go_grammar.specs.declared.kind.Category.TheVariants as category
use Rattle.go_grammar.specs.declared.kind.Kind.{Kind}
use Rattle.go_grammar.specs.declared.kind.Kind.TheVariants as kind
use Rattle.go_grammar.specs.declared.kind.Level.{Level}
use Rattle.go_grammar.specs.declared.kind.Level.TheVariants as level
use Rattle.go_grammar.specs.declared.kind.Place.{Place}
use Rattle.go_grammar.specs.declared.kind.Place.TheVariants as place
use Rattle.go_grammar.specs.declared.kind.Sort.TheVariants as declaring
use Rattle.go_grammar.specs.Categories.{place_of, within, tightness}
use Rattle.go_grammar.specs.Operators.{rank}
use Rattle.go_grammar.specs.Grammar.{rule, Derives, Spells, Goes}
use Rattle.go_grammar.specs.Rules.{Items, Rule, End, Then, Maybe, Unless, Many, item}
use Rattle.go_grammar.specs.Trees.{Tree, node, Trees, none, more, skip, kind_of, first, last}
use Rattle.go_grammar.proofs.Public.{lies_within}
use Rattle.go_tree.proofs.Public.{derives_tiles}
use Rattle.go_tree.specs.Views.{Tiles}
use Rattle.go_stmts_defs.specs.Bodies.{based, all_based}
use Rattle.go_stmts_tokens.specs.Lying.{is_inner}

pub differ : {A : Type 0} → (let b : Bool = false in b) ≡ true → A
differ e = absurd cc

-- ---- specifications of constants and of types

-- nodes whose parts may declare constants or types inside a declaration
abbrev pub is_outer : Kind → Bool
is_outer (kind.Declaration declaring.Constant) = true
is_outer (kind.Declaration declaring.Type) = true
is_outer (kind.Group declaring.Constant) = true
is_outer (kind.Group declaring.Type) = true
is_outer k = false

-- categories that have such nodes
abbrev pub has_inner : Category → Bool
has_inner (category.DeclarationBody declaring.Constant) = true
has_inner (category.DeclarationBody declaring.Type) = true
has_inner (category.Specification declaring.Constant) = true
has_inner (category.Specification declaring.Type) = true
has_inner c = false

inner_tight : (r : ℕ) (k : Kind) → nat_le r 0 ≡ false → is_inner k ≡ true → nat_le r (tightness k) ≡ true → ⊥
inner_tight r (kind.Specification declaring.Constant) z e w = differ (sym z ∙ w)
inner_tight r (kind.Specification declaring.Type) z e w = differ (sym z ∙ w)
inner_tight r (kind.Group declaring.Constant) z e w = differ (sym z ∙ w)
inner_tight r (kind.Group declaring.Type) z e w = differ (sym z ∙ w)
inner_tight r k z e w = differ e

inner_expression : (l : Level) (k : Kind) → is_inner k ≡ true → nat_le (rank l) (tightness k) ≡ true → ⊥
inner_expression level.Either k e w = inner_tight 1 k refl e w
inner_expression level.Both k e w = inner_tight 2 k refl e w
inner_expression level.Comparison k e w = inner_tight 3 k refl e w
inner_expression level.Sum k e w = inner_tight 4 k refl e w
inner_expression level.Product k e w = inner_tight 5 k refl e w
inner_expression level.Unary k e w = inner_tight 6 k refl e w
inner_expression level.Primary k e w = inner_tight 7 k refl e w

specified_constant : (c : Category) → within c (kind.Specification declaring.Constant) ≡ true → has_inner c ≡ true
specified_constant (category.DeclarationBody declaring.Constant) w = refl
specified_constant (category.Specification declaring.Constant) w = refl
specified_constant (category.DeclarationBody declaring.Type) w = refl
specified_constant (category.Specification declaring.Type) w = refl
specified_constant (category.Expression l p) w = absurd (inner_expression l (kind.Specification declaring.Constant) refl w)
specified_constant (category.LiteralType place.Free) w = differ w
specified_constant (category.LiteralType place.Header) w = differ w
specified_constant c w = differ w

specified_type : (c : Category) → within c (kind.Specification declaring.Type) ≡ true → has_inner c ≡ true
specified_type (category.DeclarationBody declaring.Constant) w = refl
specified_type (category.Specification declaring.Constant) w = refl
specified_type (category.DeclarationBody declaring.Type) w = refl
specified_type (category.Specification declaring.Type) w = refl
specified_type (category.Expression l p) w = absurd (inner_expression l (kind.Specification declaring.Type) refl w)
specified_type (category.LiteralType place.Free) w = differ w
specified_type (category.LiteralType place.Header) w = differ w
specified_type c w = differ w

grouped_constants : (c : Category) → within c (kind.Group declaring.Constant) ≡ true → has_inner c ≡ true
grouped_constants (category.DeclarationBody declaring.Constant) w = refl
grouped_constants (category.DeclarationBody declaring.Type) w = refl
grouped_constants (category.Expression l p) w = absurd (inner_expression l (kind.Group declaring.Constant) refl w)
grouped_constants (category.LiteralType place.Free) w = differ w
grouped_constants (category.LiteralType place.Header) w = differ w
grouped_constants c w = differ w

grouped_types : (c : Category) → within c (kind.Group declaring.Type) ≡ true → has_inner c ≡ true
grouped_types (category.DeclarationBody declaring.Constant) w = refl
grouped_types (category.DeclarationBody declaring.Type) w = refl
grouped_types (category.Expression l p) w = absurd (inner_expression l (kind.Group declaring.Type) refl w)
grouped_types (category.LiteralType place.Free) w = differ w
grouped_types (category.LiteralType place.Header) w = differ w
grouped_types c w = differ w

pub inner_within : (c : Category) (k : Kind) → within c k ≡ true → is_inner k ≡ true → has_inner c ≡ true
inner_within c (kind.Specification declaring.Constant) w e = specified_constant c w
inner_within c (kind.Specification declaring.Type) w e = specified_type c w
inner_within c (kind.Group declaring.Constant) w e = grouped_constants c w
inner_within c (kind.Group declaring.Type) w e = grouped_types c w
inner_within c k w e = differ e

-- what a right side has where inner nodes may stand, if they may
abbrev pub OuterRule : Bool → Rule → Type 0
OuterRule b (End ws) = Unit {0}
OuterRule b (Then ws c r) = (has_inner c ≡ true → b ≡ true) × OuterRule b r
OuterRule b (Maybe ws c r) = (has_inner c ≡ true → b ≡ true) × OuterRule b r
OuterRule b (Unless ws c us r) = (has_inner c ≡ true → b ≡ true) × OuterRule b r
OuterRule b (Many ws l) = has_inner (item l) ≡ true → b ≡ true

-- inner nodes stand nowhere in it
abbrev plain_rule : Rule → Bool
plain_rule (End ws) = true
plain_rule (Then ws c r) = not (has_inner c) && plain_rule r
plain_rule (Maybe ws c r) = not (has_inner c) && plain_rule r
plain_rule (Unless ws c us r) = not (has_inner c) && plain_rule r
plain_rule (Many ws l) = not (has_inner (item l))

pub both_true : (a b : Bool) → (a && b) ≡ true → (a ≡ true) × (b ≡ true)
both_true true true e = (refl, refl)
both_true true false e = differ e
both_true false b e = differ e

never : (a b : Bool) → not a ≡ true → a ≡ true → b ≡ true
never true b e h = differ e
never false b e h = differ h

plain_outer : (b : Bool) (r : Rule) → plain_rule r ≡ true → OuterRule b r
plain_outer b (End ws) e = tt
plain_outer b (Then ws c r) e = let s = both_true (not (has_inner c)) (plain_rule r) e in (never (has_inner c) b s.0, plain_outer b r s.1)
plain_outer b (Maybe ws c r) e = let s = both_true (not (has_inner c)) (plain_rule r) e in (never (has_inner c) b s.0, plain_outer b r s.1)
plain_outer b (Unless ws c us r) e = let s = both_true (not (has_inner c)) (plain_rule r) e in (never (has_inner c) b s.0, plain_outer b r s.1)
plain_outer b (Many ws l) e = never (has_inner (item l)) b e

pub outer_rule : (p : Place) (k : Kind) → OuterRule (is_outer k) (rule p k)
outer_rule p (kind.Declaration declaring.Constant) = (λ e. refl, tt)
outer_rule p (kind.Declaration declaring.Type) = (λ e. refl, tt)
outer_rule p (kind.Declaration declaring.Variable) = plain_outer false (rule p (kind.Declaration declaring.Variable)) refl
outer_rule p (kind.Group declaring.Constant) = λ e. refl
outer_rule p (kind.Group declaring.Type) = λ e. refl
outer_rule p (kind.Group declaring.Variable) = plain_outer false (rule p (kind.Group declaring.Variable)) refl
outer_rule p (kind.Specification declaring.Constant) = plain_outer false (rule p (kind.Specification declaring.Constant)) refl
outer_rule p (kind.Specification declaring.Type) = plain_outer false (rule p (kind.Specification declaring.Type)) refl
outer_rule p (kind.Specification declaring.Variable) = plain_outer false (rule p (kind.Specification declaring.Variable)) refl
outer_rule p k = plain_outer (is_outer k) (rule p k) refl

-- ---- trees

-- a specification of constants has names first, and nothing but what stands behind them
abbrev pub HasNames : Kind → Trees → Type 0
HasNames (kind.Specification declaring.Constant) none = ⊥
HasNames (kind.Specification declaring.Constant) (skip ps) = ⊥
HasNames (kind.Specification declaring.Constant) (more p none) = ⊥
HasNames (kind.Specification declaring.Constant) (more p (more q none)) = Unit {0}
HasNames (kind.Specification declaring.Constant) (more p (more q (more r ps))) = ⊥
HasNames (kind.Specification declaring.Constant) (more p (more q (skip ps))) = ⊥
HasNames (kind.Specification declaring.Constant) (more p (skip none)) = Unit {0}
HasNames (kind.Specification declaring.Constant) (more p (skip (more r ps))) = ⊥
HasNames (kind.Specification declaring.Constant) (more p (skip (skip ps))) = ⊥
HasNames k ps = Unit {0}

abbrev mutual
  pub Set : Tree → Type 0
  Set (node k i j ps) = (i < j) × Tiles i j ps × HasNames k ps × AllSet (is_outer k) ps

  -- inner nodes stand where they may
  pub AllSet : Bool → Trees → Type 0
  AllSet b none = Unit {0}
  AllSet b (more p ps) = (is_inner (kind_of p) ≡ true → b ≡ true) × Set p × AllSet b ps
  AllSet b (skip ps) = AllSet b ps

pub tiles_order : (i j : ℕ) (ps : Trees) → Tiles i j ps → i ≤ j
tiles_order i j none h = h
tiles_order i j (more p ps) h = omega (arith, h.0, h.1, tiles_order (last p) j ps h.2)
tiles_order i j (skip ps) h = tiles_order i j ps h

module _ (ts : List TokenKind) where
  names_first : (p : Place) (k : Kind) (i j : ℕ) (ps : Trees) → Spells ts (rule p k) i ps j → HasNames k ps
  names_first p (kind.Specification declaring.Constant) i j none h = h
  names_first p (kind.Specification declaring.Constant) i j (skip ps) h = h
  names_first p (kind.Specification declaring.Constant) i j (more q none) h = h.2
  names_first p (kind.Specification declaring.Constant) i j (more q (more r none)) h = tt
  names_first p (kind.Specification declaring.Constant) i j (more q (more r (more u ps))) h = h.2.2
  names_first p (kind.Specification declaring.Constant) i j (more q (more r (skip ps))) h = h.2.2
  names_first p (kind.Specification declaring.Constant) i j (more q (skip none)) h = tt
  names_first p (kind.Specification declaring.Constant) i j (more q (skip (more r ps))) h = h.2.2
  names_first p (kind.Specification declaring.Constant) i j (more q (skip (skip ps))) h = h.2.2
  names_first p (kind.Specification declaring.Type) i j ps h = tt
  names_first p (kind.Specification declaring.Variable) i j ps h = tt
  names_first p k i j ps h = tt

  inner_there : (b : Bool) (c : Category) (t : Tree) → (has_inner c ≡ true → b ≡ true) → Derives ts c t → is_inner (kind_of t) ≡ true → b ≡ true
  inner_there b c (node k i j ps) o h e = o (inner_within c k h.0 e)

  mutual
    pub derives_set : (c : Category) (t : Tree) → Derives ts c t → Set t
    derives_set c (node k i j ps) h = (
      (lies_within ts c (node k i j ps) h).0,
      derives_tiles ts c (node k i j ps) h,
      names_first (place_of c) k i j ps h.1,
      spells_set (is_outer k) ps (rule (place_of c) k) i j (outer_rule (place_of c) k) h.1,
    )

    spells_set : (b : Bool) (ps : Trees) (r : Rule) (i j : ℕ) → OuterRule b r → Spells ts r i ps j → AllSet b ps
    spells_set b none r i j o h = tt
    spells_set b (more p ps) (End ws) i j o h = absurd h
    spells_set b (skip ps) (End ws) i j o h = absurd h
    spells_set b (more p ps) (Then ws c r) i j o h = (inner_there b c p o.0 h.1, derives_set c p h.1, spells_set b ps r (last p) j o.1 h.2)
    spells_set b (skip ps) (Then ws c r) i j o h = absurd h
    spells_set b (more p ps) (Maybe ws c r) i j o h = (inner_there b c p o.0 h.1, derives_set c p h.1, spells_set b ps r (last p) j o.1 h.2)
    spells_set b (skip ps) (Maybe ws c r) i j o h = spells_set b ps r h.0 j o.1 h.2
    spells_set b (more p ps) (Unless ws c us r) i j o h = (inner_there b c p o.0 h.1, derives_set c p h.1, spells_set b ps r (last p) j o.1 h.2)
    spells_set b (skip ps) (Unless ws c us r) i j o h = spells_set b ps r h.0 j o.1 h.3
    spells_set b (more p ps) (Many ws l) i j o h = (inner_there b (item l) p o h.3, derives_set (item l) p h.3, goes_set b ps l (last p) j o h.4)
    spells_set b (skip ps) (Many ws l) i j o h = absurd h

    goes_set : (b : Bool) (ps : Trees) (l : Items) (i j : ℕ) → (has_inner (item l) ≡ true → b ≡ true) → Goes ts l i ps j → AllSet b ps
    goes_set b none l i j o h = tt
    goes_set b (more p ps) l i j o h = (inner_there b (item l) p o h.3, derives_set (item l) p h.3, goes_set b ps l (last p) j o h.4)
    goes_set b (skip ps) l i j o h = absurd h

-- ---- trees whose tokens are counted from the first one of their declaration

based_tiles : (b i j : ℕ) (ps : Trees) → b ≤ i → Tiles i j ps → Tiles (i - b) (j - b) (all_based b ps)
based_tiles b i j none h t = omega (arith, t)
based_tiles b i j (more (node k f e qs) ps) h t = (omega (arith, t.0), omega (arith, t.1), based_tiles b e j ps (omega (arith, h, t.0, t.1)) t.2)
based_tiles b i j (skip ps) h t = based_tiles b i j ps h t

pub based_kind : (b : ℕ) (t : Tree) → kind_of (based b t) ≡ kind_of t
based_kind b (node k i j ps) = refl

based_names : (b : ℕ) (k : Kind) (ps : Trees) → HasNames k ps → HasNames k (all_based b ps)
based_names b (kind.Specification declaring.Constant) none h = h
based_names b (kind.Specification declaring.Constant) (skip ps) h = h
based_names b (kind.Specification declaring.Constant) (more p none) h = h
based_names b (kind.Specification declaring.Constant) (more p (more q none)) h = tt
based_names b (kind.Specification declaring.Constant) (more p (more q (more r ps))) h = h
based_names b (kind.Specification declaring.Constant) (more p (more q (skip ps))) h = h
based_names b (kind.Specification declaring.Constant) (more p (skip none)) h = tt
based_names b (kind.Specification declaring.Constant) (more p (skip (more r ps))) h = h
based_names b (kind.Specification declaring.Constant) (more p (skip (skip ps))) h = h
based_names b (kind.Specification declaring.Type) ps h = tt
based_names b (kind.Specification declaring.Variable) ps h = tt
based_names b k ps h = tt

mutual
  pub based_set : (b : ℕ) (t : Tree) → b ≤ first t → Set t → Set (based b t)
  based_set b (node k i j ps) h s = (omega (arith, h, s.0), based_tiles b i j ps h s.1, based_names b k ps s.2, all_based_set (is_outer k) b i j ps h s.1 s.3)

  all_based_set : (o : Bool) (b i j : ℕ) (ps : Trees) → b ≤ i → Tiles i j ps → AllSet o ps → AllSet o (all_based b ps)
  all_based_set o b i j none h t s = tt
  all_based_set o b i j (more p ps) h t s =
      (λ e. s.0 (subst (λ k. is_inner k ≡ true) (based_kind b p) e), based_set b p (omega (arith, h, t.0)) s.1, all_based_set o b (last p) j ps (omega (arith, h, t.0, t.1)) t.2 s.2)
  all_based_set o b i j (skip ps) h t s = all_based_set o b i j ps h t s
