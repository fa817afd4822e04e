-- Declarations of constants and types have their kinds.
use Rattle.std.proofs.Common.{◌≡◌, Bool, true}
use Rattle.go_grammar.specs.declared.kind.Category.{Category}
use Rattle.go_grammar.specs.declared.kind.Kind.{Kind}
use Rattle.go_grammar.specs.declared.kind.Kind.TheVariants as kind
use Rattle.go_grammar.specs.declared.kind.Place.{Place}
use Rattle.go_grammar.specs.declared.kind.Sort.TheVariants as declaring
use Rattle.go_grammar.specs.Categories.{place_of}
use Rattle.go_grammar.specs.Grammar.{rule}
use Rattle.go_grammar.specs.Rules.{Rule, End, Then, Maybe, Unless, Many, item}
use Rattle.go_grammar.specs.Trees.{Tree, node, Trees, none, more, skip, kind_of}
use Rattle.go_stmts_final_types.specs.Shapes.{IsShaped, AreShaped}
use Rattle.go_stmts_tokens.specs.Lying.{is_inner}
use Rattle.go_stmts_tokens.proofs.Public.{HasNames, OuterRule, has_inner, inner_within, is_outer, outer_rule}

abbrev mutual
  -- nodes that declare constants or types inside a declaration stand where they may
  pub Nested : Tree → Type 0
  Nested (node k i j ps) = HasNames k ps × AllNested (is_outer k) ps

  pub AllNested : Bool → Trees → Type 0
  AllNested b none = Unit {0}
  AllNested b (more p ps) = (is_inner (kind_of p) ≡ true → b ≡ true) × Nested p × AllNested b ps
  AllNested b (skip ps) = AllNested b ps

names_first : (p : Place) (k : Kind) (ps : Trees) → AreShaped (rule p k) ps → HasNames k ps
names_first p (kind.Specification declaring.Constant) none h = h
names_first p (kind.Specification declaring.Constant) (skip ps) h = h
names_first p (kind.Specification declaring.Constant) (more q none) h = h.1
names_first p (kind.Specification declaring.Constant) (more q (more r none)) h = tt
names_first p (kind.Specification declaring.Constant) (more q (more r (more u ps))) h = h.1.1
names_first p (kind.Specification declaring.Constant) (more q (more r (skip ps))) h = h.1.1
names_first p (kind.Specification declaring.Constant) (more q (skip none)) h = tt
names_first p (kind.Specification declaring.Constant) (more q (skip (more r ps))) h = h.1
names_first p (kind.Specification declaring.Constant) (more q (skip (skip ps))) h = h.1
names_first p (kind.Specification declaring.Type) ps h = tt
names_first p (kind.Specification declaring.Variable) ps h = tt
names_first p k ps h = tt

inner_there : (b : Bool) (c : Category) (t : Tree) → (has_inner c ≡ true → b ≡ true) → IsShaped c t → is_inner (kind_of t) ≡ true → b ≡ true
inner_there b c (node k i j ps) o h e = o (inner_within c k h.0 e)

mutual
  pub shaped_nested : (c : Category) (t : Tree) → IsShaped c t → Nested t
  shaped_nested c (node k i j ps) h = (names_first (place_of c) k ps h.1, row_nested (is_outer k) ps (rule (place_of c) k) (outer_rule (place_of c) k) h.1)

  row_nested : (b : Bool) (ps : Trees) (r : Rule) → OuterRule b r → AreShaped r ps → AllNested b ps
  row_nested b none r o h = tt
  row_nested b (more p ps) (End ws) o h = absurd h
  row_nested b (skip ps) (End ws) o h = absurd h
  row_nested b (more p ps) (Then ws c r) o h = (inner_there b c p o.0 h.0, shaped_nested c p h.0, row_nested b ps r o.1 h.1)
  row_nested b (skip ps) (Then ws c r) o h = absurd h
  row_nested b (more p ps) (Maybe ws c r) o h = (inner_there b c p o.0 h.0, shaped_nested c p h.0, row_nested b ps r o.1 h.1)
  row_nested b (skip ps) (Maybe ws c r) o h = row_nested b ps r o.1 h
  row_nested b (more p ps) (Unless ws c us r) o h = (inner_there b c p o.0 h.0, shaped_nested c p h.0, row_nested b ps r o.1 h.1)
  row_nested b (skip ps) (Unless ws c us r) o h = row_nested b ps r o.1 h
  row_nested b (more p ps) (Many ws l) o h = (inner_there b (item l) p o h.0, shaped_nested (item l) p h.0, row_nested b ps (Many ws l) o h.1)
  row_nested b (skip ps) (Many ws l) o h = absurd h
