-- In a derivation types are declared at rising tokens.
use Rattle.std.proofs.Common.{◌≡◌, ℕ, suc, ◌≤◌, List, [], ◌∷◌, ◌++◌, arith}
use Rattle.go_tokens.specs.declared.token.TokenKind.{TokenKind}
use Rattle.go_grammar.specs.declared.kind.Category.{Category}
use Rattle.go_grammar.specs.declared.kind.Kind.{Kind}
use Rattle.go_grammar.specs.declared.kind.Kind.TheVariants as kind
use Rattle.go_grammar.specs.declared.kind.Sort.TheVariants as declaring
use Rattle.go_grammar.specs.Categories.{place_of}
use Rattle.go_grammar.specs.Grammar.{Derives, Spells, Goes, rule}
use Rattle.go_grammar.specs.Rules.{Items, Rule, End, Then, Maybe, Unless, Many, item}
use Rattle.go_grammar.specs.Trees.{Tree, node, Trees, none, more, skip, first, last, parts}
use Rattle.go_tree.specs.Views.{Tiles}
use Rattle.go_package_steady.specs.Declared.{Ascend}
use Rattle.go_package_steady.specs.Lying.{TypePlacesRise}
use Rattle.go_package_steady.specs.Packages.{AreAmong}
use Rattle.go_package_steady.specs.Rising.{place_in, type_places, all_type_places}

-- The tokens rise from the first one on, up to the last one.
abbrev Lie : ℕ → ℕ → List ℕ → Type 0
Lie i j [] = i ≤ j
Lie i j (t ∷ ts) = (i ≤ t) × Lie (suc t) j ts

lie_up : (i m j : ℕ) (ts : List ℕ) → i ≤ m → Lie m j ts → Lie i j ts
lie_up i m j [] l h = omega (arith, l, h)
lie_up i m j (t ∷ ts) l h = (omega (arith, l, h.0), h.1)

lie_both : (i m j : ℕ) (xs ys : List ℕ) → Lie i m xs → Lie m j ys → Lie i j (xs ++ ys)
lie_both i m j [] ys h g = lie_up i m j ys h g
lie_both i m j (t ∷ xs) ys h g = (h.0, lie_both (suc t) m j xs ys h.1 g)

ends : (i j : ℕ) (ts : List ℕ) → Lie i j ts → i ≤ j
ends i j [] h = h
ends i j (t ∷ ts) h = let e = ends (suc t) j ts h.1 in omega (arith, e, h.0)

ascend : (i j : ℕ) (ts : List ℕ) → Lie i j ts → Ascend i ts
ascend i j [] h = tt
ascend i j (t ∷ ts) h = (h.0, ascend (suc t) j ts h.1)

among : (a i j : ℕ) (ts : List ℕ) → a ≤ i → Lie i j ts → AreAmong a j ts
among a i j [] l h = tt
among a i j (t ∷ ts) l h = let e = ends (suc t) j ts h.1 in ((omega (arith, l, h.0), omega (arith, e)), among a (suc t) j ts (omega (arith, l, h.0)) h.1)

module _ (ts : List TokenKind) where
  -- each part is derived
  abbrev AllDerive : Trees → Type 0
  AllDerive none = Unit {0}
  AllDerive (more p ps) = ((c : Category) × Derives ts c p) × AllDerive ps
  AllDerive (skip ps) = AllDerive ps

  goes_parts : (l : Items) (i : ℕ) (ps : Trees) (j : ℕ) → Goes ts l i ps j → AllDerive ps
  goes_parts l i none j s = tt
  goes_parts l i (more p ps) j s = ((item l, s.3), goes_parts l (last p) ps j s.4)
  goes_parts l i (skip ps) j s = absurd s

  spelled_parts : (r : Rule) (i : ℕ) (ps : Trees) (j : ℕ) → Spells ts r i ps j → AllDerive ps
  spelled_parts r i none j s = tt
  spelled_parts (End ws) i (more p ps) j s = absurd s
  spelled_parts (End ws) i (skip ps) j s = absurd s
  spelled_parts (Then ws c r) i (more p ps) j s = ((c, s.1), spelled_parts r (last p) ps j s.2)
  spelled_parts (Then ws c r) i (skip ps) j s = absurd s
  spelled_parts (Maybe ws c r) i (more p ps) j s = ((c, s.1), spelled_parts r (last p) ps j s.2)
  spelled_parts (Maybe ws c r) i (skip ps) j s = spelled_parts r s.0 ps j s.2
  spelled_parts (Unless ws c us r) i (more p ps) j s = ((c, s.1), spelled_parts r (last p) ps j s.2)
  spelled_parts (Unless ws c us r) i (skip ps) j s = spelled_parts r s.0 ps j s.3
  spelled_parts (Many ws l) i (more p ps) j s = ((item l, s.3), goes_parts l (last p) ps j s.4)
  spelled_parts (Many ws l) i (skip ps) j s = absurd s

  module _ (tiled : (c : Category) (t : Tree) → Derives ts c t → Tiles (first t) (last t) (parts t)) where
    -- in front of the parts of a declared type stands its name
    own_lies : (c : Category) (d : Kind) (i j : ℕ) (ps : Trees) → Derives ts c (node d i j ps) → ((a : ℕ) → Tiles a j ps → Lie a j (all_type_places ps)) → Lie i j (place_in d i ++ all_type_places ps)
    own_lies c (kind.Specification declaring.Type) i j none h r = absurd h.1
    own_lies c (kind.Specification declaring.Type) i j (skip ps) h r = absurd h.1
    own_lies c (kind.Specification declaring.Type) i j (more p ps) h r =
        let t = tiled c (node (kind.Specification declaring.Type) i j (more p ps)) h in
        let e : suc i ≡ first p = h.1.0.1 in (omega (arith), r (suc i) (omega (arith, e), t.1, t.2))
    own_lies c d i j ps h r = r i (tiled c (node d i j ps) h)

    mutual
      lies : (c : Category) (t : Tree) → Derives ts c t → Lie (first t) (last t) (type_places t)
      lies c (node d i j ps) h = own_lies c d i j ps h (λ a g. all_lie a j ps g (spelled_parts (rule (place_of c) d) i ps j h.1))

      all_lie : (i j : ℕ) (ps : Trees) → Tiles i j ps → AllDerive ps → Lie i j (all_type_places ps)
      all_lie i j none g h = g
      all_lie i j (skip ps) g h = all_lie i j ps g h
      all_lie i j (more p ps) g h = lie_up i (first p) j (type_places p ++ all_type_places ps) g.0
          (lie_both (first p) (last p) j (type_places p) (all_type_places ps) (lies h.0.0 p h.0.1) (all_lie (last p) j ps g.2 h.1))

pub type_places_rise : ((ts : List TokenKind) (c : Category) (t : Tree) → Derives ts c t → Tiles (first t) (last t) (parts t)) → TypePlacesRise
type_places_rise tiled ts c t h =
    let l = lies ts (tiled ts) c t h in (ascend (first t) (last t) (type_places t) l, among (first t) (first t) (last t) (type_places t) (omega (arith)) l)
