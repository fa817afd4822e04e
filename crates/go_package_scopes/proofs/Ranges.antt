-- The nodes of a derivation have tokens, those of their parts one behind the other; also where tokens are counted from the first one.
use Rattle.std.proofs.Common.{ℕ, ◌-◌, ◌<◌, ◌≤◌, List, arith}
use Rattle.go_tokens.specs.declared.token.TokenKind.{TokenKind}
use Rattle.go_grammar.specs.declared.kind.Category.{Category}
use Rattle.go_grammar.specs.Categories.{place_of}
use Rattle.go_grammar.specs.Grammar.{rule, Derives, Spells, Goes}
use Rattle.go_grammar.specs.Rules.{Items, Rule, End, Then, Maybe, Unless, Many, item}
use Rattle.go_grammar.specs.Trees.{Tree, node, Trees, none, more, skip, first, last}
use Rattle.go_grammar.proofs.Public.{lies_within}
use Rattle.go_tree.proofs.Public.{derives_tiles}
use Rattle.go_tree.specs.Views.{Tiles}
use Rattle.go_stmts_defs.specs.Bodies.{based, all_based}

abbrev mutual
  pub Set : Tree → Type 0
  Set (node k i j ps) = (i < j) × Tiles i j ps × AllSet ps

  pub AllSet : Trees → Type 0
  AllSet none = Unit {0}
  AllSet (more p ps) = Set p × AllSet ps
  AllSet (skip ps) = AllSet ps

pub set_grows : (t : Tree) → Set t → first t < last t
set_grows (node k i j ps) h = h.0

pub tiles_order : (i j : ℕ) (ps : Trees) → Tiles i j ps → i ≤ j
tiles_order i j none h = h
tiles_order i j (more p ps) h = omega (arith, h.0, h.1, tiles_order (last p) j ps h.2)
tiles_order i j (skip ps) h = tiles_order i j ps h

module _ (ts : List TokenKind) where
  mutual
    pub derives_set : (c : Category) (t : Tree) → Derives ts c t → Set t
    derives_set c (node k i j ps) h = ((lies_within ts c (node k i j ps) h).0, derives_tiles ts c (node k i j ps) h, spells_set ps (rule (place_of c) k) i j h.1)

    spells_set : (ps : Trees) (r : Rule) (i j : ℕ) → Spells ts r i ps j → AllSet ps
    spells_set none r i j h = tt
    spells_set (more p ps) (End ws) i j h = absurd h
    spells_set (skip ps) (End ws) i j h = absurd h
    spells_set (more p ps) (Then ws c r) i j h = (derives_set c p h.1, spells_set ps r (last p) j h.2)
    spells_set (skip ps) (Then ws c r) i j h = absurd h
    spells_set (more p ps) (Maybe ws c r) i j h = (derives_set c p h.1, spells_set ps r (last p) j h.2)
    spells_set (skip ps) (Maybe ws c r) i j h = spells_set ps r h.0 j h.2
    spells_set (more p ps) (Unless ws c us r) i j h = (derives_set c p h.1, spells_set ps r (last p) j h.2)
    spells_set (skip ps) (Unless ws c us r) i j h = spells_set ps r h.0 j h.3
    spells_set (more p ps) (Many ws l) i j h = (derives_set (item l) p h.3, goes_set ps l (last p) j h.4)
    spells_set (skip ps) (Many ws l) i j h = absurd h

    goes_set : (ps : Trees) (l : Items) (i j : ℕ) → Goes ts l i ps j → AllSet ps
    goes_set none l i j h = tt
    goes_set (more p ps) l i j h = (derives_set (item l) p h.3, goes_set ps l (last p) j h.4)
    goes_set (skip ps) l i j h = absurd h

-- ---- trees whose tokens are counted from the first one of their declaration

based_tiles : (b i j : ℕ) (ps : Trees) → b ≤ i → Tiles i j ps → Tiles (i - b) (j - b) (all_based b ps)
based_tiles b i j none h t = omega (arith, t)
based_tiles b i j (more (node k f e qs) ps) h t = (omega (arith, t.0), omega (arith, t.1), based_tiles b e j ps (omega (arith, h, t.0, t.1)) t.2)
based_tiles b i j (skip ps) h t = based_tiles b i j ps h t

mutual
  pub based_set : (b : ℕ) (t : Tree) → b ≤ first t → Set t → Set (based b t)
  based_set b (node k i j ps) h s = (omega (arith, h, s.0), based_tiles b i j ps h s.1, all_based_set b i j ps h s.1 s.2)

  all_based_set : (b i j : ℕ) (ps : Trees) → b ≤ i → Tiles i j ps → AllSet ps → AllSet (all_based b ps)
  all_based_set b i j none h t s = tt
  all_based_set b i j (more p ps) h t s = (based_set b p (omega (arith, h, t.0)) s.0, all_based_set b (last p) j ps (omega (arith, h, t.0, t.1)) t.2 s.1)
  all_based_set b i j (skip ps) h t s = all_based_set b i j ps h t s
