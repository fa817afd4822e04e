-- The parts of a derivation lie one after the other inside its range.
use Rattle.std.proofs.Common.{ℕ, ◌≤◌, List, arith}
use Rattle.go_tokens.specs.declared.token.TokenKind.{TokenKind}
use Rattle.go_grammar.specs.declared.kind.Category.{Category}
use Rattle.go_grammar.specs.Categories.{place_of}
use Rattle.go_grammar.specs.Rules.{Items, Rule, End, Then, Maybe, Unless, Many, item}
use Rattle.go_grammar.specs.Trees.{Tree, node, Trees, none, more, skip, first, last, parts}
use Rattle.go_grammar.specs.Grammar.{rule, Derives, Spells, Goes}
use Rattle.go_grammar.proofs.Public.{words_order, gap_order, between_order, derives_order, spells_order, goes_order}
use Rattle.go_tree.specs.Views.{Tiles}

-- a row that begins later lies in the longer range too
tiles_from : (i k j : ℕ) (ps : Trees) → i ≤ k → Tiles k j ps → Tiles i j ps
tiles_from i k j none le h = omega (arith, h)
tiles_from i k j (more p ps) le h = (omega (arith, h.0), h.1, h.2)
tiles_from i k j (skip ps) le h = tiles_from i k j ps le h

module _ (ts : List TokenKind) where
  spells_tiles : (ps : Trees) (r : Rule) (i j : ℕ) → Spells ts r i ps j → Tiles i j ps
  spells_tiles none r i j h = spells_order ts none r i j h
  spells_tiles (more p ps) (End ws) i j h = absurd h
  spells_tiles (skip ps) (End ws) i j h = absurd h
  spells_tiles (more p ps) (Then ws c r) i j h = (words_order ts ws i (first p) h.0, derives_order ts p c h.1, spells_tiles ps r (last p) j h.2)
  spells_tiles (skip ps) (Then ws c r) i j h = absurd h
  spells_tiles (more p ps) (Maybe ws c r) i j h = (words_order ts ws i (first p) h.0, derives_order ts p c h.1, spells_tiles ps r (last p) j h.2)
  spells_tiles (skip ps) (Maybe ws c r) i j h = tiles_from i h.0 j ps (words_order ts ws i h.0 h.1) (spells_tiles ps r h.0 j h.2)
  spells_tiles (more p ps) (Unless ws c us r) i j h = (words_order ts ws i (first p) h.0, derives_order ts p c h.1, spells_tiles ps r (last p) j h.2)
  spells_tiles (skip ps) (Unless ws c us r) i j h = tiles_from i h.0 j ps (words_order ts ws i h.0 h.1) (spells_tiles ps r h.0 j h.3)
  spells_tiles (more p ps) (Many ws l) i j h = (omega (arith, words_order ts ws i h.0 h.1, gap_order ts l h.0 (first p) h.2), derives_order ts p (item l) h.3, goes_tiles ps l (last p) j h.4)
    where
      goes_tiles : (ps : Trees) (l : Items) (i j : ℕ) → Goes ts l i ps j → Tiles i j ps
      goes_tiles none l i j h = goes_order ts none l i j h
      goes_tiles (more p ps) l i j h = (omega (arith, between_order ts l i h.0 h.1, gap_order ts l h.0 (first p) h.2), derives_order ts p (item l) h.3, goes_tiles ps l (last p) j h.4)
      goes_tiles (skip ps) l i j h = absurd h
  spells_tiles (skip ps) (Many ws l) i j h = absurd h

  pub derives_tiles : (c : Category) (t : Tree) → Derives ts c t → Tiles (first t) (last t) (parts t)
  derives_tiles c (node k i j ps) h = spells_tiles ps (rule (place_of c) k) i j h.1
