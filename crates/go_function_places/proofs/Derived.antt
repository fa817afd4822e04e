-- Syntax trees whose parts lie one behind the other, each with a token at least: derivations are such.
use Rattle.std.proofs.Common.{◌≡◌, ℕ, suc, ◌+◌, ◌<◌, ◌≤◌, true, List, [], ◌∷◌, refl, subst, arith}
use Rattle.go_tokens.specs.declared.token.TokenKind.{TokenKind}
use Rattle.go_tokens.specs.declared.token.TokenKind.TheVariants as token
use Rattle.go_grammar.specs.declared.kind.Category.{Category}
use Rattle.go_grammar.specs.declared.kind.Category.TheVariants as category
use Rattle.go_grammar.specs.declared.kind.Kind.{Kind}
use Rattle.go_grammar.specs.declared.kind.Kind.TheVariants as kind
use Rattle.go_grammar.specs.declared.kind.Place.{Place}
use Rattle.go_grammar.specs.Categories.{is_statement, place_of}
use Rattle.go_grammar.specs.Grammar.{rule, Derives, Spells, Goes}
use Rattle.go_grammar.specs.Rules.{Items, Each, Rule, End, Then, Maybe, Unless, Many, item}
use Rattle.go_grammar.specs.Trees.{Tree, node, Trees, none, more, skip, kind_of, first, last}
use Rattle.go_grammar.proofs.Public.{close_order, gap_order, lies_within, words_order}
use Rattle.go_tree.proofs.Public.{derives_tiles}
use Rattle.go_tree.specs.Views.{Tiles}

-- how many tokens of a file or of a statement list stand in front of its parts, at least
abbrev pub ahead : Kind → ℕ
ahead kind.File = 1
ahead kind.Block = 1
ahead kind.Case = 1
ahead kind.Default = 1
ahead k = 0

-- each part is there, and is a statement
abbrev pub AreStatements : Trees → Type 0
AreStatements none = Unit {0}
AreStatements (more p ps) = (is_statement (kind_of p) ≡ true) × AreStatements ps
AreStatements (skip ps) = ⊥

-- The parts of a statement list are statements, behind the values of a case.
abbrev pub IsList : Kind → Trees → Type 0
IsList kind.Block ps = AreStatements ps
IsList kind.Default ps = AreStatements ps
IsList kind.Case none = ⊥
IsList kind.Case (more e ps) = AreStatements ps
IsList kind.Case (skip ps) = ⊥
IsList k ps = Unit {0}

abbrev mutual
  pub Set : Tree → Type 0
  Set (node k i j ps) = (i < j) × Tiles (i + ahead k) j ps × IsList k ps × AllSet ps

  pub AllSet : Trees → Type 0
  AllSet none = Unit {0}
  AllSet (more p ps) = Set p × AllSet ps
  AllSet (skip ps) = AllSet ps

pub set-grows : (t : Tree) → Set t → first t < last t
set-grows (node k i j ps) h = h.0

module _ (ts : List TokenKind) where
  is-statement : (t : Tree) → Derives ts category.Statement t → is_statement (kind_of t) ≡ true
  is-statement (node k i j ps) d = d.0

  goes-statements : (l : Items) (i : ℕ) (ps : Trees) (j : ℕ) → item l ≡ category.Statement → Goes ts l i ps j → AreStatements ps
  goes-statements l i none j e h = tt
  goes-statements l i (more p ps) j e h = (is-statement p (subst (λ c. Derives ts c p) e h.3), goes-statements l (last p) ps j e h.4)
  goes-statements l i (skip ps) j e h = absurd h

  many-statements : (ws : List TokenKind) (l : Items) (i : ℕ) (ps : Trees) (j : ℕ) → item l ≡ category.Statement → Spells ts (Many ws l) i ps j → AreStatements ps
  many-statements ws l i none j e h = tt
  many-statements ws l i (more p ps) j e h = (is-statement p (subst (λ c. Derives ts c p) e h.3), goes-statements l (last p) ps j e h.4)
  many-statements ws l i (skip ps) j e h = absurd h

  lists : (p : Place) (k : Kind) (i : ℕ) (ps : Trees) (j : ℕ) → Spells ts (rule p k) i ps j → IsList k ps
  lists p kind.Block i ps j h = many-statements _ _ i ps j refl h
  lists p kind.Default i ps j h = many-statements _ _ i ps j refl h
  lists p kind.Case i none j h = absurd h
  lists p kind.Case i (more e ps) j h = many-statements _ _ (last e) ps j refl h.2
  lists p kind.Case i (skip ps) j h = absurd h
  lists p k i ps j h = tt

  -- ---- behind the first token of a file or of a statement list

  many-behind : (w : TokenKind) (ws : List TokenKind) (l : Items) (i : ℕ) (ps : Trees) (j : ℕ) → i < j → Spells ts (Many (w ∷ ws) l) i ps j → Tiles i j ps → Tiles (i + 1) j ps
  many-behind w ws l i none j g h t = omega (arith, g)
  many-behind w ws l i (more p ps) j g h t = (omega (arith, words_order ts ws (suc i) h.0 h.1.1, gap_order ts l h.0 (first p) h.2), t.1, t.2)
  many-behind w ws l i (skip ps) j g h t = absurd h

  -- a part that is left out
  skipped-behind : (i k : ℕ) (ps : Trees) (j : ℕ) → i + 1 ≤ k → Spells ts (Many [] (Each category.Declaration (token.Semicolon ∷ []) [])) k ps j → Tiles i j ps → Tiles (i + 1) j ps
  skipped-behind i k none j u h t = let same : k ≡ h.0 = h.1 in let order = close_order ts (Each category.Declaration (token.Semicolon ∷ []) []) h.0 j h.2 in omega (arith, u, same, order)
  skipped-behind i k (more p ps) j u h t = let same : k ≡ h.0 = h.1 in (omega (arith, u, same, gap_order ts (Each category.Declaration (token.Semicolon ∷ []) []) h.0 (first p) h.2), t.1, t.2)
  skipped-behind i k (skip ps) j u h t = absurd h

  behind : (p : Place) (k : Kind) (i : ℕ) (ps : Trees) (j : ℕ) → i < j → Spells ts (rule p k) i ps j → Tiles i j ps → Tiles (i + ahead k) j ps
  behind p kind.File i none j g h t = absurd h
  behind p kind.File i (more e ps) j g h t = (omega (arith, words_order ts (token.Identifier ∷ token.Semicolon ∷ []) (suc i) (first e) h.0.1), t.1, t.2)
  behind p kind.File i (skip ps) j g h t = skipped-behind i h.0 ps j (omega (arith, words_order ts (token.Identifier ∷ token.Semicolon ∷ []) (suc i) h.0 h.1.1)) h.2 t
  behind p kind.Block i ps j g h t = many-behind _ _ _ i ps j g h t
  behind p kind.Default i ps j g h t = many-behind _ _ _ i ps j g h t
  behind p kind.Case i none j g h t = absurd h
  behind p kind.Case i (more e ps) j g h t = (omega (arith, h.0.1), t.1, t.2)
  behind p kind.Case i (skip ps) j g h t = absurd h
  behind p k i ps j g h t = let e : i ≡ i + 0 = omega arith in subst (λ m. Tiles m j ps) e t

  mutual
    pub derives-set : (c : Category) (t : Tree) → Derives ts c t → Set t
    derives-set c (node k i j ps) h =
        let g : i < j = (lies_within ts c (node k i j ps) h).0 in
        (g, behind (place_of c) k i ps j g h.1 (derives_tiles ts c (node k i j ps) h), lists (place_of c) k i ps j h.1, spells-set ps (rule (place_of c) k) i j h.1)

    spells-set : (ps : Trees) (r : Rule) (i j : ℕ) → Spells ts r i ps j → AllSet ps
    spells-set none r i j h = tt
    spells-set (more p ps) (End ws) i j h = absurd h
    spells-set (skip ps) (End ws) i j h = absurd h
    spells-set (more p ps) (Then ws c r) i j h = (derives-set c p h.1, spells-set ps r (last p) j h.2)
    spells-set (skip ps) (Then ws c r) i j h = absurd h
    spells-set (more p ps) (Maybe ws c r) i j h = (derives-set c p h.1, spells-set ps r (last p) j h.2)
    spells-set (skip ps) (Maybe ws c r) i j h = spells-set ps r h.0 j h.2
    spells-set (more p ps) (Unless ws c us r) i j h = (derives-set c p h.1, spells-set ps r (last p) j h.2)
    spells-set (skip ps) (Unless ws c us r) i j h = spells-set ps r h.0 j h.3
    spells-set (more p ps) (Many ws l) i j h = (derives-set (item l) p h.3, goes-set ps l (last p) j h.4)
    spells-set (skip ps) (Many ws l) i j h = absurd h

    goes-set : (ps : Trees) (l : Items) (i j : ℕ) → Goes ts l i ps j → AllSet ps
    goes-set none l i j h = tt
    goes-set (more p ps) l i j h = (derives-set (item l) p h.3, goes-set ps l (last p) j h.4)
    goes-set (skip ps) l i j h = absurd h
