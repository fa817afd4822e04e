-- The holes of a copied run: what of the trees that names stand in has to stay.
use Rattle.std.specs.Prelude.{◌≡◌, ℕ, suc, Bool, true, false, List, [], ◌∷◌}
use Rattle.go_grammar.specs.declared.kind.Kind.{Kind}
use Rattle.go_grammar.specs.declared.kind.Kind.TheVariants as kind
use Rattle.go_grammar.specs.Trees.{Tree, node, Trees, none, more, skip}
use Rattle.go_rewriting.specs.Places.{Patch, Patches, keep, put, inside, done, part, run, Range, range, places_in}
use Rattle.go_tree.specs.declared.event.Event.{Event}
use Rattle.go_tree.specs.declared.event.Event.TheVariants as event
use Rattle.go_tree.specs.Contexts.{opens}
use Rattle.extract_names.specs.Copies.{Replaced, Copy, StaysOutside}
use Rattle.extract_names.specs.Pieces.{Piece, stays, gap}
use Rattle.extract_names.specs.Sites.{EachEvent}

-- the kinds of which the first token says where a name or a member is declared
abbrev pub counts_first : Kind → Bool
counts_first (kind.Specification s) = true
counts_first kind.Define = true
counts_first kind.DefiningRange = true
counts_first kind.StructType = true
counts_first kind.Composite = true
counts_first kind.LiteralValue = true
counts_first kind.Parameters = true
counts_first kind.DeclaredName = true
counts_first kind.Name = true
counts_first k = false

-- No hole has the first token of such a node or of a block, and none the name that a selector ends with.
pub record NodeStays (hs : List Replaced) (k : Kind) (i j : ℕ) : Type 0 where
  pub first : counts_first k ≡ true → StaysOutside hs i
  pub block : opens k ≡ true → StaysOutside hs i
  pub last : k ≡ kind.Selector → (x : ℕ) × (j ≡ suc x) × StaysOutside hs x

abbrev mutual
  -- Nothing but single parts is replaced, and so stay the nodes that names stand in.
  pub NodesStay : List Replaced → Tree → Patch → Type 0
  NodesStay hs t keep = Unit {0}
  NodesStay hs t (put s) = Unit {0}
  NodesStay hs (node k i j ps) (inside qs) = NodeStays hs k i j × NodesStayInRow hs ps qs

  pub NodesStayInRow : List Replaced → Trees → Patches → Type 0
  NodesStayInRow hs ps done = Unit {0}
  NodesStayInRow hs none (part q qs) = Unit {0}
  NodesStayInRow hs (more p ps) (part q qs) = NodesStay hs p q × NodesStayInRow hs ps qs
  NodesStayInRow hs (skip ps) (part q qs) = NodesStayInRow hs ps qs
  NodesStayInRow hs ps (run m new qs) = ⊥

-- the tokens of the holes
abbrev pub hole_ranges : List Replaced → List Range
hole_ranges [] = []
hole_ranges (h ∷ hs) = range h.from h.upto ∷ hole_ranges hs

abbrev pub IsNoDeclaration : Event → Type 0
IsNoDeclaration (event.Declaration d) = ⊥
IsNoDeclaration e = Unit {0}

-- The replaced expressions declare no names.
abbrev pub HolesLook : List Piece → Type 0
HolesLook [] = Unit {0}
HolesLook (stays es ∷ ps) = HolesLook ps
HolesLook (gap old new ∷ ps) = EachEvent IsNoDeclaration old × HolesLook ps

-- the same run with no hole
abbrev pub bare : Copy → Copy
bare c = record c { holes = [] }

-- The holes of the copy are the expressions in a list of statements in place of which names stand, and what tells where names are declared
-- stays.
pub record AreHoles (c : Copy) (ps : Trees) (qs : Patches) : Type 0 where
  pub stay : NodesStayInRow c.holes ps qs
  pub same : places_in ps qs ≡ hole_ranges c.holes
