-- What a file tells, in pieces: what its functions tell, and what stands around them.
use Rattle.std.proofs.Common.{◌≡◌, ◌∙◌, ℕ, suc, ◌<◌, ◌≤◌, Bool, false, List, [], ◌∷◌, ◌++◌, refl, ap, subst, arith}
use Rattle.go_tokens.specs.declared.token.TokenKind.{TokenKind}
use Rattle.go_grammar.specs.declared.kind.Kind.TheVariants as kind
use Rattle.go_grammar.specs.declared.kind.Place.TheVariants as place
use Rattle.go_grammar.specs.declared.kind.Category.TheVariants as category
use Rattle.go_grammar.specs.Trees.{Tree, node, Trees, none, more, skip, first, last, parts}
use Rattle.go_grammar.specs.Grammar.{IsFile, rule, Derives}
use Rattle.go_tree.specs.declared.context.Context.{Context}
use Rattle.go_tree.specs.declared.event.Event.{Event}
use Rattle.go_tree.specs.Contexts.{file_context}
use Rattle.go_tree.specs.Events.{is_more, events, events_of}
use Rattle.go_tree.specs.Lists.{functions}
use Rattle.go_scopes_events.specs.Orders.{EachDeclared}
use Rattle.go_scopes_events.proofs.Public.{IsInner, derives_inner, spells_inner, rule_inner, true_false, derives_outside, IsLaidOut, LieIn, laid_grows, derives_laid}
use Rattle.go_heads.specs.Heads.{in_bodies}
use Rattle.go_heads.proofs.Public.{AllSit, file_sat, around_part, function_there, Shared, tree_shared}
use Rattle.go_scopes_bodies.specs.Outside.{no_functions, without_functions}
use Rattle.go_scopes_bodies.proofs.Lying.{AllLie, tree_lies}
use Rattle.go_scopes_bodies.proofs.Quiet.{AllQuiet, tree_quiet}

pub data Piece : Type 0 where
  around : List Event → Piece
  function : Tree → Piece

-- all that the pieces tell, where a function tells this
abbrev pub told_by : (Tree → List Event) → List Piece → List Event
told_by tells [] = []
told_by tells (around es ∷ ps) = es ++ told_by tells ps
told_by tells (function t ∷ ps) = tells t ++ told_by tells ps

abbrev pub told_around : List Piece → List Event
told_around [] = []
told_around (around es ∷ ps) = es ++ told_around ps
told_around (function t ∷ ps) = told_around ps

abbrev pub trees_of : List Piece → List Tree
trees_of [] = []
trees_of (around es ∷ ps) = trees_of ps
trees_of (function t ∷ ps) = t ∷ trees_of ps

-- What stands around functions declares names of the package alone.
abbrev pub AroundShared : List Piece → Type 0
AroundShared [] = Unit {0}
AroundShared (around es ∷ ps) = EachDeclared Shared es × AroundShared ps
AroundShared (function t ∷ ps) = AroundShared ps

-- What stands around functions lies from some token on and before another one.
pub record LiesFrom (lo : ℕ) (es : List Event) : Type 0 where
  pub from : ℕ
  pub upto : ℕ
  pub behind : lo ≤ from
  pub grows : from ≤ upto
  pub lie : AllLie from upto es
  pub quiet : AllQuiet es

-- The pieces lie one behind the other, from the token lo on.
abbrev pub ArePlaced : ℕ → List Piece → Type 0
ArePlaced lo [] = Unit {0}
ArePlaced lo (around es ∷ ps) = (x : LiesFrom lo es) × ArePlaced x.upto ps
ArePlaced lo (function t ∷ ps) = (lo ≤ first t) × IsLaidOut t × ArePlaced (last t) ps

pub record InPieces (lo : ℕ) (tells : Tree → List Event) (all rest : List Event) (ts : List Tree) : Type 0 where
  pub pieces : List Piece
  pub whole : all ≡ told_by tells pieces
  pub outside : rest ≡ told_around pieces
  pub trees : ts ≡ trees_of pieces
  pub shared : AroundShared pieces
  pub placed : ArePlaced lo pieces

module _ (ts : List TokenKind) (p : ℕ → Bool) (e : ℕ) where
  abbrev pub file : Context
  file = file_context e

  abbrev Row : ℕ → ℕ → ℕ → Trees → Trees → ℕ → Trees → Type 0
  Row lo i j ps qs n ds = InPieces lo (events file) (events_of file kind.File i j ps n ds) (events_of file kind.File i j qs n (no_functions ds)) (functions ds)

  row : (lo i j : ℕ) (ps qs : Trees) (n : ℕ) (ds : Trees) → AllSit ts p ds → LieIn lo j ds → Row lo i j ps qs n ds
  row lo i j ps qs n none h l = record { pieces = []; whole = refl; outside = refl; trees = refl; shared = tt; placed = tt }
  row lo i j ps qs n (skip ds) h l = let r = row lo i j ps qs (suc n) ds h l in record { pieces = r.pieces; whole = r.whole; outside = r.outside; trees = r.trees; shared = r.shared; placed = r.placed }
  row lo i j ps qs n (more (node kind.FunctionDeclaration a b rs) ds) h l =
      let d : Tree = node kind.FunctionDeclaration a b rs in
      let r = row b i j ps qs (suc n) ds h.1 l.2 in
      record {
        pieces = function d ∷ r.pieces;
        whole =
            ap (λ es. es ++ events_of file kind.File i j ps (suc n) ds) (function_there ts p e i j ps n a b rs (is_more ds) h.0.derives)
            ∙ ap (λ es. events file d ++ es) r.whole;
        outside = r.outside;
        trees = ap (λ us. d ∷ us) r.trees;
        shared = r.shared;
        placed = (l.0, l.1, r.placed);
      }
  row lo i j ps qs n (more (node (kind.Declaration s) a b rs) ds) h l =
      let d : Tree = node (kind.Declaration s) a b rs in
      let here : Context = around_part ts p e i j ps n d (is_more ds) in
      let inner : IsInner d = (refl, spells_inner ts rs (rule place.Free (kind.Declaration s)) a b (rule_inner place.Free (kind.Declaration s) refl) h.0.derives.1) in
      let r = row b i j ps qs (suc n) ds h.1 l.2 in
      record {
        pieces = around (events here d) ∷ r.pieces;
        whole = ap (λ es. events here d ++ es) r.whole;
        outside = ap (λ es. events here d ++ es) r.outside;
        trees = r.trees;
        shared = (tree_shared here d (derives_outside ts d category.Declaration refl h.0.derives) inner (record { block = tt; role = tt; parameters = tt }), r.shared);
        placed = (record { from = a; upto = b; behind = l.0; grows = let lt : a < b = laid_grows d l.1 in omega (arith, lt); lie = tree_lies a b here d l.1 (omega arith) (omega arith) tt tt tt (tt, tt, tt); quiet = tree_quiet here d (derives_outside ts d category.Declaration refl h.0.derives) inner refl }, r.placed);
      }
  row lo i j ps qs n (more (node x a b rs) ds) h l = absurd (true_false false h.0.derives.0 refl)

pub file_pieces : (ts : List TokenKind) (t : Tree) → IsFile ts t
    → InPieces 0 (events (file_context (last t))) (events (file_context (last t)) t) (events (file_context (last t)) (without_functions t)) (functions (parts t))
file_pieces ts (node kind.File i j none) f = absurd f.derives.1
file_pieces ts (node kind.File i j (skip ps)) f =
    let laid : IsLaidOut (node kind.File i j (skip ps)) = derives_laid ts (node kind.File i j (skip ps)) category.File f.derives in
    let r = row ts (in_bodies ps) j 0 i j (skip ps) (skip (no_functions ps)) 1 ps (file_sat ts (node kind.File i j (skip ps)) f) (subst (λ x. LieIn x j ps) f.begins laid.1) in
    record { pieces = r.pieces; whole = r.whole; outside = r.outside; trees = r.trees; shared = r.shared; placed = r.placed }
file_pieces ts (node kind.File i j (more (node kind.Imports a b rs) ds)) f =
    let d : Tree = node kind.Imports a b rs in
    let ps : Trees = more d ds in
    let p : ℕ → Bool = in_bodies ps in
    let h : Derives ts category.Imports d = f.derives.1.1 in
    let here : Context = around_part ts p j i j ps 0 d (is_more ds) in
    let inner : IsInner d = derives_inner ts d category.Imports refl h in
    let laid : IsLaidOut (node kind.File i j ps) = derives_laid ts (node kind.File i j ps) category.File f.derives in
    let r = row ts p j b i j ps (more d (no_functions ds)) 1 ds (file_sat ts (node kind.File i j ps) f).3 laid.1.2 in
    record {
      pieces = around (events here d) ∷ r.pieces;
      whole = ap (λ es. events here d ++ es) r.whole;
      outside = ap (λ es. events here d ++ es) r.outside;
      trees = r.trees;
      shared = (tree_shared here d (derives_outside ts d category.Imports refl h) inner (record { block = tt; role = tt; parameters = tt }), r.shared);
      placed = (record { from = a; upto = b; behind = omega arith; grows = let lt : a < b = laid_grows d laid.1.1 in omega (arith, lt); lie = tree_lies a b here d laid.1.1 (omega arith) (omega arith) tt tt tt (tt, tt, tt); quiet = tree_quiet here d (derives_outside ts d category.Imports refl h) inner refl }, r.placed);
    }
file_pieces ts (node kind.File i j (more (node k a b rs) ds)) f = absurd (true_false false f.derives.1.1.0 refl)
file_pieces ts (node k i j ps) f = absurd (true_false false f.derives.0 refl)
