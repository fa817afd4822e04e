-- The functions of files that are read: where they stand, in their order.
use Rattle.std.proofs.Common.{◌≡◌, ◌∙◌, ℕ, suc, ◌+◌, ◌<◌, ◌≤◌, inl, inr, true, false, Bool, if◌then◌else◌, List, [], ◌∷◌, ◌++◌, length, map, Option, Some, None, slice_get, refl, sym, ap, subst, arith}
use Rattle.std.specs.List.{AllByRecursion}
use Rattle.std.proofs.lemmas.List.{length-map, map-append}
use Rattle.std.proofs.lemmas.List.Sums.{sum_by-cons}
use Rattle.go_base.specs.declared.bytes.FileText.{FileText}
use Rattle.go_base.specs.Package.{most_bytes, total_bytes}
use Rattle.go_tokens.specs.Encoding.{IsText}
use Rattle.go_tokens.specs.Lexing.{width}
use Rattle.go_tokens.specs.Tokens.{AreOrdered, kind_of, kinds, span_of}
use Rattle.go_tokens.proofs.Public.{placed}
use Rattle.go_grammar.specs.declared.kind.Category.TheVariants as category
use Rattle.go_grammar.specs.declared.kind.Kind.TheVariants as kind
use Rattle.go_grammar.specs.declared.kind.Sort.{Sort}
use Rattle.go_grammar.specs.declared.kind.Sort.TheVariants as declaring
use Rattle.go_grammar.specs.Grammar.{Derives}
use Rattle.go_grammar.specs.Trees.{Tree, node, Trees, none, more, skip, first, last}
use Rattle.go_tree.specs.declared.context.Entity.TheVariants as entity
use Rattle.go_tree.specs.File.{FileTree, IsFileTree}
use Rattle.go_tree.specs.Lists.{functions}
use Rattle.go_tree.specs.Views.{Tiles, view}
use Rattle.go_scopes_events.specs.Functions.{function_names, name_of}
use Rattle.go_scopes.specs.Numbering.{function_spots, AreFiles}
use Rattle.go_package_defs.specs.Answer.{specifications}
use Rattle.go_package_defs.specs.Bodies.{is_this, those_of}
use Rattle.go_package_defs.specs.Checked.{AreRead, IsRead}
use Rattle.go_package_defs.specs.Declarations.{Specification, declaration, declarations, declared, grouped, in_file, source_behind, specification_of}
use Rattle.go_package_defs.specs.Sources.{source_of}
use Rattle.go_function_places.specs.Places.{AreInOrder, FunctionPlace, StandsBefore, StandsIn, name_spot}
use Rattle.go_function_places.proofs.Derived.{Set, AllSet, derives-set}
use Rattle.go_function_places.proofs.Functions.{IsNode, all-both}

-- ---- functions among declarations

those-more : (b : Bool) (d : Specification) (us vs ws : List Specification) → us ≡ vs ++ ws → (if b then d ∷ us else us) ≡ (if b then d ∷ vs else vs) ++ ws
those-more true d us vs ws e = ap (λ l. d ∷ l) e
those-more false d us vs ws e = e

those-both : (xs ys : List Specification) → those_of entity.Function (xs ++ ys) ≡ those_of entity.Function xs ++ those_of entity.Function ys
those-both [] ys = refl
those-both (d ∷ xs) ys = those-more (is_this entity.Function d.entity) d (those_of entity.Function (xs ++ ys)) (those_of entity.Function xs) (those_of entity.Function ys) (those-both xs ys)

no-function : (n : ℕ) (s : Sort) (k : ℕ) (r : Option Tree) (t : Tree) → is_this entity.Function (specification_of n s k r t).entity ≡ false
no-function n declaring.Constant k r (node l i j ps) = refl
no-function n declaring.Type k r (node l i j ps) = refl
no-function n declaring.Variable k r (node l i j ps) = refl

grouped-none : (n : ℕ) (s : Sort) (k : ℕ) (r : Option Tree) (ps : Trees) → those_of entity.Function (grouped n s k r ps) ≡ []
grouped-none n s k r none = refl
grouped-none n s k r (more p ps) =
    ap (λ b. if b then specification_of n s k r p ∷ those_of entity.Function (grouped n s (suc k) (source_behind r p) ps) else those_of entity.Function (grouped n s (suc k) (source_behind r p) ps)) (no-function n s k r p)
    ∙ grouped-none n s (suc k) (source_behind r p) ps
grouped-none n s k r (skip ps) = grouped-none n s k r ps

declared-none : (n : ℕ) (s : Sort) (ps : Trees) → those_of entity.Function (declared n s ps) ≡ []
declared-none n s (more (node (kind.Group g) i j ps) none) = grouped-none n s 0 None ps
declared-none n s ps = grouped-none n s 0 None ps

-- ---- places

abbrev pub place_of : Specification → FunctionPlace
place_of d = record { file = d.file; first = d.first; last = d.last }

-- where the functions among some declarations stand
abbrev pub places_of : List Specification → List FunctionPlace
places_of ds = map place_of (those_of entity.Function ds)

places-both : (xs ys : List Specification) → places_of (xs ++ ys) ≡ places_of xs ++ places_of ys
places-both xs ys = ap (map place_of) (those-both xs ys) ∙ map-append place_of (those_of entity.Function xs) (those_of entity.Function ys)

-- ---- a file

-- places of a file, one behind the other
abbrev Row : ℕ → ℕ → ℕ → List FunctionPlace → Type 0
Row n i j [] = Unit {0}
Row n i j (p ∷ ps) = (p.file ≡ n) × (i ≤ p.first) × (p.first < p.last) × (p.last ≤ j) × Row n p.last j ps

lower : (n i i' j : ℕ) (ps : List FunctionPlace) → i' ≤ i → Row n i j ps → Row n i' j ps
lower n i i' j [] u h = tt
lower n i i' j (p ∷ ps) u h = (h.0, omega (arith, u, h.1), h.2, h.3, h.4)

tiles-end : (i j : ℕ) (ps : Trees) → Tiles i j ps → i ≤ j
tiles-end i j none h = h
tiles-end i j (more p ps) h = omega (arith, h.0, h.1, tiles-end (last p) j ps h.2)
tiles-end i j (skip ps) h = tiles-end i j ps h

module _ (n : ℕ) where
  one-row : (i j : ℕ) (p : Tree) (rest : List FunctionPlace) → i ≤ first p → last p ≤ j → Set p → Row n (last p) j rest → Row n i j (places_of (declaration n p) ++ rest)
  one-row i j (node (kind.Declaration s) a b ps) rest u v h r = subst (λ ds. Row n i j (map place_of ds ++ rest)) (sym (declared-none n s ps)) (let grows : a < b = h.0 in lower n b i j rest (omega (arith, u, grows)) r)
  one-row i j (node kind.FunctionDeclaration a b ps) rest u v h r = (refl, u, h.0, v, r)
  one-row i j (node k a b ps) rest u v h r = let grows : a < b = h.0 in lower n b i j rest (omega (arith, u, grows)) r

  declarations-row : (i j : ℕ) (ps : Trees) → Tiles i j ps → AllSet ps → Row n i j (places_of (declarations n ps))
  declarations-row i j none t h = tt
  declarations-row i j (more p ps) t h =
      subst (Row n i j) (sym (places-both (declaration n p) (declarations n ps)))
      (one-row i j p (places_of (declarations n ps)) t.0 (tiles-end (last p) j ps t.2) h.0 (declarations-row (last p) j ps t.2 h.1))
  declarations-row i j (skip ps) t h = declarations-row i j ps t h

  row-file : (i j : ℕ) (ps : List FunctionPlace) → Row n i j ps → AllByRecursion (λ (p : FunctionPlace). p.file ≡ n) ps
  row-file i j [] h = tt
  row-file i j (p ∷ ps) h = (h.0, row-file p.last j ps h.4)

  row-before : (p : FunctionPlace) (i j : ℕ) (ps : List FunctionPlace) → p.file ≡ n → p.last ≤ i → Row n i j ps → AllByRecursion (StandsBefore p) ps
  row-before p i j [] e u h = tt
  row-before p i j (q ∷ ps) e u h = (inr (e ∙ sym h.0, omega (arith, u, h.1)), row-before p q.last j ps e (omega (arith, u, h.1, h.2)) h.4)

  row-order : (i j : ℕ) (ps : List FunctionPlace) → Row n i j ps → AreInOrder ps
  row-order i j [] h = tt
  row-order i j (p ∷ ps) h = (row-before p p.last j ps h.0 (omega arith) h.4, row-order p.last j ps h.4)

  row-stands : (files : List FileTree) (f : FileTree) (i j : ℕ) (ps : List FunctionPlace) → slice_get files n ≡ Some f → AreOrdered 0 (map span_of f.tokens.tokens) (length f.tokens.text) → 0 < i → j ≤ length f.tokens.tokens
      → Row n i j ps → AllByRecursion (StandsIn files) ps
  row-stands files f i j [] at o u v h = tt
  row-stands files f i j (p ∷ ps) at o u v h = (
    record { file = f; there = ap (slice_get files) h.0 ∙ at; ordered = o; behind = omega (arith, u, h.1); some = h.2; within = omega (arith, h.3, v) },
    row-stands files f p.last j ps at o (omega (arith, u, h.1, h.2)) v h.4,
  )

  -- ---- under which names they are declared

  declarations-named : (ps : Trees) → map name_spot (places_of (declarations n ps)) ≡ map (λ t. (n, t)) (map name_of (functions ps))
  declarations-named none = refl
  declarations-named (skip ps) = declarations-named ps
  declarations-named (more (node (kind.Declaration s) i j qs) ps) =
      ap (λ ds. map name_spot (map place_of ds)) (those-both (declaration n (node (kind.Declaration s) i j qs)) (declarations n ps) ∙ ap (λ l. l ++ those_of entity.Function (declarations n ps)) (declared-none n s qs)) ∙ declarations-named ps
  declarations-named (more (node kind.FunctionDeclaration i j qs) ps) = ap (λ l. (n, suc i) ∷ l) (declarations-named ps)
  declarations-named (more (node k i j qs) ps) = declarations-named ps

  file-named : (f : FileTree) (t : Tree) → Derives (kinds f.tokens.tokens) category.File t → map name_spot (places_of (in_file n t)) ≡ map (λ m. (n, m)) (function_names t)
  file-named f (node kind.File i j none) h = absurd h.1
  file-named f (node kind.File i j (skip ps)) h = declarations-named ps
  file-named f (node kind.File i j (more (node kind.Imports a b qs) ps)) h = declarations-named ps
  file-named f (node kind.File i j (more (node k a b qs) ps)) h = cc
  file-named f (node k i j ps) h = cc

  -- ---- nodes

  declaration-node : (t : Tree) → Set t → AllByRecursion IsNode (those_of entity.Function (declaration n t))
  declaration-node (node (kind.Declaration s) i j ps) h = subst (AllByRecursion IsNode) (sym (declared-none n s ps)) tt
  declaration-node (node kind.FunctionDeclaration i j ps) h = (record { tree = node kind.FunctionDeclaration i j ps; is = refl; set = h; begins = refl; ends = refl }, tt)
  declaration-node t h = tt

  declarations-nodes : (ps : Trees) → AllSet ps → AllByRecursion IsNode (those_of entity.Function (declarations n ps))
  declarations-nodes none h = tt
  declarations-nodes (more p ps) h =
      subst (AllByRecursion IsNode) (sym (those-both (declaration n p) (declarations n ps)))
      (all-both IsNode (those_of entity.Function (declaration n p)) (those_of entity.Function (declarations n ps)) (declaration-node p h.0) (declarations-nodes ps h.1))
  declarations-nodes (skip ps) h = declarations-nodes ps h

  file-nodes : (t : Tree) → Set t → AllByRecursion IsNode (those_of entity.Function (in_file n t))
  file-nodes (node k i j ps) h = declarations-nodes ps h.3

file-row : (n : ℕ) (f : FileTree) (t : Tree) → Derives (kinds f.tokens.tokens) category.File t → Set t → last t ≤ length f.tokens.tokens → (i : ℕ) × (j : ℕ) × (0 < i) × (j ≤ length f.tokens.tokens) × Row n i j (places_of (in_file n t))
file-row n f (node kind.File i j ps) d h u = (i + 1, j, omega arith, u, declarations-row n (i + 1) j ps h.1 h.3)
file-row n f (node k i j ps) d h u = cc

-- ---- all files

text-width : (text bytes : List ℕ) → IsText text bytes → width text ≡ length bytes
unfolding width
text-width text bytes h = ap length h.encoded

module _ (n : ℕ) (text : FileText) (f : FileTree) (r : IsRead n text f) where
  tokens-width : width r.lexing.text ≡ length f.tokens.text
  tokens-width = text-width r.lexing.text text.bytes r.lexing.is_text ∙ ap length (sym r.bytes)

  tokens-placed : AreOrdered 0 (map span_of f.tokens.tokens) (length f.tokens.text)
  tokens-placed = (placed n r.lexing.text f.tokens.tokens f.tokens.comments (length f.tokens.text) r.lexing.lexes tokens-width).tokens

  is-file : length text.bytes ≤ most_bytes → IsFileTree f
  is-file u =
      let at = placed n r.lexing.text f.tokens.tokens f.tokens.comments (length f.tokens.text) r.lexing.lexes tokens-width in
      let long : length f.tokens.text ≡ length text.bytes = ap length r.bytes in
      let few = at.few in
      let few_comments = at.few_comments in
      record { tree = r.tree; tokens = record { short = omega (arith, u, long); few = omega (arith, u, long, few); few_comments = omega (arith, u, long, few_comments); tokens = at.tokens; comments = at.comments } }

pub are-files : (n : ℕ) (texts : List FileText) (files : List FileTree) → AreRead n texts files → total_bytes texts ≤ most_bytes → AreFiles files
are-files n [] [] h u = tt
are-files n [] (f ∷ fs) h u = absurd h
are-files n (x ∷ xs) [] h u = absurd h
are-files n (x ∷ xs) (f ∷ fs) h u =
    let sum : total_bytes (x ∷ xs) ≡ length x.bytes + total_bytes xs = sum_by-cons (λ (y : FileText). length y.bytes) x xs in
    (is-file n x f h.0 (omega (arith, u, sum)), are-files (suc n) xs fs h.1 (omega (arith, u, sum)))

pub all-nodes : (n : ℕ) (texts : List FileText) (files : List FileTree) → AreRead n texts files → AllByRecursion IsNode (those_of entity.Function (specifications n (map source_of files)))
all-nodes n [] [] h = tt
all-nodes n (x ∷ xs) (f ∷ fs) h =
    let ds = in_file n (view f.root) in
    let es = specifications (suc n) (map source_of fs) in
    subst (AllByRecursion IsNode) (sym (those-both ds es))
    (all-both IsNode (those_of entity.Function ds) (those_of entity.Function es) (file-nodes n (view f.root) (derives-set (kinds f.tokens.tokens) category.File (view f.root) h.0.tree.derives)) (all-nodes (suc n) xs fs h.1))
all-nodes n [] (f ∷ fs) h = absurd h
all-nodes n (x ∷ xs) [] h = absurd h

pub all-named : (n : ℕ) (texts : List FileText) (files : List FileTree) → AreRead n texts files → map name_spot (places_of (specifications n (map source_of files))) ≡ function_spots n files
all-named n [] [] h = refl
all-named n (x ∷ xs) (f ∷ fs) h =
    let ds = in_file n (view f.root) in
    let es = specifications (suc n) (map source_of fs) in
    ap (map name_spot) (places-both ds es) ∙ map-append name_spot (places_of ds) (places_of es)
    ∙ ap (λ l. l ++ map name_spot (places_of es)) (file-named n f (view f.root) h.0.tree.derives)
    ∙ ap (λ l. map (λ t. (n, t)) (function_names (view f.root)) ++ l) (all-named (suc n) xs fs h.1)
all-named n [] (f ∷ fs) h = absurd h
all-named n (x ∷ xs) [] h = absurd h

-- ---- in order

abbrev From : ℕ → List FunctionPlace → Type 0
From n ps = AllByRecursion (λ (p : FunctionPlace). n ≤ p.file) ps

from-more : (n : ℕ) (ps : List FunctionPlace) → From (suc n) ps → From n ps
from-more n [] h = tt
from-more n (p ∷ ps) h = (omega (arith, h.0), from-more n ps h.1)

here-from : (n : ℕ) (ps : List FunctionPlace) → AllByRecursion (λ (p : FunctionPlace). p.file ≡ n) ps → From n ps
here-from n [] h = tt
here-from n (p ∷ ps) h = (let e : p.file ≡ n = h.0 in omega (arith, e), here-from n ps h.1)

before-later : (n : ℕ) (p : FunctionPlace) (qs : List FunctionPlace) → p.file ≡ n → From (suc n) qs → AllByRecursion (StandsBefore p) qs
before-later n p [] e h = tt
before-later n p (q ∷ qs) e h = (inl (let u : suc n ≤ q.file = h.0 in omega (arith, e, u)), before-later n p qs e h.1)

order-both : (n : ℕ) (ps qs : List FunctionPlace) → AllByRecursion (λ (p : FunctionPlace). p.file ≡ n) ps → From (suc n) qs → AreInOrder ps → AreInOrder qs → AreInOrder (ps ++ qs)
order-both n [] qs e u h k = k
order-both n (p ∷ ps) qs e u h k = (all-both (StandsBefore p) ps qs h.0 (before-later n p qs e.0 u), order-both n ps qs e.1 u h.1 k)

-- functions stand in their files, in order
pub record Stand (all : List FileTree) (n : ℕ) (ps : List FunctionPlace) : Type 0 where
  pub stand : AllByRecursion (StandsIn all) ps
  pub order : AreInOrder ps
  pub from : From n ps

pub all-stand : (all : List FileTree) (n : ℕ) (texts : List FileText) (files : List FileTree) → AreRead n texts files → ((k : ℕ) (f : FileTree) → slice_get files k ≡ Some f → slice_get all (n + k) ≡ Some f)
    → Stand all n (places_of (specifications n (map source_of files)))
all-stand all n [] [] h g = record { stand = tt; order = tt; from = tt }
all-stand all n (x ∷ xs) (f ∷ fs) h g =
    let t : Tree = view f.root in
    let ds = in_file n t in
    let es = specifications (suc n) (map source_of fs) in
    let set = derives-set (kinds f.tokens.tokens) category.File t h.0.tree.derives in
    let ends : last t ≡ length (kinds f.tokens.tokens) = h.0.tree.ends in
    let row = file-row n f t h.0.tree.derives set (omega (arith, ends, length-map f.tokens.tokens kind_of)) in
    let here : slice_get all n ≡ Some f = (let e : n ≡ n + 0 = omega arith in ap (slice_get all) e) ∙ g 0 f refl in
    let own = row-file n row.0 row.1 (places_of ds) row.4 in
    let rest = all-stand all (suc n) xs fs h.1 (λ k c e. let i : suc n + k ≡ n + suc k = omega arith in ap (slice_get all) i ∙ g (suc k) c e) in
    subst (Stand all n) (sym (places-both ds es))
    (record {
      stand = all-both (StandsIn all) (places_of ds) (places_of es) (row-stands n all f row.0 row.1 (places_of ds) here (tokens-placed n x f h.0) row.2 row.3 row.4) rest.stand;
      order = order-both n (places_of ds) (places_of es) own rest.from (row-order n row.0 row.1 (places_of ds) row.4) rest.order;
      from = all-both (λ (p : FunctionPlace). n ≤ p.file) (places_of ds) (places_of es) (here-from n (places_of ds) own) (from-more n (places_of es) rest.from);
    })
all-stand all n [] (f ∷ fs) h g = absurd h
all-stand all n (x ∷ xs) [] h g = absurd h
