-- The functions that files declare are parts of the trees of the files, under the numbers and names that the package has for them.
use Rattle.std.proofs.Common.{◌≡◌, ◌∙◌, ℕ, suc, ◌+◌, ◌≤◌, true, false, Bool, if◌then◌else◌, List, [], ◌∷◌, ◌++◌, length, map, Option, Some, None, slice_get, refl, sym, ap, subst, arith}
use Rattle.std.specs.List.{AllByRecursion}
use Rattle.std.proofs.lemmas.List.{map-append}
use Rattle.std.proofs.lemmas.List.Sums.{sum_by-cons}
use Rattle.go_base.specs.declared.bytes.FileText.{FileText}
use Rattle.go_base.specs.Package.{most_bytes, total_bytes}
use Rattle.go_tokens.specs.Encoding.{IsText}
use Rattle.go_tokens.specs.Lexing.{width}
use Rattle.go_tokens.specs.Tokens.{kinds}
use Rattle.go_tokens.proofs.Public.{placed}
use Rattle.go_tokens.specs.declared.token.TokenKind.TheVariants as token
use Rattle.go_grammar.specs.declared.kind.Category.TheVariants as category
use Rattle.go_grammar.specs.declared.kind.Kind.TheVariants as kind
use Rattle.go_grammar.specs.declared.kind.Sort.{Sort}
use Rattle.go_grammar.specs.declared.kind.Sort.TheVariants as declaring
use Rattle.go_grammar.specs.Grammar.{Derives, IsFile}
use Rattle.go_grammar.specs.Rules.{Rule, Each, Many}
use Rattle.go_grammar.specs.Trees.{Tree, node, Trees, none, more, skip, first, last}
use Rattle.go_grammar.specs.Trees as syntax
use Rattle.go_rewriting.specs.Replacing.{subtree_at, subtree_in, asked_at, asked_in}
use Rattle.go_tree.specs.declared.context.Entity.TheVariants as entity
use Rattle.go_tree.specs.File.{FileTree, IsFileTree}
use Rattle.go_tree.specs.Lists.{functions}
use Rattle.go_tree.specs.Views.{view}
use Rattle.go_scopes_events.specs.Functions.{function_names, name_of}
use Rattle.go_scopes.specs.Numbering.{function_spots, AreFiles}
use Rattle.go_package_defs.specs.Answer.{specifications}
use Rattle.go_package_defs.specs.Bodies.{is_this, those_of}
use Rattle.go_package_defs.specs.Checked.{AreRead, IsRead}
use Rattle.go_package_defs.specs.Declarations.{Specification, declaration, declarations, declared, grouped, in_file, source_behind, specification_of}
use Rattle.go_package_defs.specs.Sources.{source_of}
use Rattle.go_function_trees.proofs.Listed.{differ}
use Rattle.go_function_trees.proofs.Standing.{all-both}

-- ---- functions among declarations

those-more : (b : Bool) (d : Specification) (us vs ws : List Specification) → us ≡ vs ++ ws → (if b then d ∷ us else us) ≡ (if b then d ∷ vs else vs) ++ ws
those-more true d us vs ws e = ap (λ l. d ∷ l) e
those-more false d us vs ws e = e

those-both : (xs ys : List Specification) → those_of entity.Function (xs ++ ys) ≡ those_of entity.Function xs ++ those_of entity.Function ys
those-both [] ys = refl
those-both (d ∷ xs) ys = those-more (is_this entity.Function d.entity) d (those_of entity.Function (xs ++ ys)) (those_of entity.Function xs) (those_of entity.Function ys) (those-both xs ys)

no-function : (n : ℕ) (s : Sort) (k : ℕ) (r : Option Tree) (t : Tree) → is_this entity.Function (specification_of n s k r t).entity ≡ false
no-function n declaring.Constant k r (node l i j ps) = refl
no-function n declaring.Type k r (node l i j ps) = refl
no-function n declaring.Variable k r (node l i j ps) = refl

grouped-none : (n : ℕ) (s : Sort) (k : ℕ) (r : Option Tree) (ps : Trees) → those_of entity.Function (grouped n s k r ps) ≡ []
grouped-none n s k r none = refl
grouped-none n s k r (more p ps) =
    ap (λ b. if b then specification_of n s k r p ∷ those_of entity.Function (grouped n s (suc k) (source_behind r p) ps) else those_of entity.Function (grouped n s (suc k) (source_behind r p) ps)) (no-function n s k r p)
    ∙ grouped-none n s (suc k) (source_behind r p) ps
grouped-none n s k r (skip ps) = grouped-none n s k r ps

declared-none : (n : ℕ) (s : Sort) (ps : Trees) → those_of entity.Function (declared n s ps) ≡ []
declared-none n s (more (node (kind.Group g) i j ps) none) = grouped-none n s 0 None ps
declared-none n s ps = grouped-none n s 0 None ps

-- ---- parts of a file

-- what all parts of a file but for its imports are
abbrev rest : Rule
rest = Many [] (Each category.Declaration (token.Semicolon ∷ []) [])

-- the function's declaration is one of these parts of a right side, in the file n
pub record PartIn (n : ℕ) (r : Rule) (ps : Trees) (d : Specification) : Type 0 where
  pub part : ℕ
  pub tree : Tree
  pub at_part : subtree_in part [] ps ≡ Some tree
  pub asked : asked_in r part [] ps ≡ Some category.Declaration
  pub is : d.tree ≡ Some tree
  pub is_function : syntax.kind_of tree ≡ kind.FunctionDeclaration
  pub begins : first tree ≡ d.first
  pub file : d.file ≡ n

part-later : (n : ℕ) (p : Tree) (ps : Trees) (ds : List Specification) → AllByRecursion (PartIn n rest ps) ds → AllByRecursion (PartIn n rest (more p ps)) ds
part-later n p ps [] h = tt
part-later n p ps (d ∷ ds) h = (
  record { part = suc h.0.part; tree = h.0.tree; at_part = h.0.at_part; asked = h.0.asked; is = h.0.is; is_function = h.0.is_function; begins = h.0.begins; file = h.0.file },
  part-later n p ps ds h.1,
)

part-skip : (n : ℕ) (ps : Trees) (ds : List Specification) → AllByRecursion (PartIn n rest ps) ds → AllByRecursion (PartIn n rest (skip ps)) ds
part-skip n ps [] h = tt
part-skip n ps (d ∷ ds) h = (
  record { part = suc h.0.part; tree = h.0.tree; at_part = h.0.at_part; asked = h.0.asked; is = h.0.is; is_function = h.0.is_function; begins = h.0.begins; file = h.0.file },
  part-skip n ps ds h.1,
)

module _ (n : ℕ) where
  part-first : (p : Tree) (ps : Trees) → AllByRecursion (PartIn n rest (more p ps)) (those_of entity.Function (declaration n p))
  part-first (node (kind.Declaration s) i j qs) ps = subst (AllByRecursion (PartIn n rest (more (node (kind.Declaration s) i j qs) ps))) (sym (declared-none n s qs)) tt
  part-first (node kind.FunctionDeclaration i j qs) ps = (record { part = 0; tree = node kind.FunctionDeclaration i j qs; at_part = refl; asked = refl; is = refl; is_function = refl; begins = refl; file = refl }, tt)
  part-first (node k i j qs) ps = tt

  parts-in : (ps : Trees) → AllByRecursion (PartIn n rest ps) (those_of entity.Function (declarations n ps))
  parts-in none = tt
  parts-in (more p ps) =
      subst (AllByRecursion (PartIn n rest (more p ps))) (sym (those-both (declaration n p) (declarations n ps)))
      (all-both (PartIn n rest (more p ps)) (those_of entity.Function (declaration n p)) (those_of entity.Function (declarations n ps)) (part-first p ps) (part-later n p ps (those_of entity.Function (declarations n ps)) (parts-in ps)))
  parts-in (skip ps) = part-skip n ps (those_of entity.Function (declarations n ps)) (parts-in ps)

-- The function's declaration is a part of a file of these.
pub record InFile (all : List FileTree) (d : Specification) : Type 0 where
  pub file : FileTree
  pub there : slice_get all d.file ≡ Some file
  pub derived : IsFile (kinds file.tokens.tokens) (view file.root)
  pub part : ℕ
  pub tree : Tree
  pub at_path : subtree_at (part ∷ []) (view file.root) ≡ Some tree
  pub asked : asked_at category.File (part ∷ []) (view file.root) ≡ Some category.Declaration
  pub is : d.tree ≡ Some tree
  pub is_function : syntax.kind_of tree ≡ kind.FunctionDeclaration
  pub begins : first tree ≡ d.first

-- the same of the tree of a file
record OfFile (n : ℕ) (t : Tree) (d : Specification) : Type 0 where
  part : ℕ
  tree : Tree
  at_path : subtree_at (part ∷ []) t ≡ Some tree
  asked : asked_at category.File (part ∷ []) t ≡ Some category.Declaration
  is : d.tree ≡ Some tree
  is_function : syntax.kind_of tree ≡ kind.FunctionDeclaration
  begins : first tree ≡ d.first
  file : d.file ≡ n

of-more : (n i j : ℕ) (p : Tree) (ps : Trees) (ds : List Specification) → AllByRecursion (PartIn n rest ps) ds → AllByRecursion (OfFile n (node kind.File i j (more p ps))) ds
of-more n i j p ps [] h = tt
of-more n i j p ps (d ∷ ds) h = (
  record { part = suc h.0.part; tree = h.0.tree; at_path = h.0.at_part; asked = h.0.asked; is = h.0.is; is_function = h.0.is_function; begins = h.0.begins; file = h.0.file },
  of-more n i j p ps ds h.1,
)

of-skip : (n i j : ℕ) (ps : Trees) (ds : List Specification) → AllByRecursion (PartIn n rest ps) ds → AllByRecursion (OfFile n (node kind.File i j (skip ps))) ds
of-skip n i j ps [] h = tt
of-skip n i j ps (d ∷ ds) h = (
  record { part = suc h.0.part; tree = h.0.tree; at_path = h.0.at_part; asked = h.0.asked; is = h.0.is; is_function = h.0.is_function; begins = h.0.begins; file = h.0.file },
  of-skip n i j ps ds h.1,
)

file-functions : (n : ℕ) (f : FileTree) (t : Tree) → Derives (kinds f.tokens.tokens) category.File t → AllByRecursion (OfFile n t) (those_of entity.Function (in_file n t))
file-functions n f (node kind.File i j none) h = absurd h.1
file-functions n f (node kind.File i j (skip ps)) h = of-skip n i j ps (those_of entity.Function (declarations n ps)) (parts-in n ps)
file-functions n f (node kind.File i j (more (node kind.Imports a b qs) ps)) h = of-more n i j (node kind.Imports a b qs) ps (those_of entity.Function (declarations n ps)) (parts-in n ps)
file-functions n f (node kind.File i j (more (node k a b qs) ps)) h = absurd (differ h.1.1.0)
file-functions n f (node k i j ps) h = absurd (differ h.0)

in-files : (all : List FileTree) (n : ℕ) (f : FileTree) (ds : List Specification) → slice_get all n ≡ Some f → IsFile (kinds f.tokens.tokens) (view f.root) → AllByRecursion (OfFile n (view f.root)) ds → AllByRecursion (InFile all) ds
in-files all n f [] e w h = tt
in-files all n f (d ∷ ds) e w h = (
  record {
    file = f;
    there = ap (slice_get all) h.0.file ∙ e;
    derived = w;
    part = h.0.part;
    tree = h.0.tree;
    at_path = h.0.at_path;
    asked = h.0.asked;
    is = h.0.is;
    is_function = h.0.is_function;
    begins = h.0.begins;
  },
  in-files all n f ds e w h.1,
)

pub all-in-files : (all : List FileTree) (n : ℕ) (texts : List FileText) (files : List FileTree) → AreRead n texts files → ((k : ℕ) (f : FileTree) → slice_get files k ≡ Some f → slice_get all (n + k) ≡ Some f)
    → AllByRecursion (InFile all) (those_of entity.Function (specifications n (map source_of files)))
all-in-files all n [] [] h g = tt
all-in-files all n [] (f ∷ fs) h g = absurd h
all-in-files all n (x ∷ xs) [] h g = absurd h
all-in-files all n (x ∷ xs) (f ∷ fs) h g =
    let ds = in_file n (view f.root) in
    let es = specifications (suc n) (map source_of fs) in
    let here : slice_get all n ≡ Some f = (let e : n ≡ n + 0 = omega arith in ap (slice_get all) e) ∙ g 0 f refl in
    subst (AllByRecursion (InFile all)) (sym (those-both ds es))
    (all-both (InFile all) (those_of entity.Function ds) (those_of entity.Function es) (in-files all n f (those_of entity.Function ds) here h.0.tree (file-functions n f (view f.root) h.0.tree.derives))
    (all-in-files all (suc n) xs fs h.1 (λ k c e. let i : suc n + k ≡ n + suc k = omega arith in ap (slice_get all) i ∙ g (suc k) c e)))

-- ---- under which names they are declared

abbrev pub spot : Specification → ℕ × ℕ
spot d = (d.file, suc d.first)

abbrev pub spots : List Specification → List (ℕ × ℕ)
spots ds = map spot (those_of entity.Function ds)

spots-both : (xs ys : List Specification) → spots (xs ++ ys) ≡ spots xs ++ spots ys
spots-both xs ys = ap (map spot) (those-both xs ys) ∙ map-append spot (those_of entity.Function xs) (those_of entity.Function ys)

module _ (n : ℕ) where
  declarations-named : (ps : Trees) → spots (declarations n ps) ≡ map (λ t. (n, t)) (map name_of (functions ps))
  declarations-named none = refl
  declarations-named (skip ps) = declarations-named ps
  declarations-named (more (node (kind.Declaration s) i j qs) ps) =
      ap (map spot) (those-both (declaration n (node (kind.Declaration s) i j qs)) (declarations n ps) ∙ ap (λ l. l ++ those_of entity.Function (declarations n ps)) (declared-none n s qs)) ∙ declarations-named ps
  declarations-named (more (node kind.FunctionDeclaration i j qs) ps) = ap (λ l. (n, suc i) ∷ l) (declarations-named ps)
  declarations-named (more (node k i j qs) ps) = declarations-named ps

  file-named : (f : FileTree) (t : Tree) → Derives (kinds f.tokens.tokens) category.File t → spots (in_file n t) ≡ map (λ m. (n, m)) (function_names t)
  file-named f (node kind.File i j none) h = absurd h.1
  file-named f (node kind.File i j (skip ps)) h = declarations-named ps
  file-named f (node kind.File i j (more (node kind.Imports a b qs) ps)) h = declarations-named ps
  file-named f (node kind.File i j (more (node k a b qs) ps)) h = absurd (differ h.1.1.0)
  file-named f (node k i j ps) h = absurd (differ h.0)

pub all-named : (n : ℕ) (texts : List FileText) (files : List FileTree) → AreRead n texts files → spots (specifications n (map source_of files)) ≡ function_spots n files
all-named n [] [] h = refl
all-named n (x ∷ xs) (f ∷ fs) h =
    let ds = in_file n (view f.root) in
    let es = specifications (suc n) (map source_of fs) in
    spots-both ds es ∙ ap (λ l. l ++ spots es) (file-named n f (view f.root) h.0.tree.derives) ∙ ap (λ l. map (λ t. (n, t)) (function_names (view f.root)) ++ l) (all-named (suc n) xs fs h.1)
all-named n [] (f ∷ fs) h = absurd h
all-named n (x ∷ xs) [] h = absurd h

-- ---- files within the limits

text-width : (text bytes : List ℕ) → IsText text bytes → width text ≡ length bytes
unfolding width
text-width text bytes h = ap length h.encoded

module _ (n : ℕ) (text : FileText) (f : FileTree) (r : IsRead n text f) where
  tokens-width : width r.lexing.text ≡ length f.tokens.text
  tokens-width = text-width r.lexing.text text.bytes r.lexing.is_text ∙ ap length (sym r.bytes)

  is-file : length text.bytes ≤ most_bytes → IsFileTree f
  is-file u =
      let at = placed n r.lexing.text f.tokens.tokens f.tokens.comments (length f.tokens.text) r.lexing.lexes tokens-width in
      let long : length f.tokens.text ≡ length text.bytes = ap length r.bytes in
      let few = at.few in
      let few_comments = at.few_comments in
      record { tree = r.tree; tokens = record { short = omega (arith, u, long); few = omega (arith, u, long, few); few_comments = omega (arith, u, long, few_comments); tokens = at.tokens; comments = at.comments } }

pub are-files : (n : ℕ) (texts : List FileText) (files : List FileTree) → AreRead n texts files → total_bytes texts ≤ most_bytes → AreFiles files
are-files n [] [] h u = tt
are-files n [] (f ∷ fs) h u = absurd h
are-files n (x ∷ xs) [] h u = absurd h
are-files n (x ∷ xs) (f ∷ fs) h u =
    let sum : total_bytes (x ∷ xs) ≡ length x.bytes + total_bytes xs = sum_by-cons (λ (y : FileText). length y.bytes) x xs in
    (is-file n x f h.0 (omega (arith, u, sum)), are-files (suc n) xs fs h.1 (omega (arith, u, sum)))
