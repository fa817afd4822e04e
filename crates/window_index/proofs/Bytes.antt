-- Each window of a package that type-checks has its bytes.
use Rattle.std.proofs.Common.{◌≡◌, ◌∙◌, ℕ, zero, suc, ◌+◌, ◌-◌, ◌<◌, ◌≤◌, ◌⊎◌, inl, inr, true, if◌then◌else◌, List, [], ◌∷◌, ◌++◌, length, map, Option, Some, None, slice_get, refl, sym, ap, subst, arith}
use Rattle.std.specs.Prelude.{nat_le}
use Rattle.std.specs.List.{AllByRecursion}
use Rattle.std.specs.Option.{option_map}
use Rattle.std.proofs.lemmas.Bool.Decides.{nat_tests}
use Rattle.std.proofs.lemmas.List.{length-map}
use Rattle.std.proofs.lemmas.Option.{slice_get-map}
use Rattle.go_base.specs.Optional.{◌>>=◌}
use Rattle.go_base.specs.declared.Span.{Span}
use Rattle.go_base.specs.declared.bytes.FileText.{FileText}
use Rattle.go_tokens.specs.declared.token.Token.{Token}
use Rattle.go_tokens.specs.Lexing.{width}
use Rattle.go_tokens.specs.Tokens.{AreOrdered, kind_of, kinds, span_of}
use Rattle.go_tokens.proofs.Public.{placed}
use Rattle.go_grammar.specs.declared.kind.Category.TheVariants as category
use Rattle.go_grammar.specs.declared.kind.Kind.TheVariants as kind
use Rattle.go_grammar.specs.Grammar.{IsFile, Derives}
use Rattle.go_grammar.specs.Trees.{Tree, node, Trees, none, more, skip, first, last, parts}
use Rattle.go_tree.specs.declared.context.Entity.TheVariants as entity
use Rattle.go_tree.specs.File.{FileTree}
use Rattle.go_tree.specs.Lists.{functions}
use Rattle.go_tree.specs.Spans.{span_at}
use Rattle.go_tree.specs.Views.{Tiles, behind_first, view}
use Rattle.go_typed.specs.declared.window.Window.{Window}
use Rattle.go_typed.specs.Trees as typed
use Rattle.go_typed.specs.Trees.{Typeds, first_of, last_of}
use Rattle.go_typed.specs.Windows.{Range}
use Rattle.clone_window.specs.declared.bounds.Bounds.{Bounds}
use Rattle.clone_window.specs.declared.span.FunctionPlace.{FunctionPlace}
use Rattle.clone_window.specs.Spans.{ByteRange, joined, place_at, places_from, range_over, span_in, span_over, span_there, starts_in}
use Rattle.clone_classes.specs.Choices.{place_over}
use Rattle.go_package_defs.specs.Answer.{specifications}
use Rattle.go_package_defs.specs.Bodies.{those_of}
use Rattle.go_package_defs.specs.Checked.{AreRead}
use Rattle.go_package_defs.specs.Declarations.{Specification, declaration, declarations, in_file}
use Rattle.go_package_defs.specs.Sources.{source_of}
use Rattle.window_index.proofs.Derived.{ahead, Set, AllSet, derives-set}
use Rattle.clone_window.specs.Windows.{window_statements, windows}
use Rattle.clone_window.specs.Bodies.{Body, bodies_of, body_of, statements_at}
use Rattle.clone_classes.specs.Classes.{Among}
use Rattle.clone_classes.specs.Listing.{windows_of_all}
use Rattle.clone_replies.specs.Classes.{bytes_over, listed_package, statements_in}
use Rattle.window_index.proofs.Ascents.{at-member}
use Rattle.go_types.specs.Tables.{type_of}
use Rattle.go_types.specs.Trees.{TypeTree}
use Rattle.go_types_relations.specs.Renaming.{renamed}
use Rattle.go_typed.specs.Contents.{FuncContent, func_content, func_renamed}
use Rattle.go_typed.specs.Funcs.{FuncView, tree_of}
use Rattle.go_typed.specs.Packages.{PackageView}
use Rattle.go_package_defs.specs.Checked.{IsCheckedPackage, texts_of}
use Rattle.window_index.proofs.Functions.{Ends, Paired, checked-files, checked-paired, those-both, declared-none}
use Rattle.window_index.proofs.Nested.{same-last, shape-mapped}
use Rattle.window_index.proofs.Packages.{RootsNested, package-nested}
use Rattle.window_index.proofs.Ranks.{Lies, all-both, tree-good}

-- ---- tokens in order have bytes

there : {A : Type 0} (xs : List A) (k : ℕ) → k < length xs → (x : A) × (slice_get xs k ≡ Some x)
there [] k h = absurd (omega (arith, h))
there (x ∷ xs) zero h = (x, refl)
there (x ∷ xs) (suc k) h = there xs k (omega (arith, h))

same-some : {A : Type 0} (x y : A) → Some x ≡ Some y → x ≡ y
same-some x y e = cc

ends-behind : (ts : List Token) (s e j : ℕ) (y : Token) → AreOrdered s (map span_of ts) e → slice_get ts j ≡ Some y → s ≤ y.span.end
ends-behind [] s e j y o h = cc
ends-behind (w ∷ ts) s e zero y o h = let same : w.span.end ≡ y.span.end = ap (λ x. x.span.end) (same-some w y h) in omega (arith, o.0, o.1, same)
ends-behind (w ∷ ts) s e (suc j) y o h = omega (arith, o.0, o.1, ends-behind ts w.span.end e j y o.2 h)

begins-before : (ts : List Token) (s e i j : ℕ) (x y : Token) → AreOrdered s (map span_of ts) e → i ≤ j → slice_get ts i ≡ Some x → slice_get ts j ≡ Some y → x.span.start ≤ y.span.end
begins-before [] s e i j x y o le h k = cc
begins-before (w ∷ ts) s e zero zero x y o le h k =
    let a : w.span.start ≡ x.span.start = ap (λ x. x.span.start) (same-some w x h) in
    let b : w.span.end ≡ y.span.end = ap (λ x. x.span.end) (same-some w y k) in
    omega (arith, o.1, a, b)
begins-before (w ∷ ts) s e zero (suc j) x y o le h k =
    let a : w.span.start ≡ x.span.start = ap (λ x. x.span.start) (same-some w x h) in
    omega (arith, o.1, a, ends-behind ts w.span.end e j y o.2 k)
begins-before (w ∷ ts) s e (suc i) zero x y o le h k = absurd (omega (arith, le))
begins-before (w ∷ ts) s e (suc i) (suc j) x y o le h k = begins-before ts w.span.end e i j x y o.2 (omega (arith, le)) h k

joined-there : (a b : Span) → a.start ≤ b.end → (x : ByteRange) × (joined a b ≡ Some x)
joined-there a b h =
    let e : nat_le a.start b.end ≡ true = grind (arith, nat_tests) in
    let r : ByteRange = record { file = a.file; start = a.start; end = b.end } in
    (r, ap (λ c. if c then Some r else None) e)

pub tokens-there : (ts : List Token) (e from to : ℕ) → AreOrdered 0 (map span_of ts) e → from < to → to ≤ length ts → (x : ByteRange) × (span_over ts from to ≡ Some x)
tokens-there ts e from to o h k =
    let a = there ts from (omega (arith, h, k)) in
    let b = there ts (to - 1) (omega (arith, h, k)) in
    let j = joined-there a.0.span b.0.span (begins-before ts 0 e from (to - 1) a.0 b.0 o (omega (arith, h)) a.1 b.1) in
    (j.0, ap (λ (x : Option Token). option_map span_of x >>= λ s. span_at ts (to - 1) >>= joined s) a.1 ∙ ap (λ (x : Option Token). option_map span_of x >>= joined a.0.span) b.1 ∙ j.1)

-- ---- the declarations of functions, in their files

pub record Stays (f : FileTree) (d : Specification) : Type 0 where
  pub tree : Tree
  pub is : d.tree ≡ Some tree
  pub begins : first tree ≡ d.first
  pub forward : first tree ≤ last tree
  pub upto : last tree ≤ length f.tokens.tokens

abbrev pub place_in : Specification → FunctionPlace
place_in d = place_at d.file d.first

tiles-end : (i j : ℕ) (ps : Trees) → Tiles i j ps → i ≤ j
tiles-end i j none h = h
tiles-end i j (more p ps) h = omega (arith, h.0, h.1, tiles-end (last p) j ps h.2)
tiles-end i j (skip ps) h = tiles-end i j ps h

module _ (n : ℕ) (f : FileTree) where
  abbrev Here : Specification → Type 0
  Here d = (d.file ≡ n) × Stays f d

  all-here : (xs ys : List Specification) → AllByRecursion Here (those_of entity.Function xs) → AllByRecursion Here (those_of entity.Function ys) → AllByRecursion Here (those_of entity.Function (xs ++ ys))
  all-here xs ys h k = subst (AllByRecursion Here) (sym (those-both xs ys)) (all-both Here (those_of entity.Function xs) (those_of entity.Function ys) h k)

  declaration-here : (t : Tree) → Set t → last t ≤ length f.tokens.tokens → AllByRecursion Here (those_of entity.Function (declaration n t))
  declaration-here (node (kind.Declaration s) i j ps) h u = subst (AllByRecursion Here) (sym (declared-none n s ps)) tt
  declaration-here (node kind.FunctionDeclaration i j ps) h u = ((refl, record { tree = node kind.FunctionDeclaration i j ps; is = refl; begins = refl; forward = omega (arith, h.0); upto = u }), tt)
  declaration-here t h u = tt

  declarations-here : (i j : ℕ) (ps : Trees) → Tiles i j ps → AllSet ps → j ≤ length f.tokens.tokens → AllByRecursion Here (those_of entity.Function (declarations n ps))
  declarations-here i j none t h u = tt
  declarations-here i j (more p ps) t h u =
      all-here (declaration n p) (declarations n ps) (declaration-here p h.0 (omega (arith, u, tiles-end (last p) j ps t.2))) (declarations-here (last p) j ps t.2 h.1 u)
  declarations-here i j (skip ps) t h u = declarations-here i j ps t h u

  file-here : (t : Tree) → Set t → last t ≤ length f.tokens.tokens → AllByRecursion Here (those_of entity.Function (in_file n t))
  file-here (node k i j ps) h u = declarations-here (i + ahead k) j ps h.1 h.3 u

  -- ---- where they begin

  declarations-places : (ps : Trees) → map place_in (those_of entity.Function (declarations n ps)) ≡ map (place_at n) (map first (functions ps))
  declarations-places none = refl
  declarations-places (skip ps) = declarations-places ps
  declarations-places (more (node (kind.Declaration s) i j qs) ps) =
      ap (map place_in) (those-both (declaration n (node (kind.Declaration s) i j qs)) (declarations n ps) ∙ ap (λ l. l ++ those_of entity.Function (declarations n ps)) (declared-none n s qs)) ∙ declarations-places ps
  declarations-places (more (node kind.FunctionDeclaration i j qs) ps) = ap (λ l. place_at n i ∷ l) (declarations-places ps)
  declarations-places (more (node k i j qs) ps) = declarations-places ps

  file-places : (t : Tree) → Derives (kinds f.tokens.tokens) category.File t → map place_in (those_of entity.Function (in_file n t)) ≡ map (place_at n) (map first (functions (behind_first (parts t))))
  file-places (node kind.File i j none) h = absurd h.1
  file-places (node kind.File i j (skip ps)) h = declarations-places ps
  file-places (node kind.File i j (more (node kind.Imports a b qs) ps)) h = declarations-places ps
  file-places (node kind.File i j (more (node k a b qs) ps)) h = cc
  file-places (node k i j ps) h = cc

-- ---- all files

record Belongs (all : List FileTree) (d : Specification) : Type 0 where
  pub file : FileTree
  pub file_is : slice_get all d.file ≡ Some file
  pub stays : Stays file d
  pub end : ℕ
  pub sorted : AreOrdered 0 (map span_of file.tokens.tokens) end

belong-here : (all : List FileTree) (n e : ℕ) (f : FileTree) → slice_get all n ≡ Some f → AreOrdered 0 (map span_of f.tokens.tokens) e → (ds : List Specification) → AllByRecursion (Here n f) ds → AllByRecursion (Belongs all) ds
belong-here all n e f at o [] h = tt
belong-here all n e f at o (d ∷ ds) h = (record { file = f; file_is = ap (slice_get all) h.0.0 ∙ at; stays = h.0.1; end = e; sorted = o }, belong-here all n e f at o ds h.1)

file-end : (f : FileTree) → IsFile (kinds f.tokens.tokens) (view f.root) → last (view f.root) ≤ length f.tokens.tokens
file-end f h = let e = h.ends in omega (arith, e, length-map f.tokens.tokens kind_of)

files-belong : (all : List FileTree) (n m : ℕ) (texts : List FileText) (files : List FileTree) → AreRead m texts files → ((k : ℕ) (f : FileTree) → slice_get files k ≡ Some f → slice_get all (n + k) ≡ Some f) →
    AllByRecursion (Belongs all) (those_of entity.Function (specifications n (map source_of files)))
files-belong all n m [] [] h g = tt
files-belong all n m (x ∷ xs) (f ∷ fs) h g =
    let l = h.0.lexing in
    let sorted = (placed m l.text f.tokens.tokens f.tokens.comments (width l.text) l.lexes refl).tokens in
    let here : slice_get all n ≡ Some f = (let e : n ≡ n + 0 = omega arith in ap (slice_get all) e) ∙ g 0 f refl in
    subst (AllByRecursion (Belongs all)) (sym (those-both (in_file n (view f.root)) (specifications (suc n) (map source_of fs))))
    (all-both (Belongs all) (those_of entity.Function (in_file n (view f.root))) (those_of entity.Function (specifications (suc n) (map source_of fs)))
    (belong-here all n (width l.text) f here sorted (those_of entity.Function (in_file n (view f.root)))
    (file-here n f (view f.root) (derives-set (kinds f.tokens.tokens) category.File (view f.root) h.0.tree.derives) (file-end f h.0.tree)))
    (files-belong all (suc n) (suc m) xs fs h.1 (λ k c e. let i : suc n + k ≡ n + suc k = omega arith in ap (slice_get all) i ∙ g (suc k) c e)))
files-belong all n m [] (f ∷ fs) h g = absurd h
files-belong all n m (x ∷ xs) [] h g = absurd h

map-both : (xs ys : List Specification) → map place_in (xs ++ ys) ≡ map place_in xs ++ map place_in ys
map-both [] ys = refl
map-both (x ∷ xs) ys = ap (λ l. place_in x ∷ l) (map-both xs ys)

all-places : (n m : ℕ) (texts : List FileText) (files : List FileTree) → AreRead m texts files → map place_in (those_of entity.Function (specifications n (map source_of files))) ≡ places_from n files
all-places n m [] [] h = refl
all-places n m (x ∷ xs) (f ∷ fs) h =
    ap (map place_in) (those-both (in_file n (view f.root)) (specifications (suc n) (map source_of fs)))
    ∙ map-both (those_of entity.Function (in_file n (view f.root))) (those_of entity.Function (specifications (suc n) (map source_of fs)))
    ∙ ap (λ l. l ++ map place_in (those_of entity.Function (specifications (suc n) (map source_of fs)))) (file-places n f (view f.root) h.0.tree.derives)
    ∙ ap (λ l. map (place_at n) (starts_in f) ++ l) (all-places (suc n) (suc m) xs fs h.1)
all-places n m [] (f ∷ fs) h = absurd h
all-places n m (x ∷ xs) [] h = absurd h

-- ---- functions by number

all-at : {A : Type 0} (P : A → Type 0) (xs : List A) (n : ℕ) (x : A) → AllByRecursion P xs → slice_get xs n ≡ Some x → P x
all-at P [] n x h e = cc
all-at P (y ∷ xs) zero x h e = subst P (same-some y x e) h.0
all-at P (y ∷ xs) (suc n) x h e = all-at P xs n x h.1 e

record Declares (ds : List Specification) (n : ℕ) (f : FuncContent) : Type 0 where
  pub declared : Specification
  pub at : slice_get ds n ≡ Some declared
  pub ends : Ends declared f

paired-at : (ds : List Specification) (fs : List FuncContent) (n : ℕ) (f : FuncContent) → Paired ds fs → slice_get fs n ≡ Some f → Declares ds n f
paired-at [] [] n f h e = cc
paired-at [] (g ∷ fs) n f h e = absurd h
paired-at (d ∷ ds) [] n f h e = absurd h
paired-at (d ∷ ds) (g ∷ fs) zero f h e = record { declared = d; at = refl; ends = subst (Ends d) (same-some g f e) h.0 }
paired-at (d ∷ ds) (g ∷ fs) (suc n) f h e = let r = paired-at ds fs n f h.1 e in record { declared = r.declared; at = r.at; ends = r.ends }

-- the function of the check that a function of the program stands for
record Stands (c : List FuncContent) (n : ℕ) (b : Body ℕ) : Type 0 where
  pub function : FuncContent
  pub at : slice_get c n ≡ Some function
  pub same : last_of function.tree ≡ last_of b.root

last-mapped : {T U : Type 0} (g : T → U) (x : typed.Typed T) → last_of (typed.mapped g x) ≡ last_of x
last-mapped g x = same-last (typed.mapped g x) x (shape-mapped g x)

renamed-at : (name : ℕ → ℕ) (cs : List FuncContent) (n : ℕ) (f : FuncContent) → slice_get (map (func_renamed name) cs) n ≡ Some f → (g : FuncContent) × (slice_get cs n ≡ Some g) × (func_renamed name g ≡ f)
renamed-at name [] n f e = cc
renamed-at name (c ∷ cs) zero f e = (c, refl, same-some (func_renamed name c) f e)
renamed-at name (c ∷ cs) (suc n) f e = renamed-at name cs n f e

body-at : (fs : List FuncView) (n : ℕ) (b : Body ℕ) → slice_get (bodies_of fs) n ≡ Some b → (f : FuncView) × (slice_get fs n ≡ Some f) × (body_of f ≡ b)
body-at [] n b e = cc
body-at (f ∷ fs) zero b e = (f, refl, same-some (body_of f) b e)
body-at (f ∷ fs) (suc n) b e = body-at fs n b e

stands-for : (g : ℕ → TypeTree) (name : ℕ → ℕ) (fs : List FuncView) (cs : List FuncContent) (n : ℕ) (b : Body ℕ) → map (func_content g) fs ≡ map (func_renamed name) cs → slice_get (bodies_of fs) n ≡ Some b → Stands cs n b
stands-for g name fs cs n b e h =
    let u = body-at fs n b h in
    let f : FuncView = u.0 in
    let v = renamed-at name cs n (func_content g f) (ap (λ l. slice_get l n) (sym e) ∙ slice_get-map (func_content g) fs n ∙ ap (option_map (func_content g)) u.1) in
    let c : FuncContent = v.0 in
    record {
      function = c;
      at = v.1;
      same = sym (last-mapped (renamed name) c.tree) ∙ ap (λ (z : FuncContent). last_of z.tree) v.2 ∙ last-mapped g (tree_of f) ∙ ap (λ (z : Body ℕ). last_of z.root) u.2;
    }

-- ---- windows

range-is : {T : Type 0} (n : ℕ) (ps : Typeds T) → (place_over n ps).from < (place_over n ps).to → range_over ps ≡ Some (record { from = (place_over n ps).from; to = (place_over n ps).to })
range-is n typed.none h = absurd (omega (arith, h))
range-is n (typed.more p ps) h = refl
range-is n (typed.skip ps) h = absurd (omega (arith, h))

record InFunction (bounds : Bounds) (some : 1 ≤ bounds.fewest) (n : ℕ) (bs : List (Body ℕ)) (w : Window) : Type 0 where
  pub number : ℕ
  pub body : Body ℕ
  pub at : slice_get bs number ≡ Some body
  pub lies : Lies bounds some (n + number) body.root (suc (first_of body.root)) (last_of body.root) w

among-either : {A : Type 0} (xs ys : List A) (x : A) → Among (xs ++ ys) x → Among xs x ⊎ Among ys x
among-either [] ys x h = inr h
among-either (y ∷ xs) ys x (inl e) = inl (inl e)
among-either (y ∷ xs) ys x (inr h) = further (among-either xs ys x h) where
  further : Among xs x ⊎ Among ys x → Among (y ∷ xs) x ⊎ Among ys x
  further (inl k) = inl (inr k)
  further (inr k) = inr k

in-function : (bounds : Bounds) (some : 1 ≤ bounds.fewest) (n : ℕ) (bs : List (Body ℕ)) (w : Window) → RootsNested bs → Among (windows_of_all bounds n bs) w → InFunction bounds some n bs w
in-function bounds some n [] w h m = absurd m
in-function bounds some n (b ∷ bs) w h m = elim (among-either (windows bounds n b.root) (windows_of_all bounds (suc n) bs) w m) [
  | inl k ↦ record {
    number = 0;
    body = b;
    at = refl;
    lies = subst (λ i. Lies bounds some i b.root (suc (first_of b.root)) (last_of b.root) w) (let e : n ≡ n + 0 = omega arith in e)
        (at-member (Lies bounds some n b.root (suc (first_of b.root)) (last_of b.root)) (windows bounds n b.root) w (tree-good bounds some n b.root h.0).1 k);
  }
  | inr k ↦
      let r = in-function bounds some (suc n) bs w h.1 k in
      record {
        number = suc r.number;
        body = r.body;
        at = r.at;
        lies = subst (λ i. Lies bounds some i r.body.root (suc (first_of r.body.root)) (last_of r.body.root) w) (let e : suc n + r.number ≡ n + suc r.number = omega arith in e) r.lies;
      }
]

pub has-bytes : (p : PackageView) (bounds : Bounds) (w : Window) → IsCheckedPackage p → 1 ≤ bounds.fewest → Among (windows_of_all bounds 0 (bodies_of p.functions)) w →
    (r : ByteRange) × (bytes_over p.files w.func (statements_in (listed_package p) w) ≡ Some r)
has-bytes p bounds w h some m =
    let bs = bodies_of p.functions in
    let files : List FileTree = h.checked.files in
    let ds = those_of entity.Function (specifications 0 (map source_of files)) in
    let r = in-function bounds some 0 bs w (package-nested p h) m in
    let n : ℕ = r.number in
    let func : w.func ≡ n = r.lies.0 ∙ (let e : 0 + n ≡ n = omega arith in e) in
    let s = stands-for (type_of p.types.shapes) h.same.0 p.functions h.given.functions n r.body h.same.1.functions r.at in
    let d = paired-at ds h.given.functions n s.function (checked-paired (texts_of p) h.given h.checked) s.at in
    let spec : Specification = d.declared in
    let b = all-at (Belongs files) ds n spec (files-belong files 0 0 (texts_of p) files h.checked.read (λ k f e. let i : 0 + k ≡ k = omega arith in ap (slice_get files) i ∙ e)) d.at in
    let tree : d.ends.0 ≡ b.stays.tree = same-some d.ends.0 b.stays.tree (sym d.ends.1 ∙ b.stays.is) in
    let ps = window_statements r.body.root w in
    let it = place_over (0 + n) ps in
    let found : Range = record { from = it.from; to = it.to } in
    let reach : last_of r.body.root ≡ last b.stays.tree - spec.first = sym s.same ∙ d.ends.2 ∙ ap (λ t. last t - spec.first) tree in
    let begins : first b.stays.tree ≡ spec.first = b.stays.begins in
    let forward : first b.stays.tree ≤ last b.stays.tree = b.stays.forward in
    let upto : last b.stays.tree ≤ length b.file.tokens.tokens = b.stays.upto in
    let grows : it.from < it.to = r.lies.2 in
    let within : it.to ≤ last_of r.body.root = r.lies.3 in
    let x = tokens-there b.file.tokens.tokens b.end (spec.first + it.from) (spec.first + it.to) b.sorted (omega (arith, grows)) (omega (arith, reach, begins, forward, upto, within)) in
    let place : slice_get (places_from 0 files) n ≡ Some (place_in spec) = ap (λ l. slice_get l n) (sym (all-places 0 0 (texts_of p) files h.checked.read)) ∙ slice_get-map place_in ds n ∙ ap (option_map place_in) d.at in
    let same : p.files ≡ files = h.same.1.files ∙ checked-files (texts_of p) h.given h.checked in (
      x.0,
      ap (λ fs. bytes_over fs w.func (statements_in (listed_package p) w)) same
          ∙ ap (λ i. bytes_over files w.func (statements_at (slice_get bs i) w)) func
          ∙ ap (λ (o : Option (Body ℕ)). bytes_over files w.func (statements_at o w)) r.at
          ∙ ap (λ (o : Option Range). o >>= λ y. slice_get (places_from 0 files) w.func >>= span_there files y) (range-is (0 + n) ps grows)
          ∙ ap (λ i. slice_get (places_from 0 files) i >>= span_there files found) func
          ∙ ap (λ (o : Option FunctionPlace). o >>= span_there files found) place
          ∙ ap (λ (o : Option FileTree). o >>= span_in (place_in spec) found) b.file_is
          ∙ x.1,
    )
