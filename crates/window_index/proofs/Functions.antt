-- The typed trees of the functions of a package that type-checks have their parts one behind the other.
use Rattle.std.proofs.Common.{◌≡◌, ◌∙◌, ℕ, suc, ◌+◌, ◌-◌, ◌≤◌, Bool, true, false, if◌then◌else◌, List, [], ◌∷◌, ◌++◌, length, map, replicate, Option, Some, None, Result, Ok, Err, refl, sym, ap, subst, arith}
use Rattle.std.specs.List.{AllByRecursion}
use Rattle.go_base.specs.Gives.{◌>>=◌}
use Rattle.go_base.specs.declared.bytes.FileText.{FileText}
use Rattle.go_grammar.specs.declared.kind.Category.TheVariants as category
use Rattle.go_grammar.specs.declared.kind.Kind.{Kind}
use Rattle.go_grammar.specs.declared.kind.Kind.TheVariants as kind
use Rattle.go_grammar.specs.declared.kind.Sort.{Sort}
use Rattle.go_grammar.specs.declared.kind.Sort.TheVariants as declaring
use Rattle.go_grammar.specs.Trees.{Tree, node, Trees, none, more, skip, kind_of, first, last}
use Rattle.go_tokens.specs.Tokens.{kinds}
use Rattle.go_tree.specs.declared.context.Entity.TheVariants as entity
use Rattle.go_tree.specs.File.{FileTree}
use Rattle.go_tree.specs.Views.{Tiles, view}
use Rattle.go_types.specs.Relations.{Rights}
use Rattle.go_typed.specs.Contents.{Content, FuncContent}
use Rattle.go_typed.specs.Trees.{last_of}
use Rattle.go_exprs_rules.specs.declared.fault.TypeFault.{TypeFault}
use Rattle.go_exprs_rules.specs.Faults.{judged, reported}
use Rattle.go_exprs_rules.specs.Scopes.{Scope, free}
use Rattle.go_stmts_defs.specs.Bodies.{based, all_based, start, signature_of, function_read}
use Rattle.go_stmts_defs.specs.Reading.{Reading, read, reading}
use Rattle.go_package_defs.specs.Answer.{package_answer, specifications}
use Rattle.go_package_defs.specs.Bodies.{Behind, Functions, Surroundings, count_types, local_type, based_tree, behind_read, function_in, function_over, function_with, functions_from, is_this, placed, portion_of, scope_of, those_of, tree_read, typed_function, types_in, with_function}
use Rattle.go_package_defs.specs.Checked.{AreRead, IsChecked, Typing, bodies_answer, content_of, names_answer, names_of, sources_answer, surroundings_of}
use Rattle.go_package_defs.specs.Declarations.{Specification, declaration, declarations, declared, grouped, in_file, source_behind, specification_of}
use Rattle.go_package_defs.specs.Sources.{Package, package_of, source_of, unit_of}
use Rattle.window_index.proofs.Derived.{ahead, AreStatements, IsClause, Set, AllSet, derives-set}
use Rattle.window_index.proofs.Nested.{Nested}
use Rattle.window_index.proofs.Ranks.{all-both}
use Rattle.window_index.proofs.Readings.{Fine, reading-fine}

-- ---- trees whose tokens are counted from the first one of their declaration

pub based-last : (b : ℕ) (t : Tree) → last (based b t) ≡ last t - b
based-last b (node k i j ps) = refl

based-kind : (b : ℕ) (t : Tree) → kind_of (based b t) ≡ kind_of t
based-kind b (node k i j ps) = refl

based-tiles : (b i j : ℕ) (ps : Trees) → b ≤ i → Tiles i j ps → Tiles (i - b) (j - b) (all_based b ps)
based-tiles b i j none h t = omega (arith, t)
based-tiles b i j (more (node k f e qs) ps) h t = (omega (arith, t.0), omega (arith, t.1), based-tiles b e j ps (omega (arith, h, t.0, t.1)) t.2)
based-tiles b i j (skip ps) h t = based-tiles b i j ps h t

based-statements : (b : ℕ) (ps : Trees) → AreStatements ps → AreStatements (all_based b ps)
based-statements b none h = tt
based-statements b (more (node k i j qs) ps) h = (h.0, based-statements b ps h.1)
based-statements b (skip ps) h = absurd h

based-clause : (b : ℕ) (k : Kind) (ps : Trees) → IsClause k ps → IsClause k (all_based b ps)
based-clause b kind.Case none h = absurd h
based-clause b kind.Case (more e ps) h = (based-kind b e ∙ h.0, based-statements b ps h.1)
based-clause b kind.Case (skip ps) h = absurd h
based-clause b k ps h = tt

mutual
  pub based-set : (b : ℕ) (t : Tree) → b ≤ first t → Set t → Set (based b t)
  based-set b (node k i j ps) h s =
      let e : i + ahead k - b ≡ i - b + ahead k = omega (arith, h) in
      (omega (arith, h, s.0), subst (λ m. Tiles m (j - b) (all_based b ps)) e (based-tiles b (i + ahead k) j ps (omega (arith, h)) s.1), based-clause b k ps s.2, all-based-set b (i + ahead k) j ps (omega (arith, h)) s.1 s.3)

  all-based-set : (b i j : ℕ) (ps : Trees) → b ≤ i → Tiles i j ps → AllSet ps → AllSet (all_based b ps)
  all-based-set b i j none h t s = tt
  all-based-set b i j (more p ps) h t s = (based-set b p (omega (arith, h, t.0)) s.0, all-based-set b (last p) j ps (omega (arith, h, t.0, t.1)) t.2 s.1)
  all-based-set b i j (skip ps) h t s = all-based-set b i j ps h t s

-- ---- a function

-- A declaration that is a node of its file.
pub record IsNode (d : Specification) : Type 0 where
  pub tree : Tree
  pub is : d.tree ≡ Some tree
  pub set : Set tree
  pub begins : first tree ≡ d.first

fine-tree : (k : Kind) (i j : ℕ) (r : Reading) → Fine k i j r → Nested (tree_read r)
fine-tree k i j (read x fs f) h = h.2

abbrev pub ok : (A E : Type 0) → A → Result A E
ok A E x = Ok x

pub same-ok : {A E : Type 0} (x y : A) → ok A E x ≡ Ok y → x ≡ y
same-ok x y e = cc

pub behind-tree : (s : Scope) (n : ℕ) (t : Tree) (r : Reading) (b : Behind) → behind_read s n t r ≡ Ok b → tree_read r ≡ b.function.tree
behind-tree s n t (read x fs f) b e = by (reported fs) e where
  by : (o : Option TypeFault) → judged o (let it : Behind = record { function = function_read s n (last t) (signature_of s t) x f; rights = f.around.rights } in it) ≡ Ok b → x ≡ b.function.tree
  by None h = ap (λ (z : Behind). z.function.tree) (same-ok (record { function = function_read s n (last t) (signature_of s t) x f; rights = f.around.rights }) b h)
  by (Some g) h = cc

function-nested : (s : Scope) (n count : ℕ) (types : ℕ → ℕ) (t : Tree) (b : Behind) → Set t → function_in s n count types t ≡ Ok b → Nested b.function.tree
function-nested s n count types t b h e =
    let r = reading (start s count types) free t in
    subst Nested (behind-tree s n t r b e) (fine-tree (kind_of t) (first t) (last t) r (reading-fine (start s count types) free t h))

typed-nested : (p : Package) (a : Surroundings) (rights : Rights) (n : ℕ) (d : Specification) (b : Behind) → IsNode d → typed_function p a rights n d ≡ Ok b → Nested b.function.tree
typed-nested p a rights n d b h e =
    let over : function_over a rights n (types_in p n) (portion_of p d) (based d.first h.tree) ≡ Ok b = sym (ap (λ o. function_with a rights n (types_in p n) (portion_of p d) (based_tree d.first o)) h.is) ∙ e in
    let bs = types_in p n in
    function-nested (scope_of a (rights ++ replicate (count_types bs) None) (portion_of p d)) n (length bs) (local_type (length rights) bs) (based d.first h.tree) b (based-set d.first h.tree (let k : first h.tree ≡ d.first = h.begins in omega (arith, k)) h.set) over

-- ---- all functions

-- what was answered before it went on
pub record WentOn {A B E : Type 0} (r : Result A E) (f : A → Result B E) (y : B) : Type 0 where
  pub value : A
  pub was : r ≡ Ok value
  pub went : f value ≡ Ok y

pub went-on : {A B E : Type 0} (r : Result A E) (f : A → Result B E) (y : B) → (r >>= f) ≡ Ok y → WentOn r f y
went-on (Ok x) f y e = record { value = x; was = refl; went = e }
went-on (Err x) f y e = cc

pub placed-ok : {A : Type 0} (p : Package) (d : Specification) (r : Result A TypeFault) (x : A) → placed p d r ≡ Ok x → r ≡ Ok x
placed-ok p d (Ok y) x e = ap (λ z. Ok z) (same-ok y x e)
placed-ok p d (Err f) x e = cc

abbrev pub AllNested : List FuncContent → Type 0
AllNested fs = AllByRecursion (λ (f : FuncContent). Nested f.tree) fs

functions-nested : (p : Package) (a : Surroundings) (rights : Rights) (n : ℕ) (ds : List Specification) (fs : Functions) → AllByRecursion IsNode ds → functions_from p a rights n ds ≡ Ok fs → AllNested fs.functions
functions-nested p a rights n [] fs h e = let same = same-ok _ fs e in subst AllNested (ap (λ (z : Functions). z.functions) same) tt
functions-nested p a rights n (d ∷ ds) fs h e =
    let u = went-on (placed p d (typed_function p a rights n d)) (λ b. functions_from p a b.rights (suc n) ds >>= λ gs. Ok (with_function b.function gs)) fs e in
    let v = went-on (functions_from p a u.value.rights (suc n) ds) (λ gs. Ok (with_function u.value.function gs)) fs u.went in
    subst AllNested (ap (λ (z : Functions). z.functions) (same-ok (with_function u.value.function v.value) fs v.went))
    (typed-nested p a rights n d u.value h.0 (placed-ok p d (typed_function p a rights n d) u.value u.was), functions-nested p a u.value.rights (suc n) ds v.value h.1 v.was)

-- ---- the declarations of functions are nodes of their files

those-more : (b : Bool) (d : Specification) (us vs ws : List Specification) → us ≡ vs ++ ws → (if b then d ∷ us else us) ≡ (if b then d ∷ vs else vs) ++ ws
those-more true d us vs ws e = ap (λ l. d ∷ l) e
those-more false d us vs ws e = e

pub those-both : (xs ys : List Specification) → those_of entity.Function (xs ++ ys) ≡ those_of entity.Function xs ++ those_of entity.Function ys
those-both [] ys = refl
those-both (d ∷ xs) ys = those-more (is_this entity.Function d.entity) d (those_of entity.Function (xs ++ ys)) (those_of entity.Function xs) (those_of entity.Function ys) (those-both xs ys)

no-function : (n : ℕ) (s : Sort) (k : ℕ) (r : Option Tree) (t : Tree) → is_this entity.Function (specification_of n s k r t).entity ≡ false
no-function n declaring.Constant k r (node l i j ps) = refl
no-function n declaring.Type k r (node l i j ps) = refl
no-function n declaring.Variable k r (node l i j ps) = refl

grouped-none : (n : ℕ) (s : Sort) (k : ℕ) (r : Option Tree) (ps : Trees) → those_of entity.Function (grouped n s k r ps) ≡ []
grouped-none n s k r none = refl
grouped-none n s k r (more p ps) =
    ap (λ b. if b then specification_of n s k r p ∷ those_of entity.Function (grouped n s (suc k) (source_behind r p) ps) else those_of entity.Function (grouped n s (suc k) (source_behind r p) ps)) (no-function n s k r p)
    ∙ grouped-none n s (suc k) (source_behind r p) ps
grouped-none n s k r (skip ps) = grouped-none n s k r ps

pub declared-none : (n : ℕ) (s : Sort) (ps : Trees) → those_of entity.Function (declared n s ps) ≡ []
declared-none n s (more (node (kind.Group g) i j ps) none) = grouped-none n s 0 None ps
declared-none n s ps = grouped-none n s 0 None ps

declaration-node : (n : ℕ) (t : Tree) → Set t → AllByRecursion IsNode (those_of entity.Function (declaration n t))
declaration-node n (node (kind.Declaration s) i j ps) h = subst (AllByRecursion IsNode) (sym (declared-none n s ps)) tt
declaration-node n (node kind.FunctionDeclaration i j ps) h = (record { tree = node kind.FunctionDeclaration i j ps; is = refl; set = h; begins = refl }, tt)
declaration-node n t h = tt

all-joined : (xs ys : List Specification) → AllByRecursion IsNode (those_of entity.Function xs) → AllByRecursion IsNode (those_of entity.Function ys) → AllByRecursion IsNode (those_of entity.Function (xs ++ ys))
all-joined xs ys h k = subst (AllByRecursion IsNode) (sym (those-both xs ys)) (all-both IsNode (those_of entity.Function xs) (those_of entity.Function ys) h k)

declarations-nodes : (n : ℕ) (ps : Trees) → AllSet ps → AllByRecursion IsNode (those_of entity.Function (declarations n ps))
declarations-nodes n none h = tt
declarations-nodes n (more p ps) h = all-joined (declaration n p) (declarations n ps) (declaration-node n p h.0) (declarations-nodes n ps h.1)
declarations-nodes n (skip ps) h = declarations-nodes n ps h

file-nodes : (n : ℕ) (t : Tree) → Set t → AllByRecursion IsNode (those_of entity.Function (in_file n t))
file-nodes n (node k i j ps) h = declarations-nodes n ps h.3

files-nodes : (n m : ℕ) (texts : List FileText) (files : List FileTree) → AreRead m texts files → AllByRecursion IsNode (those_of entity.Function (specifications n (map source_of files)))
files-nodes n m [] [] h = tt
files-nodes n m (x ∷ xs) (f ∷ fs) h =
    all-joined (in_file n (view f.root)) (specifications (suc n) (map source_of fs)) (file-nodes n (view f.root) (derives-set (kinds f.tokens.tokens) category.File (view f.root) h.0.tree.derives)) (files-nodes (suc n) (suc m) xs fs h.1)
files-nodes n m [] (f ∷ fs) h = absurd h
files-nodes n m (x ∷ xs) [] h = absurd h

-- ---- a package that type-checks

pub checked-nested : (texts : List FileText) (c : Content) → IsChecked texts c → AllNested c.functions
checked-nested texts c h =
    let ss = map source_of h.files in
    let ds = specifications 0 ss in
    let a = went-on (sources_answer ss) (λ t. Ok (content_of (names_of texts) h.files ss t)) c h.answer in
    let t : Typing = a.value in
    let u = went-on (names_answer (map unit_of ss)) (λ u. package_answer ss u >>= λ e. bodies_answer ss ds u e) t a.was in
    let v = went-on (package_answer ss u.value) (λ e. bodies_answer ss ds u.value e) t u.went in
    let w = went-on (functions_from (package_of ss u.value) (surroundings_of u.value v.value) v.value.rights 0 (those_of entity.Function ds))
    (λ b. let made : Typing = record { uses = u.value; environment = v.value; bodies = b; specifications = ds } in Ok made) t v.went in
    let nested = functions-nested (package_of ss u.value) (surroundings_of u.value v.value) v.value.rights 0 (those_of entity.Function ds) w.value (files-nodes 0 0 texts h.files h.read) w.was in
    let made : Typing = record { uses = u.value; environment = v.value; bodies = w.value; specifications = ds } in
    let bodies : w.value ≡ t.bodies = ap (λ (z : Typing). z.bodies) (same-ok made t w.went) in
    let functions : t.bodies.functions ≡ c.functions = ap (λ (z : Content). z.functions) (same-ok (content_of (names_of texts) h.files ss t) c a.went) in
    subst AllNested (ap (λ (z : Functions). z.functions) bodies ∙ functions) nested

-- ---- how far the trees of functions reach

-- a function of a declaration has as many tokens as it
abbrev pub Ends : Specification → FuncContent → Type 0
Ends d f = (t : Tree) × (d.tree ≡ Some t) × (last_of f.tree ≡ last t - d.first)

abbrev pub Paired : List Specification → List FuncContent → Type 0
Paired [] [] = Unit {0}
Paired (d ∷ ds) (f ∷ fs) = Ends d f × Paired ds fs
Paired _ _ = ⊥

fine-last : (k : Kind) (i j : ℕ) (r : Reading) → Fine k i j r → last_of (tree_read r) ≡ j
fine-last k i j (read x fs f) h = h.1

function-last : (s : Scope) (n count : ℕ) (types : ℕ → ℕ) (t : Tree) (b : Behind) → Set t → function_in s n count types t ≡ Ok b → last_of b.function.tree ≡ last t
function-last s n count types t b h e =
    let r = reading (start s count types) free t in
    sym (ap (λ x. last_of x) (behind-tree s n t r b e)) ∙ fine-last (kind_of t) (first t) (last t) r (reading-fine (start s count types) free t h)

typed-last : (p : Package) (a : Surroundings) (rights : Rights) (n : ℕ) (d : Specification) (b : Behind) → IsNode d → typed_function p a rights n d ≡ Ok b → Ends d b.function
typed-last p a rights n d b h e =
    let bs = types_in p n in
    let over : function_over a rights n bs (portion_of p d) (based d.first h.tree) ≡ Ok b = sym (ap (λ o. function_with a rights n bs (portion_of p d) (based_tree d.first o)) h.is) ∙ e in (
      h.tree,
      h.is,
      function-last (scope_of a (rights ++ replicate (count_types bs) None) (portion_of p d)) n (length bs) (local_type (length rights) bs) (based d.first h.tree) b
          (based-set d.first h.tree (let k : first h.tree ≡ d.first = h.begins in omega (arith, k)) h.set) over
          ∙ based-last d.first h.tree,
    )

functions-paired : (p : Package) (a : Surroundings) (rights : Rights) (n : ℕ) (ds : List Specification) (fs : Functions) → AllByRecursion IsNode ds → functions_from p a rights n ds ≡ Ok fs → Paired ds fs.functions
functions-paired p a rights n [] fs h e = let same = same-ok _ fs e in subst (Paired []) (ap (λ (z : Functions). z.functions) same) tt
functions-paired p a rights n (d ∷ ds) fs h e =
    let u = went-on (placed p d (typed_function p a rights n d)) (λ b. functions_from p a b.rights (suc n) ds >>= λ gs. Ok (with_function b.function gs)) fs e in
    let v = went-on (functions_from p a u.value.rights (suc n) ds) (λ gs. Ok (with_function u.value.function gs)) fs u.went in
    subst (Paired (d ∷ ds)) (ap (λ (z : Functions). z.functions) (same-ok (with_function u.value.function v.value) fs v.went))
    (typed-last p a rights n d u.value h.0 (placed-ok p d (typed_function p a rights n d) u.value u.was), functions-paired p a u.value.rights (suc n) ds v.value h.1 v.was)

pub checked-paired : (texts : List FileText) (c : Content) (h : IsChecked texts c) → Paired (those_of entity.Function (specifications 0 (map source_of h.files))) c.functions
checked-paired texts c h =
    let ss = map source_of h.files in
    let ds = specifications 0 ss in
    let a = went-on (sources_answer ss) (λ t. Ok (content_of (names_of texts) h.files ss t)) c h.answer in
    let t : Typing = a.value in
    let u = went-on (names_answer (map unit_of ss)) (λ u. package_answer ss u >>= λ e. bodies_answer ss ds u e) t a.was in
    let v = went-on (package_answer ss u.value) (λ e. bodies_answer ss ds u.value e) t u.went in
    let w = went-on (functions_from (package_of ss u.value) (surroundings_of u.value v.value) v.value.rights 0 (those_of entity.Function ds))
    (λ b. let made : Typing = record { uses = u.value; environment = v.value; bodies = b; specifications = ds } in Ok made) t v.went in
    let paired = functions-paired (package_of ss u.value) (surroundings_of u.value v.value) v.value.rights 0 (those_of entity.Function ds) w.value (files-nodes 0 0 texts h.files h.read) w.was in
    let made : Typing = record { uses = u.value; environment = v.value; bodies = w.value; specifications = ds } in
    let bodies : w.value ≡ t.bodies = ap (λ (z : Typing). z.bodies) (same-ok made t w.went) in
    let functions : t.bodies.functions ≡ c.functions = ap (λ (z : Content). z.functions) (same-ok (content_of (names_of texts) h.files ss t) c a.went) in
    subst (Paired (those_of entity.Function ds)) (ap (λ (z : Functions). z.functions) bodies ∙ functions) paired

-- it has the files that were read
pub checked-files : (texts : List FileText) (c : Content) (h : IsChecked texts c) → c.files ≡ h.files
checked-files texts c h =
    let ss = map source_of h.files in
    let a = went-on (sources_answer ss) (λ t. Ok (content_of (names_of texts) h.files ss t)) c h.answer in
    sym (ap (λ (z : Content). z.files) (same-ok (content_of (names_of texts) h.files ss a.value) c a.went))
