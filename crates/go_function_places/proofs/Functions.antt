-- The typed trees of the functions of a package that type-checks are good, each within the tokens of its declaration.
use Rattle.std.proofs.Common.{◌≡◌, ◌∙◌, ℕ, zero, suc, ◌+◌, ◌-◌, ◌≤◌, Bool, true, false, if◌then◌else◌, List, [], ◌∷◌, ◌++◌, drop, length, map, replicate, Option, Some, None, Result, Ok, Err, refl, sym, ap, subst, arith}
use Rattle.std.specs.List.{AllByRecursion}
use Rattle.go_base.specs.Gives.{◌>>=◌}
use Rattle.go_base.specs.declared.bytes.FileText.{FileText}
use Rattle.go_grammar.specs.declared.kind.Kind.{Kind}
use Rattle.go_grammar.specs.declared.kind.Kind.TheVariants as kind
use Rattle.go_grammar.specs.Trees.{Tree, node, Trees, none, more, skip, first, last}
use Rattle.go_tree.specs.declared.context.Entity.TheVariants as entity
use Rattle.go_tree.specs.Failures.{Failure}
use Rattle.go_tree.specs.File.{FileTree}
use Rattle.go_tree.specs.Faults.{reported}
use Rattle.go_tree.specs.Uses.{UsesView, uses}
use Rattle.go_tree.specs.Views.{Tiles}
use Rattle.go_types.specs.Relations.{Rights}
use Rattle.go_typed.specs.Contents.{Content, FuncContent}
use Rattle.go_typed.specs.Forms.{is_statement_list, values_count}
use Rattle.go_typed.specs.Lists.{present, statement_lists, lists_among, statements_of}
use Rattle.go_typed.specs.Trees.{Typed, typed, Typeds, first_of, last_of, mapped, all_mapped}
use Rattle.go_typed.specs.Trees as trees
use Rattle.go_exprs_rules.specs.declared.fault.TypeFault.{TypeFault}
use Rattle.go_exprs_rules.specs.Faults as faults
use Rattle.go_exprs_rules.specs.Scopes.{Scope, free}
use Rattle.go_stmts_defs.specs.Bodies.{based, all_based, start, signature_of, function_read}
use Rattle.go_stmts_defs.specs.Reading.{Reading, read, reading}
use Rattle.go_package_defs.specs.Answer.{package_answer, specifications, unless}
use Rattle.go_package_defs.specs.Bodies.{Behind, Functions, Surroundings, count_types, local_type, based_tree, behind_read, function_in, function_over, function_with, functions_from, placed, portion_of, scope_of, those_of, tree_read, typed_function, types_in, with_function}
use Rattle.go_package_defs.specs.Checked.{IsChecked, Typing, bodies_answer, content_of, names_answer, names_of, sources_answer, surroundings_of}
use Rattle.go_package_defs.specs.Declarations.{Specification}
use Rattle.go_package_defs.specs.Sources.{Package, Source, package_of, source_of, unit_of}
use Rattle.go_function_places.specs.Places.{StandInRow, ListsStandIn}
use Rattle.go_function_places.proofs.Derived.{ahead, AreStatements, IsList, Set, AllSet}
use Rattle.go_function_places.proofs.Good.{spans, Rises, Fits, Good, AllGood}
use Rattle.go_function_places.proofs.Readings.{Fine, reading-fine}

-- ---- good trees have their statements in rows

pub all-both : {A : Type 0} (P : A → Type 0) (xs ys : List A) → AllByRecursion P xs → AllByRecursion P ys → AllByRecursion P (xs ++ ys)
all-both P [] ys h k = k
all-both P (x ∷ xs) ys h k = (h.0, all-both P xs ys h.1 k)

module _ {T : Type 0} (n : ℕ) where
  abbrev Stands : Typed T → Type 0
  Stands l = StandInRow 0 n (statements_of l)

  row-stands : (m i : ℕ) (ps : Typeds T) → Rises i n (drop m (spans ps)) → StandInRow i n (drop m (present ps))
  row-stands zero i trees.none h = tt
  row-stands zero i (trees.more p ps) h = (h.0, h.1, h.2, row-stands zero (last_of p) ps h.3)
  row-stands zero i (trees.skip ps) h = row-stands zero i ps h
  row-stands (suc m) i trees.none h = tt
  row-stands (suc m) i (trees.more p ps) h = row-stands m i ps h
  row-stands (suc m) i (trees.skip ps) h = row-stands (suc m) i ps h

  own-stands : (x : Typed T) (b : Bool) → (b ≡ true → Stands x) → AllByRecursion Stands (if b then x ∷ [] else [])
  own-stands x true h = (h refl, tt)
  own-stands x false h = tt

  mutual
    pub lists-stand : (x : Typed T) → Good n x → ListsStandIn n x
    lists-stand (typed f i j l ps) h =
        all-both Stands (if is_statement_list f then typed f i j l ps ∷ [] else []) (lists_among ps)
        (own-stands (typed f i j l ps) (is_statement_list f) (λ e. row-stands (values_count f) 0 ps (h.0 e))) (among-stand ps h.1)

    among-stand : (ps : Typeds T) → AllGood n ps → AllByRecursion Stands (lists_among ps)
    among-stand trees.none h = tt
    among-stand (trees.more p ps) h = all-both Stands (statement_lists p) (lists_among ps) (lists-stand p h.0) (among-stand ps h.1)
    among-stand (trees.skip ps) h = among-stand ps h

-- ---- over other words for types

module _ {T U : Type 0} (g : T → U) where
  first-mapped : (x : Typed T) → first_of (mapped g x) ≡ first_of x
  first-mapped (typed f i j l ps) = refl

  last-mapped : (x : Typed T) → last_of (mapped g x) ≡ last_of x
  last-mapped (typed f i j l ps) = refl

  spans-mapped : (ps : Typeds T) → spans (all_mapped g ps) ≡ spans ps
  spans-mapped trees.none = refl
  spans-mapped (trees.more p ps) = λ k. (first-mapped p k, last-mapped p k) ∷ spans-mapped ps k
  spans-mapped (trees.skip ps) = spans-mapped ps

  mutual
    pub good-mapped : (n : ℕ) (x : Typed T) → Good n x → Good n (mapped g x)
    good-mapped n (typed f i j l ps) h = (subst (Fits n f) (sym (spans-mapped ps)) h.0, all-good-mapped n ps h.1)

    all-good-mapped : (n : ℕ) (ps : Typeds T) → AllGood n ps → AllGood n (all_mapped g ps)
    all-good-mapped n trees.none h = tt
    all-good-mapped n (trees.more p ps) h = (good-mapped n p h.0, all-good-mapped n ps h.1)
    all-good-mapped n (trees.skip ps) h = all-good-mapped n ps h

-- ---- trees whose tokens are counted from the first one of their declaration

based-last : (b : ℕ) (t : Tree) → last (based b t) ≡ last t - b
based-last b (node k i j ps) = refl

based-tiles : (b i j : ℕ) (ps : Trees) → b ≤ i → Tiles i j ps → Tiles (i - b) (j - b) (all_based b ps)
based-tiles b i j none h t = omega (arith, t)
based-tiles b i j (more (node k f e qs) ps) h t = (omega (arith, t.0), omega (arith, t.1), based-tiles b e j ps (omega (arith, h, t.0, t.1)) t.2)
based-tiles b i j (skip ps) h t = based-tiles b i j ps h t

based-statements : (b : ℕ) (ps : Trees) → AreStatements ps → AreStatements (all_based b ps)
based-statements b none h = tt
based-statements b (more (node k i j qs) ps) h = (h.0, based-statements b ps h.1)
based-statements b (skip ps) h = absurd h

based-list : (b : ℕ) (k : Kind) (ps : Trees) → IsList k ps → IsList k (all_based b ps)
based-list b kind.Block ps h = based-statements b ps h
based-list b kind.Default ps h = based-statements b ps h
based-list b kind.Case none h = absurd h
based-list b kind.Case (more e ps) h = based-statements b ps h
based-list b kind.Case (skip ps) h = absurd h
based-list b k ps h = tt

mutual
  based-set : (b : ℕ) (t : Tree) → b ≤ first t → Set t → Set (based b t)
  based-set b (node k i j ps) h s =
      let e : i + ahead k - b ≡ i - b + ahead k = omega (arith, h) in
      (omega (arith, h, s.0), subst (λ m. Tiles m (j - b) (all_based b ps)) e (based-tiles b (i + ahead k) j ps (omega (arith, h)) s.1), based-list b k ps s.2, all-based-set b (i + ahead k) j ps (omega (arith, h)) s.1 s.3)

  all-based-set : (b i j : ℕ) (ps : Trees) → b ≤ i → Tiles i j ps → AllSet ps → AllSet (all_based b ps)
  all-based-set b i j none h t s = tt
  all-based-set b i j (more p ps) h t s = (based-set b p (omega (arith, h, t.0)) s.0, all-based-set b (last p) j ps (omega (arith, h, t.0, t.1)) t.2 s.1)
  all-based-set b i j (skip ps) h t s = all-based-set b i j ps h t s

-- ---- a function

-- a declaration that is a node of its file
pub record IsNode (d : Specification) : Type 0 where
  pub tree : Tree
  pub is : d.tree ≡ Some tree
  pub set : Set tree
  pub begins : first tree ≡ d.first
  pub ends : last tree ≡ d.last

-- how many tokens it has
abbrev pub size_of : Specification → ℕ
size_of d = d.last - d.first

fine-tree : (n : ℕ) (t : Tree) (r : Reading) → Fine n t r → Good n (tree_read r)
fine-tree n t (read x fs f) h = h.2

same-ok : {A E : Type 0} (x y : A) → (let r : Result A E = Ok x in r) ≡ Ok y → x ≡ y
same-ok x y e = cc

judged-same : {A : Type 0} (o : Option TypeFault) (x y : A) → faults.judged o x ≡ Ok y → x ≡ y
judged-same None x y e = cc
judged-same (Some f) x y e = cc

behind-tree : (s : Scope) (k : ℕ) (t : Tree) (r : Reading) (b : Behind) → behind_read s k t r ≡ Ok b → tree_read r ≡ b.function.tree
behind-tree s k t (read x fs f) b e =
    ap (λ (z : Behind). z.function.tree) (judged-same (faults.reported fs) (record { function = function_read s k (last t) (signature_of s t) x f; rights = f.around.rights }) b e)

function-good : (n : ℕ) (s : Scope) (k count : ℕ) (types : ℕ → ℕ) (t : Tree) (b : Behind) → last t ≤ n → Set t → function_in s k count types t ≡ Ok b → Good n b.function.tree
function-good n s k count types t b u h e =
    let r = reading (start s count types) free t in
    subst (Good n) (behind-tree s k t r b e) (fine-tree n t r (reading-fine n (start s count types) free t u h))

typed-good : (p : Package) (a : Surroundings) (rights : Rights) (k : ℕ) (d : Specification) (b : Behind) → IsNode d → typed_function p a rights k d ≡ Ok b → Good (size_of d) b.function.tree
typed-good p a rights k d b h e =
    let bs = types_in p k in
    let over : function_over a rights k bs (portion_of p d) (based d.first h.tree) ≡ Ok b = sym (ap (λ o. function_with a rights k bs (portion_of p d) (based_tree d.first o)) h.is) ∙ e in
    let begins : first h.tree ≡ d.first = h.begins in
    let ends : last h.tree ≡ d.last = h.ends in
    let upto : last (based d.first h.tree) ≡ last h.tree - d.first = based-last d.first h.tree in
    function-good (size_of d) (scope_of a (rights ++ replicate (count_types bs) None) (portion_of p d)) k (length bs) (local_type (length rights) bs) (based d.first h.tree) b
    (omega (arith, upto, ends)) (based-set d.first h.tree (omega (arith, begins)) h.set) over

-- ---- all functions

-- what was answered before it went on
record WentOn {A B E : Type 0} (r : Result A E) (f : A → Result B E) (y : B) : Type 0 where
  value : A
  was : r ≡ Ok value
  went : f value ≡ Ok y

went-on : {A B E : Type 0} (r : Result A E) (f : A → Result B E) (y : B) → (r >>= f) ≡ Ok y → WentOn r f y
went-on (Ok x) f y e = record { value = x; was = refl; went = e }
went-on (Err x) f y e = cc

placed-ok : {A : Type 0} (p : Package) (d : Specification) (r : Result A TypeFault) (x : A) → placed p d r ≡ Ok x → r ≡ Ok x
placed-ok p d (Ok y) x e = ap Ok (same-ok y x e)
placed-ok p d (Err f) x e = cc

abbrev pub AreGood : List Specification → List FuncContent → Type 0
AreGood [] [] = Unit {0}
AreGood (d ∷ ds) (f ∷ fs) = Good (size_of d) f.tree × AreGood ds fs
AreGood ds fs = ⊥

functions-good : (p : Package) (a : Surroundings) (rights : Rights) (k : ℕ) (ds : List Specification) (fs : Functions) → AllByRecursion IsNode ds → functions_from p a rights k ds ≡ Ok fs → AreGood ds fs.functions
functions-good p a rights k [] fs h e = subst (λ (z : Functions). AreGood [] z.functions) (same-ok (record { functions = []; rights = rights }) fs e) tt
functions-good p a rights k (d ∷ ds) fs h e =
    let u = went-on (placed p d (typed_function p a rights k d)) (λ b. functions_from p a b.rights (suc k) ds >>= λ gs. Ok (with_function b.function gs)) fs e in
    let v = went-on (functions_from p a u.value.rights (suc k) ds) (λ gs. Ok (with_function u.value.function gs)) fs u.went in
    subst (λ (z : Functions). AreGood (d ∷ ds) z.functions) (same-ok (with_function u.value.function v.value) fs v.went)
    (typed-good p a rights k d u.value h.0 (placed-ok p d (typed_function p a rights k d) u.value u.was), functions-good p a u.value.rights (suc k) ds v.value h.1 v.was)

-- ---- a package that type-checks

-- It has the files that were read, no fault of names is reported, and its functions are good.
pub record HasFunctions (texts : List FileText) (c : Content) (h : IsChecked texts c) : Type 0 where
  pub files : c.files ≡ h.files
  pub faultless : reported (map unit_of (map source_of h.files)) ≡ None
  pub named : c.uses ≡ uses (map unit_of (map source_of h.files))
  pub good : AreGood (those_of entity.Function (specifications 0 (map source_of h.files))) c.functions

unless-ok : (o : Option Failure) (x y : UsesView) → unless o x ≡ Ok y → (o ≡ None) × (x ≡ y)
unless-ok None x y e = (refl, cc)
unless-ok (Some f) x y e = cc

-- what the answers of the check have of one another
content-parts : (names : List (List ℕ)) (files : List FileTree) (ss : List Source) (t : Typing) (c : Content) → content_of names files ss t ≡ c → (c.files ≡ files) × (c.uses ≡ t.uses) × (t.bodies.functions ≡ c.functions)
content-parts names files ss t c e = (sym (ap (λ (z : Content). z.files) e), sym (ap (λ (z : Content). z.uses) e), ap (λ (z : Content). z.functions) e)

typing-parts : (made t : Typing) → made ≡ t → (t.uses ≡ made.uses) × (made.bodies.functions ≡ t.bodies.functions)
typing-parts made t e = (sym (ap (λ (z : Typing). z.uses) e), ap (λ (z : Typing). z.bodies.functions) e)

pub checked-functions : (texts : List FileText) (c : Content) (h : IsChecked texts c) → AllByRecursion IsNode (those_of entity.Function (specifications 0 (map source_of h.files))) → HasFunctions texts c h
checked-functions texts c h nodes =
    let ss = map source_of h.files in
    let all = specifications 0 ss in
    let ds = those_of entity.Function all in
    let t = went-on (sources_answer ss) (λ t. Ok (content_of (names_of texts) h.files ss t)) c h.answer in
    let u = went-on (names_answer (map unit_of ss)) (λ u. package_answer ss u >>= λ e. bodies_answer ss all u e) t.value t.was in
    let e = went-on (package_answer ss u.value) (λ e. bodies_answer ss all u.value e) t.value u.went in
    let b = went-on (functions_from (package_of ss u.value) (surroundings_of u.value e.value) e.value.rights 0 ds) (λ b. Ok (record { uses = u.value; environment = e.value; bodies = b; specifications = all })) t.value e.went in
    let n = unless-ok (reported (map unit_of ss)) (uses (map unit_of ss)) u.value u.was in
    let made : Typing = record { uses = u.value; environment = e.value; bodies = b.value; specifications = all } in
    let typing = typing-parts made t.value (same-ok made t.value b.went) in
    let content = content-parts (names_of texts) h.files ss t.value c (same-ok (content_of (names_of texts) h.files ss t.value) c t.went) in
    let read = functions-good (package_of ss u.value) (surroundings_of u.value e.value) e.value.rights 0 ds b.value nodes b.was in
    record {
      files = content.0;
      faultless = n.0;
      named = content.1 ∙ (typing.0 ∙ sym n.1);
      good = subst (AreGood ds) content.2 (subst (AreGood ds) typing.1 read);
    }
