-- The typed functions of a package that type-checks are what is read of their declarations, and no rule fails in them.
use Rattle.std.proofs.Common.{◌≡◌, ◌∙◌, ℕ, zero, suc, ◌-◌, List, [], ◌∷◌, ◌++◌, length, map, replicate, Option, Some, None, Result, Ok, Err, refl, sym, ap, subst}
use Rattle.std.specs.Prelude.{slice_get}
use Rattle.std.specs.List.{AllByRecursion}
use Rattle.std.proofs.lemmas.List.{length-map}
use Rattle.go_base.specs.Gives.{◌>>=◌}
use Rattle.go_base.specs.declared.bytes.FileText.{FileText}
use Rattle.go_grammar.specs.Trees.{Tree, last}
use Rattle.go_tree.specs.declared.context.Entity.TheVariants as entity
use Rattle.go_tree.specs.Failures.{Failure}
use Rattle.go_tree.specs.File.{FileTree}
use Rattle.go_tree.specs.Faults.{reported}
use Rattle.go_tree.specs.Uses.{UsesView, uses}
use Rattle.go_types.specs.Relations.{Rights}
use Rattle.go_typed.specs.Contents.{Content, FuncContent}
use Rattle.go_exprs_rules.specs.declared.fault.TypeFault.{TypeFault}
use Rattle.go_exprs_rules.specs.Faults as faults
use Rattle.go_exprs_rules.specs.Scopes.{Scope, Hint, free}
use Rattle.go_stmts_defs.specs.Bodies.{based, start, signature_of, function_read, numbers_from, token_locals}
use Rattle.go_stmts_defs.specs.Frames.{Frame}
use Rattle.go_stmts_defs.specs.Reading.{Found, Reading, read, reading}
use Rattle.go_package_defs.specs.Answer.{package_answer, specifications, unless}
use Rattle.go_package_defs.specs.Bodies.{Behind, Functions, Surroundings, count_types, local_type, based_tree, behind_read, function_over, function_with, functions_from, placed, portion_of, scope_of, those_of, typed_function, types_in, with_function}
use Rattle.go_package_defs.specs.Checked.{IsChecked, Typing, bodies_answer, content_of, names_answer, names_of, sources_answer, surroundings_of}
use Rattle.go_package_defs.specs.Declarations.{Specification}
use Rattle.go_package_defs.specs.Sources.{Package, Source, package_of, source_of, unit_of}
use Rattle.go_function_trees.specs.Lists.{Faultless, tree_in, found_in}
use Rattle.go_function_trees.proofs.Based.{based-last}

-- ---- faults

some-least : (f : TypeFault) (o : Option TypeFault) → faults.earlier (Some f) o ≡ None → ⊥
some-least f None e = cc
some-least f (Some g) e = cc

pub none-reported : (fs : Found) → faults.reported fs ≡ None → Faultless fs
none-reported [] e = tt
none-reported ([] ∷ fs) e = (refl, none-reported fs e)
none-reported ((f ∷ gs) ∷ fs) e = absurd (some-least f (faults.least gs) e)

-- ---- one function

-- The function is what is read of the tree of its declaration.
pub record FunctionRead (d : Specification) (f : FuncContent) : Type 0 where
  pub tree : Tree
  pub is : d.tree ≡ Some tree
  pub frame : Frame
  pub hint : Hint
  pub read : f.tree ≡ tree_in (reading frame hint (based d.first tree))
  pub faultless : Faultless (found_in (reading frame hint (based d.first tree)))
  pub long : length f.tokens ≡ last tree - d.first

numbers-long : (k n : ℕ) → length (numbers_from k n) ≡ n
numbers-long k zero = refl
numbers-long k (suc n) = ap suc (numbers-long (suc k) n)

tokens-long : (s : Scope) (n : ℕ) → length (token_locals s n) ≡ n
tokens-long s n = length-map (numbers_from 0 n) _ ∙ numbers-long 0 n

pub same-ok : {A E : Type 0} (x y : A) → (let r : Result A E = Ok x in r) ≡ Ok y → x ≡ y
same-ok x y e = cc

record Judged {A : Type 0} (o : Option TypeFault) (x y : A) : Type 0 where
  none : o ≡ None
  same : x ≡ y

judged-ok : {A : Type 0} (o : Option TypeFault) (x y : A) → faults.judged o x ≡ Ok y → Judged o x y
judged-ok None x y e = record { none = refl; same = same-ok x y e }
judged-ok (Some f) x y e = absurd cc

record ReadOk (s : Scope) (t : Tree) (q : Reading) (b : Behind) : Type 0 where
  tree : b.function.tree ≡ tree_in q
  faultless : Faultless (found_in q)
  long : length b.function.tokens ≡ last t

behind-ok : (s : Scope) (k : ℕ) (t : Tree) (q : Reading) (b : Behind) → behind_read s k t q ≡ Ok b → ReadOk s t q b
behind-ok s k t (read x fs f) b e =
    let made : Behind = record { function = function_read s k (last t) (signature_of s t) x f; rights = f.around.rights } in
    let j = judged-ok (faults.reported fs) made b e in
    record {
      tree = sym (ap (λ (z : Behind). z.function.tree) j.same);
      faultless = none-reported fs j.none;
      long = sym (ap (λ (z : Behind). length z.function.tokens) j.same) ∙ tokens-long s (last t);
    }

typed-read : (p : Package) (a : Surroundings) (rights : Rights) (k : ℕ) (d : Specification) (b : Behind) (t : Tree) → d.tree ≡ Some t → typed_function p a rights k d ≡ Ok b → FunctionRead d b.function
typed-read p a rights k d b t is e =
    let bs = types_in p k in
    let over : function_over a rights k bs (portion_of p d) (based d.first t) ≡ Ok b = sym (ap (λ o. function_with a rights k bs (portion_of p d) (based_tree d.first o)) is) ∙ e in
    let s : Scope = scope_of a (rights ++ replicate (count_types bs) None) (portion_of p d) in
    let from : Frame = start s (length bs) (local_type (length rights) bs) in
    let r = behind-ok s k (based d.first t) (reading from free (based d.first t)) b over in
    record { tree = t; is = is; frame = from; hint = free; read = r.tree; faultless = r.faultless; long = r.long ∙ based-last d.first t }

-- ---- all functions

-- what was answered before it went on
record WentOn {A B E : Type 0} (r : Result A E) (f : A → Result B E) (y : B) : Type 0 where
  value : A
  was : r ≡ Ok value
  went : f value ≡ Ok y

went-on : {A B E : Type 0} (r : Result A E) (f : A → Result B E) (y : B) → (r >>= f) ≡ Ok y → WentOn r f y
went-on (Ok x) f y e = record { value = x; was = refl; went = e }
went-on (Err x) f y e = absurd cc

placed-ok : {A : Type 0} (p : Package) (d : Specification) (r : Result A TypeFault) (x : A) → placed p d r ≡ Ok x → r ≡ Ok x
placed-ok p d (Ok y) x e = ap Ok (same-ok y x e)
placed-ok p d (Err f) x e = absurd cc

abbrev pub AreFunctions : List Specification → List FuncContent → Type 0
AreFunctions [] [] = Unit {0}
AreFunctions (d ∷ ds) (f ∷ fs) = FunctionRead d f × AreFunctions ds fs
AreFunctions ds fs = ⊥

abbrev pub HasTree : Specification → Type 0
HasTree d = (t : Tree) × (d.tree ≡ Some t)

functions-read : (p : Package) (a : Surroundings) (rights : Rights) (k : ℕ) (ds : List Specification) (fs : Functions) → AllByRecursion HasTree ds → functions_from p a rights k ds ≡ Ok fs → AreFunctions ds fs.functions
functions-read p a rights k [] fs h e = subst (λ (z : Functions). AreFunctions [] z.functions) (same-ok (record { functions = []; rights = rights }) fs e) tt
functions-read p a rights k (d ∷ ds) fs h e =
    let u = went-on (placed p d (typed_function p a rights k d)) (λ b. functions_from p a b.rights (suc k) ds >>= λ gs. Ok (with_function b.function gs)) fs e in
    let v = went-on (functions_from p a u.value.rights (suc k) ds) (λ gs. Ok (with_function u.value.function gs)) fs u.went in
    subst (λ (z : Functions). AreFunctions (d ∷ ds) z.functions) (same-ok (with_function u.value.function v.value) fs v.went)
    (typed-read p a rights k d u.value h.0.0 h.0.1 (placed-ok p d (typed_function p a rights k d) u.value u.was), functions-read p a u.value.rights (suc k) ds v.value h.1 v.was)

-- ---- a package that type-checks

-- It has the files that were read, no fault of names is reported, and its functions are read of their declarations.
pub record HasFunctions (texts : List FileText) (c : Content) (h : IsChecked texts c) : Type 0 where
  pub files : c.files ≡ h.files
  pub faultless : reported (map unit_of (map source_of h.files)) ≡ None
  pub named : c.uses ≡ uses (map unit_of (map source_of h.files))
  pub read : AreFunctions (those_of entity.Function (specifications 0 (map source_of h.files))) c.functions

unless-ok : (o : Option Failure) (x y : UsesView) → unless o x ≡ Ok y → (o ≡ None) × (x ≡ y)
unless-ok None x y e = (refl, cc)
unless-ok (Some f) x y e = absurd cc

-- what the answers of the check have of one another
content-parts : (names : List (List ℕ)) (files : List FileTree) (ss : List Source) (t : Typing) (c : Content) → content_of names files ss t ≡ c → (c.files ≡ files) × (c.uses ≡ t.uses) × (t.bodies.functions ≡ c.functions)
content-parts names files ss t c e = (sym (ap (λ (z : Content). z.files) e), sym (ap (λ (z : Content). z.uses) e), ap (λ (z : Content). z.functions) e)

typing-parts : (made t : Typing) → made ≡ t → (t.uses ≡ made.uses) × (made.bodies.functions ≡ t.bodies.functions)
typing-parts made t e = (sym (ap (λ (z : Typing). z.uses) e), ap (λ (z : Typing). z.bodies.functions) e)

pub checked-functions : (texts : List FileText) (c : Content) (h : IsChecked texts c) → AllByRecursion HasTree (those_of entity.Function (specifications 0 (map source_of h.files))) → HasFunctions texts c h
checked-functions texts c h nodes =
    let ss = map source_of h.files in
    let all = specifications 0 ss in
    let ds = those_of entity.Function all in
    let t = went-on (sources_answer ss) (λ t. Ok (content_of (names_of texts) h.files ss t)) c h.answer in
    let u = went-on (names_answer (map unit_of ss)) (λ u. package_answer ss u >>= λ e. bodies_answer ss all u e) t.value t.was in
    let e = went-on (package_answer ss u.value) (λ e. bodies_answer ss all u.value e) t.value u.went in
    let b = went-on (functions_from (package_of ss u.value) (surroundings_of u.value e.value) e.value.rights 0 ds) (λ b. Ok (record { uses = u.value; environment = e.value; bodies = b; specifications = all })) t.value e.went in
    let n = unless-ok (reported (map unit_of ss)) (uses (map unit_of ss)) u.value u.was in
    let made : Typing = record { uses = u.value; environment = e.value; bodies = b.value; specifications = all } in
    let typing = typing-parts made t.value (same-ok made t.value b.went) in
    let content = content-parts (names_of texts) h.files ss t.value c (same-ok (content_of (names_of texts) h.files ss t.value) c t.went) in
    let read = functions-read (package_of ss u.value) (surroundings_of u.value e.value) e.value.rights 0 ds b.value nodes b.was in
    record {
      files = content.0;
      faultless = n.0;
      named = content.1 ∙ (typing.0 ∙ sym n.1);
      read = subst (AreFunctions ds) content.2 (subst (AreFunctions ds) typing.1 read);
    }

-- ---- by number

pub record FunctionAt (ds : List Specification) (n : ℕ) (f : FuncContent) : Type 0 where
  pub it : Specification
  pub there : slice_get ds n ≡ Some it
  pub read : FunctionRead it f

pub function-at : (ds : List Specification) (fs : List FuncContent) (n : ℕ) (f : FuncContent) → AreFunctions ds fs → slice_get fs n ≡ Some f → FunctionAt ds n f
function-at [] [] n f h e = absurd cc
function-at [] (g ∷ fs) n f h e = absurd h
function-at (d ∷ ds) [] n f h e = absurd h
function-at (d ∷ ds) (g ∷ fs) zero f h e = record { it = d; there = refl; read = let same : g ≡ f = cc in subst (FunctionRead d) same h.0 }
function-at (d ∷ ds) (g ∷ fs) (suc n) f h e = let r = function-at ds fs n f h.1 e in record { it = r.it; there = r.there; read = r.read }

pub all-at : {A : Type 0} (P : A → Type 0) (xs : List A) (n : ℕ) (x : A) → AllByRecursion P xs → slice_get xs n ≡ Some x → P x
all-at P [] n x h e = absurd cc
all-at P (y ∷ xs) zero x h e = let same : y ≡ x = cc in subst P same h.0
all-at P (y ∷ xs) (suc n) x h e = all-at P xs n x h.1 e

pub record MappedAt {A B : Type 0} (f : A → B) (xs : List A) (n : ℕ) (y : B) : Type 0 where
  pub it : A
  pub there : slice_get xs n ≡ Some it
  pub is : y ≡ f it

pub mapped-at : {A B : Type 0} (f : A → B) (xs : List A) (n : ℕ) (y : B) → slice_get (map f xs) n ≡ Some y → MappedAt f xs n y
mapped-at f [] n y e = absurd cc
mapped-at f (x ∷ xs) zero y e = record { it = x; there = refl; is = let same : f x ≡ y = cc in sym same }
mapped-at f (x ∷ xs) (suc n) y e = let r = mapped-at f xs n y e in record { it = r.it; there = r.there; is = r.is }

pub map-at : {A B : Type 0} (f : A → B) (xs : List A) (n : ℕ) (x : A) → slice_get xs n ≡ Some x → slice_get (map f xs) n ≡ Some (f x)
map-at f [] n x e = absurd cc
map-at f (y ∷ xs) zero x e = let same : y ≡ x = cc in ap (λ z. Some (f z)) same
map-at f (y ∷ xs) (suc n) x e = map-at f xs n x e
