-- The functions of a package without faults, each as it is read.
use Rattle.std.proofs.Common.{◌≡◌, ◌∙◌, ℕ, suc, List, [], ◌∷◌, map, length, replicate, ◌++◌, Option, Some, None, Ok, Err, Result, refl, sym, ap, subst}
use Rattle.std.specs.Prelude.{Bool}
use Rattle.go_base.specs.declared.bytes.FileText.{FileText}
use Rattle.go_base.specs.Gives.{◌>>=◌}
use Rattle.go_grammar.specs.Trees.{Tree, last}
use Rattle.go_tree.specs.declared.context.Entity.TheVariants as entity
use Rattle.go_tree.specs.Failures.{Failure}
use Rattle.go_tree.specs.Faults.{reported}
use Rattle.go_tree.specs.File.{FileTree}
use Rattle.go_tree.specs.Uses.{UsesView, uses}
use Rattle.go_types.specs.Relations.{Rights}
use Rattle.go_typed.specs.Contents.{FuncContent, Content}
use Rattle.go_exprs_rules.specs.declared.fault.TypeFault.{TypeFault}
use Rattle.go_exprs_rules.specs.Faults as faults
use Rattle.go_exprs_rules.specs.Scopes.{Scope, free}
use Rattle.go_stmts_defs.specs.Bodies.{start, signature_of, function_read}
use Rattle.go_stmts_defs.specs.Reading.{Reading, read, reading}
use Rattle.go_package_defs.specs.Answer.{specifications, package_answer, unless}
use Rattle.go_package_defs.specs.Bodies.{Surroundings, Behind, Functions, Portion, scope_of, behind_read, function_of, function_with, placed, portion_of, typed_function, types_in, functions_from, those_of, with_function}
use Rattle.go_package_defs.specs.Bodies.{count_types, local_type}
use Rattle.go_package_defs.specs.Checked.{Typing, surroundings_of, names_answer, bodies_answer, sources_answer, content_of, IsChecked, names_of}
use Rattle.go_package_defs.specs.Declarations.{Specification}
use Rattle.go_package_defs.specs.Sources.{Package, source_of, unit_of, package_of}
use Rattle.go_stmts_scopes.specs.Statements.{tree_in}

bound : {A B F : Type 0} (r : Result A F) (f : A → Result B F) (y : B) → (r >>= f) ≡ Ok y → (x : A) × (r ≡ Ok x) × (f x ≡ Ok y)
bound (Ok x) f y e = (x, refl, e)
bound (Err g) f y e = cc

ok_same : {A F : Type 0} (x y : A) → (let r : Result A F = Ok x in r) ≡ Ok y → x ≡ y
ok_same x y e = cc

judged_same : {A : Type 0} (o : Option TypeFault) (x y : A) → faults.judged o x ≡ Ok y → x ≡ y
judged_same None x y e = cc
judged_same (Some f) x y e = cc

placed_ok : {A : Type 0} (p : Package) (d : Specification) (r : Result A TypeFault) (x : A) → placed p d r ≡ Ok x → r ≡ Ok x
placed_ok p d (Ok y) x e = ap Ok (let same : y ≡ x = cc in same)
placed_ok p d (Err g) x e = cc

behind_tree : (s : Scope) (number : ℕ) (t : Tree) (r : Reading) (b : Behind) → behind_read s number t r ≡ Ok b → tree_in r ≡ b.function.tree
behind_tree s number t (read x fs f) b e =
    ap (λ (z : Behind). z.function.tree) (judged_same (faults.reported fs) (record { function = function_read s number (last t) (signature_of s t) x f; rights = f.around.rights }) b e)

-- a function is what is read of its tree, from where it begins, over what its tokens mean
pub record IsReadOf (p : Package) (d : Specification) (t : Tree) (f : FuncContent) : Type 0 where
  pub around : Surroundings
  pub rights : Rights
  pub count : ℕ
  pub types : ℕ → ℕ
  pub is : tree_in (reading (start (scope_of around rights (portion_of p d)) count types) free t) ≡ f.tree

function_is : (p : Package) (d : Specification) (a : Surroundings) (rights : Rights) (number : ℕ) (bs : List Bool) (t : Tree) (b : Behind) → (portion_of p d).tree ≡ Some t → function_of a rights number bs (portion_of p d) ≡ Ok b
    → IsReadOf p d t b.function
function_is p d a rights number bs t b m e =
    let o : Portion = portion_of p d in
    let all : Rights = rights ++ replicate (count_types bs) None in
    let f : function_with a rights number bs o (Some t) ≡ Ok b = sym (ap (function_with a rights number bs o) m) ∙ e in
    record {
      around = a;
      rights = all;
      count = length bs;
      types = local_type (length rights) bs;
      is = behind_tree (scope_of a all o) number t (reading (start (scope_of a all o) (length bs) (local_type (length rights) bs)) free t) b f;
    }

-- what holds of each function that is read so holds of all
abbrev pub AllHave : (FuncContent → Type 0) → List FuncContent → Type 0
AllHave Q [] = Unit {0}
AllHave Q (f ∷ fs) = Q f × AllHave Q fs

-- what holds of all specifications
abbrev pub EachOf : (Specification → Type 0) → List Specification → Type 0
EachOf Q [] = Unit {0}
EachOf Q (d ∷ ds) = Q d × EachOf Q ds

-- a tree of the portion, from which the property follows
abbrev pub Gives : Package → (FuncContent → Type 0) → Specification → Type 0
Gives p Q d = (t : Tree) × ((portion_of p d).tree ≡ Some t) × ((f : FuncContent) → IsReadOf p d t f → Q f)

all_read : (Q : FuncContent → Type 0) (p : Package) (a : Surroundings) (rights : Rights) (n : ℕ) (ds : List Specification) (fs : Functions) → EachOf (Gives p Q) ds → functions_from p a rights n ds ≡ Ok fs → AllHave Q fs.functions
all_read Q p a rights n [] fs w e = subst (λ (z : Functions). AllHave Q z.functions) (ok_same (record { functions = []; rights = rights }) fs e) tt
all_read Q p a rights n (d ∷ ds) fs w e =
    let b = bound (placed p d (typed_function p a rights n d)) (λ b. functions_from p a b.rights (suc n) ds >>= λ gs. Ok (with_function b.function gs)) fs e in
    let g = bound (functions_from p a b.0.rights (suc n) ds) (λ gs. Ok (with_function b.0.function gs)) fs b.2 in
    let own : Q b.0.function = w.0.2 b.0.function (function_is p d a rights n (types_in p n) w.0.0 b.0 w.0.1 (placed_ok p d (typed_function p a rights n d) b.0 b.1)) in
    subst (λ (z : Functions). AllHave Q z.functions) (ok_same (with_function b.0.function g.0) fs g.2) (own, all_read Q p a b.0.rights (suc n) ds g.0 w.1 g.1)

-- no fault of names is reported, and the names mean what they mean
pub record HasNames (files : List FileTree) (c : Content) : Type 0 where
  pub faultless : reported (map unit_of (map source_of files)) ≡ None
  pub named : c.uses ≡ uses (map unit_of (map source_of files))

unless_ok : (o : Option Failure) (x y : UsesView) → unless o x ≡ Ok y → (o ≡ None) × (x ≡ y)
unless_ok None x y e = (refl, cc)
unless_ok (Some f) x y e = cc

module _ (texts : List FileText) (c : Content) (h : IsChecked texts c) where
  pub checked_names : HasNames h.files c
  checked_names =
      let ss = map source_of h.files in
      let t = bound (sources_answer ss) (λ t. Ok (content_of (names_of texts) h.files ss t)) c h.answer in
      let u = bound (names_answer (map unit_of ss)) (λ u. package_answer ss u >>= λ e. bodies_answer ss (specifications 0 ss) u e) t.0 t.1 in
      let e = bound (package_answer ss u.0) (λ e. bodies_answer ss (specifications 0 ss) u.0 e) t.0 u.2 in
      let ds = those_of entity.Function (specifications 0 ss) in
      let b = bound (functions_from (package_of ss u.0) (surroundings_of u.0 e.0) e.0.rights 0 ds) (λ b. Ok (record { uses = u.0; environment = e.0; bodies = b; specifications = specifications 0 ss })) t.0 e.2 in
      let n = unless_ok (reported (map unit_of ss)) (uses (map unit_of ss)) u.0 u.1 in
      record {
        faultless = n.0;
        named =
            sym (ap (λ (z : Content). z.uses) (ok_same (content_of (names_of texts) h.files ss t.0) c t.2))
            ∙ (sym (ap (λ (z : Typing). z.uses) (ok_same (record { uses = u.0; environment = e.0; bodies = b.0; specifications = specifications 0 ss }) t.0 b.2)) ∙ sym n.1);
      }

  pub checked_read : (Q : FuncContent → Type 0)
      → ((u : UsesView) → uses (map unit_of (map source_of h.files)) ≡ u → EachOf (Gives (package_of (map source_of h.files) u) Q) (those_of entity.Function (specifications 0 (map source_of h.files)))) → AllHave Q c.functions
  checked_read Q w =
      let ss = map source_of h.files in
      let t = bound (sources_answer ss) (λ t. Ok (content_of (names_of texts) h.files ss t)) c h.answer in
      let u = bound (names_answer (map unit_of ss)) (λ u. package_answer ss u >>= λ e. bodies_answer ss (specifications 0 ss) u e) t.0 t.1 in
      let e = bound (package_answer ss u.0) (λ e. bodies_answer ss (specifications 0 ss) u.0 e) t.0 u.2 in
      let ds = those_of entity.Function (specifications 0 ss) in
      let b = bound (functions_from (package_of ss u.0) (surroundings_of u.0 e.0) e.0.rights 0 ds) (λ b. Ok (record { uses = u.0; environment = e.0; bodies = b; specifications = specifications 0 ss })) t.0 e.2 in
      let n = unless_ok (reported (map unit_of ss)) (uses (map unit_of ss)) u.0 u.1 in
      let all = all_read Q (package_of ss u.0) (surroundings_of u.0 e.0) e.0.rights 0 ds b.0 (w u.0 n.1) b.1 in
      subst (λ (z : Content). AllHave Q z.functions) (ok_same (content_of (names_of texts) h.files ss t.0) c t.2)
      (subst (λ (z : Typing). AllHave Q z.bodies.functions) (ok_same (record { uses = u.0; environment = e.0; bodies = b.0; specifications = specifications 0 ss }) t.0 b.2) all)
