-- Each local that a function of a package that type-checks names is in scope at its token.
use Rattle.std.proofs.Common.{◌≡◌, ◌∙◌, ℕ, zero, suc, ◌+◌, ◌-◌, true, false, List, [], ◌∷◌, map, Option, Some, None, refl, sym, ap, subst, arith}
use Rattle.std.specs.Prelude.{is_some, slice_get}
use Rattle.std.specs.List.{AllByRecursion}
use Rattle.go_base.specs.declared.bytes.FileText.{FileText}
use Rattle.go_grammar.specs.Grammar.{IsFile}
use Rattle.go_grammar.specs.Trees.{Tree, node}
use Rattle.go_grammar.specs.declared.kind.Kind.TheVariants as kind
use Rattle.go_tokens.specs.Tokens.{kinds}
use Rattle.go_tree.specs.declared.context.Block.{Block}
use Rattle.go_tree.specs.declared.context.Block.TheVariants as block
use Rattle.go_tree.specs.declared.context.Entity.TheVariants as entity
use Rattle.go_tree.specs.declared.object.Declared.{Declared}
use Rattle.go_tree.specs.declared.object.Object.{Object}
use Rattle.go_tree.specs.declared.object.Object.TheVariants as object
use Rattle.go_tree.specs.Contexts.{is_package}
use Rattle.go_tree.specs.File.{FileTree}
use Rattle.go_tree.specs.Uses.{UsesView, IsComplete, uses, object_of, object_there, local_of, is_within, may_mean}
use Rattle.go_types.specs.Trees.{TypeTree}
use Rattle.go_types_relations.specs.Renaming.{renamed}
use Rattle.go_typed.specs.declared.form.Form.{Form}
use Rattle.go_typed.specs.declared.form.Form.TheVariants as form
use Rattle.go_typed.specs.Contents.{FuncContent, content, func_renamed}
use Rattle.go_typed.specs.Packages.{PackageView}
use Rattle.go_typed.specs.Trees.{Typed, typed, Typeds}
use Rattle.go_typed.specs.Trees as trees
use Rattle.go_exprs_rules.specs.Scopes.{Hint, free}
use Rattle.go_stmts_defs.specs.Bodies.{based, start}
use Rattle.go_stmts_defs.specs.Frames.{Frame}
use Rattle.go_stmts_defs.specs.Reading.{reading}
use Rattle.go_package_defs.specs.Answer.{specifications}
use Rattle.go_package_defs.specs.Bodies.{own_object, objects_from, based_tree, scope_of, portion_of, those_of}
use Rattle.go_package_defs.specs.Checked.{texts_of, AreRead, IsCheckedPackage}
use Rattle.go_package_defs.specs.Declarations.{Specification}
use Rattle.go_package_defs.specs.Sources.{Source, Package, source_of, unit_of, package_of}
use Rattle.go_package_settled.specs.Read.{IsFaultless}
use Rattle.go_package_settled.specs.Resolved.{AreResolved}
use Rattle.go_stmts_scopes.specs.Names.{MeansLocal, NameMeans, NamesMean, AllNamesMean}
use Rattle.go_stmts_scopes.specs.Statements.{tree_in}
use Rattle.go_package_scopes.specs.Functions.{NameHas, EachName, EachNames, IsInScope, HasNamesInScope, HaveNamesInScope}
use Rattle.go_package_scopes.proofs.Renamed.{each_name}
use Rattle.go_package_scopes.proofs.Results.{AllHave, EachOf, Gives, checked_names, checked_read}
use Rattle.go_package_scopes.proofs.Trees.{HasFunctionTree, AreDerived, all_functions}

-- ---- tokens of a declaration by itself

own_local : (o : Option Object) (k : ℕ) → MeansLocal (own_object o) k → (f : ℕ) × (o ≡ Some (object.Local f k))
own_local None k h = absurd h
own_local (Some (object.Local f n)) k h = (f, ap (λ m. Some (object.Local f m)) h)
own_local (Some object.Import) k h = absurd h
own_local (Some (object.Predeclared p)) k h = absurd h
own_local (Some (object.Package n)) k h = absurd h

pub token_local : (p : Package) (n t c i k : ℕ) → MeansLocal (object_there (slice_get (objects_from p n t c) i)) k → (f : ℕ) × (object_of p.uses n (t + i) ≡ Some (object.Local f k))
token_local p n t zero i k h = absurd h
token_local p n t (suc c) zero k h =
    let e : t ≡ t + 0 = omega arith in
    let o = own_local (object_of p.uses n t) k h in
    (o.0, subst (λ u. object_of p.uses n u ≡ Some (object.Local o.0 k)) e o.1)
token_local p n t (suc c) (suc i) k h =
    let e : suc t + i ≡ t + suc i = omega arith in
    let o = token_local p n (suc t) c i k h in
    (o.0, subst (λ u. object_of p.uses n u ≡ Some (object.Local o.0 k)) e o.1)

-- ---- names that are complete

there : (o : Option Declared) → is_some o ≡ true → (d : Declared) × (o ≡ Some d)
there None e = absurd (let z : false ≡ true = e in cc)
there (Some d) e = (d, refl)

pub within : (b : Block) (d : Declared) (n t : ℕ) → is_package b ≡ false → may_mean b d n t ≡ true → is_within d n t ≡ true
within block.Package d n t e h = absurd (let z : true ≡ false = e in cc)
within (block.Local i) d n t e h = h

pub in_scope : (u : UsesView) → IsComplete u → (n t f k : ℕ) → object_of u n t ≡ Some (object.Local f k) → IsInScope u n t k
in_scope u c n t f k e =
    let d = there (local_of u f k) (c.declared n t (object.Local f k) e) in
    record { function = f; meant = e; declared = d.0; there = d.1; within = within d.0.block d.0 n t (c.local_block f k d.0 d.1) (c.scope n t (object.Local f k) d.0 e d.1) }

-- ---- trees

module _ (o : ℕ → Option Object) (Q : ℕ → ℕ → Type 0) (q : (i k : ℕ) → MeansLocal (o i) k → Q i k) where
  name_has : (f : Form) (i : ℕ) → NameMeans o f i → NameHas Q f i
  name_has (form.Local k) i h = q i k h
  name_has (form.New k) i h = q i k h
  name_has (form.Declared k) i h = q i k h
  name_has f i h = tt

  mutual
    pub each_meant : (x : Typed TypeTree) → NamesMean o x → EachName Q x
    each_meant (typed f i j l ps) h = (name_has f i h.0, all_meant ps h.1)

    all_meant : (ps : Typeds TypeTree) → AllNamesMean o ps → EachNames Q ps
    all_meant trees.none h = tt
    all_meant (trees.more p ps) h = (each_meant p h.0, all_meant ps h.1)
    all_meant (trees.skip ps) h = all_meant ps h

-- ---- packages

abbrev pub NamesAreMeant : Type 0
NamesAreMeant = (s : Frame) (h : Hint) (t : Tree) → NamesMean s.around.objects (tree_in (reading s h t))

abbrev pub NamesAreResolved : Type 0
NamesAreResolved = (ss : List Source) → IsFaultless ss → AreResolved (map unit_of ss)

gives_names : NamesAreMeant → (p : Package) → IsComplete p.uses → (d : Specification) → HasFunctionTree d → Gives p (HasNamesInScope p.uses) d
gives_names m p c d h = (
  based d.first (node kind.FunctionDeclaration h.first h.last h.parts),
  ap (based_tree d.first) h.tree,
  λ f r. record {
    file = d.file;
    first = d.first;
    names = let t : Tree = based d.first (node kind.FunctionDeclaration h.first h.last h.parts) in
        let s : Frame = start (scope_of r.around r.rights (portion_of p d)) r.count r.types in
        subst (EachName (λ i k. IsInScope p.uses d.file (d.first + i) k)) r.is
        (each_meant s.around.objects (λ i k. IsInScope p.uses d.file (d.first + i) k) (λ i k z. let w = token_local p d.file d.first (d.last - d.first) i k z in in_scope p.uses c d.file (d.first + i) w.0 k w.1)
        (tree_in (reading s free t)) (m s free t));
  },
)

all_give : NamesAreMeant → (p : Package) → IsComplete p.uses → (ds : List Specification) → EachOf HasFunctionTree ds → EachOf (Gives p (HasNamesInScope p.uses)) ds
all_give m p c [] h = tt
all_give m p c (d ∷ ds) h = (gives_names m p c d h.0, all_give m p c ds h.1)

pub trees_of : (m : ℕ) (texts : List FileText) (files : List FileTree) → AreRead m texts files → AllByRecursion (λ s. IsFile (kinds s.tokens.tokens) s.tree) (map source_of files)
trees_of m [] [] r = tt
trees_of m [] (f ∷ fs) r = absurd r
trees_of m (x ∷ xs) [] r = absurd r
trees_of m (x ∷ xs) (f ∷ fs) r = (r.0.tree, trees_of (suc m) xs fs r.1)

renamed_names : (u : UsesView) (name : ℕ → ℕ) (fs : List FuncContent) → AllHave (HasNamesInScope u) fs → HaveNamesInScope u (map (func_renamed name) fs)
renamed_names u name [] h = tt
renamed_names u name (f ∷ fs) h = (record { file = h.0.file; first = h.0.first; names = each_name (renamed name) (λ i k. IsInScope u h.0.file (h.0.first + i) k) f.tree h.0.names }, renamed_names u name fs h.1)

pub package_named : AreDerived → NamesAreMeant → NamesAreResolved → (p : PackageView) → IsCheckedPackage p → HaveNamesInScope (content p).uses (content p).functions
package_named g m r p h =
    let ss = map source_of h.checked.files in
    let us = map unit_of ss in
    let n = checked_names (texts_of p) h.given h.checked in
    let done : IsComplete (uses us) = (r ss (record { trees = trees_of 0 (texts_of p) h.checked.files h.checked.read; names = n.faultless })).complete in
    let ds = those_of entity.Function (specifications 0 ss) in
    let functions : EachOf HasFunctionTree ds = all_functions g 0 0 (texts_of p) h.checked.files h.checked.read in
    let all : AllHave (HasNamesInScope (uses us)) h.given.functions =
    checked_read (texts_of p) h.given h.checked (HasNamesInScope (uses us)) (λ u e. subst (λ v. EachOf (Gives (package_of ss v) (HasNamesInScope (uses us))) ds) e (all_give m (package_of ss (uses us)) done ds functions)) in
    let same : uses us ≡ (content p).uses = sym n.named ∙ sym h.same.1.uses in
    subst (λ v. HaveNamesInScope v (content p).functions) same (subst (HaveNamesInScope (uses us)) (sym h.same.1.functions) (renamed_names (uses us) h.same.0 h.given.functions all))
