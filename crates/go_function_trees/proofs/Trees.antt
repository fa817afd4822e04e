-- The functions of a package that type-checks have trees.
use Rattle.std.proofs.Common.{◌≡◌, ◌∙◌, ℕ, suc, ◌+◌, ◌-◌, ◌≤◌, List, [], ◌∷◌, length, map, Some, None, slice_get, refl, sym, ap, subst, arith}
use Rattle.std.specs.List.{AllByRecursion}
use Rattle.go_base.specs.declared.bytes.FileText.{FileText}
use Rattle.go_base.specs.Package.{most_bytes, total_bytes}
use Rattle.go_tokens.specs.Tokens.{kinds}
use Rattle.go_tokens.specs.declared.token.TokenKind.{TokenKind}
use Rattle.go_grammar.specs.declared.kind.Category.{Category}
use Rattle.go_grammar.specs.declared.kind.Category.TheVariants as categories
use Rattle.go_grammar.specs.Grammar.{Derives}
use Rattle.go_grammar.specs.Trees.{Tree, first, last}
use Rattle.go_tree.specs.declared.context.Entity.TheVariants as entity
use Rattle.go_tree.specs.declared.object.Declared.{Declared}
use Rattle.go_tree.specs.Faults.{reported}
use Rattle.go_tree.specs.File.{FileTree}
use Rattle.go_tree.specs.Units as names
use Rattle.go_tree.specs.Uses.{UsesView, functions_among, uses}
use Rattle.go_tree.specs.Views.{view}
use Rattle.go_types_relations.specs.Renaming.{renamed}
use Rattle.go_typed.specs.Contents.{FuncContent, content, func_renamed}
use Rattle.go_typed.specs.Lists.{statement_lists}
use Rattle.go_typed.specs.Packages.{PackageView}
use Rattle.go_typed.specs.Trees.{mapped}
use Rattle.go_scopes.specs.Numbering.{spot_of, function_spots, AreFiles}
use Rattle.go_scopes.specs.Resolve as resolve
use Rattle.go_stmts_defs.specs.Bodies.{based}
use Rattle.go_stmts_defs.specs.Reading.{reading}
use Rattle.go_package_defs.specs.Answer.{specifications}
use Rattle.go_package_defs.specs.Bodies.{those_of}
use Rattle.go_package_defs.specs.Checked.{IsCheckedPackage, texts_of}
use Rattle.go_package_defs.specs.Declarations.{Specification}
use Rattle.go_package_defs.specs.Sources.{source_of, unit_of}
use Rattle.go_stmts_final_types.specs.Shapes.{IsShaped}
use Rattle.go_function_trees.specs.Functions.{HasTree}
use Rattle.go_function_trees.specs.Lists.{Faultless, tree_in, found_in, ListStands}
use Rattle.go_function_trees.proofs.Files.{InFile, all-in-files, all-named, are-files, spot}
use Rattle.go_function_trees.proofs.Functions.{FunctionRead, FunctionAt, HasFunctions, MappedAt, all-at, checked-functions, function-at, map-at, mapped-at}
use Rattle.go_function_trees.proofs.Functions as functions
use Rattle.go_function_trees.proofs.Read.{reading-lists}
use Rattle.go_function_trees.proofs.Standing.{IsDeclared, SubtreesStand, declaration-derives, list-stands, lists-each}
use Rattle.go_function_trees.proofs.Stood.{Stood}

-- in a package without faults functions are numbered as they stand
abbrev pub AreNumbered : Type 0
AreNumbered = (fs : List FileTree) → AreFiles fs → reported (resolve.units_of fs) ≡ None → map spot_of (functions_among (uses (resolve.units_of fs)).package_level) ≡ function_spots 0 fs

-- a derivation has the kinds that its grammar gives it
abbrev pub AreShaped : Type 0
AreShaped = (ts : List TokenKind) (c : Category) (b : ℕ) (t : Tree) → Derives ts c t → IsShaped c (based b t)

units-same : (fs : List FileTree) → map unit_of (map source_of fs) ≡ resolve.units_of fs
units-same [] = refl
units-same (f ∷ fs) = ap (λ us. unit_of (source_of f) ∷ us) (units-same fs)

have-tree : (all : List FileTree) (d : Specification) → InFile all d → functions.HasTree d
have-tree all d h = (h.tree, h.is)

each-tree : (all : List FileTree) (ds : List Specification) → AllByRecursion (InFile all) ds → AllByRecursion functions.HasTree ds
each-tree all [] h = tt
each-tree all (d ∷ ds) h = (have-tree all d h.0, each-tree all ds h.1)

same-tree : (d : Specification) (s t : Tree) → d.tree ≡ Some s → d.tree ≡ Some t → s ≡ t
same-tree d s t e f = cc

same-spots : (x y : Declared) (a b : ℕ) → spot_of x ≡ (a, b) → (x.file ≡ a) × (x.name ≡ b)
same-spots x y a b e = (ap (λ (p : ℕ × ℕ). p.0) e, ap (λ (p : ℕ × ℕ). p.1) e)

module _ (numbered : AreNumbered) (stand : SubtreesStand) (shaped : AreShaped) (p : PackageView) (h : IsCheckedPackage p) (small : total_bytes (texts_of p) ≤ most_bytes) where
  abbrev texts : List FileText
  texts = texts_of p

  abbrev files : List FileTree
  files = h.checked.files

  abbrev ds : List Specification
  ds = those_of entity.Function (specifications 0 (map source_of files))

  inside : AllByRecursion (InFile files) ds
  inside = all-in-files files 0 texts files h.checked.read (λ k g e. let i : 0 + k ≡ k = omega arith in ap (slice_get files) i ∙ e)

  read : HasFunctions texts h.given h.checked
  read = checked-functions texts h.given h.checked (each-tree files ds inside)

  -- the function of this number is named where the package has it
  named-there : map spot_of (functions_among (content p).uses.package_level) ≡ map spot ds
  named-there =
      let us : List names.Unit = map unit_of (map source_of files) in
      let same : us ≡ resolve.units_of files = units-same files in
      let law : map spot_of (functions_among (uses us).package_level) ≡ function_spots 0 files =
      ap (λ vs. map spot_of (functions_among (uses vs).package_level)) same ∙ numbered files (are-files 0 texts files h.checked.read small) (ap reported (sym same) ∙ read.faultless) in
      let named : (content p).uses ≡ uses us = h.same.1.uses ∙ read.named in
      ap (λ (u : UsesView). map spot_of (functions_among u.package_level)) named ∙ (law ∙ sym (all-named 0 texts files h.checked.read))

  module _ (n : ℕ) (f : FuncContent) (e : slice_get (content p).functions n ≡ Some f) where
    abbrev name : ℕ → ℕ
    name = h.same.0

    old : MappedAt (func_renamed name) h.given.functions n f
    old = mapped-at (func_renamed name) h.given.functions n f (ap (λ fs. slice_get fs n) (sym h.same.1.functions) ∙ e)

    at : FunctionAt ds n old.it
    at = function-at ds h.given.functions n old.it read.read old.there

    abbrev d : Specification
    d = at.it

    abbrev it : FunctionRead d old.it
    it = at.read

    abbrev where_is : InFile files d
    where_is = all-at (InFile files) ds n d inside at.there

    there : MappedAt spot_of (functions_among (content p).uses.package_level) n (spot d)
    there = mapped-at spot_of (functions_among (content p).uses.package_level) n (spot d) (ap (λ xs. slice_get xs n) named-there ∙ map-at spot ds n d at.there)

    abbrev t : Tree
    t = where_is.tree

    abbrev root : Tree
    root = view where_is.file.root

    is-declared : IsDeclared root t
    is-declared = record { tokens = kinds where_is.file.tokens.tokens; derives = where_is.derived.derives; part = where_is.part; at_path = where_is.at_path; asked = where_is.asked }

    tree-same : it.tree ≡ t
    tree-same = same-tree d it.tree t it.is where_is.is

    -- where the declaration begins
    based-same : based d.first it.tree ≡ based (first t) t
    based-same = ap (based d.first) tree-same ∙ ap (λ b. based b t) (sym where_is.begins)

    pub has-tree : HasTree (content p) n f
    has-tree =
        let s = there in
        let spots : ((s.it).file ≡ d.file) × ((s.it).name ≡ suc d.first) = same-spots s.it s.it d.file (suc d.first) (sym s.is) in
        let held : (content p).files ≡ files = h.same.1.files ∙ read.files in
        let begins : first t ≡ d.first = where_is.begins in
        let tree : f.tree ≡ mapped (renamed name) (old.it).tree = ap (λ (x : FuncContent). x.tree) old.is in
        let tokens : f.tokens ≡ (old.it).tokens = ap (λ (x : FuncContent). x.tokens) old.is in
        let w = shaped is-declared.tokens categories.Declaration (first t) t (declaration-derives stand root t is-declared name) in
        let faultless = subst (λ q. Faultless (found_in (reading it.frame it.hint q))) based-same it.faultless in
        let lists = reading-lists categories.Declaration it.frame it.hint (based (first t) t) w faultless in
        let whole : (old.it).tree ≡ tree_in (reading it.frame it.hint (based (first t) t)) = it.read ∙ ap (λ q. tree_in (reading it.frame it.hint q)) based-same in
        let each = lists-each (Stood categories.Declaration (based (first t) t)) (ListStands root (first t)) (renamed name) (λ g i j l ps u. list-stands stand root t is-declared name g i j l ps u) (tree_in (reading it.frame it.hint (based (first t) t))) lists in
        let mine : f.tree ≡ mapped (renamed name) (tree_in (reading it.frame it.hint (based (first t) t))) = tree ∙ ap (mapped (renamed name)) whole in
        record {
          declared = s.it;
          there = s.there;
          file = where_is.file;
          in_file = ap (λ fs. slice_get fs (s.it).file) held ∙ (ap (slice_get files) spots.0 ∙ where_is.there);
          derived = where_is.derived;
          part = where_is.part;
          declaration = t;
          at_path = where_is.at_path;
          is_function = where_is.is_function;
          begins = ap suc begins ∙ sym spots.1;
          ends = ap length tokens ∙ (it.long ∙ (ap (λ q. last q - d.first) tree-same ∙ ap (λ b. last t - b) (sym begins)));
          name = name;
          read = record { frame = it.frame; hint = it.hint; is = mine; faultless = faultless };
          lists = λ k l u. all-at (ListStands root (first t)) (statement_lists f.tree) k l (subst (λ x. AllByRecursion (ListStands root (first t)) (statement_lists x)) (sym mine) each) u;
        }
