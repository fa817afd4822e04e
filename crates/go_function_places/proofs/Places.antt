-- The functions of a package that type-checks have places.
use Rattle.std.proofs.Common.{◌≡◌, ◌∙◌, ℕ, ◌+◌, ◌≤◌, List, [], ◌∷◌, map, None, slice_get, refl, sym, ap, subst, arith}
use Rattle.std.specs.List.{AllByRecursion}
use Rattle.go_base.specs.declared.bytes.FileText.{FileText}
use Rattle.go_base.specs.Package.{most_bytes, total_bytes}
use Rattle.go_tree.specs.declared.context.Entity.TheVariants as entity
use Rattle.go_tree.specs.Faults.{reported}
use Rattle.go_tree.specs.File.{FileTree}
use Rattle.go_tree.specs.Units as names
use Rattle.go_tree.specs.Uses.{UsesView, functions_among, uses}
use Rattle.go_types_relations.specs.Renaming.{renamed}
use Rattle.go_typed.specs.Contents.{FuncContent, content, func_renamed}
use Rattle.go_typed.specs.Packages.{PackageView}
use Rattle.go_typed.specs.Trees.{mapped}
use Rattle.go_scopes.specs.Numbering.{spot_of, function_spots, AreFiles}
use Rattle.go_scopes.specs.Resolve as resolve
use Rattle.go_package_defs.specs.Answer.{specifications}
use Rattle.go_package_defs.specs.Bodies.{those_of}
use Rattle.go_package_defs.specs.Checked.{IsCheckedPackage, texts_of}
use Rattle.go_package_defs.specs.Declarations.{Specification}
use Rattle.go_package_defs.specs.Sources.{source_of, unit_of}
use Rattle.go_function_places.specs.Places.{HavePlaces, HaveStatements, StandsIn}
use Rattle.go_function_places.proofs.Files.{all-named, all-nodes, all-stand, are-files, place_of, places_of}
use Rattle.go_function_places.proofs.Functions.{AreGood, checked-functions, good-mapped, lists-stand, size_of}

-- in a package without faults functions are numbered as they stand
abbrev pub AreNumbered : Type 0
AreNumbered = (fs : List FileTree) → AreFiles fs → reported (resolve.units_of fs) ≡ None → map spot_of (functions_among (uses (resolve.units_of fs)).package_level) ≡ function_spots 0 fs

units-same : (fs : List FileTree) → map unit_of (map source_of fs) ≡ resolve.units_of fs
units-same [] = refl
units-same (f ∷ fs) = ap (λ us. unit_of (source_of f) ∷ us) (units-same fs)

have-statements : (name : ℕ → ℕ) (ds : List Specification) (fs : List FuncContent) → AreGood ds fs → HaveStatements (map place_of ds) (map (func_renamed name) fs)
have-statements name [] [] h = tt
have-statements name [] (f ∷ fs) h = absurd h
have-statements name (d ∷ ds) [] h = absurd h
have-statements name (d ∷ ds) (f ∷ fs) h = (lists-stand (size_of d) (mapped (renamed name) f.tree) (good-mapped (renamed name) (size_of d) f.tree h.0), have-statements name ds fs h.1)

pub have-places : AreNumbered → (p : PackageView) → IsCheckedPackage p → total_bytes (texts_of p) ≤ most_bytes → HavePlaces (content p)
have-places law p h small =
    let texts : List FileText = texts_of p in
    let files : List FileTree = h.checked.files in
    let read = h.checked.read in
    let ds = specifications 0 (map source_of files) in
    let f = checked-functions texts h.given h.checked (all-nodes 0 texts files read) in
    let us : List names.Unit = map unit_of (map source_of files) in
    let same : us ≡ resolve.units_of files = units-same files in
    let numbered : map spot_of (functions_among (uses us).package_level) ≡ function_spots 0 files =
    ap (λ vs. map spot_of (functions_among (uses vs).package_level)) same ∙ law files (are-files 0 texts files read small) (ap reported (sym same) ∙ f.faultless) in
    let named : (content p).uses ≡ uses us = h.same.1.uses ∙ f.named in
    let held : (content p).files ≡ files = h.same.1.files ∙ f.files in
    let stand = all-stand files 0 texts files read (λ k g e. let i : 0 + k ≡ k = omega arith in ap (slice_get files) i ∙ e) in
    record {
      places = places_of ds;
      named = all-named 0 texts files read ∙ sym numbered ∙ ap (λ (u : UsesView). map spot_of (functions_among u.package_level)) (sym named);
      stand = subst (λ fs. AllByRecursion (StandsIn fs) (places_of ds)) (sym held) stand.stand;
      order = stand.order;
      statements = subst (HaveStatements (places_of ds)) (sym h.same.1.functions) (have-statements h.same.0 (those_of entity.Function ds) h.given.functions f.good);
    }
