-- What the specifications of a package with trees tell.
use Rattle.std.proofs.Common.{◌≡◌, ◌∙◌, ℕ, List, map, Option, Some, sym, ap}
use Rattle.std.specs.Prelude.{slice_get}
use Rattle.std.specs.Option.{option_map}
use Rattle.std.proofs.lemmas.Option.{slice_get-map}
use Rattle.go_tree.specs.declared.object.Declared.{Declared}
use Rattle.go_tree.specs.Declarations.{Found, declarations, found}
use Rattle.go_tree.specs.Units as names
use Rattle.go_tree.specs.Uses.{declared_by, uses}
use Rattle.go_package_defs.specs.Answer.{specifications}
use Rattle.go_package_defs.specs.Declarations.{Specification}
use Rattle.go_package_defs.specs.Knowledge.{Outline, is_type, outline_by, declaring, outlines}
use Rattle.go_package_defs.specs.Sources.{Source, Package, package_of, unit_of}
use Rattle.go_package_settled.specs.Resolved.{package_declarations, declared_in, NeedsAreNamed, SpecificationsTell}
use Rattle.go_package_settled.proofs.Columns.{IsDeclaredBy, declared_by_one}
use Rattle.go_package_settled.proofs.Reading.{AreOrderedFiles, Read}
use Rattle.go_package_settled.proofs.Resolving.{IsShared, level_is, new_in, shared_at}

module _ (order : AreOrderedFiles) (ss : List Source) (r : Read ss) where
  abbrev us : List names.Unit
  us = map unit_of ss

  abbrev p : Package
  p = package_of ss (uses us)

  abbrev specs : List Specification
  specs = specifications 0 ss

  abbrev os : List Outline
  os = outlines p specs

  abbrev made : Declared → Outline
  made x = outline_by p x (declaring specs x.file x.name)

  level_at : (n : ℕ) (d : Found) → declared_in us n ≡ Some d → slice_get p.uses.package_level n ≡ Some (declared_by d)
  level_at n d e =
      ap (λ xs. slice_get xs n) (level_is (declarations us)) ∙ slice_get-map declared_by (package_declarations (declarations us)) n ∙ ap (option_map declared_by) e

  outline_at : (n : ℕ) (o : Outline) (d : Found) → slice_get os n ≡ Some o → declared_in us n ≡ Some d → o ≡ made (declared_by d)
  outline_at n o d e f = same_outline o (made (declared_by d)) (sym e ∙ slice_get-map made p.uses.package_level n ∙ ap (option_map made) (level_at n d f))
    where
      same_outline : (a b : Outline) → ◌≡◌ {A = Option Outline} (Some a) (Some b) → a ≡ b
      same_outline a b q = cc

  one : (n : ℕ) (d : Found) → declared_in us n ≡ Some d → IsDeclaredBy ss d
  one n d e =
      let s : IsShared (declarations us) d = shared_at (declarations us) n d e in
      declared_by_one order ss r d (new_in (found us) (found us) d s.among) s.block

  pub specifications_tell : NeedsAreNamed p os (declared_in us) → SpecificationsTell p os (declared_in us)
  specifications_tell h = record {
    column = λ n o d e f. ap (λ (z : Outline). z.column) (outline_at n o d e f) ∙ (one n d f).column;
    entity = λ n o d e f. ap (λ (z : Outline). is_type z.specification.entity) (outline_at n o d e f) ∙ (one n d f).entity;
    needs = h;
  }
