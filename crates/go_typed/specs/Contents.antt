-- What a package is apart from the numbers of its types, and packages that differ in the numbers of declared types alone.
use Rattle.std.specs.Prelude.{◌≡◌, ℕ, List, map, Option, Some, slice_get}
use Rattle.go_tree.specs.File.{FileTree}
use Rattle.go_tree.specs.Uses.{UsesView}
use Rattle.go_types.specs.Relations.{Rights}
use Rattle.go_types.specs.Tables.{type_of, rights_of}
use Rattle.go_types.specs.Trees.{TypeTree}
use Rattle.go_types_relations.specs.Renaming.{renamed, IsOneToOne, AreRenamed}
use Rattle.go_typed.specs.declared.form.Referent.{Referent}
use Rattle.go_typed.specs.declared.origin.Origin.{Origin}
use Rattle.go_typed.specs.Funcs.{FuncView, tree_of}
use Rattle.go_typed.specs.Packages.{PackageView}
use Rattle.go_typed.specs.Trees.{Sort, Typed, sort_mapped, mapped}
use Rattle.go_typed.specs.Views.{view}

-- a function over the types themselves
pub record FuncContent : Type 0 where
  pub number : ℕ
  pub signature : TypeTree
  pub parameters : List (Option ℕ)
  pub locals : List (Sort TypeTree)
  pub tokens : List (Option ℕ)
  pub tree : Typed TypeTree

-- a package over the types themselves; declared types are known by numbers still
pub record Content : Type 0 where
  pub names : List (List ℕ)
  pub files : List FileTree
  pub uses : UsesView
  pub rights : Rights
  pub origins : List Origin
  pub objects : List (Sort TypeTree)
  pub referents : List Referent
  pub variables : List (Typed TypeTree)
  pub functions : List FuncContent

abbrev pub func_content : (ℕ → TypeTree) → FuncView → FuncContent
func_content g f = record { number = f.number; signature = g f.signature; parameters = f.parameters; locals = map (sort_mapped g) f.locals; tokens = f.tokens; tree = mapped g (tree_of f) }

abbrev pub content : PackageView → Content
content p =
    let g : ℕ → TypeTree = type_of p.types.shapes in
    record {
      names = p.names;
      files = p.files;
      uses = p.uses;
      rights = rights_of p.types;
      origins = p.origins;
      objects = map (sort_mapped g) p.env.objects;
      referents = p.env.referents;
      variables = map (λ n. mapped g (view n)) p.variables;
      functions = map (func_content g) p.functions;
    }

abbrev pub func_renamed : (ℕ → ℕ) → FuncContent → FuncContent
func_renamed name f = record { number = f.number; signature = renamed name f.signature; parameters = f.parameters; locals = map (sort_mapped (renamed name)) f.locals; tokens = f.tokens; tree = mapped (renamed name) f.tree }

-- The second is the first with other numbers of declared types, each its own. It may have further declared types, which nothing
-- names.
pub record IsRenamed (name : ℕ → ℕ) (c d : Content) : Type 0 where
  pub one_to_one : IsOneToOne name
  pub names : d.names ≡ c.names
  pub files : d.files ≡ c.files
  pub uses : d.uses ≡ c.uses
  pub rights : AreRenamed name c.rights d.rights
  pub origins : (n : ℕ) (o : Origin) → slice_get c.origins n ≡ Some o → slice_get d.origins (name n) ≡ Some o
  pub objects : d.objects ≡ map (sort_mapped (renamed name)) c.objects
  pub referents : d.referents ≡ c.referents
  pub variables : d.variables ≡ map (mapped (renamed name)) c.variables
  pub functions : d.functions ≡ map (func_renamed name) c.functions

-- the two are one package, with some numbers of declared types
abbrev pub IsPackageOf : Content → Content → Type 0
IsPackageOf c d = (name : ℕ → ℕ) × IsRenamed name c d
