-- How names stand in the declarations of the package block (Go specification: Qualified identifiers, Declarations and scope).
use Rattle.std.specs.Prelude.{◌≡◌, ℕ, ◌<◌, List, [], ◌∷◌, length, Option, Some, None, slice_get}
use Rattle.std.specs.List.{AllByRecursion}
use Rattle.go_grammar.specs.Trees.{Tree}
use Rattle.go_tree.specs.declared.context.Entity.TheVariants as entity
use Rattle.go_typed.specs.declared.form.Referent.TheVariants as referent
use Rattle.go_exprs_rules.specs.Scopes.{Scope, Hint}
use Rattle.go_package_defs.specs.Declarations.{Specification}
use Rattle.go_package_defs.specs.Knowledge.{Outline, outlines, State, referent_at, free_scope}
use Rattle.go_package_defs.specs.Sources.{Package}
use Rattle.go_package_defs.specs.Verdicts.{type_hint, value_hint}
use Rattle.go_stmts_final_types.specs.Names.{alone}
use Rattle.go_stmts_final_types.specs.Placed.{ExpressionIsPlaced}

-- ---- specifications

abbrev pub MaybeStands : ℕ → Scope → Hint → Option Tree → Type 0
MaybeStands count s h None = Unit {0}
MaybeStands count s h (Some t) = ExpressionIsPlaced count [] alone s h t

abbrev pub AllStand : ℕ → Scope → Hint → List Tree → Type 0
AllStand count s h [] = Unit {0}
AllStand count s h (t ∷ ts) = ExpressionIsPlaced count [] alone s h t × AllStand count s h ts

-- the names of a specification's type and of its values
pub record SpecificationStands (count : ℕ) (p : Package) (os : List Outline) (found : List State) (d : Specification) : Type 0 where
  pub of : MaybeStands count (free_scope p os found d) (type_hint d.entity) d.type_tree
  pub values : AllStand count (free_scope p os found d) (value_hint d) d.values

-- Each object of the package is by one of the names of its specification, which declares a variable where the object is one; and the names
-- that stand in specifications stand as they may.
pub record NamesStand (p : Package) (ds : List Specification) (found : List State) : Type 0 where
  pub columns : (n : ℕ) (o : Outline) → slice_get (outlines p ds) n ≡ Some o → o.column < length o.specification.names
  pub variables : (n k : ℕ) (o : Outline) → slice_get (outlines p ds) n ≡ Some o → referent_at p n ≡ referent.Variable k → o.specification.entity ≡ entity.Variable
  pub specifications : AllByRecursion (SpecificationStands (length (outlines p ds)) p (outlines p ds) found) ds
