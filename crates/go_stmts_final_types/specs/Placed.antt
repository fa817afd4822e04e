-- How the names of an expression stand: what they name is declared in front of them (Go specification: Declarations and scope, Qualified
-- identifiers). Nothing is asked of what they stand for.
use Rattle.std.specs.Prelude.{◌≡◌, ℕ, ◌<◌, true, false, ◌++◌, [], ◌∷◌, Option, Some, None, slice_get}
use Rattle.go_grammar.specs.declared.kind.Kind.{Kind}
use Rattle.go_grammar.specs.declared.kind.Kind.TheVariants as kind
use Rattle.go_grammar.specs.Trees.{Tree, node, Trees, none, more, skip, kind_of}
use Rattle.go_tree.specs.declared.object.Object.{Object}
use Rattle.go_tree.specs.declared.object.Object.TheVariants as object
use Rattle.go_types.specs.Relations.{Rights}
use Rattle.go_typed.specs.declared.form.Referent.{Referent}
use Rattle.go_typed.specs.declared.form.Referent.TheVariants as referent
use Rattle.go_exprs_rules.specs.Names.{declared_form}
use Rattle.go_exprs_rules.specs.Scopes.{in_full, Scope, Hint, declares, free}
use Rattle.go_exprs_rules.specs.Sorts.{Stands, is_open}
use Rattle.go_exprs_rules.specs.Tables.{Parts, hint, part_scope}
use Rattle.go_exprs_rules.specs.Typing.{typing}
use Rattle.go_stmts_defs.specs.Frames.{Locals}
use Rattle.go_stmts_final_types.specs.Known.{is_object}
use Rattle.go_stmts_final_types.specs.Names.{Standing, alone, selected, is_fit, KeepsFamily, standing_in}

-- ---- what objects stand for

-- It stands for something known, and a constant is of its type's family.
pub record IsKnownObject (rights : Rights) (x : Stands) : Type 0 where
  pub fit : is_fit alone x ≡ true
  pub family : KeepsFamily rights x

-- So does an object of the package, and a variable has a type.
pub record IsGood (rights : Rights) (r : Referent) (x : Stands) : Type 0 where
  pub known : IsKnownObject rights x
  pub typed : (k : ℕ) → r ≡ referent.Variable k → is_open x ≡ false

-- So do the first objects of the package, so many.
abbrev pub ObjectsAreGood : ℕ → Scope → Type 0
ObjectsAreGood count s = (m : ℕ) → m < count → IsGood s.rights (s.referents m) (s.sorts in_full (object.Package m))

-- ---- one name

-- the local is declared so far
abbrev pub IsDeclared : Locals → ℕ → Type 0
IsDeclared ls n = (x : Stands) × (slice_get ls n ≡ Some (Some x))

-- The locals that are declared so far stand for something known.
abbrev pub LocalsAreGood : Locals → Scope → Type 0
LocalsAreGood ls s = (f n : ℕ) → IsDeclared ls n → IsKnownObject s.rights (s.sorts in_full (object.Local f n))

-- A name that stands so means one of so many objects of the package, a local that is declared, fmt in front of a member that is called, or
-- what needs no declaration.
abbrev pub MayStand : ℕ → Locals → Standing → Option Object → Type 0
MayStand count ls r (Some object.Import) = r ≡ selected
MayStand count ls r (Some (object.Package m)) = m < count
MayStand count ls r (Some (object.Local f n)) = IsDeclared ls n
MayStand count ls r o = Unit {0}

-- One that is declared is none that is declared outside.
abbrev pub NameIsPlaced : ℕ → Locals → Standing → Scope → Hint → ℕ → Type 0
NameIsPlaced count ls r s declares i = is_object (declared_form s (s.objects i)) ≡ false
NameIsPlaced count ls r s free i = Unit {0}
NameIsPlaced count ls r s h i = MayStand count ls r (s.objects i)

abbrev pub NodeIsPlaced : ℕ → Locals → Kind → Standing → Scope → Hint → ℕ → Type 0
NodeIsPlaced count ls kind.Name r s h i = NameIsPlaced count ls r s h i
NodeIsPlaced count ls k r s h i = Unit {0}

-- ---- the names of an expression

abbrev mutual
  pub ExpressionIsPlaced : ℕ → Locals → Standing → Scope → Hint → Tree → Type 0
  ExpressionIsPlaced count ls r s h (node k i j ps) = NodeIsPlaced count ls k r s h i × ExpressionsArePlaced count ls r s k h ps [] ps

  pub ExpressionsArePlaced : ℕ → Locals → Standing → Scope → Kind → Hint → Trees → Parts → Trees → Type 0
  ExpressionsArePlaced count ls r s k h all xs none = Unit {0}
  ExpressionsArePlaced count ls r s k h all xs (more p ps) =
      ExpressionIsPlaced count ls (standing_in r k xs (kind_of p)) (part_scope s k xs) (hint s k h all xs (kind_of p)) p
      × ExpressionsArePlaced count ls r s k h all (xs ++ Some (typing (part_scope s k xs) (hint s k h all xs (kind_of p)) p) ∷ []) ps
  ExpressionsArePlaced count ls r s k h all xs (skip ps) = ExpressionsArePlaced count ls r s k h all (xs ++ None ∷ []) ps
