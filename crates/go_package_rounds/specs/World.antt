-- A package as its declarations are judged, and what the program knows of it after some rounds.
use Rattle.std.specs.Prelude.{◌≡◌, ℕ, ◌<◌, Bool, List, [], length, map, Some, None, slice_get}
use Rattle.go_tree.specs.declared.object.Object.{Object}
use Rattle.go_types.specs.Trees.{declared}
use Rattle.go_types.specs.Tables.{Table, type_of, rights_of}
use Rattle.go_typed.specs.Packages.{referents}
use Rattle.go_exprs_rules.specs.Scopes.{Needed}
use Rattle.go_exprs_rules.specs.Seen.{AreBasics}
use Rattle.go_exprs_types.specs.declared.standing.Standing.{Standing}
use Rattle.go_exprs_types.specs.Naming.{told_seen, sort_of_object, KnownStanding}
use Rattle.go_package_defs.specs.Answer as answers
use Rattle.go_package_defs.specs.Declarations.{Specification}
use Rattle.go_package_defs.specs.Knowledge.{Outline, State, outlines, stands_where}
use Rattle.go_package_defs.specs.Knowledge as knowledge
use Rattle.go_package_defs.specs.Sources.{Package, package_of, source_of, text_at}
use Rattle.go_declarations.specs.declared.specification.Specification as program
use Rattle.go_declarations.specs.Reads.{SpecificationRead}
use Rattle.go_declarations.specs.Views.{specification_view, seen_all}
use Rattle.go_needs.specs.Tells.{TellsNeeds}
use Rattle.go_package_rounds.specs.declared.held.Held.{Held}
use Rattle.go_package_rounds.specs.declared.world.World.{World}
use Rattle.go_package_rounds.specs.Held.{all_seen, summary, AllHeld}

abbrev pub package_in : World → Package
package_in w = package_of (map source_of w.files.now) w.uses.now

abbrev pub specifications_in : World → List Specification
specifications_in w = seen_all w.specifications.now

abbrev pub outlines_in : World → List Outline
outlines_in w = outlines (package_in w) (specifications_in w)

-- The declared types of the package are these, by their numbers.
abbrev pub AreNamed : Table → List ℕ → Type 0
AreNamed t is = (k i : ℕ) → slice_get is k ≡ Some i → (i < length t.shapes) × (type_of t.shapes i ≡ declared k)

-- What is held of the package is about it: what its objects need and their numbers by sort, its declared types, and the types that
-- rules give. The literals of its specifications may be read.
pub record Fits (t : Table) (w : World) : Type 0 where
  pub needs : TellsNeeds w.needs.now (package_in w) (specifications_in w)
  pub env : w.env.now ≡ record { objects = []; referents = referents w.uses.now.package_level }
  pub named : AreNamed t w.named.now
  pub basics : AreBasics t w.basics
  pub literals : (k : ℕ) (s : program.Specification) → slice_get w.specifications.now k ≡ Some s → SpecificationRead (text_at (package_in w) s.file) (specification_view s)

-- These states are held, and the table has their right sides.
pub record Shows (t : Table) (w : World) (hs : List Held) (ss : List State) : Type 0 where
  pub states : all_seen t hs ≡ map summary ss
  pub rights : rights_of t ≡ knowledge.rights_of (package_in w) ss
  pub as_many : length ss ≡ length w.uses.now.package_level

-- The objects stand for what they do in the scopes where they pass the test.
abbrev pub StandsFor : Table → World → (State → Bool) → List Standing → List State → Type 0
StandsFor t w test xs ss = (need : Needed) (o : Object) → sort_of_object (told_seen t xs need) [] [] o ≡ stands_where test (outlines_in w) ss need o

abbrev pub KnownStandings : ℕ → List Standing → Type 0
KnownStandings n xs = (k : ℕ) (x : Standing) → slice_get xs k ≡ Some x → KnownStanding n x
