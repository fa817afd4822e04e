-- What the program knows of the objects of a package where their rules are judged.
use Rattle.std.specs.Prelude.{◌≡◌, ℕ, Bool, true, List, length, map, Some, slice_get}
use Rattle.go_types.specs.Tables.{Table, rights_of}
use Rattle.go_package_defs.specs.Declarations.{Specification}
use Rattle.go_package_defs.specs.Knowledge.{Outline, State}
use Rattle.go_package_defs.specs.Knowledge as knowledge
use Rattle.go_package_defs.specs.Sources.{Package}
use Rattle.go_package_defs.specs.Verdicts.{is_blocked}
use Rattle.go_needs.specs.Passing.{is_faulty, is_misassigned}
use Rattle.go_package_rounds.specs.declared.world.World.{World}
use Rattle.go_package_rounds.specs.World.{package_in, outlines_in, specifications_in, StandsFor}
use Rattle.go_package_types.specs.declared.faults.Known.{Known}

-- The specifications with the flag need a declaration with a fault.
abbrev pub AreBlocked : Package → List Specification → List Outline → List State → List Bool → Type 0
AreBlocked p ds os ss bs = (n : ℕ) (d : Specification) → slice_get ds n ≡ Some d → slice_get bs n ≡ Some true → is_blocked p os ss d ≡ true

-- It is known of these states: what the objects stand for, and where rules fail.
pub record Tells (t : Table) (w : World) (k : Known) (ss : List State) : Type 0 where
  pub stands : StandsFor t w knowledge.is_sound k.sound.now ss
  pub rights : rights_of t ≡ knowledge.rights_of (package_in w) ss
  pub faulty : k.faulty.now ≡ map is_faulty ss
  pub assigning : k.assigning.now ≡ map is_misassigned ss
  pub blocked : AreBlocked (package_in w) (specifications_in w) (outlines_in w) ss k.blocked.now
  pub as_many : length ss ≡ length w.uses.now.package_level
