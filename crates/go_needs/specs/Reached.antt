-- Whether a declaration needs an object that fails.
use Rattle.std.specs.Prelude.{◌≡◌, ℕ, ◌<◌, Bool, true, List, ◌++◌, length, Option, Some, None, is_some}
use Rattle.std.specs.HashMap.{HashMap}
use Rattle.std.specs.HashMap as hash
use Rattle.std.specs.List.{list_any}
use Rattle.go_tree.specs.Needs.{Needed}
use Rattle.go_package_defs.specs.Sources.{Package, needed_by}
use Rattle.go_needs.specs.declared.calls.Call.{Call}
use Rattle.go_needs.specs.declared.owners.Owner.{Owner}
use Rattle.go_needs.specs.Calls.{calls_of, fits}
use Rattle.go_needs.specs.Levels.{near, fails_at}
use Rattle.go_needs.specs.Owners.{owner_of, has_source}
use Rattle.go_scopes_cycles.specs.Ranks.{Place, same_place}

-- The calls are those in the specifications of `all`, which has those of the objects of the package, os; and each calls for an object.
pub record AreCalls (p : Package) (os all : List Owner) (cs : List Call) : Type 0 where
  pub calls : cs ≡ calls_of p.uses all p.asked
  pub fit : fits p.uses os all p.asked ≡ true
  pub as_many : length os ≡ length p.uses.package_level
  pub others : List Owner
  pub among : all ≡ os ++ others

-- A declaration has a specification of these, or none.
abbrev pub IsOurs : List Owner → ℕ → Option ℕ → Type 0
IsOurs all n None = Unit {0}
IsOurs all n (Some s) = has_source all n s ≡ true

-- The list tells which of so many objects fail.
abbrev pub TellFailing : ℕ → List Bool → (ℕ → Bool) → Type 0
TellFailing k bs f = (n : ℕ) → n < k → fails_at bs n ≡ f n

-- The map has a level where a declaration needs one that fails, at once or through others, and nowhere else.
abbrev pub Reaches : {S : Type 0} → HashMap Place ℕ S → Package → List Owner → (ℕ → Bool) → Type 0
Reaches m p all f = (x : Needed) → IsOurs all x.it.file x.it.it.source → is_some (near (hash.get same_place m) (owner_of x.it) x.full) ≡ list_any f (needed_by p x)
