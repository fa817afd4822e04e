-- Functions with their types, with other numbers of declared types.
use Rattle.std.specs.Prelude.{◌≡◌, ℕ, ◌+◌, nat_lt, if◌then◌else◌, Result, Ok, Err}
use Rattle.go_tree.specs.declared.object.Object.{Object}
use Rattle.go_types.specs.Relations.{Rights}
use Rattle.go_typed.specs.Contents.{func_renamed}
use Rattle.go_types_relations.specs.Questions.{entry}
use Rattle.go_types_relations.specs.Renaming.{AreRenamed}
use Rattle.go_package_laws.specs.Reach.{MaybeWithin, StandsWithin}
use Rattle.go_exprs_rules.specs.Scopes.{Needed}
use Rattle.go_exprs_rules.specs.declared.fault.TypeFault.{TypeFault}
use Rattle.go_package_defs.specs.Bodies.{Behind, Surroundings, stands_among}

-- The same function with its types renamed, with the right sides behind it renamed too, or the same fault.
abbrev pub RenamedFunctions : (ℕ → ℕ) → Result Behind TypeFault → Result Behind TypeFault → Type 0
RenamedFunctions name (Ok b) (Ok c) = (c.function ≡ func_renamed name b.function) × AreRenamed name b.rights c.rights
RenamedFunctions name (Err f) (Err g) = g ≡ f
RenamedFunctions name r q = ⊥

-- the numbers from k on moved by m
abbrev pub shifted : ℕ → ℕ → ℕ → ℕ
shifted k m n = if nat_lt n k then n else n + m

-- What surrounds bodies, and the right sides, name declared types below the number k alone.
pub record AreBelow (k : ℕ) (a : Surroundings) (front : Rights) : Type 0 where
  pub objects : (n : Needed) (o : Object) → StandsWithin (λ i. nat_lt i k) (stands_among a.objects n o)
  pub rights : (n : ℕ) → MaybeWithin (λ i. nat_lt i k) (entry front n)
