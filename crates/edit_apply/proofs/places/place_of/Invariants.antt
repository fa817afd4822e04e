use Rattle.std.proofs.Common.{◌-◌, ◌≤◌, length}
use Rattle.std.specs.List.{AllWithin}
use Rattle.go_base.specs.Package.{ComesBefore}
use Rattle.edit_apply.proofs.places.place_of.Given as goal

-- the names below `low` come before the name, and those from `high` on behind it
abbrev pub invariant-loop-low : goal.invariant-loop-low
invariant-loop-low l = record {
  ordered : l.low ≤ l.high;
  within : l.high ≤ length l.files;
  before : AllWithin (λ f. ComesBefore f.name l.name) l.files 0 l.low;
  after : AllWithin (λ f. ComesBefore l.name f.name) l.files l.high (length l.files);
}

abbrev pub decreases-loop-low : goal.decreases-loop-low
decreases-loop-low l = l.high - l.low
