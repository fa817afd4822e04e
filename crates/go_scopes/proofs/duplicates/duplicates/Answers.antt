use Rattle.std.proofs.Common.{[]}
use Rattle.std.specs.Option.{option_map}
use Rattle.go_base.specs.declared.fault.FaultCode.TheVariants as code
use Rattle.go_tree.specs.Failures.{of_files}
use Rattle.go_tree.specs.Duplicates.{second_members, second_defaults}
use Rattle.go_scopes_lookup.specs.Views.{units_view}
use Rattle.go_scopes.specs.Views.{failure_of}
use Rattle.go_scopes.proofs.Least.{noted_more}
use Rattle.go_scopes.proofs.duplicates.duplicates.Goals as goal

pub returns : goal.returns
returns c =
    let us = units_view c.args.units.now in
    noted_more (option_map failure_of c.args.found) (option_map failure_of c.in_ok-members.members) (option_map failure_of c.in_ok-note_files.field-0) code.Duplicate (of_files (second_members []) 0 us) (of_files second_defaults 0 us) c.in_ok-members.ensures c.in_ok-note_files.ensures
