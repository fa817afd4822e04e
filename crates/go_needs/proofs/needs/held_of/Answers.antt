use Rattle.std.proofs.Common.{rules, ◌≡◌, ◌∙◌, map, Some, sym, ap}
use Rattle.go_declarations.specs.Views.{seen_all}
use Rattle.go_tree.specs.Declarations.{found}
use Rattle.go_scopes_lookup.specs.Views.{units_view, found_view}
use Rattle.go_needs.specs.Declaring.{KnowsDeclaring, declaring_by}
use Rattle.go_needs.specs.Groups.{group_view, group_by}
use Rattle.go_needs.specs.Objects.{KnowsOwners, owner_by}
use Rattle.go_needs.proofs.Telling.{declared_told}
use Rattle.go_needs.proofs.needs.held_of.Goals as goal

pub returns : goal.returns
returns c p pu pf =
    let u = c.args.uses.now in
    let m = c.in_ok-owned.owned in
    let w = c.in_ok-table.table in
    let ds = seen_all c.args.specifications.now in
    let fs = map found_view c.deref.result.now in
    let same : fs ≡ found (units_view c.args.units.now) = ap (map found_view) c.deref.ensures.value ∙ c.in_ok-all_found.ensures in
    let known : KnowsDeclaring w ds = search rules in
    let owned : KnowsOwners m fs = c.in_ok-owned.ensures in
    let declaring : map Some c.in_ok-declaring.declaring.items ≡ map (declaring_by w) u.package_level = search rules in
    let owners : map Some c.in_ok-owners.owners.items ≡ map (owner_by m w) u.package_level = search rules in
    let groups : map group_view c.in_ok-groups.groups.items ≡ map (group_by u m) ds = search rules in
    declared_told _ p m w ds u fs pu (pf ∙ sym same) known owned declaring owners groups
