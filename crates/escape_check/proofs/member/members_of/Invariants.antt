use Rattle.std.proofs.Common.{◌≡◌, ◌++◌, map, drop}
use Rattle.std.specs.List.{AllByRecursion}
use Rattle.param_choose.specs.Members.{members_in}
use Rattle.escape_check.specs.Shown.{IsSound, member_view, unnumbered}
use Rattle.escape_check.proofs.member.members_of.Given as goal

abbrev pub invariant-loop-window : goal.invariant-loop-window
invariant-loop-window l = record {
  members : map unnumbered (members_in l.checked l.windows) ≡ map member_view l.members.items ++ map unnumbered (members_in l.checked (drop l.window-index l.windows));
  sound : AllByRecursion (IsSound l.checked) l.members.items;
}
