use Rattle.std.proofs.Common.{◌≡◌, ◌++◌, map, drop}
use Rattle.extract_rewrite.specs.Shown.{found_edit}
use Rattle.extract_rewrite.proofs.edits.push_windows.Given as goal

abbrev pub invariant-loop-member : goal.invariant-loop-member
invariant-loop-member l =
    l.fn.edits.items ++ map (found_edit l.checked l.name l.template.windows.now) l.members
    ≡ l.edits.items ++ map (found_edit l.checked l.name l.template.windows.now) (drop l.member-index l.members)
