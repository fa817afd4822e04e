use Rattle.std.proofs.Common.{◌≡◌, ◌++◌, map, drop}
use Rattle.std.specs.List.{flat_map}
use Rattle.clone_script.specs.Maximal.{numbered_text}
use Rattle.clone_script.proofs.maximal.push_numbered.Given as goal

abbrev pub invariant-loop-numbered : goal.invariant-loop-numbered
invariant-loop-numbered l =
    l.out.items ++ flat_map (numbered_text (map (λ name. name.now) l.names)) (drop l.numbered-index l.classes)
    ≡ l.fn.out.items ++ flat_map (numbered_text (map (λ name. name.now) l.names)) l.classes
