use Rattle.std.proofs.Common.{◌≡◌, drop}
use Rattle.go_typed.specs.Views.{sort_view, views}
use Rattle.clone_window.specs.Fields.{field_text}
use Rattle.clone_window.specs.Named.{all_named}
use Rattle.clone_window.proofs.agree.+agree.Given as goal

-- the rows agree where what is left of them does
abbrev pub invariant-all_named-loop-part : goal.invariant-all_named-loop-part
invariant-all_named-loop-part l =
    (all_named (field_text l.types) l.inside l.other_inside (sort_view l.owner) (sort_view l.other_owner) (views l.parts) (views l.others)
    ≡ all_named (field_text l.types) l.inside l.other_inside (sort_view l.owner) (sort_view l.other_owner) (views (drop l.part-index l.parts)) (views (drop l.part-index l.others)))
    × (l.index ≡ l.part-index)
