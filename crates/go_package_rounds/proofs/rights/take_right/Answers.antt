use Rattle.std.proofs.Common.{◌≡◌, ◌++◌, ◌∷◌, length, refl, ap, sym, ◌∙◌}
use Rattle.std.specs.Option.{option_map}
use Rattle.std.proofs.lemmas.Result.{on_ok_weaker}
use Rattle.go_types.specs.Tables.{type_of}
use Rattle.go_stmts_defs.specs.Frames.{placed}
use Rattle.go_package_rounds.proofs.Judged.{right_known}
use Rattle.go_package_rounds.proofs.RightSides.{placed_between}
use Rattle.go_package_rounds.proofs.rights.take_right.Goals as goal

pub returns-then-same_right-clause-rights : goal.returns-then-same_right-clause-rights
returns-then-same_right-clause-rights c = λ before after is e. e ∙ ap (λ o. before ++ option_map (type_of c.args.types.now.shapes) o ∷ after) (c.if-same_right.ensures refl)

pub give_right-requires-clause-right : goal.give_right-requires-clause-right
give_right-requires-clause-right c = right_known (length c.args.types.now.shapes) c.args.new c.requires.right

pub returns-in-None-clause-rights : goal.returns-in-None-clause-rights
returns-in-None-clause-rights c = λ before after is e.
    let f = option_map (type_of c.args.types.now.shapes) in
    on_ok_weaker c.give_right.result (λ h. h ∙ ap (placed (length before) (f c.args.new)) e ∙ placed_between (f c.args.new) (f c.args.old) before after) (c.give_right.ensures.rights (length before) is)
