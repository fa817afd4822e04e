use Rattle.std.proofs.Common.{◌∙◌, slice_get, ap}
use Rattle.go_tree.specs.Uses.{UsesView}
use Rattle.go_typed.specs.Funcs.{tree_of}
use Rattle.param_choose.specs.Ends.{ends_of}
use Rattle.param_choose.specs.Members.{first_token, locals_there}
use Rattle.escape_check.specs.Places.{file_in}
use Rattle.escape_check.proofs.Members.{row_at, shown_by}
use Rattle.escape_check.proofs.member.member_at.Goals as goal

pub returns-clause-shown : goal.returns-clause-shown
returns-clause-shown c =
    let p = c.args.checked.now in
    let f = c.args.func.now in
    let w = c.args.window in
    shown_by p.uses w f.locals f.tokens (tree_of f) _ _ _ _ _
    (c.declared_in.ensures ∙ ap (λ (u : UsesView). locals_there (slice_get u.locals w.func)) c.uses-uses.ensures)
    (c.first_token.ensures ∙ ap first_token c.requires.object)
    c.statements-statements.ensures
    c.first_in.ensures
    c.last_from.ensures

pub returns-clause-sound : goal.returns-clause-sound
returns-clause-sound c =
    let p = c.args.checked.now in
    let f = c.args.func.now in
    let w = c.args.window in
    record {
      func = c.requires.function;
      shown =
          shown_by p.uses w f.locals f.tokens (tree_of f) _ _ _ _ _
          (c.declared_in.ensures ∙ ap (λ (u : UsesView). locals_there (slice_get u.locals w.func)) c.uses-uses.ensures)
          (c.first_token.ensures ∙ ap first_token c.requires.object)
          c.statements-statements.ensures
          c.first_in.ensures
          c.last_from.ensures;
      file = c.file_in.ensures ∙ ap file_in c.requires.object;
      ends = c.ends_at.ensures (ends_of f) (row_at p.functions _ w.func f c.requires.ends c.requires.function);
    }
