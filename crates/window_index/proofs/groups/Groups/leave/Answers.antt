use Rattle.std.proofs.Common.{◌≡◌, ◌∙◌, List, rules, ap, sym, filter, map}
use Rattle.std.proofs.lemmas.Fn.{filter_same}
use Rattle.window_index.specs.Buckets.{is_some_left, others_in, without}
use Rattle.window_index.specs.Groups.{rows}
use Rattle.window_index.proofs.Leaving.{without-is}
use Rattle.window_index.proofs.Tables.{kept-rows}
use Rattle.window_index.proofs.groups.Groups.leave.Goals as goal

pub returns : goal.returns
returns c =
    let kept : c.retain.new.self.items ≡ filter (λ v. is_some_left v.items) c.leave_each.new.groups.items =
    filter_same _ (λ v. is_some_left v.items) _ (λ x b q call. search rules) _ _ c.retain.ensures.filtered in
    ap rows kept
    ∙ kept-rows c.leave_each.new.groups.items
    ∙ ap (filter is_some_left) c.leave_each.ensures
    ∙ without-is c.args.func (rows c.self.inside.items.items)
    ∙ ap (without c.args.func) c.self.view_is
