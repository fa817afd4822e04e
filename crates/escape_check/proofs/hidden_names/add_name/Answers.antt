use Rattle.std.proofs.Common.{◌∙◌, ◌++◌, ap}
use Rattle.std.proofs.lemmas.Result.{on_ok_weaker}
use Rattle.go_scopes_named.specs.Named.{all_meanings}
use Rattle.escape_check.specs.Stretches.{means_other, stretches_from}
use Rattle.escape_check.specs.Written.{type_name_view}
use Rattle.escape_check.proofs.Hiding.{name_told}
use Rattle.escape_check.proofs.hidden_names.add_name.Goals as goal

pub returns : goal.returns
returns c = λ t l.
    let p = c.args.checked.now in
    let x = type_name_view c.args.name.now in
    let old = c.args.stretches.now.items in
    on_ok_weaker c.add_between.result
    (λ e. name_told p c.args.file x (all_meanings c.args.named.now) c.in_ok-changes.changes.items old c.add_between.new.stretches.items t c.requires.meanings c.in_ok-changes.ensures.order c.in_ok-changes.ensures.changes l
    (e ∙ ap (λ bs. old ++ stretches_from (λ u. means_other p c.args.file u x) 0 bs) c.deref.ensures.value))
    c.add_between.ensures
