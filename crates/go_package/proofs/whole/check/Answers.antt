use Rattle.std.proofs.Common.{ap, ◌∙◌, rules}
use Rattle.go_typed.specs.Contents.{content}
use Rattle.go_package_defs.specs.Checked.{texts_of}
use Rattle.go_package.proofs.FilesRead.{are_few}
use Rattle.go_package.proofs.Following.{later_meets, texts_same, is_checked}
use Rattle.go_package.proofs.whole.check.Goals as goal

pub check_names-requires-clause-few : goal.check_names-requires-clause-few
check_names-requires-clause-few c = are_few c.args.texts.now c.in_ok-files.files.items c.in_ok-files.ensures c.requires.few

pub returns-in_err-checked : goal.returns-in_err-checked
returns-in_err-checked c =
    let e = c.in_err-checked.field-0.0 in
    later_meets c.args.texts.now c.in_ok-files.files.items c.in_ok-files.ensures e c.from_residual-in_err-checked.result _ c.in_err-checked.ensures (search rules)

pub of-requires : goal.of-requires
of-requires c = is_checked c.args.texts.now c.in_ok-files.files.items c.in_ok-files.ensures c.in_ok-checked.checked c.in_ok-checked.ensures c.types.ensures.stands
    (c.packages_under_other_numbers.ensures.itself (content c.in_ok-checked.checked))

pub returns : goal.returns
returns c = ap texts_of c.of.ensures ∙ texts_same c.args.texts.now c.in_ok-files.files.items c.in_ok-files.ensures c.in_ok-checked.checked c.in_ok-checked.ensures
