use Rattle.std.proofs.Common.{◌∙◌, rules}
use Rattle.go_values.proofs.Appending.{overwritten}
use Rattle.go_values.proofs.lists.overwrite.Goals as goal

pub returns : goal.returns
returns c =
    overwritten c.args.values.now.items c.as_mut_slice.result.now c.swap_with_slice.new.self c.args.new.items c.args.values.now.len c.args.start c.len.result
    c.as_mut_slice.ensures.value (search rules) (c.swap_with_slice.ensures.after ∙ c.as_mut_slice-2.ensures.value) (search rules) c.requires
