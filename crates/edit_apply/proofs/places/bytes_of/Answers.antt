use Rattle.std.proofs.Common.{sym}
use Rattle.edit_apply.proofs.Lists.{under_at, under_gap, under_small}
use Rattle.edit_apply.proofs.places.bytes_of.Goals as goal

pub returns-in-Ok-clause-value : goal.returns-in-Ok-clause-value
returns-in-Ok-clause-value c = sym (under_at c.args.files.now c.args.name.now c.in-Ok.place c.index-files-place.result c.requires c.in-Ok.ensures.within (c.in-Ok.ensures.named c.index-files-place.result))

pub returns-in-Ok-clause-small : goal.returns-in-Ok-clause-small
returns-in-Ok-clause-small c = under_small c.args.files.now c.args.name.now c.in-Ok.place c.index-files-place.result c.in-Ok.ensures.within

pub returns-in-Err-clause-value : goal.returns-in-Err-clause-value
returns-in-Err-clause-value c = sym (under_gap c.args.files.now c.args.name.now c.in-Err.field-0 c.in-Err.ensures)
