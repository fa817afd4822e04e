use Rattle.edit_apply.specs.Edited.{file_of}
use Rattle.edit_apply.proofs.AtPlace.{remove_at, remove_gap, package_remove}
use Rattle.edit_apply.proofs.places.removed_place.Goals as goal

pub returns-in-Ok-clause-answer : goal.returns-in-Ok-clause-answer
returns-in-Ok-clause-answer c = remove_at c.args.files.now c.args.name.now c.in-Ok.place (file_of c.args.name.now c.args.name.now) c.requires.ascends c.in-Ok.ensures.within (c.in-Ok.ensures.named _)

pub returns-in-Ok-clause-package : goal.returns-in-Ok-clause-package
returns-in-Ok-clause-package c = package_remove c.args.files.now c.in-Ok.place (file_of c.args.name.now c.args.name.now) c.requires c.in-Ok.ensures.within

pub returns-in-Err-clause-answer : goal.returns-in-Err-clause-answer
returns-in-Err-clause-answer c = remove_gap c.args.files.now c.args.name.now c.in-Err.field-0 c.in-Err.ensures
