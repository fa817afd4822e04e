use Rattle.std.proofs.Common.{◌≡◌, Ok, Err, true, length, sym, ap, subst, ◌∙◌}
use Rattle.std.specs.List.{insert}
use Rattle.std.proofs.lemmas.Result.{err_from_is_err_and}
use Rattle.go_base.specs.Gives.{Unless, ◌>>=◌}
use Rattle.go_base.proofs.Public.{gives_stop}
use Rattle.go_base.specs.Name.{is_go_file_name}
use Rattle.go_base.specs.Package.{total_bytes}
use Rattle.go_base.specs.declared.bytes.FileText.{FileText}
use Rattle.edit_apply.specs.Edited.{file_of}
use Rattle.edit_apply.specs.Answers.{edit_refusal, file_answer}
use Rattle.edit_apply.proofs.AtPlace.{add_held, add_found, package_insert}
use Rattle.edit_apply.proofs.places.added_place.Goals as goal

pub returns-in_default-clause-answer : goal.returns-in_default-clause-answer
returns-in_default-clause-answer c =
    let form : is_go_file_name c.args.name.now ≡ true = cc (c.is_go_file.ensures.test, c.if-not-is_go_file.false) in
    add_held c.args.files.now c.args.name.now c.args.bytes.now c.in_default.field-0 (file_of c.args.name.now c.args.bytes.now) form c.requires.ascends c.in_default.ensures

pub returns-in_err-file-clause-answer : goal.returns-in_err-file-clause-answer
returns-in_err-file-clause-answer c =
    let form : is_go_file_name c.args.name.now ≡ true = cc (c.is_go_file.ensures.test, c.if-not-is_go_file.false) in
    let p = err_from_is_err_and c.from_residual.result c.from_residual.ensures.1 in
    let found = add_found c.args.files.now c.args.name.now c.args.bytes.now c.in-Err.place form c.in-Err.ensures in
    let stop = gives_stop edit_refusal c.in_err-file.field-0.0 (file_answer (length c.args.files.now) (total_bytes c.args.files.now) c.args.name.now c.args.bytes.now) (λ (f : FileText). Ok (insert c.args.files.now c.in-Err.place f)) c.in_err-file.ensures in
    rw (p.1, p.2) (subst (λ a. Unless (edit_refusal c.in_err-file.field-0.0) (λ r. a ≡ Err r)) (sym found) stop)

pub returns-clause-answer : goal.returns-clause-answer
returns-clause-answer c =
    let form : is_go_file_name c.args.name.now ≡ true = cc (c.is_go_file.ensures.test, c.if-not-is_go_file.false) in
    add_found c.args.files.now c.args.name.now c.args.bytes.now c.in-Err.place form c.in-Err.ensures
    ∙ ap (λ r. r >>= λ f. Ok (insert c.args.files.now c.in-Err.place f)) c.in_ok-file.ensures

pub returns-clause-package : goal.returns-clause-package
returns-clause-package c = package_insert c.args.files.now c.args.name.now c.args.bytes.now c.in_ok-file.file c.in-Err.place c.requires c.in-Err.ensures c.in_ok-file.ensures
