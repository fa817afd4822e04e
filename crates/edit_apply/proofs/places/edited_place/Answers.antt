use Rattle.std.proofs.Common.{◌≡◌, Ok, Err, sym, ap, subst, ◌∙◌}
use Rattle.std.proofs.lemmas.Result.{err_from_is_err_and}
use Rattle.go_base.specs.Gives.{Unless, ◌>>=◌}
use Rattle.go_base.proofs.Public.{gives_stop}
use Rattle.edit_apply.specs.Edited.{with_bytes}
use Rattle.edit_apply.specs.Answers.{edit_refusal, bytes_answer}
use Rattle.edit_apply.proofs.AtPlace.{edit_found, edit_gap, package_found}
use Rattle.edit_apply.proofs.places.edited_place.Goals as goal

pub returns-in_default-clause-answer : goal.returns-in_default-clause-answer
returns-in_default-clause-answer c = edit_gap c.args.files.now c.args.name.now c.args.start c.args.end c.args.new.now c.in_default.field-0 c.in_default.ensures

pub returns-in_err-bytes-clause-answer : goal.returns-in_err-bytes-clause-answer
returns-in_err-bytes-clause-answer c =
    let p = err_from_is_err_and c.from_residual.result c.from_residual.ensures.1 in
    let found = edit_found c.args.files.now c.args.name.now c.args.start c.args.end c.args.new.now c.in-Ok.place c.index-files-place.result c.as_slice-bytes.result.now c.count_bytes-total.result c.requires c.in-Ok.ensures c.as_slice-bytes.ensures c.count_bytes-total.ensures in
    let stop = gives_stop edit_refusal c.in_err-bytes.field-0.0 (bytes_answer c.as_slice-bytes.result.now c.count_bytes-total.result c.args.start c.args.end c.args.new.now) (λ b. Ok (with_bytes c.args.files.now c.in-Ok.place b)) c.in_err-bytes.ensures in
    rw (p.1, p.2) (subst (λ a. Unless (edit_refusal c.in_err-bytes.field-0.0) (λ r. a ≡ Err r)) (sym found) stop)

pub returns-clause-answer : goal.returns-clause-answer
returns-clause-answer c =
    edit_found c.args.files.now c.args.name.now c.args.start c.args.end c.args.new.now c.in-Ok.place c.index-files-place.result c.as_slice-bytes.result.now c.count_bytes-total.result c.requires c.in-Ok.ensures c.as_slice-bytes.ensures c.count_bytes-total.ensures
    ∙ ap (λ r. r >>= λ b. Ok (with_bytes c.args.files.now c.in-Ok.place b)) c.in_ok-bytes.ensures

pub returns-clause-package : goal.returns-clause-package
returns-clause-package c =
    package_found c.args.files.now c.args.start c.args.end c.args.new.now c.in-Ok.place c.index-files-place.result c.as_slice-bytes.result.now c.count_bytes-total.result _ c.requires c.in-Ok.ensures.within c.as_slice-bytes.ensures c.count_bytes-total.ensures c.in_ok-bytes.ensures
