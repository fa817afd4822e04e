use Rattle.std.proofs.Common.{◌≡◌, Ok, Err, rules, refl, sym, subst}
use Rattle.go_base.specs.Gives.{Gives, Unless}
use Rattle.go_typed.specs.Contents.{content}
use Rattle.go_package_defs.specs.Checked.{names_of}
use Rattle.go_package_types.specs.Answers.{AreLexedFiles}
use Rattle.go_package.specs.Functions.{check_failure}
use Rattle.go_package.specs.Checks.{declared, declarations_answer}
use Rattle.go_package.proofs.FilesRead.{are_files, are_lexed}
use Rattle.go_package.proofs.Following.{behind, files_phases, gives_behind, fails_behind}
use Rattle.go_package.proofs.phases.check_names.Goals as goal

pub check_objects-requires-clause-lexed : goal.check_objects-requires-clause-lexed
check_objects-requires-clause-lexed c = subst (AreLexedFiles 0) (sym c.deref.ensures.value) (are_lexed c.args.texts.now c.args.files.items c.requires.read)

pub check_bodies-requires-clause-files : goal.check_bodies-requires-clause-files
check_bodies-requires-clause-files c = are_files c.args.texts.now c.args.files.items c.requires.read

pub returns : goal.returns
returns c =
    let files = c.args.files.items in
    let ns = names_of c.args.texts.now in
    let d = c.in_ok-uses.field-0 in
    let exact = subst (λ fs. declarations_answer fs ≡ Ok (declared d)) c.deref.ensures.value c.in_ok-uses.ensures.exact in
    subst (Gives content check_failure c.check_bodies.result) (sym (files_phases ns files))
    (gives_behind content (declarations_answer files) (declared d) (behind ns files) c.check_bodies.result exact c.check_bodies.ensures)

pub returns-in_err-uses : goal.returns-in_err-uses
returns-in_err-uses c =
    let files = c.args.files.items in
    let ns = names_of c.args.texts.now in
    let e = c.in_err-uses.field-0.0 in
    let stops = subst (λ fs. Unless (check_failure e) (λ g. declarations_answer fs ≡ Err g)) c.deref.ensures.value c.in_err-uses.ensures.exact in
    subst (Gives content check_failure c.from_residual.result) (sym (files_phases ns files))
    (fails_behind content (declarations_answer files) (behind ns files) (check_failure e) e c.from_residual.result stops refl (search rules))
