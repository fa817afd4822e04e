use Rattle.go_package_added.specs.Appended.{package_in}
use Rattle.go_package_defs.specs.Answer.{specifications}
use Rattle.go_package_added.proofs.Appending.{as_signature, one_more}
use Rattle.go_package_added.proofs.Reporting.{keeps_faults}
use Rattle.go_package_added.proofs.laws.appended_functions_keep_the_fault_of_declarations.Goals as goal

pub returns : goal.returns
returns c k ss us h keeps faultless bytes other s sig =
    let stay = c.shared_needs_are_closed.ensures in
    let closed = stay.all ss faultless in
    c.one_more_function_has_its_fault.ensures (package_in ss) (package_in us) (specifications 0 ss) (specifications 0 us) keeps.gap (one_more k ss us h keeps faultless closed other) s
    (keeps_faults k ss us h keeps faultless (λ ts t f. c.files_are_orderly.ensures ts t f) (λ m t d. stay.token ss (c.shared_declarations_need_no_locals.ensures ss faultless) m t d) bytes closed other)
    (record { further = (c.faultless_packages_settle.ensures ss faultless).further }) (as_signature k ss us h keeps faultless closed other s sig)
