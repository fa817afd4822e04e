use Rattle.go_package_added.specs.Appended.{package_in}
use Rattle.go_package_defs.specs.Answer.{specifications}
use Rattle.go_package_added.proofs.Appending.{as_signature, from_signature, meant_here, one_more, read_here, signed_before}
use Rattle.go_package_added.proofs.Keeping.{keeps_names}
use Rattle.go_package_added.proofs.laws.appended_functions_have_their_answer.Goals as goal

pub returns : goal.returns
returns c k ss us h faultless none =
    let keeps = keeps_names k ss us h faultless none c.appended_functions_keep_the_package.ensures in
    let closed = c.shared_needs_are_closed.ensures.all ss faultless in
    record {
      keeps = keeps;
      answer = λ other s sig x e.
          c.one_more_function_has_its_answer.ensures.after (package_in ss) (package_in us) (specifications 0 ss) (specifications 0 us) keeps.gap
          (one_more k ss us h keeps faultless closed other) s (record { further = (c.faultless_packages_settle.ensures ss faultless).further }) (as_signature k ss us h keeps faultless closed other s sig) x e;
      before = λ other s sig z e.
          c.one_more_function_has_its_answer.ensures.before (package_in ss) (package_in us) (specifications 0 ss) (specifications 0 us) keeps.gap
          (one_more k ss us h keeps faultless closed other) s (record { further = (c.faultless_packages_settle.ensures ss faultless).further }) (as_signature k ss us h keeps faultless closed other s sig) z e;
      signature = λ other test meant objects read s before.
          from_signature k ss us h keeps faultless closed other s
          (c.signatures_follow_from_their_names.ensures (package_in ss) (package_in us) (specifications 0 ss) (specifications 0 us) keeps.gap (one_more k ss us h keeps faultless closed other) test meant
          (meant_here k ss us h keeps faultless closed other test meant objects) (read_here k ss us h keeps faultless closed other test read) s (signed_before k ss us h keeps faultless closed other s meant before));
    }
