use Rattle.std.proofs.Common.{sym, ◌∙◌}
use Rattle.go_package_defs.specs.Answer.{specifications}
use Rattle.go_package_defs.specs.Sources.{package_of}
use Rattle.go_stmts_limits.proofs.Arrays.{AreTold}
use Rattle.go_stmts_limits.proofs.Ordered.{ExpressionsAgree, environment_within, answer_within}
use Rattle.go_stmts_limits.proofs.laws.ordered_objects_are_within_limits.Goals as goal

pub returns : goal.returns
returns c =
    let tells : AreTold = λ rights u n h. (c.functions_are_the_relations.ensures.scalars rights u n).1 h in
    let agree : ExpressionsAgree = λ within s new r h t n g e v. c.expressions_agree.ensures within s new r h t n g e v in
    record {
      found = λ limit p os found ranks a judged rights. environment_within limit tells agree p os found ranks a judged rights;
      answer = λ limit ss u e found ranks a most h judged rights.
          answer_within limit tells agree (package_of ss u) (specifications 0 ss) found ranks e a (sym (c.rounds_settle.ensures.answer ss u found ranks a most) ∙ h) judged rights;
    }
