use Rattle.std.proofs.Common.{arith}
use Rattle.std.proofs.lemmas.Grind.{common_steps}
use Rattle.escape_check.specs.Shown.{member_view}
use Rattle.extract_texts.proofs.Rows.{header_told}
use Rattle.extract_texts.proofs.header.push_header.Goals as goal

pub returns : goal.returns
returns c = λ h same.
    let t = c.args.template.now in
    let told = header_told c.args.checked.now c.args.name.now c.args.fresh.now (member_view t.member) t.choice h same in
    grind (arith, common_steps, told)
