use Rattle.std.proofs.Common.{◌∙◌, map, refl, sym, ap, arith}
use Rattle.std.proofs.lemmas.Grind.{common_steps}
use Rattle.param_choose.specs.Choosing.{choice}
use Rattle.param_choose.specs.Handed.{choice_shown}
use Rattle.param_choose.specs.Members.{members_in}
use Rattle.param_choose.specs.Shown.{array_in}
use Rattle.escape_check.specs.Shown.{member_by}
use Rattle.escape_check.proofs.Public.{handed_known}
use Rattle.extract_texts.proofs.Templates.{function_written}
use Rattle.extract_texts.proofs.function.written_function.Goals as goal

pub push_header-requires : goal.push_header-requires
push_header-requires c =
    let p = c.args.checked.now in
    let t = c.args.template.now in
    let i = c.requires.template in
    handed_known p c.types.ensures.stands t.member.window t.member.func.now i.sound.func (members_in p t.windows.now) (choice_shown t.choice) i.choice

pub returns : goal.returns
returns c =
    let p = c.args.checked.now in
    let t = c.args.template.now in
    let i = c.requires.template in
    let h = choice (array_in p.types) (members_in p t.windows.now) (member_by p t.member) in
    let header = c.in_ok-push_header.ensures h i.choice in
    let written = function_written p t c.args.name.now c.args.fresh.now c.args.file.now _ _ c.in_ok-results.results.items i c.requires.file refl refl c.in_ok-results.ensures in
    grind (arith, common_steps, header, written)
