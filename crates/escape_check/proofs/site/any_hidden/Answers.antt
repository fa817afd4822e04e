use Rattle.std.proofs.Common.{◌∙◌, Bool, sym, arith}
use Rattle.escape_check.specs.Places.{sources_in}
use Rattle.escape_check.specs.Shown.{member_view}
use Rattle.escape_check.specs.Types.{TypeName, is_hidden}
use Rattle.escape_check.proofs.AtSites.{name_hidden, name_passed, no_names_left}
use Rattle.escape_check.proofs.site.any_hidden.Goals as goal

pub returns-then-is_hidden : goal.returns-then-is_hidden
returns-then-is_hidden c = λ locals known.
    let test : TypeName → Bool = is_hidden (sources_in c.args.checked.now) (member_view c.args.member.now) locals in
    sym (c.loop-name.invariant locals known ∙ name_hidden test c.args.names.now c.loop-name.name-index _ c.loop-name-test.true (sym (c.is_hidden.ensures locals known) ∙ c.if-is_hidden.true))

pub loop-name-preserved : goal.loop-name-preserved
loop-name-preserved c = λ locals known.
    let test : TypeName → Bool = is_hidden (sources_in c.args.checked.now) (member_view c.args.member.now) locals in
    c.loop-name.invariant locals known ∙ name_passed test c.args.names.now c.loop-name.name-index _ c.loop-name-test.true (sym (c.is_hidden.ensures locals known) ∙ c.if-is_hidden.false)

pub returns : goal.returns
returns c = λ locals known.
    let test : TypeName → Bool = is_hidden (sources_in c.args.checked.now) (member_view c.args.member.now) locals in
    sym (c.loop-name.invariant locals known ∙ no_names_left test c.args.names.now c.loop-name.name-index (omega (arith, c.loop-name-test.false)))
