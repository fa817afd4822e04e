use Rattle.std.proofs.Common.{◌∙◌, sym, ap}
use Rattle.go_scopes_named.specs.Named.{all_meanings}
use Rattle.escape_check.specs.Places.{sources_in}
use Rattle.escape_check.specs.Shown.{member_view}
use Rattle.escape_check.specs.Types.{means_type}
use Rattle.escape_check.specs.Written.{type_name_view}
use Rattle.escape_check.proofs.AtSites.{hidden_meant, hidden_spelled, meant_by}
use Rattle.escape_check.proofs.site.is_hidden.Goals as goal

pub returns-then-contains : goal.returns-then-contains
returns-then-contains c = λ locals known.
    let x = c.args.name.now in
    c.if-contains.true
    ∙ hidden_spelled (sources_in c.args.checked.now) (member_view c.args.member.now) locals (type_name_view x) (sym (known x.name) ∙ sym c.contains.ensures ∙ c.if-contains.true)

pub returns-else-contains : goal.returns-else-contains
returns-else-contains c = λ locals known.
    let s = sources_in c.args.checked.now in
    let m = member_view c.args.member.now in
    let x = c.args.name.now in
    hidden_meant s m locals (type_name_view x) c.means_type.result (sym (known x.name) ∙ sym c.contains.ensures ∙ c.if-contains.false)
    (c.means_type.ensures ∙ ap (λ o. means_type s o x.number)
    (meant_by s m x.name.now (all_meanings c.args.named.now) c.args.member.now.file c.args.token c.object_at-object.result c.requires.meanings c.requires.sound.file c.requires.start c.object_at-object.ensures))
