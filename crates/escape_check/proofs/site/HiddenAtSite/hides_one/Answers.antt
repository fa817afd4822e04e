use Rattle.std.proofs.Common.{◌≡◌, ◌∙◌, Some, map, rules, sym, ap}
use Rattle.std.specs.HashMap.{get}
use Rattle.std.specs.Option.{option_map}
use Rattle.escape_check.specs.Collecting.{names_of_type}
use Rattle.escape_check.specs.Places.{local_text, sources_in}
use Rattle.escape_check.specs.Shown.{member_view}
use Rattle.escape_check.specs.Stretches.{same_pair}
use Rattle.escape_check.proofs.Hiding.{hidden_known, hidden_there}
use Rattle.escape_check.proofs.site.HiddenAtSite.hides_one.Goals as goal

pub returns-in-Some-get : goal.returns-in-Some-get
returns-in-Some-get c = λ locals known.
    let p = c.args.checked.now in
    let m = member_view c.args.member.now in
    let file = c.args.member.now.file in
    let of = c.args.of in
    let there : get same_pair c.args.self.now.hidden.now (file, of) ≡ Some c.in-Some-get.names.now = sym c.get.ensures.value ∙ ap (option_map (λ b. b.now)) c.in-Some-get.is in
    c.hides.ensures p file (names_of_type p of) (map (local_text (sources_in p) m) locals) (hidden_known p c.args.self.now.hidden.now file of c.in-Some-get.names.now there c.requires.knows.hidden) known
    ∙ hidden_there p m locals file c.in-Some.token (names_of_type p of) c.requires.sound.file (search rules)

pub returns : goal.returns
returns c = λ locals known.
    let p = c.args.checked.now in
    let m = member_view c.args.member.now in
    let file = c.args.member.now.file in
    let of = c.args.of in
    c.hides-2.ensures p file (names_of_type p of) (map (local_text (sources_in p) m) locals) c.in_ok-names.ensures known
    ∙ hidden_there p m locals file c.in-Some.token (names_of_type p of) c.requires.sound.file (search rules)
