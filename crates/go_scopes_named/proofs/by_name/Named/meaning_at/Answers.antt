use Rattle.std.proofs.Common.{◌∙◌, sym}
use Rattle.go_scopes_events.proofs.Public.{meaning_reached}
use Rattle.go_scopes_named.specs.Named.{all_meanings}
use Rattle.go_scopes_named.proofs.by_name.Named.meaning_at.Goals as goal

pub returns : goal.returns
returns c =
    let n = c.args.file in
    c.reached.ensures ∙ sym (meaning_reached n c.args.token c.args.name.now (all_meanings c.args.self.now) (c.requires.nested n))
