use Rattle.std.proofs.Common.{◌≡◌, ◌∙◌, None, subst}
use Rattle.std.specs.Option.{option_map}
use Rattle.go_scopes_lookup.specs.Views.{meaning_view}
use Rattle.go_scopes_named.specs.Named.{all_meanings}
use Rattle.go_scopes_named.specs.Segments.{AreRising, said}
use Rattle.go_scopes_named.proofs.ByName.{inmost_named}
use Rattle.go_scopes_named.proofs.by_name.Named.local_at.Goals as goal

pub returns-in-None : goal.returns-in-None
returns-in-None c = c.in-None.ensures.says c.args.token ∙ inmost_named c.args.file c.args.token c.args.name.now None (all_meanings c.args.self.now)

pub returns-in-Some : goal.returns-in-Some
returns-in-Some c =
    let told = subst (λ l. AreRising l → option_map meaning_view c.said.result ≡ said c.args.token l) c.deref.ensures.value c.said.ensures in
    told c.in-Some.ensures.rising
    ∙ c.in-Some.ensures.says c.args.token
    ∙ inmost_named c.args.file c.args.token c.args.name.now None (all_meanings c.args.self.now)
