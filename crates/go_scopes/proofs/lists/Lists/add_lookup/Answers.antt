use Rattle.std.proofs.Common.{◌∙◌, sym}
use Rattle.std.proofs.lemmas.Result.{on_ok_weaker}
use Rattle.go_tree.specs.Units.{word}
use Rattle.go_scopes.proofs.HiddenNames.{knows_lookup, knows_use}
use Rattle.go_scopes.proofs.lists.Lists.add_lookup.Goals as goal

pub returns-in-None : goal.returns-in-None
returns-in-None c es known = knows_lookup c.args.self.now (word c.args.tokens.now) es c.args.lookup.now (sym c.list_around.ensures ∙ c.in-None.is) known

pub returns-in-Some : goal.returns-in-Some
returns-in-Some c es known =
    on_ok_weaker c.add_use.result
    (λ adds. knows_use c.args.self.now c.add_use.new.self (word c.args.tokens.now) es c.in-Some.list c.word.result known c.args.lookup.now (sym c.list_around.ensures ∙ c.in-Some.is) c.word.ensures adds)
    c.add_use.ensures
