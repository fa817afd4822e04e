use Rattle.std.proofs.Common.{true, rules, ap, ◌∙◌}
use Rattle.std.proofs.lemmas.Result.{IfOk-weaker}
use Rattle.clap.specs.Words.{App, app_of}
use Rattle.clap.specs.Simple.{app_of_fields}
use Rattle.clone_server.proofs.Matched.{command_is}
use Rattle.clone_server.proofs.words.command.Goals as goal

pub returns : goal.returns
returns c =
    IfOk-weaker c.arg-4.result _ _ (λ made h.
    command_is (app_of c.no_binary_name-named.result) (app_of c.in_ok-arg.field-0) (app_of c.in_ok-arg-2.field-0) (app_of c.in_ok-arg-3.field-0) (app_of made) _ _ _ _
    (ap app_of_fields c.no_binary_name-named.ensures ∙ ap (λ (a : App). record a { top = record a.top { no_binary_name = true } }) c.new-5.ensures.app)
    (c.in_ok-arg.ensures.shape (search rules)) (c.in_ok-arg-2.ensures.shape (search rules)) (c.in_ok-arg-3.ensures.shape (search rules)) (h.shape (search rules))
    (search rules) (search rules) (search rules) (search rules)) c.arg-4.ensures
