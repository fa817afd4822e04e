use Rattle.std.proofs.Common.{◌∙◌, ap}
use Rattle.std.proofs.lemmas.Result.{IfOk-weaker}
use Rattle.escape_check.specs.Places.{sources_in}
use Rattle.extract_texts.specs.Fresh.{fresh_names}
use Rattle.extract_texts.proofs.Seen.{function_given}
use Rattle.extract_texts.proofs.function.function_text.Goals as goal

pub returns : goal.returns
returns c =
    IfOk-weaker c.written_function.result _ _
    (λ text h. function_given c.args.checked.now c.args.name.now c.args.template.now c.deref.result.now text c.requires.template (c.deref.ensures.value ∙ c.in_ok-fresh.ensures ∙ ap (fresh_names (sources_in c.args.checked.now) c.args.name.now) (c.len.ensures ∙ c.args.template.now.choice.holes.ok.0)) h)
    c.written_function.ensures
