use Rattle.std.proofs.Common.{◌∙◌, Bool, Some, sym, ap, arith}
use Rattle.std.proofs.lemmas.List.{drop_all}
use Rattle.std.specs.List.{list_any}
use Rattle.go_tokens.specs.Spellings.{same_text}
use Rattle.go_tree.specs.declared.object.Declared.{Declared}
use Rattle.escape_check.specs.Places.{name_text, sources_in}
use Rattle.escape_check.proofs.types.is_declared_in_package.Goals as goal

pub returns : goal.returns
returns c =
    let test : Declared → Bool = λ d. same_text (name_text (sources_in c.args.checked.now) (Some d)) c.args.name.now in
    sym (c.loop-declared.invariant ∙ ap (list_any test) (drop_all c.loop-declared.declared-index _ (omega (arith, c.loop-declared-test.false))))
