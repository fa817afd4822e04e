use Rattle.std.proofs.Common.{rules, ap, ◌∙◌}
use Rattle.clap.specs.Words.{first_of, rows_of, found_of}
use Rattle.clap.proofs.WalkLemmas.{first_value-rows}
use Rattle.clone_server.proofs.Matched.{all_said_by}
use Rattle.clone_server.proofs.words.said.Goals as goal

pub returns : goal.returns
returns c =
    let rows = rows_of (found_of c.args.matches.now) in
    c.all_said.ensures ∙ all_said_by rows c.number_or-min.result c.number_or-mass.result c.seed_or_none-make.result _ _ _ _ c.number_or-min.ensures c.number_or-mass.ensures c.seed_or_none-make.ensures
    (c.get_str.ensures ∙ first_value-rows (found_of c.args.matches.now) _ ∙ ap (λ id. first_of id rows) (search rules))
    (c.get_str-2.ensures ∙ first_value-rows (found_of c.args.matches.now) _ ∙ ap (λ id. first_of id rows) (search rules))
    (c.get_str-3.ensures ∙ first_value-rows (found_of c.args.matches.now) _ ∙ ap (λ id. first_of id rows) (search rules))
    (c.get_str-4.ensures ∙ first_value-rows (found_of c.args.matches.now) _ ∙ ap (λ id. first_of id rows) (search rules))
