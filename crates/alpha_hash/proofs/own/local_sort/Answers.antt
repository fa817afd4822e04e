use Rattle.std.proofs.Common.{◌∙◌, map, ap, sym}
use Rattle.std.specs.Prelude.{unwrap_or}
use Rattle.std.specs.Option.{option_map}
use Rattle.go_typed.specs.Packages.{is_below}
use Rattle.go_typed.specs.Trees.{Unknown, sort_has}
use Rattle.go_typed.specs.Views.{sort_view}
use Rattle.alpha_hash.specs.Shown.{type_count}
use Rattle.alpha_hash.proofs.Runs.{all-at}
use Rattle.alpha_hash.proofs.own.local_sort.Goals as goal

pub returns-in-Some-clause-sort : goal.returns-in-Some-clause-sort
returns-in-Some-clause-sort c = sym (ap (λ o. unwrap_or o Unknown) (c.sort_there.ensures ∙ ap (option_map (λ s. sort_view s.now)) c.in-Some.is))

pub returns-in-Some-clause-known : goal.returns-in-Some-clause-known
returns-in-Some-clause-known c = λ h.
    all-at (sort_has (is_below (type_count c.args.names))) (map sort_view c.args.names.locals.now) c.args.local (sort_view c.in-Some.sort.now) h (c.sort_there.ensures ∙ ap (option_map (λ s. sort_view s.now)) c.in-Some.is)

pub returns-in-None-clause-sort : goal.returns-in-None-clause-sort
returns-in-None-clause-sort c = c.requires ∙ sym (ap (λ o. unwrap_or o Unknown) (c.sort_there.ensures ∙ ap (option_map (λ s. sort_view s.now)) c.in-None.is))
