use Rattle.std.proofs.Common.{◌≡◌, ◌+◌, ◌++◌, ◌∷◌, ◌∙◌, suc, sym, ap, drop, drop-cons, add-one}
use Rattle.std.specs.Option.{option_map}
use Rattle.go_tree.specs.Failures.{of_files}
use Rattle.go_tree.specs.Branches.{statements}
use Rattle.go_base.specs.declared.fault.FaultCode.TheVariants as code
use Rattle.go_scopes.specs.Noted.{noted}
use Rattle.go_scopes_lookup.specs.Views.{place_of, units_view}
use Rattle.go_scopes.specs.Views.{failure_of}
use Rattle.go_scopes.proofs.Statements.{first_found, none_found}
use Rattle.go_scopes.proofs.branches.limit.Goals as goal

pub returns-in-Ok : goal.returns-in-Ok
returns-in-Ok c =
    let us = c.args.units.now in
    let n = c.loop-file.file in
    let u = c.index-units-file.result in
    let here : drop n us ≡ u ∷ drop (suc n) us = drop-cons us n u c.loop-file-test.true ∙ ap (λ x. x ∷ drop (suc n) us) (sym c.index-units-file.is) in
    c.note.ensures ∙ ap (λ ss. noted (option_map failure_of c.args.found) code.Limit ss)
    (first_found (drop 65536 (of_files statements 0 (units_view us))) (of_files statements n (units_view (drop n us))) (statements n u.tokens.now u.events.items) (of_files statements (suc n) (units_view (drop (suc n) us)))
    c.loop-file.left (place_of c.in-Ok.span) (ap (λ l. of_files statements n (units_view l)) here) c.in-Ok.ensures.there c.loop-file.invariant)

pub loop-file-preserved : goal.loop-file-preserved
loop-file-preserved c =
    let us = c.args.units.now in
    let n = c.loop-file.file in
    let u = c.index-units-file.result in
    let here : drop n us ≡ u ∷ drop (n + 1) us = drop-cons us n u c.loop-file-test.true ∙ ap (λ x. x ∷ drop (suc n) us) (sym c.index-units-file.is) ∙ ap (λ k. u ∷ drop k us) (sym (add-one n)) in
    none_found (drop 65536 (of_files statements 0 (units_view us))) (of_files statements n (units_view (drop n us))) (statements n u.tokens.now u.events.items) (of_files statements (n + 1) (units_view (drop (n + 1) us)))
    c.loop-file.left c.in-Err.rest (ap (λ l. of_files statements n (units_view l)) here ∙ ap (λ k. statements n u.tokens.now u.events.items ++ of_files statements k (units_view (drop (n + 1) us))) (sym (add-one n))) c.in-Err.ensures.left c.loop-file.invariant
