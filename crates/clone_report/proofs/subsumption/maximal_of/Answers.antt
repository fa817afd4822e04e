use Rattle.std.proofs.Common.{◌≡◌, List, ◌++◌, ◌∙◌, ap, sym, subst}
use Rattle.std.specs.Prelude.{not}
use Rattle.std.specs.List.{list_any}
use Rattle.go_typed.specs.declared.window.Class.{Class}
use Rattle.go_typed.specs.declared.window.Window.{Window}
use Rattle.clone_classes.specs.Classes.{Among}
use Rattle.clone_classes.specs.Listing.{members_of}
use Rattle.clone_report.specs.Maximal.{is_subsumed_by}
use Rattle.clone_report.proofs.Steps.{among-members, maximal-next}
use Rattle.clone_report.proofs.Subsumed.{if-maximal}
use Rattle.clone_report.proofs.subsumption.maximal_of.Goals as goal

pub loop-index-preserved : goal.loop-index-preserved
loop-index-preserved c =
    let cs = c.args.classes.now in
    let all = members_of cs in
    let i = c.loop-index.index in
    let x = c.index-classes-index.result in
    let ws = c.as_slice.result.now in
    let b = c.is_subsumed-subsumed.result in
    let out = c.loop-index.maximal.items in
    let same : ws ≡ x.members = c.as_slice.ensures ∙ ap (λ (y : Class). y.members) (sym c.index-classes-index.is) in
    let there = subst (λ (vs : List Window). Among all vs) (sym same) (among-members cs i x c.loop-index-test.true c.index-classes-index.is) in
    maximal-next all cs i x b out c.push_unless.new.out.items c.loop-index-test.true c.index-classes-index.is c.loop-index.invariant
    (c.is_subsumed-subsumed.ensures all there c.requires c.in_ok-numbers.ensures ∙ ap (λ vs. list_any (is_subsumed_by vs) all) same)
    (c.in_ok-push_unless.ensures ∙ ap (λ n. out ++ if-maximal (not b) n) c.in_ok-number.ensures)
