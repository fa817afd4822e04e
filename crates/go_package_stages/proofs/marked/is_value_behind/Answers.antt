use Rattle.std.proofs.Common.{ap, subst, ◌∙◌, arith}
use Rattle.std.specs.Option.{option_map}
use Rattle.go_tree.specs.Views.{view}
use Rattle.go_declarations.specs.Views.{specification_view}
use Rattle.go_package_stages.specs.Marked.{NamesMarked}
use Rattle.go_package_stages.specs.Numbers.{number_at}
use Rattle.go_package_stages.proofs.marked.is_value_behind.Goals as goal

pub returns : goal.returns
returns c = λ yes.
    let t = c.args.trial.now in
    let d = specification_view c.args.specification.now in
    let n = c.args.number in
    let own = c.number_at-own.ensures ∙ ap (λ ns. number_at ns n) c.deref.ensures.value in
    let stands = c.number_at-stands.ensures ∙ ap (λ ns. number_at ns n) c.deref-2.ensures.value in
    let told = c.number_at-told.ensures ∙ ap (λ ns. number_at ns n) c.deref-3.ensures.value in
    let some = c.if-own-eq0.false in
    let first = c.if-own-stands.false in
    let second = c.if-own-told.false in
    record {
      later = omega (arith, own, some);
      stands = omega (arith, own, stands, first);
      right = omega (arith, own, told, second);
      of = subst (λ k. NamesMarked t d.file k d.type_tree) own (c.are_names_marked.ensures c.if-not-are_names_marked.false);
      value = subst (NamesMarked t d.file (number_at t.numbers.now.own.items n)) c.own_value.ensures (subst (λ k. NamesMarked t d.file k (option_map (λ m. view m.now) c.own_value.result)) own (c.are_names_marked-2.ensures yes));
    }
