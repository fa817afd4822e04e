use Rattle.std.proofs.Common.{◌≡◌, ◌<◌, length, [], true, ap, sym, subst, ◌∙◌, arith}
use Rattle.std.proofs.lemmas.Option.{slice_get_within}
use Rattle.go_tree.specs.Uses.{UsesView}
use Rattle.go_declarations.specs.Views.{seen_all}
use Rattle.go_needs.specs.Bounds.{AreBounds}
use Rattle.go_package_defs.specs.Knowledge.{outlines}
use Rattle.go_package_defs.specs.Sources.{rounds}
use Rattle.go_package_stages.specs.declared.marked.Trial.{Trial}
use Rattle.go_package_stages.specs.Numbers.{ranks_in, at_most, types_told}
use Rattle.go_package_stages.specs.Marked.{marks_from}
use Rattle.go_package_stages.proofs.Stages.{outlines_many, IsTried, all_staged, none_above}
use Rattle.go_package_stages.proofs.staged.are_staged.Goals as goal

pub returns : goal.returns
returns c = λ yes p found tells uses stood closed same.
    let x = c.args.numbers.now in
    let ds = seen_all c.args.specifications.now in
    let os = outlines p ds in
    let rs = c.args.reaches.now in
    let in_told = c.as_slice-told.result.now in
    let in_own = c.as_slice-own.result.now in
    let t : Trial = record { uses = c.args.uses; numbers = c.args.numbers; own = c.deref-6.result; told = c.deref-7.result; counted = c.deref-8.result } in
    let level = c.package_objects-objects.ensures.objects ∙ ap (λ (u : UsesView). u.package_level) (sym uses) in
    let counted : length c.package_objects-objects.result.now ≡ length os = ap length level ∙ sym (outlines_many p ds) in
    let yes_told = c.if-not-branch.false in
    let yes_own = c.if-not-branch-2.false in
    let tried : IsTried t os rs in_told in_own =
    record {
      own = c.deref-6.ensures.value ∙ c.in_ok-in_own.ensures ∙ ap (λ ns. marks_from ns rs 0 in_own) c.deref-3.ensures.value;
      told = c.deref-7.ensures.value ∙ c.in_ok-in_told.ensures ∙ ap (λ ns. marks_from ns [] 0 in_told) c.deref-4.ensures.value;
      counted = c.deref-8.ensures.value ∙ c.in_ok-in_lengths.ensures ∙ ap (λ ns. marks_from ns rs 0 in_told) c.deref-5.ensures.value;
      own_bounds = subst (λ ns. AreBounds ns in_own os) c.deref-2.ensures.value (c.in_ok-are_bounds_for-2.ensures.bounds yes_own p tells);
      told_bounds = subst (λ ns. AreBounds ns in_told os) c.deref.ensures.value (c.in_ok-are_bounds_for.ensures.bounds yes_told p tells);
      own_many = c.in_ok-are_bounds_for-2.ensures.many yes_own ∙ counted;
      told_many = c.in_ok-are_bounds_for.ensures.many yes_told ∙ counted;
    } in
    let within = c.if-not-are_within.false in
    let most : c.in-Some.most ≡ rounds p = let sum = c.in-Some.ensures.1 in let size = ap length level in omega (arith, sum, size) in
    let staged = all_staged p os found t uses rs stood closed in_told in_own tried (sym (outlines_many p ds)) same
    (λ n o e. c.are_behind.ensures yes p n o (let l = slice_get_within os n o e in let b : n < length c.package_objects-objects.result.now = omega (arith, l, counted) in b) tells e)
    (subst (λ xs. types_told x 0 0 xs ≡ true) level (c.are_within.ensures.types within)) in
    c.stages_settle.ensures p os found (ranks_in x) (rounds p) staged
    (none_above x (rounds p) (subst (λ k. at_most k x.stands.items ≡ true) most (c.are_within.ensures.stands within)) (subst (λ k. at_most k x.told.items ≡ true) most (c.are_within.ensures.told within))
    (subst (λ k. at_most k x.own.items ≡ true) most (c.are_within.ensures.own within)))
