use Rattle.std.proofs.Common.{arith, ◌≡◌, ◌+◌, ◌-◌, ◌/◌, ◌<◌, length, sym, ap, ◌∙◌}
use Rattle.std.specs.Ordering.{nat_cmp}
use Rattle.std.specs.Cmp.Lexicographic.{slice_cmp}
use Rattle.std.proofs.lemmas.List.Elements.{at_read}
use Rattle.go_base.specs.Package.{ComesBefore}
use Rattle.edit_apply.proofs.Order.{more_before, more_behind, same_from_equal, behind}
use Rattle.edit_apply.proofs.places.place_of.Goals as goal

pub returns-in-Equal : goal.returns-in-Equal
returns-in-Equal c =
    let lt : c.loop-low.low + (c.loop-low.high - c.loop-low.low) / 2 < length c.args.files.now = omega arith in
    let same = same_from_equal c.index-files-middle.result.name c.args.name.now (ap (λ f. slice_cmp nat_cmp f.name c.args.name.now) c.index-files-middle.is ∙ sym c.cmp.ensures ∙ c.in-Equal.is) in
    record { within = lt; named = at_read c.args.files.now (λ f. f.name ≡ c.args.name.now) _ c.index-files-middle.result lt c.index-files-middle.is same }

pub loop-low-preserved-in-Less : goal.loop-low-preserved-in-Less
loop-low-preserved-in-Less c =
    let lt : c.loop-low.low + (c.loop-low.high - c.loop-low.low) / 2 < length c.args.files.now = omega arith in
    let less : ComesBefore c.index-files-middle.result.name c.args.name.now = ap (λ f. slice_cmp nat_cmp f.name c.args.name.now) c.index-files-middle.is ∙ sym c.cmp.ensures ∙ c.in-Less.is in
    record {
      ordered = omega arith;
      within = c.loop-low.invariant.within;
      before = more_before c.args.files.now c.args.name.now _ c.requires lt (at_read c.args.files.now (λ f. ComesBefore f.name c.args.name.now) _ c.index-files-middle.result lt c.index-files-middle.is less);
      after = c.loop-low.invariant.after;
    }

pub loop-low-preserved : goal.loop-low-preserved
loop-low-preserved c =
    let lt : c.loop-low.low + (c.loop-low.high - c.loop-low.low) / 2 < length c.args.files.now = omega arith in
    let more : ComesBefore c.args.name.now c.index-files-middle.result.name = behind c.index-files-middle.result.name c.args.name.now (ap (λ f. slice_cmp nat_cmp f.name c.args.name.now) c.index-files-middle.is ∙ sym c.cmp.ensures ∙ c.in-Greater.is) in
    record {
      ordered = omega arith;
      within = omega arith;
      before = c.loop-low.invariant.before;
      after = more_behind c.args.files.now c.args.name.now _ c.requires lt (at_read c.args.files.now (λ f. ComesBefore c.args.name.now f.name) _ c.index-files-middle.result lt c.index-files-middle.is more);
    }
