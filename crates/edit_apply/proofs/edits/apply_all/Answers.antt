use Rattle.std.proofs.Common.{arith, ◌≡◌, ◌+◌, ◌-◌, ◌<◌, length, sym, ap, subst, ◌∙◌}
use Rattle.std.proofs.lemmas.List.{length-set}
use Rattle.std.proofs.lemmas.Result.{IfOk-weaker}
use Rattle.go_base.specs.Package.{IsPackage}
use Rattle.edit_apply.specs.Applied.{applied, IsInRange}
use Rattle.edit_apply.specs.Begun.{finished}
use Rattle.edit_apply.proofs.Applied.{package_applied}
use Rattle.edit_apply.proofs.Writing.{none_same, none_read, none_before, none_written, written_is, read_step, before_step, written_step, range_at, all_written}
use Rattle.edit_apply.proofs.edits.apply_all.Goals as goal

pub loop-number-init : goal.loop-number-init
loop-number-init c = record {
  same = none_same c.args.files.now c.in_ok-begun.begun.items c.in_ok-begun.ensures;
  read = none_read c.args.files.now c.in_ok-begun.begun.items c.in_ok-begun.ensures;
  before = none_before c.args.files.now c.in_ok-begun.begun.items c.args.edits.now c.in_ok-begun.ensures c.requires.edits;
  written = none_written c.args.files.now c.in_ok-begun.begun.items c.args.edits.now c.in_ok-begun.ensures;
}

pub loop-number-preserved : goal.loop-number-preserved
loop-number-preserved c =
    let files = c.args.files.now in
    let edits = c.args.edits.now in
    let ps = c.loop-number.begun.items in
    let n = c.loop-number.number in
    let e = c.index-edits-number.result in
    let after = c.write.new.self in
    let next : (n - 1) + 1 ≡ n = omega (arith, c.loop-number-test.true) in
    let lt : n - 1 < length edits = omega (arith, c.loop-number-test.true, c.loop-number.auto.number) in
    let range : IsInRange files e = range_at files edits (n - 1) e lt c.index-edits-number.is c.requires.edits in
    let in-ps : e.file < length ps = omega (arith, range.file, c.loop-number.invariant.same) in
    let end-is : after.read ≡ e.end = ap (λ g. g.read) c.in_ok-write.ensures in
    record {
      same = length-set ps e.file after ∙ c.loop-number.invariant.same;
      read = read_step files ps e after in-ps range end-is c.loop-number.invariant.read;
      before = before_step ps edits n (n - 1) e after next lt c.index-edits-number.is in-ps end-is c.requires.edits.descends c.loop-number.invariant.before;
      written =
          written_step files ps edits n (n - 1) e after next lt c.index-edits-number.is in-ps c.requires.edits c.loop-number.invariant.before
          (written_is files ps e after c.index-files-place.result c.index_mut.result.now c.as_slice-bytes.result.now range.file in-ps c.index-files-place.is (c.as_slice-bytes.ensures ∙ ap (λ f. f.bytes) (sym c.index-files-place.is)) c.index_mut.ensures.value c.in_ok-write.ensures)
          c.loop-number.invariant.written;
    }

pub returns-clause-value : goal.returns-clause-value
returns-clause-value c =
    let same : finished c.args.files.now c.loop-number.begun.items ≡ applied c.args.files.now c.args.edits.now = all_written c.args.files.now c.loop-number.begun.items c.args.edits.now c.loop-number.number c.loop-number-test.false c.requires.package c.requires.edits c.loop-number.invariant.same c.loop-number.invariant.written in
    IfOk-weaker c.all_finished.result _ _ (λ after is. is ∙ ap (λ ps. finished c.args.files.now ps) c.deref.ensures.value ∙ same) c.all_finished.ensures

pub returns-clause-package : goal.returns-clause-package
returns-clause-package c =
    let same : finished c.args.files.now c.loop-number.begun.items ≡ applied c.args.files.now c.args.edits.now = all_written c.args.files.now c.loop-number.begun.items c.args.edits.now c.loop-number.number c.loop-number-test.false c.requires.package c.requires.edits c.loop-number.invariant.same c.loop-number.invariant.written in
    IfOk-weaker c.all_finished.result _ _ (λ after is. subst IsPackage (sym (is ∙ ap (λ ps. finished c.args.files.now ps) c.deref.ensures.value ∙ same)) (package_applied c.args.files.now c.args.edits.now c.requires.package c.requires.edits)) c.all_finished.ensures
