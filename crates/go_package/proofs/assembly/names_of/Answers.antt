use Rattle.go_package.proofs.FilesRead.{names_step}
use Rattle.go_package.proofs.assembly.names_of.Goals as goal

pub loop-text-preserved : goal.loop-text-preserved
loop-text-preserved c =
    let x = c.text-item.result in
    names_step c.args.texts.now c.loop-text.text-index x _ c.loop-text-test.true c.text-item.is c.loop-text.names.items c.push.new.self.items _ c.in_ok-copied.field-0 c.in_ok-copied.ensures c.in_ok-push.ensures.items
    c.loop-text.invariant
