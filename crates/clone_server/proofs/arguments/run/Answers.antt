use Rattle.std.proofs.Common.{Err, refl}
use Rattle.clone_server.specs.Words.{texts_of, words_of}
use Rattle.clone_server.specs.declared.stop.Stop.TheVariants as stop
use Rattle.clone_server.specs.Arguments.{words_behind_name}
use Rattle.clone_server.proofs.Before.{words_before, ends_before}
use Rattle.clone_server.proofs.arguments.run.Goals as goal

pub returns-in-Err : goal.returns-in-Err
returns-in-Err g c = (
  Err stop.Memory,
  c.from-in-Err.ensures,
  ends_before (words_of (texts_of (words_behind_name c.args.args))),
  (refl, refl, refl, refl),
  λ held before all eh ew el. words_before g.W.Workspace.Answers (words_of (texts_of (words_behind_name c.args.args))) held all before
      (g.F.Folder.held c.args.folder.now) (g.K.Sink.written c.args.out.now) (g.S.Source.left c.args.script.now) (eh, ew, el),
)
