use Rattle.std.proofs.Common.{◌≡◌, Err, sym, subst}
use Rattle.go_base.specs.Gives.{Unless}
use Rattle.clone_server.specs.declared.words.WordsError.TheVariants as errors
use Rattle.clone_server.specs.Words.{texts_of, words_of, words_refusal}
use Rattle.clone_server.specs.Run.{RunsWords, EndsBy}
use Rattle.clone_server.proofs.Ending.{words_memory, ends_untaken, ends_memory}
use Rattle.clone_server.proofs.serve.run.Goals as goal

pub returns-in-Ok-clause-told : goal.returns-in-Ok-clause-told
returns-in-Ok-clause-told g c held before all eh ew el =
    subst (λ x. RunsWords g.W.Workspace.Answers x held all before c.serve_said.result (g.F.Folder.held c.serve_said.new.folder) (g.K.Sink.written c.serve_said.new.out) (g.S.Source.left c.serve_said.new.script)) (sym c.in-Ok.ensures)
    (c.serve_said.ensures.told held before all eh ew el)

pub returns-in-Err-NotTaken-clause-told : goal.returns-in-Err-NotTaken-clause-told
returns-in-Err-NotTaken-clause-told g c held before all eh ew el =
    let untaken : words_of (texts_of c.args.words.now) ≡ Err errors.NotTaken = subst (λ e. Unless (words_refusal e) (λ f. words_of (texts_of c.args.words.now) ≡ Err f)) c.in-Err-NotTaken.field-0-is c.in-Err-NotTaken.ensures in
    subst (λ x. RunsWords g.W.Workspace.Answers x held all before c.refuse.result (g.F.Folder.held c.args.folder.now) (g.K.Sink.written c.refuse.new.out) (g.S.Source.left c.args.script.now)) (sym untaken)
    (c.refuse.ensures.told before ew, eh, el)

pub returns-in-Err-Memory-clause-told : goal.returns-in-Err-Memory-clause-told
returns-in-Err-Memory-clause-told g c held before all eh ew el =
    words_memory g.W.Workspace.Answers (words_of (texts_of c.args.words.now)) held all before (g.F.Folder.held c.args.folder.now) (g.K.Sink.written c.args.out.now) (g.S.Source.left c.args.script.now) (eh, ew, el)

pub returns-in-Ok-clause-status : goal.returns-in-Ok-clause-status
returns-in-Ok-clause-status g c =
    subst (λ x. EndsBy x c.serve_said.result) (sym c.in-Ok.ensures) c.serve_said.ensures.status

pub returns-in-Err-NotTaken-clause-status : goal.returns-in-Err-NotTaken-clause-status
returns-in-Err-NotTaken-clause-status g c =
    let untaken : words_of (texts_of c.args.words.now) ≡ Err errors.NotTaken = subst (λ e. Unless (words_refusal e) (λ f. words_of (texts_of c.args.words.now) ≡ Err f)) c.in-Err-NotTaken.field-0-is c.in-Err-NotTaken.ensures in
    subst (λ x. EndsBy x c.refuse.result) (sym untaken) (ends_untaken errors.NotTaken c.refuse.result (g.K.Sink.faults c.args.out.now) (g.K.Sink.faults c.refuse.new.out) c.refuse.ensures.status c.refuse.ensures.count)

pub returns-in-Err-Memory-clause-status : goal.returns-in-Err-Memory-clause-status
returns-in-Err-Memory-clause-status g c = ends_memory (words_of (texts_of c.args.words.now))
