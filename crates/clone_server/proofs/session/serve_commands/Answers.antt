use Rattle.std.proofs.Common.{◌++◌, Ok, Err, refl, sym, subst, ◌∙◌, arith}
use Rattle.std.proofs.lemmas.Result.{err_from_is_err_and}
use Rattle.clone_server.specs.Taking.{Taken, IsWithin, Comes}
use Rattle.clone_server.specs.Serving.{Serves}
use Rattle.clone_server.proofs.Standing.{Stands, stands_first, stands_more, stops_within, stands_end, stands_still}
use Rattle.clone_server.proofs.session.serve_commands.Goals as goal

pub loop-intake-init : goal.loop-intake-init
loop-intake-init g c = record {
  reading = refl;
  chosen = refl;
  settings = refl;
  writing = refl;
  reads = refl;
  writes = refl;
  within = subst IsWithin (sym c.new-intake.ensures) (omega arith, omega arith);
  told = λ held dir before all eh ec ew el.
      subst (λ (t : Taken). Stands (g.W.Workspace.Answers (g.W.Workspace.settings c.args.workspace.now)) dir (record { files = g.W.Workspace.files c.args.workspace.now; held = held }) all before t (g.W.Workspace.files c.args.workspace.now) (g.F.Folder.held c.args.folder.now) (g.K.Sink.written c.args.out.now) (g.S.Source.left c.args.script.now)) (sym c.new-intake.ensures)
      (stands_first (g.W.Workspace.Answers (g.W.Workspace.settings c.args.workspace.now)) dir (g.W.Workspace.files c.args.workspace.now) held all before (g.F.Folder.held c.args.folder.now) (g.K.Sink.written c.args.out.now) (g.S.Source.left c.args.script.now) eh ew el);
}

pub returns-in_err-command-clause-told : goal.returns-in_err-command-clause-told
returns-in_err-command-clause-told g c held dir before all eh ec ew el =
    let p = err_from_is_err_and c.from_residual.result c.from_residual.ensures.1 in
    let s = c.loop-intake.invariant.told held dir before all eh ec ew el in
    rw (p.1, p.2) (stands_still (g.W.Workspace.Answers (g.W.Workspace.settings c.args.workspace.now)) dir (record { files = g.W.Workspace.files c.args.workspace.now; held = held }) all before c.loop-intake.intake (g.W.Workspace.files c.loop-intake.workspace) (g.F.Folder.held c.loop-intake.folder) (g.K.Sink.written c.loop-intake.out) (g.S.Source.left c.loop-intake.script) s c.in_err-command.field-0.0 c.next.new.self (g.S.Source.left c.next.new.script) (g.W.Workspace.files c.loop-intake.workspace) c.next.ensures.within.1
    (c.in_err-command.ensures.told s.reached.rest s.left_is))

pub returns-in_err-serve_command-in-Command-clause-told : goal.returns-in_err-serve_command-in-Command-clause-told
returns-in_err-serve_command-in-Command-clause-told g c held dir before all eh ec ew el =
    let p = err_from_is_err_and c.from_residual-in_err-serve_command-in-Command.result c.from_residual-in_err-serve_command-in-Command.ensures.1 in
    let s = c.loop-intake.invariant.told held dir before all eh ec ew el in
    rw (p.1, p.2) (stops_within (g.W.Workspace.Answers (g.W.Workspace.settings c.args.workspace.now)) dir (record { files = g.W.Workspace.files c.args.workspace.now; held = held }) all before c.loop-intake.intake (g.W.Workspace.files c.loop-intake.workspace) (g.F.Folder.held c.loop-intake.folder) (g.K.Sink.written c.loop-intake.out) (g.S.Source.left c.loop-intake.script) s c.in-Command.command c.next.new.self (g.S.Source.left c.next.new.script) c.in_err-serve_command-in-Command.field-0.0 (g.W.Workspace.files c.serve_command.new.workspace) (g.F.Folder.held c.serve_command.new.folder) (g.K.Sink.written c.serve_command.new.out)
    (subst (λ x. Comes c.loop-intake.intake s.reached.rest (Ok x) c.next.new.self (g.S.Source.left c.next.new.script)) c.in-Command.is (c.in_ok-command.ensures.told s.reached.rest s.left_is)) c.next.ensures.within.1
    (subst (λ z. Serves (g.W.Workspace.Answers z) dir (record { files = g.W.Workspace.files c.loop-intake.workspace; held = s.held }) c.in-Command.command (before ++ s.bytes) (Err c.in_err-serve_command-in-Command.field-0.0) (g.W.Workspace.files c.serve_command.new.workspace) (g.F.Folder.held c.serve_command.new.folder) (g.K.Sink.written c.serve_command.new.out)) c.loop-intake.invariant.settings
    (c.in_err-serve_command-in-Command.ensures.told s.held dir (before ++ s.bytes) s.held_is (c.loop-intake.invariant.chosen ∙ ec) s.written_is)))

pub returns-in-End-clause-told : goal.returns-in-End-clause-told
returns-in-End-clause-told g c held dir before all eh ec ew el =
    let s = c.loop-intake.invariant.told held dir before all eh ec ew el in
    stands_end (g.W.Workspace.Answers (g.W.Workspace.settings c.args.workspace.now)) dir (record { files = g.W.Workspace.files c.args.workspace.now; held = held }) all before c.loop-intake.intake (g.W.Workspace.files c.loop-intake.workspace) (g.F.Folder.held c.loop-intake.folder) (g.K.Sink.written c.loop-intake.out) (g.S.Source.left c.loop-intake.script) s c.in-End.end c.next.new.self (g.S.Source.left c.next.new.script) (g.W.Workspace.files c.loop-intake.workspace) c.loop-intake.invariant.within.1 (subst (λ x. Comes c.loop-intake.intake s.reached.rest (Ok x) c.next.new.self (g.S.Source.left c.next.new.script)) c.in-End.is (c.in_ok-command.ensures.told s.reached.rest s.left_is))

pub loop-intake-preserved-in_ok-serve_command-in-Command : goal.loop-intake-preserved-in_ok-serve_command-in-Command
loop-intake-preserved-in_ok-serve_command-in-Command g c = record {
  reading = c.in_ok-serve_command-in-Command.ensures.reading ∙ c.loop-intake.invariant.reading;
  chosen = c.in_ok-serve_command-in-Command.ensures.chosen ∙ c.loop-intake.invariant.chosen;
  settings = c.in_ok-serve_command-in-Command.ensures.settings ∙ c.loop-intake.invariant.settings;
  writing = c.in_ok-serve_command-in-Command.ensures.counts.0 ∙ c.loop-intake.invariant.writing;
  reads = c.in_ok-command.ensures.count ∙ c.loop-intake.invariant.reads;
  writes = c.in_ok-serve_command-in-Command.ensures.counts.1 ∙ c.loop-intake.invariant.writes;
  within = c.next.ensures.within;
  told = λ held dir before all eh ec ew el.
      let s = c.loop-intake.invariant.told held dir before all eh ec ew el in
      stands_more (g.W.Workspace.Answers (g.W.Workspace.settings c.args.workspace.now)) dir (record { files = g.W.Workspace.files c.args.workspace.now; held = held }) all before c.loop-intake.intake (g.W.Workspace.files c.loop-intake.workspace) (g.F.Folder.held c.loop-intake.folder) (g.K.Sink.written c.loop-intake.out) (g.S.Source.left c.loop-intake.script) s c.in-Command.command c.next.new.self (g.S.Source.left c.next.new.script) (g.W.Workspace.files c.serve_command.new.workspace) (g.F.Folder.held c.serve_command.new.folder) (g.K.Sink.written c.serve_command.new.out)
      (subst (λ x. Comes c.loop-intake.intake s.reached.rest (Ok x) c.next.new.self (g.S.Source.left c.next.new.script)) c.in-Command.is (c.in_ok-command.ensures.told s.reached.rest s.left_is)) c.next.ensures.within.1
      (subst (λ z. Serves (g.W.Workspace.Answers z) dir (record { files = g.W.Workspace.files c.loop-intake.workspace; held = s.held }) c.in-Command.command (before ++ s.bytes) (Ok tt) (g.W.Workspace.files c.serve_command.new.workspace) (g.F.Folder.held c.serve_command.new.folder) (g.K.Sink.written c.serve_command.new.out)) c.loop-intake.invariant.settings
      (c.in_ok-serve_command-in-Command.ensures.told s.held dir (before ++ s.bytes) s.held_is (c.loop-intake.invariant.chosen ∙ ec) s.written_is));
}

pub loop-intake-preserved-in_ok-serve_command-in-Command-2 : goal.loop-intake-preserved-in_ok-serve_command-in-Command-2
loop-intake-preserved-in_ok-serve_command-in-Command-2 g c = record {
  reading = c.in_ok-serve_command-in-Command.ensures.reading ∙ c.loop-intake.invariant.reading;
  chosen = c.in_ok-serve_command-in-Command.ensures.chosen ∙ c.loop-intake.invariant.chosen;
  settings = c.in_ok-serve_command-in-Command.ensures.settings ∙ c.loop-intake.invariant.settings;
  writing = c.in_ok-serve_command-in-Command.ensures.counts.0 ∙ c.loop-intake.invariant.writing;
  reads = c.in_ok-command.ensures.count ∙ c.loop-intake.invariant.reads;
  writes = c.in_ok-serve_command-in-Command.ensures.counts.1 ∙ c.loop-intake.invariant.writes;
  within = c.next.ensures.within;
  told = λ held dir before all eh ec ew el.
      let s = c.loop-intake.invariant.told held dir before all eh ec ew el in
      stands_more (g.W.Workspace.Answers (g.W.Workspace.settings c.args.workspace.now)) dir (record { files = g.W.Workspace.files c.args.workspace.now; held = held }) all before c.loop-intake.intake (g.W.Workspace.files c.loop-intake.workspace) (g.F.Folder.held c.loop-intake.folder) (g.K.Sink.written c.loop-intake.out) (g.S.Source.left c.loop-intake.script) s c.in-Command.command c.next.new.self (g.S.Source.left c.next.new.script) (g.W.Workspace.files c.serve_command.new.workspace) (g.F.Folder.held c.serve_command.new.folder) (g.K.Sink.written c.serve_command.new.out)
      (subst (λ x. Comes c.loop-intake.intake s.reached.rest (Ok x) c.next.new.self (g.S.Source.left c.next.new.script)) c.in-Command.is (c.in_ok-command.ensures.told s.reached.rest s.left_is)) c.next.ensures.within.1
      (subst (λ z. Serves (g.W.Workspace.Answers z) dir (record { files = g.W.Workspace.files c.loop-intake.workspace; held = s.held }) c.in-Command.command (before ++ s.bytes) (Ok tt) (g.W.Workspace.files c.serve_command.new.workspace) (g.F.Folder.held c.serve_command.new.folder) (g.K.Sink.written c.serve_command.new.out)) c.loop-intake.invariant.settings
      (c.in_ok-serve_command-in-Command.ensures.told s.held dir (before ++ s.bytes) s.held_is (c.loop-intake.invariant.chosen ∙ ec) s.written_is));
}

pub loop-intake-preserved-in_ok-serve_command-in-Command-3 : goal.loop-intake-preserved-in_ok-serve_command-in-Command-3
loop-intake-preserved-in_ok-serve_command-in-Command-3 g c = record {
  reading = c.in_ok-serve_command-in-Command.ensures.reading ∙ c.loop-intake.invariant.reading;
  chosen = c.in_ok-serve_command-in-Command.ensures.chosen ∙ c.loop-intake.invariant.chosen;
  settings = c.in_ok-serve_command-in-Command.ensures.settings ∙ c.loop-intake.invariant.settings;
  writing = c.in_ok-serve_command-in-Command.ensures.counts.0 ∙ c.loop-intake.invariant.writing;
  reads = c.in_ok-command.ensures.count ∙ c.loop-intake.invariant.reads;
  writes = c.in_ok-serve_command-in-Command.ensures.counts.1 ∙ c.loop-intake.invariant.writes;
  within = c.next.ensures.within;
  told = λ held dir before all eh ec ew el.
      let s = c.loop-intake.invariant.told held dir before all eh ec ew el in
      stands_more (g.W.Workspace.Answers (g.W.Workspace.settings c.args.workspace.now)) dir (record { files = g.W.Workspace.files c.args.workspace.now; held = held }) all before c.loop-intake.intake (g.W.Workspace.files c.loop-intake.workspace) (g.F.Folder.held c.loop-intake.folder) (g.K.Sink.written c.loop-intake.out) (g.S.Source.left c.loop-intake.script) s c.in-Command.command c.next.new.self (g.S.Source.left c.next.new.script) (g.W.Workspace.files c.serve_command.new.workspace) (g.F.Folder.held c.serve_command.new.folder) (g.K.Sink.written c.serve_command.new.out)
      (subst (λ x. Comes c.loop-intake.intake s.reached.rest (Ok x) c.next.new.self (g.S.Source.left c.next.new.script)) c.in-Command.is (c.in_ok-command.ensures.told s.reached.rest s.left_is)) c.next.ensures.within.1
      (subst (λ z. Serves (g.W.Workspace.Answers z) dir (record { files = g.W.Workspace.files c.loop-intake.workspace; held = s.held }) c.in-Command.command (before ++ s.bytes) (Ok tt) (g.W.Workspace.files c.serve_command.new.workspace) (g.F.Folder.held c.serve_command.new.folder) (g.K.Sink.written c.serve_command.new.out)) c.loop-intake.invariant.settings
      (c.in_ok-serve_command-in-Command.ensures.told s.held dir (before ++ s.bytes) s.held_is (c.loop-intake.invariant.chosen ∙ ec) s.written_is));
}

pub loop-intake-preserved-in_ok-serve_command-in-Command-4 : goal.loop-intake-preserved-in_ok-serve_command-in-Command-4
loop-intake-preserved-in_ok-serve_command-in-Command-4 g c = record {
  reading = c.in_ok-serve_command-in-Command.ensures.reading ∙ c.loop-intake.invariant.reading;
  chosen = c.in_ok-serve_command-in-Command.ensures.chosen ∙ c.loop-intake.invariant.chosen;
  settings = c.in_ok-serve_command-in-Command.ensures.settings ∙ c.loop-intake.invariant.settings;
  writing = c.in_ok-serve_command-in-Command.ensures.counts.0 ∙ c.loop-intake.invariant.writing;
  reads = c.in_ok-command.ensures.count ∙ c.loop-intake.invariant.reads;
  writes = c.in_ok-serve_command-in-Command.ensures.counts.1 ∙ c.loop-intake.invariant.writes;
  within = c.next.ensures.within;
  told = λ held dir before all eh ec ew el.
      let s = c.loop-intake.invariant.told held dir before all eh ec ew el in
      stands_more (g.W.Workspace.Answers (g.W.Workspace.settings c.args.workspace.now)) dir (record { files = g.W.Workspace.files c.args.workspace.now; held = held }) all before c.loop-intake.intake (g.W.Workspace.files c.loop-intake.workspace) (g.F.Folder.held c.loop-intake.folder) (g.K.Sink.written c.loop-intake.out) (g.S.Source.left c.loop-intake.script) s c.in-Command.command c.next.new.self (g.S.Source.left c.next.new.script) (g.W.Workspace.files c.serve_command.new.workspace) (g.F.Folder.held c.serve_command.new.folder) (g.K.Sink.written c.serve_command.new.out)
      (subst (λ x. Comes c.loop-intake.intake s.reached.rest (Ok x) c.next.new.self (g.S.Source.left c.next.new.script)) c.in-Command.is (c.in_ok-command.ensures.told s.reached.rest s.left_is)) c.next.ensures.within.1
      (subst (λ z. Serves (g.W.Workspace.Answers z) dir (record { files = g.W.Workspace.files c.loop-intake.workspace; held = s.held }) c.in-Command.command (before ++ s.bytes) (Ok tt) (g.W.Workspace.files c.serve_command.new.workspace) (g.F.Folder.held c.serve_command.new.folder) (g.K.Sink.written c.serve_command.new.out)) c.loop-intake.invariant.settings
      (c.in_ok-serve_command-in-Command.ensures.told s.held dir (before ++ s.bytes) s.held_is (c.loop-intake.invariant.chosen ∙ ec) s.written_is));
}

pub loop-intake-preserved-in_ok-serve_command-in-Command-5 : goal.loop-intake-preserved-in_ok-serve_command-in-Command-5
loop-intake-preserved-in_ok-serve_command-in-Command-5 g c = record {
  reading = c.in_ok-serve_command-in-Command.ensures.reading ∙ c.loop-intake.invariant.reading;
  chosen = c.in_ok-serve_command-in-Command.ensures.chosen ∙ c.loop-intake.invariant.chosen;
  settings = c.in_ok-serve_command-in-Command.ensures.settings ∙ c.loop-intake.invariant.settings;
  writing = c.in_ok-serve_command-in-Command.ensures.counts.0 ∙ c.loop-intake.invariant.writing;
  reads = c.in_ok-command.ensures.count ∙ c.loop-intake.invariant.reads;
  writes = c.in_ok-serve_command-in-Command.ensures.counts.1 ∙ c.loop-intake.invariant.writes;
  within = c.next.ensures.within;
  told = λ held dir before all eh ec ew el.
      let s = c.loop-intake.invariant.told held dir before all eh ec ew el in
      stands_more (g.W.Workspace.Answers (g.W.Workspace.settings c.args.workspace.now)) dir (record { files = g.W.Workspace.files c.args.workspace.now; held = held }) all before c.loop-intake.intake (g.W.Workspace.files c.loop-intake.workspace) (g.F.Folder.held c.loop-intake.folder) (g.K.Sink.written c.loop-intake.out) (g.S.Source.left c.loop-intake.script) s c.in-Command.command c.next.new.self (g.S.Source.left c.next.new.script) (g.W.Workspace.files c.serve_command.new.workspace) (g.F.Folder.held c.serve_command.new.folder) (g.K.Sink.written c.serve_command.new.out)
      (subst (λ x. Comes c.loop-intake.intake s.reached.rest (Ok x) c.next.new.self (g.S.Source.left c.next.new.script)) c.in-Command.is (c.in_ok-command.ensures.told s.reached.rest s.left_is)) c.next.ensures.within.1
      (subst (λ z. Serves (g.W.Workspace.Answers z) dir (record { files = g.W.Workspace.files c.loop-intake.workspace; held = s.held }) c.in-Command.command (before ++ s.bytes) (Ok tt) (g.W.Workspace.files c.serve_command.new.workspace) (g.F.Folder.held c.serve_command.new.folder) (g.K.Sink.written c.serve_command.new.out)) c.loop-intake.invariant.settings
      (c.in_ok-serve_command-in-Command.ensures.told s.held dir (before ++ s.bytes) s.held_is (c.loop-intake.invariant.chosen ∙ ec) s.written_is));
}

pub loop-intake-preserved-in_ok-serve_command-in-Command-6 : goal.loop-intake-preserved-in_ok-serve_command-in-Command-6
loop-intake-preserved-in_ok-serve_command-in-Command-6 g c = record {
  reading = c.in_ok-serve_command-in-Command.ensures.reading ∙ c.loop-intake.invariant.reading;
  chosen = c.in_ok-serve_command-in-Command.ensures.chosen ∙ c.loop-intake.invariant.chosen;
  settings = c.in_ok-serve_command-in-Command.ensures.settings ∙ c.loop-intake.invariant.settings;
  writing = c.in_ok-serve_command-in-Command.ensures.counts.0 ∙ c.loop-intake.invariant.writing;
  reads = c.in_ok-command.ensures.count ∙ c.loop-intake.invariant.reads;
  writes = c.in_ok-serve_command-in-Command.ensures.counts.1 ∙ c.loop-intake.invariant.writes;
  within = c.next.ensures.within;
  told = λ held dir before all eh ec ew el.
      let s = c.loop-intake.invariant.told held dir before all eh ec ew el in
      stands_more (g.W.Workspace.Answers (g.W.Workspace.settings c.args.workspace.now)) dir (record { files = g.W.Workspace.files c.args.workspace.now; held = held }) all before c.loop-intake.intake (g.W.Workspace.files c.loop-intake.workspace) (g.F.Folder.held c.loop-intake.folder) (g.K.Sink.written c.loop-intake.out) (g.S.Source.left c.loop-intake.script) s c.in-Command.command c.next.new.self (g.S.Source.left c.next.new.script) (g.W.Workspace.files c.serve_command.new.workspace) (g.F.Folder.held c.serve_command.new.folder) (g.K.Sink.written c.serve_command.new.out)
      (subst (λ x. Comes c.loop-intake.intake s.reached.rest (Ok x) c.next.new.self (g.S.Source.left c.next.new.script)) c.in-Command.is (c.in_ok-command.ensures.told s.reached.rest s.left_is)) c.next.ensures.within.1
      (subst (λ z. Serves (g.W.Workspace.Answers z) dir (record { files = g.W.Workspace.files c.loop-intake.workspace; held = s.held }) c.in-Command.command (before ++ s.bytes) (Ok tt) (g.W.Workspace.files c.serve_command.new.workspace) (g.F.Folder.held c.serve_command.new.folder) (g.K.Sink.written c.serve_command.new.out)) c.loop-intake.invariant.settings
      (c.in_ok-serve_command-in-Command.ensures.told s.held dir (before ++ s.bytes) s.held_is (c.loop-intake.invariant.chosen ∙ ec) s.written_is));
}

pub loop-intake-preserved-in_ok-serve_command-in-Command-7 : goal.loop-intake-preserved-in_ok-serve_command-in-Command-7
loop-intake-preserved-in_ok-serve_command-in-Command-7 g c = record {
  reading = c.in_ok-serve_command-in-Command.ensures.reading ∙ c.loop-intake.invariant.reading;
  chosen = c.in_ok-serve_command-in-Command.ensures.chosen ∙ c.loop-intake.invariant.chosen;
  settings = c.in_ok-serve_command-in-Command.ensures.settings ∙ c.loop-intake.invariant.settings;
  writing = c.in_ok-serve_command-in-Command.ensures.counts.0 ∙ c.loop-intake.invariant.writing;
  reads = c.in_ok-command.ensures.count ∙ c.loop-intake.invariant.reads;
  writes = c.in_ok-serve_command-in-Command.ensures.counts.1 ∙ c.loop-intake.invariant.writes;
  within = c.next.ensures.within;
  told = λ held dir before all eh ec ew el.
      let s = c.loop-intake.invariant.told held dir before all eh ec ew el in
      stands_more (g.W.Workspace.Answers (g.W.Workspace.settings c.args.workspace.now)) dir (record { files = g.W.Workspace.files c.args.workspace.now; held = held }) all before c.loop-intake.intake (g.W.Workspace.files c.loop-intake.workspace) (g.F.Folder.held c.loop-intake.folder) (g.K.Sink.written c.loop-intake.out) (g.S.Source.left c.loop-intake.script) s c.in-Command.command c.next.new.self (g.S.Source.left c.next.new.script) (g.W.Workspace.files c.serve_command.new.workspace) (g.F.Folder.held c.serve_command.new.folder) (g.K.Sink.written c.serve_command.new.out)
      (subst (λ x. Comes c.loop-intake.intake s.reached.rest (Ok x) c.next.new.self (g.S.Source.left c.next.new.script)) c.in-Command.is (c.in_ok-command.ensures.told s.reached.rest s.left_is)) c.next.ensures.within.1
      (subst (λ z. Serves (g.W.Workspace.Answers z) dir (record { files = g.W.Workspace.files c.loop-intake.workspace; held = s.held }) c.in-Command.command (before ++ s.bytes) (Ok tt) (g.W.Workspace.files c.serve_command.new.workspace) (g.F.Folder.held c.serve_command.new.folder) (g.K.Sink.written c.serve_command.new.out)) c.loop-intake.invariant.settings
      (c.in_ok-serve_command-in-Command.ensures.told s.held dir (before ++ s.bytes) s.held_is (c.loop-intake.invariant.chosen ∙ ec) s.written_is));
}

pub loop-intake-preserved : goal.loop-intake-preserved
loop-intake-preserved g c = record {
  reading = c.in_ok-serve_command-in-Command.ensures.reading ∙ c.loop-intake.invariant.reading;
  chosen = c.in_ok-serve_command-in-Command.ensures.chosen ∙ c.loop-intake.invariant.chosen;
  settings = c.in_ok-serve_command-in-Command.ensures.settings ∙ c.loop-intake.invariant.settings;
  writing = c.in_ok-serve_command-in-Command.ensures.counts.0 ∙ c.loop-intake.invariant.writing;
  reads = c.in_ok-command.ensures.count ∙ c.loop-intake.invariant.reads;
  writes = c.in_ok-serve_command-in-Command.ensures.counts.1 ∙ c.loop-intake.invariant.writes;
  within = c.next.ensures.within;
  told = λ held dir before all eh ec ew el.
      let s = c.loop-intake.invariant.told held dir before all eh ec ew el in
      stands_more (g.W.Workspace.Answers (g.W.Workspace.settings c.args.workspace.now)) dir (record { files = g.W.Workspace.files c.args.workspace.now; held = held }) all before c.loop-intake.intake (g.W.Workspace.files c.loop-intake.workspace) (g.F.Folder.held c.loop-intake.folder) (g.K.Sink.written c.loop-intake.out) (g.S.Source.left c.loop-intake.script) s c.in-Command.command c.next.new.self (g.S.Source.left c.next.new.script) (g.W.Workspace.files c.serve_command.new.workspace) (g.F.Folder.held c.serve_command.new.folder) (g.K.Sink.written c.serve_command.new.out)
      (subst (λ x. Comes c.loop-intake.intake s.reached.rest (Ok x) c.next.new.self (g.S.Source.left c.next.new.script)) c.in-Command.is (c.in_ok-command.ensures.told s.reached.rest s.left_is)) c.next.ensures.within.1
      (subst (λ z. Serves (g.W.Workspace.Answers z) dir (record { files = g.W.Workspace.files c.loop-intake.workspace; held = s.held }) c.in-Command.command (before ++ s.bytes) (Ok tt) (g.W.Workspace.files c.serve_command.new.workspace) (g.F.Folder.held c.serve_command.new.folder) (g.K.Sink.written c.serve_command.new.out)) c.loop-intake.invariant.settings
      (c.in_ok-serve_command-in-Command.ensures.told s.held dir (before ++ s.bytes) s.held_is (c.loop-intake.invariant.chosen ∙ ec) s.written_is));
}
