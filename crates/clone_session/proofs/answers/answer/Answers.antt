use Rattle.std.proofs.Common.{ap, subst}
use Rattle.std.proofs.lemmas.Result.{IfOk-weaker}
use Rattle.clone_session.specs.Answers.{settings_of, IsNoExtraction}
use Rattle.clone_session.proofs.Answering.{of-classes, of-extract, of-maximal, of-run, of-stat}
use Rattle.clone_session.proofs.answers.answer.Goals as goal

pub returns-in-Classes-clause-reply : goal.returns-in-Classes-clause-reply
returns-in-Classes-clause-reply g c =
    let s = c.args.session.now in
    IfOk-weaker c.classes.result _ _ (λ reply h. of-classes (settings_of s.bounds) s.texts c.args.command.now reply c.classes.new.session.texts c.in-Classes.is h (ap (λ x. x.texts) c.classes.ensures.kept)) c.classes.ensures.reply

pub returns-in-Maximal-clause-reply : goal.returns-in-Maximal-clause-reply
returns-in-Maximal-clause-reply g c =
    let s = c.args.session.now in
    IfOk-weaker c.maximal.result _ _ (λ reply h. of-maximal (settings_of s.bounds) s.texts c.args.command.now reply c.maximal.new.session.texts c.in-Maximal.is h (ap (λ x. x.texts) c.maximal.ensures.kept)) c.maximal.ensures.reply

pub returns-in-Stat-clause-reply : goal.returns-in-Stat-clause-reply
returns-in-Stat-clause-reply g c =
    let s = c.args.session.now in
    IfOk-weaker c.stat.result _ _ (λ reply h. of-stat (settings_of s.bounds) s.texts c.args.command.now reply c.stat.new.session.texts c.in-Stat.is h (ap (λ x. x.texts) c.stat.ensures.kept)) c.stat.ensures.reply

pub returns-in-Extract-clause-reply : goal.returns-in-Extract-clause-reply
returns-in-Extract-clause-reply g c =
    let s = c.args.session.now in
    IfOk-weaker c.extracted.result _ _ (λ reply h. of-extract (settings_of s.bounds) s.texts c.args.command.now c.in-Extract.class c.in-Extract.name c.in-Extract.choice reply c.extracted.new.session.texts c.in-Extract.is h) c.extracted.ensures.reply

pub returns-in-Extract-clause-known : goal.returns-in-Extract-clause-known
returns-in-Extract-clause-known g c _ n = absurd (subst IsNoExtraction c.in-Extract.is n)

pub returns-in-Run-clause-reply : goal.returns-in-Run-clause-reply
returns-in-Run-clause-reply g c =
    let s = c.args.session.now in
    IfOk-weaker c.ran.result _ _ (λ reply h. of-run (settings_of s.bounds) s.texts c.args.command.now c.in-Run.turns c.from.result c.in-Run.input c.as_slice.result.now reply c.ran.new.session.texts c.in-Run.is
    c.from.ensures c.as_slice.ensures h (ap (λ x. x.texts) c.ran.ensures.kept)) c.ran.ensures.reply
