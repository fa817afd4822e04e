use Rattle.std.proofs.Common.{◌∙◌, sym, ap, map-id}
use Rattle.std.proofs.lemmas.Iterator.{YieldsList-from_chars}
use Rattle.std.proofs.lemmas.Iterator.Consumers.{YieldsList-so_far, YieldsList-turn, YieldsList-end}
use Rattle.std.specs.Str.{chars}
use Rattle.escape_check.specs.Names.{is_name_text}
use Rattle.escape_check.proofs.Words.{read-all, read-more, read-stops}
use Rattle.escape_check.proofs.used.is_name_text.Goals as goal

pub loop-c-preserved : goal.loop-c-preserved
loop-c-preserved c = read-more c.loop-c.is_first c.loop-c.yielded c.in-Some.c c.loop-c.invariant (sym c.may_stand.ensures ∙ c.if-not-may_stand.false)

pub returns-then-not-may_stand : goal.returns-then-not-may_stand
returns-then-not-may_stand c =
    let road = YieldsList-from_chars c.args.text.now c.utf8.text cc in
    let so_far = YieldsList-so_far road c.loop-c.yielded _ c.loop-c.yielded_by in
    let turn = YieldsList-turn road c.loop-c.yielded _ c.loop-c.yielded_by _ _ c.in-Some.c c.in-Some.is c.next.ensures.steps in
    read-stops c.loop-c.is_first (chars c.args.text.now) c.loop-c.yielded c.in-Some.c (sym (map-id c.loop-c.yielded) ∙ so_far) turn.0 turn.1 c.loop-c.invariant
    (sym c.may_stand.ensures ∙ c.if-not-may_stand.true)

pub returns : goal.returns
returns c =
    let end = YieldsList-end (YieldsList-from_chars c.args.text.now c.utf8.text cc) c.loop-c.yielded _ c.loop-c.yielded_by _ _ c.in-None.is c.next.ensures.steps in
    read-all c.loop-c.is_first c.loop-c.yielded c.loop-c.invariant ∙ ap is_name_text (sym (map-id c.loop-c.yielded) ∙ end.0)
