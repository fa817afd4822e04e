use Rattle.std.proofs.Common.{◌∙◌, ap, map}
use Rattle.std.proofs.lemmas.Result.{IfOk-weaker}
use Rattle.clone_classes.specs.Listing.{members_of}
use Rattle.clone_replies.specs.Classes.{listed_package}
use Rattle.clone_replies.specs.Maximal.{class_at, numbered}
use Rattle.clone_replies.proofs.MaximalTexts.{maximal-reply-of}
use Rattle.clone_replies.proofs.maximal.maximal_reply.Goals as goal

pub returns : goal.returns
returns c =
    let p = c.args.checked.now in
    let told = map (class_at (listed_package p) (members_of c.args.classes.now)) c.args.maximal.now in
    IfOk-weaker c.maximal_reply.result _ _ (λ reply h. h ∙ maximal-reply-of (map (λ name. name.now) c.deref.result.now) p.names c.deref-2.result.now told c.args.covered.now
    (ap (map (λ name. name.now)) c.deref.ensures.value ∙ c.in_ok-names.ensures ∙ c.names.ensures)
    (ap (map numbered) c.deref-2.ensures.value ∙ c.in_ok-numbered.ensures)) c.maximal_reply.ensures
