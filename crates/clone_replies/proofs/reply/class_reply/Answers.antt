use Rattle.std.proofs.Common.{◌∙◌, ap, map}
use Rattle.std.proofs.lemmas.Result.{IfOk-weaker}
use Rattle.clone_classes.specs.Listing.{members_of}
use Rattle.clone_replies.specs.Classes.{listed_package, shown_class}
use Rattle.clone_replies.specs.Listing.{shown}
use Rattle.clone_replies.proofs.Places.{reply-of}
use Rattle.clone_replies.proofs.reply.class_reply.Goals as goal

pub returns : goal.returns
returns c =
    let p = c.args.checked.now in
    let told = map (shown_class (listed_package p)) (members_of c.args.classes.now) in
    IfOk-weaker c.class_reply.result _ _ (λ reply h. h ∙ reply-of (map (λ name. name.now) c.deref.result.now) p.names c.deref-2.result.now told
    (ap (map (λ name. name.now)) c.deref.ensures.value ∙ c.in_ok-names.ensures ∙ c.names.ensures)
    (ap (map shown) c.deref-2.ensures.value ∙ c.in_ok-listed.ensures)) c.class_reply.ensures
