use Rattle.std.proofs.Common.{◌∙◌, ap, map, subst, sym}
use Rattle.std.proofs.lemmas.Result.{IfOk-weaker}
use Rattle.go_types.specs.Tables.{IsTable}
use Rattle.clone_replies.specs.Classes.{listed_package, shown_class}
use Rattle.clone_replies.specs.Listing.{listing_text}
use Rattle.clone_session.proofs.session.listing_of.Goals as goal

pub returns : goal.returns
returns c =
    let p = c.args.checked.now in
    let law = c.listings_follow_from_the_texts.ensures in
    let table : IsTable p.types = subst IsTable c.types.ensures.types c.count-count.ensures.table in
    IfOk-weaker c.class_reply.result _ _ (λ reply h bounds whole checked same. h
    ∙ ap (λ wss. listing_text p.names (map (shown_class (listed_package p)) wss)) (same ∙ sym (law.classes bounds p whole c.requires table checked))
    ∙ law.listing bounds p whole c.requires table checked) c.class_reply.ensures
