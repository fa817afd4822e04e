use Rattle.std.proofs.Common.{◌∙◌, ap, map, subst, sym}
use Rattle.std.proofs.lemmas.Result.{IfOk-weaker}
use Rattle.go_types.specs.Tables.{IsTable}
use Rattle.clone_classes.specs.Listing.{members_of}
use Rattle.clone_report.specs.Maximal.{maximal}
use Rattle.clone_replies.specs.Classes.{listed_package}
use Rattle.clone_replies.specs.Maximal.{class_at, maximal_among, maximal_text}
use Rattle.clone_session.proofs.maximal.report_of.Goals as goal

pub returns : goal.returns
returns c =
    let p = c.args.checked.now in
    let l = listed_package p in
    let cs = members_of c.args.classes.now in
    let table : IsTable p.types = subst IsTable c.types.ensures.types c.count-count.ensures.table in
    let listings = c.listings_follow_from_the_texts.ensures in
    let reports = c.reports_follow_from_the_texts.ensures in
    IfOk-weaker c.maximal_reply.result _ _ (λ reply h bounds whole checked same. h
    ∙ ap (λ ns. maximal_text p.names (map (class_at l cs) ns) c.deref-2.result.now) (c.deref.ensures.value ∙ c.in_ok-numbers.ensures.numbers)
    ∙ ap (maximal_text p.names (map (class_at l cs) (maximal cs))) (c.deref-2.ensures.value ∙ c.in_ok-covered.ensures)
    ∙ ap (maximal_among l) (same ∙ sym (listings.classes bounds p whole c.requires.«package» table checked))
    ∙ reports.reply bounds p whole c.requires.«package» table checked) c.maximal_reply.ensures
