use Rattle.std.proofs.Common.{◌∙◌, ap}
use Rattle.clone_classes.specs.Listing.{members_of}
use Rattle.clone_session.proofs.Taken.{answered, held}
use Rattle.clone_session.proofs.session.Session.extraction.Goals as goal

pub returns-clause-answer : goal.returns-clause-answer
returns-clause-answer g c =
    let s = c.args.self.now in
    let p = c.checked.result.now in
    let classes = members_of c.deref.result.now in
    let listed = held s.bounds s.texts p classes c.checked.ensures.checked c.checked.ensures.texts (λ x k. ap (λ cs. members_of cs) c.deref.ensures.value ∙ c.in_ok-classes.ensures x k) in
    answered s.bounds s.texts p classes c.args.class c.args.name.now c.args.choice.now c.taken.result listed c.taken.ensures.answer
