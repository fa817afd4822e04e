use Rattle.std.proofs.Common.{◌∙◌, ℕ, List, subst, sym}
use Rattle.std.proofs.lemmas.Result.{IfOk-weaker}
use Rattle.go_types.specs.Tables.{IsTable}
use Rattle.clone_classes.specs.Listing.{members_of}
use Rattle.clone_session.specs.Maximal.{LiesInOneOf}
use Rattle.clone_session.proofs.Numbered.{within-numbered}
use Rattle.clone_session.proofs.maximal.maximal_of.Goals as goal

pub maximal-requires : goal.maximal-requires
maximal-requires c =
    let p = c.args.checked.now in
    let given = c.requires.«package».given in
    let checked = c.requires.«package».checked in
    let table : IsTable p.types = subst IsTable c.types.ensures.types c.count-count.ensures.table in
    let law = c.listings_follow_from_the_texts.ensures in
    let bounds = c.requires.classes.0 in
    (bounds, c.requires.classes.1 given checked ∙ sym (law.classes bounds p given c.requires.«package» table checked))

pub returns-clause-within : goal.returns-clause-within
returns-clause-within c =
    let cs = members_of c.args.classes.now in
    IfOk-weaker c.maximal.result _ _ (λ v h class w listed among.
    subst (λ (ns : List ℕ). LiesInOneOf cs ns w) (sym h) (within-numbered cs w (c.members_lie_within_maximal_classes.ensures cs class w listed among))) c.maximal.ensures
