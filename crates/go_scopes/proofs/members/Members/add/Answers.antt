use Rattle.std.proofs.Common.{◌∙◌, sym, ap, ◌||◌, ◌&&◌, nat_eq}
use Rattle.go_tokens.specs.Spellings.{same_text}
use Rattle.go_tree.specs.Duplicates.{same_member}
use Rattle.go_scopes.proofs.Gathering.{has_member-one, has_member-other}
use Rattle.go_scopes.proofs.members.Members.add.Goals as goal

pub returns-in_ok-insert : goal.returns-in_ok-insert
returns-in_ok-insert c es told m g w =
    c.in_ok-insert.ensures m g w
    ∙ ap (λ b. (same_member m c.in-Member.member && nat_eq g c.in-Member.group && same_text w.now c.word.result.now) || b) (told m g w)
    ∙ sym (has_member-one m c.in-Member.member g c.in-Member.group c.in-Member.name w.now c.word.result.now c.args.tokens.now es c.args.event.now c.in-Member.is c.word.ensures)

pub returns-in_default : goal.returns-in_default
returns-in_default c es told m g w = told m g w ∙ sym (has_member-other m g w.now c.args.tokens.now es c.args.event.now c.in_default.not-Member)
