use Rattle.std.proofs.Common.{◌<◌, sym, subst, length, List, ℕ}
use Rattle.go_meaning.specs.Values.{text_of}
use Rattle.go_values.specs.Views.{view}
use Rattle.go_eval_operations.proofs.RunePlaces.{place_within}
use Rattle.go_eval_operations.proofs.items.item_at.Goals as goal

pub rune_item-requires : goal.rune_item-requires
rune_item-requires c =
    let i = rw c.in-Runes.is at c.requires.place in
    let h = rw c.in-Runes.is at c.requires.within in
    subst (λ (ts : List ℕ). c.args.place < length ts) (sym c.text.ensures) (place_within (text_of (view c.args.operand.now)) c.args.number c.args.place i h)
