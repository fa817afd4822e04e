use Rattle.std.proofs.Common.{pos, [], ◌∷◌, sym, ap, ◌∙◌, arith, to_z, of_z}
use Rattle.std.specs.Int.{w128}
use Rattle.std.proofs.lemmas.Int.{to_z-of_z, to_z_pos}
use Rattle.go_meaning.specs.Values as meant
use Rattle.go_values.specs.declared.value.Value.{Whole}
use Rattle.go_values.specs.Views.{view}
use Rattle.go_values.proofs.Public.{view_whole}
use Rattle.go_eval_operations.proofs.RunePlaces.{rune_told_at}
use Rattle.go_eval_operations.proofs.items.rune_item.Goals as goal

pub returns-clause-values : goal.returns-clause-values
returns-clause-values c n i =
    let r = c.first_rune-rune in
    let s = rune_told_at c.args.bytes.now c.args.place r.result.0 r.result.1 c.requires r.ensures.code r.ensures.width r.ensures.some r.ensures.within n i in
    let first = view_whole _ ∙ ap meant.Whole (to_z_pos w128 c.args.place (omega (arith, c.ranges.place))) in
    let second = view_whole _ ∙ ap meant.Whole (to_z-of_z w128 c.from.result (record { sfits = c.from.type_inv }) ∙ c.from.ensures ∙ ap pos c.from-code.ensures) in
    ap (λ (u : meant.Value). u ∷ view (Whole (to_z w128 (of_z w128 c.from.result))) ∷ []) first ∙ ap (λ (u : meant.Value). meant.Whole (pos c.args.place) ∷ u ∷ []) second ∙ sym s.0

pub returns-clause-next : goal.returns-clause-next
returns-clause-next c n i =
    let r = c.first_rune-rune in
    let s = rune_told_at c.args.bytes.now c.args.place r.result.0 r.result.1 c.requires r.ensures.code r.ensures.width r.ensures.some r.ensures.within n i in
    s.1.0
