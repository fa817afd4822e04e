use Rattle.std.proofs.Common.{◌≡◌, ◌∙◌, ◌++◌, ◌∷◌, ◌+◌, ◌<◌, suc, Option, List, length, drop, sym, ap, map, subst, arith}
use Rattle.std.specs.Option.{option_map}
use Rattle.go_tree.specs.Objects.{objects_from, token_objects}
use Rattle.std.specs.declared.vec.Vec.{Vec}
use Rattle.go_tree.specs.declared.object.Object.{Object}
use Rattle.go_scopes_lookup.specs.Tables.{Owns}
use Rattle.go_scopes_lookup.proofs.Walks.{map_push}
use Rattle.go_scopes_lookup.specs.Views.{meaning_view, units_view, asked_view}
use Rattle.go_scopes_lookup.specs.Sorted.{all_of}
use Rattle.go_scopes_lookup.proofs.Told.{orderly_at, drop_at, asked_more}
use Rattle.go_scopes_lookup.proofs.look_up.looked_up_in_files.Goals as goal

pub event_meanings-requires-clause-orderly : goal.event_meanings-requires-clause-orderly
event_meanings-requires-clause-orderly c =
    orderly_at c.args.units.now c.loop-number.number c.index-units-number.result c.index-units-number.result c.requires.orderly (omega (arith, c.loop-number-test.true)) c.index-units-number.is

abbrev tokens : {A : Type 0} → Vec (Option Object) A → List (Option Object)
tokens v = v.items

pub loop-number-preserved : goal.loop-number-preserved
loop-number-preserved c =
    let ms = all_of c.args.sorted.now in
    let i = c.loop-number.number in
    let units = c.args.units.now in
    let unit = c.index-units-number.result in
    let rest = drop (i + 1) units in
    let less : i < length units = omega (arith, c.loop-number-test.true) in
    let back : drop i units ≡ unit ∷ rest = drop_at units i unit less ∙ ap (λ x. x ∷ rest) (sym c.index-units-number.is) in
    let next : suc i ≡ i + 1 = omega arith in
    let owns : Owns c.in_ok-owners.owners ms = subst (λ l. Owns c.in_ok-owners.owners (map meaning_view l)) c.deref.ensures.value c.in_ok-owners.ensures in
    record {
      asked = asked_more ms units i unit (map asked_view c.loop-number.asked.items) _ _ less c.index-units-number.is
          (c.in_ok-push_asked.ensures ms (ap (map (option_map meaning_view)) c.deref-in-loop-number.ensures.value ∙ c.in_ok-told.ensures)) c.loop-number.invariant.asked;
      objects = ap (λ l. map tokens l ++ objects_from ms (i + 1) (units_view rest)) c.in_ok-push.ensures.items
          ∙ map_push tokens c.loop-number.objects.items c.in_ok-token_objects.field-0 (objects_from ms (i + 1) (units_view rest))
          ∙ ap (λ o. map tokens c.loop-number.objects.items ++ (o ∷ objects_from ms (i + 1) (units_view rest)))
          (c.in_ok-token_objects.ensures ms owns (ap (map (option_map meaning_view)) c.deref-in-loop-number-2.ensures.value ∙ c.in_ok-told.ensures))
          ∙ ap (λ k. map tokens c.loop-number.objects.items ++ (token_objects ms i unit.tokens.now unit.events.items 0 (length unit.tokens.now.tokens) ∷ objects_from ms k (units_view rest))) (sym next)
          ∙ ap (λ l. map tokens c.loop-number.objects.items ++ objects_from ms i (units_view l)) (sym back)
          ∙ c.loop-number.invariant.objects;
    }
