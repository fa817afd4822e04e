use Rattle.std.proofs.Common.{◌≡◌, ℕ, ◌+◌, List, [], ◌++◌, length, drop, refl, ap, sym, subst, ◌∙◌}
use Rattle.std.specs.Option.{option_map}
use Rattle.go_types.specs.Relations.{Rights}
use Rattle.go_types.specs.declared.shape.Shape.{Shape}
use Rattle.go_types.specs.Tables.{type_of, rights_of}
use Rattle.go_types_relations.proofs.Public.{extends_self, extends_both}
use Rattle.go_package_defs.specs.Knowledge.{is_type}
use Rattle.go_package_rounds.specs.Held.{KnownRight}
use Rattle.go_package_rounds.specs.Rights.{behind, rights_held}
use Rattle.go_package_rounds.proofs.RightSides.{behind_append, held_at, known_at}
use Rattle.go_package_rounds.proofs.Stays.{named_more}
use Rattle.go_package_rounds.proofs.rights.take_all.Goals as goal

pub loop-number-init : goal.loop-number-init
loop-number-init c = (extends_self c.args.types.now, refl, λ r. ([], refl, r, refl))

pub take_one-requires-clause-named : goal.take_one-requires-clause-named
take_one-requires-clause-named c = named_more c.args.types.now c.loop-number.types c.count.ensures.table c.loop-number.invariant.0 c.args.named.now c.requires.named

pub take_one-requires-clause-right : goal.take_one-requires-clause-right
take_one-requires-clause-right c =
    let after = c.in_ok-after.after in
    subst (λ (xs : List Shape). KnownRight (length xs) after) (sym c.loop-number.invariant.1) (known_at (length c.args.types.now.shapes) after c.args.new.now c.loop-number.number c.requires.known c.in_ok-after.ensures)

pub loop-number-preserved : goal.loop-number-preserved
loop-number-preserved c =
    let t = c.args.types.now in
    let b = c.loop-number.types in
    let z = c.take_one.new.types in
    let ds = c.args.objects.now in
    let hs = c.args.old.now in
    let ks = c.args.new.now in
    let n = c.loop-number.number in
    let e = c.in_ok-entity.entity in
    let old = c.in_ok-before.before in
    let new = c.in_ok-after.after in
    let same = c.loop-number.invariant.1 in
    let rest = rights_held t (drop (n + 1) ds) (drop (n + 1) hs) in
    let left = rights_held t (drop (n + 1) ds) (drop (n + 1) ks) in
    let f = option_map (type_of b.shapes) in (
      extends_both t b z c.loop-number.invariant.0 c.take_one.ensures.extends,
      c.take_one.ensures.shapes ∙ same,
      λ r.
          let before = c.loop-number.invariant.2 r in
          let done = before.0 in
          let here : rights_of b ≡ done ++ behind (is_type e) (f old) rest =
          before.2 ∙ ap (λ xs. done ++ xs) (held_at t e old ds hs n c.in_ok-entity.ensures c.in_ok-before.ensures)
          ∙ ap (λ (xs : List Shape). done ++ behind (is_type e) (option_map (type_of xs) old) rest) (sym same) in
          let taken = c.in_ok-place.ensures.rights done rest before.1 here in
          let due : done ++ behind (is_type e) (f new) left ≡ rights_held t ds ks =
          ap (λ (xs : List Shape). done ++ behind (is_type e) (option_map (type_of xs) new) left) same
          ∙ ap (λ xs. done ++ xs) (sym (held_at t e new ds ks n c.in_ok-entity.ensures c.in_ok-after.ensures)) ∙ before.3 in
          (done ++ behind (is_type e) (f new) [], taken.0, taken.1 ∙ sym (behind_append (is_type e) (f new) done rest), behind_append (is_type e) (f new) done left ∙ due),
    )
