use Rattle.std.proofs.Common.{◌∙◌, ◌<◌, ℕ, Bool, true, Some, length, sym, ap, subst}
use Rattle.go_types.specs.Tables.{Table}
use Rattle.escape_check.proofs.Losing.{known_signature, lost_by, none_lost, told}
use Rattle.escape_check.proofs.lost.LostEndsMemberRule.place.Goals as goal
use Rattle.escape_check.proofs.lost.LostEndsMemberRule.place.Goals.{else-has_results-via-then-has_results+else-not-ends_with_call, else-has_results-via-else-has_results}

pub has_results-requires : goal.has_results-requires
has_results-requires c =
    let p = c.args.checked.now in
    let m = c.args.member.now in
    subst (λ (t : Table). c.signature.result < length t.shapes) (sym c.types-types.ensures.types)
    (subst (λ (n : ℕ). n < length p.types.shapes) (sym c.signature.ensures) (known_signature p c.types-types.ensures.stands m.window.func m.func.now c.requires.sound.func))

pub returns-then-not-ends_with_call : goal.returns-then-not-ends_with_call
returns-then-not-ends_with_call c =
    let p = c.args.checked.now in
    let m = c.args.member.now in
    let e = c.requires.sound.func in
    ap Some c.window_place.ensures
    ∙ sym (lost_by p m e c.types-types.result.now c.signature.result c.has_results.result c.ends_with_call.result c.types-types.ensures.types c.signature.ensures c.has_results.ensures c.ends_with_call.ensures
    ∙ ap (λ (a : Bool). told p m e a c.ends_with_call.result) c.if-has_results.true
    ∙ ap (told p m e true) c.if-not-ends_with_call.true)

pub returns : goal.returns
returns c =
    let p = c.args.checked.now in
    let m = c.args.member.now in
    let e = c.requires.sound.func in
    elim c.else-has_results.branch [
      | else-has_results-via-then-has_results+else-not-ends_with_call w ↦
          sym (lost_by p m e c.types-types.result.now c.signature.result c.has_results.result w.ends_with_call.result c.types-types.ensures.types c.signature.ensures c.has_results.ensures w.ends_with_call.ensures
          ∙ ap (λ (a : Bool). told p m e a w.ends_with_call.result) w.if-has_results.true
          ∙ ap (told p m e true) w.if-not-ends_with_call.false)
      | else-has_results-via-else-has_results w ↦
          sym (none_lost p m e c.types-types.result.now c.signature.result c.has_results.result c.types-types.ensures.types c.signature.ensures c.has_results.ensures w.if-has_results.false)
    ]
