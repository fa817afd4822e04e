use Rattle.std.proofs.Common.{◌≡◌, refl, ap, sym, ◌∙◌}
use Rattle.std.proofs.lemmas.Result.{IfOk-weaker}
use Rattle.go_package_defs.specs.Declarations.{Specification}
use Rattle.go_package_defs.specs.Knowledge.{free_scope, told_scope}
use Rattle.go_package_defs.specs.Verdicts.{own_type, own_faults, value_state, type_state, state_by}
use Rattle.go_declarations.specs.Views.{specification_view}
use Rattle.go_package_rounds.specs.Held.{held_seen, summary}
use Rattle.go_package_rounds.specs.World.{package_in, specifications_in, outlines_in}
use Rattle.go_package_rounds.proofs.Judged.{seen_at, by_type, by_value}
use Rattle.go_package_rounds.proofs.judge.judge.Goals as goal

pub judge_type-requires-clause-literals : goal.judge_type-requires-clause-literals
judge_type-requires-clause-literals c = c.requires.fits.literals c.in-Some.place.specification c.in-Some-specification_at.specification.now c.in-Some-specification_at.ensures

pub judge_value-requires-clause-literals : goal.judge_value-requires-clause-literals
judge_value-requires-clause-literals c = c.requires.fits.literals c.in-Some.place.specification c.in-Some-specification_at.specification.now c.in-Some-specification_at.ensures

pub returns-in-Type-clause-shows : goal.returns-in-Type-clause-shows
returns-in-Type-clause-shows c = λ ss o sound told rights at.
    let w = c.args.world.now in
    let p = package_in w in
    let os = outlines_in w in
    let n = c.args.number in
    let s = c.in-Some-specification_at.specification.now in
    let there = c.in-Some.ensures.specification p (specifications_in w) o c.requires.fits.needs at in
    let is : specification_view s ≡ o.specification = seen_at specification_view w.specifications.now c.in-Some.place.specification s o.specification c.in-Some-specification_at.ensures there in
    let same = ap (λ d. type_state (own_type p n) (told_scope p os ss d) (free_scope p os ss d) d) is
    ∙ sym (by_type p os ss n o.specification.entity o.specification o.column (sym (ap (λ (d : Specification). d.entity) is) ∙ c.in-Type.is)) in
    let z = c.judge_type.new.types in
    let d = specification_view s in
    let kept = summary (type_state (own_type p n) (told_scope p os ss d) (free_scope p os ss d) d) in
    let due = summary (state_by o.specification.entity p os ss n o.specification o.column) in
    let whole : kept ≡ due = ap summary same in
    IfOk-weaker c.judge_type.result (λ h. held_seen z h ≡ kept) (λ h. held_seen z h ≡ due) (λ h e. e ∙ whole) (c.judge_type.ensures.shows ss sound told rights)

pub returns-in_default-entity : goal.returns-in_default-entity
returns-in_default-entity c = record {
  grows = c.judge_value.ensures.grows;
  shows = λ ss o sound told rights at.
      let w = c.args.world.now in
      let p = package_in w in
      let os = outlines_in w in
      let n = c.args.number in
      let s = c.in-Some-specification_at.specification.now in
      let there = c.in-Some.ensures.specification p (specifications_in w) o c.requires.fits.needs at in
      let column = c.in-Some.ensures.column p (specifications_in w) o c.requires.fits.needs at in
      let is : specification_view s ≡ o.specification = seen_at specification_view w.specifications.now c.in-Some.place.specification s o.specification c.in-Some-specification_at.ensures there in
      let same = ap (λ d. value_state (free_scope p os ss d) d c.in-Some.place.column (own_faults (free_scope p os ss d) d c.in-Some.place.column)) is
      ∙ ap (λ k. value_state (free_scope p os ss o.specification) o.specification k (own_faults (free_scope p os ss o.specification) o.specification k)) column
      ∙ sym (by_value p os ss n o.specification.entity o.specification o.column (λ e. c.in_default-entity.not-Type (ap (λ (d : Specification). d.entity) is ∙ e))) in
      let z = c.judge_value.new.types in
      let d = specification_view s in
      let kept = summary (value_state (free_scope p os ss d) d c.in-Some.place.column (own_faults (free_scope p os ss d) d c.in-Some.place.column)) in
      let due = summary (state_by o.specification.entity p os ss n o.specification o.column) in
      let whole : kept ≡ due = ap summary same in
      IfOk-weaker c.judge_value.result (λ h. held_seen z h ≡ kept) (λ h. held_seen z h ≡ due) (λ h e. e ∙ whole) (c.judge_value.ensures.shows ss sound rights);
  known = c.judge_value.ensures.known;
}
