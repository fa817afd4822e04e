use Rattle.std.proofs.Common.{length, sym, ap, ◌∙◌}
use Rattle.go_types.specs.Tables.{type_of, rights_of}
use Rattle.go_typed.specs.Views.{all_seen}
use Rattle.go_meaning.specs.Operations.{Cut}
use Rattle.go_meaning.specs.Plans.{Once, Select, Perform}
use Rattle.go_meaning.specs.Planning.{part_at, is_there, form_plan}
use Rattle.go_eval_plans.specs.Views.{type_in}
use Rattle.go_eval_plans.proofs.form_plan.form_plan.Goals as goal

pub returns-in-Step-clause-plan : goal.returns-in-Step-clause-plan
returns-in-Step-clause-plan c s =
    let t = c.args.types.now in
    c.step.ensures.plan s ∙ ap (λ g. Once (form_plan (rights_of t) g (type_in (type_of t.shapes) c.args.ty) (all_seen t c.args.parts.now))) (sym c.in-Step.is)

pub returns-in-Operate-clause-plan : goal.returns-in-Operate-clause-plan
returns-in-Operate-clause-plan c s =
    let t = c.args.types.now in
    c.operate.ensures.plan s ∙ ap (λ g. Once (form_plan (rights_of t) g (type_in (type_of t.shapes) c.args.ty) (all_seen t c.args.parts.now))) (sym c.in-Operate.is)

pub returns-in-Range-clause-plan : goal.returns-in-Range-clause-plan
returns-in-Range-clause-plan c s =
    let t = c.args.types.now in
    c.range.ensures.plan s ∙ ap (λ g. Once (form_plan (rights_of t) g (type_in (type_of t.shapes) c.args.ty) (all_seen t c.args.parts.now))) (sym c.in-Range.is)

pub returns-in-Index-clause-plan : goal.returns-in-Index-clause-plan
returns-in-Index-clause-plan c s =
    let t = c.args.types.now in
    c.index.ensures.plan s ∙ ap (λ g. Once (form_plan (rights_of t) g (type_in (type_of t.shapes) c.args.ty) (all_seen t c.args.parts.now))) (sym c.in-Index.is)

pub returns-in-Call-clause-plan : goal.returns-in-Call-clause-plan
returns-in-Call-clause-plan c s =
    let t = c.args.types.now in
    c.call.ensures.plan s ∙ ap (λ g. Once (form_plan (rights_of t) g (type_in (type_of t.shapes) c.args.ty) (all_seen t c.args.parts.now))) (sym c.in-Call.is)

pub returns-in-Conversion-clause-plan : goal.returns-in-Conversion-clause-plan
returns-in-Conversion-clause-plan c s =
    let t = c.args.types.now in
    c.conversion.ensures.plan s ∙ ap (λ g. Once (form_plan (rights_of t) g (type_in (type_of t.shapes) c.args.ty) (all_seen t c.args.parts.now))) (sym c.in-Conversion.is)

pub returns-in-Unary-clause-plan : goal.returns-in-Unary-clause-plan
returns-in-Unary-clause-plan c s =
    let t = c.args.types.now in
    c.unary.ensures.plan s ∙ ap (λ g. Once (form_plan (rights_of t) g (type_in (type_of t.shapes) c.args.ty) (all_seen t c.args.parts.now))) (sym c.in-Unary.is)

pub returns-in-Binary-clause-plan : goal.returns-in-Binary-clause-plan
returns-in-Binary-clause-plan c s =
    let t = c.args.types.now in
    c.binary.ensures.plan s ∙ ap (λ g. Once (form_plan (rights_of t) g (type_in (type_of t.shapes) c.args.ty) (all_seen t c.args.parts.now))) (sym c.in-Binary.is)

pub returns-in-Specified-clause-plan : goal.returns-in-Specified-clause-plan
returns-in-Specified-clause-plan c s =
    let t = c.args.types.now in
    c.specified.ensures.plan t s ∙ ap (λ g. Once (form_plan (rights_of t) g (type_in (type_of t.shapes) c.args.ty) (all_seen t c.args.parts.now))) (sym c.in-Specified.is)

pub returns-in-Switch-clause-plan : goal.returns-in-Switch-clause-plan
returns-in-Switch-clause-plan c s =
    let t = c.args.types.now in
    let f = type_of t.shapes in
    let ps = all_seen t c.args.parts.now in
    ap (λ b. Once (Select b c.default_at.result)) (c.is_there.ensures f) ∙ ap (λ k. Once (Select (is_there (part_at ps 1)) k)) (c.default_at.ensures f)
    ∙ ap (λ g. Once (form_plan (rights_of t) g (type_in f c.args.ty) ps)) (sym c.in-Switch.is)

pub returns-in-Slice-clause-plan : goal.returns-in-Slice-clause-plan
returns-in-Slice-clause-plan c s =
    let t = c.args.types.now in
    let f = type_of t.shapes in
    let ps = all_seen t c.args.parts.now in
    ap (λ b. Once (Perform (Cut b c.is_there-in-Slice-2.result))) (c.is_there-in-Slice.ensures f) ∙ ap (λ b. Once (Perform (Cut (is_there (part_at ps 1)) b))) (c.is_there-in-Slice-2.ensures f)
    ∙ ap (λ g. Once (form_plan (rights_of t) g (type_in f c.args.ty) ps)) (sym c.in-Slice.is)

pub returns-in-Specified-clause-known : goal.returns-in-Specified-clause-known
returns-in-Specified-clause-known c = c.specified.ensures.known (length c.args.types.now.shapes) c.requires.parts
