use Rattle.std.proofs.Common.{◌≡◌, length, ap, sym, subst, ◌∙◌}
use Rattle.std.specs.Option.{option_map}
use Rattle.std.proofs.lemmas.Result.{IfOk-weaker}
use Rattle.go_tree.specs.Views.{view}
use Rattle.go_types.specs.Tables.{rights_of}
use Rattle.go_types_relations.proofs.Public.{grows_both}
use Rattle.go_typed.specs.Views.{seen}
use Rattle.go_exprs_rules.specs.Faults.{least, earlier}
use Rattle.go_exprs_rules.specs.Hints.{hint_seen}
use Rattle.go_exprs_rules.proofs.Public.{least_append}
use Rattle.go_exprs_types.specs.Naming.{names}
use Rattle.go_exprs_engine.proofs.Public.{names_stay, scope_known, basics_stay}
use Rattle.go_package_defs.specs.Verdicts.{part_in, faults_in, value_hint, own_value, type_faults, typed_type, own_faults, assigned_of, state_with}
use Rattle.go_declarations.specs.Judged.{fault_in}
use Rattle.go_declarations.specs.States.{ShowsState}
use Rattle.go_declarations.specs.Views.{specification_view}
use Rattle.go_declarations.proofs.Surveys.{part_stays, part_known}
use Rattle.go_declarations.proofs.judging.judge_name.Goals as goal

pub survey_part-requires-clause-hint : goal.survey_part-requires-clause-hint
survey_part-requires-clause-hint c = c.type_hint.ensures.known (length c.args.types.now.shapes)

pub survey_part-requires-2-clause-scope : goal.survey_part-requires-2-clause-scope
survey_part-requires-2-clause-scope c = scope_known c.args.types.now c.survey_part.new.types c.count.ensures.table c.survey_part.ensures.grows c.args.scope.now c.requires.scope

pub survey_part-requires-2-clause-basics : goal.survey_part-requires-2-clause-basics
survey_part-requires-2-clause-basics c = basics_stay c.args.types.now c.survey_part.new.types c.count.ensures.table c.survey_part.ensures.grows.extends c.args.scope.now.basics c.requires.basics

pub survey_part-requires-2-clause-hint : goal.survey_part-requires-2-clause-hint
survey_part-requires-2-clause-hint c = c.value_hint.ensures.known (length c.survey_part.new.types.shapes)

pub returns-in_err-value-clause-grows : goal.returns-in_err-value-clause-grows
returns-in_err-value-clause-grows c = grows_both c.args.types.now c.survey_part.new.types c.survey_part-2.new.types c.survey_part.ensures.grows c.survey_part-2.ensures.grows

pub judged-requires-clause-basics : goal.judged-requires-clause-basics
judged-requires-clause-basics c =
    let grown = grows_both c.args.types.now c.survey_part.new.types c.survey_part-2.new.types c.survey_part.ensures.grows c.survey_part-2.ensures.grows in
    basics_stay c.args.types.now c.survey_part-2.new.types c.count.ensures.table grown.extends c.args.scope.now.basics c.requires.basics

pub judged-requires-clause-of : goal.judged-requires-clause-of
judged-requires-clause-of c = part_known c.survey_part.new.types c.survey_part-2.new.types c.survey_part.ensures.grows.table c.survey_part-2.ensures.grows.extends c.in_ok-of.of c.in_ok-of.ensures.known

pub returns-clause-grows : goal.returns-clause-grows
returns-clause-grows c = grows_both c.args.types.now c.survey_part.new.types c.survey_part-2.new.types c.survey_part.ensures.grows c.survey_part-2.ensures.grows

pub returns-clause-shows : goal.returns-clause-shows
returns-clause-shows c =
    let a = c.args.types.now in
    let b = c.survey_part.new.types in
    let z = c.survey_part-2.new.types in
    let s = names a c.args.scope.now in
    let d = specification_view c.args.specification.now in
    let n = c.args.column in
    let of = c.in_ok-of.of in
    let value = c.in_ok-value.value in
    let one = c.survey_part.ensures.grows in
    let two = c.survey_part-2.ensures.grows in
    let same = names_stay a b c.count.ensures.table one c.args.scope.now c.requires.scope in
    let tree = option_map (λ x. view x.now) c.own_value.result in
    let fs = own_faults s d n in
    let of_fault : fault_in of ≡ least (type_faults s d) = c.in_ok-of.ensures.fault ∙ ap (λ h. least (faults_in s h d.type_tree)) (c.type_hint.ensures.hint a) in
    let value_fault : fault_in value ≡ least (faults_in s (value_hint d) (own_value d n)) =
    c.in_ok-value.ensures.fault ∙ ap (λ r. least (faults_in r (hint_seen b c.value_hint.result) tree)) same ∙ ap (λ h. least (faults_in s h tree)) (c.value_hint.ensures.hint b)
    ∙ ap (λ t. least (faults_in s (value_hint d) t)) c.own_value.ensures in
    let both : earlier (fault_in of) (fault_in value) ≡ least fs =
    ap (λ o. earlier o (fault_in value)) of_fault ∙ ap (earlier (least (type_faults s d))) value_fault ∙ sym (least_append (type_faults s d) (faults_in s (value_hint d) (own_value d n))) in
    let rights : rights_of z ≡ rights_of a = two.rights ∙ one.rights in
    let of_is : option_map (λ w. seen z w.node) of ≡ typed_type s d =
    part_stays b z one.table two.extends of c.in_ok-of.ensures.known ∙ c.in_ok-of.ensures.tree ∙ ap (λ h. part_in s h d.type_tree) (c.type_hint.ensures.hint a) in
    let value_is : option_map (λ w. seen z w.node) value ≡ part_in s (value_hint d) (own_value d n) =
    c.in_ok-value.ensures.tree ∙ ap (λ r. part_in r (hint_seen b c.value_hint.result) tree) same ∙ ap (λ h. part_in s h tree) (c.value_hint.ensures.hint b) ∙ ap (part_in s (value_hint d)) c.own_value.ensures in
    let there = ap (λ r. state_with fs (assigned_of r d n fs (option_map (λ w. seen z w.node) of) (option_map (λ w. seen z w.node) value))) rights
    ∙ ap (λ t. state_with fs (assigned_of (rights_of a) d n fs t (option_map (λ w. seen z w.node) value))) of_is
    ∙ ap (λ x. state_with fs (assigned_of (rights_of a) d n fs (typed_type s d) x)) value_is in
    IfOk-weaker c.judged.result _ _ (λ v h. subst (ShowsState z v) there h) (c.judged.ensures.shows fs both)
