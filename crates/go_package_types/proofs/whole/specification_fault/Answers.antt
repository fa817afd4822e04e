use Rattle.std.proofs.Common.{◌≡◌, length, ap, sym, ◌∙◌}
use Rattle.std.specs.Option.{option_map}
use Rattle.std.proofs.lemmas.Result.{IfOk-weaker}
use Rattle.go_types.specs.Tables.{rights_of}
use Rattle.go_types_relations.proofs.Public.{grows_both}
use Rattle.go_typed.specs.Views.{seen}
use Rattle.go_exprs_rules.specs.Faults.{least, earlier}
use Rattle.go_exprs_rules.specs.TypeNodes.{part_type}
use Rattle.go_exprs_rules.proofs.Public.{least_append}
use Rattle.go_exprs_types.specs.Naming.{names}
use Rattle.go_exprs_engine.proofs.Public.{names_stay, scope_known, basics_stay}
use Rattle.go_package_defs.specs.Verdicts.{part_in, faults_in, value_hint, type_faults, values_faults, expression_faults, typed_type, typed_values, specification_failing}
use Rattle.go_declarations.specs.Judged.{fault_in}
use Rattle.go_declarations.specs.Views.{specification_view}
use Rattle.go_declarations.proofs.Public.{part_stays, part_known}
use Rattle.go_package_types.specs.Whole.{unless_failing, values_seen}
use Rattle.go_package_types.proofs.whole.specification_fault.Goals as goal

pub survey_part-requires-clause-hint : goal.survey_part-requires-clause-hint
survey_part-requires-clause-hint c = c.type_hint-hint.ensures.known (length c.args.types.now.shapes)

pub survey_values-requires-clause-scope : goal.survey_values-requires-clause-scope
survey_values-requires-clause-scope c = scope_known c.args.types.now c.survey_part.new.types c.count.ensures.table c.survey_part.ensures.grows c.args.scope.now c.requires.scope

pub survey_values-requires-clause-basics : goal.survey_values-requires-clause-basics
survey_values-requires-clause-basics c = basics_stay c.args.types.now c.survey_part.new.types c.count.ensures.table c.survey_part.ensures.grows.extends c.args.scope.now.basics c.requires.basics

pub returns-in_err-values-clause-grows : goal.returns-in_err-values-clause-grows
returns-in_err-values-clause-grows c = grows_both c.args.types.now c.survey_part.new.types c.survey_values.new.types c.survey_part.ensures.grows c.survey_values.ensures.grows

pub least_over-requires-clause-basics : goal.least_over-requires-clause-basics
least_over-requires-clause-basics c =
    let grown = grows_both c.args.types.now c.survey_part.new.types c.survey_values.new.types c.survey_part.ensures.grows c.survey_values.ensures.grows in
    basics_stay c.args.types.now c.survey_values.new.types c.count.ensures.table grown.extends c.args.scope.now.basics c.requires.basics

pub least_over-requires-clause-of : goal.least_over-requires-clause-of
least_over-requires-clause-of c = part_known c.survey_part.new.types c.survey_values.new.types c.survey_part.ensures.grows.table c.survey_values.ensures.grows.extends c.in_ok-of.of c.in_ok-of.ensures.known

pub returns-clause-grows : goal.returns-clause-grows
returns-clause-grows c = grows_both c.args.types.now c.survey_part.new.types c.survey_values.new.types c.survey_part.ensures.grows c.survey_values.ensures.grows

pub returns-clause-fault : goal.returns-clause-fault
returns-clause-fault c =
    let a = c.args.types.now in
    let b = c.survey_part.new.types in
    let z = c.survey_values.new.types in
    let s = names a c.args.scope.now in
    let d = specification_view c.args.specification.now in
    let of = c.in_ok-of.of in
    let values = c.in_ok-values.values in
    let one = c.survey_part.ensures.grows in
    let two = c.survey_values.ensures.grows in
    let same = names_stay a b c.count.ensures.table one c.args.scope.now c.requires.scope in
    let fs = expression_faults s d in
    let own = values_faults s (value_hint d) d.values in
    let of_fault : fault_in of ≡ least (type_faults s d) = c.in_ok-of.ensures.fault ∙ ap (λ h. least (faults_in s h d.type_tree)) (c.type_hint-hint.ensures.hint a) in
    let value_fault : values.fault ≡ least own = c.in_ok-values.ensures.fault ∙ ap (λ r. least (values_faults r (value_hint d) d.values)) same in
    let both : earlier (fault_in of) values.fault ≡ least fs =
    ap (λ o. earlier o values.fault) of_fault ∙ ap (earlier (least (type_faults s d))) value_fault ∙ sym (least_append (type_faults s d) own) in
    let rights : rights_of z ≡ rights_of a = two.rights ∙ one.rights in
    let of_is : option_map (λ w. seen z w.node) of ≡ typed_type s d =
    part_stays b z one.table two.extends of c.in_ok-of.ensures.known ∙ c.in_ok-of.ensures.tree ∙ ap (λ h. part_in s h d.type_tree) (c.type_hint-hint.ensures.hint a) in
    let parts_are : values_seen z values.parts.items ≡ typed_values s d = c.in_ok-values.ensures.parts ∙ ap (λ r. typed_values r d) same in
    let there = ap (λ r. unless_failing c.args.blocked (specification_failing d.entity r d (part_type (option_map (λ w. seen z w.node) of)) (values_seen z values.parts.items)) fs) rights
    ∙ ap (λ t. unless_failing c.args.blocked (specification_failing d.entity (rights_of a) d (part_type t) (values_seen z values.parts.items)) fs) of_is
    ∙ ap (λ xs. unless_failing c.args.blocked (specification_failing d.entity (rights_of a) d (part_type (typed_type s d)) xs) fs) parts_are in
    IfOk-weaker c.least_over.result _ _ (λ o h. h ∙ ap least there) (c.least_over.ensures fs both)
