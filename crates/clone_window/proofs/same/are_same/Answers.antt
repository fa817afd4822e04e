use Rattle.std.proofs.Common.{sym, map, ◌∙◌}
use Rattle.std.specs.Prelude.{Bool, false, true, ◌≡◌, ◌&&◌, nat_eq}
use Rattle.std.specs.List.{list_all}
use Rattle.std.proofs.lemmas.Bool.{and_parts}
use Rattle.std.proofs.lemmas.Result.{IfOk-weaker}
use Rattle.go_typed.specs.Views.{sort_view, views}
use Rattle.clone_window.specs.Fields.{field_text, window_fields_agree}
use Rattle.clone_window.specs.Sameness.{all_agree, is_matched, is_one_to_one, is_same, local_pairs}
use Rattle.clone_window.proofs.SameNames.{not-same, same-but-fields}
use Rattle.clone_window.proofs.same.are_same.Goals as goal

pub returns-then-not-statements_agree : goal.returns-then-not-statements_agree
returns-then-not-statements_agree c =
    let ps = views c.args.run.now.statements.now in
    let qs = views c.args.other.now.statements.now in
    let here = map sort_view c.args.run.now.locals.now in
    let there = map sort_view c.args.other.now.locals.now in
    let names = field_text c.args.types.now in
    sym (not-same (all_agree nat_eq false false ps qs) (window_fields_agree names names ps qs) (is_one_to_one (local_pairs ps qs)) (list_all (is_matched nat_eq here there) (local_pairs ps qs))
    (sym c.statements_agree.ensures ∙ c.if-not-statements_agree.true))

pub returns : goal.returns
returns c =
    let ps = views c.args.run.now.statements.now in
    let qs = views c.args.other.now.statements.now in
    let here = map sort_view c.args.run.now.locals.now in
    let there = map sort_view c.args.other.now.locals.now in
    let names = field_text c.args.types.now in
    let agreed = and_parts (all_agree nat_eq false false ps qs) (window_fields_agree names names ps qs) (sym c.statements_agree.ensures ∙ c.if-not-statements_agree.false) in
    let same = is_same nat_eq here there ps qs in
    let P : Bool → Type 0 = λ b. all_agree nat_eq false false ps qs ≡ true → b ≡ same in
    let Q : Bool → Type 0 = λ b. b ≡ (same && window_fields_agree names names ps qs) in
    IfOk-weaker c.are_paired.result P Q (λ b e. e agreed.0 ∙ same-but-fields same (window_fields_agree names names ps qs) agreed.1) c.are_paired.ensures
