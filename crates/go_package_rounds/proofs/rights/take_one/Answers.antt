use Rattle.std.proofs.Common.{◌≡◌, ℕ, ◌+◌, [], ◌∷◌, ◌++◌, length, refl, ap, sym, ◌∙◌, true, arith}
use Rattle.std.specs.Option.{option_map}
use Rattle.std.proofs.lemmas.List.{length-append}
use Rattle.go_types.specs.Trees.{declared}
use Rattle.go_types.specs.Tables.{type_of, rights_of}
use Rattle.go_package_defs.specs.Knowledge.{is_type}
use Rattle.go_package_rounds.specs.Rights.{behind}
use Rattle.go_package_rounds.proofs.rights.take_one.Goals as goal

pub take_right-requires-clause-named : goal.take_right-requires-clause-named
take_right-requires-clause-named c = (c.requires.named c.args.place c.in-Some.type_id (sym c.named_type.ensures ∙ c.in-Some.is)).0

pub returns-in-Some-checked_add-clause-rights : goal.returns-in-Some-checked_add-clause-rights
returns-in-Some-checked_add-clause-rights c = λ before after count e.
    let f = option_map (type_of c.args.types.now.shapes) in
    let yes : is_type c.args.entity ≡ true = ap is_type c.in-Type.is in
    let is = (c.requires.named c.args.place c.in-Some.type_id (sym c.named_type.ensures ∙ c.in-Some.is)).1 ∙ ap declared (sym count) in
    let here : rights_of c.args.types.now ≡ before ++ f c.args.old ∷ after = e ∙ ap (λ b. before ++ behind b (f c.args.old) after) yes in
    let taken : rights_of c.take_right.new.types ≡ before ++ f c.args.new ∷ after = c.in_ok-take_right-in-Type.ensures.rights before after is here in
    let next = c.in-Some-checked_add.ensures.1 in
    let more = length-append before (f c.args.new ∷ []) in
    let size : length (before ++ f c.args.new ∷ []) ≡ c.in-Some-checked_add.next = omega (arith, more, next, count) in
    (ap (λ b. length (before ++ behind b (f c.args.new) [])) yes ∙ size, taken ∙ sym (ap (λ b. before ++ behind b (f c.args.new) after) yes))
