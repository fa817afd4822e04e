use Rattle.std.proofs.Common.{◌≡◌, ◌∷◌, Some, None, map, ap, sym, subst, ◌∙◌}
use Rattle.std.specs.Option.{option_map}
use Rattle.go_types.specs.Tables.{type_of, rights_of}
use Rattle.go_typed.specs.Views.{seen}
use Rattle.go_exprs_rules.specs.Faults.{least}
use Rattle.go_exprs_rules.specs.Scopes.{Scope}
use Rattle.go_exprs_engine.proofs.Public.{node_known, node_stays}
use Rattle.go_stmts_defs.specs.Frames as frames
use Rattle.go_stmts_defs.specs.Frames.{Frame, with_own_right}
use Rattle.go_stmts_defs.specs.Laying.{type_number, type_name}
use Rattle.go_stmts_defs.specs.Reading.{back, right_side}
use Rattle.go_stmts_defs.specs.Rules.{first_fault}
use Rattle.go_stmts_parts.specs.Late.{all_too_large, late_seen}
use Rattle.go_stmts.specs.Signatures.{results_or}
use Rattle.go_stmts.specs.declared.state.State.{State}
use Rattle.go_stmts.specs.State.{Shows}
use Rattle.go_stmts.proofs.Showing.{state_known, known_iota, shows_with_iota}
use Rattle.go_stmts.specs.Types.{late_in, named_parts}
use Rattle.go_stmts.proofs.Closing.{shows_back}
use Rattle.go_stmts.proofs.Rights.{shows_right}
use Rattle.go_stmts.proofs.Types.{behind, type_reported, type_made, late_same}
use Rattle.go_stmts.proofs.finish.finish_type.Goals as goal

pub returns-in-Some-clause-exact : goal.returns-in-Some-clause-exact
returns-in-Some-clause-exact c = λ b s fs ps before has sound.
    let old = c.args.types.now in
    let new = c.set_right.new.types in
    let f = option_map (seen old) in
    let i = c.args.place.first in
    let xs = map f c.args.row.parts.items in
    let right_is : option_map (type_of old.shapes) c.right_side-right.result ≡ right_side (named_parts s i xs) =
    c.right_side-right.ensures.tree (Some (type_name s i)) ∙ ap (λ ns. right_side (Some (type_name s i) ∷ map f ns)) c.deref.ensures.value in
    let found = c.in_ok-late.ensures.found ∙ ap (λ ns. late_in (rights_of old) (map f ns)) c.deref-2.ensures.value in
    let named = c.in_ok-named.ensures.named c.args.row.tag (results_or c.args.row.results c.args.enclosing.results.now) s has in
    let same = late_same old new s i xs c.in_ok-late.late.items c.right_side-right.result c.set_right.ensures.shapes (ap (λ (z : Scope). z.rights) has.names) found right_is (c.in_ok-set_right.ensures.rights (type_number s i) named) in
    type_reported s i c.args.place.last b ps xs fs sound ∙ ap least (sym same) ∙ sym (c.late_fault.ensures ∙ ap (λ ls. least (first_fault (all_too_large (rights_of new) (map (late_seen new) ls)))) c.deref-3.ensures.value) ∙ c.in-Some.is

pub returns-clause-exact : goal.returns-clause-exact
returns-clause-exact c = λ b s fs ps before has sound.
    let old = c.args.types.now in
    let new = c.set_right.new.types in
    let ok = c.count.ensures.table in
    let o = c.args.surroundings.now in
    let k = c.args.state.now in
    let x = c.args.enclosing.tag.now in
    let rs = c.args.enclosing.results.now in
    let inner = results_or c.args.row.results rs in
    let f = option_map (seen old) in
    let i = c.args.place.first in
    let xs = map f c.args.row.parts.items in
    let k2 : State = record k { locals = c.set_iota.new.self } in
    let right_is : option_map (type_of old.shapes) c.right_side-right.result ≡ right_side (named_parts s i xs) =
    c.right_side-right.ensures.tree (Some (type_name s i)) ∙ ap (λ ns. right_side (Some (type_name s i) ∷ map f ns)) c.deref.ensures.value in
    let found = c.in_ok-late.ensures.found ∙ ap (λ ns. late_in (rights_of old) (map f ns)) c.deref-2.ensures.value in
    let named = c.in_ok-named.ensures.named c.args.row.tag inner s has in
    let rights = c.in_ok-set_right.ensures.rights (type_number s i) named in
    let same = late_same old new s i xs c.in_ok-late.late.items c.right_side-right.result c.set_right.ensures.shapes (ap (λ (z : Scope). z.rights) has.names) found right_is rights in
    let none : least (first_fault (all_too_large (behind s i xs) (late_in (frames.rights_of s) xs))) ≡ None =
    ap least (sym same) ∙ sym (c.late_fault.ensures ∙ ap (λ ls. least (first_fault (all_too_large (rights_of new) (map (late_seen new) ls)))) c.deref-3.ensures.value) ∙ c.in_default.is in
    let moved = shows_with_iota old o k x rs c.args.iota c.set_iota.new.self c.set_iota.ensures (back b s) (shows_back old o k x c.args.row.tag rs inner b s c.args.iota before has) in
    let righted = shows_right old new o k2 x rs (back b s) c.set_right.ensures.shapes moved (type_number s i) (option_map (type_of old.shapes) c.right_side-right.result) rights in
    type_made s i c.args.place.last b ps xs fs sound new o k2 x rs c.in_ok-node.node
    (node_stays old new ok c.set_right.ensures.extends c.in_ok-node.node c.in_ok-node.ensures.known ∙ c.in_ok-node.ensures.tree c.args.row.tag inner s has named)
    none (subst (λ r. Shows new o k2 x rs (with_own_right (type_number s i) r (back b s))) right_is righted)

pub returns-clause-known : goal.returns-clause-known
returns-clause-known c =
    let old = c.args.types.now in
    let new = c.set_right.new.types in
    let o = c.args.surroundings.now in
    let k = c.args.state.now in
    let x = c.args.enclosing.tag.now in
    let rs = c.args.enclosing.results.now in
    known_iota new o k x rs c.args.iota c.set_iota.new.self c.set_iota.ensures (state_known old new c.count.ensures.table c.set_right.ensures.extends o k x rs c.requires.known)

pub returns-clause-node : goal.returns-clause-node
returns-clause-node c = node_known c.args.types.now c.set_right.new.types c.count.ensures.table c.set_right.ensures.extends c.in_ok-node.node c.in_ok-node.ensures.known
