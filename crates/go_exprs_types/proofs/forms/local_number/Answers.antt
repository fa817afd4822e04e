use Rattle.std.proofs.Common.{◌≡◌, Some, None, true, false, ap, sym, ◌∙◌}
use Rattle.std.specs.Prelude.{is_some}
use Rattle.std.proofs.Math.Nat.{min-eq_left}
use Rattle.go_tree.specs.declared.object.Object.TheVariants as object
use Rattle.go_tree.specs.Uses.{object_of, local_of}
use Rattle.go_exprs_types.proofs.LocalNumbers.{number_below_name}
use Rattle.go_exprs_types.proofs.forms.local_number.Goals as goal

pub unreachable-requires : goal.unreachable-requires
unreachable-requires c =
    let uses = c.args.scope.now.uses.now in
    let told : c.object-2.result ≡ Some (object.Local c.args.function c.args.number) = c.object-2.ensures.object ∙ ap (λ f. object_of uses f c.place.result) c.file.ensures ∙ ap (object_of uses c.args.scope.now.tokens.now.file) c.place.ensures ∙ c.requires in
    let there : is_some (local_of uses c.args.function c.args.number) ≡ true = c.object-2.ensures.declared (object.Local c.args.function c.args.number) told in
    let none : local_of uses c.args.function c.args.number ≡ None = sym c.local.ensures ∙ c.in-None.is in
    let wrong : false ≡ true = sym (ap is_some none) ∙ there in
    cc

pub returns : goal.returns
returns c =
    c.min.ensures ∙ min-eq_left (number_below_name c.args.scope.now.uses.now c.object-2.ensures.complete c.args.function c.args.number c.in-Some.local (sym c.local.ensures ∙ c.in-Some.is))
