use Rattle.std.proofs.Common.{◌≡◌, ℕ, Bool, Option, Some, None, subst, sym, ap, ◌∙◌, true, false, refl}
use Rattle.std.specs.Prelude.{slice_get, is_some, not}
use Rattle.go_types.specs.declared.shape.Shape.TheVariants as shape
use Rattle.go_types.specs.Tables.{IsTable}
use Rattle.go_types.proofs.Defining.{declaration_shape}
use Rattle.go_types.proofs.Settling.{declared_within}
use Rattle.go_types.proofs.types.Types.is_open.Goals as goal

pub right_of-requires : goal.right_of-requires
right_of-requires c =
    let ok : IsTable c.args.self.now = subst IsTable c.self.view_is c.self.invariant.kept.resolved.table in
    declared_within c.args.self.now ok c.args.a c.in-Some.number (declaration_shape (slice_get c.args.self.now.shapes c.args.a) c.in-Some.number (sym c.in-Some.ensures))

none_there : (o : Option ℕ) (b : Bool) → is_some o ≡ not b → b ≡ true → o ≡ None
none_there None b e t = refl
none_there (Some n) true e t = cc
none_there (Some n) false e t = cc

is_there : (o : Option ℕ) (b : Bool) → is_some o ≡ not b → o ≡ None → b ≡ true
is_there (Some n) b e t = cc
is_there None true e t = refl
is_there None false e t = cc

named : {a b : ℕ} → Some (shape.Named a) ≡ Some (shape.Named b) → a ≡ b
named e = cc

inside : {a b : Option ℕ} → Some a ≡ Some b → a ≡ b
inside e = cc

pub returns-in-Some : goal.returns-in-Some
returns-in-Some c =
    let at = declaration_shape (slice_get c.args.self.now.shapes c.args.a) c.in-Some.number (sym c.in-Some.ensures) in (
      λ h. (c.in-Some.number, at, c.right_of.ensures ∙ ap Some (none_there c.right_of.result c.is_none.result c.is_none.ensures h)),
      λ o. is_there c.right_of.result c.is_none.result c.is_none.ensures (inside (sym c.right_of.ensures ∙ subst (λ n. slice_get c.args.self.now.rights n ≡ Some None) (named (sym o.1 ∙ at)) o.2)),
    )
