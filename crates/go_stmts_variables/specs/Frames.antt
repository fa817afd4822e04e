-- What is known where statements begin in which variables stand in place of constants.
use Rattle.std.specs.Prelude.{◌≡◌, ℕ, false, Some, None, slice_get}
use Rattle.go_tree.specs.declared.object.Object.{Object}
use Rattle.go_tree.specs.declared.object.Object.TheVariants as object
use Rattle.go_typed.specs.declared.form.Form.TheVariants as form
use Rattle.go_typed.specs.declared.form.Referent.TheVariants as referent
use Rattle.go_typed.specs.Trees.{Value}
use Rattle.go_exprs_rules.specs.Names.{object_form, object_sort}
use Rattle.go_exprs_rules.specs.Scopes.{Needed, Scope}
use Rattle.go_exprs_rules.specs.Sorts.{is_open}
use Rattle.go_stmts_defs.specs.Frames.{Frame}
use Rattle.go_stmts_defs.specs.Laying.{local_named}
use Rattle.go_exprs_variables.specs.Stood.{Stood}
use Rattle.go_exprs_variables.specs.Variables.{Standin, Standins}

-- What is around the two functions says the same. At the first token of each expression in place of which a variable stands the new
-- one means that variable, which no other token means; all other tokens mean the same. Variables of the package have types.
pub record SaysSame (w : Standins) (s t : Scope) : Type 0 where
  pub texts : (i : ℕ) → t.texts i ≡ s.texts i
  pub characters : (i : ℕ) → t.characters i ≡ s.characters i
  pub sorts : (n : Needed) (o : Object) → t.sorts n o ≡ s.sorts n o
  pub referents : (n : ℕ) → t.referents n ≡ s.referents n
  pub needed : t.needed ≡ s.needed
  pub limits : t.limits ≡ s.limits
  pub objects : (i : ℕ) → w i ≡ None → t.objects i ≡ s.objects i
  pub variable : (i : ℕ) (v : Standin) → w i ≡ Some v → t.objects i ≡ Some (object.Local v.function v.local)
  pub apart : (i j : ℕ) (v : Standin) → w i ≡ Some v → w j ≡ None → local_named (s.objects j) ≡ Some v.local → ⊥
  pub typed : (n : Needed) (i r : ℕ) → object_form s (s.objects i) ≡ form.Object (referent.Variable r) → is_open (object_sort s n (s.objects i)) ≡ false

-- Frames around which the same is said. The variables stand for values of their types, and what other tokens name stands for what it
-- stood for. The tag of the switch may be a value in place of a constant; all else is the same.
pub record FramesStand (w : Standins) (s t : Frame) : Type 0 where
  pub says : SaysSame w s.around t.around
  pub rights : t.around.rights ≡ s.around.rights
  pub iota : t.around.iota ≡ s.around.iota
  pub own : (i : ℕ) (v : Standin) → w i ≡ Some v → slice_get t.locals v.local ≡ Some (Some (Value v.type))
  pub locals : (i n : ℕ) → w i ≡ None → local_named (s.around.objects i) ≡ Some n → slice_get t.locals n ≡ slice_get s.locals n
  pub types : (n : ℕ) → t.types n ≡ s.types n
  pub source : t.source ≡ s.source
  pub tag : Stood s.around.rights None s.tag t.tag
  pub results : t.results ≡ s.results
