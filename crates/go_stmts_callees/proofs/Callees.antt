-- What is called, and what has a field, is no constant (Go specification: Calls, Selectors).
use Rattle.std.proofs.Common.{◌≡◌, ℕ, Bool, true, false, if◌then◌else◌, List, [], ◌∷◌, Option, Some, None, refl}
use Rattle.std.specs.Prelude.{is_some}
use Rattle.go_constants.specs.declared.values.Const.{Const}
use Rattle.go_types.specs.Trees.{TypeTree, boolean, text, integer, array, slice, structure, function, declared}
use Rattle.go_types.specs.Relations.{Rights}
use Rattle.go_types_relations.specs.Tests.{underlying_of}
use Rattle.go_typed.specs.Trees as sort
use Rattle.go_exprs_rules.specs.declared.fault.TypeFault.{TypeFault}
use Rattle.go_exprs_rules.specs.Calls.{parameters_of, function_call_failing, call_failing}
use Rattle.go_exprs_rules.specs.Indexes.{named_field, selector_failing}
use Rattle.go_exprs_rules.specs.Settling.{Part}
use Rattle.go_exprs_rules.specs.Sorts.{Stands, is_family, family_of_const, family_of_type}
use Rattle.clone_window.specs.Masses.{is_constant}
use Rattle.go_stmts_final_types.specs.Names.{KeepsFamily}
use Rattle.go_stmts_callees.proofs.Uncalled.{differ}

never_fails : {A : Type 0} (f : TypeFault) (fs : List TypeFault) → f ∷ fs ≡ [] → A
never_fails f fs e = absurd cc

-- a type of a family is no function type, and no struct type
no_function : (rights : Rights) (i j : ℕ) (o : Option TypeTree) (c : Const) (xs : List Part) → is_family (family_of_const c) (family_of_type o) ≡ true → function_call_failing rights i j (parameters_of o) xs ≡ [] → ⊥
no_function rights i j None c xs f e = never_fails _ [] e
no_function rights i j (Some (function ps rs)) c xs f e = differ f
no_function rights i j (Some boolean) c xs f e = never_fails _ [] e
no_function rights i j (Some text) c xs f e = never_fails _ [] e
no_function rights i j (Some (integer k)) c xs f e = never_fails _ [] e
no_function rights i j (Some (array n t)) c xs f e = never_fails _ [] e
no_function rights i j (Some (slice t)) c xs f e = never_fails _ [] e
no_function rights i j (Some (structure ns ts)) c xs f e = never_fails _ [] e
no_function rights i j (Some (declared n)) c xs f e = never_fails _ [] e

pub callee_unconstant : (rights : Rights) (i j : ℕ) (x : Stands) (xs : List Part) → KeepsFamily rights x → call_failing rights i j x xs ≡ [] → is_constant x ≡ false
callee_unconstant rights i j (sort.Constant t c) xs k e = absurd (no_function rights i j (underlying_of rights t) c xs k e)
callee_unconstant rights i j (sort.OpenConstant c) xs k e = never_fails _ [] e
callee_unconstant rights i j x xs k e = refl

chosen_none : (b : Bool) (f : TypeFault) → (if b then [] else f ∷ []) ≡ [] → b ≡ true
chosen_none true f e = refl
chosen_none false f e = never_fails f [] e

no_struct : (o : Option TypeTree) (c : Const) (name : List ℕ) → is_family (family_of_const c) (family_of_type o) ≡ true → is_some (named_field o name) ≡ true → ⊥
no_struct None c name f e = differ e
no_struct (Some (structure ns ts)) c name f e = differ f
no_struct (Some boolean) c name f e = differ e
no_struct (Some text) c name f e = differ e
no_struct (Some (integer k)) c name f e = differ e
no_struct (Some (array n t)) c name f e = differ e
no_struct (Some (slice t)) c name f e = differ e
no_struct (Some (function ps rs)) c name f e = differ e
no_struct (Some (declared n)) c name f e = differ e

pub operand_unconstant : (rights : Rights) (i j : ℕ) (name : List ℕ) (x : Stands) → KeepsFamily rights x → selector_failing rights i j name x ≡ [] → is_constant x ≡ false
operand_unconstant rights i j name (sort.Constant t c) k e = absurd (no_struct (underlying_of rights t) c name k (chosen_none (is_some (named_field (underlying_of rights t) name)) _ e))
operand_unconstant rights i j name (sort.OpenConstant c) k e = never_fails _ [] e
operand_unconstant rights i j name x k e = refl
