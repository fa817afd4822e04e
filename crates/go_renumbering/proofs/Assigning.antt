-- Values that are given to variables, with other numbers of declared types.
use Rattle.std.proofs.Common.{◌≡◌, ◌∙◌, ℕ, suc, List, [], ◌∷◌, map, length, Option, Some, None, refl, ap, cond, arith}
use Rattle.std.specs.Option.{option_map}
use Rattle.go_types.specs.Trees.{TypeTree, TypeRow, none, more}
use Rattle.go_types.specs.Relations.{Rights}
use Rattle.go_types_relations.specs.Renaming.{renamed, renamed_row, IsOneToOne, AreRenamed}
use Rattle.go_types_relations.specs.Tests.{underlying_of}
use Rattle.go_typed.specs.Trees.{typed, sort_of}
use Rattle.go_typed.specs.Trees as sort
use Rattle.go_exprs_rules.specs.Calls.{results_of}
use Rattle.go_exprs_rules.specs.Settling.{Part, default}
use Rattle.go_exprs_rules.specs.Sorts.{Stands, value_type, is_constant}
use Rattle.go_stmts_defs.specs.Assigning.{Wanted, types_in, called_results, whole_results, at_nil, unassigned, all_unassigned, result_unassigned, results_unassigned, call_assigned, assignment_by, assignment_failing, constant_failing, constants_failing, Taking, takes, stands, type_or_default, first_known, variable, value_types_by, names_take, values_take, declared_names, constant_in, constants_take}
use Rattle.go_renumbering.specs.Renumbered.{stands_renamed, part_renamed}
use Rattle.go_renumbering.proofs.Parts.{every, count_kept, branches}
use Rattle.go_renumbering.proofs.Settling.{take_renamed, undefaulted_kept, unassignable_kept}
use Rattle.go_renumbering.proofs.Sorts.{maybe, constant_same, nil_same, value_same, results_same, und, assignable_same}

pub mapped_length : {A B : Type 0} (f : A → B) (xs : List A) → length (map f xs) ≡ length xs
mapped_length f [] = refl
mapped_length f (x ∷ xs) = ap suc (mapped_length f xs)

module _ (name : ℕ → ℕ) where
  abbrev pub wanted_renamed : Wanted → Wanted
  wanted_renamed ts = map (maybe name) ts

  abbrev pub types_renamed : List TypeTree → List TypeTree
  types_renamed ts = map (renamed name) ts

  abbrev pub some_types : Option (List TypeTree) → Option (List TypeTree)
  some_types o = option_map types_renamed o

  abbrev pub taking_renamed : Taking → Taking
  taking_renamed (takes k) = takes (take_renamed name k)
  taking_renamed (stands x) = stands (stands_renamed name x)

  abbrev pub takings_renamed : List Taking → List Taking
  takings_renamed ks = map taking_renamed ks

  pub types_in_same : (ts : TypeRow) → types_in (renamed_row name ts) ≡ types_renamed (types_in ts)
  types_in_same none = refl
  types_in_same (more t ts) = ap (λ us. renamed name t ∷ us) (types_in_same ts)

  pub at_nil_same : (x : Part) → at_nil (part_renamed name x) ≡ at_nil x
  at_nil_same (typed f i j l ps) = let e = nil_same name l.sort in cc

  -- ---- what names stand for, and what values take

  pub type_or_default_same : (o : Option TypeTree) → type_or_default (maybe name o) ≡ taking_renamed (type_or_default o)
  type_or_default_same None = refl
  type_or_default_same (Some t) = refl

  variable_same : (t u : Option TypeTree) → stands (variable (first_known (maybe name t) (maybe name u))) ≡ taking_renamed (stands (variable (first_known t u)))
  variable_same (Some t) u = refl
  variable_same None (Some u) = refl
  variable_same None None = refl

  own_variable : (t : Option TypeTree) → stands (variable (maybe name t)) ≡ taking_renamed (stands (variable t))
  own_variable (Some t) = refl
  own_variable None = refl

  names_take_same : (ts us : Wanted) → names_take (wanted_renamed ts) (wanted_renamed us) ≡ takings_renamed (names_take ts us)
  names_take_same [] us = refl
  names_take_same (t ∷ ts) [] = let e = own_variable t in let f = names_take_same ts [] in cc
  names_take_same (t ∷ ts) (u ∷ us) = let e = variable_same t u in let f = names_take_same ts us in cc

  pub values_take_same : (ts : Wanted) (xs : List Part) → values_take (wanted_renamed ts) (every name xs) ≡ takings_renamed (values_take ts xs)
  values_take_same ts [] = refl
  values_take_same [] (x ∷ xs) = ap (λ ks. takes default ∷ ks) (values_take_same [] xs)
  values_take_same (t ∷ ts) (x ∷ xs) = let e = type_or_default_same t in let f = values_take_same ts xs in cc

  pub some_each : (rs : List TypeTree) → map (λ (r : TypeTree). Some r) (types_renamed rs) ≡ wanted_renamed (map (λ (r : TypeTree). Some r) rs)
  some_each [] = refl
  some_each (r ∷ rs) = ap (λ z. Some (renamed name r) ∷ z) (some_each rs)

  value_each : (xs : List Part) → map (λ x. value_type (sort_of x)) (every name xs) ≡ wanted_renamed (map (λ x. value_type (sort_of x)) xs)
  value_each [] = refl
  value_each (typed f i j l ps ∷ xs) = let e = value_same name l.sort in let h = value_each xs in cc

  value_types_same : (xs : List Part) (o : Option (List TypeTree)) → value_types_by (every name xs) (some_types o) ≡ wanted_renamed (value_types_by xs o)
  value_types_same xs None = value_each xs
  value_types_same xs (Some rs) = some_each rs

  constants_same : (x : Stands) → is_constant (stands_renamed name x) ≡ is_constant x
  constants_same x = let e = constant_same name x in cc

  own_constant : (x : Stands) → cond (is_constant (stands_renamed name x)) (stands_renamed name x) sort.Unknown ≡ stands_renamed name (cond (is_constant x) x sort.Unknown)
  own_constant x = ap (λ b. cond b (stands_renamed name x) sort.Unknown) (constants_same x) ∙ branches (stands_renamed name) (is_constant x) x sort.Unknown

  constant_in_same : (t : Option TypeTree) (x : Stands) → constant_in (maybe name t) (stands_renamed name x) ≡ stands_renamed name (constant_in t x)
  constant_in_same None x = own_constant x
  constant_in_same (Some t) (sort.Constant u c) = refl
  constant_in_same (Some t) x = refl

  pub constants_take_same : {A B : Type 0} (t : Option TypeTree) (ns : List A) (ms : List B) (xs : List Part) → length ms ≡ length ns → constants_take (maybe name t) ms (every name xs) ≡ takings_renamed (constants_take t ns xs)
  constants_take_same t [] [] xs e = refl
  constants_take_same t (n ∷ ns) (m ∷ ms) [] e = ap (λ ks. stands sort.Unknown ∷ ks) (constants_take_same t ns ms [] (omega (arith, e)))
  constants_take_same t (n ∷ ns) (m ∷ ms) (typed f i j l ps ∷ xs) e =
      let h = constant_in_same t l.sort in
      let k = constants_take_same t ns ms xs (omega (arith, e)) in
      cc
  constants_take_same t [] (m ∷ ms) xs e = absurd (omega (arith, e))
  constants_take_same t (n ∷ ns) [] xs e = absurd (omega (arith, e))

module _ (name : ℕ → ℕ) (one : IsOneToOne name) (old new : Rights) (same : AreRenamed name old new) where
  pub results_types : (t : TypeTree) → types_in (results_of (underlying_of new (renamed name t))) ≡ types_renamed name (types_in (results_of (underlying_of old t)))
  results_types t =
      ap (λ o. types_in (results_of o)) (und name one old new same t) ∙ ap types_in (results_same name (underlying_of old t)) ∙ types_in_same name (results_of (underlying_of old t))

  called_results_same : (x : Stands) → called_results new (stands_renamed name x) ≡ some_types name (called_results old x)
  called_results_same (sort.Results t) = ap Some (results_types t)
  called_results_same x = refl

  pub whole_results_same : (xs : List Part) → whole_results new (every name xs) ≡ some_types name (whole_results old xs)
  whole_results_same [] = refl
  whole_results_same (typed f i j l ps ∷ []) = called_results_same l.sort
  whole_results_same (x ∷ y ∷ ys) = refl

  pub unassigned_same : (t : Option TypeTree) (x : Part) → unassigned new (maybe name t) (part_renamed name x) ≡ unassigned old t x
  unassigned_same (Some t) x = unassignable_kept name one old new same t x
  unassigned_same None (typed f i j l ps) = let e = nil_same name l.sort in let h = undefaulted_kept name one old new same (typed f i j l ps) in cc

  all_unassigned_same : (ts : Wanted) (xs : List Part) → all_unassigned new (wanted_renamed name ts) (every name xs) ≡ all_unassigned old ts xs
  all_unassigned_same [] xs = refl
  all_unassigned_same (t ∷ ts) [] = refl
  all_unassigned_same (t ∷ ts) (x ∷ xs) = let e = unassigned_same t x in let f = all_unassigned_same ts xs in cc

  result_unassigned_same : (x : Part) (t : Option TypeTree) (r : TypeTree) → result_unassigned new (part_renamed name x) (maybe name t) (renamed name r) ≡ result_unassigned old x t r
  result_unassigned_same x None r = refl
  result_unassigned_same (typed f i j l ps) (Some t) r = let e = assignable_same name one old new same r t in cc

  results_unassigned_same : (x : Part) (ts : Wanted) (rs : List TypeTree) → results_unassigned new (part_renamed name x) (wanted_renamed name ts) (types_renamed name rs) ≡ results_unassigned old x ts rs
  results_unassigned_same x [] rs = refl
  results_unassigned_same x (t ∷ ts) [] = refl
  results_unassigned_same x (t ∷ ts) (r ∷ rs) = let e = result_unassigned_same x t r in let f = results_unassigned_same x ts rs in cc

  call_assigned_same : (ts : Wanted) (xs : List Part) (rs : List TypeTree) → call_assigned new (wanted_renamed name ts) (every name xs) (types_renamed name rs) ≡ call_assigned old ts xs rs
  call_assigned_same ts [] rs = refl
  call_assigned_same ts (x ∷ xs) rs = results_unassigned_same x ts rs

  assignment_by_same : (i j : ℕ) (ts : Wanted) (xs : List Part) (o : Option (List TypeTree)) → assignment_by new i j (wanted_renamed name ts) (every name xs) (some_types name o) ≡ assignment_by old i j ts xs o
  assignment_by_same i j ts xs (Some rs) =
      let e = mapped_length (maybe name) ts in
      let f = mapped_length (renamed name) rs in
      let g = call_assigned_same ts xs rs in
      cc
  assignment_by_same i j ts xs None =
      let e = mapped_length (maybe name) ts in
      let f = count_kept name xs in
      let g = all_unassigned_same ts xs in
      cc

  pub assignment_same : (i j : ℕ) (ts : Wanted) (xs : List Part) → assignment_failing new i j (wanted_renamed name ts) (every name xs) ≡ assignment_failing old i j ts xs
  assignment_same i j ts xs = ap (assignment_by new i j (wanted_renamed name ts) (every name xs)) (whole_results_same xs) ∙ assignment_by_same i j ts xs (whole_results old xs)

  constant_failing_same : (t : Option TypeTree) (x : Part) → constant_failing new (maybe name t) (part_renamed name x) ≡ constant_failing old t x
  constant_failing_same (Some t) (typed f i j l ps) = let e = constant_same name l.sort in let h = unassignable_kept name one old new same t (typed f i j l ps) in cc
  constant_failing_same None (typed f i j l ps) = let e = constant_same name l.sort in cc

  pub constants_failing_same : (t : Option TypeTree) (xs : List Part) → constants_failing new (maybe name t) (every name xs) ≡ constants_failing old t xs
  constants_failing_same t [] = refl
  constants_failing_same t (x ∷ xs) = let e = constant_failing_same t x in let f = constants_failing_same t xs in cc

  pub declared_names_same : (ts : Wanted) (xs : List Part) → declared_names new (wanted_renamed name ts) (every name xs) ≡ takings_renamed name (declared_names old ts xs)
  declared_names_same ts xs =
      ap (λ o. names_take (wanted_renamed name ts) (value_types_by (every name xs) o)) (whole_results_same xs)
      ∙ ap (names_take (wanted_renamed name ts)) (value_types_same name xs (whole_results old xs)) ∙ names_take_same name ts (value_types_by xs (whole_results old xs))
