-- What names stand for that are declared, and what values take.
use Rattle.std.proofs.Common.{ℕ, zero, suc, List, [], ◌∷◌, ◌++◌, length, map, Option, Some, None}
use Rattle.std.specs.Prelude.{replicate, take, drop, ◌-◌, ◌==◌, nat_lt}
use Rattle.go_grammar.specs.declared.kind.Kind.{Kind}
use Rattle.go_grammar.specs.declared.kind.Kind.TheVariants as kind
use Rattle.go_grammar.specs.declared.kind.Operator.TheVariants as operator
use Rattle.go_grammar.specs.declared.kind.Sort.TheVariants as declaring
use Rattle.go_types.specs.Trees.{TypeTree, TypeRow, none, more}
use Rattle.go_types.specs.Relations.{Rights}
use Rattle.go_types_relations.specs.Tests.{underlying_of}
use Rattle.go_typed.specs.declared.form.Form.{Form}
use Rattle.go_typed.specs.declared.form.Form.TheVariants as form
use Rattle.go_typed.specs.Trees.{form_of, sort_of}
use Rattle.go_typed.specs.Trees as sort
use Rattle.go_exprs_rules.specs.Calls.{results_of}
use Rattle.go_exprs_rules.specs.Operators.{operation_takes}
use Rattle.go_exprs_rules.specs.Scopes.{Scope}
use Rattle.go_exprs_rules.specs.Settling.{Part, Take, default, as_type}
use Rattle.go_exprs_rules.specs.Sorts.{Stands, own_type, value_type, is_constant, is_whole, is_text, form_of_value, element_of}
use Rattle.go_exprs_rules.specs.Tables.{Parts, present}
use Rattle.go_stmts_defs.specs.Assigning.{Wanted, types_in, called_results, whole_results, Taking, takes, stands, rests, type_or_default, first_known, variable, value_types_by, names_take, values_take, declared_names, constant_in, constants_take}
use Rattle.go_stmts_defs.specs.Frames.{Frame, Locals, rights_of, local_stands}
use Rattle.go_stmts_defs.specs.Rules.{target_type, form_type, known_type, type_there, values_there, element_types, number_types, range_types, names_in, rest, assign_takes, define_takes, variables_take, type_or_rest, specified_constants, returned, type_stands, elements_stand, last_part, range_stands, first_type, target_there, is_first_number, operand_takes, loop_takes, taking}
use Rattle.go_print_laws.specs.Reading.{IsWithin, RowIsWithin}
use Rattle.go_stmts_limits.specs.Limits.{StandsIsWithin, PartIsWithin, RightsAreWithin}
use Rattle.go_stmts_limits.proofs.Within.{MaybeWithin, MaybePart, PartsWithin, ListWithin}
use Rattle.go_stmts_limits.proofs.Values.{branch, sort_within, own_within, element_within, value_within, part_type_within, form_within, underlying_within, EntriesWithin, TakeWithin}
use Rattle.go_stmts_limits.proofs.Operators.{TakesWithin, operation_takes_within}
use Rattle.go_stmts_limits.proofs.Calls.{results_within}
use Rattle.go_stmts_limits.proofs.Nodes.{present_within, two_have}

module _ (limit : Scope) where
  abbrev pub TypesWithin : List TypeTree → Type 0
  TypesWithin [] = Unit {0}
  TypesWithin (t ∷ ts) = IsWithin limit t × TypesWithin ts

  abbrev pub MaybeTypes : Option (List TypeTree) → Type 0
  MaybeTypes None = Unit {0}
  MaybeTypes (Some ts) = TypesWithin ts

  abbrev pub TakingWithin : Taking → Type 0
  TakingWithin (takes k) = TakeWithin limit k
  TakingWithin (stands x) = StandsIsWithin limit x

  abbrev pub TakingsWithin : List Taking → Type 0
  TakingsWithin [] = Unit {0}
  TakingsWithin (k ∷ ks) = TakingWithin k × TakingsWithin ks

  -- ---- lists

  abbrev Wants : Wanted → Type 0
  Wants ts = EntriesWithin limit ts

  both_takings : (ks ls : List Taking) → TakingsWithin ks → TakingsWithin ls → TakingsWithin (ks ++ ls)
  both_takings [] ls a b = b
  both_takings (k ∷ ks) ls a b = (a.0, both_takings ks ls a.1 b)

  same_takings : (n : ℕ) (k : Taking) → TakingWithin k → TakingsWithin (replicate n k)
  same_takings zero k w = tt
  same_takings (suc n) k w = (w, same_takings n k w)

  taken : (n : ℕ) (ks : List Taking) → TakingsWithin ks → TakingsWithin (take n ks)
  taken zero ks w = tt
  taken (suc n) [] w = tt
  taken (suc n) (k ∷ ks) w = (w.0, taken n ks w.1)

  same_wanted : (n : ℕ) (t : Option TypeTree) → MaybeWithin limit t → Wants (replicate n t)
  same_wanted zero t w = tt
  same_wanted (suc n) t w = (w, same_wanted n t w)

  first_listed : (n : ℕ) (xs : List Part) → ListWithin limit xs → ListWithin limit (take n xs)
  first_listed zero xs w = tt
  first_listed (suc n) [] w = tt
  first_listed (suc n) (x ∷ xs) w = (w.0, first_listed n xs w.1)

  other_listed : (n : ℕ) (xs : List Part) → ListWithin limit xs → ListWithin limit (drop n xs)
  other_listed zero xs w = w
  other_listed (suc n) [] w = tt
  other_listed (suc n) (x ∷ xs) w = other_listed n xs w.1

  others : (n : ℕ) (xs : Parts) → PartsWithin limit xs → PartsWithin limit (drop n xs)
  others zero xs w = w
  others (suc n) [] w = tt
  others (suc n) (x ∷ xs) w = others n xs w.1

  -- ---- types

  pub types_within : (ts : TypeRow) → RowIsWithin limit ts → TypesWithin (types_in ts)
  types_within none w = tt
  types_within (more t ts) w = (w.0, types_within ts w.1)

  pub known_within : (t u : Option TypeTree) → MaybeWithin limit t → MaybeWithin limit u → MaybeWithin limit (first_known t u)
  known_within None u w h = h
  known_within (Some t) u w h = w

  pub variable_within : (t : Option TypeTree) → MaybeWithin limit t → StandsIsWithin limit (variable t)
  variable_within None w = tt
  variable_within (Some t) w = w

  or_default_within : (t : Option TypeTree) → MaybeWithin limit t → TakingWithin (type_or_default t)
  or_default_within None w = tt
  or_default_within (Some t) w = w

  or_rest_within : (t : Option TypeTree) → MaybeWithin limit t → TakingWithin (type_or_rest t)
  or_rest_within None w = tt
  or_rest_within (Some t) w = w

  somes_within : (rs : List TypeTree) → TypesWithin rs → Wants (map (λ r. Some r) rs)
  somes_within [] w = tt
  somes_within (r ∷ rs) w = (w.0, somes_within rs w.1)

  values_within : (xs : List Part) → ListWithin limit xs → Wants (map (λ x. value_type (sort_of x)) xs)
  values_within [] w = tt
  values_within (x ∷ xs) w = (value_within limit (sort_of x) (sort_within limit x w.0), values_within xs w.1)

  value_types_within : (xs : List Part) (o : Option (List TypeTree)) → ListWithin limit xs → MaybeTypes o → Wants (value_types_by xs o)
  value_types_within xs None w h = values_within xs w
  value_types_within xs (Some rs) w h = somes_within rs h

  names_within : (ts us : Wanted) → Wants ts → Wants us → TakingsWithin (names_take ts us)
  names_within [] us w h = tt
  names_within (t ∷ ts) [] w h = (variable_within t w.0, names_within ts [] w.1 tt)
  names_within (t ∷ ts) (u ∷ us) w h = (variable_within (first_known t u) (known_within t u w.0 h.0), names_within ts us w.1 h.1)

  taking_values : (ts : Wanted) (xs : List Part) → Wants ts → TakingsWithin (values_take ts xs)
  taking_values ts [] w = tt
  taking_values [] (x ∷ xs) w = (tt, taking_values [] xs tt)
  taking_values (t ∷ ts) (x ∷ xs) w = (or_default_within t w.0, taking_values ts xs w.1)

  pub constant_within : (t : Option TypeTree) (x : Stands) → MaybeWithin limit t → StandsIsWithin limit x → StandsIsWithin limit (constant_in t x)
  constant_within None x w h = branch (StandsIsWithin limit) (is_constant x) x sort.Unknown h tt
  constant_within (Some t) (sort.Constant u c) w h = w
  constant_within (Some t) (sort.OpenConstant c) w h = w
  constant_within (Some t) x w h = tt

  constants_within : {A : Type 0} (t : Option TypeTree) (ns : List A) (xs : List Part) → MaybeWithin limit t → ListWithin limit xs → TakingsWithin (constants_take t ns xs)
  constants_within t [] xs w h = tt
  constants_within t (n ∷ ns) [] w h = (tt, constants_within t ns [] w tt)
  constants_within t (n ∷ ns) (x ∷ xs) w h = (constant_within t (sort_of x) w (sort_within limit x h.0), constants_within t ns xs w h.1)

  targets_within : (ts : List Part) → ListWithin limit ts → Wants (map target_type ts)
  targets_within [] w = tt
  targets_within (t ∷ ts) w = (own_within limit (sort_of t) (sort_within limit t w.0), targets_within ts w.1)

  -- ---- specifications

  type_there_within : (n : ℕ) (xs : Parts) → PartsWithin limit xs → MaybeWithin limit (type_there n xs)
  type_there_within zero [] w = tt
  type_there_within zero (x ∷ xs) w = part_type_within limit x w.0
  type_there_within (suc n) [] w = tt
  type_there_within (suc n) (x ∷ xs) w = type_there_within n xs w.1

  values_there_within : (n : ℕ) (ys : Parts) → PartsWithin limit ys → ListWithin limit (values_there n ys)
  values_there_within n ys w = present_within limit (drop (suc n) ys) (others (suc n) ys w)

  rests_within : (t : Option TypeTree) (xs : List Part) → MaybeWithin limit t → TakingsWithin (map (λ x. type_or_rest t) xs)
  rests_within t [] w = tt
  rests_within t (x ∷ xs) w = (or_rest_within t w, rests_within t xs w)

  specified_within : (n : ℕ) (t : Option TypeTree) (xs : List Part) → MaybeWithin limit t → ListWithin limit xs → TakingsWithin (specified_constants n t xs)
  specified_within n t xs w h =
      both_takings (constants_take t (replicate n t) xs) (rests ∷ map (λ x. type_or_rest t) xs) (constants_within t (replicate n t) xs w h) (tt, rests_within t xs w)

  -- ---- returned values

  as_types : (ts : List TypeTree) → TypesWithin ts → TakingsWithin (map (λ t. takes (as_type t)) ts)
  as_types [] w = tt
  as_types (t ∷ ts) w = (w.0, as_types ts w.1)

  returned_within : (ts : List TypeTree) (xs : List Part) → TypesWithin ts → TakingsWithin (returned ts xs)
  returned_within ts xs w = branch TakingsWithin (length ts == length xs) (map (λ t. takes (as_type t)) ts) [] (as_types ts w) tt

  -- ---- range clauses

  element_types_within : (o : Option TypeTree) → MaybeWithin limit o → MaybeTypes (element_types o)
  element_types_within None w = tt
  element_types_within (Some t) w = (tt, (w, tt))

  number_types_within : (o : Option TypeTree) → MaybeWithin limit o → MaybeTypes (number_types o)
  number_types_within None w = tt
  number_types_within (Some t) w = (w, (tt, tt))

  stand_within : (ts : List TypeTree) → TypesWithin ts → TakingsWithin (map type_stands ts)
  stand_within [] w = tt
  stand_within (t ∷ ts) w = (w.0, stand_within ts w.1)

  elements_within : (n : ℕ) (o : Option (List TypeTree)) → MaybeTypes o → TakingsWithin (elements_stand n o)
  elements_within n None w = same_takings n (stands sort.Unknown) tt
  elements_within n (Some rs) w = taken n (map type_stands rs) (stand_within rs w)

  last_within : (xs : List Part) → ListWithin limit xs → MaybePart limit (last_part xs)
  last_within [] w = tt
  last_within (x ∷ []) w = w.0
  last_within (x ∷ y ∷ xs) w = last_within (y ∷ xs) w.1

  first_type_within : (ys : Parts) → PartsWithin limit ys → MaybeWithin limit (first_type ys)
  first_type_within [] w = tt
  first_type_within (None ∷ ys) w = tt
  first_type_within (Some t ∷ ys) w = own_within limit (sort_of t) (sort_within limit t w.0)

  target_there_within : (n : ℕ) (ys : Parts) → PartsWithin limit ys → MaybeWithin limit (target_there n ys)
  target_there_within n ys w = branch (MaybeWithin limit) (nat_lt 0 n) (first_type ys) None (first_type_within ys w) tt

  operand_within : (n : ℕ) (ys : Parts) → PartsWithin limit ys → TakingWithin (operand_takes n ys)
  operand_within n ys w =
      branch TakingWithin (is_first_number (drop n ys)) (type_or_default (target_there n ys)) (takes default) (or_default_within (target_there n ys) (target_there_within n ys w)) tt

  loop_within : (f : Form) (ys : Parts) → PartsWithin limit ys → TakingsWithin (loop_takes f ys)
  loop_within (form.Range defines n) ys w = both_takings (rest n) (operand_takes n ys ∷ []) (same_takings n rests tt) (operand_within n ys w, tt)
  loop_within f ys w = (tt, (tt, tt))

  mapped_takes : (ks : List Take) → TakesWithin limit ks → TakingsWithin (map takes ks)
  mapped_takes [] w = tt
  mapped_takes (k ∷ ks) w = (w.0, mapped_takes ks w.1)

module _ (limit : Scope) (rights : Rights) (a : RightsAreWithin limit rights) where
  pub called_within : (x : Stands) → StandsIsWithin limit x → MaybeTypes limit (called_results rights x)
  called_within (sort.Results t) w = types_within limit (results_of (underlying_of rights t)) (results_within limit (underlying_of rights t) (underlying_within limit rights a t w))
  called_within x w = tt

  whole_within : (xs : List Part) → ListWithin limit xs → MaybeTypes limit (whole_results rights xs)
  whole_within (x ∷ []) w = called_within (sort_of x) (sort_within limit x w.0)
  whole_within xs w = tt

  declared_within : (ts : Wanted) (xs : List Part) → EntriesWithin limit ts → ListWithin limit xs → TakingsWithin limit (declared_names rights ts xs)
  declared_within ts xs w h = names_within limit ts (value_types_by xs (whole_results rights xs)) w (value_types_within limit xs (whole_results rights xs) h (whole_within xs h))

  variables_within : (n : ℕ) (t : Option TypeTree) (xs : List Part) → MaybeWithin limit t → ListWithin limit xs → TakingsWithin limit (variables_take rights n t xs)
  variables_within n t xs w h =
      let ts = replicate n t in
      both_takings limit (declared_names rights ts xs) (rests ∷ values_take ts xs) (declared_within ts xs (same_wanted limit n t w) h) (tt, taking_values limit ts xs (same_wanted limit n t w))

  range_types_within : (x : Part) → PartIsWithin limit x → MaybeTypes limit (range_types rights x)
  range_types_within x w =
      let s = sort_within limit x w in
      branch (MaybeTypes limit) (is_text rights (sort_of x)) _ _ (tt, (tt, tt))
      (branch (MaybeTypes limit) (is_whole rights (sort_of x)) (number_types (value_type (sort_of x))) (element_types (element_of (form_of_value rights (sort_of x))))
      (number_types_within limit (value_type (sort_of x)) (value_within limit (sort_of x) s))
      (element_types_within limit (element_of (form_of_value rights (sort_of x))) (element_within limit (form_of_value rights (sort_of x)) (form_within limit rights a (sort_of x) s))))

  range_within : (n : ℕ) (o : Option Part) → MaybePart limit o → TakingsWithin limit (range_stands rights n o)
  range_within n None w = tt
  range_within n (Some x) w = elements_within limit n (range_types rights x) (range_types_within x w)

-- of locals that are declared, and of none
module _ (limit : Scope) where
  abbrev pub LocalsWithin : Locals → Type 0
  LocalsWithin ls = (n : ℕ) → StandsIsWithin limit (local_stands ls n)

  form_type_within : (ls : Locals) (f : Form) → LocalsWithin ls → MaybeWithin limit (form_type ls f)
  form_type_within ls (form.Local n) a = own_within limit (local_stands ls n) (a n)
  form_type_within ls f a = tt

  known_types_within : (ls : Locals) (ns : List Part) → LocalsWithin ls → EntriesWithin limit (map (known_type ls) ns)
  known_types_within ls [] a = tt
  known_types_within ls (n ∷ ns) a = (form_type_within ls (form_of n) a, known_types_within ls ns a)

-- ---- what the parts of a statement take

module _ (limit : Scope) (s : Frame) (a : RightsAreWithin limit (rights_of s)) (ls : LocalsWithin limit s.locals) (tag : StandsIsWithin limit s.tag) (rs : TypesWithin limit s.results) where
  define_within : (ns xs : List Part) → ListWithin limit xs → TakingsWithin limit (define_takes s ns xs)
  define_within ns xs w =
      let ts = map (known_type s.locals) ns in
      let k = known_types_within limit s.locals ns ls in
      both_takings limit (declared_names (rights_of s) ts xs) (values_take ts xs) (declared_within limit (rights_of s) a ts xs k w) (taking_values limit ts xs k)

  assign_within : (ts xs : List Part) → ListWithin limit ts → TakingsWithin limit (assign_takes ts xs)
  assign_within ts xs w = both_takings limit (rest (length ts)) (values_take (map target_type ts) xs) (same_takings limit (length ts) rests tt) (taking_values limit (map target_type ts) xs (targets_within limit ts w))

  pub taking_within : (k : Kind) (f : Form) (ys : Parts) → PartsWithin limit ys → TakingsWithin limit (taking s k f ys)
  taking_within (kind.OperatorAssignment o) f ys w =
      two_have limit (TakingsWithin limit) [] tt (λ x y. map takes (operation_takes (rights_of s) (operator.Compute o) (sort_of x) (sort_of y)))
      (λ x y u q. mapped_takes limit (operation_takes (rights_of s) (operator.Compute o) (sort_of x) (sort_of y))
      (operation_takes_within limit (rights_of s) a (operator.Compute o) (sort_of x) (sort_of y) (sort_within limit x u) (sort_within limit y q))) ys w
  taking_within kind.Assignment f ys w =
      let xs = present ys in
      assign_within (take (names_in f) xs) (drop (names_in f) xs) (first_listed limit (names_in f) xs (present_within limit ys w))
  taking_within kind.Define f ys w =
      let xs = present ys in
      define_within (take (names_in f) xs) (drop (names_in f) xs) (other_listed limit (names_in f) xs (present_within limit ys w))
  taking_within (kind.Specification declaring.Variable) f ys w =
      variables_within limit (rights_of s) a (names_in f) (type_there (names_in f) ys) (values_there (names_in f) ys) (type_there_within limit (names_in f) ys w) (values_there_within limit (names_in f) ys w)
  taking_within (kind.Specification declaring.Constant) f ys w =
      specified_within limit (names_in f) (type_there (names_in f) ys) (values_there (names_in f) ys) (type_there_within limit (names_in f) ys w) (values_there_within limit (names_in f) ys w)
  taking_within kind.Return f ys w = returned_within limit s.results (present ys) rs
  taking_within kind.If f ys w = (tt, (tt, tt))
  taking_within kind.For f ys w = loop_within limit f ys w
  taking_within kind.DefiningRange f ys w = range_within limit (rights_of s) a (length ys - 1) (last_part (present ys)) (last_within limit (present ys) (present_within limit ys w))
  taking_within kind.Switch f ys w = (tt, (tt, tt))
  taking_within kind.Case f ys w = same_takings limit (names_in f) (type_or_default (own_type s.tag)) (or_default_within limit (own_type s.tag) (own_within limit s.tag tag))
  taking_within k f ys w = tt
