-- What names stand for that are declared, and what values take.
use Rattle.std.proofs.Common.{ℕ, zero, suc, List, [], ◌∷◌, ◌++◌, length, map, Option, Some, None}
use Rattle.std.specs.Prelude.{replicate, take, drop, ◌-◌, ◌==◌, nat_lt}
use Rattle.go_grammar.specs.declared.kind.Kind.{Kind}
use Rattle.go_grammar.specs.declared.kind.Kind.TheVariants as kind
use Rattle.go_grammar.specs.declared.kind.Operator.TheVariants as operator
use Rattle.go_grammar.specs.declared.kind.Sort.TheVariants as declaring
use Rattle.go_types.specs.Trees.{TypeTree, TypeRow, none, more}
use Rattle.go_types.specs.Relations.{Rights}
use Rattle.go_types_relations.specs.Tests.{underlying_of}
use Rattle.go_typed.specs.declared.form.Form.{Form}
use Rattle.go_typed.specs.declared.form.Form.TheVariants as form
use Rattle.go_typed.specs.Trees.{form_of, sort_of}
use Rattle.go_typed.specs.Trees as sort
use Rattle.go_exprs_rules.specs.Calls.{results_of}
use Rattle.go_exprs_rules.specs.Operators.{operation_takes}
use Rattle.go_exprs_rules.specs.Settling.{Part, Take, default, as_type}
use Rattle.go_exprs_rules.specs.Sorts.{Stands, own_type, value_type, is_constant, is_whole, is_text, form_of_value, element_of}
use Rattle.go_exprs_rules.specs.Tables.{Parts, present}
use Rattle.go_stmts_defs.specs.Assigning.{Wanted, types_in, called_results, whole_results, Taking, takes, stands, rests, type_or_default, first_known, variable, value_types_by, names_take, values_take, declared_names, constant_in, constants_take}
use Rattle.go_stmts_defs.specs.Frames.{Frame, Locals, rights_of, local_stands}
use Rattle.go_stmts_defs.specs.Rules.{target_type, form_type, known_type, type_there, values_there, element_types, number_types, range_types, names_in, rest, assign_takes, define_takes, variables_take, type_or_rest, specified_constants, returned, type_stands, elements_stand, last_part, range_stands, first_type, target_there, is_first_number, operand_takes, loop_takes, taking}
use Rattle.go_stmts_written.specs.Named.{RowIsNamed}
use Rattle.go_stmts_written.specs.Named.{StandsIsNamed, RightsAreNamed}
use Rattle.go_stmts_written.proofs.Said.{MaybeNamed, MaybePart, PartsNamed, ListNamed, PartIsNamed, TakesNamed, TakingNamed, TakingsNamed, EntriesNamed, TypesNamed, MaybeTypes, LocalsNamed}
use Rattle.go_stmts_written.proofs.Values.{branch, sort_named, own_named, element_named, value_named, part_type_named, form_named, underlying_named}
use Rattle.go_stmts_written.proofs.Operators.{operation_takes_named}
use Rattle.go_stmts_written.proofs.Calls.{results_named}
use Rattle.go_stmts_written.proofs.Nodes.{present_named, two_have}

module _ (texts : ℕ → List ℕ) where
  -- ---- lists

  abbrev Wants : Wanted → Type 0
  Wants ts = EntriesNamed ts

  both_takings : (ks ls : List Taking) → TakingsNamed ks → TakingsNamed ls → TakingsNamed (ks ++ ls)
  both_takings [] ls a b = b
  both_takings (k ∷ ks) ls a b = (a.0, both_takings ks ls a.1 b)

  same_takings : (n : ℕ) (k : Taking) → TakingNamed k → TakingsNamed (replicate n k)
  same_takings zero k w = tt
  same_takings (suc n) k w = (w, same_takings n k w)

  taken : (n : ℕ) (ks : List Taking) → TakingsNamed ks → TakingsNamed (take n ks)
  taken zero ks w = tt
  taken (suc n) [] w = tt
  taken (suc n) (k ∷ ks) w = (w.0, taken n ks w.1)

  same_wanted : (n : ℕ) (t : Option TypeTree) → MaybeNamed t → Wants (replicate n t)
  same_wanted zero t w = tt
  same_wanted (suc n) t w = (w, same_wanted n t w)

  first_listed : (n : ℕ) (xs : List Part) → ListNamed texts xs → ListNamed texts (take n xs)
  first_listed zero xs w = tt
  first_listed (suc n) [] w = tt
  first_listed (suc n) (x ∷ xs) w = (w.0, first_listed n xs w.1)

  other_listed : (n : ℕ) (xs : List Part) → ListNamed texts xs → ListNamed texts (drop n xs)
  other_listed zero xs w = w
  other_listed (suc n) [] w = tt
  other_listed (suc n) (x ∷ xs) w = other_listed n xs w.1

  others : (n : ℕ) (xs : Parts) → PartsNamed texts xs → PartsNamed texts (drop n xs)
  others zero xs w = w
  others (suc n) [] w = tt
  others (suc n) (x ∷ xs) w = others n xs w.1

  -- ---- types

  pub types_named : (ts : TypeRow) → RowIsNamed ts → TypesNamed (types_in ts)
  types_named none w = tt
  types_named (more t ts) w = (w.0, types_named ts w.1)

  pub known_named : (t u : Option TypeTree) → MaybeNamed t → MaybeNamed u → MaybeNamed (first_known t u)
  known_named None u w h = h
  known_named (Some t) u w h = w

  pub variable_named : (t : Option TypeTree) → MaybeNamed t → StandsIsNamed (variable t)
  variable_named None w = tt
  variable_named (Some t) w = w

  or_default_named : (t : Option TypeTree) → MaybeNamed t → TakingNamed (type_or_default t)
  or_default_named None w = tt
  or_default_named (Some t) w = w

  or_rest_named : (t : Option TypeTree) → MaybeNamed t → TakingNamed (type_or_rest t)
  or_rest_named None w = tt
  or_rest_named (Some t) w = w

  somes_named : (rs : List TypeTree) → TypesNamed rs → Wants (map (λ r. Some r) rs)
  somes_named [] w = tt
  somes_named (r ∷ rs) w = (w.0, somes_named rs w.1)

  values_named : (xs : List Part) → ListNamed texts xs → Wants (map (λ x. value_type (sort_of x)) xs)
  values_named [] w = tt
  values_named (x ∷ xs) w = (value_named texts (sort_of x) (sort_named texts x w.0), values_named xs w.1)

  value_types_named : (xs : List Part) (o : Option (List TypeTree)) → ListNamed texts xs → MaybeTypes o → Wants (value_types_by xs o)
  value_types_named xs None w h = values_named xs w
  value_types_named xs (Some rs) w h = somes_named rs h

  names_named : (ts us : Wanted) → Wants ts → Wants us → TakingsNamed (names_take ts us)
  names_named [] us w h = tt
  names_named (t ∷ ts) [] w h = (variable_named t w.0, names_named ts [] w.1 tt)
  names_named (t ∷ ts) (u ∷ us) w h = (variable_named (first_known t u) (known_named t u w.0 h.0), names_named ts us w.1 h.1)

  taking_values : (ts : Wanted) (xs : List Part) → Wants ts → TakingsNamed (values_take ts xs)
  taking_values ts [] w = tt
  taking_values [] (x ∷ xs) w = (tt, taking_values [] xs tt)
  taking_values (t ∷ ts) (x ∷ xs) w = (or_default_named t w.0, taking_values ts xs w.1)

  pub constant_named : (t : Option TypeTree) (x : Stands) → MaybeNamed t → StandsIsNamed x → StandsIsNamed (constant_in t x)
  constant_named None x w h = branch (StandsIsNamed) (is_constant x) x sort.Unknown h tt
  constant_named (Some t) (sort.Constant u c) w h = w
  constant_named (Some t) (sort.OpenConstant c) w h = w
  constant_named (Some t) x w h = tt

  constants_named : {A : Type 0} (t : Option TypeTree) (ns : List A) (xs : List Part) → MaybeNamed t → ListNamed texts xs → TakingsNamed (constants_take t ns xs)
  constants_named t [] xs w h = tt
  constants_named t (n ∷ ns) [] w h = (tt, constants_named t ns [] w tt)
  constants_named t (n ∷ ns) (x ∷ xs) w h = (constant_named t (sort_of x) w (sort_named texts x h.0), constants_named t ns xs w h.1)

  targets_named : (ts : List Part) → ListNamed texts ts → Wants (map target_type ts)
  targets_named [] w = tt
  targets_named (t ∷ ts) w = (own_named texts (sort_of t) (sort_named texts t w.0), targets_named ts w.1)

  -- ---- specifications

  type_there_named : (n : ℕ) (xs : Parts) → PartsNamed texts xs → MaybeNamed (type_there n xs)
  type_there_named zero [] w = tt
  type_there_named zero (x ∷ xs) w = part_type_named texts x w.0
  type_there_named (suc n) [] w = tt
  type_there_named (suc n) (x ∷ xs) w = type_there_named n xs w.1

  values_there_named : (n : ℕ) (ys : Parts) → PartsNamed texts ys → ListNamed texts (values_there n ys)
  values_there_named n ys w = present_named texts (drop (suc n) ys) (others (suc n) ys w)

  rests_named : (t : Option TypeTree) (xs : List Part) → MaybeNamed t → TakingsNamed (map (λ x. type_or_rest t) xs)
  rests_named t [] w = tt
  rests_named t (x ∷ xs) w = (or_rest_named t w, rests_named t xs w)

  specified_named : (n : ℕ) (t : Option TypeTree) (xs : List Part) → MaybeNamed t → ListNamed texts xs → TakingsNamed (specified_constants n t xs)
  specified_named n t xs w h =
      both_takings (constants_take t (replicate n t) xs) (rests ∷ map (λ x. type_or_rest t) xs) (constants_named t (replicate n t) xs w h) (tt, rests_named t xs w)

  -- ---- returned values

  as_types : (ts : List TypeTree) → TypesNamed ts → TakingsNamed (map (λ t. takes (as_type t)) ts)
  as_types [] w = tt
  as_types (t ∷ ts) w = (w.0, as_types ts w.1)

  returned_named : (ts : List TypeTree) (xs : List Part) → TypesNamed ts → TakingsNamed (returned ts xs)
  returned_named ts xs w = branch TakingsNamed (length ts == length xs) (map (λ t. takes (as_type t)) ts) [] (as_types ts w) tt

  -- ---- range clauses

  element_types_named : (o : Option TypeTree) → MaybeNamed o → MaybeTypes (element_types o)
  element_types_named None w = tt
  element_types_named (Some t) w = (tt, (w, tt))

  number_types_named : (o : Option TypeTree) → MaybeNamed o → MaybeTypes (number_types o)
  number_types_named None w = tt
  number_types_named (Some t) w = (w, (tt, tt))

  stand_named : (ts : List TypeTree) → TypesNamed ts → TakingsNamed (map type_stands ts)
  stand_named [] w = tt
  stand_named (t ∷ ts) w = (w.0, stand_named ts w.1)

  elements_named : (n : ℕ) (o : Option (List TypeTree)) → MaybeTypes o → TakingsNamed (elements_stand n o)
  elements_named n None w = same_takings n (stands sort.Unknown) tt
  elements_named n (Some rs) w = taken n (map type_stands rs) (stand_named rs w)

  last_named : (xs : List Part) → ListNamed texts xs → MaybePart texts (last_part xs)
  last_named [] w = tt
  last_named (x ∷ []) w = w.0
  last_named (x ∷ y ∷ xs) w = last_named (y ∷ xs) w.1

  first_type_named : (ys : Parts) → PartsNamed texts ys → MaybeNamed (first_type ys)
  first_type_named [] w = tt
  first_type_named (None ∷ ys) w = tt
  first_type_named (Some t ∷ ys) w = own_named texts (sort_of t) (sort_named texts t w.0)

  target_there_named : (n : ℕ) (ys : Parts) → PartsNamed texts ys → MaybeNamed (target_there n ys)
  target_there_named n ys w = branch (MaybeNamed) (nat_lt 0 n) (first_type ys) None (first_type_named ys w) tt

  operand_named : (n : ℕ) (ys : Parts) → PartsNamed texts ys → TakingNamed (operand_takes n ys)
  operand_named n ys w =
      branch TakingNamed (is_first_number (drop n ys)) (type_or_default (target_there n ys)) (takes default) (or_default_named (target_there n ys) (target_there_named n ys w)) tt

  loop_named : (f : Form) (ys : Parts) → PartsNamed texts ys → TakingsNamed (loop_takes f ys)
  loop_named (form.Range defines n) ys w = both_takings (rest n) (operand_takes n ys ∷ []) (same_takings n rests tt) (operand_named n ys w, tt)
  loop_named f ys w = (tt, (tt, tt))

  mapped_takes : (ks : List Take) → TakesNamed ks → TakingsNamed (map takes ks)
  mapped_takes [] w = tt
  mapped_takes (k ∷ ks) w = (w.0, mapped_takes ks w.1)

module _ (texts : ℕ → List ℕ) (rights : Rights) (a : RightsAreNamed rights) where
  pub called_named : (x : Stands) → StandsIsNamed x → MaybeTypes (called_results rights x)
  called_named (sort.Results t) w = types_named texts (results_of (underlying_of rights t)) (results_named texts (underlying_of rights t) (underlying_named texts rights a t w))
  called_named x w = tt

  whole_named : (xs : List Part) → ListNamed texts xs → MaybeTypes (whole_results rights xs)
  whole_named (x ∷ []) w = called_named (sort_of x) (sort_named texts x w.0)
  whole_named xs w = tt

  declared_named : (ts : Wanted) (xs : List Part) → EntriesNamed ts → ListNamed texts xs → TakingsNamed (declared_names rights ts xs)
  declared_named ts xs w h = names_named texts ts (value_types_by xs (whole_results rights xs)) w (value_types_named texts xs (whole_results rights xs) h (whole_named xs h))

  variables_named : (n : ℕ) (t : Option TypeTree) (xs : List Part) → MaybeNamed t → ListNamed texts xs → TakingsNamed (variables_take rights n t xs)
  variables_named n t xs w h =
      let ts = replicate n t in
      both_takings texts (declared_names rights ts xs) (rests ∷ values_take ts xs) (declared_named ts xs (same_wanted texts n t w) h) (tt, taking_values texts ts xs (same_wanted texts n t w))

  range_types_named : (x : Part) → PartIsNamed texts x → MaybeTypes (range_types rights x)
  range_types_named x w =
      let s = sort_named texts x w in
      branch (MaybeTypes) (is_text rights (sort_of x)) _ _ (tt, (tt, tt))
      (branch (MaybeTypes) (is_whole rights (sort_of x)) (number_types (value_type (sort_of x))) (element_types (element_of (form_of_value rights (sort_of x))))
      (number_types_named texts (value_type (sort_of x)) (value_named texts (sort_of x) s))
      (element_types_named texts (element_of (form_of_value rights (sort_of x))) (element_named texts (form_of_value rights (sort_of x)) (form_named texts rights a (sort_of x) s))))

  range_named : (n : ℕ) (o : Option Part) → MaybePart texts o → TakingsNamed (range_stands rights n o)
  range_named n None w = tt
  range_named n (Some x) w = elements_named texts n (range_types rights x) (range_types_named x w)

-- of locals that are declared, and of none
module _ (texts : ℕ → List ℕ) where
  form_type_named : (ls : Locals) (f : Form) → LocalsNamed ls → MaybeNamed (form_type ls f)
  form_type_named ls (form.Local n) a = own_named texts (local_stands ls n) (a n)
  form_type_named ls f a = tt

  known_types_named : (ls : Locals) (ns : List Part) → LocalsNamed ls → EntriesNamed (map (known_type ls) ns)
  known_types_named ls [] a = tt
  known_types_named ls (n ∷ ns) a = (form_type_named ls (form_of n) a, known_types_named ls ns a)

-- ---- what the parts of a statement take

module _ (texts : ℕ → List ℕ) (s : Frame) (a : RightsAreNamed (rights_of s)) (ls : LocalsNamed s.locals) (tag : StandsIsNamed s.tag) (rs : TypesNamed s.results) where
  define_named : (ns xs : List Part) → ListNamed texts xs → TakingsNamed (define_takes s ns xs)
  define_named ns xs w =
      let ts = map (known_type s.locals) ns in
      let k = known_types_named texts s.locals ns ls in
      both_takings texts (declared_names (rights_of s) ts xs) (values_take ts xs) (declared_named texts (rights_of s) a ts xs k w) (taking_values texts ts xs k)

  assign_named : (ts xs : List Part) → ListNamed texts ts → TakingsNamed (assign_takes ts xs)
  assign_named ts xs w = both_takings texts (rest (length ts)) (values_take (map target_type ts) xs) (same_takings texts (length ts) rests tt) (taking_values texts (map target_type ts) xs (targets_named texts ts w))

  pub taking_named : (k : Kind) (f : Form) (ys : Parts) → PartsNamed texts ys → TakingsNamed (taking s k f ys)
  taking_named (kind.OperatorAssignment o) f ys w =
      two_have texts (TakingsNamed) [] tt (λ x y. map takes (operation_takes (rights_of s) (operator.Compute o) (sort_of x) (sort_of y)))
      (λ x y u q. mapped_takes texts (operation_takes (rights_of s) (operator.Compute o) (sort_of x) (sort_of y))
      (operation_takes_named texts (rights_of s) a (operator.Compute o) (sort_of x) (sort_of y) (sort_named texts x u) (sort_named texts y q))) ys w
  taking_named kind.Assignment f ys w =
      let xs = present ys in
      assign_named (take (names_in f) xs) (drop (names_in f) xs) (first_listed texts (names_in f) xs (present_named texts ys w))
  taking_named kind.Define f ys w =
      let xs = present ys in
      define_named (take (names_in f) xs) (drop (names_in f) xs) (other_listed texts (names_in f) xs (present_named texts ys w))
  taking_named (kind.Specification declaring.Variable) f ys w =
      variables_named texts (rights_of s) a (names_in f) (type_there (names_in f) ys) (values_there (names_in f) ys) (type_there_named texts (names_in f) ys w) (values_there_named texts (names_in f) ys w)
  taking_named (kind.Specification declaring.Constant) f ys w =
      specified_named texts (names_in f) (type_there (names_in f) ys) (values_there (names_in f) ys) (type_there_named texts (names_in f) ys w) (values_there_named texts (names_in f) ys w)
  taking_named kind.Return f ys w = returned_named texts s.results (present ys) rs
  taking_named kind.If f ys w = (tt, (tt, tt))
  taking_named kind.For f ys w = loop_named texts f ys w
  taking_named kind.DefiningRange f ys w = range_named texts (rights_of s) a (length ys - 1) (last_part (present ys)) (last_named texts (present ys) (present_named texts ys w))
  taking_named kind.Switch f ys w = (tt, (tt, tt))
  taking_named kind.Case f ys w = same_takings texts (names_in f) (type_or_default (own_type s.tag)) (or_default_named texts (own_type s.tag) (own_named texts s.tag tag))
  taking_named k f ys w = tt
