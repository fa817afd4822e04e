-- Nodes that hold statements, names or expressions for the node above.
use Rattle.std.proofs.Common.{◌≡◌, ℕ, zero, suc, ◌+◌, ◌-◌, true, false, cond, [], ◌∷◌, ◌++◌, List, length, map, take, replicate, Option, Some, None, refl, sym, ap, ◌∙◌, append-nil, arith, ◌≤◌, zero-le, suc-le-suc, subst}
use Rattle.std.proofs.lemmas.List.{length-append}
use Rattle.go_grammar.specs.declared.kind.Category.TheVariants as category
use Rattle.go_grammar.specs.declared.kind.Kind.{Kind}
use Rattle.go_grammar.specs.declared.kind.Kind.TheVariants as kind
use Rattle.go_grammar.specs.declared.kind.Place.{Place}
use Rattle.go_grammar.specs.declared.kind.Sort.{Sort as Declaring}
use Rattle.go_grammar.specs.declared.kind.Sort.TheVariants as declaring
use Rattle.go_grammar.specs.Rules.{Lines}
use Rattle.go_grammar.specs.Trees.{Trees}
use Rattle.go_tokens.specs.declared.token.TokenKind.TheVariants as token
use Rattle.go_types.specs.Trees.{TypeTree}
use Rattle.go_types.specs.Relations.{Rights}
use Rattle.go_typed.specs.declared.form.Form.{Form}
use Rattle.go_typed.specs.declared.form.Form.TheVariants as form
use Rattle.go_typed.specs.Trees.{Typed, typed, sort_of, form_of, parts_of, list_of, row}
use Rattle.go_typed.specs.Trees as sort
use Rattle.go_exprs_rules.specs.declared.fault.TypeFault.{TypeFault}
use Rattle.go_exprs_rules.specs.Names.{declared_form}
use Rattle.go_exprs_rules.specs.Scopes.{Hint}
use Rattle.go_exprs_rules.specs.Settling.{Part}
use Rattle.go_exprs_rules.specs.Tables.{Parts, label, is_held, held, all_held, first_cut, present}
use Rattle.go_stmts_defs.specs.Assigning.{Taking, takes, stands, rests, constants_take, constant_in}
use Rattle.go_stmts_defs.specs.Frames.{Frame, rights_of}
use Rattle.go_stmts_defs.specs.Laying.{layout, form_by, held_count, specification_parts, typed_or_not, specifications, specified_names, all_names, header_parts, loop_header, loop_form, is_group, type_name, type_number, type_sort}
use Rattle.go_stmts_defs.specs.Rules.{taking, own_faults, built_by, all_given, given_part, last_part, elements_stand, type_stands, range_stands, range_types, specified_constants, type_there, values_there, type_or_rest}
use Rattle.go_stmts_final_types.specs.Holes.{HolesTyped}
use Rattle.go_stmts_final_types.proofs.Headers.{TypeIf, all_say, Stated, IfHeaderIs, SwitchHeaderIs, LoopHeaderIs, clause, ranges, IsName, constants_say, types_say, variables_say}
use Rattle.go_stmts_final_types.proofs.Holders.{HeldOf, held_are, list_row}
use Rattle.go_stmts_final_types.proofs.Reading.{Row, Sound, node_of, built_form, stated, many_read, own_says, held_length, length_somes}
use Rattle.go_stmts_final_types.proofs.Categories.{ElseIs, Variables, Names, OwnNames, IsNewName, plain_held}
use Rattle.go_stmts_final_types.proofs.Rows.{somes}
use Rattle.go_stmts_final_types.proofs.Statements.{Each}
use Rattle.go_stmts_final_types.proofs.Taken.{Valued, Says, IsBare, AllReady, bare_typed}
use Rattle.clone_window.specs.Masses as masses

-- the parts of a node that only holds them
parts_are : (s : Frame) (k : Kind) (f : Form) (i j : ℕ) (ys : Parts) (own : List TypeFault) → taking s k f ys ≡ [] → list_of (parts_of (built_by s k f i j ys own)) ≡ ys
parts_are s k f i j ys [] n = list_row (all_given (taking s k f ys) ys) ∙ ap (λ ks. all_given ks ys) n
parts_are s k f i j ys (x ∷ xs) n = list_row ys

held_parts : (s : Frame) (k n : Kind) (i j : ℕ) (ys : Parts) (own : List TypeFault) → taking s k (form.Held n) ys ≡ [] → held (Some (built_by s k (form.Held n) i j ys own)) ≡ ys
held_parts s k n i j ys own e =
    let x = built_by s k (form.Held n) i j ys own in ap (λ b. cond b (list_of (parts_of x)) (Some x ∷ [])) (ap is_held (built_form s k (form.Held n) i j ys own)) ∙ parts_are s k (form.Held n) i j ys own e

-- ---- headers

module _ (s : Frame) (i j : ℕ) where
  late_condition : (ys : Parts) (own : List TypeFault) → header_parts (Some (built_by s kind.LateCondition (form.Held kind.LateCondition) i j ys own)) ≡ None ∷ ys
  late_condition ys [] = ap (λ zs. None ∷ zs) (list_row ys)
  late_condition ys (x ∷ xs) = ap (λ zs. None ∷ zs) (list_row ys)

  late_tag : (ys : Parts) (own : List TypeFault) → header_parts (Some (built_by s kind.LateTag (form.Held kind.LateTag) i j ys own)) ≡ None ∷ ys
  late_tag ys [] = ap (λ zs. None ∷ zs) (list_row ys)
  late_tag ys (x ∷ xs) = ap (λ zs. None ∷ zs) (list_row ys)

  initialized_condition : (ys : Parts) (own : List TypeFault) → header_parts (Some (built_by s kind.InitializedCondition (form.Held kind.InitializedCondition) i j ys own)) ≡ ys
  initialized_condition ys [] = list_row ys
  initialized_condition ys (x ∷ xs) = list_row ys

  initialized_tag : (ys : Parts) (own : List TypeFault) → header_parts (Some (built_by s kind.InitializedTag (form.Held kind.InitializedTag) i j ys own)) ≡ ys
  initialized_tag ys [] = list_row ys
  initialized_tag ys (x ∷ xs) = list_row ys

  clause_header : (ys : Parts) (own : List TypeFault) → loop_header (Some (built_by s kind.ForClause (form.Held kind.ForClause) i j ys own)) ≡ None ∷ ys
  clause_header ys [] = ap (λ zs. None ∷ zs) (list_row ys)
  clause_header ys (x ∷ xs) = ap (λ zs. None ∷ zs) (list_row ys)

  clause_form : (ys : Parts) (own : List TypeFault) → loop_form (Some (built_by s kind.ForClause (form.Held kind.ForClause) i j ys own)) ≡ form.For
  clause_form ys [] = refl
  clause_form ys (x ∷ xs) = refl

  whole_header : (ys : Parts) (own : List TypeFault) → loop_header (Some (built_by s kind.InitializedForClause (form.Held kind.InitializedForClause) i j ys own)) ≡ ys
  whole_header ys [] = list_row ys
  whole_header ys (x ∷ xs) = list_row ys

  whole_form : (ys : Parts) (own : List TypeFault) → loop_form (Some (built_by s kind.InitializedForClause (form.Held kind.InitializedForClause) i j ys own)) ≡ form.For
  whole_form ys [] = refl
  whole_form ys (x ∷ xs) = refl

  range_header : (ys : Parts) (own : List TypeFault) → loop_header (Some (built_by s kind.Range (form.Held kind.Range) i j ys own)) ≡ ys
  range_header ys [] = list_row ys
  range_header ys (x ∷ xs) = list_row ys

  range_form : (ys : Parts) (own : List TypeFault) → loop_form (Some (built_by s kind.Range (form.Held kind.Range) i j ys own)) ≡ form.Range false 0
  range_form ys [] = refl
  range_form ys (x ∷ xs) = refl

  assigning_header : (ys : Parts) (own : List TypeFault) → loop_header (Some (built_by s kind.AssigningRange (form.Held kind.AssigningRange) i j ys own)) ≡ ys
  assigning_header ys [] = list_row ys
  assigning_header ys (x ∷ xs) = list_row ys

  assigning_form : (ys : Parts) (own : List TypeFault) → loop_form (Some (built_by s kind.AssigningRange (form.Held kind.AssigningRange) i j ys own)) ≡ form.Range false (length ys - 1)
  assigning_form ys [] = ap (λ zs. form.Range false (length zs - 1)) (list_row ys)
  assigning_form ys (x ∷ xs) = ap (λ zs. form.Range false (length zs - 1)) (list_row ys)

  -- names that take what the values of a range clause are
  abbrev defined : Parts → Parts
  defined ys = all_given (range_stands (rights_of s) (length ys - 1) (last_part (present ys))) ys

  defining_header : (ys : Parts) (own : List TypeFault) → own ≡ [] → loop_header (Some (built_by s kind.DefiningRange (form.Held kind.DefiningRange) i j ys own)) ≡ defined ys
  defining_header ys [] e = list_row (defined ys)
  defining_header ys (x ∷ xs) e = cc

  defining_form : (ys : Parts) (own : List TypeFault) → own ≡ [] → loop_form (Some (built_by s kind.DefiningRange (form.Held kind.DefiningRange) i j ys own)) ≡ form.Range true (length (defined ys) - 1)
  defining_form ys [] e = ap (λ zs. form.Range true (length zs - 1)) (list_row (defined ys))
  defining_form ys (x ∷ xs) e = cc

one_less : (n : ℕ) → (n + 1) - 1 ≡ n
one_less n = omega arith

pub but_last : (ts : List Part) (v : Part) → length (somes ts ++ (Some v ∷ [])) - 1 ≡ length ts
but_last ts v = ap (λ n. n - 1) (length-append (somes ts) (Some v ∷ [])) ∙ (one_less (length (somes ts)) ∙ length_somes ts)

-- ---- names of a range clause

abbrev pub AllStand : List Taking → Type 0
AllStand [] = Unit {0}
AllStand (takes k ∷ ks) = ⊥
AllStand (stands z ∷ ks) = (masses.is_constant z ≡ false) × AllStand ks

types_stand : (n : ℕ) (rs : List TypeTree) → AllStand (take n (map type_stands rs))
types_stand zero rs = tt
types_stand (suc n) [] = tt
types_stand (suc n) (r ∷ rs) = (refl, types_stand n rs)

none_stand : (n : ℕ) → AllStand (replicate n (stands sort.Unknown))
none_stand zero = tt
none_stand (suc n) = (refl, none_stand n)

elements_all : (n : ℕ) (o : Option (List TypeTree)) → AllStand (elements_stand n o)
elements_all n (Some rs) = types_stand n rs
elements_all n None = none_stand n

bare_now : (y : Part) → IsBare y → HolesTyped false y
bare_now (typed f i j l ps) h = bare_typed f i j l ps h.alone (ap masses.is_constant h.nothing)

bare_given : (z : sort.Sort TypeTree) → masses.is_constant z ≡ false → (y : Part) → IsBare y → HolesTyped false (given_part (stands z) y)
bare_given z c (typed f i j l ps) h = bare_typed f i j (record l { sort = z }) ps h.alone c

-- the names with what they take, in front of a part that takes nothing where there aren't more takes than names
bare_all : (ns : List Part) → Each IsBare ns → Each (HolesTyped false) ns
bare_all [] h = tt
bare_all (n ∷ ns) h = (bare_now n h.0, bare_all ns h.1)

no_fewer : {X : Type 0} (n : ℕ) → suc n ≤ 0 → X
no_fewer n le = let never : ⊥ = omega (arith, le) in absurd never

fewer : (n m : ℕ) → suc n ≤ suc m → n ≤ m
fewer n m le = omega (arith, le)

types_few : (n : ℕ) (rs : List TypeTree) → length (take n (map type_stands rs)) ≤ n
types_few zero rs = zero-le
types_few (suc n) [] = zero-le
types_few (suc n) (r ∷ rs) = suc-le-suc (types_few n rs)

none_few : (n : ℕ) → length (replicate n (stands sort.Unknown)) ≤ n
none_few zero = zero-le
none_few (suc n) = suc-le-suc (none_few n)

elements_few : (n : ℕ) (o : Option (List TypeTree)) → length (elements_stand n o) ≤ n
elements_few n (Some rs) = types_few n rs
elements_few n None = none_few n

all_defined : (ks : List Taking) (ns : List Part) (v : Part) → AllStand ks → length ks ≤ length ns → Each IsBare ns → (ms : List Part) × (all_given ks (somes ns ++ (Some v ∷ [])) ≡ somes ms ++ (Some v ∷ [])) × Each (HolesTyped false) ms
all_defined [] ns v a le g = (ns, refl, bare_all ns g)
all_defined (takes k ∷ ks) ns v a le g = elim a [ ]
all_defined (stands z ∷ ks) [] v a le g = no_fewer (length ks) le
all_defined (stands z ∷ ks) (y ∷ ns) v a le g =
    let r = all_defined ks ns v a.1 (fewer (length ks) (length ns) le) g.1 in
    (given_part (stands z) y ∷ r.0, ap (λ zs. Some (given_part (stands z) y) ∷ zs) r.1, (bare_given z a.0 y g.0, r.2))

range_few : (rights : Rights) (n : ℕ) (o : Option Part) → AllStand (range_stands rights n o) × (length (range_stands rights n o) ≤ n)
range_few rights n (Some x) = (elements_all n (range_types rights x), elements_few n (range_types rights x))
range_few rights n None = (tt, zero-le)

-- ---- rows of parts that the node above takes

module _ (s : Frame) (h : Hint) (all : Trees) (p : Place) (i j : ℕ) where
  pub else_read : (xs : Parts) → Row s h all p i j kind.Else xs → ElseIs (node_of s kind.Else i j xs)
  else_read [] r = elim r [ ]
  else_read (None ∷ xs) r = elim r [ ]
  else_read (Some b ∷ []) r = record { last = b; are = held_parts s kind.Else kind.Else i j (Some b ∷ []) _ refl; says = r.0.1.says }
  else_read (Some b ∷ y ∷ ys) r = elim r.1 [ ]

  pub late_condition_read : (xs : Parts) → Row s h all p i j kind.LateCondition xs → IfHeaderIs (node_of s kind.LateCondition i j xs)
  late_condition_read [] r = elim r [ ]
  late_condition_read (None ∷ xs) r = elim r [ ]
  late_condition_read (Some c ∷ []) r = record { first = None; value = c; are = late_condition s i j (Some c ∷ []) _; says = tt; valued = r.0.1 refl }
  late_condition_read (Some c ∷ y ∷ ys) r = elim r.1 [ ]

  pub initialized_condition_read : (xs : Parts) → Row s h all p i j kind.InitializedCondition xs → IfHeaderIs (node_of s kind.InitializedCondition i j xs)
  initialized_condition_read [] r = elim r [ ]
  initialized_condition_read (None ∷ xs) r = elim r [ ]
  initialized_condition_read (Some a ∷ []) r = elim r.1 [ ]
  initialized_condition_read (Some a ∷ None ∷ xs) r = elim r.1 [ ]
  initialized_condition_read (Some a ∷ Some c ∷ []) r = record { first = Some a; value = c; are = initialized_condition s i j (Some a ∷ Some c ∷ []) _; says = r.0.1.says; valued = r.1.0.1 refl }
  initialized_condition_read (Some a ∷ Some c ∷ y ∷ ys) r = elim r.1.1 [ ]

  pub late_tag_read : (xs : Parts) → Row s h all p i j kind.LateTag xs → SwitchHeaderIs (Some (node_of s kind.LateTag i j xs))
  late_tag_read [] r = elim r [ ]
  late_tag_read (None ∷ []) r = record { first = None; value = None; are = late_tag s i j (None ∷ []) (own_faults s kind.LateTag (form.Held kind.LateTag) i j (None ∷ [])); says = tt; valued = tt }
  late_tag_read (None ∷ y ∷ ys) r = elim r [ ]
  late_tag_read (Some c ∷ []) r = record { first = None; value = Some c; are = late_tag s i j (Some c ∷ []) _; says = tt; valued = r.0.1 refl }
  late_tag_read (Some c ∷ y ∷ ys) r = elim r.1 [ ]

  pub initialized_tag_read : (xs : Parts) → Row s h all p i j kind.InitializedTag xs → SwitchHeaderIs (Some (node_of s kind.InitializedTag i j xs))
  initialized_tag_read [] r = elim r [ ]
  initialized_tag_read (None ∷ xs) r = elim r [ ]
  initialized_tag_read (Some a ∷ []) r = elim r.1 [ ]
  initialized_tag_read (Some a ∷ None ∷ []) r = record { first = Some a; value = None; are = initialized_tag s i j (Some a ∷ None ∷ []) _; says = r.0.1.says; valued = tt }
  initialized_tag_read (Some a ∷ None ∷ y ∷ ys) r = elim r.1 [ ]
  initialized_tag_read (Some a ∷ Some c ∷ []) r = record { first = Some a; value = Some c; are = initialized_tag s i j (Some a ∷ Some c ∷ []) _; says = r.0.1.says; valued = r.1.0.1 refl }
  initialized_tag_read (Some a ∷ Some c ∷ y ∷ ys) r = elim r.1.1 [ ]

  pub clause_read : (xs : Parts) → Row s h all p i j kind.ForClause xs → LoopHeaderIs (Some (node_of s kind.ForClause i j xs))
  clause_read [] r = elim r [ ]
  clause_read (None ∷ []) r = elim r [ ]
  clause_read (Some c ∷ []) r = elim r.1 [ ]
  clause_read (None ∷ None ∷ []) r = clause None None None (clause_header s i j (None ∷ None ∷ []) (own_faults s kind.ForClause (form.Held kind.ForClause) i j (None ∷ None ∷ []))) (clause_form s i j (None ∷ None ∷ []) (own_faults s kind.ForClause (form.Held kind.ForClause) i j (None ∷ None ∷ []))) tt tt tt
  clause_read (Some c ∷ None ∷ []) r = clause None (Some c) None (clause_header s i j (Some c ∷ None ∷ []) _) (clause_form s i j (Some c ∷ None ∷ []) _) tt (r.0.1 refl) tt
  clause_read (None ∷ Some q ∷ []) r = clause None None (Some q) (clause_header s i j (None ∷ Some q ∷ []) _) (clause_form s i j (None ∷ Some q ∷ []) _) tt tt r.0.1.says
  clause_read (Some c ∷ Some q ∷ []) r = clause None (Some c) (Some q) (clause_header s i j (Some c ∷ Some q ∷ []) _) (clause_form s i j (Some c ∷ Some q ∷ []) _) tt (r.0.1 refl) r.1.0.1.says
  clause_read (None ∷ None ∷ z ∷ zs) r = elim r [ ]
  clause_read (Some c ∷ None ∷ z ∷ zs) r = elim r.1 [ ]
  clause_read (None ∷ Some q ∷ z ∷ zs) r = elim r.1 [ ]
  clause_read (Some c ∷ Some q ∷ z ∷ zs) r = elim r.1.1 [ ]

  pub whole_read : (xs : Parts) → Row s h all p i j kind.InitializedForClause xs → LoopHeaderIs (Some (node_of s kind.InitializedForClause i j xs))
  whole_read [] r = elim r [ ]
  whole_read (None ∷ xs) r = elim r [ ]
  whole_read (Some a ∷ []) r = elim r.1 [ ]
  whole_read (Some a ∷ None ∷ []) r = elim r.1 [ ]
  whole_read (Some a ∷ Some c ∷ []) r = elim r.1.1 [ ]
  whole_read (Some a ∷ None ∷ None ∷ []) r = clause (Some a) None None (whole_header s i j (Some a ∷ None ∷ None ∷ []) _) (whole_form s i j (Some a ∷ None ∷ None ∷ []) _) r.0.1.says tt tt
  whole_read (Some a ∷ Some c ∷ None ∷ []) r = clause (Some a) (Some c) None (whole_header s i j (Some a ∷ Some c ∷ None ∷ []) _) (whole_form s i j (Some a ∷ Some c ∷ None ∷ []) _) r.0.1.says (r.1.0.1 refl) tt
  whole_read (Some a ∷ None ∷ Some q ∷ []) r = clause (Some a) None (Some q) (whole_header s i j (Some a ∷ None ∷ Some q ∷ []) _) (whole_form s i j (Some a ∷ None ∷ Some q ∷ []) _) r.0.1.says tt r.1.0.1.says
  whole_read (Some a ∷ Some c ∷ Some q ∷ []) r = clause (Some a) (Some c) (Some q) (whole_header s i j (Some a ∷ Some c ∷ Some q ∷ []) _) (whole_form s i j (Some a ∷ Some c ∷ Some q ∷ []) _) r.0.1.says (r.1.0.1 refl) r.1.1.0.1.says
  whole_read (Some a ∷ None ∷ None ∷ z ∷ zs) r = elim r.1 [ ]
  whole_read (Some a ∷ Some c ∷ None ∷ z ∷ zs) r = elim r.1.1 [ ]
  whole_read (Some a ∷ None ∷ Some q ∷ z ∷ zs) r = elim r.1.1 [ ]
  whole_read (Some a ∷ Some c ∷ Some q ∷ z ∷ zs) r = elim r.1.1.1 [ ]

  pub range_read : (xs : Parts) → Row s h all p i j kind.Range xs → LoopHeaderIs (Some (node_of s kind.Range i j xs))
  range_read [] r = elim r [ ]
  range_read (None ∷ xs) r = elim r [ ]
  range_read (Some v ∷ []) r = ranges false [] v (range_header s i j (Some v ∷ []) _) (range_form s i j (Some v ∷ []) _) tt (r.0.1 refl)
  range_read (Some v ∷ y ∷ ys) r = elim r.1 [ ]

  -- what holds targets or names, and the value behind them
  with_value : (P : Part → Type 0) (t v : Part) (g : HeldOf P t) → Valued v → all_held (Some t ∷ Some v ∷ []) ≡ somes g.all ++ (Some v ∷ [])
  with_value P t v g w = ap (λ zs. zs ++ (held (Some v) ++ [])) (held_are P t g) ∙ ap (λ zs. somes g.all ++ zs) (append-nil (held (Some v)) ∙ plain_held v w.sound.plain)

  pub assigning_read : (xs : Parts) → Row s h all p i j kind.AssigningRange xs → LoopHeaderIs (Some (node_of s kind.AssigningRange i j xs))
  assigning_read [] r = elim r [ ]
  assigning_read (None ∷ xs) r = elim r [ ]
  assigning_read (Some t ∷ []) r = elim r.1 [ ]
  assigning_read (Some t ∷ None ∷ xs) r = elim r.1 [ ]
  assigning_read (Some t ∷ Some v ∷ []) r =
      let g = r.0.1 in
      let w = r.1.0.1 refl in
      let ys = all_held (Some t ∷ Some v ∷ []) in
      let are = with_value Valued t v g w in
      ranges false g.all v (assigning_header s i j ys _ ∙ are) (assigning_form s i j ys _ ∙ ap (form.Range false) (ap (λ zs. length zs - 1) are ∙ but_last g.all v)) g.each w
  assigning_read (Some t ∷ Some v ∷ z ∷ zs) r = elim r.1.1 [ ]

  pub defining_read : (xs : Parts) → Row s h all p i j kind.DefiningRange xs → Sound s kind.DefiningRange i j xs → LoopHeaderIs (Some (node_of s kind.DefiningRange i j xs))
  defining_read [] r e = elim r [ ]
  defining_read (None ∷ xs) r e = elim r [ ]
  defining_read (Some t ∷ []) r e = elim r.1 [ ]
  defining_read (Some t ∷ None ∷ xs) r e = elim r.1 [ ]
  defining_read (Some t ∷ Some v ∷ []) r e =
      let g = r.0.1 in
      let w = r.1.0.1 refl in
      let ys = all_held (Some t ∷ Some v ∷ []) in
      let are = with_value IsBare t v g w in
      let n : length ys - 1 ≡ length g.all = ap (λ zs. length zs - 1) are ∙ but_last g.all v in
      let few = range_few (rights_of s) (length ys - 1) (last_part (present ys)) in
      let d = all_defined (range_stands (rights_of s) (length ys - 1) (last_part (present ys))) g.all v few.0 (subst (λ m. length (range_stands (rights_of s) (length ys - 1) (last_part (present ys))) ≤ m) n few.1) g.each in
      let same : defined s i j ys ≡ somes d.0 ++ (Some v ∷ []) = ap (all_given (range_stands (rights_of s) (length ys - 1) (last_part (present ys)))) are ∙ d.1 in
      ranges true d.0 v (defining_header s i j ys _ e ∙ same) (defining_form s i j ys _ e ∙ ap (form.Range true) (ap (λ zs. length zs - 1) same ∙ but_last d.0 v)) d.2 w
  defining_read (Some t ∷ Some v ∷ z ∷ zs) r e = elim r.1.1 [ ]

-- ---- a specification by itself

pub one_variables_of : (x : Part) → Stated x → is_group (form_of x) ≡ false → Variables x
one_variables_of x g m = record { all = x ∷ []; are = ap (λ b. cond b (list_of (parts_of x)) (Some x ∷ [])) m; each = (g, tt) }

pub one_names_of : (P : Part → Type 0) (x : Part) → OwnNames P x → Names P x
one_names_of P x g = record { all = g.all; are = ap all_names (ap (λ b. cond b (list_of (parts_of x)) (Some x ∷ [])) g.single) ∙ (append-nil (specified_names (Some x)) ∙ g.are); each = g.each }

-- ---- specifications

each_bare : (ns : List Part) → Each IsNewName ns → Each IsBare ns
each_bare [] h = tt
each_bare (n ∷ ns) h = (h.0.bare, each_bare ns h.1)

given_name : (z : sort.Sort TypeTree) (y : Part) → IsName y → IsName (given_part (stands z) y)
given_name z (typed f i j l ps) h = record { alone = h.alone; own = h.own }

constant_names : (t : Option TypeTree) (vs ns : List Part) (ks : List Taking) (zs : Parts) → Each IsNewName ns → (ms : List Part) × (take (length ns) (all_given (constants_take t (replicate (length ns) t) vs ++ ks) (somes ns ++ zs)) ≡ somes ms) × Each IsName ms
constant_names t vs [] ks zs g = ([], refl, tt)
constant_names t [] (n ∷ ns) ks zs g =
    let r = constant_names t [] ns ks zs g.1 in (given_part (stands sort.Unknown) n ∷ r.0, ap (λ ys. Some (given_part (stands sort.Unknown) n) ∷ ys) r.1, (given_name sort.Unknown n g.0.name, r.2))
constant_names t (x ∷ vs) (n ∷ ns) ks zs g =
    let r = constant_names t vs ns ks zs g.1 in
    (given_part (stands (constant_in t (sort_of x))) n ∷ r.0, ap (λ ys. Some (given_part (stands (constant_in t (sort_of x))) n) ∷ ys) r.1, (given_name (constant_in t (sort_of x)) n g.0.name, r.2))

module _ (s : Frame) (h : Hint) (all : Trees) (p : Place) (i j : ℕ) where
  pub variables_node : (n : ℕ) (ns : List Part) (o : Option Part) (vs : List Part) → n ≡ length ns → Each IsBare ns → TypeIf o → Each Valued vs → (ys : Parts) → ys ≡ somes ns ++ (o ∷ somes vs)
      → own_faults s (kind.Specification declaring.Variable) (form.Specified n) i j ys ≡ []
      → Stated (built_by s (kind.Specification declaring.Variable) (form.Specified n) i j ys (own_faults s (kind.Specification declaring.Variable) (form.Specified n) i j ys))
  variables_node n ns o vs same g t r ys m e =
      let k = kind.Specification declaring.Variable in
      stated s k (form.Specified n) i j ys _ refl
      (subst (λ z. own_faults s k (form.Specified z) i j ys ≡ [] → Says (built_by s k (form.Specified z) i j ys (own_faults s k (form.Specified z) i j ys))) (sym same)
      (λ e. variables_say s i j ns o vs g t r ys m (own_faults s k (form.Specified (length ns)) i j ys) e) e)

  pub variables_read : (xs : Parts) → Row s h all p i j (kind.Specification declaring.Variable) xs → Sound s (kind.Specification declaring.Variable) i j xs → Stated (node_of s (kind.Specification declaring.Variable) i j xs)
  variables_read [] r e = elim r [ ]
  variables_read (None ∷ xs) r e = elim r [ ]
  variables_read (Some a ∷ []) r e = elim r.1 [ ]
  variables_read (Some a ∷ None ∷ xs) r e = elim r.1 [ ]
  variables_read (Some a ∷ Some b ∷ []) r e =
      let g = r.0.1 in
      let q = r.1.0.1 refl in
      variables_node (held_count (Some a)) g.all q.type q.values (held_length IsNewName a g) (each_bare g.all g.each) q.typed q.each (specification_parts (Some a ∷ Some b ∷ []))
      (ap (λ zs. zs ++ first_cut (typed_or_not (Some b))) (held_are IsNewName a g) ∙ ap (λ zs. somes g.all ++ zs) q.are) e
  variables_read (Some a ∷ Some b ∷ z ∷ zs) r e = elim r.1.1 [ ]

  pub single_variables : (xs : Parts) → is_group (form_of (node_of s (kind.Specification declaring.Variable) i j xs)) ≡ false
  single_variables xs = ap is_group (built_form s (kind.Specification declaring.Variable) (form_by (kind.Specification declaring.Variable) xs) i j (layout s (kind.Specification declaring.Variable) i xs) (own_faults s (kind.Specification declaring.Variable) (form_by (kind.Specification declaring.Variable) xs) i j (layout s (kind.Specification declaring.Variable) i xs)))

  -- names of constants
  constants_node : (a : Part) (o : Option Part) (g : HeldOf IsNewName a) (own : List TypeFault) → own ≡ [] → OwnNames IsName (built_by s (kind.Specification declaring.Constant) (form.Specified (held_count (Some a))) i j (specification_parts (Some a ∷ o ∷ [])) own)
  constants_node a o g (x ∷ xs) e = cc
  constants_node a o g [] e =
      let n = held_count (Some a) in
      let ys = specification_parts (Some a ∷ o ∷ []) in
      let t = type_there n ys in
      let vs = values_there n ys in
      let ks = rests ∷ map (λ x. type_or_rest t) vs in
      let zs = first_cut (typed_or_not o) in
      let r = constant_names t vs g.all ks zs g.each in
      let same : take n (list_of (row (all_given (specified_constants n t vs) ys))) ≡ take (length g.all) (all_given (constants_take t (replicate (length g.all) t) vs ++ ks) (somes g.all ++ zs)) =
      ap (take n) (list_row (all_given (specified_constants n t vs) ys))
      ∙ (ap (λ ws. take n (all_given (specified_constants n t vs) (ws ++ zs))) (held_are IsNewName a g) ∙ ap (λ m. take m (all_given (constants_take t (replicate m t) vs ++ ks) (somes g.all ++ zs))) (held_length IsNewName a g)) in
      record { all = r.0; are = same ∙ r.1; each = r.2; single = refl }

  pub constants_read : (xs : Parts) → Row s h all p i j (kind.Specification declaring.Constant) xs → Sound s (kind.Specification declaring.Constant) i j xs → OwnNames IsName (node_of s (kind.Specification declaring.Constant) i j xs)
  constants_read [] r e = elim r [ ]
  constants_read (None ∷ xs) r e = elim r [ ]
  constants_read (Some a ∷ []) r e = elim r.1 [ ]
  constants_read (Some a ∷ None ∷ []) r e = constants_node a None r.0.1 _ e
  constants_read (Some a ∷ None ∷ z ∷ zs) r e = elim r.1 [ ]
  constants_read (Some a ∷ Some b ∷ []) r e = constants_node a (Some b) r.0.1 _ e
  constants_read (Some a ∷ Some b ∷ z ∷ zs) r e = elim r.1.1 [ ]

  type_no_constant : (o : Option ℕ) → masses.is_constant (type_sort o) ≡ false
  type_no_constant None = refl
  type_no_constant (Some n) = refl

  type_name_typed : HolesTyped false (type_name s i)
  type_name_typed =
      let f = declared_form s.around (s.around.objects i) in
      bare_typed f i (suc i) (label f (type_sort (type_number s i)) []) sort.none refl (type_no_constant (type_number s i))

  pub type_read : (xs : Parts) → Row s h all p i j (kind.Specification declaring.Type) xs → Sound s (kind.Specification declaring.Type) i j xs → OwnNames (HolesTyped false) (node_of s (kind.Specification declaring.Type) i j xs)
  type_read xs r e = by (own_faults s (kind.Specification declaring.Type) (form.Held (kind.Specification declaring.Type)) i j (Some (type_name s i) ∷ xs))
    where
      by : (own : List TypeFault) → OwnNames (HolesTyped false) (built_by s (kind.Specification declaring.Type) (form.Held (kind.Specification declaring.Type)) i j (Some (type_name s i) ∷ xs) own)
      by [] = record { all = type_name s i ∷ []; are = refl; each = (type_name_typed, tt); single = refl }
      by (x ∷ fs) = record { all = type_name s i ∷ []; are = refl; each = (type_name_typed, tt); single = refl }

  -- ---- groups, and declarations

  in_group : (d : Declaring) (xs : Parts) → specifications (Some (node_of s (kind.Group d) i j xs) ∷ []) ≡ xs
  in_group d xs =
      let own = own_faults s (kind.Group d) (form.Held (kind.Group d)) i j xs in
      let x = built_by s (kind.Group d) (form.Held (kind.Group d)) i j xs own in
      ap (λ b. cond b (list_of (parts_of x)) (Some x ∷ [])) (ap is_group (built_form s (kind.Group d) (form.Held (kind.Group d)) i j xs own)) ∙ parts_are s (kind.Group d) (form.Held (kind.Group d)) i j xs own refl

  pub group_variables : (xs : Parts) → Row s h all p i j (kind.Group declaring.Variable) xs → Variables (node_of s (kind.Group declaring.Variable) i j xs)
  group_variables xs r =
      let m = many_read Stated (kind.Group declaring.Variable) h all [] (token.LeftParenthesis ∷ []) (Lines false (category.Specification declaring.Variable) token.Semicolon token.RightParenthesis) (λ n g x f. f.0) xs r in
      record { all = m.0; are = in_group declaring.Variable xs ∙ m.1; each = m.2 }

  append_each : (P : Part → Type 0) (xs ys : List Part) → Each P xs → Each P ys → Each P (xs ++ ys)
  append_each P [] ys g h = h
  append_each P (x ∷ xs) ys g h = (g.0, append_each P xs ys g.1 h)

  append_somes : (xs ys : List Part) → somes xs ++ somes ys ≡ somes (xs ++ ys)
  append_somes [] ys = refl
  append_somes (x ∷ xs) ys = ap (λ zs. Some x ∷ zs) (append_somes xs ys)

  all_own : (P : Part → Type 0) (xs : List Part) → Each (OwnNames P) xs → (ms : List Part) × (all_names (somes xs) ≡ somes ms) × Each P ms
  all_own P [] g = ([], refl, tt)
  all_own P (x ∷ xs) g =
      let r = all_own P xs g.1 in
      (g.0.all ++ r.0, ap (λ zs. zs ++ all_names (somes xs)) g.0.are ∙ (ap (λ zs. somes g.0.all ++ zs) r.1 ∙ append_somes g.0.all r.0), append_each P g.0.all r.0 g.0.each r.2)

  pub group_constants : (xs : Parts) → Row s h all p i j (kind.Group declaring.Constant) xs → Names IsName (node_of s (kind.Group declaring.Constant) i j xs)
  group_constants xs r =
      let m = many_read (OwnNames IsName) (kind.Group declaring.Constant) h all [] (token.LeftParenthesis ∷ []) (Lines false (category.Specification declaring.Constant) token.Semicolon token.RightParenthesis) (λ n g x f. f) xs r in
      let q = all_own IsName m.0 m.2 in
      record { all = q.0; are = ap all_names (in_group declaring.Constant xs ∙ m.1) ∙ q.1; each = q.2 }

  pub group_types : (xs : Parts) → Row s h all p i j (kind.Group declaring.Type) xs → Names (HolesTyped false) (node_of s (kind.Group declaring.Type) i j xs)
  group_types xs r =
      let m = many_read (OwnNames (HolesTyped false)) (kind.Group declaring.Type) h all [] (token.LeftParenthesis ∷ []) (Lines false (category.Specification declaring.Type) token.Semicolon token.RightParenthesis) (λ n g x f. f) xs r in
      let q = all_own (HolesTyped false) m.0 m.2 in
      record { all = q.0; are = ap all_names (in_group declaring.Type xs ∙ m.1) ∙ q.1; each = q.2 }

  pub declaration_read : (d : Declaring) (xs : Parts) → Row s h all p i j (kind.Declaration d) xs → Sound s (kind.Declaration d) i j xs → Stated (node_of s (kind.Declaration d) i j xs)
  declaration_read d [] r e = elim r [ ]
  declaration_read d (None ∷ xs) r e = elim r [ ]
  declaration_read declaring.Variable (Some x ∷ []) r e =
      let g = r.0.1 in
      own_says s h all p i j (kind.Declaration declaring.Variable) form.Variables (specifications (Some x ∷ [])) refl refl (subst (AllReady []) (sym g.are) (all_say g.all g.each)) e
  declaration_read declaring.Constant (Some x ∷ []) r e =
      let g = r.0.1 in
      let ys = all_names (specifications (Some x ∷ [])) in
      stated s (kind.Declaration declaring.Constant) form.Constants i j ys _ refl (constants_say s i j g.all g.each ys g.are _ e)
  declaration_read declaring.Type (Some x ∷ []) r e =
      let g = r.0.1 in
      let ys = all_names (specifications (Some x ∷ [])) in
      stated s (kind.Declaration declaring.Type) form.TypeNames i j ys _ refl (types_say s i j g.all g.each ys g.are _ e)
  declaration_read d (Some x ∷ y ∷ ys) r e = elim r.1 [ ]
