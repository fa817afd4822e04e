-- Declarations of variables, constants and types in a function (Go specification: Variable declarations, Constant declarations, Type
-- declarations).
use Rattle.std.proofs.Common.{◌≡◌, ◌∙◌, ℕ, Bool, true, false, List, [], ◌∷◌, ◌++◌, take, replicate, Option, Some, None, refl, sym, subst}
use Rattle.go_grammar.specs.declared.kind.Category.{Category}
use Rattle.go_grammar.specs.declared.kind.Category.TheVariants as category
use Rattle.go_grammar.specs.declared.kind.Kind.{Kind}
use Rattle.go_grammar.specs.declared.kind.Kind.TheVariants as kind
use Rattle.go_grammar.specs.declared.kind.Sort.{Sort}
use Rattle.go_grammar.specs.declared.kind.Sort.TheVariants as declaring
use Rattle.go_grammar.specs.Categories.{place_of}
use Rattle.go_grammar.specs.Grammar.{rule}
use Rattle.go_grammar.specs.Rules.{Lines}
use Rattle.go_grammar.specs.Trees.{Trees, node}
use Rattle.go_tokens.specs.declared.token.TokenKind.TheVariants as token
use Rattle.go_typed.specs.declared.form.Form.TheVariants as form
use Rattle.go_typed.specs.Trees.{list_of, form_of, parts_of}
use Rattle.go_exprs_rules.specs.declared.fault.TypeFault.{TypeFault}
use Rattle.go_exprs_rules.specs.Scopes.{Hint}
use Rattle.go_exprs_rules.specs.Settling.{Part}
use Rattle.go_exprs_rules.specs.Tables.{Parts, held, first_cut}
use Rattle.go_stmts_defs.specs.Assigning.{rests, value_types_by, values_take, whole_results}
use Rattle.go_stmts_defs.specs.Frames.{Frame, rights_of}
use Rattle.go_stmts_defs.specs.Laying.{type_sort, type_number, type_name, typed_or_not, specification_parts, specified_names, all_names, is_group, specifications, held_count}
use Rattle.go_stmts_defs.specs.Rules.{type_there, values_there, taking, all_given, own_faults, built_by}
use Rattle.clone_window.specs.Masses.{is_constant}
use Rattle.go_function_holes.proofs.Public.{Below, OfHole, deeper, either, differ}
use Rattle.go_function_holes_windows.proofs.Rows.{Each, Good, Fine, IsBare, IsOwn, bare-good, each-both, each-weaker, list-row, own-hold}
use Rattle.go_function_holes_windows.proofs.Takings.{FirstOwn, built-fine, first-front, first-given, first-taken, names-front, none-declared, values-fit, variables-fit}
use Rattle.go_function_holes_windows.proofs.Read.{Declares, RowAs, Specifies, many-each}
use Rattle.go_function_holes_windows.proofs.Layouts.{Unfailing, node_of}
use Rattle.go_function_holes_windows.proofs.Within.{each-weaker-holes}

-- ---- names of specifications

pub specification-declares : (D : Part → Type 0) (x : Part) → Specifies D x → Declares D x
specification-declares D x h =
    either (λ (ys : Parts). Each D (all_names ys)) (is_group (form_of x)) (list_of (parts_of x)) (Some x ∷ []) (λ e. absurd (differ (sym h.single ∙ e))) (λ e. each-both D (specified_names (Some x)) [] h.names tt)

all-specify : (D : Part → Type 0) (xs : Parts) → Each (Specifies D) xs → Each D (all_names xs)
all-specify D [] h = tt
all-specify D (None ∷ xs) h = all-specify D xs h.1
all-specify D (Some x ∷ xs) h = each-both D (specified_names (Some x)) (all_names xs) h.0.names (all-specify D xs h.1)

sort-plain : (o : Option ℕ) → is_constant (type_sort o) ≡ false
sort-plain (Some n) = refl
sort-plain None = refl

module _ (c : Category) (s : Frame) (h : Hint) (i j : ℕ) (ps : Trees) where
  abbrev Row : Kind → Parts → Type 0
  Row k xs = RowAs c k h ps (rule (place_of c) k) 0 [] xs

  constants-over : (n : ℕ) (ys : Parts) (own : List TypeFault) → own ≡ [] → FirstOwn n ys → Specifies IsOwn (built_by s (kind.Specification declaring.Constant) (form.Specified n) i j ys own)
  constants-over n ys [] e f =
      let zs = all_given (taking s (kind.Specification declaring.Constant) (form.Specified n) ys) ys in
      record { names = subst (λ rs. Each IsOwn (take n rs)) (sym (list-row zs)) (first-taken n zs (first-given n (taking s (kind.Specification declaring.Constant) (form.Specified n) ys) ys f)); single = refl }
  constants-over n ys (x ∷ xs) e f = absurd cc

  pub constants_specification : (xs : Parts) → Row (kind.Specification declaring.Constant) xs → Unfailing s (kind.Specification declaring.Constant) i j xs → Specifies IsOwn (node_of s (kind.Specification declaring.Constant) i j xs)
  constants_specification [] r u = absurd r
  constants_specification (None ∷ xs) r u = absurd r
  constants_specification (Some n ∷ []) r u = absurd r.1
  constants_specification (Some n ∷ None ∷ []) r u = constants-over (held_count (Some n)) (specification_parts (Some n ∷ None ∷ [])) _ u (first-front (held (Some n)) (first_cut (typed_or_not None)) r.0.read.1)
  constants_specification (Some n ∷ Some x ∷ []) r u = constants-over (held_count (Some n)) (specification_parts (Some n ∷ Some x ∷ [])) _ u (first-front (held (Some n)) (first_cut (typed_or_not (Some x))) r.0.read.1)
  constants_specification (Some n ∷ None ∷ y ∷ ys) r u = absurd r.1
  constants_specification (Some n ∷ Some x ∷ y ∷ ys) r u = absurd r.1.1

  types-over : (xs : Parts) (own : List TypeFault) → own ≡ [] → Specifies IsBare (built_by s (kind.Specification declaring.Type) (form.Held (kind.Specification declaring.Type)) i j (Some (type_name s i) ∷ xs) own)
  types-over xs [] e = record { names = (record { alone = refl; plain = sort-plain (type_number s i) }, tt); single = refl }
  types-over xs (y ∷ ys) e = absurd cc

  pub types_specification : (xs : Parts) → Unfailing s (kind.Specification declaring.Type) i j xs → Specifies IsBare (node_of s (kind.Specification declaring.Type) i j xs)
  types_specification xs u = types-over xs _ u

  group-over : (D : Part → Type 0) (d : Sort) (xs : Parts) (own : List TypeFault) → own ≡ [] → Each (Specifies D) xs → Declares D (built_by s (kind.Group d) (form.Held (kind.Group d)) i j xs own)
  group-over D d xs [] e h = subst (λ rs. Each D (all_names rs)) (sym (list-row xs)) (all-specify D xs h)
  group-over D d xs (y ∷ ys) e h = absurd cc

  pub constants_group : (xs : Parts) → Row (kind.Group declaring.Constant) xs → Unfailing s (kind.Group declaring.Constant) i j xs → Declares IsOwn (node_of s (kind.Group declaring.Constant) i j xs)
  constants_group xs r u =
      group-over IsOwn declaring.Constant xs _ u
      (many-each (Specifies IsOwn) c (kind.Group declaring.Constant) h ps (token.LeftParenthesis ∷ []) (Lines false (category.Specification declaring.Constant) token.Semicolon token.RightParenthesis) (λ n ys x part. part.read) 0 [] xs r)

  pub types_group : (xs : Parts) → Row (kind.Group declaring.Type) xs → Unfailing s (kind.Group declaring.Type) i j xs → Declares IsBare (node_of s (kind.Group declaring.Type) i j xs)
  types_group xs r u =
      group-over IsBare declaring.Type xs _ u
      (many-each (Specifies IsBare) c (kind.Group declaring.Type) h ps (token.LeftParenthesis ∷ []) (Lines false (category.Specification declaring.Type) token.Semicolon token.RightParenthesis) (λ n ys x part. part.read) 0 [] xs r)

  own-names : (P : OfHole) (ys : Parts) (own : List TypeFault) → own ≡ [] → Each IsOwn ys → Fine P (built_by s (kind.Declaration declaring.Constant) form.Constants i j ys own)
  own-names P ys [] e o = ((λ q. (tt, own-hold P ys o q.2)), tt)
  own-names P ys (x ∷ xs) e o = absurd cc

  pub constants : (P : OfHole) (xs : Parts) → Row (kind.Declaration declaring.Constant) xs → Unfailing s (kind.Declaration declaring.Constant) i j xs → Fine P (node_of s (kind.Declaration declaring.Constant) i j xs)
  constants P [] r u = absurd r
  constants P (None ∷ xs) r u = absurd r
  constants P (Some x ∷ []) r u = own-names P (all_names (specifications (Some x ∷ []))) _ u r.0.read
  constants P (Some x ∷ y ∷ ys) r u = absurd r.1

  pub type_names : (P : OfHole) (xs : Parts) → Row (kind.Declaration declaring.Type) xs → Unfailing s (kind.Declaration declaring.Type) i j xs → Fine P (node_of s (kind.Declaration declaring.Type) i j xs)
  type_names P [] r u = absurd r
  type_names P (None ∷ xs) r u = absurd r
  type_names P (Some x ∷ []) r u =
      let ys = all_names (specifications (Some x ∷ [])) in
      built-fine P s (kind.Declaration declaring.Type) form.TypeNames i j ys (own_faults s (kind.Declaration declaring.Type) form.TypeNames i j ys) 0 u (none-declared s (kind.Declaration declaring.Type) form.TypeNames ys refl) (each-weaker IsBare (Good P) (bare-good P) ys r.0.read)
  type_names P (Some x ∷ y ∷ ys) r u = absurd r.1

  pub variables_specification : (o : Bool) (xs : Parts) → Row (kind.Specification declaring.Variable) xs → Unfailing s (kind.Specification declaring.Variable) i j xs
      → Fine (Below o c (node (kind.Specification declaring.Variable) i j ps)) (node_of s (kind.Specification declaring.Variable) i j xs)
  variables_specification o [] r u = absurd r
  variables_specification o (None ∷ xs) r u = absurd r
  variables_specification o (Some n ∷ []) r u = absurd r.1
  variables_specification o (Some n ∷ None ∷ xs) r u = absurd r.1
  variables_specification o (Some n ∷ Some x ∷ y ∷ ys) r u = absurd r.1.1
  variables_specification o (Some n ∷ Some x ∷ []) r u =
      let k = kind.Specification declaring.Variable in
      let P : OfHole = Below o c (node k i j ps) in
      let part = r.1.0 in
      let rest : Parts = first_cut (typed_or_not (Some x)) in
      let ys : Parts = held (Some n) ++ rest in
      let m = held_count (Some n) in
      let f = form.Specified m in
      let goods : Each (Good P) rest = each-weaker-holes (Below true category.VariableRest part.stood) P (λ a b q. deeper o c k i j ps 1 category.VariableRest part.stood (part.at refl) a b q refl) rest (part.read refl) in
      let t = type_there m ys in
      let vs = values_there m ys in
      built-fine P s k f i j ys (own_faults s k f i j ys) m u
      (variables-fit m t (value_types_by vs (whole_results (rights_of s) vs)) (rests ∷ values_take (replicate m t) vs) (tt, values-fit (replicate m t) vs))
      (names-front P (held (Some n)) rest r.0.read.0 goods)
