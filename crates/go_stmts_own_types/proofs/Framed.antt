-- What is known between statements, with other numbers of the declared types that locals are: what changes it does so in both alike.
use Rattle.std.proofs.Common.{◌≡◌, ℕ, suc, Bool, true, false, if◌then◌else◌, List, [], ◌∷◌, ◌++◌, Option, Some, None, refl, sym, ap, ◌∙◌}
use Rattle.std.specs.Option.{option_map}
use Rattle.go_grammar.specs.declared.kind.Kind.{Kind}
use Rattle.go_grammar.specs.declared.kind.Kind.TheVariants as kind
use Rattle.go_grammar.specs.declared.kind.Sort.TheVariants as declaring
use Rattle.go_grammar.specs.Trees.{Tree, node, Trees, none, more, skip, kind_of}
use Rattle.go_tree.specs.declared.object.Object.{Object}
use Rattle.go_types.specs.Trees.{TypeTree, declared}
use Rattle.go_typed.specs.declared.form.Form.{Form}
use Rattle.go_typed.specs.Trees.{list_of, form_of, sort_of, parts_of}
use Rattle.go_typed.specs.Trees as sort
use Rattle.go_exprs_rules.specs.declared.fault.TypeFault.{TypeFault}
use Rattle.go_exprs_rules.specs.Names.{declared_form}
use Rattle.go_exprs_rules.specs.Scopes.{Hint, value}
use Rattle.go_exprs_rules.specs.Settling.{Part}
use Rattle.go_exprs_rules.specs.Sorts.{Stands}
use Rattle.go_exprs_rules.specs.Tables.{Parts, made, on_two}
use Rattle.go_exprs_rules.specs.TypeNodes.{part_type, entry_types}
use Rattle.go_exprs_rules.specs.Typing.{typing, faults}
use Rattle.go_stmts_defs.specs.Frames.{Frame, scope_of, rights_of, with_local, with_own_right}
use Rattle.go_stmts_defs.specs.Laying.{told, layout, local_named, type_number, type_name, type_sort}
use Rattle.go_stmts_defs.specs.Reading.{Found, with_parameter, with_parameters, signature_results, behind_signature, in_function, in_switch, in_constants, entering, entry_names, first_parts, with_type, beginning}
use Rattle.go_stmts_defs.specs.Reading.{declares_sort, is_new, declares_name, declares_all, part_source, right_side, back, leaving}
use Rattle.go_stmts_defs.specs.Reading.{is_list, is_declared_name, list_node, name_node, holding, holdings, held_faults, all_held_faults, left_out, left_out_faults}
use Rattle.go_stmts_defs.specs.Rules.{type_failing, failing, own_faults, judges, taking, all_given, built_by, first_fault, late_limits}
use Rattle.go_stmts_own_types.specs.Numbered.{IsNumbered, numbered}

false_true : {A : Type 0} → false ≡ true → A
false_true e = cc

some_same : (m n : ℕ) → ◌≡◌ {A = Option ℕ} (Some m) (Some n) → m ≡ n
some_same m n e = cc

module _ (v u : ℕ → ℕ) (os : ℕ → Option Object) where
  -- The frame has the first numbers, and its tokens mean these objects.
  pub record Fits (f : Frame) : Type 0 where
    pub types : f.types ≡ v
    pub objects : f.around.objects ≡ os

  abbrev to : Frame → Frame
  to f = numbered u f

  -- ---- names

  local_same : (f : Frame) (i : ℕ) → Fits f → option_map u (local_named (os i)) ≡ option_map v (local_named (os i)) → option_map u (local_named (f.around.objects i)) ≡ option_map f.types (local_named (f.around.objects i))
  local_same f i a e =
      ap (λ (o : ℕ → Option Object). option_map u (local_named (o i))) a.objects ∙ e ∙ sym (ap (λ (o : ℕ → Option Object). option_map v (local_named (o i))) a.objects)
      ∙ sym (ap (λ (w : ℕ → ℕ). option_map w (local_named (f.around.objects i))) a.types)

  number_same : (f : Frame) (i : ℕ) → Fits f → option_map u (local_named (os i)) ≡ option_map v (local_named (os i)) → type_number (to f) i ≡ type_number f i
  number_same f i a e = local_same f i a e

  type_name_same : (f : Frame) (i : ℕ) → Fits f → option_map u (local_named (os i)) ≡ option_map v (local_named (os i)) → type_name (to f) i ≡ type_name f i
  type_name_same f i a e = ap (λ n. made (declared_form f.around (f.around.objects i)) i (suc i) (type_sort n) [] []) (number_same f i a e)

  pub layout_same : (f : Frame) (k : Kind) (i : ℕ) (xs : Parts) → Fits f → IsNumbered v u os k i → layout (to f) k i xs ≡ layout f k i xs
  layout_same f (kind.Specification declaring.Type) i xs a e = ap (λ x. Some x ∷ xs) (type_name_same f i a e)
  layout_same f kind.NewNames i xs a e = refl
  layout_same f k i xs a e = refl

  -- ---- expressions and lists

  list_layout : (f : Frame) (k : Kind) (i : ℕ) (xs : Parts) → is_list k ≡ true → layout (to f) k i xs ≡ layout f k i xs
  list_layout f (kind.Specification declaring.Type) i xs e = false_true e
  list_layout f k i xs e = refl

  node_same : (f : Frame) (k : Kind) (i j : ℕ) (xs ys : Parts) (z : Part) (b : Bool) → is_list k ≡ b → xs ≡ ys
      → (if b then list_node (to f) k i j (layout (to f) k i xs) else z) ≡ (if b then list_node f k i j (layout f k i ys) else z)
  node_same f k i j xs ys z true e h = ap (list_node f k i j) (list_layout f k i xs e ∙ ap (layout f k i) h)
  node_same f k i j xs ys z false e h = refl

  faults_either : (b : Bool) (xs ys zs : Found) → xs ≡ ys → (if b then xs else zs) ≡ (if b then ys else zs)
  faults_either true xs ys zs e = e
  faults_either false xs ys zs e = refl

  mutual
    pub holding_same : (f : Frame) (h : Hint) (x : Tree) → holding (to f) h x ≡ holding f h x
    holding_same f h (node k i j ps) =
        node_same f k i j (holdings (to f) k h ps [] ps) (holdings f k h ps [] ps) (if is_declared_name k then name_node f i j else typing (scope_of f) h (node k i j ps)) (is_list k) refl (holdings_same f k h ps [] ps)

    holdings_same : (f : Frame) (k : Kind) (h : Hint) (all : Trees) (xs : Parts) (ps : Trees) → holdings (to f) k h all xs ps ≡ holdings f k h all xs ps
    holdings_same f k h all xs none = refl
    holdings_same f k h all xs (more p ps) =
        ap (λ x. holdings (to f) k h all (xs ++ Some x ∷ []) ps) (holding_same f (told k h all xs (kind_of p)) p) ∙ holdings_same f k h all (xs ++ Some (holding f (told k h all xs (kind_of p)) p) ∷ []) ps
    holdings_same f k h all xs (skip ps) = holdings_same f k h all (xs ++ None ∷ []) ps

  mutual
    pub held_same : (f : Frame) (h : Hint) (x : Tree) → held_faults (to f) h x ≡ held_faults f h x
    held_same f h (node k i j ps) =
        faults_either (is_list k) (all_held_faults (to f) k h ps [] ps) (all_held_faults f k h ps [] ps) (if is_declared_name k then [] else faults (scope_of f) h (node k i j ps)) (all_held_same f k h ps [] ps)

    all_held_same : (f : Frame) (k : Kind) (h : Hint) (all : Trees) (xs : Parts) (ps : Trees) → all_held_faults (to f) k h all xs ps ≡ all_held_faults f k h all xs ps
    all_held_same f k h all xs none = refl
    all_held_same f k h all xs (more p ps) =
        let g = told k h all xs (kind_of p) in
        ap (λ fs. fs ++ all_held_faults (to f) k h all (xs ++ Some (holding (to f) g p) ∷ []) ps) (held_same f g p)
        ∙ ap (λ x. held_faults f g p ++ all_held_faults (to f) k h all (xs ++ Some x ∷ []) ps) (holding_same f g p)
        ∙ ap (λ fs. held_faults f g p ++ fs) (all_held_same f k h all (xs ++ Some (holding f g p) ∷ []) ps)
    all_held_same f k h all xs (skip ps) = all_held_same f k h all (xs ++ None ∷ []) ps

  repeated_same : (f : Frame) (o : Option Tree) → left_out (to (record f { source = o })) (kind.Specification declaring.Constant) ≡ left_out (record f { source = o }) (kind.Specification declaring.Constant)
  repeated_same f None = refl
  repeated_same f (Some r) = ap (λ x. Some x) (holding_same (record f { source = Some r }) value r)

  pub left_out_same : (f : Frame) (k : Kind) → left_out (to f) k ≡ left_out f k
  left_out_same f (kind.Specification declaring.Constant) = repeated_same f f.source
  left_out_same f k = refl

  repeated_faults_same : (f : Frame) (o : Option Tree) → left_out_faults (to (record f { source = o })) (kind.Specification declaring.Constant) ≡ left_out_faults (record f { source = o }) (kind.Specification declaring.Constant)
  repeated_faults_same f None = refl
  repeated_faults_same f (Some r) = held_same (record f { source = Some r }) value r

  pub left_out_faults_same : (f : Frame) (k : Kind) → left_out_faults (to f) k ≡ left_out_faults f k
  left_out_faults_same f (kind.Specification declaring.Constant) = repeated_faults_same f f.source
  left_out_faults_same f k = refl

  -- ---- what changes what is known

  right_same : (f : Frame) (n : Option ℕ) (t : Option TypeTree) → with_own_right n t (to f) ≡ to (with_own_right n t f)
  right_same f None t = refl
  right_same f (Some n) t = refl

  type_same : (f : Frame) (n : Option ℕ) → option_map u n ≡ option_map f.types n → with_type n (to f) ≡ to (with_type n f)
  type_same f None e = refl
  type_same f (Some n) e = ap (λ m. to (with_local n (sort.IsType (declared m)) f)) (some_same (u n) (f.types n) e)

  pub beginning_same : (f : Frame) (k : Kind) (i j : ℕ) → Fits f → IsNumbered v u os k i → beginning k i (to f) ≡ to (beginning k i f)
  beginning_same f (kind.Specification declaring.Type) i j a e = type_same f (local_named (f.around.objects i)) (local_same f i a e)
  beginning_same f k i j a e = refl

  parameter_same : (f : Frame) (n : Option ℕ) (t : Option TypeTree) → with_parameter n t (to f) ≡ to (with_parameter n t f)
  parameter_same f None t = refl
  parameter_same f (Some n) None = refl
  parameter_same f (Some n) (Some t) = refl

  parameters_same : (f : Frame) (ns : List (Option ℕ)) (ts : List (Option TypeTree)) → with_parameters ns ts (to f) ≡ to (with_parameters ns ts f)
  parameters_same f [] ts = refl
  parameters_same f (n ∷ ns) [] = refl
  parameters_same f (n ∷ ns) (t ∷ ts) = ap (λ z. with_parameters ns ts z) (parameter_same f n t) ∙ parameters_same (with_parameter n t f) ns ts

  results_same : (f : Frame) (t : Option TypeTree) → signature_results (to f) t ≡ signature_results f t
  results_same f None = refl
  results_same f (Some t) = refl

  signature_same : (f : Frame) (g : Option Part) → behind_signature g (to f) ≡ to (behind_signature g f)
  signature_same f g =
      ap (λ ts. with_parameters (entry_names (first_parts g)) (entry_types (first_parts g)) (record (to f) { results = ts })) (results_same f (part_type g))
      ∙ parameters_same (record f { results = signature_results f (part_type g) }) (entry_names (first_parts g)) (entry_types (first_parts g))

  function_same : (f : Frame) (xs : Parts) → in_function xs (to f) ≡ to (in_function xs f)
  function_same f (g ∷ []) = signature_same f g
  function_same f xs = refl

  switch_same : (f : Frame) (xs : Parts) → in_switch xs (to f) ≡ to (in_switch xs f)
  switch_same f (x ∷ []) = refl
  switch_same f xs = refl

  constants_same : (f : Frame) (xs : Parts) → in_constants xs (to f) ≡ to (in_constants xs f)
  constants_same f [] = refl
  constants_same f (x ∷ xs) = refl

  pub entering_same : (f : Frame) (k : Kind) (xs : Parts) → entering k xs (to f) ≡ to (entering k xs f)
  entering_same f (kind.Declaration declaring.Constant) xs = constants_same f xs
  entering_same f (kind.Group declaring.Constant) xs = constants_same f xs
  entering_same f kind.Switch xs = switch_same f xs
  entering_same f kind.FunctionDeclaration xs = function_same f xs
  entering_same f k xs = refl

  declares_sort_same : (f : Frame) (n : Option ℕ) (x : Stands) → declares_sort n x (to f) ≡ to (declares_sort n x f)
  declares_sort_same f None x = refl
  declares_sort_same f (Some n) sort.Nothing = refl
  declares_sort_same f (Some n) x = refl

  declares_name_same : (f : Frame) (x : Option Part) → declares_name x (to f) ≡ to (declares_name x f)
  declares_name_same f None = refl
  declares_name_same f (Some x) = declares_sort_same f (is_new (form_of x)) (sort_of x)

  declares_all_same : (f : Frame) (xs : Parts) → declares_all xs (to f) ≡ to (declares_all xs f)
  declares_all_same f [] = refl
  declares_all_same f (x ∷ xs) = ap (λ z. declares_all xs z) (declares_name_same f x) ∙ declares_all_same (declares_name x f) xs

  left_same : (f : Frame) (k : Kind) (i j : ℕ) (ps : Trees) (x : Part) → Fits f → IsNumbered v u os k i → leaving k i ps x (to f) ≡ to (leaving k i ps x f)
  left_same f (kind.Specification declaring.Type) i j ps x a e =
      ap (λ n. with_own_right n (right_side (list_of (parts_of x))) (to f)) (number_same f i a e) ∙ right_same f (type_number f i) (right_side (list_of (parts_of x)))
  left_same f (kind.Specification declaring.Variable) i j ps x a e = declares_all_same f (list_of (parts_of x))
  left_same f (kind.Specification declaring.Constant) i j ps x a e = declares_all_same (record f { source = part_source ps f.source }) (list_of (parts_of x))
  left_same f kind.Define i j ps x a e = declares_all_same f (list_of (parts_of x))
  left_same f kind.DefiningRange i j ps x a e = declares_all_same f (list_of (parts_of x))
  left_same f k i j ps x a e = refl

  pub leaving_same : (before f : Frame) (k : Kind) (i j : ℕ) (ps : Trees) (x : Part) → Fits f → IsNumbered v u os k i
      → leaving k i ps x (back (to before) (to f)) ≡ to (leaving k i ps x (back before f))
  leaving_same before f k i j ps x a e = left_same (back before f) k i j ps x (record { types = a.types; objects = a.objects }) e

  -- ---- rules

  abbrev late : Frame → Option ℕ → Part → List TypeFault
  late f n x = first_fault (late_limits (rights_of f) (rights_of (with_own_right n (part_type (Some x)) f)) x)

  late_same : (f : Frame) (n : Option ℕ) (x : Part) → late (to f) n x ≡ late f n x
  late_same f None x = refl
  late_same f (Some n) x = refl

  type_failing_same : (f : Frame) (i : ℕ) (x : Part) → Fits f → option_map u (local_named (os i)) ≡ option_map v (local_named (os i)) → type_failing (to f) i x ≡ type_failing f i x
  type_failing_same f i x a e =
      ap (λ n. late (to f) n x) (number_same f i a e) ∙ late_same f (type_number f i) x

  types_failing_same : (f : Frame) (i : ℕ) (ys : Parts) → Fits f → option_map u (local_named (os i)) ≡ option_map v (local_named (os i)) → on_two [] (λ n x. type_failing (to f) i x) ys ≡ on_two [] (λ n x. type_failing f i x) ys
  types_failing_same f i (Some x ∷ Some y ∷ []) a e = type_failing_same f i y a e
  types_failing_same f i ys a e = refl

  failing_same : (s : Frame) (k : Kind) (f : Form) (i j : ℕ) (ys : Parts) → Fits s → IsNumbered v u os k i → failing (to s) k f i j ys ≡ failing s k f i j ys
  failing_same s (kind.Specification declaring.Type) f i j ys a e = types_failing_same s i ys a e
  failing_same s kind.Define f i j ys a e = refl
  failing_same s k f i j ys a e = refl

  pub faults_same : (s : Frame) (k : Kind) (f : Form) (i j : ℕ) (ys : Parts) → Fits s → IsNumbered v u os k i → own_faults (to s) k f i j ys ≡ own_faults s k f i j ys
  faults_same s k f i j ys a e = ap (λ fs. if judges k ys then fs else []) (failing_same s k f i j ys a e)

  taking_same : (s : Frame) (k : Kind) (f : Form) (ys : Parts) → taking (to s) k f ys ≡ taking s k f ys
  taking_same s kind.Define f ys = refl
  taking_same s k f ys = refl

  pub built_same : (s : Frame) (k : Kind) (f : Form) (i j : ℕ) (ys : Parts) (own : List TypeFault) → built_by (to s) k f i j ys own ≡ built_by s k f i j ys own
  built_same s k f i j ys [] = ap (λ ts. made f i j sort.Nothing ys (all_given ts ys)) (taking_same s k f ys)
  built_same s k f i j ys (x ∷ xs) = refl

  -- ---- what fits stays so

  right_fits : (f : Frame) (n : Option ℕ) (t : Option TypeTree) → Fits f → Fits (with_own_right n t f)
  right_fits f None t a = a
  right_fits f (Some n) t a = record { types = a.types; objects = a.objects }

  type_fits : (f : Frame) (n : Option ℕ) → Fits f → Fits (with_type n f)
  type_fits f None a = a
  type_fits f (Some n) a = record { types = a.types; objects = a.objects }

  pub beginning_fits : (f : Frame) (k : Kind) (i : ℕ) → Fits f → Fits (beginning k i f)
  beginning_fits f (kind.Specification declaring.Type) i a = type_fits f (local_named (f.around.objects i)) a
  beginning_fits f k i a = a

  parameter_fits : (f : Frame) (n : Option ℕ) (t : Option TypeTree) → Fits f → Fits (with_parameter n t f)
  parameter_fits f None t a = a
  parameter_fits f (Some n) None a = a
  parameter_fits f (Some n) (Some t) a = record { types = a.types; objects = a.objects }

  parameters_fit : (f : Frame) (ns : List (Option ℕ)) (ts : List (Option TypeTree)) → Fits f → Fits (with_parameters ns ts f)
  parameters_fit f [] ts a = a
  parameters_fit f (n ∷ ns) [] a = a
  parameters_fit f (n ∷ ns) (t ∷ ts) a = parameters_fit (with_parameter n t f) ns ts (parameter_fits f n t a)

  function_fits : (f : Frame) (xs : Parts) → Fits f → Fits (in_function xs f)
  function_fits f (g ∷ []) a = parameters_fit (record f { results = signature_results f (part_type g) }) (entry_names (first_parts g)) (entry_types (first_parts g)) (record { types = a.types; objects = a.objects })
  function_fits f xs a = a

  switch_fits : (f : Frame) (xs : Parts) → Fits f → Fits (in_switch xs f)
  switch_fits f (x ∷ []) a = record { types = a.types; objects = a.objects }
  switch_fits f xs a = a

  constants_fit : (f : Frame) (xs : Parts) → Fits f → Fits (in_constants xs f)
  constants_fit f [] a = record { types = a.types; objects = a.objects }
  constants_fit f (x ∷ xs) a = record { types = a.types; objects = a.objects }

  pub entering_fits : (f : Frame) (k : Kind) (xs : Parts) → Fits f → Fits (entering k xs f)
  entering_fits f (kind.Declaration declaring.Constant) xs a = constants_fit f xs a
  entering_fits f (kind.Group declaring.Constant) xs a = constants_fit f xs a
  entering_fits f kind.Switch xs a = switch_fits f xs a
  entering_fits f kind.FunctionDeclaration xs a = function_fits f xs a
  entering_fits f k xs a = a

  declares_sort_fits : (f : Frame) (n : Option ℕ) (x : Stands) → Fits f → Fits (declares_sort n x f)
  declares_sort_fits f None x a = a
  declares_sort_fits f (Some n) sort.Nothing a = a
  declares_sort_fits f (Some n) x a = record { types = a.types; objects = a.objects }

  declares_name_fits : (f : Frame) (x : Option Part) → Fits f → Fits (declares_name x f)
  declares_name_fits f None a = a
  declares_name_fits f (Some x) a = declares_sort_fits f (is_new (form_of x)) (sort_of x) a

  declares_all_fit : (f : Frame) (xs : Parts) → Fits f → Fits (declares_all xs f)
  declares_all_fit f [] a = a
  declares_all_fit f (x ∷ xs) a = declares_all_fit (declares_name x f) xs (declares_name_fits f x a)

  left_fits : (f : Frame) (k : Kind) (i : ℕ) (ps : Trees) (x : Part) → Fits f → Fits (leaving k i ps x f)
  left_fits f (kind.Specification declaring.Type) i ps x a = right_fits f (type_number f i) (right_side (list_of (parts_of x))) a
  left_fits f (kind.Specification declaring.Variable) i ps x a = declares_all_fit f (list_of (parts_of x)) a
  left_fits f (kind.Specification declaring.Constant) i ps x a = declares_all_fit (record f { source = part_source ps f.source }) (list_of (parts_of x)) (record { types = a.types; objects = a.objects })
  left_fits f kind.Define i ps x a = declares_all_fit f (list_of (parts_of x)) a
  left_fits f kind.DefiningRange i ps x a = declares_all_fit f (list_of (parts_of x)) a
  left_fits f k i ps x a = a

  pub leaving_fits : (before f : Frame) (k : Kind) (i : ℕ) (ps : Trees) (x : Part) → Fits f → Fits (leaving k i ps x (back before f))
  leaving_fits before f k i ps x a = left_fits (back before f) k i ps x (record { types = a.types; objects = a.objects })
