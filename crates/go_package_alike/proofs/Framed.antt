-- What is known between statements, where tokens say and mean something else around it: what changes it does so in both alike.
use Rattle.std.proofs.Common.{◌≡◌, ℕ, suc, Bool, true, if◌then◌else◌, List, [], ◌∷◌, Option, Some, None, refl, ap, ◌∙◌}
use Rattle.std.specs.Option.{option_map}
use Rattle.go_grammar.specs.declared.kind.Kind.{Kind}
use Rattle.go_grammar.specs.declared.kind.Kind.TheVariants as kind
use Rattle.go_grammar.specs.declared.kind.Sort.TheVariants as declaring
use Rattle.go_grammar.specs.Trees.{Tree, Trees, none, more}
use Rattle.go_tree.specs.declared.object.Object.{Object}
use Rattle.go_tree.specs.declared.object.Object.TheVariants as object
use Rattle.go_types.specs.Trees.{TypeTree}
use Rattle.go_typed.specs.declared.form.Form.{Form}
use Rattle.go_typed.specs.Trees.{list_of, form_of, sort_of, parts_of}
use Rattle.go_typed.specs.Trees as sort
use Rattle.go_exprs_rules.specs.declared.fault.TypeFault.{TypeFault}
use Rattle.go_exprs_rules.specs.Names.{declared_form}
use Rattle.go_exprs_rules.specs.Settling.{Part}
use Rattle.go_exprs_rules.specs.Sorts.{Stands}
use Rattle.go_exprs_rules.specs.Tables.{Parts, made, on_two}
use Rattle.go_exprs_rules.specs.TypeNodes.{part_type, entry_types}
use Rattle.go_stmts_defs.specs.Frames.{Frame, Locals, local_stands, looked_up, scope_of, rights_of, with_own_right}
use Rattle.go_stmts_defs.specs.Laying.{layout, local_named, type_number, type_name, type_sort}
use Rattle.go_stmts_defs.specs.Reading.{with_parameter, with_parameters, signature_results, behind_signature, in_function, in_switch, in_constants, entering, entry_names, first_parts, with_type, beginning}
use Rattle.go_stmts_defs.specs.Reading.{declares_sort, is_new, declares_name, declares_all, part_source, right_side, back, leaving}
use Rattle.go_stmts_defs.specs.Rules.{type_failing, failing, own_faults, judges, taking, all_given, built_by, first_fault, late_limits}
use Rattle.go_package_alike.specs.Frames.{MaybeTokens}
use Rattle.go_package_alike.specs.Scopes.{Says, said, MeanSame, SaidSame, TokenHas, TokensIn}
use Rattle.go_package_alike.proofs.Said.{retold, declared_at, local_at}

-- what surrounds it says and means this
abbrev pub framed : Frame → Says → Frame
framed f m = record f { around = retold f.around m }

-- with these locals
abbrev pub with_locals : Locals → Says → Says
with_locals ls m = record m { sorts = looked_up ls m.sorts }

mean_with : (ls : Locals) (a b : Says) (o q : Option Object) → MeanSame a b o q → MeanSame (with_locals ls a) (with_locals ls b) o q
mean_with ls a b None None e = tt
mean_with ls a b (Some object.Import) (Some object.Import) e = tt
mean_with ls a b (Some (object.Predeclared m)) (Some (object.Predeclared n)) e = e
mean_with ls a b (Some (object.Package m)) (Some (object.Package n)) e = e
mean_with ls a b (Some (object.Local f m)) (Some (object.Local g n)) e = (λ need. ap (local_stands ls) e.1, e.1)
mean_with ls a b o q e = absurd e

pub said_with : (p : ℕ → Bool) (m : Says) (f : Frame) → SaidSame p (said f.around) m → SaidSame p (said (scope_of f)) (with_locals f.locals m)
said_with p m f a = record {
  texts = a.texts;
  characters = a.characters;
  objects = λ i e. mean_with f.locals (said f.around) m (f.around.objects i) (m.objects i) (a.objects i e);
}

module _ (p : ℕ → Bool) (m : Says) where
  -- The tokens around say the same, and so do those of what constants may repeat.
  pub record Fits (f : Frame) : Type 0 where
    pub said_so : SaidSame p (said f.around) m
    pub repeats : MaybeTokens p f.source

  -- ---- names

  pub name_same : (f : Frame) (i : ℕ) → SaidSame p (said f.around) m → p i ≡ true → declared_form (retold f.around m) (m.objects i) ≡ declared_form f.around (f.around.objects i)
  name_same f i a e = declared_at f.around m (f.around.objects i) (m.objects i) (a.objects i e)

  number_same : (f : Frame) (i : ℕ) → SaidSame p (said f.around) m → p i ≡ true → type_number (framed f m) i ≡ type_number f i
  number_same f i a e = ap (option_map f.types) (local_at (said f.around) m (f.around.objects i) (m.objects i) (a.objects i e))

  type_name_same : (f : Frame) (i : ℕ) → SaidSame p (said f.around) m → p i ≡ true → type_name (framed f m) i ≡ type_name f i
  type_name_same f i a e =
      ap (λ x. made x i (suc i) (type_sort (type_number (framed f m) i)) [] []) (name_same f i a e)
      ∙ ap (λ n. made (declared_form f.around (f.around.objects i)) i (suc i) (type_sort n) [] []) (number_same f i a e)

  pub layout_same : (f : Frame) (k : Kind) (i j : ℕ) (xs : Parts) → SaidSame p (said f.around) m → TokenHas p k i j → layout (framed f m) k i xs ≡ layout f k i xs
  layout_same f (kind.Specification declaring.Type) i j xs a e = ap (λ x. Some x ∷ xs) (type_name_same f i a e)
  layout_same f kind.NewNames i j xs a e = refl
  layout_same f k i j xs a e = refl

  -- ---- what changes what is known

  right_same : (f : Frame) (n : Option ℕ) (t : Option TypeTree) → with_own_right n t (framed f m) ≡ framed (with_own_right n t f) m
  right_same f None t = refl
  right_same f (Some n) t = refl

  type_same : (f : Frame) (n : Option ℕ) → with_type n (framed f m) ≡ framed (with_type n f) m
  type_same f None = refl
  type_same f (Some n) = refl

  pub beginning_same : (f : Frame) (k : Kind) (i j : ℕ) → SaidSame p (said f.around) m → TokenHas p k i j → beginning k i (framed f m) ≡ framed (beginning k i f) m
  beginning_same f (kind.Specification declaring.Type) i j a e =
      ap (λ o. with_type o (framed f m)) (local_at (said f.around) m (f.around.objects i) (m.objects i) (a.objects i e)) ∙ type_same f (local_named (f.around.objects i))
  beginning_same f k i j a e = refl

  parameter_same : (f : Frame) (n : Option ℕ) (t : Option TypeTree) → with_parameter n t (framed f m) ≡ framed (with_parameter n t f) m
  parameter_same f None t = refl
  parameter_same f (Some n) None = refl
  parameter_same f (Some n) (Some t) = refl

  parameters_same : (f : Frame) (ns : List (Option ℕ)) (ts : List (Option TypeTree)) → with_parameters ns ts (framed f m) ≡ framed (with_parameters ns ts f) m
  parameters_same f [] ts = refl
  parameters_same f (n ∷ ns) [] = refl
  parameters_same f (n ∷ ns) (t ∷ ts) = ap (λ z. with_parameters ns ts z) (parameter_same f n t) ∙ parameters_same (with_parameter n t f) ns ts

  results_same : (f : Frame) (t : Option TypeTree) → signature_results (framed f m) t ≡ signature_results f t
  results_same f None = refl
  results_same f (Some t) = refl

  signature_same : (f : Frame) (g : Option Part) → behind_signature g (framed f m) ≡ framed (behind_signature g f) m
  signature_same f g =
      ap (λ ts. with_parameters (entry_names (first_parts g)) (entry_types (first_parts g)) (record (framed f m) { results = ts })) (results_same f (part_type g))
      ∙ parameters_same (record f { results = signature_results f (part_type g) }) (entry_names (first_parts g)) (entry_types (first_parts g))

  function_same : (f : Frame) (xs : Parts) → in_function xs (framed f m) ≡ framed (in_function xs f) m
  function_same f (g ∷ []) = signature_same f g
  function_same f xs = refl

  switch_same : (f : Frame) (xs : Parts) → in_switch xs (framed f m) ≡ framed (in_switch xs f) m
  switch_same f (x ∷ []) = refl
  switch_same f xs = refl

  constants_same : (f : Frame) (xs : Parts) → in_constants xs (framed f m) ≡ framed (in_constants xs f) m
  constants_same f [] = refl
  constants_same f (x ∷ xs) = refl

  pub entering_same : (f : Frame) (k : Kind) (xs : Parts) → entering k xs (framed f m) ≡ framed (entering k xs f) m
  entering_same f (kind.Declaration declaring.Constant) xs = constants_same f xs
  entering_same f (kind.Group declaring.Constant) xs = constants_same f xs
  entering_same f kind.Switch xs = switch_same f xs
  entering_same f kind.FunctionDeclaration xs = function_same f xs
  entering_same f k xs = refl

  declares_sort_same : (f : Frame) (n : Option ℕ) (x : Stands) → declares_sort n x (framed f m) ≡ framed (declares_sort n x f) m
  declares_sort_same f None x = refl
  declares_sort_same f (Some n) sort.Nothing = refl
  declares_sort_same f (Some n) x = refl

  declares_name_same : (f : Frame) (x : Option Part) → declares_name x (framed f m) ≡ framed (declares_name x f) m
  declares_name_same f None = refl
  declares_name_same f (Some x) = declares_sort_same f (is_new (form_of x)) (sort_of x)

  declares_all_same : (f : Frame) (xs : Parts) → declares_all xs (framed f m) ≡ framed (declares_all xs f) m
  declares_all_same f [] = refl
  declares_all_same f (x ∷ xs) = ap (λ z. declares_all xs z) (declares_name_same f x) ∙ declares_all_same (declares_name x f) xs

  left_same : (f : Frame) (k : Kind) (i j : ℕ) (ps : Trees) (x : Part) → SaidSame p (said f.around) m → TokenHas p k i j → leaving k i ps x (framed f m) ≡ framed (leaving k i ps x f) m
  left_same f (kind.Specification declaring.Type) i j ps x a e =
      ap (λ n. with_own_right n (right_side (list_of (parts_of x))) (framed f m)) (number_same f i a e) ∙ right_same f (type_number f i) (right_side (list_of (parts_of x)))
  left_same f (kind.Specification declaring.Variable) i j ps x a e = declares_all_same f (list_of (parts_of x))
  left_same f (kind.Specification declaring.Constant) i j ps x a e = declares_all_same (record f { source = part_source ps f.source }) (list_of (parts_of x))
  left_same f kind.Define i j ps x a e = declares_all_same f (list_of (parts_of x))
  left_same f kind.DefiningRange i j ps x a e = declares_all_same f (list_of (parts_of x))
  left_same f k i j ps x a e = refl

  pub leaving_same : (before f : Frame) (k : Kind) (i j : ℕ) (ps : Trees) (x : Part) → SaidSame p (said f.around) m → TokenHas p k i j
      → leaving k i ps x (back (framed before m) (framed f m)) ≡ framed (leaving k i ps x (back before f)) m
  leaving_same before f k i j ps x a e = left_same (back before f) k i j ps x a e

  -- ---- rules

  abbrev late : Frame → Option ℕ → Part → List TypeFault
  late f n x = first_fault (late_limits (rights_of f) (rights_of (with_own_right n (part_type (Some x)) f)) x)

  late_same : (f : Frame) (n : Option ℕ) (x : Part) → late (framed f m) n x ≡ late f n x
  late_same f None x = refl
  late_same f (Some n) x = refl

  type_failing_same : (f : Frame) (i : ℕ) (x : Part) → SaidSame p (said f.around) m → p i ≡ true → type_failing (framed f m) i x ≡ type_failing f i x
  type_failing_same f i x a e =
      ap (λ n. late (framed f m) n x) (number_same f i a e) ∙ late_same f (type_number f i) x

  types_failing_same : (f : Frame) (i : ℕ) (ys : Parts) → SaidSame p (said f.around) m → p i ≡ true → on_two [] (λ n x. type_failing (framed f m) i x) ys ≡ on_two [] (λ n x. type_failing f i x) ys
  types_failing_same f i (Some x ∷ Some y ∷ []) a e = type_failing_same f i y a e
  types_failing_same f i ys a e = refl

  failing_same : (s : Frame) (k : Kind) (f : Form) (i j : ℕ) (ys : Parts) → SaidSame p (said s.around) m → TokenHas p k i j → failing (framed s m) k f i j ys ≡ failing s k f i j ys
  failing_same s (kind.Specification declaring.Type) f i j ys a e = types_failing_same s i ys a e
  failing_same s kind.Define f i j ys a e = refl
  failing_same s k f i j ys a e = refl

  pub faults_same : (s : Frame) (k : Kind) (f : Form) (i j : ℕ) (ys : Parts) → SaidSame p (said s.around) m → TokenHas p k i j → own_faults (framed s m) k f i j ys ≡ own_faults s k f i j ys
  faults_same s k f i j ys a e = ap (λ fs. if judges k ys then fs else []) (failing_same s k f i j ys a e)

  taking_same : (s : Frame) (k : Kind) (f : Form) (ys : Parts) → taking (framed s m) k f ys ≡ taking s k f ys
  taking_same s kind.Define f ys = refl
  taking_same s k f ys = refl

  pub built_same : (s : Frame) (k : Kind) (f : Form) (i j : ℕ) (ys : Parts) (own : List TypeFault) → built_by (framed s m) k f i j ys own ≡ built_by s k f i j ys own
  built_same s k f i j ys [] = ap (λ ts. made f i j sort.Nothing ys (all_given ts ys)) (taking_same s k f ys)
  built_same s k f i j ys (x ∷ xs) = refl

  -- ---- what fits stays so

  right_fits : (f : Frame) (n : Option ℕ) (t : Option TypeTree) → Fits f → Fits (with_own_right n t f)
  right_fits f None t a = a
  right_fits f (Some n) t a = record { said_so = a.said_so; repeats = a.repeats }

  type_fits : (f : Frame) (n : Option ℕ) → Fits f → Fits (with_type n f)
  type_fits f None a = a
  type_fits f (Some n) a = record { said_so = a.said_so; repeats = a.repeats }

  pub beginning_fits : (f : Frame) (k : Kind) (i : ℕ) → Fits f → Fits (beginning k i f)
  beginning_fits f (kind.Specification declaring.Type) i a = type_fits f (local_named (f.around.objects i)) a
  beginning_fits f k i a = a

  parameter_fits : (f : Frame) (n : Option ℕ) (t : Option TypeTree) → Fits f → Fits (with_parameter n t f)
  parameter_fits f None t a = a
  parameter_fits f (Some n) None a = a
  parameter_fits f (Some n) (Some t) a = record { said_so = a.said_so; repeats = a.repeats }

  parameters_fit : (f : Frame) (ns : List (Option ℕ)) (ts : List (Option TypeTree)) → Fits f → Fits (with_parameters ns ts f)
  parameters_fit f [] ts a = a
  parameters_fit f (n ∷ ns) [] a = a
  parameters_fit f (n ∷ ns) (t ∷ ts) a = parameters_fit (with_parameter n t f) ns ts (parameter_fits f n t a)

  function_fits : (f : Frame) (xs : Parts) → Fits f → Fits (in_function xs f)
  function_fits f (g ∷ []) a = parameters_fit (record f { results = signature_results f (part_type g) }) (entry_names (first_parts g)) (entry_types (first_parts g)) (record { said_so = a.said_so; repeats = a.repeats })
  function_fits f xs a = a

  switch_fits : (f : Frame) (xs : Parts) → Fits f → Fits (in_switch xs f)
  switch_fits f (x ∷ []) a = record { said_so = a.said_so; repeats = a.repeats }
  switch_fits f xs a = a

  constants_fit : (f : Frame) (xs : Parts) → Fits f → Fits (in_constants xs f)
  constants_fit f [] a = record { said_so = a.said_so; repeats = tt }
  constants_fit f (x ∷ xs) a = record { said_so = a.said_so; repeats = a.repeats }

  pub entering_fits : (f : Frame) (k : Kind) (xs : Parts) → Fits f → Fits (entering k xs f)
  entering_fits f (kind.Declaration declaring.Constant) xs a = constants_fit f xs a
  entering_fits f (kind.Group declaring.Constant) xs a = constants_fit f xs a
  entering_fits f kind.Switch xs a = switch_fits f xs a
  entering_fits f kind.FunctionDeclaration xs a = function_fits f xs a
  entering_fits f k xs a = a

  declares_sort_fits : (f : Frame) (n : Option ℕ) (x : Stands) → Fits f → Fits (declares_sort n x f)
  declares_sort_fits f None x a = a
  declares_sort_fits f (Some n) sort.Nothing a = a
  declares_sort_fits f (Some n) x a = record { said_so = a.said_so; repeats = a.repeats }

  declares_name_fits : (f : Frame) (x : Option Part) → Fits f → Fits (declares_name x f)
  declares_name_fits f None a = a
  declares_name_fits f (Some x) a = declares_sort_fits f (is_new (form_of x)) (sort_of x) a

  declares_all_fit : (f : Frame) (xs : Parts) → Fits f → Fits (declares_all xs f)
  declares_all_fit f [] a = a
  declares_all_fit f (x ∷ xs) a = declares_all_fit (declares_name x f) xs (declares_name_fits f x a)

  source_has : (ps : Trees) (old : Option Tree) → TokensIn p ps → MaybeTokens p old → MaybeTokens p (part_source ps old)
  source_has (more ns (more r none)) old w a = w.1.0
  source_has ps old w a = a

  left_fits : (f : Frame) (k : Kind) (i : ℕ) (ps : Trees) (x : Part) → Fits f → TokensIn p ps → Fits (leaving k i ps x f)
  left_fits f (kind.Specification declaring.Type) i ps x a w = right_fits f (type_number f i) (right_side (list_of (parts_of x))) a
  left_fits f (kind.Specification declaring.Variable) i ps x a w = declares_all_fit f (list_of (parts_of x)) a
  left_fits f (kind.Specification declaring.Constant) i ps x a w = declares_all_fit (record f { source = part_source ps f.source }) (list_of (parts_of x)) (record { said_so = a.said_so; repeats = source_has ps f.source w a.repeats })
  left_fits f kind.Define i ps x a w = declares_all_fit f (list_of (parts_of x)) a
  left_fits f kind.DefiningRange i ps x a w = declares_all_fit f (list_of (parts_of x)) a
  left_fits f k i ps x a w = a

  pub leaving_fits : (before f : Frame) (k : Kind) (i : ℕ) (ps : Trees) (x : Part) → Fits f → TokensIn p ps → Fits (leaving k i ps x (back before f))
  leaving_fits before f k i ps x a w = left_fits (back before f) k i ps x (record { said_so = a.said_so; repeats = a.repeats }) w
