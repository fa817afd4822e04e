-- The plan of a node is the same under other numbers of declared types.
use Rattle.std.proofs.Common.{◌≡◌, ◌∙◌, refl, ap, ℕ, zero, suc, Bool, true, false, List, ◌∷◌, Option, Some, None}
use Rattle.std.specs.Prelude.{if◌then◌else◌}
use Rattle.std.specs.Option.{option_map, unwrap_or}
use Rattle.go_ints.specs.declared.kinds.Kind.{Kind}
use Rattle.go_grammar.specs.declared.kind.Arithmetic.{Arithmetic}
use Rattle.go_grammar.specs.declared.kind.Arithmetic.TheVariants as arithmetic
use Rattle.go_grammar.specs.declared.kind.Operator.{Operator}
use Rattle.go_grammar.specs.declared.kind.Operator.TheVariants as operator
use Rattle.go_grammar.specs.declared.kind.Sign.{Sign}
use Rattle.go_grammar.specs.declared.kind.Sign.TheVariants as sign
use Rattle.go_grammar.specs.declared.kind.Step.{Step}
use Rattle.go_grammar.specs.declared.kind.Step.TheVariants as step
use Rattle.go_tree.specs.declared.object.Predeclared.{Predeclared}
use Rattle.go_tree.specs.declared.object.Predeclared.TheVariants as predeclared
use Rattle.go_types.specs.Trees.{TypeTree, boolean, text, integer, array, slice, structure, function, declared, TypeRow}
use Rattle.go_types.specs.Relations.{Rights}
use Rattle.go_types_relations.specs.Renaming.{renamed, renamed_row, AreRenamed}
use Rattle.go_types_relations.specs.Tests.{underlying_of}
use Rattle.go_types_relations.specs.Zeros.{Zero, nil_function, zero_of}
use Rattle.go_typed.specs.declared.form.Form.{Form}
use Rattle.go_typed.specs.declared.form.Form.TheVariants as form
use Rattle.go_typed.specs.declared.form.Referent.{Referent}
use Rattle.go_typed.specs.declared.form.Referent.TheVariants as referent
use Rattle.go_typed.specs.Trees.{Sort, Nothing, Unknown, Blank, Nil, Builtin, Println, Package, IsType, Constant, Open, OpenConstant, Results}
use Rattle.go_typed.specs.Trees.{Label, Typed, typed, Typeds, none, more, skip, parts_of, sort_mapped, label_mapped, mapped, all_mapped}
use Rattle.go_typed.specs.Trees as trees
use Rattle.go_typed.specs.Forms.{is_default}
use Rattle.go_meaning.specs.Values.{zero_value}
use Rattle.go_meaning.specs.Operations as does
use Rattle.go_meaning.specs.Plans.{Plan, Once, Loop}
use Rattle.go_meaning.specs.Plans as plans
use Rattle.go_meaning.specs.Planning.{part_at, is_there, sort_type, type_there, sort_there, calls_there, shape_of, shape_at, zero_in, kind_of, element_of, operation, step_operation, binary_plan, unary_operation, conversion, index_plan}
use Rattle.go_meaning.specs.Planning.{place_of, places_from, places_of, composite_plan, element_zero, builtin_plan, call_plan, object_plan, specified_plan, default_at, at_most_one, items_of, form_plan, sort_plan, plan}

-- what is told of renamed types
pub record AreTold (name : ℕ → ℕ) (old new : Rights) : Type 0 where
  pub underlying : (t : TypeTree) → underlying_of new (renamed name t) ≡ option_map (renamed name) (underlying_of old t)
  pub zero : (t : TypeTree) → zero_of new (renamed name t) ≡ zero_of old t

-- ---- by the form of a type

module _ (name : ℕ → ℕ) where
  abbrev other : TypeTree → TypeTree
  other = renamed name

  or-other : (o : Option TypeTree) → unwrap_or (option_map other o) boolean ≡ other (unwrap_or o boolean)
  or-other None = refl
  or-other (Some t) = refl

  kind-other : (t : TypeTree) → kind_of (other t) ≡ kind_of t
  kind-other boolean = refl
  kind-other text = refl
  kind-other (integer k) = refl
  kind-other (array n t) = refl
  kind-other (slice t) = refl
  kind-other (structure ns ts) = refl
  kind-other (function ps rs) = refl
  kind-other (declared n) = refl

  element-other : (t : TypeTree) → element_of (other t) ≡ other (element_of t)
  element-other boolean = refl
  element-other text = refl
  element-other (integer k) = refl
  element-other (array n t) = refl
  element-other (slice t) = refl
  element-other (structure ns ts) = refl
  element-other (function ps rs) = refl
  element-other (declared n) = refl

  operation-other : (o : Arithmetic) (t : TypeTree) → operation o (other t) ≡ operation o t
  operation-other o boolean = refl
  operation-other o text = refl
  operation-other o (integer k) = refl
  operation-other o (array n t) = refl
  operation-other o (slice t) = refl
  operation-other o (structure ns ts) = refl
  operation-other o (function ps rs) = refl
  operation-other o (declared n) = refl

  step-other : (s : Step) (t : TypeTree) → step_operation s (other t) ≡ step_operation s t
  step-other step.Increment t = operation-other arithmetic.Add t
  step-other step.Decrement t = operation-other arithmetic.Subtract t

  binary-other : (o : Operator) (t : TypeTree) → binary_plan o (other t) ≡ binary_plan o t
  binary-other operator.Either t = refl
  binary-other operator.Both t = refl
  binary-other (operator.Compare c) t = refl
  binary-other (operator.Compute o) t = ap plans.Perform (operation-other o t)

  unary-other : (s : Sign) (t : TypeTree) → unary_operation s (other t) ≡ unary_operation s t
  unary-other sign.Plus t = refl
  unary-other sign.Minus t = ap does.Negate (kind-other t)
  unary-other sign.Not t = refl
  unary-other sign.Complement t = ap does.Complement (kind-other t)

  to-integer : (u : TypeTree) (m : Kind) → conversion (integer m) (other u) ≡ conversion (integer m) u
  to-integer boolean m = refl
  to-integer text m = refl
  to-integer (integer k) m = refl
  to-integer (array n t) m = refl
  to-integer (slice t) m = refl
  to-integer (structure ns ts) m = refl
  to-integer (function ps rs) m = refl
  to-integer (declared n) m = refl

  to-text : (u : TypeTree) → conversion text (other u) ≡ conversion text u
  to-text boolean = refl
  to-text text = refl
  to-text (integer k) = refl
  to-text (array n t) = refl
  to-text (slice t) = refl
  to-text (structure ns ts) = refl
  to-text (function ps rs) = refl
  to-text (declared n) = refl

  to-slice : (t u : TypeTree) → conversion (slice (other t)) (other u) ≡ conversion (slice t) u
  to-slice e boolean = refl
  to-slice e text = refl
  to-slice e (integer k) = refl
  to-slice e (array n t) = refl
  to-slice e (slice t) = refl
  to-slice e (structure ns ts) = refl
  to-slice e (function ps rs) = refl
  to-slice e (declared n) = refl

  conversion-other : (t u : TypeTree) → conversion (other t) (other u) ≡ conversion t u
  conversion-other (integer k) u = to-integer u k
  conversion-other text u = to-text u
  conversion-other (slice t) u = to-slice t u
  conversion-other boolean u = refl
  conversion-other (array n t) u = refl
  conversion-other (structure ns ts) u = refl
  conversion-other (function ps rs) u = refl
  conversion-other (declared n) u = refl

  index-other : (t : TypeTree) → index_plan (other t) ≡ index_plan t
  index-other boolean = refl
  index-other text = refl
  index-other (integer k) = refl
  index-other (array n t) = refl
  index-other (slice t) = refl
  index-other (structure ns ts) = refl
  index-other (function ps rs) = refl
  index-other (declared n) = refl

  array-items : (single calls : Bool) (n : ℕ) (t : TypeTree) → items_of single calls (array n (other t)) ≡ items_of single calls (array n t)
  array-items true false n t = refl
  array-items true true n t = refl
  array-items false calls n t = refl

  slice-items : (single calls : Bool) (t : TypeTree) → items_of single calls (slice (other t)) ≡ items_of single calls (slice t)
  slice-items true false t = refl
  slice-items true true t = refl
  slice-items false calls t = refl

  structure-items : (single calls : Bool) (ns : List (List ℕ)) (ts : TypeRow) → items_of single calls (structure ns (renamed_row name ts)) ≡ items_of single calls (structure ns ts)
  structure-items true false ns ts = refl
  structure-items true true ns ts = refl
  structure-items false calls ns ts = refl

  function-items : (single calls : Bool) (ps rs : TypeRow) → items_of single calls (function (renamed_row name ps) (renamed_row name rs)) ≡ items_of single calls (function ps rs)
  function-items true false ps rs = refl
  function-items true true ps rs = refl
  function-items false calls ps rs = refl

  declared-items : (single calls : Bool) (n : ℕ) → items_of single calls (declared (name n)) ≡ items_of single calls (declared n)
  declared-items true false n = refl
  declared-items true true n = refl
  declared-items false calls n = refl

  items-other : (single calls : Bool) (t : TypeTree) → items_of single calls (other t) ≡ items_of single calls t
  items-other single calls boolean = refl
  items-other single calls text = refl
  items-other single calls (integer k) = refl
  items-other single calls (array n t) = array-items single calls n t
  items-other single calls (slice t) = slice-items single calls t
  items-other single calls (structure ns ts) = structure-items single calls ns ts
  items-other single calls (function ps rs) = function-items single calls ps rs
  items-other single calls (declared n) = declared-items single calls n

  -- ---- parts

  sort-other : (s : Sort TypeTree) → sort_type (sort_mapped other s) ≡ other (sort_type s)
  sort-other Nothing = refl
  sort-other Unknown = refl
  sort-other Blank = refl
  sort-other Nil = refl
  sort-other (Builtin b) = refl
  sort-other Println = refl
  sort-other Package = refl
  sort-other (IsType t) = refl
  sort-other (trees.Value t) = refl
  sort-other (Constant t c) = refl
  sort-other (Open u) = refl
  sort-other (OpenConstant c) = refl
  sort-other (Results t) = refl

  part-other : (ps : Typeds TypeTree) (n : ℕ) → part_at (all_mapped other ps) n ≡ option_map (mapped other) (part_at ps n)
  part-other none n = refl
  part-other (more p ps) zero = refl
  part-other (skip ps) zero = refl
  part-other (more p ps) (suc n) = part-other ps n
  part-other (skip ps) (suc n) = part-other ps n

  there : (o : Option (Typed TypeTree)) → is_there (option_map (mapped other) o) ≡ is_there o
  there None = refl
  there (Some p) = refl

  pub there-other : (ps : Typeds TypeTree) (n : ℕ) → is_there (part_at (all_mapped other ps) n) ≡ is_there (part_at ps n)
  there-other ps n = ap is_there (part-other ps n) ∙ there (part_at ps n)

  calling : (o : Option (Typed TypeTree)) → calls_there (option_map (mapped other) o) ≡ calls_there o
  calling None = refl
  calling (Some (typed f i j l ps)) = refl

  calls-other : (ps : Typeds TypeTree) (n : ℕ) → calls_there (part_at (all_mapped other ps) n) ≡ calls_there (part_at ps n)
  calls-other ps n = ap calls_there (part-other ps n) ∙ calling (part_at ps n)

  typing : (o : Option (Typed TypeTree)) → type_there (option_map (mapped other) o) ≡ other (type_there o)
  typing None = refl
  typing (Some (typed f i j l ps)) = sort-other l.sort

  type-other : (ps : Typeds TypeTree) (n : ℕ) → type_there (part_at (all_mapped other ps) n) ≡ other (type_there (part_at ps n))
  type-other ps n = ap type_there (part-other ps n) ∙ typing (part_at ps n)

  sorting : (o : Option (Typed TypeTree)) → sort_there (option_map (mapped other) o) ≡ sort_mapped other (sort_there o)
  sorting None = refl
  sorting (Some (typed f i j l ps)) = refl

  places-other : (k : ℕ) (ps : Typeds TypeTree) → places_from k (all_mapped other ps) ≡ places_from k ps
  places-other k none = refl
  places-other k (more (typed f i j l qs) ps) = ap (λ ns. place_of f k ∷ ns) (places-other (suc k) ps)
  places-other k (skip ps) = places-other (suc k) ps

  all-places : (ps : Typeds TypeTree) → places_of (all_mapped other ps) ≡ places_of ps
  all-places none = refl
  all-places (more p ps) = places-other 0 ps
  all-places (skip ps) = places-other 0 ps

  default-other : (ps : Typeds TypeTree) → default_at (all_mapped other ps) ≡ default_at ps
  default-other none = refl
  default-other (more (typed f i j l qs) ps) = ap (λ n. if is_default f then 0 else suc n) (default-other ps)
  default-other (skip ps) = ap suc (default-other ps)

-- ---- the table

module _ (name : ℕ → ℕ) (old new : Rights) (told : AreTold name old new) where
  shape-other : (t : TypeTree) → shape_of new (renamed name t) ≡ renamed name (shape_of old t)
  shape-other t = ap (λ o. unwrap_or o boolean) (told.underlying t) ∙ or-other name (underlying_of old t)

  shape-there : (ps : Typeds TypeTree) (n : ℕ) → shape_at new (all_mapped (renamed name) ps) n ≡ renamed name (shape_at old ps n)
  shape-there ps n = ap (shape_of new) (type-other name ps n) ∙ shape-other (type_there (part_at ps n))

  zero-other : (t : TypeTree) → zero_in new (renamed name t) ≡ zero_in old t
  zero-other t = ap (λ o. unwrap_or o nil_function) (told.zero t)

  built : (t : TypeTree) (ps : Typeds TypeTree) → plans.Perform (does.Build (zero_in new (renamed name t)) (places_of (all_mapped (renamed name) ps))) ≡ plans.Perform (does.Build (zero_in old t) (places_of ps))
  built t ps =
      ap (λ z. plans.Perform (does.Build z (places_of (all_mapped (renamed name) ps)))) (zero-other t)
      ∙ ap (λ ns. plans.Perform (does.Build (zero_in old t) ns)) (all-places name ps)

  composite-other : (t u : TypeTree) (ps : Typeds TypeTree) → composite_plan new (renamed name t) (renamed name u) (all_mapped (renamed name) ps) ≡ composite_plan old t u ps
  composite-other t boolean ps = built t ps
  composite-other t text ps = built t ps
  composite-other t (integer k) ps = built t ps
  composite-other t (array n e) ps = built t ps
  composite-other t (slice e) ps = refl
  composite-other t (structure ns ts) ps = built t ps
  composite-other t (function qs rs) ps = built t ps
  composite-other t (declared n) ps = built t ps

  composed : (t : TypeTree) (ps : Typeds TypeTree) → composite_plan new (renamed name t) (shape_of new (renamed name t)) (all_mapped (renamed name) ps) ≡ composite_plan old t (shape_of old t) ps
  composed t ps =
      ap (λ u. composite_plan new (renamed name t) u (all_mapped (renamed name) ps)) (shape-other t)
      ∙ composite-other t (shape_of old t) ps

  element-zero : (ps : Typeds TypeTree) → element_zero new (all_mapped (renamed name) ps) ≡ element_zero old ps
  element-zero ps =
      ap (λ u. zero_in new (element_of u)) (shape-there ps 1)
      ∙ ap (zero_in new) (element-other name (shape_at old ps 1))
      ∙ zero-other (element_of (shape_at old ps 1))

  builtin-other : (b : Predeclared) (ps : Typeds TypeTree) → builtin_plan new b (all_mapped (renamed name) ps) ≡ builtin_plan old b ps
  builtin-other predeclared.Make ps = ap (λ z. plans.Perform (does.MakeSlice z)) (element-zero ps)
  builtin-other predeclared.Append ps = ap (λ z. plans.Perform (does.Append z)) (element-zero ps)
  builtin-other b ps = refl

  call-other : (s : Sort TypeTree) (ps : Typeds TypeTree) → call_plan new (sort_mapped (renamed name) s) (all_mapped (renamed name) ps) ≡ call_plan old s ps
  call-other Nothing ps = refl
  call-other Unknown ps = refl
  call-other Blank ps = refl
  call-other Nil ps = refl
  call-other (Builtin b) ps = builtin-other b ps
  call-other Println ps = refl
  call-other Package ps = refl
  call-other (IsType t) ps = refl
  call-other (trees.Value t) ps = refl
  call-other (Constant t c) ps = refl
  call-other (Open u) ps = refl
  call-other (OpenConstant c) ps = refl
  call-other (Results t) ps = refl

  called : (ps : Typeds TypeTree) → call_plan new (sort_there (part_at (all_mapped (renamed name) ps) 0)) (all_mapped (renamed name) ps) ≡ call_plan old (sort_there (part_at ps 0)) ps
  called ps =
      ap (λ s. call_plan new s (all_mapped (renamed name) ps)) (ap sort_there (part-other name ps 0) ∙ sorting name (part_at ps 0))
      ∙ call-other (sort_there (part_at ps 0)) ps

  object-other : (r : Referent) (t : TypeTree) → object_plan new r (renamed name t) ≡ object_plan old r t
  object-other (referent.Predeclared predeclared.Nil) t = ap (λ z. plans.Give (zero_value z)) (zero-other t)
  object-other r t = refl

  specified-other : (n : ℕ) (ps : Typeds TypeTree) → specified_plan new n (all_mapped (renamed name) ps) ≡ specified_plan old n ps
  specified-other n ps =
      ap (λ b. if b then plans.AssignTo n else plans.ZeroTo n (zero_in new (type_there (part_at (all_mapped (renamed name) ps) n)))) (there-other name ps (suc n))
      ∙ ap (λ z. if is_there (part_at ps (suc n)) then plans.AssignTo n else plans.ZeroTo n z) (ap (zero_in new) (type-other name ps n) ∙ zero-other (type_there (part_at ps n)))

  selected : (ps : Typeds TypeTree) → plans.Select (is_there (part_at (all_mapped (renamed name) ps) 1)) (default_at (all_mapped (renamed name) ps)) ≡ plans.Select (is_there (part_at ps 1)) (default_at ps)
  selected ps =
      ap (λ b. plans.Select b (default_at (all_mapped (renamed name) ps))) (there-other name ps 1)
      ∙ ap (plans.Select (is_there (part_at ps 1))) (default-other name ps)

  iterated : (n : ℕ) (ps : Typeds TypeTree) →
      plans.Iterate n (items_of (at_most_one n) (calls_there (part_at (all_mapped (renamed name) ps) n)) (shape_at new (all_mapped (renamed name) ps) n))
      ≡ plans.Iterate n (items_of (at_most_one n) (calls_there (part_at ps n)) (shape_at old ps n))
  iterated n ps =
      ap (λ b. plans.Iterate n (items_of (at_most_one n) b (shape_at new (all_mapped (renamed name) ps) n))) (calls-other name ps n)
      ∙ ap (λ u. plans.Iterate n (items_of (at_most_one n) (calls_there (part_at ps n)) u)) (shape-there ps n)
      ∙ ap (plans.Iterate n) (items-other name (at_most_one n) (calls_there (part_at ps n)) (shape_at old ps n))

  cut : (ps : Typeds TypeTree) →
      plans.Perform (does.Cut (is_there (part_at (all_mapped (renamed name) ps) 1)) (is_there (part_at (all_mapped (renamed name) ps) 2))) ≡ plans.Perform (does.Cut (is_there (part_at ps 1)) (is_there (part_at ps 2)))
  cut ps =
      ap (λ b. plans.Perform (does.Cut b (is_there (part_at (all_mapped (renamed name) ps) 2)))) (there-other name ps 1)
      ∙ ap (λ b. plans.Perform (does.Cut (is_there (part_at ps 1)) b)) (there-other name ps 2)

  converted : (t : TypeTree) (ps : Typeds TypeTree) → conversion (shape_of new (renamed name t)) (shape_at new (all_mapped (renamed name) ps) 1) ≡ conversion (shape_of old t) (shape_at old ps 1)
  converted t ps =
      ap (λ u. conversion u (shape_at new (all_mapped (renamed name) ps) 1)) (shape-other t)
      ∙ ap (conversion (renamed name (shape_of old t))) (shape-there ps 1)
      ∙ conversion-other name (shape_of old t) (shape_at old ps 1)

  form-other : (f : Form) (t : TypeTree) (ps : Typeds TypeTree) → form_plan new f (renamed name t) (all_mapped (renamed name) ps) ≡ form_plan old f t ps
  form-other (form.Step s) t ps = ap (λ u. plans.StepBy (step_operation s u)) (shape-there ps 0) ∙ ap plans.StepBy (step-other name s (shape_at old ps 0))
  form-other (form.Operate o) t ps = ap (λ u. plans.OperateBy (operation o u)) (shape-there ps 0) ∙ ap plans.OperateBy (operation-other name o (shape_at old ps 0))
  form-other (form.Specified n) t ps = specified-other n ps
  form-other form.Switch t ps = selected ps
  form-other (form.Range defines n) t ps = iterated n ps
  form-other (form.Object r) t ps = object-other r t
  form-other form.Index t ps = ap index_plan (shape-there ps 0) ∙ index-other name (shape_at old ps 0)
  form-other form.Slice t ps = cut ps
  form-other form.Call t ps = called ps
  form-other form.Conversion t ps = ap plans.Perform (converted t ps)
  form-other form.Composite t ps = composed t ps
  form-other (form.Unary s) t ps = ap (λ u. plans.Perform (unary_operation s u)) (shape-there ps 0) ∙ ap plans.Perform (unary-other name s (shape_at old ps 0))
  form-other (form.Binary o) t ps = ap (binary_plan o) (shape-there ps 0) ∙ binary-other name o (shape_at old ps 0)
  form-other f t ps = refl

  sorted : (s : Sort TypeTree) (p q : Plan) → p ≡ q → sort_plan (sort_mapped (renamed name) s) p ≡ sort_plan s q
  sorted Nothing p q e = e
  sorted Unknown p q e = e
  sorted Blank p q e = e
  sorted Nil p q e = e
  sorted (Builtin b) p q e = e
  sorted Println p q e = e
  sorted Package p q e = e
  sorted (IsType t) p q e = e
  sorted (trees.Value t) p q e = e
  sorted (Constant t c) p q e = refl
  sorted (Open u) p q e = e
  sorted (OpenConstant c) p q e = refl
  sorted (Results t) p q e = e

  once : (f : Form) (l : Label TypeTree) (ps : Typeds TypeTree) →
      sort_plan (sort_mapped (renamed name) l.sort) (form_plan new f (sort_type (sort_mapped (renamed name) l.sort)) (all_mapped (renamed name) ps)) ≡ sort_plan l.sort (form_plan old f (sort_type l.sort) ps)
  once f l ps = sorted l.sort _ _ (ap (λ t. form_plan new f t (all_mapped (renamed name) ps)) (sort-other name l.sort) ∙ form-other f (sort_type l.sort) ps)

  pub plan-other : (f : Form) (l : Label TypeTree) (ps : Typeds TypeTree) → plan new f (label_mapped (renamed name) l) (all_mapped (renamed name) ps) ≡ plan old f l ps
  plan-other form.For l ps = ap Loop (there-other name ps 1)
  plan-other f l ps = ap Once (once f l ps)
