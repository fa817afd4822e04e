-- The plan of a node is the same under other numbers of declared types.
use Rattle.std.proofs.Common.{◌≡◌, ◌∙◌, refl, ap, ℕ, zero, suc, Bool, true, false, List, ◌∷◌, Option, Some, None}
use Rattle.std.specs.Prelude.{if◌then◌else◌}
use Rattle.std.specs.Option.{option_map, unwrap_or}
use Rattle.go_ints.specs.declared.kinds.Kind.{Kind}
use Rattle.go_grammar.specs.declared.kind.Arithmetic.{Arithmetic}
use Rattle.go_grammar.specs.declared.kind.Arithmetic.TheVariants as arithmetic
use Rattle.go_grammar.specs.declared.kind.Operator.{Operator}
use Rattle.go_grammar.specs.declared.kind.Operator.TheVariants as operator
use Rattle.go_grammar.specs.declared.kind.Sign.{Sign}
use Rattle.go_grammar.specs.declared.kind.Sign.TheVariants as sign
use Rattle.go_grammar.specs.declared.kind.Step.{Step}
use Rattle.go_grammar.specs.declared.kind.Step.TheVariants as step
use Rattle.go_tree.specs.declared.object.Predeclared.{Predeclared}
use Rattle.go_tree.specs.declared.object.Predeclared.TheVariants as predeclared
use Rattle.go_types.specs.Trees.{TypeTree, boolean, text, integer, array, slice, structure, function, declared, TypeRow}
use Rattle.go_types.specs.Relations.{Rights}
use Rattle.go_types_relations.specs.Renaming.{renamed, renamed_row, AreRenamed}
use Rattle.go_types_relations.specs.Tests.{underlying_of}
use Rattle.go_types_relations.specs.Zeros.{nil_function, zero_of}
use Rattle.go_typed.specs.declared.form.Form.{Form}
use Rattle.go_typed.specs.declared.form.Form.TheVariants as form
use Rattle.go_typed.specs.declared.form.Referent.{Referent}
use Rattle.go_typed.specs.declared.form.Referent.TheVariants as referent
use Rattle.go_typed.specs.Trees.{Sort, Nothing, Unknown, Blank, Nil, Builtin, Println, Package, IsType, Constant, Open, OpenConstant, Results}
use Rattle.go_typed.specs.Trees.{Label, Typed, typed, Typeds, none, more, skip, parts_of, sort_mapped, label_mapped, mapped, all_mapped}
use Rattle.go_typed.specs.Trees as trees
use Rattle.go_typed.specs.Forms.{is_default}
use Rattle.go_meaning.specs.Values.{zero_value}
use Rattle.extract_runs.specs.Laws.{OtherTypesRenumber}
use Rattle.go_meaning.specs.Operations as does
use Rattle.go_meaning.specs.Plans.{Plan, Once, Loop}
use Rattle.go_meaning.specs.Plans as plans
use Rattle.go_meaning.specs.Planning.{part_at, is_there, sort_type, type_there, sort_there, calls_there, shape_of, shape_at, zero_in, kind_of, element_of, operation, step_operation, binary_plan, unary_operation, conversion, index_plan}
use Rattle.go_meaning.specs.Planning.{place_of, places_from, places_of, composite_plan, element_zero, builtin_plan, call_plan, object_plan, specified_plan, default_at, at_most_one, items_of, form_plan, sort_plan, plan}

-- what is told of renamed types
pub record AreTold (name : ℕ → ℕ) (old new : Rights) : Type 0 where
  pub underlying : (t : TypeTree) → underlying_of new (renamed name t) ≡ option_map (renamed name) (underlying_of old t)
  pub zero : (t : TypeTree) → zero_of new (renamed name t) ≡ zero_of old t

-- ---- by the form of a type

module _ (name : ℕ → ℕ) where
  abbrev other : TypeTree → TypeTree
  other = renamed name

  or_other : (o : Option TypeTree) → unwrap_or (option_map other o) boolean ≡ other (unwrap_or o boolean)
  or_other None = refl
  or_other (Some t) = refl

  kind_other : (t : TypeTree) → kind_of (other t) ≡ kind_of t
  kind_other boolean = refl
  kind_other text = refl
  kind_other (integer k) = refl
  kind_other (array n t) = refl
  kind_other (slice t) = refl
  kind_other (structure ns ts) = refl
  kind_other (function ps rs) = refl
  kind_other (declared n) = refl

  element_other : (t : TypeTree) → element_of (other t) ≡ other (element_of t)
  element_other boolean = refl
  element_other text = refl
  element_other (integer k) = refl
  element_other (array n t) = refl
  element_other (slice t) = refl
  element_other (structure ns ts) = refl
  element_other (function ps rs) = refl
  element_other (declared n) = refl

  operation_other : (o : Arithmetic) (t : TypeTree) → operation o (other t) ≡ operation o t
  operation_other o boolean = refl
  operation_other o text = refl
  operation_other o (integer k) = refl
  operation_other o (array n t) = refl
  operation_other o (slice t) = refl
  operation_other o (structure ns ts) = refl
  operation_other o (function ps rs) = refl
  operation_other o (declared n) = refl

  step_other : (s : Step) (t : TypeTree) → step_operation s (other t) ≡ step_operation s t
  step_other step.Increment t = operation_other arithmetic.Add t
  step_other step.Decrement t = operation_other arithmetic.Subtract t

  binary_other : (o : Operator) (t : TypeTree) → binary_plan o (other t) ≡ binary_plan o t
  binary_other operator.Either t = refl
  binary_other operator.Both t = refl
  binary_other (operator.Compare c) t = refl
  binary_other (operator.Compute o) t = ap plans.Perform (operation_other o t)

  unary_other : (s : Sign) (t : TypeTree) → unary_operation s (other t) ≡ unary_operation s t
  unary_other sign.Plus t = refl
  unary_other sign.Minus t = ap does.Negate (kind_other t)
  unary_other sign.Not t = refl
  unary_other sign.Complement t = ap does.Complement (kind_other t)

  to_integer : (u : TypeTree) (m : Kind) → conversion (integer m) (other u) ≡ conversion (integer m) u
  to_integer boolean m = refl
  to_integer text m = refl
  to_integer (integer k) m = refl
  to_integer (array n t) m = refl
  to_integer (slice t) m = refl
  to_integer (structure ns ts) m = refl
  to_integer (function ps rs) m = refl
  to_integer (declared n) m = refl

  to_text : (u : TypeTree) → conversion text (other u) ≡ conversion text u
  to_text boolean = refl
  to_text text = refl
  to_text (integer k) = refl
  to_text (array n t) = refl
  to_text (slice t) = refl
  to_text (structure ns ts) = refl
  to_text (function ps rs) = refl
  to_text (declared n) = refl

  to_slice : (t u : TypeTree) → conversion (slice (other t)) (other u) ≡ conversion (slice t) u
  to_slice e boolean = refl
  to_slice e text = refl
  to_slice e (integer k) = refl
  to_slice e (array n t) = refl
  to_slice e (slice t) = refl
  to_slice e (structure ns ts) = refl
  to_slice e (function ps rs) = refl
  to_slice e (declared n) = refl

  conversion_other : (t u : TypeTree) → conversion (other t) (other u) ≡ conversion t u
  conversion_other (integer k) u = to_integer u k
  conversion_other text u = to_text u
  conversion_other (slice t) u = to_slice t u
  conversion_other boolean u = refl
  conversion_other (array n t) u = refl
  conversion_other (structure ns ts) u = refl
  conversion_other (function ps rs) u = refl
  conversion_other (declared n) u = refl

  index_other : (t : TypeTree) → index_plan (other t) ≡ index_plan t
  index_other boolean = refl
  index_other text = refl
  index_other (integer k) = refl
  index_other (array n t) = refl
  index_other (slice t) = refl
  index_other (structure ns ts) = refl
  index_other (function ps rs) = refl
  index_other (declared n) = refl

  array_items : (single calls : Bool) (n : ℕ) (t : TypeTree) → items_of single calls (array n (other t)) ≡ items_of single calls (array n t)
  array_items true false n t = refl
  array_items true true n t = refl
  array_items false calls n t = refl

  slice_items : (single calls : Bool) (t : TypeTree) → items_of single calls (slice (other t)) ≡ items_of single calls (slice t)
  slice_items true false t = refl
  slice_items true true t = refl
  slice_items false calls t = refl

  structure_items : (single calls : Bool) (ns : List (List ℕ)) (ts : TypeRow) → items_of single calls (structure ns (renamed_row name ts)) ≡ items_of single calls (structure ns ts)
  structure_items true false ns ts = refl
  structure_items true true ns ts = refl
  structure_items false calls ns ts = refl

  function_items : (single calls : Bool) (ps rs : TypeRow) → items_of single calls (function (renamed_row name ps) (renamed_row name rs)) ≡ items_of single calls (function ps rs)
  function_items true false ps rs = refl
  function_items true true ps rs = refl
  function_items false calls ps rs = refl

  declared_items : (single calls : Bool) (n : ℕ) → items_of single calls (declared (name n)) ≡ items_of single calls (declared n)
  declared_items true false n = refl
  declared_items true true n = refl
  declared_items false calls n = refl

  items_other : (single calls : Bool) (t : TypeTree) → items_of single calls (other t) ≡ items_of single calls t
  items_other single calls boolean = refl
  items_other single calls text = refl
  items_other single calls (integer k) = refl
  items_other single calls (array n t) = array_items single calls n t
  items_other single calls (slice t) = slice_items single calls t
  items_other single calls (structure ns ts) = structure_items single calls ns ts
  items_other single calls (function ps rs) = function_items single calls ps rs
  items_other single calls (declared n) = declared_items single calls n

  -- ---- parts

  sort_other : (s : Sort TypeTree) → sort_type (sort_mapped other s) ≡ other (sort_type s)
  sort_other Nothing = refl
  sort_other Unknown = refl
  sort_other Blank = refl
  sort_other Nil = refl
  sort_other (Builtin b) = refl
  sort_other Println = refl
  sort_other Package = refl
  sort_other (IsType t) = refl
  sort_other (trees.Value t) = refl
  sort_other (Constant t c) = refl
  sort_other (Open u) = refl
  sort_other (OpenConstant c) = refl
  sort_other (Results t) = refl

  part_other : (ps : Typeds TypeTree) (n : ℕ) → part_at (all_mapped other ps) n ≡ option_map (mapped other) (part_at ps n)
  part_other none n = refl
  part_other (more p ps) zero = refl
  part_other (skip ps) zero = refl
  part_other (more p ps) (suc n) = part_other ps n
  part_other (skip ps) (suc n) = part_other ps n

  there : (o : Option (Typed TypeTree)) → is_there (option_map (mapped other) o) ≡ is_there o
  there None = refl
  there (Some p) = refl

  pub there_other : (ps : Typeds TypeTree) (n : ℕ) → is_there (part_at (all_mapped other ps) n) ≡ is_there (part_at ps n)
  there_other ps n = ap is_there (part_other ps n) ∙ there (part_at ps n)

  calling : (o : Option (Typed TypeTree)) → calls_there (option_map (mapped other) o) ≡ calls_there o
  calling None = refl
  calling (Some (typed f i j l ps)) = refl

  calls_other : (ps : Typeds TypeTree) (n : ℕ) → calls_there (part_at (all_mapped other ps) n) ≡ calls_there (part_at ps n)
  calls_other ps n = ap calls_there (part_other ps n) ∙ calling (part_at ps n)

  typing : (o : Option (Typed TypeTree)) → type_there (option_map (mapped other) o) ≡ other (type_there o)
  typing None = refl
  typing (Some (typed f i j l ps)) = sort_other l.sort

  type_other : (ps : Typeds TypeTree) (n : ℕ) → type_there (part_at (all_mapped other ps) n) ≡ other (type_there (part_at ps n))
  type_other ps n = ap type_there (part_other ps n) ∙ typing (part_at ps n)

  sorting : (o : Option (Typed TypeTree)) → sort_there (option_map (mapped other) o) ≡ sort_mapped other (sort_there o)
  sorting None = refl
  sorting (Some (typed f i j l ps)) = refl

  places_other : (k : ℕ) (ps : Typeds TypeTree) → places_from k (all_mapped other ps) ≡ places_from k ps
  places_other k none = refl
  places_other k (more (typed f i j l qs) ps) = ap (λ ns. place_of f k ∷ ns) (places_other (suc k) ps)
  places_other k (skip ps) = places_other (suc k) ps

  all_places : (ps : Typeds TypeTree) → places_of (all_mapped other ps) ≡ places_of ps
  all_places none = refl
  all_places (more p ps) = places_other 0 ps
  all_places (skip ps) = places_other 0 ps

  default_other : (ps : Typeds TypeTree) → default_at (all_mapped other ps) ≡ default_at ps
  default_other none = refl
  default_other (more (typed f i j l qs) ps) = ap (λ n. if is_default f then 0 else suc n) (default_other ps)
  default_other (skip ps) = ap suc (default_other ps)

-- ---- the table

module _ (name : ℕ → ℕ) (old new : Rights) (told : AreTold name old new) where
  shape_other : (t : TypeTree) → shape_of new (renamed name t) ≡ renamed name (shape_of old t)
  shape_other t = ap (λ o. unwrap_or o boolean) (told.underlying t) ∙ or_other name (underlying_of old t)

  shape_there : (ps : Typeds TypeTree) (n : ℕ) → shape_at new (all_mapped (renamed name) ps) n ≡ renamed name (shape_at old ps n)
  shape_there ps n = ap (shape_of new) (type_other name ps n) ∙ shape_other (type_there (part_at ps n))

  zero_other : (t : TypeTree) → zero_in new (renamed name t) ≡ zero_in old t
  zero_other t = ap (λ o. unwrap_or o nil_function) (told.zero t)

  built : (t : TypeTree) (ps : Typeds TypeTree) → plans.Perform (does.Build (zero_in new (renamed name t)) (places_of (all_mapped (renamed name) ps))) ≡ plans.Perform (does.Build (zero_in old t) (places_of ps))
  built t ps =
      ap (λ z. plans.Perform (does.Build z (places_of (all_mapped (renamed name) ps)))) (zero_other t)
      ∙ ap (λ ns. plans.Perform (does.Build (zero_in old t) ns)) (all_places name ps)

  composite_other : (t u : TypeTree) (ps : Typeds TypeTree) → composite_plan new (renamed name t) (renamed name u) (all_mapped (renamed name) ps) ≡ composite_plan old t u ps
  composite_other t boolean ps = built t ps
  composite_other t text ps = built t ps
  composite_other t (integer k) ps = built t ps
  composite_other t (array n e) ps = built t ps
  composite_other t (slice e) ps = refl
  composite_other t (structure ns ts) ps = built t ps
  composite_other t (function qs rs) ps = built t ps
  composite_other t (declared n) ps = built t ps

  composed : (t : TypeTree) (ps : Typeds TypeTree) → composite_plan new (renamed name t) (shape_of new (renamed name t)) (all_mapped (renamed name) ps) ≡ composite_plan old t (shape_of old t) ps
  composed t ps =
      ap (λ u. composite_plan new (renamed name t) u (all_mapped (renamed name) ps)) (shape_other t)
      ∙ composite_other t (shape_of old t) ps

  same_zero : (ps : Typeds TypeTree) → element_zero new (all_mapped (renamed name) ps) ≡ element_zero old ps
  same_zero ps =
      ap (λ u. zero_in new (element_of u)) (shape_there ps 1)
      ∙ ap (zero_in new) (element_other name (shape_at old ps 1))
      ∙ zero_other (element_of (shape_at old ps 1))

  builtin_other : (b : Predeclared) (ps : Typeds TypeTree) → builtin_plan new b (all_mapped (renamed name) ps) ≡ builtin_plan old b ps
  builtin_other predeclared.Make ps = ap (λ z. plans.Perform (does.MakeSlice z)) (same_zero ps)
  builtin_other predeclared.Append ps = ap (λ z. plans.Perform (does.Append z)) (same_zero ps)
  builtin_other b ps = refl

  call_other : (s : Sort TypeTree) (ps : Typeds TypeTree) → call_plan new (sort_mapped (renamed name) s) (all_mapped (renamed name) ps) ≡ call_plan old s ps
  call_other Nothing ps = refl
  call_other Unknown ps = refl
  call_other Blank ps = refl
  call_other Nil ps = refl
  call_other (Builtin b) ps = builtin_other b ps
  call_other Println ps = refl
  call_other Package ps = refl
  call_other (IsType t) ps = refl
  call_other (trees.Value t) ps = refl
  call_other (Constant t c) ps = refl
  call_other (Open u) ps = refl
  call_other (OpenConstant c) ps = refl
  call_other (Results t) ps = refl

  called : (ps : Typeds TypeTree) → call_plan new (sort_there (part_at (all_mapped (renamed name) ps) 0)) (all_mapped (renamed name) ps) ≡ call_plan old (sort_there (part_at ps 0)) ps
  called ps =
      ap (λ s. call_plan new s (all_mapped (renamed name) ps)) (ap sort_there (part_other name ps 0) ∙ sorting name (part_at ps 0))
      ∙ call_other (sort_there (part_at ps 0)) ps

  object_other : (r : Referent) (t : TypeTree) → object_plan new r (renamed name t) ≡ object_plan old r t
  object_other (referent.Predeclared predeclared.Nil) t = ap (λ z. plans.Give (zero_value z)) (zero_other t)
  object_other r t = refl

  specified_other : (n : ℕ) (ps : Typeds TypeTree) → specified_plan new n (all_mapped (renamed name) ps) ≡ specified_plan old n ps
  specified_other n ps =
      ap (λ b. if b then plans.AssignTo n else plans.ZeroTo n (zero_in new (type_there (part_at (all_mapped (renamed name) ps) n)))) (there_other name ps (suc n))
      ∙ ap (λ z. if is_there (part_at ps (suc n)) then plans.AssignTo n else plans.ZeroTo n z) (ap (zero_in new) (type_other name ps n) ∙ zero_other (type_there (part_at ps n)))

  selected : (ps : Typeds TypeTree) → plans.Select (is_there (part_at (all_mapped (renamed name) ps) 1)) (default_at (all_mapped (renamed name) ps)) ≡ plans.Select (is_there (part_at ps 1)) (default_at ps)
  selected ps =
      ap (λ b. plans.Select b (default_at (all_mapped (renamed name) ps))) (there_other name ps 1)
      ∙ ap (plans.Select (is_there (part_at ps 1))) (default_other name ps)

  iterated : (n : ℕ) (ps : Typeds TypeTree) →
      plans.Iterate n (items_of (at_most_one n) (calls_there (part_at (all_mapped (renamed name) ps) n)) (shape_at new (all_mapped (renamed name) ps) n))
      ≡ plans.Iterate n (items_of (at_most_one n) (calls_there (part_at ps n)) (shape_at old ps n))
  iterated n ps =
      ap (λ b. plans.Iterate n (items_of (at_most_one n) b (shape_at new (all_mapped (renamed name) ps) n))) (calls_other name ps n)
      ∙ ap (λ u. plans.Iterate n (items_of (at_most_one n) (calls_there (part_at ps n)) u)) (shape_there ps n)
      ∙ ap (plans.Iterate n) (items_other name (at_most_one n) (calls_there (part_at ps n)) (shape_at old ps n))

  cut : (ps : Typeds TypeTree) →
      plans.Perform (does.Cut (is_there (part_at (all_mapped (renamed name) ps) 1)) (is_there (part_at (all_mapped (renamed name) ps) 2))) ≡ plans.Perform (does.Cut (is_there (part_at ps 1)) (is_there (part_at ps 2)))
  cut ps =
      ap (λ b. plans.Perform (does.Cut b (is_there (part_at (all_mapped (renamed name) ps) 2)))) (there_other name ps 1)
      ∙ ap (λ b. plans.Perform (does.Cut (is_there (part_at ps 1)) b)) (there_other name ps 2)

  converted : (t : TypeTree) (ps : Typeds TypeTree) → conversion (shape_of new (renamed name t)) (shape_at new (all_mapped (renamed name) ps) 1) ≡ conversion (shape_of old t) (shape_at old ps 1)
  converted t ps =
      ap (λ u. conversion u (shape_at new (all_mapped (renamed name) ps) 1)) (shape_other t)
      ∙ ap (conversion (renamed name (shape_of old t))) (shape_there ps 1)
      ∙ conversion_other name (shape_of old t) (shape_at old ps 1)

  form_other : (f : Form) (t : TypeTree) (ps : Typeds TypeTree) → form_plan new f (renamed name t) (all_mapped (renamed name) ps) ≡ form_plan old f t ps
  form_other (form.Step s) t ps = ap (λ u. plans.StepBy (step_operation s u)) (shape_there ps 0) ∙ ap plans.StepBy (step_other name s (shape_at old ps 0))
  form_other (form.Operate o) t ps = ap (λ u. plans.OperateBy (operation o u)) (shape_there ps 0) ∙ ap plans.OperateBy (operation_other name o (shape_at old ps 0))
  form_other (form.Specified n) t ps = specified_other n ps
  form_other form.Switch t ps = selected ps
  form_other (form.Range defines n) t ps = iterated n ps
  form_other (form.Object r) t ps = object_other r t
  form_other form.Index t ps = ap index_plan (shape_there ps 0) ∙ index_other name (shape_at old ps 0)
  form_other form.Slice t ps = cut ps
  form_other form.Call t ps = called ps
  form_other form.Conversion t ps = ap plans.Perform (converted t ps)
  form_other form.Composite t ps = composed t ps
  form_other (form.Unary s) t ps = ap (λ u. plans.Perform (unary_operation s u)) (shape_there ps 0) ∙ ap plans.Perform (unary_other name s (shape_at old ps 0))
  form_other (form.Binary o) t ps = ap (binary_plan o) (shape_there ps 0) ∙ binary_other name o (shape_at old ps 0)
  form_other f t ps = refl

  sorted : (s : Sort TypeTree) (p q : Plan) → p ≡ q → sort_plan (sort_mapped (renamed name) s) p ≡ sort_plan s q
  sorted Nothing p q e = e
  sorted Unknown p q e = e
  sorted Blank p q e = e
  sorted Nil p q e = e
  sorted (Builtin b) p q e = e
  sorted Println p q e = e
  sorted Package p q e = e
  sorted (IsType t) p q e = e
  sorted (trees.Value t) p q e = e
  sorted (Constant t c) p q e = refl
  sorted (Open u) p q e = e
  sorted (OpenConstant c) p q e = refl
  sorted (Results t) p q e = e

  once : (f : Form) (l : Label TypeTree) (ps : Typeds TypeTree) →
      sort_plan (sort_mapped (renamed name) l.sort) (form_plan new f (sort_type (sort_mapped (renamed name) l.sort)) (all_mapped (renamed name) ps)) ≡ sort_plan l.sort (form_plan old f (sort_type l.sort) ps)
  once f l ps = sorted l.sort _ _ (ap (λ t. form_plan new f t (all_mapped (renamed name) ps)) (sort_other name l.sort) ∙ form_other f (sort_type l.sort) ps)

  pub plan_other : (f : Form) (l : Label TypeTree) (ps : Typeds TypeTree) → plan new f (label_mapped (renamed name) l) (all_mapped (renamed name) ps) ≡ plan old f l ps
  plan_other form.For l ps = ap Loop (there_other name ps 1)
  plan_other f l ps = ap Once (once f l ps)

pub other_types : ((name : ℕ → ℕ) (old new : Rights) (t : TypeTree) → AreRenamed name old new → underlying_of new (renamed name t) ≡ option_map (renamed name) (underlying_of old t)) →
    ((name : ℕ → ℕ) (old new : Rights) (t : TypeTree) → AreRenamed name old new → zero_of new (renamed name t) ≡ zero_of old t) → OtherTypesRenumber
other_types f g c s old new referents are = record {
  referents = referents;
  zero = λ t. g c.type old new t are;
  plans = plan_other c.type old new (record { underlying = λ t. f c.type old new t are; zero = λ t. g c.type old new t are });
}
