-- The plan of a node with other numbers.
use Rattle.std.proofs.Common.{◌≡◌, ℕ, suc, refl, sym, ap, ◌∙◌}
use Rattle.std.specs.Prelude.{Bool, true, false, if◌then◌else◌}
use Rattle.std.specs.Option.{unwrap_or}
use Rattle.go_tree.specs.declared.object.Predeclared.{Predeclared}
use Rattle.go_tree.specs.declared.object.Predeclared.TheVariants as predeclared
use Rattle.go_grammar.specs.declared.kind.Operator.{Operator}
use Rattle.go_grammar.specs.declared.kind.Operator.TheVariants as operator
use Rattle.go_types.specs.Trees.{TypeTree, array, slice}
use Rattle.go_types.specs.Relations.{Rights}
use Rattle.go_types_relations.specs.Zeros.{nil_function}
use Rattle.go_types_relations.specs.Renaming.{renamed}
use Rattle.go_constants.specs.declared.values.Const.{Const}
use Rattle.go_constants.specs.declared.values.Const.TheVariants as const
use Rattle.go_typed.specs.declared.form.Form.{Form}
use Rattle.go_typed.specs.declared.form.Form.TheVariants as form
use Rattle.go_typed.specs.declared.form.Referent.{Referent}
use Rattle.go_typed.specs.declared.form.Referent.TheVariants as referent
use Rattle.go_typed.specs.Trees.{Sort, Constant, OpenConstant, Println, Builtin, Label, Typed, typed, Typeds, sort_mapped, label_mapped, all_mapped}
use Rattle.go_typed.specs.Trees as trees
use Rattle.go_meaning.specs.Values.{const_value, zero_value}
use Rattle.go_meaning.specs.Plans.{Plan, Course, Give, Once, Loop}
use Rattle.go_meaning.specs.Plans as plans
use Rattle.go_meaning.specs.Planning.{part_at, is_there, sort_type, type_there, sort_there, shape_of, shape_at, zero_in, binary_plan, index_plan, composite_plan, builtin_plan, call_plan, object_plan, form_plan, sort_plan, plan}
use Rattle.extract_trees.specs.Numberings.{Numbering, form_numbered}
use Rattle.go_meaning_numbers.specs.Moved.{shifted}
use Rattle.extract_runs.proofs.Zeros.{zero_moved}
use Rattle.extract_runs.specs.Images.{plan_moved}
use Rattle.extract_runs.specs.Renumbering.{referent_moved, Renumbers}
use Rattle.extract_runs.proofs.Plans.{plan_in}

abbrev pub course_moved : (functions local : ℕ → ℕ) → Course → Course
course_moved s local (Once p) = Once (plan_moved s local p)
course_moved s local (Loop b) = Loop b

module _ (c : Numbering) (s : ℕ → ℕ) (old new : Rights) (g : Renumbers c s old new) where
  abbrev moved : Plan → Plan
  moved = plan_moved s c.local

  const_stays : (x : Const) → shifted s (const_value x) ≡ const_value x
  const_stays (const.Bool b) = refl
  const_stays (const.Int z rune) = refl
  const_stays (const.Text bytes) = refl

  -- ---- what names nothing stays

  if_stays : (b : Bool) (p q : Plan) → moved p ≡ p → moved q ≡ q → moved (if b then p else q) ≡ (if b then p else q)
  if_stays true p q e d = e
  if_stays false p q e d = d

  index_stays : (t : TypeTree) → moved (index_plan t) ≡ index_plan t
  index_stays (array n t) = refl
  index_stays (slice t) = refl
  index_stays t = refl

  binary_stays : (o : Operator) (t : TypeTree) → moved (binary_plan o t) ≡ binary_plan o t
  binary_stays operator.Either t = refl
  binary_stays operator.Both t = refl
  binary_stays (operator.Compare x) t = refl
  binary_stays (operator.Compute x) t = refl

  composite_stays : (t u : TypeTree) (ps : Typeds TypeTree) → moved (composite_plan old t u ps) ≡ composite_plan old t u ps
  composite_stays t (slice u) ps = refl
  composite_stays t u ps = refl

  builtin_stays : (b : Predeclared) (ps : Typeds TypeTree) → moved (builtin_plan old b ps) ≡ builtin_plan old b ps
  builtin_stays predeclared.Len ps = refl
  builtin_stays predeclared.Cap ps = refl
  builtin_stays predeclared.Make ps = refl
  builtin_stays predeclared.Append ps = refl
  builtin_stays predeclared.Copy ps = refl
  builtin_stays predeclared.Panic ps = refl
  builtin_stays b ps = refl

  call_stays : (x : Sort TypeTree) (ps : Typeds TypeTree) → moved (call_plan old x ps) ≡ call_plan old x ps
  call_stays Println ps = refl
  call_stays (Builtin b) ps = builtin_stays b ps
  call_stays x ps = refl

  object_moved : (r : Referent) (t : TypeTree) → object_plan new (referent_moved s r) (renamed c.type t) ≡ moved (object_plan old r t)
  object_moved (referent.Predeclared predeclared.Nil) t = ap (λ z. Give (zero_value (unwrap_or z nil_function))) (g.zero t) ∙ sym (ap Give (zero_moved s (zero_in old t)))
  object_moved r t = refl

  -- ---- nodes

  type_mapped : (x : Sort TypeTree) → sort_type (sort_mapped (renamed c.type) x) ≡ renamed c.type (sort_type x)
  type_mapped x = cases x
    where
      cases : (x : Sort TypeTree) → sort_type (sort_mapped (renamed c.type) x) ≡ renamed c.type (sort_type x)
      cases (trees.IsType t) = refl
      cases (trees.Value t) = refl
      cases (Constant t v) = refl
      cases x = refl

  sorted : (x : Sort TypeTree) (p q : Plan) → q ≡ moved p → sort_plan (sort_mapped (renamed c.type) x) q ≡ moved (sort_plan x p)
  sorted (Constant t v) p q e = ap Give (sym (const_stays v))
  sorted (OpenConstant v) p q e = ap Give (sym (const_stays v))
  sorted x p q e = e

  abbrev value_label : TypeTree → Label TypeTree
  value_label t = record { sort = trees.Value t; varies = true; calls = true }

  -- a form that is no loop
  renamed_plan : (f : Form) (t : TypeTree) (ps : Typeds TypeTree) → plan_in (plan new f (value_label (renamed c.type t)) (all_mapped (renamed c.type) ps)) ≡ plan_in (plan old f (value_label t) ps)
  renamed_plan f t ps = ap plan_in (g.plans f (value_label t) ps)

  form_moved : (ps qs : Typeds TypeTree) (f : Form) → ((t : TypeTree) → form_plan new f t qs ≡ form_plan new f t (all_mapped (renamed c.type) ps)) → (t : TypeTree) → form_plan new (form_numbered c f) (renamed c.type t) qs ≡ moved (form_plan old f t ps)
  form_moved ps qs (form.Local n) sees t = refl
  form_moved ps qs (form.New n) sees t = refl
  form_moved ps qs (form.Declared n) sees t = refl
  form_moved ps qs (form.Object r) sees t = ap (λ x. object_plan new x (renamed c.type t)) (g.referents r) ∙ object_moved r t
  form_moved ps qs (form.Specified n) sees t = sees (renamed c.type t) ∙ renamed_plan (form.Specified n) t ps ∙ sym (if_stays (is_there (part_at ps (suc n))) (plans.AssignTo n) (plans.ZeroTo n (zero_in old (type_there (part_at ps n)))) refl refl)
  form_moved ps qs form.Index sees t = sees (renamed c.type t) ∙ renamed_plan form.Index t ps ∙ sym (index_stays (shape_at old ps 0))
  form_moved ps qs form.Call sees t = sees (renamed c.type t) ∙ renamed_plan form.Call t ps ∙ sym (call_stays (sort_there (part_at ps 0)) ps)
  form_moved ps qs form.Composite sees t = sees (renamed c.type t) ∙ renamed_plan form.Composite t ps ∙ sym (composite_stays t (shape_of old t) ps)
  form_moved ps qs (form.Binary o) sees t = sees (renamed c.type t) ∙ renamed_plan (form.Binary o) t ps ∙ sym (binary_stays o (shape_at old ps 0))
  form_moved ps qs form.For sees t = refl
  form_moved ps qs f sees t = sees (renamed c.type t) ∙ renamed_plan f t ps

  -- the plan of a node that is no loop and no element for a field
  pub node_plan : (ps qs : Typeds TypeTree) (f : Form) → ((t : TypeTree) → form_plan new f t qs ≡ form_plan new f t (all_mapped (renamed c.type) ps)) → (l : Label TypeTree) → sort_plan (sort_mapped (renamed c.type) l.sort) (form_plan new (form_numbered c f) (sort_type (sort_mapped (renamed c.type) l.sort)) qs) ≡ moved (sort_plan l.sort (form_plan old f (sort_type l.sort) ps))
  node_plan ps qs f sees l = sorted l.sort _ _ (ap (λ t. form_plan new (form_numbered c f) t qs) (type_mapped l.sort) ∙ form_moved ps qs f sees (sort_type l.sort))
