-- Names, typed.
use Rattle.std.proofs.Common.{◌≡◌, ◌∙◌, ℕ, suc, Bool, true, false, List, [], ◌∷◌, Option, Some, refl, ap, cond}
use Rattle.std.specs.List.{list_all}
use Rattle.go_tree.specs.declared.object.Object.{Object}
use Rattle.go_tree.specs.declared.object.Object.TheVariants as object
use Rattle.go_grammar.specs.declared.kind.Kind.TheVariants as kind
use Rattle.go_types.specs.Trees.{TypeTree, TypeRow, function}
use Rattle.go_typed.specs.declared.form.Form.TheVariants as form
use Rattle.go_typed.specs.Trees as sort
use Rattle.go_exprs_rules.specs.declared.fault.TypeFault.{TypeFault}
use Rattle.go_exprs_rules.specs.Faults.{or_else}
use Rattle.go_exprs_rules.specs.Names.{object_sort, need_of, name_sort, object_form, form_or_type, place_failing}
use Rattle.go_exprs_rules.specs.Scopes.{Needed, Hint, Scope, value, callee, target}
use Rattle.go_exprs_rules.specs.Settling.{Part}
use Rattle.go_exprs_rules.specs.Sorts.{Stands}
use Rattle.go_exprs_rules.specs.Tables.{no_faults, is_sound, made, built_by}
use Rattle.go_exprs_rules.specs.Typing.{typing, faults}
use Rattle.go_print_laws.specs.Trees.{name_at}
use Rattle.go_stmts_defs.specs.Frames.{Frame, scope_of}
use Rattle.go_stmts_elsewhere.specs.Replaced.{AreFree}
use Rattle.go_stmts_calls.specs.Calls.{MeansVariable, IsTarget, blank, given, MeansFunction, target_at}

-- ---- faults

pub free_of_all : (fs : List (List TypeFault)) → list_all no_faults fs ≡ true → AreFree fs
free_of_all [] e = tt
free_of_all ([] ∷ fs) e = free_of_all fs e
free_of_all ((f ∷ gs) ∷ fs) e = cc

pub one_free : (fs : List TypeFault) → fs ≡ [] → AreFree (fs ∷ [])
one_free [] e = tt
one_free (f ∷ fs) e = cc

-- ---- names

-- what a name is where it stands for this
abbrev named : Scope → Hint → ℕ → Stands → Option Object → Part
named s h i x o =
    cond (is_sound kind.Name [] (or_else [] (place_failing s.rights h i (suc i) x))) (made (form_or_type x (object_form s o)) i (suc i) x [] []) (made (form_or_type x (object_form s o)) i (suc i) sort.Unknown [] [])

abbrev named_faults : Scope → Hint → ℕ → Stands → List TypeFault
named_faults s h i x = or_else [] (place_failing s.rights h i (suc i) x)

value_named : (s : Scope) (i : ℕ) → typing s value (name_at i) ≡ named s value i (name_sort s value i) (s.objects i)
value_named s i = by (is_sound kind.Name [] (or_else [] (place_failing s.rights value i (suc i) (name_sort s value i))))
  where
    by : (b : Bool) → built_by s kind.Name value i (suc i) [] b ≡ cond b (made (form_or_type (name_sort s value i) (object_form s (s.objects i))) i (suc i) (name_sort s value i) [] []) (made (form_or_type (name_sort s value i) (object_form s (s.objects i))) i (suc i) sort.Unknown [] [])
    by true = refl
    by false = refl

callee_named : (s : Scope) (i : ℕ) → typing s callee (name_at i) ≡ named s callee i (name_sort s callee i) (s.objects i)
callee_named s i = by (is_sound kind.Name [] (or_else [] (place_failing s.rights callee i (suc i) (name_sort s callee i))))
  where
    by : (b : Bool) → built_by s kind.Name callee i (suc i) [] b ≡ cond b (made (form_or_type (name_sort s callee i) (object_form s (s.objects i))) i (suc i) (name_sort s callee i) [] []) (made (form_or_type (name_sort s callee i) (object_form s (s.objects i))) i (suc i) sort.Unknown [] [])
    by true = refl
    by false = refl

target_named : (s : Scope) (i : ℕ) → typing s target (name_at i) ≡ named s target i (name_sort s target i) (s.objects i)
target_named s i = by (is_sound kind.Name [] (or_else [] (place_failing s.rights target i (suc i) (name_sort s target i))))
  where
    by : (b : Bool) → built_by s kind.Name target i (suc i) [] b ≡ cond b (made (form_or_type (name_sort s target i) (object_form s (s.objects i))) i (suc i) (name_sort s target i) [] []) (made (form_or_type (name_sort s target i) (object_form s (s.objects i))) i (suc i) sort.Unknown [] [])
    by true = refl
    by false = refl

value_faults : (s : Scope) (i : ℕ) → faults s value (name_at i) ≡ named_faults s value i (name_sort s value i) ∷ []
value_faults s i = refl

callee_faults : (s : Scope) (i : ℕ) → faults s callee (name_at i) ≡ named_faults s callee i (name_sort s callee i) ∷ []
callee_faults s i = refl

target_faults : (s : Scope) (i : ℕ) → faults s target (name_at i) ≡ named_faults s target i (name_sort s target i) ∷ []
target_faults s i = refl

module _ (g : Frame) (i : ℕ) where
  -- ---- a variable

  module _ (t : TypeTree) (v : MeansVariable g i t) where
    variable_sort : (n : Needed) → object_sort (scope_of g) n (g.around.objects i) ≡ sort.Value t
    variable_sort n = ap (object_sort (scope_of g) n) v.means.1 ∙ v.stands

    abbrev local : Option Object
    local = Some (object.Local v.means.0 v.number)

    pub variable_typed : typing (scope_of g) value (name_at i) ≡ made (form.Local v.number) i (suc i) (sort.Value t) [] []
    variable_typed = value_named (scope_of g) i ∙ ap (λ x. named (scope_of g) value i x (g.around.objects i)) (variable_sort (need_of g.around.needed value)) ∙ ap (named (scope_of g) value i (sort.Value t)) v.means.1

    pub variable_free : AreFree (faults (scope_of g) value (name_at i))
    variable_free = one_free (named_faults (scope_of g) value i (name_sort (scope_of g) value i)) (ap (named_faults (scope_of g) value i) (variable_sort (need_of g.around.needed value)))

    target_variable : typing (scope_of g) target (name_at i) ≡ made (form.Local v.number) i (suc i) (sort.Value t) [] []
    target_variable = target_named (scope_of g) i ∙ ap (λ x. named (scope_of g) target i x (g.around.objects i)) (variable_sort (need_of g.around.needed target)) ∙ ap (named (scope_of g) target i (sort.Value t)) v.means.1

    target_free : AreFree (faults (scope_of g) target (name_at i))
    target_free = one_free (named_faults (scope_of g) target i (name_sort (scope_of g) target i)) (ap (named_faults (scope_of g) target i) (variable_sort (need_of g.around.needed target)))

  -- ---- a target

  pub target_typed : (t : TypeTree) (w : IsTarget g i t) → typing (scope_of g) target (name_at i) ≡ target_at g i t w
  target_typed t (blank e) =
      target_named (scope_of g) i ∙ ap (λ o. named (scope_of g) target i (object_sort (scope_of g) (need_of g.around.needed target) o) o) e
  target_typed t (given v) = target_variable t v

  pub targets_free : (t : TypeTree) → IsTarget g i t → AreFree (faults (scope_of g) target (name_at i))
  targets_free t (blank e) =
      one_free (named_faults (scope_of g) target i (name_sort (scope_of g) target i)) (ap (λ o. named_faults (scope_of g) target i (object_sort (scope_of g) (need_of g.around.needed target) o)) e)
  targets_free t (given v) = target_free t v

  -- ---- a function

  module _ (number : ℕ) (ps rs : TypeRow) (v : MeansFunction g i number ps rs) where
    function_sort : (n : Needed) → object_sort (scope_of g) n (g.around.objects i) ≡ sort.Value (function ps rs)
    function_sort n = ap (object_sort (scope_of g) n) v.means ∙ v.stands n

    pub function_typed : typing (scope_of g) callee (name_at i) ≡ made (form.Object (g.around.referents number)) i (suc i) (sort.Value (function ps rs)) [] []
    function_typed =
        callee_named (scope_of g) i ∙ ap (λ x. named (scope_of g) callee i x (g.around.objects i)) (function_sort (need_of g.around.needed callee)) ∙ ap (named (scope_of g) callee i (sort.Value (function ps rs))) v.means

    pub function_free : AreFree (faults (scope_of g) callee (name_at i))
    function_free = one_free (named_faults (scope_of g) callee i (name_sort (scope_of g) callee i)) (ap (named_faults (scope_of g) callee i) (function_sort (need_of g.around.needed callee)))
