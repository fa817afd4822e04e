-- Parts and faults elsewhere.
use Rattle.std.proofs.Common.{◌≡◌, ◌∙◌, suc, Bool, true, false, List, [], ◌∷◌, ◌++◌, map, Option, Some, None, length, refl, sym, ap}
use Rattle.std.specs.Prelude.{◌&&◌, ◌||◌, if◌then◌else◌}
use Rattle.std.specs.List.{list_all, list_any}
use Rattle.std.proofs.lemmas.List.{map-append}
use Rattle.go_types.specs.Trees.{TypeTree}
use Rattle.go_typed.specs.Trees.{typed, Typeds, row, list_of, form_of, sort_of, parts_of, label_of}
use Rattle.go_typed.specs.Trees as sort
use Rattle.go_exprs_rules.specs.declared.fault.TypeFault.{TypeFault}
use Rattle.go_exprs_rules.specs.Faults.{or_else}
use Rattle.go_exprs_rules.specs.Settling.{Part}
use Rattle.go_typed.specs.declared.form.Form.{Form}
use Rattle.go_typed.specs.declared.form.Form.TheVariants as form
use Rattle.go_typed.specs.declared.form.Referent.TheVariants as referent
use Rattle.go_grammar.specs.declared.kind.Kind.TheVariants as kind
use Rattle.go_exprs_rules.specs.Literals.{key_in}
use Rattle.go_exprs_rules.specs.Sorts.{Stands}
use Rattle.go_exprs_rules.specs.TypeNodes.{is_parameter, is_result_list, is_field_name}
use Rattle.go_exprs_rules.specs.Tables.{Parts, present, no_faults, is_held, is_variable_name, is_call}
use Rattle.go_exprs_elsewhere.specs.Elsewhere.{Moves, form_moved, placed, all_placed, fault_placed}

module _ (m : Moves) where
  abbrev pub optional : Option Part → Option Part
  optional None = None
  optional (Some x) = Some (placed m x)

  abbrev pub every : List Part → List Part
  every xs = map (placed m) xs

  abbrev pub parts : Parts → Parts
  parts xs = map optional xs

  abbrev pub fails : List TypeFault → List TypeFault
  fails fs = map (fault_placed m) fs

  pub sort_kept : (x : Part) → sort_of (placed m x) ≡ sort_of x
  sort_kept (typed f i j l ps) = refl

  pub form_kept : (x : Part) → form_of (placed m x) ≡ form_moved m (form_of x)
  form_kept (typed f i j l ps) = refl

  -- forms whose numbers count for nothing
  pub held_moved : (f : Form) → is_held (form_moved m f) ≡ is_held f
  held_moved (form.Held k) = refl
  held_moved f = refl

  pub key_moved : (f : Form) → key_in (form_moved m f) ≡ key_in f
  key_moved (form.Keyed n) = refl
  key_moved f = refl

  pub parameter_moved : (f : Form) → is_parameter (form_moved m f) ≡ is_parameter f
  parameter_moved (form.Held kind.Parameter) = refl
  parameter_moved f = refl

  pub result_list_moved : (f : Form) → is_result_list (form_moved m f) ≡ is_result_list f
  result_list_moved (form.Held kind.Results) = refl
  result_list_moved f = refl

  pub field_name_moved : (f : Form) → is_field_name (form_moved m f) ≡ is_field_name f
  field_name_moved (form.Held kind.DeclaredName) = refl
  field_name_moved f = refl

  pub variable_moved : (f : Form) (x : Stands) → is_variable_name (form_moved m f) x ≡ is_variable_name f x
  variable_moved (form.Local n) (sort.Value t) = refl
  variable_moved (form.Object (referent.Variable n)) x = refl
  variable_moved f x = refl

  pub call_moved : (f : Form) → is_call (form_moved m f) ≡ is_call f
  call_moved form.Call = refl
  call_moved f = refl

  pub label_kept : (x : Part) → label_of (placed m x) ≡ label_of x
  label_kept (typed f i j l ps) = refl

  pub parts_kept : (x : Part) → parts_of (placed m x) ≡ all_placed m (parts_of x)
  parts_kept (typed f i j l ps) = refl

  pub list_kept : (ps : Typeds TypeTree) → list_of (all_placed m ps) ≡ parts (list_of ps)
  list_kept sort.none = refl
  list_kept (sort.more x xs) = ap (λ ys. Some (placed m x) ∷ ys) (list_kept xs)
  list_kept (sort.skip xs) = ap (λ ys. None ∷ ys) (list_kept xs)

  pub row_kept : (xs : Parts) → row (parts xs) ≡ all_placed m (row xs)
  row_kept [] = refl
  row_kept (None ∷ xs) = ap sort.skip (row_kept xs)
  row_kept (Some x ∷ xs) = ap (sort.more (placed m x)) (row_kept xs)

  pub present_kept : (xs : Parts) → present (parts xs) ≡ every (present xs)
  present_kept [] = refl
  present_kept (Some x ∷ xs) = ap (λ ys. placed m x ∷ ys) (present_kept xs)
  present_kept (None ∷ xs) = present_kept xs

  pub count_kept : (xs : List Part) → length (every xs) ≡ length xs
  count_kept [] = refl
  count_kept (x ∷ xs) = ap suc (count_kept xs)

  -- ---- faults

  pub either : (b : Bool) (xs ys : List TypeFault) → (if b then fails xs else fails ys) ≡ fails (if b then xs else ys)
  either true xs ys = refl
  either false xs ys = refl

  pub either_of : (b : Bool) (us vs xs ys : List TypeFault) → us ≡ fails xs → vs ≡ fails ys → (if b then us else vs) ≡ fails (if b then xs else ys)
  either_of true us vs xs ys e f = e
  either_of false us vs xs ys e f = f

  pub both : (us vs xs ys : List TypeFault) → us ≡ fails xs → vs ≡ fails ys → us ++ vs ≡ fails (xs ++ ys)
  both us vs xs ys e f = ap (λ z. z ++ vs) e ∙ ap (λ z. fails xs ++ z) f ∙ sym (map-append (fault_placed m) xs ys)

  pub or_else_kept : (us vs xs ys : List TypeFault) → us ≡ fails xs → vs ≡ fails ys → or_else us vs ≡ fails (or_else xs ys)
  or_else_kept us vs [] ys e f = ap (λ z. or_else z vs) e ∙ f
  or_else_kept us vs (x ∷ xs) ys e f = ap (λ z. or_else z vs) e

  pub no_faults_kept : (xs : List TypeFault) → no_faults (fails xs) ≡ no_faults xs
  no_faults_kept [] = refl
  no_faults_kept (x ∷ xs) = refl

  -- ---- what parts say whose places count for nothing

  pub map_kept : {B : Type 0} (f : Part → B) → ((x : Part) → f (placed m x) ≡ f x) → (xs : List Part) → map f (every xs) ≡ map f xs
  map_kept f e [] = refl
  map_kept f e (x ∷ xs) = ap (λ y. y ∷ map f (every xs)) (e x) ∙ ap (λ ys. f x ∷ ys) (map_kept f e xs)

  pub all_kept : (f : Part → Bool) → ((x : Part) → f (placed m x) ≡ f x) → (xs : List Part) → list_all f (every xs) ≡ list_all f xs
  all_kept f e [] = refl
  all_kept f e (x ∷ xs) = ap (λ b. b && list_all f (every xs)) (e x) ∙ ap (λ b. f x && b) (all_kept f e xs)

  pub any_kept : (f : Part → Bool) → ((x : Part) → f (placed m x) ≡ f x) → (xs : List Part) → list_any f (every xs) ≡ list_any f xs
  any_kept f e [] = refl
  any_kept f e (x ∷ xs) = ap (λ b. b || list_any f (every xs)) (e x) ∙ ap (λ b. f x || b) (any_kept f e xs)

  pub some_kept : (f : Option Part → Bool) → ((x : Option Part) → f (optional x) ≡ f x) → (xs : Parts) → list_any f (parts xs) ≡ list_any f xs
  some_kept f e [] = refl
  some_kept f e (x ∷ xs) = ap (λ b. b || list_any f (parts xs)) (e x) ∙ ap (λ b. f x || b) (some_kept f e xs)
