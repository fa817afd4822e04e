-- What statements leave as it was: nothing of it changes but by what they declare.
use Rattle.std.proofs.Common.{◌≡◌, ◌∙◌, ℕ, Bool, true, false, List, [], ◌∷◌, ◌++◌, length, Option, Some, None, refl, sym, ap, subst, cond}
use Rattle.std.specs.Prelude.{take}
use Rattle.go_grammar.specs.declared.kind.Kind.{Kind}
use Rattle.go_grammar.specs.declared.kind.Kind.TheVariants as kind
use Rattle.go_grammar.specs.declared.kind.Sort.{Sort}
use Rattle.go_grammar.specs.declared.kind.Sort.TheVariants as declaring
use Rattle.go_grammar.specs.Trees.{Tree, node, Trees, none, more, skip, kind_of}
use Rattle.go_tree.specs.declared.object.Object.{Object}
use Rattle.go_tree.specs.declared.object.Object.TheVariants as object
use Rattle.go_types.specs.Trees.{TypeTree, declared}
use Rattle.go_typed.specs.declared.form.Form.{Form}
use Rattle.go_typed.specs.declared.form.Form.TheVariants as form
use Rattle.go_typed.specs.Trees.{Label, typed, Typeds, row, list_of, parts_of, form_of, sort_of}
use Rattle.go_typed.specs.Trees as sort
use Rattle.go_exprs_rules.specs.declared.fault.TypeFault.{TypeFault}
use Rattle.go_exprs_rules.specs.declared.family.OpenKind.{OpenKind}
use Rattle.go_exprs_rules.specs.Names.{declared_form}
use Rattle.go_exprs_rules.specs.Scopes.{Hint, Scope, value}
use Rattle.go_exprs_rules.specs.Settling.{Part, settled, all_settled, stay, default, as_type, defaulted}
use Rattle.go_exprs_rules.specs.Sorts.{Stands, takes_type, retyped, open_kind, default_type}
use Rattle.go_exprs_rules.specs.Tables.{Parts, held, first_cut}
use Rattle.go_stmts_defs.specs.Assigning.{Taking, takes, stands}
use Rattle.go_stmts_defs.specs.Frames.{Frame, with_local, with_own_right}
use Rattle.go_stmts_defs.specs.Laying.{told, behind_names, names_count, is_group, layout, form_by, local_named, type_number, type_name, typed_or_not, specified_names, all_names, specifications}
use Rattle.go_stmts_defs.specs.Reading.{Found, holding, held_faults, is_new, declares_sort, declares_name, declares_all, part_source, right_side, with_type}
use Rattle.go_stmts_defs.specs.Reading.{in_switch, in_constants, entering, beginning, back, leaving, Reading, read, Readings, all_read, left_out, left_out_faults, repeated, is_statement, closed, after, reading, readings}
use Rattle.go_stmts_defs.specs.Rules.{taking, given_part, all_given, own_faults, built_by}
use Rattle.go_stmts_elsewhere.specs.Declaring.{Without, AllWithout, IsValue, HaveNoStatement, IsSpecification, AreSpecifications, IsDeclared, DeclaresInOrder, AllDeclareInOrder}
use Rattle.go_stmts_elsewhere.specs.Gaps.{run, behind, parts_in, frame_in}
use Rattle.go_stmts_elsewhere.proofs.Silent.{AllSilent, is_naming, value_silent, value_quiet, values_behind}
use Rattle.go_stmts_elsewhere.proofs.Without.{ShowsAll, front_without, rest_without, last_without, parts_without, built_without, form_without, layout_without}

-- ---- parts without statements leave the frame as it is

pub still : (f : Frame) (h : Hint) (t : Tree) → is_statement (kind_of t) ≡ false → reading f h t ≡ read (holding f h t) (held_faults f h t) f
still f h (node k i j ps) e = ap (λ b. cond b (closed f k i j ps (readings (beginning k i f) k h ps [] [] ps)) (read (holding f h (node k i j ps)) (held_faults f h (node k i j ps)) f)) e

-- behind a specification's parts nothing is declared so far
pub frames_still : (f : Frame) (d : Sort) (h : Hint) (all : Trees) (xs : Parts) (fs : Found) (ts : Trees) → HaveNoStatement ts → frame_in (readings f (kind.Specification d) h all xs fs ts) ≡ f
frames_still f d h all xs fs none v = refl
frames_still f d h all xs fs (skip ts) v = frames_still f d h all (xs ++ left_out f (kind.Specification d) ∷ []) (fs ++ left_out_faults f (kind.Specification d)) ts v
frames_still f d h all xs fs (more t ts) v =
    let g = told (kind.Specification d) h all xs (kind_of t) in
    ap (λ r. frame_in (after r (λ x gs u. readings u (kind.Specification d) h all (xs ++ Some x ∷ []) (fs ++ gs) ts))) (still f g t v.0)
    ∙ frames_still f d h all (xs ++ Some (holding f g t) ∷ []) (fs ++ held_faults f g t) ts v.1

-- ---- the forms of parts, whatever they take

list_row : (xs : Parts) → list_of (row xs) ≡ xs
list_row [] = refl
list_row (None ∷ xs) = ap (λ ys. None ∷ ys) (list_row xs)
list_row (Some x ∷ xs) = ap (λ ys. Some x ∷ ys) (list_row xs)

abbrev SameForms : Parts → Parts → Type 0
SameForms [] [] = Unit {0}
SameForms (None ∷ xs) (None ∷ ys) = SameForms xs ys
SameForms (Some x ∷ xs) (Some y ∷ ys) = (form_of y ≡ form_of x) × SameForms xs ys
SameForms xs ys = ⊥

forms_stay : (xs : Parts) → SameForms xs xs
forms_stay [] = tt
forms_stay (None ∷ xs) = forms_stay xs
forms_stay (Some x ∷ xs) = (refl, forms_stay xs)

settled_form : (b : Bool) (f : Form) (i j : ℕ) (l k : Label TypeTree) (ps qs : Typeds TypeTree) → form_of (cond b (typed f i j k qs) (typed f i j l ps)) ≡ f
settled_form true f i j l k ps qs = refl
settled_form false f i j l k ps qs = refl

as_type_form : (t : TypeTree) (x : Part) → form_of (settled t x) ≡ form_of x
as_type_form t (typed f i j l ps) = settled_form (takes_type l.sort) f i j l (record l { sort = retyped t l.sort }) ps (all_settled t ps)

defaulted_form : (o : Option OpenKind) (x : Part) → form_of (defaulted o x) ≡ form_of x
defaulted_form (Some k) x = as_type_form (default_type k) x
defaulted_form None x = refl

given_form : (k : Taking) (x : Part) → form_of (given_part k x) ≡ form_of x
given_form (takes stay) x = refl
given_form (takes default) x = defaulted_form (open_kind (sort_of x)) x
given_form (takes (as_type t)) x = as_type_form t x
given_form (stands s) (typed f i j l ps) = refl

given_forms : (ks : List Taking) (xs : Parts) → SameForms xs (all_given ks xs)
given_forms [] xs = forms_stay xs
given_forms (k ∷ ks) [] = tt
given_forms (k ∷ ks) (None ∷ xs) = given_forms ks xs
given_forms (k ∷ ks) (Some x ∷ xs) = (given_form k x, given_forms ks xs)

-- of a node over parts
pub built_form : (s : Frame) (k : Kind) (f : Form) (i j : ℕ) (ys : Parts) (own : List TypeFault) → form_of (built_by s k f i j ys own) ≡ f
built_form s k f i j ys [] = refl
built_form s k f i j ys (o ∷ os) = refl

built_forms : (s : Frame) (k : Kind) (f : Form) (i j : ℕ) (ys : Parts) (own : List TypeFault) → SameForms ys (list_of (parts_of (built_by s k f i j ys own)))
built_forms s k f i j ys [] = subst (SameForms ys) (sym (list_row (all_given (taking s k f ys) ys))) (given_forms (taking s k f ys) ys)
built_forms s k f i j ys (o ∷ os) = subst (SameForms ys) (sym (list_row ys)) (forms_stay ys)

-- and its parts, where they take nothing
pub built_parts : (s : Frame) (k : Kind) (f : Form) (i j : ℕ) (ys : Parts) (own : List TypeFault) → taking s k f ys ≡ [] → list_of (parts_of (built_by s k f i j ys own)) ≡ ys
built_parts s k f i j ys [] e = list_row (all_given (taking s k f ys) ys) ∙ ap (λ ks. all_given ks ys) e
built_parts s k f i j ys (o ∷ os) e = list_row ys

-- ---- what constants may repeat

-- only values
abbrev IsFine : Option Tree → Type 0
IsFine None = Unit {0}
IsFine (Some r) = IsValue r

abbrev IsFineFor : Sort → Option Tree → Type 0
IsFineFor declaring.Constant o = IsFine o
IsFineFor d o = Unit {0}

fine_in : (xs : Parts) (f : Frame) → IsFine f.source → IsFine (in_constants xs f).source
fine_in [] f e = tt
fine_in (x ∷ xs) f e = e

fine_in_group : (d : Sort) (xs : Parts) (f : Frame) → IsFineFor d f.source → IsFineFor d (entering (kind.Group d) xs f).source
fine_in_group declaring.Constant xs f e = fine_in xs f e
fine_in_group declaring.Variable xs f e = tt
fine_in_group declaring.Type xs f e = tt

sort_source : (o : Option ℕ) (x : Stands) (f : Frame) → (declares_sort o x f).source ≡ f.source
sort_source (Some k) sort.Nothing f = refl
sort_source (Some k) x f = refl
sort_source None x f = refl

names_source : (xs : Parts) (f : Frame) → (declares_all xs f).source ≡ f.source
names_source [] f = refl
names_source (None ∷ xs) f = names_source xs f
names_source (Some x ∷ xs) f = names_source xs (declares_name (Some x) f) ∙ sort_source (is_new (form_of x)) (sort_of x) f

right_source : (o : Option ℕ) (t : Option TypeTree) (f : Frame) → (with_own_right o t f).source ≡ f.source
right_source (Some n) t f = refl
right_source None t f = refl

type_source : (o : Option ℕ) (f : Frame) → (with_type o f).source ≡ f.source
type_source (Some n) f = refl
type_source None f = refl

type_around : (o : Option ℕ) (f : Frame) → (with_type o f).around ≡ f.around
type_around (Some n) f = refl
type_around None f = refl

behind_plain : (k : Kind) → is_naming (behind_names k value) ≡ false
behind_plain kind.Values = refl
behind_plain k = refl

module _ (w : Form → Bool) (X : Type 0) (A : Frame → X) where
  -- behind a tree with no such form this is as it was
  abbrev pub StaysBehind : Frame → Reading → Type 0
  StaysBehind f (read x fs g) = Without w x → A g ≡ A f

  abbrev pub StayBehind : Frame → Parts → Readings → Type 0
  StayBehind f xs (all_read ys fs g) = AllWithout w ys → AllWithout w xs × (A g ≡ A f)

  abbrev pub EachStaysBehind : Trees → Type 0
  EachStaysBehind none = Unit {0}
  EachStaysBehind (more t ts) = ((f : Frame) (h : Hint) → StaysBehind f (reading f h t)) × EachStaysBehind ts
  EachStaysBehind (skip ts) = EachStaysBehind ts

module _ (w : Form → Bool) (X : Type 0) (A : Frame → X)
    (holds : (k : Kind) → w (form.Held k) ≡ false)
    (quiet : (f g : Frame) → g.locals ≡ f.locals → g.around.rights ≡ f.around.rights → g.types ≡ f.types → A g ≡ A f)
    (named : (r : Form) (k : ℕ) (x : Stands) (f : Frame) → is_new r ≡ Some k → w r ≡ false → A (with_local k x f) ≡ A f)
    (righted : w form.TypeNames ≡ false → (o : Option ℕ) (t : Option TypeTree) (f : Frame) → A (with_own_right o t f) ≡ A f) where
  -- ---- names that are declared

  sort_same : (r : Form) → w r ≡ false → (o : Option ℕ) → is_new r ≡ o → (x : Stands) (f : Frame) → A (declares_sort o x f) ≡ A f
  sort_same r e (Some k) d sort.Nothing f = refl
  sort_same r e (Some k) d x f = named r k x f d e
  sort_same r e None d x f = refl

  pub names_same : (xs : Parts) (f : Frame) → AllWithout w xs → A (declares_all xs f) ≡ A f
  names_same [] f e = refl
  names_same (None ∷ xs) f e = names_same xs f e
  names_same (Some (typed r i j l ps) ∷ xs) f e = names_same xs (declares_sort (is_new r) l.sort f) e.1 ∙ sort_same r e.0.0 (is_new r) refl l.sort f

  -- ---- in front of parts and behind nodes

  constants_same : (xs : Parts) (f : Frame) → A (in_constants xs f) ≡ A f
  constants_same [] f = quiet f (in_constants [] f) refl refl refl
  constants_same (x ∷ xs) f = quiet f (in_constants (x ∷ xs) f) refl refl refl

  switch_same : (xs : Parts) (f : Frame) → A (in_switch xs f) ≡ A f
  switch_same [] f = refl
  switch_same (x ∷ []) f = quiet f (in_switch (x ∷ []) f) refl refl refl
  switch_same (x ∷ y ∷ ys) f = refl

  entering_same : (k : Kind) → ShowsAll k → (xs : Parts) (f : Frame) → A (entering k xs f) ≡ A f
  entering_same (kind.Declaration declaring.Constant) q xs f = absurd q
  entering_same (kind.Group declaring.Constant) q xs f = constants_same xs f
  entering_same kind.Switch q xs f = switch_same xs f
  entering_same kind.FunctionDeclaration q xs f = absurd q
  entering_same k q xs f = refl

  leaving_same : (k : Kind) → ShowsAll k → (i : ℕ) (ps : Trees) (x : Part) (f : Frame) → AllWithout w (list_of (parts_of x)) → A (leaving k i ps x f) ≡ A f
  leaving_same (kind.Specification d) q i ps x f e = absurd q
  leaving_same kind.Define q i ps x f e = names_same (list_of (parts_of x)) f e
  leaving_same kind.DefiningRange q i ps x f e = names_same (list_of (parts_of x)) f e
  leaving_same k q i ps x f e = refl

  beginning_same : (k : Kind) → ShowsAll k → (i : ℕ) (f : Frame) → beginning k i f ≡ f
  beginning_same (kind.Specification d) q i f = absurd q
  beginning_same k q i f = refl

  -- ---- readings

  abbrev Stays : Frame → Reading → Type 0
  Stays f r = StaysBehind w X A f r

  abbrev AllStay : Frame → Parts → Readings → Type 0
  AllStay f xs r = StayBehind w X A f xs r

  abbrev EachStays : Trees → Type 0
  EachStays ts = EachStaysBehind w X A ts

  either_stays : (b : Bool) (f : Frame) (r t : Reading) → Stays f r → Stays f t → Stays f (cond b r t)
  either_stays true f r t c d = c
  either_stays false f r t c d = d

  closed_stays : (k : Kind) → ShowsAll k → (f : Frame) (i j : ℕ) (ps : Trees) (r : Readings) → AllStay f [] r → Stays f (closed f k i j ps r)
  closed_stays k q f i j ps (all_read xs fs g) c =
      λ e.
      let ys = layout g k i xs in
      let own = own_faults g k (form_by k xs) i j ys in
      let x = built_by g k (form_by k xs) i j ys own in
      leaving_same k q i ps x (back f g) (parts_without w x e) ∙ quiet g (back f g) refl refl refl
      ∙ (c (layout_without w holds g k q i xs (built_without w g k (form_by k xs) i j ys own e))).1

  part_stays : (r : Readings) (u v : Frame) (xs : Parts) (x : Part) → (Without w x → A v ≡ A u) → AllStay v (xs ++ Some x ∷ []) r → AllStay u xs r
  part_stays (all_read ys fs g) u v xs x d c = λ e. (front_without w xs (Some x ∷ []) (c e).0, (c e).1 ∙ d (last_without w xs x (c e).0))

  after_stays : (u : Frame) (r : Reading) (xs : Parts) (n : Part → Found → Frame → Readings) → Stays u r → ((x : Part) (gs : Found) (v : Frame) → AllStay v (xs ++ Some x ∷ []) (n x gs v)) → AllStay u xs (after r n)
  after_stays u (read x gs v) xs n c k = part_stays (n x gs v) u v xs x c (k x gs v)

  moved_stay : (r : Readings) (u v : Frame) (xs : Parts) → A v ≡ A u → AllStay v xs r → AllStay u xs r
  moved_stay (all_read ys fs g) u v xs d c = λ e. ((c e).0, (c e).1 ∙ d)

  fewer_stay : (r : Readings) (u : Frame) (xs ys : Parts) → AllStay u (xs ++ ys) r → AllStay u xs r
  fewer_stay (all_read zs fs g) u xs ys c = λ e. (front_without w xs ys (c e).0, (c e).1)

  pub readings_stay : (u : Frame) (k : Kind) → ShowsAll k → (h : Hint) (all : Trees) (xs : Parts) (fs : Found) (ts : Trees) → EachStays ts → AllStay u xs (readings u k h all xs fs ts)
  readings_stay u k q h all xs fs none v = λ e. (e, refl)
  readings_stay u k q h all xs fs (skip ts) v =
      let a = entering k xs u in
      let o = left_out a k in
      let r = readings a k h all (xs ++ o ∷ []) (fs ++ left_out_faults a k) ts in
      moved_stay r u a xs (entering_same k q xs u) (fewer_stay r a xs (o ∷ []) (readings_stay a k q h all (xs ++ o ∷ []) (fs ++ left_out_faults a k) ts v))
  readings_stay u k q h all xs fs (more t ts) v =
      let a = entering k xs u in
      let r = reading a (told k h all xs (kind_of t)) t in
      let n = λ (x : Part) (gs : Found) (b : Frame). readings b k h all (xs ++ Some x ∷ []) (fs ++ gs) ts in
      moved_stay (after r n) u a xs (entering_same k q xs u)
      (after_stays a r xs n (v.0 a (told k h all xs (kind_of t))) (λ x gs b. readings_stay b k q h all (xs ++ Some x ∷ []) (fs ++ gs) ts v.1))

  -- ---- declarations of variables

  variables_closed : (f : Frame) (i j : ℕ) (ps : Trees) (r : Readings) → frame_in r ≡ f → Stays f (closed f (kind.Specification declaring.Variable) i j ps r)
  variables_closed f i j ps (all_read xs fs g) e =
      λ d.
      let ys = layout g (kind.Specification declaring.Variable) i xs in
      let r = form_by (kind.Specification declaring.Variable) xs in
      let x = built_by g (kind.Specification declaring.Variable) r i j ys (own_faults g (kind.Specification declaring.Variable) r i j ys) in
      names_same (list_of (parts_of x)) (back f g) (parts_without w x d) ∙ quiet g (back f g) refl refl refl ∙ ap A e

  pub variables_stay : (t : Tree) → IsSpecification declaring.Variable t → (f : Frame) (h : Hint) → Stays f (reading f h t)
  variables_stay (node (kind.Specification declaring.Variable) i j ps) v f h =
      variables_closed f i j ps (readings f (kind.Specification declaring.Variable) h ps [] [] ps) (frames_still f declaring.Variable h ps [] [] ps v)
  variables_stay t v f h = absurd v

  pub each_variable : (ts : Trees) → AreSpecifications declaring.Variable ts → EachStays ts
  each_variable none v = tt
  each_variable (more t ts) v = (variables_stay t v.0, each_variable ts v.1)
  each_variable (skip ts) v = absurd v

  -- a declaration of them, over what it declares
  variables_declared : (f : Frame) (h : Hint) (i j : ℕ) (t : Tree) → ((f : Frame) (h : Hint) → Stays f (reading f h t)) → Stays f (reading f h (node (kind.Declaration declaring.Variable) i j (more t none)))
  variables_declared f h i j t v =
      closed_stays (kind.Declaration declaring.Variable) tt f i j (more t none) (readings f (kind.Declaration declaring.Variable) h (more t none) [] [] (more t none))
      (readings_stay f (kind.Declaration declaring.Variable) tt h (more t none) [] [] (more t none) (v, tt))

  group_of_variables : (f : Frame) (h : Hint) (i j : ℕ) (ps : Trees) → AreSpecifications declaring.Variable ps → Stays f (reading f h (node (kind.Group declaring.Variable) i j ps))
  group_of_variables f h i j ps v =
      closed_stays (kind.Group declaring.Variable) tt f i j ps (readings f (kind.Group declaring.Variable) h ps [] [] ps)
      (readings_stay f (kind.Group declaring.Variable) tt h ps [] [] ps (each_variable ps v))

  -- ---- names of constants and of types, which stand for themselves in a declaration

  both_without : (xs ys : Parts) → AllWithout w xs → AllWithout w ys → AllWithout w (xs ++ ys)
  both_without [] ys e d = d
  both_without (None ∷ xs) ys e d = both_without xs ys e d
  both_without (Some x ∷ xs) ys e d = (e.0, both_without xs ys e.1 d)

  front_names : (xs ys : Parts) → AllWithout w (all_names (xs ++ ys)) → AllWithout w (all_names xs)
  front_names [] ys e = tt
  front_names (x ∷ xs) ys e =
      both_without (specified_names x) (all_names xs) (front_without w (specified_names x) (all_names (xs ++ ys)) e) (front_names xs ys (rest_without w (specified_names x) (all_names (xs ++ ys)) e))

  last_names : (xs : Parts) (x : Part) → AllWithout w (all_names (xs ++ Some x ∷ [])) → AllWithout w (specified_names (Some x))
  last_names [] x e = front_without w (specified_names (Some x)) [] e
  last_names (y ∷ xs) x e = last_names xs x (rest_without w (specified_names y) (all_names (xs ++ Some x ∷ [])) e)

  -- a sort of declarations whose specifications aren't shown, as long as no type is declared
  abbrev NamesAlone : Sort → Type 0
  NamesAlone declaring.Variable = ⊥
  NamesAlone declaring.Constant = Unit {0}
  NamesAlone declaring.Type = w form.TypeNames ≡ false

  -- what constants repeat is fine again, and this is as it was where none of the names has such a form
  abbrev NamesStay : Sort → Frame → Reading → Type 0
  NamesStay d f (read x fs g) = IsFineFor d g.source × (AllWithout w (specified_names (Some x)) → A g ≡ A f) × (is_group (form_of x) ≡ false)

  abbrev AllNamesStay : Frame → Parts → Readings → Type 0
  AllNamesStay f xs (all_read ys fs g) = AllWithout w (all_names ys) → AllWithout w (all_names xs) × (A g ≡ A f)

  -- ---- a specification of constants

  all_silent_same : (rest zs : Parts) → SameForms rest zs → AllSilent rest → (f : Frame) → A (declares_all zs f) ≡ A f
  all_silent_same [] [] s e f = refl
  all_silent_same (None ∷ xs) (None ∷ zs) s e f = all_silent_same xs zs s e f
  all_silent_same (Some x ∷ xs) (Some z ∷ zs) s e f =
      all_silent_same xs zs s.1 e.1 (declares_name (Some z) f) ∙ ap (λ o. A (declares_sort o (sort_of z) f)) (ap is_new s.0 ∙ e.0)
  all_silent_same xs zs s e f = absurd s

  first_same : (ns rest zs : Parts) → SameForms (ns ++ rest) zs → AllSilent rest → AllWithout w (take (length ns) zs) → (f : Frame) → A (declares_all zs f) ≡ A f
  first_same [] rest zs s e d f = all_silent_same rest zs s e f
  first_same (None ∷ ns) rest (None ∷ zs) s e d f = first_same ns rest zs s e d f
  first_same (Some n ∷ ns) rest (Some (typed r i j l ps) ∷ zs) s e d f =
      first_same ns rest zs s.1 e d.1 (declares_sort (is_new r) l.sort f) ∙ sort_same r d.0.0 (is_new r) refl l.sort f
  first_same (None ∷ ns) rest [] s e d f = absurd s
  first_same (None ∷ ns) rest (Some z ∷ zs) s e d f = absurd s
  first_same (Some n ∷ ns) rest [] s e d f = absurd s
  first_same (Some n ∷ ns) rest (None ∷ zs) s e d f = absurd s

  constants_closed : (f : Frame) (i j : ℕ) (ps : Trees) (n o : Option Part) (fs : Found) → AllSilent (first_cut (typed_or_not o)) → IsFine (part_source ps f.source)
      → NamesStay declaring.Constant f (closed f (kind.Specification declaring.Constant) i j ps (all_read (n ∷ o ∷ []) fs f))
  constants_closed f i j ps n o fs e d =
      let ys = held n ++ first_cut (typed_or_not o) in
      let r = form.Specified (length (held n)) in
      let own = own_faults f (kind.Specification declaring.Constant) r i j ys in
      let x = built_by f (kind.Specification declaring.Constant) r i j ys own in
      let b : Frame = record (back f f) { source = part_source ps f.source } in (
        subst IsFine (sym (names_source (list_of (parts_of x)) b)) d,
        (λ a. first_same (held n) (first_cut (typed_or_not o)) (list_of (parts_of x)) (built_forms f (kind.Specification declaring.Constant) r i j ys own) e
            (subst (λ q. AllWithout w (take (names_count q) (list_of (parts_of x)))) (built_form f (kind.Specification declaring.Constant) r i j ys own) a) b ∙ quiet f b refl refl refl),
        ap is_group (built_form f (kind.Specification declaring.Constant) r i j ys own),
      )

  repeated_silent : (f : Frame) (o : Option Tree) → IsFine o → AllSilent (first_cut (typed_or_not (repeated f o)))
  repeated_silent f None e = tt
  repeated_silent f (Some r) e = values_behind (holding f value r) (value_silent f value refl r e)

  constants_stay : (t : Tree) → IsSpecification declaring.Constant t → (f : Frame) → IsFine f.source → (h : Hint) → NamesStay declaring.Constant f (reading f h t)
  constants_stay (node (kind.Specification declaring.Constant) i j (more ns (more r none))) v f e h =
      let k = kind.Specification declaring.Constant in
      let ps = more ns (more r none) in
      let g = told k h ps [] (kind_of ns) in
      let n = holding f g ns in
      let b = told k h ps (Some n ∷ []) (kind_of r) in
      subst (λ q. NamesStay declaring.Constant f (closed f k i j ps (after q (λ x gs u. readings u k h ps (Some x ∷ []) gs (more r none))))) (sym (still f g ns v.0))
      (subst (λ q. NamesStay declaring.Constant f (closed f k i j ps (after q (λ y hs u. all_read (Some n ∷ Some y ∷ []) (held_faults f g ns ++ hs) u)))) (sym (still f b r (value_quiet r v.1)))
      (constants_closed f i j ps (Some n) (Some (holding f b r)) (held_faults f g ns ++ held_faults f b r) (values_behind (holding f b r) (value_silent f b (behind_plain (kind_of r)) r v.1)) v.1))
  constants_stay (node (kind.Specification declaring.Constant) i j (more ns (skip none))) v f e h =
      let k = kind.Specification declaring.Constant in
      let ps = more ns (skip none) in
      let g = told k h ps [] (kind_of ns) in
      subst (λ q. NamesStay declaring.Constant f (closed f k i j ps (after q (λ x gs u. readings u k h ps (Some x ∷ []) gs (skip none))))) (sym (still f g ns v))
      (constants_closed f i j ps (Some (holding f g ns)) (repeated f f.source) (held_faults f g ns ++ left_out_faults f k) (repeated_silent f f.source e) e)
  constants_stay t v f e h = absurd v

  -- ---- a specification of a type

  type_same : (s : Scope) (o : Option Object) → w (declared_form s o) ≡ false → (f : Frame) → A (with_type (local_named o) f) ≡ A f
  type_same s (Some (object.Local d n)) e f = named (form.Declared n) n (sort.IsType (declared (f.types n))) f refl e
  type_same s o e f = refl

  types_closed : (f : Frame) (i j : ℕ) (ps : Trees) (r : Readings) → frame_in r ≡ with_type (local_named (f.around.objects i)) f → w form.TypeNames ≡ false
      → NamesStay declaring.Type f (closed f (kind.Specification declaring.Type) i j ps r)
  types_closed f i j ps (all_read xs fs g) e q =
      let k = kind.Specification declaring.Type in
      let ys = Some (type_name g i) ∷ xs in
      let own = own_faults g k (form.Held k) i j ys in
      let x = built_by g k (form.Held k) i j ys own in
      let o = f.around.objects i in (
        tt,
        (λ a.
            let first = subst (λ z. AllWithout w (take (names_count z) (list_of (parts_of x)))) (built_form g k (form.Held k) i j ys own) a in
            let name = subst (λ zs. AllWithout w (take 1 zs)) (built_parts g k (form.Held k) i j ys own refl) first in
            let form = subst (λ (s : Scope). w (declared_form s (s.objects i)) ≡ false) (ap (λ (u : Frame). u.around) e ∙ type_around (local_named o) f) name.0.0 in
            righted q (type_number (back f g) i) (right_side (list_of (parts_of x))) (back f g) ∙ quiet g (back f g) refl refl refl ∙ ap A e ∙ type_same f.around o form f),
        ap is_group (built_form g k (form.Held k) i j ys own),
      )

  types_stay : (t : Tree) → IsSpecification declaring.Type t → w form.TypeNames ≡ false → (f : Frame) (h : Hint) → NamesStay declaring.Type f (reading f h t)
  types_stay (node (kind.Specification declaring.Type) i j ps) v q f h =
      let b = with_type (local_named (f.around.objects i)) f in
      types_closed f i j ps (readings b (kind.Specification declaring.Type) h ps [] [] ps) (frames_still b declaring.Type h ps [] [] ps v) q
  types_stay t v q f h = absurd v

  -- ---- declarations of constants and of types

  names_stay : (d : Sort) → NamesAlone d → (t : Tree) → IsSpecification d t → (f : Frame) → IsFineFor d f.source → (h : Hint) → NamesStay d f (reading f h t)
  names_stay declaring.Variable q t v f e h = absurd q
  names_stay declaring.Constant q t v f e h = constants_stay t v f e h
  names_stay declaring.Type q t v f e h = types_stay t v q f h

  part_names : (r : Readings) (u v : Frame) (xs : Parts) (x : Part) → (AllWithout w (specified_names (Some x)) → A v ≡ A u) → AllNamesStay v (xs ++ Some x ∷ []) r → AllNamesStay u xs r
  part_names (all_read ys fs g) u v xs x d c = λ e. (front_names xs (Some x ∷ []) (c e).0, (c e).1 ∙ d (last_names xs x (c e).0))

  after_names : (d : Sort) (u : Frame) (r : Reading) (xs : Parts) (n : Part → Found → Frame → Readings) → NamesStay d u r
      → ((x : Part) (gs : Found) (v : Frame) → IsFineFor d v.source → AllNamesStay v (xs ++ Some x ∷ []) (n x gs v)) → AllNamesStay u xs (after r n)
  after_names d u (read x gs v) xs n c k = part_names (n x gs v) u v xs x c.1 (k x gs v c.0)

  moved_names : (r : Readings) (u v : Frame) (xs : Parts) → A v ≡ A u → AllNamesStay v xs r → AllNamesStay u xs r
  moved_names (all_read ys fs g) u v xs d c = λ e. ((c e).0, (c e).1 ∙ d)

  names_readings : (d : Sort) → NamesAlone d → (u : Frame) (h : Hint) (all : Trees) (xs : Parts) (fs : Found) (ts : Trees) → IsFineFor d u.source → AreSpecifications d ts
      → AllNamesStay u xs (readings u (kind.Group d) h all xs fs ts)
  names_readings d q u h all xs fs none e v = λ a. (a, refl)
  names_readings d q u h all xs fs (skip ts) e v = absurd v
  names_readings d q u h all xs fs (more t ts) e v =
      let k = kind.Group d in
      let a = entering k xs u in
      let g = told k h all xs (kind_of t) in
      let n = λ (x : Part) (gs : Found) (b : Frame). readings b k h all (xs ++ Some x ∷ []) (fs ++ gs) ts in
      let fine = fine_in_group d xs u e in
      moved_names (after (reading a g t) n) u a xs (entering_same k tt xs u)
      (after_names d a (reading a g t) xs n (names_stay d q t v.0 a fine g) (λ x gs b z. names_readings d q b h all (xs ++ Some x ∷ []) (fs ++ gs) ts z v.1))

  abbrev GroupStays : Frame → Reading → Type 0
  GroupStays f (read x fs g) = (AllWithout w (all_names (list_of (parts_of x))) → A g ≡ A f) × (is_group (form_of x) ≡ true)

  group_closed : (d : Sort) (f : Frame) (i j : ℕ) (ps : Trees) (r : Readings) → AllNamesStay f [] r → GroupStays f (closed f (kind.Group d) i j ps r)
  group_closed d f i j ps (all_read xs fs g) c =
      let k = kind.Group d in
      let own = own_faults g k (form.Held k) i j xs in
      ((λ e. quiet g (back f g) refl refl refl ∙ (c (subst (λ ys. AllWithout w (all_names ys)) (built_parts g k (form.Held k) i j xs own refl) e)).1), ap is_group (built_form g k (form.Held k) i j xs own))

  abbrev DeclaredStay : Frame → Readings → Type 0
  DeclaredStay f (all_read xs fs g) = AllWithout w (all_names (specifications xs)) → A g ≡ A f

  abbrev only_part : Part → Found → Frame → Readings
  only_part x gs u = all_read (Some x ∷ []) gs u

  one_declared : (d : Sort) (f u : Frame) (r : Reading) → A u ≡ A f → NamesStay d u r → DeclaredStay f (after r only_part)
  one_declared d f u (read x fs g) m c = λ e. c.1 (front_without w (specified_names (Some x)) [] (subst (λ b. AllWithout w (all_names (cond b (list_of (parts_of x)) (Some x ∷ [])))) c.2 e)) ∙ m

  group_declared : (f u : Frame) (r : Reading) → A u ≡ A f → GroupStays u r → DeclaredStay f (after r only_part)
  group_declared f u (read x fs g) m c = λ e. c.0 (subst (λ b. AllWithout w (all_names (cond b (list_of (parts_of x)) (Some x ∷ [])))) c.1 e) ∙ m

  constants_declared : (f : Frame) (i j : ℕ) (ps : Trees) (r : Readings) → DeclaredStay f r → Stays f (closed f (kind.Declaration declaring.Constant) i j ps r)
  constants_declared f i j ps (all_read xs fs g) c =
      let k = kind.Declaration declaring.Constant in
      let ys = all_names (specifications xs) in
      λ e. quiet g (back f g) refl refl refl ∙ c (built_without w g k form.Constants i j ys (own_faults g k form.Constants i j ys) e)

  types_declared : (f : Frame) (i j : ℕ) (ps : Trees) (r : Readings) → (w form.TypeNames ≡ false → DeclaredStay f r) → Stays f (closed f (kind.Declaration declaring.Type) i j ps r)
  types_declared f i j ps (all_read xs fs g) c =
      let k = kind.Declaration declaring.Type in
      let ys = all_names (specifications xs) in
      let own = own_faults g k form.TypeNames i j ys in
      λ e. quiet g (back f g) refl refl refl ∙ c (form_without w g k form.TypeNames i j ys own e) (built_without w g k form.TypeNames i j ys own e)

  -- what is declared, one specification or a group
  specification_declared : (d : Sort) → NamesAlone d → (f : Frame) (h : Hint) (t : Tree) → IsSpecification d t → (u : Frame) → A u ≡ A f → IsFineFor d u.source → DeclaredStay f (after (reading u h t) only_part)
  specification_declared d q f h t v u m e = one_declared d f u (reading u h t) m (names_stay d q t v u e h)

  group_is_declared : (d : Sort) → NamesAlone d → (f : Frame) (h : Hint) (i j : ℕ) (ps : Trees) → AreSpecifications d ps → (u : Frame) → A u ≡ A f → IsFineFor d u.source
      → DeclaredStay f (after (reading u h (node (kind.Group d) i j ps)) only_part)
  group_is_declared d q f h i j ps v u m e =
      group_declared f u (reading u h (node (kind.Group d) i j ps)) m (group_closed d u i j ps (readings u (kind.Group d) h ps [] [] ps) (names_readings d q u h ps [] [] ps e v))

  declaration_stays : (d : Sort) (ps : Trees) → IsDeclared d ps → (f : Frame) (h : Hint) (i j : ℕ) → Stays f (reading f h (node (kind.Declaration d) i j ps))
  declaration_stays declaring.Variable (more (node (kind.Group declaring.Variable) a b ps) none) v f h i j =
      variables_declared f h i j (node (kind.Group declaring.Variable) a b ps) (λ g l. group_of_variables g l a b ps v)
  declaration_stays declaring.Variable (more t none) v f h i j = variables_declared f h i j t (variables_stay t v)
  declaration_stays declaring.Constant (more (node (kind.Group declaring.Constant) a b ps) none) v f h i j =
      let t = node (kind.Group declaring.Constant) a b ps in
      let u = in_constants [] f in
      constants_declared f i j (more t none) (after (reading u value t) only_part) (group_is_declared declaring.Constant tt f value a b ps v u (constants_same [] f) tt)
  declaration_stays declaring.Constant (more t none) v f h i j =
      let u = in_constants [] f in
      constants_declared f i j (more t none) (after (reading u value t) only_part) (specification_declared declaring.Constant tt f value t v u (constants_same [] f) tt)
  declaration_stays declaring.Type (more (node (kind.Group declaring.Type) a b ps) none) v f h i j =
      let t = node (kind.Group declaring.Type) a b ps in
      types_declared f i j (more t none) (after (reading f value t) only_part) (λ q. group_is_declared declaring.Type q f value a b ps v f refl tt)
  declaration_stays declaring.Type (more t none) v f h i j =
      types_declared f i j (more t none) (after (reading f value t) only_part) (λ q. specification_declared declaring.Type q f value t v f refl tt)
  declaration_stays d ps v f h i j = absurd v

  -- ---- all trees

  mutual
    pub reading_stays : (x : Tree) → DeclaresInOrder x → (f : Frame) (h : Hint) → Stays f (reading f h x)
    reading_stays (node (kind.Declaration d) i j ps) v f h = declaration_stays d ps v f h i j
    reading_stays (node (kind.Group d) i j ps) v f h = absurd v
    reading_stays (node (kind.Specification d) i j ps) v f h = absurd v
    reading_stays (node kind.FunctionDeclaration i j ps) v f h = absurd v
    reading_stays (node kind.NewNames i j ps) v f h = λ e. refl
    reading_stays (node k i j ps) v f h =
        either_stays (is_statement k) f (closed f k i j ps (readings (beginning k i f) k h ps [] [] ps)) (read (holding f h (node k i j ps)) (held_faults f h (node k i j ps)) f)
        (closed_stays k tt f i j ps (readings (beginning k i f) k h ps [] [] ps) (readings_stay (beginning k i f) k tt h ps [] [] ps (each_stays ps v))) (λ e. refl)

    pub each_stays : (ts : Trees) → AllDeclareInOrder ts → EachStays ts
    each_stays none v = tt
    each_stays (more t ts) v = (reading_stays t v.0, each_stays ts v.1)
    each_stays (skip ts) v = each_stays ts v

  stays_behind : (f : Frame) (r : Readings) → AllStay f [] r → AllWithout w (parts_in r) → A (frame_in r) ≡ A f
  stays_behind f (all_read xs fs g) c e = (c e).1

  pub behind_stays : (f : Frame) (ts : Trees) → AllDeclareInOrder ts → AllWithout w (parts_in (run f ts)) → A (behind f ts) ≡ A f
  behind_stays f ts v e = stays_behind f (run f ts) (readings_stay f kind.Block tt value none [] [] ts (each_stays ts v)) e
