-- A local that statements declare stands behind them for what it was declared as.
use Rattle.std.proofs.Common.{◌≡◌, ◌∙◌, ◌⊎◌, inl, inr, ℕ, Bool, true, false, List, [], ◌∷◌, ◌++◌, Option, Some, None, refl, sym, ap, subst, cond}
use Rattle.std.specs.Prelude.{◌-◌}
use Rattle.go_grammar.specs.declared.kind.Kind.{Kind}
use Rattle.go_grammar.specs.declared.kind.Kind.TheVariants as kind
use Rattle.go_grammar.specs.declared.kind.Sort.TheVariants as declaring
use Rattle.go_grammar.specs.Trees.{Tree, node, Trees, none, more, skip, kind_of}
use Rattle.go_tree.specs.declared.object.Object.{Object}
use Rattle.go_tree.specs.declared.object.Object.TheVariants as object
use Rattle.go_types.specs.Relations.{Rights}
use Rattle.go_types.specs.Trees.{TypeTree}
use Rattle.go_typed.specs.declared.form.Form.{Form}
use Rattle.go_typed.specs.declared.form.Form.TheVariants as form
use Rattle.go_typed.specs.Trees.{typed, list_of, parts_of, form_of, sort_of}
use Rattle.go_typed.specs.Trees as sort
use Rattle.go_exprs_rules.specs.Names.{object_form, declared_form, form_or_type, name_sort, name_form}
use Rattle.go_exprs_rules.specs.Scopes.{Hint, Scope, value, free, member}
use Rattle.go_exprs_rules.specs.Scopes as hints
use Rattle.go_exprs_rules.specs.Settling.{Part}
use Rattle.go_exprs_rules.specs.Sorts.{Stands}
use Rattle.go_exprs_rules.specs.Tables.{Parts, callee_form, key_form, selector_form, bracketed_form, on_first}
use Rattle.go_exprs_rules.specs.Tables as tables
use Rattle.go_exprs_rules.specs.Typing.{typing, typings}
use Rattle.go_stmts_defs.specs.Frames.{Frame, scope_of, known, local_stands}
use Rattle.go_stmts_defs.specs.Laying.{told, layout, loop_form, first_loop_form, form_by, first_count, is_group, specifications}
use Rattle.go_stmts_defs.specs.Reading.{Found, holding, holdings, held_faults, is_list, is_declared_name, list_node, name_node, is_new, declares_sort, declares_name, declares_all}
use Rattle.go_stmts_defs.specs.Reading.{entering, beginning, back, Reading, read, Readings, all_read, left_out, left_out_faults, is_statement, closed, after, reading, readings}
use Rattle.go_stmts_defs.specs.Rules.{own_faults, built_by}
use Rattle.go_stmts_elsewhere.specs.Declaring.{declares, Without, AllWithout, Lastly, NameVariable, DeclaresVariable, IsSpecification, AreSpecifications, IsDeclared, DeclaresInOrder, AllDeclareInOrder}
use Rattle.go_stmts_elsewhere.specs.Frames.{has_room}
use Rattle.go_stmts_elsewhere.specs.Gaps.{run, behind, parts_in, frame_in}
use Rattle.go_stmts_elsewhere.specs.Replaced.{tree_in}
use Rattle.go_stmts_elsewhere.proofs.Behind.{other_named, right_aside, no_form, none_passes, no_forms, right_room}
use Rattle.go_stmts_elsewhere.proofs.Leaving.{frames_still, built_form, built_parts, StaysBehind, StayBehind, names_same, readings_stay, reading_stays, each_stays, variables_stay}
use Rattle.go_stmts_elsewhere.proofs.Placing.{placed_here, placed_room}
use Rattle.go_stmts_elsewhere.proofs.Silent.{typed_form}
use Rattle.go_stmts_elsewhere.proofs.Without.{front_without, last_without}

abbrev frame_of : Reading → Frame
frame_of (read x fs f) = f

-- ---- what is no declaration

abbrev is_declaration : Form → Bool
is_declaration (form.Define m) = true
is_declaration form.Variables = true
is_declaration f = false

object_undeclared : (s : Scope) (o : Option Object) → is_declaration (object_form s o) ≡ false
object_undeclared s None = refl
object_undeclared s (Some object.Import) = refl
object_undeclared s (Some (object.Predeclared p)) = refl
object_undeclared s (Some (object.Package n)) = refl
object_undeclared s (Some (object.Local f n)) = refl

declared_undeclared : (s : Scope) (o : Option Object) → is_declaration (declared_form s o) ≡ false
declared_undeclared s None = refl
declared_undeclared s (Some object.Import) = refl
declared_undeclared s (Some (object.Predeclared p)) = refl
declared_undeclared s (Some (object.Package n)) = refl
declared_undeclared s (Some (object.Local f n)) = refl

either_undeclared : (x : Stands) (r : Form) → is_declaration r ≡ false → is_declaration (form_or_type x r) ≡ false
either_undeclared (sort.IsType t) r e = refl
either_undeclared x r e = e

name_undeclared : (s : Scope) (h : Hint) (i : ℕ) → is_declaration (name_form s h i) ≡ false
name_undeclared s hints.declares i = declared_undeclared s (s.objects i)
name_undeclared s free i = declared_undeclared s (s.objects i)
name_undeclared s h i = either_undeclared (name_sort s h i) (object_form s (s.objects i)) (object_undeclared s (s.objects i))

selector_undeclared : (r : Rights) (name : List ℕ) (ys : Parts) → is_declaration (selector_form r name ys) ≡ false
selector_undeclared r name [] = refl
selector_undeclared r name (None ∷ ys) = refl
selector_undeclared r name (Some x ∷ []) = refl
selector_undeclared r name (Some x ∷ y ∷ ys) = refl

bracketed_undeclared : (ys : Parts) → is_declaration (bracketed_form ys) ≡ false
bracketed_undeclared [] = refl
bracketed_undeclared (x ∷ []) = refl
bracketed_undeclared (x ∷ y ∷ []) = refl
bracketed_undeclared (x ∷ y ∷ z ∷ zs) = refl

callee_undeclared : (x : Stands) → is_declaration (callee_form x) ≡ false
callee_undeclared (sort.IsType t) = refl
callee_undeclared x = refl

call_undeclared : (ys : Parts) → is_declaration (on_first form.Call (λ f xs. callee_form (sort_of f)) ys) ≡ false
call_undeclared [] = refl
call_undeclared (None ∷ ys) = refl
call_undeclared (Some x ∷ ys) = callee_undeclared (sort_of x)

key_undeclared : (r : Rights) (h : Hint) (name : List ℕ) → is_declaration (key_form r h name) ≡ false
key_undeclared r (member t) name = refl
key_undeclared r h name = refl

form_undeclared : (s : Scope) (k : Kind) (h : Hint) (i j : ℕ) (ys : Parts) → is_declaration (tables.form_by s k h i j ys) ≡ false
form_undeclared s kind.Name h i j ys = name_undeclared s h i
form_undeclared s kind.Selector h i j ys = selector_undeclared s.rights (s.texts (j - 1)) ys
form_undeclared s kind.Bracketed h i j ys = bracketed_undeclared ys
form_undeclared s kind.Call h i j ys = call_undeclared ys
form_undeclared s kind.Keyed h i j ys = key_undeclared s.rights h (s.texts i)
form_undeclared s k h i j ys = refl

typed_undeclared : (s : Scope) (h : Hint) (k : Kind) (i j : ℕ) (ps : Trees) → is_declaration (form_of (typing s h (node k i j ps))) ≡ false
typed_undeclared s h k i j ps = ap is_declaration (typed_form s h k i j ps) ∙ form_undeclared s k h i j (tables.layout k (typings s k h ps [] ps))

third_undeclared : (b c : Bool) (x y z : Part) → is_declaration (form_of x) ≡ false → is_declaration (form_of y) ≡ false → is_declaration (form_of z) ≡ false → is_declaration (form_of (cond b x (cond c y z))) ≡ false
third_undeclared true c x y z e d k = e
third_undeclared false true x y z e d k = d
third_undeclared false false x y z e d k = k

-- a part without statements
held_undeclared : (f : Frame) (h : Hint) (t : Tree) → is_declaration (form_of (holding f h t)) ≡ false
held_undeclared f h (node k i j ps) =
    third_undeclared (is_list k) (is_declared_name k) (list_node f k i j (layout f k i (holdings f k h ps [] ps))) (name_node f i j) (typing (scope_of f) h (node k i j ps)) refl
    (declared_undeclared f.around (f.around.objects i)) (typed_undeclared (scope_of f) h k i j ps)

loop_undeclared : (x : Option Part) → is_declaration (loop_form x) ≡ false
loop_undeclared (Some (typed (form.Held kind.Range) i j l ps)) = refl
loop_undeclared (Some (typed (form.Held kind.AssigningRange) i j l ps)) = refl
loop_undeclared (Some (typed (form.Held kind.DefiningRange) i j l ps)) = refl
loop_undeclared x = refl

first_undeclared : (xs : Parts) → is_declaration (first_loop_form xs) ≡ false
first_undeclared [] = refl
first_undeclared (x ∷ xs) = loop_undeclared x

-- a kind of nodes that declare no variables themselves
abbrev IsOther : Kind → Type 0
IsOther kind.Define = ⊥
IsOther (kind.Declaration declaring.Variable) = ⊥
IsOther k = Unit {0}

other_undeclared : (k : Kind) → IsOther k → (xs : Parts) → is_declaration (form_by k xs) ≡ false
other_undeclared kind.Define q xs = absurd q
other_undeclared (kind.Declaration declaring.Variable) q xs = absurd q
other_undeclared (kind.Declaration declaring.Constant) q xs = refl
other_undeclared (kind.Declaration declaring.Type) q xs = refl
other_undeclared (kind.Specification declaring.Variable) q xs = refl
other_undeclared (kind.Specification declaring.Constant) q xs = refl
other_undeclared (kind.Specification declaring.Type) q xs = refl
other_undeclared kind.For q xs = first_undeclared xs
other_undeclared k q xs = refl

-- ---- lists

lastly_behind : (w : Form → Bool) (P : Part → Type 0) (xs : Parts) (x : Part) → Lastly w P (xs ++ Some x ∷ []) → P x ⊎ (Lastly w P xs × Without w x)
lastly_behind w P [] x (inl e) = inl e.0
lastly_behind w P [] x (inr e) = absurd e
lastly_behind w P (None ∷ xs) x e = lastly_behind w P xs x e
lastly_behind w P (Some y ∷ xs) x (inl e) = inr (inl (e.0, front_without w xs (Some x ∷ []) e.1), last_without w xs x e.1)
lastly_behind w P (Some y ∷ xs) x (inr e) = elim (lastly_behind w P xs x e) as (λ z. P x ⊎ (Lastly w P (Some y ∷ xs) × Without w x)) [ inl a ↦ inl a | inr a ↦ inr (inr a.0, a.1) ]

lastly_none : (w : Form → Bool) (P : Part → Type 0) (xs : Parts) → Lastly w P (xs ++ None ∷ []) → Lastly w P xs
lastly_none w P [] e = e
lastly_none w P (None ∷ xs) e = lastly_none w P xs e
lastly_none w P (Some y ∷ xs) (inl e) = inl (e.0, front_without w xs (None ∷ []) e.1)
lastly_none w P (Some y ∷ xs) (inr e) = inr (lastly_none w P xs e)

module _ (n : ℕ) (t : TypeTree) where
  abbrev Is : Frame → Type 0
  Is f = local_stands f.locals n ≡ sort.Value t

  abbrev Room : Frame → Type 0
  Room f = has_room f.locals n ≡ true

  -- ---- names

  names_leave : (xs : Parts) (f : Frame) → AllWithout (declares n) xs → local_stands (declares_all xs f).locals n ≡ local_stands f.locals n
  names_leave xs f e =
      names_same (declares n) Stands (λ (g : Frame). local_stands g.locals n) (λ k. refl) (λ g u d r z. ap (λ ls. local_stands ls n) d) (other_named n) (λ q o y g. right_aside n o y g) xs f e

  sort_room : (o : Option ℕ) (x : Stands) (f : Frame) → Room f → Room (declares_sort o x f)
  sort_room (Some k) sort.Nothing f r = r
  sort_room (Some k) x f r = placed_room k (Some x) f.locals n ∙ r
  sort_room None x f r = r

  named_here : (o : Option ℕ) (x : Stands) (f : Frame) → Room f → o ≡ Some n → x ≡ sort.Value t → Is (declares_sort o x f)
  named_here o x f r e d = subst (λ (p : Option ℕ). Is (declares_sort p x f)) (sym e) (subst (λ (s : Stands). Is (declares_sort (Some n) s f)) (sym d) (ap known (placed_here n (Some (sort.Value t)) f.locals r)))

  names_stand : (xs : Parts) (f : Frame) → Room f → NameVariable n t xs → Is (declares_all xs f)
  names_stand [] f r e = absurd e
  names_stand (None ∷ xs) f r e = names_stand xs f r e
  names_stand (Some x ∷ xs) f r (inl e) = names_leave xs (declares_name (Some x) f) e.1 ∙ named_here (is_new (form_of x)) (sort_of x) f r e.0.0 e.0.1
  names_stand (Some x ∷ xs) f r (inr e) = names_stand xs (declares_name (Some x) f) (sort_room (is_new (form_of x)) (sort_of x) f r) e

  -- ---- one part behind the other

  -- behind a part for which P holds the local is of the type
  abbrev StandsBehind : (Part → Type 0) → Frame → Reading → Type 0
  StandsBehind P f (read x fs g) = (P x → Is g) × (Without (declares n) x → local_stands g.locals n ≡ local_stands f.locals n) × Room g

  abbrev EachStandsBehind : (Part → Type 0) → Trees → Type 0
  EachStandsBehind P none = Unit {0}
  EachStandsBehind P (more x xs) = ((f : Frame) (h : Hint) → Room f → StandsBehind P f (reading f h x)) × EachStandsBehind P xs
  EachStandsBehind P (skip xs) = EachStandsBehind P xs

  abbrev AllStandBehind : (Part → Type 0) → Readings → Type 0
  AllStandBehind P (all_read ys fs g) = (Lastly (declares n) P ys → Is g) × Room g

  still_there : (P : Part → Type 0) (f g : Frame) (xs : Parts) (x : Part) → (P x → Is g) → (Without (declares n) x → local_stands g.locals n ≡ local_stands f.locals n) → (Lastly (declares n) P xs → Is f)
      → P x ⊎ (Lastly (declares n) P xs × Without (declares n) x) → Is g
  still_there P f g xs x a b c (inl e) = a e
  still_there P f g xs x a b c (inr e) = b e.1 ∙ c e.0

  after_stands : (P : Part → Type 0) (f : Frame) (r : Reading) (xs : Parts) (m : Part → Found → Frame → Readings) → StandsBehind P f r → (Lastly (declares n) P xs → Is f)
      → ((x : Part) (gs : Found) (g : Frame) → Room g → (Lastly (declares n) P (xs ++ Some x ∷ []) → Is g) → AllStandBehind P (m x gs g)) → AllStandBehind P (after r m)
  after_stands P f (read x gs g) xs m c d k = k x gs g c.2 (λ e. still_there P f g xs x c.0 c.1 d (lastly_behind (declares n) P xs x e))

  -- of a kind that gives its parts nothing and leaves none out
  readings_stand : (P : Part → Type 0) (k : Kind) → ((xs : Parts) (f : Frame) → entering k xs f ≡ f) → ((f : Frame) → left_out f k ≡ None) → (f : Frame) (h : Hint) (all : Trees) (xs : Parts) (fs : Found) (ts : Trees)
      → EachStandsBehind P ts → Room f → (Lastly (declares n) P xs → Is f) → AllStandBehind P (readings f k h all xs fs ts)
  readings_stand P k a b f h all xs fs none v r c = (c, r)
  readings_stand P k a b f h all xs fs (skip ts) v r c =
      let g = entering k xs f in
      let e = a xs f in
      readings_stand P k a b g h all (xs ++ left_out g k ∷ []) (fs ++ left_out_faults g k) ts v (subst Room (sym e) r)
      (λ z. subst Is (sym e) (c (lastly_none (declares n) P xs (subst (λ (o : Option Part). Lastly (declares n) P (xs ++ o ∷ [])) (b g) z))))
  readings_stand P k a b f h all xs fs (more x ts) v r c =
      let g = entering k xs f in
      let e = a xs f in
      let l = told k h all xs (kind_of x) in
      let m = λ (y : Part) (gs : Found) (u : Frame). readings u k h all (xs ++ Some y ∷ []) (fs ++ gs) ts in
      after_stands P g (reading g l x) xs m (v.0 g l (subst Room (sym e) r)) (λ z. subst Is (sym e) (c z)) (λ y gs u q d. readings_stand P k a b u h all (xs ++ Some y ∷ []) (fs ++ gs) ts v.1 q d)

  -- ---- what else is known behind a tree

  stands_with : (P : Part → Type 0) (f : Frame) (r : Reading) → (P (tree_in r) → Is (frame_of r)) → StaysBehind (declares n) Stands (λ (g : Frame). local_stands g.locals n) f r
      → StaysBehind no_form Bool (λ (g : Frame). has_room g.locals n) f r → Room f → StandsBehind P f r
  stands_with P f (read x fs g) a b c r = (a, b, c (none_passes x) ∙ r)

  local_left : (x : Tree) → DeclaresInOrder x → (f : Frame) (h : Hint) → StaysBehind (declares n) Stands (λ (g : Frame). local_stands g.locals n) f (reading f h x)
  local_left = reading_stays (declares n) Stands (λ (g : Frame). local_stands g.locals n) (λ k. refl) (λ g u d r z. ap (λ ls. local_stands ls n) d) (other_named n) (λ q o y g. right_aside n o y g)

  room_left : (x : Tree) → DeclaresInOrder x → (f : Frame) (h : Hint) → StaysBehind no_form Bool (λ (g : Frame). has_room g.locals n) f (reading f h x)
  room_left = reading_stays no_form Bool (λ (g : Frame). has_room g.locals n) (λ k. refl) (λ g u d r z. ap (λ ls. has_room ls n) d) (λ r k x g d q. placed_room k (Some x) g.locals n) (λ q o y g. right_room n o y g)

  -- ---- a statement that declares nothing itself

  undeclared : (x : Part) → is_declaration (form_of x) ≡ false → DeclaresVariable n t x → ⊥
  undeclared (typed (form.Define m) i j l ps) e d = cc
  undeclared (typed form.Variables i j l ps) e d = cc
  undeclared (typed r i j l ps) e d = d

  closed_undeclared : (k : Kind) → IsOther k → (f : Frame) (i j : ℕ) (ps : Trees) (r : Readings) → is_declaration (form_of (tree_in (closed f k i j ps r))) ≡ false
  closed_undeclared k q f i j ps (all_read xs fs g) =
      ap is_declaration (built_form g k (form_by k xs) i j (layout g k i xs) (own_faults g k (form_by k xs) i j (layout g k i xs))) ∙ other_undeclared k q xs

  either_undeclared_tree : (b : Bool) (r s : Reading) → is_declaration (form_of (tree_in r)) ≡ false → is_declaration (form_of (tree_in s)) ≡ false → is_declaration (form_of (tree_in (cond b r s))) ≡ false
  either_undeclared_tree true r s e d = e
  either_undeclared_tree false r s e d = d

  reading_undeclared : (k : Kind) → IsOther k → (f : Frame) (h : Hint) (i j : ℕ) (ps : Trees) → is_declaration (form_of (tree_in (reading f h (node k i j ps)))) ≡ false
  reading_undeclared k q f h i j ps =
      either_undeclared_tree (is_statement k) (closed f k i j ps (readings (beginning k i f) k h ps [] [] ps)) (read (holding f h (node k i j ps)) (held_faults f h (node k i j ps)) f)
      (closed_undeclared k q f i j ps (readings (beginning k i f) k h ps [] [] ps)) (held_undeclared f h (node k i j ps))

  -- ---- a definition

  as_define : (x : Part) (m : ℕ) → form_of x ≡ form.Define m → DeclaresVariable n t x → NameVariable n t (list_of (parts_of x))
  as_define (typed r i j l ps) m e d = subst (λ q. DeclaresVariable n t (typed q i j l ps)) e d

  room_behind : (f : Frame) (r : Readings) → StayBehind no_form Bool (λ (g : Frame). has_room g.locals n) f [] r → Room f → Room (frame_in r)
  room_behind f (all_read xs fs g) c r = (c (no_forms xs)).1 ∙ r

  define_closed : (f : Frame) (i j : ℕ) (ps : Trees) (r : Readings) → Room (frame_in r) → DeclaresVariable n t (tree_in (closed f kind.Define i j ps r)) → Is (frame_of (closed f kind.Define i j ps r))
  define_closed f i j ps (all_read xs fs g) c d =
      let ys = layout g kind.Define i xs in
      let r = form_by kind.Define xs in
      let own = own_faults g kind.Define r i j ys in
      let x = built_by g kind.Define r i j ys own in
      names_stand (list_of (parts_of x)) (back f g) c (as_define x (first_count xs) (built_form g kind.Define r i j ys own) d)

  define_stands : (f : Frame) (h : Hint) (i j : ℕ) (ps : Trees) → AllDeclareInOrder ps → Room f → DeclaresVariable n t (tree_in (reading f h (node kind.Define i j ps))) → Is (frame_of (reading f h (node kind.Define i j ps)))
  define_stands f h i j ps v r =
      define_closed f i j ps (readings f kind.Define h ps [] [] ps)
      (room_behind f (readings f kind.Define h ps [] [] ps)
      (readings_stay no_form Bool (λ (g : Frame). has_room g.locals n) (λ k. refl) (λ g u d q z. ap (λ ls. has_room ls n) d) (λ q k x g d z. placed_room k (Some x) g.locals n) (λ q o y g. right_room n o y g) f kind.Define tt h ps [] [] ps
      (each_stays no_form Bool (λ (g : Frame). has_room g.locals n) (λ k. refl) (λ g u d q z. ap (λ ls. has_room ls n) d) (λ q k x g d z. placed_room k (Some x) g.locals n) (λ q o y g. right_room n o y g) ps v)) r)

  -- ---- a declaration of variables

  abbrev Specified : Part → Type 0
  Specified x = NameVariable n t (list_of (parts_of x))

  specification_closed : (f : Frame) (i j : ℕ) (ps : Trees) (r : Readings) → frame_in r ≡ f → Room f → Specified (tree_in (closed f (kind.Specification declaring.Variable) i j ps r)) → Is (frame_of (closed f (kind.Specification declaring.Variable) i j ps r))
  specification_closed f i j ps (all_read xs fs g) e r d =
      let k = kind.Specification declaring.Variable in
      let x = built_by g k (form_by k xs) i j (layout g k i xs) (own_faults g k (form_by k xs) i j (layout g k i xs)) in
      names_stand (list_of (parts_of x)) (back f g) (subst Room (sym e) r) d

  specification_stands : (x : Tree) → IsSpecification declaring.Variable x → (f : Frame) (h : Hint) → Room f → Specified (tree_in (reading f h x)) → Is (frame_of (reading f h x))
  specification_stands (node (kind.Specification declaring.Variable) i j ps) v f h r =
      specification_closed f i j ps (readings f (kind.Specification declaring.Variable) h ps [] [] ps) (frames_still f declaring.Variable h ps [] [] ps v) r
  specification_stands x v f h r = absurd v

  specification_behind : (x : Tree) → IsSpecification declaring.Variable x → (f : Frame) (h : Hint) → Room f → StandsBehind Specified f (reading f h x)
  specification_behind x v f h r =
      stands_with Specified f (reading f h x) (specification_stands x v f h r)
      (variables_stay (declares n) Stands (λ (g : Frame). local_stands g.locals n) (λ k. refl) (λ g u d q z. ap (λ ls. local_stands ls n) d) (other_named n) (λ q o y g. right_aside n o y g) x v f h)
      (variables_stay no_form Bool (λ (g : Frame). has_room g.locals n) (λ k. refl) (λ g u d q z. ap (λ ls. has_room ls n) d) (λ q k y g d z. placed_room k (Some y) g.locals n) (λ q o y g. right_room n o y g) x v f h) r

  each_specification : (ts : Trees) → AreSpecifications declaring.Variable ts → EachStandsBehind Specified ts
  each_specification none v = tt
  each_specification (more x xs) v = (specification_behind x v.0, each_specification xs v.1)
  each_specification (skip xs) v = absurd v

  -- what is declared names it in the end, if its specifications do
  abbrev Shows : Reading → Type 0
  Shows (read x fs g) = Lastly (declares n) Specified (specifications (Some x ∷ [])) → Is g

  abbrev only_part : Part → Found → Frame → Readings
  only_part x gs u = all_read (Some x ∷ []) gs u

  specification_group : (f : Frame) (i j : ℕ) (ps : Trees) (r : Readings) → is_group (form_of (tree_in (closed f (kind.Specification declaring.Variable) i j ps r))) ≡ false
  specification_group f i j ps (all_read xs fs g) =
      let k = kind.Specification declaring.Variable in
      ap is_group (built_form g k (form_by k xs) i j (layout g k i xs) (own_faults g k (form_by k xs) i j (layout g k i xs)))

  no_group : (x : Tree) → IsSpecification declaring.Variable x → (f : Frame) (h : Hint) → is_group (form_of (tree_in (reading f h x))) ≡ false
  no_group (node (kind.Specification declaring.Variable) i j ps) v f h = specification_group f i j ps (readings f (kind.Specification declaring.Variable) h ps [] [] ps)
  no_group x v f h = absurd v

  only_one : (x : Part) (g : Frame) → (Specified x → Is g) → Lastly (declares n) Specified (Some x ∷ []) → Is g
  only_one x g c (inl e) = c e.0
  only_one x g c (inr e) = absurd e

  one_shows : (r : Reading) → (Specified (tree_in r) → Is (frame_of r)) → is_group (form_of (tree_in r)) ≡ false → Shows r
  one_shows (read x fs g) c e = λ d. only_one x g c (subst (λ b. Lastly (declares n) Specified (cond b (list_of (parts_of x)) (Some x ∷ []))) e d)

  group_closed : (f : Frame) (i j : ℕ) (ps : Trees) (r : Readings) → AllStandBehind Specified r → Shows (closed f (kind.Group declaring.Variable) i j ps r)
  group_closed f i j ps (all_read xs fs g) c =
      let k = kind.Group declaring.Variable in
      let own = own_faults g k (form.Held k) i j xs in
      let x = built_by g k (form.Held k) i j xs own in
      λ d. c.0 (subst (Lastly (declares n) Specified) (built_parts g k (form.Held k) i j xs own refl)
      (subst (λ b. Lastly (declares n) Specified (cond b (list_of (parts_of x)) (Some x ∷ []))) (ap is_group (built_form g k (form.Held k) i j xs own)) d))

  as_variables : (x : Part) → form_of x ≡ form.Variables → DeclaresVariable n t x → Lastly (declares n) Specified (list_of (parts_of x))
  as_variables (typed r i j l ps) e d = subst (λ q. DeclaresVariable n t (typed q i j l ps)) e d

  declaration_closed : (f : Frame) (i j : ℕ) (ps : Trees) (r : Reading) → Shows r → DeclaresVariable n t (tree_in (closed f (kind.Declaration declaring.Variable) i j ps (after r only_part)))
      → Is (frame_of (closed f (kind.Declaration declaring.Variable) i j ps (after r only_part)))
  declaration_closed f i j ps (read x fs g) c d =
      let k = kind.Declaration declaring.Variable in
      let ys = specifications (Some x ∷ []) in
      let own = own_faults g k form.Variables i j ys in
      c (subst (Lastly (declares n) Specified) (built_parts g k form.Variables i j ys own refl) (as_variables (built_by g k form.Variables i j ys own) (built_form g k form.Variables i j ys own) d))

  declaration_stands : (ps : Trees) → IsDeclared declaring.Variable ps → (f : Frame) (h : Hint) (i j : ℕ) → Room f → DeclaresVariable n t (tree_in (reading f h (node (kind.Declaration declaring.Variable) i j ps)))
      → Is (frame_of (reading f h (node (kind.Declaration declaring.Variable) i j ps)))
  declaration_stands (more (node (kind.Group declaring.Variable) a b ps) none) v f h i j r =
      declaration_closed f i j (more (node (kind.Group declaring.Variable) a b ps) none) (reading f value (node (kind.Group declaring.Variable) a b ps))
      (group_closed f a b ps (readings f (kind.Group declaring.Variable) value ps [] [] ps)
      (readings_stand Specified (kind.Group declaring.Variable) (λ xs g. refl) (λ g. refl) f value ps [] [] ps (each_specification ps v) r (λ z. absurd z)))
  declaration_stands (more x none) v f h i j r = declaration_closed f i j (more x none) (reading f value x) (one_shows (reading f value x) (specification_stands x v f value r) (no_group x v f value))
  declaration_stands ps v f h i j r = absurd v

  -- ---- all statements

  tree_behind : (x : Tree) → DeclaresInOrder x → (f : Frame) (h : Hint) → Room f → StandsBehind (DeclaresVariable n t) f (reading f h x)
  tree_behind (node kind.Define i j ps) v f h r =
      let x = node kind.Define i j ps in
      stands_with (DeclaresVariable n t) f (reading f h x) (define_stands f h i j ps v r) (local_left x v f h) (room_left x v f h) r
  tree_behind (node (kind.Declaration declaring.Variable) i j ps) v f h r =
      let x = node (kind.Declaration declaring.Variable) i j ps in
      stands_with (DeclaresVariable n t) f (reading f h x) (declaration_stands ps v f h i j r) (local_left x v f h) (room_left x v f h) r
  tree_behind (node k i j ps) v f h r =
      let x = node k i j ps in
      stands_with (DeclaresVariable n t) f (reading f h x) (λ d. absurd (undeclared (tree_in (reading f h x)) (reading_undeclared k tt f h i j ps) d)) (local_left x v f h) (room_left x v f h) r

  each_behind : (ts : Trees) → AllDeclareInOrder ts → EachStandsBehind (DeclaresVariable n t) ts
  each_behind none v = tt
  each_behind (more x xs) v = (tree_behind x v.0, each_behind xs v.1)
  each_behind (skip xs) v = each_behind xs v

  behind_all : (r : Readings) → AllStandBehind (DeclaresVariable n t) r → Lastly (declares n) (DeclaresVariable n t) (parts_in r) → Is (frame_in r)
  behind_all (all_read xs fs g) c e = c.0 e

  pub declared_stands : (f : Frame) (ts : Trees) → AllDeclareInOrder ts → Room f → Lastly (declares n) (DeclaresVariable n t) (parts_in (run f ts)) → Is (behind f ts)
  declared_stands f ts v r e =
      behind_all (run f ts) (readings_stand (DeclaresVariable n t) kind.Block (λ xs g. refl) (λ g. refl) f value none [] [] ts (each_behind ts v) r (λ z. absurd z)) e
