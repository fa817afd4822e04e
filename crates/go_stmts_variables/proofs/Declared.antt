-- Names that are declared, and types, where no variable stands in them.
use Rattle.std.proofs.Common.{◌≡◌, ◌∙◌, ℕ, pred, Bool, true, false, List, [], ◌∷◌, ◌++◌, length, Option, Some, None, refl, sym, ap, append_assoc, append-nil}
use Rattle.std.specs.Prelude.{if◌then◌else◌}
use Rattle.go_grammar.specs.declared.kind.Category.TheVariants as category
use Rattle.go_grammar.specs.declared.kind.Kind.{Kind}
use Rattle.go_grammar.specs.declared.kind.Kind.TheVariants as kind
use Rattle.go_grammar.specs.Categories as categories
use Rattle.go_grammar.specs.Trees.{Tree, Trees, node, none, more, skip, kind_of}
use Rattle.go_tree.specs.declared.object.Object.{Object}
use Rattle.go_tree.specs.declared.object.Object.TheVariants as object
use Rattle.go_types.specs.Trees.{TypeTree}
use Rattle.go_typed.specs.declared.form.Form.{Form}
use Rattle.go_typed.specs.declared.form.Form.TheVariants as form
use Rattle.go_typed.specs.Trees.{Label, typed, sort_of, form_of, label_of, row}
use Rattle.go_typed.specs.Trees as sort
use Rattle.go_exprs_rules.specs.Names.{name_sort, object_form, declared_form, form_or_type}
use Rattle.go_exprs_rules.specs.Scopes.{Scope, Hint, type_place}
use Rattle.go_exprs_rules.specs.Settling.{Part}
use Rattle.go_exprs_rules.specs.Sorts.{Stands, is_open, is_unknown}
use Rattle.go_exprs_rules.specs.Tables.{Parts, is_held, is_type, leaf, cut, layout, form_by, built_by, is_sound, own_faults, made}
use Rattle.go_exprs_rules.specs.Typing.{typing, typings, faults}
use Rattle.clone_window.specs.Masses.{is_hole}
use Rattle.clone_window.specs.Masses as masses
use Rattle.go_stmts_defs.specs.Assigning.{Wanted, Taking, stands, rests, variable, first_known, names_take}
use Rattle.go_stmts_defs.specs.Frames.{Frame, scope_of}
use Rattle.go_stmts_defs.specs.Laying.{local_named}
use Rattle.go_stmts_defs.specs.Reading.{name_node, holdings, all_held_faults, is_new}
use Rattle.go_stmts_defs.specs.Rules.{all_given, given_part}
use Rattle.go_exprs_variables.specs.Over.{sort_over}
use Rattle.go_exprs_variables.specs.Shapes.{IsShaped}
use Rattle.go_exprs_variables.specs.Variables.{Standins, at_hole, first_wanted, put_over, put, begun, with_variables, all_with_variables, Free, AllFit}
use Rattle.go_exprs_variables.proofs.Public.{All, begun_by, begun_nothing, each, faults_kept, new_part, same_tree, still_free, typed_same, typing_agrees}
use Rattle.go_stmts_variables.specs.Frames.{FramesStand}
use Rattle.go_stmts_variables.proofs.Expressions.{IsPlain}
use Rattle.go_stmts_variables.proofs.Frames.{Fresh, named_fresh, scopes_stand}
use Rattle.go_stmts_variables.proofs.Names.{AllFresh}
use Rattle.go_stmts_variables.proofs.Nodes.{NamesKnown}
use Rattle.go_stmts_variables.proofs.Puts.{Put, Puts, begun_bare, fitting_put}

-- ---- forms of names

declared_held : (s : Scope) (o : Option Object) → is_held (declared_form s o) ≡ false
declared_held s None = refl
declared_held s (Some object.Import) = refl
declared_held s (Some (object.Predeclared p)) = refl
declared_held s (Some (object.Package n)) = refl
declared_held s (Some (object.Local f n)) = refl

pub declared_new : (s : Scope) (o : Option Object) (n : ℕ) → is_new (declared_form s o) ≡ Some n → local_named o ≡ Some n
declared_new s None n e = cc
declared_new s (Some object.Import) n e = cc
declared_new s (Some (object.Predeclared p)) n e = cc
declared_new s (Some (object.Package m)) n e = cc
declared_new s (Some (object.Local f m)) n e = e

module _ (w : Standins) where
  -- ---- nodes without parts at whose tokens no variable stands

  leaf_at : (b : Bool) (i : ℕ) → w i ≡ None → at_hole w b i ≡ None
  leaf_at true i e = e
  leaf_at false i e = refl

  leaf_over : (f : Form) (z : Stands) → sort_over f z sort.none ≡ z
  leaf_over (form.Keyed n) z = refl
  leaf_over f z = refl

  pub leaf_put : (f : Form) (i j : ℕ) (l : Label TypeTree) → w i ≡ None → put w false (typed f i j l sort.none) ≡ typed f i j l sort.none
  leaf_put f i j l e =
      ap (λ v. put_over v f i j l sort.none) (leaf_at (is_hole false f l) i e) ∙ ap (λ z. typed f i j (record { sort = z; varies = l.varies; calls = l.calls }) sort.none) (leaf_over f l.sort)

  none_either : (b : Bool) → (if b then first_wanted None None else None) ≡ None
  none_either true = refl
  none_either false = refl

  pub leaf_begun : (f : Form) (i j : ℕ) (l : Label TypeTree) → is_held f ≡ false → w i ≡ None → begun w false (typed f i j l sort.none) ≡ typed f i j l sort.none
  leaf_begun f i j l h e =
      begun_by [] w false f i j l sort.none None h (ap (λ v. if is_open l.sort then first_wanted v None else None) (leaf_at (is_hole false f l) i e) ∙ none_either (is_open l.sort)) ∙ leaf_put f i j l e

  -- ---- names

  abbrev pub AreDeclared : Trees → Type 0
  AreDeclared none = Unit {0}
  AreDeclared (more (node kind.DeclaredName i j none) ps) = (w i ≡ None) × AreDeclared ps
  AreDeclared ps = ⊥

  abbrev pub declared_of : Frame → Trees → List Part
  declared_of f none = []
  declared_of f (more (node k i j qs) ps) = name_node f i j ∷ declared_of f ps
  declared_of f (skip ps) = declared_of f ps

  pub names_held : (f : Frame) (h : Hint) (all : Trees) (xs : Parts) (ps : Trees) → AreDeclared ps → holdings f kind.NameList h all xs ps ≡ xs ++ each (declared_of f ps)
  names_held f h all xs none e = sym (append-nil xs)
  names_held f h all xs (more (node kind.DeclaredName i j none) ps) e =
      names_held f h all (xs ++ Some (name_node f i j) ∷ []) ps e.1 ∙ append_assoc xs (Some (name_node f i j) ∷ []) (each (declared_of f ps))
  names_held f h all xs (more (node kind.DeclaredName i j (more q qs)) ps) e = elim e [ ]
  names_held f h all xs (more (node kind.DeclaredName i j (skip qs)) ps) e = elim e [ ]
  names_held f h all xs (more (node k i j qs) ps) e = elim e [ ]
  names_held f h all xs (skip ps) e = elim e [ ]

  pub names_faults : (f : Frame) (h : Hint) (all : Trees) (xs : Parts) (ps : Trees) → AreDeclared ps → all_held_faults f kind.NameList h all xs ps ≡ []
  names_faults f h all xs none e = refl
  names_faults f h all xs (more (node kind.DeclaredName i j none) ps) e = names_faults f h all (xs ++ Some (name_node f i j) ∷ []) ps e.1
  names_faults f h all xs (more (node kind.DeclaredName i j (more q qs)) ps) e = elim e [ ]
  names_faults f h all xs (more (node kind.DeclaredName i j (skip qs)) ps) e = elim e [ ]
  names_faults f h all xs (more (node k i j qs) ps) e = elim e [ ]
  names_faults f h all xs (skip ps) e = elim e [ ]

  pub new_declared : (ps : Trees) → AreDeclared ps → AreDeclared (all_with_variables w ps)
  new_declared none e = tt
  new_declared (more (node kind.DeclaredName i j none) ps) e = (e.0, new_declared ps e.1)
  new_declared (more (node kind.DeclaredName i j (more q qs)) ps) e = elim e [ ]
  new_declared (more (node kind.DeclaredName i j (skip qs)) ps) e = elim e [ ]
  new_declared (more (node k i j qs) ps) e = elim e [ ]
  new_declared (skip ps) e = elim e [ ]

  pub around_declared : (f g : Frame) (o : Option Object) → FramesStand w f g → declared_form g.around o ≡ declared_form f.around o
  around_declared f g None st = refl
  around_declared f g (Some object.Import) st = refl
  around_declared f g (Some (object.Predeclared p)) st = refl
  around_declared f g (Some (object.Package n)) st = ap form.Object (st.says.referents n)
  around_declared f g (Some (object.Local m n)) st = refl

  pub same_names : (f g : Frame) (ps : Trees) → FramesStand w f g → AreDeclared ps → declared_of g (all_with_variables w ps) ≡ declared_of f ps
  same_names f g none st e = refl
  same_names f g (more (node kind.DeclaredName i j none) ps) st e =
      ap (λ q. made q i j sort.Nothing [] [] ∷ declared_of g (all_with_variables w ps))
      (ap (declared_form g.around) (st.says.objects i e.0) ∙ around_declared f g (f.around.objects i) st)
      ∙ ap (λ xs. name_node f i j ∷ xs) (same_names f g ps st e.1)
  same_names f g (more (node kind.DeclaredName i j (more q qs)) ps) st e = elim e [ ]
  same_names f g (more (node kind.DeclaredName i j (skip qs)) ps) st e = elim e [ ]
  same_names f g (more (node k i j qs) ps) st e = elim e [ ]
  same_names f g (skip ps) st e = elim e [ ]

  pub record IsDeclared (f : Frame) (x : Part) : Type 0 where
    pub first : ℕ
    pub last : ℕ
    pub free : w first ≡ None
    pub is : x ≡ name_node f first last

  pub all_declared : (f : Frame) (ps : Trees) → AreDeclared ps → All (IsDeclared f) (declared_of f ps)
  all_declared f none e = tt
  all_declared f (more (node kind.DeclaredName i j none) ps) e = (record { first = i; last = j; free = e.0; is = refl }, all_declared f ps e.1)
  all_declared f (more (node kind.DeclaredName i j (more q qs)) ps) e = elim e [ ]
  all_declared f (more (node kind.DeclaredName i j (skip qs)) ps) e = elim e [ ]
  all_declared f (more (node k i j qs) ps) e = elim e [ ]
  all_declared f (skip ps) e = elim e [ ]

  abbrev form_at : Frame → ℕ → Form
  form_at f i = declared_form f.around (f.around.objects i)

  pub declared_begun : (f : Frame) (x : Part) → IsDeclared f x → begun w false x ≡ x
  declared_begun f x h = ap (begun w false) h.is ∙ leaf_begun (form_at f h.first) h.first h.last (label_of (name_node f h.first h.last)) (declared_held f.around (f.around.objects h.first)) h.free ∙ sym h.is

  pub declared_put : (f : Frame) (x : Part) (z : Stands) → IsDeclared f x → Put w (stands z) x
  declared_put f x z h = record {
    given = ap (given_part (stands z)) (declared_begun f x h) ∙ ap (given_part (stands z)) h.is
        ∙ sym (leaf_put (form_at f h.first) h.first h.last (record (label_of (name_node f h.first h.last)) { sort = z }) h.free) ∙ ap (λ y. put w false (given_part (stands z) y)) (sym h.is);
    calls = ap (λ y. (label_of y).calls) (declared_begun f x h);
  }

  declared_known : (f : Frame) (x : Part) → IsDeclared f x → is_unknown (sort_of x) ≡ false
  declared_known f x h = ap (λ y. is_unknown (sort_of y)) h.is

  given_form : (z : Stands) (x : Part) → form_of (given_part (stands z) x) ≡ form_of x
  given_form z (typed f i j l ps) = refl

  declared_fresh : (f g : Frame) (x : Part) (z : Stands) (n : ℕ) → FramesStand w f g → IsDeclared f x → is_new (form_of (given_part (stands z) x)) ≡ Some n → Fresh w n
  declared_fresh f g x z n st h e =
      named_fresh w f g h.first n st h.free (declared_new f.around (f.around.objects h.first) n (sym (ap is_new (given_form z x) ∙ ap (λ y. is_new (form_of y)) h.is) ∙ e))

  -- ---- rows of names

  pub puts_declared : (f : Frame) (ts us : Wanted) (ns : List Part) (ks : List Taking) (ys : Parts) → All (IsDeclared f) ns → length ts ≡ length ns → Puts w ks ys → Puts w (names_take ts us ++ ks) (each ns ++ ys)
  puts_declared f [] us [] ks ys h e p = p
  puts_declared f [] us (n ∷ ns) ks ys h e p = cc
  puts_declared f (t ∷ ts) us [] ks ys h e p = cc
  puts_declared f (t ∷ ts) [] (n ∷ ns) ks ys h e p = (declared_put f n (variable t) h.0, puts_declared f ts [] ns ks ys h.1 (ap pred e) p)
  puts_declared f (t ∷ ts) (u ∷ us) (n ∷ ns) ks ys h e p = (declared_put f n (variable (first_known t u)) h.0, puts_declared f ts us ns ks ys h.1 (ap pred e) p)

  pub known_declared : (f : Frame) (ts us : Wanted) (ns : List Part) (ks : List Taking) (ys : Parts) → All (IsDeclared f) ns → length ts ≡ length ns → NamesKnown w ks ys → NamesKnown w (names_take ts us ++ ks) (each ns ++ ys)
  known_declared f [] us [] ks ys h e p = p
  known_declared f [] us (n ∷ ns) ks ys h e p = cc
  known_declared f (t ∷ ts) us [] ks ys h e p = cc
  known_declared f (t ∷ ts) [] (n ∷ ns) ks ys h e p = (declared_known f n h.0, known_declared f ts [] ns ks ys h.1 (ap pred e) p)
  known_declared f (t ∷ ts) (u ∷ us) (n ∷ ns) ks ys h e p = (declared_known f n h.0, known_declared f ts us ns ks ys h.1 (ap pred e) p)

  pub fresh_declared : (f g : Frame) (ts us : Wanted) (ns : List Part) (ks : List Taking) (ys : Parts) → FramesStand w f g → All (IsDeclared f) ns → length ts ≡ length ns → AllFresh w (all_given ks ys)
      → AllFresh w (all_given (names_take ts us ++ ks) (each ns ++ ys))
  fresh_declared f g [] us [] ks ys st h e p = p
  fresh_declared f g [] us (n ∷ ns) ks ys st h e p = cc
  fresh_declared f g (t ∷ ts) us [] ks ys st h e p = cc
  fresh_declared f g (t ∷ ts) [] (n ∷ ns) ks ys st h e p = (λ m q. declared_fresh f g n (variable t) m st h.0 q, fresh_declared f g ts [] ns ks ys st h.1 (ap pred e) p)
  fresh_declared f g (t ∷ ts) (u ∷ us) (n ∷ ns) ks ys st h e p = (λ m q. declared_fresh f g n (variable (first_known t u)) m st h.0 q, fresh_declared f g ts us ns ks ys st h.1 (ap pred e) p)

  -- ---- parts without variables are the same

  module _ (f g : Frame) (st : FramesStand w f g) where
    pub free_typed : (h : Hint) (x : Tree) → Free w x → typing (scope_of g) h (with_variables w x) ≡ typing (scope_of f) h x
    free_typed h x free = let s = still_free w (scope_of f) h x free in ap (typing (scope_of g) h) (same_tree w x s.0) ∙ typed_same w (scope_of f) (scope_of g) h x (scopes_stand w f g st) s.0

    pub free_faults : (h : Hint) (x : Tree) → Free w x → faults (scope_of g) h (with_variables w x) ≡ faults (scope_of f) h x
    free_faults h x free = let s = still_free w (scope_of f) h x free in ap (faults (scope_of g) h) (same_tree w x s.0) ∙ faults_kept w (scope_of f) (scope_of g) h x (scopes_stand w f g st) s.0

  -- ---- types

  pub plain_type : (k : Kind) → categories.is_type k ≡ true → IsPlain k
  plain_type kind.Name e = record { statement = refl; list = refl; declared = refl }
  plain_type kind.ParenthesizedType e = record { statement = refl; list = refl; declared = refl }
  plain_type kind.SequenceType e = record { statement = refl; list = refl; declared = refl }
  plain_type kind.FunctionType e = record { statement = refl; list = refl; declared = refl }
  plain_type kind.StructType e = record { statement = refl; list = refl; declared = refl }
  plain_type k e = cc

  pub record TypeForm (f : Form) : Type 0 where
    pub new : is_new f ≡ None
    pub held : is_held f ≡ false

  object_type : (s : Scope) (z : Stands) (o : Option Object) → TypeForm (form_or_type z (object_form s o))
  object_type s (sort.IsType t) o = record { new = refl; held = refl }
  object_type s z None = record { new = refl; held = refl }
  object_type s z (Some object.Import) = record { new = refl; held = refl }
  object_type s z (Some (object.Predeclared p)) = record { new = refl; held = refl }
  object_type s z (Some (object.Package n)) = record { new = refl; held = refl }
  object_type s z (Some (object.Local f n)) = record { new = refl; held = refl }

  type_form : (s : Scope) (k : Kind) (i j : ℕ) (ys : Parts) → categories.is_type k ≡ true → TypeForm (form_by s k type_place i j ys)
  type_form s kind.Name i j ys e = object_type s (name_sort s type_place i) (s.objects i)
  type_form s kind.ParenthesizedType i j ys e = record { new = refl; held = refl }
  type_form s kind.SequenceType i j ys e = record { new = refl; held = refl }
  type_form s kind.FunctionType i j ys e = record { new = refl; held = refl }
  type_form s kind.StructType i j ys e = record { new = refl; held = refl }
  type_form s k i j ys e = cc

  built_type : (s : Scope) (k : Kind) (i j : ℕ) (ys : Parts) (b : Bool) → TypeForm (form_by s k type_place i j ys) → TypeForm (form_of (built_by s k type_place i j ys b))
  built_type s k i j ys true e = e
  built_type s k i j ys false e = e

  pub typed_form : (s : Scope) (x : Tree) → categories.is_type (kind_of x) ≡ true → TypeForm (form_of (typing s type_place x))
  typed_form s (node k i j ps) e = let ys = layout k (typings s k type_place ps [] ps) in built_type s k i j ys (is_sound k ys (own_faults s k type_place i j ys)) (type_form s k i j ys e)

  -- a type in a declaration, if there is one
  pub record TypePart (o : Option Part) : Type 0 where
    pub begun : new_part w o ≡ o
    pub put : AllFit w false (row (o ∷ [])) → Puts w (rests ∷ []) (o ∷ [])
    pub fresh : AllFresh w (o ∷ [])

  pub no_type : TypePart None
  no_type = record { begun = refl; put = λ fits. tt; fresh = tt }

  one_type : (x : Part) → begun w false x ≡ x → is_held (form_of x) ≡ false → is_new (form_of x) ≡ None → TypePart (Some x)
  one_type x same held new = record {
    begun = ap Some same;
    put = λ fits. (record { given = fitting_put w x held fits.0; calls = ap (λ y. (label_of y).calls) same }, tt);
    fresh = ((λ n e. let never : None ≡ Some n = sym new ∙ e in cc), tt);
  }

  type_constant : (z : Stands) → is_type z ≡ true → (masses.is_constant z ≡ false) × (is_open z ≡ false)
  type_constant (sort.IsType t) e = (refl, refl)
  type_constant z e = cc

  leaf_type : (x : Part) → is_type (sort_of x) ≡ true → TypePart (Some (leaf x))
  leaf_type (typed f i j l ps) e = let z = type_constant l.sort e in one_type (typed form.Type i j l sort.none) (begun_bare w form.Type i j l refl z.0 z.1) refl refl

  cut_type : (y : Part) (b : Bool) → is_type (sort_of y) ≡ b → begun w false y ≡ y → TypeForm (form_of y) → TypePart (if b then Some (leaf y) else Some y)
  cut_type y true e same t = leaf_type y e
  cut_type y false e same t = one_type y same t.held t.new

  pub a_type : (f : Frame) (x : Tree) → IsShaped category.Type x → categories.is_type (kind_of x) ≡ true → Free w x → TypePart (cut (Some (typing (scope_of f) type_place x)))
  a_type f x shape k free =
      let y = typing (scope_of f) type_place x in
      cut_type y (is_type (sort_of y)) refl (begun_nothing w false y (typing_agrees (scope_of f) type_place category.Type x shape) (still_free w (scope_of f) type_place x free).1) (typed_form (scope_of f) x k)
