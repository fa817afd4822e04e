-- Names that statements declare, where variables stand in place of constants.
use Rattle.std.proofs.Common.{◌≡◌, ◌∙◌, ℕ, Bool, true, false, List, [], ◌∷◌, map, Option, Some, None, refl, sym, ap, subst}
use Rattle.std.specs.Prelude.{◌&&◌, not, slice_get}
use Rattle.go_grammar.specs.declared.kind.Kind.TheVariants as kind
use Rattle.go_grammar.specs.Trees.{node, Trees, none, more, skip}
use Rattle.go_tree.specs.declared.object.Object.{Object}
use Rattle.go_tree.specs.declared.object.Object.TheVariants as object
use Rattle.go_types.specs.Trees.{TypeTree}
use Rattle.go_typed.specs.declared.form.Form.{Form}
use Rattle.go_typed.specs.declared.form.Form.TheVariants as form
use Rattle.go_typed.specs.declared.form.Referent.{Referent}
use Rattle.go_typed.specs.declared.form.Referent.TheVariants as referent
use Rattle.go_typed.specs.Trees.{Label, typed, Typeds, sort_of, form_of, label_of, list_of}
use Rattle.go_typed.specs.Trees as sort
use Rattle.go_exprs_rules.specs.Names.{declared_form}
use Rattle.go_exprs_rules.specs.Scopes.{Scope, declares}
use Rattle.go_exprs_rules.specs.Settling.{Part}
use Rattle.go_exprs_rules.specs.Sorts.{Stands, is_unknown, own_type}
use Rattle.go_exprs_rules.specs.Tables.{Parts, is_held, label, made}
use Rattle.go_exprs_rules.specs.Typing.{typing}
use Rattle.go_stmts_defs.specs.Assigning.{stands}
use Rattle.go_stmts_defs.specs.Frames.{Frame, Locals, known, declared_type, scope_of}
use Rattle.go_stmts_defs.specs.Laying.{new_or_known, new_form, with_form, new_name, local_named}
use Rattle.go_stmts_defs.specs.Reading.{declares_sort, is_new, declares_name, declares_all}
use Rattle.go_stmts_defs.specs.Rules.{given_part}
use Rattle.clone_window.specs.Masses.{is_hole, is_inside, is_expression}
use Rattle.clone_window.specs.Masses as masses
use Rattle.go_exprs_variables.specs.Over.{sort_over}
use Rattle.go_exprs_variables.specs.Variables.{Standin, Standins, ends_at, at_hole, node_with, all_with_variables, AllFree, put_over, put, all_put, begun}
use Rattle.go_exprs_variables.proofs.Public.{All, all_new, each}
use Rattle.go_stmts_variables.specs.Frames.{FramesStand}
use Rattle.go_stmts_variables.proofs.Frames.{Fresh, named_fresh, with_local_stands, same_declared}
use Rattle.go_stmts_variables.proofs.Lists.{values_of}
use Rattle.go_stmts_variables.proofs.Puts.{Put, hole_at, put_bare, begun_bare}

-- ---- forms of names

known_fails : (p : Form → Bool) (n : ℕ) (o : Option TypeTree) → p (form.Local n) ≡ false → p (form.New n) ≡ false → p (new_or_known n o) ≡ false
known_fails p n (Some t) a b = a
known_fails p n None a b = b

new_fails : (p : Form → Bool) (ls : Locals) (s : Scope) (o : Option Object) → p form.Blank ≡ false → ((r : Referent) → p (form.Object r) ≡ false) → ((n : ℕ) → p (form.Local n) ≡ false) → ((n : ℕ) → p (form.New n) ≡ false)
    → p (new_form ls (declared_form s o)) ≡ false
new_fails p ls s None a b c d = a
new_fails p ls s (Some object.Import) a b c d = b referent.Println
new_fails p ls s (Some (object.Predeclared q)) a b c d = b (referent.Predeclared q)
new_fails p ls s (Some (object.Package n)) a b c d = b (s.referents n)
new_fails p ls s (Some (object.Local f n)) a b c d = known_fails p n (declared_type ls n) (c n) (d n)

-- the local that a name declares is the one that its token names
new_is : (ls : Locals) (s : Scope) (o : Option Object) (n : ℕ) → is_new (new_form ls (declared_form s o)) ≡ Some n → local_named o ≡ Some n
new_is ls s None n e = cc
new_is ls s (Some object.Import) n e = cc
new_is ls s (Some (object.Predeclared q)) n e = cc
new_is ls s (Some (object.Package m)) n e = cc
new_is ls s (Some (object.Local f m)) n e = by (declared_type ls m) e
  where
    by : (o : Option TypeTree) → is_new (new_or_known m o) ≡ Some n → Some m ≡ Some n
    by (Some t) e = cc
    by None e = e

same_new : (ls ks : Locals) (s : Scope) (o : Option Object) → ((n : ℕ) → local_named o ≡ Some n → slice_get ks n ≡ slice_get ls n) → new_form ks (declared_form s o) ≡ new_form ls (declared_form s o)
same_new ls ks s None e = refl
same_new ls ks s (Some object.Import) e = refl
same_new ls ks s (Some (object.Predeclared q)) e = refl
same_new ls ks s (Some (object.Package n)) e = refl
same_new ls ks s (Some (object.Local f n)) e = ap (λ z. new_or_known n (own_type (known z))) (e n refl)

module _ (w : Standins) where
  -- ---- a name with what it stands for

  abbrev pub name_label : Frame → ℕ → Label TypeTree
  name_label f i = label (declared_form (scope_of f) (f.around.objects i)) sort.Nothing []

  -- A name that is declared, or that was before, at a token at which no variable stands.
  pub record IsName (f : Frame) (x : Part) : Type 0 where
    pub first : ℕ
    pub last : ℕ
    pub free : w first ≡ None
    pub is : x ≡ typed (new_form f.locals (declared_form (scope_of f) (f.around.objects first))) first last (name_label f first) sort.none

  pub name_held : (f : Frame) (x : Part) → IsName f x → is_held (form_of x) ≡ false
  name_held f x h = ap (λ y. is_held (form_of y)) h.is ∙ new_fails is_held f.locals (scope_of f) (f.around.objects h.first) refl (λ r. refl) (λ n. refl) (λ n. refl)

  pub name_begun : (f : Frame) (x : Part) → IsName f x → begun w false x ≡ x
  name_begun f x h =
      let fm = new_form f.locals (declared_form (scope_of f) (f.around.objects h.first)) in
      ap (begun w false) h.is ∙ begun_bare w fm h.first h.last (name_label f h.first) (sym (ap (λ y. is_held (form_of y)) h.is) ∙ name_held f x h) refl refl ∙ sym h.is

  pub name_put : (f : Frame) (x : Part) (z : Stands) → IsName f x → masses.is_constant z ≡ false → Put w (stands z) x
  name_put f x z h c =
      let fm = new_form f.locals (declared_form (scope_of f) (f.around.objects h.first)) in
      record {
        given = ap (given_part (stands z)) (name_begun f x h) ∙ ap (given_part (stands z)) h.is ∙ sym (put_bare w fm h.first h.last (record (name_label f h.first) { sort = z }) c)
            ∙ ap (λ y. put w false (given_part (stands z) y)) (sym h.is);
        calls = ap (λ y. (label_of y).calls) (name_begun f x h);
      }

  pub name_known : (f : Frame) (x : Part) → IsName f x → is_unknown (sort_of x) ≡ false
  name_known f x h = ap (λ y. is_unknown (sort_of y)) h.is

  given_form : (z : Stands) (x : Part) → form_of (given_part (stands z) x) ≡ form_of x
  given_form z (typed f i j l ps) = refl

  pub name_fresh : (f g : Frame) (x : Part) (z : Stands) (n : ℕ) → FramesStand w f g → IsName f x → is_new (form_of (given_part (stands z) x)) ≡ Some n → Fresh w n
  name_fresh f g x z n h m e =
      named_fresh w f g m.first n h m.free (new_is f.locals (scope_of f) (f.around.objects m.first) n (sym (ap is_new (given_form z x) ∙ ap (λ y. is_new (form_of y)) m.is) ∙ e))

  -- ---- the names of a list

  abbrev pub names_of : Frame → Trees → List Part
  names_of f none = []
  names_of f (more q ps) = with_form (new_form f.locals) (typing (scope_of f) declares q) ∷ names_of f ps
  names_of f (skip ps) = names_of f ps

  -- they are names without parts
  abbrev pub AreNames : Trees → Type 0
  AreNames none = Unit {0}
  AreNames (more (node kind.Name i j none) ps) = AreNames ps
  AreNames ps = ⊥

  pub named_list : (f : Frame) (ps : Trees) → map (new_name f.locals) (each (values_of (scope_of f) declares ps)) ≡ each (names_of f ps)
  named_list f none = refl
  named_list f (more q ps) = ap (λ ys. Some (with_form (new_form f.locals) (typing (scope_of f) declares q)) ∷ ys) (named_list f ps)
  named_list f (skip ps) = named_list f ps

  pub all_names : (f : Frame) (ps : Trees) → AreNames ps → AllFree w ps → All (IsName f) (names_of f ps)
  all_names f none e free = tt
  all_names f (more (node kind.Name i j none) ps) e free = (record { first = i; last = j; free = free.0.0 refl; is = refl }, all_names f ps e free.1)
  all_names f (more (node kind.Name i j (more p qs)) ps) e free = elim e [ ]
  all_names f (more (node kind.Name i j (skip qs)) ps) e free = elim e [ ]
  all_names f (more (node k i j qs) ps) e free = elim e [ ]
  all_names f (skip ps) e free = elim e [ ]

  pub node_name : (b : Bool) (i j : ℕ) → node_with b kind.Name i j none ≡ node kind.Name i j none
  node_name true i j = refl
  node_name false i j = refl

  one_name : (f g : Frame) (i j : ℕ) → FramesStand w f g → w i ≡ None → with_form (new_form g.locals) (typing (scope_of g) declares (node kind.Name i j none)) ≡ with_form (new_form f.locals)
      (typing (scope_of f) declares (node kind.Name i j none))
  one_name f g i j h e =
      let objects : g.around.objects i ≡ f.around.objects i = h.says.objects i e in
      let form : declared_form (scope_of g) (g.around.objects i) ≡ declared_form (scope_of f) (f.around.objects i) = ap (declared_form (scope_of g)) objects ∙ same_declared w f g h (f.around.objects i) in
      ap (λ q. with_form (new_form g.locals) (made q i j sort.Nothing [] [])) form
      ∙ ap (λ q. typed q i j (name_label f i) sort.none) (same_new f.locals g.locals (scope_of f) (f.around.objects i) (λ n m. h.locals i n e m))

  -- names mean the same with variables in the statement
  pub same_names : (f g : Frame) (ps : Trees) → FramesStand w f g → AreNames ps → AllFree w ps → names_of g (all_with_variables w ps) ≡ names_of f ps
  same_names f g none h e free = refl
  same_names f g (more (node kind.Name i j none) ps) h e free =
      ap (λ x. with_form (new_form g.locals) (typing (scope_of g) declares x) ∷ names_of g (all_with_variables w ps)) (node_name (ends_at (w i) j) i j)
      ∙ ap (λ x. x ∷ names_of g (all_with_variables w ps)) (one_name f g i j h (free.0.0 refl)) ∙ ap (λ xs. with_form (new_form f.locals) (typing (scope_of f) declares (node kind.Name i j none)) ∷ xs) (same_names f g ps h e free.1)
  same_names f g (more (node kind.Name i j (more p qs)) ps) h e free = elim e [ ]
  same_names f g (more (node kind.Name i j (skip qs)) ps) h e free = elim e [ ]
  same_names f g (more (node k i j qs) ps) h e free = elim e [ ]
  same_names f g (skip ps) h e free = elim e [ ]

  pub names_begun : (f : Frame) (xs : List Part) → All (IsName f) xs → all_new w xs ≡ xs
  names_begun f [] h = refl
  names_begun f (x ∷ xs) h = ap (λ y. y ∷ all_new w xs) (name_begun f x h.0) ∙ ap (λ ys. x ∷ ys) (names_begun f xs h.1)

  -- ---- what is known behind a node that declares names

  -- what a part declares is no variable's number
  abbrev pub DeclaresFresh : Part → Type 0
  DeclaresFresh x = (n : ℕ) → is_new (form_of x) ≡ Some n → Fresh w n

  abbrev pub AllFresh : Parts → Type 0
  AllFresh [] = Unit {0}
  AllFresh (None ∷ xs) = AllFresh xs
  AllFresh (Some x ∷ xs) = DeclaresFresh x × AllFresh xs

  pub sort_stands : (f g : Frame) (o : Option ℕ) (z : Stands) → ((n : ℕ) → o ≡ Some n → Fresh w n) → FramesStand w f g → FramesStand w (declares_sort o z f) (declares_sort o z g)
  sort_stands f g None z fresh h = h
  sort_stands f g (Some n) sort.Nothing fresh h = h
  sort_stands f g (Some n) z fresh h = with_local_stands w f g n z (fresh n refl) h

  hole_no_name : (f : Form) (b c : Bool) → ((is_expression f && b) && c) ≡ true → is_new f ≡ None
  hole_no_name (form.New n) b c e = cc
  hole_no_name (form.Declared n) b c e = cc
  hole_no_name f b c e = refl

  over_name : (fm : Form) (n : ℕ) (z : Stands) (qs : Typeds TypeTree) → is_new fm ≡ Some n → sort_over fm z qs ≡ z
  over_name (form.Keyed m) n z qs e = cc
  over_name fm n z qs e = refl

  name_by : (f g : Frame) (v : Option Standin) (fm : Form) (i j : ℕ) (l : Label TypeTree) (qs ps : Typeds TypeTree) → at_hole w (is_hole false fm l) i ≡ v → ((n : ℕ) → is_new fm ≡ Some n → Fresh w n) → FramesStand w f g
      → FramesStand w (declares_name (Some (typed fm i j l ps)) f) (declares_name (Some (put_over v fm i j l qs)) g)
  name_by f g (Some v) fm i j l qs ps at fresh h =
      subst (λ o. FramesStand w (declares_sort o l.sort f) g) (sym (hole_no_name fm (masses.is_constant l.sort) (not l.varies) (hole_at w (is_hole false fm l) i v at).0)) h
  name_by f g None fm i j l qs ps at fresh h = by (is_new fm) refl
    where
      by : (o : Option ℕ) → is_new fm ≡ o → FramesStand w (declares_sort (is_new fm) l.sort f) (declares_sort (is_new fm) (sort_over fm l.sort qs) g)
      by None e = subst (λ o. FramesStand w (declares_sort o l.sort f) (declares_sort o (sort_over fm l.sort qs) g)) (sym e) h
      by (Some n) e = subst (λ z. FramesStand w (declares_sort (is_new fm) l.sort f) (declares_sort (is_new fm) z g)) (sym (over_name fm n l.sort qs e)) (sort_stands f g (is_new fm) l.sort fresh h)

  one_stands : (f g : Frame) (x : Part) → DeclaresFresh x → FramesStand w f g → FramesStand w (declares_name (Some x) f) (declares_name (Some (put w false x)) g)
  one_stands f g (typed fm i j l ps) fresh h = name_by f g (at_hole w (is_hole false fm l) i) fm i j l (all_put w (is_inside false fm l) ps) ps refl fresh h

  -- Names that are declared are declared in both.
  pub declared_stand : (f g : Frame) (ps : Typeds TypeTree) → AllFresh (list_of ps) → FramesStand w f g → FramesStand w (declares_all (list_of ps) f) (declares_all (list_of (all_put w false ps)) g)
  declared_stand f g sort.none fresh h = h
  declared_stand f g (sort.skip ps) fresh h = declared_stand f g ps fresh h
  declared_stand f g (sort.more p ps) fresh h = declared_stand (declares_name (Some p) f) (declares_name (Some (put w false p)) g) ps fresh.1 (one_stands f g p fresh.0 h)
