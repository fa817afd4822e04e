-- Trees in which no variable takes a place: they are typed as before in the other scope.
use Rattle.std.proofs.Common.{◌≡◌, ◌∙◌, ℕ, Bool, true, false, [], ◌∷◌, ◌++◌, Option, Some, None, refl, sym, ap}
use Rattle.std.specs.Prelude.{◌&&◌, if◌then◌else◌}
use Rattle.go_grammar.specs.declared.kind.Kind.{Kind}
use Rattle.go_grammar.specs.declared.kind.Kind.TheVariants as kind
use Rattle.go_grammar.specs.Trees.{Tree, node, Trees, none, more, skip, kind_of}
use Rattle.go_tree.specs.declared.object.Object.{Object}
use Rattle.go_tree.specs.declared.object.Object.TheVariants as object
use Rattle.go_types.specs.Trees.{TypeTree}
use Rattle.go_typed.specs.Trees.{Sort}
use Rattle.go_typed.specs.Trees as sort
use Rattle.go_exprs_rules.specs.Faults.{or_else}
use Rattle.go_exprs_rules.specs.Names.{name_sort, name_form, object_sort, object_form, declared_form}
use Rattle.go_exprs_rules.specs.Scopes.{in_full, Needed, Scope, Hint, declares, free}
use Rattle.go_exprs_rules.specs.Settling.{Part}
use Rattle.go_exprs_rules.specs.Tables.{Parts, hint, part_scope, layout, form_by, failing, sort_by, takes, all_given, is_judged, placing, own_faults, is_sound, made, built_by, built_on, built, found}
use Rattle.go_exprs_rules.specs.Typing.{typing, typings, faults, faults_of_parts}
use Rattle.go_exprs_variables.specs.Variables.{Standins, StandsIn, ends_at, may_be_constant, node_with, with_variables, all_with_variables, Free, AllFree, NameFree}
use Rattle.go_exprs_variables.proofs.Leaves.{sort_kept, form_kept}

-- ---- scopes

module _ (w : Standins) (s t : Scope) (st : StandsIn w s t) where
  -- the first scope, in which tokens mean what they do in the second one
  abbrev pub retold : Scope
  retold = record s { objects = t.objects; sorts = t.sorts; referents = t.referents }

  pub is_retold : t ≡ retold
  is_retold = λ k. record {
    rights = st.rights k;
    iota = st.iota k;
    texts = λ i. st.texts i k;
    characters = λ i. st.characters i k;
    objects = t.objects;
    sorts = t.sorts;
    referents = t.referents;
    needed = st.needed k;
    limits = st.limits k;
  }

  pub hint_same : (k : Kind) (h : Hint) (all : Trees) (xs : Parts) (n : Kind) → hint t k h all xs n ≡ hint s k h all xs n
  hint_same kind.Composite h all xs n = ap (λ z. hint z kind.Composite h all xs n) is_retold
  hint_same kind.LiteralValue h all xs n = ap (λ z. hint z kind.LiteralValue h all xs n) is_retold
  hint_same k h all xs n = ap (λ z. hint z k h all xs n) is_retold

  name_sort_same : (h : Hint) (i : ℕ) → w i ≡ None → name_sort t h i ≡ name_sort s h i
  name_sort_same declares i e = refl
  name_sort_same free i e = refl
  name_sort_same h i e = sort_kept w s t st i e h refl

  name_form_same : (h : Hint) (i : ℕ) → w i ≡ None → name_form t h i ≡ name_form s h i
  name_form_same declares i e = st.declared i e
  name_form_same free i e = st.declared i e
  name_form_same h i e = form_kept w s t st i e h refl

  -- ---- a node

  pub form_same : (k : Kind) (h : Hint) (i j : ℕ) (ys : Parts) → NameFree w k i → form_by t k h i j ys ≡ form_by s k h i j ys
  form_same kind.Name h i j ys e = name_form_same h i e
  form_same k h i j ys e = ap (λ z. form_by z k h i j ys) is_retold

  pub sort_same : (k : Kind) (h : Hint) (i j : ℕ) (ys : Parts) → NameFree w k i → sort_by t k h i j ys ≡ sort_by s k h i j ys
  sort_same kind.Name h i j ys e = name_sort_same h i e
  sort_same k h i j ys e = ap (λ z. sort_by z k h i j ys) is_retold

  pub failing_same : (k : Kind) (h : Hint) (i j : ℕ) (ys : Parts) → failing t k h i j ys ≡ failing s k h i j ys
  failing_same kind.Integer h i j ys = ap (λ z. failing z kind.Integer h i j ys) is_retold
  failing_same k h i j ys = ap (λ z. failing z k h i j ys) is_retold

  pub takes_same : (k : Kind) (h : Hint) (ys : Parts) → takes t k h ys ≡ takes s k h ys
  takes_same kind.Name h ys = refl
  takes_same k h ys = ap (λ z. takes z k h ys) is_retold

  placing_same : (k : Kind) (h : Hint) (i j : ℕ) (x : Sort TypeTree) → placing t k h i j x ≡ placing s k h i j x
  placing_same k h i j x = ap (λ z. placing z k h i j x) is_retold

  faults_same : (k : Kind) (h : Hint) (i j : ℕ) (ys : Parts) → NameFree w k i → own_faults t k h i j ys ≡ own_faults s k h i j ys
  faults_same k h i j ys e =
      ap (λ fs. if is_judged ys then or_else fs (placing t k h i j (sort_by t k h i j ys)) else []) (failing_same k h i j ys)
      ∙ ap (λ x. if is_judged ys then or_else (failing s k h i j ys) (placing t k h i j x) else []) (sort_same k h i j ys e)
      ∙ ap (λ fs. if is_judged ys then or_else (failing s k h i j ys) fs else []) (placing_same k h i j (sort_by s k h i j ys))

  built_by_same : (k : Kind) (h : Hint) (i j : ℕ) (ys : Parts) (b : Bool) → NameFree w k i → built_by t k h i j ys b ≡ built_by s k h i j ys b
  built_by_same k h i j ys true e =
      ap (λ f. made f i j (sort_by t k h i j ys) ys (all_given (takes t k h ys) ys)) (form_same k h i j ys e)
      ∙ ap (λ x. made (form_by s k h i j ys) i j x ys (all_given (takes t k h ys) ys)) (sort_same k h i j ys e)
      ∙ ap (λ ks. made (form_by s k h i j ys) i j (sort_by s k h i j ys) ys (all_given ks ys)) (takes_same k h ys)
  built_by_same k h i j ys false e = ap (λ f. made f i j sort.Unknown ys ys) (form_same k h i j ys e)

  built_on_same : (k : Kind) (h : Hint) (i j : ℕ) (ys : Parts) → NameFree w k i → built_on t k h i j ys ≡ built_on s k h i j ys
  built_on_same k h i j ys e = ap (λ fs. built_by t k h i j ys (is_sound k ys fs)) (faults_same k h i j ys e) ∙ built_by_same k h i j ys (is_sound k ys (own_faults s k h i j ys)) e

  pub built_same : (k : Kind) (h : Hint) (i j : ℕ) (xs : Parts) → NameFree w k i → built t k h i j xs ≡ built s k h i j xs
  built_same k h i j xs e = built_on_same k h i j (layout k xs) e

  pub found_same : (k : Kind) (h : Hint) (i j : ℕ) (xs : Parts) → NameFree w k i → found t k h i j xs ≡ found s k h i j xs
  found_same k h i j xs e = faults_same k h i j (layout k xs) e

-- ---- the scope of an array's length

module _ (s : Scope) (m : Needed) where
  sort_in : (n : Needed) (o : Option Object) → object_sort (record s { needed = m }) n o ≡ object_sort s n o
  sort_in n None = refl
  sort_in n (Some object.Import) = refl
  sort_in n (Some (object.Predeclared p)) = refl
  sort_in n (Some (object.Package k)) = refl
  sort_in n (Some (object.Local f k)) = refl

  form_in : (o : Option Object) → object_form (record s { needed = m }) o ≡ object_form s o
  form_in None = refl
  form_in (Some object.Import) = refl
  form_in (Some (object.Predeclared p)) = refl
  form_in (Some (object.Package k)) = refl
  form_in (Some (object.Local f k)) = refl

  declared_in : (o : Option Object) → declared_form (record s { needed = m }) o ≡ declared_form s o
  declared_in None = refl
  declared_in (Some object.Import) = refl
  declared_in (Some (object.Predeclared p)) = refl
  declared_in (Some (object.Package k)) = refl
  declared_in (Some (object.Local f k)) = refl

both_in : (w : Standins) (s t : Scope) (m : Needed) → StandsIn w s t → StandsIn w (record s { needed = m }) (record t { needed = m })
both_in w s t m st = record {
  rights = st.rights;
  iota = st.iota;
  texts = st.texts;
  characters = st.characters;
  needed = refl;
  limits = st.limits;
  variable = st.variable;
  type = st.type;
  standing = λ n i e. sort_in t m n (t.objects i) ∙ st.standing n i e ∙ sym (sort_in s m n (s.objects i));
  form = λ i e. form_in t m (t.objects i) ∙ st.form i e ∙ sym (form_in s m (s.objects i));
  declared = λ i e. declared_in t m (t.objects i) ∙ st.declared i e ∙ sym (declared_in s m (s.objects i));
}

pub part_scopes : (w : Standins) (s t : Scope) (k : Kind) (xs : Parts) → StandsIn w s t → StandsIn w (part_scope s k xs) (part_scope t k xs)
part_scopes w s t kind.SequenceType [] st = both_in w s t in_full st
part_scopes w s t kind.SequenceType (x ∷ xs) st = st
part_scopes w s t k xs st = st

-- ---- whole trees

module _ (w : Standins) where
  abbrev mutual
    -- No variable takes the place of the tree, nor of one in it.
    pub Kept : Tree → Type 0
    Kept (node k i j ps) = ((may_be_constant k && ends_at (w i) j) ≡ false) × NameFree w k i × AllKept ps

    pub AllKept : Trees → Type 0
    AllKept none = Unit {0}
    AllKept (more p ps) = Kept p × AllKept ps
    AllKept (skip ps) = AllKept ps

  free_stays : (k : Kind) (i j : ℕ) (b : Bool) → may_be_constant k ≡ b → (may_be_constant k ≡ true → w i ≡ None) → (may_be_constant k && ends_at (w i) j) ≡ false
  free_stays k i j true e f = ap (λ z. may_be_constant k && ends_at z j) (f e) ∙ ap (λ z. z && false) e
  free_stays k i j false e f = ap (λ z. z && ends_at (w i) j) e

  free_name : (k : Kind) (i : ℕ) → (may_be_constant k ≡ true → w i ≡ None) → NameFree w k i
  free_name kind.Name i f = f refl
  free_name k i f = tt

  mutual
    pub kept_free : (x : Tree) → Free w x → Kept x
    kept_free (node k i j ps) h = (free_stays k i j (may_be_constant k) refl h.0, free_name k i h.0, all_kept_free ps h.1)

    pub all_kept_free : (ps : Trees) → AllFree w ps → AllKept ps
    all_kept_free none h = tt
    all_kept_free (more p ps) h = (kept_free p h.0, all_kept_free ps h.1)
    all_kept_free (skip ps) h = all_kept_free ps h

  mutual
    pub same_tree : (x : Tree) → Kept x → with_variables w x ≡ x
    same_tree (node k i j ps) h = ap (λ b. node_with b k i j (all_with_variables w ps)) h.0 ∙ ap (node k i j) (same_trees ps h.2)

    same_trees : (ps : Trees) → AllKept ps → all_with_variables w ps ≡ ps
    same_trees none h = refl
    same_trees (more p ps) h = ap (λ z. more z (all_with_variables w ps)) (same_tree p h.0) ∙ ap (more p) (same_trees ps h.1)
    same_trees (skip ps) h = ap skip (same_trees ps h)

  abbrev tell : Scope → Kind → Hint → Trees → Parts → Tree → Hint
  tell s k h all xs p = hint s k h all xs (kind_of p)

  abbrev part : Scope → Kind → Hint → Trees → Parts → Tree → Part
  part s k h all xs p = typing (part_scope s k xs) (tell s k h all xs p) p

  mutual
    pub typed_same : (s t : Scope) (h : Hint) (x : Tree) → StandsIn w s t → Kept x → typing t h x ≡ typing s h x
    typed_same s t h (node k i j ps) st e = ap (built t k h i j) (parts_same s t k h ps [] ps st e.2) ∙ built_same w s t st k h i j (typings s k h ps [] ps) e.1

    parts_same : (s t : Scope) (k : Kind) (h : Hint) (all : Trees) (xs : Parts) (ps : Trees) → StandsIn w s t → AllKept ps → typings t k h all xs ps ≡ typings s k h all xs ps
    parts_same s t k h all xs none st e = refl
    parts_same s t k h all xs (skip ps) st e = parts_same s t k h all (xs ++ None ∷ []) ps st e
    parts_same s t k h all xs (more p ps) st e =
        ap (λ g. typings t k h all (xs ++ Some (typing (part_scope t k xs) g p) ∷ []) ps) (hint_same w s t st k h all xs (kind_of p))
        ∙ ap (λ z. typings t k h all (xs ++ Some z ∷ []) ps) (typed_same (part_scope s k xs) (part_scope t k xs) (tell s k h all xs p) p (part_scopes w s t k xs st) e.0)
        ∙ parts_same s t k h all (xs ++ Some (part s k h all xs p) ∷ []) ps st e.1

  mutual
    pub faults_kept : (s t : Scope) (h : Hint) (x : Tree) → StandsIn w s t → Kept x → faults t h x ≡ faults s h x
    faults_kept s t h (node k i j ps) st e =
        ap (λ fs. fs ++ found t k h i j (typings t k h ps [] ps) ∷ []) (parts_faults s t k h ps [] ps st e.2)
        ∙ ap (λ xs. faults_of_parts s k h ps [] ps ++ found t k h i j xs ∷ []) (parts_same s t k h ps [] ps st e.2)
        ∙ ap (λ fs. faults_of_parts s k h ps [] ps ++ fs ∷ []) (found_same w s t st k h i j (typings s k h ps [] ps) e.1)

    parts_faults : (s t : Scope) (k : Kind) (h : Hint) (all : Trees) (xs : Parts) (ps : Trees) → StandsIn w s t → AllKept ps → faults_of_parts t k h all xs ps ≡ faults_of_parts s k h all xs ps
    parts_faults s t k h all xs none st e = refl
    parts_faults s t k h all xs (skip ps) st e = parts_faults s t k h all (xs ++ None ∷ []) ps st e
    parts_faults s t k h all xs (more p ps) st e =
        ap (λ g. faults (part_scope t k xs) g p ++ faults_of_parts t k h all (xs ++ Some (typing (part_scope t k xs) g p) ∷ []) ps) (hint_same w s t st k h all xs (kind_of p))
        ∙ ap (λ fs. fs ++ faults_of_parts t k h all (xs ++ Some (typing (part_scope t k xs) (tell s k h all xs p) p) ∷ []) ps) (faults_kept (part_scope s k xs) (part_scope t k xs) (tell s k h all xs p) p (part_scopes w s t k xs st) e.0)
        ∙ ap (λ z. faults (part_scope s k xs) (tell s k h all xs p) p ++ faults_of_parts t k h all (xs ++ Some z ∷ []) ps) (typed_same (part_scope s k xs) (part_scope t k xs) (tell s k h all xs p) p (part_scopes w s t k xs st) e.0)
        ∙ ap (λ fs. faults (part_scope s k xs) (tell s k h all xs p) p ++ fs) (parts_faults s t k h all (xs ++ Some (part s k h all xs p) ∷ []) ps st e.1)
