-- Nodes in scopes that differ in what tokens say: they are the same where their own tokens say the same.
use Rattle.std.proofs.Common.{◌≡◌, ℕ, ◌-◌, Bool, true, false, if◌then◌else◌, [], ◌∷◌, refl, ap, ◌∙◌}
use Rattle.go_grammar.specs.declared.kind.Kind.{Kind}
use Rattle.go_grammar.specs.declared.kind.Kind.TheVariants as kind
use Rattle.go_grammar.specs.Trees.{Trees}
use Rattle.go_typed.specs.Trees.{sort_of}
use Rattle.go_typed.specs.Trees as sort
use Rattle.go_exprs_rules.specs.Faults.{or_else}
use Rattle.go_exprs_rules.specs.Indexes.{selector_sort}
use Rattle.go_exprs_rules.specs.Names.{integer_failing, integer_constant, rune_constant, text_constant}
use Rattle.go_exprs_rules.specs.Scopes.{Scope, Hint}
use Rattle.go_exprs_rules.specs.Tables.{Parts, hint, part_scope, layout, on_one, key_form, selector_form, form_by, selector_rule, failing, sort_by, takes, all_given, is_judged, placing, own_faults}
use Rattle.go_exprs_rules.specs.Tables.{is_sound, made, built_by, built_on, built, found}
use Rattle.go_exprs_rules.specs.TypeNodes.{structure_of}
use Rattle.go_package_alike.specs.Scopes.{Says, said, SaidSame, TokenHas}
use Rattle.go_package_alike.proofs.Marks.{PartsMarked, layout_marked, fields_same}
use Rattle.go_package_alike.proofs.Said.{retold, name_sort_same, name_form_same}

module _ (p : ℕ → Bool) (m : Says) where
  -- ---- what parts are retold

  pub hint_same : (s : Scope) (k : Kind) (h : Hint) (all : Trees) (xs : Parts) (n : Kind) → hint (retold s m) k h all xs n ≡ hint s k h all xs n
  hint_same s kind.Composite h all xs n = refl
  hint_same s kind.LiteralValue h all xs n = refl
  hint_same s k h all xs n = refl

  pub scope_same : (s : Scope) (k : Kind) (xs : Parts) → part_scope (retold s m) k xs ≡ retold (part_scope s k xs) m
  scope_same s kind.SequenceType [] = refl
  scope_same s kind.SequenceType (x ∷ xs) = refl
  scope_same s k xs = refl

  pub said_in_part : (s : Scope) (k : Kind) (xs : Parts) → SaidSame p (said s) m → SaidSame p (said (part_scope s k xs)) m
  said_in_part s kind.SequenceType [] a = a
  said_in_part s kind.SequenceType (x ∷ xs) a = a
  said_in_part s k xs a = a

  -- ---- a node

  module _ (s : Scope) (a : SaidSame p (said s) m) where
    form_same : (k : Kind) (h : Hint) (i j : ℕ) (ys : Parts) → TokenHas p k i j → form_by (retold s m) k h i j ys ≡ form_by s k h i j ys
    form_same kind.Name h i j ys e = name_form_same s m h i (a.objects i e)
    form_same kind.Selector h i j ys e = ap (λ w. selector_form s.rights w ys) (a.texts (j - 1) e)
    form_same kind.Keyed h i j ys e = ap (λ w. key_form s.rights h w) (a.texts i e)
    form_same k h i j ys e = refl

    sort_same : (k : Kind) (h : Hint) (i j : ℕ) (ys : Parts) → TokenHas p k i j → PartsMarked p ys → sort_by (retold s m) k h i j ys ≡ sort_by s k h i j ys
    sort_same kind.Name h i j ys e w = name_sort_same s m h i (a.objects i e)
    sort_same kind.Integer h i j ys e w = ap (λ t. sort.OpenConstant (integer_constant t)) (a.texts i e)
    sort_same kind.Rune h i j ys e w = ap (λ t. sort.OpenConstant (rune_constant t)) (a.characters i e)
    sort_same kind.Text h i j ys e w = ap (λ t. sort.OpenConstant (text_constant t)) (a.characters i e)
    sort_same kind.Selector h i j ys e w = ap (λ t. on_one sort.Println (λ x. selector_sort s.rights t (sort_of x)) ys) (a.texts (j - 1) e)
    sort_same kind.StructType h i j ys e w = ap (λ fs. sort.IsType (structure_of fs)) (fields_same p s.texts m.texts a.texts [] ys w)
    sort_same k h i j ys e w = refl

    failing_same : (k : Kind) (h : Hint) (i j : ℕ) (ys : Parts) → TokenHas p k i j → failing (retold s m) k h i j ys ≡ failing s k h i j ys
    failing_same kind.Integer h i j ys e = ap (λ t. integer_failing i j t) (a.texts i e)
    failing_same kind.Selector h i j ys e = ap (λ t. selector_rule s.rights i j t ys) (a.texts (j - 1) e)
    failing_same k h i j ys e = refl

    takes_same : (k : Kind) (h : Hint) (ys : Parts) → takes (retold s m) k h ys ≡ takes s k h ys
    takes_same kind.Name h ys = refl
    takes_same k h ys = refl

    faults_same : (k : Kind) (h : Hint) (i j : ℕ) (ys : Parts) → TokenHas p k i j → PartsMarked p ys → own_faults (retold s m) k h i j ys ≡ own_faults s k h i j ys
    faults_same k h i j ys e w =
        ap (λ fs. if is_judged ys then or_else fs (placing s k h i j (sort_by (retold s m) k h i j ys)) else []) (failing_same k h i j ys e)
        ∙ ap (λ x. if is_judged ys then or_else (failing s k h i j ys) (placing s k h i j x) else []) (sort_same k h i j ys e w)

    built_by_same : (k : Kind) (h : Hint) (i j : ℕ) (ys : Parts) (b : Bool) → TokenHas p k i j → PartsMarked p ys → built_by (retold s m) k h i j ys b ≡ built_by s k h i j ys b
    built_by_same k h i j ys true e w =
        ap (λ f. made f i j (sort_by (retold s m) k h i j ys) ys (all_given (takes (retold s m) k h ys) ys)) (form_same k h i j ys e)
        ∙ ap (λ x. made (form_by s k h i j ys) i j x ys (all_given (takes (retold s m) k h ys) ys)) (sort_same k h i j ys e w)
        ∙ ap (λ ks. made (form_by s k h i j ys) i j (sort_by s k h i j ys) ys (all_given ks ys)) (takes_same k h ys)
    built_by_same k h i j ys false e w = ap (λ f. made f i j sort.Unknown ys ys) (form_same k h i j ys e)

    built_on_same : (k : Kind) (h : Hint) (i j : ℕ) (ys : Parts) → TokenHas p k i j → PartsMarked p ys → built_on (retold s m) k h i j ys ≡ built_on s k h i j ys
    built_on_same k h i j ys e w =
        ap (λ fs. built_by (retold s m) k h i j ys (is_sound k ys fs)) (faults_same k h i j ys e w) ∙ built_by_same k h i j ys (is_sound k ys (own_faults s k h i j ys)) e w

    pub built_same : (k : Kind) (h : Hint) (i j : ℕ) (xs : Parts) → TokenHas p k i j → PartsMarked p xs → built (retold s m) k h i j xs ≡ built s k h i j xs
    built_same k h i j xs e w = built_on_same k h i j (layout k xs) e (layout_marked p k xs w)

    pub found_same : (k : Kind) (h : Hint) (i j : ℕ) (xs : Parts) → TokenHas p k i j → PartsMarked p xs → found (retold s m) k h i j xs ≡ found s k h i j xs
    found_same k h i j xs e w = faults_same k h i j (layout k xs) e (layout_marked p k xs w)
