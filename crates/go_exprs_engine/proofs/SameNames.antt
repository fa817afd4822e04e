-- Where the names of an expression stand for the same, it is typed the same.
use Rattle.std.proofs.Common.{◌≡◌, ℕ, List, [], ◌∷◌, ◌++◌, Option, Some, None, Bool, true, false, cond, refl, ap, sym, ◌∙◌}
use Rattle.std.specs.Prelude.{◌&&◌}
use Rattle.go_types.specs.Relations.{Rights}
use Rattle.go_typed.specs.Trees as sort
use Rattle.go_grammar.specs.declared.kind.Kind.{Kind}
use Rattle.go_grammar.specs.declared.kind.Kind.TheVariants as kind
use Rattle.go_grammar.specs.Trees.{Tree, node, Trees, none, more, skip, kind_of}
use Rattle.go_tree.specs.declared.object.Object.{Object}
use Rattle.go_tree.specs.declared.object.Object.TheVariants as object
use Rattle.go_typed.specs.declared.form.Form.{Form}
use Rattle.go_exprs_rules.specs.declared.fault.TypeFault.{TypeFault}
use Rattle.go_exprs_rules.specs.Names.{name_sort, name_form, object_form, declared_form, form_or_type, place_failing}
use Rattle.go_exprs_rules.specs.Scopes.{Needed, Scope, Hint, value, several, type_place, loose, inside, one_inside, loose_inside, callee, statement, target, declares, free, element, member, elided}
use Rattle.go_exprs_rules.specs.Settling.{Part}
use Rattle.go_exprs_rules.specs.Sorts.{Stands}
use Rattle.go_exprs_rules.specs.Tables.{Parts, hint, part_scope, is_judged, no_faults, made, built_by, built, found}
use Rattle.go_exprs_rules.specs.Typing.{typing, typings, faults, faults_of_parts}
use Rattle.go_exprs_engine.specs.Alike.{told, NameAlike, Alike, PartsAlike}

module _ (r : Needed → Object → Stands) where
  form_same : (s : Scope) (o : Option Object) → object_form (told s r) o ≡ object_form s o
  form_same s None = refl
  form_same s (Some object.Import) = refl
  form_same s (Some (object.Predeclared p)) = refl
  form_same s (Some (object.Package n)) = refl
  form_same s (Some (object.Local f n)) = refl

  declared_same : (s : Scope) (o : Option Object) → declared_form (told s r) o ≡ declared_form s o
  declared_same s None = refl
  declared_same s (Some object.Import) = refl
  declared_same s (Some (object.Predeclared p)) = refl
  declared_same s (Some (object.Package n)) = refl
  declared_same s (Some (object.Local f n)) = refl

  used_same : (s : Scope) (h : Hint) (i : ℕ) → name_sort (told s r) h i ≡ name_sort s h i
      → form_or_type (name_sort (told s r) h i) (object_form (told s r) (s.objects i)) ≡ form_or_type (name_sort s h i) (object_form s (s.objects i))
  used_same s h i e = ap (λ x. form_or_type x (object_form (told s r) (s.objects i))) e ∙ ap (form_or_type (name_sort s h i)) (form_same s (s.objects i))

  name_form_same : (s : Scope) (h : Hint) (i : ℕ) → name_sort (told s r) h i ≡ name_sort s h i → name_form (told s r) h i ≡ name_form s h i
  name_form_same s declares i e = declared_same s (s.objects i)
  name_form_same s free i e = declared_same s (s.objects i)
  name_form_same s value i e = used_same s value i e
  name_form_same s several i e = used_same s several i e
  name_form_same s type_place i e = used_same s type_place i e
  name_form_same s loose i e = used_same s loose i e
  name_form_same s inside i e = used_same s inside i e
  name_form_same s one_inside i e = used_same s one_inside i e
  name_form_same s loose_inside i e = used_same s loose_inside i e
  name_form_same s callee i e = used_same s callee i e
  name_form_same s statement i e = used_same s statement i e
  name_form_same s target i e = used_same s target i e
  name_form_same s (element t) i e = used_same s (element t) i e
  name_form_same s (member t) i e = used_same s (member t) i e
  name_form_same s elided i e = used_same s elided i e

  hint_same : (s : Scope) (k : Kind) (h : Hint) (all : Trees) (xs : Parts) (n : Kind) → hint (told s r) k h all xs n ≡ hint s k h all xs n
  hint_same s kind.Composite h all xs n = refl
  hint_same s kind.LiteralValue h all xs n = refl
  hint_same s k h all xs n = refl

  scope_same : (s : Scope) (k : Kind) (xs : Parts) → part_scope (told s r) k xs ≡ told (part_scope s k xs) r
  scope_same s kind.SequenceType [] = refl
  scope_same s kind.SequenceType (x ∷ xs) = refl
  scope_same s k xs = refl

  -- a name over its parts, of which it has none, by what it stands for and its form
  abbrev name_faults : Rights → Hint → ℕ → ℕ → Parts → Stands → List TypeFault
  name_faults rights h i j xs x = cond (is_judged xs) (place_failing rights h i j x) []

  abbrev name_by : ℕ → ℕ → Parts → Stands → Form → Bool → Part
  name_by i j xs x f true = made f i j x xs xs
  name_by i j xs x f false = made f i j sort.Unknown xs xs

  abbrev name_node : Rights → Hint → ℕ → ℕ → Parts → Stands → Form → Part
  name_node rights h i j xs x f = name_by i j xs x f (is_judged xs && no_faults (name_faults rights h i j xs x))

  by_is : (s : Scope) (h : Hint) (i j : ℕ) (xs : Parts) (b : Bool) → built_by s kind.Name h i j xs b ≡ name_by i j xs (name_sort s h i) (name_form s h i) b
  by_is s h i j xs true = refl
  by_is s h i j xs false = refl

  name_is : (s : Scope) (h : Hint) (i j : ℕ) (xs : Parts) → built s kind.Name h i j xs ≡ name_node s.rights h i j xs (name_sort s h i) (name_form s h i)
  name_is s h i j xs = by_is s h i j xs (is_judged xs && no_faults (name_faults s.rights h i j xs (name_sort s h i)))

  built_same : (s : Scope) (k : Kind) (h : Hint) (i j : ℕ) (xs : Parts) → NameAlike s r k h i → built (told s r) k h i j xs ≡ built s k h i j xs
  built_same s kind.Name h i j xs e =
      name_is (told s r) h i j xs ∙ ap (λ x. name_node s.rights h i j xs x (name_form (told s r) h i)) e
      ∙ ap (name_node s.rights h i j xs (name_sort s h i)) (name_form_same s h i e) ∙ sym (name_is s h i j xs)
  built_same s k h i j xs e = refl

  found_same : (s : Scope) (k : Kind) (h : Hint) (i j : ℕ) (xs : Parts) → NameAlike s r k h i → found (told s r) k h i j xs ≡ found s k h i j xs
  found_same s kind.Name h i j xs e = ap (name_faults s.rights h i j xs) e
  found_same s k h i j xs e = refl

  next_same : (s : Scope) (k : Kind) (h : Hint) (all : Trees) (xs : Parts) (p : Tree) → typing (told (part_scope s k xs) r) (hint s k h all xs (kind_of p)) p ≡ typing (part_scope s k xs) (hint s k h all xs (kind_of p)) p
      → typing (part_scope (told s r) k xs) (hint (told s r) k h all xs (kind_of p)) p ≡ typing (part_scope s k xs) (hint s k h all xs (kind_of p)) p
  next_same s k h all xs p e =
      ap (λ z. typing z (hint (told s r) k h all xs (kind_of p)) p) (scope_same s k xs) ∙ ap (λ z. typing (told (part_scope s k xs) r) z p) (hint_same s k h all xs (kind_of p)) ∙ e

  mutual
    pub typed_same : (s : Scope) (h : Hint) (t : Tree) → Alike s r h t → typing (told s r) h t ≡ typing s h t
    typed_same s h (node k i j ps) a = ap (built (told s r) k h i j) (parts_same s k h ps [] ps a.1) ∙ built_same s k h i j (typings s k h ps [] ps) a.0

    parts_same : (s : Scope) (k : Kind) (h : Hint) (all : Trees) (xs : Parts) (ps : Trees) → PartsAlike s r k h all xs ps → typings (told s r) k h all xs ps ≡ typings s k h all xs ps
    parts_same s k h all xs none a = refl
    parts_same s k h all xs (more p ps) a =
        let x = typing (part_scope s k xs) (hint s k h all xs (kind_of p)) p in
        ap (λ z. typings (told s r) k h all (xs ++ Some z ∷ []) ps) (next_same s k h all xs p (typed_same (part_scope s k xs) (hint s k h all xs (kind_of p)) p a.0))
        ∙ parts_same s k h all (xs ++ Some x ∷ []) ps a.1
    parts_same s k h all xs (skip ps) a = parts_same s k h all (xs ++ None ∷ []) ps a

  mutual
    pub faults_same : (s : Scope) (h : Hint) (t : Tree) → Alike s r h t → faults (told s r) h t ≡ faults s h t
    faults_same s h (node k i j ps) a =
        ap (λ fs. fs ++ found (told s r) k h i j (typings (told s r) k h ps [] ps) ∷ []) (part_faults_same s k h ps [] ps a.1)
        ∙ ap (λ xs. faults_of_parts s k h ps [] ps ++ found (told s r) k h i j xs ∷ []) (parts_same s k h ps [] ps a.1)
        ∙ ap (λ fs. faults_of_parts s k h ps [] ps ++ fs ∷ []) (found_same s k h i j (typings s k h ps [] ps) a.0)

    part_faults_same : (s : Scope) (k : Kind) (h : Hint) (all : Trees) (xs : Parts) (ps : Trees) → PartsAlike s r k h all xs ps → faults_of_parts (told s r) k h all xs ps ≡ faults_of_parts s k h all xs ps
    part_faults_same s k h all xs none a = refl
    part_faults_same s k h all xs (more p ps) a =
        let x = typing (part_scope s k xs) (hint s k h all xs (kind_of p)) p in
        let told_p = hint s k h all xs (kind_of p) in
        let inner = part_scope s k xs in
        let own : faults (part_scope (told s r) k xs) (hint (told s r) k h all xs (kind_of p)) p ≡ faults inner told_p p =
        ap (λ z. faults z (hint (told s r) k h all xs (kind_of p)) p) (scope_same s k xs) ∙ ap (λ z. faults (told inner r) z p) (hint_same s k h all xs (kind_of p)) ∙ faults_same inner told_p p a.0 in
        ap (λ fs. fs ++ faults_of_parts (told s r) k h all (xs ++ Some (typing (part_scope (told s r) k xs) (hint (told s r) k h all xs (kind_of p)) p) ∷ []) ps) own
        ∙ ap (λ z. faults inner told_p p ++ faults_of_parts (told s r) k h all (xs ++ Some z ∷ []) ps) (next_same s k h all xs p (typed_same inner told_p p a.0))
        ∙ ap (λ gs. faults inner told_p p ++ gs) (part_faults_same s k h all (xs ++ Some x ∷ []) ps a.1)
    part_faults_same s k h all xs (skip ps) a = part_faults_same s k h all (xs ++ None ∷ []) ps a
