-- Expressions and types elsewhere.
use Rattle.std.proofs.Common.{◌≡◌, ◌∙◌, Bool, false, List, [], ◌∷◌, ◌++◌, map, Option, Some, None, refl, sym, ap, subst}
use Rattle.std.specs.Prelude.{if◌then◌else◌}
use Rattle.std.proofs.lemmas.List.{map-append}
use Rattle.go_grammar.specs.declared.kind.Kind.{Kind}
use Rattle.go_grammar.specs.declared.kind.Kind.TheVariants as kind
use Rattle.go_grammar.specs.Trees.{Tree, node, Trees, none, more, skip, kind_of}
use Rattle.go_grammar.specs.Grammar.{is_name, is_parameter, ends_from}
use Rattle.go_rewriting.specs.Places.{carry, carries}
use Rattle.go_types.specs.Relations.{Rights}
use Rattle.go_typed.specs.Trees.{typed}
use Rattle.go_exprs_rules.specs.declared.fault.TypeFault.{TypeFault}
use Rattle.go_tree.specs.declared.object.Object.{Object}
use Rattle.go_tree.specs.declared.object.Object.TheVariants as object
use Rattle.go_exprs_rules.specs.Names.{object_sort, object_form, declared_form}
use Rattle.go_exprs_rules.specs.Scopes.{Needed, in_full, Scope, Hint, loose, declares}
use Rattle.go_exprs_rules.specs.Settling.{Part}
use Rattle.go_exprs_rules.specs.Tables.{Parts, argument_told, call_told, element_told, composite_told, keyed_told, skips_first, as_type_place, sequence_told, names_told, hint, part_scope, built, found}
use Rattle.go_exprs_rules.specs.Typing.{typing, typings, faults, faults_of_parts}
use Rattle.go_exprs_elsewhere.specs.Elsewhere.{Moves, form_moved, placed, fault_placed, MeansAlong, Along, KeepsSpelling, AllKeepSpelling, IsTypedElsewhere}
use Rattle.go_exprs_elsewhere.proofs.Along.{Meant, along}
use Rattle.go_exprs_elsewhere.proofs.Nodes.{built_kept, found_kept}
use Rattle.go_exprs_elsewhere.proofs.Parts.{optional, parts, fails}
use Rattle.go_exprs_elsewhere.proofs.Spelling.{spelled_of}
use Rattle.go_exprs_elsewhere.proofs.TypeNodes.{type_kept}

-- ---- what a name means doesn't depend on how it is needed

sort_in : (s : Scope) (k n : Needed) (o : Option Object) → object_sort (record s { needed = k }) n o ≡ object_sort s n o
sort_in s k n None = refl
sort_in s k n (Some object.Import) = refl
sort_in s k n (Some (object.Predeclared p)) = refl
sort_in s k n (Some (object.Package i)) = refl
sort_in s k n (Some (object.Local f i)) = refl

form_in : (s : Scope) (k : Needed) (o : Option Object) → object_form (record s { needed = k }) o ≡ object_form s o
form_in s k None = refl
form_in s k (Some object.Import) = refl
form_in s k (Some (object.Predeclared p)) = refl
form_in s k (Some (object.Package i)) = refl
form_in s k (Some (object.Local f i)) = refl

declared_in : (s : Scope) (k : Needed) (o : Option Object) → declared_form (record s { needed = k }) o ≡ declared_form s o
declared_in s k None = refl
declared_in s k (Some object.Import) = refl
declared_in s k (Some (object.Predeclared p)) = refl
declared_in s k (Some (object.Package i)) = refl
declared_in s k (Some (object.Local f i)) = refl

needed_along : (m : Moves) (s t : Scope) (k : Needed) → MeansAlong m s t → MeansAlong m (record s { needed = k }) (record t { needed = k })
needed_along m s t k w = record {
  texts = w.texts;
  characters = w.characters;
  standing = λ n i. sort_in t k n (t.objects (m.token i)) ∙ w.standing n i ∙ sym (sort_in s k n (s.objects i));
  object = λ i. form_in t k (t.objects (m.token i)) ∙ w.object i ∙ ap (form_moved m) (sym (form_in s k (s.objects i)));
  declared = λ i. declared_in t k (t.objects (m.token i)) ∙ w.declared i ∙ ap (form_moved m) (sym (declared_in s k (s.objects i)));
}

module _ (m : Moves) (a : Meant) where
  -- each token means at its new place what it means here
  abbrev Means : Scope → Type 0
  Means s = MeansAlong m (along a s) s

  means_in : (s : Scope) (k : Kind) (xs : Parts) → Means s → Means (part_scope s k xs)
  means_in s kind.SequenceType [] w = needed_along m (along a s) s in_full w
  means_in s kind.SequenceType (x ∷ xs) w = w
  means_in s k xs w = w

  -- ---- what parts are told

  kind_kept : (t : Tree) → kind_of (carry m.token t) ≡ kind_of t
  kind_kept (node k i j ps) = refl

  ends_kept : (b : Bool) (ps : Trees) → ends_from b (carries m.token ps) ≡ ends_from b ps
  ends_kept b none = refl
  ends_kept b (more (node k i j qs) ps) = ends_kept (is_parameter k) ps
  ends_kept b (skip ps) = ends_kept false ps

  skips_kept : (ps : Trees) → skips_first (carries m.token ps) ≡ skips_first ps
  skips_kept none = refl
  skips_kept (more t ps) = refl
  skips_kept (skip ps) = refl

  argument_kept : (xs : Parts) → argument_told (parts m xs) ≡ argument_told xs
  argument_kept [] = refl
  argument_kept (None ∷ xs) = refl
  argument_kept (Some (typed f i j l ps) ∷ []) = refl
  argument_kept (Some x ∷ y ∷ ys) = refl

  call_told_kept : (xs : Parts) → call_told (parts m xs) ≡ call_told xs
  call_told_kept [] = refl
  call_told_kept (x ∷ xs) = argument_kept (x ∷ xs)

  composite_kept : (rights : Rights) (xs : Parts) → composite_told rights (parts m xs) ≡ composite_told rights xs
  composite_kept rights [] = refl
  composite_kept rights (t ∷ xs) = ap (element_told rights) (type_kept m t)

  keyed_kept : (h : Hint) (xs : Parts) → keyed_told h (parts m xs) ≡ keyed_told h xs
  keyed_kept h [] = refl
  keyed_kept h (x ∷ xs) = refl

  sequence_kept : (h : Hint) (ps : Trees) (xs : Parts) → sequence_told h (carries m.token ps) (parts m xs) ≡ sequence_told h ps xs
  sequence_kept h ps [] = refl
  sequence_kept h ps (x ∷ xs) = ap (λ b. if b then loose else as_type_place h) (skips_kept ps)

  names_kept : (h : Hint) (xs : Parts) → names_told h (parts m xs) ≡ names_told h xs
  names_kept h [] = refl
  names_kept h (x ∷ xs) = refl

  hint_kept : (s : Scope) (k : Kind) (h : Hint) (ps : Trees) (xs : Parts) (n : Kind) → hint s k h (carries m.token ps) (parts m xs) n ≡ hint (along a s) k h ps xs n
  hint_kept s kind.Call h ps xs n = call_told_kept xs
  hint_kept s kind.Composite h ps xs n = composite_kept s.rights xs
  hint_kept s kind.Keyed h ps xs n = keyed_kept h xs
  hint_kept s kind.SequenceType h ps xs n = sequence_kept h ps xs
  hint_kept s kind.Parameters h ps xs n = ap (λ b. if b then (if is_name n then declares else h) else as_type_place h) (ends_kept false ps)
  hint_kept s kind.Parameter h ps xs n = names_kept h xs
  hint_kept s kind.Fields h ps xs n = names_kept h xs
  hint_kept s k h ps xs n = refl

  scope_kept : (s : Scope) (k : Kind) (xs : Parts) → part_scope s k (parts m xs) ≡ part_scope s k xs
  scope_kept s kind.SequenceType [] = refl
  scope_kept s kind.SequenceType (x ∷ xs) = refl
  scope_kept s k xs = refl

  scope_along : (s : Scope) (k : Kind) (xs : Parts) → along a (part_scope s k xs) ≡ part_scope (along a s) k xs
  scope_along s kind.SequenceType [] = refl
  scope_along s kind.SequenceType (x ∷ xs) = refl
  scope_along s k xs = refl

  -- ---- trees

  abbrev told : Scope → Kind → Hint → Trees → Parts → Tree → Hint
  told s k h all xs t = hint (along a s) k h all xs (kind_of t)

  abbrev part_typed : Scope → Kind → Hint → Trees → Parts → Tree → Part
  part_typed s k h all xs t = typing (part_scope (along a s) k xs) (told s k h all xs t) t

  told_kept : (s : Scope) (k : Kind) (h : Hint) (all : Trees) (xs : Parts) (t : Tree) → hint s k h (carries m.token all) (parts m xs) (kind_of (carry m.token t)) ≡ told s k h all xs t
  told_kept s k h all xs t = ap (hint s k h (carries m.token all) (parts m xs)) (kind_kept t) ∙ hint_kept s k h all xs (kind_of t)

  grown : (xs : Parts) (x : Option Part) → parts m xs ++ optional m x ∷ [] ≡ parts m (xs ++ x ∷ [])
  grown xs x = sym (map-append (optional m) xs (x ∷ []))

  part_kept : (s : Scope) (k : Kind) (h : Hint) (all : Trees) (xs : Parts) (t : Tree) → typing (part_scope s k xs) (told s k h all xs t) (carry m.token t) ≡ placed m (typing (along a (part_scope s k xs)) (told s k h all xs t) t)
      → typing (part_scope s k (parts m xs)) (hint s k h (carries m.token all) (parts m xs) (kind_of (carry m.token t))) (carry m.token t) ≡ placed m (part_typed s k h all xs t)
  part_kept s k h all xs t e =
      ap (λ z. typing z (hint s k h (carries m.token all) (parts m xs) (kind_of (carry m.token t))) (carry m.token t)) (scope_kept s k xs)
      ∙ ap (λ z. typing (part_scope s k xs) z (carry m.token t)) (told_kept s k h all xs t)
      ∙ e
      ∙ ap (λ z. placed m (typing z (told s k h all xs t) t)) (scope_along s k xs)

  mutual
    pub typed_kept : (s : Scope) (h : Hint) (t : Tree) → Means s → KeepsSpelling m t → typing s h (carry m.token t) ≡ placed m (typing (along a s) h t)
    typed_kept s h (node k i j ps) w e = ap (built s k h (m.token i) (m.token j)) (parts_kept s k h ps [] ps w e.1) ∙ built_kept m a s w k h i j (typings (along a s) k h ps [] ps) (spelled_of m (along a s) h k i j ps e.0)

    parts_kept : (s : Scope) (k : Kind) (h : Hint) (all : Trees) (xs : Parts) (ps : Trees) → Means s → AllKeepSpelling m ps → typings s k h (carries m.token all) (parts m xs) (carries m.token ps) ≡ parts m (typings (along a s) k h all xs ps)
    parts_kept s k h all xs none w e = refl
    parts_kept s k h all xs (skip ps) w e = ap (λ ys. typings s k h (carries m.token all) ys (carries m.token ps)) (grown xs None) ∙ parts_kept s k h all (xs ++ None ∷ []) ps w e
    parts_kept s k h all xs (more t ps) w e =
        ap (λ y. typings s k h (carries m.token all) (parts m xs ++ Some y ∷ []) (carries m.token ps)) (part_kept s k h all xs t (typed_kept (part_scope s k xs) (told s k h all xs t) t (means_in s k xs w) e.0))
        ∙ ap (λ ys. typings s k h (carries m.token all) ys (carries m.token ps)) (grown xs (Some (part_typed s k h all xs t)))
        ∙ parts_kept s k h all (xs ++ Some (part_typed s k h all xs t) ∷ []) ps w e.1

  abbrev all_fails : List (List TypeFault) → List (List TypeFault)
  all_fails fs = map (fails m) fs

  mutual
    pub faults_kept : (s : Scope) (h : Hint) (t : Tree) → Means s → KeepsSpelling m t → faults s h (carry m.token t) ≡ all_fails (faults (along a s) h t)
    faults_kept s h (node k i j ps) w e =
        let xs = typings (along a s) k h ps [] ps in
        ap (λ fs. fs ++ found s k h (m.token i) (m.token j) (typings s k h (carries m.token ps) [] (carries m.token ps)) ∷ []) (parts_faults_kept s k h ps [] ps w e.1)
        ∙ ap (λ ys. all_fails (faults_of_parts (along a s) k h ps [] ps) ++ found s k h (m.token i) (m.token j) ys ∷ []) (parts_kept s k h ps [] ps w e.1)
        ∙ ap (λ fs. all_fails (faults_of_parts (along a s) k h ps [] ps) ++ fs ∷ []) (found_kept m a s w k h i j xs (spelled_of m (along a s) h k i j ps e.0))
        ∙ sym (map-append (fails m) (faults_of_parts (along a s) k h ps [] ps) (found (along a s) k h i j xs ∷ []))

    parts_faults_kept : (s : Scope) (k : Kind) (h : Hint) (all : Trees) (xs : Parts) (ps : Trees) → Means s → AllKeepSpelling m ps
        → faults_of_parts s k h (carries m.token all) (parts m xs) (carries m.token ps) ≡ all_fails (faults_of_parts (along a s) k h all xs ps)
    parts_faults_kept s k h all xs none w e = refl
    parts_faults_kept s k h all xs (skip ps) w e = ap (λ ys. faults_of_parts s k h (carries m.token all) ys (carries m.token ps)) (grown xs None) ∙ parts_faults_kept s k h all (xs ++ None ∷ []) ps w e
    parts_faults_kept s k h all xs (more t ps) w e =
        let to = told s k h all xs t in
        let x = part_typed s k h all xs t in
        let here : faults (part_scope s k (parts m xs)) (hint s k h (carries m.token all) (parts m xs) (kind_of (carry m.token t))) (carry m.token t) ≡ all_fails (faults (part_scope (along a s) k xs) to t) =
        ap (λ z. faults z (hint s k h (carries m.token all) (parts m xs) (kind_of (carry m.token t))) (carry m.token t)) (scope_kept s k xs)
        ∙ ap (λ z. faults (part_scope s k xs) z (carry m.token t)) (told_kept s k h all xs t)
        ∙ faults_kept (part_scope s k xs) to t (means_in s k xs w) e.0
        ∙ ap (λ z. all_fails (faults z to t)) (scope_along s k xs) in
        ap (λ fs. fs ++ faults_of_parts s k h (carries m.token all) (parts m xs ++ Some (typing (part_scope s k (parts m xs)) (hint s k h (carries m.token all) (parts m xs) (kind_of (carry m.token t))) (carry m.token t)) ∷ []) (carries m.token ps)) here
        ∙ ap (λ y. all_fails (faults (part_scope (along a s) k xs) to t) ++ faults_of_parts s k h (carries m.token all) (parts m xs ++ Some y ∷ []) (carries m.token ps)) (part_kept s k h all xs t (typed_kept (part_scope s k xs) to t (means_in s k xs w) e.0))
        ∙ ap (λ ys. all_fails (faults (part_scope (along a s) k xs) to t) ++ faults_of_parts s k h (carries m.token all) ys (carries m.token ps)) (grown xs (Some x))
        ∙ ap (λ fs. all_fails (faults (part_scope (along a s) k xs) to t) ++ fs) (parts_faults_kept s k h all (xs ++ Some x ∷ []) ps w e.1)
        ∙ sym (map-append (fails m) (faults (part_scope (along a s) k xs) to t) (faults_of_parts (along a s) k h all (xs ++ Some x ∷ []) ps))

-- ---- any scope that is along the other one

abbrev meant : Scope → Meant
meant s = record { iota = s.iota; texts = s.texts; characters = s.characters; objects = s.objects; sorts = s.sorts; referents = s.referents }

is_along : (m : Moves) (s t : Scope) → Along m s t → along (meant s) t ≡ s
is_along m s t c = λ k. record {
  rights = c.rights k;
  iota = s.iota;
  texts = s.texts;
  characters = s.characters;
  objects = s.objects;
  sorts = s.sorts;
  referents = s.referents;
  needed = c.needed k;
  limits = c.limits k;
}

pub typed_elsewhere : (m : Moves) (s t : Scope) (h : Hint) (x : Tree) → Along m s t → KeepsSpelling m x → IsTypedElsewhere m s t h x
typed_elsewhere m s t h x c e =
    let same = is_along m s t c in
    let w : MeansAlong m (along (meant s) t) t = subst (λ z. MeansAlong m z t) (sym same) c.means in
    record {
      typed = typed_kept m (meant s) t h x w e ∙ ap (λ z. placed m (typing z h x)) same;
      failing = faults_kept m (meant s) t h x w e ∙ ap (λ z. map (λ (fs : List TypeFault). map (fault_placed m) fs) (faults z h x)) same;
    }
