-- What the program holds stands for the same in a table with more types.
use Rattle.std.proofs.Common.{◌≡◌, ℕ, suc, ◌<◌, ◌≤◌, List, [], ◌∷◌, Option, Some, None, length, map, refl, ap, ◌∙◌, arith}
use Rattle.std.specs.Prelude.{slice_get}
use Rattle.std.specs.Option.{option_map}
use Rattle.std.proofs.lemmas.List.{length-append}
use Rattle.go_types.specs.Trees.{TypeTree}
use Rattle.go_types.specs.Tables.{Table, IsTable, type_of, rights_of}
use Rattle.go_types.specs.Relations.{Rights}
use Rattle.go_types_relations.specs.Extends.{Extends, Grows}
use Rattle.go_types_relations.proofs.Public.{tree_stays}
use Rattle.go_typed.specs.declared.sort.Sort as program
use Rattle.go_typed.specs.declared.node.TypedNode.{TypedNode}
use Rattle.go_typed.specs.Trees.{Sort, Nothing, Unknown, Blank, Nil, Builtin, Println, Package, IsType, Value, Constant, Open, OpenConstant, Results, Label, Typed, typed, Typeds, more, skip, sort_mapped, label_mapped, mapped, all_mapped, SortHas, Every, EveryPart}
use Rattle.go_typed.specs.Trees as trees
use Rattle.go_typed.specs.Views.{view, views, sort_view, seen, sort_seen, Known, KnownSort, AllKnown}
use Rattle.go_exprs_rules.specs.declared.basics.Basics.{Basics}
use Rattle.go_exprs_rules.specs.declared.hint.Hint as hints
use Rattle.go_exprs_rules.specs.declared.hint.Hint.TheVariants as hint
use Rattle.go_exprs_rules.specs.Seen.{AreBasics}
use Rattle.go_exprs_rules.specs.Hints.{hint_seen, KnownHint}
use Rattle.go_exprs_rules.specs.Scopes.{Scope, Hint, element, member}
use Rattle.go_exprs_rules.specs.Tables as tables
use Rattle.go_exprs_rules.specs.Tables.{Parts}
use Rattle.go_grammar.specs.declared.kind.Kind.{Kind}
use Rattle.go_grammar.specs.Trees.{Trees}
use Rattle.go_exprs_types.specs.declared.scope.Scope as program_scope
use Rattle.go_exprs_types.specs.Naming.{names, KnownScope, KnownStanding, sort_of_object, by_need, told_in_full, told_at_once, told_loosely, objects_seen, locals_seen}
use Rattle.go_exprs_types.specs.declared.standing.Standing.{Standing}
use Rattle.go_exprs_rules.specs.Settling.{Part}
use Rattle.go_exprs_rules.specs.Sorts.{Stands}

-- ---- facts that stay for more numbers

module _ {P Q : ℕ → Type 0} (f : (i : ℕ) → P i → Q i) where
  pub sort_more : (x : Sort ℕ) → SortHas P x → SortHas Q x
  sort_more (IsType t) h = f t h
  sort_more (Value t) h = f t h
  sort_more (Constant t c) h = f t h
  sort_more (Results t) h = f t h
  sort_more Nothing h = tt
  sort_more Unknown h = tt
  sort_more Blank h = tt
  sort_more Nil h = tt
  sort_more (Builtin b) h = tt
  sort_more Println h = tt
  sort_more Package h = tt
  sort_more (Open u) h = tt
  sort_more (OpenConstant c) h = tt

  mutual
    pub tree_more : (x : Typed ℕ) → Every P x → Every Q x
    tree_more (typed g i j l ps) h = (sort_more l.sort h.0, trees_more ps h.1)

    pub trees_more : (ps : Typeds ℕ) → EveryPart P ps → EveryPart Q ps
    trees_more trees.none h = tt
    trees_more (more p ps) h = (tree_more p h.0, trees_more ps h.1)
    trees_more (skip ps) h = trees_more ps h

-- ---- words for types that agree

module _ {P : ℕ → Type 0} (f g : ℕ → TypeTree) (same : (i : ℕ) → P i → f i ≡ g i) where
  pub sort_same : (x : Sort ℕ) → SortHas P x → sort_mapped f x ≡ sort_mapped g x
  sort_same (IsType t) h = ap IsType (same t h)
  sort_same (Value t) h = ap Value (same t h)
  sort_same (Constant t c) h = ap (λ u. let s : Stands = Constant u c in s) (same t h)
  sort_same (Results t) h = ap Results (same t h)
  sort_same Nothing h = refl
  sort_same Unknown h = refl
  sort_same Blank h = refl
  sort_same Nil h = refl
  sort_same (Builtin b) h = refl
  sort_same Println h = refl
  sort_same Package h = refl
  sort_same (Open u) h = refl
  sort_same (OpenConstant c) h = refl

  mutual
    pub tree_same : (x : Typed ℕ) → Every P x → mapped f x ≡ mapped g x
    tree_same (typed k i j l ps) h =
        ap (λ (x : Stands). let p : Part = typed k i j (record { sort = x; varies = l.varies; calls = l.calls }) (all_mapped f ps) in p) (sort_same l.sort h.0)
        ∙ ap (λ (qs : Typeds TypeTree). let p : Part = typed k i j (label_mapped g l) qs in p) (trees_same ps h.1)

    pub trees_same : (ps : Typeds ℕ) → EveryPart P ps → all_mapped f ps ≡ all_mapped g ps
    trees_same trees.none h = refl
    trees_same (more p ps) h = ap (λ q. more q (all_mapped f ps)) (tree_same p h.0) ∙ ap (more (mapped g p)) (trees_same ps h.1)
    trees_same (skip ps) h = ap skip (trees_same ps h)

-- ---- in a table with more types

module _ (old new : Table) (ok : IsTable old) (e : Extends old new) where
  pub longer : length old.shapes ≤ length new.shapes
  longer = let size = ap length e.shapes ∙ length-append old.shapes e.added in omega (arith, size)

  below : (i : ℕ) → i < length old.shapes → i < length new.shapes
  below i h = omega (arith, longer)

  stays : (i : ℕ) → i < length old.shapes → type_of new.shapes i ≡ type_of old.shapes i
  stays i h = tree_stays old new ok e i h

  pub sort_known : (x : program.Sort) → KnownSort (length old.shapes) x → KnownSort (length new.shapes) x
  sort_known x h = sort_more below (sort_view x) h

  pub node_known : (n : TypedNode) → Known (length old.shapes) n → Known (length new.shapes) n
  node_known n h = tree_more below (view n) h

  pub parts_known : (ns : List (Option TypedNode)) → AllKnown (length old.shapes) ns → AllKnown (length new.shapes) ns
  parts_known ns h = trees_more below (views ns) h

  pub hint_known : (h : hints.Hint) → KnownHint (length old.shapes) h → KnownHint (length new.shapes) h
  hint_known (hint.Element i) h = below i h
  hint_known (hint.Member i) h = below i h
  hint_known hint.Value k = tt
  hint_known hint.Several k = tt
  hint_known hint.TypePlace k = tt
  hint_known hint.Loose k = tt
  hint_known hint.Inside k = tt
  hint_known hint.OneInside k = tt
  hint_known hint.LooseInside k = tt
  hint_known hint.Callee k = tt
  hint_known hint.Statement k = tt
  hint_known hint.Target k = tt
  hint_known hint.Declares k = tt
  hint_known hint.Free k = tt
  hint_known hint.Elided k = tt

  pub sort_stays : (x : program.Sort) → KnownSort (length old.shapes) x → sort_seen new x ≡ sort_seen old x
  sort_stays x h = sort_same (type_of new.shapes) (type_of old.shapes) stays (sort_view x) h

  pub node_stays : (n : TypedNode) → Known (length old.shapes) n → seen new n ≡ seen old n
  node_stays n h = tree_same (type_of new.shapes) (type_of old.shapes) stays (view n) h

  pub parts_stay : (ns : List (Option TypedNode)) → AllKnown (length old.shapes) ns → map (option_map (seen new)) ns ≡ map (option_map (seen old)) ns
  parts_stay [] h = refl
  parts_stay (None ∷ ns) h = ap (λ xs. None ∷ xs) (parts_stay ns h)
  parts_stay (Some n ∷ ns) h = ap (λ x. Some x ∷ map (option_map (seen new)) ns) (node_stays n h.0) ∙ ap (λ xs. Some (seen old n) ∷ xs) (parts_stay ns h.1)

  pub hint_stays : (h : hints.Hint) → KnownHint (length old.shapes) h → hint_seen new h ≡ hint_seen old h
  hint_stays (hint.Element i) k = ap element (stays i k)
  hint_stays (hint.Member i) k = ap member (stays i k)
  hint_stays hint.Value k = refl
  hint_stays hint.Several k = refl
  hint_stays hint.TypePlace k = refl
  hint_stays hint.Loose k = refl
  hint_stays hint.Inside k = refl
  hint_stays hint.OneInside k = refl
  hint_stays hint.LooseInside k = refl
  hint_stays hint.Callee k = refl
  hint_stays hint.Statement k = refl
  hint_stays hint.Target k = refl
  hint_stays hint.Declares k = refl
  hint_stays hint.Free k = refl
  hint_stays hint.Elided k = refl

  pub basics_stay : (b : Basics) → AreBasics old b → AreBasics new b
  basics_stay b h = record {
    boolean_known = below b.boolean h.boolean_known;
    boolean_is = stays b.boolean h.boolean_known ∙ h.boolean_is;
    text_known = below b.text h.text_known;
    text_is = stays b.text h.text_known ∙ h.text_is;
    int_known = below b.int h.int_known;
    int_is = stays b.int h.int_known ∙ h.int_is;
    uint_known = below b.uint h.uint_known;
    uint_is = stays b.uint h.uint_known ∙ h.uint_is;
    byte_known = below b.byte h.byte_known;
    byte_is = stays b.byte h.byte_known ∙ h.byte_is;
    rune_known = below b.rune h.rune_known;
    rune_is = stays b.rune h.rune_known ∙ h.rune_is;
    procedure_known = below b.procedure h.procedure_known;
    procedure_is = stays b.procedure h.procedure_known ∙ h.procedure_is;
  }

  pub sorts_stay : (xs : List (Sort ℕ)) → ((k : ℕ) (x : Sort ℕ) → slice_get xs k ≡ Some x → SortHas (λ t. t < length old.shapes) x) → map (sort_mapped (type_of new.shapes)) xs ≡ map (sort_mapped (type_of old.shapes)) xs
  sorts_stay [] h = refl
  sorts_stay (x ∷ xs) h =
      ap (λ y. y ∷ map (sort_mapped (type_of new.shapes)) xs) (sort_same (type_of new.shapes) (type_of old.shapes) stays x (h 0 x refl))
      ∙ ap (λ ys. sort_mapped (type_of old.shapes) x ∷ ys) (sorts_stay xs (λ k y w. h (suc k) y w))

  pub locals_stay : (xs : List (Option (Sort ℕ))) → ((k : ℕ) (x : Sort ℕ) → slice_get xs k ≡ Some (Some x) → SortHas (λ t. t < length old.shapes) x)
      → map (option_map (sort_mapped (type_of new.shapes))) xs ≡ map (option_map (sort_mapped (type_of old.shapes))) xs
  locals_stay [] h = refl
  locals_stay (None ∷ xs) h = ap (λ ys. None ∷ ys) (locals_stay xs (λ k y w. h (suc k) y w))
  locals_stay (Some x ∷ xs) h =
      ap (λ y. Some y ∷ map (option_map (sort_mapped (type_of new.shapes))) xs) (sort_same (type_of new.shapes) (type_of old.shapes) stays x (h 0 x refl))
      ∙ ap (λ ys. Some (sort_mapped (type_of old.shapes) x) ∷ ys) (locals_stay xs (λ k y w. h (suc k) y w))

-- ---- what names mean

module _ (old new : Table) (ok : IsTable old) (g : Grows old new) where
  abbrev with_sorts : program_scope.Scope → Rights → List Stands → List Stands → List Stands → List Stands → List (Option Stands) → Scope
  with_sorts s rights full once loose objects locals = record (names old s) { rights = rights; sorts = λ need o. sort_of_object (by_need full once loose need) objects locals o }

  full_stays : (xs : List Standing) → ((k : ℕ) (x : Standing) → slice_get xs k ≡ Some x → KnownStanding (length old.shapes) x) → told_in_full new xs ≡ told_in_full old xs
  full_stays [] h = refl
  full_stays (x ∷ xs) h =
      ap (λ y. y ∷ told_in_full new xs) (sort_stays old new ok g.extends x.in_full (h 0 x refl).in_full) ∙ ap (λ ys. sort_seen old x.in_full ∷ ys) (full_stays xs (λ k y w. h (suc k) y w))

  once_stays : (xs : List Standing) → ((k : ℕ) (x : Standing) → slice_get xs k ≡ Some x → KnownStanding (length old.shapes) x) → told_at_once new xs ≡ told_at_once old xs
  once_stays [] h = refl
  once_stays (x ∷ xs) h =
      ap (λ y. y ∷ told_at_once new xs) (sort_stays old new ok g.extends x.at_once (h 0 x refl).at_once) ∙ ap (λ ys. sort_seen old x.at_once ∷ ys) (once_stays xs (λ k y w. h (suc k) y w))

  loose_stays : (xs : List Standing) → ((k : ℕ) (x : Standing) → slice_get xs k ≡ Some x → KnownStanding (length old.shapes) x) → told_loosely new xs ≡ told_loosely old xs
  loose_stays [] h = refl
  loose_stays (x ∷ xs) h =
      ap (λ y. y ∷ told_loosely new xs) (sort_stays old new ok g.extends x.loosely (h 0 x refl).loosely) ∙ ap (λ ys. sort_seen old x.loosely ∷ ys) (loose_stays xs (λ k y w. h (suc k) y w))

  pub names_stay : (s : program_scope.Scope) → KnownScope (length old.shapes) s → names new s ≡ names old s
  names_stay s h =
      let full = told_in_full new s.told.now in
      let once = told_at_once new s.told.now in
      let loose = told_loosely new s.told.now in
      let objects = objects_seen new s.env.now.objects in
      let locals = locals_seen new s.locals.now.sorts in
      ap (λ rights. with_sorts s rights full once loose objects locals) g.rights
      ∙ ap (λ xs. with_sorts s (rights_of old) xs once loose objects locals) (full_stays s.told.now h.told)
      ∙ ap (λ xs. with_sorts s (rights_of old) (told_in_full old s.told.now) xs loose objects locals) (once_stays s.told.now h.told)
      ∙ ap (λ xs. with_sorts s (rights_of old) (told_in_full old s.told.now) (told_at_once old s.told.now) xs objects locals) (loose_stays s.told.now h.told)
      ∙ ap (λ xs. with_sorts s (rights_of old) (told_in_full old s.told.now) (told_at_once old s.told.now) (told_loosely old s.told.now) xs locals) (sorts_stay old new ok g.extends s.env.now.objects h.objects)
      ∙ ap (with_sorts s (rights_of old) (told_in_full old s.told.now) (told_at_once old s.told.now) (told_loosely old s.told.now) (objects_seen old s.env.now.objects)) (locals_stay old new ok g.extends s.locals.now.sorts h.locals)

  standing_known : (x : Standing) → KnownStanding (length old.shapes) x → KnownStanding (length new.shapes) x
  standing_known x h = record {
    in_full = sort_known old new ok g.extends x.in_full h.in_full;
    at_once = sort_known old new ok g.extends x.at_once h.at_once;
    loosely = sort_known old new ok g.extends x.loosely h.loosely;
  }

  pub scope_known : (s : program_scope.Scope) → KnownScope (length old.shapes) s → KnownScope (length new.shapes) s
  scope_known s h = record {
    told = λ k x e. standing_known x (h.told k x e);
    objects = λ k x e. sort_more (below old new ok g.extends) x (h.objects k x e);
    locals = λ k x e. sort_more (below old new ok g.extends) x (h.locals k x e);
  }

  pub told_is : (s : program_scope.Scope) → KnownScope (length old.shapes) s → (k : Kind) (h : hints.Hint) → KnownHint (length old.shapes) h → (all : Trees) (xs : Parts) (n m : Kind) (told : Hint) → m ≡ n
      → told ≡ tables.hint (names new s) k (hint_seen new h) all xs m → told ≡ tables.hint (names old s) k (hint_seen old h) all xs n
  told_is s hs k h kh all xs n m told e t =
      t ∙ ap (λ z. tables.hint z k (hint_seen new h) all xs m) (names_stay s hs) ∙ ap (λ z. tables.hint (names old s) k z all xs m) (hint_stays old new ok g.extends h kh) ∙ ap (tables.hint (names old s) k (hint_seen old h) all xs) e
