-- Functions that stay where they are, under other numbers of objects, functions and declared types.
use Rattle.std.proofs.Common.{◌≡◌, ◌∙◌, ℕ, suc, true, List, [], ◌∷◌, map, length, Option, Some, None, Result, Ok, Err, refl, sym, ap, subst, slice_get}
use Rattle.std.specs.Option.{option_map, unwrap_or}
use Rattle.go_grammar.specs.declared.kind.Kind.{Kind}
use Rattle.go_grammar.specs.declared.kind.Kind.TheVariants as kind
use Rattle.go_grammar.specs.declared.kind.Sort.TheVariants as declaring
use Rattle.go_grammar.specs.Trees.{Tree, node, Trees, none, more, skip, last}
use Rattle.go_rewriting.specs.Places.{carry, carries}
use Rattle.go_typed.specs.Contents.{func_renamed}
use Rattle.go_types_relations.specs.Renaming.{AreRenamed}
use Rattle.go_exprs_rules.specs.declared.fault.TypeFault.{TypeFault}
use Rattle.go_exprs_rules.specs.Faults.{judged, reported}
use Rattle.go_exprs_rules.specs.Scopes.{Scope, free}
use Rattle.go_exprs_rules.specs.Settling.{Part}
use Rattle.go_exprs_rules.specs.TypeNodes.{part_type}
use Rattle.go_stmts_defs.specs.Bodies.{numbers_from, start, signature_of, no_function, function_read}
use Rattle.go_stmts_defs.specs.Frames.{Frame, local_stands}
use Rattle.go_stmts_defs.specs.Laying.{local_named}
use Rattle.go_stmts_defs.specs.Reading.{Reading, read, reading, first_parts, entry_names}
use Rattle.go_package_defs.specs.Bodies.{Behind, behind_read, function_in}
use Rattle.go_renumbering.specs.Functions.{RenamedFunctions}
use Rattle.go_exprs_elsewhere.specs.Elsewhere.{Moves, placed, fault_placed, LastKept, KeepsLast, AllKeepLast, KeepsSpelling}
use Rattle.go_exprs_elsewhere.proofs.Public.{all_spelled, type_kept}
use Rattle.go_stmts_elsewhere.specs.Frames.{faults_placed, AlongFrames, AlongReadings, PlaceKept, KeepsPlaces, AllKeepPlaces}
use Rattle.go_stmts_elsewhere.specs.Functions.{KeepsOrder, LocalsStand, only_objects, func_numbered, NumberedFunctions}
use Rattle.go_stmts_elsewhere.proofs.Entering.{numbers_moved, entry_names_kept, first_parts_kept}
use Rattle.go_stmts_elsewhere.proofs.Functions.{locals_along, named_same, signature_along, reported_kept}
use Rattle.go_stmts_elsewhere.proofs.Reading.{reading_along}

-- lists that have the same elements at the same places
alike : {A : Type 0} (xs ys : List A) → ((n : ℕ) → slice_get ys n ≡ slice_get xs n) → ys ≡ xs
alike [] [] e = refl
alike [] (y ∷ ys) e = let h = e 0 in cc
alike (x ∷ xs) [] e = let h = e 0 in cc
alike (x ∷ xs) (y ∷ ys) e = let h = e 0 in let r = alike xs ys (λ n. e (suc n)) in cc

inner : (f g : TypeFault) → Some g ≡ Some f → g ≡ f
inner f g e = cc

same_maybe : (o : Option ℕ) → option_map (λ (n : ℕ). n) o ≡ o
same_maybe None = refl
same_maybe (Some n) = refl

mapped_same : {A : Type 0} (f g : ℕ → A) → ((i : ℕ) → g i ≡ f i) → (ns : List ℕ) → map g ns ≡ map f ns
mapped_same f g e [] = refl
mapped_same f g e (n ∷ ns) = ap (λ x. x ∷ map g ns) (e n) ∙ ap (λ xs. f n ∷ xs) (mapped_same f g e ns)

-- trees whose tokens stay
mutual
  pub carried : (x : Tree) → carry (λ (i : ℕ). i) x ≡ x
  carried (node k i j ps) = ap (node k i j) (all_carried ps)

  all_carried : (ps : Trees) → carries (λ (i : ℕ). i) ps ≡ ps
  all_carried none = refl
  all_carried (more t ts) = ap (λ u. more u (carries (λ (i : ℕ). i) ts)) (carried t) ∙ ap (more t) (all_carried ts)
  all_carried (skip ts) = ap skip (all_carried ts)

module _ (a b v d : ℕ → ℕ) where
  abbrev m : Moves
  m = only_objects a b v d

  order : KeepsOrder m
  order = record { less = λ i j. refl; same = λ i j. refl }

  last_stays : (k : Kind) (j : ℕ) → LastKept m k j
  last_stays kind.Selector j = refl
  last_stays k j = tt

  mutual
    keeps_last : (x : Tree) → KeepsLast m x
    keeps_last (node k i j ps) = (last_stays k j, all_keep_last ps)

    all_keep_last : (ts : Trees) → AllKeepLast m ts
    all_keep_last none = tt
    all_keep_last (more t ts) = (keeps_last t, all_keep_last ts)
    all_keep_last (skip ts) = all_keep_last ts

  place_stays : (k : Kind) (i j : ℕ) → PlaceKept m k i j
  place_stays (kind.Specification declaring.Type) i j = refl
  place_stays kind.FunctionDeclaration i j = refl
  place_stays k i j = tt

  mutual
    pub keeps_places : (x : Tree) → KeepsPlaces m x
    keeps_places (node k i j ps) = (place_stays k i j, all_keep_places ps)

    all_keep_places : (ts : Trees) → AllKeepPlaces m ts
    all_keep_places none = tt
    all_keep_places (more t ts) = (keeps_places t, all_keep_places ts)
    all_keep_places (skip ts) = all_keep_places ts

  pub spelling : (x : Tree) → KeepsSpelling m x
  spelling x = all_spelled m x (λ i. refl) (keeps_last x)

  numbers_stay : (ns : List (Option ℕ)) → numbers_moved m ns ≡ ns
  numbers_stay [] = refl
  numbers_stay (n ∷ ns) = ap (λ o. o ∷ numbers_moved m ns) (same_maybe n) ∙ ap (λ os. n ∷ os) (numbers_stay ns)

  module _ (s u : Scope) (count : ℕ) (types : ℕ → ℕ) (c : AlongFrames m (λ n. true) (start s count types) (start u count types)) (ls : LocalsStand s u) (old n : ℕ) (x : Tree) where
    function_numbered : (y : Part) (f g : Frame) → AlongFrames m (λ k. true) f g
        → function_read u n (last x) (signature_of u x) (placed m y) g ≡ func_numbered m n (function_read s old (last x) (signature_of s x) y f)
    function_numbered y f g r =
        let known = signature_along m (λ k. true) (start s count types) (start u count types) c ls x (spelling x) in
        let moved = ap (signature_of u) (sym (carried x)) ∙ known in
        let signature = ap (λ o. unwrap_or (part_type o) no_function) moved ∙ ap (λ o. unwrap_or o no_function) (type_kept m (signature_of s x)) in
        let parameters = ap (λ o. entry_names (first_parts o)) moved ∙ ap entry_names (first_parts_kept m (signature_of s x)) ∙ entry_names_kept m (first_parts (signature_of s x)) ∙ numbers_stay (entry_names (first_parts (signature_of s x))) in
        let locals = alike (map (local_stands f.locals) (numbers_from 0 (length f.locals))) (map (local_stands g.locals) (numbers_from 0 (length g.locals))) (λ k. locals_along m (λ k. true) f g r k refl) in
        let tokens = mapped_same (λ i. local_named (s.objects i)) (λ i. local_named (u.objects i))
        (λ i. named_same m (λ k. true) (start s count types) (start u count types) c ls (s.objects i) (u.objects i) (c.objects i) ∙ same_maybe (local_named (s.objects i))) (numbers_from 0 (last x)) in
        cc

    module _ (name : ℕ → ℕ) where
      -- what is said of the function in the scope between, and of the one that is renamed
      both : (b c : Behind) (q : Result Behind TypeFault) → c.function ≡ func_numbered m n b.function → c.rights ≡ b.rights → RenamedFunctions name (Ok c) q → NumberedFunctions m name n (Ok b) q
      both b c (Ok d) e k r = (r.0 ∙ ap (func_renamed name) e, subst (λ z. AreRenamed name z d.rights) k r.1)
      both b c (Err g) e k r = r

      faulty : (f g : TypeFault) (q : Result Behind TypeFault) → g ≡ f → RenamedFunctions name (Err g) q → NumberedFunctions m name n (Err f) q
      faulty f g (Ok d) e r = r
      faulty f g (Err h) e r = r ∙ e

      judged_numbered : (o p : Option TypeFault) → p ≡ option_map (fault_placed m) o → (b c : Behind) → c.function ≡ func_numbered m n b.function → c.rights ≡ b.rights → (q : Result Behind TypeFault)
          → RenamedFunctions name (judged p c) q → NumberedFunctions m name n (judged o b) q
      judged_numbered None None e b c h k q r = both b c q h k r
      judged_numbered (Some f) (Some g) e b c h k q r = faulty f g q (inner f g e) r
      judged_numbered None (Some g) e b c h k q r = cc
      judged_numbered (Some f) None e b c h k q r = cc

      read_numbered : (r p : Reading) → AlongReadings m (λ k. true) r p → (q : Result Behind TypeFault) → RenamedFunctions name (behind_read u n x p) q → NumberedFunctions m name n (behind_read s old x r) q
      read_numbered (read y fs f) (read z gs g) e q t =
          let same : read z gs g ≡ read (placed m y) (faults_placed m fs) g = ap (λ w. read w gs g) e.0 ∙ ap (λ hs. read (placed m y) hs g) e.1 in
          judged_numbered (reported fs) (reported (faults_placed m fs)) (reported_kept m order fs)
          (record { function = function_read s old (last x) (signature_of s x) y f; rights = f.around.rights })
          (record { function = function_read u n (last x) (signature_of u x) (placed m y) g; rights = g.around.rights })
          (function_numbered y f g e.2) e.2.rights q (subst (λ w. RenamedFunctions name (behind_read u n x w) q) same t)

      pub functions_numbered : (q : Result Behind TypeFault) → RenamedFunctions name (function_in u n count types x) q → NumberedFunctions m name n (function_in s old count types x) q
      functions_numbered q r =
          let along : AlongReadings m (λ k. true) (reading (start s count types) free x) (reading (start u count types) free x) =
          subst (λ w. AlongReadings m (λ k. true) (reading (start s count types) free x) (reading (start u count types) free w)) (carried x)
          (reading_along m (λ k. true) (start s count types) (start u count types) c free x (spelling x) (keeps_places x)) in
          read_numbered (reading (start s count types) free x) (reading (start u count types) free x) along q r
