-- The same fault of names is reported where a function is appended at which no rule fails.
use Rattle.std.proofs.Common.{◌≡◌, ◌∙◌, ℕ, suc, ◌+◌, ◌≤◌, Bool, true, false, ◌&&◌, ◌||◌, not, List, [], ◌∷◌, ◌++◌, length, map, drop, Option, Some, None, refl, sym, ap, subst, length-append, arith}
use Rattle.std.specs.Prelude.{if◌then◌else◌, nat_eq}
use Rattle.std.specs.List.{AllByRecursion}
use Rattle.std.proofs.lemmas.Bool.Decides.{nat_tests}
use Rattle.go_base.specs.declared.fault.FaultCode.TheVariants as code
use Rattle.go_tokens.specs.Tokens.{TokenList}
use Rattle.go_tree.specs.declared.context.Block.{Block}
use Rattle.go_tree.specs.declared.context.Block.TheVariants as block
use Rattle.go_tree.specs.declared.context.Entity.{Entity}
use Rattle.go_tree.specs.declared.context.Entity.TheVariants as entity
use Rattle.go_tree.specs.declared.event.Event.{Event}
use Rattle.go_tree.specs.declared.object.Predeclared.{Predeclared}
use Rattle.go_tree.specs.Branches.{misplaced, statements, first_place, limit}
use Rattle.go_tree.specs.Clauses.{imports}
use Rattle.go_tree.specs.Constants.{hidden_in}
use Rattle.go_tree.specs.Contexts.{is_package}
use Rattle.go_tree.specs.Declarations.{Found, found, new_among, declarations}
use Rattle.go_tree.specs.Duplicates.{second_members, second_defaults, duplicates}
use Rattle.go_tree.specs.Failures.{failing, of_files, least, or_else}
use Rattle.go_tree.specs.Faults.{clause_faults, lookup_faults, unused_faults, placed_faults, cycle_faults, name_faults, reported}
use Rattle.go_tree.specs.Lookups.{Asked, asked_in, asked_from, object_asked, is_import, is_counted, is_assigned, means, is_used, unused_variables, uses_import, imports_unless, unused_imports}
use Rattle.go_tree.specs.Meanings.{Meaning, Numbers, first_numbers, own_number, numbers_behind, numbered, imported_meaning, imported_from, meanings}
use Rattle.go_tree.specs.Needs.{needs_itself, cycles}
use Rattle.go_tree.specs.Objects.{known_object, object_by, is_declared_at}
use Rattle.go_tree.specs.Predeclared.{known_in, known_names}
use Rattle.go_tree.specs.Imports.{imports_fmt}
use Rattle.go_tree.specs.Redeclared.{second_declarations, has_import, hidden_imports, second_imports, none_new, redeclared}
use Rattle.go_tree.specs.Units.{Unit}
use Rattle.go_scopes_cycles.specs.Closure.{IsDeclared}
use Rattle.go_heads_added.specs.Added.{reaching, longer, IsAdded, IsParameter, LiesIn, NoneSays}
use Rattle.go_heads_added.specs.Faults.{FunctionIsFine, FileIsWithin}
use Rattle.go_heads_added.specs.Reported.{MeansShared, SourceIsShared, StaysPlaced}
use Rattle.go_heads_added.proofs.AsksSame.{AsksStay, asks_stay, imported_same, lookups_same, used_same}
use Rattle.go_heads_added.proofs.Circles.{IsOld, Maybe, SourceHas, asked_has, imports_have, itself_same, numbered_has}
use Rattle.go_heads_added.proofs.ClausesSame.{Same, clauses_same, five_same, four_same, nothing_changes, one_same, two_same}
use Rattle.go_heads_added.proofs.CirclesSame.{itself_settled}
use Rattle.go_heads_added.proofs.DeclaredSame.{between_same, hidden_same, new_same, second_same}
use Rattle.go_heads_added.proofs.Distinct.{Among, all_among, apart_at}
use Rattle.go_heads_added.proofs.Faultless as faultless
use Rattle.go_heads_added.proofs.Faultless.{import_same}
use Rattle.go_heads_added.proofs.Files.{Rule}
use Rattle.go_heads_added.proofs.Found.{found_before, found_after}
use Rattle.go_heads_added.proofs.Names.{g, front, rest, all, kept, others, added, first_meanings, new_meanings, other_meanings, declarations_were, declarations_are, meanings_were, meanings_are, new_aside}
use Rattle.go_heads_added.proofs.Objects.{were, are}
use Rattle.go_heads_added.proofs.SameInFiles.{defaults_same, lists_same, members_same, misplaced_same, seconds_same, statements_same, unused_same}
use Rattle.go_heads_added.proofs.Texts.{Says, all_both, all_front, all_behind, all_more}

-- ---- meanings

-- a name that is declared is no import
abbrev IsNoImport : Meaning → Type 0
IsNoImport m = SourceIsShared m.source → is_import (Some m.object) ≡ false

own_no_import : (l : Numbers) (b : Block) → is_import (Some (own_number l b)) ≡ false
own_no_import l block.Package = refl
own_no_import l (block.Local i) = refl

numbered_no_import : (l : Numbers) (ds : List Found) → AllByRecursion IsNoImport (numbered l ds)
numbered_no_import l [] = tt
numbered_no_import l (d ∷ ds) = (λ e. own_no_import l d.it.block, numbered_no_import (numbers_behind l d.it.entity d.it.block) ds)

imported_no_import : (n : ℕ) (us : List Unit) → AllByRecursion IsNoImport (imported_from n us)
imported_no_import n [] = tt
imported_no_import n (u ∷ us) = by (imports_fmt u.tokens u.events) (imported_no_import (suc n) us)
  where
    by : (b : Bool) → AllByRecursion IsNoImport (imported_from (suc n) us) → AllByRecursion IsNoImport (if b then imported_meaning n ∷ imported_from (suc n) us else imported_from (suc n) us)
    by true x = (λ e. absurd e, x)
    by false x = x

known_no_import : (o : Option Predeclared) → is_import (known_object o) ≡ false
known_no_import None = refl
known_no_import (Some p) = refl

counted_local : (e : Entity) (b : Block) → is_counted e b ≡ true → is_package b ≡ false
counted_local entity.Variable b h = turned (is_package b) h
  where
    turned : (x : Bool) → not x ≡ true → x ≡ false
    turned true z = cc
    turned false z = refl
counted_local entity.Constant b h = cc
counted_local entity.Type b h = cc
counted_local entity.Function b h = cc
counted_local entity.Parameter b h = cc

false_true : {A : Type 0} → false ≡ true → A
false_true e = cc

module _ (k n : ℕ) (name : List ℕ) (old new : List Unit) (h : IsAdded k n name old new) (i : LiesIn k n name old new h) (q : NoneSays name old) (w : FileIsWithin k n name old new h) (fine : FunctionIsFine k n name old new h)
    (s : StaysPlaced k n name old new h) where
  abbrev e : ℕ
  e = h.longer.end

  abbrev ts : TokenList
  ts = h.a.tokens

  abbrev us : TokenList
  us = h.b.tokens

  abbrev extra : List Event
  extra = h.longer.added

  abbrev longest : List Event
  longest = map (reaching e) h.a.events ++ extra

  abbrev asks : List Asked
  asks = faultless.asks k n name old new h i q w fine

  abbrev more_asks : List Asked
  more_asks = faultless.more_asks k n name old new h i q w fine

  abbrev mid : List Asked
  mid = faultless.mid k n name old new h i q w fine

  says : AllByRecursion (Says name) (h.before ++ h.a ∷ h.behind)
  says = faultless.says k n name old new h i q w fine

  by_rules : (r t : Rule) → AllByRecursion (Same r t) h.before → AllByRecursion (Same r t) h.behind → ((m : ℕ) → t m us longest ≡ r m ts h.a.events) → of_files t 0 new ≡ of_files r 0 old
  by_rules r t x y f =
      ap (of_files t 0) h.is ∙ one_same r t 0 h.before h.a h.b h.behind x y (λ m. ap (t m us) h.longer.events ∙ f m) ∙ ap (of_files r 0) (sym h.was)

  by_files : (r : Rule) → ((m : ℕ) → r m us longest ≡ r m ts h.a.events) → of_files r 0 new ≡ of_files r 0 old
  by_files r f = by_rules r r (nothing_changes r h.before) (nothing_changes r h.behind) f

  -- ---- declarations

  abbrev qs : List Found
  qs = new_among (all k n name old new h i) h.longer.parameters

  qs_parameters : AllByRecursion (IsParameter k n) qs
  qs_parameters = faultless.new_parameters k n name old new h i q w fine

  abbrev xs : List Found
  xs = kept k n name old new h i

  abbrev ys : List Found
  ys = others k n name old new h i

  were_declared : declarations old ≡ xs ++ ys
  were_declared = declarations_were k n name old new h i

  are_declared : declarations new ≡ map (longer k e) xs ++ (added k n name old new h i ++ map (longer k e) ys)
  are_declared = declarations_are k n name old new h i

  no_second : second_declarations [] (declarations new) ≡ second_declarations [] (declarations old)
  no_second =
      ap (second_declarations []) are_declared
      ∙ second_same k n e name h.longer.function qs h.longer.is_function qs_parameters xs ys (faultless.kept_old k n name old new h i q w fine) (faultless.others_old k n name old new h i q w fine)
      ∙ ap (second_declarations []) (sym were_declared)

  imports_there : has_import new ≡ has_import old
  imports_there = ap has_import h.is ∙ import_same h.before h.a h.b h.behind i.imports ∙ ap has_import (sym h.was)

  no_hidden : hidden_imports (has_import new) (declarations new) ≡ hidden_imports (has_import old) (declarations old)
  no_hidden =
      ap (λ z. hidden_imports z (declarations new)) imports_there ∙ ap (hidden_imports (has_import old)) are_declared
      ∙ hidden_same k n e name h.longer.function qs h.longer.is_function qs_parameters (has_import old) xs ys fine.imported ∙ ap (hidden_imports (has_import old)) (sym were_declared)

  no_second_import : of_files (second_imports false) 0 new ≡ of_files (second_imports false) 0 old
  no_second_import = by_files (second_imports false) (λ m. seconds_same n e ts us h.longer.words s.bytes false m h.a.events extra w.events fine.tells)

  all_new_there : none_new (declarations new) (found new) ≡ none_new (declarations old) (found old)
  all_new_there =
      ap (λ z. none_new z (found new)) are_declared ∙ ap (none_new (map (longer k e) xs ++ (added k n name old new h i ++ map (longer k e) ys))) (found_after k n name old new h i)
      ∙ new_same k n e name h.longer.function h.longer.parameters h.longer.is_function h.longer.are_parameters qs xs ys (front k n name old new h i) (rest k n name old new h i) qs_parameters
      ∙ ap (none_new (xs ++ ys)) (sym (found_before k n name old new h i)) ∙ ap (λ z. none_new z (found old)) (sym were_declared)

  once : redeclared new (declarations new) ≡ redeclared old (declarations old)
  once = four_same no_second no_hidden no_second_import all_new_there

  -- ---- names that are looked up

  stay : AsksStay k e (g k n name old new h i) mid asks more_asks
  stay =
      let x = first_meanings k n name old new h i in
      let y = new_meanings k n name old new h i in
      let z = other_meanings k n name old new h i in
      let r = asks_stay k n name e (g k n name old new h i) x y z (new_aside k n name old new h i) h.before h.a h.b h.behind extra h.place h.longer.events h.longer.words s.bytes w.events says in
      let R : List Unit → List Unit → List Meaning → List Meaning → Type 0 = λ os vs ms ns. AsksStay k e (g k n name old new h i) (asked_in ns k us extra) (asked_from ms 0 os) (asked_from ns 0 vs) in
      let ms = were k n name e (g k n name old new h i) x y z in
      let ns = are k n name e (g k n name old new h i) x y z in
      let one : R old (h.before ++ h.b ∷ h.behind) ms ns = subst (λ os. R os (h.before ++ h.b ∷ h.behind) ms ns) (sym h.was) r in
      let two : R old new ms ns = subst (λ vs. R old vs ms ns) (sym h.is) one in
      let three : R old new (meanings old) ns = subst (λ m. R old new m ns) (sym (meanings_were k n name old new h i)) two in
      subst (λ m. R old new (meanings old) m) (sym (meanings_are k n name old new h i)) three

  lookups : lookup_faults more_asks ≡ lookup_faults asks
  lookups = lookups_same k e (g k n name old new h i) mid asks more_asks stay fine.asks

  -- ---- imports that are used

  mid_no_import : AllByRecursion (λ a. Maybe IsNoImport a.meaning) mid
  mid_no_import =
      asked_has IsNoImport (meanings new) (all_both IsNoImport (imported_from 0 new) (numbered first_numbers (declarations new)) (imported_no_import 0 new) (numbered_no_import first_numbers (declarations new))) k us extra

  asked_no_import : (m : Option Meaning) (v : List ℕ) → MeansShared m → Maybe IsNoImport m → is_import (object_by v m) ≡ false
  asked_no_import None v x y = known_no_import (known_in known_names v)
  asked_no_import (Some m) v x y = y x

  none_imported : (m : ℕ) (as_ : List Asked) → AllByRecursion (λ a. MeansShared a.meaning) as_ → AllByRecursion (λ a. Maybe IsNoImport a.meaning) as_ → uses_import m as_ ≡ false
  none_imported m [] x y = refl
  none_imported m (a ∷ as_) x y = either (nat_eq a.file m) (is_import (object_asked a)) (uses_import m as_) (asked_no_import a.meaning a.name x.0 y.0) (none_imported m as_ x.1 y.1)
    where
      either : (p r t : Bool) → r ≡ false → t ≡ false → ((p && r) || t) ≡ false
      either true true t z o = cc
      either true false t z o = o
      either false r t z o = o

  imported : (m : ℕ) → uses_import m more_asks ≡ uses_import m asks
  imported m = imported_same k e (g k n name old new h i) m mid asks more_asks (faultless.follow k n name old new h i q w fine) (none_imported m mid s.shared mid_no_import)

  unused_rule : (p r : Bool) (m : ℕ) (zs : TokenList) (es : List Event) → p ≡ r → imports_unless p m zs es ≡ imports_unless r m zs es
  unused_rule p r m zs es z = ap (λ v. imports_unless v m zs es) z

  unused_in : (vs : List Unit) → AllByRecursion (Same (λ m. imports_unless (uses_import m asks) m) (λ m. imports_unless (uses_import m more_asks) m)) vs
  unused_in [] = tt
  unused_in (v ∷ vs) = (λ m. unused_rule (uses_import m more_asks) (uses_import m asks) m v.tokens v.events (imported m), unused_in vs)

  no_unused_import : unused_imports more_asks new ≡ unused_imports asks old
  no_unused_import =
      by_rules (λ m. imports_unless (uses_import m asks) m) (λ m. imports_unless (uses_import m more_asks) m) (unused_in h.before) (unused_in h.behind)
      (λ m. unused_rule (uses_import m more_asks) (uses_import m asks) m us longest (imported m) ∙ unused_same n e ts us h.longer.words s.bytes (uses_import m asks) m h.a.events extra w.events fine.tells)

  -- ---- variables that are used

  -- an old local variable
  record IsCounted (d : Found) : Type 0 where
    among : Among d (declarations old)
    aged : IsOld k n e (g k n name old new h i) d

  module _ (d : Found) (there : IsCounted d) (counted : is_counted d.it.entity d.it.block ≡ true) where
    abbrev Elsewhere : Found → Type 0
    Elsewhere x = is_package x.it.block ≡ true → is_declared_at d.file d.it.name (Some x) ≡ false

    old_elsewhere : (ds : List Found) → AllByRecursion (λ x. Among x (declarations old)) ds → AllByRecursion Elsewhere (map (longer k e) ds)
    old_elsewhere [] a = tt
    old_elsewhere (x ∷ ds) a = (λ p. apart_at old s.orderly x d a.0 there.among p (counted_local d.it.entity d.it.block counted), old_elsewhere ds a.1)

    new_elsewhere : (ds : List Found) → AllByRecursion (λ x. (x.file ≡ k) × (n ≤ x.it.name)) ds → AllByRecursion Elsewhere ds
    new_elsewhere [] a = tt
    new_elsewhere (x ∷ ds) a = (λ p. by (nat_eq x.file d.file) refl, new_elsewhere ds a.1)
      where
        by : (z : Bool) → nat_eq x.file d.file ≡ z → (z && nat_eq x.it.name d.it.name) ≡ false
        by false p = refl
        by true p =
            let file = a.0.0 in
            let named = a.0.1 in
            let below = (there.aged (let z : nat_eq d.file k ≡ true = grind (arith, nat_tests) in z)).0 in
            let z : nat_eq x.it.name d.it.name ≡ false = grind (arith, nat_tests) in z

    all_elsewhere : AllByRecursion Elsewhere (declarations new)
    all_elsewhere =
        let both = all_among (declarations old) (declarations old) (λ x a. a) in
        let split = subst (AllByRecursion (λ x. Among x (declarations old))) were_declared both in
        subst (AllByRecursion Elsewhere) (sym are_declared)
        (all_both Elsewhere (map (longer k e) xs) (added k n name old new h i ++ map (longer k e) ys) (old_elsewhere xs (all_front (λ x. Among x (declarations old)) xs ys split))
        (all_both Elsewhere (added k n name old new h i) (map (longer k e) ys) (new_elsewhere (added k n name old new h i) (faultless.added_stand k n name old new h i q w fine))
        (old_elsewhere ys (all_behind (λ x. Among x (declarations old)) xs ys split))))

    mid_elsewhere : AllByRecursion (λ a. Maybe (λ m. SourceHas Elsewhere m.source) a.meaning) mid
    mid_elsewhere =
        asked_has (λ m. SourceHas Elsewhere m.source) (meanings new)
        (all_both (λ m. SourceHas Elsewhere m.source) (imported_from 0 new) (numbered first_numbers (declarations new)) (imports_have Elsewhere 0 new) (numbered_has Elsewhere first_numbers (declarations new) all_elsewhere)) k us extra

    source_apart : (o : Option Found) → SourceIsShared o → SourceHas Elsewhere o → is_declared_at d.file d.it.name o ≡ false
    source_apart None x y = absurd x
    source_apart (Some v) x y = y x

    means_apart : (m : Option Meaning) → MeansShared m → Maybe (λ v. SourceHas Elsewhere v.source) m → means (longer k e d) m ≡ false
    means_apart None x y = refl
    means_apart (Some m) x y = source_apart m.source x y

    not_used : (as_ : List Asked) → AllByRecursion (λ a. MeansShared a.meaning) as_ → AllByRecursion (λ a. Maybe (λ m. SourceHas Elsewhere m.source) a.meaning) as_ → is_used (longer k e d) as_ ≡ false
    not_used [] x y = refl
    not_used (a ∷ as_) x y = either (means (longer k e d) a.meaning) (not (is_assigned a.it.role)) (is_used (longer k e d) as_) (means_apart a.meaning x.0 y.0) (not_used as_ x.1 y.1)
      where
        either : (p r t : Bool) → p ≡ false → t ≡ false → ((p && r) || t) ≡ false
        either true r t z o = cc
        either false r t z o = o

    used_there : is_used (longer k e d) more_asks ≡ is_used d asks
    used_there = used_same k e (g k n name old new h i) d mid asks more_asks (faultless.follow k n name old new h i q w fine) (not_used mid s.shared mid_elsewhere)

  abbrev unused_now : Found → Bool
  unused_now d = is_counted d.it.entity d.it.block && not (is_used d more_asks)

  abbrev unused_then : Found → Bool
  unused_then d = is_counted d.it.entity d.it.block && not (is_used d asks)

  one_unused : (d : Found) → IsCounted d → unused_now (longer k e d) ≡ unused_then d
  one_unused d there = by (is_counted d.it.entity d.it.block) refl
    where
      by : (z : Bool) → is_counted d.it.entity d.it.block ≡ z → (z && not (is_used (longer k e d) more_asks)) ≡ (z && not (is_used d asks))
      by false p = refl
      by true p = ap not (used_there d there p)

  both_parts : (ds : List Found) → AllByRecursion (λ x. Among x (declarations old)) ds → AllByRecursion (IsOld k n e (g k n name old new h i)) ds → AllByRecursion (λ d. unused_now (longer k e d) ≡ unused_then d) ds
  both_parts [] x y = tt
  both_parts (d ∷ ds) x y = (one_unused d (record { among = x.0; aged = y.0 }), both_parts ds x.1 y.1)

  no_unused : unused_variables more_asks (declarations new) ≡ unused_variables asks (declarations old)
  no_unused =
      let both = subst (AllByRecursion (λ x. Among x (declarations old))) were_declared (all_among (declarations old) (declarations old) (λ x a. a)) in
      ap (unused_variables more_asks) are_declared
      ∙ between_same k e (unused_variables asks) (unused_variables more_asks) unused_then unused_now (record { none = refl; more = λ d ds. refl }) (record { none = refl; more = λ d ds. refl })
      xs (added k n name old new h i) ys
      (both_parts xs (all_front (λ x. Among x (declarations old)) xs ys both) (faultless.kept_is_old k n name old new h i q w fine)) (
        ap (λ z. is_counted z h.longer.function.it.block && not (is_used h.longer.function more_asks)) h.longer.is_function.entity,
        all_more (IsParameter k n) (λ d. unused_now d ≡ false) (λ d p. ap (λ z. is_counted z d.it.block && not (is_used d more_asks)) p.entity) qs qs_parameters,
      )
      (both_parts ys (all_behind (λ x. Among x (declarations old)) xs ys both) (faultless.others_is_old k n name old new h i q w fine))
      ∙ ap (unused_variables asks) (sym were_declared)

  used : unused_faults new (declarations new) more_asks ≡ unused_faults old (declarations old) asks
  used = two_same (ap (failing code.UnusedVariable) no_unused) (ap (failing code.UnusedImport) no_unused_import)

  -- ---- what stands in each file

  no_duplicates : duplicates new ≡ duplicates old
  no_duplicates =
      two_same (by_files (second_members []) (λ m. members_same n e ts us h.longer.words s.bytes m [] h.a.events extra tt w.events fine.tells (members_at m)))
      (by_files second_defaults (λ m. defaults_same n e ts us h.longer.words s.bytes m h.a.events extra s.events fine.tells))
    where
      members_at : (m : ℕ) → second_members [] m us extra ≡ []
      members_at m = faultless.members_aside k m [] us extra fine.members

  no_limit : limit new ≡ limit old
  no_limit = ap (λ l. first_place (drop 65536 l)) (by_files statements (λ m. statements_same n e ts us h.longer.words s.bytes m h.a.events extra s.events fine.tells))

  placed : placed_faults new ≡ placed_faults old
  placed =
      four_same (ap (failing code.Branch) (by_files misplaced (λ m. misplaced_same n e ts us h.longer.words s.bytes m h.a.events extra s.events fine.tells))) (ap (failing code.Duplicate) no_duplicates) (ap (failing code.Limit) no_limit)
      (ap (failing code.Outside) (by_files hidden_in (λ m. lists_same n e ts us h.longer.words s.bytes m [] h.a.events extra tt w.events fine.tells)))

  -- ---- declarations that need themselves

  abbrev few : ℕ
  few = length (declarations old) + length (declarations old)

  abbrev many : ℕ
  many = length (declarations new) + length (declarations new)

  map_length : (ds : List Found) → length (map (longer k e) ds) ≡ length ds
  map_length [] = refl
  map_length (d ∷ ds) = ap suc (map_length ds)

  more_rounds : few ≤ many
  more_rounds =
      let x = ap length were_declared in
      let y = ap length are_declared in
      let p = length-append xs ys in
      let r = length-append (map (longer k e) xs) (added k n name old new h i ++ map (longer k e) ys) in
      let t = length-append (added k n name old new h i) (map (longer k e) ys) in
      let u = map_length xs in
      let v = map_length ys in
      omega (arith, x, y, p, r, t, u, v)

  declared_told : AllByRecursion (λ a. Maybe (λ m. SourceHas (λ d. IsDeclared d (declarations old)) m.source) a.meaning) asks
  declared_told = all_more (λ a. Maybe (λ m. SourceHas (faultless.IsThere k n name old new h i q w fine) m.source) a.meaning) _ (λ a x. of a.meaning x) asks (faultless.asks_there k n name old new h i q w fine)
    where
      source : (o : Option Found) → SourceHas (faultless.IsThere k n name old new h i q w fine) o → SourceHas (λ d. IsDeclared d (declarations old)) o
      source None x = tt
      source (Some d) x = x.1

      of : (m : Option Meaning) → Maybe (λ v. SourceHas (faultless.IsThere k n name old new h i q w fine) v.source) m → Maybe (λ v. SourceHas (λ d. IsDeclared d (declarations old)) v.source) m
      of None x = tt
      of (Some m) x = source m.source x

  one_itself : (d : Found) → IsOld k n e (g k n name old new h i) d → needs_itself more_asks many (longer k e d) ≡ needs_itself asks few d
  one_itself d o =
      itself_same k n e (g k n name old new h i) mid asks more_asks (faultless.follow k n name old new h i q w fine) (faultless.mid_news k n name old new h i q w fine) (faultless.asks_old k n name old new h i q w fine) many d o
      ∙ itself_settled asks (declarations old) declared_told many more_rounds d

  each_itself : (ds : List Found) → AllByRecursion (IsOld k n e (g k n name old new h i)) ds → AllByRecursion (λ d. needs_itself more_asks many (longer k e d) ≡ needs_itself asks few d) ds
  each_itself ds x = all_more (IsOld k n e (g k n name old new h i)) (λ d. needs_itself more_asks many (longer k e d) ≡ needs_itself asks few d) one_itself ds x

  circles : cycle_faults (declarations new) more_asks ≡ cycle_faults (declarations old) asks
  circles =
      ap (failing code.Cycle)
      (ap (cycles more_asks many) are_declared
      ∙ between_same k e (cycles asks few) (cycles more_asks many) (needs_itself asks few) (needs_itself more_asks many) (record { none = refl; more = λ d ds. refl }) (record { none = refl; more = λ d ds. refl }) xs (added k n name old new h i) ys
      (each_itself xs (faultless.kept_is_old k n name old new h i q w fine)) (faultless.new_never k n name old new h i q w fine many) (each_itself ys (faultless.others_is_old k n name old new h i q w fine))
      ∙ ap (cycles asks few) (sym were_declared))

  -- ---- all rules

  names_are_same : name_faults new ≡ name_faults old
  names_are_same = five_same (ap (failing code.Redeclared) once) lookups used placed circles

  pub same_reported : reported new ≡ reported old
  same_reported =
      ap (λ z. or_else (least z) (least (name_faults new))) (clauses_same k n name old new h i.earlier i.named q w fine.initial fine.tells s.bytes s.events)
      ∙ ap (λ z. or_else (least (clause_faults old)) (least z)) names_are_same
