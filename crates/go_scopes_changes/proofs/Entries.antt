-- Rules on the names that are declared in the block of the package, by the objects of the heads.
use Rattle.std.proofs.Common.{◌≡◌, ◌∙◌, ℕ, suc, ◌+◌, Bool, true, false, List, [], ◌∷◌, ◌++◌, map, refl, sym, ap, arith}
use Rattle.std.specs.Prelude.{if◌then◌else◌, ◌&&◌, ◌||◌, not}
use Rattle.go_tokens.specs.Spellings.{same_text}
use Rattle.go_tree.specs.declared.context.Block.{Block}
use Rattle.go_tree.specs.declared.context.Block.TheVariants as block
use Rattle.go_tree.specs.declared.event.Event.{Event}
use Rattle.go_tree.specs.declared.event.Event.TheVariants as event
use Rattle.go_tree.specs.Contexts.{is_package}
use Rattle.go_tree.specs.Declarations.{Found, found_in, found_from, are_one_block, declarations}
use Rattle.go_tree.specs.Imports.{imports_fmt}
use Rattle.go_tree.specs.Meanings.{Meaning, imported_meaning, imported_from}
use Rattle.go_tree.specs.Redeclared.{are_parameters, clashes, has_clash, second_declarations, has_import, hidden_imports}
use Rattle.go_tree.specs.Units.{word, is_fmt}
use Rattle.go_tree.specs.Units as names
use Rattle.go_tree.specs.Uses.{declared_by, declared_in_package}
use Rattle.go_heads.specs.Functions.{AreRead}
use Rattle.go_heads.specs.Heads.{File, heads}
use Rattle.go_heads.specs.Objects.{units_of, package_objects, file_in, text_at}
use Rattle.go_heads.specs.Told.{file_events}
use Rattle.go_heads.proofs.Public.{Entry, Every, StandFrom, entry, entries_same, every_append, every_new, imports_told, stand_from}
use Rattle.go_scopes_bodies.specs.Faults.{shared}
use Rattle.go_scopes_changes.proofs.Pairs.{none_if, if_none}

-- ---- by entries

abbrev clash : Entry → Entry → Bool
clash x y = same_text x.text y.text && not (are_parameters x.entity y.entity)

abbrev any_clash : Entry → List Entry → Bool
any_clash x [] = false
any_clash x (y ∷ ys) = clash x y || any_clash x ys

-- whether one clashes with one in front
abbrev any_second : List Entry → List Entry → Bool
any_second before [] = false
any_second before (x ∷ xs) = any_clash x before || any_second (before ++ x ∷ []) xs

abbrev any_hidden : Bool → List Entry → Bool
any_hidden b [] = false
any_hidden b (x ∷ xs) = (b && is_fmt x.text) || any_hidden b xs

and_true : (b : Bool) → (b && true) ≡ b
and_true true = refl
and_true false = refl

and_false : (b : Bool) → (b && false) ≡ false
and_false true = refl
and_false false = refl

pub or_both : (b c : Bool) → b ≡ false → c ≡ false → (b || c) ≡ false
or_both true c e f = e
or_both false c e f = f

pub or_left : (b c : Bool) → (b || c) ≡ false → b ≡ false
or_left true c e = e
or_left false c e = refl

pub or_right : (b c : Bool) → (b || c) ≡ false → c ≡ false
or_right true true e = e
or_right true false e = refl
or_right false c e = e

-- ---- declarations of the package

-- It is declared in the block of the package, and this is its object.
pub record Is (x : Entry) (d : Found) : Type 0 where
  pub outer : d.it.block ≡ block.Package
  pub text : d.name ≡ x.text
  pub entity : d.it.entity ≡ x.entity

abbrev AreThese : List Entry → List Found → Type 0
AreThese [] [] = Unit {0}
AreThese [] (d ∷ ds) = ⊥
AreThese (x ∷ xs) [] = ⊥
AreThese (x ∷ xs) (d ∷ ds) = Is x d × AreThese xs ds

these_append : (xs ys : List Entry) (ds es : List Found) → AreThese xs ds → AreThese ys es → AreThese (xs ++ ys) (ds ++ es)
these_append [] ys [] es h g = g
these_append [] ys (d ∷ ds) es h g = absurd h
these_append (x ∷ xs) ys [] es h g = absurd h
these_append (x ∷ xs) ys (d ∷ ds) es h g = (h.0, these_append xs ys ds es h.1 g)

clash_same : (x y : Entry) (d e : Found) → Is x d → Is y e → clashes d e ≡ clash x y
clash_same x y d e h g =
    ap (λ z. same_text z e.name && are_one_block d.file d.it.block e.file e.it.block && not (are_parameters d.it.entity e.it.entity)) h.text
    ∙ ap (λ z. same_text x.text z && are_one_block d.file d.it.block e.file e.it.block && not (are_parameters d.it.entity e.it.entity)) g.text
    ∙ ap (λ z. same_text x.text y.text && are_one_block d.file z e.file e.it.block && not (are_parameters d.it.entity e.it.entity)) h.outer
    ∙ ap (λ z. same_text x.text y.text && are_one_block d.file block.Package e.file z && not (are_parameters d.it.entity e.it.entity)) g.outer
    ∙ ap (λ z. z && not (are_parameters d.it.entity e.it.entity)) (and_true (same_text x.text y.text))
    ∙ ap (λ z. same_text x.text y.text && not (are_parameters z e.it.entity)) h.entity
    ∙ ap (λ z. same_text x.text y.text && not (are_parameters x.entity z)) g.entity

any_same : (x : Entry) (d : Found) → Is x d → (ys : List Entry) (es : List Found) → AreThese ys es → has_clash d es ≡ any_clash x ys
any_same x d h [] [] g = refl
any_same x d h [] (e ∷ es) g = absurd g
any_same x d h (y ∷ ys) [] g = absurd g
any_same x d h (y ∷ ys) (e ∷ es) g = ap (λ b. b || has_clash d es) (clash_same x y d e h g.0) ∙ ap (λ b. clash x y || b) (any_same x d h ys es g.1)

once_to : (bs xs : List Entry) (before ds : List Found) → AreThese bs before → AreThese xs ds → second_declarations before ds ≡ [] → any_second bs xs ≡ false
once_to bs [] before [] h g e = refl
once_to bs [] before (d ∷ ds) h g e = absurd g
once_to bs (x ∷ xs) before [] h g e = absurd g
once_to bs (x ∷ xs) before (d ∷ ds) h g e =
    let here = none_if (has_clash d before) d.place (second_declarations (before ++ d ∷ []) ds) e in
    or_both (any_clash x bs) (any_second (bs ++ x ∷ []) xs) (sym (any_same x d g.0 bs before h) ∙ here.0)
    (once_to (bs ++ x ∷ []) xs (before ++ d ∷ []) ds (these_append bs (x ∷ []) before (d ∷ []) h (g.0, tt)) g.1 here.1)

once_from : (bs xs : List Entry) (before ds : List Found) → AreThese bs before → AreThese xs ds → any_second bs xs ≡ false → second_declarations before ds ≡ []
once_from bs [] before [] h g e = refl
once_from bs [] before (d ∷ ds) h g e = absurd g
once_from bs (x ∷ xs) before [] h g e = absurd g
once_from bs (x ∷ xs) before (d ∷ ds) h g e =
    if_none (has_clash d before) d.place (second_declarations (before ++ d ∷ []) ds)
    (any_same x d g.0 bs before h ∙ or_left (any_clash x bs) (any_second (bs ++ x ∷ []) xs) e)
    (once_from (bs ++ x ∷ []) xs (before ++ d ∷ []) ds (these_append bs (x ∷ []) before (d ∷ []) h (g.0, tt)) g.1 (or_right (any_clash x bs) (any_second (bs ++ x ∷ []) xs) e))

outer_block : (b : Block) → is_package b ≡ true → b ≡ block.Package
outer_block block.Package e = refl
outer_block (block.Local i) e = cc

module _ (all : List File) where
  abbrev IsNamed : Found → Type 0
  IsNamed d = d.name ≡ text_at all d.file d.it.name

  file_named : (k : ℕ) (f : File) → file_in all k ≡ f → (es : List Event) → Every IsNamed (found_in k f.tokens es)
  file_named k f here [] = tt
  file_named k f here (event.Declaration d ∷ es) = (ap (λ (x : File). word x.tokens d.name) (sym here), file_named k f here es)
  file_named k f here (e ∷ es) = file_named k f here es

  all_named : (k : ℕ) (fs : List File) → StandFrom all k fs → Every IsNamed (found_from k (units_of fs))
  all_named k [] s = tt
  all_named k (f ∷ fs) s = every_append IsNamed (found_in k f.tokens (file_events f)) (found_from (suc k) (units_of fs)) (file_named k f s.0 (file_events f)) (all_named (suc k) fs s.1)

  abbrev entries : List Found → List Entry
  entries ds = map (entry all) (declared_in_package ds)

  one_shared : (d : Found) (ds : List Found) (b : Bool) → is_package d.it.block ≡ b → IsNamed d → AreThese (entries ds) (shared ds)
      → AreThese (map (entry all) (if b then declared_by d ∷ declared_in_package ds else declared_in_package ds)) (if b then d ∷ shared ds else shared ds)
  one_shared d ds true e n h = (record { outer = outer_block d.it.block e; text = n; entity = refl }, h)
  one_shared d ds false e n h = h

  these_shared : (ds : List Found) → Every IsNamed ds → AreThese (entries ds) (shared ds)
  these_shared [] h = tt
  these_shared (d ∷ ds) h = one_shared d ds (is_package d.it.block) refl h.0 (these_shared ds h.1)

  hidden_one : (b : Bool) (d : Found) (c : Bool) → is_package d.it.block ≡ c → IsNamed d → (rest : List Entry)
      → ((b && c && is_fmt d.name) || any_hidden b rest) ≡ any_hidden b (map (entry all) (if c then declared_by d ∷ [] else []) ++ rest)
  hidden_one b d true e n rest = ap (λ x. (x && is_fmt d.name) || any_hidden b rest) (and_true b) ∙ ap (λ w. (b && is_fmt w) || any_hidden b rest) n
  hidden_one b d false e n rest = ap (λ x. (x && is_fmt d.name) || any_hidden b rest) (and_false b)

  front : (d : Found) (ds : List Found) (c : Bool) → map (entry all) (if c then declared_by d ∷ declared_in_package ds else declared_in_package ds) ≡ map (entry all) (if c then declared_by d ∷ [] else []) ++ entries ds
  front d ds true = refl
  front d ds false = refl

  hidden_step : (b : Bool) (d : Found) (ds : List Found) → IsNamed d → any_hidden b (entries (d ∷ ds)) ≡ ((b && is_package d.it.block && is_fmt d.name) || any_hidden b (entries ds))
  hidden_step b d ds n = ap (any_hidden b) (front d ds (is_package d.it.block)) ∙ sym (hidden_one b d (is_package d.it.block) refl n (entries ds))

  hidden_to : (b : Bool) (ds : List Found) → Every IsNamed ds → hidden_imports b ds ≡ [] → any_hidden b (entries ds) ≡ false
  hidden_to b [] h e = refl
  hidden_to b (d ∷ ds) h e =
      let here = none_if (b && is_package d.it.block && is_fmt d.name) d.place (hidden_imports b ds) e in
      hidden_step b d ds h.0 ∙ or_both (b && is_package d.it.block && is_fmt d.name) (any_hidden b (entries ds)) here.0 (hidden_to b ds h.1 here.1)

  hidden_from : (b : Bool) (ds : List Found) → Every IsNamed ds → any_hidden b (entries ds) ≡ false → hidden_imports b ds ≡ []
  hidden_from b [] h e = refl
  hidden_from b (d ∷ ds) h e =
      let both : ((b && is_package d.it.block && is_fmt d.name) || any_hidden b (entries ds)) ≡ false = sym (hidden_step b d ds h.0) ∙ e in
      if_none (b && is_package d.it.block && is_fmt d.name) d.place (hidden_imports b ds)
      (or_left (b && is_package d.it.block && is_fmt d.name) (any_hidden b (entries ds)) both)
      (hidden_from b ds h.1 (or_right (b && is_package d.it.block && is_fmt d.name) (any_hidden b (entries ds)) both))

  pub declared_named : Every IsNamed (declarations (units_of all))
  declared_named =
      let us = units_of all in
      every_new IsNamed (found_from 0 us) (found_from 0 us) (all_named 0 all (stand_from all 0 all (λ k. let z : 0 + k ≡ k = omega arith in ap (file_in all) z)))

-- ---- imports

abbrev is_any : List Meaning → Bool
is_any [] = false
is_any (m ∷ ms) = true

any_import : (n : ℕ) (us : List names.Unit) → is_any (imported_from n us) ≡ has_import us
any_import n [] = refl
any_import n (u ∷ us) = by (imports_fmt u.tokens u.events) (any_import (suc n) us)
  where
    by : (b : Bool) → is_any (imported_from (suc n) us) ≡ has_import us → is_any (if b then imported_meaning n ∷ imported_from (suc n) us else imported_from (suc n) us) ≡ (b || has_import us)
    by true e = refl
    by false e = e

import_stays : (old new : List File) → AreRead old → AreRead new → heads old ≡ heads new → has_import (units_of new) ≡ has_import (units_of old)
import_stays old new h k e = sym (any_import 0 (units_of new)) ∙ ap is_any (imports_told 0 old new h k e) ∙ any_import 0 (units_of old)

-- ---- packages

pub once_stays : (old new : List File) → AreRead old → AreRead new → heads old ≡ heads new → second_declarations [] (shared (declarations (units_of old))) ≡ [] → second_declarations [] (shared (declarations (units_of new))) ≡ []
once_stays old new h k e f =
    let ds : List Found = declarations (units_of old) in
    let es : List Found = declarations (units_of new) in
    once_from [] (map (entry new) (package_objects new)) [] (shared es) tt (these_shared new es (declared_named new))
    (ap (any_second []) (entries_same old new h k e) ∙ once_to [] (map (entry old) (package_objects old)) [] (shared ds) tt (these_shared old ds (declared_named old)) f)

pub seen_stays : (old new : List File) → AreRead old → AreRead new → heads old ≡ heads new
    → hidden_imports (has_import (units_of old)) (declarations (units_of old)) ≡ [] → hidden_imports (has_import (units_of new)) (declarations (units_of new)) ≡ []
seen_stays old new h k e f =
    let ds : List Found = declarations (units_of old) in
    let es : List Found = declarations (units_of new) in
    hidden_from new (has_import (units_of new)) es (declared_named new)
    (ap (any_hidden (has_import (units_of new))) (entries_same old new h k e)
    ∙ ap (λ b. any_hidden b (map (entry old) (package_objects old))) (import_stays old new h k e)
    ∙ hidden_to old (has_import (units_of old)) ds (declared_named old) f)
