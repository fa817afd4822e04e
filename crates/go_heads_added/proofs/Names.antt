-- A function that nothing names changes nothing of what names mean but the numbers.
use Rattle.std.proofs.Common.{◌≡◌, ℕ, suc, ◌+◌, ◌<◌, ◌≤◌, Bool, true, false, ◌&&◌, not, List, [], ◌∷◌, ◌++◌, append_assoc, length, map, Some, refl, sym, ap, ◌∙◌, subst, arith}
use Rattle.std.specs.Prelude.{if◌then◌else◌, nat_eq, nat_le, nat_lt, slice_get}
use Rattle.std.specs.Option.{option_map}
use Rattle.std.specs.List.{AllByRecursion}
use Rattle.std.proofs.lemmas.Bool.Decides.{nat_tests}
use Rattle.go_tokens.specs.Spellings.{same_text}
use Rattle.go_tree.specs.declared.context.Block.TheVariants as block
use Rattle.go_tree.specs.Units.{Unit, is_blank}
use Rattle.go_tree.specs.Imports.{imports_fmt}
use Rattle.go_tree.specs.Extents.{covers, extent_by}
use Rattle.go_tree.specs.Declarations.{Found, is_function, found_from, found_in, is_reused, may_be_reused, is_new, new_among, declarations}
use Rattle.go_tree.specs.Meanings.{Meaning, Numbers, behind_shared, first_numbers, numbers_behind, numbered, imported_meaning, imported_from, meanings}
use Rattle.go_tree.specs.Objects.{objects_from, is_declared_at}
use Rattle.go_tree.specs.Uses.{object_in, declared_by, declared_in_package}
use Rattle.go_tree.specs.Contexts.{is_package}
use Rattle.go_tree.specs.declared.context.Block.{Block}
use Rattle.go_heads_added.specs.Added.{Gap, shifted, longer, Stands, IsParameter, IsAdded, LiesIn, NoneSays, KeepsAll, KeepsDeclared, longer_declared, gap_in, behind, AreHoused}
use Rattle.go_heads_added.proofs.Meant.{IsAside, map_append}
use Rattle.go_heads_added.proofs.Numbers.{moved, numbered_append, Level, together}
use Rattle.go_heads_added.proofs.Declared.{new_append, declarations_added}
use Rattle.go_heads_added.proofs.Found.{found_before, found_after, all_apart}
use Rattle.go_heads_added.proofs.Objects.{AreAside, files_moved}

and_false : (a b : Bool) → b ≡ false → (a && b) ≡ false
and_false true b e = e
and_false false b e = refl

middle_false : (a b c : Bool) → (a ≡ true → b ≡ false) → (a && b && c) ≡ false
middle_false true true c h = let e = h refl in cc
middle_false true false c h = refl
middle_false false b c h = refl

-- ---- imports

module _ (u v : Unit) (e : imports_fmt v.tokens v.events ≡ imports_fmt u.tokens u.events) where
  imported_same : (j : ℕ) (before rest : List Unit) → imported_from j (before ++ v ∷ rest) ≡ imported_from j (before ++ u ∷ rest)
  imported_same j [] rest = ap (λ b. if b then imported_meaning j ∷ imported_from (suc j) rest else imported_from (suc j) rest) e
  imported_same j (x ∷ xs) rest = ap (λ l. if imports_fmt x.tokens x.events then imported_meaning j ∷ l else l) (imported_same (suc j) xs rest)

imported_moved : (k end : ℕ) (g : Gap) (j : ℕ) (us : List Unit) → map (moved k end g) (imported_from j us) ≡ imported_from j us
imported_moved k end g j [] = refl
imported_moved k end g j (u ∷ us) = by (imports_fmt u.tokens u.events) (imported_moved k end g (suc j) us)
  where
    by : (b : Bool) → map (moved k end g) (imported_from (suc j) us) ≡ imported_from (suc j) us
        → map (moved k end g) (if b then imported_meaning j ∷ imported_from (suc j) us else imported_from (suc j) us) ≡ (if b then imported_meaning j ∷ imported_from (suc j) us else imported_from (suc j) us)
    by true e = ap (λ l. imported_meaning j ∷ l) e
    by false e = e

-- ---- the function and its parameters

module _ (k n : ℕ) where
  pub parameters_new : (all ps : List Found) → AllByRecursion (IsParameter k n) ps → AllByRecursion (IsParameter k n) (new_among all ps)
  parameters_new all [] a = tt
  parameters_new all (p ∷ ps) a = by (is_new all p) (parameters_new all ps a.1)
    where
      by : (b : Bool) → AllByRecursion (IsParameter k n) (new_among all ps) → AllByRecursion (IsParameter k n) (if b then p ∷ new_among all ps else new_among all ps)
      by true h = (a.0, h)
      by false h = h

  -- parameters are numbered among the locals
  parameters_behind : (l : Numbers) (ps : List Found) → AllByRecursion (IsParameter k n) ps → ((behind l ps).shared ≡ l.shared) × ((behind l ps).functions ≡ l.functions)
  parameters_behind l [] a = (refl, refl)
  parameters_behind l (p ∷ ps) a =
      let r = parameters_behind (numbers_behind l p.it.entity p.it.block) ps a.1 in
      let e = a.0.block in
      (r.0 ∙ ap (λ b. (numbers_behind l p.it.entity b).shared) e, r.1 ∙ ap (λ b. (numbers_behind l p.it.entity b).functions) e)

  parameters_aside : (m t : ℕ) (w : List ℕ) (l : Numbers) (ps : List Found) → Stands k n m t → AllByRecursion (IsParameter k n) ps → AllByRecursion (IsAside m t w) (numbered l ps)
  parameters_aside m t w l [] s a = tt
  parameters_aside m t w l (p ∷ ps) s a = (one p a.0, parameters_aside m t w (numbers_behind l p.it.entity p.it.block) ps s a.1)
    where
      one : (q : Found) → IsParameter k n q → (same_text q.name w && covers (extent_by q.file q.it.scope q.it.block) m t) ≡ false
      one q i =
          ap (λ x. same_text q.name w && covers (extent_by q.file q.it.scope x) m t) i.block
          ∙ and_false (same_text q.name w) _ (middle_false (nat_eq q.file m) (nat_le q.it.scope.from t) (nat_lt t q.it.scope.to) (λ e. let f = i.file in let c = i.scope in let y : t < n = s (let z : nat_eq m k ≡ true = grind (arith, nat_tests) in z) in grind (arith, nat_tests)))

  not_there : (m t : ℕ) (q : Found) → Stands k n m t → q.file ≡ k → n ≤ q.it.name → is_declared_at m t (Some q) ≡ false
  not_there m t q s f c = by (nat_eq q.file m) refl
    where
      by : (b : Bool) → b ≡ nat_eq q.file m → (b && nat_eq q.it.name t) ≡ false
      by true e = let y : t < n = s (let z : nat_eq m k ≡ true = grind (arith, nat_tests) in z) in grind (arith, nat_tests)
      by false e = refl

  parameters_elsewhere : (m t : ℕ) (l : Numbers) (ps : List Found) → Stands k n m t → AllByRecursion (IsParameter k n) ps → AllByRecursion (λ x. is_declared_at m t x.source ≡ false) (numbered l ps)
  parameters_elsewhere m t l [] s a = tt
  parameters_elsewhere m t l (p ∷ ps) s a = (not_there m t p s a.0.file a.0.named, parameters_elsewhere m t (numbers_behind l p.it.entity p.it.block) ps s a.1)

-- ---- the objects of the package

package_append : (ds es : List Found) → declared_in_package (ds ++ es) ≡ declared_in_package ds ++ declared_in_package es
package_append [] es = refl
package_append (d ∷ ds) es = by (is_package d.it.block) (package_append ds es)
  where
    by : (b : Bool) → declared_in_package (ds ++ es) ≡ declared_in_package ds ++ declared_in_package es
        → (if b then declared_by d ∷ declared_in_package (ds ++ es) else declared_in_package (ds ++ es)) ≡ (if b then declared_by d ∷ declared_in_package ds else declared_in_package ds) ++ declared_in_package es
    by true e = ap (λ l. declared_by d ∷ l) e
    by false e = e

package_longer : (k end : ℕ) (ds : List Found) → declared_in_package (map (longer k end) ds) ≡ map (longer_declared k end) (declared_in_package ds)
package_longer k end [] = refl
package_longer k end (d ∷ ds) = by (is_package d.it.block) (package_longer k end ds)
  where
    by : (b : Bool) → declared_in_package (map (longer k end) ds) ≡ map (longer_declared k end) (declared_in_package ds)
        → (if b then declared_by (longer k end d) ∷ declared_in_package (map (longer k end) ds) else declared_in_package (map (longer k end) ds)) ≡ map (longer_declared k end) (if b then declared_by d ∷ declared_in_package ds else declared_in_package ds)
    by true e = ap (λ l. declared_by (longer k end d) ∷ l) e
    by false e = e

package_parameters : (k n : ℕ) (ps : List Found) → AllByRecursion (IsParameter k n) ps → declared_in_package ps ≡ []
package_parameters k n [] a = refl
package_parameters k n (p ∷ ps) a = ap (λ b. if is_package b then declared_by p ∷ declared_in_package ps else declared_in_package ps) a.0.block ∙ package_parameters k n ps a.1

package_count : (l : Numbers) (ds : List Found) → (behind l ds).shared ≡ l.shared + length (declared_in_package ds)
package_count l [] = omega arith
package_count l (d ∷ ds) = by d.it.block (package_count (numbers_behind l d.it.entity d.it.block) ds)
  where
    one : (f : Bool) → (behind_shared l f).shared ≡ suc l.shared
    one true = refl
    one false = refl

    by : (b : Block) → (behind (numbers_behind l d.it.entity b) ds).shared ≡ (numbers_behind l d.it.entity b).shared + length (declared_in_package ds)
        → (behind (numbers_behind l d.it.entity b) ds).shared ≡ l.shared + length (if is_package b then declared_by d ∷ declared_in_package ds else declared_in_package ds)
    by block.Package e = let o = one (is_function d.it.entity) in omega (arith, e, o)
    by (block.Local j) e = e

-- ---- all

module _ (k n : ℕ) (name : List ℕ) (old new : List Unit) (h : IsAdded k n name old new) (i : LiesIn k n name old new h) where
  abbrev pub end : ℕ
  end = h.longer.end

  abbrev pub g : Gap
  g = gap_in k n name old new h

  abbrev pub front : List Found
  front = found_from 0 h.before ++ found_in k h.a.tokens h.a.events

  abbrev pub rest : List Found
  rest = found_from (suc k) h.behind

  abbrev pub between : List Found
  between = h.longer.function ∷ h.longer.parameters

  abbrev pub all : List Found
  all = map (longer k end) front ++ (between ++ map (longer k end) rest)

  abbrev pub kept : List Found
  kept = new_among (front ++ rest) front

  abbrev pub others : List Found
  others = new_among (front ++ rest) rest

  -- the function is declared, and those of its parameters that have a name
  abbrev pub added : List Found
  added = h.longer.function ∷ new_among all h.longer.parameters

  function_new : is_new all h.longer.function ≡ true
  function_new =
      ap (λ w. not (is_blank w) && not (may_be_reused h.longer.function.it.manner && is_reused h.longer.function all)) h.longer.is_function.name
      ∙ ap (λ b. not b && not (may_be_reused h.longer.function.it.manner && is_reused h.longer.function all)) i.named
      ∙ ap (λ m. not (may_be_reused m && is_reused h.longer.function all)) h.longer.is_function.manner

  added_new : new_among all between ≡ added
  added_new = ap (λ b. if b then h.longer.function ∷ new_among all h.longer.parameters else new_among all h.longer.parameters) function_new

  level : Level k end g (behind first_numbers kept) (behind (behind first_numbers kept) added) false
  level =
      let f = h.longer.is_function in
      let l = numbers_behind (behind first_numbers kept) h.longer.function.it.entity h.longer.function.it.block in
      let p = parameters_behind k n l (new_among all h.longer.parameters) (parameters_new k n all h.longer.parameters h.longer.are_parameters) in
      let s = ap (λ b. (numbers_behind (behind first_numbers kept) h.longer.function.it.entity b).shared) f.block ∙ ap (λ e. (numbers_behind (behind first_numbers kept) e block.Package).shared) f.entity in
      let q = ap (λ b. (numbers_behind (behind first_numbers kept) h.longer.function.it.entity b).functions) f.block ∙ ap (λ e. (numbers_behind (behind first_numbers kept) e block.Package).functions) f.entity in
      record {
        shared = p.0 ∙ s;
        functions = p.1 ∙ q;
        past = (let e = ap (λ ds. (behind first_numbers (new_among ds front)).shared) (found_before k n name old new h i) in omega (arith, e));
        past_functions = (let e = ap (λ ds. (behind first_numbers (new_among ds front)).functions) (found_before k n name old new h i) in omega (arith, e));
        local = λ z. absurd (false_true z);
      }
    where
      false_true : false ≡ true → ⊥
      false_true z = cc

  pub declarations_were : declarations old ≡ kept ++ others
  declarations_were = ap (λ ds. new_among ds ds) (found_before k n name old new h i) ∙ new_append (front ++ rest) front rest

  pub declarations_are : declarations new ≡ map (longer k end) kept ++ (added ++ map (longer k end) others)
  declarations_are =
      ap (λ ds. new_among ds ds) (found_after k n name old new h i)
      ∙ declarations_added k end front between rest (all_apart k n name old new h i front i.front_blocks) (all_apart k n name old new h i rest i.rest_blocks)
      ∙ ap (λ l. map (longer k end) kept ++ (l ++ map (longer k end) others)) added_new

  pub declared_added : KeepsDeclared k end g old new
  declared_added = record {
    first = declared_in_package kept;
    function = declared_by h.longer.function;
    second = declared_in_package others;
    were = ap declared_in_package declarations_were ∙ package_append kept others;
    are =
        ap declared_in_package declarations_are ∙ package_append (map (longer k end) kept) (added ++ map (longer k end) others)
        ∙ ap (λ l. l ++ declared_in_package (added ++ map (longer k end) others)) (package_longer k end kept)
        ∙ ap (λ l. map (longer_declared k end) (declared_in_package kept) ++ l)
        (ap (λ b. if is_package b then declared_by h.longer.function ∷ declared_in_package (new_among all h.longer.parameters ++ map (longer k end) others) else declared_in_package (new_among all h.longer.parameters ++ map (longer k end) others)) h.longer.is_function.block
        ∙ ap (λ l. declared_by h.longer.function ∷ l)
        (package_append (new_among all h.longer.parameters) (map (longer k end) others)
        ∙ ap (λ l. l ++ declared_in_package (map (longer k end) others)) (package_parameters k n (new_among all h.longer.parameters) (parameters_new k n all h.longer.parameters h.longer.are_parameters))
        ∙ package_longer k end others));
    place = (let c = package_count first_numbers kept in let e = ap (λ ds. (behind first_numbers (new_among ds front)).shared) (found_before k n name old new h i) in omega (arith, c, e));
  }

  pub declared_parts : (declared_added.first ≡ declared_in_package kept) × (declared_added.function ≡ declared_by h.longer.function)
  unfolding declared_added
  declared_parts = (refl, refl)

  abbrev pub first_meanings : List Meaning
  first_meanings = imported_from 0 old ++ numbered first_numbers kept

  abbrev pub new_meanings : List Meaning
  new_meanings = numbered (behind first_numbers kept) added

  abbrev pub other_meanings : List Meaning
  other_meanings = numbered (behind first_numbers kept) others

  pub meanings_were : meanings old ≡ first_meanings ++ other_meanings
  meanings_were =
      ap (λ ds. imported_from 0 old ++ numbered first_numbers (new_among ds ds)) (found_before k n name old new h i)
      ∙ ap (λ ds. imported_from 0 old ++ numbered first_numbers ds) (new_append (front ++ rest) front rest)
      ∙ ap (λ ms. imported_from 0 old ++ ms) (numbered_append first_numbers kept others)
      ∙ sym (append_assoc (imported_from 0 old) (numbered first_numbers kept) other_meanings)

  imports_kept : imported_from 0 new ≡ map (moved k end g) (imported_from 0 old)
  imports_kept = ap (imported_from 0) h.is ∙ imported_same h.a h.b i.imports 0 h.before h.behind ∙ ap (imported_from 0) (sym h.was) ∙ sym (imported_moved k end g 0 old)

  pub meanings_are : meanings new ≡ map (moved k end g) first_meanings ++ (new_meanings ++ map (moved k end g) other_meanings)
  meanings_are =
      ap (λ ds. imported_from 0 new ++ numbered first_numbers (new_among ds ds)) (found_after k n name old new h i)
      ∙ ap (λ ds. imported_from 0 new ++ numbered first_numbers ds)
      (declarations_added k end front between rest (all_apart k n name old new h i front i.front_blocks) (all_apart k n name old new h i rest i.rest_blocks)
      ∙ ap (λ l. map (longer k end) kept ++ (l ++ map (longer k end) others)) added_new)
      ∙ ap (λ ms. imported_from 0 new ++ ms)
      (together k end g kept added others (subst (λ ds. AreHoused false (new_among ds front)) (found_before k n name old new h i) i.front_housed) (subst (λ ds. AreHoused false (new_among ds rest)) (found_before k n name old new h i) i.rest_housed)
      (ap (λ ds. record { shared = (behind first_numbers (new_among ds front)).shared; functions = (behind first_numbers (new_among ds front)).functions }) (found_before k n name old new h i)) level)
      ∙ ap (λ l. l ++ (map (moved k end g) (numbered first_numbers kept) ++ (new_meanings ++ map (moved k end g) other_meanings))) imports_kept
      ∙ sym (append_assoc (map (moved k end g) (imported_from 0 old)) (map (moved k end g) (numbered first_numbers kept)) (new_meanings ++ map (moved k end g) other_meanings))
      ∙ ap (λ l. l ++ (new_meanings ++ map (moved k end g) other_meanings)) (sym (map_append (moved k end g) (record { name = λ x. refl; extent = λ x. refl }) (imported_from 0 old) (numbered first_numbers kept)))

  pub new_aside : AreAside k n name end g first_meanings new_meanings other_meanings
  new_aside =
      let f = h.longer.is_function in
      let ps = parameters_new k n all h.longer.parameters h.longer.are_parameters in
      let l = numbers_behind (behind first_numbers kept) h.longer.function.it.entity h.longer.function.it.block in
      record {
        aside = λ m t w s q. (
          ap (λ v. same_text v w && covers (extent_by h.longer.function.file h.longer.function.it.scope h.longer.function.it.block) m t) f.name ∙ ap (λ b. b && covers (extent_by h.longer.function.file h.longer.function.it.scope h.longer.function.it.block) m t) q,
          parameters_aside k n m t w l (new_among all h.longer.parameters) s ps,
        );
        elsewhere = λ m t s. (not_there k n m t h.longer.function s f.file f.named, parameters_elsewhere k n m t l (new_among all h.longer.parameters) s ps);
      }

  pub names_added : NoneSays name old → KeepsAll k n g old new
  names_added none = record {
    objects = λ m t s.
        ap (λ ms. object_in (slice_get (objects_from ms 0 new) m) t) meanings_are
        ∙ ap (λ us. object_in (slice_get (objects_from (map (moved k end g) first_meanings ++ (new_meanings ++ map (moved k end g) other_meanings)) 0 us) m) t) h.is
        ∙ files_moved k n name end g first_meanings new_meanings other_meanings new_aside h.before h.a h.b h.behind h.longer.added 0 m t
        (let e = h.place in omega arith) (subst (λ j. Stands k n j t) (let z : m ≡ 0 + m = omega arith in z) s) (subst (NoneSays name) h.was none)
        h.longer.count h.longer.more h.longer.events i.later h.longer.words
        ∙ ap (λ us. option_map (shifted g) (object_in (slice_get (objects_from (first_meanings ++ other_meanings) 0 us) m) t)) (sym h.was)
        ∙ ap (λ ms. option_map (shifted g) (object_in (slice_get (objects_from ms 0 old) m) t)) (sym meanings_were);
  }
