-- No rule on names fails where a function is appended.
use Rattle.std.proofs.Common.{◌≡◌, ℕ, suc, ◌+◌, ◌<◌, ◌≤◌, inl, inr, Bool, true, false, ◌&&◌, ◌||◌, not, List, [], ◌∷◌, ◌++◌, length, map, Option, Some, None, refl, sym, ap, subst, ◌∙◌, length-append, arith}
use Rattle.std.specs.Prelude.{if◌then◌else◌, nat_eq, codes}
use Rattle.std.specs.Option.{option_map}
use Rattle.std.specs.List.{AllByRecursion}
use Rattle.std.proofs.lemmas.Bool.{eqb-true}
use Rattle.std.proofs.lemmas.Bool.Decides.{nat_tests}
use Rattle.go_base.specs.declared.fault.FaultCode.TheVariants as code
use Rattle.go_tokens.specs.Spellings.{same_text}
use Rattle.go_tokens.specs.Tokens.{TokenList}
use Rattle.go_tokens.proofs.Public.{same_text-true}
use Rattle.go_tree.specs.declared.event.Event.{Event}
use Rattle.go_tree.specs.declared.event.Event.TheVariants as event
use Rattle.go_tree.specs.Branches.{branches, misplaced, statements, limit}
use Rattle.go_tree.specs.Clauses.{package_names, imports, other_imports, outside_declarations, declares, is_spelled, read_byte, is_read_byte, bodiless, missing_bodies}
use Rattle.go_tree.specs.Constants.{hidden_in, hidden_lists}
use Rattle.go_tree.specs.Declarations.{Found, found, found_in, is_function, new_among, declarations}
use Rattle.go_tree.specs.Duplicates.{is_duplicate, second_members, second_defaults, duplicates}
use Rattle.go_tree.specs.Failures.{Failure, failing, of_files, least, or_else}
use Rattle.go_tree.specs.Faults.{clause_faults, lookup_faults, unused_faults, placed_faults, cycle_faults, name_faults, reported}
use Rattle.go_tree.specs.Imports.{imports_fmt}
use Rattle.go_tree.specs.Lookups.{Asked, asked, asked_in, asked_from, undeclared, outside_names, outside_members, not_called, initialisers, is_counted, is_used, unused_variables, uses_import, imports_unless, unused_imports}
use Rattle.go_tree.specs.Meanings.{Meaning, Numbers, first_numbers, numbers_behind, numbered, imported_from, meanings}
use Rattle.go_tree.specs.Needs.{is_same, needs_itself, cycles}
use Rattle.go_tree.specs.Redeclared.{second_declarations, has_import, hidden_imports, second_imports, none_new, redeclared}
use Rattle.go_tree.specs.Units.{Unit, Place, word, is_blank, bytes_at}
use Rattle.go_scopes_cycles.specs.Closure.{IsDeclared, AreDeclared, any_itself}
use Rattle.go_scopes_cycles.specs.Needs.{source_of}
use Rattle.go_heads_added.specs.Added.{reaching, longer, behind, IsEarlier, IsParameter, IsAdded, LiesIn, NoneSays}
use Rattle.go_heads_added.specs.Faults.{FunctionIsFine, FileIsWithin, SourceIsOuter, MeansOuter}
use Rattle.go_heads_added.specs.Within.{EventWithin, IsOfFunction, SiteWithin, SiteBehind, SourceBehind}
use Rattle.go_heads_added.proofs.Asks.{AsksFollow, undeclared_none, names_none, selected_none, calls_none, initials_none, still_used, still_imported}
use Rattle.go_heads_added.proofs.Circles.{Maybe, IsOld, SourceHas, asked_has, from_has, numbered_has, imports_have, sourceless, itself_same, ComesFrom, function_never}
use Rattle.go_heads_added.proofs.Files as files
use Rattle.go_heads_added.proofs.Files.{test_false, rest_none, none_there, none_front, none_behind, none_both, failing_none, none_failing, least_none, Rule, Follows, changed_none, all_follow}
use Rattle.go_heads_added.proofs.Following as following
use Rattle.go_heads_added.proofs.Found.{found_before, found_after}
use Rattle.go_heads_added.proofs.Names.{g, front, rest, all, kept, others, added, first_meanings, new_meanings, other_meanings, declarations_were, declarations_are, meanings_are, parameters_new}
use Rattle.go_heads_added.proofs.Numbers.{moved}
use Rattle.go_heads_added.proofs.Own as own
use Rattle.go_heads_added.proofs.Redeclared as twice
use Rattle.go_heads_added.proofs.Rounds.{Bound, never_itself}
use Rattle.go_heads_added.proofs.Texts.{IsApart, Says, all_both, all_front, all_behind, all_more, all_mapped, new_all, from_apart}

-- ---- what is reported

first_none : (o p : Option Failure) → or_else o p ≡ None → o ≡ None
first_none None p e = refl
first_none (Some f) p e = cc

second_none : (o p : Option Failure) → or_else o p ≡ None → p ≡ None
second_none None p e = e
second_none (Some f) p e = cc

nothing_reported : (xs ys : List Failure) → xs ≡ [] → ys ≡ [] → or_else (least xs) (least ys) ≡ None
nothing_reported xs ys e f = ap (λ l. or_else (least l) (least ys)) e ∙ ap least f

four_none : (a b c d : List Failure) → a ++ b ++ c ++ d ≡ [] → (a ≡ []) × (b ≡ []) × (c ≡ []) × (d ≡ [])
four_none [] [] [] d e = (refl, refl, refl, e)
four_none (x ∷ a) b c d e = cc
four_none [] (x ∷ b) c d e = cc
four_none [] [] (x ∷ c) d e = cc

four_both : (a b c d : List Failure) → a ≡ [] → b ≡ [] → c ≡ [] → d ≡ [] → a ++ b ++ c ++ d ≡ []
four_both [] [] [] d e f g h = h
four_both (x ∷ a) b c d e f g h = cc
four_both [] (x ∷ b) c d e f g h = cc
four_both [] [] (x ∷ c) d e f g h = cc

five_none : (a b c d e : List Failure) → a ++ b ++ c ++ d ++ e ≡ [] → (a ≡ []) × (b ≡ []) × (c ≡ []) × (d ≡ []) × (e ≡ [])
five_none [] [] [] [] e z = (refl, refl, refl, refl, z)
five_none (x ∷ a) b c d e z = cc
five_none [] (x ∷ b) c d e z = cc
five_none [] [] (x ∷ c) d e z = cc
five_none [] [] [] (x ∷ d) e z = cc

five_both : (a b c d e : List Failure) → a ≡ [] → b ≡ [] → c ≡ [] → d ≡ [] → e ≡ [] → a ++ b ++ c ++ d ++ e ≡ []
five_both [] [] [] [] e f g h i z = z
five_both (x ∷ a) b c d e f g h i z = cc
five_both [] (x ∷ b) c d e f g h i z = cc
five_both [] [] (x ∷ c) d e f g h i z = cc
five_both [] [] [] (x ∷ d) e f g h i z = cc

two_none : (a b : List Failure) → a ++ b ≡ [] → (a ≡ []) × (b ≡ [])
two_none a b e = (none_front a b e, none_behind a b e)

four_places : (a b c d : List Place) → a ++ b ++ c ++ d ≡ [] → (a ≡ []) × (b ≡ []) × (c ≡ []) × (d ≡ [])
four_places [] [] [] d e = (refl, refl, refl, e)
four_places (x ∷ a) b c d e = cc
four_places [] (x ∷ b) c d e = cc
four_places [] [] (x ∷ c) d e = cc

no_places : (a b c d : List Place) → a ≡ [] → b ≡ [] → c ≡ [] → d ≡ [] → a ++ b ++ c ++ d ≡ []
no_places [] [] [] d e f g h = h
no_places (x ∷ a) b c d e f g h = cc
no_places [] (x ∷ b) c d e f g h = cc
no_places [] [] (x ∷ c) d e f g h = cc

-- ---- the function without a body

and_first : (a b : Bool) → (a && b) ≡ true → a ≡ true
and_first true b e = refl
and_first false b e = cc

and_second : (a b : Bool) → (a && b) ≡ true → b ≡ true
and_second true b e = e
and_second false b e = cc

and_both : (a b : Bool) → a ≡ true → b ≡ true → (a && b) ≡ true
and_both true b e f = f
and_both false b e f = cc

not_true : (b : Bool) → not b ≡ true → b ≡ false
not_true true e = cc
not_true false e = refl

pub spelled_same : (ts us : TokenList) (i : ℕ) (ws : List (List ℕ)) → ((t : ℕ) → t < i + length ws → word us t ≡ word ts t) → is_spelled us i ws ≡ is_spelled ts i ws
spelled_same ts us i [] w = refl
spelled_same ts us i (v ∷ ws) w =
    ap (λ x. same_text x v && is_spelled us (suc i) ws) (w i (omega arith)) ∙ ap (λ x. same_text (word ts i) v && x) (spelled_same ts us (suc i) ws (λ t l. w t (omega (arith, l))))

-- its last word is `int`
pub last_word : (ts : TokenList) (i : ℕ) → is_spelled ts i read_byte ≡ true → same_text (word ts (suc (suc (suc (suc i))))) (codes "int") ≡ true
last_word ts i e =
    let one = and_second (same_text (word ts i) (codes "func")) _ e in
    let two = and_second (same_text (word ts (suc i)) (codes "readByte")) _ one in
    let three = and_second (same_text (word ts (suc (suc i))) (codes "(")) _ two in
    let four = and_second (same_text (word ts (suc (suc (suc i)))) (codes ")")) _ three in
    and_first (same_text (word ts (suc (suc (suc (suc i))))) (codes "int")) true four

-- It stays so where the words do, and the package still doesn't declare `int`.
read_stays : (name : List ℕ) (b c : Bool) (ts us : TokenList) (i j : ℕ) → ((t : ℕ) → same_text name (word ts t) ≡ false) → ((t : ℕ) → t < i + 5 → word us t ≡ word ts t)
    → (b ≡ false → same_text name (codes "int") ≡ false → c ≡ false) → is_read_byte b ts i j ≡ true → is_read_byte c us i j ≡ true
read_stays name b c ts us i j q w f e =
    let front = and_first (nat_eq j (i + 5) && is_spelled ts i read_byte) (not b) e in
    let spelled = and_second (nat_eq j (i + 5)) (is_spelled ts i read_byte) front in
    let int : word ts (suc (suc (suc (suc i)))) ≡ codes "int" = same_text-true (word ts (suc (suc (suc (suc i))))) (codes "int") (last_word ts i spelled) in
    let other : same_text name (codes "int") ≡ false = subst (λ z. same_text name z ≡ false) int (q (suc (suc (suc (suc i))))) in
    and_both (nat_eq j (i + 5) && is_spelled us i read_byte) (not c)
    (and_both (nat_eq j (i + 5)) (is_spelled us i read_byte) (and_first (nat_eq j (i + 5)) (is_spelled ts i read_byte) front) (spelled_same ts us i read_byte w ∙ spelled))
    (ap not (f (not_true b (and_second (nat_eq j (i + 5) && is_spelled ts i read_byte) (not b) e)) other))

bodies_follow : (b c : Bool) (ts : TokenList) → ((i j : ℕ) → is_read_byte b ts i j ≡ true → is_read_byte c ts i j ≡ true) → (m : ℕ) (es : List Event) → bodiless b m ts es ≡ [] → bodiless c m ts es ≡ []
bodies_follow b c ts f m [] e = refl
bodies_follow b c ts f m (event.Bodiless i j ∷ es) e =
    let x = not (is_read_byte b ts i j) in
    none_there (not (is_read_byte c ts i j)) (bytes_at m ts (suc i)) (bodiless c m ts es)
    (ap not (f i j (still (is_read_byte b ts i j) (test_false x (bytes_at m ts (suc i)) (bodiless b m ts es) e))))
    (bodies_follow b c ts f m es (rest_none x (bytes_at m ts (suc i)) (bodiless b m ts es) e))
  where
    still : (d : Bool) → not d ≡ false → d ≡ true
    still true z = refl
    still false z = cc
bodies_follow b c ts f m (x ∷ es) e = bodies_follow b c ts f m es e

-- ---- imports that are used

imports_follow : (b c : Bool) (ts : TokenList) → (b ≡ true → c ≡ true) → (m : ℕ) (es : List Event) → imports_unless b m ts es ≡ [] → imports_unless c m ts es ≡ []
imports_follow b c ts f m [] e = refl
imports_follow b c ts f m (event.Import p ∷ es) e =
    none_there (not c) (bytes_at m ts p) (imports_unless c m ts es) (ap not (f (still b (test_false (not b) (bytes_at m ts p) (imports_unless b m ts es) e)))) (imports_follow b c ts f m es (rest_none (not b) (bytes_at m ts p) (imports_unless b m ts es) e))
  where
    still : (d : Bool) → not d ≡ false → d ≡ true
    still true z = refl
    still false z = cc
imports_follow b c ts f m (x ∷ es) e = imports_follow b c ts f m es e

each_follows : {P : Unit → Type 0} (r s : Rule) → ((u : Unit) → P u → Follows r s u) → (us : List Unit) → AllByRecursion P us → AllByRecursion (Follows r s) us
each_follows r s f [] h = tt
each_follows r s f (u ∷ us) h = (f u h.0, each_follows r s f us h.1)

every_follows : (r s : Rule) → ((u : Unit) → Follows r s u) → (us : List Unit) → AllByRecursion (Follows r s) us
every_follows r s f [] = tt
every_follows r s f (u ∷ us) = (f u, every_follows r s f us)

-- ---- members, whatever the number of their file

pub members_aside : (k m : ℕ) (before : List Event) (ts : TokenList) (es : List Event) → second_members before k ts es ≡ [] → second_members before m ts es ≡ []
members_aside k m before ts [] z = refl
members_aside k m before ts (event.Member x g i ∷ es) z =
    let b = is_duplicate x g (word ts i) ts before in
    none_there b (bytes_at m ts i) (second_members (before ++ event.Member x g i ∷ []) m ts es) (test_false b (bytes_at k ts i) (second_members (before ++ event.Member x g i ∷ []) k ts es) z)
    (members_aside k m (before ++ event.Member x g i ∷ []) ts es (rest_none b (bytes_at k ts i) (second_members (before ++ event.Member x g i ∷ []) k ts es) z))
members_aside k m before ts (e ∷ es) z = members_aside k m (before ++ e ∷ []) ts es z

-- ---- as many statements

many_same : (n : ℕ) (us : List Unit) (a b : Unit) (vs : List Unit) → ((m : ℕ) → length (statements m b.tokens b.events) ≡ length (statements m a.tokens a.events)) → length (of_files statements n (us ++ b ∷ vs)) ≡ length (of_files statements n (us ++ a ∷ vs))
many_same n [] a b vs f =
    let own = f n in
    let old = length-append (statements n a.tokens a.events) (of_files statements (suc n) vs) in
    let new = length-append (statements n b.tokens b.events) (of_files statements (suc n) vs) in
    omega (arith, own, old, new)
many_same n (u ∷ us) a b vs f =
    let later = many_same (suc n) us a b vs f in
    let old = length-append (statements n u.tokens u.events) (of_files statements (suc n) (us ++ a ∷ vs)) in
    let new = length-append (statements n u.tokens u.events) (of_files statements (suc n) (us ++ b ∷ vs)) in
    omega (arith, later, old, new)

pub import_same : (us : List Unit) (a b : Unit) (vs : List Unit) → imports_fmt b.tokens b.events ≡ imports_fmt a.tokens a.events → has_import (us ++ b ∷ vs) ≡ has_import (us ++ a ∷ vs)
import_same [] a b vs e = ap (λ x. x || has_import vs) e
import_same (u ∷ us) a b vs e = ap (λ x. imports_fmt u.tokens u.events || x) (import_same us a b vs e)

module _ (k n : ℕ) (name : List ℕ) (old new : List Unit) (h : IsAdded k n name old new) (i : LiesIn k n name old new h) (q : NoneSays name old) (w : FileIsWithin k n name old new h) (fine : FunctionIsFine k n name old new h) where
  abbrev e : ℕ
  e = h.longer.end

  abbrev ts : TokenList
  ts = h.a.tokens

  abbrev us : TokenList
  us = h.b.tokens

  abbrev extra : List Event
  extra = h.longer.added

  abbrev longest : List Event
  longest = map (reaching e) h.a.events ++ extra

  abbrev pub asks : List Asked
  asks = asked_from (meanings old) 0 old

  abbrev pub more_asks : List Asked
  more_asks = asked_from (meanings new) 0 new

  abbrev pub mid : List Asked
  mid = asked_in (meanings new) k us extra

  pub says : AllByRecursion (Says name) (h.before ++ h.a ∷ h.behind)
  says = following.says k n name old new h i q w

  pub own_says : Says name h.a
  own_says = (all_behind (Says name) h.before (h.a ∷ h.behind) says).0

  -- a rule on the events of each file
  by_files : (r s : Rule) → AllByRecursion (Follows r s) h.before → AllByRecursion (Follows r s) h.behind → ((m : ℕ) → r m ts h.a.events ≡ [] → s m us longest ≡ []) → of_files r 0 old ≡ [] → of_files s 0 new ≡ []
  by_files r s x y f z =
      subst (λ zs. of_files s 0 zs ≡ []) (sym h.is)
      (changed_none r s 0 h.before h.a h.b h.behind x y (λ m o. ap (s m us) h.longer.events ∙ f m o) (subst (λ zs. of_files r 0 zs ≡ []) h.was z))

  by_same_files : (r : Rule) → ((m : ℕ) → r m ts h.a.events ≡ [] → r m us longest ≡ []) → of_files r 0 old ≡ [] → of_files r 0 new ≡ []
  by_same_files r f z = by_files r r (all_follow r h.before) (all_follow r h.behind) f z

  -- ---- clauses

  clause_names : package_names old ≡ [] → package_names new ≡ []
  clause_names z = subst (λ zs. package_names zs ≡ []) (sym h.is) (files.names_none h.a h.b (h.longer.words 1 w.clause) h.before h.behind (subst (λ zs. package_names zs ≡ []) h.was z))

  clause_imports : imports old ≡ [] → imports new ≡ []
  clause_imports z = by_same_files other_imports (λ m o. own.imports_none n e ts us h.longer.words m h.a.events extra w.events fine.tells o) z

  clause_outside : outside_declarations (found old) ≡ [] → outside_declarations (found new) ≡ []
  clause_outside z =
      subst (λ zs. outside_declarations zs ≡ []) (sym (found_after k n name old new h i))
      (twice.outside_none k n e name h.longer.function h.longer.parameters h.longer.is_function h.longer.are_parameters (front k n name old new h i) (rest k n name old new h i) i.named fine.initial
      (subst (λ zs. outside_declarations zs ≡ []) (found_before k n name old new h i) z))

  undeclared_still : declares (codes "int") (found old) ≡ false → same_text name (codes "int") ≡ false → declares (codes "int") (found new) ≡ false
  undeclared_still z o =
      subst (λ zs. declares (codes "int") zs ≡ false) (sym (found_after k n name old new h i))
      (twice.still_undeclared k n e name h.longer.function h.longer.parameters h.longer.is_function h.longer.are_parameters (codes "int") (front k n name old new h i) (rest k n name old new h i) o
      (subst (λ zs. declares (codes "int") zs ≡ false) (found_before k n name old new h i) z))

  clause_bodies : missing_bodies (found old) old ≡ [] → missing_bodies (found new) new ≡ []
  clause_bodies z =
      let b = declares (codes "int") (found old) in
      let c = declares (codes "int") (found new) in
      let each : (u : Unit) → Says name u → Follows (bodiless b) (bodiless c) u =
      λ u s m o. bodies_follow b c u.tokens (λ x y r. read_stays name b c u.tokens u.tokens x y s (λ t l. refl) undeclared_still r) m u.events o in
      by_files (bodiless b) (bodiless c)
      (each_follows (bodiless b) (bodiless c) each h.before (all_front (Says name) h.before (h.a ∷ h.behind) says))
      (each_follows (bodiless b) (bodiless c) each h.behind (all_behind (Says name) h.before (h.a ∷ h.behind) says).1)
      (λ m o. own.bodiless_none n e ts us h.longer.words b c (λ x y l r. read_stays name b c ts us x y own_says (λ t v. h.longer.words t (inside x y l r t v)) undeclared_still r) m h.a.events extra w.events fine.tells o) z
    where
      inside : (x y : ℕ) → y ≤ n → is_read_byte (declares (codes "int") (found old)) ts x y ≡ true → (t : ℕ) → t < x + 5 → t < n
      inside x y l r t v =
          let b = declares (codes "int") (found old) in
          let whole : y ≡ x + 5 = eqb-true y (x + 5) (and_first (nat_eq y (x + 5)) (is_spelled ts x read_byte) (and_first (nat_eq y (x + 5) && is_spelled ts x read_byte) (not b) r)) in
          omega (arith, l, v, whole)

  pub clauses : clause_faults old ≡ [] → clause_faults new ≡ []
  clauses z =
      let o = four_none (failing code.PackageName (package_names old)) (failing code.Outside (imports old)) (failing code.Outside (outside_declarations (found old))) (failing code.Outside (missing_bodies (found old) old)) z in
      four_both (failing code.PackageName (package_names new)) (failing code.Outside (imports new)) (failing code.Outside (outside_declarations (found new))) (failing code.Outside (missing_bodies (found new) new))
      (none_failing code.PackageName (package_names new) (clause_names (failing_none code.PackageName (package_names old) o.0)))
      (none_failing code.Outside (imports new) (clause_imports (failing_none code.Outside (imports old) o.1)))
      (none_failing code.Outside (outside_declarations (found new)) (clause_outside (failing_none code.Outside (outside_declarations (found old)) o.2)))
      (none_failing code.Outside (missing_bodies (found new) new) (clause_bodies (failing_none code.Outside (missing_bodies (found old) old) o.3)))

  -- ---- declarations

  abbrev IsStill : Found → Type 0
  IsStill d = IsApart name d × IsEarlier k n d

  together : (xs : List Found) → AllByRecursion (IsApart name) xs → AllByRecursion (IsEarlier k n) xs → AllByRecursion IsStill xs
  together [] x y = tt
  together (d ∷ ds) x y = ((x.0, y.0), together ds x.1 y.1)

  all_apart : AllByRecursion (IsApart name) (front k n name old new h i ++ rest k n name old new h i)
  all_apart = subst (AllByRecursion (IsApart name)) (found_before k n name old new h i) (from_apart name 0 old q)

  pub kept_old : AllByRecursion IsStill (kept k n name old new h i)
  kept_old =
      let f = front k n name old new h i in
      let r = rest k n name old new h i in
      new_all IsStill (f ++ r) f (together f (all_front (IsApart name) f r all_apart) i.front_blocks)

  pub others_old : AllByRecursion IsStill (others k n name old new h i)
  others_old =
      let f = front k n name old new h i in
      let r = rest k n name old new h i in
      new_all IsStill (f ++ r) r (together r (all_behind (IsApart name) f r all_apart) i.rest_blocks)

  pub new_parameters : AllByRecursion (IsParameter k n) (new_among (all k n name old new h i) h.longer.parameters)
  new_parameters = parameters_new k n (all k n name old new h i) h.longer.parameters h.longer.are_parameters

  no_second : second_declarations [] (declarations old) ≡ [] → second_declarations [] (declarations new) ≡ []
  no_second z =
      subst (λ zs. second_declarations [] zs ≡ []) (sym (declarations_are k n name old new h i))
      (twice.second_none k n e name h.longer.function (new_among (all k n name old new h i) h.longer.parameters) h.longer.is_function new_parameters (kept k n name old new h i) (others k n name old new h i) kept_old others_old
      (subst (λ zs. second_declarations [] zs ≡ []) (declarations_were k n name old new h i) z))

  no_hidden : hidden_imports (has_import old) (declarations old) ≡ [] → hidden_imports (has_import new) (declarations new) ≡ []
  no_hidden z =
      let same : has_import new ≡ has_import old = ap has_import h.is ∙ import_same h.before h.a h.b h.behind i.imports ∙ ap has_import (sym h.was) in
      subst (λ b. hidden_imports b (declarations new) ≡ []) (sym same)
      (subst (λ zs. hidden_imports (has_import old) zs ≡ []) (sym (declarations_are k n name old new h i))
      (twice.hidden_none k n e name h.longer.function (new_among (all k n name old new h i) h.longer.parameters) h.longer.is_function new_parameters (has_import old) (kept k n name old new h i) (others k n name old new h i) fine.imported
      (subst (λ zs. hidden_imports (has_import old) zs ≡ []) (declarations_were k n name old new h i) z)))

  no_second_import : of_files (second_imports false) 0 old ≡ [] → of_files (second_imports false) 0 new ≡ []
  no_second_import z = by_same_files (second_imports false) (λ m o. own.second_none n e ts us h.longer.words false m h.a.events extra w.events fine.tells o) z

  all_new_there : none_new (declarations old) (found old) ≡ [] → none_new (declarations new) (found new) ≡ []
  all_new_there z =
      subst (λ zs. none_new zs (found new) ≡ []) (sym (declarations_are k n name old new h i))
      (subst (λ zs. none_new (map (longer k e) (kept k n name old new h i) ++ (added k n name old new h i ++ map (longer k e) (others k n name old new h i))) zs ≡ []) (sym (found_after k n name old new h i))
      (twice.new_none k n e name h.longer.function h.longer.parameters h.longer.is_function h.longer.are_parameters (added k n name old new h i) (kept k n name old new h i) (others k n name old new h i) (front k n name old new h i) (rest k n name old new h i)
      (subst (λ zs. none_new (kept k n name old new h i ++ others k n name old new h i) zs ≡ []) (found_before k n name old new h i)
      (subst (λ zs. none_new zs (found old) ≡ []) (declarations_were k n name old new h i) z))))

  once : redeclared old (declarations old) ≡ [] → redeclared new (declarations new) ≡ []
  once z =
      let o = four_places (second_declarations [] (declarations old)) (hidden_imports (has_import old) (declarations old)) (of_files (second_imports false) 0 old) (none_new (declarations old) (found old)) z in
      no_places (second_declarations [] (declarations new)) (hidden_imports (has_import new) (declarations new)) (of_files (second_imports false) 0 new) (none_new (declarations new) (found new))
      (no_second o.0) (no_hidden o.1) (no_second_import o.2) (all_new_there o.3)

  -- ---- names that are looked up

  pub follow : AsksFollow k e (g k n name old new h i) mid asks more_asks
  follow = following.follow k n name old new h i q w

  lookups : lookup_faults asks ≡ [] → lookup_faults more_asks ≡ []
  lookups z =
      let o = five_none (failing code.Undeclared (undeclared asks)) (failing code.Outside (outside_names asks)) (failing code.Outside (outside_members asks)) (failing code.NotAValue (not_called asks)) (failing code.Initialiser (initialisers asks)) z in
      let m = five_none (failing code.Undeclared (undeclared mid)) (failing code.Outside (outside_names mid)) (failing code.Outside (outside_members mid)) (failing code.NotAValue (not_called mid)) (failing code.Initialiser (initialisers mid)) fine.asks in
      let d = g k n name old new h i in
      five_both (failing code.Undeclared (undeclared more_asks)) (failing code.Outside (outside_names more_asks)) (failing code.Outside (outside_members more_asks)) (failing code.NotAValue (not_called more_asks)) (failing code.Initialiser (initialisers more_asks))
      (none_failing code.Undeclared (undeclared more_asks) (undeclared_none k e d mid asks more_asks follow (failing_none code.Undeclared (undeclared mid) m.0) (failing_none code.Undeclared (undeclared asks) o.0)))
      (none_failing code.Outside (outside_names more_asks) (names_none k e d mid asks more_asks follow (failing_none code.Outside (outside_names mid) m.1) (failing_none code.Outside (outside_names asks) o.1)))
      (none_failing code.Outside (outside_members more_asks) (selected_none k e d mid asks more_asks follow (failing_none code.Outside (outside_members mid) m.2) (failing_none code.Outside (outside_members asks) o.2)))
      (none_failing code.NotAValue (not_called more_asks) (calls_none k e d mid asks more_asks follow (failing_none code.NotAValue (not_called mid) m.3) (failing_none code.NotAValue (not_called asks) o.3)))
      (none_failing code.Initialiser (initialisers more_asks) (initials_none k e d mid asks more_asks follow (failing_none code.Initialiser (initialisers mid) m.4) (failing_none code.Initialiser (initialisers asks) o.4)))

  -- ---- what isn't used

  abbrev Uses : List Asked → Found → Type 0
  Uses as_ d = (is_counted d.it.entity d.it.block && not (is_used d as_)) ≡ false

  all_used : (xs : List Asked) (ds : List Found) → unused_variables xs ds ≡ [] → AllByRecursion (Uses xs) ds
  all_used xs [] z = tt
  all_used xs (d ∷ ds) z = let x = is_counted d.it.entity d.it.block && not (is_used d xs) in (test_false x d.place (unused_variables xs ds) z, all_used xs ds (rest_none x d.place (unused_variables xs ds) z))

  used_none : (xs : List Asked) (ds : List Found) → AllByRecursion (Uses xs) ds → unused_variables xs ds ≡ []
  used_none xs [] z = refl
  used_none xs (d ∷ ds) z = none_there (is_counted d.it.entity d.it.block && not (is_used d xs)) d.place (unused_variables xs ds) z.0 (used_none xs ds z.1)

  one_used : (d : Found) → Uses asks d → Uses more_asks (longer k e d)
  one_used d z = by (is_counted d.it.entity d.it.block) (is_used d asks) refl z
    where
      by : (a b : Bool) → is_used d asks ≡ b → (a && not b) ≡ false → (a && not (is_used (longer k e d) more_asks)) ≡ false
      by a true r x = ap (λ c. a && not c) (still_used k e (g k n name old new h i) d mid asks more_asks follow r) ∙ twice.and_none a false refl
      by true false r x = cc
      by false false r x = refl

  function_used : Uses more_asks h.longer.function
  function_used = ap (λ x. is_counted x h.longer.function.it.block && not (is_used h.longer.function more_asks)) h.longer.is_function.entity

  parameter_used : (d : Found) → IsParameter k n d → Uses more_asks d
  parameter_used d p = ap (λ x. is_counted x d.it.block && not (is_used d more_asks)) p.entity

  no_unused : unused_variables asks (declarations old) ≡ [] → unused_variables more_asks (declarations new) ≡ []
  no_unused z =
      let x = kept k n name old new h i in
      let y = others k n name old new h i in
      let all_ = all_used asks (x ++ y) (subst (λ zs. unused_variables asks zs ≡ []) (declarations_were k n name old new h i) z) in
      subst (λ zs. unused_variables more_asks zs ≡ []) (sym (declarations_are k n name old new h i))
      (used_none more_asks (map (longer k e) x ++ (added k n name old new h i ++ map (longer k e) y))
      (all_both (Uses more_asks) (map (longer k e) x) (added k n name old new h i ++ map (longer k e) y) (all_mapped (Uses asks) (Uses more_asks) (longer k e) one_used x (all_front (Uses asks) x y all_))
      (all_both (Uses more_asks) (added k n name old new h i) (map (longer k e) y)
      (function_used, all_more (IsParameter k n) (Uses more_asks) parameter_used (new_among (all k n name old new h i) h.longer.parameters) new_parameters)
      (all_mapped (Uses asks) (Uses more_asks) (longer k e) one_used y (all_behind (Uses asks) x y all_)))))

  no_unused_import : unused_imports asks old ≡ [] → unused_imports more_asks new ≡ []
  no_unused_import z =
      let r : Rule = λ m. imports_unless (uses_import m asks) m in
      let s : Rule = λ m. imports_unless (uses_import m more_asks) m in
      let still : (m : ℕ) → uses_import m asks ≡ true → uses_import m more_asks ≡ true = λ m x. still_imported k e (g k n name old new h i) m mid asks more_asks follow x in
      let each : (u : Unit) → Follows r s u = λ u m o. imports_follow (uses_import m asks) (uses_import m more_asks) u.tokens (still m) m u.events o in
      by_files r s (every_follows r s each h.before) (every_follows r s each h.behind)
      (λ m o. own.used_none n e ts us h.longer.words (uses_import m asks) (uses_import m more_asks) (still m) m h.a.events extra fine.tells o) z

  used : unused_faults old (declarations old) asks ≡ [] → unused_faults new (declarations new) more_asks ≡ []
  used z =
      let o = two_none (failing code.UnusedVariable (unused_variables asks (declarations old))) (failing code.UnusedImport (unused_imports asks old)) z in
      none_both (failing code.UnusedVariable (unused_variables more_asks (declarations new))) (failing code.UnusedImport (unused_imports more_asks new))
      (none_failing code.UnusedVariable (unused_variables more_asks (declarations new)) (no_unused (failing_none code.UnusedVariable (unused_variables asks (declarations old)) o.0)))
      (none_failing code.UnusedImport (unused_imports more_asks new) (no_unused_import (failing_none code.UnusedImport (unused_imports asks old) o.1)))

  -- ---- what stands in each file

  no_branches : branches old ≡ [] → branches new ≡ []
  no_branches z = by_same_files misplaced (λ m o. own.misplaced_none n e ts us h.longer.words m h.a.events extra fine.tells o) z

  no_duplicates : duplicates old ≡ [] → duplicates new ≡ []
  no_duplicates z =
      let first_part = none_front (of_files (second_members []) 0 old) (of_files second_defaults 0 old) z in
      let second_part = none_behind (of_files (second_members []) 0 old) (of_files second_defaults 0 old) z in
      none_both (of_files (second_members []) 0 new) (of_files second_defaults 0 new)
      (by_same_files (second_members []) (λ m o. own.members_none n e ts us h.longer.words m [] h.a.events extra tt w.events fine.tells (members_at m) o) first_part)
      (by_same_files second_defaults (λ m o. own.defaults_none n e ts us h.longer.words m h.a.events extra fine.tells o) second_part)
    where
      members_at : (m : ℕ) → second_members [] m us extra ≡ []
      members_at m = members_aside k m [] us extra fine.members

  no_limit : limit old ≡ [] → limit new ≡ []
  no_limit z =
      let many : (m : ℕ) → length (statements m us h.b.events) ≡ length (statements m ts h.a.events) = λ m. ap (λ l. length (statements m us l)) h.longer.events ∙ own.as_many n e ts us h.longer.words m h.a.events extra fine.tells in
      own.limit_none 65536 (of_files statements 0 old) (of_files statements 0 new)
      (ap (λ l. length (of_files statements 0 l)) h.is ∙ many_same 0 h.before h.a h.b h.behind many ∙ ap (λ l. length (of_files statements 0 l)) (sym h.was)) z

  no_hidden_lists : hidden_lists old ≡ [] → hidden_lists new ≡ []
  no_hidden_lists z = by_same_files hidden_in (λ m o. own.lists_none n e ts us h.longer.words (bytes_at m ts) (bytes_at m us) [] h.a.events extra tt w.events fine.tells o) z

  placed : placed_faults old ≡ [] → placed_faults new ≡ []
  placed z =
      let o = four_none (failing code.Branch (branches old)) (failing code.Duplicate (duplicates old)) (failing code.Limit (limit old)) (failing code.Outside (hidden_lists old)) z in
      four_both (failing code.Branch (branches new)) (failing code.Duplicate (duplicates new)) (failing code.Limit (limit new)) (failing code.Outside (hidden_lists new))
      (none_failing code.Branch (branches new) (no_branches (failing_none code.Branch (branches old) o.0)))
      (none_failing code.Duplicate (duplicates new) (no_duplicates (failing_none code.Duplicate (duplicates old) o.1)))
      (none_failing code.Limit (limit new) (no_limit (failing_none code.Limit (limit old) o.2)))
      (none_failing code.Outside (hidden_lists new) (no_hidden_lists (failing_none code.Outside (hidden_lists old) o.3)))

  -- ---- declarations that need themselves

  abbrev pub IsInFront : Found → Type 0
  IsInFront = IsOld k n e (g k n name old new h i)

  pub kept_is_old : AllByRecursion IsInFront (kept k n name old new h i)
  kept_is_old = following.kept_is_old k n name old new h i q w

  pub others_is_old : AllByRecursion IsInFront (others k n name old new h i)
  others_is_old = following.others_is_old k n name old new h i q w

  pub declared_is_old : AllByRecursion IsInFront (declarations old)
  declared_is_old = following.declared_is_old k n name old new h i q w

  -- each name that is looked up means what is declared
  abbrev pub IsThere : Found → Type 0
  IsThere d = IsInFront d × IsDeclared d (declarations old)

  one_itself : (d : Found) → is_same d d ≡ true
  one_itself d = grind (arith, nat_tests)

  declared_more : (d x : Found) (ds : List Found) → IsDeclared d ds → IsDeclared d (x ∷ ds)
  declared_more d x ds z = inr z

  all_there : (ds : List Found) → AllByRecursion (λ d. IsDeclared d ds) ds
  all_there [] = tt
  all_there (d ∷ ds) = (inl (one_itself d), all_more (λ x. IsDeclared x ds) (λ x. IsDeclared x (d ∷ ds)) (λ x z. declared_more x d ds z) ds (all_there ds))

  pair : (ds : List Found) → AllByRecursion IsInFront ds → AllByRecursion (λ d. IsDeclared d (declarations old)) ds → AllByRecursion IsThere ds
  pair [] x y = tt
  pair (d ∷ ds) x y = ((x.0, y.0), pair ds x.1 y.1)

  meanings_there : AllByRecursion (λ m. SourceHas IsThere m.source) (meanings old)
  meanings_there =
      all_both (λ m. SourceHas IsThere m.source) (imported_from 0 old) (numbered first_numbers (declarations old)) (imports_have IsThere 0 old)
      (numbered_has IsThere first_numbers (declarations old) (pair (declarations old) declared_is_old (all_there (declarations old))))

  pub asks_there : AllByRecursion (λ a. Maybe (λ m. SourceHas IsThere m.source) a.meaning) asks
  asks_there = from_has (λ m. SourceHas IsThere m.source) (meanings old) meanings_there 0 old

  are_declared : (xs : List Asked) → AllByRecursion (λ a. Maybe (λ m. SourceHas IsThere m.source) a.meaning) xs → AreDeclared xs (declarations old)
  are_declared [] x d s = absurd s
  are_declared (a ∷ xs) x d (inl s) = by a.meaning x.0 s
    where
      some_found : (y z : Found) → ◌≡◌ {A = Option Found} (Some y) (Some z) → y ≡ z
      some_found y z q = cc

      of : (o : Option Found) → SourceHas IsThere o → o ≡ Some d → IsDeclared d (declarations old)
      of None y q = absurd cc
      of (Some v) y q = subst (λ z. IsDeclared z (declarations old)) (some_found v d q) y.1

      by : (m : Option Meaning) → Maybe (λ v. SourceHas IsThere v.source) m → source_of m ≡ Some d → IsDeclared d (declarations old)
      by None y q = absurd cc
      by (Some m) y q = of m.source y q
  are_declared (a ∷ xs) x d (inr s) = are_declared xs x.1 d s

  source_is_old : (o : Option Found) → SourceHas IsThere o → SourceHas IsInFront o
  source_is_old None x = tt
  source_is_old (Some d) x = x.0

  maybe_old : (m : Option Meaning) → Maybe (λ v. SourceHas IsThere v.source) m → Maybe (λ v. SourceHas IsInFront v.source) m
  maybe_old None x = tt
  maybe_old (Some m) x = source_is_old m.source x

  pub asks_old : AllByRecursion (λ a. Maybe (λ m. SourceHas IsInFront m.source) a.meaning) asks
  asks_old = all_more (λ a. Maybe (λ m. SourceHas IsThere m.source) a.meaning) (λ a. Maybe (λ m. SourceHas IsInFront m.source) a.meaning) (λ a x. maybe_old a.meaning x) asks asks_there

  -- names of the file stand in specifications in front of its end
  early_in : (ms : List Meaning) (es : List Event) → AllByRecursion (EventWithin n) es → AllByRecursion (λ a. nat_eq a.file k ≡ true → SiteWithin n a.it.site) (asked_in ms k ts es)
  early_in ms [] x = tt
  early_in ms (event.Use u ∷ es) x = by (is_blank (word ts u.name)) (early_in ms es x.1)
    where
      by : (b : Bool) → AllByRecursion (λ a. nat_eq a.file k ≡ true → SiteWithin n a.it.site) (asked_in ms k ts es)
          → AllByRecursion (λ a. nat_eq a.file k ≡ true → SiteWithin n a.it.site) (if b then asked_in ms k ts es else asked ms k ts u ∷ asked_in ms k ts es)
      by true y = y
      by false y = ((λ z. x.0.2), y)
  early_in ms (event.Declaration d ∷ es) x = early_in ms es x.1
  early_in ms (event.Import p ∷ es) x = early_in ms es x.1
  early_in ms (event.Member m y j ∷ es) x = early_in ms es x.1
  early_in ms (event.Bodiless y j ∷ es) x = early_in ms es x.1
  early_in ms (event.Statement y j ∷ es) x = early_in ms es x.1
  early_in ms (event.Misplaced y j ∷ es) x = early_in ms es x.1
  early_in ms (event.SecondDefault y ∷ es) x = early_in ms es x.1

  other_early : (ms : List Meaning) (m : ℕ) (vs : TokenList) (es : List Event) → nat_eq m k ≡ false → AllByRecursion (λ a. nat_eq a.file k ≡ true → SiteWithin n a.it.site) (asked_in ms m vs es)
  other_early ms m vs [] x = tt
  other_early ms m vs (event.Use u ∷ es) x = by (is_blank (word vs u.name)) (other_early ms m vs es x)
    where
      never : {X : Type 0} → false ≡ true → X
      never z = cc

      by : (b : Bool) → AllByRecursion (λ a. nat_eq a.file k ≡ true → SiteWithin n a.it.site) (asked_in ms m vs es)
          → AllByRecursion (λ a. nat_eq a.file k ≡ true → SiteWithin n a.it.site) (if b then asked_in ms m vs es else asked ms m vs u ∷ asked_in ms m vs es)
      by true y = y
      by false y = ((λ z. never (sym x ∙ z)), y)
  other_early ms m vs (event.Declaration d ∷ es) x = other_early ms m vs es x
  other_early ms m vs (event.Import p ∷ es) x = other_early ms m vs es x
  other_early ms m vs (event.Member o y j ∷ es) x = other_early ms m vs es x
  other_early ms m vs (event.Bodiless y j ∷ es) x = other_early ms m vs es x
  other_early ms m vs (event.Statement y j ∷ es) x = other_early ms m vs es x
  other_early ms m vs (event.Misplaced y j ∷ es) x = other_early ms m vs es x
  other_early ms m vs (event.SecondDefault y ∷ es) x = other_early ms m vs es x

  abbrev IsEarly : Asked → Type 0
  IsEarly a = nat_eq a.file k ≡ true → SiteWithin n a.it.site

  early_behind : (ms : List Meaning) (m : ℕ) (xs : List Unit) → k < m → AllByRecursion IsEarly (asked_from ms m xs)
  early_behind ms m [] l = tt
  early_behind ms m (u ∷ xs) l =
      all_both IsEarly (asked_in ms m u.tokens u.events) (asked_from ms (suc m) xs) (other_early ms m u.tokens u.events (grind (arith, nat_tests))) (early_behind ms (suc m) xs (omega (arith, l)))

  early_from : (ms : List Meaning) (m : ℕ) (xs : List Unit) → m + length xs ≡ k → AllByRecursion IsEarly (asked_from ms m (xs ++ h.a ∷ h.behind))
  early_from ms m [] l =
      let same : k ≡ m = omega (arith, l) in
      subst (λ z. AllByRecursion IsEarly (asked_in ms z ts h.a.events ++ asked_from ms (suc z) h.behind)) same
      (all_both IsEarly (asked_in ms k ts h.a.events) (asked_from ms (suc k) h.behind) (early_in ms h.a.events w.events) (early_behind ms (suc k) h.behind (omega arith)))
  early_from ms m (u ∷ xs) l =
      all_both IsEarly (asked_in ms m u.tokens u.events) (asked_from ms (suc m) (xs ++ h.a ∷ h.behind)) (other_early ms m u.tokens u.events (grind (arith, nat_tests))) (early_from ms (suc m) xs (omega (arith, l)))

  asks_early : AllByRecursion IsEarly asks
  asks_early = subst (λ us. AllByRecursion IsEarly (asked_from (meanings old) 0 us)) (sym h.was) (early_from (meanings old) 0 h.before (let p = h.place in omega (arith, p)))

  own_in : (es : List Event) → AllByRecursion (IsOfFunction n) es → AllByRecursion (λ d. (is_function d.it.entity ≡ false → d.it.source ≡ None) × SourceBehind n d.it.source) (found_in k us es)
  own_in [] x = tt
  own_in (event.Declaration d ∷ es) x = ((x.0.1, x.0.2), own_in es x.1)
  own_in (event.Use u ∷ es) x = own_in es x.1
  own_in (event.Import p ∷ es) x = absurd x.0
  own_in (event.Member m y j ∷ es) x = own_in es x.1
  own_in (event.Bodiless y j ∷ es) x = absurd x.0
  own_in (event.Statement y j ∷ es) x = absurd x.0
  own_in (event.Misplaced y j ∷ es) x = absurd x.0
  own_in (event.SecondDefault y ∷ es) x = absurd x.0

  abbrev IsOwn : Found → Type 0
  IsOwn d = (is_function d.it.entity ≡ false → d.it.source ≡ None) × SourceBehind n d.it.source

  own_declared : AllByRecursion IsOwn (h.longer.function ∷ h.longer.parameters)
  own_declared = subst (AllByRecursion IsOwn) h.longer.declares (own_in extra fine.tells)

  -- the meanings of the package with it
  abbrev Comes : Meaning → Type 0
  Comes m = SourceIsOuter k n m.source → (s : Option Found) × (m.source ≡ option_map (longer k e) s) × SourceHas IsInFront s

  moved_come : (ms : List Meaning) → AllByRecursion (λ m. SourceHas IsInFront m.source) ms → AllByRecursion Comes (map (moved k e (g k n name old new h i)) ms)
  moved_come [] x = tt
  moved_come (m ∷ ms) x = ((λ z. (m.source, refl, x.0)), moved_come ms x.1)

  new_come : (l : Numbers) (ds : List Found) → AllByRecursion (λ d. (d.file ≡ k) × (n ≤ d.it.name)) ds → AllByRecursion Comes (numbered l ds)
  new_come l [] x = tt
  new_come l (d ∷ ds) x = ((λ z. absurd (not_outer d x.0 z)), new_come (numbers_behind l d.it.entity d.it.block) ds x.1)
    where
      not_outer : (y : Found) → (y.file ≡ k) × (n ≤ y.it.name) → (nat_eq y.file k ≡ true → y.it.name < n) → ⊥
      not_outer y f z =
          let file = f.0 in
          let named = f.1 in
          let below = z (let q : nat_eq y.file k ≡ true = grind (arith, nat_tests) in q) in
          absurd (omega (arith, named, below))

  pub added_stand : AllByRecursion (λ d. (d.file ≡ k) × (n ≤ d.it.name)) (added k n name old new h i)
  added_stand = (
    (h.longer.is_function.file, h.longer.is_function.named),
    all_more (IsParameter k n) (λ d. (d.file ≡ k) × (n ≤ d.it.name)) (λ d p. (p.file, p.named)) (new_among (all k n name old new h i) h.longer.parameters) new_parameters,
  )

  first_old : AllByRecursion (λ m. SourceHas IsInFront m.source) (first_meanings k n name old new h i)
  first_old =
      all_both (λ m. SourceHas IsInFront m.source) (imported_from 0 old) (numbered first_numbers (kept k n name old new h i)) (imports_have IsInFront 0 old) (numbered_has IsInFront first_numbers (kept k n name old new h i) kept_is_old)

  other_old : AllByRecursion (λ m. SourceHas IsInFront m.source) (other_meanings k n name old new h i)
  other_old = numbered_has IsInFront (behind first_numbers (kept k n name old new h i)) (others k n name old new h i) others_is_old

  all_come : AllByRecursion Comes (meanings new)
  all_come =
      let m = moved k e (g k n name old new h i) in
      let x = first_meanings k n name old new h i in
      let y = new_meanings k n name old new h i in
      let z = other_meanings k n name old new h i in
      subst (AllByRecursion Comes) (sym (meanings_are k n name old new h i))
      (all_both Comes (map m x) (y ++ map m z) (moved_come x first_old)
      (all_both Comes y (map m z) (new_come (behind first_numbers (kept k n name old new h i)) (added k n name old new h i) added_stand) (moved_come z other_old)))

  mid_comes : AllByRecursion (λ a. Maybe Comes a.meaning) mid
  mid_comes = asked_has Comes (meanings new) all_come k us extra

  pub mid_news : AllByRecursion (λ a. (a.file ≡ k) × SiteBehind n a.it.site) mid
  mid_news = following.news_in k n name old new h i q w (meanings new) extra fine.tells

  comes_from : (xs : List Asked) → AllByRecursion (λ a. Maybe Comes a.meaning) xs → AllByRecursion (λ a. MeansOuter k n a.meaning) xs
      → AllByRecursion (λ a. Maybe (ComesFrom k n e (g k n name old new h i) mid asks more_asks follow mid_news asks_old) a.meaning) xs
  comes_from [] x y = tt
  comes_from (a ∷ xs) x y = (by a.meaning x.0 y.0, comes_from xs x.1 y.1)
    where
      by : (m : Option Meaning) → Maybe Comes m → MeansOuter k n m → Maybe (ComesFrom k n e (g k n name old new h i) mid asks more_asks follow mid_news asks_old) m
      by None p q = tt
      by (Some m) p q = p q

  abbrev pub Never : List Asked → ℕ → Found → Type 0
  Never as_ r d = needs_itself as_ r d ≡ false

  or_front : (a b : Bool) → (a || b) ≡ false → a ≡ false
  or_front true b z = cc
  or_front false b z = refl

  or_rest : (a b : Bool) → (a || b) ≡ false → b ≡ false
  or_rest true b z = cc
  or_rest false b z = z

  none_any : (r : ℕ) (ds : List Found) → cycles asks r ds ≡ [] → any_itself asks r ds ≡ false
  none_any r [] z = refl
  none_any r (d ∷ ds) z =
      let b = needs_itself asks r d in
      ap (λ x. x || any_itself asks r ds) (test_false b d.place (cycles asks r ds) z) ∙ none_any r ds (rest_none b d.place (cycles asks r ds) z)

  any_never : (r : ℕ) (ds : List Found) → any_itself asks r ds ≡ false → AllByRecursion (Never asks r) ds
  any_never r [] z = tt
  any_never r (d ∷ ds) z = (or_front (needs_itself asks r d) (any_itself asks r ds) z, any_never r ds (or_rest (needs_itself asks r d) (any_itself asks r ds) z))

  never_cycles : (r : ℕ) (ds : List Found) → AllByRecursion (Never more_asks r) ds → cycles more_asks r ds ≡ []
  never_cycles r [] z = refl
  never_cycles r (d ∷ ds) z = none_there (needs_itself more_asks r d) d.place (cycles more_asks r ds) z.0 (never_cycles r ds z.1)

  still_never : (r : ℕ) (ds : List Found) → AllByRecursion IsInFront ds → AllByRecursion (Never asks r) ds → AllByRecursion (Never more_asks r) (map (longer k e) ds)
  still_never r [] o z = tt
  still_never r (d ∷ ds) o z = (itself_same k n e (g k n name old new h i) mid asks more_asks follow mid_news asks_old r d o.0 ∙ z.0, still_never r ds o.1 z.1)

  pub new_never : (r : ℕ) → AllByRecursion (Never more_asks r) (added k n name old new h i)
  new_never r = (
    function_never k n e (g k n name old new h i) mid asks more_asks follow mid_news asks_old h.longer.function h.longer.is_function.file h.longer.is_function.named own_declared.0.1 asks_early (comes_from mid mid_comes fine.outer) r,
    new_all (Never more_asks r) (all k n name old new h i) h.longer.parameters (parameters_never h.longer.parameters h.longer.are_parameters own_declared.1),
  )
    where
      parameters_never : (ds : List Found) → AllByRecursion (IsParameter k n) ds → AllByRecursion IsOwn ds → AllByRecursion (Never more_asks r) ds
      parameters_never [] x y = tt
      parameters_never (d ∷ ds) x y = (sourceless more_asks r d (y.0.0 (ap is_function x.0.entity)), parameters_never ds x.1 y.1)

  pub no_cycles : Bound → cycle_faults (declarations old) asks ≡ [] → cycle_faults (declarations new) more_asks ≡ []
  no_cycles bound z =
      let ds = declarations old in
      let few = none_any (length ds + length ds) ds (failing_none code.Cycle (cycles asks (length ds + length ds) ds) z) in
      let r = length (declarations new) + length (declarations new) in
      let x = kept k n name old new h i in
      let y = others k n name old new h i in
      let were_never : AllByRecursion (Never asks r) (x ++ y) = subst (AllByRecursion (Never asks r)) (declarations_were k n name old new h i) (any_never r ds (never_itself bound asks ds (are_declared asks asks_there) few r)) in
      let are_never : AllByRecursion (Never more_asks r) (map (longer k e) x ++ (added k n name old new h i ++ map (longer k e) y)) =
      all_both (Never more_asks r) (map (longer k e) x) (added k n name old new h i ++ map (longer k e) y) (still_never r x kept_is_old (all_front (Never asks r) x y were_never))
      (all_both (Never more_asks r) (added k n name old new h i) (map (longer k e) y) (new_never r) (still_never r y others_is_old (all_behind (Never asks r) x y were_never))) in
      none_failing code.Cycle (cycles more_asks r (declarations new)) (never_cycles r (declarations new) (subst (AllByRecursion (Never more_asks r)) (sym (declarations_are k n name old new h i)) are_never))

  -- ---- all rules

  pub faultless : Bound → reported old ≡ None → reported new ≡ None
  faultless bound z =
      let x = least_none (clause_faults old) (first_none (least (clause_faults old)) (least (name_faults old)) z) in
      let y = least_none (name_faults old) (second_none (least (clause_faults old)) (least (name_faults old)) z) in
      let o = five_none (failing code.Redeclared (redeclared old (declarations old))) (lookup_faults asks) (unused_faults old (declarations old) asks) (placed_faults old) (cycle_faults (declarations old) asks) y in
      nothing_reported (clause_faults new) (name_faults new) (clauses x)
      (five_both (failing code.Redeclared (redeclared new (declarations new))) (lookup_faults more_asks) (unused_faults new (declarations new) more_asks) (placed_faults new) (cycle_faults (declarations new) more_asks)
      (none_failing code.Redeclared (redeclared new (declarations new)) (once (failing_none code.Redeclared (redeclared old (declarations old)) o.0)))
      (lookups o.1) (used o.2) (placed o.3) (no_cycles bound o.4))
