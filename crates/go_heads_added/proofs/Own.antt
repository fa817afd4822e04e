-- The rules on what a file tells by itself, where the file has a function with an empty body more.
use Rattle.std.proofs.Common.{◌≡◌, ℕ, zero, suc, ◌<◌, ◌≤◌, Bool, true, false, ◌&&◌, ◌||◌, not, List, [], ◌∷◌, ◌++◌, length, map, drop, Option, Some, None, refl, sym, ap, subst, ◌∙◌, append_assoc, append-nil, arith}
use Rattle.std.specs.Prelude.{nat_eq}
use Rattle.std.specs.List.{AllByRecursion}
use Rattle.std.proofs.lemmas.Bool.Decides.{nat_tests}
use Rattle.go_tokens.specs.Spellings.{same_text}
use Rattle.go_tokens.specs.Tokens.{TokenList}
use Rattle.go_tree.specs.declared.event.Event.{Event}
use Rattle.go_tree.specs.declared.event.Event.TheVariants as event
use Rattle.go_tree.specs.declared.event.Member.{Member}
use Rattle.go_tree.specs.declared.event.Member.TheVariants as member
use Rattle.go_tree.specs.Branches.{misplaced, statements, first_place}
use Rattle.go_tree.specs.Clauses.{other_imports, is_read_byte, bodiless}
use Rattle.go_tree.specs.Constants.{is_list, list_of, list_around, uses_name, hides_one, is_hidden, is_repetition, hidden_lists_by}
use Rattle.go_tree.specs.Duplicates.{same_member, has_member, is_duplicate, second_members, second_defaults}
use Rattle.go_tree.specs.Imports.{is_fmt_value, is_fmt_path}
use Rattle.go_tree.specs.Lookups.{imports_unless}
use Rattle.go_tree.specs.Redeclared.{second_imports}
use Rattle.go_tree.specs.Units.{Place, word, is_blank, bytes_at}
use Rattle.go_heads_added.specs.Added.{reaching}
use Rattle.go_heads_added.specs.Within.{EventWithin, IsOfFunction}
use Rattle.go_heads_added.proofs.Files.{test_false, rest_none, none_there}

-- ---- booleans

and_none : (a b : Bool) → b ≡ false → (a && b) ≡ false
and_none true b e = e
and_none false b e = refl

mid_none : (a b c : Bool) → b ≡ false → (a && b && c) ≡ false
mid_none true true c e = cc
mid_none true false c e = refl
mid_none false b c e = refl

same_or : (a b c d : Bool) → a ≡ b → c ≡ d → (a || c) ≡ (b || d)
same_or a b c d e f = cc

-- ---- as many statements

drop_none : (k : ℕ) (xs ys : List Place) → length ys ≡ length xs → drop k xs ≡ [] → drop k ys ≡ []
drop_none zero [] [] l e = refl
drop_none zero [] (y ∷ ys) l e = cc
drop_none zero (x ∷ xs) ys l e = cc
drop_none (suc k) [] [] l e = refl
drop_none (suc k) [] (y ∷ ys) l e = cc
drop_none (suc k) (x ∷ xs) [] l e = refl
drop_none (suc k) (x ∷ xs) (y ∷ ys) l e = drop_none k xs ys (omega (arith, l)) e

first_none : (xs : List Place) → first_place xs ≡ [] → xs ≡ []
first_none [] e = refl
first_none (x ∷ xs) e = cc

pub limit_none : (k : ℕ) (xs ys : List Place) → length ys ≡ length xs → first_place (drop k xs) ≡ [] → first_place (drop k ys) ≡ []
limit_none k xs ys l e = ap first_place (drop_none k xs ys l (first_none (drop k xs) e))

module _ (n end : ℕ) (ts us : TokenList) (w : (t : ℕ) → t < n → word us t ≡ word ts t) where
  abbrev to : List Event → List Event
  to es = map (reaching end) es

  abbrev AllWithin : List Event → Type 0
  AllWithin es = AllByRecursion (EventWithin n) es

  abbrev AllOf : List Event → Type 0
  AllOf es = AllByRecursion (IsOfFunction n) es

  -- ---- imports

  pub others_none : (k : ℕ) (es : List Event) → AllOf es → other_imports k us es ≡ []
  others_none k [] h = refl
  others_none k (event.Import p ∷ es) h = absurd h.0
  others_none k (e ∷ es) h = others_none k es h.1

  pub imports_none : (k : ℕ) (es added : List Event) → AllWithin es → AllOf added → other_imports k ts es ≡ [] → other_imports k us (to es ++ added) ≡ []
  imports_none k [] added h a e = others_none k added a
  imports_none k (event.Import p ∷ es) added h a e =
      let x = not (is_fmt_path ts p) in
      none_there (not (is_fmt_path us p)) (bytes_at k us p) (other_imports k us (to es ++ added))
      (ap (λ v. not (is_fmt_value v)) (w p h.0) ∙ test_false x (bytes_at k ts p) (other_imports k ts es) e)
      (imports_none k es added h.1 a (rest_none x (bytes_at k ts p) (other_imports k ts es) e))
  imports_none k (x ∷ es) added h a e = imports_none k es added h.1 a e

  pub seconds_none : (b : Bool) (k : ℕ) (es : List Event) → AllOf es → second_imports b k us es ≡ []
  seconds_none b k [] h = refl
  seconds_none b k (event.Import p ∷ es) h = absurd h.0
  seconds_none b k (e ∷ es) h = seconds_none b k es h.1

  pub second_none : (b : Bool) (k : ℕ) (es added : List Event) → AllWithin es → AllOf added → second_imports b k ts es ≡ [] → second_imports b k us (to es ++ added) ≡ []
  second_none b k [] added h a e = seconds_none b k added a
  second_none b k (event.Import p ∷ es) added h a e =
      let x = b && is_fmt_path ts p in
      let same : is_fmt_path us p ≡ is_fmt_path ts p = ap is_fmt_value (w p h.0) in
      none_there (b && is_fmt_path us p) (bytes_at k us p) (second_imports (b || is_fmt_path us p) k us (to es ++ added))
      (ap (λ v. b && v) same ∙ test_false x (bytes_at k ts p) (second_imports (b || is_fmt_path ts p) k ts es) e)
      (subst (λ v. second_imports (b || v) k us (to es ++ added) ≡ []) (sym same)
      (second_none (b || is_fmt_path ts p) k es added h.1 a (rest_none x (bytes_at k ts p) (second_imports (b || is_fmt_path ts p) k ts es) e)))
  second_none b k (x ∷ es) added h a e = second_none b k es added h.1 a e

  pub unused_none : (b : Bool) (k : ℕ) (es : List Event) → AllOf es → imports_unless b k us es ≡ []
  unused_none b k [] h = refl
  unused_none b k (event.Import p ∷ es) h = absurd h.0
  unused_none b k (e ∷ es) h = unused_none b k es h.1

  not_false : (b : Bool) → not b ≡ false → b ≡ true
  not_false true e = refl
  not_false false e = cc

  pub used_none : (b c : Bool) → (b ≡ true → c ≡ true) → (k : ℕ) (es added : List Event) → AllOf added → imports_unless b k ts es ≡ [] → imports_unless c k us (to es ++ added) ≡ []
  used_none b c f k [] added a e = unused_none c k added a
  used_none b c f k (event.Import p ∷ es) added a e =
      none_there (not c) (bytes_at k us p) (imports_unless c k us (to es ++ added))
      (ap not (f (not_false b (test_false (not b) (bytes_at k ts p) (imports_unless b k ts es) e))))
      (used_none b c f k es added a (rest_none (not b) (bytes_at k ts p) (imports_unless b k ts es) e))
  used_none b c f k (x ∷ es) added a e = used_none b c f k es added a e

  -- ---- functions without bodies

  pub bodies_none : (hidden : Bool) (k : ℕ) (es : List Event) → AllOf es → bodiless hidden k us es ≡ []
  bodies_none hidden k [] h = refl
  bodies_none hidden k (event.Bodiless i j ∷ es) h = absurd h.0
  bodies_none hidden k (e ∷ es) h = bodies_none hidden k es h.1

  pub bodiless_none : (b c : Bool) → ((i j : ℕ) → j ≤ n → is_read_byte b ts i j ≡ true → is_read_byte c us i j ≡ true) → (k : ℕ) (es added : List Event) → AllWithin es → AllOf added → bodiless b k ts es ≡ [] → bodiless c k us (to es ++ added) ≡ []
  bodiless_none b c f k [] added h a e = bodies_none c k added a
  bodiless_none b c f k (event.Bodiless i j ∷ es) added h a e =
      let x = not (is_read_byte b ts i j) in
      none_there (not (is_read_byte c us i j)) (bytes_at k us (suc i)) (bodiless c k us (to es ++ added))
      (ap not (f i j h.0 (not_false (is_read_byte b ts i j) (test_false x (bytes_at k ts (suc i)) (bodiless b k ts es) e))))
      (bodiless_none b c f k es added h.1 a (rest_none x (bytes_at k ts (suc i)) (bodiless b k ts es) e))
  bodiless_none b c f k (x ∷ es) added h a e = bodiless_none b c f k es added h.1 a e

  -- ---- branches, defaults and statements

  pub branches_none : (k : ℕ) (es : List Event) → AllOf es → misplaced k us es ≡ []
  branches_none k [] h = refl
  branches_none k (event.Misplaced i j ∷ es) h = absurd h.0
  branches_none k (e ∷ es) h = branches_none k es h.1

  pub misplaced_none : (k : ℕ) (es added : List Event) → AllOf added → misplaced k ts es ≡ [] → misplaced k us (to es ++ added) ≡ []
  misplaced_none k [] added a e = branches_none k added a
  misplaced_none k (event.Misplaced i j ∷ es) added a e = cc
  misplaced_none k (x ∷ es) added a e = misplaced_none k es added a e

  pub default_none : (k : ℕ) (es : List Event) → AllOf es → second_defaults k us es ≡ []
  default_none k [] h = refl
  default_none k (event.SecondDefault i ∷ es) h = absurd h.0
  default_none k (e ∷ es) h = default_none k es h.1

  pub defaults_none : (k : ℕ) (es added : List Event) → AllOf added → second_defaults k ts es ≡ [] → second_defaults k us (to es ++ added) ≡ []
  defaults_none k [] added a e = default_none k added a
  defaults_none k (event.SecondDefault i ∷ es) added a e = cc
  defaults_none k (x ∷ es) added a e = defaults_none k es added a e

  pub no_statements : (k : ℕ) (es : List Event) → AllOf es → statements k us es ≡ []
  no_statements k [] h = refl
  no_statements k (event.Statement i j ∷ es) h = absurd h.0
  no_statements k (e ∷ es) h = no_statements k es h.1

  pub as_many : (k : ℕ) (es added : List Event) → AllOf added → length (statements k us (to es ++ added)) ≡ length (statements k ts es)
  as_many k [] added a = ap length (no_statements k added a)
  as_many k (event.Statement i j ∷ es) added a = ap suc (as_many k es added a)
  as_many k (x ∷ es) added a = as_many k es added a

  -- ---- members

  member_same : (m : Member) (g : ℕ) (v : List ℕ) (es : List Event) → AllWithin es → has_member m g v us (to es) ≡ has_member m g v ts es
  member_same m g v [] h = refl
  member_same m g v (event.Member o x i ∷ es) h =
      same_or (same_member m o && nat_eq g x && same_text v (word us i)) (same_member m o && nat_eq g x && same_text v (word ts i)) (has_member m g v us (to es)) (has_member m g v ts es)
      (ap (λ z. same_member m o && nat_eq g x && same_text v z) (w i h.0.1)) (member_same m g v es h.1)
  member_same m g v (e ∷ es) h = member_same m g v es h.1

  member_apart : (m : Member) (g : ℕ) (v : List ℕ) (es : List Event) → AllWithin es → n ≤ g → has_member m g v us (to es) ≡ false
  member_apart m g v [] h l = refl
  member_apart m g v (event.Member o x i ∷ es) h l =
      let below = h.0.0 in
      let other : nat_eq g x ≡ false = grind (arith, nat_tests) in
      same_or (same_member m o && nat_eq g x && same_text v (word us i)) false (has_member m g v us (to es)) false
      (mid_none (same_member m o) (nat_eq g x) (same_text v (word us i)) other) (member_apart m g v es h.1 l)
  member_apart m g v (e ∷ es) h l = member_apart m g v es h.1 l

  member_append : (m : Member) (g : ℕ) (v : List ℕ) (es fs : List Event) → has_member m g v us (es ++ fs) ≡ (has_member m g v us es || has_member m g v us fs)
  member_append m g v [] fs = refl
  member_append m g v (event.Member o x i ∷ es) fs =
      ap (λ z. (same_member m o && nat_eq g x && same_text v (word us i)) || z) (member_append m g v es fs)
      ∙ grouped (same_member m o && nat_eq g x && same_text v (word us i)) (has_member m g v us es) (has_member m g v us fs)
    where
      grouped : (a b c : Bool) → (a || (b || c)) ≡ ((a || b) || c)
      grouped true b c = refl
      grouped false b c = refl
  member_append m g v (e ∷ es) fs = member_append m g v es fs

  pub duplicate_same : (m : Member) (g : ℕ) (v : List ℕ) (before : List Event) → AllWithin before → is_duplicate m g v us (to before) ≡ is_duplicate m g v ts before
  duplicate_same member.Field g v before h = ap (λ z. is_blank v || z) (member_same member.Field g v before h)
  duplicate_same member.Key g v before h = member_same member.Key g v before h
  duplicate_same member.Parameter g v before h = ap (λ z. not (is_blank v) && z) (member_same member.Parameter g v before h)

  behind_same : (m : Member) (g : ℕ) (v : List ℕ) (all before : List Event) → AllWithin all → n ≤ g → has_member m g v us (to all ++ before) ≡ has_member m g v us before
  behind_same m g v all before h l = member_append m g v (to all) before ∙ ap (λ z. z || has_member m g v us before) (member_apart m g v all h l)

  duplicate_behind : (m : Member) (g : ℕ) (v : List ℕ) (all before : List Event) → AllWithin all → n ≤ g → is_duplicate m g v us (to all ++ before) ≡ is_duplicate m g v us before
  duplicate_behind member.Field g v all before h l = ap (λ z. is_blank v || z) (behind_same member.Field g v all before h l)
  duplicate_behind member.Key g v all before h l = behind_same member.Key g v all before h l
  duplicate_behind member.Parameter g v all before h l = ap (λ z. not (is_blank v) && z) (behind_same member.Parameter g v all before h l)

  -- those that are added
  pub added_members : (k : ℕ) (all before es : List Event) → AllWithin all → AllOf es → second_members before k us es ≡ [] → second_members (to all ++ before) k us es ≡ []
  added_members k all before [] h a e = refl
  added_members k all before (event.Member m g i ∷ es) h a e =
      let x = is_duplicate m g (word us i) us before in
      none_there (is_duplicate m g (word us i) us (to all ++ before)) (bytes_at k us i) (second_members ((to all ++ before) ++ event.Member m g i ∷ []) k us es)
      (duplicate_behind m g (word us i) all before h a.0 ∙ test_false x (bytes_at k us i) (second_members (before ++ event.Member m g i ∷ []) k us es) e)
      (subst (λ zs. second_members zs k us es ≡ []) (sym (append_assoc (to all) before (event.Member m g i ∷ [])))
      (added_members k all (before ++ event.Member m g i ∷ []) es h a.1 (rest_none x (bytes_at k us i) (second_members (before ++ event.Member m g i ∷ []) k us es) e)))
  added_members k all before (x ∷ es) h a e =
      subst (λ zs. second_members zs k us es ≡ []) (sym (append_assoc (to all) before (x ∷ []))) (added_members k all (before ++ x ∷ []) es h a.1 e)

  pub to_append : (es fs : List Event) → to (es ++ fs) ≡ to es ++ to fs
  to_append [] fs = refl
  to_append (e ∷ es) fs = ap (λ l. reaching end e ∷ l) (to_append es fs)

  pub within_more : (es : List Event) (e : Event) → AllWithin es → EventWithin n e → AllWithin (es ++ e ∷ [])
  within_more [] e h l = (l, tt)
  within_more (x ∷ es) e h l = (h.0, within_more es e h.1 l)

  pub members_none : (k : ℕ) (before es added : List Event) → AllWithin before → AllWithin es → AllOf added → second_members [] k us added ≡ [] → second_members before k ts es ≡ []
      → second_members (to before) k us (to es ++ added) ≡ []
  members_none k before [] added b h a z e = subst (λ zs. second_members zs k us added ≡ []) (append-nil (to before)) (added_members k before [] added b a z)
  members_none k before (event.Member m g i ∷ es) added b h a z e =
      let x = is_duplicate m g (word ts i) ts before in
      none_there (is_duplicate m g (word us i) us (to before)) (bytes_at k us i) (second_members (to before ++ event.Member m g i ∷ []) k us (to es ++ added))
      (ap (λ v. is_duplicate m g v us (to before)) (w i h.0.1) ∙ duplicate_same m g (word ts i) before b ∙ test_false x (bytes_at k ts i) (second_members (before ++ event.Member m g i ∷ []) k ts es) e)
      (subst (λ zs. second_members zs k us (to es ++ added) ≡ []) (to_append before (event.Member m g i ∷ []))
      (members_none k (before ++ event.Member m g i ∷ []) es added (within_more before (event.Member m g i) b h.0) h.1 a z (rest_none x (bytes_at k ts i) (second_members (before ++ event.Member m g i ∷ []) k ts es) e)))
  members_none k before (x ∷ es) added b h a z e =
      subst (λ zs. second_members zs k us (to es ++ added) ≡ []) (to_append before (x ∷ [])) (members_none k (before ++ x ∷ []) es added (within_more before x b h.0) h.1 a z e)

  -- ---- lists of constants that are repeated

  uses_same : (s : ℕ) (v : List ℕ) (es : List Event) → AllWithin es → uses_name s v (word us) (to es) ≡ uses_name s v (word ts) es
  uses_same s v [] h = refl
  uses_same s v (event.Use u ∷ es) h =
      same_or (is_list s (list_around u) && same_text v (word us u.name)) (is_list s (list_around u) && same_text v (word ts u.name)) (uses_name s v (word us) (to es)) (uses_name s v (word ts) es)
      (ap (λ z. is_list s (list_around u) && same_text v z) (w u.name h.0.0)) (uses_same s v es h.1)
  uses_same s v (e ∷ es) h = uses_same s v es h.1

  hides_same : (s : ℕ) (all es : List Event) → AllWithin all → AllWithin es → hides_one s (word us) (to all) (to es) ≡ hides_one s (word ts) all es
  hides_same s all [] a h = refl
  hides_same s all (event.Declaration d ∷ es) a h =
      same_or (is_list s (list_of d) && not (is_blank (word us d.name)) && uses_name s (word us d.name) (word us) (to all)) (is_list s (list_of d) && not (is_blank (word ts d.name)) && uses_name s (word ts d.name) (word ts) all)
      (hides_one s (word us) (to all) (to es)) (hides_one s (word ts) all es)
      (ap (λ z. is_list s (list_of d) && not (is_blank z) && uses_name s z (word us) (to all)) (w d.name h.0.0)
      ∙ ap (λ z. is_list s (list_of d) && not (is_blank (word ts d.name)) && z) (uses_same s (word ts d.name) all a))
      (hides_same s all es a h.1)
  hides_same s all (e ∷ es) a h = hides_same s all es a h.1

  pub hidden_same : (o : Option ℕ) (before : List Event) → AllWithin before → is_hidden o (word us) (to before) ≡ is_hidden o (word ts) before
  hidden_same None before h = refl
  hidden_same (Some s) before h = hides_same s before before h h

  -- a function repeats none
  pub no_lists : (place : ℕ → Place) (before es : List Event) → AllOf es → hidden_lists_by (word us) place before es ≡ []
  no_lists place before [] a = refl
  no_lists place before (event.Declaration d ∷ es) a =
      none_there (is_repetition d && is_hidden (list_of d) (word us) before) (place d.name) (hidden_lists_by (word us) place (before ++ event.Declaration d ∷ []) es)
      (and_none (is_repetition d) (is_hidden (list_of d) (word us) before) (ap (λ o. is_hidden o (word us) before) a.0.0)) (no_lists place (before ++ event.Declaration d ∷ []) es a.1)
  no_lists place before (e ∷ es) a = no_lists place (before ++ e ∷ []) es a.1

  pub lists_none : (p q : ℕ → Place) (before es added : List Event) → AllWithin before → AllWithin es → AllOf added → hidden_lists_by (word ts) p before es ≡ [] → hidden_lists_by (word us) q (to before) (to es ++ added) ≡ []
  lists_none p q before [] added b h a e = no_lists q (to before) added a
  lists_none p q before (event.Declaration d ∷ es) added b h a e =
      let x = is_repetition d && is_hidden (list_of d) (word ts) before in
      none_there (is_repetition d && is_hidden (list_of d) (word us) (to before)) (q d.name) (hidden_lists_by (word us) q (to before ++ reaching end (event.Declaration d) ∷ []) (to es ++ added))
      (ap (λ z. is_repetition d && z) (hidden_same (list_of d) before b) ∙ test_false x (p d.name) (hidden_lists_by (word ts) p (before ++ event.Declaration d ∷ []) es) e)
      (subst (λ zs. hidden_lists_by (word us) q zs (to es ++ added) ≡ []) (to_append before (event.Declaration d ∷ []))
      (lists_none p q (before ++ event.Declaration d ∷ []) es added (within_more before (event.Declaration d) b h.0) h.1 a (rest_none x (p d.name) (hidden_lists_by (word ts) p (before ++ event.Declaration d ∷ []) es) e)))
  lists_none p q before (x ∷ es) added b h a e =
      subst (λ zs. hidden_lists_by (word us) q zs (to es ++ added) ≡ []) (to_append before (x ∷ [])) (lists_none p q (before ++ x ∷ []) es added (within_more before x b h.0) h.1 a e)
