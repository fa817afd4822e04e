-- What is refused for what names mean at sites, for what is no longer used and for types, from what the program finds.
use Rattle.std.proofs.Common.{◌≡◌, ◌∙◌, ℕ, suc, ◌+◌, ◌<◌, ◌≤◌, Bool, true, false, cond, nat_eq, List, [], ◌∷◌, ◌++◌, filter, map, length, drop, get_or, Option, Some, None, slice_get, Result, Ok, Err, refl, sym, ap, subst, arith}
use Rattle.std.proofs.lemmas.List.{drop_all, drop_more, length-map}
use Rattle.std.proofs.lemmas.List.Folds.{list_any-append}
use Rattle.std.proofs.lemmas.Option.{slice_get-map}
use Rattle.std.specs.Prelude.{◌&&◌, ◌||◌, not, if◌then◌else◌, IfOk}
use Rattle.std.specs.HashSet.{HashSet}
use Rattle.std.specs.HashSet as set
use Rattle.std.proofs.lemmas.Bool.{eqb-true}
use Rattle.go_print.specs.Literals.{boolean_text}
use Rattle.escape_check.specs.declared.site.Truths.{Truths}
use Rattle.escape_check.specs.Collecting.{names_of_type, names_of_types}
use Rattle.escape_check.specs.Sites.{is_value, truth_named, truths_named}
use Rattle.std.specs.Cmp.Lexicographic.{pointwise}
use Rattle.std.specs.List.{list_any}
use Rattle.std.specs.Option.{option_map}
use Rattle.go_scopes.specs.Resolve.{unit_of, units_of}
use Rattle.go_tokens.specs.Spellings.{same_text}
use Rattle.go_scopes_lookup.specs.declared.unit.Unit.{Unit}
use Rattle.go_scopes_lookup.specs.Views.{unit_view, units_view}
use Rattle.go_tree.specs.File.{FileTree}
use Rattle.go_tree.specs.declared.object.Object.{Object}
use Rattle.go_tree.specs.Meanings.{Meaning, meanings}
use Rattle.go_tree.specs.Objects.{object_at}
use Rattle.go_types.specs.Tables.{type_of}
use Rattle.go_typed.specs.Packages.{PackageView}
use Rattle.param_choose.specs.declared.holes.Hole.{Hole as FoundHole}
use Rattle.param_choose.specs.Choosing.{Choice, HoleParameter}
use Rattle.param_choose.specs.Handed.{Handed, HandedHole, handed, handed_hole}
use Rattle.param_choose.specs.Holes.{holes}
use Rattle.param_choose.specs.Locals.{Variable}
use Rattle.param_choose.specs.Members.{Member, local_at, occurs_later}
use Rattle.param_choose.specs.Shown.{hole_view, holes_view}
use Rattle.escape_check.specs.declared.results.Declared.{Declared}
use Rattle.escape_check.specs.declared.type_names.TypeName.{TypeName as Found}
use Rattle.escape_check.specs.Lookups.{imports, is_left_unused, keeps_import, left_unused, locals_at, lost_imports}
use Rattle.escape_check.specs.Names.{declaring_places}
use Rattle.escape_check.specs.Places.{Place, Refused, Sources, each_refused, file_of, first_of, first_refused, local_text, or_refused, place_if, refused_at, refused_from, sources_in, template_refused, window_place}
use Rattle.escape_check.specs.Shown.{member_view, results_in}
use Rattle.escape_check.specs.Types.{TypeName, hidden_at_site, hole_numbers, hole_types, is_hidden, is_spelled, local_types, meant_there, means_type, names_of_all, needed_truths, parameter_types, result_types, truth_at, universal, variable_types, written_names}
use Rattle.escape_check.specs.Written.{handed_types, hidden_by, later_in, type_name_view, written_at}

-- ---- texts

pub one_text : (a b : List ℕ) → pointwise nat_eq a b ≡ same_text a b
one_text [] [] = refl
one_text [] (y ∷ b) = refl
one_text (x ∷ a) [] = refl
one_text (x ∷ a) (y ∷ b) = let rest : pointwise nat_eq a b ≡ same_text a b = one_text a b in grind (arith, rest)

cond-or : (b c : Bool) → cond b true c ≡ (b || c)
cond-or true c = refl
cond-or false c = refl

pub or_next : (a b c d e : Bool) → a ≡ (b || c) → (c || (b || d)) ≡ e → (a || d) ≡ e
or_next a true true d e h k = ap (λ x. x || d) h ∙ k
or_next a true false d e h k = ap (λ x. x || d) h ∙ k
or_next a false true d e h k = ap (λ x. x || d) h ∙ k
or_next a false false d e h k = ap (λ x. x || d) h ∙ k

-- one text more among those of a set
pub text_more : (text : ℕ → List ℕ) (ns : List ℕ) (i n d : ℕ) (v w : List ℕ) (before now : Bool) → i < length ns → n ≡ get_or ns i d → v ≡ text n →
    now ≡ cond (pointwise nat_eq v w) true before →
    (before || list_any (λ x. same_text x w) (map text (drop i ns))) ≡ list_any (λ x. same_text x w) (map text ns) →
    (now || list_any (λ x. same_text x w) (map text (drop (i + 1) ns))) ≡ list_any (λ x. same_text x w) (map text ns)
text_more text ns i n d v w before now l e t a h =
    or_next now (same_text (text n) w) before (list_any (λ x. same_text x w) (map text (drop (i + 1) ns))) _
    (a ∙ cond-or (pointwise nat_eq v w) before ∙ ap (λ b. b || before) (one_text v w ∙ ap (λ x. same_text x w) t))
    (ap (λ ks. before || list_any (λ x. same_text x w) (map text ks)) (sym (drop_more ns i d l ∙ ap (λ k. k ∷ drop (i + 1) ns) (sym e))) ∙ h)

-- ---- truth values

pub truth_there : (hs : List FoundHole) (m : Member ℕ) (n : ℕ) → holes_view hs ≡ holes m → truth_at (option_map hole_view (slice_get hs n)) ≡ truth_at (slice_get (holes m) n)
truth_there hs m n e = ap truth_at (sym (slice_get-map hole_view hs n) ∙ ap (λ gs. slice_get gs n) e)

or-false : (b : Bool) → (b || false) ≡ b
or-false true = refl
or-false false = refl

or-group : (a b c : Bool) → ((a || b) || c) ≡ (a || (b || c))
or-group true b c = refl
or-group false b c = refl

mixed : (a b c d y n : Bool) → (((a || c) && y) || ((b || d) && n)) ≡ (((a && y) || (b && n)) || ((c && y) || (d && n)))
mixed false false c d y n = refl
mixed true b c d true n = refl
mixed true false true d false n = refl
mixed true false false d false n = refl
mixed true true true d false true = refl
mixed true true false d false true = refl
mixed true true true true false false = refl
mixed true true true false false false = refl
mixed true true false true false false = refl
mixed true true false false false false = refl
mixed false true true d true true = refl
mixed false true true d false true = refl
mixed false true false d y true = refl
mixed false true true true true false = refl
mixed false true true true false false = refl
mixed false true true false true false = refl
mixed false true true false false false = refl
mixed false true false true y false = refl
mixed false true false false y false = refl

module _ (test : TypeName → Bool) where
  abbrev yes : Bool
  yes = test (record { name = boolean_text true; type = None })

  abbrev no : Bool
  no = test (record { name = boolean_text false; type = None })

  named-any : (a b : Bool) → list_any test ((if a then universal (boolean_text true) else []) ++ (if b then universal (boolean_text false) else [])) ≡ ((a && yes) || (b && no))
  named-any true true = ap (λ b. yes || b) (or-false no)
  named-any true false = refl
  named-any false true = or-false no
  named-any false false = refl

  value-any : (o : Option Bool) → list_any test (truth_named o) ≡ ((is_value true o && yes) || (is_value false o && no))
  value-any None = refl
  value-any (Some true) = refl
  value-any (Some false) = or-false no

  -- one truth value more
  truths-more : (t u : Truths) (o : Option Bool) → u.yes ≡ (t.yes || is_value true o) → u.no ≡ (t.no || is_value false o) →
      list_any test (truths_named u) ≡ (list_any test (truths_named t) || list_any test (truth_named o))
  truths-more t u o e f =
      named-any u.yes u.no
      ∙ ap (λ b. (b && yes) || (u.no && no)) e
      ∙ ap (λ b. ((t.yes || is_value true o) && yes) || (b && no)) f
      ∙ mixed t.yes t.no (is_value true o) (is_value false o) yes no
      ∙ sym (ap (λ b. b || list_any test (truth_named o)) (named-any t.yes t.no) ∙ ap (λ b. ((t.yes && yes) || (t.no && no)) || b) (value-any o))

  pub truth_more : (hs : List FoundHole) (m : Member ℕ) (ns : List ℕ) (i n d : ℕ) (t u : Truths) (o : Option Bool) (whole : Bool) → i < length ns → n ≡ get_or ns i d → holes_view hs ≡ holes m →
      u.yes ≡ (t.yes || is_value true o) → u.no ≡ (t.no || is_value false o) → truth_named o ≡ truth_at (option_map hole_view (slice_get hs n)) →
      (list_any test (truths_named t) || list_any test (needed_truths (drop i ns) m)) ≡ whole → (list_any test (truths_named u) || list_any test (needed_truths (drop (i + 1) ns) m)) ≡ whole
  truth_more hs m ns i n d t u o whole l e v yes no is h =
      let before = list_any test (truths_named t) in
      let rest = needed_truths (drop (i + 1) ns) m in
      let here = truth_at (slice_get (holes m) n) in
      ap (λ b. b || list_any test rest) (truths-more t u o yes no ∙ ap (λ xs. before || list_any test xs) (is ∙ truth_there hs m n v))
      ∙ or-group before (list_any test here) (list_any test rest)
      ∙ ap (λ b. before || b) (sym (list_any-append test here rest) ∙ ap (λ ks. list_any test (needed_truths ks m)) (sym (drop_more ns i d l ∙ ap (λ k. k ∷ drop (i + 1) ns) (sym e))))
      ∙ h

  pub truths_left : (m : Member ℕ) (ns : List ℕ) (i : ℕ) (b whole : Bool) → length ns ≤ i → (b || list_any test (needed_truths (drop i ns) m)) ≡ whole → b ≡ whole
  truths_left m ns i b whole le h = sym (or-false b) ∙ sym (ap (λ ks. b || list_any test (needed_truths ks m)) (drop_all i ns le)) ∙ h

-- ---- names

pub any_of : (s : Sources) (m : Member ℕ) (ns : List ℕ) (w : List ℕ) → list_any (λ v. same_text v w) (map (local_text s m) ns) ≡ is_spelled s m ns w
any_of s m [] w = refl
any_of s m (n ∷ ns) w = ap (λ b. same_text (local_text s m n) w || b) (any_of s m ns w)

-- a name that a result has
pub hidden_spelled : (s : Sources) (m : Member ℕ) (ns : List ℕ) (x : TypeName) → list_any (λ v. same_text v x.name) (map (local_text s m) ns) ≡ true → true ≡ is_hidden s m ns x
hidden_spelled s m ns x e = sym (ap (λ b. b || not (means_type s (meant_there s m x.name) x.type)) (sym (any_of s m ns x.name) ∙ e))

-- another one
pub hidden_meant : (s : Sources) (m : Member ℕ) (ns : List ℕ) (x : TypeName) (means : Bool) → list_any (λ v. same_text v x.name) (map (local_text s m) ns) ≡ false →
    means ≡ means_type s (meant_there s m x.name) x.type → not means ≡ is_hidden s m ns x
hidden_meant s m ns x means e f = ap not f ∙ sym (ap (λ b. b || not (means_type s (meant_there s m x.name) x.type)) (sym (any_of s m ns x.name) ∙ e))

-- what it means at the start of a member, by what is known of names and of the member
pub meant_by : (s : Sources) (m : Member ℕ) (w : List ℕ) (ms : List Meaning) (file token : ℕ) (o : Option Object) → ms ≡ meanings (units_of s.files) → file ≡ file_of s m → token ≡ m.first + m.from →
    o ≡ object_at ms file token w → o ≡ meant_there s m w
meant_by s m w ms file token o e f g h =
    h
    ∙ ap (λ x. object_at x file token w) e
    ∙ ap (λ x. object_at (meanings (units_of s.files)) x token w) f
    ∙ ap (λ x. object_at (meanings (units_of s.files)) (file_of s m) x w) g

pub name_hidden : (test : TypeName → Bool) (xs : List Found) (i : ℕ) (d : Found) → i < length xs → test (type_name_view (get_or xs i d)) ≡ true →
    list_any test (map type_name_view (drop i xs)) ≡ true
name_hidden test xs i d l h = ap (λ ys. list_any test (map type_name_view ys)) (drop_more xs i d l) ∙ ap (λ b. b || list_any test (map type_name_view (drop (i + 1) xs))) h

pub name_passed : (test : TypeName → Bool) (xs : List Found) (i : ℕ) (d : Found) → i < length xs → test (type_name_view (get_or xs i d)) ≡ false →
    list_any test (map type_name_view (drop i xs)) ≡ list_any test (map type_name_view (drop (i + 1) xs))
name_passed test xs i d l h = ap (λ ys. list_any test (map type_name_view ys)) (drop_more xs i d l) ∙ ap (λ b. b || list_any test (map type_name_view (drop (i + 1) xs))) h

pub no_names_left : (test : TypeName → Bool) (xs : List Found) (i : ℕ) → length xs ≤ i → list_any test (map type_name_view (drop i xs)) ≡ false
no_names_left test xs i l = ap (λ ys. list_any test (map type_name_view ys)) (drop_all i xs l)

-- ---- one member

-- the names that are written at its site, by those in types and by truth values
pub hidden_told : (p : PackageView) (d : Declared) (ks : List ℕ) (m : Member ℕ) (results later types : List ℕ) → results ≡ results_in d m → later ≡ filter (occurs_later m) results → types ≡ local_types m later →
    (list_any (is_hidden (sources_in p) m later) (names_of_types p types) || list_any (is_hidden (sources_in p) m later) (needed_truths ks m)) ≡ list_any (is_hidden (sources_in p) m (later_in d m)) (written_at p d ks m)
hidden_told p d ks m results later types e f g =
    let s = sources_in p in
    let hidden = is_hidden s m later in
    let truths = needed_truths ks m in
    ap (λ ts. list_any hidden (names_of_types p ts) || list_any hidden truths) g
    ∙ sym (list_any-append hidden (names_of_types p (local_types m later)) truths)
    ∙ ap (λ ns. list_any (is_hidden s m ns) (names_of_types p (local_types m ns) ++ truths)) (f ∙ ap (filter (occurs_later m)) e)

-- a type more, whose names aren't hidden
pub type_passed : (p : PackageView) (test : TypeName → Bool) (ts : List ℕ) (i t d : ℕ) → i < length ts → t ≡ get_or ts i d → list_any test (names_of_type p t) ≡ false →
    list_any test (names_of_types p (drop i ts)) ≡ list_any test (names_of_types p (drop (i + 1) ts))
type_passed p test ts i t d l e h =
    ap (λ ks. list_any test (names_of_types p ks)) (drop_more ts i d l ∙ ap (λ k. k ∷ drop (i + 1) ts) (sym e))
    ∙ list_any-append test (names_of_type p t) (names_of_types p (drop (i + 1) ts))
    ∙ ap (λ b. b || list_any test (names_of_types p (drop (i + 1) ts))) h

-- or are
pub type_found : (p : PackageView) (test : TypeName → Bool) (ts : List ℕ) (i t d : ℕ) → i < length ts → t ≡ get_or ts i d → list_any test (names_of_type p t) ≡ true → list_any test (names_of_types p (drop i ts)) ≡ true
type_found p test ts i t d l e h =
    ap (λ ks. list_any test (names_of_types p ks)) (drop_more ts i d l ∙ ap (λ k. k ∷ drop (i + 1) ts) (sym e))
    ∙ list_any-append test (names_of_type p t) (names_of_types p (drop (i + 1) ts))
    ∙ ap (λ b. b || list_any test (names_of_types p (drop (i + 1) ts))) h

-- one type more in a set
module _ {S : Type 0} (P : ℕ → Bool) (old new : HashSet ℕ S) (t : ℕ) where
  passed-more : (q : ℕ) (b : Bool) → nat_eq t q ≡ b → set.contains nat_eq new q ≡ cond (nat_eq t q) true (set.contains nat_eq old q) →
      (set.contains nat_eq old q ≡ true → P q ≡ false) → P t ≡ false → set.contains nat_eq new q ≡ true → P q ≡ false
  passed-more q true e put h none there = subst (λ (k : ℕ). P k ≡ false) (eqb-true t q e) none
  passed-more q false e put h none there = h (sym (put ∙ ap (λ c. cond c true (set.contains nat_eq old q)) e) ∙ there)

  pub passed_more : ((q : ℕ) → set.contains nat_eq new q ≡ cond (nat_eq t q) true (set.contains nat_eq old q)) →
      ((q : ℕ) → set.contains nat_eq old q ≡ true → P q ≡ false) → P t ≡ false → (q : ℕ) → set.contains nat_eq new q ≡ true → P q ≡ false
  passed_more put h none q there = passed-more q (nat_eq t q) refl (put q) (h q) none there

pub place_there : (b : Bool) (w : Place) → b ≡ true → Some w ≡ first_of (place_if b w)
place_there b w e = sym (ap (λ c. first_of (place_if c w)) e)

pub no_place : (b : Bool) (w : Place) → b ≡ false → None ≡ first_of (place_if b w)
no_place b w e = sym (ap (λ c. first_of (place_if c w)) e)

-- ---- all members

from-alike : (code : ℕ) (r q : Member ℕ → List Place) → ((m : Member ℕ) → r m ≡ q m) → (n : ℕ) (ms : List (Member ℕ)) → refused_from code r n ms ≡ refused_from code q n ms
from-alike code r q e n [] = refl
from-alike code r q e n (m ∷ ms) =
    ap (λ ps. refused_at code n (first_of ps) (refused_from code r (suc n) ms)) (e m) ∙ ap (refused_at code n (first_of (q m))) (from-alike code r q e (suc n) ms)

results-as : (t m : Member ℕ) (vs : List (Variable ℕ)) → map (local_at t m) (map (λ v. v.local) vs) ≡ locals_at t m vs
results-as t m [] = refl
results-as t m (v ∷ vs) = ap (λ ns. local_at t m v.local ∷ ns) (results-as t m vs)

results-are : (d : Declared) (vs : List (Variable ℕ)) → map (λ v. v.local) vs ≡ d.locals.now → (m : Member ℕ) → results_in d m ≡ locals_at (member_view d.template.now) m vs
results-are d vs e m = ap (map (local_at (member_view d.template.now) m)) (sym e) ∙ results-as (member_view d.template.now) m vs

hidden-alike : (p : PackageView) (d : Declared) (ks : List ℕ) (h : Choice ℕ) → map (λ v. v.local) h.declared ≡ d.locals.now → hole_numbers h.holes ≡ ks → (m : Member ℕ) →
    hidden_by p d ks m ≡ hidden_at_site (type_of p.types.shapes) (sources_in p) (member_view d.template.now) h m
hidden-alike p d ks h e f m =
    let s = sources_in p in
    let told : List ℕ → List ℕ → List Place = λ later numbers.
    place_if (list_any (is_hidden s m later) (names_of_all (type_of p.types.shapes) s (local_types m later) ++ needed_truths numbers m)) (window_place s m) in
    ap (λ ns. told (filter (occurs_later m) ns) ks) (results-are d h.declared e m)
    ∙ ap (told (filter (occurs_later m) (locals_at (member_view d.template.now) m h.declared))) (sym f)

pub hidden_each : (p : PackageView) (d : Declared) (ks : List ℕ) (h : Choice ℕ) (ms : List (Member ℕ)) → map (λ v. v.local) h.declared ≡ d.locals.now → hole_numbers h.holes ≡ ks →
    each_refused 12 (hidden_by p d ks) ms ≡ each_refused 12 (hidden_at_site (type_of p.types.shapes) (sources_in p) (member_view d.template.now) h) ms
hidden_each p d ks h ms e f =
    from-alike 12 (hidden_by p d ks) (hidden_at_site (type_of p.types.shapes) (sources_in p) (member_view d.template.now) h) (hidden-alike p d ks h e f) 0 ms

pub imports_each : (s : Sources) (t : Member ℕ) (ms ns : List (Member ℕ)) (lost : ℕ → Bool) →
    ((n : ℕ) → lost n ≡ (imports (slice_get (units_of s.files) n) && not (keeps_import s t ms n))) →
    each_refused 13 (λ m. place_if (lost (file_of s m)) (window_place s m)) ns ≡ each_refused 13 (lost_imports s t ms) ns
imports_each s t ms ns lost e =
    from-alike 13 (λ m. place_if (lost (file_of s m)) (window_place s m)) (lost_imports s t ms) (λ m. ap (λ b. place_if b (window_place s m)) (e (file_of s m))) 0 ns

pub unused_each : (s : Sources) (d : Declared) (h : Choice ℕ) (ms : List (Member ℕ)) → map (λ v. v.local) h.declared ≡ d.locals.now →
    each_refused 14 (λ m. declaring_places m (filter (is_left_unused s m) (results_in d m))) ms ≡ each_refused 14 (left_unused s (member_view d.template.now) h) ms
unused_each s d h ms e =
    from-alike 14 (λ m. declaring_places m (filter (is_left_unused s m) (results_in d m))) (left_unused s (member_view d.template.now) h)
    (λ m. ap (λ ns. declaring_places m (filter (is_left_unused s m) ns)) (results-are d h.declared e m)) 0 ms

-- ---- the first refusal

pub if_told : {A E : Type 0} (P Q : A → Type 0) → ((a : A) → P a → Q a) → (r : Result A E) → IfOk r P → IfOk r Q
if_told P Q f (Ok a) h = f a h
if_told P Q f (Err e) h = h

pub few_units : (us : List Unit) (fs : List FileTree) → units_view us ≡ units_of fs → length fs ≤ 256 → length us ≤ 256
few_units us fs e l = subst (λ n. n ≤ 256) (sym (sym (length-map us unit_view) ∙ ap length e ∙ length-map fs unit_of)) l

pub first_found : (a b : Option Refused) (r : Refused) → Some r ≡ a → Some r ≡ or_refused a b
first_found a b r e = ap (λ x. or_refused x b) e

pub later_found : (a b x : Option Refused) → None ≡ a → x ≡ b → x ≡ or_refused a b
later_found a b x e f = f ∙ ap (λ y. or_refused y b) e

-- of five, by one, two and two
pub of_five : (a b c d e x : Option Refused) → x ≡ or_refused a (or_refused (or_refused b c) (or_refused d e)) → x ≡ first_refused (a ∷ b ∷ c ∷ d ∷ e ∷ [])
of_five (Some r) b c d e x h = h
of_five None (Some r) c d e x h = h
of_five None None (Some r) d e x h = h
of_five None None None (Some r) e x h = h
of_five None None None None (Some r) x h = h
of_five None None None None None x h = h

-- ---- types

hole-types-shown : (hs : List (HoleParameter ℕ)) → map (λ (x : HandedHole ℕ). x.type) (map handed_hole hs) ≡ hole_types hs
hole-types-shown [] = refl
hole-types-shown (h ∷ hs) = ap (λ ts. h.type ∷ ts) (hole-types-shown hs)

pub numbers_shown : (hs : List (HoleParameter ℕ)) → map (λ (x : HandedHole ℕ). x.number) (map handed_hole hs) ≡ hole_numbers hs
numbers_shown [] = refl
numbers_shown (h ∷ hs) = ap (λ ns. h.number ∷ ns) (numbers_shown hs)

pub types_shown : (c : Handed ℕ) (h : Choice ℕ) → c ≡ handed h → handed_types c ≡ parameter_types h ++ result_types h
types_shown c h e =
    ap handed_types e ∙ ap (λ ts. (variable_types h.free ++ ts) ++ (variable_types h.assigned ++ variable_types h.declared)) (hole-types-shown h.holes)

-- a test of the names that were found is one of those that are written
pub names_told : (p : PackageView) (c : Handed ℕ) (h : Choice ℕ) (types : List ℕ) (names : List TypeName) → c ≡ handed h → types ≡ handed_types c →
    ((test : TypeName → Bool) → list_any test names ≡ list_any test (names_of_all (type_of p.types.shapes) (sources_in p) types)) → (test : TypeName → Bool) →
    list_any test names ≡ list_any test (written_names (type_of p.types.shapes) (sources_in p) h)
names_told p c h types names e f g test =
    g test ∙ ap (λ ts. list_any test (names_of_all (type_of p.types.shapes) (sources_in p) ts)) (f ∙ types_shown c h e)

abbrev pub refused_with : ℕ → Place → Refused
refused_with code w = record { code = code; member = 0; place = Some w }

pub template_there : (code : ℕ) (b : Bool) (w : Place) → b ≡ true → Some (record { code = code; member = 0; place = Some w }) ≡ template_refused code (place_if b w)
template_there code b w e = sym (ap (λ c. template_refused code (place_if c w)) e)

pub template_free : (code : ℕ) (b : Bool) (w : Place) → b ≡ false → None ≡ template_refused code (place_if b w)
template_free code b w e = sym (ap (λ c. template_refused code (place_if c w)) e)
