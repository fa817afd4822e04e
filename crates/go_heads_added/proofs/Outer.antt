-- The names of the signature of an appended function mean what is declared elsewhere.
use Rattle.std.proofs.Common.{◌≡◌, ◌∙◌, ℕ, suc, ◌<◌, ◌≤◌, Bool, true, false, ◌&&◌, List, [], ◌∷◌, ◌++◌, map, Option, Some, None, refl, sym, ap, subst, arith}
use Rattle.std.specs.Prelude.{if◌then◌else◌, nat_eq, nat_le, nat_lt}
use Rattle.std.specs.Option.{option_map}
use Rattle.std.specs.List.{AllByRecursion}
use Rattle.std.proofs.lemmas.Bool.Decides.{nat_tests}
use Rattle.go_tokens.specs.Spellings.{same_text}
use Rattle.go_tokens.specs.Tokens.{TokenList}
use Rattle.go_tree.specs.declared.event.Event.{Event}
use Rattle.go_tree.specs.declared.event.Event.TheVariants as event
use Rattle.go_tree.specs.Declarations.{Found, new_among, found_in}
use Rattle.go_tree.specs.Extents.{covers, extent_by}
use Rattle.go_tree.specs.Lookups.{asked, asked_in}
use Rattle.go_tree.specs.Meanings.{Meaning, declared_meaning, own_number, Numbers, first_numbers, numbers_behind, numbered, imported_from, covering, is_innermost, innermost_of, meaning_at, meanings}
use Rattle.go_tree.specs.Units.{Unit, word, is_blank}
use Rattle.go_scopes_events.specs.Orders.{AreInOrder, EachDeclared}
use Rattle.go_heads_added.specs.Added.{Gap, IsAdded, LiesIn, NoneSays, IsParameter, longer, behind}
use Rattle.go_heads_added.specs.Appended.{IsParameterOf}
use Rattle.go_heads_added.specs.Faults.{FileIsWithin, SourceIsOuter, MeansOuter}
use Rattle.go_heads_added.proofs.Circles.{IsOld, SourceHas, imports_have, numbered_has}
use Rattle.go_heads_added.proofs.Following as following
use Rattle.go_heads_added.proofs.Names.{g, all, kept, others, first_meanings, new_meanings, other_meanings, meanings_are}
use Rattle.go_heads_added.proofs.Numbers.{moved}
use Rattle.go_heads_added.proofs.Texts.{all_both, new_all}

order_least : (i j : ℕ) (es : List Event) → AreInOrder i j es → i ≤ j
order_least i j [] h = h
order_least i j (event.Declaration d ∷ es) h = let o = order_least (suc d.name) j es h.1 in let l = h.0 in omega (arith, o, l)
order_least i j (event.Use u ∷ es) h = let o = order_least (suc u.name) j es h.1 in let l = h.0 in omega (arith, o, l)
order_least i j (event.Import p ∷ es) h = order_least i j es h
order_least i j (event.Member m x y ∷ es) h = order_least i j es h
order_least i j (event.Bodiless x y ∷ es) h = order_least i j es h
order_least i j (event.Statement x y ∷ es) h = order_least i j es h
order_least i j (event.Misplaced x y ∷ es) h = order_least i j es h
order_least i j (event.SecondDefault w ∷ es) h = order_least i j es h

-- ---- a name at a token

module _ (k n t : ℕ) (w : List ℕ) where
  -- Where it is a meaning of the name, it comes from elsewhere.
  abbrev pub ComesOuter : Meaning → Type 0
  ComesOuter m = (same_text m.name w && covers m.extent k t) ≡ true → SourceIsOuter k n m.source

  covering_outer : (ms : List Meaning) → AllByRecursion ComesOuter ms → AllByRecursion (λ m. SourceIsOuter k n m.source) (covering k t w ms)
  covering_outer [] h = tt
  covering_outer (m ∷ ms) h = by (same_text m.name w && covers m.extent k t) h.0 (covering_outer ms h.1)
    where
      by : (b : Bool) → (b ≡ true → SourceIsOuter k n m.source) → AllByRecursion (λ x. SourceIsOuter k n x.source) (covering k t w ms)
          → AllByRecursion (λ x. SourceIsOuter k n x.source) (if b then m ∷ covering k t w ms else covering k t w ms)
      by true f r = (f refl, r)
      by false f r = r

  innermost_outer : (every ms : List Meaning) → AllByRecursion (λ m. SourceIsOuter k n m.source) ms → MeansOuter k n (innermost_of every ms)
  innermost_outer every [] h = tt
  innermost_outer every (m ∷ ms) h = by (is_innermost m.extent every) (innermost_outer every ms h.1)
    where
      by : (b : Bool) → MeansOuter k n (innermost_of every ms) → MeansOuter k n (if b then Some m else innermost_of every ms)
      by true r = h.0
      by false r = r

  meaning_outer : (ms : List Meaning) → AllByRecursion ComesOuter ms → MeansOuter k n (meaning_at ms k t w)
  meaning_outer ms h = innermost_outer (covering k t w ms) (covering k t w ms) (covering_outer ms h)

  -- old meanings come from old declarations
  moved_outer : (end : ℕ) (gap : Gap) (ms : List Meaning) → AllByRecursion (λ m. SourceHas (IsOld k n end gap) m.source) ms → AllByRecursion ComesOuter (map (moved k end gap) ms)
  moved_outer end gap [] h = tt
  moved_outer end gap (m ∷ ms) h = ((λ e. by m.source h.0), moved_outer end gap ms h.1)
    where
      by : (o : Option Found) → SourceHas (IsOld k n end gap) o → SourceIsOuter k n (option_map (longer k end) o)
      by None q = tt
      by (Some d) q = λ e. (q e).0

  first_false : (a b : Bool) → a ≡ false → (a && b) ≡ true → ⊥
  first_false true b e f = cc
  first_false false b e f = cc

  second_false : (a b : Bool) → b ≡ false → (a && b) ≡ true → ⊥
  second_false true b e f = cc
  second_false false b e f = cc

  middle_false : (a b c : Bool) → b ≡ false → (a && b && c) ≡ false
  middle_false true true c e = cc
  middle_false true false c e = refl
  middle_false false b c e = refl

  -- a parameter's scope begins behind the token
  parameter_outer : (d : Found) → IsParameter k n d → t < d.it.scope.from → (x : Bool) → (x && covers (extent_by d.file d.it.scope d.it.block) k t) ≡ true → SourceIsOuter k n (Some d)
  parameter_outer d p l x e =
      absurd
      (second_false x (covers (extent_by d.file d.it.scope d.it.block) k t)
      (ap (λ b. covers (extent_by d.file d.it.scope b) k t) p.block ∙ middle_false (nat_eq d.file k) (nat_le d.it.scope.from t) (nat_lt t d.it.scope.to) (let z : nat_le d.it.scope.from t ≡ false = grind (arith, nat_tests) in z)) e)

  parameters_outer : (l : Numbers) (ds : List Found) → AllByRecursion (λ d. IsParameter k n d × (t < d.it.scope.from)) ds → AllByRecursion ComesOuter (numbered l ds)
  parameters_outer l [] h = tt
  parameters_outer l (d ∷ ds) h = (parameter_outer d h.0.0 h.0.1 (same_text d.name w), parameters_outer (numbers_behind l d.it.entity d.it.block) ds h.1)

module _ (k n : ℕ) (name : List ℕ) (old new : List Unit) (h : IsAdded k n name old new) (i : LiesIn k n name old new h) (q : NoneSays name old) (w : FileIsWithin k n name old new h) where
  both_parts : (lo : ℕ) (ds : List Found) → AllByRecursion (IsParameter k n) ds → AllByRecursion (λ d. lo ≤ d.it.scope.from) ds → AllByRecursion (λ d. IsParameter k n d × (lo ≤ d.it.scope.from)) ds
  both_parts lo [] x y = tt
  both_parts lo (d ∷ ds) x y = ((x.0, y.0), both_parts lo ds x.1 y.1)

  name_outer : (t : ℕ) (v : List ℕ) → same_text name v ≡ false → AllByRecursion (λ d. suc t ≤ d.it.scope.from) h.longer.parameters → MeansOuter k n (meaning_at (meanings new) k t v)
  name_outer t v other scopes =
      let gap = g k n name old new h i in
      let x = first_meanings k n name old new h i in
      let y = new_meanings k n name old new h i in
      let z = other_meanings k n name old new h i in
      let m = moved k h.longer.end gap in
      let P = ComesOuter k n t v in
      let ps = new_among (all k n name old new h i) h.longer.parameters in
      let params = new_all (λ d. IsParameter k n d × (suc t ≤ d.it.scope.from)) (all k n name old new h i) h.longer.parameters (both_parts (suc t) h.longer.parameters h.longer.are_parameters scopes) in
      let l = behind first_numbers (kept k n name old new h i) in
      let olds = all_both (λ o. SourceHas (IsOld k n h.longer.end gap) o.source) (imported_from 0 old) (numbered first_numbers (kept k n name old new h i)) (imports_have (IsOld k n h.longer.end gap) 0 old)
      (numbered_has (IsOld k n h.longer.end gap) first_numbers (kept k n name old new h i) (following.kept_is_old k n name old new h i q w)) in
      let rests = numbered_has (IsOld k n h.longer.end gap) l (others k n name old new h i) (following.others_is_old k n name old new h i q w) in
      let own : P (declared_meaning h.longer.function (own_number l h.longer.function.it.block)) = λ e. absurd (first_false k n t v (same_text h.longer.function.name v) _ (ap (λ u. same_text u v) h.longer.is_function.name ∙ other) e) in
      meaning_outer k n t v (meanings new)
      (subst (AllByRecursion P) (sym (meanings_are k n name old new h i))
      (all_both P (map m x) (y ++ map m z) (moved_outer k n t v h.longer.end gap x olds)
      (all_both P y (map m z) (own, parameters_outer k n t v (numbers_behind l h.longer.function.it.entity h.longer.function.it.block) ps params) (moved_outer k n t v h.longer.end gap z rests))))

  -- names from the token `lo` on, in front of the token `hi`
  pub names_outer : (ts : TokenList) (lo hi : ℕ) → ((t : ℕ) → lo ≤ t → t < hi → same_text name (word ts t) ≡ false) → AllByRecursion (λ d. hi ≤ d.it.scope.from) h.longer.parameters
      → (at : ℕ) (es : List Event) → lo ≤ at → AreInOrder at hi es → AllByRecursion (λ a. MeansOuter k n a.meaning) (asked_in (meanings new) k ts es)
  names_outer ts lo hi other scopes at [] l o = tt
  names_outer ts lo hi other scopes at (event.Use u ∷ es) l o =
      by (is_blank (word ts u.name)) (names_outer ts lo hi other scopes (suc u.name) es (let c = o.0 in omega (arith, l, c)) o.1)
    where
      below : u.name < hi
      below = order_least (suc u.name) hi es o.1

      nearer : (ds : List Found) → AllByRecursion (λ d. hi ≤ d.it.scope.from) ds → AllByRecursion (λ d. suc u.name ≤ d.it.scope.from) ds
      nearer [] h = tt
      nearer (d ∷ ds) h = ((let a = h.0 in let b = below in omega (arith, a, b)), nearer ds h.1)

      one : MeansOuter k n (meaning_at (meanings new) k u.name (word ts u.name))
      one = name_outer u.name (word ts u.name) (other u.name (let c = o.0 in omega (arith, l, c)) below) (nearer h.longer.parameters scopes)

      by : (b : Bool) → AllByRecursion (λ a. MeansOuter k n a.meaning) (asked_in (meanings new) k ts es)
          → AllByRecursion (λ a. MeansOuter k n a.meaning) (if b then asked_in (meanings new) k ts es else asked (meanings new) k ts u ∷ asked_in (meanings new) k ts es)
      by true r = r
      by false r = (one, r)
  names_outer ts lo hi other scopes at (event.Declaration d ∷ es) l o = names_outer ts lo hi other scopes (suc d.name) es (let c = o.0 in omega (arith, l, c)) o.1
  names_outer ts lo hi other scopes at (event.Import p ∷ es) l o = names_outer ts lo hi other scopes at es l o
  names_outer ts lo hi other scopes at (event.Member m x y ∷ es) l o = names_outer ts lo hi other scopes at es l o
  names_outer ts lo hi other scopes at (event.Bodiless x y ∷ es) l o = names_outer ts lo hi other scopes at es l o
  names_outer ts lo hi other scopes at (event.Statement x y ∷ es) l o = names_outer ts lo hi other scopes at es l o
  names_outer ts lo hi other scopes at (event.Misplaced x y ∷ es) l o = names_outer ts lo hi other scopes at es l o
  names_outer ts lo hi other scopes at (event.SecondDefault v ∷ es) l o = names_outer ts lo hi other scopes at es l o

-- the scopes of parameters begin where the body does
pub scopes_behind : (k body : ℕ) (ts : TokenList) (es : List Event) → EachDeclared (IsParameterOf body) es → AllByRecursion (λ d. body ≤ d.it.scope.from) (found_in k ts es)
scopes_behind k body ts [] h = tt
scopes_behind k body ts (event.Declaration d ∷ es) h = ((let e = h.0.scope in omega (arith, e)), scopes_behind k body ts es h.1)
scopes_behind k body ts (event.Use u ∷ es) h = scopes_behind k body ts es h
scopes_behind k body ts (event.Import p ∷ es) h = scopes_behind k body ts es h
scopes_behind k body ts (event.Member m x y ∷ es) h = scopes_behind k body ts es h
scopes_behind k body ts (event.Bodiless x y ∷ es) h = scopes_behind k body ts es h
scopes_behind k body ts (event.Statement x y ∷ es) h = scopes_behind k body ts es h
scopes_behind k body ts (event.Misplaced x y ∷ es) h = scopes_behind k body ts es h
scopes_behind k body ts (event.SecondDefault w ∷ es) h = scopes_behind k body ts es h
