-- Whether the import of a file is used: function by function.
use Rattle.std.proofs.Common.{◌≡◌, ◌∙◌, ℕ, suc, ◌+◌, Bool, true, false, List, [], ◌∷◌, ◌++◌, Option, Some, refl, sym, ap, arith}
use Rattle.std.specs.Prelude.{if◌then◌else◌, ◌&&◌, ◌||◌, nat_eq, slice_get}
use Rattle.std.proofs.lemmas.Bool.Decides.{nat_tests}
use Rattle.go_tokens.specs.Tokens.{TokenList}
use Rattle.go_tree.specs.declared.context.Role.{Role}
use Rattle.go_tree.specs.declared.event.Event.{Event}
use Rattle.go_tree.specs.declared.event.Event.TheVariants as event
use Rattle.go_tree.specs.declared.object.Object.{Object}
use Rattle.go_tree.specs.Failures.{of_files}
use Rattle.go_tree.specs.Lookups.{Asked, asked, asked_in, asked_from, object_asked, is_import, uses_import}
use Rattle.go_tree.specs.Meanings.{Meaning, meanings}
use Rattle.go_tree.specs.Units as names
use Rattle.go_tree.specs.Units.{Place, word, is_blank}
use Rattle.go_scopes_events.specs.Moved.{moved_role}
use Rattle.go_heads.specs.Bodies.{function_events}
use Rattle.go_heads.specs.Functions.{Function, AreRead, Alone, function_alone, all_functions}
use Rattle.go_heads.specs.Heads.{File}
use Rattle.go_heads.specs.Locals.{AreNamed}
use Rattle.go_heads.specs.Names.{own_text}
use Rattle.go_heads.specs.Objects.{units_of}
use Rattle.go_heads.specs.Tokens.{function_files}
use Rattle.go_scopes_bodies.specs.Faults.{own_ask, asked_among, own_asked, outer_in, UsesImportByFunctions}
use Rattle.go_scopes_bodies.specs.Meant.{Outer, shifted}
use Rattle.go_scopes_bodies.specs.Outside.{outside_units}
use Rattle.go_scopes_bodies.proofs.Each.{Iff, by_number, by_list}
use Rattle.go_scopes_bodies.proofs.Lists.{none_left, none_right, none_both, no_place, a_place, or_left, or_right, or_both, or_assoc}
use Rattle.go_scopes_bodies.proofs.Lookups.{tested, tested_along, tested_own, same_import}
use Rattle.go_scopes_bodies.proofs.Rules.{EventRule, GoesAlong, IsOwnRule, told_in, rule_by_functions}

-- ---- the places of names that mean an import

abbrev names_import : Role → List ℕ → Bool → List ℕ → Option Object → Bool
names_import r v c w o = is_import o

steady : (s k : ℕ) (r : Role) (v : List ℕ) (c : Bool) (w : List ℕ) (o : Object) → names_import r v c w (Some (shifted s k o)) ≡ names_import r v c w (Some o)
steady s k r v c w o = same_import s k o

still : (a : ℕ) (r : Role) (v : List ℕ) (c : Bool) (w : List ℕ) (o : Option Object) → names_import (moved_role a r) v c w o ≡ names_import r v c w o
still a r v c w o = refl

abbrev places : List Asked → List Place
places asks = tested (λ a. a.place) names_import steady still asks

used_append : (n : ℕ) (xs ys : List Asked) → uses_import n (xs ++ ys) ≡ (uses_import n xs || uses_import n ys)
used_append n [] ys = refl
used_append n (a ∷ xs) ys = ap (λ b. (nat_eq a.file n && is_import (object_asked a)) || b) (used_append n xs ys) ∙ or_assoc (nat_eq a.file n && is_import (object_asked a)) (uses_import n xs) (uses_import n ys)

-- of the file n alone
module _ (ms : List Meaning) (n : ℕ) where
  abbrev file_rule : EventRule
  file_rule m l es = if nat_eq m n then places (asked_in ms m l es) else []

  file_along : GoesAlong file_rule
  file_along = record {
    none = λ m l. either (nat_eq m n) [] refl;
    both = λ m l es fs. ap (λ ps. if nat_eq m n then ps else []) ((tested_along (λ a. a.place) names_import steady still ms).both m l es fs) ∙ split (nat_eq m n) (places (asked_in ms m l es)) (places (asked_in ms m l fs));
  }
    where
      either : (b : Bool) (ps : List Place) → ps ≡ [] → (if b then ps else []) ≡ []
      either true ps e = e
      either false ps e = refl

      split : (b : Bool) (ps qs : List Place) → (if b then ps ++ qs else []) ≡ (if b then ps else []) ++ (if b then qs else [])
      split true ps qs = refl
      split false ps qs = refl

  -- in the file itself
  here_to : (m : ℕ) (l : TokenList) (es : List Event) → nat_eq m n ≡ true → uses_import n (asked_in ms m l es) ≡ false → places (asked_in ms m l es) ≡ []
  here_to m l [] e h = refl
  here_to m l (event.Use u ∷ es) e h = by (is_blank (word l u.name)) (here_to m l es e) h
    where
      by : (b : Bool) → (uses_import n (asked_in ms m l es) ≡ false → places (asked_in ms m l es) ≡ []) → uses_import n (if b then asked_in ms m l es else asked ms m l u ∷ asked_in ms m l es) ≡ false
          → places (if b then asked_in ms m l es else asked ms m l u ∷ asked_in ms m l es) ≡ []
      by true go h = go h
      by false go h =
          let x : ((nat_eq m n && is_import (object_asked (asked ms m l u))) || uses_import n (asked_in ms m l es)) ≡ false = h in
          a_place (is_import (object_asked (asked ms m l u))) (asked ms m l u).place (places (asked_in ms m l es))
          (sym (ap (λ b. b && is_import (object_asked (asked ms m l u))) e) ∙ or_left (nat_eq m n && is_import (object_asked (asked ms m l u))) (uses_import n (asked_in ms m l es)) x)
          (go (or_right (nat_eq m n && is_import (object_asked (asked ms m l u))) (uses_import n (asked_in ms m l es)) x))
  here_to m l (event.Declaration d ∷ es) e h = here_to m l es e h
  here_to m l (event.Import i ∷ es) e h = here_to m l es e h
  here_to m l (event.Member k g i ∷ es) e h = here_to m l es e h
  here_to m l (event.Bodiless i j ∷ es) e h = here_to m l es e h
  here_to m l (event.Statement i j ∷ es) e h = here_to m l es e h
  here_to m l (event.Misplaced i j ∷ es) e h = here_to m l es e h
  here_to m l (event.SecondDefault i ∷ es) e h = here_to m l es e h

  here_from : (m : ℕ) (l : TokenList) (es : List Event) → nat_eq m n ≡ true → places (asked_in ms m l es) ≡ [] → uses_import n (asked_in ms m l es) ≡ false
  here_from m l [] e h = refl
  here_from m l (event.Use u ∷ es) e h = by (is_blank (word l u.name)) (here_from m l es e) h
    where
      by : (b : Bool) → (places (asked_in ms m l es) ≡ [] → uses_import n (asked_in ms m l es) ≡ false) → places (if b then asked_in ms m l es else asked ms m l u ∷ asked_in ms m l es) ≡ []
          → uses_import n (if b then asked_in ms m l es else asked ms m l u ∷ asked_in ms m l es) ≡ false
      by true go h = go h
      by false go h =
          let x = no_place (is_import (object_asked (asked ms m l u))) (asked ms m l u).place (places (asked_in ms m l es)) h in
          or_both (nat_eq m n && is_import (object_asked (asked ms m l u))) (uses_import n (asked_in ms m l es)) (ap (λ b. b && is_import (object_asked (asked ms m l u))) e ∙ x.0) (go x.1)
  here_from m l (event.Declaration d ∷ es) e h = here_from m l es e h
  here_from m l (event.Import i ∷ es) e h = here_from m l es e h
  here_from m l (event.Member k g i ∷ es) e h = here_from m l es e h
  here_from m l (event.Bodiless i j ∷ es) e h = here_from m l es e h
  here_from m l (event.Statement i j ∷ es) e h = here_from m l es e h
  here_from m l (event.Misplaced i j ∷ es) e h = here_from m l es e h
  here_from m l (event.SecondDefault i ∷ es) e h = here_from m l es e h

  -- in another file
  elsewhere : (m : ℕ) (l : TokenList) (es : List Event) → nat_eq m n ≡ false → uses_import n (asked_in ms m l es) ≡ false
  elsewhere m l [] e = refl
  elsewhere m l (event.Use u ∷ es) e = by (is_blank (word l u.name)) (elsewhere m l es e)
    where
      by : (b : Bool) → uses_import n (asked_in ms m l es) ≡ false → uses_import n (if b then asked_in ms m l es else asked ms m l u ∷ asked_in ms m l es) ≡ false
      by true h = h
      by false h = ap (λ b. (b && is_import (object_asked (asked ms m l u))) || uses_import n (asked_in ms m l es)) e ∙ h
  elsewhere m l (event.Declaration d ∷ es) e = elsewhere m l es e
  elsewhere m l (event.Import i ∷ es) e = elsewhere m l es e
  elsewhere m l (event.Member k g i ∷ es) e = elsewhere m l es e
  elsewhere m l (event.Bodiless i j ∷ es) e = elsewhere m l es e
  elsewhere m l (event.Statement i j ∷ es) e = elsewhere m l es e
  elsewhere m l (event.Misplaced i j ∷ es) e = elsewhere m l es e
  elsewhere m l (event.SecondDefault i ∷ es) e = elsewhere m l es e

  one_to : (m : ℕ) (l : TokenList) (es : List Event) → uses_import n (asked_in ms m l es) ≡ false → file_rule m l es ≡ []
  one_to m l es h = by (nat_eq m n) refl
    where
      by : (b : Bool) → nat_eq m n ≡ b → (if b then places (asked_in ms m l es) else []) ≡ []
      by true e = here_to m l es e h
      by false e = refl

  one_from : (m : ℕ) (l : TokenList) (es : List Event) → file_rule m l es ≡ [] → uses_import n (asked_in ms m l es) ≡ false
  one_from m l es h = by (nat_eq m n) refl h
    where
      by : (b : Bool) → nat_eq m n ≡ b → (if b then places (asked_in ms m l es) else []) ≡ [] → uses_import n (asked_in ms m l es) ≡ false
      by true e h = here_from m l es e h
      by false e h = elsewhere m l es e

  files_to : (j : ℕ) (us : List names.Unit) → uses_import n (asked_from ms j us) ≡ false → of_files file_rule j us ≡ []
  files_to j [] h = refl
  files_to j (u ∷ us) h =
      let x : (uses_import n (asked_in ms j u.tokens u.events) || uses_import n (asked_from ms (suc j) us)) ≡ false = sym (used_append n (asked_in ms j u.tokens u.events) (asked_from ms (suc j) us)) ∙ h in
      none_both (file_rule j u.tokens u.events) (of_files file_rule (suc j) us) (one_to j u.tokens u.events (or_left (uses_import n (asked_in ms j u.tokens u.events)) (uses_import n (asked_from ms (suc j) us)) x))
      (files_to (suc j) us (or_right (uses_import n (asked_in ms j u.tokens u.events)) (uses_import n (asked_from ms (suc j) us)) x))

  files_from : (j : ℕ) (us : List names.Unit) → of_files file_rule j us ≡ [] → uses_import n (asked_from ms j us) ≡ false
  files_from j [] h = refl
  files_from j (u ∷ us) h =
      used_append n (asked_in ms j u.tokens u.events) (asked_from ms (suc j) us)
      ∙ or_both (uses_import n (asked_in ms j u.tokens u.events)) (uses_import n (asked_from ms (suc j) us))
      (one_from j u.tokens u.events (none_left (file_rule j u.tokens u.events) (of_files file_rule (suc j) us) h)) (files_from (suc j) us (none_right (file_rule j u.tokens u.events) (of_files file_rule (suc j) us) h))

-- ---- a function by itself

own_to : (a : Alone) (outer : Outer) (es : List Event) → places (asked_among a outer es) ≡ [] → uses_import 0 (asked_among a outer es) ≡ false
own_to a outer [] h = refl
own_to a outer (event.Use u ∷ es) h = by (is_blank (own_text a u.name)) (own_to a outer es) h
  where
    by : (b : Bool) → (places (asked_among a outer es) ≡ [] → uses_import 0 (asked_among a outer es) ≡ false) → places (if b then asked_among a outer es else own_ask a outer u ∷ asked_among a outer es) ≡ []
        → uses_import 0 (if b then asked_among a outer es else own_ask a outer u ∷ asked_among a outer es) ≡ false
    by true go h = go h
    by false go h =
        let x = no_place (is_import (object_asked (own_ask a outer u))) (own_ask a outer u).place (places (asked_among a outer es)) h in
        or_both (is_import (object_asked (own_ask a outer u))) (uses_import 0 (asked_among a outer es)) x.0 (go x.1)
own_to a outer (event.Declaration d ∷ es) h = own_to a outer es h
own_to a outer (event.Import i ∷ es) h = own_to a outer es h
own_to a outer (event.Member k g i ∷ es) h = own_to a outer es h
own_to a outer (event.Bodiless i j ∷ es) h = own_to a outer es h
own_to a outer (event.Statement i j ∷ es) h = own_to a outer es h
own_to a outer (event.Misplaced i j ∷ es) h = own_to a outer es h
own_to a outer (event.SecondDefault i ∷ es) h = own_to a outer es h

own_from : (a : Alone) (outer : Outer) (es : List Event) → uses_import 0 (asked_among a outer es) ≡ false → places (asked_among a outer es) ≡ []
own_from a outer [] h = refl
own_from a outer (event.Use u ∷ es) h = by (is_blank (own_text a u.name)) (own_from a outer es) h
  where
    by : (b : Bool) → (uses_import 0 (asked_among a outer es) ≡ false → places (asked_among a outer es) ≡ []) → uses_import 0 (if b then asked_among a outer es else own_ask a outer u ∷ asked_among a outer es) ≡ false
        → places (if b then asked_among a outer es else own_ask a outer u ∷ asked_among a outer es) ≡ []
    by true go h = go h
    by false go h =
        a_place (is_import (object_asked (own_ask a outer u))) (own_ask a outer u).place (places (asked_among a outer es)) (or_left (is_import (object_asked (own_ask a outer u))) (uses_import 0 (asked_among a outer es)) h)
        (go (or_right (is_import (object_asked (own_ask a outer u))) (uses_import 0 (asked_among a outer es)) h))
own_from a outer (event.Declaration d ∷ es) h = own_from a outer es h
own_from a outer (event.Import i ∷ es) h = own_from a outer es h
own_from a outer (event.Member k g i ∷ es) h = own_from a outer es h
own_from a outer (event.Bodiless i j ∷ es) h = own_from a outer es h
own_from a outer (event.Statement i j ∷ es) h = own_from a outer es h
own_from a outer (event.Misplaced i j ∷ es) h = own_from a outer es h
own_from a outer (event.SecondDefault i ∷ es) h = own_from a outer es h

-- ---- a package

itself : (n : ℕ) → nat_eq n n ≡ true
itself n = grind (arith, nat_tests)

-- No name of a function in the file n means its import, by itself.
abbrev NamesNone : List File → ℕ → ℕ → Function → Type 0
NamesNone fs n m f = nat_eq m n ≡ true → uses_import 0 (own_asked (function_alone f) (outer_in fs m)) ≡ false

pub imports_by_functions : (fs : List File) → AreRead fs → AreNamed fs → (n : ℕ) → UsesImportByFunctions fs n
imports_by_functions fs h g n =
    let ms : List Meaning = meanings (units_of fs) in
    let law = rule_by_functions fs (file_rule ms n) (file_along ms n) (NamesNone fs n) own_rule 0 fs (λ k. let z : 0 + k ≡ k = omega arith in ap (slice_get fs) z) h g in
    record {
      apart =
          λ e.
          let x = law.to (files_to ms n 0 (units_of fs) e) in
          (files_from ms n 0 (outside_units fs) x.0, λ k f s i. by_number (NamesNone fs n) 0 fs x.1 k n f s i (itself n));
      together = λ e own. files_from ms n 0 (units_of fs) (law.from (files_to ms n 0 (outside_units fs) e, by_list (NamesNone fs n) 0 fs (λ k m f s i. at k m f s i own)));
    }
  where
    at : (k m : ℕ) (f : Function) → slice_get (all_functions fs) k ≡ Some f → slice_get (function_files 0 fs) k ≡ Some m
        → ((k : ℕ) (f : Function) → slice_get (all_functions fs) k ≡ Some f → slice_get (function_files 0 fs) k ≡ Some n → uses_import 0 (own_asked (function_alone f) (outer_in fs n)) ≡ false) → NamesNone fs n m f
    at k m f s i own e =
        let same : m ≡ n = grind (arith, nat_tests) in
        ap (λ z. uses_import 0 (own_asked (function_alone f) (outer_in fs z))) same ∙ own k f s (i ∙ ap (λ (z : ℕ). Some z) same)

    own_rule : IsOwnRule fs (file_rule (meanings (units_of fs)) n) (file_along (meanings (units_of fs)) n) (NamesNone fs n)
    own_rule m f r s t stands named = by (nat_eq m n)
      where
        own : Iff (places (asked_in (meanings (units_of fs)) m f.tokens (told_in f t)) ≡ []) (places (own_asked (function_alone (record { file = f; tree = t })) (outer_in fs m)) ≡ [])
        own = tested_own (λ a. a.place) names_import steady still fs h m (record { file = f; tree = t }) (record { there = s; stands = stands; named = named })

        by : (b : Bool) → Iff ((if b then places (asked_in (meanings (units_of fs)) m f.tokens (told_in f t)) else []) ≡ []) (b ≡ true → uses_import 0 (own_asked (function_alone (record { file = f; tree = t })) (outer_in fs m)) ≡ false)
        by true = record {
          to = λ x e. own_to (function_alone (record { file = f; tree = t })) (outer_in fs m) (function_events (function_alone (record { file = f; tree = t }))) (own.to x);
          from = λ x. own.from (own_from (function_alone (record { file = f; tree = t })) (outer_in fs m) (function_events (function_alone (record { file = f; tree = t }))) (x refl));
        }
        by false = record { to = λ x e. cc; from = λ x. refl }
