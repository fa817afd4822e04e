-- Where locals are used last, name by name.
use Rattle.std.proofs.Common.{◌≡◌, ◌∙◌, ℕ, ◌+◌, Bool, true, false, List, [], ◌∷◌, ◌++◌, cond, Some, None, refl, sym, ap, arith}
use Rattle.std.specs.Prelude.{◌&&◌, ◌||◌, not, nat_eq, nat_le, nat_lt}
use Rattle.std.specs.HashMap.{HashMap, get}
use Rattle.std.specs.List.{list_any}
use Rattle.std.proofs.lemmas.Bool.{and_parts, eqb-true}
use Rattle.std.proofs.lemmas.Bool.Decides.{nat_tests}
use Rattle.std.proofs.lemmas.List.Folds.{list_any-append}
use Rattle.go_tree.specs.declared.object.Object.TheVariants as object
use Rattle.go_tree.specs.Lookups.{Asked, is_assigned, object_asked}
use Rattle.go_typed.specs.Packages.{PackageView}
use Rattle.escape_check.specs.declared.member.Member.{Member}
use Rattle.escape_check.specs.Lookups.{all_asked, is_used_later, means_later, means_local}
use Rattle.escape_check.specs.Places.{file_of, sources_in}
use Rattle.escape_check.specs.Shown.{IsSound, member_view}
use Rattle.escape_check.specs.Texts.{AreLastUses, LocalKey, end_in, same_key, uses_from}
use Rattle.escape_check.proofs.Alike.{any_alike}

or-false : (a : Bool) → (a || false) ≡ a
or-false true = refl
or-false false = refl

and-false : (a : Bool) → (a && false) ≡ false
and-false true = refl
and-false false = refl

-- one name more
one-more : (file func n token : ℕ) (asks : List Asked) (a : Asked) →
    list_any (uses_from file token func n) (asks ++ a ∷ []) ≡ (list_any (uses_from file token func n) asks || uses_from file token func n a)
one-more file func n token asks a =
    list_any-append (uses_from file token func n) asks (a ∷ [])
    ∙ ap (λ b. list_any (uses_from file token func n) asks || b) (or-false (uses_from file token func n a))

-- that of nothing
pub nothing_used : {V : Type 0} (ends : HashMap LocalKey ℕ V) → ((k : LocalKey) → get same_key ends k ≡ None) → AreLastUses ends []
nothing_used ends h file func n token = ap (λ o. nat_lt token (end_in o)) (h (file, (func, n))) ∙ grind (arith, nat_tests)

-- a name that uses no local
pub no_use : {V : Type 0} (ends : HashMap LocalKey ℕ V) (asks : List Asked) (a : Asked) → ((file func n token : ℕ) → uses_from file token func n a ≡ false) →
    AreLastUses ends asks → AreLastUses ends (asks ++ a ∷ [])
no_use ends asks a h known file func n token =
    known file func n token
    ∙ sym (one-more file func n token asks a ∙ ap (λ b. list_any (uses_from file token func n) asks || b) (h file func n token) ∙ or-false (list_any (uses_from file token func n) asks))

-- an assignment
pub assigned_unused : (a : Asked) → is_assigned a.it.role ≡ true → (file func n token : ℕ) → uses_from file token func n a ≡ false
assigned_unused a h file func n token =
    ap (λ b. nat_eq a.file file && nat_le token a.it.name && means_local func n (object_asked a) && not b) h
    ∙ by (nat_eq a.file file) (nat_le token a.it.name) (means_local func n (object_asked a)) where
      by : (b c d : Bool) → (b && c && d && false) ≡ false
      by false c d = refl
      by true false d = refl
      by true true d = and-false d

-- what is no local
pub other_unused : (a : Asked) → ((func n : ℕ) → means_local func n (object_asked a) ≡ false) → (file func n token : ℕ) → uses_from file token func n a ≡ false
other_unused a h file func n token =
    ap (λ b. nat_eq a.file file && nat_le token a.it.name && b && not (is_assigned a.it.role)) (h func n)
    ∙ by (nat_eq a.file file) (nat_le token a.it.name) (not (is_assigned a.it.role)) where
      by : (b c d : Bool) → (b && c && false && d) ≡ false
      by false c d = refl
      by true c d = ap (λ e. e && d) (and-false c)

-- a local
used-by : (a : Asked) (f k : ℕ) → object_asked a ≡ Some (object.Local f k) → is_assigned a.it.role ≡ false → (file func n token : ℕ) →
    uses_from file token func n a ≡ (same_key (a.file, (f, k)) (file, (func, n)) && nat_lt token (a.it.name + 1))
used-by a f k h g file func n token =
    ap (λ o. nat_eq a.file file && nat_le token a.it.name && means_local func n o && not (is_assigned a.it.role)) h
    ∙ ap (λ b. nat_eq a.file file && nat_le token a.it.name && (nat_eq f func && nat_eq k n) && not b) g
    ∙ by (nat_eq a.file file) (nat_le token a.it.name) (nat_eq f func) (nat_eq k n)
    ∙ ap (λ b. (nat_eq a.file file && (nat_eq f func && nat_eq k n)) && b) low where
      low : nat_le token a.it.name ≡ nat_lt token (a.it.name + 1)
      low = grind (arith, nat_tests)

      by : (b c d e : Bool) → (b && c && (d && e) && true) ≡ ((b && (d && e)) && c)
      by false c d e = refl
      by true false false e = refl
      by true true false e = refl
      by true false true false = refl
      by true false true true = refl
      by true true true false = refl
      by true true true true = refl

one-key : (a b : LocalKey) → same_key a b ≡ true → a ≡ b
one-key a b h =
    let first = and_parts (nat_eq a.0 b.0) (nat_eq a.1.0 b.1.0 && nat_eq a.1.1 b.1.1) h in
    let second = and_parts (nat_eq a.1.0 b.1.0) (nat_eq a.1.1 b.1.1) first.1 in
    ap (λ i. (i, (a.1.0, a.1.1))) (eqb-true a.0 b.0 first.0)
    ∙ ap (λ i. (b.0, (i, a.1.1))) (eqb-true a.1.0 b.1.0 second.0)
    ∙ ap (λ i. (b.0, (b.1.0, i))) (eqb-true a.1.1 b.1.1 second.1)

pub local_used : {V : Type 0} (ends new : HashMap LocalKey ℕ V) (asks : List Asked) (a : Asked) (f k end : ℕ) → object_asked a ≡ Some (object.Local f k) → is_assigned a.it.role ≡ false →
    ((token : ℕ) → nat_lt token end ≡ (nat_lt token (end_in (get same_key ends (a.file, (f, k)))) || nat_lt token (a.it.name + 1))) →
    ((q : LocalKey) → get same_key new q ≡ cond (same_key (a.file, (f, k)) q) (Some end) (get same_key ends q)) → AreLastUses ends asks → AreLastUses new (asks ++ a ∷ [])
local_used ends new asks a f k end h g last put known file func n token =
    let key : LocalKey = (a.file, (f, k)) in
    let q : LocalKey = (file, (func, n)) in
    ap (λ o. nat_lt token (end_in o)) (put q)
    ∙ by (same_key key q) refl
    ∙ ap (λ b. nat_lt token (end_in (get same_key ends q)) || b) (sym (used-by a f k h g file func n token))
    ∙ ap (λ b. b || uses_from file token func n a) (known file func n token)
    ∙ sym (one-more file func n token asks a) where
      by : (b : Bool) → same_key (a.file, (f, k)) (file, (func, n)) ≡ b →
          nat_lt token (end_in (cond (same_key (a.file, (f, k)) (file, (func, n))) (Some end) (get same_key ends (file, (func, n)))))
          ≡ (nat_lt token (end_in (get same_key ends (file, (func, n)))) || (same_key (a.file, (f, k)) (file, (func, n)) && nat_lt token (a.it.name + 1)))
      by true e =
          ap (λ b. nat_lt token (end_in (cond b (Some end) (get same_key ends (file, (func, n)))))) e
          ∙ last token
          ∙ ap (λ j. nat_lt token (end_in (get same_key ends j)) || nat_lt token (a.it.name + 1)) (one-key (a.file, (f, k)) (file, (func, n)) e)
          ∙ sym (ap (λ b. nat_lt token (end_in (get same_key ends (file, (func, n)))) || (b && nat_lt token (a.it.name + 1))) e)
      by false e =
          ap (λ b. nat_lt token (end_in (cond b (Some end) (get same_key ends (file, (func, n)))))) e
          ∙ sym (ap (λ b. nat_lt token (end_in (get same_key ends (file, (func, n)))) || (b && nat_lt token (a.it.name + 1))) e ∙ or-false (nat_lt token (end_in (get same_key ends (file, (func, n))))))

-- ---- behind a member

and-assoc : (a b c d : Bool) → (a && b && c && d) ≡ ((a && b && c) && d)
and-assoc false b c d = refl
and-assoc true false c d = refl
and-assoc true true c d = refl

pub used_told : {V : Type 0} (p : PackageView) (m : Member) (ends : HashMap LocalKey ℕ V) (n : ℕ) → IsSound p m → AreLastUses ends (all_asked (sources_in p)) →
    nat_lt (m.first + m.upto) (end_in (get same_key ends (m.file, (m.window.func, n)))) ≡ is_used_later (sources_in p) (member_view m) n
used_told p m ends n sound known =
    let s = sources_in p in
    known m.file m.window.func n (m.first + m.upto)
    ∙ any_alike (uses_from m.file (m.first + m.upto) m.window.func n) (λ a. means_later s (member_view m) n a && not (is_assigned a.it.role)) (λ a. (
    ap (λ file. uses_from file (m.first + m.upto) m.window.func n a) sound.file
    ∙ and-assoc (nat_eq a.file (file_of s (member_view m))) (nat_le (m.first + m.upto) a.it.name) (means_local m.window.func n (object_asked a)) (not (is_assigned a.it.role))
    )) (all_asked s)
