-- Which files keep a use of what they import.
use Rattle.std.proofs.Common.{◌≡◌, ◌∙◌, ℕ, ◌+◌, ◌<◌, ◌≤◌, Bool, true, false, List, [], ◌∷◌, map, refl, sym, ap, arith}
use Rattle.std.specs.Prelude.{◌&&◌, ◌||◌, not, nat_eq, nat_le, nat_lt}
use Rattle.std.specs.List.{AllByRecursion, list_any}
use Rattle.std.proofs.lemmas.Bool.{eqb-true, eqb-false}
use Rattle.std.proofs.lemmas.Bool.Decides.{nat_tests}
use Rattle.go_scopes_lookup.specs.Tables.{same_spot}
use Rattle.go_tree.specs.Lookups.{Asked}
use Rattle.go_typed.specs.Packages.{PackageView}
use Rattle.escape_check.specs.declared.member.Member.{Member}
use Rattle.escape_check.specs.Lookups.{all_asked, is_import_in, keeps_import, stands_in, stays}
use Rattle.escape_check.specs.Places.{sources_in}
use Rattle.escape_check.specs.Shown.{IsSound, covers_token, member_view}
use Rattle.escape_check.proofs.Alike.{any_alike}
use Rattle.escape_check.proofs.Steps.{range_all, range_more}

covers-stands : (p : PackageView) (m : Member) (a : Asked) → IsSound p m → covers_token a.file a.it.name m ≡ stands_in (sources_in p) (member_view m) a
covers-stands p m a s = ap (λ file. nat_eq a.file file && nat_le (m.first + m.from) a.it.name && nat_lt a.it.name (m.first + m.upto)) s.file

cover-stand : (p : PackageView) (ms : List Member) (a : Asked) → AllByRecursion (IsSound p) ms →
    list_any (covers_token a.file a.it.name) ms ≡ list_any (λ m. stands_in (sources_in p) m a) (map member_view ms)
cover-stand p [] a s = refl
cover-stand p (m ∷ ms) a s =
    ap (λ b. b || list_any (covers_token a.file a.it.name) ms) (covers-stands p m a s.0) ∙ ap (λ b. stands_in (sources_in p) (member_view m) a || b) (cover-stand p ms a s.1)

-- by a set of the members' tokens
pub kept_told : (p : PackageView) (t : Member) (ms : List Member) (replaced : ℕ → ℕ → Bool) (n : ℕ) → IsSound p t → AllByRecursion (IsSound p) ms →
    ((file token : ℕ) → replaced file token ≡ list_any (covers_token file token) ms) →
    list_any (λ a. is_import_in n a && (covers_token a.file a.it.name t || not (replaced a.file a.it.name))) (all_asked (sources_in p)) ≡ keeps_import (sources_in p) (member_view t) (map member_view ms) n
kept_told p t ms replaced n st sm told =
    any_alike (λ a. is_import_in n a && (covers_token a.file a.it.name t || not (replaced a.file a.it.name)))
    (λ a. is_import_in n a && stays (sources_in p) (member_view t) (map member_view ms) a) (λ a. (
    ap (λ b. is_import_in n a && (b || not (replaced a.file a.it.name))) (covers-stands p t a st)
    ∙ ap (λ b. is_import_in n a && (stands_in (sources_in p) (member_view t) a || not b)) (told a.file a.it.name ∙ cover-stand p ms a sm)
    )) (all_asked (sources_in p))

-- ---- file by file

and-false : (a : Bool) → (a && false) ≡ false
and-false true = refl
and-false false = refl

one-less : (n i : ℕ) → nat_eq i n ≡ false → nat_lt n i ≡ nat_lt n (i + 1)
one-less n i e = grind (arith, nat_tests, eqb-false i n e)

-- a file that is added
pub lost_more : (fails old new : ℕ → Bool) (i : ℕ) → ((n : ℕ) → old n ≡ (nat_lt n i && fails n)) → fails i ≡ true → ((n : ℕ) → new n ≡ (nat_eq i n || old n)) →
    (n : ℕ) → new n ≡ (nat_lt n (i + 1) && fails n)
lost_more fails old new i known h put n = put n ∙ ap (λ b. nat_eq i n || b) (known n) ∙ by (nat_eq i n) refl where
  by : (b : Bool) → nat_eq i n ≡ b → (nat_eq i n || (nat_lt n i && fails n)) ≡ (nat_lt n (i + 1) && fails n)
  by true e =
      let same : i ≡ n = eqb-true i n e in
      let low : nat_lt n (i + 1) ≡ true = grind (arith, nat_tests, same) in
      ap (λ b. b || (nat_lt n i && fails n)) e ∙ sym (ap (λ b. b && fails n) low ∙ ap fails (sym same) ∙ h)
  by false e = ap (λ b. b || (nat_lt n i && fails n)) e ∙ ap (λ b. b && fails n) (one-less n i e)

-- a file that is not
pub lost_same : (fails old : ℕ → Bool) (i : ℕ) → ((n : ℕ) → old n ≡ (nat_lt n i && fails n)) → fails i ≡ false → (n : ℕ) → old n ≡ (nat_lt n (i + 1) && fails n)
lost_same fails old i known h n = known n ∙ by (nat_eq i n) refl where
  by : (b : Bool) → nat_eq i n ≡ b → (nat_lt n i && fails n) ≡ (nat_lt n (i + 1) && fails n)
  by true e =
      let none : fails n ≡ false = ap fails (sym (eqb-true i n e)) ∙ h in
      ap (λ b. nat_lt n i && b) none ∙ and-false (nat_lt n i) ∙ sym (ap (λ b. nat_lt n (i + 1) && b) none ∙ and-false (nat_lt n (i + 1)))
  by false e = ap (λ b. b && fails n) (one-less n i e)

-- all files
pub lost_all : (fails old : ℕ → Bool) (i : ℕ) → ((n : ℕ) → old n ≡ (nat_lt n i && fails n)) → ((n : ℕ) → i ≤ n → fails n ≡ false) → (n : ℕ) → old n ≡ fails n
lost_all fails old i known h n = known n ∙ by (nat_lt n i) refl where
  by : (b : Bool) → nat_lt n i ≡ b → (nat_lt n i && fails n) ≡ fails n
  by true e = ap (λ b. b && fails n) e
  by false e = ap (λ b. b && fails n) e ∙ sym (h n (grind (arith, nat_tests, e)))

-- ---- token by token

spot-by : (b : Bool) (old : Bool) (from i t : ℕ) → from ≤ i → ((b && nat_eq i t) || (old || ((b && nat_le from t) && nat_lt t i))) ≡ (old || ((b && nat_le from t) && nat_lt t (i + 1)))
spot-by true old from i t l = range_more old from i t l
spot-by false old from i t l = refl

-- one token more
pub spot_more : (old : Bool) (f first from i file token : ℕ) → from ≤ i →
    (same_spot (f, first + i) (file, token) || (old || ((nat_eq file f && nat_le (first + from) token) && nat_lt token (first + i))))
    ≡ (old || ((nat_eq file f && nat_le (first + from) token) && nat_lt token (first + (i + 1))))
spot_more old f first from i file token l =
    let turned : nat_eq f file ≡ nat_eq file f = grind (arith, nat_tests) in
    let next : (first + i) + 1 ≡ first + (i + 1) = omega arith in
    let low : first + from ≤ first + i = omega (arith, l) in
    ap (λ b. (b && nat_eq (first + i) token) || (old || ((nat_eq file f && nat_le (first + from) token) && nat_lt token (first + i)))) turned
    ∙ spot-by (nat_eq file f) old (first + from) (first + i) token low
    ∙ ap (λ k. old || ((nat_eq file f && nat_le (first + from) token) && nat_lt token k)) next

all-by : (b : Bool) (old : Bool) (from i upto t : ℕ) → upto ≤ i → (from ≤ upto → i ≤ upto) → (upto < i → i ≡ from) →
    (old || ((b && nat_le from t) && nat_lt t i)) ≡ (old || ((b && nat_le from t) && nat_lt t upto))
all-by true old from i upto t h inside start = range_all old from i upto t h inside start
all-by false old from i upto t h inside start = refl

-- all tokens
pub spot_all : (old : Bool) (f first from i upto file token : ℕ) → upto ≤ i → (from ≤ upto → i ≤ upto) → (upto < i → i ≡ from) →
    (old || ((nat_eq file f && nat_le (first + from) token) && nat_lt token (first + i))) ≡ (old || ((nat_eq file f && nat_le (first + from) token) && nat_lt token (first + upto)))
spot_all old f first from i upto file token h inside start =
    all-by (nat_eq file f) old (first + from) (first + i) (first + upto) token (omega (arith, h)) (λ l. (
    let small : i ≤ upto = inside (omega (arith, l)) in
    omega (arith, small)
    )) (λ l. (
    let same : i ≡ from = start (omega (arith, l)) in
    ap (λ k. first + k) same
    ))
