-- Tables of texts and of the uses of locals.
use Rattle.std.specs.Prelude.{◌≡◌, ℕ, Bool, ◌&&◌, not, nat_eq, nat_le, nat_lt, List, Option, Some, None}
use Rattle.std.specs.Borrow.{Bor}
use Rattle.std.specs.HashMap.{HashMap, get}
use Rattle.std.specs.HashSet.{HashSet}
use Rattle.std.specs.HashSet as set
use Rattle.std.specs.Cmp.Lexicographic.{pointwise}
use Rattle.std.specs.List.{list_any}
use Rattle.go_tokens.specs.Spellings.{same_text}
use Rattle.go_tree.specs.Lookups.{Asked, is_assigned, object_asked}
use Rattle.escape_check.specs.Lookups.{means_local}

abbrev pub same_bytes : Bor (List ℕ) → Bor (List ℕ) → Bool
same_bytes a b = pointwise nat_eq a.now b.now

-- The set has these texts.
abbrev pub AreTexts : {S : Type 0} → HashSet (Bor (List ℕ)) S → List (List ℕ) → Type 0
AreTexts texts ws = (w : Bor (List ℕ)) → set.contains same_bytes texts w ≡ list_any (λ v. same_text v w.now) ws

-- ---- uses of locals

-- the file, the function and the number of a local
abbrev pub LocalKey : Type 0
LocalKey = ℕ × (ℕ × ℕ)

abbrev pub same_key : LocalKey → LocalKey → Bool
same_key a b = nat_eq a.0 b.0 && (nat_eq a.1.0 b.1.0 && nat_eq a.1.1 b.1.1)

abbrev pub end_in : Option ℕ → ℕ
end_in None = 0
end_in (Some n) = n

-- a name from a token of a file on that uses a local, other than by an assignment to it
abbrev pub uses_from : ℕ → ℕ → ℕ → ℕ → Asked → Bool
uses_from file token func n a = nat_eq a.file file && nat_le token a.it.name && means_local func n (object_asked a) && not (is_assigned a.it.role)

-- The map has for each local the number behind the last name that uses it so, if one does.
abbrev pub AreLastUses : {V : Type 0} → HashMap LocalKey ℕ V → List Asked → Type 0
AreLastUses ends asks = (file func n token : ℕ) → nat_lt token (end_in (get same_key ends (file, (func, n)))) ≡ list_any (uses_from file token func n) asks
