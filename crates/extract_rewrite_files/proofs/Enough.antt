-- There are as many fresh names as holes that are parameters.
use Rattle.std.proofs.Common.{◌≡◌, ℕ, zero, suc, ◌+◌, ◌*◌, ◌^◌, ◌≤◌, List, [], ◌∷◌, length, Some, ap, arith}
use Rattle.std.specs.Prelude.{slice_get}
use Rattle.std.proofs.lemmas.List.Sums.{sum_by-cons}
use Rattle.go_base.specs.declared.bytes.FileText.{FileText}
use Rattle.go_base.specs.Package.{most_bytes, total_bytes}
use Rattle.go_tokens.specs.Lexing.{width}
use Rattle.go_tokens.proofs.Public.{placed}
use Rattle.go_tree.specs.File.{FileTree}
use Rattle.go_package_defs.specs.Checked.{AreRead, IsRead}
use Rattle.extract_texts.specs.Fresh.{room_for, tokens_in}

one_wide : (k : ℕ) (x : FileText) (f : FileTree) (h : IsRead k x f) → width h.lexing.text ≡ length x.bytes
unfolding width
one_wide k x f h = ap length h.lexing.is_text.encoded

-- a file has at most two tokens for each byte
pub few_tokens : (k : ℕ) (xs : List FileText) (fs : List FileTree) → AreRead k xs fs → tokens_in fs ≤ 2 * total_bytes xs
few_tokens k [] [] h = omega arith
few_tokens k [] (f ∷ fs) h = absurd h
few_tokens k (x ∷ xs) [] h = absurd h
few_tokens k (x ∷ xs) (f ∷ fs) h =
    let r = few_tokens (suc k) xs fs h.1 in
    let here = (placed k h.0.lexing.text f.tokens.tokens f.tokens.comments (length x.bytes) h.0.lexing.lexes (one_wide k x f h.0)).few in
    let all : total_bytes (x ∷ xs) ≡ length x.bytes + total_bytes xs = sum_by-cons (λ (z : FileText). length z.bytes) x xs in
    omega (arith, r, here, all)

-- a file is no longer than all
pub one_short : (xs : List FileText) (n : ℕ) (x : FileText) → slice_get xs n ≡ Some x → length x.bytes ≤ total_bytes xs
one_short [] n x e = absurd cc
one_short (y ∷ xs) zero x e =
    let same : y ≡ x = cc in
    let all : total_bytes (y ∷ xs) ≡ length y.bytes + total_bytes xs = sum_by-cons (λ (z : FileText). length z.bytes) y xs in
    omega (arith, all, ap (λ (z : FileText). length z.bytes) same)
one_short (y ∷ xs) (suc n) x e = let r = one_short xs n x e in let all : total_bytes (y ∷ xs) ≡ length y.bytes + total_bytes xs = sum_by-cons (λ (z : FileText). length z.bytes) y xs in omega (arith, r, all)

pub has_room : (xs : List FileText) (fs : List FileTree) (many : ℕ) → AreRead 0 xs fs → total_bytes xs ≤ most_bytes → many ≤ most_bytes → room_for fs many ≤ 2 ^ 64
has_room xs fs many h small le = let r = few_tokens 0 xs fs h in omega (arith, r, small, le)
