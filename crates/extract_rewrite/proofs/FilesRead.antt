-- The files of a package, read one after the other, with their statements.
use Rattle.std.proofs.Common.{◌≡◌, ◌∙◌, ◌≤◌, ◌<◌, refl, sym, ap, subst, ℕ, zero, suc, ◌+◌, Bool, true, false, List, [], ◌∷◌, length, map, drop, Option, Some, None, arith, length-append}
use Rattle.std.specs.Prelude.{◌==◌, nat_le, slice_get}
use Rattle.std.proofs.lemmas.Bool.{and_parts}
use Rattle.std.proofs.lemmas.Bool.Decides.{nat_tests}
use Rattle.go_base.specs.declared.Span.{Span}
use Rattle.go_base.specs.declared.bytes.FileText.{FileText}
use Rattle.go_base.specs.Package.{IsPackage, most_bytes, total_bytes}
use Rattle.go_grammar.specs.Grammar.{IsFile}
use Rattle.go_grammar.specs.Trees.{Tree}
use Rattle.go_tokens.specs.declared.token.Token.{Token}
use Rattle.go_tokens.specs.Files.{IsLexing}
use Rattle.go_tokens.specs.Spellings.{same_text}
use Rattle.go_tokens.specs.Tokens.{TokenList, kinds}
use Rattle.go_tree.specs.Branches.{statements}
use Rattle.go_tree.specs.Failures.{of_files}
use Rattle.go_tree.specs.File.{FileTree}
use Rattle.go_tree.specs.Views.{view}
use Rattle.go_package_defs.specs.Checked.{IsRead, AreRead}
use Rattle.go_package_defs.specs.Sources.{source_of, unit_of}
use Rattle.extract_rewrite.specs.Limits.{past_bytes, past_levels, past_statements, most_statements, statements_in}
use Rattle.extract_rewrite.specs.Reading.{statement_count, IsReadThere, IsReadOrNone, IsCounted, AreCounted, Judges}

-- ---- one file

same_is : (a b : List ℕ) → same_text a b ≡ true → a ≡ b
same_is [] [] h = refl
same_is [] (y ∷ b) h = absurd cc
same_is (x ∷ a) [] h = absurd cc
same_is (x ∷ a) (y ∷ b) h =
    let both = and_parts (x == y) (same_text a b) h in
    let one : x ≡ y = grind (arith, nat_tests) in
    λ j. one j ∷ same_is a b both.1 j

-- a file is that of another text with the same bytes
same_read : (n : ℕ) (x y : FileText) (f : FileTree) → x.bytes ≡ y.bytes → IsRead n x f → IsRead n y f
same_read n x y f e h = record { number = h.number; bytes = h.bytes ∙ e; lexing = subst (λ b. IsLexing n b f.tokens.tokens f.tokens.comments) e h.lexing; tree = h.tree }

pub unchanged : (n k : ℕ) (x y : FileText) (f : FileTree) → IsReadThere n (Some x) (Some f) → same_text x.bytes y.bytes ≡ true → k ≡ statement_count n f → IsCounted n y (Some k)
unchanged n k x y f h s e = (f, same_read n x y f (same_is x.bytes y.bytes s) h, e)

pub read_anew : (n : ℕ) (x : FileText) (f : FileTree) (k : ℕ) → IsReadOrNone n x (Some f) → k ≡ statement_count n f → IsCounted n x (Some k)
read_anew n x f k h e = (f, h, e)

pub not_lexed : (n : ℕ) (x : FileText) (b : List ℕ) → b ≡ x.bytes → ((ts : List Token) (cs : List Span) → IsLexing n b ts cs → ⊥) → IsReadOrNone n x None
not_lexed n x b e none f h = none f.tokens.tokens f.tokens.comments (subst (λ z. IsLexing n z f.tokens.tokens f.tokens.comments) (sym e) h.lexing)

pub not_parsed : (n : ℕ) (x : FileText) (b : List ℕ) (t : TokenList) → b ≡ x.bytes → ((ts : List Token) (cs : List Span) → IsLexing n b ts cs → t ≡ record { file = n; text = b; tokens = ts; comments = cs })
    → ((u : Tree) → IsFile (kinds t.tokens) u → ⊥) → IsReadOrNone n x None
not_parsed n x b t e same none f h =
    let lexing : IsLexing n b f.tokens.tokens f.tokens.comments = subst (λ z. IsLexing n z f.tokens.tokens f.tokens.comments) (sym e) h.lexing in
    let one : t.tokens ≡ f.tokens.tokens = ap (λ (l : TokenList). l.tokens) (same f.tokens.tokens f.tokens.comments lexing) in
    none (view f.root) (subst (λ ts. IsFile (kinds ts) (view f.root)) (sym one) h.tree)

pub parsed : (n : ℕ) (x : FileText) (t : TokenList) (f : FileTree) → (t.file ≡ n) × (t.text ≡ x.bytes) × IsLexing n x.bytes t.tokens t.comments → (f.tokens ≡ t) × IsFile (kinds t.tokens) (view f.root) → IsReadOrNone n x (Some f)
parsed n x t f h k = record {
  number = ap (λ (l : TokenList). l.file) k.0 ∙ h.0;
  bytes = ap (λ (l : TokenList). l.text) k.0 ∙ h.1;
  lexing = subst (λ (l : TokenList). IsLexing n x.bytes l.tokens l.comments) (sym k.0) h.2;
  tree = subst (λ (l : TokenList). IsFile (kinds l.tokens) (view f.root)) (sym k.0) k.1;
}

-- ---- all files

read_there_from : (n k : ℕ) (xs : List FileText) (fs : List FileTree) → AreRead n xs fs → IsReadThere (k + n) (slice_get xs k) (slice_get fs k)
read_there_from n k [] [] h = tt
read_there_from n k [] (f ∷ fs) h = absurd h
read_there_from n k (x ∷ xs) [] h = absurd h
read_there_from n zero (x ∷ xs) (f ∷ fs) h = let at : n ≡ 0 + n = omega arith in subst (λ m. IsRead m x f) at h.0
read_there_from n (suc k) (x ∷ xs) (f ∷ fs) h =
    let at : k + suc n ≡ suc k + n = omega arith in
    subst (λ m. IsReadThere m (slice_get xs k) (slice_get fs k)) at (read_there_from (suc n) k xs fs h.1)

pub read_there : (k : ℕ) (xs : List FileText) (fs : List FileTree) → AreRead 0 xs fs → IsReadThere k (slice_get xs k) (slice_get fs k)
read_there k xs fs h = let at : k + 0 ≡ k = omega arith in subst (λ m. IsReadThere m (slice_get xs k) (slice_get fs k)) at (read_there_from 0 k xs fs h)

pub read_both : (k : ℕ) (xs : List FileText) (fs : List FileTree) (o : Option FileText) (q : Option FileTree) → AreRead 0 xs fs → slice_get xs k ≡ o → slice_get fs k ≡ q → IsReadThere k o q
read_both k xs fs o q h a b = subst (λ r. IsReadThere k r q) a (subst (IsReadThere k (slice_get xs k)) b (read_there k xs fs h))

abbrev statements_from : ℕ → List FileTree → ℕ
statements_from n fs = length (of_files statements n (map unit_of (map source_of fs)))

-- With files of the texts from a place on all texts have files, and so many statements more than these.
abbrev pub Continues : List FileText → ℕ → ℕ → Type 0
Continues xs i total = (rest : List FileTree) → AreRead i (drop i xs) rest → (fs : List FileTree) × AreRead 0 xs fs × (length (statements_in fs) ≡ total + statements_from i rest)

pub begins : (xs : List FileText) → Continues xs 0 0
begins xs rest h = let same : length (statements_in rest) ≡ statements_from 0 rest = refl in (rest, h, omega (arith, same))

pub goes_on : (xs : List FileText) (i total count next : ℕ) (x : FileText) → Continues xs i total → drop i xs ≡ x ∷ drop (i + 1) xs → IsCounted i x (Some count) → next ≡ total + count → Continues xs (i + 1) next
goes_on xs i total count next x before here counted sum rest h =
    let f = counted.0 in
    let at : i + 1 ≡ suc i = omega arith in
    let read : AreRead i (drop i xs) (f ∷ rest) = subst (λ l. AreRead i l (f ∷ rest)) (sym here) (counted.1, subst (λ m. AreRead m (drop (i + 1) xs) rest) at h) in
    let all = before (f ∷ rest) read in
    let own : count ≡ statement_count i f = counted.2 in
    let both : statements_from i (f ∷ rest) ≡ statement_count i f + statements_from (suc i) rest = length-append (statements i f.tokens (unit_of (source_of f)).events) (of_files statements (suc i) (map unit_of (map source_of rest))) in
    let moved : statements_from (i + 1) rest ≡ statements_from (suc i) rest = ap (λ m. statements_from m rest) at in
    let whole : length (statements_in all.0) ≡ total + statements_from i (f ∷ rest) = all.2 in
    (all.0, all.1, omega (arith, own, both, moved, whole, sum))

pub ends : (xs : List FileText) (i total : ℕ) → Continues xs i total → drop i xs ≡ [] → AreCounted xs (Some total)
ends xs i total before here =
    let all = before [] (subst (λ l. AreRead i l []) (sym here) tt) in
    let whole : length (statements_in all.0) ≡ total + 0 = all.2 in
    (all.0, all.1, omega (arith, whole))

pub stops : (xs : List FileText) (i : ℕ) (x : FileText) → slice_get xs i ≡ Some x → IsCounted i x None → AreCounted xs None
stops xs i x there none = record { number = i; text = x; there = there; none = none }

-- ---- the limits

judged_by : (xs : List FileText) (k : ℕ) (b : Bool) → total_bytes xs ≤ most_bytes → AreCounted xs (Some k) → nat_le k most_statements ≡ b → Judges b xs
judged_by xs k true small h e =
    let few : k ≤ most_statements = grind (arith, nat_tests, e) in
    let same = h.2 in
    record { bytes = small; files = h.0; read = h.1; statements = omega (arith, few, same) }
judged_by xs k false small h e =
    let many : most_statements < k = grind (arith, nat_tests, e) in
    let same = h.2 in
    past_statements (record { files = h.0; read = h.1; statements = omega (arith, many, same) })

pub judged : (xs : List FileText) (k : ℕ) → IsPackage xs → AreCounted xs (Some k) → Judges (nat_le k most_statements) xs
judged xs k p h = judged_by xs k (nat_le k most_statements) p.small h refl

pub judged_none : (xs : List FileText) → AreCounted xs None → Judges false xs
judged_none xs h = past_levels h

pub judged_large : (xs : List FileText) → most_bytes < total_bytes xs → Judges false xs
judged_large xs h = past_bytes h
