-- Files that are lexed and parsed are read, and the first that isn't has the fault that is reported.
use Rattle.std.proofs.Common.{◌≡◌, ◌∙◌, ℕ, zero, suc, ◌+◌, ◌<◌, ◌≤◌, Vec, Global, ◌⊎◌, inl, inr, List, [], ◌∷◌, ◌++◌, length, Option, Some, None, Result, Ok, Err, slice_get, refl, sym, ap, subst, arith}
use Rattle.std.proofs.lemmas.Bool.{cases_order}
use Rattle.std.proofs.lemmas.List.Sums.{sum_by-cons}
use Rattle.std.proofs.lemmas.Option.{slice_get_within}
use Rattle.std.specs.Option.{option_or}
use Rattle.go_base.specs.Gives.{Meets, Unless}
use Rattle.go_base.specs.Package.{total_bytes, most_bytes}
use Rattle.go_base.specs.declared.Span.{Span}
use Rattle.go_base.specs.declared.bytes.FileText.{FileText}
use Rattle.go_base.specs.declared.fault.Fault.{Fault}
use Rattle.go_grammar.specs.Grammar.{IsFile}
use Rattle.go_tokens.specs.declared.token.Token.{Token}
use Rattle.go_tokens.specs.Encoding.{IsEncodingFault}
use Rattle.go_tokens.specs.Files.{IsLexing, IsFault, IsLaterFault}
use Rattle.go_tokens.specs.Tokens.{TokenList, kinds}
use Rattle.go_tree.specs.File.{FileTree}
use Rattle.go_tree.specs.Views.{view}
use Rattle.go_scopes.specs.Views.{failure_of}
use Rattle.go_package_defs.specs.Checked.{IsRead, AreRead, HaveNone, IsFirst, encoding, tokens, trees}
use Rattle.go_package.proofs.Each.{one_more}
use Rattle.go_package_defs.specs.declared.error.CheckError.{CheckError}
use Rattle.go_package_defs.specs.Refusals.{check_refusal}
use Rattle.go_package.specs.Reading.{IsLexed, IsLexedOr, Upto, AreLexed, IsParsed, AreParsed, IsUnparsed, IsUnlexed, IsFileFault, FileFaultsAreReported}

same_some : {A : Type 0} (x y : A) → Some x ≡ Some y → x ≡ y
same_some x y e = grind (arith, e)

-- ---- all files are read

is_read : (n : ℕ) (x : FileText) (t : TokenList) (f : FileTree) → IsLexed n x t → IsParsed n t f → IsRead n x f
is_read n x t f l p = record {
  number = ap (λ (s : TokenList). s.file) p.0 ∙ l.number;
  bytes = ap (λ (s : TokenList). s.text) p.0 ∙ l.bytes;
  lexing = subst (λ (s : TokenList). IsLexing n x.bytes s.tokens s.comments) (sym p.0) l.lexing;
  tree = subst (λ (s : TokenList). IsFile (kinds s.tokens) (view f.root)) (sym p.0) p.1;
}

are_read : (k : ℕ) (xs : List FileText) (fs : List FileTree) → length fs ≡ length xs → ((n : ℕ) (x : FileText) → slice_get xs n ≡ Some x → (f : FileTree) × (slice_get fs n ≡ Some f) × IsRead (n + k) x f) → AreRead k xs fs
are_read k [] [] e h = tt
are_read k [] (f ∷ fs) e h = absurd (omega (arith, e))
are_read k (x ∷ xs) [] e h = absurd (omega (arith, e))
are_read k (x ∷ xs) (f ∷ fs) e h =
    let r = h 0 x refl in
    let next : (n : ℕ) (y : FileText) → slice_get xs n ≡ Some y → (g : FileTree) × (slice_get fs n ≡ Some g) × IsRead (n + suc k) y g = λ n y g. let s = h (suc n) y g in let at : suc n + k ≡ n + suc k = omega arith in (s.0, s.1, subst (λ m. IsRead m y s.0) at s.2) in
    let at : 0 + k ≡ k = omega arith in
    (subst (λ m. IsRead m x f) at (subst (λ g. IsRead (0 + k) x g) (sym (same_some f r.0 r.1)) r.2), are_read (suc k) xs fs (omega (arith, e)) next)

pub all_read : (xs : List FileText) (ts : List TokenList) (fs : List FileTree) → AreLexed xs ts → AreParsed ts fs → AreRead 0 xs fs
all_read xs ts fs l p =
    are_read 0 xs fs (p.0 ∙ l.0) (λ n x h.
    let t = l.1 n x (slice_get_within xs n x h) h in
    let f = p.1 n t.0 (slice_get_within ts n t.0 t.1) t.1 in
    let at : n ≡ n + 0 = omega arith in
    (f.0, f.1, subst (λ m. IsRead m x f.0) at (is_read n x t.0 f.0 t.2 f.2)))

-- ---- faults of single files

abbrev pub NoFault : Type 0
NoFault = (file : ℕ) (bytes : List ℕ) (ts : List Token) (cs : List Span) (f : Fault) → IsLexing file bytes ts cs → IsFault file bytes f → ⊥

abbrev pub OneLexing : Type 0
OneLexing = (file : ℕ) (bytes : List ℕ) (ts us : List Token) (cs ds : List Span) → IsLexing file bytes ts cs → IsLexing file bytes us ds → (ts ≡ us) × (cs ≡ ds)

abbrev pub NoneBefore : List FileText → ℕ → Type 0
NoneBefore xs i = (n : ℕ) (x : FileText) (g : Fault) → n < i → slice_get xs n ≡ Some x → IsEncodingFault n x.bytes g → ⊥

-- the first fault of tokens, where there is one so far; else all are lexed so far
abbrev pub LexedSoFar : List FileText → ℕ → List TokenList → Option Fault → Type 0
LexedSoFar xs i ts None = Upto IsLexed xs i ts
LexedSoFar xs i ts (Some f) = IsFirst IsLaterFault xs f

pub first_later : NoFault → (xs : List FileText) (i : ℕ) (ts : List TokenList) (x : FileText) (f : Fault) → Upto IsLexed xs i ts → slice_get xs i ≡ Some x → IsLaterFault i x.bytes f → IsFirst IsLaterFault xs f
first_later law xs i ts x f up there fails = record {
  number = i;
  file = x;
  there = there;
  fails = fails;
  before = λ n y g lt h later. let t = up.1 n y lt h in law n y.bytes t.0.tokens t.0.comments g t.2.lexing (inr later);
}

pub first_encoding : (xs : List FileText) (i : ℕ) (x : FileText) (f : Fault) → NoneBefore xs i → slice_get xs i ≡ Some x → IsEncodingFault i x.bytes f → IsUnlexed xs (failure_of f)
first_encoding xs i x f none there fails = inl (
  f,
  refl,
  record {
    number = i;
    file = x;
    there = there;
    fails = fails;
    before = λ n y g lt h e. none n y g lt h e;
  },
)

pub ended_later : (xs : List FileText) (f : Fault) → NoneBefore xs (length xs) → IsFirst IsLaterFault xs f → IsUnlexed xs (failure_of f)
ended_later xs f none first = inr ((λ n x g h e. none n x g (slice_get_within xs n x h) h e), (f, refl, first))

-- ---- the file without a tree

same_tokens : (s t : TokenList) → s.file ≡ t.file → s.text ≡ t.text → s.tokens ≡ t.tokens → s.comments ≡ t.comments → s ≡ t
same_tokens s t a b c d =
    ap (λ x. record { file = x; text = s.text; tokens = s.tokens; comments = s.comments }) a
    ∙ ap (λ x. record { file = t.file; text = x; tokens = s.tokens; comments = s.comments }) b
    ∙ ap (λ x. record { file = t.file; text = t.text; tokens = x; comments = s.comments }) c
    ∙ ap (λ x. record { file = t.file; text = t.text; tokens = t.tokens; comments = x }) d

no_encoding : NoFault → (xs : List FileText) (ts : List TokenList) → AreLexed xs ts → HaveNone IsEncodingFault xs
no_encoding law xs ts l n x f h e = let t = l.1 n x (slice_get_within xs n x h) h in law n x.bytes t.0.tokens t.0.comments f t.2.lexing (inl e)

no_later : NoFault → (xs : List FileText) (ts : List TokenList) → AreLexed xs ts → HaveNone IsLaterFault xs
no_later law xs ts l n x f h e = let t = l.1 n x (slice_get_within xs n x h) h in law n x.bytes t.0.tokens t.0.comments f t.2.lexing (inr e)

text_at : (xs : List FileText) (i : ℕ) → i < length xs → (x : FileText) × (slice_get xs i ≡ Some x)
text_at [] i lt = absurd (omega (arith, lt))
text_at (x ∷ xs) zero lt = (x, refl)
text_at (x ∷ xs) (suc i) lt = text_at xs i (omega (arith, lt))

pub first_unparsed : NoFault → OneLexing → (xs : List FileText) (ts : List TokenList) (f : Fault) → AreLexed xs ts → IsUnparsed ts f → IsFileFault xs (failure_of f)
first_unparsed law one xs ts f l u =
    let lt : u.number < length xs = subst (λ m. u.number < m) l.0 (slice_get_within ts u.number u.file u.there) in
    let at = text_at xs u.number lt in
    let t = l.1 u.number at.0 lt at.1 in
    let same : t.0 ≡ u.file = same_some t.0 u.file (sym t.1 ∙ u.there) in
    let lexed : IsLexed u.number at.0 u.file = subst (IsLexed u.number at.0) same t.2 in
    inr (
      no_encoding law xs ts l,
      no_later law xs ts l,
      (
        f,
        refl,
        record {
          number = u.number;
          file = at.0;
          there = at.1;
          fails = record { tokens = u.file; number = lexed.number; text = lexed.bytes; lexing = lexed.lexing; none = u.none; place = u.place };
          before = λ n y g lt2 h bad.
              let s = l.1 n y (slice_get_within xs n y h) h in
              let e = one n y.bytes s.0.tokens bad.tokens.tokens s.0.comments bad.tokens.comments s.2.lexing bad.lexing in
              let p = u.before n s.0 lt2 s.1 in
              bad.none p.0 (subst (λ us. IsFile (kinds us) p.0) e.0 p.1);
        },
      ),
    )

pub are_reported : FileFaultsAreReported
are_reported xs g (inl (inl e)) = encoding e
are_reported xs g (inl (inr t)) = tokens t
are_reported xs g (inr t) = trees t

-- ---- one more file

none_by : NoFault → (i : ℕ) (x : FileText) (r : Result TokenList Fault) → IsLexedOr i x r → (g : Fault) → IsEncodingFault i x.bytes g → ⊥
none_by law i x (Ok t) l g e = law i x.bytes t.tokens t.comments g l.lexing (inl e)
none_by law i x (Err f) l g e = l.1 g e

none_at : NoFault → (xs : List FileText) (i n : ℕ) (x z : FileText) (g : Fault) (r : Result TokenList Fault) → NoneBefore xs i → slice_get xs i ≡ Some x → IsLexedOr i x r → n < i + 1 → slice_get xs n ≡ Some z → IsEncodingFault n z.bytes g → (n ≡ i) ⊎ ((n < i) ⊎ (i < n)) → ⊥
none_at law xs i n x z g r none there l lt h e (inl en) =
    let same : x ≡ z = same_some x z (sym there ∙ ap (slice_get xs) (sym en) ∙ h) in
    none_by law i x r l g (subst (λ (y : FileText). IsEncodingFault i y.bytes g) (sym same) (subst (λ m. IsEncodingFault m z.bytes g) en e))
none_at law xs i n x z g r none there l lt h e (inr (inl less)) = none n z g less h e
none_at law xs i n x z g r none there l lt h e (inr (inr more)) = absurd (omega (arith, lt, more))

pub none_more : NoFault → (xs : List FileText) (i : ℕ) (x : FileText) (r : Result TokenList Fault) → NoneBefore xs i → slice_get xs i ≡ Some x → IsLexedOr i x r → NoneBefore xs (i + 1)
none_more law xs i x r none there l n z g lt h e = none_at law xs i n x z g r none there l lt h e (cases_order n i)

pub lexed_more : (xs : List FileText) (i : ℕ) (ts : List TokenList) (x : FileText) (t : TokenList) (us : List TokenList) (later after : Option Fault) → LexedSoFar xs i ts later → slice_get xs i ≡ Some x → IsLexed i x t → us ≡ ts ++ t ∷ [] → after ≡ later → LexedSoFar xs (i + 1) us after
lexed_more xs i ts x t us None after so there l e a = subst (LexedSoFar xs (i + 1) us) (sym a) (subst (Upto IsLexed xs (i + 1)) (sym e) (one_more IsLexed xs i ts x t so there l))
lexed_more xs i ts x t us (Some f) after so there l e a = subst (LexedSoFar xs (i + 1) us) (sym a) so

pub later_more : NoFault → (xs : List FileText) (i : ℕ) (ts : List TokenList) (x : FileText) (f : Fault) (us : List TokenList) (later after : Option Fault) → LexedSoFar xs i ts later → slice_get xs i ≡ Some x → IsLaterFault i x.bytes f → after ≡ option_or later (Some f) → LexedSoFar xs (i + 1) us after
later_more law xs i ts x f us None after so there l a = subst (LexedSoFar xs (i + 1) us) (sym a) (first_later law xs i ts x f so there l)
later_more law xs i ts x f us (Some g) after so there l a = subst (LexedSoFar xs (i + 1) us) (sym a) so

-- ---- the whole

total_more : (y : FileText) (xs : List FileText) → total_bytes (y ∷ xs) ≡ length y.bytes + total_bytes xs
total_more y xs = sum_by-cons (λ (f : FileText). length f.bytes) y xs

small_by : (m : ℕ) (xs : List FileText) → total_bytes xs ≤ m → (n : ℕ) (x : FileText) → slice_get xs n ≡ Some x → length x.bytes ≤ m
small_by m [] h n x e = cc
small_by m (y ∷ xs) h zero x e =
    let same : length y.bytes ≡ length x.bytes = ap (λ (z : FileText). length z.bytes) (same_some y x e) in
    let total = total_more y xs in
    omega (arith, h, same, total)
small_by m (y ∷ xs) h (suc n) x e = let total = total_more y xs in small_by m xs (omega (arith, h, total)) n x e

pub small_files : (xs : List FileText) → total_bytes xs ≤ most_bytes → (n : ℕ) (x : FileText) → slice_get xs n ≡ Some x → length x.bytes ≤ 1048576
small_files xs h n x e = small_by 1048576 xs h n x e

pub read_or_reported : NoFault → OneLexing → (xs : List FileText) (ts : List TokenList) (r : Result (Vec FileTree Global) CheckError) → AreLexed xs ts
    → Meets check_refusal r (λ v. AreParsed ts v.items) (IsUnparsed ts) → Meets check_refusal r (λ v. AreRead 0 xs v.items) (λ f. IsFileFault xs (failure_of f))
read_or_reported law one xs ts (Ok v) l m = all_read xs ts v.items l m
read_or_reported law one xs ts (Err e) l m = by_refusal (check_refusal e) m
  where
    by_refusal : (o : Option Fault) → Unless o (IsUnparsed ts) → Unless o (λ f. IsFileFault xs (failure_of f))
    by_refusal None h = tt
    by_refusal (Some f) h = first_unparsed law one xs ts f l h

pub stopped : (xs : List FileText) (i : ℕ) (x : FileText) (e : CheckError) (r : Result (Vec TokenList Global) CheckError) → NoneBefore xs i → slice_get xs i ≡ Some x
    → Unless (check_refusal e) (IsEncodingFault i x.bytes) → r ≡ Err e → Meets check_refusal r (λ v. AreLexed xs v.items) (λ f. IsUnlexed xs (failure_of f))
stopped xs i x e r none there m same = subst (λ r. Meets check_refusal r (λ v. AreLexed xs v.items) (λ f. IsUnlexed xs (failure_of f))) (sym same) (by_refusal (check_refusal e) m)
  where
    by_refusal : (o : Option Fault) → Unless o (IsEncodingFault i x.bytes) → Unless o (λ f. IsUnlexed xs (failure_of f))
    by_refusal None h = tt
    by_refusal (Some f) h = first_encoding xs i x f none there h
