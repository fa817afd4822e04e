-- A package has one answer, since a file has one lexing or one fault, and at most one tree.
use Rattle.std.proofs.Common.{◌≡◌, ◌∙◌, refl, sym, ap, subst, ℕ, zero, suc, ◌<◌, ◌⊎◌, inl, inr, List, [], ◌∷◌, map, Some, Result, Ok, Err, arith}
use Rattle.std.specs.Prelude.{◌+◌, slice_get}
use Rattle.std.proofs.lemmas.Bool.{cases_order}
use Rattle.go_base.specs.declared.Span.{Span}
use Rattle.go_base.specs.declared.bytes.FileText.{FileText}
use Rattle.go_base.specs.declared.fault.Fault.{Fault}
use Rattle.go_base.specs.Gives.{◌>>=◌}
use Rattle.go_grammar.specs.Grammar.{IsFile}
use Rattle.go_grammar.specs.Trees.{Tree}
use Rattle.go_parse.specs.Parse.{IsSyntaxFault}
use Rattle.go_tokens.specs.declared.token.Token.{Token}
use Rattle.go_tokens.specs.declared.token.TokenKind.{TokenKind}
use Rattle.go_tokens.specs.Encoding.{IsEncodingFault}
use Rattle.go_tokens.specs.Files.{IsLexing, IsFault, IsLaterFault}
use Rattle.go_tokens.specs.Tokens.{TokenList, kinds}
use Rattle.go_tree.specs.Failures.{Failure}
use Rattle.go_tree.specs.File.{FileTree}
use Rattle.go_tree.specs.Views.{view}
use Rattle.go_typed.specs.Contents.{Content}
use Rattle.go_scopes.specs.Views.{failure_of}
use Rattle.go_package_defs.specs.Sources.{Source, source_of}
use Rattle.go_package_defs.specs.Checked.{Typing, sources_answer, content_of, IsRead, AreRead, names_of, IsChecked, FileRule, HaveNone, IsFirst, IsTreeFault, IsLater, IsReported, encoding, tokens, trees, later}
use Rattle.go_package_defs.specs.Single.{HasOneAnswer}

-- what is known of single files
pub record OfFiles : Type 0 where
  pub lexing : (file : ℕ) (bytes : List ℕ) (ts us : List Token) (cs ds : List Span) → IsLexing file bytes ts cs → IsLexing file bytes us ds → (ts ≡ us) × (cs ≡ ds)
  pub fault : (file : ℕ) (bytes : List ℕ) (f g : Fault) → IsFault file bytes f → IsFault file bytes g → f ≡ g
  pub none : (file : ℕ) (bytes : List ℕ) (ts : List Token) (cs : List Span) (f : Fault) → IsLexing file bytes ts cs → IsFault file bytes f → ⊥
  pub tree : (ts : List TokenKind) (t u : Tree) → IsFile ts t → IsFile ts u → t ≡ u

same_some : {A : Type 0} (x y : A) → Some x ≡ Some y → x ≡ y
same_some x y e = grind (arith, e)

-- ---- files that are read

read_at : (n k : ℕ) (xs : List FileText) (fs : List FileTree) (x : FileText) → AreRead n xs fs → slice_get xs k ≡ Some x → (f : FileTree) × IsRead (k + n) x f
read_at n k [] [] x h e = absurd cc
read_at n k [] (f ∷ fs) x h e = absurd h
read_at n k (y ∷ xs) [] x h e = absurd h
read_at n zero (y ∷ xs) (f ∷ fs) x h e =
    let at : n ≡ 0 + n = omega arith in
    (f, subst (λ m. IsRead m x f) at (subst (λ z. IsRead n z f) (same_some y x e) h.0))
read_at n (suc k) (y ∷ xs) (f ∷ fs) x h e =
    let r = read_at (suc n) k xs fs x h.1 e in
    let at : k + suc n ≡ suc k + n = omega arith in
    (r.0, subst (λ m. IsRead m x r.0) at r.1)

read_first : (k : ℕ) (xs : List FileText) (fs : List FileTree) (x : FileText) → AreRead 0 xs fs → slice_get xs k ≡ Some x → (f : FileTree) × IsRead k x f
read_first k xs fs x h e =
    let r = read_at 0 k xs fs x h e in
    let at : k + 0 ≡ k = omega arith in
    (r.0, subst (λ m. IsRead m x r.0) at r.1)

same_tokens : (s t : TokenList) → s.file ≡ t.file → s.text ≡ t.text → s.tokens ≡ t.tokens → s.comments ≡ t.comments → s ≡ t
same_tokens s t a b c d =
    ap (λ x. record { file = x; text = s.text; tokens = s.tokens; comments = s.comments }) a
    ∙ ap (λ x. record { file = t.file; text = x; tokens = s.tokens; comments = s.comments }) b
    ∙ ap (λ x. record { file = t.file; text = t.text; tokens = x; comments = s.comments }) c
    ∙ ap (λ x. record { file = t.file; text = t.text; tokens = t.tokens; comments = x }) d

source_by : TokenList → Tree → Source
source_by ts t = record { tokens = ts; tree = t }

one_source : OfFiles → (n : ℕ) (x : FileText) (f g : FileTree) → IsRead n x f → IsRead n x g → source_of f ≡ source_of g
unfolding source_by
one_source law n x f g h k =
    let same = law.lexing n x.bytes f.tokens.tokens g.tokens.tokens f.tokens.comments g.tokens.comments h.lexing k.lexing in
    let one : f.tokens ≡ g.tokens = same_tokens f.tokens g.tokens (h.number ∙ sym k.number) (h.bytes ∙ sym k.bytes) same.0 same.1 in
    let tree : view f.root ≡ view g.root = law.tree (kinds g.tokens.tokens) (view f.root) (view g.root) (subst (λ ts. IsFile (kinds ts) (view f.root)) same.0 h.tree) k.tree in
    ap (λ ts. source_by ts (view f.root)) one ∙ ap (source_by g.tokens) tree

one_reading : OfFiles → (n : ℕ) (xs : List FileText) (fs gs : List FileTree) → AreRead n xs fs → AreRead n xs gs → map source_of fs ≡ map source_of gs
one_reading law n [] [] [] h k = refl
one_reading law n [] [] (g ∷ gs) h k = absurd k
one_reading law n [] (f ∷ fs) gs h k = absurd h
one_reading law n (x ∷ xs) [] gs h k = absurd h
one_reading law n (x ∷ xs) (f ∷ fs) [] h k = absurd k
one_reading law n (x ∷ xs) (f ∷ fs) (g ∷ gs) h k =
    ap (λ s. s ∷ map source_of fs) (one_source law n x f g h.0 k.0) ∙ ap (λ ss. source_of g ∷ ss) (one_reading law (suc n) xs fs gs h.1 k.1)

-- ---- the first file with a fault

-- two faults of a file by the rule are one failure
abbrev IsSingle : FileRule → Type 0
IsSingle rule = (n : ℕ) (bytes : List ℕ) (f g : Fault) → rule n bytes f → rule n bytes g → failure_of f ≡ failure_of g

first_at : (rule : FileRule) → IsSingle rule → (xs : List FileText) (f g : Fault) (h : IsFirst rule xs f) (k : IsFirst rule xs g) → h.number ≡ k.number → failure_of f ≡ failure_of g
first_at rule one xs f g h k e =
    let file : h.file ≡ k.file = same_some h.file k.file (sym h.there ∙ ap (slice_get xs) e ∙ k.there) in
    one k.number k.file.bytes f g (subst (λ x. rule k.number x.bytes f) file (subst (λ n. rule n h.file.bytes f) e h.fails)) k.fails

first_by : (rule : FileRule) → IsSingle rule → (xs : List FileText) (f g : Fault) (h : IsFirst rule xs f) (k : IsFirst rule xs g) → (h.number ≡ k.number) ⊎ ((h.number < k.number) ⊎ (k.number < h.number)) → failure_of f ≡ failure_of g
first_by rule one xs f g h k (inl e) = first_at rule one xs f g h k e
first_by rule one xs f g h k (inr (inl l)) = absurd (k.before h.number h.file f l h.there h.fails)
first_by rule one xs f g h k (inr (inr l)) = absurd (h.before k.number k.file g l k.there k.fails)

one_first : (rule : FileRule) → IsSingle rule → (xs : List FileText) (f g : Fault) → IsFirst rule xs f → IsFirst rule xs g → failure_of f ≡ failure_of g
one_first rule one xs f g h k = first_by rule one xs f g h k (cases_order h.number k.number)

not_none : (rule : FileRule) (xs : List FileText) (f : Fault) → HaveNone rule xs → IsFirst rule xs f → ⊥
not_none rule xs f h k = h k.number k.file f k.there k.fails

-- ---- of each sort

single_encoding : OfFiles → IsSingle IsEncodingFault
single_encoding law n bytes f g h k = ap failure_of (law.fault n bytes f g (inl h) (inl k))

single_later : OfFiles → IsSingle IsLaterFault
single_later law n bytes f g h k = ap failure_of (law.fault n bytes f g (inr h) (inr k))

failure_by : Fault → ℕ → ℕ → ℕ → Failure
failure_by f n i j = record { code = f.code; place = record { file = n; start = i; end = j } }

syntax_failure : (ts : TokenList) (f g : Fault) → IsSyntaxFault ts f → IsSyntaxFault ts g → failure_of f ≡ failure_of g
unfolding failure_by
syntax_failure ts f g h k =
    ap (λ c. record { code = c; place = record { file = f.span.file; start = f.span.start; end = f.span.end } }) (h.code ∙ sym k.code)
    ∙ ap (λ n. failure_by g n f.span.start f.span.end) (h.file ∙ sym k.file)
    ∙ ap (λ n. failure_by g g.span.file n f.span.end) (h.start ∙ sym k.start)
    ∙ ap (λ n. failure_by g g.span.file g.span.start n) (h.end ∙ sym k.end)

single_tree : OfFiles → IsSingle IsTreeFault
single_tree law n bytes f g h k =
    let same = law.lexing n bytes h.tokens.tokens k.tokens.tokens h.tokens.comments k.tokens.comments h.lexing k.lexing in
    let one : h.tokens ≡ k.tokens = same_tokens h.tokens k.tokens (h.number ∙ sym k.number) (h.text ∙ sym k.text) same.0 same.1 in
    syntax_failure k.tokens f g (subst (λ ts. IsSyntaxFault ts f) one h.place) k.place

-- a file that is read has no fault by itself
read_encoding : OfFiles → (xs : List FileText) (fs : List FileTree) (f : Fault) → AreRead 0 xs fs → IsFirst IsEncodingFault xs f → ⊥
read_encoding law xs fs f h k =
    let r = read_first k.number xs fs k.file h k.there in
    law.none k.number k.file.bytes r.0.tokens.tokens r.0.tokens.comments f r.1.lexing (inl k.fails)

read_later : OfFiles → (xs : List FileText) (fs : List FileTree) (f : Fault) → AreRead 0 xs fs → IsFirst IsLaterFault xs f → ⊥
read_later law xs fs f h k =
    let r = read_first k.number xs fs k.file h k.there in
    law.none k.number k.file.bytes r.0.tokens.tokens r.0.tokens.comments f r.1.lexing (inr k.fails)

read_tree : OfFiles → (xs : List FileText) (fs : List FileTree) (f : Fault) → AreRead 0 xs fs → IsFirst IsTreeFault xs f → ⊥
read_tree law xs fs f h k =
    let r = read_first k.number xs fs k.file h k.there in
    let same = law.lexing k.number k.file.bytes r.0.tokens.tokens k.fails.tokens.tokens r.0.tokens.comments k.fails.tokens.comments r.1.lexing k.fails.lexing in
    k.fails.none (view r.0.root) (subst (λ ts. IsFile (kinds ts) (view r.0.root)) same.0 r.1.tree)

-- ---- from trees on

answered : List (List ℕ) → List FileTree → List Source → Result Typing Failure → Result Content Failure
answered names fs ss r = r >>= λ t. Ok (content_of names fs ss t)

abbrev as_err : Failure → Result Content Failure
as_err f = Err f

abbrev as_ok : Content → Result Content Failure
as_ok c = Ok c

same_fault : (g f : Failure) → as_err g ≡ as_err f → g ≡ f
same_fault g f e = grind (arith, e)

fault_behind : (names : List (List ℕ)) (fs : List FileTree) (ss : List Source) (r : Result Typing Failure) (f : Failure) → answered names fs ss r ≡ Err f → r ≡ Err f
unfolding answered
fault_behind names fs ss (Ok t) f e = absurd cc
fault_behind names fs ss (Err g) f e = ap Err (same_fault g f e)

one_fault : (r : Result Typing Failure) (f g : Failure) → r ≡ Err f → r ≡ Err g → f ≡ g
one_fault (Ok t) f g h k = absurd cc
one_fault (Err e) f g h k = grind (arith, h, k)

not_both : (names : List (List ℕ)) (fs : List FileTree) (ss : List Source) (r : Result Typing Failure) (c : Content) (f : Failure) → answered names fs ss r ≡ Ok c → r ≡ Err f → ⊥
unfolding answered
not_both names fs ss (Ok t) c f h k = cc
not_both names fs ss (Err g) c f h k = cc

same_ok : (c d : Content) → as_ok c ≡ as_ok d → c ≡ d
same_ok c d e = grind (arith, e)

abbrev with_files : Content → Content → Content
with_files c d = record c { files = d.files }

one_content : (names : List (List ℕ)) (fs gs : List FileTree) (ss : List Source) (r : Result Typing Failure) (c d : Content) → answered names fs ss r ≡ Ok c → answered names gs ss r ≡ Ok d → record c { files = d.files } ≡ d
unfolding answered
one_content names fs gs ss (Ok t) c d h k =
    let p : content_of names fs ss t ≡ c = same_ok (content_of names fs ss t) c h in
    let q : content_of names gs ss t ≡ d = same_ok (content_of names gs ss t) d k in
    ap (λ x. with_files x d) (sym p) ∙ ap (with_files (content_of names fs ss t)) (sym q) ∙ q
one_content names fs gs ss (Err e) c d h k = absurd cc

answer_on : List (List ℕ) → List FileTree → List Source → Result Content Failure
answer_on names fs ss = answered names fs ss (sources_answer ss)

later_fault : (xs : List FileText) (f : Failure) (h : IsLater xs f) → sources_answer (map source_of h.files) ≡ Err f
unfolding answered
later_fault xs f h = fault_behind (names_of xs) h.files (map source_of h.files) (sources_answer (map source_of h.files)) f h.answer

one_later : OfFiles → (xs : List FileText) (f g : Failure) → IsLater xs f → IsLater xs g → f ≡ g
one_later law xs f g h k =
    one_fault (sources_answer (map source_of k.files)) f g
    (subst (λ ss. sources_answer ss ≡ Err f) (one_reading law 0 xs h.files k.files h.read k.read) (later_fault xs f h))
    (later_fault xs g k)

good_later : OfFiles → (xs : List FileText) (c : Content) (f : Failure) → IsChecked xs c → IsLater xs f → ⊥
unfolding answered
good_later law xs c f h k =
    not_both (names_of xs) h.files (map source_of h.files) (sources_answer (map source_of h.files)) c f h.answer
    (subst (λ ss. sources_answer ss ≡ Err f) (one_reading law 0 xs k.files h.files k.read h.read) (later_fault xs f k))

same_content : OfFiles → (xs : List FileText) (c d : Content) → IsChecked xs c → IsChecked xs d → record c { files = d.files } ≡ d
unfolding answered answer_on
same_content law xs c d h k =
    one_content (names_of xs) h.files k.files (map source_of k.files) (sources_answer (map source_of k.files)) c d
    (subst (λ ss. answer_on (names_of xs) h.files ss ≡ Ok c) (one_reading law 0 xs h.files k.files h.read k.read) h.answer)
    k.answer

-- ---- all sorts together

abbrev ByFiles : FileRule → List FileText → Failure → Type 0
ByFiles rule xs g = (f : Fault) × (failure_of f ≡ g) × IsFirst rule xs f

one_by : (rule : FileRule) → IsSingle rule → (xs : List FileText) (f g : Failure) → ByFiles rule xs f → ByFiles rule xs g → f ≡ g
one_by rule one xs f g h k = sym h.1 ∙ one_first rule one xs h.0 k.0 h.2 k.2 ∙ k.1

one_report : OfFiles → (xs : List FileText) (f g : Failure) → IsReported xs f → IsReported xs g → f ≡ g
one_report law xs f g (encoding h) (encoding k) = one_by IsEncodingFault (single_encoding law) xs f g h k
one_report law xs f g (encoding h) (tokens k) = absurd (not_none IsEncodingFault xs h.0 k.0 h.2)
one_report law xs f g (encoding h) (trees k) = absurd (not_none IsEncodingFault xs h.0 k.0 h.2)
one_report law xs f g (encoding h) (later k) = absurd (read_encoding law xs k.files h.0 k.read h.2)
one_report law xs f g (tokens h) (encoding k) = absurd (not_none IsEncodingFault xs k.0 h.0 k.2)
one_report law xs f g (tokens h) (tokens k) = one_by IsLaterFault (single_later law) xs f g h.1 k.1
one_report law xs f g (tokens h) (trees k) = absurd (not_none IsLaterFault xs h.1.0 k.1 h.1.2)
one_report law xs f g (tokens h) (later k) = absurd (read_later law xs k.files h.1.0 k.read h.1.2)
one_report law xs f g (trees h) (encoding k) = absurd (not_none IsEncodingFault xs k.0 h.0 k.2)
one_report law xs f g (trees h) (tokens k) = absurd (not_none IsLaterFault xs k.1.0 h.1 k.1.2)
one_report law xs f g (trees h) (trees k) = one_by IsTreeFault (single_tree law) xs f g h.2 k.2
one_report law xs f g (trees h) (later k) = absurd (read_tree law xs k.files h.2.0 k.read h.2.2)
one_report law xs f g (later h) (encoding k) = absurd (read_encoding law xs h.files k.0 h.read k.2)
one_report law xs f g (later h) (tokens k) = absurd (read_later law xs h.files k.1.0 h.read k.1.2)
one_report law xs f g (later h) (trees k) = absurd (read_tree law xs h.files k.2.0 h.read k.2.2)
one_report law xs f g (later h) (later k) = one_later law xs f g h k

good_or_fault : OfFiles → (xs : List FileText) (c : Content) (f : Failure) → IsChecked xs c → IsReported xs f → ⊥
good_or_fault law xs c f h (encoding k) = read_encoding law xs h.files k.0 h.read k.2
good_or_fault law xs c f h (tokens k) = read_later law xs h.files k.1.0 h.read k.1.2
good_or_fault law xs c f h (trees k) = read_tree law xs h.files k.2.0 h.read k.2.2
good_or_fault law xs c f h (later k) = good_later law xs c f h k

pub single : OfFiles → (xs : List FileText) → HasOneAnswer xs
single law xs = record {
  fault = one_report law xs;
  good = λ f h k. good_or_fault law xs h.0 f h.1 k;
  content = same_content law xs;
}
