-- Functions and variables in scopes that say the same at their tokens.
use Rattle.std.proofs.Common.{◌≡◌, ℕ, zero, suc, ◌+◌, ◌<◌, Bool, true, [], ◌∷◌, map, Option, Some, None, refl, ap, ◌∙◌, arith}
use Rattle.go_grammar.specs.Trees.{Tree, node, Trees, none, more, skip, last}
use Rattle.go_exprs_rules.specs.Faults.{judged, reported}
use Rattle.go_exprs_rules.specs.Scopes.{Scope, free}
use Rattle.go_exprs_rules.specs.Settling.{Part}
use Rattle.go_stmts_defs.specs.Bodies.{numbers_from, start, token_locals, signature_in, signature_part, signature_of, function_read, answer_of, body_answer}
use Rattle.go_stmts_defs.specs.Frames.{Frame}
use Rattle.go_stmts_defs.specs.Laying.{local_named}
use Rattle.go_stmts_defs.specs.Reading.{Reading, read, reading}
use Rattle.go_package_defs.specs.Bodies.{behind_read, function_in, tree_read, variables_by}
use Rattle.go_package_alike.specs.Frames.{MaybeTokens}
use Rattle.go_package_alike.specs.Scopes.{Says, said, SaidSame, SaySame, AllTokens, TokensIn}
use Rattle.go_package_alike.proofs.Framed.{framed, Fits}
use Rattle.go_package_alike.proofs.Reading.{framed_reading, reading_same}
use Rattle.go_package_alike.proofs.Said.{retold, is_told, local_at}
use Rattle.go_package_alike.proofs.Typing.{typed_same}

module _ (p : ℕ → Bool) (m : Says) (s : Scope) (a : SaidSame p (said s) m) where
  -- ---- what tokens name, and the signature

  locals_from : (k n : ℕ) → ((i : ℕ) → i < k + n → p i ≡ true) → map (λ i. local_named (m.objects i)) (numbers_from k n) ≡ map (λ i. local_named (s.objects i)) (numbers_from k n)
  locals_from k zero e = refl
  locals_from k (suc n) e =
      ap (λ x. x ∷ map (λ i. local_named (m.objects i)) (numbers_from (suc k) n)) (local_at (said s) m (s.objects k) (m.objects k) (a.objects k (e k (omega arith))))
      ∙ ap (λ xs. local_named (s.objects k) ∷ xs) (locals_from (suc k) n (λ i h. e i (omega (arith, h))))

  locals_same : (n : ℕ) → ((i : ℕ) → i < n → p i ≡ true) → token_locals (retold s m) n ≡ token_locals s n
  locals_same n e = locals_from 0 n (λ i h. e i (omega (arith, h)))

  signature_same : (ps : Trees) → TokensIn p ps → signature_part (retold s m) (signature_in ps) ≡ signature_part s (signature_in ps)
  signature_same none w = refl
  signature_same (more g ps) w = ap (λ x. Some x) (typed_same p m s free g a w.0)
  signature_same (skip ps) w = refl

  signature_of_same : (t : Tree) → AllTokens p t → signature_of (retold s m) t ≡ signature_of s t
  signature_of_same (node k i j ps) w = signature_same ps w.1

  -- ---- functions

  read_same : (number : ℕ) (t : Tree) (x : Part) (f : Frame) → ((i : ℕ) → i < last t → p i ≡ true) → AllTokens p t
      → function_read (retold s m) number (last t) (signature_of (retold s m) t) x (framed f m) ≡ function_read s number (last t) (signature_of s t) x f
  read_same number t x f e w =
      ap (λ g. function_read (retold s m) number (last t) g x f) (signature_of_same t w)
      ∙ ap (λ ns. record (function_read s number (last t) (signature_of s t) x f) { tokens = ns }) (locals_same (last t) e)

  behind_same : (number : ℕ) (t : Tree) (r : Reading) → ((i : ℕ) → i < last t → p i ≡ true) → AllTokens p t → behind_read (retold s m) number t (framed_reading m r) ≡ behind_read s number t r
  behind_same number t (read x fs f) e w = ap (λ c. judged (reported fs) (record { function = c; rights = f.around.rights })) (read_same number t x f e w)

  answer_same : (number : ℕ) (t : Tree) (r : Reading) → ((i : ℕ) → i < last t → p i ≡ true) → AllTokens p t → answer_of (retold s m) number t (framed_reading m r) ≡ answer_of s number t r
  answer_same number t (read x fs f) e w = ap (λ c. judged (reported fs) c) (read_same number t x f e w)

  starts : (count : ℕ) (types : ℕ → ℕ) → Fits p m (start s count types)
  starts count types = record { said_so = a; repeats = tt }

  body_same : (count : ℕ) (types : ℕ → ℕ) (t : Tree) → AllTokens p t → reading (start (retold s m) count types) free t ≡ framed_reading m (reading (start s count types) free t)
  body_same count types t w = reading_same p m (start s count types) free t (starts count types) w

  function_told : (number count : ℕ) (types : ℕ → ℕ) (t : Tree) → ((i : ℕ) → i < last t → p i ≡ true) → AllTokens p t → function_in (retold s m) number count types t ≡ function_in s number count types t
  function_told number count types t e w =
      ap (λ r. behind_read (retold s m) number t r) (body_same count types t w) ∙ behind_same number t (reading (start s count types) free t) e w

  answer_told : (number count : ℕ) (types : ℕ → ℕ) (t : Tree) → ((i : ℕ) → i < last t → p i ≡ true) → AllTokens p t → body_answer (retold s m) number count types t ≡ body_answer s number count types t
  answer_told number count types t e w =
      ap (λ r. answer_of (retold s m) number t r) (body_same count types t w) ∙ answer_same number t (reading (start s count types) free t) e w

  -- ---- variables

  tree_same : (r : Reading) → tree_read (framed_reading m r) ≡ tree_read r
  tree_same (read x fs f) = refl

  variables_told : (o : Option Tree) → MaybeTokens p o → variables_by (retold s m) o ≡ variables_by s o
  variables_told None w = refl
  variables_told (Some t) w = ap (λ r. tree_read r ∷ []) (body_same 0 (λ n. n) t w) ∙ ap (λ x. x ∷ []) (tree_same (reading (start s 0 (λ n. n)) free t))

pub function_same : (p : ℕ → Bool) (s t : Scope) (number count : ℕ) (types : ℕ → ℕ) (x : Tree) → SaySame p s t → ((i : ℕ) → i < last x → p i ≡ true) → AllTokens p x
    → function_in t number count types x ≡ function_in s number count types x
function_same p s t number count types x a e w = ap (λ z. function_in z number count types x) (is_told p s t a) ∙ function_told p (said t) s a.tokens number count types x e w

pub answers_same : (p : ℕ → Bool) (s t : Scope) (number count : ℕ) (types : ℕ → ℕ) (x : Tree) → SaySame p s t → ((i : ℕ) → i < last x → p i ≡ true) → AllTokens p x
    → body_answer t number count types x ≡ body_answer s number count types x
answers_same p s t number count types x a e w = ap (λ z. body_answer z number count types x) (is_told p s t a) ∙ answer_told p (said t) s a.tokens number count types x e w

pub variables_same : (p : ℕ → Bool) (s t : Scope) (x : Option Tree) → SaySame p s t → MaybeTokens p x → variables_by t x ≡ variables_by s x
variables_same p s t x a w = ap (λ z. variables_by z x) (is_told p s t a) ∙ variables_told p (said t) s a.tokens x w
