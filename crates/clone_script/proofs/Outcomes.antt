-- What the answer of a reading says of the bytes.
use Rattle.std.proofs.Common.{◌≡◌, ℕ, ◌⊎◌, ◌-◌, ◌+◌, ◌≤◌, List, [], ◌++◌, length, take, drop, inl, inr, Result, Ok, Err, refl, sym, ap, subst, ◌∙◌, arith}
use Rattle.std.specs.Prelude.{IfOk}
use Rattle.std.proofs.lemmas.List.{append-nil, take_at, length-append, take-append-drop}
use Rattle.go_base.specs.Gives.{◌>>=◌, Gives}
use Rattle.clone_script.specs.declared.command.Command.{Command}
use Rattle.clone_script.specs.declared.error.ScriptError.{ScriptError}
use Rattle.clone_script.specs.declared.error.ScriptError.TheVariants as errors
use Rattle.clone_script.specs.Reading.{Refusal, bad, more, Read, script_refusal}
use Rattle.clone_script.specs.Commands.{command_at, command_of, taken_view}
use Rattle.clone_script.specs.Grammar.{Fits, spelling, Spells, BeginsWith, IsBeginning, IsBad}
use Rattle.clone_script.proofs.Readers.{pair_is, bind_ok, bind_more}
use Rattle.clone_script.proofs.CommandTexts.{command_reads}

abbrev pub Answer : Type 0
Answer = Result (Command × ℕ) Refusal

abbrev pub counted : ℕ → Read Command → Answer
counted size read = read >>= λ x. Ok (x.0, size - length x.1)

pub begun_is : (bytes : List ℕ) (c : Command) (rest : List ℕ) → BeginsWith bytes c rest → command_of bytes ≡ Ok (c, length (spelling c))
unfolding command_of
begun_is bytes c rest h =
    let read : command_at bytes ≡ Ok (c, rest) = ap command_at h.1 ∙ command_reads.again (spelling c) rest c (h.0, refl) in
    let size : length bytes - length rest ≡ length (spelling c) = let e : length bytes ≡ length (spelling c) + length rest = ap length h.1 ∙ length-append (spelling c) rest in omega (arith, e) in
    ap (counted (length bytes)) read ∙ ap (λ (n : ℕ). Ok (c, n)) size

pub taken_is : (bytes : List ℕ) (c : Command) (n : ℕ) → command_of bytes ≡ Ok (c, n) → (n ≤ length bytes) × Spells (take n bytes) c
unfolding command_of
taken_is bytes c n e =
    let h = bind_ok (command_at bytes) (λ x. Ok (x.0, length bytes - length x.1)) (c, n) e in
    let t = command_reads.found bytes h.0.1 h.0.0 h.1 in
    let same : (h.0.0, length bytes - length h.0.1) ≡ (c, n) = cc in
    let command-is : h.0.0 ≡ c = ap (λ (p : Command × ℕ). p.0) same in
    let size-is : length bytes - length h.0.1 ≡ n = ap (λ (p : Command × ℕ). p.1) same in
    let long : length bytes ≡ length t.0 + length h.0.1 = ap length t.2 ∙ length-append t.0 h.0.1 in
    let size : length t.0 ≡ n = omega (arith, size-is, long) in
    let front : take n bytes ≡ t.0 = ap (take n) t.2 ∙ take_at t.0 h.0.1 n size in
    (omega (arith, size, long), subst (λ (s : List ℕ). Spells s c) (sym front) (subst (λ (d : Command). Spells t.0 d) command-is t.1))

pub beginning_is : (bytes : List ℕ) → IsBeginning bytes → command_of bytes ≡ Err more
unfolding command_of
beginning_is bytes h = ap (counted (length bytes)) (command_reads.short bytes h.2 h.1 h.0 h.3)

pub more_is : (bytes : List ℕ) → command_of bytes ≡ Err more → IsBeginning bytes
unfolding command_of
more_is bytes e =
    elim (bind_more (command_at bytes) (λ x. Ok (x.0, length bytes - length x.1)) e) [
      | inl w ↦ command_reads.ahead bytes w
      | inr w ↦ absurd cc
    ]

pub bad_is : (bytes : List ℕ) → command_of bytes ≡ Err bad → IsBad bytes
bad_is bytes e = record {
  begun = λ c rest h. let f = begun_is bytes c rest h in cc;
  part = λ h. let f = beginning_is bytes h in cc;
}

pub whole_begins : (bytes : List ℕ) (c : Command) (n : ℕ) → (n ≤ length bytes) × Spells (take n bytes) c → BeginsWith bytes c (drop n bytes)
whole_begins bytes c n h = (h.1.0, sym (take-append-drop n bytes) ∙ ap (λ (s : List ℕ). s ++ drop n bytes) h.1.1)

refused_by : (bytes : List ℕ) (a : Answer) → a ≡ command_of bytes → IsBad bytes → command_of bytes ≡ Err bad
refused_by bytes (Ok x) e h = absurd (h.begun x.0 (drop x.1 bytes) (whole_begins bytes x.0 x.1 (taken_is bytes x.0 x.1 (sym e))))
refused_by bytes (Err bad) e h = sym e
refused_by bytes (Err more) e h = absurd (h.part (more_is bytes (sym e)))

pub refused_is : (bytes : List ℕ) → IsBad bytes → command_of bytes ≡ Err bad
refused_is bytes h = refused_by bytes (command_of bytes) refl h

-- ---- no command begins another

pub one_command : (bytes : List ℕ) (c d : Command) (x y : List ℕ) → BeginsWith bytes c x → BeginsWith bytes d y → (c ≡ d) × (x ≡ y)
one_command bytes c d x y h k =
    let first : command_at bytes ≡ Ok (c, x) = ap command_at h.1 ∙ command_reads.again (spelling c) x c (h.0, refl) in
    let second : command_at bytes ≡ Ok (d, y) = ap command_at k.1 ∙ command_reads.again (spelling d) y d (k.0, refl) in
    pair_is c d x y (sym first ∙ second)

pub prefix_free : (c d : Command) (rest : List ℕ) → Fits c → Fits d → spelling c ≡ spelling d ++ rest → rest ≡ []
prefix_free c d rest h k e = sym (one_command (spelling c) c d [] rest (h, sym (append-nil (spelling c))) (k, e)).1

pub spelled_once : (bytes : List ℕ) (c d : Command) → Spells bytes c → Spells bytes d → c ≡ d
spelled_once bytes c d h k = (one_command bytes c d [] [] (h.0, h.1 ∙ sym (append-nil (spelling c))) (k.0, k.1 ∙ sym (append-nil (spelling d)))).0

-- ---- one of three

way_of : (bytes : List ℕ) (a : Answer) → command_of bytes ≡ a → ((c : Command) × (rest : List ℕ) × BeginsWith bytes c rest) ⊎ (IsBeginning bytes ⊎ IsBad bytes)
way_of bytes (Ok x) e = inl (x.0, drop x.1 bytes, whole_begins bytes x.0 x.1 (taken_is bytes x.0 x.1 e))
way_of bytes (Err bad) e = inr (inr (bad_is bytes e))
way_of bytes (Err more) e = inr (inl (more_is bytes e))

pub three_ways : (bytes : List ℕ) → ((c : Command) × (rest : List ℕ) × BeginsWith bytes c rest) ⊎ (IsBeginning bytes ⊎ IsBad bytes)
three_ways bytes = way_of bytes (command_of bytes) refl

pub ways_apart : (bytes : List ℕ) (c : Command) (rest : List ℕ) → BeginsWith bytes c rest → IsBeginning bytes → ⊥
ways_apart bytes c rest h k =
    let first = begun_is bytes c rest h in
    let second = beginning_is bytes k in
    cc

-- ---- the same of the answer of a call

abbrev Call : Type 0
Call = Result (Command × ℕ) ScriptError

pub call_found : (bytes : List ℕ) (r : Call) → Gives taken_view script_refusal r (command_of bytes) → IfOk r (λ x. (x.1 ≤ length bytes) × Spells (take x.1 bytes) x.0)
call_found bytes (Ok x) h = taken_is bytes x.0 x.1 h
call_found bytes (Err e) h = tt

pub call_bad : (bytes : List ℕ) (r : Call) → Gives taken_view script_refusal r (command_of bytes) → r ≡ Err errors.Bad → IsBad bytes
call_bad bytes r h e = bad_is bytes (subst (λ (s : Call). Gives taken_view script_refusal s (command_of bytes)) e h)

pub call_more : (bytes : List ℕ) (r : Call) → Gives taken_view script_refusal r (command_of bytes) → r ≡ Err errors.More → IsBeginning bytes
call_more bytes r h e = more_is bytes (subst (λ (s : Call). Gives taken_view script_refusal s (command_of bytes)) e h)

pub call_is : (bytes : List ℕ) (r : Call) (a : Answer) → Gives taken_view script_refusal r (command_of bytes) → command_of bytes ≡ a → Gives taken_view script_refusal r a
call_is bytes r a h e = subst (λ (z : Answer). Gives taken_view script_refusal r z) e h
