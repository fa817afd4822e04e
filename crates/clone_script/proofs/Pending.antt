-- What a reader knows of its pending bytes.
use Rattle.std.proofs.Common.{◌≡◌, ℕ, ◌+◌, ◌<◌, ◌≤◌, List, [], ◌++◌, length, take, drop, Result, Ok, Err, refl, sym, ap, subst, ◌∙◌, append_assoc, arith}
use Rattle.std.proofs.lemmas.List.{append-nil, length-append, drop-drop}
use Rattle.go_base.specs.Gives.{Unless}
use Rattle.clone_script.specs.declared.command.Command.{Command}
use Rattle.clone_script.specs.declared.error.ScriptError.{ScriptError}
use Rattle.clone_script.specs.declared.error.ScriptError.TheVariants as errors
use Rattle.clone_script.specs.Reading.{Refusal, bad, more, Read, script_refusal}
use Rattle.clone_script.specs.Commands.{command_at, command_of}
use Rattle.clone_script.specs.Grammar.{spelling, Spells, BeginsWith, IsBeginning}
use Rattle.clone_script.specs.Sizes.{Wants}
use Rattle.clone_script.proofs.CommandTexts.{command_reads}
use Rattle.clone_script.proofs.Outcomes.{counted, whole_begins}

pub wants_none : (bytes : List ℕ) → Wants 0 bytes
wants_none bytes = record { unfinished = λ later le. absurd (omega (arith, le)) }

pub wants_again : (size : ℕ) (bytes piece : List ℕ) → Wants size bytes → Wants size (bytes ++ piece)
wants_again size bytes piece w = record {
  unfinished = λ later le. subst IsBeginning (sym (append_assoc bytes piece later)) (w.unfinished (piece ++ later) (omega (arith, le, length-append bytes piece, length-append piece later)));
}

pub short_begins : (size : ℕ) (bytes : List ℕ) → Wants size bytes → length bytes < size → IsBeginning bytes
short_begins size bytes w le = subst IsBeginning (append-nil bytes) (w.unfinished [] (omega (arith, le)))

pub beginning_at : (bytes : List ℕ) → IsBeginning bytes → command_at bytes ≡ Err more
beginning_at bytes h = command_reads.short bytes h.2 h.1 h.0 h.3

pub begun_at : (bytes : List ℕ) (c : Command) (rest : List ℕ) → BeginsWith bytes c rest → command_at bytes ≡ Ok (c, rest)
begun_at bytes c rest h = ap command_at h.1 ∙ command_reads.again (spelling c) rest c (h.0, refl)

none_counted : (size : ℕ) (read : Read Command) (r : Refusal) → counted size read ≡ Err r → read ≡ Err r
none_counted size (Ok x) r e = absurd cc
none_counted size (Err d) r e = let same : d ≡ r = cc in ap (λ (z : Refusal). Err z) same

-- an error says the same of the command and of its length
pub same_refusal : (bytes : List ℕ) (e : ScriptError) → Unless (script_refusal e) (λ r. command_of bytes ≡ Err r) → Unless (script_refusal e) (λ r. command_at bytes ≡ Err r)
unfolding command_of
same_refusal bytes errors.Bad h = none_counted (length bytes) (command_at bytes) bad h
same_refusal bytes errors.Memory h = tt
same_refusal bytes errors.More h = none_counted (length bytes) (command_at bytes) more h

pub wants_is : (size : ℕ) (pending bytes : List ℕ) → pending ≡ bytes → ((later : List ℕ) → length pending + length later < size → IsBeginning (pending ++ later)) → Wants size bytes
wants_is size pending bytes e h = subst (λ (z : List ℕ). Wants size z) e (record { unfinished = h })

-- the command at the front of the pending bytes, and those behind it
pub begins_behind : (taken n : ℕ) (pending bytes items : List ℕ) (c : Command) → pending ≡ bytes → drop taken items ≡ bytes → (n ≤ length pending) × Spells (take n pending) c → BeginsWith bytes c (drop (taken + n) items)
begins_behind taken n pending bytes items c e is h =
    let behind : drop n pending ≡ drop (taken + n) items = ap (drop n) (e ∙ sym is) ∙ drop-drop n taken items in
    subst (λ (z : List ℕ). BeginsWith z c (drop (taken + n) items)) e (subst (λ (z : List ℕ). BeginsWith pending c z) behind (whole_begins pending c n h))

abbrev pub error_of : {A : Type 0} → ScriptError → Result A ScriptError
error_of e = Err e

-- an error of a call is one of its caller
pub same_error : {A B : Type 0} (e d : ScriptError) → error_of {A = A} e ≡ error_of {A = A} d → error_of {A = B} e ≡ error_of {A = B} d
same_error {A} {B} e d h = let same : e ≡ d = cc in ap (error_of {A = B}) same
