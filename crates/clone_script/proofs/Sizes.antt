-- How many bytes a command has, told by its line.
use Rattle.std.proofs.Common.{◌≡◌, ℕ, ◌+◌, ◌-◌, ◌^◌, ◌<◌, ◌≤◌, List, [], ◌∷◌, ◌++◌, length, Ok, Err, refl, sym, ap, ◌∙◌, append_assoc, arith}
use Rattle.std.proofs.lemmas.List.{append-nil, length-append}
use Rattle.std.specs.Fmt.{decimal}
use Rattle.go_base.specs.Gives.{◌>>=◌, Unless}
use Rattle.clone_script.specs.declared.command.Command.{Command}
use Rattle.clone_script.specs.declared.command.Command.TheVariants as command
use Rattle.clone_script.specs.declared.command.Keyword.{Keyword}
use Rattle.clone_script.specs.declared.command.Keyword.TheVariants as keyword
use Rattle.clone_script.specs.declared.error.ScriptError.{ScriptError}
use Rattle.clone_script.specs.declared.error.ScriptError.TheVariants as errors
use Rattle.clone_script.specs.Reading.{bad, more, Read, script_refusal, number_at, name_at, bytes_at}
use Rattle.clone_script.specs.Members.{most_number, blank, newline}
use Rattle.clone_script.specs.Commands.{most_turns, most_length, spelling_of, keywords, keyword_of, behind_keyword, command_at}
use Rattle.clone_script.specs.Grammar.{Fits, IsName, spelling, behind_line, IsBeginning}
use Rattle.clone_script.specs.Sizes.{size_behind, size_at}
use Rattle.clone_script.proofs.Readers.{Reads, then, bind_ok, pair_is}
use Rattle.clone_script.proofs.Numbers.{number_reads}
use Rattle.clone_script.proofs.Names.{name_reads}
use Rattle.clone_script.proofs.Texts.{bytes_short, bytes_read}
use Rattle.clone_script.proofs.CommandTexts.{keyword_reads, all_apart, is_keyword, blank_ends, parted, command_reads}
use Rattle.clone_script.proofs.Outcomes.{ways_apart}

-- ---- what is read from the front is read, whatever follows

record Stays {A : Type 0} (f : List ℕ → Read A) : Type 0 where
  pub same : (bytes later rest : List ℕ) (a : A) → f bytes ≡ Ok (a, rest) → f (bytes ++ later) ≡ Ok (a, rest ++ later)
  pub fewer : (bytes rest : List ℕ) (a : A) → f bytes ≡ Ok (a, rest) → length rest ≤ length bytes

reads_stays : {A : Type 0} (S : List ℕ → A → Type 0) (f : List ℕ → Read A) → Reads S f → Stays f
reads_stays S f r = record {
  same = λ bytes later rest a e.
      let x = r.found bytes rest a e in
      ap f (ap (λ (z : List ℕ). z ++ later) x.2 ∙ append_assoc x.0 rest later) ∙ r.again x.0 (rest ++ later) a x.1;
  fewer = λ bytes rest a e.
      let x = r.found bytes rest a e in
      omega (arith, ap length x.2, length-append x.0 rest);
}

then_stays : {A B : Type 0} (f : List ℕ → Read A) (g : A → List ℕ → Read B) → Stays f → ((a : A) → Stays (g a)) → Stays (then f g)
then_stays {A} {B} f g F G = record {
  same = λ bytes later rest b e.
      let h = bind_ok (f bytes) (λ x. g x.0 x.1) (b, rest) e in
      ap (λ (z : Read A). z >>= λ x. g x.0 x.1) (F.same bytes later h.0.1 h.0.0 h.1) ∙ (G h.0.0).same h.0.1 later rest b h.2;
  fewer = λ bytes rest b e.
      let h = bind_ok (f bytes) (λ x. g x.0 x.1) (b, rest) e in
      omega (arith, F.fewer bytes h.0.1 h.0.0 h.1, (G h.0.0).fewer h.0.1 rest b h.2);
}

bad_stays : {A : Type 0} → Stays {A = A} (λ bytes. Err bad)
bad_stays = record { same = λ bytes later rest a e. absurd cc; fewer = λ bytes rest a e. absurd cc }

name_stays : Stays (name_at blank)
name_stays = reads_stays _ (name_at blank) (name_reads blank blank_ends)

number_stays : Stays (number_at most_number blank)
number_stays = reads_stays _ (number_at most_number blank) (number_reads most_number blank (omega arith) (omega arith))

turns_stays : Stays (number_at most_turns blank)
turns_stays = reads_stays _ (number_at most_turns blank) (number_reads most_turns blank (omega arith) (omega arith))

length_stays : Stays (number_at most_length newline)
length_stays = reads_stays _ (number_at most_length newline) (number_reads most_length newline (omega arith) (omega arith))

behind_stays : (k : Keyword) → Stays (size_behind k)
unfolding size_behind
behind_stays keyword.Edit = then_stays (name_at blank) _ name_stays (λ name. then_stays (number_at most_number blank) _ number_stays (λ start. then_stays (number_at most_number blank) (λ end. number_at most_length newline) number_stays (λ end. length_stays)))
behind_stays keyword.Add = then_stays (name_at blank) (λ name. number_at most_length newline) name_stays (λ name. length_stays)
behind_stays keyword.Drop = bad_stays
behind_stays keyword.Classes = bad_stays
behind_stays keyword.Maximal = bad_stays
behind_stays keyword.Stat = bad_stays
behind_stays keyword.Extract = bad_stays
behind_stays keyword.Run = then_stays (number_at most_turns blank) (λ turns. number_at most_length newline) turns_stays (λ turns. length_stays)
behind_stays keyword.Show = bad_stays
behind_stays keyword.Save = bad_stays
behind_stays keyword.Quit = bad_stays

size_stays : Stays size_at
unfolding size_at
size_stays = then_stays (keyword_of keywords) size_behind (reads_stays _ (keyword_of keywords) (keyword_reads keywords all_apart)) behind_stays

-- ---- behind the line stand so many bytes and a newline

abbrev with_text : (List ℕ → Command) → Read (List ℕ) → Read Command
with_text make read = read >>= λ t. Ok (make t.0, t.1)

abbrev Made : Read Command → ℕ → List ℕ → Type 0
Made read size rest = (make : List ℕ → Command) × (read ≡ with_text make (bytes_at size rest))

edit_made : (bytes rest : List ℕ) (size : ℕ) (name : List ℕ × List ℕ) (start end : ℕ × List ℕ) → name_at blank bytes ≡ Ok name → number_at most_number blank name.1 ≡ Ok start → number_at most_number blank start.1 ≡ Ok end
    → number_at most_length newline end.1 ≡ Ok (size, rest) → behind_keyword keyword.Edit bytes ≡ with_text (λ text. command.Edit name.0 start.0 end.0 text) (bytes_at size rest)
unfolding behind_keyword
edit_made bytes rest size name start end first second third last = rw (first, second, third, last) refl

add_made : (bytes rest : List ℕ) (size : ℕ) (name : List ℕ × List ℕ) → name_at blank bytes ≡ Ok name → number_at most_length newline name.1 ≡ Ok (size, rest) → behind_keyword keyword.Add bytes ≡ with_text (λ text. command.Add name.0 text) (bytes_at size rest)
unfolding behind_keyword
add_made bytes rest size name first last = rw (first, last) refl

run_made : (bytes rest : List ℕ) (size : ℕ) (turns : ℕ × List ℕ) → number_at most_turns blank bytes ≡ Ok turns → number_at most_length newline turns.1 ≡ Ok (size, rest)
    → behind_keyword keyword.Run bytes ≡ with_text (λ text. command.Run turns.0 text) (bytes_at size rest)
unfolding behind_keyword
run_made bytes rest size turns first last = rw (first, last) refl

behind_made : (k : Keyword) (bytes rest : List ℕ) (size : ℕ) → size_behind k bytes ≡ Ok (size, rest) → Made (behind_keyword k bytes) size rest
unfolding size_behind
behind_made keyword.Edit bytes rest size e =
    let name = bind_ok (name_at blank bytes) _ (size, rest) e in
    let start = bind_ok (number_at most_number blank name.0.1) _ (size, rest) name.2 in
    let end = bind_ok (number_at most_number blank start.0.1) _ (size, rest) start.2 in
    ((λ text. command.Edit name.0.0 start.0.0 end.0.0 text), edit_made bytes rest size name.0 start.0 end.0 name.1 start.1 end.1 end.2)
behind_made keyword.Add bytes rest size e =
    let name = bind_ok (name_at blank bytes) _ (size, rest) e in
    ((λ text. command.Add name.0.0 text), add_made bytes rest size name.0 name.1 name.2)
behind_made keyword.Drop bytes rest size e = absurd cc
behind_made keyword.Classes bytes rest size e = absurd cc
behind_made keyword.Maximal bytes rest size e = absurd cc
behind_made keyword.Stat bytes rest size e = absurd cc
behind_made keyword.Extract bytes rest size e = absurd cc
behind_made keyword.Run bytes rest size e =
    let turns = bind_ok (number_at most_turns blank bytes) _ (size, rest) e in
    ((λ text. command.Run turns.0.0 text), run_made bytes rest size turns.0 turns.1 turns.2)
behind_made keyword.Show bytes rest size e = absurd cc
behind_made keyword.Save bytes rest size e = absurd cc
behind_made keyword.Quit bytes rest size e = absurd cc

made : (bytes rest : List ℕ) (size : ℕ) → size_at bytes ≡ Ok (size, rest) → Made (command_at bytes) size rest
unfolding size_at command_at
made bytes rest size e =
    let word = bind_ok (keyword_of keywords bytes) (λ x. size_behind x.0 x.1) (size, rest) e in
    let t = behind_made word.0.0 word.0.1 rest size word.2 in
    (t.0, ap (λ (z : Read Keyword). z >>= λ x. behind_keyword x.0 x.1) word.1 ∙ t.1)

-- ---- how many bytes there must be

abbrev pub size_of : List ℕ → ℕ → List ℕ → ℕ
size_of bytes size rest = (length bytes - length rest) + size + 1

pub fewer : (bytes rest : List ℕ) (size : ℕ) → size_at bytes ≡ Ok (size, rest) → length rest ≤ length bytes
fewer bytes rest size e = size_stays.fewer bytes rest size e

few_read : (size : ℕ) (rest : List ℕ) → bytes_at size rest ≡ Err more → length rest ≤ size
few_read size rest e =
    let t = (bytes_read size).ahead rest e in
    let long = length-append rest (t.1 ∷ t.2) in
    let text = length-append t.0 (10 ∷ []) in
    omega (arith, t.3.0, ap length t.3.1, long, text)

none_made : (make : List ℕ → Command) (read : Read (List ℕ)) → with_text make read ≡ Err more → read ≡ Err more
none_made make (Ok t) e = absurd cc
none_made make (Err bad) e = absurd cc
none_made make (Err more) e = refl

pub more_wanted : (bytes rest : List ℕ) (size : ℕ) → IsBeginning bytes → size_at bytes ≡ Ok (size, rest) → length bytes < size_of bytes size rest
more_wanted bytes rest size h e =
    let t = made bytes rest size e in
    let none : command_at bytes ≡ Err more = command_reads.short bytes h.2 h.1 h.0 h.3 in
    let few = few_read size rest (none_made t.0 (bytes_at size rest) (sym t.1 ∙ none)) in
    omega (arith, few, fewer bytes rest size e)

pub still_begins : (bytes rest later : List ℕ) (size : ℕ) → size_at bytes ≡ Ok (size, rest) → length bytes + length later < size_of bytes size rest → IsBeginning (bytes ++ later)
still_begins bytes rest later size e le =
    let t = made (bytes ++ later) (rest ++ later) size (size_stays.same bytes later rest size e) in
    let few : length (rest ++ later) ≤ size = omega (arith, length-append rest later, fewer bytes rest size e, le) in
    command_reads.ahead (bytes ++ later) (t.1 ∙ ap (with_text t.0) (bytes_short size (rest ++ later) few))

-- ---- a command's line, where it stands in the bytes

abbrev joined : List (List ℕ) → List ℕ → List ℕ
joined [] tail = tail
joined (field ∷ fields) tail = field ++ joined fields tail

joined_least : (fields : List (List ℕ)) (tail : List ℕ) → length tail ≤ length (joined fields tail)
joined_least [] tail = omega arith
joined_least (field ∷ fields) tail = omega (arith, length-append field (joined fields tail), joined_least fields tail)

past : (field tail bytes rest : List ℕ) → length rest ≤ length tail → bytes ++ rest ≡ field ++ tail → (part : List ℕ) × (bytes ≡ field ++ part) × (part ++ rest ≡ tail)
past [] tail bytes rest le e = (bytes, refl, e)
past (x ∷ xs) tail [] rest le e = absurd (omega (arith, le, ap length e, length-append xs tail))
past (x ∷ xs) tail (b ∷ bs) rest le e =
    let head : b ≡ x = cc in
    let behind : bs ++ rest ≡ xs ++ tail = cc in
    let t = past xs tail bs rest le behind in
    (t.0, ap (λ (z : ℕ). z ∷ bs) head ∙ ap (λ (z : List ℕ). x ∷ z) t.1, t.2)

past_all : (fields : List (List ℕ)) (tail bytes rest : List ℕ) → length rest ≤ length tail → bytes ++ rest ≡ joined fields tail → (part : List ℕ) × (bytes ≡ joined fields part) × (part ++ rest ≡ tail)
past_all [] tail bytes rest le e = (bytes, refl, e)
past_all (field ∷ fields) tail bytes rest le e =
    let one = past field (joined fields tail) bytes rest (omega (arith, le, joined_least fields tail)) e in
    let t = past_all fields tail one.0 rest le one.2 in
    (t.0, one.1 ∙ ap (λ (z : List ℕ). field ++ z) t.1, t.2)

word_front : (k : Keyword) (rest : List ℕ) → keyword_of keywords (spelling_of k ++ rest) ≡ Ok (k, rest)
word_front k rest = (keyword_reads keywords all_apart).again (spelling_of k) rest k (is_keyword k, refl)

name_front : (name rest : List ℕ) → IsName name → name_at blank (name ++ (blank ∷ rest)) ≡ Ok (name, rest)
name_front name rest h = ap (name_at blank) (parted name rest blank) ∙ (name_reads blank blank_ends).again (name ++ blank ∷ []) rest name (h, refl)

number_front : (limit end n : ℕ) (rest : List ℕ) → limit < 2 ^ 64 → end < 48 → n ≤ limit → number_at limit end (decimal n ++ (end ∷ rest)) ≡ Ok (n, rest)
number_front limit end n rest small low h = ap (number_at limit end) (parted (decimal n) rest end) ∙ (number_reads limit end small low).again (decimal n ++ end ∷ []) rest n (h, refl)

abbrev add_line : List ℕ → ℕ → List (List ℕ)
add_line name size = name ∷ (blank ∷ []) ∷ decimal size ∷ (newline ∷ []) ∷ []

abbrev edit_line : List ℕ → ℕ → ℕ → ℕ → List (List ℕ)
edit_line name start end size = name ∷ (blank ∷ []) ∷ decimal start ∷ (blank ∷ []) ∷ decimal end ∷ (blank ∷ []) ∷ decimal size ∷ (newline ∷ []) ∷ []

abbrev run_line : ℕ → ℕ → List (List ℕ)
run_line turns size = decimal turns ∷ (blank ∷ []) ∷ decimal size ∷ (newline ∷ []) ∷ []

run_size : (rest : List ℕ) (turns size : ℕ) → turns ≤ most_turns → size ≤ most_length → size_behind keyword.Run (joined (run_line turns size) rest) ≡ Ok (size, rest)
unfolding size_behind
run_size rest turns size h le =
    rw (number_front most_turns blank turns (decimal size ++ (newline ∷ rest)) (omega arith) (omega arith) h) (number_front most_length newline size rest (omega arith) (omega arith) le)

add_size : (name rest : List ℕ) (size : ℕ) → IsName name → size ≤ most_length → size_behind keyword.Add (joined (add_line name size) rest) ≡ Ok (size, rest)
unfolding size_behind
add_size name rest size h le =
    rw (name_front name (decimal size ++ (newline ∷ rest)) h) (number_front most_length newline size rest (omega arith) (omega arith) le)

edit_size : (name rest : List ℕ) (start end size : ℕ) → IsName name → start ≤ most_number → end ≤ most_number → size ≤ most_length → size_behind keyword.Edit (joined (edit_line name start end size) rest) ≡ Ok (size, rest)
unfolding size_behind
edit_size name rest start end size h first second le =
    let third = decimal size ++ (newline ∷ rest) in
    let behind = decimal end ++ (blank ∷ third) in
    rw (name_front name (decimal start ++ (blank ∷ behind)) h, number_front most_number blank start behind (omega arith) (omega arith) first, number_front most_number blank end third (omega arith) (omega arith) second)
    (number_front most_length newline size rest (omega arith) (omega arith) le)

size_front : (k : Keyword) (tail rest : List ℕ) (size : ℕ) → size_behind k tail ≡ Ok (size, rest) → size_at (spelling_of k ++ tail) ≡ Ok (size, rest)
unfolding size_at
size_front k tail rest size e = ap (λ (z : Read Keyword). z >>= λ x. size_behind x.0 x.1) (word_front k tail) ∙ e

-- the line tells how many bytes the command has
abbrev pub Told : List ℕ → ℕ → Type 0
Told bytes count = (size : ℕ) × (rest : List ℕ) × (size_at bytes ≡ Ok (size, rest)) × (size_of bytes size rest ≡ count)

told : (k : Keyword) (fields : List (List ℕ)) (text bytes rest whole : List ℕ) → ((part : List ℕ) → size_behind k (joined fields part) ≡ Ok (length text, part))
    → bytes ++ rest ≡ whole → whole ≡ joined (spelling_of k ∷ fields) (text ++ newline ∷ []) → length rest ≤ length text + 1 → Told bytes (length whole)
told k fields text bytes rest whole reads e spelled le =
    let size : length (text ++ newline ∷ []) ≡ length text + 1 = length-append text (newline ∷ []) in
    let t = past_all (spelling_of k ∷ fields) (text ++ newline ∷ []) bytes rest (omega (arith, le, size)) (e ∙ spelled) in
    let read : size_at bytes ≡ Ok (length text, t.0) = ap size_at t.1 ∙ size_front k (joined fields t.0) t.0 (length text) (reads t.0) in
    let all : length whole ≡ length bytes + length rest = ap length (sym e) ∙ length-append bytes rest in
    let part : length t.0 + length rest ≡ length text + 1 = sym (length-append t.0 rest) ∙ ap length t.2 ∙ size in
    (length text, t.0, read, omega (arith, all, part, fewer bytes t.0 (length text) read))

none_behind : (bytes rest : List ℕ) (c : Command) → IsBeginning bytes → Fits c → bytes ++ rest ≡ spelling c → length rest ≤ 0 → ⊥
none_behind bytes [] c h fits e le = ways_apart bytes c [] (fits, sym (append-nil bytes) ∙ e ∙ sym (append-nil (spelling c))) h
none_behind bytes (r ∷ rs) c h fits e le = omega (arith, le)

pub told_by_line : (c : Command) (bytes rest : List ℕ) → IsBeginning bytes → Fits c → bytes ++ rest ≡ spelling c → length rest ≤ behind_line c → Told bytes (length (spelling c))
told_by_line (command.Edit name start end text) bytes rest h fits e le =
    told keyword.Edit (edit_line name start end (length text)) text bytes rest (spelling (command.Edit name start end text)) (λ part. edit_size name part start end (length text) fits.0 fits.1 fits.2 fits.3) e refl le
told_by_line (command.Add name text) bytes rest h fits e le =
    told keyword.Add (add_line name (length text)) text bytes rest (spelling (command.Add name text)) (λ part. add_size name part (length text) fits.0 fits.1) e refl le
told_by_line (command.Remove name) bytes rest h fits e le = absurd (none_behind bytes rest (command.Remove name) h fits e le)
told_by_line command.Classes bytes rest h fits e le = absurd (none_behind bytes rest command.Classes h fits e le)
told_by_line command.Maximal bytes rest h fits e le = absurd (none_behind bytes rest command.Maximal h fits e le)
told_by_line (command.Run turns input) bytes rest h fits e le =
    told keyword.Run (run_line turns (length input)) input bytes rest (spelling (command.Run turns input)) (λ part. run_size part turns (length input) fits.0 fits.1) e refl le
told_by_line (command.Extract class name choice) bytes rest h fits e le = absurd (none_behind bytes rest (command.Extract class name choice) h fits e le)
told_by_line command.Stat bytes rest h fits e le = absurd (none_behind bytes rest command.Stat h fits e le)
told_by_line (command.Show name) bytes rest h fits e le = absurd (none_behind bytes rest (command.Show name) h fits e le)
told_by_line command.Save bytes rest h fits e le = absurd (none_behind bytes rest command.Save h fits e le)
told_by_line command.Quit bytes rest h fits e le = absurd (none_behind bytes rest command.Quit h fits e le)

pub told_is : (bytes rest : List ℕ) (size count : ℕ) → size_at bytes ≡ Ok (size, rest) → Told bytes count → size_of bytes size rest ≡ count
told_is bytes rest size count e t = let p = pair_is t.0 size t.1 rest (sym t.2 ∙ e) in omega (arith, t.3, p.0, ap length p.1)

-- the line is not whole
pub untold : (bytes : List ℕ) (count : ℕ) (e : ScriptError) → Unless (script_refusal e) (λ f. size_at bytes ≡ Err f) → (e ≡ errors.Memory → ⊥) → Told bytes count → ⊥
untold bytes count errors.Bad h m t = let is = t.2 in cc
untold bytes count errors.Memory h m t = m refl
untold bytes count errors.More h m t = let is = t.2 in cc
