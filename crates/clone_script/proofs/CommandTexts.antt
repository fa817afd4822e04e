-- A command is read from its spelling and from nothing else.
use Rattle.std.proofs.Common.{◌≡◌, ℕ, zero, suc, ◌+◌, ◌<◌, ◌≤◌, ◌⊎◌, inl, inr, true, false, eqb, List, [], ◌∷◌, ◌++◌, length, None, Ok, Err, refl, sym, ap, subst, ◌∙◌, append_assoc, arith}
use Rattle.std.specs.Prelude.{codes}
use Rattle.std.proofs.lemmas.List.{append-nil, length-append}
use Rattle.std.proofs.lemmas.Fmt.{length-decimal-le}
use Rattle.std.proofs.lemmas.Bool.{eqb-true}
use Rattle.std.specs.Fmt.{decimal}
use Rattle.go_base.specs.Gives.{◌>>=◌}
use Rattle.clone_script.specs.declared.command.Command.{Command}
use Rattle.clone_script.specs.declared.command.Command.TheVariants as command
use Rattle.clone_script.specs.declared.command.Keyword.{Keyword}
use Rattle.clone_script.specs.declared.command.Keyword.TheVariants as keyword
use Rattle.clone_script.specs.Reading.{bad, more, Read, first_byte, literal_at, number_at, name_from, name_at, bytes_at}
use Rattle.clone_script.specs.declared.choice.Choice.{Choice}
use Rattle.clone_script.specs.declared.choice.Choice.TheVariants as choice
use Rattle.clone_script.specs.Members.{most_number, blank, newline, numbers_at, choice_at}
use Rattle.clone_script.specs.Commands.{most_turns, most_length, most_line, spelling_of, keywords, keyword_of, room_behind, behind_keyword, command_at}
use Rattle.clone_script.specs.Grammar.{IsName, AreNumbers, AreChosen, numbers_text, choice_text, extract_line, spelling, Spells}
use Rattle.clone_script.proofs.Readers.{Reads, reads_as, Then, then, then_reads, Only, only_reads, Either, or_reads, none_reads, none_left, pair_is}
use Rattle.clone_script.proofs.Numbers.{chosen, IsNumberText, number_reads}
use Rattle.clone_script.proofs.Names.{IsNameText, name_reads}
use Rattle.clone_script.proofs.Members.{IsNumbersText, numbers_read, begins_with_digit}
use Rattle.clone_script.proofs.Texts.{IsBytesText, bytes_read}

-- ---- keywords

same_byte : (x : ℕ) → eqb x x ≡ true
same_byte x = grind arith

literal_again : (w rest : List ℕ) → literal_at w (w ++ rest) ≡ Ok (tt, rest)
unfolding literal_at
literal_again [] rest = refl
literal_again (x ∷ xs) rest = rw (same_byte x) (literal_again xs rest)

literal_found : (w bytes rest : List ℕ) (u : Unit {0}) → literal_at w bytes ≡ Ok (u, rest) → bytes ≡ w ++ rest
unfolding literal_at
literal_found [] bytes rest u e = (pair_is tt u bytes rest e).1
literal_found (x ∷ xs) [] rest u e = absurd cc
literal_found (x ∷ xs) (b ∷ bs) rest u e =
    elim (chosen (eqb b x) (literal_at xs bs) (Err bad) (Ok (u, rest)) e) [
      | inl w ↦ ap (λ (z : ℕ). z ∷ bs) (eqb-true b x w.0) ∙ ap (λ (z : List ℕ). x ∷ z) (literal_found xs bs rest u w.1)
      | inr w ↦ absurd cc
    ]

literal_more : (w bytes : List ℕ) → literal_at w bytes ≡ Err more → (c : ℕ) × (q : List ℕ) × (bytes ++ c ∷ q ≡ w)
unfolding literal_at
literal_more [] bytes e = absurd cc
literal_more (x ∷ xs) [] e = (x, xs, refl)
literal_more (x ∷ xs) (b ∷ bs) e =
    elim (chosen (eqb b x) (literal_at xs bs) (Err bad) (Err more) e) [
      | inl w ↦ let t = literal_more xs bs w.1 in (t.0, t.1, ap (λ (z : ℕ). z ∷ (bs ++ t.0 ∷ t.1)) (eqb-true b x w.0) ∙ ap (λ (z : List ℕ). x ∷ z) t.2)
      | inr w ↦ absurd cc
    ]

literal_short : (w bytes q : List ℕ) (c : ℕ) → bytes ++ c ∷ q ≡ w → literal_at w bytes ≡ Err more
unfolding literal_at
literal_short [] bytes q c e = absurd (none_left bytes q c e)
literal_short (x ∷ xs) [] q c e = refl
literal_short (x ∷ xs) (b ∷ bs) q c e =
    let head : b ≡ x = cc in
    let tail : bs ++ c ∷ q ≡ xs = cc in
    rw (head, same_byte x) (literal_short xs bs q c tail)

abbrev IsLiteral : List ℕ → List ℕ → Unit {0} → Type 0
IsLiteral w s u = s ≡ w

literal_reads : (w : List ℕ) → Reads (IsLiteral w) (literal_at w)
literal_reads w = record {
  again = λ s rest u t. ap (λ (z : List ℕ). literal_at w (z ++ rest)) t ∙ literal_again w rest;
  found = λ bytes rest u e. (w, refl, literal_found w bytes rest u e);
  ahead = λ bytes e. let t = literal_more w bytes e in (tt, t.0, t.1, t.2);
  short = λ bytes q c u t. literal_short w bytes q c t;
}

abbrev IsWord : Keyword → List ℕ → Keyword → Type 0
IsWord k s j = (j ≡ k) × (s ≡ spelling_of k)

abbrev word_at : Keyword → List ℕ → Read Keyword
word_at k bytes = literal_at (spelling_of k) bytes >>= λ x. Ok (k, x.1)

word_reads : (k : Keyword) → Reads (IsWord k) (word_at k)
word_reads k = reads_as (Then (IsLiteral (spelling_of k)) (λ u. Only k)) (IsWord k) (word_at k)
    (then_reads (IsLiteral (spelling_of k)) (λ u. Only k) (literal_at (spelling_of k)) (λ u rest. Ok (k, rest)) (literal_reads (spelling_of k)) (λ u. only_reads k) (λ u. ([], k, (refl, refl))))
    (λ s j t. (t.4.1, t.5 ∙ rw (t.3, t.4.0) (append-nil (spelling_of k))))
    (λ s j t. (tt, s, [], t.1, (refl, t.0), sym (append-nil s)))

abbrev pub IsIn : Keyword → List Keyword → Type 0
IsIn k [] = ⊥
IsIn k (j ∷ js) = (k ≡ j) ⊎ IsIn k js

-- no spelling of the others begins as that of the first does, or the other way round
abbrev pub Apart : Keyword → List Keyword → Type 0
Apart k [] = Unit {0}
Apart k (j ∷ js) = ((rest : List ℕ) → literal_at (spelling_of k) (spelling_of j ++ rest) ≡ Err bad) × Apart k js

abbrev pub AreApart : List Keyword → Type 0
AreApart [] = Unit {0}
AreApart (k ∷ ks) = Apart k ks × AreApart ks

apart_at : (k j : Keyword) (ks : List Keyword) (rest : List ℕ) → Apart k ks → IsIn j ks → literal_at (spelling_of k) (spelling_of j ++ rest) ≡ Err bad
apart_at k j [] rest h i = absurd i
apart_at k j (l ∷ ls) rest h i =
    elim i [
      | inl w ↦ ap (λ (z : Keyword). literal_at (spelling_of k) (spelling_of z ++ rest)) w ∙ h.0 rest
      | inr w ↦ apart_at k j ls rest h.1 w
    ]

abbrev pub IsKeyword : List Keyword → List ℕ → Keyword → Type 0
IsKeyword ks s k = IsIn k ks × (s ≡ spelling_of k)

pub keyword_reads : (ks : List Keyword) → AreApart ks → Reads (IsKeyword ks) (keyword_of ks)
unfolding keyword_of
keyword_reads [] h = reads_as (λ (s : List ℕ) (k : Keyword). ⊥) (IsKeyword []) (keyword_of []) none_reads (λ s k t. absurd t) (λ s k t. absurd t.0)
keyword_reads (k ∷ ks) h = reads_as (Either (IsWord k) (IsKeyword ks)) (IsKeyword (k ∷ ks)) (keyword_of (k ∷ ks))
    (or_reads (IsWord k) (IsKeyword ks) (word_at k) (keyword_of ks) (word_reads k) (keyword_reads ks h.1)
    (λ s rest j t. ap (λ (z : List ℕ). word_at k (z ++ rest)) t.1 ∙ ap (λ (z : Read (Unit {0})). z >>= λ x. Ok (k, x.1)) (apart_at k j ks rest h.0 t.0)))
    (λ s j t. elim t [ inl w ↦ (inl w.0, w.1 ∙ sym (ap spelling_of w.0)) | inr w ↦ (inr w.0, w.1) ])
    (λ s j t. elim t.0 [ inl w ↦ inl (w, t.1 ∙ ap spelling_of w) | inr w ↦ inr (w, t.1) ])

pub all_apart : AreApart keywords
unfolding literal_at
all_apart = (
  (λ rest. refl, (λ rest. refl, (λ rest. refl, (λ rest. refl, (λ rest. refl, (λ rest. refl, (λ rest. refl, (λ rest. refl, (λ rest. refl, (λ rest. refl, tt)))))))))),
  (
    (λ rest. refl, (λ rest. refl, (λ rest. refl, (λ rest. refl, (λ rest. refl, (λ rest. refl, (λ rest. refl, (λ rest. refl, (λ rest. refl, tt))))))))),
    (
      (λ rest. refl, (λ rest. refl, (λ rest. refl, (λ rest. refl, (λ rest. refl, (λ rest. refl, (λ rest. refl, (λ rest. refl, tt)))))))),
      (
        (λ rest. refl, (λ rest. refl, (λ rest. refl, (λ rest. refl, (λ rest. refl, (λ rest. refl, (λ rest. refl, tt))))))),
        (
          (λ rest. refl, (λ rest. refl, (λ rest. refl, (λ rest. refl, (λ rest. refl, (λ rest. refl, tt)))))),
          (
            (λ rest. refl, (λ rest. refl, (λ rest. refl, (λ rest. refl, (λ rest. refl, tt))))),
            (
              (λ rest. refl, (λ rest. refl, (λ rest. refl, (λ rest. refl, tt)))),
              (
                (λ rest. refl, (λ rest. refl, (λ rest. refl, tt))),
                (
                  (λ rest. refl, (λ rest. refl, tt)),
                  (
                    (λ rest. refl, tt),
                    (
                      tt,
                      tt,
                    ),
                  ),
                ),
              ),
            ),
          ),
        ),
      ),
    ),
  ),
)

pub is_keyword : (k : Keyword) → IsIn k keywords
is_keyword keyword.Edit = inl refl
is_keyword keyword.Add = inr (inl refl)
is_keyword keyword.Drop = inr (inr (inl refl))
is_keyword keyword.Classes = inr (inr (inr (inl refl)))
is_keyword keyword.Maximal = inr (inr (inr (inr (inl refl))))
is_keyword keyword.Stat = inr (inr (inr (inr (inr (inl refl)))))
is_keyword keyword.Extract = inr (inr (inr (inr (inr (inr (inl refl))))))
is_keyword keyword.Run = inr (inr (inr (inr (inr (inr (inr (inl refl)))))))
is_keyword keyword.Show = inr (inr (inr (inr (inr (inr (inr (inr (inl refl))))))))
is_keyword keyword.Save = inr (inr (inr (inr (inr (inr (inr (inr (inr (inl refl)))))))))
is_keyword keyword.Quit = inr (inr (inr (inr (inr (inr (inr (inr (inr (inr (inl refl))))))))))

-- ---- what stands behind a keyword

-- A reader that wants more where nothing is left reads something.
some_of : {A : Type 0} (S : List ℕ → A → Type 0) (f : List ℕ → Read A) → Reads S f → f [] ≡ Err more → (s : List ℕ) × (a : A) × S s a
some_of S f r e = let t = r.ahead [] e in (t.1 ∷ t.2, t.0, t.3)

bytes_none : (n : ℕ) → bytes_at n [] ≡ Err more
unfolding bytes_at
bytes_none zero = refl
bytes_none (suc n) = refl

number_none : (limit end : ℕ) → number_at limit end [] ≡ Err more
unfolding number_at
number_none limit end = refl

name_none : (end : ℕ) → name_at end [] ≡ Err more
unfolding name_at name_from
name_none end = refl

then_none : {A B : Type 0} (f : List ℕ → Read A) (g : A → List ℕ → Read B) → f [] ≡ Err more → then f g [] ≡ Err more
then_none {A} f g e = ap (λ (z : Read A). z >>= λ x. g x.0 x.1) e

-- the bytes that end the command
abbrev Ended : (List ℕ → Command) → ℕ → List ℕ → Command → Type 0
Ended make size = Then (IsBytesText size) (λ text. Only (make text))

abbrev ended_at : (List ℕ → Command) → ℕ → List ℕ → Read Command
ended_at make size = then (bytes_at size) (λ text rest. Ok (make text, rest))

ended_reads : (make : List ℕ → Command) (size : ℕ) → Reads (Ended make size) (ended_at make size)
ended_reads make size = then_reads (IsBytesText size) (λ text. Only (make text)) (bytes_at size) (λ text rest. Ok (make text, rest)) (bytes_read size) (λ text. only_reads (make text)) (λ text. ([], make text, (refl, refl)))

-- their number before them
abbrev Sized : (List ℕ → Command) → List ℕ → Command → Type 0
Sized make = Then (IsNumberText most_length newline) (λ size. Ended make size)

abbrev sized_at : (List ℕ → Command) → List ℕ → Read Command
sized_at make = then (number_at most_length newline) (λ size. ended_at make size)

sized_reads : (make : List ℕ → Command) → Reads (Sized make) (sized_at make)
sized_reads make = then_reads (IsNumberText most_length newline) (λ size. Ended make size) (number_at most_length newline) (λ size. ended_at make size)
    (number_reads most_length newline (omega arith) (omega arith)) (λ size. ended_reads make size)
    (λ size. some_of (Ended make size) (ended_at make size) (ended_reads make size) (then_none (bytes_at size) (λ text rest. Ok (make text, rest)) (bytes_none size)))

sized_some : (make : List ℕ → Command) → (s : List ℕ) × (c : Command) × Sized make s c
sized_some make = some_of (Sized make) (sized_at make) (sized_reads make) (then_none (number_at most_length newline) (λ size. ended_at make size) (number_none most_length newline))

-- a number and a blank before what depends on it
abbrev Counted : (ℕ → List ℕ → Command → Type 0) → List ℕ → Command → Type 0
Counted T = Then (IsNumberText most_number blank) T

abbrev counted_at : (ℕ → List ℕ → Read Command) → List ℕ → Read Command
counted_at g = then (number_at most_number blank) g

counted_reads : (T : ℕ → List ℕ → Command → Type 0) (g : ℕ → List ℕ → Read Command) → ((n : ℕ) → Reads (T n) (g n)) → ((n : ℕ) → (s : List ℕ) × (c : Command) × T n s c) → Reads (Counted T) (counted_at g)
counted_reads T g r some = then_reads (IsNumberText most_number blank) T (number_at most_number blank) g (number_reads most_number blank (omega arith) (omega arith)) r some

counted_some : (T : ℕ → List ℕ → Command → Type 0) (g : ℕ → List ℕ → Read Command) → Reads (Counted T) (counted_at g) → (s : List ℕ) × (c : Command) × Counted T s c
counted_some T g r = some_of (Counted T) (counted_at g) r (then_none (number_at most_number blank) g (number_none most_number blank))

-- a name before what depends on it
abbrev Named : ℕ → (List ℕ → List ℕ → Command → Type 0) → List ℕ → Command → Type 0
Named end T = Then (IsNameText end) T

abbrev named_at : ℕ → (List ℕ → List ℕ → Read Command) → List ℕ → Read Command
named_at end g = then (name_at end) g

named_some : (end : ℕ) (T : List ℕ → List ℕ → Command → Type 0) (g : List ℕ → List ℕ → Read Command) → Reads (Named end T) (named_at end g) → (s : List ℕ) × (c : Command) × Named end T s c
named_some end T g r = some_of (Named end T) (named_at end g) r (then_none (name_at end) g (name_none end))

pub blank_ends : first_byte blank ≡ None
unfolding first_byte
blank_ends = refl

newline_ends : first_byte newline ≡ None
unfolding first_byte
newline_ends = refl

-- ---- which members `extract` takes

abbrev IsAll : List ℕ → Choice → Type 0
IsAll = Then (IsLiteral (codes "all\n")) (λ u. Only choice.All)

abbrev all_at : List ℕ → Read Choice
all_at bytes = literal_at (codes "all\n") bytes >>= λ x. Ok (choice.All, x.1)

all_reads : Reads IsAll all_at
all_reads = then_reads (IsLiteral (codes "all\n")) (λ u. Only choice.All) (literal_at (codes "all\n")) (λ u rest. Ok (choice.All, rest)) (literal_reads (codes "all\n")) (λ u. only_reads choice.All) (λ u. ([], choice.All, (refl, refl)))

abbrev AreListed : ℕ → List ℕ → Choice → Type 0
AreListed room = Then (IsNumbersText room) (λ ns. Only (choice.Members ns))

abbrev listed_at : ℕ → List ℕ → Read Choice
listed_at room bytes = numbers_at room bytes >>= λ x. Ok (choice.Members x.0, x.1)

listed_reads : (room : ℕ) → Reads (AreListed room) (listed_at room)
listed_reads room = then_reads (IsNumbersText room) (λ ns. Only (choice.Members ns)) (numbers_at room) (λ ns rest. Ok (choice.Members ns, rest)) (numbers_read room) (λ ns. only_reads (choice.Members ns)) (λ ns. ([], choice.Members ns, (refl, refl)))

not_all : (d : ℕ) (xs : List ℕ) → d ≤ 57 → all_at (d ∷ xs) ≡ Err bad
unfolding literal_at
not_all d xs h = let e : eqb d 97 ≡ false = grind arith in rw e refl

listed_not_all : (room : ℕ) (s rest : List ℕ) (c : Choice) → AreListed room s c → all_at (s ++ rest) ≡ Err bad
listed_not_all room s rest c t =
    let h = begins_with_digit room t.1 t.0 t.3 in
    ap (λ (z : List ℕ). all_at (z ++ rest)) (t.5 ∙ ap (λ (z : List ℕ). z ++ t.2) h.2) ∙ not_all h.0 ((h.1 ++ t.2) ++ rest) h.3

abbrev IsChoiceText : ℕ → List ℕ → Choice → Type 0
IsChoiceText room s choice.All = s ≡ codes "all\n"
IsChoiceText room s (choice.Members ns) = IsNumbersText room s ns

from_all : (room : ℕ) (s : List ℕ) (c : Choice) → IsAll s c → IsChoiceText room s c
from_all room s c t = subst (IsChoiceText room s) (sym t.4.1) (t.5 ∙ rw (t.3, t.4.0) refl)

from_listed : (room : ℕ) (s : List ℕ) (c : Choice) → AreListed room s c → IsChoiceText room s c
from_listed room s c t =
    let same : t.1 ≡ s = sym (t.5 ∙ ap (λ (z : List ℕ). t.1 ++ z) t.4.0 ∙ append-nil t.1) in
    subst (IsChoiceText room s) (sym t.4.1) (subst (λ (z : List ℕ). IsNumbersText room z t.0) same t.3)

to_choice : (room : ℕ) (s : List ℕ) (c : Choice) → IsChoiceText room s c → Either IsAll (AreListed room) s c
to_choice room s choice.All t = inl (tt, s, [], t, (refl, refl), sym (append-nil s))
to_choice room s (choice.Members ns) t = inr (ns, s, [], t, (refl, refl), sym (append-nil s))

choice_reads : (room : ℕ) → Reads (IsChoiceText room) (choice_at room)
unfolding choice_at
choice_reads room = reads_as (Either IsAll (AreListed room)) (IsChoiceText room) (choice_at room)
    (or_reads IsAll (AreListed room) all_at (listed_at room) all_reads (listed_reads room) (λ s rest c t. listed_not_all room s rest c t))
    (λ s c t. elim t [ inl w ↦ from_all room s c w | inr w ↦ from_listed room s c w ])
    (λ s c t. to_choice room s c t)

-- a choice at the end of the line of `extract`
abbrev Picked : ℕ → List ℕ → List ℕ → Command → Type 0
Picked class name = Then (IsChoiceText (room_behind class name)) (λ c. Only (command.Extract class name c))

abbrev picked_at : ℕ → List ℕ → List ℕ → Read Command
picked_at class name = then (choice_at (room_behind class name)) (λ c rest. Ok (command.Extract class name c, rest))

picked_reads : (class : ℕ) (name : List ℕ) → Reads (Picked class name) (picked_at class name)
picked_reads class name = then_reads (IsChoiceText (room_behind class name)) (λ c. Only (command.Extract class name c)) (choice_at (room_behind class name)) (λ c rest. Ok (command.Extract class name c, rest))
    (choice_reads (room_behind class name)) (λ c. only_reads (command.Extract class name c)) (λ c. ([], command.Extract class name c, (refl, refl)))

picked_some : (class : ℕ) (name : List ℕ) → (s : List ℕ) × (c : Command) × Picked class name s c
picked_some class name = (codes "all\n", command.Extract class name choice.All, (choice.All, codes "all\n", [], refl, (refl, refl), refl))

extract_name_reads : (class : ℕ) → Reads (Named blank (λ name. Picked class name)) (named_at blank (λ name. picked_at class name))
extract_name_reads class = then_reads (IsNameText blank) (λ name. Picked class name) (name_at blank) (λ name. picked_at class name) (name_reads blank blank_ends) (λ name. picked_reads class name) (λ name. picked_some class name)

abbrev Tail : Keyword → List ℕ → Command → Type 0
Tail keyword.Edit = Named blank (λ name. Counted (λ start. Counted (λ end. Sized (λ text. command.Edit name start end text))))
Tail keyword.Add = Named blank (λ name. Sized (λ text. command.Add name text))
Tail keyword.Drop = Named newline (λ name. Only (command.Remove name))
Tail keyword.Classes = Only command.Classes
Tail keyword.Maximal = Only command.Maximal
Tail keyword.Stat = Only command.Stat
Tail keyword.Extract = Counted (λ class. Named blank (λ name. Picked class name))
Tail keyword.Run = Then (IsNumberText most_turns blank) (λ turns. Sized (λ text. command.Run turns text))
Tail keyword.Show = Named newline (λ name. Only (command.Show name))
Tail keyword.Save = Only command.Save
Tail keyword.Quit = Only command.Quit

edit_reads : Reads (Tail keyword.Edit) (named_at blank (λ name. counted_at (λ start. counted_at (λ end. sized_at (λ text. command.Edit name start end text)))))
edit_reads =
    let third : (name : List ℕ) (start : ℕ) → Reads (Counted (λ end. Sized (λ text. command.Edit name start end text))) (counted_at (λ end. sized_at (λ text. command.Edit name start end text)))
    = λ name start. counted_reads (λ end. Sized (λ text. command.Edit name start end text)) (λ end. sized_at (λ text. command.Edit name start end text)) (λ end. sized_reads (λ text. command.Edit name start end text)) (λ end. sized_some (λ text. command.Edit name start end text)) in
    let second : (name : List ℕ) → Reads (Counted (λ start. Counted (λ end. Sized (λ text. command.Edit name start end text)))) (counted_at (λ start. counted_at (λ end. sized_at (λ text. command.Edit name start end text))))
    = λ name. counted_reads (λ start. Counted (λ end. Sized (λ text. command.Edit name start end text))) (λ start. counted_at (λ end. sized_at (λ text. command.Edit name start end text))) (third name)
    (λ start. counted_some (λ end. Sized (λ text. command.Edit name start end text)) (λ end. sized_at (λ text. command.Edit name start end text)) (third name start)) in
    then_reads (IsNameText blank) (λ name. Counted (λ start. Counted (λ end. Sized (λ text. command.Edit name start end text)))) (name_at blank) (λ name. counted_at (λ start. counted_at (λ end. sized_at (λ text. command.Edit name start end text))))
    (name_reads blank blank_ends) second
    (λ name. counted_some (λ start. Counted (λ end. Sized (λ text. command.Edit name start end text))) (λ start. counted_at (λ end. sized_at (λ text. command.Edit name start end text))) (second name))

add_reads : Reads (Tail keyword.Add) (named_at blank (λ name. sized_at (λ text. command.Add name text)))
add_reads = then_reads (IsNameText blank) (λ name. Sized (λ text. command.Add name text)) (name_at blank) (λ name. sized_at (λ text. command.Add name text))
    (name_reads blank blank_ends) (λ name. sized_reads (λ text. command.Add name text)) (λ name. sized_some (λ text. command.Add name text))

extract_reads : Reads (Tail keyword.Extract) (counted_at (λ class. named_at blank (λ name. picked_at class name)))
extract_reads = counted_reads (λ class. Named blank (λ name. Picked class name)) (λ class. named_at blank (λ name. picked_at class name)) extract_name_reads
    (λ class. named_some blank (λ name. Picked class name) (λ name. picked_at class name) (extract_name_reads class))

run_reads : Reads (Tail keyword.Run) (then (number_at most_turns blank) (λ turns. sized_at (λ text. command.Run turns text)))
run_reads = then_reads (IsNumberText most_turns blank) (λ turns. Sized (λ text. command.Run turns text)) (number_at most_turns blank) (λ turns. sized_at (λ text. command.Run turns text))
    (number_reads most_turns blank (omega arith) (omega arith)) (λ turns. sized_reads (λ text. command.Run turns text)) (λ turns. sized_some (λ text. command.Run turns text))

alone_reads : (make : List ℕ → Command) → Reads (Named newline (λ name. Only (make name))) (named_at newline (λ name rest. Ok (make name, rest)))
alone_reads make = then_reads (IsNameText newline) (λ name. Only (make name)) (name_at newline) (λ name rest. Ok (make name, rest))
    (name_reads newline newline_ends) (λ name. only_reads (make name)) (λ name. ([], make name, (refl, refl)))

tail_reads : (k : Keyword) → Reads (Tail k) (behind_keyword k)
unfolding behind_keyword
tail_reads keyword.Edit = edit_reads
tail_reads keyword.Add = add_reads
tail_reads keyword.Drop = alone_reads (λ name. command.Remove name)
tail_reads keyword.Classes = only_reads command.Classes
tail_reads keyword.Maximal = only_reads command.Maximal
tail_reads keyword.Stat = only_reads command.Stat
tail_reads keyword.Extract = extract_reads
tail_reads keyword.Run = run_reads
tail_reads keyword.Show = alone_reads (λ name. command.Show name)
tail_reads keyword.Save = only_reads command.Save
tail_reads keyword.Quit = only_reads command.Quit

tail_some : (k : Keyword) → (s : List ℕ) × (c : Command) × Tail k s c
tail_some keyword.Edit = named_some blank (λ name. Counted (λ start. Counted (λ end. Sized (λ text. command.Edit name start end text)))) (λ name. counted_at (λ start. counted_at (λ end. sized_at (λ text. command.Edit name start end text)))) edit_reads
tail_some keyword.Add = named_some blank (λ name. Sized (λ text. command.Add name text)) (λ name. sized_at (λ text. command.Add name text)) add_reads
tail_some keyword.Drop = named_some newline (λ name. Only (command.Remove name)) (λ name rest. Ok (command.Remove name, rest)) (alone_reads (λ name. command.Remove name))
tail_some keyword.Classes = ([], command.Classes, (refl, refl))
tail_some keyword.Maximal = ([], command.Maximal, (refl, refl))
tail_some keyword.Stat = ([], command.Stat, (refl, refl))
tail_some keyword.Extract = counted_some (λ class. Named blank (λ name. Picked class name)) (λ class. named_at blank (λ name. picked_at class name)) extract_reads
tail_some keyword.Run = some_of (Tail keyword.Run) (then (number_at most_turns blank) (λ turns. sized_at (λ text. command.Run turns text))) run_reads
    (then_none (number_at most_turns blank) (λ turns. sized_at (λ text. command.Run turns text)) (number_none most_turns blank))
tail_some keyword.Show = named_some newline (λ name. Only (command.Show name)) (λ name rest. Ok (command.Show name, rest)) (alone_reads (λ name. command.Show name))
tail_some keyword.Save = ([], command.Save, (refl, refl))
tail_some keyword.Quit = ([], command.Quit, (refl, refl))

-- ---- the spelling of a command is that of its keyword and of what stands behind it

abbrev Whole : List ℕ → Command → Type 0
Whole = Then (IsKeyword keywords) (λ k. Tail k)

-- a field, the byte that ends it, and the rest
flat : (s x y field rest : List ℕ) (end : ℕ) → x ≡ field ++ end ∷ [] → y ≡ rest → s ≡ x ++ y → s ≡ field ++ (end ∷ rest)
flat s x y field rest end ex ey es = es ∙ ap (λ (z : List ℕ). z ++ y) ex ∙ ap (λ (z : List ℕ). (field ++ end ∷ []) ++ z) ey ∙ append_assoc field (end ∷ []) rest

pub parted : (field rest : List ℕ) (end : ℕ) → field ++ (end ∷ rest) ≡ (field ++ end ∷ []) ++ rest
parted field rest end = sym (append_assoc field (end ∷ []) rest)

-- the text of the bytes that end a command, and their number before them
abbrev sized_text : List ℕ → List ℕ
sized_text text = decimal (length text) ++ (newline ∷ (text ++ (newline ∷ [])))

from_sized : (make : List ℕ → Command) (s : List ℕ) (c : Command) → Sized make s c → (text : List ℕ) × (length text ≤ most_length) × (c ≡ make text) × (s ≡ sized_text text)
from_sized make s c t =
    let text = t.4.0 in
    let size : length text ≡ t.0 = t.4.3.0 in
    let behind : t.2 ≡ text ++ newline ∷ [] = flat t.2 t.4.1 t.4.2 text [] newline t.4.3.1 t.4.4.0 t.4.5 in
    let all : s ≡ decimal t.0 ++ (newline ∷ (text ++ (newline ∷ []))) = flat s t.1 t.2 (decimal t.0) (text ++ newline ∷ []) newline t.3.1 behind t.5 in
    (text, omega (arith, size, t.3.0), t.4.4.1, all ∙ ap (λ (z : ℕ). decimal z ++ (newline ∷ (text ++ (newline ∷ [])))) (sym size))

to_sized : (make : List ℕ → Command) (text : List ℕ) → length text ≤ most_length → Sized make (sized_text text) (make text)
to_sized make text h = (
  length text,
  decimal (length text) ++ newline ∷ [],
  text ++ newline ∷ [],
  (h, refl),
  (text, text ++ newline ∷ [], [], (refl, refl), (refl, refl), sym (append-nil (text ++ newline ∷ []))),
  parted (decimal (length text)) (text ++ newline ∷ []) newline,
)

-- the line is within its limit exactly where the choice is within what is left of it
line_length : (class : ℕ) (name : List ℕ) (c : Choice) → length (extract_line class name c) ≡ 8 + (length (decimal class) + 1) + (length name + 1) + length (choice_text c)
line_length class name c =
    omega (arith, length-append (decimal class) (blank ∷ (name ++ (blank ∷ choice_text c))), length-append name (blank ∷ choice_text c))

pub ten_digits : (n : ℕ) → n ≤ most_number → length (decimal n) ≤ 10
ten_digits n h = length-decimal-le 10 n (omega arith) (omega (arith, h)) (omega (arith, h))

from_choice : (class : ℕ) (name s : List ℕ) (c : Choice) → class ≤ most_number → IsName name → IsChoiceText (room_behind class name) s c → AreChosen c × (s ≡ choice_text c) × (length (extract_line class name c) ≤ most_line)
from_choice class name s choice.All h n t = (tt, t, omega (arith, line_length class name choice.All, ten_digits class h, n.few))
from_choice class name s (choice.Members ns) h n t =
    let few : length (numbers_text ns) ≤ room_behind class name = subst (λ (z : List ℕ). length z ≤ room_behind class name) t.text t.few in
    ((t.some, t.small), t.text, omega (arith, line_length class name (choice.Members ns), few, ten_digits class h, n.few))

to_text : (class : ℕ) (name : List ℕ) (c : Choice) → AreChosen c → length (extract_line class name c) ≤ most_line → IsChoiceText (room_behind class name) (choice_text c) c
to_text class name choice.All h le = refl
to_text class name (choice.Members ns) h le = record { some = h.0; small = h.1; text = refl; few = omega (arith, line_length class name (choice.Members ns), le) }

from_tail : (k : Keyword) (x y s : List ℕ) (c : Command) → x ≡ spelling_of k → Tail k y c → s ≡ x ++ y → Spells s c
from_tail keyword.Edit x y s c ex t e =
    let a = t.4 in
    let b = a.4 in
    let z = from_sized (λ text. command.Edit t.0 a.0 b.0 text) b.2 c b.4 in
    let third : a.2 ≡ decimal b.0 ++ (blank ∷ sized_text z.0) = flat a.2 b.1 b.2 (decimal b.0) (sized_text z.0) blank b.3.1 z.3 b.5 in
    let second : t.2 ≡ decimal a.0 ++ (blank ∷ (decimal b.0 ++ (blank ∷ sized_text z.0))) = flat t.2 a.1 a.2 (decimal a.0) (decimal b.0 ++ (blank ∷ sized_text z.0)) blank a.3.1 third a.5 in
    let first : y ≡ t.0 ++ (blank ∷ (decimal a.0 ++ (blank ∷ (decimal b.0 ++ (blank ∷ sized_text z.0))))) = flat y t.1 t.2 t.0 (decimal a.0 ++ (blank ∷ (decimal b.0 ++ (blank ∷ sized_text z.0)))) blank t.3.1 second t.5 in
    let all : s ≡ spelling (command.Edit t.0 a.0 b.0 z.0) = e ∙ ap (λ (w : List ℕ). w ++ y) ex ∙ ap (λ (w : List ℕ). spelling_of keyword.Edit ++ w) first in
    subst (λ (d : Command). Spells s d) (sym z.2) ((t.3.0, a.3.0, b.3.0, z.1), all)
from_tail keyword.Add x y s c ex t e =
    let z = from_sized (λ text. command.Add t.0 text) t.2 c t.4 in
    let first : y ≡ t.0 ++ (blank ∷ sized_text z.0) = flat y t.1 t.2 t.0 (sized_text z.0) blank t.3.1 z.3 t.5 in
    let all : s ≡ spelling (command.Add t.0 z.0) = e ∙ ap (λ (w : List ℕ). w ++ y) ex ∙ ap (λ (w : List ℕ). spelling_of keyword.Add ++ w) first in
    subst (λ (d : Command). Spells s d) (sym z.2) ((t.3.0, z.1), all)
from_tail keyword.Drop x y s c ex t e =
    let first : y ≡ t.0 ++ (newline ∷ []) = flat y t.1 t.2 t.0 [] newline t.3.1 t.4.0 t.5 in
    let all : s ≡ spelling (command.Remove t.0) = e ∙ ap (λ (w : List ℕ). w ++ y) ex ∙ ap (λ (w : List ℕ). spelling_of keyword.Drop ++ w) first in
    subst (λ (d : Command). Spells s d) (sym t.4.1) (t.3.0, all)
from_tail keyword.Classes x y s c ex t e = subst (λ (d : Command). Spells s d) (sym t.1) (tt, e ∙ rw (ex, t.0) refl)
from_tail keyword.Maximal x y s c ex t e = subst (λ (d : Command). Spells s d) (sym t.1) (tt, e ∙ rw (ex, t.0) refl)
from_tail keyword.Stat x y s c ex t e = subst (λ (d : Command). Spells s d) (sym t.1) (tt, e ∙ rw (ex, t.0) refl)
from_tail keyword.Extract x y s c ex t e =
    let a = t.4 in
    let b = a.4 in
    let z = from_choice t.0 a.0 b.1 b.0 t.3.0 a.3.0 b.3 in
    let third : a.2 ≡ choice_text b.0 = b.5 ∙ ap (λ (w : List ℕ). b.1 ++ w) b.4.0 ∙ append-nil b.1 ∙ z.1 in
    let second : t.2 ≡ a.0 ++ (blank ∷ choice_text b.0) = flat t.2 a.1 a.2 a.0 (choice_text b.0) blank a.3.1 third a.5 in
    let first : y ≡ decimal t.0 ++ (blank ∷ (a.0 ++ (blank ∷ choice_text b.0))) = flat y t.1 t.2 (decimal t.0) (a.0 ++ (blank ∷ choice_text b.0)) blank t.3.1 second t.5 in
    let all : s ≡ spelling (command.Extract t.0 a.0 b.0) = e ∙ ap (λ (w : List ℕ). w ++ y) ex ∙ ap (λ (w : List ℕ). spelling_of keyword.Extract ++ w) first in
    subst (λ (d : Command). Spells s d) (sym b.4.1) ((t.3.0, a.3.0, z.0, z.2), all)
from_tail keyword.Run x y s c ex t e =
    let z = from_sized (λ text. command.Run t.0 text) t.2 c t.4 in
    let first : y ≡ decimal t.0 ++ (blank ∷ sized_text z.0) = flat y t.1 t.2 (decimal t.0) (sized_text z.0) blank t.3.1 z.3 t.5 in
    let all : s ≡ spelling (command.Run t.0 z.0) = e ∙ ap (λ (w : List ℕ). w ++ y) ex ∙ ap (λ (w : List ℕ). spelling_of keyword.Run ++ w) first in
    subst (λ (d : Command). Spells s d) (sym z.2) ((t.3.0, z.1), all)
from_tail keyword.Show x y s c ex t e =
    let first : y ≡ t.0 ++ (newline ∷ []) = flat y t.1 t.2 t.0 [] newline t.3.1 t.4.0 t.5 in
    let all : s ≡ spelling (command.Show t.0) = e ∙ ap (λ (w : List ℕ). w ++ y) ex ∙ ap (λ (w : List ℕ). spelling_of keyword.Show ++ w) first in
    subst (λ (d : Command). Spells s d) (sym t.4.1) (t.3.0, all)
from_tail keyword.Save x y s c ex t e = subst (λ (d : Command). Spells s d) (sym t.1) (tt, e ∙ rw (ex, t.0) refl)
from_tail keyword.Quit x y s c ex t e = subst (λ (d : Command). Spells s d) (sym t.1) (tt, e ∙ rw (ex, t.0) refl)

-- the text behind a keyword, after the name
alone : (make : List ℕ → Command) (name : List ℕ) → IsName name → Named newline (λ n. Only (make n)) (name ++ (newline ∷ [])) (make name)
alone make name h = (name, name ++ newline ∷ [], [], (h, refl), (refl, refl), sym (append-nil (name ++ newline ∷ [])))

to_whole : (s : List ℕ) (c : Command) → Spells s c → Whole s c
to_whole s (command.Edit name start end text) t = (
  keyword.Edit,
  spelling_of keyword.Edit,
  name ++ (blank ∷ (decimal start ++ (blank ∷ (decimal end ++ (blank ∷ sized_text text))))),
  (is_keyword keyword.Edit, refl),
  (
    name,
    name ++ blank ∷ [],
    decimal start ++ (blank ∷ (decimal end ++ (blank ∷ sized_text text))),
    (t.0.0, refl),
    (
      start,
      decimal start ++ blank ∷ [],
      decimal end ++ (blank ∷ sized_text text),
      (t.0.1, refl),
      (end, decimal end ++ blank ∷ [], sized_text text, (t.0.2, refl), to_sized (λ w. command.Edit name start end w) text t.0.3, parted (decimal end) (sized_text text) blank),
      parted (decimal start) (decimal end ++ (blank ∷ sized_text text)) blank,
    ),
    parted name (decimal start ++ (blank ∷ (decimal end ++ (blank ∷ sized_text text)))) blank,
  ),
  t.1,
)
to_whole s (command.Add name text) t = (
  keyword.Add,
  spelling_of keyword.Add,
  name ++ (blank ∷ sized_text text),
  (is_keyword keyword.Add, refl),
  (name, name ++ blank ∷ [], sized_text text, (t.0.0, refl), to_sized (λ w. command.Add name w) text t.0.1, parted name (sized_text text) blank),
  t.1,
)
to_whole s (command.Remove name) t = (keyword.Drop, spelling_of keyword.Drop, name ++ (newline ∷ []), (is_keyword keyword.Drop, refl), alone (λ n. command.Remove n) name t.0, t.1)
to_whole s command.Classes t = (keyword.Classes, spelling_of keyword.Classes, [], (is_keyword keyword.Classes, refl), (refl, refl), t.1 ∙ sym (append-nil (spelling_of keyword.Classes)))
to_whole s command.Maximal t = (keyword.Maximal, spelling_of keyword.Maximal, [], (is_keyword keyword.Maximal, refl), (refl, refl), t.1 ∙ sym (append-nil (spelling_of keyword.Maximal)))
to_whole s command.Stat t = (keyword.Stat, spelling_of keyword.Stat, [], (is_keyword keyword.Stat, refl), (refl, refl), t.1 ∙ sym (append-nil (spelling_of keyword.Stat)))
to_whole s (command.Extract class name c) t = (
  keyword.Extract,
  spelling_of keyword.Extract,
  decimal class ++ (blank ∷ (name ++ (blank ∷ choice_text c))),
  (is_keyword keyword.Extract, refl),
  (
    class,
    decimal class ++ blank ∷ [],
    name ++ (blank ∷ choice_text c),
    (t.0.0, refl),
    (
      name,
      name ++ blank ∷ [],
      choice_text c,
      (t.0.1, refl),
      (c, choice_text c, [], to_text class name c t.0.2 t.0.3, (refl, refl), sym (append-nil (choice_text c))),
      parted name (choice_text c) blank,
    ),
    parted (decimal class) (name ++ (blank ∷ choice_text c)) blank,
  ),
  t.1,
)
to_whole s (command.Run turns input) t = (
  keyword.Run,
  spelling_of keyword.Run,
  decimal turns ++ (blank ∷ sized_text input),
  (is_keyword keyword.Run, refl),
  (turns, decimal turns ++ blank ∷ [], sized_text input, (t.0.0, refl), to_sized (λ w. command.Run turns w) input t.0.1, parted (decimal turns) (sized_text input) blank),
  t.1,
)
to_whole s (command.Show name) t = (keyword.Show, spelling_of keyword.Show, name ++ (newline ∷ []), (is_keyword keyword.Show, refl), alone (λ n. command.Show n) name t.0, t.1)
to_whole s command.Save t = (keyword.Save, spelling_of keyword.Save, [], (is_keyword keyword.Save, refl), (refl, refl), t.1 ∙ sym (append-nil (spelling_of keyword.Save)))
to_whole s command.Quit t = (keyword.Quit, spelling_of keyword.Quit, [], (is_keyword keyword.Quit, refl), (refl, refl), t.1 ∙ sym (append-nil (spelling_of keyword.Quit)))

pub command_reads : Reads Spells command_at
unfolding command_at
command_reads = reads_as Whole Spells command_at
    (then_reads (IsKeyword keywords) (λ k. Tail k) (keyword_of keywords) (λ k. behind_keyword k) (keyword_reads keywords all_apart) tail_reads tail_some)
    (λ s c t. from_tail t.0 t.1 t.2 s c t.3.1 t.4 t.5)
    to_whole
