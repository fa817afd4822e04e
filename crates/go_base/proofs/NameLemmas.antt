-- The tests of a file's name decide the facts.
use Rattle.std.proofs.Common.{ℕ, ◌-◌, ◌≤◌, ◌&&◌, nat_le, nat_eq, List, length, take, drop, refl}
use Rattle.std.specs.Prelude.{codes, All}
use Rattle.std.specs.Bool.{Decides}
use Rattle.std.specs.List.{list_all, starts_with, ends_with}
use Rattle.std.proofs.lemmas.Bool.{leb-true, le-leb}
use Rattle.std.proofs.lemmas.Bool.Decides.{Decides-eqb, Decides-and, Decides-or, Decides-not}
use Rattle.std.proofs.lemmas.List.Sums.{AllPass-from_list_all, list_all-from_AllPass}
use Rattle.std.proofs.lemmas.Slice.Eq.{starts_is, ends_is}
use Rattle.go_base.specs.Name.{IsNameByte, EndsIn, BeginsWith, IsGoFileName, is_name_byte, is_plain_name, has_go_ending, has_plain_start, is_go_file_name}

ends_decides : (name end : List ℕ) → Decides (ends_with nat_eq name end) (EndsIn name end)
ends_decides name end =
    let d = ends_is Decides-eqb name end (ends_with nat_eq name end) refl in
    (λ t. (take (length name - length end) name, d.0 t), λ e. d.1 e.0 e.1)

starts_decides : (name start : List ℕ) → Decides (starts_with nat_eq name start) (BeginsWith name start)
starts_decides name start =
    let d = starts_is Decides-eqb name start (starts_with nat_eq name start) refl in
    (λ t. (drop (length start) name, d.0 t), λ e. d.1 e.0 e.1)

byte_decides : (b : ℕ) → Decides (is_name_byte b) (IsNameByte b)
byte_decides b =
    let le : (m n : ℕ) → Decides (nat_le m n) (m ≤ n) = λ m n. (leb-true m n, le-leb m n) in
    let range : (m n : ℕ) → Decides (nat_le m b && nat_le b n) ((m ≤ b) × (b ≤ n)) = λ m n. Decides-and _ _ (le m b) (le b n) in
    Decides-or _ _ (range 65 90) (Decides-or _ _ (range 97 122) (Decides-or _ _ (range 48 57) (Decides-or _ _ (Decides-eqb b 95) (Decides-or _ _ (Decides-eqb b 45) (Decides-eqb b 46)))))

plain_decides : (name : List ℕ) → Decides (list_all is_name_byte name) (All IsNameByte name)
plain_decides name = (
  λ t k d lt. (byte_decides _).0 (AllPass-from_list_all is_name_byte name t k d lt),
  λ h. list_all-from_AllPass is_name_byte name (λ k d lt. (byte_decides _).1 (h k d lt)),
)

pub go_file_name_decides : (name : List ℕ) → Decides (is_go_file_name name) (IsGoFileName name)
unfolding is_go_file_name is_plain_name has_go_ending has_plain_start
go_file_name_decides name =
    let le : (m n : ℕ) → Decides (nat_le m n) (m ≤ n) = λ m n. (leb-true m n, le-leb m n) in
    let plain = Decides-and _ _ (Decides-and _ _ (le 4 (length name)) (le (length name) 255)) (plain_decides name) in
    let ending = Decides-and _ _ (ends_decides name (codes ".go")) (Decides-not _ (ends_decides name (codes "_test.go"))) in
    let start = Decides-and _ _ (Decides-not _ (starts_decides name (codes "_"))) (Decides-not _ (starts_decides name (codes "."))) in
    let all = Decides-and _ _ (Decides-and _ _ plain ending) start in (
      λ t. let h = all.0 t in record { at_least = h.0.0.0.0; at_most = h.0.0.0.1; plain = h.0.0.1; ending = h.0.1.0; no_test = h.0.1.1; no_underscore = h.1.0; no_dot = h.1.1 },
      λ h. all.1 ((((h.at_least, h.at_most), h.plain), (h.ending, h.no_test)), (h.no_underscore, h.no_dot)),
    )
