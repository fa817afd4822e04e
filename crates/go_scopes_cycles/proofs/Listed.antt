-- Where all declarations that names call for have the columns of one table, those of one name have one column.
use Rattle.std.proofs.Common.{◌≡◌, ◌∙◌, ℕ, true, nat_eq, List, [], ◌∷◌, ap, sym, subst, refl, arith, Option, Some, None, inl, inr}
use Rattle.std.specs.HashMap.{HashMap}
use Rattle.std.specs.HashMap as hash
use Rattle.go_tree.specs.Declarations.{Found}
use Rattle.go_tree.specs.Lookups.{Asked}
use Rattle.go_tree.specs.Needs.{is_same}
use Rattle.go_scopes_lookup.specs.Tables.{same_spot}
use Rattle.go_scopes_cycles.specs.Needs.{source_of}
use Rattle.go_scopes_cycles.specs.declared.columns.Column.{Column}
use Rattle.go_scopes_cycles.specs.Columns.{IsSource, AreAlike, same_source, is_column, is_listed, is_source_listed, are_listed}
use Rattle.go_scopes_cycles.proofs.Ranked.{both_left, both_right, same_number}

same_option : (a b : Option ℕ) → same_source a b ≡ true → a ≡ b
same_option None None e = refl
same_option (Some m) (Some n) e = ap Some (same_number m n e)
same_option None (Some n) e = absurd (grind (arith, e))
same_option (Some m) None e = absurd (grind (arith, e))

column_source : (c : Option Column) (d e : Found) → is_column c d ≡ true → is_column c e ≡ true → d.it.source ≡ e.it.source
column_source None d e h k = absurd (grind (arith, h))
column_source (Some c) d e h k =
    sym (same_option c.specification d.it.source (both_left (same_source c.specification d.it.source) (nat_eq c.number d.it.column) h))
    ∙ same_option c.specification e.it.source (both_left (same_source c.specification e.it.source) (nat_eq c.number e.it.column) k)

column_number : (c : Option Column) (d e : Found) → is_column c d ≡ true → is_column c e ≡ true → d.it.column ≡ e.it.column
column_number None d e h k = absurd (grind (arith, h))
column_number (Some c) d e h k =
    sym (same_number c.number d.it.column (both_right (same_source c.specification d.it.source) (nat_eq c.number d.it.column) h))
    ∙ same_number c.number e.it.column (both_right (same_source c.specification e.it.source) (nat_eq c.number e.it.column) k)

one_key : {S : Type 0} (m : HashMap (ℕ × ℕ) Column S) (d e : Found) → is_same d e ≡ true → is_listed m e ≡ true → is_column (hash.get same_spot m (d.file, d.it.name)) e ≡ true
one_key m d e same h =
    let file : d.file ≡ e.file = same_number d.file e.file (both_left (nat_eq d.file e.file) (nat_eq d.it.name e.it.name) same) in
    let name : d.it.name ≡ e.it.name = same_number d.it.name e.it.name (both_right (nat_eq d.file e.file) (nat_eq d.it.name e.it.name) same) in
    ap (λ n. is_column (hash.get same_spot m (n, d.it.name)) e) file ∙ ap (λ t. is_column (hash.get same_spot m (e.file, t)) e) name ∙ h

listed_source : {S : Type 0} (m : HashMap (ℕ × ℕ) Column S) (d : Found) (asks : List Asked) → are_listed m asks ≡ true → IsSource d asks → is_listed m d ≡ true
listed_source m d [] h s = absurd s
listed_source m d (a ∷ asks) h (inl e) = subst (λ s. is_source_listed m s ≡ true) e (both_left (is_source_listed m (source_of a.meaning)) (are_listed m asks) h)
listed_source m d (a ∷ asks) h (inr s) = listed_source m d asks (both_right (is_source_listed m (source_of a.meaning)) (are_listed m asks) h) s

pub listed_alike : {S : Type 0} (m : HashMap (ℕ × ℕ) Column S) (asks : List Asked) → are_listed m asks ≡ true → AreAlike asks
listed_alike m asks h = record {
  specification = λ d e s t same. column_source (hash.get same_spot m (d.file, d.it.name)) d e (listed_source m d asks h s) (one_key m d e same (listed_source m e asks h t));
  column = λ d e s t same. column_number (hash.get same_spot m (d.file, d.it.name)) d e (listed_source m d asks h s) (one_key m d e same (listed_source m e asks h t));
}
