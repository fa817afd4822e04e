-- The answers at the place of a name.
use Rattle.std.proofs.Common.{◌≡◌, ℕ, ◌+◌, ◌-◌, ◌<◌, ◌≤◌, Bool, true, false, ◌&&◌, not, cond, Result, Ok, Err, List, [], length, get_or, refl, sym, ap, subst, ◌∙◌, arith}
use Rattle.std.specs.Prelude.{slice_set, nat_le, is_some}
use Rattle.std.specs.List.{insert, remove}
use Rattle.std.proofs.lemmas.Bool.{leb-true, le-leb, and_parts}
use Rattle.std.proofs.lemmas.List.Sums.{sum_by-set, sum_by-insert, sum_by-remove}
use Rattle.std.proofs.Math.ListN.{length-set}
use Rattle.std.proofs.lemmas.List.Edits.{length-insert, length-remove}
use Rattle.go_base.specs.declared.bytes.FileText.{FileText}
use Rattle.go_base.specs.Gives.{◌>>=◌}
use Rattle.go_base.specs.Name.{is_go_file_name}
use Rattle.go_base.specs.Package.{Ascends, IsPackage, most_files, most_bytes, total_bytes}
use Rattle.edit_apply.specs.declared.texts.EditError.{EditError}
use Rattle.edit_apply.specs.declared.texts.EditError.TheVariants as errors
use Rattle.edit_apply.specs.Edited.{bytes_under, spliced, file_of, edited, added, dropped, with_bytes}
use Rattle.edit_apply.specs.Answers.{within_limits, ranged, bytes_answer, file_answer, edit_answer, add_answer, remove_answer}
use Rattle.edit_apply.specs.Places.{IsAt, IsGap}
use Rattle.edit_apply.proofs.Lists.{under_at, under_gap, under_small, edited_at, with_bytes_at, dropped_at, added_gap, ascends-set, ascends-remove, ascends-insert}

bind_choice : {A B : Type 0} (p q : Bool) (x : A) (l r : EditError) (f : A → Result B EditError) → (cond p (cond q (Ok x) (Err l)) (Err r) >>= f) ≡ cond p (cond q (f x) (Err l)) (Err r)
bind_choice true true x l r f = refl
bind_choice true false x l r f = refl
bind_choice false q x l r f = refl

bind_test : {A B : Type 0} (p : Bool) (x : A) (l : EditError) (f : A → Result B EditError) → (cond p (Ok x) (Err l) >>= f) ≡ cond p (f x) (Err l)
bind_test true x l f = refl
bind_test false x l f = refl

tested : {A : Type 0} (p : Bool) (x y : A) (l : EditError) → ◌≡◌ {A = Result A EditError} (cond p (Ok x) (Err l)) (Ok y) → (p ≡ true) × (x ≡ y)
tested true x y l h = (refl, cc)
tested false x y l h = cc

chosen : {A : Type 0} (p q : Bool) (x y : A) (l r : EditError) → ◌≡◌ {A = Result A EditError} (cond p (cond q (Ok x) (Err l)) (Err r)) (Ok y) → (q ≡ true) × (x ≡ y)
chosen true true x y l r h = (refl, cc)
chosen true false x y l r h = cc
chosen false q x y l r h = cc

same_tests : (a b c : Bool) → a ≡ true → b ≡ c → (a && b) ≡ c
same_tests true b c h e = e
same_tests false b c h e = cc

-- how many bytes there are after an edit
total_set : (files : List FileText) (i : ℕ) (d : FileText) (name bytes : List ℕ) → i < length files → total_bytes (slice_set files i (file_of name bytes)) ≡ total_bytes files - length (get_or files i d).bytes + length bytes
total_set files i d name bytes lt =
    let sums = sum_by-set (λ f. length f.bytes) files i (file_of name bytes) d lt in
    let part = under_small files name i d lt in
    omega arith

pub edit_at : (files : List FileText) (name : List ℕ) (s e : ℕ) (new : List ℕ) (i : ℕ) (d : FileText) → IsPackage files → i < length files → (get_or files i d).name ≡ name → edit_answer files name s e new ≡ (bytes_answer (get_or files i d).bytes (total_bytes files) s e new >>= λ b. Ok (slice_set files i (file_of (get_or files i d).name b)))
unfolding bytes_answer
edit_at files name s e new i d p lt is =
    let f : FileText = get_or files i d in
    let after : List ℕ = spliced f.bytes s e new in
    let whole : List FileText = slice_set files i (file_of f.name after) in
    let few : nat_le (length whole) most_files ≡ true = le-leb _ _ (omega (arith, p.few, length-set files i (file_of f.name after))) in
    let small : nat_le (total_bytes whole) most_bytes ≡ nat_le (total_bytes files - length f.bytes + length after) most_bytes = ap (λ n. nat_le n most_bytes) (total_set files i d f.name after lt) in
    let limits : within_limits whole ≡ cond (nat_le (total_bytes files - length f.bytes + length after) most_bytes) (Ok whole) (Err errors.Limit) = ap (λ b. cond b (Ok whole) (Err errors.Limit)) (same_tests _ _ _ few small) in
    let range : Bool = nat_le s e && nat_le e (length f.bytes) in
    (λ j. ranged (under_at files name i d p.ascends lt is j) s e (edited_at files name s e new i d p.ascends lt is j))
    ∙ ap (λ r. cond range r (Err errors.Range)) limits
    ∙ sym (bind_choice range (nat_le (total_bytes files - length f.bytes + length after) most_bytes) after errors.Limit errors.Range (λ b. Ok (slice_set files i (file_of f.name b))))

pub package_set : (files : List FileText) (name : List ℕ) (s e : ℕ) (new bytes : List ℕ) (i : ℕ) (d : FileText) → IsPackage files → i < length files → bytes_answer (get_or files i d).bytes (total_bytes files) s e new ≡ Ok bytes → IsPackage (slice_set files i (file_of (get_or files i d).name bytes))
unfolding bytes_answer
package_set files name s e new bytes i d p lt h =
    let f : FileText = get_or files i d in
    let found = chosen (nat_le s e && nat_le e (length f.bytes)) (nat_le (total_bytes files - length f.bytes + length (spliced f.bytes s e new)) most_bytes) (spliced f.bytes s e new) bytes errors.Limit errors.Range h in
    let fits : total_bytes files - length f.bytes + length (spliced f.bytes s e new) ≤ most_bytes = leb-true _ _ found.0 in
    let same : length (spliced f.bytes s e new) ≡ length bytes = ap length found.1 in
    let sums = total_set files i d f.name bytes lt in
    record {
      ascends = ascends-set files i d (file_of f.name bytes) lt refl p.ascends;
      few = omega (arith, p.few, length-set files i (file_of f.name bytes));
      small = omega arith;
    }

pub edit_held : (files : List FileText) (name : List ℕ) (s e : ℕ) (new : List ℕ) (i : ℕ) → (place : IsAt files name i) → (d : FileText) → IsPackage files → edit_answer files name s e new ≡ (bytes_answer (get_or files i d).bytes (total_bytes files) s e new >>= λ b. Ok (with_bytes files i b))
edit_held files name s e new i at d p =
    edit_at files name s e new i d p at.within (at.named d)
    ∙ (λ j. bytes_answer (get_or files i d).bytes (total_bytes files) s e new >>= λ b. Ok (sym (with_bytes_at files i d b at.within) j))

pub package_with : (files : List FileText) (s e : ℕ) (new bytes : List ℕ) (i : ℕ) (d : FileText) → IsPackage files → i < length files → bytes_answer (get_or files i d).bytes (total_bytes files) s e new ≡ Ok bytes → IsPackage (with_bytes files i bytes)
package_with files s e new bytes i d p lt h = subst IsPackage (sym (with_bytes_at files i d bytes lt)) (package_set files [] s e new bytes i d p lt h)

-- the same in terms of what the code has read
pub edit_found : (files : List FileText) (name : List ℕ) (s e : ℕ) (new : List ℕ) (i : ℕ) (d : FileText) (bytes : List ℕ) (total : ℕ) → IsPackage files → IsAt files name i → bytes ≡ (get_or files i d).bytes → total ≡ total_bytes files → edit_answer files name s e new ≡ (bytes_answer bytes total s e new >>= λ b. Ok (with_bytes files i b))
edit_found files name s e new i d bytes total p at is sum =
    edit_held files name s e new i at d p ∙ (λ j. bytes_answer (sym is j) (sym sum j) s e new >>= λ b. Ok (with_bytes files i b))

pub package_found : (files : List FileText) (s e : ℕ) (new : List ℕ) (i : ℕ) (d : FileText) (bytes : List ℕ) (total : ℕ) (after : List ℕ) → IsPackage files → i < length files → bytes ≡ (get_or files i d).bytes → total ≡ total_bytes files → bytes_answer bytes total s e new ≡ Ok after → IsPackage (with_bytes files i after)
package_found files s e new i d bytes total after p lt is sum h = package_with files s e new after i d p lt ((λ j. bytes_answer (sym is j) (sym sum j) s e new) ∙ h)

pub edit_gap : (files : List FileText) (name : List ℕ) (s e : ℕ) (new : List ℕ) (i : ℕ) → IsGap files name i → edit_answer files name s e new ≡ Err errors.NoFile
edit_gap files name s e new i g = ap (λ o. ranged o s e (edited files name s e new)) (under_gap files name i g)

-- ---- taking in a file

pub add_gap : (files : List FileText) (name bytes : List ℕ) (i : ℕ) → IsGap files name i → (file_answer (length files) (total_bytes files) name bytes >>= λ f. Ok (insert files i f)) ≡ within_limits (added files name bytes)
unfolding file_answer
add_gap files name bytes i g =
    let whole : List FileText = insert files i (file_of name bytes) in
    let count : length whole ≡ length files + 1 = length-insert files i (file_of name bytes) g.within in
    let total : total_bytes whole ≡ total_bytes files + length bytes = sum_by-insert (λ f. length f.bytes) files i (file_of name bytes) in
    bind_test (nat_le (length files + 1) most_files && nat_le (total_bytes files + length bytes) most_bytes) (file_of name bytes) errors.Limit (λ f. Ok (insert files i f))
    ∙ (λ j. cond (nat_le (sym count j) most_files && nat_le (sym total j) most_bytes) (Ok whole) (Err errors.Limit))
    ∙ ap within_limits (sym (added_gap files name bytes i g))

pub package_insert : (files : List FileText) (name bytes : List ℕ) (f : FileText) (i : ℕ) → IsPackage files → IsGap files name i → file_answer (length files) (total_bytes files) name bytes ≡ Ok f → IsPackage (insert files i f)
unfolding file_answer
package_insert files name bytes f i p g h =
    let found = tested (nat_le (length files + 1) most_files && nat_le (total_bytes files + length bytes) most_bytes) (file_of name bytes) f errors.Limit h in
    let tests = and_parts _ _ found.0 in
    let few : length files + 1 ≤ most_files = leb-true _ _ tests.0 in
    let small : total_bytes files + length bytes ≤ most_bytes = leb-true _ _ tests.1 in
    let whole : IsPackage (insert files i (file_of name bytes)) = record {
      ascends = ascends-insert files name bytes i g p.ascends;
      few = omega (arith, length-insert files i (file_of name bytes) g.within);
      small = omega (arith, sum_by-insert (λ f. length f.bytes) files i (file_of name bytes));
    } in
    subst (λ g. IsPackage (insert files i g)) found.1 whole

-- ---- taking out a file

pub package_remove : (files : List FileText) (i : ℕ) (d : FileText) → IsPackage files → i < length files → IsPackage (remove files i)
package_remove files i d p lt =
    let sums = sum_by-remove (λ f. length f.bytes) files i d lt in
    record {
      ascends = ascends-remove files i p.ascends;
      few = omega (arith, p.few, length-remove files i lt);
      small = omega (arith, p.small);
    }

pub remove_at : (files : List FileText) (name : List ℕ) (i : ℕ) (d : FileText) → Ascends files → i < length files → (get_or files i d).name ≡ name → remove_answer files name ≡ Ok (remove files i)
remove_at files name i d h lt is =
    (λ j. cond (is_some (under_at files name i d h lt is j)) (Ok (dropped_at files name i d h lt is j)) (Err errors.NoFile))

pub remove_gap : (files : List FileText) (name : List ℕ) (i : ℕ) → IsGap files name i → remove_answer files name ≡ Err errors.NoFile
remove_gap files name i g = ap (λ o. cond (is_some o) (Ok (dropped files name)) (Err errors.NoFile)) (under_gap files name i g)

pub add_bad : (files : List FileText) (name bytes : List ℕ) → is_go_file_name name ≡ false → add_answer files name bytes ≡ Err errors.BadName
add_bad files name bytes h = ap (λ b. cond (not b) (Err errors.BadName) (cond (is_some (bytes_under files name)) (Err errors.Held) (within_limits (added files name bytes)))) h

pub add_held : (files : List FileText) (name bytes : List ℕ) (i : ℕ) (d : FileText) → is_go_file_name name ≡ true → Ascends files → IsAt files name i → add_answer files name bytes ≡ Err errors.Held
add_held files name bytes i d h a at =
    ap (λ b. cond (not b) (Err errors.BadName) (cond (is_some (bytes_under files name)) (Err errors.Held) (within_limits (added files name bytes)))) h
    ∙ ap (λ o. cond (is_some o) (Err errors.Held) (within_limits (added files name bytes))) (under_at files name i d a at.within (at.named d))

pub add_found : (files : List FileText) (name bytes : List ℕ) (i : ℕ) → is_go_file_name name ≡ true → IsGap files name i → add_answer files name bytes ≡ (file_answer (length files) (total_bytes files) name bytes >>= λ f. Ok (insert files i f))
add_found files name bytes i h g =
    ap (λ b. cond (not b) (Err errors.BadName) (cond (is_some (bytes_under files name)) (Err errors.Held) (within_limits (added files name bytes)))) h
    ∙ ap (λ o. cond (is_some o) (Err errors.Held) (within_limits (added files name bytes))) (under_gap files name i g)
    ∙ sym (add_gap files name bytes i g)
