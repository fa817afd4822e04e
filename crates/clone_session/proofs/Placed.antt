-- The file at a place is the one under its name.
use Rattle.std.proofs.Common.{◌≡◌, ℕ, zero, suc, cond, List, [], ◌∷◌, Option, Some, None, slice_get, refl, sym, ap, subst, ◌∙◌}
use Rattle.std.specs.Option.{option_map}
use Rattle.std.specs.Ordering.{is_eq}
use Rattle.std.specs.Cmp.Lexicographic.{nat_list_eq_equiv}
use Rattle.std.specs.List.{AllByRecursion}
use Rattle.std.proofs.lemmas.Map.Text.{is_eq-slice_cmp}
use Rattle.go_base.specs.declared.bytes.FileText.{FileText}
use Rattle.go_base.specs.Package.{ComesBefore, Ascends}
use Rattle.edit_apply.specs.Edited.{bytes_under}

-- one that holds of all later files holds of the one at a place
behind : (name : List ℕ) (fs : List FileText) (n : ℕ) (f : FileText) → AllByRecursion (λ g. ComesBefore name g.name) fs → slice_get fs n ≡ Some f → ComesBefore name f.name
behind name [] zero f h e = cc
behind name [] (suc n) f h e = cc
behind name (g ∷ gs) zero f h e = let same : g ≡ f = cc in subst (λ (x : FileText). ComesBefore name x.name) same h.0
behind name (g ∷ gs) (suc n) f h e = behind name gs n f h.1 e

under_name : (fs : List FileText) (n : ℕ) (f : FileText) → Ascends fs → slice_get fs n ≡ Some f → bytes_under fs f.name ≡ Some f.bytes
under_name [] zero f h e = cc
under_name [] (suc n) f h e = cc
under_name (g ∷ gs) zero f h e =
    let same : g ≡ f = cc in
    ap (λ (x : FileText). bytes_under (g ∷ gs) x.name) (sym same) ∙ ap (λ b. cond b (Some g.bytes) (bytes_under gs g.name)) (nat_list_eq_equiv.refl g.name) ∙ ap (λ (x : FileText). Some x.bytes) same
under_name (g ∷ gs) (suc n) f h e =
    ap (λ b. cond b (Some g.bytes) (bytes_under gs f.name)) (sym (is_eq-slice_cmp g.name f.name) ∙ ap is_eq (behind g.name gs n f h.0 e)) ∙ under_name gs n f h.1 e

-- the file with this name and the bytes under it stands at the place
by_place : (o : Option FileText) (fs : List FileText) (n : ℕ) (name bytes : List ℕ) → slice_get fs n ≡ o → Ascends fs → option_map (λ (f : FileText). f.name) o ≡ Some name → Some bytes ≡ bytes_under fs name →
    o ≡ Some (record { name = name; bytes = bytes })
by_place None fs n name bytes at h e b = cc
by_place (Some f) fs n name bytes at h e b =
    let same : f.name ≡ name = cc in
    let found : Some bytes ≡ Some f.bytes = b ∙ ap (bytes_under fs) (sym same) ∙ under_name fs n f h at in
    let whole : bytes ≡ f.bytes = cc in
    ap (λ (m : List ℕ). Some (record { name = m; bytes = f.bytes })) same ∙ ap (λ (m : List ℕ). Some (record { name = name; bytes = m })) (sym whole)

pub placed : (fs : List FileText) (n : ℕ) (name bytes : List ℕ) → Ascends fs → option_map (λ (f : FileText). f.name) (slice_get fs n) ≡ Some name → Some bytes ≡ bytes_under fs name → slice_get fs n ≡ Some (record { name = name; bytes = bytes })
placed fs n name bytes h e b = by_place (slice_get fs n) fs n name bytes refl h e b

-- a file at a place has bytes under its name
pub held : (fs : List FileText) (n : ℕ) (name : List ℕ) → Ascends fs → option_map (λ (f : FileText). f.name) (slice_get fs n) ≡ Some name → bytes_under fs name ≡ None → ⊥
held fs n name h e b = by_value (slice_get fs n) refl e
  where
    by_value : (o : Option FileText) → slice_get fs n ≡ o → option_map (λ (f : FileText). f.name) o ≡ Some name → ⊥
    by_value None at k = cc
    by_value (Some f) at k =
        let same : f.name ≡ name = cc in
        let found : bytes_under fs name ≡ Some f.bytes = ap (bytes_under fs) (sym same) ∙ under_name fs n f h at in
        cc
