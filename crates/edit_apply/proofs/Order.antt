-- The order of names, by index: what the search for a name goes by.
use Rattle.std.proofs.Common.{inl, inr, ◌≡◌, ℕ, zero, suc, ◌+◌, ◌<◌, List, [], ◌∷◌, length, get_or, sym, ap, subst, ◌∙◌, arith, false, true}
use Rattle.std.specs.declared.cmp.Ordering.TheVariants.{Equal, Greater}
use Rattle.std.specs.Ordering.{nat_cmp, ordering_reverse, is_eq}
use Rattle.std.specs.Cmp.Lexicographic.{slice_cmp, nat_list_cmp_total, nat_list_eq_equiv}
use Rattle.std.specs.FinMap.{slice_cmp-IsAntisymmetric, nat_cmp-IsAntisymmetric}
use Rattle.std.specs.Str.{bytes_eq}
use Rattle.std.specs.List.{AllWithin}
use Rattle.std.proofs.lemmas.Bool.Decides.{eqb_tells}
use Rattle.std.proofs.lemmas.List.Elements.{All-from_recursion}
use Rattle.std.proofs.lemmas.Map.Text.{is_eq-slice_cmp}
use Rattle.go_base.specs.declared.bytes.FileText.{FileText}
use Rattle.go_base.specs.Package.{ComesBefore, Ascends}

pub comes_before_trans : (a b c : List ℕ) → ComesBefore a b → ComesBefore b c → ComesBefore a c
comes_before_trans a b c h k = nat_list_cmp_total.trans a b c h k

pub apart : (a b : List ℕ) → ComesBefore a b → bytes_eq a b ≡ false
apart a b h = sym (is_eq-slice_cmp a b) ∙ ap is_eq h

pub apart_back : (a b : List ℕ) → ComesBefore a b → bytes_eq b a ≡ false
apart_back a b h = nat_list_eq_equiv.symm b a ∙ apart a b h

pub same_name : (a b : List ℕ) → a ≡ b → bytes_eq a b ≡ true
same_name a b h = subst (λ c. bytes_eq a c ≡ true) h (nat_list_eq_equiv.refl a)

pub behind : (a b : List ℕ) → slice_cmp nat_cmp a b ≡ Greater → ComesBefore b a
behind a b h = nat_list_cmp_total.antisymm b a ∙ ap ordering_reverse h

pub in_front : (a b : List ℕ) → ComesBefore a b → slice_cmp nat_cmp b a ≡ Greater
in_front a b h = nat_list_cmp_total.antisymm b a ∙ ap ordering_reverse h

pub ascends_at : (files : List FileText) → Ascends files → (i j : ℕ) (d : FileText) → i < j → j < length files → ComesBefore (get_or files i d).name (get_or files j d).name
ascends_at [] h i j d ij jl = absurd (omega arith)
ascends_at (f ∷ fs) h zero zero d ij jl = absurd (omega arith)
ascends_at (f ∷ fs) h zero (suc j) d ij jl = All-from_recursion (λ g. ComesBefore f.name g.name) fs h.0 j d (omega arith)
ascends_at (f ∷ fs) h (suc i) zero d ij jl = absurd (omega arith)
ascends_at (f ∷ fs) h (suc i) (suc j) d ij jl = ascends_at fs h.1 i j d (omega arith) (omega arith)

-- what comes before the name, up to a file that does
pub more_before : (files : List FileText) (name : List ℕ) (middle : ℕ) → Ascends files → middle < length files → ((d : FileText) → ComesBefore (get_or files middle d).name name) → AllWithin (λ f. ComesBefore f.name name) files 0 (middle + 1)
more_before files name middle h lt here k d low high =
    elim (eqb_tells k middle) as (λ _. ComesBefore (get_or files k d).name name) [
      | inl e ↦ subst (λ i. ComesBefore (get_or files i d).name name) (sym e.1) (here d)
      | inr e ↦ let ne = e.1 in comes_before_trans (get_or files k d).name (get_or files middle d).name name (ascends_at files h k middle d (omega (arith, ne)) lt) (here d)
    ]

-- what comes behind the name, from a file that does
pub more_behind : (files : List FileText) (name : List ℕ) (middle : ℕ) → Ascends files → middle < length files → ((d : FileText) → ComesBefore name (get_or files middle d).name) → AllWithin (λ f. ComesBefore name f.name) files middle (length files)
more_behind files name middle h lt here k d low high =
    elim (eqb_tells k middle) as (λ _. ComesBefore name (get_or files k d).name) [
      | inl e ↦ subst (λ i. ComesBefore name (get_or files i d).name) (sym e.1) (here d)
      | inr e ↦ let ne = e.1 in comes_before_trans name (get_or files middle d).name (get_or files k d).name (here d) (ascends_at files h middle k d (omega (arith, ne)) high)
    ]

pub same_from_equal : (a b : List ℕ) → slice_cmp nat_cmp a b ≡ Equal → a ≡ b
same_from_equal a b h = slice_cmp-IsAntisymmetric nat_cmp-IsAntisymmetric a b h
