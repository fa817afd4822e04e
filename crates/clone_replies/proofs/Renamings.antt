-- A package has the same names under other numbers of declared types, where as many of these have a place.
use Rattle.std.proofs.Common.{◌≡◌, ◌∙◌, ℕ, zero, suc, ◌<◌, ◌≤◌, Bool, true, false, List, [], ◌∷◌, ◌++◌, length, Option, Some, None, inl, inr, ◌⊎◌, refl, sym, ap, subst, slice_get, arith}
use Rattle.std.proofs.lemmas.Bool.Decides.{nat_tests}
use Rattle.std.proofs.lemmas.Option.{slice_get_past, slice_get_within}
use Rattle.std.specs.Prelude.{if◌then◌else◌, nat_lt, codes}
use Rattle.std.specs.Fmt.{decimal}
use Rattle.go_tree.specs.Uses.{UsesView, declared_as}
use Rattle.go_types.specs.Trees.{TypeTree, boolean, text, integer, array, slice, structure, function, declared, TypeRow, none, more}
use Rattle.go_types_relations.specs.Renaming.{renamed, renamed_row, IsOneToOne}
use Rattle.go_typed.specs.declared.origin.Origin.{Origin}
use Rattle.go_typed.specs.Contents.{Content, IsRenamed}
use Rattle.go_print.specs.Texts.{type_text, row_texts, fields_text, function_text, named}
use Rattle.clone_window.specs.declared.outline.Outline.{Outline}
use Rattle.clone_replies.proofs.Fields.{UnderlyingRenamed, fields-renamed}
use Rattle.go_print.specs.Names.{object_at}
use Rattle.clone_replies.specs.Names.{name_of, name_at, declared_name, declared_text, object_text}
use Rattle.clone_replies.proofs.Mapping.{Agree}
use Rattle.clone_replies.proofs.Holes.{Into, OneToOne, pigeonhole}
use Rattle.clone_replies.proofs.Names.{by-number, content_names}

-- ---- where declared types stand

-- the first numbers, and one that is none of them
abbrev picked : ℕ → ℕ → ℕ → ℕ
picked m n i = if nat_lt i m then i else n

abbrev IsPicked : ℕ → ℕ → ℕ → ℕ → Type 0
IsPicked m n i r = ((i < m) × (r ≡ i)) ⊎ ((m ≤ i) × (r ≡ n))

picked-by : (m n i : ℕ) (b : Bool) → nat_lt i m ≡ b → IsPicked m n i (if b then i else n)
picked-by m n i true e = inl (grind (arith, nat_tests, e), refl)
picked-by m n i false e = inr (grind (arith, nat_tests, e), refl)

picked-is : (m n i : ℕ) → IsPicked m n i (picked m n i)
picked-is m n i = picked-by m n i (nat_lt i m) refl

picked-once : (m n : ℕ) → m ≤ n → (i j : ℕ) → i < suc m → j < suc m → picked m n i ≡ picked m n j → i ≡ j
picked-once m n h i j p q e = both (picked-is m n i) (picked-is m n j) where
  both : IsPicked m n i (picked m n i) → IsPicked m n j (picked m n j) → i ≡ j
  both (inl u) (inl v) = omega (arith, u.1, v.1, e)
  both (inl u) (inr v) = absurd (omega (arith, u.0, u.1, v.1, e, h))
  both (inr u) (inl v) = absurd (omega (arith, v.0, v.1, u.1, e, h))
  both (inr u) (inr v) = omega (arith, u.0, v.0, p, q)

picked-few : (name : ℕ → ℕ) (m n : ℕ) → ((i : ℕ) → i < m → name i < m) → name n < m → Into (λ i. name (picked m n i)) (suc m) m
picked-few name m n few h i p = by (picked-is m n i) where
  by : IsPicked m n i (picked m n i) → name (picked m n i) < m
  by (inl u) = subst (λ k. name k < m) (sym u.1) (few i u.0)
  by (inr u) = subst (λ k. name k < m) (sym u.1) h

-- no further number has one of the first so many names
further : (name : ℕ → ℕ) (m n : ℕ) → IsOneToOne name → ((i : ℕ) → i < m → name i < m) → m ≤ n → m ≤ name n
further name m n one few h = by (nat_lt (name n) m) refl where
  by : (b : Bool) → nat_lt (name n) m ≡ b → m ≤ name n
  by false e = grind (arith, nat_tests, e)
  by true e =
      let low : name n < m = grind (arith, nat_tests, e) in
      let once : OneToOne (λ i. name (picked m n i)) (suc m) = λ i j p q s. picked-once m n h i j p q (one (picked m n i) (picked m n j) s) in
      absurd (omega (arith, pigeonhole (suc m) m (λ i. name (picked m n i)) (picked-few name m n few low) once))

there : {A : Type 0} (xs : List A) (i : ℕ) → i < length xs → (x : A) × (slice_get xs i ≡ Some x)
there [] i h = absurd (omega (arith, h))
there (x ∷ xs) zero h = (x, refl)
there (x ∷ xs) (suc i) h = there xs i (omega (arith, h))

module _ (name : ℕ → ℕ) (c d : Content) (h : IsRenamed name c d) (as_many : length c.origins ≡ length d.origins) where
  low-names : (i : ℕ) → i < length c.origins → name i < length c.origins
  low-names i lt =
      let x = there c.origins i lt in
      let k = slice_get_within d.origins (name i) x.0 (h.origins i x.0 x.1) in
      omega (arith, k, as_many)

  same-place : (n : ℕ) → slice_get d.origins (name n) ≡ slice_get c.origins n
  same-place n = by (nat_lt n (length c.origins)) refl where
    by : (b : Bool) → nat_lt n (length c.origins) ≡ b → slice_get d.origins (name n) ≡ slice_get c.origins n
    by true e =
        let low : n < length c.origins = grind (arith, nat_tests, e) in
        let x = there c.origins n low in
        h.origins n x.0 x.1 ∙ sym x.1
    by false e =
        let high : length c.origins ≤ n = grind (arith, nat_tests, e) in
        let none = further name (length c.origins) n h.one_to_one low-names high in
        slice_get_past d.origins (name n) (omega (arith, none, as_many)) ∙ sym (slice_get_past c.origins n high)

  -- ---- names

  same-names : (n : ℕ) → declared_name d (name n) ≡ declared_name c n
  same-names n =
      ap (name_at d) (same-place n)
      ∙ placed (slice_get c.origins n) where
        placed : (o : Option Origin) → name_at d o ≡ name_at c o
        placed None = refl
        placed (Some o) = ap (λ files. name_of files (declared_as d.uses (object_at o))) h.files ∙ ap (λ uses. name_of c.files (declared_as uses (object_at o))) h.uses

  same-object : (o : Outline) → object_text d o ≡ object_text c o
  same-object o =
      ap (λ files. by-number o (declared_text files o d.referents d.uses.package_level)) h.files
      ∙ ap (λ rs. by-number o (declared_text c.files o rs d.uses.package_level)) h.referents
      ∙ ap (λ (uses : UsesView). by-number o (declared_text c.files o c.referents uses.package_level)) h.uses

-- ---- texts of types

module _ (name : ℕ → ℕ) (old new : ℕ → List ℕ) (same : (n : ℕ) → new (name n) ≡ old n) where
  mutual
    text-renamed : (t : TypeTree) → type_text new (renamed name t) ≡ type_text old t
    text-renamed boolean = refl
    text-renamed text = refl
    text-renamed (integer k) = refl
    text-renamed (array n t) = ap (λ x. codes "[" ++ decimal n ++ codes "]" ++ x) (text-renamed t)
    text-renamed (slice t) = ap (λ x. codes "[]" ++ x) (text-renamed t)
    text-renamed (structure ns ts) = ap (λ xs. fields_text (named ns xs)) (row-renamed ts)
    text-renamed (function ps rs) = ap (λ xs. function_text xs (row_texts new (renamed_row name rs))) (row-renamed ps) ∙ ap (function_text (row_texts old ps)) (row-renamed rs)
    text-renamed (declared n) = same n

    row-renamed : (ts : TypeRow) → row_texts new (renamed_row name ts) ≡ row_texts old ts
    row-renamed none = refl
    row-renamed (more t ts) = ap (λ x. x ∷ row_texts new (renamed_row name ts)) (text-renamed t) ∙ ap (λ xs. type_text old t ∷ xs) (row-renamed ts)

pub renamed-agrees : UnderlyingRenamed → (name : ℕ → ℕ) (c d : Content) → IsRenamed name c d → length c.origins ≡ length d.origins → Agree (renamed name) (content_names c) (content_names d)
renamed-agrees law name c d h as_many = record {
  types = text-renamed name (declared_name c) (declared_name d) (same-names name c d h as_many);
  objects = same-object name c d h as_many;
  fields = fields-renamed law name c.rights d.rights h.rights;
}
