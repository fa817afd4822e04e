-- Texts as loops put them one behind the other.
use Rattle.std.proofs.Common.{◌≡◌, ◌∙◌, ℕ, zero, suc, ◌+◌, ◌<◌, ◌≤◌, List, [], ◌∷◌, ◌++◌, length, map, drop, get_or, Option, Some, None, slice_get, codes, refl, sym, ap, append_assoc, arith}
use Rattle.std.proofs.lemmas.List.{append-nil, drop_all, drop_more, map-append}
use Rattle.std.specs.Prelude.{slice_range}
use Rattle.go_base.specs.declared.Span.{Span}
use Rattle.go_tree.specs.Units.{Place}
use Rattle.go_typed.specs.Packages.{PackageView}
use Rattle.go_print.specs.Texts.{named}
use Rattle.go_print_laws.specs.Calls.{argument_text}
use Rattle.go_scopes_lookup.specs.Views.{place_of}
use Rattle.param_choose.specs.declared.choice.HoleParameter.{HoleParameter}
use Rattle.param_choose.specs.Holes.{holes}
use Rattle.param_choose.specs.Members.{Member}
use Rattle.extract_texts.specs.Shown.{named_if, types_shown, written}
use Rattle.extract_texts.specs.Texts.{constant_at, constants_at, with_names}

item-next : {A : Type 0} (xs : List A) (i : ℕ) (x d : A) → i < length xs → x ≡ get_or xs i d → drop i xs ≡ x ∷ drop (i + 1) xs
item-next xs i x d l e = drop_more xs i d l ∙ ap (λ y. y ∷ drop (i + 1) xs) (sym e)

drop-some : {A : Type 0} (xs : List A) (i : ℕ) (x : A) → slice_get xs i ≡ Some x → drop i xs ≡ x ∷ drop (i + 1) xs
drop-some [] i x e = cc
drop-some (y ∷ xs) zero x e = let same : y ≡ x = cc in ap (λ z. z ∷ xs) same
drop-some (y ∷ xs) (suc i) x e = let s : suc (i + 1) ≡ suc i + 1 = omega arith in drop-some xs i x e ∙ ap (λ j. x ∷ drop j (y ∷ xs)) s

drop-none : {A : Type 0} (xs : List A) (i : ℕ) → slice_get xs i ≡ None → (drop i xs ≡ []) × (drop (i + 1) xs ≡ [])
drop-none [] i e = (drop_all i [] (omega arith), drop_all (i + 1) [] (omega arith))
drop-none (y ∷ xs) zero e = cc
drop-none (y ∷ xs) (suc i) e = let s : suc (i + 1) ≡ suc i + 1 = omega arith in let h = drop-none xs i e in (h.0, sym (ap (λ j. drop j (y ∷ xs)) s) ∙ h.1)

-- ---- constants of a member

pub constants_next : (m : Member ℕ) (n : ℕ) (ns : List ℕ) →
    map argument_text (constants_at (n ∷ ns) m) ≡ map argument_text (constant_at (slice_get (holes m) n)) ++ map argument_text (constants_at ns m)
constants_next m n ns = map-append argument_text (constant_at (slice_get (holes m) n)) (constants_at ns m)

-- ---- parameters

named-at : (p : PackageView) (ns : List (List ℕ)) (i t : ℕ) (ts : List (List ℕ)) (o : Option (List ℕ)) → slice_get ns i ≡ o → named (drop i ns) (written p t ∷ ts) ≡ named_if p o t ++ named (drop (i + 1) ns) ts
named-at p ns i t ts None e =
    let none = drop-none ns i e in ap (λ ys. named ys (written p t ∷ ts)) none.0 ∙ sym (ap (λ ys. named ys ts) none.1)
named-at p ns i t ts (Some n) e = ap (λ ys. named ys (written p t ∷ ts)) (drop-some ns i n e)

pub named_more : (p : PackageView) (ns : List (List ℕ)) (xs : List HoleParameter) (i j : ℕ) (x d : HoleParameter) (before now whole : List (List ℕ)) → j ≡ i → i < length xs → x ≡ get_or xs i d →
    now ≡ before ++ named_if p (slice_get ns j) x.ty → before ++ named (drop i ns) (map (written p) (types_shown (drop i xs))) ≡ whole →
    now ++ named (drop (i + 1) ns) (map (written p) (types_shown (drop (i + 1) xs))) ≡ whole
named_more p ns xs i j x d before now whole same l e a h =
    let ts = map (written p) (types_shown (drop (i + 1) xs)) in
    ap (λ ys. ys ++ named (drop (i + 1) ns) ts) (a ∙ ap (λ k. before ++ named_if p (slice_get ns k) x.ty) same)
    ∙ append_assoc before (named_if p (slice_get ns i) x.ty) (named (drop (i + 1) ns) ts)
    ∙ ap (λ ys. before ++ ys) (sym (named-at p ns i x.ty ts (slice_get ns i) refl))
    ∙ ap (λ ys. before ++ named (drop i ns) (map (written p) (types_shown ys))) (sym (item-next xs i x d l e))
    ∙ h

pub named_all : (p : PackageView) (ns : List (List ℕ)) (xs : List HoleParameter) (i : ℕ) (before whole : List (List ℕ)) → length xs ≤ i →
    before ++ named (drop i ns) (map (written p) (types_shown (drop i xs))) ≡ whole → before ≡ whole
named_all p ns xs i before whole l h =
    sym (ap (λ ys. before ++ named (drop i ns) (map (written p) (types_shown ys))) (drop_all i xs l) ∙ ap (λ ys. before ++ ys) (none (drop i ns)) ∙ append-nil before) ∙ h
  where
    none : (ys : List (List ℕ)) → named ys [] ≡ []
    none [] = refl
    none (y ∷ ys) = refl

-- ---- bytes with names

no-names : (text : List ℕ) (at upto : ℕ) (ps : List Place) → with_names text at upto ps [] ≡ slice_range text at upto
no-names text at upto [] = refl
no-names text at upto (p ∷ ps) = refl

pub with_more : (text : List ℕ) (at upto : ℕ) (spans : List Span) (ns : List (List ℕ)) (i j : ℕ) (span d : Span) (n before now whole : List ℕ) → i < length spans → span ≡ get_or spans i d → j ≡ i → slice_get ns j ≡ Some n →
    now ≡ before ++ slice_range text at span.start ++ (codes " " ++ n ++ codes " ") → before ++ with_names text at upto (map place_of (drop i spans)) (drop i ns) ≡ whole →
    now ++ with_names text span.end upto (map place_of (drop (i + 1) spans)) (drop (i + 1) ns) ≡ whole
with_more text at upto spans ns i j span d n before now whole l e same k a h =
    let g : slice_get ns i ≡ Some n = ap (slice_get ns) (sym same) ∙ k in
    let rest = with_names text span.end upto (map place_of (drop (i + 1) spans)) (drop (i + 1) ns) in
    let part = slice_range text at span.start in
    let name = codes " " ++ n ++ codes " " in
    ap (λ xs. xs ++ rest) a
    ∙ append_assoc (before ++ part) name rest
    ∙ append_assoc before part (name ++ rest)
    ∙ ap (λ xs. before ++ xs) (sym (append_assoc part name rest) ∙ ap (λ xs. xs ++ rest) (sym (append_assoc part (codes " " ++ n) (codes " ")) ∙ ap (λ xs. xs ++ codes " ") (sym (append_assoc part (codes " ") n))))
    ∙ ap (λ ys. before ++ with_names text at upto (place_of span ∷ map place_of (drop (i + 1) spans)) ys) (sym (drop-some ns i n g))
    ∙ ap (λ ys. before ++ with_names text at upto (map place_of ys) (drop i ns)) (sym (item-next spans i span d l e))
    ∙ h

-- no more names
pub with_none : (text : List ℕ) (at upto : ℕ) (spans : List Span) (ns : List (List ℕ)) (i j : ℕ) (before whole : List ℕ) → j ≡ i → slice_get ns j ≡ None →
    before ++ with_names text at upto (map place_of (drop i spans)) (drop i ns) ≡ whole → before ++ slice_range text at upto ≡ whole
with_none text at upto spans ns i j before whole same g h =
    let none = drop-none ns i (ap (slice_get ns) (sym same) ∙ g) in
    ap (λ xs. before ++ xs) (sym (no-names text at upto (map place_of (drop i spans))))
    ∙ sym (ap (λ ys. before ++ with_names text at upto (map place_of (drop i spans)) ys) none.0)
    ∙ h

pub with_all : (text : List ℕ) (at upto : ℕ) (spans : List Span) (ns : List (List ℕ)) (i : ℕ) (before whole : List ℕ) → length spans ≤ i →
    before ++ with_names text at upto (map place_of (drop i spans)) (drop i ns) ≡ whole → before ++ slice_range text at upto ≡ whole
with_all text at upto spans ns i before whole l h = sym (ap (λ ys. before ++ with_names text at upto (map place_of ys) (drop i ns)) (drop_all i spans l)) ∙ h
