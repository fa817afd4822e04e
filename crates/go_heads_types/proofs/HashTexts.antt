-- Types that match have one text.
use Rattle.std.proofs.Common.{◌≡◌, ◌∙◌, ℕ, Bool, true, List, [], ◌∷◌, ◌++◌, refl, sym, ap}
use Rattle.std.specs.Prelude.{if◌then◌else◌, nat_eq, codes}
use Rattle.std.specs.Fmt.{decimal}
use Rattle.std.proofs.lemmas.Bool.{and_parts, eqb-true}
use Rattle.go_ints.specs.declared.kinds.Kind.{Kind}
use Rattle.go_ints.specs.declared.kinds.Kind.TheVariants as kind
use Rattle.go_types.specs.Keys.{kind_number}
use Rattle.go_types.specs.Tables.{type_of}
use Rattle.go_types.specs.Trees.{TypeTree, boolean, text, integer, array, slice, structure, function, declared, TypeRow, none, more}
use Rattle.go_types_relations.specs.Identity.{same_name, same_names}
use Rattle.go_typed.specs.Packages.{PackageView}
use Rattle.go_print.specs.Names.{declared_name}
use Rattle.go_print.specs.Texts.{fields_text, function_text, kind_text, named, row_texts, type_text}
use Rattle.clone_classes.specs.Heads.{all_match, corresponds, identical_between, matches}
use Rattle.alpha_hash_defs.specs.Sharing.{ShareNames}
use Rattle.alpha_hash_defs.proofs.Public.{name-is}
use Rattle.go_heads_types.specs.Names.{AreNamedAlike}

-- the text of the kind of this number
abbrev numbered : ℕ → List ℕ
numbered n =
    if nat_eq n 0 then codes "int8" else
    if nat_eq n 1 then codes "int16" else
    if nat_eq n 2 then codes "int32" else
    if nat_eq n 3 then codes "int64" else
    if nat_eq n 4 then codes "uint8" else
    if nat_eq n 5 then codes "uint16" else
    if nat_eq n 6 then codes "uint32" else
    if nat_eq n 7 then codes "uint64" else
    if nat_eq n 8 then codes "int" else
    if nat_eq n 9 then codes "uint" else []

by-number : (k : Kind) → kind_text k ≡ numbered (kind_number k)
by-number kind.Int8 = refl
by-number kind.Int16 = refl
by-number kind.Int32 = refl
by-number kind.Int64 = refl
by-number kind.Uint8 = refl
by-number kind.Uint16 = refl
by-number kind.Uint32 = refl
by-number kind.Uint64 = refl
by-number kind.Int = refl
by-number kind.Uint = refl

one-kind : (k l : Kind) → nat_eq (kind_number k) (kind_number l) ≡ true → kind_text k ≡ kind_text l
one-kind k l h = by-number k ∙ ap numbered (eqb-true (kind_number k) (kind_number l) h) ∙ sym (by-number l)

pub names-are : (ns ms : List (List ℕ)) → same_names ns ms ≡ true → ns ≡ ms
names-are [] [] h = refl
names-are [] (m ∷ ms) h = cc
names-are (n ∷ ns) [] h = cc
names-are (n ∷ ns) (m ∷ ms) h =
    let p = and_parts (same_name n m) (same_names ns ms) h in
    ap (λ x. x ∷ ns) (name-is n m p.0) ∙ ap (λ xs. m ∷ xs) (names-are ns ms p.1)

-- declared types that pass a test have one name
abbrev OneName : (ℕ → ℕ → Bool) → (ℕ → List ℕ) → (ℕ → List ℕ) → Type 0
OneName d old new = (n m : ℕ) → d n m ≡ true → old n ≡ new m

mutual
  one-text : (d : ℕ → ℕ → Bool) (old new : ℕ → List ℕ) → OneName d old new → (t u : TypeTree) → matches d t u ≡ true → type_text old t ≡ type_text new u
  one-text d old new one boolean boolean h = refl
  one-text d old new one boolean text h = cc
  one-text d old new one boolean (integer l) h = cc
  one-text d old new one boolean (array m u) h = cc
  one-text d old new one boolean (slice u) h = cc
  one-text d old new one boolean (structure ms us) h = cc
  one-text d old new one boolean (function qs ss) h = cc
  one-text d old new one boolean (declared m) h = cc
  one-text d old new one text boolean h = cc
  one-text d old new one text text h = refl
  one-text d old new one text (integer l) h = cc
  one-text d old new one text (array m u) h = cc
  one-text d old new one text (slice u) h = cc
  one-text d old new one text (structure ms us) h = cc
  one-text d old new one text (function qs ss) h = cc
  one-text d old new one text (declared m) h = cc
  one-text d old new one (integer k) boolean h = cc
  one-text d old new one (integer k) text h = cc
  one-text d old new one (integer k) (integer l) h = one-kind k l h
  one-text d old new one (integer k) (array m u) h = cc
  one-text d old new one (integer k) (slice u) h = cc
  one-text d old new one (integer k) (structure ms us) h = cc
  one-text d old new one (integer k) (function qs ss) h = cc
  one-text d old new one (integer k) (declared m) h = cc
  one-text d old new one (array n t) boolean h = cc
  one-text d old new one (array n t) text h = cc
  one-text d old new one (array n t) (integer l) h = cc
  one-text d old new one (array n t) (array m u) h =
      let p = and_parts (nat_eq n m) (matches d t u) h in
      ap (λ x. codes "[" ++ decimal x ++ codes "]" ++ type_text old t) (eqb-true n m p.0) ∙ ap (λ x. codes "[" ++ decimal m ++ codes "]" ++ x) (one-text d old new one t u p.1)
  one-text d old new one (array n t) (slice u) h = cc
  one-text d old new one (array n t) (structure ms us) h = cc
  one-text d old new one (array n t) (function qs ss) h = cc
  one-text d old new one (array n t) (declared m) h = cc
  one-text d old new one (slice t) boolean h = cc
  one-text d old new one (slice t) text h = cc
  one-text d old new one (slice t) (integer l) h = cc
  one-text d old new one (slice t) (array m u) h = cc
  one-text d old new one (slice t) (slice u) h = ap (λ x. codes "[]" ++ x) (one-text d old new one t u h)
  one-text d old new one (slice t) (structure ms us) h = cc
  one-text d old new one (slice t) (function qs ss) h = cc
  one-text d old new one (slice t) (declared m) h = cc
  one-text d old new one (structure ns ts) boolean h = cc
  one-text d old new one (structure ns ts) text h = cc
  one-text d old new one (structure ns ts) (integer l) h = cc
  one-text d old new one (structure ns ts) (array m u) h = cc
  one-text d old new one (structure ns ts) (slice u) h = cc
  one-text d old new one (structure ns ts) (structure ms us) h =
      let p = and_parts (same_names ns ms) (all_match d ts us) h in
      ap (λ xs. fields_text (named xs (row_texts old ts))) (names-are ns ms p.0) ∙ ap (λ xs. fields_text (named ms xs)) (row-text d old new one ts us p.1)
  one-text d old new one (structure ns ts) (function qs ss) h = cc
  one-text d old new one (structure ns ts) (declared m) h = cc
  one-text d old new one (function ps rs) boolean h = cc
  one-text d old new one (function ps rs) text h = cc
  one-text d old new one (function ps rs) (integer l) h = cc
  one-text d old new one (function ps rs) (array m u) h = cc
  one-text d old new one (function ps rs) (slice u) h = cc
  one-text d old new one (function ps rs) (structure ms us) h = cc
  one-text d old new one (function ps rs) (function qs ss) h =
      let p = and_parts (all_match d ps qs) (all_match d rs ss) h in
      ap (λ xs. function_text xs (row_texts old rs)) (row-text d old new one ps qs p.0) ∙ ap (function_text (row_texts new qs)) (row-text d old new one rs ss p.1)
  one-text d old new one (function ps rs) (declared m) h = cc
  one-text d old new one (declared n) boolean h = cc
  one-text d old new one (declared n) text h = cc
  one-text d old new one (declared n) (integer l) h = cc
  one-text d old new one (declared n) (array m u) h = cc
  one-text d old new one (declared n) (slice u) h = cc
  one-text d old new one (declared n) (structure ms us) h = cc
  one-text d old new one (declared n) (function qs ss) h = cc
  one-text d old new one (declared n) (declared m) h = one n m h

  row-text : (d : ℕ → ℕ → Bool) (old new : ℕ → List ℕ) → OneName d old new → (ts us : TypeRow) → all_match d ts us ≡ true → row_texts old ts ≡ row_texts new us
  row-text d old new one none none h = refl
  row-text d old new one none (more u us) h = cc
  row-text d old new one (more t ts) none h = cc
  row-text d old new one (more t ts) (more u us) h =
      let p = and_parts (matches d t u) (all_match d ts us) h in
      ap (λ x. x ∷ row_texts old ts) (one-text d old new one t u p.0) ∙ ap (λ xs. type_text new u ∷ xs) (row-text d old new one ts us p.1)

pub share : (p q : PackageView) → AreNamedAlike p q → ShareNames (identical_between p q) p q
share p q h = record {
  types = λ t u e. one-text (corresponds p q) (declared_name p) (declared_name q) h.types (type_of p.types.shapes t) (type_of q.types.shapes u) e;
  objects = h.objects;
}
