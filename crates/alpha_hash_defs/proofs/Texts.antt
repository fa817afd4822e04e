-- Values and types that are the same have one text.
use Rattle.std.proofs.Common.{◌≡◌, ℕ, Bool, true, false, List, [], ◌∷◌, Option, Some, None, refl, ap, ◌∙◌}
use Rattle.std.specs.Prelude.{◌&&◌, nat_eq}
use Rattle.std.specs.Fmt.{signed_decimal}
use Rattle.std.proofs.lemmas.Bool.{and_parts, eqb-true}
use Rattle.std.proofs.lemmas.Bool.Decides.{Decides-int_eq}
use Rattle.go_types_relations.specs.Identity.{same_name}
use Rattle.go_constants.specs.declared.values.Const.{Const}
use Rattle.go_constants.specs.declared.values.Const.TheVariants as const
use Rattle.go_print.specs.Literals.{literal_text}
use Rattle.go_typed.specs.Trees.{Sort}
use Rattle.clone_window.specs.Sameness.{same_value, const_kind, Final, of_type, of_kind, of_none, final, same_final, standing, value_of, same_values, are_alike, same_literal}
use Rattle.alpha_hash_defs.specs.Alike.{NamesAgree}
use Rattle.alpha_hash_defs.specs.Naming.{Naming, final_text, untyped_text}
use Rattle.alpha_hash_defs.specs.Words.{value_text}

pub name-is : (xs ys : List ℕ) → same_name xs ys ≡ true → xs ≡ ys
name-is [] [] h = refl
name-is [] (y ∷ ys) h = cc
name-is (x ∷ xs) [] h = cc
name-is (x ∷ xs) (y ∷ ys) h =
    let p = and_parts (nat_eq x y) (same_name xs ys) h in
    ap (λ n. n ∷ xs) (eqb-true x y p.0) ∙ ap (λ l. y ∷ l) (name-is xs ys p.1)

value-text : (a b : Const) → same_value a b ≡ true → literal_text a ≡ literal_text b
value-text (const.Bool true) (const.Bool true) h = refl
value-text (const.Bool true) (const.Bool false) h = cc
value-text (const.Bool false) (const.Bool true) h = cc
value-text (const.Bool false) (const.Bool false) h = refl
value-text (const.Bool a) (const.Int b n) h = cc
value-text (const.Bool a) (const.Text b) h = cc
value-text (const.Int a m) (const.Bool b) h = cc
value-text (const.Int a m) (const.Int b n) h = ap signed_decimal ((Decides-int_eq a b).0 h)
value-text (const.Int a m) (const.Text b) h = cc
value-text (const.Text a) (const.Bool b) h = cc
value-text (const.Text a) (const.Int b n) h = cc
value-text (const.Text a) (const.Text b) h = ap (λ l. literal_text (const.Text l)) (name-is a b h)

values-text : (a b : Option Const) → same_values a b ≡ true → value_text a ≡ value_text b
values-text None None h = refl
values-text None (Some b) h = cc
values-text (Some a) None h = cc
values-text (Some a) (Some b) h = value-text a b h

pub literals-text : (a b : Option Const) → same_literal a b ≡ true → value_text a ≡ value_text b
literals-text None None h = refl
literals-text None (Some b) h = cc
literals-text (Some a) None h = cc
literals-text (Some a) (Some b) h = value-text a b (and_parts (nat_eq (const_kind a) (const_kind b)) (same_value a b) h).1

pub finals-text : {T : Type 0} (d : T → T → Bool) (n m : Naming T) → NamesAgree d n m → (x y : Final T) → same_final d x y ≡ true → final_text n x ≡ final_text m y
finals-text d n m names (of_type t) (of_type u) h = names.types t u h
finals-text d n m names (of_type t) (of_kind k) h = cc
finals-text d n m names (of_type t) of_none h = cc
finals-text d n m names (of_kind k) (of_type u) h = cc
finals-text d n m names (of_kind k) (of_kind l) h = ap untyped_text (eqb-true k l h)
finals-text d n m names (of_kind k) of_none h = cc
finals-text d n m names of_none (of_type u) h = cc
finals-text d n m names of_none (of_kind k) h = cc
finals-text d n m names of_none of_none h = refl

-- of what is alike
pub record SameTexts {T : Type 0} (n m : Naming T) (s t : Sort T) : Type 0 where
  pub type_is : final_text n (final s) ≡ final_text m (final t)
  pub value_is : value_text (value_of s) ≡ value_text (value_of t)

pub alike-texts : {T : Type 0} (d : T → T → Bool) (n m : Naming T) → NamesAgree d n m → (s t : Sort T) → are_alike d s t ≡ true → SameTexts n m s t
alike-texts d n m names s t h =
    let a = nat_eq (standing s) (standing t) in
    let b = same_final d (final s) (final t) in
    let p = and_parts (a && b) (same_values (value_of s) (value_of t)) h in
    record { type_is = finals-text d n m names (final s) (final t) (and_parts a b p.0).1; value_is = values-text (value_of s) (value_of t) p.1 }
