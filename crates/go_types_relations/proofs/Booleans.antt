-- Booleans, and answers put together from two.
use Rattle.std.proofs.Common.{◌≡◌, ◌⊎◌, inl, inr, Option, Some, None, refl, sym, ap, ◌∙◌, Bool, true, false}
use Rattle.std.specs.Prelude.{◌&&◌, ◌||◌, not, ◌↔◌, IsTrue}
use Rattle.std.specs.Option.{option_map}
use Rattle.std.proofs.lemmas.Option.{same_Some}
use Rattle.go_types_relations.specs.Questions.{on_both}

-- ---- booleans

pub bool_same : {P : Type 0} (a b : Bool) → IsTrue a ↔ P → (b ≡ true → P) → (P → b ≡ true) → a ≡ b
bool_same true b h f g = sym (g (h.0 refl))
bool_same false true h f g = h.1 (f refl)
bool_same false false h f g = refl

pub holds : {P : Type 0} (b : Bool) → IsTrue b ↔ P → b ≡ true → P
holds b h e = h.0 e

pub fails : {P : Type 0} (b : Bool) → IsTrue b ↔ P → b ≡ false → P → ⊥
fails b h e p = let wrong : true ≡ false = sym (h.1 p) ∙ e in cc

pub and_parts : (a b : Bool) → (a && b) ≡ true → (a ≡ true) × (b ≡ true)
and_parts true b e = (refl, e)
and_parts false b e = cc

pub and_true : (a b : Bool) → a ≡ true → b ≡ true → (a && b) ≡ true
and_true a b e f = ap (λ x. x && b) e ∙ f

pub or_parts : (a b : Bool) → (a || b) ≡ true → (a ≡ true) ⊎ (b ≡ true)
or_parts true b e = inl refl
or_parts false b e = inr e

pub or_true : (a : Bool) → (a || true) ≡ true
or_true true = refl
or_true false = refl

pub or_false : (a : Bool) → (a || false) ≡ a
or_false true = refl
or_false false = refl

pub not_true : (a : Bool) → not a ≡ true → a ≡ false
not_true true e = cc
not_true false e = refl

-- true of one exactly where of the other
pub same_truth : (a b : Bool) → (a ≡ true → b ≡ true) → (b ≡ true → a ≡ true) → a ≡ b
same_truth true b f g = sym (f refl)
same_truth false true f g = g refl
same_truth false false f g = refl

-- ---- options

pub both_parts : {X Y Z : Type 0} (f : X → Y → Z) (a : Option X) (b : Option Y) (z : Z) → on_both f a b ≡ Some z → (x : X) × (y : Y) × (a ≡ Some x) × (b ≡ Some y) × (f x y ≡ z)
both_parts f None b z e = cc
both_parts f (Some x) None z e = cc
both_parts f (Some x) (Some y) z e = (x, y, refl, refl, same_Some (f x y) z e)

pub both_some : {X Y Z : Type 0} (f : X → Y → Z) (a : Option X) (b : Option Y) (x : X) (y : Y) → a ≡ Some x → b ≡ Some y → on_both f a b ≡ Some (f x y)
both_some f a b x y e g = ap (λ o. on_both f o b) e ∙ ap (on_both f (Some x)) g

pub map_part : {X Y : Type 0} (f : X → Y) (a : Option X) (y : Y) → option_map f a ≡ Some y → (x : X) × (a ≡ Some x) × (f x ≡ y)
map_part f None y e = cc
map_part f (Some x) y e = (x, refl, same_Some (f x) y e)

pub map_itself : {X : Type 0} (a : Option X) → option_map (λ x. x) a ≡ a
map_itself None = refl
map_itself (Some x) = refl
