-- One more meaning among those that are sorted by their blocks.
use Rattle.std.proofs.Common.{◌≡◌, ℕ, Bool, true, false, ◌&&◌, if◌then◌else◌, nat_eq, cond, List, [], ◌∷◌, ◌++◌, Option, Some, None, refl, sym, ap, ◌∙◌, subst, arith}
use Rattle.std.specs.Option.{option_map, option_eq}
use Rattle.std.specs.Borrow.{Bor}
use Rattle.go_tokens.specs.Spellings.{same_text}
use Rattle.go_tree.specs.declared.context.Scope.{Scope}
use Rattle.go_tree.specs.declared.object.Extent.{Extent}
use Rattle.go_tree.specs.declared.object.Extent.TheVariants as extent
use Rattle.go_tree.specs.Meanings.{Meaning}
use Rattle.go_scopes_events.specs.Scopes.{is_local, locals_of}
use Rattle.go_scopes_lookup.specs.declared.meaning.Meaning as own
use Rattle.go_scopes_lookup.specs.declared.sorted.Outer.{Outer}
use Rattle.go_scopes_lookup.specs.Sorted.{in_block, outer_by, same_outer}
use Rattle.go_scopes_lookup.specs.Views.{meaning_view}
use Rattle.go_scopes_lookup.proofs.Stacks.{one_text}

both : (a b c d : Bool) → a ≡ c → b ≡ d → (a && b) ≡ (d && c)
both true true c d p q = cc
both true false c d p q = grind (arith, p, q)
both false true c d p q = grind (arith, p, q)
both false false c d p q = grind (arith, p, q)

in_package : (o : Option ℕ) → option_eq nat_eq None o ≡ in_block o extent.Everywhere
in_package None = refl
in_package (Some n) = refl

in_file : (n : ℕ) (o : Option ℕ) → option_eq nat_eq (Some n) o ≡ in_block o (extent.Throughout n)
in_file n None = refl
in_file n (Some m) = refl

same_by : (w : Bor (List ℕ)) (o : Option ℕ) (e : Extent) (key k : Outer) → Some (record { file = o; name = w }) ≡ Some key → option_eq nat_eq o k.file ≡ in_block k.file e → same_outer key k ≡ (same_text w.now k.name.now && in_block k.file e)
same_by w o e key k h f = subst (λ x. same_outer x k ≡ (same_text w.now k.name.now && in_block k.file e)) (some_same (record { file = o; name = w }) key h) (both _ _ _ _ f (one_text w.now k.name.now))
  where
    some_same : (x y : Outer) → Some x ≡ Some y → x ≡ y
    some_same x y e = cc

pub outer_key : (m : own.Meaning) (e : Extent) (key k : Outer) → outer_by m e ≡ Some key → same_outer key k ≡ (same_text m.entry.now.name.now k.name.now && in_block k.file e)
outer_key m extent.Everywhere key k h = same_by m.entry.now.name None extent.Everywhere key k h (in_package k.file)
outer_key m (extent.Throughout n) key k h = same_by m.entry.now.name (Some n) (extent.Throughout n) key k h (in_file n k.file)
outer_key m (extent.Between n s) key k h = cc

pub outer_put : (b : Bool) (m : own.Meaning) (g : Option own.Meaning) (o : Option Meaning) → option_map meaning_view g ≡ o → option_map meaning_view (cond b (Some m) g) ≡ (if b then Some (meaning_view m) else o)
outer_put true m g o e = refl
outer_put false m g o e = e

append_none : (xs : List Meaning) → xs ++ [] ≡ xs
append_none [] = refl
append_none (x ∷ xs) = ap (λ l. x ∷ l) (append_none xs)

locals_append : (n : ℕ) (ms : List Meaning) (m : Meaning) → locals_of n (ms ++ m ∷ []) ≡ locals_of n ms ++ (if is_local n m.extent then m ∷ [] else [])
locals_append n [] m = refl
locals_append n (x ∷ ms) m = by (is_local n x.extent) (locals_append n ms m)
  where
    by : (b : Bool) → locals_of n (ms ++ m ∷ []) ≡ locals_of n ms ++ (if is_local n m.extent then m ∷ [] else []) → (if b then x ∷ locals_of n (ms ++ m ∷ []) else locals_of n (ms ++ m ∷ [])) ≡ (if b then x ∷ locals_of n ms else locals_of n ms) ++ (if is_local n m.extent then m ∷ [] else [])
    by true e = ap (λ l. x ∷ l) e
    by false e = e

pub local_step : (n : ℕ) (m : Meaning) (ms old new : List Meaning) (b : Bool) → is_local n m.extent ≡ b → old ≡ locals_of n ms → (b ≡ true → new ≡ old ++ m ∷ []) → (b ≡ false → new ≡ old) → new ≡ locals_of n (ms ++ m ∷ [])
local_step n m ms old new true e h f g = f refl ∙ ap (λ l. l ++ m ∷ []) h ∙ ap (λ c. locals_of n ms ++ (if c then m ∷ [] else [])) (sym e) ∙ sym (locals_append n ms m)
local_step n m ms old new false e h f g = g refl ∙ h ∙ sym (append_none (locals_of n ms)) ∙ ap (λ c. locals_of n ms ++ (if c then m ∷ [] else [])) (sym e) ∙ sym (locals_append n ms m)

pub not_local : (n : ℕ) (e : Extent) → ((f : ℕ) (s : Scope) → e ≡ extent.Between f s → ⊥) → is_local n e ≡ false
not_local n extent.Everywhere h = refl
not_local n (extent.Throughout m) h = refl
not_local n (extent.Between m s) h = absurd (h m s refl)
