-- Where the tokens of a file stand further on, its names mean the same.
use Rattle.std.proofs.Common.{◌≡◌, ◌∙◌, ◌+◌, ℕ, Bool, true, false, List, [], ◌∷◌, Option, Some, None, map, refl, sym, ap, subst, arith}
use Rattle.std.specs.Prelude.{nat_eq, nat_le, nat_lt, ◌&&◌, if◌then◌else◌}
use Rattle.std.specs.Option.{option_map}
use Rattle.std.proofs.lemmas.Bool.Decides.{nat_tests}
use Rattle.go_tokens.specs.Spellings.{same_text}
use Rattle.go_tree.specs.declared.context.Scope.{Scope}
use Rattle.go_tree.specs.declared.object.Extent.{Extent}
use Rattle.go_tree.specs.declared.object.Extent.TheVariants as extent
use Rattle.go_tree.specs.Units.{is_blank}
use Rattle.go_tree.specs.Extents.{covers, lies_inside}
use Rattle.go_tree.specs.Meanings.{Meaning, covering, is_innermost, innermost_of, meaning_at}
use Rattle.go_tree.specs.Objects.{object_by, object_at}
use Rattle.go_scopes_events.specs.Moved.{moved_scope, moved_extent, moved_meaning}

le_moved : (n a b : ℕ) → nat_le (n + a) (n + b) ≡ nat_le a b
le_moved n a b = grind (arith, nat_tests)

less_moved : (n a b : ℕ) → nat_lt (n + a) (n + b) ≡ nat_lt a b
less_moved n a b = grind (arith, nat_tests)

between_moved : (n t : ℕ) (s : Scope) (b : Bool) → (b && nat_le (if b then moved_scope n s else s).from (n + t) && nat_lt (n + t) (if b then moved_scope n s else s).to) ≡ (b && nat_le s.from t && nat_lt t s.to)
between_moved n t s true = ap (λ x. x && nat_lt (n + t) (n + s.to)) (le_moved n s.from t) ∙ ap (λ x. nat_le s.from t && x) (less_moved n t s.to)
between_moved n t s false = refl

covers_moved : (m n t : ℕ) (e : Extent) → covers (moved_extent m n e) m (n + t) ≡ covers e m t
covers_moved m n t extent.Everywhere = refl
covers_moved m n t (extent.Throughout k) = refl
covers_moved m n t (extent.Between k s) = between_moved n t s (nat_eq k m)

inside_moved : (n : ℕ) (r s : Scope) (b : Bool) → (nat_le (if b then moved_scope n r else r).from (if b then moved_scope n s else s).from && nat_le (if b then moved_scope n s else s).to (if b then moved_scope n r else r).to) ≡ (nat_le r.from s.from && nat_le s.to r.to)
inside_moved n r s true = ap (λ x. x && nat_le (n + s.to) (n + r.to)) (le_moved n r.from s.from) ∙ ap (λ x. nat_le r.from s.from && x) (le_moved n s.to r.to)
inside_moved n r s false = refl

same_number : (k l : ℕ) → nat_eq k l ≡ true → k ≡ l
same_number k l e = grind (arith, e)

and_same : (b x y : Bool) → (b ≡ true → x ≡ y) → (b && x) ≡ (b && y)
and_same true x y h = h refl
and_same false x y h = refl

and_assoc : (a b c : Bool) → (a && b && c) ≡ (a && (b && c))
and_assoc true b c = refl
and_assoc false b c = refl

lies_moved : (m n : ℕ) (e f : Extent) → lies_inside (moved_extent m n e) (moved_extent m n f) ≡ lies_inside e f
lies_moved m n extent.Everywhere extent.Everywhere = refl
lies_moved m n (extent.Throughout k) extent.Everywhere = refl
lies_moved m n (extent.Between k s) extent.Everywhere = refl
lies_moved m n extent.Everywhere (extent.Throughout l) = refl
lies_moved m n (extent.Throughout k) (extent.Throughout l) = refl
lies_moved m n (extent.Between k s) (extent.Throughout l) = refl
lies_moved m n extent.Everywhere (extent.Between l r) = refl
lies_moved m n (extent.Throughout k) (extent.Between l r) = refl
lies_moved m n (extent.Between k s) (extent.Between l r) =
    let s' : Bool → Scope = λ b. if b then moved_scope n s else s in
    let r' : Bool → Scope = λ b. if b then moved_scope n r else r in
    let at : Bool → Bool → Bool = λ a b. nat_le (r' b).from (s' a).from && nat_le (s' a).to (r' b).to in
    and_assoc (nat_eq k l) (nat_le (r' (nat_eq l m)).from (s' (nat_eq k m)).from) (nat_le (s' (nat_eq k m)).to (r' (nat_eq l m)).to)
    ∙ and_same (nat_eq k l) (at (nat_eq k m) (nat_eq l m)) (nat_le r.from s.from && nat_le s.to r.to)
    (λ e. ap (λ x. at (nat_eq k m) (nat_eq x m)) (sym (same_number k l e)) ∙ inside_moved n r s (nat_eq k m))
    ∙ sym (and_assoc (nat_eq k l) (nat_le r.from s.from) (nat_le s.to r.to))

if_moved : {A B : Type 0} (f : A → B) (b : Bool) (x y : A) → (if b then f x else f y) ≡ f (if b then x else y)
if_moved f true x y = refl
if_moved f false x y = refl

module _ (m n : ℕ) where
  covering_moved : (t : ℕ) (w : List ℕ) (ms : List Meaning) → covering m (n + t) w (map (moved_meaning m n) ms) ≡ map (moved_meaning m n) (covering m t w ms)
  covering_moved t w [] = refl
  covering_moved t w (x ∷ xs) =
      ap (λ b. if same_text x.name w && b then moved_meaning m n x ∷ covering m (n + t) w (map (moved_meaning m n) xs) else covering m (n + t) w (map (moved_meaning m n) xs)) (covers_moved m n t x.extent)
      ∙ ap (λ ys. if same_text x.name w && covers x.extent m t then moved_meaning m n x ∷ ys else ys) (covering_moved t w xs)
      ∙ if_moved (map (moved_meaning m n)) (same_text x.name w && covers x.extent m t) (x ∷ covering m t w xs) (covering m t w xs)

  innermost_moved : (e : Extent) (ms : List Meaning) → is_innermost (moved_extent m n e) (map (moved_meaning m n) ms) ≡ is_innermost e ms
  innermost_moved e [] = refl
  innermost_moved e (x ∷ xs) = ap (λ b. b && is_innermost (moved_extent m n e) (map (moved_meaning m n) xs)) (lies_moved m n e x.extent) ∙ ap (λ b. lies_inside e x.extent && b) (innermost_moved e xs)

  found_moved : (all ms : List Meaning) → innermost_of (map (moved_meaning m n) all) (map (moved_meaning m n) ms) ≡ option_map (moved_meaning m n) (innermost_of all ms)
  found_moved all [] = refl
  found_moved all (x ∷ xs) =
      ap (λ b. if b then Some (moved_meaning m n x) else innermost_of (map (moved_meaning m n) all) (map (moved_meaning m n) xs)) (innermost_moved x.extent all)
      ∙ ap (λ o. if is_innermost x.extent all then Some (moved_meaning m n x) else o) (found_moved all xs)
      ∙ if_moved (option_map (moved_meaning m n)) (is_innermost x.extent all) (Some x) (innermost_of all xs)

  pub meaning_moved : (t : ℕ) (w : List ℕ) (ms : List Meaning) → meaning_at (map (moved_meaning m n) ms) m (n + t) w ≡ option_map (moved_meaning m n) (meaning_at ms m t w)
  meaning_moved t w ms =
      ap (λ xs. innermost_of xs xs) (covering_moved t w ms)
      ∙ found_moved (covering m t w ms) (covering m t w ms)

  object_by_moved : (w : List ℕ) (o : Option Meaning) → object_by w (option_map (moved_meaning m n) o) ≡ object_by w o
  object_by_moved w None = refl
  object_by_moved w (Some x) = refl

  pub object_moved : (t : ℕ) (w : List ℕ) (ms : List Meaning) → object_at (map (moved_meaning m n) ms) m (n + t) w ≡ object_at ms m t w
  object_moved t w ms = ap (λ o. if is_blank w then None else o) (ap (object_by w) (meaning_moved t w ms) ∙ object_by_moved w (meaning_at ms m t w))
