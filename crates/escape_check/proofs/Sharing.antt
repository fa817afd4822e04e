-- Windows that no refusal speaks of have no token in common.
use Rattle.std.proofs.Common.{◌≡◌, ◌∙◌, ℕ, suc, Bool, true, false, List, [], ◌∷◌, ◌++◌, Option, Some, None, refl, sym, ap, arith}
use Rattle.std.proofs.lemmas.Bool.{both_ways, false_from_ne_true}
use Rattle.std.proofs.lemmas.Bool.Decides.{nat_tests}
use Rattle.std.specs.Prelude.{◌||◌}
use Rattle.std.specs.List.{AllByRecursion, list_any}
use Rattle.std.specs.Option.{option_map}
use Rattle.go_types.specs.Trees.{TypeTree}
use Rattle.go_typed.specs.declared.window.Window.{Window}
use Rattle.go_typed.specs.Contents.{Content}
use Rattle.param_choose.specs.Locals.{is_array}
use Rattle.param_choose.specs.Members.{Member, members_of, template_of}
use Rattle.escape_check.specs.Apart.{AllApart, AreApart}
use Rattle.escape_check.specs.Places.{Place, Refused, Sources, first_of, or_refused, place_if, refused_at, reported, sources_of, window_place}
use Rattle.escape_check.specs.Refusals.{refused, refused_among}
use Rattle.escape_check.specs.Statements.{meets, overlap_from, overlap_refused}
use Rattle.escape_check.specs.Tokens.{has_token}

left_over : (n : ℕ) (b : Bool) (w : Place) (other : Option Refused) → refused_at 3 n (first_of (place_if b w)) other ≡ None → (b ≡ false) × (other ≡ None)
left_over n true w other h = cc
left_over n false w other h = (refl, h)

neither : (a b : Bool) → (a || b) ≡ false → (a ≡ false) × (b ≡ false)
neither true b h = cc
neither false b h = (refl, h)

module _ {T : Type 0} where
  common : (m n : Member T) (func token : ℕ) → has_token func token m ≡ true → has_token func token n ≡ true → meets m n ≡ true
  common m n func token a b = grind (arith, nat_tests)

  apart : (m n : Member T) → meets n m ≡ false → AreApart m n
  apart m n e func token a = false_from_ne_true (has_token func token n) (λ b. both_ways (meets n m) e (common n m func token b a))

  none_meets : (m : Member T) (es : List (Member T)) → list_any (meets m) es ≡ false → AllByRecursion (λ e. AreApart e m) es
  none_meets m [] h = tt
  none_meets m (e ∷ es) h = let both = neither (meets m e) (list_any (meets m) es) h in (apart e m both.0, none_meets m es both.1)

  front : (P : Member T → Type 0) (es : List (Member T)) (m : Member T) → AllByRecursion P (es ++ m ∷ []) → AllByRecursion P es × P m
  front P [] m h = (tt, h.0)
  front P (e ∷ es) m h = let rest = front P es m h.1 in ((h.0, rest.0), rest.1)

  -- of members behind others, each is apart from those others and from one more
  split : (es : List (Member T)) (m : Member T) (ks : List (Member T)) → AllByRecursion (λ k. AllByRecursion (λ e. AreApart e k) (es ++ m ∷ [])) ks →
      AllByRecursion (λ k. AllByRecursion (λ e. AreApart e k) es) ks × AllByRecursion (AreApart m) ks
  split es m [] h = (tt, tt)
  split es m (k ∷ ks) h =
      let here = front (λ e. AreApart e k) es m h.0 in
      let rest = split es m ks h.1 in
      ((here.0, rest.0), (here.1, rest.1))

  apart_from : (s : Sources) (n : ℕ) (es ms : List (Member T)) → overlap_from s n es ms ≡ None → AllByRecursion (λ m. AllByRecursion (λ e. AreApart e m) es) ms × AllApart ms
  apart_from s n es [] h = (tt, tt)
  apart_from s n es (m ∷ ms) h =
      let left = left_over n (list_any (meets m) es) (window_place s m) (overlap_from s (suc n) (es ++ m ∷ []) ms) h in
      let rest = apart_from s (suc n) (es ++ m ∷ []) ms left.1 in
      let parts = split es m ms rest.0 in
      ((none_meets m es left.0, parts.0), (parts.1, rest.1))

first_none : (r q : Option Refused) → or_refused r q ≡ None → r ≡ None
first_none (Some r) q h = cc
first_none None q h = refl

nothing_reported : {A B : Type 0} (f : A → B) (o : Option A) → option_map f o ≡ None → o ≡ None
nothing_reported f (Some x) h = cc
nothing_reported f None h = refl

pub unrefused_apart : (c : Content) (name : List ℕ) (ws : List Window) (t : Member TypeTree) → template_of c ws ≡ Some t → refused c name ws ≡ None → AllApart (members_of c ws)
unrefused_apart c name ws t there h =
    let s = sources_of c in
    let ms = members_of c ws in
    let among : Option (Member TypeTree) → Option Refused = λ o. refused_among (λ t. t) (is_array c.rights) s c.functions name o ms in
    let none : among (Some t) ≡ None = sym (ap among there) ∙ nothing_reported (reported s) (among (template_of c ws)) h in
    (apart_from s 0 [] ms (first_none (overlap_refused s ms) _ none)).1
