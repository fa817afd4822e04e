-- Members outside of functions stand once in their groups where they did.
use Rattle.std.proofs.Common.{◌≡◌, ◌∙◌, ℕ, Bool, true, false, List, [], ◌∷◌, ◌++◌, map, refl, sym, ap, arith}
use Rattle.std.specs.Prelude.{◌&&◌, ◌||◌, not, nat_eq}
use Rattle.std.proofs.lemmas.Bool.Decides.{nat_tests}
use Rattle.std.proofs.lemmas.List.{map-append}
use Rattle.go_tokens.specs.Spellings.{same_text}
use Rattle.go_tree.specs.declared.event.Event.{Event}
use Rattle.go_tree.specs.declared.event.Event.TheVariants as event
use Rattle.go_tree.specs.declared.event.Member.{Member}
use Rattle.go_tree.specs.declared.event.Member.TheVariants as member
use Rattle.go_tree.specs.Duplicates.{same_member, has_member, is_duplicate, second_members}
use Rattle.go_tree.specs.Failures.{of_files}
use Rattle.go_tree.specs.Units.{word, is_blank, bytes_at}
use Rattle.go_heads.specs.Functions.{AreRead}
use Rattle.go_heads.specs.Heads.{File, heads}
use Rattle.go_heads.proofs.Public.{Every, every_append}
use Rattle.go_scopes_bodies.specs.Carried.{carried_event}
use Rattle.go_scopes_bodies.specs.Outside.{outside_events, outside_units}
use Rattle.go_scopes_changes.proofs.Outsides.{CarriedTell}
use Rattle.go_scopes_changes.proofs.Pairs.{moves, IsSame, all_same, same_events, none_if, if_none, by_pairs}

pub equal_numbers : (x y : ℕ) → nat_eq x y ≡ true → x ≡ y
equal_numbers x y e = grind (arith, nat_tests)

pub same_numbers : (x y : ℕ) → x ≡ y → nat_eq x y ≡ true
same_numbers x y e = grind (arith, nat_tests)

apart_kept : (v w : ℕ → ℕ) (g h : ℕ) → w (v g) ≡ g → w (v h) ≡ h → nat_eq (v g) (v h) ≡ nat_eq g h
apart_kept v w g h e f = by (nat_eq (v g) (v h)) (nat_eq g h) refl refl
  where
    by : (b c : Bool) → nat_eq (v g) (v h) ≡ b → nat_eq g h ≡ c → b ≡ c
    by true true x y = refl
    by false false x y = refl
    by true false x y = sym (same_numbers g h (sym e ∙ ap w (equal_numbers (v g) (v h) x) ∙ f)) ∙ y
    by false true x y = sym x ∙ same_numbers (v g) (v h) (ap v (equal_numbers g h y))

module _ (a b : File) where
  abbrev v : ℕ → ℕ
  v = moves a b

  abbrev moved : List Event → List Event
  moved es = map (carried_event v) es

  has_same : (m : Member) (g : ℕ) (w : List ℕ) → moves b a (v g) ≡ g → (es : List Event) → Every (IsSame a b) es → has_member m (v g) w b.tokens (moved es) ≡ has_member m g w a.tokens es
  has_same m g w e [] h = refl
  has_same m g w e (event.Member o k x ∷ es) h =
      ap (λ z. (same_member m o && z && same_text w (word b.tokens (v x))) || has_member m (v g) w b.tokens (moved es)) (apart_kept v (moves b a) g k e h.0.0)
      ∙ ap (λ z. (same_member m o && nat_eq g k && same_text w z) || has_member m (v g) w b.tokens (moved es)) h.0.1
      ∙ ap (λ z. (same_member m o && nat_eq g k && same_text w (word a.tokens x)) || z) (has_same m g w e es h.1)
  has_same m g w e (event.Import i ∷ es) h = has_same m g w e es h.1
  has_same m g w e (event.Declaration d ∷ es) h = has_same m g w e es h.1
  has_same m g w e (event.Use u ∷ es) h = has_same m g w e es h.1
  has_same m g w e (event.Bodiless i j ∷ es) h = has_same m g w e es h.1
  has_same m g w e (event.Statement i j ∷ es) h = has_same m g w e es h.1
  has_same m g w e (event.Misplaced i j ∷ es) h = has_same m g w e es h.1
  has_same m g w e (event.SecondDefault i ∷ es) h = has_same m g w e es h.1

  twice_same : (m : Member) (g : ℕ) (w : List ℕ) → moves b a (v g) ≡ g → (es : List Event) → Every (IsSame a b) es → is_duplicate m (v g) w b.tokens (moved es) ≡ is_duplicate m g w a.tokens es
  twice_same member.Field g w e es h = ap (λ z. is_blank w || z) (has_same member.Field g w e es h)
  twice_same member.Key g w e es h = has_same member.Key g w e es h
  twice_same member.Parameter g w e es h = ap (λ z. not (is_blank w) && z) (has_same member.Parameter g w e es h)

  module _ (n : ℕ) where
    abbrev Goes : List Event → List Event → Type 0
    Goes before es = second_members before n a.tokens es ≡ [] → second_members (moved before) n b.tokens (moved es) ≡ []

    behind : (before : List Event) (e : Event) (es : List Event) → Goes (before ++ e ∷ []) es → second_members (before ++ e ∷ []) n a.tokens es ≡ [] → second_members (moved before ++ carried_event v e ∷ []) n b.tokens (moved es) ≡ []
    behind before e es go f = ap (λ z. second_members z n b.tokens (moved es)) (sym (map-append (carried_event v) before (e ∷ []))) ∙ go f

    all_once : (before es : List Event) → Every (IsSame a b) before → Every (IsSame a b) es → Goes before es
    all_once before [] h k f = refl
    all_once before (event.Member m g x ∷ es) h k f =
        let here = none_if (is_duplicate m g (word a.tokens x) a.tokens before) (bytes_at n a.tokens x) (second_members (before ++ event.Member m g x ∷ []) n a.tokens es) f in
        if_none (is_duplicate m (v g) (word b.tokens (v x)) b.tokens (moved before)) (bytes_at n b.tokens (v x)) (second_members (moved before ++ event.Member m (v g) (v x) ∷ []) n b.tokens (moved es))
        (ap (λ w. is_duplicate m (v g) w b.tokens (moved before)) k.0.1 ∙ twice_same m g (word a.tokens x) k.0.0 before h ∙ here.0)
        (behind before (event.Member m g x) es (all_once (before ++ event.Member m g x ∷ []) es (every_append (IsSame a b) before (event.Member m g x ∷ []) h (k.0, tt)) k.1) here.1)
    all_once before (event.Import i ∷ es) h k f = behind before (event.Import i) es (all_once (before ++ event.Import i ∷ []) es (every_append (IsSame a b) before (event.Import i ∷ []) h (k.0, tt)) k.1) f
    all_once before (event.Declaration d ∷ es) h k f = behind before (event.Declaration d) es (all_once (before ++ event.Declaration d ∷ []) es (every_append (IsSame a b) before (event.Declaration d ∷ []) h (k.0, tt)) k.1) f
    all_once before (event.Use u ∷ es) h k f = behind before (event.Use u) es (all_once (before ++ event.Use u ∷ []) es (every_append (IsSame a b) before (event.Use u ∷ []) h (k.0, tt)) k.1) f
    all_once before (event.Bodiless i j ∷ es) h k f = behind before (event.Bodiless i j) es (all_once (before ++ event.Bodiless i j ∷ []) es (every_append (IsSame a b) before (event.Bodiless i j ∷ []) h (k.0, tt)) k.1) f
    all_once before (event.Statement i j ∷ es) h k f = behind before (event.Statement i j) es (all_once (before ++ event.Statement i j ∷ []) es (every_append (IsSame a b) before (event.Statement i j ∷ []) h (k.0, tt)) k.1) f
    all_once before (event.Misplaced i j ∷ es) h k f = behind before (event.Misplaced i j) es (all_once (before ++ event.Misplaced i j ∷ []) es (every_append (IsSame a b) before (event.Misplaced i j ∷ []) h (k.0, tt)) k.1) f
    all_once before (event.SecondDefault i ∷ es) h k f = behind before (event.SecondDefault i) es (all_once (before ++ event.SecondDefault i ∷ []) es (every_append (IsSame a b) before (event.SecondDefault i ∷ []) h (k.0, tt)) k.1) f

pub members_stay : (tell : CarriedTell) (old new : List File) → AreRead old → AreRead new → heads old ≡ heads new → of_files (second_members []) 0 (outside_units old) ≡ [] → of_files (second_members []) 0 (outside_units new) ≡ []
members_stay tell old new h k e f =
    by_pairs (second_members []) (λ n a b g i same x. ap (second_members [] n b.tokens) (same_events tell a b g i same) ∙ all_once a b n [] (outside_events a) tt (all_same tell a b g i same) x) 0 old new h k e f
