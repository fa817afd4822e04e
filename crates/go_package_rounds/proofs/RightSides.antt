-- The right sides that are held, and those of the states.
use Rattle.std.proofs.Common.{◌≡◌, ℕ, zero, suc, ◌+◌, Bool, true, false, cond, List, [], ◌∷◌, ◌++◌, length, map, drop, Option, Some, refl, ap, sym, subst, ◌∙◌, append_assoc, append-nil, arith}
use Rattle.std.specs.Prelude.{slice_get}
use Rattle.std.specs.Option.{option_map}
use Rattle.go_tree.specs.declared.context.Entity.{Entity}
use Rattle.go_tree.specs.declared.object.Declared.{Declared}
use Rattle.go_types.specs.Trees.{TypeTree}
use Rattle.go_types.specs.Relations.{Rights}
use Rattle.go_types.specs.Tables.{Table, type_of}
use Rattle.go_stmts_defs.specs.Frames.{placed}
use Rattle.go_package_defs.specs.Knowledge.{State, is_type, rights_among}
use Rattle.go_package_rounds.specs.declared.held.Held.{Held}
use Rattle.go_package_rounds.specs.Held.{Summary, summary, held_seen, all_seen, KnownRight, AllHeld}
use Rattle.go_package_rounds.specs.Rights.{behind, rights_held}
use Rattle.go_package_rounds.proofs.Standings.{head_same, tail_same}

pub placed_between : (x y : Option TypeTree) (before after : Rights) → placed (length before) x (before ++ y ∷ after) ≡ before ++ x ∷ after
placed_between x y [] after = refl
placed_between x y (z ∷ before) after = ap (λ zs. z ∷ zs) (placed_between x y before after)

pub held_are : (t : Table) (ds : List Declared) (hs : List Held) (ss : List State) → all_seen t hs ≡ map summary ss → rights_held t ds hs ≡ rights_among ds ss
held_are t [] [] [] e = refl
held_are t [] [] (s ∷ ss) e = refl
held_are t [] (h ∷ hs) ss e = refl
held_are t (d ∷ ds) [] [] e = refl
held_are t (d ∷ ds) [] (s ∷ ss) e = absurd cc
held_are t (d ∷ ds) (h ∷ hs) [] e = absurd cc
held_are t (d ∷ ds) (h ∷ hs) (s ∷ ss) e =
    ap (λ x. cond (is_type d.entity) (x ∷ rights_held t ds hs) (rights_held t ds hs)) (ap (λ (z : Summary). z.right) (head_same (held_seen t h) (summary s) (all_seen t hs) (map summary ss) e))
    ∙ ap (λ xs. cond (is_type d.entity) (s.right ∷ xs) xs) (held_are t ds hs ss (tail_same (held_seen t h) (summary s) (all_seen t hs) (map summary ss) e))

-- ---- one object after the other

pub behind_append : (b : Bool) (x : Option TypeTree) (before after : Rights) → (before ++ behind b x []) ++ after ≡ before ++ behind b x after
behind_append true x before after = append_assoc before (x ∷ []) after
behind_append false x before after = ap (λ xs. xs ++ after) (append-nil before)

-- what is held of one object in front of the others
module _ (t : Table) where
  held_on : (e : Entity) (r : Option ℕ) (ds : List Declared) (hs : List Held) (n : ℕ) → option_map (λ d. d.entity) (slice_get ds n) ≡ Some e → option_map (λ h. h.right) (slice_get hs n) ≡ Some r
      → rights_held t (drop n ds) (drop n hs) ≡ behind (is_type e) (option_map (type_of t.shapes) r) (rights_held t (drop (suc n) ds) (drop (suc n) hs))
  held_on e r [] hs n d h = absurd cc
  held_on e r (x ∷ ds) [] n d h = absurd cc
  held_on e r (x ∷ ds) (y ∷ hs) zero d h =
      ap (λ z. behind (is_type z) (option_map (type_of t.shapes) y.right) (rights_held t ds hs)) (let is : x.entity ≡ e = cc in is)
      ∙ ap (λ z. behind (is_type e) (option_map (type_of t.shapes) z) (rights_held t ds hs)) (let is : y.right ≡ r = cc in is)
  held_on e r (x ∷ ds) (y ∷ hs) (suc n) d h = held_on e r ds hs n d h

  pub held_at : (e : Entity) (r : Option ℕ) (ds : List Declared) (hs : List Held) (n : ℕ) → option_map (λ d. d.entity) (slice_get ds n) ≡ Some e → option_map (λ h. h.right) (slice_get hs n) ≡ Some r
      → rights_held t (drop n ds) (drop n hs) ≡ behind (is_type e) (option_map (type_of t.shapes) r) (rights_held t (drop (n + 1) ds) (drop (n + 1) hs))
  held_at e r ds hs n d h =
      let next : suc n ≡ n + 1 = omega arith in
      held_on e r ds hs n d h ∙ ap (λ m. behind (is_type e) (option_map (type_of t.shapes) r) (rights_held t (drop m ds) (drop m hs))) next

pub known_at : (n : ℕ) (r : Option ℕ) (hs : List Held) (i : ℕ) → AllHeld n hs → option_map (λ h. h.right) (slice_get hs i) ≡ Some r → KnownRight n r
known_at n r [] i a h = absurd cc
known_at n r (y ∷ hs) zero a h = subst (KnownRight n) (let is : y.right ≡ r = cc in is) a.0.right
known_at n r (y ∷ hs) (suc i) a h = known_at n r hs i a.1 h
