-- Where a round changes nothing that scopes read, no further one changes anything.
use Rattle.std.proofs.Common.{◌≡◌, ℕ, zero, suc, ◌+◌, ◌-◌, ◌<◌, Bool, true, false, cond, List, [], ◌∷◌, length, map, Option, Some, None, refl, ap, sym, ◌∙◌, arith}
use Rattle.std.specs.Prelude.{◌&&◌, slice_get}
use Rattle.std.specs.Option.{option_map}
use Rattle.go_tree.specs.declared.context.Entity.{Entity}
use Rattle.go_tree.specs.declared.context.Entity.TheVariants as entity
use Rattle.go_tree.specs.declared.object.Declared.{Declared}
use Rattle.go_tree.specs.declared.object.Object.{Object}
use Rattle.go_tree.specs.declared.object.Object.TheVariants as object
use Rattle.go_types.specs.Trees.{TypeTree}
use Rattle.go_types.specs.Relations.{Rights}
use Rattle.go_types.specs.Tables.{Table, type_of}
use Rattle.go_typed.specs.Trees as trees
use Rattle.go_typed.specs.Views.{sort_seen}
use Rattle.go_exprs_rules.specs.Scopes.{Needed, in_full, at_once, loosely, Scope}
use Rattle.go_exprs_rules.specs.Sorts.{Stands}
use Rattle.go_package_defs.specs.Declarations.{Specification}
use Rattle.go_package_defs.specs.Knowledge.{Outline, State, state_of, is_type, is_told_by, all_pass, needs_of, passes, stands_if, stands_where, rights_among, scope_where, free_scope, told_scope}
use Rattle.go_package_defs.specs.Knowledge as knowledge
use Rattle.go_package_defs.specs.Sources.{Package}
use Rattle.go_package_defs.specs.Verdicts.{own_type, own_faults, value_state, type_state, state_by, next_states, known}
use Rattle.go_package_rounds.specs.declared.held.Held.{Held}
use Rattle.go_package_rounds.specs.Held.{Summary, summary, held_seen, all_seen, is_sound, ReadAlike, AllReadAlike}
use Rattle.go_package_rounds.specs.Rights.{rights_held}
use Rattle.go_package_rounds.proofs.Standings.{head_same, tail_same, sound_held}
use Rattle.go_package_rounds.proofs.RightSides.{held_are}
use Rattle.go_package_rounds.proofs.Scopes.{pointwise}

-- Scopes can't tell the two states from each other.
pub record Same (s z : State) : Type 0 where
  pub right : s.right ≡ z.right
  pub stands : s.stands ≡ z.stands
  pub sound : knowledge.is_sound s ≡ knowledge.is_sound z

same_self : (s : State) → Same s s
same_self s = record { right = refl; stands = refl; sound = refl }

same_told : (s z : State) → Same s z → knowledge.is_told s ≡ knowledge.is_told z
same_told s z h = ap (λ x. is_told_by x s.right) h.stands ∙ ap (is_told_by z.stands) h.right

module _ (p : Package) (os : List Outline) (ss zs : List State) (same : (n : ℕ) → Same (state_of ss n) (state_of zs n)) (rights : knowledge.rights_of p ss ≡ knowledge.rights_of p zs) where
  all_same : (test : State → Bool) → ((n : ℕ) → test (state_of ss n) ≡ test (state_of zs n)) → (ns : List ℕ) → all_pass test ss ns ≡ all_pass test zs ns
  all_same test f [] = refl
  all_same test f (n ∷ ns) = ap (λ b. b && all_pass test ss ns) (f n) ∙ ap (λ b. test (state_of zs n) && b) (all_same test f ns)

  passes_same : (test : State → Bool) → ((n : ℕ) → test (state_of ss n) ≡ test (state_of zs n)) → (need : Needed) (n : ℕ) → passes test os ss need n ≡ passes test os zs need n
  passes_same test f in_full n = all_same test f (n ∷ needs_of in_full (slice_get os n))
  passes_same test f at_once n = all_same test f (n ∷ needs_of at_once (slice_get os n))
  passes_same test f loosely n = refl

  if_same : (b : Bool) (s z : State) → Same s z → stands_if b s ≡ stands_if b z
  if_same true s z h = h.stands
  if_same false s z h = refl

  stands_same : (test : State → Bool) → ((n : ℕ) → test (state_of ss n) ≡ test (state_of zs n)) → (need : Needed) (o : Object) → stands_where test os ss need o ≡ stands_where test os zs need o
  stands_same test f need (object.Package n) = ap (λ b. stands_if b (state_of ss n)) (passes_same test f need n) ∙ if_same (passes test os zs need n) (state_of ss n) (state_of zs n) (same n)
  stands_same test f need (object.Local g n) = refl
  stands_same test f need object.Import = refl
  stands_same test f need (object.Predeclared x) = refl

  abbrev made : (State → Bool) → Bool → Specification → Rights → (Needed → Object → Stands) → Scope
  made test limits d rs sorts = record (scope_where test limits p os ss d) { rights = rs; sorts = sorts }

  scope_same : (test : State → Bool) → ((n : ℕ) → test (state_of ss n) ≡ test (state_of zs n)) → (limits : Bool) (d : Specification) → scope_where test limits p os ss d ≡ scope_where test limits p os zs d
  scope_same test f limits d =
      ap (λ r. made test limits d r (stands_where test os ss)) rights
      ∙ ap (made test limits d (knowledge.rights_of p zs)) (pointwise (λ n. pointwise (λ o. stands_same test f n o)))

  pub free_same : (d : Specification) → free_scope p os ss d ≡ free_scope p os zs d
  free_same d = scope_same knowledge.is_sound (λ n. (same n).sound) true d

  told_same : (d : Specification) → told_scope p os ss d ≡ told_scope p os zs d
  told_same d = scope_same knowledge.is_told (λ n. same_told (state_of ss n) (state_of zs n) (same n)) false d

  value_same : (d : Specification) (c : ℕ) → value_state (free_scope p os ss d) d c (own_faults (free_scope p os ss d) d c) ≡ value_state (free_scope p os zs d) d c (own_faults (free_scope p os zs d) d c)
  value_same d c = ap (λ s. value_state s d c (own_faults s d c)) (free_same d)

  state_same : (x : Entity) (n : ℕ) (d : Specification) (c : ℕ) → state_by x p os ss n d c ≡ state_by x p os zs n d c
  state_same entity.Type n d c = ap (λ s. type_state (own_type p n) s (free_scope p os ss d) d) (told_same d) ∙ ap (λ s. type_state (own_type p n) (told_scope p os zs d) s d) (free_same d)
  state_same entity.Constant n d c = value_same d c
  state_same entity.Variable n d c = value_same d c
  state_same entity.Parameter n d c = value_same d c
  state_same entity.Function n d c = value_same d c

  pub next_same : (n : ℕ) (xs : List Outline) → next_states p os ss n xs ≡ next_states p os zs n xs
  next_same n [] = refl
  next_same n (x ∷ xs) =
      ap (λ y. y ∷ next_states p os ss (suc n) xs) (state_same x.specification.entity n x.specification x.column)
      ∙ ap (λ ys. state_by x.specification.entity p os zs n x.specification x.column ∷ ys) (next_same (suc n) xs)

-- ---- further rounds

module _ (p : Package) (os : List Outline) (k : ℕ) (stays : known p os (suc (suc k)) ≡ known p os (suc k)) where
  further : (m n : ℕ) → n ≡ m + suc k → known p os n ≡ known p os (suc k)
  further zero n e = ap (known p os) (let d : n ≡ suc k = omega (arith, e) in d)
  further (suc m) zero e = absurd (omega (arith, e))
  further (suc m) (suc n) e = ap (λ ss. next_states p os ss 0 os) (further m n (let d : n ≡ m + suc k = omega (arith, e) in d)) ∙ stays

  pub settled : (n : ℕ) → k < n → known p os n ≡ known p os (suc k)
  settled n h = further (n - suc k) n (let e : n ≡ (n - suc k) + suc k = omega (arith, h) in e)

-- ---- what is held

module _ (t : Table) where
  pub same_at : (hs ks : List Held) (ss zs : List State) → AllReadAlike hs ks → all_seen t hs ≡ map summary ss → all_seen t ks ≡ map summary zs → (n : ℕ) → Same (state_of ss n) (state_of zs n)
  same_at [] [] [] [] a e f n = same_self (state_of [] n)
  same_at [] [] (s ∷ ss) zs a e f n = absurd cc
  same_at [] [] [] (z ∷ zs) a e f n = absurd cc
  same_at [] (k ∷ ks) ss zs a e f n = absurd a
  same_at (h ∷ hs) [] ss zs a e f n = absurd a
  same_at (h ∷ hs) (k ∷ ks) [] zs a e f n = absurd cc
  same_at (h ∷ hs) (k ∷ ks) (s ∷ ss) [] a e f n = absurd cc
  same_at (h ∷ hs) (k ∷ ks) (s ∷ ss) (z ∷ zs) a e f zero =
      let one = head_same (held_seen t h) (summary s) (all_seen t hs) (map summary ss) e in
      let two = head_same (held_seen t k) (summary z) (all_seen t ks) (map summary zs) f in
      record {
        right = sym (ap (λ (x : Summary). x.right) one) ∙ ap (option_map (type_of t.shapes)) a.0.right ∙ ap (λ (x : Summary). x.right) two;
        stands = sym (ap (λ (x : Summary). x.stands) one) ∙ ap (sort_seen t) a.0.stands ∙ ap (λ (x : Summary). x.stands) two;
        sound = sym (sound_held t h s one) ∙ a.0.sound ∙ sound_held t k z two;
      }
  same_at (h ∷ hs) (k ∷ ks) (s ∷ ss) (z ∷ zs) a e f (suc n) =
      same_at hs ks ss zs a.1 (tail_same (held_seen t h) (summary s) (all_seen t hs) (map summary ss) e) (tail_same (held_seen t k) (summary z) (all_seen t ks) (map summary zs) f) n

  rights_read : (ds : List Declared) (hs ks : List Held) → AllReadAlike hs ks → rights_held t ds hs ≡ rights_held t ds ks
  rights_read [] [] [] a = refl
  rights_read [] [] (k ∷ ks) a = refl
  rights_read [] (h ∷ hs) [] a = refl
  rights_read [] (h ∷ hs) (k ∷ ks) a = refl
  rights_read (d ∷ ds) [] [] a = refl
  rights_read (d ∷ ds) [] (k ∷ ks) a = absurd a
  rights_read (d ∷ ds) (h ∷ hs) [] a = absurd a
  rights_read (d ∷ ds) (h ∷ hs) (k ∷ ks) a =
      ap (λ r. cond (is_type d.entity) (option_map (type_of t.shapes) r ∷ rights_held t ds hs) (rights_held t ds hs)) a.0.right
      ∙ ap (λ xs. cond (is_type d.entity) (option_map (type_of t.shapes) k.right ∷ xs) xs) (rights_read ds hs ks a.1)

  pub settles : (p : Package) (os : List Outline) (k n : ℕ) (hs ks : List Held) → AllReadAlike hs ks → all_seen t hs ≡ map summary (known p os k) → all_seen t ks ≡ map summary (known p os (suc k)) → k < n → known p os n ≡ known p os (suc k)
  settles p os k n hs ks a e f l =
      let rights : knowledge.rights_of p (known p os k) ≡ knowledge.rights_of p (known p os (suc k)) =
      sym (held_are t p.uses.package_level hs (known p os k) e) ∙ rights_read p.uses.package_level hs ks a ∙ held_are t p.uses.package_level ks (known p os (suc k)) f in
      settled p os k (sym (next_same p os (known p os k) (known p os (suc k)) (same_at hs ks (known p os k) (known p os (suc k)) a e f) rights 0 os)) n l
