-- What a tree tells of names, where its tokens stand at other places: any tree that holds no function and no file.
use Rattle.std.proofs.Common.{◌≡◌, ◌∙◌, ℕ, suc, Bool, true, false, List, [], ◌∷◌, ◌++◌, map, Some, None, refl, sym, ap}
use Rattle.std.specs.Prelude.{if◌then◌else◌, ◌&&◌, ◌||◌, not}
use Rattle.std.proofs.lemmas.List.{map-append}
use Rattle.go_grammar.specs.declared.kind.Kind.{Kind}
use Rattle.go_grammar.specs.declared.kind.Kind.TheVariants as kind
use Rattle.go_grammar.specs.declared.kind.Sort.TheVariants as sort
use Rattle.go_grammar.specs.Trees.{Tree, node, Trees, none, more, skip, kind_of, first}
use Rattle.go_grammar.specs.Grammar.{ends_named}
use Rattle.go_rewriting.specs.Places.{carry, carries}
use Rattle.go_tree.specs.declared.context.Entity.TheVariants as entity
use Rattle.go_tree.specs.declared.context.Manner.TheVariants as manner
use Rattle.go_tree.specs.declared.context.Role.{Role}
use Rattle.go_tree.specs.declared.context.Role.TheVariants as role
use Rattle.go_tree.specs.declared.context.Site.{Site}
use Rattle.go_tree.specs.declared.context.Context.{Context}
use Rattle.go_tree.specs.declared.event.Event.{Event}
use Rattle.go_tree.specs.declared.event.Event.TheVariants as event
use Rattle.go_tree.specs.Contexts.{is_package, enter}
use Rattle.go_tree.specs.Events.{name_events, misplaced, is_default, default_events, second_defaults, own_events, statement_events, is_more, pass, begin, events, events_of}
use Rattle.go_scopes_events.proofs.Public.{is_top, IsInner, AreInner, true_false}
use Rattle.go_heads.specs.Told.{Told, declares, asks, new_name, asked_name, tell, told, site_of, placed}
use Rattle.go_heads.proofs.Rows.{ends_carried, more_carried}
use Rattle.go_heads.proofs.Alike.{Purpose, new, member, looked_up, purpose, purpose_at, Alike, source_alike, enter_alike, begin_alike, pass_alike}

-- nothing is left out
abbrev pub no_token : ℕ → Bool
no_token n = false

-- ---- lists of events

if_more : (b : Bool) (x : Told) (xs ys : List Told) → (if b then x ∷ (xs ++ ys) else xs ++ ys) ≡ (if b then x ∷ xs else xs) ++ ys
if_more true x xs ys = refl
if_more false x xs ys = refl

if_less : (b : Bool) (x : Told) (xs ys : List Told) → (if b then xs ++ ys else x ∷ (xs ++ ys)) ≡ (if b then xs else x ∷ xs) ++ ys
if_less true x xs ys = refl
if_less false x xs ys = refl

tell_append : (p : ℕ → Bool) (e : Event) (xs ys : List Told) → tell p e (xs ++ ys) ≡ tell p e xs ++ ys
tell_append p (event.Declaration d) xs ys = if_more (is_package d.block && not (p d.name)) (declares (new_name d)) xs ys
tell_append p (event.Use u) xs ys = if_less (p u.name) (asks (asked_name u)) xs ys
tell_append p e xs ys = refl

pub told_append : (p : ℕ → Bool) (es fs : List Event) → told p (es ++ fs) ≡ told p es ++ told p fs
told_append p [] fs = refl
told_append p (e ∷ es) fs = ap (tell p e) (told_append p es fs) ∙ tell_append p e (told p es) (told p fs)

-- ---- what tells nothing of names

pub statement_told : (p : ℕ → Bool) (b : Bool) (i j : ℕ) → told p (statement_events b i j) ≡ []
statement_told p true i j = refl
statement_told p false i j = refl

misplaced_told : (p : ℕ → Bool) (b : Bool) (i j : ℕ) → told p (misplaced b i j) ≡ []
misplaced_told p true i j = refl
misplaced_told p false i j = refl

default_told : (p : ℕ → Bool) (d b : Bool) (word : ℕ) → told p (default_events d b word) ≡ []
default_told p true true word = refl
default_told p true false word = refl
default_told p false b word = refl

second_told : (p : ℕ → Bool) (b : Bool) (ps : Trees) → told p (second_defaults b ps) ≡ []
second_told p b none = refl
second_told p b (skip ps) = second_told p b ps
second_told p b (more t ps) =
    told_append p (default_events (is_default (kind_of t)) b (first t)) (second_defaults (b || is_default (kind_of t)) ps)
    ∙ ap (λ xs. xs ++ told p (second_defaults (b || is_default (kind_of t)) ps)) (default_told p (is_default (kind_of t)) b (first t))
    ∙ second_told p (b || is_default (kind_of t)) ps

-- ---- names

-- what a name tells, by what it is for
abbrev by_purpose : Bool → ℕ → ℕ → Site → Bool → Bool → Purpose → List Told
by_purpose b i column s constant initial (new e a o) = if b && true then declares (record { name = i; entity = e; manner = a; source = o; column = column }) ∷ [] else []
by_purpose b i column s constant initial member = []
by_purpose b i column s constant initial looked_up = asks (record { name = i; site = s; constant = constant; initial = initial }) ∷ []

abbrev named : Context → ℕ → Purpose → List Told
named c i u = by_purpose (is_package c.block) i c.column c.site c.constant c.initial u

name_told : (c : Context) (i : ℕ) (r : Role) → told no_token (name_events c i r) ≡ named c i (purpose r)
name_told c i (role.New d) = refl
name_told c i (role.Field g) = refl
name_told c i (role.Key g) = refl
name_told c i (role.Parameter g None) = refl
name_told c i (role.Parameter g (Some s)) = refl
name_told c i r = refl

if_placed : (m : ℕ → ℕ) (b : Bool) (x : Told) → map (placed m) (if b && true then x ∷ [] else []) ≡ (if b && true then placed m x ∷ [] else [])
if_placed m true x = refl
if_placed m false x = refl

purpose_placed : (m : ℕ → ℕ) (b : Bool) (i column : ℕ) (s : Site) (constant initial : Bool) (u : Purpose)
    → map (placed m) (by_purpose b i column s constant initial u) ≡ by_purpose b (m i) column (site_of m s) constant initial (purpose_at m u)
purpose_placed m b i column s constant initial (new e a o) = if_placed m b (declares (record { name = i; entity = e; manner = a; source = o; column = column }))
purpose_placed m b i column s constant initial member = refl
purpose_placed m b i column s constant initial looked_up = refl

module _ (m : ℕ → ℕ) where
  name_alike : (c d : Context) (i : ℕ) → Alike m c d → told no_token (name_events d (m i) d.role) ≡ map (placed m) (told no_token (name_events c i c.role))
  name_alike c d i h =
      name_told d (m i) d.role
      ∙ ap (λ b. by_purpose b (m i) d.column d.site d.constant d.initial (purpose d.role)) h.outer
      ∙ ap (λ x. by_purpose (is_package c.block) (m i) x d.site d.constant d.initial (purpose d.role)) h.column
      ∙ ap (λ x. by_purpose (is_package c.block) (m i) c.column x d.constant d.initial (purpose d.role)) h.site
      ∙ ap (λ x. by_purpose (is_package c.block) (m i) c.column (site_of m c.site) x d.initial (purpose d.role)) h.constant
      ∙ ap (λ x. by_purpose (is_package c.block) (m i) c.column (site_of m c.site) c.constant x (purpose d.role)) h.initial
      ∙ ap (by_purpose (is_package c.block) (m i) c.column (site_of m c.site) c.constant c.initial) h.role
      ∙ sym (purpose_placed m (is_package c.block) i c.column c.site c.constant c.initial (purpose c.role))
      ∙ sym (ap (map (placed m)) (name_told c i c.role))

  -- a type's own name
  abbrev type_name : ℕ → Told
  type_name i = declares (record { name = i; entity = entity.Type; manner = manner.Declared; source = Some i; column = 0 })

  type_alike : (c d : Context) (i : ℕ) → Alike m c d → (if is_package d.block && true then type_name (m i) ∷ [] else []) ≡ map (placed m) (if is_package c.block && true then type_name i ∷ [] else [])
  type_alike c d i h = ap (λ b. if b && true then type_name (m i) ∷ [] else []) h.outer ∙ sym (if_placed m (is_package c.block) (type_name i))

  silent : (es fs : List Event) → told no_token es ≡ [] → told no_token fs ≡ [] → told no_token fs ≡ map (placed m) (told no_token es)
  silent es fs a b = b ∙ sym (ap (map (placed m)) a)

  own_told : (c d : Context) (k : Kind) (i j : ℕ) (ps : Trees) → is_top k ≡ false → Alike m c d
      → told no_token (own_events d k (m i) (m j) (carries m ps)) ≡ map (placed m) (told no_token (own_events c k i j ps))
  own_told c d kind.FunctionDeclaration i j ps e h = absurd (true_false true refl e)
  own_told c d (kind.Specification sort.Type) i j ps e h = type_alike c d i h
  own_told c d (kind.Specification sort.Constant) i j ps e h = refl
  own_told c d (kind.Specification sort.Variable) i j ps e h = refl
  own_told c d kind.DeclaredName i j ps e h = name_alike c d i h
  own_told c d kind.Name i j ps e h = name_alike c d i h
  own_told c d kind.Switch i j ps e h = silent (second_defaults false ps) (second_defaults false (carries m ps)) (second_told no_token false ps) (second_told no_token false (carries m ps))
  own_told c d kind.Break i j ps e h = silent (misplaced c.breaks i j) (misplaced d.breaks (m i) (m j)) (misplaced_told no_token c.breaks i j) (misplaced_told no_token d.breaks (m i) (m j))
  own_told c d kind.Continue i j ps e h = silent (misplaced c.continues i j) (misplaced d.continues (m i) (m j)) (misplaced_told no_token c.continues i j) (misplaced_told no_token d.continues (m i) (m j))
  own_told c d kind.Fallthrough i j ps e h = silent (misplaced c.falls i j) (misplaced d.falls (m i) (m j)) (misplaced_told no_token c.falls i j) (misplaced_told no_token d.falls (m i) (m j))
  own_told c d k i j ps e h = refl

  -- ---- trees

  pub both_told : (p : ℕ → Bool) (vs ws xs ys : List Event) → told no_token vs ≡ map (placed m) (told p xs) → told no_token ws ≡ map (placed m) (told p ys)
      → told no_token (vs ++ ws) ≡ map (placed m) (told p (xs ++ ys))
  both_told p vs ws xs ys a b =
      told_append no_token vs ws ∙ ap (λ z. z ++ told no_token ws) a ∙ ap (λ z. map (placed m) (told p xs) ++ z) b
      ∙ sym (map-append (placed m) (told p xs) (told p ys)) ∙ ap (map (placed m)) (sym (told_append p xs ys))

  mutual
    pub events_told : (c d : Context) (t : Tree) → IsInner t → Alike m c d → told no_token (events d (carry m t)) ≡ map (placed m) (told no_token (events c t))
    events_told c d (node k i j ps) x h =
        both_told no_token (statement_events d.listed (m i) (m j) ++ own_events d k (m i) (m j) (carries m ps)) (events_of (begin d k) k (m i) (m j) (carries m ps) 0 (carries m ps))
        (statement_events c.listed i j ++ own_events c k i j ps) (events_of (begin c k) k i j ps 0 ps)
        (both_told no_token (statement_events d.listed (m i) (m j)) (own_events d k (m i) (m j) (carries m ps)) (statement_events c.listed i j) (own_events c k i j ps)
        (silent (statement_events c.listed i j) (statement_events d.listed (m i) (m j)) (statement_told no_token c.listed i j) (statement_told no_token d.listed (m i) (m j)))
        (own_told c d k i j ps x.0 h))
        (parts_told (begin c k) (begin d k) k i j ps 0 ps x.1 (begin_alike m c d h k))

    parts_told : (c d : Context) (k : Kind) (i j : ℕ) (ps : Trees) (n : ℕ) (qs : Trees) → AreInner qs → Alike m c d
        → told no_token (events_of d k (m i) (m j) (carries m ps) n (carries m qs)) ≡ map (placed m) (told no_token (events_of c k i j ps n qs))
    parts_told c d k i j ps n none x h = refl
    parts_told c d k i j ps n (skip qs) x h = parts_told c d k i j ps (suc n) qs x h
    parts_told c d k i j ps n (more q qs) x h =
        both_told no_token
        (events (enter d k (m i) (m j) (carries m ps) (ends_named (carries m ps)) n (carry m q) (is_more (carries m qs))) (carry m q)) (events_of (pass d (carry m q)) k (m i) (m j) (carries m ps) (suc n) (carries m qs))
        (events (enter c k i j ps (ends_named ps) n q (is_more qs)) q) (events_of (pass c q) k i j ps (suc n) qs)
        (ap (λ b. told no_token (events (enter d k (m i) (m j) (carries m ps) b n (carry m q) (is_more (carries m qs))) (carry m q))) (ends_carried m false ps)
        ∙ ap (λ b. told no_token (events (enter d k (m i) (m j) (carries m ps) (ends_named ps) n (carry m q) b) (carry m q))) (more_carried m qs)
        ∙ events_told (enter c k i j ps (ends_named ps) n q (is_more qs)) (enter d k (m i) (m j) (carries m ps) (ends_named ps) n (carry m q) (is_more qs)) q x.0 (enter_alike m c d h k i j ps (ends_named ps) n q (is_more qs)))
        (parts_told (pass c q) (pass d (carry m q)) k i j ps (suc n) qs x.1 (pass_alike m c d h q (carry m q) (source_alike m c d h q)))
