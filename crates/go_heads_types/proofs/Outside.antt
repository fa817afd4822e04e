-- The objects of tokens outside of bodies, in packages with equal heads.
use Rattle.std.proofs.Common.{◌≡◌, ◌∙◌, ℕ, zero, suc, ◌+◌, ◌-◌, ◌<◌, ◌≤◌, ◌⊎◌, inl, inr, Bool, true, false, List, [], ◌∷◌, ◌++◌, map, length, Option, Some, None, refl, sym, ap, subst, arith}
use Rattle.std.specs.Prelude.{nat_eq, is_some, slice_get, option_map}
use Rattle.std.proofs.lemmas.Option.{slice_get-map}
use Rattle.go_tokens.specs.Tokens.{TokenList, kinds}
use Rattle.go_grammar.specs.Trees.{Tree, node, Trees, none, more, skip, first, last, parts}
use Rattle.go_rewriting.specs.Lists.{InOrder}
use Rattle.go_rewriting.specs.Places.{carry, carries}
use Rattle.go_tree.specs.declared.event.Declaration.{Declaration}
use Rattle.go_tree.specs.declared.event.Event.{Event}
use Rattle.go_tree.specs.declared.event.Event.TheVariants as event
use Rattle.go_tree.specs.declared.object.Object.TheVariants as object
use Rattle.go_tree.specs.Contexts.{is_package, file_context}
use Rattle.go_tree.specs.Events.{events}
use Rattle.go_tree.specs.Faults.{reported}
use Rattle.go_tree.specs.Lists.{functions}
use Rattle.go_tree.specs.Meanings.{Meaning, meanings}
use Rattle.go_tree.specs.Objects.{token_objects, objects_from}
use Rattle.go_tree.specs.Units.{word, is_blank}
use Rattle.go_tree.specs.Uses.{uses, object_there, object_in, object_of}
use Rattle.go_scopes_events.proofs.Public.{true_false, IsPlain, ArePlain}
use Rattle.go_heads.specs.Functions.{Alone, AreRead}
use Rattle.go_heads.specs.Heads.{File, IsRead, head_of, heads, in_bodies, place_outside, body_of, without_body, outline}
use Rattle.go_heads.proofs.Public.{one_outline, framed, same_some, alone_same, bare_functions, NamesIn, Stands, file_stands, stands_at, read_at}
use Rattle.go_package_defs.specs.Bodies.{own_object}
use Rattle.go_package_defs.specs.Declarations.{first_part}
use Rattle.go_heads.specs.Objects.{units_of, file_in, file_there, text_at}
use Rattle.go_heads.specs.Told.{file_events}
use Rattle.go_heads.specs.Names.{DeclaresByItself}
use Rattle.go_heads.specs.Locals.{AreNamed, all_locals}
use Rattle.go_heads.specs.Lookups.{HasUse, AtOnePlace, KeepsLookups}
use Rattle.go_heads.specs.Meanings.{KeepsMeanings}
use Rattle.go_heads_types.proofs.Kept.{both_or_none}
use Rattle.go_heads_types.proofs.Looked.{same_test, equal_test, place_test}
use Rattle.go_heads_types.proofs.Meant.{AreOrderlyRead, OrderRead, ordered, orderly, counted}
use Rattle.go_heads_types.proofs.Pairs.{IsBare, function_bare, at_place, tree_back}
use Rattle.go_heads_types.specs.Outside.{KeepsOutside}
use Rattle.go_heads_types.proofs.Bodiless.{bodiless_names}
use Rattle.go_heads_types.proofs.Classes.{InEvents, each_in, in_either, Declares, Class, class_of, blank_none, none_none}
use Rattle.go_heads_types.proofs.Headers.{Headed, headed, InFunction, locals_in_functions}
use Rattle.go_heads_types.proofs.Names.{declared_names, Like, declaring, names_placed}
use Rattle.go_heads_types.proofs.Params.{kept, InList, IsAt, in_names, kept_at, AllOf, kept_same, Front, locals_there, parameters_first, HasLocals, has_locals, local_object}
use Rattle.go_heads_types.proofs.Shared.{shared_kept}

-- ---- tokens that aren't there

missing_file : (ms : List Meaning) (k : ℕ) (fs : List File) (n : ℕ) → slice_get fs n ≡ None → slice_get (objects_from ms k (units_of fs)) n ≡ None
missing_file ms k [] n e = refl
missing_file ms k (f ∷ fs) zero e = absurd cc
missing_file ms k (f ∷ fs) (suc n) e = missing_file ms (suc k) fs n e

file_objects : (ms : List Meaning) (k : ℕ) (fs : List File) (n : ℕ) (f : File) → slice_get fs n ≡ Some f
    → slice_get (objects_from ms k (units_of fs)) n ≡ Some (token_objects ms (k + n) f.tokens (file_events f) 0 (length f.tokens.tokens))
file_objects ms k [] n f e = absurd cc
file_objects ms k (g ∷ fs) zero f e =
    let z : k ≡ k + 0 = omega arith in
    ap (λ (x : File). Some (token_objects ms k x.tokens (file_events x) 0 (length x.tokens.tokens))) (same_some g f e)
    ∙ ap (λ i. Some (token_objects ms i f.tokens (file_events f) 0 (length f.tokens.tokens))) z
file_objects ms k (g ∷ fs) (suc n) f e =
    let z : suc k + n ≡ k + suc n = omega arith in
    file_objects ms (suc k) fs n f e ∙ ap (λ i. Some (token_objects ms i f.tokens (file_events f) 0 (length f.tokens.tokens))) z

missing_token : (ms : List Meaning) (n : ℕ) (l : TokenList) (es : List Event) (t k i : ℕ) → k ≤ i → slice_get (token_objects ms n l es t k) i ≡ None
missing_token ms n l es t zero i le = refl
missing_token ms n l es t (suc k) zero le = absurd (omega (arith, le))
missing_token ms n l es t (suc k) (suc i) le = missing_token ms n l es (suc t) k i (omega (arith, le))

no_file_object : (fs : List File) (n t : ℕ) → slice_get fs n ≡ None → object_of (uses (units_of fs)) n t ≡ None
no_file_object fs n t e = ap (λ o. object_in o t) (missing_file (meanings (units_of fs)) 0 fs n e)

-- a token that means nothing if it is there means nothing
none_if : (fs : List File) (n t : ℕ) (f : File) → slice_get fs n ≡ Some f → (t < length f.tokens.tokens → object_of (uses (units_of fs)) n t ≡ None) → object_of (uses (units_of fs)) n t ≡ None
none_if fs n t f there go = by (order t (length f.tokens.tokens))
  where
    order : (a b : ℕ) → (a < b) ⊎ (b ≤ a)
    order a b = grind arith

    by : (t < length f.tokens.tokens) ⊎ (length f.tokens.tokens ≤ t) → object_of (uses (units_of fs)) n t ≡ None
    by (inl lt) = go lt
    by (inr le) =
        ap (λ o. object_in o t) (file_objects (meanings (units_of fs)) 0 fs n f there)
        ∙ ap object_there (missing_token (meanings (units_of fs)) (0 + n) f.tokens (file_events f) 0 (length f.tokens.tokens) t le)

-- ---- names and trees

named_in : (lo hi : ℕ) (d : Declaration) (es : List Event) → NamesIn lo hi es → InEvents d es → (lo ≤ d.name) × (d.name < hi)
named_in lo hi d [] h i = absurd i
named_in lo hi d (event.Declaration e ∷ es) h (inl s) = (subst (λ (z : Declaration). lo ≤ z.name) s h.0, subst (λ (z : Declaration). z.name < hi) s h.1)
named_in lo hi d (event.Declaration e ∷ es) h (inr i) = named_in lo hi d es h.2 i
named_in lo hi d (event.Use u ∷ es) h i = named_in lo hi d es h.2 i
named_in lo hi d (event.Import k ∷ es) h i = named_in lo hi d es h i
named_in lo hi d (event.Member m g k ∷ es) h i = named_in lo hi d es h i
named_in lo hi d (event.Bodiless a k ∷ es) h i = named_in lo hi d es h i
named_in lo hi d (event.Statement a k ∷ es) h i = named_in lo hi d es h i
named_in lo hi d (event.Misplaced a k ∷ es) h i = named_in lo hi d es h i
named_in lo hi d (event.SecondDefault k ∷ es) h i = named_in lo hi d es h i

names_bound : (lo hi : ℕ) (es : List Event) → NamesIn lo hi es → AllOf (λ t. (lo ≤ t) × (t < hi)) (declared_names es)
names_bound lo hi [] h = tt
names_bound lo hi (event.Declaration d ∷ es) h = ((h.0, h.1), names_bound lo hi es h.2)
names_bound lo hi (event.Use u ∷ es) h = names_bound lo hi es h.2
names_bound lo hi (event.Import k ∷ es) h = names_bound lo hi es h
names_bound lo hi (event.Member m g k ∷ es) h = names_bound lo hi es h
names_bound lo hi (event.Bodiless a k ∷ es) h = names_bound lo hi es h
names_bound lo hi (event.Statement a k ∷ es) h = names_bound lo hi es h
names_bound lo hi (event.Misplaced a k ∷ es) h = names_bound lo hi es h
names_bound lo hi (event.SecondDefault k ∷ es) h = names_bound lo hi es h

below : (a lo hi w : ℕ) (ns : List ℕ) → hi ≤ a + w → AllOf (λ t. (lo ≤ t) × (t < hi)) (map (λ i. a + i) ns) → AllOf (λ x. x < w) ns
below a lo hi w [] le h = tt
below a lo hi w (n ∷ ns) le h = (omega (arith, h.0.1, le), below a lo hi w ns le h.1)

mutual
  plain_carried : (m : ℕ → ℕ) (t : Tree) → IsPlain t → IsPlain (carry m t)
  plain_carried m (node k i j ps) h = (h.0, all_plain_carried m ps h.1)

  all_plain_carried : (m : ℕ → ℕ) (ps : Trees) → ArePlain ps → ArePlain (carries m ps)
  all_plain_carried m none h = tt
  all_plain_carried m (more p ps) h = (plain_carried m p h.0, all_plain_carried m ps h.1)
  all_plain_carried m (skip ps) h = all_plain_carried m ps h

first_part_carried : (m : ℕ → ℕ) (t : Tree) → first_part (parts (carry m t)) ≡ option_map (carry m) (first_part (parts t))
first_part_carried m (node k i j none) = refl
first_part_carried m (node k i j (more p ps)) = refl
first_part_carried m (node k i j (skip ps)) = refl

first_in_order : (t s : Tree) → InOrder t → first_part (parts t) ≡ Some s → InOrder s × (first t ≤ first s)
first_in_order (node k i j none) s h e = absurd cc
first_in_order (node k i j (skip ps)) s h e = absurd cc
first_in_order (node k i j (more p ps)) s h e = (subst InOrder (same_some p s e) h.1.1, subst (λ x. i ≤ first x) (same_some p s e) h.1.0)

outlined_functions : (t : Tree) → functions (parts (outline t)) ≡ map (λ d. carry (place_outside (in_bodies (parts t))) (without_body d)) (functions (parts t))
outlined_functions (node k i j ps) = bare_functions (place_outside (in_bodies ps)) ps

mapped_none : (f : ℕ → ℕ) (ns : List ℕ) → map f ns ≡ [] → ns ≡ []
mapped_none f [] e = refl
mapped_none f (n ∷ ns) e = absurd cc

-- ---- what is taken for granted of two packages

pub record Laws : Type 1 where
  pub orderly : AreOrderlyRead
  pub order : OrderRead
  pub declared : (fs : List File) → AreRead fs → (n : ℕ) (f : File) → slice_get fs n ≡ Some f → (i : ℕ) (t : Tree) → slice_get (functions (parts f.tree)) i ≡ Some t → DeclaresByItself fs n f t
  pub locals : (fs : List File) → AreRead fs → AreNamed fs → (uses (units_of fs)).locals ≡ all_locals 0 fs
  pub meanings : (old new : List File) → AreRead old → AreRead new → heads old ≡ heads new → KeepsMeanings old new
  pub lookups : (old new : List File) → AreRead old → AreRead new → heads old ≡ heads new → KeepsLookups old new

pub record Pair (old new : List File) : Type 0 where
  pub read : AreRead old
  pub read_new : AreRead new
  pub named : AreNamed old
  pub named_new : AreNamed new
  pub same : heads old ≡ heads new
  pub faultless : reported (units_of old) ≡ None
  pub faultless_new : reported (units_of new) ≡ None

pub swapped : (old new : List File) → Pair old new → Pair new old
swapped old new h = record {
  read = h.read_new;
  read_new = h.read;
  named = h.named_new;
  named_new = h.named;
  same = sym h.same;
  faultless = h.faultless_new;
  faultless_new = h.faultless;
}

-- ---- parameters

module _ (laws : Laws) (old new : List File) (h : Pair old new) (n t u : ℕ) (at : AtOnePlace old new n t u) (f g : File) (there : slice_get old n ≡ Some f) (there_new : slice_get new n ≡ Some g) (same : head_of f ≡ head_of g) where
  here : file_in old n ≡ f
  here = ap file_there there

  here_new : file_in new n ≡ g
  here_new = ap file_there there_new

  read : IsRead f
  read = read_at old h.read n f there

  read_new : IsRead g
  read_new = read_at new h.read_new n g there_new

  abbrev p : ℕ → Bool
  p = in_bodies (parts f.tree)

  abbrev q : ℕ → Bool
  q = in_bodies (parts g.tree)

  out : p t ≡ false
  out = sym (ap (λ (z : File). in_bodies (parts z.tree) t) here) ∙ at.before

  out_new : q u ≡ false
  out_new = sym (ap (λ (z : File). in_bodies (parts z.tree) u) here_new) ∙ at.after

  place : place_outside q u ≡ place_outside p t
  place = sym (ap (λ (z : File). place_outside (in_bodies (parts z.tree)) u) here_new) ∙ at.place ∙ ap (λ (z : File). place_outside (in_bodies (parts z.tree)) t) here

  abbrev bare_f : Tree → Tree
  bare_f d = carry (place_outside p) (without_body d)

  abbrev bare_g : Tree → Tree
  bare_g d = carry (place_outside q) (without_body d)

  -- the function of the same number
  pub record Other (i : ℕ) (x : Tree) : Type 0 where
    pub tree : Tree
    pub stood : slice_get (functions (parts g.tree)) i ≡ Some tree
    pub bare : bare_g tree ≡ bare_f x

  other : (i : ℕ) (x : Tree) → slice_get (functions (parts f.tree)) i ≡ Some x → Other i x
  other i x e =
      by (slice_get (functions (parts g.tree)) i) refl
      (sym (slice_get-map bare_g (functions (parts g.tree)) i)
      ∙ ap (λ ts. slice_get ts i) (sym (outlined_functions g.tree) ∙ ap (λ z. functions (parts z)) (one_outline f g read read_new same) ∙ outlined_functions f.tree)
      ∙ slice_get-map bare_f (functions (parts f.tree)) i ∙ ap (option_map bare_f) e)
    where
      by : (o : Option Tree) → slice_get (functions (parts g.tree)) i ≡ o → option_map bare_g o ≡ Some (bare_f x) → Other i x
      by None a s = absurd cc
      by (Some y) a s = record { tree = y; stood = a; bare = same_some (bare_g y) (bare_f x) s }

  module _ (i : ℕ) (x : Tree) (in_f : slice_get (functions (parts f.tree)) i ≡ Some x) (y : Other i x) (from : first x ≤ t) (upto : t < last x) (d : Declaration) (name : d.name ≡ t) (there_d : InEvents d (file_events f)) (local : is_package d.block ≡ false) where
    stands : Stands (kinds f.tokens.tokens) p (last f.tree) (file_events f) x
    stands = stands_at (kinds f.tokens.tokens) p (last f.tree) (file_events f) (functions (parts f.tree)) (file_stands (kinds f.tokens.tokens) f.tree read.tree) i x in_f

    stands_new : Stands (kinds g.tokens.tokens) q (last g.tree) (file_events g) y.tree
    stands_new = stands_at (kinds g.tokens.tokens) q (last g.tree) (file_events g) (functions (parts g.tree)) (file_stands (kinds g.tokens.tokens) g.tree read_new.tree) i y.tree y.stood

    head : Headed p x (events (file_context (last f.tree)) x)
    head = headed (kinds f.tokens.tokens) p (last f.tree) x stands.function stands.sits

    head_new : Headed q y.tree (events (file_context (last g.tree)) y.tree)
    head_new = headed (kinds g.tokens.tokens) q (last g.tree) y.tree stands_new.function stands_new.sits

    bare : IsBare p x
    bare = function_bare (kinds f.tokens.tokens) p x stands.function stands.sits

    bare_new : IsBare q y.tree
    bare_new = function_bare (kinds g.tokens.tokens) q y.tree stands_new.function stands_new.sits

    abbrev a : ℕ
    a = first (without_body x)

    abbrev b : ℕ
    b = first (without_body y.tree)

    abbrev w : ℕ
    w = last (without_body x) - a

    begins : a ≡ first x
    begins = (framed (kinds f.tokens.tokens) p x stands.function stands.sits).begins

    abbrev signature_events : List Event
    signature_events = events head.around head.signature

    -- the name stands in the signature
    in_signature : InEvents d signature_events
    in_signature =
        by (in_either d stands.before (events (file_context (last f.tree)) x ++ stands.behind) (subst (InEvents d) stands.whole there_d))
      where
        in_told : InEvents d (head.front ++ (signature_events ++ head.rest)) → InEvents d signature_events
        in_told z = of (in_either d head.front (signature_events ++ head.rest) z)
          where
            inner : InEvents d signature_events ⊎ InEvents d head.rest → InEvents d signature_events
            inner (inl r) = r
            inner (inr r) = absurd (true_false (p t) (ap p (sym name) ∙ each_in (λ c. p c.name ≡ true) d head.rest head.inner r) out)

            of : InEvents d head.front ⊎ InEvents d (signature_events ++ head.rest) → InEvents d signature_events
            of (inl r) = absurd (true_false (is_package d.block) (each_in (λ c. is_package c.block ≡ true) d head.front head.shared r) local)
            of (inr r) = inner (in_either d signature_events head.rest r)

        by : InEvents d stands.before ⊎ InEvents d (events (file_context (last f.tree)) x ++ stands.behind) → InEvents d signature_events
        by (inl r) = let z = named_in 0 (first x) d stands.before stands.names_before r in absurd (omega (arith, z.1, name, from))
        by (inr r) = of (in_either d (events (file_context (last f.tree)) x) stands.behind r)
          where
            of : InEvents d (events (file_context (last f.tree)) x) ⊎ InEvents d stands.behind → InEvents d signature_events
            of (inl z) = in_told (subst (InEvents d) head.whole z)
            of (inr z) = let k = named_in (last x) (last f.tree) d stands.behind stands.names_behind z in absurd (omega (arith, k.0, name, upto))

    within : t < last (without_body x)
    within = let z = named_in (first x) (last (without_body x)) d signature_events head.names in_signature in omega (arith, z.1, name)

    abbrev k : ℕ
    k = t - a

    at_k : a + k ≡ t
    at_k = omega (arith, from, begins)

    below_w : k < w
    below_w = omega (arith, from, begins, within)

    other_token : b + k ≡ u
    other_token =
        let z : AtOnePlace old new n (a + k) (b + k) = at_place old new n f g there there_new read read_new same x y.tree bare bare_new y.bare k below_w in
        let off : q (b + k) ≡ false = sym (ap (λ (c : File). in_bodies (parts c.tree) (b + k)) here_new) ∙ z.after in
        let one : place_outside q (b + k) ≡ place_outside q u =
        sym (ap (λ (c : File). place_outside (in_bodies (parts c.tree)) (b + k)) here_new) ∙ z.place ∙ ap (λ (c : File). place_outside (in_bodies (parts c.tree)) (a + k)) here
        ∙ ap (place_outside p) at_k ∙ sym place in
        same_test (b + k) u (sym (place_test q (b + k) u off out_new) ∙ ap (λ c. nat_eq c (place_outside q u)) one ∙ equal_test (place_outside q u))

    -- the signature, counted from the function's first token
    abbrev signature : Tree
    signature = carry (λ c. c - a) head.signature

    one_signature : carry (λ c. c - b) head_new.signature ≡ signature
    one_signature =
        let trees : carry (λ c. c - b) (without_body y.tree) ≡ carry (λ c. c - a) (without_body x) =
        ap (λ (z : Alone). z.tree) (alone_same f g read read_new same (without_body x) (without_body y.tree) bare.order bare_new.order bare.clear bare_new.clear y.bare) in
        same_some (carry (λ c. c - b) head_new.signature) signature (
        sym (first_part_carried (λ c. c - b) (without_body y.tree) ∙ ap (option_map (carry (λ c. c - b))) head_new.begins)
        ∙ ap (λ z. first_part (parts z)) trees
        ∙ first_part_carried (λ c. c - a) (without_body x) ∙ ap (option_map (carry (λ c. c - a))) head.begins)

    abbrev names : List ℕ
    names = declared_names (events head.around signature)

    plain : IsPlain signature
    plain = plain_carried (λ c. c - a) head.signature head.plain

    names_old : declared_names signature_events ≡ map (λ c. a + c) names
    names_old =
        let o = first_in_order (without_body x) head.signature bare.order head.begins in
        ap (λ z. declared_names (events head.around z)) (tree_back a head.signature o.0 o.1)
        ∙ names_placed (λ c. a + c) head.around head.around signature plain (record { role = refl; parameters = refl; group = refl })

    names_there : declared_names signature_events ≡ [] → ⊥
    names_there e = subst (λ ns. InList d.name ns) e (in_names d signature_events in_signature)

    -- a function without a body has no parameters
    bodied : is_some (body_of y.tree) ≡ is_some (body_of x)
    bodied = by (body_of x) (body_of y.tree) refl refl
      where
        by : (o r : Option Tree) → body_of x ≡ o → body_of y.tree ≡ r → is_some (body_of y.tree) ≡ is_some (body_of x)
        by (Some c) (Some e) z v = ap (λ (m : Option Tree). is_some m) v ∙ sym (ap (λ (m : Option Tree). is_some m) z)
        by None r z v =
            absurd (names_there (bodiless_names old h.read h.faultless n f there p x stands.function stands.sits z stands.before stands.behind stands.whole head.signature head.begins head.around))
        by (Some c) None z v =
            let o = first_in_order (without_body y.tree) head_new.signature bare_new.order head_new.begins in
            let clean : declared_names (events head.around head_new.signature) ≡ [] =
            bodiless_names new h.read_new h.faultless_new n g there_new q y.tree stands_new.function stands_new.sits v stands_new.before stands_new.behind stands_new.whole head_new.signature head_new.begins head.around in
            let placed : declared_names (events head.around head_new.signature) ≡ map (λ c. b + c) names =
            ap (λ z. declared_names (events head.around z)) (tree_back b head_new.signature o.0 o.1 ∙ ap (carry (λ c. b + c)) one_signature)
            ∙ names_placed (λ c. b + c) head.around head.around signature plain (record { role = refl; parameters = refl; group = refl }) in
            absurd (names_there (names_old ∙ ap (map (λ c. a + c)) (mapped_none (λ c. b + c) names (sym placed ∙ clean))))

    like : Like head.around head_new.around
    like = record {
      role = ap declaring (head_new.operand ∙ sym head.operand);
      parameters = head_new.parameters ∙ bodied ∙ sym head.parameters;
      group = ap (λ (z : Option ℕ). is_some z) (head_new.group ∙ sym head.group);
    }

    names_new : declared_names (events head_new.around head_new.signature) ≡ map (λ c. b + c) names
    names_new =
        let o = first_in_order (without_body y.tree) head_new.signature bare_new.order head_new.begins in
        ap (λ z. declared_names (events head_new.around z)) (tree_back b head_new.signature o.0 o.1 ∙ ap (carry (λ c. b + c)) one_signature)
        ∙ names_placed (λ c. b + c) head.around head_new.around signature plain like

    all_below : AllOf (λ c. c < w) names
    all_below =
        let z : last (without_body x) ≤ a + w = omega arith in
        below a (first x) (last (without_body x)) w names z (subst (AllOf (λ c. (first x ≤ c) × (c < last (without_body x)))) names_old (names_bound (first x) (last (without_body x)) signature_events head.names))

    texts : (c : ℕ) → c < w → word g.tokens (b + c) ≡ word f.tokens (a + c)
    texts c lt =
        let z : AtOnePlace old new n (a + c) (b + c) = at_place old new n f g there there_new read read_new same x y.tree bare bare_new y.bare c lt in
        sym (ap (λ (v : File). word v.tokens (b + c)) here_new)
        ∙ (laws.meanings old new h.read h.read_new h.same).text n (a + c) (b + c) z.before z.after z.place
        ∙ ap (λ (v : File). word v.tokens (a + c)) here

    parameter_kept : is_blank (word f.tokens t) ≡ false → own_object (object_of (uses (units_of new)) n u) ≡ own_object (object_of (uses (units_of old)) n t)
    parameter_kept blank =
        let l : TokenList = f.tokens in
        let member : InList t (declared_names signature_events) = subst (λ c. InList c (declared_names signature_events)) name (in_names d signature_events in_signature) in
        let number : IsAt t (kept l (declared_names signature_events)) = kept_at l t (declared_names signature_events) blank member in
        let j : ℕ = number.number in
        let old_at : slice_get (kept l (map (λ c. a + c) names)) j ≡ Some (a + k) =
        ap (λ ns. slice_get (kept l ns) j) (sym names_old) ∙ number.there ∙ ap (λ c. Some c) (sym at_k) in
        let new_at : slice_get (kept g.tokens (declared_names (events head_new.around head_new.signature))) j ≡ Some (b + k) =
        ap (λ ns. slice_get (kept g.tokens ns) j) names_new ∙ kept_same l g.tokens a b names (λ c. c < w) texts all_below j k old_at in
        let locals_old : HasLocals old n l x = has_locals old (laws.locals old h.read h.named) n f i x there in_f in
        let locals_new : HasLocals new n g.tokens y.tree = has_locals new (laws.locals new h.read_new h.named_new) n g i y.tree there_new y.stood in
        let front : Front (kept l (declared_names signature_events)) (locals_there n l x) = parameters_first old n f x p (laws.declared old h.read n f there i x in_f) head in
        let front_new : Front (kept g.tokens (declared_names (events head_new.around head_new.signature))) (locals_there n g.tokens y.tree) =
        parameters_first new n g y.tree q (laws.declared new h.read_new n g there_new i y.tree y.stood) head_new in
        let object_old : object_of (uses (units_of old)) n t ≡ Some (object.Local locals_old.number j) =
        local_object old (orderly laws.orderly old h.read) (counted laws.order old h.read) n l x locals_old (kept l (declared_names signature_events)) front j t number.there in
        let object_new : object_of (uses (units_of new)) n (b + k) ≡ Some (object.Local locals_new.number j) =
        local_object new (orderly laws.orderly new h.read_new) (counted laws.order new h.read_new) n g.tokens y.tree locals_new (kept g.tokens (declared_names (events head_new.around head_new.signature))) front_new j (b + k) new_at in
        ap (λ c. own_object (object_of (uses (units_of new)) n c)) (sym other_token) ∙ ap own_object object_new ∙ sym (ap own_object object_old)

  -- ---- a name that is looked up or declared

  text_same : text_at new n u ≡ text_at old n t
  text_same = (laws.meanings old new h.read h.read_new h.same).text n t u at.before at.after at.place

  both_blank : is_blank (word f.tokens t) ≡ true → own_object (object_of (uses (units_of new)) n u) ≡ own_object (object_of (uses (units_of old)) n t)
  both_blank e =
      let old_blank : is_blank (text_at old n t) ≡ true = ap (λ (z : File). is_blank (word z.tokens t)) here ∙ e in
      ap own_object (none_if new n u g there_new (λ lt. blank_none new n u g there_new lt (ap is_blank text_same ∙ old_blank)))
      ∙ sym (ap own_object (none_if old n t f there (λ lt. blank_none old n t f there lt old_blank)))

  declared_kept : Declares t (file_events f) → own_object (object_of (uses (units_of new)) n u) ≡ own_object (object_of (uses (units_of old)) n t)
  declared_kept x = by (is_blank (word f.tokens t)) (is_package x.it.block) refl refl
    where
      by : (c e : Bool) → is_blank (word f.tokens t) ≡ c → is_package x.it.block ≡ e → own_object (object_of (uses (units_of new)) n u) ≡ own_object (object_of (uses (units_of old)) n t)
      by true e blank block = both_blank blank
      by false true blank block =
          ap own_object (shared_kept old new h.read h.read_new h.same (ordered laws.order new) (orderly laws.orderly old h.read) (orderly laws.orderly new h.read_new) (counted laws.order old h.read) (counted laws.order new h.read_new)
          n t u at f there x.it x.name x.there block (ap (λ c. is_blank (word f.tokens c)) x.name ∙ blank))
      by false false blank block =
          let z : InFunction (functions (parts f.tree)) x.it.name =
          each_in (λ c. is_package c.block ≡ false → InFunction (functions (parts f.tree)) c.name) x.it (file_events f) (locals_in_functions (kinds f.tokens.tokens) f.tree read.tree) x.there block in
          parameter_kept z.number z.tree z.there (other z.number z.tree z.there) (omega (arith, z.from, x.name)) (omega (arith, z.upto, x.name)) x.it x.name x.there block blank

  pub used_kept : HasUse t (file_events f) ⊎ Declares t (file_events f) → own_object (object_of (uses (units_of new)) n u) ≡ own_object (object_of (uses (units_of old)) n t)
  used_kept (inl x) = ap own_object ((laws.lookups old new h.read h.read_new h.same).objects n t u at (subst (λ (z : File). HasUse t (file_events z)) (sym here) x))
  used_kept (inr x) = declared_kept x

-- ---- all tokens

module _ (laws : Laws) (old new : List File) (h : Pair old new) where
  token_kept : (n t u : ℕ) → AtOnePlace old new n t u → (f g : File) → slice_get old n ≡ Some f → slice_get new n ≡ Some g → head_of f ≡ head_of g
      → own_object (object_of (uses (units_of new)) n u) ≡ own_object (object_of (uses (units_of old)) n t)
  token_kept n t u at f g a b e = by (class_of t (file_events f)) (class_of u (file_events g))
    where
      back : AtOnePlace new old n u t
      back = record { before = at.after; after = at.before; place = sym at.place }

      by : Class t (file_events f) → Class u (file_events g) → own_object (object_of (uses (units_of new)) n u) ≡ own_object (object_of (uses (units_of old)) n t)
      by (inl x) y = used_kept laws old new h n t u at f g a b e (inl x)
      by (inr (inl x)) y = used_kept laws old new h n t u at f g a b e (inr x)
      by (inr (inr x)) (inl y) = sym (used_kept laws new old (swapped old new h) n u t back g f b a (sym e) (inl y))
      by (inr (inr x)) (inr (inl y)) = sym (used_kept laws new old (swapped old new h) n u t back g f b a (sym e) (inr y))
      by (inr (inr x)) (inr (inr y)) =
          ap own_object (none_if new n u g b (λ lt. none_none new n u g b lt y)) ∙ sym (ap own_object (none_if old n t f a (λ lt. none_none old n t f a lt x)))

  pub outside_kept : KeepsOutside old new
  outside_kept = record {
    objects = λ n t u at. by n t u at (slice_get old n) (slice_get new n) refl refl (both_or_none old new h.same n);
  }
    where
      by : (n t u : ℕ) → AtOnePlace old new n t u → (x y : Option File) → slice_get old n ≡ x → slice_get new n ≡ y → option_map head_of y ≡ option_map head_of x
          → own_object (object_of (uses (units_of new)) n u) ≡ own_object (object_of (uses (units_of old)) n t)
      by n t u at None None a b e = ap own_object (no_file_object new n u b) ∙ sym (ap own_object (no_file_object old n t a))
      by n t u at None (Some g) a b e = absurd cc
      by n t u at (Some f) None a b e = absurd cc
      by n t u at (Some f) (Some g) a b e = token_kept n t u at f g a b (sym (same_some (head_of g) (head_of f) e))
