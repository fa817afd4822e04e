-- Two files with equal heads: what they tell outside of their functions.
use Rattle.std.proofs.Common.{◌≡◌, ◌∙◌, ℕ, zero, suc, ◌-◌, Bool, true, false, List, [], ◌∷◌, ◌++◌, map, length, Option, Some, None, refl, sym, ap, arith}
use Rattle.std.specs.Prelude.{slice_get, option_map}
use Rattle.std.proofs.lemmas.List.{length-map}
use Rattle.std.proofs.lemmas.Option.{slice_get-map}
use Rattle.go_tokens.specs.declared.token.Token.{Token}
use Rattle.go_tokens.specs.Tokens.{TokenList, kinds, text_of}
use Rattle.go_grammar.specs.Trees.{Tree, node, last, parts}
use Rattle.go_rewriting.specs.Places.{carry}
use Rattle.go_rewriting.proofs.Public.{last_carry}
use Rattle.go_tree.specs.declared.context.Role.{Role}
use Rattle.go_tree.specs.declared.context.Role.TheVariants as role
use Rattle.go_tree.specs.declared.event.Use.{Use}
use Rattle.go_tree.specs.declared.event.Event.{Event}
use Rattle.go_tree.specs.declared.event.Event.TheVariants as event
use Rattle.go_tree.specs.Contexts.{file_context}
use Rattle.go_tree.specs.Events.{events}
use Rattle.go_tree.specs.Failures.{place_if, of_files}
use Rattle.go_tree.specs.Lookups.{selected_of}
use Rattle.go_tree.specs.Units.{Place, text_in, word}
use Rattle.go_heads.specs.Functions.{AreRead}
use Rattle.go_heads.specs.Heads.{File, IsRead, Head, head_of, heads, texts, in_bodies, place_outside}
use Rattle.go_heads.specs.Names.{text_there}
use Rattle.go_heads.proofs.Public.{Every, count_kinds, first_same, one_outline, others_same, some_not_none}
use Rattle.go_scopes_bodies.specs.Carried.{carried_event, carried_role, carried_use}
use Rattle.go_scopes_bodies.specs.Outside.{without_functions, outside_events, outside_units}
use Rattle.go_scopes_changes.proofs.Outsides.{CarriedTell, behind_one, IsOutsideTree, outside_tree}
use Rattle.go_scopes_changes.proofs.Places.{token_from, element_there}
use Rattle.go_scopes_changes.proofs.Trees.{carried_twice, outline_outside}

-- the place of a token in the head, and the token at one
abbrev pub place_in : File → ℕ → ℕ
place_in f n = place_outside (in_bodies (parts f.tree)) n

abbrev pub at_place : File → ℕ → ℕ
at_place f k = token_from (in_bodies (parts f.tree)) 0 (length (kinds f.tokens.tokens)) k

-- the token of the second file for one of the first, and the token behind the one for that in front
abbrev pub moves : File → File → ℕ → ℕ
moves a b n = at_place b (place_in a n)

abbrev pub moves_behind : File → File → ℕ → ℕ
moves_behind a b n = behind_one (at_place b) (place_in a n)

-- ---- texts

abbrev pub text_in_head : Head → ℕ → List ℕ
text_in_head h k = text_there (slice_get h.texts k)

there_mapped : (l : TokenList) (o : Option Token) → text_in l o ≡ text_there (option_map (text_of l) o)
there_mapped l None = refl
there_mapped l (Some t) = refl

there_same : (l : TokenList) (n : ℕ) → word l n ≡ text_there (slice_get (texts l) n)
there_same l n = there_mapped l (slice_get l.tokens n) ∙ ap text_there (sym (slice_get-map (text_of l) l.tokens n))

pub text_at_place : (f : File) (k : ℕ) → word f.tokens (at_place f k) ≡ text_in_head (head_of f) k
text_at_place f k =
    let p : ℕ → Bool = in_bodies (parts f.tree) in
    let same : length (kinds f.tokens.tokens) ≡ length (texts f.tokens) = count_kinds f.tokens.tokens ∙ sym (length-map f.tokens.tokens (text_of f.tokens)) in
    there_same f.tokens (at_place f k)
    ∙ ap (λ z. text_there (slice_get (texts f.tokens) (token_from p 0 z k))) same
    ∙ ap text_there (element_there p 0 (texts f.tokens) k)

-- ---- lists of equal events

fixed_each : {A : Type 0} (f : A → A) (es : List A) → map f es ≡ es → Every (λ e. f e ≡ e) es
fixed_each f [] h = tt
fixed_each f (e ∷ es) h = (first_same (f e) e (map f es) es h, fixed_each f es (others_same (f e) e (map f es) es h))

both_each : {A : Type 0} (f g : A → A) (es : List A) → map f es ≡ map g es → Every (λ e. f e ≡ g e) es
both_each f g [] h = tt
both_each f g (e ∷ es) h = (first_same (f e) (g e) (map f es) (map g es) h, both_each f g es (others_same (f e) (g e) (map f es) (map g es) h))

back_each : {A : Type 0} (f g : A → A) (es : List A) → map f (map g es) ≡ es → Every (λ e. f (g e) ≡ e) es
back_each f g [] h = tt
back_each f g (e ∷ es) h = (first_same (f (g e)) e (map f (map g es)) es h, back_each f g es (others_same (f (g e)) e (map f (map g es)) es h))

-- ---- events

last_same : (t : Tree) → last (without_functions t) ≡ last t
last_same (node k i j ps) = refl

module _ (tell : CarriedTell) where
  moved_events : (a b : File) (v : ℕ → ℕ) → IsOutsideTree (kinds a.tokens.tokens) a.tree → carry v (without_functions a.tree) ≡ without_functions b.tree → outside_events b ≡ map (carried_event v) (outside_events a)
  moved_events a b v t e =
      let ends : last b.tree ≡ v (last a.tree) = sym (last_same b.tree) ∙ ap last (sym e) ∙ last_carry v (without_functions a.tree) ∙ ap v (last_same a.tree) in
      ap (λ x. events (file_context (last b.tree)) x) (sym e)
      ∙ ap (λ x. events (file_context x) (carry v (without_functions a.tree))) ends
      ∙ tell v (file_context (last a.tree)) (without_functions a.tree) (t.keeps v)

  moved_tree : (a b : File) → IsRead a → IsRead b → head_of a ≡ head_of b → (u : ℕ → ℕ) → carry (λ n. u (place_in b n)) (without_functions b.tree) ≡ without_functions b.tree
      → carry (λ n. u (place_in a n)) (without_functions a.tree) ≡ without_functions b.tree
  moved_tree a b g h e u same =
      sym (carried_twice u (place_in a) (without_functions a.tree))
      ∙ ap (carry u) (sym (outline_outside a.tree) ∙ ap without_functions (sym (one_outline a b g h e)) ∙ outline_outside b.tree)
      ∙ carried_twice u (place_in b) (without_functions b.tree)
      ∙ same

  -- what the second file tells is what the first one tells, of the tokens at the same places
  pub same_events : (a b : File) → IsRead a → IsRead b → head_of a ≡ head_of b → outside_events b ≡ map (carried_event (moves a b)) (outside_events a)
  same_events a b g h e =
      moved_events a b (moves a b) (outside_tree (kinds a.tokens.tokens) a.tree g.tree) (moved_tree a b g h e (at_place b) (outside_tree (kinds b.tokens.tokens) b.tree h.tree).at)

  same_behind : (a b : File) → IsRead a → IsRead b → head_of a ≡ head_of b → outside_events b ≡ map (carried_event (moves_behind a b)) (outside_events a)
  same_behind a b g h e =
      moved_events a b (moves_behind a b) (outside_tree (kinds a.tokens.tokens) a.tree g.tree) (moved_tree a b g h e (behind_one (at_place b)) (outside_tree (kinds b.tokens.tokens) b.tree h.tree).behind)

-- ---- what each event tells

module _ (a b : File) where
  abbrev v : ℕ → ℕ
  v = moves a b

  -- the texts are the same, and groups stay apart
  abbrev pub IsSame : Event → Type 0
  IsSame (event.Import x) = word b.tokens (v x) ≡ word a.tokens x
  IsSame (event.Member m g x) = (moves b a (v g) ≡ g) × (word b.tokens (v x) ≡ word a.tokens x)
  IsSame (event.Use u) = (moves a a u.name ≡ u.name) × (word b.tokens (v u.name) ≡ word a.tokens u.name) × (selected_of b.tokens (carried_role v u.role) ≡ selected_of a.tokens u.role)
  IsSame e = Unit {0}

  module _ (e : head_of a ≡ head_of b) where
    head_text_same : (k : ℕ) → word b.tokens (at_place b k) ≡ word a.tokens (at_place a k)
    head_text_same k = text_at_place b k ∙ ap (λ (h : Head). text_in_head h k) (sym e) ∙ sym (text_at_place a k)

    text_same : (x : ℕ) → moves a a x ≡ x → word b.tokens (v x) ≡ word a.tokens x
    text_same x same = head_text_same (place_in a x) ∙ ap (word a.tokens) same

    selected_text : (j k : ℕ) → place_in a j ≡ k → moves a a j ≡ j → behind_one (at_place a) k ≡ j → v j ≡ behind_one (at_place b) k → word b.tokens (v j - 1) ≡ word a.tokens (j - 1)
    selected_text j zero p at behind both =
        ap (λ x. word b.tokens (x - 1)) both
        ∙ ap (word b.tokens) (sym both)
        ∙ text_same j at
        ∙ ap (word a.tokens) (sym behind)
        ∙ ap (λ x. word a.tokens (x - 1)) behind
    selected_text j (suc k) p at behind both =
        ap (λ x. word b.tokens (x - 1)) both
        ∙ ap (word b.tokens) (let z : suc (at_place b k) - 1 ≡ at_place b k = omega arith in z)
        ∙ head_text_same k
        ∙ ap (word a.tokens) (let z : at_place a k ≡ suc (at_place a k) - 1 = omega arith in z)
        ∙ ap (λ x. word a.tokens (x - 1)) behind

    selected_end : (x y : ℕ) (c d : Bool) → role.Selected x c ≡ role.Selected y d → x ≡ y
    selected_end x y c d h = cc

    selected_same : (r : Role) → carried_role (moves a a) r ≡ r → carried_role (moves_behind a a) r ≡ r → carried_role v r ≡ carried_role (moves_behind a b) r → selected_of b.tokens (carried_role v r) ≡ selected_of a.tokens r
    selected_same (role.Selected j c) at behind both =
        selected_text j (place_in a j) refl (selected_end (moves a a j) j c c at) (selected_end (moves_behind a a j) j c c behind) (selected_end (v j) (moves_behind a b j) c c both)
    selected_same r at behind both = refl

    use_same : (x y : Use) → event.Use x ≡ event.Use y → x ≡ y
    use_same x y h = cc

    import_same : (x y : ℕ) → event.Import x ≡ event.Import y → x ≡ y
    import_same x y h = cc

    group_same : (m : _) (g x h y : ℕ) → event.Member m g x ≡ event.Member m h y → (g ≡ h) × (x ≡ y)
    group_same m g x h y e = (cc, cc)

    one_same : (x : Event) → carried_event (moves a a) x ≡ x → carried_event (moves_behind a a) x ≡ x → carried_event v x ≡ carried_event (moves_behind a b) x → carried_event (moves b a) (carried_event v x) ≡ x → IsSame x
    one_same (event.Import x) at behind both back = text_same x (import_same (moves a a x) x at)
    one_same (event.Member m g x) at behind both back =
        ((group_same m (moves b a (v g)) (moves b a (v x)) g x back).0, text_same x (group_same m (moves a a g) (moves a a x) g x at).1)
    one_same (event.Use u) at behind both back =
        let x = use_same (carried_use (moves a a) u) u at in
        let y = use_same (carried_use (moves_behind a a) u) u behind in
        let z = use_same (carried_use v u) (carried_use (moves_behind a b) u) both in
        let name : moves a a u.name ≡ u.name = ap (λ (q : Use). q.name) x in
        (name, text_same u.name name, selected_same u.role (ap (λ (q : Use). q.role) x) (ap (λ (q : Use). q.role) y) (ap (λ (q : Use). q.role) z))
    one_same (event.Declaration d) at behind both back = tt
    one_same (event.Bodiless i j) at behind both back = tt
    one_same (event.Statement i j) at behind both back = tt
    one_same (event.Misplaced i j) at behind both back = tt
    one_same (event.SecondDefault i) at behind both back = tt

    each_same : (es : List Event) → Every (λ x. carried_event (moves a a) x ≡ x) es → Every (λ x. carried_event (moves_behind a a) x ≡ x) es → Every (λ x. carried_event v x ≡ carried_event (moves_behind a b) x) es
        → Every (λ x. carried_event (moves b a) (carried_event v x) ≡ x) es → Every IsSame es
    each_same [] at behind both back = tt
    each_same (x ∷ es) at behind both back = (one_same x at.0 behind.0 both.0 back.0, each_same es at.1 behind.1 both.1 back.1)

pub all_same : (tell : CarriedTell) (a b : File) → IsRead a → IsRead b → head_of a ≡ head_of b → Every (IsSame a b) (outside_events a)
all_same tell a b g h e =
    let es : List Event = outside_events a in
    each_same a b e es
    (fixed_each (carried_event (moves a a)) es (sym (same_events tell a a g g refl)))
    (fixed_each (carried_event (moves_behind a a)) es (sym (same_behind tell a a g g refl)))
    (both_each (carried_event (moves a b)) (carried_event (moves_behind a b)) es (sym (same_events tell a b g h e) ∙ same_behind tell a b g h e))
    (back_each (carried_event (moves b a)) (carried_event (moves a b)) es (ap (map (carried_event (moves b a))) (sym (same_events tell a b g h e)) ∙ sym (same_events tell b a h g (sym e))))

-- ---- rules

pub none_if : (b : Bool) (s : Place) (ss : List Place) → place_if b s ss ≡ [] → (b ≡ false) × (ss ≡ [])
none_if true s ss h = absurd (some_not_none s ss h)
none_if false s ss h = (refl, h)

pub if_none : (b : Bool) (s : Place) (ss : List Place) → b ≡ false → ss ≡ [] → place_if b s ss ≡ []
if_none b s ss e h = ap (λ x. place_if x s ss) e ∙ h

pub left_none : {A : Type 0} (xs ys : List A) → xs ++ ys ≡ [] → xs ≡ []
left_none [] ys h = refl
left_none (x ∷ xs) ys h = absurd (some_not_none x (xs ++ ys) h)

pub right_none : {A : Type 0} (xs ys : List A) → xs ++ ys ≡ [] → ys ≡ []
right_none [] ys h = h
right_none (x ∷ xs) ys h = absurd (some_not_none x (xs ++ ys) h)

pub none_both : {A : Type 0} (xs ys : List A) → xs ≡ [] → ys ≡ [] → xs ++ ys ≡ []
none_both xs ys e h = ap (λ z. z ++ ys) e ∙ h

-- a rule on the events of a file outside of functions, which fails in no file with the same head where it fails in none
pub by_pairs : (rule : ℕ → TokenList → List Event → List Place)
    → ((n : ℕ) (a b : File) → IsRead a → IsRead b → head_of a ≡ head_of b → rule n a.tokens (outside_events a) ≡ [] → rule n b.tokens (outside_events b) ≡ [])
    → (n : ℕ) (old new : List File) → AreRead old → AreRead new → heads old ≡ heads new → of_files rule n (outside_units old) ≡ [] → of_files rule n (outside_units new) ≡ []
by_pairs rule one n [] [] h k e f = refl
by_pairs rule one n [] (b ∷ bs) h k e f = absurd (some_not_none (head_of b) (heads bs) (sym e))
by_pairs rule one n (a ∷ xs) [] h k e f = refl
by_pairs rule one n (a ∷ xs) (b ∷ bs) h k e f =
    let here : List Place = rule n a.tokens (outside_events a) in
    let rest : List Place = of_files rule (suc n) (outside_units xs) in
    none_both (rule n b.tokens (outside_events b)) (of_files rule (suc n) (outside_units bs))
    (one n a b h.0 k.0 (first_same (head_of a) (head_of b) (heads xs) (heads bs) e) (left_none here rest f))
    (by_pairs rule one (suc n) xs bs h.1 k.1 (others_same (head_of a) (head_of b) (heads xs) (heads bs) e) (right_none here rest f))
