-- What the names of a function mean that begins with a copy of a run: those in place of holes, those of its signature, and those that it
-- returns.
use Rattle.std.proofs.Common.{◌≡◌, ◌∙◌, ℕ, suc, ◌<◌, ◌≤◌, ◌⊎◌, inl, inr, Bool, true, false, List, [], ◌∷◌, ◌++◌, map, Option, Some, None, refl, sym, ap, subst, arith}
use Rattle.std.specs.Prelude.{if◌then◌else◌, ◌&&◌, not, nat_eq}
use Rattle.go_tokens.specs.Spellings.{same_text}
use Rattle.go_tokens.proofs.Public.{same_text-true}
use Rattle.go_tree.specs.declared.context.Block.{Block}
use Rattle.go_tree.specs.declared.context.Block.TheVariants as block
use Rattle.go_tree.specs.declared.context.Entity.{Entity}
use Rattle.go_tree.specs.declared.context.Entity.TheVariants as entity
use Rattle.go_tree.specs.declared.event.Declaration.{Declaration}
use Rattle.go_tree.specs.declared.event.Event.{Event}
use Rattle.go_tree.specs.declared.event.Event.TheVariants as event
use Rattle.go_tree.specs.declared.event.Use.{Use}
use Rattle.go_tree.specs.declared.object.Object.{Object}
use Rattle.go_tree.specs.declared.object.Object.TheVariants as object
use Rattle.go_tree.specs.Contexts.{is_package}
use Rattle.go_tree.specs.Declarations.{Found, are_one_block, is_reused, may_be_reused, is_new}
use Rattle.go_tree.specs.Redeclared.{are_parameters, clashes}
use Rattle.go_tree.specs.Units.{is_blank}
use Rattle.go_heads.specs.Bodies.{function_events}
use Rattle.go_heads.specs.Functions.{Alone}
use Rattle.go_heads.specs.Names.{own_text, found_by, own_names, own_declarations}
use Rattle.go_heads.proofs.Public.{Every}
use Rattle.go_scopes_bodies.specs.Carried.{carried_use}
use Rattle.go_scopes_bodies.specs.Faults.{own_second_declarations}
use Rattle.go_scopes_bodies.specs.Meant.{Meant, own, outside, Outer, own_meant, own_object}
use Rattle.extract_names.specs.Gaps.{Among}
use Rattle.extract_names.specs.Pieces.{Piece, stays, gap, told_before}
use Rattle.extract_names.specs.Sites.{found_as, declared_at, IsPlain, IsNamed}
use Rattle.extract_names.specs.Copies.{Replaced, Copy, IsKept, IsEdge, is_around, copied_declaration, copied_event, told_copied, DeclarationCopied, EventCopied, HoleGoes, HoleIsNew, AllCopied, IsParameter, HeadTells, ParameterStands, InSignature, DeclaredInList, ReturnNames, TailTells, HoleUse, SignatureNames, IsCopy}
use Rattle.extract_names.proofs.Edges.{is_eq, not_eq, eq_true, one, mono}
use Rattle.extract_names.proofs.Founds.{RiseFrom, hit, innermost_of, IsObject, object_found, by_found, meant_is, looked_up, declaring, which, pick, first_of_two, object_is}
use Rattle.extract_names.proofs.Rows.{and_true, both_true, on_off, not_on, Hits, hit_tells, hit_told, none_hit, every_among}
use Rattle.extract_names.proofs.Replaced.{among_left, among_right, among_split, each_among, among_found, among_new, found_among, new_found, clash_free}
use Rattle.extract_names.proofs.Declares.{any_two, new_is}
use Rattle.extract_names.proofs.CopiedRows.{is_kept, outside_hole, same_refl, one_block}
use Rattle.extract_names.proofs.CopiedRows as rows
use Rattle.extract_names.proofs.Copied as copied

-- where one declaration alone is in scope, it is the innermost
innermost_sole : (t : ℕ) (w : List ℕ) (lo : ℕ) (ds : List Found) → RiseFrom lo ds → (one : Found) → Among one ds → hit t w one ≡ true → ((x : Found) → Among x ds → hit t w x ≡ true → x.it.name ≡ one.it.name) → innermost_of t w None ds ≡ Some one
innermost_sole t w lo [] r one k h f = absurd k
innermost_sole t w lo (d ∷ ds) r one (inl e) h f =
    ap (λ b. innermost_of t w (if b then Some d else None) ds) (subst (λ z. hit t w z ≡ true) e h) ∙ none_hit t w (Some d) ds (others ds r.1 (λ x k. f x (inr k))) ∙ ap (λ z. Some z) (sym e)
  where
    others : (xs : List Found) → RiseFrom (suc d.it.name) xs → ((x : Found) → Among x xs → hit t w x ≡ true → x.it.name ≡ one.it.name) → Every (λ x. hit t w x ≡ false) xs
    others xs r g = all xs (suc d.it.name) r g (let n : one.it.name ≡ d.it.name = ap (λ (z : Found). z.it.name) e in omega (arith, n))
      where
        all : (xs : List Found) (hi : ℕ) → RiseFrom hi xs → ((x : Found) → Among x xs → hit t w x ≡ true → x.it.name ≡ one.it.name) → one.it.name < hi → Every (λ x. hit t w x ≡ false) xs
        all [] hi r g lt = tt
        all (x ∷ xs) hi r g lt =
            let le : hi ≤ x.it.name = r.0 in
            (not_on (hit t w x) (λ i. let q : x.it.name ≡ one.it.name = g x (inl refl) i in omega (arith, q, le, lt)), all xs (suc x.it.name) r.1 (λ y k. g y (inr k)) (omega (arith, le, lt)))
innermost_sole t w lo (d ∷ ds) r one (inr k) h f =
    ap (λ b. innermost_of t w (if b then Some d else None) ds) (not_on (hit t w d) (λ i. let q : d.it.name ≡ one.it.name = f d (inl refl) i in let lt : suc d.it.name ≤ one.it.name = low (suc d.it.name) ds r.1 one k in omega (arith, q, lt)))
    ∙ innermost_sole t w (suc d.it.name) ds r.1 one k h (λ x m. f x (inr m))
  where
    low : (lo : ℕ) (xs : List Found) → RiseFrom lo xs → (x : Found) → Among x xs → lo ≤ x.it.name
    low lo [] r x k = absurd k
    low lo (y ∷ xs) r x (inl e) = subst (λ (z : Found). lo ≤ z.it.name) (sym e) r.0
    low lo (y ∷ xs) r x (inr k) = let a : lo ≤ y.it.name = r.0 in let b : suc y.it.name ≤ x.it.name = low (suc y.it.name) xs r.1 x k in omega (arith, a, b)

no_parameters : (f g : Entity) → are_parameters g g ≡ false → are_parameters f g ≡ false
no_parameters f entity.Parameter e = cc
no_parameters entity.Parameter entity.Constant e = refl
no_parameters entity.Parameter entity.Type e = refl
no_parameters entity.Parameter entity.Variable e = refl
no_parameters entity.Parameter entity.Function e = refl
no_parameters f g e = refl

-- the function, or a local
abbrev pub IsSimple : Object → Type 0
IsSimple (object.Package n) = Unit {0}
IsSimple (object.Local f n) = Unit {0}
IsSimple object.Import = ⊥
IsSimple (object.Predeclared p) = ⊥

-- a name that is told of a token where nothing is declared is looked up
named_used : (t : ℕ) (es : List Event) → IsNamed t es → ((d : Declaration) → Among (event.Declaration d) es → d.name ≡ t → ⊥) → which t es ≡ looked_up
named_used t [] n f = absurd n
named_used t (event.Use x ∷ es) n f = by (nat_eq x.name t) refl n (λ k. named_used t es k (λ d l. f d (inr l)))
  where
    by : (b : Bool) → nat_eq x.name t ≡ b → (x.name ≡ t) ⊎ IsNamed t es → (IsNamed t es → which t es ≡ looked_up) → (if b then looked_up else which t es) ≡ looked_up
    by true q n go = refl
    by false q (inl e) go = absurd (on_off (nat_eq x.name t) (is_eq x.name t e) q)
    by false q (inr n) go = go n
named_used t (event.Declaration d ∷ es) (inl e) f = absurd (f d (inl refl) e)
named_used t (event.Declaration d ∷ es) (inr n) f = ap (λ b. if b then declaring else which t es) (not_eq d.name t (f d (inl refl))) ∙ named_used t es n (λ e k. f e (inr k))
named_used t (event.Import x ∷ es) n f = named_used t es n (λ d k. f d (inr k))
named_used t (event.Member x y z ∷ es) n f = named_used t es n (λ d k. f d (inr k))
named_used t (event.Bodiless x y ∷ es) n f = named_used t es n (λ d k. f d (inr k))
named_used t (event.Statement x y ∷ es) n f = named_used t es n (λ d k. f d (inr k))
named_used t (event.Misplaced x y ∷ es) n f = named_used t es n (λ d k. f d (inr k))
named_used t (event.SecondDefault x ∷ es) n f = named_used t es n (λ d k. f d (inr k))

every_of : {A : Type 0} (P : A → Type 0) (xs : List A) → ((x : A) → Among x xs → P x) → Every P xs
every_of P [] f = tt
every_of P (x ∷ xs) f = (f x (inl refl), every_of P xs (λ y k. f y (inr k)))

module _ (a new : Alone) (outer : Outer) (c : Copy) (copy : IsCopy a outer c new) where
  abbrev m : ℕ → ℕ
  m = c.place

  abbrev old_events : List Event
  old_events = function_events a

  abbrev new_events : List Event
  new_events = function_events new

  abbrev run_events : List Event
  run_events = told_before copy.pieces

  abbrev copied_events : List Event
  copied_events = told_copied c copy.pieces

  abbrev E : List Found
  E = own_declarations new

  abbrev Q : List Found
  Q = rows.Q a new outer c copy

  abbrev R : List Found
  R = rows.R a new outer c copy

  abbrev placed : Found → Found
  placed d = record d { it = copied_declaration c d.it }

  up : (x y : ℕ) → IsEdge c x → IsEdge c y → x < y → m x < m y
  up = copy.rises

  -- ---- where what the new function tells comes from

  pub data Whence (e : Event) : Type 0 where
    in_head : Among e copy.head → Whence e
    in_copy : (x : Event) → e ≡ copied_event c x → EventCopied c x → Among x run_events → Whence e
    in_hole : (h : Replaced) → Among h c.holes → HoleIsNew c h e → Whence e
    in_tail : Among e copy.tail → Whence e

  from_pieces : (ps : List Piece) (hs : List Replaced) → AllCopied c hs ps → ((h : Replaced) → Among h hs → Among h c.holes) → ((x : Event) → Among x (told_before ps) → Among x run_events) → (e : Event) → Among e (told_copied c ps) → Whence e
  from_pieces [] hs h into f e k = absurd k
  from_pieces (stays es ∷ ps) hs h into f e k =
      by (among_split e (map (copied_event c) es) (told_copied c ps) k) (from_pieces ps hs h.1 into (λ x n. f x (among_right x es (told_before ps) n)) e)
    where
      was : (xs : List Event) → Among e (map (copied_event c) xs) → (x : Event) × (e ≡ copied_event c x) × Among x xs
      was [] k = absurd k
      was (x ∷ xs) (inl q) = (x, q, inl refl)
      was (x ∷ xs) (inr k) = let y = was xs k in (y.0, y.1, inr y.2)

      by : Among e (map (copied_event c) es) ⊎ Among e (told_copied c ps) → (Among e (told_copied c ps) → Whence e) → Whence e
      by (inl n) go = let y = was es n in in_copy y.0 y.1 (each_among (EventCopied c) y.0 es h.0 y.2) (f y.0 (among_left y.0 es (told_before ps) y.2))
      by (inr n) go = go n
  from_pieces (gap old news ∷ ps) [] h into f e k = absurd h
  from_pieces (gap old news ∷ ps) (r ∷ hs) h into f e k = by (among_split e news (told_copied c ps) k) (from_pieces ps hs h.2 (λ x n. into x (inr n)) (λ x n. f x (among_right x old (told_before ps) n)) e)
    where
      by : Among e news ⊎ Among e (told_copied c ps) → (Among e (told_copied c ps) → Whence e) → Whence e
      by (inl n) go = in_hole r (into r (inl refl)) (each_among (HoleIsNew c r) e news h.1 n)
      by (inr n) go = go n

  pub whence : (e : Event) → Among e new_events → Whence e
  whence e k = by (among_split e copy.head (copied_events ++ copy.tail) (subst (Among e) copy.new_told k))
    where
      rest : Among e copied_events ⊎ Among e copy.tail → Whence e
      rest (inl n) = from_pieces copy.pieces c.holes copy.copied (λ h x. x) (λ x n. n) e n
      rest (inr n) = in_tail n

      by : Among e copy.head ⊎ Among e (copied_events ++ copy.tail) → Whence e
      by (inl n) = in_head n
      by (inr n) = rest (among_split e copied_events copy.tail n)

  -- a name of the run that is in no hole is looked up in the copy
  to_copy : (ps : List Piece) (hs : List Replaced) → AllCopied c hs ps → ((h : Replaced) → Among h hs → Among h c.holes) → (u : Use) → IsKept c u.name → Among (event.Use u) (told_before ps) → Among (event.Use (carried_use m u)) (told_copied c ps)
  to_copy [] hs h into u s k = absurd k
  to_copy (stays es ∷ ps) hs h into u s k = by (among_split (event.Use u) es (told_before ps) k) (to_copy ps hs h.1 into u s)
    where
      mapped : (xs : List Event) → Among (event.Use u) xs → Among (event.Use (carried_use m u)) (map (copied_event c) xs)
      mapped [] k = absurd k
      mapped (x ∷ xs) (inl q) = inl (ap (copied_event c) q)
      mapped (x ∷ xs) (inr k) = inr (mapped xs k)

      by : Among (event.Use u) es ⊎ Among (event.Use u) (told_before ps) → (Among (event.Use u) (told_before ps) → Among (event.Use (carried_use m u)) (told_copied c ps)) → Among (event.Use (carried_use m u)) (map (copied_event c) es ++ told_copied c ps)
      by (inl n) go = among_left (event.Use (carried_use m u)) (map (copied_event c) es) (told_copied c ps) (mapped es n)
      by (inr n) go = among_right (event.Use (carried_use m u)) (map (copied_event c) es) (told_copied c ps) (go n)
  to_copy (gap old news ∷ ps) [] h into u s k = absurd h
  to_copy (gap old news ∷ ps) (r ∷ hs) h into u s k = by (among_split (event.Use u) old (told_before ps) k) (to_copy ps hs h.2 (λ x n. into x (inr n)) u s)
    where
      off : (r.from ≤ u.name) × (u.name < r.upto) → ⊥
      off g = gone (outside_hole c.holes r u.name s.2 (into r (inl refl)))
        where
          gone : (u.name < r.from) ⊎ (r.upto ≤ u.name) → ⊥
          gone (inl lt) = let x : r.from ≤ u.name = g.0 in omega (arith, lt, x)
          gone (inr le) = let x : u.name < r.upto = g.1 in omega (arith, le, x)

      by : Among (event.Use u) old ⊎ Among (event.Use u) (told_before ps) → (Among (event.Use u) (told_before ps) → Among (event.Use (carried_use m u)) (told_copied c ps)) → Among (event.Use (carried_use m u)) (news ++ told_copied c ps)
      by (inl n) go = absurd (off (each_among (HoleGoes r) (event.Use u) old h.0 n))
      by (inr n) go = among_right (event.Use (carried_use m u)) news (told_copied c ps) (go n)

  pub copied_use : (u : Use) → IsKept c u.name → Among (event.Use u) run_events → Among (event.Use (carried_use m u)) new_events
  copied_use u s k = rows.from_copied a new outer c copy (event.Use (carried_use m u)) (to_copy copy.pieces c.holes copy.copied (λ h x. x) u s k)

  pub tail_told : (e : Event) → Among e copy.tail → Among e new_events
  tail_told e k = subst (Among e) (sym copy.new_told) (among_right e copy.head (copied_events ++ copy.tail) (among_right e copied_events copy.tail k))

  -- ---- declarations in scope

  rises_new : RiseFrom 0 E
  rises_new = rows.rises_new a new outer c copy

  head_fact : (x : Found) → Among x Q → (x.it.name < m c.from) × (is_package x.it.block ≡ false → IsParameter c x.it)
  head_fact x k = every_among (λ d. (d.it.name < m c.from) × (is_package d.it.block ≡ false → IsParameter c d.it)) x Q (rows.head_each a new outer c copy) k

  head_text : (x : Found) → Among x Q → x.name ≡ own_text new x.it.name
  head_text x k = every_among (λ d. d.name ≡ own_text new d.it.name) x Q (rows.head_spelled a new outer c copy) k

  in_row : (x : Found) → Among x R → rows.InRow a new outer c copy x
  in_row x k = every_among (rows.InRow a new outer c copy) x R (rows.run_each a new outer c copy) k

  -- what the run declares, by its event
  pub record OfRun (x : Found) : Type 0 where
    pub told : Among (event.Declaration x.it) run_events
    pub text : x.name ≡ own_text a x.it.name
    pub same : found_as a x.it ≡ x
    pub fresh : is_new (own_names a) (found_as a x.it) ≡ true

  pub of_run : (x : Found) → Among x R → OfRun x
  of_run x k =
      let y = found_among (own_text a) x run_events (new_found (own_names a) x (found_by (own_text a) run_events) k) in
      let it : x.it ≡ y.0 = ap (λ (z : Found). z.it) y.2 in
      record {
        told = subst (λ z. Among (event.Declaration z) run_events) (sym it) y.1;
        text = ap (λ (z : Found). z.name) y.2 ∙ ap (λ (z : Declaration). own_text a z.name) (sym it);
        same = ap (found_as a) it ∙ sym y.2;
        fresh = ap (is_new (own_names a)) (ap (found_as a) it ∙ sym y.2) ∙ new_is (own_names a) x (found_by (own_text a) run_events) k;
      }

  -- a declaration of the new function: of its head, or of the copy
  pub either : (x : Found) → Among x E → Among x Q ⊎ ((y : Found) × Among y R × (x ≡ placed y))
  either x k = by (among_split x Q (map placed R) (subst (Among x) (rows.new_whole a new outer c copy) k))
    where
      from : (ds : List Found) → Among x (map placed ds) → (y : Found) × Among y ds × (x ≡ placed y)
      from [] k = absurd k
      from (d ∷ ds) (inl e) = (d, inl refl, e)
      from (d ∷ ds) (inr k) = let y = from ds k in (y.0, inr y.1, y.2)

      by : Among x Q ⊎ Among x (map placed R) → Among x Q ⊎ ((y : Found) × Among y R × (x ≡ placed y))
      by (inl n) = inl n
      by (inr n) = inr (from R n)

  -- a new name isn't blank
  pub new_blank : (d : Declaration) → is_new (own_names a) (found_as a d) ≡ true → is_blank (own_text a d.name) ≡ false
  new_blank d e = by (is_blank (own_text a d.name)) (both_true (not (is_blank (own_text a d.name))) (not (may_be_reused d.manner && is_reused (found_as a d) (own_names a))) e).0
    where
      by : (b : Bool) → not b ≡ true → b ≡ false
      by true e = cc
      by false e = refl

  -- ---- parameters

  module _ (p : ℕ) (l : Among p c.parameters) where
    pub stands : ParameterStands new copy.head p
    stands = copy.parameters p l

    abbrev pub its : Found
    its = found_as new stands.it

    is_parameter : IsParameter c stands.it
    is_parameter = (each_among (HeadTells c) (event.Declaration stands.it) copy.head copy.head_tells stands.there).1 stands.local

    pub its_head : Among its Q
    its_head =
        among_new (own_names new) its (found_by (own_text new) copy.head)
        (and_true (not (is_blank (own_text new stands.it.name))) (not (may_be_reused stands.it.manner && is_reused its (own_names new)))
        (ap (λ u. not (is_blank (own_text new u))) stands.name ∙ ap not stands.some) (ap (λ y. not (may_be_reused y && is_reused its (own_names new))) stands.manner))
        (among_found (own_text new) stands.it copy.head stands.there)

    its_new : Among its E
    its_new = rows.in_head_new a new outer c copy its its_head

    -- it is in scope in the body
    its_hits : (t : ℕ) (w : List ℕ) → w ≡ own_text new p → m c.from ≤ t → t < c.close → hit t w its ≡ true
    its_hits t w e lo hi =
        let x : stands.it.scope.from ≤ m c.from = is_parameter.from in
        let y : stands.it.scope.to ≡ c.close = is_parameter.to in
        hit_told t w its refl stands.local (ap (λ n. same_text (own_text new n) w) stands.name ∙ ap (same_text (own_text new p)) e ∙ same_refl (own_text new p)) (omega (arith, x, lo)) (omega (arith, y, hi))

    -- no other one is spelled so
    its_alone : (x : Found) → Among x Q → is_package x.it.block ≡ false → x.name ≡ own_text new p → x.it.name ≡ its.it.name
    its_alone x k local e = copy.distinct x.it.name p ((head_fact x k).1 local).listed l (sym (head_text x k) ∙ e) ∙ sym stands.name

  -- ---- names in place of holes

  module _ (h : Replaced) (k : Among h c.holes) where
    pub named : Among h.parameter c.parameters
    named = (copy.named h k).0

    abbrev u : ℕ
    u = m h.from

    u_low : m c.from ≤ u
    u_low = mono m (IsEdge c) up c.from h.from copy.edge.0 (copy.holes h k).2 (copy.holes h k).2.0

    u_high : u < c.close
    u_high = let x : u < m c.upto = up h.from c.upto (copy.holes h k).2 copy.edge.1 (copy.holes h k).1 in let y : m c.upto ≤ c.close = copy.close in omega (arith, x, y)

    pub hole_innermost : innermost_of u (own_text new u) None E ≡ Some (its h.parameter named)
    hole_innermost = innermost_sole u (own_text new u) 0 E rises_new (its h.parameter named) (its_new h.parameter named) (its_hits h.parameter named u (own_text new u) (copy.named h k).1 u_low u_high) (λ x n g. by x g (either x n))
      where
        by : (x : Found) → hit u (own_text new u) x ≡ true → Among x Q ⊎ ((y : Found) × Among y R × (x ≡ placed y)) → x.it.name ≡ (its h.parameter named).it.name
        by x g (inl n) = let t = hit_tells u (own_text new u) x g in its_alone h.parameter named x n t.local (same_text-true x.name (own_text new u) t.text ∙ (copy.named h k).1)
        by x g (inr (y, n, e)) =
            let t = hit_tells u (own_text new u) (placed y) (subst (λ z. hit u (own_text new u) z ≡ true) e g) in
            let r = of_run y n in
            absurd (copy.fresh h k y.it r.told (sym (copy.named h k).1 ∙ sym (same_text-true y.name (own_text new u) t.text) ∙ r.text))

  -- ---- names of the signature

  pub signature_innermost : (t : ℕ) (w : List ℕ) → t < c.body → innermost_of t w None E ≡ None
  signature_innermost t w lt = none_hit t w None E (every_of (λ x. hit t w x ≡ false) E (λ x k. not_on (hit t w x) (λ g. by x g (either x k))))
    where
      early : (x : Found) → Among x Q → is_package x.it.block ≡ false → c.body ≤ x.it.scope.from
      early x k local =
          let y = found_among (own_text new) x copy.head (new_found (own_names new) x (found_by (own_text new) copy.head) k) in
          let it : x.it ≡ y.0 = ap (λ (z : Found). z.it) y.2 in
          subst (λ (z : Declaration). is_package z.block ≡ false → c.body ≤ z.scope.from) (sym it) (λ l. ((each_among (InSignature new outer c) (event.Declaration y.0) copy.head copy.signature y.1).parameter l).1) local

      by : (x : Found) → hit t w x ≡ true → Among x Q ⊎ ((y : Found) × Among y R × (x ≡ placed y)) → ⊥
      by x g (inl n) = let z = hit_tells t w x g in let le : c.body ≤ x.it.scope.from = early x n z.local in let from : x.it.scope.from ≤ t = z.from in omega (arith, le, from, lt)
      by x g (inr (y, n, e)) =
          let z = hit_tells t w (placed y) (subst (λ z. hit t w z ≡ true) e g) in
          let r = in_row y n in
          let le : m c.from < m y.it.scope.from = up c.from y.it.scope.from copy.edge.0 r.copied.from r.copied.behind in
          let from : m y.it.scope.from ≤ t = z.from in
          let b : c.body < m c.from = copy.body in
          omega (arith, le, from, b, lt)

  -- ---- names that are returned

  -- behind the copy only what its own list declares is in scope
  own_list : (t : ℕ) (w : List ℕ) (y : Found) → Among y R → m c.upto ≤ t → hit t w (placed y) ≡ true → is_around c y.it.block ≡ true
  own_list t w y k le g = by (in_row y k).copied.ends
    where
      by : ((y.it.block ≡ block.Local c.around) × (y.it.scope.to ≡ c.end)) ⊎ ((i : ℕ) × (y.it.block ≡ block.Local i) × IsKept c i × IsEdge c y.it.scope.to) → is_around c y.it.block ≡ true
      by (inl x) = ap (is_around c) x.0 ∙ rows.around_is a new outer c copy
      by (inr (i, x, n, z)) =
          let e : (copied_declaration c y.it).scope.to ≡ m y.it.scope.to = ap (λ b. if b then c.close else m y.it.scope.to) (ap (is_around c) x ∙ rows.not_around a new outer c copy i n) in
          let to : t < (copied_declaration c y.it).scope.to = (hit_tells t w (placed y) g).to in
          let high : m y.it.scope.to ≤ m c.upto = mono m (IsEdge c) up y.it.scope.to c.upto z copy.edge.1 z.1 in
          absurd (omega (arith, e, to, high, le))

  module _ (free : own_second_declarations a ≡ []) (t : ℕ) (w : List ℕ) (le : m c.upto ≤ t) (lt : t < c.close) where
    low : m c.from ≤ t
    low = let x : m c.from < m c.upto = up c.from c.upto copy.edge.0 copy.edge.1 copy.some in omega (arith, x, le)

    -- a parameter
    pub returned_parameter : (p : ℕ) (l : Among p c.parameters) → w ≡ own_text new p → innermost_of t w None E ≡ Some (its p l)
    returned_parameter p l e = innermost_sole t w 0 E rises_new (its p l) (its_new p l) (its_hits p l t w e low lt) (λ x n g. by x g (either x n))
      where
        by : (x : Found) → hit t w x ≡ true → Among x Q ⊎ ((y : Found) × Among y R × (x ≡ placed y)) → x.it.name ≡ (its p l).it.name
        by x g (inl n) = let z = hit_tells t w x g in its_alone p l x n z.local (same_text-true x.name w z.text ∙ e)
        by x g (inr (y, n, q)) =
            let i : hit t w (placed y) ≡ true = subst (λ z. hit t w z ≡ true) q g in
            let z = hit_tells t w (placed y) i in
            let r = of_run y n in
            let s = in_row y n in
            absurd (copy.apart y.it s.told (s.copied.name.0, s.copied.name.1) (own_list t w y n le i) r.fresh p l (sym e ∙ sym (same_text-true y.name w z.text) ∙ r.text))

    -- what the run's list declares
    module _ (d : Declaration) (x : DeclaredInList a c run_events d) (e : w ≡ own_text a d.name) where
      abbrev was : Found
      was = found_as a d

      was_run : Among was R
      was_run = among_new (own_names a) was (found_by (own_text a) run_events) x.new (among_found (own_text a) d run_events x.told)

      was_copied : DeclarationCopied c d
      was_copied = (in_row was was_run).copied

      was_hits : hit t w (placed was) ≡ true
      was_hits =
          let from : m d.scope.from ≤ m c.upto = mono m (IsEdge c) up d.scope.from c.upto was_copied.from copy.edge.1 was_copied.from.1 in
          let to : (copied_declaration c d).scope.to ≡ c.close = ap (λ b. if b then c.close else m d.scope.to) x.around in
          hit_told t w (placed was) refl (rows.moved_in a new outer c copy was (in_row was was_run)) (ap (same_text (own_text a d.name)) e ∙ same_refl (own_text a d.name)) (omega (arith, from, le)) (omega (arith, to, lt))

      is_local_around : (b : Block) → is_around c b ≡ true → b ≡ block.Local c.around
      is_local_around block.Package q = cc
      is_local_around (block.Local i) q = ap (λ j. block.Local j) (eq_true i c.around q)

      pub returned_declared : innermost_of t w None E ≡ Some (placed was)
      returned_declared = innermost_sole t w 0 E rises_new (placed was) (rows.in_run_new a new outer c copy was was_run) was_hits (λ z n g. by z g (either z n))
        where
          once : (y : Found) → Among y R → hit t w (placed y) ≡ true → y.it.name ≡ d.name
          once y n i = decided (nat_eq y.it.name d.name) refl
            where
              z : Hits t w (placed y)
              z = hit_tells t w (placed y) i

              r : OfRun y
              r = of_run y n

              clash : clashes y was ≡ true
              clash =
                  and_true (same_text y.name (own_text a d.name) && are_one_block y.file y.it.block 0 d.block) (not (are_parameters y.it.entity d.entity))
                  (and_true (same_text y.name (own_text a d.name)) (are_one_block y.file y.it.block 0 d.block)
                  (ap (λ v. same_text v (own_text a d.name)) (same_text-true y.name w z.text ∙ e) ∙ same_refl (own_text a d.name))
                  (ap (λ f. are_one_block f y.it.block 0 d.block) (in_row y n).file ∙ ap (λ b. are_one_block 0 b 0 d.block) (is_local_around y.it.block (own_list t w y n le i))
                  ∙ ap (are_one_block 0 (block.Local c.around) 0) (is_local_around d.block x.around) ∙ one_block (block.Local c.around) refl))
                  (ap not (no_parameters y.it.entity d.entity was_copied.variety))

              decided : (b : Bool) → nat_eq y.it.name d.name ≡ b → y.it.name ≡ d.name
              decided true q = eq_true y.it.name d.name q
              decided false q =
                  absurd (on_off (clashes y was) clash
                  (any_two (own_declarations a) (clash_free [] (own_declarations a) free) y was (rows.in_run_old a new outer c copy y n) (rows.in_run_old a new outer c copy was was_run)
                  (λ p. on_off (nat_eq y.it.name d.name) (is_eq y.it.name d.name p) q)))

          by : (z : Found) → hit t w z ≡ true → Among z Q ⊎ ((y : Found) × Among y R × (z ≡ placed y)) → z.it.name ≡ m d.name
          by z g (inl n) =
              let s = hit_tells t w z g in
              absurd (copy.apart d (rows.from_run a new outer c copy (event.Declaration d) x.told) (was_copied.name.0, was_copied.name.1) x.around x.new z.it.name ((head_fact z n).1 s.local).listed
              (sym (head_text z n) ∙ same_text-true z.name w s.text ∙ e))
          by z g (inr (y, n, q)) = ap (λ (v : Found). v.it.name) q ∙ ap m (once y n (subst (λ v. hit t w v ≡ true) q g))

  -- ---- what they mean

  files_new : Every (λ d. d.file ≡ 0) E
  files_new = rows.files_new a new outer c copy

  -- by the innermost declaration
  pub meant_by : (t : ℕ) (w : List ℕ) (o : Option Found) → is_blank w ≡ false → innermost_of t w None E ≡ o → own_meant new outer t w ≡ by_found new o (outer w)
  meant_by t w o b e = meant_is new outer 0 rises_new files_new t w ∙ ap (λ x. if x then None else by_found new (innermost_of t w None E) (outer w)) b ∙ ap (λ z. by_found new z (outer w)) e

  -- what is declared by a declaration is a local or the function
  pub some_declared : (x : Found) → Among x E → (o : Object) × (declared_at new x.it.name ≡ Some (own o)) × IsSimple o
  some_declared x k = by (object_found new copy.new_itself files_new x.it.name x (rows.find_new a new outer c copy x k))
    where
      by : IsObject new x.it.name x → (o : Object) × (declared_at new x.it.name ≡ Some (own o)) × IsSimple o
      by (inl y) = (object.Package 0, y.1, tt)
      by (inr (l, i, y, z)) = (object.Local 0 i, y, tt)

  -- each name in place of a hole is looked up, and means the parameter
  pub holes_mean : (h : Replaced) (k : Among h c.holes) → IsNamed (m h.from) new_events → own_object new outer (m h.from) ≡ declared_at new h.parameter
  holes_mean h k n =
      object_is new outer (m h.from) meant w refl ∙ ap (λ z. pick z meant (first_of_two (declared_at new (m h.from)) meant)) (named_used (m h.from) new_events n here) ∙ means
    where
      w : List ℕ
      w = own_text new (m h.from)

      meant : Option Meant
      meant = own_meant new outer (m h.from) w

      p : Among h.parameter c.parameters
      p = named h k

      clear : is_blank w ≡ false
      clear = ap is_blank (copy.named h k).1 ∙ (stands h.parameter p).some

      means : meant ≡ declared_at new h.parameter
      means = meant_by (m h.from) w (Some (its h.parameter p)) clear (hole_innermost h k) ∙ ap (declared_at new) (stands h.parameter p).name

      -- no declaration stands there
      apart : (d : Declaration) → Whence (event.Declaration d) → d.name ≡ m h.from → ⊥
      apart d (in_head n) e = let lt : d.name < m c.from = (each_among (HeadTells c) (event.Declaration d) copy.head copy.head_tells n).0 in let lo : m c.from ≤ m h.from = u_low h k in omega (arith, lt, lo, e)
      apart d (in_copy (event.Declaration x) q s n) e =
          let r : d ≡ copied_declaration c x = cc in
          let same : x.name ≡ h.from = one m (IsEdge c) up x.name h.from (is_kept c x.name s.name) (copy.holes h k).2 (ap (λ (z : Declaration). z.name) (sym r) ∙ e) in
          off (outside_hole c.holes h x.name s.name.2 k) same
        where
          off : (x.name < h.from) ⊎ (h.upto ≤ x.name) → x.name ≡ h.from → ⊥
          off (inl lt) e = omega (arith, lt, e)
          off (inr le) e = let wide : h.from < h.upto = (copy.holes h k).0 in omega (arith, le, wide, e)
      apart d (in_copy (event.Use x) q s n) e = cc
      apart d (in_copy (event.Import x) q s n) e = cc
      apart d (in_copy (event.Member x y z) q s n) e = cc
      apart d (in_copy (event.Bodiless x y) q s n) e = cc
      apart d (in_copy (event.Statement x y) q s n) e = cc
      apart d (in_copy (event.Misplaced x y) q s n) e = cc
      apart d (in_copy (event.SecondDefault x) q s n) e = cc
      apart d (in_hole g l n) e = absurd n
      apart d (in_tail n) e = absurd (each_among (TailTells c) (event.Declaration d) copy.tail copy.tail_tells n)

      here : (d : Declaration) → Among (event.Declaration d) new_events → d.name ≡ m h.from → ⊥
      here d n e = apart d (whence (event.Declaration d) n) e

  -- What a name of the new function that is no copied one means: what is declared there, or what no local is.
  pub data Other (u : Use) : Type 0 where
    declared : (x : Found) → Among x E → innermost_of u.name (own_text new u.name) None E ≡ Some x → Other u
    undeclared : (o : Object) → innermost_of u.name (own_text new u.name) None E ≡ None → outer (own_text new u.name) ≡ Some o → IsPlain (outside o) → Other u

  pub hole_other : (u : Use) (h : Replaced) → Among h c.holes → HoleUse c h u → Other u
  hole_other u h k n =
      declared (its h.parameter (named h k)) (its_new h.parameter (named h k)) (subst (λ t. innermost_of t (own_text new t) None E ≡ Some (its h.parameter (named h k))) (sym n.name) (hole_innermost h k))

  pub head_other : (u : Use) → SignatureNames new outer c u → Other u
  head_other u n = undeclared n.object (signature_innermost u.name (own_text new u.name) n.name) n.meant n.plain

  pub tail_other : own_second_declarations a ≡ [] → (u : Use) → m c.upto ≤ u.name → ReturnNames a new c run_events u → Other u
  tail_other free u le n = by n.meant
    where
      by : ((p : ℕ) × Among p c.parameters × (own_text new u.name ≡ own_text new p)) ⊎ ((d : Declaration) × DeclaredInList a c run_events d × (own_text new u.name ≡ own_text a d.name)) → Other u
      by (inl (p, l, e)) = declared (its p l) (its_new p l) (returned_parameter free u.name (own_text new u.name) le n.name p l e)
      by (inr (d, x, e)) =
          declared (placed (found_as a d)) (rows.in_run_new a new outer c copy (found_as a d) (was_run free u.name (own_text new u.name) le n.name d x e)) (returned_declared free u.name (own_text new u.name) le n.name d x e)
