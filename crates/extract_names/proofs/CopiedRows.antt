-- What a function declares that begins with a copy of a run: its parameters, and what the run declares.
use Rattle.std.proofs.Common.{◌≡◌, ◌∙◌, ℕ, suc, ◌<◌, ◌≤◌, ◌⊎◌, inl, inr, Bool, true, false, List, [], ◌∷◌, ◌++◌, length, map, Option, Some, None, refl, sym, ap, subst, append-nil, arith}
use Rattle.std.specs.Prelude.{if◌then◌else◌, ◌&&◌, not, nat_eq, nat_le, nat_lt, option_map}
use Rattle.std.proofs.lemmas.List.{map-append}
use Rattle.go_tokens.specs.Spellings.{same_text}
use Rattle.go_tokens.proofs.Public.{same_text-true}
use Rattle.go_tree.specs.declared.context.Block.{Block}
use Rattle.go_tree.specs.declared.context.Block.TheVariants as block
use Rattle.go_tree.specs.declared.context.Manner.{Manner}
use Rattle.go_tree.specs.declared.context.Manner.TheVariants as manner
use Rattle.go_tree.specs.declared.event.Declaration.{Declaration}
use Rattle.go_tree.specs.declared.event.Event.{Event}
use Rattle.go_tree.specs.declared.event.Event.TheVariants as event
use Rattle.go_tree.specs.declared.object.Object.{Object}
use Rattle.go_tree.specs.declared.object.Object.TheVariants as object
use Rattle.go_tree.specs.Contexts.{is_package}
use Rattle.go_tree.specs.Declarations.{Found, are_one_block, is_variable, is_reused, may_be_reused, is_reused_of, is_new, new_among}
use Rattle.go_tree.specs.Meanings.{Meaning}
use Rattle.go_tree.specs.Objects.{is_declared_at}
use Rattle.go_tree.specs.Units.{is_blank}
use Rattle.go_heads.specs.Bodies.{function_events}
use Rattle.go_heads.specs.Functions.{Alone}
use Rattle.go_heads.specs.Names.{own_text, no_place, found_by, own_names, own_declarations}
use Rattle.go_heads.proofs.Public.{Every, every_new, new_append}
use Rattle.go_scopes_bodies.specs.Meant.{Meant, own, outside, Outer, own_declared}
use Rattle.extract_names.specs.Gaps.{Among}
use Rattle.extract_names.specs.Pieces.{Piece, stays, gap, told_before}
use Rattle.extract_names.specs.Sites.{found_as, declared_at, EachEvent, local_number, renumbered}
use Rattle.extract_names.specs.Copies.{Replaced, Free, Copy, IsIn, StaysOutside, AtHole, IsKept, IsEdge, is_around, copied_block, copied_declaration, copied_event, told_copied, DeclarationCopied, EventCopied, HoleGoes, HoleIsNew, AllCopied, DeclaredInFront, StandsInFront, StandsBehind, IsParameter, HeadTells, TailTells, ParameterStands, IsCopy, parameter_of, copied_behind, copied_number}
use Rattle.extract_names.proofs.Edges.{is_le, not_le, is_lt, is_eq, eq_true, not_eq, lt_true, mono, same_lt, same_eq}
use Rattle.extract_names.proofs.Founds.{RiseFrom, rise_lower, rise_new, rise_found, files_found, find, find_self, IsObject, object_found, untold, looked_up, declaring, which}
use Rattle.extract_names.proofs.Rows.{both_true, and_true, first_off, second_off, on_off, every_among}
use Rattle.extract_names.proofs.Replaced.{among_left, among_right, among_split, each_among, found_append, found_event, among_found, found_among, new_found, reuse_found, reuse_told, Reuses, reuse_tells, reuse_is, same_truth}

-- ---- tokens

pub kept_edge : (hs : List Replaced) (t : ℕ) → StaysOutside hs t → AtHole hs t
kept_edge [] t h = tt
kept_edge (x ∷ hs) t h = (by h.0, kept_edge hs t h.1)
  where
    by : (t < x.from) ⊎ (x.upto ≤ t) → (t ≤ x.from) ⊎ (x.upto ≤ t)
    by (inl lt) = inl (omega (arith, lt))
    by (inr le) = inr le

pub outside_hole : (hs : List Replaced) (h : Replaced) (t : ℕ) → StaysOutside hs t → Among h hs → (t < h.from) ⊎ (h.upto ≤ t)
outside_hole [] h t s k = absurd k
outside_hole (x ∷ hs) h t s (inl e) = subst (λ (z : Replaced). (t < z.from) ⊎ (z.upto ≤ t)) (sym e) s.0
outside_hole (x ∷ hs) h t s (inr k) = outside_hole hs h t s.1 k

pub is_kept : (c : Copy) (t : ℕ) → IsKept c t → IsEdge c t
is_kept c t k = (k.0, let lt : t < c.upto = k.1 in omega (arith, lt), kept_edge c.holes t k.2)

-- ---- lists of events

-- no name stands at the token
abbrev pub Elsewhere : ℕ → Event → Type 0
Elsewhere t (event.Declaration d) = d.name ≡ t → ⊥
Elsewhere t (event.Use u) = u.name ≡ t → ⊥
Elsewhere t e = Unit {0}

pub which_skip : (t : ℕ) (es rest : List Event) → EachEvent (Elsewhere t) es → which t (es ++ rest) ≡ which t rest
which_skip t [] rest h = refl
which_skip t (event.Use u ∷ es) rest h = ap (λ b. if b then looked_up else which t (es ++ rest)) (not_eq u.name t h.0) ∙ which_skip t es rest h.1
which_skip t (event.Declaration d ∷ es) rest h = ap (λ b. if b then declaring else which t (es ++ rest)) (not_eq d.name t h.0) ∙ which_skip t es rest h.1
which_skip t (event.Import i ∷ es) rest h = which_skip t es rest h.1
which_skip t (event.Member m g i ∷ es) rest h = which_skip t es rest h.1
which_skip t (event.Bodiless i j ∷ es) rest h = which_skip t es rest h.1
which_skip t (event.Statement i j ∷ es) rest h = which_skip t es rest h.1
which_skip t (event.Misplaced i j ∷ es) rest h = which_skip t es rest h.1
which_skip t (event.SecondDefault i ∷ es) rest h = which_skip t es rest h.1

pub which_none : (t : ℕ) (es : List Event) → EachEvent (Elsewhere t) es → which t es ≡ untold
which_none t es h = ap (which t) (sym (append-nil es)) ∙ which_skip t es [] h

pub each_map : (Q R : Event → Type 0) (es : List Event) → ((e : Event) → Q e → R e) → EachEvent Q es → EachEvent R es
each_map Q R [] f h = tt
each_map Q R (e ∷ es) f h = (f e h.0, each_map Q R es f h.1)

pub find_skip : (t : ℕ) (ds rest : List Found) → Every (λ d. d.it.name ≡ t → ⊥) ds → find t (ds ++ rest) ≡ find t rest
find_skip t [] rest h = refl
find_skip t (d ∷ ds) rest h = ap (λ b. if b then Some d else find t (ds ++ rest)) (not_eq d.it.name t h.0) ∙ find_skip t ds rest h.1

pub find_none : (t : ℕ) (ds : List Found) → Every (λ d. d.it.name ≡ t → ⊥) ds → find t ds ≡ None
find_none t ds h = ap (find t) (sym (append-nil ds)) ∙ find_skip t ds [] h

pub spelled : (w : ℕ → List ℕ) (es : List Event) → Every (λ d. d.name ≡ w d.it.name) (found_by w es)
spelled w [] = tt
spelled w (event.Declaration d ∷ es) = (refl, spelled w es)
spelled w (event.Use u ∷ es) = spelled w es
spelled w (event.Import k ∷ es) = spelled w es
spelled w (event.Member m g k ∷ es) = spelled w es
spelled w (event.Bodiless k l ∷ es) = spelled w es
spelled w (event.Statement k l ∷ es) = spelled w es
spelled w (event.Misplaced k l ∷ es) = spelled w es
spelled w (event.SecondDefault k ∷ es) = spelled w es

pub rise_left : (lo : ℕ) (xs ys : List Found) → RiseFrom lo (xs ++ ys) → RiseFrom lo xs
rise_left lo [] ys h = tt
rise_left lo (x ∷ xs) ys h = (h.0, rise_left (suc x.it.name) xs ys h.1)

pub rise_right : (lo : ℕ) (xs ys : List Found) → RiseFrom lo (xs ++ ys) → RiseFrom lo ys
rise_right lo [] ys h = h
rise_right lo (x ∷ xs) ys h = rise_lower lo (suc x.it.name) ys (let le : lo ≤ x.it.name = h.0 in omega (arith, le)) (rise_right (suc x.it.name) xs ys h.1)

pub parameter_is : (fs : List Free) (f : Free) (x : ℕ) → Among f fs → f.old ≡ x → ((g : Free) → Among g fs → g.old ≡ x → g ≡ f) → parameter_of fs x ≡ f.parameter
parameter_is [] f x k e once = absurd k
parameter_is (g ∷ fs) f x k e once = by (nat_eq g.old x) refl k (λ m. parameter_is fs f x m e (λ h n. once h (inr n)))
  where
    by : (b : Bool) → nat_eq g.old x ≡ b → Among f (g ∷ fs) → (Among f fs → parameter_of fs x ≡ f.parameter) → (if b then g.parameter else parameter_of fs x) ≡ f.parameter
    by true q k go = ap (λ (z : Free). z.parameter) (once g (inl refl) (eq_true g.old x q))
    by false q (inl p) go = absurd (on_off (nat_eq g.old x) (is_eq g.old x (ap (λ (z : Free). z.old) (sym p) ∙ e)) q)
    by false q (inr m) go = go m

-- what is declared is the function's own
pub declared_own : (x : ℕ) (ms : List Meaning) (o : Meant) → own_declared None x ms ≡ Some o → (z : Object) × (o ≡ own z)
declared_own x [] o e = cc
declared_own x (m ∷ ms) o e = by (is_declared_at 0 x m.source) e (declared_own x ms o)
  where
    by : (b : Bool) → (if b then Some (own m.object) else own_declared None x ms) ≡ Some o → (own_declared None x ms ≡ Some o → (z : Object) × (o ≡ own z)) → (z : Object) × (o ≡ own z)
    by true e go = (m.object, let q : own m.object ≡ o = cc in sym q)
    by false e go = go e

pub not_outside : (x : Option Object) (z : Object) → option_map outside x ≡ Some (own z) → ⊥
not_outside None z e = cc
not_outside (Some o) z e = cc

pub same_refl : (w : List ℕ) → same_text w w ≡ true
same_refl [] = refl
same_refl (x ∷ xs) = and_true (nat_eq x x) (same_text xs xs) (is_eq x x refl) (same_refl xs)

-- blocks are one
pub one_block_is : (b c : Block) → are_one_block 0 b 0 c ≡ true → b ≡ c
one_block_is block.Package block.Package e = refl
one_block_is block.Package (block.Local j) e = cc
one_block_is (block.Local i) block.Package e = cc
one_block_is (block.Local i) (block.Local j) e = ap (λ x. block.Local x) (eq_true i j (both_true (nat_eq 0 0) (nat_eq i j) e).1)

pub one_block : (b : Block) → is_package b ≡ false → are_one_block 0 b 0 b ≡ true
one_block block.Package e = cc
one_block (block.Local i) e = and_true (nat_eq 0 0) (nat_eq i i) refl (is_eq i i refl)

module _ (a new : Alone) (outer : Outer) (c : Copy) (copy : IsCopy a outer c new) where
  abbrev pub m : ℕ → ℕ
  m = c.place

  abbrev pub old_events : List Event
  old_events = function_events a

  abbrev pub new_events : List Event
  new_events = function_events new

  abbrev pub D : List Found
  D = own_declarations a

  abbrev pub E : List Found
  E = own_declarations new

  abbrev pub moved : Declaration → Declaration
  moved d = copied_declaration c d

  abbrev pub placed : Found → Found
  placed d = record d { it = copied_declaration c d.it }

  pub up : (x y : ℕ) → IsEdge c x → IsEdge c y → x < y → m x < m y
  up = copy.rises

  -- ---- blocks

  pub local_in : (d : Declaration) → DeclarationCopied c d → is_package d.block ≡ false
  local_in d s = by s.ends
    where
      by : ((d.block ≡ block.Local c.around) × (d.scope.to ≡ c.end)) ⊎ ((i : ℕ) × (d.block ≡ block.Local i) × IsKept c i × IsEdge c d.scope.to) → is_package d.block ≡ false
      by (inl x) = ap is_package x.0
      by (inr x) = ap is_package x.1

  pub moved_local : (b : Block) → is_package b ≡ false → is_package (copied_block c b) ≡ false
  moved_local block.Package e = e
  moved_local (block.Local i) e = by (nat_eq i c.around)
    where
      by : (b : Bool) → is_package (if b then block.Local c.body else block.Local (m i)) ≡ false
      by true = refl
      by false = refl

  pub not_around : (i : ℕ) → IsKept c i → nat_eq i c.around ≡ false
  not_around i k = not_eq i c.around (λ e. let a : c.from ≤ i = k.0 in let b : c.around < c.from = copy.inner in omega (arith, a, b, e))

  pub around_block : copied_block c (block.Local c.around) ≡ block.Local c.body
  around_block = ap (λ b. if b then block.Local c.body else block.Local (m c.around)) (is_eq c.around c.around refl)

  pub inner_block : (i : ℕ) → IsKept c i → copied_block c (block.Local i) ≡ block.Local (m i)
  inner_block i k = ap (λ b. if b then block.Local c.body else block.Local (m i)) (not_around i k)

  pub around_is : is_around c (block.Local c.around) ≡ true
  around_is = is_eq c.around c.around refl

  -- an inner block is none that begins with the body
  pub body_apart : (i : ℕ) → IsKept c i → m i ≡ c.body → ⊥
  body_apart i k e =
      let a : m c.from ≤ m i = mono m (IsEdge c) up c.from i copy.edge.0 (is_kept c i k) k.0 in
      let b : c.body < m c.from = copy.body in
      omega (arith, a, b, e)

  pub same_blocks : (d x : Declaration) → DeclarationCopied c d → DeclarationCopied c x → are_one_block 0 (copied_block c d.block) 0 (copied_block c x.block) ≡ are_one_block 0 d.block 0 x.block
  same_blocks d x s r = by s.ends r.ends
    where
      apart : (i j : ℕ) → (i ≡ j → ⊥) → (nat_eq 0 0 && nat_eq i j) ≡ false
      apart i j f = second_off (nat_eq 0 0) (nat_eq i j) (not_eq i j f)

      low : (i : ℕ) → IsKept c i → c.around ≡ i → ⊥
      low i k e = let a : c.from ≤ i = k.0 in let b : c.around < c.from = copy.inner in omega (arith, a, b, e)

      by : ((d.block ≡ block.Local c.around) × (d.scope.to ≡ c.end)) ⊎ ((i : ℕ) × (d.block ≡ block.Local i) × IsKept c i × IsEdge c d.scope.to)
          → ((x.block ≡ block.Local c.around) × (x.scope.to ≡ c.end)) ⊎ ((i : ℕ) × (x.block ≡ block.Local i) × IsKept c i × IsEdge c x.scope.to) → are_one_block 0 (copied_block c d.block) 0 (copied_block c x.block) ≡ are_one_block 0 d.block 0 x.block
      by (inl y) (inl z) =
          ap (λ b. are_one_block 0 b 0 (copied_block c x.block)) (ap (copied_block c) y.0 ∙ around_block) ∙ ap (λ b. are_one_block 0 (block.Local c.body) 0 b) (ap (copied_block c) z.0 ∙ around_block)
          ∙ one_block (block.Local c.body) refl ∙ sym (ap (λ b. are_one_block 0 b 0 x.block) y.0 ∙ ap (λ b. are_one_block 0 (block.Local c.around) 0 b) z.0 ∙ one_block (block.Local c.around) refl)
      by (inl y) (inr (j, z, k, e)) =
          ap (λ b. are_one_block 0 b 0 (copied_block c x.block)) (ap (copied_block c) y.0 ∙ around_block) ∙ ap (λ b. are_one_block 0 (block.Local c.body) 0 b) (ap (copied_block c) z ∙ inner_block j k)
          ∙ apart c.body (m j) (λ q. body_apart j k (sym q)) ∙ sym (ap (λ b. are_one_block 0 b 0 x.block) y.0 ∙ ap (λ b. are_one_block 0 (block.Local c.around) 0 b) z ∙ apart c.around j (low j k))
      by (inr (i, y, k, e)) (inl z) =
          ap (λ b. are_one_block 0 b 0 (copied_block c x.block)) (ap (copied_block c) y ∙ inner_block i k) ∙ ap (λ b. are_one_block 0 (block.Local (m i)) 0 b) (ap (copied_block c) z.0 ∙ around_block)
          ∙ apart (m i) c.body (body_apart i k) ∙ sym (ap (λ b. are_one_block 0 b 0 x.block) y ∙ ap (λ b. are_one_block 0 (block.Local i) 0 b) z.0 ∙ apart i c.around (λ q. low i k (sym q)))
      by (inr (i, y, k, e)) (inr (j, z, l, f)) =
          ap (λ b. are_one_block 0 b 0 (copied_block c x.block)) (ap (copied_block c) y ∙ inner_block i k) ∙ ap (λ b. are_one_block 0 (block.Local (m i)) 0 b) (ap (copied_block c) z ∙ inner_block j l)
          ∙ ap (λ b. nat_eq 0 0 && b) (same_eq m (IsEdge c) up i j (is_kept c i k) (is_kept c j l)) ∙ sym (ap (λ b. are_one_block 0 b 0 x.block) y ∙ ap (λ b. are_one_block 0 (block.Local i) 0 b) z)

  -- ---- events

  pub in_pieces : (ps : List Piece) (hs : List Replaced) → AllCopied c hs ps → (d : Declaration) → Among (event.Declaration d) (told_before ps) → DeclarationCopied c d × Among (event.Declaration (moved d)) (told_copied c ps)
  in_pieces [] hs h d k = absurd k
  in_pieces (stays es ∷ ps) hs h d k = by (among_split (event.Declaration d) es (told_before ps) k) (in_pieces ps hs h.1 d)
    where
      copied_among : (es : List Event) → Among (event.Declaration d) es → Among (event.Declaration (moved d)) (map (copied_event c) es)
      copied_among [] k = absurd k
      copied_among (e ∷ es) (inl q) = inl (ap (copied_event c) q)
      copied_among (e ∷ es) (inr k) = inr (copied_among es k)

      by : Among (event.Declaration d) es ⊎ Among (event.Declaration d) (told_before ps) → (Among (event.Declaration d) (told_before ps) → DeclarationCopied c d × Among (event.Declaration (moved d)) (told_copied c ps))
          → DeclarationCopied c d × Among (event.Declaration (moved d)) (map (copied_event c) es ++ told_copied c ps)
      by (inl n) go = (each_among (EventCopied c) (event.Declaration d) es h.0 n, among_left (event.Declaration (moved d)) (map (copied_event c) es) (told_copied c ps) (copied_among es n))
      by (inr n) go = let x = go n in (x.0, among_right (event.Declaration (moved d)) (map (copied_event c) es) (told_copied c ps) x.1)
  in_pieces (gap old news ∷ ps) [] h d k = absurd h
  in_pieces (gap old news ∷ ps) (r ∷ hs) h d k = by (among_split (event.Declaration d) old (told_before ps) k) (in_pieces ps hs h.2 d)
    where
      by : Among (event.Declaration d) old ⊎ Among (event.Declaration d) (told_before ps) → (Among (event.Declaration d) (told_before ps) → DeclarationCopied c d × Among (event.Declaration (moved d)) (told_copied c ps))
          → DeclarationCopied c d × Among (event.Declaration (moved d)) (news ++ told_copied c ps)
      by (inl n) go = absurd (each_among (HoleGoes r) (event.Declaration d) old h.0 n)
      by (inr n) go = let x = go n in (x.0, among_right (event.Declaration (moved d)) news (told_copied c ps) x.1)

  pub from_pieces : (ps : List Piece) (hs : List Replaced) → AllCopied c hs ps → (d : Declaration) → Among (event.Declaration d) (told_copied c ps) → (x : Declaration) × (d ≡ moved x) × DeclarationCopied c x × Among (event.Declaration x) (told_before ps)
  from_pieces [] hs h d k = absurd k
  from_pieces (stays es ∷ ps) hs h d k = by (among_split (event.Declaration d) (map (copied_event c) es) (told_copied c ps) k) (from_pieces ps hs h.1 d)
    where
      was : (es : List Event) → EachEvent (EventCopied c) es → Among (event.Declaration d) (map (copied_event c) es) → (x : Declaration) × (d ≡ moved x) × DeclarationCopied c x × Among (event.Declaration x) es
      was [] h k = absurd k
      was (event.Declaration y ∷ es) h (inl q) = let p : d ≡ moved y = cc in (y, p, h.0, inl refl)
      was (event.Use y ∷ es) h (inl q) = cc
      was (event.Import i ∷ es) h (inl q) = cc
      was (event.Member i j y ∷ es) h (inl q) = cc
      was (event.Bodiless i j ∷ es) h (inl q) = cc
      was (event.Statement i j ∷ es) h (inl q) = cc
      was (event.Misplaced i j ∷ es) h (inl q) = cc
      was (event.SecondDefault i ∷ es) h (inl q) = cc
      was (e ∷ es) h (inr k) = let y = was es h.1 k in (y.0, y.1, y.2, inr y.3)

      by : Among (event.Declaration d) (map (copied_event c) es) ⊎ Among (event.Declaration d) (told_copied c ps) → (Among (event.Declaration d) (told_copied c ps) → (x : Declaration) × (d ≡ moved x) × DeclarationCopied c x × Among (event.Declaration x) (told_before ps))
          → (x : Declaration) × (d ≡ moved x) × DeclarationCopied c x × Among (event.Declaration x) (es ++ told_before ps)
      by (inl n) go = let y = was es h.0 n in (y.0, y.1, y.2, among_left (event.Declaration y.0) es (told_before ps) y.3)
      by (inr n) go = let y = go n in (y.0, y.1, y.2, among_right (event.Declaration y.0) es (told_before ps) y.3)
  from_pieces (gap old news ∷ ps) [] h d k = absurd h
  from_pieces (gap old news ∷ ps) (r ∷ hs) h d k = by (among_split (event.Declaration d) news (told_copied c ps) k) (from_pieces ps hs h.2 d)
    where
      by : Among (event.Declaration d) news ⊎ Among (event.Declaration d) (told_copied c ps) → (Among (event.Declaration d) (told_copied c ps) → (x : Declaration) × (d ≡ moved x) × DeclarationCopied c x × Among (event.Declaration x) (told_before ps))
          → (x : Declaration) × (d ≡ moved x) × DeclarationCopied c x × Among (event.Declaration x) (old ++ told_before ps)
      by (inl n) go = absurd (each_among (HoleIsNew c r) (event.Declaration d) news h.1 n)
      by (inr n) go = let y = go n in (y.0, y.1, y.2, among_right (event.Declaration y.0) old (told_before ps) y.3)

  abbrev pub run_events : List Event
  run_events = told_before copy.pieces

  abbrev pub copied_events : List Event
  copied_events = told_copied c copy.pieces

  pub from_run : (e : Event) → Among e run_events → Among e old_events
  from_run e k = subst (Among e) (sym copy.told) (among_right e copy.before (run_events ++ copy.behind) (among_left e run_events copy.behind k))

  pub from_front : (e : Event) → Among e copy.before → Among e old_events
  from_front e k = subst (Among e) (sym copy.told) (among_left e copy.before (run_events ++ copy.behind) k)

  pub from_head : (e : Event) → Among e copy.head → Among e new_events
  from_head e k = subst (Among e) (sym copy.new_told) (among_left e copy.head (copied_events ++ copy.tail) k)

  pub from_copied : (e : Event) → Among e copied_events → Among e new_events
  from_copied e k = subst (Among e) (sym copy.new_told) (among_right e copy.head (copied_events ++ copy.tail) (among_left e copied_events copy.tail k))

  -- ---- which names are new

  pub reuse_down : (d x : Declaration) → DeclarationCopied c d → DeclarationCopied c x → Reuses (found_as a d) (found_as a x) → Reuses (found_as new (moved d)) (found_as new (moved x))
  reuse_down d x s r y = record {
    variable = y.variable;
    before = up x.name d.statement (is_kept c x.name r.name) (is_kept c d.statement s.statement) y.before;
    block = same_blocks d x s r ∙ y.block;
    text = ap (λ z. same_text z (own_text new (m x.name))) (copy.texts d.name s.name) ∙ ap (same_text (own_text a d.name)) (copy.texts x.name r.name) ∙ y.text;
  }

  pub reuse_up : (d x : Declaration) → DeclarationCopied c d → DeclarationCopied c x → Reuses (found_as new (moved d)) (found_as new (moved x)) → Reuses (found_as a d) (found_as a x)
  reuse_up d x s r y = record {
    variable = y.variable;
    before = lt_true x.name d.statement (sym (same_lt m (IsEdge c) up x.name d.statement (is_kept c x.name r.name) (is_kept c d.statement s.statement)) ∙ is_lt (m x.name) (m d.statement) y.before);
    block = sym (same_blocks d x s r) ∙ y.block;
    text = sym (ap (λ z. same_text z (own_text new (m x.name))) (copy.texts d.name s.name) ∙ ap (same_text (own_text a d.name)) (copy.texts x.name r.name)) ∙ y.text;
  }

  -- an inner block begins in the run
  pub around_by : (d : Declaration) → DeclarationCopied c d → copied_block c d.block ≡ block.Local c.body → is_around c d.block ≡ true
  around_by d s e = by s.ends
    where
      by : ((d.block ≡ block.Local c.around) × (d.scope.to ≡ c.end)) ⊎ ((i : ℕ) × (d.block ≡ block.Local i) × IsKept c i × IsEdge c d.scope.to) → is_around c d.block ≡ true
      by (inl x) = ap (is_around c) x.0 ∙ around_is
      by (inr (i, x, k, z)) = absurd (body_apart i k (let p : block.Local (m i) ≡ block.Local c.body = sym (ap (copied_block c) x ∙ inner_block i k) ∙ e in cc))

  pub around_moved : (b : Block) → is_around c b ≡ true → copied_block c b ≡ block.Local c.body
  around_moved block.Package e = cc
  around_moved (block.Local i) e = ap (λ b. if b then block.Local c.body else block.Local (m i)) e

  module _ (d : Declaration) (s : DeclarationCopied c d) (k : Among (event.Declaration d) old_events) (defined : d.manner ≡ manner.Defined) (blank : is_blank (own_text a d.name) ≡ false) where
    in_run : IsIn c d.name
    in_run = (s.name.0, s.name.1)

    tell_new : (w : Declaration) → Among (event.Declaration w) new_events → Reuses (found_as new (moved d)) (found_as new w) → is_reused (found_as new (moved d)) (own_names new) ≡ true
    tell_new w n r = reuse_told (found_as new (moved d)) (own_names new) (found_as new w) (among_found (own_text new) w new_events n) (reuse_is (found_as new (moved d)) (found_as new w) r)

    tell_old : (x : Declaration) → Among (event.Declaration x) old_events → Reuses (found_as a d) (found_as a x) → is_reused (found_as a d) (own_names a) ≡ true
    tell_old x n r = reuse_told (found_as a d) (own_names a) (found_as a x) (among_found (own_text a) x old_events n) (reuse_is (found_as a d) (found_as a x) r)

    to_new : is_reused (found_as a d) (own_names a) ≡ true → is_reused (found_as new (moved d)) (own_names new) ≡ true
    to_new e =
        let y = reuse_found (found_as a d) (own_names a) e in
        let x = found_among (own_text a) y.0 old_events y.1 in
        let r : Reuses (found_as a d) (found_as a x.0) = reuse_tells (found_as a d) (found_as a x.0) (subst (λ z. is_reused_of (found_as a d) z ≡ true) x.2 y.2) in
        by x.0 r (among_split (event.Declaration x.0) copy.before (run_events ++ copy.behind) (subst (Among (event.Declaration x.0)) copy.told x.1))
      where
        by_parameter : (u : ℕ) → Among u c.parameters → own_text new u ≡ own_text a d.name → is_around c d.block ≡ true → is_reused (found_as new (moved d)) (own_names new) ≡ true
        by_parameter u l t r =
            let p : ParameterStands new copy.head u = copy.parameters u l in
            let h = each_among (HeadTells c) (event.Declaration p.it) copy.head copy.head_tells p.there in
            let q : IsParameter c p.it = h.1 p.local in
            let lt : p.it.name < m c.from = h.0 in
            let le : m c.from ≤ m d.statement = mono m (IsEdge c) up c.from d.statement copy.edge.0 (is_kept c d.statement s.statement) s.statement.0 in
            tell_new p.it (from_head (event.Declaration p.it) p.there)
            (record {
              variable = ap is_variable q.entity;
              before = omega (arith, lt, le);
              block = ap (λ b. are_one_block 0 b 0 p.it.block) (around_moved d.block r) ∙ ap (λ b. are_one_block 0 (block.Local c.body) 0 b) q.block ∙ one_block (block.Local c.body) refl;
              text =
                  ap (λ z. same_text z (own_text new p.it.name)) (copy.texts d.name s.name) ∙ ap (λ z. same_text (own_text a d.name) (own_text new z)) p.name ∙ ap (same_text (own_text a d.name)) t ∙ same_refl (own_text a d.name);
            })

        behind : (x : Declaration) → Reuses (found_as a d) (found_as a x) → Among (event.Declaration x) copy.behind → ⊥
        behind x r n =
            let a : c.upto ≤ x.name = (each_among (StandsBehind c) (event.Declaration x) copy.behind copy.from_behind n).0 in
            let b : x.name < d.statement = r.before in
            let e : d.statement < c.upto = s.statement.1 in
            omega (arith, a, b, e)

        inside : (x : Declaration) → Reuses (found_as a d) (found_as a x) → Among (event.Declaration x) run_events ⊎ Among (event.Declaration x) copy.behind → is_reused (found_as new (moved d)) (own_names new) ≡ true
        inside x r (inl n) = let y = in_pieces copy.pieces c.holes copy.copied x n in tell_new (moved x) (from_copied (event.Declaration (moved x)) y.1) (reuse_down d x s y.0 r)
        inside x r (inr n) = absurd (behind x r n)

        by : (x : Declaration) → Reuses (found_as a d) (found_as a x) → Among (event.Declaration x) copy.before ⊎ Among (event.Declaration x) (run_events ++ copy.behind) → is_reused (found_as new (moved d)) (own_names new) ≡ true
        by x r (inl n) = let y = copy.reuses d x k n in_run defined blank (reuse_is (found_as a d) (found_as a x) r) in by_parameter y.1 y.2 y.3 y.0
        by x r (inr n) = inside x r (among_split (event.Declaration x) run_events copy.behind n)

    to_old : is_reused (found_as new (moved d)) (own_names new) ≡ true → is_reused (found_as a d) (own_names a) ≡ true
    to_old e =
        let y = reuse_found (found_as new (moved d)) (own_names new) e in
        let x = found_among (own_text new) y.0 new_events y.1 in
        let r : Reuses (found_as new (moved d)) (found_as new x.0) = reuse_tells (found_as new (moved d)) (found_as new x.0) (subst (λ z. is_reused_of (found_as new (moved d)) z ≡ true) x.2 y.2) in
        by x.0 r (among_split (event.Declaration x.0) copy.head (copied_events ++ copy.tail) (subst (Among (event.Declaration x.0)) copy.new_told x.1))
      where
        local_of : (x : Declaration) → Reuses (found_as new (moved d)) (found_as new x) → copied_block c d.block ≡ x.block
        local_of x r = one_block_is (copied_block c d.block) x.block r.block

        by_parameter : (x : Declaration) → Reuses (found_as new (moved d)) (found_as new x) → IsParameter c x → is_reused (found_as a d) (own_names a) ≡ true
        by_parameter x r q = spelled_so (is_reused (found_as a d) (own_names a)) refl
          where
            t : own_text new x.name ≡ own_text a d.name
            t = sym (same_text-true (own_text new (m d.name)) (own_text new x.name) r.text) ∙ copy.texts d.name s.name

            not_blank : is_blank (own_text a d.name) ≡ false
            not_blank = ap is_blank (sym t) ∙ (copy.parameters x.name q.listed).some

            spelled_so : (b : Bool) → is_reused (found_as a d) (own_names a) ≡ b → b ≡ true
            spelled_so true e = refl
            spelled_so false e =
                let f : is_new (own_names a) (found_as a d) ≡ true =
                and_true (not (is_blank (own_text a d.name))) (not (may_be_reused d.manner && is_reused (found_as a d) (own_names a))) (ap not not_blank)
                (ap (λ z. not (may_be_reused d.manner && z)) e ∙ ap not (second_off (may_be_reused d.manner) false refl)) in
                absurd (copy.apart d k in_run (around_by d s (local_of x r ∙ q.block)) f x.name q.listed t)

        inside : (x : Declaration) → Reuses (found_as new (moved d)) (found_as new x) → Among (event.Declaration x) copied_events ⊎ Among (event.Declaration x) copy.tail → is_reused (found_as a d) (own_names a) ≡ true
        inside x r (inl n) =
            let y = from_pieces copy.pieces c.holes copy.copied x n in
            tell_old y.0 (from_run (event.Declaration y.0) y.3) (reuse_up d y.0 s y.2 (subst (λ z. Reuses (found_as new (moved d)) (found_as new z)) y.1 r))
        inside x r (inr n) = absurd (each_among (TailTells c) (event.Declaration x) copy.tail copy.tail_tells n)

        by : (x : Declaration) → Reuses (found_as new (moved d)) (found_as new x) → Among (event.Declaration x) copy.head ⊎ Among (event.Declaration x) (copied_events ++ copy.tail) → is_reused (found_as a d) (own_names a) ≡ true
        by x r (inl n) = by_parameter x r ((each_among (HeadTells c) (event.Declaration x) copy.head copy.head_tells n).1 (ap is_package (sym (local_of x r)) ∙ moved_local d.block (local_in d s)))
        by x r (inr n) = inside x r (among_split (event.Declaration x) copied_events copy.tail n)

    reused_same : is_reused (found_as new (moved d)) (own_names new) ≡ is_reused (found_as a d) (own_names a)
    reused_same = same_truth (is_reused (found_as new (moved d)) (own_names new)) (is_reused (found_as a d) (own_names a)) to_old to_new

  pub new_same : (d : Declaration) → DeclarationCopied c d → Among (event.Declaration d) old_events → is_new (own_names new) (found_as new (moved d)) ≡ is_new (own_names a) (found_as a d)
  new_same d s k = ap (λ w. not (is_blank w) && not (may_be_reused d.manner && is_reused (found_as new (moved d)) (own_names new))) (copy.texts d.name s.name) ∙ named (is_blank (own_text a d.name)) refl
    where
      by : is_blank (own_text a d.name) ≡ false → (x : Manner) → d.manner ≡ x → (may_be_reused x && is_reused (found_as new (moved d)) (own_names new)) ≡ (may_be_reused x && is_reused (found_as a d) (own_names a))
      by blank manner.Declared e = refl
      by blank manner.Ranged e = refl
      by blank manner.Defined e = reused_same d s k e blank

      named : (b : Bool) → is_blank (own_text a d.name) ≡ b → (not b && not (may_be_reused d.manner && is_reused (found_as new (moved d)) (own_names new))) ≡ (not b && not (may_be_reused d.manner && is_reused (found_as a d) (own_names a)))
      named true e = refl
      named false e = ap not (by e d.manner refl)

  -- ---- declarations, in front of the run, in it and behind it

  abbrev pub old_declared : List Event → List Found
  old_declared es = new_among (own_names a) (found_by (own_text a) es)

  abbrev pub new_declared : List Event → List Found
  new_declared es = new_among (own_names new) (found_by (own_text new) es)

  pub old_both : (es fs : List Event) → old_declared (es ++ fs) ≡ old_declared es ++ old_declared fs
  old_both es fs = ap (new_among (own_names a)) (found_append (own_text a) es fs) ∙ new_append (own_names a) (found_by (own_text a) es) (found_by (own_text a) fs)

  pub new_both : (es fs : List Event) → new_declared (es ++ fs) ≡ new_declared es ++ new_declared fs
  new_both es fs = ap (new_among (own_names new)) (found_append (own_text new) es fs) ∙ new_append (own_names new) (found_by (own_text new) es) (found_by (own_text new) fs)

  pub stays_row : (es : List Event) → EachEvent (EventCopied c) es → ((e : Event) → Among e es → Among e old_events) → new_declared (map (copied_event c) es) ≡ map placed (old_declared es)
  stays_row [] h f = refl
  stays_row (event.Declaration d ∷ es) h f =
      let rest : new_declared (map (copied_event c) es) ≡ map placed (old_declared es) = stays_row es h.1 (λ e k. f e (inr k)) in
      ap (λ b. if b then found_as new (moved d) ∷ new_declared (map (copied_event c) es) else new_declared (map (copied_event c) es)) (new_same d h.0 (f (event.Declaration d) (inl refl)))
      ∙ ap (λ w. if is_new (own_names a) (found_as a d) then record { file = 0; name = w; place = no_place; it = moved d } ∷ new_declared (map (copied_event c) es) else new_declared (map (copied_event c) es)) (copy.texts d.name h.0.name)
      ∙ ap (λ xs. if is_new (own_names a) (found_as a d) then placed (found_as a d) ∷ xs else xs) rest
      ∙ by (is_new (own_names a) (found_as a d))
    where
      by : (b : Bool) → (if b then placed (found_as a d) ∷ map placed (old_declared es) else map placed (old_declared es)) ≡ map placed (if b then found_as a d ∷ old_declared es else old_declared es)
      by true = refl
      by false = refl
  stays_row (event.Use u ∷ es) h f = stays_row es h.1 (λ e k. f e (inr k))
  stays_row (event.Import i ∷ es) h f = stays_row es h.1 (λ e k. f e (inr k))
  stays_row (event.Member i g x ∷ es) h f = stays_row es h.1 (λ e k. f e (inr k))
  stays_row (event.Bodiless i j ∷ es) h f = stays_row es h.1 (λ e k. f e (inr k))
  stays_row (event.Statement i j ∷ es) h f = stays_row es h.1 (λ e k. f e (inr k))
  stays_row (event.Misplaced i j ∷ es) h f = stays_row es h.1 (λ e k. f e (inr k))
  stays_row (event.SecondDefault i ∷ es) h f = stays_row es h.1 (λ e k. f e (inr k))

  pub nothing_found : (Q : Event → Type 0) → ((d : Declaration) → Q (event.Declaration d) → ⊥) → (w : ℕ → List ℕ) (es : List Event) → EachEvent Q es → found_by w es ≡ []
  nothing_found Q f w [] h = refl
  nothing_found Q f w (event.Declaration d ∷ es) h = absurd (f d h.0)
  nothing_found Q f w (event.Use u ∷ es) h = nothing_found Q f w es h.1
  nothing_found Q f w (event.Import i ∷ es) h = nothing_found Q f w es h.1
  nothing_found Q f w (event.Member i g x ∷ es) h = nothing_found Q f w es h.1
  nothing_found Q f w (event.Bodiless i j ∷ es) h = nothing_found Q f w es h.1
  nothing_found Q f w (event.Statement i j ∷ es) h = nothing_found Q f w es h.1
  nothing_found Q f w (event.Misplaced i j ∷ es) h = nothing_found Q f w es h.1
  nothing_found Q f w (event.SecondDefault i ∷ es) h = nothing_found Q f w es h.1

  pub run_rows : (ps : List Piece) (hs : List Replaced) → AllCopied c hs ps → ((e : Event) → Among e (told_before ps) → Among e old_events) → new_declared (told_copied c ps) ≡ map placed (old_declared (told_before ps))
  run_rows [] hs h f = refl
  run_rows (stays es ∷ ps) hs h f =
      new_both (map (copied_event c) es) (told_copied c ps)
      ∙ ap (λ xs. xs ++ new_declared (told_copied c ps)) (stays_row es h.0 (λ e k. f e (among_left e es (told_before ps) k)))
      ∙ ap (λ xs. map placed (old_declared es) ++ xs) (run_rows ps hs h.1 (λ e k. f e (among_right e es (told_before ps) k)))
      ∙ sym (map-append placed (old_declared es) (old_declared (told_before ps)))
      ∙ ap (map placed) (sym (old_both es (told_before ps)))
  run_rows (gap old news ∷ ps) [] h f = absurd h
  run_rows (gap old news ∷ ps) (r ∷ hs) h f =
      new_both news (told_copied c ps)
      ∙ ap (λ xs. new_among (own_names new) xs ++ new_declared (told_copied c ps)) (nothing_found (HoleIsNew c r) (λ d k. k) (own_text new) news h.1)
      ∙ run_rows ps hs h.2 (λ e k. f e (among_right e old (told_before ps) k))
      ∙ ap (map placed) (sym (old_both old (told_before ps) ∙ ap (λ xs. new_among (own_names a) xs ++ old_declared (told_before ps)) (nothing_found (HoleGoes r) (λ d k. k) (own_text a) old h.0)))

  abbrev pub X : List Found
  X = old_declared copy.before

  abbrev pub R : List Found
  R = old_declared run_events

  abbrev pub Y : List Found
  Y = old_declared copy.behind

  abbrev pub Q : List Found
  Q = new_declared copy.head

  pub old_whole : D ≡ X ++ (R ++ Y)
  old_whole = ap old_declared copy.told ∙ old_both copy.before (run_events ++ copy.behind) ∙ ap (λ xs. X ++ xs) (old_both run_events copy.behind)

  pub new_whole : E ≡ Q ++ map placed R
  new_whole =
      ap new_declared copy.new_told
      ∙ new_both copy.head (copied_events ++ copy.tail)
      ∙ ap (λ xs. Q ++ xs) (new_both copied_events copy.tail
      ∙ ap (λ xs. new_declared copied_events ++ new_among (own_names new) xs) (nothing_found (TailTells c) (λ d k. k) (own_text new) copy.tail copy.tail_tells)
      ∙ append-nil (new_declared copied_events)
      ∙ run_rows copy.pieces c.holes copy.copied from_run)

  pub rises_old : RiseFrom 0 D
  rises_old = rise_new 0 (own_names a) (own_names a) (rise_found (own_text a) 0 (length a.texts) old_events copy.order)

  pub rises_new : RiseFrom 0 E
  rises_new = rise_new 0 (own_names new) (own_names new) (rise_found (own_text new) 0 (length new.texts) new_events copy.new_order)

  pub files_old : Every (λ d. d.file ≡ 0) D
  files_old = every_new (λ d. d.file ≡ 0) (own_names a) (own_names a) (files_found (own_text a) old_events)

  pub files_new : Every (λ d. d.file ≡ 0) E
  files_new = every_new (λ d. d.file ≡ 0) (own_names new) (own_names new) (files_found (own_text new) new_events)

  -- a declaration of the run
  pub record InRow (d : Found) : Type 0 where
    pub file : d.file ≡ 0
    pub copied : DeclarationCopied c d.it
    pub told : Among (event.Declaration d.it) old_events

  pub run_each : Every InRow R
  run_each = every_of R (λ x k. let y = found_among (own_text a) x run_events (new_found (own_names a) x (found_by (own_text a) run_events) k) in subst InRow (sym y.2) (record { file = refl; copied = (in_pieces copy.pieces c.holes copy.copied y.0 y.1).0; told = from_run (event.Declaration y.0) y.1 }))
    where
      every_of : (ds : List Found) → ((x : Found) → Among x ds → InRow x) → Every InRow ds
      every_of [] f = tt
      every_of (d ∷ ds) f = (f d (inl refl), every_of ds (λ x k. f x (inr k)))

  pub front_each : Every (λ d. DeclaredInFront c d.it) X
  front_each = every_new (λ d. DeclaredInFront c d.it) (own_names a) (found_by (own_text a) copy.before) (found_event (own_text a) (StandsInFront c) (DeclaredInFront c) copy.before (λ d h. h) copy.in_front)

  pub behind_each : Every (λ d. (c.upto ≤ d.it.name) × (d.it.name ≤ d.it.scope.from)) Y
  behind_each =
      every_new (λ d. (c.upto ≤ d.it.name) × (d.it.name ≤ d.it.scope.from)) (own_names a) (found_by (own_text a) copy.behind)
      (found_event (own_text a) (StandsBehind c) (λ d. (c.upto ≤ d.name) × (d.name ≤ d.scope.from)) copy.behind (λ d h. (h.0, h.1)) copy.from_behind)

  pub head_each : Every (λ d. (d.it.name < m c.from) × (is_package d.it.block ≡ false → IsParameter c d.it)) Q
  head_each =
      every_new (λ d. (d.it.name < m c.from) × (is_package d.it.block ≡ false → IsParameter c d.it)) (own_names new) (found_by (own_text new) copy.head)
      (found_event (own_text new) (HeadTells c) (λ d. (d.name < m c.from) × (is_package d.block ≡ false → IsParameter c d)) copy.head (λ d h. h) copy.head_tells)

  pub head_spelled : Every (λ d. d.name ≡ own_text new d.it.name) Q
  head_spelled = every_new (λ d. d.name ≡ own_text new d.it.name) (own_names new) (found_by (own_text new) copy.head) (spelled (own_text new) copy.head)

  abbrev pub rename : Option Meant → Option Meant
  rename o = option_map (renumbered (copied_number a c new)) o

  pub objects_same : (x y : ℕ) (d e : Found) → find x D ≡ Some d → find y E ≡ Some e → y ≡ copied_behind c x → is_package e.it.block ≡ is_package d.it.block → declared_at new y ≡ rename (declared_at a x)
  objects_same x y d e fd fe b p = by (object_found a copy.itself files_old x d fd) (object_found new copy.new_itself files_new y e fe)
    where
      by : IsObject a x d → IsObject new y e → declared_at new y ≡ rename (declared_at a x)
      by (inl l) (inl n) = n.1 ∙ sym (ap rename l.1)
      by (inl l) (inr n) = let z : is_package e.it.block ≡ true = p ∙ l.0 in let w : is_package e.it.block ≡ false = n.0 in cc
      by (inr l) (inl n) = let z : is_package e.it.block ≡ false = p ∙ l.0 in let w : is_package e.it.block ≡ true = n.0 in cc
      by (inr (l, i, f, t)) (inr (k, j, g, u)) =
          let q : copied_number a c new i ≡ j = ap (λ z. local_number (declared_at new (copied_behind c z))) t ∙ ap (λ z. local_number (declared_at new z)) (sym b) ∙ ap local_number g in
          g ∙ ap (λ z. Some (own (object.Local 0 z))) (sym q) ∙ sym (ap rename f)

  pub behind_run : (x : ℕ) → c.from ≤ x → x < c.upto → copied_behind c x ≡ m x
  behind_run x a b = ap (λ z. if z then m x else parameter_of c.free x) (and_true (nat_le c.from x) (nat_lt x c.upto) (is_le c.from x a) (is_lt x c.upto b))

  pub behind_free : (x : ℕ) → x < c.from → copied_behind c x ≡ parameter_of c.free x
  behind_free x lt = ap (λ z. if z then m x else parameter_of c.free x) (first_off (nat_le c.from x) (nat_lt x c.upto) (not_le c.from x lt))

  pub find_old : (x : Found) → Among x D → find x.it.name D ≡ Some x
  find_old x k = (every_among (λ d. (0 ≤ d.it.name) × (find d.it.name D ≡ Some d)) x D (find_self 0 D rises_old) k).1

  pub find_new : (x : Found) → Among x E → find x.it.name E ≡ Some x
  find_new x k = (every_among (λ d. (0 ≤ d.it.name) × (find d.it.name E ≡ Some d)) x E (find_self 0 E rises_new) k).1

  pub in_front_old : (x : Found) → Among x X → Among x D
  in_front_old x k = subst (Among x) (sym old_whole) (among_left x X (R ++ Y) k)

  pub in_run_old : (x : Found) → Among x R → Among x D
  in_run_old x k = subst (Among x) (sym old_whole) (among_right x X (R ++ Y) (among_left x R Y k))

  pub in_head_new : (x : Found) → Among x Q → Among x E
  in_head_new x k = subst (Among x) (sym new_whole) (among_left x Q (map placed R) k)

  pub in_run_new : (x : Found) → Among x R → Among (placed x) E
  in_run_new x k = subst (Among (placed x)) (sym new_whole) (among_right (placed x) Q (map placed R) (among_placed R k))
    where
      among_placed : (ds : List Found) → Among x ds → Among (placed x) (map placed ds)
      among_placed [] k = absurd k
      among_placed (d ∷ ds) (inl e) = inl (ap placed e)
      among_placed (d ∷ ds) (inr k) = inr (among_placed ds k)

  -- an object of the run
  pub run_object : (x : Found) → Among x R → declared_at new (m x.it.name) ≡ rename (declared_at a x.it.name)
  run_object x k =
      let r : InRow x = every_among InRow x R run_each k in
      objects_same x.it.name (m x.it.name) x (placed x) (find_old x (in_run_old x k)) (find_new (placed x) (in_run_new x k)) (sym (behind_run x.it.name r.copied.name.0 r.copied.name.1)) (moved_local x.it.block (local_in x.it r.copied) ∙ sym (local_in x.it r.copied))

  pub moved_in : (d : Found) → InRow d → is_package (placed d).it.block ≡ false
  moved_in d r = moved_local d.it.block (local_in d.it r.copied)
