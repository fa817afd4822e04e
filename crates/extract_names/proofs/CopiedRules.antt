-- Rules on branches, defaults and declared names, of a function that begins with a copy of a run.
use Rattle.std.proofs.Common.{◌≡◌, ◌∙◌, ℕ, ◌<◌, ◌⊎◌, inl, inr, Bool, true, false, List, [], ◌∷◌, ◌++◌, map, refl, sym, ap, subst}
use Rattle.std.specs.Prelude.{◌&&◌, not, nat_eq}
use Rattle.go_tokens.specs.Spellings.{same_text}
use Rattle.go_tokens.proofs.Public.{same_text-true}
use Rattle.go_tree.specs.declared.context.Block.{Block}
use Rattle.go_tree.specs.declared.context.Block.TheVariants as block
use Rattle.go_tree.specs.declared.context.Entity.{Entity}
use Rattle.go_tree.specs.declared.context.Entity.TheVariants as entity
use Rattle.go_tree.specs.declared.event.Declaration.{Declaration}
use Rattle.go_tree.specs.declared.event.Event.{Event}
use Rattle.go_tree.specs.declared.event.Event.TheVariants as event
use Rattle.go_tree.specs.Branches.{misplaced}
use Rattle.go_tree.specs.Contexts.{is_package}
use Rattle.go_tree.specs.Declarations.{Found, are_one_block, same_block, is_new}
use Rattle.go_tree.specs.Duplicates.{second_defaults}
use Rattle.go_tree.specs.Redeclared.{are_parameters, clashes}
use Rattle.go_heads.specs.Bodies.{function_events}
use Rattle.go_heads.specs.Functions.{Alone}
use Rattle.go_heads.specs.Names.{own_text, found_by, own_names, own_declarations}
use Rattle.go_scopes_bodies.specs.Faults.{no_tokens, own_misplaced, own_second_defaults, own_second_declarations}
use Rattle.go_scopes_bodies.specs.Meant.{Outer}
use Rattle.extract_names.specs.Gaps.{Among}
use Rattle.extract_names.specs.Pieces.{Piece, stays, gap, told_before}
use Rattle.extract_names.specs.Sites.{found_as, EachEvent}
use Rattle.extract_names.specs.Copies.{Replaced, Copy, copied_block, copied_event, told_copied, HoleIsNew, AllCopied, IsParameter, HeadTells, TailTells, IsCopy}
use Rattle.extract_names.proofs.Edges.{eq_true}
use Rattle.extract_names.proofs.Rows.{both_true, on_off, not_on, every_among}
use Rattle.extract_names.proofs.Replaced.{among_split, found_among, new_found, clash_free}
use Rattle.extract_names.proofs.Declares.{new_is, clash_flip, any_two, none_second}
use Rattle.extract_names.proofs.CopiedRows as copied

-- ---- events

one_block_here : (n k : ℕ) (b : Block) (i : ℕ) → are_one_block n (block.Local i) k b ≡ true → b ≡ block.Local i
one_block_here n k block.Package i e = cc
one_block_here n k (block.Local j) i e = ap (λ x. block.Local x) (sym (eq_true i j (both_true (nat_eq n k) (nat_eq i j) e).1))

each_append : (P : Event → Type 0) (es fs : List Event) → EachEvent P es → EachEvent P fs → EachEvent P (es ++ fs)
each_append P [] fs h g = g
each_append P (e ∷ es) fs h g = (h.0, each_append P es fs h.1 g)

each_left : (P : Event → Type 0) (es fs : List Event) → EachEvent P (es ++ fs) → EachEvent P es
each_left P [] fs h = tt
each_left P (e ∷ es) fs h = (h.0, each_left P es fs h.1)

each_right : (P : Event → Type 0) (es fs : List Event) → EachEvent P (es ++ fs) → EachEvent P fs
each_right P [] fs h = h
each_right P (e ∷ es) fs h = each_right P es fs h.1

each_map : (P R : Event → Type 0) (es : List Event) → ((e : Event) → P e → R e) → EachEvent P es → EachEvent R es
each_map P R [] f h = tt
each_map P R (e ∷ es) f h = (f e h.0, each_map P R es f h.1)

abbrev Straight : Event → Type 0
Straight (event.Misplaced i j) = ⊥
Straight e = Unit {0}

abbrev Single : Event → Type 0
Single (event.SecondDefault i) = ⊥
Single e = Unit {0}

straight : (es : List Event) → misplaced 0 no_tokens es ≡ [] → EachEvent Straight es
straight [] e = tt
straight (event.Misplaced i j ∷ es) e = cc
straight (event.Import i ∷ es) e = (tt, straight es e)
straight (event.Declaration d ∷ es) e = (tt, straight es e)
straight (event.Use u ∷ es) e = (tt, straight es e)
straight (event.Member m g i ∷ es) e = (tt, straight es e)
straight (event.Bodiless i j ∷ es) e = (tt, straight es e)
straight (event.Statement i j ∷ es) e = (tt, straight es e)
straight (event.SecondDefault i ∷ es) e = (tt, straight es e)

none_misplaced : (es : List Event) → EachEvent Straight es → misplaced 0 no_tokens es ≡ []
none_misplaced [] h = refl
none_misplaced (event.Misplaced i j ∷ es) h = absurd h.0
none_misplaced (event.Import i ∷ es) h = none_misplaced es h.1
none_misplaced (event.Declaration d ∷ es) h = none_misplaced es h.1
none_misplaced (event.Use u ∷ es) h = none_misplaced es h.1
none_misplaced (event.Member m g i ∷ es) h = none_misplaced es h.1
none_misplaced (event.Bodiless i j ∷ es) h = none_misplaced es h.1
none_misplaced (event.Statement i j ∷ es) h = none_misplaced es h.1
none_misplaced (event.SecondDefault i ∷ es) h = none_misplaced es h.1

single : (es : List Event) → second_defaults 0 no_tokens es ≡ [] → EachEvent Single es
single [] e = tt
single (event.SecondDefault i ∷ es) e = cc
single (event.Import i ∷ es) e = (tt, single es e)
single (event.Declaration d ∷ es) e = (tt, single es e)
single (event.Use u ∷ es) e = (tt, single es e)
single (event.Member m g i ∷ es) e = (tt, single es e)
single (event.Bodiless i j ∷ es) e = (tt, single es e)
single (event.Statement i j ∷ es) e = (tt, single es e)
single (event.Misplaced i j ∷ es) e = (tt, single es e)

none_second_default : (es : List Event) → EachEvent Single es → second_defaults 0 no_tokens es ≡ []
none_second_default [] h = refl
none_second_default (event.SecondDefault i ∷ es) h = absurd h.0
none_second_default (event.Import i ∷ es) h = none_second_default es h.1
none_second_default (event.Declaration d ∷ es) h = none_second_default es h.1
none_second_default (event.Use u ∷ es) h = none_second_default es h.1
none_second_default (event.Member m g i ∷ es) h = none_second_default es h.1
none_second_default (event.Bodiless i j ∷ es) h = none_second_default es h.1
none_second_default (event.Statement i j ∷ es) h = none_second_default es h.1
none_second_default (event.Misplaced i j ∷ es) h = none_second_default es h.1

module _ (a new : Alone) (outer : Outer) (c : Copy) (copy : IsCopy a outer c new) where
  abbrev m : ℕ → ℕ
  m = c.place

  abbrev old_events : List Event
  old_events = function_events a

  abbrev new_events : List Event
  new_events = function_events new

  abbrev run_events : List Event
  run_events = told_before copy.pieces

  abbrev copied_events : List Event
  copied_events = told_copied c copy.pieces

  -- what holds of each event of the run holds of the copy
  module _ (P : Event → Type 0) (keeps : (e : Event) → P e → P (copied_event c e)) (hole : (r : Replaced) (e : Event) → HoleIsNew c r e → P e) (head : (e : Event) → HeadTells c e → P e) (tail : (e : Event) → TailTells c e → P e) where
    each_copied : (ps : List Piece) (hs : List Replaced) → AllCopied c hs ps → EachEvent P (told_before ps) → EachEvent P (told_copied c ps)
    each_copied [] hs h e = tt
    each_copied (stays es ∷ ps) hs h e = each_append P (map (copied_event c) es) (told_copied c ps) (mapped es (each_left P es (told_before ps) e)) (each_copied ps hs h.1 (each_right P es (told_before ps) e))
      where
        mapped : (es : List Event) → EachEvent P es → EachEvent P (map (copied_event c) es)
        mapped [] h = tt
        mapped (e ∷ es) h = (keeps e h.0, mapped es h.1)
    each_copied (gap old news ∷ ps) [] h e = absurd h
    each_copied (gap old news ∷ ps) (r ∷ hs) h e = each_append P news (told_copied c ps) (each_map (HoleIsNew c r) P news (hole r) h.1) (each_copied ps hs h.2 (each_right P old (told_before ps) e))

    each_new : EachEvent P old_events → EachEvent P new_events
    each_new h =
        let all : EachEvent P (copy.before ++ (run_events ++ copy.behind)) = subst (EachEvent P) copy.told h in
        let run : EachEvent P run_events = each_left P run_events copy.behind (each_right P copy.before (run_events ++ copy.behind) all) in
        subst (EachEvent P) (sym copy.new_told)
        (each_append P copy.head (copied_events ++ copy.tail) (each_map (HeadTells c) P copy.head head copy.head_tells)
        (each_append P copied_events copy.tail (each_copied copy.pieces c.holes copy.copied run) (each_map (TailTells c) P copy.tail tail copy.tail_tells)))

  pub branches_stay : own_misplaced a ≡ [] → own_misplaced new ≡ []
  branches_stay e = none_misplaced new_events (each_new Straight keeps hole head tail (straight old_events e))
    where
      keeps : (e : Event) → Straight e → Straight (copied_event c e)
      keeps (event.Misplaced i j) h = absurd h
      keeps (event.Import i) h = tt
      keeps (event.Declaration d) h = tt
      keeps (event.Use u) h = tt
      keeps (event.Member x g i) h = tt
      keeps (event.Bodiless i j) h = tt
      keeps (event.Statement i j) h = tt
      keeps (event.SecondDefault i) h = tt

      hole : (r : Replaced) (e : Event) → HoleIsNew c r e → Straight e
      hole r (event.Misplaced i j) h = h
      hole r (event.Import i) h = tt
      hole r (event.Declaration d) h = tt
      hole r (event.Use u) h = tt
      hole r (event.Member x g i) h = tt
      hole r (event.Bodiless i j) h = tt
      hole r (event.Statement i j) h = tt
      hole r (event.SecondDefault i) h = tt

      head : (e : Event) → HeadTells c e → Straight e
      head (event.Misplaced i j) h = h
      head (event.Import i) h = tt
      head (event.Declaration d) h = tt
      head (event.Use u) h = tt
      head (event.Member x g i) h = tt
      head (event.Bodiless i j) h = tt
      head (event.Statement i j) h = tt
      head (event.SecondDefault i) h = tt

      tail : (e : Event) → TailTells c e → Straight e
      tail (event.Misplaced i j) h = h
      tail (event.Import i) h = tt
      tail (event.Declaration d) h = tt
      tail (event.Use u) h = tt
      tail (event.Member x g i) h = tt
      tail (event.Bodiless i j) h = tt
      tail (event.Statement i j) h = tt
      tail (event.SecondDefault i) h = tt

  pub defaults_once : own_second_defaults a ≡ [] → own_second_defaults new ≡ []
  defaults_once e = none_second_default new_events (each_new Single keeps hole head tail (single old_events e))
    where
      keeps : (e : Event) → Single e → Single (copied_event c e)
      keeps (event.SecondDefault i) h = absurd h
      keeps (event.Import i) h = tt
      keeps (event.Declaration d) h = tt
      keeps (event.Use u) h = tt
      keeps (event.Member x g i) h = tt
      keeps (event.Bodiless i j) h = tt
      keeps (event.Statement i j) h = tt
      keeps (event.Misplaced i j) h = tt

      hole : (r : Replaced) (e : Event) → HoleIsNew c r e → Single e
      hole r (event.SecondDefault i) h = h
      hole r (event.Import i) h = tt
      hole r (event.Declaration d) h = tt
      hole r (event.Use u) h = tt
      hole r (event.Member x g i) h = tt
      hole r (event.Bodiless i j) h = tt
      hole r (event.Statement i j) h = tt
      hole r (event.Misplaced i j) h = tt

      head : (e : Event) → HeadTells c e → Single e
      head (event.SecondDefault i) h = h
      head (event.Import i) h = tt
      head (event.Declaration d) h = tt
      head (event.Use u) h = tt
      head (event.Member x g i) h = tt
      head (event.Bodiless i j) h = tt
      head (event.Statement i j) h = tt
      head (event.Misplaced i j) h = tt

      tail : (e : Event) → TailTells c e → Single e
      tail (event.SecondDefault i) h = h
      tail (event.Import i) h = tt
      tail (event.Declaration d) h = tt
      tail (event.Use u) h = tt
      tail (event.Member x g i) h = tt
      tail (event.Bodiless i j) h = tt
      tail (event.Statement i j) h = tt
      tail (event.Misplaced i j) h = tt

  -- ---- no name is declared twice

  abbrev D : List Found
  D = own_declarations a

  abbrev E : List Found
  E = own_declarations new

  abbrev R : List Found
  R = copied.R a new outer c copy

  abbrev Q : List Found
  Q = copied.Q a new outer c copy

  abbrev placed : Found → Found
  placed d = copied.placed a new outer c copy d

  abbrev InRow : Found → Type 0
  InRow d = copied.InRow a new outer c copy d

  in_row : (x : Found) → Among x R → InRow x
  in_row x k = every_among (copied.InRow a new outer c copy) x R (copied.run_each a new outer c copy) k

  in_head : (x : Found) → Among x Q → (x.it.name < m c.from) × (is_package x.it.block ≡ false → IsParameter c x.it)
  in_head x k = every_among (λ d. (d.it.name < m c.from) × (is_package d.it.block ≡ false → IsParameter c d.it)) x Q (copied.head_each a new outer c copy) k

  from_copy : (x : Found) (ds : List Found) → Among x (map placed ds) → (y : Found) × Among y ds × (x ≡ placed y)
  from_copy x [] k = absurd k
  from_copy x (d ∷ ds) (inl e) = (d, inl refl, e)
  from_copy x (d ∷ ds) (inr k) = let y = from_copy x ds k in (y.0, inr y.1, y.2)

  -- the function alone is declared in the block of the package
  one_shared : (x y : Found) → Among x E → Among y E → is_package x.it.block ≡ true → is_package y.it.block ≡ true → x ≡ y
  one_shared x y k l p q = is_function x p (subst (Among x) copy.new_itself.whole k) ∙ sym (is_function y q (subst (Among y) copy.new_itself.whole l))
    where
      is_function : (z : Found) → is_package z.it.block ≡ true → Among z (copy.new_itself.function ∷ copy.new_itself.others) → z ≡ copy.new_itself.function
      is_function z p (inl e) = e
      is_function z p (inr k) = let n : is_package z.it.block ≡ false = every_among (λ d. is_package d.it.block ≡ false) z copy.new_itself.others copy.new_itself.locals k in absurd (on_off (is_package z.it.block) p n)

  clash_block : (x y : Found) → clashes x y ≡ true → (same_text x.name y.name ≡ true) × (same_block x y ≡ true) × (not (are_parameters x.it.entity y.it.entity) ≡ true)
  clash_block x y e =
      let p = both_true (same_text x.name y.name && same_block x y) (not (are_parameters x.it.entity y.it.entity)) e in
      let q = both_true (same_text x.name y.name) (same_block x y) p.0 in
      (q.0, q.1, p.1)

  same_package : (n k : ℕ) (b d : Block) → are_one_block n b k d ≡ true → is_package b ≡ is_package d
  same_package n k block.Package block.Package e = refl
  same_package n k block.Package (block.Local j) e = cc
  same_package n k (block.Local i) block.Package e = cc
  same_package n k (block.Local i) (block.Local j) e = refl

  both_parameters : (x y : Entity) → x ≡ entity.Parameter → y ≡ entity.Parameter → not (are_parameters x y) ≡ true → ⊥
  both_parameters x y p q e = let z : not (are_parameters x y) ≡ false = ap (λ w. not (are_parameters w y)) p ∙ ap (λ w. not (are_parameters entity.Parameter w)) q in cc

  head_apart : (x y : Found) → Among x Q → Among y Q → (x.it.name ≡ y.it.name → ⊥) → clashes x y ≡ true → ⊥
  head_apart x y k l n e = by (is_package x.it.block) refl
    where
      same : is_package x.it.block ≡ is_package y.it.block
      same = same_package x.file y.file x.it.block y.it.block (clash_block x y e).1

      by : (b : Bool) → is_package x.it.block ≡ b → ⊥
      by true p = n (ap (λ (z : Found). z.it.name) (one_shared x y (copied.in_head_new a new outer c copy x k) (copied.in_head_new a new outer c copy y l) p (sym same ∙ p)))
      by false p = both_parameters x.it.entity y.it.entity ((in_head x k).1 p).entity ((in_head y l).1 (sym same ∙ p)).entity (clash_block x y e).2

  -- a parameter and what the run declares
  parameter_apart : (x y : Found) → Among x Q → Among y R → clashes x (placed y) ≡ true → ⊥
  parameter_apart x y k l e =
      let z = clash_block x (placed y) e in
      let r : InRow y = in_row y l in
      let b : is_package x.it.block ≡ false = same_package x.file y.file x.it.block (copied_block c y.it.block) z.1 ∙ copied.moved_in a new outer c copy y r in
      let q : IsParameter c x.it = (in_head x k).1 b in
      let f : copied_block c y.it.block ≡ block.Local c.body = one_block_here x.file y.file (copied_block c y.it.block) c.body (ap (λ w. are_one_block x.file w y.file (copied_block c y.it.block)) (sym q.block) ∙ z.1) in
      let t : own_text new x.it.name ≡ own_text a y.it.name =
      sym (every_among (λ d. d.name ≡ own_text new d.it.name) x Q (copied.head_spelled a new outer c copy) k) ∙ same_text-true x.name y.name z.0 ∙ spelled_old in
      copy.apart y.it r.told (r.copied.name.0, r.copied.name.1) (copied.around_by a new outer c copy y.it r.copied f) new_old x.it.name q.listed t
    where
      it_is : (d : Declaration) × Among (event.Declaration d) run_events × (y ≡ found_as a d)
      it_is = found_among (own_text a) y run_events (new_found (own_names a) y (found_by (own_text a) run_events) l)

      spelled_old : y.name ≡ own_text a y.it.name
      spelled_old = ap (λ (z : Found). z.name) it_is.2 ∙ ap (λ (z : Found). own_text a z.it.name) (sym it_is.2)

      new_old : is_new (own_names a) (found_as a y.it) ≡ true
      new_old = ap (λ (z : Found). is_new (own_names a) (found_as a z.it)) it_is.2 ∙ ap (is_new (own_names a)) (sym it_is.2) ∙ new_is (own_names a) y (found_by (own_text a) run_events) l

  run_apart : own_second_declarations a ≡ [] → (x y : Found) → Among x R → Among y R → (x.it.name ≡ y.it.name → ⊥) → clashes (placed x) (placed y) ≡ false
  run_apart free x y k l n =
      let r : InRow x = in_row x k in
      let s : InRow y = in_row y l in
      ap (λ b. (same_text x.name y.name && b) && not (are_parameters x.it.entity y.it.entity))
      (ap (λ f. are_one_block f (copied_block c x.it.block) y.file (copied_block c y.it.block)) r.file ∙ ap (λ f. are_one_block 0 (copied_block c x.it.block) f (copied_block c y.it.block)) s.file
      ∙ copied.same_blocks a new outer c copy x.it y.it r.copied s.copied
      ∙ sym (ap (λ f. are_one_block f x.it.block y.file y.it.block) r.file ∙ ap (λ f. are_one_block 0 x.it.block f y.it.block) s.file))
      ∙ any_two D (clash_free [] D free) x y (copied.in_run_old a new outer c copy x k) (copied.in_run_old a new outer c copy y l) n

  pub declared_once : own_second_declarations a ≡ [] → own_second_declarations new ≡ []
  declared_once free = none_second 0 [] E (copied.rises_new a new outer c copy) (λ x k. absurd k) (λ x y k l n. two x y (at x k) (at y l) n)
    where
      at : (x : Found) → Among x E → Among x Q ⊎ Among x (map placed R)
      at x k = among_split x Q (map placed R) (subst (Among x) (copied.new_whole a new outer c copy) k)

      two : (x y : Found) → Among x Q ⊎ Among x (map placed R) → Among y Q ⊎ Among y (map placed R) → (x.it.name ≡ y.it.name → ⊥) → clashes x y ≡ false
      two x y (inl k) (inl l) n = not_on (clashes x y) (head_apart x y k l n)
      two x y (inl k) (inr l) n = let z = from_copy y R l in not_on (clashes x y) (λ e. parameter_apart x z.0 k z.1 (subst (λ w. clashes x w ≡ true) z.2 e))
      two x y (inr k) (inl l) n = let z = from_copy x R k in not_on (clashes x y) (λ e. parameter_apart y z.0 l z.1 (subst (λ w. clashes y w ≡ true) z.2 (clash_flip y x ∙ e)))
      two x y (inr k) (inr l) n =
          let z = from_copy x R k in
          let w = from_copy y R l in
          ap (λ u. clashes u y) z.2 ∙ ap (clashes (placed z.0)) w.2 ∙ run_apart free z.0 w.0 z.1 w.1 (λ q. n (ap (λ (u : Found). u.it.name) z.2 ∙ ap m q ∙ sym (ap (λ (u : Found). u.it.name) w.2)))
