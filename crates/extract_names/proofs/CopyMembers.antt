-- Rules on fields, keys and parameters, and on repeated lists of constants, of a function that begins with a copy of a run.
use Rattle.std.proofs.Common.{◌≡◌, ◌∙◌, ℕ, ◌<◌, ◌≤◌, ◌⊎◌, inl, inr, Bool, true, false, List, [], ◌∷◌, ◌++◌, map, Option, Some, None, refl, sym, ap, subst, append_assoc, append-nil, arith}
use Rattle.std.specs.Prelude.{if◌then◌else◌, ◌&&◌, ◌||◌, not, nat_eq}
use Rattle.go_tokens.specs.Spellings.{same_text}
use Rattle.go_tree.specs.declared.context.Block.{Block}
use Rattle.go_tree.specs.declared.context.Block.TheVariants as block
use Rattle.go_tree.specs.declared.context.Entity.{Entity}
use Rattle.go_tree.specs.declared.context.Entity.TheVariants as entity
use Rattle.go_tree.specs.declared.context.Site.{Site}
use Rattle.go_tree.specs.declared.context.Site.TheVariants as site_of
use Rattle.go_tree.specs.declared.event.Declaration.{Declaration}
use Rattle.go_tree.specs.declared.event.Event.{Event}
use Rattle.go_tree.specs.declared.event.Event.TheVariants as event
use Rattle.go_tree.specs.declared.event.Member.{Member}
use Rattle.go_tree.specs.declared.event.Use.{Use}
use Rattle.go_tree.specs.Constants.{is_list, list_by, list_of, list_at, list_around, uses_name, hides_one, is_hidden, is_repetition, hidden_lists_by}
use Rattle.go_tree.specs.Duplicates.{same_member}
use Rattle.go_tree.specs.Lookups.{is_local}
use Rattle.go_tree.specs.Units.{Place, is_blank}
use Rattle.go_heads.specs.Functions.{Alone}
use Rattle.go_heads.specs.Names.{own_text, no_place}
use Rattle.go_scopes_bodies.specs.Carried.{carried_token, carried_use}
use Rattle.go_scopes_bodies.specs.Faults.{own_second_members, own_has_member, own_is_duplicate, second_members_by, own_hidden_lists}
use Rattle.go_scopes_bodies.specs.Meant.{Outer}
use Rattle.extract_names.specs.Gaps.{Among}
use Rattle.extract_names.specs.Pieces.{Piece, stays, gap, told_before}
use Rattle.extract_names.specs.Sites.{EachEvent, specification_at}
use Rattle.extract_names.specs.Copies.{Replaced, Copy, IsKept, IsEdge, TokenKept, copied_block, copied_declaration, copied_event, told_copied, DeclarationCopied, EventCopied, HoleIsNew, AllCopied, InSignature, TailTells, InReturn, IsCopy}
use Rattle.extract_names.proofs.Edges.{eq_true, is_eq, mono, one, same_eq}
use Rattle.extract_names.proofs.Rows.{both_true, and_true, second_off, not_on, on_off}
use Rattle.extract_names.proofs.Replaced.{among_left, among_right, among_split, each_among}
use Rattle.extract_names.proofs.Calm.{or_split, or_first, or_second, has_append, duplicate_less, no_place_if, a_place_if, both_on, and_on, one_member, members_gone}
use Rattle.extract_names.proofs.Repeated.{use_found, use_told, hide_found, hide_told, Hides, list_by_carried, around_carried, IsListless, lists_gone}
use Rattle.extract_names.proofs.CopiedRows.{is_kept}

-- the event tells of no member
abbrev Memberless : Event → Type 0
Memberless (event.Member m g x) = ⊥
Memberless e = Unit {0}

members_none : (t : ℕ → List ℕ) (es b rest : List Event) → EachEvent Memberless es → second_members_by t (b ++ es) rest ≡ [] → second_members_by t b (es ++ rest) ≡ []
members_none t [] b rest h e = ap (λ z. second_members_by t z rest) (sym (append-nil b)) ∙ e
members_none t (event.Member m g x ∷ es) b rest h e = absurd h.0
members_none t (event.Import x ∷ es) b rest h e = members_none t es (b ++ event.Import x ∷ []) rest h.1 (ap (λ z. second_members_by t z rest) (append_assoc b (event.Import x ∷ []) es) ∙ e)
members_none t (event.Declaration x ∷ es) b rest h e = members_none t es (b ++ event.Declaration x ∷ []) rest h.1 (ap (λ z. second_members_by t z rest) (append_assoc b (event.Declaration x ∷ []) es) ∙ e)
members_none t (event.Use x ∷ es) b rest h e = members_none t es (b ++ event.Use x ∷ []) rest h.1 (ap (λ z. second_members_by t z rest) (append_assoc b (event.Use x ∷ []) es) ∙ e)
members_none t (event.Bodiless x y ∷ es) b rest h e = members_none t es (b ++ event.Bodiless x y ∷ []) rest h.1 (ap (λ z. second_members_by t z rest) (append_assoc b (event.Bodiless x y ∷ []) es) ∙ e)
members_none t (event.Statement x y ∷ es) b rest h e = members_none t es (b ++ event.Statement x y ∷ []) rest h.1 (ap (λ z. second_members_by t z rest) (append_assoc b (event.Statement x y ∷ []) es) ∙ e)
members_none t (event.Misplaced x y ∷ es) b rest h e = members_none t es (b ++ event.Misplaced x y ∷ []) rest h.1 (ap (λ z. second_members_by t z rest) (append_assoc b (event.Misplaced x y ∷ []) es) ∙ e)
members_none t (event.SecondDefault x ∷ es) b rest h e = members_none t es (b ++ event.SecondDefault x ∷ []) rest h.1 (ap (λ z. second_members_by t z rest) (append_assoc b (event.SecondDefault x ∷ []) es) ∙ e)

has_none : (t : ℕ → List ℕ) (m : Member) (g : ℕ) (w : List ℕ) (es : List Event) → EachEvent Memberless es → own_has_member t m g w es ≡ false
has_none t m g w [] h = refl
has_none t m g w (event.Member n i x ∷ es) h = absurd h.0
has_none t m g w (event.Import x ∷ es) h = has_none t m g w es h.1
has_none t m g w (event.Declaration x ∷ es) h = has_none t m g w es h.1
has_none t m g w (event.Use x ∷ es) h = has_none t m g w es h.1
has_none t m g w (event.Bodiless x y ∷ es) h = has_none t m g w es h.1
has_none t m g w (event.Statement x y ∷ es) h = has_none t m g w es h.1
has_none t m g w (event.Misplaced x y ∷ es) h = has_none t m g w es h.1
has_none t m g w (event.SecondDefault x ∷ es) h = has_none t m g w es h.1

-- the members of two lists, one behind the other
members_both : (t : ℕ → List ℕ) (es b rest : List Event) → second_members_by t b es ≡ [] → second_members_by t (b ++ es) rest ≡ [] → second_members_by t b (es ++ rest) ≡ []
members_both t [] b rest e f = ap (λ z. second_members_by t z rest) (sym (append-nil b)) ∙ f
members_both t (event.Member m g x ∷ es) b rest e f =
    let p = no_place_if (own_is_duplicate t m g (t x) b) no_place (second_members_by t (b ++ event.Member m g x ∷ []) es) e in
    a_place_if (own_is_duplicate t m g (t x) b) no_place (second_members_by t (b ++ event.Member m g x ∷ []) (es ++ rest)) p.0
    (members_both t es (b ++ event.Member m g x ∷ []) rest p.1 (ap (λ z. second_members_by t z rest) (append_assoc b (event.Member m g x ∷ []) es) ∙ f))
members_both t (event.Import x ∷ es) b rest e f = members_both t es (b ++ event.Import x ∷ []) rest e (ap (λ z. second_members_by t z rest) (append_assoc b (event.Import x ∷ []) es) ∙ f)
members_both t (event.Declaration x ∷ es) b rest e f = members_both t es (b ++ event.Declaration x ∷ []) rest e (ap (λ z. second_members_by t z rest) (append_assoc b (event.Declaration x ∷ []) es) ∙ f)
members_both t (event.Use x ∷ es) b rest e f = members_both t es (b ++ event.Use x ∷ []) rest e (ap (λ z. second_members_by t z rest) (append_assoc b (event.Use x ∷ []) es) ∙ f)
members_both t (event.Bodiless x y ∷ es) b rest e f = members_both t es (b ++ event.Bodiless x y ∷ []) rest e (ap (λ z. second_members_by t z rest) (append_assoc b (event.Bodiless x y ∷ []) es) ∙ f)
members_both t (event.Statement x y ∷ es) b rest e f = members_both t es (b ++ event.Statement x y ∷ []) rest e (ap (λ z. second_members_by t z rest) (append_assoc b (event.Statement x y ∷ []) es) ∙ f)
members_both t (event.Misplaced x y ∷ es) b rest e f = members_both t es (b ++ event.Misplaced x y ∷ []) rest e (ap (λ z. second_members_by t z rest) (append_assoc b (event.Misplaced x y ∷ []) es) ∙ f)
members_both t (event.SecondDefault x ∷ es) b rest e f = members_both t es (b ++ event.SecondDefault x ∷ []) rest e (ap (λ z. second_members_by t z rest) (append_assoc b (event.SecondDefault x ∷ []) es) ∙ f)

each_as : (P S : Event → Type 0) (es : List Event) → ((e : Event) → P e → S e) → EachEvent P es → EachEvent S es
each_as P S [] f h = tt
each_as P S (e ∷ es) f h = (f e h.0, each_as P S es f h.1)

-- lists of events that name no list of constants
lists_none : (t : ℕ → List ℕ) (es b rest : List Event) → EachEvent IsListless es → hidden_lists_by t (λ x. no_place) (b ++ es) rest ≡ [] → hidden_lists_by t (λ x. no_place) b (es ++ rest) ≡ []
lists_none t [] b rest h e = ap (λ z. hidden_lists_by t (λ x. no_place) z rest) (sym (append-nil b)) ∙ e
lists_none t (event.Declaration d ∷ es) b rest h e =
    a_place_if (is_repetition d && is_hidden (list_of d) t b) no_place (hidden_lists_by t (λ x. no_place) (b ++ event.Declaration d ∷ []) (es ++ rest)) (second_off (is_repetition d) (is_hidden (list_of d) t b) (ap (λ o. is_hidden o t b) h.0))
    (lists_none t es (b ++ event.Declaration d ∷ []) rest h.1 (ap (λ z. hidden_lists_by t (λ x. no_place) z rest) (append_assoc b (event.Declaration d ∷ []) es) ∙ e))
lists_none t (event.Member m g x ∷ es) b rest h e = lists_none t es (b ++ event.Member m g x ∷ []) rest h.1 (ap (λ z. hidden_lists_by t (λ x. no_place) z rest) (append_assoc b (event.Member m g x ∷ []) es) ∙ e)
lists_none t (event.Import x ∷ es) b rest h e = lists_none t es (b ++ event.Import x ∷ []) rest h.1 (ap (λ z. hidden_lists_by t (λ x. no_place) z rest) (append_assoc b (event.Import x ∷ []) es) ∙ e)
lists_none t (event.Use x ∷ es) b rest h e = lists_none t es (b ++ event.Use x ∷ []) rest h.1 (ap (λ z. hidden_lists_by t (λ x. no_place) z rest) (append_assoc b (event.Use x ∷ []) es) ∙ e)
lists_none t (event.Bodiless x y ∷ es) b rest h e = lists_none t es (b ++ event.Bodiless x y ∷ []) rest h.1 (ap (λ z. hidden_lists_by t (λ x. no_place) z rest) (append_assoc b (event.Bodiless x y ∷ []) es) ∙ e)
lists_none t (event.Statement x y ∷ es) b rest h e = lists_none t es (b ++ event.Statement x y ∷ []) rest h.1 (ap (λ z. hidden_lists_by t (λ x. no_place) z rest) (append_assoc b (event.Statement x y ∷ []) es) ∙ e)
lists_none t (event.Misplaced x y ∷ es) b rest h e = lists_none t es (b ++ event.Misplaced x y ∷ []) rest h.1 (ap (λ z. hidden_lists_by t (λ x. no_place) z rest) (append_assoc b (event.Misplaced x y ∷ []) es) ∙ e)
lists_none t (event.SecondDefault x ∷ es) b rest h e = lists_none t es (b ++ event.SecondDefault x ∷ []) rest h.1 (ap (λ z. hidden_lists_by t (λ x. no_place) z rest) (append_assoc b (event.SecondDefault x ∷ []) es) ∙ e)

module _ (a new : Alone) (outer : Outer) (c : Copy) (copy : IsCopy a outer c new) where
  abbrev v : ℕ → ℕ
  v = c.place

  abbrev t : ℕ → List ℕ
  t = own_text a

  abbrev u : ℕ → List ℕ
  u = own_text new

  abbrev run_events : List Event
  run_events = told_before copy.pieces

  abbrev copied_events : List Event
  copied_events = told_copied c copy.pieces

  up : (x y : ℕ) → IsEdge c x → IsEdge c y → x < y → v x < v y
  up = copy.rises

  hole_memberless : (r : Replaced) (e : Event) → HoleIsNew c r e → Memberless e
  hole_memberless r (event.Member m g x) h = h
  hole_memberless r (event.Import x) h = tt
  hole_memberless r (event.Declaration x) h = tt
  hole_memberless r (event.Use x) h = tt
  hole_memberless r (event.Bodiless x y) h = tt
  hole_memberless r (event.Statement x y) h = tt
  hole_memberless r (event.Misplaced x y) h = tt
  hole_memberless r (event.SecondDefault x) h = tt

  return_memberless : (e : Event) → InReturn a new c run_events e → Memberless e
  return_memberless (event.Member m g x) h = h
  return_memberless (event.Import x) h = tt
  return_memberless (event.Declaration x) h = tt
  return_memberless (event.Use x) h = tt
  return_memberless (event.Bodiless x y) h = tt
  return_memberless (event.Statement x y) h = tt
  return_memberless (event.Misplaced x y) h = tt
  return_memberless (event.SecondDefault x) h = tt

  -- ---- members

  -- A member of a group of the run that is told in the copy was told in the old function.
  abbrev Fewer : List Event → List Event → Type 0
  Fewer es fs = (m : Member) (g : ℕ) (w : List ℕ) → IsKept c g → own_has_member u m (v g) w fs ≡ true → own_has_member t m g w es ≡ true

  fewer_more : (e : Event) (es fs : List Event) → EventCopied c e → Fewer es fs → Fewer (es ++ e ∷ []) (fs ++ copied_event c e ∷ [])
  fewer_more e es fs st f m g w s k = by (or_split (own_has_member u m (v g) w fs) (own_has_member u m (v g) w (copied_event c e ∷ [])) (sym (has_append u m (v g) w fs (copied_event c e ∷ [])) ∙ k))
    where
      single : (e : Event) → EventCopied c e → own_has_member u m (v g) w (copied_event c e ∷ []) ≡ true → own_has_member t m g w (e ∷ []) ≡ true
      single (event.Member o h x) st q =
          let a = both_on (same_member m o && nat_eq (v g) (v h)) (same_text w (u (v x))) (sym (one_member u m o (v g) (v h) (v x) w) ∙ q) in
          let b = both_on (same_member m o) (nat_eq (v g) (v h)) a.0 in
          let d : g ≡ h = one v (IsEdge c) up g h (is_kept c g s) (is_kept c h st.0) (eq_true (v g) (v h) b.1) in
          one_member t m o g h x w ∙ and_on (same_member m o && nat_eq g h) (same_text w (t x)) (and_on (same_member m o) (nat_eq g h) b.0 (is_eq g h d)) (ap (same_text w) (sym (copy.texts x st.1)) ∙ a.1)
      single (event.Import i) st q = cc
      single (event.Declaration d) st q = cc
      single (event.Use x) st q = cc
      single (event.Bodiless i j) st q = cc
      single (event.Statement i j) st q = cc
      single (event.Misplaced i j) st q = cc
      single (event.SecondDefault i) st q = cc

      by : (own_has_member u m (v g) w fs ≡ true) ⊎ (own_has_member u m (v g) w (copied_event c e ∷ []) ≡ true) → own_has_member t m g w (es ++ e ∷ []) ≡ true
      by (inl q) = has_append t m g w es (e ∷ []) ∙ or_first (own_has_member t m g w es) (own_has_member t m g w (e ∷ [])) (f m g w s q)
      by (inr q) = has_append t m g w es (e ∷ []) ∙ or_second (own_has_member t m g w es) (own_has_member t m g w (e ∷ [])) (single e st q)

  fewer_hole : (old news es fs : List Event) → EachEvent Memberless news → Fewer es fs → Fewer (es ++ old) (fs ++ news)
  fewer_hole old news es fs h f m g w s k = by (or_split (own_has_member u m (v g) w fs) (own_has_member u m (v g) w news) (sym (has_append u m (v g) w fs news) ∙ k))
    where
      by : (own_has_member u m (v g) w fs ≡ true) ⊎ (own_has_member u m (v g) w news ≡ true) → own_has_member t m g w (es ++ old) ≡ true
      by (inl q) = has_append t m g w es old ∙ or_first (own_has_member t m g w es) (own_has_member t m g w old) (f m g w s q)
      by (inr q) = absurd (on_off (own_has_member u m (v g) w news) q (has_none u m (v g) w news h))

  module _ (rest rest_new : List Event) (go : (es fs : List Event) → Fewer es fs → second_members_by t es rest ≡ [] → second_members_by u fs rest_new ≡ []) where
    members_copied : (es b d : List Event) → EachEvent (EventCopied c) es → Fewer b d → second_members_by t b (es ++ rest) ≡ [] → second_members_by u d (map (copied_event c) es ++ rest_new) ≡ []
    members_copied [] b d h f e = go b d f e
    members_copied (event.Member m g x ∷ es) b d h f e =
        let p = no_place_if (own_is_duplicate t m g (t x) b) no_place (second_members_by t (b ++ event.Member m g x ∷ []) (es ++ rest)) e in
        let q : own_is_duplicate u m (v g) (t x) d ≡ false = duplicate_less u t m (v g) g (t x) d b (f m g (t x) h.0.0) p.0 in
        a_place_if (own_is_duplicate u m (v g) (u (v x)) d) no_place (second_members_by u (d ++ event.Member m (v g) (v x) ∷ []) (map (copied_event c) es ++ rest_new))
        (ap (λ w. own_is_duplicate u m (v g) w d) (copy.texts x h.0.1) ∙ q)
        (members_copied es (b ++ event.Member m g x ∷ []) (d ++ event.Member m (v g) (v x) ∷ []) h.1 (fewer_more (event.Member m g x) b d h.0 f) p.1)
    members_copied (event.Import i ∷ es) b d h f e = members_copied es (b ++ event.Import i ∷ []) (d ++ copied_event c (event.Import i) ∷ []) h.1 (fewer_more (event.Import i) b d h.0 f) e
    members_copied (event.Declaration i ∷ es) b d h f e = members_copied es (b ++ event.Declaration i ∷ []) (d ++ copied_event c (event.Declaration i) ∷ []) h.1 (fewer_more (event.Declaration i) b d h.0 f) e
    members_copied (event.Use i ∷ es) b d h f e = members_copied es (b ++ event.Use i ∷ []) (d ++ copied_event c (event.Use i) ∷ []) h.1 (fewer_more (event.Use i) b d h.0 f) e
    members_copied (event.Bodiless i j ∷ es) b d h f e = members_copied es (b ++ event.Bodiless i j ∷ []) (d ++ copied_event c (event.Bodiless i j) ∷ []) h.1 (fewer_more (event.Bodiless i j) b d h.0 f) e
    members_copied (event.Statement i j ∷ es) b d h f e = members_copied es (b ++ event.Statement i j ∷ []) (d ++ copied_event c (event.Statement i j) ∷ []) h.1 (fewer_more (event.Statement i j) b d h.0 f) e
    members_copied (event.Misplaced i j ∷ es) b d h f e = members_copied es (b ++ event.Misplaced i j ∷ []) (d ++ copied_event c (event.Misplaced i j) ∷ []) h.1 (fewer_more (event.Misplaced i j) b d h.0 f) e
    members_copied (event.SecondDefault i ∷ es) b d h f e = members_copied es (b ++ event.SecondDefault i ∷ []) (d ++ copied_event c (event.SecondDefault i) ∷ []) h.1 (fewer_more (event.SecondDefault i) b d h.0 f) e

  tail_memberless : EachEvent Memberless copy.tail
  tail_memberless = each_as (InReturn a new c run_events) Memberless copy.tail return_memberless copy.returns

  no_more_members : (d : List Event) → second_members_by u d copy.tail ≡ []
  no_more_members d = ap (second_members_by u d) (sym (append-nil copy.tail)) ∙ members_none u copy.tail d [] tail_memberless refl

  members_pieces : (ps : List Piece) (hs : List Replaced) → AllCopied c hs ps → (b d : List Event) → Fewer b d → second_members_by t b (told_before ps ++ copy.behind) ≡ [] → second_members_by u d (told_copied c ps ++ copy.tail) ≡ []
  members_pieces [] hs h b d f e = no_more_members d
  members_pieces (stays es ∷ ps) hs h b d f e =
      ap (second_members_by u d) (append_assoc (map (copied_event c) es) (told_copied c ps) copy.tail)
      ∙ members_copied (told_before ps ++ copy.behind) (told_copied c ps ++ copy.tail) (λ x y k l. members_pieces ps hs h.1 x y k l) es b d h.0 f (sym (ap (second_members_by t b) (append_assoc es (told_before ps) copy.behind)) ∙ e)
  members_pieces (gap old news ∷ ps) [] h b d f e = absurd h
  members_pieces (gap old news ∷ ps) (r ∷ hs) h b d f e =
      let none : EachEvent Memberless news = each_as (HoleIsNew c r) Memberless news (hole_memberless r) h.1 in
      ap (second_members_by u d) (append_assoc news (told_copied c ps) copy.tail)
      ∙ members_none u news d (told_copied c ps ++ copy.tail) none
      (members_pieces ps hs h.2 (b ++ old) (d ++ news) (fewer_hole old news b d none f) (members_gone t old b (told_before ps ++ copy.behind) (sym (ap (second_members_by t b) (append_assoc old (told_before ps) copy.behind)) ∙ e)))

  -- no group of the signature is one of the run
  head_apart : (es : List Event) → EachEvent (InSignature new outer c) es → (m : Member) (g : ℕ) (w : List ℕ) → IsKept c g → own_has_member u m (v g) w es ≡ false
  head_apart [] h m g w s = refl
  head_apart (event.Member o i x ∷ es) h m g w s = ap (λ b. b || own_has_member u m (v g) w es) off ∙ head_apart es h.1 m g w s
    where
      off : (same_member m o && nat_eq (v g) i && same_text w (u x)) ≡ false
      off = not_on (same_member m o && nat_eq (v g) i && same_text w (u x)) (λ k.
          let p = both_on (same_member m o && nat_eq (v g) i) (same_text w (u x)) k in
          let q = both_on (same_member m o) (nat_eq (v g) i) p.0 in
          let e : v g ≡ i = eq_true (v g) i q.1 in
          let lt : i < v c.from = h.0 in
          let le : v c.from ≤ v g = mono v (IsEdge c) up c.from g copy.edge.0 (is_kept c g s) s.0 in
          omega (arith, e, lt, le))
  head_apart (event.Import x ∷ es) h m g w s = head_apart es h.1 m g w s
  head_apart (event.Declaration x ∷ es) h m g w s = head_apart es h.1 m g w s
  head_apart (event.Use x ∷ es) h m g w s = head_apart es h.1 m g w s
  head_apart (event.Bodiless x y ∷ es) h m g w s = head_apart es h.1 m g w s
  head_apart (event.Statement x y ∷ es) h m g w s = head_apart es h.1 m g w s
  head_apart (event.Misplaced x y ∷ es) h m g w s = head_apart es h.1 m g w s
  head_apart (event.SecondDefault x ∷ es) h m g w s = head_apart es h.1 m g w s

  pub members_once : own_second_members a ≡ [] → own_second_members new ≡ []
  members_once e =
      ap (second_members_by u []) copy.new_told
      ∙ members_both u copy.head [] (copied_events ++ copy.tail) copy.members_once
      (members_pieces copy.pieces c.holes copy.copied copy.before copy.head (λ m g w s k. absurd (on_off (own_has_member u m (v g) w copy.head) k (head_apart copy.head copy.signature m g w s)))
      (members_gone t copy.before [] (run_events ++ copy.behind) (sym (ap (second_members_by t []) copy.told) ∙ e)))

  -- ---- repeated lists of constants

  hole_listless : (r : Replaced) (e : Event) → HoleIsNew c r e → IsListless e
  hole_listless r (event.Use x) h = h.constant
  hole_listless r (event.Declaration x) h = absurd h
  hole_listless r (event.Member m g x) h = tt
  hole_listless r (event.Import x) h = tt
  hole_listless r (event.Bodiless x y) h = tt
  hole_listless r (event.Statement x y) h = tt
  hole_listless r (event.Misplaced x y) h = tt
  hole_listless r (event.SecondDefault x) h = tt

  head_listless : (e : Event) → InSignature new outer c e → IsListless e
  head_listless (event.Use x) h = h.constant
  head_listless (event.Declaration x) h = by h.entity
    where
      by : (x.entity ≡ entity.Function) ⊎ (x.entity ≡ entity.Parameter) → list_by x.entity x.source ≡ None
      by (inl e) = ap (λ z. list_by z x.source) e
      by (inr e) = ap (λ z. list_by z x.source) e
  head_listless (event.Member m g x) h = tt
  head_listless (event.Import x) h = tt
  head_listless (event.Bodiless x y) h = tt
  head_listless (event.Statement x y) h = tt
  head_listless (event.Misplaced x y) h = tt
  head_listless (event.SecondDefault x) h = tt

  tail_listless : (es : List Event) → EachEvent (InReturn a new c run_events) es → EachEvent (TailTells c) es → EachEvent IsListless es
  tail_listless [] h g = tt
  tail_listless (event.Use x ∷ es) h g = (h.0.constant, tail_listless es h.1 g.1)
  tail_listless (event.Declaration x ∷ es) h g = absurd g.0
  tail_listless (event.Member m i x ∷ es) h g = (tt, tail_listless es h.1 g.1)
  tail_listless (event.Import x ∷ es) h g = (tt, tail_listless es h.1 g.1)
  tail_listless (event.Bodiless x y ∷ es) h g = (tt, tail_listless es h.1 g.1)
  tail_listless (event.Statement x y ∷ es) h g = (tt, tail_listless es h.1 g.1)
  tail_listless (event.Misplaced x y ∷ es) h g = (tt, tail_listless es h.1 g.1)
  tail_listless (event.SecondDefault x ∷ es) h g = (tt, tail_listless es h.1 g.1)

  -- What is told in front in the new function is told in front in the old one, or names no list.
  abbrev Less : List Event → List Event → Type 0
  Less es fs = (e : Event) → Among e fs → ((x : Event) × (e ≡ copied_event c x) × EventCopied c x × Among x es) ⊎ IsListless e

  list_same : (s : ℕ) (o : Option ℕ) → IsKept c s → TokenKept c o → is_list (v s) (carried_token v o) ≡ is_list s o
  list_same s None h g = refl
  list_same s (Some x) h g = same_eq v (IsEdge c) up s x (is_kept c s h) (is_kept c x g)

  list_kept : (e : Entity) (s : Option ℕ) → TokenKept c s → TokenKept c (list_by e s)
  list_kept entity.Constant s h = h
  list_kept entity.Type s h = tt
  list_kept entity.Variable s h = tt
  list_kept entity.Parameter s h = tt
  list_kept entity.Function s h = tt

  around_kept : (b : Bool) (s : Site) → TokenKept c (specification_at s) → TokenKept c (if b then list_at s else None)
  around_kept false s h = tt
  around_kept true site_of.Elsewhere h = tt
  around_kept true (site_of.Type s) h = h
  around_kept true (site_of.Value s column alone) h = h
  around_kept true (site_of.Right s reach) h = tt

  uses_less : (s : ℕ) (w : List ℕ) (es fs : List Event) → IsKept c s → Less es fs → uses_name (v s) w u fs ≡ true → uses_name s w t es ≡ true
  uses_less s w es fs h f e = let y = use_found (v s) w u fs e in by y.0 y.2 y.3 (f (event.Use y.0) y.1)
    where
      remained : (x : Use) (z : Event) → event.Use x ≡ copied_event c z → EventCopied c z → Among z es → is_list (v s) (list_around x) ≡ true → same_text w (u x.name) ≡ true → uses_name s w t es ≡ true
      remained x (event.Use z) q st k l n =
          let p : x ≡ carried_use v z = cc in
          let l2 : is_list (v s) (list_around (carried_use v z)) ≡ true = subst (λ (d : Use). is_list (v s) (list_around d) ≡ true) p l in
          let o : same_text w (u (v z.name)) ≡ true = subst (λ (d : Use). same_text w (u d.name) ≡ true) p n in
          use_told s w t es z k (sym (ap (is_list (v s)) (around_carried v z) ∙ list_same s (list_around z) h (around_kept z.constant z.site st.specification)) ∙ l2) (ap (same_text w) (sym (copy.texts z.name st.name)) ∙ o)
      remained x (event.Declaration z) q st k l n = cc
      remained x (event.Import z) q st k l n = cc
      remained x (event.Member i j z) q st k l n = cc
      remained x (event.Bodiless i j) q st k l n = cc
      remained x (event.Statement i j) q st k l n = cc
      remained x (event.Misplaced i j) q st k l n = cc
      remained x (event.SecondDefault z) q st k l n = cc

      by : (x : Use) → is_list (v s) (list_around x) ≡ true → same_text w (u x.name) ≡ true → ((z : Event) × (event.Use x ≡ copied_event c z) × EventCopied c z × Among z es) ⊎ IsListless (event.Use x) → uses_name s w t es ≡ true
      by x l n (inl (z, q, st, k)) = remained x z q st k l n
      by x l n (inr d) = let o : is_list (v s) (list_around x) ≡ false = ap (λ b. is_list (v s) (if b then list_at x.site else None)) d in cc

  hides_less : (s : ℕ) (es fs : List Event) → IsKept c s → Less es fs → hides_one (v s) u fs fs ≡ true → hides_one s t es es ≡ true
  hides_less s es fs h f e = let y = hide_found (v s) u fs fs e in by y.0 y.2 (f (event.Declaration y.0) y.1)
    where
      remained : (x : Declaration) (z : Event) → event.Declaration x ≡ copied_event c z → EventCopied c z → Among z es → Hides (v s) u fs x → hides_one s t es es ≡ true
      remained x (event.Declaration z) q st k l =
          let p : x ≡ copied_declaration c z = cc in
          let n = both_true (is_list (v s) (list_of (copied_declaration c z)) && not (is_blank (u (v z.name)))) (uses_name (v s) (u (v z.name)) u fs) (subst (Hides (v s) u fs) p l) in
          let o = both_true (is_list (v s) (list_of (copied_declaration c z))) (not (is_blank (u (v z.name)))) n.0 in
          let w : u (v z.name) ≡ t z.name = copy.texts z.name st.name in
          hide_told s t es es z k
          (and_true (is_list s (list_of z) && not (is_blank (t z.name))) (uses_name s (t z.name) t es)
          (and_true (is_list s (list_of z)) (not (is_blank (t z.name)))
          (sym (ap (is_list (v s)) (list_by_carried v z.entity z.source) ∙ list_same s (list_of z) h (list_kept z.entity z.source st.source)) ∙ o.0) (ap (λ d. not (is_blank d)) (sym w) ∙ o.1))
          (uses_less s (t z.name) es fs h f (ap (λ d. uses_name (v s) d u fs) (sym w) ∙ n.1)))
      remained x (event.Use z) q st k l = cc
      remained x (event.Import z) q st k l = cc
      remained x (event.Member i j z) q st k l = cc
      remained x (event.Bodiless i j) q st k l = cc
      remained x (event.Statement i j) q st k l = cc
      remained x (event.Misplaced i j) q st k l = cc
      remained x (event.SecondDefault z) q st k l = cc

      by : (x : Declaration) → Hides (v s) u fs x → ((z : Event) × (event.Declaration x ≡ copied_event c z) × EventCopied c z × Among z es) ⊎ IsListless (event.Declaration x) → hides_one s t es es ≡ true
      by x l (inl (z, q, st, k)) = remained x z q st k l
      by x l (inr d) =
          let n = both_true (is_list (v s) (list_of x) && not (is_blank (u x.name))) (uses_name (v s) (u x.name) u fs) l in
          let o = both_true (is_list (v s) (list_of x)) (not (is_blank (u x.name))) n.0 in
          let z : is_list (v s) (list_of x) ≡ false = ap (is_list (v s)) d in cc

  block_local : (b : Block) → is_local (copied_block c b) ≡ is_local b
  block_local block.Package = refl
  block_local (block.Local i) = by (nat_eq i c.around)
    where
      by : (b : Bool) → is_local (if b then block.Local c.body else block.Local (v i)) ≡ true
      by true = refl
      by false = refl

  kept_off : (d : Declaration) (es fs : List Event) → DeclarationCopied c d → Less es fs → (is_repetition d && is_hidden (list_of d) t es) ≡ false → (is_repetition (copied_declaration c d) && is_hidden (list_of (copied_declaration c d)) u fs) ≡ false
  kept_off d es fs s f e =
      ap (λ b. b && is_hidden (list_of (copied_declaration c d)) u fs) repeated
      ∙ ap (λ o. is_repetition d && is_hidden o u fs) (list_by_carried v d.entity d.source)
      ∙ by (list_of d) (list_kept d.entity d.source s.source) e
    where
      repeated : is_repetition (copied_declaration c d) ≡ is_repetition d
      repeated =
          ap (λ b. b && nat_eq d.column 0 && not (is_list (v d.statement) (carried_token v d.source))) (block_local d.block)
          ∙ ap (λ b. is_local d.block && nat_eq d.column 0 && not b) (list_same d.statement d.source s.statement s.source)

      off : (b d x : Bool) → (d ≡ true → x ≡ true) → (b && x) ≡ false → (b && d) ≡ false
      off true true x g e = let h : x ≡ true = g refl in cc
      off true false x g e = refl
      off false d x g e = refl

      by : (o : Option ℕ) → TokenKept c o → (is_repetition d && is_hidden o t es) ≡ false → (is_repetition d && is_hidden (carried_token v o) u fs) ≡ false
      by None h e = second_off (is_repetition d) false refl
      by (Some x) h e = off (is_repetition d) (hides_one (v x) u fs fs) (hides_one x t es es) (hides_less x es fs h f) e

  less_more : (x : Event) (es fs : List Event) → EventCopied c x → Less es fs → Less (es ++ x ∷ []) (fs ++ copied_event c x ∷ [])
  less_more x es fs st f e k = by (among_split e fs (copied_event c x ∷ []) k)
    where
      more : ((z : Event) × (e ≡ copied_event c z) × EventCopied c z × Among z es) ⊎ IsListless e → ((z : Event) × (e ≡ copied_event c z) × EventCopied c z × Among z (es ++ x ∷ [])) ⊎ IsListless e
      more (inl (z, q, s, n)) = inl (z, q, s, among_left z es (x ∷ []) n)
      more (inr d) = inr d

      by : Among e fs ⊎ Among e (copied_event c x ∷ []) → ((z : Event) × (e ≡ copied_event c z) × EventCopied c z × Among z (es ++ x ∷ [])) ⊎ IsListless e
      by (inl k) = more (f e k)
      by (inr (inl q)) = inl (x, q, st, among_right x es (x ∷ []) (inl refl))
      by (inr (inr k)) = absurd k

  less_hole : (old news es fs : List Event) → EachEvent IsListless news → Less es fs → Less (es ++ old) (fs ++ news)
  less_hole old news es fs h f e k = by (among_split e fs news k)
    where
      more : ((z : Event) × (e ≡ copied_event c z) × EventCopied c z × Among z es) ⊎ IsListless e → ((z : Event) × (e ≡ copied_event c z) × EventCopied c z × Among z (es ++ old)) ⊎ IsListless e
      more (inl (z, q, s, n)) = inl (z, q, s, among_left z es old n)
      more (inr d) = inr d

      by : Among e fs ⊎ Among e news → ((z : Event) × (e ≡ copied_event c z) × EventCopied c z × Among z (es ++ old)) ⊎ IsListless e
      by (inl k) = more (f e k)
      by (inr k) = inr (each_among IsListless e news h k)

  abbrev old_lists : List Event → List Event → List Place
  old_lists before es = hidden_lists_by t (λ x. no_place) before es

  abbrev new_lists : List Event → List Event → List Place
  new_lists before es = hidden_lists_by u (λ x. no_place) before es

  module _ (rest rest_new : List Event) (go : (es fs : List Event) → Less es fs → old_lists es rest ≡ [] → new_lists fs rest_new ≡ []) where
    lists_copied : (es b d : List Event) → EachEvent (EventCopied c) es → Less b d → old_lists b (es ++ rest) ≡ [] → new_lists d (map (copied_event c) es ++ rest_new) ≡ []
    lists_copied [] b d h f e = go b d f e
    lists_copied (event.Declaration i ∷ es) b d h f e =
        let p = no_place_if (is_repetition i && is_hidden (list_of i) t b) no_place (old_lists (b ++ event.Declaration i ∷ []) (es ++ rest)) e in
        a_place_if (is_repetition (copied_declaration c i) && is_hidden (list_of (copied_declaration c i)) u d) no_place (new_lists (d ++ copied_event c (event.Declaration i) ∷ []) (map (copied_event c) es ++ rest_new)) (kept_off i b d h.0 f p.0)
        (lists_copied es (b ++ event.Declaration i ∷ []) (d ++ copied_event c (event.Declaration i) ∷ []) h.1 (less_more (event.Declaration i) b d h.0 f) p.1)
    lists_copied (event.Member m g i ∷ es) b d h f e = lists_copied es (b ++ event.Member m g i ∷ []) (d ++ copied_event c (event.Member m g i) ∷ []) h.1 (less_more (event.Member m g i) b d h.0 f) e
    lists_copied (event.Import i ∷ es) b d h f e = lists_copied es (b ++ event.Import i ∷ []) (d ++ copied_event c (event.Import i) ∷ []) h.1 (less_more (event.Import i) b d h.0 f) e
    lists_copied (event.Use i ∷ es) b d h f e = lists_copied es (b ++ event.Use i ∷ []) (d ++ copied_event c (event.Use i) ∷ []) h.1 (less_more (event.Use i) b d h.0 f) e
    lists_copied (event.Bodiless i j ∷ es) b d h f e = lists_copied es (b ++ event.Bodiless i j ∷ []) (d ++ copied_event c (event.Bodiless i j) ∷ []) h.1 (less_more (event.Bodiless i j) b d h.0 f) e
    lists_copied (event.Statement i j ∷ es) b d h f e = lists_copied es (b ++ event.Statement i j ∷ []) (d ++ copied_event c (event.Statement i j) ∷ []) h.1 (less_more (event.Statement i j) b d h.0 f) e
    lists_copied (event.Misplaced i j ∷ es) b d h f e = lists_copied es (b ++ event.Misplaced i j ∷ []) (d ++ copied_event c (event.Misplaced i j) ∷ []) h.1 (less_more (event.Misplaced i j) b d h.0 f) e
    lists_copied (event.SecondDefault i ∷ es) b d h f e = lists_copied es (b ++ event.SecondDefault i ∷ []) (d ++ copied_event c (event.SecondDefault i) ∷ []) h.1 (less_more (event.SecondDefault i) b d h.0 f) e

  no_more_lists : (d : List Event) → new_lists d copy.tail ≡ []
  no_more_lists d = ap (new_lists d) (sym (append-nil copy.tail)) ∙ lists_none u copy.tail d [] (tail_listless copy.tail copy.returns copy.tail_tells) refl

  lists_pieces : (ps : List Piece) (hs : List Replaced) → AllCopied c hs ps → (b d : List Event) → Less b d → old_lists b (told_before ps ++ copy.behind) ≡ [] → new_lists d (told_copied c ps ++ copy.tail) ≡ []
  lists_pieces [] hs h b d f e = no_more_lists d
  lists_pieces (stays es ∷ ps) hs h b d f e =
      ap (new_lists d) (append_assoc (map (copied_event c) es) (told_copied c ps) copy.tail)
      ∙ lists_copied (told_before ps ++ copy.behind) (told_copied c ps ++ copy.tail) (λ x y k l. lists_pieces ps hs h.1 x y k l) es b d h.0 f (sym (ap (old_lists b) (append_assoc es (told_before ps) copy.behind)) ∙ e)
  lists_pieces (gap old news ∷ ps) [] h b d f e = absurd h
  lists_pieces (gap old news ∷ ps) (r ∷ hs) h b d f e =
      let none : EachEvent IsListless news = each_as (HoleIsNew c r) IsListless news (hole_listless r) h.1 in
      ap (new_lists d) (append_assoc news (told_copied c ps) copy.tail)
      ∙ lists_none u news d (told_copied c ps ++ copy.tail) none
      (lists_pieces ps hs h.2 (b ++ old) (d ++ news) (less_hole old news b d none f) (lists_gone t old b (told_before ps ++ copy.behind) (sym (ap (old_lists b) (append_assoc old (told_before ps) copy.behind)) ∙ e)))

  pub lists_mean_the_same : own_hidden_lists a ≡ [] → own_hidden_lists new ≡ []
  lists_mean_the_same e =
      let none : EachEvent IsListless copy.head = each_as (InSignature new outer c) IsListless copy.head head_listless copy.signature in
      ap (new_lists []) copy.new_told
      ∙ lists_none u copy.head [] (copied_events ++ copy.tail) none
      (lists_pieces copy.pieces c.holes copy.copied copy.before copy.head (λ x k. inr (each_among IsListless x copy.head none k)) (lists_gone t copy.before [] (run_events ++ copy.behind) (sym (ap (old_lists []) copy.told) ∙ e)))
