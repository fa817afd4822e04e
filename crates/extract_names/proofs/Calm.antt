-- Rules on what a function tells by itself: branches, defaults and members, with runs replaced.
use Rattle.std.proofs.Common.{◌≡◌, ◌∙◌, ℕ, ◌+◌, ◌<◌, ◌≤◌, ◌⊎◌, inl, inr, Bool, true, false, List, [], ◌∷◌, ◌++◌, length, map, refl, sym, ap, subst, append_assoc, append-nil, arith}
use Rattle.std.specs.Prelude.{◌&&◌, ◌||◌, not, nat_eq}
use Rattle.go_tokens.specs.Spellings.{same_text}
use Rattle.go_rewriting.specs.Places.{become}
use Rattle.go_tree.specs.declared.event.Event.{Event}
use Rattle.go_tree.specs.declared.event.Event.TheVariants as event
use Rattle.go_tree.specs.declared.event.Member.{Member}
use Rattle.go_tree.specs.declared.event.Member.TheVariants as member
use Rattle.go_tree.specs.Branches.{misplaced}
use Rattle.go_tree.specs.Contexts.{file_context}
use Rattle.go_tree.specs.Duplicates.{same_member, second_defaults}
use Rattle.go_tree.specs.Failures.{place_if}
use Rattle.go_tree.specs.Units.{Place, is_blank}
use Rattle.go_heads.specs.Functions.{Alone}
use Rattle.go_heads.specs.Names.{own_text, no_place}
use Rattle.go_scopes_bodies.specs.Carried.{carried_event}
use Rattle.go_scopes_bodies.specs.Faults.{no_tokens, own_misplaced, own_second_defaults, own_second_members, own_has_member, own_is_duplicate, second_members_by}
use Rattle.go_scopes_bodies.specs.Meant.{Outer}
use Rattle.extract_names.specs.Gaps.{Gap, moved_by, Among, AreApart, Stays, AtEdge}
use Rattle.extract_names.specs.Pieces.{Piece, stays, gap, told_before, told_behind, TellsPieces}
use Rattle.extract_names.specs.Sites.{EachEvent, EventStays, IsNew, EventIsNew, AllStand, IsSite}
use Rattle.extract_names.proofs.Edges.{is_eq, eq_true, not_eq, rises, one, mono, stays_edge, placed, upto_moved}
use Rattle.extract_names.proofs.Replaced as replaced

-- ---- branches

misplaced_stays : (v : ℕ → ℕ) (es rest rest_new : List Event) → (misplaced 0 no_tokens rest ≡ [] → misplaced 0 no_tokens rest_new ≡ []) → misplaced 0 no_tokens (es ++ rest) ≡ [] → misplaced 0 no_tokens (map (carried_event v) es ++ rest_new) ≡ []
misplaced_stays v [] rest rest_new f e = f e
misplaced_stays v (event.Misplaced i j ∷ es) rest rest_new f e = cc
misplaced_stays v (event.Import i ∷ es) rest rest_new f e = misplaced_stays v es rest rest_new f e
misplaced_stays v (event.Declaration d ∷ es) rest rest_new f e = misplaced_stays v es rest rest_new f e
misplaced_stays v (event.Use u ∷ es) rest rest_new f e = misplaced_stays v es rest rest_new f e
misplaced_stays v (event.Member m g i ∷ es) rest rest_new f e = misplaced_stays v es rest rest_new f e
misplaced_stays v (event.Bodiless i j ∷ es) rest rest_new f e = misplaced_stays v es rest rest_new f e
misplaced_stays v (event.Statement i j ∷ es) rest rest_new f e = misplaced_stays v es rest rest_new f e
misplaced_stays v (event.SecondDefault i ∷ es) rest rest_new f e = misplaced_stays v es rest rest_new f e

misplaced_gone : (es rest : List Event) → misplaced 0 no_tokens (es ++ rest) ≡ [] → misplaced 0 no_tokens rest ≡ []
misplaced_gone [] rest e = e
misplaced_gone (event.Misplaced i j ∷ es) rest e = cc
misplaced_gone (event.Import i ∷ es) rest e = misplaced_gone es rest e
misplaced_gone (event.Declaration d ∷ es) rest e = misplaced_gone es rest e
misplaced_gone (event.Use u ∷ es) rest e = misplaced_gone es rest e
misplaced_gone (event.Member m g i ∷ es) rest e = misplaced_gone es rest e
misplaced_gone (event.Bodiless i j ∷ es) rest e = misplaced_gone es rest e
misplaced_gone (event.Statement i j ∷ es) rest e = misplaced_gone es rest e
misplaced_gone (event.SecondDefault i ∷ es) rest e = misplaced_gone es rest e

-- ---- defaults

defaults_stay : (v : ℕ → ℕ) (es rest rest_new : List Event) → (second_defaults 0 no_tokens rest ≡ [] → second_defaults 0 no_tokens rest_new ≡ []) → second_defaults 0 no_tokens (es ++ rest) ≡ [] → second_defaults 0 no_tokens (map (carried_event v) es ++ rest_new) ≡ []
defaults_stay v [] rest rest_new f e = f e
defaults_stay v (event.SecondDefault i ∷ es) rest rest_new f e = cc
defaults_stay v (event.Import i ∷ es) rest rest_new f e = defaults_stay v es rest rest_new f e
defaults_stay v (event.Declaration d ∷ es) rest rest_new f e = defaults_stay v es rest rest_new f e
defaults_stay v (event.Use u ∷ es) rest rest_new f e = defaults_stay v es rest rest_new f e
defaults_stay v (event.Member m g i ∷ es) rest rest_new f e = defaults_stay v es rest rest_new f e
defaults_stay v (event.Bodiless i j ∷ es) rest rest_new f e = defaults_stay v es rest rest_new f e
defaults_stay v (event.Statement i j ∷ es) rest rest_new f e = defaults_stay v es rest rest_new f e
defaults_stay v (event.Misplaced i j ∷ es) rest rest_new f e = defaults_stay v es rest rest_new f e

defaults_gone : (es rest : List Event) → second_defaults 0 no_tokens (es ++ rest) ≡ [] → second_defaults 0 no_tokens rest ≡ []
defaults_gone [] rest e = e
defaults_gone (event.SecondDefault i ∷ es) rest e = cc
defaults_gone (event.Import i ∷ es) rest e = defaults_gone es rest e
defaults_gone (event.Declaration d ∷ es) rest e = defaults_gone es rest e
defaults_gone (event.Use u ∷ es) rest e = defaults_gone es rest e
defaults_gone (event.Member m g i ∷ es) rest e = defaults_gone es rest e
defaults_gone (event.Bodiless i j ∷ es) rest e = defaults_gone es rest e
defaults_gone (event.Statement i j ∷ es) rest e = defaults_gone es rest e
defaults_gone (event.Misplaced i j ∷ es) rest e = defaults_gone es rest e

-- ---- members

pub or_both : (b c : Bool) → b ≡ false → c ≡ false → (b || c) ≡ false
or_both true c e f = cc
or_both false c e f = f

or_assoc : (b c d : Bool) → (b || (c || d)) ≡ ((b || c) || d)
or_assoc true c d = refl
or_assoc false c d = refl

pub or_split : (b c : Bool) → (b || c) ≡ true → (b ≡ true) ⊎ (c ≡ true)
or_split true c e = inl refl
or_split false c e = inr e

pub or_first : (b c : Bool) → b ≡ true → (b || c) ≡ true
or_first true c e = refl
or_first false c e = cc

pub or_second : (b c : Bool) → c ≡ true → (b || c) ≡ true
or_second true c e = refl
or_second false c e = e

pub not_on : (b : Bool) → (b ≡ true → ⊥) → b ≡ false
not_on true h = absurd (h refl)
not_on false h = refl

pub has_append : (t : ℕ → List ℕ) (m : Member) (g : ℕ) (w : List ℕ) (es fs : List Event) → own_has_member t m g w (es ++ fs) ≡ (own_has_member t m g w es || own_has_member t m g w fs)
has_append t m g w [] fs = refl
has_append t m g w (event.Member o h x ∷ es) fs = ap (λ b. (same_member m o && nat_eq g h && same_text w (t x)) || b) (has_append t m g w es fs) ∙ or_assoc (same_member m o && nat_eq g h && same_text w (t x)) (own_has_member t m g w es) (own_has_member t m g w fs)
has_append t m g w (event.Import i ∷ es) fs = has_append t m g w es fs
has_append t m g w (event.Declaration d ∷ es) fs = has_append t m g w es fs
has_append t m g w (event.Use u ∷ es) fs = has_append t m g w es fs
has_append t m g w (event.Bodiless i j ∷ es) fs = has_append t m g w es fs
has_append t m g w (event.Statement i j ∷ es) fs = has_append t m g w es fs
has_append t m g w (event.Misplaced i j ∷ es) fs = has_append t m g w es fs
has_append t m g w (event.SecondDefault i ∷ es) fs = has_append t m g w es fs

-- a name is a duplicate there where it is one here
pub duplicate_less : (t u : ℕ → List ℕ) (m : Member) (g h : ℕ) (w : List ℕ) (es fs : List Event) → (own_has_member t m g w es ≡ true → own_has_member u m h w fs ≡ true) → own_is_duplicate u m h w fs ≡ false → own_is_duplicate t m g w es ≡ false
duplicate_less t u member.Field g h w es fs f e = by (is_blank w) e
  where
    by : (b : Bool) → (b || own_has_member u member.Field h w fs) ≡ false → (b || own_has_member t member.Field g w es) ≡ false
    by true e = cc
    by false e = not_on (own_has_member t member.Field g w es) (λ k. off (f k) e)
      where
        off : own_has_member u member.Field h w fs ≡ true → own_has_member u member.Field h w fs ≡ false → ⊥
        off p q = cc
duplicate_less t u member.Key g h w es fs f e = not_on (own_has_member t member.Key g w es) (λ k. off (f k) e)
  where
    off : own_has_member u member.Key h w fs ≡ true → own_has_member u member.Key h w fs ≡ false → ⊥
    off p q = cc
duplicate_less t u member.Parameter g h w es fs f e = by (is_blank w) e
  where
    by : (b : Bool) → (not b && own_has_member u member.Parameter h w fs) ≡ false → (not b && own_has_member t member.Parameter g w es) ≡ false
    by true e = refl
    by false e = not_on (own_has_member t member.Parameter g w es) (λ k. off (f k) e)
      where
        off : own_has_member u member.Parameter h w fs ≡ true → own_has_member u member.Parameter h w fs ≡ false → ⊥
        off p q = cc

pub no_place_if : (b : Bool) (s : Place) (ss : List Place) → place_if b s ss ≡ [] → (b ≡ false) × (ss ≡ [])
no_place_if true s ss e = cc
no_place_if false s ss e = (refl, e)

pub a_place_if : (b : Bool) (s : Place) (ss : List Place) → b ≡ false → ss ≡ [] → place_if b s ss ≡ []
a_place_if true s ss e f = cc
a_place_if false s ss e f = f

pub both_on : (b c : Bool) → (b && c) ≡ true → (b ≡ true) × (c ≡ true)
both_on true c e = (refl, e)
both_on false c e = cc

pub and_on : (b c : Bool) → b ≡ true → c ≡ true → (b && c) ≡ true
and_on true c e f = f
and_on false c e f = cc

pub one_member : (w : ℕ → List ℕ) (m o : Member) (g h x : ℕ) (s : List ℕ) → own_has_member w m g s (event.Member o h x ∷ []) ≡ ((same_member m o && nat_eq g h) && same_text s (w x))
one_member w m o g h x s = by (same_member m o && nat_eq g h && same_text s (w x))
  where
    by : (b : Bool) → (b || false) ≡ b
    by true = refl
    by false = refl

-- a run that goes
pub members_gone : (t : ℕ → List ℕ) (es b rest : List Event) → second_members_by t b (es ++ rest) ≡ [] → second_members_by t (b ++ es) rest ≡ []
members_gone t [] b rest e = ap (λ z. second_members_by t z rest) (append-nil b) ∙ e
members_gone t (event.Member m g x ∷ es) b rest e =
    let p = no_place_if (own_is_duplicate t m g (t x) b) no_place (second_members_by t (b ++ event.Member m g x ∷ []) (es ++ rest)) e in
    ap (λ z. second_members_by t z rest) (sym (append_assoc b (event.Member m g x ∷ []) es)) ∙ members_gone t es (b ++ event.Member m g x ∷ []) rest p.1
members_gone t (event.Import i ∷ es) b rest e = ap (λ z. second_members_by t z rest) (sym (append_assoc b (event.Import i ∷ []) es)) ∙ members_gone t es (b ++ event.Import i ∷ []) rest e
members_gone t (event.Declaration d ∷ es) b rest e = ap (λ z. second_members_by t z rest) (sym (append_assoc b (event.Declaration d ∷ []) es)) ∙ members_gone t es (b ++ event.Declaration d ∷ []) rest e
members_gone t (event.Use x ∷ es) b rest e = ap (λ z. second_members_by t z rest) (sym (append_assoc b (event.Use x ∷ []) es)) ∙ members_gone t es (b ++ event.Use x ∷ []) rest e
members_gone t (event.Bodiless i j ∷ es) b rest e = ap (λ z. second_members_by t z rest) (sym (append_assoc b (event.Bodiless i j ∷ []) es)) ∙ members_gone t es (b ++ event.Bodiless i j ∷ []) rest e
members_gone t (event.Statement i j ∷ es) b rest e = ap (λ z. second_members_by t z rest) (sym (append_assoc b (event.Statement i j ∷ []) es)) ∙ members_gone t es (b ++ event.Statement i j ∷ []) rest e
members_gone t (event.Misplaced i j ∷ es) b rest e = ap (λ z. second_members_by t z rest) (sym (append_assoc b (event.Misplaced i j ∷ []) es)) ∙ members_gone t es (b ++ event.Misplaced i j ∷ []) rest e
members_gone t (event.SecondDefault i ∷ es) b rest e = ap (λ z. second_members_by t z rest) (sym (append_assoc b (event.SecondDefault i ∷ []) es)) ∙ members_gone t es (b ++ event.SecondDefault i ∷ []) rest e

module _ (a new : Alone) (outer : Outer) (gaps : List Gap) (site : IsSite a outer gaps new) (told : TellsPieces (moved_by gaps) (file_context 0) a.tree site.patch (become (moved_by gaps) a.tree site.patch)) where
  abbrev v : ℕ → ℕ
  v = moved_by gaps

  up : (x y : ℕ) → AtEdge gaps x → AtEdge gaps y → x < y → v x < v y
  up = rises gaps 1 site.apart

  abbrev t : ℕ → List ℕ
  t = own_text a

  abbrev u : ℕ → List ℕ
  u = own_text new

  misplaced_new : (g : Gap) (old es rest : List Event) → EachEvent (EventIsNew a v g old) es → misplaced 0 no_tokens rest ≡ [] → misplaced 0 no_tokens (es ++ rest) ≡ []
  misplaced_new g old [] rest h e = e
  misplaced_new g old (event.Misplaced i j ∷ es) rest h e = absurd h.0
  misplaced_new g old (event.Import i ∷ es) rest h e = absurd h.0
  misplaced_new g old (event.Declaration d ∷ es) rest h e = misplaced_new g old es rest h.1 e
  misplaced_new g old (event.Use x ∷ es) rest h e = misplaced_new g old es rest h.1 e
  misplaced_new g old (event.Member m i j ∷ es) rest h e = misplaced_new g old es rest h.1 e
  misplaced_new g old (event.Bodiless i j ∷ es) rest h e = absurd h.0
  misplaced_new g old (event.Statement i j ∷ es) rest h e = misplaced_new g old es rest h.1 e
  misplaced_new g old (event.SecondDefault i ∷ es) rest h e = absurd h.0

  misplaced_pieces : (ps : List Piece) (gs : List Gap) → AllStand a new gaps gs ps → misplaced 0 no_tokens (told_before ps) ≡ [] → misplaced 0 no_tokens (told_behind v ps) ≡ []
  misplaced_pieces [] gs h e = refl
  misplaced_pieces (stays es ∷ ps) gs h e = misplaced_stays v es (told_before ps) (told_behind v ps) (misplaced_pieces ps gs h.1) e
  misplaced_pieces (gap old news ∷ ps) [] h e = absurd h
  misplaced_pieces (gap old news ∷ ps) (g ∷ gs) h e = misplaced_new g old news (told_behind v ps) h.1.each (misplaced_pieces ps gs h.2 (misplaced_gone old (told_before ps) e))

  pub branches_stay : own_misplaced a ≡ [] → own_misplaced new ≡ []
  branches_stay e =
      ap (misplaced 0 no_tokens) (replaced.behind a new outer gaps site told)
      ∙ misplaced_pieces (replaced.all_pieces a new outer gaps site told) gaps site.stand (sym (ap (misplaced 0 no_tokens) (replaced.before a new outer gaps site told)) ∙ e)

  defaults_new : (g : Gap) (old es rest : List Event) → EachEvent (EventIsNew a v g old) es → second_defaults 0 no_tokens rest ≡ [] → second_defaults 0 no_tokens (es ++ rest) ≡ []
  defaults_new g old [] rest h e = e
  defaults_new g old (event.Misplaced i j ∷ es) rest h e = absurd h.0
  defaults_new g old (event.Import i ∷ es) rest h e = absurd h.0
  defaults_new g old (event.Declaration d ∷ es) rest h e = defaults_new g old es rest h.1 e
  defaults_new g old (event.Use x ∷ es) rest h e = defaults_new g old es rest h.1 e
  defaults_new g old (event.Member m i j ∷ es) rest h e = defaults_new g old es rest h.1 e
  defaults_new g old (event.Bodiless i j ∷ es) rest h e = absurd h.0
  defaults_new g old (event.Statement i j ∷ es) rest h e = defaults_new g old es rest h.1 e
  defaults_new g old (event.SecondDefault i ∷ es) rest h e = absurd h.0

  defaults_pieces : (ps : List Piece) (gs : List Gap) → AllStand a new gaps gs ps → second_defaults 0 no_tokens (told_before ps) ≡ [] → second_defaults 0 no_tokens (told_behind v ps) ≡ []
  defaults_pieces [] gs h e = refl
  defaults_pieces (stays es ∷ ps) gs h e = defaults_stay v es (told_before ps) (told_behind v ps) (defaults_pieces ps gs h.1) e
  defaults_pieces (gap old news ∷ ps) [] h e = absurd h
  defaults_pieces (gap old news ∷ ps) (g ∷ gs) h e = defaults_new g old news (told_behind v ps) h.1.each (defaults_pieces ps gs h.2 (defaults_gone old (told_before ps) e))

  pub defaults_once : own_second_defaults a ≡ [] → own_second_defaults new ≡ []
  defaults_once e =
      ap (second_defaults 0 no_tokens) (replaced.behind a new outer gaps site told)
      ∙ defaults_pieces (replaced.all_pieces a new outer gaps site told) gaps site.stand (sym (ap (second_defaults 0 no_tokens) (replaced.before a new outer gaps site told)) ∙ e)

  -- ---- members

  -- A member that stays, and is told in the new events, is told in the old ones.
  abbrev Fewer : List Event → List Event → Type 0
  Fewer es fs = (m : Member) (g : ℕ) (w : List ℕ) → Stays gaps g → own_has_member u m (v g) w fs ≡ true → own_has_member t m g w es ≡ true

  -- no member that is told is of a group of this gap
  abbrev Without : Gap → List Event → Type 0
  Without g fs = (m : Member) (h : ℕ) (w : List ℕ) → IsNew v g h → own_has_member u m h w fs ≡ false

  abbrev WithoutAll : List Gap → List Event → Type 0
  WithoutAll [] fs = Unit {0}
  WithoutAll (g ∷ gs) fs = Without g fs × WithoutAll gs fs

  -- a group that stays is none of a gap
  group_apart : (g : Gap) (x h : ℕ) → Among g gaps → Stays gaps x → IsNew v g h → nat_eq h (v x) ≡ false
  group_apart g x h k s n = not_eq h (v x) (λ e. by e (stays_at g gaps s k))
    where
      stays_at : (g : Gap) (gs : List Gap) → Stays gs x → Among g gs → (x < g.from) ⊎ (g.upto ≤ x)
      stays_at g [] h k = absurd k
      stays_at g (f ∷ gs) h (inl q) = subst (λ (z : Gap). (x < z.from) ⊎ (z.upto ≤ x)) (sym q) h.0
      stays_at g (f ∷ gs) h (inr k) = stays_at g gs h.1 k

      by : h ≡ v x → (x < g.from) ⊎ (g.upto ≤ x) → ⊥
      by e (inl lt) = let m : v x < v g.from = up x g.from (stays_edge gaps x s) (placed gaps 1 site.apart g k).1.from lt in let lo : v g.from ≤ h = n.0 in omega (arith, m, e, lo)
      by e (inr le) =
          let m : v g.upto ≤ v x = mono v (AtEdge gaps) up g.upto x (placed gaps 1 site.apart g k).1.upto (stays_edge gaps x s) le in
          let z : v g.upto ≡ v g.from + length g.texts = upto_moved gaps 1 site.apart g k in
          let hi : h < v g.from + length g.texts = n.1 in
          omega (arith, m, z, e, hi)

  fewer_more : (e : Event) (es fs : List Event) → EventStays gaps e → Fewer es fs → Fewer (es ++ e ∷ []) (fs ++ carried_event v e ∷ [])
  fewer_more e es fs st f m g w s k = by (or_split (own_has_member u m (v g) w fs) (own_has_member u m (v g) w (carried_event v e ∷ [])) (sym (has_append u m (v g) w fs (carried_event v e ∷ [])) ∙ k))
    where
      single : (e : Event) → EventStays gaps e → own_has_member u m (v g) w (carried_event v e ∷ []) ≡ true → own_has_member t m g w (e ∷ []) ≡ true
      single (event.Member o h x) st q =
          let a = both_on (same_member m o && nat_eq (v g) (v h)) (same_text w (u (v x))) (sym (one_member u m o (v g) (v h) (v x) w) ∙ q) in
          let b = both_on (same_member m o) (nat_eq (v g) (v h)) a.0 in
          let c : g ≡ h = one v (AtEdge gaps) up g h (stays_edge gaps g s) (stays_edge gaps h st.0) (eq_true (v g) (v h) b.1) in
          one_member t m o g h x w ∙ and_on (same_member m o && nat_eq g h) (same_text w (t x)) (and_on (same_member m o) (nat_eq g h) b.0 (is_eq g h c)) (ap (same_text w) (sym (site.texts x st.1)) ∙ a.1)
      single (event.Import i) st q = cc
      single (event.Declaration d) st q = cc
      single (event.Use x) st q = cc
      single (event.Bodiless i j) st q = cc
      single (event.Statement i j) st q = cc
      single (event.Misplaced i j) st q = cc
      single (event.SecondDefault i) st q = cc

      by : (own_has_member u m (v g) w fs ≡ true) ⊎ (own_has_member u m (v g) w (carried_event v e ∷ []) ≡ true) → own_has_member t m g w (es ++ e ∷ []) ≡ true
      by (inl q) = has_append t m g w es (e ∷ []) ∙ or_first (own_has_member t m g w es) (own_has_member t m g w (e ∷ [])) (f m g w s q)
      by (inr q) = has_append t m g w es (e ∷ []) ∙ or_second (own_has_member t m g w es) (own_has_member t m g w (e ∷ [])) (single e st q)

  without_more : (g : Gap) (e : Event) (fs : List Event) → Among g gaps → EventStays gaps e → Without g fs → Without g (fs ++ carried_event v e ∷ [])
  without_more g e fs k st f m h w n = has_append u m h w fs (carried_event v e ∷ []) ∙ or_both (own_has_member u m h w fs) (own_has_member u m h w (carried_event v e ∷ [])) (f m h w n) (single e st)
    where
      off : (b c d : Bool) → c ≡ false → ((b && c) && d) ≡ false
      off true c d e = and_off c d e
        where
          and_off : (c d : Bool) → c ≡ false → (c && d) ≡ false
          and_off true d e = cc
          and_off false d e = refl
      off false c d e = refl

      single : (e : Event) → EventStays gaps e → own_has_member u m h w (carried_event v e ∷ []) ≡ false
      single (event.Member o x y) st = one_member u m o h (v x) (v y) w ∙ off (same_member m o) (nat_eq h (v x)) (same_text w (u (v y))) (group_apart g x h k st.0 n)
      single (event.Import i) st = refl
      single (event.Declaration d) st = refl
      single (event.Use x) st = refl
      single (event.Bodiless i j) st = refl
      single (event.Statement i j) st = refl
      single (event.Misplaced i j) st = refl
      single (event.SecondDefault i) st = refl

  all_more : (gs : List Gap) (e : Event) (fs : List Event) → ((g : Gap) → Among g gs → Among g gaps) → EventStays gaps e → WithoutAll gs fs → WithoutAll gs (fs ++ carried_event v e ∷ [])
  all_more [] e fs f st h = tt
  all_more (g ∷ gs) e fs f st h = (without_more g e fs (f g (inl refl)) st h.0, all_more gs e fs (λ x k. f x (inr k)) st h.1)

  module _ (gs : List Gap) (into : (g : Gap) → Among g gs → Among g gaps) (rest rest_new : List Event) (go : (es fs : List Event) → Fewer es fs → WithoutAll gs fs → second_members_by t es rest ≡ [] → second_members_by u fs rest_new ≡ []) where
    members_stay : (es b c : List Event) → EachEvent (EventStays gaps) es → Fewer b c → WithoutAll gs c → second_members_by t b (es ++ rest) ≡ [] → second_members_by u c (map (carried_event v) es ++ rest_new) ≡ []
    members_stay [] b c h f o e = go b c f o e
    members_stay (event.Member m g x ∷ es) b c h f o e =
        let p = no_place_if (own_is_duplicate t m g (t x) b) no_place (second_members_by t (b ++ event.Member m g x ∷ []) (es ++ rest)) e in
        let q : own_is_duplicate u m (v g) (t x) c ≡ false = duplicate_less u t m (v g) g (t x) c b (f m g (t x) h.0.0) p.0 in
        a_place_if (own_is_duplicate u m (v g) (u (v x)) c) no_place (second_members_by u (c ++ event.Member m (v g) (v x) ∷ []) (map (carried_event v) es ++ rest_new))
        (ap (λ w. own_is_duplicate u m (v g) w c) (site.texts x h.0.1) ∙ q)
        (members_stay es (b ++ event.Member m g x ∷ []) (c ++ event.Member m (v g) (v x) ∷ []) h.1 (fewer_more (event.Member m g x) b c h.0 f) (all_more gs (event.Member m g x) c into h.0 o) p.1)
    members_stay (event.Import i ∷ es) b c h f o e = members_stay es (b ++ event.Import i ∷ []) (c ++ event.Import (v i) ∷ []) h.1 (fewer_more (event.Import i) b c h.0 f) (all_more gs (event.Import i) c into h.0 o) e
    members_stay (event.Declaration d ∷ es) b c h f o e = members_stay es (b ++ event.Declaration d ∷ []) (c ++ carried_event v (event.Declaration d) ∷ []) h.1 (fewer_more (event.Declaration d) b c h.0 f) (all_more gs (event.Declaration d) c into h.0 o) e
    members_stay (event.Use x ∷ es) b c h f o e = members_stay es (b ++ event.Use x ∷ []) (c ++ carried_event v (event.Use x) ∷ []) h.1 (fewer_more (event.Use x) b c h.0 f) (all_more gs (event.Use x) c into h.0 o) e
    members_stay (event.Bodiless i j ∷ es) b c h f o e = members_stay es (b ++ event.Bodiless i j ∷ []) (c ++ event.Bodiless (v i) (v j) ∷ []) h.1 (fewer_more (event.Bodiless i j) b c h.0 f) (all_more gs (event.Bodiless i j) c into h.0 o) e
    members_stay (event.Statement i j ∷ es) b c h f o e = members_stay es (b ++ event.Statement i j ∷ []) (c ++ event.Statement (v i) (v j) ∷ []) h.1 (fewer_more (event.Statement i j) b c h.0 f) (all_more gs (event.Statement i j) c into h.0 o) e
    members_stay (event.Misplaced i j ∷ es) b c h f o e = members_stay es (b ++ event.Misplaced i j ∷ []) (c ++ event.Misplaced (v i) (v j) ∷ []) h.1 (fewer_more (event.Misplaced i j) b c h.0 f) (all_more gs (event.Misplaced i j) c into h.0 o) e
    members_stay (event.SecondDefault i ∷ es) b c h f o e = members_stay es (b ++ event.SecondDefault i ∷ []) (c ++ event.SecondDefault (v i) ∷ []) h.1 (fewer_more (event.SecondDefault i) b c h.0 f) (all_more gs (event.SecondDefault i) c into h.0 o) e

  -- the members of a gap, behind others that are of none of its groups
  module _ (g : Gap) (c : List Event) (f : Without g c) (rest : List Event) where
    same_duplicate : (m : Member) (h : ℕ) (w : List ℕ) (d : List Event) → IsNew v g h → own_is_duplicate u m h w (c ++ d) ≡ own_is_duplicate u m h w d
    same_duplicate m h w d n = by m (has_append u m h w c d ∙ ap (λ b. b || own_has_member u m h w d) (f m h w n))
      where
        by : (m : Member) → own_has_member u m h w (c ++ d) ≡ own_has_member u m h w d → own_is_duplicate u m h w (c ++ d) ≡ own_is_duplicate u m h w d
        by member.Field e = ap (λ b. is_blank w || b) e
        by member.Key e = e
        by member.Parameter e = ap (λ b. not (is_blank w) && b) e

    next : (e : Event) (es d : List Event) → second_members_by u ((c ++ d) ++ e ∷ es) rest ≡ [] → second_members_by u ((c ++ (d ++ e ∷ [])) ++ es) rest ≡ []
    next e es d q = ap (λ z. second_members_by u z rest) (ap (λ z. z ++ es) (sym (append_assoc c d (e ∷ []))) ∙ append_assoc (c ++ d) (e ∷ []) es) ∙ q

    put : (e : Event) (es d : List Event) → second_members_by u (c ++ (d ++ e ∷ [])) (es ++ rest) ≡ [] → second_members_by u ((c ++ d) ++ e ∷ []) (es ++ rest) ≡ []
    put e es d q = ap (λ z. second_members_by u z (es ++ rest)) (append_assoc c d (e ∷ [])) ∙ q

    members_new : (old es d : List Event) → EachEvent (EventIsNew a v g old) es → second_members_by u d es ≡ [] → second_members_by u ((c ++ d) ++ es) rest ≡ [] → second_members_by u (c ++ d) (es ++ rest) ≡ []
    members_new old [] d h e q = ap (λ z. second_members_by u z rest) (sym (append-nil (c ++ d))) ∙ q
    members_new old (event.Member m i x ∷ es) d h e q =
        let p = no_place_if (own_is_duplicate u m i (u x) d) no_place (second_members_by u (d ++ event.Member m i x ∷ []) es) e in
        a_place_if (own_is_duplicate u m i (u x) (c ++ d)) no_place (second_members_by u ((c ++ d) ++ event.Member m i x ∷ []) (es ++ rest)) (same_duplicate m i (u x) d h.0.0 ∙ p.0)
        (put (event.Member m i x) es d (members_new old es (d ++ event.Member m i x ∷ []) h.1 p.1 (next (event.Member m i x) es d q)))
    members_new old (event.Declaration x ∷ es) d h e q = put (event.Declaration x) es d (members_new old es (d ++ event.Declaration x ∷ []) h.1 e (next (event.Declaration x) es d q))
    members_new old (event.Use x ∷ es) d h e q = put (event.Use x) es d (members_new old es (d ++ event.Use x ∷ []) h.1 e (next (event.Use x) es d q))
    members_new old (event.Statement i j ∷ es) d h e q = put (event.Statement i j) es d (members_new old es (d ++ event.Statement i j ∷ []) h.1 e (next (event.Statement i j) es d q))
    members_new old (event.Import i ∷ es) d h e q = absurd h.0
    members_new old (event.Bodiless i j ∷ es) d h e q = absurd h.0
    members_new old (event.Misplaced i j ∷ es) d h e q = absurd h.0
    members_new old (event.SecondDefault i ∷ es) d h e q = absurd h.0

  -- new members are of groups of their gap
  has_none : (g : Gap) (old es : List Event) (m : Member) (h : ℕ) (w : List ℕ) → ((k : ℕ) → IsNew v g k → nat_eq h k ≡ false) → EachEvent (EventIsNew a v g old) es → own_has_member u m h w es ≡ false
  has_none g old [] m h w f k = refl
  has_none g old (event.Member o i x ∷ es) m h w f k = or_both ((same_member m o && nat_eq h i) && same_text w (u x)) (own_has_member u m h w es) (off (same_member m o) (nat_eq h i) (same_text w (u x)) (f i k.0.0)) (has_none g old es m h w f k.1)
    where
      off : (b c d : Bool) → c ≡ false → ((b && c) && d) ≡ false
      off true true d e = cc
      off true false d e = refl
      off false c d e = refl
  has_none g old (event.Declaration x ∷ es) m h w f k = has_none g old es m h w f k.1
  has_none g old (event.Use x ∷ es) m h w f k = has_none g old es m h w f k.1
  has_none g old (event.Statement i j ∷ es) m h w f k = has_none g old es m h w f k.1
  has_none g old (event.Import i ∷ es) m h w f k = absurd k.0
  has_none g old (event.Bodiless i j ∷ es) m h w f k = absurd k.0
  has_none g old (event.Misplaced i j ∷ es) m h w f k = absurd k.0
  has_none g old (event.SecondDefault i ∷ es) m h w f k = absurd k.0

  flip_eq : (x y : ℕ) → nat_eq y x ≡ false → nat_eq x y ≡ false
  flip_eq x y e = not_eq x y (λ p. off (is_eq y x (sym p)) e)
    where
      off : nat_eq y x ≡ true → nat_eq y x ≡ false → ⊥
      off p q = cc

  fewer_gap : (g : Gap) (old news b c : List Event) → Among g gaps → EachEvent (EventIsNew a v g old) news → Fewer b c → Fewer (b ++ old) (c ++ news)
  fewer_gap g old news b c k n f m x w s e = by (or_split (own_has_member u m (v x) w c) (own_has_member u m (v x) w news) (sym (has_append u m (v x) w c news) ∙ e))
    where
      by : (own_has_member u m (v x) w c ≡ true) ⊎ (own_has_member u m (v x) w news ≡ true) → own_has_member t m x w (b ++ old) ≡ true
      by (inl q) = has_append t m x w b old ∙ or_first (own_has_member t m x w b) (own_has_member t m x w old) (f m x w s q)
      by (inr q) = let p : own_has_member u m (v x) w news ≡ false = has_none g old news m (v x) w (λ h i. flip_eq (v x) h (group_apart g x h k s i)) n in cc

  later_apart : (g h : Gap) (x y : ℕ) → Among g gaps → Among h gaps → g.upto ≤ h.from → IsNew v g x → IsNew v h y → nat_eq y x ≡ false
  later_apart g h x y k l le i j =
      let m : v g.upto ≤ v h.from = mono v (AtEdge gaps) up g.upto h.from (placed gaps 1 site.apart g k).1.upto (placed gaps 1 site.apart h l).1.from le in
      let z : v g.upto ≡ v g.from + length g.texts = upto_moved gaps 1 site.apart g k in
      let a : x < v g.from + length g.texts = i.1 in
      let b : v h.from ≤ y = j.0 in
      not_eq y x (λ e. omega (arith, m, z, a, b, e))

  all_behind : (g : Gap) (old news : List Event) (gs : List Gap) (j : ℕ) (c : List Event) → Among g gaps → EachEvent (EventIsNew a v g old) news → g.upto ≤ j → AreApart j gs → ((x : Gap) → Among x gs → Among x gaps) → WithoutAll gs c → WithoutAll gs (c ++ news)
  all_behind g old news [] j c k n le p f o = tt
  all_behind g old news (h ∷ gs) j c k n le p f o =
      let a : j ≤ h.from = p.0 in
      let b : h.from < h.upto = p.1 in (
        λ m y w i. has_append u m y w c news ∙ or_both (own_has_member u m y w c) (own_has_member u m y w news) (o.0 m y w i) (has_none g old news m y w (λ x q. later_apart g h x y k (f h (inl refl)) (omega (arith, le, a)) q i) n),
        all_behind g old news gs h.upto c k n (omega (arith, le, a, b)) p.3 (λ x q. f x (inr q)) o.1,
      )

  members_pieces : (ps : List Piece) (gs : List Gap) (j : ℕ) → AllStand a new gaps gs ps → AreApart j gs → ((x : Gap) → Among x gs → Among x gaps) → (b c : List Event) → Fewer b c → WithoutAll gs c → second_members_by t b (told_before ps) ≡ [] → second_members_by u c (told_behind v ps) ≡ []
  members_pieces [] gs j h p into b c f o e = refl
  members_pieces (stays es ∷ ps) gs j h p into b c f o e = members_stay gs into (told_before ps) (told_behind v ps) (λ x y k l. members_pieces ps gs j h.1 p into x y k l) es b c h.0 f o e
  members_pieces (gap old news ∷ ps) [] j h p into b c f o e = absurd h
  members_pieces (gap old news ∷ ps) (g ∷ gs) j h p into b c f o e =
      let k : Among g gaps = into g (inl refl) in
      let q : second_members_by u (c ++ news) (told_behind v ps) ≡ [] =
      members_pieces ps gs g.upto h.2 p.3 (λ x m. into x (inr m)) (b ++ old) (c ++ news) (fewer_gap g old news b c k h.1.each f) (all_behind g old news gs g.upto c k h.1.each (omega arith) p.3 (λ x m. into x (inr m)) o.1) (members_gone t old b (told_before ps) e) in
      ap (λ z. second_members_by u z (news ++ told_behind v ps)) (sym (append-nil c))
      ∙ members_new g c o.0 (told_behind v ps) old news [] h.1.each h.1.members_once (ap (λ z. second_members_by u (z ++ news) (told_behind v ps)) (append-nil c) ∙ q)

  none_without : (gs : List Gap) → WithoutAll gs []
  none_without [] = tt
  none_without (g ∷ gs) = (λ m h w n. refl, none_without gs)

  pub members_once : own_second_members a ≡ [] → own_second_members new ≡ []
  members_once e =
      ap (second_members_by u []) (replaced.behind a new outer gaps site told)
      ∙ members_pieces (replaced.all_pieces a new outer gaps site told) gaps 1 site.stand site.apart (λ g k. k) [] [] (λ m g w s k. cc) (none_without gaps) (sym (ap (second_members_by t []) (replaced.before a new outer gaps site told)) ∙ e)
