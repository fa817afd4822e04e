-- Specifications that repeat lists of constants, with runs replaced.
use Rattle.std.proofs.Common.{◌≡◌, ◌∙◌, ℕ, ◌<◌, ◌⊎◌, inl, inr, Bool, true, false, List, [], ◌∷◌, ◌++◌, map, Option, Some, None, refl, sym, ap, subst, append_assoc, append-nil}
use Rattle.std.specs.Prelude.{if◌then◌else◌, ◌&&◌, ◌||◌, not, nat_eq}
use Rattle.go_tokens.specs.Spellings.{same_text}
use Rattle.go_rewriting.specs.Places.{become}
use Rattle.go_tree.specs.declared.context.Block.{Block}
use Rattle.go_tree.specs.declared.context.Block.TheVariants as block
use Rattle.go_tree.specs.declared.context.Entity.{Entity}
use Rattle.go_tree.specs.declared.context.Entity.TheVariants as entity
use Rattle.go_tree.specs.declared.context.Site.{Site}
use Rattle.go_tree.specs.declared.context.Site.TheVariants as site_of
use Rattle.go_tree.specs.declared.event.Declaration.{Declaration}
use Rattle.go_tree.specs.declared.event.Event.{Event}
use Rattle.go_tree.specs.declared.event.Event.TheVariants as event
use Rattle.go_tree.specs.declared.event.Use.{Use}
use Rattle.go_tree.specs.Constants.{is_list, list_by, list_of, list_at, list_around, uses_name, hides_one, is_hidden, is_repetition, hidden_lists_by}
use Rattle.go_tree.specs.Contexts.{file_context}
use Rattle.go_tree.specs.Failures.{place_if}
use Rattle.go_tree.specs.Lookups.{is_local}
use Rattle.go_tree.specs.Units.{Place, is_blank}
use Rattle.go_heads.specs.Functions.{Alone}
use Rattle.go_heads.specs.Names.{own_text, no_place}
use Rattle.go_scopes_bodies.specs.Carried.{carried_token, carried_block, carried_site, carried_declaration, carried_use, carried_event}
use Rattle.go_scopes_bodies.specs.Faults.{own_hidden_lists}
use Rattle.go_scopes_bodies.specs.Meant.{Outer}
use Rattle.extract_names.specs.Gaps.{Gap, moved_by, Among, Stays, AtEdge}
use Rattle.extract_names.specs.Pieces.{Piece, stays, gap, told_before, told_behind, TellsPieces}
use Rattle.extract_names.specs.Sites.{specification_at, EachEvent, TokenStays, DeclarationStays, EventStays, EventIsNew, AllStand, IsSite}
use Rattle.extract_names.proofs.Edges.{rises, same_eq, stays_edge}
use Rattle.extract_names.proofs.Rows.{both_true, and_true, second_off}
use Rattle.extract_names.proofs.Replaced.{among_left, among_right, among_split}
use Rattle.extract_names.proofs.Replaced as replaced

-- ---- what uses and hides names of a list

pub use_found : (s : ℕ) (w : List ℕ) (t : ℕ → List ℕ) (es : List Event) → uses_name s w t es ≡ true → (u : Use) × Among (event.Use u) es × (is_list s (list_around u) ≡ true) × (same_text w (t u.name) ≡ true)
use_found s w t [] e = cc
use_found s w t (event.Use u ∷ es) e = by (is_list s (list_around u) && same_text w (t u.name)) refl e (use_found s w t es)
  where
    by : (b : Bool) → (is_list s (list_around u) && same_text w (t u.name)) ≡ b → (b || uses_name s w t es) ≡ true → (uses_name s w t es ≡ true → (x : Use) × Among (event.Use x) es × (is_list s (list_around x) ≡ true) × (same_text w (t x.name) ≡ true))
        → (x : Use) × Among (event.Use x) (event.Use u ∷ es) × (is_list s (list_around x) ≡ true) × (same_text w (t x.name) ≡ true)
    by true q e go = let p = both_true (is_list s (list_around u)) (same_text w (t u.name)) q in (u, inl refl, p.0, p.1)
    by false q e go = let y = go e in (y.0, inr y.1, y.2, y.3)
use_found s w t (event.Declaration d ∷ es) e = let y = use_found s w t es e in (y.0, inr y.1, y.2, y.3)
use_found s w t (event.Import x ∷ es) e = let y = use_found s w t es e in (y.0, inr y.1, y.2, y.3)
use_found s w t (event.Member m g x ∷ es) e = let y = use_found s w t es e in (y.0, inr y.1, y.2, y.3)
use_found s w t (event.Bodiless x z ∷ es) e = let y = use_found s w t es e in (y.0, inr y.1, y.2, y.3)
use_found s w t (event.Statement x z ∷ es) e = let y = use_found s w t es e in (y.0, inr y.1, y.2, y.3)
use_found s w t (event.Misplaced x z ∷ es) e = let y = use_found s w t es e in (y.0, inr y.1, y.2, y.3)
use_found s w t (event.SecondDefault x ∷ es) e = let y = use_found s w t es e in (y.0, inr y.1, y.2, y.3)

or_first : (b c : Bool) → b ≡ true → (b || c) ≡ true
or_first true c e = refl
or_first false c e = cc

or_second : (b c : Bool) → c ≡ true → (b || c) ≡ true
or_second true c e = refl
or_second false c e = e

pub use_told : (s : ℕ) (w : List ℕ) (t : ℕ → List ℕ) (es : List Event) (u : Use) → Among (event.Use u) es → is_list s (list_around u) ≡ true → same_text w (t u.name) ≡ true → uses_name s w t es ≡ true
use_told s w t [] u k e f = absurd k
use_told s w t (event.Use x ∷ es) u (inl q) e f = let p : u ≡ x = cc in or_first (is_list s (list_around x) && same_text w (t x.name)) (uses_name s w t es) (subst (λ (z : Use). (is_list s (list_around z) && same_text w (t z.name)) ≡ true) p (and_true (is_list s (list_around u)) (same_text w (t u.name)) e f))
use_told s w t (event.Use x ∷ es) u (inr k) e f = or_second (is_list s (list_around x) && same_text w (t x.name)) (uses_name s w t es) (use_told s w t es u k e f)
use_told s w t (event.Declaration d ∷ es) u (inl q) e f = cc
use_told s w t (event.Declaration d ∷ es) u (inr k) e f = use_told s w t es u k e f
use_told s w t (event.Import x ∷ es) u (inl q) e f = cc
use_told s w t (event.Import x ∷ es) u (inr k) e f = use_told s w t es u k e f
use_told s w t (event.Member m g x ∷ es) u (inl q) e f = cc
use_told s w t (event.Member m g x ∷ es) u (inr k) e f = use_told s w t es u k e f
use_told s w t (event.Bodiless x z ∷ es) u (inl q) e f = cc
use_told s w t (event.Bodiless x z ∷ es) u (inr k) e f = use_told s w t es u k e f
use_told s w t (event.Statement x z ∷ es) u (inl q) e f = cc
use_told s w t (event.Statement x z ∷ es) u (inr k) e f = use_told s w t es u k e f
use_told s w t (event.Misplaced x z ∷ es) u (inl q) e f = cc
use_told s w t (event.Misplaced x z ∷ es) u (inr k) e f = use_told s w t es u k e f
use_told s w t (event.SecondDefault x ∷ es) u (inl q) e f = cc
use_told s w t (event.SecondDefault x ∷ es) u (inr k) e f = use_told s w t es u k e f

abbrev pub Hides : ℕ → (ℕ → List ℕ) → List Event → Declaration → Type 0
Hides s t all d = (is_list s (list_of d) && not (is_blank (t d.name)) && uses_name s (t d.name) t all) ≡ true

pub hide_found : (s : ℕ) (t : ℕ → List ℕ) (all es : List Event) → hides_one s t all es ≡ true → (d : Declaration) × Among (event.Declaration d) es × Hides s t all d
hide_found s t all [] e = cc
hide_found s t all (event.Declaration d ∷ es) e = by (is_list s (list_of d) && not (is_blank (t d.name)) && uses_name s (t d.name) t all) refl e (hide_found s t all es)
  where
    by : (b : Bool) → (is_list s (list_of d) && not (is_blank (t d.name)) && uses_name s (t d.name) t all) ≡ b → (b || hides_one s t all es) ≡ true → (hides_one s t all es ≡ true → (x : Declaration) × Among (event.Declaration x) es × Hides s t all x)
        → (x : Declaration) × Among (event.Declaration x) (event.Declaration d ∷ es) × Hides s t all x
    by true q e go = (d, inl refl, q)
    by false q e go = let y = go e in (y.0, inr y.1, y.2)
hide_found s t all (event.Use u ∷ es) e = let y = hide_found s t all es e in (y.0, inr y.1, y.2)
hide_found s t all (event.Import x ∷ es) e = let y = hide_found s t all es e in (y.0, inr y.1, y.2)
hide_found s t all (event.Member m g x ∷ es) e = let y = hide_found s t all es e in (y.0, inr y.1, y.2)
hide_found s t all (event.Bodiless x z ∷ es) e = let y = hide_found s t all es e in (y.0, inr y.1, y.2)
hide_found s t all (event.Statement x z ∷ es) e = let y = hide_found s t all es e in (y.0, inr y.1, y.2)
hide_found s t all (event.Misplaced x z ∷ es) e = let y = hide_found s t all es e in (y.0, inr y.1, y.2)
hide_found s t all (event.SecondDefault x ∷ es) e = let y = hide_found s t all es e in (y.0, inr y.1, y.2)

pub hide_told : (s : ℕ) (t : ℕ → List ℕ) (all es : List Event) (d : Declaration) → Among (event.Declaration d) es → Hides s t all d → hides_one s t all es ≡ true
hide_told s t all [] d k e = absurd k
hide_told s t all (event.Declaration x ∷ es) d (inl q) e = let p : d ≡ x = cc in or_first (is_list s (list_of x) && not (is_blank (t x.name)) && uses_name s (t x.name) t all) (hides_one s t all es) (subst (Hides s t all) p e)
hide_told s t all (event.Declaration x ∷ es) d (inr k) e = or_second (is_list s (list_of x) && not (is_blank (t x.name)) && uses_name s (t x.name) t all) (hides_one s t all es) (hide_told s t all es d k e)
hide_told s t all (event.Use u ∷ es) d (inl q) e = cc
hide_told s t all (event.Use u ∷ es) d (inr k) e = hide_told s t all es d k e
hide_told s t all (event.Import x ∷ es) d (inl q) e = cc
hide_told s t all (event.Import x ∷ es) d (inr k) e = hide_told s t all es d k e
hide_told s t all (event.Member m g x ∷ es) d (inl q) e = cc
hide_told s t all (event.Member m g x ∷ es) d (inr k) e = hide_told s t all es d k e
hide_told s t all (event.Bodiless x z ∷ es) d (inl q) e = cc
hide_told s t all (event.Bodiless x z ∷ es) d (inr k) e = hide_told s t all es d k e
hide_told s t all (event.Statement x z ∷ es) d (inl q) e = cc
hide_told s t all (event.Statement x z ∷ es) d (inr k) e = hide_told s t all es d k e
hide_told s t all (event.Misplaced x z ∷ es) d (inl q) e = cc
hide_told s t all (event.Misplaced x z ∷ es) d (inr k) e = hide_told s t all es d k e
hide_told s t all (event.SecondDefault x ∷ es) d (inl q) e = cc
hide_told s t all (event.SecondDefault x ∷ es) d (inr k) e = hide_told s t all es d k e

-- ---- lists that stand elsewhere

pub list_by_carried : (v : ℕ → ℕ) (e : Entity) (s : Option ℕ) → list_by e (carried_token v s) ≡ carried_token v (list_by e s)
list_by_carried v entity.Constant s = refl
list_by_carried v entity.Type s = refl
list_by_carried v entity.Variable s = refl
list_by_carried v entity.Parameter s = refl
list_by_carried v entity.Function s = refl

list_at_carried : (v : ℕ → ℕ) (s : Site) → list_at (carried_site v s) ≡ carried_token v (list_at s)
list_at_carried v site_of.Elsewhere = refl
list_at_carried v (site_of.Type s) = refl
list_at_carried v (site_of.Value s column alone) = refl
list_at_carried v (site_of.Right s reach) = refl

pub around_carried : (v : ℕ → ℕ) (u : Use) → list_around (carried_use v u) ≡ carried_token v (list_around u)
around_carried v u = by u.constant (list_at_carried v u.site)
  where
    by : (b : Bool) → list_at (carried_site v u.site) ≡ carried_token v (list_at u.site) → (if b then list_at (carried_site v u.site) else None) ≡ carried_token v (if b then list_at u.site else None)
    by true e = e
    by false e = refl

list_stays : (gs : List Gap) (e : Entity) (s : Option ℕ) → TokenStays gs s → TokenStays gs (list_by e s)
list_stays gs entity.Constant s h = h
list_stays gs entity.Type s h = tt
list_stays gs entity.Variable s h = tt
list_stays gs entity.Parameter s h = tt
list_stays gs entity.Function s h = tt

listed_stays : (gs : List Gap) (s : Site) → TokenStays gs (specification_at s) → TokenStays gs (list_at s)
listed_stays gs site_of.Elsewhere h = tt
listed_stays gs (site_of.Type s) h = h
listed_stays gs (site_of.Value s column alone) h = h
listed_stays gs (site_of.Right s reach) h = tt

around_stays : (gs : List Gap) (b : Bool) (s : Option ℕ) → TokenStays gs s → TokenStays gs (if b then s else None)
around_stays gs true s h = h
around_stays gs false s h = tt

pub local_same : (v : ℕ → ℕ) (b : Block) → is_local (carried_block v b) ≡ is_local b
local_same v block.Package = refl
local_same v (block.Local i) = refl

no_place_if : (b : Bool) (s : Place) (ss : List Place) → place_if b s ss ≡ [] → (b ≡ false) × (ss ≡ [])
no_place_if true s ss e = cc
no_place_if false s ss e = (refl, e)

a_place_if : (b : Bool) (s : Place) (ss : List Place) → b ≡ false → ss ≡ [] → place_if b s ss ≡ []
a_place_if true s ss e f = cc
a_place_if false s ss e f = f

-- the event names no list
abbrev pub IsListless : Event → Type 0
IsListless (event.Declaration d) = list_of d ≡ None
IsListless (event.Use u) = u.constant ≡ false
IsListless e = Unit {0}

-- the lists behind some events
pub lists_gone : (t : ℕ → List ℕ) (es b rest : List Event) → hidden_lists_by t (λ x. no_place) b (es ++ rest) ≡ [] → hidden_lists_by t (λ x. no_place) (b ++ es) rest ≡ []
lists_gone t [] b rest e = ap (λ z. hidden_lists_by t (λ x. no_place) z rest) (append-nil b) ∙ e
lists_gone t (event.Declaration d ∷ es) b rest e =
    let p = no_place_if (is_repetition d && is_hidden (list_of d) t b) no_place (hidden_lists_by t (λ x. no_place) (b ++ event.Declaration d ∷ []) (es ++ rest)) e in
    ap (λ z. hidden_lists_by t (λ x. no_place) z rest) (sym (append_assoc b (event.Declaration d ∷ []) es)) ∙ lists_gone t es (b ++ event.Declaration d ∷ []) rest p.1
lists_gone t (event.Use x ∷ es) b rest e = ap (λ z. hidden_lists_by t (λ x. no_place) z rest) (sym (append_assoc b (event.Use x ∷ []) es)) ∙ lists_gone t es (b ++ event.Use x ∷ []) rest e
lists_gone t (event.Import x ∷ es) b rest e = ap (λ z. hidden_lists_by t (λ x. no_place) z rest) (sym (append_assoc b (event.Import x ∷ []) es)) ∙ lists_gone t es (b ++ event.Import x ∷ []) rest e
lists_gone t (event.Member m g x ∷ es) b rest e = ap (λ z. hidden_lists_by t (λ x. no_place) z rest) (sym (append_assoc b (event.Member m g x ∷ []) es)) ∙ lists_gone t es (b ++ event.Member m g x ∷ []) rest e
lists_gone t (event.Bodiless x y ∷ es) b rest e = ap (λ z. hidden_lists_by t (λ x. no_place) z rest) (sym (append_assoc b (event.Bodiless x y ∷ []) es)) ∙ lists_gone t es (b ++ event.Bodiless x y ∷ []) rest e
lists_gone t (event.Statement x y ∷ es) b rest e = ap (λ z. hidden_lists_by t (λ x. no_place) z rest) (sym (append_assoc b (event.Statement x y ∷ []) es)) ∙ lists_gone t es (b ++ event.Statement x y ∷ []) rest e
lists_gone t (event.Misplaced x y ∷ es) b rest e = ap (λ z. hidden_lists_by t (λ x. no_place) z rest) (sym (append_assoc b (event.Misplaced x y ∷ []) es)) ∙ lists_gone t es (b ++ event.Misplaced x y ∷ []) rest e
lists_gone t (event.SecondDefault x ∷ es) b rest e = ap (λ z. hidden_lists_by t (λ x. no_place) z rest) (sym (append_assoc b (event.SecondDefault x ∷ []) es)) ∙ lists_gone t es (b ++ event.SecondDefault x ∷ []) rest e

module _ (a new : Alone) (outer : Outer) (gaps : List Gap) (site : IsSite a outer gaps new) (told : TellsPieces (moved_by gaps) (file_context 0) a.tree site.patch (become (moved_by gaps) a.tree site.patch)) where
  abbrev v : ℕ → ℕ
  v = moved_by gaps

  abbrev t : ℕ → List ℕ
  t = own_text a

  abbrev u : ℕ → List ℕ
  u = own_text new

  up : (x y : ℕ) → AtEdge gaps x → AtEdge gaps y → x < y → v x < v y
  up = rises gaps 1 site.apart

  -- What is told in front in the new function is told in front in the old one, or names no list.
  abbrev Fewer : List Event → List Event → Type 0
  Fewer es fs = (e : Event) → Among e fs → ((x : Event) × (e ≡ carried_event v x) × EventStays gaps x × Among x es) ⊎ IsListless e

  list_same : (s : ℕ) (o : Option ℕ) → Stays gaps s → TokenStays gaps o → is_list (v s) (carried_token v o) ≡ is_list s o
  list_same s None h g = refl
  list_same s (Some x) h g = same_eq v (AtEdge gaps) up s x (stays_edge gaps s h) (stays_edge gaps x g)

  -- a name that a list uses in the new function it uses in the old one
  uses_less : (s : ℕ) (w : List ℕ) (es fs : List Event) → Stays gaps s → Fewer es fs → uses_name (v s) w u fs ≡ true → uses_name s w t es ≡ true
  uses_less s w es fs h f e = let y = use_found (v s) w u fs e in by y.0 y.2 y.3 (f (event.Use y.0) y.1)
    where
      remained : (x : Use) (z : Event) → event.Use x ≡ carried_event v z → EventStays gaps z → Among z es → is_list (v s) (list_around x) ≡ true → same_text w (u x.name) ≡ true → uses_name s w t es ≡ true
      remained x (event.Use z) q st k l m =
          let p : x ≡ carried_use v z = cc in
          let n : is_list (v s) (list_around (carried_use v z)) ≡ true = subst (λ (c : Use). is_list (v s) (list_around c) ≡ true) p l in
          let o : same_text w (u (v z.name)) ≡ true = subst (λ (c : Use). same_text w (u c.name) ≡ true) p m in
          use_told s w t es z k (sym (ap (is_list (v s)) (around_carried v z) ∙ list_same s (list_around z) h (around_stays gaps z.constant (list_at z.site) (listed_stays gaps z.site st.3))) ∙ n) (ap (same_text w) (sym (site.texts z.name st.0)) ∙ o)
      remained x (event.Declaration d) q st k l m = cc
      remained x (event.Import z) q st k l m = cc
      remained x (event.Member i j z) q st k l m = cc
      remained x (event.Bodiless i j) q st k l m = cc
      remained x (event.Statement i j) q st k l m = cc
      remained x (event.Misplaced i j) q st k l m = cc
      remained x (event.SecondDefault z) q st k l m = cc

      by : (x : Use) → is_list (v s) (list_around x) ≡ true → same_text w (u x.name) ≡ true → ((z : Event) × (event.Use x ≡ carried_event v z) × EventStays gaps z × Among z es) ⊎ IsListless (event.Use x) → uses_name s w t es ≡ true
      by x l m (inl (z, q, st, k)) = remained x z q st k l m
      by x l m (inr c) = let n : is_list (v s) (list_around x) ≡ false = ap (λ b. is_list (v s) (if b then list_at x.site else None)) c in cc

  hides_less : (s : ℕ) (es fs : List Event) → Stays gaps s → Fewer es fs → hides_one (v s) u fs fs ≡ true → hides_one s t es es ≡ true
  hides_less s es fs h f e = let y = hide_found (v s) u fs fs e in by y.0 y.2 (f (event.Declaration y.0) y.1)
    where
      remained : (x : Declaration) (z : Event) → event.Declaration x ≡ carried_event v z → EventStays gaps z → Among z es → Hides (v s) u fs x → hides_one s t es es ≡ true
      remained x (event.Declaration z) q st k l =
          let p : x ≡ carried_declaration v z = cc in
          let m = both_true (is_list (v s) (list_of (carried_declaration v z)) && not (is_blank (u (v z.name)))) (uses_name (v s) (u (v z.name)) u fs) (subst (Hides (v s) u fs) p l) in
          let n = both_true (is_list (v s) (list_of (carried_declaration v z))) (not (is_blank (u (v z.name)))) m.0 in
          let w : u (v z.name) ≡ t z.name = site.texts z.name st.name in
          hide_told s t es es z k
          (and_true (is_list s (list_of z) && not (is_blank (t z.name))) (uses_name s (t z.name) t es)
          (and_true (is_list s (list_of z)) (not (is_blank (t z.name)))
          (sym (ap (is_list (v s)) (list_by_carried v z.entity z.source) ∙ list_same s (list_of z) h (list_stays gaps z.entity z.source st.source)) ∙ n.0) (ap (λ c. not (is_blank c)) (sym w) ∙ n.1))
          (uses_less s (t z.name) es fs h f (ap (λ c. uses_name (v s) c u fs) (sym w) ∙ m.1)))
      remained x (event.Use z) q st k l = cc
      remained x (event.Import z) q st k l = cc
      remained x (event.Member i j z) q st k l = cc
      remained x (event.Bodiless i j) q st k l = cc
      remained x (event.Statement i j) q st k l = cc
      remained x (event.Misplaced i j) q st k l = cc
      remained x (event.SecondDefault z) q st k l = cc

      by : (x : Declaration) → Hides (v s) u fs x → ((z : Event) × (event.Declaration x ≡ carried_event v z) × EventStays gaps z × Among z es) ⊎ IsListless (event.Declaration x) → hides_one s t es es ≡ true
      by x l (inl (z, q, st, k)) = remained x z q st k l
      by x l (inr c) =
          let m = both_true (is_list (v s) (list_of x) && not (is_blank (u x.name))) (uses_name (v s) (u x.name) u fs) l in
          let n = both_true (is_list (v s) (list_of x)) (not (is_blank (u x.name))) m.0 in
          let z : is_list (v s) (list_of x) ≡ false = ap (is_list (v s)) c in cc

  -- a repetition that stays
  kept_off : (d : Declaration) (es fs : List Event) → DeclarationStays gaps d → Fewer es fs → (is_repetition d && is_hidden (list_of d) t es) ≡ false → (is_repetition (carried_declaration v d) && is_hidden (list_of (carried_declaration v d)) u fs) ≡ false
  kept_off d es fs s f e =
      ap (λ b. b && is_hidden (list_of (carried_declaration v d)) u fs) repeated
      ∙ ap (λ o. is_repetition d && is_hidden o u fs) (list_by_carried v d.entity d.source)
      ∙ by (list_of d) (list_stays gaps d.entity d.source s.source) e
    where
      repeated : is_repetition (carried_declaration v d) ≡ is_repetition d
      repeated =
          ap (λ b. b && nat_eq d.column 0 && not (is_list (v d.statement) (carried_token v d.source))) (local_same v d.block)
          ∙ ap (λ b. is_local d.block && nat_eq d.column 0 && not b) (list_same d.statement d.source s.statement s.source)

      off : (b c x : Bool) → (c ≡ true → x ≡ true) → (b && x) ≡ false → (b && c) ≡ false
      off true true x g e = let h : x ≡ true = g refl in cc
      off true false x g e = refl
      off false c x g e = refl

      by : (o : Option ℕ) → TokenStays gaps o → (is_repetition d && is_hidden o t es) ≡ false → (is_repetition d && is_hidden (carried_token v o) u fs) ≡ false
      by None h e = second_off (is_repetition d) false refl
      by (Some x) h e = off (is_repetition d) (hides_one (v x) u fs fs) (hides_one x t es es) (hides_less x es fs h f) e

  fewer_stays : (x : Event) (es fs : List Event) → EventStays gaps x → Fewer es fs → Fewer (es ++ x ∷ []) (fs ++ carried_event v x ∷ [])
  fewer_stays x es fs st f e k = by (among_split e fs (carried_event v x ∷ []) k)
    where
      by : Among e fs ⊎ Among e (carried_event v x ∷ []) → ((z : Event) × (e ≡ carried_event v z) × EventStays gaps z × Among z (es ++ x ∷ [])) ⊎ IsListless e
      by (inl k) = more (f e k)
        where
          more : ((z : Event) × (e ≡ carried_event v z) × EventStays gaps z × Among z es) ⊎ IsListless e → ((z : Event) × (e ≡ carried_event v z) × EventStays gaps z × Among z (es ++ x ∷ [])) ⊎ IsListless e
          more (inl (z, q, s, m)) = inl (z, q, s, among_left z es (x ∷ []) m)
          more (inr c) = inr c
      by (inr (inl q)) = inl (x, q, st, among_right x es (x ∷ []) (inl refl))
      by (inr (inr k)) = absurd k

  fewer_old : (old es fs : List Event) → Fewer es fs → Fewer (es ++ old) fs
  fewer_old old es fs f e k = more (f e k)
    where
      more : ((z : Event) × (e ≡ carried_event v z) × EventStays gaps z × Among z es) ⊎ IsListless e → ((z : Event) × (e ≡ carried_event v z) × EventStays gaps z × Among z (es ++ old)) ⊎ IsListless e
      more (inl (z, q, s, m)) = inl (z, q, s, among_left z es old m)
      more (inr c) = inr c

  fewer_new : (x : Event) (es fs : List Event) → IsListless x → Fewer es fs → Fewer es (fs ++ x ∷ [])
  fewer_new x es fs c f e k = by (among_split e fs (x ∷ []) k)
    where
      by : Among e fs ⊎ Among e (x ∷ []) → ((z : Event) × (e ≡ carried_event v z) × EventStays gaps z × Among z es) ⊎ IsListless e
      by (inl k) = f e k
      by (inr (inl q)) = inr (subst IsListless (sym q) c)
      by (inr (inr k)) = absurd k

  abbrev old_lists : List Event → List Event → List Place
  old_lists before es = hidden_lists_by t (λ x. no_place) before es

  abbrev new_lists : List Event → List Event → List Place
  new_lists before es = hidden_lists_by u (λ x. no_place) before es

  module _ (rest rest_new : List Event) (go : (es fs : List Event) → Fewer es fs → old_lists es rest ≡ [] → new_lists fs rest_new ≡ []) where
    lists_stay : (es b c : List Event) → EachEvent (EventStays gaps) es → Fewer b c → old_lists b (es ++ rest) ≡ [] → new_lists c (map (carried_event v) es ++ rest_new) ≡ []
    lists_stay [] b c h f e = go b c f e
    lists_stay (event.Declaration d ∷ es) b c h f e =
        let p = no_place_if (is_repetition d && is_hidden (list_of d) t b) no_place (old_lists (b ++ event.Declaration d ∷ []) (es ++ rest)) e in
        a_place_if (is_repetition (carried_declaration v d) && is_hidden (list_of (carried_declaration v d)) u c) no_place (new_lists (c ++ carried_event v (event.Declaration d) ∷ []) (map (carried_event v) es ++ rest_new)) (kept_off d b c h.0 f p.0)
        (lists_stay es (b ++ event.Declaration d ∷ []) (c ++ carried_event v (event.Declaration d) ∷ []) h.1 (fewer_stays (event.Declaration d) b c h.0 f) p.1)
    lists_stay (event.Use x ∷ es) b c h f e = lists_stay es (b ++ event.Use x ∷ []) (c ++ carried_event v (event.Use x) ∷ []) h.1 (fewer_stays (event.Use x) b c h.0 f) e
    lists_stay (event.Import x ∷ es) b c h f e = lists_stay es (b ++ event.Import x ∷ []) (c ++ carried_event v (event.Import x) ∷ []) h.1 (fewer_stays (event.Import x) b c h.0 f) e
    lists_stay (event.Member m g x ∷ es) b c h f e = lists_stay es (b ++ event.Member m g x ∷ []) (c ++ carried_event v (event.Member m g x) ∷ []) h.1 (fewer_stays (event.Member m g x) b c h.0 f) e
    lists_stay (event.Bodiless x y ∷ es) b c h f e = lists_stay es (b ++ event.Bodiless x y ∷ []) (c ++ carried_event v (event.Bodiless x y) ∷ []) h.1 (fewer_stays (event.Bodiless x y) b c h.0 f) e
    lists_stay (event.Statement x y ∷ es) b c h f e = lists_stay es (b ++ event.Statement x y ∷ []) (c ++ carried_event v (event.Statement x y) ∷ []) h.1 (fewer_stays (event.Statement x y) b c h.0 f) e
    lists_stay (event.Misplaced x y ∷ es) b c h f e = lists_stay es (b ++ event.Misplaced x y ∷ []) (c ++ carried_event v (event.Misplaced x y) ∷ []) h.1 (fewer_stays (event.Misplaced x y) b c h.0 f) e
    lists_stay (event.SecondDefault x ∷ es) b c h f e = lists_stay es (b ++ event.SecondDefault x ∷ []) (c ++ carried_event v (event.SecondDefault x) ∷ []) h.1 (fewer_stays (event.SecondDefault x) b c h.0 f) e

  lists_new : (g : Gap) (old : List Event) (es b c rest : List Event) → EachEvent (EventIsNew a v g old) es → Fewer b c → ((d : List Event) → Fewer b d → new_lists d rest ≡ []) → new_lists c (es ++ rest) ≡ []
  lists_new g old [] b c rest h f go = go c f
  lists_new g old (event.Declaration d ∷ es) b c rest h f go =
      let l : list_of d ≡ None = ap (λ e. list_by e d.source) h.0.entity in
      a_place_if (is_repetition d && is_hidden (list_of d) u c) no_place (new_lists (c ++ event.Declaration d ∷ []) (es ++ rest)) (second_off (is_repetition d) (is_hidden (list_of d) u c) (ap (λ o. is_hidden o u c) l))
      (lists_new g old es b (c ++ event.Declaration d ∷ []) rest h.1 (fewer_new (event.Declaration d) b c l f) go)
  lists_new g old (event.Use x ∷ es) b c rest h f go = lists_new g old es b (c ++ event.Use x ∷ []) rest h.1 (fewer_new (event.Use x) b c h.0.constant f) go
  lists_new g old (event.Member m i x ∷ es) b c rest h f go = lists_new g old es b (c ++ event.Member m i x ∷ []) rest h.1 (fewer_new (event.Member m i x) b c tt f) go
  lists_new g old (event.Statement x y ∷ es) b c rest h f go = lists_new g old es b (c ++ event.Statement x y ∷ []) rest h.1 (fewer_new (event.Statement x y) b c tt f) go
  lists_new g old (event.Import x ∷ es) b c rest h f go = absurd h.0
  lists_new g old (event.Bodiless x y ∷ es) b c rest h f go = absurd h.0
  lists_new g old (event.Misplaced x y ∷ es) b c rest h f go = absurd h.0
  lists_new g old (event.SecondDefault x ∷ es) b c rest h f go = absurd h.0

  lists_pieces : (ps : List Piece) (gs : List Gap) → AllStand a new gaps gs ps → (b c : List Event) → Fewer b c → old_lists b (told_before ps) ≡ [] → new_lists c (told_behind v ps) ≡ []
  lists_pieces [] gs h b c f e = refl
  lists_pieces (stays es ∷ ps) gs h b c f e = lists_stay (told_before ps) (told_behind v ps) (λ x y k l. lists_pieces ps gs h.1 x y k l) es b c h.0 f e
  lists_pieces (gap old news ∷ ps) [] h b c f e = absurd h
  lists_pieces (gap old news ∷ ps) (g ∷ gs) h b c f e =
      lists_new g old news (b ++ old) c (told_behind v ps) h.1.each (fewer_old old b c f) (λ d k. lists_pieces ps gs h.2 (b ++ old) d k (lists_gone t old b (told_before ps) e))

  pub lists_mean_the_same : own_hidden_lists a ≡ [] → own_hidden_lists new ≡ []
  lists_mean_the_same e =
      ap (new_lists []) (replaced.behind a new outer gaps site told)
      ∙ lists_pieces (replaced.all_pieces a new outer gaps site told) gaps site.stand [] [] (λ x k. absurd k) (sym (ap (old_lists []) (replaced.before a new outer gaps site told)) ∙ e)
