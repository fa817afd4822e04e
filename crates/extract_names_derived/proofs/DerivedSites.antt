-- A derived function with statements in the place of runs is a site.
use Rattle.std.proofs.Common.{◌≡◌, ◌∙◌, ℕ, suc, ◌+◌, ◌<◌, ◌≤◌, inl, inr, Bool, true, false, List, [], ◌∷◌, length, refl, sym, ap, subst, arith}
use Rattle.std.specs.Prelude.{slice_get, nat_le, nat_lt, if◌then◌else◌}
use Rattle.go_tokens.specs.declared.token.TokenKind.{TokenKind}
use Rattle.go_grammar.specs.declared.kind.Category.TheVariants as category
use Rattle.go_grammar.specs.declared.kind.Kind.TheVariants as kind
use Rattle.go_grammar.specs.Trees.{Tree, node, Trees, none, more, skip, kind_of, first, last}
use Rattle.go_grammar.proofs.Public.{derives_grows}
use Rattle.go_rewriting.specs.Places.{Patch, Patches, keep, put, inside, done, part, run, items_behind, become, places, Ascending}
use Rattle.go_rewriting.specs.Replacing.{moved}
use Rattle.go_tree.specs.Contexts.{file_context}
use Rattle.go_tree.specs.Units.{is_blank}
use Rattle.go_heads.specs.Bodies.{function_events}
use Rattle.go_heads.specs.Functions.{Alone}
use Rattle.go_heads.specs.Names.{text_there, own_text}
use Rattle.go_scopes_events.specs.Orders.{AreInOrder}
use Rattle.go_scopes_events.proofs.Public.{derives_laid, events_order}
use Rattle.go_scopes_bodies.specs.Carried.{KeepsName}
use Rattle.go_scopes_bodies.specs.Meant.{Outer}
use Rattle.extract_names.specs.Gaps.{Gap, moved_by, ranges, Among, AreApart, Stays}
use Rattle.extract_names.specs.Pieces.{Piece, stays, gap, pieces}
use Rattle.extract_names.specs.Sites.{DeclaresItself, AllStand, IsSite}
use Rattle.extract_names_derived.specs.Functions.{IsDerivedFunction}
use Rattle.extract_names_derived.specs.Patches.{InLists, EachRun, EachIn}
use Rattle.extract_names_derived.specs.Sites.{AllTell, IsRewritten, IsChosen, TellsInPlace}
use Rattle.extract_names_derived.proofs.Ascends.{ascend_tree}
use Rattle.extract_names_derived.proofs.Fit.{front, derives_fit}
use Rattle.extract_names_derived.proofs.Functions.{function_stays, function_gaps}
use Rattle.extract_names_derived.proofs.Itself.{is_lt, function_tells, declares_itself}
use Rattle.extract_names_derived.proofs.Replaced.{function_replaces}
use Rattle.extract_names_derived.proofs.Stays.{stays_by}
use Rattle.extract_names_derived.proofs.Texts.{low, texts_stay, gap_stands, texts_end}
use Rattle.extract_names_derived.proofs.Walk.{AllStay}
use Rattle.extract_names_derived.proofs.Whole.{Tells}

all_stand : (P : ℕ → Trees → Type 0) (v : ℕ → ℕ) (a new : Alone) (all gs : List Gap) (ps : List Piece) → AllStay P v all gs ps → AllTell a new all gs ps → AllStand a new all gs ps
all_stand P v a new all gs [] h t = h
all_stand P v a new all gs (stays es ∷ ps) h t = (h.0, all_stand P v a new all gs ps h.1 t)
all_stand P v a new all [] (gap old news ∷ ps) h t = absurd h
all_stand P v a new all (g ∷ gs) (gap old news ∷ ps) h t = (h.0, t.0, all_stand P v a new all gs ps h.2 t.1)

-- of each run nothing need be known
abbrev Any : ℕ → Trees → Type 0
Any from ps = Unit {0}

mutual
  each_any : (t : Tree) (q : Patch) → EachRun Any t q
  each_any t keep = tt
  each_any t (put s) = tt
  each_any (node k i j ps) (inside qs) = all_any ps qs

  all_any : (ps : Trees) (qs : Patches) → EachIn Any ps qs
  all_any ps done = tt
  all_any none (part q qs) = tt
  all_any (more p ps) (part q qs) = (each_any p q, all_any ps qs)
  all_any (skip ps) (part q qs) = all_any ps qs
  all_any none (run n new qs) = tt
  all_any (more p ps) (run n new qs) = (tt, all_any (items_behind n ps) qs)
  all_any (skip ps) (run n new qs) = tt

-- What is told in the place of each run by itself is told in all.
all_tell : (a new : Alone) (all gs : List Gap) (ps : List Piece) → ((g : Gap) → Among g gs → Among g all) → AllStay (TellsInPlace a new all) (moved_by all) all gs ps → AllTell a new all gs ps
all_tell a new all gs [] f h = tt
all_tell a new all gs (stays es ∷ ps) f h = all_tell a new all gs ps f h.1
all_tell a new all [] (gap old news ∷ ps) f h = absurd h
all_tell a new all (g ∷ gs) (gap old news ∷ ps) f h = (h.1.1 g (f g (inl refl)) refl old news h.1.0 refl, all_tell a new all gs ps (λ x m. f x (inr m)) h.2)

pub gaps_tell : (tells : Tells) (ts us : List TokenKind) (a : Alone) (gaps : List Gap) (new : Alone) (h : IsRewritten ts us a gaps new) → EachRun (TellsInPlace a new gaps) a.tree h.patch
    → AllTell a new gaps gaps (pieces (moved_by gaps) (file_context 0) a.tree h.patch)
gaps_tell tells ts us a gaps new h r =
    all_tell a new gaps gaps (pieces (moved_by gaps) (file_context 0) a.tree h.patch) (λ g m. m)
    (function_stays (TellsInPlace a new gaps) ts tells gaps (moved_by gaps) a.tree h.patch h.function.function h.function.derives h.lists h.places r)

apart_by : (gs : List Gap) (i j : ℕ) → Ascending i (ranges gs) j → ((g : Gap) → Among g gs → 0 < length g.texts) → AreApart i gs
apart_by [] i j h f = tt
apart_by (g ∷ gs) i j h f = (h.0, h.1, f g (inl refl), apart_by gs g.upto j h.2 (λ x m. f x (inr m)))

-- ---- tokens in front of the gaps

front_stays : (gs : List Gap) (n : ℕ) → ((g : Gap) → Among g gs → n ≤ g.from) → moved_by gs n ≡ n
front_stays [] n f = refl
front_stays (g ∷ gs) n f = low g gs n (f g (inl refl))

above_moves : (gs : List Gap) (i j : ℕ) → ((g : Gap) → Among g gs → i < g.from) → i < j → i < moved_by gs j
above_moves [] i j f lt = lt
above_moves (g ∷ gs) i j f lt = by (nat_le j g.from)
  where
    far : i < g.from
    far = f g (inl refl)

    by : (b : Bool) → i < (if b then j else moved g.upto (g.from + length g.texts) (moved_by gs j))
    by true = lt
    by false = omega (arith, far)

pub name_kept : (gs : List Gap) (i j : ℕ) → ((g : Gap) → Among g gs → suc (suc i) < g.from) → i < j → KeepsName (moved_by gs) kind.FunctionDeclaration i j
name_kept gs i j f lt =
    let at : moved_by gs i ≡ i = front_stays gs i (λ g m. omega (arith, f g m)) in
    let next : moved_by gs (suc i) ≡ suc i = front_stays gs (suc i) (λ g m. omega (arith, f g m)) in
    let behind : i < moved_by gs j = above_moves gs i j (λ g m. omega (arith, f g m)) lt in
    (next ∙ ap suc (sym at), ap (λ n. nat_lt n (moved_by gs j)) at ∙ is_lt i (moved_by gs j) behind ∙ sym (is_lt i j lt))

-- ---- the new tree

become_kind : (v : ℕ → ℕ) (t : Tree) (q : Patch) → InLists t q → kind_of (become v t q) ≡ kind_of t
become_kind v (node k i j ps) keep l = refl
become_kind v (node k i j ps) (put s) l = absurd l
become_kind v (node k i j ps) (inside qs) l = refl

become_first : (v : ℕ → ℕ) (t : Tree) (q : Patch) → InLists t q → first (become v t q) ≡ v (first t)
become_first v (node k i j ps) keep l = refl
become_first v (node k i j ps) (put s) l = absurd l
become_first v (node k i j ps) (inside qs) l = refl

become_last : (v : ℕ → ℕ) (t : Tree) (q : Patch) → InLists t q → last (become v t q) ≡ v (last t)
become_last v (node k i j ps) keep l = refl
become_last v (node k i j ps) (put s) l = absurd l
become_last v (node k i j ps) (inside qs) l = refl

-- ---- derived functions

pub order_of : (ts : List TokenKind) (a : Alone) → IsDerivedFunction ts a → AreInOrder 0 (length a.texts) (function_events a)
order_of ts a h =
    let o : AreInOrder (first a.tree) (last a.tree) (function_events a) = events_order (file_context 0) a.tree (derives_laid ts a.tree category.Declaration h.derives) in
    subst (λ i. AreInOrder i (length a.texts) (function_events a)) h.begins (subst (λ j. AreInOrder (first a.tree) j (function_events a)) h.ends o)

pub itself_of : (ts : List TokenKind) (tells : Tells) (a : Alone) → IsDerivedFunction ts a → DeclaresItself a
itself_of ts tells a h =
    declares_itself a (first a.tree) (function_tells ts tells a.tree h.function h.derives) (ap (λ i. is_blank (own_text a (suc i))) h.begins ∙ h.named)

module _ (tells : Tells) (ts us : List TokenKind) (a : Alone) (gaps : List Gap) (new : Alone) (h : IsRewritten ts us a gaps new) where
  pub gaps_ascend : Ascending 1 (ranges gaps) (length a.texts)
  gaps_ascend =
      let asc : Ascending (front (kind_of a.tree) (first a.tree)) (places a.tree h.patch) (last a.tree) = ascend_tree a.tree h.patch (derives_laid ts a.tree category.Declaration h.function.derives)
      (derives_fit ts a.tree category.Declaration h.function.derives) h.lists in
      let x : front (kind_of a.tree) (first a.tree) ≡ 1 = ap (λ k. front k (first a.tree)) h.function.function ∙ ap suc h.function.begins in
      subst (λ j. Ascending 1 (ranges gaps) j) h.function.ends (subst (λ i. Ascending i (ranges gaps) (last a.tree)) x (subst (λ rs. Ascending (front (kind_of a.tree) (first a.tree)) rs (last a.tree)) h.places asc))

  gaps_behind : (g : Gap) → Among g gaps → 2 < g.from
  gaps_behind = subst (λ i. (g : Gap) → Among g gaps → suc (suc i) < g.from) h.function.begins (function_gaps ts gaps a.tree h.patch h.function.function h.function.derives h.lists h.places)

  old_text_stays : (t : ℕ) → Stays gaps t → own_text new (moved_by gaps t) ≡ own_text a t
  old_text_stays t s = ap text_there (ap (λ (ws : List (List ℕ)). slice_get ws (moved_by gaps t)) h.texts ∙ texts_stay a.texts gaps 1 t gaps_ascend s)

  new_text_stands : (g : Gap) → Among g gaps → (i : ℕ) → i < length g.texts → own_text new (moved_by gaps g.from + i) ≡ text_there (slice_get g.texts i)
  new_text_stands g m i lt = ap text_there (ap (λ (ws : List (List ℕ)). slice_get ws (moved_by gaps g.from + i)) h.texts ∙ gap_stands a.texts gaps 1 gaps_ascend g m i lt)

  pub new_function : IsDerivedFunction us new
  new_function =
      let zero_stays : moved_by gaps 0 ≡ 0 = front_stays gaps 0 (λ g m. omega arith) in
      let one_stays : moved_by gaps 1 ≡ 1 = front_stays gaps 1 (λ g m. omega (arith, gaps_behind g m)) in
      record {
        derives = h.derives;
        function = ap kind_of h.tree ∙ become_kind (moved_by gaps) a.tree h.patch h.lists ∙ h.function.function;
        begins = ap first h.tree ∙ become_first (moved_by gaps) a.tree h.patch h.lists ∙ ap (moved_by gaps) h.function.begins ∙ zero_stays;
        ends = ap last h.tree ∙ become_last (moved_by gaps) a.tree h.patch h.lists ∙ ap (moved_by gaps) h.function.ends ∙ texts_end a.texts gaps 1 gaps_ascend ∙ ap length (sym h.texts);
        named = ap (λ n. is_blank (own_text new n)) (sym one_stays) ∙ ap is_blank (old_text_stays 1 (stays_by gaps 1 (λ g m. inl (omega (arith, gaps_behind g m))))) ∙ h.function.named;
      }

  pub is_site : (outer : Outer) → IsChosen a outer gaps new h.patch → IsSite a outer gaps new
  is_site outer c = record {
    patch = h.patch;
    replaces = function_replaces (moved_by gaps) ts a.tree h.patch h.function.function h.function.derives name h.lists;
    places = h.places;
    tree = h.tree;
    apart = apart_by gaps 1 (length a.texts) gaps_ascend h.some;
    itself = itself_of ts tells a h.function;
    new_itself = itself_of us tells new new_function;
    stand = all_stand Any (moved_by gaps) a new gaps gaps (pieces (moved_by gaps) (file_context 0) a.tree h.patch)
        (function_stays Any ts tells gaps (moved_by gaps) a.tree h.patch h.function.function h.function.derives h.lists h.places (each_any a.tree h.patch)) c.tell;
    order = order_of ts a h.function;
    new_order = order_of us new new_function;
    texts = old_text_stays;
    new_texts = new_text_stands;
    says = c.says;
    needed = c.needed;
    once = c.once;
    reuses = c.reuses;
    used = c.used;
  }
    where
      grows : first a.tree < last a.tree
      grows = derives_grows ts a.tree category.Declaration h.function.derives

      name : KeepsName (moved_by gaps) kind.FunctionDeclaration (first a.tree) (last a.tree)
      name = name_kept gaps (first a.tree) (last a.tree) (function_gaps ts gaps a.tree h.patch h.function.function h.function.derives h.lists h.places) grows
