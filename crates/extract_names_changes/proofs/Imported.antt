-- An import that a function names is used; it stays named in what is left of a function, and in a copy.
use Rattle.std.proofs.Common.{◌≡◌, ◌∙◌, ℕ, ◌+◌, ◌<◌, ◌≤◌, inl, inr, ◌⊎◌, Bool, true, false, List, [], ◌∷◌, ◌++◌, map, length, Option, Some, None, refl, sym, ap, subst, arith}
use Rattle.std.specs.Option.{option_map}
use Rattle.std.specs.Prelude.{if◌then◌else◌, ◌||◌, nat_eq, nat_le}
use Rattle.std.proofs.lemmas.Bool.Decides.{nat_tests}
use Rattle.go_grammar.specs.Trees.{Tree}
use Rattle.go_rewriting.specs.Places.{Patch, become}
use Rattle.go_rewriting.specs.Replacing.{moved}
use Rattle.go_tree.specs.declared.context.Context.{Context}
use Rattle.go_tree.specs.declared.event.Event.{Event}
use Rattle.go_tree.specs.declared.event.Event.TheVariants as event
use Rattle.go_tree.specs.declared.event.Use.{Use}
use Rattle.go_tree.specs.declared.object.Object.{Object}
use Rattle.go_tree.specs.declared.object.Object.TheVariants as object
use Rattle.go_tree.specs.Contexts.{file_context}
use Rattle.go_tree.specs.Events.{events}
use Rattle.go_tree.specs.Lookups.{is_import, object_asked, uses_import}
use Rattle.go_tree.specs.Meanings.{Meaning}
use Rattle.go_tree.specs.Objects.{is_declared_at, object_by}
use Rattle.go_tree.specs.Units.{is_blank}
use Rattle.go_scopes_events.specs.Scopes.{otherwise}
use Rattle.go_heads.specs.Bodies.{function_events}
use Rattle.go_heads.specs.Functions.{Alone}
use Rattle.go_heads.specs.Names.{own_text}
use Rattle.go_scopes_bodies.specs.Carried.{carried_event, carried_use}
use Rattle.go_scopes_bodies.specs.Faults.{asked_among, outer_meaning, own_ask, own_asked, own_faults}
use Rattle.go_scopes_bodies.specs.Meant.{Meant, own, outside, Outer, or_outside, own_declared, own_local, own_meanings, own_meant, own_object, told_object}
use Rattle.extract_names.specs.Copies.{AllCopied, Copy, HoleGoes, IsCopy, IsKept, Replaced, StandsBehind, StandsInFront, StaysOutside, copied_event, copied_number, told_copied}
use Rattle.extract_names.specs.Gaps.{Among, Gap, IsInRun, Stays, moved_by}
use Rattle.extract_names.specs.Pieces.{Piece, ReplacesRuns, TellsPieces, gap, pieces, stays, told_before, told_behind}
use Rattle.extract_names.specs.Sites.{AllStand, EachEvent, EventGoes, IsSite, new_number, renumbered}
use Rattle.extract_names_changes.proofs.Sound.{CopiesAreFaultless, SitesAreFaultless}

-- ---- a name that means an import

declared_elsewhere : (o : Option Meant) (x : ℕ) (ms : List Meaning) → own_declared o x ms ≡ Some (outside object.Import) → o ≡ Some (outside object.Import)
declared_elsewhere o x [] e = e
declared_elsewhere o x (m ∷ ms) e = by (is_declared_at 0 x m.source) e (declared_elsewhere o x ms)
  where
    by : (b : Bool) → (if b then Some (own m.object) else own_declared o x ms) ≡ Some (outside object.Import) → (own_declared o x ms ≡ Some (outside object.Import) → o ≡ Some (outside object.Import)) → o ≡ Some (outside object.Import)
    by true q go = cc
    by false q go = go q

told_elsewhere : (o d : Option Meant) (x : ℕ) (es : List Event) → (d ≡ Some (outside object.Import) → o ≡ Some (outside object.Import)) → told_object o d x es ≡ Some (outside object.Import) → o ≡ Some (outside object.Import)
told_elsewhere o d x [] h e = cc
told_elsewhere o d x (event.Use u ∷ es) h e = by (nat_eq u.name x) e (told_elsewhere o d x es h)
  where
    by : (b : Bool) → (if b then o else told_object o d x es) ≡ Some (outside object.Import) → (told_object o d x es ≡ Some (outside object.Import) → o ≡ Some (outside object.Import)) → o ≡ Some (outside object.Import)
    by true q go = q
    by false q go = go q
told_elsewhere o d x (event.Declaration y ∷ es) h e = by (nat_eq y.name x) e (told_elsewhere o d x es h)
  where
    by : (b : Bool) → (if b then d else told_object o d x es) ≡ Some (outside object.Import) → (told_object o d x es ≡ Some (outside object.Import) → o ≡ Some (outside object.Import)) → o ≡ Some (outside object.Import)
    by true q go = h q
    by false q go = go q
told_elsewhere o d x (event.Import i ∷ es) h e = told_elsewhere o d x es h e
told_elsewhere o d x (event.Member m g i ∷ es) h e = told_elsewhere o d x es h e
told_elsewhere o d x (event.Bodiless i j ∷ es) h e = told_elsewhere o d x es h e
told_elsewhere o d x (event.Statement i j ∷ es) h e = told_elsewhere o d x es h e
told_elsewhere o d x (event.Misplaced i j ∷ es) h e = told_elsewhere o d x es h e
told_elsewhere o d x (event.SecondDefault i ∷ es) h e = told_elsewhere o d x es h e

-- It isn't blank, no local has the name, and outside of functions it means the import.
record MeansImport (blank : Bool) (m : Option Meaning) (o : Option Object) : Type 0 where
  named : blank ≡ false
  nowhere : m ≡ None
  there : o ≡ Some object.Import

means_import : (blank : Bool) (m : Option Meaning) (o : Option Object) → (if blank then None else or_outside m o) ≡ Some (outside object.Import) → MeansImport blank m o
means_import true m o e = cc
means_import false (Some m) o e = cc
means_import false None None e = cc
means_import false None (Some o) e = record { named = refl; nowhere = refl; there = cc }

module _ (a : Alone) (outer : Outer) where
  one_import : (u : Use) → own_object a outer u.name ≡ Some (outside object.Import) → MeansImport (is_blank (own_text a u.name)) (own_local a u.name (own_text a u.name)) (outer (own_text a u.name))
  one_import u e =
      let w : List ℕ = own_text a u.name in
      let o : Option Meant = own_meant a outer u.name w in
      means_import (is_blank w) (own_local a u.name w) (outer w)
      (told_elsewhere o (own_declared o u.name (own_meanings a)) u.name (function_events a) (declared_elsewhere o u.name (own_meanings a)) e)

  ask_imports : (u : Use) → own_object a outer u.name ≡ Some (outside object.Import) → is_import (object_asked (own_ask a outer u)) ≡ true
  ask_imports u e =
      let w : List ℕ = own_text a u.name in
      let it = one_import u e in
      ap (λ m. is_import (object_by w (otherwise m (outer_meaning w (outer w))))) it.nowhere ∙ ap (λ o. is_import (object_by w (outer_meaning w o))) it.there

  either_true : (b c : Bool) → c ≡ true → (b || c) ≡ true
  either_true true c e = refl
  either_true false c e = e

  pub import_used : (u : Use) → own_object a outer u.name ≡ Some (outside object.Import) → (es : List Event) → Among (event.Use u) es → uses_import 0 (asked_among a outer es) ≡ true
  import_used u e [] h = absurd h
  import_used u e (event.Use v ∷ es) (inl q) = let same : u ≡ v = cc in subst (λ x. uses_import 0 (asked_among a outer (event.Use x ∷ es)) ≡ true) same here
    where
      here : uses_import 0 (asked_among a outer (event.Use u ∷ es)) ≡ true
      here =
          ap (λ b. uses_import 0 (if b then asked_among a outer es else own_ask a outer u ∷ asked_among a outer es)) (one_import u e).named
          ∙ ap (λ b. b || uses_import 0 (asked_among a outer es)) (ask_imports u e)
  import_used u e (event.Use v ∷ es) (inr h) = by (is_blank (own_text a v.name)) (import_used u e es h)
    where
      by : (b : Bool) → uses_import 0 (asked_among a outer es) ≡ true → uses_import 0 (if b then asked_among a outer es else own_ask a outer v ∷ asked_among a outer es) ≡ true
      by true q = q
      by false q = either_true (is_import (object_asked (own_ask a outer v))) (uses_import 0 (asked_among a outer es)) q
  import_used u e (event.Declaration d ∷ es) (inl q) = cc
  import_used u e (event.Declaration d ∷ es) (inr h) = import_used u e es h
  import_used u e (event.Import i ∷ es) (inl q) = cc
  import_used u e (event.Import i ∷ es) (inr h) = import_used u e es h
  import_used u e (event.Member m g i ∷ es) (inl q) = cc
  import_used u e (event.Member m g i ∷ es) (inr h) = import_used u e es h
  import_used u e (event.Bodiless i j ∷ es) (inl q) = cc
  import_used u e (event.Bodiless i j ∷ es) (inr h) = import_used u e es h
  import_used u e (event.Statement i j ∷ es) (inl q) = cc
  import_used u e (event.Statement i j ∷ es) (inr h) = import_used u e es h
  import_used u e (event.Misplaced i j ∷ es) (inl q) = cc
  import_used u e (event.Misplaced i j ∷ es) (inr h) = import_used u e es h
  import_used u e (event.SecondDefault i ∷ es) (inl q) = cc
  import_used u e (event.SecondDefault i ∷ es) (inr h) = import_used u e es h

-- ---- lists

among_left : {A : Type 0} (x : A) (xs ys : List A) → Among x xs → Among x (xs ++ ys)
among_left x [] ys h = absurd h
among_left x (y ∷ xs) ys (inl e) = inl e
among_left x (y ∷ xs) ys (inr h) = inr (among_left x xs ys h)

among_right : {A : Type 0} (x : A) (xs ys : List A) → Among x ys → Among x (xs ++ ys)
among_right x [] ys h = h
among_right x (y ∷ xs) ys h = inr (among_right x xs ys h)

among_either : {A : Type 0} (x : A) (xs ys : List A) → Among x (xs ++ ys) → Among x xs ⊎ Among x ys
among_either x [] ys h = inr h
among_either x (y ∷ xs) ys (inl e) = inl (inl e)
among_either x (y ∷ xs) ys (inr h) = by (among_either x xs ys h)
  where
    by : Among x xs ⊎ Among x ys → Among x (y ∷ xs) ⊎ Among x ys
    by (inl g) = inl (inr g)
    by (inr g) = inr g

among_map : {A B : Type 0} (f : A → B) (x : A) (xs : List A) → Among x xs → Among (f x) (map f xs)
among_map f x [] h = absurd h
among_map f x (y ∷ xs) (inl e) = inl (ap f e)
among_map f x (y ∷ xs) (inr h) = inr (among_map f x xs h)

each_among : (Q : Event → Type 0) (x : Event) (es : List Event) → EachEvent Q es → Among x es → Q x
each_among Q x [] g h = absurd h
each_among Q x (e ∷ es) g (inl q) = subst Q (sym q) g.0
each_among Q x (e ∷ es) g (inr h) = each_among Q x es g.1 h

-- ---- runs replaced

not_there : (g : Gap) (t : ℕ) → (t < g.from) ⊎ (g.upto ≤ t) → IsInRun g t → ⊥
not_there g t (inl lt) h = omega (arith, lt, h.0)
not_there g t (inr le) h = omega (arith, le, h.1)

stays_told : (a new : Alone) (all gs : List Gap) (v : ℕ → ℕ) (ps : List Piece) (u : Use) → AllStand a new all gs ps → Stays gs u.name → Among (event.Use u) (told_before ps) → Among (event.Use (carried_use v u)) (told_behind v ps)
stays_told a new all gs v [] u s t h = absurd h
stays_told a new all gs v (stays es ∷ ps) u s t h = by (among_either (event.Use u) es (told_before ps) h) (stays_told a new all gs v ps u s.1 t)
  where
    by : Among (event.Use u) es ⊎ Among (event.Use u) (told_before ps) → (Among (event.Use u) (told_before ps) → Among (event.Use (carried_use v u)) (told_behind v ps)) → Among (event.Use (carried_use v u)) (map (carried_event v) es ++ told_behind v ps)
    by (inl x) go = among_left (event.Use (carried_use v u)) (map (carried_event v) es) (told_behind v ps) (among_map (carried_event v) (event.Use u) es x)
    by (inr x) go = among_right (event.Use (carried_use v u)) (map (carried_event v) es) (told_behind v ps) (go x)
stays_told a new all [] v (gap old news ∷ ps) u s t h = absurd s
stays_told a new all (g ∷ gs) v (gap old news ∷ ps) u s t h = by (among_either (event.Use u) old (told_before ps) h) (stays_told a new all gs v ps u s.2 t.1)
  where
    by : Among (event.Use u) old ⊎ Among (event.Use u) (told_before ps) → (Among (event.Use u) (told_before ps) → Among (event.Use (carried_use v u)) (told_behind v ps)) → Among (event.Use (carried_use v u)) (news ++ told_behind v ps)
    by (inl x) go = absurd (not_there g u.name t.0 (each_among (EventGoes g s.0.block s.0.end) (event.Use u) old s.0.each x))
    by (inr x) go = among_right (event.Use (carried_use v u)) news (told_behind v ps) (go x)

moved_zero : (gs : List Gap) → moved_by gs 0 ≡ 0
moved_zero [] = refl
moved_zero (g ∷ gs) = ap (λ b. if b then 0 else moved g.upto (g.from + length g.texts) (moved_by gs 0)) (let e : nat_le 0 g.from ≡ true = grind (arith, nat_tests) in e)

abbrev pub RunsTell : Type 0
RunsTell = (v : ℕ → ℕ) (c : Context) (t : Tree) (q : Patch) → ReplacesRuns v t q → TellsPieces v c t q (become v t q)

pub site_names : RunsTell → SitesAreFaultless → (a new : Alone) (outer : Outer) (gaps : List Gap) → IsSite a outer gaps new → own_faults a outer ≡ [] → (u : Use) → Among (event.Use u) (function_events a) → Stays gaps u.name
    → own_object a outer u.name ≡ Some (outside object.Import) → uses_import 0 (own_asked new outer) ≡ true
site_names tell sites a new outer gaps h none u there stay e =
    let v : ℕ → ℕ = moved_by gaps in
    let ps : List Piece = pieces v (file_context 0) a.tree h.patch in
    let told : TellsPieces v (file_context 0) a.tree h.patch (become v a.tree h.patch) = tell v (file_context 0) a.tree h.patch h.replaces in
    let behind : function_events new ≡ told_behind v ps = ap (events (file_context 0)) h.tree ∙ ap (λ n. events (file_context n) (become v a.tree h.patch)) (sym (moved_zero gaps)) ∙ told.behind in
    let it : Among (event.Use (carried_use v u)) (told_behind v ps) = stays_told a new gaps gaps v ps u h.stand stay (subst (Among (event.Use u)) told.before there) in
    let kept : own_object new outer (v u.name) ≡ Some (outside object.Import) =
    (sites a new outer gaps h none).kept u.name stay ∙ ap (option_map (renumbered (new_number a gaps new))) e in
    import_used new outer (carried_use v u) kept (function_events new) (subst (Among (event.Use (carried_use v u))) (sym behind) it)

-- ---- a copy

not_in_hole : (r : Replaced) (t : ℕ) → (t < r.from) ⊎ (r.upto ≤ t) → (r.from ≤ t) × (t < r.upto) → ⊥
not_in_hole r t (inl lt) h = omega (arith, lt, h.0)
not_in_hole r t (inr le) h = omega (arith, le, h.1)

copied_told : (c : Copy) (hs : List Replaced) (ps : List Piece) (u : Use) → AllCopied c hs ps → StaysOutside hs u.name → Among (event.Use u) (told_before ps) → Among (event.Use (carried_use c.place u)) (told_copied c ps)
copied_told c hs [] u s t h = absurd h
copied_told c hs (stays es ∷ ps) u s t h = by (among_either (event.Use u) es (told_before ps) h) (copied_told c hs ps u s.1 t)
  where
    by : Among (event.Use u) es ⊎ Among (event.Use u) (told_before ps) → (Among (event.Use u) (told_before ps) → Among (event.Use (carried_use c.place u)) (told_copied c ps)) → Among (event.Use (carried_use c.place u)) (map (copied_event c) es ++ told_copied c ps)
    by (inl x) go = among_left (event.Use (carried_use c.place u)) (map (copied_event c) es) (told_copied c ps) (among_map (copied_event c) (event.Use u) es x)
    by (inr x) go = among_right (event.Use (carried_use c.place u)) (map (copied_event c) es) (told_copied c ps) (go x)
copied_told c [] (gap old news ∷ ps) u s t h = absurd s
copied_told c (r ∷ hs) (gap old news ∷ ps) u s t h = by (among_either (event.Use u) old (told_before ps) h) (copied_told c hs ps u s.2 t.1)
  where
    by : Among (event.Use u) old ⊎ Among (event.Use u) (told_before ps) → (Among (event.Use u) (told_before ps) → Among (event.Use (carried_use c.place u)) (told_copied c ps)) → Among (event.Use (carried_use c.place u)) (news ++ told_copied c ps)
    by (inl x) go = absurd (not_in_hole r u.name t.0 (each_among (HoleGoes r) (event.Use u) old s.0 x))
    by (inr x) go = among_right (event.Use (carried_use c.place u)) news (told_copied c ps) (go x)

pub copy_names : CopiesAreFaultless → (a new : Alone) (outer : Outer) (c : Copy) → IsCopy a outer c new → own_faults a outer ≡ [] → (u : Use) → Among (event.Use u) (function_events a) → IsKept c u.name
    → own_object a outer u.name ≡ Some (outside object.Import) → uses_import 0 (own_asked new outer) ≡ true
copy_names copies a new outer c h none u there kept e =
    let run : List Event = told_before h.pieces in
    let carried : Use = carried_use c.place u in
    let object_there : own_object new outer (c.place u.name) ≡ Some (outside object.Import) =
    (copies a new outer c h none).kept u.name kept ∙ ap (option_map (renumbered (copied_number a c new))) e in
    import_used new outer carried object_there (function_events new)
    (subst (Among (event.Use carried)) (sym h.new_told)
    (among_right (event.Use carried) h.head (told_copied c h.pieces ++ h.tail)
    (among_left (event.Use carried) (told_copied c h.pieces) h.tail
    (copied_told c c.holes h.pieces u h.copied kept.2
    (first (among_either (event.Use u) h.before (run ++ h.behind) (subst (Among (event.Use u)) h.told there)))))))
  where
    second : Among (event.Use u) (told_before h.pieces) ⊎ Among (event.Use u) h.behind → Among (event.Use u) (told_before h.pieces)
    second (inl x) = x
    second (inr x) = let y : c.upto ≤ u.name = each_among (StandsBehind c) (event.Use u) h.behind h.from_behind x in absurd (omega (arith, y, kept.1))

    first : Among (event.Use u) h.before ⊎ Among (event.Use u) (told_before h.pieces ++ h.behind) → Among (event.Use u) (told_before h.pieces)
    first (inl x) = let y : u.name < c.from = each_among (StandsInFront c) (event.Use u) h.before h.in_front x in absurd (omega (arith, y, kept.0))
    first (inr x) = second (among_either (event.Use u) (told_before h.pieces) h.behind x)
