-- Statements in frames that agree on the right sides that they reach: in both the other right sides, and what stands for other types, are
-- left out, and the numbers of those types are put behind all right sides.
use Rattle.std.proofs.Common.{◌≡◌, ◌∙◌, ℕ, zero, suc, ◌+◌, ◌<◌, ◌≤◌, Bool, true, false, List, [], ◌∷◌, length, map, Option, Some, None, refl, sym, ap, subst, cond, arith}
use Rattle.std.specs.Prelude.{◌&&◌}
use Rattle.std.specs.Option.{option_map}
use Rattle.go_grammar.specs.Trees.{Tree}
use Rattle.go_rewriting.specs.Places.{carry}
use Rattle.go_tree.specs.declared.object.Object.{Object}
use Rattle.go_tree.specs.declared.object.Object.TheVariants as object
use Rattle.go_types.specs.Trees.{TypeTree, boolean, text, integer, array, slice, structure, function, declared, TypeRow, none, more}
use Rattle.go_types.specs.Relations.{Rights}
use Rattle.go_types_relations.specs.Questions.{entry}
use Rattle.go_types_relations.specs.Renaming.{renamed, renamed_row, IsOneToOne, AreRenamed}
use Rattle.go_typed.specs.Trees as sort
use Rattle.go_exprs_rules.specs.Scopes.{Needed, Hint, Scope, element, member}
use Rattle.go_exprs_rules.specs.Sorts.{Stands}
use Rattle.go_package_alike.specs.Frames.{MaybeTokens}
use Rattle.go_package_alike.specs.Scopes.{AllTokens}
use Rattle.go_exprs_elsewhere.specs.Elsewhere.{referent_moved}
use Rattle.go_package_laws.specs.Reach.{Within, RowWithin, MaybeWithin, StandsWithin, HintWithin}
use Rattle.go_renumbering.specs.Frames.{locals_renamed, has_place, RenamedFrames, RenamedReadings}
use Rattle.go_renumbering.specs.Reached.{kept_right, kept, IsClosed}
use Rattle.go_renumbering.specs.Renumbered.{stands_renamed, part_renamed, hint_renamed}
use Rattle.go_stmts_defs.specs.Frames.{Frame, Locals, local_stands}
use Rattle.go_stmts_defs.specs.Reading.{Reading, read, reading}
use Rattle.go_stmts_elsewhere.specs.Frames.{ObjectAlong, has_room, MaybeKeeps}
use Rattle.go_stmts_elsewhere.specs.Functions.{stays}
use Rattle.go_stmts_elsewhere.specs.Marked.{AlongAt, RelatedAt, SameReadingsAt}
use Rattle.go_stmts_elsewhere.specs.Reached.{ObjectReaches, AllWithin, Reaches, AgreeFrames, ReadAlike}
use Rattle.go_stmts_elsewhere.proofs.Alone.{referent_stays, read_alone}
use Rattle.go_stmts_elsewhere.proofs.Marked.{StatementsFollow}
use Rattle.go_stmts_elsewhere.proofs.Numbered.{carried, spelling}

-- ---- tests of what is reached

module _ (r : ℕ → Bool) where
  abbrev mutual
    is_within : TypeTree → Bool
    is_within boolean = true
    is_within text = true
    is_within (integer k) = true
    is_within (array n t) = is_within t
    is_within (slice t) = is_within t
    is_within (structure ns ts) = row_within ts
    is_within (function ps rs) = row_within ps && row_within rs
    is_within (declared n) = r n

    row_within : TypeRow → Bool
    row_within none = true
    row_within (more t ts) = is_within t && row_within ts

  both_true : (a b : Bool) → a ≡ true → b ≡ true → (a && b) ≡ true
  both_true true b e d = d
  both_true false b e d = cc

  first_true : (a b : Bool) → (a && b) ≡ true → a ≡ true
  first_true true b e = refl
  first_true false b e = e

  second_true : (a b : Bool) → (a && b) ≡ true → b ≡ true
  second_true true b e = e
  second_true false b e = cc

  mutual
    within_told : (t : TypeTree) → Within r t → is_within t ≡ true
    within_told boolean w = refl
    within_told text w = refl
    within_told (integer k) w = refl
    within_told (array n t) w = within_told t w
    within_told (slice t) w = within_told t w
    within_told (structure ns ts) w = row_told ts w
    within_told (function ps rs) w = both_true (row_within ps) (row_within rs) (row_told ps w.0) (row_told rs w.1)
    within_told (declared n) w = w

    row_told : (ts : TypeRow) → RowWithin r ts → row_within ts ≡ true
    row_told none w = refl
    row_told (more t ts) w = both_true (is_within t) (row_within ts) (within_told t w.0) (row_told ts w.1)

  mutual
    told_within : (t : TypeTree) → is_within t ≡ true → Within r t
    told_within boolean e = tt
    told_within text e = tt
    told_within (integer k) e = tt
    told_within (array n t) e = told_within t e
    told_within (slice t) e = told_within t e
    told_within (structure ns ts) e = told_row ts e
    told_within (function ps rs) e = (told_row ps (first_true (row_within ps) (row_within rs) e), told_row rs (second_true (row_within ps) (row_within rs) e))
    told_within (declared n) e = e

    told_row : (ts : TypeRow) → row_within ts ≡ true → RowWithin r ts
    told_row none e = tt
    told_row (more t ts) e = (told_within t (first_true (is_within t) (row_within ts) e), told_row ts (second_true (is_within t) (row_within ts) e))

  abbrev stands_there : Stands → Bool
  stands_there (sort.IsType t) = is_within t
  stands_there (sort.Value t) = is_within t
  stands_there (sort.Constant t c) = is_within t
  stands_there (sort.Results t) = is_within t
  stands_there x = true

  stands_told : (x : Stands) → StandsWithin r x → stands_there x ≡ true
  stands_told (sort.IsType t) w = within_told t w
  stands_told (sort.Value t) w = within_told t w
  stands_told (sort.Constant t c) w = within_told t w
  stands_told (sort.Results t) w = within_told t w
  stands_told x w = refl

  told_stands : (x : Stands) → stands_there x ≡ true → StandsWithin r x
  told_stands (sort.IsType t) e = told_within t e
  told_stands (sort.Value t) e = told_within t e
  told_stands (sort.Constant t c) e = told_within t e
  told_stands (sort.Results t) e = told_within t e
  told_stands x e = tt

  -- what stands for other types stands for nothing known
  abbrev cut : Stands → Stands
  cut x = cond (stands_there x) x sort.Unknown

  cut_same : (x : Stands) → StandsWithin r x → cut x ≡ x
  cut_same x w = ap (λ b. cond b x sort.Unknown) (stands_told x w)

  cut_within : (x : Stands) → StandsWithin r (cut x)
  cut_within x = by (stands_there x) refl
    where
      by : (b : Bool) → stands_there x ≡ b → StandsWithin r (cond b x sort.Unknown)
      by true e = told_stands x e
      by false e = tt

  -- ---- right sides

  none_kept : (b : Bool) → kept_right b None ≡ None
  none_kept true = refl
  none_kept false = refl

kept_entry : (r : ℕ → Bool) (rs : Rights) (n : ℕ) → entry (kept r rs) n ≡ kept_right (r n) (entry rs n)
kept_entry r [] n = sym (none_kept r (r n))
kept_entry r (x ∷ rs) zero = refl
kept_entry r (x ∷ rs) (suc n) = kept_entry (λ k. r (suc k)) rs n

kept_place : (r : ℕ → Bool) (rs : Rights) (n : ℕ) → has_place (kept r rs) n ≡ has_place rs n
kept_place r [] n = refl
kept_place r (x ∷ rs) zero = refl
kept_place r (x ∷ rs) (suc n) = kept_place (λ k. r (suc k)) rs n

beyond : (rs : Rights) (n : ℕ) → length rs ≤ n → entry rs n ≡ None
beyond [] n h = refl
beyond (x ∷ rs) zero h = absurd (omega (arith, h))
beyond (x ∷ rs) (suc n) h = beyond rs n (omega (arith, h))

same_kept : (b : Bool) (o q : Option TypeTree) → (b ≡ true → q ≡ o) → kept_right b q ≡ kept_right b o
same_kept true o q e = e refl
same_kept false o q e = refl

kept_same : (r : ℕ → Bool) (rs qs : Rights) → length qs ≡ length rs → ((n : ℕ) → r n ≡ true → entry qs n ≡ entry rs n) → kept r qs ≡ kept r rs
kept_same r [] [] e w = refl
kept_same r [] (q ∷ qs) e w = absurd (omega (arith, e))
kept_same r (x ∷ rs) [] e w = absurd (omega (arith, e))
kept_same r (x ∷ rs) (q ∷ qs) e w =
    ap (λ z. z ∷ kept (λ n. r (suc n)) qs) (same_kept (r 0) x q (w 0))
    ∙ ap (λ zs. kept_right (r 0) x ∷ zs) (kept_same (λ n. r (suc n)) rs qs (omega (arith, e)) (λ n h. w (suc n) h))

-- ---- locals

local_mapped : (f : Stands → Stands) → f sort.Unknown ≡ sort.Unknown → (ls : Locals) (n : ℕ) → local_stands (map (λ o. option_map f o) ls) n ≡ f (local_stands ls n)
local_mapped f e [] n = sym e
local_mapped f e (None ∷ ls) zero = sym e
local_mapped f e (Some x ∷ ls) zero = refl
local_mapped f e (o ∷ ls) (suc n) = local_mapped f e ls n

room_mapped : (f : Stands → Stands) (ls : Locals) (n : ℕ) → has_room (map (λ o. option_map f o) ls) n ≡ has_room ls n
room_mapped f [] n = refl
room_mapped f (o ∷ ls) zero = refl
room_mapped f (o ∷ ls) (suc n) = room_mapped f ls n

-- ---- names of types that are reached stay, all others stand behind the right sides

module _ (r : ℕ → Bool) (bound : ℕ) (below : (n : ℕ) → r n ≡ true → n < bound) where
  abbrev put : Bool → ℕ → ℕ
  put true n = n
  put false n = n + bound

  abbrev name : ℕ → ℕ
  name n = put (r n) n

  apart : (a b : Bool) (n m : ℕ) → r n ≡ a → r m ≡ b → put a n ≡ put b m → n ≡ m
  apart true true n m e d h = h
  apart false false n m e d h = omega (arith, h)
  apart true false n m e d h = let k = below n e in absurd (omega (arith, h, k))
  apart false true n m e d h = let k = below m d in absurd (omega (arith, h, k))

  one_to_one : IsOneToOne name
  one_to_one n m h = apart (r n) (r m) n m refl refl h

  number_stays : (n : ℕ) → r n ≡ true → name n ≡ n
  number_stays n e = ap (λ b. put b n) e

  mutual
    type_stays : (t : TypeTree) → Within r t → renamed name t ≡ t
    type_stays boolean w = refl
    type_stays text w = refl
    type_stays (integer k) w = refl
    type_stays (array n t) w = ap (array n) (type_stays t w)
    type_stays (slice t) w = ap slice (type_stays t w)
    type_stays (structure ns ts) w = ap (structure ns) (row_stays ts w)
    type_stays (function ps rs) w = ap (λ qs. function qs (renamed_row name rs)) (row_stays ps w.0) ∙ ap (function ps) (row_stays rs w.1)
    type_stays (declared n) w = ap declared (number_stays n w)

    row_stays : (ts : TypeRow) → RowWithin r ts → renamed_row name ts ≡ ts
    row_stays none w = refl
    row_stays (more t ts) w = ap (λ u. more u (renamed_row name ts)) (type_stays t w.0) ∙ ap (more t) (row_stays ts w.1)

  maybe_stays : (o : Option TypeTree) → MaybeWithin r o → option_map (renamed name) o ≡ o
  maybe_stays None w = refl
  maybe_stays (Some t) w = ap Some (type_stays t w)

  stands_stay : (x : Stands) → StandsWithin r x → stands_renamed name x ≡ x
  stands_stay (sort.IsType t) w = ap sort.IsType (type_stays t w)
  stands_stay (sort.Value t) w = ap sort.Value (type_stays t w)
  stands_stay (sort.Constant t c) w = ap (λ u. sort.Constant u c) (type_stays t w)
  stands_stay (sort.Results t) w = ap sort.Results (type_stays t w)
  stands_stay x w = refl

  types_stay : (ts : List TypeTree) → AllWithin r ts → map (renamed name) ts ≡ ts
  types_stay [] w = refl
  types_stay (t ∷ ts) w = ap (λ u. u ∷ map (renamed name) ts) (type_stays t w.0) ∙ ap (λ us. t ∷ us) (types_stay ts w.1)

  hint_stays : (h : Hint) → HintWithin r h → hint_renamed name h ≡ h
  hint_stays (element t) w = ap element (type_stays t w)
  hint_stays (member t) w = ap member (type_stays t w)
  hint_stays h w = refl

  rights_renamed : (rs : Rights) → length rs ≤ bound → IsClosed r rs → AreRenamed name (kept r rs) rs
  rights_renamed rs h closed n = by (r n) refl ∙ ap (option_map (renamed name)) (sym (kept_entry r rs n))
    where
      by : (b : Bool) → r n ≡ b → entry rs (name n) ≡ option_map (renamed name) (kept_right (r n) (entry rs n))
      by true e =
          ap (λ k. entry rs k) (number_stays n e) ∙ sym (maybe_stays (entry rs n) (closed n e)) ∙ ap (λ b. option_map (renamed name) (kept_right b (entry rs n))) (sym e)
      by false e = ap (λ b. entry rs (put b n)) e ∙ beyond rs (n + bound) (omega (arith, h)) ∙ ap (λ b. option_map (renamed name) (kept_right b (entry rs n))) (sym e)

-- ---- the frames between

module _ (p l r : ℕ → Bool) (bound : ℕ) where
  abbrev cut_locals : Locals → Locals
  cut_locals ls = map (λ o. option_map (cut r) o) ls

  -- with what stands for other types left out
  abbrev whole : Frame → Frame
  whole f = record f { around = record (f.around) { sorts = λ n o. cut r (f.around.sorts n o) }; locals = cut_locals f.locals }

  -- and with no other right sides
  abbrev part : Frame → Frame
  part f = record f { around = record (f.around) { rights = kept r f.around.rights; sorts = λ n o. cut r (f.around.sorts n o) }; locals = cut_locals f.locals }

  source_stays : (o : Option Tree) → o ≡ option_map (carry stays.token) o
  source_stays None = refl
  source_stays (Some t) = ap Some (sym (carried t))

  source_keeps : (o : Option Tree) → MaybeKeeps stays o
  source_keeps None = tt
  source_keeps (Some t) = spelling (λ n. n) (λ n. n) (λ n. n) (λ n. n) t

  object_cut : (s : Scope) (o : Option Object) → ObjectReaches l r s o → ObjectAlong stays l s (record s { sorts = λ n o. cut r (s.sorts n o) }) o o
  object_cut s None w = tt
  object_cut s (Some object.Import) w = tt
  object_cut s (Some (object.Predeclared k)) w = refl
  object_cut s (Some (object.Package n)) w = (λ k. cut_same r (s.sorts k (object.Package n)) (w k), sym (referent_stays (s.referents n)))
  object_cut s (Some (object.Local f n)) w = (w, refl)

  whole_related : (f : Frame) → Reaches p l r bound f → RelatedAt p p stays l f (whole f)
  whole_related f c = record {
    marks = λ i. refl;
    rights = refl;
    iota = refl;
    needed = refl;
    limits = refl;
    texts = λ i e s. refl;
    characters = λ i e s. refl;
    objects = λ i e. object_cut f.around (f.around.objects i) (c.objects i e);
    apart = λ n k e d h. h;
    room = λ n e. room_mapped (cut r) f.locals n;
    locals = λ n e. local_mapped (cut r) refl f.locals n ∙ cut_same r (local_stands f.locals n) (c.locals n e);
    types = λ n e. refl;
    source = source_stays f.source;
    repeats = source_keeps f.source;
    old_repeats = c.repeats;
    new_repeats = c.repeats;
    tag = refl;
    results = refl;
  }

  cut_stays : (below : (n : ℕ) → r n ≡ true → n < bound) (ls : Locals) → cut_locals ls ≡ locals_renamed (name r bound below) (cut_locals ls)
  cut_stays below [] = refl
  cut_stays below (None ∷ ls) = ap (λ ks. None ∷ ks) (cut_stays below ls)
  cut_stays below (Some x ∷ ls) =
      ap (λ y. Some y ∷ cut_locals ls) (sym (stands_stay r bound below (cut r x) (cut_within r x))) ∙ ap (λ ks. Some (stands_renamed (name r bound below) (cut r x)) ∷ ks) (cut_stays below ls)

  part_renames : (f : Frame) (c : Reaches p l r bound f) → RenamedFrames (name r bound c.below) (part f) (whole f)
  part_renames f c = record {
    one_to_one = one_to_one r bound c.below;
    rights = rights_renamed r bound c.below f.around.rights c.within c.closed;
    room = λ n. ap (has_place f.around.rights) (number_stays r bound c.below (f.types n) (c.types n)) ∙ sym (kept_place r f.around.rights (f.types n));
    iota = refl;
    texts = λ i. refl;
    characters = λ i. refl;
    objects = λ i. refl;
    sorts = λ n o. sym (stands_stay r bound c.below (cut r (f.around.sorts n o)) (cut_within r (f.around.sorts n o)));
    referents = λ n. refl;
    needed = refl;
    limits = refl;
    locals = cut_stays c.below f.locals;
    types = λ n. sym (number_stays r bound c.below (f.types n) (c.types n));
    source = refl;
    tag = sym (stands_stay r bound c.below f.tag c.tag);
    results = sym (types_stay r bound c.below f.results c.results);
  }

  both_cut : (s t : Scope) (u v : Scope) → ((n : Needed) (o : Object) → u.sorts n o ≡ cut r (s.sorts n o)) → ((n : Needed) (o : Object) → v.sorts n o ≡ cut r (t.sorts n o)) → ((n : ℕ) → u.referents n ≡ s.referents n)
      → ((n : ℕ) → v.referents n ≡ t.referents n) → (o q : Option Object) → ObjectAlong stays l s t o q → ObjectAlong stays l u v o q
  both_cut s t u v a b c d None None w = tt
  both_cut s t u v a b c d (Some object.Import) (Some object.Import) w = tt
  both_cut s t u v a b c d (Some (object.Predeclared i)) (Some (object.Predeclared j)) w = w
  both_cut s t u v a b c d (Some (object.Package i)) (Some (object.Package j)) w =
      (λ k. b k (object.Package j) ∙ ap (cut r) (w.0 k) ∙ sym (a k (object.Package i)), d j ∙ w.1 ∙ ap (λ z. referent_moved stays z) (sym (c i)))
  both_cut s t u v a b c d (Some (object.Local f i)) (Some (object.Local g j)) w = w
  both_cut s t u v a b c d o q w = absurd w

  parts_related : (f g : Frame) → Reaches p l r bound f → AgreeFrames p l r f g → RelatedAt p p stays l (part f) (part g)
  parts_related f g c a = record {
    marks = λ i. refl;
    rights = kept_same r f.around.rights g.around.rights a.as_many a.rights;
    iota = a.iota;
    needed = a.needed;
    limits = a.limits;
    texts = λ i e s. a.texts i e;
    characters = λ i e s. a.characters i e;
    objects = λ i e. both_cut f.around g.around (part f).around (part g).around (λ n o. refl) (λ n o. refl) (λ n. refl) (λ n. refl) (f.around.objects i) (g.around.objects i) (a.objects i e);
    apart = λ n k e d h. h;
    room = λ n e. room_mapped (cut r) g.locals n ∙ a.room n e ∙ sym (room_mapped (cut r) f.locals n);
    locals = λ n e. local_mapped (cut r) refl g.locals n ∙ ap (cut r) (a.locals n e) ∙ sym (local_mapped (cut r) refl f.locals n);
    types = λ n e. a.types n;
    source = a.source ∙ source_stays f.source;
    repeats = source_keeps f.source;
    old_repeats = c.repeats;
    new_repeats = subst (MaybeTokens p) (sym a.source) c.repeats;
    tag = a.tag;
    results = a.results;
  }

  -- ---- the second frame reaches no more

  object_reaches : (s t : Scope) (o q : Option Object) → ObjectAlong stays l s t o q → ObjectReaches l r s o → ObjectReaches l r t q
  object_reaches s t None None w c = tt
  object_reaches s t (Some object.Import) (Some object.Import) w c = tt
  object_reaches s t (Some (object.Predeclared i)) (Some (object.Predeclared j)) w c = tt
  object_reaches s t (Some (object.Package i)) (Some (object.Package j)) w c = λ k. subst (StandsWithin r) (sym (w.0 k)) (c k)
  object_reaches s t (Some (object.Local f i)) (Some (object.Local g j)) w c = ap l w.1 ∙ c
  object_reaches s t o q w c = absurd w

  reaches_too : (f g : Frame) → Reaches p l r bound f → AgreeFrames p l r f g → Reaches p l r bound g
  reaches_too f g c a = record {
    closed = λ n e. subst (MaybeWithin r) (sym (a.rights n e)) (c.closed n e);
    below = c.below;
    within = subst (λ n. n ≤ bound) (sym a.as_many) c.within;
    objects = λ i e. object_reaches f.around g.around (f.around.objects i) (g.around.objects i) (a.objects i e) (c.objects i e);
    locals = λ n e. subst (StandsWithin r) (sym (a.locals n e)) (c.locals n e);
    types = λ n. ap r (a.types n) ∙ c.types n;
    tag = subst (StandsWithin r) (sym a.tag) c.tag;
    results = subst (AllWithin r) (sym a.results) c.results;
    repeats = subst (MaybeTokens p) (sym a.source) c.repeats;
  }

  -- ---- the readings

  along_locals : (f g : Frame) → AlongAt p p stays l f g → (n : ℕ) → l n ≡ true → local_stands g.locals n ≡ local_stands f.locals n
  along_locals f g c n e = ap (λ ls. local_stands ls n) c.new_same.locals ∙ c.along.locals n e ∙ ap (λ ls. local_stands ls n) (sym c.old_same.locals)

  through : (m : ℕ → ℕ) (a b c d e k : Reading) → SameReadingsAt p l a b → RenamedReadings m c b → SameReadingsAt p l c d → RenamedReadings m d e → SameReadingsAt p l k e → ReadAlike l a k
  through m (read xa fa a) (read xb fb b) (read xc fc c) (read xd fd d) (read xe fe e) (read xk fk k) ab cb cd de ke = (
    sym ke.0 ∙ de.0 ∙ ap (part_renamed m) cd.0 ∙ sym cb.0 ∙ ab.0,
    sym ke.1 ∙ de.1 ∙ cd.1 ∙ sym cb.1 ∙ ab.1,
    λ n h. sym (along_locals k e ke.2 n h)
        ∙ ap (λ ls. local_stands ls n) de.2.locals ∙ local_mapped (stands_renamed m) refl d.locals n ∙ ap (stands_renamed m) (along_locals c d cd.2 n h)
        ∙ sym (local_mapped (stands_renamed m) refl c.locals n) ∙ ap (λ ls. local_stands ls n) (sym cb.2.locals) ∙ along_locals a b ab.2 n h,
  )

  -- the law on statements with other numbers of declared types
  abbrev pub StatementsRenamed : Type 0
  StatementsRenamed = (m : ℕ → ℕ) (f g : Frame) (h : Hint) (x : Tree) → RenamedFrames m f g → RenamedReadings m (reading f h x) (reading g (hint_renamed m h) x)

  pub read_by_reach : StatementsFollow → StatementsRenamed → (f g : Frame) (h : Hint) (x : Tree) → Reaches p l r bound f → AgreeFrames p l r f g → HintWithin r h → AllTokens p x → ReadAlike l (reading f h x) (reading g h x)
  read_by_reach same renames f g h x c a w t =
      let m = name r bound c.below in
      let b = reaches_too f g c a in
      through m (reading f h x) (reading (whole f) h x) (reading (part f) h x) (reading (part g) h x) (reading (whole g) h x) (reading g h x)
      (read_alone same p l f (whole f) (whole_related f c) h x t)
      (subst (λ k. RenamedReadings m (reading (part f) h x) (reading (whole f) k x)) (hint_stays r bound c.below h w) (renames m (part f) (whole f) h x (part_renames f c)))
      (read_alone same p l (part f) (part g) (parts_related f g c a) h x t)
      (subst (λ k. RenamedReadings m (reading (part g) h x) (reading (whole g) k x)) (hint_stays r bound c.below h w) (renames m (part g) (whole g) h x (part_renames g b)))
      (read_alone same p l g (whole g) (whole_related g b) h x t)
