-- What a declaration needs at once follows from what its file tells outside of bodies.
use Rattle.std.proofs.Common.{◌≡◌, ◌∙◌, ℕ, suc, Bool, true, false, List, [], ◌∷◌, ◌++◌, map, Option, Some, None, refl, sym, ap, subst}
use Rattle.std.specs.Prelude.{if◌then◌else◌, ◌&&◌, ◌||◌, not, nat_eq}
use Rattle.go_tokens.specs.Tokens.{TokenList, kinds}
use Rattle.go_grammar.specs.Trees.{parts}
use Rattle.go_tree.specs.declared.context.Site.{Site}
use Rattle.go_tree.specs.declared.context.Site.TheVariants as site
use Rattle.go_tree.specs.declared.event.Event.{Event}
use Rattle.go_tree.specs.declared.event.Event.TheVariants as event
use Rattle.go_tree.specs.Contexts.{is_package}
use Rattle.go_tree.specs.Declarations.{Found}
use Rattle.go_tree.specs.Lookups.{Asked, asked, asked_in, asked_from}
use Rattle.go_tree.specs.Meanings.{Meaning, meanings, meaning_at}
use Rattle.go_tree.specs.Needs.{Needed, right_way, if_so, is_source, way_by, way, needed_source, needed_meaning, needs}
use Rattle.go_tree.specs.Units.{word, is_blank}
use Rattle.go_heads.specs.Functions.{AreRead}
use Rattle.go_heads.specs.Heads.{File, IsRead, head_of, heads, in_bodies, place_outside}
use Rattle.go_heads.proofs.Public.{first_same, others_same, some_not_none, StandFrom}
use Rattle.go_heads.specs.Objects.{units_of, file_in, text_at}
use Rattle.go_heads.specs.Told.{Told, declares, asks, new_name, asked_name, AskedName, told, placed, place_of, site_of, file_events, told_outside}
use Rattle.go_heads.specs.Lookups.{AtOnePlace}
use Rattle.go_heads.specs.Meanings.{KeepsMeanings}
use Rattle.go_heads_types.proofs.Sited.{SourceOut, SiteSays, Agreed, file_agreed}
use Rattle.go_heads_types.proofs.Looked.{same_test, place_test}
use Rattle.go_heads_types.proofs.Same.{SameSource, SameSources, SameNeeds, SameSeeking, declaration_of}

-- ---- specifications in bodies and outside of them

apart : (p : ℕ → Bool) (s k : ℕ) → p s ≡ true → p k ≡ false → nat_eq s k ≡ false
apart p s k x y = by (nat_eq s k) refl
  where
    by : (b : Bool) → nat_eq s k ≡ b → b ≡ false
    by false e = refl
    by true e = let one : true ≡ false = sym x ∙ ap p (same_test s k e) ∙ y in one

no_source : (p : ℕ → Bool) (s : ℕ) (o : Option ℕ) → p s ≡ true → SourceOut p o → is_source s o ≡ false
no_source p s None x y = refl
no_source p s (Some k) x y = apart p s k x y

-- what stands in a body is needed by nothing that is declared outside
way_none : (p : ℕ → Bool) (o : Option ℕ) (own : ℕ) (f : Bool) (s : Site) → SiteSays p true s → SourceOut p o → way_by o own f s ≡ None
way_none p o own f site.Elsewhere x y = refl
way_none p o own f (site.Type s) x y = ap (λ b. if_so b (Some true)) (no_source p s o x y)
way_none p o own f (site.Value s column alone) x y = ap (λ b. if_so (b && (nat_eq column own || alone)) (Some true)) (no_source p s o x y)
way_none p o own f (site.Right s r) x y = ap (λ b. if_so b (right_way f r)) (no_source p s o x y)

source_placed : (p : ℕ → Bool) (s : ℕ) (o : Option ℕ) → p s ≡ false → SourceOut p o → is_source (place_outside p s) (place_of (place_outside p) o) ≡ is_source s o
source_placed p s None x y = refl
source_placed p s (Some k) x y = place_test p s k x y

-- outside of bodies places tell as much as tokens
way_placed : (p : ℕ → Bool) (o : Option ℕ) (own : ℕ) (f : Bool) (s : Site) → SiteSays p false s → SourceOut p o
    → way_by (place_of (place_outside p) o) own f (site_of (place_outside p) s) ≡ way_by o own f s
way_placed p o own f site.Elsewhere x y = refl
way_placed p o own f (site.Type s) x y = ap (λ b. if_so b (Some true)) (source_placed p s o x y)
way_placed p o own f (site.Value s column alone) x y = ap (λ b. if_so (b && (nat_eq column own || alone)) (Some true)) (source_placed p s o x y)
way_placed p o own f (site.Right s r) x y = ap (λ b. if_so b (right_way f r)) (source_placed p s o x y)

-- ---- one file

module _ (ms : List Meaning) (n : ℕ) (l : TokenList) (x : Needed) where
  abbrev asked_way : Site → Option Bool
  asked_way s = if_so (nat_eq n x.it.file) (way x.it.it x.full s)

  abbrev ask : Bool → ℕ → Site → List Needed → List Needed
  ask b t s rest = if b then rest else needed_meaning (asked_way s) (meaning_at ms n t (word l t)) rest

  abbrev told_needs : List Told → List Needed
  told_needs [] = []
  told_needs (asks a ∷ xs) = ask (is_blank (word l a.name)) a.name a.site (told_needs xs)
  told_needs (declares d ∷ xs) = told_needs xs

  module _ (p : ℕ → Bool) (out : x.it.file ≡ n → SourceOut p x.it.it.source) where
    no_way : (s : Site) → SiteSays p true s → asked_way s ≡ None
    no_way s h = by (nat_eq n x.it.file) refl
      where
        by : (b : Bool) → nat_eq n x.it.file ≡ b → if_so b (way x.it.it x.full s) ≡ None
        by true e = way_none p x.it.it.source x.it.it.column x.full s h (out (sym (same_test n x.it.file e)))
        by false e = refl

    unasked : (b : Bool) (t : ℕ) (s : Site) (rest : List Needed) → asked_way s ≡ None → ask b t s rest ≡ rest
    unasked true t s rest e = refl
    unasked false t s rest e = ap (λ w. needed_meaning w (meaning_at ms n t (word l t)) rest) e

    one_ask : (b : Bool) (a : Asked) (rest : List Asked)
        → needs (if b then rest else a ∷ rest) x ≡ (if b then needs rest x else needed_meaning (if_so (nat_eq a.file x.it.file) (way x.it.it x.full a.it.site)) a.meaning (needs rest x))
    one_ask true a rest = refl
    one_ask false a rest = refl

    declared_aside : (b : Bool) (u : Told) (xs : List Told) → told_needs (u ∷ xs) ≡ told_needs xs → told_needs (if b then u ∷ xs else xs) ≡ told_needs xs
    declared_aside true u xs e = e
    declared_aside false u xs e = refl

    needs_told : (es : List Event) → Agreed p es → needs (asked_in ms n l es) x ≡ told_needs (told p es)
    needs_told [] h = refl
    needs_told (event.Declaration d ∷ es) h = needs_told es h.1 ∙ sym (declared_aside (is_package d.block && not (p d.name)) (declares (new_name d)) (told p es) refl)
    needs_told (event.Use u ∷ es) h =
        one_ask (is_blank (word l u.name)) (asked ms n l u) (asked_in ms n l es)
        ∙ ap (ask (is_blank (word l u.name)) u.name u.site) (needs_told es h.1)
        ∙ by (p u.name) h.0
      where
        by : (b : Bool) → SiteSays p b u.site → ask (is_blank (word l u.name)) u.name u.site (told_needs (told p es)) ≡ told_needs (if b then told p es else asks (asked_name u) ∷ told p es)
        by true s = unasked (is_blank (word l u.name)) u.name u.site (told_needs (told p es)) (no_way u.site s)
        by false s = refl
    needs_told (event.Import i ∷ es) h = needs_told es h
    needs_told (event.Member m g i ∷ es) h = needs_told es h
    needs_told (event.Bodiless i j ∷ es) h = needs_told es h
    needs_told (event.Statement i j ∷ es) h = needs_told es h
    needs_told (event.Misplaced i j ∷ es) h = needs_told es h
    needs_told (event.SecondDefault i ∷ es) h = needs_told es h

-- what is told stands outside of bodies
abbrev ToldOut : (ℕ → Bool) → List Told → Type 0
ToldOut p [] = Unit {0}
ToldOut p (asks a ∷ xs) = (p a.name ≡ false) × SiteSays p false a.site × ToldOut p xs
ToldOut p (declares d ∷ xs) = ToldOut p xs

told_out : (p : ℕ → Bool) (es : List Event) → Agreed p es → ToldOut p (told p es)
told_out p [] h = tt
told_out p (event.Declaration d ∷ es) h = by (is_package d.block && not (p d.name)) (told_out p es h.1)
  where
    by : (b : Bool) → ToldOut p (told p es) → ToldOut p (if b then declares (new_name d) ∷ told p es else told p es)
    by true g = g
    by false g = g
told_out p (event.Use u ∷ es) h = by (p u.name) refl h.0 (told_out p es h.1)
  where
    by : (b : Bool) → p u.name ≡ b → SiteSays p b u.site → ToldOut p (told p es) → ToldOut p (if b then told p es else asks (asked_name u) ∷ told p es)
    by true e s g = g
    by false e s g = (e, s, g)
told_out p (event.Import i ∷ es) h = told_out p es h
told_out p (event.Member m g i ∷ es) h = told_out p es h
told_out p (event.Bodiless i j ∷ es) h = told_out p es h
told_out p (event.Statement i j ∷ es) h = told_out p es h
told_out p (event.Misplaced i j ∷ es) h = told_out p es h
told_out p (event.SecondDefault i ∷ es) h = told_out p es h

-- ---- two files

abbrev name_told : Told → ℕ
name_told (asks a) = a.name
name_told (declares d) = d.name

abbrev site_told : Told → Site
site_told (asks a) = a.site
site_told (declares d) = site.Elsewhere

abbrev is_ask : Told → Bool
is_ask (asks a) = true
is_ask (declares d) = false

true_false : true ≡ false → ⊥
true_false e = cc

module _ (old new : List File) where
  needed_by_source : (f : Bool) (m : Option Meaning) (xs : List Needed) → needed_meaning (Some f) m xs ≡ needed_source f (declaration_of m) xs
  needed_by_source f None xs = refl
  needed_by_source f (Some m) xs = refl

  source_needed : (f : Bool) (a b : Option Found) (xs ys : List Needed) → SameSources old new a b → SameNeeds old new xs ys → SameNeeds old new (needed_source f a xs) (needed_source f b ys)
  source_needed f None None xs ys s h = h
  source_needed f None (Some e) xs ys s h = absurd s
  source_needed f (Some d) None xs ys s h = absurd s
  source_needed f (Some d) (Some e) xs ys s h = (record { it = s; full = refl }, h)

  meaning_needed : (w : Option Bool) (m l : Option Meaning) (xs ys : List Needed) → SameSources old new (declaration_of m) (declaration_of l) → SameNeeds old new xs ys
      → SameNeeds old new (needed_meaning w m xs) (needed_meaning w l ys)
  meaning_needed None m l xs ys s h = h
  meaning_needed (Some f) m l xs ys s h =
      subst (λ z. SameNeeds old new z (needed_meaning (Some f) l ys)) (sym (needed_by_source f m xs))
      (subst (SameNeeds old new (needed_source f (declaration_of m) xs)) (sym (needed_by_source f l ys)) (source_needed f (declaration_of m) (declaration_of l) xs ys s h))

  abbrev pub CallsSame : Type 0
  CallsSame = (n t u : ℕ) → AtOnePlace old new n t u → is_blank (text_at old n t) ≡ false
      → SameSources old new (declaration_of (meaning_at (meanings (units_of old)) n t (text_at old n t))) (declaration_of (meaning_at (meanings (units_of new)) n u (text_at new n u)))

  module _ (meant : KeepsMeanings old new) (calls : CallsSame) where
    abbrev ms : List Meaning
    ms = meanings (units_of old)

    abbrev ls : List Meaning
    ls = meanings (units_of new)

    module _ (n : ℕ) (x y : Needed) (s : SameSeeking old new x y) where
      abbrev p : ℕ → Bool
      p = in_bodies (parts (file_in old n).tree)

      abbrev q : ℕ → Bool
      q = in_bodies (parts (file_in new n).tree)

      sources_placed : (a b : Option ℕ) → SameSource old new n a b → SourceOut p a × SourceOut q b × (place_of (place_outside q) b ≡ place_of (place_outside p) a)
      sources_placed None None h = (tt, tt, refl)
      sources_placed None (Some t) h = absurd h
      sources_placed (Some t) None h = absurd h
      sources_placed (Some t) (Some u) h = (h.before, h.after, ap (λ z. Some z) h.place)

      here : x.it.file ≡ n → SameSource old new n x.it.it.source y.it.it.source
      here e = subst (λ i. SameSource old new i x.it.it.source y.it.it.source) e s.source

      old_out : x.it.file ≡ n → SourceOut p x.it.it.source
      old_out e = (sources_placed x.it.it.source y.it.it.source (here e)).0

      new_out : y.it.file ≡ n → SourceOut q y.it.it.source
      new_out e = (sources_placed x.it.it.source y.it.it.source (here (sym s.file ∙ e))).1

      ways_same : (a b : Site) → SiteSays p false a → SiteSays q false b → site_of (place_outside q) b ≡ site_of (place_outside p) a
          → asked_way ls n (file_in new n).tokens y b ≡ asked_way ms n (file_in old n).tokens x a
      ways_same a b g h e = ap (λ i. if_so (nat_eq n i) (way y.it.it y.full b)) s.file ∙ by (nat_eq n x.it.file) refl
        where
          by : (c : Bool) → nat_eq n x.it.file ≡ c → if_so c (way y.it.it y.full b) ≡ if_so c (way x.it.it x.full a)
          by false f = refl
          by true f =
              let both = sources_placed x.it.it.source y.it.it.source (here (sym (same_test n x.it.file f))) in
              sym (way_placed q y.it.it.source y.it.it.column y.full b h both.1)
              ∙ ap (λ o. way_by o y.it.it.column y.full (site_of (place_outside q) b)) both.2
              ∙ ap (λ i. way_by (place_of (place_outside p) x.it.it.source) i y.full (site_of (place_outside q) b)) s.column
              ∙ ap (λ c. way_by (place_of (place_outside p) x.it.it.source) x.it.it.column c (site_of (place_outside q) b)) s.full
              ∙ ap (way_by (place_of (place_outside p) x.it.it.source) x.it.it.column x.full) e
              ∙ way_placed p x.it.it.source x.it.it.column x.full a g both.0

      abbrev old_needs : List Told → List Needed
      old_needs ts = told_needs ms n (file_in old n).tokens x ts

      abbrev new_needs : List Told → List Needed
      new_needs ts = told_needs ls n (file_in new n).tokens y ts

      ask_same : (a b : AskedName) (xs ys : List Needed) → AtOnePlace old new n a.name b.name → SiteSays p false a.site → SiteSays q false b.site → site_of (place_outside q) b.site ≡ site_of (place_outside p) a.site
          → SameNeeds old new xs ys
          → SameNeeds old new (ask ms n (file_in old n).tokens x (is_blank (text_at old n a.name)) a.name a.site xs) (ask ls n (file_in new n).tokens y (is_blank (text_at new n b.name)) b.name b.site ys)
      ask_same a b xs ys at g h e rest =
          let text : text_at new n b.name ≡ text_at old n a.name = meant.text n a.name b.name at.before at.after at.place in
          subst (λ z. SameNeeds old new (ask ms n (file_in old n).tokens x (is_blank (text_at old n a.name)) a.name a.site xs) (ask ls n (file_in new n).tokens y (is_blank z) b.name b.site ys)) (sym text)
          (by (is_blank (text_at old n a.name)) refl)
        where
          by : (c : Bool) → is_blank (text_at old n a.name) ≡ c → SameNeeds old new (ask ms n (file_in old n).tokens x c a.name a.site xs) (ask ls n (file_in new n).tokens y c b.name b.site ys)
          by true f = rest
          by false f =
              subst (λ w. SameNeeds old new (needed_meaning (asked_way ms n (file_in old n).tokens x a.site) (meaning_at ms n a.name (text_at old n a.name)) xs)
              (needed_meaning w (meaning_at ls n b.name (text_at new n b.name)) ys)) (sym (ways_same a.site b.site g h e))
              (meaning_needed (asked_way ms n (file_in old n).tokens x a.site) (meaning_at ms n a.name (text_at old n a.name)) (meaning_at ls n b.name (text_at new n b.name)) xs ys
              (calls n a.name b.name at f) rest)

      abbrev at_p : Told → Told
      at_p t = placed (place_outside p) t

      abbrev at_q : Told → Told
      at_q t = placed (place_outside q) t

      pairs : (ts us : List Told) → ToldOut p ts → ToldOut q us → map at_q us ≡ map at_p ts → SameNeeds old new (old_needs ts) (new_needs us)
      pairs [] [] g h e = tt
      pairs [] (u ∷ us) g h e = absurd (some_not_none (at_q u) (map at_q us) e)
      pairs (t ∷ ts) [] g h e = absurd (some_not_none (at_p t) (map at_p ts) (sym e))
      pairs (asks a ∷ ts) (asks b ∷ us) g h e =
          let first = first_same (at_q (asks b)) (at_p (asks a)) (map at_q us) (map at_p ts) e in
          ask_same a b (old_needs ts) (new_needs us) (record { before = g.0; after = h.0; place = ap name_told first }) g.1 h.1 (ap site_told first)
          (pairs ts us g.2 h.2 (others_same (at_q (asks b)) (at_p (asks a)) (map at_q us) (map at_p ts) e))
      pairs (asks a ∷ ts) (declares d ∷ us) g h e = absurd (true_false (sym (ap is_ask (first_same (at_q (declares d)) (at_p (asks a)) (map at_q us) (map at_p ts) e))))
      pairs (declares d ∷ ts) (asks b ∷ us) g h e = absurd (true_false (ap is_ask (first_same (at_q (asks b)) (at_p (declares d)) (map at_q us) (map at_p ts) e)))
      pairs (declares c ∷ ts) (declares d ∷ us) g h e = pairs ts us g h (others_same (at_q (declares d)) (at_p (declares c)) (map at_q us) (map at_p ts) e)

      file_needs : IsRead (file_in old n) → IsRead (file_in new n) → told_outside (file_in new n) ≡ told_outside (file_in old n)
          → SameNeeds old new (needs (asked_in ms n (file_in old n).tokens (file_events (file_in old n))) x) (needs (asked_in ls n (file_in new n).tokens (file_events (file_in new n))) y)
      file_needs h k e =
          let es : List Event = file_events (file_in old n) in
          let fs : List Event = file_events (file_in new n) in
          let a : Agreed p es = file_agreed (kinds (file_in old n).tokens.tokens) (file_in old n).tree h.tree in
          let b : Agreed q fs = file_agreed (kinds (file_in new n).tokens.tokens) (file_in new n).tree k.tree in
          subst (λ z. SameNeeds old new z (needs (asked_in ls n (file_in new n).tokens fs) y)) (sym (needs_told ms n (file_in old n).tokens x p old_out es a))
          (subst (SameNeeds old new (old_needs (told p es))) (sym (needs_told ls n (file_in new n).tokens y q new_out fs b))
          (pairs (told p es) (told q fs) (told_out p es a) (told_out q fs b) e))

    -- ---- all files

    pub needs_append : (xs us ys vs : List Needed) → SameNeeds old new xs ys → SameNeeds old new us vs → SameNeeds old new (xs ++ us) (ys ++ vs)
    needs_append [] us [] vs h k = k
    needs_append [] us (y ∷ ys) vs h k = absurd h
    needs_append (x ∷ xs) us [] vs h k = absurd h
    needs_append (x ∷ xs) us (y ∷ ys) vs h k = (h.0, needs_append xs us ys vs h.1 k)

    needs_spread : (w : Option Bool) (m : Option Meaning) (xs ys : List Needed) → needed_meaning w m (xs ++ ys) ≡ needed_meaning w m xs ++ ys
    needs_spread None m xs ys = refl
    needs_spread (Some f) None xs ys = refl
    needs_spread (Some f) (Some m) xs ys = by m.source
      where
        by : (o : Option Found) → needed_source f o (xs ++ ys) ≡ needed_source f o xs ++ ys
        by None = refl
        by (Some d) = refl

    needs_both : (xs ys : List Asked) (x : Needed) → needs (xs ++ ys) x ≡ needs xs x ++ needs ys x
    needs_both [] ys x = refl
    needs_both (a ∷ xs) ys x =
        ap (needed_meaning (if_so (nat_eq a.file x.it.file) (way x.it.it x.full a.it.site)) a.meaning) (needs_both xs ys x)
        ∙ needs_spread (if_so (nat_eq a.file x.it.file) (way x.it.it x.full a.it.site)) a.meaning (needs xs x) (needs ys x)

    module _ (tell : (n : ℕ) → told_outside (file_in new n) ≡ told_outside (file_in old n)) (x y : Needed) (s : SameSeeking old new x y) where
      pub all_needs : (n : ℕ) (fs gs : List File) → StandFrom old n fs → StandFrom new n gs → AreRead fs → AreRead gs → heads fs ≡ heads gs
          → SameNeeds old new (needs (asked_from ms n (units_of fs)) x) (needs (asked_from ls n (units_of gs)) y)
      all_needs n [] [] a b h k e = tt
      all_needs n [] (g ∷ gs) a b h k e = absurd (some_not_none (head_of g) (heads gs) (sym e))
      all_needs n (f ∷ fs) [] a b h k e = absurd (some_not_none (head_of f) (heads fs) e)
      all_needs n (f ∷ fs) (g ∷ gs) a b h k e =
          let rest = all_needs (suc n) fs gs a.1 b.1 h.1 k.1 (others_same (head_of f) (head_of g) (heads fs) (heads gs) e) in
          let one = file_needs n x y s (subst IsRead (sym a.0) h.0) (subst IsRead (sym b.0) k.0) (tell n) in
          let old_one : List Needed = needs (asked_in ms n f.tokens (file_events f)) x in
          let new_one : List Needed = needs (asked_in ls n g.tokens (file_events g)) y in
          let same : SameNeeds old new old_one new_one =
          subst (λ (z : File). SameNeeds old new old_one (needs (asked_in ls n z.tokens (file_events z)) y)) b.0
          (subst (λ (z : File). SameNeeds old new (needs (asked_in ms n z.tokens (file_events z)) x) (needs (asked_in ls n (file_in new n).tokens (file_events (file_in new n))) y)) a.0 one) in
          let old_rest : List Asked = asked_from ms (suc n) (units_of fs) in
          let new_rest : List Asked = asked_from ls (suc n) (units_of gs) in
          subst (λ z. SameNeeds old new z (needs (asked_in ls n g.tokens (file_events g) ++ new_rest) y)) (sym (needs_both (asked_in ms n f.tokens (file_events f)) old_rest x))
          (subst (SameNeeds old new (old_one ++ needs old_rest x)) (sym (needs_both (asked_in ls n g.tokens (file_events g)) new_rest y))
          (needs_append old_one (needs old_rest x) new_one (needs new_rest y) same rest))
