-- What the declarations of the package need at once is told by the heads of its files.
use Rattle.std.proofs.Common.{◌≡◌, ◌∙◌, ℕ, suc, ◌<◌, inr, Bool, true, false, List, [], ◌∷◌, ◌++◌, map, length, Option, Some, None, refl, sym, ap, subst, arith}
use Rattle.std.specs.Prelude.{if◌then◌else◌, ◌&&◌, ◌||◌, not, nat_eq, option_map}
use Rattle.go_tokens.specs.Tokens.{TokenList, kinds}
use Rattle.go_grammar.specs.declared.kind.Category.TheVariants as category
use Rattle.go_grammar.specs.Trees.{first, last}
use Rattle.go_tree.specs.declared.context.Block.TheVariants as block
use Rattle.go_tree.specs.declared.context.Manner.TheVariants as manner
use Rattle.go_tree.specs.declared.context.Role.TheVariants as role
use Rattle.go_tree.specs.declared.context.Site.{Site}
use Rattle.go_tree.specs.declared.context.Site.TheVariants as site
use Rattle.go_tree.specs.declared.event.Declaration.{Declaration}
use Rattle.go_tree.specs.declared.event.Event.{Event}
use Rattle.go_tree.specs.declared.event.Event.TheVariants as event
use Rattle.go_tree.specs.declared.event.Use.{Use}
use Rattle.go_tree.specs.declared.object.Extent.TheVariants as extent
use Rattle.go_tree.specs.declared.object.Object.TheVariants as object
use Rattle.go_tree.specs.Contexts.{is_package, file_context}
use Rattle.go_tree.specs.Declarations.{Found, found_in, found_from, may_be_reused, is_reused, is_new, new_among}
use Rattle.go_tree.specs.Lookups.{Asked, asked, asked_in, asked_from}
use Rattle.go_tree.specs.Meanings.{Meaning, meaning_at}
use Rattle.go_tree.specs.Needs.{Needed, right_way, if_so, is_source, way_by, way, needed_source, needed_meaning, needs}
use Rattle.go_tree.specs.Units.{word, is_blank, bytes_at}
use Rattle.go_scopes_cycles.specs.Needs.{source_of}
use Rattle.go_scopes_events.specs.Orders.{EachDeclared}
use Rattle.go_scopes_events.proofs.Public.{derives_laid, events_order}
use Rattle.go_heads.specs.Functions.{AreRead}
use Rattle.go_heads.specs.Heads.{File, IsRead, head_of, place_outside}
use Rattle.go_heads.specs.Names.{no_place}
use Rattle.go_heads.specs.Objects.{units_of, file_in}
use Rattle.go_heads.specs.Told.{Told, declares, asks, NewName, AskedName, new_name, asked_name, told, placed, place_of, site_of, file_events, told_outside}
use Rattle.go_heads.proofs.Public.{Every, IsHeaded, NamesIn, StandFrom, every_append, file_headed, new_append, ordered_names}
use Rattle.go_scopes_bodies.specs.Faults.{shared}
use Rattle.go_scopes_changes.proofs.HeadPlaces.{same_test, place_test, map_append, bodies, place_at, at_head, need_at_head, IsOut, AreOut, NeedsSo}
use Rattle.go_scopes_changes.proofs.Pairs.{text_in_head, text_at_place}
use Rattle.go_scopes_changes.proofs.Places.{token_at_place}
use Rattle.go_scopes_changes.proofs.Sited.{SourceOut, SiteSays, Agreed, file_agreed}

-- ---- specifications in bodies and outside of them

apart : (p : ℕ → Bool) (s k : ℕ) → p s ≡ true → p k ≡ false → nat_eq s k ≡ false
apart p s k x y = by (nat_eq s k) refl
  where
    by : (b : Bool) → nat_eq s k ≡ b → b ≡ false
    by false e = refl
    by true e = let one : true ≡ false = sym x ∙ ap p (same_test s k e) ∙ y in one

no_source : (p : ℕ → Bool) (s : ℕ) (o : Option ℕ) → p s ≡ true → SourceOut p o → is_source s o ≡ false
no_source p s None x y = refl
no_source p s (Some k) x y = apart p s k x y

-- what stands in a body is needed by nothing that is declared outside
way_none : (p : ℕ → Bool) (o : Option ℕ) (own : ℕ) (f : Bool) (s : Site) → SiteSays p true s → SourceOut p o → way_by o own f s ≡ None
way_none p o own f site.Elsewhere x y = refl
way_none p o own f (site.Type s) x y = ap (λ b. if_so b (Some true)) (no_source p s o x y)
way_none p o own f (site.Value s column alone) x y = ap (λ b. if_so (b && (nat_eq column own || alone)) (Some true)) (no_source p s o x y)
way_none p o own f (site.Right s r) x y = ap (λ b. if_so b (right_way f r)) (no_source p s o x y)

source_placed : (p : ℕ → Bool) (s : ℕ) (o : Option ℕ) → p s ≡ false → SourceOut p o → is_source (place_outside p s) (place_of (place_outside p) o) ≡ is_source s o
source_placed p s None x y = refl
source_placed p s (Some k) x y = place_test p s k x y

-- outside of bodies places tell as much as tokens
way_placed : (p : ℕ → Bool) (o : Option ℕ) (own : ℕ) (f : Bool) (s : Site) → SiteSays p false s → SourceOut p o
    → way_by (place_of (place_outside p) o) own f (site_of (place_outside p) s) ≡ way_by o own f s
way_placed p o own f site.Elsewhere x y = refl
way_placed p o own f (site.Type s) x y = ap (λ b. if_so b (Some true)) (source_placed p s o x y)
way_placed p o own f (site.Value s column alone) x y = ap (λ b. if_so (b && (nat_eq column own || alone)) (Some true)) (source_placed p s o x y)
way_placed p o own f (site.Right s r) x y = ap (λ b. if_so b (right_way f r)) (source_placed p s o x y)

-- ---- what a name adds

-- what a name adds, which calls for this declaration and is needed in this way
abbrev adds : Option Bool → Option Found → List Needed → List Needed
adds None o ns = ns
adds (Some f) o ns = needed_source f o ns

adds_meaning : (w : Option Bool) (m : Option Meaning) (ns : List Needed) → needed_meaning w m ns ≡ adds w (source_of m) ns
adds_meaning None m ns = refl
adds_meaning (Some f) None ns = refl
adds_meaning (Some f) (Some m) ns = refl

-- what some names need holds of a list of names and of another one
needs_both : (xs ys : List Asked) (x : Needed) → needs (xs ++ ys) x ≡ needs xs x ++ needs ys x
needs_both [] ys x = refl
needs_both (a ∷ xs) ys x =
    let w : Option Bool = if_so (nat_eq a.file x.it.file) (way x.it.it x.full a.it.site) in
    ap (needed_meaning w a.meaning) (needs_both xs ys x) ∙ by w a.meaning
  where
    by : (w : Option Bool) (m : Option Meaning) → needed_meaning w m (needs xs x ++ needs ys x) ≡ needed_meaning w m (needs xs x) ++ needs ys x
    by None m = refl
    by (Some f) None = refl
    by (Some f) (Some m) = source m.source
      where
        source : (s : Option Found) → needed_source f s (needs xs x ++ needs ys x) ≡ needed_source f s (needs xs x) ++ needs ys x
        source None = refl
        source (Some d) = refl

-- ---- names by the heads

-- what a name means that calls for this declaration
abbrev pub calls : Option Found → Option Meaning
calls None = None
calls (Some d) = Some (record { name = []; extent = extent.Everywhere; object = object.Import; source = Some d })

pub source_calls : (o : Option Found) → source_of (calls o) ≡ o
source_calls None = refl
source_calls (Some d) = refl

abbrev pub head_ask : ℕ → (ℕ → List ℕ) → (List ℕ → Option Found) → AskedName → Asked
head_ask n w call a = record {
  file = n;
  name = w a.name;
  place = no_place;
  whole = no_place;
  selected = [];
  meaning = calls (call (w a.name));
  it = record { name = a.name; role = role.Operand; site = a.site; constant = a.constant; initial = a.initial };
}

-- the names that a file looks up outside of bodies, at the places of its head
abbrev pub head_asks : ℕ → (ℕ → List ℕ) → (List ℕ → Option Found) → List Told → List Asked
head_asks n w call [] = []
head_asks n w call (asks a ∷ xs) = if is_blank (w a.name) then head_asks n w call xs else head_ask n w call a ∷ head_asks n w call xs
head_asks n w call (declares x ∷ xs) = head_asks n w call xs

abbrev pub head_found : ℕ → (ℕ → List ℕ) → NewName → Found
head_found n w x = record {
  file = n;
  name = w x.name;
  place = no_place;
  it = record { name = x.name; entity = x.entity; manner = x.manner; block = block.Package; scope = record { from = 0; to = 0 }; statement = 0; source = x.source; column = x.column };
}

-- the names that it declares there
abbrev pub head_declared : ℕ → (ℕ → List ℕ) → List Told → List Found
head_declared n w [] = []
head_declared n w (declares x ∷ xs) = if is_blank (w x.name) then head_declared n w xs else head_found n w x ∷ head_declared n w xs
head_declared n w (asks a ∷ xs) = head_declared n w xs

abbrev pub head_asked : (ℕ → List ℕ → Option Found) → ℕ → List File → List Asked
head_asked call n [] = []
head_asked call n (f ∷ fs) = head_asks n (text_in_head (head_of f)) (call n) (told_outside f) ++ head_asked call (suc n) fs

abbrev pub heads_declared : ℕ → List File → List Found
heads_declared n [] = []
heads_declared n (f ∷ fs) = head_declared n (text_in_head (head_of f)) (told_outside f) ++ heads_declared (suc n) fs

-- ---- a file

module _ (fs : List File) where
  abbrev pub HasOut : Option Found → Type 0
  HasOut None = Unit {0}
  HasOut (Some d) = IsOut fs d

  -- A name calls for this declaration at the places of the heads, and that stands outside of bodies.
  pub record CallsSo (call : Option Found) (o : Option Found) : Type 0 where
    pub same : option_map (at_head fs) o ≡ call
    pub out : HasOut o

  adds_at_head : (w : Option Bool) (o : Option Found) (ns : List Needed) → adds w (option_map (at_head fs) o) (map (need_at_head fs) ns) ≡ map (need_at_head fs) (adds w o ns)
  adds_at_head None o ns = refl
  adds_at_head (Some f) None ns = refl
  adds_at_head (Some f) (Some d) ns = refl

  adds_out : (w : Option Bool) (o : Option Found) (ns : List Needed) → HasOut o → AreOut fs ns → AreOut fs (adds w o ns)
  adds_out None o ns h k = k
  adds_out (Some f) None ns h k = k
  adds_out (Some f) (Some d) ns h k = (h, k)

  -- What is declared is declared at the places of the heads, and stands outside of bodies.
  pub record DeclaresSo (ds others : List Found) : Type 0 where
    pub same : map (at_head fs) ds ≡ others
    pub out : Every (IsOut fs) ds

  module _ (n : ℕ) (read : IsRead (file_in fs n)) where
    abbrev f : File
    f = file_in fs n

    abbrev l : TokenList
    l = f.tokens

    abbrev p : ℕ → Bool
    p = bodies fs n

    abbrev m : ℕ → ℕ
    m = place_at fs n

    abbrev z : ℕ
    z = last f.tree

    abbrev w : ℕ → List ℕ
    w = text_in_head (head_of f)

    pub text : (t : ℕ) → t < z → p t ≡ false → w (m t) ≡ word l t
    text t lt e = sym (text_at_place f (m t)) ∙ ap (word l) (token_at_place p (length (kinds l.tokens)) t (let ends : z ≡ length (kinds l.tokens) = read.tree.ends in omega (arith, lt, ends)) (inr e))

    pub names_in : NamesIn 0 z (file_events f)
    names_in = ordered_names 0 (first f.tree) z (file_events f) (omega arith) (events_order (file_context z) f.tree (derives_laid (kinds l.tokens) f.tree category.File read.tree.derives))

    -- ---- what it declares

    module _ (among : List Found) where
      abbrev find : Declaration → Found
      find d = record { file = n; name = word l d.name; place = bytes_at n l d.name; it = d }

      abbrev found : List Event → List Found
      found es = shared (new_among among (found_in n l es))

      abbrev listed : List Told → List Found
      listed ts = head_declared n w (map (placed m) ts)

      unless_reused : (b c : Bool) → not b && not (false && c) ≡ not b
      unless_reused true c = refl
      unless_reused false c = refl

      new_by : (d : Declaration) → d.manner ≡ manner.Declared → is_new among (find d) ≡ not (is_blank (word l d.name))
      new_by d e =
          ap (λ x. not (is_blank (word l d.name)) && not (may_be_reused x && is_reused (find d) among)) e
          ∙ unless_reused (is_blank (word l d.name)) (is_reused (find d) among)

      module _ (d : Declaration) (es : List Event) (lt : d.name < z) (rest : DeclaresSo (found es) (listed (told p es))) where
        local : (b : Bool) → is_package d.block ≡ false → DeclaresSo (shared (if b then find d ∷ new_among among (found_in n l es) else new_among among (found_in n l es))) (listed (told p es))
        local false e = rest
        local true e = subst (λ xs. DeclaresSo xs (listed (told p es))) (sym (ap (λ c. if c then find d ∷ found es else found es) e)) rest

        outer : is_package d.block ≡ true → p d.name ≡ false → SourceOut p d.source → (c : Bool) → is_blank (word l d.name) ≡ c
            → DeclaresSo (shared (if not c then find d ∷ new_among among (found_in n l es) else new_among among (found_in n l es))) (listed (declares (new_name d) ∷ told p es))
        outer b e h true x =
            let blank : is_blank (w (m d.name)) ≡ true = ap is_blank (text d.name lt e) ∙ x in
            subst (DeclaresSo (found es)) (sym (ap (λ c. if c then listed (told p es) else head_found n w (record (new_name d) { name = m d.name; source = place_of m d.source }) ∷ listed (told p es)) blank)) rest
        outer b e h false x =
            let blank : is_blank (w (m d.name)) ≡ false = ap is_blank (text d.name lt e) ∙ x in
            let it : Found = head_found n w (record (new_name d) { name = m d.name; source = place_of m d.source }) in
            let first : at_head fs (find d) ≡ it = ap (λ t. let y : Found = record it { name = t } in y) (sym (text d.name lt e)) in
            subst (λ xs. DeclaresSo xs (listed (declares (new_name d) ∷ told p es))) (sym (ap (λ c. if c then find d ∷ found es else found es) b))
            (subst (DeclaresSo (find d ∷ found es)) (sym (ap (λ c. if c then listed (told p es) else it ∷ listed (told p es)) blank))
            (record { same = ap (λ y. y ∷ map (at_head fs) (found es)) first ∙ ap (λ ys. it ∷ ys) rest.same; out = (record { name = e; source = h }, rest.out) }))

        one : (b : Bool) → is_package d.block ≡ b → (is_package d.block ≡ true → (d.manner ≡ manner.Declared) × (p d.name ≡ false)) → (p d.name ≡ false → SourceOut p d.source)
            → DeclaresSo (found (event.Declaration d ∷ es)) (listed (if b && not (p d.name) then declares (new_name d) ∷ told p es else told p es))
        one false e h g = local (is_new among (find d)) e
        one true e h g =
            let at = h e in
            subst (λ c. DeclaresSo (found (event.Declaration d ∷ es)) (listed (if not c then declares (new_name d) ∷ told p es else told p es))) (sym at.1)
            (subst (λ c. DeclaresSo (shared (if c then find d ∷ new_among among (found_in n l es) else new_among among (found_in n l es))) (listed (declares (new_name d) ∷ told p es))) (sym (new_by d at.0))
            (outer e at.1 (g at.1) (is_blank (word l d.name)) refl))

      used_aside : (b : Bool) (u : Use) (xs : List Told) → listed (if b then xs else asks (asked_name u) ∷ xs) ≡ listed xs
      used_aside true u xs = refl
      used_aside false u xs = refl

      declares_so : (es : List Event) → Agreed p es → EachDeclared (IsHeaded (kinds l.tokens) p) es → NamesIn 0 z es → DeclaresSo (found es) (listed (told p es))
      declares_so [] g h k = record { same = refl; out = tt }
      declares_so (event.Declaration d ∷ es) g h k = one d es k.1 (declares_so es g.1 h.1 k.2) (is_package d.block) refl h.0 g.0
      declares_so (event.Use u ∷ es) g h k = subst (DeclaresSo (found es)) (sym (used_aside (p u.name) u (told p es))) (declares_so es g.1 h k.2)
      declares_so (event.Import i ∷ es) g h k = declares_so es g h k
      declares_so (event.Member a c i ∷ es) g h k = declares_so es g h k
      declares_so (event.Bodiless i j ∷ es) g h k = declares_so es g h k
      declares_so (event.Statement i j ∷ es) g h k = declares_so es g h k
      declares_so (event.Misplaced i j ∷ es) g h k = declares_so es g h k
      declares_so (event.SecondDefault i ∷ es) g h k = declares_so es g h k

      pub file_declares : DeclaresSo (found (file_events f)) (head_declared n w (told_outside f))
      file_declares = declares_so (file_events f) (file_agreed (kinds l.tokens) f.tree read.tree) (file_headed (kinds l.tokens) f.tree read.tree) names_in

    -- ---- what its names need

    module _ (ms : List Meaning) (call : List ℕ → Option Found) (called : (t : ℕ) (v : List ℕ) → bodies fs n t ≡ false → CallsSo (call v) (source_of (meaning_at ms n t v))) where
      abbrev asked_way : Needed → Site → Option Bool
      asked_way x s = if_so (nat_eq n x.it.file) (way x.it.it x.full s)

      no_way : (x : Needed) (s : Site) → IsOut fs x.it → SiteSays p true s → asked_way x s ≡ None
      no_way x s o h = by (nat_eq n x.it.file) refl
        where
          by : (b : Bool) → nat_eq n x.it.file ≡ b → if_so b (way x.it.it x.full s) ≡ None
          by true e = way_none p x.it.it.source x.it.it.column x.full s h (subst (λ i. SourceOut (bodies fs i) x.it.it.source) (sym (same_test n x.it.file e)) o.source)
          by false e = refl

      ways_same : (x : Needed) (s : Site) → IsOut fs x.it → SiteSays p false s → asked_way (need_at_head fs x) (site_of m s) ≡ asked_way x s
      ways_same x s o h = by (nat_eq n x.it.file) refl
        where
          by : (b : Bool) → nat_eq n x.it.file ≡ b → if_so b (way_by (place_of (place_at fs x.it.file) x.it.it.source) x.it.it.column x.full (site_of m s)) ≡ if_so b (way x.it.it x.full s)
          by false e = refl
          by true e =
              ap (λ i. way_by (place_of (place_at fs i) x.it.it.source) x.it.it.column x.full (site_of m s)) (sym (same_test n x.it.file e))
              ∙ way_placed p x.it.it.source x.it.it.column x.full s h (subst (λ i. SourceOut (bodies fs i) x.it.it.source) (sym (same_test n x.it.file e)) o.source)

      abbrev was : List Event → List Asked
      was es = asked_in ms n l es

      abbrev is : List Told → List Asked
      is ts = head_asks n w call (map (placed m) ts)

      -- a name in front of others
      module _ (x : Needed) (o : IsOut fs x.it) (u : Use) (es : List Event) (lt : u.name < z) (rest : NeedsSo fs (was es) (is (told p es)) x) where
        in_body : SiteSays p true u.site → (c : Bool) → NeedsSo fs (if c then was es else asked ms n l u ∷ was es) (is (told p es)) x
        in_body h true = rest
        in_body h false =
            let nothing : needs (asked ms n l u ∷ was es) x ≡ needs (was es) x = ap (λ y. needed_meaning y (meaning_at ms n u.name (word l u.name)) (needs (was es) x)) (no_way x u.site o h) in
            record { same = rest.same ∙ ap (map (need_at_head fs)) (sym nothing); out = subst (AreOut fs) (sym nothing) rest.out }

        outside : p u.name ≡ false → SiteSays p false u.site → (c : Bool) → is_blank (word l u.name) ≡ c → NeedsSo fs (if c then was es else asked ms n l u ∷ was es) (is (asks (asked_name u) ∷ told p es)) x
        outside e h true b =
            let blank : is_blank (w (m u.name)) ≡ true = ap is_blank (text u.name lt e) ∙ b in
            subst (λ ys. NeedsSo fs (was es) ys x) (sym (ap (λ c. if c then is (told p es) else head_ask n w call (record (asked_name u) { name = m u.name; site = site_of m u.site }) ∷ is (told p es)) blank)) rest
        outside e h false b =
            let blank : is_blank (w (m u.name)) ≡ false = ap is_blank (text u.name lt e) ∙ b in
            let v : List ℕ = word l u.name in
            let source : Option Found = source_of (meaning_at ms n u.name v) in
            let it : CallsSo (call v) source = called u.name v e in
            let others : List Needed = needs (is (told p es)) (need_at_head fs x) in
            let old : List Needed = needs (was es) x in
            let y : Option Bool = asked_way x u.site in
            let own : needs (asked ms n l u ∷ was es) x ≡ adds y source old = adds_meaning y (meaning_at ms n u.name v) old in
            record {
              same =
                  ap (λ c. needs (if c then is (told p es) else head_ask n w call (record (asked_name u) { name = m u.name; site = site_of m u.site }) ∷ is (told p es)) (need_at_head fs x)) blank
                  ∙ ap (λ a. needed_meaning a (calls (call (w (m u.name)))) others) (ways_same x u.site o h)
                  ∙ ap (λ a. needed_meaning y (calls (call a)) others) (text u.name lt e)
                  ∙ adds_meaning y (calls (call v)) others
                  ∙ ap (λ a. adds y a others) (source_calls (call v) ∙ sym it.same)
                  ∙ ap (adds y (option_map (at_head fs) source)) rest.same
                  ∙ adds_at_head y source old
                  ∙ ap (map (need_at_head fs)) (sym own);
              out = subst (AreOut fs) (sym own) (adds_out y source old it.out rest.out);
            }

        one_use : (b : Bool) → p u.name ≡ b → SiteSays p b u.site → NeedsSo fs (was (event.Use u ∷ es)) (is (if b then told p es else asks (asked_name u) ∷ told p es)) x
        one_use true e h = in_body h (is_blank (word l u.name))
        one_use false e h = outside e h (is_blank (word l u.name)) refl

      declared_aside : (b : Bool) (d : Declaration) (xs : List Told) → is (if b then declares (new_name d) ∷ xs else xs) ≡ is xs
      declared_aside true d xs = refl
      declared_aside false d xs = refl

      needs_so : (x : Needed) → IsOut fs x.it → (es : List Event) → Agreed p es → NamesIn 0 z es → NeedsSo fs (was es) (is (told p es)) x
      needs_so x o [] g h = record { same = refl; out = tt }
      needs_so x o (event.Use u ∷ es) g h = one_use x o u es h.1 (needs_so x o es g.1 h.2) (p u.name) refl g.0
      needs_so x o (event.Declaration d ∷ es) g h = subst (λ ys. NeedsSo fs (was es) ys x) (sym (declared_aside (is_package d.block && not (p d.name)) d (told p es))) (needs_so x o es g.1 h.2)
      needs_so x o (event.Import i ∷ es) g h = needs_so x o es g h
      needs_so x o (event.Member a c i ∷ es) g h = needs_so x o es g h
      needs_so x o (event.Bodiless i j ∷ es) g h = needs_so x o es g h
      needs_so x o (event.Statement i j ∷ es) g h = needs_so x o es g h
      needs_so x o (event.Misplaced i j ∷ es) g h = needs_so x o es g h
      needs_so x o (event.SecondDefault i ∷ es) g h = needs_so x o es g h

      pub file_needs : (x : Needed) → IsOut fs x.it → NeedsSo fs (was (file_events f)) (head_asks n w call (told_outside f)) x
      file_needs x o = needs_so x o (file_events f) (file_agreed (kinds l.tokens) f.tree read.tree) names_in

  -- ---- all files

  pub all_declare : (among : List Found) (n : ℕ) (gs : List File) → StandFrom fs n gs → AreRead gs → DeclaresSo (shared (new_among among (found_from n (units_of gs)))) (heads_declared n gs)
  all_declare among n [] s h = record { same = refl; out = tt }
  all_declare among n (g ∷ gs) s h =
      let rest = all_declare among (suc n) gs s.1 h.1 in
      let one : DeclaresSo (shared (new_among among (found_in n g.tokens (file_events g)))) (head_declared n (text_in_head (head_of g)) (told_outside g)) =
      subst (λ (x : File). DeclaresSo (shared (new_among among (found_in n x.tokens (file_events x)))) (head_declared n (text_in_head (head_of x)) (told_outside x))) s.0 (file_declares n (subst IsRead (sym s.0) h.0) among) in
      let front : List Found = shared (new_among among (found_in n g.tokens (file_events g))) in
      let behind : List Found = shared (new_among among (found_from (suc n) (units_of gs))) in
      let whole : shared (new_among among (found_in n g.tokens (file_events g) ++ found_from (suc n) (units_of gs))) ≡ front ++ behind =
      ap shared (new_append among (found_in n g.tokens (file_events g)) (found_from (suc n) (units_of gs))) ∙ shared_append (new_among among (found_in n g.tokens (file_events g))) (new_among among (found_from (suc n) (units_of gs))) in
      record {
        same =
            ap (map (at_head fs)) whole ∙ map_append (at_head fs) front behind ∙ ap (λ ys. ys ++ map (at_head fs) behind) one.same
            ∙ ap (λ ys. head_declared n (text_in_head (head_of g)) (told_outside g) ++ ys) rest.same;
        out = subst (Every (IsOut fs)) (sym whole) (every_append (IsOut fs) front behind one.out rest.out);
      }
    where
      shared_append : (xs ys : List Found) → shared (xs ++ ys) ≡ shared xs ++ shared ys
      shared_append [] ys = refl
      shared_append (d ∷ xs) ys = by (is_package d.it.block) (shared_append xs ys)
        where
          by : (b : Bool) → shared (xs ++ ys) ≡ shared xs ++ shared ys → (if b then d ∷ shared (xs ++ ys) else shared (xs ++ ys)) ≡ (if b then d ∷ shared xs else shared xs) ++ shared ys
          by true e = ap (λ zs. d ∷ zs) e
          by false e = e

  module _ (ms : List Meaning) (call : ℕ → List ℕ → Option Found) (called : (n t : ℕ) (v : List ℕ) → bodies fs n t ≡ false → CallsSo (call n v) (source_of (meaning_at ms n t v))) where
    pub all_needs : (x : Needed) → IsOut fs x.it → (n : ℕ) (gs : List File) → StandFrom fs n gs → AreRead gs → NeedsSo fs (asked_from ms n (units_of gs)) (head_asked call n gs) x
    all_needs x o n [] s h = record { same = refl; out = tt }
    all_needs x o n (g ∷ gs) s h =
        let rest = all_needs x o (suc n) gs s.1 h.1 in
        let one : NeedsSo fs (asked_in ms n g.tokens (file_events g)) (head_asks n (text_in_head (head_of g)) (call n) (told_outside g)) x =
        subst (λ (y : File). NeedsSo fs (asked_in ms n y.tokens (file_events y)) (head_asks n (text_in_head (head_of y)) (call n) (told_outside y)) x) s.0 (file_needs n (subst IsRead (sym s.0) h.0) ms (call n) (called n) x o) in
        let front : List Asked = asked_in ms n g.tokens (file_events g) in
        let behind : List Asked = asked_from ms (suc n) (units_of gs) in
        let here : List Asked = head_asks n (text_in_head (head_of g)) (call n) (told_outside g) in
        let there : List Asked = head_asked call (suc n) gs in
        let whole : needs (front ++ behind) x ≡ needs front x ++ needs behind x = needs_both front behind x in
        record {
          same =
              needs_both here there (need_at_head fs x) ∙ ap (λ ys. ys ++ needs there (need_at_head fs x)) one.same ∙ ap (λ ys. map (need_at_head fs) (needs front x) ++ ys) rest.same
              ∙ sym (map_append (need_at_head fs) (needs front x) (needs behind x)) ∙ ap (map (need_at_head fs)) (sym whole);
          out = subst (AreOut fs) (sym whole) (every_append (λ y. IsOut fs y.it) (needs front x) (needs behind x) one.out rest.out);
        }
